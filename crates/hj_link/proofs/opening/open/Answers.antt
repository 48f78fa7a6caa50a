use Rattle.std.proofs.Common.{All, rules, ap, refl, subst, sym}
use Rattle.std.proofs.lemmas.List.Elements.{All-push}
use Rattle.hj_link.specs.declared.table.MessageSlot.TheVariants.{Empty}
use Rattle.hj_link.specs.Flow.{IsEmpty}
use Rattle.hj_link.proofs.Seats.{starts, splits}
use Rattle.hj_link.proofs.opening.open.Goals as goal

pub loop-preserved : goal.loop-preserved
loop-preserved g c = (
  search rules,
  search rules,
  search rules,
  search rules,
  subst (All IsEmpty) (sym c.push_reserved.ensures.items) (All-push IsEmpty c.loop.slots.items (Empty c.of.result) c.loop.invariant.4 (c.of.result, refl)),
)

pub new-requires : goal.new-requires
new-requires g c = starts _ _ _ c.loop.invariant.4 c.requires.0 (search rules) (search rules) (search rules) (search rules) (search rules) (search rules)

pub split_seat-right-requires : goal.split_seat-right-requires
split_seat-right-requires g c = let ok = c.in-Ok.ensures.ok in
    (search rules, search rules, splits _ _ c.in-Ok.left.me.0 (ap (λ m. m.0.has_left) ok.4) (ap (λ m. m.0.has_right) ok.4))
