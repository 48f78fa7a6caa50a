use Rattle.std.proofs.Common.{List, ◌+◌, nat_eq, not, refl, sym, ap, subst, ◌∙◌, arith}
use Rattle.std.specs.HashMap.{get}
use Rattle.hj_index.specs.declared.chains.RowPlace.{RowPlace}
use Rattle.hj_index.proofs.ChainSweeps.{linking-dropped, linking-known, linking-moved, linking-starts, none-here, Linking}
use Rattle.hj_index.proofs.chains.KeyChains.link_all.Goals as goal

pub loop-place-init : goal.loop-place-init
loop-place-init c =
    (linking-starts c.args.self.now.own c.args.self.now.places.items c.args.self.now.is_ascending (get nat_eq c.args.self.now.last) c.requires.first c.requires.known c.requires.keyed c.requires.ascending, refl, c.requires.base, c.requires.empty, refl)

pub loop-place-preserved-then-is_none : goal.loop-place-preserved-then-is_none
loop-place-preserved-then-is_none c =
    let s = c.loop-place.self in
    let start = c.args.self.now.places in (
      linking-dropped s.own start.items s.is_ascending s.places.items (get nat_eq s.last) c.loop-place.count c.loop-place._place c.loop-place.invariant.0 (omega (arith, c.loop-place-test.true, c.len-place-end.ensures, start.ok.0))
          c.in-Some.place c.pop_front.new.self.items c.in-Some.ensures.items (none-here c.in-Some.place.rest (c.is_none.ensures ∙ ap not c.if-is_none.true)),
      c.loop-place.invariant.1,
      c.loop-place.invariant.2,
      c.loop-place.invariant.3,
      c.loop-place.invariant.4,
    )

pub move_last-before-requires : goal.move_last-before-requires
move_last-before-requires c =
    let s = c.loop-place.self in
    let start = c.args.self.now.places in
    linking-known s.own start.items s.is_ascending s.places.items (get nat_eq s.last) c.loop-place.count c.loop-place._place c.loop-place.invariant.0 (omega (arith, c.loop-place-test.true, c.len-place-end.ensures, start.ok.0))
    c.in-Some.place c.pop_front.new.self.items c.in-Some.ensures.items

pub loop-place-preserved : goal.loop-place-preserved
loop-place-preserved c =
    let s = c.loop-place.self in
    let start = c.args.self.now.places in (
      subst (λ items. Linking s.own start.items s.is_ascending items (get nat_eq c.move_last-before.new.last) (c.loop-place.count + 1) (c.loop-place._place + 1)) (sym {A = List RowPlace} c.push_back_reserved.ensures.items)
          (linking-moved s.own start.items s.is_ascending s.places.items (get nat_eq s.last) c.loop-place.count c.loop-place._place c.loop-place.invariant.0 (omega (arith, c.loop-place-test.true, c.len-place-end.ensures, start.ok.0))
          c.in-Some.place c.pop_front.new.self.items c.in-Some.ensures.items (c.is_none.ensures ∙ ap not c.if-is_none.false)
          _ (get nat_eq c.move_last-before.new.last) refl refl refl c.move_last-before.ensures.before c.move_last-before.ensures.last),
      c.loop-place.invariant.1,
      c.loop-place.invariant.2,
      c.loop-place.invariant.3,
      c.loop-place.invariant.4,
    )
