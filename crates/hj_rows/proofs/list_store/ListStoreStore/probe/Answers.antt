use Rattle.std.proofs.Common.{[], ◌∷◌, ◌++◌, sym, ap, ◌∙◌}
use Rattle.hj_msg.specs.Store.{joins}
use Rattle.hj_rows.proofs.Probes.{partner, finds-nothing, finds-pushed, none-above}
use Rattle.hj_rows.proofs.list_store.ListStoreStore.probe.Goals as goal

pub loop-no-init : goal.loop-no-init
loop-no-init g c = (
  finds-nothing (λ row. joins (g.J.Join.predicate c.args.join.now) c.args.side row c.args.against.now) c.args.found.now c.into_iter-no-iterator.result c.args.self.now.rows.places.entries
      c.requires.empty c.into_iter-no-iterator.ensures.into_iter_gives.0,
  none-above c.args.found.now 0 c.requires.empty,
)

pub loop-no-preserved-in-Some-joining_row : goal.loop-no-preserved-in-Some-joining_row
loop-no-preserved-in-Some-joining_row g c =
    finds-pushed (λ row. joins (g.J.Join.predicate c.args.join.now) c.args.side row c.args.against.now) _ c.loop-no.found c.push.new.self c.in-Some.no.now c.loop-no.last c.in-Some.place.now c.loop-no.no-iterator c.next.new.self
    c.in-Some-joining_row.row.now (sym c.in-Some-joining_row.ensures) c.in-Some.ensures.steps c.loop-no.invariant.0 c.loop-no.invariant.1 c.if-no-last.false
    (c.in_ok-push.ensures.ok ∙ ap (λ row. c.loop-no.found ++ partner c.in-Some.no.now row ∷ []) c.in_ok-share.ensures)
