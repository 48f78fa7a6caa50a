use Rattle.std.proofs.Common.{Ok, refl, subst, ◌∙◌}
use Rattle.std.proofs.lemmas.Result.{err_from_is_err_and}
use Rattle.hj_base.specs.Outside.{role_of}
use Rattle.hj_event.specs.declared.stop.ReadStep.{ReadStep}
use Rattle.hj_event.specs.Taking.{SideGoesOn}
use Rattle.hj_event.proofs.SourceLemmas.{so_far-none, so_far-no_record, so_far-more, so_far-filled, takes_stop, takes_failed}
use Rattle.hj_event.proofs.row_source.RowSource.next_row.Goals.{in-NoRecord, in-More+in_ok-fill-in-More}
use Rattle.hj_event.proofs.row_source.RowSource.next_row.Goals as goal

pub loop-init : goal.loop-init
loop-init g c = record {
  so_far = so_far-none c.args.self.now (g.O.Outside.state c.args.outside.now (role_of c.args.side)) c.requires;
  others = λ other differs. refl;
  names = λ name. refl;
}

pub returns-in_err-row-clause-takes : goal.returns-in_err-row-clause-takes
returns-in_err-row-clause-takes g c =
    let p = err_from_is_err_and c.from_residual.result c.from_residual.ensures.1 in
    rw (p.1, p.2)
    (takes_stop c.args.self.now c.loop.self c.go_on.new.self (g.O.Outside.state c.args.outside.now (role_of c.args.side)) (g.O.Outside.state c.loop.outside (role_of c.args.side)) c.loop.invariant.so_far c.in_err-row.field-0.0 c.in_err-row.ensures)

pub returns-in_err-fill-in-More-clause-takes : goal.returns-in_err-fill-in-More-clause-takes
returns-in_err-fill-in-More-clause-takes g c =
    let before = g.O.Outside.state c.args.outside.now (role_of c.args.side) in
    let between = g.O.Outside.state c.loop.outside (role_of c.args.side) in
    let p = err_from_is_err_and c.from_residual-in_err-fill-in-More.result c.from_residual-in_err-fill-in-More.ensures.1 in
    let more = subst (λ (f : ReadStep). SideGoesOn (Ok f) c.loop.self c.go_on.new.self) c.in-More.is c.in_ok-row.ensures in
    rw (p.1, p.2)
    (takes_failed c.args.self.now c.go_on.new.self c.fill.new.self before between (g.O.Outside.state c.fill.new.outside (role_of c.args.side))
    (so_far-more c.args.self.now c.loop.self c.go_on.new.self before between c.loop.invariant.so_far more) more.wants.0 more.wants.1 c.in_err-fill-in-More.ensures.same
    c.in_err-fill-in-More.field-0.0 more.wants.2 c.in_err-fill-in-More.ensures.fills)

pub loop-preserved : goal.loop-preserved
loop-preserved g c =
    let before = g.O.Outside.state c.args.outside.now (role_of c.args.side) in
    let between = g.O.Outside.state c.loop.outside (role_of c.args.side) in
    elim c.match-branch-2.branch [
      | in-NoRecord w ↦ rw (w.self-is, w.outside-is) (record {
        so_far = so_far-no_record c.args.self.now c.loop.self c.go_on.new.self before between c.loop.invariant.so_far (subst (λ (f : ReadStep). SideGoesOn (Ok f) c.loop.self c.go_on.new.self) w.in-NoRecord.is c.in_ok-row.ensures);
        others = c.loop.invariant.others;
        names = c.loop.invariant.names;
      })
      | in-More+in_ok-fill-in-More w ↦
          let more = subst (λ (f : ReadStep). SideGoesOn (Ok f) c.loop.self c.go_on.new.self) w.in-More.is c.in_ok-row.ensures in
          rw (w.self-is, w.outside-is) (record {
            so_far = so_far-filled c.args.self.now c.go_on.new.self w.fill.new.self before between (g.O.Outside.state w.fill.new.outside (role_of c.args.side))
                (so_far-more c.args.self.now c.loop.self c.go_on.new.self before between c.loop.invariant.so_far more) more.wants.0 more.wants.1 w.in_ok-fill-in-More.ensures.same
                w.in_ok-fill-in-More.field-0 more.wants.2 w.in_ok-fill-in-More.ensures.fills;
            others = λ other differs. w.fill.ensures.others other differs ∙ c.loop.invariant.others other differs;
            names = λ name. w.fill.ensures.names name ∙ c.loop.invariant.names name;
          })
    ]
