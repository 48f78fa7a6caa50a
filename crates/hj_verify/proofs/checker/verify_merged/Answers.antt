use Rattle.std.proofs.Common.{◌≡◌, false, rules, sym, subst, subst₂}
use Rattle.hj_base.specs.declared.outside.Role.TheVariants as role
use Rattle.hj_event.specs.Roles.{IsInStep}
use Rattle.hj_verify.specs.Verifying.{Verifies}
use Rattle.hj_verify.proofs.checker.verify_merged.Goals as goal

pub verify_feed-requires : goal.verify_feed-requires
verify_feed-requires g c = record {
  unasked = (c.args.limit, c.new-events.ensures.unasked c.args.query.now c.requires.merger);
  trace = subst (λ (o : g.row.O.Denot). IsInStep false (g.O.Outside.state o role.Trace)) (sym c.new-events.ensures.outside) c.requires.trace;
  output = subst (λ (o : g.row.O.Denot). IsInStep false (g.O.Outside.state o role.Output)) (sym c.new-events.ensures.outside) c.requires.output;
}

pub returns-clause-verifies : goal.returns-clause-verifies
returns-clause-verifies g c =
    subst₂ (λ (before now : g.row.O.Denot). Verifies c.verify_feed.result c.args.query.now c.args.size.cores c.args.size.flight c.args.limit (g.O.Outside.state before) (g.O.Outside.state now)) c.new-events.ensures.outside (search rules)
    (c.verify_feed.ensures.verifies c.args.limit (c.new-events.ensures.unasked c.args.query.now c.requires.merger))

pub returns-clause-names : goal.returns-clause-names
returns-clause-names g c = λ name.
    subst₂ (λ (before now : g.row.O.Denot). g.O.Outside.under now name ≡ g.O.Outside.under before name) c.new-events.ensures.outside (search rules) (c.verify_feed.ensures.outside.names name)
