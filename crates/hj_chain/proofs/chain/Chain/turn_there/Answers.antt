use Rattle.std.proofs.Common.{sym, ap, ◌∙◌}
use Rattle.hj_chain.specs.Chain.{Contents}
use Rattle.hj_chain.proofs.Opening.{in_cores, in_links_next, in_reports, turning-begins}
use Rattle.hj_chain.proofs.chain.Chain.turn_there.Goals as goal

pub is_queue_full-requires : goal.is_queue_full-requires
is_queue_full-requires g c =
    in_reports g.J.Join.predicate _ _ c.self.view_is c.requires.going c.from-place.result
    (in_cores g.J.Join.predicate _ _ c.self.view_is c.requires.going c.from-place.result c.args.core.0 c.from-place.ensures c.requires.within)

pub incoming-requires : goal.incoming-requires
incoming-requires g c =
    in_links_next g.J.Join.predicate _ _ c.self.view_is c.requires.going c.from-place.result
    (in_cores g.J.Join.predicate _ _ c.self.view_is c.requires.going c.from-place.result c.args.core.0 c.from-place.ensures c.requires.within)

pub take_in-requires : goal.take_in-requires
take_in-requires g c =
    in_links_next g.J.Join.predicate _ _ c.self.view_is c.requires.going c.from-place.result
    (in_cores g.J.Join.predicate _ _ c.self.view_is c.requires.going c.from-place.result c.args.core.0 c.from-place.ensures c.requires.within)

pub handle_taken-requires : goal.handle_taken-requires
handle_taken-requires g c = record {
  taken = (
    c.args.self.now,
    turning-begins g.J.Join.predicate _ _ c.self.view_is c.requires.going c.args.core c.args.end c.from-place.result c.in-Some.msg c.self.inside.reports.capacity c.take_in.new.self c.from-place.ensures c.requires.within c.self.invariant.capacity
        (sym c.is_queue_full.ensures ∙ c.if-is_queue_full.false) (sym c.take_in.ensures.first ∙ c.in-Some.is) c.take_in.ensures.rest,
  );
}

pub returns-clause-step : goal.returns-clause-step
returns-clause-step g c =
    c.handle_taken.ensures.step c.args.self.now
    (turning-begins g.J.Join.predicate _ _ c.self.view_is c.requires.going c.args.core c.args.end c.from-place.result c.in-Some.msg c.self.inside.reports.capacity c.take_in.new.self c.from-place.ensures c.requires.within c.self.invariant.capacity
    (sym c.is_queue_full.ensures ∙ c.if-is_queue_full.false) (sym c.take_in.ensures.first ∙ c.in-Some.is) c.take_in.ensures.rest)

pub returns-clause-others : goal.returns-clause-others
returns-clause-others g c =
    c.handle_taken.ensures.others ∙ ap (λ (k : Contents g.row.P.Denot g.row.J.Denot). record k { state = c.handle_taken.new.self.state }) c.self.view_is
