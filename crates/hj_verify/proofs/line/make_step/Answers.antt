use Rattle.std.proofs.Common.{◌≡◌, ◌++◌, ℕ, List, ap, ◌∙◌, refl}
use Rattle.hj_eval.specs.Holds.{holds}
use Rattle.hj_trace.specs.Line.{said}
use Rattle.hj_verify.proofs.Made.{if_ok, makes_none, makes_on}
use Rattle.hj_verify.proofs.line.make_step.Goals as goal

pub returns-in-Did-clause-makes : goal.returns-in-Did-clause-makes
returns-in-Did-clause-makes g c =
    let plays = c.in-Did.ensures.plays in
    let says = said (holds c.args.chain.now.join) c.args.chain.now.state c.args.actor in
    let made : c.play.new.line.items ≡ c.clear.new.self.items ++ says = plays.1 in
    makes_on {O = g.row.O.Denot} {outside = g.O.Outside} c.args.number c.args.actor c.args.chain.now c.play.new.chain c.args.feed.now c.play.new.feed c.play.new.line.items c.go_on.result c.go_on.ensures plays.0 (c.in-Did.ensures.gathers refl)
    (made ∙ ap (λ (l : List ℕ). l ++ says) c.clear.ensures.items)

pub returns-in-Did-clause-answers : goal.returns-in-Did-clause-answers
returns-in-Did-clause-answers g c = if_ok c.go_on.result (c.in-Did.ensures.answers refl)

pub returns-in-Memory-clause-makes : goal.returns-in-Memory-clause-makes
returns-in-Memory-clause-makes g c = makes_none {O = g.row.O.Denot} {outside = g.O.Outside} c.args.number c.args.actor c.args.chain.now c.play.new.chain c.args.feed.now c.play.new.feed c.play.new.line.items c.given_up.result c.given_up.ensures
