use Rattle.std.proofs.Common.{◌≡◌, ◌-◌, [], ◌∷◌, length, filter, Bool, sym, subst, arith}
use Rattle.std.specs.List.{slice_get}
use Rattle.hj_chain.specs.declared.actor.Actor.TheVariants.{Admit}
use Rattle.hj_chain.specs.Serial.{from_there_on, in_turn, is_enabled, others}
use Rattle.hj_chain.proofs.Looking.{first-behind, first-round, turned}
use Rattle.hj_chain.proofs.chain.Chain.first_from.Goals as goal

pub returns-in-None : goal.returns-in-None
returns-in-None g c =
    let n = length c.args.self.now.state.cores in
    let test = is_enabled c.args.self.now.state in
    let same = turned Admit (others n) c.args.place c.max.result (omega (arith, c.max.ensures)) in
    subst (λ (waits : Bool). c.first_enabled.result ≡ slice_get (filter test (in_turn n waits c.args.place)) 0) (sym c.if-not-waits.false)
    (first-round test _ (from_there_on (c.args.place - 1) (others n)) (Admit ∷ []) c.first_round-2.result c.first_enabled.result same c.first_round-2.ensures c.in-None.is c.first_enabled.ensures)

pub returns-in_default : goal.returns-in_default
returns-in_default g c =
    let n = length c.args.self.now.state.cores in
    let test = is_enabled c.args.self.now.state in
    let same = turned Admit (others n) c.args.place c.max.result (omega (arith, c.max.ensures)) in
    subst (λ (waits : Bool). c.first_round-2.result ≡ slice_get (filter test (in_turn n waits c.args.place)) 0) (sym c.if-not-waits.false)
    (first-behind test _ (from_there_on (c.args.place - 1) (others n)) (Admit ∷ []) c.first_round-2.result same c.first_round-2.ensures c.in_default.not-None)
