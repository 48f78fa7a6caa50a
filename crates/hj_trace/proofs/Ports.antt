-- What begins with the letter of a port is the text of a port, or of no actor.
use Rattle.std.proofs.Common.{◌≡◌, ℕ, List, ◌-◌, drop, take, length, get_or, ap, ◌∙◌, arith}
use Rattle.hj_base.specs.declared.numbers.Side.{Side}
use Rattle.hj_base.specs.declared.numbers.Side.TheVariants.{Left, Right}
use Rattle.hj_chain.specs.declared.actor.Actor.{Actor}
use Rattle.hj_chain.specs.declared.actor.Actor.TheVariants.{Admit, PortLeft, PortRight, Core, Collect}
use Rattle.hj_trace.specs.Actors.{actor_text, end_text}

pub no_port : (text rest : List ℕ) → get_or text 0 0 ≡ 80 → rest ≡ take (length text - 1) (drop 1 text) → ((end : Side) → rest ≡ end_text end → ⊥) → (actor : Actor) → text ≡ actor_text actor → ⊥
no_port text rest kind is none Admit e = omega (arith, ap (λ (l : List ℕ). get_or l 0 0) e)
no_port text rest kind is none PortLeft e = none Left (is ∙ ap (λ (l : List ℕ). take (length l - 1) (drop 1 l)) e)
no_port text rest kind is none PortRight e = none Right (is ∙ ap (λ (l : List ℕ). take (length l - 1) (drop 1 l)) e)
no_port text rest kind is none (Core place end) e = omega (arith, ap (λ (l : List ℕ). get_or l 0 0) e)
no_port text rest kind is none (Collect place) e = omega (arith, ap (λ (l : List ℕ). get_or l 0 0) e)
