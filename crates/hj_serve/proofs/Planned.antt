-- What an order says of a trace and of two joins, by the parts of it.
use Rattle.std.proofs.Common.{◌≡◌, ◌∙◌, ap, ℕ, Option}
use Rattle.hj_chain.specs.declared.serial.Chooser.{Chooser}
use Rattle.hj_opening.specs.declared.source.JoinOrder.{JoinOrder}
use Rattle.hj_opening.specs.Orders.{join_seen}
use Rattle.hj_opening.specs.Words.{ChainShape, Order, step_lines}
use Rattle.hj_serve.specs.OrderPlan.{TwiceShape}
use Rattle.hj_serve.specs.Serial.{SerialChain}

pub same_trace : (join : JoinOrder) (chain chain' : ChainShape) (rule rule' : Chooser) (order : Order) → chain ≡ chain' → rule ≡ rule' → join_seen (step_lines chain' rule') join ≡ order → join_seen (step_lines chain rule) join ≡ order
same_trace join chain chain' rule rule' order same so is = ap (λ (c : ChainShape). join_seen (step_lines c rule) join) same ∙ ap (λ (r : Chooser). join_seen (step_lines chain' r) join) so ∙ is

abbrev shape_of : Option ChainShape → ℕ → Option SerialChain → TwiceShape
shape_of crew threads serial = record { crew = crew; threads = threads; serial = serial }

pub same_shape : (crew crew' : Option ChainShape) (threads threads' : ℕ) (serial serial' : Option SerialChain) → crew ≡ crew' → threads ≡ threads' → serial ≡ serial' → shape_of crew threads serial ≡ shape_of crew' threads' serial'
same_shape crew crew' threads threads' serial serial' crews counts serials =
    ap (λ (c : Option ChainShape). shape_of c threads serial) crews ∙ ap (λ (t : ℕ). shape_of crew' t serial) counts ∙ ap (λ (s : Option SerialChain). shape_of crew' threads' s) serials
