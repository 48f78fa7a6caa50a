-- What the reading of a command's words answers.
use Rattle.std.specs.Prelude.{◌≡◌, IfOk, IfErr, Option, Some, None, Result}
use Rattle.hj_words.specs.Ranges.{IsInRange}
use Rattle.hj_words.specs.declared.order.Order.{Order}
use Rattle.hj_words.specs.declared.order.Usage.{Usage}
use Rattle.hj_words.specs.declared.order.Usage.TheVariants as usage

-- the order that is spelled, with numbers in their ranges; `Words` only if none is spelled
pub record ReadsOrder (spelled : Option Order) (answer : Result Order Usage) : Type 0 where
  pub ok : IfOk answer (λ order. spelled ≡ Some order)
  pub ranges : IfOk answer IsInRange
  pub err : IfErr answer (λ fault. fault ≡ usage.Words → spelled ≡ None)
