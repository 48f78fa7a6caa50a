-- What a query is made of.
use Rattle.std.specs.Prelude.{ℕ}
use Rattle.hj_base.specs.declared.numbers.Window.{Window}
use Rattle.hj_value.specs.declared.schema.Schema.{Schema}
use Rattle.hj_query.specs.declared.pred.Pred.{Pred}

pub record QueryParts : Type 0 where
  pub left : Schema
  pub right : Schema
  pub left_window : Window
  pub right_window : Window
  pub slack : ℕ
  pub quiet : ℕ
  pub pred : Pred
