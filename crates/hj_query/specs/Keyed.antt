-- The query that joins the rows of equal keys over windows of so many rows.
use Rattle.std.specs.Prelude.{◌≡◌, ℕ, List, [], ◌∷◌, codes}
use Rattle.hj_base.specs.declared.numbers.Side.TheVariants as sides
use Rattle.hj_base.specs.declared.numbers.Window.TheVariants as windows
use Rattle.hj_value.specs.declared.column.Column.{Column}
use Rattle.hj_value.specs.declared.column.ColumnType.TheVariants as types
use Rattle.hj_query.specs.declared.pred.Op.TheVariants as ops
use Rattle.hj_query.specs.declared.pred.Pred.{Compare}
use Rattle.hj_query.specs.declared.sum.Term.TheVariants as terms
use Rattle.hj_query.specs.QueryParts.{QueryParts}

-- `ts int, key int`
abbrev pub keyed_columns : List Column
keyed_columns = record { name = codes "ts"; kind = types.Int } ∷ record { name = codes "key"; kind = types.Int } ∷ []

-- `left (ts int, key int) right (ts int, key int) window left rows W window right rows W on l.key = r.key`
pub record IsEquiQuery (rows : ℕ) (query : QueryParts) : Type 0 where
  pub left : query.left.columns ≡ keyed_columns
  pub right : query.right.columns ≡ keyed_columns
  pub left_window : query.left_window ≡ windows.Rows rows
  pub right_window : query.right_window ≡ windows.Rows rows
  pub slack : query.slack ≡ 0
  pub quiet : query.quiet ≡ 0
  pub pred : query.pred ≡ Compare ops.Eq (record { first = terms.Column sides.Left 1; rest = [] }) (record { first = terms.Column sides.Right 1; rest = [] })
