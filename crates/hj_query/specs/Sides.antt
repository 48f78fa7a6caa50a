-- What each of the two sides has.
use Rattle.hj_base.specs.declared.numbers.Side.{Side}
use Rattle.hj_base.specs.declared.numbers.Side.TheVariants as side
use Rattle.std.specs.Prelude.{List}
use Rattle.hj_value.specs.declared.column.Column.{Column}
use Rattle.hj_query.specs.declared.schemas.Schemas.{Schemas}

abbrev pub by_side : {A : Type 0} → A → A → Side → A
by_side left right side.Left = left
by_side left right side.Right = right

-- the columns of each side
abbrev pub columns_in : Schemas → Side → List Column
columns_in schemas = by_side schemas.left.columns schemas.right.columns
