use Rattle.std.proofs.Common.{◌≡◌, ◌≤◌, List, [], ◌∷◌, ◌++◌, length, IsTrue, codes, sym, subst, ap, ◌∙◌, lit≤, refl}
use Rattle.hj_value.specs.Schema.{has_distinct_names, starts_with_time}
use Rattle.hj_value.specs.declared.column.Column.{Column}
use Rattle.hj_value.specs.declared.column.ColumnType.TheVariants as kind
use Rattle.hj_part_tests.proofs.values.timed.Goals as goal

record IsSchema (columns : List Column) : Type 0 where
  few : length columns ≤ 256
  distinct : IsTrue (has_distinct_names columns)
  timed : IsTrue (starts_with_time columns)

one_column : (columns : List Column) (column : Column) → columns ≡ column ∷ [] → column ≡ record { name = codes "ts"; kind = kind.Int } → IsSchema columns
one_column columns column e n =
    subst IsSchema (sym (e ∙ ap (λ c. c ∷ []) n)) (record { few = lit≤ tt; distinct = refl; timed = refl })

pub invariant_of-result : goal.invariant_of-result
invariant_of-result c =
    let s = one_column c.push.new.self _ (c.in_ok-push.ensures.ok ∙ ap (λ columns. columns ++ record { name = c.args.name; kind = kind.Int } ∷ []) c.new-columns.ensures) (ap (λ name. record { name = name; kind = kind.Int }) c.requires) in
    record { few = s.few; distinct = s.distinct; timed = s.timed }
