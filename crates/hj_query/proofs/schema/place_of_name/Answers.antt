use Rattle.std.proofs.Common.{ap, arith, sym, ◌∙◌}
use Rattle.std.specs.Option.{option_copied}
use Rattle.std.specs.Str.{bytes_eq}
use Rattle.hj_query.proofs.Columns.{get_within, position_end, position_found, position_passed}
use Rattle.hj_query.proofs.schema.place_of_name.Goals as goal

pub returns-then-eq : goal.returns-then-eq
returns-then-eq c =
    sym (position_found (λ column. bytes_eq column.name c.args.name.now) c.args.columns.now c.columns.at c.in-Some.column.now c.in-Some.ensures
    (ap (λ b. bytes_eq b c.args.name.now) (sym c.bytes.ensures.value) ∙ sym c.eq.ensures ∙ c.if-eq.true))
    ∙ c.columns.invariant.0

pub columns-smaller : goal.columns-smaller
columns-smaller c = let lt = get_within c.args.columns.now c.columns.at c.in-Some.column.now c.in-Some.ensures in omega arith

pub columns-preserved : goal.columns-preserved
columns-preserved c = (
  sym (position_passed (λ column. bytes_eq column.name c.args.name.now) c.args.columns.now c.columns.at c.in-Some.column.now c.in-Some.ensures
      (ap (λ b. bytes_eq b c.args.name.now) (sym c.bytes.ensures.value) ∙ sym c.eq.ensures ∙ c.if-eq.false))
      ∙ c.columns.invariant.0,
  (let lt = get_within c.args.columns.now c.columns.at c.in-Some.column.now c.in-Some.ensures in omega arith),
)

pub returns : goal.returns
returns c =
    sym (position_end (λ column. bytes_eq column.name c.args.name.now) c.args.columns.now c.columns.at (sym (ap option_copied c.in_default.is) ∙ c.get.ensures))
    ∙ c.columns.invariant.0
