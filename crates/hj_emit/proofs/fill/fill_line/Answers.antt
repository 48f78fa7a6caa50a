use Rattle.std.proofs.Common.{◌≡◌, ◌++◌, ◌≤◌, ℕ, List, length, vec_len, map, take, drop, sym, ap, ◌∙◌, arith, rules, length-append}
use Rattle.std.proofs.lemmas.List.{drop_at, length-take-le, take-append-drop}
use Rattle.csv.specs.Writing.{default_writer, row_text}
use Rattle.hj_value.specs.declared.field.Field.{Field}
use Rattle.hj_emit.specs.Cells.{cells}
use Rattle.hj_emit.specs.Line.{field_bytes}
use Rattle.hj_emit.proofs.fill.fill_line.Goals as goal

-- what stands in front of the fields stands in front of the line
ended : (text new : List ℕ) (start : ℕ) (fields : List Field) → start ≤ length text → drop start text ≡ cells fields
    → ((front : List ℕ) (fields : List Field) → length front ≡ start → text ≡ front ++ cells fields → new ≡ front ++ row_text default_writer (map field_bytes fields))
    → new ≡ take start text ++ row_text default_writer (map field_bytes fields)
ended text new start fields within made line =
    line (take start text) fields (length-take-le start text within) (sym (take-append-drop start text) ∙ ap (λ l. take start text ++ l) made)

pub returns-clause-within : goal.returns-clause-within
returns-clause-within c =
    let start = c.in_ok-start.start in
    let text = c.fill_fields.new.text in
    let fields = c.args.left.now ++ c.args.right.now in
    let size : vec_len text ≡ length text.items = search rules in
    let grown : vec_len c.end_line.new.text ≡ length c.end_line.new.text.items = search rules in
    let few : start ≤ length text.items = omega (arith, size, c.in_ok-start.ensures.within) in
    let line = ended text.items c.end_line.new.text.items start fields few c.in_ok-start.ensures.fields c.in_ok-end_line.ensures in
    omega (arith, grown, ap length line, length-append (take start text.items) (row_text default_writer (map field_bytes fields)), length-take-le start text.items few)

pub returns-clause-line : goal.returns-clause-line
returns-clause-line c =
    let start = c.in_ok-start.start in
    let text = c.fill_fields.new.text in
    let fields = c.args.left.now ++ c.args.right.now in
    let size : vec_len text ≡ length text.items = search rules in
    let few : start ≤ length text.items = omega (arith, size, c.in_ok-start.ensures.within) in
    ap (λ l. drop start l) (ended text.items c.end_line.new.text.items start fields few c.in_ok-start.ensures.fields c.in_ok-end_line.ensures)
    ∙ drop_at (take start text.items) (row_text default_writer (map field_bytes fields)) start (length-take-le start text.items few)
