use Rattle.std.proofs.Common.{◌≡◌, ◌++◌, ap, codes, subst, ◌∙◌}
use Rattle.std.specs.Result.{OnOk}
use Rattle.hj_value.specs.declared.schema.Schema.{Schema}
use Rattle.hj_query.specs.Canonical.{line_end, schema_text, window_text}
use Rattle.hj_query.proofs.Appending.{four_lines}
use Rattle.hj_query.proofs.canonical.push_streams.Goals as goal

pub returns : goal.returns
returns c =
    let query = c.args.query.now in
    subst (λ whole. OnOk c.push_window-2.result (c.push_window-2.new.text.items ≡ whole))
    (ap (λ window. c.push_window.new.text.items ++ codes "window right " ++ window_text window ++ line_end) c.window-2.ensures
    ∙ four_lines c.args.text.now.items c.push_schema.new.text.items c.push_schema-2.new.text.items c.push_window.new.text.items line_end (codes "left ") (schema_text query.left.columns)
    (codes "right ") (schema_text query.right.columns) (codes "window left ") (window_text query.left_window) (codes "window right ") (window_text query.right_window)
    (c.in_ok-push_schema.ensures ∙ ap (λ (schema : Schema). c.args.text.now.items ++ codes "left " ++ schema_text schema.columns ++ line_end) c.schema.ensures)
    (c.in_ok-push_schema-2.ensures ∙ ap (λ (schema : Schema). c.push_schema.new.text.items ++ codes "right " ++ schema_text schema.columns ++ line_end) c.schema-2.ensures)
    (c.in_ok-push_window.ensures ∙ ap (λ window. c.push_schema-2.new.text.items ++ codes "window left " ++ window_text window ++ line_end) c.window.ensures))
    c.push_window-2.ensures
