use Rattle.std.proofs.Common.{◌≡◌, ◌++◌, ◌∷◌, [], length, take, vec_len, refl, sym, ap, ◌∙◌, rules, arith}
use Rattle.hj_emit.proofs.Cells.{blank_line, line_fed}
use Rattle.hj_emit.proofs.fill.end_line.Goals as goal

pub returns-then-last-start : goal.returns-then-last-start
returns-then-last-start c =
    let text = c.args.text.now in
    let long : vec_len text ≡ length text.items = search rules in
    λ front fields begins e. blank_line front fields text.items c.end_blank.new.text.items e (omega (arith, long, begins)) (c.in_ok-end_blank.ensures ∙ ap (λ n. take n text.items ++ 34 ∷ 34 ∷ 10 ∷ []) (sym begins))

pub returns : goal.returns
returns c =
    let text = c.args.text.now in
    let long : vec_len text ≡ length text.items = search rules in
    λ front fields begins e. line_fed front fields text.items _ c.saturating_sub-last.result e (omega (arith, long)) (omega (arith, begins)) refl
