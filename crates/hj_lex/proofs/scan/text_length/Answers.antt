use Rattle.std.proofs.Common.{◌+◌, ◌-◌, take, drop, refl, ◌∙◌, arith}
use Rattle.hj_lex.proofs.Fronts.{ill_formed}
use Rattle.hj_lex.proofs.scan.text_length.Goals as goal

pub returns-in-Err : goal.returns-in-Err
returns-in-Err c =
    let inside = take (c.in-Some.length - 1 - 1) (drop 1 c.args.rest.now) in
    let bad = ill_formed c.args.rest.now inside c.in-Some.length c.valid_up_to.result c.in-Some.ensures refl c.in-Err.ensures.cases.0 (c.valid_up_to.ensures ∙ c.in-Err.ensures.valid_len) in
    (1 + c.valid_up_to.result, bad, omega arith)
