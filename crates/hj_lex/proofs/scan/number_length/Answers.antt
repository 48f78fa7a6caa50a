use Rattle.std.proofs.Common.{refl, sym}
use Rattle.hj_lex.proofs.Fronts.{long_number, run_on_number, whole_number}
use Rattle.hj_lex.proofs.scan.number_length.Goals as goal

pub returns-then-is_err : goal.returns-then-is_err
returns-then-is_err c =
    (long_number c.args.rest.now c.digits_length-length.result c.read_int.result c.requires.digit c.digits_length-length.ensures c.read_int.ensures (sym c.if-is_err.ensures.value), refl)

pub returns-then-has_word : goal.returns-then-has_word
returns-then-has_word c =
    let bad = run_on_number c.args.rest.now c.digits_length-length.result c.read_int.result c.requires.digit c.digits_length-length.ensures c.read_int.ensures (sym c.if-is_err.ensures.value) (sym c.if-has_word.ensures) in
    (c.digits_length-length.result, bad, refl)

pub returns : goal.returns
returns c =
    whole_number c.args.rest.now c.digits_length-length.result c.read_int.result c.requires.digit c.digits_length-length.ensures c.read_int.ensures (sym c.if-is_err.ensures.value) (sym c.if-has_word.ensures)
