use Rattle.hj_lex.proofs.Fronts.{whole_name, whole_sign}
use Rattle.hj_lex.proofs.scan.token_length.Goals as goal

pub returns-in-Name : goal.returns-in-Name
returns-in-Name c =
    whole_name c.args.kind c.args.rest.now c.word_length.result c.in-Name.is c.requires.first c.word_length.ensures

pub returns-in-Sign : goal.returns-in-Sign
returns-in-Sign c =
    rw c.ok_or.ensures.value (whole_sign c.args.kind c.args.rest.now c.args.from c.sign_length.result c.in-Sign.is c.requires.first c.sign_length.ensures)
