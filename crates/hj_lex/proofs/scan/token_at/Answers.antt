use Rattle.std.proofs.Common.{◌+◌, refl}
use Rattle.std.proofs.lemmas.List.{take_rest}
use Rattle.hj_lex.proofs.Fronts.{token_from}
use Rattle.hj_lex.proofs.scan.token_at.Goals as goal

pub returns : goal.returns
returns c =
    (refl, token_from c.args.text.now (record { from = c.args.from; to = c.args.from + c.in_ok-length.length; kind = c.kind_of-kind.result }) c.in_ok-length.length refl (rw take_rest at c.in_ok-length.ensures))
