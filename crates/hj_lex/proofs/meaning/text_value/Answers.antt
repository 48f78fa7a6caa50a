use Rattle.std.proofs.Common.{sym, subst}
use Rattle.std.specs.Str.{IsUtf8}
use Rattle.hj_lex.proofs.Utf8.{IsUtf8-undoubled}
use Rattle.hj_lex.proofs.Values.{same_doubled}
use Rattle.hj_lex.proofs.meaning.text_value.Goals as goal

pub unreachable-requires : goal.unreachable-requires
unreachable-requires c =
    let t = c.requires in
    let same = same_doubled c.args.word.now t.0 c.in_ok-bytes.bytes.items t.1 c.in_ok-bytes.ensures in
    let utf8 = IsUtf8-undoubled c.in_ok-bytes.bytes.items (subst IsUtf8 same t.2) in
    let refused = rw c.in-None.is at c.in_ok-value.ensures in
    refused (subst IsUtf8 (sym c.deref.ensures.value) utf8)
