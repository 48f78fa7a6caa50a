use Rattle.std.proofs.Common.{◌≡◌, sym, subst}
use Rattle.csv.specs.Reading.{strip_bom}
use Rattle.hj_record.proofs.PieceLemmas.{strip-without_marks}
use Rattle.hj_record.proofs.piece.read_piece_into.Goals as goal

pub read_text-answer-requires : goal.read_text-answer-requires
read_text-answer-requires c = subst (λ text. strip_bom text ≡ text) (sym c.without_marks.ensures) (strip-without_marks c.args.piece.now)
