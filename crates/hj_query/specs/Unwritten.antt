-- Pieces of a condition's text that are still to be written. The last of them is written first.
use Rattle.std.specs.Prelude.{ℕ, ◌+◌, true, List, [], ◌∷◌, ◌++◌, sum_by}
use Rattle.hj_base.specs.declared.numbers.Side.{Side}
use Rattle.hj_value.specs.declared.column.Column.{Column}
use Rattle.hj_query.specs.declared.canonical.nodes.UnwrittenPiece.{UnwrittenPiece}
use Rattle.hj_query.specs.declared.canonical.nodes.UnwrittenPiece.TheVariants as pieces
use Rattle.hj_query.specs.declared.pred.Pred.{Pred, Or', And', Not', Compare, Within}
use Rattle.hj_query.specs.Canonical.{enclosed_if, pred_text}

abbrev pub piece_text : (Side → List Column) → UnwrittenPiece → List ℕ
piece_text columns (pieces.Bytes bytes) = bytes.now
piece_text columns (pieces.Bare pred) = pred_text columns pred.now
piece_text columns (pieces.Enclosed pred) = enclosed_if true (pred_text columns pred.now)

abbrev pub unwritten : (Side → List Column) → List UnwrittenPiece → List ℕ
unwritten columns [] = []
unwritten columns (piece ∷ pieces) = unwritten columns pieces ++ piece_text columns piece

-- A bound on how many pieces there will be until all are written.

abbrev pub pred_turns : Pred → ℕ
pred_turns (Or' p left q right) = pred_turns left + pred_turns right + 6
pred_turns (And' p left q right) = pred_turns left + pred_turns right + 6
pred_turns (Not' p inner) = pred_turns inner + 6
pred_turns (Compare op left right) = 1
pred_turns (Within distance left right) = 1

abbrev pub piece_turns : UnwrittenPiece → ℕ
piece_turns (pieces.Bytes bytes) = 1
piece_turns (pieces.Bare pred) = pred_turns pred.now
piece_turns (pieces.Enclosed pred) = pred_turns pred.now + 2

abbrev pub turns : List UnwrittenPiece → ℕ
turns pieces = sum_by piece_turns pieces
