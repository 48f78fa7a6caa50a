-- Pieces of a condition's text that are still to be written.
use Rattle.std.proofs.Common.{◌≡◌, ℕ, List, [], ◌∷◌, ◌++◌, sym, ap, ◌∙◌, append_assoc, append-nil}
use Rattle.hj_base.specs.declared.numbers.Side.{Side}
use Rattle.hj_value.specs.declared.column.Column.{Column}
use Rattle.hj_query.specs.declared.canonical.nodes.UnwrittenPiece.{UnwrittenPiece}
use Rattle.hj_query.specs.Unwritten.{piece_text, unwritten}

module _ (columns : Side → List Column) where
  unwritten_append : (pieces more : List UnwrittenPiece)
      → unwritten columns (pieces ++ more) ≡ unwritten columns more ++ unwritten columns pieces
  unwritten_append [] more = sym (append-nil (unwritten columns more))
  unwritten_append (piece ∷ pieces) more =
      ap (λ text. text ++ piece_text columns piece) (unwritten_append pieces more)
      ∙ append_assoc (unwritten columns more) (unwritten columns pieces) (piece_text columns piece)

  -- the last piece is written first
  pub unwritten_last : (pieces : List UnwrittenPiece) (piece : UnwrittenPiece) → unwritten columns (pieces ++ piece ∷ []) ≡ piece_text columns piece ++ unwritten columns pieces
  unwritten_last pieces piece = unwritten_append pieces (piece ∷ [])

  -- three pieces, of which the first to be written is put on last
  pub three_more : (todo one two three : List UnwrittenPiece) (right joint left : UnwrittenPiece) (text first middle last : List ℕ)
      → one ≡ todo ++ right ∷ [] → two ≡ one ++ joint ∷ [] → three ≡ two ++ left ∷ []
      → piece_text columns left ≡ first → piece_text columns joint ≡ middle → piece_text columns right ≡ last
      → text ++ unwritten columns three ≡ (text ++ ((first ++ middle) ++ last)) ++ unwritten columns todo
  three_more todo one two three right joint left text first middle last e1 e2 e3 is_first is_middle is_last =
      let step3 : unwritten columns three ≡ piece_text columns left ++ unwritten columns two = ap (unwritten columns) e3 ∙ unwritten_last two left in
      let step2 : unwritten columns two ≡ piece_text columns joint ++ unwritten columns one = ap (unwritten columns) e2 ∙ unwritten_last one joint in
      let step1 : unwritten columns one ≡ piece_text columns right ++ unwritten columns todo = ap (unwritten columns) e1 ∙ unwritten_last todo right in
      let whole : unwritten columns three ≡ first ++ (middle ++ (last ++ unwritten columns todo)) = cc in
      let flat : text ++ (first ++ (middle ++ (last ++ unwritten columns todo))) ≡ (text ++ ((first ++ middle) ++ last)) ++ unwritten columns todo = simp append_assoc in
      ap (λ rest. text ++ rest) whole ∙ flat

  -- one piece, behind bytes that were written
  pub one_more : (todo one : List UnwrittenPiece) (piece : UnwrittenPiece) (text here front last : List ℕ)
      → here ≡ text ++ front → one ≡ todo ++ piece ∷ [] → piece_text columns piece ≡ last
      → here ++ unwritten columns one ≡ (text ++ (front ++ last)) ++ unwritten columns todo
  one_more todo one piece text here front last d e is_last =
      let step : unwritten columns one ≡ piece_text columns piece ++ unwritten columns todo = ap (unwritten columns) e ∙ unwritten_last todo piece in
      let whole : here ++ unwritten columns one ≡ (text ++ front) ++ (last ++ unwritten columns todo) = cc in
      let flat : (text ++ front) ++ (last ++ unwritten columns todo) ≡ (text ++ (front ++ last)) ++ unwritten columns todo = simp append_assoc in
      whole ∙ flat

  -- two pieces, behind bytes that were written
  pub two_more : (todo one two : List UnwrittenPiece) (behind piece : UnwrittenPiece) (text here front middle last : List ℕ)
      → here ≡ text ++ front → one ≡ todo ++ behind ∷ [] → two ≡ one ++ piece ∷ []
      → piece_text columns piece ≡ middle → piece_text columns behind ≡ last
      → here ++ unwritten columns two ≡ (text ++ ((front ++ middle) ++ last)) ++ unwritten columns todo
  two_more todo one two behind piece text here front middle last d e1 e2 is_middle is_last =
      let step2 : unwritten columns two ≡ piece_text columns piece ++ unwritten columns one = ap (unwritten columns) e2 ∙ unwritten_last one piece in
      let step1 : unwritten columns one ≡ piece_text columns behind ++ unwritten columns todo = ap (unwritten columns) e1 ∙ unwritten_last todo behind in
      let whole : here ++ unwritten columns two ≡ (text ++ front) ++ (middle ++ (last ++ unwritten columns todo)) = cc in
      let flat : (text ++ front) ++ (middle ++ (last ++ unwritten columns todo)) ≡ (text ++ ((front ++ middle) ++ last)) ++ unwritten columns todo = simp append_assoc in
      whole ∙ flat

  -- the last piece was written, or its front
  pub piece_taken : (todo rest : List UnwrittenPiece) (piece : UnwrittenPiece) (text next whole : List ℕ)
      → todo ≡ rest ++ piece ∷ [] → next ≡ (text ++ piece_text columns piece) ++ unwritten columns rest
      → text ++ unwritten columns todo ≡ whole → next ≡ whole
  piece_taken todo rest piece text next whole e is_next h =
      is_next
      ∙ append_assoc text (piece_text columns piece) (unwritten columns rest)
      ∙ ap (λ more. text ++ more) (sym (ap (unwritten columns) e ∙ unwritten_last rest piece))
      ∙ h
