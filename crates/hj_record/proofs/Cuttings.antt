-- Cutting loses nothing, gives pieces and a rest that ends none, and is the only way to do so.
use Rattle.std.proofs.Common.{◌≡◌, ℕ, ◌==◌, Bool, true, false, not, ◌&&◌, cond, List, [], ◌∷◌, ◌++◌, refl, sym, ap, ◌∙◌, append_assoc}
use Rattle.std.specs.List.{All, concat}
use Rattle.std.proofs.lemmas.List.Elements.{All-nil, All-cons, All-head, All-tail}
use Rattle.std.proofs.lemmas.Bool.{and_parts, eqb-true, not-true}
use Rattle.hj_record.specs.Pieces.{IsUnended, IsPiece, Split, split, put_front, put_piece, IsCutAtLineEnds}
use Rattle.hj_record.proofs.Splits.{Unended, IsLine, IsPiece-from_line, IsUnended-from_Unended, inside_next, split_unended, split-piece, with_piece}

-- ---- nothing is lost

abbrev joined : Split → List ℕ
joined cut = concat cut.pieces ++ cut.rest

joined-put_front : (b : ℕ) (ps : List (List ℕ)) (rest : List ℕ) → joined (put_front b (record { pieces = ps; rest = rest })) ≡ b ∷ joined (record { pieces = ps; rest = rest })
joined-put_front b [] rest = refl
joined-put_front b (p ∷ ps) rest = refl

joined-split : (inside : Bool) (bytes : List ℕ) → joined (split inside bytes) ≡ bytes
joined-split inside [] = refl
joined-split inside (b ∷ bs) =
    let others = split (inside_next inside b) bs in
    elim ((b == 10) && not inside) as (λ t. joined (cond t (put_piece b (split false bs)) (put_front b others)) ≡ b ∷ bs) [
      | true ↦ ap (λ x. b ∷ x) (joined-split false bs)
      | false ↦ joined-put_front b others.pieces others.rest ∙ ap (λ x. b ∷ x) (joined-split (inside_next inside b) bs)
    ]

-- ---- what the pieces are

-- what cutting gives where the bytes begin inside quotes or outside
abbrev CutFrom : Bool → List (List ℕ) → List ℕ → Type 0
CutFrom inside [] rest = Unended inside rest
CutFrom inside (p ∷ ps) rest = IsLine inside p × All (λ x. IsPiece x) ps × Unended false rest

pieces_from_start : (ps : List (List ℕ)) (rest : List ℕ) → CutFrom false ps rest → All (λ x. IsPiece x) ps × Unended false rest
pieces_from_start [] rest cut = (All-nil (λ x. IsPiece x), cut)
pieces_from_start (p ∷ ps) rest cut = (All-cons (λ x. IsPiece x) p ps (IsPiece-from_line p cut.0) cut.1, cut.2)

cut_from-put_piece : (inside : Bool) (b : ℕ) (ps : List (List ℕ)) (rest : List ℕ) → ((b == 10) && not inside) ≡ true → CutFrom false ps rest → CutFrom inside ((b ∷ []) ∷ ps) rest
cut_from-put_piece inside b ps rest ends cut =
    let parts = and_parts (b == 10) (not inside) ends in
    let others = pieces_from_start ps rest cut in
    (record { front = []; is = ap (λ x. x ∷ []) (eqb-true b 10 parts.0); unended = tt; outside = not-true inside parts.1 }, others.0, others.1)

cut_from-put_front : (inside : Bool) (b : ℕ) (ps : List (List ℕ)) (rest : List ℕ) → ((b == 10) && not inside) ≡ false → CutFrom (inside_next inside b) ps rest → CutFrom inside (put_front b (record { pieces = ps; rest = rest })).pieces (put_front b (record { pieces = ps; rest = rest })).rest
cut_from-put_front inside b [] rest on cut = (on, cut)
cut_from-put_front inside b (p ∷ ps) rest on cut =
    let line = cut.0 in
    (record { front = b ∷ line.front; is = ap (λ x. b ∷ x) line.is; unended = (on, line.unended); outside = line.outside }, cut.1, cut.2)

cut_from : (inside : Bool) (bytes : List ℕ) → CutFrom inside (split inside bytes).pieces (split inside bytes).rest
cut_from inside [] = tt
cut_from inside (b ∷ bs) =
    let others = split (inside_next inside b) bs in
    let step : (t : Bool) → ((b == 10) && not inside) ≡ t → CutFrom inside (cond t (put_piece b (split false bs)) (put_front b others)).pieces (cond t (put_piece b (split false bs)) (put_front b others)).rest = λ t. elim t as (λ u. ((b == 10) && not inside) ≡ u → CutFrom inside (cond u (put_piece b (split false bs)) (put_front b others)).pieces (cond u (put_piece b (split false bs)) (put_front b others)).rest) [
      | true ↦ λ e. cut_from-put_piece inside b (split false bs).pieces (split false bs).rest e (cut_from false bs)
      | false ↦ λ e. cut_from-put_front inside b others.pieces others.rest e (cut_from (inside_next inside b) bs)
    ] in
    step ((b == 10) && not inside) refl

pub split_cuts : (bytes : List ℕ) → IsCutAtLineEnds bytes (split false bytes)
split_cuts bytes =
    let cut = split false bytes in
    let parts = pieces_from_start cut.pieces cut.rest (cut_from false bytes) in
    record { whole = joined-split false bytes; pieces = parts.0; rest = IsUnended-from_Unended cut.rest parts.1 }

-- ---- no other cutting is one

split-joined : (ps : List (List ℕ)) (rest : List ℕ) → All (λ x. IsPiece x) ps → IsUnended rest → split false (concat ps ++ rest) ≡ record { pieces = ps; rest = rest }
split-joined [] rest each none = split_unended rest none
split-joined (p ∷ ps) rest each none =
    ap (split false) (append_assoc p (concat ps) rest)
    ∙ split-piece p (concat ps ++ rest) (All-head (λ x. IsPiece x) p ps each)
    ∙ ap (with_piece p) (split-joined ps rest (All-tail (λ x. IsPiece x) p ps each) none)

pub cut_is_split : (bytes : List ℕ) (cut : Split) → IsCutAtLineEnds bytes cut → cut ≡ split false bytes
cut_is_split bytes cut is = sym (split-joined cut.pieces cut.rest is.pieces is.rest) ∙ ap (split false) is.whole
