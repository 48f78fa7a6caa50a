-- The lines of a portion: what a source keeps of them, and what they tell.
use Rattle.std.proofs.Common.{◌≡◌, ◌≢◌, ℕ, zero, suc, ◌+◌, ◌-◌, ◌<◌, ◌≤◌, ◌%◌, ◌==◌, Bool, true, false, not, List, [], ◌∷◌, ◌++◌, length, get_or, take, drop, ℤ, None, Some, refl, sym, ap, ap₂, subst, ◌∙◌, arith}
use Rattle.std.specs.List.{slice_range, slice_get, position}
use Rattle.std.specs.declared.option.Option.{Option}
use Rattle.std.proofs.lemmas.List.{length-take, length-drop, take_all, take-take, take-append-drop, drop-drop, get_or-take, get_or-drop}
use Rattle.std.proofs.Math.Seq.{take-add}
use Rattle.std.proofs.lemmas.List.Quantifiers.{position-Some}
use Rattle.std.proofs.lemmas.Bool.{not-true, not-false, false≢true}
use Rattle.hj_value.specs.declared.column.Column.{Column}
use Rattle.hj_record.specs.Blank.{is_blank}
use Rattle.hj_record.specs.declared.fault.PieceFault.{PieceFault}
use Rattle.hj_record.specs.declared.cutter.Cut.TheVariants as cut
use Rattle.hj_record.specs.Cutter.{Cutting, cleared}
use Rattle.hj_record.specs.Cuts.{Cuts, CutsFrom}
use Rattle.hj_record.specs.LineEnd.{inside_after, may_take, EndsWithin, HasEnd}
use Rattle.hj_record.specs.Pieces.{quotes, IsPiece}
use Rattle.hj_record.proofs.Splits.{inside_by_quotes, inside_behind_both, outside_behind}
use Rattle.hj_event.specs.Sides.{ReaderState}
use Rattle.hj_event.specs.Reads.{reading, IsReadable}
use Rattle.hj_event.specs.Taking.{TellsRow}
use Rattle.hj_event.proofs.LinesAhead.{ends_behind, outside_through, tells_row}

-- ---- the bytes of a portion

get_or-range : (xs : List ℕ) (from to k : ℕ) → k < to - from → get_or (slice_range xs from to) k 0 ≡ get_or xs (from + k) 0
get_or-range xs from to k lt = get_or-take (to - from) (drop from xs) k 0 lt ∙ get_or-drop from xs k 0

-- where a line feed stands there is a byte
within_by_feed : (xs : List ℕ) (at : ℕ) → get_or xs at 0 ≡ 10 → at < length xs
within_by_feed [] at is = absurd (omega arith)
within_by_feed (x ∷ xs) zero is = omega arith
within_by_feed (x ∷ xs) (suc at) is = omega (arith, within_by_feed xs at is)

below-range : (xs : List ℕ) (from to k : ℕ) → k < to - from → from + k < length xs → k < length (slice_range xs from to)
below-range xs from to k lt within = omega (arith, length-take (to - from) (drop from xs), length-drop from xs)

-- Where all bytes of a portion were looked at, it doesn't matter what stands in their place, nor what the cutter keeps.
pub all_taken : (old new : Cutting) (portion buf : List ℕ) (taken filled lines_end : ℕ) → IsReadable old portion taken filled lines_end → new.whole ≡ false → filled ≤ taken → IsReadable new buf taken filled lines_end
all_taken old new portion buf taken filled lines_end readable going all = record {
  within = readable.within;
  room = readable.room;
  going = going;
  lines = readable.lines;
  line_feed = λ lt. absurd (omega (arith, readable.lines));
  outside = λ lt. absurd (omega (arith, readable.lines));
}

pub none_left : (old new : Cutting) (portion buf : List ℕ) (taken filled lines_end : ℕ) → IsReadable old portion taken filled lines_end → new.whole ≡ false → filled ≤ length portion → slice_range portion taken filled ≡ [] → IsReadable new buf taken filled lines_end
none_left old new portion buf taken filled lines_end readable going within none =
    all_taken old new portion buf taken filled lines_end readable going (omega (arith, ap length none, length-take (filled - taken) (drop taken portion), length-drop taken portion))

-- the bytes up to a line's end, behind the first ones of them
range_behind : (portion : List ℕ) (taken filled used end : ℕ) → taken + used ≤ filled → taken + used ≤ end → slice_range portion taken end ≡ take used (slice_range portion taken filled) ++ slice_range portion (taken + used) end
range_behind portion taken filled used end fits within =
    let sum : end - taken ≡ used + (end - (taken + used)) = omega arith in
    ap (λ n. take n (drop taken portion)) sum
    ∙ take-add used (end - (taken + used)) (drop taken portion)
    ∙ ap₂ (λ (a b : List ℕ). a ++ take (end - (taken + used)) b) (sym (take-take used (filled - taken) (drop taken portion) (omega arith))) (drop-drop used taken portion)

-- Behind a piece the lines end where they did.
pub lines_behind : (old new : Cutting) (portion : List ℕ) (taken filled used lines_end : ℕ) → IsReadable old portion taken filled lines_end → taken + used ≤ filled → IsPiece (old.piece ++ take used (slice_range portion taken filled)) → new.piece ≡ [] → new.whole ≡ false → IsReadable new portion (taken + used) filled lines_end
lines_behind old new portion taken filled used lines_end readable fits piece none going =
    let odd = quotes old.piece % 2 == 1 in
    let front = take used (slice_range portion taken filled) in
    record {
      within = fits;
      room = readable.room;
      going = going;
      lines = readable.lines;
      line_feed = λ lt. readable.line_feed (omega arith);
      outside = λ lt.
          let behind = slice_range portion (taken + used) (lines_end - 1) in
          ap (λ (p : List ℕ). inside_after (quotes p % 2 == 1) behind) none
          ∙ ap (λ i. inside_after i behind) (sym (outside_behind old.piece front piece))
          ∙ sym (inside_behind_both odd front behind)
          ∙ ap (inside_after odd) (sym (range_behind portion taken filled used (lines_end - 1) fits (omega arith)))
          ∙ readable.outside (omega arith);
    }

module _ (old new : Cutting) (rest : List ℕ) where
  lent_piece : (was : Option PieceFault) (used : ℕ) → CutsFrom was (cut.Lent used) rest old new → (used ≤ length rest) × IsPiece (old.piece ++ take used rest) × (new.piece ≡ []) × (new.whole ≡ false)
  lent_piece None used lends = (
    lends.1.1,
    subst (λ (p : List ℕ). IsPiece (p ++ take used rest)) (sym lends.0) lends.1.3,
    ap (λ (v : Cutting). v.piece) lends.2,
    ap (λ (v : Cutting). v.whole) lends.2,
  )
  lent_piece (Some found) used stays = let no : ⊥ = cc in absurd no

  kept_piece : (was : Option PieceFault) (used : ℕ) → CutsFrom was (cut.Piece used) rest old new → (used ≤ length rest) × IsPiece (old.piece ++ take used rest)
  kept_piece None used takes = (takes.1, subst IsPiece (ap (λ (v : Cutting). v.piece) takes.2) takes.3)
  kept_piece (Some found) used stays = let no : ⊥ = cc in absurd no

-- So they do behind a piece that was lent,
pub lent_lines : (old new : Cutting) (portion : List ℕ) (taken filled used lines_end : ℕ) → IsReadable old portion taken filled lines_end → Cuts (cut.Lent used) (slice_range portion taken filled) old new → IsReadable new portion (taken + used) filled lines_end
lent_lines old new portion taken filled used lines_end readable cuts =
    let piece = lent_piece old new (slice_range portion taken filled) old.fault used cuts in
    lines_behind old new portion taken filled used lines_end readable (omega (arith, readable.within, piece.0, length-take (filled - taken) (drop taken portion))) piece.1 piece.2 piece.3

-- and behind one that was kept, once the cutter is ready for the next one.
pub kept_lines : (old mid new : Cutting) (portion : List ℕ) (taken filled used lines_end : ℕ) → IsReadable old portion taken filled lines_end → Cuts (cut.Piece used) (slice_range portion taken filled) old mid → new ≡ cleared mid → IsReadable new portion (taken + used) filled lines_end
kept_lines old mid new portion taken filled used lines_end readable cuts ready =
    let piece = kept_piece old mid (slice_range portion taken filled) old.fault used cuts in
    lines_behind old new portion taken filled used lines_end readable (omega (arith, readable.within, piece.0, length-take (filled - taken) (drop taken portion))) piece.1 (ap (λ (v : Cutting). v.piece) ready) (ap (λ (v : Cutting). v.whole) ready)

-- ---- what a line tells

-- a side of which no piece has begun
tells_rest : (side : ReaderState) (at k : ℕ) → side.part ≡ [] → EndsWithin false side.rest at → k ≤ at → is_blank (get_or side.rest k 0) ≡ false → TellsRow side
tells_rest side at k none ends le written =
    tells_row side at k (subst (λ part. EndsWithin false (part ++ side.rest) at) (sym none) ends) le (subst (λ part. is_blank (get_or (part ++ side.rest) k 0) ≡ false) (sym none) written)

first_of : (piece rest : List ℕ) (first : ℕ) → Some first ≡ slice_get piece 0 → get_or (piece ++ rest) 0 0 ≡ first
first_of [] rest first is = cc
first_of (b ∷ piece) rest first is = let same : first ≡ b = cc in sym same

pub nothing_first : (piece : List ℕ) → None ≡ slice_get piece 0 → piece ≡ []
nothing_first [] is = refl
nothing_first (b ∷ piece) is = cc

-- a quote is no blank
blank_unquoted : (b : ℕ) → is_blank b ≡ true → b ≢ 34
blank_unquoted b blank quote = false≢true (ap is_blank (sym quote) ∙ blank)

module _ (columns : List Column) (slack : ℕ) (cutting : Cutting) (portion : List ℕ) (taken filled : ℕ) (ended : Bool) (record_no : ℕ) (time : Option ℤ) where
  abbrev side : ReaderState
  side = reading columns slack cutting portion taken filled ended record_no time

  -- The piece that has begun ends in what was read.
  pub piece_tells : (first : ℕ) → Some first ≡ slice_get cutting.piece 0 → is_blank first ≡ false → HasEnd (slice_range portion taken filled) cutting → TellsRow side
  piece_tells first is written has =
      let rest = slice_range portion taken filled in
      tells_row side (length cutting.piece + has.0) 0
      (ends_behind (quotes cutting.piece % 2 == 1) cutting.piece rest (may_take cutting rest) has.0 (omega arith) (sym (inside_by_quotes cutting.piece)) has.1) (omega arith)
      (ap is_blank (first_of cutting.piece rest first is) ∙ written)

  -- A line that isn't empty and begins in the portion, in front of a line feed outside quotes, ends in it.
  ends_in : (first : ℕ) → cutting.piece ≡ [] → is_blank (get_or (slice_range portion taken filled) first 0) ≡ false → (lines_end : ℕ) → lines_end ≤ filled → taken + first < lines_end → get_or portion (lines_end - 1) 0 ≡ 10
      → inside_after (quotes cutting.piece % 2 == 1) (slice_range portion taken (lines_end - 1)) ≡ false → TellsRow side
  ends_in first none written lines_end ends lt line_feed outside =
      let rest = slice_range portion taken filled in
      let at = lines_end - 1 - taken in
      let place : taken + at ≡ lines_end - 1 = omega arith in
      let within = within_by_feed portion (lines_end - 1) line_feed in
      tells_rest side at first none (
        below-range portion taken filled at (omega arith) (omega (arith, within)),
        get_or-range portion taken filled at (omega arith) ∙ ap (λ n. get_or portion n 0) place ∙ line_feed,
        ap (inside_after false) (take-take at (filled - taken) (drop taken portion) (omega arith))
            ∙ ap (λ (p : List ℕ). inside_after (quotes p % 2 == 1) (slice_range portion taken (lines_end - 1))) (sym none) ∙ outside,
      ) (omega arith) written

  -- So does one that begins with what is left.
  pub here_tells : cutting.piece ≡ [] → is_blank (get_or portion taken 0) ≡ false → (lines_end : ℕ) → lines_end ≤ filled → taken < lines_end → get_or portion (lines_end - 1) 0 ≡ 10
      → inside_after (quotes cutting.piece % 2 == 1) (slice_range portion taken (lines_end - 1)) ≡ false → TellsRow side
  here_tells none written lines_end ends lt line_feed outside =
      let place : taken + 0 ≡ taken = omega arith in
      let first : get_or (slice_range portion taken filled) 0 0 ≡ get_or portion taken 0 = get_or-range portion taken filled 0 (omega arith) ∙ ap (λ n. get_or portion n 0) place in
      ends_in 0 none (ap is_blank first ∙ written) lines_end ends (omega arith) line_feed outside

  module _ (first : ℕ) (none : cutting.piece ≡ []) (is : position (λ byte. not (is_blank byte)) (slice_range portion taken filled) ≡ Some first) where
    found : (first < length (slice_range portion taken filled)) × (not (is_blank (get_or (slice_range portion taken filled) first 0)) ≡ true) × ((k : ℕ) → k < first → not (is_blank (get_or (slice_range portion taken filled) k 0)) ≡ false)
    found = position-Some (λ byte. not (is_blank byte)) (slice_range portion taken filled) first 0 is

    written : is_blank (get_or (slice_range portion taken filled) first 0) ≡ false
    written = not-true (is_blank (get_or (slice_range portion taken filled) first 0)) found.1

    -- A line that begins in the portion, in front of a line feed outside quotes, ends in it.
    pub line_tells : (lines_end : ℕ) → lines_end ≤ filled → taken + first < lines_end → get_or portion (lines_end - 1) 0 ≡ 10 → inside_after (quotes cutting.piece % 2 == 1) (slice_range portion taken (lines_end - 1)) ≡ false → TellsRow side
    line_tells = ends_in first none written

    -- The line that begins behind the empty ones ends in what was read.
    pub end_tells : HasEnd (slice_range (slice_range portion taken filled) first (length (slice_range portion taken filled))) cutting → TellsRow side
    end_tells part =
        let rest = slice_range portion taken filled in
        let front = take first rest in
        let behind = drop first rest in
        let whole = take_all (length rest - first) behind (omega (arith, length-drop first rest)) in
        let has = subst (λ bytes. HasEnd bytes cutting) whole part in
        let blank : (k : ℕ) → k < first → get_or rest k 0 ≢ 34 = λ k lt. blank_unquoted (get_or rest k 0) (not-false (is_blank (get_or rest k 0)) (found.2 k lt)) in
        let inside : (quotes cutting.piece % 2 == 1) ≡ inside_after false front = ap (λ piece. quotes piece % 2 == 1) none ∙ sym (outside_through rest first blank) in
        let ends = ends_behind (quotes cutting.piece % 2 == 1) front behind (may_take cutting behind) has.0 (omega arith) inside has.1 in
        tells_rest side (length front + has.0) first none (subst (λ bytes. EndsWithin false bytes (length front + has.0)) (take-append-drop first rest) ends)
        (omega (arith, length-take first rest, found.0)) written
