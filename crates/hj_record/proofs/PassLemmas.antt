-- A piece at the start of a portion: what going past it says.
use Rattle.std.proofs.Common.{◌≡◌, ℕ, ◌+◌, ◌-◌, ◌<◌, ◌≤◌, ◌==◌, ◌%◌, min, Bool, false, List, [], ◌∷◌, length, take, None, Some, refl, sym, ap, subst, ◌∙◌, arith}
use Rattle.std.proofs.lemmas.List.{take-take, length-take-le, get_or-take}
use Rattle.std.specs.declared.option.Option.{Option}
use Rattle.hj_record.specs.declared.fault.PieceFault.{PieceFault}
use Rattle.hj_record.specs.declared.cutter.Cut.TheVariants as cut
use Rattle.hj_record.specs.declared.cutter.LineEnd.TheVariants as line_end
use Rattle.hj_record.specs.Line.{most_in_next}
use Rattle.hj_record.specs.LineEnd.{Finds, EndsWithin, inside_after, may_take}
use Rattle.hj_record.specs.Pieces.{quotes, most_in_piece, EndsAt, IsPiece}
use Rattle.hj_record.specs.Cutter.{Cutting}
use Rattle.hj_record.specs.CutterFields.{IsSound}
use Rattle.hj_record.specs.Cuts.{Cuts, LeadsBy, Lends}
use Rattle.hj_record.proofs.Takes.{lends_piece, sound_by_quotes}
use Rattle.hj_record.proofs.Splits.{ends_before, EndsAt-within, EndsWithin-at}
use Rattle.hj_record.proofs.CutLemmas.{cuts_from_next, leads_by}

-- no byte came before, and the stream isn't refused
pub none_before : (old : Cutting) → 0 < most_in_next old → (old.fault ≡ None) × (old.piece ≡ []) × (most_in_next old ≡ min old.room most_in_piece)
none_before old some = by old.fault old.piece refl refl some
  where
    by : (fault : Option PieceFault) (piece : List ℕ) → old.fault ≡ fault → old.piece ≡ piece → 0 < most_in_next old → (old.fault ≡ None) × (old.piece ≡ []) × (most_in_next old ≡ min old.room most_in_piece)
    by None [] is are some = (is, are, rw (is, are) refl)
    by None (b ∷ piece) is are some = let none : most_in_next old ≡ 0 = rw (is, are) refl in absurd (omega arith)
    by (Some found) piece is are some = let none : most_in_next old ≡ 0 = rw is refl in absurd (omega arith)

-- An end among the first bytes of a portion is one among fewer of them.
in_front : (inside : Bool) (bytes : List ℕ) (n at : ℕ) → at < n → n ≤ length bytes → EndsWithin inside bytes at → EndsWithin inside (take n bytes) at
in_front inside bytes n at lt le ends = (
  omega (arith, length-take-le n bytes le),
  get_or-take n bytes at 0 lt ∙ ends.1,
  ap (inside_after inside) (take-take at n bytes (omega arith)) ∙ ends.2,
)

-- the piece's end is the first one of the portion
finds_end : (n used : ℕ) (bytes : List ℕ) → used ≤ n → n ≤ length bytes → 0 < used → IsPiece (take used bytes) → Finds (line_end.At (used - 1)) false (take n bytes)
finds_end n used bytes fits within some piece =
    let size = length-take-le used bytes (omega arith) in
    let long = length-take-le n bytes within in
    let last : length (take used bytes) - 1 ≡ used - 1 = omega (arith, size) in
    let ends : EndsWithin false (take used bytes) (used - 1) = EndsWithin-at (take used bytes) (used - 1) (subst (EndsAt (take used bytes)) last piece.0) in
    let front : take used (take n bytes) ≡ take used bytes = take-take used n bytes fits in (
      in_front false bytes n (used - 1) (omega arith) within (ends_before false bytes used (used - 1) (omega arith) (omega arith) ends),
      λ at lt early.
          let within_piece = subst (λ (b : List ℕ). EndsWithin false b at) front (in_front false (take n bytes) used at (omega arith) (omega (arith, long)) early) in
          let is_last = piece.1 at (EndsAt-within (take used bytes) at within_piece) in
          omega (arith, size),
    )

pub passes : (old new : Cutting) (used : ℕ) (inside : Bool) (bytes : List ℕ) → IsSound old.room old.piece inside old.whole → old.whole ≡ false → 0 < used → used ≤ most_in_next old → new ≡ record old { room = old.room - used } → used ≤ length bytes → IsPiece (take used bytes) → Lends used bytes old new
passes old new used inside bytes sound going some within is enough line =
    let none = none_before old (omega (arith, within, some)) in
    let n = may_take old bytes in
    let zero : length old.piece ≡ 0 = ap length none.1 in
    let outside : false ≡ (quotes old.piece % 2 == 1) = sym (ap (λ (piece : List ℕ). quotes piece % 2 == 1) none.1) in
    let one : used - 1 + 1 ≡ used = omega arith in
    let found : Finds (line_end.At (used - 1)) (quotes old.piece % 2 == 1) (take n bytes) =
    subst (λ (side : Bool). Finds (line_end.At (used - 1)) side (take n bytes)) outside (finds_end n used bytes (omega (arith, within, none.2, zero)) (omega arith) some line) in
    subst (λ (k : ℕ). Lends k bytes old new) one
    (lends_piece old (quotes old.piece % 2 == 1) bytes n (sound_by_quotes old.room old.piece inside old.whole sound) going refl (used - 1) new found none.1 (is ∙ ap (λ (k : ℕ). record old { room = old.room - k }) (sym one)))

pub passes_cuts : (old new : Cutting) (used : ℕ) (bytes : List ℕ) → 0 < most_in_next old → Lends used bytes old new → Cuts (cut.Lent used) bytes old new
passes_cuts old new used bytes some lends = cuts_from_next (cut.Lent used) bytes old new (none_before old some).0 lends

pub passes_leads : (old new : Cutting) (used : ℕ) (bytes : List ℕ) → Lends used bytes old new → LeadsBy (cut.Lent used) bytes old new
passes_leads old new used bytes lends = leads_by (cut.Lent used) bytes old new lends
