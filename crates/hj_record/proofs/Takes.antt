-- What is found in the bytes that the limits allow is what taking the portion asks for.
use Rattle.std.proofs.Common.{◌≡◌, ℕ, ◌+◌, ◌-◌, ◌<◌, ◌≤◌, ◌%◌, ◌==◌, min, Bool, true, false, List, [], ◌++◌, length, take, sym, ap, subst, ◌∙◌, Some, inl, inr, refl, arith}
use Rattle.std.proofs.lemmas.List.{take-take, take_all, length-append, length-take-le}
use Rattle.hj_record.specs.declared.fault.PieceFault.{PieceFault}
use Rattle.hj_record.specs.declared.fault.PieceFault.TheVariants as fault
use Rattle.hj_record.specs.declared.cutter.Fed.TheVariants as fed
use Rattle.hj_record.specs.declared.cutter.LineEnd.TheVariants as line_end
use Rattle.hj_record.specs.LineEnd.{Finds, EndsWithin}
use Rattle.hj_record.specs.Pieces.{IsUnended, IsPiece, quotes, most_in_piece}
use Rattle.hj_record.specs.Cutter.{Cutting, Takes, FitsLimits, IsOneTooMany}
use Rattle.hj_record.specs.CutterFields.{IsSound}
use Rattle.hj_record.specs.Cuts.{Lends, with_piece}
use Rattle.hj_record.proofs.Splits.{IsUnended-append, IsPiece-append, parity_behind, outside_behind_end}

-- the invariant, with the parity in the words of the piece
pub sound_by_quotes : (room : ℕ) (piece : List ℕ) (inside whole : Bool) → IsSound room piece inside whole → IsSound room piece (quotes piece % 2 == 1) whole
sound_by_quotes room piece inside whole sound = record { within_piece = sound.within_piece; within_room = sound.within_room; parity = refl; unended = sound.unended }

module _ (old : Cutting) (inside : Bool) (bytes : List ℕ) (n : ℕ) (sound : IsSound old.room old.piece inside old.whole) (going : old.whole ≡ false) (n_is : n ≡ min (min old.room most_in_piece - length old.piece) (length bytes)) where
  -- the bytes up to an end stand in front of the whole portion
  up_to_end : (at : ℕ) → EndsWithin inside (take n bytes) at → take (at + 1) (take n bytes) ≡ take (at + 1) bytes
  up_to_end at ends = take-take (at + 1) n bytes (omega (arith, length-take-le n bytes (omega arith), ends.0))

  pub piece_outside : (at : ℕ) → EndsWithin inside (take n bytes) at → false ≡ (quotes (old.piece ++ take (at + 1) bytes) % 2 == 1)
  piece_outside at ends =
      sym (outside_behind_end inside (take n bytes) at ends)
      ∙ parity_behind inside old.piece (take (at + 1) (take n bytes)) sound.parity
      ∙ ap (λ (x : List ℕ). quotes (old.piece ++ x) % 2 == 1) (up_to_end at ends)

  goes_on_within : (after : Bool) → Finds (line_end.Beyond after) inside (take n bytes) → IsUnended (old.piece ++ take n bytes)
  goes_on_within after found = IsUnended-append inside old.piece (take n bytes) (sound.unended going) sound.parity found.1

  pub end_within : (at : ℕ) → Finds (line_end.At at) inside (take n bytes) → at < length bytes
  end_within at found = omega (arith, length-take-le n bytes (omega arith), found.0.0)

  -- all of the portion may be taken
  all_within : length bytes ≤ min old.room most_in_piece - length old.piece → take n bytes ≡ bytes
  all_within all = take_all n bytes (omega arith)

  pub goes_on : (after : Bool) → Finds (line_end.Beyond after) inside (take n bytes) → length bytes ≤ min old.room most_in_piece - length old.piece → IsUnended (old.piece ++ bytes)
  goes_on after found all = subst (λ (x : List ℕ). IsUnended (old.piece ++ x)) (all_within all) (goes_on_within after found)

  pub parity_beyond : (after : Bool) → Finds (line_end.Beyond after) inside (take n bytes) → length bytes ≤ min old.room most_in_piece - length old.piece → after ≡ (quotes (old.piece ++ bytes) % 2 == 1)
  parity_beyond after found all =
      found.0 ∙ parity_behind inside old.piece (take n bytes) sound.parity ∙ ap (λ (x : List ℕ). quotes (old.piece ++ x) % 2 == 1) (all_within all)

  pub takes_piece : (at : ℕ) (new : Cutting) → Finds (line_end.At at) inside (take n bytes) → new ≡ record old { piece = old.piece ++ take (at + 1) bytes; whole = true } → Takes (fed.Piece (at + 1)) bytes old new
  takes_piece at new found is =
      let within = length-take-le n bytes (omega arith) in
      let size = length-take-le (at + 1) bytes (omega (arith, within, found.0.0)) in
      let all = length-append old.piece (take (at + 1) bytes) in
      let piece = subst (λ (x : List ℕ). IsPiece (old.piece ++ x)) (up_to_end at found.0) (IsPiece-append inside old.piece (take n bytes) at (sound.unended going) sound.parity found.0 found.1) in (
        omega arith,
        omega (arith, within, found.0.0),
        is,
        subst (λ (v : Cutting). IsPiece v.piece) (sym is) piece,
        subst (λ (v : Cutting). FitsLimits v) (sym is) (omega (arith, within, found.0.0, sound.within_piece, sound.within_room), omega (arith, within, found.0.0, sound.within_piece, sound.within_room)),
      )

  -- a piece that lies whole in front of the portion, where none of it came before
  pub lends_piece : (at : ℕ) (new : Cutting) → Finds (line_end.At at) inside (take n bytes) → old.piece ≡ [] → new ≡ record old { room = old.room - (at + 1) } → Lends (at + 1) bytes old new
  lends_piece at new found empty is =
      let size : length (take (at + 1) bytes) ≡ at + 1 = length-take-le (at + 1) bytes (omega (arith, end_within at found)) in
      let piece = take (at + 1) bytes in (
        empty,
        takes_piece at (with_piece piece old) found (ap (λ (x : List ℕ). record old { piece = x ++ piece; whole = true }) (sym empty)),
        is
            ∙ ap (λ (x : List ℕ). record { room = old.room - (at + 1); piece = x; whole = old.whole; fault = old.fault }) empty
            ∙ ap (λ (w : Bool). record { room = old.room - (at + 1); piece = []; whole = w; fault = old.fault }) going
            ∙ ap (λ (k : ℕ). record { room = old.room - k; piece = []; whole = false; fault = old.fault }) (sym size),
      )

  pub takes_more : (after : Bool) (new : Cutting) → Finds (line_end.Beyond after) inside (take n bytes) → length bytes ≤ min old.room most_in_piece - length old.piece → new ≡ record old { piece = old.piece ++ bytes; whole = false } → Takes fed.More bytes old new
  takes_more after new found all is =
      let size = length-append old.piece bytes in (
        is ∙ ap (λ (w : Bool). record old { piece = old.piece ++ bytes; whole = w }) (sym going),
        subst (λ (v : Cutting). IsUnended v.piece) (sym is) (goes_on after found all),
        subst (λ (v : Cutting). FitsLimits v) (sym is) (omega (arith, sound.within_piece, sound.within_room), omega (arith, sound.within_piece, sound.within_room)),
      )

  takes_over : (after : Bool) (too : PieceFault) (new : Cutting) → Finds (line_end.Beyond after) inside (take n bytes) → n < length bytes → IsOneTooMany too (old.piece ++ take n bytes) old.room → new ≡ record old { fault = Some too } → Takes (fed.Bad too) bytes old new
  takes_over after too new found short over is =
      (is, inr (n, short, goes_on_within after found, over))

  pub takes_stream_long : (after : Bool) (new : Cutting) → Finds (line_end.Beyond after) inside (take n bytes) → min old.room most_in_piece - length old.piece < length bytes → old.room ≤ most_in_piece → new ≡ record old { fault = Some fault.StreamLong } → Takes (fed.Bad fault.StreamLong) bytes old new
  takes_stream_long after new found short less is =
      let within = length-take-le n bytes (omega arith) in
      let size = length-append old.piece (take n bytes) in
      takes_over after fault.StreamLong new found (omega arith) (inl (refl, omega (arith, within, sound.within_piece, sound.within_room), omega (arith, within, sound.within_piece, sound.within_room))) is

  pub takes_too_long : (after : Bool) (new : Cutting) → Finds (line_end.Beyond after) inside (take n bytes) → min old.room most_in_piece - length old.piece < length bytes → most_in_piece < old.room → new ≡ record old { fault = Some fault.TooLong } → Takes (fed.Bad fault.TooLong) bytes old new
  takes_too_long after new found short more is =
      let within = length-take-le n bytes (omega arith) in
      let size = length-append old.piece (take n bytes) in
      takes_over after fault.TooLong new found (omega arith) (inr (refl, omega (arith, within, sound.within_piece, sound.within_room), omega (arith, within, sound.within_piece, sound.within_room))) is
