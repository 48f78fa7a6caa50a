-- What a cutter's answer says of the stream follows from what it took.
use Rattle.std.proofs.Common.{◌≡◌, ℕ, ◌+◌, ◌<◌, ◌≤◌, ◌%◌, ◌==◌, Bool, true, cond, eqb, List, [], ◌∷◌, ◌++◌, length, get_or, take, drop, sym, ap, subst, ◌∙◌, inl, inr, arith, append_assoc}
use Rattle.std.proofs.lemmas.List.{drop_more, take-append-drop, append-nil}
use Rattle.std.proofs.lemmas.List.Sums.{count_by-le-length}
use Rattle.std.proofs.lemmas.Bool.{ne_eqb}
use Rattle.hj_record.specs.declared.fault.PieceFault.{PieceFault}
use Rattle.hj_record.specs.declared.fault.PieceFault.TheVariants as fault
use Rattle.hj_record.specs.declared.cutter.Fed.{Fed}
use Rattle.hj_record.specs.declared.cutter.Fed.TheVariants as fed
use Rattle.hj_record.specs.Pieces.{Pieces, IsUnended, IsPiece, quotes, pieces_of, ended, then_pieces, clean, bad, most_in_piece}
use Rattle.hj_record.specs.Cutter.{Cutting, Takes, Leads, Closes, LeadsAtEnd, FitsLimits, IsOneTooMany, IsOverWithin, pieces_from, cleared}
use Rattle.hj_record.proofs.Streams.{pieces_of-piece, pieces_of-stream_long, pieces_of-too_long, pieces_of-end}

-- a byte too many behind a front that goes on
over_leads : (found : PieceFault) (room : ℕ) (front : List ℕ) (b : ℕ) (bytes : List ℕ) (whole : Bool) → IsUnended front → IsOneTooMany found front room → pieces_of room (record { bytes = front ++ b ∷ bytes; whole = whole }) ≡ ended (bad found)
over_leads found room front b bytes whole none (inl over) =
    pieces_of-stream_long room front b bytes whole none over.2 over.1 ∙ ap (λ f. ended (bad f)) (sym over.0)
over_leads found room front b bytes whole none (inr over) =
    pieces_of-too_long room front b bytes whole none over.1 over.2 ∙ ap (λ f. ended (bad f)) (sym over.0)

bytes_at : (bytes more : List ℕ) (at : ℕ) → at < length bytes → bytes ++ more ≡ take at bytes ++ (get_or bytes at 0 ∷ drop (at + 1) bytes ++ more)
bytes_at bytes more at lt =
    ap (λ x. x ++ more) (sym (take-append-drop at bytes) ∙ ap (λ x. take at bytes ++ x) (drop_more bytes at 0 lt))
    ∙ append_assoc (take at bytes) (get_or bytes at 0 ∷ drop (at + 1) bytes) more

over_within_leads : (found : PieceFault) (bytes : List ℕ) (old : Cutting) → IsOverWithin found bytes old → (more : List ℕ) (whole : Bool) → pieces_from old (bytes ++ more) whole ≡ ended (bad found)
over_within_leads found bytes old over more whole =
    let at = over.0 in
    let front = old.piece ++ take at bytes in
    let all : old.piece ++ (bytes ++ more) ≡ front ++ (get_or bytes at 0 ∷ drop (at + 1) bytes ++ more) =
    ap (λ x. old.piece ++ x) (bytes_at bytes more at over.1) ∙ sym (append_assoc old.piece (take at bytes) (get_or bytes at 0 ∷ drop (at + 1) bytes ++ more)) in
    ap (λ x. pieces_of old.room (record { bytes = x; whole = whole })) all
    ∙ over_leads found old.room front (get_or bytes at 0) (drop (at + 1) bytes ++ more) whole over.2 over.3

-- What is taken says what it leads to, whatever comes behind.
pub leads_from_takes : (answer : Fed) (bytes : List ℕ) (old new : Cutting) → Takes answer bytes old new → Leads answer bytes old new
leads_from_takes fed.More bytes old new takes = λ more whole.
    ap (λ x. pieces_of old.room (record { bytes = x; whole = whole })) (sym (append_assoc old.piece bytes more))
    ∙ ap (λ n. pieces_from n more whole) (sym takes.0)
leads_from_takes (fed.Piece used) bytes old new takes = λ more whole.
    let piece = old.piece ++ take used bytes in
    let others = drop used bytes ++ more in
    let all : old.piece ++ (bytes ++ more) ≡ piece ++ others =
    ap (λ x. old.piece ++ (x ++ more)) (sym (take-append-drop used bytes))
    ∙ ap (λ x. old.piece ++ x) (append_assoc (take used bytes) (drop used bytes) more)
    ∙ sym (append_assoc old.piece (take used bytes) others) in
    let room_is : new.room ≡ old.room = ap (λ n. n.room) takes.2 in
    let piece_is : new.piece ≡ piece = ap (λ n. n.piece) takes.2 in
    ap (λ x. pieces_of old.room (record { bytes = x; whole = whole })) all
    ∙ pieces_of-piece old.room piece others whole (subst (λ x. IsPiece x) piece_is takes.3)
    (subst (λ x. length x ≤ most_in_piece) piece_is takes.4.0) (subst (λ x. length x ≤ old.room) piece_is (omega arith))
    ∙ ap (λ n. then_pieces n.piece (pieces_from (cleared n) others whole)) (sym takes.2)
leads_from_takes (fed.Bad found) bytes old new (_, inl memory) = inl memory
leads_from_takes (fed.Bad found) bytes old new (_, inr over) = inr (over_within_leads found bytes old over)

-- how the pieces end where a whole stream has these bytes
abbrev at_end : ℕ → ℕ → List ℕ → Pieces
at_end size odd piece = cond (size == 0) (ended clean) (cond (odd == 1) (ended (bad fault.OpenQuote)) (then_pieces piece (ended clean)))

ends_as : (old : Cutting) → IsUnended old.piece → FitsLimits old → pieces_from old [] true ≡ at_end (length old.piece) (quotes old.piece % 2) old.piece
ends_as old none fits =
    ap (λ x. pieces_of old.room (record { bytes = x; whole = true })) (append-nil old.piece)
    ∙ pieces_of-end old.room old.piece none fits.0 fits.1

-- What the end closes says how the pieces of the whole stream end.
pub leads_from_closes : (answer : Fed) (old new : Cutting) → IsUnended old.piece → FitsLimits old → Closes answer old new → LeadsAtEnd answer old new
leads_from_closes fed.More old new none fits closes =
    ends_as old none fits ∙ ap (λ p. at_end (length p) (quotes p % 2) p) closes.0
leads_from_closes (fed.Piece used) old new none fits closes =
    ends_as old none fits
    ∙ ap (λ b. cond b (ended clean) (cond (eqb (quotes old.piece % 2) 1) (ended (bad fault.OpenQuote)) (then_pieces old.piece (ended clean)))) (ne_eqb (length old.piece) 0 (λ e. omega arith))
    ∙ ap (λ n. cond (eqb n 1) (ended (bad fault.OpenQuote)) (then_pieces old.piece (ended clean))) closes.2
    ∙ ap (λ n. then_pieces n.piece (ended clean)) (sym closes.3)
leads_from_closes (fed.Bad found) old new none fits closes =
    let some = count_by-le-length (λ b. b == 34) old.piece in
    ends_as old none fits
    ∙ ap (λ b. cond b (ended clean) (cond (eqb (quotes old.piece % 2) 1) (ended (bad fault.OpenQuote)) (then_pieces old.piece (ended clean)))) (ne_eqb (length old.piece) 0 (λ e. omega arith))
    ∙ ap (λ n. cond (eqb n 1) (ended (bad fault.OpenQuote)) (then_pieces old.piece (ended clean))) closes.1
    ∙ ap (λ f. ended (bad f)) (sym closes.0)
