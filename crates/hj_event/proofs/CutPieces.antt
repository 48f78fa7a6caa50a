-- The pieces of a stream that was cut off, beside those of the whole one.
use Rattle.std.proofs.Common.{◌≡◌, ℕ, ◌-◌, ◌<◌, ◌≤◌, ◌⊎◌, inl, inr, Bool, true, false, not, cond, ◌&&◌, ◌==◌, ltb, List, [], ◌∷◌, ◌++◌, take, length, length-append, arith, refl, sym, ap, subst, ◌∙◌}
use Rattle.std.proofs.lemmas.Bool.{ltb-true, lt-ltb, le-ltb, cases_Bool, cases_lt}
use Rattle.std.proofs.Math.Seq.{take-append-add}
use Rattle.std.proofs.lemmas.List.{take_all, take-append-le}
use Rattle.hj_base.specs.Journals.{IsPrefix}
use Rattle.hj_record.specs.declared.fault.PieceFault.TheVariants as fault
use Rattle.hj_record.specs.Pieces.{Stream, Split, Pieces, unread, bad, ended, most_in_piece, put_front, put_piece, split, then_pieces, up_to_too_long, last_pieces, pieces_of}

pub IsPrefix-nil : {X : Type 0} (all : List X) → IsPrefix [] all
IsPrefix-nil all = record { rest = all; is = refl }

pub IsPrefix-cons : {X : Type 0} (x : X) (cut all : List X) → IsPrefix cut all → IsPrefix (x ∷ cut) (x ∷ all)
IsPrefix-cons x cut all h = record { rest = h.rest; is = ap (λ xs. x ∷ xs) h.is }

-- one byte string cut at the same places, as far as it goes
abbrev Extends : Split → Split → Type 0
Extends cut all = (more : List ℕ) × (((all.pieces ≡ cut.pieces) × (all.rest ≡ cut.rest ++ more)) ⊎ ((others : List (List ℕ)) × (all.pieces ≡ cut.pieces ++ (cut.rest ++ more) ∷ others)))

Extends-none : (all : Split) → Extends (record { pieces = []; rest = [] }) all
Extends-none all = by_pieces all.pieces refl
  where
    by_pieces : (pieces : List (List ℕ)) → all.pieces ≡ pieces → Extends (record { pieces = []; rest = [] }) all
    by_pieces [] e = (all.rest, inl (e, refl))
    by_pieces (piece ∷ pieces) e = (piece, inr (pieces, e))

put_piece-extends : (b : ℕ) (cut all : Split) → Extends cut all → Extends (put_piece b cut) (put_piece b all)
put_piece-extends b cut all (more, inl e) = (more, inl (ap (λ pieces. (b ∷ []) ∷ pieces) e.0, e.1))
put_piece-extends b cut all (more, inr e) = (more, inr (e.0, ap (λ pieces. (b ∷ []) ∷ pieces) e.1))

-- one byte more in front
front-extends : (b : ℕ) (pieces : List (List ℕ)) (rest : List ℕ) (all_pieces : List (List ℕ)) (all_rest : List ℕ) → Extends (record { pieces = pieces; rest = rest }) (record { pieces = all_pieces; rest = all_rest }) → Extends (put_front b (record { pieces = pieces; rest = rest })) (put_front b (record { pieces = all_pieces; rest = all_rest }))
front-extends b [] rest all_pieces all_rest (more, inl e) = rw (e.0) (more, inl (refl, ap (λ bytes. b ∷ bytes) e.1))
front-extends b [] rest all_pieces all_rest (more, inr e) = rw (e.1) (more, inr (e.0, refl))
front-extends b (piece ∷ pieces) rest all_pieces all_rest (more, inl e) = rw (e.0) (more, inl (refl, e.1))
front-extends b (piece ∷ pieces) rest all_pieces all_rest (more, inr e) = rw (e.1) (more, inr (e.0, refl))

step-extends : (ends : Bool) (b : ℕ) (cut all cut' all' : Split) → Extends cut all → Extends cut' all' → Extends (cond ends (put_piece b cut) (put_front b cut')) (cond ends (put_piece b all) (put_front b all'))
step-extends true b cut all cut' all' h k = put_piece-extends b cut all h
step-extends false b cut all cut' all' h k = front-extends b cut'.pieces cut'.rest all'.pieces all'.rest k

split-extends : (inside : Bool) (bytes more : List ℕ) → Extends (split inside bytes) (split inside (bytes ++ more))
split-extends inside [] more = Extends-none (split inside more)
split-extends inside (b ∷ bytes) more = step-extends ((b == 10) && not inside) b (split false bytes) (split false (bytes ++ more))
    (split (cond (b == 34) (not inside) inside) bytes) (split (cond (b == 34) (not inside) inside) (bytes ++ more))
    (split-extends false bytes more) (split-extends (cond (b == 34) (not inside) inside) bytes more)

-- The same pieces with the same ending, or the first of them, up to where the stream was cut off.
abbrev pub PiecesCut : Pieces → Pieces → Type 0
PiecesCut cut all = (cut ≡ all) ⊎ ((cut.ending ≡ unread) × IsPrefix cut.pieces all.pieces)

then_pieces-cut : (piece : List ℕ) (cut all : Pieces) → PiecesCut cut all → PiecesCut (then_pieces piece cut) (then_pieces piece all)
then_pieces-cut piece cut all (inl e) = inl (ap (λ others. then_pieces piece others) e)
then_pieces-cut piece cut all (inr e) = inr (e.0, IsPrefix-cons piece cut.pieces all.pieces e.1)

test-cut : (test : Bool) (same cut all : Pieces) → PiecesCut cut all → PiecesCut (cond test same cut) (cond test same all)
test-cut true same cut all h = inl refl
test-cut false same cut all h = h

up_to_too_long-cut : (pieces : List (List ℕ)) (cut all : Pieces) → PiecesCut cut all → PiecesCut (up_to_too_long pieces cut) (up_to_too_long pieces all)
up_to_too_long-cut [] cut all h = h
up_to_too_long-cut (piece ∷ pieces) cut all h = test-cut (ltb most_in_piece (length piece)) (ended (bad fault.TooLong)) (then_pieces piece (up_to_too_long pieces cut)) (then_pieces piece (up_to_too_long pieces all))
    (then_pieces-cut piece (up_to_too_long pieces cut) (up_to_too_long pieces all) (up_to_too_long-cut pieces cut all h))

up_to_too_long-append : (one other : List (List ℕ)) (last : Pieces) → up_to_too_long (one ++ other) last ≡ up_to_too_long one (up_to_too_long other last)
up_to_too_long-append [] other last = refl
up_to_too_long-append (piece ∷ one) other last = ap (λ others. cond (ltb most_in_piece (length piece)) (ended (bad fault.TooLong)) (then_pieces piece others)) (up_to_too_long-append one other last)

too_long : (rest more : List ℕ) → ltb most_in_piece (length rest) ≡ true → ltb most_in_piece (length (rest ++ more)) ≡ true
too_long rest more e = lt-ltb most_in_piece (length (rest ++ more)) (omega (arith, ltb-true most_in_piece (length rest) e, length-append rest more))

-- the stream of these bytes, cut off behind them
abbrev cut_off : List ℕ → Stream
cut_off bytes = record { bytes = bytes; whole = false }

last_pieces-cut : (limit : ℕ) (bytes rest more : List ℕ) (all : Pieces) → length bytes ≤ limit → (ltb most_in_piece (length (rest ++ more)) ≡ true → all ≡ ended (bad fault.TooLong)) → PiecesCut (last_pieces limit (cut_off bytes) rest) all
last_pieces-cut limit bytes rest more all fits long = elim (cases_Bool (ltb most_in_piece (length rest))) [
  | inl e ↦ rw e (inl (sym (long (too_long rest more e))))
  | inr e ↦ rw e (rw (le-ltb limit (length bytes) fits) (inr (refl, IsPrefix-nil all.pieces)))
]

last_pieces-long : (limit : ℕ) (stream : Stream) (rest : List ℕ) → ltb most_in_piece (length rest) ≡ true → last_pieces limit stream rest ≡ ended (bad fault.TooLong)
last_pieces-long limit stream rest e = rw e refl

up_to_too_long-long : (piece : List ℕ) (pieces : List (List ℕ)) (last : Pieces) → ltb most_in_piece (length piece) ≡ true → up_to_too_long (piece ∷ pieces) last ≡ ended (bad fault.TooLong)
up_to_too_long-long piece pieces last e = rw e refl

-- a stream within its limit, of which the bytes behind these were cut off
extended-cut : (limit : ℕ) (bytes : List ℕ) (stream : Stream) (cut all : Split) → length bytes ≤ limit → Extends cut all → PiecesCut (up_to_too_long cut.pieces (last_pieces limit (cut_off bytes) cut.rest)) (up_to_too_long all.pieces (last_pieces limit stream all.rest))
extended-cut limit bytes stream cut all fits (more, inl e) =
    subst (λ pieces. PiecesCut (up_to_too_long cut.pieces (last_pieces limit (cut_off bytes) cut.rest)) (up_to_too_long pieces (last_pieces limit stream all.rest))) (sym e.0)
    (up_to_too_long-cut cut.pieces (last_pieces limit (cut_off bytes) cut.rest) (last_pieces limit stream all.rest)
    (last_pieces-cut limit bytes cut.rest more (last_pieces limit stream all.rest) fits
    (λ long. last_pieces-long limit stream all.rest (subst (λ rest. ltb most_in_piece (length rest) ≡ true) (sym e.1) long))))
extended-cut limit bytes stream cut all fits (more, inr e) =
    subst (λ pieces. PiecesCut (up_to_too_long cut.pieces (last_pieces limit (cut_off bytes) cut.rest)) pieces)
    (sym (ap (λ pieces. up_to_too_long pieces (last_pieces limit stream all.rest)) e.1 ∙ up_to_too_long-append cut.pieces ((cut.rest ++ more) ∷ e.0) (last_pieces limit stream all.rest)))
    (up_to_too_long-cut cut.pieces (last_pieces limit (cut_off bytes) cut.rest) (up_to_too_long ((cut.rest ++ more) ∷ e.0) (last_pieces limit stream all.rest))
    (last_pieces-cut limit bytes cut.rest more (up_to_too_long ((cut.rest ++ more) ∷ e.0) (last_pieces limit stream all.rest)) fits
    (up_to_too_long-long (cut.rest ++ more) e.0 (last_pieces limit stream all.rest))))

within_limit : (limit : ℕ) (bytes more : List ℕ) (whole : Bool) → length bytes ≤ limit → PiecesCut (pieces_of limit (cut_off bytes)) (pieces_of limit (record { bytes = bytes ++ more; whole = whole }))
within_limit limit bytes more whole fits =
    subst (λ taken. PiecesCut (up_to_too_long (split false taken).pieces (last_pieces limit (cut_off bytes) (split false taken).rest)) (pieces_of limit (record { bytes = bytes ++ more; whole = whole }))) (sym (take_all limit bytes fits))
    (subst (λ taken. PiecesCut (up_to_too_long (split false bytes).pieces (last_pieces limit (cut_off bytes) (split false bytes).rest)) (up_to_too_long (split false taken).pieces (last_pieces limit (record { bytes = bytes ++ more; whole = whole }) (split false taken).rest))) (sym taken_is)
    (extended-cut limit bytes (record { bytes = bytes ++ more; whole = whole }) (split false bytes) (split false (bytes ++ take (limit - length bytes) more)) fits (split-extends false bytes (take (limit - length bytes) more))))
  where
    taken_is : take limit (bytes ++ more) ≡ bytes ++ take (limit - length bytes) more
    taken_is = ap (λ n. take n (bytes ++ more)) (omega arith) ∙ take-append-add bytes more (limit - length bytes)

-- past the limit it doesn't matter what comes behind
past_limit : (limit : ℕ) (bytes more : List ℕ) (whole : Bool) → limit < length bytes → pieces_of limit (cut_off bytes) ≡ pieces_of limit (record { bytes = bytes ++ more; whole = whole })
past_limit limit bytes more whole over =
    subst (λ taken. pieces_of limit (cut_off bytes) ≡ up_to_too_long (split false taken).pieces (last_pieces limit (record { bytes = bytes ++ more; whole = whole }) (split false taken).rest)) (sym (take-append-le limit bytes more (omega arith)))
    (ap (λ last. up_to_too_long (split false (take limit bytes)).pieces last) (rw (lt-ltb limit (length bytes) over) (rw (lt-ltb limit (length (bytes ++ more)) (omega (arith, length-append bytes more))) refl)))

pub pieces_of-cut : (limit : ℕ) (bytes more : List ℕ) (whole : Bool) → PiecesCut (pieces_of limit (cut_off bytes)) (pieces_of limit (record { bytes = bytes ++ more; whole = whole }))
pieces_of-cut limit bytes more whole = elim (cases_lt limit (length bytes)) [
  | inl over ↦ inl (past_limit limit bytes more whole over)
  | inr fits ↦ within_limit limit bytes more whole fits
]
