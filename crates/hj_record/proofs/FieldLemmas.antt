-- Fields in a buffer, by their ends.
use Rattle.std.proofs.Common.{◌≡◌, cond, ℕ, zero, suc, ◌+◌, ◌-◌, ◌<◌, ◌≤◌, List, [], ◌∷◌, ◌++◌, length, get_or, set, take, drop, slice_range, slice_get, Some, None, refl, sym, ap, subst, ◌∙◌, arith}
use Rattle.std.proofs.lemmas.List.{length-append, drop_at, take_all, drop-append-le, take-append-le, length-drop}
use Rattle.std.proofs.lemmas.Bool.{ne_eqb}
use Rattle.std.proofs.lemmas.Option.{slice_get_past}
use Rattle.hj_record.specs.Fields.{AreEndsFrom, AreEnds, fields_from, fields_in, start_at, extend_last}

pub length-fields_from : (start : ℕ) (bytes ends : List ℕ) → length (fields_from start bytes ends) ≡ length ends
length-fields_from start bytes [] = refl
length-fields_from start bytes (end ∷ ends) = ap suc (length-fields_from end bytes ends)

-- where the field at a place begins
abbrev start_from : ℕ → List ℕ → ℕ → ℕ
start_from start ends zero = start
start_from start ends (suc at) = get_or ends at 0

start-le-size : (start : ℕ) (ends : List ℕ) (size : ℕ) → AreEndsFrom start ends size → start ≤ size
start-le-size start [] size are = omega arith
start-le-size start (end ∷ ends) size are = omega (arith, are.0, start-le-size end ends size are.1)

bounds_from : (start : ℕ) (ends : List ℕ) (size at : ℕ) → AreEndsFrom start ends size → at < length ends → (start_from start ends at ≤ get_or ends at 0) × (get_or ends at 0 ≤ size)
bounds_from start [] size at are lt = absurd (omega arith)
bounds_from start (end ∷ ends) size zero are lt = (are.0, start-le-size end ends size are.1)
bounds_from start (end ∷ ends) size (suc zero) are lt = bounds_from end ends size 0 are.1 (omega arith)
bounds_from start (end ∷ ends) size (suc (suc at)) are lt = bounds_from end ends size (suc at) are.1 (omega arith)

slice_get-fields_from : (start : ℕ) (bytes ends : List ℕ) (at : ℕ) → at < length ends → slice_get (fields_from start bytes ends) at ≡ Some (slice_range bytes (start_from start ends at) (get_or ends at 0))
slice_get-fields_from start bytes [] at lt = absurd (omega arith)
slice_get-fields_from start bytes (end ∷ ends) zero lt = refl
slice_get-fields_from start bytes (end ∷ ends) (suc zero) lt = slice_get-fields_from end bytes ends 0 (omega arith)
slice_get-fields_from start bytes (end ∷ ends) (suc (suc at)) lt = slice_get-fields_from end bytes ends (suc at) (omega arith)

start_from-at : (ends : List ℕ) (at : ℕ) → start_from 0 ends at ≡ start_at ends at
start_from-at ends zero = refl
start_from-at ends (suc at) =
    let e : at ≡ suc at - 1 = omega arith in
    ap (λ k. get_or ends k 0) e ∙ ap (λ b. cond b 0 (get_or ends (suc at - 1) 0)) (sym (ne_eqb (suc at) 0 (λ z. omega arith)))

pub bounds_at : (ends : List ℕ) (size at : ℕ) → AreEnds ends size → at < length ends → (start_at ends at ≤ get_or ends at 0) × (get_or ends at 0 ≤ size)
bounds_at ends size at are lt = subst (λ s. (s ≤ get_or ends at 0) × (get_or ends at 0 ≤ size)) (start_from-at ends at) (bounds_from 0 ends size at are lt)

pub slice_get-fields_in : (bytes ends : List ℕ) (at : ℕ) → at < length ends → slice_get (fields_in bytes ends) at ≡ Some (slice_range bytes (start_at ends at) (get_or ends at 0))
slice_get-fields_in bytes ends at lt = slice_get-fields_from 0 bytes ends at lt ∙ ap (λ s. Some (slice_range bytes s (get_or ends at 0))) (start_from-at ends at)

pub slice_get-fields_in_past : (bytes ends : List ℕ) (at : ℕ) → length ends ≤ at → slice_get (fields_in bytes ends) at ≡ None
slice_get-fields_in_past bytes ends at past = slice_get_past (fields_in bytes ends) at (omega (arith, length-fields_from 0 bytes ends))

-- ---- a field more

AreEndsFrom_push : (start : ℕ) (ends : List ℕ) (size end : ℕ) → AreEndsFrom start ends size → size ≤ end → AreEndsFrom start (ends ++ end ∷ []) end
AreEndsFrom_push start [] size end are le = (omega arith, refl)
AreEndsFrom_push start (first ∷ ends) size end are le = (are.0, AreEndsFrom_push first ends size end are.1 le)

pub AreEnds_push : (ends : List ℕ) (size end more : ℕ) → AreEnds ends size → size ≤ end → end ≡ more → AreEnds (ends ++ end ∷ []) more
AreEnds_push ends size end more are le is = subst (AreEndsFrom 0 (ends ++ end ∷ [])) is (AreEndsFrom_push 0 ends size end are le)

range_before : (bytes field : List ℕ) (start end : ℕ) → start ≤ end → end ≤ length bytes → slice_range (bytes ++ field) start end ≡ slice_range bytes start end
range_before bytes field start end le within =
    ap (take (end - start)) (drop-append-le start bytes field (omega arith))
    ∙ take-append-le (end - start) (drop start bytes) field (omega (arith, length-drop start bytes))

range_behind : (bytes field : List ℕ) (start end : ℕ) → start ≡ length bytes → end ≡ length (bytes ++ field) → slice_range (bytes ++ field) start end ≡ field
range_behind bytes field start end is at =
    ap (take (end - start)) (drop_at bytes field start (sym is))
    ∙ take_all (end - start) field (omega (arith, length-append bytes field))

fields_from_push : (start : ℕ) (bytes ends field : List ℕ) (end : ℕ) → AreEndsFrom start ends (length bytes) → end ≡ length (bytes ++ field) → fields_from start (bytes ++ field) (ends ++ end ∷ []) ≡ fields_from start bytes ends ++ field ∷ []
fields_from_push start bytes [] field end are at = ap (λ x. x ∷ []) (range_behind bytes field start end are at)
fields_from_push start bytes (first ∷ ends) field end are at =
    ap (λ x. x ∷ fields_from first (bytes ++ field) (ends ++ end ∷ [])) (range_before bytes field start first are.0 (start-le-size first ends (length bytes) are.1))
    ∙ ap (λ xs. slice_range bytes start first ∷ xs) (fields_from_push first bytes ends field end are.1 at)

pub fields_in_push : (bytes ends field : List ℕ) (end : ℕ) → AreEnds ends (length bytes) → end ≡ length (bytes ++ field) → fields_in (bytes ++ field) (ends ++ end ∷ []) ≡ fields_in bytes ends ++ field ∷ []
fields_in_push bytes ends field end are at = fields_from_push 0 bytes ends field end are at

-- ---- more bytes in the last field

pub extend_last-push : (fields : List (List ℕ)) (field more : List ℕ) → extend_last (fields ++ field ∷ []) more ≡ fields ++ (field ++ more) ∷ []
extend_last-push [] field more = refl
extend_last-push (first ∷ []) field more = refl
extend_last-push (first ∷ next ∷ fields) field more = ap (λ fs. first ∷ fs) (extend_last-push (next ∷ fields) field more)

AreEndsFrom_grow : (start : ℕ) (ends : List ℕ) (size end at : ℕ) → AreEndsFrom start ends size → size ≤ end → at + 1 ≡ length ends → AreEndsFrom start (set ends at end) end
AreEndsFrom_grow start [] size end at are le last = absurd (omega arith)
AreEndsFrom_grow start (first ∷ []) size end at are le last =
    let zero_is : at ≡ 0 = omega arith in
    rw zero_is (omega (arith, are.0, are.1), refl)
AreEndsFrom_grow start (first ∷ next ∷ ends) size end zero are le last = absurd (omega arith)
AreEndsFrom_grow start (first ∷ next ∷ ends) size end (suc at) are le last = (are.0, AreEndsFrom_grow first (next ∷ ends) size end at are.1 le (omega arith))

pub AreEnds_grow : (ends : List ℕ) (size end more at : ℕ) → AreEnds ends size → size ≤ end → end ≡ more → at + 1 ≡ length ends → AreEnds (set ends at end) more
AreEnds_grow ends size end more at are le is last = subst (AreEndsFrom 0 (set ends at end)) is (AreEndsFrom_grow 0 ends size end at are le last)

range_longer : (bytes more : List ℕ) (start end size : ℕ) → start ≤ size → size ≡ length bytes → end ≡ length (bytes ++ more) → slice_range (bytes ++ more) start end ≡ slice_range bytes start size ++ more
range_longer bytes more start end size le is at =
    let sizes = length-append bytes more in
    let left = length-drop start bytes in
    ap (take (end - start)) (drop-append-le start bytes more (omega arith))
    ∙ take_all (end - start) (drop start bytes ++ more) (omega (arith, length-append (drop start bytes) more))
    ∙ ap (λ x. x ++ more) (sym (take_all (size - start) (drop start bytes) (omega arith)))

fields_from_grow : (start : ℕ) (bytes ends more : List ℕ) (end at : ℕ) → AreEndsFrom start ends (length bytes) → end ≡ length (bytes ++ more) → at + 1 ≡ length ends → fields_from start (bytes ++ more) (set ends at end) ≡ extend_last (fields_from start bytes ends) more
fields_from_grow start bytes [] more end at are is last = absurd (omega arith)
fields_from_grow start bytes (first ∷ []) more end at are is last =
    let zero_is : at ≡ 0 = omega arith in
    rw zero_is (ap (λ x. x ∷ []) (range_longer bytes more start end first are.0 are.1 is))
fields_from_grow start bytes (first ∷ next ∷ ends) more end zero are is last = absurd (omega arith)
fields_from_grow start bytes (first ∷ next ∷ ends) more end (suc at) are is last =
    ap (λ x. x ∷ fields_from first (bytes ++ more) (set (next ∷ ends) at end)) (range_before bytes more start first are.0 (start-le-size first (next ∷ ends) (length bytes) are.1))
    ∙ ap (λ xs. slice_range bytes start first ∷ xs) (fields_from_grow first bytes (next ∷ ends) more end at are.1 is (omega arith))

pub fields_in_grow : (bytes ends more : List ℕ) (end at : ℕ) → AreEnds ends (length bytes) → end ≡ length (bytes ++ more) → at + 1 ≡ length ends → fields_in (bytes ++ more) (set ends at end) ≡ extend_last (fields_in bytes ends) more
fields_in_grow bytes ends more end at are is last = fields_from_grow 0 bytes ends more end at are is last
