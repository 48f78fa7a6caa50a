-- Numbered events: an event's number is its place, and what is known of the numbers that expiries name.
use Rattle.std.proofs.Common.{◌≡◌, ℕ, zero, suc, ◌+◌, ◌<◌, List, [], ◌∷◌, ◌++◌, length, get_or, length-append, append_assoc, Contains, arith, refl, sym, ap, subst, ◌∙◌}
use Rattle.hj_msg.specs.declared.event.Event.{Event}
use Rattle.hj_msg.specs.declared.event.Event.TheVariants.{Arrive, Expire}
use Rattle.hj_msg.specs.Event.{number, NumbersFrom, Expires, NamesLive, IsWellFormed}
use Rattle.hj_msg.proofs.Members.{Contains-cut}

number_at : {P : Type 0} (first : ℕ) (events : List (Event P)) (k : ℕ) (d : Event P) → NumbersFrom first events → k < length events → number (get_or events k d) ≡ first + k
number_at first [] k d h l = absurd (omega arith)
number_at first (event ∷ events) zero d h l = omega (arith, h.0)
number_at first (event ∷ events) (suc k) d h l = omega (arith, number_at (first + 1) events k d h.1 (omega arith))

pub number_is_place : {P : Type 0} (events : List (Event P)) (event : Event P) (h : Contains events event) → NumbersFrom 0 events → number event ≡ h.0
number_is_place events event h numbered = sym (ap number h.2) ∙ omega (arith, number_at 0 events h.0 event numbered h.1)

pub number_below : {P : Type 0} (events : List (Event P)) (event : Event P) → NumbersFrom 0 events → Contains events event → number event < length events
number_below events event numbered h = omega (arith, number_is_place events event h numbered, h.1)

same_read : {X : Type 0} (xs : List X) (k : ℕ) (x y : X) → k < length xs → get_or xs k x ≡ get_or xs k y
same_read [] k x y l = absurd (omega arith)
same_read (z ∷ zs) zero x y l = refl
same_read (z ∷ zs) (suc k) x y l = same_read zs k x y (omega arith)

-- no two events have the same number
pub same_number : {P : Type 0} (events : List (Event P)) (p q : Event P) → NumbersFrom 0 events → Contains events p → Contains events q → number p ≡ number q → p ≡ q
same_number events p q numbered h k e =
    let same : h.0 ≡ k.0 = omega (arith, number_is_place events p h numbered, number_is_place events q k numbered) in
    sym h.2 ∙ (ap (λ n. get_or events n p) same ∙ (same_read events k.0 p q k.1 ∙ k.2))

pub NumbersFrom-front : {P : Type 0} (first : ℕ) (front rest : List (Event P)) → NumbersFrom first (front ++ rest) → NumbersFrom first front
NumbersFrom-front first [] rest h = tt
NumbersFrom-front first (event ∷ events) rest h = (h.0, NumbersFrom-front (first + 1) events rest h.1)

number_next : {P : Type 0} (first : ℕ) (front rest : List (Event P)) (event : Event P) → NumbersFrom first (front ++ event ∷ rest) → number event ≡ first + length front
number_next first [] rest event h = omega (arith, h.0)
number_next first (e ∷ front) rest event h = omega (arith, number_next (first + 1) front rest event h.1)

-- what begins well-formed events is well formed
pub front_is_well_formed : {P : Type 0} (front rest : List (Event P)) → IsWellFormed (front ++ rest) → IsWellFormed front
front_is_well_formed front rest h = record {
  numbered = NumbersFrom-front 0 front rest h.numbered;
  live = λ before behind event e. h.live before (behind ++ rest) event (ap (λ events. events ++ rest) e ∙ append_assoc before (event ∷ behind) rest);
}

-- the event behind well-formed events has the next number
pub number-last : {P : Type 0} (front : List (Event P)) (event : Event P) → IsWellFormed (front ++ event ∷ []) → number event ≡ length front
number-last front event h = omega (arith, number_next 0 front [] event h.numbered)

pub NamesLive-last : {P : Type 0} (front : List (Event P)) (event : Event P) → IsWellFormed (front ++ event ∷ []) → NamesLive front event
NamesLive-last front event h = h.live front [] event refl

-- what expires has arrived
pub Expires-below : {P : Type 0} (events : List (Event P)) (of at : ℕ) → IsWellFormed events → Expires events of at → of < length events
Expires-below events of at h expiry =
    let cut = Contains-cut events (Expire (record { 0 = at }) expiry.0 (record { 0 = of })) expiry.1 in
    let arrived = (h.live cut.0 cut.1 (Expire (record { 0 = at }) expiry.0 (record { 0 = of })) cut.2).0 in
    let front = front_is_well_formed cut.0 (Expire (record { 0 = at }) expiry.0 (record { 0 = of }) ∷ cut.1) (subst IsWellFormed cut.2 h) in
    omega (arith, number_below cut.0 (Arrive (record { 0 = of }) expiry.0 arrived.0) front.numbered arrived.1, ap length cut.2, length-append cut.0 (Expire (record { 0 = at }) expiry.0 (record { 0 = of }) ∷ cut.1))
