-- How many messages of a kind come through along the links.
use Rattle.std.proofs.Common.{◌≡◌, ℕ, zero, suc, ◌+◌, ◌-◌, ◌<◌, ◌≤◌, ap, arith}

-- Of n + 1 links, `sent k` messages were put in at one end and `came k` taken at the other; each that came at a place was sent on from
-- there over the next link.
pub record PassesOn (sent came under_way : ℕ → ℕ) (n : ℕ) : Type 0 where
  pub each : (k : ℕ) → k ≤ n → sent k ≡ came k + under_way k
  pub sent_on : (k : ℕ) → k < n → sent (suc k) ≡ came k

module _ (sent came under_way : ℕ → ℕ) (n : ℕ) (passes : PassesOn sent came under_way n) where
  -- no more come further along
  pub fewer_sent : (k : ℕ) → k ≤ n → sent k ≤ sent 0
  fewer_sent zero within = omega arith
  fewer_sent (suc k) within = omega (arith, passes.sent_on k (omega (arith, within)), passes.each k (omega (arith, within)), fewer_sent k (omega (arith, within)))

  further : (k d : ℕ) → k + d ≤ n → came (k + d) ≤ came k
  further k zero within = let e : k + 0 ≡ k = omega arith in omega (arith, ap came e)
  further k (suc d) within =
      let next : k + suc d ≡ suc (k + d) = omega arith in
      omega (arith, ap came next, passes.each (suc (k + d)) (omega (arith, within)), passes.sent_on (k + d) (omega (arith, within)), further k d (omega (arith, within)))

  pub fewer_came : (k : ℕ) → k ≤ n → came n ≤ came k
  fewer_came k within = let d : ℕ = n - k in let e : k + d ≡ n = omega arith in omega (arith, ap came e, further k d (omega (arith, e)))

  -- what is under way on one link was sent over the first one, and has not come over the last one
  pub few_under_way : (k : ℕ) → k ≤ n → under_way k + came n ≤ sent 0
  few_under_way k within = omega (arith, passes.each k within, fewer_sent k within, fewer_came k within)

  -- where nothing is under way, all that was sent came everywhere
  pub all_came : ((k : ℕ) → k ≤ n → under_way k ≡ 0) → (k : ℕ) → k ≤ n → came k ≡ sent 0
  all_came none zero within = omega (arith, passes.each zero within, none zero within)
  all_came none (suc k) within =
      omega (arith, passes.each (suc k) within, none (suc k) within, passes.sent_on k (omega (arith, within)), all_came none k (omega (arith, within)))

-- The same to the other side.
pub record PassesBack (sent came under_way : ℕ → ℕ) (n : ℕ) : Type 0 where
  pub each : (k : ℕ) → k ≤ n → sent k ≡ came k + under_way k
  pub sent_on : (k : ℕ) → k < n → sent k ≡ came (suc k)

module _ (sent came under_way : ℕ → ℕ) (n : ℕ) (passes : PassesBack sent came under_way n) where
  pub fewer_came_back : (k d : ℕ) → k + d ≤ n → came k ≤ came (k + d)
  fewer_came_back k zero within = let e : k + 0 ≡ k = omega arith in omega (arith, ap came e)
  fewer_came_back k (suc d) within =
      let next : k + suc d ≡ suc (k + d) = omega arith in
      omega (arith, ap came next, passes.each (k + d) (omega (arith, within)), passes.sent_on (k + d) (omega (arith, within)), fewer_came_back k d (omega (arith, within)))

  fewer_sent_from : (k d : ℕ) → k + d ≡ n → sent k ≤ sent n
  fewer_sent_from k zero is = let e : k ≡ n = omega (arith, is) in omega (arith, ap sent e)
  fewer_sent_from k (suc d) is =
      omega (arith, passes.sent_on k (omega (arith, is)), passes.each (suc k) (omega (arith, is)), fewer_sent_from (suc k) d (omega (arith, is)))

  pub fewer_sent_back : (k : ℕ) → k ≤ n → sent k ≤ sent n
  fewer_sent_back k within = fewer_sent_from k (n - k) (omega (arith, within))

  pub few_under_way_back : (k : ℕ) → k ≤ n → under_way k + came 0 ≤ sent n
  few_under_way_back k within =
      let e : 0 + k ≡ k = omega arith in
      omega (arith, passes.each k within, fewer_sent_back k within, ap came e, fewer_came_back 0 k (omega (arith, within)))

  pub all_came_back : ((k : ℕ) → k ≤ n → under_way k ≡ 0) → (k d : ℕ) → k + d ≡ n → came k ≡ sent n
  all_came_back none k zero is = let e : k ≡ n = omega (arith, is) in omega (arith, ap sent e, passes.each k (omega (arith, is)), none k (omega (arith, is)))
  all_came_back none k (suc d) is =
      omega (
        arith,
        passes.each k (omega (arith, is)),
        none k (omega (arith, is)),
        passes.sent_on k (omega (arith, is)),
        all_came_back none (suc k) d (omega (arith, is)),
      )
