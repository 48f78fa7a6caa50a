-- The chain in which nothing was done yet.
use Rattle.std.proofs.Common.{◌≡◌, ℕ, zero, suc, arith, map, ◌+◌, ◌≤◌, Bool, false, List, [], ◌∷◌, replicate, refl, ap, sym, subst, Some}
use Rattle.hj_msg.specs.declared.feed.Given.{Given}
use Rattle.hj_msg.specs.declared.message.Msg.{Msg}
use Rattle.hj_msg.specs.declared.message.Report.{Report}
use Rattle.hj_msg.specs.Core as core
use Rattle.hj_msg.specs.Feed.{IsFresh, FeedState, Answers, event_in}
use Rattle.hj_driver.specs.Driver.{DriverState, new_driver}
use Rattle.hj_msg.specs.declared.event.Pair.{Pair}
use Rattle.hj_msg.specs.Met.{met}
use Rattle.hj_collect.specs.Collector.{CollectorState, nothing_taken}
use Rattle.hj_collect.proofs.Following.{new_follows}
use Rattle.std.specs.List.{range_with_len}
use Rattle.std.specs.List.Sorted.{IsPermutation}
use Rattle.std.proofs.lemmas.List.Sorted.{IsPermutation-refl}
use Rattle.hj_chain.specs.Queues.{Queues, no_messages}
use Rattle.hj_chain.specs.Chain.{Contents, capacity, empty_chain}
use Rattle.hj_chain.specs.Reached.{begins}
use Rattle.hj_chain.specs.Steps.{GoesWith}
use Rattle.hj_msg.proofs.Feeding.{well-nothing}
use Rattle.hj_chain.proofs.Accounts.{Accounts}
use Rattle.hj_chain.proofs.Goings.{FeedAfter, feed_asked, stands-state}

pub is_empty_chain : {P J : Type 0} (join : J) (n flight : ℕ) (first : Given P) (driver : DriverState) (links : List (Queues (Msg P))) (cores : List (core.State P)) (reports : List (List (Report P))) (collector : CollectorState)
    (kept : List (Pair P)) → driver ≡ new_driver flight → links ≡ replicate (n + 1) (no_messages (capacity flight)) → cores ≡ replicate n core.empty_state → reports ≡ replicate n [] → collector ≡ nothing_taken n → kept ≡ []
    → ◌≡◌ {A = Contents P J} (record { join = join; state = record { driver = driver; next = Some first; links = links; cores = cores; reports = reports; over = false }; collector = collector; kept = kept })
    (record { join = join; state = empty_chain n flight first; collector = nothing_taken n; kept = [] })
is_empty_chain join n flight first driver links cores reports collector kept driver_is links_are cores_are reports_are collector_is none_kept = cc

-- nothing was taken of the cores' reports
pub nothing : {X : Type 0} (from n : ℕ) → map (λ k. []) (range_with_len from n) ≡ replicate {A = List X} n []
nothing from zero = refl
nothing from (suc n) = ap (λ lists. [] ∷ lists) (nothing (from + 1) n)

pub none_met : {P : Type 0} (n : ℕ) → met {P = P} (replicate n []) ≡ []
none_met zero = refl
none_met (suc n) = none_met n

no-accounts : {P : Type 0} (n : ℕ) → Accounts {P = P} (nothing_taken n) [] 0 (replicate n [])
no-accounts {P} n = record {
  taken = new_follows n;
  within = omega arith;
  released = subst (λ (pairs : List (Pair P)). IsPermutation [] pairs) (sym (none_met n)) (IsPermutation-refl []);
}

pub goes-first : {P J : Type 0} (predicate : J → P → P → Bool) (chain : Contents P J) (n flight : ℕ) (join : J) (first : Given P) (old new : FeedState) → 1 ≤ n → IsFresh old → Answers first old new
    → chain ≡ record { join = join; state = empty_chain n flight first; collector = nothing_taken n; kept = [] } → GoesWith predicate chain new
goes-first {P} {J} predicate chain n flight join first old new some fresh answers is =
    let feed : FeedAfter [] (event_in (Some first)) (Some first) new = feed_asked [] first old new (well-nothing P) fresh answers in
    subst (λ (c : Contents P J). GoesWith predicate c new) (sym is)
    (record {
      schedule = [];
      events = event_in (Some first);
      given = 0;
      stands =
          stands-state predicate (record { join = join; state = empty_chain n flight first; collector = nothing_taken n; kept = [] }) n flight [] (event_in (Some first)) 0 (replicate n [])
          (record { reached = begins some first; are = nothing 0 n }) (no-accounts n);
      well_formed = feed.well_formed;
      numbering = feed.numbering;
      stopped = feed.stopped;
    })
