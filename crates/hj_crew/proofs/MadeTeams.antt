-- Workers that are made one after another, from the last core to the first.
use Rattle.std.proofs.Common.{◌≡◌, ℕ, ◌+◌, ◌*◌, ◌/◌, ◌<◌, replicate, take, List, [], ◌∷◌, ◌++◌, All, length, get_or, ap, sym, ◌∙◌, subst, arith, append-nil, append_assoc, length-append, refl}
use Rattle.std.proofs.Math.Nat.{mul-div_cancel_left}
use Rattle.std.proofs.lemmas.List.{get_or_append_left, get_or_at, length-map, length-replicate, take_all}
use Rattle.hj_msg.specs.declared.message.Msg.{Msg}
use Rattle.hj_msg.specs.declared.message.Report.{Report}
use Rattle.hj_link.specs.Seen.{EndSeen}
use Rattle.hj_worker.specs.declared.ends.WorkerEnds.{WorkerEnds}
use Rattle.hj_worker.specs.Seen.{WorkerSeen}
use Rattle.hj_crew.specs.declared.ends.ChainEnds.{ChainEnds}
use Rattle.hj_crew.specs.declared.team.Team.{Team}
use Rattle.hj_crew.specs.Cores.{AreCores, AreEndsFor, AreUnused, GivesEnds, MakesTeams, left_of, reports_of, right_of}
use Rattle.hj_crew.specs.Deal.{AreEmpty, gathered}
use Rattle.hj_crew.specs.Teams.{workers_in}
use Rattle.hj_crew.proofs.Dealing.{fewer-empty, none-gathered}

-- what is so of all of a list is so of its first items
pub all-front : {X : Type 0} (P : X → Type 0) (xs front back : List X) → xs ≡ front ++ back → All P xs → All P front
all-front {X} P xs front back are all = λ k d low. subst P (ap (λ (l : List X). get_or l k d) are ∙ get_or_append_left front back d k low) (all k d (omega (arith, low, ap length are, length-append front back)))

-- and of its last one
pub last-of : {X : Type 0} (P : X → Type 0) (xs front : List X) (x : X) → xs ≡ front ++ x ∷ [] → All P xs → P x
last-of {X} P xs front x are all =
    subst P (ap (λ (l : List X). get_or l (length front) x) are ∙ get_or_at front x [] x (length front) refl) (all (length front) x (omega (arith, ap length are, length-append front (x ∷ []))))

module _ {P J : Type 0} (workers : List (WorkerSeen P J)) (old new : ChainEnds P) (given : GivesEnds workers old new) where
  pub unused-left : AreUnused old → AreUnused new
  unused-left unused = record {
    left = all-front (λ (end : EndSeen (Msg P)). end.journal ≡ []) old.left.items new.left.items (right_of workers) given.left unused.left;
    right = all-front (λ (end : EndSeen (Msg P)). end.journal ≡ []) old.right.items new.right.items (left_of workers) given.right unused.right;
    senders = all-front (λ (sender : EndSeen (Report P)). sender.journal ≡ []) old.senders.items new.senders.items (reports_of workers) given.senders unused.senders;
  }

  pub ends-left : (before after : ℕ) → before ≡ after + length workers → AreEndsFor before old → AreEndsFor after new
  ends-left before after fewer are = record {
    left = omega (arith, are.left, fewer, ap length given.left, length-append new.left.items (right_of workers), length-map workers (λ (w : WorkerSeen P J). w.ends.right));
    right = omega (arith, are.right, fewer, ap length given.right, length-append new.right.items (left_of workers), length-map workers (λ (w : WorkerSeen P J). w.ends.left));
    senders = omega (arith, are.senders, fewer, ap length given.senders, length-append new.senders.items (reports_of workers), length-map workers (λ (w : WorkerSeen P J). w.ends.reports));
  }

-- no worker
pub gives-none : {P J : Type 0} (ends : ChainEnds P) → GivesEnds {P = P} {J = J} [] ends ends
gives-none ends = record { left = sym (append-nil ends.left.items); right = sym (append-nil ends.right.items); senders = sym (append-nil ends.senders.items); receivers = refl }

-- one worker, over the last end of each list
pub gives-one : {P J : Type 0} (worker : WorkerSeen P J) (left right : EndSeen (Msg P)) (reports : EndSeen (Report P)) (old new : ChainEnds P) → worker.ends ≡ record { left = left; right = right; reports = reports }
    → old.right.items ≡ new.right.items ++ left ∷ [] → old.left.items ≡ new.left.items ++ right ∷ [] → old.senders.items ≡ new.senders.items ++ reports ∷ [] → new.receivers ≡ old.receivers → GivesEnds (worker ∷ []) old new
gives-one {P} worker left right reports old new ends lefts rights senders receivers = record {
  left = rights ∙ ap (λ (e : WorkerEnds P). new.left.items ++ e.right ∷ []) (sym ends);
  right = lefts ∙ ap (λ (e : WorkerEnds P). new.right.items ++ e.left ∷ []) (sym ends);
  senders = senders ∙ ap (λ (e : WorkerEnds P). new.senders.items ++ e.reports ∷ []) (sym ends);
  receivers = receivers;
}

-- one worker more
pub gives-more : {P J : Type 0} (worker : WorkerSeen P J) (workers : List (WorkerSeen P J)) (first old new : ChainEnds P) → GivesEnds workers first old → GivesEnds (worker ∷ []) old new → GivesEnds (worker ∷ workers) first new
gives-more {P} worker workers first old new before given = record {
  left = before.left ∙ ap (λ (l : List (EndSeen (Msg P))). l ++ right_of workers) given.left ∙ append_assoc new.left.items (worker.ends.right ∷ []) (right_of workers);
  right = before.right ∙ ap (λ (l : List (EndSeen (Msg P))). l ++ left_of workers) given.right ∙ append_assoc new.right.items (worker.ends.left ∷ []) (left_of workers);
  senders = before.senders ∙ ap (λ (l : List (EndSeen (Report P))). l ++ reports_of workers) given.senders ∙ append_assoc new.senders.items (worker.ends.reports ∷ []) (reports_of workers);
  receivers = given.receivers ∙ before.receivers;
}

pub makes-none : {P J S : Type 0} (join : J) (n : ℕ) (ends : ChainEnds P) (teams : List (Team P J S)) → 0 < n → workers_in teams ≡ replicate (length teams) [] → MakesTeams join n n ends ends teams
makes-none {P} {J} join n ends teams some none = record {
  workers = [];
  many = omega arith;
  cores = tt;
  ends = gives-none ends;
  dealt_out = ap (λ (hands : List (List (WorkerSeen P J))). gathered hands) none ∙ none-gathered (length teams);
  empty =
      fewer-empty (n * length teams / n) (length teams) (workers_in teams) (omega (arith, mul-div_cancel_left (length teams) {n = n} some))
      (ap (take (length teams)) none ∙ take_all (length teams) (replicate {A = List (WorkerSeen P J)} (length teams) []) (omega (arith, length-replicate {A = List (WorkerSeen P J)} (length teams) [])));
}

pub makes-more : {P J S : Type 0} (join : J) (n place next : ℕ) (first old new : ChainEnds P) (before after : List (Team P J S)) (worker : WorkerSeen P J) → next ≡ place + 1 → MakesTeams join n next first old before
    → worker.join ≡ join → worker.place ≡ place → worker.cores ≡ n → GivesEnds (worker ∷ []) old new → gathered (workers_in after) ≡ worker ∷ gathered (workers_in before) → AreEmpty (place * length after / n) (workers_in after)
    → MakesTeams join n place first new after
makes-more {P} {J} join n place next first old new before after worker is made joined at of given dealt empty = record {
  workers = worker ∷ made.workers;
  many = omega (arith, made.many, is);
  cores = (joined, at, of, subst (λ (k : ℕ). AreCores join n k made.workers) is made.cores);
  ends = gives-more worker made.workers first old new made.ends given;
  dealt_out = dealt ∙ ap (λ (workers : List (WorkerSeen P J)). worker ∷ workers) made.dealt_out;
  empty = empty;
}
