-- What was taken of the reports of each core, and what a step adds to it.
use Rattle.std.proofs.Common.{◌≡◌, ℕ, ◌<◌, inl, inr, Bool, cond, List, [], ◌∷◌, ◌++◌, length, map, set, get_or, Some, None, Option, refl, ap, sym, ◌∙◌, arith}
use Rattle.std.specs.List.{range_with_len}
use Rattle.std.proofs.lemmas.List.{length-set, get_or-set_same, get_or-set_other}
use Rattle.std.proofs.lemmas.List.FromFn.{length-map-range_with_len, get_or-map-range_with_len, fill_by_all}
use Rattle.hj_base.specs.Journals.{taken, takes}
use Rattle.hj_msg.specs.declared.event.Event.{Event}
use Rattle.hj_msg.specs.declared.message.Report.{Report}
use Rattle.hj_collect.specs.StandsFor.{with_report}
use Rattle.hj_chain.specs.declared.actor.Actor.{Actor}
use Rattle.hj_chain.specs.Chain.{ChainState, Action, asks, drives, handles, collects}
use Rattle.hj_chain.specs.Reached.{Reached, StepHistory, history_of, recorded, with_last, collected_of}
use Rattle.hj_chain.proofs.Ways.{same_place}
use Rattle.hj_chain.proofs.Journals.{takes-append}

module _ {P : Type 0} {matches : P → P → Bool} {n most : ℕ} {schedule : List Actor} {events : List (Event P)} {chain : ChainState P} (reached : Reached matches n most schedule events chain) where
  pub one-each : length (collected_of reached) ≡ n
  one-each = length-map-range_with_len (λ k. takes ((history_of reached).collected k)) 0 n

  pub collected-at : (k : ℕ) → k < n → get_or (collected_of reached) k [] ≡ takes ((history_of reached).collected k)
  collected-at k low = get_or-map-range_with_len (λ j. takes ((history_of reached).collected j)) 0 n k k [] low (omega arith)

-- the lists with what an action takes
abbrev pub told : {P : Type 0} → Option (Action P) → List (List (Report P)) → List (List (Report P))
told (Some (collects place report)) lists = with_report place report lists
told other lists = lists

abbrev taken_of : {P : Type 0} → ℕ → StepHistory P → List (List (Report P))
taken_of n history = map (λ k. takes (history.collected k)) (range_with_len 0 n)

module _ {P : Type 0} (matches : P → P → Bool) (chain : ChainState P) (n number : ℕ) (history : StepHistory P) where
  with-report : (place : ℕ) (report : Report P) → taken_of n (recorded matches chain number (Some (collects place report)) history) ≡ with_report place report (taken_of n history)
  with-report place report = sym (fill_by_all new (set lists place more) n [] (length-set lists place more ∙ all) each)
    where
      lists : List (List (Report P))
      lists = taken_of n history

      more : List (Report P)
      more = get_or lists place [] ++ report ∷ []

      new : ℕ → List (Report P)
      new k = takes (with_last place (taken number report) history.collected k)

      all : length lists ≡ n
      all = length-map-range_with_len (λ k. takes (history.collected k)) 0 n

      at : (k : ℕ) → k < n → get_or lists k [] ≡ takes (history.collected k)
      at k low = get_or-map-range_with_len (λ j. takes (history.collected j)) 0 n k k [] low (omega arith)

      each : (k : ℕ) → k < n → get_or (set lists place more) k [] ≡ new k
      each k low = elim (same_place k place) [
        | inl w ↦
            let here : get_or (set lists place more) k [] ≡ more = ap (λ j. get_or (set lists place more) j []) w.0 ∙ get_or-set_same lists place more [] (omega (arith, low, w.0, all)) in
            let old : more ≡ takes (history.collected k) ++ report ∷ [] = ap (λ rs. rs ++ report ∷ []) (ap (λ j. get_or lists j []) (sym w.0) ∙ at k low) in
            here ∙ old ∙ sym (ap (λ b. takes (cond b (history.collected k ++ taken number report ∷ []) (history.collected k))) w.1 ∙ takes-append (history.collected k) (taken number report ∷ []))
        | inr w ↦ get_or-set_other lists place k more [] w.0 ∙ at k low ∙ sym (ap (λ b. takes (cond b (history.collected k ++ taken number report ∷ []) (history.collected k))) w.1)
      ]

  pub told-recorded : (action : Option (Action P)) → taken_of n (recorded matches chain number action history) ≡ told action (taken_of n history)
  told-recorded None = refl
  told-recorded (Some asks) = refl
  told-recorded (Some (drives turn)) = refl
  told-recorded (Some (handles place end message)) = refl
  told-recorded (Some (collects place report)) = with-report place report
