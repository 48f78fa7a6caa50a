-- A new desk, at which nothing happened.
use Rattle.std.proofs.Common.{◌≡◌, ◌<◌, ℕ, zero, suc, List, [], ◌∷◌, length, get_or, All, None, refl, ap, ap₂, sym, ◌∙◌, subst, arith, replicate, true≢false}
use Rattle.std.proofs.lemmas.List.Elements.{All-nil, All-weaker}
use Rattle.hj_base.specs.Journals.{takes}
use Rattle.hj_msg.specs.declared.message.Report.{Report}
use Rattle.hj_msg.specs.Feed.{FeedState, event_in, first_numbering, is_stop}
use Rattle.hj_driver.specs.Driver.{DriverState, new_driver}
use Rattle.hj_driver.specs.StandsFor as driver
use Rattle.hj_msg.proofs.Feeding.{well-nothing}
use Rattle.hj_driver.proofs.Standing.{stands-new}
use Rattle.hj_collect.specs.Collector.{CollectorState, nothing_taken}
use Rattle.hj_collect.specs.StandsFor as collect
use Rattle.hj_collect.proofs.Following.{new_follows}
use Rattle.hj_link.specs.Seen.{EndSeen}
use Rattle.hj_desk.specs.declared.desk.Desk.{Desk}
use Rattle.hj_desk.specs.Desk.{IsBefore, Gathered, StandsFor, collected, journals_of, nothing_happened}

module _ {P : Type 0} where
  none_taken : (receivers : List (EndSeen (Report P))) → All (λ (r : EndSeen (Report P)). r.journal ≡ []) receivers → collected receivers ≡ replicate (length receivers) []
  none_taken [] unused = refl
  none_taken (r ∷ receivers) unused = ap₂ (λ (x : List (Report P)) (xs : List (List (Report P))). x ∷ xs) (ap takes (unused 0 r (omega arith))) (none_taken receivers (λ k d low. unused (suc k) d (omega (arith, low))))

  none_noted : (receivers : List (EndSeen (Report P))) → All (λ (r : EndSeen (Report P)). r.journal ≡ []) receivers → (core : ℕ) → get_or (journals_of receivers) core [] ≡ []
  none_noted [] unused core = refl
  none_noted (r ∷ receivers) unused zero = unused 0 r (omega arith)
  none_noted (r ∷ receivers) unused (suc core) = none_noted receivers (λ k d low. unused (suc k) d (omega (arith, low))) core

  gathered-nothing : (receivers : List (EndSeen (Report P))) (n : ℕ) → n ≡ length receivers → All (λ (r : EndSeen (Report P)). r.journal ≡ []) receivers → Gathered receivers 0 (nothing_taken n) []
  gathered-nothing receivers n is unused =
      let lists : collected receivers ≡ replicate n [] = none_taken receivers unused ∙ ap (λ (k : ℕ). replicate k []) (sym is) in
      record {
        in_turn =
            All-weaker (λ (r : EndSeen (Report P)). r.journal ≡ []) (λ (r : EndSeen (Report P)). IsBefore 0 r.journal)
            (λ (r : EndSeen (Report P)) none. subst (IsBefore 0) (sym none) (record { in_turn = λ i j d below low. absurd (omega (arith, low)); before = All-nil (λ x. x < 0) })) receivers unused;
        follows = subst (collect.StandsFor (nothing_taken n)) (sym lists) (new_follows n);
        are = record { rising = λ k low. absurd (omega (arith, low)); each = none_noted receivers unused };
        before = All-nil (λ x. x < 0);
        lists = none_taken receivers unused;
      }

  pub begins : (desk : Desk P) (flight n : ℕ) → desk.driver ≡ new_driver flight → desk.ports.left.journal ≡ [] → desk.ports.right.journal ≡ [] → All (λ (r : EndSeen (Report P)). r.journal ≡ []) desk.reports.items
      → n ≡ length desk.reports.items → desk.collector ≡ nothing_taken n → desk.next ≡ None → desk.turns ≡ 0 → (feed : FeedState) → feed.numbering ≡ first_numbering → StandsFor desk feed nothing_happened
  begins desk flight n driving left right unused many collecting unasked first feed fresh = record {
    drives = record {
      left = left;
      right = right;
      rising = λ k low. absurd (omega (arith, low));
      before = All-nil (λ x. x < desk.turns);
      stands = subst (λ (s : DriverState). driver.StandsFor {P = P} s []) (sym driving) (stands-new P flight);
    };
    fed = record {
      are = ap (λ next. event_in next) (sym unasked);
      well_formed = well-nothing P;
      numbering = fresh;
      stopped = λ stop. absurd (true≢false (sym (ap is_stop (sym unasked) ∙ stop)));
      closed = λ put. absurd (true≢false (sym put));
    };
    gathered =
        subst (λ (m : ℕ). Gathered desk.reports.items m desk.collector []) (sym first)
        (subst (λ (c : CollectorState). Gathered desk.reports.items 0 c []) (sym collecting) (gathered-nothing desk.reports.items n many unused));
  }
