-- Where the end of a core was put, nothing is in hand.
use Rattle.std.proofs.Common.{◌≡◌, ◌⊎◌, inl, inr, ℕ, Bool, true, false, true≢false, not, ◌&&◌, if◌then◌else◌, List, [], ◌∷◌, ◌++◌, map, Contains, Option, Some, None, refl, ap, ap₂, sym, ◌∙◌, subst, arith}
use Rattle.std.specs.List.{All, flat_map, filter, fold}
use Rattle.std.specs.Option.{option_to_list}
use Rattle.std.proofs.lemmas.List.{map-append}
use Rattle.std.proofs.lemmas.List.Elements.{All-nil, All-cons, All-append, All-contains, Contains-append_left, Contains-append_right, filter-append}
use Rattle.hj_base.specs.Journals.{Entry, puts, put}
use Rattle.hj_msg.specs.declared.message.Msg.{Msg}
use Rattle.hj_msg.specs.declared.message.Msg.TheVariants.{R, AckS, EndS, ExpS, QuietL, CloseL, S, EndR, ExpR, QuietR, CloseR}
use Rattle.hj_msg.specs.declared.message.Report.{Report}
use Rattle.hj_msg.specs.declared.message.Report.TheVariants.{Ended, NoMemory}
use Rattle.hj_msg.specs.Core.{State, empty_state, after, report}
use Rattle.hj_msg.specs.Turns.{Turn, AreWhole, at_reports}
use Rattle.hj_worker.specs.declared.hand.Hand.{Hand}
use Rattle.hj_worker.specs.declared.hand.Hand.TheVariants.{Nothing, Rest, Refused}
use Rattle.hj_worker.specs.Outgoing.{Outgoing, Journals, reported, with_puts}
use Rattle.hj_worker.specs.Hands.{unput, in_hand, things_of}
use Rattle.hj_worker.specs.Seen.{has_ended}
use Rattle.hj_worker.specs.Standing.{Begins, IsBetween, Stands}
use Rattle.hj_worker.proofs.Putting.{reports_in, puts-reports, take-reports}
use Rattle.hj_worker.proofs.Standings.{put_nothing}

both : (a b : Bool) → (a && b) ≡ true → (a ≡ true) × (b ≡ true)
both true true is = (refl, refl)
both true false is = absurd (cc)
both false b is = absurd (cc)

either : (b : Bool) → (b ≡ true) ⊎ (b ≡ false)
either true = inl refl
either false = inr refl

module _ {P : Type 0} where
  -- a core that has ended stays so
  ended-after : (place n : ℕ) (state : State P) (message : Msg P) → has_ended state ≡ true → has_ended (after place n state message) ≡ true
  ended-after place n state (R at row) ended = ended
  ended-after place n state (S at row) ended = ended
  ended-after place n state (EndR at) ended = ended
  ended-after place n state (EndS at) ended = ended
  ended-after place n state (ExpR at) ended = ended
  ended-after place n state (ExpS at) ended = ended
  ended-after place n state (AckS at) ended = ended
  ended-after place n state (QuietL at) ended = ended
  ended-after place n state (QuietR at) ended = ended
  ended-after place n state CloseL ended = (both state.closed_left state.closed_right ended).1
  ended-after place n state CloseR ended = ap (λ b. b && true) (both state.closed_left state.closed_right ended).0

  ended-later : (place n : ℕ) (state : State P) (messages : List (Msg P)) → has_ended state ≡ true → has_ended (fold (after place n) state messages) ≡ true
  ended-later place n state [] ended = ended
  ended-later place n state (message ∷ messages) ended = ended-later place n (after place n state message) messages (ended-after place n state message ended)

  abbrev end : Option (Report P)
  end = Some Ended

  -- it reports its end where it has ended
  end-closes : (l r : Bool) → (if not l && r then end else None) ≡ end → r ≡ true
  end-closes true r is = absurd (cc)
  end-closes false true is = refl
  end-closes false false is = absurd (cc)

  end-reported : (matches : P → P → Bool) (place n : ℕ) (state : State P) (message : Msg P) → report matches state message ≡ end → has_ended (after place n state message) ≡ true
  end-reported matches place n state (R at row) is = absurd (cc)
  end-reported matches place n state (S at row) is = absurd (cc)
  end-reported matches place n state (EndR at) is = absurd (cc)
  end-reported matches place n state (EndS at) is = absurd (cc)
  end-reported matches place n state (ExpR at) is = absurd (cc)
  end-reported matches place n state (ExpS at) is = absurd (cc)
  end-reported matches place n state (AckS at) is = absurd (cc)
  end-reported matches place n state (QuietL at) is = absurd (cc)
  end-reported matches place n state (QuietR at) is = absurd (cc)
  end-reported matches place n state CloseL is = end-closes state.closed_left state.closed_right is
  end-reported matches place n state CloseR is = ap (λ b. b && true) (end-closes state.closed_right state.closed_left is)

  puts-append : (xs ys : List (Entry (Report P))) → puts (xs ++ ys) ≡ puts xs ++ puts ys
  puts-append xs ys = rw (filter-append (λ entry. entry.is_put) xs ys) (map-append (λ entry. entry.message) (filter (λ entry. entry.is_put) xs) (filter (λ entry. entry.is_put) ys))

  puts-puts : (number : ℕ) (entries : List (Report P)) → puts (map (put number) entries) ≡ entries
  puts-puts number [] = refl
  puts-puts number (entry ∷ entries) = ap (λ es. entry ∷ es) (puts-puts number entries)

  puts-reported : (turns : List (Turn P)) → puts (flat_map at_reports turns) ≡ flat_map (λ turn. turn.reports) turns
  puts-reported [] = refl
  puts-reported (turn ∷ turns) = puts-append (at_reports turn) (flat_map at_reports turns) ∙ ap₂ (λ xs ys. xs ++ ys) (puts-puts turn.number turn.reports) (puts-reported turns)

  abbrev IsNoEnd : Report P → Type 0
  IsNoEnd entry = entry ≡ Ended → ⊥

  no_memory-isnt : IsNoEnd NoMemory
  no_memory-isnt is = cc

  no_end-one : (o : Option (Report P)) → (o ≡ end → ⊥) → All IsNoEnd (option_to_list o)
  no_end-one None isnt = All-nil IsNoEnd
  no_end-one (Some entry) isnt = All-cons IsNoEnd entry [] (λ is. isnt (ap Some is)) (All-nil IsNoEnd)

  -- whole turns after which a close is to come reported no end
  no_end : (matches : P → P → Bool) (place n : ℕ) (state : State P) (turns : List (Turn P)) → AreWhole matches place n state turns → has_ended (fold (after place n) state (map (λ turn. turn.message) turns)) ≡ false
      → All IsNoEnd (flat_map (λ turn. turn.reports) turns)
  no_end matches place n state [] whole unended = All-nil IsNoEnd
  no_end matches place n state (turn ∷ turns) whole unended =
      All-append IsNoEnd turn.reports (flat_map (λ t. t.reports) turns)
      (subst (All IsNoEnd) (sym whole.0.reports)
      (no_end-one (report matches state turn.message)
      (λ is. true≢false (sym (ended-later place n (after place n state turn.message) (map (λ t. t.message) turns) (end-reported matches place n state turn.message is)) ∙ unended))))
      (no_end matches place n (after place n state turn.message) turns whole.1 unended)

  unended_so_far : {matches : P → P → Bool} {place n : ℕ} {before : State P} {message : Msg P} {number : ℕ} {begun : Journals P} → Begins matches place n before message number begun → (done : List (Outgoing P))
      → All IsNoEnd (reports_in done) → All IsNoEnd (puts (with_puts number begun done).reports)
  unended_so_far {matches = matches} {place = place} {n = n} {message = message} {number = number} {begun = begun} begins done none =
      let earlier : begun.reports ≡ flat_map at_reports begins.turns = ap (λ (j : Journals P). j.reports) begins.taken ∙ take-reports number begins.end message begins.earlier ∙ begins.are.reports in
      let before : All IsNoEnd (flat_map (λ t. t.reports) begins.turns) = no_end matches place n empty_state begins.turns begins.are.whole (ap has_ended (sym begins.are.reached) ∙ begins.unended) in
      let all : puts (with_puts number begun done).reports ≡ flat_map (λ t. t.reports) begins.turns ++ reports_in done
      = ap puts (puts-reports number begun done) ∙ puts-append begun.reports (map (put number) (reports_in done)) ∙ ap₂ (λ xs ys. xs ++ ys) (ap puts earlier ∙ puts-reported begins.turns) (puts-puts number (reports_in done)) in
      subst (All IsNoEnd) (sym all) (All-append IsNoEnd (flat_map (λ t. t.reports) begins.turns) (reports_in done) before none)

  -- A core that comes to have ended reports its end.
  left-ends : (l r : Bool) → (l && r) ≡ false → r ≡ true → (if not l && r then end else None) ≡ end
  left-ends true true unended ended = absurd (cc)
  left-ends true false unended ended = absurd (cc)
  left-ends false true unended ended = refl
  left-ends false false unended ended = absurd (cc)

  right-ends : (l r : Bool) → (l && r) ≡ false → (l && true) ≡ true → (if not r && l then end else None) ≡ end
  right-ends true true unended ended = absurd (cc)
  right-ends true false unended ended = refl
  right-ends false r unended ended = absurd (cc)

  reports-end : (matches : P → P → Bool) (place n : ℕ) (state : State P) (message : Msg P) → has_ended state ≡ false → has_ended (after place n state message) ≡ true → report matches state message ≡ end
  reports-end matches place n state (R at row) unended ended = absurd (true≢false (sym ended ∙ unended))
  reports-end matches place n state (S at row) unended ended = absurd (true≢false (sym ended ∙ unended))
  reports-end matches place n state (EndR at) unended ended = absurd (true≢false (sym ended ∙ unended))
  reports-end matches place n state (EndS at) unended ended = absurd (true≢false (sym ended ∙ unended))
  reports-end matches place n state (ExpR at) unended ended = absurd (true≢false (sym ended ∙ unended))
  reports-end matches place n state (ExpS at) unended ended = absurd (true≢false (sym ended ∙ unended))
  reports-end matches place n state (AckS at) unended ended = absurd (true≢false (sym ended ∙ unended))
  reports-end matches place n state (QuietL at) unended ended = absurd (true≢false (sym ended ∙ unended))
  reports-end matches place n state (QuietR at) unended ended = absurd (true≢false (sym ended ∙ unended))
  reports-end matches place n state CloseL unended ended = left-ends state.closed_left state.closed_right unended ended
  reports-end matches place n state CloseR unended ended = right-ends state.closed_left state.closed_right unended ended

  ends-reports : (matches : P → P → Bool) (place n : ℕ) (state : State P) (turns : List (Turn P)) → AreWhole matches place n state turns → has_ended state ≡ false
      → has_ended (fold (after place n) state (map (λ turn. turn.message) turns)) ≡ true → Contains (flat_map (λ turn. turn.reports) turns) Ended
  ends-reports matches place n state [] whole unended ended = absurd (true≢false (sym ended ∙ unended))
  ends-reports matches place n state (turn ∷ turns) whole unended ended = elim (either (has_ended (after place n state turn.message))) [
    | inl now ↦
        let reported : turn.reports ≡ Ended ∷ [] = whole.0.reports ∙ ap option_to_list (reports-end matches place n state turn.message unended now) in
        Contains-append_left turn.reports (flat_map (λ t. t.reports) turns) Ended (subst (λ (rs : List (Report P)). Contains rs Ended) (sym reported) (0, omega arith, refl))
    | inr still ↦ Contains-append_right turn.reports (flat_map (λ t. t.reports) turns) Ended (ends-reports matches place n (after place n state turn.message) turns whole.1 still ended)
  ]

  -- Where a core has ended and nothing is in hand, its end was put.
  pub end-put : (matches : P → P → Bool) (place n : ℕ) (state : State P) (journals : Journals P) (taken : ℕ) → IsBetween matches place n state journals taken → has_ended state ≡ true → Contains (puts journals.reports) Ended
  end-put matches place n state journals taken between ended =
      subst (λ (rs : List (Report P)). Contains rs Ended) (sym (ap puts between.are.reports ∙ puts-reported between.turns))
      (ends-reports matches place n empty_state between.turns between.are.whole refl (ap has_ended (sym between.are.reached) ∙ ended))

  pub nothing_in_hand : (matches : P → P → Bool) (place n : ℕ) (state : State P) (journals : Journals P) (taken : ℕ) (hand : Hand P) → Stands matches place n state journals taken hand → Contains (puts journals.reports) Ended
      → in_hand hand ≡ unput []
  nothing_in_hand matches place n state journals taken Nothing stands has = refl
  nothing_in_hand matches place n state journals taken (Rest sends) stands has =
      let none = unended_so_far stands.begins stands.done (subst (All IsNoEnd) (sym (put_nothing stands.begins stands.done (things_of sends) stands.all stands.some)) (All-nil IsNoEnd)) in
      absurd (All-contains IsNoEnd (puts journals.reports) Ended (subst (λ (j : Journals P). All IsNoEnd (puts j.reports)) (sym stands.put) none) has refl)
  nothing_in_hand matches place n state journals taken (Refused message) stands has =
      let none = unended_so_far stands.begins (reported NoMemory ∷ []) (All-cons IsNoEnd NoMemory [] no_memory-isnt (All-nil IsNoEnd)) in
      absurd (All-contains IsNoEnd (puts journals.reports) Ended (subst (λ (j : Journals P). All IsNoEnd (puts j.reports)) (sym stands.put) none) has refl)
