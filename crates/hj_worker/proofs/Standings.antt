-- The turns of a worker, one after another.
use Rattle.std.proofs.Common.{◌≡◌, ◌⊎◌, ◌↔◌, inl, inr, ℕ, ◌+◌, ◌-◌, ◌<◌, ◌≤◌, Bool, List, [], ◌∷◌, ◌++◌, length, map, Option, Some, None, refl, ap, ap₂, sym, ◌∙◌, subst, arith, append-nil, append_assoc, length-append}
use Rattle.std.specs.List.{All, flat_map, fold}
use Rattle.std.specs.Option.{option_to_list}
use Rattle.std.specs.List.Sorted.{IsStrictlyIncreasing}
use Rattle.std.proofs.lemmas.List.{map-append, length-map}
use Rattle.std.proofs.lemmas.List.Concat.{flat_map-append}
use Rattle.std.proofs.lemmas.List.Elements.{All-push, All-weaker}
use Rattle.std.proofs.lemmas.List.Kept.{AllPairs-from_increasing}
use Rattle.std.proofs.lemmas.List.Quantifiers.{all_pairs_push}
use Rattle.std.proofs.lemmas.List.Sums.{fold-append}
use Rattle.hj_base.specs.declared.numbers.Side.{Side}
use Rattle.hj_base.specs.declared.numbers.Side.TheVariants.{Left, Right}
use Rattle.hj_base.specs.Journals.{Entry, IsPrefix, put, taken}
use Rattle.hj_msg.specs.declared.message.Msg.{Msg}
use Rattle.hj_msg.specs.declared.message.Report.{Report}
use Rattle.hj_msg.specs.declared.message.Report.TheVariants.{NoMemory}
use Rattle.hj_msg.specs.Core.{State, empty_state, after, sends, report}
use Rattle.hj_msg.specs.Turns.{Turn, Turns, IsWhole, AreWhole, TakesTurns, at_left, at_right, at_reports, only_at}
use Rattle.hj_worker.specs.declared.hand.Hand.{Hand}
use Rattle.hj_worker.specs.declared.hand.Hand.TheVariants.{Nothing, Rest, Refused}
use Rattle.hj_worker.specs.Outgoing.{Outgoing, leftwards, rightwards, reported, Journals, outgoing, with_puts}
use Rattle.hj_worker.specs.Hands.{InHand, unput, refused, in_hand, things_of}
use Rattle.hj_worker.specs.Standing.{Begins, IsBetween, IsInTheMidst, Stands}
use Rattle.hj_worker.specs.Turning.{Puts}
use Rattle.hj_worker.proofs.Putting.{leftward, rightward, report_in, lefts, rights, reports_in, puts-left, puts-right, puts-reports, take-left, take-right, take-reports, puts-append}

increasing-push : (bound : ℕ) (xs : List ℕ) → IsStrictlyIncreasing xs → All (λ x. x < bound) xs → IsStrictlyIncreasing (xs ++ bound ∷ [])
increasing-push bound xs rising below k low = all_pairs_push (λ x y. x < y) xs bound (AllPairs-from_increasing xs rising) below k (k + 1) 0 (omega arith) low

at_most_one : {X : Type 0} (o : Option X) → length (option_to_list o) ≤ 1
at_most_one None = omega arith
at_most_one (Some x) = omega arith

module _ {P : Type 0} where
  -- what things that are made alike put at a place: each one what it is made of, or nothing
  all-put : {M : Type 0} (make : M → Outgoing P) (puts_of : Outgoing P → List M) → ((x : M) → puts_of (make x) ≡ x ∷ []) → (xs : List M) → flat_map puts_of (map make xs) ≡ xs
  all-put make puts_of one [] = refl
  all-put make puts_of one (x ∷ xs) = ap₂ (λ here later. here ++ later) (one x) (all-put make puts_of one xs)

  none-put : {M N : Type 0} (make : N → Outgoing P) (puts_of : Outgoing P → List M) → ((x : N) → puts_of (make x) ≡ []) → (xs : List N) → flat_map puts_of (map make xs) ≡ []
  none-put make puts_of none [] = refl
  none-put make puts_of none (x ∷ xs) = ap₂ (λ here later. here ++ later) (none x) (none-put make puts_of none xs)

  -- what things in order put at a place
  put-in_order : {M : Type 0} (puts_of : Outgoing P → List M) (ls ms : List (Msg P)) (rs : List (Report P)) (left right reports : List M)
      → flat_map puts_of (map leftwards ls) ≡ left → flat_map puts_of (map rightwards ms) ≡ right → flat_map puts_of (map reported rs) ≡ reports
      → flat_map puts_of (map leftwards ls ++ (map rightwards ms ++ map reported rs)) ≡ left ++ (right ++ reports)
  put-in_order puts_of ls ms rs left right reports on_left on_right in_reports =
      flat_map-append puts_of (map leftwards ls) (map rightwards ms ++ map reported rs)
      ∙ ap₂ (λ front back. front ++ back) on_left (flat_map-append puts_of (map rightwards ms) (map reported rs) ∙ ap₂ (λ front back. front ++ back) on_right in_reports)

  lefts-in_order : (ls ms : List (Msg P)) (rs : List (Report P)) → lefts (map leftwards ls ++ (map rightwards ms ++ map reported rs)) ≡ ls
  lefts-in_order ls ms rs =
      put-in_order leftward ls ms rs ls [] [] (all-put leftwards leftward (λ m. refl) ls) (none-put rightwards leftward (λ m. refl) ms) (none-put reported leftward (λ r. refl) rs) ∙ append-nil ls

  rights-in_order : (ls ms : List (Msg P)) (rs : List (Report P)) → rights (map leftwards ls ++ (map rightwards ms ++ map reported rs)) ≡ ms
  rights-in_order ls ms rs =
      put-in_order rightward ls ms rs [] ms [] (none-put leftwards rightward (λ m. refl) ls) (all-put rightwards rightward (λ m. refl) ms) (none-put reported rightward (λ r. refl) rs) ∙ append-nil ms

  reports-in_order : (ls ms : List (Msg P)) (rs : List (Report P)) → reports_in (map leftwards ls ++ (map rightwards ms ++ map reported rs)) ≡ rs
  reports-in_order ls ms rs = put-in_order report_in ls ms rs [] [] rs (none-put leftwards report_in (λ m. refl) ls) (none-put rightwards report_in (λ m. refl) ms) (all-put reported report_in (λ r. refl) rs)

  -- The report comes last: where something is left, it isn't put.
  unreported-reports : (done items : List (Outgoing P)) (rs : List (Report P)) → map reported rs ≡ done ++ items → length rs ≤ 1 → 0 < length items → reports_in done ≡ []
  unreported-reports [] items rs all one some = refl
  unreported-reports (d ∷ done) items rs all one some =
      let longer : length rs ≡ length (d ∷ done ++ items) = sym (length-map rs reported) ∙ ap length all in
      absurd (omega (arith, longer, one, some, length-append done items))

  unreported-rights : (done items : List (Outgoing P)) (ms : List (Msg P)) (rs : List (Report P)) → map rightwards ms ++ map reported rs ≡ done ++ items → length rs ≤ 1 → 0 < length items → reports_in done ≡ []
  unreported-rights done items [] rs all one some = unreported-reports done items rs all one some
  unreported-rights [] items (m ∷ ms) rs all one some = refl
  unreported-rights (leftwards d ∷ done) items (m ∷ ms) rs all one some = let later : map rightwards ms ++ map reported rs ≡ done ++ items = cc in unreported-rights done items ms rs later one some
  unreported-rights (rightwards d ∷ done) items (m ∷ ms) rs all one some = let later : map rightwards ms ++ map reported rs ≡ done ++ items = cc in unreported-rights done items ms rs later one some
  unreported-rights (reported d ∷ done) items (m ∷ ms) rs all one some = absurd (let heads : rightwards m ≡ reported d = cc in cc)

  unreported : (done items : List (Outgoing P)) (ls ms : List (Msg P)) (rs : List (Report P)) → map leftwards ls ++ (map rightwards ms ++ map reported rs) ≡ done ++ items → length rs ≤ 1 → 0 < length items
      → reports_in done ≡ []
  unreported done items [] ms rs all one some = unreported-rights done items ms rs all one some
  unreported [] items (l ∷ ls) ms rs all one some = refl
  unreported (leftwards d ∷ done) items (l ∷ ls) ms rs all one some = let later : map leftwards ls ++ (map rightwards ms ++ map reported rs) ≡ done ++ items = cc in unreported done items ls ms rs later one some
  unreported (rightwards d ∷ done) items (l ∷ ls) ms rs all one some = absurd (let heads : leftwards l ≡ rightwards d = cc in cc)
  unreported (reported d ∷ done) items (l ∷ ls) ms rs all one some = absurd (let heads : leftwards l ≡ reported d = cc in cc)

  -- a turn that put these things
  abbrev turn_of : ℕ → Side → Msg P → List (Outgoing P) → Turn P
  turn_of number end message done = record { number = number; end = end; message = message; to_left = lefts done; to_right = rights done; reports = reports_in done }

  -- a journal behind some turns, to which what a further turn takes and makes was added
  behind_turns : {M : Type 0} (at_place : Turn P → List (Entry M)) (turns : List (Turn P)) (turn : Turn P) (earlier begun whole took made : List (Entry M)) → earlier ≡ flat_map at_place turns → begun ≡ earlier ++ took
      → whole ≡ begun ++ made → at_place turn ≡ took ++ made → whole ≡ flat_map at_place (turns ++ turn ∷ [])
  behind_turns at_place turns turn earlier begun whole took made before takes makes at =
      makes ∙ ap (λ xs. xs ++ made) (takes ∙ ap (λ xs. xs ++ took) before) ∙ append_assoc (flat_map at_place turns) took made
      ∙ ap (λ xs. flat_map at_place turns ++ xs) (sym at ∙ sym (append-nil (at_place turn))) ∙ sym (flat_map-append at_place turns (turn ∷ []))

  whole-push : (matches : P → P → Bool) (place n : ℕ) (state : State P) (turns : List (Turn P)) (turn : Turn P) → AreWhole matches place n state turns
      → IsWhole matches place n (fold (after place n) state (map (λ t. t.message) turns)) turn → AreWhole matches place n state (turns ++ turn ∷ [])
  whole-push matches place n state [] turn whole last = (last, tt)
  whole-push matches place n state (t ∷ turns) turn whole last = (whole.0, whole-push matches place n (after place n state t.message) turns turn whole.1 last)

module _ {P : Type 0} {matches : P → P → Bool} {place n : ℕ} {before : State P} {message : Msg P} {number : ℕ} {begun : Journals P} (begins : Begins matches place n before message number begun) where
  -- the turn that was begun, where it put these things so far
  abbrev this : List (Outgoing P) → Turn P
  this done = turn_of number begins.end message done

  rising : (done : List (Outgoing P)) → IsStrictlyIncreasing (map (λ t. t.number) (begins.turns ++ this done ∷ []))
  rising done =
      subst IsStrictlyIncreasing (sym (map-append (λ (t : Turn P). t.number) begins.turns (this done ∷ [])))
      (increasing-push number (map (λ t. t.number) begins.turns) begins.are.rising (subst (λ k. All (λ x. x < k) (map (λ (t : Turn P). t.number) begins.turns)) (sym begins.counted) begins.are.below))

  left_is : (done : List (Outgoing P)) → (with_puts number begun done).left ≡ flat_map at_left (begins.turns ++ this done ∷ [])
  left_is done =
      behind_turns at_left begins.turns (this done) begins.earlier.left begun.left _ (only_at begins.end Left (taken number message)) (map (put number) (lefts done)) begins.are.left
      (ap (λ (j : Journals P). j.left) begins.taken ∙ take-left number begins.end message begins.earlier) (puts-left number begun done) refl

  right_is : (done : List (Outgoing P)) → (with_puts number begun done).right ≡ flat_map at_right (begins.turns ++ this done ∷ [])
  right_is done =
      behind_turns at_right begins.turns (this done) begins.earlier.right begun.right _ (only_at begins.end Right (taken number message)) (map (put number) (rights done)) begins.are.right
      (ap (λ (j : Journals P). j.right) begins.taken ∙ take-right number begins.end message begins.earlier) (puts-right number begun done) refl

  reports_is : (done : List (Outgoing P)) → (with_puts number begun done).reports ≡ flat_map at_reports (begins.turns ++ this done ∷ [])
  reports_is done =
      behind_turns at_reports begins.turns (this done) begins.earlier.reports begun.reports _ [] (map (put number) (reports_in done)) begins.are.reports
      (ap (λ (j : Journals P). j.reports) begins.taken ∙ take-reports number begins.end message begins.earlier ∙ sym (append-nil begins.earlier.reports)) (puts-reports number begun done) refl

  abbrev ls : List (Msg P)
  ls = (sends place n message).left

  abbrev ms : List (Msg P)
  ms = (sends place n message).right

  abbrev rs : List (Report P)
  rs = option_to_list (report matches before message)

  -- a turn that put all is whole
  pub finished : (journals : Journals P) → journals ≡ with_puts number begun (outgoing matches place n before message) → (taken : ℕ) → taken ≡ number + 1
      → IsBetween matches place n (after place n before message) journals taken
  finished journals all_put taken one_more =
      let done = outgoing matches place n before message in
      let turn = this done in
      let longer : length (begins.turns ++ turn ∷ []) ≡ number + 1 = omega (arith, length-append begins.turns (turn ∷ []), begins.counted) in
      record {
        turns = begins.turns ++ turn ∷ [];
        are = record {
          whole = whole-push matches place n empty_state begins.turns turn begins.are.whole
              (record {
                left = lefts-in_order ls ms rs;
                right = rights-in_order ls ms rs;
                reports = reports-in_order ls ms rs ∙ ap (λ s. option_to_list (report matches s message)) begins.are.reached;
              });
          rising = rising done;
          below =
              subst (λ (xs : List ℕ). All (λ x. x < length (begins.turns ++ turn ∷ [])) xs) (sym (map-append (λ (t : Turn P). t.number) begins.turns (turn ∷ [])))
              (All-push (λ x. x < length (begins.turns ++ turn ∷ [])) (map (λ (t : Turn P). t.number) begins.turns) number
              (All-weaker (λ x. x < length begins.turns) (λ x. x < length (begins.turns ++ turn ∷ [])) (λ x less. omega (arith, less, longer, begins.counted)) (map (λ (t : Turn P). t.number) begins.turns) begins.are.below) (omega (arith, longer)));
          reached =
              ap (λ s. after place n s message) begins.are.reached
              ∙ sym (fold-append (after place n) empty_state (map (λ (t : Turn P). t.message) begins.turns) (message ∷ []))
              ∙ ap (fold (after place n) empty_state) (sym (map-append (λ (t : Turn P). t.message) begins.turns (turn ∷ [])));
          left = ap (λ (j : Journals P). j.left) all_put ∙ left_is done;
          right = ap (λ (j : Journals P). j.right) all_put ∙ right_is done;
          reports = ap (λ (j : Journals P). j.reports) all_put ∙ reports_is done;
        };
        counted = one_more ∙ sym longer;
      }

  -- a turn that put these things so far
  cut_after : (done : List (Outgoing P)) → IsPrefix (lefts done) ls → IsPrefix (rights done) ms → (reports_in done ≡ []) ⊎ (reports_in done ≡ NoMemory ∷ [])
      → TakesTurns matches place n (record { whole = begins.turns; cut = Some (this done) }) (with_puts number begun done).left (with_puts number begun done).right (with_puts number begun done).reports
  cut_after done on_left on_right last = record {
    rising = rising done;
    whole = begins.are.whole;
    cut = record { left = on_left; right = on_right; reports = last };
    left = left_is done;
    right = right_is done;
    reports = reports_is done;
  }

  -- where something is left of it, it reported nothing
  pub put_nothing : (done items : List (Outgoing P)) → outgoing matches place n before message ≡ done ++ items → 0 < length items → reports_in done ≡ []
  put_nothing done items all some = unreported done items ls ms rs all (at_most_one (report matches before message)) some

  cut_midst : (done items : List (Outgoing P)) → outgoing matches place n before message ≡ done ++ items → 0 < length items
      → TakesTurns matches place n (record { whole = begins.turns; cut = Some (this done) }) (with_puts number begun done).left (with_puts number begun done).right (with_puts number begun done).reports
  cut_midst done items all some =
      cut_after done (record { rest = lefts items; is = sym (lefts-in_order ls ms rs) ∙ ap lefts all ∙ flat_map-append leftward done items }) (record { rest = rights items; is = sym (rights-in_order ls ms rs) ∙ ap rights all ∙ flat_map-append rightward done items })
      (inl (put_nothing done items all some))

  cut_refused : TakesTurns matches place n (record { whole = begins.turns; cut = Some (this (reported NoMemory ∷ [])) }) (with_puts number begun (reported NoMemory ∷ [])).left (with_puts number begun (reported NoMemory ∷ [])).right
      (with_puts number begun (reported NoMemory ∷ [])).reports
  cut_refused = cut_after (reported NoMemory ∷ []) (record { rest = ls; is = refl }) (record { rest = ms; is = refl }) (inr refl)

module _ {P : Type 0} where
  -- what is in hand is told by its kind
  pub unput-is : (xs ys : List (Outgoing P)) → unput xs ≡ unput ys → xs ≡ ys
  unput-is xs ys e = cc

  pub refused-isnt : (message : Msg P) (items : List (Outgoing P)) → refused message ≡ unput items → ⊥
  refused-isnt message items e = cc

  some-isnt : (turn : Turn P) → Some turn ≡ None → ⊥
  some-isnt turn e = cc

  pub none-left : (items : List (Outgoing P)) → items ≡ [] → 0 < length items → ⊥
  none-left items e some = let zero : length items ≡ 0 = ap length e in omega (arith, zero, some)

module _ {P : Type 0} (matches : P → P → Bool) (place n : ℕ) where
  -- what a turn's further puts make of it
  pub goes_on : (state : State P) (old : Journals P) (taken : ℕ) (items others : List (Outgoing P)) (new : Journals P) → IsInTheMidst matches place n state old taken items → Puts (taken - 1) items old others new → 0 < length others
      → IsInTheMidst matches place n state new taken others
  goes_on state old taken items others new midst puts some =
      let number : taken - 1 ≡ midst.number = omega (arith, midst.counted) in
      record {
        before = midst.before;
        message = midst.message;
        number = midst.number;
        begun = midst.begun;
        begins = midst.begins;
        done = midst.done ++ puts.done;
        all = midst.all ∙ ap (λ xs. midst.done ++ xs) puts.all ∙ sym (append_assoc midst.done puts.done others);
        some = some;
        put = puts.journals ∙ ap₂ (λ k j. with_puts k j puts.done) number midst.put ∙ puts-append midst.number midst.begun midst.done puts.done;
        reached = midst.reached;
        counted = midst.counted;
      }

  pub finishes : (state : State P) (old : Journals P) (taken : ℕ) (items : List (Outgoing P)) (new : Journals P) → IsInTheMidst matches place n state old taken items → new ≡ with_puts (taken - 1) old items
      → IsBetween matches place n state new taken
  finishes state old taken items new midst puts =
      let number : taken - 1 ≡ midst.number = omega (arith, midst.counted) in
      let all_put : new ≡ with_puts midst.number midst.begun (outgoing matches place n midst.before midst.message) =
      puts ∙ ap₂ (λ k j. with_puts k j items) number midst.put ∙ puts-append midst.number midst.begun midst.done items ∙ ap (with_puts midst.number midst.begun) (sym midst.all) in
      subst (λ s. IsBetween matches place n s new taken) (sym midst.reached) (finished midst.begins new all_put taken midst.counted)

  -- the turns that the journals show
  pub record HasTurns (journals : Journals P) (hand : InHand P) : Type 0 where
    pub turns : Turns P
    pub are : TakesTurns matches place n turns journals.left journals.right journals.reports
    pub nothing : hand ≡ unput [] ↔ turns.cut ≡ None

  pub hands_back : (state : State P) (journals : Journals P) (taken : ℕ) (hand : Hand P) → Stands matches place n state journals taken hand → HasTurns journals (in_hand hand)
  hands_back state journals taken Nothing stands =
      let all : stands.turns ≡ stands.turns ++ [] = sym (append-nil stands.turns) in
      record {
        turns = record { whole = stands.turns; cut = None };
        are = record {
          rising = subst (λ (ts : List (Turn P)). IsStrictlyIncreasing (map (λ t. t.number) ts)) all stands.are.rising;
          whole = stands.are.whole;
          cut = tt;
          left = stands.are.left ∙ ap (flat_map at_left) all;
          right = stands.are.right ∙ ap (flat_map at_right) all;
          reports = stands.are.reports ∙ ap (flat_map at_reports) all;
        };
        nothing = ((λ e. refl), (λ e. refl));
      }
  hands_back state journals taken (Rest sends) stands =
      let turns : Turns P = record { whole = stands.begins.turns; cut = Some (turn_of stands.number stands.begins.end stands.message stands.done) } in
      record {
        turns = turns;
        are = subst (λ (j : Journals P). TakesTurns matches place n turns j.left j.right j.reports) (sym stands.put) (cut_midst stands.begins stands.done (things_of sends) stands.all stands.some);
        nothing = ((λ e. absurd (none-left (things_of sends) (unput-is (things_of sends) [] e) stands.some)), (λ e. absurd (some-isnt _ e)));
      }
  hands_back state journals taken (Refused message) stands =
      let turns : Turns P = record { whole = stands.begins.turns; cut = Some (turn_of stands.number stands.begins.end message (reported NoMemory ∷ [])) } in
      record {
        turns = turns;
        are = subst (λ (j : Journals P). TakesTurns matches place n turns j.left j.right j.reports) (sym stands.put) (cut_refused stands.begins);
        nothing = ((λ e. absurd (refused-isnt message [] e)), (λ e. absurd (some-isnt _ e)));
      }
