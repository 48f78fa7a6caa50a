-- What puts leave in the journals.
use Rattle.std.proofs.Common.{◌≡◌, ℕ, ◌+◌, List, [], ◌∷◌, ◌++◌, length, map, Option, None, Some, IfNone, refl, ap, sym, ◌∙◌, arith, append-nil, append_assoc, length-append}
use Rattle.std.specs.List.{flat_map}
use Rattle.std.specs.Option.{option_to_list}
use Rattle.std.proofs.lemmas.List.{map-append}
use Rattle.std.proofs.lemmas.List.Sums.{fold-append}
use Rattle.hj_base.specs.declared.numbers.Side.{Side}
use Rattle.hj_base.specs.declared.numbers.Side.TheVariants.{Left, Right}
use Rattle.hj_base.specs.Journals.{Entry, put, taken}
use Rattle.hj_msg.specs.declared.message.Msg.{Msg}
use Rattle.hj_msg.specs.declared.message.Report.{Report}
use Rattle.hj_msg.specs.Turns.{only_at}
use Rattle.hj_worker.specs.Outgoing.{Outgoing, leftwards, rightwards, reported, Journals, with_put, with_puts, with_take, entries_in}
use Rattle.hj_link.specs.Seen.{EndSeen}
use Rattle.hj_worker.specs.declared.answers.Place.{Place}
use Rattle.hj_worker.specs.declared.answers.Place.TheVariants.{Link, Reports}
use Rattle.hj_worker.specs.declared.ends.WorkerEnds.{WorkerEnds}
use Rattle.hj_worker.specs.Hands.{things_to_right}
use Rattle.hj_worker.specs.Seen.{full_looks}
use Rattle.hj_worker.specs.Turning.{AreBlocked, Puts}

pub if_none : {X A B : Type 0} (o : Option X) → IfNone o A → (A → B) → IfNone o B
if_none None is then = then is
if_none (Some x) is then = tt

module _ {P : Type 0} where
  -- what one thing puts at each place
  abbrev pub leftward : Outgoing P → List (Msg P)
  leftward (leftwards message) = message ∷ []
  leftward (rightwards message) = []
  leftward (reported entry) = []

  abbrev pub rightward : Outgoing P → List (Msg P)
  rightward (leftwards message) = []
  rightward (rightwards message) = message ∷ []
  rightward (reported entry) = []

  abbrev pub report_in : Outgoing P → List (Report P)
  report_in (leftwards message) = []
  report_in (rightwards message) = []
  report_in (reported entry) = entry ∷ []

  -- of some things, the messages that go to each side, and the reports
  abbrev pub lefts : List (Outgoing P) → List (Msg P)
  lefts items = flat_map leftward items

  abbrev pub rights : List (Outgoing P) → List (Msg P)
  rights items = flat_map rightward items

  abbrev pub reports_in : List (Outgoing P) → List (Report P)
  reports_in items = flat_map report_in items

  -- A journal to which each put adds what the thing puts at its place has, behind some puts, what they all put there.
  module _ {M : Type 0} (number : ℕ) (journal : Journals P → List (Entry M)) (puts_of : Outgoing P → List M)
      (each : (js : Journals P) (item : Outgoing P) → journal (with_put number js item) ≡ journal js ++ map (put number) (puts_of item)) where
    puts-at : (js : Journals P) (items : List (Outgoing P)) → journal (with_puts number js items) ≡ journal js ++ map (put number) (flat_map puts_of items)
    puts-at js [] = sym (append-nil (journal js))
    puts-at js (item ∷ items) =
        puts-at (with_put number js item) items
        ∙ ap (λ (entries : List (Entry M)). entries ++ map (put number) (flat_map puts_of items)) (each js item)
        ∙ append_assoc (journal js) (map (put number) (puts_of item)) (map (put number) (flat_map puts_of items))
        ∙ ap (λ (entries : List (Entry M)). journal js ++ entries) (sym (map-append (put number) (puts_of item) (flat_map puts_of items)))

  put-left : (number : ℕ) (js : Journals P) (item : Outgoing P) → (with_put number js item).left ≡ js.left ++ map (put number) (leftward item)
  put-left number js (leftwards m) = refl
  put-left number js (rightwards m) = sym (append-nil js.left)
  put-left number js (reported r) = sym (append-nil js.left)

  put-right : (number : ℕ) (js : Journals P) (item : Outgoing P) → (with_put number js item).right ≡ js.right ++ map (put number) (rightward item)
  put-right number js (leftwards m) = sym (append-nil js.right)
  put-right number js (rightwards m) = refl
  put-right number js (reported r) = sym (append-nil js.right)

  put-reports : (number : ℕ) (js : Journals P) (item : Outgoing P) → (with_put number js item).reports ≡ js.reports ++ map (put number) (report_in item)
  put-reports number js (leftwards m) = sym (append-nil js.reports)
  put-reports number js (rightwards m) = sym (append-nil js.reports)
  put-reports number js (reported r) = refl

  pub puts-left : (number : ℕ) (js : Journals P) (items : List (Outgoing P)) → (with_puts number js items).left ≡ js.left ++ map (put number) (lefts items)
  puts-left number = puts-at number (λ js. js.left) leftward (put-left number)

  pub puts-right : (number : ℕ) (js : Journals P) (items : List (Outgoing P)) → (with_puts number js items).right ≡ js.right ++ map (put number) (rights items)
  puts-right number = puts-at number (λ js. js.right) rightward (put-right number)

  pub puts-reports : (number : ℕ) (js : Journals P) (items : List (Outgoing P)) → (with_puts number js items).reports ≡ js.reports ++ map (put number) (reports_in items)
  puts-reports number = puts-at number (λ js. js.reports) report_in (put-reports number)

  pub take-left : (number : ℕ) (end : Side) (m : Msg P) (js : Journals P) → (with_take number end m js).left ≡ js.left ++ only_at end Left (taken number m)
  take-left number Left m js = refl
  take-left number Right m js = sym (append-nil js.left)

  pub take-right : (number : ℕ) (end : Side) (m : Msg P) (js : Journals P) → (with_take number end m js).right ≡ js.right ++ only_at end Right (taken number m)
  take-right number Left m js = sym (append-nil js.right)
  take-right number Right m js = refl

  pub take-reports : (number : ℕ) (end : Side) (m : Msg P) (js : Journals P) → (with_take number end m js).reports ≡ js.reports
  take-reports number Left m js = refl
  take-reports number Right m js = refl

  -- puts upon puts
  pub puts-append : (number : ℕ) (js : Journals P) (xs ys : List (Outgoing P)) → with_puts number (with_puts number js xs) ys ≡ with_puts number js (xs ++ ys)
  puts-append number js xs ys = sym (fold-append (with_put number) js xs ys)

  -- puts in order
  puts-leftwards : (number : ℕ) (js : Journals P) (ms : List (Msg P)) → with_puts number js (map leftwards ms) ≡ record js { left = js.left ++ map (put number) ms }
  puts-leftwards number js [] = ap (λ l. record js { left = l }) (sym (append-nil js.left))
  puts-leftwards number js (m ∷ ms) = puts-leftwards number (with_put number js (leftwards m)) ms ∙ ap (λ l. record js { left = l }) (append_assoc js.left (put number m ∷ []) (map (put number) ms))

  puts-rightwards : (number : ℕ) (js : Journals P) (ms : List (Msg P)) → with_puts number js (map rightwards ms) ≡ record js { right = js.right ++ map (put number) ms }
  puts-rightwards number js [] = ap (λ l. record js { right = l }) (sym (append-nil js.right))
  puts-rightwards number js (m ∷ ms) = puts-rightwards number (with_put number js (rightwards m)) ms ∙ ap (λ l. record js { right = l }) (append_assoc js.right (put number m ∷ []) (map (put number) ms))

  -- Where some things were put before, the others that are put behind them are put behind all.
  pub puts-behind : (number : ℕ) (js mid new : Journals P) (xs ys : List (Outgoing P)) → mid ≡ with_puts number js xs
      → new ≡ with_puts number mid ys → new ≡ with_puts number js (xs ++ ys)
  puts-behind number js mid new xs ys before is = is ∙ ap (λ j. with_puts number j ys) before ∙ puts-append number js xs ys

  pub stops-behind : (number : ℕ) (js mid new : Journals P) (xs ys others : List (Outgoing P)) → mid ≡ with_puts number js xs
      → Puts number ys mid others new → Puts number (xs ++ ys) js others new
  stops-behind number js mid new xs ys others before puts = record {
    done = xs ++ puts.done;
    all = ap (λ zs. xs ++ zs) puts.all ∙ sym (append_assoc xs puts.done others);
    journals = puts-behind number js mid new xs puts.done before puts.journals;
  }

  -- what one place has more, where a message to the left was put, or more to the right
  pub left-put : (number : ℕ) (js : Journals P) (left : List (Entry (Msg P))) (ms : List (Msg P)) → left ≡ js.left ++ map (put number) ms
      → record js { left = left } ≡ with_puts number js (map leftwards ms)
  left-put number js left ms is = ap (λ l. record js { left = l }) is ∙ sym (puts-leftwards number js ms)

  right-put : (number : ℕ) (js : Journals P) (right : List (Entry (Msg P))) (ms : List (Msg P)) → right ≡ js.right ++ map (put number) ms
      → record js { right = right } ≡ with_puts number js (map rightwards ms)
  right-put number js right ms is = ap (λ r. record js { right = r }) is ∙ sym (puts-rightwards number js ms)

  -- the second message to the right finds it full
  pub second_blocked : (number : ℕ) (js : Journals P) (right right' : List (Entry (Msg P))) (first second : Option (Msg P)) (entry : Option (Report P)) (m : Msg P)
      → right ≡ js.right ++ map (put number) (option_to_list first) → second ≡ Some m → right' ≡ right
      → Puts number (things_to_right first second entry) js (rightwards m ∷ map reported (option_to_list entry)) (record js { right = right' })
  second_blocked number js right right' first second entry m first_put is same =
      let rs = option_to_list first in
      let es = map {B = Outgoing P} reported (option_to_list entry) in
      record {
        done = map rightwards rs;
        all =
            ap (λ (o : Option (Msg P)). map rightwards (rs ++ option_to_list o) ++ es) is
            ∙ ap (λ xs. xs ++ es) (map-append {B = Outgoing P} rightwards rs (m ∷ []))
            ∙ append_assoc (map rightwards rs) (rightwards m ∷ []) es;
        journals = right-put number js right' rs (same ∙ first_put);
      }

  -- the report finds its queue full
  pub report_blocked : (number : ℕ) (js : Journals P) (right right' : List (Entry (Msg P))) (reports : List (Entry (Report P))) (first second : Option (Msg P)) (entry : Option (Report P)) (r : Report P)
      → right ≡ js.right ++ map (put number) (option_to_list first) → right' ≡ right ++ map (put number) (option_to_list second)
      → entry ≡ Some r → reports ≡ js.reports
      → Puts number (things_to_right first second entry) js (reported r ∷ []) (record js { right = right'; reports = reports })
  report_blocked number js right right' reports first second entry r first_put second_put is same =
      let rs = option_to_list first in
      let ts = option_to_list second in
      let rights_are : right' ≡ js.right ++ map (put number) (rs ++ ts)
      = second_put ∙ ap (λ xs. xs ++ map (put number) ts) first_put ∙ append_assoc js.right (map (put number) rs) (map (put number) ts) ∙ ap (λ xs. js.right ++ xs) (sym (map-append (put number) rs ts)) in
      record {
        done = map rightwards (rs ++ ts);
        all = ap (λ (o : Option (Report P)). map rightwards (rs ++ ts) ++ map reported (option_to_list o)) is;
        journals = ap (λ es. record js { right = right'; reports = es }) same ∙ right-put number js right' (rs ++ ts) rights_are;
      }

  -- A place is found full after the message to the left was put as it would be before: that put is no look that finds one full.
  pub blocked-behind_left : (old : WorkerEnds P) (left : EndSeen (Msg P)) (new : WorkerEnds P) (place : Place) (items : List (Outgoing P))
      → left.full_looks ≡ old.left.full_looks → AreBlocked place items (record old { left = left }) new → AreBlocked place items old new
  blocked-behind_left old left new place items same blocked =
      record { first = blocked.first; later = blocked.later; are = blocked.are; at = blocked.at; full = blocked.full ∙ ap (λ n. n + 1) (looks place) }
    where
      looks : (place : Place) → full_looks place (record old { left = left }) ≡ full_looks place old
      looks (Link Left) = same
      looks (Link Right) = refl
      looks Reports = refl

  -- a put or a take is one entry more
  pub entries-put : (number : ℕ) (js : Journals P) (item : Outgoing P) → entries_in (with_put number js item) ≡ entries_in js + 1
  entries-put number js (leftwards m) = omega (arith, length-append js.left (put number m ∷ []))
  entries-put number js (rightwards m) = omega (arith, length-append js.right (put number m ∷ []))
  entries-put number js (reported r) = omega (arith, length-append js.reports (put number r ∷ []))

  pub entries-puts : (number : ℕ) (js : Journals P) (items : List (Outgoing P)) → entries_in (with_puts number js items) ≡ entries_in js + length items
  entries-puts number js [] = omega arith
  entries-puts number js (item ∷ items) = omega (arith, entries-puts number (with_put number js item) items, entries-put number js item)

  pub entries-take : (number : ℕ) (end : Side) (m : Msg P) (js : Journals P) → entries_in (with_take number end m js) ≡ entries_in js + 1
  entries-take number Left m js = omega (arith, length-append js.left (taken number m ∷ []))
  entries-take number Right m js = omega (arith, length-append js.right (taken number m ∷ []))
