-- What gives raw items, with one more report or one more item.
use Rattle.std.proofs.Common.{◌≡◌, ℕ, ◌≤◌, false, List, [], ◌∷◌, ◌++◌, map, None, Option, refl, ap, ap₂, sym, ◌∙◌, subst, append_assoc, true≢false}
use Rattle.std.proofs.lemmas.List.{map-append}
use Rattle.std.specs.declared.result.Result.{Result}
use Rattle.std.specs.declared.result.Result.TheVariants.{Ok, Err}
use Rattle.std.specs.Result.{OnErr}
use Rattle.hj_base.specs.Journals.{IsPrefix}
use Rattle.hj_msg.specs.declared.drain.Drained.{Drained}
use Rattle.hj_msg.specs.declared.drain.Drained.TheVariants.{Kept, Refused}
use Rattle.hj_msg.specs.declared.message.Report.{Report}
use Rattle.hj_msg.specs.Met.{pairs_of}
use Rattle.hj_msg.specs.Punctuation.{Mark, punctuation}
use Rattle.hj_collect.specs.Collector.{CollectorState, least_mark}
use Rattle.hj_collect.proofs.Giving.{all-kept, last-refused}
use Rattle.hj_collect.proofs.Following.{least_follows}
use Rattle.hj_raw.specs.Drain.{AreKept, Offer, TakesItems, items_in}
use Rattle.hj_raw.specs.Items.{Item, TakenReport, items_of_report, joined, lists_of, mark_behind, raw_items, with_taken}
use Rattle.hj_raw.specs.WaitingItems.{WaitingItems, with_report}
use Rattle.hj_raw.proofs.Behind.{one_behind}
use Rattle.hj_raw.proofs.Telling.{none-told}
use Rattle.hj_desk.specs.declared.raw.RawOutlet.{RawOutlet}
use Rattle.hj_desk.specs.Outlet.{GivesDue, KeepsReport, LosesReport}
use Rattle.hj_desk.specs.RawOutlet.{AreAnswered, GivesRaw}
use Rattle.hj_desk.proofs.Ordering.{lists-more}

module _ {P D : Type 0} (takes : D → Item P → Drained → D → Type 0) where
  takes-both : (xs ys : List (Offer P)) (old mid new : D) → TakesItems takes old xs mid → TakesItems takes mid ys new → TakesItems takes old (xs ++ ys) new
  takes-both [] ys old mid new first rest = subst (λ (d : D). TakesItems takes d ys new) first rest
  takes-both (x ∷ xs) ys old mid new first rest = (first.0, first.1, takes-both xs ys first.0 mid new first.2 rest)

  -- no report was taken
  pub raw-unused : (outlet : RawOutlet P D) → outlet.items.items ≡ [] → outlet.items.mark ≡ None → (cores : ℕ) → 1 ≤ cores → GivesRaw takes outlet cores [] false Kept outlet
  raw-unused outlet none unmarked cores some = record {
    offers = [];
    drain = refl;
    answered = refl;
    begins = record { rest = []; is = refl };
    waits = λ lasts. none;
    mark = λ lasts. unmarked ∙ sym (none-told P cores some);
  }

  module _ (collector : CollectorState) where
    module _ (report : Report P) (old : RawOutlet P D) (waiting : WaitingItems P) where
      abbrev now : RawOutlet P D
      now = record old { items = waiting }

      prefix-more : (cores : ℕ) (taken : List (TakenReport P)) (next : TakenReport P) (items : List (Item P)) → IsPrefix items (raw_items cores taken) → IsPrefix items (raw_items cores (taken ++ next ∷ []))
      prefix-more cores taken next items begins = record {
        rest = begins.rest ++ items_of_report (lists_of cores taken) next;
        is = one_behind cores taken next ∙ ap (λ l. l ++ items_of_report (lists_of cores taken) next) begins.is ∙ append_assoc items begins.rest (items_of_report (lists_of cores taken) next);
      }

      pub raw-loses : LosesReport (GivesRaw takes) collector report old now
      raw-loses begun cores taken next over is noted given = record {
        offers = given.offers;
        drain = given.drain;
        answered = given.answered;
        begins = prefix-more cores taken next (items_in given.offers) given.begins;
        waits = λ lasts. absurd (true≢false lasts);
        mark = λ lasts. absurd (true≢false lasts);
      }

      pub raw-keeps : waiting ≡ with_report report (least_mark collector) old.items → KeepsReport (GivesRaw takes) collector report old now
      raw-keeps grown begun cores taken next over is noted given =
          let lists = lists_of cores taken in
          let told : least_mark collector ≡ punctuation (with_taken lists next) = least_follows collector (lists_of cores (taken ++ next ∷ [])) noted.follows ∙ ap punctuation (lists-more cores taken next) in
          record {
            offers = given.offers;
            drain = given.drain;
            answered = given.answered;
            begins = prefix-more cores taken next (items_in given.offers) given.begins;
            waits = λ lasts.
                let own = map joined (pairs_of report) in
                let behind = mark_behind old.items.mark (least_mark collector) in
                let same : behind ≡ mark_behind (punctuation lists) (punctuation (with_taken lists next)) = ap₂ (λ (a b : Option Mark). mark_behind a b) (given.mark lasts) told in
                ap (λ (w : WaitingItems P). items_in given.offers ++ w.items) grown ∙ ap (λ l. items_in given.offers ++ l) (append_assoc old.items.items own behind)
                ∙ sym (append_assoc (items_in given.offers) old.items.items (own ++ behind)) ∙ ap (λ l. l ++ (own ++ behind)) (given.waits lasts)
                ∙ ap (λ (l : List (Item P)). raw_items cores taken ++ l) (ap₂ (λ (r : Report P) (m : List (Item P)). map joined (pairs_of r) ++ m) (sym is) same)
                ∙ sym (one_behind cores taken next);
            mark = λ lasts. ap (λ (w : WaitingItems P). w.mark) grown ∙ told ∙ ap punctuation (sym (lists-more cores taken next));
          }

    -- ---- items that are given, one after another

    abbrev answer_in : Offer P → Drained
    answer_in one = one.answer

    answered-more : (answer : Drained) (offers : List (Offer P)) (item : Item P) → AreKept offers → AreAnswered answer (offers ++ record { item = item; answer = answer } ∷ [])
    answered-more Kept offers item each = all-kept answer_in offers (record { item = item; answer = Kept } ∷ []) each refl
    answered-more Refused offers item each = last-refused answer_in offers (record { item = item; answer = Refused } ∷ []) each (0, refl)

    one-given : (old now : RawOutlet P D) → GivesDue (GivesRaw takes) collector Kept old now → (left : WaitingItems P) (filled : D) (item : Item P) → now.items.items ≡ item ∷ left.items → left.mark ≡ now.items.mark → (answer : Drained) → takes now.drain item answer filled
        → GivesDue (GivesRaw takes) collector answer old (record { items = left; drain = filled })
    one-given old now before left filled item first marked answer took begun cores taken follows given =
        let so_far = before begun cores taken follows given in
        let one : Offer P = record { item = item; answer = answer } in
        let pushed : items_in (so_far.offers ++ one ∷ []) ≡ items_in so_far.offers ++ item ∷ [] = map-append (λ (o : Offer P). o.item) so_far.offers (one ∷ []) in
        let all : items_in (so_far.offers ++ one ∷ []) ++ left.items ≡ raw_items cores taken =
        ap (λ l. l ++ left.items) pushed ∙ append_assoc (items_in so_far.offers) (item ∷ []) left.items ∙ ap (λ l. items_in so_far.offers ++ l) (sym first) ∙ so_far.waits refl in
        record {
          offers = so_far.offers ++ one ∷ [];
          drain = takes-both so_far.offers (one ∷ []) begun.drain now.drain filled so_far.drain (filled, took, refl);
          answered = answered-more answer so_far.offers item so_far.answered;
          begins = record { rest = left.items; is = sym all };
          waits = λ lasts. all;
          mark = λ lasts. marked ∙ so_far.mark refl;
        }

    -- `rest` is what waits behind the call that gave it
    pub raw-gives : (old now : RawOutlet P D) → GivesDue (GivesRaw takes) collector Kept old now → (left : WaitingItems P) (filled : D) (item : Item P) → now.items.items ≡ item ∷ left.items → left.mark ≡ now.items.mark → (answer : Drained) → takes now.drain item answer filled
        → (rest : WaitingItems P) → rest ≡ left → GivesDue (GivesRaw takes) collector answer old (record { items = rest; drain = filled })
    raw-gives old now before left filled item first marked answer took rest same =
        subst (λ (w : WaitingItems P). GivesDue (GivesRaw takes) collector answer old (record { items = w; drain = filled })) (sym same) (one-given old now before left filled item first marked answer took)

-- what holds whatever was refused
pub if-refused : {T E : Type 0} (result : Result T E) (A : Type 0) → A → OnErr result A
if-refused (Ok value) A a = tt
if-refused (Err refusal) A a = a
