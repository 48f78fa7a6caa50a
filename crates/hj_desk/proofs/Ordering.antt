-- What gives pairs in order, with one more report or one more pair.
use Rattle.std.proofs.Common.{◌≡◌, ℕ, zero, suc, ◌<◌, Bool, true, false, List, [], ◌∷◌, ◌++◌, length, get_or, replicate, Option, refl, sym, ◌∙◌, subst, arith, true≢false}
use Rattle.std.proofs.lemmas.List.{length-replicate, length-set, map-append}
use Rattle.std.proofs.lemmas.List.Sums.{fold-append}
use Rattle.std.proofs.lemmas.List.Sorted.{IsPermutation-refl}
use Rattle.std.specs.declared.result.Result.{Result}
use Rattle.std.specs.declared.result.Result.TheVariants.{Ok, Err}
use Rattle.std.specs.Result.{OnErr, OnOk}
use Rattle.std.specs.List.{fold}
use Rattle.std.specs.List.Sorted.{IsPermutation}
use Rattle.hj_msg.specs.declared.drain.Drained.{Drained}
use Rattle.hj_msg.specs.declared.drain.Drained.TheVariants.{Kept}
use Rattle.hj_msg.specs.declared.event.Pair.{Pair}
use Rattle.hj_msg.specs.declared.message.Report.{Report}
use Rattle.hj_msg.specs.Drain.{Drainage, pairs_in}
use Rattle.hj_msg.specs.Emission.{emitted}
use Rattle.hj_msg.specs.Met.{met, pairs_of}
use Rattle.hj_msg.specs.Punctuation.{Mark, punctuation}
use Rattle.hj_collect.specs.Giving.{AreTakenOut, Gives}
use Rattle.hj_collect.specs.Collector.{CollectorState, least_mark}
use Rattle.hj_collect.proofs.Giving.{answered-both, takes-both}
use Rattle.hj_collect.proofs.Following.{least_follows}
use Rattle.hj_raw.specs.Items.{TakenReport, lists_of, with_taken}
use Rattle.hj_desk.specs.declared.in_order.OrderedOutlet.{OrderedOutlet}
use Rattle.hj_desk.specs.OrderedOutlet.{GivesInOrder}
use Rattle.hj_desk.specs.Outlet.{GivesDue, KeepsReport, LosesReport}
use Rattle.hj_desk.specs.Releases.{Releases}
use Rattle.hj_desk.proofs.Collecting.{releases-more}
use Rattle.hj_desk.proofs.Releasing.{taken-more}

module _ {P : Type 0} where
  length-taken : (lists : List (List (Report P))) (taken : List (TakenReport P)) → length (fold with_taken lists taken) ≡ length lists
  length-taken lists [] = refl
  length-taken lists (first ∷ later) = length-taken (with_taken lists first) later ∙ length-set lists first.core (get_or lists first.core [] ++ first.report ∷ [])

  pub length-lists : (cores : ℕ) (taken : List (TakenReport P)) → length (lists_of cores taken) ≡ cores
  length-lists cores taken = length-taken (replicate cores []) taken ∙ length-replicate cores []

  pub lists-more : (cores : ℕ) (taken : List (TakenReport P)) (next : TakenReport P) → lists_of cores (taken ++ next ∷ []) ≡ with_taken (lists_of cores taken) next
  lists-more cores taken next = fold-append with_taken (replicate cores []) taken (next ∷ [])

  none_met : (cores : ℕ) → met {P = P} (replicate cores []) ≡ []
  none_met zero = refl
  none_met (suc cores) = none_met cores

  -- no pair is given where no report was taken
  pub releases-nothing : (cores : ℕ) → Releases {P = P} (lists_of cores []) false [] []
  releases-nothing cores = record {
    in_order = λ run is are. record { rest = emitted (lists_of cores []); is = refl };
    others = λ lasts run is are. subst (λ (pairs : List (Pair P)). IsPermutation [] pairs) (sym (none_met cores)) (IsPermutation-refl []);
  }

module _ {P D : Type 0} (takes : D → Pair P → Drained → D → Type 0) (collector : CollectorState) where
  module _ (report : Report P) (old : OrderedOutlet P D) (kept : List (Pair P)) where
    abbrev now : OrderedOutlet P D
    now = record old { kept = kept }

    with-report : (over over' : Bool) (begun : OrderedOutlet P D) (cores : ℕ) (taken : List (TakenReport P)) (next : TakenReport P) → next.report ≡ report → next.core < cores → (over' ≡ false → (over ≡ false) × IsPermutation (old.kept ++ pairs_of report) kept)
        → GivesInOrder takes begun cores taken over Kept old → GivesInOrder takes begun cores (taken ++ next ∷ []) over' Kept now
    with-report over over' begun cores taken next is low added given = record {
      pairs = given.pairs;
      drain = given.drain;
      answered = given.answered;
      released =
          subst (λ (lists : List (List (Report P))). Releases lists over' kept (pairs_in given.pairs)) (sym (lists-more cores taken next))
          (releases-more (lists_of cores taken) next.core next.report (omega (arith, low, length-lists cores taken)) over over' old.kept kept (pairs_in given.pairs) given.released
          (subst (λ (r : Report P). over' ≡ false → (over ≡ false) × IsPermutation (old.kept ++ pairs_of r) kept) (sym is) added));
    }

    pub keeps-report : IsPermutation (old.kept ++ pairs_of report) kept → KeepsReport (GivesInOrder takes) collector report old now
    keeps-report more begun cores taken next over is noted given = with-report over over begun cores taken next is noted.known (λ lasts. (lasts, more)) given

    pub loses-report : LosesReport (GivesInOrder takes) collector report old now
    loses-report begun cores taken next over is noted given = with-report over true begun cores taken next is noted.known (λ lasts. absurd (true≢false lasts)) given

  -- ---- all that are due are given

  pub gives-due : (old : OrderedOutlet P D) (answer : Drained) (left : List (Pair P)) (filled : D) → Gives takes (least_mark collector) old.kept old.drain answer left filled
      → GivesDue (GivesInOrder takes) collector answer old (record { kept = left; drain = filled })
  gives-due old answer left filled gives begun cores taken follows given =
      let lists = lists_of cores taken in
      let out : AreTakenOut (punctuation lists) old.kept (pairs_in gives.pairs) left = subst (λ (m : Option Mark). AreTakenOut m old.kept (pairs_in gives.pairs) left) (least_follows collector lists follows) gives.out in
      record {
        pairs = given.pairs ++ gives.pairs;
        drain = takes-both takes given.pairs gives.pairs begun.drain old.drain filled given.drain gives.drain;
        answered = answered-both answer given.pairs gives.pairs given.answered gives.answered;
        released =
            subst (λ (pairs : List (Pair P)). Releases lists false left pairs) (sym (map-append (λ (o : Drainage P). o.pair) given.pairs gives.pairs))
            (taken-more lists old.kept left (pairs_in given.pairs) (pairs_in gives.pairs) given.released out);
      }

-- what follows of an answer
pub then-ok : {T E : Type 0} (result : Result T E) (A B : Type 0) → (A → B) → OnOk result A → OnOk result B
then-ok (Ok value) A B follows a = follows a
then-ok (Err refusal) A B follows a = tt

pub then-err : {T E : Type 0} (result : Result T E) (A B : Type 0) → (A → B) → OnErr result A → OnErr result B
then-err (Ok value) A B follows a = tt
then-err (Err refusal) A B follows a = follows a

-- no report was taken
pub in_order-unused : {P D : Type 0} (takes : D → Pair P → Drained → D → Type 0) (outlet : OrderedOutlet P D) → outlet.kept ≡ [] → (cores : ℕ) → GivesInOrder takes outlet cores [] false Kept outlet
in_order-unused {P} takes outlet none cores = record {
  pairs = [];
  drain = refl;
  answered = refl;
  released = subst (λ (kept : List (Pair P)). Releases (lists_of cores []) false kept []) (sym none) (releases-nothing cores);
}
