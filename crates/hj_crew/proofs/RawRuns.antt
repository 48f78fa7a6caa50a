-- A crew whose outlet gives raw items.
use Rattle.std.proofs.Common.{◌≡◌, ℕ, zero, suc, ◌<◌, ◌≤◌, ◌==◌, Bool, true, false, inl, inr, Result, Ok, Err, IfOk, List, [], ◌∷◌, ◌++◌, length, map, filter, get_or, Contains, refl, ap, sym, ◌∙◌, subst, append-nil, arith}
use Rattle.std.proofs.lemmas.Bool.{cases_lt}
use Rattle.std.proofs.lemmas.Bool.Decides.{nat_tests}
use Rattle.std.proofs.lemmas.List.{length-map}
use Rattle.hj_base.specs.Journals.{Entry, taken}
use Rattle.hj_msg.specs.declared.drain.Drained.{Drained}
use Rattle.hj_msg.specs.declared.drain.Drained.TheVariants.{Kept}
use Rattle.hj_msg.specs.declared.event.Event.{Event}
use Rattle.hj_msg.specs.declared.feed.Given.{Given}
use Rattle.hj_msg.specs.declared.fin.Fin.{Fin}
use Rattle.hj_msg.specs.declared.fin.Fin.TheVariants as fin
use Rattle.hj_msg.specs.declared.message.Report.{Report}
use Rattle.hj_msg.specs.Feed.{FeedState, events_in}
use Rattle.hj_msg.specs.Met.{AreAllReportsOf}
use Rattle.hj_msg.specs.Run.{Run}
use Rattle.hj_msg.proofs.Members.{Contains-filter, Contains-map, Contains-nil}
use Rattle.hj_link.specs.Seen.{WaySeen}
use Rattle.hj_collect.specs.Collector.{CollectorState}
use Rattle.hj_raw.specs.Drain.{TakesItems, items_in}
use Rattle.hj_raw.specs.Ending.{EndsRaw}
use Rattle.hj_raw.specs.Telling.{AreTakenOf, TellsAll, TellsMatches}
use Rattle.hj_raw.proofs.Telling.{tells, tells_all}
use Rattle.hj_desk.specs.Taken.{AreTaken, takes_of}
use Rattle.hj_raw.specs.Items.{Item, TakenReport, lists_of, raw_items}
use Rattle.hj_desk.specs.declared.raw.RawOutlet.{RawOutlet}
use Rattle.hj_desk.specs.Caller.{last_answer}
use Rattle.hj_desk.specs.RawOutlet.{GivesRaw}
use Rattle.hj_crew.specs.Ran.{RanSeen, run_of}
use Rattle.hj_crew.specs.RanRaw.{RunsRaw}
use Rattle.hj_crew.specs.RunsCrew.{IsAllDone, RunsCrew}

-- the place behind a list is empty
beyond : {X : Type 0} (lists : List (List X)) (k : ℕ) → length lists ≤ k → get_or lists k [] ≡ []
beyond [] k high = refl
beyond (l ∷ lists) zero high = absurd (omega (arith, high))
beyond (l ∷ lists) (suc k) high = beyond lists k (omega (arith, high))

module _ {P : Type 0} where
  -- what was taken was taken of one of the cores
  known : (journals : List (List (Entry (Report P)))) (reports : List (TakenReport P)) → AreTaken journals reports → (one : TakenReport P) → Contains reports one → one.core < length journals
  known journals reports are one there = elim (cases_lt one.core (length journals)) [
    | inl low ↦ low
    | inr high ↦
        let own : (one.core == one.core) ≡ true = grind (arith, nat_tests) in
        let found : Contains (takes_of one.core reports) (taken one.turn one.report) =
        Contains-map (λ (r : TakenReport P). taken r.turn r.report) (filter (λ (r : TakenReport P). r.core == one.core) reports) one (Contains-filter (λ (r : TakenReport P). r.core == one.core) reports one there own) in
        let none : takes_of one.core reports ≡ [] = sym (are.each one.core) ∙ beyond journals one.core high in
        absurd (Contains-nil (taken one.turn one.report) (subst (λ (l : List (Entry (Report P))). Contains l (taken one.turn one.report)) none found))
  ]

  -- the reports that a run took are of its cores
  taken_of : (run : Run P) (queues : List (WaySeen (Report P))) → run.cores ≡ length queues → (reports : List (TakenReport P)) → AreTaken (map (λ queue. queue.way.receiver) queues) reports → AreAllReportsOf run (lists_of run.cores reports)
      → AreTakenOf run reports
  taken_of run queues many reports are all = record {
    known = λ one there. omega (arith, known (map (λ queue. queue.way.receiver) queues) reports are one there, length-map queues (λ (queue : WaySeen (Report P)). queue.way.receiver), many);
    of_run = all.of_run;
  }

module _ {P D : Type 0} (takes : D → Item P → Drained → D → Type 0) where
  -- nothing waits
  abbrev pub rests-raw : RawOutlet P D → CollectorState → Type 0
  rests-raw outlet collector = outlet.items.items ≡ []

  ends-raw : (begun : RawOutlet P D) (cores : ℕ) (taken : List (TakenReport P)) (stopped over : Bool) (now : RawOutlet P D) (ended : Fin) (given : GivesRaw takes begun cores taken over (last_answer ended) now)
      → (ended ≡ fin.Done → IsAllDone rests-raw (lists_of cores taken) stopped over now) → EndsRaw ended stopped given.offers (raw_items cores taken)
  ends-raw begun cores taken stopped over now fin.Done given done =
      let all = done refl in (
        all.stopped,
        given.answered,
        sym (append-nil (items_in given.offers)) ∙ ap (λ (l : List (Item P)). items_in given.offers ++ l) (sym all.rests) ∙ given.waits all.going,
      )
  ends-raw begun cores taken stopped over now fin.Refused given done = (given.answered, given.begins)
  ends-raw begun cores taken stopped over now fin.Memory given done = (given.answered, given.begins)

  module _ {F : Type 0} (gives : F → Given P → F → Type 0) (state : F → FeedState) (matches : P → P → Bool) (cores in_flight : ℕ) (from to : F) (begun now : RawOutlet P D) (ran : RanSeen P)
      (crew : RunsCrew gives state (GivesRaw takes) rests-raw matches cores in_flight from to begun now ran) (unused : GivesRaw takes begun cores [] false Kept begun) (unfilled : D) (drain : begun.drain ≡ unfilled) where
    given : GivesRaw takes begun cores crew.taken crew.over (last_answer ran.ended) now
    given = crew.given unused

    abbrev events : List (Event P)
    events = events_in crew.answers

    all_reports : AreAllReportsOf (run_of matches events ran) (lists_of (length ran.queues) crew.taken)
    all_reports = subst (λ (n : ℕ). AreAllReportsOf (run_of matches events ran) (lists_of n crew.taken)) (sym crew.made.queues) crew.reports

    of_run : AreTakenOf (run_of matches events ran) crew.taken
    of_run = taken_of (run_of matches events ran) ran.queues refl crew.taken crew.are all_reports

    pub runs-raw : RunsRaw gives state takes matches cores in_flight from to unfilled now.drain ran
    runs-raw = record {
      answers = crew.answers;
      feed = crew.feed;
      offers = given.offers;
      drain = subst (λ (d : D). TakesItems takes d given.offers now.drain) drain given.drain;
      made = crew.made;
      taken = crew.taken;
      are = crew.are;
      lists = crew.lists;
      ends = ends-raw begun cores crew.taken (state to).stopped crew.over now ran.ended given crew.done;
      tells = subst (λ (n : ℕ). TellsMatches matches events (raw_items n crew.taken)) crew.made.queues (tells (run_of matches events ran) crew.made.run crew.taken of_run);
      tells_all = λ done.
          subst (λ (n : ℕ). TellsAll matches events (raw_items n crew.taken)) crew.made.queues
          (tells_all (run_of matches events ran) crew.made.run crew.taken of_run (crew.made.complete done) all_reports);
    }

  module _ {F E : Type 0} (gives : F → Given P → F → Type 0) (state : F → FeedState) (matches : P → P → Bool) (cores in_flight : ℕ) (from to : F) (begun now : RawOutlet P D) (unfilled : D) (drain : begun.drain ≡ unfilled) where
    -- the same of a run that may have been refused
    pub ran-raw : (made : Result (RanSeen P) E) → GivesRaw takes begun cores [] false Kept begun → IfOk made (RunsCrew gives state (GivesRaw takes) rests-raw matches cores in_flight from to begun now)
        → IfOk made (RunsRaw gives state takes matches cores in_flight from to unfilled now.drain)
    ran-raw (Ok ran) unused crew = runs-raw gives state matches cores in_flight from to begun now ran crew unused unfilled drain
    ran-raw (Err error) unused none = tt
