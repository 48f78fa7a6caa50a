-- A crew whose outlet gives pairs in order: a run on threads.
use Rattle.std.proofs.Common.{◌≡◌, ℕ, Bool, false, List, [], All, Result, Ok, Err, IfOk, refl, sym, subst}
use Rattle.hj_base.specs.Journals.{IsPrefix}
use Rattle.hj_msg.specs.declared.drain.Drained.{Drained}
use Rattle.hj_msg.specs.declared.drain.Drained.TheVariants.{Kept}
use Rattle.hj_msg.specs.declared.event.Pair.{Pair}
use Rattle.hj_msg.specs.declared.feed.Given.{Given}
use Rattle.hj_msg.specs.declared.fin.Fin.{Fin}
use Rattle.hj_msg.specs.declared.fin.Fin.TheVariants as fin
use Rattle.hj_msg.specs.declared.message.Report.{Report}
use Rattle.hj_msg.specs.Drain.{Drainage, TakesAll, pairs_in}
use Rattle.hj_msg.specs.Emission.{emitted, is_within}
use Rattle.hj_msg.specs.Feed.{FeedState}
use Rattle.hj_msg.specs.Kang.{kang}
use Rattle.hj_msg.specs.Met.{AreAllReportsOf}
use Rattle.hj_msg.specs.Run.{IsComplete, IsRun, Run}
use Rattle.hj_msg.specs.RunsJoin.{EndsJoin}
use Rattle.hj_msg.specs.Valid.{later}
use Rattle.hj_msg.proofs.Emitting.{emits_prefix}
use Rattle.hj_collect.specs.Collector.{CollectorState, least_mark}
use Rattle.hj_raw.specs.Items.{lists_of}
use Rattle.hj_desk.specs.declared.in_order.OrderedOutlet.{OrderedOutlet}
use Rattle.hj_desk.specs.Caller.{last_answer}
use Rattle.hj_desk.specs.OrderedOutlet.{AreAnswered, GivesInOrder}
use Rattle.hj_desk.specs.Releases.{Releases}
use Rattle.hj_desk.proofs.Collecting.{prefix-trans}
use Rattle.hj_desk.proofs.Whole.{none_kept, past_all, whole-of}
use Rattle.hj_crew.specs.Ran.{RanSeen, RunsOnThreads}
use Rattle.hj_crew.specs.RunsCrew.{IsAllDone, RunsCrew}

module _ {P D : Type 0} where
  -- nothing that it keeps is due
  abbrev pub rests-in_order : OrderedOutlet P D → CollectorState → Type 0
  rests-in_order outlet collector = All (λ pair. is_within (least_mark collector) (later pair) ≡ false) outlet.kept

  module _ (run : Run P) (is : IsRun run) (lists : List (List (Report P))) (reports : AreAllReportsOf run lists) (stopped over : Bool) (outlet : OrderedOutlet P D) (taken : List (Drainage P)) (released : Releases lists over outlet.kept (pairs_in taken)) where
    begins : IsPrefix (pairs_in taken) (kang run.matches run.events)
    begins =
        prefix-trans (pairs_in taken) (emitted lists) (kang run.matches run.events) (released.in_order run is reports.of_run) (emits_prefix run is lists reports.of_run)

    pub ends-join : (ended : Fin) → AreAnswered (last_answer ended) taken → (ended ≡ fin.Done → IsComplete is × IsAllDone rests-in_order lists stopped over outlet) → EndsJoin ended stopped taken (kang run.matches run.events)
    ends-join fin.Done answered done =
        let all = (done refl).1 in
        let kept : outlet.kept ≡ [] = none_kept (least_mark all.collector) (past_all (least_mark all.collector) all.ended) outlet.kept all.rests in (
          all.stopped,
          answered,
          whole-of run is (done refl).0 lists reports (pairs_in taken)
              (subst (λ (pairs : List (Pair P)). Releases lists false pairs (pairs_in taken)) kept (subst (λ (b : Bool). Releases lists b outlet.kept (pairs_in taken)) all.going released)),
        )
    ends-join fin.Refused answered done = (answered, begins)
    ends-join fin.Memory answered done = (answered, begins)

module _ {P F D : Type 0} (gives : F → Given P → F → Type 0) (state : F → FeedState) (takes : D → Pair P → Drained → D → Type 0) (matches : P → P → Bool) (cores in_flight : ℕ) (from to : F) (begun now : OrderedOutlet P D) (ran : RanSeen P)
    (crew : RunsCrew gives state (GivesInOrder takes) rests-in_order matches cores in_flight from to begun now ran) (unused : GivesInOrder takes begun cores [] false Kept begun) (unfilled : D) (drain : begun.drain ≡ unfilled) where
  given : GivesInOrder takes begun cores crew.taken crew.over (last_answer ran.ended) now
  given = crew.given unused

  pub runs-in_order : RunsOnThreads gives state takes matches cores in_flight from to unfilled now.drain ran
  runs-in_order = record {
    answers = crew.answers;
    feed = crew.feed;
    taken = given.pairs;
    drain = subst (λ (d : D). TakesAll takes d given.pairs now.drain) drain given.drain;
    made = crew.made;
    in_order = subst (λ (lists : List (List (Report P))). IsPrefix (pairs_in given.pairs) (emitted lists)) (sym crew.lists) (given.released.in_order _ crew.made.run crew.reports.of_run);
    ends =
        ends-join _ crew.made.run (lists_of cores crew.taken) crew.reports (state to).stopped crew.over now given.pairs given.released ran.ended given.answered
        (λ done. (crew.made.complete done, crew.done done));
  }

module _ {P F D E : Type 0} (gives : F → Given P → F → Type 0) (state : F → FeedState) (takes : D → Pair P → Drained → D → Type 0) (matches : P → P → Bool) (cores in_flight : ℕ) (from to : F) (begun now : OrderedOutlet P D) (unfilled : D) (drain : begun.drain ≡ unfilled) where
  -- the same of a run that may have been refused
  pub ran-in_order : (made : Result (RanSeen P) E) → GivesInOrder takes begun cores [] false Kept begun → IfOk made (RunsCrew gives state (GivesInOrder takes) rests-in_order matches cores in_flight from to begun now)
      → IfOk made (RunsOnThreads gives state takes matches cores in_flight from to unfilled now.drain)
  ran-in_order (Ok ran) unused crew = runs-in_order gives state takes matches cores in_flight from to begun now ran crew unused unfilled drain
  ran-in_order (Err error) unused none = tt
