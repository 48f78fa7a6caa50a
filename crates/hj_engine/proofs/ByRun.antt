-- What the run of a join on threads shows.
use Rattle.std.proofs.Common.{◌≡◌, ℕ, zero, suc, Bool, List, [], ◌∷◌, ◌++◌, length, map, refl, sym, ap, subst, ◌∙◌, append-nil, length-append, arith}
use Rattle.std.proofs.lemmas.List.{length-map, nil_from_length}
use Rattle.std.specs.Prelude.{slice_index_or}
use Rattle.std.specs.declared.option.Option.{Option}
use Rattle.hj_value.specs.declared.field.Field.{Field}
use Rattle.hj_base.specs.declared.outside.Role.{Role}
use Rattle.hj_base.specs.Journals.{IsPrefix, puts, takes}
use Rattle.hj_base.specs.Outside.{RoleState}
use Rattle.hj_link.specs.Seen.{WaySeen}
use Rattle.hj_msg.specs.declared.drain.Drained.{Drained}
use Rattle.hj_msg.specs.declared.event.Event.{Event}
use Rattle.hj_msg.specs.declared.event.Pair.{Pair}
use Rattle.hj_msg.specs.declared.feed.Given.{Given}
use Rattle.hj_msg.specs.declared.fin.Fin.{Fin}
use Rattle.hj_msg.specs.declared.fin.Fin.TheVariants as fin
use Rattle.hj_msg.specs.declared.message.Report.{Report}
use Rattle.hj_msg.specs.Drain.{Drainage, pairs_in}
use Rattle.hj_msg.specs.Emission.{emitted}
use Rattle.hj_msg.specs.Feed.{FeedState, events_in}
use Rattle.hj_msg.specs.Kang.{kang}
use Rattle.hj_msg.specs.Met.{AreReportsOf}
use Rattle.hj_msg.specs.Run.{IsRun}
use Rattle.hj_msg.specs.RunsJoin.{EndsJoin, RunsJoin}
use Rattle.hj_msg.proofs.Emitting.{emits_prefix}
use Rattle.hj_query.specs.QueryParts.{QueryParts}
use Rattle.hj_eval.specs.Holds.{holds}
use Rattle.hj_crew.specs.Ran.{RanSeen, RunsOnThreads, queue_at, reports_of, run_of}
use Rattle.hj_stream.specs.declared.outcome.Outcome.{Outcome}
use Rattle.hj_stream.specs.declared.outcome.Outcome.TheVariants as outcome
use Rattle.hj_stream.specs.JoinText.{Line, text_by}
use Rattle.hj_stream.specs.Runs.{EndsRun}
use Rattle.hj_engine.specs.Showing.{ShowsJoinBy}
use Rattle.hj_stream.proofs.Joining.{text-front}
use Rattle.hj_stream.proofs.Over.{JoinsOver}
use Rattle.hj_stream.proofs.Prefixes.{IsPrefix-trans}

-- lists of which each begins the other
same_lists : {X : Type 0} (xs ys : List X) → IsPrefix xs ys → IsPrefix ys xs → xs ≡ ys
same_lists xs ys first second =
    let none : first.rest ≡ [] = nil_from_length first.rest (omega (arith, ap length first.is, ap length second.is, length-append xs first.rest, length-append ys second.rest)) in
    sym (first.is ∙ (ap (λ rest. xs ++ rest) none ∙ append-nil xs))

-- what was taken of a queue, among what was taken of all
reports-at : {P : Type 0} (queues : List (WaySeen (Report P))) (k : ℕ) → slice_index_or (map (λ queue. takes queue.way.receiver) queues) k [] ≡ takes (queue_at queues k).receiver
reports-at [] k = refl
reports-at (queue ∷ queues) zero = refl
reports-at (queue ∷ queues) (suc k) = reports-at queues k

-- the reports that were taken are those of the run
reports_taken : {P : Type 0} (matches : P → P → Bool) (events : List (Event P)) (ran : RanSeen P) → IsRun (run_of matches events ran) → AreReportsOf (run_of matches events ran) (reports_of ran)
reports_taken matches events ran is = record {
  one_each = length-map ran.queues (λ queue. takes queue.way.receiver);
  prefixes = λ k low. subst (λ l. IsPrefix l (puts (queue_at ran.queues k).sender)) (sym (reports-at ran.queues k)) (is.queues k low).flows.taken;
}

-- where all pairs of the join were given, they are all that the reports let through
all_emitted : {P : Type 0} (matches : P → P → Bool) (events : List (Event P)) (ran : RanSeen P) (pairs : List (Pair P)) → IsRun (run_of matches events ran) → IsPrefix pairs (emitted (reports_of ran)) → pairs ≡ kang matches events
    → pairs ≡ emitted (reports_of ran)
all_emitted matches events ran pairs is begins all =
    same_lists pairs (emitted (reports_of ran)) begins
    (subst (λ (joined : List (Pair _)). IsPrefix (emitted (reports_of ran)) joined) (sym all) (emits_prefix (run_of matches events ran) is (reports_of ran) (reports_taken matches events ran is)))

pub ends_whole : (made : Outcome) (ended : Fin) (had wrote all : Type 0) → (ended ≡ fin.Done → wrote → all) → EndsRun made ended (had × wrote) → EndsRun made ended (had × all)
ends_whole outcome.SinkFault ended had wrote all by is = is
ends_whole outcome.Memory ended had wrote all by is = tt
ends_whole (outcome.Done events) ended had wrote all by is = (is.0, (is.1.0, by is.0 is.1.1))
ends_whole (outcome.Bad side at found) ended had wrote all by is = (is.0, (is.1.0, by is.0 is.1.1))
ends_whole (outcome.SourceFault of) ended had wrote all by is = (is.0, (is.1.0, by is.0 is.1.1))
ends_whole outcome.TooMany ended had wrote all by is = (is.0, (is.1.0, by is.0 is.1.1))

-- with Done the drain took all pairs of the join
all_taken : {P : Type 0} (ended : Fin) (stopped : Bool) (taken : List (Drainage P)) (joined : List (Pair P)) → EndsJoin ended stopped taken joined → ended ≡ fin.Done → pairs_in taken ≡ joined
all_taken fin.Done stopped taken joined ends is = ends.2
all_taken fin.Refused stopped taken joined ends is = absurd (let wrong : fin.Refused ≡ fin.Done = is in cc)
all_taken fin.Memory stopped taken joined ends is = absurd (let wrong : fin.Memory ≡ fin.Done = is in cc)

module _ {F D : Type 0} {gives : F → Given (List Field) → F → Type 0} {state : F → FeedState} {takes_pair : D → Pair (List Field) → Drained → D → Type 0} {cores in_flight : ℕ} {from to : F} {unfilled filled : D} {ran : RanSeen (List Field)} (query : QueryParts)
    (runs : RunsOnThreads gives state takes_pair (holds query) cores in_flight from to unfilled filled ran) where
  -- it joins, as a run on a serial chain does
  abbrev pub as_join : RunsJoin gives state takes_pair (holds query) ran.ended from to unfilled filled
  as_join = record { answers = runs.answers; feed = runs.feed; taken = runs.taken; drain = runs.drain; ends = λ well. runs.ends }

  all_given : ran.ended ≡ fin.Done → pairs_in runs.taken ≡ emitted (reports_of ran)
  all_given done = all_emitted (holds query) (events_in runs.answers) ran (pairs_in runs.taken) runs.made.run runs.in_order (all_taken ran.ended (state to).stopped runs.taken (kang (holds query) (events_in runs.answers)) runs.ends done)

  -- what it shows of a join that it made
  pub shows : {line : Line} {made : Outcome} {limit : ℕ} {before now : Role → RoleState} {old new : Option (List ℕ)} (over : JoinsOver line made ran.ended query limit before now old new (events_in runs.answers) (pairs_in runs.taken)) → ShowsJoinBy line over.joins cores in_flight ran
  shows {line} {made} over = record {
    events = events_in runs.answers;
    made = runs.made;
    begins = over.begins;
    writes = IsPrefix-trans over.joins.grown (text_by line (pairs_in runs.taken)) (text_by line (emitted (reports_of ran))) over.writes (text-front line (pairs_in runs.taken) (emitted (reports_of ran)) runs.in_order);
    ends = ends_whole made ran.ended _ _ _ (λ done wrote. wrote ∙ ap (text_by line) (all_given done)) over.ends;
  }
