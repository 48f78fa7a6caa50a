-- The run of an order whose chain threads turn, from that of its parts.
use Rattle.std.proofs.Common.{◌≡◌, ◌≢◌, ℕ, List, Err, None, Some, sym, ap, subst, inl, inr, refl, arith}
use Rattle.std.specs.Prelude.{IsSome, IfSome, IfNone}
use Rattle.std.specs.declared.option.Option.{Option}
use Rattle.hj_base.specs.declared.outside.Role.TheVariants as role
use Rattle.hj_value.specs.declared.field.Field.{Field}
use Rattle.hj_query.specs.QueryParts.{QueryParts}
use Rattle.hj_crew.specs.Ran.{RanSeen}
use Rattle.hj_stream.specs.declared.outcome.Outcome.{Outcome}
use Rattle.hj_stream.specs.declared.outcome.Outcome.TheVariants as outcome
use Rattle.hj_stream.specs.Joining.{Joins}
use Rattle.hj_stream.specs.RawJoining.{JoinsRaw}
use Rattle.hj_engine.specs.Showing.{ShowsJoin}
use Rattle.hj_engine.specs.ShowingRaw.{ShowsRaw}
use Rattle.hj_notes.specs.declared.note.Note.{Note}
use Rattle.hj_opening.specs.Calls.{Call, call}
use Rattle.hj_serve.specs.Crew.{CameToJoin, ShowsKind, ShowsOrder, ShowsStreams}
use Rattle.hj_notes.specs.NoteText.{status_of, status_of_end}
use Rattle.hj_serve.specs.OnCrew.{RunsOnCrew}
use Rattle.hj_opening.specs.Joining.{JoinsKind}
use Rattle.hj_opening.specs.Ready.{EndsEarly, IsReady}
use Rattle.hj_opening.specs.Run.{RunsOrder, end_of}
use Rattle.hj_opening.specs.Serve.{AcceptsQuery}
use Rattle.hj_opening.specs.Words.{ChainShape, Names, Order, QuerySource, TextKind, join_streams, pair_lines, raw_items}
use Rattle.hj_opening.proofs.Joined.{query_stays}
use Rattle.hj_opening.proofs.Phases.{Roles, open-opened}
use Rattle.hj_opening.proofs.Endings.{End}

abbrev pub Shown : Type 0
Shown = Option (RanSeen (List Field))

-- ---- what a run shows, by the text of its join

module _ (crew : ChainShape) {ended : Outcome} {query : QueryParts} {limit : ℕ} {before now : Roles} {old new : Option (List ℕ)} where
  pub shows_lines : (joins : Joins ended query limit before now old new) (ran : Shown) → IfSome ran (ShowsJoin joins crew.cores crew.flight)
      → IfSome ran (ShowsKind pair_lines crew ended query limit before now old new)
  shows_lines joins None shows = tt
  shows_lines joins (Some ran) shows = (joins, shows)

  pub shows_items : (joins : JoinsRaw ended query limit before now old new) (ran : Shown) → IfSome ran (ShowsRaw joins crew.cores crew.flight)
      → IfSome ran (ShowsKind raw_items crew ended query limit before now old new)
  shows_items joins None shows = tt
  shows_items joins (Some ran) shows = (joins, shows)

-- ---- an order that ended before its join

pub runs_early : (crew : ChainShape) (note : Note) (order : Order) (under : List ℕ → Option (List ℕ)) (before now : Roles) (told : Option (List ℕ)) (faults : ℕ) → EndsEarly note order under before now
    → RunsOnCrew crew (record { end = Err note; ran = None }) order (call under before now told told faults faults)
runs_early crew note order under before now told faults early = record {
  runs = early.runs told faults;
  ran = λ other. ((λ some. absurd cc), (λ came. absurd (too_early other came)));
  shows = tt;
}
  where
    too_early : status_of note ≢ 6 → CameToJoin (Some crew) (status_of note) now → ⊥
    too_early other came = elim early.early [
      | inl two ↦ came.query two
      | inr later ↦ elim later [ inl six ↦ other six | inr closed ↦ closed.1 (came.streams closed.0) ]
    ]

-- ---- a join that was made

not_refused : (limit : ℕ) (ended : Outcome) → (status_of_end (end_of limit ended) ≢ 1) × (status_of_end (end_of limit ended) ≢ 2)
not_refused limit (outcome.Done events) = ((λ e. omega (arith, e)), (λ e. omega (arith, e)))
not_refused limit (outcome.Bad of at found) = ((λ e. omega (arith, e)), (λ e. omega (arith, e)))
not_refused limit (outcome.SourceFault of) = ((λ e. omega (arith, e)), (λ e. omega (arith, e)))
not_refused limit outcome.SinkFault = ((λ e. omega (arith, e)), (λ e. omega (arith, e)))
not_refused limit outcome.TooMany = ((λ e. omega (arith, e)), (λ e. omega (arith, e)))
not_refused limit outcome.Memory = ((λ e. omega (arith, e)), (λ e. omega (arith, e)))

module _ (crew : ChainShape) (kind : TextKind) (source : QuerySource) (names : Names) (limit : ℕ) (under : List ℕ → Option (List ℕ)) (before mid now : Roles) (old new : Option (List ℕ)) (query : QueryParts) (ready : IsReady query source names under before mid)
    (ended : Outcome) (joins : JoinsKind kind ended query limit mid now old new) (faults faults' : ℕ) where
  abbrev this_call : Call
  this_call = call under before now old new faults faults'

  abbrev this_join : Order
  this_join = join_streams kind source names limit

  abbrev ends_with : ℕ
  ends_with = status_of_end (end_of limit ended)

  all_came : CameToJoin (Some crew) ends_with now
  all_came =
      let not = not_refused limit ended in
      record {
        threads = refl;
        words = not.0;
        query = not.1;
        streams = λ four. (open-opened _ joins.left_ended (now role.Left).phase joins.left.in_step.phase, open-opened _ joins.right_ended (now role.Right).phase joins.right.in_step.phase);
      }

  -- the query of the order, as it stands behind the join
  pub accepted : AcceptsQuery source query this_call
  accepted = query_stays kind query limit names under before mid now old new faults faults' source ready ended joins

  handed : (ran : Shown) → IfNone ran (ended ≡ outcome.Memory) → ends_with ≢ 6 → CameToJoin (Some crew) ends_with now → IsSome ran
  handed None memory other back = absurd (other (ap (λ (o : Outcome). status_of_end (end_of limit o)) memory))
  handed (Some ran) memory other back = refl

  pub runs_joined : (end : End) (ran : Shown) → end ≡ end_of limit ended → RunsOrder end this_join this_call
      → IfSome ran (ShowsOrder crew this_join ends_with this_call) → IfNone ran (ended ≡ outcome.Memory)
      → RunsOnCrew crew (record { end = end; ran = ran }) this_join this_call
  runs_joined end ran is runs shows memory =
      subst (λ (e : End). RunsOrder e this_join this_call → RunsOnCrew crew (record { end = e; ran = ran }) this_join this_call) (sym is)
      (λ so. record { runs = so; ran = λ other. ((λ some. all_came), (λ back. handed ran memory other back)); shows = shows }) runs

  -- what the run shows
  pub shows_streams : (ran : Shown) → IfSome ran (ShowsKind kind crew ended query limit mid now old new)
      → IfSome ran (ShowsStreams kind crew source names limit ends_with this_call)
  shows_streams None shows = tt
  shows_streams (Some ran) shows = record {
    query = query;
    accepted = accepted;
    opened = mid;
    are_opened = ready.opened;
    outcome = ended;
    status_of_outcome = refl;
    shows = shows;
  }
