-- The join of two streams in memory: what it wrote is the text of the whole streams, and it ended well or memory ran out.
use Rattle.std.proofs.Common.{◌≡◌, ℕ, ◌<◌, ◌≤◌, ◌^◌, Bool, true, false, List, [], Some, refl, sym, ap, ap₂, subst, ◌∙◌, arith}
use Rattle.std.specs.Prelude.{IfNone, IfSome}
use Rattle.std.specs.declared.option.Option.{Option}
use Rattle.hj_base.specs.declared.numbers.Side.{Side}
use Rattle.hj_base.specs.declared.outside.Role.{Role}
use Rattle.hj_base.specs.declared.outside.Role.TheVariants as role
use Rattle.hj_base.specs.Outside.{RoleState}
use Rattle.hj_value.specs.declared.field.Field.{Field}
use Rattle.hj_crew.specs.Ran.{RanSeen}
use Rattle.hj_stream.specs.declared.outcome.Outcome.{Outcome}
use Rattle.hj_stream.specs.declared.outcome.Outcome.TheVariants as outcome
use Rattle.hj_stream.specs.Joining.{CountsSinkFault, Joins, WritesText}
use Rattle.hj_stream.specs.JoinText.{JoinResult, join_result}
use Rattle.hj_engine.specs.Showing.{ShowsJoin}
use Rattle.hj_event.specs.declared.fault.RecordFault.{RecordFault}
use Rattle.hj_event.specs.Arrivals.{Ending, bad, clean, too_many}
use Rattle.hj_event.specs.Roles.{IsReadOn}
use Rattle.hj_event.specs.Sides.{Follows, in_front}
use Rattle.hj_gen.specs.Streams.{right_seed, stream_of}
use Rattle.hj_gen.specs.Summary.{summary_of}
use Rattle.hj_query.specs.Keyed.{IsEquiQuery}
use Rattle.hj_query.specs.QueryParts.{QueryParts}
use Rattle.hj_record.specs.Pieces.{Stream}
use Rattle.hj_relay.specs.Relay.{whole}
use Rattle.hj_serve.specs.Crew.{ShowsMade, made_roles}
use Rattle.hj_serve.specs.Made.{JoinsHeld, unread_stream, unread_streams}
use Rattle.hj_opening.specs.Generating.{IsSummary, join_made, left_stream}
use Rattle.hj_held.specs.Held.{HeldState, KeptState, TwoHeld, held_role, open_role}
use Rattle.hj_opening.specs.Words.{ChainShape, Recipe, most_events}
use Rattle.hj_opening.proofs.MadeEvents.{ends_clean}

-- what is left of a stream follows what was read of it
follows_rest : (failed ended : Bool) (rest : List ℕ) → failed ≡ false → (ended ≡ true → rest ≡ []) → Follows failed ended (whole rest)
follows_rest true ended rest none at_end = absurd cc
follows_rest false true rest none at_end = ap whole (at_end refl)
follows_rest false false rest none at_end = tt

module _ (bytes : List ℕ) (after : HeldState) (failed ended : Bool) (came : List ℕ) (reads : IsReadOn failed came false ended (open_role (unread_stream bytes)) (open_role after)) where
  follows_read : failed ≡ false → Follows failed ended (whole after.rest)
  follows_read none = follows_rest failed ended after.rest none reads.in_step.at_end

  is_whole : in_front came (whole after.rest) ≡ whole bytes
  is_whole = ap whole (sym reads.came)

module _ (ended : Outcome) (query : QueryParts) (limit : ℕ) (left right text : List ℕ) (after : TwoHeld)
    (joins : Joins ended query limit (held_role (unread_streams left right)) (held_role after) (Some []) (Some text)) where
  text_of_whole : joins.left_failed ≡ false → joins.right_failed ≡ false → WritesText ended text (join_result query (whole left) (whole right) limit)
  text_of_whole left_unfailed right_unfailed =
      let l = follows_read left after.left joins.left_failed joins.left_ended joins.left_bytes joins.left left_unfailed in
      let r = follows_read right after.right joins.right_failed joins.right_ended joins.right_bytes joins.right right_unfailed in
      let written : text ≡ joins.grown = joins.written in
      subst (λ (grown : List ℕ). WritesText ended grown (join_result query (whole left) (whole right) limit)) (sym written)
      (subst (λ (stream : Stream). WritesText ended joins.grown (join_result query stream (whole right) limit)) (is_whole left after.left joins.left_failed joins.left_ended joins.left_bytes joins.left)
      (subst (λ (stream : Stream). WritesText ended joins.grown (join_result query (in_front joins.left_bytes (whole after.left.rest)) stream limit)) (is_whole right after.right joins.right_failed joins.right_ended joins.right_bytes joins.right)
      (joins.text (whole after.left.rest) (whole after.right.rest) l r)))

bad≢clean : (of : Side) (at : ℕ) (found : RecordFault) → ¬ (◌≡◌ {A = Ending} (bad of at found) clean)
bad≢clean of at found e = cc

too_many≢clean : ¬ (◌≡◌ {A = Ending} too_many clean)
too_many≢clean e = cc

-- The two outcomes of a join in memory.
abbrev pub IsDoneOrMemory : Outcome → Type 0
IsDoneOrMemory (outcome.Done events) = Unit {0}
IsDoneOrMemory outcome.Memory = Unit {0}
IsDoneOrMemory other = ⊥

-- ---- the join of streams that stand in memory, as it is seen

pub held_joins : (query : QueryParts) (limit : ℕ) (left right : List ℕ) (crew : ChainShape) (before after : TwoHeld) (kept kept' : KeptState) → before ≡ unread_streams left right → kept ≡ record { text = []; refusals = 0 }
    → (ended : Outcome) (ran : Option (RanSeen (List Field)))
    → (joins : Joins ended query limit (held_role before) (held_role after) (Some kept.text) (Some kept'.text)) × IfSome ran (ShowsJoin joins crew.cores crew.flight)
    → IfNone ran (ended ≡ outcome.Memory) → CountsSinkFault ended 0 0 → JoinsHeld query limit left right crew ended kept'.text ran
held_joins query limit left right crew before after kept kept' is_before is_kept ended ran so no_run faults =
    let made =
    subst (λ (held : TwoHeld). (joins : Joins ended query limit (held_role held) (held_role after) (Some []) (Some kept'.text)) × IfSome ran (ShowsJoin joins crew.cores crew.flight)) is_before
    (subst (λ (k : KeptState). (joins : Joins ended query limit (held_role before) (held_role after) (Some k.text) (Some kept'.text)) × IfSome ran (ShowsJoin joins crew.cores crew.flight)) is_kept so) in
    record { after = after; joins = made.0; shows = made.1; no_run = no_run; faults = faults }

-- ---- the streams of a recipe

module _ (recipe : Recipe) (query : QueryParts) (few : recipe.rows ≤ 100000) (some : 0 < recipe.keys) (few_keys : recipe.keys ≤ 2 ^ 32) (keyed : IsEquiQuery recipe.window query)
    (left right : List ℕ) (is_left : left ≡ stream_of recipe.rows recipe.keys recipe.seed) (is_right : right ≡ stream_of recipe.rows recipe.keys (right_seed recipe.seed)) where
  -- what is shown of the join of these streams holds of the join of those that are made, and the other way round
  made_from : (P : JoinResult → Type 0) → P (join_result query (whole left) (whole right) most_events) → P (join_made recipe query most_events)
  made_from P p =
      subst (λ (bytes : List ℕ). P (join_result query (left_stream recipe) (whole bytes) most_events)) is_right
      (subst (λ (bytes : List ℕ). P (join_result query (whole bytes) (whole right) most_events)) is_left p)

  ends : (join_result query (whole left) (whole right) most_events).ending ≡ clean
  ends = sym (made_from (λ joined. joined.ending ≡ (join_result query (whole left) (whole right) most_events).ending) refl) ∙ ends_clean recipe query few some few_keys keyed

  module _ (after : TwoHeld) (text : List ℕ) where
    abbrev Joined : Outcome → Type 0
    Joined ended = Joins ended query most_events (held_role (unread_streams left right)) (held_role after) (Some []) (Some text)

    text_as : (ended : Outcome) (joins : Joined ended) → joins.left_failed ≡ false → joins.right_failed ≡ false → WritesText ended text (join_result query (whole left) (whole right) most_events)
    text_as ended joins left_unfailed right_unfailed = text_of_whole ended query most_events left right text after joins left_unfailed right_unfailed

    no_fault : (failed : Bool) (came : List ℕ) (at_end : Bool) (was now : HeldState) → failed ≡ true → IsReadOn failed came false at_end (open_role was) (open_role now) → ⊥
    no_fault true came at_end was now e reads = omega (arith, reads.faults.1)
    no_fault false came at_end was now e reads = cc

    only : (ended : Outcome) → Joined ended → CountsSinkFault ended 0 0 → IsDoneOrMemory ended
    only (outcome.Done events) joins counts = tt
    only outcome.Memory joins counts = tt
    only (outcome.Bad of at found) joins counts = bad≢clean of at found (sym (text_as (outcome.Bad of at found) joins joins.failed.0 joins.failed.1).1 ∙ ends)
    only outcome.TooMany joins counts = too_many≢clean (sym (text_as outcome.TooMany joins joins.failed.0 joins.failed.1).1 ∙ ends)
    only outcome.SinkFault joins counts = omega (arith, counts.1)
    only (outcome.SourceFault role.Query) joins counts = text_as (outcome.SourceFault role.Query) joins joins.failed.0 joins.failed.1
    only (outcome.SourceFault role.SecondQuery) joins counts = text_as (outcome.SourceFault role.SecondQuery) joins joins.failed.0 joins.failed.1
    only (outcome.SourceFault role.Third) joins counts = text_as (outcome.SourceFault role.Third) joins joins.failed.0 joins.failed.1
    only (outcome.SourceFault role.Trace) joins counts = text_as (outcome.SourceFault role.Trace) joins joins.failed.0 joins.failed.1
    only (outcome.SourceFault role.Output) joins counts = text_as (outcome.SourceFault role.Output) joins joins.failed.0 joins.failed.1
    only (outcome.SourceFault role.Left) joins counts = no_fault joins.left_failed joins.left_bytes joins.left_ended (unread_stream left) after.left joins.failed.0 joins.left
    only (outcome.SourceFault role.Right) joins counts = no_fault joins.right_failed joins.right_bytes joins.right_ended (unread_stream right) after.right joins.failed.1 joins.right

    summed : (line : List ℕ) (events : ℕ) → Joined (outcome.Done events) → line ≡ summary_of events text → IsSummary line recipe most_events
    summed line events joins is =
        let wrote = text_as (outcome.Done events) joins joins.failed.0 joins.failed.1 in
        record {
          query = query;
          keyed = keyed;
          ending = ends_clean recipe query few some few_keys keyed;
          sums_up = made_from (λ joined. line ≡ summary_of joined.events joined.text) (is ∙ ap₂ summary_of (sym wrote.2) wrote.0);
        }

    -- the run that made the join
    module _ (crew : ChainShape) (events : ℕ) (ran : RanSeen (List Field)) where
      abbrev Shown : (Role → RoleState) → Type 0
      Shown from = (joins : Joins (outcome.Done events) query most_events from (held_role after) (Some []) (Some text)) × ShowsJoin joins crew.cores crew.flight ran

      shown_made : Shown (held_role (unread_streams left right)) → Shown (made_roles recipe)
      shown_made shown =
          subst (λ (bytes : List ℕ). Shown (held_role (unread_streams (stream_of recipe.rows recipe.keys recipe.seed) bytes))) is_right
          (subst (λ (bytes : List ℕ). Shown (held_role (unread_streams bytes right))) is_left shown)

      shows_made : Shown (held_role (unread_streams left right)) → ShowsMade crew recipe most_events ran
      shows_made shown =
          let made = shown_made shown in
          record { query = query; keyed = keyed; events = events; now = held_role after; text = text; joins = made.0; shows = made.1 }

  -- ---- the join that was made

  module _ (crew : ChainShape) (ended : Outcome) (text : List ℕ) (ran : Option (RanSeen (List Field))) (held : JoinsHeld query most_events left right crew ended text ran) where
    pub is_done : IsDoneOrMemory ended
    is_done = only held.after text ended held.joins held.faults

    module _ (events : ℕ) (done : ended ≡ outcome.Done events) where
      pub done_summed : (line : List ℕ) → line ≡ summary_of events text → IsSummary line recipe most_events
      done_summed line is = summed held.after text line events (subst (Joined held.after text) done held.joins) is

      pub done_shows : (one : RanSeen (List Field)) → ran ≡ Some one → ShowsMade crew recipe most_events one
      done_shows one is =
          shows_made held.after text crew events one
          (subst (λ (r : Option (RanSeen (List Field))). (joins : Joined held.after text (outcome.Done events)) × IfSome r (ShowsJoin joins crew.cores crew.flight)) is
          (subst (λ (o : Outcome). (joins : Joined held.after text o) × IfSome ran (ShowsJoin joins crew.cores crew.flight)) done (held.joins, held.shows)))
