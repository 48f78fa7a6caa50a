-- A run of a chain from its beginning joins the events that its feed gave.
use Rattle.std.proofs.Common.{◌≡◌, ℕ, zero, suc, ◌+◌, ◌≤◌, Bool, true, false, cond, List, [], ◌∷◌, ◌++◌, length, map, take, drop, replicate, None, Some, inl, inr, refl, sym, ap, subst, ◌∙◌, take-append-drop, arith}
use Rattle.std.specs.List.{slice_get}
use Rattle.std.proofs.lemmas.List.{take_all}
use Rattle.std.proofs.lemmas.Option.{slice_get_cases}
use Rattle.hj_base.specs.Journals.{IsPrefix}
use Rattle.hj_value.specs.declared.field.Field.{Field}
use Rattle.hj_msg.specs.declared.drain.Drained.{Drained}
use Rattle.hj_msg.specs.declared.event.Event as event
use Rattle.hj_msg.specs.declared.event.Pair.{Pair}
use Rattle.hj_msg.specs.declared.feed.Given.{Given}
use Rattle.hj_msg.specs.declared.feed.Given.TheVariants.{Event, Stop}
use Rattle.hj_msg.specs.Drain.{Drainage, pairs_in}
use Rattle.hj_msg.specs.Emission.{emitted}
use Rattle.hj_msg.specs.Event.{IsWellFormed}
use Rattle.hj_msg.specs.Feed.{FeedState, event_in, is_stop, events_in}
use Rattle.hj_msg.specs.Kang.{kang}
use Rattle.hj_query.specs.QueryParts.{QueryParts}
use Rattle.hj_eval.specs.Holds.{holds}
use Rattle.hj_chain.specs.declared.serial.Chooser.{Chooser}
use Rattle.hj_msg.specs.declared.fin.Fin.{Fin}
use Rattle.hj_msg.specs.declared.fin.Fin.TheVariants as fin
use Rattle.hj_chain.specs.Chain.{Contents}
use Rattle.hj_chain.specs.Progress.{IsDone}
use Rattle.hj_chain.specs.declared.actor.Actor.{Actor}
use Rattle.hj_msg.specs.RunsJoin.{EndsJoin, RunsJoin}
use Rattle.hj_chain.specs.Reached.{StandsFor, collected_of, next_pair}
use Rattle.hj_chain.specs.Serial.{EndsSerial, RunsSerially}
use Rattle.hj_chain.specs.Steps.{GoesWith}
use Rattle.hj_chain.proofs.Finishing.{emission_begins, emission_whole}
use Rattle.hj_engine.specs.Running.{IsBegunChain}
use Rattle.hj_stream.proofs.Prefixes.{IsPrefix-trans}

-- nothing was done, since memory ran out
pub nothing_ran : {P F D : Type 0} (gives : F → Given P → F → Type 0) (state : F → FeedState) (takes : D → Pair P → Drained → D → Type 0) (matches : P → P → Bool) (from to : F) (unfilled filled : D) → to ≡ from → filled ≡ unfilled
    → RunsJoin gives state takes matches fin.Memory from to unfilled filled
nothing_ran gives state takes matches from to unfilled filled not_asked not_filled = record { answers = []; feed = not_asked; taken = []; drain = not_filled; ends = λ well. (refl, record { rest = kang matches []; is = refl }) }

no_events : {P : Type 0} (stops : ℕ) → events_in {P = P} (replicate stops Stop) ≡ []
no_events zero = refl
no_events {P} (suc stops) = no_events {P = P} stops

-- the events among the answers over which a feed went
events_given : {P : Type 0} (taken : List (event.Event P)) (stops : ℕ) → events_in (map Event taken ++ replicate stops Stop) ≡ taken
events_given [] stops = no_events stops
events_given (one ∷ taken) stops = ap (λ events. one ∷ events) (events_given taken stops)

-- the first ones begin a list
take-begins : {X : Type 0} (n : ℕ) (xs : List X) → IsPrefix (take n xs) xs
take-begins n xs = record { rest = drop n xs; is = sym (take-append-drop n xs) }

-- a list that has no element at a place is no longer
length-past : {X : Type 0} (xs : List X) (i : ℕ) → slice_get xs i ≡ None → length xs ≤ i
length-past xs i none = elim (slice_get_cases xs i).1 [
  | inl found ↦ absurd (let is : None ≡ Some found.0 = sym none ∙ found.2 in cc)
  | inr past ↦ past.0
]

ends_by : {P J : Type 0} {predicate : J → P → P → Bool} {chain : Contents P J} {schedule : List Actor} {events : List (event.Event P)} {given : ℕ} (ended : Fin) (pairs : List (Drainage P)) (stands : StandsFor predicate chain schedule events given)
    (stopped : Bool) (joined : List (Pair P)) → EndsSerial ended pairs stands → IsPrefix (pairs_in pairs) joined → (next_pair stands ≡ None → chain.state.over ≡ false → IsDone chain.state → pairs_in pairs ≡ joined)
    → (is_stop chain.state.next ≡ true → stopped ≡ true) → EndsJoin ended stopped pairs joined
ends_by fin.Done pairs stands stopped joined ends begins whole stops = (stops ends.3, ends.0, whole ends.1 ends.2 ends.4)
ends_by fin.Refused pairs stands stopped joined ends begins whole stops = (ends, begins)
ends_by fin.Memory pairs stands stopped joined ends begins whole stops = (ends.0, begins)

module _ {F D : Type 0} (gives : F → Given (List Field) → F → Type 0) (is_ready : F → Bool) (state : F → FeedState) (takes : D → Pair (List Field) → Drained → D → Type 0) (query : QueryParts) (rule : Chooser)
    (old new : Contents (List Field) QueryParts) (from mid to : F) (unfilled filled : D) (begun : IsBegunChain gives query old from mid) (join : new.join ≡ old.join) (goes : GoesWith holds new (state to)) where
  module _ (ended : Fin) (runs : RunsSerially gives is_ready takes holds rule [] (event_in (Some begun.first)) 0 old mid unfilled ended new to filled) where
    abbrev events : List (event.Event (List Field))
    events = event_in (Some begun.first) ++ runs.taken

    abbrev joined : List (Pair (List Field))
    joined = kang (holds query) events

    abbrev collected : List (Pair (List Field))
    collected = emitted (collected_of runs.stands.reached)

    begins : IsWellFormed events → IsPrefix (pairs_in runs.pairs) joined
    begins well =
        IsPrefix-trans (pairs_in runs.pairs) collected joined
        (subst (λ (l : List (Pair (List Field))). IsPrefix l collected) (sym runs.in_order) (take-begins (length runs.pairs) collected))
        (subst (λ (q : QueryParts). IsPrefix collected (kang (holds q) events)) (join ∙ begun.join) (emission_begins holds new _ events (0 + length runs.pairs) runs.stands well))

    whole : IsWellFormed events → next_pair runs.stands ≡ None → new.state.over ≡ false → IsDone new.state → pairs_in runs.pairs ≡ joined
    whole well none going done =
        let past : slice_get collected (0 + length runs.pairs) ≡ None = subst (λ over. cond over None (slice_get collected (0 + length runs.pairs)) ≡ None) going none in
        let all : length collected ≤ length runs.pairs = omega (arith, length-past collected (0 + length runs.pairs) past) in
        runs.in_order ∙ (take_all (length runs.pairs) collected all
        ∙ (emission_whole holds new _ events (0 + length runs.pairs) runs.stands well done ∙ ap (λ (q : QueryParts). kang (holds q) events) (join ∙ begun.join)))

    ends : IsWellFormed events → EndsJoin ended (state to).stopped runs.pairs joined
    ends well = ends_by ended runs.pairs runs.stands (state to).stopped joined runs.ends (begins well) (whole well) goes.stopped

    pub ran : RunsJoin gives state takes (holds query) ended from to unfilled filled
    ran =
        let all : events_in (begun.first ∷ (map Event runs.taken ++ replicate runs.feed.stops Stop)) ≡ events = ap (λ (later : List (event.Event (List Field))). event_in (Some begun.first) ++ later) (events_given runs.taken runs.feed.stops) in
        record {
          answers = begun.first ∷ (map Event runs.taken ++ replicate runs.feed.stops Stop);
          feed = (mid, begun.given, runs.feed.answers);
          taken = runs.pairs;
          drain = runs.drain;
          ends = λ well. subst (λ (l : List (event.Event (List Field))). EndsJoin ended (state to).stopped runs.pairs (kang (holds query) l)) (sym all) (ends (subst (λ (l : List (event.Event (List Field))). IsWellFormed l) all well));
        }
