-- A join whose pairs are written as they are met: what was written is raw text of the join of its streams.
use Rattle.std.proofs.Common.{◌≡◌, ℕ, ◌<◌, List, [], ◌∷◌, ◌++◌, None, Some, sym, ◌∙◌, subst, refl, arith}
use Rattle.std.proofs.KnownBytes.{Appends-nil}
use Rattle.std.specs.Prelude.{IfNone, IfSome}
use Rattle.std.specs.Io.KnownBytes.{Appends}
use Rattle.std.specs.declared.option.Option.{Option}
use Rattle.hj_base.specs.declared.outside.Role.TheVariants as role
use Rattle.hj_base.specs.Journals.{IsPrefix}
use Rattle.hj_value.specs.declared.field.Field.{Field}
use Rattle.hj_record.specs.Pieces.{Stream}
use Rattle.hj_msg.specs.declared.event.Event.{Event}
use Rattle.hj_query.specs.QueryParts.{QueryParts}
use Rattle.hj_eval.specs.Holds.{holds}
use Rattle.hj_event.specs.Events.{events_of}
use Rattle.hj_event.specs.Sides.{in_front}
use Rattle.hj_msg.specs.Punctuation.{Mark}
use Rattle.hj_raw.specs.Items.{Item, marked}
use Rattle.hj_raw.specs.Items.{raw_items as items_taken}
use Rattle.hj_raw.specs.Telling.{TellsAll, TellsMatches}
use Rattle.hj_crew.specs.Ran.{RanSeen}
use Rattle.hj_stream.specs.declared.outcome.Outcome.{Outcome}
use Rattle.hj_stream.specs.declared.outcome.Outcome.TheVariants as outcome
use Rattle.hj_stream.specs.Joining.{JoinsTo, WritesText}
use Rattle.hj_stream.specs.RawJoining.{JoinsRaw, result_with}
use Rattle.hj_stream.specs.Runs.{EndsRun, OfEvents}
use Rattle.hj_stream.proofs.Joining.{joins_saying}
use Rattle.hj_engine.specs.ShowingRaw.{ShowsRaw}
use Rattle.hj_opening.specs.Joining.{JoinsKind}
use Rattle.hj_opening.specs.Texts.{BeginsRawText, IsRawText, WritesKind}
use Rattle.hj_opening.specs.Words.{raw_items}
use Rattle.hj_opening.proofs.Phases.{Roles}

-- nothing was written where there is no run
pub untouched_out : (rest same : Type 0) (ran : Option (RanSeen (List Field))) → IfNone ran (rest × same) → IfNone ran same
untouched_out rest same None both = both.1
untouched_out rest same (Some ran) both = tt

-- ---- no item at all

no_items : (query : QueryParts) → TellsMatches (holds query) [] []
no_items query = record {
  only = λ pair found. absurd (none_below found.0 found.1);
  once = λ i j. omega arith;
  before = λ front back mark is pair match within. absurd (no_front front mark back is);
  behind = λ front back mark is pair found. absurd (no_front front mark back is);
  rising = λ front between back first second is. absurd (no_front front first _ is);
}
  where
    none_below : (place : ℕ) → place < 0 → ⊥
    none_below place below = omega (arith, below)

    no_front : (front : List (Item (List Field))) (mark : Mark) (back : List (Item (List Field))) → [] ≡ front ++ marked mark ∷ back → ⊥
    no_front [] mark back is = cc
    no_front (item ∷ front) mark back is = cc

begins_nothing : (query : QueryParts) (events : List (Event (List Field))) → BeginsRawText query events []
begins_nothing query events = record {
  first = [];
  are_first = record { rest = events; is = refl };
  items = [];
  tells = no_items query;
  begins = record { rest = []; is = refl };
}

module _ {ended : Outcome} {query : QueryParts} {limit : ℕ} {before now : Roles} {old new : Option (List ℕ)} (raw : JoinsRaw ended query limit before now old new) where
  abbrev made : JoinsTo (result_with raw.text) ended query limit before now old new
  made = raw.joins

  -- ---- a run that is handed back

  module _ (cores flight : ℕ) (ran : RanSeen (List Field)) (shows : ShowsRaw raw cores flight ran) where
    abbrev items : List (Item (List Field))
    items = items_taken cores shows.taken

    abbrev Whole : Type 0
    Whole = OfEvents made (λ all. shows.events ≡ all) × ((made.grown ≡ raw.text) × TellsAll (holds query) shows.events items)

    whole : (all : List (Event (List Field))) → shows.events ≡ all → TellsAll (holds query) shows.events items → made.grown ≡ raw.text → IsRawText query all made.grown
    whole all is each wrote = record {
      items = items;
      is = wrote ∙ shows.is;
      tells = subst (λ (events : List (Event (List Field))). TellsMatches (holds query) events items) is shows.tells;
      whole = subst (λ (events : List (Event (List Field))). TellsAll (holds query) events items) is each;
    }

    front : (all : List (Event (List Field))) → IsPrefix shows.events all → IsPrefix made.grown raw.text → BeginsRawText query all made.grown
    front all first begins = record {
      first = shows.events;
      are_first = first;
      items = items;
      tells = shows.tells;
      begins = subst (λ (text : List ℕ). IsPrefix made.grown text) shows.is begins;
    }

    module _ (left right : Stream) (same : Whole → shows.events ≡ (events_of query left right limit).events) (first : IsPrefix shows.events (events_of query left right limit).events) where
      writes : (how : Outcome) → EndsRun how ran.ended Whole → WritesText how made.grown (result_with raw.text query left right limit) → WritesKind raw_items how query left right limit made.grown
      writes (outcome.Done events) ends w = (whole _ (same ends.1) ends.1.1.1 w.0, w.1)
      writes (outcome.Bad of at why) ends w = (whole _ (same ends.1) ends.1.1.1 w.0, w.1)
      writes (outcome.SourceFault role.Query) ends w = absurd w
      writes (outcome.SourceFault role.SecondQuery) ends w = absurd w
      writes (outcome.SourceFault role.Left) ends w = (whole _ (same ends.1) ends.1.1.1 w.0, w.1)
      writes (outcome.SourceFault role.Right) ends w = (whole _ (same ends.1) ends.1.1.1 w.0, w.1)
      writes (outcome.SourceFault role.Third) ends w = absurd w
      writes (outcome.SourceFault role.Trace) ends w = absurd w
      writes (outcome.SourceFault role.Output) ends w = absurd w
      writes outcome.SinkFault ends w = front _ first w
      writes outcome.TooMany ends w = (whole _ (same ends.1) ends.1.1.1 w.0, w.1)
      writes outcome.Memory ends w = front _ first w

    by_run : JoinsKind raw_items ended query limit before now old new
    by_run = joins_saying made made.grown made.written (λ l r l_follows r_follows.
        writes (in_front made.left_bytes l) (in_front made.right_bytes r) (λ had. had.0 l r l_follows r_follows) (shows.begins l r l_follows r_follows) ended shows.ends (made.text l r l_follows r_follows))

  -- ---- no run: memory ran out before anything was read

  without_run : ended ≡ outcome.Memory → new ≡ old → JoinsKind raw_items ended query limit before now old new
  without_run memory same = joins_saying made [] (subst (λ (told : Option (List ℕ)). Appends old told []) (sym same) (Appends-nil old))
      (λ l r l_follows r_follows. subst (λ (how : Outcome). WritesKind raw_items how query (in_front made.left_bytes l) (in_front made.right_bytes r) limit []) (sym memory) (begins_nothing query _))

  pub joins_items : (cores flight : ℕ) (ran : Option (RanSeen (List Field))) → IfSome ran (ShowsRaw raw cores flight) → IfNone ran (ended ≡ outcome.Memory) → IfNone ran (new ≡ old)
      → JoinsKind raw_items ended query limit before now old new
  joins_items cores flight None shows memory same = without_run memory same
  joins_items cores flight (Some ran) shows memory same = by_run cores flight ran shows
