-- A run on threads, as it is handed back.
use Rattle.std.specs.Prelude.{◌≡◌, ℕ, ◌+◌, Bool, List, [], length, map, slice_index_or}
use Rattle.hj_base.specs.Journals.{IsPrefix, takes}
use Rattle.hj_base.specs.Link.{Link, OneWay}
use Rattle.hj_msg.specs.declared.drain.Drained.{Drained}
use Rattle.hj_msg.specs.declared.event.Event.{Event}
use Rattle.hj_msg.specs.declared.event.Pair.{Pair}
use Rattle.hj_msg.specs.declared.feed.Given.{Given}
use Rattle.hj_msg.specs.declared.fin.Fin.{Fin}
use Rattle.hj_msg.specs.declared.fin.Fin.TheVariants.{Done}
use Rattle.hj_msg.specs.declared.message.Msg.{Msg}
use Rattle.hj_msg.specs.declared.message.Report.{Report}
use Rattle.hj_msg.specs.Drain.{Drainage, TakesAll, pairs_in}
use Rattle.hj_msg.specs.Emission.{emitted}
use Rattle.hj_msg.specs.Feed.{FeedState, GoesOverAnswers, events_in}
use Rattle.hj_msg.specs.Kang.{kang}
use Rattle.hj_msg.specs.Run.{Run, IsRun, IsComplete}
use Rattle.hj_msg.specs.RunsJoin.{EndsJoin}
use Rattle.hj_link.specs.Seen.{LinkSeen, WaySeen, link_of, one_way_of}

-- what is seen of it
pub record RanSeen (P : Type 0) : Type 0 where
  -- the links, from left to right
  pub links : List (LinkSeen (Msg P))
  -- the queue of each core's reports, by the place of the core
  pub queues : List (WaySeen (Report P))
  -- how many events may be outstanding
  pub flight : ℕ
  pub ended : Fin

module _ {P : Type 0} where
  -- the journals of a link; those of one that isn't there are empty
  abbrev pub link_at : List (LinkSeen (Msg P)) → ℕ → Link (Msg P)
  link_at links k = slice_index_or (map (λ link. link.link) links) k (link_of [] [])

  abbrev pub queue_at : List (WaySeen (Report P)) → ℕ → OneWay (Report P)
  queue_at queues k = slice_index_or (map (λ queue. queue.way) queues) k (one_way_of [] [])

  -- the run over these events, for this join
  abbrev pub run_of : (P → P → Bool) → List (Event P) → RanSeen P → Run P
  run_of matches events ran = record {
    matches = matches;
    cores = length ran.queues;
    flight = ran.flight;
    events = events;
    link = link_at ran.links;
    queue = queue_at ran.queues;
  }

  -- what was taken of each core's reports
  abbrev pub reports_of : RanSeen P → List (List (Report P))
  reports_of ran = map (λ queue. takes queue.way.receiver) ran.queues

  -- The journals of the links and queues of so many cores, with so many events outstanding at most, make a run over these events, for
  -- this join. It is complete where all was done.
  pub record MakesRun (matches : P → P → Bool) (events : List (Event P)) (cores in_flight : ℕ) (ran : RanSeen P) : Type 0 where
    pub links : length ran.links ≡ cores + 1
    pub queues : length ran.queues ≡ cores
    pub flight : ran.flight ≡ in_flight
    pub run : IsRun (run_of matches events ran)
    pub complete : ran.ended ≡ Done → IsComplete run

  -- What a run on threads of so many cores did, with so many events outstanding at most: it took what a feed gave, and gave the
  -- pairs to a drain.
  pub record RunsOnThreads {F D : Type 0} (gives : F → Given P → F → Type 0) (state : F → FeedState) (takes_pair : D → Pair P → Drained → D → Type 0) (matches : P → P → Bool)
      (cores in_flight : ℕ) (from to : F) (unfilled filled : D) (ran : RanSeen P) : Type 0 where
    -- what the feed answered, and the pairs that the drain took, each with its answer
    pub answers : List (Given P)
    pub feed : GoesOverAnswers gives from answers to
    pub taken : List (Drainage P)
    pub drain : TakesAll takes_pair unfilled taken filled
    -- it made a run over the events among these answers
    pub made : MakesRun matches (events_in answers) cores in_flight ran
    -- the pairs are the first ones of those that the reports which were taken let through, and of the sequential join
    pub in_order : IsPrefix (pairs_in taken) (emitted (reports_of ran))
    pub ends : EndsJoin ran.ended (state to).stopped taken (kang matches (events_in answers))
