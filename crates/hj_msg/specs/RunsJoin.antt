-- What a run of a chain does between a feed and a drain: it joins what the one gives, and gives the pairs to the other. The join
-- is the sequential sliding-window join (Kang, Naughton and Viglas, ICDE 2003).
use Rattle.std.specs.Prelude.{◌≡◌, Bool, true, List}
use Rattle.hj_base.specs.Journals.{IsPrefix}
use Rattle.hj_msg.specs.declared.drain.Drained.{Drained}
use Rattle.hj_msg.specs.declared.event.Pair.{Pair}
use Rattle.hj_msg.specs.declared.feed.Given.{Given}
use Rattle.hj_msg.specs.declared.fin.Fin.{Fin}
use Rattle.hj_msg.specs.declared.fin.Fin.TheVariants as fin
use Rattle.hj_msg.specs.Drain.{AreKept, Drainage, IsLastRefused, TakesAll, pairs_in}
use Rattle.hj_msg.specs.Event.{IsWellFormed}
use Rattle.hj_msg.specs.Feed.{FeedState, GoesOverAnswers, events_in}
use Rattle.hj_msg.specs.Kang.{kang}

-- Where all is done, no event is to come, and the drain kept all pairs of the join; else it took the first of them.
abbrev pub EndsJoin : {P : Type 0} → Fin → Bool → List (Drainage P) → List (Pair P) → Type 0
EndsJoin fin.Done stopped taken joined = (stopped ≡ true) × AreKept taken × (pairs_in taken ≡ joined)
EndsJoin fin.Refused stopped taken joined = IsLastRefused taken × IsPrefix (pairs_in taken) joined
EndsJoin fin.Memory stopped taken joined = AreKept taken × IsPrefix (pairs_in taken) joined

-- A run joins the events that the feed gave, where these are well formed: the drain took the pairs of their sequential join, in
-- its order.
pub record RunsJoin {P F D : Type 0} (gives : F → Given P → F → Type 0) (state : F → FeedState) (takes : D → Pair P → Drained → D → Type 0) (matches : P → P → Bool)
    (ended : Fin) (from to : F) (unfilled filled : D) : Type 0 where
  pub answers : List (Given P)
  pub feed : GoesOverAnswers gives from answers to
  pub taken : List (Drainage P)
  pub drain : TakesAll takes unfilled taken filled
  pub ends : IsWellFormed (events_in answers) → EndsJoin ended (state to).stopped taken (kang matches (events_in answers))
