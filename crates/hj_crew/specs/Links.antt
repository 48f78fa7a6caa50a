-- Links and queues whose ends were handed in, list by list.
use Rattle.std.specs.Prelude.{◌≡◌, ℕ, List, [], map}
use Rattle.std.specs.List.{AllZip, zip}
use Rattle.hj_base.specs.Journals.{Entry}
use Rattle.hj_link.specs.Seen.{EndSeen, LinkSeen, WaySeen, closed, closed_way}

module _ {M : Type 0} where
  -- There are as many first ends as second ones, and each is of the link of the one at its place.
  abbrev pub AreLinked : List (EndSeen M) → List (EndSeen M) → Type 0
  AreLinked firsts seconds = AllZip (λ first second. first.link ≡ second.link) firsts seconds

  -- an end of a new link with room for so many messages: nothing was put or taken at it
  abbrev pub IsNewEnd : ℕ → EndSeen M → Type 0
  IsNewEnd capacity end = (end.journal ≡ []) × (end.capacity ≡ capacity)

  -- both ends of such a link
  abbrev pub AreEndsOfNew : ℕ → EndSeen M → EndSeen M → Type 0
  AreEndsOfNew capacity first second = (first.link ≡ second.link) × IsNewEnd capacity first × IsNewEnd capacity second

  -- what comes of these ends, in order, where those of a link are closed so
  abbrev pub closed_by : {C : Type 0} → (ℕ → List (Entry M) → List (Entry M) → C) → List (EndSeen M) → List (EndSeen M) → List C
  closed_by close firsts seconds = map (λ ends. close ends.0.capacity ends.0.journal ends.1.journal) (zip firsts seconds)

  -- the links of these left and right ends
  abbrev pub closed_links : List (EndSeen M) → List (EndSeen M) → List (LinkSeen M)
  closed_links left right = closed_by closed left right

  -- the queues of these senders and receivers
  abbrev pub closed_queues : List (EndSeen M) → List (EndSeen M) → List (WaySeen M)
  closed_queues senders receivers = closed_by closed_way senders receivers
