-- What is seen of a feed where a role was read beside its streams.
use Rattle.std.proofs.Common.{◌≡◌, ◌-◌, ℕ, List, is_some, Option, refl, ap, ap₂, ◌∙◌}
use Rattle.hj_value.specs.declared.field.Field.{Field}
use Rattle.hj_base.specs.declared.outside.Outside.{Ghosts as OutsideGhosts}
use Rattle.hj_base.specs.declared.outside.Role.{Role}
use Rattle.hj_msg.specs.declared.event.Event.{Event}
use Rattle.hj_msg.specs.Feed.{numbering_of}
use Rattle.hj_event.specs.Merger.{Merging}
use Rattle.hj_stream.specs.declared.feed.EventFeed.{EventFeed}
use Rattle.hj_stream.specs.declared.outcome.Outcome.{Outcome}
use Rattle.hj_replay.specs.declared.ready.AlwaysReady.{AlwaysReady}
use Rattle.hj_replay.specs.Feeds.{SameOutside, state_of}
use Rattle.hj_verify.specs.Beside.{ReadsBeside}
use Rattle.hj_verify.specs.Checked.{feeding_in}

-- a feed that always counts as ready
abbrev pub over : {O : Type 0} {outside : OutsideGhosts O} → EventFeed O outside → AlwaysReady O outside
over f = record { feed = f }

module _ {O : Type 0} {outside : OutsideGhosts O} (of : Role) (old new : EventFeed O outside) (beside : ReadsBeside {O = O} {outside = outside} of old new) where
  pub feeding_beside : feeding_in new ≡ record (feeding_in old) { roles = outside.state new.outside.now }
  feeding_beside =
      ap (λ (m : Merging). record { merger = m; roles = outside.state new.outside.now; events = new.events; ended = new.ended }) beside.merger
      ∙ (ap (λ (n : ℕ). record { merger = old.merger.now; roles = outside.state new.outside.now; events = n; ended = new.ended }) beside.events
      ∙ ap (λ (e : Option Outcome). record { merger = old.merger.now; roles = outside.state new.outside.now; events = old.events; ended = e }) beside.ended)

  pub state_beside : state_of {O = O} {outside = outside} (record { feed = new }) ≡ state_of {O = O} {outside = outside} (record { feed = old })
  state_beside =
      ap (λ (l : List (Event (List Field))). record { numbering = numbering_of l; remaining = new.limit - new.events; stopped = is_some new.ended }) beside.given
      ∙ (ap₂ (λ (most had : ℕ). record { numbering = numbering_of old.given.items; remaining = most - had; stopped = is_some new.ended }) beside.limit beside.events
      ∙ ap (λ (e : Option Outcome). record { numbering = numbering_of old.given.items; remaining = old.limit - old.events; stopped = is_some e }) beside.ended)

  pub outside_beside : SameOutside {O = O} {outside = outside} (record { feed = old }) (record { feed = new })
  outside_beside = record { same = beside.same; names = beside.names }

pub outside_then : {O : Type 0} {outside : OutsideGhosts O} (a b c : AlwaysReady O outside) → SameOutside {O = O} {outside = outside} a b → SameOutside {O = O} {outside = outside} b c → SameOutside {O = O} {outside = outside} a c
outside_then a b c first second = record { same = second.same ∙ first.same; names = λ name. second.names name ∙ first.names name }

pub outside_same : {O : Type 0} {outside : OutsideGhosts O} (a : AlwaysReady O outside) → SameOutside {O = O} {outside = outside} a a
outside_same a = record { same = refl; names = λ name. refl }
