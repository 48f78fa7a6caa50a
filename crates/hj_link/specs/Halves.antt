-- What an end of a link keeps beside its seat between two calls.
use Rattle.std.proofs.Common.{sym, subst, ap, ◌∙◌}
use Rattle.std.specs.Prelude.{◌≡◌, ℕ, Bool, true, false, not, ◌+◌, ◌^◌, ◌%◌, ◌<◌, ◌≤◌, List, [], length}
use Rattle.atomic_table.specs.Seated.{TableId}
use Rattle.hj_link.specs.declared.table.Capacities.{Capacities}
use Rattle.hj_link.specs.declared.table.EndState.{EndState}
use Rattle.hj_link.specs.declared.ring.Ring.{Ring}
use Rattle.hj_link.specs.declared.outgoing.OutgoingWay.{OutgoingWay}
use Rattle.hj_link.specs.declared.incoming.IncomingWay.{IncomingWay}
use Rattle.hj_link.specs.Words.{capacity_of, base_of}
use Rattle.hj_link.specs.Rule.{Seated, sent, got}
use Rattle.hj_link.specs.Steps.{has_end, own}

-- The ring into which the end of a side puts, by an end that has put or taken `n` messages of it. A link that goes both ways has as
-- many slots leftwards as rightwards.
pub record IsRing (side : Bool) (capacities : Capacities) (n : ℕ) (ring : Ring) : Type 0 where
  pub first_is : ring.first ≡ base_of side capacities
  pub capacity_is : ring.capacity ≡ capacity_of side capacities
  pub as_rightwards : ring.capacity ≡ capacities.rightwards
  pub next_is : ring.next ≡ n % ring.capacity
  pub some : 0 < ring.capacity
  pub few : ring.first + ring.capacity ≤ 1028

module _ {M : Type 0} where
  -- the seat has the end of this side alone, and holds no slot
  pub record IsSeated (side : Bool) (m : Seated M) : Type 0 where
    pub has : has_end side m.0 ≡ true
    pub alone : has_end (not side) m.0 ≡ false
    pub no_slot : m.1 ≡ []

  -- what an end keeps of the direction into which it puts
  pub record IsOutgoing (side : Bool) (capacities : Capacities) (end : EndState M) (half : OutgoingWay) : Type 0 where
    pub idle : end.putting ≡ false
    pub ring_is : IsRing side capacities (length (sent end)) half.ring
    pub puts_is : half.puts ≡ length (sent end) % 2 ^ 64
    pub seen_is : half.seen_takes ≡ end.known_takes % 2 ^ 64
    pub room_is : length (sent end) + half.room ≡ end.known_takes + half.ring.capacity

  -- what it keeps of the direction from which it takes
  pub record IsIncoming (side : Bool) (capacities : Capacities) (end : EndState M) (half : IncomingWay) : Type 0 where
    pub idle : end.fetching ≡ false
    pub ring_is : IsRing (not side) capacities (length (got end)) half.ring
    pub takes_is : half.takes ≡ length (got end) % 2 ^ 64
    pub ready_is : length (got end) + half.ready ≡ length end.known

  -- the same, of the end that a seat has
  abbrev pub Outgoes : Bool → Seated M → OutgoingWay → Type 0
  Outgoes side m half = IsOutgoing side m.0.capacities (own side m) half

  abbrev pub Incomes : Bool → Seated M → IncomingWay → Type 0
  Incomes side m half = IsIncoming side m.0.capacities (own side m) half

-- a seat, with the table at which it is
pub record AtTable (M : Type 0) : Type 0 where
  pub link : TableId
  pub me : Seated M

module _ {M : Type 0} where
  -- what a put, or a look for room, leaves as it was
  pub record KeepsTakes (side : Bool) (old new : AtTable M) : Type 0 where
    pub link : new.link ≡ old.link
    pub capacities : new.me.0.capacities ≡ old.me.0.capacities
    pub known : (own side new.me).known ≡ (own side old.me).known
    pub got_is : got (own side new.me) ≡ got (own side old.me)
    pub fetching : (own side new.me).fetching ≡ (own side old.me).fetching
    pub empty_looks : (own side new.me).empty_looks ≡ (own side old.me).empty_looks

  -- what a take leaves as it was
  pub record KeepsPuts (side : Bool) (old new : AtTable M) : Type 0 where
    pub link : new.link ≡ old.link
    pub capacities : new.me.0.capacities ≡ old.me.0.capacities
    pub known_takes : (own side new.me).known_takes ≡ (own side old.me).known_takes
    pub sent_is : sent (own side new.me) ≡ sent (own side old.me)
    pub putting : (own side new.me).putting ≡ (own side old.me).putting
    pub full_looks : (own side new.me).full_looks ≡ (own side old.me).full_looks

  -- so a take leaves right what is kept of the puts, and a put what is kept of the takes
  pub outgoes_on : (side : Bool) (old new : AtTable M) (half : OutgoingWay) → KeepsPuts side old new → Outgoes side old.me half → Outgoes side new.me half
  outgoes_on side old new half keeps is = record {
    idle = keeps.putting ∙ is.idle;
    ring_is = subst (λ (c : Capacities). IsRing side c (length (sent (own side new.me))) half.ring) (sym keeps.capacities)
        (subst (λ (l : List M). IsRing side old.me.0.capacities (length l) half.ring) (sym keeps.sent_is) is.ring_is);
    puts_is = is.puts_is ∙ ap (λ (l : List M). length l % 2 ^ 64) (sym keeps.sent_is);
    seen_is = is.seen_is ∙ ap (λ (n : ℕ). n % 2 ^ 64) (sym keeps.known_takes);
    room_is = ap (λ (l : List M). length l + half.room) keeps.sent_is ∙ is.room_is ∙ ap (λ (n : ℕ). n + half.ring.capacity) (sym keeps.known_takes);
  }

  pub incomes_on : (side : Bool) (old new : AtTable M) (half : IncomingWay) → KeepsTakes side old new → Incomes side old.me half → Incomes side new.me half
  incomes_on side old new half keeps is = record {
    idle = keeps.fetching ∙ is.idle;
    ring_is = subst (λ (c : Capacities). IsRing (not side) c (length (got (own side new.me))) half.ring) (sym keeps.capacities)
        (subst (λ (l : List M). IsRing (not side) old.me.0.capacities (length l) half.ring) (sym keeps.got_is) is.ring_is);
    takes_is = is.takes_is ∙ ap (λ (l : List M). length l % 2 ^ 64) (sym keeps.got_is);
    ready_is = ap (λ (l : List M). length l + half.ready) keeps.got_is ∙ is.ready_is ∙ ap length (sym keeps.known);
  }
