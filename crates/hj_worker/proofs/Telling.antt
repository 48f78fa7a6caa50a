-- What a whole call tells, by what its part told that did the work.
use Rattle.std.proofs.Common.{◌≡◌, ◌↔◌, ℕ, ◌+◌, ◌<◌, Bool, true, false, true≢false, List, [], length, Contains, ap, sym, ◌∙◌, subst, arith, append-nil}
use Rattle.hj_base.specs.declared.numbers.Side.{Side}
use Rattle.hj_base.specs.declared.numbers.Side.TheVariants.{Left, Right}
use Rattle.hj_base.specs.Journals.{puts}
use Rattle.hj_msg.specs.declared.message.Msg.{Msg}
use Rattle.hj_msg.specs.declared.message.Report.TheVariants.{Ended as End}
use Rattle.hj_worker.specs.declared.answers.Place.{Place}
use Rattle.hj_worker.specs.declared.answers.Place.TheVariants.{Link, Reports}
use Rattle.hj_worker.specs.declared.answers.Turn.{Turn}
use Rattle.hj_worker.specs.declared.answers.Turn.TheVariants.{Did, Idle, Blocked, Ended, NoMemory}
use Rattle.hj_worker.specs.Outgoing.{Outgoing, Journals, entries_in}
use Rattle.hj_worker.specs.Hands.{unput, refused}
use Rattle.hj_worker.specs.Seen.{WorkerSeen, first_end, full_looks, has_ended, journals_of}
use Rattle.hj_worker.specs.Turning.{FindsNone, Handles, IsUnmoved, Puts, PutsInHand, PutsOn, TurnsOn}
use Rattle.hj_worker.proofs.Putting.{entries-puts, entries-take}
use Rattle.hj_worker.proofs.Standings.{unput-is, refused-isnt, none-left}

module _ {P : Type 0} where
  -- a put of something, and a take, make the journals longer
  longer-puts : (number : ℕ) (items : List (Outgoing P)) (old new : Journals P) → Puts number items old [] new → 0 < length items → entries_in old < entries_in new
  longer-puts number items old new puts some =
      let grown : entries_in new ≡ entries_in old + length puts.done = ap entries_in puts.journals ∙ entries-puts number old puts.done in
      let all : length items ≡ length puts.done = ap length (puts.all ∙ append-nil puts.done) in
      omega (arith, grown, all, some)

module _ {P J : Type 0} where
  longer-handles : (matches : P → P → Bool) (first : Side) (old new : WorkerSeen P J) → Handles matches first old new → entries_in (journals_of old.ends) < entries_in (journals_of new.ends)
  longer-handles matches first old new handles =
      let taken : entries_in (journals_of handles.between) ≡ entries_in (journals_of old.ends) + 1 = ap entries_in handles.takes.journals ∙ entries-take old.taken handles.takes.end handles.message (journals_of old.ends) in
      let put : entries_in (journals_of new.ends) ≡ entries_in (journals_of handles.between) + length handles.puts.done = ap entries_in handles.puts.journals ∙ entries-puts old.taken (journals_of handles.between) handles.puts.done in
      omega (arith, taken, put)

  -- the count of the calls is of no account
  module _ (old : WorkerSeen P J) (calls : ℕ) where
    abbrev called : WorkerSeen P J
    called = record old { calls = calls }

    unmoved-called : (new : WorkerSeen P J) → IsUnmoved called new → IsUnmoved old new
    unmoved-called new unmoved = record { journals = unmoved.journals; state = unmoved.state; hand = unmoved.hand; taken = unmoved.taken }

    puts-called : (items others : List (Outgoing P)) (new : WorkerSeen P J) → PutsInHand items called others new → PutsInHand items old others new
    puts-called items others new puts = record { puts = puts.puts; state = puts.state; hand = puts.hand; taken = puts.taken }

    puts_on-called : (items : List (Outgoing P)) (result : Turn) (new : WorkerSeen P J) → PutsOn items called result new → PutsOn items old result new
    puts_on-called items Did new puts = puts-called items [] new puts
    puts_on-called items (Blocked place) new puts = (puts.0, puts-called items puts.0 new puts.1, puts.2)
    puts_on-called items Idle new puts = puts
    puts_on-called items Ended new puts = puts
    puts_on-called items NoMemory new puts = puts

    turns_on-called : (matches : P → P → Bool) (first : Side) (result : Turn) (new : WorkerSeen P J) → TurnsOn matches first called result new → TurnsOn matches first old result new
    turns_on-called matches first Did new turns = record {
      message = turns.message;
      between = turns.between;
      takes = turns.takes;
      others = turns.others;
      puts = turns.puts;
      waits = turns.waits;
      state = turns.state;
      hand = turns.hand;
      taken = turns.taken;
    }
    turns_on-called matches first NoMemory new turns = record {
      message = turns.message;
      between = turns.between;
      takes = turns.takes;
      journals = turns.journals;
      state = turns.state;
      hand = turns.hand;
      taken = turns.taken;
    }
    turns_on-called matches first Idle new turns = (unmoved-called new turns.0, turns.1, turns.2)
    turns_on-called matches first (Blocked Reports) new turns = (unmoved-called new turns.0, turns.1)
    turns_on-called matches first (Blocked (Link side)) new turns = turns
    turns_on-called matches first Ended new turns = turns

  turns-blocked : (matches : P → P → Bool) (first : Side) (old : WorkerSeen P J) (place : Place) (new : WorkerSeen P J) → TurnsOn matches first old (Blocked place) new → full_looks place new.ends ≡ full_looks place old.ends + 1
  turns-blocked matches first old Reports new turns = turns.1
  turns-blocked matches first old (Link side) new turns = absurd turns

module _ {P J : Type 0} (predicate : J → P → P → Bool) where
  -- the clauses of a call
  pub record Told (old : WorkerSeen P J) (result : Turn) (new : WorkerSeen P J) : Type 0 where
    pub no_memory : (message : Msg P) → old.hand ≡ refused message → (result ≡ NoMemory) × IsUnmoved old new
    pub in_hand : (items : List (Outgoing P)) → old.hand ≡ unput items → 0 < length items → PutsOn items old result new
    pub goes_on : old.hand ≡ unput [] → has_ended old.state ≡ false → TurnsOn (predicate old.join) (first_end old.calls) old result new
    pub did : result ≡ Did → entries_in (journals_of old.ends) < entries_in (journals_of new.ends)
    pub idle : result ≡ Idle → (old.hand ≡ unput []) × FindsNone Left old.ends new.ends × FindsNone Right old.ends new.ends
    pub blocked : (place : Place) → result ≡ Blocked place → full_looks place new.ends ≡ full_looks place old.ends + 1
    pub ended : (result ≡ Ended) ↔ ((old.hand ≡ unput []) × (has_ended old.state ≡ true))
    pub ended_reported : result ≡ Ended → Contains (puts new.ends.reports.journal) End
    pub ended_stays : result ≡ Ended → IsUnmoved old new

  -- with something in hand
  pub told-rest : (before old : WorkerSeen P J) (calls : ℕ) (items : List (Outgoing P)) (result : Turn) (new : WorkerSeen P J) → before ≡ old → before.hand ≡ unput items → 0 < length items
      → PutsOn items (record before { calls = calls }) result new → Told old result new
  told-rest before old calls items result new is hand some called =
      let puts : PutsOn items before result new = puts_on-called before calls items result new called in
      let at = λ (r : Turn) (e : result ≡ r). subst (λ r'. PutsOn items before r' new) e puts in
      subst (λ v. Told v result new) is
      (record {
        no_memory = λ message held. absurd (refused-isnt message items (sym held ∙ hand));
        in_hand = λ items' held some'. subst (λ xs. PutsOn xs before result new) (unput-is items items' (sym hand ∙ held)) puts;
        goes_on = λ held unended. absurd (none-left items (unput-is items [] (sym hand ∙ held)) some);
        did = λ e. let all : PutsInHand items before [] new = at Did e in longer-puts _ items (journals_of before.ends) (journals_of new.ends) all.puts some;
        idle = λ e. absurd (at Idle e);
        blocked = λ place e. (at (Blocked place) e).2.full;
        ended = ((λ e. absurd (at Ended e)), (λ whole. absurd (none-left items (unput-is items [] (sym hand ∙ whole.0)) some)));
        ended_reported = λ e. absurd (at Ended e);
        ended_stays = λ e. absurd (at Ended e);
      })

  -- with nothing in hand, and a close still to come
  pub told-next : (before old : WorkerSeen P J) (calls : ℕ) (first : Side) (result : Turn) (new : WorkerSeen P J) → before ≡ old → before.hand ≡ unput [] → has_ended before.state ≡ false → first ≡ first_end before.calls
      → TurnsOn (predicate before.join) first (record before { calls = calls }) result new → Told old result new
  told-next before old calls first result new is hand unended first_is called =
      let turns : TurnsOn (predicate before.join) first before result new = turns_on-called before calls (predicate before.join) first result new called in
      let at = λ (r : Turn) (e : result ≡ r). subst (λ r'. TurnsOn (predicate before.join) first before r' new) e turns in
      subst (λ v. Told v result new) is
      (record {
        no_memory = λ message held. absurd (refused-isnt message [] (sym held ∙ hand));
        in_hand = λ items held some. absurd (none-left items (unput-is items [] (sym held ∙ hand)) some);
        goes_on = λ held still. subst (λ side. TurnsOn (predicate before.join) side before result new) first_is turns;
        did = λ e. longer-handles (predicate before.join) first before new (at Did e);
        idle = λ e. let none = at Idle e in (hand, none.1, none.2);
        blocked = λ place e. turns-blocked (predicate before.join) first before place new (at (Blocked place) e);
        ended = ((λ e. absurd (at Ended e)), (λ whole. absurd (true≢false (sym whole.1 ∙ unended))));
        ended_reported = λ e. absurd (at Ended e);
        ended_stays = λ e. absurd (at Ended e);
      })
