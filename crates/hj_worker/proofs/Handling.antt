-- What a call does, put together from what its parts did.
use Rattle.std.proofs.Common.{◌≡◌, None, Some, Option, ℕ, ◌+◌, ◌-◌, ◌<◌, Bool, false, List, [], ◌∷◌, ◌++◌, length, refl, ap, ap₂, sym, ◌∙◌, subst, arith, append-nil}
use Rattle.hj_base.specs.declared.numbers.Side.{Side}
use Rattle.hj_base.specs.declared.numbers.Side.TheVariants.{Left, Right}
use Rattle.hj_base.specs.Journals.{put}
use Rattle.hj_msg.specs.declared.message.Msg.{Msg}
use Rattle.hj_msg.specs.declared.message.Report.{Report}
use Rattle.hj_msg.specs.declared.message.Report.TheVariants.{NoMemory}
use Rattle.hj_msg.specs.Core as step
use Rattle.hj_core.specs.declared.sends.Sends.{Sends}
use Rattle.hj_core.specs.declared.way.Way.{Way}
use Rattle.hj_core.specs.declared.way.Way.TheVariants.{Left as ToLeft, Right as ToRight}
use Rattle.hj_core.specs.Contents.{Contents, KeepsPlace}
use Rattle.hj_core.specs.Sent.{sent}
use Rattle.hj_link.specs.Seen.{EndSeen}
use Rattle.hj_worker.specs.declared.answers.Place.{Place}
use Rattle.hj_worker.specs.declared.answers.Place.TheVariants.{Link, Reports}
use Rattle.hj_worker.specs.declared.ends.WorkerEnds.{WorkerEnds}
use Rattle.hj_worker.specs.declared.hand.Hand.{Hand}
use Rattle.hj_worker.specs.declared.hand.Hand.TheVariants.{Nothing, Rest, Refused}
use Rattle.hj_worker.specs.Outgoing.{Outgoing, Journals, leftwards, rightwards, reported, in_order, outgoing, passed, with_puts, with_take}
use Rattle.hj_worker.specs.Hands.{InHand, unput, in_hand, things_of}
use Rattle.hj_worker.specs.Seen.{WorkerSeen, journals_of, full_looks, has_ended}
use Rattle.hj_worker.specs.Standing.{Begins, IsBetween, IsInTheMidst, IsOutOfMemory, Stands}
use Rattle.hj_worker.specs.Turning.{AreBlocked, FindsNone, Handles, LeavesInHand, Puts, PutsInHand, RunsOut, Takes}
use Rattle.hj_worker.proofs.Standings.{unput-is, refused-isnt, none-left, finished}

module _ {P : Type 0} (matches : P → P → Bool) (place n : ℕ) where
  -- where a worker stands, by what is in hand
  pub midst-of : (state : step.State P) (journals : Journals P) (taken : ℕ) (hand : Hand P) (sends : Sends P) → hand ≡ Rest sends → Stands matches place n state journals taken hand
      → IsInTheMidst matches place n state journals taken (things_of sends)
  midst-of state journals taken hand sends is stands = subst (Stands matches place n state journals taken) is stands

  pub between-of : (state : step.State P) (journals : Journals P) (taken : ℕ) (hand : Hand P) → in_hand hand ≡ unput [] → Stands matches place n state journals taken hand
      → IsBetween matches place n state journals taken
  between-of state journals taken Nothing nothing stands = stands
  between-of state journals taken (Rest sends) nothing stands = absurd (none-left (things_of sends) (unput-is (things_of sends) [] nothing) stands.some)
  between-of state journals taken (Refused message) nothing stands = absurd (refused-isnt message [] nothing)

  pub nothing-of : (state : step.State P) (journals : Journals P) (taken : ℕ) (hand : Hand P) → in_hand hand ≡ unput [] → Stands matches place n state journals taken hand → hand ≡ Nothing
  nothing-of state journals taken Nothing nothing stands = refl
  nothing-of state journals taken (Rest sends) nothing stands = absurd (none-left (things_of sends) (unput-is (things_of sends) [] nothing) stands.some)
  nothing-of state journals taken (Refused message) nothing stands = absurd (refused-isnt message [] nothing)

module _ {P : Type 0} where
  journals-same : (a b : Journals P) → a.left ≡ b.left → a.right ≡ b.right → a.reports ≡ b.reports → a ≡ b
  journals-same a b left right reports = ap₂ (λ l r. record a { left = l; right = r }) left right ∙ ap (λ rs. record b { reports = rs }) reports

  -- what a look leaves that finds room for a report
  pub record Looked (old new : WorkerEnds P) : Type 0 where
    pub left : new.left ≡ old.left
    pub right : new.right ≡ old.right
    pub reports : new.reports.journal ≡ old.reports.journal
    pub full : new.reports.full_looks ≡ old.reports.full_looks

  looked-journals : (old new : WorkerEnds P) → Looked old new → journals_of new ≡ journals_of old
  looked-journals old new looked =
      journals-same (journals_of new) (journals_of old) (ap (λ (e : EndSeen (Msg P)). e.journal) looked.left) (ap (λ (e : EndSeen (Msg P)). e.journal) looked.right) looked.reports

  looked-none : (end : Side) (old mid new : WorkerEnds P) → Looked old mid → FindsNone end mid new → FindsNone end old new
  looked-none Left old mid new looked none = none ∙ ap (λ (e : EndSeen (Msg P)). e.empty_looks + 1) looked.left
  looked-none Right old mid new looked none = none ∙ ap (λ (e : EndSeen (Msg P)). e.empty_looks + 1) looked.right

  looked-takes : (number : ℕ) (first : Side) (message : Msg P) (old mid new : WorkerEnds P) → Looked old mid → Takes number first message mid new → Takes number first message old new
  looked-takes number first message old mid new looked takes = record {
    end = takes.end;
    journals = takes.journals ∙ ap (with_take number takes.end message) (looked-journals old mid looked);
    order = λ other. looked-none first old mid new looked (takes.order other);
  }

  -- neither that look nor a take finds a place full
  pub full-kept : (place : Place) (old mid new : WorkerEnds P) → Looked old mid → (new.left.full_looks ≡ mid.left.full_looks) × (new.right.full_looks ≡ mid.right.full_looks) → new.reports ≡ mid.reports
      → full_looks place new ≡ full_looks place old
  full-kept (Link Left) old mid new looked kept same = kept.0 ∙ ap (λ (e : EndSeen (Msg P)). e.full_looks) looked.left
  full-kept (Link Right) old mid new looked kept same = kept.1 ∙ ap (λ (e : EndSeen (Msg P)). e.full_looks) looked.right
  full-kept Reports old mid new looked kept same = ap (λ (s : EndSeen (Report P)). s.full_looks) same ∙ looked.full

  pub blocked-since : (place : Place) (items : List (Outgoing P)) (old mid new : WorkerEnds P) → full_looks place mid ≡ full_looks place old → AreBlocked place items mid new → AreBlocked place items old new
  blocked-since place items old mid new same blocked = record { first = blocked.first; later = blocked.later; are = blocked.are; at = blocked.at; full = blocked.full ∙ ap (λ looks. looks + 1) same }

  pub some-blocked : (place : Place) (items : List (Outgoing P)) (old new : WorkerEnds P) → AreBlocked place items old new → 0 < length items
  some-blocked place items old new blocked = let longer : length items ≡ length (blocked.first ∷ blocked.later) = ap length blocked.are in omega arith

  -- all was put
  pub puts-all : (number : ℕ) (items : List (Outgoing P)) (old new : Journals P) → new ≡ with_puts number old items → Puts number items old [] new
  puts-all number items old new is = record { done = items; all = sym (append-nil items); journals = is }

  -- a message to be passed on for which there was no room is in hand
  pub left-kept : (number : ℕ) (old : WorkerEnds P) (end : EndSeen (Msg P)) (way : Way) (message back : Msg P) (hand : Hand P) → way ≡ ToLeft → back ≡ message → end.journal ≡ old.left.journal → end.full_looks ≡ old.left.full_looks + 1
      → hand ≡ Rest (record { to_left = Some back; to_right = None; to_right_then = None; entry = None }) → LeavesInHand number (passed way message) old hand (record old { left = end })
  left-kept number old end way message back hand way_is back_is same full hand_is =
      subst (λ (h : Hand P). LeavesInHand number (passed way message) old h (record old { left = end })) (sym hand_is)
      (subst (λ (w : Way). LeavesInHand number (passed w message) old (Rest (record { to_left = Some back; to_right = None; to_right_then = None; entry = None })) (record old { left = end })) (sym way_is)
      (subst (λ (m : Msg P). LeavesInHand number (passed ToLeft message) old (Rest (record { to_left = Some m; to_right = None; to_right_then = None; entry = None })) (record old { left = end })) (sym back_is)
      (record { done = []; all = refl; journals = ap (λ j. record (journals_of old) { left = j }) same }, (Link Left, record { first = leftwards message; later = []; are = refl; at = refl; full = full }))))

  pub right-kept : (number : ℕ) (old : WorkerEnds P) (end : EndSeen (Msg P)) (way : Way) (message back : Msg P) (hand : Hand P) → way ≡ ToRight → back ≡ message → end.journal ≡ old.right.journal → end.full_looks ≡ old.right.full_looks + 1
      → hand ≡ Rest (record { to_left = None; to_right = Some back; to_right_then = None; entry = None }) → LeavesInHand number (passed way message) old hand (record old { right = end })
  right-kept number old end way message back hand way_is back_is same full hand_is =
      subst (λ (h : Hand P). LeavesInHand number (passed way message) old h (record old { right = end })) (sym hand_is)
      (subst (λ (w : Way). LeavesInHand number (passed w message) old (Rest (record { to_left = None; to_right = Some back; to_right_then = None; entry = None })) (record old { right = end })) (sym way_is)
      (subst (λ (m : Msg P). LeavesInHand number (passed ToRight message) old (Rest (record { to_left = None; to_right = Some m; to_right_then = None; entry = None })) (record old { right = end })) (sym back_is)
      (record { done = []; all = refl; journals = ap (λ j. record (journals_of old) { right = j }) same }, (Link Right, record { first = rightwards message; later = []; are = refl; at = refl; full = full }))))

module _ {P J S : Type 0} (predicate : J → P → P → Bool) (rows : Contents P J S → step.State P) where
  -- what is seen of a worker
  abbrev pub seen : Contents P J S → WorkerEnds P → InHand P → ℕ → ℕ → WorkerSeen P J
  seen core ends hand taken calls = record { join = core.join; place = core.place; cores = core.cores; state = rows core; ends = ends; hand = hand; taken = taken; calls = calls }

  -- a core that keeps its place
  kept-core : (Q : (P → P → Bool) → ℕ → ℕ → step.State P → Type 0) (core new : Contents P J S) (state : step.State P) → KeepsPlace core new → rows new ≡ state → Q (predicate core.join) core.place core.cores state
      → Q (predicate new.join) new.place new.cores (rows new)
  kept-core Q core new state kept is has =
      subst (λ j. Q (predicate j) new.place new.cores (rows new)) (sym kept.join)
      (subst (λ p. Q (predicate core.join) p new.cores (rows new)) (sym kept.place)
      (subst (λ n. Q (predicate core.join) core.place n (rows new)) (sym kept.cores) (subst (λ s. Q (predicate core.join) core.place core.cores s) (sym is) has)))

  -- A worker with nothing in hand took a message.
  pub record Took (core : Contents P J S) (number : ℕ) (first : Side) (message : Msg P) (old new : WorkerEnds P) : Type 0 where
    pub takes : Takes number first message old new
    pub begins : Begins (predicate core.join) core.place core.cores (rows core) message number (journals_of new)

  pub took : (core : Contents P J S) (number : ℕ) (first : Side) (message : Msg P) (hand : Hand P) (old mid new : WorkerEnds P) → in_hand hand ≡ unput [] → has_ended (rows core) ≡ false
      → Stands (predicate core.join) core.place core.cores (rows core) (journals_of old) number hand → Looked old mid → Takes number first message mid new → Took core number first message old new
  took core number first message hand old mid new nothing unended stands looked takes =
      let between = between-of (predicate core.join) core.place core.cores (rows core) (journals_of old) number hand nothing stands in
      let took : Takes number first message old new = looked-takes number first message old mid new looked takes in
      record {
        takes = took;
        begins = record { turns = between.turns; earlier = journals_of old; are = between.are; unended = unended; counted = between.counted; end = took.end; taken = took.journals };
      }

  -- Its core handled the message.
  pub record Handled (core new : Contents P J S) (message : Msg P) (items : List (Outgoing P)) : Type 0 where
    pub kept : KeepsPlace core new
    pub things : items ≡ outgoing (predicate core.join) core.place core.cores (rows core) message
    pub state : rows new ≡ step.after core.place core.cores (rows core) message

  -- It wasn't one to be passed on, so the core is as before, and handles it; what it sends and reports is put together of it.
  pub handled : (core same new : Contents P J S) (message : Msg P) (sends : Sends P) → same ≡ core → KeepsPlace same new → rows new ≡ step.after same.place same.cores (rows same) message
      → sent sends ≡ step.sends new.place new.cores message → (entry : Option (Report P)) → sends.entry ≡ entry → entry ≡ step.report (predicate same.join) (rows same) message → Handled core new message (things_of sends)
  handled core same new message sends is kept state_is sent_is entry entry_is report_is =
      subst (λ (c : Contents P J S). Handled c new message (things_of sends)) is
      (record {
        kept = kept;
        things = ap₂ (λ s e. in_order s e) (sent_is ∙ ap₂ (λ p n. step.sends p n message) kept.place kept.cores) (entry_is ∙ report_is);
        state = state_is;
      })

  -- What the core made of it is what it sends and reports.
  pub made : (core new : Contents P J S) (message : Msg P) (sends : Sends P) → KeepsPlace core new → rows new ≡ step.after core.place core.cores (rows core) message → sent sends ≡ step.sends new.place new.cores message
      → (entry : Option (Report P)) → sends.entry ≡ entry → entry ≡ step.report (predicate core.join) (rows core) message → (number : ℕ) (old last : WorkerEnds P) (hand : Hand P) → LeavesInHand number (things_of sends) old hand last
      → LeavesInHand number (outgoing (predicate core.join) core.place core.cores (rows core) message) old hand last
  made core new message sends kept state_is sent_is entry entry_is report_is number old last hand =
      subst (λ items. LeavesInHand number items old hand last) (handled core core new message sends refl kept state_is sent_is entry entry_is report_is).things

  -- All that it made of the message was put.
  pub all_put : {core new : Contents P J S} {number : ℕ} {first : Side} {message : Msg P} {old mid : WorkerEnds P} {items : List (Outgoing P)} (last : Journals P) → Took core number first message old mid → Handled core new message items
      → last ≡ with_puts number (journals_of mid) items → IsBetween (predicate new.join) new.place new.cores (rows new) last (number + 1)
  all_put {core = core} {new = new} {number = number} {message = message} {mid = mid} last took handled puts =
      kept-core (λ m p n s. IsBetween m p n s last (number + 1)) core new (step.after core.place core.cores (rows core) message) handled.kept handled.state
      (finished took.begins last (puts ∙ ap (with_puts number (journals_of mid)) handled.things) (number + 1) refl)

  -- Some of it is left.
  pub some_left : {core new : Contents P J S} {number : ℕ} {first : Side} {message : Msg P} {old mid : WorkerEnds P} {items : List (Outgoing P)} (others : List (Outgoing P)) (last : Journals P) → Took core number first message old mid
      → Handled core new message items → Puts number items (journals_of mid) others last → 0 < length others → IsInTheMidst (predicate new.join) new.place new.cores (rows new) last (number + 1) others
  some_left {core = core} {new = new} {number = number} {message = message} {mid = mid} others last took handled puts some =
      kept-core (λ m p n s. IsInTheMidst m p n s last (number + 1) others) core new (step.after core.place core.cores (rows core) message) handled.kept handled.state
      (record {
        before = rows core;
        message = message;
        number = number;
        begun = journals_of mid;
        begins = took.begins;
        done = puts.done;
        all = sym handled.things ∙ puts.all;
        some = some;
        put = puts.journals;
        reached = refl;
        counted = refl;
      })

  pub handles : {core new : Contents P J S} {number : ℕ} {first : Side} {message : Msg P} {ends mid : WorkerEnds P} {items : List (Outgoing P)} (old : WorkerSeen P J) (last : WorkerEnds P) (others : List (Outgoing P)) (hand hand' : InHand P)
      (calls calls' : ℕ) → seen core ends hand number calls ≡ old → Took core number first message ends mid → Handled core new message items → Puts number items (journals_of mid) others (journals_of last)
      → (0 < length others → (place : Place) × AreBlocked place others ends last) → hand' ≡ unput others → Handles (predicate old.join) first old (seen new last hand' (number + 1) calls')
  handles {core = core} {new = new} {number = number} {first = first} {message = message} {mid = mid} old last others hand hand' calls calls' is took handled puts waits hand_is =
      subst (λ (v : WorkerSeen P J). Handles (predicate v.join) first v (seen new last hand' (number + 1) calls')) is
      (record {
        message = message;
        between = mid;
        takes = took.takes;
        others = others;
        puts = subst (λ items. Puts number items (journals_of mid) others (journals_of last)) handled.things puts;
        waits = waits;
        state = handled.state;
        hand = hand_is;
        taken = refl;
      })

  -- What it made of the message was put, or is in hand.
  pub leaves : {core new : Contents P J S} {number : ℕ} {first : Side} {message : Msg P} {old mid : WorkerEnds P} {items : List (Outgoing P)} (last : WorkerEnds P) (hand : Hand P) → Took core number first message old mid
      → Handled core new message items → LeavesInHand number items mid hand last → Stands (predicate new.join) new.place new.cores (rows new) (journals_of last) (number + 1) hand
  leaves last Nothing taken done all = all_put (journals_of last) taken done all
  leaves {mid = mid} last (Rest sends) taken done left = some_left (things_of sends) (journals_of last) taken done left.0 (some-blocked left.1.0 (things_of sends) mid last left.1.1)
  leaves last (Refused message) taken done left = absurd left

  pub handles-leaving : {core new : Contents P J S} {number : ℕ} {first : Side} {message : Msg P} {ends mid : WorkerEnds P} {items : List (Outgoing P)} (old : WorkerSeen P J) (last : WorkerEnds P) (before : InHand P) (hand : Hand P)
      (calls calls' : ℕ) → seen core ends before number calls ≡ old → Took core number first message ends mid → Handled core new message items → LeavesInHand number items mid hand last
      → ((place : Place) → full_looks place mid ≡ full_looks place ends) → Handles (predicate old.join) first old (seen new last (in_hand hand) (number + 1) calls')
  handles-leaving {number = number} {mid = mid} {items = items} old last before Nothing calls calls' is taken done all same =
      handles old last [] before (unput []) calls calls' is taken done (puts-all number items (journals_of mid) (journals_of last) all) (λ some. absurd (omega arith)) refl
  handles-leaving {ends = ends} {mid = mid} old last before (Rest sends) calls calls' is taken done left same =
      handles old last (things_of sends) before (unput (things_of sends)) calls calls' is taken done left.0 (λ some. (left.1.0, blocked-since left.1.0 (things_of sends) ends mid last (same left.1.0) left.1.1)) refl
  handles-leaving old last before (Refused message) calls calls' is taken done left same = absurd left

  -- Memory ran out.
  pub ran_out : {core : Contents P J S} {number : ℕ} {first : Side} {message : Msg P} {old mid : WorkerEnds P} (prepared : Contents P J S) (reports : EndSeen (Report P)) → Took core number first message old mid
      → KeepsPlace core prepared → rows prepared ≡ rows core → reports.journal ≡ mid.reports.journal ++ put number NoMemory ∷ []
      → IsOutOfMemory (predicate prepared.join) prepared.place prepared.cores (rows prepared) (journals_of (record mid { reports = reports })) (number + 1) message
  ran_out {core = core} {number = number} {message = message} {mid = mid} prepared reports took kept same put_is =
      kept-core (λ m p n s. IsOutOfMemory m p n s (journals_of (record mid { reports = reports })) (number + 1) message) core prepared (rows core) kept same
      (record { number = number; begun = journals_of mid; begins = took.begins; put = ap (λ rs. record (journals_of mid) { reports = rs }) put_is; counted = refl })

  -- The message is in hand then, and a report of it alone was put.
  pub stands-out : {core : Contents P J S} {number : ℕ} {first : Side} {message : Msg P} {old mid : WorkerEnds P} (new : Contents P J S) (last : WorkerEnds P) (hand : Hand P) (reports : EndSeen (Report P)) → Took core number first message old mid
      → KeepsPlace core new → hand ≡ Refused message → rows new ≡ rows core → last ≡ mid → reports.journal ≡ last.reports.journal ++ put number NoMemory ∷ []
      → Stands (predicate new.join) new.place new.cores (rows new) (journals_of (record last { reports = reports })) (number + 1) hand
  stands-out {number = number} {message = message} new last hand reports took kept hand_is same last_is put_is =
      subst (λ (h : Hand P). Stands (predicate new.join) new.place new.cores (rows new) (journals_of (record last { reports = reports })) (number + 1) h) (sym hand_is)
      (subst (λ (e : WorkerEnds P). reports.journal ≡ e.reports.journal ++ put number NoMemory ∷ [] → IsOutOfMemory (predicate new.join) new.place new.cores (rows new) (journals_of (record e { reports = reports })) (number + 1) message)
      (sym last_is) (λ put_here. ran_out new reports took kept same put_here) put_is)

  pub runs-out : {core : Contents P J S} {number : ℕ} {first : Side} {message : Msg P} {ends mid : WorkerEnds P} (old : WorkerSeen P J) (new : Contents P J S) (last : WorkerEnds P) (before : InHand P) (hand : Hand P) (reports : EndSeen (Report P))
      (calls calls' : ℕ) → seen core ends before number calls ≡ old → Took core number first message ends mid → hand ≡ Refused message → rows new ≡ rows core → last ≡ mid
      → reports.journal ≡ last.reports.journal ++ put number NoMemory ∷ [] → RunsOut first old (seen new (record last { reports = reports }) (in_hand hand) (number + 1) calls')
  runs-out {number = number} {first = first} {message = message} {mid = mid} old new last before hand reports calls calls' is took hand_is same last_is put_is =
      subst (λ (v : WorkerSeen P J). RunsOut first v (seen new (record last { reports = reports }) (in_hand hand) (number + 1) calls')) is
      (record {
        message = message;
        between = mid;
        takes = took.takes;
        journals =
            subst (λ (e : WorkerEnds P). reports.journal ≡ e.reports.journal ++ put number NoMemory ∷ [] → journals_of (record e { reports = reports }) ≡ with_puts number (journals_of mid) (reported NoMemory ∷ [])) (sym last_is)
            (λ put_here. ap (λ rs. record (journals_of mid) { reports = rs }) put_here) put_is;
        state = same;
        hand = ap in_hand hand_is;
        taken = refl;
      })

  -- What was in hand was put, up to these others.
  pub puts-in_hand : (core : Contents P J S) (old : WorkerSeen P J) (ends last : WorkerEnds P) (hand hand' : InHand P) (taken calls : ℕ) (items others : List (Outgoing P)) → seen core ends hand taken calls ≡ old
      → hand ≡ unput items → Puts (taken - 1) items (journals_of ends) others (journals_of last) → hand' ≡ unput others → (items' : List (Outgoing P)) → old.hand ≡ unput items' → 0 < length items'
      → PutsInHand items' old others (seen core last hand' taken calls)
  puts-in_hand core old ends last hand hand' taken calls items others is hand_is puts others_are =
      subst (λ (v : WorkerSeen P J). (items' : List (Outgoing P)) → v.hand ≡ unput items' → 0 < length items' → PutsInHand items' v others (seen core last hand' taken calls)) is
      (λ items' are some.
      subst (λ xs. PutsInHand xs (seen core ends hand taken calls) others (seen core last hand' taken calls)) (unput-is items items' (sym hand_is ∙ are))
      (record { puts = puts; state = refl; hand = others_are; taken = refl }))
