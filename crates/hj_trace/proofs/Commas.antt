-- No actor's text has a comma, so the first comma ends it.
use Rattle.std.proofs.Common.{◌≡◌, ◌≢◌, ℕ, ◌+◌, ◌%◌, ◌<◌, ◌≤◌, ◌^◌, true, false, List, [], ◌∷◌, ◌++◌, length, take, drop, set, Some, refl, sym, ap, subst, ◌∙◌, arith, append_assoc, append-nil, length-append}
use Rattle.std.proofs.lemmas.Fmt.{decimal_by_steps, length-decimal-le}
use Rattle.std.proofs.lemmas.List.{take_more_set}
use Rattle.std.specs.Fmt.{decimal}
use Rattle.std.specs.List.{AllByRecursion, slice_get}
use Rattle.hj_base.specs.declared.numbers.Side.TheVariants.{Left, Right}
use Rattle.hj_base.specs.declared.outside.Role.{Role}
use Rattle.hj_base.specs.Outside.{RoleState}
use Rattle.hj_chain.specs.declared.actor.Actor.{Actor}
use Rattle.hj_chain.specs.declared.actor.Actor.TheVariants.{Admit, PortLeft, PortRight, Core, Collect}
use Rattle.hj_trace.specs.declared.stream.ActorFound.{ActorFound}
use Rattle.hj_trace.specs.declared.stream.ActorFound.TheVariants as found
use Rattle.hj_trace.specs.Actors.{IsNumbered, actor_text}
use Rattle.hj_trace.specs.Stream.{TextStreamState, Uses, IsUsedUp, BeginsWithNoActor, IsActorOf, ReadsActor}
use Rattle.hj_trace.proofs.Streams.{looks_then, used_more}

abbrev pub NoComma : List ℕ → Type 0
NoComma bytes = AllByRecursion (λ byte. byte ≢ 44) bytes

no_comma_both : (xs ys : List ℕ) → NoComma xs → NoComma ys → NoComma (xs ++ ys)
no_comma_both [] ys p q = q
no_comma_both (x ∷ xs) ys p q = (p.0, no_comma_both xs ys p.1 q)

not_comma : (byte : ℕ) → 44 < byte → byte ≢ 44
not_comma byte above e = omega arith

decimal_no_comma : (n : ℕ) → n < 2 ^ 64 → NoComma (decimal n)
decimal_no_comma n small = decimal_by_steps (λ n ds. NoComma ds) one more n small
  where
    one : (n : ℕ) → n < 10 → NoComma ((48 + n) ∷ [])
    one n h = (not_comma (48 + n) (omega arith), tt)

    more : (n : ℕ) (ds : List ℕ) → 10 ≤ n → NoComma ds → NoComma (ds ++ ((48 + n % 10) ∷ []))
    more n ds h so_far = no_comma_both ds ((48 + n % 10) ∷ []) so_far (not_comma (48 + n % 10) (omega arith), tt)

letter : (byte : ℕ) → 44 < byte → NoComma (byte ∷ [])
letter byte above = (not_comma byte above, tt)

pub actor_no_comma : (actor : Actor) → IsNumbered actor → NoComma (actor_text actor)
actor_no_comma Admit numbered = letter 65 (omega arith)
actor_no_comma PortLeft numbered = (not_comma 80 (omega arith), letter 76 (omega arith))
actor_no_comma PortRight numbered = (not_comma 80 (omega arith), letter 82 (omega arith))
actor_no_comma (Core place Left) numbered = (not_comma 67 (omega arith), no_comma_both (decimal place.0) (76 ∷ []) (decimal_no_comma place.0 (omega (arith, numbered))) (letter 76 (omega arith)))
actor_no_comma (Core place Right) numbered = (not_comma 67 (omega arith), no_comma_both (decimal place.0) (82 ∷ []) (decimal_no_comma place.0 (omega (arith, numbered))) (letter 82 (omega arith)))
actor_no_comma (Collect place) numbered = (not_comma 75 (omega arith), decimal_no_comma place.0 (omega (arith, numbered)))

few_digits : (n : ℕ) → n < 2 ^ 16 → length (decimal n) ≤ 5
few_digits n small = length-decimal-le 5 n (omega arith) (omega arith) (omega arith)

pub actor_short : (actor : Actor) → IsNumbered actor → length (actor_text actor) ≤ 7
actor_short Admit numbered = omega arith
actor_short PortLeft numbered = omega arith
actor_short PortRight numbered = omega arith
actor_short (Core place Left) numbered = omega (arith, few_digits place.0 numbered, length-append (decimal place.0) (76 ∷ []))
actor_short (Core place Right) numbered = omega (arith, few_digits place.0 numbered, length-append (decimal place.0) (82 ∷ []))
actor_short (Collect place) numbered = omega (arith, few_digits place.0 numbered)

pub heads : (x y : ℕ) (xs ys : List ℕ) → x ∷ xs ≡ y ∷ ys → x ≡ y
heads x y xs ys e = cc

tails : (x y : ℕ) (xs ys : List ℕ) → x ∷ xs ≡ y ∷ ys → xs ≡ ys
tails x y xs ys e = cc

longer : (x y : ℕ) (xs ys : List ℕ) → x ≡ y → xs ≡ ys → x ∷ xs ≡ y ∷ ys
longer x y xs ys e f = cc

-- What has no comma and comes before the first one begins the text before it.
pub comma_behind : (front tail text rest : List ℕ) → NoComma front → NoComma text → front ++ tail ≡ text ++ 44 ∷ rest
    → (more : List ℕ) × (text ≡ front ++ more) × NoComma more × (tail ≡ more ++ 44 ∷ rest)
comma_behind [] tail text rest p q e = (text, refl, q, e)
comma_behind (f ∷ fs) tail [] rest p q e = absurd (p.0 (heads f 44 (fs ++ tail) rest e))
comma_behind (f ∷ fs) tail (u ∷ us) rest p q e =
    let later = comma_behind fs tail us rest p.1 q.1 (tails f u (fs ++ tail) (us ++ 44 ∷ rest) e) in
    (later.0, longer u f us (fs ++ later.0) (sym (heads f u (fs ++ tail) (us ++ 44 ∷ rest) e)) later.1, later.2, later.3)

-- Bytes with no comma that nothing follows begin with no actor.
pub none_at_end : (front unused later : List ℕ) → NoComma front → unused ≡ [] → later ≡ [] → BeginsWithNoActor (front ++ (unused ++ later))
none_at_end front unused later p none end actor rest numbered e =
    let split = comma_behind front (unused ++ later) (actor_text actor) rest p (actor_no_comma actor numbered) e in
    omega (arith, ap length split.3, length-append split.0 (44 ∷ rest), length-append unused later, ap length none, ap length end)

-- So do bytes with no comma that are longer than each actor's text.
pub none_so_long : (front later : List ℕ) → NoComma front → 7 < length front → BeginsWithNoActor (front ++ later)
none_so_long front later p long actor rest numbered e =
    let split = comma_behind front later (actor_text actor) rest p (actor_no_comma actor numbered) e in
    omega (arith, ap length split.1, length-append front split.0, actor_short actor numbered)

pub no_more : (front more text later rest : List ℕ) → text ≡ front ++ more → NoComma more → 44 ∷ later ≡ more ++ 44 ∷ rest → text ≡ front
no_more front [] text later rest e p f = e ∙ append-nil front
no_more front (m ∷ ms) text later rest e p f = absurd (p.0 (sym (heads 44 m later (ms ++ 44 ∷ rest) f)))

-- So do bytes that aren't an actor's text, with a comma behind.
pub none_by_text : (text later : List ℕ) → NoComma text → ((actor : Actor) → IsNumbered actor → text ≢ actor_text actor) → BeginsWithNoActor ((text ++ 44 ∷ []) ++ later)
none_by_text text later p other actor rest numbered e =
    let split = comma_behind text (44 ∷ later) (actor_text actor) rest p (actor_no_comma actor numbered) (sym (append_assoc text (44 ∷ []) later) ∙ e) in
    other actor numbered (sym (no_more text split.0 (actor_text actor) later rest split.1 split.2 split.3))

-- A text with a comma behind was used.
pub by_text : (answer : ActorFound) (text : List ℕ) (old new : TextStreamState) (before now : RoleState) → IsActorOf answer text → NoComma text → Uses false (text ++ 44 ∷ []) old before new now
    → ReadsActor answer old before new now
by_text (found.Actor actor) text old new before now is p uses = record { bytes = text ++ 44 ∷ []; uses = uses; finds = (is.0, ap (λ l. l ++ 44 ∷ []) is.1) }
by_text found.Other text old new before now other p uses = record { bytes = text ++ 44 ∷ []; uses = uses; finds = λ later follows. none_by_text text (new.unused ++ later) p other }
by_text found.Failed text old new before now is p uses = absurd is

-- one byte more that is no comma
pub kept : (text : List ℕ) (at byte : ℕ) → at < length text → NoComma (take at text) → byte ≢ 44 → NoComma (take (at + 1) (set text at byte))
kept text at byte within p other = subst NoComma (sym (take_more_set text at byte within)) (no_comma_both (take at text) (byte ∷ []) p (other, tt))

-- the end comes before a comma
pub reads_end : (front : List ℕ) (a b c : TextStreamState) (before mid now : Role → RoleState) → NoComma front → Uses false front a (before a.role) b (mid a.role) → Uses false [] b (mid b.role) c (now b.role)
    → IsUsedUp c → ReadsActor found.Other a (before a.role) c (now a.role)
reads_end front a b c before mid now p first second up = record {
  bytes = front;
  uses = looks_then false front a b c before mid now first second;
  finds = λ later follows. none_at_end front c.unused later p up.none_waits (follows up.ended);
}

-- a read fails before a comma
pub reads_failed : (front : List ℕ) (a b c : TextStreamState) (before mid now : Role → RoleState) → Uses false front a (before a.role) b (mid a.role) → Uses true [] b (mid b.role) c (now b.role)
    → ReadsActor found.Failed a (before a.role) c (now a.role)
reads_failed front a b c before mid now first second = record { bytes = front; uses = looks_then true front a b c before mid now first second; finds = tt }

-- a comma comes
pub reads_comma : (answer : ActorFound) (front : List ℕ) (byte : ℕ) (a b c d : TextStreamState) (before mid now : Role → RoleState) → byte ≡ 44 → NoComma front → IsActorOf answer front
    → Uses false front a (before a.role) b (mid a.role) → Uses false [] b (mid b.role) c (now b.role) → slice_get c.unused 0 ≡ Some byte → d ≡ record c { unused = drop 1 c.unused }
    → ReadsActor answer a (before a.role) d (now a.role)
reads_comma answer front byte a b c d before mid now comma p is first second next skipped =
    let used = used_more front byte a b c d before mid now first second next skipped in
    by_text answer front a d (before a.role) (now a.role) is p (subst (λ (one : ℕ). Uses false (front ++ one ∷ []) a (before a.role) d (now a.role)) comma used)

-- no comma came for so long
pub reads_long : (front : List ℕ) (a b : TextStreamState) (before now : RoleState) → NoComma front → 7 < length front → Uses false front a before b now → ReadsActor found.Other a before b now
reads_long front a b before now p long uses = record { bytes = front; uses = uses; finds = λ later follows. none_so_long front (b.unused ++ later) p long }

-- one byte more that is no comma is used and kept
pub reads_on : (text : List ℕ) (at byte : ℕ) (a b c d : TextStreamState) (before mid now : Role → RoleState) → at < length text
    → Uses false (take at text) a (before a.role) b (mid a.role) → Uses false [] b (mid b.role) c (now b.role) → slice_get c.unused 0 ≡ Some byte → d ≡ record c { unused = drop 1 c.unused }
    → Uses false (take (at + 1) (set text at byte)) a (before a.role) d (now a.role)
reads_on text at byte a b c d before mid now within first second next skipped =
    subst (λ (bytes : List ℕ). Uses false bytes a (before a.role) d (now a.role)) (sym (take_more_set text at byte within))
    (used_more (take at text) byte a b c d before mid now first second next skipped)
