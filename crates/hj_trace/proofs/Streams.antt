-- Uses of a stream, one behind the other.
use Rattle.std.proofs.Common.{◌≡◌, ◌≢◌, ℕ, suc, ◌+◌, ◌-◌, ◌<◌, ◌≤◌, Bool, true, false, List, [], ◌∷◌, ◌++◌, length, take, drop, get_or, None, Some, refl, sym, ap, ◌∙◌, append-nil, append_assoc, arith, subst, length-take, length-drop, take-append-drop, drop-cons, true≢false}
use Rattle.std.proofs.KnownBytes.{Consumes-nil, Consumes-trans}
use Rattle.std.proofs.lemmas.List.{drop-drop, drop-take, get_or-drop, get_or-take, take_more}
use Rattle.std.proofs.lemmas.Option.{get_or_from_slice_get, slice_get-get_or, slice_get_within}
use Rattle.std.specs.Io.KnownBytes.{IsAtEnd}
use Rattle.std.specs.List.{slice_get}
use Rattle.hj_base.specs.declared.outside.Role.{Role}
use Rattle.hj_base.specs.Outside.{RoleState, ChangesOnly, opened}
use Rattle.hj_chain.specs.declared.actor.Actor.{Actor}
use Rattle.hj_trace.specs.declared.stream.ActorFound.TheVariants as found
use Rattle.hj_trace.specs.Actors.{IsNumbered, actor_text}
use Rattle.hj_trace.specs.declared.stream.Compared.TheVariants as compared
use Rattle.hj_trace.specs.Stream.{TextStreamState, GoesWithRole, Uses, CountsFaults, PartsFrom, Compares, ReadsActor}

-- the byte at a place of a portion stands next in what is unused from there on
pub stands_next : (portion : List ℕ) (used filled : ℕ) → used < filled → filled ≤ length portion → slice_get (drop used (take filled portion)) 0 ≡ Some (get_or portion used 0)
stands_next portion used filled within room =
    let some : 0 < length (drop used (take filled portion)) = omega (arith, length-drop used (take filled portion), length-take filled portion) in
    slice_get-get_or (drop used (take filled portion)) 0 0 some
    ∙ ap Some (get_or-drop used (take filled portion) 0 0 ∙ ap (λ k. get_or (take filled portion) k 0) (omega arith) ∙ get_or-take filled portion used 0 within)

pub nothing_used : (stream : TextStreamState) (role : RoleState) → (stream.ended ≡ true → IsAtEnd role.left) → Uses false [] stream role stream role
nothing_used stream role end = record { role = refl; came = []; read = Consumes-nil role.left; used = append-nil stream.unused; name = λ name e. e; nothing_left = end; faults = refl; unended = λ e. absurd (true≢false (sym e)) }

counts_behind : (failed : Bool) (a b c : ℕ) → b ≡ a → CountsFaults failed b c → CountsFaults failed a c
counts_behind failed a b c e counts = subst (λ (n : ℕ). CountsFaults failed n c) e counts

pub uses_both : (failed : Bool) (xs ys : List ℕ) (a b c : TextStreamState) (s t u : RoleState) → Uses false xs a s b t → Uses failed ys b t c u → Uses failed (xs ++ ys) a s c u
uses_both failed xs ys a b c s t u first second = record {
  role = second.role ∙ first.role;
  came = first.came ++ second.came;
  read = Consumes-trans s.left t.left u.left first.came second.came first.read second.read;
  used = sym (append_assoc a.unused first.came second.came) ∙ ap (λ l. l ++ second.came) first.used ∙ append_assoc xs b.unused second.came ∙ ap (λ l. xs ++ l) second.used ∙ sym (append_assoc xs ys c.unused);
  name = λ name e. second.name name (first.name name e);
  nothing_left = second.nothing_left;
  faults = counts_behind failed s.faults t.faults u.faults first.faults second.faults;
  unended = second.unended;
}

front_of : (xs : List ℕ) (x : ℕ) → slice_get xs 0 ≡ Some x → xs ≡ x ∷ drop 1 xs
front_of [] x e = cc
front_of (y ∷ ys) x e = cc

-- the byte that stands next is used
pub next_used : (stream : TextStreamState) (role : RoleState) (byte : ℕ) → (stream.ended ≡ true → IsAtEnd role.left) → slice_get stream.unused 0 ≡ Some byte
    → Uses false (byte ∷ []) stream role (record stream { unused = drop 1 stream.unused }) role
next_used stream role byte end next = record {
  role = refl;
  came = [];
  read = Consumes-nil role.left;
  used = append-nil stream.unused ∙ front_of stream.unused byte next;
  name = λ name e. e;
  nothing_left = end;
  faults = refl;
  unended = λ e. absurd (true≢false (sym e));
}

-- the same with the roles of an outside, before, between and behind
uses_then : (failed : Bool) (xs ys : List ℕ) (a b c : TextStreamState) (before mid now : Role → RoleState) → Uses false xs a (before a.role) b (mid a.role) → Uses failed ys b (mid b.role) c (now b.role)
    → Uses failed (xs ++ ys) a (before a.role) c (now a.role)
uses_then failed xs ys a b c before mid now first second =
    uses_both failed xs ys a b c (before a.role) (mid a.role) (now a.role) first (subst (λ (role : Role). Uses failed ys b (mid role) c (now role)) first.role second)

-- a look uses nothing
pub looks_then : (failed : Bool) (xs : List ℕ) (a b c : TextStreamState) (before mid now : Role → RoleState) → Uses false xs a (before a.role) b (mid a.role) → Uses failed [] b (mid b.role) c (now b.role)
    → Uses failed xs a (before a.role) c (now a.role)
looks_then failed xs a b c before mid now first second =
    subst (λ (bytes : List ℕ). Uses failed bytes a (before a.role) c (now a.role)) (append-nil xs) (uses_then failed xs [] a b c before mid now first second)

one_more : (expected : List ℕ) (at : ℕ) → at < length expected → take at expected ++ get_or expected at 0 ∷ [] ≡ take (at + 1) expected
one_more expected at within = sym (take_more expected at 0 within)

-- one byte more is used, which a look found
pub used_more : (bytes : List ℕ) (byte : ℕ) (a b c d : TextStreamState) (before mid now : Role → RoleState) → Uses false bytes a (before a.role) b (mid a.role)
    → Uses false [] b (mid b.role) c (now b.role) → slice_get c.unused 0 ≡ Some byte → d ≡ record c { unused = drop 1 c.unused }
    → Uses false (bytes ++ byte ∷ []) a (before a.role) d (now a.role)
used_more bytes byte a b c d before mid now first second next skipped =
    let looked = looks_then false bytes a b c before mid now first second in
    let both = uses_both false bytes (byte ∷ []) a c (record c { unused = drop 1 c.unused }) (before a.role) (now a.role) (now a.role) looked (next_used c (now a.role) byte looked.nothing_left next) in
    subst (λ (stream : TextStreamState). Uses false (bytes ++ byte ∷ []) a (before a.role) stream (now a.role)) (sym skipped) both

pub same_step : (expected : List ℕ) (at : ℕ) (a b c d : TextStreamState) (before mid now : Role → RoleState) → at < length expected → Uses false (take at expected) a (before a.role) b (mid a.role)
    → Uses false [] b (mid b.role) c (now b.role) → slice_get c.unused 0 ≡ Some (get_or expected at 0) → d ≡ record c { unused = drop 1 c.unused }
    → Uses false (take (at + 1) expected) a (before a.role) d (now a.role)
same_step expected at a b c d before mid now within first second next skipped =
    subst (λ (bytes : List ℕ). Uses false bytes a (before a.role) d (now a.role)) (one_more expected at within)
    (used_more (take at expected) (get_or expected at 0) a b c d before mid now first second next skipped)

pub compare_fails : (expected : List ℕ) (at : ℕ) (a b c : TextStreamState) (before mid now : Role → RoleState) → Uses false (take at expected) a (before a.role) b (mid a.role)
    → Uses true [] b (mid b.role) c (now b.role) → Compares compared.Failed expected a (before a.role) c (now a.role)
compare_fails expected at a b c before mid now first second = record {
  same = take at expected;
  missing = drop at expected;
  expects = sym (take-append-drop at expected);
  uses = looks_then true (take at expected) a b c before mid now first second;
  ends = tt;
}

parts_from : (expected : List ℕ) (at : ℕ) (stream : TextStreamState) → at < length expected → slice_get stream.unused 0 ≢ Some (get_or expected at 0) → (stream.unused ≡ [] → stream.ended ≡ true) → PartsFrom (drop at expected) stream
parts_from expected at stream within other ended =
    subst (λ (missing : List ℕ). PartsFrom missing stream) (sym (drop-cons expected at 0 within)) (other, ended)

pub compare_differs : (expected : List ℕ) (at : ℕ) (a b c : TextStreamState) (before mid now : Role → RoleState) → at < length expected → Uses false (take at expected) a (before a.role) b (mid a.role)
    → Uses false [] b (mid b.role) c (now b.role) → slice_get c.unused 0 ≢ Some (get_or expected at 0) → (c.unused ≡ [] → c.ended ≡ true)
    → Compares (compared.Differs at) expected a (before a.role) c (now a.role)
compare_differs expected at a b c before mid now within first second other ended = record {
  same = take at expected;
  missing = drop at expected;
  expects = sym (take-append-drop at expected);
  uses = looks_then false (take at expected) a b c before mid now first second;
  ends = (omega (arith, length-take at expected), parts_from expected at c within other ended);
}

-- another byte stands next, or none
pub other_next : (xs : List ℕ) (found byte : ℕ) → slice_get xs 0 ≡ Some found → found ≢ byte → slice_get xs 0 ≢ Some byte
other_next xs found byte next differs e = differs (cc)

nothing : {byte : ℕ} → None ≡ Some byte → ⊥
nothing e = cc

pub none_next : (xs : List ℕ) (byte : ℕ) → xs ≡ [] → slice_get xs 0 ≢ Some byte
none_next xs byte none e = nothing (subst (λ (ys : List ℕ). slice_get ys 0 ≡ Some byte) none e)

pub not_empty : (xs : List ℕ) (found : ℕ) (ended : Bool) → slice_get xs 0 ≡ Some found → xs ≡ [] → ended ≡ true
not_empty xs found ended next none = absurd (none_next xs found none next)

pub changes_then : (role other_name : Role) (before mid now : Role → RoleState) → other_name ≡ role → ChangesOnly role before mid → ChangesOnly other_name mid now → ChangesOnly role before now
changes_then role other_name before mid now same first second other ne = second other (λ e. ne (e ∙ same)) ∙ first other ne

-- a stream still goes with its role
pub goes_on : (bytes : List ℕ) (a b : TextStreamState) (before now : Role → RoleState) → GoesWithRole a (before a.role) → Uses false bytes a (before a.role) b (now a.role) → GoesWithRole b (now b.role)
goes_on bytes a b before now goes uses =
    let still : GoesWithRole b (now a.role) = record { name = goes.name; phase = uses.name goes.name goes.phase; nothing_left = uses.nothing_left } in
    subst (λ (role : Role). GoesWithRole b (now role)) (sym uses.role) still

-- what is unused of a portion, as one part of it
pub unused_part : (portion : List ℕ) (used filled : ℕ) → used ≤ filled → take (filled - used) (drop used portion) ≡ drop used (take filled portion)
unused_part portion used filled within = sym (drop-take used (filled - used) portion) ∙ ap (λ n. drop used (take n portion)) (omega (arith, within))

-- bytes that wait are used
pub waiting_used : (expected : List ℕ) (old new : TextStreamState) (role : RoleState) → (old.ended ≡ true → IsAtEnd role.left) → old.unused ≡ expected ++ drop (length expected) old.unused
    → new ≡ record old { unused = drop (length expected) old.unused } → Uses false expected old role new role
waiting_used expected old new role end waits used =
    subst (λ (stream : TextStreamState). Uses false expected old role stream role) (sym used) (record {
      role = refl;
      came = [];
      read = Consumes-nil role.left;
      used = append-nil old.unused ∙ waits;
      name = λ name e. e;
      nothing_left = end;
      faults = refl;
      unended = λ e. absurd (true≢false (sym e));
    })

pub compare_same : (expected : List ℕ) (old new : TextStreamState) (role : RoleState) → (old.ended ≡ true → IsAtEnd role.left) → old.unused ≡ expected ++ drop (length expected) old.unused
    → new ≡ record old { unused = drop (length expected) old.unused } → Compares compared.Same expected old role new role
compare_same expected old new role end waits used = record {
  same = expected;
  missing = [];
  expects = sym (append-nil expected);
  uses = waiting_used expected old new role end waits used;
  ends = refl;
}

-- the bytes before one of them, it, and those behind
parted_at : (bytes : List ℕ) (at byte : ℕ) → slice_get bytes at ≡ Some byte → take at bytes ++ byte ∷ drop (at + 1) bytes ≡ bytes
parted_at bytes at byte is =
    let next : suc at ≡ at + 1 = omega arith in
    let stands : drop at bytes ≡ get_or bytes at 0 ∷ drop (at + 1) bytes = drop-cons bytes at 0 (slice_get_within bytes at byte is) ∙ ap (λ n. get_or bytes at 0 ∷ drop n bytes) next in
    ap (λ rest. take at bytes ++ rest) (sym (stands ∙ ap (λ b. b ∷ drop (at + 1) bytes) (get_or_from_slice_get bytes at byte 0 is))) ∙ take-append-drop at bytes

-- a text and a comma of a portion wait
pub waiting_text : (portion : List ℕ) (used filled at : ℕ) (text unused : List ℕ) → used ≤ filled → drop used (take filled portion) ≡ unused → slice_get (take (filled - used) (drop used portion)) at ≡ Some 44
    → take at (take (filled - used) (drop used portion)) ≡ text → unused ≡ text ++ 44 ∷ drop (used + (at + 1)) (take filled portion)
waiting_text portion used filled at text unused within same comma is =
    let waiting : List ℕ = take (filled - used) (drop used portion) in
    let part : waiting ≡ drop used (take filled portion) = unused_part portion used filled within in
    sym same ∙ sym part ∙ sym (parted_at waiting at 44 comma) ∙ ap (λ t. t ++ 44 ∷ drop (at + 1) waiting) is
    ∙ ap (λ w. text ++ 44 ∷ drop (at + 1) w) part ∙ ap (λ d. text ++ 44 ∷ d) (drop-drop (at + 1) used (take filled portion))

-- an actor's text and a comma that wait are used
pub waiting_actor : (actor : Actor) (old new : TextStreamState) (role : RoleState) → (old.ended ≡ true → IsAtEnd role.left) → IsNumbered actor × (old.unused ≡ actor_text actor ++ 44 ∷ new.unused)
    → new.role ≡ old.role → new.ended ≡ old.ended → ReadsActor (found.Actor actor) old role new role
waiting_actor actor old new role end waits same_role same_end = record {
  bytes = actor_text actor ++ 44 ∷ [];
  uses = record {
    role = same_role;
    came = [];
    read = Consumes-nil role.left;
    used = append-nil old.unused ∙ waits.1 ∙ sym (append_assoc (actor_text actor) (44 ∷ []) new.unused);
    name = λ name e. e ∙ ap (λ ended. opened name ended) (sym same_end);
    nothing_left = λ e. end (sym same_end ∙ e);
    faults = refl;
    unended = λ e. absurd (true≢false (sym e));
  };
  finds = (waits.0, refl);
}
