-- The parts of a trace's line that are read, one behind the other.
use Rattle.std.proofs.Common.{◌≡◌, ◌≢◌, true, false, List, [], ◌∷◌, ◌++◌, ℕ, Some, refl, sym, ap, subst, ◌∙◌, append-nil, append_assoc}
use Rattle.std.specs.List.{slice_get}
use Rattle.hj_base.specs.declared.outside.Role.{Role}
use Rattle.hj_base.specs.Outside.{RoleState}
use Rattle.hj_chain.specs.declared.actor.Actor.{Actor}
use Rattle.hj_trace.specs.declared.stream.ActorFound.TheVariants as found
use Rattle.hj_trace.specs.declared.stream.Compared.TheVariants as compared
use Rattle.hj_trace.specs.Actors.{actor_text}
use Rattle.hj_trace.specs.Stream.{Compares, PartsFrom, ReadsActor, TextStreamState, Uses}
use Rattle.hj_trace.proofs.Streams.{none_next}
use Rattle.hj_verify.specs.Lines.{BeginsWrong, TextGoesOn, GoesOnWrong}
use Rattle.hj_verify.proofs.Lists.{cancel}
use Rattle.hj_verify.proofs.Using.{further}

-- where a byte stands next, something does
some_there : (unused came : List ℕ) (byte : ℕ) → slice_get unused 0 ≡ Some byte → unused ++ came ≡ [] → ⊥
some_there [] came byte next none = none_next [] byte refl next
some_there (one ∷ later) came byte next none = let wrong : one ∷ (later ++ came) ≡ [] = none in cc

-- a stream that goes on with another byte than the next one of these, or has ended, doesn't go on with all of these
other_first : (byte : ℕ) (more unused later : List ℕ) → slice_get unused 0 ≢ Some byte → (unused ≡ [] → later ≡ []) → unused ++ later ≡ byte ∷ more → ⊥
other_first byte more [] later other ends same = let wrong : [] ≡ byte ∷ more = sym (ends refl) ∙ same in cc
other_first byte more (one ∷ unused) later other ends same = other (ap Some (let is : one ∷ (unused ++ later) ≡ byte ∷ more = same in cc))

parted : (missing rest : List ℕ) (stream : TextStreamState) (later : List ℕ) → (stream.ended ≡ true → later ≡ []) → PartsFrom missing stream → stream.unused ++ later ≡ missing ++ rest → ⊥
parted [] rest stream later none parts same = parts
parted (byte ∷ more) rest stream later none parts same = other_first byte (more ++ rest) stream.unused later parts.0 (λ empty. none (parts.1 empty)) same

module _ (text : List ℕ) (start : TextStreamState) (before : RoleState) (old : TextStreamState) (mid : Role → RoleState) (uses : Uses false text start before old (mid old.role)) where
  -- a read failed
  pub read_fails : (stream : TextStreamState) (now : Role → RoleState) (bytes : List ℕ) → Uses true bytes old (mid old.role) stream (now old.role) → (read : List ℕ) × Uses true read start before stream (now stream.role)
  read_fails stream now bytes fails = (text ++ bytes, further old stream mid now true text bytes start before uses fails)

  module _ (stream : TextStreamState) (now : Role → RoleState) where
    -- a look uses nothing
    pub looked : Uses false [] old (mid old.role) stream (now old.role) → Uses false text start before stream (now stream.role)
    looked looks = subst (λ (l : List ℕ). Uses false l start before stream (now stream.role)) (append-nil text) (further old stream mid now false text [] start before uses looks)

    -- a byte stands next
    pub goes_on_there : (byte : ℕ) → Uses false [] old (mid old.role) stream (now old.role) → slice_get stream.unused 0 ≡ Some byte → TextGoesOn text start before stream (now stream.role)
    goes_on_there byte looks next = record { uses = looked looks; more = λ empty. none_next stream.unused byte empty next }

    -- an actor's text and a comma were read
    pub actor_read : (actor : Actor) → ReadsActor (found.Actor actor) old (mid old.role) stream (now old.role) → Uses false (text ++ (actor_text actor ++ 44 ∷ [])) start before stream (now stream.role)
    actor_read actor reads =
        subst (λ (l : List ℕ). Uses false (text ++ l) start before stream (now stream.role)) reads.finds.1 (further old stream mid now false text reads.bytes start before uses reads.uses)

    -- something else was read
    pub no_actor : (byte : ℕ) → slice_get old.unused 0 ≡ Some byte → ReadsActor found.Other old (mid old.role) stream (now old.role) → BeginsWrong text start before stream (now stream.role)
    no_actor byte next reads = record {
      bytes = reads.bytes;
      uses = further old stream mid now false text reads.bytes start before uses reads.uses;
      some = λ none. some_there old.unused reads.uses.came byte next (reads.uses.used ∙ none);
      wrong = reads.finds;
    }

    -- the bytes that were to come were read
    pub rest_read : (expected : List ℕ) → Compares compared.Same expected old (mid old.role) stream (now old.role) → Uses false (text ++ expected) start before stream (now stream.role)
    rest_read expected compares =
        let all : compares.same ≡ expected = sym (compares.expects ∙ (ap (λ (l : List ℕ). compares.same ++ l) compares.ends ∙ append-nil compares.same)) in
        subst (λ (l : List ℕ). Uses false (text ++ l) start before stream (now stream.role)) all (further old stream mid now false text compares.same start before uses compares.uses)

    -- other bytes stand there
    pub rest_differs : (expected : List ℕ) (at : ℕ) → Compares (compared.Differs at) expected old (mid old.role) stream (now old.role) → GoesOnWrong expected text start before stream (now stream.role)
    rest_differs expected at compares = record {
      bytes = compares.same;
      uses = further old stream mid now false text compares.same start before uses compares.uses;
      wrong = λ later none front.
          parted compares.missing front.rest stream later none compares.ends.1
          (cancel compares.same (stream.unused ++ later) (compares.missing ++ front.rest)
          (front.is ∙ (ap (λ (l : List ℕ). l ++ front.rest) compares.expects ∙ append_assoc compares.same compares.missing front.rest)));
    }
