-- An output that is compared part by part.
use Rattle.std.proofs.Common.{◌≡◌, ◌≢◌, ◌+◌, Bool, true, false, List, [], ◌∷◌, ◌++◌, ℕ, length, Some, refl, sym, ap, subst, subst₂, ◌∙◌, append-nil, append_assoc, length-append, arith}
use Rattle.std.specs.Prelude.{MatchBool, Ok, Err, slice_get}
use Rattle.std.specs.declared.result.Result.{Result}
use Rattle.hj_base.specs.declared.outside.Role.{Role}
use Rattle.hj_base.specs.declared.outside.Role.TheVariants as role
use Rattle.hj_base.specs.Outside.{RoleState}
use Rattle.hj_trace.specs.Checking.{Part}
use Rattle.hj_trace.specs.Stream.{PartsFrom, TextStreamState, Uses}
use Rattle.hj_verify.specs.declared.output.OutputCheck.{OutputCheck}
use Rattle.hj_verify.specs.declared.verdict.Verdict.{Verdict}
use Rattle.hj_verify.specs.Output.{OutputAgrees, ComparesOn, CountsBytes, DiffersBehind}
use Rattle.hj_verify.specs.Reading.{GivesUp}
use Rattle.hj_verify.proofs.Using.{further}

-- a stream that goes on with another byte than the next one of these, or has ended, parts from them whatever follows
part_behind : (missing : List ℕ) (stream : TextStreamState) (later : List ℕ) → (stream.ended ≡ true → later ≡ []) → PartsFrom missing stream → Part (stream.unused ++ later) missing
part_behind [] stream later none parts = absurd parts
part_behind (byte ∷ more) stream later none parts = other stream.unused parts.0 (λ empty. none (parts.1 empty))
  where
    other : (unused : List ℕ) → slice_get unused 0 ≢ Some byte → (unused ≡ [] → later ≡ []) → Part (unused ++ later) (byte ∷ more)
    other [] apart ends = subst (λ (l : List ℕ). Part l (byte ∷ more)) (sym (ends refl)) tt
    other (found ∷ unused) apart ends = λ same. apart (ap Some same)

-- so does one that goes on where nothing is missing
part_more : (missing : List ℕ) (unused later : List ℕ) (found : ℕ) → slice_get unused 0 ≡ Some found → missing ≡ [] → Part (unused ++ later) missing
part_more [] [] later found next none = absurd (cc)
part_more [] (byte ∷ unused) later found next none = tt
part_more (byte ∷ more) unused later found next none = absurd (cc)

module _ (text expected : List ℕ) (start : TextStreamState) (before : RoleState) (old : OutputCheck) (mid : Role → RoleState) (agrees : OutputAgrees text start before old (mid old.stream.role)) where
  apart : old.differs ≡ true → PartsFrom agrees.missing old.stream
  apart differs = subst (λ (b : Bool). MatchBool b (PartsFrom agrees.missing old.stream) (agrees.missing ≡ [])) differs agrees.ends

  none_missing : old.differs ≡ false → agrees.missing ≡ []
  none_missing same = subst (λ (b : Bool). MatchBool b (PartsFrom agrees.missing old.stream) (agrees.missing ≡ [])) same agrees.ends

  text_same : old.differs ≡ false → text ≡ agrees.same
  text_same same = agrees.text_is ∙ (ap (λ (l : List ℕ). agrees.same ++ l) (none_missing same) ∙ append-nil agrees.same)

  -- one part more was compared
  pub agrees_on : old.differs ≡ false → (new : OutputCheck) (now : Role → RoleState) (same missing : List ℕ) → expected ≡ same ++ missing → Uses false same old.stream (mid old.stream.role) new.stream (now old.stream.role)
      → new.same ≡ old.same + length same → MatchBool new.differs (PartsFrom missing new.stream) (missing ≡ []) → OutputAgrees (text ++ expected) start before new (now new.stream.role)
  agrees_on going new now same missing expects uses counted ends = record {
    same = agrees.same ++ same;
    missing = missing;
    text_is = ap (λ (l : List ℕ). l ++ expected) (text_same going) ∙ (ap (λ (l : List ℕ). agrees.same ++ l) expects ∙ sym (append_assoc agrees.same same missing));
    uses = further old.stream new.stream mid now false agrees.same same start before agrees.uses uses;
    counted = omega (arith, counted, agrees.counted, length-append agrees.same same);
    ends = ends;
  }

  -- and counted, where there is a number for it
  pub compared : old.differs ≡ false → (stream : TextStreamState) (now : Role → RoleState) (same missing : List ℕ) → expected ≡ same ++ missing → Uses false same old.stream (mid old.stream.role) stream (now old.stream.role)
      → (differs : Bool) → MatchBool differs (PartsFrom missing stream) (missing ≡ []) → (result : Result (Unit {0}) Verdict) (new : OutputCheck) → CountsBytes result (length same) (record { stream = stream; same = old.same; differs = differs }) new
      → ComparesOn result (text ++ expected) start before new (now new.stream.role)
  compared going stream now same missing expects uses differs ends (Ok went) new counts =
      subst (λ (check : OutputCheck). OutputAgrees (text ++ expected) start before check (now check.stream.role)) (sym counts)
      (agrees_on going (record { stream = stream; same = old.same + length same; differs = differs }) now same missing expects uses refl ends)
  compared going stream now same missing expects uses differs ends (Err judged) new counts =
      subst₂ (λ (v : Verdict) (check : OutputCheck). GivesUp v role.Output start before check.stream (now check.stream.role)) (sym counts.0) (sym counts.1)
      (agrees.same ++ same, further old.stream stream mid now false agrees.same same start before agrees.uses uses)

  -- a read failed
  pub compare_failed : (stream : TextStreamState) (now : Role → RoleState) (same : List ℕ) → Uses true same old.stream (mid old.stream.role) stream (now old.stream.role) → (bytes : List ℕ) × Uses true bytes start before stream (now stream.role)
  compare_failed stream now same uses = (agrees.same ++ same, further old.stream stream mid now true agrees.same same start before agrees.uses uses)

  -- the output differed
  pub differs_there : old.differs ≡ true → DiffersBehind old.same text start before old.stream (mid old.stream.role)
  differs_there differs = record {
    bytes = agrees.same;
    uses = agrees.uses;
    differ = λ later none. record {
      same = agrees.same;
      left = old.stream.unused ++ later;
      right = agrees.missing;
      one_is = refl;
      other_is = agrees.text_is;
      at_is = agrees.counted;
      part = part_behind agrees.missing old.stream later none (apart differs);
    };
  }

  module _ (going : old.differs ≡ false) (stream : TextStreamState) (now : Role → RoleState) (looks : Uses false [] old.stream (mid old.stream.role) stream (now old.stream.role)) where
    looked : Uses false agrees.same start before stream (now stream.role)
    looked = subst (λ (l : List ℕ). Uses false l start before stream (now stream.role)) (append-nil agrees.same) (further old.stream stream mid now false agrees.same [] start before agrees.uses looks)

    -- the output goes on behind the text
    pub longer : (found : ℕ) → slice_get stream.unused 0 ≡ Some found → DiffersBehind old.same text start before stream (now stream.role)
    longer found next = record {
      bytes = agrees.same;
      uses = looked;
      differ = λ later none. record {
        same = agrees.same;
        left = stream.unused ++ later;
        right = agrees.missing;
        one_is = refl;
        other_is = agrees.text_is;
        at_is = agrees.counted;
        part = part_more agrees.missing stream.unused later found next (none_missing going);
      };
    }

    -- the output ends with the text
    pub all_used : Uses false text start before stream (now stream.role)
    all_used = subst (λ (l : List ℕ). Uses false l start before stream (now stream.role)) (sym (text_same going)) looked
