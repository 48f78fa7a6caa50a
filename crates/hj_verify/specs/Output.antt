-- An output that is compared with a text, part by part.
use Rattle.std.specs.Prelude.{◌≡◌, ℕ, ◌+◌, true, false, List, [], ◌++◌, length, Ok, Err, MatchBool}
use Rattle.std.specs.declared.result.Result.{Result}
use Rattle.hj_base.specs.declared.outside.Role.TheVariants as role
use Rattle.hj_base.specs.Outside.{RoleState}
use Rattle.hj_trace.specs.declared.fault.TraceFault.TheVariants as fault
use Rattle.hj_trace.specs.Checking.{DifferAt}
use Rattle.hj_trace.specs.Stream.{PartsFrom, TextStreamState, Uses}
use Rattle.hj_verify.specs.declared.output.OutputCheck.{OutputCheck}
use Rattle.hj_verify.specs.declared.verdict.Verdict.{Verdict}
use Rattle.hj_verify.specs.declared.verdict.Verdict.TheVariants as verdict
use Rattle.hj_verify.specs.Reading.{GivesUp, IsUsedWhole, no_memory}

-- An output was compared with this text from the start of its stream on. The bytes that were used are the same; where the output
-- differs, it goes on with another byte than the text, or has ended, and else the text has nothing more.
pub record OutputAgrees (text : List ℕ) (start : TextStreamState) (before : RoleState) (check : OutputCheck)
    (now : RoleState) : Type 0 where
  pub same : List ℕ
  pub missing : List ℕ
  pub text_is : text ≡ same ++ missing
  pub uses : Uses false same start before check.stream now
  pub counted : check.same ≡ length same
  pub ends : MatchBool check.differs (PartsFrom missing check.stream) (missing ≡ [])

-- So many bytes more are counted, where there is a number for them.
abbrev pub CountsBytes : Result (Unit {0}) Verdict → ℕ → OutputCheck → OutputCheck → Type 0
CountsBytes (Ok went) more old new = new ≡ record old { same = old.same + more }
CountsBytes (Err judged) more old new = (judged ≡ no_memory) × (new ≡ old)

-- The comparison went on over this text, or was given up.
abbrev pub ComparesOn : Result (Unit {0}) Verdict → List ℕ → TextStreamState → RoleState → OutputCheck → RoleState → Type 0
ComparesOn (Ok went) text start before check now = OutputAgrees text start before check now
ComparesOn (Err judged) text start before check now = GivesUp judged role.Output start before check.stream now

-- Behind the bytes that were used, whatever follows those that wait, the output and the text differ.
pub record DiffersBehind (at : ℕ) (text : List ℕ) (start : TextStreamState) (before : RoleState) (stream : TextStreamState)
    (now : RoleState) : Type 0 where
  pub bytes : List ℕ
  pub uses : Uses false bytes start before stream now
  pub differ : (later : List ℕ) → (stream.ended ≡ true → later ≡ []) → DifferAt at (bytes ++ (stream.unused ++ later)) text

-- How the comparison with the whole text ends.
abbrev pub EndsOutput : Result (Unit {0}) Verdict → List ℕ → TextStreamState → RoleState → TextStreamState → RoleState → Type 0
EndsOutput (Ok went) text start before stream now = IsUsedWhole text start before stream now
EndsOutput (Err (verdict.Refused (fault.Output at))) text start before stream now = DiffersBehind at text start before stream now
EndsOutput (Err judged) text start before stream now = GivesUp judged role.Output start before stream now
