-- Readings of a role, one behind the other.
use Rattle.std.proofs.Common.{◌≡◌, ℕ, Bool, true, false, List, [], ◌++◌, inl, None, Some, refl, sym, ap, subst, ◌∙◌}
use Rattle.std.proofs.KnownBytes.{Consumes-nil, Consumes-trans}
use Rattle.std.specs.Io.KnownBytes.{Consumes, IsAtEnd}
use Rattle.std.specs.declared.option.Option.{Option}
use Rattle.hj_base.specs.declared.outside.Got.TheVariants as got
use Rattle.hj_base.specs.Outside.{opened, RoleState, Reads, at_end}
use Rattle.hj_value.specs.declared.field.Field.{Field}
use Rattle.hj_event.specs.Roles.{IsInStep, IsReadOn, CountsFailure, name_of}
use Rattle.hj_event.specs.Sides.{SideState}
use Rattle.hj_event.specs.Taking.{IsReadAsNeeded}

-- Nothing is read.
pub not_read : (ended : Bool) (role : RoleState) → IsInStep ended role → IsReadOn false [] ended ended role role
not_read ended role step = record { came = Consumes-nil role.left; name = refl; in_step = step; no_more = λ e. (e, refl, refl); unended = λ e. cc; faults = refl }

pub not_needed : (head : Option (List Field)) (side : SideState) (before now : RoleState) → now ≡ before → IsReadAsNeeded head side [] before now
not_needed None side before now e = inl (refl, e)
not_needed (Some row) side before now e = (refl, e)

count_behind : (failed : Bool) (a b c : ℕ) → b ≡ a → CountsFailure failed b c → CountsFailure failed a c
count_behind failed a b c e counts = subst (λ (n : ℕ). CountsFailure failed n c) e counts

nothing_more : (xs ys : List ℕ) → xs ≡ [] → ys ≡ [] → xs ++ ys ≡ []
nothing_more xs ys e f = ap (λ (zs : List ℕ). zs ++ ys) e ∙ f

pub read_more : (failed : Bool) (xs ys : List ℕ) (was mid ended : Bool) (a b c : RoleState) → IsReadOn false xs was mid a b → IsReadOn failed ys mid ended b c → IsReadOn failed (xs ++ ys) was ended a c
read_more failed xs ys was mid ended a b c first second = record {
  came = Consumes-trans a.left b.left c.left xs ys first.came second.came;
  name = second.name ∙ first.name;
  in_step = second.in_step;
  no_more = λ e. let one = first.no_more e in let two = second.no_more one.0 in (two.0, nothing_more xs ys one.1 two.1, two.2);
  unended = second.unended;
  faults = count_behind failed a.faults b.faults c.faults first.faults second.faults;
}

-- A read that answers the end.
pub reads_end : (before now : RoleState) (buf : List ℕ) → IsInStep false before → Reads got.End buf before now → IsReadOn false [] false true before now
reads_end before now buf step reads =
    let ended : now.phase ≡ opened (name_of before.phase) true = reads.2 ∙ ap at_end step.phase in
    let same : name_of now.phase ≡ name_of before.phase = ap name_of ended in
    record {
      came = subst (λ (left : Option (List ℕ)). Consumes before.left left []) (sym reads.1) (Consumes-nil before.left);
      name = same;
      in_step = record {
        phase = ended ∙ ap (λ (name : List ℕ). opened name true) (sym same);
        at_end = λ e. subst IsAtEnd (sym reads.1) reads.0;
      };
      no_more = λ e. cc;
      unended = λ e. cc;
      faults = reads.3;
    }

-- A read that fails.
pub reads_failed : (before now : RoleState) (buf : List ℕ) → IsInStep false before → Reads got.Failed buf before now → IsReadOn true [] false false before now
reads_failed before now buf step reads =
    let same : name_of now.phase ≡ name_of before.phase = ap name_of reads.1 in
    record {
      came = subst (λ (left : Option (List ℕ)). Consumes before.left left []) (sym reads.0) (Consumes-nil before.left);
      name = same;
      in_step = record {
        phase = reads.1 ∙ step.phase ∙ ap (λ (name : List ℕ). opened name false) (sym same);
        at_end = λ e. cc;
      };
      no_more = λ e. cc;
      unended = λ e. refl;
      faults = (reads.2, reads.3);
    }
