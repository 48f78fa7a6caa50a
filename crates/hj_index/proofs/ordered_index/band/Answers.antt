use Rattle.std.proofs.Common.{◌≡◌, pos, ◌-ℤ◌, true, arith, refl, sym, subst}
use Rattle.std.specs.declared.ops.Bound.{Bound}
use Rattle.std.specs.BTreeMap.Range.{is_from_start}
use Rattle.std.proofs.lemmas.Int.{ints, to_z-of_z}
use Rattle.std.specs.Int.{w64}
use Rattle.std.specs.Prelude.{FitsSigned}
use Rattle.hj_index.specs.OrderedIndex.{key_cmp, OrderedKey}
use Rattle.hj_index.proofs.Bands.{before_end, both, end_above, from_start, near_above, near_below, near_between, parts, start_above, unbounded}
use Rattle.hj_index.proofs.ordered_index.band.Goals as goal
use Rattle.hj_index.proofs.ordered_index.band.Goals.{in-Some, in-None}

pub returns-in-Some-checked_add_unsigned-clause-all : goal.returns-in-Some-checked_add_unsigned-clause-all
returns-in-Some-checked_add_unsigned-clause-all c = λ key near.
    let above = near_above key.0 c.args.number c.args.within near in
    let below = near_below key.0 c.args.number c.args.within near in
    both (is_from_start key_cmp c.match-checked_sub_unsigned.first key) _
    (elim c.match-checked_sub_unsigned.branch [
      | in-Some w ↦ subst (λ (first : Bound OrderedKey). is_from_start key_cmp first key ≡ true) (sym w.first-is) (from_start _ key (omega (arith, ints, w.in-Some.ensures)))
      | in-None w ↦ subst (λ (first : Bound OrderedKey). is_from_start key_cmp first key ≡ true) (sym w.first-is) refl
    ])
    (before_end _ key (omega (arith, ints, c.in-Some-checked_add_unsigned.ensures)))

pub returns-in-Some-checked_add_unsigned-clause-only : goal.returns-in-Some-checked_add_unsigned-clause-only
returns-in-Some-checked_add_unsigned-clause-only c = λ key fits inside.
    let p = parts (is_from_start key_cmp c.match-checked_sub_unsigned.first key) _ inside in
    let below = end_above _ key p.1 in
    near_between key.0 c.args.number c.args.within
    (elim c.match-checked_sub_unsigned.branch [
      | in-Some w ↦ let above = start_above _ key (subst (λ (first : Bound OrderedKey). is_from_start key_cmp first key ≡ true) w.first-is p.0) in omega (arith, ints, w.in-Some.ensures)
      | in-None w ↦ unbounded key.0 c.args.number c.args.within fits c.ranges.number
          (λ low. w.in-None.ensures (subst (λ n. FitsSigned w64 (n -ℤ pos c.args.within)) (sym (to_z-of_z w64 c.args.number c.ranges.number)) low))
    ])
    (omega (arith, ints, c.in-Some-checked_add_unsigned.ensures))
