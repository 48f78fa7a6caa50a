use Rattle.std.proofs.Common.{◌≡◌, ◌-◌, ◌<◌, ℕ, List, map, get_or, set, length, true, false, None, Some, ap, sym, ◌∙◌, ◌∷◌, arith}
use Rattle.std.specs.declared.option.Option.{Option}
use Rattle.std.proofs.lemmas.List.{map-set, length-map}
use Rattle.std.specs.declared.cmp.Ordering.TheVariants.{Less}
use Rattle.hj_base.specs.declared.numbers.EventNo.{EventNo}
use Rattle.hj_msg.specs.Punctuation.{Mark as Meaning, up_to}
use Rattle.hj_collect.specs.declared.least.LeastMark.{LeastMark}
use Rattle.hj_collect.specs.declared.reach.Reach.{Reach}
use Rattle.hj_collect.specs.declared.reach.Reach.TheVariants.{UpTo}
use Rattle.hj_collect.specs.Least.{IsLeast}
use Rattle.hj_collect.specs.Marks.{compared, is_same, least_of, raised_to, with_raised}
use Rattle.hj_collect.specs.Reach.{reached}
use Rattle.hj_collect.proofs.LeastMarks.{without_other, without_same}
use Rattle.hj_collect.proofs.Replacing.{rest, least_with, put_above, mark_at}
use Rattle.hj_collect.proofs.marks.Marks.raise.Goals as goal

-- a mark that comes in the place of another one, above the least
module _ (items : List Reach) (core : ℕ) (number : EventNo) (low : core < length items) (before : Reach) (was : before ≡ get_or items core before) (least : LeastMark) (is : IsLeast least (map reached items))
    (under : Less ≡ compared (reached least.mark) (reached (UpTo number))) where
  here : IsLeast least (reached before ∷ rest items core low)
  here = least_with items core low least before was is

  stays : is_same (reached before) (reached least.mark) ≡ false → IsLeast least (map reached (set items core (UpTo number)))
  stays apart =
      let counts = without_other (reached before) (reached least.mark) least.holders (rest items core low) (here.mark, here.holders) apart in
      put_above items core low least (UpTo number) (record { mark = counts.0; holders = counts.1 }) under

  fewer : is_same (reached before) (reached least.mark) ≡ true → 1 < least.holders → IsLeast (record { mark = least.mark; holders = least.holders - 1 }) (map reached (set items core (UpTo number)))
  fewer same more =
      let counts = without_same (reached before) (reached least.mark) least.holders (rest items core low) (here.mark, here.holders) same (omega arith) in
      put_above items core low (record { mark = least.mark; holders = least.holders - 1 }) (UpTo number) (record { mark = counts.0; holders = counts.1 }) under

marks_raised : (items : List Reach) (core : ℕ) (number : EventNo) (now : List (Option Meaning)) (before : Reach) → map reached items ≡ now → core < length now → before ≡ get_or items core before → raised_to number.0 (reached before) ≡ Some (up_to number.0)
    → map reached (set items core (UpTo number)) ≡ with_raised core number.0 now
marks_raised items core number now before view within was rises =
    let low : core < length items = omega (arith, within, length-map items reached, ap length view) in
    let mark : Reach = UpTo number in
    let raised : reached mark ≡ raised_to number.0 (get_or (map reached items) core None) = sym rises ∙ ap (raised_to number.0) (mark_at items core low before was) in
    map-set reached items core mark ∙ ap (set (map reached items) core) raised ∙ ap (λ ms. set ms core (raised_to number.0 (get_or ms core None))) view

pub invariant_of-self : goal.invariant_of-self
invariant_of-self c =
    let low : c.args.core < length c.self.inside.of_cores.items = omega (arith, c.requires, length-map c.self.inside.of_cores.items reached, ap length c.self.view_is) in
    stays c.self.inside.of_cores.items c.args.core c.args.no low c.index-before.result.now c.index-before.ensures c.self.inside.least c.self.invariant (c.rises.ensures.after c.if-not-rises.false) (sym c.is_same-held.ensures ∙ c.if-not-held.true)

pub invariant_of-self-then-self-gt1 : goal.invariant_of-self-then-self-gt1
invariant_of-self-then-self-gt1 c =
    let low : c.args.core < length c.self.inside.of_cores.items = omega (arith, c.requires, length-map c.self.inside.of_cores.items reached, ap length c.self.view_is) in
    fewer c.self.inside.of_cores.items c.args.core c.args.no low c.index-before.result.now c.index-before.ensures c.self.inside.least c.self.invariant (c.rises.ensures.after c.if-not-rises.false) (sym c.is_same-held.ensures ∙ c.if-not-held.false) c.if-self-gt1.true

pub invariant_of-self-2 : goal.invariant_of-self-2
invariant_of-self-2 c = rw (← c.deref.ensures.value) c.look_anew.ensures

pub returns-then-not-held-clause-marks : goal.returns-then-not-held-clause-marks
returns-then-not-held-clause-marks c = marks_raised c.self.inside.of_cores.items c.args.core c.args.no c.args.self.now c.index-before.result.now c.self.view_is c.requires c.index-before.ensures (c.rises.ensures.raised c.if-not-rises.false)

pub returns-then-not-held-clause-least : goal.returns-then-not-held-clause-least
returns-then-not-held-clause-least c =
    let low : c.args.core < length c.self.inside.of_cores.items = omega (arith, c.requires, length-map c.self.inside.of_cores.items reached, ap length c.self.view_is) in
    let after = stays c.self.inside.of_cores.items c.args.core c.args.no low c.index-before.result.now c.index-before.ensures c.self.inside.least c.self.invariant (c.rises.ensures.after c.if-not-rises.false) (sym c.is_same-held.ensures ∙ c.if-not-held.true) in
    λ same. sym after.mark ∙ (c.self.invariant.mark ∙ ap least_of c.self.view_is)

pub returns-then-self-gt1-clause-marks : goal.returns-then-self-gt1-clause-marks
returns-then-self-gt1-clause-marks c = marks_raised c.self.inside.of_cores.items c.args.core c.args.no c.args.self.now c.index-before.result.now c.self.view_is c.requires c.index-before.ensures (c.rises.ensures.raised c.if-not-rises.false)

pub returns-then-self-gt1-clause-least : goal.returns-then-self-gt1-clause-least
returns-then-self-gt1-clause-least c =
    let low : c.args.core < length c.self.inside.of_cores.items = omega (arith, c.requires, length-map c.self.inside.of_cores.items reached, ap length c.self.view_is) in
    let after = fewer c.self.inside.of_cores.items c.args.core c.args.no low c.index-before.result.now c.index-before.ensures c.self.inside.least c.self.invariant (c.rises.ensures.after c.if-not-rises.false) (sym c.is_same-held.ensures ∙ c.if-not-held.false) c.if-self-gt1.true in
    λ same. sym after.mark ∙ (c.self.invariant.mark ∙ ap least_of c.self.view_is)

pub returns-clause-marks : goal.returns-clause-marks
returns-clause-marks c = marks_raised c.self.inside.of_cores.items c.args.core c.args.no c.args.self.now c.index-before.result.now c.self.view_is c.requires c.index-before.ensures (c.rises.ensures.raised c.if-not-rises.false)
