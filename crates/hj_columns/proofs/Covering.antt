-- Masks of some columns, one more after another.
use Rattle.std.proofs.Common.{◌≡◌, ℕ, ◌+◌, ◌<◌, ◌≤◌, true, cond, min, List, length, get_or, arith, ap, ap₂, ◌∙◌}
use Rattle.std.specs.Prelude.{bit_and}
use Rattle.std.specs.Int.{bit_at}
use Rattle.std.proofs.lemmas.Nat.Bits.{bit_at_and}
use Rattle.hj_rows.specs.declared.key_filter.KeyRange.{KeyRange}
use Rattle.hj_columns.specs.declared.key_column.KeyColumn.{KeyColumn}
use Rattle.hj_columns.specs.Columns.{AreIn}
use Rattle.hj_columns.specs.Masks.{is_in}

-- the keys of the first columns at a place lie in these columns' ranges
abbrev pub AreInBelow : {F : Type 0} → ℕ → List (KeyColumn F) → List KeyRange → ℕ → Type 0
AreInBelow {F} n columns ranges at = (j : ℕ) (column : KeyColumn F) (range : KeyRange) → j < n
    → is_in (get_or ranges j range) (get_or (get_or columns j column).keys.items at 0) ≡ true

pub covered : {F : Type 0} (columns : List (KeyColumn F)) (ranges : List KeyRange) (at slot mask next k : ℕ) (column : KeyColumn F) (range : KeyRange) (keys : List ℕ)
    → column ≡ get_or columns at column → keys ≡ column.keys.items
    → (AreInBelow at columns ranges slot → bit_at mask k ≡ 1) → bit_at next k ≡ cond (is_in (get_or ranges at range) (get_or keys slot 0)) 1 0
    → AreInBelow (at + 1) columns ranges slot → bit_at (bit_and mask next) k ≡ 1
covered columns ranges at slot mask next k column range keys is_column is_keys before now all =
    let here : is_in (get_or ranges at range) (get_or keys slot 0) ≡ true =
    ap (λ ks. is_in (get_or ranges at range) (get_or ks slot 0)) (is_keys ∙ ap (λ c. c.keys.items) is_column)
    ∙ all at column range (omega arith) in
    bit_at_and mask next k ∙ ap₂ min (before (λ j c r low. all j c r (omega arith))) (now ∙ ap (λ b. cond b 1 0) here)

pub all-in : {F : Type 0} (columns : List (KeyColumn F)) (ranges : List KeyRange) (n slot : ℕ) → n ≤ length columns → AreIn columns ranges slot → AreInBelow n columns ranges slot
all-in columns ranges n slot le all = λ j column range low. all j column range (omega arith)
