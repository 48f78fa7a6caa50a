-- Which rows a probe may leave out: those whose value isn't that of the row that probes.
use Rattle.std.proofs.Common.{◌≡◌, ℕ, Bool, true, false, ◌&&◌, List, [], ◌∷◌, None, Some, option_map, refl, sym, ap, ◌∙◌}
use Rattle.hj_base.specs.declared.numbers.Side.{Side}
use Rattle.hj_msg.specs.Store.{Resting, by_number, joins, settled_matches, settled_partners}
use Rattle.hj_value.specs.declared.field.Field.{Field}
use Rattle.hj_index.specs.HashStore.{JoinsEqual}
use Rattle.hj_index.specs.Keys.{key_at, key_of}

-- no row passes where there is no key
pub none-suffice : (test : List Field → Bool) (rows : List (Resting (List Field))) → ((row : List Field) → test row ≡ false) → settled_partners test rows ≡ []
none-suffice test [] none = refl
none-suffice test (row ∷ rows) none = let f : (row.settled && test row.row) ≡ false = both row.settled (none row.row) in rw f (none-suffice test rows none)
  where
    both : (a : Bool) {b : Bool} → b ≡ false → (a && b) ≡ false
    both true e = e
    both false e = refl

module _ (own other : ℕ) (predicate : List Field → List Field → Bool) (side : Side) (suits : JoinsEqual own other predicate side) (against : List Field) where
  pub nothing_joins : (rows : List (Resting (List Field))) → key_at other against ≡ None → [] ≡ settled_matches predicate side against rows
  nothing_joins rows none = sym (ap by_number (none-suffice (λ row. joins predicate side row against) rows (λ row. by row (joins predicate side row against) refl)))
    where
      clash : (v : Field) → Some (key_of v) ≡ None → ⊥
      clash v e = cc

      by : (row : List Field) (b : Bool) → joins predicate side row against ≡ b → joins predicate side row against ≡ false
      by row true e =
          let v = suits row against e in
          absurd (clash v.0 (sym (ap (option_map key_of) v.2) ∙ none))
      by row false e = e

  -- what joins has the key of the row that probes
  pub joins_key : (key : ℕ) → key_at other against ≡ Some key → (row : List Field) → joins predicate side row against ≡ true → key_at own row ≡ Some key
  joins_key key at row e = let v = suits row against e in ap (option_map key_of) v.1 ∙ (sym (ap (option_map key_of) v.2) ∙ at)
