-- Reading `on`, a condition, and the end of a text: one tree or one first fault.
use Rattle.std.proofs.Common.{◌≡◌, ◌⊎◌, inl, inr, true, List, [], codes, refl, subst, sym, ◌∙◌}
use Rattle.hj_base.specs.declared.numbers.Side.{Side}
use Rattle.hj_lex.specs.declared.token.TokenKind.TheVariants as kinds
use Rattle.hj_query.specs.declared.fault.QueryFault.{QueryFault}
use Rattle.hj_query.specs.declared.fault.QueryFault.TheVariants as faults
use Rattle.hj_query.specs.declared.fault.Wanted.TheVariants as wants
use Rattle.hj_query.specs.declared.pred.Pred.{Pred}
use Rattle.hj_value.specs.declared.column.Column.{Column}
use Rattle.hj_query.specs.Faults.{EndsPred, FaultsCondition, in_pred, no_end, no_on}
use Rattle.hj_query.specs.Grammar.{IsCondition, of_pred}
use Rattle.hj_query.specs.Lexemes.{Lexeme, behind, next_is, place, IsNextToken}
use Rattle.hj_query.specs.Same.{IsSame}
use Rattle.hj_query.proofs.Outcomes.{IsOne, Outcome, fault, fault_same, one_by, one_same, read, read_fault, read_same}
use Rattle.hj_query.proofs.PredOutcomes.{PredGives, pred_one}
use Rattle.hj_query.proofs.Sequences.{Follows, Passes, follows_one, passes_one}
use Rattle.hj_query.proofs.Shapes.{Shape, same_shape, shape}
use Rattle.hj_query.proofs.TokenOutcomes.{AreSuited, WordGives, next_other_kind, suited_rest, word_one}

-- no `and` and no `or` stands at the end
end_ends : (last : List Lexeme) → next_is kinds.Sign [] last ≡ true → EndsPred last
end_ends last e = let n : IsNextToken kinds.Sign [] last (behind last) = record { found = e; left = refl } in
    record { no_and = next_other_kind _ kinds.Name _ (codes "and") last (behind last) n refl; no_or = next_other_kind _ kinds.Name _ (codes "or") last (behind last) n refl }

module _ (columns : Side → List Column) where
  -- the end
  abbrev EndGives : Shape → List Lexeme → Outcome Shape → Type 0
  EndGives tree last = Passes (next_is kinds.Sign [] last) tree [] (faults.Expected wants.End (place last))

  abbrev OpenedGives : List Lexeme → Outcome Shape → Type 0
  OpenedGives first = Follows (PredGives columns 0 first) (λ tree last. EndGives tree last)

  abbrev WholeGives : List Lexeme → Outcome Shape → Type 0
  WholeGives here = Follows (WordGives (codes "on") wants.OnWord here) (λ token first. OpenedGives first)

  whole_one : (here : List Lexeme) → AreSuited here → IsOne (WholeGives here)
  whole_one here suited =
      follows_one (WordGives (codes "on") wants.OnWord here) (λ token first. OpenedGives first) (word_one (codes "on") wants.OnWord here) (λ token first w.
      follows_one (PredGives columns 0 first) (λ tree last. EndGives tree last) (pred_one columns 0 first (suited_rest _ _ here first w suited))
      (λ tree last p. passes_one (next_is kinds.Sign [] last) tree [] (faults.Expected wants.End (place last))))

  -- a condition by its tree, with nothing left behind it, or its first fault
  abbrev pub ConditionGives : List Lexeme → Outcome Shape → Type 0
  ConditionGives here (read tree rest) = (pred : Pred) × (shape pred ≡ tree) × IsCondition columns here pred × (rest ≡ [])
  ConditionGives here (fault found) = FaultsCondition columns here found

  to_condition : (here : List Lexeme) (o : Outcome Shape) → WholeGives here o → ConditionGives here o
  to_condition here (read tree rest) (token, first, w, (inner, last, (pred, same, p, ends), (e, built, left))) = (pred, same ∙ sym built, of_pred first last w p e, left)
  to_condition here (fault found) (inl (lacks, wanted)) = no_on lacks wanted
  to_condition here (fault found) (inr (token, first, w, inl p)) = in_pred first w p
  to_condition here (fault found) (inr (token, first, w, inr (tree, last, (pred, same, p, ends), (lacks, wanted)))) = no_end first last pred w p ends lacks wanted

  whole_condition : (here : List Lexeme) (pred : Pred) → IsCondition columns here pred → WholeGives here (read (shape pred) [])
  whole_condition here pred (of_pred first last w p e) = (tt, first, w, (shape pred, last, (pred, refl, p, end_ends last e), (e, refl, refl)))

  whole_fault : (here : List Lexeme) (found : QueryFault) → FaultsCondition columns here found → WholeGives here (fault found)
  whole_fault here found (no_on lacks wanted) = inl (lacks, wanted)
  whole_fault here found (in_pred first w p) = inr (tt, first, w, inl p)
  whole_fault here found (no_end first last pred w p ends lacks wanted) = inr (tt, first, w, inr (shape pred, last, (pred, refl, p, ends), (lacks, wanted)))

  from_condition : (here : List Lexeme) (o : Outcome Shape) → ConditionGives here o → WholeGives here o
  from_condition here (read tree rest) (pred, same, c, left) =
      subst (λ t. WholeGives here (read t rest)) same (subst (λ n. WholeGives here (read (shape pred) n)) (sym left) (whole_condition here pred c))
  from_condition here (fault found) f = whole_fault here found f

  pub condition_one : (here : List Lexeme) → AreSuited here → IsOne (ConditionGives here)
  condition_one here suited = one_by (WholeGives here) (ConditionGives here) (λ o h. to_condition here o h) (λ o h. from_condition here o h) (whole_one here suited)

  -- The same told of conditions and faults.

  pub condition_some : (here : List Lexeme) → AreSuited here → ((pred : Pred) × IsCondition columns here pred) ⊎ ((found : QueryFault) × FaultsCondition columns here found)
  condition_some here suited = let one = condition_one here suited in told one.value one.gives
    where
      told : (o : Outcome Shape) → ConditionGives here o → ((pred : Pred) × IsCondition columns here pred) ⊎ ((found : QueryFault) × FaultsCondition columns here found)
      told (read tree rest) (pred, same, c, left) = inl (pred, c)
      told (fault found) f = inr (found, f)

  pub condition_same : (here : List Lexeme) → AreSuited here → (pred other : Pred) → IsCondition columns here pred → IsCondition columns here other → IsSame pred other
  condition_same here suited pred other c d =
      let same = one_same (ConditionGives here) (condition_one here suited) (read (shape other) []) (read (shape pred) []) (other, refl, d, refl) (pred, refl, c, refl) in
      same_shape pred other (read_same (shape pred) (shape other) [] [] same).0

  pub condition_fault : (here : List Lexeme) → AreSuited here → (found other : QueryFault) → FaultsCondition columns here found → FaultsCondition columns here other → other ≡ found
  condition_fault here suited found other f g =
      fault_same {A = Shape} other found (one_same (ConditionGives here) (condition_one here suited) (fault found) (fault other) f g)

  pub condition_both : (here : List Lexeme) → AreSuited here → (pred : Pred) (found : QueryFault) → IsCondition columns here pred → FaultsCondition columns here found → ⊥
  condition_both here suited pred found c f =
      read_fault (shape pred) [] found (one_same (ConditionGives here) (condition_one here suited) (fault found) (read (shape pred) []) f (pred, refl, c, refl))
