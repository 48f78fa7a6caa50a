-- The items of one report more.
use Rattle.std.proofs.Common.{◌≡◌, ℕ, List, [], ◌∷◌, ◌++◌, fold, replicate, ap, sym, ◌∙◌, append-nil, append_assoc}
use Rattle.hj_msg.specs.declared.message.Report.{Report}
use Rattle.hj_raw.specs.Items.{TakenReport, items_behind, items_of_report, lists_of, raw_items, with_taken}

module _ {P : Type 0} where
  behind : (lists : List (List (Report P))) (taken : List (TakenReport P)) (next : TakenReport P) → items_behind lists (taken ++ next ∷ []) ≡ items_behind lists taken ++ items_of_report (fold with_taken lists taken) next
  behind lists [] next = append-nil (items_of_report lists next)
  behind lists (first ∷ taken) next =
      ap (λ l. items_of_report lists first ++ l) (behind (with_taken lists first) taken next)
      ∙ sym (append_assoc (items_of_report lists first) (items_behind (with_taken lists first) taken) (items_of_report (fold with_taken (with_taken lists first) taken) next))

  pub one_behind : (cores : ℕ) (taken : List (TakenReport P)) (next : TakenReport P) → raw_items cores (taken ++ next ∷ []) ≡ raw_items cores taken ++ items_of_report (lists_of cores taken) next
  one_behind cores taken next = behind (replicate cores []) taken next
