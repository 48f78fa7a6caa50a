-- What stands inside a `not` or `(` is one deeper.
use Rattle.std.proofs.Common.{◌≡◌, ℕ, ◌+◌, ◌<◌, List, subst, codes}
use Rattle.hj_base.specs.declared.numbers.Side.{Side}
use Rattle.hj_value.specs.declared.column.Column.{Column}
use Rattle.hj_query.specs.declared.fault.QueryFault.{QueryFault}
use Rattle.hj_query.specs.declared.fault.Wanted.TheVariants as wants
use Rattle.hj_query.specs.declared.pred.Pred.{Pred}
use Rattle.hj_query.specs.Faults.{EndsPred, FaultsPred, FaultsUnary, IsExpected, in_not, in_parens, unclosed_parens}
use Rattle.hj_query.specs.Grammar.{IsNot, IsPred, IsUnary, most_depth, of_not, of_parens}
use Rattle.hj_query.specs.Lexemes.{Lexeme, IsSign, IsWord, LacksSign}

pub not_inside : (columns : Side → List Column) (depth inside : ℕ) (here next rest : List Lexeme) (inner pred : Pred) → (inside ≡ depth + 1) × (depth < most_depth)
    → IsWord (codes "not") here next → IsUnary columns inside next inner rest → IsNot inner pred → IsUnary columns depth here pred rest
not_inside columns depth inside here next rest inner pred e w u n = of_not depth here next rest inner pred e.1 w (subst (λ d. IsUnary columns d next inner rest) e.0 u) n

pub parens_inside : (columns : Side → List Column) (depth inside : ℕ) (here next close rest : List Lexeme) (pred : Pred) → (inside ≡ depth + 1) × (depth < most_depth)
    → IsSign (codes "(") here next → IsPred columns inside next pred close → IsSign (codes ")") close rest → IsUnary columns depth here pred rest
parens_inside columns depth inside here next close rest pred e s p z = of_parens depth here next close rest pred e.1 s (subst (λ d. IsPred columns d next pred close) e.0 p) z

pub not_faults : (columns : Side → List Column) (depth inside : ℕ) (here next : List Lexeme) (fault : QueryFault) → (inside ≡ depth + 1) × (depth < most_depth)
    → IsWord (codes "not") here next → FaultsUnary columns inside next fault → FaultsUnary columns depth here fault
not_faults columns depth inside here next fault e w u = in_not depth here next fault e.1 w (subst (λ d. FaultsUnary columns d next fault) e.0 u)

pub parens_fault : (columns : Side → List Column) (depth inside : ℕ) (here next : List Lexeme) (fault : QueryFault) → (inside ≡ depth + 1) × (depth < most_depth)
    → IsSign (codes "(") here next → FaultsPred columns inside next fault → FaultsUnary columns depth here fault
parens_fault columns depth inside here next fault e s u = in_parens depth here next fault e.1 s (subst (λ d. FaultsPred columns d next fault) e.0 u)

pub unclosed_fault : (columns : Side → List Column) (depth inside : ℕ) (here next last : List Lexeme) (pred : Pred) (fault : QueryFault) → (inside ≡ depth + 1) × (depth < most_depth)
    → IsSign (codes "(") here next → IsPred columns inside next pred last → EndsPred last → LacksSign (codes ")") last → IsExpected wants.CloseParen last fault → FaultsUnary columns depth here fault
unclosed_fault columns depth inside here next last pred fault e s p z l x =
    unclosed_parens depth here next last pred fault e.1 s (subst (λ d. IsPred columns d next pred last) e.0 p) z l x
