use Rattle.std.proofs.Common.{◌≡◌, true, List, [], ◌++◌, All, map, ap, sym, subst, ◌∙◌, rules}
use Rattle.std.proofs.lemmas.List.Elements.{All-nil}
use Rattle.hj_query.specs.declared.pred.Pred.{Pred}
use Rattle.hj_query.specs.Grammar.{columns_of}
use Rattle.hj_eval.specs.declared.filter.Filter.{Filter}
use Rattle.hj_eval.specs.Filter.{asked_by, asks_of, pred_on, KeepsMatches}
use Rattle.hj_eval.specs.Holds.{holds}
use Rattle.hj_eval.proofs.filter.filters.Goals as goal

pub returns-clause-keep : goal.returns-clause-keep
returns-clause-keep c =
    let q = c.args.query.now in
    let none : c.new-found.result.items ≡ [] = search rules in
    c.in_ok-add_filters.ensures.keep (holds q) (λ l r e. subst (λ (p : Pred). pred_on q p l r ≡ true) (sym c.pred.ensures.pred) e)
    (subst (All (KeepsMatches (holds q))) (sym none) (All-nil (KeepsMatches (holds q))))

pub returns-clause-all : goal.returns-clause-all
returns-clause-all c =
    let columns = columns_of c.args.query.now in
    let none : c.new-found.result.items ≡ [] = search rules in
    c.in_ok-add_filters.ensures.added ∙ ap (λ (filters : List Filter). map asked_by filters ++ asks_of columns c.pred.result.now) none ∙ ap (asks_of columns) c.pred.ensures.pred
