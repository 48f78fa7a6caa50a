use Rattle.std.proofs.Common.{◌≡◌, ◌&&◌, ◌++◌, true, List, map, refl, ap, sym, subst, ◌∙◌}
use Rattle.std.proofs.lemmas.List.Concat.{flat_map-append}
use Rattle.hj_value.specs.declared.field.Field.{Field}
use Rattle.hj_query.specs.declared.pred.Pred.{Pred}
use Rattle.hj_query.specs.declared.sum.Sum.{Sum}
use Rattle.hj_query.specs.Grammar.{columns_of, is_text}
use Rattle.hj_query.specs.Sides.{by_side}
use Rattle.hj_eval.specs.declared.filter.Need.{Need}
use Rattle.hj_eval.specs.declared.filter.Need.TheVariants as needs
use Rattle.hj_eval.specs.Filter.{ask_of, asked_by, asks_of, pred_on}
use Rattle.hj_eval.specs.Plan.{conjuncts}
use Rattle.hj_eval.proofs.Filtering.{asks-then, both_first, both_second, comparison_met, not_text, on_ok_then, pushed_keeps, within_met}
use Rattle.hj_eval.specs.Holds.{term_value}
use Rattle.hj_eval.proofs.filter.+add_filters.Goals as goal

pub returns-in_ok-add_filters-in-And-clause-keep : goal.returns-in_ok-add_filters-in-And-clause-keep
returns-in_ok-add_filters-in-And-clause-keep t c =
    let q = c.args.query.now in
    on_ok_then c.add_filters-in-And.result
    (λ more matches implies kept.
    let whole : (l r : List Field) → matches l r ≡ true → (pred_on q c.in-And.left.value l r && pred_on q c.in-And.right.value l r) ≡ true = λ l r e. subst (λ (p : Pred). pred_on q p l r ≡ true) c.in-And.is (implies l r e) in
    more matches
    (λ l r e. subst (λ (p : Pred). pred_on q p l r ≡ true) (sym c.deref-in-And.ensures) (both_second (pred_on q c.in-And.left.value l r) (pred_on q c.in-And.right.value l r) (whole l r e)))
    (c.in_ok-add_filters-in-And.ensures.keep matches
    (λ l r e. subst (λ (p : Pred). pred_on q p l r ≡ true) (sym c.deref.ensures) (both_first (pred_on q c.in-And.left.value l r) (pred_on q c.in-And.right.value l r) (whole l r e)))
    kept))
    c.add_filters-in-And.ensures.keep

pub returns-in_ok-push-in-Compare-clause-keep : goal.returns-in_ok-push-in-Compare-clause-keep
returns-in_ok-push-in-Compare-clause-keep t c = λ matches implies kept.
    let q = c.args.query.now in
    let w = c.in-Compare in
    pushed_keeps matches c.args.found.now.items c.push.new.self.items _ c.in_ok-push-in-Compare.ensures.items (needs.Compare w.op) w.first w.second refl refl refl kept (columns_of q)
    (λ l r e.
    comparison_met (columns_of q) (by_side l r) w.op w.first w.second (not_text (is_text (columns_of q) w.first.first) c.if-is_number.ensures) (subst (λ (p : Pred). pred_on q p l r ≡ true) w.is (implies l r e)))

pub returns-in_ok-push-in-Within-clause-keep : goal.returns-in_ok-push-in-Within-clause-keep
returns-in_ok-push-in-Within-clause-keep t c = λ matches implies kept.
    let q = c.args.query.now in
    let w = c.in-Within in
    pushed_keeps matches c.args.found.now.items c.push-in-Within.new.self.items _ c.in_ok-push-in-Within.ensures.items (needs.Within w.distance) w.first w.second refl refl refl kept (columns_of q)
    (λ l r e. within_met (term_value (columns_of q) (by_side l r)) w.distance w.first w.second (subst (λ (p : Pred). pred_on q p l r ≡ true) w.is (implies l r e)))

pub returns-in_ok-add_filters-in-And-clause-added : goal.returns-in_ok-add_filters-in-And-clause-added
returns-in_ok-add_filters-in-And-clause-added t c =
    let columns = columns_of c.args.query.now in
    on_ok_then c.add_filters-in-And.result
    (λ more.
    asks-then (map asked_by c.args.found.now.items) _ _ (asks_of columns c.in-And.left.value) (asks_of columns c.in-And.right.value)
    (c.in_ok-add_filters-in-And.ensures.added ∙ ap (λ (p : Pred). map asked_by c.args.found.now.items ++ asks_of columns p) c.deref.ensures)
    (more ∙ ap (λ (p : Pred). map asked_by c.add_filters.new.found.items ++ asks_of columns p) c.deref-in-And.ensures)
    ∙ ap (λ (l : List (Need × (Sum × Sum))). map asked_by c.args.found.now.items ++ l) (sym (flat_map-append (ask_of columns) (conjuncts c.in-And.left.value) (conjuncts c.in-And.right.value)) ∙ ap (asks_of columns) (sym c.in-And.is)))
    c.add_filters-in-And.ensures.added
