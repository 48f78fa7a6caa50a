use Rattle.std.proofs.Common.{All, List, rules, sym, subst, ◌∙◌}
use Rattle.hj_eval.specs.declared.filter.Filter.{Filter}
use Rattle.hj_eval.specs.Filter.{KeepsMatches}
use Rattle.hj_eval.specs.Holds.{holds}
use Rattle.hj_stores.proofs.stores.scanned_stores.Goals as goal

pub returns-then-is_empty : goal.returns-then-is_empty
returns-then-is_empty c =
    let left = c.in_ok-repeat_with.ensures in
    let right = c.in_ok-repeat_with-2.ensures in
    record {
      left = record {
        count = left.count;
        empty = λ k d lt. let made = left.made k d lt in search rules;
        suit = λ k d lt. tt;
      };
      right = record {
        count = right.count;
        empty = λ k d lt. let made = right.made k d lt in search rules;
        suit = λ k d lt. tt;
      };
    }

pub returns : goal.returns
returns c =
    let left = c.in_ok-column_stores.ensures in
    let right = c.in_ok-column_stores-2.ensures in
    let same = c.as_slice-filters.ensures.value in
    let kept = c.in_ok-filters.ensures.keep in
    record {
      left = record {
        count = left.count;
        empty = λ k d lt. (left.made k d lt).rows;
        suit = λ k d lt.
            let made = left.made k d lt in
            (made.side, subst (λ (filters : List Filter). All (KeepsMatches (holds c.args.query.now)) filters) (sym (made.filters ∙ same)) kept);
      };
      right = record {
        count = right.count;
        empty = λ k d lt. (right.made k d lt).rows;
        suit = λ k d lt.
            let made = right.made k d lt in
            (made.side, subst (λ (filters : List Filter). All (KeepsMatches (holds c.args.query.now)) filters) (sym (made.filters ∙ same)) kept);
      };
    }
