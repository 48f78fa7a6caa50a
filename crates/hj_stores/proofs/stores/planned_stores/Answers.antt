use Rattle.std.proofs.Common.{rules, sym}
use Rattle.hj_base.specs.declared.numbers.Side.TheVariants.{Left, Right}
use Rattle.hj_index.proofs.Ready.{hash_suits, ordered_suits}
use Rattle.hj_stores.proofs.stores.planned_stores.Goals as goal

pub returns-in_ok-repeat_with-in-Equal-2 : goal.returns-in_ok-repeat_with-in-Equal-2
returns-in_ok-repeat_with-in-Equal-2 c =
    let left = c.in_ok-repeat_with-in-Equal.ensures in
    let right = c.in_ok-repeat_with-in-Equal-2.ensures in
    let plan = sym c.in-Equal.ensures.plan in
    record {
      left = record {
        count = left.count;
        empty = λ k d lt. let made = left.made k d lt in search rules;
        suit = λ k d lt. let made = left.made k d lt in hash_suits _ _ c.in-Equal.left c.in-Equal.right Left c.args.query.now (search rules) (search rules) plan (search rules);
      };
      right = record {
        count = right.count;
        empty = λ k d lt. let made = right.made k d lt in search rules;
        suit = λ k d lt. let made = right.made k d lt in hash_suits _ _ c.in-Equal.right c.in-Equal.left Right c.args.query.now (search rules) (search rules) plan (search rules);
      };
    }

pub returns-in_ok-repeat_with-in-Band-2 : goal.returns-in_ok-repeat_with-in-Band-2
returns-in_ok-repeat_with-in-Band-2 c =
    let left = c.in_ok-repeat_with-in-Band.ensures in
    let right = c.in_ok-repeat_with-in-Band-2.ensures in
    let plan = sym c.in-Band.ensures.plan in
    record {
      left = record {
        count = left.count;
        empty = λ k d lt. let made = left.made k d lt in search rules;
        suit = λ k d lt.
            let made = left.made k d lt in
            ordered_suits _ _ _ c.in-Band.left c.in-Band.right c.in-Band.within Left c.args.query.now (search rules) (search rules) (search rules) plan (search rules);
      };
      right = record {
        count = right.count;
        empty = λ k d lt. let made = right.made k d lt in search rules;
        suit = λ k d lt.
            let made = right.made k d lt in
            ordered_suits _ _ _ c.in-Band.right c.in-Band.left c.in-Band.within Right c.args.query.now (search rules) (search rules) (search rules) plan (search rules);
      };
    }
