use Rattle.std.specs.List.{list_all}
use Rattle.hj_eval.specs.Filter.{pred_on}
use Rattle.hj_eval.specs.Tests.{number_holds, texts_meet}
use Rattle.hj_eval.proofs.Testing.{first_more, second_more}
use Rattle.hj_eval.proofs.conjuncts.Conjuncts.add.Goals as goal

pub returns-in_ok-push : goal.returns-in_ok-push
returns-in_ok-push c = λ left right.
    first_more (λ test. number_holds test left right) c.args.self.now.numbers.items c.push.new.self.items c.in-Some.test
    (list_all (λ test. texts_meet test.op test.columns left right) c.args.self.now.texts.items)
    (list_all (λ pred. pred_on c.args.query.now pred.now left right) c.args.self.now.others.items)
    (pred_on c.args.query.now c.args.pred.now left right)
    c.in_ok-push.ensures.items
    (c.in-Some.ensures left right)

pub returns-in_ok-push-2 : goal.returns-in_ok-push-2
returns-in_ok-push-2 c = λ left right.
    second_more (λ test. texts_meet test.op test.columns left right) c.args.self.now.texts.items c.push-in-Some-text_test.new.self.items c.in-Some-text_test.test
    (list_all (λ test. number_holds test left right) c.args.self.now.numbers.items)
    (list_all (λ pred. pred_on c.args.query.now pred.now left right) c.args.self.now.others.items)
    (pred_on c.args.query.now c.args.pred.now left right)
    c.in_ok-push-2.ensures.items
    (c.in-Some-text_test.ensures left right)
