use Rattle.std.proofs.Common.{◌+◌, ◌++◌, ◌∷◌, [], List, ℕ, sym, subst, arith, get_or}
use Rattle.hj_lex.proofs.Values.{Left, left_end, left_more, left_within}
use Rattle.hj_lex.proofs.meaning.undoubled.Goals as goal

pub inside-preserved : goal.inside-preserved
inside-preserved c =
    let word = c.args.word.now in
    let x = get_or word c.inside.at 0 in
    let more = left_more word c.inside.value.items c.inside.at c.inside-test.true c.inside.invariant.left in
    let left : Left word c.push.new.self.items (c.inside.at + c.width-at.result) =
    subst (λ (items : List ℕ). Left word items (c.inside.at + c.width-at.result)) (sym c.in_ok-push.ensures.items)
    (subst (λ n. Left word (c.inside.value.items ++ x ∷ []) (c.inside.at + n)) (sym c.width-at.ensures) more) in
    record { within = omega (arith, left_within word c.push.new.self.items (c.inside.at + c.width-at.result) left); left = left }

pub returns : goal.returns
returns c =
    left_end c.args.word.now c.inside.value.items c.inside.at c.inside.invariant.within c.inside-test.false c.inside.invariant.left
