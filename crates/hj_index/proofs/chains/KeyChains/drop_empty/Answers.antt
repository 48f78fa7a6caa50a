use Rattle.std.proofs.Common.{◌+◌, ◌-◌, ◌∷◌, refl, arith, sym, ap, ◌∙◌}
use Rattle.hj_index.specs.declared.chains.KeyChains.{KeyChains}
use Rattle.hj_index.proofs.ChainChanges.{dropped_nearly, front-split, one_empty}
use Rattle.hj_index.proofs.chains.KeyChains.drop_empty.Goals as goal

pub overflow_sub-self : goal.overflow_sub-self
overflow_sub-self c =
    let s = c.args.self.now in
    let split = front-split s.places.items c.requires.empty in
    let new : KeyChains = record s { places = c.pop_front-first.new.self } in
    let one = one_empty s new split.0 c.requires.chained (split.1 ∙ ap (λ ps. split.0 ∷ ps) (sym c.pop_front-first.ensures.rest)) split.2 in
    omega (arith, one)

pub returns-clause-chained : goal.returns-clause-chained
returns-clause-chained c =
    let s = c.args.self.now in
    let split = front-split s.places.items c.requires.empty in
    let new : KeyChains = record s { places = c.pop_front-first.new.self; base = s.base + 1; empty = s.empty - 1 } in
    let items = split.1 ∙ ap (λ ps. split.0 ∷ ps) (sym c.pop_front-first.ensures.rest) in
    let one = one_empty s new split.0 c.requires.chained items split.2 in
    dropped_nearly s new split.0 c.requires.chained items split.2 refl refl refl (omega (arith, one)) refl
