use Rattle.std.proofs.Common.{◌+◌, refl, ap, ◌∙◌, arith}
use Rattle.hj_index.specs.declared.chains.KeyChains.{KeyChains}
use Rattle.hj_index.specs.Keys.{key_at}
use Rattle.hj_index.proofs.ChainChanges.{pushed_chained, pushed_rows}
use Rattle.hj_index.proofs.chains.KeyChains.push.Goals as goal

pub returns-clause-rows : goal.returns-clause-rows
returns-clause-rows c =
    let s = c.args.self.now in
    let new : KeyChains = record s { places = c.push_back_reserved.new.self; last = c.set_last-before.new.last } in
    pushed_rows s new c.args.no c.args.row c.args.settled c.key_at-key.result (s.base + c.len.result + 1) c.set_last-before.result c.requires.chained c.push_back_reserved.ensures.items c.requires.absent

pub returns-clause-chained : goal.returns-clause-chained
returns-clause-chained c =
    let s = c.args.self.now in
    let now = c.push_back_reserved.new.self in
    let new : KeyChains = record s { places = now; last = c.set_last-before.new.last } in
    pushed_chained s new c.args.no c.args.row c.args.settled c.key_at-key.result (s.base + c.len.result + 1) c.set_last-before.result c.requires.chained
    c.push_back_reserved.ensures.items refl refl refl refl c.requires.absent c.requires.above (c.key_at-key.ensures ∙ ap (key_at s.own) c.row.ensures) c.set_last-before.ensures.before
    (omega (arith, c.len.ensures, s.places.ok.0)) c.set_last-before.ensures.last c.set_last-before.ensures.few (omega (arith, now.ok.0, now.small))
