use Rattle.std.proofs.Common.{is_some, refl, sym, ap, ◌∙◌, true≢false}
use Rattle.hj_index.proofs.ChainChanges.{reads, settled_chained, settled_rows}
use Rattle.hj_index.proofs.chains.KeyChains.settle_at.Goals as goal

pub returns-in-Some-clause-rows : goal.returns-in-Some-clause-rows
returns-in-Some-clause-rows c =
    settled_rows c.args.self.now c.args.no c.args.at c.index_mut.result.now c.in-Some.rest c.requires.chained
    (reads c.args.no c.args.at c.args.self.now.places.items c.index_mut.result.now c.requires.filled c.index_mut.ensures.value) c.in-Some.is

pub returns-in-Some-clause-chained : goal.returns-in-Some-clause-chained
returns-in-Some-clause-chained c =
    settled_chained c.args.self.now c.args.no c.args.at c.index_mut.result.now c.in-Some.rest c.requires.chained
    (reads c.args.no c.args.at c.args.self.now.places.items c.index_mut.result.now c.requires.filled c.index_mut.ensures.value) c.in-Some.is
    _ refl refl refl refl refl refl

pub returns-in_default-clause-rows : goal.returns-in_default-clause-rows
returns-in_default-clause-rows c =
    let read = reads c.args.no c.args.at c.args.self.now.places.items c.index_mut.result.now c.requires.filled c.index_mut.ensures.value in
    absurd (true≢false (sym read.full ∙ ap is_some c.in_default.is))
