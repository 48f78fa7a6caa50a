use Rattle.std.proofs.Common.{refl}
use Rattle.hj_index.proofs.ChainChanges.{emptied_nearly, emptied_rows, held_rest, reads}
use Rattle.hj_index.proofs.chains.KeyChains.empty_at.Goals as goal

pub returns-clause-rows : goal.returns-clause-rows
returns-clause-rows c =
    let read = reads c.args.no c.args.at c.args.self.now.places.items c.index_mut.result.now c.requires.filled c.index_mut.ensures.value in
    let some = held_rest c.index_mut.result.now read.full in
    emptied_rows c.args.self.now c.args.no c.args.at c.index_mut.result.now some.0 c.requires.chained read some.1

pub returns-clause-chained : goal.returns-clause-chained
returns-clause-chained c =
    let read = reads c.args.no c.args.at c.args.self.now.places.items c.index_mut.result.now c.requires.filled c.index_mut.ensures.value in
    let some = held_rest c.index_mut.result.now read.full in
    emptied_nearly c.args.self.now c.args.no c.args.at c.index_mut.result.now some.0 c.requires.chained read some.1 c.requires.filled _ refl refl refl refl refl refl
