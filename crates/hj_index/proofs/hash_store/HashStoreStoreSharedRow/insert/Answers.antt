use Rattle.hj_index.specs.KeyChains.{rows_in}
use Rattle.hj_index.proofs.ChainRows.{apart-distinct}
use Rattle.hj_index.proofs.hash_store.HashStoreStoreSharedRow.insert.Goals as goal

pub returns-clause-distinct : goal.returns-clause-distinct
returns-clause-distinct g c = apart-distinct (rows_in c.put.new.self) c.put.ensures.chained.nearly.apart
