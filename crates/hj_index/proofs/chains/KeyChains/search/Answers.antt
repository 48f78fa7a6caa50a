use Rattle.std.proofs.Common.{arith, rules}
use Rattle.std.proofs.lemmas.Fn.{always_returns_same}
use Rattle.hj_index.specs.declared.chains.RowPlace.{RowPlace}
use Rattle.hj_index.proofs.ChainFinds.{search-hits, search-misses, search-rises}
use Rattle.hj_index.proofs.chains.KeyChains.search.Goals as goal

pub returns-in-Ok : goal.returns-in-Ok
returns-in-Ok c =
    let places = c.args.self.now.places in
    search-hits c.args.no c.in-Ok.at places.items (omega (arith, c.in-Ok.ensures.bound, places.ok.0)) (λ d. c.in-Ok.ensures.position (λ (place : RowPlace). place.no) (search (rules, always_returns_same)) d)

pub returns-in-Err : goal.returns-in-Err
returns-in-Err c =
    let places = c.args.self.now.places in
    let parts = c.in-Err.ensures.position (λ (place : RowPlace). place.no) (search (rules, always_returns_same)) (search-rises c.args.no places.items c.requires) in
    search-misses c.args.no c.in-Err.field-0 places.items parts.0 parts.1
