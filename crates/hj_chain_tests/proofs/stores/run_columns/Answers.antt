use Rattle.std.proofs.Common.{◌≡◌, List, All, refl, rules, sym, subst₂}
use Rattle.hj_base.specs.declared.numbers.Side.TheVariants.{Left}
use Rattle.hj_query.specs.QueryParts.{QueryParts}
use Rattle.hj_eval.specs.declared.filter.Filter.{Filter}
use Rattle.hj_eval.specs.Filter.{KeepsMatches}
use Rattle.hj_eval.specs.Holds.{holds}
use Rattle.hj_chain_tests.proofs.stores.run_columns.Goals as goal

pub run-requires : goal.run-requires
run-requires g c κs =
    let side : c.sent-store.result.side ≡ Left = search rules in
    let filters : c.sent-store.result.filters ≡ c.expect-filters.result.items = search rules in
    let query : c.new-join.result ≡ c.query-query.result = search rules in
    let kept : All (KeepsMatches (holds c.query-query.result)) c.expect-filters.result.items = search rules in
    ((refl, tt), (side, subst₂ (λ (query : QueryParts) (filters : List Filter). All (KeepsMatches (holds query)) filters) (sym query) (sym filters) kept))
