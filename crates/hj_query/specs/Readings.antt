-- Each text spells a query or has a first fault, in one way.
use Rattle.std.specs.Prelude.{◌≡◌, ◌⊎◌, ℕ, List}
use Rattle.hj_query.specs.declared.fault.QueryFault.{QueryFault}
use Rattle.hj_query.specs.QueryParts.{QueryParts}
use Rattle.hj_query.specs.Same.{IsSameQuery}
use Rattle.hj_query.specs.Texts.{IsFirstQueryFault, Spells}

-- it spells a query, or has a first fault
abbrev pub HasReading : List ℕ → Type 0
HasReading text = ((query : QueryParts) × Spells text query) ⊎ ((fault : QueryFault) × IsFirstQueryFault text fault)

-- not two queries, not two first faults, and not both
abbrev pub HasOneReading : List ℕ → Type 0
HasOneReading text =
    ((query other : QueryParts) → Spells text query → Spells text other → IsSameQuery query other)
    × ((fault other : QueryFault) → IsFirstQueryFault text fault → IsFirstQueryFault text other → other ≡ fault)
    × ((query : QueryParts) (fault : QueryFault) → Spells text query → IsFirstQueryFault text fault → ⊥)
