-- The orders of a join and of a check of its trace, as a run takes them.
use Rattle.hj_base.specs.declared.numbers.ChainSize.{ChainSize}
use Rattle.hj_opening.specs.declared.check_order.CheckOrder.{CheckOrder}
use Rattle.hj_opening.specs.declared.source.JoinOrder.{JoinOrder}
use Rattle.hj_opening.specs.declared.source.QuerySource.{QuerySource}
use Rattle.hj_opening.specs.declared.source.QuerySource.TheVariants as source
use Rattle.hj_opening.specs.Words as words

abbrev pub source_seen : QuerySource → words.QuerySource
source_seen (source.Keyed keyed) = words.keyed keyed.rows
source_seen (source.Named name) = words.named name.now

abbrev pub names_seen : JoinOrder → words.Names
names_seen join = record { left = join.left.now; right = join.right.now }

-- The order of a join that writes such a text.
abbrev pub join_seen : words.TextKind → JoinOrder → words.Order
join_seen kind join = words.join_streams kind (source_seen join.source) (names_seen join) join.limit

abbrev pub chain_seen : ChainSize → words.ChainShape
chain_seen size = record { cores = size.cores; flight = size.flight }

abbrev pub checked_names_seen : CheckOrder → words.CheckedNames
checked_names_seen check = record {
  streams = record { left = check.left.now; right = check.right.now };
  trace = check.trace.now;
  output = check.output.now;
}

abbrev pub check_seen : CheckOrder → words.Order
check_seen check = words.check_trace (chain_seen check.size) check.query.now (checked_names_seen check) check.limit
