-- What stands of the streams of all roles.
use Rattle.hj_base.specs.declared.outside.Role.{Role}
use Rattle.hj_base.specs.declared.outside.Role.TheVariants.{Query, SecondQuery, Left, Right, Third, Trace, Output}
use Rattle.hj_net.specs.declared.role_stream.RoleStream.{RoleStream}
use Rattle.hj_net.specs.declared.role_streams.RoleStreams.{RoleStreams}

module _ {S : Type 0} where
  abbrev pub stream_at : RoleStreams S → Role → RoleStream S
  stream_at streams Query = streams.query
  stream_at streams SecondQuery = streams.second_query
  stream_at streams Left = streams.left
  stream_at streams Right = streams.right
  stream_at streams Third = streams.third
  stream_at streams Trace = streams.trace
  stream_at streams Output = streams.output
