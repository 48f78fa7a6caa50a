-- What stands of each role of the system's streams.
use Rattle.std.specs.Prelude.{ℕ, List}
use Rattle.std.specs.declared.option.Option.{Option}
use Rattle.hj_base.specs.declared.outside.Role.{Role}
use Rattle.hj_base.specs.Outside.{RoleState}
use Rattle.hj_net.specs.declared.channel.Channel.{Channel}
use Rattle.hj_net.specs.declared.outside.RealOutside.{RealOutside}
use Rattle.hj_net.specs.declared.role_stream.RoleStream.{RoleStream}
use Rattle.hj_net.specs.Channel.{left_of}
use Rattle.hj_net.specs.RoleStream.{role_of, remaining, stream_of}
use Rattle.hj_net.specs.RoleStreams.{stream_at}

module _ {R W F D S L : Type 0} where
  abbrev pub role_stream_at : RealOutside R W F D S L → Role → RoleStream (Channel F L S)
  role_stream_at outside role = stream_at outside.streams role

  abbrev pub role_at : RealOutside R W F D S L → Role → RoleState
  role_at outside role = role_of (role_stream_at outside role)

  -- the channel of an open role
  abbrev pub channel_at : RealOutside R W F D S L → Role → Option (Channel F L S)
  channel_at outside role = stream_of (role_stream_at outside role)

  -- the bytes that the channel of an open role has left, where it tells them
  abbrev pub remaining_at : (F → Option (List ℕ)) → (S → Option (List ℕ)) → RealOutside R W F D S L → Role → Option (List ℕ)
  remaining_at in_file in_stream outside role = remaining (left_of in_file in_stream) (role_stream_at outside role)
