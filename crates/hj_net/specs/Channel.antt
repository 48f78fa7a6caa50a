-- Where the bytes of an open role come from.
use Rattle.std.specs.Prelude.{ℕ, List, None, Some}
use Rattle.std.specs.declared.option.Option.{Option}
use Rattle.hj_net.specs.declared.address.Address.{Address}
use Rattle.hj_net.specs.declared.address.Address.TheVariants as address
use Rattle.hj_net.specs.declared.channel.Channel.{Channel}
use Rattle.hj_net.specs.declared.channel.Channel.TheVariants.{File, Listening, Connected}

-- the bytes that are left, where they are told: nothing is known of a peer before it connects
abbrev pub left_of : {F L S : Type 0} → (F → Option (List ℕ)) → (S → Option (List ℕ)) → Channel F L S → Option (List ℕ)
left_of in_file in_stream (File file) = in_file file
left_of in_file in_stream (Listening listener) = None
left_of in_file in_stream (Connected stream) = in_stream stream

-- A file is open, or a peer has connected: nothing is waited for but bytes.
abbrev pub IsConnected : {F L S : Type 0} → Channel F L S → Type 0
IsConnected (File file) = Unit {0}
IsConnected (Listening listener) = ⊥
IsConnected (Connected stream) = Unit {0}

-- A file is opened for the address of a file, and a listener for that of a port; nothing is for a name with no address.
abbrev pub IsOpenedFor : {F L S : Type 0} → Option Address → Channel F L S → Type 0
IsOpenedFor (Some address.File) (File file) = Unit {0}
IsOpenedFor (Some address.File) (Listening listener) = ⊥
IsOpenedFor (Some address.File) (Connected stream) = ⊥
IsOpenedFor (Some (address.Port port)) (File file) = ⊥
IsOpenedFor (Some (address.Port port)) (Listening listener) = Unit {0}
IsOpenedFor (Some (address.Port port)) (Connected stream) = ⊥
IsOpenedFor None channel = ⊥
