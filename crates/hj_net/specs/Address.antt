-- What a stream's name asks for: a file, or a connection that comes to a port of this machine.
use Rattle.std.specs.Prelude.{ℕ, List, ◌&&◌, nat_lt, nat_eq, length, drop, codes, if◌then◌else◌, None, Some, Option}
use Rattle.std.specs.List.{starts_with}
use Rattle.std.specs.Option.{option_map}
use Rattle.std.specs.Str.{all_ascii_digits}
use Rattle.std.specs.Str.Parse.{digits_value}
use Rattle.hj_net.specs.declared.address.Address.{Address}
use Rattle.hj_net.specs.declared.address.Address.TheVariants.{File, Port}

-- digits of a value from 1 to 65535
abbrev pub port_of : List ℕ → Option ℕ
port_of word =
    if all_ascii_digits word && nat_lt 0 (digits_value 10 word) && nat_lt (digits_value 10 word) 65536
    then Some (digits_value 10 word)
    else None

-- what begins the name of a port
abbrev pub listen : List ℕ
listen = codes "listen:"

-- A name that begins with `listen:` is that of a port, or of nothing; every other one is that of a file.
abbrev pub address_of : List ℕ → Option Address
address_of name =
    if starts_with nat_eq name listen
    then option_map Port (port_of (drop (length listen) name))
    else Some File
