-- Worked examples of what the names of streams spell.
use Rattle.std.proofs.Common.{◌≡◌, codes, None, Some, refl}
use Rattle.hj_net.specs.declared.address.Address.TheVariants.{File, Port}
use Rattle.hj_net.specs.Address.{address_of}

-- ---- ports: digits of a number from 1 to 65535

pub a_port : address_of (codes "listen:47811") ≡ Some (Port 47811)
a_port = refl

pub first_port : address_of (codes "listen:1") ≡ Some (Port 1)
first_port = refl

pub last_port : address_of (codes "listen:65535") ≡ Some (Port 65535)
last_port = refl

pub zeros_in_front : address_of (codes "listen:080") ≡ Some (Port 80)
zeros_in_front = refl

-- ---- files: names that begin with anything else

pub in_a_folder : address_of (codes "./listen:80") ≡ Some File
in_a_folder = refl

pub no_colon : address_of (codes "listen") ≡ Some File
no_colon = refl

pub no_name : address_of (codes "") ≡ Some File
no_name = refl

-- ---- nothing

pub past_the_last : address_of (codes "listen:65536") ≡ None
past_the_last = refl

pub zero : address_of (codes "listen:0") ≡ None
zero = refl

pub no_digits : address_of (codes "listen:") ≡ None
no_digits = refl

pub a_sign : address_of (codes "listen:+80") ≡ None
a_sign = refl

pub a_blank : address_of (codes "listen:80 ") ≡ None
a_blank = refl
