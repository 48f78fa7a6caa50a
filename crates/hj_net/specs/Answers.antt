-- What std's `read` answers where this one does: a count, 0 at the end, or an error, whatever it is.
use Rattle.std.specs.Prelude.{ℕ, Ok, Err, Result}
use Rattle.hj_base.specs.declared.outside.Got.{Got}
use Rattle.hj_base.specs.declared.outside.Got.TheVariants.{Bytes, End, Failed}

abbrev pub as_read : Got → Result ℕ (Unit {0})
as_read (Bytes m) = Ok m
as_read End = Ok 0
as_read Failed = Err tt
