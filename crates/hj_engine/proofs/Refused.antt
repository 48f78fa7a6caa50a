-- What a run leaves that wasn't made, where its result is told to be no run.
use Rattle.std.proofs.Common.{◌≡◌, Result, Ok, Err, OnErr, refl}

pub unless-made : {T E P : Type 0} (result : Result T E) → ((made : T) → result ≡ Ok made → ⊥) → OnErr result P → P
unless-made (Ok made) no_run kept = absurd (no_run made refl)
unless-made (Err error) no_run kept = kept
