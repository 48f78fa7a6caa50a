-- The channel that a role holds is the one that was opened for it.
use Rattle.std.proofs.Common.{◌≡◌, Option, None, Some, sym, subst, true≢false}
use Rattle.std.specs.Prelude.{IsSome, IfSome, IsSomeAnd}

pub holds_opened : {C : Type 0} (given : Option C) (Fits : C → Type 0) (held : Option C) → IsSome given → IfSome given (λ channel. held ≡ Some channel) → IfSome given Fits → IsSomeAnd held Fits
holds_opened None Fits held some is fits = absurd (true≢false (sym some))
holds_opened {C = C} (Some channel) Fits held some is fits = subst (λ (o : Option C). IsSomeAnd o Fits) (sym is) fits
