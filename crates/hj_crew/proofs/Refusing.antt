-- What a run leaves as it was that was refused.
use Rattle.std.proofs.Common.{◌≡◌, Result, Ok, Err, OnErr, ap, ◌∙◌}

-- Where the feed and the outlet are as they were, so is what stands in the outlet.
pub refused-within : {X E F O D : Type 0} (made : Result X E) (inside : O → D) (from to : F) (begun now : O) (unfilled : D) → inside begun ≡ unfilled → OnErr made ((to ≡ from) × (now ≡ begun)) → OnErr made ((to ≡ from) × (inside now ≡ unfilled))
refused-within (Ok ran) inside from to begun now unfilled drain same = tt
refused-within (Err error) inside from to begun now unfilled drain (same_feed, same_outlet) = (same_feed, ap inside same_outlet ∙ drain)
