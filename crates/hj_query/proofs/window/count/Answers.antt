use Rattle.std.proofs.Common.{◌≡◌, ℕ, ◌<◌, ◌⊎◌, ap, arith, inl, inr}
use Rattle.std.specs.Prelude.{◌≢◌}
use Rattle.hj_query.specs.declared.fault.QueryFault.TheVariants as faults
use Rattle.hj_query.specs.Faults.{IsOutside, out_of_range}
use Rattle.hj_query.proofs.window.count.Goals as goal

outside : (most count : ℕ) → (count ≡ 0) ⊎ ((count ≢ 0) × (most < count)) → IsOutside most count
outside most count (inl none) some = absurd (omega arith)
outside most count (inr more) some = more.1

pub returns-then-count-eq0 : goal.returns-then-count-eq0
returns-then-count-eq0 c =
    out_of_range c.in_ok-count.count _ c.in_ok-count.ensures.read.0 (outside c.args.most c.in_ok-count.count c.then-count-eq0.either) (ap faults.WindowRange c.place-place.ensures)
