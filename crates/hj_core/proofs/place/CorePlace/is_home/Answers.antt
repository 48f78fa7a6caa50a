use Rattle.std.proofs.Common.{◌%◌, ℕ, bit_and, nat_eq, ap, ap₂, sym, ◌∙◌}
use Rattle.std.proofs.lemmas.Nat.{and_mask}
use Rattle.hj_core.specs.Homes.{Among}
use Rattle.hj_core.proofs.place.CorePlace.is_home.Goals as goal

pub returns : goal.returns
returns c =
    let number : ℕ = c.args.no.0 in
    let mask = c.self.invariant.mask c.if-self-eq0.false in
    ap₂ nat_eq (ap (bit_and number) mask.2 ∙ and_mask number mask.0 ∙ ap (λ (n : ℕ). number % n) (sym mask.1 ∙ ap (λ (p : Among). p.cores) c.self.view_is))
    (c.from-place.ensures ∙ ap (λ (p : Among). p.place) c.self.view_is)
