use Rattle.std.proofs.Common.{◌≡◌, ◌<◌, ℕ, FitsSigned, Some, ap, length, refl, rules, subst, w64, ◌∙◌}
use Rattle.std.specs.VecDeque.{deque_len}
use Rattle.std.proofs.lemmas.Int.{to_z-of_z}
use Rattle.hj_event.proofs.TimedLemmas.{first_timed}
use Rattle.hj_event.proofs.waiting.first_time.Goals as goal

pub returns : goal.returns
returns c =
    let rows = c.args.rows.now.items in
    let first = c.in_ok-first.first.now in
    let fits : FitsSigned w64 first.time = search rules in
    let count : deque_len c.args.rows.now ≡ length rows = search rules in
    ap Some (to_z-of_z w64 first.time fits)
    ∙ first_timed rows first c.requires (subst (λ (k : ℕ). 0 < k) count (c.in_ok-first.ensures.variant.0 refl)) c.in_ok-first.ensures.lookup
