use Rattle.std.proofs.Common.{◌≡◌, ◌-◌, ◌<◌, ℕ, FitsSigned, Some, ap, get_or, length, refl, rules, subst, w64, ◌∙◌}
use Rattle.std.specs.VecDeque.{deque_len}
use Rattle.std.proofs.lemmas.Int.{to_z-of_z}
use Rattle.hj_event.proofs.TimedLemmas.{last_timed}
use Rattle.hj_event.proofs.waiting.last_time.Goals as goal

pub returns : goal.returns
returns c =
    let rows = c.args.rows.now.items in
    let last = c.in_ok-last.last.now in
    let fits : FitsSigned w64 last.time = search rules in
    let count : deque_len c.args.rows.now ≡ length rows = search rules in
    ap Some (to_z-of_z w64 last.time fits)
    ∙ last_timed rows last c.requires (subst (λ (k : ℕ). 0 < k) count (c.in_ok-last.ensures.variant.0 refl)) (c.in_ok-last.ensures.lookup ∙ ap (λ (k : ℕ). get_or rows (k - 1) last) count)
