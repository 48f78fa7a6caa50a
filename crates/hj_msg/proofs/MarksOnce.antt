-- Each core handles what is marked under a number at most once, and each row.
use Rattle.std.proofs.Common.{◌≡◌, ℕ, zero, suc, ◌+◌, ◌<◌, ◌≤◌, Bool, true, List, map, refl, ap, sym, arith, true≢false}
use Rattle.std.specs.List.{flat_map}
use Rattle.hj_base.specs.declared.numbers.Side.{Side}
use Rattle.hj_base.specs.declared.numbers.Side.TheVariants.{Left, Right}
use Rattle.hj_base.specs.Journals.{puts, takes}
use Rattle.hj_msg.specs.declared.message.Msg.{Msg}
use Rattle.hj_msg.specs.declared.message.Msg.TheVariants.{R, S, QuietL, QuietR}
use Rattle.hj_msg.specs.Turns.{Turn, all_of, handled}
use Rattle.hj_msg.specs.Run.{Run, IsRun}
use Rattle.hj_msg.proofs.Counts.{count, count-prefix}
use Rattle.hj_msg.proofs.Ends.{count-takes}
use Rattle.hj_msg.proofs.TurnPuts.{all_put, count-goes, end_on, mark_put_once, mark_sent, put_once}
use Rattle.hj_msg.proofs.Sides.{is_mark, is_row, opposite, goes_with, Reaches}
use Rattle.hj_msg.proofs.Directions.{before_core, before_first, before_next, low_of, nearer, none_taken, port_is, reached, taken_before}

-- what is marked goes the way of its side, and a row is
pub mark_goes : {P : Type 0} (side : Side) (number : ℕ) (m : Msg P) → is_mark side number m ≡ true → goes_with side m ≡ true
mark_goes Left number (R at row) e = refl
mark_goes Left number (QuietL at) e = refl
mark_goes Left number other e = absurd (true≢false (sym e))
mark_goes Right number (S at row) e = refl
mark_goes Right number (QuietR at) e = refl
mark_goes Right number other e = absurd (true≢false (sym e))

row_marked : {P : Type 0} (side : Side) (number : ℕ) (m : Msg P) → is_row side number m ≡ true → is_mark side number m ≡ true
row_marked Left number (R at row) e = e
row_marked Left number other e = absurd (true≢false (sym e))
row_marked Right number (S at row) e = e
row_marked Right number other e = absurd (true≢false (sym e))

pub row_goes : {P : Type 0} (side : Side) (number : ℕ) (m : Msg P) → is_row side number m ≡ true → goes_with side m ≡ true
row_goes side number m e = mark_goes side number m (row_marked side number m e)

-- the messages that turns handle were taken at the one end or at the other
pub takes_both : {P : Type 0} (side : Side) (p : Msg P → Bool) (turns : List (Turn P))
    → count p (takes (flat_map (end_on side) turns)) + count p (takes (flat_map (end_on (opposite side)) turns)) ≡ count p (map (λ turn. turn.message) turns)
takes_both Left p turns = omega (arith, count-takes p turns)
takes_both Right p turns = count-takes p turns

module _ {P : Type 0} (run : Run P) (is : IsRun run) where
  -- What a core handles came from the core before, or from the driver; and this handled it, or put it once.
  handled_came : (side : Side) (at k : ℕ) → k < run.cores
      → count (is_mark side at) (handled (is.turns k)) ≤ count (is_mark side at) (puts (before_core run is side k))
  handled_came side at k low =
      omega (
        arith,
        takes_both side (is_mark side at) (all_of (is.turns k)),
        count-goes (is_mark side at) (goes_with side) (mark_goes side at) (takes (flat_map (end_on side) (all_of (is.turns k)))),
        none_taken run is side k low,
        count-prefix (is_mark side at) (taken_before run is side k low),
      )

  once : (side : Side) (at others k : ℕ) → Reaches run.cores side others k → count (is_mark side at) (handled (is.turns k)) ≤ 1
  once side at zero k reaches =
      omega (
        arith,
        handled_came side at k (low_of run is side 0 k reaches),
        ap (λ journal. count (is_mark side at) (puts journal)) (before_first run is side k reaches),
        ap (λ journal. count (is_mark side at) (puts journal)) (port_is run is side),
        mark_put_once run is side at,
      )
  once side at (suc others) k reaches =
      let near = nearer run is side others k reaches in
      let low = low_of run is side others near.0 near.1 in
      omega (
        arith,
        handled_came side at k (low_of run is side (suc others) k reaches),
        ap (λ journal. count (is_mark side at) (puts journal)) (before_next run is side others near.0 k near.1 reaches),
        put_once side (is_mark side at) near.0 run.cores (mark_sent side at near.0 run.cores) (all_of (is.turns near.0)) (all_put (is.steps near.0 low)),
        once side at others near.0 near.1,
      )

  pub mark_once : (side : Side) (at k : ℕ) → k < run.cores → count (is_mark side at) (handled (is.turns k)) ≤ 1
  mark_once side at k low = let reaches = reached run is side k low in once side at reaches.0 k reaches.1

  pub row_once : (side : Side) (at k : ℕ) → k < run.cores → count (is_row side at) (handled (is.turns k)) ≤ 1
  row_once side at k low =
      omega (arith, count-goes (is_row side at) (is_mark side at) (row_marked side at) (handled (is.turns k)), mark_once side at k low)
