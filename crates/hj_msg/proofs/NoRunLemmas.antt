-- Runs with one rule broken are no runs.
use Rattle.std.proofs.Common.{◌≡◌, ℕ, List, [], ◌∷◌, map, get_or, true≢false, refl, ap, arith, lit<, lit≤, None}
use Rattle.hj_base.specs.declared.numbers.Side.{Side}
use Rattle.hj_base.specs.declared.numbers.Side.TheVariants.{Left, Right}
use Rattle.hj_base.specs.Journals.{put, taken}
use Rattle.hj_msg.specs.declared.message.Msg.{Msg}
use Rattle.hj_msg.specs.declared.message.Msg.TheVariants.{R, AckS, EndS, CloseL, S, EndR, CloseR}
use Rattle.hj_msg.specs.Messages.{is_EndS}
use Rattle.hj_msg.specs.Core.{empty_state}
use Rattle.hj_msg.specs.Run.{IsRun}
use Rattle.hj_msg.specs.Examples.{equal, event, unacknowledged, early_report, overfull, crossed, KeepsAllElse}
use Rattle.hj_msg.proofs.Moments.{strictly_increasing}
use Rattle.hj_msg.proofs.CoreTurns.{Received, whole_turns, are_whole, right_begins, reports_begin}

abbrev r : ℕ → Side → Msg ℕ → Received ℕ
r number end message = record { number = number; end = end; message = message }

-- what core 0 took, but for the last message
abbrev front : List (Received ℕ)
front = r 2 Left (R (event 0) 7) ∷ r 5 Right (S (event 1) 7) ∷ r 6 Right (EndR (event 0)) ∷ r 14 Left CloseL ∷ []

pub not_unacknowledged : ¬ (IsRun unacknowledged)
not_unacknowledged is =
    let begins = right_begins (is.steps 0 (lit< tt)) front (r 16 Right CloseR) refl in
    -- the third entry is the put of EndS 1, and would be that of AckS 1
    true≢false (ap (λ journal. is_EndS 1 (get_or journal 2 (put 0 CloseL)).message) begins.is)

pub not_early : ¬ (IsRun early_report)
not_early is =
    let begins = reports_begin (is.steps 0 (lit< tt)) front (r 16 Right CloseR) refl in
    -- the second report stands under turn 2, and would stand under turn 5
    let same : ◌≡◌ {A = ℕ} 2 5 = ap (λ journal. get_or (map (λ entry. entry.turn) journal) 1 0) begins.is in
    omega arith

pub not_overfull : ¬ (IsRun overfull)
not_overfull is =
    let room = (is.links 0 (lit≤ tt)).rightwards.room in
    omega arith

pub not_crossed : ¬ (IsRun crossed)
not_crossed is = (is.links 1 (lit≤ tt)).in_time 2 1
    (record {
      before = taken 2 (EndR (event 0)) ∷ taken 3 (S (event 1) 7) ∷ [];
      after = put 3 (AckS (event 1)) ∷ put 3 (EndS (event 1)) ∷ put 4 (R (event 0) 7) ∷ [];
      moment = refl;
      took = lit< tt;
      yet_to_put = lit≤ tt;
      put = lit< tt;
    })
    (record {
      before = taken 5 (AckS (event 1)) ∷ taken 6 (EndS (event 1)) ∷ taken 7 (R (event 0) 7) ∷ [];
      after = put 7 (EndR (event 0)) ∷ put 8 (S (event 1) 7) ∷ [];
      moment = refl;
      took = lit< tt;
      yet_to_put = lit≤ tt;
      put = lit< tt;
    })

abbrev crossed_0 : List (Received ℕ)
crossed_0 = r 2 Right (EndR (event 0)) ∷ r 3 Right (S (event 1) 7) ∷ r 4 Left (R (event 0) 7) ∷ []

abbrev crossed_1 : List (Received ℕ)
crossed_1 = r 5 Left (AckS (event 1)) ∷ r 6 Left (EndS (event 1)) ∷ r 7 Left (R (event 0) 7) ∷ r 8 Right (S (event 1) 7) ∷ []

pub keeps_all_else : KeepsAllElse
keeps_all_else = record {
  core_0 = record { whole = whole_turns equal 0 2 empty_state crossed_0; cut = None };
  core_1 = record { whole = whole_turns equal 1 2 empty_state crossed_1; cut = None };
  steps_0 = record { rising = strictly_increasing 2 (3 ∷ 4 ∷ []) (omega arith); whole = are_whole equal 0 2 empty_state crossed_0; cut = tt; left = refl; right = refl; reports = refl };
  steps_1 = record { rising = strictly_increasing 5 (6 ∷ 7 ∷ 8 ∷ []) (omega arith); whole = are_whole equal 1 2 empty_state crossed_1; cut = tt; left = refl; right = refl; reports = refl };
  rightwards = record { taken = record { rest = []; is = refl }; room = lit≤ tt };
  leftwards = record { taken = record { rest = []; is = refl }; room = lit≤ tt };
}
