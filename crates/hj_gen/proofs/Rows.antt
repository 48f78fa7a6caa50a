-- One more row of a stream.
use Rattle.std.proofs.Common.{◌≡◌, ℕ, suc, ◌+◌, ◌*◌, ◌%◌, List, ◌++◌, ◌∙◌, append_assoc, arith}
use Rattle.std.specs.List.{flat_map}
use Rattle.hj_base.specs.Lcg.{next, drawn}
use Rattle.hj_gen.specs.Streams.{draws_of, row_line, rows_of}

two_more : (more : ℕ) → 2 * suc more ≡ suc (suc (2 * more))
two_more more = omega arith

-- what two draws add to the text, where the rows that were left made it whole
pub rows_step : (time held keys more first growth second choice : ℕ) (before after whole : List ℕ)
    → growth ≡ drawn first → first ≡ next held → choice ≡ drawn second → second ≡ next first
    → after ≡ before ++ row_line (record { time = time + growth % 3; key = choice % keys })
    → before ++ flat_map row_line (rows_of time keys (draws_of held (2 * suc more))) ≡ whole
    → after ++ flat_map row_line (rows_of (time + growth % 3) keys (draws_of second (2 * more))) ≡ whole
rows_step time held keys more first growth second choice before after whole drew held_first drew_second held_second grown left =
    rw (grown, drew, drew_second, held_second, held_first) (append_assoc before _ _ ∙ (rw two_more at left))
