use Rattle.std.proofs.Common.{◌≡◌, ℕ, ◌+◌, ◌*◌, ◌≤◌, ◌++◌}
use Rattle.std.specs.List.{flat_map}
use Rattle.hj_gen.specs.Streams.{draws_of, row_line, rows_of, stream_of}
use Rattle.hj_gen.proofs.two_streams.stream.Given as goal

-- the rows that are left make the text whole
abbrev pub invariant-loop-row : goal.invariant-loop-row
invariant-loop-row l = record {
  early : l.time ≤ 2 * l._row;
  rest : (more : ℕ) → l._row + more ≡ l.n → l.text.items ++ flat_map row_line (rows_of l.time l.keys (draws_of l.draws (2 * more))) ≡ stream_of l.n l.keys l.seed;
}
