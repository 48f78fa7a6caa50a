-- What a writer that collects holds: what has reached its inner writer, what waits, and whether a write was refused.
use Rattle.std.specs.Prelude.{ℕ, Bool, List}
use Rattle.std.specs.Io.Buffered.{writer_buffer, writer_contents, writer_inner}
use Rattle.std.specs.declared.option.Option.{Option}
use Rattle.hj_net.specs.declared.collected.Collected.{Collected}

-- the writer to which it hands on
abbrev pub other_writer : {W : Type 0} → Collected W → W
other_writer c = writer_inner c.buffered

-- the bytes that were handed on, where the inner writer tells what it holds
abbrev pub handed_on : {W : Type 0} → (W → Option (List ℕ)) → Collected W → Option (List ℕ)
handed_on contents c = contents (other_writer c)

-- the bytes that wait
abbrev pub waiting : {W : Type 0} → Collected W → List ℕ
waiting c = writer_buffer c.buffered

-- all bytes that were taken: those that were handed on, then those that wait
abbrev pub taken : {W : Type 0} → (W → Option (List ℕ)) → Collected W → Option (List ℕ)
taken contents c = writer_contents contents c.buffered

-- some were refused
abbrev pub has_refused : {W : Type 0} → Collected W → Bool
has_refused c = c.is_refused
