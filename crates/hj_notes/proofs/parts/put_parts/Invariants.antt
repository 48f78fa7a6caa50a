use Rattle.std.proofs.Common.{◌≡◌, take}
use Rattle.std.specs.Io.KnownBytes.{Appends}
use Rattle.std.specs.List.{flat_map}
use Rattle.hj_notes.specs.Parts.{part_text}
use Rattle.hj_notes.proofs.parts.put_parts.Given as goal

abbrev pub invariant-loop-part : goal.invariant-loop-part
invariant-loop-part g l = record {
  written : Appends (g.N.Sink.told l.fn.notes) (g.N.Sink.told l.notes) (flat_map part_text (take l.part-index l.parts));
  refusals : g.N.Sink.refusals l.notes ≡ g.N.Sink.refusals l.fn.notes;
}
