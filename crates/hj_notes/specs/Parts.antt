-- The text of a part of a note.
use Rattle.std.specs.Prelude.{ℕ, List}
use Rattle.std.specs.Fmt.{decimal, signed_decimal}
use Rattle.hj_notes.specs.declared.parts.NotePart.{NotePart}
use Rattle.hj_notes.specs.declared.parts.NotePart.TheVariants.{Words, Number, Signed}

abbrev pub part_text : NotePart → List ℕ
part_text (Words words) = words.now
part_text (Number number) = decimal number
part_text (Signed number) = signed_decimal number
