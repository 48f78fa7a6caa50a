use Rattle.std.proofs.Common.{◌≡◌, ◌+◌, ◌<◌, ℕ, ℤ, false, List, Ok, Some, of_z, sym, subst, to_z, w64, arith, rules}
use Rattle.hj_value.specs.declared.field.Field.{Field}
use Rattle.hj_value.specs.Row.{time_of}
use Rattle.hj_event.specs.declared.stop.ReadStep.TheVariants as read_step
use Rattle.hj_event.specs.Reads.{reading}
use Rattle.hj_event.specs.Rows.{with_time}
use Rattle.hj_event.specs.Sides.{ReaderState}
use Rattle.hj_event.specs.Taking.{Advances, IsNextLine, is_late}
use Rattle.hj_event.proofs.StraightLines.{straight_advances, straight_lines}
use Rattle.hj_event.proofs.reader.Reader.take_line.Goals as goal

pub returns : goal.returns
returns c =
    let s = c.self.inside in
    let row = c.read_line.new.row in
    let used = c.in_ok-used.used in
    let same : c.in_ok-shared.shared ≡ row = search rules in
    let some : 0 < used = omega (arith, c.if-used-eq0.false) in
    let next : c.in_ok-next.next ≡ s.record_no + 1 = search rules in
    let line : IsNextLine row used (reading s.schema.columns s.slack s.cutter s.portion s.taken s.filled s.ended s.record_no s.greatest) = subst (IsNextLine row used) (sym c.self.view_is) (c.in_ok-used.ensures some) in
    let none : is_late s.slack s.greatest (time_of row) ≡ false = search rules in
    let time : to_z w64 (of_z w64 c.later-greatest.result) ≡ with_time s.greatest (time_of row) = search rules in
    let taken = straight_advances s.schema.columns s.slack s.record_no s.greatest s.ended s.portion s.taken s.filled s.cutter c.skip_piece.new.self row used line none c.skip_piece.ensures.takes c.skip_piece.ensures.leads in
    subst (λ (t : ℤ). Advances (Ok (read_step.Row c.in_ok-shared.shared)) c.args.self.now (reading s.schema.columns s.slack c.skip_piece.new.self s.portion (s.taken + used) s.filled s.ended c.in_ok-next.next (Some t))) (sym time)
    (subst (λ (n : ℕ). Advances (Ok (read_step.Row c.in_ok-shared.shared)) c.args.self.now (reading s.schema.columns s.slack c.skip_piece.new.self s.portion (s.taken + used) s.filled s.ended n (Some (with_time s.greatest (time_of row))))) (sym next)
    (subst (λ (r : List Field). Advances (Ok (read_step.Row r)) c.args.self.now (reading s.schema.columns s.slack c.skip_piece.new.self s.portion (s.taken + used) s.filled s.ended (s.record_no + 1) (Some (with_time s.greatest (time_of row))))) (sym same)
    (subst (λ (side : ReaderState). Advances (Ok (read_step.Row row)) side (reading s.schema.columns s.slack c.skip_piece.new.self s.portion (s.taken + used) s.filled s.ended (s.record_no + 1) (Some (with_time s.greatest (time_of row))))) c.self.view_is taken)))

pub invariant_of-self-2 : goal.invariant_of-self-2
invariant_of-self-2 c =
    let s = c.self.inside in
    let row = c.read_line.new.row in
    let used = c.in_ok-used.used in
    let line : IsNextLine row used (reading s.schema.columns s.slack s.cutter s.portion s.taken s.filled s.ended s.record_no s.greatest) = subst (IsNextLine row used) (sym c.self.view_is) (c.in_ok-used.ensures (omega (arith, c.if-used-eq0.false))) in
    straight_lines s.schema.columns s.slack s.record_no s.greatest s.ended s.portion s.taken s.filled s.cutter c.skip_piece.new.self row used s.lines_end line c.self.invariant c.skip_piece.ensures.takes
