use Rattle.std.proofs.Common.{◌≡◌, ◌<◌, ℕ, List, false, None, get_or, subst, arith, rules}
use Rattle.std.specs.List.{slice_get}
use Rattle.hj_record.specs.Blank.{is_blank}
use Rattle.hj_event.proofs.LineLemmas.{nothing_first, here_tells}
use Rattle.hj_event.proofs.reader.Reader.stands_at_line.Goals as goal

pub returns-in-None : goal.returns-in-None
returns-in-None c =
    let s = c.self.inside in
    let none = nothing_first s.cutter.piece (subst (λ (piece : List ℕ). None ≡ slice_get piece 0) c.piece.ensures.piece c.in-None.ensures.value) in
    let lt : s.taken < s.lines_end = omega arith in
    rw (← c.self.view_is)
    (λ has.
    let written : is_blank (get_or s.portion s.taken 0) ≡ false = search rules in
    here_tells s.schema.columns s.slack s.cutter s.portion s.taken s.filled s.ended s.record_no s.greatest none written s.lines_end c.self.invariant.lines lt (c.self.invariant.line_feed lt) (c.self.invariant.outside lt))
