use Rattle.std.proofs.Common.{◌≡◌, ℕ, List, None, subst, sym, ◌∙◌, arith, rules}
use Rattle.std.specs.List.{slice_get}
use Rattle.hj_event.proofs.LineLemmas.{nothing_first, piece_tells, line_tells, end_tells}
use Rattle.hj_event.proofs.reader.Reader.has_line.Goals as goal

pub returns-then-not-is_blank : goal.returns-then-not-is_blank
returns-then-not-is_blank c =
    rw (← c.self.view_is)
    (λ has. piece_tells c.self.inside.schema.columns c.self.inside.slack c.self.inside.cutter c.self.inside.portion c.self.inside.taken c.self.inside.filled c.self.inside.ended c.self.inside.record_no c.self.inside.greatest c.in-Some.first (search rules) (search rules) (c.has_end.ensures.0 has))

pub returns-then-self-first : goal.returns-then-self-first
returns-then-self-first c =
    rw (← c.self.view_is)
    (λ _. line_tells c.self.inside.schema.columns c.self.inside.slack c.self.inside.cutter c.self.inside.portion c.self.inside.taken c.self.inside.filled c.self.inside.ended c.self.inside.record_no c.self.inside.greatest c.in-Some-first_written.first
    (nothing_first c.self.inside.cutter.piece (subst (λ (piece : List ℕ). None ≡ slice_get piece 0) c.piece.ensures.piece c.in-None.ensures.value)) (sym c.first_written.ensures ∙ c.in-Some-first_written.is)
    c.self.inside.lines_end c.self.invariant.lines c.if-self-first.true (c.self.invariant.line_feed (omega arith)) (c.self.invariant.outside (omega arith)))

pub returns-else-self-first : goal.returns-else-self-first
returns-else-self-first c =
    rw (← c.self.view_is)
    (λ has. end_tells c.self.inside.schema.columns c.self.inside.slack c.self.inside.cutter c.self.inside.portion c.self.inside.taken c.self.inside.filled c.self.inside.ended c.self.inside.record_no c.self.inside.greatest c.in-Some-first_written.first
    (nothing_first c.self.inside.cutter.piece (subst (λ (piece : List ℕ). None ≡ slice_get piece 0) c.piece.ensures.piece c.in-None.ensures.value)) (sym c.first_written.ensures ∙ c.in-Some-first_written.is)
    (c.has_end-else-self-first.ensures.0 has))
