use Rattle.std.proofs.Common.{ap, ◌∙◌, rules}
use Rattle.hj_event.specs.Sides.{ReaderState}
use Rattle.hj_event.proofs.LineLemmas.{none_left}
use Rattle.hj_event.proofs.ReaderLemmas.{fills_end, fills_failed, end_same, still_same}
use Rattle.hj_event.proofs.reader.Reader.fill.Goals as goal

pub returns-in-End-clause-fills : goal.returns-in-End-clause-fills
returns-in-End-clause-fills g c = fills_end c.args.self.now _ _ _ c.read.new.buf c.requires.in_step (search rules) c.requires.rest
    (end_same c.self.inside.schema.columns c.self.inside.slack c.self.inside.cutter c.self.inside.portion c.read.new.buf c.self.inside.taken c.self.inside.filled c.self.inside.ended c.self.inside.record_no c.self.inside.greatest c.args.self.now c.self.view_is c.requires.rest (search rules))

pub returns-in-Failed-clause-fills : goal.returns-in-Failed-clause-fills
returns-in-Failed-clause-fills g c = fills_failed c.args.self.now _ _ _ c.read.new.buf c.requires.in_step (search rules) c.requires.going c.requires.rest
    (still_same c.self.inside.schema.columns c.self.inside.slack c.self.inside.cutter c.self.inside.portion c.read.new.buf c.self.inside.taken c.self.inside.filled c.self.inside.ended c.self.inside.record_no c.self.inside.greatest c.args.self.now c.self.view_is c.requires.rest (search rules))

pub invariant_of-self-in-End : goal.invariant_of-self-in-End
invariant_of-self-in-End g c = none_left c.self.inside.cutter c.self.inside.cutter c.self.inside.portion c.read.new.buf c.self.inside.taken c.self.inside.filled c.self.inside.lines_end c.self.invariant (search rules) (search rules)
    (ap (λ (r : ReaderState). r.rest) c.self.view_is ∙ c.requires.rest)

pub invariant_of-self-in-Failed : goal.invariant_of-self-in-Failed
invariant_of-self-in-Failed g c = none_left c.self.inside.cutter c.self.inside.cutter c.self.inside.portion c.read.new.buf c.self.inside.taken c.self.inside.filled c.self.inside.lines_end c.self.invariant (search rules) (search rules)
    (ap (λ (r : ReaderState). r.rest) c.self.view_is ∙ c.requires.rest)
