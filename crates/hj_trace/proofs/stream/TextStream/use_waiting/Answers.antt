use Rattle.std.proofs.Common.{◌≡◌, ℕ, List, drop, take, length, ap, sym, subst, ◌∙◌, ◌++◌}
use Rattle.std.proofs.lemmas.Bool.Decides.{Decides-eqb}
use Rattle.std.proofs.lemmas.List.{drop-drop}
use Rattle.std.proofs.lemmas.Slice.Eq.{starts_is}
use Rattle.hj_trace.specs.Stream.{TextStreamState}
use Rattle.hj_trace.proofs.Streams.{unused_part}
use Rattle.hj_trace.proofs.stream.TextStream.use_waiting.Goals as goal

pub returns-then-starts_with-clause-waits : goal.returns-then-starts_with-clause-waits
returns-then-starts_with-clause-waits c = λ _.
    subst (λ (text : List ℕ). text ≡ c.args.expected.now ++ drop (length c.args.expected.now) text)
    (unused_part c.self.inside.portion c.self.inside.used c.self.inside.filled c.self.invariant.0 ∙ ap (λ (stream : TextStreamState). stream.unused) c.self.view_is)
    ((starts_is Decides-eqb _ c.args.expected.now _ c.starts_with.ensures.value).0 c.if-starts_with.true)

pub returns-then-starts_with-clause-used : goal.returns-then-starts_with-clause-used
returns-then-starts_with-clause-used c = λ _.
    let with_unused : List ℕ → TextStreamState = λ unused. record { role = c.self.inside.role; unused = unused; ended = c.self.inside.ended } in
    ap with_unused (sym (drop-drop (length c.args.expected.now) c.self.inside.used (take c.self.inside.filled c.self.inside.portion)))
    ∙ ap (λ (stream : TextStreamState). record stream { unused = drop (length c.args.expected.now) stream.unused }) c.self.view_is
