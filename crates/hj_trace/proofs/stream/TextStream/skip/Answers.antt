use Rattle.std.proofs.Common.{ℕ, List, drop, take, ap, sym, ◌∙◌}
use Rattle.std.proofs.lemmas.List.{drop-drop}
use Rattle.hj_trace.specs.Stream.{TextStreamState}
use Rattle.hj_trace.proofs.stream.TextStream.skip.Goals as goal

pub returns : goal.returns
returns c =
    let with_unused : List ℕ → TextStreamState = λ unused. record { role = c.self.inside.role; unused = unused; ended = c.self.inside.ended } in
    ap with_unused (sym (drop-drop 1 c.self.inside.used (take c.self.inside.filled c.self.inside.portion)))
    ∙ ap (λ (stream : TextStreamState). record stream { unused = drop 1 stream.unused }) c.self.view_is
