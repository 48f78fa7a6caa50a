use Rattle.std.proofs.Common.{◌≡◌, ◌-◌, ◌++◌, ℕ, List, length, take, drop, sym, ap, ◌∙◌, subst, length-drop}
use Rattle.std.proofs.Math.Seq.{take-length}
use Rattle.hj_verify.specs.Output.{ComparesOn}
use Rattle.hj_verify.proofs.pairs.check_pair.Goals as goal

-- all that is behind a place
rest_of : (text : List ℕ) (start : ℕ) → take (length text - start) (drop start text) ≡ drop start text
rest_of text start = ap (λ (n : ℕ). take n (drop start text)) (sym (length-drop start text)) ∙ take-length (drop start text)

pub returns-in-Ok-clause-compares : goal.returns-in-Ok-clause-compares
returns-in-Ok-clause-compares g c = λ text start before agrees.
    let same = rest_of c.deref.result.now c.in-Ok.start ∙ ap (λ (l : List ℕ). drop c.in-Ok.start l) c.deref.ensures.value ∙ c.in-Ok.ensures.line in
    subst (λ (line : List ℕ). ComparesOn c.compare.result (text ++ line) start before c.compare.new.self (g.O.Outside.state c.compare.new.outside c.compare.new.self.stream.role)) same (c.compare.ensures.compares text start before agrees)
