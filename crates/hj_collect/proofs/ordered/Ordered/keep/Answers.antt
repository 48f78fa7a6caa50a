use Rattle.std.proofs.Common.{◌≡◌, List, [], ◌++◌, sym, ap, ◌∙◌, subst, append-nil}
use Rattle.std.specs.List.Sorted.{IsPermutation}
use Rattle.std.proofs.lemmas.List.Sorted.{IsPermutation-refl}
use Rattle.hj_msg.specs.declared.event.Pair.{Pair}
use Rattle.hj_msg.specs.declared.message.Report.{Report}
use Rattle.hj_msg.specs.Met.{pairs_of}
use Rattle.hj_collect.proofs.ordered.Ordered.keep.Goals as goal

kept-same : {P : Type 0} (kept : List (Pair P)) (report : Report P) → pairs_of report ≡ [] → IsPermutation (kept ++ pairs_of report) kept
kept-same {P} kept report none = subst (λ (l : List (Pair P)). IsPermutation l kept) (sym (ap (λ (l : List (Pair P)). kept ++ l) none ∙ append-nil kept)) (IsPermutation-refl kept)

pub returns-else-has_pairs-clause-ok : goal.returns-else-has_pairs-clause-ok
returns-else-has_pairs-clause-ok g c = kept-same c.args.self.now c.args.report.now (c.has_pairs.ensures c.if-has_pairs.false)
