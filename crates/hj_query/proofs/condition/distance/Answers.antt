use Rattle.std.proofs.Common.{ap, codes, refl, sym}
use Rattle.std.proofs.lemmas.Result.{err_from_is_err_and}
use Rattle.hj_query.specs.declared.fault.QueryFault.TheVariants as faults
use Rattle.hj_query.specs.Faults.{distant_sum, distant_types, no_distance, no_of}
use Rattle.hj_query.specs.Grammar.{distant}
use Rattle.hj_query.proofs.Lists.{word_no_end}
use Rattle.hj_query.proofs.condition.distance.Goals as goal

pub skip-requires : goal.skip-requires
skip-requires c = word_no_end (codes "within") c.args.cursor.now c.requires

pub returns-in_err-distance-clause-read : goal.returns-in_err-distance-clause-read
returns-in_err-distance-clause-read c =
    λ here is at. let p = err_from_is_err_and c.from_residual.result c.from_residual.ensures.1 in
    rw (p.1, p.2) (λ _. no_distance c.args.left _ _ is (record { found = c.requires; left = c.skip.ensures.behind }) c.in_err-distance.ensures.read.0 c.in_err-distance.ensures.read.1)

pub returns-in_err-word-clause-read : goal.returns-in_err-word-clause-read
returns-in_err-word-clause-read c =
    λ here is at. let p = err_from_is_err_and c.from_residual-in_err-word.result c.from_residual-in_err-word.ensures.1 in
    rw (p.1, p.2) (λ _. no_of c.in_ok-distance.distance c.args.left _ _ _ is (record { found = c.requires; left = c.skip.ensures.behind }) c.in_ok-distance.ensures.read.0 c.in_err-word.ensures.read.0 c.in_err-word.ensures.read.1)

pub returns-in_err-right-clause-read : goal.returns-in_err-right-clause-read
returns-in_err-right-clause-read c =
    λ here is at. let p = err_from_is_err_and c.from_residual-in_err-right.result c.from_residual-in_err-right.ensures.1 in
    rw (p.1, p.2) (λ other. distant_sum c.in_ok-distance.distance c.args.left _ _ _ _ is (record { found = c.requires; left = c.skip.ensures.behind }) c.in_ok-distance.ensures.read.0 c.in_ok-word.ensures.read (c.in_err-right.ensures.read other))

pub returns-then-not-can_subtract-clause-read : goal.returns-then-not-can_subtract-clause-read
returns-then-not-can_subtract-clause-read c =
    λ here is at _. distant_types c.in_ok-distance.distance c.args.left c.in_ok-right.right _ _ _ _ _ is (record { found = c.requires; left = c.skip.ensures.behind }) c.in_ok-distance.ensures.read.0 c.in_ok-word.ensures.read c.in_ok-right.ensures.read.0 c.in_ok-right.ensures.read.1 (sym c.if-not-can_subtract.ensures) (ap faults.Types (sym at))

pub returns-clause-read : goal.returns-clause-read
returns-clause-read c =
    λ here is at. distant c.in_ok-distance.distance c.args.left c.in_ok-right.right _ _ _ _ is (record { found = c.requires; left = c.skip.ensures.behind }) c.in_ok-distance.ensures.read.0 c.in_ok-word.ensures.read c.in_ok-right.ensures.read.0 c.in_ok-right.ensures.read.1 (sym c.if-not-can_subtract.ensures) refl
