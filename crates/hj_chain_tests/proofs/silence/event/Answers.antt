use Rattle.std.proofs.Common.{inl, inr, refl}
use Rattle.hj_chain_tests.proofs.SilentSide.{first_event, quiet_event, left_event}
use Rattle.hj_chain_tests.proofs.silence.event.Goals as goal

pub returns-then-no-eq0 : goal.returns-then-no-eq0
returns-then-no-eq0 c = first_event _ c.args.no c.if-no-eq0.true

pub returns-then-no-eq3 : goal.returns-then-no-eq3
returns-then-no-eq3 c = elim c.then-no-eq3.either [
  | inl third ↦ quiet_event _ c.args.no 3 third refl
  | inr later ↦ quiet_event _ c.args.no 6 later.1 refl
]

pub returns : goal.returns
returns c = left_event _ c.args.no c.if-no-eq0.false c.if-no-eq3.false c.if-no-eq6.false
