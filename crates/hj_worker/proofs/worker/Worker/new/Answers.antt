use Rattle.std.proofs.Common.{[], refl, arith}
use Rattle.hj_worker.proofs.worker.Worker.new.Goals as goal

pub invariant_of-result : goal.invariant_of-result
invariant_of-result g c = record {
  turns = [];
  are = record {
    whole = tt;
    rising = λ k less. absurd (omega arith);
    below = λ k d less. absurd (omega arith);
    reached = c.requires.core;
    left = c.requires.left;
    right = c.requires.right;
    reports = c.requires.reports;
  };
  counted = refl;
}
