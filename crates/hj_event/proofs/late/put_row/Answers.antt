use Rattle.std.proofs.Common.{◌∷◌, heap_items}
use Rattle.std.proofs.lemmas.List.Sorted.{IsPermutation-append_left}
use Rattle.hj_event.specs.Days.{late_on}
use Rattle.hj_event.proofs.DayLemmas.{on_ok}
use Rattle.hj_event.proofs.late.put_row.Goals as goal

pub returns-then-len-lt-FEW-clause-ok : goal.returns-then-len-lt-FEW-clause-ok
returns-then-len-lt-FEW-clause-ok c =
    on_ok c.put_among.result _ _ (λ is. IsPermutation-append_left (late_on c.args.days.now) (c.args.late ∷ heap_items c.args.others.now) (heap_items c.put_among.new.others) is) c.put_among.ensures.ok
