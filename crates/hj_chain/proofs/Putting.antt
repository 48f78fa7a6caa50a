-- A message that is put, if there is one.
use Rattle.std.proofs.Common.{◌≡◌, ℕ, List, [], ◌++◌, Some, None, Option, refl, sym, ap, append-nil}
use Rattle.std.specs.Option.{option_to_list}
use Rattle.hj_chain.specs.Queues.{Queues}
use Rattle.hj_chain.specs.Links.{changed_at, put_rightwards, put_leftwards}
use Rattle.hj_chain.specs.Reports.{ReportQueues}
use Rattle.hj_msg.specs.declared.message.Report.{Report}
use Rattle.hj_chain.proofs.Places.{changed_at-same}

pub nothing_right : {M : Type 0} (links : List (Queues M)) (at : ℕ) → links ≡ changed_at at (put_rightwards []) links
nothing_right {M} links at = sym (changed_at-same at (put_rightwards []) links (λ (q : Queues M). ap (λ (ms : List M). record q { rightwards = ms }) (append-nil q.rightwards)))

pub nothing_left : {M : Type 0} (links : List (Queues M)) (at : ℕ) → links ≡ changed_at at (put_leftwards []) links
nothing_left {M} links at = sym (changed_at-same at (put_leftwards []) links (λ (q : Queues M). ap (λ (ms : List M). record q { leftwards = ms }) (append-nil q.leftwards)))

pub no_report : {P : Type 0} (reports : ReportQueues P) (at : ℕ) (report : Option (Report P)) → ((x : Report P) → report ≡ Some x → ⊥) → reports ≡ record reports { queues = changed_at at (λ queue. queue ++ option_to_list report) reports.queues }
no_report {P} reports at None none = ap (λ (qs : List (List (Report P))). record reports { queues = qs }) (sym (changed_at-same at (λ queue. queue ++ []) reports.queues (λ queue. append-nil queue)))
no_report reports at (Some x) none = absurd (none x refl)
