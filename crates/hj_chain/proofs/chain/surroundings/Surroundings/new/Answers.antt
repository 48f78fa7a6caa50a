use Rattle.std.proofs.Common.{ℕ, ◌+◌, replicate, ap, ◌∙◌}
use Rattle.hj_msg.specs.declared.message.Msg.{Msg}
use Rattle.hj_chain.specs.Queues.{no_messages}
use Rattle.hj_chain.specs.Chain.{capacity}
use Rattle.hj_chain.specs.Reports.{no_reports}
use Rattle.hj_chain.proofs.chain.surroundings.Surroundings.new.Goals as goal

pub returns-clause-links : goal.returns-clause-links
returns-clause-links g c = c.in_ok-links.ensures ∙ ap (λ (flight : ℕ). replicate (c.args.cores + 1) (no_messages {M = Msg g.row.P.Denot} (capacity flight))) c.from.ensures

pub returns-clause-reports : goal.returns-clause-reports
returns-clause-reports g c = c.in_ok-reports.ensures ∙ ap (λ (flight : ℕ). no_reports {P = g.row.P.Denot} c.args.cores (capacity flight)) c.from.ensures
