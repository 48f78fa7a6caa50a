use Rattle.std.proofs.Common.{◌≡◌, ℕ, ◌+◌, List, [], length, replicate, ap, ◌∙◌, arith, rules}
use Rattle.hj_msg.specs.declared.message.Msg.{Msg}
use Rattle.hj_msg.specs.declared.message.Report.{Report}
use Rattle.hj_driver.specs.Driver.{DriverState}
use Rattle.hj_collect.specs.Collector.{nothing_taken}
use Rattle.hj_chain.specs.Queues.{no_messages}
use Rattle.hj_chain.specs.Chain.{capacity}
use Rattle.hj_chain.specs.Reports.{ReportQueues}
use Rattle.hj_chain.proofs.Starting.{goes-first, is_empty_chain}
use Rattle.hj_chain.proofs.chain.Chain.of_cores.Goals as goal

pub invariant_of-result : goal.invariant_of-result
invariant_of-result g c =
    let around = c.in_ok-around.ensures in
    record {
      placed = c.requires.placed;
      few = c.requires.cores.1;
      flight = omega (arith, ap (λ (d : DriverState). d.flight) around.driver, c.requires.flight.0);
      capacity = omega (arith, ap (λ (r : ReportQueues g.row.P.Denot). r.capacity) around.reports, ap (λ (d : DriverState). d.flight) around.driver);
    }

pub returns-clause-goes : goal.returns-clause-goes
returns-clause-goes g c =
    let around = c.in_ok-around.ensures in
    let n = length c.args.cores.items in
    let all : c.len-count.result ≡ n = omega (arith, c.len-count.ensures, c.args.cores.ok.0) in
    goes-first g.J.Join.predicate _ n c.args.flight c.args.join c.next.result (g.F.Feed.state c.args.feed.now) (g.F.Feed.state c.next.new.self) c.requires.cores.0 c.requires.fresh c.next.ensures.answers
    (is_empty_chain c.args.join n c.args.flight c.next.result _ _ _ _ _ _ around.driver
    (around.links ∙ ap (λ (count : ℕ). replicate (count + 1) (no_messages {M = Msg g.row.P.Denot} (capacity c.args.flight))) all)
    c.requires.empty
    (ap (λ (r : ReportQueues g.row.P.Denot). r.queues) around.reports ∙ ap (λ (count : ℕ). replicate {A = List (Report g.row.P.Denot)} count []) all)
    (around.collector ∙ ap nothing_taken all) c.new-kept.ensures)

pub returns-clause-begins : goal.returns-clause-begins
returns-clause-begins g c = (c.next.result, search rules, c.next.ensures.gives)
