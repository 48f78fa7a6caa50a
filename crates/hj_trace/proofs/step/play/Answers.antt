use Rattle.std.proofs.Common.{◌≡◌, ◌++◌, rules}
use Rattle.hj_trace.specs.StepAction.{action_in}
use Rattle.hj_trace.specs.Line.{front_text}
use Rattle.hj_trace.proofs.Reported.{answers_of, whole_text}
use Rattle.hj_trace.proofs.step.play.Goals as goal

pub returns-in-Ok-clause-plays : goal.returns-in-Ok-clause-plays
returns-in-Ok-clause-plays g c =
    let front : c.push_front.new.text.items ≡ c.args.line.now.items ++ front_text c.cores.result (action_in c.in-Some.next) = search rules in (
      c.in-Did.ensures.step,
      whole_text g.J.Join.predicate g.F.Feed.gives g.F.Feed.ready c.args.actor c.args.chain.now c.step.new.self c.args.feed.now c.step.new.feed (g.F.Feed.state c.args.feed.now) c.requires (action_in c.in-Some.next) (c.in-Some.ensures) c.in-Did.ensures.step c.waiting-waited.result c.waiting-waited.ensures _ c.added.ensures c.cores.result c.cores.ensures.count c.args.line.now.items c.push_front.new.text.items c.push_reported.new.text.items front c.in-Ok.ensures,
    )

pub returns-in-Ok-clause-asked : goal.returns-in-Ok-clause-asked
returns-in-Ok-clause-asked g c =
    let step = c.in-Did.ensures.step in
    answers_of g.F.Feed.gives _ step.answer.given c.args.feed.now c.step.new.feed step.feed

pub returns-in-Err-clause-asked : goal.returns-in-Err-clause-asked
returns-in-Err-clause-asked g c =
    let step = c.in-Did.ensures.step in
    answers_of g.F.Feed.gives _ step.answer.given c.args.feed.now c.step.new.feed step.feed
