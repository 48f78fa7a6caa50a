use Rattle.std.proofs.Common.{Option, Some, sym, ◌∙◌, ap, refl}
use Rattle.std.proofs.lemmas.List.{length-map}
use Rattle.hj_msg.specs.declared.feed.Given.{Given}
use Rattle.hj_driver.specs.declared.answers.Admitted.TheVariants.{Send}
use Rattle.hj_chain.specs.Chain.{Contents, FeedAnswer}
use Rattle.hj_chain.specs.Steps.{asks}
use Rattle.hj_chain.specs.declared.actor.Actor.TheVariants.{Admit}
use Rattle.hj_chain.proofs.Admitting.{AnswersFrom, going_from, admitting-log, admitting-waits, admitting-free, admitting-did, asking-did, asks-event, asks-first}
use Rattle.hj_chain.proofs.Advancing.{goes-unasked, same-join, same-kept, steps-unasked, unheard}
use Rattle.hj_chain.proofs.Opening.{in_links, room_port}
use Rattle.hj_chain.proofs.Goings.{goes-did}
use Rattle.hj_chain.proofs.chain.Chain.admit.Goals as goal

pub returns-in_default-clause-step : goal.returns-in_default-clause-step
returns-in_default-clause-step g c = record {
  answer = record { ready = g.F.Feed.ready c.args.feed.now; given = c.next.result };
  ready = refl;
  chain = asking-did g.J.Join.predicate _ _ c.self.view_is (going_from g.J.Join.predicate _ _ c.requires.goes c.requires.going) c.in_default.is (record { ready = g.F.Feed.ready c.args.feed.now; given = c.next.result });
  feed = asks-first g.F.Feed.gives c.args.self.now.state.next (record { ready = g.F.Feed.ready c.args.feed.now; given = c.next.result }) c.args.feed.now c.next.new.self (ap (λ (k : Contents g.row.P.Denot g.row.J.Denot). k.state.next) (sym c.self.view_is) ∙ c.in_default.is) c.next.ensures.gives;
}

pub returns-in_default-clause-goes : goal.returns-in_default-clause-goes
returns-in_default-clause-goes g c =
    let answer : FeedAnswer g.row.P.Denot = record { ready = g.F.Feed.ready c.args.feed.now; given = c.next.result } in
    goes-did g.J.Join.predicate c.args.self.now _ Admit (ap (λ (k : Contents g.row.P.Denot g.row.J.Denot). k.join) c.self.view_is) (g.F.Feed.state c.args.feed.now) (g.F.Feed.state c.next.new.self) c.requires.goes answer
    (asking-did g.J.Join.predicate _ _ c.self.view_is (going_from g.J.Join.predicate _ _ c.requires.goes c.requires.going) c.in_default.is answer)
    (ap (λ (k : Contents g.row.P.Denot g.row.J.Denot). k.collector) c.self.view_is, ap (λ (k : Contents g.row.P.Denot g.row.J.Denot). k.kept) c.self.view_is)
    (asks-first AnswersFrom c.args.self.now.state.next answer (g.F.Feed.state c.args.feed.now) (g.F.Feed.state c.next.new.self) (ap (λ (k : Contents g.row.P.Denot g.row.J.Denot). k.state.next) (sym c.self.view_is) ∙ c.in_default.is) c.next.ensures.answers)

pub returns-in_default-given-clause-step : goal.returns-in_default-given-clause-step
returns-in_default-given-clause-step g c =
    steps-unasked g.F.Feed.gives g.F.Feed.ready (g.J.Join.predicate c.args.self.now.join) Admit c.args.self.now.state c.args.feed.now c.close.result c.close.new.self.state
    (λ ready. ap (λ (k : Contents g.row.P.Denot g.row.J.Denot). asks Admit k.state.next ready) (sym c.self.view_is) ∙ ap (λ (o : Option (Given g.row.P.Denot)). asks Admit o ready) (c.in-Some.is ∙ ap (λ (x : Given g.row.P.Denot). Some x) c.in_default-given.is)) c.close.ensures.step

pub returns-in_default-given-clause-goes : goal.returns-in_default-given-clause-goes
returns-in_default-given-clause-goes g c =
    goes-unasked g.J.Join.predicate c.args.self.now c.close.new.self Admit (same-join c.args.self.now c.close.new.self c.close.ensures.others) (g.F.Feed.state c.args.feed.now) c.requires.goes c.close.result
    (λ ready. ap (λ (k : Contents g.row.P.Denot g.row.J.Denot). asks Admit k.state.next ready) (sym c.self.view_is) ∙ ap (λ (o : Option (Given g.row.P.Denot)). asks Admit o ready) (c.in-Some.is ∙ ap (λ (x : Given g.row.P.Denot). Some x) c.in_default-given.is)) c.close.ensures.step
    (same-kept c.args.self.now c.close.new.self c.close.ensures.others)

pub returns-in-Some-waits-clause-step : goal.returns-in-Some-waits-clause-step
returns-in-Some-waits-clause-step g c = record {
  answer = unheard (g.F.Feed.ready c.args.feed.now);
  ready = refl;
  chain =
      admitting-waits g.J.Join.predicate _ _ c.self.view_is (going_from g.J.Join.predicate _ _ c.requires.goes c.requires.going) c.in-Event.event (c.in-Some.is ∙ ap (λ (x : Given g.row.P.Denot). Some x) c.in-Event.is) (unheard (g.F.Feed.ready c.args.feed.now)) c.in-Some-waits.why c.waits.result c.args.self.now.state c.waits.ensures.log
      c.in-Some-waits.is (ap (λ (k : Contents g.row.P.Denot g.row.J.Denot). k.state) (sym c.self.view_is));
  feed = refl;
}

pub admit_now-port-requires-clause-log : goal.admit_now-port-requires-clause-log
admit_now-port-requires-clause-log g c =
    admitting-log g.J.Join.predicate _ _ c.self.view_is (going_from g.J.Join.predicate _ _ c.requires.goes c.requires.going) c.in-Event-given.event (sym c.replace.ensures.value ∙ c.in-Some-replace.is ∙ ap (λ (x : Given g.row.P.Denot). Some x) c.in-Event-given.is)

pub admit_now-port-requires-clause-few : goal.admit_now-port-requires-clause-few
admit_now-port-requires-clause-few g c = c.waits.ensures.few

pub admit_now-port-requires-clause-free : goal.admit_now-port-requires-clause-free
admit_now-port-requires-clause-free g c =
    admitting-free g.J.Join.predicate _ _ c.self.view_is (going_from g.J.Join.predicate _ _ c.requires.goes c.requires.going) c.in-Event-given.event (sym c.replace.ensures.value ∙ c.in-Some-replace.is ∙ ap (λ (x : Given g.row.P.Denot). Some x) c.in-Event-given.is)
    c.in-Event.event c.waits.result (c.in-Some.is ∙ ap (λ (x : Given g.row.P.Denot). Some x) c.in-Event.is) c.waits.ensures.log c.in_default-waits.is

pub put_in-requires-clause-in_range : goal.put_in-requires-clause-in_range
put_in-requires-clause-in_range g c =
    in_links g.J.Join.predicate _ _ c.self.view_is (going_from g.J.Join.predicate _ _ c.requires.goes c.requires.going) c.len.result (c.len.ensures ∙ c.self.inside.cores.ok.0 ∙ sym (length-map c.self.inside.cores.items _))

pub put_in-requires-clause-room : goal.put_in-requires-clause-room
put_in-requires-clause-room g c =
    room_port g.J.Join.predicate _ _ c.self.view_is (going_from g.J.Join.predicate _ _ c.requires.goes c.requires.going) c.admit_now-port.result.0 c.len.result (c.len.ensures ∙ c.self.inside.cores.ok.0 ∙ sym (length-map c.self.inside.cores.items _))

pub returns-clause-step : goal.returns-clause-step
returns-clause-step g c =
    let told = c.next_if_there.ensures in
    record {
      answer = told.0;
      ready = told.2.ready;
      chain =
          admitting-did g.J.Join.predicate _ _ c.self.view_is (going_from g.J.Join.predicate _ _ c.requires.goes c.requires.going) c.in-Event-given.event (sym c.replace.ensures.value ∙ c.in-Some-replace.is ∙ ap (λ (x : Given g.row.P.Denot). Some x) c.in-Event-given.is)
          c.in-Event.event c.waits.result (c.in-Some.is ∙ ap (λ (x : Given g.row.P.Denot). Some x) c.in-Event.is) c.waits.ensures.log c.in_default-waits.is told.0 c.admit_now-port.new.self (Send c.admit_now-port.result.0 c.admit_now-port.result.1) c.admit_now-port.result.0 c.admit_now-port.result.1 c.len.result c.put_in.new.self c.replace.new.dest c.next_if_there.result c.admit_now-port.ensures.answer refl c.admit_now-port.ensures.sent
          c.admit_now-port.ensures.flight (c.len.ensures ∙ c.self.inside.cores.ok.0 ∙ sym (length-map c.self.inside.cores.items _)) c.put_in.ensures c.replace.ensures.after told.1;
      feed = asks-event g.F.Feed.gives c.args.self.now.state.next told.0 c.args.feed.now c.next_if_there.new.feed c.in-Event.event (ap (λ (k : Contents g.row.P.Denot g.row.J.Denot). k.state.next) (sym c.self.view_is) ∙ (c.in-Some.is ∙ ap (λ (x : Given g.row.P.Denot). Some x) c.in-Event.is)) told.2.gave;
    }

pub returns-clause-goes : goal.returns-clause-goes
returns-clause-goes g c =
    let told = c.next_if_there.ensures in
    goes-did g.J.Join.predicate c.args.self.now _ Admit (ap (λ (k : Contents g.row.P.Denot g.row.J.Denot). k.join) c.self.view_is) (g.F.Feed.state c.args.feed.now) (g.F.Feed.state c.next_if_there.new.feed) c.requires.goes told.0
    (admitting-did g.J.Join.predicate _ _ c.self.view_is (going_from g.J.Join.predicate _ _ c.requires.goes c.requires.going) c.in-Event-given.event (sym c.replace.ensures.value ∙ c.in-Some-replace.is ∙ ap (λ (x : Given g.row.P.Denot). Some x) c.in-Event-given.is)
    c.in-Event.event c.waits.result (c.in-Some.is ∙ ap (λ (x : Given g.row.P.Denot). Some x) c.in-Event.is) c.waits.ensures.log c.in_default-waits.is told.0 c.admit_now-port.new.self (Send c.admit_now-port.result.0 c.admit_now-port.result.1) c.admit_now-port.result.0 c.admit_now-port.result.1 c.len.result c.put_in.new.self c.replace.new.dest c.next_if_there.result c.admit_now-port.ensures.answer refl c.admit_now-port.ensures.sent
    c.admit_now-port.ensures.flight (c.len.ensures ∙ c.self.inside.cores.ok.0 ∙ sym (length-map c.self.inside.cores.items _)) c.put_in.ensures c.replace.ensures.after told.1)
    (ap (λ (k : Contents g.row.P.Denot g.row.J.Denot). k.collector) c.self.view_is, ap (λ (k : Contents g.row.P.Denot g.row.J.Denot). k.kept) c.self.view_is)
    (asks-event AnswersFrom c.args.self.now.state.next told.0 (g.F.Feed.state c.args.feed.now) (g.F.Feed.state c.next_if_there.new.feed) c.in-Event.event (ap (λ (k : Contents g.row.P.Denot g.row.J.Denot). k.state.next) (sym c.self.view_is) ∙ (c.in-Some.is ∙ ap (λ (x : Given g.row.P.Denot). Some x) c.in-Event.is)) told.2.says)
