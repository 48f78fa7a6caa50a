-- A serial run whose pairs that were due went to the drain.
use Rattle.std.proofs.Common.{◌≡◌, Bool, true, false, ◌∙◌}
use Rattle.hj_msg.specs.declared.drain.Drained.{Drained}
use Rattle.hj_msg.specs.declared.drain.Drained.TheVariants.{Kept, Refused}
use Rattle.hj_msg.specs.declared.event.Pair.{Pair}
use Rattle.hj_msg.specs.declared.feed.Given.{Given}
use Rattle.hj_msg.specs.declared.fin.Fin.TheVariants as fin
use Rattle.hj_msg.specs.Feed.{FeedState}
use Rattle.hj_chain.specs.declared.serial.Chooser.{Chooser}
use Rattle.hj_chain.specs.Chain.{Contents}
use Rattle.hj_chain.specs.Serial.{Choosing, RunsAll}
use Rattle.hj_chain.specs.Sweep.{Drains}
use Rattle.hj_chain.proofs.Draining.{join-stays}
use Rattle.hj_chain.proofs.SerialRuns.{Running, Settled, release-settles, running-ends-over, running-refused, running-release}

module _ {P J F D : Type 0} {gives : F → Given P → F → Type 0} {is_ready : F → Bool} {takes : D → Pair P → Drained → D → Type 0}
    {state : F → FeedState} {predicate : J → P → P → Bool} {rule : Chooser} {old : Contents P J} {from : F} {unfilled : D}
    {choosing : Choosing} {now : Contents P J} {to : F} {filled : D} {answer : Drained} {new : Contents P J} {more : D}
    (running : Running gives is_ready takes state predicate rule old from unfilled choosing now to filled)
    (drains : Drains takes predicate now filled answer new more) where
  pub drained-refused : answer ≡ Refused → RunsAll gives is_ready takes state predicate rule old from unfilled fin.Refused new to more
  drained-refused refused = record {
    runs = running-refused gives is_ready takes state predicate rule old from unfilled choosing now to filled running new more
        drains.others answer drains.releases refused;
    join = join-stays now new drains.others ∙ running.join;
    goes = drains.goes (state to) running.goes;
  }

  pub drained-on : answer ≡ Kept → Running gives is_ready takes state predicate rule old from unfilled choosing new to more
  drained-on kept =
      running-release gives is_ready takes state predicate rule old from unfilled choosing now to filled running new more
      drains.others answer drains.releases kept (drains.goes (state to) running.goes)

  pub drained-settles : answer ≡ Kept → new.state.over ≡ false → Settled new
  drained-settles kept going =
      release-settles gives is_ready takes state predicate rule old from unfilled choosing now to filled running new more
      drains.others answer drains.releases kept going

  pub drained-over : answer ≡ Kept → new.state.over ≡ true → RunsAll gives is_ready takes state predicate rule old from unfilled fin.Memory new to more
  drained-over kept over = record {
    runs = running-ends-over gives is_ready takes state predicate rule old from unfilled choosing new to more (drained-on kept) over;
    join = join-stays now new drains.others ∙ running.join;
    goes = drains.goes (state to) running.goes;
  }
