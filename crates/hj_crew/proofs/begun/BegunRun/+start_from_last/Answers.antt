use Rattle.std.proofs.Common.{refl}
use Rattle.std.specs.Prelude.{vec_capacity}
use Rattle.hj_crew.proofs.Staying.{lent-stay}
use Rattle.hj_crew.proofs.Teaming.{appends-none_of, appends-with, as-long, comes-back, fewer-are_own, fewer-come_back, fewer-fit, none-left, room-behind, same-capacity, some-own}
use Rattle.hj_crew.proofs.begun.BegunRun.+start_from_last.Goals as goal

pub drive-requires-clause-stands : goal.drive-requires-clause-stands
drive-requires-clause-stands g t c = c.requires.stands

pub drive-requires-clause-few : goal.drive-requires-clause-few
drive-requires-clause-few g t c = c.requires.cores

pub returns-in_default : goal.returns-in_default
returns-in_default g t c =
    let begun = c.args.self.now in
    record {
      goes = c.drive.ensures.goes;
      own = lent-stay begun.own.items _ c.drive.new.own begun.own.len c.as_mut_slice.ensures.value c.drive.ensures.own begun.own.ok.0;
      own_capacity = refl {a = vec_capacity begun.own};
      none = none-left c.pop.new.self c.in_default.ensures.cases.1;
      teams_capacity = c.in_default.ensures.capacity;
      done = appends-none_of begun.teams begun.done.items c.in_default.ensures.cases.0;
      done_capacity = refl {a = vec_capacity begun.done};
    }

pub start_from_last-halt-requires-after_bounds : goal.start_from_last-halt-requires-after_bounds
start_from_last-halt-requires-after_bounds g t c κs within = record {
  stands = c.requires.stands;
  cores = c.requires.cores;
  enough = fewer-fit c.args.self.now.teams c.pop.new.self c.in-Some.ensures.cases _ c.requires.enough;
  few = c.requires.few;
  own =
      fewer-are_own c.args.self.now.teams c.pop.new.self c.in-Some.ensures.cases c.args.self.now.own c.keep_refused-child.new.own c.requires.own c.keep_refused-child.ensures.capacity
      (as-long c.keep_refused-child.result (λ h. h.promise.0.value) c.in-Some.team c.args.self.now.own.items c.keep_refused-child.new.own.items (c.keep_refused-child.ensures.given c.in-Some.team c.start-started.ensures.started c.start-started.ensures.refused));
  done = fewer-come_back c.args.self.now.teams c.pop.new.self c.in-Some.ensures.cases c.args.self.now.done c.requires.done;
}

pub take_back-back-requires : goal.take_back-back-requires
take_back-back-requires g t c =
    some-own c.keep_refused-child.result (λ h. h.promise.0.value) c.in-Some.team c.args.self.now.own.items c.keep_refused-child.new.own.items c.start_from_last-halt.new.self.own.items (c.keep_refused-child.ensures.given c.in-Some.team c.start-started.ensures.started c.start-started.ensures.refused) c.start_from_last-halt.ensures.own

pub push_reserved-requires : goal.push_reserved-requires
push_reserved-requires g t c =
    room-behind c.args.self.now.teams c.pop.new.self c.in-Some.ensures.cases c.args.self.now.done c.start_from_last-halt.new.self.done c.start_from_last-halt.ensures.done c.start_from_last-halt.ensures.done_capacity c.requires.done

pub returns : goal.returns
returns g t c =
    let given = c.start_from_last-halt.ensures in
    let back =
    comes-back c.keep_refused-child.result (λ h. h.promise.0.value) c.in-Some.team c.args.self.now.own.items c.keep_refused-child.new.own.items c.start_from_last-halt.new.self.own.items c.take_back-back.new.own.items c.take_back-back.result
    (c.keep_refused-child.ensures.given c.in-Some.team c.start-started.ensures.started c.start-started.ensures.refused) given.own c.take_back-back.ensures.back in
    record {
      goes = given.goes;
      own = back.1;
      own_capacity =
          same-capacity c.args.self.now.own c.keep_refused-child.new.own c.take_back-back.new.own c.keep_refused-child.ensures.capacity
          (same-capacity c.keep_refused-child.new.own c.start_from_last-halt.new.self.own c.take_back-back.new.own given.own_capacity c.take_back-back.ensures.capacity);
      none = given.none;
      teams_capacity = same-capacity c.args.self.now.teams c.pop.new.self c.start_from_last-halt.new.self.teams c.in-Some.ensures.capacity given.teams_capacity;
      done = appends-with c.args.self.now.teams.items c.pop.new.self.items c.args.self.now.done.items c.start_from_last-halt.new.self.done.items c.push_reserved.new.self.items c.in-Some.team c.take_back-back.result c.in-Some.ensures.items given.done back.0 c.push_reserved.ensures.items;
      done_capacity = same-capacity c.args.self.now.done c.start_from_last-halt.new.self.done c.push_reserved.new.self given.done_capacity c.push_reserved.ensures.capacity;
    }
