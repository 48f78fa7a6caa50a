-- What the steps of a schedule leave of a chain, one behind another.
use Rattle.std.proofs.Common.{◌≡◌, ◌≢◌, ℕ, suc, ◌+◌, ◌<◌, Bool, cond, List, [], ◌∷◌, ◌++◌, length, drop, get_or, drop-cons, refl, ap, ap₂, sym, ◌∙◌, subst, arith, append-nil, append_assoc, true, false, Some, None, Option}
use Rattle.std.proofs.Math.Seq.{drop-length}
use Rattle.std.specs.Bool.{MatchBool}
use Rattle.hj_msg.specs.declared.event.Event.{Event}
use Rattle.hj_msg.specs.declared.feed.Given.{Given}
use Rattle.hj_msg.specs.declared.feed.Given.TheVariants as given
use Rattle.hj_msg.specs.Feed.{GoesOver, event_in}
use Rattle.hj_chain.specs.declared.actor.Actor.{Actor}
use Rattle.hj_chain.specs.declared.actor.Actor.TheVariants.{Admit, PortLeft, PortRight, Core, Collect}
use Rattle.hj_chain.specs.declared.actor.Stepped.{Stepped}
use Rattle.hj_chain.specs.declared.actor.Stepped.TheVariants.{Did, NotEnabled, Memory}
use Rattle.hj_chain.specs.Chain.{ChainState, Contents, FeedAnswer}
use Rattle.hj_chain.specs.Reached.{StandsFor, asked}
use Rattle.hj_chain.specs.declared.actor.NotNow.{NotNow}
use Rattle.hj_chain.specs.Steps.{Gathers, RunsSchedule, RunsOver, ended, did, passed_over, stopped, Steps, asks}
use Rattle.hj_chain.proofs.FewSteps.{few_steps}
use Rattle.hj_chain.proofs.Goings.{Sound, stands-did, stands-stays, next-of, next_known}

-- the feed, asked in a step and then in the steps behind it
module _ {P F : Type 0} (gives : F → Given P → F → Type 0) (from mid to : F) (later : List (Event P)) (rest : GoesOver gives mid later to) where
  same_feed : mid ≡ from → GoesOver gives from later to
  same_feed same = subst (λ (f : F). GoesOver gives f later to) same rest

  one_further : (ready : Bool) (answer : Given P) → MatchBool ready (gives from answer mid) (mid ≡ from) → (cond ready (Some answer) None ≡ Some given.Stop → (later ≡ []) × (to ≡ mid))
      → GoesOver gives from (event_in (cond ready (Some answer) None) ++ later) to
  one_further true (given.Event event) feed quiet = record { stops = rest.stops; answers = (mid, feed, rest.answers) }
  one_further true given.Stop feed quiet =
      let none = quiet refl in
      subst (λ (es : List (Event P)). GoesOver gives from es to) (sym none.0) (record { stops = 1; answers = (mid, feed, none.1) })
  one_further false answer feed quiet = same_feed feed

  goes_further : (actor : Actor) (next : Option (Given P)) (answer : FeedAnswer P) → MatchBool (asks actor next answer.ready) (gives from answer.given mid) (mid ≡ from)
      → (next_known actor next answer ≡ Some given.Stop → (later ≡ []) × (to ≡ mid)) → GoesOver gives from (asked actor next answer ++ later) to
  goes_further Admit None answer feed quiet = one_further true answer.given feed quiet
  goes_further Admit (Some (given.Event event)) answer feed quiet = one_further answer.ready answer.given feed quiet
  goes_further Admit (Some given.Stop) answer feed quiet = same_feed feed
  goes_further PortLeft next answer feed quiet = same_feed feed
  goes_further PortRight next answer feed quiet = same_feed feed
  goes_further (Core place end) next answer feed quiet = same_feed feed
  goes_further (Collect place) next answer feed quiet = same_feed feed

-- where no event is to come, a step asks for none
module _ {P F : Type 0} (gives : F → Given P → F → Type 0) (from to : F) where
  none_asked : (actor : Actor) (next : Option (Given P)) (answer : FeedAnswer P) → MatchBool (asks actor next answer.ready) (gives from answer.given to) (to ≡ from) → next ≡ Some given.Stop → (asked actor next answer ≡ []) × (to ≡ from)
  none_asked Admit None answer feed stop = absurd (cc)
  none_asked Admit (Some (given.Event event)) answer feed stop = absurd (cc)
  none_asked Admit (Some given.Stop) answer feed stop = (refl, feed)
  none_asked PortLeft next answer feed stop = (refl, feed)
  none_asked PortRight next answer feed stop = (refl, feed)
  none_asked (Core place end) next answer feed stop = (refl, feed)
  none_asked (Collect place) next answer feed stop = (refl, feed)

stop_stays : {P : Type 0} (actor : Actor) (next : Option (Given P)) (answer : FeedAnswer P) → next ≡ Some given.Stop → next_known actor next answer ≡ Some given.Stop
stop_stays Admit None answer stop = absurd (cc)
stop_stays Admit (Some (given.Event event)) answer stop = absurd (cc)
stop_stays Admit (Some given.Stop) answer stop = stop
stop_stays PortLeft next answer stop = stop
stop_stays PortRight next answer stop = stop
stop_stays (Core place end) next answer stop = stop
stop_stays (Collect place) next answer stop = stop

-- What a chain stands for behind the steps of a schedule. Where no event was to come, the feed wasn't asked.
record Further {P J F : Type 0} (gives : F → Given P → F → Type 0) (predicate : J → P → P → Bool) (schedule : List Actor) (events : List (Event P)) (count : ℕ) (next : Option (Given P)) (from : F) (chain : Contents P J) (to : F) : Type 0 where
  taken : List (Event P)
  feed : GoesOver gives from taken to
  stands : StandsFor predicate chain schedule (events ++ taken) count
  quiet : next ≡ Some given.Stop → (taken ≡ []) × (to ≡ from)

-- The actors of a schedule were asked, one behind another: those of `done` made a step.
pub data Asks {P J F : Type 0} (gives : F → Given P → F → Type 0) (is_ready : F → Bool) (predicate : J → P → P → Bool) : List Actor → Contents P J → F → List Actor → Stepped → Contents P J → F → Type 0 where
  all-asked : (chain : Contents P J) (feed : F) → Asks gives is_ready predicate [] chain feed [] Did chain feed
  did-step : (actor : Actor) (later : List Actor) (old mid : Contents P J) (from between : F) (done : List Actor) (result : Stepped) (new : Contents P J) (to : F)
      → Sound predicate old → Steps gives is_ready (predicate old.join) actor old.state from Did mid.state between → Gathers actor old Did mid → mid.join ≡ old.join → Asks gives is_ready predicate later mid between done result new to
      → Asks gives is_ready predicate (actor ∷ later) old from (actor ∷ done) result new to
  no-step : (actor : Actor) (later : List Actor) (why : NotNow) (old mid : Contents P J) (from between : F) (done : List Actor) (result : Stepped) (new : Contents P J) (to : F)
      → Steps gives is_ready (predicate old.join) actor old.state from (NotEnabled why) mid.state between → Gathers actor old (NotEnabled why) mid → mid.join ≡ old.join → Asks gives is_ready predicate later mid between done result new to
      → Asks gives is_ready predicate (actor ∷ later) old from done result new to
  no-memory : (actor : Actor) (later : List Actor) (old new : Contents P J) (from to : F)
      → Steps gives is_ready (predicate old.join) actor old.state from Memory new.state to → Gathers actor old Memory new → new.join ≡ old.join → Asks gives is_ready predicate (actor ∷ later) old from [] Memory new to

module _ {P J F : Type 0} (predicate : J → P → P → Bool) (gives : F → Given P → F → Type 0) (is_ready : F → Bool) where
  -- the steps
  runs-over : {schedule : List Actor} {old : Contents P J} {from : F} {done : List Actor} {result : Stepped} {new : Contents P J} {to : F} → Asks gives is_ready predicate schedule old from done result new to
      → RunsOver gives is_ready (predicate old.join) schedule old.state from done result new.state to
  runs-over (all-asked chain feed) = ended chain.state feed
  runs-over (did-step actor later old mid from between done result new to sound step gathers same more) =
      did actor later old.state mid.state from between done result new.state to step (subst (λ (j : J). RunsOver gives is_ready (predicate j) later mid.state between done result new.state to) same (runs-over more))
  runs-over (no-step actor later why old mid from between done result new to step gathers same more) =
      passed_over actor later why old.state mid.state from between done result new.state to step (subst (λ (j : J). RunsOver gives is_ready (predicate j) later mid.state between done result new.state to) same (runs-over more))
  runs-over (no-memory actor later old new from to step gathers same) = stopped actor later old.state new.state from to step

  nothing_taken : (before : List Actor) (events : List (Event P)) (count : ℕ) (next : Option (Given P)) (chain : Contents P J) (from to : F) → to ≡ from → StandsFor predicate chain before events count
      → Further gives predicate (before ++ []) events count next from chain to
  nothing_taken before events count next chain from to same stands = record {
    taken = [];
    feed = record { stops = 0; answers = same };
    stands =
        subst (λ (es : List (Event P)). StandsFor predicate chain (before ++ []) es count) (sym (append-nil events))
        (subst (λ (done : List Actor). StandsFor predicate chain done events count) (sym (append-nil before)) stands);
    quiet = λ stop. (refl, same);
  }

  runs-further : {schedule : List Actor} {old : Contents P J} {from : F} {done : List Actor} {result : Stepped} {new : Contents P J} {to : F} → Asks gives is_ready predicate schedule old from done result new to
      → (before : List Actor) (events : List (Event P)) (count : ℕ) → StandsFor predicate old before events count → Further gives predicate (before ++ done) events count old.state.next from new to
  runs-further (all-asked chain feed) before events count stands = nothing_taken before events count chain.state.next chain feed feed refl stands
  runs-further (did-step actor later old mid from between done result new to sound step gathers same more) before events count stands =
      let here : List (Event P) = asked actor old.state.next step.answer in
      let rest : Further gives predicate ((before ++ actor ∷ []) ++ done) (events ++ here) count mid.state.next between new to =
      runs-further more (before ++ actor ∷ []) (events ++ here) count (stands-did predicate old mid actor step.answer same sound before events count stands step.chain gathers) in
      let next_is : mid.state.next ≡ next_known actor old.state.next step.answer = ap (λ (s : ChainState P). s.next) step.chain.1 ∙ next-of (predicate old.join) old.state step.answer actor in
      record {
        taken = here ++ rest.taken;
        feed = goes_further gives from between to rest.taken rest.feed actor old.state.next step.answer step.feed (λ stop. rest.quiet (next_is ∙ stop));
        stands =
            subst (λ (es : List (Event P)). StandsFor predicate new (before ++ actor ∷ done) es count) (append_assoc events here rest.taken)
            (subst (λ (all : List Actor). StandsFor predicate new all ((events ++ here) ++ rest.taken) count) (append_assoc before (actor ∷ []) done) rest.stands);
        quiet = λ stop.
            let none = none_asked gives from between actor old.state.next step.answer step.feed stop in
            let later = rest.quiet (next_is ∙ stop_stays actor old.state.next step.answer stop) in
            (ap₂ (λ (xs ys : List (Event P)). xs ++ ys) none.0 later.0, later.1 ∙ none.1);
      }
  runs-further (no-step actor later why old mid from between done result new to step gathers same more) before events count stands =
      let rest : Further gives predicate (before ++ done) events count mid.state.next between new to =
      runs-further more before events count (stands-stays predicate old mid actor step.answer same (NotEnabled why) before events count stands step.chain gathers (λ same. cc)) in
      record {
        taken = rest.taken;
        feed = subst (λ (f : F). GoesOver gives f rest.taken to) step.feed rest.feed;
        stands = rest.stands;
        quiet = λ stop. let later = rest.quiet (ap (λ (s : ChainState P). s.next) step.chain.1 ∙ stop) in (later.0, later.1 ∙ step.feed);
      }
  runs-further (no-memory actor later old new from to step gathers same) before events count stands =
      nothing_taken before events count old.state.next new from to step.feed (stands-stays predicate old new actor step.answer same Memory before events count stands step.chain gathers (λ same. cc))

  ran : {schedule : List Actor} {old : Contents P J} {from : F} {result : Stepped} {new : Contents P J} {to : F} → (done : List Actor) × Asks gives is_ready predicate schedule old from done result new to → RunsSchedule gives is_ready predicate schedule old from result new to
  ran {new = new} (done, more) = record {
    done = done;
    steps = runs-over more;
    stands = λ before events count stands. let found = runs-further more before events count stands in record { taken = found.taken; feed = found.feed; stands = found.stands; few = few_steps (predicate new.join) (length new.state.cores) new.state.driver.flight found.stands.reached };
  }

-- From here the actors of `later` are what is left of those of the schedule.
pub record Leads {P J F : Type 0} (gives : F → Given P → F → Type 0) (is_ready : F → Bool) (predicate : J → P → P → Bool) (schedule later : List Actor) (old now : Contents P J) (from at : F) : Type 0 where
  pub whole : (done : List Actor) (result : Stepped) (new : Contents P J) (to : F) → Asks gives is_ready predicate later now at done result new to → (all : List Actor) × Asks gives is_ready predicate schedule old from all result new to

module _ {P J F : Type 0} (gives : F → Given P → F → Type 0) (is_ready : F → Bool) (predicate : J → P → P → Bool) (schedule : List Actor) (old : Contents P J) (from : F) where
  module _ (i : ℕ) (now : Contents P J) (at : F) (leads : Leads gives is_ready predicate schedule (drop i schedule) old now from at) where
    next_first : (d : Actor) → i < length schedule → Leads gives is_ready predicate schedule (get_or schedule i d ∷ drop (suc i) schedule) old now from at
    next_first d low = subst (λ (later : List Actor). Leads gives is_ready predicate schedule later old now from at) (drop-cons schedule i d low) leads

    module _ (mid : Contents P J) (between : F) (sound : Sound predicate now) (same : mid.join ≡ now.join) where
      leads-over : (later : List Actor) (actor : Actor) (result : Stepped) → Steps gives is_ready (predicate now.join) actor now.state at result mid.state between → Gathers actor now result mid → result ≢ Memory
          → Leads gives is_ready predicate schedule (actor ∷ later) old now from at → Leads gives is_ready predicate schedule later old mid from between
      leads-over later actor Did step gathers other leads =
          record { whole = λ done result new to more. leads.whole (actor ∷ done) result new to (did-step actor later now mid at between done result new to sound step gathers same more) }
      leads-over later actor (NotEnabled why) step gathers other leads =
          record { whole = λ done result new to more. leads.whole done result new to (no-step actor later why now mid at between done result new to step gathers same more) }
      leads-over later actor Memory step gathers other leads = absurd (other refl)

      pub leads-next : (d : Actor) (result : Stepped) (j : ℕ) → i < length schedule → Steps gives is_ready (predicate now.join) (get_or schedule i d) now.state at result mid.state between → Gathers (get_or schedule i d) now result mid
          → result ≢ Memory → j ≡ i + 1 → Leads gives is_ready predicate schedule (drop j schedule) old mid from between
      leads-next d result j low step gathers other next =
          let j_is : suc i ≡ j = omega (arith, next) in
          subst (λ (k : ℕ). Leads gives is_ready predicate schedule (drop k schedule) old mid from between) j_is
          (leads-over (drop (suc i) schedule) (get_or schedule i d) result step gathers other (next_first d low))

      pub ran-stopped : (d : Actor) (result : Stepped) → i < length schedule → Steps gives is_ready (predicate now.join) (get_or schedule i d) now.state at result mid.state between → Gathers (get_or schedule i d) now result mid → result ≡ Memory
          → RunsSchedule gives is_ready predicate schedule old from Memory mid between
      ran-stopped d result low step gathers memory =
          ran predicate gives is_ready ((next_first d low).whole [] Memory mid between
          (no-memory (get_or schedule i d) (drop (suc i) schedule) now mid at between (subst (λ (r : Stepped). Steps gives is_ready (predicate now.join) (get_or schedule i d) now.state at r mid.state between) memory step)
          (subst (λ (r : Stepped). Gathers (get_or schedule i d) now r mid) memory gathers) same))

    pub ran-over : i ≡ length schedule → RunsSchedule gives is_ready predicate schedule old from Did now at
    ran-over all =
        let over : Leads gives is_ready predicate schedule [] old now from at = subst (λ (later : List Actor). Leads gives is_ready predicate schedule later old now from at) (ap (λ (k : ℕ). drop k schedule) all ∙ drop-length schedule) leads in
        ran predicate gives is_ready (over.whole [] Did now at (all-asked now at))
