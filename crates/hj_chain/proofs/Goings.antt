-- What a chain stands for, behind a step.
use Rattle.std.proofs.Common.{◌≡◌, ◌≢◌, ℕ, ◌<◌, Bool, true, false, cond, List, [], ◌∷◌, ◌++◌, length, take, Some, None, Option, refl, ap, ap₂, sym, ◌∙◌, subst, arith, append-nil}
use Rattle.std.specs.Bool.{MatchBool}
use Rattle.std.specs.Option.{option_map, IfSome}
use Rattle.std.specs.List.Sorted.{IsPermutation}
use Rattle.std.proofs.lemmas.List.{length-map}
use Rattle.hj_base.specs.declared.numbers.CoreNo.{CoreNo}
use Rattle.hj_base.specs.declared.numbers.Side.{Side}
use Rattle.hj_base.specs.declared.numbers.Side.TheVariants.{Left, Right}
use Rattle.hj_base.specs.Journals.{IsPrefix}
use Rattle.hj_msg.specs.declared.event.Event.{Event}
use Rattle.hj_msg.specs.declared.feed.Given.{Given}
use Rattle.hj_msg.specs.declared.feed.Given.TheVariants as given
use Rattle.hj_msg.specs.declared.message.Msg.{Msg}
use Rattle.hj_msg.specs.declared.message.Report.{Report}
use Rattle.hj_msg.specs.declared.event.Pair.{Pair}
use Rattle.hj_msg.specs.Driver.{receipt}
use Rattle.hj_msg.specs.Run.{Run, IsRun}
use Rattle.hj_msg.specs.Met.{AreReportsOf, met, pairs_of}
use Rattle.hj_msg.specs.Punctuation.{mark_of}
use Rattle.hj_msg.specs.Emission.{emitted}
use Rattle.hj_collect.specs.Collector.{CollectorState, after_report, least_mark}
use Rattle.hj_collect.specs.StandsFor.{with_report}
use Rattle.hj_collect.specs.StandsFor as collect
use Rattle.hj_msg.specs.Event.{IsWellFormed}
use Rattle.hj_msg.specs.Feed.{FeedState, Answers, GoesOver, numbering_of, event_in, is_stop}
use Rattle.hj_chain.specs.declared.actor.Actor.{Actor}
use Rattle.hj_chain.specs.declared.actor.Actor.TheVariants.{Admit, PortLeft, PortRight, Core, Collect}
use Rattle.hj_chain.specs.declared.actor.NotNow.{NotNow}
use Rattle.hj_chain.specs.declared.actor.NotNow.TheVariants.{Over}
use Rattle.hj_chain.specs.declared.actor.Stepped.{Stepped}
use Rattle.hj_chain.specs.declared.actor.Stepped.TheVariants.{Did, NotEnabled, Memory}
use Rattle.hj_chain.specs.Links.{at_port, incoming}
use Rattle.hj_chain.specs.Reports.{queue_at}
use Rattle.hj_chain.specs.Chain.{FeedAnswer, ChainState, Contents, Action, action_of, after, after_action, cause, cause_of, drives, handles, collects, first, if_there, next_action}
use Rattle.hj_chain.specs.Reached.{Reached, steps, StandsFor, asked, history_of, run_of, collected_of}
use Rattle.hj_chain.specs.Steps.{GoesWith, Gathers, HasRoom, StepsTo, asks}
use Rattle.hj_chain.proofs.Shape.{Shape, shape}
use Rattle.hj_chain.proofs.Room.{has_room}
use Rattle.hj_chain.proofs.Projection.{is_run, all_collected}
use Rattle.hj_chain.proofs.Doing.{in_range, non_empty}
use Rattle.hj_chain.proofs.Gathered.{one-each, told, told-recorded}
use Rattle.hj_chain.proofs.Accounts.{Accounts, Grows, accounts-more, emitted-more, grows}
use Rattle.hj_msg.proofs.Feeding.{well-push, numbering-push}

-- steps that lead to a state, with what they took of the cores' reports
pub record Leads {P : Type 0} (matches : P → P → Bool) (n most : ℕ) (schedule : List Actor) (events : List (Event P)) (state : ChainState P) (lists : List (List (Report P))) : Type 0 where
  pub reached : Reached matches n most schedule events state
  pub are : collected_of reached ≡ lists

-- what a chain stands for, with what was taken of the cores' reports
pub record Stood {P J : Type 0} (predicate : J → P → P → Bool) (chain : Contents P J) (schedule : List Actor) (events : List (Event P)) (given : ℕ) (lists : List (List (Report P))) : Type 0 where
  pub stands : StandsFor predicate chain schedule events given
  pub are : collected_of stands.reached ≡ lists

-- a chain that steps lead to stands for them
pub stood-state : {P J : Type 0} (predicate : J → P → P → Bool) (chain : Contents P J) (n most : ℕ) (schedule : List Actor) (events : List (Event P)) (given : ℕ) (lists : List (List (Report P)))
    → Leads (predicate chain.join) n most schedule events chain.state lists → Accounts chain.collector chain.kept given lists → Stood predicate chain schedule events given lists
stood-state {P} predicate chain n most schedule events given lists leads accounts =
    let state = chain.state in
    let matches = predicate chain.join in
    let s : Shape n most state = shape leads.reached in
    let there : Leads matches (length state.cores) state.driver.flight schedule events (record state { over = false }) lists =
    subst (λ (c : ℕ). Leads matches c state.driver.flight schedule events (record state { over = false }) lists) (sym s.cores)
    (subst (λ (f : ℕ). Leads matches n f schedule events (record state { over = false }) lists) (sym s.flight) (subst (λ (b : Bool). Leads matches n most schedule events (record state { over = b }) lists) s.going leads)) in
    let all : Accounts chain.collector chain.kept given (collected_of there.reached) = subst (Accounts chain.collector chain.kept given) (sym there.are) accounts in
    record { stands = record { reached = there.reached; collector = all.taken; within = all.within; released = all.released }; are = there.are }

pub stands-state : {P J : Type 0} (predicate : J → P → P → Bool) (chain : Contents P J) (n most : ℕ) (schedule : List Actor) (events : List (Event P)) (given : ℕ) (lists : List (List (Report P)))
    → Leads (predicate chain.join) n most schedule events chain.state lists → Accounts chain.collector chain.kept given lists → StandsFor predicate chain schedule events given
stands-state predicate chain n most schedule events given lists leads accounts = (stood-state predicate chain n most schedule events given lists leads accounts).stands

-- one that goes on, and what it stands for
pub leads-state : {P J : Type 0} (predicate : J → P → P → Bool) (chain : Contents P J) (schedule : List Actor) (events : List (Event P)) (given : ℕ) → chain.state.over ≡ false → (stands : StandsFor predicate chain schedule events given)
    → Leads (predicate chain.join) (length chain.state.cores) chain.state.driver.flight schedule events chain.state (collected_of stands.reached)
leads-state predicate chain schedule events given going stands =
    subst (λ (b : Bool). Leads (predicate chain.join) (length chain.state.cores) chain.state.driver.flight schedule events (record chain.state { over = b }) (collected_of stands.reached)) (sym going)
    (record { reached = stands.reached; are = refl })

pub reached-state : {P J : Type 0} (predicate : J → P → P → Bool) (chain : Contents P J) (schedule : List Actor) (events : List (Event P)) → chain.state.over ≡ false
    → Reached (predicate chain.join) (length chain.state.cores) chain.state.driver.flight schedule events (record chain.state { over = false })
    → Reached (predicate chain.join) (length chain.state.cores) chain.state.driver.flight schedule events chain.state
reached-state predicate chain schedule events going reached =
    subst (λ (b : Bool). Reached (predicate chain.join) (length chain.state.cores) chain.state.driver.flight schedule events (record chain.state { over = b })) (sym going) reached

pub accounts-of : {P J : Type 0} {predicate : J → P → P → Bool} {chain : Contents P J} {schedule : List Actor} {events : List (Event P)} {given : ℕ} (stands : StandsFor predicate chain schedule events given)
    → Accounts chain.collector chain.kept given (collected_of stands.reached)
accounts-of stands = record { taken = stands.collector; within = stands.within; released = stands.released }

-- the chain stands for some well-formed events
pub record Sound {P J : Type 0} (predicate : J → P → P → Bool) (chain : Contents P J) : Type 0 where
  pub schedule : List Actor
  pub events : List (Event P)
  pub given : ℕ
  pub stands : StandsFor predicate chain schedule events given
  pub well_formed : IsWellFormed events

pub sound-goes : {P J : Type 0} (predicate : J → P → P → Bool) (chain : Contents P J) (feed : FeedState) → GoesWith predicate chain feed → Sound predicate chain
sound-goes predicate chain feed goes = record { schedule = goes.schedule; events = goes.events; given = goes.given; stands = goes.stands; well_formed = goes.well_formed }

going-if : (b : Bool) (other : Option NotNow) → cond b (Some Over) other ≡ None → b ≡ false
going-if true other none = absurd (cc)
going-if false other none = refl

-- an enabled actor's chain goes on
pub enabled_going : {P : Type 0} (state : ChainState P) (actor : Actor) → cause state actor ≡ None → state.over ≡ false
enabled_going state actor none = going-if state.over (cause_of state actor) none

pub cause-going : {P : Type 0} (state : ChainState P) (actor : Actor) → state.over ≡ false → cause state actor ≡ cause_of state actor
cause-going state actor going = ap (λ b. cond b (Some Over) (cause_of state actor)) going

-- what an actor takes of the cores' reports
told-receipt : {P : Type 0} (port : Side) (o : Option (Msg P)) (lists : List (List (Report P))) → told (option_map (λ message. drives (receipt port message)) o) lists ≡ lists
told-receipt port None lists = refl
told-receipt port (Some message) lists = refl

told-work : {P : Type 0} (place : ℕ) (end : Side) (o : Option (Msg P)) (lists : List (List (Report P))) → told (option_map (handles place end) o) lists ≡ lists
told-work place end None lists = refl
told-work place end (Some message) lists = refl

-- the driver collects nothing
told-next : {P : Type 0} (next : Option (Given P)) (lists : List (List (Report P))) → told (Some (next_action next)) lists ≡ lists
told-next None lists = refl
told-next (Some given) lists = refl

gathered-one : {P : Type 0} (report : Report P) (o : Option (Report P)) (What : Report P → Type 0) → o ≡ Some report → IfSome o What → What report
gathered-one {P} report o What is some = subst (λ (p : Option (Report P)). IfSome p What) is some

module _ {P J : Type 0} (predicate : J → P → P → Bool) (old new : Contents P J) (actor : Actor) (answer : FeedAnswer P) (same_join : new.join ≡ old.join) where
  whole : (state : ChainState P) → new.state ≡ state → record new { join = old.join; state = state } ≡ new
  whole state is = ap₂ (λ (j : J) (s : ChainState P). record new { join = j; state = s }) (sym same_join) (sym is)

  abbrev onward : ChainState P
  onward = after (predicate old.join) old.state actor answer

  leads-next : (schedule : List Actor) (events : List (Event P)) (given : ℕ) (stands : StandsFor predicate old schedule events given) → cause old.state actor ≡ None
      → Leads (predicate old.join) (length old.state.cores) old.state.driver.flight (schedule ++ actor ∷ []) (events ++ asked actor old.state.next answer) onward (told (action_of old.state actor) (collected_of stands.reached))
  leads-next schedule events given stands enabled =
      let before = leads-state predicate old schedule events given (enabled_going old.state actor enabled) stands in
      record {
        reached = steps schedule events old.state actor answer before.reached enabled;
        are =
            told-recorded (predicate old.join) old.state (length old.state.cores) (length schedule) (history_of before.reached) (action_of old.state actor)
            ∙ ap (told (action_of old.state actor)) before.are;
      }

  -- the events, and the reports that were taken, are those of a run
  run-next : (sound : Sound predicate old) → cause old.state actor ≡ None → asked actor old.state.next answer ≡ []
      → (run : Run P) × IsRun run × AreReportsOf run (told (action_of old.state actor) (collected_of sound.stands.reached))
  run-next sound enabled none =
      let leads = leads-next sound.schedule sound.events sound.given sound.stands enabled in
      let well : IsWellFormed (sound.events ++ asked actor old.state.next answer) = subst IsWellFormed (sym (ap (λ (es : List (Event P)). sound.events ++ es) none ∙ append-nil sound.events)) sound.well_formed in (
        run_of leads.reached,
        is_run (predicate old.join) (length old.state.cores) old.state.driver.flight leads.reached well,
        subst (AreReportsOf (run_of leads.reached)) leads.are (all_collected (predicate old.join) (length old.state.cores) old.state.driver.flight leads.reached well).of_run,
      )

  unchanged : (given : ℕ) (lists lists' : List (List (Report P))) → lists' ≡ lists → (new.collector ≡ old.collector) × (new.kept ≡ old.kept) → Accounts old.collector old.kept given lists → Accounts new.collector new.kept given lists'
  unchanged given lists lists' same gathers accounts =
      subst (Accounts new.collector new.kept given) (sym same)
      (subst (λ (collector : CollectorState). Accounts collector new.kept given lists) (sym gathers.0) (subst (λ (kept : List (Pair P)). Accounts old.collector kept given lists) (sym gathers.1) accounts))

module _ {P J : Type 0} (predicate : J → P → P → Bool) (old new : Contents P J) (answer : FeedAnswer P) (same_join : new.join ≡ old.join) where
  -- a report that was collected
  record Collecting (core : CoreNo) : Type 0 where
    report : Report P
    one : first (queue_at old.state.reports core.0) ≡ Some report
    known : core.0 < length old.collector.left
    growing : Grows (least_mark old.collector) (least_mark (after_report core report old.collector)) report

  does : (core : CoreNo) (collecting : Collecting core) → action_of old.state (Collect core) ≡ Some (collects core.0 collecting.report)
  does core collecting = ap (option_map (collects core.0)) collecting.one

  collecting-of : (core : CoreNo) → Sound predicate old → cause old.state (Collect core) ≡ None → Collecting core
  collecting-of core sound enabled =
      let going = enabled_going old.state (Collect core) enabled in
      let found = non_empty (queue_at old.state.reports core.0) None (in_range old.state core.0 _ (sym (cause-going old.state (Collect core) going) ∙ enabled)).1 in
      let low : core.0 < length old.state.cores = (in_range old.state core.0 _ (sym (cause-going old.state (Collect core) going) ∙ enabled)).0 in
      let report : Report P = found.0 in
      let one : first (queue_at old.state.reports core.0) ≡ Some report = ap first found.2 in
      let known : core.0 < length old.collector.left = omega (arith, low, ap length sound.stands.collector.left, length-map (collected_of sound.stands.reached) (mark_of Left), one-each sound.stands.reached) in
      let run = run-next predicate old new (Collect core) answer same_join sound enabled refl in
      record {
        report = report;
        one = one;
        known = known;
        growing =
            grows core report old.collector known run.0 run.1 (collected_of sound.stands.reached) sound.stands.collector
            (subst (λ (o : Option (Action P)). AreReportsOf run.0 (told o (collected_of sound.stands.reached))) (ap (option_map (collects core.0)) one) run.2);
      }

  accounts-collect : (core : CoreNo) → Sound predicate old → cause old.state (Collect core) ≡ None → Gathers (Collect core) old Did new → (schedule : List Actor) (events : List (Event P)) (given : ℕ) (stands : StandsFor predicate old schedule events given)
      → Accounts new.collector new.kept given (told (action_of old.state (Collect core)) (collected_of stands.reached))
  accounts-collect core sound enabled gathers schedule events given stands =
      let c = collecting-of core sound enabled in
      let noted = gathered-one c.report (first (queue_at old.state.reports core.0)) (λ r. (new.collector ≡ after_report core r old.collector) × IsPermutation (old.kept ++ pairs_of r) new.kept) c.one gathers in
      let more = accounts-more core c.report old.collector c.known old.kept new.kept given (collected_of stands.reached) noted.1 c.growing (accounts-of stands) in
      subst (λ (o : Option (Action P)). Accounts new.collector new.kept given (told o (collected_of stands.reached))) (sym (does core c))
      (subst (λ (collector : CollectorState). Accounts collector new.kept given (with_report core.0 c.report (collected_of stands.reached))) (sym noted.0) more)

  -- what was emitted stays
  emits-same : (lists lists' : List (List (Report P))) → lists' ≡ lists → IsPrefix (emitted lists) (emitted lists')
  emits-same lists lists' same = record { rest = []; is = ap (λ (l : List (List (Report P))). emitted l) same ∙ sym (append-nil (emitted lists)) }

  pub emits-next : (actor : Actor) → Sound predicate old → cause old.state actor ≡ None → (schedule : List Actor) (events : List (Event P)) (given : ℕ) (stands : StandsFor predicate old schedule events given)
      → IsPrefix (emitted (collected_of stands.reached)) (emitted (told (action_of old.state actor) (collected_of stands.reached)))
  emits-next Admit sound enabled schedule events given stands = emits-same (collected_of stands.reached) _ (told-next old.state.next (collected_of stands.reached))
  emits-next PortLeft sound enabled schedule events given stands = emits-same (collected_of stands.reached) _ (told-receipt Left (first (at_port Left (length old.state.cores) old.state.links)) (collected_of stands.reached))
  emits-next PortRight sound enabled schedule events given stands = emits-same (collected_of stands.reached) _ (told-receipt Right (first (at_port Right (length old.state.cores) old.state.links)) (collected_of stands.reached))
  emits-next (Core place end) sound enabled schedule events given stands = emits-same (collected_of stands.reached) _ (told-work place.0 end (first (incoming end place.0 old.state.links)) (collected_of stands.reached))
  emits-next (Collect core) sound enabled schedule events given stands =
      let c = collecting-of core sound enabled in
      subst (λ (o : Option (Action P)). IsPrefix (emitted (collected_of stands.reached)) (emitted (told o (collected_of stands.reached)))) (sym (does core c))
      (emitted-more core c.report old.collector c.known (collected_of stands.reached) stands.collector c.growing)

  accounts-next : (actor : Actor) → Sound predicate old → cause old.state actor ≡ None → Gathers actor old Did new → (schedule : List Actor) (events : List (Event P)) (given : ℕ) (stands : StandsFor predicate old schedule events given)
      → Accounts new.collector new.kept given (told (action_of old.state actor) (collected_of stands.reached))
  accounts-next Admit sound enabled gathers schedule events given stands = unchanged predicate old new Admit answer same_join given (collected_of stands.reached) _ (told-next old.state.next (collected_of stands.reached)) gathers (accounts-of stands)
  accounts-next PortLeft sound enabled gathers schedule events given stands =
      unchanged predicate old new PortLeft answer same_join given (collected_of stands.reached) _ (told-receipt Left (first (at_port Left (length old.state.cores) old.state.links)) (collected_of stands.reached)) gathers (accounts-of stands)
  accounts-next PortRight sound enabled gathers schedule events given stands =
      unchanged predicate old new PortRight answer same_join given (collected_of stands.reached) _ (told-receipt Right (first (at_port Right (length old.state.cores) old.state.links)) (collected_of stands.reached)) gathers (accounts-of stands)
  accounts-next (Core place end) sound enabled gathers schedule events given stands =
      unchanged predicate old new (Core place end) answer same_join given (collected_of stands.reached) _ (told-work place.0 end (first (incoming end place.0 old.state.links)) (collected_of stands.reached)) gathers (accounts-of stands)
  accounts-next (Collect core) sound enabled gathers schedule events given stands = accounts-collect core sound enabled gathers schedule events given stands

-- a step that wasn't made gathers nothing
module _ {P J : Type 0} (old new : Contents P J) where
  none-gathered : (actor : Actor) (why : NotNow) → Gathers actor old (NotEnabled why) new → (new.collector ≡ old.collector) × (new.kept ≡ old.kept)
  none-gathered Admit why gathers = gathers
  none-gathered PortLeft why gathers = gathers
  none-gathered PortRight why gathers = gathers
  none-gathered (Core place end) why gathers = gathers
  none-gathered (Collect core) why gathers = gathers

  none-kept : (actor : Actor) → Gathers actor old Memory new → (new.collector ≡ old.collector) × (new.kept ≡ old.kept)
  none-kept Admit gathers = gathers
  none-kept PortLeft gathers = gathers
  none-kept PortRight gathers = gathers
  none-kept (Core place end) gathers = gathers
  none-kept (Collect core) gathers = gathers

module _ {P J : Type 0} (predicate : J → P → P → Bool) (old new : Contents P J) (actor : Actor) (answer : FeedAnswer P) (same_join : new.join ≡ old.join) where
  pub stood-did : Sound predicate old → (schedule : List Actor) (events : List (Event P)) (given : ℕ) (stands : StandsFor predicate old schedule events given) → StepsTo (predicate old.join) actor answer old.state Did new.state → Gathers actor old Did new
      → Stood predicate new (schedule ++ actor ∷ []) (events ++ asked actor old.state.next answer) given (told (action_of old.state actor) (collected_of stands.reached))
  stood-did sound schedule events given stands did gathers =
      let lists = told (action_of old.state actor) (collected_of stands.reached) in
      let state : ChainState P = after (predicate old.join) old.state actor answer in
      subst (λ (c : Contents P J). Stood predicate c (schedule ++ actor ∷ []) (events ++ asked actor old.state.next answer) given lists) (whole predicate old new actor answer same_join state did.1)
      (stood-state predicate (record new { join = old.join; state = state }) _ _ _ _ given lists (leads-next predicate old new actor answer same_join schedule events given stands did.0)
      (accounts-next predicate old new answer same_join actor sound did.0 gathers schedule events given stands))

  pub stands-did : Sound predicate old → (schedule : List Actor) (events : List (Event P)) (given : ℕ) → StandsFor predicate old schedule events given → StepsTo (predicate old.join) actor answer old.state Did new.state → Gathers actor old Did new
      → StandsFor predicate new (schedule ++ actor ∷ []) (events ++ asked actor old.state.next answer) given
  stands-did sound schedule events given stands did gathers = (stood-did sound schedule events given stands did gathers).stands

  stood-same : (schedule : List Actor) (events : List (Event P)) (given : ℕ) (stands : StandsFor predicate old schedule events given) (over : Bool) → new.state ≡ record old.state { over = over } → (new.collector ≡ old.collector) × (new.kept ≡ old.kept)
      → Stood predicate new schedule events given (collected_of stands.reached)
  stood-same schedule events given stands over is gathers =
      subst (λ (c : Contents P J). Stood predicate c schedule events given (collected_of stands.reached)) (whole predicate old new actor answer same_join (record old.state { over = over }) is)
      (record {
        stands = record {
          reached = stands.reached;
          collector = subst (λ (collector : CollectorState). collect.StandsFor collector (collected_of stands.reached)) (sym gathers.0) stands.collector;
          within = stands.within;
          released = subst (λ (kept : List (Pair P)). IsPermutation (take given (emitted (collected_of stands.reached)) ++ kept) (met (collected_of stands.reached))) (sym gathers.1) stands.released;
        };
        are = refl;
      })

  -- memory ran out in it
  pub stood-over : (schedule : List Actor) (events : List (Event P)) (given : ℕ) (stands : StandsFor predicate old schedule events given) → StepsTo (predicate old.join) actor answer old.state Memory new.state → Gathers actor old Memory new
      → Stood predicate new schedule events given (collected_of stands.reached)
  stood-over schedule events given stands step gathers = stood-same schedule events given stands true step.2 (none-kept old new actor gathers)

  -- a step that wasn't made changes nothing of what the chain stands for
  pub stands-stays : (result : Stepped) (schedule : List Actor) (events : List (Event P)) (given : ℕ) → StandsFor predicate old schedule events given → StepsTo (predicate old.join) actor answer old.state result new.state
      → Gathers actor old result new → result ≢ Did → StandsFor predicate new schedule events given
  stands-stays Did schedule events given stands step gathers other = absurd (other refl)
  stands-stays (NotEnabled why) schedule events given stands step gathers other = (stood-same schedule events given stands old.state.over step.1 (none-gathered old new actor why gathers)).stands
  stands-stays Memory schedule events given stands step gathers other = (stood-over schedule events given stands step gathers).stands

  next-stays : (result : Stepped) → StepsTo (predicate old.join) actor answer old.state result new.state → result ≢ Did → new.state.next ≡ old.state.next
  next-stays Did step other = absurd (other refl)
  next-stays (NotEnabled why) step other = ap (λ (s : ChainState P). s.next) step.1
  next-stays Memory step other = ap (λ (s : ChainState P). s.next) step.2

-- the events that a step takes from the feed
module _ {P F : Type 0} (gives : F → Given P → F → Type 0) (from to : F) where
  one_answer : (ready : Bool) (answer : Given P) → MatchBool ready (gives from answer to) (to ≡ from) → GoesOver gives from (event_in (cond ready (Some answer) None)) to
  one_answer true (given.Event event) feed = record { stops = 0; answers = (to, feed, refl) }
  one_answer true given.Stop feed = record { stops = 1; answers = (to, feed, refl) }
  one_answer false answer feed = record { stops = 0; answers = feed }

  pub goes_over : (actor : Actor) (next : Option (Given P)) (answer : FeedAnswer P) → MatchBool (asks actor next answer.ready) (gives from answer.given to) (to ≡ from) → GoesOver gives from (asked actor next answer) to
  goes_over Admit None answer feed = one_answer true answer.given feed
  goes_over Admit (Some (given.Event event)) answer feed = one_answer answer.ready answer.given feed
  goes_over Admit (Some given.Stop) answer feed = record { stops = 0; answers = feed }
  goes_over PortLeft next answer feed = record { stops = 0; answers = feed }
  goes_over PortRight next answer feed = record { stops = 0; answers = feed }
  goes_over (Core place end) next answer feed = record { stops = 0; answers = feed }
  goes_over (Collect place) next answer feed = record { stops = 0; answers = feed }

-- What the step of an actor leaves of the feed's answers: the one that is to be used next.
abbrev pub next_known : {P : Type 0} → Actor → Option (Given P) → FeedAnswer P → Option (Given P)
next_known Admit None answer = Some answer.given
next_known Admit (Some (given.Event event)) answer = if_there answer
next_known Admit (Some given.Stop) answer = Some given.Stop
next_known PortLeft next answer = next
next_known PortRight next answer = next
next_known (Core place end) next answer = next
next_known (Collect place) next answer = next

module _ {P : Type 0} (matches : P → P → Bool) (chain : ChainState P) (answer : FeedAnswer P) where
  admit_next : (next : Option (Given P)) → (after_action matches (record chain { next = next }) (Some (next_action next)) answer).next ≡ next_known Admit next answer
  admit_next None = refl
  admit_next (Some (given.Event event)) = refl
  admit_next (Some given.Stop) = refl

  receipt_next : (port : Side) (o : Option (Msg P)) → (after_action matches chain (option_map (λ message. drives (receipt port message)) o) answer).next ≡ chain.next
  receipt_next port None = refl
  receipt_next port (Some message) = refl

  work_next : (place : ℕ) (end : Side) (o : Option (Msg P)) → (after_action matches chain (option_map (handles place end) o) answer).next ≡ chain.next
  work_next place end None = refl
  work_next place end (Some message) = refl

  gather_next : (place : ℕ) (o : Option (Report P)) → (after_action matches chain (option_map (collects place) o) answer).next ≡ chain.next
  gather_next place None = refl
  gather_next place (Some report) = refl

  pub next-of : (actor : Actor) → (after matches chain actor answer).next ≡ next_known actor chain.next answer
  next-of Admit = admit_next chain.next
  next-of PortLeft = receipt_next Left (first (at_port Left (length chain.cores) chain.links))
  next-of PortRight = receipt_next Right (first (at_port Right (length chain.cores) chain.links))
  next-of (Core place end) = work_next place.0 end (first (incoming end place.0 chain.links))
  next-of (Collect place) = gather_next place.0 (first (queue_at chain.reports place.0))

-- the feed behind a step that asked it, or didn't
pub record FeedAfter {P : Type 0} (events : List (Event P)) (taken : List (Event P)) (next : Option (Given P)) (feed : FeedState) : Type 0 where
  pub well_formed : IsWellFormed (events ++ taken)
  pub numbering : feed.numbering ≡ numbering_of (events ++ taken)
  pub stopped : is_stop next ≡ true → feed.stopped ≡ true

feed_same : {P : Type 0} (events : List (Event P)) (next : Option (Given P)) (feed : FeedState) → IsWellFormed events → feed.numbering ≡ numbering_of events → (is_stop next ≡ true → feed.stopped ≡ true) → FeedAfter events [] next feed
feed_same {P} events next feed well numbering stopped = record {
  well_formed = subst IsWellFormed (sym (append-nil events)) well;
  numbering = numbering ∙ ap (λ (es : List (Event P)). numbering_of es) (sym (append-nil events));
  stopped = stopped;
}

pub feed_asked : {P : Type 0} (events : List (Event P)) (answer : Given P) (old new : FeedState) → IsWellFormed events → old.numbering ≡ numbering_of events → Answers answer old new → FeedAfter events (event_in (Some answer)) (Some answer) new
feed_asked events (given.Event event) old new well numbering gives = record {
  well_formed = well-push events event old new well numbering gives;
  numbering = numbering-push events event old new numbering gives;
  stopped = λ stop. absurd (cc);
}
feed_asked {P} events given.Stop old new well numbering gives = record {
  well_formed = subst IsWellFormed (sym (append-nil events)) well;
  numbering = gives.numbering ∙ numbering ∙ ap (λ (es : List (Event P)). numbering_of es) (sym (append-nil events));
  stopped = λ stop. gives.stopped;
}

feed_there : {P : Type 0} (events : List (Event P)) (ready : Bool) (answer : Given P) (old new : FeedState) → IsWellFormed events → old.numbering ≡ numbering_of events
    → MatchBool ready (Answers answer old new) (new ≡ old) → FeedAfter events (event_in (cond ready (Some answer) None)) (cond ready (Some answer) None) new
feed_there events true answer old new well numbering feed = feed_asked events answer old new well numbering feed
feed_there events false answer old new well numbering feed = subst (FeedAfter events [] None) (sym feed) (feed_same events None old well numbering (λ stop. absurd (cc)))

feed_after : {P : Type 0} (events : List (Event P)) (actor : Actor) (next : Option (Given P)) (answer : FeedAnswer P) (old new : FeedState) → IsWellFormed events → old.numbering ≡ numbering_of events → (is_stop next ≡ true → old.stopped ≡ true)
    → MatchBool (asks actor next answer.ready) (Answers answer.given old new) (new ≡ old) → FeedAfter events (asked actor next answer) (next_known actor next answer) new
feed_after events Admit None answer old new well numbering stopped feed = feed_asked events answer.given old new well numbering feed
feed_after events Admit (Some (given.Event event)) answer old new well numbering stopped feed = feed_there events answer.ready answer.given old new well numbering feed
feed_after {P} events Admit (Some given.Stop) answer old new well numbering stopped feed = subst (FeedAfter events [] (Some given.Stop)) (sym feed) (feed_same events (Some given.Stop) old well numbering stopped)
feed_after events PortLeft next answer old new well numbering stopped feed = subst (FeedAfter events [] next) (sym feed) (feed_same events next old well numbering stopped)
feed_after events PortRight next answer old new well numbering stopped feed = subst (FeedAfter events [] next) (sym feed) (feed_same events next old well numbering stopped)
feed_after events (Core place end) next answer old new well numbering stopped feed = subst (FeedAfter events [] next) (sym feed) (feed_same events next old well numbering stopped)
feed_after events (Collect place) next answer old new well numbering stopped feed = subst (FeedAfter events [] next) (sym feed) (feed_same events next old well numbering stopped)

module _ {P J : Type 0} (predicate : J → P → P → Bool) (old new : Contents P J) (actor : Actor) (same_join : new.join ≡ old.join) (before after_feed : FeedState) (goes : GoesWith predicate old before) where
  -- a step was made, and the feed answered where it was asked
  pub goes-did : (answer : FeedAnswer P) → StepsTo (predicate old.join) actor answer old.state Did new.state → Gathers actor old Did new → MatchBool (asks actor old.state.next answer.ready) (Answers answer.given before after_feed) (after_feed ≡ before) → GoesWith predicate new after_feed
  goes-did answer did gathers feed =
      let after_step = feed_after goes.events actor old.state.next answer before after_feed goes.well_formed goes.numbering goes.stopped feed in
      record {
        schedule = goes.schedule ++ actor ∷ [];
        events = goes.events ++ asked actor old.state.next answer;
        given = goes.given;
        stands = stands-did predicate old new actor answer same_join (sound-goes predicate old before goes) goes.schedule goes.events goes.given goes.stands did gathers;
        well_formed = after_step.well_formed;
        numbering = after_step.numbering;
        stopped = λ stop. after_step.stopped (ap is_stop (sym (ap (λ (s : ChainState P). s.next) did.1 ∙ next-of (predicate old.join) old.state answer actor)) ∙ stop);
      }

  -- none was made
  pub goes-stays : (result : Stepped) (answer : FeedAnswer P) → StepsTo (predicate old.join) actor answer old.state result new.state → Gathers actor old result new → result ≢ Did → after_feed ≡ before → GoesWith predicate new after_feed
  goes-stays result answer step gathers other feed = record {
    schedule = goes.schedule;
    events = goes.events;
    given = goes.given;
    stands = stands-stays predicate old new actor answer same_join result goes.schedule goes.events goes.given goes.stands step gathers other;
    well_formed = goes.well_formed;
    numbering = ap (λ (f : FeedState). f.numbering) feed ∙ goes.numbering;
    stopped = λ stop. ap (λ (f : FeedState). f.stopped) feed ∙ goes.stopped (ap is_stop (sym (next-stays predicate old new actor answer same_join result step other)) ∙ stop);
  }

-- the queues of a chain that goes with a feed have room
pub room-goes : {P J : Type 0} (predicate : J → P → P → Bool) (chain : Contents P J) (feed : FeedState) → GoesWith predicate chain feed → HasRoom chain.state
room-goes predicate chain feed goes =
    let room = has_room (predicate chain.join) (length chain.state.cores) chain.state.driver.flight goes.stands.reached goes.well_formed in
    record { rightwards = room.rightwards; leftwards = room.leftwards }
