-- A serial run, step by step.
use Rattle.std.proofs.Common.{◌≡◌, ◌≢◌, ℕ, zero, suc, ◌+◌, ◌*◌, ◌<◌, ◌≤◌, Bool, true, false, cond, List, [], ◌∷◌, ◌++◌, length, map, replicate, take, drop, filter, Contains, Some, None, Option, refl, ap, ap₂, sym, ◌∙◌, subst, arith, append-nil, append_assoc, length-append, true≢false, ◌⊎◌, inl, inr}
use Rattle.std.specs.Bool.{MatchBool}
use Rattle.std.specs.List.{slice_get}
use Rattle.std.proofs.lemmas.List.{drop-append-le, length-drop, length-map, replicate-append-replicate, take-append-le}
use Rattle.std.proofs.lemmas.List.Sorted.{length_permutation}
use Rattle.std.proofs.Math.Nat.{mul-add, mul-le-mul_left}
use Rattle.hj_base.specs.Journals.{IsPrefix}
use Rattle.hj_base.specs.declared.numbers.CoreNo.{CoreNo}
use Rattle.hj_msg.specs.declared.drain.Drained.{Drained}
use Rattle.hj_msg.specs.declared.drain.Drained.TheVariants.{Kept, Refused}
use Rattle.hj_msg.specs.declared.event.Event.{Event}
use Rattle.hj_msg.specs.declared.event.Pair.{Pair}
use Rattle.hj_msg.specs.declared.feed.Given.{Given}
use Rattle.hj_msg.specs.declared.feed.Given.TheVariants as given
use Rattle.hj_msg.specs.declared.message.Report.{Report}
use Rattle.hj_msg.specs.Drain.{Drainage}
use Rattle.hj_msg.specs.Emission.{emitted, is_within}
use Rattle.hj_msg.specs.Feed.{FeedState, Answers, GoesOver, GoesOverAnswers, event_in, is_stop}
use Rattle.hj_msg.specs.Met.{met}
use Rattle.hj_msg.specs.Punctuation.{punctuation}
use Rattle.hj_msg.specs.Valid.{later}
use Rattle.hj_msg.proofs.Members.{Contains-filter}
use Rattle.hj_collect.specs.Collector.{CollectorState, least_mark}
use Rattle.hj_collect.proofs.Giving.{takes-both}
use Rattle.hj_collect.proofs.Due.{rest}
use Rattle.hj_collect.proofs.Emissions.{within}
use Rattle.hj_collect.proofs.Following.{least_follows}
use Rattle.hj_chain.specs.declared.actor.Actor.{Actor}
use Rattle.hj_chain.specs.declared.actor.Actor.TheVariants.{Admit, PortLeft, PortRight, Core, Collect}
use Rattle.hj_chain.specs.declared.actor.Stepped.{Stepped}
use Rattle.hj_chain.specs.declared.actor.Stepped.TheVariants.{Did, NotEnabled, Memory}
use Rattle.hj_chain.specs.declared.serial.Chooser.{Chooser}
use Rattle.hj_chain.specs.declared.serial.Chooser.TheVariants as chooser
use Rattle.hj_msg.specs.declared.fin.Fin.{Fin}
use Rattle.hj_msg.specs.declared.fin.Fin.TheVariants as fin
use Rattle.hj_chain.specs.Chain.{FeedAnswer, ChainState, Contents, Action, action_of, after_action, cause}
use Rattle.hj_chain.specs.Progress.{IsDone}
use Rattle.hj_chain.specs.Reached.{Reached, steps, StandsFor, asked, collected_of, next_pair}
use Rattle.hj_chain.specs.Serial.{Choosing, IsPlaceWithin, LetsOut, MakesSteps, begins, goes_on, runs_out, Releases, RunsSerially, chosen, choosing_after, first_choosing, EndsSerial}
use Rattle.hj_chain.specs.Steps.{GoesWith, Gathers, Steps, asks, was_asked}
use Rattle.hj_chain.proofs.ChosenActors.{chosen-enabled, none-enabled}
use Rattle.hj_chain.proofs.Doing.{deed, taken_by}
use Rattle.hj_chain.proofs.Draining.{Gave, all-kept, answer_in, gave-nothing, last_of, map-both, pair_in, take-both}
use Rattle.hj_chain.proofs.Driving.{driven}
use Rattle.hj_chain.proofs.FewSteps.{few_steps, fewer-come, to_come}
use Rattle.hj_chain.proofs.Gathered.{told}
use Rattle.hj_chain.proofs.Giving.{gives-none}
use Rattle.hj_chain.proofs.Goings.{Sound, Stood, emits-next, enabled_going, next-of, reached-state, sound-goes, stood-did, stood-over, next_known}
use Rattle.hj_chain.proofs.Shape.{Shape, links-length, shape}
use Rattle.hj_chain.proofs.Stuck.{finished-sent, stuck_is_done}
use Rattle.std.specs.Option.{IfSome}

-- ---- the pairs

-- where the emission grows, the pairs given stay the next ones
stay-in-order : {X : Type 0} (xs ys : List X) (given count : ℕ) → IsPrefix xs ys → given + count ≤ length xs → take count (drop given ys) ≡ take count (drop given xs)
stay-in-order xs ys given count prefix low =
    ap (λ l. take count (drop given l)) prefix.is ∙ ap (take count) (drop-append-le given xs prefix.rest (omega (arith, low)))
    ∙ take-append-le count (drop given xs) prefix.rest (omega (arith, low, length-drop given xs))

module _ {P J D : Type 0} (takes : D → Pair P → Drained → D → Type 0) (predicate : J → P → P → Bool) (given : ℕ) (unfilled : D) where
  -- a step
  gave-step : (schedule schedule' : List Actor) (events events' : List (Event P)) (lists lists' : List (List (Report P))) (now new : Contents P J) (filled : D) → Gave takes predicate schedule events given lists unfilled [] now filled
      → ((count : ℕ) → Stood predicate now schedule events count lists → Stood predicate new schedule' events' count lists') → IsPrefix (emitted lists) (emitted lists') → Gave takes predicate schedule' events' given lists' unfilled [] new filled
  gave-step schedule schedule' events events' lists lists' now new filled gave onward prefix = record {
    pairs = gave.pairs;
    drain = gave.drain;
    stood = onward (given + length gave.pairs) gave.stood;
    in_order =
        gave.in_order
        ∙ sym (stay-in-order (emitted lists) (emitted lists') given (length gave.pairs) prefix
        (subst (λ (l : List (List (Report P))). given + length gave.pairs ≤ length (emitted l)) gave.stood.are gave.stood.stands.within));
    kept = gave.kept;
    answers = gave.answers;
  }

  kept-both : (one other : ℕ) (last : List Drained) → (replicate one Kept ++ []) ++ (replicate other Kept ++ last) ≡ replicate (one + other) Kept ++ last
  kept-both one other last =
      ap (λ l. l ++ (replicate other Kept ++ last)) (append-nil (replicate one Kept)) ∙ sym (append_assoc (replicate one Kept) (replicate other Kept) last)
      ∙ ap (λ l. l ++ last) (replicate-append-replicate one other Kept)

  -- what a drain answered
  record Answered (answer : Drained) (pairs : List (Drainage P)) : Type 0 where
    kept : ℕ
    are : map answer_in pairs ≡ replicate kept Kept ++ last_of answer

  answered : {schedule : List Actor} {events : List (Event P)} {now new : Contents P J} {count : ℕ} (stood : StandsFor predicate now schedule events count) (filled more : D) (answer : Drained) (releases : Releases takes stood filled answer new more)
      → Answered answer releases.pairs
  answered stood filled more Kept releases = record { kept = length releases.pairs; are = releases.gives.0 ∙ sym (append-nil (replicate (length releases.pairs) Kept)) }
  answered stood filled more Refused releases = record { kept = releases.gives.0; are = releases.gives.1 }

  -- further pairs
  gave-release : (schedule : List Actor) (events : List (Event P)) (lists : List (List (Report P))) (now new : Contents P J) (filled more : D) (gave : Gave takes predicate schedule events given lists unfilled [] now filled) (answer : Drained)
      → Releases takes gave.stood.stands filled answer new more → Gave takes predicate schedule events given lists unfilled (last_of answer) new more
  gave-release schedule events lists now new filled more gave answer releases =
      let count : ℕ = length gave.pairs in
      let same : collected_of releases.stands.reached ≡ lists = releases.collected ∙ gave.stood.are in
      let longer : length (gave.pairs ++ releases.pairs) ≡ count + length releases.pairs = length-append gave.pairs releases.pairs in
      let told_all = answered gave.stood.stands filled more answer releases in
      record {
        pairs = gave.pairs ++ releases.pairs;
        drain = takes-both takes gave.pairs releases.pairs unfilled filled more gave.drain releases.drain;
        stood = subst (λ (k : ℕ). Stood predicate new schedule events k lists) (omega (arith, longer)) (record { stands = releases.stands; are = same });
        in_order =
            map-both pair_in gave.pairs releases.pairs ∙ ap₂ (λ (xs ys : List (Pair P)). xs ++ ys) gave.in_order (releases.in_order ∙ ap (λ (l : List (List (Report P))). take (length releases.pairs) (drop (given + count) (emitted l))) same)
            ∙ sym (take-both count (length releases.pairs) given (emitted lists)) ∙ ap (λ (k : ℕ). take k (drop given (emitted lists))) (sym longer);
        kept = gave.kept + told_all.kept;
        answers = map-both answer_in gave.pairs releases.pairs ∙ ap₂ (λ (xs ys : List Drained). xs ++ ys) gave.answers told_all.are ∙ kept-both gave.kept told_all.kept (last_of answer);
      }

-- ---- the feed

goes-push : {P F : Type 0} (gives : F → Given P → F → Type 0) (from mid to : F) (answers : List (Given P)) (answer : Given P) → GoesOverAnswers gives from answers mid → gives mid answer to → GoesOverAnswers gives from (answers ++ answer ∷ []) to
goes-push {F = F} gives from mid to [] answer goes gave = (to, subst (λ (f : F). gives f answer to) goes gave, refl)
goes-push gives from mid to (a ∷ answers) answer goes gave = (goes.0, goes.1, goes-push gives goes.0 mid to answers answer goes.2 gave)

-- The feed went over these events. Where one is to come, it didn't stop.
pub record Fed {P F : Type 0} (gives : F → Given P → F → Type 0) (from : F) (taken : List (Event P)) (next : Option (Given P)) (to : F) : Type 0 where
  pub over : GoesOver gives from taken to
  pub going : is_stop next ≡ false → GoesOverAnswers gives from (map given.Event taken) to

module _ {P F : Type 0} (gives : F → Given P → F → Type 0) (from mid to : F) (taken : List (Event P)) where
  unfed : (next : Option (Given P)) → to ≡ mid → Fed gives from taken next mid → Fed gives from (taken ++ []) next to
  unfed next same fed =
      subst (λ (f : F). Fed gives from (taken ++ []) next f) (sym same) (subst (λ (es : List (Event P)). Fed gives from es next mid) (sym (append-nil taken)) fed)

  one-more : (ready : Bool) (answer : Given P) → MatchBool ready (gives mid answer to) (to ≡ mid) → Fed gives from taken None mid → Fed gives from (taken ++ event_in (cond ready (Some answer) None)) (cond ready (Some answer) None) to
  one-more true (given.Event other) gave fed =
      let longer : map given.Event (taken ++ other ∷ []) ≡ map given.Event taken ++ given.Event other ∷ [] = map-both given.Event taken (other ∷ []) in
      let goes : GoesOverAnswers gives from (map given.Event (taken ++ other ∷ [])) to =
      subst (λ (l : List (Given P)). GoesOverAnswers gives from l to) (sym longer) (goes-push gives from mid to (map given.Event taken) (given.Event other) (fed.going refl) gave) in
      record {
        over = record { stops = 0; answers = subst (λ (l : List (Given P)). GoesOverAnswers gives from l to) (sym (append-nil (map given.Event (taken ++ other ∷ [])))) goes };
        going = λ comes. goes;
      }
  one-more true given.Stop gave fed =
      record {
        over = record {
          stops = 1;
          answers =
              subst (λ (es : List (Event P)). GoesOverAnswers gives from (map given.Event es ++ given.Stop ∷ []) to) (sym (append-nil taken))
              (goes-push gives from mid to (map given.Event taken) given.Stop (fed.going refl) gave);
        };
        going = λ comes. absurd (true≢false comes);
      }
  one-more false answer gave fed = unfed None gave fed

  fed-more : (actor : Actor) (next : Option (Given P)) (answer : FeedAnswer P) → MatchBool (asks actor next answer.ready) (gives mid answer.given to) (to ≡ mid) → Fed gives from taken next mid
      → Fed gives from (taken ++ asked actor next answer) (next_known actor next answer) to
  fed-more Admit None answer gave fed = one-more true answer.given gave fed
  fed-more Admit (Some (given.Event event)) answer gave fed = one-more answer.ready answer.given gave (record { over = fed.over; going = λ comes. fed.going refl })
  fed-more Admit (Some given.Stop) answer gave fed = unfed (Some given.Stop) gave fed
  fed-more PortLeft next answer gave fed = unfed next gave fed
  fed-more PortRight next answer gave fed = unfed next gave fed
  fed-more (Core place end) next answer gave fed = unfed next gave fed
  fed-more (Collect place) next answer gave fed = unfed next gave fed

-- ---- no pair is due

-- no kept pair is within the punctuation
abbrev pub Settled : {P J : Type 0} → Contents P J → Type 0
Settled {P} chain = (pair : Pair P) → Contains chain.kept pair → is_within (least_mark chain.collector) (later pair) ≡ false

nothing-behind : {X : Type 0} (xs : List X) (i : ℕ) → slice_get xs i ≡ None → drop i xs ≡ []
nothing-behind [] zero none = refl
nothing-behind [] (suc i) none = refl
nothing-behind (x ∷ xs) zero none = absurd (cc)
nothing-behind (x ∷ xs) (suc i) none = nothing-behind xs i none

if-open : {X : Type 0} (b : Bool) (o : Option X) → b ≡ false → cond b None o ≡ None → o ≡ None
if-open true o going is = absurd (true≢false going)
if-open false o going is = is

module _ {P J : Type 0} (predicate : J → P → P → Bool) (chain : Contents P J) (schedule : List Actor) (events : List (Event P)) (count : ℕ) (stands : StandsFor predicate chain schedule events count) where
  pub settles : chain.state.over ≡ false → next_pair stands ≡ None → Settled chain
  settles going none pair kept =
      let lists = collected_of stands.reached in
      let mark : least_mark chain.collector ≡ punctuation lists = least_follows chain.collector lists stands.collector in
      let empty : drop count (emitted lists) ≡ [] = nothing-behind (emitted lists) count (if-open chain.state.over (slice_get (emitted lists) count) going none) in
      let few : length (filter (within (punctuation lists)) chain.kept) ≡ 0 =
      sym (length_permutation (filter (within (punctuation lists)) chain.kept) (drop count (emitted lists)) (rest (punctuation lists) (met lists) chain.kept count stands.released)) ∙ ap length empty in
      ap (λ m. is_within m (later pair)) mark ∙ by (is_within (punctuation lists) (later pair)) refl few
    where
      by : (b : Bool) → is_within (punctuation (collected_of stands.reached)) (later pair) ≡ b → length (filter (within (punctuation (collected_of stands.reached))) chain.kept) ≡ 0 → is_within (punctuation (collected_of stands.reached)) (later pair) ≡ false
      by false is few = is
      by true is few = absurd (omega (arith, few, (Contains-filter (within (punctuation (collected_of stands.reached))) chain.kept pair kept is).1))

  pub settled-none : Settled chain → next_pair stands ≡ None
  settled-none each = sym (gives-none predicate chain each schedule events count stands)

-- a step that collects nothing
pub still-settled : {P J : Type 0} (old new : Contents P J) (actor : Actor) → Gathers actor old Did new → ((core : CoreNo) → actor ≡ Collect core → ⊥) → Settled old → Settled new
still-settled {P} old new actor gathers other settled pair kept = by (same actor gathers other)
  where
    same : (actor : Actor) → Gathers actor old Did new → ((core : CoreNo) → actor ≡ Collect core → ⊥) → (new.collector ≡ old.collector) × (new.kept ≡ old.kept)
    same Admit gathers other = gathers
    same PortLeft gathers other = gathers
    same PortRight gathers other = gathers
    same (Core place end) gathers other = gathers
    same (Collect core) gathers other = absurd (other core refl)

    by : (new.collector ≡ old.collector) × (new.kept ≡ old.kept) → is_within (least_mark new.collector) (later pair) ≡ false
    by are = ap (λ (c : CollectorState). is_within (least_mark c) (later pair)) are.0 ∙ settled pair (subst (λ (pairs : List (Pair P)). Contains pairs pair) are.1 kept)

-- ---- the run

module _ {P J F D : Type 0} (gives : F → Given P → F → Type 0) (is_ready : F → Bool) (takes : D → Pair P → Drained → D → Type 0) (predicate : J → P → P → Bool) (rule : Chooser) (schedule : List Actor) (events : List (Event P)) (given_before : ℕ)
    (old : Contents P J) (from : F) (unfilled : D) where
  -- where one step was made: what the chain gave before the last one, fewer than so many pairs
  abbrev Before : List Actor → List (Event P) → ℕ → Type 0
  Before made taken count = (made ≡ []) ⊎ LetsOut predicate schedule events given_before made taken count

  before-more : (made : List Actor) (taken : List (Event P)) (count more : ℕ) → count ≤ more → Before made taken count → Before made taken more
  before-more made taken count more low (inl none) = inl none
  before-more made taken count more low (inr out) = inr (record {
    earlier = out.earlier;
    actor = out.actor;
    steps = out.steps;
    before = out.before;
    behind = out.behind;
    events_are = out.events_are;
    gave = out.gave;
    fewer = omega (arith, low, out.fewer);
    chain = out.chain;
    stands = out.stands;
    none_due = out.none_due;
  })

  -- a pair that was refused is one of those given; else the next one isn't
  abbrev up_to : List Drained → ℕ → ℕ
  up_to [] count = count + 1
  up_to (one ∷ more) count = count

  up-to-more : {now : Contents P J} {after : List Actor} {later : List (Event P)} {count : ℕ} (stood : StandsFor predicate now after later count) (filled more : D) (new : Contents P J) (answer : Drained) (releases : Releases takes stood filled answer new more) (pairs : List (Drainage P))
      → length pairs + 1 ≤ up_to (last_of answer) (length (pairs ++ releases.pairs))
  up-to-more stood filled more new Kept releases pairs = omega (arith, length-append pairs releases.pairs)
  up-to-more stood filled more new Refused releases pairs =
      omega (
        arith,
        length-append pairs releases.pairs,
        length-map releases.pairs answer_in,
        ap length releases.gives.1,
        length-append (replicate releases.gives.0 Kept) (Refused ∷ []),
      )

  -- how far it has come
  pub record Underway (last : List Drained) (choosing : Choosing) (now : Contents P J) (to : F) (filled : D) : Type 0 where
    pub made : List Actor
    pub steps : MakesSteps gives is_ready (predicate old.join) (first_choosing rule) old.state from made choosing now.state to
    pub taken : List (Event P)
    pub feed : Fed gives from taken now.state.next to
    pub lists : List (List (Report P))
    pub gave : Gave takes predicate (schedule ++ made) (events ++ taken) given_before lists unfilled last now filled
    pub before : Before made taken (up_to last (length gave.pairs))

  pub underway-begins : StandsFor predicate old schedule events given_before → Underway [] (first_choosing rule) old from unfilled
  underway-begins stands =
      let lists = collected_of stands.reached in
      let first : Stood predicate old schedule events given_before lists = record { stands = stands; are = refl } in
      record {
        made = [];
        steps = begins;
        taken = [];
        feed = record { over = record { stops = 0; answers = refl }; going = λ comes. refl };
        lists = lists;
        gave =
            gave-nothing takes predicate (schedule ++ []) (events ++ []) given_before lists unfilled old
            (subst (λ (es : List (Event P)). Stood predicate old (schedule ++ []) es given_before lists) (sym (append-nil events))
            (subst (λ (done : List Actor). Stood predicate old done events given_before lists) (sym (append-nil schedule)) first));
        before = inl refl;
      }

  module _ (choosing : Choosing) (now : Contents P J) (to : F) (filled : D) (under : Underway [] choosing now to filled) where
    -- pairs that are due
    pub underway-release : (new : Contents P J) (more : D) (answer : Drained) → new.state ≡ now.state
        → ((schedule : List Actor) (events : List (Event P)) (given : ℕ) (stood : StandsFor predicate now schedule events given) → Releases takes stood filled answer new more) → Underway (last_of answer) choosing new to more
    unfolding gave-release
    underway-release new more answer same releases =
        let released = releases (schedule ++ under.made) (events ++ under.taken) (given_before + length under.gave.pairs) under.gave.stood.stands in
        record {
          made = under.made;
          steps = subst (λ (s : ChainState P). MakesSteps gives is_ready (predicate old.join) (first_choosing rule) old.state from under.made choosing s to) (sym same) under.steps;
          taken = under.taken;
          feed = subst (λ (s : ChainState P). Fed gives from under.taken s.next to) (sym same) under.feed;
          lists = under.lists;
          gave =
              gave-release takes predicate given_before unfilled (schedule ++ under.made) (events ++ under.taken) under.lists now new filled more under.gave answer released;
          before = before-more under.made under.taken (length under.gave.pairs + 1) _ (up-to-more under.gave.stood.stands filled more new answer released under.gave.pairs) under.before;
        }

    module _ (joined : now.join ≡ old.join) (sound : Sound predicate now) (actor : Actor) (named : chosen choosing (is_ready to) now.state ≡ Some actor) (new : Contents P J) (onward : F) (same_join : new.join ≡ now.join) where
      -- a step
      pub underway-step : Settled now → Steps gives is_ready (predicate now.join) actor now.state to Did new.state onward → Gathers actor now Did new → Underway [] (choosing_after (length old.state.cores) actor choosing) new onward filled
      unfolding gave-step
      underway-step settled step gathers =
          let taken = asked actor now.state.next step.answer in
          let next_is : new.state.next ≡ next_known actor now.state.next step.answer = ap (λ (s : ChainState P). s.next) step.chain.1 ∙ next-of (predicate now.join) now.state step.answer actor in
          let lists = under.lists in
          let lists' = told (action_of now.state actor) lists in
          let stands = under.gave.stood.stands in
          let are = under.gave.stood.are in
          record {
            made = under.made ++ actor ∷ [];
            steps = goes_on under.made choosing now.state to actor new.state onward under.steps named (subst (λ (j : J). Steps gives is_ready (predicate j) actor now.state to Did new.state onward) joined step);
            taken = under.taken ++ taken;
            feed = subst (λ (next : Option (Given P)). Fed gives from (under.taken ++ taken) next onward) (sym next_is) (fed-more gives from to onward under.taken actor now.state.next step.answer step.feed under.feed);
            lists = lists';
            gave =
                gave-step takes predicate given_before unfilled (schedule ++ under.made) (schedule ++ (under.made ++ actor ∷ [])) (events ++ under.taken) (events ++ (under.taken ++ taken)) lists lists' now new filled under.gave
                (λ count stood.
                let made : Stood predicate new ((schedule ++ under.made) ++ actor ∷ []) ((events ++ under.taken) ++ taken) count (told (action_of now.state actor) (collected_of stood.stands.reached)) =
                stood-did predicate now new actor step.answer same_join sound (schedule ++ under.made) (events ++ under.taken) count stood.stands step.chain gathers in
                subst (λ (l : List (List (Report P))). Stood predicate new (schedule ++ (under.made ++ actor ∷ [])) (events ++ (under.taken ++ taken)) count (told (action_of now.state actor) l)) stood.are
                (subst (λ (es : List (Event P)). Stood predicate new (schedule ++ (under.made ++ actor ∷ [])) es count (told (action_of now.state actor) (collected_of stood.stands.reached))) (append_assoc events under.taken taken)
                (subst (λ (done : List Actor). Stood predicate new done ((events ++ under.taken) ++ taken) count (told (action_of now.state actor) (collected_of stood.stands.reached))) (append_assoc schedule under.made (actor ∷ [])) made)))
                (subst (λ (l : List (List (Report P))). IsPrefix (emitted l) (emitted (told (action_of now.state actor) l))) are
                (emits-next predicate now new step.answer same_join actor sound step.chain.0 (schedule ++ under.made) (events ++ under.taken) (given_before + length under.gave.pairs) stands));
            before = inr (record {
              earlier = under.made;
              actor = actor;
              steps = refl;
              before = under.taken;
              behind = taken;
              events_are = refl;
              gave = length under.gave.pairs;
              fewer = omega arith;
              chain = now;
              stands = stands;
              none_due = settled-none predicate now (schedule ++ under.made) (events ++ under.taken) (given_before + length under.gave.pairs) stands settled;
            });
          }

      -- one for which there was no memory
      pub underway-over : Steps gives is_ready (predicate now.join) actor now.state to Memory new.state onward → Gathers actor now Memory new → Underway [] choosing new onward filled
      unfolding gave-step
      underway-over step gathers =
          let next_is : new.state.next ≡ now.state.next = ap (λ (s : ChainState P). s.next) step.chain.2 in
          record {
            made = under.made;
            steps = runs_out under.made choosing now.state to actor new.state onward under.steps named (subst (λ (j : J). Steps gives is_ready (predicate j) actor now.state to Memory new.state onward) joined step);
            taken = under.taken;
            feed =
                subst (λ (next : Option (Given P)). Fed gives from under.taken next onward) (sym next_is) (subst (λ (f : F). Fed gives from under.taken now.state.next f) (sym step.feed) under.feed);
            lists = under.lists;
            gave =
                gave-step takes predicate given_before unfilled (schedule ++ under.made) (schedule ++ under.made) (events ++ under.taken) (events ++ under.taken) under.lists under.lists now new filled under.gave
                (λ count stood.
                subst (λ (l : List (List (Report P))). Stood predicate new (schedule ++ under.made) (events ++ under.taken) count l) stood.are
                (stood-over predicate now new actor step.answer same_join (schedule ++ under.made) (events ++ under.taken) count stood.stands step.chain gathers))
                (record { rest = []; is = sym (append-nil (emitted under.lists)) });
            before = under.before;
          }

  -- ---- how it ends

  module _ (choosing : Choosing) (now : Contents P J) (to : F) (filled : D) where
    abbrev Ran : Fin → Type 0
    Ran ended = RunsSerially gives is_ready takes predicate rule schedule events given_before old from unfilled ended now to filled

    ran : (last : List Drained) (under : Underway last choosing now to filled) (ended : Fin) → EndsSerial ended under.gave.pairs under.gave.stood.stands → (ended ≡ fin.Refused → Before under.made under.taken (length under.gave.pairs)) → Ran ended
    ran last under ended ends before = record {
      made = under.made;
      choosing = choosing;
      steps = under.steps;
      taken = under.taken;
      feed = under.feed.over;
      pairs = under.gave.pairs;
      drain = under.gave.drain;
      stands = under.gave.stood.stands;
      in_order = under.gave.in_order ∙ ap (λ (l : List (List (Report P))). take (length under.gave.pairs) (drop given_before (emitted l))) (sym under.gave.stood.are);
      few = few_steps (predicate now.join) (length now.state.cores) now.state.driver.flight under.gave.stood.stands.reached;
      ends = ends;
      last = before;
    }

    kept : (under : Underway [] choosing now to filled) → map answer_in under.gave.pairs ≡ replicate (length under.gave.pairs) Kept
    kept under = all-kept takes predicate (schedule ++ under.made) (events ++ under.taken) given_before under.lists unfilled now filled under.gave

    pub ran-refused : Underway (Refused ∷ []) choosing now to filled → Ran fin.Refused
    ran-refused under = ran (Refused ∷ []) under fin.Refused (under.gave.kept, under.gave.answers) (λ is. under.before)

    pub ran-over : Underway [] choosing now to filled → now.state.over ≡ true → Ran fin.Memory
    ran-over under over = ran [] under fin.Memory (kept under, over) (λ is. absurd (cc))

    -- no actor is enabled
    pub ran-done : Underway [] choosing now to filled → now.state.over ≡ false → Settled now → (feed : FeedState) → GoesWith predicate now feed → 1 ≤ now.state.driver.flight → (ready : Bool) → chosen choosing ready now.state ≡ None → Ran fin.Done
    ran-done under going settled feed goes some ready none =
        let stands = under.gave.stood.stands in
        let n = length now.state.cores in
        let flight = now.state.driver.flight in
        let reached : Reached (predicate now.join) n flight goes.schedule goes.events now.state = reached-state predicate now goes.schedule goes.events going goes.stands.reached in
        let done : IsDone now.state = stuck_is_done (predicate now.join) n flight reached some (none-enabled now.state choosing ready none) in
        let last : now.state.next ≡ Some given.Stop = (driven (predicate now.join) n flight reached goes.well_formed).last (finished-sent now.state.driver.closes done.finished) in
        ran [] under fin.Done (kept under, settled-none predicate now (schedule ++ under.made) (events ++ under.taken) (given_before + length under.gave.pairs) stands settled, going, ap is_stop last, done) (λ is. absurd (cc))

-- ---- the steps that are still to come

match-answers : {P : Type 0} (b : Bool) (answer : Given P) (later : Option (Given P)) (Gave Same : Type 0) (Says : Given P → Type 0) → (b ≡ true → later ≡ Some answer) → MatchBool b Gave Same → (b ≡ true → IfSome later Says) → MatchBool b (Says answer) Same
match-answers {P} true answer later Gave Same Says is feed says = subst (λ (o : Option (Given P)). IfSome o Says) (is refl) (says refl)
match-answers false answer later Gave Same Says is feed says = feed

-- a feed that was asked gave the answer that is to be used next
known-asked : {P : Type 0} (actor : Actor) (next : Option (Given P)) (answer : FeedAnswer P) → asks actor next answer.ready ≡ true → next_known actor next answer ≡ Some answer.given
known-asked Admit None answer was = refl
known-asked Admit (Some (given.Event event)) answer was = ap (λ b. cond b (Some answer.given) None) was
known-asked Admit (Some given.Stop) answer was = absurd (true≢false (sym was))
known-asked PortLeft next answer was = absurd (true≢false (sym was))
known-asked PortRight next answer was = absurd (true≢false (sym was))
known-asked (Core place end) next answer was = absurd (true≢false (sym was))
known-asked (Collect place) next answer was = absurd (true≢false (sym was))

match-same : (b : Bool) (What Same Other : Type 0) → (Same → Other) → MatchBool b What Same → MatchBool b What Other
match-same true What Same Other onward fact = fact
match-same false What Same Other onward fact = onward fact

event-bill : {P : Type 0} (k : ℕ) (answer : Given P) (before later : FeedState) → Answers answer before later → k * length (event_in (Some answer)) + k * later.remaining ≤ k * before.remaining
event-bill k (given.Event event) before later gives = omega (arith, mul-add k 1 later.remaining, mul-le-mul_left k gives.remaining)
event-bill k given.Stop before later gives = omega (arith, mul-le-mul_left k gives.remaining)

bill-there : {P : Type 0} (k : ℕ) (ready : Bool) (answer : Given P) (before later : FeedState) → MatchBool ready (Answers answer before later) (later ≡ before)
    → k * length (event_in (cond ready (Some answer) None)) + k * later.remaining ≤ k * before.remaining
bill-there k true answer before later feed = event-bill k answer before later feed
bill-there k false answer before later feed = omega (arith, ap (λ (f : FeedState). k * f.remaining) feed)

bill : {P : Type 0} (k : ℕ) (actor : Actor) (next : Option (Given P)) (answer : FeedAnswer P) (before later : FeedState) → MatchBool (asks actor next answer.ready) (Answers answer.given before later) (later ≡ before) → k * length (asked actor next answer) + k * later.remaining ≤ k * before.remaining
bill k Admit None answer before later feed = event-bill k answer.given before later feed
bill k Admit (Some (given.Event event)) answer before later feed = bill-there k answer.ready answer.given before later feed
bill k Admit (Some given.Stop) answer before later feed = omega (arith, ap (λ (f : FeedState). k * f.remaining) feed)
bill k PortLeft next answer before later feed = omega (arith, ap (λ (f : FeedState). k * f.remaining) feed)
bill k PortRight next answer before later feed = omega (arith, ap (λ (f : FeedState). k * f.remaining) feed)
bill k (Core place end) next answer before later feed = omega (arith, ap (λ (f : FeedState). k * f.remaining) feed)
bill k (Collect place) next answer before later feed = omega (arith, ap (λ (f : FeedState). k * f.remaining) feed)

module _ {P J F : Type 0} (gives : F → Given P → F → Type 0) (is_ready : F → Bool) (state : F → FeedState) (predicate : J → P → P → Bool) (old new : Contents P J) (actor : Actor) (from to : F) (goes : GoesWith predicate old (state from))
    (step : Steps gives is_ready (predicate old.join) actor old.state from Did new.state to) where
  abbrev matches : P → P → Bool
  matches = predicate old.join

  abbrev n : ℕ
  n = length old.state.cores

  going : old.state.over ≡ false
  going = enabled_going old.state actor step.chain.0

  of_shape : Shape n old.state.driver.flight old.state
  of_shape = shape (reached-state predicate old goes.schedule goes.events going goes.stands.reached)

  pub cores-stay : length new.state.cores ≡ n
  cores-stay =
      let reached = reached-state predicate old goes.schedule goes.events going goes.stands.reached in
      ap (λ (s : ChainState P). length s.cores) step.chain.1 ∙ (shape (steps goes.schedule goes.events old.state actor step.answer reached step.chain.0)).cores

  module _ (answers : was_asked actor old.state.next (is_ready from) Did ≡ true → IfSome new.state.next (λ given. Answers given (state from) (state to))) where
    feed_is : MatchBool (asks actor old.state.next step.answer.ready) (Answers step.answer.given (state from) (state to)) (state to ≡ state from)
    feed_is =
        match-answers (asks actor old.state.next step.answer.ready) step.answer.given new.state.next _ (state to ≡ state from) (λ (a : Given P). Answers a (state from) (state to))
        (λ was. ap (λ (s : ChainState P). s.next) step.chain.1 ∙ next-of matches old.state step.answer actor ∙ known-asked actor old.state.next step.answer was)
        (match-same (asks actor old.state.next step.answer.ready) _ _ (state to ≡ state from) (ap state) step.feed) (λ was. answers (ap (asks actor old.state.next) (sym step.ready) ∙ was))

    pub fewer-left : to_come (length new.state.cores) new.state + (4 * length new.state.cores + 4) * (state to).remaining < to_come n old.state + (4 * n + 4) * (state from).remaining
    fewer-left =
        let did = deed old.state actor going step.chain.0 in
        let all : length old.state.links ≡ n + 1 = links-length n old.state.driver.flight old.state of_shape in
        let is : new.state ≡ after_action matches old.state (Some did.action) step.answer = step.chain.1 ∙ ap (λ (o : Option (Action P)). after_action matches old.state o step.answer) did.is in
        let fewer : to_come n (after_action matches old.state (Some did.action) step.answer) + 1 ≤ to_come n old.state + (4 * n + 4) * length (taken_by did.action step.answer) = fewer-come matches old.state step.answer all of_shape.reports did.action did.doing in
        let billed = bill (4 * n + 4) actor old.state.next step.answer (state from) (state to) feed_is in
        let one : to_come (length new.state.cores) new.state ≡ to_come n (after_action matches old.state (Some did.action) step.answer) = ap (λ (m : ℕ). to_come m new.state) cores-stay ∙ ap (to_come n) is in
        let two : (4 * length new.state.cores + 4) * (state to).remaining ≡ (4 * n + 4) * (state to).remaining = ap (λ (m : ℕ). (4 * m + 4) * (state to).remaining) cores-stay in
        let three : (4 * n + 4) * length (asked actor old.state.next step.answer) ≡ (4 * n + 4) * length (taken_by did.action step.answer) = ap (λ (es : List (Event P)). (4 * n + 4) * length es) (did.takes step.answer) in
        omega (arith, fewer, billed, one, two, three)

-- ---- what stays from one step to the next

pub first-within : (n : ℕ) (rule : Chooser) → IsPlaceWithin n (first_choosing rule)
first-within n chooser.InTurn = omega arith
first-within n (chooser.Seeded seed) = tt

pub did-step : {P F : Type 0} (gives : F → Given P → F → Type 0) (is_ready : F → Bool) (matches : P → P → Bool) (actor : Actor) (old : ChainState P) (from : F) (result : Stepped) (new : ChainState P) (to : F) → Steps gives is_ready matches actor old from result new to → cause old actor ≡ None → result ≢ Memory
    → result ≡ Did
did-step gives is_ready matches actor old from Did new to step can other = refl
did-step gives is_ready matches actor old from (NotEnabled why) new to step can other = absurd (let e : Some why ≡ None = sym step.chain.0 ∙ can in cc)
did-step gives is_ready matches actor old from Memory new to step can other = absurd (other refl)

module _ {P J F D : Type 0} (gives : F → Given P → F → Type 0) (is_ready : F → Bool) (takes : D → Pair P → Drained → D → Type 0) (state : F → FeedState) (predicate : J → P → P → Bool) (rule : Chooser) (old : Contents P J) (from : F) (unfilled : D) where
  pub record Running (choosing : Choosing) (now : Contents P J) (to : F) (filled : D) : Type 0 where
    pub join : now.join ≡ old.join
    pub cores : length now.state.cores ≡ length old.state.cores
    pub goes : GoesWith predicate now (state to)
    pub within : IsPlaceWithin (length now.state.cores) choosing
    pub under : (schedule : List Actor) (events : List (Event P)) (given : ℕ) → StandsFor predicate old schedule events given → Underway gives is_ready takes predicate rule schedule events given old from unfilled [] choosing now to filled

  pub running-begins : GoesWith predicate old (state from) → (choosing : Choosing) → choosing ≡ first_choosing rule → Running choosing old from unfilled
  running-begins goes choosing first = record {
    join = refl;
    cores = refl;
    goes = goes;
    within = subst (IsPlaceWithin (length old.state.cores)) (sym first) (first-within (length old.state.cores) rule);
    under = λ schedule events given stands.
        subst (λ (c : Choosing). Underway gives is_ready takes predicate rule schedule events given old from unfilled [] c old from unfilled) (sym first) (underway-begins gives is_ready takes predicate rule schedule events given old from unfilled stands);
  }

  module _ (choosing : Choosing) (now : Contents P J) (to : F) (filled : D) (running : Running choosing now to filled) where
    module _ (new : Contents P J) (more : D) (others : new ≡ record now { kept = new.kept }) (answer : Drained)
        (releases : (schedule : List Actor) (events : List (Event P)) (given : ℕ) (stood : StandsFor predicate now schedule events given) → Releases takes stood filled answer new more) where
      same-state : new.state ≡ now.state
      same-state = ap (λ (c : Contents P J). c.state) others

      onward : (schedule : List Actor) (events : List (Event P)) (given : ℕ) → StandsFor predicate old schedule events given → Underway gives is_ready takes predicate rule schedule events given old from unfilled (last_of answer) choosing new to more
      onward schedule events given stands = underway-release gives is_ready takes predicate rule schedule events given old from unfilled choosing now to filled (running.under schedule events given stands) new more answer same-state releases

      pub running-refused : answer ≡ Refused → (schedule : List Actor) (events : List (Event P)) (given : ℕ) → StandsFor predicate old schedule events given → RunsSerially gives is_ready takes predicate rule schedule events given old from unfilled fin.Refused new to more
      running-refused refused schedule events given stands =
          ran-refused gives is_ready takes predicate rule schedule events given old from unfilled choosing new to more
          (subst (λ (a : Drained). Underway gives is_ready takes predicate rule schedule events given old from unfilled (last_of a) choosing new to more) refused (onward schedule events given stands))

      pub running-release : answer ≡ Kept → GoesWith predicate new (state to) → Running choosing new to more
      running-release kept goes = record {
        join = ap (λ (c : Contents P J). c.join) others ∙ running.join;
        cores = ap (λ (s : ChainState P). length s.cores) same-state ∙ running.cores;
        goes = goes;
        within = subst (λ (s : ChainState P). IsPlaceWithin (length s.cores) choosing) (sym same-state) running.within;
        under = λ schedule events given stands.
            subst (λ (a : Drained). Underway gives is_ready takes predicate rule schedule events given old from unfilled (last_of a) choosing new to more) kept (onward schedule events given stands);
      }

      pub release-settles : answer ≡ Kept → new.state.over ≡ false → Settled new
      release-settles kept going =
          let goes = running.goes in
          let released : Releases takes goes.stands filled Kept new more = subst (λ (a : Drained). Releases takes goes.stands filled a new more) kept (releases goes.schedule goes.events goes.given goes.stands) in
          settles predicate new goes.schedule goes.events (goes.given + length released.pairs) released.stands going released.gives.1

    module _ (actor : Actor) (named : Some actor ≡ chosen choosing (is_ready to) now.state) (result : Stepped) (new : Contents P J) (onto : F) (step : Steps gives is_ready (predicate now.join) actor now.state to result new.state onto) (gathers : Gathers actor now result new)
        (same_join : new.join ≡ now.join) where
      sound : Sound predicate now
      sound = sound-goes predicate now (state to) running.goes

      pub running-over : result ≡ Memory → (schedule : List Actor) (events : List (Event P)) (given : ℕ) → StandsFor predicate old schedule events given → RunsSerially gives is_ready takes predicate rule schedule events given old from unfilled fin.Memory new onto filled
      running-over memory schedule events given stands =
          let made : Steps gives is_ready (predicate now.join) actor now.state to Memory new.state onto = subst (λ (r : Stepped). Steps gives is_ready (predicate now.join) actor now.state to r new.state onto) memory step in
          ran-over gives is_ready takes predicate rule schedule events given old from unfilled choosing new onto filled
          (underway-over gives is_ready takes predicate rule schedule events given old from unfilled choosing now to filled (running.under schedule events given stands) running.join sound actor (sym named) new onto same_join made
          (subst (λ (r : Stepped). Gathers actor now r new) memory gathers))
          (ap (λ (s : ChainState P). s.over) made.chain.2)

      pub did : result ≢ Memory → result ≡ Did
      did other = did-step gives is_ready (predicate now.join) actor now.state to result new.state onto step (chosen-enabled now.state choosing (is_ready to) actor (sym named)) other

      module _ (other : result ≢ Memory) where
        made : Steps gives is_ready (predicate now.join) actor now.state to Did new.state onto
        made = subst (λ (r : Stepped). Steps gives is_ready (predicate now.join) actor now.state to r new.state onto) (did other) step

        gathered : Gathers actor now Did new
        gathered = subst (λ (r : Stepped). Gathers actor now r new) (did other) gathers

        pub was-going : now.state.over ≡ false
        was-going = enabled_going now.state actor made.chain.0

        pub running-step : (now.state.over ≡ false → Settled now) → GoesWith predicate new (state onto) → (next : Choosing) → next ≡ choosing_after (length now.state.cores) actor choosing → IsPlaceWithin (length now.state.cores) next → Running next new onto filled
        running-step settled goes next is within = record {
          join = same_join ∙ running.join;
          cores = cores-stay gives is_ready state predicate now new actor to onto running.goes made ∙ running.cores;
          goes = goes;
          within = subst (λ (n : ℕ). IsPlaceWithin n next) (sym (cores-stay gives is_ready state predicate now new actor to onto running.goes made)) within;
          under = λ schedule events given stands.
              subst (λ (c : Choosing). Underway gives is_ready takes predicate rule schedule events given old from unfilled [] c new onto filled) (ap (λ (n : ℕ). choosing_after n actor choosing) (sym running.cores) ∙ sym is)
              (underway-step gives is_ready takes predicate rule schedule events given old from unfilled choosing now to filled (running.under schedule events given stands) running.join sound actor (sym named) new onto same_join (settled was-going) made gathered);
        }

        pub step-settled : ((core : CoreNo) → actor ≡ Collect core → ⊥) → Settled now → Settled new
        step-settled else settled = still-settled now new actor gathered else settled

        pub step-fewer : (was_asked actor now.state.next (is_ready to) result ≡ true → IfSome new.state.next (λ given. Answers given (state to) (state onto)))
            → to_come (length new.state.cores) new.state + (4 * length new.state.cores + 4) * (state onto).remaining < to_come (length now.state.cores) now.state + (4 * length now.state.cores + 4) * (state to).remaining
        step-fewer answers =
            fewer-left gives is_ready state predicate now new actor to onto running.goes made
            (subst (λ (r : Stepped). was_asked actor now.state.next (is_ready to) r ≡ true → IfSome new.state.next (λ given. Answers given (state to) (state onto))) (did other) answers)

    -- no actor is enabled
    pub running-ends-over : now.state.over ≡ true → (schedule : List Actor) (events : List (Event P)) (given : ℕ) → StandsFor predicate old schedule events given → RunsSerially gives is_ready takes predicate rule schedule events given old from unfilled fin.Memory now to filled
    running-ends-over over schedule events given stands = ran-over gives is_ready takes predicate rule schedule events given old from unfilled choosing now to filled (running.under schedule events given stands) over

    pub running-ends-done : now.state.over ≡ false → Settled now → 1 ≤ now.state.driver.flight → (ready : Bool) → None ≡ chosen choosing ready now.state → (schedule : List Actor) (events : List (Event P)) (given : ℕ) → StandsFor predicate old schedule events given
        → RunsSerially gives is_ready takes predicate rule schedule events given old from unfilled fin.Done now to filled
    running-ends-done going settled some ready none schedule events given stands =
        ran-done gives is_ready takes predicate rule schedule events given old from unfilled choosing now to filled (running.under schedule events given stands) going settled (state to) running.goes some ready (sym none)
