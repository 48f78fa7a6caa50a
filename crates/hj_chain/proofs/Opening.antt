-- The steps of the code: what is known of a chain whose fields are open, and what follows of the chain.
use Rattle.std.proofs.Common.{◌≡◌, ◌≢◌, ℕ, ◌+◌, ◌<◌, ◌≤◌, ◌==◌, Bool, true, false, List, [], ◌∷◌, ◌++◌, length, drop, get_or, Some, None, Option, refl, ap, ap₂, sym, ◌∙◌, subst, arith, true≢false, eq-eqb}
use Rattle.std.specs.Option.{option_to_list, IfSome}
use Rattle.std.specs.declared.result.Result.{Result}
use Rattle.std.specs.declared.result.Result.TheVariants.{Ok, Err}
use Rattle.std.specs.Result.{OnOk, OnErr, is_err}
use Rattle.std.specs.List.Sorted.{IsPermutation}
use Rattle.std.proofs.lemmas.List.{length-map}
use Rattle.hj_msg.specs.Met.{pairs_of}
use Rattle.hj_msg.specs.Punctuation.{mark_of}
use Rattle.hj_collect.specs.Collector.{CollectorState, after_report}
use Rattle.hj_msg.specs.declared.event.Pair.{Pair}
use Rattle.hj_chain.proofs.Gathered.{one-each}
use Rattle.hj_base.specs.declared.numbers.CoreNo.{CoreNo}
use Rattle.hj_base.specs.declared.numbers.Side.{Side}
use Rattle.hj_base.specs.declared.numbers.Side.TheVariants.{Left, Right}
use Rattle.hj_msg.specs.declared.message.Msg.{Msg}
use Rattle.hj_msg.specs.declared.message.Msg.TheVariants.{CloseL}
use Rattle.hj_msg.specs.declared.message.Report.{Report}
use Rattle.hj_msg.specs.Core as core
use Rattle.hj_msg.specs.Driver.{DriverTurn, receipt}
use Rattle.hj_driver.specs.Driver.{DriverState}
use Rattle.hj_driver.specs.StandsFor.{StandsFor}
use Rattle.hj_chain.specs.declared.actor.Actor.{Actor}
use Rattle.hj_chain.specs.declared.actor.Actor.TheVariants.{Core, Collect}
use Rattle.hj_chain.specs.declared.actor.NotNow.TheVariants.{Empty}
use Rattle.hj_chain.specs.declared.actor.Stepped.{Stepped}
use Rattle.hj_chain.specs.declared.actor.Stepped.TheVariants.{Did, NotEnabled, Memory}
use Rattle.hj_chain.specs.Queues.{Queues}
use Rattle.hj_chain.specs.Links.{changed_at, link_at, at_port, put_in, take_out, incoming, take_in, send_out, put_rightwards, HasRoomAt}
use Rattle.hj_chain.specs.Reports.{queue_at}
use Rattle.hj_chain.specs.Chain.{FeedAnswer, ChainState, Contents, first, capacity}
use Rattle.hj_chain.specs.Reached.{collected_of}
use Rattle.hj_chain.specs.Steps.{IsGoing, StepsTo, at_port as actor_at}
use Rattle.hj_chain.specs.Taken.{HasTaken}
use Rattle.hj_chain.proofs.Ways.{length-take_in, length-put_in, lefts-put_right}
use Rattle.hj_chain.proofs.Sending.{capacity-changed}
use Rattle.hj_chain.proofs.Goings.{cause-going}
use Rattle.hj_chain.proofs.Drivers.{took-state}
use Rattle.hj_chain.proofs.Standing.{Stands, stands, first-some, log, driving, fits_both, fits_one}
use Rattle.hj_chain.proofs.Stepping.{receive-waits, receive-did, take_out-empty, turn-enabled, turn-action, turn-no_memory, turn-did, collect-no_memory, collect-did}
use Rattle.hj_chain.proofs.Advancing.{unheard}

-- one queue that changes, with the rest of a chain
same_links : {P : Type 0} (chain : ChainState P) (links : List (Queues (Msg P))) → links ≡ chain.links → record chain { links = links } ≡ chain
same_links {P} chain links is = ap (λ (ls : List (Queues (Msg P))). record chain { links = ls }) is

below : (x y : ℕ) → (x == y) ≡ false → x ≢ y
below x y other same = true≢false (sym (eq-eqb x y same) ∙ other)

-- what a step answers that was made if there was memory for it
pub turned : {T E A : Type 0} (made : Result T E) (result : Stepped) (What : A → Stepped → Type 0) → OnOk made (result ≡ Did) → OnErr made (result ≡ Memory) → OnOk made ((answer : A) → What answer Did) → OnErr made ((answer : A) → What answer Memory)
    → (answer : A) → What answer result
turned (Ok value) result What did memory done out answer = subst (What answer) (sym did) (done answer)
turned (Err refusal) result What did memory done out answer = subst (What answer) (sym memory) (out answer)

-- a call that wasn't refused
pub granted : {T E : Type 0} (result : Result T E) (What : Type 0) → is_err result ≡ false → OnOk result What → What
granted (Ok value) What fine what = what
granted (Err refusal) What fine what = absurd (true≢false fine)

module _ {P J : Type 0} (predicate : J → P → P → Bool) (opened now : Contents P J) (is : opened ≡ now) (goes : IsGoing predicate now) where
  abbrev chain : ChainState P
  chain = opened.state

  abbrev matches : P → P → Bool
  matches = predicate opened.join

  abbrev n : ℕ
  n = length chain.cores

  going_on : IsGoing predicate opened
  going_on = subst (IsGoing predicate) (sym is) goes

  known : Stands chain
  known = stands predicate opened going_on

  moved : (actor : Actor) (answer : FeedAnswer P) (result : Stepped) (new : ChainState P) → StepsTo matches actor answer chain result new → StepsTo (predicate now.join) actor answer now.state result new
  moved actor answer result new step = subst (λ (c : Contents P J). StepsTo (predicate c.join) actor answer c.state result new) is step

  -- places are in range
  pub in_links : (count : ℕ) → count ≡ n → count < length chain.links
  in_links count all = omega (arith, known.links, all)

  pub in_links_next : (place : ℕ) → place < n → place + 1 < length chain.links
  in_links_next place low = omega (arith, known.links, low)

  pub in_reports : (place : ℕ) → place < n → place < length chain.reports
  in_reports place low = omega (arith, known.reports, low)

  pub room_first : (count : ℕ) → count ≡ n → HasRoomAt Left count chain.links
  room_first count all = known.fits_right 0 (omega arith)

  pub room_port : (port : Side) (count : ℕ) → count ≡ n → HasRoomAt port count chain.links
  room_port Left count all = known.fits_right 0 (omega arith)
  room_port Right count all = omega (arith, known.fits_left count (omega (arith, all)))

  pub room_second : (count : ℕ) (links : List (Queues (Msg P))) → count ≡ n → links ≡ put_in Left count CloseL chain.links → HasRoomAt Right count links
  room_second count links all made =
      let low : count < length chain.links = omega (arith, known.links, all) in
      omega (
        arith,
        known.fits_left count (omega (arith, all)),
        ap (λ (ls : List (Queues (Msg P))). length (link_at ls count).leftwards) made,
        ap (λ (ls : List (Queues (Msg P))). (link_at ls count).capacity) made,
        ap length (lefts-put_right chain.links count low 0 (CloseL ∷ [])),
        capacity-changed 0 (put_rightwards (CloseL ∷ [])) chain.links count low (λ q. refl),
      )

  pub still_in_links : (count : ℕ) (links : List (Queues (Msg P))) → count ≡ n → links ≡ put_in Left count CloseL chain.links → count < length links
  still_in_links count links all made = omega (arith, known.links, all, ap length made, length-put_in Left count (let m : Msg P = CloseL in m) chain.links)

  -- a core's place, and room for its report
  pub in_cores : (at place : ℕ) → at ≡ place → place < length now.state.cores → at < n
  in_cores at place same low = omega (arith, same, low, ap (λ (c : Contents P J). length c.state.cores) is)

  -- a message that comes out
  pub receiving-waits : (answer : FeedAnswer P) (port : Side) (count : ℕ) (links : List (Queues (Msg P))) → count ≡ n → first (at_port port count chain.links) ≡ None → links ≡ take_out port count chain.links
      → StepsTo (predicate now.join) (actor_at port) answer now.state (NotEnabled Empty) (record chain { links = links })
  receiving-waits answer port count links all none taken =
      let nothing : first (at_port port n chain.links) ≡ None = ap (λ (m : ℕ). first (at_port port m chain.links)) (sym all) ∙ none in
      let same : links ≡ chain.links = taken ∙ ap (λ (m : ℕ). take_out port m chain.links) all ∙ take_out-empty port n chain.links nothing in
      moved (actor_at port) answer (NotEnabled Empty) (record chain { links = links }) (receive-waits matches chain known.going answer port (record chain { links = links }) nothing (same_links chain links same))

  pub receiving-did : (answer : FeedAnswer P) (port : Side) (count : ℕ) (message : Msg P) (links : List (Queues (Msg P))) (driver : DriverState) (new : ChainState P) → count ≡ n
      → first (at_port port count chain.links) ≡ Some message → links ≡ take_out port count chain.links
      → ((l : List (DriverTurn P)) → StandsFor chain.driver l → StandsFor driver (l ++ receipt port message ∷ [])) → driver.flight ≡ chain.driver.flight
      → new ≡ record chain { driver = driver; links = links } → StepsTo (predicate now.join) (actor_at port) answer now.state Did new
  receiving-did answer port count message links driver new all some taken turn same made =
      let found : first (at_port port n chain.links) ≡ Some message = ap (λ (m : ℕ). first (at_port port m chain.links)) (sym all) ∙ some in
      let driver_is = took-state chain.driver driver (log predicate opened going_on) port message (driving predicate opened going_on).stands turn same in
      let links_are : links ≡ take_out port n chain.links = taken ∙ ap (λ (m : ℕ). take_out port m chain.links) all in
      moved (actor_at port) answer Did new
      (receive-did matches chain known.going answer port message new found
      (made ∙ ap₂ (λ (d : DriverState) (ls : List (Queues (Msg P))). record chain { driver = d; links = ls }) driver_is links_are))

  -- a report that is collected
  pub collecting-no_memory : (answer : FeedAnswer P) (place : CoreNo) (at : ℕ) (report : Report P) → at ≡ place.0 → at < n → first (queue_at chain.reports at) ≡ Some report
      → StepsTo (predicate now.join) (Collect place) answer now.state Memory (record chain { over = true })
  collecting-no_memory answer place at report is_at low some =
      let found = first-some (queue_at chain.reports place.0) report (ap (λ (m : ℕ). first (queue_at chain.reports m)) (sym is_at) ∙ some) in
      moved (Collect place) answer Memory (record chain { over = true })
      (collect-no_memory matches chain known.going answer place report found.0 (record chain { over = true }) (omega (arith, is_at, low)) found.1 refl)

  pub collecting-did : (answer : FeedAnswer P) (place : CoreNo) (at : ℕ) (report : Report P) (reports : List (List (Report P))) → at ≡ place.0 → at < n → first (queue_at chain.reports at) ≡ Some report
      → reports ≡ changed_at at (drop 1) chain.reports → StepsTo (predicate now.join) (Collect place) answer now.state Did (record chain { reports = reports })
  collecting-did answer place at report reports is_at low some taken =
      let new : ChainState P = record chain { reports = reports } in
      moved (Collect place) answer Did new
      (collect-did matches chain known.going answer place report new (omega (arith, is_at, low)) (ap (λ (m : ℕ). first (queue_at chain.reports m)) (sym is_at) ∙ some)
      (ap (λ (rs : List (List (Report P))). record chain { reports = rs }) (taken ∙ ap (λ (m : ℕ). changed_at m (drop 1) chain.reports) is_at)))

  pub in_collector : (place : CoreNo) (at : ℕ) → at ≡ place.0 → at < n → place.0 < length opened.collector.left
  in_collector place at is_at low =
      let taken = collected_of going_on.stands.reached in omega (arith, is_at, low, ap length going_on.stands.collector.left, length-map taken (mark_of Left), one-each going_on.stands.reached)

  pub collecting-gathers : (place : CoreNo) (at : ℕ) (report : Report P) (collector : CollectorState) (kept : List (Pair P)) → at ≡ place.0 → first (queue_at chain.reports at) ≡ Some report → collector ≡ after_report place report opened.collector
      → IsPermutation (opened.kept ++ pairs_of report) kept → IfSome (first (queue_at now.state.reports place.0)) (λ r. (collector ≡ after_report place r now.collector) × IsPermutation (now.kept ++ pairs_of r) kept)
  collecting-gathers place at report collector kept is_at some noted added =
      let here : first (queue_at chain.reports place.0) ≡ Some report = ap (λ (m : ℕ). first (queue_at chain.reports m)) (sym is_at) ∙ some in
      subst (λ (c : Contents P J). IfSome (first (queue_at c.state.reports place.0)) (λ r. (collector ≡ after_report place r c.collector) × IsPermutation (c.kept ++ pairs_of r) kept)) is
      (subst (λ (o : Option (Report P)). IfSome o (λ r. (collector ≡ after_report place r opened.collector) × IsPermutation (opened.kept ++ pairs_of r) kept)) (sym here) (noted, added))

  -- the message that comes in first at an end of a core
  pub comes_in : (end : Side) (at place : ℕ) (message : Msg P) → at ≡ place → first (incoming end at chain.links) ≡ Some message → first (incoming end place now.state.links) ≡ Some message
  comes_in end at place message is_at some =
      subst (λ (c : Contents P J). first (incoming end place c.state.links) ≡ Some message) is (ap (λ (m : ℕ). first (incoming end m chain.links)) (sym is_at) ∙ some)

  -- a message that a core handles
  named : (actor : CoreNo → Actor) (place : CoreNo) (at : ℕ) (answer : FeedAnswer P) (result : Stepped) (new : ChainState P) → at ≡ place.0 → StepsTo matches (actor (record { 0 = at })) answer chain result new
      → StepsTo (predicate now.join) (actor place) answer now.state result new
  named actor place at answer result new is_at step = moved (actor place) answer result new (subst (λ (m : ℕ). StepsTo matches (actor (record { 0 = m })) answer chain result new) is_at step)

  pub turning-begins : (place : CoreNo) (end : Side) (at : ℕ) (message : Msg P) (most : ℕ) (links : List (Queues (Msg P))) → at ≡ place.0 → place.0 < length now.state.cores → most ≡ capacity chain.driver.flight
      → (length (queue_at chain.reports at) == most) ≡ false → first (incoming end at chain.links) ≡ Some message → links ≡ take_in end at chain.links
      → HasTaken predicate place end message now (record opened { state = record chain { links = links } })
  turning-begins place end at message most links is_at low most_is room came taken =
      let free : (length (queue_at chain.reports place.0) == capacity chain.driver.flight) ≡ false = ap₂ (λ (p m : ℕ). length (queue_at chain.reports p) == m) (sym is_at) (sym most_is) ∙ room in
      record {
        going = goes;
        within = low;
        room = subst (λ (c : Contents P J). (length (queue_at c.state.reports place.0) == capacity c.state.driver.flight) ≡ false) is free;
        came_in = comes_in end at place.0 message is_at came;
        rest =
            ap (λ (ls : List (Queues (Msg P))). record opened { state = record chain { links = ls } }) (taken ∙ ap (λ (p : ℕ). take_in end p chain.links) is_at)
            ∙ ap (λ (c : Contents P J). record c { state = record c.state { links = take_in end place.0 c.state.links } }) is;
      }

  module _ (end : Side) (at : ℕ) (message : Msg P) (most : ℕ) (low : at < n) (some : first (incoming end at chain.links) ≡ Some message) (most_is : most ≡ capacity chain.driver.flight)
      (room : (length (queue_at chain.reports at) == most) ≡ false) where
    not_full : (length (queue_at chain.reports at) == capacity chain.driver.flight) ≡ false
    not_full = ap (λ (m : ℕ). length (queue_at chain.reports at) == m) (sym most_is) ∙ room

    pub turning-room : length (queue_at chain.reports at) < most
    turning-room = omega (arith, known.room at low, most_is, below (length (queue_at chain.reports at)) most room)

    pub turning-in_links : (links : List (Queues (Msg P))) → links ≡ take_in end at chain.links → at + 1 < length links
    turning-in_links links taken = omega (arith, ap length taken, length-take_in end at chain.links, in_links_next at low)

    pub turning-room_left : (links : List (Queues (Msg P))) → links ≡ take_in end at chain.links → length (link_at links at).leftwards + 1 ≤ (link_at links at).capacity
    turning-room_left links taken =
        let found = first-some (incoming end at chain.links) message some in
        subst (λ (ls : List (Queues (Msg P))). length (link_at ls at).leftwards + 1 ≤ (link_at ls at).capacity) (sym taken) (fits_one predicate opened going_on (record { 0 = at }) end message found.0 found.1 low)

    pub turning-room_right : (links : List (Queues (Msg P))) (to : core.Sends P) → links ≡ take_in end at chain.links → to ≡ core.sends at n message
        → length (link_at links (at + 1)).rightwards + length to.right ≤ (link_at links (at + 1)).capacity
    turning-room_right links to taken is_to =
        let enabled = cause-going chain (Core (record { 0 = at }) end) known.going ∙ turn-enabled matches chain known.going (unheard false) (record { 0 = at }) end message low some not_full in
        let action = turn-action matches chain known.going (unheard false) (record { 0 = at }) end message some in
        subst (λ (ls : List (Queues (Msg P))). length (link_at ls (at + 1)).rightwards + length to.right ≤ (link_at ls (at + 1)).capacity) (sym taken)
        (subst (λ (s : core.Sends P). length (link_at (take_in end at chain.links) (at + 1)).rightwards + length s.right ≤ (link_at (take_in end at chain.links) (at + 1)).capacity) (sym is_to)
        (fits_both predicate opened going_on (record { 0 = at }) end message (unheard false) enabled action low))

    pub turning-no_memory : (answer : FeedAnswer P) (place : CoreNo) (cores : List (core.State P)) → at ≡ place.0 → cores ≡ chain.cores
        → StepsTo (predicate now.join) (Core place end) answer now.state Memory (record chain { cores = cores; over = true })
    turning-no_memory answer place cores is_at same =
        named (λ p. Core p end) place at answer Memory (record chain { cores = cores; over = true }) is_at
        (turn-no_memory matches chain known.going answer (record { 0 = at }) end message (record chain { cores = cores; over = true }) low some not_full
        (ap (λ (cs : List (core.State P)). record chain { cores = cs; over = true }) same))

    pub turning-did : (answer : FeedAnswer P) (place : CoreNo) (links : List (Queues (Msg P))) (cores : List (core.State P)) (reports : List (List (Report P))) → at ≡ place.0
        → links ≡ send_out at (core.sends at n message).left (core.sends at n message).right (take_in end at chain.links)
        → cores ≡ changed_at at (λ state. core.after at n state message) chain.cores
        → reports ≡ changed_at at (λ queue. queue ++ option_to_list (core.report matches (get_or chain.cores at core.empty_state) message)) chain.reports
        → StepsTo (predicate now.join) (Core place end) answer now.state Did (record chain { links = links; cores = cores; reports = reports })
    turning-did answer place links cores reports is_at links_are cores_are reports_are =
        let new : ChainState P = record chain { links = links; cores = cores; reports = reports } in
        named (λ p. Core p end) place at answer Did new is_at
        (turn-did matches chain known.going answer (record { 0 = at }) end message new low some not_full
        (ap (λ (ls : List (Queues (Msg P))). record chain { links = ls; cores = cores; reports = reports }) links_are
        ∙ ap₂ (λ (cs : List (core.State P)) (rs : List (List (Report P))). record chain {
          links = send_out at (core.sends at n message).left (core.sends at n message).right (take_in end at chain.links);
          cores = cs;
          reports = rs;
        }) cores_are reports_are))
