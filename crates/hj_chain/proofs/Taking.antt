-- The turn of a core that took its message: what is known of the chain, and what its step leaves.
use Rattle.std.proofs.Common.{◌≡◌, ℕ, zero, suc, ◌+◌, ◌<◌, ◌≤◌, ◌==◌, Bool, true, false, List, [], ◌∷◌, ◌++◌, drop, length, get_or, Some, refl, ap, sym, ◌∙◌, subst, arith}
use Rattle.std.specs.Option.{option_to_list}
use Rattle.hj_base.specs.declared.numbers.CoreNo.{CoreNo}
use Rattle.hj_base.specs.declared.numbers.Side.{Side}
use Rattle.hj_base.specs.declared.numbers.Side.TheVariants.{Left, Right}
use Rattle.hj_msg.specs.declared.message.Msg.{Msg}
use Rattle.hj_msg.specs.declared.message.Report.{Report}
use Rattle.hj_msg.specs.Core as core
use Rattle.hj_chain.specs.declared.actor.Actor.TheVariants.{Core}
use Rattle.hj_chain.specs.declared.actor.Stepped.TheVariants.{Did, Memory}
use Rattle.hj_chain.specs.Queues.{Queues, no_messages}
use Rattle.hj_chain.specs.Links.{changed_at, link_at, incoming, put_back, send_out, take_in, take_leftwards, take_rightwards, HasRoomBack}
use Rattle.hj_chain.specs.Reports.{queue_at}
use Rattle.hj_chain.specs.Chain.{ChainState, FeedAnswer, Contents, capacity, first}
use Rattle.hj_chain.specs.Steps.{StepsTo}
use Rattle.hj_chain.specs.Taken.{HasTaken}
use Rattle.hj_chain.proofs.Opening.{turning-room, turning-in_links, turning-room_left, turning-room_right, turning-no_memory, turning-did}
use Rattle.hj_chain.proofs.Places.{get_or-changed_at}
use Rattle.hj_chain.proofs.Standing.{Stands, capacity-take_in, first-some, stands}

-- ---- the links

-- the message that was taken put back
restored : {X : Type 0} (i : ℕ) (f g : X → X) (xs : List X) (d : X) → i < length xs → g (f (get_or xs i d)) ≡ get_or xs i d → changed_at i g (changed_at i f xs) ≡ xs
restored i f g [] d low same = refl
restored zero f g (x ∷ xs) d low same = ap (λ y. y ∷ xs) same
restored (suc i) f g (x ∷ xs) d low same = ap (λ ys. x ∷ ys) (restored i f g xs d (omega (arith, low)) same)

pub put_back-taken : {M : Type 0} (end : Side) (place : ℕ) (message : M) (links : List (Queues M)) → place + 1 < length links → first (incoming end place links) ≡ Some message → put_back end place message (take_in end place links) ≡ links
put_back-taken {M} Left place message links low came =
    let found = first-some (incoming Left place links) message came in
    restored place take_rightwards _ links _ (omega (arith, low))
    (ap (λ (ms : List M). record (link_at links place) { rightwards = message ∷ drop 1 ms }) found.1 ∙ ap (λ (ms : List M). record (link_at links place) { rightwards = ms }) (sym found.1))
put_back-taken {M} Right place message links low came =
    let found = first-some (incoming Right place links) message came in
    restored (place + 1) take_leftwards _ links _ low
    (ap (λ (ms : List M). record (link_at links (place + 1)) { leftwards = message ∷ drop 1 ms }) found.1 ∙ ap (λ (ms : List M). record (link_at links (place + 1)) { leftwards = ms }) (sym found.1))

-- there is room for it
taken-shorter : {M : Type 0} (end : Side) (place : ℕ) (message : M) (links : List (Queues M)) → place + 1 < length links → first (incoming end place links) ≡ Some message
    → length (incoming end place (take_in end place links)) + 1 ≡ length (incoming end place links)
taken-shorter {M} Left place message links low came =
    let found = first-some (incoming Left place links) message came in
    omega (arith, ap length (ap (λ (q : Queues M). q.rightwards) (get_or-changed_at place take_rightwards links (no_messages 0) (omega (arith, low)))), ap (λ (ms : List M). length (drop 1 ms)) found.1, ap length found.1)
taken-shorter {M} Right place message links low came =
    let found = first-some (incoming Right place links) message came in
    omega (arith, ap length (ap (λ (q : Queues M). q.leftwards) (get_or-changed_at (place + 1) take_leftwards links (no_messages 0) low)), ap (λ (ms : List M). length (drop 1 ms)) found.1, ap length found.1)

-- ---- a chain that has taken its message

module _ {P J : Type 0} (predicate : J → P → P → Bool) (core_no : CoreNo) (end : Side) (message : Msg P) (before : Contents P J) where
  -- the same of a chain whose fields are open, and of one whose cores are as they were
  pub opened : (whole now : Contents P J) → whole ≡ now → HasTaken predicate core_no end message before now → HasTaken predicate core_no end message before whole
  opened whole now is taken = subst (HasTaken predicate core_no end message before) (sym is) taken

  pub recored : (now : Contents P J) (cores : List (core.State P)) → cores ≡ now.state.cores → HasTaken predicate core_no end message before now → HasTaken predicate core_no end message before (record now { state = record now.state { cores = cores } })
  recored now cores same taken = opened (record now { state = record now.state { cores = cores } }) now (ap (λ (cs : List (core.State P)). record now { state = record now.state { cores = cs } }) same) taken

  pub taken-same : (same : Msg P) (now : Contents P J) → same ≡ message → HasTaken predicate core_no end message before now → HasTaken predicate core_no end same before now
  taken-same same now is taken = subst (λ (m : Msg P). HasTaken predicate core_no end m before now) (sym is) taken

  module _ (now : Contents P J) (taken : HasTaken predicate core_no end message before now) (at : ℕ) (is_at : at ≡ core_no.0) where
    abbrev most : ℕ
    most = capacity before.state.driver.flight

    low : at < length before.state.cores
    low = omega (arith, is_at, taken.within)

    some : first (incoming end at before.state.links) ≡ Some message
    some = ap (λ (p : ℕ). first (incoming end p before.state.links)) is_at ∙ taken.came_in

    room : (length (queue_at before.state.reports at) == most) ≡ false
    room = ap (λ (p : ℕ). length (queue_at before.state.reports p) == most) is_at ∙ taken.room

    links_are : now.state.links ≡ take_in end at before.state.links
    links_are = ap (λ (c : Contents P J). c.state.links) taken.rest ∙ ap (λ (p : ℕ). take_in end p before.state.links) (sym is_at)

    cores_are : length now.state.cores ≡ length before.state.cores
    cores_are = ap (λ (c : Contents P J). length c.state.cores) taken.rest

    known : Stands before.state
    known = stands predicate before taken.going

    pub taken-in_cores : at < length now.state.cores
    taken-in_cores = omega (arith, low, cores_are)

    pub taken-in_links : at + 1 < length now.state.links
    taken-in_links = turning-in_links predicate before before refl taken.going end at message most low some refl room now.state.links links_are

    pub taken-in_reports : at < length now.state.reports
    taken-in_reports = omega (arith, low, known.reports, ap (λ (c : Contents P J). length c.state.reports) taken.rest)

    pub taken-room : (held : ℕ) → held ≡ capacity now.state.driver.flight → length (queue_at now.state.reports at) < held
    taken-room held is =
        omega (
          arith,
          turning-room predicate before before refl taken.going end at message most low some refl room,
          is,
          ap (λ (c : Contents P J). capacity c.state.driver.flight) taken.rest,
          ap (λ (c : Contents P J). length (queue_at c.state.reports at)) taken.rest,
        )

    pub taken-room_left : length (link_at now.state.links at).leftwards + 1 ≤ (link_at now.state.links at).capacity
    taken-room_left = turning-room_left predicate before before refl taken.going end at message most low some refl room now.state.links links_are

    pub taken-room_right : (to : core.Sends P) → to ≡ core.sends at (length now.state.cores) message → length (link_at now.state.links (at + 1)).rightwards + length to.right ≤ (link_at now.state.links (at + 1)).capacity
    taken-room_right to is =
        turning-room_right predicate before before refl taken.going end at message most low some refl room now.state.links to links_are (is ∙ ap (λ (n : ℕ). core.sends at n message) cores_are)

    in_before : at + 1 < length before.state.links
    in_before = omega (arith, low, known.links)

    back : (side : Side) → side ≡ end → HasRoomBack side at now.state.links
    back Left is =
        let came : first (incoming Left at before.state.links) ≡ Some message = ap (λ (s : Side). first (incoming s at before.state.links)) is ∙ some in
        let links : now.state.links ≡ take_in Left at before.state.links = links_are ∙ ap (λ (s : Side). take_in s at before.state.links) (sym is) in
        omega (
          arith,
          known.fits_right at (omega (arith, low)),
          taken-shorter Left at message before.state.links in_before came,
          ap (λ (ls : List (Queues (Msg P))). length (link_at ls at).rightwards) links,
          ap (λ (ls : List (Queues (Msg P))). (link_at ls at).capacity) links,
          capacity-take_in Left at before.state.links at (omega (arith, in_before)),
        )
    back Right is =
        let came : first (incoming Right at before.state.links) ≡ Some message = ap (λ (s : Side). first (incoming s at before.state.links)) is ∙ some in
        let links : now.state.links ≡ take_in Right at before.state.links = links_are ∙ ap (λ (s : Side). take_in s at before.state.links) (sym is) in
        omega (
          arith,
          known.fits_left (at + 1) (omega (arith, low)),
          taken-shorter Right at message before.state.links in_before came,
          ap (λ (ls : List (Queues (Msg P))). length (link_at ls (at + 1)).leftwards) links,
          ap (λ (ls : List (Queues (Msg P))). (link_at ls (at + 1)).capacity) links,
          capacity-take_in Right at before.state.links (at + 1) in_before,
        )

    pub taken-room_back : HasRoomBack end at now.state.links
    taken-room_back = back end refl

    -- the message put back: the chain is as before
    pub taken-back : (links : List (Queues (Msg P))) → links ≡ put_back end at message now.state.links → record now { state = record now.state { links = links; over = true } } ≡ record before { state = record before.state { over = true } }
    taken-back links put =
        let same : links ≡ before.state.links = put ∙ ap (put_back end at message) links_are ∙ put_back-taken end at message before.state.links in_before some in
        ap (λ (ls : List (Queues (Msg P))). record now { state = record now.state { links = ls; over = true } }) same ∙ ap (λ (c : Contents P J). record c { state = record c.state { links = before.state.links; over = true } }) taken.rest

    pub taken-no_memory : (answer : FeedAnswer P) (new : Contents P J) → new ≡ record before { state = record before.state { over = true } } → StepsTo (predicate before.join) (Core core_no end) answer before.state Memory new.state
    taken-no_memory answer new is =
        subst (λ (c : Contents P J). StepsTo (predicate before.join) (Core core_no end) answer before.state Memory c.state) (sym is)
        (turning-no_memory predicate before before refl taken.going end at message most low some refl room answer core_no before.state.cores is_at refl)

    pub taken-others : (new : Contents P J) → new ≡ record before { state = record before.state { over = true } } → new ≡ record now { state = new.state }
    taken-others new is =
        let gone : ChainState P = record before.state { over = true } in
        subst (λ (k : Contents P J). k ≡ record now { state = k.state }) (sym is) (ap (λ (c : Contents P J). record c { state = gone }) (sym taken.rest))

    pub taken-did : (answer : FeedAnswer P) (links : List (Queues (Msg P))) (cores : List (core.State P)) (reports : List (List (Report P)))
        → links ≡ send_out at (core.sends at (length now.state.cores) message).left (core.sends at (length now.state.cores) message).right now.state.links
        → cores ≡ changed_at at (λ state. core.after at (length now.state.cores) state message) now.state.cores
        → reports ≡ changed_at at (λ queue. queue ++ option_to_list (core.report (predicate now.join) (get_or now.state.cores at core.empty_state) message)) now.state.reports
        → StepsTo (predicate before.join) (Core core_no end) answer before.state Did (record now.state { links = links; cores = cores; reports = reports })
    taken-did answer links cores reports =
        let begun : Contents P J = record before { state = record before.state { links = take_in end at before.state.links } } in
        let rest : now ≡ begun = taken.rest ∙ ap (λ (p : ℕ). record before { state = record before.state { links = take_in end p before.state.links } }) (sym is_at) in
        subst (λ (c : Contents P J). links ≡ send_out at (core.sends at (length c.state.cores) message).left (core.sends at (length c.state.cores) message).right c.state.links
        → cores ≡ changed_at at (λ state. core.after at (length c.state.cores) state message) c.state.cores
        → reports ≡ changed_at at (λ queue. queue ++ option_to_list (core.report (predicate c.join) (get_or c.state.cores at core.empty_state) message)) c.state.reports
        → StepsTo (predicate before.join) (Core core_no end) answer before.state Did (record c.state { links = links; cores = cores; reports = reports })) (sym rest)
        (λ sent changed reported. turning-did predicate before before refl taken.going end at message most low some refl room answer core_no links cores reports is_at sent changed reported)
