-- The pair that a chain gives, and what it stands for then.
use Rattle.std.proofs.Common.{◌≡◌, ℕ, zero, suc, ◌+◌, Bool, true, false, cond, List, [], ◌∷◌, ◌++◌, length, take, drop, slice_get, Contains, Some, None, Option, refl, ap, sym, ◌∙◌, subst, arith}
use Rattle.std.specs.Option.{IfSome, IfNone, option_to_list}
use Rattle.std.specs.List.Sorted.{IsPermutation}
use Rattle.std.proofs.lemmas.List.Elements.{All-contains}
use Rattle.hj_msg.specs.declared.event.Event.{Event}
use Rattle.hj_msg.specs.declared.event.Pair.{Pair}
use Rattle.hj_msg.specs.declared.message.Report.{Report}
use Rattle.hj_msg.specs.Valid.{later}
use Rattle.hj_msg.specs.Kang.{kang}
use Rattle.hj_msg.specs.Feed.{FeedState, is_stop}
use Rattle.hj_msg.specs.Run.{IsRun}
use Rattle.hj_msg.specs.Met.{met}
use Rattle.hj_msg.specs.Punctuation.{Mark, punctuation}
use Rattle.hj_msg.specs.Emission.{is_within, comes_before, emitted}
use Rattle.hj_msg.proofs.Members.{Ranked, Ranked-filter}
use Rattle.hj_msg.proofs.Emitting.{First, joined_ranked, emitted_is}
use Rattle.hj_collect.specs.Giving.{AreTakenOut, IsTakenOut, Releases}
use Rattle.hj_collect.specs.Collector.{least_mark}
use Rattle.hj_collect.proofs.Emissions.{within}
use Rattle.hj_collect.proofs.Due.{AreApart, apart-kept, none-due}
use Rattle.hj_collect.proofs.Giving.{AreNext, are-next}
use Rattle.hj_collect.proofs.Following.{least_follows}
use Rattle.hj_chain.specs.declared.actor.Actor.{Actor}
use Rattle.hj_chain.specs.Chain.{Contents}
use Rattle.hj_chain.specs.Reached.{StandsFor, collected_of, next_pair, run_of}
use Rattle.hj_chain.specs.Steps.{GoesWith}
use Rattle.hj_chain.proofs.Projection.{is_run, all_collected}
use Rattle.hj_chain.proofs.Goings.{Sound}

none-either : {X : Type 0} (b : Bool) (o : Option X) → o ≡ None → None ≡ cond b None o
none-either true o is = refl
none-either false o is = sym is

-- a pair that is released is taken out alone
pub released-out : {P : Type 0} (mark : Option Mark) (kept left : List (Pair P)) (result : Option (Pair P)) → Releases mark kept result left → AreTakenOut mark kept (option_to_list result) left
released-out mark kept left None releases = releases.unchanged
released-out mark kept left (Some pair) releases = (left, releases.out, refl)

-- the first one of what stands from a place on
first-next : {X : Type 0} (xs : List X) (i : ℕ) (x : X) → x ∷ [] ≡ take 1 (drop i xs) → slice_get xs i ≡ Some x
first-next [] zero x is = absurd (cc)
first-next [] (suc i) x is = absurd (cc)
first-next (y ∷ xs) zero x is = let same : x ≡ y = cc in ap Some (sym same)
first-next (y ∷ xs) (suc i) x is = first-next xs i x is

module _ {P J : Type 0} (predicate : J → P → P → Bool) (chain : Contents P J) where
  -- the pairs that a chain gives next, where none of those that it keeps is within the punctuation
  pub gives-none : ((pair : Pair P) → Contains chain.kept pair → is_within (least_mark chain.collector) (later pair) ≡ false)
      → (schedule : List Actor) (events : List (Event P)) (count : ℕ) (stands : StandsFor predicate chain schedule events count) → None ≡ next_pair stands
  gives-none each schedule events count stands =
      let lists = collected_of stands.reached in
      let mark : least_mark chain.collector ≡ punctuation lists = least_follows chain.collector lists stands.collector in
      none-either chain.state.over (slice_get (emitted lists) count)
      (none-due (punctuation lists) (met lists) chain.kept count stands.released (λ pair h. ap (λ m. is_within m (later pair)) (sym mark) ∙ each pair h))

  -- of the pairs that are kept within the punctuation no two are equal in rank
  apart : Sound predicate chain → AreApart (least_mark chain.collector) chain.kept
  apart sound =
      let reached = sound.stands.reached in
      let lists = collected_of reached in
      let n = length chain.state.cores in
      let flight = chain.state.driver.flight in
      let matches = predicate chain.join in
      let is : IsRun (run_of reached) = is_run matches n flight reached sound.well_formed in
      let joined = kang matches sound.events in
      let kept : List (Pair P) → Type 0 = Ranked (λ p q. comes_before p q ≡ true) in
      let ranked : kept (emitted lists) =
      subst kept (sym (emitted_is (run_of reached) is lists (all_collected matches n flight reached sound.well_formed).of_run)) (Ranked-filter First (λ pair. is_within (punctuation lists) (later pair)) joined (joined_ranked (run_of reached) is)) in
      subst (λ (m : Option Mark). AreApart m chain.kept) (sym (least_follows chain.collector lists sound.stands.collector)) (apart-kept (punctuation lists) (met lists) chain.kept sound.given sound.stands.released ranked)

  -- pairs that are taken out of those that are kept: they are the next ones of the emission
  module _ (sound : Sound predicate chain) (out left : List (Pair P)) (taken : AreTakenOut (least_mark chain.collector) chain.kept out left)
      (schedule : List Actor) (events : List (Event P)) (count : ℕ) (stands : StandsFor predicate chain schedule events count) where
    abbrev lists : List (List (Report P))
    lists = collected_of stands.reached

    pub next : AreNext (punctuation lists) (met lists) count out left
    next =
        let mark : least_mark chain.collector ≡ punctuation lists = least_follows chain.collector lists stands.collector in
        are-next (punctuation lists) (met lists) out chain.kept left count stands.within stands.released (subst (λ (m : Option Mark). AreApart m chain.kept) mark (apart sound))
        (subst (λ (m : Option Mark). AreTakenOut m chain.kept out left) mark taken)

    abbrev pub after : (given : ℕ) → count + length out ≡ given → StandsFor predicate (record chain { kept = left }) schedule events given
    after given is = record {
      reached = stands.reached;
      collector = stands.collector;
      within = omega (arith, next.within, is);
      released = subst (λ (n : ℕ). IsPermutation (take n (emitted lists) ++ left) (met lists)) is next.released;
    }

  -- the pair that is released is the one to be given
  pair-is : Sound predicate chain → chain.state.over ≡ false → (left : List (Pair P)) (result : Option (Pair P)) → Releases (least_mark chain.collector) chain.kept result left
      → (schedule : List Actor) (events : List (Event P)) (count : ℕ) (stands : StandsFor predicate chain schedule events count) → result ≡ next_pair stands
  pair-is sound going left None releases schedule events count stands =
      gives-none (λ pair h. All-contains (λ pair. is_within (least_mark chain.collector) (later pair) ≡ false) chain.kept pair (releases.none refl) h) schedule events count stands
  pair-is sound going left (Some pair) releases schedule events count stands =
      let all = emitted (collected_of stands.reached) in
      let out = released-out (least_mark chain.collector) chain.kept left (Some pair) releases in
      sym (ap (λ b. cond b None (slice_get all count)) going ∙ first-next all count pair (next sound (pair ∷ []) left out schedule events count stands).next)

-- the same of a chain whose fields are open
module _ {P J : Type 0} (predicate : J → P → P → Bool) (opened now : Contents P J) (is : opened ≡ now) (goes : (feed : FeedState) × GoesWith predicate now feed) where
  pub sound : Sound predicate opened
  sound =
      let there = goes.1 in
      subst (Sound predicate) (sym is) (record { schedule = there.schedule; events = there.events; given = there.given; stands = there.stands; well_formed = there.well_formed })

  module _ (out left : List (Pair P)) (taken : AreTakenOut (least_mark opened.collector) opened.kept out left) where
    pub stands-after : (schedule : List Actor) (events : List (Event P)) (count : ℕ) → StandsFor predicate now schedule events count → StandsFor predicate (record opened { kept = left }) schedule events (count + length out)
    stands-after schedule events count stands =
        after predicate opened sound out left taken schedule events count (subst (λ (c : Contents P J). StandsFor predicate c schedule events count) (sym is) stands) (count + length out) refl

    pub goes-after : (feed : FeedState) → GoesWith predicate now feed → GoesWith predicate (record opened { kept = left }) feed
    goes-after feed before =
        record {
          schedule = before.schedule;
          events = before.events;
          given = before.given + length out;
          stands = stands-after before.schedule before.events before.given before.stands;
          well_formed = before.well_formed;
          numbering = before.numbering;
          stopped = λ stop. before.stopped (ap (λ (c : Contents P J). is_stop c.state.next) (sym is) ∙ stop);
        }

  module _ (left : List (Pair P)) (result : Option (Pair P)) (releases : Releases (least_mark opened.collector) opened.kept result left) where
    pub pair-next : opened.state.over ≡ false → (schedule : List Actor) (events : List (Event P)) (count : ℕ) (stands : StandsFor predicate now schedule events count) → result ≡ next_pair stands
    pair-next going =
        subst (λ (c : Contents P J). (schedule : List Actor) (events : List (Event P)) (count : ℕ) (stands : StandsFor predicate c schedule events count) → result ≡ next_pair stands) is
        (pair-is predicate opened sound going left result releases)

    pub pair-unchanged : IfNone result (record opened { kept = left } ≡ now)
    pair-unchanged = by result releases.unchanged
      where
        by : (r : Option (Pair P)) → IfNone r (left ≡ opened.kept) → IfNone r (record opened { kept = left } ≡ now)
        by None same = ap (λ (kept : List (Pair P)). record opened { kept = kept }) same ∙ is
        by (Some pair) same = same

    pub pair-kept : IfSome result (λ pair. IsPermutation now.kept (pair ∷ left))
    pair-kept = subst (λ (c : Contents P J). IfSome result (λ pair. IsPermutation c.kept (pair ∷ left))) is (by result releases.out)
      where
        by : (r : Option (Pair P)) → IfSome r (λ pair. IsTakenOut (least_mark opened.collector) opened.kept left pair) → IfSome r (λ pair. IsPermutation opened.kept (pair ∷ left))
        by None out = tt
        by (Some pair) out = out.taken
