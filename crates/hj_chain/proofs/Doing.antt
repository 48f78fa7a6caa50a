-- What an enabled actor does.
use Rattle.std.proofs.Common.{◌≡◌, ◌≢◌, ℕ, ◌<◌, nat_lt, Bool, true, false, cond, List, [], ◌∷◌, length, Some, None, Option, refl, ap, sym, ◌∙◌, eq-eqb, true≢false}
use Rattle.std.proofs.lemmas.Bool.{ltb-true}
use Rattle.std.specs.Option.{option_map}
use Rattle.hj_base.specs.declared.numbers.Side.{Side}
use Rattle.hj_base.specs.declared.numbers.Side.TheVariants.{Left, Right}
use Rattle.hj_msg.specs.declared.event.Event.{Event}
use Rattle.hj_msg.specs.declared.feed.Given.{Given}
use Rattle.hj_msg.specs.declared.feed.Given.TheVariants as given
use Rattle.hj_msg.specs.declared.message.Msg.{Msg}
use Rattle.hj_msg.specs.declared.message.Report.{Report}
use Rattle.hj_msg.specs.Driver.{admission, receipt, closing}
use Rattle.hj_driver.specs.declared.answers.Why.{Why}
use Rattle.hj_driver.specs.declared.answers.Closing.{Closing}
use Rattle.hj_driver.specs.declared.answers.Closing.TheVariants as answer
use Rattle.hj_driver.specs.Driver.{cause_of as wait_of, closing_of}
use Rattle.hj_chain.specs.declared.actor.Actor.{Actor}
use Rattle.hj_chain.specs.declared.actor.Actor.TheVariants.{Admit, PortLeft, PortRight, Core, Collect}
use Rattle.hj_chain.specs.declared.actor.NotNow.{NotNow}
use Rattle.hj_chain.specs.declared.actor.NotNow.TheVariants.{Waits, ReportsFull, NoSuchCore, Over}
use Rattle.hj_chain.specs.Links.{at_port, incoming}
use Rattle.hj_chain.specs.Reports.{queue_at}
use Rattle.hj_chain.specs.Chain.{FeedAnswer, ChainState, Action, if_there, next_action, asks, drives, handles, collects, action_of, first, cause, cause_of, admit_cause, closing_cause, or_empty, at_core, full_cause, capacity}
use Rattle.hj_chain.specs.Reached.{asked}
use Rattle.hj_msg.specs.Feed.{event_in}

-- The driver asks the feed, or puts the next event, or the closes, or takes the first message at a port; a core handles the first message at one of
-- its ends; or a core's first report is taken.
pub data Doing {P : Type 0} (chain : ChainState P) : Action P → Type 0 where
  inquires : chain.next ≡ None → Doing chain asks
  admits : (event : Event P) → chain.next ≡ Some (given.Event event) → wait_of event chain.driver ≡ None → Doing chain (drives (admission event))
  shuts : chain.next ≡ Some given.Stop → closing_of chain.driver ≡ answer.Send → Doing chain (drives closing)
  receives : (port : Side) (message : Msg P) (rest : List (Msg P)) → at_port port (length chain.cores) chain.links ≡ message ∷ rest → Doing chain (drives (receipt port message))
  works : (place : ℕ) (end : Side) (message : Msg P) (rest : List (Msg P)) → place < length chain.cores → incoming end place chain.links ≡ message ∷ rest
      → length (queue_at chain.reports place) ≢ capacity chain.driver.flight → Doing chain (handles place end message)
  gathers : (place : ℕ) (report : Report P) (rest : List (Report P)) → place < length chain.cores → queue_at chain.reports place ≡ report ∷ rest → Doing chain (collects place report)

-- the events that an action takes from the feed
abbrev pub taken_by : {P : Type 0} → Action P → FeedAnswer P → List (Event P)
taken_by asks answer = event_in (Some answer.given)
taken_by (drives (admission event)) answer = event_in (if_there answer)
taken_by (drives (receipt port message)) answer = []
taken_by (drives closing) answer = []
taken_by (handles place end message) answer = []
taken_by (collects place report) answer = []

pub record Deed {P : Type 0} (chain : ChainState P) (actor : Actor) : Type 0 where
  pub action : Action P
  pub is : action_of chain actor ≡ Some action
  pub doing : Doing chain action
  pub takes : (answer : FeedAnswer P) → asked actor chain.next answer ≡ taken_by action answer

no_wait : (why : Option Why) → option_map Waits why ≡ None → why ≡ None
no_wait None none = refl
no_wait (Some why) none = absurd (cc)

may_close : (closing : Closing) → closing_cause closing ≡ None → closing ≡ answer.Send
may_close answer.Send none = refl
may_close (answer.Wait count) none = absurd (cc)
may_close answer.Already none = absurd (cc)

pub non_empty : {X : Type 0} (xs : List X) (other : Option NotNow) → or_empty xs other ≡ None → (x : X) × (rest : List X) × (xs ≡ x ∷ rest) × (other ≡ None)
non_empty [] other none = absurd (cc)
non_empty (x ∷ xs) other none = (x, xs, refl, none)

in_range-if : (b : Bool) (other : Option NotNow) → cond b other (Some NoSuchCore) ≡ None → (b ≡ true) × (other ≡ None)
in_range-if true other none = (refl, none)
in_range-if false other none = absurd (cc)

pub in_range : {P : Type 0} (chain : ChainState P) (place : ℕ) (other : Option NotNow) → at_core chain place other ≡ None → (place < length chain.cores) × (other ≡ None)
in_range chain place other none =
    let found = in_range-if (nat_lt place (length chain.cores)) other none in
    let lower : nat_lt place (length chain.cores) ≡ true = found.0 in
    (ltb-true place (length chain.cores) lower, found.1)

full-if : (b : Bool) → cond b (Some ReportsFull) None ≡ None → b ≡ false
full-if true none = absurd (cc)
full-if false none = refl

not_full : {P : Type 0} (chain : ChainState P) (place : ℕ) → full_cause chain place ≡ None → length (queue_at chain.reports place) ≢ capacity chain.driver.flight
not_full chain place none = λ same. true≢false (sym (eq-eqb _ _ same) ∙ full-if _ none)

deed_admit : {P : Type 0} (chain : ChainState P) (next : Option (Given P)) → chain.next ≡ next → admit_cause chain.driver next ≡ None → Deed chain Admit
deed_admit {P} chain None is none =
    record {
      action = asks;
      is = ap (λ (g : Option (Given P)). Some (next_action g)) is;
      doing = inquires is;
      takes = λ answer. ap (λ (g : Option (Given P)). asked Admit g answer) is;
    }
deed_admit {P} chain (Some (given.Event event)) is none =
    record {
      action = drives (admission event);
      is = ap (λ (g : Option (Given P)). Some (next_action g)) is;
      doing = admits event is (no_wait _ none);
      takes = λ answer. ap (λ (g : Option (Given P)). asked Admit g answer) is;
    }
deed_admit {P} chain (Some given.Stop) is none =
    record {
      action = drives closing;
      is = ap (λ (g : Option (Given P)). Some (next_action g)) is;
      doing = shuts is (may_close _ none);
      takes = λ answer. ap (λ (g : Option (Given P)). asked Admit g answer) is;
    }

deed_of : {P : Type 0} (chain : ChainState P) (actor : Actor) → cause_of chain actor ≡ None → Deed chain actor
deed_of chain Admit none = deed_admit chain chain.next refl none
deed_of {P} chain PortLeft none =
    let found = non_empty (at_port Left (length chain.cores) chain.links) None none in
    record {
      action = drives (receipt Left found.0);
      is = ap (λ (q : List (Msg P)). option_map (λ message. drives (receipt Left message)) (first q)) found.2;
      doing = receives Left found.0 found.1 found.2;
      takes = λ answer. refl;
    }
deed_of {P} chain PortRight none =
    let found = non_empty (at_port Right (length chain.cores) chain.links) None none in
    record {
      action = drives (receipt Right found.0);
      is = ap (λ (q : List (Msg P)). option_map (λ message. drives (receipt Right message)) (first q)) found.2;
      doing = receives Right found.0 found.1 found.2;
      takes = λ answer. refl;
    }
deed_of {P} chain (Core place end) none =
    let here = in_range chain place.0 _ none in
    let found = non_empty (incoming end place.0 chain.links) (full_cause chain place.0) here.1 in
    record {
      action = handles place.0 end found.0;
      is = ap (λ (q : List (Msg P)). option_map (handles place.0 end) (first q)) found.2;
      doing = works place.0 end found.0 found.1 here.0 found.2 (not_full chain place.0 found.3);
      takes = λ answer. refl;
    }
deed_of {P} chain (Collect place) none =
    let here = in_range chain place.0 _ none in
    let found = non_empty (queue_at chain.reports place.0) None here.1 in
    record {
      action = collects place.0 found.0;
      is = ap (λ (q : List (Report P)). option_map (collects place.0) (first q)) found.2;
      doing = gathers place.0 found.0 found.1 here.0 found.2;
      takes = λ answer. refl;
    }

pub deed : {P : Type 0} (chain : ChainState P) (actor : Actor) → chain.over ≡ false → cause chain actor ≡ None → Deed chain actor
deed chain actor going none = deed_of chain actor (sym (ap (λ b. cond b (Some Over) (cause_of chain actor)) going) ∙ none)
