use Rattle.std.proofs.Common.{◌≡◌, ◌∙◌, List, [], ◌∷◌, length, length-append, refl, sym, ap, subst, arith, rules, None}
use Rattle.std.specs.declared.option.Option.{Option}
use Rattle.hj_value.specs.declared.field.Field.{Field}
use Rattle.hj_msg.specs.declared.event.Event.{Event}
use Rattle.hj_msg.specs.declared.feed.Given.TheVariants as given
use Rattle.hj_event.specs.declared.merger.Next.{Next}
use Rattle.hj_event.specs.declared.merger.Next.TheVariants as next
use Rattle.hj_event.specs.Merger.{TakesNext}
use Rattle.hj_stream.specs.declared.outcome.Outcome.{Outcome}
use Rattle.hj_stream.specs.Ahead.{IsGoingOn}
use Rattle.hj_stream.specs.Feeding.{Feeding, Gives, GivesFrom, FeedGoesOn}
use Rattle.hj_stream.proofs.Coming.{gives-first}
use Rattle.hj_stream.proofs.Going.{comes_first, going_on, none_from, not_some}
use Rattle.hj_stream.proofs.Reading.{taking}
use Rattle.hj_stream.proofs.feed.EventFeedFeedSharedRow.next.Goals as goal

-- an event that is given before they have ended
gives-event : (event : Event (List Field)) (old new : Feeding) → old.ended ≡ None → FeedGoesOn (next.Event event) old new → Gives (given.Event event) old new
gives-event event old new none goes = subst (λ (ended : Option Outcome). GivesFrom ended (given.Event event) old new) (sym none) goes

pub overflow_add-self : goal.overflow_add-self
overflow_add-self g c =
    let going = c.args.self.now.going (not_some c.args.self.now.ended (sym c.is_some.ensures ∙ c.if-is_some.false)) in
    let takes : TakesNext (next.Event c.in-Event.event) c.args.self.now.merger.now c.next.new.self (g.O.Outside.state c.args.self.now.outside.now) (g.O.Outside.state c.next.new.outside) =
    subst (λ (a : Next). TakesNext a c.args.self.now.merger.now c.next.new.self (g.O.Outside.state c.args.self.now.outside.now) (g.O.Outside.state c.next.new.outside)) c.in-Event.is (taking _ _ _ _ _ (none_from _ going.going) c.next.ensures.answers) in
    let first = comes_first c.args.self.now.limit c.args.self.now.given.items c.in-Event.event _ _ _ _ going takes in
    let counted : length c.args.self.now.given.items ≡ c.args.self.now.events = c.args.self.now.counted in
    omega (arith, first.few, counted, c.args.self.now.low_limit)

pub invariant_of-self : goal.invariant_of-self
invariant_of-self g c =
    let going = c.args.self.now.going (not_some c.args.self.now.ended (sym c.is_some.ensures ∙ c.if-is_some.false)) in
    let takes : TakesNext (next.Event c.in-Event.event) c.args.self.now.merger.now c.next.new.self (g.O.Outside.state c.args.self.now.outside.now) (g.O.Outside.state c.next.new.outside) =
    subst (λ (a : Next). TakesNext a c.args.self.now.merger.now c.next.new.self (g.O.Outside.state c.args.self.now.outside.now) (g.O.Outside.state c.next.new.outside)) c.in-Event.is (taking _ _ _ _ _ (none_from _ going.going) c.next.ensures.answers) in
    record {
      left = takes.left.in_step;
      right = takes.right.in_step;
      low_limit = c.args.self.now.low_limit;
      counted = omega (arith, ap length c.with_item-self.ensures, length-append c.args.self.now.given.items (c.in-Event.event ∷ []), c.args.self.now.counted);
      going = λ none. subst (λ (given : List (Event (List Field))). IsGoingOn c.args.self.now.limit c.next.new.self given) (sym c.with_item-self.ensures) (going_on c.args.self.now.limit c.args.self.now.given.items c.in-Event.event _ _ _ _ going takes);
    }

pub returns-in-Event-clause-answers : goal.returns-in-Event-clause-answers
returns-in-Event-clause-answers g c =
    let going = c.args.self.now.going (not_some c.args.self.now.ended (sym c.is_some.ensures ∙ c.if-is_some.false)) in
    let takes : TakesNext (next.Event c.in-Event.event) c.args.self.now.merger.now c.next.new.self (g.O.Outside.state c.args.self.now.outside.now) (g.O.Outside.state c.next.new.outside) =
    subst (λ (a : Next). TakesNext a c.args.self.now.merger.now c.next.new.self (g.O.Outside.state c.args.self.now.outside.now) (g.O.Outside.state c.next.new.outside)) c.in-Event.is (taking _ _ _ _ _ (none_from _ going.going) c.next.ensures.answers) in
    gives-first c.args.self.now.limit c.args.self.now.events _ c.args.self.now.given.items _ c.in-Event.event _ (sym c.is_some.ensures ∙ c.if-is_some.false)
    (comes_first c.args.self.now.limit c.args.self.now.given.items c.in-Event.event _ _ _ _ going takes) c.args.self.now.counted c.with_item-self.ensures

pub returns-in-Event-clause-gives : goal.returns-in-Event-clause-gives
returns-in-Event-clause-gives g c =
    let none : c.args.self.now.ended ≡ None = not_some c.args.self.now.ended (sym c.is_some.ensures ∙ c.if-is_some.false) in
    let going = c.args.self.now.going none in
    let takes : TakesNext (next.Event c.in-Event.event) c.args.self.now.merger.now c.next.new.self (g.O.Outside.state c.args.self.now.outside.now) (g.O.Outside.state c.next.new.outside) =
    subst (λ (a : Next). TakesNext a c.args.self.now.merger.now c.next.new.self (g.O.Outside.state c.args.self.now.outside.now) (g.O.Outside.state c.next.new.outside)) c.in-Event.is (taking _ _ _ _ _ (none_from _ going.going) c.next.ensures.answers) in (
      search rules,
      search rules,
      gives-event c.in-Event.event _ _ none (record { takes = takes; counted = refl; going = none }),
      gives-first c.args.self.now.limit c.args.self.now.events _ c.args.self.now.given.items _ c.in-Event.event _ (sym c.is_some.ensures ∙ c.if-is_some.false)
          (comes_first c.args.self.now.limit c.args.self.now.given.items c.in-Event.event _ _ _ _ going takes) c.args.self.now.counted c.with_item-self.ensures,
    )
