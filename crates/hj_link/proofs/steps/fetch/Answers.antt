use Rattle.std.proofs.Common.{ℕ, ap, ◌∙◌, rules}
use Rattle.hj_link.specs.declared.table.MessageSlot.TheVariants.{Empty}
use Rattle.hj_link.specs.Steps.{holding_taken, turn_no}
use Rattle.hj_link.proofs.Moves.{words_inside, fetched}
use Rattle.hj_link.proofs.Held.{fetched_slot, holds_emptied, is_emptied}
use Rattle.hj_link.proofs.steps.fetch.Goals as goal

pub load-requires : goal.load-requires
load-requires g c = (search rules, (words_inside g.D.Endpoint.is_left _ _ c.words-words.ensures c.requires.table.1).1, fetched g.D.Endpoint.is_left _ _ _ _ c.args.seat.now.me c.words-words.ensures c.requires.end.0 c.requires.end.1 c.requires.some)

pub exchange-requires : goal.exchange-requires
exchange-requires g c = (search rules, fetched_slot g.D.Endpoint.is_left c.args.seat.now.me c.load.new.seat.me c.args.slot c.requires.slot c.load.ensures.2)

pub returns-clause-emptied : goal.returns-clause-emptied
returns-clause-emptied g c =
    holds_emptied g.D.Endpoint.is_left c.args.seat.now.me c.load.new.seat.me _ c.args.slot c.of.result c.requires.end.2 c.requires.slot c.load.ensures.2 c.exchange.ensures.3
    ∙ ap (λ (number : ℕ). holding_taken g.D.Endpoint.is_left c.args.seat.now.me (Empty (turn_no number))) c.of.ensures

pub returns-clause-ready : goal.returns-clause-ready
returns-clause-ready g c = let found = c.load.ensures.2 in is_emptied g.D.Endpoint.is_left c.args.seat.now.me _ (turn_no c.args.turn) found.1 c.requires.end.0 found.2 (returns-clause-emptied g c)
