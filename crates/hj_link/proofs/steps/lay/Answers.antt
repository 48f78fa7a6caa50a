use Rattle.std.proofs.Common.{ℕ, ap, ◌∙◌, rules}
use Rattle.hj_link.specs.declared.table.MessageSlot.TheVariants.{Filled}
use Rattle.hj_link.specs.Steps.{holding, turn_no}
use Rattle.hj_link.proofs.Moves.{words_inside, reserved}
use Rattle.hj_link.proofs.Held.{reserved_slot, holds_laid, is_laid}
use Rattle.hj_link.proofs.steps.lay.Goals as goal

pub load-requires : goal.load-requires
load-requires g c = (search rules, (words_inside g.D.Endpoint.is_left _ _ c.words-words.ensures c.requires.table.1).0, reserved g.D.Endpoint.is_left _ _ _ _ c.args.seat.now.me c.words-words.ensures c.requires.end.0 c.requires.end.1 c.requires.room)

pub exchange-requires : goal.exchange-requires
exchange-requires g c = (search rules, reserved_slot g.D.Endpoint.is_left c.args.seat.now.me c.load.new.seat.me c.args.slot c.requires.slot c.load.ensures.2)

pub returns-clause-laid : goal.returns-clause-laid
returns-clause-laid g c =
    holds_laid g.D.Endpoint.is_left c.args.seat.now.me c.load.new.seat.me _ c.args.slot c.of.result c.args.message c.requires.end.2 c.requires.slot c.load.ensures.2 c.exchange.ensures.3
    ∙ ap (λ (number : ℕ). holding g.D.Endpoint.is_left c.args.seat.now.me (Filled (turn_no number) c.args.message)) c.of.ensures

pub returns-clause-ready : goal.returns-clause-ready
returns-clause-ready g c = is_laid g.D.Endpoint.is_left c.args.seat.now.me _ (turn_no c.args.turn) c.args.message c.requires.end.0 (returns-clause-laid g c)
