use Rattle.std.proofs.Common.{◌≡◌, true, arith, rules, sym, subst, ◌∙◌}
use Rattle.hj_index.specs.KeyChains.{FindsRow}
use Rattle.hj_index.proofs.ChainFinds.{empty-absent, number-row, number-within, placeless, position-finds, read-number}
use Rattle.hj_index.proofs.chains.KeyChains.find.Goals as goal

pub returns-in_default : goal.returns-in_default
returns-in_default c =
    let s = c.args.self.now in
    let up : s.is_ascending ≡ true = search rules in
    let read = read-number c.args.no c.in-Some.at s.places.items c.index.result.now c.in-Some.ensures c.index.ensures in
    empty-absent c.args.no 0 c.in-Some.at s.places.items c.index.result.now (c.requires.nearly.ascending up) read.0 read.1 (sym c.is_some.ensures ∙ c.if-is_some.false)

pub returns-in_default-2 : goal.returns-in_default-2
returns-in_default-2 c = placeless c.args.no c.args.self.now.places.items c.in_default.ensures

pub returns-then-not-self : goal.returns-then-not-self
returns-then-not-self c = subst (FindsRow c.args.no c.args.self.now.places.items) (sym c.find_among.ensures) (position-finds c.args.no c.args.self.now.places.items)

pub index-requires : goal.index-requires
index-requires c =
    let s = c.args.self.now in
    let within = number-within c.args.no c.in-Some.at s.places.items c.in-Some.ensures in
    omega (arith, within, s.places.ok.0)

pub returns-in-Some : goal.returns-in-Some
returns-in-Some c =
    let s = c.args.self.now in
    let read = read-number c.args.no c.in-Some.at s.places.items c.index.result.now c.in-Some.ensures c.index.ensures in
    number-row c.args.no c.in-Some.at s.places.items c.index.result.now read.0 read.1 (sym c.is_some.ensures ∙ c.if-is_some.true)
