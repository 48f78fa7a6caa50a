use Rattle.std.proofs.Common.{nat_eq, arith, ap, ◌∙◌}
use Rattle.std.specs.HashMap.{get}
use Rattle.hj_index.specs.Keys.{key_at}
use Rattle.hj_index.proofs.ChainChanges.{replaced_apart, replaced_ascending, replaced_keyed, replaced_known, replaced_rows, replaced_within}
use Rattle.hj_index.proofs.chains.KeyChains.replace.Goals as goal

pub set_place-requires : goal.set_place-requires
set_place-requires c =
    let s = c.args.self.now in
    let within = replaced_within s c.args.no c.args.at c.args.row c.args.settled c.key_at-key.result c.requires.chained c.requires.filled in
    omega (arith, within, s.places.ok.0)

pub link_anew-requires-clause-known : goal.link_anew-requires-clause-known
link_anew-requires-clause-known c =
    let s = c.args.self.now in
    replaced_known s c.args.no c.args.at c.args.row c.args.settled c.key_at-key.result c.requires.chained c.requires.filled c.set_place.new.self c.set_place.ensures.places
    (λ other. ap (λ last. get nat_eq last other) c.set_place.ensures.last ∙ c.set_last-last.ensures.last other)

pub link_anew-requires-clause-keyed : goal.link_anew-requires-clause-keyed
link_anew-requires-clause-keyed c =
    let s = c.args.self.now in
    rw c.set_place.ensures.own (replaced_keyed s c.args.no c.args.at c.args.row c.args.settled c.key_at-key.result c.requires.chained c.requires.filled c.set_place.new.self c.set_place.ensures.places (c.key_at-key.ensures ∙ ap (key_at s.own) c.row.ensures))

pub link_anew-requires-clause-ascending : goal.link_anew-requires-clause-ascending
link_anew-requires-clause-ascending c =
    let s = c.args.self.now in
    replaced_ascending s c.args.no c.args.at c.args.row c.args.settled c.key_at-key.result c.requires.chained c.requires.filled c.set_place.new.self c.set_place.ensures.places c.set_place.ensures.ascending

pub link_anew-requires-clause-apart : goal.link_anew-requires-clause-apart
link_anew-requires-clause-apart c =
    let s = c.args.self.now in
    replaced_apart s c.args.no c.args.at c.args.row c.args.settled c.key_at-key.result c.requires.chained c.requires.filled c.set_place.new.self c.set_place.ensures.places

pub returns-clause-rows : goal.returns-clause-rows
returns-clause-rows c =
    let s = c.args.self.now in
    c.link_anew.ensures.rows ∙ replaced_rows s c.args.no c.args.at c.args.row c.args.settled c.key_at-key.result c.requires.chained c.requires.filled c.set_place.new.self c.set_place.ensures.places
