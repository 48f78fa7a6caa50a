use Rattle.std.proofs.Common.{subst, refl, rules}
use Rattle.hj_record.specs.declared.cutter.LineEnd.{LineEnd}
use Rattle.hj_record.specs.LineEnd.{FindsFor, may_take}
use Rattle.hj_record.proofs.Takes.{sound_by_quotes, piece_outside, goes_on, parity_beyond, takes_piece, takes_more, takes_stream_long, takes_too_long}
use Rattle.hj_record.proofs.cutter.Cutter.take.Goals as goal

pub append-requires-clause-parity : goal.append-requires-clause-parity
append-requires-clause-parity c =
    piece_outside c.args.self.now _ c.args.bytes.now (may_take c.args.self.now c.args.bytes.now)
    (sound_by_quotes c.args.self.now.room c.args.self.now.piece c.self.inside.inside c.args.self.now.whole (search rules)) c.requires.going refl c.in-At.at ((subst (λ (e : LineEnd). FindsFor e c.args.bytes.now c.args.self.now) c.in-At.is c.requires.found)).0

pub append-requires-in-Beyond-clause-parity : goal.append-requires-in-Beyond-clause-parity
append-requires-in-Beyond-clause-parity c =
    parity_beyond c.args.self.now _ c.args.bytes.now (may_take c.args.self.now c.args.bytes.now)
    (sound_by_quotes c.args.self.now.room c.args.self.now.piece c.self.inside.inside c.args.self.now.whole (search rules)) c.requires.going refl c.in-Beyond.inside (subst (λ (e : LineEnd). FindsFor e c.args.bytes.now c.args.self.now) c.in-Beyond.is c.requires.found) (search rules)

pub append-requires-in-Beyond-clause-unended : goal.append-requires-in-Beyond-clause-unended
append-requires-in-Beyond-clause-unended c = λ _.
    goes_on c.args.self.now _ c.args.bytes.now (may_take c.args.self.now c.args.bytes.now)
    (sound_by_quotes c.args.self.now.room c.args.self.now.piece c.self.inside.inside c.args.self.now.whole (search rules)) c.requires.going refl c.in-Beyond.inside (subst (λ (e : LineEnd). FindsFor e c.args.bytes.now c.args.self.now) c.in-Beyond.is c.requires.found) (search rules)

pub returns-in-Ok : goal.returns-in-Ok
returns-in-Ok c =
    takes_piece c.args.self.now _ c.args.bytes.now (may_take c.args.self.now c.args.bytes.now)
    (sound_by_quotes c.args.self.now.room c.args.self.now.piece c.self.inside.inside c.args.self.now.whole (search rules)) c.requires.going refl c.in-At.at c.append.new.self (subst (λ (e : LineEnd). FindsFor e c.args.bytes.now c.args.self.now) c.in-At.is c.requires.found) c.in-Ok.ensures.ok

pub returns-in-Ok-append : goal.returns-in-Ok-append
returns-in-Ok-append c =
    takes_more c.args.self.now _ c.args.bytes.now (may_take c.args.self.now c.args.bytes.now)
    (sound_by_quotes c.args.self.now.room c.args.self.now.piece c.self.inside.inside c.args.self.now.whole (search rules)) c.requires.going refl c.in-Beyond.inside c.append-in-Beyond.new.self (subst (λ (e : LineEnd). FindsFor e c.args.bytes.now c.args.self.now) c.in-Beyond.is c.requires.found) (search rules) c.in-Ok-append.ensures.ok

pub returns-in-Beyond-2 : goal.returns-in-Beyond-2
returns-in-Beyond-2 c =
    rw c.fail-in-Beyond-2.ensures.answer (takes_stream_long c.args.self.now _ c.args.bytes.now (may_take c.args.self.now c.args.bytes.now)
    (sound_by_quotes c.args.self.now.room c.args.self.now.piece c.self.inside.inside c.args.self.now.whole (search rules)) c.requires.going refl c.in-Beyond-2.inside c.fail-in-Beyond-2.new.self (subst (λ (e : LineEnd). FindsFor e c.args.bytes.now c.args.self.now) c.in-Beyond-2.is c.requires.found) (search rules) (search rules) c.fail-in-Beyond-2.ensures.fault)

pub returns-in-Beyond-3 : goal.returns-in-Beyond-3
returns-in-Beyond-3 c =
    rw c.fail-in-Beyond-3.ensures.answer (takes_too_long c.args.self.now _ c.args.bytes.now (may_take c.args.self.now c.args.bytes.now)
    (sound_by_quotes c.args.self.now.room c.args.self.now.piece c.self.inside.inside c.args.self.now.whole (search rules)) c.requires.going refl c.in-Beyond-3.inside c.fail-in-Beyond-3.new.self (subst (λ (e : LineEnd). FindsFor e c.args.bytes.now c.args.self.now) c.in-Beyond-3.is c.requires.found) (search rules) (search rules) c.fail-in-Beyond-3.ensures.fault)
