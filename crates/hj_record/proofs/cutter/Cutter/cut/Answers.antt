use Rattle.std.proofs.Common.{◌-◌, ◌+◌, ap, refl, rules}
use Rattle.std.proofs.lemmas.List.{nil_from_length}
use Rattle.hj_record.specs.LineEnd.{may_take}
use Rattle.hj_record.specs.Cutter.{Cutting}
use Rattle.hj_record.specs.declared.cutter.Cut.TheVariants as cut
use Rattle.hj_record.proofs.Takes.{sound_by_quotes, lends_piece}
use Rattle.hj_record.proofs.CutLemmas.{cuts_from_next, leads_by}
use Rattle.hj_record.proofs.cutter.Cutter.cut.Goals as goal

pub returns-clause-takes : goal.returns-clause-takes
returns-clause-takes c =
    cuts_from_next (cut.Lent (c.in-At.at + 1)) c.args.bytes.now c.args.self.now _ (search rules)
    (lends_piece c.args.self.now _ c.args.bytes.now (may_take c.args.self.now c.args.bytes.now)
    (sound_by_quotes c.args.self.now.room c.args.self.now.piece c.self.inside.inside c.args.self.now.whole (search rules)) c.requires refl
    c.in-At.at _ c.in-At.ensures (nil_from_length c.args.self.now.piece (search rules)) (ap (λ (v : Cutting). record v { room = v.room - (c.in-At.at + 1) }) c.self.view_is))

pub returns-clause-leads : goal.returns-clause-leads
returns-clause-leads c = λ _.
    leads_by (cut.Lent (c.in-At.at + 1)) c.args.bytes.now c.args.self.now _
    (lends_piece c.args.self.now _ c.args.bytes.now (may_take c.args.self.now c.args.bytes.now)
    (sound_by_quotes c.args.self.now.room c.args.self.now.piece c.self.inside.inside c.args.self.now.whole (search rules)) c.requires refl
    c.in-At.at _ c.in-At.ensures (nil_from_length c.args.self.now.piece (search rules)) (ap (λ (v : Cutting). record v { room = v.room - (c.in-At.at + 1) }) c.self.view_is))

pub returns-in-More-clause-leads : goal.returns-in-More-clause-leads
returns-in-More-clause-leads c = λ _. leads_by cut.More c.args.bytes.now c.args.self.now c.take.new.self c.in-More.ensures

pub returns-in-Piece-clause-leads : goal.returns-in-Piece-clause-leads
returns-in-Piece-clause-leads c = λ _. leads_by (cut.Piece c.in-Piece.used) c.args.bytes.now c.args.self.now c.take.new.self c.in-Piece.ensures

pub returns-in-Bad-clause-leads : goal.returns-in-Bad-clause-leads
returns-in-Bad-clause-leads c = λ _. leads_by (cut.Bad c.in-Bad.fault) c.args.bytes.now c.args.self.now c.take.new.self c.in-Bad.ensures
