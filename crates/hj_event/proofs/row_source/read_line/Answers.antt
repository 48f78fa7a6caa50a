use Rattle.std.proofs.Common.{◌≡◌, FitsSigned, List, None, Ok, ap, rules, subst, sym, true, w64, ◌∙◌, ℕ, ℤ}
use Rattle.std.specs.declared.option.Option.{Option}
use Rattle.std.proofs.lemmas.Int.{to_z-of_z}
use Rattle.hj_value.specs.declared.field.Field.{Field}
use Rattle.hj_value.specs.Row.{time_of}
use Rattle.hj_event.specs.declared.stop.ReadStep.TheVariants as read_step
use Rattle.hj_event.specs.Taking.{Advances, TakesNextLine}
use Rattle.hj_event.specs.Waiting.{has_sure, is_held}
use Rattle.hj_event.proofs.SourceLemmas.{held_unsure, takes_line}
use Rattle.hj_event.proofs.row_source.read_line.Goals as goal

pub returns-then-is_held-clause-reads : goal.returns-then-is_held-clause-reads
returns-then-is_held-clause-reads c =
    let old = c.args.reader.now in
    let new = c.take_line.new.self in
    let time = c.time-time.result in
    let fits : FitsSigned w64 time = search rules in
    let advances : Advances (Ok (read_step.Row c.in-Some.row)) old new = subst (λ (row : Option (List Field)). TakesNextLine (Ok row) old new) c.in-Some.is c.in_ok-row.ensures in
    let held : is_held new.slack new.time time ≡ true =
    ap (λ (slack : ℕ). is_held slack new.time time) (sym c.slack.ensures) ∙ (ap (λ (greatest : Option ℤ). is_held c.slack.result greatest time) (sym c.greatest.ensures) ∙ (ap (is_held c.slack.result c.greatest.result) (sym (to_z-of_z w64 time fits)) ∙ (sym c.is_held.ensures ∙ c.if-is_held.true))) in
    let unsure = held_unsure old new c.in-Some.row c.args.waiting.now time advances (c.time-time.ensures ∙ ap time_of c.row.ensures) (c.requires c.if-none_sure.true) held in
    (takes_line None old new c.args.waiting.now c.put.new.self c.in-Some.row advances (c.in_ok-put.ensures, unsure), ap (has_sure new.slack new.time) c.in_ok-put.ensures ∙ unsure)
