use Rattle.std.proofs.Common.{◌∙◌, refl, sym, arith}
use Rattle.std.proofs.lemmas.List.{length-map}
use Rattle.hj_value.specs.declared.column.Column.{Column}
use Rattle.hj_value.specs.declared.column.ColumnType.TheVariants.{Int}
use Rattle.hj_relay.specs.Fits.{kinds}
use Rattle.hj_relay.proofs.Places.{one_more}
use Rattle.hj_relay.proofs.shape.are_at.Goals as goal

pub loop-at-preserved : goal.loop-at-preserved
loop-at-preserved c =
    let ks = kinds c.args.read.now.columns in
    let os = kinds c.args.others.now in
    one_more Int ks os c.args.from c.loop-at.at
    (omega (arith, c.requires, length-map c.args.read.now.columns (λ (column : Column). column.kind), length-map c.args.others.now (λ (column : Column). column.kind)))
    (omega (arith, c.loop-at.auto.at-end, length-map c.args.others.now (λ (column : Column). column.kind)))
    (sym c.kind_at.ensures ∙ (c.if-not-are_same.ensures.0 refl ∙ c.kind_at-in-loop-at.ensures)) c.loop-at.invariant
