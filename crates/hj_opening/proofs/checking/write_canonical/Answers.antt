use Rattle.std.proofs.Common.{List, ℕ, [], refl, ◌∙◌, subst}
use Rattle.std.proofs.KnownBytes.{Appends-nil}
use Rattle.std.proofs.lemmas.Result.{err_from_is_err_and}
use Rattle.hj_base.specs.declared.output.Sent.TheVariants as sent
use Rattle.hj_base.specs.Output.{SendsPiece}
use Rattle.hj_query.specs.Canonical.{canonical}
use Rattle.hj_opening.proofs.checking.write_canonical.Goals as goal

pub returns-in_err-canonical : goal.returns-in_err-canonical
returns-in_err-canonical g c =
    let p = err_from_is_err_and c.from_residual.result c.from_residual.ensures.1 in
    rw (p.1, p.2) (record { grown = []; written = Appends-nil (g.K.Sink.told c.args.out.now); front = record { rest = canonical c.args.query.now; is = refl } }, refl)

pub returns-in-Whole : goal.returns-in-Whole
returns-in-Whole g c =
    (subst (λ (text : List ℕ). SendsPiece sent.Whole text (g.K.Sink.told c.args.out.now) (g.K.Sink.told c.put_all.new.out)) (c.bytes.ensures ∙ c.in_ok-canonical.ensures.text) c.in-Whole.ensures.sends, c.in-Whole.ensures.faults)

pub returns-in-Failed : goal.returns-in-Failed
returns-in-Failed g c =
    (subst (λ (text : List ℕ). SendsPiece sent.Failed text (g.K.Sink.told c.args.out.now) (g.K.Sink.told c.put_all.new.out)) (c.bytes.ensures ∙ c.in_ok-canonical.ensures.text) c.in-Failed.ensures.sends, c.in-Failed.ensures.faults)

pub returns : goal.returns
returns g c =
    (subst (λ (text : List ℕ). SendsPiece sent.Memory text (g.K.Sink.told c.args.out.now) (g.K.Sink.told c.put_all.new.out)) (c.bytes.ensures ∙ c.in_ok-canonical.ensures.text) c.in-Memory.ensures.sends, c.in-Memory.ensures.faults)
