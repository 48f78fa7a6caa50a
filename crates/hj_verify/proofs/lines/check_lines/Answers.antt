use Rattle.std.proofs.Common.{◌≡◌, ℕ, true, false, rules, sym, subst, ◌∙◌, true≢false}
use Rattle.std.proofs.lemmas.Result.{err_from_is_err_and}
use Rattle.hj_verify.specs.Checked.{Checking, feeding}
use Rattle.hj_verify.proofs.Ends.{numbers_end}
use Rattle.hj_verify.proofs.FeedBeside.{outside_same, outside_then}
use Rattle.hj_verify.proofs.lines.check_lines.Goals as goal

pub loop-chain-init : goal.loop-chain-init
loop-chain-init g c = record { outside = outside_same c.args.feed.now; goes = c.requires.goes; are_open = c.requires.are_open; checking = λ query n flight start under. under }

pub loop-chain-smaller : goal.loop-chain-smaller
loop-chain-smaller g c = c.in_ok-check_line.ensures.fewer

pub loop-chain-preserved : goal.loop-chain-preserved
loop-chain-preserved g c =
    let held = c.loop-chain.invariant in
    let going : c.done.result ≡ false = search rules in
    record {
      outside = outside_then c.args.feed.now c.loop-chain.feed c.check_line.new.feed held.outside c.check_line.ensures.outside;
      goes = c.check_line.ensures.goes;
      are_open = c.check_line.ensures.are_open;
      checking = λ query n flight start under.
          subst (λ (number : ℕ). Checking query n flight start number c.check_line.new.chain (feeding c.check_line.new.feed) c.check_line.new.texts.trace c.check_line.new.texts.output) (sym c.in_ok-number.ensures)
          (c.in_ok-check_line.ensures.checks query n flight start (held.checking query n flight start under) (λ done. true≢false (sym (c.done.ensures.1 done) ∙ going)));
    }

pub returns-in_err-check_line : goal.returns-in_err-check_line
returns-in_err-check_line g c =
    let held = c.loop-chain.invariant in
    let going : c.done.result ≡ false = search rules in
    let p = err_from_is_err_and c.from_residual.result c.from_residual.ensures.1 in
    rw (p.1, p.2)
    (record {
      outside = outside_then c.args.feed.now c.loop-chain.feed c.check_line.new.feed held.outside c.check_line.ensures.outside;
      checks = λ query n flight start under. c.in_err-check_line.ensures.checks query n flight start (held.checking query n flight start under) (λ done. true≢false (sym (c.done.ensures.1 done) ∙ going));
    })

pub returns-in_err-number : goal.returns-in_err-number
returns-in_err-number g c =
    let held = c.loop-chain.invariant in
    let going : c.done.result ≡ false = search rules in
    let p = err_from_is_err_and c.from_residual-in_err-number.result c.from_residual-in_err-number.ensures.1 in
    rw (p.1, p.2)
    (record {
      outside = outside_then c.args.feed.now c.loop-chain.feed c.check_line.new.feed held.outside c.check_line.ensures.outside;
      checks = λ query n flight start under.
          let next = c.in_ok-check_line.ensures.checks query n flight start (held.checking query n flight start under) (λ done. true≢false (sym (c.done.ensures.1 done) ∙ going)) in
          numbers_end {O = g.row.O.Denot} {outside = g.O.Outside} query n flight start _ c.check_line.new.chain c.check_line.new.feed c.check_line.new.texts.trace c.check_line.new.texts.output next _ c.in_err-number.ensures;
    })

pub returns : goal.returns
returns g c =
    let held = c.loop-chain.invariant in
    let finished : c.done.result ≡ true = search rules in
    record {
      outside = outside_then c.args.feed.now c.loop-chain.feed c.check_ends.new.feed held.outside c.check_ends.ensures.outside;
      checks = λ query n flight start under. c.check_ends.ensures.checks query n flight start (held.checking query n flight start under) (c.done.ensures.0 finished);
    }
