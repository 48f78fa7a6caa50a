use Rattle.std.proofs.Common.{◌≡◌, ◌+◌, ◌-◌, take, drop, subst, All, arith}
use Rattle.hj_record.specs.Plain.{IsNoQuote}
use Rattle.hj_record.proofs.Ahead.{all_further_from}
use Rattle.hj_record.proofs.plain.quote_from.Goals as goal

pub returns-then-unquoted-lt-LANES : goal.returns-then-unquoted-lt-LANES
returns-then-unquoted-lt-LANES c =
    let so_far = c.loop-at.invariant in
    let ahead = c.unquoted_ahead-unquoted in (
      omega arith,
      omega arith,
      ahead.ensures.quote c.if-unquoted-lt-LANES.true,
      all_further_from IsNoQuote c.args.text.now c.args.from c.loop-at.at ahead.result so_far.behind so_far.none ahead.ensures.unquoted,
    )

pub loop-at-preserved : goal.loop-at-preserved
loop-at-preserved c =
    let so_far = c.loop-at.invariant in
    let ahead = c.unquoted_ahead-unquoted in
    record {
      behind = omega arith;
      within = omega arith;
      none = all_further_from IsNoQuote c.args.text.now c.args.from c.loop-at.at ahead.result so_far.behind so_far.none ahead.ensures.unquoted;
    }

pub returns-in-Some : goal.returns-in-Some
returns-in-Some c =
    let text = c.args.text.now in
    let from = c.args.from in
    let at = c.loop-at.at in
    let so_far = c.loop-at.invariant in
    let quote = c.in-Some.quote in
    let found = c.in-Some.ensures in
    let place : at + (quote - at) - from ≡ quote - from = omega (arith, found.0, so_far.behind) in (
      omega (arith, found.0, so_far.behind),
      found.1,
      found.2,
      subst (λ n. All IsNoQuote (take n (drop from text))) place (all_further_from IsNoQuote text from at (quote - at) so_far.behind so_far.none found.3),
    )
