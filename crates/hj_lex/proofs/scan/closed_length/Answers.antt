use Rattle.std.proofs.Common.{◌+◌, arith, sym}
use Rattle.hj_lex.proofs.Texts.{begins_within, inside_plain, inside_quotes, closed}
use Rattle.hj_lex.proofs.scan.closed_length.Goals as goal

pub inside-preserved-then-not-has_quote : goal.inside-preserved-then-not-has_quote
inside-preserved-then-not-has_quote c = record {
  some = omega arith;
  within = omega arith;
  inside = inside_plain c.args.rest.now c.inside.at c.inside-test.true (sym c.if-not-has_quote.ensures) c.inside.invariant.inside;
}

pub inside-preserved : goal.inside-preserved
inside-preserved c = record {
  some = omega arith;
  within = omega (arith, begins_within c.args.rest.now (c.inside.at + 1) (sym c.if-has_quote.ensures));
  inside = inside_quotes c.args.rest.now c.inside.at (sym c.if-not-has_quote.ensures) (sym c.if-has_quote.ensures) c.inside.invariant.inside;
}

pub returns-else-has_quote : goal.returns-else-has_quote
returns-else-has_quote c =
    closed c.args.rest.now c.inside.at c.inside.invariant.some c.inside-test.true (sym c.if-not-has_quote.ensures) (sym c.if-has_quote.ensures) c.inside.invariant.inside
