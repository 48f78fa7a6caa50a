use Rattle.std.proofs.Common.{sym, subst, ◌∙◌}
use Rattle.hj_query.specs.Lexemes.{SuitsKind}
use Rattle.hj_query.proofs.Lists.{has_no_end, next_has_at, same_kind, taken}
use Rattle.hj_query.proofs.cursor.Cursor.take.Goals as goal

pub returns-then-not-is_kind-clause-read : goal.returns-then-not-is_kind-clause-read
returns-then-not-is_kind-clause-read c =
    (next_has_at c.args.kind c.args.self.now _ _ _ c.peek-next.ensures.next ∙ sym c.if-not-is_kind.ensures, c.expected.ensures)

pub skip-requires : goal.skip-requires
skip-requires c =
    has_no_end c.args.kind c.args.self.now c.requires (next_has_at c.args.kind c.args.self.now _ _ _ c.peek-next.ensures.next ∙ sym c.if-not-is_kind.ensures)

pub returns-clause-read : goal.returns-clause-read
returns-clause-read c = (
  taken c.args.kind c.args.self.now c.skip.new.self c.peek-next.result.place c.peek-next.result.kind c.peek-next.result.bytes.now c.peek-next.ensures.next (sym c.if-not-is_kind.ensures) c.skip.ensures.behind,
  subst (λ kind. SuitsKind kind c.peek-next.result.bytes.now) (same_kind _ _ (sym c.if-not-is_kind.ensures)) c.peek-next.ensures.suits,
)
