use Rattle.std.proofs.Common.{◌&&◌, ap, sym, ◌∙◌}
use Rattle.std.specs.Str.{bytes_eq}
use Rattle.hj_query.proofs.Lists.{next_is_at}
use Rattle.hj_query.proofs.cursor.Cursor.is.Goals as goal

pub returns-then-is_kind : goal.returns-then-is_kind
returns-then-is_kind c =
    c.eq.ensures ∙ sym (next_is_at c.args.kind c.args.bytes.now c.args.self.now _ _ _ c.peek-next.ensures.next ∙ ap (λ b. b && bytes_eq c.peek-next.result.bytes.now c.args.bytes.now) (sym c.if-is_kind.ensures))

pub returns-else-is_kind : goal.returns-else-is_kind
returns-else-is_kind c =
    c.if-is_kind.false ∙ sym (next_is_at c.args.kind c.args.bytes.now c.args.self.now _ _ _ c.peek-next.ensures.next ∙ ap (λ b. b && bytes_eq c.peek-next.result.bytes.now c.args.bytes.now) (sym c.if-is_kind.ensures))
