use Rattle.std.proofs.Common.{◌≡◌, true, ap, sym, ◌∙◌}
use Rattle.hj_window.specs.LiveRows.{LiveRows}
use Rattle.hj_window.specs.Numbers.{numbers_of}
use Rattle.hj_window.specs.SideRows.{counts_rows}
use Rattle.hj_window.proofs.Finding.{none_gone}
use Rattle.hj_window.proofs.live.Live.gone_at.Goals as goal

pub returns-then-counts_rows-2 : goal.returns-then-counts_rows-2
returns-then-counts_rows-2 c =
    let live = c.args.self.now in
    let left : counts_rows live.left ≡ true = ap (λ (l : LiveRows). counts_rows l.left) (sym c.self.view_is) ∙ sym c.counts_rows.ensures ∙ c.if-counts_rows.true in
    let right : counts_rows live.right ≡ true = ap (λ (l : LiveRows). counts_rows l.right) (sym c.self.view_is) ∙ sym c.counts_rows-then-counts_rows.ensures ∙ c.if-counts_rows-2.true in
    c.new.ensures ∙ sym (ap numbers_of (none_gone live c.args.now live.rows left right))
