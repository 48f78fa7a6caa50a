use Rattle.std.proofs.Common.{◌≡◌, ◌++◌, [], ◌∷◌, true, List, Ok, Err, sym, ◌∙◌, subst}
use Rattle.std.specs.Prelude.{IfOk, OnOk}
use Rattle.hj_window.specs.declared.side_rows.HeldRow.{HeldRow}
use Rattle.hj_window.specs.SideRows.{counts_rows, overflow, unaged}
use Rattle.hj_window.proofs.SideLemmas.{counted_stay}
use Rattle.hj_window.proofs.live.enter.Goals as goal

pub returns-then-counts_rows-2-clause-gone : goal.returns-then-counts_rows-2-clause-gone
returns-then-counts_rows-2-clause-gone c =
    let own = c.args.own.now in
    let counts : counts_rows own.window ≡ true = sym c.counts_rows.ensures ∙ c.if-counts_rows.true in
    subst (λ (rows : List HeldRow). IfOk c.enter_counted.result (λ gone. gone ≡ (overflow own.window (rows ++ c.args.held ∷ [])).gone)) (sym (counted_stay own.window c.args.held.time own.rows counts)) c.enter_counted.ensures.gone

pub returns-then-counts_rows-2-clause-own_rows : goal.returns-then-counts_rows-2-clause-own_rows
returns-then-counts_rows-2-clause-own_rows c =
    let own = c.args.own.now in
    let counts : counts_rows own.window ≡ true = sym c.counts_rows.ensures ∙ c.if-counts_rows.true in
    subst (λ (rows : List HeldRow). OnOk c.enter_counted.result (c.enter_counted.new.self.rows ≡ (overflow own.window (rows ++ c.args.held ∷ [])).rows)) (sym (counted_stay own.window c.args.held.time own.rows counts)) c.enter_counted.ensures.rows

pub returns-then-counts_rows-2-clause-other_rows : goal.returns-then-counts_rows-2-clause-other_rows
returns-then-counts_rows-2-clause-other_rows c =
    let other = c.args.other.now in
    let counts : counts_rows other.window ≡ true = sym c.counts_rows-then-counts_rows.ensures ∙ c.if-counts_rows-2.true in
    elim c.enter_counted.result as (λ answer. OnOk answer (other.rows ≡ unaged other.window c.args.held.time other.rows)) [ Ok gone ↦ sym (counted_stay other.window c.args.held.time other.rows counts) | Err why ↦ tt ]
