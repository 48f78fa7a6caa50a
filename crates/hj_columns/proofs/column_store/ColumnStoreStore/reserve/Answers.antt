use Rattle.std.proofs.Common.{List, Option, All, ap, subst, sym}
use Rattle.hj_rows.specs.NumberedRows.{places_in}
use Rattle.hj_rows.specs.Places.{place_rows}
use Rattle.hj_columns.specs.Columns.{IsKeyColumn}
use Rattle.hj_columns.proofs.Keeping.{behind-waits, on-ok-then}
use Rattle.hj_columns.proofs.column_store.ColumnStoreStore.reserve.Goals as goal

pub invariant_of-self : goal.invariant_of-self
invariant_of-self g c =
    let s = c.self.inside in
    subst (λ (places : List (Option g.row.P.Denot)). All (IsKeyColumn (λ (filter : g.row.F.Denot). g.F.KeyFilter.key filter s.side) places) s.columns.items) (sym (ap place_rows c.reserve.ensures.places)) c.self.invariant

pub reserve_keys-requires : goal.reserve_keys-requires
reserve_keys-requires g c =
    let s = c.self.inside in
    subst (λ (places : List (Option g.row.P.Denot)). All (IsKeyColumn (λ (filter : g.row.F.Denot). g.F.KeyFilter.key filter s.side) places) s.columns.items) (sym (ap place_rows c.reserve.ensures.places)) c.self.invariant

pub returns-clause-place : goal.returns-clause-place
returns-clause-place g c =
    on-ok-then c.reserve_keys.result
    (λ waits. (
      c.in_ok-reserve.ensures.room,
      behind-waits (λ (filter : g.row.F.Denot). g.F.KeyFilter.key filter c.self.inside.side) (places_in c.reserve.new.self) c.reserve_keys.new.columns.items c.args.row.now waits,
    )) c.reserve_keys.ensures.wait
