use Rattle.std.proofs.Common.{◌≤◌, length, ◌∙◌, rules}
use Rattle.std.proofs.lemmas.List.Elements.{All-set}
use Rattle.hj_rows.specs.NumberedRows.{places_in}
use Rattle.hj_columns.specs.declared.key_column.KeyColumn.{KeyColumn}
use Rattle.hj_columns.specs.Columns.{HasWholeBlocks, IsKeyColumn}
use Rattle.hj_columns.proofs.Listing.{all-more, all-taken, map-set}
use Rattle.hj_columns.proofs.key_column.fill.Goals as goal

pub loop-at-preserved : goal.loop-at-preserved
loop-at-preserved g c =
    let key = λ (filter : g.row.F.Denot). g.F.KeyFilter.key filter c.args.side in
    let places = places_in c.args.rows.now in
    let items = c.loop-at.columns.items in
    let at = c.loop-at.at in
    record {
      room = All-set (HasWholeBlocks places) items at c.fill.new.self c.fill.ensures.column.room c.loop-at.invariant.room;
      filters = map-set (λ (column : KeyColumn g.row.F.Denot). column.filter) items at c.index_mut-column.result.now c.fill.new.self c.index_mut-column.ensures.value c.fill.ensures.filter ∙ c.loop-at.invariant.filters;
      columns = all-more (IsKeyColumn key places) items at c.fill.new.self c.fill.ensures.column c.loop-at.invariant.columns;
    }

pub returns-clause-columns : goal.returns-clause-columns
returns-clause-columns g c =
    let key = λ (filter : g.row.F.Denot). g.F.KeyFilter.key filter c.args.side in
    let passed : length c.loop-at.columns.items ≤ c.loop-at.at = search rules in
    all-taken (IsKeyColumn key (places_in c.args.rows.now)) c.loop-at.columns.items c.loop-at.at passed c.loop-at.invariant.columns
