use Rattle.std.proofs.Common.{◌<◌, ◌≤◌, length, sym, ◌∙◌, rules}
use Rattle.std.proofs.lemmas.List.Elements.{All-set}
use Rattle.hj_rows.specs.NumberedRows.{places_in}
use Rattle.hj_columns.specs.declared.key_column.KeyColumn.{KeyColumn}
use Rattle.hj_columns.specs.Columns.{IsKeyColumn, Waits}
use Rattle.hj_columns.proofs.Keeping.{length-places, put-keeps, put-waits}
use Rattle.hj_columns.proofs.Listing.{all-more, all-read, all-taken, map-set}
use Rattle.hj_columns.proofs.key_column.reserve_keys.Goals as goal

pub loop-at-preserved : goal.loop-at-preserved
loop-at-preserved g c =
    let key = λ (filter : g.row.F.Denot). g.F.KeyFilter.key filter c.args.side in
    let places = places_in c.args.rows.now in
    let items = c.loop-at.columns.items in
    let at = c.loop-at.at in
    let old = c.index_mut-column.result.now in
    let new = c.put.new.self in
    let low : at < length items = search rules in
    let long = length-places c.args.rows.now.places.entries ∙ sym c.places-place.ensures.counted in
    let column = all-read (IsKeyColumn key places) items at old c.loop-at.invariant.columns low c.index_mut-column.ensures.value in
    record {
      columns = All-set (IsKeyColumn key places) items at new (put-keeps key places c.places-place.result old new long column c.put.ensures.filter c.put.ensures.before c.put.ensures.room c.put.ensures.blocks) c.loop-at.invariant.columns;
      filters = map-set (λ (column : KeyColumn g.row.F.Denot). column.filter) items at old new c.index_mut-column.ensures.value c.put.ensures.filter ∙ c.loop-at.invariant.filters;
      wait =
          all-more (Waits key places c.args.row.now) items at new (put-waits key places c.places-place.result c.args.row.now old new c.key_of-key.result long c.put.ensures.filter c.key_of-key.ensures c.in_ok-put.ensures.put) c.loop-at.invariant.wait;
    }

pub returns-in_err-put-clause-columns : goal.returns-in_err-put-clause-columns
returns-in_err-put-clause-columns g c =
    let key = λ (filter : g.row.F.Denot). g.F.KeyFilter.key filter c.args.side in
    let places = places_in c.args.rows.now in
    let items = c.loop-at.columns.items in
    let at = c.loop-at.at in
    let old = c.index_mut-column.result.now in
    let new = c.put.new.self in
    let low : at < length items = search rules in
    let long = length-places c.args.rows.now.places.entries ∙ sym c.places-place.ensures.counted in
    let column = all-read (IsKeyColumn key places) items at old c.loop-at.invariant.columns low c.index_mut-column.ensures.value in
    All-set (IsKeyColumn key places) items at new (put-keeps key places c.places-place.result old new long column c.put.ensures.filter c.put.ensures.before c.put.ensures.room c.put.ensures.blocks) c.loop-at.invariant.columns

pub returns-in_err-put-clause-filters : goal.returns-in_err-put-clause-filters
returns-in_err-put-clause-filters g c =
    map-set (λ (column : KeyColumn g.row.F.Denot). column.filter) c.loop-at.columns.items c.loop-at.at c.index_mut-column.result.now c.put.new.self c.index_mut-column.ensures.value c.put.ensures.filter ∙ c.loop-at.invariant.filters

pub returns-clause-wait : goal.returns-clause-wait
returns-clause-wait g c =
    let key = λ (filter : g.row.F.Denot). g.F.KeyFilter.key filter c.args.side in
    let passed : length c.loop-at.columns.items ≤ c.loop-at.at = search rules in
    all-taken (Waits key (places_in c.args.rows.now) c.args.row.now) c.loop-at.columns.items c.loop-at.at passed c.loop-at.invariant.wait
