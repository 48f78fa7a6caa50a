use Rattle.std.proofs.Common.{◌≡◌, ◌+◌, ◌<◌, Some, length, slice_get, arith, refl, sym, ap, subst, ◌∙◌}
use Rattle.std.specs.Option.{option_copied}
use Rattle.std.proofs.lemmas.Option.{slice_get_read}
use Rattle.hj_msg.specs.Store.{joins}
use Rattle.hj_index.proofs.ChainSorts.{sort-joined, sort-passed, sort-starts, IsSorting}
use Rattle.hj_index.proofs.chains.KeyChains.probe_sorted.Goals as goal
use Rattle.hj_index.proofs.chains.KeyChains.probe_sorted.Goals.{in-Some+in_ok-share+in_ok-insert+in-Some-1, in-Some+in_ok-share+in_ok-insert+in-None-1, in_default}

pub loop-at-init : goal.loop-at-init
loop-at-init g c =
    sort-starts (λ row. joins (g.J.Join.predicate c.args.join.now) c.args.side row c.args.against.now) c.args.self.now.places.items c.new-rows.result.entries c.new-rows.ensures.empty c.requires.chained.nearly.apart

pub loop-at-preserved : goal.loop-at-preserved
loop-at-preserved g c =
    let places = c.args.self.now.places in
    let within : c.loop-at.at < length places.items = omega (arith, c.loop-at-test.true, c.len-at-end.ensures, places.ok.0) in
    let there : slice_get places.items c.loop-at.at ≡ Some c.index-place.result.now = slice_get_read places.items (length places.items) c.loop-at.at c.index-place.result.now refl within c.index-place.ensures in
    elim c.match-joining_row.branch [
      | in-Some+in_ok-share+in_ok-insert+in-Some-1 w ↦
          subst (λ rows_now. IsSorting (λ row. joins (g.J.Join.predicate c.args.join.now) c.args.side row c.args.against.now) places.items rows_now.entries (c.loop-at.at + 1)) (sym w.rows-is)
          (sort-joined (λ row. joins (g.J.Join.predicate c.args.join.now) c.args.side row c.args.against.now) places.items c.loop-at.rows.entries w.insert.new.self.entries c.loop-at.at c.index-place.result.now
          (option_copied c.joining_row.result) w.in_ok-share.field-0 there c.joining_row.ensures (ap option_copied w.in-Some.is ∙ ap Some (sym w.in_ok-share.ensures)) c.loop-at.invariant w.in_ok-insert.ensures.entries w.in_ok-insert.ensures.updates.0)
      | in-Some+in_ok-share+in_ok-insert+in-None-1 w ↦
          subst (λ rows_now. IsSorting (λ row. joins (g.J.Join.predicate c.args.join.now) c.args.side row c.args.against.now) places.items rows_now.entries (c.loop-at.at + 1)) (sym w.rows-is)
          (sort-joined (λ row. joins (g.J.Join.predicate c.args.join.now) c.args.side row c.args.against.now) places.items c.loop-at.rows.entries w.insert.new.self.entries c.loop-at.at c.index-place.result.now
          (option_copied c.joining_row.result) w.in_ok-share.field-0 there c.joining_row.ensures (ap option_copied w.in-Some.is ∙ ap Some (sym w.in_ok-share.ensures)) c.loop-at.invariant w.in_ok-insert.ensures.entries w.in_ok-insert.ensures.updates.0)
      | in_default w ↦
          subst (λ rows_now. IsSorting (λ row. joins (g.J.Join.predicate c.args.join.now) c.args.side row c.args.against.now) places.items rows_now.entries (c.loop-at.at + 1)) (sym w.rows-is)
          (sort-passed (λ row. joins (g.J.Join.predicate c.args.join.now) c.args.side row c.args.against.now) places.items c.loop-at.rows.entries c.loop-at.at c.index-place.result.now (option_copied c.joining_row.result) there c.joining_row.ensures (ap option_copied w.in_default.is) c.loop-at.invariant)
    ]
