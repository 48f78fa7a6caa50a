use Rattle.std.proofs.Common.{refl, sym, ap, ◌∙◌}
use Rattle.std.specs.Option.{option_copied_mut}
use Rattle.hj_rows.specs.Places.{place_rows, rows_of}
use Rattle.hj_rows.proofs.Rows.{rows-distinct, held-at, settled-at, holds-absent, settled-absent}
use Rattle.hj_rows.proofs.InPlace.{settled-stays}
use Rattle.hj_rows.proofs.numbered.NumberedRows.settle.Goals as goal

pub returns-in_default : goal.returns-in_default
returns-in_default g c =
    let k = c.args.no in
    let es = c.args.self.now.places.entries in
    let absent = holds-absent k es (sym c.get_mut.ensures.value ∙ ap option_copied_mut c.in_default.is) in
    rw c.get_mut.follows.holds-at-none (record {
      held = sym absent;
      rows = sym (settled-absent k (rows_of es) absent);
      places = refl;
      room = refl;
      distinct = rows-distinct es c.get_mut.ensures.unique;
    })

pub returns-clause-held : goal.returns-clause-held
returns-clause-held g c =
    c.settle_place.ensures.held
    ∙ held-at c.args.no c.in-Some.place.now c.args.self.now.places.entries c.get_mut.ensures.unique (sym c.get_mut.ensures.value ∙ ap option_copied_mut c.in-Some.is)

pub returns-clause-rows : goal.returns-clause-rows
returns-clause-rows g c =
    let new = c.settle_place.new.place in
    ap rows_of (c.get_mut.follows.holds new).0
    ∙ rw c.settle_place.ensures.settled
    (settled-at c.args.no c.in-Some.place.now c.args.self.now.places.entries c.get_mut.ensures.unique (sym c.get_mut.ensures.value ∙ ap option_copied_mut c.in-Some.is))

pub returns-clause-distinct : goal.returns-clause-distinct
returns-clause-distinct g c =
    let new = c.settle_place.new.place in
    rows-distinct (c.get_mut.follows.lender new).entries (c.get_mut.follows.holds new).4

pub returns-clause-places : goal.returns-clause-places
returns-clause-places g c =
    let new = c.settle_place.new.place in
    ap place_rows (c.get_mut.follows.holds new).0
    ∙ rw c.settle_place.ensures.settled
    (settled-stays c.args.no c.in-Some.place.now c.args.self.now.places.entries (sym c.get_mut.ensures.value ∙ ap option_copied_mut c.in-Some.is))
