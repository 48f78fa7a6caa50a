use Rattle.std.proofs.Common.{◌≡◌, nat_eq, is_some, None, Some, option_map, arith, refl, sym, ap, ◌∙◌}
use Rattle.std.specs.Option.{option_copied_mut}
use Rattle.std.specs.Map.{lookup}
use Rattle.hj_msg.specs.Store.{Resting}
use Rattle.hj_rows.specs.Places.{rows_of}
use Rattle.hj_rows.proofs.Rows.{entry-absent, entry-found, held-at, holds-absent, row_of, rows-distinct, rows-emptied, without-absent}
use Rattle.hj_rows.proofs.InPlace.{emptied-length, emptied-swept}
use Rattle.hj_rows.proofs.numbered.NumberedRows.remove.Goals as goal

pub returns-in_default : goal.returns-in_default
returns-in_default g c =
    let k = c.args.no in
    let es = c.args.self.now.places.entries in
    let absent : lookup (nat_eq k) es ≡ None = sym c.get_mut.ensures.value ∙ ap option_copied_mut c.in_default.is in
    rw c.get_mut.follows.holds-at-none (record {
      taken = ap (option_map (λ (entry : Resting g.row.P.Denot). entry.row)) (sym (entry-absent k es absent));
      held = sym (holds-absent k es absent);
      rows = sym (without-absent k (rows_of es) (holds-absent k es absent));
      few = omega arith;
      places = λ long at row e. e;
      distinct = rows-distinct es c.get_mut.ensures.unique;
    })

pub returns-in_default-take-clause-taken : goal.returns-in_default-take-clause-taken
returns-in_default-take-clause-taken g c =
    let none : c.in-Some.place.now ≡ None = sym c.take.ensures.value ∙ c.in_default-take.is in
    let at : lookup (nat_eq c.args.no) c.args.self.now.places.entries ≡ Some c.in-Some.place.now = sym c.get_mut.ensures.value ∙ ap option_copied_mut c.in-Some.is in
    ap (option_map (λ (entry : Resting g.row.P.Denot). entry.row)) (sym (entry-found c.args.no c.in-Some.place.now c.args.self.now.places.entries c.get_mut.ensures.unique at ∙ ap (option_map (row_of c.args.no)) none))

pub returns-in_default-take-clause-held : goal.returns-in_default-take-clause-held
returns-in_default-take-clause-held g c =
    let none : c.in-Some.place.now ≡ None = sym c.take.ensures.value ∙ c.in_default-take.is in
    sym (ap is_some none)
    ∙ held-at c.args.no c.in-Some.place.now c.args.self.now.places.entries c.get_mut.ensures.unique (sym c.get_mut.ensures.value ∙ ap option_copied_mut c.in-Some.is)

pub returns-in_default-take-clause-rows : goal.returns-in_default-take-clause-rows
returns-in_default-take-clause-rows g c =
    ap rows_of (c.get_mut.follows.holds c.take.new.self).0
    ∙ rw c.take.ensures.after (rows-emptied c.args.no c.args.self.now.places.entries c.get_mut.ensures.unique)

pub returns-in_default-take-clause-distinct : goal.returns-in_default-take-clause-distinct
returns-in_default-take-clause-distinct g c = rows-distinct (c.get_mut.follows.lender c.take.new.self).entries (c.get_mut.follows.holds c.take.new.self).4

pub returns-clause-taken : goal.returns-clause-taken
returns-clause-taken g c =
    let some : c.in-Some.place.now ≡ Some c.in-Some-take.rest = sym c.take.ensures.value ∙ c.in-Some-take.is in
    let at : lookup (nat_eq c.args.no) c.args.self.now.places.entries ≡ Some c.in-Some.place.now = sym c.get_mut.ensures.value ∙ ap option_copied_mut c.in-Some.is in
    ap (option_map (λ (entry : Resting g.row.P.Denot). entry.row)) (sym (entry-found c.args.no c.in-Some.place.now c.args.self.now.places.entries c.get_mut.ensures.unique at ∙ ap (option_map (row_of c.args.no)) some))

pub returns-clause-held : goal.returns-clause-held
returns-clause-held g c =
    let some : c.in-Some.place.now ≡ Some c.in-Some-take.rest = sym c.take.ensures.value ∙ c.in-Some-take.is in
    sym (ap is_some some)
    ∙ held-at c.args.no c.in-Some.place.now c.args.self.now.places.entries c.get_mut.ensures.unique (sym c.get_mut.ensures.value ∙ ap option_copied_mut c.in-Some.is)

pub returns-clause-rows : goal.returns-clause-rows
returns-clause-rows g c =
    c.count_empty.ensures.rows
    ∙ (ap rows_of (c.get_mut.follows.holds c.take.new.self).0
    ∙ rw c.take.ensures.after (rows-emptied c.args.no c.args.self.now.places.entries c.get_mut.ensures.unique))

pub returns-clause-distinct : goal.returns-clause-distinct
returns-clause-distinct g c = rows-distinct c.count_empty.new.self.places.entries c.count_empty.ensures.unique

pub returns-in_default-take-clause-places : goal.returns-in_default-take-clause-places
returns-in_default-take-clause-places g c = λ long.
    emptied-swept c.args.no c.args.self.now.places.entries (c.get_mut.follows.lender c.take.new.self).entries (c.get_mut.follows.lender c.take.new.self).entries
    ((c.get_mut.follows.holds c.take.new.self).0 ∙ rw c.take.ensures.after refl) refl

pub returns-clause-places : goal.returns-clause-places
returns-clause-places g c = λ long.
    let emptied = (c.get_mut.follows.holds c.take.new.self).0 ∙ rw c.take.ensures.after refl in
    emptied-swept c.args.no c.args.self.now.places.entries (c.get_mut.follows.lender c.take.new.self).entries c.count_empty.new.self.places.entries emptied
    (c.count_empty.ensures.places (long ∙ sym (emptied-length c.args.no c.args.self.now.places.entries (c.get_mut.follows.lender c.take.new.self).entries emptied)))

pub returns-in_default-take-clause-few : goal.returns-in_default-take-clause-few
returns-in_default-take-clause-few g c =
    let same = emptied-length c.args.no c.args.self.now.places.entries (c.get_mut.follows.lender c.take.new.self).entries ((c.get_mut.follows.holds c.take.new.self).0 ∙ rw c.take.ensures.after refl) in
    omega arith

pub returns-clause-few : goal.returns-clause-few
returns-clause-few g c =
    let same = emptied-length c.args.no c.args.self.now.places.entries (c.get_mut.follows.lender c.take.new.self).entries ((c.get_mut.follows.holds c.take.new.self).0 ∙ rw c.take.ensures.after refl) in
    omega (arith, c.count_empty.ensures.few)
