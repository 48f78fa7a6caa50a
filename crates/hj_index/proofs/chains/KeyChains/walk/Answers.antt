use Rattle.std.proofs.Common.{◌∷◌, ◌++◌, [], nat_eq, sym, ap, ◌∙◌}
use Rattle.std.specs.HashMap.{get}
use Rattle.hj_msg.specs.Store.{joins}
use Rattle.hj_index.proofs.ChainWalks.{matches-sorted, partner, walk-ends, walk-falls, walk-joined, walk-passed, walk-starts}
use Rattle.hj_index.proofs.chains.KeyChains.walk.Goals as goal

pub loop-place-init : goal.loop-place-init
loop-place-init g c =
    let s = c.args.self.now in
    walk-starts (λ row. joins (g.J.Join.predicate c.args.join.now) c.args.side row c.args.against.now) s.own c.args.key s.base s.places.items (get nat_eq s.last) c.requires.key c.requires.chained.nearly.linked
    c.args.found.now c.args.last c.requires.empty c.requires.last

pub loop-place-smaller-in_ok-push : goal.loop-place-smaller-in_ok-push
loop-place-smaller-in_ok-push g c =
    let s = c.args.self.now in
    walk-falls (λ row. joins (g.J.Join.predicate c.args.join.now) c.args.side row c.args.against.now) s.own c.args.key s.base s.places.items (get nat_eq s.last) c.requires.key c.requires.chained.nearly.linked
    c.loop-place.found c.loop-place.next c.in-Some.place.now c.loop-place.invariant c.in-Some.ensures

pub loop-place-preserved-in_ok-push : goal.loop-place-preserved-in_ok-push
loop-place-preserved-in_ok-push g c =
    let s = c.args.self.now in
    walk-joined (λ row. joins (g.J.Join.predicate c.args.join.now) c.args.side row c.args.against.now) s.own c.args.key s.base s.places.items (get nat_eq s.last) c.requires.key c.requires.chained.nearly.linked
    c.loop-place.found c.push.new.self c.loop-place.next c.in-Some.place.now c.in-Some-joining_row.row.now c.loop-place.invariant c.in-Some.ensures c.in-Some-joining_row.ensures
    (c.in_ok-push.ensures.ok ∙ ap (λ row. c.loop-place.found ++ partner c.in-Some.place.now.no row ∷ []) c.in_ok-share.ensures)

pub loop-place-smaller : goal.loop-place-smaller
loop-place-smaller g c =
    let s = c.args.self.now in
    walk-falls (λ row. joins (g.J.Join.predicate c.args.join.now) c.args.side row c.args.against.now) s.own c.args.key s.base s.places.items (get nat_eq s.last) c.requires.key c.requires.chained.nearly.linked
    c.loop-place.found c.loop-place.next c.in-Some.place.now c.loop-place.invariant c.in-Some.ensures

pub loop-place-preserved : goal.loop-place-preserved
loop-place-preserved g c =
    let s = c.args.self.now in
    walk-passed (λ row. joins (g.J.Join.predicate c.args.join.now) c.args.side row c.args.against.now) s.own c.args.key s.base s.places.items (get nat_eq s.last) c.requires.key c.requires.chained.nearly.linked
    c.loop-place.found c.loop-place.next c.in-Some.place.now c.loop-place.invariant c.in-Some.ensures c.in_default-joining_row.ensures

pub returns : goal.returns
returns g c =
    let s = c.args.self.now in
    c.reverse.ensures
    ∙ walk-ends (λ row. joins (g.J.Join.predicate c.args.join.now) c.args.side row c.args.against.now) s.own c.args.key s.base s.places.items (get nat_eq s.last) c.requires.key c.requires.chained.nearly.linked
    c.loop-place.found c.loop-place.next c.loop-place.invariant c.in_default.ensures
    ∙ sym (matches-sorted (λ row. joins (g.J.Join.predicate c.args.join.now) c.args.side row c.args.against.now) s.places.items (c.requires.chained.nearly.ascending c.requires.ascending))
