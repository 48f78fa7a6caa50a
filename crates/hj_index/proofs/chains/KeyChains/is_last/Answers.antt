use Rattle.std.proofs.Common.{◌≡◌, ◌-◌, ◌<◌, Some, slice_get, rules, arith}
use Rattle.std.specs.VecDeque.{deque_len}
use Rattle.std.proofs.lemmas.Bool.{ltb-true}
use Rattle.std.proofs.lemmas.Option.{slice_get_read}
use Rattle.hj_index.proofs.ChainRows.{above-absent, last-above}
use Rattle.hj_index.proofs.chains.KeyChains.is_last.Goals as goal

pub returns-then-self-clause-above : goal.returns-then-self-clause-above
returns-then-self-clause-above c = λ e.
    let places = c.args.self.now.places in
    let some : 0 < deque_len places = search rules in
    let at : slice_get places.items (deque_len places - 1) ≡ Some c.in-Some.last.now = slice_get_read places.items (deque_len places) (deque_len places - 1) c.in-Some.last.now places.ok.0 (omega (arith, some)) c.in-Some.ensures.lookup in
    last-above c.args.no 0 places.items c.in-Some.last.now (c.requires.nearly.ascending c.if-self.true) (deque_len places - 1) (omega (arith, some, places.ok.0)) at (ltb-true c.in-Some.last.now.no c.args.no e)

pub returns-then-self-clause-absent : goal.returns-then-self-clause-absent
returns-then-self-clause-absent c = λ e. above-absent c.args.no c.args.self.now.places.items (returns-then-self-clause-above c e)
