use Rattle.std.proofs.Common.{[], append-nil, arith, inl, inr, subst}
use Rattle.std.specs.List.{AllZip, zip}
use Rattle.std.specs.Iterator.Adapters.{zip_first, zip_second}
use Rattle.std.specs.Vec.Iter.{into_iter_items}
use Rattle.hj_crew.proofs.Linking.{none-zipped}
use Rattle.hj_crew.proofs.links.close_all.Goals as goal

pub returns : goal.returns
returns g c =
    let left = c.loop-first.first-iterator in
    let none = none-zipped _ (into_iter_items (zip_first left)) (into_iter_items (zip_second left)) (elim c.in-None.ensures.steps [ inl w ↦ inl (omega (arith, w.1.0)) | inr w ↦ inr (omega (arith, w.1.0)) ]) in
    subst (AllZip _ (zip c.args.firsts.items c.args.seconds.items)) (append-nil c.loop-first.closed.items) (c.loop-first.invariant.all [] none)
