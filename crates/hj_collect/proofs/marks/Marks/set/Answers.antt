use Rattle.std.proofs.Common.{◌≡◌, ◌<◌, map, get_or, set, length, ap, ◌∙◌, arith}
use Rattle.std.proofs.lemmas.List.{map-set, length-map}
use Rattle.hj_collect.specs.Reach.{reached}
use Rattle.hj_collect.proofs.Replacing.{rest, least_with, least_put, fewer}
use Rattle.hj_collect.proofs.marks.Marks.set.Goals as goal
use Rattle.hj_collect.proofs.marks.Marks.set.Goals.{in-Some, in-None}

pub with-self-inside-requires : goal.with-self-inside-requires
with-self-inside-requires c =
    let items = c.self.inside.of_cores.items in
    let low : c.args.core < length items = omega (arith, c.requires, length-map items reached, ap length c.self.view_is) in
    let was : c.replace-before.result ≡ get_or items c.args.core c.replace-before.result = rw c.replace-before.ensures.value c.index_mut.ensures.value in
    let held = fewer items c.args.core low c.in-Some.least c.replace-before.result was (c.in-Some.ensures.least (rest items c.args.core low) (least_with items c.args.core low c.self.inside.least c.replace-before.result was c.self.invariant)) in
    omega (arith, held, c.self.inside.of_cores.ok, c.self.inside.of_cores.small)

pub invariant_of-self : goal.invariant_of-self
invariant_of-self c =
    let items = c.self.inside.of_cores.items in
    let low : c.args.core < length items = omega (arith, c.requires, length-map items reached, ap length c.self.view_is) in
    let was : c.replace-before.result ≡ get_or items c.args.core c.replace-before.result = rw c.replace-before.ensures.value c.index_mut.ensures.value in
    let mark : c.replace-before.new.dest ≡ c.args.mark = c.replace-before.ensures.after in
    elim c.match-without.branch [
      | in-Some w ↦
          let less = w.in-Some.ensures.least (rest items c.args.core low) (least_with items c.args.core low c.self.inside.least c.replace-before.result was c.self.invariant) in
          let put = least_put items c.args.core low w.with-self-inside.result c.args.mark (w.with-self-inside.ensures (rest items c.args.core low) less) in
          rw (w.self-is, mark) put
      | in-None w ↦ rw (w.self-is, ← w.deref.ensures.value) w.of-self-inside.ensures
    ]

pub returns : goal.returns
returns c =
    let mark = c.replace-before.ensures.after in
    ap (λ m. map reached (set c.self.inside.of_cores.items c.args.core m)) mark ∙ (map-set reached c.self.inside.of_cores.items c.args.core c.args.mark ∙ ap (λ ms. set ms c.args.core (reached c.args.mark)) c.self.view_is)
