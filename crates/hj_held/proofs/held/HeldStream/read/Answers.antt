use Rattle.std.proofs.Common.{◌≡◌, length, sym, ap, ◌∙◌, arith, refl, [], length-take}
use Rattle.std.proofs.lemmas.Grind.{common_steps}
use Rattle.hj_base.specs.Outside.{opened}
use Rattle.hj_held.specs.Held.{HeldState}
use Rattle.hj_held.proofs.HeldRead.{came_in_front}
use Rattle.hj_held.proofs.held.HeldStream.read.Goals as goal

pub returns : goal.returns
returns c =
    let size : length c.copy_from_slice.new.self ≡ c.min-count.result = c.copy_from_slice.ensures.len ∙ length-take c.min-count.result c.args.buf.now ∙ grind (arith, common_steps) in (
      grind (arith, common_steps),
      grind (arith, common_steps, size),
      sym (ap (λ (s : HeldState). s.rest) c.self.view_is) ∙ came_in_front c.self.inside.taken c.min-count.result c.self.inside.bytes c.bytes.result.now c.copy_from_slice.new.self _ c.bytes.ensures c.copy_from_slice.ensures.after size,
      ap (λ (s : HeldState). opened [] s.ended) c.self.view_is,
      refl,
    )
