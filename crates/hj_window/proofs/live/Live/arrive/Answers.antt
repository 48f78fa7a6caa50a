use Rattle.std.proofs.Common.{◌+◌, length, ap, ◌∙◌, sym, subst}
use Rattle.std.proofs.lemmas.List.{length-map}
use Rattle.std.proofs.lemmas.Int.{to_z-of_z}
use Rattle.hj_base.specs.declared.numbers.Side.TheVariants.{Left, Right}
use Rattle.hj_window.specs.LiveRows.{IsInOrder, LiveRows, arrive}
use Rattle.hj_window.specs.Numbers.{number_of_some}
use Rattle.hj_window.proofs.Arriving.{left_after, right_after, left_live, right_live, left_order, right_order}
use Rattle.hj_window.proofs.live.Live.arrive.Goals as goal
use Rattle.hj_window.proofs.live.Live.arrive.Goals.{in-Left+in_ok-after-in-Left, in-Right+in_ok-after-in-Right}

pub invariant_of-self-in-Left : goal.invariant_of-self-in-Left
invariant_of-self-in-Left c =
    let e = c.in_ok-after-in-Left.ensures in
    let number = ap (λ n. c.args.no.0 + n) (c.len.ensures ∙ ap length c.in_ok-before.ensures ∙ length-map _ _) in
    left_order _ c.self.inside.left c.self.inside.right c.enter.new.own c.enter.new.other _ c.args.no.0 c.self.view_is c.self.invariant c.requires.above number
    (record { windows = e.windows; own_rows = e.own_rows; other_rows = e.other_rows })

pub invariant_of-self-in-Right : goal.invariant_of-self-in-Right
invariant_of-self-in-Right c =
    let e = c.in_ok-after-in-Right.ensures in
    let number = ap (λ n. c.args.no.0 + n) (c.len.ensures ∙ ap length c.in_ok-before.ensures ∙ length-map _ _) in
    right_order _ c.self.inside.left c.self.inside.right c.enter-in-Right.new.own c.enter-in-Right.new.other _ c.args.no.0 c.self.view_is c.self.invariant c.requires.above number
    (record { windows = e.windows; own_rows = e.own_rows; other_rows = e.other_rows })

pub returns-clause-after : goal.returns-clause-after
returns-clause-after c =
    let at = c.args.no.0 in
    let live = c.args.self.now in
    let number = ap (λ n. at + n) (c.len.ensures ∙ ap length c.in_ok-before.ensures ∙ length-map _ _) in
    let time = to_z-of_z _ c.args.time c.ranges.time in
    elim c.match-side.branch [
      | in-Left+in_ok-after-in-Left w ↦
          w.after-is ∙ w.in_ok-after-in-Left.ensures.gone
          ∙ left_after live c.self.inside.left c.self.inside.right _ at c.self.view_is c.self.invariant c.requires.above number
          ∙ ap (λ t. number_of_some (arrive live Left t at).after) time
          ∙ ap (λ s. number_of_some (arrive live s c.args.time at).after) (sym w.in-Left.is)
      | in-Right+in_ok-after-in-Right w ↦
          w.after-is ∙ w.in_ok-after-in-Right.ensures.gone
          ∙ right_after live c.self.inside.left c.self.inside.right _ at c.self.view_is c.self.invariant c.requires.above number
          ∙ ap (λ t. number_of_some (arrive live Right t at).after) time
          ∙ ap (λ s. number_of_some (arrive live s c.args.time at).after) (sym w.in-Right.is)
    ]

pub returns-clause-live : goal.returns-clause-live
returns-clause-live c =
    let at = c.args.no.0 in
    let live = c.args.self.now in
    let number = ap (λ n. at + n) (c.len.ensures ∙ ap length c.in_ok-before.ensures ∙ length-map _ _) in
    let time = to_z-of_z _ c.args.time c.ranges.time in
    elim c.match-side.branch [
      | in-Left+in_ok-after-in-Left w ↦
          let e = w.in_ok-after-in-Left.ensures in
          w.self-is
          ∙ left_live live c.self.inside.left c.self.inside.right w.enter.new.own w.enter.new.other _ at c.self.view_is c.self.invariant c.requires.above number
          (record { windows = e.windows; own_rows = e.own_rows; other_rows = e.other_rows })
          ∙ ap (λ t. (arrive live Left t at).live) time ∙ ap (λ s. (arrive live s c.args.time at).live) (sym w.in-Left.is)
      | in-Right+in_ok-after-in-Right w ↦
          let e = w.in_ok-after-in-Right.ensures in
          w.self-is
          ∙ right_live live c.self.inside.left c.self.inside.right w.enter-in-Right.new.own w.enter-in-Right.new.other _ at c.self.view_is c.self.invariant c.requires.above number
          (record { windows = e.windows; own_rows = e.own_rows; other_rows = e.other_rows })
          ∙ ap (λ t. (arrive live Right t at).live) time ∙ ap (λ s. (arrive live s c.args.time at).live) (sym w.in-Right.is)
    ]

pub returns-clause-order : goal.returns-clause-order
returns-clause-order c =
    let at = c.args.no.0 in
    let live = c.args.self.now in
    let number = ap (λ n. at + n) (c.len.ensures ∙ ap length c.in_ok-before.ensures ∙ length-map _ _) in
    elim c.match-side.branch [
      | in-Left+in_ok-after-in-Left w ↦
          let e = w.in_ok-after-in-Left.ensures in
          subst (λ (l : LiveRows). IsInOrder l.rows) (sym w.self-is)
          (left_order live c.self.inside.left c.self.inside.right w.enter.new.own w.enter.new.other _ at c.self.view_is c.self.invariant c.requires.above number
          (record { windows = e.windows; own_rows = e.own_rows; other_rows = e.other_rows }))
      | in-Right+in_ok-after-in-Right w ↦
          let e = w.in_ok-after-in-Right.ensures in
          subst (λ (l : LiveRows). IsInOrder l.rows) (sym w.self-is)
          (right_order live c.self.inside.left c.self.inside.right w.enter-in-Right.new.own w.enter-in-Right.new.other _ at c.self.view_is c.self.invariant c.requires.above number
          (record { windows = e.windows; own_rows = e.own_rows; other_rows = e.other_rows }))
    ]
