use Rattle.std.proofs.Common.{◌≡◌, ap}
use Rattle.hj_base.specs.declared.numbers.Side.TheVariants.{Left, Right}
use Rattle.hj_window.specs.Numbers.{numbers_of}
use Rattle.hj_window.specs.SideRows.{first_of}
use Rattle.hj_window.proofs.Finding.{found, found_on, all_due, answered_left, answered_right}
use Rattle.hj_window.proofs.live.Live.find_gone.Goals as goal

pub rows-init : goal.rows-init
rows-init c =
    rw c.new-gone.ensures (ap numbers_of (all_due c.args.self.now _ c.self.inside.left c.self.inside.right _ _ c.self.view_is c.self.invariant c.due_from-left.ensures c.due_from-right.ensures))

pub rows-preserved-in-Some-Left-default : goal.rows-preserved-in-Some-Left-default
rows-preserved-in-Some-Left-default c =
    let due = c.in-Some-Left-default.due in
    let first : first_of c.rows.left c.rows.right ≡ found Left due = found_on _ Left due _ c.in-Some-Left-default.ensures c.in-Some-Left-default.field-0-0-is in
    answered_left _ c.self.inside.left c.self.inside.right c.rows.left c.rows.right _ due _ _ _ c.rows.invariant first c.in_ok-push-in-Some-Left-default.ensures.ok c.due_from-left-in-Some-Left-default.ensures

pub rows-preserved : goal.rows-preserved
rows-preserved c =
    let due = c.in-Some-Right-default.due in
    let first : first_of c.rows.left c.rows.right ≡ found Right due = found_on _ Right due _ c.in-Some-Right-default.ensures c.in-Some-Right-default.field-0-0-is in
    answered_right _ c.self.inside.left c.self.inside.right c.rows.left c.rows.right _ due _ _ _ c.rows.invariant first c.in_ok-push-in-Some-Right-default.ensures.ok c.due_from-right-in-Some-Right-default.ensures
