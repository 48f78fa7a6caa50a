use Rattle.std.proofs.Common.{◌≡◌, ℕ, List, None, position, bytes_eq, sym}
use Rattle.hj_base.proofs.Lookups.{lookup_push_same}
use Rattle.hj_base.proofs.mem_outside.MemOutside.add.Goals as goal

pub returns-in_ok-push-in-None-clause-added : goal.returns-in_ok-push-in-None-clause-added
returns-in_ok-push-in-None-clause-added c =
    let missing : position (λ (content : List ℕ × List ℕ). bytes_eq content.0 c.args.name.now) c.self.inside.contents.items ≡ None =
    rw c.deref.ensures.value at (sym c.in-None.ensures) in
    rw (c.in_ok-push-in-None.ensures.items, c.in_ok-content.ensures) (lookup_push_same c.self.inside.contents.items c.args.name.now c.args.bytes.now missing)
