use Rattle.std.proofs.Common.{◌≡◌, List, [], ◌∷◌, ◌++◌, refl, sym, subst}
use Rattle.hj_base.specs.declared.numbers.Side.TheVariants.{Left, Right}
use Rattle.hj_msg.specs.declared.event.Event.{Event}
use Rattle.hj_msg.specs.declared.event.Event.TheVariants.{Arrive}
use Rattle.hj_msg.specs.declared.fin.Fin.TheVariants.{Done}
use Rattle.hj_msg.specs.Event.{IsWellFormed}
use Rattle.hj_msg.specs.Kang.{after, listed, windows_after}
use Rattle.hj_sequential.specs.Giving.{GivesListed}
use Rattle.hj_sequential.specs.Stores.{HoldWindows}
use Rattle.hj_sequential.proofs.Listing.{left_gives, left_holds, right_gives, right_holds}
use Rattle.hj_sequential.proofs.sequential.SequentialJoin.handle.Goals as goal

pub returns-in-Arrive-default-Left-default-clause-gives : goal.returns-in-Arrive-default-Left-default-clause-gives
returns-in-Arrive-default-Left-default-clause-gives g c =
    let arm = c.in-Arrive-default-Left-default in
    let is : c.args.event ≡ Arrive arm.no Left arm.row = cc in
    subst (λ (event : Event g.row.P.Denot). (before : List (Event g.row.P.Denot)) → IsWellFormed (before ++ event ∷ []) → HoldWindows g.S.Store.entries (windows_after before) c.args.self.now.left c.args.self.now.right
    → GivesListed g.D.Drain.takes (listed (g.J.Join.predicate c.args.self.now.join) (windows_after before) event) c.arrives.result c.args.drain.now c.arrives.new.drain) (sym is)
    (λ before well holds. left_gives g.S.Store.entries (g.J.Join.predicate c.args.self.now.join) before c.args.self.now.left c.args.self.now.right holds arm.no arm.row well g.D.Drain.takes c.arrives.result c.args.drain.now c.arrives.new.drain (c.arrives.ensures.gives _ c.partners_in-found.ensures))

pub returns-in-Arrive-default-Left-default-clause-holds : goal.returns-in-Arrive-default-Left-default-clause-holds
returns-in-Arrive-default-Left-default-clause-holds g c =
    let arm = c.in-Arrive-default-Left-default in
    let is : c.args.event ≡ Arrive arm.no Left arm.row = cc in
    subst (λ (event : Event g.row.P.Denot). (before : List (Event g.row.P.Denot)) → IsWellFormed (before ++ event ∷ []) → HoldWindows g.S.Store.entries (windows_after before) c.args.self.now.left c.args.self.now.right
    → c.arrives.result ≡ Done → HoldWindows g.S.Store.entries (after (windows_after before) event) c.arrives.new.store c.args.self.now.right) (sym is)
    (λ before well holds done. left_holds g.S.Store.entries (g.J.Join.predicate c.args.self.now.join) before c.args.self.now.left c.args.self.now.right holds arm.no arm.row well c.arrives.new.store c.args.self.now.right (c.arrives.ensures.keeps done) refl)

pub returns-in-Arrive-default-Right-default-clause-gives : goal.returns-in-Arrive-default-Right-default-clause-gives
returns-in-Arrive-default-Right-default-clause-gives g c =
    let arm = c.in-Arrive-default-Right-default in
    let is : c.args.event ≡ Arrive arm.no Right arm.row = cc in
    subst (λ (event : Event g.row.P.Denot). (before : List (Event g.row.P.Denot)) → IsWellFormed (before ++ event ∷ []) → HoldWindows g.S.Store.entries (windows_after before) c.args.self.now.left c.args.self.now.right
    → GivesListed g.D.Drain.takes (listed (g.J.Join.predicate c.args.self.now.join) (windows_after before) event) c.arrives-in-Arrive-default-Right-default.result c.args.drain.now c.arrives-in-Arrive-default-Right-default.new.drain) (sym is)
    (λ before well holds. right_gives g.S.Store.entries (g.J.Join.predicate c.args.self.now.join) before c.args.self.now.left c.args.self.now.right holds arm.no arm.row well g.D.Drain.takes c.arrives-in-Arrive-default-Right-default.result c.args.drain.now c.arrives-in-Arrive-default-Right-default.new.drain (c.arrives-in-Arrive-default-Right-default.ensures.gives _ c.partners_in-found-in-Arrive-default-Right-default.ensures))

pub returns-in-Arrive-default-Right-default-clause-holds : goal.returns-in-Arrive-default-Right-default-clause-holds
returns-in-Arrive-default-Right-default-clause-holds g c =
    let arm = c.in-Arrive-default-Right-default in
    let is : c.args.event ≡ Arrive arm.no Right arm.row = cc in
    subst (λ (event : Event g.row.P.Denot). (before : List (Event g.row.P.Denot)) → IsWellFormed (before ++ event ∷ []) → HoldWindows g.S.Store.entries (windows_after before) c.args.self.now.left c.args.self.now.right
    → c.arrives-in-Arrive-default-Right-default.result ≡ Done → HoldWindows g.S.Store.entries (after (windows_after before) event) c.args.self.now.left c.arrives-in-Arrive-default-Right-default.new.store) (sym is)
    (λ before well holds done. right_holds g.S.Store.entries (g.J.Join.predicate c.args.self.now.join) before c.args.self.now.left c.args.self.now.right holds arm.no arm.row well c.args.self.now.left c.arrives-in-Arrive-default-Right-default.new.store refl (c.arrives-in-Arrive-default-Right-default.ensures.keeps done))

pub returns-in-Expire-clause-holds : goal.returns-in-Expire-clause-holds
returns-in-Expire-clause-holds g c =
    subst (λ (event : Event g.row.P.Denot). (before : List (Event g.row.P.Denot)) → IsWellFormed (before ++ event ∷ []) → HoldWindows g.S.Store.entries (windows_after before) c.args.self.now.left c.args.self.now.right
    → Done ≡ Done → HoldWindows g.S.Store.entries (after (windows_after before) event) c.expires.new.self.left c.expires.new.self.right) (sym c.in-Expire.is)
    (λ before well holds done. c.expires.ensures.holds (windows_after before) c.in-Expire.no holds)
