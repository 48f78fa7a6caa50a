-- Streams in memory whose roles stand as they did: their bytes or their failures alone were changed.
use Rattle.std.proofs.Common.{◌≡◌, ap, refl, ◌∙◌, Ok, Err, Result}
use Rattle.std.specs.Prelude.{OnErr, OnOk}
use Rattle.hj_base.specs.declared.outside.Role.{Role}
use Rattle.hj_base.specs.declared.outside.Role.TheVariants.{Query, SecondQuery, Left, Right, Third, Trace, Output}
use Rattle.hj_base.specs.MemOutside.{OutsideState, StreamState, role_at, stream_at, with_stream}
use Rattle.hj_base.specs.Outside.{RoleState, unbegun}

abbrev pub AreUnbegun : OutsideState → Type 0
AreUnbegun outside = (of : Role) → (role_at outside of).phase ≡ unbegun

with_same : (old : OutsideState) (changed : Role) (state : StreamState) → state.role ≡ (stream_at old changed).role → (of : Role) → role_at (with_stream old changed state) of ≡ role_at old of
with_same old Query state e Query = e
with_same old SecondQuery state e SecondQuery = e
with_same old Left state e Left = e
with_same old Right state e Right = e
with_same old Third state e Third = e
with_same old Trace state e Trace = e
with_same old Output state e Output = e
with_same old changed state e of = refl

as_before : (old new : OutsideState) → new ≡ old → AreUnbegun old → AreUnbegun new
as_before old new is none of = ap (λ (o : OutsideState). (role_at o of).phase) is ∙ none of

-- a stream's failures were changed, or nothing was
pub unbegun-with : {T E : Type 0} (answer : Result T E) (old new : OutsideState) (changed : Role) (state : StreamState) → state.role ≡ (stream_at old changed).role
    → OnOk answer (new ≡ with_stream old changed state) → OnErr answer (new ≡ old) → AreUnbegun old → AreUnbegun new
unbegun-with (Ok done) old new changed state same listed refused none = λ of.
    ap (λ (o : OutsideState). (role_at o of).phase) listed ∙ (ap (λ (r : RoleState). r.phase) (with_same old changed state same of) ∙ none of)
unbegun-with (Err why) old new changed state same listed refused none = as_before old new refused none

pub unbegun-contents : (old new : OutsideState) → new ≡ record old { contents = new.contents } → AreUnbegun old → AreUnbegun new
unbegun-contents old new is none Query = ap (λ (o : OutsideState). (role_at o Query).phase) is ∙ none Query
unbegun-contents old new is none SecondQuery = ap (λ (o : OutsideState). (role_at o SecondQuery).phase) is ∙ none SecondQuery
unbegun-contents old new is none Left = ap (λ (o : OutsideState). (role_at o Left).phase) is ∙ none Left
unbegun-contents old new is none Right = ap (λ (o : OutsideState). (role_at o Right).phase) is ∙ none Right
unbegun-contents old new is none Third = ap (λ (o : OutsideState). (role_at o Third).phase) is ∙ none Third
unbegun-contents old new is none Trace = ap (λ (o : OutsideState). (role_at o Trace).phase) is ∙ none Trace
unbegun-contents old new is none Output = ap (λ (o : OutsideState). (role_at o Output).phase) is ∙ none Output
