-- What the commands promise alike, by the endings of each.
use Rattle.std.proofs.Common.{◌≡◌, ◌≢◌, ◌⊎◌, ℕ, List, [], inl, inr}
use Rattle.std.specs.Io.KnownBytes.{Appends}
use Rattle.hj_base.specs.declared.outside.Role.{Role}
use Rattle.hj_base.specs.Outside.{unbegun}
use Rattle.hj_opening.specs.Calls.{Call}
use Rattle.hj_opening.specs.Keeping.{EndsCommand, KeepsPromise, NothingFails}
use Rattle.hj_opening.specs.Keeping as keeping

module _ {EndsSo : ℕ → List ℕ → Type 0} {status : ℕ} {note : List ℕ} {call : Call} where
  -- Where nothing fails, what decides by its own endings decides, or memory ran out.
  pub decides : (IsDecided : ℕ → Type 0) → ((s : ℕ) (n : List ℕ) → EndsSo s n → NothingFails call → IsDecided s)
      → EndsCommand EndsSo status note call → NothingFails call → (status ≡ 6) ⊎ IsDecided status
  decides IsDecided own (keeping.own how) none = inr (own status note how none)
  decides IsDecided own (keeping.failed_sink is told rose) none = absurd (none.sink rose)
  decides IsDecided own (keeping.memory is told) none = inl is

  pub kept : {IsFront : List ℕ → Type 0} {Reads : Role → Type 0} → EndsCommand EndsSo status note call
      → (grown : List ℕ) → Appends call.old call.new grown → (grown ≡ []) ⊎ IsFront grown
      → ((of : Role) → ¬ (Reads of) → (call.now of).phase ≡ unbegun) → (status ≢ 5 → call.faults_now ≡ call.faults_before)
      → KeepsPromise EndsSo IsFront Reads status note call
  kept ends grown written front others sink = record {
    ends = ends;
    grown = grown;
    written = written;
    front = front;
    others = others;
    sink = sink;
  }
