-- Drivers behind the arrival of a first row, and the events that may come next.
use Rattle.std.proofs.Common.{◌≡◌, ℕ, ◌+◌, true, false, List, [], ◌∷◌, ◌++◌, length, None, refl, ap, sym, ◌∙◌, subst, inl, inr, arith, append-nil}
use Rattle.std.specs.Bool.{OnTrue, OnFalse}
use Rattle.std.proofs.lemmas.Bool.{OnTrue_at, OnFalse_at}
use Rattle.hj_base.specs.declared.numbers.EventNo.{EventNo}
use Rattle.hj_base.specs.declared.numbers.Side.{Side}
use Rattle.hj_base.specs.declared.numbers.Side.TheVariants.{Left, Right}
use Rattle.hj_msg.specs.declared.event.Event.{Event}
use Rattle.hj_msg.specs.declared.event.Event.TheVariants.{Arrive, Expire}
use Rattle.hj_msg.specs.declared.message.Msg.{Msg}
use Rattle.hj_msg.specs.Event.{number, NumbersFrom, Expires, NamesLive, IsWellFormed}
use Rattle.hj_msg.specs.Driver.{DriverTurn, admission, receipt, closing, admitted}
use Rattle.hj_msg.proofs.Members.{Contains-head, Contains-cons_cases}
use Rattle.hj_driver.specs.declared.answers.Admitted.{Admitted}
use Rattle.hj_driver.specs.declared.answers.Closing.{Closing}
use Rattle.hj_driver.specs.declared.answers.Closing.TheVariants.{Send, Wait, Already}
use Rattle.hj_driver.specs.Driver.{DriverState, answer_to, closed, closing_of, is_send, new_driver}
use Rattle.hj_driver.specs.StandsFor.{StandsFor, cause_after}
use Rattle.hj_driver.proofs.Logs.{admitted-push}
use Rattle.hj_driver.proofs.MayClose.{already≢send, may_close, wait≢send}
use Rattle.hj_driver.proofs.Standing.{split-push, stands-closing, stands-new}

-- a row arrives at the left; then one at the right arrives, or the first one expires
abbrev pub first : Event ℕ
first = Arrive (record { 0 = 0 }) Left 7

abbrev pub second : Event ℕ
second = Arrive (record { 0 = 1 }) Right 7

abbrev pub expiry : Event ℕ
expiry = Expire (record { 0 = 1 }) Left (record { 0 = 0 })

arrival≢expiry : (arrived expired of : EventNo) (side end : Side) (row : ℕ) → Arrive arrived side row ≡ Expire expired end of → ⊥
arrival≢expiry arrived expired of side end row same = cc

unexpired : (before : ℕ) → Expires (first ∷ []) 0 before → ⊥
unexpired before once = elim (Contains-cons_cases first (Expire (record { 0 = before }) once.0 (record { 0 = 0 })) [] once.1) [
  | inl same ↦ arrival≢expiry (record { 0 = 0 }) (record { 0 = before }) (record { 0 = 0 }) Left once.0 7 same
  | inr has ↦ absurd (omega (arith, has.1))
]

-- one event more of well-formed ones
numbers-push : {P : Type 0} (low : ℕ) (events : List (Event P)) (event : Event P) → NumbersFrom low events → number event ≡ low + length events → NumbersFrom low (events ++ event ∷ [])
numbers-push low [] event before is = (omega (arith, is), tt)
numbers-push low (e ∷ events) event before is = (before.0, numbers-push (low + 1) events event before.1 (omega (arith, is)))

well-push : {P : Type 0} (events : List (Event P)) (event : Event P) → IsWellFormed events → number event ≡ length events → NamesLive events event → IsWellFormed (events ++ event ∷ [])
well-push {P} events event before is live = record {
  numbered = numbers-push 0 events event before.numbered (omega (arith, is));
  live = λ earlier later last cut. elim (split-push events event earlier last later cut) [
    | inl w ↦ before.live earlier w.0 last w.1
    | inr w ↦ subst (λ (es : List (Event P)). NamesLive es last) w.0 (subst (λ (e : Event P). NamesLive events e) w.1 live)
  ];
}

pub first_is : IsWellFormed (first ∷ [])
first_is = well-push [] first (stands-new ℕ 0).well_formed refl tt

pub second_is : IsWellFormed (first ∷ second ∷ [])
second_is = well-push (first ∷ []) second first_is refl tt

pub expiry_is : IsWellFormed (first ∷ expiry ∷ [])
expiry_is = well-push (first ∷ []) expiry first_is refl ((7, Contains-head first []), unexpired)

-- what is promised of the answer to an event, and of the driver where the event is sent
abbrev pub Answers : DriverState → Event ℕ → Admitted ℕ → Type 0
Answers old event answer = (log : List (DriverTurn ℕ)) → StandsFor old log → IsWellFormed (admitted log ++ event ∷ []) → answer ≡ answer_to event (cause_after old.flight event log)

abbrev pub Sends : DriverState → DriverState → Event ℕ → Admitted ℕ → Type 0
Sends old new event answer = (log : List (DriverTurn ℕ)) → StandsFor old log → IsWellFormed (admitted log ++ event ∷ []) → OnTrue (is_send answer) (StandsFor new (log ++ admission event ∷ []))

-- the driver stands for a log in which the first row alone was put
pub record HasFirst (driver : DriverState) : Type 0 where
  pub log : List (DriverTurn ℕ)
  pub stands : StandsFor driver log
  pub alone : admitted log ≡ first ∷ []

abbrev pub Asked : DriverState → Event ℕ → Type 0
Asked driver event = (log : List (DriverTurn ℕ)) × StandsFor driver log × IsWellFormed (admitted log ++ event ∷ [])

stands-nothing : (driver : DriverState) (flight : ℕ) → driver ≡ new_driver flight → StandsFor {P = ℕ} driver []
stands-nothing driver flight is = subst (λ (d : DriverState). StandsFor {P = ℕ} d []) (sym is) (stands-new ℕ flight)

well-first : (event : Event ℕ) → event ≡ first → IsWellFormed (event ∷ [])
well-first event same = subst (λ (e : Event ℕ). IsWellFormed (e ∷ [])) (sym same) first_is

well-next : (event next : Event ℕ) → event ≡ next → IsWellFormed (first ∷ next ∷ []) → IsWellFormed (first ∷ event ∷ [])
well-next event next same well = subst (λ (e : Event ℕ). IsWellFormed (first ∷ e ∷ [])) (sym same) well

-- the first row may be put, and is
pub asked-first : (driver : DriverState) (flight : ℕ) (event : Event ℕ) → driver ≡ new_driver flight → event ≡ first → Asked driver event
asked-first driver flight event is same = ([], stands-nothing driver flight is, well-first event same)

pub put-first : (old new : DriverState) (flight : ℕ) (event : Event ℕ) (answer : Admitted ℕ) → old ≡ new_driver flight → event ≡ first → cause_after flight first [] ≡ None → Answers old event answer → Sends old new event answer → StandsFor new (admission first ∷ [])
put-first old new flight event answer is same free answers sends =
    let stands = stands-nothing old flight is in
    let well = well-first event same in
    let sent : is_send answer ≡ true =
    ap is_send (answers [] stands well)
    ∙ ap (λ (e : Event ℕ). is_send (answer_to e (cause_after old.flight e []))) same
    ∙ ap (λ (d : DriverState). is_send (answer_to first (cause_after d.flight first []))) is
    ∙ ap (λ o. is_send (answer_to first o)) free in
    subst (λ (e : Event ℕ). StandsFor new (admission e ∷ [])) same (OnTrue_at sent (sends [] stands well))

pub has-first : (driver : DriverState) → StandsFor driver (admission first ∷ []) → HasFirst driver
has-first driver stands = record { log = admission first ∷ []; stands = stands; alone = refl }

-- an event that isn't put behind the first row leaves the driver as it was
pub waits-behind : (old new : DriverState) (flight : ℕ) (next event : Event ℕ) (answer : Admitted ℕ) → StandsFor old (admission first ∷ []) → IsWellFormed (first ∷ next ∷ []) → old.flight ≡ flight → event ≡ next
    → is_send (answer_to next (cause_after flight next (admission first ∷ []))) ≡ false → Answers old event answer → OnFalse (is_send answer) (new ≡ old) → HasFirst new
waits-behind old new flight next event answer stands well room same waits answers kept =
    let unsent : is_send answer ≡ false =
    ap is_send (answers (admission first ∷ []) stands (well-next event next same well))
    ∙ ap (λ (e : Event ℕ). is_send (answer_to e (cause_after old.flight e (admission first ∷ [])))) same
    ∙ ap (λ (n : ℕ). is_send (answer_to next (cause_after n next (admission first ∷ [])))) room
    ∙ waits in
    subst HasFirst (sym (OnFalse_at unsent kept)) (has-first old stands)

-- neither what is taken nor a wish to close puts an event
pub first-received : (old new : DriverState) (port : Side) (m : Msg ℕ) → ((log : List (DriverTurn ℕ)) → StandsFor old log → StandsFor new (log ++ receipt port m ∷ [])) → HasFirst old → HasFirst new
first-received old new port m turn has = record {
  log = has.log ++ receipt port m ∷ [];
  stands = turn has.log has.stands;
  alone = admitted-push has.log (receipt port m) ∙ append-nil (admitted has.log) ∙ has.alone;
}

pub first-closed : (old new : DriverState) (answer : Closing) → answer ≡ closing_of old → (answer ≡ Send → new ≡ closed old) → (¬ (answer ≡ Send) → new ≡ old) → HasFirst old → HasFirst new
first-closed old new Send is sent waits has =
    let free = may_close old (sym is) in
    record {
      log = has.log ++ closing ∷ [];
      stands = subst (λ (d : DriverState). StandsFor d (has.log ++ closing ∷ [])) (sym (sent refl)) (stands-closing old has.log has.stands free.0 free.1);
      alone = admitted-push has.log closing ∙ append-nil (admitted has.log) ∙ has.alone;
    }
first-closed old new (Wait count) is sent waits has = subst HasFirst (sym (waits (wait≢send count))) has
first-closed old new Already is sent waits has = subst HasFirst (sym (waits already≢send)) has

-- an event may be put next
pub asked-next : (driver : DriverState) (next event : Event ℕ) → HasFirst driver → event ≡ next → IsWellFormed (first ∷ next ∷ []) → Asked driver event
asked-next driver next event has same well =
    (has.log, has.stands, subst (λ (events : List (Event ℕ)). IsWellFormed (events ++ event ∷ [])) (sym has.alone) (well-next event next same well))
