-- The kinds of messages, to which side they go, and what of each kind a core sends.
use Rattle.std.proofs.Common.{◌≡◌, ℕ, ◌+◌, ◌==◌, nat_lt, Bool, true, false, cond, List, [], ◌∷◌, ◌++◌, length, refl, ap, ◌∙◌, arith}
use Rattle.hj_base.specs.declared.numbers.Side.TheVariants.{Left, Right}
use Rattle.hj_msg.specs.declared.event.Event.TheVariants.{Arrive, Expire, Quiet}
use Rattle.hj_msg.specs.declared.message.Msg.{Msg}
use Rattle.hj_msg.specs.declared.message.Msg.TheVariants.{R, AckS, EndS, ExpS, QuietL, CloseL, S, EndR, ExpR, QuietR, CloseR}
use Rattle.hj_msg.specs.Core.{sends, only_if, is_last}
use Rattle.hj_msg.specs.Driver.{DriverTurn, admission, receipt, closing}
pub use Rattle.hj_msg.proofs.Sides.{goes_right}
use Rattle.hj_chain.proofs.Counts.{count}
use Rattle.hj_chain.proofs.Journals.{sent_at}

abbrev pub a_R : {P : Type 0} → Msg P → Bool
a_R (R at row) = true
a_R other = false

abbrev pub an_AckS : {P : Type 0} → Msg P → Bool
an_AckS (AckS at) = true
an_AckS other = false

abbrev pub an_EndS : {P : Type 0} → Msg P → Bool
an_EndS (EndS at) = true
an_EndS other = false

abbrev pub an_ExpS : {P : Type 0} → Msg P → Bool
an_ExpS (ExpS at) = true
an_ExpS other = false

abbrev pub a_QuietL : {P : Type 0} → Msg P → Bool
a_QuietL (QuietL at) = true
a_QuietL other = false

abbrev pub a_CloseL : {P : Type 0} → Msg P → Bool
a_CloseL CloseL = true
a_CloseL other = false

abbrev pub an_S : {P : Type 0} → Msg P → Bool
an_S (S at row) = true
an_S other = false

abbrev pub an_EndR : {P : Type 0} → Msg P → Bool
an_EndR (EndR at) = true
an_EndR other = false

abbrev pub an_ExpR : {P : Type 0} → Msg P → Bool
an_ExpR (ExpR at) = true
an_ExpR other = false

abbrev pub a_QuietR : {P : Type 0} → Msg P → Bool
a_QuietR (QuietR at) = true
a_QuietR other = false

abbrev pub a_CloseR : {P : Type 0} → Msg P → Bool
a_CloseR CloseR = true
a_CloseR other = false

-- to the left; which goes to the right is told by `goes_right`
abbrev pub goes_left : {P : Type 0} → Msg P → Bool
goes_left (S at row) = true
goes_left (EndR at) = true
goes_left (ExpR at) = true
goes_left (QuietR at) = true
goes_left CloseR = true
goes_left other = false

-- each message is of one kind
right_kinds-one : {P : Type 0} (m : Msg P) → cond {A = ℕ} (a_R m) 1 0 + cond (an_AckS m) 1 0 + cond (an_EndS m) 1 0 + cond (an_ExpS m) 1 0 + cond (a_QuietL m) 1 0 + cond (a_CloseL m) 1 0 + cond (goes_left m) 1 0 ≡ 1
right_kinds-one (R at row) = refl
right_kinds-one other = refl

pub right_kinds : {P : Type 0} (ms : List (Msg P)) → length ms ≡ count a_R ms + count an_AckS ms + count an_EndS ms + count an_ExpS ms + count a_QuietL ms + count a_CloseL ms + count goes_left ms
right_kinds [] = refl
right_kinds (m ∷ ms) = omega (arith, right_kinds-one m, right_kinds ms)

left_kinds-one : {P : Type 0} (m : Msg P) → cond {A = ℕ} (an_S m) 1 0 + cond (an_EndR m) 1 0 + cond (an_ExpR m) 1 0 + cond (a_QuietR m) 1 0 + cond (a_CloseR m) 1 0 + cond (goes_right m) 1 0 ≡ 1
left_kinds-one (S at row) = refl
left_kinds-one other = refl

pub left_kinds : {P : Type 0} (ms : List (Msg P)) → length ms ≡ count an_S ms + count an_EndR ms + count an_ExpR ms + count a_QuietR ms + count a_CloseR ms + count goes_right ms
left_kinds [] = refl
left_kinds (m ∷ ms) = omega (arith, left_kinds-one m, left_kinds ms)

-- Of this kind, a core sends as many to the right, or to the left, as it handles of that one.
abbrev pub SendsRight : {P : Type 0} → (Msg P → Bool) → (Msg P → Bool) → ℕ → ℕ → Type 0
SendsRight {P} p q place n = (m : Msg P) → count p (sends place n m).right ≡ count q (m ∷ [])

abbrev pub SendsLeft : {P : Type 0} → (Msg P → Bool) → (Msg P → Bool) → ℕ → ℕ → Type 0
SendsLeft {P} p q place n = (m : Msg P) → count p (sends place n m).left ≡ count q (m ∷ [])

none_of : {P : Type 0} (p : Msg P → Bool) (here there : Bool) (one other : Msg P) → p one ≡ false → p other ≡ false → count p (only_if here one ++ only_if there other) ≡ 0
none_of p true true one other no_one no_other = ap (λ b. cond {A = ℕ} b 1 0 + (cond {A = ℕ} (p other) 1 0 + 0)) no_one ∙ ap (λ b. 0 + (cond {A = ℕ} b 1 0 + 0)) no_other
none_of p true false one other no_one no_other = ap (λ b. cond {A = ℕ} b 1 0 + 0) no_one
none_of p false true one other no_one no_other = ap (λ b. cond {A = ℕ} b 1 0 + 0) no_other
none_of p false false one other no_one no_other = refl

none_if : {P : Type 0} (p : Msg P → Bool) (b : Bool) (m : Msg P) → p m ≡ false → count p (only_if b m) ≡ 0
none_if p true m never_so = ap (λ c. cond {A = ℕ} c 1 0 + 0) never_so
none_if p false m never_so = refl

pub R_right : {P : Type 0} (place n : ℕ) → SendsRight {P = P} a_R a_R place n
R_right place n (S at row) = none_of a_R (nat_lt (place + 1) n) (place == 0) (AckS at) (EndS at) refl refl
R_right place n other = refl

pub ExpS_right : {P : Type 0} (place n : ℕ) → SendsRight {P = P} an_ExpS an_ExpS place n
ExpS_right place n (S at row) = none_of an_ExpS (nat_lt (place + 1) n) (place == 0) (AckS at) (EndS at) refl refl
ExpS_right place n other = refl

pub QuietL_right : {P : Type 0} (place n : ℕ) → SendsRight {P = P} a_QuietL a_QuietL place n
QuietL_right place n (S at row) = none_of a_QuietL (nat_lt (place + 1) n) (place == 0) (AckS at) (EndS at) refl refl
QuietL_right place n other = refl

pub CloseL_right : {P : Type 0} (place n : ℕ) → SendsRight {P = P} a_CloseL a_CloseL place n
CloseL_right place n (S at row) = none_of a_CloseL (nat_lt (place + 1) n) (place == 0) (AckS at) (EndS at) refl refl
CloseL_right place n other = refl

-- an acknowledgement for each right row, where there is a core on the right
acks-if : {P : Type 0} (here there : Bool) (one other : Msg P) → an_AckS one ≡ true → an_AckS other ≡ false → count an_AckS (only_if here one ++ only_if there other) ≡ cond here 1 0
acks-if true true one other is never_so = ap (λ b. cond {A = ℕ} b 1 0 + (cond {A = ℕ} (an_AckS other) 1 0 + 0)) is ∙ ap (λ b. 1 + (cond {A = ℕ} b 1 0 + 0)) never_so
acks-if true false one other is never_so = ap (λ b. cond {A = ℕ} b 1 0 + 0) is
acks-if false true one other is never_so = ap (λ b. cond {A = ℕ} b 1 0 + 0) never_so
acks-if false false one other is never_so = refl

pub AckS_right : {P : Type 0} (place n : ℕ) → nat_lt (place + 1) n ≡ true → SendsRight {P = P} an_AckS an_S place n
AckS_right {P} place n inner (S at row) = acks-if {P = P} (nat_lt (place + 1) n) (place == 0) (AckS at) (EndS at) refl refl ∙ ap (λ b. cond {A = ℕ} b 1 0) inner
AckS_right {P} place n inner other = refl

abbrev pub never : {P : Type 0} → Msg P → Bool
never m = false

pub no_AckS_right : {P : Type 0} (place n : ℕ) → nat_lt (place + 1) n ≡ false → SendsRight {P = P} an_AckS never place n
no_AckS_right {P} place n last (S at row) = acks-if {P = P} (nat_lt (place + 1) n) (place == 0) (AckS at) (EndS at) refl refl ∙ ap (λ b. cond {A = ℕ} b 1 0) last
no_AckS_right {P} place n last other = refl

-- the mark that a right row has been everywhere comes from core 0, which makes one for each right row
ends-if : {P : Type 0} (here there : Bool) (one other : Msg P) → an_EndS one ≡ false → an_EndS other ≡ true → count an_EndS (only_if here one ++ only_if there other) ≡ cond there 1 0
ends-if true true one other never_so is = ap (λ b. cond {A = ℕ} b 1 0 + (cond {A = ℕ} (an_EndS other) 1 0 + 0)) never_so ∙ ap (λ b. 0 + (cond {A = ℕ} b 1 0 + 0)) is
ends-if true false one other never_so is = ap (λ b. cond {A = ℕ} b 1 0 + 0) never_so
ends-if false true one other never_so is = ap (λ b. cond {A = ℕ} b 1 0 + 0) is
ends-if false false one other never_so is = refl

abbrev pub an_S_or_EndS : {P : Type 0} → Msg P → Bool
an_S_or_EndS (S at row) = true
an_S_or_EndS (EndS at) = true
an_S_or_EndS other = false

pub EndS_right : {P : Type 0} (place n : ℕ) → (place == 0) ≡ false → SendsRight {P = P} an_EndS an_EndS place n
EndS_right {P} place n later (S at row) = ends-if {P = P} (nat_lt (place + 1) n) (place == 0) (AckS at) (EndS at) refl refl ∙ ap (λ b. cond {A = ℕ} b 1 0) later
EndS_right {P} place n later other = refl

pub EndS_first : {P : Type 0} (n : ℕ) → SendsRight {P = P} an_EndS an_S_or_EndS 0 n
EndS_first {P} n (S at row) = ends-if {P = P} (nat_lt (0 + 1) n) (0 == 0) (AckS at) (EndS at) refl refl
EndS_first {P} n other = refl

pub nothing_left_right : {P : Type 0} (place n : ℕ) → SendsRight {P = P} goes_left never place n
nothing_left_right place n (S at row) = none_of goes_left (nat_lt (place + 1) n) (place == 0) (AckS at) (EndS at) refl refl
nothing_left_right place n other = refl

-- to the left
pub S_left : {P : Type 0} (place n : ℕ) → SendsLeft {P = P} an_S an_S place n
S_left place n (R at row) = none_if an_S (is_last place n) (EndR at) refl
S_left place n other = refl

pub ExpR_left : {P : Type 0} (place n : ℕ) → SendsLeft {P = P} an_ExpR an_ExpR place n
ExpR_left place n (R at row) = none_if an_ExpR (is_last place n) (EndR at) refl
ExpR_left place n other = refl

pub QuietR_left : {P : Type 0} (place n : ℕ) → SendsLeft {P = P} a_QuietR a_QuietR place n
QuietR_left place n (R at row) = none_if a_QuietR (is_last place n) (EndR at) refl
QuietR_left place n other = refl

pub CloseR_left : {P : Type 0} (place n : ℕ) → SendsLeft {P = P} a_CloseR a_CloseR place n
CloseR_left place n (R at row) = none_if a_CloseR (is_last place n) (EndR at) refl
CloseR_left place n other = refl

abbrev pub an_R_or_EndR : {P : Type 0} → Msg P → Bool
an_R_or_EndR (R at row) = true
an_R_or_EndR (EndR at) = true
an_R_or_EndR other = false

mark-if : {P : Type 0} (b : Bool) (m : Msg P) → an_EndR m ≡ true → count an_EndR (only_if b m) ≡ cond b 1 0
mark-if true m is = ap (λ c. cond {A = ℕ} c 1 0 + 0) is
mark-if false m is = refl

-- the mark that a left row has been everywhere comes from the last core, which makes one for each left row
pub EndR_left : {P : Type 0} (place n : ℕ) → is_last place n ≡ false → SendsLeft {P = P} an_EndR an_EndR place n
EndR_left {P} place n inner (R at row) = mark-if {P = P} (is_last place n) (EndR at) refl ∙ ap (λ b. cond {A = ℕ} b 1 0) inner
EndR_left {P} place n inner other = refl

pub EndR_last : {P : Type 0} (place n : ℕ) → is_last place n ≡ true → SendsLeft {P = P} an_EndR an_R_or_EndR place n
EndR_last {P} place n last (R at row) = mark-if {P = P} (is_last place n) (EndR at) refl ∙ ap (λ b. cond {A = ℕ} b 1 0) last
EndR_last {P} place n last other = refl

pub nothing_right_left : {P : Type 0} (place n : ℕ) → SendsLeft {P = P} goes_right never place n
nothing_right_left place n (R at row) = none_if goes_right (is_last place n) (EndR at) refl
nothing_right_left place n other = refl

-- at the driver's ports
pub port-left : {P : Type 0} (p : Msg P → Bool) → ((at : _) (row : P) → p (R at row) ≡ false) → ((at : _) → p (ExpS at) ≡ false) → ((at : _) → p (QuietL at) ≡ false) → p CloseL ≡ false → (turn : DriverTurn P) → count p (sent_at Left turn) ≡ 0
port-left p no_R no_ExpS no_QuietL no_CloseL (admission (Arrive at Left row)) = ap (λ b. cond {A = ℕ} b 1 0 + 0) (no_R at row)
port-left p no_R no_ExpS no_QuietL no_CloseL (admission (Arrive at Right row)) = refl
port-left p no_R no_ExpS no_QuietL no_CloseL (admission (Expire at Left of)) = refl
port-left p no_R no_ExpS no_QuietL no_CloseL (admission (Expire at Right of)) = ap (λ b. cond {A = ℕ} b 1 0 + 0) (no_ExpS of)
port-left p no_R no_ExpS no_QuietL no_CloseL (admission (Quiet at Left)) = ap (λ b. cond {A = ℕ} b 1 0 + 0) (no_QuietL at)
port-left p no_R no_ExpS no_QuietL no_CloseL (admission (Quiet at Right)) = refl
port-left p no_R no_ExpS no_QuietL no_CloseL (receipt port message) = refl
port-left p no_R no_ExpS no_QuietL no_CloseL closing = ap (λ b. cond {A = ℕ} b 1 0 + 0) no_CloseL

pub port-right : {P : Type 0} (p : Msg P → Bool) → ((at : _) (row : P) → p (S at row) ≡ false) → ((at : _) → p (ExpR at) ≡ false) → ((at : _) → p (QuietR at) ≡ false) → p CloseR ≡ false → (turn : DriverTurn P) → count p (sent_at Right turn) ≡ 0
port-right p no_S no_ExpR no_QuietR no_CloseR (admission (Arrive at Left row)) = refl
port-right p no_S no_ExpR no_QuietR no_CloseR (admission (Arrive at Right row)) = ap (λ b. cond {A = ℕ} b 1 0 + 0) (no_S at row)
port-right p no_S no_ExpR no_QuietR no_CloseR (admission (Expire at Left of)) = ap (λ b. cond {A = ℕ} b 1 0 + 0) (no_ExpR of)
port-right p no_S no_ExpR no_QuietR no_CloseR (admission (Expire at Right of)) = refl
port-right p no_S no_ExpR no_QuietR no_CloseR (admission (Quiet at Right)) = ap (λ b. cond {A = ℕ} b 1 0 + 0) (no_QuietR at)
port-right p no_S no_ExpR no_QuietR no_CloseR (admission (Quiet at Left)) = refl
port-right p no_S no_ExpR no_QuietR no_CloseR (receipt port message) = refl
port-right p no_S no_ExpR no_QuietR no_CloseR closing = ap (λ b. cond {A = ℕ} b 1 0 + 0) no_CloseR
