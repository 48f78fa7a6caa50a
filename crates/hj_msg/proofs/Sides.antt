-- What both sides have: the messages of their rows, the way that these go, and the rows of theirs that rest at a core.
use Rattle.std.proofs.Common.{◌≡◌, ℕ, ◌+◌, ◌<◌, ◌==◌, Bool, true, false, not, List}
use Rattle.hj_base.specs.declared.numbers.EventNo.{EventNo}
use Rattle.hj_base.specs.declared.numbers.Side.{Side}
use Rattle.hj_base.specs.declared.numbers.Side.TheVariants.{Left, Right}
use Rattle.hj_msg.specs.declared.message.Msg.{Msg}
use Rattle.hj_msg.specs.declared.message.Msg.TheVariants.{R, AckS, EndS, ExpS, QuietL, CloseL, S, QuietR, CloseR}
use Rattle.hj_msg.specs.declared.event.Pair.{Pair}
use Rattle.hj_msg.specs.declared.partner.Partner.{Partner}
use Rattle.hj_msg.specs.Messages.{is_R, is_S, is_EndR, is_EndS, is_ExpR, is_ExpS, is_QuietL, is_QuietR}
use Rattle.hj_msg.specs.Store.{Resting}
use Rattle.hj_msg.specs.Core.{State, sends, is_last, partners_of_left, partners_of_right}

abbrev pub opposite : Side → Side
opposite Left = Right
opposite Right = Left

-- the message of a row
abbrev pub row_message : {P : Type 0} → Side → EventNo → P → Msg P
row_message Left at row = R at row
row_message Right at row = S at row

-- the row of a number, its ending and its expiry, and the close
abbrev pub is_row : {P : Type 0} → Side → ℕ → Msg P → Bool
is_row Left = is_R
is_row Right = is_S

abbrev pub is_ending : {P : Type 0} → Side → ℕ → Msg P → Bool
is_ending Left = is_EndR
is_ending Right = is_EndS

abbrev pub is_expiry : {P : Type 0} → Side → ℕ → Msg P → Bool
is_expiry Left = is_ExpR
is_expiry Right = is_ExpS

abbrev pub is_quiet : {P : Type 0} → Side → ℕ → Msg P → Bool
is_quiet Left = is_QuietL
is_quiet Right = is_QuietR

-- what is marked under a number: the row or the quiet event of a side
abbrev pub is_mark : {P : Type 0} → Side → ℕ → Msg P → Bool
is_mark Left number (R at row) = at.0 == number
is_mark Left number (QuietL at) = at.0 == number
is_mark Right number (S at row) = at.0 == number
is_mark Right number (QuietR at) = at.0 == number
is_mark side number other = false

abbrev pub is_close : {P : Type 0} → Side → Msg P → Bool
is_close Left CloseL = true
is_close Right CloseR = true
is_close side other = false

-- whether a message goes the way of the rows of a side
abbrev pub goes_right : {P : Type 0} → Msg P → Bool
goes_right (R at row) = true
goes_right (AckS at) = true
goes_right (EndS at) = true
goes_right (ExpS at) = true
goes_right (QuietL at) = true
goes_right CloseL = true
goes_right other = false

abbrev pub goes_left : {P : Type 0} → Msg P → Bool
goes_left message = not (goes_right message)

abbrev pub goes_with : {P : Type 0} → Side → Msg P → Bool
goes_with Left message = goes_right message
goes_with Right message = goes_left message

-- what a core sends that way
abbrev pub sends_on : {P : Type 0} → Side → ℕ → ℕ → Msg P → List (Msg P)
sends_on Left place n message = (sends place n message).right
sends_on Right place n message = (sends place n message).left

-- the core of `n` that the rows of a side reach after this many others
abbrev pub Reaches : ℕ → Side → ℕ → ℕ → Type 0
Reaches n Left others k = (k ≡ others) × (k < n)
Reaches n Right others k = (k + (others + 1) ≡ n) × (k < n)

-- the rows at rest
abbrev pub resting : {P : Type 0} → Side → State P → List (Resting P)
resting Left state = state.left
resting Right state = state.right

-- whether a core is the last one that the rows of the side reach, and so settles them at once
abbrev pub settles_at_once : Side → ℕ → ℕ → Bool
settles_at_once Left place n = is_last place n
settles_at_once Right place n = place == 0

-- the partners that a core finds for a row
abbrev pub partners_of : {P : Type 0} → Side → (P → P → Bool) → State P → P → List (Partner P)
partners_of Left = partners_of_left
partners_of Right = partners_of_right

-- the row of a pair
abbrev pub row_of : {P : Type 0} → Side → Pair P → P
row_of Left pair = pair.left
row_of Right pair = pair.right
