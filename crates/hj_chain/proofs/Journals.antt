-- What an action adds to the journals of the ends of a link.
use Rattle.std.proofs.Common.{◌≡◌, ℕ, zero, suc, ◌+◌, ◌<◌, inl, inr, ◌==◌, Bool, true, false, cond, not, List, [], ◌∷◌, ◌++◌, length, map, Some, refl, ap, sym, ◌∙◌, arith, append-nil, eq-eqb}
use Rattle.std.specs.List.{flat_map, filter}
use Rattle.std.proofs.Math.Dec.{eqb-suc-zero}
use Rattle.std.proofs.lemmas.Bool.{ne_eqb}
use Rattle.std.proofs.lemmas.List.{map-append}
use Rattle.std.proofs.lemmas.List.Concat.{flat_map-append}
use Rattle.std.proofs.lemmas.List.Elements.{filter-append}
use Rattle.hj_base.specs.declared.numbers.Side.{Side}
use Rattle.hj_base.specs.declared.numbers.Side.TheVariants.{Left, Right}
use Rattle.hj_base.specs.Journals.{Entry, put, taken, puts, takes}
use Rattle.hj_msg.specs.declared.message.Msg.{Msg}
use Rattle.hj_msg.specs.Core.{sends}
use Rattle.hj_msg.specs.Turns.{Turn, only_at, at_left, at_right}
use Rattle.hj_msg.specs.Driver.{DriverTurn, admission, receipt, closing, message_of, port_of}
use Rattle.hj_msg.specs.Run.{LogEntry, close_of, at_port, port_journal}
use Rattle.hj_chain.specs.Chain.{ChainState, Action, asks, drives, handles, collects}
use Rattle.hj_chain.specs.Reached.{StepHistory, turn_at, recorded, left_end, right_end}
use Rattle.hj_chain.proofs.Ways.{when, same_place}

-- what stands in a journal when more is appended
pub puts-append : {M : Type 0} (xs ys : List (Entry M)) → puts (xs ++ ys) ≡ puts xs ++ puts ys
puts-append xs ys = rw (filter-append (λ entry. entry.is_put) xs ys) (map-append (λ entry. entry.message) (filter (λ entry. entry.is_put) xs) (filter (λ entry. entry.is_put) ys))

pub takes-append : {M : Type 0} (xs ys : List (Entry M)) → takes (xs ++ ys) ≡ takes xs ++ takes ys
takes-append xs ys = rw (filter-append (λ entry. not entry.is_put) xs ys) (map-append (λ entry. entry.message) (filter (λ entry. not entry.is_put) xs) (filter (λ entry. not entry.is_put) ys))

pub puts-puts : {M : Type 0} (number : ℕ) (messages : List M) → puts (map (put number) messages) ≡ messages
puts-puts number [] = refl
puts-puts number (m ∷ messages) = ap (λ ms. m ∷ ms) (puts-puts number messages)

takes-puts : {M : Type 0} (number : ℕ) (messages : List M) → takes (map (put number) messages) ≡ []
takes-puts number [] = refl
takes-puts number (m ∷ messages) = takes-puts number messages

-- the entries of one turn at one end: what was taken there, and then what was put
abbrev pub entries : {M : Type 0} → ℕ → List M → List M → List (Entry M)
entries number took sent = map (taken number) took ++ map (put number) sent

pub puts-entries : {M : Type 0} (number : ℕ) (took sent : List M) → puts (entries number took sent) ≡ sent
puts-entries number [] sent = puts-puts number sent
puts-entries number (m ∷ took) sent = puts-entries number took sent

pub takes-entries : {M : Type 0} (number : ℕ) (took sent : List M) → takes (entries number took sent) ≡ took
takes-entries number [] sent = takes-puts number sent
takes-entries number (m ∷ took) sent = ap (λ ms. m ∷ ms) (takes-entries number took sent)

-- at the driver's ports
abbrev pub took_at : {P : Type 0} → Side → DriverTurn P → List (Msg P)
took_at port (admission event) = []
took_at port (receipt from message) = only_at from port message
took_at port closing = []

abbrev pub sent_at : {P : Type 0} → Side → DriverTurn P → List (Msg P)
sent_at port (admission event) = only_at (port_of event) port (message_of event)
sent_at port (receipt from message) = []
sent_at port closing = close_of port ∷ []

map-only_at : {X Y : Type 0} (f : X → Y) (from to : Side) (x : X) → only_at from to (f x) ≡ map f (only_at from to x)
map-only_at f Left Left x = refl
map-only_at f Left Right x = refl
map-only_at f Right Left x = refl
map-only_at f Right Right x = refl

pub at_port-entries : {P : Type 0} (port : Side) (number : ℕ) (turn : DriverTurn P) → at_port port number turn ≡ entries number (took_at port turn) (sent_at port turn)
at_port-entries port number (admission event) = map-only_at (put number) (port_of event) port (message_of event)
at_port-entries port number (receipt from message) = map-only_at (taken number) from port message ∙ sym (append-nil _)
at_port-entries port number closing = refl

pub port_journal-push : {P : Type 0} (port : Side) (log : List (LogEntry P)) (number : ℕ) (turn : DriverTurn P)
    → port_journal port (log ++ record { number = number; turn = turn } ∷ []) ≡ port_journal port log ++ entries number (took_at port turn) (sent_at port turn)
port_journal-push {P} port log number turn =
    flat_map-append (λ (entry : LogEntry P). at_port port entry.number entry.turn) log (record { number = number; turn = turn } ∷ [])
    ∙ ap (λ es. port_journal port log ++ es) (append-nil (at_port port number turn) ∙ at_port-entries port number turn)

-- at a core's ends
flat_map-push : {X Y : Type 0} (f : X → List Y) (xs : List X) (x : X) → flat_map f (xs ++ x ∷ []) ≡ flat_map f xs ++ f x
flat_map-push f xs x = flat_map-append f xs (x ∷ []) ∙ ap (λ ys. flat_map f xs ++ ys) (append-nil (f x))

pub at_right-entries : {P : Type 0} (turn : Turn P) → at_right turn ≡ entries turn.number (only_at turn.end Right turn.message) turn.to_right
at_right-entries turn = ap (λ es. es ++ map (put turn.number) turn.to_right) (map-only_at (taken turn.number) turn.end Right turn.message)

pub at_left-entries : {P : Type 0} (turn : Turn P) → at_left turn ≡ entries turn.number (only_at turn.end Left turn.message) turn.to_left
at_left-entries turn = ap (λ es. es ++ map (put turn.number) turn.to_left) (map-only_at (taken turn.number) turn.end Left turn.message)

-- What an action takes and puts at the left end of link k, and at its right end.
abbrev pub left_took : {P : Type 0} → Action P → ℕ → List (Msg P)
left_took asks k = []
left_took (drives turn) k = when (k == 0) (took_at Left turn)
left_took (handles place end message) k = when (k == place + 1) (only_at end Right message)
left_took (collects place report) k = []

abbrev pub left_sent : {P : Type 0} → ℕ → Action P → ℕ → List (Msg P)
left_sent n asks k = []
left_sent n (drives turn) k = when (k == 0) (sent_at Left turn)
left_sent n (handles place end message) k = when (k == place + 1) (sends place n message).right
left_sent n (collects place report) k = []

abbrev pub right_took : {P : Type 0} → ℕ → Action P → ℕ → List (Msg P)
right_took n asks k = []
right_took n (drives turn) k = when (k == n) (took_at Right turn)
right_took n (handles place end message) k = when (k == place) (only_at end Left message)
right_took n (collects place report) k = []

abbrev pub right_sent : {P : Type 0} → ℕ → Action P → ℕ → List (Msg P)
right_sent n asks k = []
right_sent n (drives turn) k = when (k == n) (sent_at Right turn)
right_sent n (handles place end message) k = when (k == place) (sends place n message).left
right_sent n (collects place report) k = []

-- nothing is added
no_entries : {M : Type 0} (b : Bool) (number : ℕ) (took sent : List M) (journal : List (Entry M)) → b ≡ false → journal ≡ journal ++ entries number (when b took) (when b sent)
no_entries b number took sent journal never = sym (append-nil journal) ∙ ap (λ c. journal ++ entries number (when c took) (when c sent)) (sym never)

next_test : (j place : ℕ) → (suc j == place + 1) ≡ (j == place)
next_test j place = elim (same_place j place) [
  | inl w ↦ let same : suc j ≡ place + 1 = omega (arith, w.0) in eq-eqb (suc j) (place + 1) same ∙ sym w.1
  | inr w ↦ ne_eqb (suc j) (place + 1) (λ same. w.0 (omega (arith, same))) ∙ sym w.1
]

with_turn : {P : Type 0} (f : Turn P → List (Entry (Msg P))) (b : Bool) (number : ℕ) (took sent : List (Msg P)) (turns : List (Turn P)) (turn : Turn P) → f turn ≡ entries number took sent
    → flat_map f (cond b (turns ++ turn ∷ []) turns) ≡ flat_map f turns ++ entries number (when b took) (when b sent)
with_turn f true number took sent turns turn is = flat_map-push f turns turn ∙ ap (λ es. flat_map f turns ++ es) is
with_turn f false number took sent turns turn is = sym (append-nil _)

module _ {P : Type 0} (matches : P → P → Bool) (chain : ChainState P) (number : ℕ) (history : StepHistory P) where
  abbrev n : ℕ
  n = length chain.cores

  pub left_end-more : (action : Action P) (k : ℕ) → left_end (recorded matches chain number (Some action) history) k ≡ left_end history k ++ entries number (left_took action k) (left_sent n action k)
  left_end-more asks k = sym (append-nil _)
  left_end-more (drives turn) zero = port_journal-push Left history.log number turn
  left_end-more (drives turn) (suc j) = no_entries (suc j == 0) number (took_at Left turn) (sent_at Left turn) (left_end history (suc j)) (eqb-suc-zero j)
  left_end-more (handles place end message) zero =
      no_entries (0 == place + 1) number (only_at end Right message) (sends place n message).right (left_end history zero) (ne_eqb 0 (place + 1) (λ same. absurd (omega (arith, same))))
  left_end-more (handles place end message) (suc j) =
      let turn = turn_at matches chain number place end message in
      with_turn at_right (j == place) number (only_at end Right message) turn.to_right (history.turns j) turn (at_right-entries turn)
      ∙ ap (λ b. left_end history (suc j) ++ entries number (when b (only_at end Right message)) (when b turn.to_right)) (sym (next_test j place))
  left_end-more (collects place report) k = sym (append-nil _)

  right_end-drives : (b : Bool) (turn : DriverTurn P) (at_core : List (Entry (Msg P)))
      → cond b (port_journal Right (history.log ++ record { number = number; turn = turn } ∷ [])) at_core
      ≡ cond b (port_journal Right history.log) at_core ++ entries number (when b (took_at Right turn)) (when b (sent_at Right turn))
  right_end-drives true turn at_core = port_journal-push Right history.log number turn
  right_end-drives false turn at_core = sym (append-nil at_core)

  pub right_end-more : (action : Action P) → ((place : ℕ) (end : Side) (message : Msg P) → action ≡ handles place end message → place < n) → (k : ℕ)
      → right_end n (recorded matches chain number (Some action) history) k ≡ right_end n history k ++ entries number (right_took n action k) (right_sent n action k)
  right_end-more asks low k = sym (append-nil _)
  right_end-more (drives turn) low k = right_end-drives (k == n) turn (flat_map at_left (history.turns k))
  right_end-more (handles place end message) low k =
      let turn = turn_at matches chain number place end message in
      elim (same_place k n) [
        | inl w ↦
            let other : (k == place) ≡ false = ne_eqb k place (λ same. absurd (omega (arith, low place end message refl, same, w.0))) in
            ap (λ b. cond b (port_journal Right history.log) (flat_map at_left (cond (k == place) (history.turns k ++ turn ∷ []) (history.turns k)))) w.1
            ∙ ap (λ b. cond b (port_journal Right history.log) (flat_map at_left (history.turns k))) (sym w.1)
            ∙ no_entries (k == place) number (only_at end Left message) turn.to_left (right_end n history k) other
        | inr w ↦
            ap (λ b. cond b (port_journal Right history.log) (flat_map at_left (cond (k == place) (history.turns k ++ turn ∷ []) (history.turns k)))) w.1
            ∙ with_turn at_left (k == place) number (only_at end Left message) turn.to_left (history.turns k) turn (at_left-entries turn)
            ∙ ap (λ b. cond b (port_journal Right history.log) (flat_map at_left (history.turns k)) ++ entries number (when (k == place) (only_at end Left message)) (when (k == place) turn.to_left)) (sym w.1)
      ]
  right_end-more (collects place report) low k = sym (append-nil _)
