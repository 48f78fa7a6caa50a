-- How many acknowledgements are under way: no more than right rows of which the end mark is still to come out. A core puts a row's
-- end mark behind the row's acknowledgement, so in each beginning of what it put on its right there are no more end marks than
-- acknowledgements.
use Rattle.std.proofs.Common.{◌≡◌, ℕ, zero, suc, ◌+◌, ◌<◌, ◌≤◌, ◌⊎◌, inl, inr, ◌==◌, nat_lt, Bool, true, false, cond, List, [], ◌∷◌, ◌++◌, length, Option, refl, ap, sym, ◌∙◌, subst, arith, append-nil, append_assoc, length-append}
use Rattle.std.proofs.Math.Dec.{eqb-suc-zero}
use Rattle.std.proofs.lemmas.Bool.{lt-ltb, le-ltb}
use Rattle.std.proofs.lemmas.Bool.Decides.{eqb_tells}
use Rattle.hj_base.specs.declared.numbers.Side.TheVariants.{Left, Right}
use Rattle.hj_base.specs.Journals.{puts, takes}
use Rattle.hj_msg.specs.declared.event.Event.{Event}
use Rattle.hj_msg.specs.declared.message.Msg.{Msg}
use Rattle.hj_msg.specs.declared.message.Msg.TheVariants.{R, AckS, EndS, ExpS, QuietL, CloseL, S, EndR, ExpR, QuietR, CloseR}
use Rattle.hj_msg.specs.Core.{sends, only_if}
use Rattle.hj_chain.specs.declared.actor.Actor.{Actor}
use Rattle.hj_chain.specs.Chain.{ChainState, Action, drives, handles, collects, action_of, asks}
use Rattle.hj_chain.specs.Reached.{Reached, begins, steps, recorded, history_of, left_end, right_end}
use Rattle.hj_chain.proofs.Doing.{Deed, deed}
use Rattle.hj_chain.proofs.Shape.{shape}
use Rattle.hj_chain.proofs.Ways.{when}
use Rattle.hj_chain.proofs.Journals.{puts-append, entries, puts-entries, sent_at, left_took, left_sent, left_end-more}
use Rattle.hj_chain.proofs.Carrying.{rights, carried, cut}
use Rattle.hj_chain.proofs.Turning.{messages}
use Rattle.hj_chain.proofs.Passing.{fewer_sent, fewer_came, fewer_sent_back, fewer_came_back}
use Rattle.hj_chain.proofs.Counts.{count, count-append}
use Rattle.hj_chain.proofs.MessageKinds.{an_AckS, an_EndS, an_S, AckS_right, no_AckS_right, never, port-left}
use Rattle.hj_chain.proofs.Balance.{put_in, came_out}
use Rattle.hj_chain.proofs.UnderWay.{puts_none, count-never, S_goes, sent_r, came_r, way_r, sent_l, came_l, way_l, each_r, each_l, sends_right, comes_left, S_back, EndS_from_first, EndS_on, came_last, sent_last}

-- in each beginning there are no more end marks than acknowledgements
abbrev Ordered : {P : Type 0} → List (Msg P) → Type 0
Ordered {P} ms = (front back : List (Msg P)) → ms ≡ front ++ back → count an_EndS front ≤ count an_AckS front

-- of what is added, each beginning but the whole has no more of them
abbrev Sound : {P : Type 0} → List (Msg P) → Type 0
Sound {P} ms = (front back : List (Msg P)) → ms ≡ front ++ back → (count an_EndS front ≤ count an_AckS front) ⊎ (back ≡ [])

cancel : {X : Type 0} (xs ys zs : List X) → xs ++ ys ≡ xs ++ zs → ys ≡ zs
cancel [] ys zs same = same
cancel (x ∷ xs) ys zs same = let tails : xs ++ ys ≡ xs ++ zs = cc in cancel xs ys zs tails

ordered-more : {P : Type 0} (ms more : List (Msg P)) → Ordered ms → Sound more → count an_EndS (ms ++ more) ≤ count an_AckS (ms ++ more) → Ordered (ms ++ more)
ordered-more {P} ms more old sound all front back is = elim (cut front back ms more (sym is)) [
  | inl w ↦ old front w.0 w.1
  | inr w ↦
      let part : List (Msg P) = w.0 in
      let rest : more ≡ part ++ back = cancel ms more (part ++ back) (is ∙ ap (λ xs. xs ++ back) w.1 ∙ append_assoc ms part back) in
      let whole : count an_EndS ms ≤ count an_AckS ms = old ms [] (sym (append-nil ms)) in
      elim (sound part back rest) [
        | inl few ↦ omega (arith, few, whole, ap (count an_EndS) w.1, ap (count an_AckS) w.1, count-append an_EndS ms part, count-append an_AckS ms part)
        | inr none ↦
            let same : front ≡ ms ++ more = sym (append-nil front) ∙ ap (λ xs. front ++ xs) (sym none) ∙ sym is in
            omega (arith, all, ap (count an_EndS) same, ap (count an_AckS) same)
      ]
]

short : {P : Type 0} (ms : List (Msg P)) → length ms ≤ 1 → Sound ms
short ms few [] back is = inl (omega arith)
short ms few (x ∷ front) [] is = inr refl
short ms few (x ∷ front) (y ∷ back) is = absurd (omega (arith, few, ap length is, length-append front (y ∷ back)))

-- an acknowledgement with the end mark behind it
both : {P : Type 0} (one other : Msg P) → an_AckS one ≡ true → an_EndS one ≡ false → Sound (one ∷ other ∷ [])
both one other ack mark [] back is = inl (omega arith)
both {P} one other ack mark (x ∷ []) back is =
    let same : one ≡ x = cc in
    let is_ack : an_AckS x ≡ true = ap an_AckS (sym same) ∙ ack in
    let no_mark : an_EndS x ≡ false = ap an_EndS (sym same) ∙ mark in
    inl (omega (arith, ap (λ b. cond {A = ℕ} b 1 0 + 0) is_ack, ap (λ b. cond {A = ℕ} b 1 0 + 0) no_mark))
both one other ack mark (x ∷ y ∷ front) [] is = inr refl
both one other ack mark (x ∷ y ∷ front) (z ∷ back) is = absurd (omega (arith, ap length is, length-append front (z ∷ back)))

sound-if : {P : Type 0} (here there : Bool) (one other : Msg P) → an_AckS one ≡ true → an_EndS one ≡ false → Sound (only_if here one ++ only_if there other)
sound-if true true one other ack mark = both one other ack mark
sound-if true false one other ack mark = short (one ∷ []) (omega arith)
sound-if false true one other ack mark = short (other ∷ []) (omega arith)
sound-if false false one other ack mark = short [] (omega arith)

sound-sends : {P : Type 0} (place n : ℕ) (message : Msg P) → Sound (sends place n message).right
sound-sends place n (R at row) = short _ (omega arith)
sound-sends {P} place n (S at row) = sound-if {P = P} (nat_lt (place + 1) n) (place == 0) (AckS at) (EndS at) refl refl
sound-sends place n (AckS at) = short _ (omega arith)
sound-sends place n (EndS at) = short _ (omega arith)
sound-sends place n (ExpS at) = short _ (omega arith)
sound-sends place n (QuietL at) = short _ (omega arith)
sound-sends place n (QuietR at) = short _ (omega arith)
sound-sends place n CloseL = short _ (omega arith)
sound-sends place n (EndR at) = short _ (omega arith)
sound-sends place n (ExpR at) = short _ (omega arith)
sound-sends place n CloseR = short _ (omega arith)

sound-when : {P : Type 0} (b : Bool) (ms : List (Msg P)) → Sound ms → Sound (when b ms)
sound-when true ms sound = sound
sound-when false ms sound = short [] (omega arith)

sound-action : {P : Type 0} (n : ℕ) (action : Action P) (c : ℕ) → Sound (left_sent n action (suc c))
sound-action n asks c = short [] (omega arith)
sound-action {P} n (drives turn) c = subst (λ (b : Bool). Sound (when b (sent_at Left turn))) (sym (eqb-suc-zero c)) (short {P = P} [] (omega arith))
sound-action n (handles place end message) c = sound-when (suc c == place + 1) (sends place n message).right (sound-sends place n message)
sound-action n (collects place report) c = short [] (omega arith)

none_yet : (P : Type 0) → Ordered {P = P} []
none_yet P [] back is = omega arith
none_yet P (x ∷ front) back is = absurd (cc)

module _ {P : Type 0} (matches : P → P → Bool) (m most : ℕ) where
  abbrev cores : ℕ
  cores = suc m

  -- at each moment a core with one on its right has put no more end marks than acknowledgements there
  fewer_marks : {schedule : List Actor} {events : List (Event P)} {chain : ChainState P} (reached : Reached matches cores most schedule events chain) (c : ℕ) → suc c < cores
      → count an_EndS (puts (left_end (history_of reached) (suc c))) ≤ count an_AckS (puts (left_end (history_of reached) (suc c)))
  fewer_marks reached c low =
      let r = reached in
      let next : 1 + c ≡ suc c = omega arith in
      let within : c ≤ m = omega (arith, low) in
      omega (
        arith,
        fewer_sent (λ j. sent_r matches m most r an_EndS (suc j)) (λ j. came_r matches m most r an_EndS (suc j)) (λ j. way_r matches m most r an_EndS (suc j)) m (EndS_on matches m most r) c within,
        EndS_from_first matches m most r,
        fewer_came_back (sent_l matches m most r an_S) (came_l matches m most r an_S) (way_l matches m most r an_S) cores (S_back matches m most r) 1 c (omega (arith, low)),
        ap (came_l matches m most r an_S) next,
        sends_right matches m most r an_AckS an_S c (omega (arith, low)) (AckS_right c cores (lt-ltb (c + 1) cores (omega (arith, low)))),
        comes_left matches m most r an_S c (omega (arith, low)) S_goes,
      )

  ordered : {schedule : List Actor} {events : List (Event P)} {chain : ChainState P} (reached : Reached matches cores most schedule events chain) (c : ℕ) → suc c < cores
      → Ordered (puts (left_end (history_of reached) (suc c)))
  ordered (begins some first) c low = none_yet P
  ordered (steps schedule events chain actor answer before enabled) c low =
      let done : Deed chain actor = deed chain actor (shape before).going enabled in
      let n = length chain.cores in
      let history = history_of before in
      let old = puts (left_end history (suc c)) in
      let more = left_sent n done.action (suc c) in
      let is : puts (left_end (recorded matches chain (length schedule) (action_of chain actor) history) (suc c)) ≡ old ++ more =
      ap (λ (o : Option (Action P)). puts (left_end (recorded matches chain (length schedule) o history) (suc c))) done.is
      ∙ ap puts (left_end-more matches chain (length schedule) history done.action (suc c)) ∙ puts-append (left_end history (suc c)) (entries (length schedule) (left_took done.action (suc c)) more)
      ∙ ap (λ ms. old ++ ms) (puts-entries (length schedule) (left_took done.action (suc c)) more) in
      let now = fewer_marks (steps schedule events chain actor answer before enabled) c low in
      let all : count an_EndS (old ++ more) ≤ count an_AckS (old ++ more) = omega (arith, now, ap (count an_EndS) is, ap (count an_AckS) is) in
      subst Ordered (sym is) (ordered-more old more (ordered before c low) (sound-action n done.action c) all)

  module _ {schedule : List Actor} {events : List (Event P)} {chain : ChainState P} (reached : Reached matches cores most schedule events chain) where
    inside : (c : ℕ) → suc c < cores → way_r matches m most reached an_AckS (suc c) + came_out Right an_EndS (history_of reached).log ≤ put_in Right an_S (history_of reached).log
    inside c low =
        let history = history_of reached in
        let k : ℕ = suc c in
        let within : k ≤ cores = omega (arith, low) in
        let fewer : count an_EndS (takes (right_end cores history k)) ≤ count an_AckS (takes (right_end cores history k)) =
        ordered reached c low (takes (right_end cores history k)) (rights chain k) (carried matches cores most reached k within).rightwards in
        omega (
          arith,
          fewer,
          each_r matches m most reached an_AckS k within,
          sends_right matches m most reached an_AckS an_S c (omega (arith, low)) (AckS_right c cores (lt-ltb (c + 1) cores (omega (arith, low)))),
          comes_left matches m most reached an_S c (omega (arith, low)) S_goes,
          each_l matches m most reached an_S k within,
          fewer_sent_back (sent_l matches m most reached an_S) (came_l matches m most reached an_S) (way_l matches m most reached an_S) cores (S_back matches m most reached) k within,
          sent_last matches m most reached an_S,
          fewer_came (λ j. sent_r matches m most reached an_EndS (suc j)) (λ j. came_r matches m most reached an_EndS (suc j)) (λ j. way_r matches m most reached an_EndS (suc j)) m (EndS_on matches m most reached) c (omega (arith, low)),
          came_last matches m most reached an_EndS,
        )

    -- on link 0 and on the last link there is none
    at_first : way_r matches m most reached an_AckS 0 ≡ 0
    at_first =
        omega (arith, each_r matches m most reached an_AckS 0 (omega arith), puts_none an_AckS (history_of reached).log Left (port-left an_AckS (λ at row. refl) (λ at. refl) (λ at. refl) refl))

    at_last : way_r matches m most reached an_AckS cores ≡ 0
    at_last =
        omega (
          arith,
          each_r matches m most reached an_AckS cores (omega arith),
          sends_right matches m most reached an_AckS never m (omega arith) (no_AckS_right m cores (le-ltb (m + 1) cores (omega arith))),
          count-never (messages ((history_of reached).turns m)),
        )

    pub acks_under_way : (k : ℕ) → k ≤ cores → (way_r matches m most reached an_AckS k ≡ 0) ⊎ (way_r matches m most reached an_AckS k + came_out Right an_EndS (history_of reached).log ≤ put_in Right an_S (history_of reached).log)
    acks_under_way zero within = inl at_first
    acks_under_way (suc c) within = elim (eqb_tells (suc c) cores) [
      | inl w ↦ inl (ap (way_r matches m most reached an_AckS) w.1 ∙ at_last)
      | inr w ↦ inr (inside c (omega (arith, w.1, within)))
    ]
