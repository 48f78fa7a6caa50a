-- What a core sends, message by message.
use Rattle.std.proofs.Common.{◌≡◌, ℕ, ◌+◌, ◌<◌, ◌≤◌, ◌==◌, Bool, true, false, cond, List, [], ◌∷◌, ◌++◌, ◌⊎◌, inl, inr, length, refl, ap, sym, ◌∙◌, arith, append_assoc, length-append, eq-eqb}
use Rattle.hj_base.specs.declared.numbers.EventNo.{EventNo}
use Rattle.hj_msg.specs.declared.message.Msg.{Msg}
use Rattle.hj_msg.specs.declared.message.Msg.TheVariants.{AckS, EndR, EndS, ExpR, ExpS, QuietL, QuietR, CloseL, CloseR}
use Rattle.hj_msg.specs.Core.{Sends, only_if, sends}
use Rattle.hj_core.specs.declared.way.Way.{Way}
use Rattle.hj_core.specs.declared.way.Way.TheVariants as way
use Rattle.hj_core.specs.Sent.{passed_on}
use Rattle.hj_chain.specs.Queues.{Queues}
use Rattle.hj_chain.specs.Links.{changed_at, link_at, put_rightwards, put_leftwards, send_out}
use Rattle.hj_chain.proofs.Places.{length-changed_at, changed_at-twice}
use Rattle.hj_chain.proofs.Putting.{nothing_left, nothing_right}
use Rattle.hj_chain.proofs.Ways.{link_at-changed, rights-put_left, rights-put_right, when}

capacity-if : {M : Type 0} (b : Bool) (f : Queues M → Queues M) (q : Queues M) → (f q).capacity ≡ q.capacity → (cond b (f q) q).capacity ≡ q.capacity
capacity-if true f q same = same
capacity-if false f q same = refl

pub capacity-changed : {M : Type 0} (i : ℕ) (f : Queues M → Queues M) (links : List (Queues M)) (k : ℕ) → k < length links → ((q : Queues M) → (f q).capacity ≡ q.capacity) → (link_at (changed_at i f links) k).capacity ≡ (link_at links k).capacity
capacity-changed {M} i f links k low same = ap (λ (q : Queues M). q.capacity) (link_at-changed i f links k low) ∙ capacity-if (k == i) f (link_at links k) (same (link_at links k))

here : {M : Type 0} (k : ℕ) (ms : List M) → when (k == k) ms ≡ ms
here k ms = ap (λ b. when b ms) (eq-eqb k k refl)

module _ {M : Type 0} (links one two three : List (Queues M)) (place : ℕ) (l r s : List M) (low : place + 1 < length links)
    (is_one : one ≡ changed_at place (put_leftwards l) links)
    (is_two : two ≡ changed_at (place + 1) (put_rightwards r) one)
    (is_three : three ≡ changed_at (place + 1) (put_rightwards s) two)
    (room : length (link_at links (place + 1)).rightwards + length (r ++ s) ≤ (link_at links (place + 1)).capacity) where
  in_one : place + 1 < length one
  in_one = omega (arith, low, ap length is_one, length-changed_at place (put_leftwards l) links)

  in_two : place + 1 < length two
  in_two = omega (arith, in_one, ap length is_two, length-changed_at (place + 1) (put_rightwards r) one)

  rights_one : (link_at one (place + 1)).rightwards ≡ (link_at links (place + 1)).rightwards
  rights_one = ap (λ (ls : List (Queues M)). (link_at ls (place + 1)).rightwards) is_one ∙ rights-put_left links (place + 1) low place l

  capacity_one : (link_at one (place + 1)).capacity ≡ (link_at links (place + 1)).capacity
  capacity_one = ap (λ (ls : List (Queues M)). (link_at ls (place + 1)).capacity) is_one ∙ capacity-changed place (put_leftwards l) links (place + 1) low (λ q. refl)

  rights_two : (link_at two (place + 1)).rightwards ≡ (link_at links (place + 1)).rightwards ++ r
  rights_two =
      ap (λ (ls : List (Queues M)). (link_at ls (place + 1)).rightwards) is_two ∙ rights-put_right one (place + 1) in_one (place + 1) r
      ∙ ap (λ ms. (link_at one (place + 1)).rightwards ++ ms) (here (place + 1) r) ∙ ap (λ ms. ms ++ r) rights_one

  capacity_two : (link_at two (place + 1)).capacity ≡ (link_at links (place + 1)).capacity
  capacity_two = ap (λ (ls : List (Queues M)). (link_at ls (place + 1)).capacity) is_two ∙ capacity-changed (place + 1) (put_rightwards r) one (place + 1) in_one (λ q. refl) ∙ capacity_one

  pub record Fits : Type 0 where
    pub low_one : place + 1 < length one
    pub room_one : length (link_at one (place + 1)).rightwards + length r ≤ (link_at one (place + 1)).capacity
    pub low_two : place + 1 < length two
    pub room_two : length (link_at two (place + 1)).rightwards + length s ≤ (link_at two (place + 1)).capacity
    pub all : three ≡ send_out place l (r ++ s) links

  pub fits : Fits
  fits = record {
    low_one = in_one;
    room_one = omega (arith, room, ap length rights_one, capacity_one, length-append r s);
    low_two = in_two;
    room_two = omega (arith, room, ap length rights_two, capacity_two, length-append (link_at links (place + 1)).rightwards r, length-append r s);
    all =
        is_three ∙ ap (changed_at (place + 1) (put_rightwards s)) is_two
        ∙ changed_at-twice (place + 1) (put_rightwards r) (put_rightwards s) (put_rightwards (r ++ s)) one
        (λ (q : Queues M). ap (λ (ms : List M). record q { rightwards = ms }) (append_assoc q.rightwards r s))
        ∙ ap (changed_at (place + 1) (put_rightwards (r ++ s))) is_one;
  }

-- to the left there is at most one
one_if : {P : Type 0} (holds : Bool) (message : Msg P) → length (only_if holds message) ≤ 1
one_if true message = omega arith
one_if false message = omega arith

pub one_left : {P : Type 0} (links : List (Queues (Msg P))) (place : ℕ) (holds : Bool) (message : Msg P) → length (link_at links place).leftwards + 1 ≤ (link_at links place).capacity
    → length (link_at links place).leftwards + length (only_if holds message) ≤ (link_at links place).capacity
one_left links place holds message room = omega (arith, room, one_if holds message)

-- ---- messages that are passed on alone, or not at all

abbrev left_only : {P : Type 0} → Msg P → Sends P
left_only message = record { left = message ∷ []; right = [] }

abbrev right_only : {P : Type 0} → Msg P → Sends P
right_only message = record { left = []; right = message ∷ [] }

module _ {P : Type 0} (place n : ℕ) (message : Msg P) where
  alone : (only : Msg P → Sends P) (other : Msg P) → message ≡ other → sends place n other ≡ only other → sends place n message ≡ only message
  alone only other is sent = ap (λ (m : Msg P). sends place n m) is ∙ sent ∙ ap only (sym is)

  pub left_alone : ((no : EventNo) × message ≡ EndR no) ⊎ (((no : EventNo) × message ≡ ExpR no) ⊎ (((no : EventNo) × message ≡ QuietR no) ⊎ (message ≡ CloseR))) → sends place n message ≡ left_only message
  left_alone (inl is) = alone left_only (EndR is.0) is.1 refl
  left_alone (inr (inl is)) = alone left_only (ExpR is.0) is.1 refl
  left_alone (inr (inr (inl is))) = alone left_only (QuietR is.0) is.1 refl
  left_alone (inr (inr (inr is))) = alone left_only CloseR is refl

  pub right_alone : ((no : EventNo) × message ≡ EndS no) ⊎ (((no : EventNo) × message ≡ ExpS no) ⊎ (((no : EventNo) × message ≡ QuietL no) ⊎ (message ≡ CloseL))) → sends place n message ≡ right_only message
  right_alone (inl is) = alone right_only (EndS is.0) is.1 refl
  right_alone (inr (inl is)) = alone right_only (ExpS is.0) is.1 refl
  right_alone (inr (inr (inl is))) = alone right_only (QuietL is.0) is.1 refl
  right_alone (inr (inr (inr is))) = alone right_only CloseL is refl

  module _ (links new : List (Queues (Msg P))) where
    sent_out : (s t : Sends P) → s ≡ t → new ≡ send_out place t.left t.right links → new ≡ send_out place s.left s.right links
    sent_out s t same put = put ∙ ap (λ (u : Sends P). send_out place u.left u.right links) (sym same)

    pub passed_left : sends place n message ≡ left_only message → new ≡ changed_at place (put_leftwards (message ∷ [])) links → new ≡ send_out place (sends place n message).left (sends place n message).right links
    passed_left only put = sent_out (sends place n message) (left_only message) only (put ∙ nothing_right (changed_at place (put_leftwards (message ∷ [])) links) (place + 1))

    pub passed_right : sends place n message ≡ right_only message → new ≡ changed_at (place + 1) (put_rightwards (message ∷ [])) links → new ≡ send_out place (sends place n message).left (sends place n message).right links
    passed_right only put = sent_out (sends place n message) (right_only message) only (put ∙ ap (λ (ls : List (Queues (Msg P))). changed_at (place + 1) (put_rightwards (message ∷ [])) ls) (nothing_left links place))

  pub passed_nowhere : (links : List (Queues (Msg P))) (of : EventNo) → message ≡ AckS of → links ≡ send_out place (sends place n message).left (sends place n message).right links
  passed_nowhere links of is =
      sent_out links links (sends place n message) (record { left = []; right = [] }) (ap (λ (m : Msg P). sends place n m) is) (nothing_left links place ∙ nothing_right (changed_at place (put_leftwards []) links) (place + 1))

-- a message on its way
module _ {P : Type 0} (place : ℕ) (message : Msg P) (links new : List (Queues (Msg P))) (goes : Way) where
  pub on_left : goes ≡ way.Left → new ≡ changed_at place (put_leftwards (message ∷ [])) links → new ≡ send_out place (passed_on goes message).left (passed_on goes message).right links
  on_left is put =
      put ∙ nothing_right (changed_at place (put_leftwards (message ∷ [])) links) (place + 1) ∙ ap (λ (w : Way). send_out place (passed_on w message).left (passed_on w message).right links) (sym is)

  pub on_right : goes ≡ way.Right → new ≡ changed_at (place + 1) (put_rightwards (message ∷ [])) links → new ≡ send_out place (passed_on goes message).left (passed_on goes message).right links
  on_right is put =
      put ∙ ap (λ (ls : List (Queues (Msg P))). changed_at (place + 1) (put_rightwards (message ∷ [])) ls) (nothing_left links place) ∙ ap (λ (w : Way). send_out place (passed_on w message).left (passed_on w message).right links) (sym is)

  pub on_no_side : goes ≡ way.Nowhere → new ≡ links → new ≡ send_out place (passed_on goes message).left (passed_on goes message).right links
  on_no_side is same =
      same ∙ nothing_left links place ∙ nothing_right (changed_at place (put_leftwards []) links) (place + 1) ∙ ap (λ (w : Way). send_out place (passed_on w message).left (passed_on w message).right links) (sym is)
