-- The steps of either end keep the rule of the table.
use Rattle.std.proofs.Common.{◌≡◌, ℕ, Bool, true, false, not, ◌+◌, ◌%◌, ◌^◌, ◌<◌, ◌≤◌, List, length, set, get_or, sym, refl, ◌∙◌, subst, arith, length-set, get_or-set_other, get_or-set_same}
use mathlib.Core.Option.{none, some}
use mathlib.Core.Logic.{dite}
use native.Mathlib.Decide.{ℕ_discrete}
use Rattle.atomic_table.specs.Table.{keeps, takes as takes_slot, gives, Allows}
use Rattle.hj_link.specs.declared.table.MessageSlot.{MessageSlot}
use Rattle.hj_link.specs.declared.table.MessageSlot.TheVariants.{Empty, Filled}
use Rattle.hj_link.specs.declared.turn_no.TurnNo.{TurnNo}
use Rattle.hj_link.specs.declared.endpoints.CounterWords.{CounterWords}
use Rattle.hj_link.specs.declared.table.Capacities.{Capacities}
use Rattle.hj_link.specs.declared.table.EndState.{EndState}
use Rattle.hj_link.specs.declared.table.SeatView.{SeatView}
use Rattle.hj_link.specs.Words.{words_of, capacity_of}
use Rattle.hj_link.specs.Rule.{Rule, Opposed, Seated, sent, got}
use Rattle.hj_link.specs.Steps.{has_end, end_of, with_end, own, changed, room_there, put_slot, take_slot, saw_takes, saw_puts, set_putting, set_fetching, after_put, after_take, looks_for_room, looks_for_message, reserves, publishes, fetches, publishes_take, learns, IsLaid, IsEmptied}
use Rattle.hj_link.proofs.Flows.{Row, prefix_length}
use Rattle.hj_link.proofs.Opposites.{both_look_for_room, both_look_for_message, both_reserve, both_put, both_fetch, both_take, flows_of}
use Rattle.hj_link.proofs.Seats.{From, other_of, side_knows, side_goes}

-- a load leaves each word as it was
same_word : (ws : List ℕ) (w j : ℕ) → w < length ws → get_or (set ws w (get_or ws w 0)) j 0 ≡ get_or ws j 0
same_word ws w j lt = dite (ℕ_discrete w j) (λ e. subst (λ (z : ℕ). get_or (set ws w (get_or ws w 0)) z 0 ≡ get_or ws z 0) e (get_or-set_same ws w (get_or ws w 0) 0 lt)) (λ ne. get_or-set_other ws w j (get_or ws w 0) 0 (λ e. ne (sym e)))

-- the words lie in the table
puts_inside : (side : Bool) (n : ℕ) → n ≡ 64 → (words_of side).puts < n
puts_inside true n is = omega arith
puts_inside false n is = omega arith

takes_inside : (side : Bool) (n : ℕ) → n ≡ 64 → (words_of side).takes < n
takes_inside true n is = omega arith
takes_inside false n is = omega arith

other_puts_inside : (side : Bool) (n : ℕ) → n ≡ 64 → (words_of side).other_puts < n
other_puts_inside true n is = omega arith
other_puts_inside false n is = omega arith

other_takes_inside : (side : Bool) (n : ℕ) → n ≡ 64 → (words_of side).other_takes < n
other_takes_inside true n is = omega arith
other_takes_inside false n is = omega arith

pub words_inside : (side : Bool) (words : CounterWords) (n : ℕ) → words ≡ words_of side → n ≡ 64 → (words.puts < n) × (words.takes < n) × (words.other_puts < n) × (words.other_takes < n)
words_inside side words n is m = subst (λ (z : CounterWords). (z.puts < n) × (z.takes < n) × (z.other_puts < n) × (z.other_takes < n)) (sym is) (puts_inside side n m, takes_inside side n m, other_puts_inside side n m, other_takes_inside side n m)

module _ {M : Type 0} where
  reworded : {k b k' b' : ℕ} {hs : Row M} {one two : EndState M} (w x y z w' x' y' z' : ℕ) → w' ≡ w → x' ≡ x → y' ≡ y → z' ≡ z → Opposed k b k' b' w x y z hs one two → Opposed k b k' b' w' x' y' z' hs one two
  reworded {k} {b} {k'} {b'} {hs} {one} {two} w x y z w' x' y' z' p q r s o = subst (λ (u : ℕ). Opposed k b k' b' w' x' y' u hs one two) (sym s) (subst (λ (u : ℕ). Opposed k b k' b' w' x' u z hs one two) (sym r) (subst (λ (u : ℕ). Opposed k b k' b' w' u y z hs one two) (sym q) (subst (λ (u : ℕ). Opposed k b k' b' u x y z hs one two) (sym p) o)))

  -- after a load of any word
  loaded : (side : Bool) (c : Capacities) (ws : List ℕ) (hs : Row M) (one two : EndState M) (w : ℕ) → w < length ws → From side c ws hs one two → From side c (set ws w (get_or ws w 0)) hs one two
  loaded side c ws hs one two w lt o = let words = words_of side in reworded _ _ _ _ _ _ _ _ (same_word ws w words.puts lt) (same_word ws w words.other_takes lt) (same_word ws w words.other_puts lt) (same_word ws w words.takes lt) o

  -- after a store of the count of the end's own puts, or takes
  put_stored : (side : Bool) (k b k' b' : ℕ) (ws : List ℕ) (hs : Row M) (one two : EndState M) (new : ℕ) → length ws ≡ 64
      → Opposed k b k' b' new (get_or ws (words_of side).other_takes 0) (get_or ws (words_of side).other_puts 0) (get_or ws (words_of side).takes 0) hs one two
      → let ws' : List ℕ = set ws (words_of side).puts new in Opposed k b k' b' (get_or ws' (words_of side).puts 0) (get_or ws' (words_of side).other_takes 0) (get_or ws' (words_of side).other_puts 0) (get_or ws' (words_of side).takes 0) hs one two
  put_stored true k b k' b' ws hs one two new l o = let n : ℕ = length ws in let n64 : n ≡ 64 = l in
      reworded _ _ _ _ _ _ _ _ (get_or-set_same ws 0 new 0 (omega arith)) (get_or-set_other ws 0 16 new 0 (λ e. omega arith)) (get_or-set_other ws 0 32 new 0 (λ e. omega arith)) (get_or-set_other ws 0 48 new 0 (λ e. omega arith)) o
  put_stored false k b k' b' ws hs one two new l o = let n : ℕ = length ws in let n64 : n ≡ 64 = l in
      reworded _ _ _ _ _ _ _ _ (get_or-set_same ws 32 new 0 (omega arith)) (get_or-set_other ws 32 48 new 0 (λ e. omega arith)) (get_or-set_other ws 32 0 new 0 (λ e. omega arith)) (get_or-set_other ws 32 16 new 0 (λ e. omega arith)) o

  take_stored : (side : Bool) (k b k' b' : ℕ) (ws : List ℕ) (hs : Row M) (one two : EndState M) (new : ℕ) → length ws ≡ 64
      → Opposed k b k' b' (get_or ws (words_of side).puts 0) (get_or ws (words_of side).other_takes 0) (get_or ws (words_of side).other_puts 0) new hs one two
      → let ws' : List ℕ = set ws (words_of side).takes new in Opposed k b k' b' (get_or ws' (words_of side).puts 0) (get_or ws' (words_of side).other_takes 0) (get_or ws' (words_of side).other_puts 0) (get_or ws' (words_of side).takes 0) hs one two
  take_stored true k b k' b' ws hs one two new l o = let n : ℕ = length ws in let n64 : n ≡ 64 = l in
      reworded _ _ _ _ _ _ _ _ (get_or-set_other ws 48 0 new 0 (λ e. omega arith)) (get_or-set_other ws 48 16 new 0 (λ e. omega arith)) (get_or-set_other ws 48 32 new 0 (λ e. omega arith)) (get_or-set_same ws 48 new 0 (omega arith)) o
  take_stored false k b k' b' ws hs one two new l o = let n : ℕ = length ws in let n64 : n ≡ 64 = l in
      reworded _ _ _ _ _ _ _ _ (get_or-set_other ws 16 32 new 0 (λ e. omega arith)) (get_or-set_other ws 16 48 new 0 (λ e. omega arith)) (get_or-set_other ws 16 0 new 0 (λ e. omega arith)) (get_or-set_same ws 16 new 0 (omega arith)) o

  room_looked_by : (side : Bool) (c : Capacities) (n id : ℕ) (me : Seated M) → has_end side me.0 ≡ true → Allows (Rule c) n id me (words_of side).other_takes (λ x. x) (looks_for_room side me)
  room_looked_by side c n id me has s r wide at _ = let e : EndState M = own side me in let f : EndState M = other_of side r in let w : ℕ = (words_of side).other_takes in let k : ℕ = room_there side me in let o = side_knows side c s r id me.0 at has in
      let g : ℕ = length (got f) in let sl : ℕ = length (sent e) in let kl : ℕ = length f.known in let a : g ≤ kl = prefix_length _ _ o.there.taken in let b : kl ≤ sl = prefix_length _ _ o.there.learned in
      let kt : ℕ = e.known_takes in let stale : kt ≤ g = o.there.stale in let d : sl ≤ kt + k = o.there.within in (
        changed side me (saw_takes k e g),
        keeps,
        tt,
        side_goes side c s r id me.0 at has (saw_takes k e g) (set s.words w (get_or s.words w 0)) s.homes (length-set s.words w (get_or s.words w 0) ∙ r.wide) refl
            (loaded side me.0.capacities s.words s.homes (saw_takes k e g) f w (other_takes_inside side _ r.wide) (both_look_for_room _ _ _ _ _ _ _ _ _ _ _ o)),
        (g, o.there.take_is, stale, omega arith, omega arith, refl),
      )

  message_looked_by : (side : Bool) (c : Capacities) (n id : ℕ) (me : Seated M) → has_end side me.0 ≡ true → Allows (Rule c) n id me (words_of side).other_puts (λ x. x) (looks_for_message side me)
  message_looked_by side c n id me has s r wide at _ = let e : EndState M = own side me in let f : EndState M = other_of side r in let w : ℕ = (words_of side).other_puts in let k : ℕ = capacity_of (not side) me.0.capacities in let o = side_knows side c s r id me.0 at has in
      let g : ℕ = length (got e) in let sl : ℕ = length (sent f) in let kl : ℕ = length e.known in let a : g ≤ kl = prefix_length _ _ o.back.taken in let b : kl ≤ sl = prefix_length _ _ o.back.learned in
      let kt : ℕ = f.known_takes in let stale : kt ≤ g = o.back.stale in let d : sl ≤ kt + k = o.back.within in (
        changed side me (saw_puts e (sent f)),
        keeps,
        tt,
        side_goes side c s r id me.0 at has (saw_puts e (sent f)) (set s.words w (get_or s.words w 0)) s.homes (length-set s.words w (get_or s.words w 0) ∙ r.wide) refl
            (loaded side me.0.capacities s.words s.homes (saw_puts e (sent f)) f w (other_puts_inside side _ r.wide) (both_look_for_message _ _ _ _ _ _ _ _ _ _ _ o)),
        (sent f, o.back.put_is, o.back.learned, omega arith, omega arith, refl),
      )

  reserved_by : (side : Bool) (c : Capacities) (n id : ℕ) (me : Seated M) → has_end side me.0 ≡ true → (own side me).putting ≡ false → length (sent (own side me)) < (own side me).known_takes + room_there side me
      → Allows (Rule c) n id me (words_of side).puts (λ x. x) (λ _. reserves side me)
  reserved_by side c n id me has idle room s r wide at _ = let e : EndState M = own side me in let f : EndState M = other_of side r in let w : ℕ = (words_of side).puts in let o = side_knows side c s r id me.0 at has in
      let i : ℕ = put_slot side me in let did = both_reserve _ _ _ _ _ _ _ _ _ _ _ o idle room in (
        changed side me (set_putting e true),
        takes_slot i (Empty did.0),
        did.1,
        side_goes side c s r id me.0 at has (set_putting e true) (set s.words w (get_or s.words w 0)) (set s.homes i none) (length-set s.words w (get_or s.words w 0) ∙ r.wide) (length-set s.homes i none)
            (loaded side me.0.capacities s.words (set s.homes i none) (set_putting e true) f w (puts_inside side _ r.wide) did.2),
        (did.0, refl),
      )

  put_published_by : (side : Bool) (c : Capacities) (n id : ℕ) (me : Seated M) (new : ℕ) → IsLaid side me → new ≡ (length (sent (own side me)) + 1) % 2 ^ 64 → Allows (Rule c) n id me (words_of side).puts (λ _. new) (λ _. publishes side me)
  put_published_by side c n id me new l is = let v : SeatView M = me.0 in let e : EndState M = end_of side v in let i : ℕ = put_slot side me in let w : ℕ = (words_of side).puts in let t : TurnNo = l.turn in let x : M = l.message in
      subst (λ (z : List (ℕ × MessageSlot M)). Allows (Rule c) n id (v, z) w (λ _. new) (λ _. publishes side (v, z))) (sym l.held) (λ s r wide at _.
      let f : EndState M = other_of side r in let o = side_knows side c s r id v at l.has in let did = both_put _ _ _ _ _ _ _ _ _ _ _ t x new o l.is_out is in (
        with_end side v (after_put e t.number x f.empty_looks),
        gives,
        tt,
        side_goes side c s r id v at l.has (after_put e t.number x f.empty_looks) (set s.words w new) (set s.homes i (some (Filled t x))) (length-set s.words w new ∙ r.wide) (length-set s.homes i (some (Filled t x)))
            (put_stored side _ _ _ _ s.words (set s.homes i (some (Filled t x))) (after_put e t.number x f.empty_looks) f new r.wide did),
        (f.empty_looks, refl),
      ))

  fetched_by : (side : Bool) (c : Capacities) (n id : ℕ) (me : Seated M) → has_end side me.0 ≡ true → (own side me).fetching ≡ false → length (got (own side me)) < length (own side me).known
      → Allows (Rule c) n id me (words_of side).takes (λ x. x) (λ _. fetches side me)
  fetched_by side c n id me has idle some_one s r wide at _ = let e : EndState M = own side me in let f : EndState M = other_of side r in let w : ℕ = (words_of side).takes in let o = side_knows side c s r id me.0 at has in
      let i : ℕ = take_slot side me in let did = both_fetch _ _ _ _ _ _ _ _ _ _ _ o idle some_one in (
        changed side me (set_fetching e true),
        takes_slot i (Filled did.0 did.1),
        did.3,
        side_goes side c s r id me.0 at has (set_fetching e true) (set s.words w (get_or s.words w 0)) (set s.homes i none) (length-set s.words w (get_or s.words w 0) ∙ r.wide) (length-set s.homes i none)
            (loaded side me.0.capacities s.words (set s.homes i none) (set_fetching e true) f w (takes_inside side _ r.wide) did.4),
        (did.0, did.1, did.2, refl),
      )

  take_published_by : (side : Bool) (c : Capacities) (n id : ℕ) (me : Seated M) (new : ℕ) → IsEmptied side me → new ≡ (length (got (own side me)) + 1) % 2 ^ 64 → Allows (Rule c) n id me (words_of side).takes (λ _. new) (λ _. publishes_take side me)
  take_published_by side c n id me new l is = let v : SeatView M = me.0 in let e : EndState M = end_of side v in let i : ℕ = take_slot side me in let w : ℕ = (words_of side).takes in let t : TurnNo = l.turn in let x : M = l.message in
      subst (λ (z : List (ℕ × MessageSlot M)). Allows (Rule c) n id (v, z) w (λ _. new) (λ _. publishes_take side (v, z))) (sym l.held) (λ s r wide at _.
      let f : EndState M = other_of side r in let o = side_knows side c s r id v at l.has in let did = both_take _ _ _ _ _ _ _ _ _ _ _ t x new o l.is_out l.next is in (
        with_end side v (after_take e t.number x f.full_looks),
        gives,
        tt,
        side_goes side c s r id v at l.has (after_take e t.number x f.full_looks) (set s.words w new) (set s.homes i (some (Empty t))) (length-set s.words w new ∙ r.wide) (length-set s.homes i (some (Empty t)))
            (take_stored side _ _ _ _ s.words (set s.homes i (some (Empty t))) (after_take e t.number x f.full_looks) f new r.wide did),
        (x, l.next, f.full_looks, refl),
      ))

  -- the joined seat learns that the journals agree
  pub learned : (c : Capacities) (n id : ℕ) (me : Seated M) → me.0.has_left ≡ true → me.0.has_right ≡ true → Allows (Rule c) n id me 0 (λ x. x) (λ _. learns me)
  learned c n id me hl hr s r wide at _ = let w : ℕ = 0 in let e : EndState M = me.0.left in let o = side_knows true c s r id me.0 at hl in
      let a = subst (λ (f : EndState M). From true me.0.capacities s.words s.homes e f) (sym ((r.each_seat id me.0 at).of_right hr).1) o in (
        me.0,
        keeps,
        tt,
        side_goes true c s r id me.0 at hl e (set s.words w (get_or s.words w 0)) s.homes (length-set s.words w (get_or s.words w 0) ∙ r.wide) refl (loaded true me.0.capacities s.words s.homes e r.right w (puts_inside true _ r.wide) o),
        (refl, record { rightwards = flows_of _ _ _ _ _ e me.0.right _ _ _ _ a.there; leftwards = flows_of _ _ _ _ _ me.0.right e _ _ _ _ a.back; in_time = a.in_time }),
      )

  -- the same of the words that an end has
  pub room_looked : (side : Bool) (words : CounterWords) (c : Capacities) (n id : ℕ) (me : Seated M) → words ≡ words_of side → has_end side me.0 ≡ true → Allows (Rule c) n id me words.other_takes (λ x. x) (looks_for_room side me)
  room_looked side words c n id me is has = subst (λ (z : CounterWords). Allows (Rule c) n id me z.other_takes (λ x. x) (looks_for_room side me)) (sym is) (room_looked_by side c n id me has)

  pub message_looked : (side : Bool) (words : CounterWords) (c : Capacities) (n id : ℕ) (me : Seated M) → words ≡ words_of side → has_end side me.0 ≡ true → Allows (Rule c) n id me words.other_puts (λ x. x) (looks_for_message side me)
  message_looked side words c n id me is has = subst (λ (z : CounterWords). Allows (Rule c) n id me z.other_puts (λ x. x) (looks_for_message side me)) (sym is) (message_looked_by side c n id me has)

  pub reserved : (side : Bool) (words : CounterWords) (c : Capacities) (n id : ℕ) (me : Seated M) → words ≡ words_of side → has_end side me.0 ≡ true → (own side me).putting ≡ false → length (sent (own side me)) < (own side me).known_takes + room_there side me
      → Allows (Rule c) n id me words.puts (λ x. x) (λ _. reserves side me)
  reserved side words c n id me is has idle room = subst (λ (z : CounterWords). Allows (Rule c) n id me z.puts (λ x. x) (λ _. reserves side me)) (sym is) (reserved_by side c n id me has idle room)

  pub put_published : (side : Bool) (words : CounterWords) (c : Capacities) (n id : ℕ) (me : Seated M) (new : ℕ) → words ≡ words_of side → IsLaid side me → new ≡ (length (sent (own side me)) + 1) % 2 ^ 64 → Allows (Rule c) n id me words.puts (λ _. new) (λ _. publishes side me)
  put_published side words c n id me new is l new_is = subst (λ (z : CounterWords). Allows (Rule c) n id me z.puts (λ _. new) (λ _. publishes side me)) (sym is) (put_published_by side c n id me new l new_is)

  pub fetched : (side : Bool) (words : CounterWords) (c : Capacities) (n id : ℕ) (me : Seated M) → words ≡ words_of side → has_end side me.0 ≡ true → (own side me).fetching ≡ false → length (got (own side me)) < length (own side me).known
      → Allows (Rule c) n id me words.takes (λ x. x) (λ _. fetches side me)
  fetched side words c n id me is has idle some_one = subst (λ (z : CounterWords). Allows (Rule c) n id me z.takes (λ x. x) (λ _. fetches side me)) (sym is) (fetched_by side c n id me has idle some_one)

  pub take_published : (side : Bool) (words : CounterWords) (c : Capacities) (n id : ℕ) (me : Seated M) (new : ℕ) → words ≡ words_of side → IsEmptied side me → new ≡ (length (got (own side me)) + 1) % 2 ^ 64 → Allows (Rule c) n id me words.takes (λ _. new) (λ _. publishes_take side me)
  take_published side words c n id me new is l new_is = subst (λ (z : CounterWords). Allows (Rule c) n id me z.takes (λ _. new) (λ _. publishes_take side me)) (sym is) (take_published_by side c n id me new l new_is)
