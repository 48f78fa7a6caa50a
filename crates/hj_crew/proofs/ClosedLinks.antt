-- A desk and the cores' ends, closed: the run that they show.
use Rattle.std.proofs.Common.{◌≡◌, ◌≢◌, ℕ, zero, suc, ◌<◌, ◌≤◌, ◌⊎◌, inl, inr, List, [], ◌∷◌, ◌++◌, length, map, get_or, All, refl, ap, sym, ◌∙◌, subst, arith}
use Rattle.std.proofs.lemmas.Bool.{cases_lt}
use Rattle.std.proofs.lemmas.List.{get_or-map}
use Rattle.std.proofs.lemmas.Slice.Zip.{AllZip-long}
use Rattle.hj_base.specs.Journals.{Entry}
use Rattle.hj_base.specs.Link.{Agrees, AgreesOneWay}
use Rattle.hj_link.specs.Seen.{EndSeen, closed, closed_way, link_of, one_way_of}
use Rattle.hj_crew.specs.Links.{AreLinked, closed_by, closed_links, closed_queues}

-- ---- closed links and queues, place by place

module _ {M : Type 0} where
  abbrev pub end_journal : EndSeen M → List (Entry M)
  end_journal end = end.journal

  pub length-linked : (firsts seconds : List (EndSeen M)) → AreLinked firsts seconds → length seconds ≡ length firsts
  length-linked firsts seconds linked = AllZip-long (λ (first second : EndSeen M). first.link ≡ second.link) firsts seconds linked

  module _ {C : Type 0} (close : ℕ → List (Entry M) → List (Entry M) → C) where
    pub length-closed : (firsts seconds : List (EndSeen M)) → AreLinked firsts seconds → length (closed_by close firsts seconds) ≡ length firsts
    length-closed [] seconds linked = refl
    length-closed (first ∷ firsts) [] linked = absurd linked
    length-closed (first ∷ firsts) (second ∷ seconds) linked = ap suc (length-closed firsts seconds linked.1)

    -- what is seen of each is of the journals of both ends
    module _ {S : Type 0} (seen : C → S) (of : List (Entry M) → List (Entry M) → S) (is : (capacity : ℕ) (one other : List (Entry M)) → seen (close capacity one other) ≡ of one other) where
      seen-closed : (firsts seconds : List (EndSeen M)) → AreLinked firsts seconds → (k : ℕ)
          → get_or (map seen (closed_by close firsts seconds)) k (of [] []) ≡ of (get_or (map end_journal firsts) k []) (get_or (map end_journal seconds) k [])
      seen-closed [] [] linked k = refl
      seen-closed [] (second ∷ seconds) linked k = absurd linked
      seen-closed (first ∷ firsts) [] linked k = absurd linked
      seen-closed (first ∷ firsts) (second ∷ seconds) linked zero = is first.capacity first.journal second.journal
      seen-closed (first ∷ firsts) (second ∷ seconds) linked (suc k) = seen-closed firsts seconds linked.1 k

    -- each has the capacity of its first end
    module _ (capacity_of : C → ℕ) (is : (capacity : ℕ) (one other : List (Entry M)) → capacity_of (close capacity one other) ≡ capacity) (capacity : ℕ) where
      capacity-closed : (firsts seconds : List (EndSeen M)) → All (λ end. end.capacity ≡ capacity) firsts → (k : ℕ) (d : C) → k < length (closed_by close firsts seconds) → capacity_of (get_or (closed_by close firsts seconds) k d) ≡ capacity
      capacity-closed [] seconds all k d low = absurd (omega (arith, low))
      capacity-closed (first ∷ firsts) [] all k d low = absurd (omega (arith, low))
      capacity-closed (first ∷ firsts) (second ∷ seconds) all zero d low = is first.capacity first.journal second.journal ∙ all 0 first (omega arith)
      capacity-closed (first ∷ firsts) (second ∷ seconds) all (suc k) d low = capacity-closed firsts seconds (λ j e less. all (suc j) e (omega (arith, less))) k d (omega (arith, low))

      -- So the one at a place agrees, by this capacity.
      agrees-closed : {S : Type 0} (Agree : ℕ → S → Type 0) (seen : C → S) (none : S) (firsts seconds : List (EndSeen M)) → All (λ end. end.capacity ≡ capacity) firsts → All (λ one. Agree (capacity_of one) (seen one)) (closed_by close firsts seconds)
          → (k : ℕ) → k < length (closed_by close firsts seconds) → Agree capacity (get_or (map seen (closed_by close firsts seconds)) k none)
      agrees-closed Agree seen none firsts seconds are all k low =
          let d = close 0 [] [] in
          subst (Agree capacity) (sym (get_or-map seen (closed_by close firsts seconds) k d none low))
          (subst (λ n. Agree n (seen (get_or (closed_by close firsts seconds) k d))) (capacity-closed firsts seconds are k d low) (all k d low))

  -- ---- of links

  pub link-closed : (left right : List (EndSeen M)) → AreLinked left right → (k : ℕ)
      → get_or (map (λ link. link.link) (closed_links left right)) k (link_of [] []) ≡ link_of (get_or (map end_journal left) k []) (get_or (map end_journal right) k [])
  link-closed = seen-closed closed (λ link. link.link) link_of (λ capacity left right. refl)

  pub link-agrees : (capacity : ℕ) (left right : List (EndSeen M)) → All (λ end. end.capacity ≡ capacity) left → All (λ link. Agrees link.capacity link.link) (closed_links left right) → (k : ℕ)
      → k < length (closed_links left right) → Agrees capacity (get_or (map (λ link. link.link) (closed_links left right)) k (link_of [] []))
  link-agrees capacity = agrees-closed closed (λ link. link.capacity) (λ capacity left right. refl) capacity Agrees (λ link. link.link) (link_of [] [])

  -- ---- of queues

  pub queue-closed : (senders receivers : List (EndSeen M)) → AreLinked senders receivers → (k : ℕ)
      → get_or (map (λ queue. queue.way) (closed_queues senders receivers)) k (one_way_of [] []) ≡ one_way_of (get_or (map end_journal senders) k []) (get_or (map end_journal receivers) k [])
  queue-closed = seen-closed closed_way (λ queue. queue.way) one_way_of (λ capacity sender receiver. refl)

  pub queue-agrees : (capacity : ℕ) (senders receivers : List (EndSeen M)) → All (λ sender. sender.capacity ≡ capacity) senders → All (λ queue. AgreesOneWay queue.capacity queue.way) (closed_queues senders receivers) → (k : ℕ)
      → k < length (closed_queues senders receivers) → AgreesOneWay capacity (get_or (map (λ queue. queue.way) (closed_queues senders receivers)) k (one_way_of [] []))
  queue-agrees capacity = agrees-closed closed_way (λ queue. queue.capacity) (λ capacity sender receiver. refl) capacity AgreesOneWay (λ queue. queue.way) (one_way_of [] [])

  -- what is told by the journals of the receivers is told of what is closed
  pub receivers-closed : {S : Type 0} (told : List (Entry M) → S) (senders receivers : List (EndSeen M)) → AreLinked senders receivers
      → map (λ queue. told queue.way.receiver) (closed_queues senders receivers) ≡ map (λ receiver. told receiver.journal) receivers
  receivers-closed told [] [] linked = refl
  receivers-closed told [] (receiver ∷ receivers) linked = absurd linked
  receivers-closed told (sender ∷ senders) [] linked = absurd linked
  receivers-closed told (sender ∷ senders) (receiver ∷ receivers) linked = ap (λ l. told receiver.journal ∷ l) (receivers-closed told senders receivers linked.1)

  -- the last of some journals, and those before it
  pub last-at : (ends : List (EndSeen M)) (last : EndSeen M) → get_or (map end_journal (ends ++ last ∷ [])) (length ends) [] ≡ last.journal
  last-at [] last = refl
  last-at (e ∷ ends) last = last-at ends last

  pub before-last : (ends : List (EndSeen M)) (last : EndSeen M) (k : ℕ) → k ≢ length ends → get_or (map end_journal (ends ++ last ∷ [])) k [] ≡ get_or (map end_journal ends) k []
  before-last [] last zero other = absurd (other refl)
  before-last [] last (suc k) other = refl
  before-last (e ∷ ends) last zero other = refl
  before-last (e ∷ ends) last (suc k) other = before-last ends last k (λ same. other (ap suc same))

-- ---- something for each of the numbers below n

module _ {A : Type 0} (n : ℕ) (Q : ℕ → A → Type 0) (other : A) (each : (k : ℕ) → k < n → (a : A) × Q k a) where
  choose : (k : ℕ) → (k < n) ⊎ (n ≤ k) → A
  choose k (inl low) = (each k low).0
  choose k (inr high) = other

  pub chosen : ℕ → A
  chosen k = choose k (cases_lt k n)

  of_choice : (k : ℕ) → k < n → (which : (k < n) ⊎ (n ≤ k)) → Q k (choose k which)
  unfolding choose
  of_choice k low (inl less) = (each k less).1
  of_choice k low (inr high) = absurd (omega (arith, low, high))

  pub is_chosen : (k : ℕ) → k < n → Q k (chosen k)
  unfolding chosen
  is_chosen k low = of_choice k low (cases_lt k n)
