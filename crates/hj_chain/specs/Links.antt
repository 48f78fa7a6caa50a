-- What is done to the links of a chain of n cores. Link k joins the cores k - 1 and k. Link 0 has the driver's left port at its
-- left end, and link n its right port at its right end.
use Rattle.std.specs.Prelude.{ℕ, zero, suc, ◌+◌, ◌<◌, List, [], ◌∷◌, ◌++◌, drop, length, slice_index_or}
use Rattle.hj_base.specs.declared.numbers.Side.{Side}
use Rattle.hj_base.specs.declared.numbers.Side.TheVariants.{Left, Right}
use Rattle.hj_chain.specs.Queues.{Queues, no_messages}

-- the list with the element at a place changed
abbrev pub changed_at : {X : Type 0} → ℕ → (X → X) → List X → List X
changed_at k change [] = []
changed_at zero change (x ∷ xs) = change x ∷ xs
changed_at (suc k) change (x ∷ xs) = x ∷ changed_at k change xs

-- the link at a place
abbrev pub link_at : {M : Type 0} → List (Queues M) → ℕ → Queues M
link_at links k = slice_index_or links k (no_messages 0)

-- a link with more messages behind those under way to the right, or to the left
abbrev pub put_rightwards : {M : Type 0} → List M → Queues M → Queues M
put_rightwards messages link = record link { rightwards = link.rightwards ++ messages }

abbrev pub put_leftwards : {M : Type 0} → List M → Queues M → Queues M
put_leftwards messages link = record link { leftwards = link.leftwards ++ messages }

-- a link without the first message under way to the right, or to the left
abbrev pub take_rightwards : {M : Type 0} → Queues M → Queues M
take_rightwards link = record link { rightwards = drop 1 link.rightwards }

abbrev pub take_leftwards : {M : Type 0} → Queues M → Queues M
take_leftwards link = record link { leftwards = drop 1 link.leftwards }

-- The messages that come out at a port of a chain of n cores.
abbrev pub at_port : {M : Type 0} → Side → ℕ → List (Queues M) → List M
at_port Left n links = (link_at links 0).leftwards
at_port Right n links = (link_at links n).rightwards

-- a message put in at a port, and the first one taken out there
abbrev pub put_in : {M : Type 0} → Side → ℕ → M → List (Queues M) → List (Queues M)
put_in Left n message links = changed_at 0 (put_rightwards (message ∷ [])) links
put_in Right n message links = changed_at n (put_leftwards (message ∷ [])) links

abbrev pub take_out : {M : Type 0} → Side → ℕ → List (Queues M) → List (Queues M)
take_out Left n links = changed_at 0 take_leftwards links
take_out Right n links = changed_at n take_rightwards links

-- there is room for one message more from a port
abbrev pub HasRoomAt : {M : Type 0} → Side → ℕ → List (Queues M) → Type 0
HasRoomAt Left n links = length (link_at links 0).rightwards < (link_at links 0).capacity
HasRoomAt Right n links = length (link_at links n).leftwards < (link_at links n).capacity

-- The messages that come in at an end of the core at a place.
abbrev pub incoming : {M : Type 0} → Side → ℕ → List (Queues M) → List M
incoming Left place links = (link_at links place).rightwards
incoming Right place links = (link_at links (place + 1)).leftwards

-- the first one taken there
abbrev pub take_in : {M : Type 0} → Side → ℕ → List (Queues M) → List (Queues M)
take_in Left place links = changed_at place take_rightwards links
take_in Right place links = changed_at (place + 1) take_leftwards links

-- a message in front of those that come in there, where there is room for it
abbrev pub put_back : {M : Type 0} → Side → ℕ → M → List (Queues M) → List (Queues M)
put_back Left place message links = changed_at place (λ link. record link { rightwards = message ∷ link.rightwards }) links
put_back Right place message links = changed_at (place + 1) (λ link. record link { leftwards = message ∷ link.leftwards }) links

abbrev pub HasRoomBack : {M : Type 0} → Side → ℕ → List (Queues M) → Type 0
HasRoomBack Left place links = length (link_at links place).rightwards < (link_at links place).capacity
HasRoomBack Right place links = length (link_at links (place + 1)).leftwards < (link_at links (place + 1)).capacity

-- what that core puts on its left and on its right
abbrev pub send_out : {M : Type 0} → ℕ → List M → List M → List (Queues M) → List (Queues M)
send_out place to_left to_right links = changed_at (place + 1) (put_rightwards to_right) (changed_at place (put_leftwards to_left) links)
