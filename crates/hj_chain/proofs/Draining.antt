-- The pairs that a chain gives to a drain, one after another.
use Rattle.std.proofs.Common.{◌≡◌, ℕ, zero, suc, ◌+◌, ◌<◌, Bool, true, false, cond, List, [], ◌∷◌, ◌++◌, length, map, replicate, take, drop, Some, None, Option, refl, ap, sym, ◌∙◌, subst, arith, append-nil, append_assoc}
use Rattle.std.specs.List.{slice_get}
use Rattle.std.specs.List.Sorted.{IsPermutation}
use Rattle.std.proofs.Math.Seq.{take-add}
use Rattle.std.proofs.lemmas.List.{length-map, length-replicate}
use Rattle.std.proofs.lemmas.List.Elements.{All-contains}
use Rattle.std.proofs.lemmas.List.Sorted.{IsPermutation-sym, IsPermutation-trans, IsPermutation-append_right, length_permutation}
use Rattle.std.proofs.lemmas.Option.{slice_get_within}
use Rattle.hj_msg.specs.declared.drain.Drained.{Drained}
use Rattle.hj_msg.specs.declared.drain.Drained.TheVariants.{Kept, Refused}
use Rattle.hj_msg.specs.declared.event.Event.{Event}
use Rattle.hj_msg.specs.declared.event.Pair.{Pair}
use Rattle.hj_msg.specs.declared.message.Report.{Report}
use Rattle.hj_msg.specs.Drain.{Drainage, TakesAll, pairs_in}
use Rattle.hj_msg.specs.Emission.{emitted, is_within}
use Rattle.hj_msg.specs.Feed.{FeedState}
use Rattle.hj_msg.specs.Met.{met}
use Rattle.hj_msg.specs.Valid.{later}
use Rattle.hj_collect.specs.Giving.{AreAnswered, GivesDue, NoneDue}
use Rattle.hj_collect.specs.Collector.{least_mark}
use Rattle.hj_chain.specs.declared.actor.Actor.{Actor}
use Rattle.hj_chain.specs.Chain.{Contents}
use Rattle.hj_chain.specs.Reached.{StandsFor, collected_of, next_pair}
use Rattle.hj_chain.specs.Serial.{GivesPairs, Releases}
use Rattle.hj_chain.specs.Steps.{GoesWith}
use Rattle.hj_chain.proofs.Giving.{after, gives-none, goes-after, next, sound}
use Rattle.hj_chain.proofs.Goings.{Stood}
use Rattle.hj_chain.proofs.Looking.{take-at}

abbrev pub pair_in : {P : Type 0} → Drainage P → Pair P
pair_in one = one.pair

abbrev pub answer_in : {P : Type 0} → Drainage P → Drained
answer_in one = one.answer

-- what stands behind the pairs that were kept
abbrev pub last_of : Drained → List Drained
last_of Kept = []
last_of Refused = Refused ∷ []

-- Pairs that were given, the next ones of the emission of these lists: all were kept, but the last one where it was refused.
pub record Gave {P J D : Type 0} (takes : D → Pair P → Drained → D → Type 0) (predicate : J → P → P → Bool) (schedule : List Actor) (events : List (Event P)) (given : ℕ) (lists : List (List (Report P)))
    (unfilled : D) (last : List Drained) (now : Contents P J) (filled : D) : Type 0 where
  pub pairs : List (Drainage P)
  pub drain : TakesAll takes unfilled pairs filled
  pub stood : Stood predicate now schedule events (given + length pairs) lists
  pub in_order : map pair_in pairs ≡ take (length pairs) (drop given (emitted lists))
  pub kept : ℕ
  pub answers : map answer_in pairs ≡ replicate kept Kept ++ last

pub map-both : {X Y : Type 0} (f : X → Y) (xs ys : List X) → map f (xs ++ ys) ≡ map f xs ++ map f ys
map-both f [] ys = refl
map-both f (y ∷ xs) ys = ap (λ l. f y ∷ l) (map-both f xs ys)

drop-nothing : {X : Type 0} (i : ℕ) → drop {A = X} i [] ≡ []
drop-nothing zero = refl
drop-nothing (suc i) = refl

drop-drop : {X : Type 0} (g i j : ℕ) (xs : List X) → j ≡ g + i → drop i (drop g xs) ≡ drop j xs
drop-drop zero i j xs is = ap (λ (k : ℕ). drop k xs) (omega (arith, is))
drop-drop (suc g) i j [] is = drop-nothing i ∙ sym (drop-nothing j)
drop-drop (suc g) i zero (x ∷ xs) is = absurd (omega (arith, is))
drop-drop (suc g) i (suc j) (x ∷ xs) is = drop-drop g i j xs (omega (arith, is))

pub take-both : {X : Type 0} (i j given : ℕ) (xs : List X) → take (i + j) (drop given xs) ≡ take i (drop given xs) ++ take j (drop (given + i) xs)
take-both i j given xs = take-add i j (drop given xs) ∙ ap (λ l. take i (drop given xs) ++ take j l) (drop-drop given i (given + i) xs refl)

if-going : {X : Type 0} (b : Bool) (o : Option X) (x : X) → cond b None o ≡ Some x → o ≡ Some x
if-going true o x is = absurd (cc)
if-going false o x is = is

-- Where pairs are given, the rest stays.
module _ {P J : Type 0} (old new : Contents P J) (others : new ≡ record old { kept = new.kept }) where
  pub join-stays : new.join ≡ old.join
  join-stays = ap (λ (c : Contents P J). c.join) others

  pub state-stays : new.state ≡ old.state
  state-stays = ap (λ (c : Contents P J). c.state) others

module _ {P J : Type 0} (predicate : J → P → P → Bool) (now new : Contents P J) (others : new ≡ record now { kept = new.kept }) where
  -- one pair of the kept ones is given
  pub stood-more : (schedule : List Actor) (events : List (Event P)) (given : ℕ) (lists : List (List (Report P))) (stood : Stood predicate now schedule events given lists) (pair : Pair P) → next_pair stood.stands ≡ Some pair
      → IsPermutation now.kept (pair ∷ new.kept) → (count : ℕ) → count ≡ given + 1 → Stood predicate new schedule events count lists
  stood-more schedule events given lists stood pair next taken count is =
      let stands = stood.stands in
      let all = emitted (collected_of stands.reached) in
      let here : slice_get all given ≡ Some pair = if-going now.state.over (slice_get all given) pair next in
      let front = take given all in
      let longer : take count all ++ new.kept ≡ front ++ pair ∷ new.kept = ap (λ l. l ++ new.kept) (take-at all given pair here count is) ∙ append_assoc front (pair ∷ []) new.kept in
      subst (λ (c : Contents P J). Stood predicate c schedule events count lists) (sym others)
      (record {
        stands = record {
          reached = stands.reached;
          collector = stands.collector;
          within = omega (arith, slice_get_within all given pair here, is);
          released =
              subst (λ l. IsPermutation l (met (collected_of stands.reached))) (sym longer)
              (IsPermutation-trans (front ++ pair ∷ new.kept) (front ++ now.kept) (met (collected_of stands.reached)) (IsPermutation-append_right front (pair ∷ new.kept) now.kept (IsPermutation-sym now.kept (pair ∷ new.kept) taken)) stands.released);
        };
        are = stood.are;
      })

module _ {P J D : Type 0} (takes : D → Pair P → Drained → D → Type 0) (predicate : J → P → P → Bool) (schedule : List Actor) (events : List (Event P)) (given : ℕ) (lists : List (List (Report P))) (unfilled : D) where
  pub gave-nothing : (now : Contents P J) → Stood predicate now schedule events given lists → Gave takes predicate schedule events given lists unfilled [] now unfilled
  gave-nothing now stood = record {
    pairs = [];
    drain = refl;
    stood = subst (λ (count : ℕ). Stood predicate now schedule events count lists) (omega arith) stood;
    in_order = refl;
    kept = 0;
    answers = refl;
  }

  pub all-kept : (now : Contents P J) (filled : D) (gave : Gave takes predicate schedule events given lists unfilled [] now filled) → map answer_in gave.pairs ≡ replicate (length gave.pairs) Kept
  all-kept now filled gave =
      let are : map answer_in gave.pairs ≡ replicate gave.kept Kept = gave.answers ∙ append-nil (replicate gave.kept Kept) in
      are ∙ ap (λ (k : ℕ). replicate k Kept) (sym (length-replicate gave.kept Kept) ∙ ap length (sym are) ∙ length-map gave.pairs answer_in)

module _ {P J D : Type 0} (takes : D → Pair P → Drained → D → Type 0) (predicate : J → P → P → Bool) (unfilled : D) where
  -- nothing is given where memory ran out
  pub releases-nothing : (now : Contents P J) → now.state.over ≡ true → (schedule : List Actor) (events : List (Event P)) (given : ℕ) (stood : StandsFor predicate now schedule events given) → Releases takes stood unfilled Kept now unfilled
  releases-nothing now over schedule events given stood =
      let lists = collected_of stood.reached in
      let same : given ≡ given + 0 = omega arith in
      record {
        pairs = [];
        drain = refl;
        stands = record {
          reached = stood.reached;
          collector = stood.collector;
          within = omega (arith, stood.within);
          released = subst (λ (n : ℕ). IsPermutation (take n (emitted lists) ++ now.kept) (met lists)) same stood.released;
        };
        collected = refl;
        in_order = refl;
        gives = (refl, ap (λ b. cond b None (slice_get (emitted lists) (given + 0))) over);
      }

  -- all that is due, of a chain whose fields are open
  module _ (opened now : Contents P J) (is : opened ≡ now) (goes : (feed : FeedState) × GoesWith predicate now feed) (answer : Drained) (left : List (Pair P)) (filled : D)
      (due : GivesDue takes (least_mark opened.collector) opened.kept unfilled answer left filled) where
    abbrev pairs : List (Drainage P)
    pairs = due.gives.pairs

    releases-here : (schedule : List Actor) (events : List (Event P)) (given : ℕ) (stood : StandsFor predicate opened schedule events given) → Releases takes stood unfilled answer (record opened { kept = left }) filled
    releases-here schedule events given stood =
        let same : length (pairs_in pairs) ≡ length pairs = length-map pairs pair_in in
        let whole = sound predicate opened now is goes in
        let first = (next predicate opened whole (pairs_in pairs) left due.gives.out schedule events given stood).next in
        record {
          pairs = pairs;
          drain = due.gives.drain;
          stands = after predicate opened whole (pairs_in pairs) left due.gives.out schedule events given stood (given + length pairs) (ap (λ (n : ℕ). given + n) same);
          collected = refl;
          in_order = first ∙ ap (λ (n : ℕ). take n (drop given (emitted (collected_of stood.reached)))) same;
          gives = tells answer due.gives.answered due.rest (after predicate opened whole (pairs_in pairs) left due.gives.out schedule events given stood (given + length pairs) (ap (λ (n : ℕ). given + n) same));
        }
      where
        tells : (answer : Drained) → AreAnswered answer pairs → (answer ≡ Kept → NoneDue (least_mark opened.collector) left)
            → (stands : StandsFor predicate (record opened { kept = left }) schedule events (given + length pairs)) → GivesPairs answer pairs stands
        tells Kept answered rest stands = (
          answered,
          sym (gives-none predicate (record opened { kept = left }) (λ pair h. All-contains (λ pair. is_within (least_mark opened.collector) (later pair) ≡ false) left pair (rest refl) h) schedule events (given + length pairs) stands),
        )
        tells Refused answered rest stands = answered

    pub releases-due : (schedule : List Actor) (events : List (Event P)) (given : ℕ) (stood : StandsFor predicate now schedule events given) → Releases takes stood unfilled answer (record opened { kept = left }) filled
    releases-due =
        subst (λ (c : Contents P J). (schedule : List Actor) (events : List (Event P)) (given : ℕ) (stood : StandsFor predicate c schedule events given) → Releases takes stood unfilled answer (record opened { kept = left }) filled) is
        releases-here

    pub goes-due : (feed : FeedState) → GoesWith predicate now feed → GoesWith predicate (record opened { kept = left }) feed
    goes-due = goes-after predicate opened now is goes (pairs_in pairs) left due.gives.out

-- the pairs that are kept become fewer
pub fewer : {X : Type 0} (xs ys : List X) (x : X) → IsPermutation xs (x ∷ ys) → length ys < length xs
fewer xs ys x is = omega (arith, length_permutation xs (x ∷ ys) is)
