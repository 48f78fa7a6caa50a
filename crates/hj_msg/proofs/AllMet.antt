-- Each match both of whose rows every core reported is met at the place where they cross.
use Rattle.std.proofs.Common.{◌≡◌, ℕ, zero, suc, ◌+◌, ◌-◌, ◌<◌, ◌≤◌, ◌%◌, Bool, true, false, cond, ◌==◌, inl, inr, List, [], ◌∷◌, length, Contains, refl, sym, ◌∙◌, subst, arith, add-one, eq-or-lt_of_le}
use Rattle.std.specs.Prelude.{slice_index_or}
use Rattle.std.specs.List.{flat_map}
use Rattle.std.proofs.lemmas.Bool.Decides.{nat_tests}
use Rattle.std.proofs.lemmas.Nat.{mod_below}
use Rattle.std.proofs.lemmas.List.Elements.{Contains-append_left, Contains-append_right}
use Rattle.hj_base.specs.declared.numbers.Side.{Side}
use Rattle.hj_base.specs.declared.numbers.Side.TheVariants.{Left, Right}
use Rattle.hj_base.specs.Journals.{IsPrefix, puts}
use Rattle.hj_msg.specs.declared.event.Pair.{Pair}
use Rattle.hj_msg.specs.declared.message.Report.{Report}
use Rattle.hj_msg.specs.declared.message.Report.TheVariants.{Handled}
use Rattle.hj_msg.specs.declared.partner.Partner.{Partner}
use Rattle.hj_msg.specs.Messages.{is_R, is_S}
use Rattle.hj_msg.specs.Valid.{IsMatch}
use Rattle.hj_msg.specs.Core.{is_home}
use Rattle.hj_msg.specs.Turns.{handled}
use Rattle.hj_msg.specs.Run.{Run, IsRun}
use Rattle.hj_msg.specs.Met.{AreReportsOf, pairs_of, met}
use Rattle.hj_msg.specs.Meeting.{AllReport, ListsUnder, IsMetAtItsPlace, number_of, meeting_core, meeting_side}
use Rattle.hj_msg.proofs.Members.{Contains-nil, Contains-cons_cases, Contains-map}
use Rattle.hj_msg.proofs.Orders.{before}
use Rattle.hj_msg.proofs.Sides.{opposite, is_row, Reaches}
use Rattle.hj_msg.proofs.Directions.{reached}
use Rattle.hj_msg.proofs.MeetingPlaces.{Lists, met_between, met_at_home, at_row}
use Rattle.hj_msg.proofs.CrossingPlace.{Place, AllHandle, left_first, crossing_place, cross_at}

in_pairs : {P : Type 0} (rs : List (Report P)) (r : Report P) (pair : Pair P) → Contains rs r → Contains (pairs_of r) pair → Contains (flat_map pairs_of rs) pair
in_pairs [] r pair h p = absurd (Contains-nil r h)
in_pairs (x ∷ rs) r pair h p = elim (Contains-cons_cases x r rs h) [
  | inl e ↦ Contains-append_left (pairs_of x) (flat_map pairs_of rs) pair (subst (λ s. Contains (pairs_of s) pair) (sym e) p)
  | inr k ↦ Contains-append_right (pairs_of x) (flat_map pairs_of rs) pair (in_pairs rs r pair k p)
]

in_met : {P : Type 0} (lists : List (List (Report P))) (k : ℕ) (pair : Pair P) → k < length lists → Contains (flat_map pairs_of (slice_index_or lists k [])) pair → Contains (met lists) pair
in_met [] k pair low h = absurd (omega (arith, low))
in_met (rs ∷ lists) zero pair low h = Contains-append_left (flat_map pairs_of rs) (met lists) pair h
in_met (rs ∷ lists) (suc k) pair low h = Contains-append_right (flat_map pairs_of rs) (met lists) pair (in_met lists k pair (omega arith) h)

-- where the cores meet two rows that cross at a place
core_low : (n i j place : ℕ) → 0 < n → place ≤ n → meeting_core n i j place < n
core_low n i j place some within = go (place == 0) refl (place == n) refl
  where
    go : (b : Bool) → (place == 0) ≡ b → (c : Bool) → (place == n) ≡ c → cond b (j % n) (cond c (i % n) place) < n
    go true e c f = mod_below j n some
    go false e true f = mod_below i n some
    go false e false f = grind (arith, nat_tests, e, f, within)

core_first : (n i j : ℕ) → meeting_core n i j 0 ≡ j % n
core_first n i j = refl

core_between : (n i j place : ℕ) → 0 < place → place < n → meeting_core n i j place ≡ place
core_between n i j place some low = go (place == 0) refl (place == n) refl
  where
    go : (b : Bool) → (place == 0) ≡ b → (c : Bool) → (place == n) ≡ c → cond b (j % n) (cond c (i % n) place) ≡ place
    go true e c f = absurd (grind (arith, nat_tests, e, some))
    go false e true f = absurd (grind (arith, nat_tests, f, low))
    go false e false f = refl

core_last : (n i j : ℕ) → 0 < n → meeting_core n i j n ≡ i % n
core_last n i j some = go (n == 0) refl (n == n) refl
  where
    go : (b : Bool) → (n == 0) ≡ b → (c : Bool) → (n == n) ≡ c → cond b (j % n) (cond c (i % n) n) ≡ i % n
    go true e c f = absurd (grind (arith, nat_tests, e, some))
    go false e true f = refl
    go false e false f = absurd (grind (arith, nat_tests, f))

side_left : (n place : ℕ) → place < n → meeting_side n place ≡ Left
side_left n place low = go (place == n) refl
  where
    go : (c : Bool) → (place == n) ≡ c → cond c Right Left ≡ Left
    go true f = absurd (grind (arith, nat_tests, f, low))
    go false f = refl

side_right : (n : ℕ) → meeting_side n n ≡ Right
side_right n = go (n == n) refl
  where
    go : (c : Bool) → (n == n) ≡ c → cond c Right Left ≡ Right
    go true f = refl
    go false f = absurd (grind (arith, nat_tests, f))

module _ {P : Type 0} (run : Run P) (is : IsRun run) (lists : List (List (Report P))) (of_run : AreReportsOf run lists) (pair : Pair P) (match : IsMatch run.matches run.events pair) where
  reported : (k : ℕ) → k < run.cores → (r : Report P) → Contains (slice_index_or lists k []) r → Contains (puts (run.queue k).sender) r
  reported k low r h = let prefix : IsPrefix (slice_index_or lists k []) (puts (run.queue k).sender) = of_run.prefixes k low in subst (λ rs. Contains rs r) (sym prefix.is) (Contains-append_left (slice_index_or lists k []) prefix.rest r h)

  among_pairs : (side : Side) (row : P) (partners : List (Partner P)) → Lists run is side pair row partners → Contains (pairs_of (Handled (number_of side pair) side row partners)) pair
  among_pairs Left row partners found =
      subst (λ p. Contains (pairs_of (Handled pair.left_no Left row partners)) p) (λ i. record { left_no = pair.left_no; right_no = pair.right_no; left = found.own i; right = pair.right })
      (Contains-map (λ (partner : Partner P). record { left_no = pair.left_no; right_no = partner.no; left = row; right = partner.row }) partners (record { no = pair.right_no; row = pair.right }) found.other)
  among_pairs Right row partners found =
      subst (λ p. Contains (pairs_of (Handled pair.right_no Right row partners)) p) (λ i. record { left_no = pair.left_no; right_no = pair.right_no; left = pair.left; right = found.own i })
      (Contains-map (λ (partner : Partner P). record { left_no = partner.no; right_no = pair.right_no; left = partner.row; right = row }) partners (record { no = pair.left_no; row = pair.left }) found.other)

  some : 0 < run.cores
  some = omega (arith, is.some_core)

  home : (at : ℕ) → is_home (at % run.cores) run.cores at ≡ true
  home at = grind (arith, nat_tests)

  module _ (all : AllReport run lists pair) where
    has_row : (side : Side) → AllHandle run is pair.left_no.0 pair.right_no.0 (is_row side (number_of side pair).0)
    has_row side k low =
        let told = all side k low in
        (at_row run is side k low (number_of side pair) told.row told.partners (reported k low (Handled (number_of side pair) side told.row told.partners) told.is)).has

    -- the three cases
    abbrev Listed : ℕ → Type 0
    Listed place = ListsUnder (meeting_side run.cores place) pair (slice_index_or lists (meeting_core run.cores pair.left_no.0 pair.right_no.0 place) [])

    listed_by : (side : Side) (k place : ℕ) → meeting_side run.cores place ≡ side → meeting_core run.cores pair.left_no.0 pair.right_no.0 place ≡ k → ListsUnder side pair (slice_index_or lists k []) → Listed place
    listed_by side k place s c h =
        subst (λ a. ListsUnder a pair (slice_index_or lists (meeting_core run.cores pair.left_no.0 pair.right_no.0 place) [])) (sym s) (subst (λ a. ListsUnder side pair (slice_index_or lists a [])) (sym c) h)

    -- all cores handled the row of the opposite side first
    at_home : (side : Side) (first : ℕ) → Reaches run.cores side 0 first → before (is_row (opposite side) (number_of (opposite side) pair).0) (is_row side (number_of side pair).0) (handled (is.turns first)) ≡ true
        → ListsUnder side pair (slice_index_or lists ((number_of (opposite side) pair).0 % run.cores) [])
    at_home side first at_start crossed =
        let k : ℕ = (number_of (opposite side) pair).0 % run.cores in
        let low : k < run.cores = mod_below (number_of (opposite side) pair).0 run.cores some in
        let there = reached run is side k low in
        let told = all side k low in
        record {
          row = told.row;
          partners = told.partners;
          is = told.is;
          lists = among_pairs side told.row told.partners
              (met_at_home run is side there.0 k first there.1 at_start pair match (home (number_of (opposite side) pair).0) told.row told.partners (reported k low (Handled (number_of side pair) side told.row told.partners) told.is) crossed);
        }

    listed_first : before (is_S pair.right_no.0) (is_R pair.left_no.0) (handled (is.turns 0)) ≡ true → Listed 0
    listed_first crossed =
        listed_by Left (pair.right_no.0 % run.cores) 0 (side_left run.cores 0 some) (core_first run.cores pair.left_no.0 pair.right_no.0) (at_home Left 0 (refl, some) crossed)

    listed_between : (k : ℕ) → suc k < run.cores → before (is_S pair.right_no.0) (is_R pair.left_no.0) (handled (is.turns k)) ≡ false
        → before (is_S pair.right_no.0) (is_R pair.left_no.0) (handled (is.turns (suc k))) ≡ true → Listed (suc k)
    listed_between k low not_yet crossed =
        let next : k + 1 < run.cores = omega (arith, low) in
        let told = all Left (k + 1) next in
        listed_by Left (k + 1) (suc k) (side_left run.cores (suc k) low) (core_between run.cores pair.left_no.0 pair.right_no.0 (suc k) (omega arith) low ∙ sym (add-one k)) (record {
          row = told.row;
          partners = told.partners;
          is = told.is;
          lists = among_pairs Left told.row told.partners (met_between run is k next pair match told.row told.partners (reported (k + 1) next (Handled pair.left_no Left told.row told.partners) told.is) not_yet
              (subst (λ a. before (is_S pair.right_no.0) (is_R pair.left_no.0) (handled (is.turns a)) ≡ true) (sym (add-one k)) crossed));
        })

    listed_last : before (is_R pair.left_no.0) (is_S pair.right_no.0) (handled (is.turns (run.cores - 1))) ≡ true → Listed run.cores
    listed_last first =
        listed_by Right (pair.left_no.0 % run.cores) run.cores (side_right run.cores) (core_last run.cores pair.left_no.0 pair.right_no.0 some) (at_home Right (run.cores - 1) (omega (arith, some), omega (arith, some)) first)

    listed : (place : Place run is pair.left_no.0 pair.right_no.0) → Listed place.at
    listed place = elim (eq-or-lt_of_le place.within) [
      | inl same ↦ subst Listed (sym same) (listed_last (left_first run is pair.left_no.0 pair.right_no.0 (has_row Right) (run.cores - 1) (omega (arith, some)) (place.below (run.cores - 1) (omega (arith, same, some)))))
      | inr less ↦ go place.at refl less
    ]
      where
        go : (at : ℕ) → place.at ≡ at → place.at < run.cores → Listed place.at
        go zero e low = subst Listed (sym e) (listed_first (place.from 0 (omega (arith, e)) some))
        go (suc k) e low = subst Listed (sym e) (listed_between k (omega (arith, e, low)) (place.below k (omega (arith, e))) (place.from (suc k) (omega (arith, e)) (omega (arith, e, low))))

    -- Each match both of whose rows every core reported is met at its place.
    pub met_at_its_place : IsMetAtItsPlace is lists pair
    met_at_its_place =
        let place = crossing_place run is pair.left_no.0 pair.right_no.0 (has_row Left) in
        record { place = place.at; crossing = cross_at run is pair.left_no.0 pair.right_no.0 (has_row Left) (has_row Right) place; listed = listed place }

    pub met_all : Contains (met lists) pair
    met_all =
        let there = met_at_its_place in
        let k : ℕ = meeting_core run.cores pair.left_no.0 pair.right_no.0 there.place in
        let low : k < run.cores = core_low run.cores pair.left_no.0 pair.right_no.0 there.place some there.crossing.within in
        let side : Side = meeting_side run.cores there.place in
        in_met lists k pair (omega (arith, low, of_run.one_each))
        (in_pairs (slice_index_or lists k []) (Handled (number_of side pair) side there.listed.row there.listed.partners) pair there.listed.is there.listed.lists)
