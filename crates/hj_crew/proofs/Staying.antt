-- Workers stay those of their cores, on their links.
use Rattle.std.proofs.Common.{◌≡◌, ℕ, zero, suc, ◌<◌, List, [], ◌∷◌, ◌++◌, length, get_or, set, take, drop, refl, ap, sym, subst, ◌∙◌, arith, append-nil}
use Rattle.std.specs.List.{AllZip}
use Rattle.std.proofs.lemmas.List.{drop_all, take_all}
use Rattle.std.proofs.lemmas.Slice.Zip.{AllZip-long}
use Rattle.hj_worker.specs.Seen.{WorkerSeen}
use Rattle.hj_worker.specs.Turning.{StaysItself}
use Rattle.hj_crew.specs.declared.team.Team.{Team}
use Rattle.hj_crew.specs.Teams.{TeamStays}

-- ---- any relation of two things that is kept

pub related-refl : {X : Type 0} (R : X → X → Type 0) → ((x : X) → R x x) → (xs : List X) → AllZip R xs xs
related-refl R same [] = tt
related-refl R same (x ∷ xs) = (same x, related-refl R same xs)

pub related-trans : {X : Type 0} (R : X → X → Type 0) → ((x y z : X) → R x y → R y z → R x z) → (xs ys zs : List X) → AllZip R xs ys → AllZip R ys zs → AllZip R xs zs
related-trans R after [] [] [] first second = tt
related-trans R after [] [] (z ∷ zs) first second = absurd second
related-trans R after [] (y ∷ ys) zs first second = absurd first
related-trans R after (x ∷ xs) [] zs first second = absurd first
related-trans R after (x ∷ xs) (y ∷ ys) [] first second = absurd second
related-trans R after (x ∷ xs) (y ∷ ys) (z ∷ zs) first second = (after x y z first.0 second.0, related-trans R after xs ys zs first.1 second.1)

-- the one at a place goes on
pub related-goes_on : {X : Type 0} (R : X → X → Type 0) → ((x y z : X) → R x y → R y z → R x z) → (xs ys : List X) (k : ℕ) (z : X) → AllZip R xs ys → ((d : X) → k < length ys → R (get_or ys k d) z) → AllZip R xs (set ys k z)
related-goes_on R after [] [] k z related goes = tt
related-goes_on R after [] (y ∷ ys) k z related goes = absurd related
related-goes_on R after (x ∷ xs) [] k z related goes = absurd related
related-goes_on R after (x ∷ xs) (y ∷ ys) zero z related goes = (after x y z related.0 (goes y (omega arith)), related.1)
related-goes_on R after (x ∷ xs) (y ∷ ys) (suc k) z related goes = (related.0, related-goes_on R after xs ys k z related.1 (λ d low. goes d (omega (arith, low))))

-- ---- a worker

module _ {P J : Type 0} where
  pub stays : (worker : WorkerSeen P J) → StaysItself worker worker
  stays worker = record { join = refl; place = refl; cores = refl; links = record { left = (refl, refl); right = (refl, refl); reports = (refl, refl) } }

  pub stays-on : (first second third : WorkerSeen P J) → StaysItself first second → StaysItself second third → StaysItself first third
  stays-on first second third one two = record {
    join = two.join ∙ one.join;
    place = two.place ∙ one.place;
    cores = two.cores ∙ one.cores;
    links = record {
      left = (two.links.left.0 ∙ one.links.left.0, two.links.left.1 ∙ one.links.left.1);
      right = (two.links.right.0 ∙ one.links.right.0, two.links.right.1 ∙ one.links.right.1);
      reports = (two.links.reports.0 ∙ one.links.reports.0, two.links.reports.1 ∙ one.links.reports.1);
    };
  }

-- a list that a slice of it was written back to
pub written_back : {X : Type 0} (xs ys : List X) (n : ℕ) → length ys ≡ length xs → n ≡ length xs → take n (ys ++ drop (length ys) xs) ≡ ys
written_back xs ys n as_many is = ap (λ l. take n (ys ++ l)) (drop_all (length ys) xs (omega (arith, as_many))) ∙ ap (take n) (append-nil ys) ∙ take_all n ys (omega (arith, as_many, is))

-- ---- a team

module _ {P J S : Type 0} where
  pub team-stays : (team : Team P J S) → TeamStays team team
  team-stays team = related-refl StaysItself stays team.workers.items

  pub team-stays-on : (first second third : Team P J S) → TeamStays first second → TeamStays second third → TeamStays first third
  team-stays-on first second third one two = related-trans StaysItself stays-on first.workers.items second.workers.items third.workers.items one two

  -- teams that were lent as a slice, and written back
  pub lent-stay : (teams lent turned : List (Team P J S)) (n : ℕ) → lent ≡ teams → AllZip TeamStays lent turned → n ≡ length teams → AllZip TeamStays teams (take n (turned ++ drop (length turned) teams))
  lent-stay teams lent turned n is same long =
      let stayed : AllZip TeamStays teams turned = subst (λ (l : List (Team P J S)). AllZip TeamStays l turned) is same in
      subst (AllZip TeamStays teams) (sym (written_back teams turned n (AllZip-long TeamStays teams turned stayed) long)) stayed
