-- Names that have one value each, read from left to right.
use Rattle.std.proofs.Common.{◌≡◌, ◌∙◌, Bool, true, false, not, List, [], ◌∷◌, ◌++◌, ◌&&◌, ◌||◌, refl, sym, ap, ap₂}
use Rattle.std.specs.List.{list_all}
use Rattle.std.specs.Str.{bytes_eq}
use Rattle.std.proofs.lemmas.Slice.Eq.{bytes_eq-Decides}
use Rattle.hj_words.specs.Values.{Text, NamedValue, are_once, has_name}

-- no name has two values, with the values before counted
abbrev pub once_after : List NamedValue → List NamedValue → Bool
once_after before [] = true
once_after before (v ∷ values) = not (has_name v.name before) && once_after (before ++ v ∷ []) values

-- no value has a name of those before
abbrev are_new : List NamedValue → List NamedValue → Bool
are_new before values = list_all (λ v. not (has_name v.name before)) values

has_more : (name : Text) (before : List NamedValue) (v : NamedValue) → has_name name (before ++ v ∷ []) ≡ (has_name name before || bytes_eq v.name name)
has_more name [] v = or_nothing (bytes_eq v.name name)
  where
    or_nothing : (b : Bool) → (b || false) ≡ b
    or_nothing true = refl
    or_nothing false = refl
has_more name (x ∷ before) v = ap (λ b. bytes_eq x.name name || b) (has_more name before v) ∙ or_assoc (bytes_eq x.name name) (has_name name before) (bytes_eq v.name name)
  where
    or_assoc : (a b c : Bool) → (a || (b || c)) ≡ ((a || b) || c)
    or_assoc true b c = refl
    or_assoc false b c = refl

same_either_way : (a b : Text) → bytes_eq a b ≡ bytes_eq b a
same_either_way a b = go (bytes_eq a b) (bytes_eq b a) refl refl
  where
    go : (x y : Bool) → bytes_eq a b ≡ x → bytes_eq b a ≡ y → x ≡ y
    go true true p q = refl
    go false false p q = refl
    go true false p q = sym ((bytes_eq-Decides b a).1 (sym ((bytes_eq-Decides a b).0 p))) ∙ q
    go false true p q = sym p ∙ (bytes_eq-Decides a b).1 (sym ((bytes_eq-Decides b a).0 q))

new_more : (before : List NamedValue) (v : NamedValue) (values : List NamedValue) → are_new (before ++ v ∷ []) values ≡ (are_new before values && not (has_name v.name values))
new_more before v [] = refl
new_more before v (u ∷ values) =
    ap₂ (λ a b. not a && b) (has_more u.name before v ∙ ap (λ b. has_name u.name before || b) (same_either_way v.name u.name)) (new_more before v values)
    ∙ regroup (has_name u.name before) (bytes_eq u.name v.name) (are_new before values) (has_name v.name values)
  where
    regroup : (a b c d : Bool) → (not (a || b) && (c && not d)) ≡ ((not a && c) && not (b || d))
    regroup true b c d = refl
    regroup false true true d = refl
    regroup false true false d = refl
    regroup false false true d = refl
    regroup false false false d = refl

once_apart : (before values : List NamedValue) → once_after before values ≡ (are_new before values && are_once values)
once_apart before [] = refl
once_apart before (v ∷ values) =
    ap (λ b. not (has_name v.name before) && b) (once_apart (before ++ v ∷ []) values ∙ ap (λ b. b && are_once values) (new_more before v values))
    ∙ regroup (has_name v.name before) (are_new before values) (has_name v.name values) (are_once values)
  where
    regroup : (a b c d : Bool) → (not a && ((b && not c) && d)) ≡ ((not a && b) && (not c && d))
    regroup true b c d = refl
    regroup false true c d = refl
    regroup false false c d = refl

pub once_from_start : (values : List NamedValue) → once_after [] values ≡ are_once values
once_from_start values = once_apart [] values ∙ ap (λ b. b && are_once values) (all_new values)
  where
    all_new : (xs : List NamedValue) → are_new [] xs ≡ true
    all_new [] = refl
    all_new (x ∷ xs) = all_new xs
