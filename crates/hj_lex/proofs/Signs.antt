-- The sign that begins the bytes: the longest.
use Rattle.std.proofs.Common.{◌≡◌, ℕ, ◌≤◌, Bool, true, false, cond, List, [], ◌∷◌, ◌++◌, length, take, drop, refl, sym, ap, ◌∙◌, subst, arith, lit≤, lit<, nat_eq, Option, None, Some, MatchOption, ⊎_elim}
use Rattle.std.proofs.lemmas.Bool.{false≢true, or_cases, or_left, or_right, false_from_ne_true}
use Rattle.std.proofs.lemmas.List.{take-append-drop, take_at}
use Rattle.std.proofs.lemmas.Slice.Eq.{bytes_eq-Decides}
use Rattle.std.specs.List.{list_any, starts_with, AllByRecursion}
use Rattle.std.specs.Str.{bytes_eq}
use Rattle.hj_lex.specs.Fronts.{BeginsToken, kind_of}
use Rattle.hj_lex.specs.Tokens.{IsToken, begins, begins_sign, is_blank, is_sign, signs}
use Rattle.hj_lex.specs.declared.token.TokenKind.TheVariants as kind

-- what holds of each listed text holds of one that is among them
among : (P : List ℕ → Type 0) (bytes : List ℕ) (texts : List (List ℕ)) → AllByRecursion P texts → list_any (bytes_eq bytes) texts ≡ true → P bytes
among P bytes [] all h = absurd (false≢true h)
among P bytes (text ∷ texts) all h =
    ⊎_elim (λ e. subst P (sym ((bytes_eq-Decides bytes text).0 e)) all.0) (λ r. among P bytes texts all.1 r) (or_cases (bytes_eq bytes text) (list_any (bytes_eq bytes) texts) h)

-- one of the texts begins the bytes
begun : (bytes : List ℕ) (texts : List (List ℕ)) → list_any (starts_with nat_eq bytes) texts ≡ true → (front : List ℕ) × (list_any (bytes_eq front) texts ≡ true) × ((more : List ℕ) × (bytes ≡ front ++ more))
begun bytes [] h = absurd (false≢true h)
begun bytes (text ∷ texts) h =
    ⊎_elim (λ e.
    let same : text ≡ take (length text) bytes = (bytes_eq-Decides text (take (length text) bytes)).0 e in
    (text, or_left (bytes_eq text text) (list_any (bytes_eq text) texts) ((bytes_eq-Decides text text).1 refl), (drop (length text) bytes, sym (take-append-drop (length text) bytes) ∙ ap (λ front. front ++ drop (length text) bytes) (sym same))))
    (λ r. let p = begun bytes texts r in (p.0, or_right (bytes_eq p.0 text) (list_any (bytes_eq p.0) texts) p.1, p.2))
    (or_cases (starts_with nat_eq bytes text) (list_any (starts_with nat_eq bytes) texts) h)

begins_among : (front more : List ℕ) (texts : List (List ℕ)) → list_any (bytes_eq front) texts ≡ true → list_any (starts_with nat_eq (front ++ more)) texts ≡ true
begins_among front more [] h = absurd (false≢true h)
begins_among front more (text ∷ texts) h =
    ⊎_elim (λ e.
    let same : front ≡ text = (bytes_eq-Decides front text).0 e in
    let taken : text ≡ take (length text) (front ++ more) = sym (subst (λ t. take (length t) (front ++ more) ≡ t) same (take_at front more (length front) refl)) in
    or_left (starts_with nat_eq (front ++ more) text) (list_any (starts_with nat_eq (front ++ more)) texts) ((bytes_eq-Decides text (take (length text) (front ++ more))).1 taken))
    (λ r. or_right (starts_with nat_eq (front ++ more) text) (list_any (starts_with nat_eq (front ++ more)) texts) (begins_among front more texts r))
    (or_cases (bytes_eq front text) (list_any (bytes_eq front) texts) h)

-- a sign has one byte or two
abbrev IsShort : List ℕ → Type 0
IsShort bytes = (1 ≤ length bytes) × (length bytes ≤ 2)

pub sign_short : (bytes : List ℕ) → is_sign bytes ≡ true → IsShort bytes
sign_short bytes h =
    among IsShort bytes signs
    ((lit≤ tt, lit≤ tt), ((lit≤ tt, lit≤ tt), ((lit≤ tt, lit≤ tt), ((lit≤ tt, lit≤ tt), ((lit≤ tt, lit≤ tt), ((lit≤ tt, lit≤ tt), ((lit≤ tt, lit≤ tt), ((lit≤ tt, lit≤ tt), ((lit≤ tt, lit≤ tt), ((lit≤ tt, lit≤ tt), ((lit≤ tt, lit≤ tt), ((lit≤ tt, lit≤ tt), tt)))))))))))) h

-- its first byte begins a sign, and isn't blank
abbrev pub BeginsSignOnly : List ℕ → Type 0
BeginsSignOnly [] = ⊥
BeginsSignOnly (x ∷ xs) = (kind_of x ≡ kind.Sign) × (is_blank x ≡ false)

pub sign_first : (bytes : List ℕ) → is_sign bytes ≡ true → BeginsSignOnly bytes
sign_first bytes h =
    among BeginsSignOnly bytes signs
    ((refl, refl), ((refl, refl), ((refl, refl), ((refl, refl), ((refl, refl), ((refl, refl), ((refl, refl), ((refl, refl), ((refl, refl), ((refl, refl), ((refl, refl), ((refl, refl), tt)))))))))))) h

-- how long the sign is that begins the bytes
abbrev pub sign_len : List ℕ → Option ℕ
sign_len [] = None
sign_len (x ∷ []) = cond (is_sign (x ∷ [])) (Some 1) None
sign_len (x ∷ y ∷ ys) = cond (is_sign (x ∷ y ∷ [])) (Some 2) (cond (is_sign (x ∷ [])) (Some 1) None)

three_no_sign : (x y z : ℕ) (zs : List ℕ) → is_sign (x ∷ y ∷ z ∷ zs) ≡ true → ⊥
three_no_sign x y z zs h = let s = sign_short (x ∷ y ∷ z ∷ zs) h in omega (arith, s.1)

-- the sign of a token is the longest
pub sign_len-token : (bytes rest : List ℕ) → IsToken kind.Sign bytes rest → sign_len (bytes ++ rest) ≡ Some (length bytes)
sign_len-token [] rest t = absurd (sign_first [] t.0)
sign_len-token (x ∷ []) [] t = ap (λ b. cond b (Some 1) None) t.0
sign_len-token (x ∷ []) (y ∷ ys) t =
    ap (λ b. cond b (Some 2) (cond (is_sign (x ∷ [])) (Some 1) None)) t.1 ∙ ap (λ b. cond b (Some 1) None) t.0
sign_len-token (x ∷ y ∷ []) rest t = ap (λ b. cond b (Some 2) (cond (is_sign (x ∷ [])) (Some 1) None)) t.0
sign_len-token (x ∷ y ∷ z ∷ zs) rest t = absurd (three_no_sign x y z zs t.0)

no_sign : (front more bytes : List ℕ) → bytes ≡ front ++ more → begins_sign bytes ≡ false → is_sign front ≡ false
no_sign front more bytes e h =
    false_from_ne_true (is_sign front) (λ s. false≢true (sym h ∙ ap begins_sign e ∙ begins_among front more signs s))

-- and where none begins, there is none
pub sign_len-none : (bytes : List ℕ) → begins_sign bytes ≡ false → sign_len bytes ≡ None
sign_len-none [] h = refl
sign_len-none (x ∷ []) h = ap (λ b. cond b (Some 1) None) (no_sign (x ∷ []) [] (x ∷ []) refl h)
sign_len-none (x ∷ y ∷ ys) h =
    ap (λ b. cond b (Some 2) (cond (is_sign (x ∷ [])) (Some 1) None)) (no_sign (x ∷ y ∷ []) ys (x ∷ y ∷ ys) refl h)
    ∙ ap (λ b. cond b (Some 1) None) (no_sign (x ∷ []) (y ∷ ys) (x ∷ y ∷ ys) refl h)

-- no sign begins bytes of which neither the first nor the first two are one
none_begins : (bytes : List ℕ) → ((front more : List ℕ) → bytes ≡ front ++ more → is_sign front ≡ true → ⊥) → begins_sign bytes ≡ false
none_begins bytes h =
    false_from_ne_true (begins_sign bytes) (λ b. let p = begun bytes signs b in h p.0 p.2.0 p.2.1 p.1)

none_one : (x : ℕ) (front more : List ℕ) → is_sign (x ∷ []) ≡ false → x ∷ [] ≡ front ++ more → is_sign front ≡ true → ⊥
none_one x [] more h e s = sign_first [] s
none_one x (y ∷ []) more h e s =
    let same : x ≡ y = cc in
    false≢true (sym h ∙ ap (λ b. is_sign (b ∷ [])) same ∙ s)
none_one x (y ∷ z ∷ zs) more h e s = let bad : [] ≡ z ∷ (zs ++ more) = cc in cc

none_two : (x y : ℕ) (ys front more : List ℕ) → is_sign (x ∷ []) ≡ false → is_sign (x ∷ y ∷ []) ≡ false → x ∷ y ∷ ys ≡ front ++ more → is_sign front ≡ true → ⊥
none_two x y ys [] more h k e s = sign_first [] s
none_two x y ys (a ∷ []) more h k e s =
    let same : x ≡ a = cc in
    false≢true (sym h ∙ ap (λ b. is_sign (b ∷ [])) same ∙ s)
none_two x y ys (a ∷ b ∷ []) more h k e s =
    let first : x ≡ a = cc in
    let second : y ≡ b = cc in
    false≢true (sym k ∙ ap (λ c. is_sign (c ∷ y ∷ [])) first ∙ ap (λ c. is_sign (a ∷ c ∷ [])) second ∙ s)
none_two x y ys (a ∷ b ∷ c ∷ cs) more h k e s = three_no_sign a b c cs s

longest_two : (x y : ℕ) (rest : List ℕ) → begins (λ next. is_sign (x ∷ y ∷ next ∷ [])) rest ≡ false
longest_two x y [] = refl
longest_two x y (z ∷ zs) = false_from_ne_true (is_sign (x ∷ y ∷ z ∷ [])) (three_no_sign x y z [])

front_one : (x : ℕ) (b : Bool) → is_sign (x ∷ []) ≡ b → MatchOption (cond b (Some 1) None) (begins_sign (x ∷ []) ≡ false) (BeginsToken kind.Sign (x ∷ []))
front_one x true e = record { some = lit< tt; within = omega arith; form = (e, refl) }
front_one x false e = none_begins (x ∷ []) (λ front more. none_one x front more e)

front_two : (x y : ℕ) (ys : List ℕ) (one two : Bool) → is_sign (x ∷ []) ≡ one → is_sign (x ∷ y ∷ []) ≡ two → MatchOption (cond two (Some 2) (cond one (Some 1) None)) (begins_sign (x ∷ y ∷ ys) ≡ false) (BeginsToken kind.Sign (x ∷ y ∷ ys))
front_two x y ys one true e f = record { some = lit< tt; within = omega arith; form = (f, longest_two x y ys) }
front_two x y ys true false e f = record { some = lit< tt; within = omega arith; form = (e, f) }
front_two x y ys false false e f = none_begins (x ∷ y ∷ ys) (λ front more. none_two x y ys front more e f)

pub sign_front : (bytes : List ℕ) → MatchOption (sign_len bytes) (begins_sign bytes ≡ false) (BeginsToken kind.Sign bytes)
sign_front [] = refl
sign_front (x ∷ []) = front_one x (is_sign (x ∷ [])) refl
sign_front (x ∷ y ∷ ys) = front_two x y ys (is_sign (x ∷ [])) (is_sign (x ∷ y ∷ [])) refl refl
