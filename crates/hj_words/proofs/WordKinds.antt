-- The class of each word, in the grammar's words and in `clap`'s.
use Rattle.std.proofs.Common.{◌≡◌, ◌==◌, ℕ, Bool, true, false, [], ◌∷◌, Option, Some, None, refl, sym, subst, eqb-true, codes}
use Rattle.std.specs.Str.{bytes_eq}
use Rattle.clap.specs.Lexer.{long_of, short_of}
use Rattle.hj_words.specs.Values.{Text, kind_of, dashes, option, flag, plain}

pub data ClassOf (word : Text) : Type 0 where
  is_dashes : bytes_eq word (codes "--") ≡ true → kind_of word ≡ dashes → ClassOf word
  is_option : (name : Text) → (text : Option Text) → bytes_eq word (codes "--") ≡ false → long_of word ≡ Some (name, text) → kind_of word ≡ option name text → ClassOf word
  is_flag : (x : ℕ) → (rest : Text) → bytes_eq word (codes "--") ≡ false → long_of word ≡ None → short_of word ≡ Some (x ∷ rest) → word ≡ 45 ∷ x ∷ rest → kind_of word ≡ flag → ClassOf word
  is_plain : bytes_eq word (codes "--") ≡ false → long_of word ≡ None → short_of word ≡ None → kind_of word ≡ plain → ClassOf word

-- a word that begins with no `-`
no_dash : (x : ℕ) (rest : Text) → (x == 45) ≡ false → ClassOf (x ∷ rest)
no_dash x rest e = is_plain (rw e refl) (rw e refl) (rw e refl) (rw e refl)

-- `-`, and what stands behind it
behind_dash : (rest : Text) → ClassOf (45 ∷ rest)
behind_dash [] = is_plain refl refl refl refl
behind_dash (y ∷ rest) = go (y == 45) refl
  where
    long : (tail : Text) → ClassOf (45 ∷ 45 ∷ tail)
    long [] = is_dashes refl refl
    long (z ∷ tail) = is_option _ _ refl refl refl

    go : (b : Bool) → (y == 45) ≡ b → ClassOf (45 ∷ y ∷ rest)
    go true e = subst (λ (n : ℕ). ClassOf (45 ∷ n ∷ rest)) (sym (eqb-true y 45 e)) (long rest)
    go false e = is_flag y rest (rw e refl) (rw e refl) (rw e refl) refl (rw e refl)

pub class_of : (word : Text) → ClassOf word
class_of [] = is_plain refl refl refl refl
class_of (x ∷ rest) = go (x == 45) refl
  where
    go : (b : Bool) → (x == 45) ≡ b → ClassOf (x ∷ rest)
    go true e = subst (λ (n : ℕ). ClassOf (n ∷ rest)) (sym (eqb-true x 45 e)) (behind_dash rest)
    go false e = no_dash x rest e
