-- Names are ASCII.
use Rattle.std.proofs.Common.{◌≡◌, ℕ, ◌<◌, true, List, [], ◌∷◌, arith}
use Rattle.std.proofs.lemmas.Bool.{and_parts}
use Rattle.std.proofs.lemmas.Bool.Decides.{nat_tests}
use Rattle.std.proofs.lemmas.Str.{IsUtf8-from_ascii}
use Rattle.std.proofs.lemmas.Str.Ascii.{IsAscii-cons, IsAscii-nil}
use Rattle.std.specs.List.{list_all}
use Rattle.std.specs.Str.{IsAscii, IsUtf8}
use Rattle.hj_lex.specs.Tokens.{is_name, is_word}

word_small : (byte : ℕ) → is_word byte ≡ true → byte < 128
word_small byte h = grind (arith, nat_tests)

words_ascii : (bytes : List ℕ) → list_all is_word bytes ≡ true → IsAscii bytes
words_ascii [] h = IsAscii-nil
words_ascii (byte ∷ bytes) h =
    let p : (is_word byte ≡ true) × (list_all is_word bytes ≡ true) = and_parts _ _ h in
    IsAscii-cons byte bytes (word_small byte p.0) (words_ascii bytes p.1)

pub name_utf8 : (bytes : List ℕ) → is_name bytes ≡ true → IsUtf8 bytes
name_utf8 bytes h = IsUtf8-from_ascii bytes (words_ascii bytes (and_parts _ _ h).1)
