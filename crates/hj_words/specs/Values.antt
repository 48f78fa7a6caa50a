-- The values that the words behind a command give, each under the name of what it is the value of.
use Rattle.std.specs.Prelude.{ℕ, Bool, true, false, not, ◌&&◌, ◌==◌, List, [], ◌∷◌, drop, codes, find, if◌then◌else◌, Option, Some, None, option_map}
use Rattle.std.specs.List.{list_any, before_first, after_first}
use Rattle.std.specs.Str.{bytes_eq}

abbrev pub Text : Type 0
Text = List ℕ

-- a value, under its name
pub record NamedValue : Type 0 where
  pub name : Text
  pub text : Text

-- What a word is, where it stands before the first `--`.
pub data Kind : Type 0 where
  -- `--`
  dashes : Kind
  -- `--name=text`, or `--name`, whose text is the next word
  option : (name : Text) → (text : Option Text) → Kind
  -- any other word that begins with `-`, but for `-` itself
  flag : Kind
  plain : Kind

abbrev pub begins_with_dash : Text → Bool
begins_with_dash [] = false
begins_with_dash (byte ∷ rest) = byte == 45

abbrev pub begins_with_dashes : Text → Bool
begins_with_dashes word = begins_with_dash word && begins_with_dash (drop 1 word)

abbrev pub is_equals : ℕ → Bool
is_equals byte = byte == 61

-- `name=text`, or a name alone
abbrev pub option_of : Text → Kind
option_of word = option (before_first is_equals word)
    (if list_any is_equals word then Some (after_first is_equals word) else None)

abbrev pub kind_of : Text → Kind
kind_of word =
    if bytes_eq word (codes "--") then dashes
    else if begins_with_dashes word then option_of (drop 2 word)
    else if begins_with_dash word && not (bytes_eq word (codes "-")) then flag
    else plain

abbrev pub is_among : Text → List Text → Bool
is_among name names = list_any (λ n. bytes_eq n name) names

abbrev pub under : Text → Text → Option (List NamedValue) → Option (List NamedValue)
under name text = option_map (λ values. record { name = name; text = text } ∷ values)

-- The values of positional words, which go to these names in turn; none where the names run out.
abbrev pub in_turn : List Text → List Text → Option (List NamedValue)
in_turn names [] = Some []
in_turn [] (word ∷ words) = None
in_turn (name ∷ names) (word ∷ words) = under name word (in_turn names words)

-- What one word does to those behind it. `next` gives the values of the words behind it, for the
-- positional names that are left and the option that waits for its text. That text begins with no
-- `-`, unless it is `-` alone; each option has a number, so no order is lost by this.
abbrev pub word_values : List Text → Kind → Text → List Text → List Text → Option Text
    → (List Text → Option Text → Option (List NamedValue)) → Option (List NamedValue)
word_values options plain word words names (Some name) next = under name word (next names None)
word_values options kind word words names (Some name) next = None
word_values options dashes word words names None next = in_turn names words
word_values options (option name (Some text)) word words names None next =
    if is_among name options then under name text (next names None) else None
word_values options (option name None) word words names None next =
    if is_among name options then next names (Some name) else None
word_values options flag word words names None next = None
word_values options plain word words [] None next = None
word_values options plain word words (name ∷ names) None next = under name word (next names None)

-- The values that the words give, where these are the options, the names of the positional words that
-- are left, and the option, if any, whose text is the first word; none where the words are refused.
unfoldable pub values_of : List Text → List Text → List Text → Option Text → Option (List NamedValue)
values_of options [] names None = Some []
values_of options [] names (Some name) = None
values_of options (word ∷ words) names waiting =
    word_values options (kind_of word) word words names waiting (values_of options words)

abbrev pub has_name : Text → List NamedValue → Bool
has_name name values = list_any (λ v. bytes_eq v.name name) values

-- no name has two values
abbrev pub are_once : List NamedValue → Bool
are_once [] = true
are_once (v ∷ values) = not (has_name v.name values) && are_once values

abbrev pub if_once : List NamedValue → Option (List NamedValue)
if_once values = if are_once values then Some values else None

abbrev pub once : Option (List NamedValue) → Option (List NamedValue)
once None = None
once (Some values) = if_once values

-- The values that the words give a command with these options and these positional names, each name
-- at most once; none where the words are refused.
abbrev pub given : List Text → List Text → List Text → Option (List NamedValue)
given options names words = once (values_of options words names None)

-- the text under a name
abbrev pub text_of : Text → List NamedValue → Option Text
text_of name values = option_map (λ v. v.text) (find (λ v. bytes_eq v.name name) values)
