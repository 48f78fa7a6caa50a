-- What one word does in `clap`'s walk, by its class.
use Rattle.std.proofs.Common.{◌≡◌, ◌∙◌, ℕ, Bool, cond, true, false, not, List, [], ◌∷◌, ◌++◌, map, length, Option, Some, None, is_some, ◌&&◌, ◌||◌, refl, sym, ap, ap₂, subst, append-nil, true≢false, codes}
use Rattle.std.specs.Prelude.{slice_get}
use Rattle.std.specs.Char.{encode_utf8}
use Rattle.std.specs.List.{fold, list_all}
use Rattle.std.specs.Str.{IsUtf8, bytes_eq, chars, chars_after, is_utf8, continuation_len, lead_bits}
use Rattle.std.proofs.lemmas.Str.{is_utf8-from_IsUtf8}
use Rattle.std.proofs.lemmas.Slice.Eq.{bytes_eq-Decides}
use Rattle.clap.specs.Lexer.{long_of, short_of}
use Rattle.clap.specs.Kinds.{Kinds, or_else}
use Rattle.clap.specs.Walk.{Held, Row, Rule, Waiting, arg_by_long, arg_by_short, at_row, default_rows, has_row, idle, is_empty, more_values, option, long_word, positional, trailing, plain_word, reading_by, subcommand_met, used, with_default, without, word_met}
use Rattle.clap.specs.Faults.{default_fault, defaults_fault, flags_fault, long_fault, bundle_step_fault, word_fault, use_fault}
use Rattle.clap.specs.declared.parser.matches.ValueSource.TheVariants.{CommandLine}
use Rattle.clap.proofs.SimpleLemmas.{is_nil}
use Rattle.clap.proofs.WalkLemmas.{both}
use Rattle.hj_words.specs.Values.{Text, NamedValue, has_name}
use Rattle.hj_words.proofs.Commands.{row_of, single, top_of}

or_end : (b : Bool) → (b || true) ≡ true
or_end true = refl
or_end false = refl

-- ---- rows

abbrev pub rows_of : List NamedValue → List Row
rows_of = map row_of

pub row_there : (name : Text) (values : List NamedValue) → has_row name (rows_of values) ≡ has_name name values
row_there name [] = refl
row_there name (v ∷ values) = ap (λ b. bytes_eq v.name name || b) (row_there name values)

rows_end : (values : List NamedValue) (v : NamedValue) → rows_of values ++ row_of v ∷ [] ≡ rows_of (values ++ v ∷ [])
rows_end [] v = refl
rows_end (x ∷ values) v = ap (λ rows. row_of x ∷ rows) (rows_end values v)

-- where no row has the id, what is missing joins the rows
at_new : (id : Text) (change : Row → List Row) (missing rows : List Row) → has_row id rows ≡ false → at_row id change missing rows ≡ rows ++ missing
at_new id change missing [] e = refl
at_new id change missing (r ∷ rows) e = go (bytes_eq r.id id) refl (at_new id change missing rows)
  where
    go : (b : Bool) → bytes_eq r.id id ≡ b → (has_row id rows ≡ false → at_row id change missing rows ≡ rows ++ missing)
        → at_row id change missing (r ∷ rows) ≡ r ∷ (rows ++ missing)
    go true is more =
        let bad : true ≡ false = rw is at e in
        absurd (true≢false bad)
    go false is more =
        let rest : has_row id rows ≡ false = rw is at e in
        rw is (ap (λ xs. r ∷ xs) (more rest))

-- a value that is new joins the rows
pub used_new : (name text : Text) (long : Option Text) (index : Option ℕ) (values : List NamedValue) → has_name name values ≡ false
    → used (single name long index) (text ∷ []) (rows_of values) ≡ rows_of (values ++ record { name = name; text = text } ∷ [])
used_new name text long index values new =
    let none : has_row name (rows_of values) ≡ false = row_there name values ∙ new in
    let cleared : without name (rows_of values) ≡ rows_of values = at_new name (λ _. []) [] (rows_of values) none ∙ append-nil (rows_of values) in
    let added : List Row = row_of (record { name = name; text = text }) ∷ [] in
    ap (at_row name (more_values CommandLine (text ∷ [])) added) cleared
    ∙ (at_new name (more_values CommandLine (text ∷ [])) added (rows_of values) none
    ∙ rows_end values (record { name = name; text = text }))

-- ---- faults

abbrev pub no_kinds : Kinds → Bool
no_kinds [] = true
no_kinds (k ∷ ks) = false

pub none_of_both : (a b : Kinds) → no_kinds (or_else a b) ≡ (no_kinds a && no_kinds b)
none_of_both [] b = refl
none_of_both (k ∷ ks) b = refl

-- the use of an argument with one value is refused exactly where it has one already
pub use_refused : (name text : Text) (long : Option Text) (index : Option ℕ) (values : List NamedValue)
    → no_kinds (use_fault false (single name long index) (text ∷ []) (rows_of values)) ≡ not (has_name name values)
use_refused name text long index values = go (has_name name values) (row_there name values)
  where
    go : (b : Bool) → has_row name (rows_of values) ≡ b → no_kinds (use_fault false (single name long index) (text ∷ []) (rows_of values)) ≡ not b
    go true e = rw e refl
    go false e = rw e refl

pub no_text : (name : Text) (long : Option Text) (index : Option ℕ) (rows : List Row) → no_kinds (use_fault false (single name long index) [] rows) ≡ false
no_text name long index rows = refl

-- a text has a first character
pub first_char : (x : ℕ) (rest : Text) → IsUtf8 (45 ∷ x ∷ rest) → is_some (slice_get (chars (x ∷ rest)) 0) ≡ true
unfolding chars is_utf8 encode_utf8
first_char x rest utf8 = go (chars_after (continuation_len x) (lead_bits x) rest) refl
  where
    whole : is_utf8 (45 ∷ x ∷ rest) ≡ true
    whole = is_utf8-from_IsUtf8 (45 ∷ x ∷ rest) utf8

    go : (cs : Text) → chars_after (continuation_len x) (lead_bits x) rest ≡ cs → is_some (slice_get (chars_after (continuation_len x) (lead_bits x) rest) 0) ≡ true
    go [] e =
        let bad : false ≡ true = rw e at whole in
        absurd (true≢false (sym bad))
    go (c ∷ cs) e = rw e refl

pub nil_of : (kinds : Kinds) → no_kinds kinds ≡ true → kinds ≡ []
nil_of [] e = refl
nil_of (k ∷ ks) e = absurd (true≢false (sym e))

pub same_text : (text : Text) → bytes_eq text text ≡ true
same_text text = (bytes_eq-Decides text text).1 refl

-- ---- the end of the walk

with_no_default : (rows : List Row) (a : Rule) → is_empty a.defaults ≡ true → with_default rows a ≡ rows
with_no_default rows a e = ap (λ ds. cond (has_row a.id rows) rows (default_rows a.id (reading_by a) ds rows)) (is_nil a.defaults e) ∙ go (has_row a.id rows)
  where
    go : (b : Bool) → cond b rows rows ≡ rows
    go true = refl
    go false = refl

no_default_fault : (rows : List Row) (a : Rule) → is_empty a.defaults ≡ true → default_fault rows a ≡ []
no_default_fault rows a e = rw (e, or_end (has_row a.id rows)) refl

pub no_defaults_fault : (c : List Rule) (rows : List Row) → list_all (λ a. is_empty a.defaults) c ≡ true → defaults_fault rows c ≡ []
unfolding defaults_fault
no_defaults_fault [] rows e = refl
no_defaults_fault (a ∷ c) rows e =
    let parts = both (is_empty a.defaults) _ e in
    ap₂ or_else (no_default_fault rows a parts.0) (no_defaults_fault c (with_default rows a) parts.1)

pub rows_stay : (c : List Rule) (rows : List Row) → list_all (λ a. is_empty a.defaults) c ≡ true → fold with_default rows c ≡ rows
rows_stay [] rows e = refl
rows_stay (a ∷ c) rows e =
    let parts = both (is_empty a.defaults) _ e in
    rows_stay c (with_default rows a) parts.1 ∙ with_no_default rows a parts.0

-- ---- what a word is

no_subcommand : (waiting : Waiting) (word : Text) → subcommand_met [] waiting word ≡ None
no_subcommand idle word = refl
no_subcommand (option id) word = refl
no_subcommand positional word = refl

module _ (title : Text) (c : List Rule) (waiting : Waiting) (word : Text) (h : Held) where
  pub dashes_fault : bytes_eq word (codes "--") ≡ true → word_fault (top_of title c) [] false waiting word h ≡ []
  dashes_fault is = rw (no_subcommand waiting word, is) refl

  pub option_word_fault : (name : Text) (text : Option Text) → bytes_eq word (codes "--") ≡ false → long_of word ≡ Some (name, text)
      → word_fault (top_of title c) [] false waiting word h ≡ long_fault c false (arg_by_long c name) text h
  option_word_fault name text other is = rw (no_subcommand waiting word, other, is) refl

  pub plain_word_fault : bytes_eq word (codes "--") ≡ false → long_of word ≡ None → short_of word ≡ None → word_fault (top_of title c) [] false waiting word h ≡ []
  plain_word_fault other long short = rw (no_subcommand waiting word, other, long, short) refl

  pub flag_fault : (x : ℕ) (rest : Text) → ((y : ℕ) → arg_by_short c y ≡ None) → h.skip ≡ 0 → IsUtf8 word → bytes_eq word (codes "--") ≡ false → long_of word ≡ None
      → short_of word ≡ Some (x ∷ rest) → word ≡ 45 ∷ x ∷ rest → no_kinds (word_fault (top_of title c) [] false waiting word h) ≡ false
  unfolding flags_fault
  flag_fault x rest none skip utf8 other long short whole =
      rw (no_subcommand waiting word, other, long, short, skip) (first (slice_get (chars (x ∷ rest)) 0) (first_char x rest (subst IsUtf8 whole utf8)))
    where
      first : (o : Option ℕ) → is_some o ≡ true
          → no_kinds (bundle_step_fault c false o (x ∷ rest) 0 (record h { skip = 0 }) (flags_fault c false (length rest))) ≡ false
      first None e = absurd (true≢false (sym e))
      first (Some y) e = rw (none y) refl

  pub dashes_met : (place : ℕ) → bytes_eq word (codes "--") ≡ true → word_met c [] false waiting place word h ≡ (h, trailing place)
  dashes_met place is = rw (no_subcommand waiting word, is) refl

  pub option_word_met : (place : ℕ) (name : Text) (text : Option Text) → bytes_eq word (codes "--") ≡ false → long_of word ≡ Some (name, text)
      → word_met c [] false waiting place word h ≡ long_word c waiting word name text h
  option_word_met place name text other is = rw (no_subcommand waiting word, other, is) refl

  pub plain_word_met : (place : ℕ) → bytes_eq word (codes "--") ≡ false → long_of word ≡ None → short_of word ≡ None
      → word_met c [] false waiting place word h ≡ plain_word c waiting word h
  plain_word_met place other long short = rw (no_subcommand waiting word, other, long, short) refl
