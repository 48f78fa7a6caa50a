-- The arguments of each command, and what is found among them.
use Rattle.std.proofs.Common.{◌≡◌, ◌∙◌, ◌&&◌, ℕ, suc, Bool, true, false, not, List, [], ◌∷◌, ◌++◌, map, Option, Some, None, refl, sym, ap, true≢false}
use Rattle.std.specs.List.{list_all, list_any}
use Rattle.std.specs.Str.{bytes_eq}
use Rattle.std.proofs.lemmas.Slice.Eq.{bytes_eq-Decides}
use Rattle.clap.specs.Faults.{is_simple_and_free}
use Rattle.clap.specs.Simple.{App, built, is_simple}
use Rattle.clap.specs.Takes.{is_given}
use Rattle.clap.specs.Walk.{Row, Rule, arg_by_id, arg_by_long, arg_by_short, is_empty}
use Rattle.hj_words.specs.Arguments.{command_app}
use Rattle.hj_words.specs.Values.{Text, is_among}
use Rattle.hj_words.specs.Verbs.{names_of, options_of, title_of}
use Rattle.hj_words.specs.declared.verb.Verb.{Verb}
use Rattle.hj_words.specs.declared.verb.Verb.TheVariants as verb
use Rattle.hj_words.proofs.Given.{IsRead}
use Rattle.hj_words.proofs.Commands.{Finds, Places, option_arg, positional_arg, top_of}

-- the options, and the arguments behind them
abbrev pub options_then : List Text → List Rule → List Rule
options_then options behind = map option_arg options ++ behind

-- an option is found by its name, by a look that stops at an option of this name and goes on behind any other
option_found : (look : List Rule → Text → Option Rule) → ((o : Text) (rest : List Rule) (name : Text) → bytes_eq o name ≡ true → look (option_arg o ∷ rest) name ≡ Some (option_arg o))
    → ((o : Text) (rest : List Rule) (name : Text) → bytes_eq o name ≡ false → look (option_arg o ∷ rest) name ≡ look rest name) → (options : List Text) (behind : List Rule) (name : Text)
    → is_among name options ≡ true → look (options_then options behind) name ≡ Some (option_arg name)
option_found look stops goes [] behind name e = absurd (true≢false (sym e))
option_found look stops goes (o ∷ options) behind name e = go (bytes_eq o name) refl (option_found look stops goes options behind name)
  where
    go : (b : Bool) → bytes_eq o name ≡ b → (is_among name options ≡ true → look (options_then options behind) name ≡ Some (option_arg name))
        → look (options_then (o ∷ options) behind) name ≡ Some (option_arg name)
    go true is more = stops o (options_then options behind) name is ∙ ap (λ n. Some (option_arg n)) ((bytes_eq-Decides o name).0 is)
    go false is more =
        let rest : is_among name options ≡ true = rw is at e in
        goes o (options_then options behind) name is ∙ more rest

long_unknown : (options : List Text) (behind : List Rule) (name : Text) → arg_by_long behind name ≡ None → is_among name options ≡ false
    → arg_by_long (options_then options behind) name ≡ None
long_unknown [] behind name none e = none
long_unknown (o ∷ options) behind name none e = go (bytes_eq o name) refl (long_unknown options behind name none)
  where
    go : (b : Bool) → bytes_eq o name ≡ b → (is_among name options ≡ false → arg_by_long (options_then options behind) name ≡ None)
        → arg_by_long (options_then (o ∷ options) behind) name ≡ None
    go true is more =
        let bad : true ≡ false = rw is at e in
        absurd (true≢false bad)
    go false is more =
        let rest : is_among name options ≡ false = rw is at e in
        rw is (more rest)

-- words by their place, from a place on
abbrev pub positional_args : ℕ → List Text → List Rule
positional_args place [] = []
positional_args place (name ∷ names) = positional_arg place name ∷ positional_args (suc place) names

-- the arguments of a command with these options, and these names for words by their place
abbrev pub args_of : List Text → List Text → List Rule
args_of options names = options_then options (positional_args 1 names)

no_long : (place : ℕ) (names : List Text) (name : Text) → arg_by_long (positional_args place names) name ≡ None
no_long place [] name = refl
no_long place (n ∷ names) name = no_long (suc place) names name

no_short : (options : List Text) (place : ℕ) (names : List Text) (x : ℕ) → arg_by_short (options_then options (positional_args place names)) x ≡ None
no_short [] place [] x = refl
no_short [] place (n ∷ names) x = no_short [] (suc place) names x
no_short (o ∷ options) place names x = no_short options place names x

no_defaults : (options : List Text) (place : ℕ) (names : List Text) → list_all (λ a. is_empty a.defaults) (options_then options (positional_args place names)) ≡ true
no_defaults [] place [] = refl
no_defaults [] place (n ∷ names) = no_defaults [] (suc place) names
no_defaults (o ∷ options) place names = no_defaults options place names

none_missing : (options : List Text) (place : ℕ) (names : List Text) (rows : List Row)
    → list_any (λ a. a.required && not (is_given a.id rows)) (options_then options (positional_args place names)) ≡ false
none_missing [] place [] rows = refl
none_missing [] place (n ∷ names) rows = none_missing [] (suc place) names rows
none_missing (o ∷ options) place names rows = none_missing options place names rows

finds : (options names : List Text) → Finds options (args_of options names)
finds options names = record {
  long = option_found arg_by_long (λ o rest name is. rw is refl) (λ o rest name is. rw is refl) options (positional_args 1 names);
  by_id = option_found arg_by_id (λ o rest name is. rw is refl) (λ o rest name is. rw is refl) options (positional_args 1 names);
  unknown = λ name e. long_unknown options (positional_args 1 names) name (no_long 1 names name) e;
  short = no_short options 1 names;
  defaults = no_defaults options 1 names;
  optional = none_missing options 1 names;
}

-- A command is read, once this of it computes.
plain_read : (title : Text) (options names : List Text) → Places (args_of options names) 1 names
    → built (command_app title options names) ≡ record { top = top_of title (args_of options names); subs = [] }
    → (command_app title options names).top.no_binary_name ≡ true → is_simple (command_app title options names) ≡ true
    → is_simple_and_free (command_app title options names) ≡ true → IsRead (command_app title options names) options names
plain_read title options names places is_built all_words simple free = record {
  title = title;
  args = args_of options names;
  finds = finds options names;
  places = places;
  is_built = is_built;
  all_words = all_words;
  simple = simple;
  free = free;
}

-- ---- the commands

abbrev pub verb_app : Verb → App
verb_app of = command_app (title_of of) (options_of of) (names_of of)

pub verb_read : (of : Verb) → IsRead (verb_app of) (options_of of) (names_of of)
verb_read verb.Equi = plain_read (title_of verb.Equi) (options_of verb.Equi) (names_of verb.Equi) (refl, refl, (refl, refl, (refl, refl, refl))) refl refl refl refl
verb_read verb.Join = plain_read (title_of verb.Join) (options_of verb.Join) (names_of verb.Join) (refl, refl, (refl, refl, (refl, refl, refl))) refl refl refl refl
verb_read verb.Check = plain_read (title_of verb.Check) (options_of verb.Check) (names_of verb.Check) (refl, refl, refl) refl refl refl refl
verb_read verb.Gen = plain_read (title_of verb.Gen) (options_of verb.Gen) (names_of verb.Gen) (refl, refl, (refl, refl, (refl, refl, (refl, refl, refl)))) refl refl refl refl
verb_read verb.Raw = plain_read (title_of verb.Raw) (options_of verb.Raw) (names_of verb.Raw) (refl, refl, (refl, refl, (refl, refl, refl))) refl refl refl refl
verb_read verb.Trace = plain_read (title_of verb.Trace) (options_of verb.Trace) (names_of verb.Trace) (refl, refl, (refl, refl, (refl, refl, refl))) refl refl refl refl
verb_read verb.Verify = plain_read (title_of verb.Verify) (options_of verb.Verify) (names_of verb.Verify) (refl, refl, (refl, refl, (refl, refl, (refl, refl, (refl, refl, refl))))) refl refl refl refl
verb_read verb.Twice = plain_read (title_of verb.Twice) (options_of verb.Twice) (names_of verb.Twice) (refl, refl, (refl, refl, (refl, refl, (refl, refl, (refl, refl, refl))))) refl refl refl refl
