-- The commands that `clap` reads, and what its matches say of the words.
use Rattle.std.specs.Prelude.{◌≡◌, ◌≢◌, List, [], Some, map, true}
use Rattle.std.specs.List.{fold}
use Rattle.clap.specs.Faults.{fault_of, is_simple_and_free}
use Rattle.clap.specs.Simple.{HasMatchesOf, new_shape, with_rule}
use Rattle.clap.specs.Words.{App, Rule, first_value, found_of, new_rule}
use Rattle.clap.specs.declared.builder.action.ArgAction.TheVariants.{Set}
use Rattle.clap.specs.declared.parser.matches.ArgMatches.{ArgMatches}
use Rattle.hj_words.specs.Values.{Text, NamedValue, given, text_of}
use Rattle.hj_words.specs.declared.arguments.ValuePlace.{ValuePlace}
use Rattle.hj_words.specs.declared.arguments.ValuePlace.TheVariants as place

-- the matches give each name the text that the words give it
pub record Carries (options names words : List Text) (matches : ArgMatches) : Type 0 where
  pub values : List NamedValue
  pub are_given : given options names words ≡ Some values
  pub texts : (name : Text) → first_value (found_of matches) name ≡ text_of name values

-- the argument of a name: `--name VALUE` or `--name=VALUE`, or a word by its place
abbrev pub rule_at : ValuePlace → Text → Rule
rule_at place.Free name = record (new_rule name) { long = Some name; action = Some Set }
rule_at place.InTurn name = record (new_rule name) { action = Some Set }

-- a command that reads every word, and has no word of its own
abbrev pub bare_app : Text → App
bare_app name = record {
  top = record (new_shape name) { no_binary_name = true; disable_help_flag = true };
  subs = [];
}

-- the command with these options, and these names for words by their place
abbrev pub command_app : Text → List Text → List Text → App
command_app name options names =
    fold with_rule (fold with_rule (bare_app name) (map (rule_at place.Free) options)) (map (rule_at place.InTurn) names)

-- a command refuses none of the words, and these are their matches
pub record Accepts (app : App) (words : List Text) (matches : ArgMatches) : Type 0 where
  pub no_fault : is_simple_and_free app ≡ true → fault_of app words ≡ []
  pub has_matches : HasMatchesOf app words matches

-- a command refuses the words
abbrev pub Refuses : App → List Text → Type 0
Refuses app words = is_simple_and_free app ≡ true → fault_of app words ≢ []
