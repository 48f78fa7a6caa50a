-- The arguments of a command as `clap` builds them, and what it finds among them.
use Rattle.std.proofs.Common.{◌≡◌, ℕ, true, false, not, List, [], ◌∷◌, Option, Some, None, ◌&&◌}
use Rattle.std.specs.List.{list_all, list_any}
use Rattle.clap.specs.Walk.{Row, Rule, arg_by_id, arg_by_index, arg_by_long, arg_by_short, is_empty, next_position}
use Rattle.clap.specs.Simple.{Shape, new_shape}
use Rattle.clap.specs.Takes.{is_given}
use Rattle.clap.specs.declared.builder.action.ArgAction.TheVariants.{Set}
use Rattle.clap.specs.declared.builder.value_parser.ValueParser.TheVariants.{String}
use Rattle.clap.specs.declared.builder.value_parser.Reading.TheVariants.{AsWritten}
use Rattle.clap.specs.declared.parser.matches.ValueSource.TheVariants.{CommandLine}
use Rattle.hj_words.specs.Values.{Text, NamedValue, is_among}

-- an argument with one value
abbrev pub single : Text → Option Text → Option ℕ → Rule
single id long index = record {
  id = id;
  long = long;
  aliases = [];
  short = None;
  short_aliases = [];
  index = index;
  action = Some Set;
  range = Some (record { start_inclusive = 1; end_inclusive = 1 });
  value_names = 0;
  defaults = [];
  missing = [];
  trailing_var_arg = false;
  parser = Some String;
  ignore_case = false;
  required = false;
  is_simple = true;
  is_free = true;
}

abbrev pub option_arg : Text → Rule
option_arg name = single name (Some name) None

abbrev pub positional_arg : ℕ → Text → Rule
positional_arg place name = single name None (Some place)

-- the row of a value that was read
abbrev pub row_of : NamedValue → Row
row_of v = record {
  id = v.name;
  values = v.text ∷ [];
  count = None;
  source = Some CommandLine;
  reading = AsWritten;
}

-- a built command with these arguments
abbrev pub top_of : Text → List Rule → Shape
top_of title c = record (new_shape title) {
  rules = c;
  no_binary_name = true;
  disable_help_flag = true;
  disable_help_subcommand = true;
  is_built = true;
}

-- what is found among the arguments
pub record Finds (options : List Text) (c : List Rule) : Type 0 where
  pub long : (name : Text) → is_among name options ≡ true → arg_by_long c name ≡ Some (option_arg name)
  pub by_id : (name : Text) → is_among name options ≡ true → arg_by_id c name ≡ Some (option_arg name)
  pub unknown : (name : Text) → is_among name options ≡ false → arg_by_long c name ≡ None
  pub short : (x : ℕ) → arg_by_short c x ≡ None
  pub defaults : list_all (λ a. is_empty a.defaults) c ≡ true
  pub optional : (rows : List Row) → list_any (λ a. a.required && not (is_given a.id rows)) c ≡ false

-- the positional arguments from a place on
abbrev pub Places : List Rule → ℕ → List Text → Type 0
Places c place [] = arg_by_index c place ≡ None
Places c place (name ∷ names) = (arg_by_index c place ≡ Some (positional_arg place name)) × (arg_by_id c name ≡ Some (positional_arg place name))
    × Places c (next_position (positional_arg place name) place) names
