-- A command's faults and matches, by the values that the words give.
use Rattle.std.proofs.Common.{◌≡◌, ◌∙◌, ◌+◌, ◌<◌, ℕ, Bor, add-one, drop, drop-cons, get_or, length, Bool, cond, true, false, List, [], ◌∷◌, map, Option, Some, None, Result, Ok, Err, IfOk, IfErr, IsErrAnd, refl, sym, ap, ap₂, subst, true≢false, inl, inr}
use Rattle.std.specs.List.{fold}
use Rattle.std.specs.Str.{bytes_eq}
use Rattle.std.specs.String.{string_bytes}
use Rattle.std.specs.declared.string.String.{String}
use Rattle.std.proofs.lemmas.Str.{IsUtf8-string_bytes}
use Rattle.clap.specs.Kinds.{HasKind, Kinds}
use Rattle.clap.specs.Values as clap
use Rattle.clap.specs.Walk.{Rule, first_of, idle, nothing_held}
use Rattle.clap.specs.Walk as walk
use Rattle.clap.specs.Simple.{App, argument_words, built, matches_of, names_of}
use Rattle.clap.specs.Faults.{built_fault, fault_of, level_fault, walk_fault}
use Rattle.clap.specs.Matches.{found_of}
use Rattle.clap.specs.Simple.{HasMatchesOf, is_simple}
use Rattle.clap.specs.Faults.{is_simple_and_free}
use Rattle.clap.specs.Built.{AddsArg}
use Rattle.clap.specs.Simple.{app_of, with_rule}
use Rattle.clap.specs.Walk.{rule_of}
use Rattle.clap.specs.declared.builder.arg.Arg.{Arg}
use Rattle.clap.specs.declared.builder.command.Command.{Command}
use Rattle.clap.specs.declared.error.Error.{Error}
use Rattle.hj_words.specs.declared.order.Usage.{Usage}
use Rattle.hj_words.specs.declared.order.Usage.TheVariants as usage
use Rattle.clap.specs.declared.error.kind.ErrorKind.TheVariants.{OutOfMemory}
use Rattle.clap.specs.declared.parser.matches.ArgMatches.{ArgMatches}
use Rattle.clap.proofs.WalkLemmas.{first_value-rows}
use Rattle.clap.proofs.FaultLemmas.{leaf_fault}
use Rattle.hj_words.specs.Arguments.{Accepts, Carries, Refuses, bare_app, command_app, rule_at}
use Rattle.hj_words.specs.declared.arguments.ValuePlace.TheVariants as place
use Rattle.hj_words.specs.Values.{Text, NamedValue, given, once, text_of, values_of}
use Rattle.hj_words.proofs.Commands.{Finds, Places, top_of}
use Rattle.hj_words.proofs.Law.{AreTexts, Agrees, agrees, at, is_accepted}
use Rattle.hj_words.proofs.Once.{once_after, once_from_start}
use Rattle.hj_words.proofs.Turns.{no_kinds, none_of_both, rows_of}

pub text_first : (name : Text) (values : List NamedValue) → first_of name (rows_of values) ≡ text_of name values
text_first name [] = refl
text_first name (v ∷ values) = go (bytes_eq v.name name) refl (text_first name values)
  where
    go : (b : Bool) → bytes_eq v.name name ≡ b → first_of name (rows_of values) ≡ text_of name values → first_of name (rows_of (v ∷ values)) ≡ text_of name (v ∷ values)
    go true is more = rw is refl
    go false is more = rw is more

pub texts_of : {Z : Type 0} (words : List (String Z)) → AreTexts (map string_bytes words)
texts_of [] = tt
texts_of (word ∷ words) = (IsUtf8-string_bytes word, texts_of words)

given_where : (o : Option (List NamedValue)) → is_accepted [] o ≡ true → (values : List NamedValue) × (once o ≡ Some values) × (o ≡ Some values) × (once_after [] values ≡ true)
given_where None e = absurd (true≢false (sym e))
given_where (Some values) e = (values, ap (λ b. cond b (Some values) None) (sym (once_from_start values) ∙ e), refl, e)

none_where : (o : Option (List NamedValue)) → is_accepted [] o ≡ false → once o ≡ None
none_where None e = refl
none_where (Some values) e = ap (λ b. cond b (Some values) None) (sym (once_from_start values) ∙ e)

-- the command is read by the law of words: it has these options and these names of positional words
pub record IsRead (app : App) (options names : List Text) : Type 0 where
  pub title : Text
  pub args : List Rule
  pub finds : Finds options args
  pub places : Places args 1 names
  pub is_built : built app ≡ record { top = top_of title args; subs = [] }
  pub all_words : app.top.no_binary_name ≡ true
  pub simple : is_simple app ≡ true
  pub free : is_simple_and_free app ≡ true

module _ (app : App) (options names : List Text) (read : IsRead app options names) (words : List Text) (texts : AreTexts words) where
  law : Agrees read.title read.args (at nothing_held idle 1 false) words [] (values_of options words names None)
  law = (agrees read.title read.args options read.finds words).0 nothing_held 1 names [] texts (refl, refl, refl) read.places

  argument_words_are : argument_words app words ≡ words
  argument_words_are = rw read.all_words refl

  fault_is : fault_of app words ≡ level_fault (top_of read.title read.args) [] nothing_held words false []
  fault_is = ap₂ (λ a ws. built_fault a nothing_held ws) read.is_built argument_words_are ∙ leaf_fault (record { top = top_of read.title read.args; subs = [] }) nothing_held words refl

  verdict : no_kinds (fault_of app words) ≡ is_accepted [] (values_of options words names None)
  verdict = ap no_kinds fault_is ∙ (none_of_both (walk_fault (top_of read.title read.args) [] (at nothing_held idle 1 false) words) _ ∙ law.0)

  matches_are : (values : List NamedValue) → values_of options words names None ≡ Some values → once_after [] values ≡ true → matches_of app words ≡ rows_of values
  matches_are values is alone = ap₂ (λ (a : App) ws. walk.rows_after a.top.rules (names_of a) ws) read.is_built argument_words_are ∙ law.1 values is alone

  refused_kinds : (kinds : Kinds) → (kinds ≡ [] → ⊥) → no_kinds kinds ≡ false
  refused_kinds [] none = absurd (none refl)
  refused_kinds (k ∷ kinds) none = refl

  carried_by : (m : ArgMatches) → fault_of app words ≡ [] → HasMatchesOf app words m → Carries options names words m
  carried_by m none has =
      let got = given_where (values_of options words names None) (sym verdict ∙ ap no_kinds none) in
      record {
        values = got.0;
        are_given = got.1;
        texts = λ name. first_value-rows (found_of m) name ∙ (ap (first_of name) ((has read.simple).0 ∙ matches_are got.0 got.2 got.3) ∙ text_first name got.0);
      }

  -- the matches of a parse give what the words give
  pub carried : (m : ArgMatches) → Accepts app words m → Carries options names words m
  carried m accepts = carried_by m (accepts.no_fault read.free) accepts.has_matches

  -- words that are refused give nothing
  pub refused : Refuses app words → given options names words ≡ None
  refused refuses = none_where (values_of options words names None) (sym verdict ∙ refused_kinds (fault_of app words) (refuses read.free))

-- ---- steps of the code

-- an argument is added
pub added : {old : Command} {arg : Arg} {new : Command} {rule : Rule} → AddsArg old arg new → arg.global ≡ false → rule_of arg ≡ rule → app_of new ≡ with_rule (app_of old) rule
added {old = old} adds local rule = adds.shape local ∙ ap (with_rule (app_of old)) rule

-- one more name's argument is added, and the names behind it lead to the same command
pub one_more : (rule : Text → Rule) (names : List (Bor Text)) (i : ℕ) (none : Bor Text) (old new whole : App) → i < length names → new ≡ with_rule old (rule (get_or names i none).now)
    → fold with_rule old (map rule (map (λ n. n.now) (drop i names))) ≡ whole → fold with_rule new (map rule (map (λ n. n.now) (drop (i + 1) names))) ≡ whole
one_more rule names i none old new whole within is whole_is =
    ap (λ app. fold with_rule app (map rule (map (λ n. n.now) (drop (i + 1) names)))) is
    ∙ (sym (ap (λ ns. fold with_rule old (map rule (map (λ n. n.now) ns))) front) ∙ whole_is)
  where
    front : drop i names ≡ get_or names i none ∷ drop (i + 1) names
    front = rw (add-one, drop-cons names i none) refl

-- a command is built from a bare one, by options and then by words by their place
pub built_up : (name : Text) (options names : List Text) (bare optioned whole : App) → bare ≡ bare_app name → optioned ≡ fold with_rule bare (map (rule_at place.Free) options)
    → whole ≡ fold with_rule optioned (map (rule_at place.InTurn) names) → whole ≡ command_app name options names
built_up name options names bare optioned whole is_bare is_optioned is_whole =
    is_whole ∙ ap (λ app. fold with_rule app (map (rule_at place.InTurn) names)) (is_optioned ∙ ap (λ app. fold with_rule app (map (rule_at place.Free) options)) is_bare)

pub accepted : (actual app : App) (words : List Text) (m : ArgMatches) → actual ≡ app → (is_simple_and_free actual ≡ true → fault_of actual words ≡ []) → HasMatchesOf actual words m → Accepts app words m
accepted actual app words m is kinds has = subst (λ a. Accepts a words m) is (record { no_fault = kinds; has_matches = has })

-- the matches of a command that is read, or that the words give nothing
pub carried_matches : {X : Type 0} (app : App) (options names words : List Text) → IsRead app options names → AreTexts words → (result : Result ArgMatches X)
    → IfOk result (Accepts app words) → IfOk result (Carries options names words)
carried_matches app options names words read texts (Ok m) accepts = carried app options names read words texts m accepts
carried_matches app options names words read texts (Err e) accepts = tt

pub refused_words : {X : Type 0} (app : App) (options names words : List Text) → IsRead app options names → AreTexts words → (result : Result X Usage)
    → IfErr result (λ fault. fault ≡ usage.Words → Refuses app words) → IfErr result (λ fault. fault ≡ usage.Words → given options names words ≡ None)
refused_words app options names words read texts (Ok m) refuses = tt
refused_words app options names words read texts (Err fault) refuses = λ is. refused app options names read words texts (refuses is)

-- an error of some kinds means that there are some
some_kinds : (kinds : Kinds) (e : Error) → HasKind kinds e → (clap.kind_of e ≡ OutOfMemory → ⊥) → kinds ≡ [] → ⊥
some_kinds [] e has other none = elim has [ inl memory ↦ other memory | inr never ↦ never ]
some_kinds (k ∷ kinds) e has other none = absurd (cc)

pub refuses : (actual app : App) (words : List Text) (e : Error) → actual ≡ app → (is_simple_and_free actual ≡ true → HasKind (fault_of actual words) e) → (clap.kind_of e ≡ OutOfMemory → ⊥) → Refuses app words
refuses actual app words e is kinds other = subst (λ a. Refuses a words) is (λ free. some_kinds (fault_of actual words) e (kinds free) other)

-- an error that becomes Words is not that memory ran out
pub words_refused : {X : Type 0} (result : Result X Usage) (e : Error) (Claim : Type 0)
    → IsErrAnd result (λ fault. (clap.kind_of e ≡ OutOfMemory → fault ≡ usage.Memory) × ((clap.kind_of e ≡ OutOfMemory → ⊥) → fault ≡ usage.Words))
    → ((clap.kind_of e ≡ OutOfMemory → ⊥) → Claim) → IfErr result (λ fault. fault ≡ usage.Words → Claim)
words_refused (Ok x) e Claim h claim = tt
words_refused (Err fault) e Claim h claim = λ is. claim (λ out. let memory : fault ≡ usage.Memory = h.0 out in cc)
