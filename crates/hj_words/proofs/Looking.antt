-- What an order says of the texts under names, where these are looked up in two ways.
use Rattle.std.proofs.Common.{◌≡◌, ◌≤◌, ◌-◌, List, [], ◌∷◌, Option, Some, codes, option_and_then, map, length, take, drop, slice_index_or, refl, ap, sym, ◌∙◌, arith}
use Rattle.std.proofs.lemmas.List.{take_all}
use Rattle.clap.specs.Words.{first_value, found_of}
use Rattle.clap.specs.declared.parser.matches.ArgMatches.{ArgMatches}
use Rattle.hj_words.specs.Arguments.{Carries}
use Rattle.hj_words.specs.Orders.{order_among, order_of, spelled}
use Rattle.hj_words.specs.Values.{Text, text_of}
use Rattle.hj_words.specs.Verbs.{names_of, options_of, verb_of}
use Rattle.hj_words.specs.declared.verb.Verb.{Verb}
use Rattle.hj_words.specs.declared.verb.Verb.TheVariants as verb

-- equal texts under each name make the same order
pub same_order : (of : Verb) (first second : Text → Option Text) → ((name : Text) → first name ≡ second name) → order_among of first ≡ order_among of second
same_order verb.Equi first second same = rw (same (codes "w"), same (codes "left"), same (codes "right")) refl
same_order verb.Join first second same =
    rw (same (codes "cores"), same (codes "threads"), same (codes "flight"), same (codes "max-events"), same (codes "schedule"), same (codes "query"), same (codes "left"), same (codes "right")) refl
same_order verb.Check first second same = rw (same (codes "query")) refl
same_order verb.Gen first second same = rw (same (codes "n"), same (codes "keys"), same (codes "seed"), same (codes "w")) refl
same_order verb.Raw first second same =
    rw (same (codes "cores"), same (codes "threads"), same (codes "flight"), same (codes "max-events"), same (codes "query"), same (codes "left"), same (codes "right")) refl
same_order verb.Trace first second same =
    rw (same (codes "cores"), same (codes "flight"), same (codes "max-events"), same (codes "schedule"), same (codes "query"), same (codes "left"), same (codes "right")) refl
same_order verb.Verify first second same =
    rw (same (codes "cores"), same (codes "flight"), same (codes "max-events"), same (codes "query"), same (codes "left"), same (codes "right"), same (codes "trace"), same (codes "output")) refl
same_order verb.Twice first second same =
    rw (same (codes "cores"), same (codes "threads"), same (codes "flight"), same (codes "max-events"), same (codes "schedule"), same (codes "query"), same (codes "left"), same (codes "right"), same (codes "second"), same (codes "third"))
    refl

-- the order that the words behind a command spell is that of the texts that its matches carry
pub spelled_by : (of : Verb) (words : List Text) (matches : ArgMatches) → Carries (options_of of) (names_of of) words matches → spelled of words ≡ order_among of (first_value (found_of matches))
spelled_by of words matches carries =
    ap (λ given. option_and_then (λ values. order_among of (λ name. text_of name values)) given) carries.are_given
    ∙ same_order of (λ name. text_of name carries.values) (first_value (found_of matches)) (λ name. sym (carries.texts name))

-- words spell what those behind their command do
pub spelled_behind : {S : Type 0} (bytes : S → Text) (words : List S) (command : S) (of : Verb) → 1 ≤ length words → command ≡ slice_index_or words 0 command → verb_of (bytes command) ≡ Some of
    → order_of (map bytes words) ≡ spelled of (map bytes (take (length words - 1) (drop 1 words)))
spelled_behind bytes [] command of some is found = absurd (omega (arith, some))
spelled_behind bytes (word ∷ words) command of some is found =
    let same : command ≡ word = is in
    ap (λ found. option_and_then (λ verb. spelled verb (map bytes words)) found) (ap (λ c. verb_of (bytes c)) (sym same) ∙ found)
    ∙ ap (λ rest. spelled of (map bytes rest)) (sym (take_all (length (word ∷ words) - 1) words (omega arith)))
