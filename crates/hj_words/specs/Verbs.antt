-- The words of each command.
use Rattle.std.specs.Prelude.{List, [], ◌∷◌, codes, if◌then◌else◌, Option, Some, None}
use Rattle.std.specs.Str.{bytes_eq}
use Rattle.hj_words.specs.Values.{Text}
use Rattle.hj_words.specs.declared.verb.Verb.{Verb}
use Rattle.hj_words.specs.declared.verb.Verb.TheVariants as verb

-- the word that calls for it
abbrev pub title_of : Verb → Text
title_of verb.Equi = codes "equi"
title_of verb.Join = codes "join"
title_of verb.Check = codes "check"
title_of verb.Gen = codes "gen"
title_of verb.Raw = codes "raw"
title_of verb.Trace = codes "trace"
title_of verb.Verify = codes "verify"
title_of verb.Twice = codes "twice"

-- the command that a word calls for
abbrev pub verb_of : Text → Option Verb
verb_of word =
    if bytes_eq word (title_of verb.Equi) then Some verb.Equi
    else if bytes_eq word (title_of verb.Join) then Some verb.Join
    else if bytes_eq word (title_of verb.Check) then Some verb.Check
    else if bytes_eq word (title_of verb.Gen) then Some verb.Gen
    else if bytes_eq word (title_of verb.Raw) then Some verb.Raw
    else if bytes_eq word (title_of verb.Trace) then Some verb.Trace
    else if bytes_eq word (title_of verb.Verify) then Some verb.Verify
    else if bytes_eq word (title_of verb.Twice) then Some verb.Twice
    else None

abbrev pub join_options : List Text
join_options = codes "cores" ∷ codes "threads" ∷ codes "flight" ∷ codes "max-events" ∷ codes "schedule" ∷ []

abbrev pub join_names : List Text
join_names = codes "query" ∷ codes "left" ∷ codes "right" ∷ []

-- its options
abbrev pub options_of : Verb → List Text
options_of verb.Equi = []
options_of verb.Join = join_options
options_of verb.Check = []
options_of verb.Gen = []
options_of verb.Raw = codes "cores" ∷ codes "threads" ∷ codes "flight" ∷ codes "max-events" ∷ []
options_of verb.Trace = codes "cores" ∷ codes "flight" ∷ codes "max-events" ∷ codes "schedule" ∷ []
options_of verb.Verify = codes "cores" ∷ codes "flight" ∷ codes "max-events" ∷ []
options_of verb.Twice = join_options

-- the names of its words by their place
abbrev pub names_of : Verb → List Text
names_of verb.Equi = codes "w" ∷ codes "left" ∷ codes "right" ∷ []
names_of verb.Join = join_names
names_of verb.Check = codes "query" ∷ []
names_of verb.Gen = codes "n" ∷ codes "keys" ∷ codes "seed" ∷ codes "w" ∷ []
names_of verb.Raw = join_names
names_of verb.Trace = join_names
names_of verb.Verify = codes "query" ∷ codes "left" ∷ codes "right" ∷ codes "trace" ∷ codes "output" ∷ []
names_of verb.Twice = codes "query" ∷ codes "left" ∷ codes "right" ∷ codes "second" ∷ codes "third" ∷ []
