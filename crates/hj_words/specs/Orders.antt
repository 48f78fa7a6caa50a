-- The order that the words of a command line spell.
use Rattle.std.specs.Prelude.{ℕ, Bool, not, ◌&&◌, ◌==◌, List, [], ◌∷◌, nat_le, nat_lt, length, codes, if◌then◌else◌, Option, Some, None, option_map, option_and_then}
use Rattle.std.specs.Str.{all_ascii_digits, bytes_eq}
use Rattle.std.specs.Str.Parse.{digits_value}
use Rattle.hj_words.specs.Values.{Text, given, text_of}
use Rattle.hj_words.specs.Verbs.{names_of, options_of, verb_of}
use Rattle.hj_words.specs.declared.verb.Verb.{Verb}
use Rattle.hj_words.specs.declared.verb.Verb.TheVariants as verb
use Rattle.hj_words.specs.declared.order.Order.{Order}
use Rattle.hj_words.specs.declared.names.JoinNames.{JoinNames}
use Rattle.hj_words.specs.declared.numbers.JoinNumbers.{JoinNumbers}
use Rattle.hj_words.specs.declared.order.Order.TheVariants.{Equi, Join, Check, Gen, Raw, Trace, Verify, Twice}

-- 1 to 20 decimal digits
abbrev pub is_number : Text → Bool
is_number word = nat_lt 0 (length word) && nat_le (length word) 20 && all_ascii_digits word

-- the number, where it is one from `low` to `high`
abbrev pub number_of : ℕ → ℕ → Text → Option ℕ
number_of low high word =
    if is_number word && nat_le low (digits_value 10 word) && nat_le (digits_value 10 word) high
    then Some (digits_value 10 word) else None

abbrev pub number_in : ℕ → ℕ → Option Text → Option ℕ
number_in low high text = option_and_then (number_of low high) text

-- the number of an option, or its default where it isn't given
abbrev pub number_or : ℕ → ℕ → ℕ → Option Text → Option ℕ
number_or default low high None = Some default
number_or default low high (Some word) = number_of low high word

-- a name is neither empty nor `-`
abbrev pub name_of : Text → Option Text
name_of word =
    if nat_lt 0 (length word) && not (bytes_eq word (codes "-")) then Some word else None

abbrev pub name_in : Option Text → Option Text
name_in text = option_and_then name_of text

abbrev pub most_rows : ℕ
most_rows = 1000000

abbrev pub most_events : ℕ
most_events = 4294967295

abbrev pub most_seed : ℕ
most_seed = 18446744073709551615

-- `equi W LEFT RIGHT`
abbrev pub equi_of : (Text → Option Text) → Option Order
equi_of texts =
    option_and_then (λ w.
    option_and_then (λ left.
    option_map (λ right. Equi w left right)
    (name_in (texts (codes "right"))))
    (name_in (texts (codes "left"))))
    (number_in 1 most_rows (texts (codes "w")))

-- a schedule needs a run without threads
abbrev pub schedule_of : ℕ → Option Text → Option (Option ℕ)
schedule_of threads None = Some None
schedule_of threads (Some word) =
    if threads == 0 then option_map (λ seed. Some seed) (number_of 0 most_seed word) else None

-- the numbers of the texts of a join's options, on at least this many threads
unfoldable pub join_numbers : ℕ → Option Text → Option Text → Option Text → Option Text → Option Text → Option JoinNumbers
join_numbers fewest cores threads flight limit schedule =
    option_and_then (λ cores.
    option_and_then (λ threads.
    option_and_then (λ flight.
    option_and_then (λ limit.
    option_map (λ schedule. record {
      setup = record { cores = cores; threads = threads; flight = flight };
      limit = limit;
      schedule = schedule;
    })
    (schedule_of threads schedule))
    (number_or most_events 1 most_events limit))
    (number_or 32 1 256 flight))
    (number_or 4 fewest 64 threads))
    (number_or 4 1 64 cores)

-- the numbers that the words give a join with these texts for its threads, of which it has at least this many, and for its schedule
abbrev pub numbers_among : ℕ → Option Text → Option Text → (Text → Option Text) → Option JoinNumbers
numbers_among fewest threads schedule texts =
    join_numbers fewest (texts (codes "cores")) threads (texts (codes "flight"))
    (texts (codes "max-events")) schedule

-- the numbers that the words give the options of `join`
abbrev pub all_numbers : (Text → Option Text) → Option JoinNumbers
all_numbers texts = numbers_among 0 (texts (codes "threads")) (texts (codes "schedule")) texts

-- the names of these texts, of a join's query and of its streams
unfoldable pub names_in : Option Text → Option Text → Option Text → Option JoinNames
names_in query left right =
    option_and_then (λ query.
    option_and_then (λ left.
    option_map (λ right. record { query = query; left = left; right = right })
    (name_in right))
    (name_in left))
    (name_in query)

-- the names that a join's words give
abbrev pub names_among : (Text → Option Text) → Option JoinNames
names_among texts = names_in (texts (codes "query")) (texts (codes "left")) (texts (codes "right"))

-- an order with numbers and names, where both are there
abbrev pub order_with : (JoinNumbers → JoinNames → Order) → Option JoinNumbers → Option JoinNames → Option Order
order_with make numbers names = option_and_then (λ numbers. option_map (λ names. make numbers names) names) numbers

-- `join [--cores N] [--threads N] [--flight N] [--max-events N] [--schedule SEED] QUERY LEFT RIGHT`
abbrev pub join_of : (Text → Option Text) → Option Order
join_of texts =
    order_with (λ numbers names. Join numbers.setup numbers.limit numbers.schedule names.query names.left names.right)
    (all_numbers texts) (names_among texts)

-- `check QUERY`
abbrev pub check_of : (Text → Option Text) → Option Order
check_of texts =
    option_map (λ query. Check query) (name_in (texts (codes "query")))

-- the order of the texts of `gen`'s words
unfoldable pub gen_order : Option Text → Option Text → Option Text → Option Text → Option Order
gen_order n keys seed w =
    option_and_then (λ n.
    option_and_then (λ keys.
    option_and_then (λ seed.
    option_map (λ w. Gen n keys seed w)
    (number_in 1 most_rows w))
    (number_in 0 most_seed seed))
    (number_in 1 1000000000 keys))
    (number_in 0 100000 n)

-- `gen N KEYS SEED W`
abbrev pub gen_of : (Text → Option Text) → Option Order
gen_of texts = gen_order (texts (codes "n")) (texts (codes "keys"))
    (texts (codes "seed")) (texts (codes "w"))

-- `raw [--cores N] [--threads N] [--flight N] [--max-events N] QUERY LEFT RIGHT`, on one thread at least
abbrev pub raw_of : (Text → Option Text) → Option Order
raw_of texts =
    order_with (λ numbers names. Raw numbers.setup numbers.limit names.query names.left names.right)
    (numbers_among 1 (texts (codes "threads")) None texts)
    (names_among texts)

-- `trace [--cores N] [--flight N] [--max-events N] [--schedule SEED] QUERY LEFT RIGHT`, whose numbers are those of `join` on no
-- threads
abbrev pub trace_of : (Text → Option Text) → Option Order
trace_of texts =
    order_with (λ numbers names.
    Trace numbers.setup.cores numbers.setup.flight numbers.limit numbers.schedule names.query names.left names.right)
    (numbers_among 0 (Some (codes "0")) (texts (codes "schedule")) texts)
    (names_among texts)

-- `verify [--cores N] [--flight N] [--max-events N] QUERY LEFT RIGHT TRACE OUTPUT`, whose numbers are those of `join` on no threads
abbrev pub verify_of : (Text → Option Text) → Option Order
verify_of texts =
    option_and_then (λ trace.
    option_and_then (λ output.
    order_with (λ numbers names.
    Verify numbers.setup.cores numbers.setup.flight numbers.limit names.query names.left names.right trace output)
    (numbers_among 0 (Some (codes "0")) None texts) (names_among texts))
    (name_in (texts (codes "output"))))
    (name_in (texts (codes "trace")))

-- `twice [--cores N] [--threads N] [--flight N] [--max-events N] [--schedule SEED] QUERY LEFT RIGHT QUERY THIRD`, whose options are
-- those of `join`
abbrev pub twice_of : (Text → Option Text) → Option Order
twice_of texts =
    option_and_then (λ second.
    option_and_then (λ third.
    order_with (λ numbers names.
    Twice numbers.setup numbers.limit numbers.schedule names.query names.left names.right second third)
    (all_numbers texts) (names_among texts))
    (name_in (texts (codes "third"))))
    (name_in (texts (codes "second")))

-- the order of a command whose names have these texts
abbrev pub order_among : Verb → (Text → Option Text) → Option Order
order_among verb.Equi texts = equi_of texts
order_among verb.Join texts = join_of texts
order_among verb.Check texts = check_of texts
order_among verb.Gen texts = gen_of texts
order_among verb.Raw texts = raw_of texts
order_among verb.Trace texts = trace_of texts
order_among verb.Verify texts = verify_of texts
order_among verb.Twice texts = twice_of texts

-- The order that the words behind a command spell, if they spell one.
abbrev pub spelled : Verb → List Text → Option Order
spelled of words = option_and_then (λ values. order_among of (λ name. text_of name values)) (given (options_of of) (names_of of) words)

-- The order that the words spell, if they spell one.
abbrev pub order_of : List Text → Option Order
order_of [] = None
order_of (command ∷ words) = option_and_then (λ of. spelled of words) (verb_of command)
