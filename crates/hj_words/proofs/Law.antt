-- `clap`'s walk accepts exactly the words that give values, each name at most once, and its rows are these values.
use Rattle.std.proofs.Common.{◌≡◌, ◌∙◌, ℕ, Bool, true, false, not, List, [], ◌∷◌, ◌++◌, Option, Some, None, is_some, ◌&&◌, ◌||◌, refl, sym, ap, ap₂, subst, append-nil, append_assoc, true≢false, codes, unwrap_or}
use Rattle.std.specs.List.{fold}
use Rattle.std.specs.Str.{IsUtf8, bytes_eq}
use Rattle.std.proofs.lemmas.Bool.{and_right}
use Rattle.clap.specs.Lexer.{long_of, short_of}
use Rattle.clap.specs.Kinds.{Kinds, or_else}
use Rattle.clap.specs.Walk.{Held, Rule, Step, Waiting, Walk, after_step, arg_by_id, arg_by_long, finished, idle, is_pending, next, next_position, option, plain_word, reacted, settled, value, walked, word_met}
use Rattle.clap.specs.Faults.{check_fault, defaults_fault, long_fault, settle_fault, step_fault, turn_fault, use_fault, walk_fault, word_fault}
use Rattle.clap.proofs.WalkLemmas.{both}
use Rattle.hj_words.specs.Values.{Text, NamedValue, Kind, has_name, in_turn, is_among, kind_of, under, values_of, word_values}
use Rattle.hj_words.specs.Values as kinds
use Rattle.hj_words.proofs.Commands.{Finds, Places, option_arg, positional_arg, single, top_of}
use Rattle.hj_words.proofs.Once.{once_after}
use Rattle.hj_words.proofs.Turns.{dashes_fault, dashes_met, flag_fault, nil_of, no_defaults_fault, no_kinds, no_text, none_of_both, option_word_fault, option_word_met, plain_word_fault, plain_word_met, rows_of, rows_stay, same_text, use_refused, used_new}
use Rattle.hj_words.proofs.WordKinds.{ClassOf, class_of, is_dashes, is_flag, is_option, is_plain}

-- each word is a text
abbrev pub AreTexts : List Text → Type 0
AreTexts [] = Unit {0}
AreTexts (word ∷ words) = IsUtf8 word × AreTexts words

-- the values are accepted behind those before
abbrev pub is_accepted : List NamedValue → Option (List NamedValue) → Bool
is_accepted before None = false
is_accepted before (Some values) = once_after before values

and_assoc : (a b c : Bool) → ((a && b) && c) ≡ (a && (b && c))
and_assoc true b c = refl
and_assoc false b c = refl

-- a walk that hasn't stopped
abbrev pub at : Held → Waiting → ℕ → Bool → Walk
at h waiting place is_trailing = record { held = h; waiting = waiting; position = place; is_trailing = is_trailing; stopped = None }

-- what a positional word, or the text of an option, leaves: its value is settled later
abbrev pub with_text : Text → Text → Held → Held
with_text name text h = record h { pending = Some (name, text ∷ []) }

-- an option that waits for its text
abbrev pub with_option : Text → Held → Held
with_option name h = record h { pending = Some (name, []) }

module _ (title : Text) (c : List Rule) where
  abbrev pub end_fault : Held → Kinds
  end_fault h = or_else (settle_fault c false h) (or_else (defaults_fault (settled c h).rows c) (check_fault (top_of title c) (finished c h) false))

  -- the walk and what follows it refuse nothing
  abbrev pub passes : Walk → List Text → Bool
  passes w words = no_kinds (walk_fault (top_of title c) [] w words) && no_kinds (end_fault (fold (walked c []) w words).held)

  pub passes_next : (w : Walk) (word : Text) (words : List Text)
      → passes w (word ∷ words) ≡ (no_kinds (turn_fault (top_of title c) [] w word) && passes (walked c [] w word) words)
  unfolding walk_fault
  passes_next w word words =
      ap (λ b. b && no_kinds (end_fault (fold (walked c []) (walked c [] w word) words).held)) (none_of_both (turn_fault (top_of title c) [] w word) _)
      ∙ and_assoc (no_kinds (turn_fault (top_of title c) [] w word)) _ _

  pub passes_end : (w : Walk) → passes w [] ≡ no_kinds (end_fault w.held)
  unfolding walk_fault
  passes_end w = refl

  -- the walk over the words accepts what is accepted behind the values before, and its rows are those of all values
  abbrev pub Agrees : Walk → List Text → List NamedValue → Option (List NamedValue) → Type 0
  Agrees w words before o = (passes w words ≡ is_accepted before o)
      × ((values : List NamedValue) → o ≡ Some values → once_after before values ≡ true → finished c (fold (walked c []) w words).held ≡ rows_of (before ++ values))

  pub both_refuse : (w : Walk) (words : List Text) (before : List NamedValue) (o : Option (List NamedValue)) → passes w words ≡ false → is_accepted before o ≡ false → Agrees w words before o
  both_refuse w words before o fails none = (fails ∙ sym none, λ values is once. absurd (true≢false (sym once ∙ (sym (ap (is_accepted before) is) ∙ none))))

  -- a word that gives no value
  pub word_passes : (w after : Walk) (word : Text) (words : List Text) (before : List NamedValue) (o : Option (List NamedValue)) → no_kinds (turn_fault (top_of title c) [] w word) ≡ true
      → walked c [] w word ≡ after → Agrees after words before o → Agrees w (word ∷ words) before o
  word_passes w after word words before o turn onward rest = (
    passes_next w word words ∙ (ap₂ (λ b v. b && passes v words) turn onward ∙ rest.0),
    λ values is once. ap (λ v. finished c (fold (walked c []) v words).held) onward ∙ rest.1 values is once,
  )

  -- a word that gives a value of a new name
  pub value_new : (w after : Walk) (word : Text) (words : List Text) (before : List NamedValue) (name text : Text) (o : Option (List NamedValue))
      → no_kinds (turn_fault (top_of title c) [] w word) ≡ true → walked c [] w word ≡ after → has_name name before ≡ false
      → Agrees after words (before ++ record { name = name; text = text } ∷ []) o → Agrees w (word ∷ words) before (under name text o)
  value_new w after word words before name text o turn onward new rest = go o rest
    where
      go : (o : Option (List NamedValue)) → Agrees after words (before ++ record { name = name; text = text } ∷ []) o → Agrees w (word ∷ words) before (under name text o)
      go None r = (
        passes_next w word words ∙ (ap₂ (λ b v. b && passes v words) turn onward ∙ r.0),
        λ values is once. absurd (true≢false (sym (ap is_some is))),
      )
      go (Some more) r = (
        passes_next w word words ∙ (ap₂ (λ b v. b && passes v words) turn onward ∙ (r.0 ∙ ap (λ b. not b && once_after (before ++ record { name = name; text = text } ∷ []) more) (sym new))),
        λ values is once.
            let list : record { name = name; text = text } ∷ more ≡ values = ap (λ x. unwrap_or x []) is in
            let later : once_after (before ++ record { name = name; text = text } ∷ []) more ≡ true = (both (not (has_name name before)) _ (ap (once_after before) list ∙ once)).1 in
            ap (λ v. finished c (fold (walked c []) v words).held) onward ∙ (r.1 more refl later
            ∙ ap rows_of (append_assoc before (record { name = name; text = text } ∷ []) more ∙ ap (λ xs. before ++ xs) list)),
      )

  -- a word that gives a value of a name that has one
  pub again_refused : (before : List NamedValue) (name text : Text) (o : Option (List NamedValue)) → has_name name before ≡ true → is_accepted before (under name text o) ≡ false
  again_refused before name text None again = refl
  again_refused before name text (Some more) again = ap (λ b. not b && once_after (before ++ record { name = name; text = text } ∷ []) more) again

  pub turn_refused : (w : Walk) (word : Text) (words : List Text) → no_kinds (turn_fault (top_of title c) [] w word) ≡ false → passes w (word ∷ words) ≡ false
  turn_refused w word words turn = passes_next w word words ∙ ap (λ b. b && passes (walked c [] w word) words) turn

  -- ---- a walk at whose next step a value is settled

  pub turn_is : (h : Held) (waiting : Waiting) (place : ℕ) (word : Text) (f : Kinds) (met : Held × Step) → word_fault (top_of title c) [] false waiting word h ≡ f
      → word_met c [] false waiting place word h ≡ met → turn_fault (top_of title c) [] (at h waiting place false) word ≡ or_else f (step_fault (top_of title c) place met.0 met.1)
  turn_is h waiting place word f met fault is = ap₂ (λ x (m : Held × Step). or_else x (step_fault (top_of title c) place m.0 m.1)) fault is

  pub fault_first : (h : Held) (waiting : Waiting) (place : ℕ) (word : Text) → no_kinds (word_fault (top_of title c) [] false waiting word h) ≡ false
      → no_kinds (turn_fault (top_of title c) [] (at h waiting place false) word) ≡ false
  fault_first h waiting place word fails =
      none_of_both (word_fault (top_of title c) [] false waiting word h) _ ∙ ap (λ b. b && no_kinds (step_fault (top_of title c) place (word_met c [] false waiting place word h).0 (word_met c [] false waiting place word h).1)) fails

  pub walked_is : (h : Held) (waiting : Waiting) (place : ℕ) (word : Text) (met : Held × Step) → word_met c [] false waiting place word h ≡ met
      → walked c [] (at h waiting place false) word ≡ after_step c word (at h waiting place false) met.0 met.1
  unfolding walked
  walked_is h waiting place word met is = ap (λ (m : Held × Step). after_step c word (at h waiting place false) m.0 m.1) is

  pub walked_trailing : (h : Held) (waiting : Waiting) (place : ℕ) (word : Text) → walked c [] (at h waiting place true) word ≡ after_step c word (at h waiting place true) h value
  unfolding walked
  walked_trailing h waiting place word = refl

  -- a positional word: it is refused where no place is left, or what is pending is refused
  pub value_fault : (h : Held) (place : ℕ) (names : List Text) → Places c place names → no_kinds (settle_fault c false h) ≡ false
      → no_kinds (step_fault (top_of title c) place h value) ≡ false
  value_fault h place [] places fails = rw places refl
  value_fault h place (name ∷ names) places fails = rw (places.0, and_right (is_pending (positional_arg place name) h.pending) false refl) fails

  pub value_passes : (h : Held) (place : ℕ) (name : Text) (names : List Text) → Places c place (name ∷ names) → settle_fault c false h ≡ []
      → step_fault (top_of title c) place h value ≡ []
  value_passes h place name names places none = rw (places.0, and_right (is_pending (positional_arg place name) h.pending) false refl) none

  pub no_place_left : (h : Held) (place : ℕ) → Places c place [] → no_kinds (step_fault (top_of title c) place h value) ≡ false
  no_place_left h place places = rw places refl

  pub value_walked : (h : Held) (waiting : Waiting) (place : ℕ) (is_trailing : Bool) (word name : Text) (names : List Text) → Places c place (name ∷ names)
      → after_step c word (at h waiting place is_trailing) h value ≡ at (with_text name word (settled c h)) idle (next_position (positional_arg place name) place) (is_trailing || false)
  value_walked h waiting place is_trailing word name names places =
      rw (places.0, and_right (is_pending (positional_arg place name) h.pending) false refl) refl

  -- ---- what is held

  -- the values before are settled at the next step
  abbrev pub Settles : Held → List NamedValue → Type 0
  Settles h before = (settle_fault c false h ≡ []) × ((settled c h).rows ≡ rows_of before) × (h.skip ≡ 0)

  -- the next step refuses what is pending
  abbrev pub Doomed : Held → Type 0
  Doomed h = (no_kinds (settle_fault c false h) ≡ false) × (h.skip ≡ 0)

  -- a text that is pending is settled where its name is new, and else refused
  pub text_settles : (h : Held) (before : List NamedValue) (name text : Text) (long : Option Text) (index : Option ℕ) → Settles h before → arg_by_id c name ≡ Some (single name long index)
      → has_name name before ≡ false → Settles (with_text name text (settled c h)) (before ++ record { name = name; text = text } ∷ [])
  text_settles h before name text long index s id new = (
    rw (id, s.1) (nil_of _ (use_refused name text long index before ∙ ap not new)),
    rw (id, s.1) (used_new name text long index before new),
    s.2,
  )

  pub text_doomed : (h : Held) (before : List NamedValue) (name text : Text) (long : Option Text) (index : Option ℕ) → Settles h before → arg_by_id c name ≡ Some (single name long index)
      → has_name name before ≡ true → Doomed (with_text name text (settled c h))
  text_doomed h before name text long index s id again = (rw (id, s.1) (use_refused name text long index before ∙ ap not again), s.2)

  -- an option that waits for its text is refused at the next step
  pub option_doomed : (h : Held) (before : List NamedValue) (name : Text) (long : Option Text) (index : Option ℕ) → Settles h before → arg_by_id c name ≡ Some (single name long index)
      → Doomed (with_option name (settled c h))
  option_doomed h before name long index s id = (rw id (no_text name long index (settled c h).rows), s.2)

  -- ---- the end

  pub ends_refused : (w : Walk) → Doomed w.held → passes w [] ≡ false
  ends_refused w doomed = passes_end w ∙ (none_of_both (settle_fault c false w.held) _ ∙ ap (λ b. b && no_kinds (or_else (defaults_fault (settled c w.held).rows c) (check_fault (top_of title c) (finished c w.held) false))) doomed.0)

  -- past `--` what is pending is refused at the next word or at the end
  pub doomed_trailing : (h : Held) (waiting : Waiting) (place : ℕ) (names words : List Text) → Places c place names → Doomed h → passes (at h waiting place true) words ≡ false
  doomed_trailing h waiting place names [] places doomed = ends_refused (at h waiting place true) doomed
  doomed_trailing h waiting place names (word ∷ words) places doomed = turn_refused (at h waiting place true) word words (value_fault h place names places doomed.0)

module _ (title : Text) (c : List Rule) (options : List Text) (finds : Finds options c) where
  pub ends_accepted : (w : Walk) (before : List NamedValue) → Settles title c w.held before → Agrees title c w [] before (Some [])
  ends_accepted w before s = (
    passes_end title c w ∙ rw (s.0, no_defaults_fault c (settled c w.held).rows finds.defaults, finds.optional (finished c w.held)) refl,
    λ values is once.
        let none : [] ≡ values = ap (λ x. unwrap_or x []) is in
        rows_stay c (settled c w.held).rows finds.defaults ∙ (s.1 ∙ ap rows_of (sym (append-nil before) ∙ ap (λ xs. before ++ xs) none)),
  )

  -- an option whose text stands in its word, or follows
  pub long_doomed : (name : Text) (text : Option Text) (h : Held) → Doomed title c h → (o : Bool) → is_among name options ≡ o → no_kinds (long_fault c false (arg_by_long c name) text h) ≡ false
  long_doomed name text h doomed false other = rw (finds.unknown name other) refl
  long_doomed name None h doomed true is = rw (finds.long name is) doomed.0
  long_doomed name (Some text) h doomed true is =
      rw (finds.long name is) (none_of_both (settle_fault c false h) _ ∙ ap (λ b. b && no_kinds (use_fault false (option_arg name) (text ∷ []) (settled c h).rows)) doomed.0)

  -- what is pending is refused at the next word
  pub doomed_turn : (h : Held) (waiting : Waiting) (place : ℕ) (names : List Text) (word : Text) (words : List Text) → Places c place names → Doomed title c h → IsUtf8 word
      → (plain_word c waiting word h ≡ (h, value)) → ClassOf word → passes title c (at h waiting place false) (word ∷ words) ≡ false
  doomed_turn h waiting place names word words places doomed utf8 plain (is_dashes is kind) =
      passes_next title c (at h waiting place false) word words
      ∙ (ap₂ (λ b v. b && passes title c v words) (ap no_kinds (turn_is title c h waiting place word _ _ (dashes_fault title c waiting word h is) (dashes_met title c waiting word h place is)))
      (walked_is title c h waiting place word _ (dashes_met title c waiting word h place is))
      ∙ doomed_trailing title c h waiting place names words places doomed)
  doomed_turn h waiting place names word words places doomed utf8 plain (is_option name text other long kind) =
      turn_refused title c (at h waiting place false) word words (fault_first title c h waiting place word
      (ap no_kinds (option_word_fault title c waiting word h name text other long) ∙ long_doomed name text h doomed (is_among name options) refl))
  doomed_turn h waiting place names word words places doomed utf8 plain (is_flag x rest other long short whole kind) =
      turn_refused title c (at h waiting place false) word words (fault_first title c h waiting place word (flag_fault title c waiting word h x rest finds.short doomed.1 utf8 other long short whole))
  doomed_turn h waiting place names word words places doomed utf8 plain (is_plain other long short kind) =
      turn_refused title c (at h waiting place false) word words
      (ap no_kinds (turn_is title c h waiting place word _ _ (plain_word_fault title c waiting word h other long short) (plain_word_met title c waiting word h place other long short ∙ plain))
      ∙ value_fault title c h place names places doomed.0)

  pub doomed_idle : (h : Held) (place : ℕ) (names words : List Text) → AreTexts words → Places c place names → Doomed title c h → passes title c (at h idle place false) words ≡ false
  doomed_idle h place names [] texts places doomed = ends_refused title c (at h idle place false) doomed
  doomed_idle h place names (word ∷ words) texts places doomed = doomed_turn h idle place names word words places doomed texts.0 refl (class_of word)

  -- ---- past `--`

  pub agrees_trailing : (words : List Text) (h : Held) (place : ℕ) (names : List Text) (before : List NamedValue) → Settles title c h before → Places c place names
      → Agrees title c (at h idle place true) words before (in_turn names words)
  agrees_trailing [] h place names before s places = ends_accepted (at h idle place true) before s
  agrees_trailing (word ∷ words) h place [] before s places =
      both_refuse title c (at h idle place true) (word ∷ words) before None (turn_refused title c (at h idle place true) word words (no_place_left title c h place places)) refl
  agrees_trailing (word ∷ words) h place (name ∷ names) before s places =
      go (has_name name before) refl (agrees_trailing words (with_text name word (settled c h)) (next_position (positional_arg place name) place) names)
    where
      turn : no_kinds (turn_fault (top_of title c) [] (at h idle place true) word) ≡ true
      turn = ap no_kinds (value_passes title c h place name names places s.0)

      after : walked c [] (at h idle place true) word ≡ at (with_text name word (settled c h)) idle (next_position (positional_arg place name) place) true
      after = walked_trailing title c h idle place word ∙ value_walked title c h idle place true word name names places

      go : (b : Bool) → has_name name before ≡ b
          → ((more : List NamedValue) → Settles title c (with_text name word (settled c h)) more → Places c (next_position (positional_arg place name) place) names
          → Agrees title c (at (with_text name word (settled c h)) idle (next_position (positional_arg place name) place) true) words more (in_turn names words))
          → Agrees title c (at h idle place true) (word ∷ words) before (under name word (in_turn names words))
      go false new rest =
          value_new title c (at h idle place true) _ word words before name word (in_turn names words) turn after new
          (rest (before ++ record { name = name; text = word } ∷ []) (text_settles title c h before name word None (Some place) s places.1 new) places.2)
      go true again rest =
          both_refuse title c (at h idle place true) (word ∷ words) before (under name word (in_turn names words))
          (passes_next title c (at h idle place true) word words ∙ (ap₂ (λ b v. b && passes title c v words) turn after
          ∙ doomed_trailing title c (with_text name word (settled c h)) idle _ names words places.2 (text_doomed title c h before name word None (Some place) s places.1 again)))
          (again_refused title c before name word (in_turn names words) again)

  -- ---- before `--`

  abbrev AgreesIdle : List Text → Type 0
  AgreesIdle words = (h : Held) (place : ℕ) (names : List Text) (before : List NamedValue) → AreTexts words → Settles title c h before → Places c place names
      → Agrees title c (at h idle place false) words before (values_of options words names None)

  abbrev AgreesWaiting : List Text → Type 0
  AgreesWaiting words = (h : Held) (place : ℕ) (names : List Text) (before : List NamedValue) (name : Text) → AreTexts words → Settles title c h before → Places c place names
      → is_among name options ≡ true → Agrees title c (at (with_option name (settled c h)) (option name) place false) words before (values_of options words names (Some name))

  values_next : (word : Text) (words names : List Text) (waiting : Option Text) (kind : Kind) → kind_of word ≡ kind
      → values_of options (word ∷ words) names waiting ≡ word_values options kind word words names waiting (values_of options words)
  unfolding values_of
  values_next word words names waiting kind is = ap (λ k. word_values options k word words names waiting (values_of options words)) is

  values_end : (names : List Text) → values_of options [] names None ≡ Some []
  unfolding values_of
  values_end names = refl

  values_unended : (names : List Text) (name : Text) → values_of options [] names (Some name) ≡ None
  unfolding values_of
  values_unended names name = refl

  -- the text of an option that waited
  text_met : (h : Held) (name word : Text) → is_among name options ≡ true → plain_word c (option name) word (with_option name (settled c h)) ≡ (with_text name word (settled c h), next idle)
  text_met h name word is = rw (finds.by_id name is, same_text name) refl

  waiting_end : AgreesWaiting []
  waiting_end h place names before name texts s places is =
      both_refuse title c (at (with_option name (settled c h)) (option name) place false) [] before _
      (ends_refused title c (at (with_option name (settled c h)) (option name) place false) (option_doomed title c h before name (Some name) None s (finds.by_id name is)))
      (ap (is_accepted before) (values_unended names name))

  waiting_refused : (word : Text) (words : List Text) (h : Held) (place : ℕ) (names : List Text) (before : List NamedValue) (name : Text) (kind : Kind)
      → passes title c (at (with_option name (settled c h)) (option name) place false) (word ∷ words) ≡ false → kind_of word ≡ kind
      → is_accepted before (word_values options kind word words names (Some name) (values_of options words)) ≡ false
      → Agrees title c (at (with_option name (settled c h)) (option name) place false) (word ∷ words) before (values_of options (word ∷ words) names (Some name))
  waiting_refused word words h place names before name kind fails is none =
      both_refuse title c (at (with_option name (settled c h)) (option name) place false) (word ∷ words) before _ fails (ap (is_accepted before) (values_next word words names (Some name) kind is) ∙ none)

  waiting_text : (word : Text) (words : List Text) (h : Held) (place : ℕ) (names : List Text) (before : List NamedValue) (name : Text) → AreTexts words → Settles title c h before → Places c place names
      → is_among name options ≡ true → AgreesIdle words → bytes_eq word (codes "--") ≡ false → long_of word ≡ None → short_of word ≡ None
      → Agrees title c (at (with_option name (settled c h)) (option name) place false) (word ∷ words) before (under name word (values_of options words names None))
  waiting_text word words h place names before name texts s places is rest other long short = go (has_name name before) refl
    where
      met : word_met c [] false (option name) place word (with_option name (settled c h)) ≡ (with_text name word (settled c h), next idle)
      met = plain_word_met title c (option name) word (with_option name (settled c h)) place other long short ∙ text_met h name word is

      turn : no_kinds (turn_fault (top_of title c) [] (at (with_option name (settled c h)) (option name) place false) word) ≡ true
      turn = ap no_kinds (turn_is title c (with_option name (settled c h)) (option name) place word _ _ (plain_word_fault title c (option name) word (with_option name (settled c h)) other long short) met)

      after : walked c [] (at (with_option name (settled c h)) (option name) place false) word ≡ at (with_text name word (settled c h)) idle place false
      after = walked_is title c (with_option name (settled c h)) (option name) place word _ met

      go : (b : Bool) → has_name name before ≡ b
          → Agrees title c (at (with_option name (settled c h)) (option name) place false) (word ∷ words) before (under name word (values_of options words names None))
      go false new =
          value_new title c _ _ word words before name word _ turn after new
          (rest (with_text name word (settled c h)) place names (before ++ record { name = name; text = word } ∷ []) texts (text_settles title c h before name word (Some name) None s (finds.by_id name is) new) places)
      go true again =
          both_refuse title c _ (word ∷ words) before _
          (passes_next title c _ word words ∙ (ap₂ (λ b v. b && passes title c v words) turn after
          ∙ doomed_idle (with_text name word (settled c h)) place names words texts places (text_doomed title c h before name word (Some name) None s (finds.by_id name is) again)))
          (again_refused title c before name word _ again)

  waiting_step : (word : Text) (words : List Text) → AgreesIdle words → ClassOf word → AgreesWaiting (word ∷ words)
  waiting_step word words rest (is_dashes is kind) h place names before name texts s places among =
      waiting_refused word words h place names before name kinds.dashes
      (passes_next title c (at (with_option name (settled c h)) (option name) place false) word words
      ∙ (ap₂ (λ b v. b && passes title c v words)
      (ap no_kinds (turn_is title c (with_option name (settled c h)) (option name) place word _ _ (dashes_fault title c (option name) word (with_option name (settled c h)) is) (dashes_met title c (option name) word (with_option name (settled c h)) place is)))
      (walked_is title c (with_option name (settled c h)) (option name) place word _ (dashes_met title c (option name) word (with_option name (settled c h)) place is))
      ∙ doomed_trailing title c (with_option name (settled c h)) (option name) place names words places (option_doomed title c h before name (Some name) None s (finds.by_id name among))))
      kind refl
  waiting_step word words rest (is_option other_name text other long kind) h place names before name texts s places among =
      waiting_refused word words h place names before name (kinds.option other_name text)
      (turn_refused title c (at (with_option name (settled c h)) (option name) place false) word words (fault_first title c (with_option name (settled c h)) (option name) place word
      (ap no_kinds (option_word_fault title c (option name) word (with_option name (settled c h)) other_name text other long)
      ∙ long_doomed other_name text (with_option name (settled c h)) (option_doomed title c h before name (Some name) None s (finds.by_id name among)) (is_among other_name options) refl)))
      kind refl
  waiting_step word words rest (is_flag x tail other long short whole kind) h place names before name texts s places among =
      waiting_refused word words h place names before name kinds.flag
      (turn_refused title c (at (with_option name (settled c h)) (option name) place false) word words (fault_first title c (with_option name (settled c h)) (option name) place word
      (flag_fault title c (option name) word (with_option name (settled c h)) x tail finds.short s.2 texts.0 other long short whole)))
      kind refl
  waiting_step word words rest (is_plain other long short kind) h place names before name texts s places among =
      subst (Agrees title c (at (with_option name (settled c h)) (option name) place false) (word ∷ words) before) (sym (values_next word words names (Some name) kinds.plain kind))
      (waiting_text word words h place names before name texts.1 s places among rest other long short)

  -- an option whose text stands in its word
  option_with_text : (word : Text) (words : List Text) (h : Held) (place : ℕ) (names : List Text) (before : List NamedValue) (name text : Text) → AreTexts words → Settles title c h before
      → Places c place names → is_among name options ≡ true → AgreesIdle words → bytes_eq word (codes "--") ≡ false → long_of word ≡ Some (name, Some text)
      → Agrees title c (at h idle place false) (word ∷ words) before (under name text (values_of options words names None))
  option_with_text word words h place names before name text texts s places is rest other long = go (has_name name before) refl
    where
      fault : word_fault (top_of title c) [] false idle word h ≡ or_else (settle_fault c false h) (use_fault false (option_arg name) (text ∷ []) (settled c h).rows)
      fault = option_word_fault title c idle word h name (Some text) other long ∙ rw (finds.long name is) refl

      verdict : no_kinds (word_fault (top_of title c) [] false idle word h) ≡ not (has_name name before)
      verdict = ap no_kinds fault ∙ rw (s.0, s.1) (use_refused name text (Some name) None before)

      met : word_met c [] false idle place word h ≡ (reacted c (option_arg name) (text ∷ []) h, next idle)
      met = option_word_met title c idle word h place name (Some text) other long ∙ rw (finds.long name is) refl

      go : (b : Bool) → has_name name before ≡ b → Agrees title c (at h idle place false) (word ∷ words) before (under name text (values_of options words names None))
      go false new =
          value_new title c (at h idle place false) (at (reacted c (option_arg name) (text ∷ []) h) idle place false) word words before name text _
          (ap no_kinds (turn_is title c h idle place word [] _ (nil_of _ (verdict ∙ ap not new)) met))
          (walked_is title c h idle place word _ met) new
          (rest (reacted c (option_arg name) (text ∷ []) h) place names (before ++ record { name = name; text = text } ∷ []) texts (refl, rw s.1 (used_new name text (Some name) None before new), s.2) places)
      go true again =
          both_refuse title c (at h idle place false) (word ∷ words) before _
          (turn_refused title c (at h idle place false) word words (fault_first title c h idle place word (verdict ∙ ap not again)))
          (again_refused title c before name text _ again)

  -- an option whose text follows
  option_alone : (word : Text) (words : List Text) (h : Held) (place : ℕ) (names : List Text) (before : List NamedValue) (name : Text) → AreTexts words → Settles title c h before
      → Places c place names → is_among name options ≡ true → AgreesWaiting words → bytes_eq word (codes "--") ≡ false → long_of word ≡ Some (name, None)
      → Agrees title c (at h idle place false) (word ∷ words) before (values_of options words names (Some name))
  option_alone word words h place names before name texts s places is rest other long =
      word_passes title c (at h idle place false) (at (with_option name (settled c h)) (option name) place false) word words before _
      (ap no_kinds (turn_is title c h idle place word [] _ (option_word_fault title c idle word h name None other long ∙ rw (finds.long name is) s.0) met))
      (walked_is title c h idle place word _ met) (rest h place names before name texts s places is)
    where
      met : word_met c [] false idle place word h ≡ (with_option name (settled c h), next (option name))
      met = option_word_met title c idle word h place name None other long ∙ rw (finds.long name is) refl

  idle_refused : (word : Text) (words : List Text) (h : Held) (place : ℕ) (names : List Text) (before : List NamedValue) (kind : Kind) → kind_of word ≡ kind
      → no_kinds (turn_fault (top_of title c) [] (at h idle place false) word) ≡ false
      → word_values options kind word words names None (values_of options words) ≡ None
      → Agrees title c (at h idle place false) (word ∷ words) before (values_of options (word ∷ words) names None)
  idle_refused word words h place names before kind is fails none =
      both_refuse title c (at h idle place false) (word ∷ words) before _ (turn_refused title c (at h idle place false) word words fails)
      (ap (is_accepted before) (values_next word words names None kind is ∙ none))

  idle_option : (word : Text) (words : List Text) (h : Held) (place : ℕ) (names : List Text) (before : List NamedValue) (name : Text) (text : Option Text) → AreTexts words → Settles title c h before
      → Places c place names → (b : Bool) → is_among name options ≡ b → AgreesIdle words → AgreesWaiting words → bytes_eq word (codes "--") ≡ false → long_of word ≡ Some (name, text)
      → kind_of word ≡ kinds.option name text → Agrees title c (at h idle place false) (word ∷ words) before (values_of options (word ∷ words) names None)
  idle_option word words h place names before name None texts s places false among idle_rest waiting_rest other long kind =
      idle_refused word words h place names before (kinds.option name None) kind
      (fault_first title c h idle place word (ap no_kinds (option_word_fault title c idle word h name None other long) ∙ rw (finds.unknown name among) refl)) (rw among refl)
  idle_option word words h place names before name (Some text) texts s places false among idle_rest waiting_rest other long kind =
      idle_refused word words h place names before (kinds.option name (Some text)) kind
      (fault_first title c h idle place word (ap no_kinds (option_word_fault title c idle word h name (Some text) other long) ∙ rw (finds.unknown name among) refl)) (rw among refl)
  idle_option word words h place names before name None texts s places true among idle_rest waiting_rest other long kind =
      subst (Agrees title c (at h idle place false) (word ∷ words) before) (sym (values_next word words names None (kinds.option name None) kind ∙ rw among refl))
      (option_alone word words h place names before name texts s places among waiting_rest other long)
  idle_option word words h place names before name (Some text) texts s places true among idle_rest waiting_rest other long kind =
      subst (Agrees title c (at h idle place false) (word ∷ words) before) (sym (values_next word words names None (kinds.option name (Some text)) kind ∙ rw among refl))
      (option_with_text word words h place names before name text texts s places among idle_rest other long)

  -- a positional word
  idle_plain : (word : Text) (words : List Text) (h : Held) (place : ℕ) (names : List Text) (before : List NamedValue) → AreTexts words → Settles title c h before
      → Places c place names → AgreesIdle words → bytes_eq word (codes "--") ≡ false → long_of word ≡ None → short_of word ≡ None → kind_of word ≡ kinds.plain
      → Agrees title c (at h idle place false) (word ∷ words) before (values_of options (word ∷ words) names None)
  idle_plain word words h place [] before texts s places rest other long short kind =
      idle_refused word words h place [] before kinds.plain kind
      (ap no_kinds (turn_is title c h idle place word [] _ (plain_word_fault title c idle word h other long short) (plain_word_met title c idle word h place other long short)) ∙ no_place_left title c h place places) refl
  idle_plain word words h place (name ∷ names) before texts s places rest other long short kind =
      subst (Agrees title c (at h idle place false) (word ∷ words) before) (sym (values_next word words (name ∷ names) None kinds.plain kind)) (go (has_name name before) refl)
    where
      met : word_met c [] false idle place word h ≡ (h, value)
      met = plain_word_met title c idle word h place other long short

      turn : no_kinds (turn_fault (top_of title c) [] (at h idle place false) word) ≡ true
      turn = ap no_kinds (turn_is title c h idle place word [] _ (plain_word_fault title c idle word h other long short) met ∙ value_passes title c h place name names places s.0)

      after : walked c [] (at h idle place false) word ≡ at (with_text name word (settled c h)) idle (next_position (positional_arg place name) place) false
      after = walked_is title c h idle place word _ met ∙ value_walked title c h idle place false word name names places

      go : (b : Bool) → has_name name before ≡ b → Agrees title c (at h idle place false) (word ∷ words) before (under name word (values_of options words names None))
      go false new =
          value_new title c (at h idle place false) _ word words before name word _ turn after new
          (rest (with_text name word (settled c h)) (next_position (positional_arg place name) place) names (before ++ record { name = name; text = word } ∷ []) texts
          (text_settles title c h before name word None (Some place) s places.1 new) places.2)
      go true again =
          both_refuse title c (at h idle place false) (word ∷ words) before _
          (passes_next title c (at h idle place false) word words ∙ (ap₂ (λ b v. b && passes title c v words) turn after
          ∙ doomed_idle (with_text name word (settled c h)) (next_position (positional_arg place name) place) names words texts places.2 (text_doomed title c h before name word None (Some place) s places.1 again)))
          (again_refused title c before name word _ again)

  idle_step : (word : Text) (words : List Text) → AgreesIdle words → AgreesWaiting words → ClassOf word → AgreesIdle (word ∷ words)
  idle_step word words idle_rest waiting_rest (is_dashes is kind) h place names before texts s places =
      subst (Agrees title c (at h idle place false) (word ∷ words) before) (sym (values_next word words names None kinds.dashes kind))
      (word_passes title c (at h idle place false) (at h idle place true) word words before (in_turn names words)
      (ap no_kinds (turn_is title c h idle place word [] _ (dashes_fault title c idle word h is) (dashes_met title c idle word h place is)))
      (walked_is title c h idle place word _ (dashes_met title c idle word h place is)) (agrees_trailing words h place names before s places))
  idle_step word words idle_rest waiting_rest (is_option name text other long kind) h place names before texts s places =
      idle_option word words h place names before name text texts.1 s places (is_among name options) refl idle_rest waiting_rest other long kind
  idle_step word words idle_rest waiting_rest (is_flag x tail other long short whole kind) h place names before texts s places =
      idle_refused word words h place names before kinds.flag kind
      (fault_first title c h idle place word (flag_fault title c idle word h x tail finds.short s.2 texts.0 other long short whole)) refl
  idle_step word words idle_rest waiting_rest (is_plain other long short kind) h place names before texts s places =
      idle_plain word words h place names before texts.1 s places idle_rest other long short kind

  pub agrees : (words : List Text) → AgreesIdle words × AgreesWaiting words
  agrees [] = (
    λ h place names before texts s places. subst (Agrees title c (at h idle place false) [] before) (sym (values_end names)) (ends_accepted (at h idle place false) before s),
    waiting_end,
  )
  agrees (word ∷ words) =
      let rest = agrees words in
      (idle_step word words rest.0 rest.1 (class_of word), waiting_step word words rest.0 (class_of word))
