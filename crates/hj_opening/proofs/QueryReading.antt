-- A query's text was read under its name: what it spells, or why there is none.
use Rattle.std.proofs.Common.{◌≡◌, ◌⊎◌, ℕ, Bool, List, ◌++◌, false, true, Result, Ok, Err, None, Some, sym, ◌∙◌, ap, subst, inl, inr, refl, arith, append-nil}
use Rattle.std.specs.Io.KnownBytes.{Consumes, IsAtEnd}
use Rattle.std.specs.declared.option.Option.{Option}
use Rattle.std.specs.Prelude.{IfSome}
use Rattle.hj_base.specs.declared.outside.Role.{Role}
use Rattle.hj_base.specs.Counts.{Rose}
use Rattle.hj_base.specs.Journals.{IsPrefix}
use Rattle.hj_base.specs.Outside.{RoleState, Phase, ChangesOnly, at_end, opened, unbegun}
use Rattle.hj_query.specs.QueryParts.{QueryParts}
use Rattle.hj_query.specs.Texts.{IsFirstQueryFault, Spells, Unless}
use Rattle.hj_query.specs.declared.fault.QueryFault.{QueryFault}
use Rattle.hj_query.specs.declared.fault.QueryFault.TheVariants as faults
use Rattle.hj_notes.specs.declared.note.Note.{Note}
use Rattle.hj_notes.specs.declared.note.Note.TheVariants as why
use Rattle.hj_opening.specs.Opening.{GetsQuery, IsOpened, ReadsToEnd, IsReadPast, Opens, Parses, ReadsText, refusal_of}
use Rattle.hj_opening.specs.Queries.{IsQueryRead, IsReadTooFar, IsReadWhole}
use Rattle.hj_opening.specs.Streams.{IsBegunUnder, StandsUnder}
use Rattle.hj_opening.specs.Words.{named}

-- ---- what a fault says of the text

refuses : (text : List ℕ) (found : QueryFault) → Unless found (IsFirstQueryFault text) → Parses (Err (refusal_of found)) text
refuses text faults.Memory first = tt
refuses text (faults.Lex lex) first = first (λ e. cc)
refuses text (faults.Expected wanted place) first = first (λ e. cc)
refuses text (faults.DoubleColumn place) first = first (λ e. cc)
refuses text (faults.UnknownColumn place) first = first (λ e. cc)
refuses text (faults.Types place) first = first (λ e. cc)
refuses text (faults.FirstColumn place) first = first (λ e. cc)
refuses text (faults.WindowRange place) first = first (λ e. cc)
refuses text (faults.SlackRange place) first = first (λ e. cc)
refuses text (faults.QuietRange place) first = first (λ e. cc)
refuses text (faults.TooDeep place) first = first (λ e. cc)
refuses text (faults.TooManyColumns place) first = first (λ e. cc)
refuses text faults.TooLong first = first (λ e. cc)

pub refuses_text : (text : List ℕ) (found : QueryFault) (note : Note) → note ≡ refusal_of found → Unless found (IsFirstQueryFault text) → Parses (Err note) text
refuses_text text found note e first = subst (λ (n : Note). Parses (Err n) text) (sym e) (refuses text found first)

-- ---- bytes that came

pub stands : (told left : Option (List ℕ)) (bytes : List ℕ) → Consumes told left bytes → IsAtEnd left → StandsUnder told bytes
stands None left bytes c e = tt
stands (Some xs) None bytes c e = absurd c
stands (Some xs) (Some ys) bytes c e = c ∙ ap (λ (z : List ℕ). bytes ++ z) e ∙ append-nil bytes

front_stands : (told left : Option (List ℕ)) (bytes : List ℕ) → Consumes told left bytes → IfSome told (λ known. IsPrefix bytes known)
front_stands None left bytes c = tt
front_stands (Some xs) None bytes c = absurd c
front_stands (Some xs) (Some ys) bytes c = record { rest = ys; is = c }

came : (told mid now : Option (List ℕ)) (bytes : List ℕ) → mid ≡ told → Consumes mid now bytes → Consumes told now bytes
came told mid now bytes e c = subst (λ (left : Option (List ℕ)). Consumes left now bytes) e c

pub changes_behind : (of : Role) (a b c : Role → RoleState) → ChangesOnly of a b → ChangesOnly of b c → ChangesOnly of a c
changes_behind of a b c first second other other_than = second other other_than ∙ first other other_than

begun_as : (name : List ℕ) (phase : Phase) (ended : Bool) → phase ≡ opened name ended → IsBegunUnder name phase
begun_as name phase ended e = subst (λ (p : Phase). IsBegunUnder name p) (sym e) refl

-- ---- the query under a name

module _ (asked : Role) (name : List ℕ) (under : List ℕ → Option (List ℕ)) (before mid now : Role → RoleState) where
  -- its stream couldn't be opened
  pub unopened : (note : Note) → Opens (Err note) asked name (under name) (before asked) (now asked) → (before asked).phase ≡ unbegun
      → ChangesOnly asked before now → GetsQuery (Err note) asked (named name) under before now
  unopened (why.Source failed) opens none others = record {
    cause = (name, refl, opens.0, opens.1.fails);
    begun = subst (λ (p : Phase). IsBegunUnder name p) (sym opens.1.phase) refl;
    others = others;
  }
  unopened why.Memory opens none others = record {
    cause = tt;
    begun = subst (λ (p : Phase). IsBegunUnder name p) (sym (ap (λ (s : RoleState). s.phase) opens ∙ none)) tt;
    others = others;
  }
  unopened why.Usage opens none others = absurd opens
  unopened (why.BadQuery found) opens none others = absurd opens
  unopened (why.BadRecord side at found) opens none others = absurd opens
  unopened why.Sink opens none others = absurd opens
  unopened (why.TooManyEvents limit) opens none others = absurd opens

  module _ (ready : IsOpened name (under name) (before asked) (mid asked)) (opening : ChangesOnly asked before mid) (reading : ChangesOnly asked mid now) where
    others_stay : ChangesOnly asked before now
    others_stay = changes_behind asked before mid now opening reading

    -- it couldn't be read
    pub unread : (note : Note) → ReadsText (Err note) asked (mid asked) (now asked) → GetsQuery (Err note) asked (named name) under before now
    unread (why.Source failed) reads = record {
      cause = (name, refl, reads.0, subst (λ (n : ℕ). Rose n (now asked).faults) ready.faults reads.2);
      begun = begun_as name (now asked).phase false (reads.1 ∙ ready.phase);
      others = others_stay;
    }
    unread why.Memory reads = record { cause = tt; begun = begun_as name (now asked).phase false (reads ∙ ready.phase); others = others_stay }
    unread why.Usage reads = absurd reads
    unread (why.BadQuery found) reads = absurd reads
    unread (why.BadRecord side at found) reads = absurd reads
    unread why.Sink reads = absurd reads
    unread (why.TooManyEvents limit) reads = absurd reads

    whole : (text : List ℕ) → ReadsToEnd text (mid asked) (now asked) → IsReadWhole text name (under name) (before asked) (now asked)
    whole text read = record {
      stands = stands (under name) (now asked).left text (came (under name) (mid asked).left (now asked).left text ready.left read.came) read.nothing_left;
      ended = (read.phase ∙ ap at_end ready.phase, read.nothing_left);
      faults = read.faults ∙ ready.faults;
    }

    too_far : (text : List ℕ) → IsReadPast text (mid asked) (now asked) → IsReadTooFar text name (under name) (before asked) (now asked)
    too_far text read = record {
      size = read.size;
      stands = front_stands (under name) (now asked).left text (came (under name) (mid asked).left (now asked).left text ready.left read.came);
      phase = read.phase ∙ ready.phase;
      faults = read.faults ∙ ready.faults;
    }

    query_read : (text : List ℕ) → ReadsToEnd text (mid asked) (now asked) ⊎ IsReadPast text (mid asked) (now asked)
        → IsQueryRead text name (under name) (before asked) (now asked)
    query_read text reads = elim reads [ inl read ↦ inl (whole text read) | inr past ↦ inr (too_far text past) ]

    begun_read : (text : List ℕ) → IsQueryRead text name (under name) (before asked) (now asked) → IsBegunUnder name (now asked).phase
    begun_read text read = elim read [ inl all ↦ begun_as name (now asked).phase true all.ended.0 | inr far ↦ begun_as name (now asked).phase false far.phase ]

    faults_read : (text : List ℕ) → IsQueryRead text name (under name) (before asked) (now asked) → (now asked).faults ≡ (before asked).faults
    faults_read text read = elim read [ inl all ↦ all.faults | inr far ↦ far.faults ]

    -- a text that was read too far spells nothing
    whole_spells : (text : List ℕ) (query : QueryParts) → IsQueryRead text name (under name) (before asked) (now asked) → Spells text query
        → IsReadWhole text name (under name) (before asked) (now asked)
    whole_spells text query read spelled = elim read [ inl all ↦ all | inr far ↦ absurd (omega (arith, far.size, spelled.short)) ]

    -- the text was read
    gets : (got : Result QueryParts Note) (text : List ℕ) → IsQueryRead text name (under name) (before asked) (now asked) → Parses got text → GetsQuery got asked (named name) under before now
    gets (Ok query) text read parses = record {
      cause = (record { text = text; read = whole_spells text query read parses; spelled = parses }, faults_read text read);
      begun = begun_read text read;
      others = others_stay;
    }
    gets (Err (why.BadQuery found)) text read parses = record {
      cause = (name, refl, record { text = text; read = read; first = parses });
      begun = begun_read text read;
      others = others_stay;
    }
    gets (Err why.Memory) text read parses = record { cause = tt; begun = begun_read text read; others = others_stay }
    gets (Err (why.Source of)) text read parses = absurd parses
    gets (Err why.Usage) text read parses = absurd parses
    gets (Err (why.BadRecord side at found)) text read parses = absurd parses
    gets (Err why.Sink) text read parses = absurd parses
    gets (Err (why.TooManyEvents limit)) text read parses = absurd parses

    pub gets_query : (got : Result QueryParts Note) (text seen : List ℕ) → seen ≡ text → ReadsToEnd text (mid asked) (now asked) ⊎ IsReadPast text (mid asked) (now asked) → Parses got seen
        → GetsQuery got asked (named name) under before now
    gets_query got text seen same reads parses = gets got text (query_read text reads) (subst (λ (t : List ℕ). Parses got t) same parses)
