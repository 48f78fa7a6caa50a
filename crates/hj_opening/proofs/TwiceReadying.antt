-- Opening the streams of two joins in a row: all three are open, or the run ends early.
use Rattle.std.proofs.Common.{◌≡◌, ◌≢◌, ℕ, List, Err, false, sym, ◌∙◌, ap, subst, refl}
use Rattle.std.proofs.KnownBytes.{Appends-nil}
use Rattle.std.specs.declared.option.Option.{Option}
use Rattle.hj_base.specs.declared.outside.Role.{Role}
use Rattle.hj_base.specs.declared.outside.Role.TheVariants as role
use Rattle.hj_base.specs.Counts.{Rose}
use Rattle.hj_base.specs.Outside.{RoleState, ChangesOnly, IsOpen, opened, unbegun}
use Rattle.hj_notes.specs.declared.note.Note.{Note}
use Rattle.hj_notes.specs.declared.note.Note.TheVariants as why
use Rattle.hj_notes.specs.declared.twice_note.TwiceNote.TheVariants as note
use Rattle.hj_opening.specs.declared.twice.TwoQueries.{TwoQueries}
use Rattle.hj_opening.specs.Opening.{IsOpened, Opens}
use Rattle.hj_opening.specs.Queries.{IsAccepted}
use Rattle.hj_opening.specs.ReadyTwice.{AreBothRead, EndsTwiceEarly, IsTwiceReady}
use Rattle.hj_opening.specs.Streams.{IsBegunUnder}
use Rattle.hj_opening.specs.TwoJoins.{AcceptsBoth, BeginsTwice, IsTwiceRole}
use Rattle.hj_opening.specs.Words.{TwiceNames}
use Rattle.hj_opening.proofs.Phases.{Roles, begun-opened, begun-refused, begun-unbegun, fails_as, not_open-refused, open-opened}
use Rattle.hj_opening.proofs.TwiceEndings.{CountsSinkTwice, TwiceCause}
use Rattle.hj_opening.proofs.TwiceReading.{ends_early, not_role, so}

module _ (names : TwiceNames) (limit : ℕ) (under : List ℕ → Option (List ℕ)) (before : Roles) (unbegun_before : (of : Role) → (before of).phase ≡ unbegun) where
  -- What a stream that couldn't be opened says of the run.
  record Unopened (found : Note) (name : List ℕ) (of : Role) (now : Roles) : Type 0 where
    pub cause : (told : Option (List ℕ)) (faults : ℕ) → TwiceCause names limit (so names limit under before unbegun_before now told faults) (Err (note.Common found))
    pub counts : (faults : ℕ) → CountsSinkTwice (Err (note.Common found)) faults faults
    pub begun : IsBegunUnder name (now of).phase

  unopened : (found : Note) (name : List ℕ) (told : Option (List ℕ)) (of : Role) (mid now : Roles) → IsTwiceRole of → mid of ≡ before of → Opens (Err found) of name told (mid of) (now of) → Unopened found name of now
  unopened (why.Source failed) name told of mid now has same opens = record {
    cause = λ out faults. record {
      has = subst IsTwiceRole (sym opens.0) has;
      fails = fails_as failed of before now opens.0 (subst (λ (s : RoleState). Rose s.faults (now of).faults) same opens.1.fails);
      unopened = λ no. Appends-nil out;
      opened = λ are. absurd (not_open-refused name (now of).phase opens.1.phase (are of has));
    };
    counts = λ faults. refl;
    begun = begun-refused name (now of).phase opens.1.phase;
  }
  unopened why.Memory name told of mid now has same opens = record {
    cause = λ out faults. tt;
    counts = λ faults. refl;
    begun = begun-unbegun name (now of).phase (ap (λ (s : RoleState). s.phase) (opens ∙ same) ∙ unbegun_before of);
  }
  unopened why.Usage name told of mid now has same opens = absurd opens
  unopened (why.BadQuery found) name told of mid now has same opens = absurd opens
  unopened (why.BadRecord side at found) name told of mid now has same opens = absurd opens
  unopened why.Sink name told of mid now has same opens = absurd opens
  unopened (why.TooManyEvents most) name told of mid now has same opens = absurd opens

  module _ (queries : TwoQueries) (asked : Roles) (both : AreBothRead queries names under before asked) where
    left_asked : asked role.Left ≡ before role.Left
    left_asked = both.others role.Left (λ e. cc) (λ e. cc)

    right_asked : asked role.Right ≡ before role.Right
    right_asked = both.others role.Right (λ e. cc) (λ e. cc)

    third_asked : asked role.Third ≡ before role.Third
    third_asked = both.others role.Third (λ e. cc) (λ e. cc)

    module _ (now : Roles) (first_stays : now role.Query ≡ asked role.Query) (second_stays : now role.SecondQuery ≡ asked role.SecondQuery) where
      accepted_now : AcceptsBoth queries.first queries.second names under before now
      accepted_now = record {
        of_first = subst (λ (s : RoleState). IsAccepted queries.first names.query (under names.query) (before role.Query) s) (sym first_stays) both.accepted.of_first;
        of_second = subst (λ (s : RoleState). IsAccepted queries.second names.second (under names.second) (before role.SecondQuery) s) (sym second_stays) both.accepted.of_second;
        fits = both.accepted.fits;
      }

      first_now : IsBegunUnder names.query (now role.Query).phase
      first_now = subst (λ (s : RoleState). IsBegunUnder names.query s.phase) (sym first_stays) both.first_begun

      second_now : IsBegunUnder names.second (now role.SecondQuery).phase
      second_now = subst (λ (s : RoleState). IsBegunUnder names.second s.phase) (sym second_stays) both.second_begun

      begins : IsBegunUnder names.streams.left (now role.Left).phase → IsBegunUnder names.streams.right (now role.Right).phase → IsBegunUnder names.third (now role.Third).phase
          → ((now role.Right).phase ≢ unbegun → IsOpen (now role.Left).phase) → ((now role.Third).phase ≢ unbegun → IsOpen (now role.Right).phase) → BeginsTwice names under before now
      begins left right third left_open right_open = record {
        query = first_now;
        second = second_now;
        left = left;
        right = right;
        third = third;
        first_accepted = λ begun. (queries.first, accepted_now.of_first);
        both_accepted = λ begun. (queries.first, (queries.second, accepted_now));
        left_open = left_open;
        right_open = right_open;
      }

    -- ---- the left stream

    module _ (with_left : Roles) (opening_left : ChangesOnly role.Left asked with_left) where
      right_with_left : with_left role.Right ≡ before role.Right
      right_with_left = opening_left role.Right (λ e. cc) ∙ right_asked

      third_with_left : with_left role.Third ≡ before role.Third
      third_with_left = opening_left role.Third (λ e. cc) ∙ third_asked

      none_with_left : (of : Role) → ¬ (IsTwiceRole of) → with_left of ≡ before of
      none_with_left of none = opening_left of (not_role of role.Left tt none) ∙ both.others of (not_role of role.Query tt none) (not_role of role.SecondQuery tt none)

      pub left_failed : (found : Note) (told : Option (List ℕ)) → Opens (Err found) role.Left names.streams.left told (asked role.Left) (with_left role.Left) → EndsTwiceEarly (note.Common found) names limit under before with_left
      left_failed found told opens =
          let failed : Unopened found names.streams.left role.Left with_left = unopened found names.streams.left told role.Left asked with_left tt left_asked opens in
          let right : (with_left role.Right).phase ≡ unbegun = ap (λ (s : RoleState). s.phase) right_with_left ∙ unbegun_before role.Right in
          let third : (with_left role.Third).phase ≡ unbegun = ap (λ (s : RoleState). s.phase) third_with_left ∙ unbegun_before role.Third in
          ends_early names limit under before unbegun_before with_left (note.Common found) failed.cause failed.counts
          (begins with_left (opening_left role.Query (λ e. cc)) (opening_left role.SecondQuery (λ e. cc)) failed.begun (begun-unbegun names.streams.right (with_left role.Right).phase right) (begun-unbegun names.third (with_left role.Third).phase third)
          (λ begun. absurd (begun right)) (λ begun. absurd (begun third)))
          (λ of none. ap (λ (s : RoleState). s.phase) (none_with_left of none) ∙ unbegun_before of)

      -- ---- the right stream

      module _ (left_told : Option (List ℕ)) (left_ready : IsOpened names.streams.left left_told (asked role.Left) (with_left role.Left)) (with_right : Roles) (opening_right : ChangesOnly role.Right with_left with_right) where
        left_is_open : IsOpen (with_right role.Left).phase
        left_is_open = open-opened names.streams.left false (with_right role.Left).phase (ap (λ (s : RoleState). s.phase) (opening_right role.Left (λ e. cc)) ∙ left_ready.phase)

        left_begun : IsBegunUnder names.streams.left (with_right role.Left).phase
        left_begun = begun-opened names.streams.left false (with_right role.Left).phase (ap (λ (s : RoleState). s.phase) (opening_right role.Left (λ e. cc)) ∙ left_ready.phase)

        third_with_right : with_right role.Third ≡ before role.Third
        third_with_right = opening_right role.Third (λ e. cc) ∙ third_with_left

        none_with_right : (of : Role) → ¬ (IsTwiceRole of) → with_right of ≡ before of
        none_with_right of none = opening_right of (not_role of role.Right tt none) ∙ none_with_left of none

        first_with_right : with_right role.Query ≡ asked role.Query
        first_with_right = opening_right role.Query (λ e. cc) ∙ opening_left role.Query (λ e. cc)

        second_with_right : with_right role.SecondQuery ≡ asked role.SecondQuery
        second_with_right = opening_right role.SecondQuery (λ e. cc) ∙ opening_left role.SecondQuery (λ e. cc)

        pub right_failed : (found : Note) (told : Option (List ℕ)) → Opens (Err found) role.Right names.streams.right told (with_left role.Right) (with_right role.Right) → EndsTwiceEarly (note.Common found) names limit under before with_right
        right_failed found told opens =
            let failed : Unopened found names.streams.right role.Right with_right = unopened found names.streams.right told role.Right with_left with_right tt right_with_left opens in
            let third : (with_right role.Third).phase ≡ unbegun = ap (λ (s : RoleState). s.phase) third_with_right ∙ unbegun_before role.Third in
            ends_early names limit under before unbegun_before with_right (note.Common found) failed.cause failed.counts
            (begins with_right first_with_right second_with_right left_begun failed.begun (begun-unbegun names.third (with_right role.Third).phase third) (λ begun. left_is_open) (λ begun. absurd (begun third)))
            (λ of none. ap (λ (s : RoleState). s.phase) (none_with_right of none) ∙ unbegun_before of)

        -- ---- the third stream

        module _ (right_told : Option (List ℕ)) (right_ready : IsOpened names.streams.right right_told (with_left role.Right) (with_right role.Right)) (now : Roles) (opening_third : ChangesOnly role.Third with_right now) where
          left_now : now role.Left ≡ with_left role.Left
          left_now = opening_third role.Left (λ e. cc) ∙ opening_right role.Left (λ e. cc)

          right_now : now role.Right ≡ with_right role.Right
          right_now = opening_third role.Right (λ e. cc)

          left_phase : (now role.Left).phase ≡ opened names.streams.left false
          left_phase = ap (λ (s : RoleState). s.phase) left_now ∙ left_ready.phase

          right_phase : (now role.Right).phase ≡ opened names.streams.right false
          right_phase = ap (λ (s : RoleState). s.phase) right_now ∙ right_ready.phase

          untouched : (of : Role) → ¬ (IsTwiceRole of) → now of ≡ before of
          untouched of none = opening_third of (not_role of role.Third tt none) ∙ none_with_right of none

          none_now : (of : Role) → ¬ (IsTwiceRole of) → (now of).phase ≡ unbegun
          none_now of none = ap (λ (s : RoleState). s.phase) (untouched of none) ∙ unbegun_before of

          pub third_failed : (found : Note) (told : Option (List ℕ)) → Opens (Err found) role.Third names.third told (with_right role.Third) (now role.Third) → EndsTwiceEarly (note.Common found) names limit under before now
          third_failed found told opens =
              let failed : Unopened found names.third role.Third now = unopened found names.third told role.Third with_right now tt third_with_right opens in
              ends_early names limit under before unbegun_before now (note.Common found) failed.cause failed.counts
              (begins now (opening_third role.Query (λ e. cc) ∙ first_with_right) (opening_third role.SecondQuery (λ e. cc) ∙ second_with_right) (begun-opened names.streams.left false (now role.Left).phase left_phase)
              (begun-opened names.streams.right false (now role.Right).phase right_phase) failed.begun (λ begun. open-opened names.streams.left false (now role.Left).phase left_phase) (λ begun. open-opened names.streams.right false (now role.Right).phase right_phase))
              none_now

          -- nothing failed
          left_faults : (now role.Left).faults ≡ (before role.Left).faults
          left_faults = ap (λ (s : RoleState). s.faults) left_now ∙ left_ready.faults ∙ ap (λ (s : RoleState). s.faults) left_asked

          right_faults : (now role.Right).faults ≡ (before role.Right).faults
          right_faults = ap (λ (s : RoleState). s.faults) right_now ∙ right_ready.faults ∙ ap (λ (s : RoleState). s.faults) right_with_left

          third_faults : (now role.Third).faults ≡ (with_right role.Third).faults → (now role.Third).faults ≡ (before role.Third).faults
          third_faults stays = stays ∙ ap (λ (s : RoleState). s.faults) third_with_right

          unfailed : (now role.Third).faults ≡ (with_right role.Third).faults → (of : Role) → (now of).faults ≡ (before of).faults
          unfailed stays role.Query = ap (λ (s : RoleState). s.faults) (opening_third role.Query (λ e. cc) ∙ first_with_right) ∙ both.unfailed role.Query
          unfailed stays role.SecondQuery = ap (λ (s : RoleState). s.faults) (opening_third role.SecondQuery (λ e. cc) ∙ second_with_right) ∙ both.unfailed role.SecondQuery
          unfailed stays role.Left = left_faults
          unfailed stays role.Right = right_faults
          unfailed stays role.Third = third_faults stays
          unfailed stays role.Trace = ap (λ (s : RoleState). s.faults) (untouched role.Trace (λ none. none))
          unfailed stays role.Output = ap (λ (s : RoleState). s.faults) (untouched role.Output (λ none. none))

          -- all are open
          pub all_opened : (third_told : Option (List ℕ)) → left_told ≡ under names.streams.left → right_told ≡ under names.streams.right → third_told ≡ under names.third → IsOpened names.third third_told (with_right role.Third) (now role.Third)
              → IsTwiceReady queries names under before now
          all_opened third_told same_left same_right same_third third_ready =
              let accepted : AcceptsBoth queries.first queries.second names under before now = accepted_now now (opening_third role.Query (λ e. cc) ∙ first_with_right) (opening_third role.SecondQuery (λ e. cc) ∙ second_with_right) in
              record {
                accepted = accepted;
                unfailed = unfailed third_ready.faults;
                first_begun = first_now now (opening_third role.Query (λ e. cc) ∙ first_with_right) (opening_third role.SecondQuery (λ e. cc) ∙ second_with_right);
                second_begun = second_now now (opening_third role.Query (λ e. cc) ∙ first_with_right) (opening_third role.SecondQuery (λ e. cc) ∙ second_with_right);
                left = record {
                  phase = left_phase;
                  left = ap (λ (s : RoleState). s.left) left_now ∙ left_ready.left ∙ same_left;
                  faults = left_faults;
                };
                right = record {
                  phase = right_phase;
                  left = ap (λ (s : RoleState). s.left) right_now ∙ right_ready.left ∙ same_right;
                  faults = right_faults;
                };
                third = record {
                  phase = third_ready.phase;
                  left = third_ready.left ∙ same_third;
                  faults = third_faults third_ready.faults;
                };
                others = none_now;
              }
