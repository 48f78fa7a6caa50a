-- Reading the queries of two joins in a row: both were accepted and fit, or the run ends early.
use Rattle.std.proofs.Common.{◌≡◌, ◌≢◌, ℕ, List, [], Ok, Err, sym, ◌∙◌, ap, subst, inl, refl}
use Rattle.std.proofs.KnownBytes.{Appends-nil}
use Rattle.std.specs.declared.option.Option.{Option}
use Rattle.std.specs.declared.result.Result.{Result}
use Rattle.hj_base.specs.declared.outside.Role.{Role}
use Rattle.hj_base.specs.declared.outside.Role.TheVariants as role
use Rattle.hj_base.specs.Counts.{Rose}
use Rattle.hj_base.specs.Outside.{RoleState, unbegun}
use Rattle.hj_query.specs.declared.fault.QueryFault.{QueryFault}
use Rattle.hj_query.specs.QueryParts.{QueryParts}
use Rattle.hj_notes.specs.declared.note.Note.{Note}
use Rattle.hj_notes.specs.declared.note.Note.TheVariants as why
use Rattle.hj_notes.specs.declared.twice_note.TwiceNote.{TwiceNote}
use Rattle.hj_notes.specs.declared.twice_note.TwiceNote.TheVariants as note
use Rattle.hj_relay.specs.Fits.{Fits}
use Rattle.hj_opening.specs.Calls.{Call, call}
use Rattle.hj_opening.specs.Opening.{GetsQuery}
use Rattle.hj_opening.specs.Queries.{IsAccepted, IsRefused}
use Rattle.hj_opening.specs.ReadyTwice.{AreBothRead, EndsTwiceEarly, GetsSecond, GoesBehind, second_note}
use Rattle.hj_opening.specs.Streams.{IsBegunUnder}
use Rattle.hj_opening.specs.TwoJoins.{AcceptsFirst, AcceptsSecond, AreQueriesAlone, BeginsTwice, IsTwiceRole}
use Rattle.hj_opening.specs.Words.{TwiceNames, named}
use Rattle.hj_opening.proofs.Phases.{Roles, begun-unbegun, fails_as, not_open-unbegun}
use Rattle.hj_opening.proofs.RunningOrders.{same_name}
use Rattle.hj_opening.proofs.TwiceEndings.{CountsSinkTwice, TwiceCause, twice_runs}

abbrev Under : Type 0
Under = List ℕ → Option (List ℕ)

pub not_role : (of other : Role) → IsTwiceRole other → ¬ (IsTwiceRole of) → of ≢ other
not_role of other has none e = none (subst IsTwiceRole (sym e) has)

-- ---- the second query

-- it wasn't got
pub second_ungot : (name : List ℕ) (under : Under) (before now : Roles) (found : Note) → GetsQuery (Err found) role.SecondQuery (named name) under before now
    → GetsSecond (Err (second_note found)) name under before now
second_ungot name under before now (why.BadQuery found) gets = record {
  cause = subst (λ (n : List ℕ). IsRefused found n (under n) (before role.SecondQuery) (now role.SecondQuery)) (same_name name gets.cause.0 gets.cause.1) gets.cause.2;
  begun = gets.begun;
  others = gets.others;
}
second_ungot name under before now (why.Source failed) gets = record { cause = (gets.cause.2, gets.cause.3); begun = gets.begun; others = gets.others }
second_ungot name under before now why.Memory gets = record { cause = tt; begun = gets.begun; others = gets.others }
second_ungot name under before now why.Usage gets = absurd gets.cause
second_ungot name under before now (why.BadRecord of at found) gets = absurd gets.cause
second_ungot name under before now why.Sink gets = absurd gets.cause
second_ungot name under before now (why.TooManyEvents most) gets = absurd gets.cause

module _ (names : TwiceNames) (limit : ℕ) (under : Under) (before : Roles) (unbegun_before : (of : Role) → (before of).phase ≡ unbegun) where
  abbrev pub so : Roles → Option (List ℕ) → ℕ → Call
  so now told faults = call under before now told told faults faults

  -- a run that ends before its joins, and writes nothing
  pub ends_early : (now : Roles) (found : TwiceNote) → ((told : Option (List ℕ)) (faults : ℕ) → TwiceCause names limit (so now told faults) (Err found)) → ((faults : ℕ) → CountsSinkTwice (Err found) faults faults)
      → BeginsTwice names under before now → ((of : Role) → ¬ (IsTwiceRole of) → (now of).phase ≡ unbegun) → EndsTwiceEarly found names limit under before now
  ends_early now found cause counts begins none = λ told faults. twice_runs names limit (so now told faults) (Err found) (cause told faults) (counts faults) [] (Appends-nil told) (inl refl) begins none

  -- ---- the first query wasn't got

  module _ (now : Roles) where
    module _ (others : (of : Role) → of ≢ role.Query → (now of).phase ≡ unbegun) (query : IsBegunUnder names.query (now role.Query).phase) where
      begins_first : BeginsTwice names under before now
      begins_first = record {
        query = query;
        second = begun-unbegun names.second (now role.SecondQuery).phase (others role.SecondQuery (λ e. cc));
        left = begun-unbegun names.streams.left (now role.Left).phase (others role.Left (λ e. cc));
        right = begun-unbegun names.streams.right (now role.Right).phase (others role.Right (λ e. cc));
        third = begun-unbegun names.third (now role.Third).phase (others role.Third (λ e. cc));
        first_accepted = λ begun. absurd (begun (others role.SecondQuery (λ e. cc)));
        both_accepted = λ begun. absurd (begun (others role.Left (λ e. cc)));
        left_open = λ begun. absurd (begun (others role.Right (λ e. cc)));
        right_open = λ begun. absurd (begun (others role.Third (λ e. cc)));
      }

      none_first : (of : Role) → ¬ (IsTwiceRole of) → (now of).phase ≡ unbegun
      none_first of none = others of (not_role of role.Query tt none)

    pub first_refused : (found : Note) → GetsQuery (Err found) role.Query (named names.query) under before now → EndsTwiceEarly (note.Common found) names limit under before now
    first_refused (why.BadQuery found) gets =
        let others : (of : Role) → of ≢ role.Query → (now of).phase ≡ unbegun = λ of other. ap (λ (s : RoleState). s.phase) (gets.others of other) ∙ unbegun_before of in
        ends_early now (note.Common (why.BadQuery found))
        (λ told faults. record {
          refused = subst (λ (n : List ℕ). IsRefused found n (under n) (before role.Query) (now role.Query)) (same_name names.query gets.cause.0 gets.cause.1) gets.cause.2;
          alone = others;
          nothing = Appends-nil told;
        })
        (λ faults. refl) (begins_first others gets.begun) (none_first others gets.begun)
    first_refused (why.Source failed) gets =
        let others : (of : Role) → of ≢ role.Query → (now of).phase ≡ unbegun = λ of other. ap (λ (s : RoleState). s.phase) (gets.others of other) ∙ unbegun_before of in
        ends_early now (note.Common (why.Source failed))
        (λ told faults. record {
          has = subst IsTwiceRole (sym gets.cause.2) tt;
          fails = fails_as failed role.Query before now gets.cause.2 gets.cause.3;
          unopened = λ no. Appends-nil told;
          opened = λ are. absurd (not_open-unbegun (now role.Left).phase (others role.Left (λ e. cc)) (are role.Left tt));
        })
        (λ faults. refl) (begins_first others gets.begun) (none_first others gets.begun)
    first_refused why.Memory gets =
        let others : (of : Role) → of ≢ role.Query → (now of).phase ≡ unbegun = λ of other. ap (λ (s : RoleState). s.phase) (gets.others of other) ∙ unbegun_before of in
        ends_early now (note.Common why.Memory) (λ told faults. tt) (λ faults. refl) (begins_first others gets.begun) (none_first others gets.begun)
    first_refused why.Usage gets = absurd gets.cause
    first_refused (why.BadRecord of at found) gets = absurd gets.cause
    first_refused why.Sink gets = absurd gets.cause
    first_refused (why.TooManyEvents most) gets = absurd gets.cause

  -- ---- the first query was got

  module _ (mid : Roles) (first : QueryParts) (gets : GetsQuery (Ok first) role.Query (named names.query) under before mid) (told_after : Option (List ℕ)) (same : told_after ≡ under names.second) (now : Roles)
      (keeps_others : (of : Role) → of ≢ role.SecondQuery → now of ≡ mid of) (second_begun : IsBegunUnder names.second (now role.SecondQuery).phase) where
    query_stays : now role.Query ≡ mid role.Query
    query_stays = keeps_others role.Query (λ e. cc)

    accepts_first : AcceptsFirst first names under before now
    accepts_first = subst (λ (s : RoleState). IsAccepted first names.query (under names.query) (before role.Query) s) (sym query_stays) gets.cause.0

    second_mid : mid role.SecondQuery ≡ before role.SecondQuery
    second_mid = gets.others role.SecondQuery (λ e. cc)

    first_begun : IsBegunUnder names.query (now role.Query).phase
    first_begun = subst (λ (s : RoleState). IsBegunUnder names.query s.phase) (sym query_stays) gets.begun

    stay : (of : Role) → of ≢ role.Query → of ≢ role.SecondQuery → now of ≡ before of
    stay of no_query no_second = keeps_others of no_second ∙ gets.others of no_query

    alone : AreQueriesAlone now
    alone = λ of no_query no_second. ap (λ (s : RoleState). s.phase) (stay of no_query no_second) ∙ unbegun_before of

    begins_second : BeginsTwice names under before now
    begins_second = record {
      query = first_begun;
      second = second_begun;
      left = begun-unbegun names.streams.left (now role.Left).phase (alone role.Left (λ e. cc) (λ e. cc));
      right = begun-unbegun names.streams.right (now role.Right).phase (alone role.Right (λ e. cc) (λ e. cc));
      third = begun-unbegun names.third (now role.Third).phase (alone role.Third (λ e. cc) (λ e. cc));
      first_accepted = λ begun. (first, accepts_first);
      both_accepted = λ begun. absurd (begun (alone role.Left (λ e. cc) (λ e. cc)));
      left_open = λ begun. absurd (begun (alone role.Right (λ e. cc) (λ e. cc)));
      right_open = λ begun. absurd (begun (alone role.Third (λ e. cc) (λ e. cc)));
    }

    none_second : (of : Role) → ¬ (IsTwiceRole of) → (now of).phase ≡ unbegun
    none_second of none = alone of (not_role of role.Query tt none) (not_role of role.SecondQuery tt none)

    -- and the second one was refused
    refused_now : (found : QueryFault) → IsRefused found names.second told_after (mid role.SecondQuery) (now role.SecondQuery) → IsRefused found names.second (under names.second) (before role.SecondQuery) (now role.SecondQuery)
    refused_now found refused =
        subst (λ (told : Option (List ℕ)). IsRefused found names.second told (before role.SecondQuery) (now role.SecondQuery)) same
        (subst (λ (s : RoleState). IsRefused found names.second told_after s (now role.SecondQuery)) second_mid refused)

    second_refused : (found : QueryFault) → IsRefused found names.second told_after (mid role.SecondQuery) (now role.SecondQuery) → EndsTwiceEarly (note.BadSecondQuery found) names limit under before now
    second_refused found refused =
        ends_early now (note.BadSecondQuery found)
        (λ told faults. record { first = first; accepted = accepts_first; refused = refused_now found refused; alone = alone; nothing = Appends-nil told })
        (λ faults. refl) begins_second none_second

    second_failed : (failed : Role) → failed ≡ role.SecondQuery → Rose (mid role.SecondQuery).faults (now role.SecondQuery).faults → EndsTwiceEarly (note.Common (why.Source failed)) names limit under before now
    second_failed failed is rose =
        ends_early now (note.Common (why.Source failed))
        (λ told faults. record {
          has = subst IsTwiceRole (sym is) tt;
          fails = fails_as failed role.SecondQuery before now is (subst (λ (s : RoleState). Rose s.faults (now role.SecondQuery).faults) second_mid rose);
          unopened = λ no. Appends-nil told;
          opened = λ are. absurd (not_open-unbegun (now role.Left).phase (alone role.Left (λ e. cc) (λ e. cc)) (are role.Left tt));
        })
        (λ faults. refl) begins_second none_second

    second_wants_memory : EndsTwiceEarly (note.Common why.Memory) names limit under before now
    second_wants_memory = ends_early now (note.Common why.Memory) (λ told faults. tt) (λ faults. refl) begins_second none_second

    -- and the second one was too
    module _ (second : QueryParts)
        (accepted : IsAccepted second names.second told_after (mid role.SecondQuery) (now role.SecondQuery)) where
      accepts_second : AcceptsSecond second names under before now
      accepts_second =
          subst (λ (told : Option (List ℕ)). IsAccepted second names.second told (before role.SecondQuery) (now role.SecondQuery)) same
          (subst (λ (s : RoleState). IsAccepted second names.second told_after s (now role.SecondQuery)) second_mid accepted)

      queries_unfit : ¬ (Fits first second) → EndsTwiceEarly note.Shape names limit under before now
      queries_unfit unfit =
          ends_early now note.Shape
          (λ told faults. record { first = first; second = second; of_first = accepts_first; of_second = accepts_second; unfit = unfit; alone = alone; nothing = Appends-nil told })
          (λ faults. refl) begins_second none_second

      module _ (same_faults : (now role.SecondQuery).faults ≡ (mid role.SecondQuery).faults) where
        other_unfailed : (of : Role) → of ≢ role.Query → of ≢ role.SecondQuery → (now of).faults ≡ (before of).faults
        other_unfailed of no_query no_second = ap (λ (s : RoleState). s.faults) (stay of no_query no_second)

        unfailed : (of : Role) → (now of).faults ≡ (before of).faults
        unfailed role.Query = ap (λ (s : RoleState). s.faults) query_stays ∙ gets.cause.1
        unfailed role.SecondQuery = same_faults ∙ ap (λ (s : RoleState). s.faults) second_mid
        unfailed role.Left = other_unfailed role.Left (λ e. cc) (λ e. cc)
        unfailed role.Right = other_unfailed role.Right (λ e. cc) (λ e. cc)
        unfailed role.Third = other_unfailed role.Third (λ e. cc) (λ e. cc)
        unfailed role.Trace = other_unfailed role.Trace (λ e. cc) (λ e. cc)
        unfailed role.Output = other_unfailed role.Output (λ e. cc) (λ e. cc)

        both_read : Fits first second → AreBothRead (record { first = first; second = second }) names under before now
        both_read fits = record {
          accepted = record { of_first = accepts_first; of_second = accepts_second; fits = fits };
          unfailed = unfailed;
          first_begun = first_begun;
          second_begun = second_begun;
          others = stay;
        }

  module _ (mid : Roles) (first : QueryParts) (gets : GetsQuery (Ok first) role.Query (named names.query) under before mid) (after : Under) (same : after names.second ≡ under names.second) (now : Roles) where
    second_unread : (found : TwiceNote) → GetsSecond (Err found) names.second after mid now → EndsTwiceEarly found names limit under before now
    second_unread (note.BadSecondQuery found) got = second_refused mid first gets (after names.second) same now got.others got.begun found got.cause
    second_unread (note.Common (why.Source failed)) got = second_failed mid first gets (after names.second) same now got.others got.begun failed got.cause.0 got.cause.1
    second_unread (note.Common why.Memory) got = second_wants_memory mid first gets (after names.second) same now got.others got.begun
    second_unread (note.Common why.Usage) got = absurd got.cause
    second_unread (note.Common (why.BadQuery found)) got = absurd got.cause
    second_unread (note.Common (why.BadRecord of at found)) got = absurd got.cause
    second_unread (note.Common why.Sink) got = absurd got.cause
    second_unread (note.Common (why.TooManyEvents most)) got = absurd got.cause
    second_unread note.Shape got = absurd got.cause
    second_unread (note.BadSecondRecord of at found) got = absurd got.cause

-- ---- the second query is read under its name

module _ (first : QueryParts) (name : List ℕ) (names : TwiceNames) (limit : ℕ) (under : Under) (before : Roles) (told : Under) (mid : Roles) (behind : GoesBehind first name names under before told mid) (now : Roles) where
  told_so : told names.second ≡ under names.second
  told_so = subst (λ (n : List ℕ). told n ≡ under n) (sym behind.second) behind.told_as

  got_so : (got : Result QueryParts TwiceNote) → GetsSecond got name told mid now → GetsSecond got names.second told mid now
  got_so got gets = subst (λ (n : List ℕ). GetsSecond got n told mid now) (sym behind.second) gets

  pub unread_behind : (found : TwiceNote) → GetsSecond (Err found) name told mid now → EndsTwiceEarly found names limit under before now
  unread_behind found got = second_unread names limit under before behind.none mid first behind.gets told told_so now found (got_so (Err found) got)

  module _ (second : QueryParts) (got : GetsSecond (Ok second) name told mid now) where
    abbrev has : GetsSecond (Ok second) names.second told mid now
    has = got_so (Ok second) got

    pub unfit_behind : ¬ (Fits first second) → EndsTwiceEarly note.Shape names limit under before now
    unfit_behind = queries_unfit names limit under before behind.none mid first behind.gets (told names.second) told_so now has.others has.begun second has.cause.0

    pub read_both_behind : Fits first second → AreBothRead (record { first = first; second = second }) names under before now
    read_both_behind = both_read names limit under before behind.none mid first behind.gets (told names.second) told_so now has.others has.begun second has.cause.0 has.cause.1
