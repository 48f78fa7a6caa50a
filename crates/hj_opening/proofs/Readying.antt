-- Getting ready for a join: its query and its two open streams, or an early end of the order.
use Rattle.std.proofs.Common.{◌≡◌, ◌≢◌, ℕ, List, [], Ok, Err, false, sym, ◌∙◌, ap, subst, inl, inr, refl, arith}
use Rattle.std.proofs.KnownBytes.{Appends-nil}
use Rattle.std.specs.declared.option.Option.{Option}
use Rattle.hj_base.specs.declared.numbers.Side.{Side}
use Rattle.hj_base.specs.declared.numbers.Side.TheVariants as side
use Rattle.hj_base.specs.declared.outside.Role.{Role}
use Rattle.hj_base.specs.declared.outside.Role.TheVariants as role
use Rattle.hj_base.specs.Counts.{Rose}
use Rattle.hj_base.specs.Outside.{RoleState, ChangesOnly, IsOpen, opened, role_of, unbegun}
use Rattle.hj_query.specs.QueryParts.{QueryParts}
use Rattle.hj_notes.specs.declared.note.Note.{Note}
use Rattle.hj_notes.specs.declared.note.Note.TheVariants as why
use Rattle.hj_opening.specs.Calls.{call}
use Rattle.hj_opening.specs.Opening.{GetsQuery, IsOpened, Opens}
use Rattle.hj_opening.specs.Queries.{IsQueryOf, IsQueryRead}
use Rattle.hj_opening.specs.Ready.{EndsEarly, IsReady}
use Rattle.hj_opening.specs.Run.{RunsOrder}
use Rattle.hj_opening.specs.Serve.{AreOpen, BeginsInOrder, BeginsSource, IsJoinRole}
use Rattle.hj_opening.specs.Streams.{Fails, IsBegunUnder}
use Rattle.hj_opening.specs.Words.{Names, Order, QuerySource, TextKind, join_streams}
use Rattle.hj_opening.proofs.Endings.{CountsSink, JoinCause, NoOther, join_others, join_runs}
use Rattle.hj_opening.proofs.Phases.{Roles, begun-opened, begun-refused, begun-unbegun, fails_as, not_open-refused, not_open-unbegun, open-opened}
use Rattle.hj_opening.proofs.RunningOrders.{join_refused}

-- a side's role is one of a join's
pub reads_side : (source : QuerySource) (of : Role) (side : Side) → of ≡ role_of side → IsJoinRole source of
reads_side source of side.Left e = subst (λ (r : Role). IsJoinRole source r) (sym e) tt
reads_side source of side.Right e = subst (λ (r : Role). IsJoinRole source r) (sym e) tt

-- ---- no role failed

read_unfailed : (text name : List ℕ) (told : Option (List ℕ)) (before now : RoleState) → IsQueryRead text name told before now → now.faults ≡ before.faults
read_unfailed text name told before now read = elim read [ inl all ↦ all.faults | inr far ↦ far.faults ]

unfailed_by : (before now : Roles) → ((of : Role) → of ≢ role.Query → of ≢ role.Left → of ≢ role.Right → now of ≡ before of) → (now role.Query).faults ≡ (before role.Query).faults
    → (now role.Left).faults ≡ (before role.Left).faults → (now role.Right).faults ≡ (before role.Right).faults → (of : Role) → (now of).faults ≡ (before of).faults
unfailed_by before now same query left right role.Query = query
unfailed_by before now same query left right role.Left = left
unfailed_by before now same query left right role.Right = right
unfailed_by before now same query left right role.SecondQuery = ap (λ (s : RoleState). s.faults) (same role.SecondQuery (λ e. cc) (λ e. cc) (λ e. cc))
unfailed_by before now same query left right role.Third = ap (λ (s : RoleState). s.faults) (same role.Third (λ e. cc) (λ e. cc) (λ e. cc))
unfailed_by before now same query left right role.Trace = ap (λ (s : RoleState). s.faults) (same role.Trace (λ e. cc) (λ e. cc) (λ e. cc))
unfailed_by before now same query left right role.Output = ap (λ (s : RoleState). s.faults) (same role.Output (λ e. cc) (λ e. cc) (λ e. cc))

alone_unfailed : (before now : Roles) → ChangesOnly role.Query before now → (now role.Query).faults ≡ (before role.Query).faults → (of : Role) → (now of).faults ≡ (before of).faults
alone_unfailed before now others query =
    unfailed_by before now (λ of no_query no_left no_right. others of no_query) query (ap (λ (s : RoleState). s.faults) (others role.Left (λ e. cc))) (ap (λ (s : RoleState). s.faults) (others role.Right (λ e. cc)))

module _ (kind : TextKind) (source : QuerySource) (names : Names) (limit : ℕ) (under : List ℕ → Option (List ℕ)) (before : Roles) (unbegun_before : (of : Role) → (before of).phase ≡ unbegun) where
  abbrev this_join : Order
  this_join = join_streams kind source names limit

  abbrev EndsThis : Note → Roles → Type 0
  EndsThis note now = EndsEarly note this_join under before now

  -- ---- the query wasn't got

  module _ (now : Roles) where
    left_stays : ChangesOnly role.Query before now → (now role.Left).phase ≡ unbegun
    left_stays others = ap (λ (s : RoleState). s.phase) (others role.Left (λ e. cc)) ∙ unbegun_before role.Left

    pub query_refused : (note : Note) → GetsQuery (Err note) role.Query source under before now → EndsThis note now
    query_refused (why.BadQuery found) gets = record {
      runs = λ told faults. join_refused under before now told faults unbegun_before kind source names limit (why.BadQuery found) gets;
      early = inl refl;
      unfailed = λ two. alone_unfailed before now gets.others (read_unfailed gets.cause.2.text gets.cause.0 (under gets.cause.0) (before role.Query) (now role.Query) gets.cause.2.read);
    }
    query_refused (why.Source failed) gets = record {
      runs = λ told faults. join_refused under before now told faults unbegun_before kind source names limit (why.Source failed) gets;
      early = inr (inr (refl, λ are. not_open-unbegun (now role.Left).phase (left_stays gets.others) are.0));
      unfailed = λ two. absurd (omega (arith, two));
    }
    query_refused why.Memory gets = record {
      runs = λ told faults. join_refused under before now told faults unbegun_before kind source names limit why.Memory gets;
      early = inr (inl refl);
      unfailed = λ two. absurd (omega (arith, two));
    }
    query_refused why.Usage gets = absurd gets.cause
    query_refused (why.BadRecord of at found) gets = absurd gets.cause
    query_refused why.Sink gets = absurd gets.cause
    query_refused (why.TooManyEvents most) gets = absurd gets.cause

  -- ---- the query was got

  module _ (asked : Roles) (query : QueryParts) (gets : GetsQuery (Ok query) role.Query source under before asked) where
    left_asked : asked role.Left ≡ before role.Left
    left_asked = gets.others role.Left (λ e. cc)

    right_asked : asked role.Right ≡ before role.Right
    right_asked = gets.others role.Right (λ e. cc)

    module _ (now : Roles) (query_stays : now role.Query ≡ asked role.Query) where
      accepted : IsQueryOf source query under (before role.Query) (now role.Query)
      accepted = subst (λ (s : RoleState). IsQueryOf source query under (before role.Query) s) (sym query_stays) gets.cause.0

      begun : BeginsSource source (now role.Query).phase
      begun = subst (λ (s : RoleState). BeginsSource source s.phase) (sym query_stays) gets.begun

      -- and a stream couldn't be opened
      module _ (left : IsBegunUnder names.left (now role.Left).phase) (right : IsBegunUnder names.right (now role.Right).phase) (left_first : (now role.Right).phase ≢ unbegun → IsOpen (now role.Left).phase) (none : NoOther now) where
        begins : (told : Option (List ℕ)) (faults : ℕ) → BeginsInOrder source names (call under before now told told faults faults)
        begins told faults = record { query = begun; left = left; right = right; query_first = λ started. (query, accepted); left_first = left_first }

        -- nothing was written
        ends_so : (note : Note) (told : Option (List ℕ)) (faults : ℕ) → JoinCause kind source names limit (call under before now told told faults faults) (Err note) → CountsSink (Err note) faults faults
            → RunsOrder (Err note) this_join (call under before now told told faults faults)
        ends_so note told faults cause counts = join_runs kind source names limit (call under before now told told faults faults) (Err note) cause counts [] (Appends-nil told) (inl refl) (begins told faults) (join_others source now begun none)

        start_failed : (failed : Role) (of : Side) → failed ≡ role_of of → Fails failed before now → ¬ (AreOpen now) → EndsThis (why.Source failed) now
        start_failed failed of is fails closed = record {
          runs = λ told faults. ends_so (why.Source failed) told faults
              (record { has = reads_side source failed of is; fails = fails; unopened = λ no. Appends-nil told; opened = λ are. absurd (closed are) }) refl;
          early = inr (inr (refl, closed));
          unfailed = λ two. absurd (omega (arith, two));
        }

        start_wants_memory : EndsThis why.Memory now
        start_wants_memory = record { runs = λ told faults. ends_so why.Memory told faults tt refl; early = inr (inl refl); unfailed = λ two. absurd (omega (arith, two)) }

    none_left : (now : Roles) → ChangesOnly role.Left asked now → NoOther now
    none_left now others = λ of no_query no_left no_right. ap (λ (s : RoleState). s.phase) (others of no_left ∙ gets.others of no_query) ∙ unbegun_before of

    -- the left stream couldn't be opened
    pub left_unopened : (now : Roles) (note : Note) (told : Option (List ℕ)) → ChangesOnly role.Left asked now → Opens (Err note) role.Left names.left told (asked role.Left) (now role.Left) → EndsThis note now
    left_unopened now (why.Source failed) told others opens =
        let right : (now role.Right).phase ≡ unbegun = ap (λ (s : RoleState). s.phase) (others role.Right (λ e. cc) ∙ right_asked) ∙ unbegun_before role.Right in
        start_failed now (others role.Query (λ e. cc)) (begun-refused names.left (now role.Left).phase opens.1.phase) (begun-unbegun names.right (now role.Right).phase right) (λ started. absurd (started right)) (none_left now others)
        failed side.Left opens.0 (fails_as failed role.Left before now opens.0 (subst (λ (s : RoleState). Rose s.faults (now role.Left).faults) left_asked opens.1.fails)) (λ are. not_open-unbegun (now role.Right).phase right are.1)
    left_unopened now why.Memory told others opens =
        let left : (now role.Left).phase ≡ unbegun = ap (λ (s : RoleState). s.phase) (opens ∙ left_asked) ∙ unbegun_before role.Left in
        let right : (now role.Right).phase ≡ unbegun = ap (λ (s : RoleState). s.phase) (others role.Right (λ e. cc) ∙ right_asked) ∙ unbegun_before role.Right in
        start_wants_memory now (others role.Query (λ e. cc)) (begun-unbegun names.left (now role.Left).phase left) (begun-unbegun names.right (now role.Right).phase right) (λ started. absurd (started right)) (none_left now others)
    left_unopened now why.Usage told others opens = absurd opens
    left_unopened now (why.BadQuery found) told others opens = absurd opens
    left_unopened now (why.BadRecord of at found) told others opens = absurd opens
    left_unopened now why.Sink told others opens = absurd opens
    left_unopened now (why.TooManyEvents most) told others opens = absurd opens

    -- the left stream was opened
    module _ (mid now : Roles) (left_told : Option (List ℕ)) (ready : IsOpened names.left left_told (asked role.Left) (mid role.Left)) (opening : ChangesOnly role.Left asked mid) (opening_right : ChangesOnly role.Right mid now) where
      left_open : (now role.Left).phase ≡ opened names.left false
      left_open = ap (λ (s : RoleState). s.phase) (opening_right role.Left (λ e. cc)) ∙ ready.phase

      query_stays : now role.Query ≡ asked role.Query
      query_stays = opening_right role.Query (λ e. cc) ∙ opening role.Query (λ e. cc)

      others_stay : (of : Role) → of ≢ role.Query → of ≢ role.Left → of ≢ role.Right → now of ≡ before of
      others_stay of no_query no_left no_right = opening_right of no_right ∙ opening of no_left ∙ gets.others of no_query

      none_right : NoOther now
      none_right = λ of no_query no_left no_right. ap (λ (s : RoleState). s.phase) (others_stay of no_query no_left no_right) ∙ unbegun_before of

      right_mid : mid role.Right ≡ before role.Right
      right_mid = opening role.Right (λ e. cc) ∙ right_asked

      -- and the right one couldn't be
      pub right_unopened : (note : Note) (told : Option (List ℕ)) → Opens (Err note) role.Right names.right told (mid role.Right) (now role.Right) → EndsThis note now
      right_unopened (why.Source failed) told opens =
          start_failed now query_stays (begun-opened names.left false (now role.Left).phase left_open) (begun-refused names.right (now role.Right).phase opens.1.phase) (λ started. open-opened names.left false (now role.Left).phase left_open) none_right
          failed side.Right opens.0 (fails_as failed role.Right before now opens.0 (subst (λ (s : RoleState). Rose s.faults (now role.Right).faults) right_mid opens.1.fails)) (λ are. not_open-refused names.right (now role.Right).phase opens.1.phase are.1)
      right_unopened why.Memory told opens =
          let right : (now role.Right).phase ≡ unbegun = ap (λ (s : RoleState). s.phase) (opens ∙ right_mid) ∙ unbegun_before role.Right in
          start_wants_memory now query_stays (begun-opened names.left false (now role.Left).phase left_open) (begun-unbegun names.right (now role.Right).phase right) (λ started. open-opened names.left false (now role.Left).phase left_open) none_right
      right_unopened why.Usage told opens = absurd opens
      right_unopened (why.BadQuery found) told opens = absurd opens
      right_unopened (why.BadRecord of at found) told opens = absurd opens
      right_unopened why.Sink told opens = absurd opens
      right_unopened (why.TooManyEvents most) told opens = absurd opens

      left_unfailed : (now role.Left).faults ≡ (before role.Left).faults
      left_unfailed = ap (λ (s : RoleState). s.faults) (opening_right role.Left (λ e. cc)) ∙ ready.faults ∙ ap (λ (s : RoleState). s.faults) left_asked

      query_unfailed : (now role.Query).faults ≡ (before role.Query).faults
      query_unfailed = ap (λ (s : RoleState). s.faults) query_stays ∙ gets.cause.1

      -- and the right one too
      pub both_opened : (told : Option (List ℕ)) → left_told ≡ under names.left → told ≡ under names.right → IsOpened names.right told (mid role.Right) (now role.Right) → IsReady query source names under before now
      both_opened told same_left same right = record {
        accepted = accepted now query_stays;
        unfailed = unfailed_by before now others_stay query_unfailed left_unfailed (right.faults ∙ ap (λ (s : RoleState). s.faults) right_mid);
        begun = begun now query_stays;
        others = join_others source now (begun now query_stays) none_right;
        opened = record {
          of_left = record {
            phase = left_open;
            left = ap (λ (s : RoleState). s.left) (opening_right role.Left (λ e. cc)) ∙ ready.left ∙ same_left;
            faults = left_unfailed;
          };
          of_right = record {
            phase = right.phase;
            left = right.left ∙ same;
            faults = right.faults ∙ ap (λ (s : RoleState). s.faults) right_mid;
          };
        };
      }
