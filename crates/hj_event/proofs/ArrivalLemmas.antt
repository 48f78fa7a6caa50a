-- The arrivals of two sides, by what their heads are.
use Rattle.std.proofs.Common.{◌≡◌, ℕ, Bool, true, false, List, [], Ok, Err, None, Some, sym, refl, ap, subst, ◌∙◌, cond, is_some}
use Rattle.std.specs.Prelude.{int_le}
use Rattle.std.specs.declared.option.Option.{Option}
use Rattle.std.specs.declared.result.Result.{Result}
use Rattle.hj_value.specs.declared.field.Field.{Field}
use Rattle.hj_value.specs.Row.{time_of}
use Rattle.hj_base.specs.declared.numbers.Side.{Side}
use Rattle.hj_base.specs.declared.numbers.Side.TheVariants.{Left, Right}
use Rattle.hj_base.specs.declared.outside.Role.{Role}
use Rattle.hj_base.specs.declared.outside.Role.TheVariants as role
use Rattle.hj_base.specs.Outside.{RoleState, ChangesOnly, ChangesOnlyStreams}
use Rattle.hj_record.specs.Pieces.{Stream}
use Rattle.hj_event.specs.declared.fault.RecordFault.{RecordFault}
use Rattle.hj_event.specs.declared.stop.SideStop.{SideStop}
use Rattle.hj_event.specs.declared.stop.SideStop.TheVariants as stop
use Rattle.hj_event.specs.declared.stop.MergeEnd.{MergeEnd}
use Rattle.hj_event.specs.declared.stop.MergeEnd.TheVariants as last
use Rattle.hj_event.specs.Rows.{Rows, no_row, then_rows, clean as rows_clean, bad, unread}
use Rattle.hj_event.specs.Arrivals.{Arrivals, arrivals_of, then_arrivals, no_arrival, clean, bad as merge_bad, unread as merge_unread}
use Rattle.hj_event.specs.Arriving.{last_of, first_side, head_on, without_head, ArrivalLeads, TakesArrival, TakesHead, EndsBoth, fails}
use Rattle.hj_event.specs.Sides.{ReaderState, SideState, Sides, with_head, in_front, Follows, side_ahead, arrivals_ahead}
use Rattle.hj_event.specs.Roles.{IsReadOn, IsInStep}
use Rattle.hj_event.specs.Taking.{EndsSide, IsReadAsNeeded, RowLeads, TakesRow, has_failed, unseen}
use Rattle.hj_event.proofs.RoleLemmas.{not_read, not_needed}

-- ---- the merge

left_stops : (why : SideStop) (left left_behind right : Rows) (behind : Arrivals) → RowLeads (Err why) left left_behind → ArrivalLeads (Err (last_of Left why)) (arrivals_of left right) behind
left_stops (stop.Bad at why) left left_behind right behind is = ap (λ (l : Rows). arrivals_of l right) is
left_stops stop.Failed left left_behind right behind is = ap (λ (l : Rows). arrivals_of l right) is
left_stops stop.Memory left left_behind right behind is = tt

-- a left side that has a row, or has ended, and a right one that stops
right_bad : (head : Option (List Field)) (at : ℕ) (why : RecordFault) (left left_behind : Rows) → RowLeads (Ok head) left left_behind → arrivals_of left (no_row (bad at why)) ≡ no_arrival (merge_bad Right at why)
right_bad None at why left left_behind is = ap (λ (l : Rows). arrivals_of l (no_row (bad at why))) is.0
right_bad (Some row) at why left left_behind is = ap (λ (l : Rows). arrivals_of l (no_row (bad at why))) is

right_unread : (head : Option (List Field)) (left left_behind : Rows) → RowLeads (Ok head) left left_behind → arrivals_of left (no_row unread) ≡ no_arrival (merge_unread Right)
right_unread None left left_behind is = ap (λ (l : Rows). arrivals_of l (no_row unread)) is.0
right_unread (Some row) left left_behind is = ap (λ (l : Rows). arrivals_of l (no_row unread)) is

right_stops : (head : Option (List Field)) (why : SideStop) (left left_behind right right_behind : Rows) (behind : Arrivals) → RowLeads (Ok head) left left_behind → RowLeads (Err why) right right_behind → ArrivalLeads (Err (last_of Right why)) (arrivals_of left right) behind
right_stops head (stop.Bad at why) left left_behind right right_behind behind is other = ap (arrivals_of left) other ∙ right_bad head at why left left_behind is
right_stops head stop.Failed left left_behind right right_behind behind is other = ap (arrivals_of left) other ∙ right_unread head left left_behind is
right_stops head stop.Memory left left_behind right right_behind behind is other = tt

module _ (left left_behind right right_behind : Rows) where
  -- both sides have a row
  both_have : (one other : List Field) → RowLeads (Ok (Some one)) left left_behind → RowLeads (Ok (Some other)) right right_behind
      → arrivals_of left right ≡ cond (int_le (time_of one) (time_of other)) (then_arrivals Left one (arrivals_of left_behind (then_rows other right_behind))) (then_arrivals Right other (arrivals_of (then_rows one left_behind) right_behind))
  both_have one other is are = ap (λ (l : Rows). arrivals_of l right) is ∙ ap (arrivals_of (then_rows one left_behind)) are

-- ---- the roles

read_as : (failed other : Bool) (bytes : List ℕ) (was ended : Bool) (before now : RoleState) → failed ≡ other → IsReadOn failed bytes was ended before now → IsReadOn other bytes was ended before now
read_as failed other bytes was ended before now e reads = subst (λ (f : Bool). IsReadOn f bytes was ended before now) e reads

abbrev pub Roles : Type 0
Roles = Role → RoleState

-- what the stop of a side says of its failures
stop_fails_left : (why : SideStop) → has_failed {T = Option (List Field)} (Err why) ≡ fails (Err (last_of Left why)) Left
stop_fails_left (stop.Bad at why) = refl
stop_fails_left stop.Failed = refl
stop_fails_left stop.Memory = refl

stop_fails_left_other : (why : SideStop) → false ≡ fails (Err (last_of Left why)) Right
stop_fails_left_other (stop.Bad at why) = refl
stop_fails_left_other stop.Failed = refl
stop_fails_left_other stop.Memory = refl

stop_fails_right : (why : SideStop) → has_failed {T = Option (List Field)} (Err why) ≡ fails (Err (last_of Right why)) Right
stop_fails_right (stop.Bad at why) = refl
stop_fails_right stop.Failed = refl
stop_fails_right stop.Memory = refl

stop_fails_right_other : (why : SideStop) → false ≡ fails (Err (last_of Right why)) Left
stop_fails_right_other (stop.Bad at why) = refl
stop_fails_right_other stop.Failed = refl
stop_fails_right_other stop.Memory = refl

follows_as : (one other ended : Bool) (stream : Stream) → one ≡ other → Follows other ended stream → Follows one ended stream
follows_as one other ended stream e follows = subst (λ (f : Bool). Follows f ended stream) (sym e) follows

stop_ends : (side : Side) (why : SideStop) (left right : Bool) → EndsBoth (Err (last_of side why)) left right
stop_ends side (stop.Bad at why) left right = tt
stop_ends side stop.Failed left right = tt
stop_ends side stop.Memory left right = tt

-- ---- a call

-- The left side stops, and the right one isn't looked at.
pub stops_left : (why : SideStop) (old : Sides) (left : SideState) (before now : Roles) → TakesRow (Err why) old.left left (before role.Left) (now role.Left) → ChangesOnly role.Left before now → IsInStep old.right.reading.ended (before role.Right)
    → TakesArrival (Err (last_of Left why)) old (record { left = left; right = old.right }) before now
stops_left why old left before now takes others step = record {
  left_bytes = takes.bytes;
  right_bytes = [];
  left = read_as (has_failed {T = Option (List Field)} (Err why)) (fails (Err (last_of Left why)) Left) takes.bytes old.left.reading.ended left.reading.ended (before role.Left) (now role.Left) (stop_fails_left why) takes.reads;
  right = read_as false (fails (Err (last_of Left why)) Right) [] old.right.reading.ended old.right.reading.ended (before role.Right) (now role.Right) (stop_fails_left_other why)
      (subst (λ (s : RoleState). IsReadOn false [] old.right.reading.ended old.right.reading.ended (before role.Right) s) (sym (others role.Right (λ e. cc))) (not_read old.right.reading.ended (before role.Right) step));
  others = λ of not_left not_right. others of not_left;
  leads = λ l r l_follows r_follows. left_stops why (side_ahead old.left (in_front takes.bytes l)) (side_ahead left l) (side_ahead old.right (in_front [] r)) (arrivals_ahead (record { left = left; right = old.right }) l r)
      (takes.leads l (follows_as (has_failed {T = Option (List Field)} (Err why)) (fails (Err (last_of Left why)) Left) left.reading.ended l (stop_fails_left why) l_follows));
  ended = stop_ends Left why left.reading.ended old.right.reading.ended;
  left_needed = takes.needed;
  right_needed = not_needed old.right.head old.right (before role.Right) (now role.Right) (others role.Right (λ e. cc));
}

-- What both sides did, where the left one gave its head.
pub record BothTaken (head : Option (List Field)) (answer : Result (Option (List Field)) SideStop) (old new : Sides) (before between now : Roles) : Type 0 where
  pub left : TakesRow (Ok head) old.left new.left (before role.Left) (between role.Left)
  pub left_others : ChangesOnly role.Left before between
  pub right : TakesRow answer old.right new.right (between role.Right) (now role.Right)
  pub right_others : ChangesOnly role.Right between now

module _ (head : Option (List Field)) (answer : Result (Option (List Field)) SideStop) (old new : Sides) (before between now : Roles) (both : BothTaken head answer old new before between now) where
  left_read : IsReadOn false both.left.bytes old.left.reading.ended new.left.reading.ended (before role.Left) (now role.Left)
  left_read = subst (λ (s : RoleState). IsReadOn false both.left.bytes old.left.reading.ended new.left.reading.ended (before role.Left) s) (sym (both.right_others role.Left (λ e. cc))) both.left.reads

  right_read : IsReadOn (has_failed answer) both.right.bytes old.right.reading.ended new.right.reading.ended (before role.Right) (now role.Right)
  right_read = subst (λ (s : RoleState). IsReadOn (has_failed answer) both.right.bytes old.right.reading.ended new.right.reading.ended s (now role.Right)) (both.left_others role.Right (λ e. cc)) both.right.reads

  left_needs : IsReadAsNeeded old.left.head old.left both.left.bytes (before role.Left) (now role.Left)
  left_needs = subst (λ (s : RoleState). IsReadAsNeeded old.left.head old.left both.left.bytes (before role.Left) s) (sym (both.right_others role.Left (λ e. cc))) both.left.needed

  right_needs : IsReadAsNeeded old.right.head old.right both.right.bytes (before role.Right) (now role.Right)
  right_needs = subst (λ (s : RoleState). IsReadAsNeeded old.right.head old.right both.right.bytes s (now role.Right)) (both.left_others role.Right (λ e. cc)) both.right.needed

  others_stay : ChangesOnlyStreams before now
  others_stay = λ of not_left not_right. both.right_others of not_right ∙ both.left_others of not_left

-- The right side stops.
pub stops_right : (head : Option (List Field)) (why : SideStop) (old new : Sides) (before between now : Roles) → BothTaken head (Err why) old new before between now → TakesArrival (Err (last_of Right why)) old new before now
stops_right head why old new before between now both = record {
  left_bytes = both.left.bytes;
  right_bytes = both.right.bytes;
  left = read_as false (fails (Err (last_of Right why)) Left) both.left.bytes old.left.reading.ended new.left.reading.ended (before role.Left) (now role.Left) (stop_fails_right_other why) (left_read head (Err why) old new before between now both);
  right = read_as (has_failed {T = Option (List Field)} (Err why)) (fails (Err (last_of Right why)) Right) both.right.bytes old.right.reading.ended new.right.reading.ended (before role.Right) (now role.Right) (stop_fails_right why) (right_read head (Err why) old new before between now both);
  others = others_stay head (Err why) old new before between now both;
  leads = λ l r l_follows r_follows. right_stops head why (side_ahead old.left (in_front both.left.bytes l)) (side_ahead new.left l) (side_ahead old.right (in_front both.right.bytes r)) (side_ahead new.right r) (arrivals_ahead new l r)
      (both.left.leads l (follows_as false (fails (Err (last_of Right why)) Left) new.left.reading.ended l (stop_fails_right_other why) l_follows))
      (both.right.leads r (follows_as (has_failed {T = Option (List Field)} (Err why)) (fails (Err (last_of Right why)) Right) new.right.reading.ended r (stop_fails_right why) r_follows));
  ended = stop_ends Right why new.left.reading.ended new.right.reading.ended;
  left_needed = left_needs head (Err why) old new before between now both;
  right_needed = right_needs head (Err why) old new before between now both;
}

-- ---- the heads

known_head : (row : List Field) (side : SideState) (role : RoleState) → IsInStep side.reading.ended role → TakesRow (Ok (Some row)) (record side { head = Some row }) (unseen side) role role
known_head row side role step = record { bytes = []; reads = not_read side.reading.ended role step; leads = λ stream follows. refl; ended = tt; needed = (refl, refl) }

-- A head that is known already is seen without a read.
pub sees_known : (side : SideState) (role : RoleState) → is_some side.head ≡ true → IsInStep side.reading.ended role → TakesRow (Ok side.head) side (unseen side) role role
sees_known side role some step = by side.head refl some
  where
    by : (head : Option (List Field)) → head ≡ side.head → is_some head ≡ true → TakesRow (Ok side.head) side (unseen side) role role
    by None is has = cc
    by (Some row) is has = subst (λ (h : Option (List Field)). TakesRow (Ok h) (record side { head = h }) (unseen side) role role) is (known_head row side role step)

-- An arrival, where the sides behind it have these rows.
module _ (head : Option (List Field)) (answer : Option (List Field)) (old mid new : Sides) (before between now : Roles) (both : BothTaken head (Ok answer) old mid before between now) (left_same : new.left.reading ≡ mid.left.reading) (right_same : new.right.reading ≡ mid.right.reading) where
  left_ended : mid.left.reading.ended ≡ new.left.reading.ended
  left_ended = ap (λ (r : ReaderState). r.ended) (sym left_same)

  right_ended : mid.right.reading.ended ≡ new.right.reading.ended
  right_ended = ap (λ (r : ReaderState). r.ended) (sym right_same)

  arrives : (side : Side) (row : List Field)
      → ((l r : Stream) → RowLeads (Ok head) (side_ahead old.left (in_front both.left.bytes l)) (side_ahead mid.left l) → RowLeads (Ok answer) (side_ahead old.right (in_front both.right.bytes r)) (side_ahead mid.right r)
      → arrivals_ahead old (in_front both.left.bytes l) (in_front both.right.bytes r) ≡ then_arrivals side row (arrivals_ahead new l r))
      → TakesArrival (Ok (side, row)) old new before now
  arrives side row is = record {
    left_bytes = both.left.bytes;
    right_bytes = both.right.bytes;
    left = subst (λ (e : Bool). IsReadOn false both.left.bytes old.left.reading.ended e (before role.Left) (now role.Left)) left_ended (left_read head (Ok answer) old mid before between now both);
    right = subst (λ (e : Bool). IsReadOn false both.right.bytes old.right.reading.ended e (before role.Right) (now role.Right)) right_ended (right_read head (Ok answer) old mid before between now both);
    others = others_stay head (Ok answer) old mid before between now both;
    leads = λ l r l_follows r_follows. is l r
        (both.left.leads l (subst (λ (e : Bool). Follows false e l) (sym left_ended) l_follows))
        (both.right.leads r (subst (λ (e : Bool). Follows false e r) (sym right_ended) r_follows));
    ended = tt;
    left_needed = left_needs head (Ok answer) old mid before between now both;
    right_needed = right_needs head (Ok answer) old mid before between now both;
  }

-- The first of two heads, by the rows that they lead.
head_left : (one other : Option (List Field)) (left left_behind right right_behind : Rows) (row : List Field) → RowLeads (Ok one) left left_behind → RowLeads (Ok other) right right_behind → first_side one other ≡ Left → one ≡ Some row
    → arrivals_of left right ≡ then_arrivals Left row (arrivals_of left_behind (with_head other right_behind))
head_left None other left left_behind right right_behind row is are side has = cc
head_left (Some one) None left left_behind right right_behind row is are side has =
    let same : one ≡ row = cc in
    ap (λ (l : Rows). arrivals_of l right) is ∙ ap (arrivals_of (then_rows one left_behind)) are.0 ∙ ap (λ (r : Rows). then_arrivals Left one (arrivals_of left_behind r)) (sym are.1)
    ∙ ap (λ (r : List Field). then_arrivals Left r (arrivals_of left_behind right_behind)) same
head_left (Some one) (Some other) left left_behind right right_behind row is are side has =
    let same : one ≡ row = cc in
    let first = then_arrivals Left one (arrivals_of left_behind (then_rows other right_behind)) in
    let second = then_arrivals Right other (arrivals_of (then_rows one left_behind) right_behind) in
    both_have left left_behind right right_behind one other is are
    ∙ elim (int_le (time_of one) (time_of other)) as (λ b. cond b Left Right ≡ Left → cond b first second ≡ first) [ true ↦ λ e. refl | false ↦ λ e. cc ] side
    ∙ ap (λ (r : List Field). then_arrivals Left r (arrivals_of left_behind (then_rows other right_behind))) same

head_right : (one other : Option (List Field)) (left left_behind right right_behind : Rows) (row : List Field) → RowLeads (Ok one) left left_behind → RowLeads (Ok other) right right_behind → first_side one other ≡ Right → other ≡ Some row
    → arrivals_of left right ≡ then_arrivals Right row (arrivals_of (with_head one left_behind) right_behind)
head_right None None left left_behind right right_behind row is are side has = cc
head_right (Some one) None left left_behind right right_behind row is are side has = cc
head_right None (Some other) left left_behind right right_behind row is are side has =
    let same : other ≡ row = cc in
    ap (λ (l : Rows). arrivals_of l right) is.0 ∙ ap (arrivals_of (no_row rows_clean)) are ∙ ap (λ (l : Rows). then_arrivals Right other (arrivals_of l right_behind)) (sym is.1)
    ∙ ap (λ (r : List Field). then_arrivals Right r (arrivals_of left_behind right_behind)) same
head_right (Some one) (Some other) left left_behind right right_behind row is are side has =
    let same : other ≡ row = cc in
    let first = then_arrivals Left one (arrivals_of left_behind (then_rows other right_behind)) in
    let second = then_arrivals Right other (arrivals_of (then_rows one left_behind) right_behind) in
    both_have left left_behind right right_behind one other is are
    ∙ elim (int_le (time_of one) (time_of other)) as (λ b. cond b Left Right ≡ Right → cond b first second ≡ second) [ true ↦ λ e. cc | false ↦ λ e. refl ] side
    ∙ ap (λ (r : List Field). then_arrivals Right r (arrivals_of (then_rows one left_behind) right_behind)) same

-- Two sides whose heads were looked at.
abbrev pub seen : Sides → Sides
seen sides = record { left = unseen sides.left; right = unseen sides.right }

module _ (old mid : Sides) (before between now : Roles) (both : BothTaken mid.left.head (Ok mid.right.head) old (seen mid) before between now) where
  by_side : (side : Side) (row : List Field) → first_side mid.left.head mid.right.head ≡ side → head_on side mid ≡ Some row → TakesArrival (Ok (side, row)) old (without_head side mid) before now
  by_side Left row first is = arrives mid.left.head mid.right.head old (seen mid) (without_head Left mid) before between now both refl refl Left row
      (λ l r one other. head_left mid.left.head mid.right.head (side_ahead old.left (in_front both.left.bytes l)) (side_ahead (unseen mid.left) l) (side_ahead old.right (in_front both.right.bytes r)) (side_ahead (unseen mid.right) r) row one other first is)
  by_side Right row first is = arrives mid.left.head mid.right.head old (seen mid) (without_head Right mid) before between now both refl refl Right row
      (λ l r one other. head_right mid.left.head mid.right.head (side_ahead old.left (in_front both.left.bytes l)) (side_ahead (unseen mid.left) l) (side_ahead old.right (in_front both.right.bytes r)) (side_ahead (unseen mid.right) r) row one other first is)

  -- The head that arrives first is taken.
  pub takes_head : (arrival : Side × List Field) (new : Sides) → TakesHead (Some arrival) mid new → TakesArrival (Ok arrival) old new before now
  takes_head arrival new takes = subst (λ (sides : Sides). TakesArrival (Ok arrival) old sides before now) (sym takes.2) (by_side arrival.0 arrival.1 takes.0 takes.1)

  none_ahead : mid.left.head ≡ None → mid.right.head ≡ None → (l r : Stream) → RowLeads (Ok mid.left.head) (side_ahead old.left (in_front both.left.bytes l)) (side_ahead (unseen mid.left) l) → RowLeads (Ok mid.right.head) (side_ahead old.right (in_front both.right.bytes r)) (side_ahead (unseen mid.right) r)
      → arrivals_ahead old (in_front both.left.bytes l) (in_front both.right.bytes r) ≡ no_arrival clean
  none_ahead left right l r is are =
      let lefts = subst (λ (h : Option (List Field)). RowLeads (Ok h) (side_ahead old.left (in_front both.left.bytes l)) (side_ahead (unseen mid.left) l)) left is in
      let rights = subst (λ (h : Option (List Field)). RowLeads (Ok h) (side_ahead old.right (in_front both.right.bytes r)) (side_ahead (unseen mid.right) r)) right are in
      ap (λ (rows : Rows). arrivals_of rows (side_ahead old.right (in_front both.right.bytes r))) lefts.0 ∙ ap (arrivals_of (no_row rows_clean)) rights.0

  ends_both : mid.left.head ≡ None → mid.right.head ≡ None → TakesArrival (Err last.Done) old mid before now
  ends_both left right = record {
    left_bytes = both.left.bytes;
    right_bytes = both.right.bytes;
    left = left_read mid.left.head (Ok mid.right.head) old (seen mid) before between now both;
    right = right_read mid.left.head (Ok mid.right.head) old (seen mid) before between now both;
    others = others_stay mid.left.head (Ok mid.right.head) old (seen mid) before between now both;
    leads = λ l r l_follows r_follows. none_ahead left right l r (both.left.leads l l_follows) (both.right.leads r r_follows);
    ended = (subst (λ (h : Option (List Field)). EndsSide (Ok h) mid.left.reading.ended) left both.left.ended, subst (λ (h : Option (List Field)). EndsSide (Ok h) mid.right.reading.ended) right both.right.ended);
    left_needed = left_needs mid.left.head (Ok mid.right.head) old (seen mid) before between now both;
    right_needed = right_needs mid.left.head (Ok mid.right.head) old (seen mid) before between now both;
  }

  -- No head is there.
  pub takes_none : (new : Sides) → TakesHead None mid new → TakesArrival (Err last.Done) old new before now
  takes_none new takes = subst (λ (sides : Sides). TakesArrival (Err last.Done) old sides before now) (sym takes.2) (ends_both takes.0 takes.1)

any_behind : (why : MergeEnd) (ahead one other : Arrivals) → ArrivalLeads (Err why) ahead one → ArrivalLeads (Err why) ahead other
any_behind last.Done ahead one other is = is
any_behind (last.Bad side at why) ahead one other is = is
any_behind (last.Failed side) ahead one other is = is
any_behind last.TooMany ahead one other is = is
any_behind last.Memory ahead one other is = is

-- The right side stops, where the left one was looked at.
pub stops_behind : (why : SideStop) (old mid : Sides) (before between now : Roles) → BothTaken mid.left.head (Err why) old (record mid { left = unseen mid.left }) before between now → TakesArrival (Err (last_of Right why)) old mid before now
stops_behind why old mid before between now both =
    let takes = stops_right mid.left.head why old (record mid { left = unseen mid.left }) before between now both in
    record {
      left_bytes = takes.left_bytes;
      right_bytes = takes.right_bytes;
      left = takes.left;
      right = takes.right;
      others = takes.others;
      leads = λ l r l_follows r_follows. any_behind (last_of Right why) (arrivals_ahead old (in_front takes.left_bytes l) (in_front takes.right_bytes r)) (arrivals_ahead (record mid { left = unseen mid.left }) l r) (arrivals_ahead mid l r) (takes.leads l r l_follows r_follows);
      ended = takes.ended;
      left_needed = takes.left_needed;
      right_needed = takes.right_needed;
    }
