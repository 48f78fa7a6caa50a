-- A side whose next row is told isn't read, and nor are both where the merger is ready.
use Rattle.std.proofs.Common.{◌≡◌, ◌⊎◌, inl, inr, true, false, List, ℕ, ℤ, [], ◌++◌, None, Some, refl, sym, ap, subst, ◌∙◌, append_assoc, append-nil}
use Rattle.std.specs.Prelude.{IsSome}
use Rattle.std.specs.List.{filter}
use Rattle.std.specs.declared.option.Option.{Option}
use Rattle.hj_value.specs.declared.field.Field.{Field}
use Rattle.hj_base.specs.declared.outside.Role.{Role}
use Rattle.hj_base.specs.declared.outside.Role.TheVariants as role
use Rattle.hj_base.specs.Outside.{RoleState, ChangesOnlyStreams}
use Rattle.hj_record.specs.declared.fault.PieceFault.{PieceFault}
use Rattle.hj_record.specs.Pieces.{Pieces, pieces_of}
use Rattle.hj_event.specs.declared.merger.Next.{Next}
use Rattle.hj_event.specs.declared.stop.MergeEnd.{MergeEnd}
use Rattle.hj_event.specs.Merger.{Merging, AnswersFrom, ReadsNothingNext, TakesNext, TakesNoBytes}
use Rattle.hj_event.specs.Numbering.{has_due}
use Rattle.hj_event.specs.Roles.{IsUnread}
use Rattle.hj_event.specs.declared.fault.RecordFault.{RecordFault}
use Rattle.hj_event.specs.Rows.{Rows, RowsEnd, no_row, rows_in, greatest_of, put_all, is_sure, in_order, unread}
use Rattle.hj_event.specs.Sides.{ReaderState, SideState, in_front, cut_off, unless_refused, read_ahead, unless_stopped, rows_ahead}
use Rattle.hj_event.specs.Taking.{IsNeeded, IsReadAsNeeded, IsTold, TellsNext, unseen}
use Rattle.hj_event.proofs.CutPieces.{PiecesCut, pieces_of-cut}
use Rattle.hj_event.proofs.CutRows.{RowsCut, rows_from-cut}
use Rattle.hj_event.proofs.OrderLemmas.{unsure_earlier, greatest_of-behind, put_all-behind}

-- ---- fewer bytes tell no more

-- Where some rows that were read and those that wait have none that is sure, nor have the first of them.
cut_none : (slack : ℕ) (greatest : Option ℤ) (waiting : List (List Field)) (cut all : Rows) → RowsCut cut all → in_order slack greatest waiting all ≡ no_row unread → in_order slack greatest waiting cut ≡ no_row unread
cut_none slack greatest waiting cut all (inl e) none = ap (in_order slack greatest waiting) e ∙ none
cut_none slack greatest waiting cut all (inr e) none =
    let ending : all.ending ≡ unread = ap (λ (r : Rows). r.ending) none in
    let sure : filter (is_sure slack (greatest_of greatest all.rows)) (put_all waiting all.rows) ≡ [] =
    sym (ap (λ (ending : RowsEnd). (in_order slack greatest waiting (record { rows = all.rows; ending = ending })).rows) ending) ∙ ap (λ (r : Rows). r.rows) none in
    let behind : filter (is_sure slack (greatest_of (greatest_of greatest cut.rows) e.1.rest)) (put_all (put_all waiting cut.rows) e.1.rest) ≡ [] =
    sym (ap (λ (rows : List (List Field)). filter (is_sure slack (greatest_of greatest rows)) (put_all waiting rows)) e.1.is
    ∙ (ap (λ (time : Option ℤ). filter (is_sure slack time) (put_all waiting (cut.rows ++ e.1.rest))) (greatest_of-behind greatest cut.rows e.1.rest)
    ∙ ap (filter (is_sure slack (greatest_of (greatest_of greatest cut.rows) e.1.rest))) (put_all-behind waiting cut.rows e.1.rest))) ∙ sure in
    ap (λ (ending : RowsEnd). in_order slack greatest waiting (record { rows = cut.rows; ending = ending })) e.0
    ∙ ap (λ (rows : List (List Field)). record { rows = rows; ending = unread }) (unsure_earlier slack (greatest_of greatest cut.rows) (put_all waiting cut.rows) e.1.rest behind)

refused_cut : (found : Option PieceFault) (cut all : Pieces) → PiecesCut cut all → PiecesCut (unless_refused found cut) (unless_refused found all)
refused_cut None cut all h = h
refused_cut (Some found) cut all h = inl refl

-- What was read with more behind it tells no row: nor does it alone.
read_cut : (side : ReaderState) (more : List ℕ) → RowsCut (read_ahead side cut_off) (read_ahead side (in_front more cut_off))
read_cut side more =
    let bytes = side.part ++ (side.rest ++ []) in
    let longer : side.part ++ (side.rest ++ (more ++ [])) ≡ bytes ++ more =
    ap (λ xs. side.part ++ (side.rest ++ xs)) (append-nil more) ∙ (sym (append_assoc side.part side.rest more) ∙ ap (λ xs. (side.part ++ xs) ++ more) (sym (append-nil side.rest))) in
    let cut = unless_refused side.fault (pieces_of side.room (record { bytes = bytes; whole = false })) in
    let all = unless_refused side.fault (pieces_of side.room (record { bytes = bytes ++ more; whole = false })) in
    subst (λ (xs : List ℕ). RowsCut (read_ahead side cut_off) (rows_in side.columns side.slack side.record_no side.time (unless_refused side.fault (pieces_of side.room (record { bytes = xs; whole = false }))))) (sym longer)
    (rows_from-cut side.columns side.slack side.record_no side.time cut all (refused_cut side.fault _ _ (pieces_of-cut side.room bytes more false)))

stopped_cut : (stop : Option (ℕ × RecordFault)) (cut all : Rows) → RowsCut cut all → RowsCut (unless_stopped stop cut) (unless_stopped stop all)
stopped_cut None cut all h = h
stopped_cut (Some stop) cut all h = inl refl

still_none : (side : SideState) (more : List ℕ) → rows_ahead side (in_front more cut_off) ≡ no_row unread → rows_ahead side cut_off ≡ no_row unread
still_none side more none =
    cut_none side.reading.slack side.reading.time side.waiting (unless_stopped side.stop (read_ahead side.reading cut_off)) (unless_stopped side.stop (read_ahead side.reading (in_front more cut_off)))
    (stopped_cut side.stop (read_ahead side.reading cut_off) (read_ahead side.reading (in_front more cut_off)) (read_cut side.reading more)) none

-- ---- a side that is told

told_unneeded : (side : SideState) (bytes : List ℕ) → (side.reading.ended ≡ true) ⊎ TellsNext side → IsNeeded side bytes → ⊥
told_unneeded side bytes (inl ended) needed = cc (ended, needed.going)
told_unneeded side bytes (inr tells) needed = tells (still_none side needed.earlier needed.missing)

unread_from : (head : Option (List Field)) (side : SideState) (bytes : List ℕ) (before now : RoleState) → IsSome head ⊎ (side.reading.ended ≡ true) ⊎ TellsNext side → IsReadAsNeeded head side bytes before now → IsUnread bytes before now
unread_from (Some row) side bytes before now told as_needed = as_needed
unread_from None side bytes before now told (inl same) = same
unread_from None side bytes before now (inl some) (inr needed) = cc
unread_from None side bytes before now (inr told) (inr needed) = absurd (told_unneeded side bytes told needed)

-- A side that is told isn't read.
pub told_unread : (side : SideState) (bytes : List ℕ) (before now : RoleState) → IsTold side → IsReadAsNeeded side.head side bytes before now → IsUnread bytes before now
told_unread side bytes before now told as_needed = unread_from side.head side bytes before now told as_needed

-- What is told of the rows behind a head is told with it.
pub told_behind : (head : Option (List Field)) (side : SideState) → IsTold (unseen side) → IsTold (record side { head = head })
told_behind None side told = told
told_behind (Some row) side told = inl refl

-- ---- a merger that is ready

-- It has given its last answer, or an event is due, or what comes next of both sides is told.
abbrev pub IsReady : Merging → Type 0
IsReady merging = IsSome merging.over ⊎ (has_due merging.numbering.due ≡ true) ⊎ (IsTold merging.sides.left × IsTold merging.sides.right)

same_roles : (before now : Role → RoleState) → ChangesOnlyStreams before now → now role.Left ≡ before role.Left → now role.Right ≡ before role.Right → (of : Role) → now of ≡ before of
same_roles before now others left right role.Query = others role.Query (λ e. cc) (λ e. cc)
same_roles before now others left right role.SecondQuery = others role.SecondQuery (λ e. cc) (λ e. cc)
same_roles before now others left right role.Left = left
same_roles before now others left right role.Right = right
same_roles before now others left right role.Third = others role.Third (λ e. cc) (λ e. cc)
same_roles before now others left right role.Trace = others role.Trace (λ e. cc) (λ e. cc)
same_roles before now others left right role.Output = others role.Output (λ e. cc) (λ e. cc)

-- A call reads nothing.
abbrev ReadsNone : (over : Option MergeEnd) (answer : Next) (old new : Merging) (before now : Role → RoleState) → AnswersFrom over answer old new before now → Type 0
ReadsNone over answer old new before now call = TakesNoBytes over answer old new before now call × ((of : Role) → now of ≡ before of)

both_unread : (answer : Next) (old new : Merging) (before now : Role → RoleState) (takes : TakesNext answer old new before now) → IsUnread takes.left_bytes (before role.Left) (now role.Left) → IsUnread takes.right_bytes (before role.Right) (now role.Right) → ReadsNone None answer old new before now takes
both_unread answer old new before now takes left right = ((left.0, right.0), same_roles before now takes.others left.1 right.1)

none_over : (over : Option MergeEnd) → over ≡ None → IsSome over → ⊥
none_over None e some = cc
none_over (Some last) e some = cc

reads_none : (merging : Merging) (answer : Next) (new : Merging) (before now : Role → RoleState) (over : Option MergeEnd) → merging.over ≡ over → IsReady merging → (call : AnswersFrom over answer merging new before now) → ReadsNone over answer merging new before now call
reads_none merging answer new before now (Some last) is ready repeats = (tt, repeats.2)
reads_none merging answer new before now None is (inl some) takes = absurd (none_over merging.over is some)
reads_none merging answer new before now None is (inr (inl due)) takes = let both = takes.due due in both_unread answer merging new before now takes both.0 both.1
reads_none merging answer new before now None is (inr (inr told)) takes =
    both_unread answer merging new before now takes
    (told_unread merging.sides.left takes.left_bytes (before role.Left) (now role.Left) told.0 takes.left_needed)
    (told_unread merging.sides.right takes.right_bytes (before role.Right) (now role.Right) told.1 takes.right_needed)

pub reads_nothing : (merging : Merging) → IsReady merging → ReadsNothingNext merging
reads_nothing merging ready answer new before now call = reads_none merging answer new before now merging.over refl ready call
