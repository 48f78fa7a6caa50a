-- Two lists of rows, merged by number.
use Rattle.std.proofs.Common.{◌≡◌, ◌<◌, ◌≤◌, Bool, true, false, cond, ltb, List, [], ◌∷◌, ◌++◌, refl, sym, ap, ◌∙◌, arith}
use Rattle.std.specs.List.{filter}
use Rattle.std.proofs.lemmas.Bool.Decides.{nat_tests}
use Rattle.hj_base.specs.declared.numbers.Side.{Side}
use Rattle.hj_base.specs.declared.numbers.Side.TheVariants.{Left, Right}
use Rattle.hj_window.specs.declared.side_rows.HeldRow.{HeldRow}
use Rattle.hj_window.specs.LiveRows.{LiveRow, AllAbove, AllBelow, IsInOrder, of_side}
use Rattle.hj_window.specs.LiveView.{live_row, live_rows, among, merged}
use Rattle.hj_window.proofs.Order.{AllFrom, above_filter, above_lower, from_filter, from_above}

-- a left row below all right ones comes first
first_left : (row : LiveRow) (rows others : List LiveRow) → AllAbove row.no others → merged (row ∷ rows) others ≡ row ∷ merged rows others
first_left row rows [] above = refl
first_left row rows (other ∷ others) above =
    let less : ltb row.no other.no ≡ true = grind (arith, nat_tests) in
    ap (λ b. cond b (row ∷ merged rows (other ∷ others)) (other ∷ among row (merged rows) others)) less

-- a right row that isn't above any left one comes first
first_right : (rows : List LiveRow) (other : LiveRow) (others : List LiveRow) → AllFrom other.no rows → merged rows (other ∷ others) ≡ other ∷ merged rows others
first_right [] other others from = refl
first_right (row ∷ rows) other others from =
    let more : ltb row.no other.no ≡ false = grind (arith, nat_tests) in
    ap (λ b. cond b (row ∷ merged rows (other ∷ others)) (other ∷ among row (merged rows) others)) more

filter_among : (test : LiveRow → Bool) (row : LiveRow) (rows others : List LiveRow) → IsInOrder (row ∷ rows) → IsInOrder others
    → ((behind : List LiveRow) → IsInOrder behind → filter test (merged rows behind) ≡ merged (filter test rows) (filter test behind))
    → filter test (merged (row ∷ rows) others) ≡ merged (filter test (row ∷ rows)) (filter test others)
filter_among test row rows [] order tt' so = elim (test row) as (λ b. cond b (row ∷ filter test (merged rows [])) (filter test (merged rows [])) ≡ merged (cond b (row ∷ filter test rows) (filter test rows)) []) [
  | true ↦ ap (λ l. row ∷ l) (so [] tt)
  | false ↦ so [] tt
]
filter_among test row rows (other ∷ others) order order' so = elim (ltb row.no other.no) as (λ b. ltb row.no other.no ≡ b → filter test (cond b (row ∷ merged rows (other ∷ others)) (other ∷ among row (merged rows) others)) ≡ merged (filter test (row ∷ rows)) (filter test (other ∷ others))) [
  | true ↦ λ less. let below : row.no < other.no = grind (arith, nat_tests) in
      let above : AllAbove row.no (other ∷ others) = (below, above_lower other.no row.no others (omega arith) order'.0) in
      elim (test row) as (λ b. cond b (row ∷ filter test (merged rows (other ∷ others))) (filter test (merged rows (other ∷ others))) ≡ merged (cond b (row ∷ filter test rows) (filter test rows)) (filter test (other ∷ others))) [
        | true ↦ ap (λ l. row ∷ l) (so (other ∷ others) order') ∙ sym (first_left row (filter test rows) (filter test (other ∷ others)) (above_filter test row.no (other ∷ others) above))
        | false ↦ so (other ∷ others) order'
      ]
  | false ↦ λ more. let from : other.no ≤ row.no = grind (arith, nat_tests) in
      let all : AllFrom other.no (row ∷ rows) = (from, from_above row.no other.no rows (omega arith) order.0) in
      let rest = filter_among test row rows others order order'.1 so in
      elim (test other) as (λ b. cond b (other ∷ filter test (among row (merged rows) others)) (filter test (among row (merged rows) others)) ≡ merged (filter test (row ∷ rows)) (cond b (other ∷ filter test others) (filter test others))) [
        | true ↦ ap (λ l. other ∷ l) rest ∙ sym (first_right (filter test (row ∷ rows)) other (filter test others) (from_filter test other.no (row ∷ rows) all))
        | false ↦ rest
      ]
] refl

-- a filter of the merged rows is the filtered ones, merged
pub filter_merged : (test : LiveRow → Bool) (rows others : List LiveRow) → IsInOrder rows → IsInOrder others → filter test (merged rows others) ≡ merged (filter test rows) (filter test others)
filter_merged test [] others order order' = refl
filter_merged test (row ∷ rows) others order order' = filter_among test row rows others order order' (λ behind ordered. filter_merged test rows behind order.1 ordered)

push_among : (row : LiveRow) (rows others : List LiveRow) (last : LiveRow) → AllBelow last.no others
    → ((behind : List LiveRow) → AllBelow last.no behind → merged rows behind ++ last ∷ [] ≡ merged (rows ++ last ∷ []) behind)
    → merged (row ∷ rows) others ++ last ∷ [] ≡ among row (merged (rows ++ last ∷ [])) others
push_among row rows [] last below so = ap (λ l. row ∷ l) (so [] tt)
push_among row rows (other ∷ others) last below so = elim (ltb row.no other.no) as (λ b. cond b (row ∷ merged rows (other ∷ others)) (other ∷ among row (merged rows) others) ++ last ∷ [] ≡ cond b (row ∷ merged (rows ++ last ∷ []) (other ∷ others)) (other ∷ among row (merged (rows ++ last ∷ [])) others)) [
  | true ↦ ap (λ l. row ∷ l) (so (other ∷ others) below)
  | false ↦ ap (λ l. other ∷ l) (push_among row rows others last below.1 so)
]

last_among : (others : List LiveRow) (last : LiveRow) → AllBelow last.no others → others ++ last ∷ [] ≡ among last (λ behind. behind) others
last_among [] last below = refl
last_among (other ∷ others) last below =
    let more : ltb last.no other.no ≡ false = grind (arith, nat_tests) in
    ap (λ l. other ∷ l) (last_among others last below.1) ∙ ap (λ b. cond b (last ∷ other ∷ others) (other ∷ among last (λ behind. behind) others)) (sym more)

-- a left row above all right ones comes last
pub push_left : (rows others : List LiveRow) (last : LiveRow) → AllBelow last.no others → merged rows others ++ last ∷ [] ≡ merged (rows ++ last ∷ []) others
push_left [] others last below = last_among others last below
push_left (row ∷ rows) others last below = push_among row rows others last below (λ behind all. push_left rows behind last all)

push_behind : (row : LiveRow) (rows others : List LiveRow) (last : LiveRow) → row.no < last.no
    → ((behind : List LiveRow) → merged rows behind ++ last ∷ [] ≡ merged rows (behind ++ last ∷ []))
    → merged (row ∷ rows) others ++ last ∷ [] ≡ merged (row ∷ rows) (others ++ last ∷ [])
push_behind row rows [] last below so =
    let less : ltb row.no last.no ≡ true = grind (arith, nat_tests) in
    ap (λ l. row ∷ l) (so []) ∙ ap (λ b. cond b (row ∷ merged rows (last ∷ [])) (last ∷ among row (merged rows) [])) (sym less)
push_behind row rows (other ∷ others) last below so = elim (ltb row.no other.no) as (λ b. cond b (row ∷ merged rows (other ∷ others)) (other ∷ among row (merged rows) others) ++ last ∷ [] ≡ cond b (row ∷ merged rows (other ∷ others ++ last ∷ [])) (other ∷ among row (merged rows) (others ++ last ∷ []))) [
  | true ↦ ap (λ l. row ∷ l) (so (other ∷ others))
  | false ↦ ap (λ l. other ∷ l) (push_behind row rows others last below so)
]

-- a right row above all left ones comes last
pub push_right : (rows others : List LiveRow) (last : LiveRow) → AllBelow last.no rows → merged rows others ++ last ∷ [] ≡ merged rows (others ++ last ∷ [])
push_right [] others last below = refl
push_right (row ∷ rows) others last below = push_behind row rows others last below.0 (λ behind. push_right rows behind last below.1)

lefts_among : (held : HeldRow) (rows others : List HeldRow) → ((behind : List HeldRow) → of_side Left (merged (live_rows Left rows) (live_rows Right behind)) ≡ live_rows Left rows)
    → of_side Left (among (live_row Left held) (merged (live_rows Left rows)) (live_rows Right others)) ≡ live_row Left held ∷ live_rows Left rows
lefts_among held rows [] so = ap (λ l. live_row Left held ∷ l) (so [])
lefts_among held rows (other ∷ others) so = elim (ltb held.no.0 other.no.0) as (λ b. of_side Left (cond b (live_row Left held ∷ merged (live_rows Left rows) (live_rows Right (other ∷ others))) (live_row Right other ∷ among (live_row Left held) (merged (live_rows Left rows)) (live_rows Right others))) ≡ live_row Left held ∷ live_rows Left rows) [
  | true ↦ ap (λ l. live_row Left held ∷ l) (so (other ∷ others))
  | false ↦ lefts_among held rows others so
]

no_lefts : (others : List HeldRow) → of_side Left (live_rows Right others) ≡ []
no_lefts [] = refl
no_lefts (other ∷ others) = no_lefts others

-- the left rows of the merged ones
pub lefts_of : (rows others : List HeldRow) → of_side Left (merged (live_rows Left rows) (live_rows Right others)) ≡ live_rows Left rows
lefts_of [] others = no_lefts others
lefts_of (held ∷ rows) others = lefts_among held rows others (λ behind. lefts_of rows behind)

rights_among : (held : HeldRow) (rows others : List HeldRow) → ((behind : List HeldRow) → of_side Right (merged (live_rows Left rows) (live_rows Right behind)) ≡ live_rows Right behind)
    → of_side Right (among (live_row Left held) (merged (live_rows Left rows)) (live_rows Right others)) ≡ live_rows Right others
rights_among held rows [] so = so []
rights_among held rows (other ∷ others) so = elim (ltb held.no.0 other.no.0) as (λ b. of_side Right (cond b (live_row Left held ∷ merged (live_rows Left rows) (live_rows Right (other ∷ others))) (live_row Right other ∷ among (live_row Left held) (merged (live_rows Left rows)) (live_rows Right others))) ≡ live_row Right other ∷ live_rows Right others) [
  | true ↦ so (other ∷ others)
  | false ↦ ap (λ l. live_row Right other ∷ l) (rights_among held rows others so)
]

all_rights : (others : List HeldRow) → of_side Right (live_rows Right others) ≡ live_rows Right others
all_rights [] = refl
all_rights (other ∷ others) = ap (λ l. live_row Right other ∷ l) (all_rights others)

-- the right rows of the merged ones
pub rights_of : (rows others : List HeldRow) → of_side Right (merged (live_rows Left rows) (live_rows Right others)) ≡ live_rows Right others
rights_of [] others = all_rights others
rights_of (held ∷ rows) others = rights_among held rows others (λ behind. rights_of rows behind)

-- a filter of a side's rows as they are seen
pub filter_seen : (test : LiveRow → Bool) (side : Side) (rows : List HeldRow) → filter test (live_rows side rows) ≡ live_rows side (filter (λ held. test (live_row side held)) rows)
filter_seen test side [] = refl
filter_seen test side (held ∷ rows) = elim (test (live_row side held)) as (λ b. cond b (live_row side held ∷ filter test (live_rows side rows)) (filter test (live_rows side rows)) ≡ live_rows side (cond b (held ∷ filter (λ other. test (live_row side other)) rows) (filter (λ other. test (live_row side other)) rows))) [
  | true ↦ ap (λ l. live_row side held ∷ l) (filter_seen test side rows)
  | false ↦ filter_seen test side rows
]
