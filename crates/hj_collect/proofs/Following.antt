-- A collector goes on standing for the reports that were taken, and its least mark is their punctuation.
use Rattle.std.proofs.Common.{◌≡◌, ℕ, zero, suc, ◌<◌, Bool, true, false, ◌&&◌, ◌||◌, List, [], ◌∷◌, ◌++◌, map, set, get_or, replicate, length, Some, None, Option, refl, sym, ap, ◌∙◌, arith}
use Rattle.std.specs.List.{list_any, list_all, flat_map, filter_map, last_or, cons_option}
use Rattle.std.proofs.lemmas.List.{map-set, length-map, get_or-map}
use Rattle.std.proofs.lemmas.List.Folds.{list_any-append}
use Rattle.std.proofs.lemmas.List.Elements.{filter_map-append}
use Rattle.std.proofs.Math.Seq.{map-set_same}
use Rattle.hj_base.specs.declared.numbers.CoreNo.{CoreNo}
use Rattle.hj_base.specs.declared.numbers.Side.{Side}
use Rattle.hj_base.specs.declared.numbers.Side.TheVariants.{Left, Right}
use Rattle.hj_msg.specs.declared.message.Report.{Report}
use Rattle.hj_msg.specs.declared.message.Report.TheVariants.{Handled, Quiet, Ended, NoMemory}
use Rattle.hj_msg.specs.Punctuation.{Mark, up_to, all, told_up_to, is_end, lesser, mark_of, punctuation}
use Rattle.hj_collect.specs.Marks.{raised_to, is_same, least_of, with_raised, with_end}
use Rattle.hj_collect.specs.Collector.{CollectorState, after_report, has_ended, least_mark, nothing_taken}
use Rattle.hj_collect.specs.StandsFor.{StandsFor, with_report}
use Rattle.hj_collect.proofs.MarkOrder.{lesser-comm, lesser-assoc}
use Rattle.hj_collect.proofs.LeastMarks.{least-cons}

-- ---- a core's mark, with one report more

or_false : (b : Bool) → (b || false) ≡ b
or_false true = refl
or_false false = refl

last_or-snoc : {X : Type 0} (o : Option X) (xs : List X) (x : X) → last_or o (xs ++ x ∷ []) ≡ Some x
last_or-snoc o [] x = refl
last_or-snoc o (y ∷ ys) x = last_or-snoc (Some y) ys x

module _ {P : Type 0} (side : Side) (rs : List (Report P)) (r : Report P) where
  ends_as : is_end r ≡ false → list_any is_end (rs ++ r ∷ []) ≡ list_any is_end rs
  ends_as no_end = list_any-append is_end rs (r ∷ []) ∙ (ap (λ b. list_any is_end rs || (b || false)) no_end ∙ or_false (list_any is_end rs))

  pub mark-raised : (number : ℕ) → is_end r ≡ false → told_up_to side r ≡ Some number → mark_of side (rs ++ r ∷ []) ≡ raised_to number (mark_of side rs)
  mark-raised number no_end arrival = by (list_any is_end rs) refl (last_or None (filter_map (told_up_to side) rs)) refl
    where
      last : last_or None (filter_map (told_up_to side) (rs ++ r ∷ [])) ≡ Some number
      last =
          ap (last_or None) (filter_map-append (told_up_to side) rs (r ∷ []) ∙ ap (λ o. filter_map (told_up_to side) rs ++ cons_option o []) arrival)
          ∙ last_or-snoc None (filter_map (told_up_to side) rs) number

      by : (b : Bool) → list_any is_end rs ≡ b → (o : Option ℕ) → last_or None (filter_map (told_up_to side) rs) ≡ o → mark_of side (rs ++ r ∷ []) ≡ raised_to number (mark_of side rs)
      by true e o f = let ended = ends_as no_end ∙ e in rw (ended, e) refl
      by false e None f = let ended = ends_as no_end ∙ e in rw (ended, e, f, last) refl
      by false e (Some n) f = let ended = ends_as no_end ∙ e in rw (ended, e, f, last) refl

  pub mark-other : is_end r ≡ false → told_up_to side r ≡ None → mark_of side (rs ++ r ∷ []) ≡ mark_of side rs
  mark-other no_end arrival = by (list_any is_end rs) refl
    where
      append_none : (ns : List ℕ) → ns ++ [] ≡ ns
      append_none [] = refl
      append_none (n ∷ ns) = ap (λ ms. n ∷ ms) (append_none ns)

      same : filter_map (told_up_to side) (rs ++ r ∷ []) ≡ filter_map (told_up_to side) rs
      same =
          filter_map-append (told_up_to side) rs (r ∷ [])
          ∙ (ap (λ o. filter_map (told_up_to side) rs ++ cons_option o []) arrival ∙ append_none (filter_map (told_up_to side) rs))

      by : (b : Bool) → list_any is_end rs ≡ b → mark_of side (rs ++ r ∷ []) ≡ mark_of side rs
      by true e = let ended = ends_as no_end ∙ e in rw (ended, e) refl
      by false e = let ended = ends_as no_end ∙ e in rw (ended, e, same) refl

  pub mark-end : is_end r ≡ true → mark_of side (rs ++ r ∷ []) ≡ Some all
  mark-end is =
      let ended : list_any is_end (rs ++ r ∷ []) ≡ true = list_any-append is_end rs (r ∷ []) ∙ (ap (λ b. list_any is_end rs || (b || false)) is ∙ any_true (list_any is_end rs)) in
      rw ended refl
    where
      any_true : (b : Bool) → (b || true) ≡ true
      any_true true = refl
      any_true false = refl

-- ---- the marks of all cores, with one report more of one of them

module _ {P : Type 0} (side : Side) (lists : List (List (Report P))) (core : ℕ) (r : Report P) (low : core < length lists) where
  marks_with : map (mark_of side) (with_report core r lists) ≡ set (map (mark_of side) lists) core (mark_of side (get_or lists core [] ++ r ∷ []))
  marks_with = map-set (mark_of side) lists core (get_or lists core [] ++ r ∷ [])

  pub marks-raised : (number : ℕ) → is_end r ≡ false → told_up_to side r ≡ Some number → with_raised core number (map (mark_of side) lists) ≡ map (mark_of side) (with_report core r lists)
  marks-raised number no_end arrival =
      let at = get_or-map (mark_of side) lists core [] None low in
      sym (marks_with ∙ ap (set (map (mark_of side) lists) core) (mark-raised side (get_or lists core []) r number no_end arrival ∙ ap (raised_to number) (sym at)))

  pub marks-other : is_end r ≡ false → told_up_to side r ≡ None → map (mark_of side) lists ≡ map (mark_of side) (with_report core r lists)
  marks-other no_end arrival = sym (map-set_same (mark_of side) lists core (get_or lists core [] ++ r ∷ []) [] (mark-other side (get_or lists core []) r no_end arrival))

  pub marks-end : is_end r ≡ true → with_end core (map (mark_of side) lists) ≡ map (mark_of side) (with_report core r lists)
  marks-end is = sym (marks_with ∙ ap (set (map (mark_of side) lists) core) (mark-end side (get_or lists core []) r is))

-- a collector that took note of a report stands for the lists with that report
pub follows : {P : Type 0} (core : CoreNo) (r : Report P) (collector : CollectorState) (lists : List (List (Report P))) → core.0 < length collector.left → StandsFor collector lists
    → StandsFor (after_report core r collector) (with_report core.0 r lists)
follows {P} core r collector lists low is = go r
  where
    below : core.0 < length lists
    below = omega (arith, low, ap length is.left, length-map lists (mark_of Left))

    go : (r : Report P) → StandsFor (after_report core r collector) (with_report core.0 r lists)
    go (Handled at Left row partners) =
        let r : Report P = Handled at Left row partners in
        record { left = ap (with_raised core.0 at.0) is.left ∙ marks-raised Left lists core.0 r below at.0 refl refl; right = is.right ∙ marks-other Right lists core.0 r below refl refl }
    go (Handled at Right row partners) =
        let r : Report P = Handled at Right row partners in
        record { left = is.left ∙ marks-other Left lists core.0 r below refl refl; right = ap (with_raised core.0 at.0) is.right ∙ marks-raised Right lists core.0 r below at.0 refl refl }
    go (Quiet at Left) =
        let r : Report P = Quiet at Left in
        record { left = ap (with_raised core.0 at.0) is.left ∙ marks-raised Left lists core.0 r below at.0 refl refl; right = is.right ∙ marks-other Right lists core.0 r below refl refl }
    go (Quiet at Right) =
        let r : Report P = Quiet at Right in
        record { left = is.left ∙ marks-other Left lists core.0 r below refl refl; right = ap (with_raised core.0 at.0) is.right ∙ marks-raised Right lists core.0 r below at.0 refl refl }
    go Ended = record { left = ap (with_end core.0) is.left ∙ marks-end Left lists core.0 Ended below refl; right = ap (with_end core.0) is.right ∙ marks-end Right lists core.0 Ended below refl }
    go NoMemory = record { left = is.left ∙ marks-other Left lists core.0 NoMemory below refl refl; right = is.right ∙ marks-other Right lists core.0 NoMemory below refl refl }

-- ---- the least mark

pub new_follows : {P : Type 0} (cores : ℕ) → StandsFor {P = P} (nothing_taken cores) (replicate cores [])
new_follows {P} cores = record { left = none Left cores; right = none Right cores }
  where
    none : (side : Side) (n : ℕ) → replicate n None ≡ map (mark_of {P = P} side) (replicate n [])
    none side zero = refl
    none side (suc n) = ap (λ ms. None ∷ ms) (none side n)

pair_lesser : (l r a b : Option Mark) → lesser (lesser l a) (lesser r b) ≡ lesser l (lesser r (lesser a b))
pair_lesser l r a b =
    lesser-assoc l a (lesser r b) ∙ ap (lesser l) (sym (lesser-assoc a r b) ∙ (ap (λ m. lesser m b) (lesser-comm a r) ∙ lesser-assoc r a b))

least_is : {P : Type 0} (lists : List (List (Report P))) → lesser (least_of (map (mark_of Left) lists)) (least_of (map (mark_of Right) lists)) ≡ punctuation lists
least_is [] = refl
least_is (rs ∷ lists) =
    ap (λ m. lesser m (least_of (map (mark_of Right) (rs ∷ lists)))) (least-cons (mark_of Left rs) (map (mark_of Left) lists))
    ∙ (ap (lesser (lesser (mark_of Left rs) (least_of (map (mark_of Left) lists)))) (least-cons (mark_of Right rs) (map (mark_of Right) lists))
    ∙ (pair_lesser (mark_of Left rs) (mark_of Right rs) (least_of (map (mark_of Left) lists)) (least_of (map (mark_of Right) lists))
    ∙ (ap (λ m. lesser (mark_of Left rs) (lesser (mark_of Right rs) m)) (least_is lists)
    ∙ (ap (lesser (mark_of Left rs)) (sym (least-cons (mark_of Right rs) (flat_map (λ reports. mark_of Left reports ∷ mark_of Right reports ∷ []) lists)))
    ∙ sym (least-cons (mark_of Left rs) (mark_of Right rs ∷ flat_map (λ reports. mark_of Left reports ∷ mark_of Right reports ∷ []) lists))))))

pub least_follows : {P : Type 0} (collector : CollectorState) (lists : List (List (Report P))) → StandsFor collector lists → least_mark collector ≡ punctuation lists
least_follows collector lists is = ap (λ m. lesser m (least_of collector.right)) (ap least_of is.left) ∙ (ap (λ m. lesser (least_of (map (mark_of Left) lists)) m) (ap least_of is.right) ∙ least_is lists)

-- ---- the end

is_all-lesser : (a b : Option Mark) → is_same (lesser a b) (Some all) ≡ (is_same a (Some all) && is_same b (Some all))
is_all-lesser None b = refl
is_all-lesser (Some (up_to a)) None = refl
is_all-lesser (Some all) None = refl
is_all-lesser (Some (up_to a)) (Some (up_to b)) = refl
is_all-lesser (Some (up_to a)) (Some all) = refl
is_all-lesser (Some all) (Some (up_to b)) = refl
is_all-lesser (Some all) (Some all) = refl

is_all-mark : {P : Type 0} (side : Side) (rs : List (Report P)) → is_same (mark_of side rs) (Some all) ≡ list_any is_end rs
is_all-mark side rs = by (list_any is_end rs) refl (last_or None (filter_map (told_up_to side) rs)) refl
  where
    by : (b : Bool) → list_any is_end rs ≡ b → (o : Option ℕ) → last_or None (filter_map (told_up_to side) rs) ≡ o → is_same (mark_of side rs) (Some all) ≡ list_any is_end rs
    by true e o f = rw e refl
    by false e None f = rw (e, f) refl
    by false e (Some n) f = rw (e, f) refl

ends_with : {P : Type 0} (lists : List (List (Report P))) → is_same (punctuation lists) (Some all) ≡ list_all (λ reports. list_any is_end reports) lists
ends_with [] = refl
ends_with (rs ∷ lists) =
    let marks = flat_map (λ reports. mark_of Left reports ∷ mark_of Right reports ∷ []) lists in
    ap (λ m. is_same m (Some all)) (least-cons (mark_of Left rs) (mark_of Right rs ∷ marks) ∙ ap (lesser (mark_of Left rs)) (least-cons (mark_of Right rs) marks))
    ∙ (is_all-lesser (mark_of Left rs) (lesser (mark_of Right rs) (least_of marks))
    ∙ rw (is_all-mark Left rs, is_all-lesser (mark_of Right rs) (least_of marks), is_all-mark Right rs, ends_with lists) (twice (list_any is_end rs) (list_all (λ reports. list_any is_end reports) lists)))
  where
    twice : (a b : Bool) → (a && (a && b)) ≡ (a && b)
    twice true b = refl
    twice false b = refl

pub ended_follows : {P : Type 0} (collector : CollectorState) (lists : List (List (Report P))) → StandsFor collector lists → has_ended collector ≡ list_all (λ reports. list_any is_end reports) lists
ended_follows collector lists is = ap (λ m. is_same m (Some all)) (least_follows collector lists is) ∙ ends_with lists
