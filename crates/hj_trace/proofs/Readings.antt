-- A text begins with the text of at most one actor and a comma, so that a trace is that of one schedule.
use Rattle.std.proofs.Common.{◌≡◌, ◌≢◌, ℕ, ◌+◌, ◌<◌, ◌≤◌, ◌^◌, Bool, List, [], ◌∷◌, ◌++◌, length, get_or, None, Some, refl, sym, ap, ap₂, subst, ◌∙◌, append_assoc, arith, length-append}
use Rattle.std.proofs.lemmas.Fmt.{decimal_injective}
use Rattle.std.specs.Fmt.{decimal}
use Rattle.hj_base.specs.declared.numbers.Side.{Side}
use Rattle.hj_base.specs.declared.numbers.Side.TheVariants.{Left, Right}
use Rattle.hj_base.specs.declared.numbers.CoreNo.{CoreNo}
use Rattle.hj_base.specs.Journals.{IsPrefix}
use Rattle.hj_msg.specs.declared.event.Event.{Event}
use Rattle.hj_chain.specs.declared.actor.Actor.{Actor}
use Rattle.hj_chain.specs.declared.actor.Actor.TheVariants.{Admit, PortLeft, PortRight, Core, Collect}
use Rattle.hj_chain.specs.Chain.{ChainState, cause}
use Rattle.hj_chain.specs.Progress.{IsDone}
use Rattle.hj_chain.specs.Reached.{Reached, asked, begins, steps}
use Rattle.hj_msg.specs.Feed.{event_in}
use Rattle.hj_chain.proofs.Doing.{in_range}
use Rattle.hj_chain.proofs.Goings.{cause-going, enabled_going}
use Rattle.hj_chain.proofs.Shape.{shape}
use Rattle.hj_chain.proofs.Stuck.{done_is_stuck}
use Rattle.hj_trace.specs.declared.fault.TraceFault.{TraceFault}
use Rattle.hj_trace.specs.declared.fault.TraceFault.TheVariants as fault
use Rattle.hj_trace.specs.Actors.{IsNumbered, actor_text, end_text}
use Rattle.hj_trace.specs.Checking.{Breaks, DifferAt, IsRight, Part, Stands}
use Rattle.hj_trace.specs.Line.{line_text, said}
use Rattle.hj_trace.specs.Play.{Playing, AreEnabled, answer_from, at_start, play, played, trace_text}
use Rattle.hj_trace.proofs.Commas.{actor_no_comma, comma_behind, no_more}

-- ---- one actor

abbrev first_of : List ℕ → ℕ
first_of bytes = get_or bytes 0 0

ends_alike : (xs ys : List ℕ) (a b : ℕ) → xs ++ a ∷ [] ≡ ys ++ b ∷ [] → (xs ≡ ys) × (a ≡ b)
ends_alike [] [] a b e = (refl, let h : a ∷ [] ≡ b ∷ [] = e in cc)
ends_alike [] (y ∷ []) a b e = absurd (let h : a ∷ [] ≡ y ∷ (b ∷ []) = e in omega (arith, ap length h))
ends_alike [] (y ∷ z ∷ ys) a b e = absurd (let h : a ∷ [] ≡ y ∷ (z ∷ (ys ++ b ∷ [])) = e in omega (arith, ap length h))
ends_alike (x ∷ []) [] a b e = absurd (let h : x ∷ (a ∷ []) ≡ b ∷ [] = e in omega (arith, ap length h))
ends_alike (x ∷ w ∷ xs) [] a b e = absurd (let h : x ∷ (w ∷ (xs ++ a ∷ [])) ≡ b ∷ [] = e in omega (arith, ap length h))
ends_alike (x ∷ xs) (y ∷ ys) a b e =
    let h : x ∷ (xs ++ a ∷ []) ≡ y ∷ (ys ++ b ∷ []) = e in
    let later = ends_alike xs ys a b (cc) in
    (let same : x ≡ y = cc in let rest : xs ≡ ys = later.0 in cc, later.1)

same_core : (a b : CoreNo) → a.0 < 2 ^ 16 → b.0 < 2 ^ 16 → decimal a.0 ≡ decimal b.0 → a ≡ b
same_core a b p q e = ap (λ (n : ℕ). record { 0 = n }) (decimal_injective a.0 b.0 (omega (arith, p)) (omega (arith, q)) e)

same_end : (one other : Side) (xs ys : List ℕ) → xs ++ end_text one ≡ ys ++ end_text other → (xs ≡ ys) × (one ≡ other)
same_end Left Left xs ys e = ((ends_alike xs ys 76 76 e).0, refl)
same_end Left Right xs ys e = absurd (omega (arith, (ends_alike xs ys 76 82 e).1))
same_end Right Left xs ys e = absurd (omega (arith, (ends_alike xs ys 82 76 e).1))
same_end Right Right xs ys e = ((ends_alike xs ys 82 82 e).0, refl)

tail_of : (x y : ℕ) (xs ys : List ℕ) → x ∷ xs ≡ y ∷ ys → xs ≡ ys
tail_of x y xs ys e = cc

pub same_actor : (a b : Actor) → IsNumbered a → IsNumbered b → actor_text a ≡ actor_text b → a ≡ b
same_actor Admit Admit p q e = refl
same_actor PortLeft PortLeft p q e = refl
same_actor PortRight PortRight p q e = refl
same_actor (Core a one) (Core b other) p q e =
    let ends = same_end one other (decimal a.0) (decimal b.0) (tail_of 67 67 (decimal a.0 ++ end_text one) (decimal b.0 ++ end_text other) e) in
    ap₂ Core (same_core a b p q ends.0) ends.1
same_actor (Collect a) (Collect b) p q e = ap Collect (same_core a b p q (tail_of 75 75 (decimal a.0) (decimal b.0) e))
same_actor PortLeft PortRight p q e = absurd (omega (arith, ap (λ (l : List ℕ). get_or l 1 0) e))
same_actor PortRight PortLeft p q e = absurd (omega (arith, ap (λ (l : List ℕ). get_or l 1 0) e))
same_actor Admit PortLeft p q e = absurd (omega (arith, ap first_of e))
same_actor Admit PortRight p q e = absurd (omega (arith, ap first_of e))
same_actor Admit (Core b other) p q e = absurd (omega (arith, ap first_of e))
same_actor Admit (Collect b) p q e = absurd (omega (arith, ap first_of e))
same_actor PortLeft Admit p q e = absurd (omega (arith, ap first_of e))
same_actor PortLeft (Core b other) p q e = absurd (omega (arith, ap first_of e))
same_actor PortLeft (Collect b) p q e = absurd (omega (arith, ap first_of e))
same_actor PortRight Admit p q e = absurd (omega (arith, ap first_of e))
same_actor PortRight (Core b other) p q e = absurd (omega (arith, ap first_of e))
same_actor PortRight (Collect b) p q e = absurd (omega (arith, ap first_of e))
same_actor (Core a one) Admit p q e = absurd (omega (arith, ap first_of e))
same_actor (Core a one) PortLeft p q e = absurd (omega (arith, ap first_of e))
same_actor (Core a one) PortRight p q e = absurd (omega (arith, ap first_of e))
same_actor (Core a one) (Collect b) p q e = absurd (omega (arith, ap first_of e))
same_actor (Collect a) Admit p q e = absurd (omega (arith, ap first_of e))
same_actor (Collect a) PortLeft p q e = absurd (omega (arith, ap first_of e))
same_actor (Collect a) PortRight p q e = absurd (omega (arith, ap first_of e))
same_actor (Collect a) (Core b other) p q e = absurd (omega (arith, ap first_of e))

-- what begins with the texts of two actors and a comma begins with one
pub one_actor : (a b : Actor) (x y : List ℕ) → IsNumbered a → IsNumbered b → actor_text a ++ 44 ∷ x ≡ actor_text b ++ 44 ∷ y → a ≡ b
one_actor a b x y p q e =
    let split = comma_behind (actor_text a) (44 ∷ x) (actor_text b) y (actor_no_comma a p) (actor_no_comma b q) e in
    sym (same_actor b a q p (no_more (actor_text a) split.0 (actor_text b) x y split.1 split.2 split.3))

-- ---- the steps of a trace

-- the number of an actor that is enabled
pub is_numbered : {P : Type 0} (chain : ChainState P) (actor : Actor) → length chain.cores ≤ 64 → cause chain actor ≡ None → IsNumbered actor
is_numbered chain Admit few can = tt
is_numbered chain PortLeft few can = tt
is_numbered chain PortRight few can = tt
is_numbered chain (Core place end) few can =
    let here = in_range chain place.0 _ (sym (cause-going chain (Core place end) (enabled_going chain (Core place end) can)) ∙ can) in
    omega (arith, here.0, few)
is_numbered chain (Collect place) few can =
    let here = in_range chain place.0 _ (sym (cause-going chain (Collect place) (enabled_going chain (Collect place) can)) ∙ can) in
    omega (arith, here.0, few)

cancel : (xs ys zs : List ℕ) → xs ++ ys ≡ xs ++ zs → ys ≡ zs
cancel [] ys zs e = e
cancel (x ∷ xs) ys zs e = cancel xs ys zs (tail_of x x (xs ++ ys) (xs ++ zs) e)

module _ {P : Type 0} (matches : P → P → Bool) (n flight : ℕ) where
  -- a chain that steps lead to, with what is to come
  pub record IsReached (now : Playing P) : Type 0 where
    pub schedule : List Actor
    pub taken : List (Event P)
    pub reached : Reached matches n flight schedule taken now.chain

  pub reached-first : (events : List (Event P)) → 1 ≤ n → IsReached (at_start n flight events)
  reached-first events some = record { schedule = []; taken = event_in (Some (answer_from events).given); reached = begins some (answer_from events).given }

  pub reached-next : (actor : Actor) (now : Playing P) → cause now.chain actor ≡ None → IsReached now → IsReached (play matches actor now)
  reached-next actor now can is = record {
    schedule = is.schedule ++ actor ∷ [];
    taken = is.taken ++ asked actor now.chain.next (answer_from now.coming);
    reached = steps is.schedule is.taken now.chain actor (answer_from now.coming) is.reached can;
  }

  pub none-enabled : (now : Playing P) → IsReached now → IsDone now.chain → (actor : Actor) → cause now.chain actor ≢ None
  none-enabled now is done = done_is_stuck matches n flight is.reached done

  module _ (few : n ≤ 64) (output text : List ℕ) (right : output ≡ text) where
    numbered : (now : Playing P) (actor : Actor) → IsReached now → cause now.chain actor ≡ None → IsNumbered actor
    numbered now actor is can = is_numbered now.chain actor (omega (arith, (shape is.reached).cores, few)) can

    -- the line of an actor, with more behind it
    begun_by : (now : Playing P) (actor : Actor) (more : List ℕ) → line_text matches now.chain actor ++ more ≡ actor_text actor ++ 44 ∷ (said matches now.chain actor ++ more)
    begun_by now actor more =
        append_assoc (actor_text actor ++ 44 ∷ []) (said matches now.chain actor) more ∙ append_assoc (actor_text actor) (44 ∷ []) (said matches now.chain actor ++ more)

    not_apart : (xs : List ℕ) (at : ℕ) → DifferAt at output text → ⊥
    not_apart xs at differ =
        let same : differ.left ≡ differ.right = cancel differ.same differ.left differ.right (sym differ.one_is ∙ right ∙ differ.other_is) in
        no_part differ.left differ.right same differ.part
      where
        no_part : (one other : List ℕ) → one ≡ other → Part one other → ⊥
        no_part [] [] e part = part
        no_part [] (y ∷ ys) e part = let wrong : [] ≡ y ∷ ys = e in cc
        no_part (x ∷ xs) [] e part = let wrong : x ∷ xs ≡ [] = e in cc
        no_part (x ∷ xs) (y ∷ ys) e part = part (let same : x ∷ xs ≡ y ∷ ys = e in cc)

    -- nothing is wrong where nothing is left and the chain is done
    right_end : (found : TraceFault) (number : ℕ) (now : Playing P) (rest : List ℕ) → IsDone now.chain → rest ≡ [] → Breaks matches found number now rest output text → ⊥
    right_end (fault.Form line) number now rest done none breaks = breaks.1 done
    right_end (fault.NotEnabled line) number now rest done none breaks = breaks.1 done
    right_end (fault.Text line) number now rest done none breaks = breaks.1 done
    right_end (fault.Early line) number now rest done none breaks = breaks.1 done
    right_end (fault.Late line) number now rest done none breaks = breaks.2 none
    right_end (fault.Output at) number now rest done none breaks = not_apart [] at breaks.2

    -- nor where the line of an actor stands that is enabled
    right_line : (found : TraceFault) (number : ℕ) (now : Playing P) (rest more : List ℕ) (actor : Actor) → IsReached now → cause now.chain actor ≡ None → rest ≡ line_text matches now.chain actor ++ more
        → Breaks matches found number now rest output text → ⊥
    right_line (fault.Form line) number now rest more actor is can starts breaks = breaks.3 actor (said matches now.chain actor ++ more) (numbered now actor is can) (starts ∙ begun_by now actor more)
    right_line (fault.NotEnabled line) number now rest more actor is can starts breaks =
        let where_is = breaks.2 in
        let same : actor ≡ where_is.actor = one_actor actor where_is.actor _ _ (numbered now actor is can) where_is.begins.numbered (sym (starts ∙ begun_by now actor more) ∙ where_is.begins.is) in
        where_is.is_so (subst (λ (a : Actor). cause now.chain a ≡ None) same can)
    right_line (fault.Text line) number now rest more actor is can starts breaks =
        let where_is = breaks.2 in
        let same : actor ≡ where_is.actor = one_actor actor where_is.actor _ _ (numbered now actor is can) where_is.begins.numbered (sym (starts ∙ begun_by now actor more) ∙ where_is.begins.is) in
        where_is.is_so.1 (subst (λ (a : Actor). IsPrefix (line_text matches now.chain a) rest) same (record { rest = more; is = starts }))
    right_line (fault.Early line) number now rest more actor is can starts breaks = omega (arith, ap length (sym breaks.2 ∙ starts ∙ begun_by now actor more), length-append (actor_text actor) (44 ∷ (said matches now.chain actor ++ more)))
    right_line (fault.Late line) number now rest more actor is can starts breaks = none-enabled now is breaks.1 actor can
    right_line (fault.Output at) number now rest more actor is can starts breaks = none-enabled now is breaks.0 actor can

    -- a line isn't nothing
    some_line : (now : Playing P) (actor : Actor) (more : List ℕ) → [] ≡ line_text matches now.chain actor ++ more → ⊥
    some_line now actor more e = omega (arith, ap length (e ∙ begun_by now actor more), length-append (actor_text actor) (44 ∷ (said matches now.chain actor ++ more)))

    -- A trace that is right breaks no rule.
    unbroken : (found : TraceFault) (number : ℕ) (one other : List Actor) (now : Playing P) (rest : List ℕ) → IsReached now → AreEnabled matches one now → IsDone (played matches one now).chain → AreEnabled matches other now
        → trace_text matches one now ≡ trace_text matches other now ++ rest → Breaks matches found number (played matches other now) rest output text → ⊥
    unbroken found number [] [] now rest is so done such e breaks = right_end found number now rest done (sym e) breaks
    unbroken found number [] (b ∷ others) now rest is so done such e breaks = some_line now b (trace_text matches others (play matches b now) ++ rest) (e ∙ append_assoc (line_text matches now.chain b) (trace_text matches others (play matches b now)) rest)
    unbroken found number (a ∷ ones) [] now rest is so done such e breaks = right_line found number now rest (trace_text matches ones (play matches a now)) a is so.0 (sym e) breaks
    unbroken found number (a ∷ ones) (b ∷ others) now rest is so done such e breaks =
        let later = trace_text matches ones (play matches a now) in
        let behind = trace_text matches others (play matches b now) ++ rest in
        let whole : line_text matches now.chain a ++ later ≡ line_text matches now.chain b ++ behind = e ∙ append_assoc (line_text matches now.chain b) (trace_text matches others (play matches b now)) rest in
        let same : a ≡ b = one_actor a b _ _ (numbered now a is so.0) (numbered now b is such.0) (sym (begun_by now a later) ∙ whole ∙ begun_by now b behind) in
        let rests : later ≡ behind = cancel (line_text matches now.chain a) later behind (whole ∙ ap (λ (x : Actor). line_text matches now.chain x ++ behind) (sym same)) in
        unbroken found number ones others (play matches b now) rest (reached-next b now such.0 is) (subst (λ (x : Actor). AreEnabled matches ones (play matches x now)) same so.1)
        (subst (λ (x : Actor). IsDone (played matches ones (play matches x now)).chain) same done) such.1 (ap (λ (x : Actor). trace_text matches ones (play matches x now)) (sym same) ∙ rests) breaks

-- where trace and output are right, nothing is wrong
pub none_stands : {P : Type 0} (matches : P → P → Bool) (n flight : ℕ) (events : List (Event P)) (trace output text : List ℕ) → 1 ≤ n → n ≤ 64 → IsRight matches n flight events trace output text
    → (found : TraceFault) → Stands matches found n flight events trace output text → ⊥
none_stands matches n flight events trace output text some few right found stands =
    unbroken matches n flight few output text right.output_is found (length stands.schedule + 1) right.schedule stands.schedule (at_start n flight events) stands.rest (reached-first matches n flight events some) right.enabled right.done stands.enabled
    (sym right.trace_is ∙ stands.trace_is) stands.breaks
