-- The pairs of a chain that are given one after another, with whose lines an output is compared.
use Rattle.std.proofs.Common.{◌≡◌, ◌+◌, Bool, true, false, cond, List, [], ◌∷◌, ◌++◌, ℕ, take, None, Some, Option, refl, sym, ap, subst, ◌∙◌, append-nil}
use Rattle.std.specs.List.{slice_get}
use Rattle.std.specs.List.Sorted.{IsPermutation}
use Rattle.std.proofs.lemmas.Grind.{flat_map-append}
use Rattle.hj_base.specs.Outside.{RoleState}
use Rattle.hj_value.specs.declared.field.Field.{Field}
use Rattle.hj_msg.specs.declared.event.Event.{Event}
use Rattle.hj_msg.specs.declared.event.Pair.{Pair}
use Rattle.hj_msg.specs.Emission.{emitted}
use Rattle.hj_query.specs.QueryParts.{QueryParts}
use Rattle.hj_eval.specs.Holds.{holds}
use Rattle.hj_chain.specs.declared.actor.Actor.{Actor}
use Rattle.hj_chain.specs.Chain.{Contents}
use Rattle.hj_chain.specs.Reached.{collected_of, next_pair}
use Rattle.hj_chain.proofs.Draining.{stood-more}
use Rattle.hj_chain.proofs.Looking.{take-at}
use Rattle.hj_stream.specs.JoinText.{pair_line, text}
use Rattle.hj_trace.specs.Stream.{TextStreamState}
use Rattle.hj_verify.specs.declared.output.OutputCheck.{OutputCheck}
use Rattle.hj_verify.specs.Due.{GaveDue, ChainHasGiven}
use Rattle.hj_verify.specs.Output.{OutputAgrees}

abbrev Row : Type 0
Row = List Field

-- Some pairs were given, and the output was compared with their lines.
pub record Gave (chain : Contents Row QueryParts) (schedule : List Actor) (events : List (Event Row)) (pairs : List (Pair Row)) (start : TextStreamState) (before : RoleState) (output : OutputCheck) (now : RoleState) : Type 0 where
  pub given : ℕ
  pub has : ChainHasGiven chain schedule events given pairs
  pub agrees : OutputAgrees (text (take given pairs)) start before output now

going_on : {X : Type 0} (over : Bool) (o : Option X) (x : X) → cond over None o ≡ Some x → o ≡ Some x
going_on true o x is = absurd (cc)
going_on false o x is = is

-- the text of one pair more
text_more : (pairs : List (Pair Row)) (given : ℕ) (pair : Pair Row) → slice_get pairs given ≡ Some pair → text (take (given + 1) pairs) ≡ text (take given pairs) ++ pair_line pair
text_more pairs given pair here =
    ap text (take-at pairs given pair here (given + 1) refl)
    ∙ (flat_map-append pair_line (take given pairs) (pair ∷ []) ∙ ap (λ (l : List ℕ). text (take given pairs) ++ l) (append-nil (pair_line pair)))

module _ (now new : Contents Row QueryParts) (others : new ≡ record now { kept = new.kept }) (schedule : List Actor) (events : List (Event Row)) (pairs : List (Pair Row)) (pair : Pair Row) (taken : IsPermutation now.kept (pair ∷ new.kept)) (given : ℕ) (has : ChainHasGiven now schedule events given pairs)
    (next : Some pair ≡ next_pair has.stands) where
  here : slice_get pairs given ≡ Some pair
  here = subst (λ (l : List (Pair Row)). slice_get l given ≡ Some pair) has.emits (going_on now.state.over (slice_get (emitted (collected_of has.stands.reached)) given) pair (sym next))

  has_more : ChainHasGiven new schedule events (given + 1) pairs
  has_more =
      let stood = stood-more holds now new others schedule events given (collected_of has.stands.reached) (record { stands = has.stands; are = refl }) pair (sym next) taken (given + 1) refl in
      record { stands = stood.stands; emits = ap emitted stood.are ∙ has.emits }

  -- a pair more was given, and the output compared with its line
  pub gave_more : (start : TextStreamState) (before : RoleState) (output : OutputCheck) (state : RoleState) → OutputAgrees (text (take given pairs) ++ pair_line pair) start before output state → Gave new schedule events pairs start before output state
  gave_more start before output state agrees = record {
    given = given + 1;
    has = has_more;
    agrees = subst (λ (l : List ℕ). OutputAgrees l start before output state) (sym (text_more pairs given pair here)) agrees;
  }

-- no pair more is due
pub gave_all : (now new : Contents Row QueryParts) → new ≡ now → (schedule : List Actor) (events : List (Event Row)) (pairs : List (Pair Row)) (start : TextStreamState) (before : RoleState) (output : OutputCheck) (state : RoleState)
    → (gave : Gave now schedule events pairs start before output state) → None ≡ next_pair gave.has.stands → GaveDue new schedule events pairs start before output state
gave_all now new same schedule events pairs start before output state gave none =
    subst (λ (c : Contents Row QueryParts). GaveDue c schedule events pairs start before output state) (sym same) (record { given = gave.given; has = gave.has; none_due = sym none; agrees = gave.agrees })
