-- `of` makes a value of no bytes, whose ghost field is the number that is passed. Assumes `Logic`.
use Rattle.std.proofs.Common.{ℕ, ◌<◌, ◌^◌, [], ◌∷◌, refl, w64}
use seplogic.Ra.Ura.{Ura}
use mir.Val.{vint, vstruct, vnil}
use base.Logic.{SProp, ent, emp, via, fst∗}
use prog.Memory.{Memory}
use prog.Routine.{Routine}
use prog.Wp.{Calls, Loops, WpFn, Tables}
use types.Logic.{Logic}
use contract.Monad.{Fun}
use contract.Running.{tables, tables_of}
use sound.WpLaws.{WpFn-mono}
use types.Kit.{‵, raw, ◌$◌, ◌∵◌, !, qed, move, suffices, done}
use types.Run.{no_more, returns, enter}
use types.Part.{agg}
use types.ByLocal.{alloc_all, pass_all, free_all, look_at, sets}
use denote.Builtin.{u64}
use denote.Exit.{yes}
use denote.Plain.{uint_vals, uint_Tells}
use denote.RattleType.{owns}
use denote.Shadow.{pure_i}
use denote.Triple.Entry.{on_entry, alive}
use denote.Triple.Spec.{Meets, triple_of}
use denote.Triple.Table.{entered}
use denote.Triple.Walked.{says, Stays, stay_none, Goes-none, walk_of, Walks, ends_at, walked, walk_Meets}
use Rattle.hj_link.specs.contracts.turn_no.TurnNo as turn_no
use Rattle.hj_link.specs.contracts.turn_no.TurnNo.of as of
use Rattle.hj_link.specs.contracts.turn_no.TurnNo.of.Key.{name as key}
use Rattle.hj_link.proofs.turn_no.TurnNo.of.Statement as stated
use Rattle.hj_link.proofs.turn_no.TurnNo.of.Code as code

abbrev stayed : Stays (of.ended).signature.params (of.ended).kept
stayed = (stay_none (λ _. u64) yes, tt)

module _ {M : Type 1} {𝓤 : Ura M} (𝓛 : Logic 𝓤) (mem : Memory → SProp 𝓤) (run : Routine → Fun 𝓤) (C : Calls 𝓤 𝓛.H) (Λ : Loops 𝓤 𝓛.H) where
  open 𝓛 use {H}

  module _ (n : ℕ) (fits : n < 2 ^ 64) where
    abbrev bound : (walk_of 𝓛 of.ended stayed (of.clauses 𝓛 mem run)).Ghost
    bound = ((tt, tt, tt, (n, tt), (vint w64 n ∷ [], tt)), tt)

    walk : ent 𝓤 (on_entry 𝓛 of.signature tt tt (n, tt) (vint w64 n ∷ [], tt)) (WpFn 𝓤 H C Λ code.function (vint w64 n ∷ []) ((walk_of 𝓛 of.ended stayed (of.clauses 𝓛 mem run)).post bound))
    walk =
        qed 𝓛 (raw (alive 𝓛 of.signature tt tt) ∷ ‵ (owns (u64 ∷ []) (n, tt) (vint w64 n ∷ [], tt)) ∷ []) ∵ enter ! C Λ code.function (vint w64 n ∷ []) _ $
        alloc_all ! (λ l. pass_all ! refl ((tt, record { fits = fits }), tt) $ sets ! (agg ! (no_more !)) refl (tt, tt) $
        returns ! (look_at ! 0 refl) $ free_all ! refl $
        suffices ! _ (ends_at 𝓛 of.ended stayed (of.clauses 𝓛 mem run) bound (vstruct vnil) (record { number = n }) (tt, tt) (tt, tt)) $
        says ! refl $ pure_i ! (turn_no.the_row.own_val (record { number = n }) (vstruct vnil ∷ [])) ((λ vss. (tt, tt)), tt) ((tt, (refl, tt)), tt) $
        move ! (1 ∷ 2 ∷ 0 ∷ []) $ done !)

  walks : Walks 𝓛 of.ended stayed (WpFn 𝓤 H C Λ code.function) (of.clauses 𝓛 mem run)
  walks =
      walked 𝓛 of.ended stayed (of.clauses 𝓛 mem run) (WpFn 𝓤 H C Λ code.function) (λ κs. (uint_vals w64, tt)) (λ κs. (uint_Tells w64, tt))
      (λ κs qs bounds a g are. via 𝓤 _ (fst∗ 𝓤 _ (emp 𝓤)) (walk a.0 are.0.1))

meets : {M : Type 1} {𝓤 : Ura M} (𝓛 : Logic 𝓤) (mem : Memory → SProp 𝓤) (run : Routine → Fun 𝓤) (𝓣 : Tables 𝓤 𝓛.H)
    → Meets 𝓛 of.signature (WpFn 𝓤 𝓛.H 𝓣.C 𝓣.Λ code.function) (of.spec 𝓛 mem run)
meets {𝓤 = 𝓤} 𝓛 mem run 𝓣 =
    walk_Meets 𝓛 of.ended stayed (Goes-none 𝓛 0 (λ _. u64) yes (λ κs x f. refl), tt) (of.clauses 𝓛 mem run) (WpFn 𝓤 𝓛.H 𝓣.C 𝓣.Λ code.function)
    (WpFn-mono 𝓤 𝓛.H 𝓛.laws 𝓣 code.function) (walks 𝓛 mem run 𝓣.C 𝓣.Λ)

pub of_spec : {M : Type 1} → stated.statement M
unfolding tables_of
of_spec 𝓤 𝓛 𝓜 𝓡 wired =
    entered 𝓤 𝓛.H (triple_of 𝓛 of.signature (of.spec 𝓛 𝓜.mem 𝓡.returns))
    (tables 𝓤 𝓛.H 𝓜 𝓡 𝓡.env).C (tables 𝓤 𝓛.H 𝓜 𝓡 𝓡.env).Λ key code.function (code.unfolded 𝓤 𝓛.H 𝓜 𝓡 wired)
    (meets 𝓛 𝓜.mem 𝓡.returns (tables_of 𝓤 𝓛.H 𝓜 (tables 𝓤 𝓛.H 𝓜 𝓡 𝓡.env)))
