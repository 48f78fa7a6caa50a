-- Pairs of which more are given.
use Rattle.std.proofs.Common.{◌≡◌, ℕ, ◌+◌, true, false, List, ◌++◌, length, take, drop, refl, ap, sym, ◌∙◌, subst, arith, append_assoc, length-append}
use Rattle.std.specs.List.Sorted.{IsPermutation}
use Rattle.std.proofs.Math.Seq.{drop-append_seam, take-append_seam}
use Rattle.std.proofs.lemmas.List.{take-append-drop}
use Rattle.hj_base.specs.Journals.{IsPrefix}
use Rattle.hj_msg.specs.declared.event.Pair.{Pair}
use Rattle.hj_msg.specs.declared.message.Report.{Report}
use Rattle.hj_msg.specs.Emission.{is_within, comes_before, emitted}
use Rattle.hj_msg.specs.Kang.{kang}
use Rattle.hj_msg.specs.Met.{AreReportsOf, met}
use Rattle.hj_msg.specs.Punctuation.{punctuation}
use Rattle.hj_msg.specs.Run.{Run, IsRun}
use Rattle.hj_msg.specs.Valid.{later}
use Rattle.hj_msg.proofs.Members.{Ranked, Ranked-filter}
use Rattle.hj_msg.proofs.Emitting.{First, joined_ranked, emitted_is}
use Rattle.hj_collect.specs.Giving.{AreTakenOut}
use Rattle.hj_collect.proofs.Due.{AreApart, apart-kept}
use Rattle.hj_collect.proofs.Giving.{AreNext, are-next}
use Rattle.hj_desk.specs.Releases.{Releases}

-- pairs that are taken out of those that are kept are the next ones
module _ {P : Type 0} (lists : List (List (Report P))) (kept left given out : List (Pair P)) (old : Releases lists false kept given) (taken : AreTakenOut (punctuation lists) kept out left) where
  module _ (run : Run P) (is : IsRun run) (are : AreReportsOf run lists) where
    prefix : IsPrefix given (emitted lists)
    prefix = old.in_order run is are

    whole : emitted lists ≡ given ++ prefix.rest
    whole = prefix.is

    released : IsPermutation (take (length given) (emitted lists) ++ kept) (met lists)
    released =
        let front : take (length given) (emitted lists) ≡ given = ap (take (length given)) whole ∙ take-append_seam given prefix.rest in
        subst (λ (first : List (Pair P)). IsPermutation (first ++ kept) (met lists)) (sym front) (old.others refl run is are)

    apart : AreApart (punctuation lists) kept
    apart =
        apart-kept (punctuation lists) (met lists) kept (length given) released
        (subst (Ranked (λ p q. comes_before p q ≡ true)) (sym (emitted_is run is lists are)) (Ranked-filter First (λ p. is_within (punctuation lists) (later p)) (kang run.matches run.events) (joined_ranked run is)))

    next : AreNext (punctuation lists) (met lists) (length given) out left
    next = are-next (punctuation lists) (met lists) out kept left (length given) (omega (arith, ap length whole, length-append given prefix.rest)) released apart taken

    -- what is emitted behind those that were given
    rest_is : out ++ drop (length out) prefix.rest ≡ prefix.rest
    rest_is =
        let behind : drop (length given) (emitted lists) ≡ prefix.rest = ap (drop (length given)) whole ∙ drop-append_seam given prefix.rest in
        ap (λ (l : List (Pair P)). l ++ drop (length out) prefix.rest) (next.next ∙ ap (take (length out)) behind) ∙ take-append-drop (length out) prefix.rest

    longer : emitted lists ≡ (given ++ out) ++ drop (length out) prefix.rest
    longer = whole ∙ ap (λ (l : List (Pair P)). given ++ l) (sym rest_is) ∙ sym (append_assoc given out (drop (length out) prefix.rest))

    others : IsPermutation ((given ++ out) ++ left) (met lists)
    others =
        let front : take (length given + length out) (emitted lists) ≡ given ++ out = ap (λ (n : ℕ). take n (emitted lists)) (sym (length-append given out)) ∙ ap (take (length (given ++ out))) longer ∙ take-append_seam (given ++ out) (drop (length out) prefix.rest) in
        subst (λ (first : List (Pair P)). IsPermutation (first ++ left) (met lists)) front next.released

  pub taken-more : Releases lists false left (given ++ out)
  taken-more = record {
    in_order = λ run is are. record { rest = drop (length out) (prefix run is are).rest; is = longer run is are };
    others = λ lasts run is are. others run is are;
  }
