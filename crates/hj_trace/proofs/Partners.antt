-- One more partner in the text of a report.
use Rattle.std.proofs.Common.{◌≡◌, ℕ, zero, suc, ◌+◌, List, [], ◌∷◌, ◌++◌, take, Some, sym, ap, ◌∙◌, append-nil, append_assoc}
use Rattle.std.proofs.lemmas.List.{flat_map_more, take_more}
use Rattle.std.proofs.lemmas.Option.{slice_get_within, get_or_from_slice_get}
use Rattle.std.specs.Fmt.{decimal}
use Rattle.std.specs.List.{slice_get}
use Rattle.hj_msg.specs.declared.partner.Partner.{Partner}
use Rattle.hj_trace.specs.Messages.{partners_text, sign_before}

one_more : {X : Type 0} (xs : List X) (at : ℕ) (x : X) → Some x ≡ slice_get xs at → take (at + 1) xs ≡ take at xs ++ x ∷ []
one_more xs at x found =
    take_more xs at x (slice_get_within xs at x (sym found)) ∙ ap (λ y. take at xs ++ y ∷ []) (get_or_from_slice_get xs at x x (sym found))

behind : {P : Type 0} (partners : List (Partner P)) (at : ℕ) (partner : Partner P) → Some partner ≡ slice_get partners at
    → partners_text (take at partners ++ partner ∷ []) ≡ partners_text (take at partners) ++ (sign_before at ++ decimal partner.no.0)
behind {P = P} [] at partner found = cc
behind {P = P} (first ∷ others) zero partner found = ap (λ (l : List ℕ). 58 ∷ l) (append-nil (decimal partner.no.0))
behind {P = P} (first ∷ others) (suc k) partner found =
    sym (flat_map_more (λ (other : Partner P). 43 ∷ decimal other.no.0) (58 ∷ decimal first.no.0) (take k others) partner)

pub partners_step : {P : Type 0} (partners : List (Partner P)) (at : ℕ) (partner : Partner P) (start before after : List ℕ) → Some partner ≡ slice_get partners at
    → before ≡ start ++ partners_text (take at partners) → after ≡ before ++ (sign_before at ++ decimal partner.no.0)
    → after ≡ start ++ partners_text (take (at + 1) partners)
partners_step partners at partner start before after found so_far grown =
    grown ∙ ap (λ l. l ++ (sign_before at ++ decimal partner.no.0)) so_far
    ∙ append_assoc start (partners_text (take at partners)) (sign_before at ++ decimal partner.no.0)
    ∙ ap (λ l. start ++ l) (sym (behind partners at partner found))
    ∙ ap (λ l. start ++ partners_text l) (sym (one_more partners at partner found))
