use Rattle.std.proofs.Common.{◌≤◌, ℕ, is_some, length, subst, sym, ap, ◌∙◌, rules}
use Rattle.indexmap.proofs.CallerLemmas.{filter-RetainsPairs}
use Rattle.hj_rows.specs.Places.{rows_of}
use Rattle.hj_rows.proofs.Rows.{rows-swept}
use Rattle.hj_rows.proofs.InPlace.{all-kept, kept-le}
use Rattle.hj_rows.proofs.numbered.NumberedRows.count_empty.Goals as goal

pub returns-then-self-len-clause-rows : goal.returns-then-self-len-clause-rows
returns-then-self-len-clause-rows g c =
    ap rows_of (filter-RetainsPairs _ (λ place. is_some place.1) _ (λ k v b w f call. search rules) c.args.self.now.places.entries c.retain.new.self.entries c.retain.ensures.filtered)
    ∙ rows-swept c.args.self.now.places.entries

pub returns-then-self-len-clause-places : goal.returns-then-self-len-clause-places
returns-then-self-len-clause-places g c = λ long.
    let kept = filter-RetainsPairs _ (λ place. is_some place.1) _ (λ k v b w f call. search rules) c.args.self.now.places.entries c.retain.new.self.entries c.retain.ensures.filtered in
    kept ∙ all-kept (λ place. is_some place.1) c.args.self.now.places.entries (sym (ap length kept) ∙ long)

pub returns-then-self-len-clause-few : goal.returns-then-self-len-clause-few
returns-then-self-len-clause-few g c =
    let kept = filter-RetainsPairs _ (λ place. is_some place.1) _ (λ k v b w f call. search rules) c.args.self.now.places.entries c.retain.new.self.entries c.retain.ensures.filtered in
    subst (λ (n : ℕ). n ≤ length c.args.self.now.places.entries) (sym (ap length kept)) (kept-le (λ place. is_some place.1) c.args.self.now.places.entries)
