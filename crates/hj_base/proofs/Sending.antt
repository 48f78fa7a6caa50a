-- What a sink took of a piece, write by write.
use Rattle.std.proofs.Common.{◌≡◌, ℕ, ◌-◌, List, ◌++◌, length, take, drop, sym, ap, ◌∙◌, append_assoc, take-append-drop}
use Rattle.std.proofs.lemmas.List.{take_rest}
use Rattle.std.proofs.KnownBytes.{Appends-trans}
use Rattle.std.specs.Io.KnownBytes.{Appends}
use Rattle.std.specs.declared.option.Option.{Option}

-- Of the whole piece this much is left; what is before it was appended.
pub record Took (whole left : List ℕ) (old new : Option (List ℕ)) : Type 0 where
  pub done : List ℕ
  pub split : whole ≡ done ++ left
  pub written : Appends old new done

pub took_more : (whole left : List ℕ) (m : ℕ) (old mid new : Option (List ℕ)) → Took whole left old mid → Appends mid new (take m left)
    → Took whole (take (length left - m) (drop m left)) old new
took_more whole left m old mid new so_far now = record {
  done = so_far.done ++ take m left;
  split = so_far.split ∙ ap (λ l. so_far.done ++ l) (sym (take-append-drop m left)) ∙ sym (append_assoc so_far.done (take m left) (drop m left))
      ∙ ap (λ l. (so_far.done ++ take m left) ++ l) (sym (take_rest left m));
  written = Appends-trans old mid new so_far.done (take m left) so_far.written now;
}
