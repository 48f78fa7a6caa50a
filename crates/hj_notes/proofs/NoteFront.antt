-- What stands of a note when a part of it is refused.
use Rattle.std.proofs.Common.{◌≡◌, ◌≤◌, ◌<◌, ◌⊎◌, ℕ, suc, List, ◌∷◌, ◌++◌, length, take, drop, get_or, sym, ap, ◌∙◌, subst, take-append-drop, drop-cons, append_assoc, inl, inr}
use Rattle.std.proofs.KnownBytes.{Appends-trans}
use Rattle.std.proofs.lemmas.Grind.{flat_map-append}
use Rattle.std.specs.List.{flat_map}
use Rattle.std.specs.Io.KnownBytes.{Appends}
use Rattle.std.specs.declared.option.Option.{Option}
use Rattle.hj_base.specs.declared.output.Sent.{Sent}
use Rattle.hj_base.specs.declared.output.Sent.TheVariants as sent
use Rattle.hj_base.specs.Output.{AppendsFront, SendsPiece, CountsRefusals}
use Rattle.hj_base.specs.Counts.{Rose}
use Rattle.hj_base.specs.Journals.{IsPrefix}
use Rattle.hj_notes.specs.declared.parts.NotePart.{NotePart}
use Rattle.hj_notes.specs.NoteWritten.{NoteWritten}
use Rattle.hj_notes.specs.Parts.{part_text}

-- what begins a part begins the whole, with all before the part in front
begins_behind : (done part rest whole grown : List ℕ) → whole ≡ done ++ (part ++ rest) → IsPrefix grown part → IsPrefix (done ++ grown) whole
begins_behind done part rest whole grown is front = record {
  rest = front.rest ++ rest;
  is = is ∙ ap (λ l. done ++ (l ++ rest)) front.is ∙ ap (λ l. done ++ l) (append_assoc grown front.rest rest) ∙ sym (append_assoc done grown (front.rest ++ rest));
}

cut : (parts : List NotePart) (i : ℕ) (d : NotePart) → i < length parts → parts ≡ take i parts ++ (get_or parts i d ∷ drop (suc i) parts)
cut parts i d h = sym (take-append-drop i parts) ∙ ap (λ l. take i parts ++ l) (drop-cons parts i d h)

split : (parts : List NotePart) (i : ℕ) (d : NotePart) → i < length parts → flat_map part_text parts ≡ flat_map part_text (take i parts) ++ (part_text (get_or parts i d) ++ flat_map part_text (drop (suc i) parts))
split parts i d h = ap (flat_map part_text) (cut parts i d h) ∙ flat_map-append part_text (take i parts) (get_or parts i d ∷ drop (suc i) parts)

-- a front of the part at `i` was appended behind the parts before it
stopped : (parts : List NotePart) (i : ℕ) (d : NotePart) (old mid new : Option (List ℕ)) (before now : ℕ) → i < length parts
    → Appends old mid (flat_map part_text (take i parts)) → AppendsFront (part_text (get_or parts i d)) mid new → (before ≤ now) × Rose before now
    → NoteWritten (flat_map part_text parts) old new before now
stopped parts i d old mid new before now h so_far front rise =
    let done = flat_map part_text (take i parts) in
    let rest = flat_map part_text (drop (suc i) parts) in
    record {
      grown = done ++ front.grown;
      written = Appends-trans old mid new done front.grown so_far front.written;
      front = begins_behind done (part_text (get_or parts i d)) rest (flat_map part_text parts) front.grown (split parts i d h) front.front;
      rising = rise.0;
      whole = inr rise.1;
    }

pub refused : (parts : List NotePart) (i : ℕ) (d : NotePart) (how : Sent) (old mid new : Option (List ℕ)) (before between now : ℕ) → i < length parts
    → Appends old mid (flat_map part_text (take i parts)) → between ≡ before → (how ≡ sent.Failed) ⊎ (how ≡ sent.Memory)
    → SendsPiece how (part_text (get_or parts i d)) mid new → CountsRefusals how between now
    → NoteWritten (flat_map part_text parts) old new before now
refused parts i d sent.Whole old mid new before between now h so_far same is sends counts = elim is [ inl e ↦ absurd (cc) | inr e ↦ absurd (cc) ]
refused parts i d sent.Failed old mid new before between now h so_far same is sends counts =
    stopped parts i d old mid new before now h so_far sends (subst (λ (n : ℕ). (n ≤ now) × Rose n now) same counts)
refused parts i d sent.Memory old mid new before between now h so_far same is sends counts =
    stopped parts i d old mid new before now h so_far sends (subst (λ (n : ℕ). (n ≤ now) × Rose n now) same counts)
