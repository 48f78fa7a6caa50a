-- What a drain sent, pair by pair.
use Rattle.std.proofs.Common.{◌≡◌, ◌≢◌, ℕ, zero, suc, List, [], ◌∷◌, ◌++◌, map, replicate, refl, sym, ap, subst, ◌∙◌, append_assoc, append-nil}
use Rattle.std.proofs.KnownBytes.{Appends-nil, Appends-trans}
use Rattle.std.specs.Io.KnownBytes.{Appends}
use Rattle.std.specs.declared.option.Option.{Option}
use Rattle.hj_value.specs.declared.field.Field.{Field}
use Rattle.hj_msg.specs.declared.drain.Drained.{Drained}
use Rattle.hj_msg.specs.declared.drain.Drained.TheVariants.{Kept, Refused}
use Rattle.hj_msg.specs.declared.event.Pair.{Pair}
use Rattle.hj_msg.specs.Drain.{Drainage, TakesAll, AreKept, pairs_in}
use Rattle.hj_base.specs.declared.output.Sent.{Sent}
use Rattle.hj_base.specs.declared.output.Sent.TheVariants as sent
use Rattle.hj_stream.specs.Draining.{SendsLine, answer_by}
use Rattle.hj_stream.specs.JoinText.{Line, text_by}
use Rattle.hj_base.specs.Output.{AppendsFront, CountsFaults, SendsPiece}

-- What is seen of a drain: how its last line went, and what its sink tells and counts.
pub record Draining : Type 0 where
  pub last : Sent
  pub told : Option (List ℕ)
  pub faults : ℕ

pub kept_whole : (last : Sent) → answer_by last ≡ Kept → last ≡ sent.Whole
kept_whole sent.Whole is = refl
kept_whole sent.Failed is = absurd (let wrong : Refused ≡ Kept = is in cc)
kept_whole sent.Memory is = absurd (let wrong : Refused ≡ Kept = is in cc)

pub refused_apart : (last : Sent) → answer_by last ≡ Refused → last ≢ sent.Whole
refused_apart sent.Whole is same = let wrong : Kept ≡ Refused = is in cc
refused_apart sent.Failed is same = let wrong : sent.Failed ≡ sent.Whole = same in cc
refused_apart sent.Memory is same = let wrong : sent.Memory ≡ sent.Whole = same in cc

-- A prefix of the text was sent, and its last line went so.
pub record SendsFront (bytes : List ℕ) (old new : Draining) : Type 0 where
  pub sends : AppendsFront bytes old.told new.told
  pub faults : CountsFaults new.last old.faults new.faults
  pub refused : new.last ≢ sent.Whole

pub front_sent : (last : Sent) (bytes : List ℕ) (old new : Option (List ℕ)) → last ≢ sent.Whole → SendsPiece last bytes old new → AppendsFront bytes old new
front_sent sent.Whole bytes old new apart sends = absurd (apart refl)
front_sent sent.Failed bytes old new apart sends = sends
front_sent sent.Memory bytes old new apart sends = sends

-- ---- one line

pub line_kept : (bytes : List ℕ) (answer : Drained) (old new : Draining) → SendsLine bytes answer new.last old.told new.told old.faults new.faults → answer ≡ Kept → Appends old.told new.told bytes × (new.faults ≡ old.faults)
line_kept bytes answer old new taken is =
    let whole = kept_whole new.last (sym taken.answered ∙ is) in (
      subst (λ (last : Sent). SendsPiece last bytes old.told new.told) whole taken.sends,
      subst (λ (last : Sent). CountsFaults last old.faults new.faults) whole taken.faults,
    )

pub line_refused : (bytes : List ℕ) (answer : Drained) (old new : Draining) → SendsLine bytes answer new.last old.told new.told old.faults new.faults → answer ≡ Refused → SendsFront (bytes ++ []) old new
line_refused bytes answer old new taken is =
    let apart = refused_apart new.last (sym taken.answered ∙ is) in
    record {
      sends = subst (λ text. AppendsFront text old.told new.told) (sym (append-nil bytes)) (front_sent new.last bytes old.told new.told apart taken.sends);
      faults = taken.faults;
      refused = apart;
    }

-- a line was kept, and then a prefix of the text behind it was sent
pub line_before : (bytes behind : List ℕ) (old between new : Draining) → Appends old.told between.told bytes × (between.faults ≡ old.faults) → SendsFront behind between new → SendsFront (bytes ++ behind) old new
line_before bytes behind old between new first rest = record {
  sends = record {
    grown = bytes ++ rest.sends.grown;
    written = Appends-trans old.told between.told new.told bytes rest.sends.grown first.0 rest.sends.written;
    front = record { rest = rest.sends.front.rest; is = ap (λ l. bytes ++ l) rest.sends.front.is ∙ sym (append_assoc bytes rest.sends.grown rest.sends.front.rest) };
  };
  faults = subst (λ n. CountsFaults new.last n new.faults) first.1 rest.faults;
  refused = rest.refused;
}

-- ---- the lines of pairs

module _ {D : Type 0} (takes : D → Pair (List Field) → Drained → D → Type 0) (line : D → Line) (view : D → Draining) (same : (old : D) (pair : Pair (List Field)) (answer : Drained) (new : D) → takes old pair answer new → line new ≡ line old)
    (each : (old : D) (pair : Pair (List Field)) (answer : Drained) (new : D) → takes old pair answer new → SendsLine (line old pair) answer (view new).last (view old).told (view new).told (view old).faults (view new).faults) where
  pub all_kept : (taken : List (Drainage (List Field))) (from to : D) → TakesAll takes from taken to → AreKept taken → Appends (view from).told (view to).told (text_by (line from) (pairs_in taken)) × ((view to).faults ≡ (view from).faults)
  all_kept [] from to all kept = subst (λ (d : D). Appends (view from).told (view d).told [] × ((view d).faults ≡ (view from).faults)) (sym all) (Appends-nil (view from).told, refl)
  all_kept (one ∷ later) from to all kept =
      let first = line_kept (line from one.pair) one.answer (view from) (view all.0) (each from one.pair one.answer all.0 all.1) (cc) in
      let rest = all_kept later all.0 to all.2 (cc) in
      let written : Appends (view all.0).told (view to).told (text_by (line from) (pairs_in later)) =
      subst (λ (l : Line). Appends (view all.0).told (view to).told (text_by l (pairs_in later))) (same from one.pair one.answer all.0 all.1) rest.0 in
      (Appends-trans (view from).told (view all.0).told (view to).told (line from one.pair) (text_by (line from) (pairs_in later)) first.0 written, rest.1 ∙ first.1)

  pub last_refused : (kept : ℕ) (taken : List (Drainage (List Field))) (from to : D) → TakesAll takes from taken to → map (λ one. one.answer) taken ≡ replicate kept Kept ++ Refused ∷ [] → SendsFront (text_by (line from) (pairs_in taken)) (view from) (view to)
  last_refused zero [] from to all answers = absurd (let wrong : [] ≡ Refused ∷ [] = answers in cc)
  last_refused (suc kept) [] from to all answers = absurd (let wrong : [] ≡ Kept ∷ (replicate kept Kept ++ Refused ∷ []) = answers in cc)
  last_refused zero (one ∷ []) from to all answers =
      let refused : one.answer ≡ Refused = cc in
      subst (λ (d : D). SendsFront (text_by (line from) (one.pair ∷ [])) (view from) (view d)) (sym all.2)
      (line_refused (line from one.pair) one.answer (view from) (view all.0) (each from one.pair one.answer all.0 all.1) refused)
  last_refused zero (one ∷ other ∷ later) from to all answers = absurd (let wrong : one.answer ∷ other.answer ∷ map (λ o. o.answer) later ≡ Refused ∷ [] = answers in cc)
  last_refused (suc kept) (one ∷ later) from to all answers =
      let first = line_kept (line from one.pair) one.answer (view from) (view all.0) (each from one.pair one.answer all.0 all.1) (cc) in
      let rest : SendsFront (text_by (line from) (pairs_in later)) (view all.0) (view to) =
      subst (λ (l : Line). SendsFront (text_by l (pairs_in later)) (view all.0) (view to)) (same from one.pair one.answer all.0 all.1) (last_refused kept later all.0 to all.2 (cc)) in
      line_before (line from one.pair) (text_by (line from) (pairs_in later)) (view from) (view all.0) (view to) first rest

-- what every pair keeps, all keep
pub kept_by_all : {P D X : Type 0} (takes : D → Pair P → Drained → D → Type 0) (of : D → X) → ((old : D) (pair : Pair P) (answer : Drained) (new : D) → takes old pair answer new → of new ≡ of old) → (taken : List (Drainage P)) (from to : D)
    → TakesAll takes from taken to → of to ≡ of from
kept_by_all takes of each [] from to all = ap of all
kept_by_all takes of each (one ∷ later) from to all = kept_by_all takes of each later all.0 to all.2 ∙ each from one.pair one.answer all.0 all.1
