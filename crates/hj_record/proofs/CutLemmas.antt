-- What a cutter's answer says of the stream where a whole piece isn't copied.
use Rattle.std.proofs.Common.{◌≡◌, ℕ, false, List, [], ◌++◌, take, drop, sym, ap, subst, ◌∙◌, None}
use Rattle.std.proofs.lemmas.List.{append-nil}
use Rattle.hj_record.specs.declared.cutter.Cut.{Cut}
use Rattle.hj_record.specs.declared.cutter.Cut.TheVariants as cut
use Rattle.hj_record.specs.declared.cutter.Fed.TheVariants as fed
use Rattle.hj_record.specs.Pieces.{IsUnended, pieces_of, ended, then_pieces, unread}
use Rattle.hj_record.specs.Cutter.{Cutting, FitsLimits, pieces_from}
use Rattle.hj_record.specs.Cuts.{CutsNext, CutsFrom, Cuts, LeadsBy, with_piece}
use Rattle.hj_record.proofs.Leads.{leads_from_takes}
use Rattle.hj_record.proofs.Streams.{pieces_of-cut_off}

pub cuts_from_next : (answer : Cut) (bytes : List ℕ) (old new : Cutting) → old.fault ≡ None → CutsNext answer bytes old new → Cuts answer bytes old new
cuts_from_next answer bytes old new none cuts = subst (λ f. CutsFrom f answer bytes old new) (sym none) cuts

-- a piece that goes on, where the stream was cut off
cut_off : (new : Cutting) → IsUnended new.piece → FitsLimits new → pieces_from new [] false ≡ ended unread
cut_off new none fits =
    ap (λ x. pieces_of new.room (record { bytes = x; whole = false })) (append-nil new.piece)
    ∙ pieces_of-cut_off new.room new.piece none fits.0 fits.1

pub leads_by : (answer : Cut) (bytes : List ℕ) (old new : Cutting) → CutsNext answer bytes old new → LeadsBy answer bytes old new
leads_by cut.More bytes old new takes = (leads_from_takes fed.More bytes old new takes, cut_off new takes.1 takes.2)
leads_by (cut.Lent used) bytes old new lends = λ more whole.
    leads_from_takes (fed.Piece used) bytes old (with_piece (take used bytes) old) lends.1 more whole
    ∙ ap (λ n. then_pieces (take used bytes) (pieces_from n (drop used bytes ++ more) whole)) (sym lends.2)
leads_by (cut.Piece used) bytes old new takes = leads_from_takes (fed.Piece used) bytes old new takes
leads_by (cut.Bad found) bytes old new takes = leads_from_takes (fed.Bad found) bytes old new takes
