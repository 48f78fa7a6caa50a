-- The canonical text of a query spells this query.
use Rattle.std.proofs.Common.{◌≡◌, ℕ, ◌+◌, ◌≤◌, List, [], ◌∷◌, ◌++◌, length, codes, refl, sym, subst, append_assoc}
use Rattle.std.proofs.lemmas.List.{append-nil}
use Rattle.hj_lex.specs.declared.token.TokenKind.TheVariants as kinds
use Rattle.hj_query.specs.declared.setting.Setting.TheVariants as settings
use Rattle.hj_query.specs.Canonical.{canonical, line_end, pred_text, schema_text, setting_line, window_text}
use Rattle.hj_query.specs.Grammar.{AreSuited, IsQuery, IsSpelled, IsSchema, IsSetting, IsWindow, columns_of, of_lines}
use Rattle.hj_query.specs.Lexemes.{Lexeme, lexeme, next_is}
use Rattle.hj_query.specs.QueryParts.{QueryParts}
use Rattle.hj_query.specs.Texts.{Spells, most_bytes}
use Rattle.hj_query.proofs.Conditions.{IsLast, condition_line, condition_spelled}
use Rattle.hj_query.proofs.Lines.{LacksSetting, condition_lacks, quiet_lacks, schema_line, schema_told, setting_told, window_line, window_told}
use Rattle.hj_query.proofs.Pieces.{Anything, HasFront, Spelled, Told, spelled_as, spelled_then}
use Rattle.hj_query.proofs.Spelling.{IsCut, Reads, at_end, text_cut}

-- the lines of a query
abbrev lines : QueryParts → List ℕ
lines query =
    schema_line (codes "left") query.left.columns
    ++ (schema_line (codes "right") query.right.columns
    ++ (window_line (codes "left") query.left_window
    ++ (window_line (codes "right") query.right_window
    ++ (setting_line settings.Slack query.slack
    ++ (setting_line settings.Quiet query.quiet
    ++ condition_line (columns_of query) query.pred)))))

grouped : (left schema end right other window span back time slack quiet on pred : List ℕ)
    → left ++ schema ++ end ++ right ++ other ++ end ++ window ++ span ++ end ++ back ++ time ++ end ++ slack ++ quiet ++ on ++ pred ++ end
    ≡ (left ++ schema ++ end) ++ ((right ++ other ++ end) ++ ((window ++ span ++ end) ++ ((back ++ time ++ end) ++ (slack ++ (quiet ++ (on ++ pred ++ end))))))
grouped left schema end right other window span back time slack quiet on pred = simp append_assoc

canonical_lines : (query : QueryParts) → canonical query ≡ lines query
canonical_lines query =
    grouped (codes "left ") (schema_text query.left.columns) line_end (codes "right ") (schema_text query.right.columns) (codes "window left ") (window_text query.left_window)
    (codes "window right ") (window_text query.right_window) (setting_line settings.Slack query.slack) (setting_line settings.Quiet query.quiet) (codes "on ") (pred_text (columns_of query) query.pred)

lines_spelled : (query : QueryParts) (here : List Lexeme) → AreSuited here → IsQuery here query → Spelled IsLast (λ here rest. IsQuery here query) (lines query)
lines_spelled query here s (of_lines right_word left_span right_span slack quiet condition left right left_window right_window late silent pred) =
    let first : Told Anything (λ here rest. IsSchema (codes "left") here query.left.columns rest) (schema_line (codes "left") query.left.columns) right_word =
    schema_told (codes "left") here query.left.columns right_word refl s left in
    let second : Told Anything (λ here rest. IsSchema (codes "right") here query.right.columns rest) (schema_line (codes "right") query.right.columns) left_span =
    schema_told (codes "right") right_word query.right.columns left_span refl first.others right in
    let third : Told Anything (λ here rest. IsWindow (codes "left") here query.left_window rest) (window_line (codes "left") query.left_window) right_span =
    window_told (codes "left") left_span query.left_window right_span refl second.others left_window in
    let fourth : Told Anything (λ here rest. IsWindow (codes "right") here query.right_window rest) (window_line (codes "right") query.right_window) slack =
    window_told (codes "right") right_span query.right_window slack refl third.others right_window in
    let fifth : Told (LacksSetting settings.Slack) (λ here rest. IsSetting settings.Slack here query.slack rest) (setting_line settings.Slack query.slack) quiet =
    setting_told settings.Slack slack query.slack quiet fourth.others late in
    let sixth : Told (LacksSetting settings.Quiet) (λ here rest. IsSetting settings.Quiet here query.quiet rest) (setting_line settings.Quiet query.quiet) condition =
    setting_told settings.Quiet quiet query.quiet condition fifth.others silent in
    let behind_slack = spelled_then (setting_line settings.Quiet query.quiet) _ sixth.spelled (condition_spelled (columns_of query) condition query.pred sixth.others pred)
    (λ more rest mid h s. condition_lacks (columns_of query) settings.Quiet mid query.pred s) in
    let behind_windows = spelled_then (setting_line settings.Slack query.slack) _ fifth.spelled behind_slack
    (λ more rest mid h s. quiet_lacks mid query.quiet s.0 s.1 (condition_lacks (columns_of query) settings.Slack s.0 query.pred s.2)) in
    let last = spelled_then (window_line (codes "right") query.right_window) _ fourth.spelled behind_windows (λ more rest mid h s. tt) in
    let windows = spelled_then (window_line (codes "left") query.left_window) _ third.spelled last (λ more rest mid h s. tt) in
    let behind_left = spelled_then (schema_line (codes "right") query.right.columns) _ second.spelled windows (λ more rest mid h s. tt) in
    let whole = spelled_then (schema_line (codes "left") query.left.columns) _ first.spelled behind_left (λ more rest mid h s. tt) in
    spelled_as (lines query) (λ more rest h. h) (λ more here rest h s. of_lines s.0 s.2.0 s.2.2.0 s.2.2.2.0 s.2.2.2.2.0 s.2.2.2.2.2.0 s.1 s.2.1 s.2.2.1 s.2.2.2.1 s.2.2.2.2.1 s.2.2.2.2.2.1 s.2.2.2.2.2.2) whole

nothing_behind : (at : ℕ) → IsLast [] (lexeme at kinds.Sign [] ∷ [])
unfolding next_is
nothing_behind at = record { ends = record { no_plus = refl; no_minus = refl }; last = refl }

spells_whole : (text : List ℕ) (query : QueryParts) → length text ≤ most_bytes → Spelled IsLast (λ here rest. IsQuery here query) text → Spells text query
spells_whole text query short spelled =
    let front : HasFront (λ here rest. IsQuery here query) 0 (text ++ []) (lexeme (0 + length text) kinds.Sign [] ∷ []) =
    spelled.read 0 [] _ (nothing_behind (0 + length text)) (at_end (0 + length text)) in
    let cut : IsCut text 0 front.here = text_cut text front.here (subst (λ bytes. Reads 0 bytes front.here) (append-nil text) front.reads) in
    record { short = short; tokens = cut.tokens; cut = cut.cut; parsed = subst (λ (here : List Lexeme). IsQuery here query) cut.same front.stands }

pub canonical_spells : (query : QueryParts) → IsSpelled query → length (canonical query) ≤ most_bytes → Spells (canonical query) query
canonical_spells query h short =
    spells_whole (canonical query) query short
    (subst (λ text. Spelled IsLast (λ here rest. IsQuery here query) text) (sym (canonical_lines query)) (lines_spelled query h.0 h.1 h.2))

-- the same of a text that was written
pub written_spells : (text : List ℕ) (query : QueryParts) → text ≡ canonical query → IsSpelled query → length text ≤ most_bytes → Spells text query
written_spells text query e h short =
    subst (λ bytes. Spells bytes query) (sym e) (canonical_spells query h (subst (λ bytes. length bytes ≤ most_bytes) e short))
