-- Reading what stands before a query's condition: its schemas, its windows and its settings.
use Rattle.std.proofs.Common.{◌≡◌, ℕ, List, inl, inr, refl, sym, subst}
use Rattle.std.specs.Prelude.{codes}
use Rattle.hj_base.specs.declared.numbers.Window.{Window}
use Rattle.hj_value.specs.declared.column.Column.{Column}
use Rattle.hj_query.specs.declared.fault.QueryFault.{QueryFault}
use Rattle.hj_query.specs.declared.fault.Wanted.TheVariants as wants
use Rattle.hj_query.specs.declared.setting.Setting.TheVariants as settings
use Rattle.hj_query.specs.Faults.{FaultsSchema, FaultsSetting, FaultsWindow}
use Rattle.hj_query.specs.Grammar.{IsSchema, IsSetting, IsWindow}
use Rattle.hj_query.specs.Lexemes.{Lexeme}
use Rattle.hj_query.proofs.Choices.{one_is}
use Rattle.hj_query.proofs.Outcomes.{IsOne, Outcome, Then, fault, one_by, one_then, read}
use Rattle.hj_query.proofs.SchemaFacts.{schema_suited, setting_suited, window_suited}
use Rattle.hj_query.proofs.SchemaOutcomes.{SchemaGives, schema_one}
use Rattle.hj_query.proofs.SettingOutcomes.{SettingGives, setting_one}
use Rattle.hj_query.proofs.TokenOutcomes.{AreSuited}
use Rattle.hj_query.proofs.WindowOutcomes.{WindowGives, window_one}

pub record Head : Type 0 where
  pub left : List Column
  pub right : List Column
  pub left_window : Window
  pub right_window : Window
  pub slack : ℕ
  pub quiet : ℕ

abbrev pub head : List Column → List Column → Window → Window → ℕ → ℕ → Head
head left right left_window right_window late silent =
    record { left = left; right = right; left_window = left_window; right_window = right_window; slack = late; quiet = silent }

pub data IsHead (here : List Lexeme) (found : Head) (condition : List Lexeme) : Type 0 where
  of_head : (right_word left_span right_span slack quiet : List Lexeme)
      → IsSchema (codes "left") here found.left right_word → IsSchema (codes "right") right_word found.right left_span
      → IsWindow (codes "left") left_span found.left_window right_span → IsWindow (codes "right") right_span found.right_window slack
      → IsSetting settings.Slack slack found.slack quiet → IsSetting settings.Quiet quiet found.quiet condition → IsHead here found condition

pub data FaultsHead (here : List Lexeme) (found : QueryFault) : Type 0 where
  left_columns : FaultsSchema (codes "left") wants.LeftWord here found → FaultsHead here found
  right_columns : (left : List Column) (right_word : List Lexeme)
      → IsSchema (codes "left") here left right_word → FaultsSchema (codes "right") wants.RightWord right_word found → FaultsHead here found
  left_rows : (left right : List Column) (right_word left_span : List Lexeme)
      → IsSchema (codes "left") here left right_word → IsSchema (codes "right") right_word right left_span
      → FaultsWindow (codes "left") left_span found → FaultsHead here found
  right_rows : (left right : List Column) (left_window : Window) (right_word left_span right_span : List Lexeme)
      → IsSchema (codes "left") here left right_word → IsSchema (codes "right") right_word right left_span
      → IsWindow (codes "left") left_span left_window right_span → FaultsWindow (codes "right") right_span found → FaultsHead here found
  slack_number : (left right : List Column) (left_window right_window : Window) (right_word left_span right_span slack : List Lexeme)
      → IsSchema (codes "left") here left right_word → IsSchema (codes "right") right_word right left_span
      → IsWindow (codes "left") left_span left_window right_span → IsWindow (codes "right") right_span right_window slack
      → FaultsSetting settings.Slack slack found → FaultsHead here found
  quiet_number : (left right : List Column) (left_window right_window : Window) (late : ℕ) (right_word left_span right_span slack quiet : List Lexeme)
      → IsSchema (codes "left") here left right_word → IsSchema (codes "right") right_word right left_span
      → IsWindow (codes "left") left_span left_window right_span → IsWindow (codes "right") right_span right_window slack
      → IsSetting settings.Slack slack late quiet → FaultsSetting settings.Quiet quiet found → FaultsHead here found

abbrev pub HeadGives : List Lexeme → Outcome Head → Type 0
HeadGives here (read found condition) = IsHead here found condition
HeadGives here (fault found) = FaultsHead here found

-- step by step

abbrev QuietGives : List Column → List Column → Window → Window → ℕ → List Lexeme → Outcome Head → Type 0
QuietGives left right left_window right_window late quiet =
    Then (SettingGives settings.Quiet quiet) (λ silent condition end. end ≡ read (head left right left_window right_window late silent) condition)

abbrev SlackGives : List Column → List Column → Window → Window → List Lexeme → Outcome Head → Type 0
SlackGives left right left_window right_window slack = Then (SettingGives settings.Slack slack) (λ late quiet. QuietGives left right left_window right_window late quiet)

abbrev LastGives : List Column → List Column → Window → List Lexeme → Outcome Head → Type 0
LastGives left right left_window span = Then (WindowGives (codes "right") span) (λ right_window slack. SlackGives left right left_window right_window slack)

abbrev WindowsGives : List Column → List Column → List Lexeme → Outcome Head → Type 0
WindowsGives left right span = Then (WindowGives (codes "left") span) (λ left_window next. LastGives left right left_window next)

abbrev RightGives : List Column → List Lexeme → Outcome Head → Type 0
RightGives left word = Then (SchemaGives (codes "right") wants.RightWord word) (λ right span. WindowsGives left right span)

abbrev LinesGives : List Lexeme → Outcome Head → Type 0
LinesGives here = Then (SchemaGives (codes "left") wants.LeftWord here) (λ left word. RightGives left word)

quiet_one : (left right : List Column) (left_window right_window : Window) (late : ℕ) (quiet : List Lexeme) → IsOne (QuietGives left right left_window right_window late quiet)
quiet_one left right left_window right_window late quiet =
    one_then (SettingGives settings.Quiet quiet) (λ silent condition end. end ≡ read (head left right left_window right_window late silent) condition)
    (setting_one settings.Quiet quiet) (λ silent condition s. one_is _)

slack_one : (left right : List Column) (left_window right_window : Window) (slack : List Lexeme) → IsOne (SlackGives left right left_window right_window slack)
slack_one left right left_window right_window slack =
    one_then (SettingGives settings.Slack slack) (λ late quiet. QuietGives left right left_window right_window late quiet)
    (setting_one settings.Slack slack) (λ late quiet s. quiet_one left right left_window right_window late quiet)

last_one : (left right : List Column) (left_window : Window) (span : List Lexeme) → IsOne (LastGives left right left_window span)
last_one left right left_window span =
    one_then (WindowGives (codes "right") span) (λ right_window slack. SlackGives left right left_window right_window slack)
    (window_one (codes "right") span) (λ right_window slack w. slack_one left right left_window right_window slack)

windows_one : (left right : List Column) (span : List Lexeme) → IsOne (WindowsGives left right span)
windows_one left right span =
    one_then (WindowGives (codes "left") span) (λ left_window next. LastGives left right left_window next)
    (window_one (codes "left") span) (λ left_window next w. last_one left right left_window next)

right_one : (left : List Column) (word : List Lexeme) → IsOne (RightGives left word)
right_one left word =
    one_then (SchemaGives (codes "right") wants.RightWord word) (λ right span. WindowsGives left right span)
    (schema_one (codes "right") wants.RightWord word) (λ right span s. windows_one left right span)

lines_one : (here : List Lexeme) → IsOne (LinesGives here)
lines_one here =
    one_then (SchemaGives (codes "left") wants.LeftWord here) (λ left word. RightGives left word)
    (schema_one (codes "left") wants.LeftWord here) (λ left word s. right_one left word)

to_slack : (here word span next slack : List Lexeme) (left right : List Column) (left_window right_window : Window) (end : Outcome Head)
    → IsSchema (codes "left") here left word → IsSchema (codes "right") word right span → IsWindow (codes "left") span left_window next
    → IsWindow (codes "right") next right_window slack → SlackGives left right left_window right_window slack end → HeadGives here end
to_slack here word span next slack left right left_window right_window end s t w v (inl (found, f, e)) =
    subst (HeadGives here) (sym e) (slack_number left right left_window right_window word span next slack s t w v f)
to_slack here word span next slack left right left_window right_window end s t w v (inr (late, (quiet, a, inl (found, f, e)))) =
    subst (HeadGives here) (sym e) (quiet_number left right left_window right_window late word span next slack quiet s t w v a f)
to_slack here word span next slack left right left_window right_window end s t w v (inr (late, (quiet, a, inr (silent, (condition, b, e))))) =
    subst (HeadGives here) (sym e) (of_head word span next slack quiet s t w v a b)

to_last : (here word span next : List Lexeme) (left right : List Column) (left_window : Window) (end : Outcome Head)
    → IsSchema (codes "left") here left word → IsSchema (codes "right") word right span → IsWindow (codes "left") span left_window next
    → LastGives left right left_window next end → HeadGives here end
to_last here word span next left right left_window end s t w (inl (found, f, e)) = subst (HeadGives here) (sym e) (right_rows left right left_window word span next s t w f)
to_last here word span next left right left_window end s t w (inr (right_window, (slack, v, h))) = to_slack here word span next slack left right left_window right_window end s t w v h

to_head : (here : List Lexeme) (end : Outcome Head) → LinesGives here end → HeadGives here end
to_head here end (inl (found, f, e)) = subst (HeadGives here) (sym e) (left_columns f)
to_head here end (inr (left, (word, s, inl (found, f, e)))) = subst (HeadGives here) (sym e) (right_columns left word s f)
to_head here end (inr (left, (word, s, inr (right, (span, t, inl (found, f, e)))))) = subst (HeadGives here) (sym e) (left_rows left right word span s t f)
to_head here end (inr (left, (word, s, inr (right, (span, t, inr (left_window, (next, w, h))))))) = to_last here word span next left right left_window end s t w h

from_head : (here : List Lexeme) (end : Outcome Head) → HeadGives here end → LinesGives here end
from_head here (read found condition) (of_head word span next slack quiet s t w v a b) =
    inr (
      found.left,
      (
        word,
        s,
        inr (
          found.right,
          (
            span,
            t,
            inr (
              found.left_window,
              (
                next,
                w,
                inr (
                  found.right_window,
                  (
                    slack,
                    v,
                    inr (found.slack, (quiet, a, inr (found.quiet, (condition, b, refl)))),
                  ),
                ),
              ),
            ),
          ),
        ),
      ),
    )
from_head here (fault found) (left_columns f) = inl (found, f, refl)
from_head here (fault found) (right_columns left word s f) = inr (left, (word, s, inl (found, f, refl)))
from_head here (fault found) (left_rows left right word span s t f) = inr (left, (word, s, inr (right, (span, t, inl (found, f, refl)))))
from_head here (fault found) (right_rows left right left_window word span next s t w f) =
    inr (left, (word, s, inr (right, (span, t, inr (left_window, (next, w, inl (found, f, refl)))))))
from_head here (fault found) (slack_number left right left_window right_window word span next slack s t w v f) =
    inr (left, (word, s, inr (right, (span, t, inr (left_window, (next, w, inr (right_window, (slack, v, inl (found, f, refl)))))))))
from_head here (fault found) (quiet_number left right left_window right_window late word span next slack quiet s t w v a f) =
    inr (left, (word, s, inr (right, (span, t, inr (left_window, (next, w, inr (right_window, (slack, v, inr (late, (quiet, a, inl (found, f, refl)))))))))))

pub head_one : (here : List Lexeme) → IsOne (HeadGives here)
head_one here = one_by (LinesGives here) (HeadGives here) (λ end h. to_head here end h) (λ end h. from_head here end h) (lines_one here)

pub head_suited : (here condition : List Lexeme) (found : Head) → IsHead here found condition → AreSuited here → AreSuited condition
head_suited here condition found (of_head word span next slack quiet s t w v a b) h =
    setting_suited settings.Quiet quiet found.quiet condition b
    (setting_suited settings.Slack slack found.slack quiet a
    (window_suited (codes "right") next found.right_window slack v
    (window_suited (codes "left") span found.left_window next w
    (schema_suited (codes "right") word found.right span t (schema_suited (codes "left") here found.left word s h)))))
