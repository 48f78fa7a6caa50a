use Rattle.std.proofs.Common.{◌≡◌, refl, ◌∙◌}
use denote.Enum.Bare.{sameb}
use Rattle.hj_lex.specs.contracts.token.TokenKind.{the_type}
use Rattle.hj_lex.specs.declared.token.TokenKind.{TokenKind}
use Rattle.hj_lex.specs.declared.token.TokenKind.TheVariants as kinds
use Rattle.hj_query.specs.Lexemes.{is_same_kind}
use Rattle.hj_query.proofs.cursor.is_kind.Goals as goal

same_is : (a b : TokenKind) → sameb the_type a b ≡ is_same_kind a b
same_is kinds.Name kinds.Name = refl
same_is kinds.Name kinds.Number = refl
same_is kinds.Name kinds.Text = refl
same_is kinds.Name kinds.Sign = refl
same_is kinds.Number kinds.Name = refl
same_is kinds.Number kinds.Number = refl
same_is kinds.Number kinds.Text = refl
same_is kinds.Number kinds.Sign = refl
same_is kinds.Text kinds.Name = refl
same_is kinds.Text kinds.Number = refl
same_is kinds.Text kinds.Text = refl
same_is kinds.Text kinds.Sign = refl
same_is kinds.Sign kinds.Name = refl
same_is kinds.Sign kinds.Number = refl
same_is kinds.Sign kinds.Text = refl
same_is kinds.Sign kinds.Sign = refl

pub returns : goal.returns
returns c = c.eq.ensures ∙ same_is c.args.found c.args.kind
