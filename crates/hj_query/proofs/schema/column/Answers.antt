use Rattle.std.proofs.Common.{◌≡◌, ℕ, List, Some, subst, sym}
use Rattle.std.proofs.lemmas.Result.{err_from_is_err_and}
use Rattle.std.specs.Option.{SomeIff}
use Rattle.std.specs.Str.{IsUtf8}
use Rattle.hj_query.specs.Grammar.{named}
use Rattle.hj_query.specs.Lexemes.{IsWord}
use Rattle.hj_query.specs.Faults.{no_type}
use Rattle.hj_query.proofs.schema.column.Goals as goal

pub returns-in_err-kind-clause-read : goal.returns-in_err-kind-clause-read
returns-in_err-kind-clause-read c =
    let p = err_from_is_err_and c.from_residual-in_err-kind.result c.from_residual-in_err-kind.ensures.1 in
    rw (p.1, p.2) (λ _. no_type c.in_ok-name.name.now _ c.in_ok-name.ensures.read.0 c.in_err-kind.ensures.read.0 c.in_err-kind.ensures.read.1 c.in_err-kind.ensures.read.2)

some_is : (text bytes : List ℕ) → SomeIff (Some text) (IsUtf8 bytes) bytes → text ≡ bytes
some_is text bytes h = h.1

pub returns-clause-read : goal.returns-clause-read
returns-clause-read c =
    let same : c.in-Some.name ≡ c.in_ok-name.name.now = some_is c.in-Some.name c.in_ok-name.name.now (subst (λ made. SomeIff made (IsUtf8 c.in_ok-name.name.now) c.in_ok-name.name.now) c.in-Some.is c.in_ok-name-2.ensures) in
    named c.name.new.self (subst (λ name. IsWord name c.args.cursor.now c.name.new.self) (sym same) c.in_ok-name.ensures.read.0) c.in_ok-kind.ensures.read
