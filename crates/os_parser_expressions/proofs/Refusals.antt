-- What is passed on where a part of a production was refused.
use Rattle.std.proofs.Common.{◌≡◌, ◌∙◌, List, Result, Ok, Err, ap, sym}
use Rattle.std.specs.Prelude.{IfOk, IfErr}
use Rattle.os_ast.specs.Means.{Placed}
use Rattle.os_parser_grammar.specs.Reading.{Read, got, fails}
use Rattle.os_parser_expressions.specs.Gives.{Refuses, Gives}
use Rattle.os_parser_expressions.specs.declared.production_error.ProductionError.{ProductionError}
use Rattle.os_parser_expressions.specs.declared.production_error.ProductionError.TheVariants as errors

pub refuses-on : {A B : Type 0} (e : ProductionError) (new : List Placed) (r : Read A) (s : Read B) →
    Refuses e new r → (r ≡ fails new → s ≡ fails new) → Refuses e new s
refuses-on errors.Syntax new r s h f = f h
refuses-on errors.Memory new r s h f = tt

-- what was read, where memory may still run out
pub gives-built : {A B : Type 0} (view : A → B) (r : Result A ProductionError) (x : B) (us : List Placed) (s : Read B) →
    IfOk r (λ y. view y ≡ x) → IfErr r (λ e. e ≡ errors.Memory) → s ≡ got x us → Gives view r us s
gives-built view (Ok y) x us s ok err e = e ∙ ap (λ z. got z us) (sym ok)
gives-built view (Err errors.Syntax) x us s ok err e = absurd (cc err)
gives-built view (Err errors.Memory) x us s ok err e = tt
