use Rattle.std.proofs.Common.{◌≡◌, ◌∙◌, ◌+◌, ◌≤◌, ℕ, ap, get_or, drop, arith, slice_index_or}
use Rattle.os_lexer.specs.declared.token.Kind.TheVariants as kinds
use Rattle.os_lexer.specs.declared.token.Token.{Token}
use Rattle.oscheck_warnings.specs.EmptyBodies.{open_past, behind_parens}
use Rattle.oscheck_warnings.proofs.EmptyBodies.{one_more}
use Rattle.oscheck_warnings.proofs.SoFar.{get_or-default}
use Rattle.oscheck_warnings.proofs.empty.behind_parens.Goals as goal

pub loop-place-preserved : goal.loop-place-preserved
loop-place-preserved c =
    let few = c.open_past-depth.ensures.few in
    let below = c.loop-place.invariant.1 in
    let some = c.if-depth-eq0.false in
    let none : Token = record { kind = kinds.Name 0; start = 0; end = 0; line = 0 } in
    let token : Token = slice_index_or c.args.tokens.now c.loop-place.place none in (
      ap (λ (d : ℕ). behind_parens d token.end (drop (c.loop-place.place + 1) c.args.tokens.now)) c.open_past-depth.ensures.exact
          ∙ one_more c.args.tokens.now c.loop-place.place c.loop-place.depth c.loop-place.point token c.loop-place-test.true
          (get_or-default c.args.tokens.now c.loop-place.place none token c.loop-place-test.true) some
          ∙ c.loop-place.invariant.0,
      omega (arith, few, below, some),
    )
