use Rattle.std.proofs.Common.{◌≡◌, ◌<◌, ◌-◌, suc, length, drop, reverse, arith, ap, ◌∙◌, sym}
use Rattle.std.proofs.lemmas.List.{get_or_default}
use Rattle.cddf_meaning.specs.Variables.{find}
use Rattle.cddf_meaning_plain_state.proofs.Places.{is_place, none-step}
use Rattle.cddf_meaning_plain_state.proofs.body_state.innermost.Goals as goal

pub returns-then-bound-place : goal.returns-then-bound-place
returns-then-bound-place c =
    let bound = c.args.bound.now in
    let b = c.index-bound-place.result in
    let place = c.loop-place.place - 1 in
    let inside : place < length bound = omega (arith, c.loop-place.invariant, c.loop-place-test) in
    let next : suc place ≡ c.loop-place.place = omega (arith, c.loop-place-test) in
    is_place bound place c.args.id inside
    (λ d. ap (λ x. x.id) (get_or_default bound place d b inside) ∙ c.if-bound-place.true)
    (ap (λ k. find (reverse (drop k bound)) c.args.id) next ∙ c.loop-place.invariant.1)

pub loop-place-preserved : goal.loop-place-preserved
loop-place-preserved c =
    let bound = c.args.bound.now in
    let b = c.index-bound-place.result in
    let place = c.loop-place.place - 1 in
    let inside : place < length bound = omega (arith, c.loop-place.invariant, c.loop-place-test) in
    let next : suc place ≡ c.loop-place.place = omega (arith, c.loop-place-test) in (
      omega (arith, c.loop-place.invariant),
      none-step bound place c.args.id b inside c.index-bound-place.is
          (λ e. c.if-bound-place.false (ap (λ x. x.id) (sym c.index-bound-place.is) ∙ e))
          (ap (λ k. find (reverse (drop k bound)) c.args.id) next ∙ c.loop-place.invariant.1),
    )
