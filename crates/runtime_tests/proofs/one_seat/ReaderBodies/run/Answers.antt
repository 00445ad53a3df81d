use Rattle.std.proofs.Common.{◌≡◌, ◌∙◌, List, [], ◌∷◌, length, slice_set, refl, sym, ap, arith, ℤ, pos}
use Rattle.flow_core_concurrent.specs.ReaderFirst as reader
use Rattle.runtime_tests.proofs.one_seat.ReaderBodies.run.Goals as goal

-- one element that was set is all there is
only : (xs : List ℤ) → length xs ≡ 1 → slice_set xs 0 (pos 41) ≡ pos 41 ∷ []
only [] h = absurd (omega (arith, h))
only (x ∷ []) h = refl
only (x ∷ (y ∷ ys)) h = absurd (omega (arith, h))

pub returns-clause-outputs : goal.returns-clause-outputs
returns-clause-outputs c = λ done. only c.args.outputs.now c.requires.taken.1 ∙ sym (ap (λ f. (reader.outcome f c.args._inputs.now).outputs) c.requires.taken.0)
