-- A run of `main` whose only stretch is longer than all runs.
use Rattle.std.proofs.Common.{◌≡◌, ◌∙◌, ◌+◌, ◌≤◌, All, ℕ, true, List, None, Some, ap, arith, length, subst, take}
use Rattle.std.proofs.lemmas.Bool.{lt-ltb}
use Rattle.std.proofs.lemmas.List.{take_all}
use Rattle.control_run.specs.Stretches.{MainTakes, RunSoFar, StepsTold, TurnsTold, advanced, created_so_far, not_begun, remaining}
use Rattle.control_run.proofs.All.{all-few}
use Rattle.flow_core_laws.specs.declared.activation.Activation.{Activation}
use Rattle.os_code.specs.Codes.{parts_of}
use Rattle.os_code.specs.Control.{ControlEnds}
use Rattle.os_code.specs.Outcomes.{main_control}
use Rattle.os_code.specs.Tasks.{Fits}
use Rattle.os_code.specs.declared.code.Code.{Code}
use Rattle.os_code.specs.declared.parts.Parts.{Parts}

-- as many as a longer part of a list has are all of it
all-of : (all : List Activation) (most : ℕ) → length all ≤ most → take (0 + length (take most all)) all ≡ all
all-of all most few = let size = ap length (take_all most all few) in take_all (0 + length (take most all)) all (omega (arith, size))

module _ (code : Code) (input_len budget : ℕ) (low : budget ≤ 1000000000) (run after : RunSoFar) (begins : run ≡ not_begun (parts_of code) input_len budget)
    (goes : after ≡ advanced run 4294967295) where
  same : after ≡ advanced (not_begun (parts_of code) input_len budget) 4294967295
  same = goes ∙ ap (λ (r : RunSoFar). advanced r 4294967295) begins

  -- it has told that no more activations come
  pub has-ended : after.has_ended ≡ true
  has-ended =
      let few = all-few (parts_of code) code.valid input_len budget low in
      ap (λ (r : RunSoFar). r.has_ended) same ∙ lt-ltb (length (main_control (parts_of code) input_len budget).activations) 4294967295 (omega (arith, few))

  -- and so its steps and its turns are told
  pub no-steps-untold : StepsTold after None → ⊥
  no-steps-untold none = let e = has-ended in cc

  pub no-turns-untold : TurnsTold after None → ⊥
  no-turns-untold none = let e = has-ended in cc

  pub steps-told : (steps : ℕ) → StepsTold after (Some steps) → ControlEnds (parts_of code) input_len budget (main_control (parts_of code) input_len budget) steps
  steps-told steps told = (subst (λ (r : RunSoFar). StepsTold r (Some steps)) same told).1

  pub turns-told : (turns : ℕ) → TurnsTold after (Some turns) → MainTakes (parts_of code) input_len budget turns
  turns-told turns told = (subst (λ (r : RunSoFar). TurnsTold r (Some turns)) same told).1

  -- it gives all activations, and they fit the code
  pub all-given : take 4294967295 (remaining run) ≡ (main_control (parts_of code) input_len budget).activations
  all-given =
      let few = all-few (parts_of code) code.valid input_len budget low in
      ap (λ (r : RunSoFar). take 4294967295 (remaining r)) begins
      ∙ take_all 4294967295 (main_control (parts_of code) input_len budget).activations (omega (arith, few))

  pub all-fit : All (Fits after.code) (created_so_far after) → All (Fits (parts_of code)) (main_control (parts_of code) input_len budget).activations
  all-fit fit =
      let activations = (main_control (parts_of code) input_len budget).activations in
      let few = all-few (parts_of code) code.valid input_len budget low in
      let all : created_so_far after ≡ activations = ap created_so_far same ∙ all-of activations 4294967295 (omega (arith, few)) in
      subst (λ (xs : List Activation). All (Fits (parts_of code)) xs) all
      (subst (λ (p : Parts). All (Fits p) (created_so_far after)) (ap (λ (r : RunSoFar). r.code) same) fit)
