-- The plans of the tables and of the wrong steps are sound, with meanings that fit them.
use Rattle.std.proofs.Common.{◌≡◌, ℕ, zero, suc, ◌<◌, ◌≤◌, Some, None, length, Bool, true, false, refl, sym, ap, ◌∙◌, arith}
use Rattle.std.proofs.lemmas.Option.{same_Some}
use Rattle.flow_core_laws.specs.Outcome.{outcome_at, is_done}
use Rattle.flow_core_laws.specs.Round.{round, rounds, meaning}
use Rattle.flow_core_concurrent.proofs.Fits.{full_meant}
use Rattle.flow_core_laws.specs.declared.outcome.Outcome.{Outcome}
use Rattle.flow_core_laws.specs.declared.task_end.TaskEnd.{TaskEnd}
use Rattle.flow_core_laws.specs.declared.task_end.TaskEnd.TheVariants.{Done, Trapped, OverBudget, Poisoned}
use Rattle.flow_core_laws.specs.Plans.{frame_at, cell_source}
use Rattle.flow_core_laws.proofs.SoundTests.{IsSound-from_tests}
use Rattle.flow_core_concurrent.specs.Laws.{IsFit, IsMeant}
use Rattle.flow_core_concurrent.specs.WrongSteps.{pairs, pairs_outcome, trapped, trapped_outcome}
use Rattle.flow_core_concurrent.specs.ReaderFirst as reader
use Rattle.flow_core_concurrent.specs.TwoProducers as two
use Rattle.flow_core_concurrent.specs.MixedEnds as mixed

-- as many outputs as an outcome that is there has
has_length : (o p : Outcome) → Some o ≡ Some p → length p.outputs ≡ length o.outputs
has_length o p h = ap (λ (o : Outcome). length o.outputs) (sym (same_Some o p h))

-- an outcome that is Done isn't trapped
untrapped : (o p : Outcome) (code line : ℕ) → o.end ≡ Done → Some o ≡ Some p → p.end ≡ Trapped code line → ⊥
untrapped o p code line done h trap = let z : true ≡ false = ap is_done (sym done ∙ ap (λ (o : Outcome). o.end) (same_Some o p h) ∙ trap) in cc

abbrev over : TaskEnd → Bool
over Done = false
over (Trapped code line) = false
over OverBudget = true
over (Poisoned root) = false

abbrev poisoned : TaskEnd → Bool
poisoned Done = false
poisoned (Trapped code line) = false
poisoned OverBudget = false
poisoned (Poisoned root) = true

abbrev code_of : TaskEnd → ℕ
code_of Done = 0
code_of (Trapped code line) = code
code_of OverBudget = 0
code_of (Poisoned root) = 0

reader_outputs : (f : ℕ) (o : Outcome) → f < 2 → outcome_at reader.known.meaning f ≡ Some o → o.end ≡ Done → length o.outputs ≡ (frame_at reader.known.plan f).outputs
reader_outputs zero o lt h done = has_length _ o h
reader_outputs (suc zero) o lt h done = has_length _ o h
reader_outputs (suc (suc f)) o lt h done = absurd (omega arith)

reader_codes : (f : ℕ) (o : Outcome) (code line : ℕ) → f < 2 → outcome_at reader.known.meaning f ≡ Some o → o.end ≡ Trapped code line → (1 ≤ code) × (code ≤ 8)
reader_codes zero o code line lt h trap = absurd (untrapped _ o code line refl h trap)
reader_codes (suc zero) o code line lt h trap = absurd (untrapped _ o code line refl h trap)
reader_codes (suc (suc f)) o code line lt h trap = absurd (omega arith)

pub reader_meant : IsMeant reader.known reader.outcome
unfolding meaning rounds round cell_source
reader_meant = refl

pub reader_fit : IsFit reader.known
reader_fit = record { plan_is_sound = IsSound-from_tests reader.known.plan refl refl refl refl refl refl refl refl refl refl refl refl refl refl; full_has_outcome = full_meant reader.known reader.outcome reader_meant; done_has_outputs = reader_outputs; traps_have_codes = reader_codes }

two_outputs : (f : ℕ) (o : Outcome) → f < 3 → outcome_at two.known.meaning f ≡ Some o → o.end ≡ Done → length o.outputs ≡ (frame_at two.known.plan f).outputs
two_outputs zero o lt h done = has_length _ o h
two_outputs (suc zero) o lt h done = has_length _ o h
two_outputs (suc (suc zero)) o lt h done = has_length _ o h
two_outputs (suc (suc (suc f))) o lt h done = absurd (omega arith)

two_codes : (f : ℕ) (o : Outcome) (code line : ℕ) → f < 3 → outcome_at two.known.meaning f ≡ Some o → o.end ≡ Trapped code line → (1 ≤ code) × (code ≤ 8)
two_codes zero o code line lt h trap = absurd (untrapped _ o code line refl h trap)
two_codes (suc zero) o code line lt h trap = absurd (untrapped _ o code line refl h trap)
two_codes (suc (suc zero)) o code line lt h trap = absurd (untrapped _ o code line refl h trap)
two_codes (suc (suc (suc f))) o code line lt h trap = absurd (omega arith)

pub two_meant : IsMeant two.known two.outcome
unfolding meaning rounds round cell_source
two_meant = refl

pub two_fit : IsFit two.known
two_fit = record { plan_is_sound = IsSound-from_tests two.known.plan refl refl refl refl refl refl refl refl refl refl refl refl refl refl; full_has_outcome = full_meant two.known two.outcome two_meant; done_has_outputs = two_outputs; traps_have_codes = two_codes }

pairs_outputs : (f : ℕ) (o : Outcome) → f < 2 → outcome_at pairs.meaning f ≡ Some o → o.end ≡ Done → length o.outputs ≡ (frame_at pairs.plan f).outputs
pairs_outputs zero o lt h done = has_length _ o h
pairs_outputs (suc zero) o lt h done = has_length _ o h
pairs_outputs (suc (suc f)) o lt h done = absurd (omega arith)

pairs_codes : (f : ℕ) (o : Outcome) (code line : ℕ) → f < 2 → outcome_at pairs.meaning f ≡ Some o → o.end ≡ Trapped code line → (1 ≤ code) × (code ≤ 8)
pairs_codes zero o code line lt h trap = absurd (untrapped _ o code line refl h trap)
pairs_codes (suc zero) o code line lt h trap = absurd (untrapped _ o code line refl h trap)
pairs_codes (suc (suc f)) o code line lt h trap = absurd (omega arith)

pub pairs_meant : IsMeant pairs pairs_outcome
unfolding meaning rounds round cell_source
pairs_meant = refl

pub pairs_fit : IsFit pairs
pairs_fit = record { plan_is_sound = IsSound-from_tests pairs.plan refl refl refl refl refl refl refl refl refl refl refl refl refl refl; full_has_outcome = full_meant pairs pairs_outcome pairs_meant; done_has_outputs = pairs_outputs; traps_have_codes = pairs_codes }

trapped_outputs : (f : ℕ) (o : Outcome) → f < 2 → outcome_at trapped.meaning f ≡ Some o → o.end ≡ Done → length o.outputs ≡ (frame_at trapped.plan f).outputs
trapped_outputs zero o lt h done = let z : false ≡ true = ap is_done (ap (λ (o : Outcome). o.end) (same_Some _ o h) ∙ done) in absurd (cc)
trapped_outputs (suc zero) o lt h done = let z : false ≡ true = ap is_done (ap (λ (o : Outcome). o.end) (same_Some _ o h) ∙ done) in absurd (cc)
trapped_outputs (suc (suc f)) o lt h done = absurd (omega arith)

trapped_codes : (f : ℕ) (o : Outcome) (code line : ℕ) → f < 2 → outcome_at trapped.meaning f ≡ Some o → o.end ≡ Trapped code line → (1 ≤ code) × (code ≤ 8)
trapped_codes zero o code line lt h trap =
    let b : true ≡ false = ap poisoned (ap (λ (o : Outcome). o.end) (same_Some _ o h) ∙ trap) in
    absurd (cc)
trapped_codes (suc zero) o code line lt h trap =
    let e : 2 ≡ code = ap code_of (ap (λ (o : Outcome). o.end) (same_Some _ o h) ∙ trap) in
    (omega (arith, e), omega (arith, e))
trapped_codes (suc (suc f)) o code line lt h trap = absurd (omega arith)

pub trapped_meant : IsMeant trapped trapped_outcome
unfolding meaning rounds round cell_source
trapped_meant = refl

pub trapped_fit : IsFit trapped
trapped_fit = record { plan_is_sound = IsSound-from_tests trapped.plan refl refl refl refl refl refl refl refl refl refl refl refl refl refl; full_has_outcome = full_meant trapped trapped_outcome trapped_meant; done_has_outputs = trapped_outputs; traps_have_codes = trapped_codes }

mixed_outputs : (f : ℕ) (o : Outcome) → f < 5 → outcome_at mixed.known.meaning f ≡ Some o → o.end ≡ Done → length o.outputs ≡ (frame_at mixed.known.plan f).outputs
mixed_outputs zero o lt h done = has_length _ o h
mixed_outputs (suc zero) o lt h done = let z : false ≡ true = ap is_done (ap (λ (o : Outcome). o.end) (same_Some _ o h) ∙ done) in absurd (cc)
mixed_outputs (suc (suc zero)) o lt h done = let z : false ≡ true = ap is_done (ap (λ (o : Outcome). o.end) (same_Some _ o h) ∙ done) in absurd (cc)
mixed_outputs (suc (suc (suc zero))) o lt h done = let z : false ≡ true = ap is_done (ap (λ (o : Outcome). o.end) (same_Some _ o h) ∙ done) in absurd (cc)
mixed_outputs (suc (suc (suc (suc zero)))) o lt h done = let z : None ≡ Some o = h in absurd (cc)
mixed_outputs (suc (suc (suc (suc (suc f))))) o lt h done = absurd (omega arith)

mixed_codes : (f : ℕ) (o : Outcome) (code line : ℕ) → f < 5 → outcome_at mixed.known.meaning f ≡ Some o → o.end ≡ Trapped code line → (1 ≤ code) × (code ≤ 8)
mixed_codes zero o code line lt h trap = absurd (untrapped _ o code line refl h trap)
mixed_codes (suc zero) o code line lt h trap =
    let b : true ≡ false = ap over (ap (λ (o : Outcome). o.end) (same_Some _ o h) ∙ trap) in
    absurd (cc)
mixed_codes (suc (suc zero)) o code line lt h trap =
    let e : 2 ≡ code = ap code_of (ap (λ (o : Outcome). o.end) (same_Some _ o h) ∙ trap) in
    (omega (arith, e), omega (arith, e))
mixed_codes (suc (suc (suc zero))) o code line lt h trap =
    let b : true ≡ false = ap poisoned (ap (λ (o : Outcome). o.end) (same_Some _ o h) ∙ trap) in
    absurd (cc)
mixed_codes (suc (suc (suc (suc zero)))) o code line lt h trap = let z : None ≡ Some o = h in absurd (cc)
mixed_codes (suc (suc (suc (suc (suc f))))) o code line lt h trap = absurd (omega arith)

pub mixed_meant : IsMeant mixed.known mixed.outcome
unfolding meaning rounds round cell_source
mixed_meant = refl

pub mixed_fit : IsFit mixed.known
mixed_fit = record {
  plan_is_sound = IsSound-from_tests mixed.known.plan refl refl refl refl refl refl refl refl refl refl refl refl refl refl;
  full_has_outcome = full_meant mixed.known mixed.outcome mixed_meant;
  done_has_outputs = mixed_outputs;
  traps_have_codes = mixed_codes;
}
