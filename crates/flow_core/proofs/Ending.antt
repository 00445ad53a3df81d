-- What a frame comes to by its inputs.
use Rattle.std.proofs.Common.{◌≡◌, ℕ, ◌<◌, ℤ, List, [], Option, Some, None, length, refl, sym, ap, ◌∙◌}
use Rattle.std.specs.Prelude.{IsSome}
use Rattle.std.specs.Option.{option_map_or}
use Rattle.flow_core_laws.specs.declared.elem.Elem.{Elem}
use Rattle.flow_core_laws.specs.declared.task_end.TaskEnd.TheVariants.{Done, Poisoned}
use Rattle.flow_core_laws.specs.declared.outcome.Outcome.{Outcome}
use Rattle.flow_core_laws.specs.declared.plan.Plan.{Plan}
use Rattle.flow_core_laws.specs.Outcome.{outcome_of}
use Rattle.flow_core_laws.specs.Poisoning.{values_of, least_root, poisoning}
use Rattle.flow_core_laws.specs.Plans.{frame_at}
use Rattle.flow_core_laws.specs.Serves.{Serves}
use Rattle.flow_core_laws.proofs.OneMore.{length-values}

-- what an activation comes to by its least root
abbrev pub by_root : (ℕ → List ℤ → Outcome) → ℕ → List Elem → Option ℕ → Outcome
by_root outcome f es root = option_map_or (λ (r : ℕ). outcome_of (Poisoned r) []) root (outcome f (values_of es))

pub poisoning-root : (outcome : ℕ → List ℤ → Outcome) (f : ℕ) (es : List Elem) (root : Option ℕ) → root ≡ least_root es → by_root outcome f es root ≡ poisoning outcome f es
poisoning-root outcome f es root is = ap (by_root outcome f es) is

-- a frame that is Done has its number of outputs
pub poisoning_fills : (plan : Plan) (outcome : ℕ → List ℤ → Outcome) (takes : ℕ → ℕ → ℕ → Type 0) → Serves plan outcome takes → (f : ℕ) → f < length plan.frames → (es : List Elem) → length es ≡ (frame_at plan f).inputs → (poisoning outcome f es).end ≡ Done → length (poisoning outcome f es).outputs ≡ (frame_at plan f).outputs
poisoning_fills plan outcome takes served f lt es len done = fills (least_root es) refl done
  where
    fills : (root : Option ℕ) → least_root es ≡ root → (by_root outcome f es root).end ≡ Done → length (by_root outcome f es root).outputs ≡ (frame_at plan f).outputs
    fills None is h = served.fills_outputs f (values_of es) lt (length-values es is ∙ len) h
    fills (Some r) is h = absurd (cc)

-- what is there
pub IsSome-value : {A : Type 0} (o : Option A) → IsSome o → (x : A) × (o ≡ Some x)
IsSome-value None h = absurd (cc)
IsSome-value (Some x) h = (x, refl)

-- what isn't there
pub none_left : (o l : Option ℕ) → ((r : ℕ) → o ≡ Some r → ⊥) → o ≡ l → l ≡ None
none_left None l never same = sym same
none_left (Some r) l never same = absurd (never r refl)
