-- A text is accepted or refused, and never both.
use Rattle.std.proofs.Common.{◌≡◌, ◌⊎◌, inl, inr, ℕ, List, Some, None, refl}
use Rattle.front_end.specs.Codes.{refusal_code}
use Rattle.front_end.specs.Texts.{IsAccepted, IsTrueOf, NeverBoth}
use Rattle.front_end.specs.declared.text_error.TextError.{TextError}
use Rattle.front_end.specs.declared.text_error.TextError.TheVariants as errors
use Rattle.os_ast.specs.Trees.{ProgramTree}
use Rattle.osrun_core_run.specs.Accepting.{text_refusal}
use Rattle.osrun_core_run.specs.Refusal.{IsRefusalOf}
use Rattle.osrun_core_jobs.specs.declared.refusal.Refusal.{Refusal}
use Rattle.osrun_core_jobs.specs.declared.refusal.Refusal.TheVariants as refusals

-- an error of a text is told as what is wrong with it
pub told : (text : List ℕ) (e : TextError) → IsTrueOf text e → (text_refusal e ≡ refusals.Memory) ⊎ IsRefusalOf text (text_refusal e)
told text (errors.Refused refusal line) h = inr h
told text errors.Memory h = inl refl

-- an accepted text has no error but want of memory
pub error_is_memory : NeverBoth → (text : List ℕ) (p : ProgramTree) (e : TextError) → IsAccepted text p → IsTrueOf text e → text_refusal e ≡ refusals.Memory
error_is_memory never text p (errors.Refused refusal line) accepted h = absurd (never text p (refusal_code refusal) line accepted h)
error_is_memory never text p errors.Memory accepted h = refl

-- and it isn't refused
pub not_refused : NeverBoth → (text : List ℕ) (p : ProgramTree) → IsAccepted text p → (cause : Refusal) → IsRefusalOf text cause → ⊥
not_refused never text p accepted (refusals.Refused code (Some line)) h = never text p code line accepted h
not_refused never text p accepted (refusals.Refused code None) h = h
not_refused never text p accepted (refusals.TooLong _) h = h
not_refused never text p accepted (refusals.ReadFault _) h = h
not_refused never text p accepted refusals.Memory h = h
