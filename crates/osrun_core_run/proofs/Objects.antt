-- An object is read as its code or refused, and never both.
use Rattle.std.proofs.Common.{◌≡◌, ◌⊎◌, inl, inr, ℕ, List, Some, None, refl, subst}
use Rattle.std.specs.Prelude.{Result, Err}
use Rattle.front_end.specs.Texts.{NeverBoth}
use Rattle.os_code.specs.IsValid.{IsValid}
use Rattle.os_code.specs.declared.code.Code.{Code}
use Rattle.os_code.specs.declared.parts.Parts.{Parts}
use Rattle.os_object.specs.Answers.{IsReadAs}
use Rattle.os_object.specs.Object.{OneReading, Spells}
use Rattle.os_object.specs.declared.object_error.ObjectError.{ObjectError}
use Rattle.os_object.specs.declared.object_error.ObjectError.TheVariants as errors
use Rattle.osrun_core_jobs.specs.declared.refusal.Refusal.{Refusal}
use Rattle.osrun_core_jobs.specs.declared.refusal.Refusal.TheVariants as refusals
use Rattle.osrun_core_jobs.specs.declared.subject.Subject.TheVariants.{Input, Object, Program, Trace}
use Rattle.osrun_core_run.specs.Accepting.{object_refusal}
use Rattle.osrun_core_run.specs.Code.{IsObjectOf}
use Rattle.osrun_core_run.specs.Laws.{NeverUsableAndRefused}
use Rattle.osrun_core_run.specs.Refusal.{IsRefusalAs}
use Rattle.trace_replay_text.specs.Laws.{TracesAreTold}

-- an error of an object is told as what is wrong with it
pub object_told : (bytes : List ℕ) (e : ObjectError) → ((parts : Parts) → Spells bytes parts → IsReadAs parts (Err e))
    → (◌≡◌ {A = Result Code ObjectError} (Err e) (Err errors.Invalid) → (parts : Parts) × Spells bytes parts × (IsValid parts → ⊥))
    → (object_refusal e ≡ refusals.Memory) ⊎ IsRefusalAs Object bytes (object_refusal e)
object_told bytes errors.Format exact invalid = inr (inl (refl, exact))
object_told bytes errors.Invalid exact invalid = inr (inr (refl, invalid refl))
object_told bytes errors.Memory exact invalid = inl refl

-- the object of a valid code has no error but want of memory
pub object_error_is_memory : (bytes : List ℕ) (e : ObjectError) → ((parts : Parts) → Spells bytes parts → IsReadAs parts (Err e))
    → (parts : Parts) → IsObjectOf bytes parts → object_refusal e ≡ refusals.Memory
object_error_is_memory bytes errors.Format exact parts is = absurd (exact parts is.spelled)
object_error_is_memory bytes errors.Invalid exact parts is = absurd (exact parts is.spelled is.valid)
object_error_is_memory bytes errors.Memory exact parts is = refl

-- and it isn't refused
pub object_not_refused : OneReading → (bytes : List ℕ) (parts : Parts) → IsObjectOf bytes parts → (cause : Refusal) → IsRefusalAs Object bytes cause → ⊥
object_not_refused one bytes parts is (refusals.Refused code (Some line)) h = h
object_not_refused one bytes parts is (refusals.Refused code None) (inl h) = h.1 parts is.spelled
object_not_refused one bytes parts is (refusals.Refused code None) (inr h) =
    h.1.2 (subst IsValid (one bytes parts h.1.0 is.spelled h.1.1) is.valid)
object_not_refused one bytes parts is (refusals.TooLong _) h = h
object_not_refused one bytes parts is (refusals.ReadFault _) h = h
object_not_refused one bytes parts is refusals.Memory h = h

-- nor are the bytes of another file
pub never_both : NeverBoth → OneReading → TracesAreTold → NeverUsableAndRefused
never_both both one told Program bytes code (Some line) usable refused = both bytes usable.0 code line usable.1 refused
never_both both one told Program bytes code None usable refused = refused
never_both both one told Input bytes code line usable refused = refused
never_both both one told Object bytes code (Some line) usable refused = refused
never_both both one told Object bytes code None usable refused =
    object_not_refused one bytes usable.0 usable.1 (refusals.Refused code None) refused
never_both both one told Trace bytes code (Some line) usable refused = told.not_both bytes usable.0 line usable.1 refused.1
never_both both one told Trace bytes code None usable refused = refused
