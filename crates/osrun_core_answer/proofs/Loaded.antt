-- What loading one file says of it.
use Rattle.std.proofs.Common.{◌≡◌, ◌⊎◌, inl, inr, ℕ, ◌≤◌, List, ap, arith}
use Rattle.std.specs.Prelude.{◌≢◌}
use Rattle.os_io.specs.Counts.{raised}
use Rattle.os_io.specs.declared.files.Files.{Ghosts as FilesView}
use Rattle.osrun_core_jobs.specs.Files.{JobFile}
use Rattle.osrun_core_jobs.specs.FileLoad.{IsLoaded, IsLoadRefusal}
use Rattle.osrun_core_jobs.specs.Reading.{IsFailed, IsLeft, Opened, WasRead}
use Rattle.osrun_core_jobs.specs.Refusal.{refusal_status}
use Rattle.osrun_core_jobs.specs.Status.{status_code}
use Rattle.osrun_core_jobs.specs.declared.refusal.Refusal.{Refusal}
use Rattle.osrun_core_jobs.specs.declared.refusal.Refusal.TheVariants as refusals
use Rattle.osrun_core_jobs.specs.declared.status.Status.TheVariants as statuses
use Rattle.osrun_core_jobs.specs.declared.subject.Subject.{Subject}
use Rattle.osrun_core_run.specs.Refusal.{IsRefusalAs, IsUnusable, IsUsable}

module _ {F : Type 0} (view : FilesView F) (old new : F) (subject : Subject) (name : List ℕ) where
  -- why a file could not be loaded
  pub not_loaded : (r : Refusal) → IsLoadRefusal view old new subject name r → (refusal_status r ≢ statuses.ReadFault → view.faults new ≡ view.faults old)
      → IsFailed IsUnusable view old new (record { subject = subject; name = name }) r
  not_loaded (refusals.TooLong s) h none = record {
    named = h.0;
    too_many = h.1;
    held = h.2;
    no_fault = none (λ e. let n : 4 ≡ 5 = ap status_code e in omega arith);
  }
  not_loaded (refusals.ReadFault s) h none = record { named = h.0; within = h.1; fault = h.2 }
  not_loaded refusals.Memory h none = tt
  not_loaded (refusals.Refused code line) h none = absurd h

  -- a file that was loaded and is usable was read
  pub was_read : (bytes : List ℕ) → IsLoaded view old new subject name bytes → IsUsable subject bytes → view.opens new ≡ raised (view.opens old) 1
      → view.faults new ≡ view.faults old → view.holds new ≡ view.holds old → view.may new ≡ view.may old
      → WasRead IsUsable view old new (record { subject = subject; name = name }) bytes
  was_read bytes loaded usable opened faults holds may = record {
    opened = opened;
    whole = loaded.whole;
    at_end = loaded.at_end;
    read = loaded.read;
    is_usable = usable;
    no_fault = faults;
    holds_kept = holds;
    may_kept = may;
  }

-- why a file that was loaded was refused
pub refused_bytes : {F : Type 0} (view : FilesView F) (old new : F) (subject : Subject) (name text : List ℕ) (r : Refusal)
    → IsLoaded view old new subject name text → view.faults new ≡ view.faults old → (r ≡ refusals.Memory) ⊎ IsRefusalAs subject text r
    → IsFailed IsUnusable view old new (record { subject = subject; name = name }) r
refused_bytes view old new subject name text refusals.Memory loaded faults why = tt
refused_bytes view old new subject name text (refusals.Refused code line) loaded faults (inl is) =
    absurd (let n : 3 ≡ 7 = ap (λ r. status_code (refusal_status r)) is in omega arith)
refused_bytes view old new subject name text (refusals.Refused code line) loaded faults (inr why) = record {
  bytes = text;
  read = loaded.read;
  whole = loaded.whole;
  at_end = loaded.at_end;
  refused = why;
  no_fault = faults;
}
refused_bytes view old new subject name text (refusals.TooLong s) loaded faults (inl is) =
    absurd (let n : 4 ≡ 7 = ap (λ r. status_code (refusal_status r)) is in omega arith)
refused_bytes view old new subject name text (refusals.TooLong s) loaded faults (inr why) = absurd why
refused_bytes view old new subject name text (refusals.ReadFault s) loaded faults (inl is) =
    absurd (let n : 5 ≡ 7 = ap (λ r. status_code (refusal_status r)) is in omega arith)
refused_bytes view old new subject name text (refusals.ReadFault s) loaded faults (inr why) = absurd why

-- one more file was opened
pub opened_so : {F : Type 0} (view : FilesView F) (old new : F) (file : JobFile) → view.opens new ≡ raised (view.opens old) 1
    → IsLeft view old new file.name → view.faults old ≤ view.faults new
    → view.holds new ≡ view.holds old → view.may new ≡ view.may old → Opened view old new file
opened_so view old new file opened left faults holds may =
    record { opened = opened; left = left; faults_kept = faults; holds_kept = holds; may_kept = may }
