-- What reading the files of a job one after the other says of it.
use Rattle.std.proofs.Common.{◌≡◌, inl, inr, ℕ, ◌+◌, ◌≤◌, Bool, true, List, [], ◌∷◌, IsTrue, refl, subst, arith}
use Rattle.std.proofs.lemmas.Bool.{cases_lt}
use Rattle.os_io.specs.Counts.{raised, last_count}
use Rattle.os_io.specs.declared.files.Files.{Ghosts as FilesView}
use Rattle.osrun_core_answer.specs.Made.{IsUnmadeOf}
use Rattle.osrun_core_jobs.specs.Files.{JobFile, MayOpen}
use Rattle.osrun_core_jobs.specs.Reading.{IsFailed, Opened, WasRead, WereRead}
use Rattle.osrun_core_jobs.specs.declared.refusal.Refusal.{Refusal}
use Rattle.osrun_core_jobs.specs.declared.refusal.Refusal.TheVariants as refusals
use Rattle.osrun_core_jobs.specs.declared.subject.Subject.TheVariants as subjects
use Rattle.osrun_core_run.specs.Refusal.{IsUnusable, IsUsable}

-- the files of a job, by their names
abbrev pub program_file : List ℕ → JobFile
program_file name = record { subject = subjects.Program; name = name }

abbrev pub object_file : List ℕ → JobFile
object_file name = record { subject = subjects.Object; name = name }

abbrev pub input_file : List ℕ → JobFile
input_file name = record { subject = subjects.Input; name = name }

abbrev pub trace_file : List ℕ → JobFile
trace_file name = record { subject = subjects.Trace; name = name }

-- every name is allowed from the last value of the count of openings on
abbrev MayAtLast : (ℕ → List ℕ → Bool) → Type 0
MayAtLast may = (number : ℕ) (name : List ℕ) → last_count ≤ number → may number name ≡ true

-- the first file's opening is allowed
pub may_open_first : (may : ℕ → List ℕ → Bool) (opens : ℕ) (first : JobFile) (rest : List JobFile) → MayAtLast may → MayOpen may opens (first ∷ rest)
    → IsTrue (may opens first.name)
may_open_first may opens first rest last allowed = elim (cases_lt opens last_count) [
  | inl below ↦ let same : opens + 0 ≡ opens = omega arith in subst (λ n. IsTrue (may n first.name)) same (allowed 0 first refl (omega (arith, below)))
  | inr past ↦ last opens first.name past
]

-- the second one's is, after it
pub may_open_second : (may : ℕ → List ℕ → Bool) (opens : ℕ) (first second : JobFile) (rest : List JobFile) → MayAtLast may
    → MayOpen may opens (first ∷ second ∷ rest) → IsTrue (may (raised opens 1) second.name)
may_open_second may opens first second rest last allowed = elim (cases_lt opens last_count) [
  | inl below ↦ let next : opens + 1 ≡ raised opens 1 = omega arith in subst (λ n. IsTrue (may n second.name)) next (allowed 1 second refl (omega arith))
  | inr past ↦ let stands : last_count ≡ raised opens 1 = omega arith in subst (λ n. IsTrue (may n second.name)) stands (last last_count second.name (omega arith))
]

-- the third one's is, after both
pub may_open_third : (may : ℕ → List ℕ → Bool) (opens : ℕ) (first second third : JobFile) (rest : List JobFile) → MayAtLast may
    → MayOpen may opens (first ∷ second ∷ third ∷ rest) → IsTrue (may (raised (raised opens 1) 1) third.name)
may_open_third may opens first second third rest last allowed = elim (cases_lt (opens + 1) last_count) [
  | inl below ↦ let next : opens + 2 ≡ raised (raised opens 1) 1 = omega arith in subst (λ n. IsTrue (may n third.name)) next (allowed 2 third refl (omega arith))
  | inr past ↦ let stands : last_count ≡ raised (raised opens 1) 1 = omega arith in subst (λ n. IsTrue (may n third.name)) stands (last last_count third.name (omega arith))
]

module _ {F : Type 0} (view : FilesView F) (first : JobFile) where
  -- the first file is the cause
  pub cause_of_first : (rest : List JobFile) (old new : F) (r : Refusal) → Opened view old new first → IsFailed IsUnusable view old new first r
      → IsUnmadeOf view old new (first ∷ rest) r
  cause_of_first rest old new r opened failed = inl (record {
    place = 0;
    file = first;
    ended = record { is_there = refl; contents = []; before = old; earlier = refl; last = opened };
    failed = failed;
  })

  -- it is the only one, and was read
  pub one_read : (old new : F) (text : List ℕ) → WasRead IsUsable view old new first text → WereRead IsUsable view old new (first ∷ []) (text ∷ [])
  one_read old new text of_first = (new, of_first, refl)

  -- it was read, and then memory was wanted
  pub memory_wanted_after_one : (old new : F) (text : List ℕ) (r : Refusal) → r ≡ refusals.Memory → WasRead IsUsable view old new first text
      → IsUnmadeOf view old new (first ∷ []) r
  memory_wanted_after_one old new text r is of_first = inr (is, inr (inl (text ∷ [], one_read old new text of_first)))

module _ {F : Type 0} (view : FilesView F) (first second : JobFile) where
  -- the second file is the cause, after the first one was read
  pub cause_of_second : (rest : List JobFile) (old between new : F) (text : List ℕ) (r : Refusal) → WasRead IsUsable view old between first text
      → Opened view between new second → IsFailed IsUnusable view between new second r → IsUnmadeOf view old new (first ∷ second ∷ rest) r
  cause_of_second rest old between new text r read opened failed = inl (record {
    place = 1;
    file = second;
    ended = record { is_there = refl; contents = text ∷ []; before = between; earlier = (between, read, refl); last = opened };
    failed = failed;
  })

  -- both were read
  pub both_read : (old between new : F) (text input : List ℕ) → WasRead IsUsable view old between first text
      → WasRead IsUsable view between new second input → WereRead IsUsable view old new (first ∷ second ∷ []) (text ∷ input ∷ [])
  both_read old between new text input of_first of_second = (between, of_first, (new, of_second, refl))

  -- both were read, and then memory was wanted
  pub memory_wanted : (old between new : F) (text input : List ℕ) (r : Refusal) → r ≡ refusals.Memory → WasRead IsUsable view old between first text
      → WasRead IsUsable view between new second input → IsUnmadeOf view old new (first ∷ second ∷ []) r
  memory_wanted old between new text input r is of_first of_second =
      inr (is, inr (inl (text ∷ input ∷ [], both_read old between new text input of_first of_second)))

module _ {F : Type 0} (view : FilesView F) (first second third : JobFile) where
  -- the third file is the cause, after the others were read
  pub cause_of_third : (old between later new : F) (text input : List ℕ) (r : Refusal) → WasRead IsUsable view old between first text
      → WasRead IsUsable view between later second input → Opened view later new third → IsFailed IsUnusable view later new third r
      → IsUnmadeOf view old new (first ∷ second ∷ third ∷ []) r
  cause_of_third old between later new text input r of_first of_second opened failed = inl (record {
    place = 2;
    file = third;
    ended = record { is_there = refl; contents = text ∷ input ∷ []; before = later; earlier = (between, of_first, (later, of_second, refl)); last = opened };
    failed = failed;
  })

  -- all three were read
  pub all_read : (old between later new : F) (text input told : List ℕ) → WasRead IsUsable view old between first text
      → WasRead IsUsable view between later second input → WasRead IsUsable view later new third told
      → WereRead IsUsable view old new (first ∷ second ∷ third ∷ []) (text ∷ input ∷ told ∷ [])
  all_read old between later new text input told of_first of_second of_third = (between, of_first, (later, of_second, (new, of_third, refl)))

  -- all three were read, and then memory was wanted
  pub memory_wanted_after_three : (old between later new : F) (text input told : List ℕ) (r : Refusal) → r ≡ refusals.Memory
      → WasRead IsUsable view old between first text → WasRead IsUsable view between later second input → WasRead IsUsable view later new third told
      → IsUnmadeOf view old new (first ∷ second ∷ third ∷ []) r
  memory_wanted_after_three old between later new text input told r is of_first of_second of_third =
      inr (is, inr (inl (text ∷ input ∷ told ∷ [], all_read old between later new text input told of_first of_second of_third)))
