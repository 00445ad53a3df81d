-- What makes bytes usable as a file of a job, and how they are refused.
use Rattle.std.specs.Prelude.{◌≡◌, ◌⊎◌, ℕ, List, Option, Some, None}
use Rattle.front_end.specs.Texts.{IsAccepted, IsRefused}
use Rattle.os_ast.specs.Trees.{ProgramTree}
use Rattle.os_code.specs.IsValid.{IsValid}
use Rattle.os_code.specs.declared.parts.Parts.{Parts}
use Rattle.os_object.specs.Object.{Spells}
use Rattle.osrun_core_run.specs.Code.{IsObjectOf}
use Rattle.osrun_core_jobs.specs.declared.subject.Subject.{Subject}
use Rattle.osrun_core_jobs.specs.declared.subject.Subject.TheVariants.{Program, Input, Object, Trace}
use Rattle.osrun_core_jobs.specs.declared.refusal.Refusal.{Refusal}
use Rattle.osrun_core_jobs.specs.declared.refusal.Refusal.TheVariants as refusals
use Rattle.trace_replay_text.specs.Trace.{IsFirstWrongLine, IsTraceOf}

-- Bytes are usable as such a file: those of the program are accepted as one, each input is one, an object is that of a valid
-- code, and a trace is that of the lists of some workers.
abbrev pub IsUsable : Subject → List ℕ → Type 0
IsUsable Program bytes = (p : ProgramTree) × IsAccepted bytes p
IsUsable Input bytes = Unit {0}
IsUsable Object bytes = (code : Parts) × IsObjectOf bytes code
IsUsable Trace bytes = (lists : List (List ℕ)) × IsTraceOf bytes lists

-- the code by which bytes are refused that spell no parts of a code
abbrev pub no_parts : ℕ
no_parts = 30

-- the code by which parts are refused that aren't valid
abbrev pub not_valid : ℕ
not_valid = 31

-- the code by which bytes are refused that are no trace
abbrev pub no_trace : ℕ
no_trace = 40

-- An object is refused by `no_parts` exactly where the bytes spell no parts of a code, and by `not_valid` exactly where they spell
-- parts that aren't valid.
abbrev pub IsNoObject : List ℕ → ℕ → Type 0
IsNoObject bytes code = ((code ≡ no_parts) × ((parts : Parts) → Spells bytes parts → ⊥))
    ⊎ ((code ≡ not_valid) × ((parts : Parts) × Spells bytes parts × (IsValid parts → ⊥)))

-- The bytes are refused as a file of this kind: a text by a code and a line, those of its first fault, of the place where it stops being the
-- front of a program, or of its least violation. No input is refused. An object is refused by a code alone. A trace
-- is refused by `no_trace` and its first line that isn't a trace's.
abbrev pub IsUnusable : Subject → List ℕ → ℕ → Option ℕ → Type 0
IsUnusable Program bytes code (Some line) = IsRefused bytes code line
IsUnusable Program bytes code None = ⊥
IsUnusable Input bytes code line = ⊥
IsUnusable Object bytes code (Some line) = ⊥
IsUnusable Object bytes code None = IsNoObject bytes code
IsUnusable Trace bytes code (Some line) = (code ≡ no_trace) × IsFirstWrongLine bytes line
IsUnusable Trace bytes code None = ⊥

-- this refusal is a right one for the bytes of such a file
abbrev pub IsRefusalAs : Subject → List ℕ → Refusal → Type 0
IsRefusalAs subject bytes (refusals.Refused code line) = IsUnusable subject bytes code line
IsRefusalAs _ bytes (refusals.TooLong other) = ⊥
IsRefusalAs _ bytes (refusals.ReadFault other) = ⊥
IsRefusalAs _ bytes refusals.Memory = ⊥

-- this refusal is a right one for the text of a program
abbrev pub IsRefusalOf : List ℕ → Refusal → Type 0
IsRefusalOf text refusal = IsRefusalAs Program text refusal
