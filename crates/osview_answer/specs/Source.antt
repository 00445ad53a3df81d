-- What calls on the way of a report answer.
use Rattle.std.specs.Prelude.{◌≤◌, ℕ, List, [], ◌∷◌, MatchResult, Result, length}
use Rattle.std.specs.Option.{option_map_or}
use Rattle.flow_core_laws.specs.Limits.{input_limit}
use Rattle.flow_core_laws.specs.declared.activation.Activation.{Activation}
use Rattle.front_end.specs.Texts.{IsAccepted}
use Rattle.os_ast.specs.Views.{program_tree}
use Rattle.os_code.specs.Codes.{parts_of}
use Rattle.os_code.specs.Parts.{site_at}
use Rattle.os_code.specs.declared.parts.Parts.{Parts}
use Rattle.os_code.specs.declared.site.Site.{Site}
use Rattle.os_io.specs.declared.files.Files.{Ghosts as FilesView}
use Rattle.os_lexer.specs.Limits.{text_limit}
use Rattle.osrun_core_answer.specs.Made.{IsUnmadeOf}
use Rattle.osrun_core_jobs.specs.Files.{files_of}
use Rattle.osrun_core_jobs.specs.Jobs.{Job, Run}
use Rattle.osrun_core_jobs.specs.Reading.{IsFailed, Opened, WasRead, WereRead}
use Rattle.osrun_core_jobs.specs.Status.{status_code}
use Rattle.osrun_core_jobs.specs.declared.refusal.Refusal.{Refusal}
use Rattle.osrun_core_jobs.specs.declared.subject.Subject.TheVariants as subjects
use Rattle.osrun_core_run.specs.Code.{IsCodeOf}
use Rattle.osrun_core_run.specs.Refusal.{IsUnusable, IsUsable}
use Rattle.osview_answer.specs.Answers.{IsReportMade}
use Rattle.osview_answer.specs.declared.source.RunFiles.{RunFiles}
use Rattle.osview_answer.specs.declared.source.Source.{Source}
use Rattle.osview_answer.specs.declared.telling.RunAnswer.{RunAnswer}

-- the line of an activation's site
abbrev pub site_line : Parts → Activation → ℕ
site_line code a = option_map_or (λ (s : Site). s.line) (site_at code a.site) 0

-- the text is accepted as the program, and the code is one of it
pub record IsSource (source : Source) : Type 0 where
  pub accepted : IsAccepted source.text.items (program_tree source.checked.program)
  pub is_code : IsCodeOf (parts_of source.code) (program_tree source.checked.program)
  pub few : length source.text.items ≤ text_limit

-- a program was read and compiled, or it was opened and is the cause
abbrev pub ReadsSource : {F : Type 0} → FilesView F → F → F → List ℕ → Result Source Refusal → Type 0
ReadsSource view old new name result = MatchResult result
    (λ source. WasRead IsUsable view old new (record { subject = subjects.Program; name = name }) source.text.items × IsSource source)
    (λ refusal. Opened view old new (record { subject = subjects.Program; name = name })
    × IsFailed IsUnusable view old new (record { subject = subjects.Program; name = name }) refusal)

-- Both files of a run were read, and the source is that of the first one.
pub record AreReadOf {F : Type 0} (view : FilesView F) (old new : F) (job : Job) (files : RunFiles) : Type 0 where
  pub read : WereRead IsUsable view old new (files_of (Run job)) (files.source.text.items ∷ files.input.items ∷ [])
  pub is_source : IsSource files.source
  pub few : length files.input.items ≤ input_limit

-- both files of a run were read, or one of them is the cause, or memory ran out
abbrev pub ReadsRun : {F : Type 0} → FilesView F → F → F → Job → Result RunFiles Refusal → Type 0
ReadsRun view old new job result = MatchResult result (AreReadOf view old new job) (IsUnmadeOf view old new (files_of (Run job)))

-- both files were read and the run is told, or one of the files is the cause, or memory ran out
abbrev pub Makes : {F : Type 0} → FilesView F → F → F → Job → Result RunAnswer Refusal → Type 0
Makes view old new job result = MatchResult result
    (λ told. IsReportMade view old new job told.text.items (status_code told.status)) (IsUnmadeOf view old new (files_of (Run job)))
