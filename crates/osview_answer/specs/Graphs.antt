-- What calls on the way of a graph answer.
use Rattle.std.specs.Prelude.{ℕ, List, MatchResult, Result, map}
use Rattle.os_code.specs.declared.parts.Parts.{Parts}
use Rattle.os_code.specs.declared.site.Site.{Site}
use Rattle.os_io.specs.declared.files.Files.{Ghosts as FilesView}
use Rattle.osrun_core_answer.specs.Made.{IsUnmadeOf}
use Rattle.osrun_core_jobs.specs.Files.{files_of}
use Rattle.osrun_core_jobs.specs.Jobs.{Job, Run}
use Rattle.osrun_core_jobs.specs.Status.{status_code}
use Rattle.osrun_core_jobs.specs.declared.refusal.Refusal.{Refusal}
use Rattle.osview_answer.specs.AnswersGraph.{IsGraphMade}
use Rattle.osview_answer.specs.declared.telling.RunAnswer.{RunAnswer}
use Rattle.osview_graph.specs.declared.drawn.GraphChoice.{GraphChoice}

-- the lines of the sites of a code
abbrev pub site_lines : Parts → List ℕ
site_lines code = map (λ (s : Site). s.line) code.sites

-- both files were read and the graph is drawn, or one of the files is the cause, or memory ran out
abbrev pub MakesGraph : {F : Type 0} → FilesView F → F → F → Job → GraphChoice → Result RunAnswer Refusal → Type 0
MakesGraph of_files old new job view result = MatchResult result
    (λ told. IsGraphMade of_files old new job view told.text.items (status_code told.status)) (IsUnmadeOf of_files old new (files_of (Run job)))
