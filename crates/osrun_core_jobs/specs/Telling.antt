-- What a sink has taken of a text. A sink is seen by the members that its trait declares, each by its name: the bytes taken so
-- far, where that is told, and its numbers of faults and of calls that took nothing of a piece that wasn't empty.
use Rattle.std.specs.Prelude.{◌≡◌, ℕ, List, [], ◌⊎◌, MatchResult, Result}
use Rattle.std.specs.Io.KnownBytes.{append_known}
use Rattle.os_io.specs.Counts.{HasRisen}
use Rattle.os_io.specs.Writing.{TookProperPrefix}
use Rattle.os_io.specs.declared.sink.Sink.{Ghosts as SinkView}
use Rattle.os_io.specs.declared.writing.WriteError.{WriteError}

-- the sink took the whole text and nothing else, without a fault, and something of each piece
abbrev pub Took : {S : Type 0} → SinkView S → S → S → List ℕ → Type 0
Took view old new text =
    (view.taken new ≡ append_known (view.taken old) text) × (view.faults new ≡ view.faults old) × (view.empty_takes new ≡ view.empty_takes old)

-- the sink failed, or it took nothing of a piece that wasn't empty
abbrev pub HasTrouble : {S : Type 0} → SinkView S → S → S → Type 0
HasTrouble view old new =
    HasRisen (view.faults old) (view.faults new) ⊎ HasRisen (view.empty_takes old) (view.empty_takes new)

-- the sink took a front of the text and not all of it, for a cause of its own
pub record IsCutShort {S : Type 0} (view : SinkView S) (old new : S) (text : List ℕ) : Type 0 where
  pub front : TookProperPrefix (view.taken old) (view.taken new) text
  pub trouble : HasTrouble view old new

-- writing the text was answered so: the sink took it, or a front of it for a cause of its own
abbrev pub IsWritten : {S T : Type 0} → SinkView S → S → S → List ℕ → Result T WriteError → Type 0
IsWritten view old new text result =
    MatchResult result (λ _. Took view old new text) (λ _. IsCutShort view old new text)

-- the sink took the lines; where there are none it was not asked
pub record TookLines {S : Type 0} (view : SinkView S) (old new : S) (text : List ℕ) : Type 0 where
  pub took : Took view old new text
  pub nothing : text ≡ [] → new ≡ old

-- the sink took the text, or a front of it for a cause of its own
abbrev pub Tells : {S : Type 0} → SinkView S → S → S → List ℕ → Type 0
Tells view old new text = Took view old new text ⊎ IsCutShort view old new text

-- Either the output was cut short and the report is as it was, or the output was written and the report was
-- cut short, for a cause of the sink that did not take all.
abbrev pub IsUndelivered : {O E : Type 0} → SinkView O → O → O → List ℕ → SinkView E → E → E → List ℕ → Type 0
IsUndelivered of_out out_old out_new output_bytes of_report report_old report_new report_bytes =
    (IsCutShort of_out out_old out_new output_bytes × (report_new ≡ report_old))
    ⊎ (Took of_out out_old out_new output_bytes × IsCutShort of_report report_old report_new report_bytes)
