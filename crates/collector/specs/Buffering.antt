-- What a sink takes of a text that goes through a line buffer. A sink is seen by the members that its trait declares.
use Rattle.std.specs.Prelude.{◌≡◌, ◌≢◌, ◌≤◌, ℕ, List, ◌++◌, Result, OnOk, IfErr}
use Rattle.std.specs.Io.KnownBytes.{append_known}
use Rattle.os_io.specs.Counts.{HasRisen}
use Rattle.os_io.specs.Writing.{TookProperPrefix}
use Rattle.os_io.specs.declared.sink.Sink.{Ghosts as SinkView}
use Rattle.os_io.specs.declared.writing.WriteError.{WriteError}
use Rattle.os_io.specs.declared.writing.WriteError.TheVariants.{Failed, Stuck}

-- A text went on behind what the buffer held: the sink took a front of both, and the buffer keeps the rest.
pub record WentOn {S : Type 0} (view : SinkView S) (old new : S) (held kept text : List ℕ) : Type 0 where
  pub sent : List ℕ
  pub taken : view.taken new ≡ append_known (view.taken old) sent
  pub all : held ++ text ≡ sent ++ kept
  pub no_fault : view.faults new ≡ view.faults old
  pub not_stuck : view.empty_takes new ≡ view.empty_takes old

-- A text broke off: the sink took a front of what was held and of the text, and not all, for a cause of
-- its own.
pub record BrokeOff {S : Type 0} (view : SinkView S) (old new : S) (held text : List ℕ) (error : WriteError) : Type 0 where
  pub front : TookProperPrefix (view.taken old) (view.taken new) (held ++ text)
  pub failed : error ≡ Failed → HasRisen (view.faults old) (view.faults new)
  pub stuck : error ≡ Stuck → HasRisen (view.empty_takes old) (view.empty_takes new)
  pub no_fault : error ≢ Failed → view.faults new ≡ view.faults old
  pub not_stuck : error ≢ Stuck → view.empty_takes new ≡ view.empty_takes old
  pub faults_kept : view.faults old ≤ view.faults new
  pub empty_takes_kept : view.empty_takes old ≤ view.empty_takes new

-- A text goes on, or breaks off.
pub record GoesOn {S T : Type 0} (view : SinkView S) (old new : S) (held kept text : List ℕ) (result : Result T WriteError) : Type 0 where
  pub ok : OnOk result (WentOn view old new held kept text)
  pub err : IfErr result (λ error. BrokeOff view old new held text error)
