-- What holds of every run of a job holds of the one that words name.
use Rattle.std.proofs.Common.{◌≡◌, ℕ, List, Option, Some, None, IfSome, subst, arith}
use Rattle.std.specs.Prelude.{IsSomeAnd, option_and_then}
use Rattle.osrun_core.specs.Codes.{IsRunOfObject}
use Rattle.osrun_core.specs.Lines.{IsLineOfJob}
use Rattle.osrun_core.specs.Traces.{replayed_run}
use Rattle.osrun_core_jobs.specs.Jobs.{Compile, Exec, Explain, Gen, IsRequestWithin, Replay, Request, Run, Trace, exec_in, explain_in, replay_in, run_in, trace_in}
use Rattle.osrun_core_laws.specs.Chains.{IsChainOfJob, LinesTellChains, OfObjectRunsWithin, OfRunsWithin}
use Rattle.osrun_core_run.specs.Run.{IsRunOfJob, ProgramRun}

module _ (holds : List ℕ → Option (List ℕ)) where
  pub of_run : (fact : ProgramRun → Type 0) → OfRunsWithin fact → (asked : Option Request) → IsSomeAnd asked IsRequestWithin
      → IfSome (option_and_then run_in asked) (λ job. (run : ProgramRun) → IsRunOfJob holds job run → fact run)
  of_run fact law None within = tt
  of_run fact law (Some (Run job)) within = λ run is. law holds job run within is
  of_run fact law (Some (Gen job)) within = tt
  of_run fact law (Some (Compile job)) within = tt
  of_run fact law (Some (Exec job)) within = tt
  of_run fact law (Some (Explain job)) within = tt
  of_run fact law (Some (Trace job)) within = tt
  of_run fact law (Some (Replay job)) within = tt

  pub of_exec : (fact : ProgramRun → Type 0) → OfObjectRunsWithin fact → (asked : Option Request) → IsSomeAnd asked IsRequestWithin
      → IfSome (option_and_then exec_in asked) (λ job. (run : ProgramRun) → IsRunOfObject holds job run → fact run)
  of_exec fact law None within = tt
  of_exec fact law (Some (Run job)) within = tt
  of_exec fact law (Some (Gen job)) within = tt
  of_exec fact law (Some (Compile job)) within = tt
  of_exec fact law (Some (Exec job)) within = λ run is. law holds job run within is
  of_exec fact law (Some (Explain job)) within = tt
  of_exec fact law (Some (Trace job)) within = tt
  of_exec fact law (Some (Replay job)) within = tt

  pub of_trace : (fact : ProgramRun → Type 0) → OfRunsWithin fact → (asked : Option Request) → IsSomeAnd asked IsRequestWithin
      → IfSome (option_and_then trace_in asked) (λ job. (run : ProgramRun) → IsRunOfJob holds job run → fact run)
  of_trace fact law None within = tt
  of_trace fact law (Some (Run job)) within = tt
  of_trace fact law (Some (Gen job)) within = tt
  of_trace fact law (Some (Compile job)) within = tt
  of_trace fact law (Some (Exec job)) within = tt
  of_trace fact law (Some (Explain job)) within = tt
  of_trace fact law (Some (Trace job)) within = λ run is. law holds job run within is
  of_trace fact law (Some (Replay job)) within = tt

  -- one worker's run, since a replay has no number of workers
  pub of_replay : (fact : ProgramRun → Type 0) → OfRunsWithin fact → (asked : Option Request) → IsSomeAnd asked IsRequestWithin
      → IfSome (option_and_then replay_in asked) (λ job. (run : ProgramRun) → IsRunOfJob holds (replayed_run job) run → fact run)
  of_replay fact law None within = tt
  of_replay fact law (Some (Run job)) within = tt
  of_replay fact law (Some (Gen job)) within = tt
  of_replay fact law (Some (Compile job)) within = tt
  of_replay fact law (Some (Exec job)) within = tt
  of_replay fact law (Some (Explain job)) within = tt
  of_replay fact law (Some (Trace job)) within = tt
  of_replay fact law (Some (Replay job)) within = λ run is.
      law holds (replayed_run job) run
      (record { some_workers = omega arith; few_workers = omega arith; task_turns = within.task_turns; control_turns = within.control_turns }) is

  pub of_explain : (given status : ℕ) (took : List ℕ → Type 0) (stays : Type 0) → LinesTellChains → (asked : Option Request) → status ≡ 0
      → IsSomeAnd asked IsRequestWithin
      → IfSome (option_and_then explain_in asked) (λ job. (line : List ℕ) × IsLineOfJob holds job given line status × took line × stays)
      → IfSome (option_and_then explain_in asked) (λ job. (line : List ℕ) × IsChainOfJob holds job given line × took line × stays)
  of_explain given status took stays law None zero_is within told = tt
  of_explain given status took stays law (Some (Run job)) zero_is within told = tt
  of_explain given status took stays law (Some (Gen job)) zero_is within told = tt
  of_explain given status took stays law (Some (Compile job)) zero_is within told = tt
  of_explain given status took stays law (Some (Exec job)) zero_is within told = tt
  of_explain given status took stays law (Some (Explain job)) zero_is within told =
      let (line, is, taken, kept) = told in
      (line, law holds job given line within (subst (IsLineOfJob holds job given line) zero_is is), taken, kept)
  of_explain given status took stays law (Some (Trace job)) zero_is within told = tt
  of_explain given status took stays law (Some (Replay job)) zero_is within told = tt
