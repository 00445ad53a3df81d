-- What the record of an answer comes to, status by status.
use Rattle.std.proofs.Common.{◌≡◌, ◌≢◌, ◌∙◌, ◌⊎◌, inl, inr, subst, ℕ, zero, suc, ◌+◌, ◌<◌, ◌≤◌, List, [], ◌∷◌, Bool, true, false, if◌then◌else◌, Option, Some, None, All, IfSome, refl, sym, ap, arith, length, slice_get, take}
use Rattle.std.specs.Prelude.{IsSome, IsSomeAnd, option_and_then}
use Rattle.std.specs.Io.KnownBytes.{append_known}
use Rattle.std.proofs.lemmas.Bool.{cases_lt}
use Rattle.std.proofs.lemmas.List.Elements.{All-nil, All-cons, All-get_or}
use Rattle.std.proofs.lemmas.Option.{get_or_from_slice_get, same_Some, slice_get_within}
use Rattle.collector.specs.Report.{report as report_of}
use Rattle.collector.specs.Status.{status as status_of}
use Rattle.collector.specs.Written.{written}
use Rattle.flow_core_laws.specs.declared.control.Control.{Control}
use Rattle.flow_core_laws.specs.declared.control.ControlEnd.{ControlEnd}
use Rattle.flow_core_laws.specs.declared.ends.Ends.{Ends}
use Rattle.flow_core_laws.specs.declared.plan.Plan.{Plan}
use Rattle.flow_core_laws.specs.declared.task_end.TaskEnd.{TaskEnd}
use Rattle.os_ast.specs.Trees.{ProgramTree}
use Rattle.os_io.specs.Counts.{HasRisen, last_count, raised}
use Rattle.os_io.specs.declared.files.Files.{Ghosts as FilesView}
use Rattle.os_io.specs.declared.sink.Sink.{Ghosts as SinkView}
use Rattle.osrun_core.specs.Codes.{IsObjectOfJob, IsRunOfObject}
use Rattle.osrun_core.specs.Lines.{IsLineOfJob}
use Rattle.osrun_core.specs.Read.{IsRead}
use Rattle.osrun_core.specs.Traces.{AreListsOfJob, IsLineOfReplay, IsRunByTrace, IsTraceOfJob}
use Rattle.osrun_core_answer.specs.Answers.{AnswersRequest, HasCause, IsCut, IsGiven, IsMade, IsNotReplayed, IsFileRefused, IsUnasked, IsUnmade, asked_files}
use Rattle.osrun_core_answer.proofs.Findings.{small_status}
use Rattle.osrun_core_answer.specs.Gen.{IsRunOfGen, gen_lines}
use Rattle.osrun_core_answer.specs.JobOutcome.{GivesReplay, GivesRun, IsOutcome, IsOutcomeOfCompile, IsOutcomeOfExec, IsOutcomeOfExplain, IsOutcomeOfGen, IsOutcomeOfReplay, IsOutcomeOfRun, IsOutcomeOfTrace, JobOutcome, replay_budgets}
use Rattle.osrun_core_jobs.specs.Files.{AreBytesOf, JobFile, files_of, limit_of}
use Rattle.osrun_core_jobs.specs.Jobs.{Compile, CompileJob, Exec, ExecJob, Explain, ExplainJob, Gen, GenJob, IsRequestWithin, Job, Replay, ReplayJob, Request, Run, Trace, compile_in, exec_in, explain_in, gen_in, replay_in, run_in, trace_in}
use Rattle.osrun_core_jobs.specs.Reading.{EndedAt, IsCauseOf, IsFailed, IsReadable, IsRejected, ReadsInOrder, WereRead}
use Rattle.osrun_core_jobs.specs.Refusal.{refusal_line, refusal_status, usage_line}
use Rattle.osrun_core_jobs.specs.Status.{status_code}
use Rattle.osrun_core_jobs.specs.Telling.{HasTrouble, IsCutShort, IsUndelivered, Tells}
use Rattle.osrun_core_jobs.specs.declared.refusal.Refusal.{Refusal}
use Rattle.osrun_core_jobs.specs.declared.refusal.Refusal.TheVariants as refusals
use Rattle.osrun_core_jobs.specs.declared.status.Status.{Status}
use Rattle.osrun_core_jobs.specs.declared.status.Status.TheVariants as statuses
use Rattle.osrun_core_jobs.specs.declared.subject.Subject.TheVariants as subjects
use Rattle.osrun_core_run.specs.Refusal.{IsUnusable, IsUsable}
use Rattle.osrun_core_run.specs.Laws.{NeverUsableAndRefused}
use Rattle.osrun_core_run.specs.Replay.{IsReplayOf}
use Rattle.osrun_core_run.specs.ReplayLine.{IsReplayLine}
use Rattle.osrun_core_run.specs.Run.{ProgramRun, IsRunOfJob, ends_over}
use Rattle.trace_replay_laws.specs.declared.replayed.Replayed.{Replayed}
use Rattle.trace_replay_laws.specs.declared.replayed.Replayed.TheVariants as replayed

-- ---- what is asked for

-- what holds wherever this run is asked for
on_run : (asked : Option Request) (P : Job → Type 0) → ((job : Job) → asked ≡ Some (Run job) → P job) → IfSome (option_and_then run_in asked) P
on_run None P f = tt
on_run (Some (Run job)) P f = f job refl
on_run (Some (Gen job)) P f = tt
on_run (Some (Compile job)) P f = tt
on_run (Some (Exec job)) P f = tt
on_run (Some (Explain job)) P f = tt
on_run (Some (Trace job)) P f = tt
on_run (Some (Replay job)) P f = tt

on_gen : (asked : Option Request) (P : GenJob → Type 0) → ((job : GenJob) → asked ≡ Some (Gen job) → P job) → IfSome (option_and_then gen_in asked) P
on_gen None P f = tt
on_gen (Some (Run job)) P f = tt
on_gen (Some (Gen job)) P f = f job refl
on_gen (Some (Compile job)) P f = tt
on_gen (Some (Exec job)) P f = tt
on_gen (Some (Explain job)) P f = tt
on_gen (Some (Trace job)) P f = tt
on_gen (Some (Replay job)) P f = tt

on_compile : (asked : Option Request) (P : CompileJob → Type 0) → ((job : CompileJob) → asked ≡ Some (Compile job) → P job) → IfSome (option_and_then compile_in asked) P
on_compile None P f = tt
on_compile (Some (Run job)) P f = tt
on_compile (Some (Gen job)) P f = tt
on_compile (Some (Compile job)) P f = f job refl
on_compile (Some (Exec job)) P f = tt
on_compile (Some (Explain job)) P f = tt
on_compile (Some (Trace job)) P f = tt
on_compile (Some (Replay job)) P f = tt

on_exec : (asked : Option Request) (P : ExecJob → Type 0) → ((job : ExecJob) → asked ≡ Some (Exec job) → P job) → IfSome (option_and_then exec_in asked) P
on_exec None P f = tt
on_exec (Some (Run job)) P f = tt
on_exec (Some (Gen job)) P f = tt
on_exec (Some (Compile job)) P f = tt
on_exec (Some (Exec job)) P f = f job refl
on_exec (Some (Explain job)) P f = tt
on_exec (Some (Trace job)) P f = tt
on_exec (Some (Replay job)) P f = tt

on_explain : (asked : Option Request) (P : ExplainJob → Type 0) → ((job : ExplainJob) → asked ≡ Some (Explain job) → P job) → IfSome (option_and_then explain_in asked) P
on_explain None P f = tt
on_explain (Some (Run job)) P f = tt
on_explain (Some (Gen job)) P f = tt
on_explain (Some (Compile job)) P f = tt
on_explain (Some (Exec job)) P f = tt
on_explain (Some (Explain job)) P f = f job refl
on_explain (Some (Trace job)) P f = tt
on_explain (Some (Replay job)) P f = tt

on_trace : (asked : Option Request) (P : Job → Type 0) → ((job : Job) → asked ≡ Some (Trace job) → P job) → IfSome (option_and_then trace_in asked) P
on_trace None P f = tt
on_trace (Some (Run job)) P f = tt
on_trace (Some (Gen job)) P f = tt
on_trace (Some (Compile job)) P f = tt
on_trace (Some (Exec job)) P f = tt
on_trace (Some (Explain job)) P f = tt
on_trace (Some (Trace job)) P f = f job refl
on_trace (Some (Replay job)) P f = tt

on_replay : (asked : Option Request) (P : ReplayJob → Type 0) → ((job : ReplayJob) → asked ≡ Some (Replay job) → P job) → IfSome (option_and_then replay_in asked) P
on_replay None P f = tt
on_replay (Some (Run job)) P f = tt
on_replay (Some (Gen job)) P f = tt
on_replay (Some (Compile job)) P f = tt
on_replay (Some (Exec job)) P f = tt
on_replay (Some (Explain job)) P f = tt
on_replay (Some (Trace job)) P f = tt
on_replay (Some (Replay job)) P f = f job refl

-- what holds whatever is asked for
on_request : (asked : Option Request) (P : Request → Type 0) → ((request : Request) → asked ≡ Some request → P request) → IfSome asked P
on_request None P f = tt
on_request (Some request) P f = f request refl

-- what is asked for is one request
one : (asked : Option Request) (request other : Request) → asked ≡ Some request → asked ≡ Some other → request ≡ other
one asked request other is too = same_Some request other (sym is ∙ too)

-- ---- outcomes

-- a choice between 0 and 1 is below 2
choice_small : (b : Bool) (n : ℕ) → n ≡ (if b then 0 else 1) → n < 2
choice_small true n e = omega arith
choice_small false n e = omega arith

-- the status of a run is 0 or 1
status_small : (ends : List (Option TaskEnd)) (control : ControlEnd) (n : ℕ) → n ≡ status_of ends control → n < 2
status_small ends control n is = choice_small _ n is

-- only a replay is meant to give the status 8
of_replay : (contents : List (List ℕ)) (request : Request) (outcome : JobOutcome) → IsOutcome contents request outcome → outcome.own ≡ 8 → IsSome (replay_in request)
of_replay contents (Run job) outcome o own = absurd (let small = status_small o.run.ends.ends o.run.control.end outcome.own o.status_is in omega (arith, own, small))
of_replay contents (Gen job) outcome o own = absurd (let is = o.status_is in omega (arith, own, is))
of_replay contents (Compile job) outcome o own = absurd (let is = o.status_is in omega (arith, own, is))
of_replay contents (Exec job) outcome o own = absurd (let small = status_small o.run.ends.ends o.run.control.end outcome.own o.status_is in omega (arith, own, small))
of_replay contents (Explain job) outcome o own = absurd (let small = small_status o.explains.finding outcome.own o.explains.own_is in omega (arith, own, small))
of_replay contents (Trace job) outcome o own = absurd (let small = status_small o.run.ends.ends o.run.control.end outcome.own o.status_is in omega (arith, own, small))
of_replay contents (Replay job) outcome o own = refl

-- the run that lists give that are whole
record RunOfLists (program : ProgramTree) (made : Control) (input : List ℕ) (task_budget : ℕ) (answer : Replayed) (outcome : JobOutcome) : Type 0 where
  ends : Ends
  is_whole : answer ≡ replayed.Whole ends
  ends_are : ends ≡ ends_over program made.activations input task_budget
  gives : GivesRun (record { control = made; input = input; ends = ends }) outcome

module _ (program : ProgramTree) (made : Control) (input : List ℕ) (task_budget : ℕ) (plan : Plan) where
  -- below 2 the lists are whole
  run_of_lists : (answer : Replayed) (outcome : JobOutcome) → GivesReplay program made input task_budget plan answer outcome → outcome.own < 2
      → RunOfLists program made input task_budget answer outcome
  run_of_lists (replayed.Whole ends) outcome gives small = record { ends = ends; is_whole = refl; ends_are = gives.0; gives = gives.1 }
  run_of_lists (replayed.Short frame) outcome gives small = absurd (let is = gives.status_is in omega (arith, is, small))
  run_of_lists (replayed.Stuck list frame cell) outcome gives small = absurd (let is = gives.status_is in omega (arith, is, small))
  run_of_lists (replayed.Repeat frame) outcome gives small = absurd (let is = gives.status_is in omega (arith, is, small))
  run_of_lists (replayed.Stranger list place) outcome gives small = absurd (let is = gives.status_is in omega (arith, is, small))

  -- at 8 there is the line of an answer
  line_of_lists : (answer : Replayed) (outcome : JobOutcome) → GivesReplay program made input task_budget plan answer outcome → outcome.own ≡ 8
      → IsReplayLine plan made.activations answer outcome.told
  line_of_lists (replayed.Whole ends) outcome gives own =
      absurd (let small = status_small ends.ends made.end outcome.own gives.1.status_is in omega (arith, own, small))
  line_of_lists (replayed.Short frame) outcome gives own = gives.is_line
  line_of_lists (replayed.Stuck list frame cell) outcome gives own = gives.is_line
  line_of_lists (replayed.Repeat frame) outcome gives own = gives.is_line
  line_of_lists (replayed.Stranger list place) outcome gives own = gives.is_line

-- ---- files

abbrev program_file : Job → JobFile
program_file job = record { subject = subjects.Program; name = job.program }

abbrev input_file : Job → JobFile
input_file job = record { subject = subjects.Input; name = job.input }

module _ {F : Type 0} (view : FilesView F) where
  pub kept : (old new : F) (files : List JobFile) (contents : List (List ℕ)) → WereRead IsUsable view old new files contents
      → (view.holds new ≡ view.holds old) × (view.may new ≡ view.may old) × (view.faults new ≡ view.faults old)
  kept old new [] [] read = (ap view.holds read, ap view.may read, ap view.faults read)
  kept old new [] (bytes ∷ contents) read = absurd read
  kept old new (file ∷ files) [] read = absurd read
  kept old new (file ∷ files) (bytes ∷ contents) read =
      let more = kept read.0 new files contents read.2 in
      (more.0 ∙ read.1.holds_kept, more.1 ∙ read.1.may_kept, more.2 ∙ read.1.no_fault)

  -- the openings, where one more file was opened behind those that were read
  opened_behind : (old before : F) (files : List JobFile) (contents : List (List ℕ)) (n : ℕ) → WereRead IsUsable view old before files contents
      → n ≡ raised (view.opens before) 1 → n ≡ raised (view.opens old) (length files + 1)
  opened_behind old before [] [] n read opened = opened ∙ ap (λ s. raised (view.opens s) 1) read
  opened_behind old before [] (bytes ∷ contents) n read opened = absurd read
  opened_behind old before (file ∷ files) [] n read opened = absurd read
  opened_behind old before (file ∷ files) (bytes ∷ contents) n read opened =
      let more = opened_behind read.0 before files contents n read.2 opened in
      let first = read.1.opened in
      omega (arith, more, first)

  -- those before the place are as many as it says
  take_all : (files : List JobFile) (place : ℕ) → place < length files → length (take place files) ≡ place
  take_all [] place lt = absurd (omega (arith, lt))
  take_all (file ∷ files) zero lt = refl
  take_all (file ∷ files) (suc place) lt = let e = take_all files place (omega (arith, lt)) in omega (arith, e)

  ended_opens : (old new : F) (files : List JobFile) (place : ℕ) (file : JobFile) (ended : EndedAt IsUsable view old new files place file)
      → view.opens new ≡ raised (view.opens old) (place + 1)
  ended_opens old new files place file ended =
      opened_behind old ended.before (take place files) ended.contents (view.opens new) ended.earlier ended.last.opened
      ∙ ap (λ n. raised (view.opens old) (n + 1)) (take_all files place (slice_get_within files place file ended.is_there))

  -- one file and more that were read were all opened
  read_opens : (old new : F) (file : JobFile) (files : List JobFile) (contents : List (List ℕ)) → WereRead IsUsable view old new (file ∷ files) contents
      → view.opens new ≡ raised (view.opens old) (length files + 1)
  read_opens old new file files [] read = absurd read
  read_opens old new file [] (bytes ∷ []) read = ap view.opens read.2 ∙ read.1.opened
  read_opens old new file [] (bytes ∷ other ∷ contents) read = absurd read.2
  read_opens old new file (next ∷ files) (bytes ∷ contents) read =
      let first = read.1.opened in
      let others = read_opens read.0 new next files contents read.2 in
      omega (arith, first, others)

  -- of the last one no more than its limit was given
  read_within : (place : ℕ) (old new : F) (files : List JobFile) (contents : List (List ℕ)) (file : JobFile) → WereRead IsUsable view old new files contents
      → slice_get files place ≡ Some file → view.opens old + length files ≤ last_count → view.opens new ≡ raised (view.opens old) (place + 1)
      → view.given new ≤ limit_of file.subject
  read_within place old new [] contents file read at room opened = absurd (let lt = slice_get_within [] place file at in omega (arith, lt))
  read_within place old new (first ∷ files) [] file read at room opened = absurd read
  read_within zero old new (first ∷ []) (bytes ∷ []) file read at room opened =
      let same : limit_of first.subject ≡ limit_of file.subject = ap (λ (f : JobFile). limit_of f.subject) (same_Some first file at) in
      let given : view.given new ≡ view.given read.0 = ap view.given read.2 in
      let whole = read.1.whole in
      let fits = read.1.read.fits in
      omega (arith, same, given, whole, fits)
  read_within zero old new (first ∷ []) (bytes ∷ other ∷ contents) file read at room opened = absurd read.2
  read_within zero old new (first ∷ next ∷ files) (bytes ∷ contents) file read at room opened =
      absurd (let all = read_opens old new first (next ∷ files) (bytes ∷ contents) read in omega (arith, all, room, opened))
  read_within (suc place) old new (first ∷ files) (bytes ∷ contents) file read at room opened =
      let step = read.1.opened in
      let few = slice_get_within files place file at in
      read_within place read.0 new files contents file read.2 at (omega (arith, step, room)) (omega (arith, step, room, opened, few))

  -- the first files were read
  read_first : (k place : ℕ) (old before : F) (files : List JobFile) (contents : List (List ℕ)) → k ≤ place → WereRead IsUsable view old before (take place files) contents
      → All (IsRead (view.holds old)) (take k files)
  read_first zero place old before files contents le read = All-nil (IsRead (view.holds old))
  read_first (suc k) place old before [] contents le read = All-nil (IsRead (view.holds old))
  read_first (suc k) zero old before (file ∷ files) contents le read = absurd (omega (arith, le))
  read_first (suc k) (suc place) old before (file ∷ files) [] le read = absurd read
  read_first (suc k) (suc place) old before (file ∷ files) (bytes ∷ contents) le read =
      All-cons (IsRead (view.holds old)) file (take k files)
      (record { bytes = bytes; read = read.1.read; is_usable = read.1.is_usable })
      (subst (λ h. All (IsRead h) (take k files)) read.1.holds_kept (read_first k place read.0 before files contents (omega (arith, le)) read.2))

  -- ---- the files of a run

  module _ (job : Job) (old new : F) where
    -- both files of a run that were read, by what they have given
    the_run : (contents : List (List ℕ)) (outcome : JobOutcome) → IsOutcomeOfRun contents job outcome → WereRead IsUsable view old new (files_of (Run job)) contents
        → (run : ProgramRun) × IsRunOfJob (view.holds old) job run × (view.given new ≡ length run.input) × (outcome.output ≡ written run.ends.output)
        × (outcome.told ≡ report_of run.control.activations (length run.input) run.ends run.control.end) × (outcome.own ≡ status_of run.ends.ends run.control.end)
        × (view.opens new ≡ raised (view.opens old) 2) × (length run.input ≤ 4194304)
    the_run contents outcome o read =
        let both = subst (WereRead IsUsable view old new (files_of (Run job))) o.contents_are read in
        let of_text = both.1 in
        let of_input = both.2.1 in
        let end : new ≡ both.2.0 = both.2.2 in
        let input_read = subst (λ h. AreBytesOf (h job.input) subjects.Input o.run.input) of_text.holds_kept of_input.read in
        let first = of_text.opened in
        let second : view.opens new ≡ raised (view.opens both.0) 1 = ap view.opens end ∙ of_input.opened in (
          o.run,
          record { text = o.text; text_read = of_text.read; input_read = input_read; program = o.program; is_program = o.is_program; control_is = o.control_is; ends_are = o.ends_are },
          ap view.given end ∙ of_input.whole,
          o.output_is,
          o.report_is,
          o.status_is,
          omega (arith, first, second),
          input_read.fits,
        )

    -- both files were opened
    both_opened : (contents : List (List ℕ)) → WereRead IsUsable view old new (files_of (Run job)) contents → view.opens new ≡ raised (view.opens old) 2
    both_opened [] read = absurd read
    both_opened (text ∷ []) read = absurd read.2
    both_opened (text ∷ input ∷ []) read =
        let first = read.1.opened in
        let second : view.opens new ≡ raised (view.opens read.0) 1 = ap view.opens read.2.2 ∙ read.2.1.opened in
        omega (arith, first, second)
    both_opened (text ∷ input ∷ other ∷ contents) read = absurd read.2.2

    -- where a run's reading came to, the files before were read
    read_before : ReadsInOrder IsUsable view old new (files_of (Run job)) → (k : ℕ) → view.opens old + k < view.opens new
        → All (IsRead (view.holds old)) (take k (files_of (Run job)))
    read_before (inl same) k more = absurd (let e = ap view.opens same in omega (arith, e, more))
    read_before (inr (inl read)) zero more = All-nil (IsRead (view.holds old))
    read_before (inr (inl read)) (suc zero) more = read_first 1 2 old new (files_of (Run job)) read.0 (omega arith) read.1
    read_before (inr (inl read)) (suc (suc k)) more = absurd (let opened = both_opened read.0 read.1 in omega (arith, opened, more))
    read_before (inr (inr ended)) k more =
        let opened = ended_opens old new (files_of (Run job)) ended.0 ended.1 ended.2 in
        read_first k ended.0 old ended.2.before (files_of (Run job)) ended.2.contents (omega (arith, opened, more)) ended.2.earlier

  -- the object that was read with its input, by what they have given
  the_exec : (job : ExecJob) (old new : F) (contents : List (List ℕ)) (outcome : JobOutcome) → IsOutcomeOfExec contents job outcome
      → WereRead IsUsable view old new (files_of (Exec job)) contents
      → (run : ProgramRun) × IsRunOfObject (view.holds old) job run × (view.given new ≡ length run.input) × (outcome.output ≡ written run.ends.output)
      × (outcome.told ≡ report_of run.control.activations (length run.input) run.ends run.control.end) × (outcome.own ≡ status_of run.ends.ends run.control.end)
  the_exec job old new contents outcome o read =
      let both = subst (WereRead IsUsable view old new (files_of (Exec job))) o.contents_are read in
      let of_object = both.1 in
      let of_input = both.2.1 in
      let end : new ≡ both.2.0 = both.2.2 in
      let input_read = subst (λ h. AreBytesOf (h job.input) subjects.Input o.run.input) of_object.holds_kept of_input.read in (
        o.run,
        record { object = o.object; object_read = of_object.read; input_read = input_read; code = o.code; is_object = o.is_object; control_is = o.control_is; ends_are = o.ends_are },
        ap view.given end ∙ of_input.whole,
        o.output_is,
        o.report_is,
        o.status_is,
      )

  -- the line of a run whose files were read, by what they have given
  the_line : (job : ExplainJob) (old new : F) (contents : List (List ℕ)) (outcome : JobOutcome) → IsOutcomeOfExplain contents job outcome
      → WereRead IsUsable view old new (files_of (Explain job)) contents
      → IsLineOfJob (view.holds old) job (view.given new) outcome.output outcome.own
  the_line job old new contents outcome o read =
      let both = subst (WereRead IsUsable view old new (files_of (Explain job))) o.contents_are read in
      let of_text = both.1 in
      let of_input = both.2.1 in
      let end : new ≡ both.2.0 = both.2.2 in
      let input_read = subst (λ h. AreBytesOf (h job.input) subjects.Input o.run.input) of_text.holds_kept of_input.read in
      record {
        run = o.run;
        is_run = record { text = o.text; text_read = of_text.read; input_read = input_read; program = o.program; is_program = o.is_program; control_is = o.control_is; ends_are = o.ends_are };
        given_is = ap view.given end ∙ of_input.whole;
        explains = o.explains;
      }

  -- the run that was traced, by what its files have given
  the_trace : (job : Job) (old new : F) (contents : List (List ℕ)) (outcome : JobOutcome) (o : IsOutcomeOfTrace contents job outcome)
      → WereRead IsUsable view old new (files_of (Trace job)) contents
      → IsTraceOfJob (view.holds old) job (view.given new) o.run outcome.output
  the_trace job old new contents outcome o read =
      let both = subst (WereRead IsUsable view old new (files_of (Trace job))) o.contents_are read in
      let of_text = both.1 in
      let of_input = both.2.1 in
      let end : new ≡ both.2.0 = both.2.2 in
      let input_read = subst (λ h. AreBytesOf (h job.input) subjects.Input o.run.input) of_text.holds_kept of_input.read in
      record {
        is_run = record { text = o.text; text_read = of_text.read; input_read = input_read; program = o.program; is_program = o.is_program; control_is = o.control_is; ends_are = o.ends_are };
        given_is = ap view.given end ∙ of_input.whole;
        lists = o.lists;
        one_each = o.one_each;
        hold_the_ended = o.hold_the_ended;
        text_is = o.output_is;
      }

  -- the three files of a replay that were read, by what they have given
  record ReadForReplay (job : ReplayJob) (old new : F) (text input : List ℕ) (lists : List (List ℕ)) : Type 0 where
    text_read : AreBytesOf (view.holds old job.program) subjects.Program text
    input_read : AreBytesOf (view.holds old job.input) subjects.Input input
    are_lists : AreListsOfJob (view.holds old) job (view.given new) lists

  read_for_replay : (job : ReplayJob) (old new : F) (contents : List (List ℕ)) (outcome : JobOutcome) (o : IsOutcomeOfReplay contents job outcome)
      → WereRead IsUsable view old new (files_of (Replay job)) contents → ReadForReplay job old new o.text o.input o.lists
  read_for_replay job old new contents outcome o read =
      let three = subst (WereRead IsUsable view old new (files_of (Replay job))) o.contents_are read in
      let of_text = three.1 in
      let of_input = three.2.1 in
      let of_trace = three.2.2.1 in
      let end : new ≡ three.2.2.0 = three.2.2.2 in
      record {
        text_read = of_text.read;
        input_read = subst (λ h. AreBytesOf (h job.input) subjects.Input o.input) of_text.holds_kept of_input.read;
        are_lists = record {
          told = o.told;
          told_read = subst (λ h. AreBytesOf (h job.trace) subjects.Trace o.told) (of_input.holds_kept ∙ of_text.holds_kept) of_trace.read;
          given_is = ap view.given end ∙ of_trace.whole;
          is_trace = o.is_trace;
        };
      }

  -- the run by a trace, where its status is below 2
  module _ (job : ReplayJob) (old new : F) (contents : List (List ℕ)) (outcome : JobOutcome) (o : IsOutcomeOfReplay contents job outcome)
      (read : WereRead IsUsable view old new (files_of (Replay job)) contents) where
    the_replay : (small : outcome.own < 2) → (run : ProgramRun) × IsRunByTrace (view.holds old) job (view.given new) run × GivesRun run outcome
    the_replay small =
        let whole = run_of_lists o.program o.made o.input job.task_budget o.plan o.answer outcome o.gives small in
        let was = read_for_replay job old new contents outcome o read in (
          record { control = o.made; input = o.input; ends = whole.ends },
          record {
            is_run = record { text = o.text; text_read = was.text_read; input_read = was.input_read; program = o.program; is_program = o.is_program; control_is = o.is_replay.made_is; ends_are = whole.ends_are };
            lists = o.lists;
            are_lists = was.are_lists;
            plan = o.plan;
            is_whole = subst (λ (a : Replayed). IsReplayOf (replay_budgets job) o.program o.input o.lists o.made o.plan a) whole.is_whole o.is_replay;
          },
          whole.gives,
        )

    -- the line of it, where its status is 8
    the_replay_line : outcome.own ≡ 8 → IsLineOfReplay (view.holds old) job (view.given new) outcome.told
    the_replay_line own =
        let was = read_for_replay job old new contents outcome o read in
        record {
          text = o.text;
          text_read = was.text_read;
          input = o.input;
          input_read = was.input_read;
          program = o.program;
          is_program = o.is_program;
          lists = o.lists;
          are_lists = was.are_lists;
          made = o.made;
          plan = o.plan;
          answer = o.answer;
          is_replay = o.is_replay;
          is_line = line_of_lists o.program o.made o.input job.task_budget o.plan o.answer outcome o.gives own;
        }

  -- the program that was read, with the object of its code
  the_object : (job : CompileJob) (old new : F) (contents : List (List ℕ)) (outcome : JobOutcome) → IsOutcomeOfCompile contents job outcome
      → WereRead IsUsable view old new (files_of (Compile job)) contents → IsObjectOfJob (view.holds old) job outcome.output
  the_object job old new contents outcome o read =
      let was = subst (WereRead IsUsable view old new (files_of (Compile job))) o.contents_are read in
      record { text = o.text; text_read = was.1.read; program = o.program; is_program = o.is_program; code = o.code; is_code = o.is_code; is_object = o.is_object }

-- no file, nothing read
untouched : {F : Type 0} (view : FilesView F) (old new : F) → ReadsInOrder IsUsable view old new [] → new ≡ old
untouched view old new (inl same) = same
untouched view old new (inr (inl read)) = by read.0 read.1
  where
    by : (contents : List (List ℕ)) → WereRead IsUsable view old new [] contents → new ≡ old
    by [] read = read
    by (bytes ∷ contents) read = absurd read
untouched view old new (inr (inr ended)) = absurd (let e : None ≡ Some ended.1 = ended.2.is_there in cc)

-- faults never fall, and what is held and allowed stays
module _ {F : Type 0} (view : FilesView F) (old new : F) (files : List JobFile) where
  pub reading_keeps : ReadsInOrder IsUsable view old new files → (view.faults old ≤ view.faults new) × (view.holds new ≡ view.holds old) × (view.may new ≡ view.may old)
  reading_keeps (inl same) = (omega (arith, ap view.faults same), ap view.holds same, ap view.may same)
  reading_keeps (inr (inl read)) = let k = kept view old new files read.0 read.1 in (omega (arith, k.2), k.0, k.1)
  reading_keeps (inr (inr ended)) =
      let k = kept view old ended.2.before (take ended.0 files) ended.2.contents ended.2.earlier in
      (omega (arith, k.2, ended.2.last.faults_kept), ended.2.last.holds_kept ∙ k.0, ended.2.last.may_kept ∙ k.1)

-- no cause but a fault counts one
unread_alone : {F : Type 0} (view : FilesView F) (old new : F) (file : JobFile) (r : Refusal) → IsFailed IsUnusable view old new file r
    → status_code (refusal_status r) < 5 → view.faults new ≡ view.faults old
unread_alone view old new file (refusals.Refused code line) failed small = failed.no_fault
unread_alone view old new file (refusals.TooLong subject) failed small = failed.no_fault
unread_alone view old new file (refusals.ReadFault subject) failed small = absurd (omega (arith, small))
unread_alone view old new file refusals.Memory failed small = absurd (omega (arith, small))

-- a file of which more than its limit was given is too long
past_limit : {F : Type 0} (view : FilesView F) (old new : F) (file : JobFile) (r : Refusal) → IsFailed IsUnusable view old new file r
    → limit_of file.subject < view.given new → (status_code (refusal_status r) ≡ 4) ⊎ (status_code (refusal_status r) ≡ 7)
past_limit view old new file (refusals.Refused code line) failed more = absurd (omega (arith, failed.whole, failed.read.fits, more))
past_limit view old new file (refusals.TooLong subject) failed more = inl refl
past_limit view old new file (refusals.ReadFault subject) failed more = absurd (omega (arith, failed.within, more))
past_limit view old new file refusals.Memory failed more = inr refl

-- the file is told, and within its limit
abbrev FitsAsTold : (List ℕ → Option (List ℕ)) → JobFile → Type 0
FitsAsTold holds file = (bytes : List ℕ) × (holds file.name ≡ Some bytes) × (length bytes ≤ limit_of file.subject)

-- such a file isn't too long
fits_so : {F : Type 0} (view : FilesView F) (old new : F) (file : JobFile) (r : Refusal) → FitsAsTold (view.holds old) file
    → IsFailed IsUnusable view old new file r → status_code (refusal_status r) ≡ 4 → ⊥
fits_so view old new file (refusals.Refused code line) fits failed four = omega (arith, four)
fits_so view old new file (refusals.TooLong subject) fits failed four =
    let long = subst (λ t. IfSome t (λ told. limit_of file.subject < length told)) fits.1 failed.held in
    let fit = fits.2 in
    omega (arith, long, fit)
fits_so view old new file (refusals.ReadFault subject) fits failed four = omega (arith, four)
fits_so view old new file refusals.Memory fits failed four = omega (arith, four)

-- a failed read has counted a fault
a_fault : {F : Type 0} (view : FilesView F) (old new : F) (file : JobFile) (r : Refusal) → IsFailed IsUnusable view old new file r
    → status_code (refusal_status r) ≡ 5 → HasRisen (view.faults old) (view.faults new)
a_fault view old new file (refusals.Refused code line) failed five = absurd (omega (arith, five))
a_fault view old new file (refusals.TooLong subject) failed five = absurd (omega (arith, five))
a_fault view old new file (refusals.ReadFault subject) failed five = failed.fault
a_fault view old new file refusals.Memory failed five = absurd (omega (arith, five))

-- the cause at a file, told of the files before those in front of it were read
failed_from : {F : Type 0} (view : FilesView F) (old between new : F) (file : JobFile) (r : Refusal) → view.holds between ≡ view.holds old
    → view.faults between ≡ view.faults old → IsFailed IsUnusable view between new file r → IsFailed IsUnusable view old new file r
failed_from view old between new file (refusals.Refused code line) holds faults failed = record {
  bytes = failed.bytes;
  read = subst (λ h. AreBytesOf (h file.name) file.subject failed.bytes) holds failed.read;
  whole = failed.whole;
  at_end = failed.at_end;
  refused = failed.refused;
  no_fault = failed.no_fault ∙ faults;
}
failed_from view old between new file (refusals.TooLong subject) holds faults failed = record {
  named = failed.named;
  too_many = failed.too_many;
  held = subst (λ h. IfSome (h file.name) (λ told. limit_of file.subject < length told)) holds failed.held;
  no_fault = failed.no_fault ∙ faults;
}
failed_from view old between new file (refusals.ReadFault subject) holds faults failed = record {
  named = failed.named;
  within = failed.within;
  fault = subst (λ n. HasRisen n (view.faults new)) faults failed.fault;
}
failed_from view old between new file refusals.Memory holds faults failed = tt

-- the same place has the same file
pub same_file : (files : List JobFile) (n m : ℕ) (file other : JobFile) → slice_get files n ≡ Some file → slice_get files m ≡ Some other → n ≡ m → file ≡ other
same_file files n m file other at_n at_m same = same_Some file other (sym at_n ∙ ap (slice_get files) same ∙ at_m)

-- ---- the record

module _ {F O E : Type 0} (of_files : FilesView F) (fo fn : F) (of_out : SinkView O) (oo on : O) (of_report : SinkView E) (ro rn : E)
    (asked : Option Request) (status : ℕ) (answer : AnswersRequest of_files fo fn of_out oo on of_report ro rn asked status) where
  -- the six ways in which a call ends
  pub cases : {C : Type 0} → (IsGiven of_files fo fn of_out oo on of_report ro rn asked status → status < 2 → C)
      → (IsUnasked fo fn oo on of_report ro rn asked → status ≡ 2 → C)
      → ((s : Status) → IsFileRefused of_files fo fn oo on of_report ro rn asked s → status ≡ status_code s → 3 ≤ status → status ≤ 5 → C)
      → (IsCut of_files fo fn of_out oo on of_report ro rn asked → status ≡ 6 → C)
      → (IsUnmade oo on ro rn → status ≡ 7 → C)
      → (IsNotReplayed of_files fo fn oo on of_report ro rn asked → status ≡ 8 → C) → C
  cases {C} given unasked refused cut unmade not_replayed = by answer.answered answer.status_is answer.cause
    where
      by : (s : Status) → status ≡ status_code s → HasCause of_files fo fn of_out oo on of_report ro rn asked s → C
      by statuses.AllDone is h = given (subst (IsGiven of_files fo fn of_out oo on of_report ro rn asked) (sym is) h) (omega (arith, is))
      by statuses.NotAllDone is h = given (subst (IsGiven of_files fo fn of_out oo on of_report ro rn asked) (sym is) h) (omega (arith, is))
      by statuses.BadWords is h = unasked h is
      by statuses.Refused is h = refused statuses.Refused h is (omega (arith, is)) (omega (arith, is))
      by statuses.TooLong is h = refused statuses.TooLong h is (omega (arith, is)) (omega (arith, is))
      by statuses.ReadFault is h = refused statuses.ReadFault h is (omega (arith, is)) (omega (arith, is))
      by statuses.WriteFault is h = cut h is
      by statuses.NoMemory is h = unmade h is
      by statuses.NotReplayed is h = not_replayed h is

  -- the run that was made
  made_run : (made : IsMade of_files fo fn asked) (job : Job) → asked ≡ Some (Run job)
      → (run : ProgramRun) × IsRunOfJob (of_files.holds fo) job run × (of_files.given fn ≡ length run.input) × (made.outcome.output ≡ written run.ends.output)
      × (made.outcome.told ≡ report_of run.control.activations (length run.input) run.ends run.control.end) × (made.outcome.own ≡ status_of run.ends.ends run.control.end)
      × (of_files.opens fn ≡ raised (of_files.opens fo) 2) × (length run.input ≤ 4194304)
  made_run made job is =
      let same : made.request ≡ Run job = one asked made.request (Run job) made.is_asked is in
      the_run of_files job fo fn made.contents made.outcome (subst (λ q. IsOutcome made.contents q made.outcome) same made.is_outcome)
      (subst (λ q. WereRead IsUsable of_files fo fn (files_of q) made.contents) same made.read)

  made_gen : (made : IsMade of_files fo fn asked) (job : GenJob) → asked ≡ Some (Gen job) → IsOutcomeOfGen made.contents job made.outcome
  made_gen made job is =
      subst (λ q. IsOutcome made.contents q made.outcome) (one asked made.request (Gen job) made.is_asked is) made.is_outcome

  -- the run of an object that was made, and the object that was
  made_exec : (made : IsMade of_files fo fn asked) (job : ExecJob) → asked ≡ Some (Exec job)
      → (run : ProgramRun) × IsRunOfObject (of_files.holds fo) job run × (of_files.given fn ≡ length run.input) × (made.outcome.output ≡ written run.ends.output)
      × (made.outcome.told ≡ report_of run.control.activations (length run.input) run.ends run.control.end) × (made.outcome.own ≡ status_of run.ends.ends run.control.end)
  made_exec made job is =
      let same : made.request ≡ Exec job = one asked made.request (Exec job) made.is_asked is in
      the_exec of_files job fo fn made.contents made.outcome (subst (λ q. IsOutcome made.contents q made.outcome) same made.is_outcome)
      (subst (λ q. WereRead IsUsable of_files fo fn (files_of q) made.contents) same made.read)

  made_compile : (made : IsMade of_files fo fn asked) (job : CompileJob) → asked ≡ Some (Compile job) → IsOutcomeOfCompile made.contents job made.outcome
  made_compile made job is =
      subst (λ q. IsOutcome made.contents q made.outcome) (one asked made.request (Compile job) made.is_asked is) made.is_outcome

  made_object : (made : IsMade of_files fo fn asked) (job : CompileJob) → asked ≡ Some (Compile job) → IsObjectOfJob (of_files.holds fo) job made.outcome.output
  made_object made job is =
      the_object of_files job fo fn made.contents made.outcome (made_compile made job is)
      (subst (λ q. WereRead IsUsable of_files fo fn (files_of q) made.contents) (one asked made.request (Compile job) made.is_asked is) made.read)

  made_explanation : (made : IsMade of_files fo fn asked) (job : ExplainJob) → asked ≡ Some (Explain job) → IsOutcomeOfExplain made.contents job made.outcome
  made_explanation made job is =
      subst (λ q. IsOutcome made.contents q made.outcome) (one asked made.request (Explain job) made.is_asked is) made.is_outcome

  made_line : (made : IsMade of_files fo fn asked) (job : ExplainJob) → asked ≡ Some (Explain job)
      → IsLineOfJob (of_files.holds fo) job (of_files.given fn) made.outcome.output made.outcome.own
  made_line made job is =
      the_line of_files job fo fn made.contents made.outcome (made_explanation made job is)
      (subst (λ q. WereRead IsUsable of_files fo fn (files_of q) made.contents) (one asked made.request (Explain job) made.is_asked is) made.read)

  -- only a replay is meant to give a line alone
  line_of_replay : (made : IsMade of_files fo fn asked) → made.outcome.own ≡ 8 → IsSome (replay_in made.request)
  line_of_replay made own = of_replay made.contents made.request made.outcome made.is_outcome own

  pub not_replayed_alone : status ≡ 8 → IsSome (option_and_then replay_in asked)
  not_replayed_alone eight = cases
      (λ _ n. absurd (omega (arith, n, eight)))
      (λ _ n. absurd (omega (arith, n, eight)))
      (λ _ _ _ _ n. absurd (omega (arith, n, eight)))
      (λ _ n. absurd (omega (arith, n, eight)))
      (λ _ n. absurd (omega (arith, n, eight)))
      (λ h _. subst (λ a. IsSome (option_and_then replay_in a)) (sym h.made.is_asked) (line_of_replay h.made h.own))

  -- what is refused is a run
  refused_run : (s : Status) (h : IsFileRefused of_files fo fn oo on of_report ro rn asked s) (job : Job) → asked ≡ Some (Run job)
      → IsCauseOf IsUsable IsUnusable of_files fo fn (files_of (Run job)) h.refusal
  refused_run s h job is =
      subst (λ q. IsCauseOf IsUsable IsUnusable of_files fo fn (files_of q) h.refusal) (one asked h.request (Run job) h.is_asked is) h.cause

  pub headline : status < 2 → IfSome (option_and_then run_in asked) (λ job. (run : ProgramRun) × IsRunOfJob (of_files.holds fo) job run
      × (of_files.given fn ≡ length run.input) × (of_out.taken on ≡ append_known (of_out.taken oo) (written run.ends.output))
      × (of_report.taken rn ≡ append_known (of_report.taken ro) (report_of run.control.activations (length run.input) run.ends run.control.end))
      × (status ≡ status_of run.ends.ends run.control.end))
  headline small = on_run asked _ (λ job is. cases
      (λ g _. let r = made_run g.made job is in
      (r.0, r.1, r.2, g.output.0 ∙ ap (append_known (of_out.taken oo)) r.3, g.report.took.0 ∙ ap (append_known (of_report.taken ro)) r.4, g.own ∙ r.5))
      (λ _ n. absurd (omega (arith, n, small)))
      (λ _ _ _ n _. absurd (omega (arith, n, small)))
      (λ _ n. absurd (omega (arith, n, small)))
      (λ _ n. absurd (omega (arith, n, small)))
      (λ _ n. absurd (omega (arith, n, small))))

  pub all_opened : (status < 2) ⊎ (status ≡ 6) → IfSome (option_and_then run_in asked) (λ job. of_files.opens fn ≡ raised (of_files.opens fo) (length (files_of (Run job))))
  all_opened which = on_run asked _ (λ job is. cases
      (λ g _. (made_run g.made job is).6)
      (λ _ n. absurd (never which (omega (arith, n)) (λ six. omega (arith, n, six))))
      (λ _ _ _ n m. absurd (never which (omega (arith, n)) (λ six. omega (arith, m, six))))
      (λ c _. (made_run c.made job is).6)
      (λ _ n. absurd (never which (omega (arith, n)) (λ six. omega (arith, n, six))))
      (λ _ n. absurd (never which (omega (arith, n)) (λ six. omega (arith, n, six)))))
    where
      never : (status < 2) ⊎ (status ≡ 6) → 2 ≤ status → status ≢ 6 → ⊥
      never (inl small) large not = omega (arith, small, large)
      never (inr six) large not = not six

  pub within : status ≢ 2 → status ≢ 7 → IsSomeAnd asked IsRequestWithin
  within not_two not_seven = cases
      (λ g _. subst (λ a. IsSomeAnd a IsRequestWithin) (sym g.made.is_asked) g.made.within)
      (λ _ n. absurd (not_two n))
      (λ _ h _ _ _. subst (λ a. IsSomeAnd a IsRequestWithin) (sym h.is_asked) h.within)
      (λ c _. subst (λ a. IsSomeAnd a IsRequestWithin) (sym c.made.is_asked) c.made.within)
      (λ _ n. absurd (not_seven n))
      (λ h _. subst (λ a. IsSomeAnd a IsRequestWithin) (sym h.made.is_asked) h.made.within)

  pub bad_words : status ≡ 2 → asked ≡ None
  bad_words two = cases
      (λ _ n. absurd (omega (arith, n, two)))
      (λ u _. u.nothing_asked)
      (λ _ _ _ n _. absurd (omega (arith, n, two)))
      (λ _ n. absurd (omega (arith, n, two)))
      (λ _ n. absurd (omega (arith, n, two)))
      (λ _ n. absurd (omega (arith, n, two)))

  -- nothing is asked for, so no request is
  none : (request : Request) → asked ≡ None → asked ≡ Some request → ⊥
  none request nothing is = let e : None ≡ Some request = sym nothing ∙ is in cc

  pub bad_words_always : asked ≡ None → (status ≡ 2) ⊎ (status ≡ 7)
  bad_words_always nothing = cases
      (λ g _. absurd (none g.made.request nothing g.made.is_asked))
      (λ _ n. inl n)
      (λ _ h _ _ _. absurd (none h.request nothing h.is_asked))
      (λ c _. absurd (none c.made.request nothing c.made.is_asked))
      (λ _ n. inr n)
      (λ h _. absurd (none h.made.request nothing h.made.is_asked))

  pub nothing_read : asked ≡ None → fn ≡ fo
  nothing_read nothing = untouched of_files fo fn (subst (λ a. ReadsInOrder IsUsable of_files fo fn (asked_files a)) nothing answer.reads)

  pub usage : status ≡ 2 → Tells of_report ro rn usage_line
  usage two = cases
      (λ _ n. absurd (omega (arith, n, two)))
      (λ u _. u.report)
      (λ _ _ _ n _. absurd (omega (arith, n, two)))
      (λ _ n. absurd (omega (arith, n, two)))
      (λ _ n. absurd (omega (arith, n, two)))
      (λ _ n. absurd (omega (arith, n, two)))

  pub refused : 3 ≤ status → status ≤ 5 → IsSomeAnd asked (λ request. (refusal : Refusal) × (status ≡ status_code (refusal_status refusal))
      × IsCauseOf IsUsable IsUnusable of_files fo fn (files_of request) refusal × Tells of_report ro rn (refusal_line refusal))
  refused low high = cases
      (λ _ n. absurd (omega (arith, n, low)))
      (λ _ n. absurd (omega (arith, n, low)))
      (λ s h is _ _. subst (λ a. IsSomeAnd a (λ request. (refusal : Refusal) × (status ≡ status_code (refusal_status refusal))
      × IsCauseOf IsUsable IsUnusable of_files fo fn (files_of request) refusal × Tells of_report ro rn (refusal_line refusal))) (sym h.is_asked)
      (h.refusal, is ∙ ap status_code h.answered_is, h.cause, h.report))
      (λ _ n. absurd (omega (arith, n, high)))
      (λ _ n. absurd (omega (arith, n, high)))
      (λ _ n. absurd (omega (arith, n, high)))

  pub opened_last : 3 ≤ status → status ≤ 5 → IfSome (option_and_then run_in asked) (λ job. (place : ℕ) × (file : JobFile) × (refusal : Refusal)
      × (slice_get (files_of (Run job)) place ≡ Some file) × (of_files.opens fn ≡ raised (of_files.opens fo) (place + 1))
      × All (IsRead (of_files.holds fo)) (take place (files_of (Run job))) × IsFailed IsUnusable of_files fo fn file refusal
      × (status ≡ status_code (refusal_status refusal)) × Tells of_report ro rn (refusal_line refusal))
  opened_last low high = on_run asked _ (λ job is. cases
      (λ _ n. absurd (omega (arith, n, low)))
      (λ _ n. absurd (omega (arith, n, low)))
      (λ s h status_is _ _.
      let files = files_of (Run job) in
      let cause = refused_run s h job is in
      let before = cause.ended.before in
      let k = kept of_files fo before (take cause.place files) cause.ended.contents cause.ended.earlier in (
        cause.place,
        cause.file,
        h.refusal,
        cause.ended.is_there,
        ended_opens of_files fo fn files cause.place cause.file cause.ended,
        read_first of_files cause.place cause.place fo before files cause.ended.contents (omega arith) cause.ended.earlier,
        failed_from of_files fo before fn cause.file h.refusal k.0 k.2 cause.failed,
        status_is ∙ ap status_code h.answered_is,
        h.report,
      ))
      (λ _ n. absurd (omega (arith, n, high)))
      (λ _ n. absurd (omega (arith, n, high)))
      (λ _ n. absurd (omega (arith, n, high))))

  pub refused_always : IfSome (option_and_then run_in asked) (λ job. IsRejected IsUnusable (of_files.holds fo) (record { subject = subjects.Program; name = job.program })
      → (status ≡ 3) ⊎ ((status ≡ 5) ⊎ (status ≡ 7)))
  refused_always = on_run asked _ (λ job is rejected.
      answer.rejected (program_file job) (subst (λ a. slice_get (asked_files a) 0 ≡ Some (program_file job)) (sym is) refl) rejected)

  -- a file of which more than its limit was given isn't the last one of those that were read for what was made
  too_much : (made : IsMade of_files fo fn asked) (request : Request) → asked ≡ Some request → (place : ℕ) (file : JobFile)
      → slice_get (files_of request) place ≡ Some file → of_files.opens fo + length (files_of request) ≤ last_count
      → of_files.opens fn ≡ raised (of_files.opens fo) (place + 1) → limit_of file.subject < of_files.given fn → ⊥
  too_much made request is place file at room opened more =
      let read = subst (λ q. WereRead IsUsable of_files fo fn (files_of q) made.contents) (one asked made.request request made.is_asked is) made.read in
      let fits = read_within of_files place fo fn (files_of request) made.contents file read at room opened in
      omega (arith, fits, more)

  pub too_long_always : IfSome asked (λ request. (place : ℕ) (file : JobFile) → slice_get (files_of request) place ≡ Some file
      → of_files.opens fo + length (files_of request) ≤ last_count → of_files.opens fn ≡ raised (of_files.opens fo) (place + 1)
      → limit_of file.subject < of_files.given fn → (status ≡ 4) ⊎ (status ≡ 7))
  too_long_always = on_request asked _ (λ request is place file at room opened more. cases
      (λ g _. absurd (too_much g.made request is place file at room opened more))
      (λ u _. absurd (none request u.nothing_asked is))
      (λ s h status_is _ _.
      let cause = subst (λ q. IsCauseOf IsUsable IsUnusable of_files fo fn (files_of q) h.refusal) (one asked h.request request h.is_asked is) h.cause in
      let ended = ended_opens of_files fo fn (files_of request) cause.place cause.file cause.ended in
      let few = slice_get_within (files_of request) place file at in
      let few_too = slice_get_within (files_of request) cause.place cause.file cause.ended.is_there in
      let same : file ≡ cause.file = same_file (files_of request) place cause.place file cause.file at cause.ended.is_there (omega (arith, few, few_too, room, opened, ended)) in
      let limit : limit_of file.subject ≡ limit_of cause.file.subject = ap (λ (f : JobFile). limit_of f.subject) same in
      subst (λ n. (n ≡ 4) ⊎ (n ≡ 7)) (sym (status_is ∙ ap status_code h.answered_is))
      (past_limit of_files cause.ended.before fn cause.file h.refusal cause.failed (omega (arith, limit, more))))
      (λ c _. absurd (too_much c.made request is place file at room opened more))
      (λ _ n. inr n)
      (λ h _. absurd (too_much h.made request is place file at room opened more)))

  pub undelivered : status ≡ 6 → IfSome (option_and_then run_in asked) (λ job. (run : ProgramRun) × IsRunOfJob (of_files.holds fo) job run
      × (of_files.given fn ≡ length run.input) × IsUndelivered of_out oo on (written run.ends.output)
      of_report ro rn (report_of run.control.activations (length run.input) run.ends run.control.end))
  undelivered six = on_run asked _ (λ job is. cases
      (λ _ n. absurd (omega (arith, n, six)))
      (λ _ n. absurd (omega (arith, n, six)))
      (λ _ _ _ _ n. absurd (omega (arith, n, six)))
      (λ c _. let r = made_run c.made job is in (
        r.0,
        r.1,
        r.2,
        subst (λ bytes. IsUndelivered of_out oo on bytes of_report ro rn (report_of r.0.control.activations (length r.0.input) r.0.ends r.0.control.end)) r.3
            (subst (λ lines. IsUndelivered of_out oo on c.made.outcome.output of_report ro rn lines) r.4 c.undelivered),
      ))
      (λ _ n. absurd (omega (arith, n, six)))
      (λ _ n. absurd (omega (arith, n, six))))

  pub memory : status ≡ 7 → rn ≡ ro
  memory seven = cases
      (λ _ n. absurd (omega (arith, n, seven)))
      (λ _ n. absurd (omega (arith, n, seven)))
      (λ _ _ _ _ n. absurd (omega (arith, n, seven)))
      (λ _ n. absurd (omega (arith, n, seven)))
      (λ u _. u.report_kept)
      (λ _ n. absurd (omega (arith, n, seven)))

  pub nothing_written : 2 ≤ status → status ≢ 6 → on ≡ oo
  nothing_written large not_six = cases
      (λ _ n. absurd (omega (arith, n, large)))
      (λ u _. u.output_kept)
      (λ _ h _ _ _. h.output_kept)
      (λ _ n. absurd (not_six n))
      (λ u _. u.output_kept)
      (λ h _. h.output_kept)

  pub statuses_small : status ≤ 8
  statuses_small = cases (λ _ n. omega (arith, n)) (λ _ n. omega (arith, n)) (λ _ _ _ _ n. omega (arith, n)) (λ _ n. omega (arith, n)) (λ _ n. omega (arith, n)) (λ _ n. omega (arith, n))

  -- how far the files of a run were read
  reads_run : (job : Job) → asked ≡ Some (Run job) → ReadsInOrder IsUsable of_files fo fn (files_of (Run job))
  reads_run job is = subst (λ a. ReadsInOrder IsUsable of_files fo fn (asked_files a)) is answer.reads

  pub in_order : IfSome asked (λ request. ReadsInOrder IsUsable of_files fo fn (files_of request))
  in_order = on_request asked _ (λ request is. subst (λ a. ReadsInOrder IsUsable of_files fo fn (asked_files a)) is answer.reads)

  pub read_earlier : IfSome (option_and_then run_in asked) (λ job. (k : ℕ) → of_files.opens fo + k < of_files.opens fn
      → All (IsRead (of_files.holds fo)) (take k (files_of (Run job))))
  read_earlier = on_run asked _ (λ job is. read_before of_files job fo fn (reads_run job is))

  -- what is not delivered has trouble
  troubled : (output lines : List ℕ) → IsUndelivered of_out oo on output of_report ro rn lines → (HasTrouble of_out oo on → ⊥) → (HasTrouble of_report ro rn → ⊥) → ⊥
  troubled output lines (inl cut) out report = out cut.0.trouble
  troubled output lines (inr cut) out report = report cut.1.trouble

  -- the faults of a refusal with the status 5
  refused_fault : (s : Status) (h : IsFileRefused of_files fo fn oo on of_report ro rn asked s) → status ≡ status_code s → 5 ≤ status → status ≤ 5 → HasRisen (of_files.faults fo) (of_files.faults fn)
  refused_fault s h is large high =
      let before = h.cause.ended.before in
      let k = kept of_files fo before (take h.cause.place (files_of h.request)) h.cause.ended.contents h.cause.ended.earlier in
      let five : status_code (refusal_status h.refusal) ≡ 5 = small h.refusal (subst (λ n. 5 ≤ n) (is ∙ ap status_code h.answered_is) large) (subst (λ n. n ≤ 5) (is ∙ ap status_code h.answered_is) high) in
      subst (λ n. HasRisen n (of_files.faults fn)) k.2 (a_fault of_files before fn h.cause.file h.refusal h.cause.failed five)
    where
      small : (r : Refusal) → 5 ≤ status_code (refusal_status r) → status_code (refusal_status r) ≤ 5 → status_code (refusal_status r) ≡ 5
      small r low high = omega (arith, low, high)

  pub complete : IfSome asked (λ request. All (IsReadable IsUsable (of_files.holds fo)) (files_of request)
      → (HasRisen (of_files.faults fo) (of_files.faults fn) → ⊥) → (HasTrouble of_out oo on → ⊥) → (HasTrouble of_report ro rn → ⊥)
      → (status < 2) ⊎ ((status ≡ 7) ⊎ ((status ≡ 8) × IsSome (replay_in request))))
  complete = on_request asked _ (λ request is all no_fault no_out no_report. cases
      (λ _ n. inl n)
      (λ u _. absurd (none request u.nothing_asked is))
      (λ s h status_is low high. absurd (no_fault (refused_fault s h status_is (large (answer.complete request is all) low) high)))
      (λ c _. absurd (troubled c.made.outcome.output c.made.outcome.told c.undelivered no_out no_report))
      (λ _ n. inr (inl n))
      (λ h n. inr (inr (n, subst (λ q. IsSome (replay_in q)) (one asked h.made.request request h.made.is_asked is) (line_of_replay h.made h.own)))))
    where
      large : (status < 2) ⊎ (5 ≤ status) → 3 ≤ status → 5 ≤ status
      large (inl small) low = absurd (omega (arith, small, low))
      large (inr big) low = big

  -- the faults where all files were read
  made_faults : (made : IsMade of_files fo fn asked) → of_files.faults fn ≡ of_files.faults fo
  made_faults made = (kept of_files fo fn (files_of made.request) made.contents made.read).2

  pub no_read_fault : status ≢ 5 → status ≢ 7 → of_files.faults fn ≡ of_files.faults fo
  no_read_fault not_five not_seven = cases
      (λ g _. made_faults g.made)
      (λ u _. ap of_files.faults u.files_kept)
      (λ s h is low high.
      let before = h.cause.ended.before in
      let k = kept of_files fo before (take h.cause.place (files_of h.request)) h.cause.ended.contents h.cause.ended.earlier in
      let same : status ≡ status_code (refusal_status h.refusal) = is ∙ ap status_code h.answered_is in
      unread_alone of_files before fn h.cause.file h.refusal h.cause.failed (subst (λ n. n < 5) same (below high)) ∙ k.2)
      (λ c _. made_faults c.made)
      (λ _ n. absurd (not_seven n))
      (λ h _. made_faults h.made)
    where
      below : status ≤ 5 → status < 5
      below high = elim (cases_lt status 5) [
        | inl small ↦ small
        | inr large ↦ absurd (not_five (omega (arith, high, large)))
      ]

  pub no_write_fault : status < 2 → (of_out.faults on ≡ of_out.faults oo) × (of_out.empty_takes on ≡ of_out.empty_takes oo)
      × (of_report.faults rn ≡ of_report.faults ro) × (of_report.empty_takes rn ≡ of_report.empty_takes ro)
  no_write_fault small = cases
      (λ g _. (g.output.1, g.output.2, g.report.took.1, g.report.took.2))
      (λ _ n. absurd (omega (arith, n, small)))
      (λ _ _ _ n _. absurd (omega (arith, n, small)))
      (λ _ n. absurd (omega (arith, n, small)))
      (λ _ n. absurd (omega (arith, n, small)))
      (λ _ n. absurd (omega (arith, n, small)))

  -- ---- `gen`

  pub gen_written : status ≡ 0 → IfSome (option_and_then gen_in asked) (λ job. (run : ProgramRun) × IsRunOfGen job run
      × (of_out.taken on ≡ append_known (of_out.taken oo) (gen_lines job run)))
  gen_written zero_is = on_gen asked _ (λ job is. cases
      (λ g _. let o = made_gen g.made job is in (o.run, o.is_run, g.output.0 ∙ ap (append_known (of_out.taken oo)) o.output_is))
      (λ _ n. absurd (omega (arith, n, zero_is)))
      (λ _ _ _ n _. absurd (omega (arith, n, zero_is)))
      (λ _ n. absurd (omega (arith, n, zero_is)))
      (λ _ n. absurd (omega (arith, n, zero_is)))
      (λ _ n. absurd (omega (arith, n, zero_is))))

  -- nothing that is told can't be cut short
  cut_output : (made : IsMade of_files fo fn asked) → made.outcome.told ≡ []
      → IsUndelivered of_out oo on made.outcome.output of_report ro rn made.outcome.told
      → IsCutShort of_out oo on made.outcome.output × (rn ≡ ro)
  cut_output made nothing (inl cut) = cut
  cut_output made nothing (inr cut) = absurd (let short = cut.1.front.1 in let e = ap length nothing in omega (arith, short, e))

  pub gen_cut_short : status ≡ 6 → IfSome (option_and_then gen_in asked) (λ job. (run : ProgramRun) × IsRunOfGen job run × IsCutShort of_out oo on (gen_lines job run))
  gen_cut_short six = on_gen asked _ (λ job is. cases
      (λ _ n. absurd (omega (arith, n, six)))
      (λ _ n. absurd (omega (arith, n, six)))
      (λ _ _ _ _ n. absurd (omega (arith, n, six)))
      (λ c _. let o = made_gen c.made job is in
      (o.run, o.is_run, subst (IsCutShort of_out oo on) o.output_is (cut_output c.made o.report_is c.undelivered).0))
      (λ _ n. absurd (omega (arith, n, six)))
      (λ _ n. absurd (omega (arith, n, six))))

  -- no job of `gen` is refused, since it has no file
  never_refused : (s : Status) (h : IsFileRefused of_files fo fn oo on of_report ro rn asked s) (job : GenJob) → asked ≡ Some (Gen job) → ⊥
  never_refused s h job is =
      let cause : IsCauseOf IsUsable IsUnusable of_files fo fn [] h.refusal =
      subst (λ q. IsCauseOf IsUsable IsUnusable of_files fo fn (files_of q) h.refusal) (one asked h.request (Gen job) h.is_asked is) h.cause in
      let e : None ≡ Some cause.file = cause.ended.is_there in cc

  pub gen_statuses : IfSome (option_and_then gen_in asked) (λ _. (status ≡ 0) ⊎ ((status ≡ 6) ⊎ (status ≡ 7)))
  gen_statuses = on_gen asked _ (λ job is. cases
      (λ g _. inl (g.own ∙ (made_gen g.made job is).status_is))
      (λ u _. absurd (none (Gen job) u.nothing_asked is))
      (λ s h _ _ _. absurd (never_refused s h job is))
      (λ _ n. inr (inl n))
      (λ _ n. inr (inr n))
      (λ h _. absurd (let own = h.own in let zero_is = (made_gen h.made job is).status_is in omega (arith, own, zero_is))))

  pub gen_files : IfSome (option_and_then gen_in asked) (λ _. fn ≡ fo)
  gen_files = on_gen asked _ (λ job is. untouched of_files fo fn (subst (λ a. ReadsInOrder IsUsable of_files fo fn (asked_files a)) is answer.reads))

  pub gen_report : IfSome (option_and_then gen_in asked) (λ _. rn ≡ ro)
  gen_report = on_gen asked _ (λ job is. cases
      (λ g _. g.report.nothing (made_gen g.made job is).report_is)
      (λ u _. absurd (none (Gen job) u.nothing_asked is))
      (λ s h _ _ _. absurd (never_refused s h job is))
      (λ c _. (cut_output c.made (made_gen c.made job is).report_is c.undelivered).1)
      (λ u _. u.report_kept)
      (λ h _. absurd (let own = h.own in let zero_is = (made_gen h.made job is).status_is in omega (arith, own, zero_is))))

  pub gen_complete : IfSome (option_and_then gen_in asked) (λ _. (HasTrouble of_out oo on → ⊥) → (status ≡ 0) ⊎ (status ≡ 7))
  gen_complete = on_gen asked _ (λ job is no_out. cases
      (λ g _. inl (g.own ∙ (made_gen g.made job is).status_is))
      (λ u _. absurd (none (Gen job) u.nothing_asked is))
      (λ s h _ _ _. absurd (never_refused s h job is))
      (λ c _. absurd (no_out (cut_output c.made (made_gen c.made job is).report_is c.undelivered).0.trouble))
      (λ _ n. inr n)
      (λ h _. absurd (let own = h.own in let zero_is = (made_gen h.made job is).status_is in omega (arith, own, zero_is))))

  -- ---- `compile`

  pub compiled : status < 2 → IfSome (option_and_then compile_in asked) (λ job. (object : List ℕ) × IsObjectOfJob (of_files.holds fo) job object
      × (of_out.taken on ≡ append_known (of_out.taken oo) object) × (rn ≡ ro) × (status ≡ 0))
  compiled small = on_compile asked _ (λ job is. cases
      (λ g _. let o = made_compile g.made job is in
      (g.made.outcome.output, made_object g.made job is, g.output.0, g.report.nothing o.report_is, g.own ∙ o.status_is))
      (λ _ n. absurd (omega (arith, n, small)))
      (λ _ _ _ n _. absurd (omega (arith, n, small)))
      (λ _ n. absurd (omega (arith, n, small)))
      (λ _ n. absurd (omega (arith, n, small)))
      (λ _ n. absurd (omega (arith, n, small))))

  pub compile_cut_short : status ≡ 6 → IfSome (option_and_then compile_in asked) (λ job. (object : List ℕ) × IsObjectOfJob (of_files.holds fo) job object
      × IsCutShort of_out oo on object × (rn ≡ ro))
  compile_cut_short six = on_compile asked _ (λ job is. cases
      (λ _ n. absurd (omega (arith, n, six)))
      (λ _ n. absurd (omega (arith, n, six)))
      (λ _ _ _ _ n. absurd (omega (arith, n, six)))
      (λ c _. let cut = cut_output c.made (made_compile c.made job is).report_is c.undelivered in
      (c.made.outcome.output, made_object c.made job is, cut.0, cut.1))
      (λ _ n. absurd (omega (arith, n, six)))
      (λ _ n. absurd (omega (arith, n, six))))

  pub compile_refused_always : IfSome (option_and_then compile_in asked) (λ job. IsRejected IsUnusable (of_files.holds fo) (record { subject = subjects.Program; name = job.program })
      → (status ≡ 3) ⊎ ((status ≡ 5) ⊎ (status ≡ 7)))
  compile_refused_always = on_compile asked _ (λ job is rejected.
      let file : JobFile = record { subject = subjects.Program; name = job.program } in
      answer.rejected file (subst (λ a. slice_get (asked_files a) 0 ≡ Some file) (sym is) refl) rejected)

  -- ---- `exec`

  pub executed : status < 2 → IfSome (option_and_then exec_in asked) (λ job. (run : ProgramRun) × IsRunOfObject (of_files.holds fo) job run
      × (of_files.given fn ≡ length run.input) × (of_out.taken on ≡ append_known (of_out.taken oo) (written run.ends.output))
      × (of_report.taken rn ≡ append_known (of_report.taken ro) (report_of run.control.activations (length run.input) run.ends run.control.end))
      × (status ≡ status_of run.ends.ends run.control.end))
  executed small = on_exec asked _ (λ job is. cases
      (λ g _. let r = made_exec g.made job is in
      (r.0, r.1, r.2, g.output.0 ∙ ap (append_known (of_out.taken oo)) r.3, g.report.took.0 ∙ ap (append_known (of_report.taken ro)) r.4, g.own ∙ r.5))
      (λ _ n. absurd (omega (arith, n, small)))
      (λ _ _ _ n _. absurd (omega (arith, n, small)))
      (λ _ n. absurd (omega (arith, n, small)))
      (λ _ n. absurd (omega (arith, n, small)))
      (λ _ n. absurd (omega (arith, n, small))))

  pub exec_undelivered : status ≡ 6 → IfSome (option_and_then exec_in asked) (λ job. (run : ProgramRun) × IsRunOfObject (of_files.holds fo) job run
      × (of_files.given fn ≡ length run.input) × IsUndelivered of_out oo on (written run.ends.output)
      of_report ro rn (report_of run.control.activations (length run.input) run.ends run.control.end))
  exec_undelivered six = on_exec asked _ (λ job is. cases
      (λ _ n. absurd (omega (arith, n, six)))
      (λ _ n. absurd (omega (arith, n, six)))
      (λ _ _ _ _ n. absurd (omega (arith, n, six)))
      (λ c _. let r = made_exec c.made job is in (
        r.0,
        r.1,
        r.2,
        subst (λ bytes. IsUndelivered of_out oo on bytes of_report ro rn (report_of r.0.control.activations (length r.0.input) r.0.ends r.0.control.end)) r.3
            (subst (λ lines. IsUndelivered of_out oo on c.made.outcome.output of_report ro rn lines) r.4 c.undelivered),
      ))
      (λ _ n. absurd (omega (arith, n, six)))
      (λ _ n. absurd (omega (arith, n, six))))

  pub exec_refused_always : IfSome (option_and_then exec_in asked) (λ job. IsRejected IsUnusable (of_files.holds fo) (record { subject = subjects.Object; name = job.object })
      → (status ≡ 3) ⊎ ((status ≡ 5) ⊎ (status ≡ 7)))
  exec_refused_always = on_exec asked _ (λ job is rejected.
      let file : JobFile = record { subject = subjects.Object; name = job.object } in
      answer.rejected file (subst (λ a. slice_get (asked_files a) 0 ≡ Some file) (sym is) refl) rejected)

  -- ---- `explain`

  pub explained : status < 2 → IfSome (option_and_then explain_in asked) (λ job. (line : List ℕ)
      × IsLineOfJob (of_files.holds fo) job (of_files.given fn) line status
      × (of_out.taken on ≡ append_known (of_out.taken oo) line) × (rn ≡ ro))
  explained small = on_explain asked _ (λ job is. cases
      (λ g _. (
        g.made.outcome.output,
        subst (IsLineOfJob (of_files.holds fo) job (of_files.given fn) g.made.outcome.output) (sym g.own) (made_line g.made job is),
        g.output.0,
        g.report.nothing (made_explanation g.made job is).report_is,
      ))
      (λ _ n. absurd (omega (arith, n, small)))
      (λ _ _ _ n _. absurd (omega (arith, n, small)))
      (λ _ n. absurd (omega (arith, n, small)))
      (λ _ n. absurd (omega (arith, n, small)))
      (λ _ n. absurd (omega (arith, n, small))))

  pub explain_cut_short : status ≡ 6 → IfSome (option_and_then explain_in asked) (λ job. (line : List ℕ) × (own : ℕ)
      × IsLineOfJob (of_files.holds fo) job (of_files.given fn) line own × IsCutShort of_out oo on line × (rn ≡ ro))
  explain_cut_short six = on_explain asked _ (λ job is. cases
      (λ _ n. absurd (omega (arith, n, six)))
      (λ _ n. absurd (omega (arith, n, six)))
      (λ _ _ _ _ n. absurd (omega (arith, n, six)))
      (λ c _. let cut = cut_output c.made (made_explanation c.made job is).report_is c.undelivered in
      (c.made.outcome.output, c.made.outcome.own, made_line c.made job is, cut.0, cut.1))
      (λ _ n. absurd (omega (arith, n, six)))
      (λ _ n. absurd (omega (arith, n, six))))

  pub explain_refused_always : IfSome (option_and_then explain_in asked) (λ job. IsRejected IsUnusable (of_files.holds fo) (record { subject = subjects.Program; name = job.program })
      → (status ≡ 3) ⊎ ((status ≡ 5) ⊎ (status ≡ 7)))
  explain_refused_always = on_explain asked _ (λ job is rejected.
      let file : JobFile = record { subject = subjects.Program; name = job.program } in
      answer.rejected file (subst (λ a. slice_get (asked_files a) 0 ≡ Some file) (sym is) refl) rejected)

  -- ---- `trace`

  made_trace : (made : IsMade of_files fo fn asked) (job : Job) → asked ≡ Some (Trace job) → (o : IsOutcomeOfTrace made.contents job made.outcome)
      × IsTraceOfJob (of_files.holds fo) job (of_files.given fn) o.run made.outcome.output
  made_trace made job is =
      let same : made.request ≡ Trace job = one asked made.request (Trace job) made.is_asked is in
      let o : IsOutcomeOfTrace made.contents job made.outcome = subst (λ q. IsOutcome made.contents q made.outcome) same made.is_outcome in
      (o, the_trace of_files job fo fn made.contents made.outcome o (subst (λ q. WereRead IsUsable of_files fo fn (files_of q) made.contents) same made.read))

  pub traced : status < 2 → IfSome (option_and_then trace_in asked) (λ job. (run : ProgramRun) × (text : List ℕ)
      × IsTraceOfJob (of_files.holds fo) job (of_files.given fn) run text
      × (of_out.taken on ≡ append_known (of_out.taken oo) text)
      × (of_report.taken rn ≡ append_known (of_report.taken ro) (report_of run.control.activations (length run.input) run.ends run.control.end))
      × (status ≡ status_of run.ends.ends run.control.end))
  traced small = on_trace asked _ (λ job is. cases
      (λ g _. let t = made_trace g.made job is in
      (t.0.run, g.made.outcome.output, t.1, g.output.0, g.report.took.0 ∙ ap (append_known (of_report.taken ro)) t.0.report_is, g.own ∙ t.0.status_is))
      (λ _ n. absurd (omega (arith, n, small)))
      (λ _ _ _ n _. absurd (omega (arith, n, small)))
      (λ _ n. absurd (omega (arith, n, small)))
      (λ _ n. absurd (omega (arith, n, small)))
      (λ _ n. absurd (omega (arith, n, small))))

  pub trace_undelivered : status ≡ 6 → IfSome (option_and_then trace_in asked) (λ job. (run : ProgramRun) × (text : List ℕ)
      × IsTraceOfJob (of_files.holds fo) job (of_files.given fn) run text × IsUndelivered of_out oo on text
      of_report ro rn (report_of run.control.activations (length run.input) run.ends run.control.end))
  trace_undelivered six = on_trace asked _ (λ job is. cases
      (λ _ n. absurd (omega (arith, n, six)))
      (λ _ n. absurd (omega (arith, n, six)))
      (λ _ _ _ _ n. absurd (omega (arith, n, six)))
      (λ c _. let t = made_trace c.made job is in
      (t.0.run, c.made.outcome.output, t.1, subst (λ lines. IsUndelivered of_out oo on c.made.outcome.output of_report ro rn lines) t.0.report_is c.undelivered))
      (λ _ n. absurd (omega (arith, n, six)))
      (λ _ n. absurd (omega (arith, n, six))))

  pub trace_refused_always : IfSome (option_and_then trace_in asked) (λ job. IsRejected IsUnusable (of_files.holds fo) (record { subject = subjects.Program; name = job.program })
      → (status ≡ 3) ⊎ ((status ≡ 5) ⊎ (status ≡ 7)))
  trace_refused_always = on_trace asked _ (λ job is rejected.
      let file : JobFile = record { subject = subjects.Program; name = job.program } in
      answer.rejected file (subst (λ a. slice_get (asked_files a) 0 ≡ Some file) (sym is) refl) rejected)

  -- ---- `replay`

  -- what is meant to be given of a replay, and that its files were read
  made_replay : (made : IsMade of_files fo fn asked) (job : ReplayJob) → asked ≡ Some (Replay job)
      → IsOutcomeOfReplay made.contents job made.outcome × WereRead IsUsable of_files fo fn (files_of (Replay job)) made.contents
  made_replay made job is =
      let same : made.request ≡ Replay job = one asked made.request (Replay job) made.is_asked is in (
        subst (λ q. IsOutcome made.contents q made.outcome) same made.is_outcome,
        subst (λ q. WereRead IsUsable of_files fo fn (files_of q) made.contents) same made.read,
      )

  whole_replay : (made : IsMade of_files fo fn asked) (job : ReplayJob) → asked ≡ Some (Replay job) → made.outcome.own < 2
      → (run : ProgramRun) × IsRunByTrace (of_files.holds fo) job (of_files.given fn) run × GivesRun run made.outcome
  whole_replay made job is small =
      let m = made_replay made job is in the_replay of_files job fo fn made.contents made.outcome m.0 m.1 small

  pub replayed_whole : status < 2 → IfSome (option_and_then replay_in asked) (λ job. (run : ProgramRun)
      × IsRunByTrace (of_files.holds fo) job (of_files.given fn) run
      × (of_out.taken on ≡ append_known (of_out.taken oo) (written run.ends.output))
      × (of_report.taken rn ≡ append_known (of_report.taken ro) (report_of run.control.activations (length run.input) run.ends run.control.end))
      × (status ≡ status_of run.ends.ends run.control.end))
  replayed_whole small = on_replay asked _ (λ job is. cases
      (λ g _. let r = whole_replay g.made job is (subst (λ n. n < 2) g.own small) in (
        r.0,
        r.1,
        g.output.0 ∙ ap (append_known (of_out.taken oo)) r.2.output_is,
        g.report.took.0 ∙ ap (append_known (of_report.taken ro)) r.2.report_is,
        g.own ∙ r.2.status_is,
      ))
      (λ _ n. absurd (omega (arith, n, small)))
      (λ _ _ _ n _. absurd (omega (arith, n, small)))
      (λ _ n. absurd (omega (arith, n, small)))
      (λ _ n. absurd (omega (arith, n, small)))
      (λ _ n. absurd (omega (arith, n, small))))

  pub replay_undelivered : status ≡ 6 → IfSome (option_and_then replay_in asked) (λ job. (run : ProgramRun)
      × IsRunByTrace (of_files.holds fo) job (of_files.given fn) run × IsUndelivered of_out oo on (written run.ends.output)
      of_report ro rn (report_of run.control.activations (length run.input) run.ends run.control.end))
  replay_undelivered six = on_replay asked _ (λ job is. cases
      (λ _ n. absurd (omega (arith, n, six)))
      (λ _ n. absurd (omega (arith, n, six)))
      (λ _ _ _ _ n. absurd (omega (arith, n, six)))
      (λ c _. let r = whole_replay c.made job is c.own in (
        r.0,
        r.1,
        subst (λ bytes. IsUndelivered of_out oo on bytes of_report ro rn (report_of r.0.control.activations (length r.0.input) r.0.ends r.0.control.end)) r.2.output_is
            (subst (λ lines. IsUndelivered of_out oo on c.made.outcome.output of_report ro rn lines) r.2.report_is c.undelivered),
      ))
      (λ _ n. absurd (omega (arith, n, six)))
      (λ _ n. absurd (omega (arith, n, six))))

  pub not_replayed : status ≡ 8 → IfSome (option_and_then replay_in asked) (λ job. (line : List ℕ)
      × IsLineOfReplay (of_files.holds fo) job (of_files.given fn) line × (on ≡ oo) × Tells of_report ro rn line)
  not_replayed eight = on_replay asked _ (λ job is. cases
      (λ _ n. absurd (omega (arith, n, eight)))
      (λ _ n. absurd (omega (arith, n, eight)))
      (λ _ _ _ _ n. absurd (omega (arith, n, eight)))
      (λ _ n. absurd (omega (arith, n, eight)))
      (λ _ n. absurd (omega (arith, n, eight)))
      (λ h _. let m = made_replay h.made job is in
      (h.made.outcome.told, the_replay_line of_files job fo fn h.made.contents h.made.outcome m.0 m.1 h.own, h.output_kept, h.report)))

  pub replay_refused_always : IfSome (option_and_then replay_in asked) (λ job. IsRejected IsUnusable (of_files.holds fo) (record { subject = subjects.Program; name = job.program })
      → (status ≡ 3) ⊎ ((status ≡ 5) ⊎ (status ≡ 7)))
  replay_refused_always = on_replay asked _ (λ job is rejected.
      let file : JobFile = record { subject = subjects.Program; name = job.program } in
      answer.rejected file (subst (λ a. slice_get (asked_files a) 0 ≡ Some file) (sym is) refl) rejected)

  -- a trace that is refused was not read as one
  not_a_trace : NeverUsableAndRefused → (made : IsMade of_files fo fn asked) (job : ReplayJob) → asked ≡ Some (Replay job)
      → IsRejected IsUnusable (of_files.holds fo) (record { subject = subjects.Trace; name = job.trace }) → ⊥
  not_a_trace both made job is rejected =
      let m = made_replay made job is in
      let lists = (read_for_replay of_files job fo fn made.contents made.outcome m.0 m.1).are_lists in
      let same : lists.told ≡ rejected.bytes = subst (λ t. IfSome t (λ held. lists.told ≡ held)) rejected.told lists.told_read.is_held in
      both subjects.Trace rejected.bytes rejected.code rejected.line
      (subst (λ bytes. IsUsable subjects.Trace bytes) same (m.0.lists, lists.is_trace)) rejected.refused

  -- the cause of a refusal is no file that is told to be within its limit
  never_too_long : (s : Status) (h : IsFileRefused of_files fo fn oo on of_report ro rn asked s) (job : ReplayJob) → asked ≡ Some (Replay job)
      → All (FitsAsTold (of_files.holds fo)) (files_of (Replay job)) → status_code (refusal_status h.refusal) ≡ 4 → ⊥
  never_too_long s h job is fit four =
      let cause = subst (λ q. IsCauseOf IsUsable IsUnusable of_files fo fn (files_of q) h.refusal) (one asked h.request (Replay job) h.is_asked is) h.cause in
      let files = files_of (Replay job) in
      let before = cause.ended.before in
      let k = kept of_files fo before (take cause.place files) cause.ended.contents cause.ended.earlier in
      let here : FitsAsTold (of_files.holds fo) cause.file =
      subst (FitsAsTold (of_files.holds fo)) (get_or_from_slice_get files cause.place cause.file cause.file cause.ended.is_there)
      (All-get_or (FitsAsTold (of_files.holds fo)) files cause.place cause.file (slice_get_within files cause.place cause.file cause.ended.is_there) fit) in
      fits_so of_files before fn cause.file h.refusal (subst (λ h. FitsAsTold h cause.file) (sym k.0) here) cause.failed four

  pub trace_rejected_always : NeverUsableAndRefused → IfSome (option_and_then replay_in asked) (λ job.
      IsReadable IsUsable (of_files.holds fo) (record { subject = subjects.Program; name = job.program })
      → IsReadable IsUsable (of_files.holds fo) (record { subject = subjects.Input; name = job.input })
      → IsRejected IsUnusable (of_files.holds fo) (record { subject = subjects.Trace; name = job.trace })
      → (status ≡ 3) ⊎ ((status ≡ 5) ⊎ (status ≡ 7)))
  trace_rejected_always both = on_replay asked _ (λ job is program input rejected. cases
      (λ g _. absurd (not_a_trace both g.made job is rejected))
      (λ u _. absurd (none (Replay job) u.nothing_asked is))
      (λ s h status_is low high. three_or_five low high (λ four. never_too_long s h job is
      (fit_all job program input rejected) (sym (status_is ∙ ap status_code h.answered_is) ∙ four)))
      (λ c _. absurd (not_a_trace both c.made job is rejected))
      (λ _ n. inr (inr n))
      (λ h _. absurd (not_a_trace both h.made job is rejected)))
    where
      three_or_five : 3 ≤ status → status ≤ 5 → (status ≡ 4 → ⊥) → (status ≡ 3) ⊎ ((status ≡ 5) ⊎ (status ≡ 7))
      three_or_five low high not_four = elim (cases_lt status 4) [
        | inl small ↦ inl (omega (arith, small, low))
        | inr large ↦ elim (cases_lt status 5) [
          | inl below ↦ absurd (not_four (omega (arith, large, below)))
          | inr past ↦ inr (inl (omega (arith, past, high)))
        ]
      ]

      fit_all : (job : ReplayJob) → IsReadable IsUsable (of_files.holds fo) (record { subject = subjects.Program; name = job.program })
          → IsReadable IsUsable (of_files.holds fo) (record { subject = subjects.Input; name = job.input })
          → IsRejected IsUnusable (of_files.holds fo) (record { subject = subjects.Trace; name = job.trace })
          → All (FitsAsTold (of_files.holds fo)) (files_of (Replay job))
      fit_all job program input rejected =
          let P = FitsAsTold (of_files.holds fo) in
          let first : JobFile = record { subject = subjects.Program; name = job.program } in
          let second : JobFile = record { subject = subjects.Input; name = job.input } in
          let third : JobFile = record { subject = subjects.Trace; name = job.trace } in
          All-cons P first (second ∷ third ∷ []) (program.bytes, program.told, program.fits)
          (All-cons P second (third ∷ []) (input.bytes, input.told, input.fits)
          (All-cons P third [] (rejected.bytes, rejected.told, rejected.fits) (All-nil P)))

  -- ---- what stays

  pub keeps : (of_files.faults fo ≤ of_files.faults fn) × (of_files.holds fn ≡ of_files.holds fo) × (of_files.may fn ≡ of_files.may fo)
  keeps = reading_keeps of_files fo fn (asked_files asked) answer.reads
