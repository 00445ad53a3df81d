-- What is given doesn't depend on the number of workers.
use Rattle.std.proofs.Common.{◌≡◌, ◌∙◌, ◌*◌, subst, ℕ, List, [], ◌∷◌, Option, Some, All, IfSome, refl, sym, ap, length, map, get_or}
use Rattle.std.specs.Prelude.{unwrap_or}
use Rattle.std.proofs.lemmas.List.Elements.{All-head, All-tail}
use Rattle.std.proofs.lemmas.Option.{same_Some}
use Rattle.cddf_meaning.specs.Control.{control}
use Rattle.collector.specs.Report.{report}
use Rattle.collector.specs.Status.{status}
use Rattle.collector.specs.Written.{written}
use Rattle.epoch_run_bodies.specs.Frames.{code_ends}
use Rattle.flow_core_laws.specs.declared.control.Control.{Control}
use Rattle.flow_core_laws.specs.declared.ends.Ends.{Ends}
use Rattle.front_end.specs.Texts.{IsAccepted, OneProgram}
use Rattle.kernels.specs.Generated.{generated}
use Rattle.kernels.specs.declared.texts.TheConstants.{LIFT}
use Rattle.os_ast.specs.Trees.{ProgramTree}
use Rattle.os_code.specs.Outcomes as machine
use Rattle.os_code.specs.declared.parts.Parts.{Parts}
use Rattle.epoch_run_bodies.specs.Laws.{AgreeingBodiesMeanOne}
use Rattle.os_object.specs.Object.{OneReading, Spells}
use Rattle.os_io.specs.declared.files.Files.{Ghosts as FilesView}
use Rattle.osrun_core_answer.specs.Answers.{IsMade}
use Rattle.osrun_core_answer.proofs.Findings.{same_finding}
use Rattle.osrun_core_answer.specs.Explained.{finding_status}
use Rattle.osrun_core_answer.specs.Gen.{four_lines, gen_budget, gen_lines}
use Rattle.osrun_core_answer.specs.Laws.{IsTold, ObjectsRunAsTexts, SameButForWorkers, TracesReportAsRuns, TracesReportTheSame, WorkersChangeNothing}
use Rattle.osrun_core_answer.specs.JobOutcome.{IsOutcome, IsOutcomeOfExec, IsOutcomeOfExplain, IsOutcomeOfGen, IsOutcomeOfRun, IsOutcomeOfTrace, JobOutcome}
use Rattle.osrun_core_jobs.specs.Files.{JobFile, files_of}
use Rattle.osrun_core_jobs.specs.Jobs.{Compile, Exec, ExecJob, Explain, ExplainJob, Gen, GenJob, Job, Replay, Request, Run, Trace}
use Rattle.osrun_core_jobs.specs.Reading.{WereRead}
use Rattle.osrun_core_run.specs.Code.{IsCodeOf}
use Rattle.osrun_core_run.specs.Refusal.{IsUsable}
use Rattle.osrun_core_run.proofs.TasksRun.{same_ends}
use Rattle.osrun_core_run.specs.Run.{ProgramRun, ends_over}
use Rattle.wait_certs.specs.Finding.{IsFinding, finding_line}
use Rattle.wait_certs.specs.declared.finding.Finding.{Finding}
use Rattle.wait_certs_laws.specs.Laws.{OneWalk}

-- a run by what it is of
abbrev run_of : ProgramTree → List ℕ → (task_budget control_budget : ℕ) → ProgramRun
run_of p input task_budget control_budget =
    let made = control p (length input) control_budget in
    record { control = made; input = input; ends = ends_over p made.activations input task_budget }

-- a run that has the control and the ends of one is that one
is_run_of : (p : ProgramTree) (task_budget control_budget : ℕ) (run : ProgramRun) → run.control ≡ control p (length run.input) control_budget
    → run.ends ≡ ends_over p run.control.activations run.input task_budget → run ≡ run_of p run.input task_budget control_budget
is_run_of p task_budget control_budget run control_is ends_are =
    ap (λ (e : Ends). record { control = run.control; input = run.input; ends = e }) ends_are
    ∙ ap (λ (c : Control). record { control = c; input = run.input; ends = ends_over p c.activations run.input task_budget }) control_is

-- and the run of a code
abbrev exec_run : Parts → List ℕ → (task_budget control_budget : ℕ) → ProgramRun
exec_run code input task_budget control_budget =
    let made = machine.main_control code (length input) control_budget in
    record { control = made; input = input; ends = code_ends code made.activations input task_budget }

is_exec_run : (code : Parts) (task_budget control_budget : ℕ) (run : ProgramRun) → run.control ≡ machine.main_control code (length run.input) control_budget
    → run.ends ≡ code_ends code run.control.activations run.input task_budget → run ≡ exec_run code run.input task_budget control_budget
is_exec_run code task_budget control_budget run control_is ends_are =
    ap (λ (e : Ends). record { control = run.control; input = run.input; ends = e }) ends_are
    ∙ ap (λ (c : Control). record { control = c; input = run.input; ends = code_ends code c.activations run.input task_budget }) control_is

-- what is given of a run, and what is given of one of `gen`
abbrev outcome_of : ProgramRun → JobOutcome
outcome_of run = record {
  output = written run.ends.output;
  told = report run.control.activations (length run.input) run.ends run.control.end;
  own = status run.ends.ends run.control.end;
}

abbrev gen_outcome : GenJob → ProgramRun → JobOutcome
gen_outcome job run = record { output = gen_lines job run; told = []; own = 0 }

abbrev explain_outcome : ProgramRun → (activation : ℕ) → Finding → JobOutcome
explain_outcome run activation finding = record {
  output = finding_line activation finding;
  told = [];
  own = finding_status finding;
}

-- outcomes with the same parts are the same
same_outcome : (o q : JobOutcome) → o.output ≡ q.output → o.told ≡ q.told → o.own ≡ q.own → o ≡ q
same_outcome o q output told own =
    ap (λ x. record { output = x; told = o.told; own = o.own }) output
    ∙ ap (λ x. record { output = q.output; told = x; own = o.own }) told
    ∙ ap (λ x. record { output = q.output; told = q.told; own = x }) own

is_outcome_of : (contents : List (List ℕ)) (job : Job) (outcome : JobOutcome) (o : IsOutcomeOfRun contents job outcome)
    → outcome ≡ outcome_of (run_of o.program o.run.input job.task_budget job.control_budget)
is_outcome_of contents job outcome o =
    same_outcome outcome (outcome_of o.run) o.output_is o.report_is o.status_is
    ∙ ap outcome_of (is_run_of o.program job.task_budget job.control_budget o.run o.control_is o.ends_are)

is_exec_outcome_of : (contents : List (List ℕ)) (job : ExecJob) (outcome : JobOutcome) (o : IsOutcomeOfExec contents job outcome)
    → outcome ≡ outcome_of (exec_run o.code o.run.input job.task_budget job.control_budget)
is_exec_outcome_of contents job outcome o =
    same_outcome outcome (outcome_of o.run) o.output_is o.report_is o.status_is
    ∙ ap outcome_of (is_exec_run o.code job.task_budget job.control_budget o.run o.control_is o.ends_are)

is_gen_outcome_of : (contents : List (List ℕ)) (job : GenJob) (outcome : JobOutcome) (o : IsOutcomeOfGen contents job outcome)
    → outcome ≡ gen_outcome job (run_of o.is_run.program (generated job.seed (4 * job.blocks)) gen_budget gen_budget)
is_gen_outcome_of contents job outcome o =
    same_outcome outcome (gen_outcome job o.run) o.output_is o.report_is o.status_is
    ∙ ap (gen_outcome job) (is_run_of o.is_run.program gen_budget gen_budget o.run o.is_run.control_is o.is_run.ends_are
    ∙ ap (λ input. run_of o.is_run.program input gen_budget gen_budget) o.is_run.input_is)

-- the run of which a trace is written, with what `run` gives of it
untraced : (contents : List (List ℕ)) (trace : Job) (traced : JobOutcome) (o : IsOutcomeOfTrace contents trace traced)
    → IsOutcomeOfRun contents trace (record { output = written o.run.ends.output; told = traced.told; own = traced.own })
untraced contents trace traced o = record {
  text = o.text;
  run = o.run;
  contents_are = o.contents_are;
  program = o.program;
  is_program = o.is_program;
  control_is = o.control_is;
  ends_are = o.ends_are;
  output_is = refl;
  report_is = o.report_is;
  status_is = o.status_is;
}

module _ (one : OneProgram) (reading : OneReading) (walks : OneWalk) where
  of_runs : (contents : List (List ℕ)) (job other : Job) (outcome another : JobOutcome) → SameButForWorkers (Run job) (Run other)
      → IsOutcomeOfRun contents job outcome → IsOutcomeOfRun contents other another → outcome ≡ another
  of_runs contents job other outcome another same o q =
      let contents_same = sym o.contents_are ∙ q.contents_are in
      let texts : o.text ≡ q.text = ap (λ xs. get_or xs 0 []) contents_same in
      let inputs : o.run.input ≡ q.run.input = ap (λ xs. get_or xs 1 []) contents_same in
      let programs : o.program ≡ q.program = one q.text o.program q.program (subst (λ t. IsAccepted t o.program) texts o.is_program) q.is_program in
      is_outcome_of contents job outcome o
      ∙ ap (λ p. outcome_of (run_of p o.run.input job.task_budget job.control_budget)) programs
      ∙ ap (λ input. outcome_of (run_of q.program input job.task_budget job.control_budget)) inputs
      ∙ ap (λ n. outcome_of (run_of q.program q.run.input n job.control_budget)) same.2
      ∙ ap (λ n. outcome_of (run_of q.program q.run.input other.task_budget n)) same.3
      ∙ sym (is_outcome_of contents other another q)

  of_execs : (contents : List (List ℕ)) (job other : ExecJob) (outcome another : JobOutcome) → SameButForWorkers (Exec job) (Exec other)
      → IsOutcomeOfExec contents job outcome → IsOutcomeOfExec contents other another → outcome ≡ another
  of_execs contents job other outcome another same o q =
      let contents_same = sym o.contents_are ∙ q.contents_are in
      let objects : o.object ≡ q.object = ap (λ xs. get_or xs 0 []) contents_same in
      let inputs : o.run.input ≡ q.run.input = ap (λ xs. get_or xs 1 []) contents_same in
      let codes : o.code ≡ q.code = reading q.object o.code q.code (subst (λ b. Spells b o.code) objects o.is_object.spelled) q.is_object.spelled in
      is_exec_outcome_of contents job outcome o
      ∙ ap (λ code. outcome_of (exec_run code o.run.input job.task_budget job.control_budget)) codes
      ∙ ap (λ input. outcome_of (exec_run q.code input job.task_budget job.control_budget)) inputs
      ∙ ap (λ n. outcome_of (exec_run q.code q.run.input n job.control_budget)) same.2
      ∙ ap (λ n. outcome_of (exec_run q.code q.run.input other.task_budget n)) same.3
      ∙ sym (is_exec_outcome_of contents other another q)

  of_explains : (contents : List (List ℕ)) (job other : ExplainJob) (outcome another : JobOutcome) → SameButForWorkers (Explain job) (Explain other)
      → IsOutcomeOfExplain contents job outcome → IsOutcomeOfExplain contents other another → outcome ≡ another
  of_explains contents job other outcome another same o q =
      let contents_same = sym o.contents_are ∙ q.contents_are in
      let texts : o.text ≡ q.text = ap (λ xs. get_or xs 0 []) contents_same in
      let inputs : o.run.input ≡ q.run.input = ap (λ xs. get_or xs 1 []) contents_same in
      let programs : o.program ≡ q.program = one q.text o.program q.program (subst (λ t. IsAccepted t o.program) texts o.is_program) q.is_program in
      let runs : o.run ≡ q.run =
      is_run_of o.program job.task_budget job.control_budget o.run o.control_is o.ends_are
      ∙ ap (λ p. run_of p o.run.input job.task_budget job.control_budget) programs
      ∙ ap (λ input. run_of q.program input job.task_budget job.control_budget) inputs
      ∙ ap (λ n. run_of q.program q.run.input n job.control_budget) same.3
      ∙ ap (λ n. run_of q.program q.run.input other.task_budget n) same.4
      ∙ sym (is_run_of q.program other.task_budget other.control_budget q.run q.control_is q.ends_are) in
      let of_run = subst (λ (r : ProgramRun). IsFinding r.control.activations (length r.input) r.ends.ends job.activation o.explains.finding) runs o.explains.is_finding in
      let found = subst (λ a. IsFinding q.run.control.activations (length q.run.input) q.run.ends.ends a o.explains.finding) same.2 of_run in
      same_outcome outcome (explain_outcome o.run job.activation o.explains.finding) o.explains.text_is o.report_is o.explains.own_is
      ∙ ap (λ r. explain_outcome r job.activation o.explains.finding) runs
      ∙ ap (λ a. explain_outcome q.run a o.explains.finding) same.2
      ∙ ap (explain_outcome q.run other.activation)
      (same_finding walks q.run.control.activations (length q.run.input) q.run.ends.ends other.activation o.explains.finding q.explains.finding found q.explains.is_finding)
      ∙ sym (same_outcome another (explain_outcome q.run other.activation q.explains.finding) q.explains.text_is q.report_is q.explains.own_is)

  of_gens : (contents : List (List ℕ)) (job other : GenJob) (outcome another : JobOutcome) → SameButForWorkers (Gen job) (Gen other)
      → IsOutcomeOfGen contents job outcome → IsOutcomeOfGen contents other another → outcome ≡ another
  of_gens contents job other outcome another same o q =
      let programs : o.is_run.program ≡ q.is_run.program = one LIFT.now o.is_run.program q.is_run.program o.is_run.is_program q.is_run.is_program in
      is_gen_outcome_of contents job outcome o
      ∙ ap (λ p. gen_outcome job (run_of p (generated job.seed (4 * job.blocks)) gen_budget gen_budget)) programs
      ∙ ap (λ s. gen_of q.is_run.program s job.blocks) same.0
      ∙ ap (λ b. gen_of q.is_run.program other.seed b) same.1
      ∙ sym (is_gen_outcome_of contents other another q)
    where
      gen_of : ProgramTree → (seed blocks : ℕ) → JobOutcome
      gen_of p seed blocks =
          let run = run_of p (generated seed (4 * blocks)) gen_budget gen_budget in
          record { output = four_lines (record { seed = seed; blocks = blocks; workers = 1 }) run.input (written run.ends.output) (status run.ends.ends run.control.end); told = []; own = 0 }

  pub change_nothing : WorkersChangeNothing
  change_nothing contents (Run job) (Run other) outcome another same o q = of_runs contents job other outcome another same o q
  change_nothing contents (Gen job) (Gen other) outcome another same o q = of_gens contents job other outcome another same o q
  change_nothing contents (Exec job) (Exec other) outcome another same o q = of_execs contents job other outcome another same o q
  change_nothing contents (Explain job) (Explain other) outcome another same o q = of_explains contents job other outcome another same o q
  change_nothing contents (Run job) (Gen other) outcome another same o q = absurd same
  change_nothing contents (Run job) (Compile other) outcome another same o q = absurd same
  change_nothing contents (Run job) (Exec other) outcome another same o q = absurd same
  change_nothing contents (Gen job) (Run other) outcome another same o q = absurd same
  change_nothing contents (Gen job) (Compile other) outcome another same o q = absurd same
  change_nothing contents (Gen job) (Exec other) outcome another same o q = absurd same
  change_nothing contents (Compile job) (Run other) outcome another same o q = absurd same
  change_nothing contents (Compile job) (Gen other) outcome another same o q = absurd same
  change_nothing contents (Compile job) (Compile other) outcome another same o q = absurd same
  change_nothing contents (Compile job) (Exec other) outcome another same o q = absurd same
  change_nothing contents (Exec job) (Run other) outcome another same o q = absurd same
  change_nothing contents (Exec job) (Gen other) outcome another same o q = absurd same
  change_nothing contents (Exec job) (Compile other) outcome another same o q = absurd same
  change_nothing contents (Run job) (Explain other) outcome another same o q = absurd same
  change_nothing contents (Gen job) (Explain other) outcome another same o q = absurd same
  change_nothing contents (Compile job) (Explain other) outcome another same o q = absurd same
  change_nothing contents (Exec job) (Explain other) outcome another same o q = absurd same
  change_nothing contents (Explain job) (Run other) outcome another same o q = absurd same
  change_nothing contents (Explain job) (Gen other) outcome another same o q = absurd same
  change_nothing contents (Explain job) (Compile other) outcome another same o q = absurd same
  change_nothing contents (Explain job) (Exec other) outcome another same o q = absurd same
  change_nothing contents (Run job) (Trace other) outcome another same o q = absurd same
  change_nothing contents (Run job) (Replay other) outcome another same o q = absurd same
  change_nothing contents (Gen job) (Trace other) outcome another same o q = absurd same
  change_nothing contents (Gen job) (Replay other) outcome another same o q = absurd same
  change_nothing contents (Compile job) (Trace other) outcome another same o q = absurd same
  change_nothing contents (Compile job) (Replay other) outcome another same o q = absurd same
  change_nothing contents (Exec job) (Trace other) outcome another same o q = absurd same
  change_nothing contents (Exec job) (Replay other) outcome another same o q = absurd same
  change_nothing contents (Explain job) (Trace other) outcome another same o q = absurd same
  change_nothing contents (Explain job) (Replay other) outcome another same o q = absurd same
  change_nothing contents (Trace job) (Run other) outcome another same o q = absurd same
  change_nothing contents (Trace job) (Gen other) outcome another same o q = absurd same
  change_nothing contents (Trace job) (Compile other) outcome another same o q = absurd same
  change_nothing contents (Trace job) (Exec other) outcome another same o q = absurd same
  change_nothing contents (Trace job) (Explain other) outcome another same o q = absurd same
  change_nothing contents (Trace job) (Trace other) outcome another same o q = absurd same
  change_nothing contents (Trace job) (Replay other) outcome another same o q = absurd same
  change_nothing contents (Replay job) (Run other) outcome another same o q = absurd same
  change_nothing contents (Replay job) (Gen other) outcome another same o q = absurd same
  change_nothing contents (Replay job) (Compile other) outcome another same o q = absurd same
  change_nothing contents (Replay job) (Exec other) outcome another same o q = absurd same
  change_nothing contents (Replay job) (Explain other) outcome another same o q = absurd same
  change_nothing contents (Replay job) (Trace other) outcome another same o q = absurd same
  change_nothing contents (Replay job) (Replay other) outcome another same o q = absurd same

  pub report_as_runs : TracesReportAsRuns
  report_as_runs contents trace run traced of_run same o q =
      let as_run : JobOutcome = record { output = written o.run.ends.output; told = traced.told; own = traced.own } in
      let e : as_run ≡ of_run = of_runs contents trace run as_run of_run same (untraced contents trace traced o) q in
      (ap (λ x. x.told) e, ap (λ x. x.own) e)

  pub report_the_same : TracesReportTheSame
  report_the_same contents trace other traced another same o q =
      report_as_runs contents trace other traced (record { output = written q.run.ends.output; told = another.told; own = another.own })
      same o (untraced contents other another q)

-- the object of a text's code runs as the text
pub objects_run : OneProgram → OneReading → AgreeingBodiesMeanOne → ObjectsRunAsTexts
objects_run one reading agreeing text input compile exec run object of_object of_text budgets made o q =
    let objects : object.output ≡ o.object = ap (λ xs. get_or xs 0 []) o.contents_are in
    let inputs : input ≡ o.run.input = ap (λ xs. get_or xs 1 []) o.contents_are in
    let inputs_too : input ≡ q.run.input = ap (λ xs. get_or xs 1 []) q.contents_are in
    let texts : text ≡ made.text = ap (λ xs. get_or xs 0 []) made.contents_are in
    let texts_too : text ≡ q.text = ap (λ xs. get_or xs 0 []) q.contents_are in
    let codes : o.code ≡ made.code = reading o.object o.code made.code o.is_object.spelled (subst (λ b. Spells b made.code) objects made.is_object) in
    let programs : made.program ≡ q.program =
    one q.text made.program q.program (subst (λ t. IsAccepted t made.program) (sym texts ∙ texts_too) made.is_program) q.is_program in
    let code_for : IsCodeOf o.code q.program =
    subst (λ c. IsCodeOf c q.program) (sym codes) (subst (λ p. IsCodeOf made.code p) programs made.is_code) in
    let run_is : o.run ≡ run_of q.program o.run.input exec.task_budget exec.control_budget =
    is_run_of q.program exec.task_budget exec.control_budget o.run
    (o.control_is ∙ code_for.control (length o.run.input) exec.control_budget)
    (o.ends_are ∙ same_ends o.code q.program o.run.control.activations exec.task_budget code_for.bodies o.fit agreeing o.run.input) in
    same_outcome of_object (outcome_of o.run) o.output_is o.report_is o.status_is
    ∙ ap outcome_of run_is
    ∙ ap (λ i. outcome_of (run_of q.program i exec.task_budget exec.control_budget)) (sym inputs ∙ inputs_too)
    ∙ ap (λ n. outcome_of (run_of q.program q.run.input n exec.control_budget)) (sym budgets.0)
    ∙ ap (λ n. outcome_of (run_of q.program q.run.input run.task_budget n)) (sym budgets.1)
    ∙ sym (is_outcome_of (text ∷ input ∷ []) run of_text q)

-- what a file holds, where that is told
abbrev held_by : (List ℕ → Option (List ℕ)) → JobFile → List ℕ
held_by holds file = unwrap_or (holds file.name) []

-- what was read of files that are told is what they hold
contents_told : {F : Type 0} (view : FilesView F) (old new : F) (files : List JobFile) (contents : List (List ℕ)) → WereRead IsUsable view old new files contents
    → All (IsTold (view.holds old)) files → contents ≡ map (held_by (view.holds old)) files
contents_told view old new [] [] read told = refl
contents_told view old new [] (bytes ∷ contents) read told = absurd read
contents_told view old new (file ∷ files) [] read told = absurd read
contents_told view old new (file ∷ files) (bytes ∷ contents) read told =
    let first = All-head (IsTold (view.holds old)) file files told in
    let bytes_are : bytes ≡ first.0 = subst (λ t. IfSome t (λ held. bytes ≡ held)) first.1 read.1.read.is_held in
    let head : bytes ≡ held_by (view.holds old) file = bytes_are ∙ sym (ap (λ o. unwrap_or o []) first.1) in
    let tail = contents_told view read.0 new files contents read.2
    (subst (λ h. All (IsTold h) files) (sym read.1.holds_kept) (All-tail (IsTold (view.holds old)) file files told)) in
    ap (λ xs. bytes ∷ xs) (tail ∙ ap (λ h. map (held_by h) files) read.1.holds_kept) ∙ ap (λ x. x ∷ map (held_by (view.holds old)) files) head

-- requests that differ in their workers have the same files
same_files : (request other : Request) → SameButForWorkers request other → files_of request ≡ files_of other
same_files (Run job) (Run other) same =
    ap (λ name. files_of (Run (record job { program = name }))) same.0
    ∙ ap (λ name. files_of (Run (record job { program = other.program; input = name }))) same.1
same_files (Gen job) (Gen other) same = refl
same_files (Exec job) (Exec other) same =
    ap (λ name. files_of (Exec (record job { object = name }))) same.0
    ∙ ap (λ name. files_of (Exec (record job { object = other.object; input = name }))) same.1
same_files (Explain job) (Explain other) same =
    ap (λ name. files_of (Explain (record job { program = name }))) same.0
    ∙ ap (λ name. files_of (Explain (record job { program = other.program; input = name }))) same.1
same_files (Run job) (Gen other) same = absurd same
same_files (Run job) (Compile other) same = absurd same
same_files (Run job) (Exec other) same = absurd same
same_files (Gen job) (Run other) same = absurd same
same_files (Gen job) (Compile other) same = absurd same
same_files (Gen job) (Exec other) same = absurd same
same_files (Compile job) (Run other) same = absurd same
same_files (Compile job) (Gen other) same = absurd same
same_files (Compile job) (Compile other) same = absurd same
same_files (Compile job) (Exec other) same = absurd same
same_files (Exec job) (Run other) same = absurd same
same_files (Exec job) (Gen other) same = absurd same
same_files (Exec job) (Compile other) same = absurd same
same_files (Run job) (Explain other) same = absurd same
same_files (Gen job) (Explain other) same = absurd same
same_files (Compile job) (Explain other) same = absurd same
same_files (Exec job) (Explain other) same = absurd same
same_files (Explain job) (Run other) same = absurd same
same_files (Explain job) (Gen other) same = absurd same
same_files (Explain job) (Compile other) same = absurd same
same_files (Explain job) (Exec other) same = absurd same
same_files (Run job) (Trace other) same = absurd same
same_files (Run job) (Replay other) same = absurd same
same_files (Gen job) (Trace other) same = absurd same
same_files (Gen job) (Replay other) same = absurd same
same_files (Compile job) (Trace other) same = absurd same
same_files (Compile job) (Replay other) same = absurd same
same_files (Exec job) (Trace other) same = absurd same
same_files (Exec job) (Replay other) same = absurd same
same_files (Explain job) (Trace other) same = absurd same
same_files (Explain job) (Replay other) same = absurd same
same_files (Trace job) (Run other) same = absurd same
same_files (Trace job) (Gen other) same = absurd same
same_files (Trace job) (Compile other) same = absurd same
same_files (Trace job) (Exec other) same = absurd same
same_files (Trace job) (Explain other) same = absurd same
same_files (Trace job) (Trace other) same = absurd same
same_files (Trace job) (Replay other) same = absurd same
same_files (Replay job) (Run other) same = absurd same
same_files (Replay job) (Gen other) same = absurd same
same_files (Replay job) (Compile other) same = absurd same
same_files (Replay job) (Exec other) same = absurd same
same_files (Replay job) (Explain other) same = absurd same
same_files (Replay job) (Trace other) same = absurd same
same_files (Replay job) (Replay other) same = absurd same

pub made_same : {F : Type 0} (view : FilesView F) (old new other_old other_new : F) → OneProgram → OneReading → OneWalk → view.holds other_old ≡ view.holds old
    → (request other : Request) → SameButForWorkers request other → All (IsTold (view.holds old)) (files_of request)
    → (one : IsMade view old new (Some request)) (two : IsMade view other_old other_new (Some other)) → one.outcome ≡ two.outcome
made_same view old new other_old other_new unique reading walks holds request other same told one two =
    let asked : one.request ≡ request = same_Some one.request request (sym one.is_asked) in
    let asked_too : two.request ≡ other = same_Some two.request other (sym two.is_asked) in
    let files = same_files request other same in
    let first = contents_told view old new (files_of request) one.contents (subst (λ q. WereRead IsUsable view old new (files_of q) one.contents) asked one.read) told in
    let told_too : All (IsTold (view.holds other_old)) (files_of other) =
    subst (λ h. All (IsTold h) (files_of other)) (sym holds) (subst (All (IsTold (view.holds old))) files told) in
    let second = contents_told view other_old other_new (files_of other) two.contents (subst (λ q. WereRead IsUsable view other_old other_new (files_of q) two.contents) asked_too two.read) told_too in
    let contents : one.contents ≡ two.contents =
    first ∙ ap (map (held_by (view.holds old))) files ∙ ap (λ h. map (held_by h) (files_of other)) (sym holds) ∙ sym second in
    change_nothing unique reading walks two.contents request other one.outcome two.outcome same
    (subst (λ xs. IsOutcome xs request one.outcome) contents (subst (λ q. IsOutcome one.contents q one.outcome) asked one.is_outcome))
    (subst (λ q. IsOutcome two.contents q two.outcome) asked_too two.is_outcome)
