use Rattle.std.proofs.Common.{[], ◌∷◌, subst}
use Rattle.std.proofs.lemmas.Result.{err_from_is_err_and}
use Rattle.os_ast.specs.Views.{program_tree}
use Rattle.osrun_core_answer.proofs.Loaded.{not_loaded, opened_so, was_read}
use Rattle.osrun_core_answer.proofs.MadeRun.{both_read, cause_of_first, cause_of_second, input_file, may_open_first, may_open_second, memory_wanted, program_file}
use Rattle.osrun_core_jobs.specs.Jobs.{job_of}
use Rattle.osrun_core_jobs.specs.declared.subject.Subject.TheVariants as subjects
use Rattle.osrun_core_run.specs.RunOf.{IsRunOf}
use Rattle.osrun_core_answer.proofs.make_trace.make_trace.Goals as goal

pub read_program-requires : goal.read_program-requires
read_program-requires g c =
    may_open_first (g.F.Files.may c.args.files.now) (g.F.Files.opens c.args.files.now) (program_file c.args.job.now.program.now) (input_file c.args.job.now.input.now ∷ []) (g.met.F.Files.may_at_last c.args.files.now) c.requires.may

pub returns-in_err-checked : goal.returns-in_err-checked
returns-in_err-checked g c =
    let e = err_from_is_err_and c.from_residual.result c.from_residual.ensures.1 in
    let l = c.in_err-checked.ensures in
    rw (e.1, e.2) (cause_of_first g.F.Files (program_file c.args.job.now.program.now) (input_file c.args.job.now.input.now ∷ []) c.args.files.now c.read_program.new.files c.in_err-checked.field-0.0 l.0 l.1)

pub load-requires : goal.load-requires
load-requires g c =
    let was = c.in_ok-checked.ensures.1 in
    let allowed = may_open_second (g.F.Files.may c.args.files.now) (g.F.Files.opens c.args.files.now) (program_file c.args.job.now.program.now) (input_file c.args.job.now.input.now) [] (g.met.F.Files.may_at_last c.args.files.now) c.requires.may in
    rw (was.may_kept, was.opened) allowed

pub returns-in_err-input : goal.returns-in_err-input
returns-in_err-input g c =
    let e = err_from_is_err_and c.from_residual-in_err-input.result c.from_residual-in_err-input.ensures.1 in
    let was = c.in_ok-checked.ensures in
    let l = c.in_err-input.ensures in
    let between = c.read_program.new.files in
    let new = c.load.new.files in
    rw (e.1, e.2) (cause_of_second g.F.Files (program_file c.args.job.now.program.now) (input_file c.args.job.now.input.now) [] c.args.files.now between new was.0 c.in_err-input.field-0.0 was.1
    (opened_so g.F.Files between new (input_file c.args.job.now.input.now) l.opens l.left l.faults_kept l.holds l.may)
    (not_loaded g.F.Files between new subjects.Input c.args.job.now.input.now c.in_err-input.field-0.0 l.refused l.no_fault))

pub returns-in_err-traced : goal.returns-in_err-traced
returns-in_err-traced g c =
    let e = err_from_is_err_and c.from_residual-in_err-traced.result c.from_residual-in_err-traced.ensures.1 in
    let was = c.in_ok-checked.ensures in
    let l = c.in_ok-input.ensures in
    let between = c.read_program.new.files in
    let new = c.load.new.files in
    rw e.1 (memory_wanted g.F.Files (program_file c.args.job.now.program.now) (input_file c.args.job.now.input.now) c.args.files.now between new was.0 c.in_ok-input.input.items e.0 e.2 was.1
    (was_read g.F.Files between new subjects.Input c.args.job.now.input.now c.in_ok-input.input.items l.loaded tt l.opens l.no_fault l.holds l.may))

pub returns : goal.returns
returns g c =
    let job = job_of c.args.job.now in
    let was = c.in_ok-checked.ensures in
    let l = c.in_ok-input.ensures in
    let between = c.read_program.new.files in
    let new = c.load.new.files in
    let input = c.in_ok-input.input.items in
    let p = program_tree c.in_ok-checked.checked.program in
    let run = c.in_ok-traced.traced.run in
    record {
      made = record {
        text = was.0;
        input = input;
        read = both_read g.F.Files (program_file c.args.job.now.program.now) (input_file c.args.job.now.input.now) c.args.files.now between new was.0 input was.1
            (was_read g.F.Files between new subjects.Input c.args.job.now.input.now input l.loaded tt l.opens l.no_fault l.holds l.may);
        program = p;
        is_program = was.2;
        is_run = subst (λ bytes. IsRunOf job.task_budget job.control_budget p bytes run.output.items run.layout run.ends run.control) c.deref.ensures.value c.in_ok-traced.ensures.run;
      };
      traces = c.in_ok-traced.ensures.traces;
    }
