use Rattle.std.proofs.Common.{[]}
use Rattle.std.proofs.lemmas.Result.{err_from_is_err_and}
use Rattle.os_ast.specs.Views.{program_tree}
use Rattle.os_code.specs.Codes.{parts_of}
use Rattle.osrun_core_answer.proofs.MadeRun.{cause_of_first, may_open_first, memory_wanted_after_one, one_read, program_file}
use Rattle.osrun_core_answer.proofs.make_object.make_object.Goals as goal

pub read_program-requires : goal.read_program-requires
read_program-requires g c =
    may_open_first (g.F.Files.may c.args.files.now) (g.F.Files.opens c.args.files.now) (program_file c.args.job.now.program.now) [] (g.met.F.Files.may_at_last c.args.files.now) c.requires

pub returns-in_err-checked : goal.returns-in_err-checked
returns-in_err-checked g c =
    let e = err_from_is_err_and c.from_residual.result c.from_residual.ensures.1 in
    let l = c.in_err-checked.ensures in
    rw (e.1, e.2) (cause_of_first g.F.Files (program_file c.args.job.now.program.now) [] c.args.files.now c.read_program.new.files c.in_err-checked.field-0.0 l.0 l.1)

pub returns-in_err-code : goal.returns-in_err-code
returns-in_err-code g c =
    let e = err_from_is_err_and c.from_residual-in_err-code.result c.from_residual-in_err-code.ensures.1 in
    let was = c.in_ok-checked.ensures in
    rw e.1 (memory_wanted_after_one g.F.Files (program_file c.args.job.now.program.now) c.args.files.now c.read_program.new.files was.0 e.0 e.2 was.1)

pub returns-in_err-object : goal.returns-in_err-object
returns-in_err-object g c =
    let e = err_from_is_err_and c.from_residual-in_err-object.result c.from_residual-in_err-object.ensures.1 in
    let was = c.in_ok-checked.ensures in
    rw e.1 (memory_wanted_after_one g.F.Files (program_file c.args.job.now.program.now) c.args.files.now c.read_program.new.files was.0 e.0 e.2 was.1)

pub returns : goal.returns
returns g c =
    let was = c.in_ok-checked.ensures in
    record {
      text = was.0;
      read = one_read g.F.Files (program_file c.args.job.now.program.now) c.args.files.now c.read_program.new.files was.0 was.1;
      program = program_tree c.in_ok-checked.checked.program;
      is_program = was.2;
      code = parts_of c.in_ok-code.code;
      is_code = c.in_ok-code.ensures;
      is_object = c.in_ok-object.ensures;
    }
