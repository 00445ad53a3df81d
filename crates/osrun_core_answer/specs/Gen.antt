-- What `gen` makes, runs and writes.
use Rattle.std.specs.Prelude.{◌≡◌, ℕ, ◌*◌, List, ◌++◌, codes, length, sum}
use Rattle.std.specs.Fmt.{decimal}
use Rattle.cddf_meaning.specs.Control.{control}
use Rattle.os_io.specs.Lines.{ended_line}
use Rattle.collector.specs.Status.{status}
use Rattle.collector.specs.Written.{written}
use Rattle.front_end.specs.Texts.{IsAccepted}
use Rattle.kernels.specs.Generated.{generated}
use Rattle.kernels.specs.declared.texts.TheConstants.{LIFT}
use Rattle.os_ast.specs.Trees.{ProgramTree}
use Rattle.osrun_core_jobs.specs.Jobs.{GenJob}
use Rattle.osrun_core_run.specs.Run.{ProgramRun, ends_over}

-- the turns that each task may take, and those that the control program may take
abbrev pub gen_budget : ℕ
gen_budget = 1000000

-- The run is that of the kernel `lift` over the bytes that are made from the seed, four for each block.
pub record IsRunOfGen (job : GenJob) (run : ProgramRun) : Type 0 where
  pub input_is : run.input ≡ generated job.seed (4 * job.blocks)
  pub program : ProgramTree
  pub is_program : IsAccepted LIFT.now program
  pub control_is : run.control ≡ control program (length run.input) gen_budget
  pub ends_are : run.ends ≡ ends_over program run.control.activations run.input gen_budget

-- of some bytes: how many there are, and the sum of their values
abbrev pub counted_line : (name bytes : List ℕ) → List ℕ
counted_line name bytes = ended_line (name ++ codes " " ++ decimal (length bytes) ++ codes " sum " ++ decimal (sum bytes))

-- The four lines: what was asked for, the bytes that were made, those that the run writes, and its status.
abbrev pub four_lines : GenJob → (input output : List ℕ) → (own : ℕ) → List ℕ
four_lines job input output own =
    ended_line (codes "seed " ++ decimal job.seed ++ codes " blocks " ++ decimal job.blocks)
    ++ counted_line (codes "input") input
    ++ counted_line (codes "output") output
    ++ ended_line (codes "status " ++ decimal own)

-- what is written of a run
abbrev pub gen_lines : GenJob → ProgramRun → List ℕ
gen_lines job run = four_lines job run.input (written run.ends.output) (status run.ends.ends run.control.end)
