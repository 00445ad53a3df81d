-- What is told of a run over bytes that were made.
use Rattle.std.proofs.Common.{◌≡◌, ◌∙◌, ◌*◌, ◌≤◌, ℕ, List, ap, ap₂, arith, length}
use Rattle.std.proofs.lemmas.List.FromFn.{length-map-range_with_len}
use Rattle.collector.specs.Status.{status}
use Rattle.flow_core_laws.specs.declared.control.ControlEnd.{ControlEnd}
use Rattle.flow_core_laws.specs.declared.ends.Ends.{Ends}
use Rattle.front_end.specs.Texts.{IsAccepted}
use Rattle.kernels.specs.Generated.{byte, generated}
use Rattle.kernels.specs.declared.texts.TheConstants.{LIFT}
use Rattle.os_ast.specs.Trees.{ProgramTree}
use Rattle.osrun_core_jobs.specs.Jobs.{GenJob}
use Rattle.osrun_core_answer.specs.Gen.{IsRunOfGen, four_lines, gen_budget, gen_lines}
use Rattle.osrun_core_run.specs.Run.{ProgramRun}
use Rattle.osrun_core_run.specs.RunOf.{IsRunOf}
use Rattle.stream_match_layouts.specs.declared.layout.Layout.{Layout}

-- as many bytes are made as an input may have
pub generated_few : (seed count : ℕ) (bytes : List ℕ) → bytes ≡ generated seed count → count ≤ 262144 → length bytes ≤ 4194304
generated_few seed count bytes is few = omega (arith, ap length is ∙ length-map-range_with_len (byte seed) 0 count)

module _ (job : GenJob) (p : ProgramTree) (input output : List ℕ) (layout : Layout) (ends : Ends) (end : ControlEnd)
    (ran : IsRunOf gen_budget gen_budget p input output layout ends end) where
  pub told : input ≡ generated job.seed (4 * job.blocks) → IsAccepted LIFT.now p → (text : List ℕ)
      → text ≡ four_lines job input output (status ends.ends end)
      → (run : ProgramRun) × IsRunOfGen job run × (text ≡ gen_lines job run)
  told made accepted text lines =
      let run : ProgramRun = record { control = ran.made; input = input; ends = ends } in
      let is_run : IsRunOfGen job run = record { input_is = made; program = p; is_program = accepted; control_is = ran.made_is; ends_are = ran.ends_are } in
      (run, is_run, lines ∙ ap₂ (λ bytes e. four_lines job input bytes (status ends.ends e)) ran.writes ran.end_is)
