-- The runs of jobs starve by chains, since those of programs and of codes do.
use Rattle.std.proofs.Common.{◌≡◌, ◌∙◌, length, ap}
use Rattle.osrun_core_answer.specs.Explained.{finding_status}
use Rattle.osrun_core_jobs.specs.Jobs.{explained_run}
use Rattle.osrun_core_laws.specs.Chains.{IsChainOfJob, LinesTellChains, OfObjectRunsWithin, OfRunsWithin, StarvesByChains}
use Rattle.wait_certs.specs.Finding.{IsFinding, finding_line}
use Rattle.wait_certs.specs.declared.finding.Finding.{Finding}
use Rattle.wait_certs.specs.declared.finding.Finding.TheVariants as finding
use Rattle.wait_certs_runs.specs.Meant.{OfCodeRuns, OfPrograms}
use Rattle.wait_certs_runs.specs.Starving.{StarveByChains}

pub of_jobs : OfPrograms StarveByChains → OfRunsWithin StarvesByChains
of_jobs law holds job run within is =
    law is.text is.program run.input job.task_budget job.control_budget run.control run.ends is.text_read.fits is.is_program within.control_turns is.control_is
    is.ends_are

pub of_objects : OfCodeRuns StarveByChains → OfObjectRunsWithin StarvesByChains
of_objects law holds job run within is =
    law is.code run.input job.task_budget job.control_budget run.control run.ends is.is_object.valid within.control_turns is.control_is is.ends_are

-- a line of status 0 tells of an activation that starves, and so its chain
pub of_lines : OfRunsWithin StarvesByChains → LinesTellChains
of_lines law holds job given line within is = by is.explains.finding is.explains.is_finding is.explains.text_is is.explains.own_is
  where
    by : (found : Finding) → IsFinding is.run.control.activations (length is.run.input) is.run.ends.ends job.activation found → line ≡ finding_line job.activation found
        → 0 ≡ finding_status found → IsChainOfJob holds job given line
    by finding.Absent found text own = absurd (cc)
    by finding.Ended found text own = absurd (cc)
    by (finding.Starved members told) found text own =
        let all = law holds (explained_run job) is.run within.terms is.is_run in
        let (chain, last, same, is_chain) = all.explained job.activation (finding.Starved members told) (found.0, found.1) found in
        record {
          run = is.run;
          is_run = is.is_run;
          given_is = is.given_is;
          members = chain;
          last = last;
          is_chain = is_chain;
          line_is = text ∙ ap (finding_line job.activation) same;
        }
