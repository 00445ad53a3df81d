use Rattle.std.proofs.Common.{◌≡◌, arith}
use Rattle.std.specs.Io.KnownBytes.{append_known}
use Rattle.osrun_core.proofs.Says.{explained, within}
use Rattle.osrun_core_laws.proofs.Named.{of_exec, of_explain, of_replay, of_run, of_trace}
use Rattle.osrun_core_laws.proofs.laws.answers_tell_chains.Goals as goal

pub returns-clause-run : goal.returns-clause-run
returns-clause-run g c not_two not_seven =
    of_run _ _ c.jobs_starve_by_chains.ensures.programs _ (within _ _ _ _ _ _ _ _ _ _ _ c.requires not_two not_seven)

pub returns-clause-exec : goal.returns-clause-exec
returns-clause-exec g c not_two not_seven =
    of_exec _ _ c.jobs_starve_by_chains.ensures.objects _ (within _ _ _ _ _ _ _ _ _ _ _ c.requires not_two not_seven)

pub returns-clause-trace : goal.returns-clause-trace
returns-clause-trace g c not_two not_seven =
    of_trace _ _ c.jobs_starve_by_chains.ensures.programs _ (within _ _ _ _ _ _ _ _ _ _ _ c.requires not_two not_seven)

pub returns-clause-replay : goal.returns-clause-replay
returns-clause-replay g c not_two not_seven =
    of_replay _ _ c.jobs_starve_by_chains.ensures.programs _ (within _ _ _ _ _ _ _ _ _ _ _ c.requires not_two not_seven)

pub returns-clause-explain : goal.returns-clause-explain
returns-clause-explain g c zero_is =
    of_explain (g.F.Files.holds c.args.files.now) (g.F.Files.given c.args.files_after.now) _
    (λ line. g.O.Sink.taken c.args.out_after.now ≡ append_known (g.O.Sink.taken c.args.out.now) line) _
    c.jobs_starve_by_chains.ensures.lines _ zero_is
    (within _ _ _ _ _ _ _ _ _ _ _ c.requires (λ two. omega (arith, two, zero_is)) (λ seven. omega (arith, seven, zero_is)))
    (explained _ _ _ _ _ _ _ _ _ _ _ c.requires (omega (arith, zero_is)))
