use Rattle.osrun_core_run.proofs.compiling.compile.Goals as goal

pub returns-in-Ok : goal.returns-in-Ok
returns-in-Ok c = record { stands = c.in-Ok.ensures.stands; bodies = c.in-Ok.ensures.bodies; control = c.in-Ok.ensures.control }
