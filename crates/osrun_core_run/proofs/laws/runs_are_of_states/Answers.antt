use Rattle.osrun_core_run.proofs.RunLaws.{all_told, of_a_state, writes_all}
use Rattle.osrun_core_run.proofs.laws.runs_are_of_states.Goals as goal

pub returns-clause-state : goal.returns-clause-state
returns-clause-state c = of_a_state c.bodies_fill_their_outputs.ensures c.filled_bodies_fill.ensures c.meanings_are_states.ensures

pub returns-clause-lines : goal.returns-clause-lines
returns-clause-lines c = all_told c.bodies_fill_their_outputs.ensures c.filled_bodies_fill.ensures c.all_but_done_have_lines.ensures.lines

pub returns-clause-all_is_written : goal.returns-clause-all_is_written
returns-clause-all_is_written c =
    writes_all c.bodies_fill_their_outputs.ensures c.filled_bodies_fill.ensures c.meanings_are_states.ensures c.all_is_written.ensures
