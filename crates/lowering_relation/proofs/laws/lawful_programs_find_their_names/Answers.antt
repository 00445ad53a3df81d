use Rattle.lowering_relation.proofs.SameLaws.{main_finds_its_names, tasks_find_their_names, functions_find}
use Rattle.lowering_relation.proofs.laws.lawful_programs_find_their_names.Goals as goal

pub returns : goal.returns
returns c = record { in_main = main_finds_its_names; in_tasks = tasks_find_their_names; in_functions = functions_find }
