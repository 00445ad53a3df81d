use Rattle.os_code.proofs.Halting.{main_ends, main_ends_are_one}
use Rattle.os_code.proofs.laws.main_ends.Goals as goal

pub returns : goal.returns
returns c = record { there = main_ends; one = main_ends_are_one }
