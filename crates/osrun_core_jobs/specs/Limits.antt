-- How long a trace may be, what a job of `gen` may ask for, and on which terms a program is run where nothing else is asked for.
use Rattle.std.specs.Prelude.{ℕ}

-- the bytes of a trace
abbrev pub trace_limit : ℕ
trace_limit = 4194304

-- the greatest seed
abbrev pub seed_limit : ℕ
seed_limit = 4294967295

-- the blocks of four bytes that are made
abbrev pub blocks_limit : ℕ
blocks_limit = 65536

-- the workers of a run where nothing else is asked for
abbrev pub default_workers : ℕ
default_workers = 4

-- the turns of each task, and those of the control program, where nothing else is asked for
abbrev pub default_budget : ℕ
default_budget = 1000000
