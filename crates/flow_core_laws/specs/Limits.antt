-- How large a run may be, and what it may be asked for.
use Rattle.std.specs.Prelude.{ℕ}

-- the bytes of an input
abbrev pub input_limit : ℕ
input_limit = 4194304

-- the activations of a run
abbrev pub activations_limit : ℕ
activations_limit = 65536

-- the greatest number of an activation, counted from 0 on
abbrev pub last_activation : ℕ
last_activation = 65535

-- the positions that the windows of a run cover together
abbrev pub positions_limit : ℕ
positions_limit = 4194304

-- the positions that a window covers
abbrev pub horizon_limit : ℕ
horizon_limit = 65536

-- the positions by which a burst or a tick moves a cursor
abbrev pub move_limit : ℕ
move_limit = 65536

-- the workers of a run
abbrev pub workers_limit : ℕ
workers_limit = 64

-- the turns of a budget
abbrev pub budget_limit : ℕ
budget_limit = 1000000000
