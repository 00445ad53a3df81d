-- What a worker has before it.
use Rattle.std.specs.Prelude.{ℕ, zero, suc, ◌+◌, ◌==◌, List}
use Rattle.flow_core_concurrent.specs.States.{times}
use Rattle.flow_core_concurrent.specs.Counted.{one}

-- how many of the first frames don't stand in a list
abbrev pub left_of : ℕ → List ℕ → ℕ
left_of zero ran = 0
left_of (suc n) ran = left_of n ran + one (times n ran == 0)
