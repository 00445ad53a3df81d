use Rattle.std.proofs.Common.{◌≡◌, All, false, take}
use Rattle.os_serve_jobs.specs.Words.{is_blank}
use Rattle.os_serve_jobs.proofs.words.front_len.Given as goal

-- none stands before
abbrev pub invariant-loop-n : goal.invariant-loop-n
invariant-loop-n l = All (λ byte. is_blank byte ≡ false) (take l.n l.bytes)
