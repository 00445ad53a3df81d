-- What an answer looks like.
use Rattle.std.specs.Prelude.{ℕ, ◌+◌, List, [], ◌∷◌, ◌++◌, codes, length}
use Rattle.std.specs.Fmt.{decimal}
use Rattle.os_io.specs.Lines.{ended_line}

-- what a job is answered: its status, and the bytes of its output and of its report
pub record Reply : Type 0 where
  pub status : ℕ
  pub output : List ℕ
  pub told : List ℕ

-- the line before the bytes: the job's number, its status, and how many bytes of output and of report follow
abbrev pub heading : ℕ → (status output told : ℕ) → List ℕ
heading number status output told =
    ended_line (codes "job " ++ decimal number ++ codes " status " ++ decimal status ++ codes " out " ++ decimal output ++ codes " report " ++ decimal told)

-- the answer to a job: that line, then the output, then the report
abbrev pub answer : ℕ → Reply → List ℕ
answer number reply = heading number reply.status (length reply.output) (length reply.told) ++ reply.output ++ reply.told

-- the answers to jobs whose numbers begin so
abbrev pub answers_from : ℕ → List Reply → List ℕ
answers_from number [] = []
answers_from number (reply ∷ replies) = answer number reply ++ answers_from (number + 1) replies

-- the answers to all jobs, whose numbers begin at 0
abbrev pub answers : List Reply → List ℕ
answers replies = answers_from 0 replies
