-- Traces: the frames that each worker ran, as lines of text.
use Rattle.std.specs.Prelude.{◌≡◌, ◌≢◌, ℕ, suc, ◌^◌, ◌<◌, ◌≤◌, ◌⊎◌, List, [], ◌∷◌, ◌++◌, length, codes}
use Rattle.std.specs.List.{flat_map, AllByRecursion}
use Rattle.os_io.specs.Lines.{field}
use Rattle.flow_core_laws.specs.Limits.{workers_limit}

-- The line of a worker: its number, and those of its frames in the order in which it ran them.
abbrev pub worker_line : ℕ → List ℕ → List ℕ
worker_line worker frames = codes "worker" ++ flat_map field (worker ∷ frames) ++ codes "\n"

-- the lines of workers with one number after the other
abbrev pub lines_from : ℕ → List (List ℕ) → List ℕ
lines_from worker [] = []
lines_from worker (frames ∷ lists) = worker_line worker frames ++ lines_from (suc worker) lists

-- The trace of the lists of frames of workers, who are counted from 0 on.
abbrev pub trace : List (List ℕ) → List ℕ
trace lists = lines_from 0 lists

-- numbers of 32 bits
abbrev pub AreNumbers : List ℕ → Type 0
AreNumbers frames = AllByRecursion (λ frame. frame < 2 ^ 32) frames

-- A text is the trace of these lists: those of 1 to 64 workers, whose frames have numbers of 32 bits.
pub record IsTraceOf (text : List ℕ) (lists : List (List ℕ)) : Type 0 where
  pub some : 1 ≤ length lists
  pub few : length lists ≤ workers_limit
  pub numbers : AllByRecursion AreNumbers lists
  pub spelled : text ≡ trace lists

-- No line of a worker stands at the front of a text.
abbrev pub NoLine : ℕ → List ℕ → Type 0
NoLine worker text = (frames after : List ℕ) → AreNumbers frames → text ≡ worker_line worker frames ++ after → ⊥

-- A line, counted from 1 on, is the first one that isn't a trace's: before it stand the lines of workers, all in their form, and it
-- isn't the line of the next worker, or there are as many workers before as a trace has. It has at least a byte, unless the text has
-- none: of that it is line 1.
pub record IsFirstWrongLine (text : List ℕ) (line : ℕ) : Type 0 where
  pub before : List (List ℕ)
  pub rest : List ℕ
  pub counted : line ≡ suc (length before)
  pub few : length before ≤ workers_limit
  pub numbers : AllByRecursion AreNumbers before
  pub spelled : text ≡ trace before ++ rest
  pub there : (rest ≢ []) ⊎ (text ≡ [])
  pub wrong : length before < workers_limit → NoLine (length before) rest
