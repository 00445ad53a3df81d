-- What the word of a frame says.
use Rattle.std.specs.Prelude.{ℕ, ◌-◌, ◌==◌, Bool, true, false, if◌then◌else◌, List, ◌∷◌, [], ◌++◌, Option, Some, None, map, slice_index_or}
use Rattle.flow_core_laws.specs.declared.plan.FramePlan.{FramePlan}
use Rattle.flow_core_laws.specs.declared.plan.Plan.{Plan}
use Rattle.flow_core_laws.specs.declared.task_end.TaskEnd.{TaskEnd}
use Rattle.flow_core_concurrent.specs.declared.word.Word.{Word}
use Rattle.flow_core_concurrent.specs.declared.word.Word.TheVariants.{Wait, Open, Taken, Ended}

-- The word of a frame. A number without a frame counts as Open: it never waited and was never claimed, so
-- what is said of lists of frames needs no bound on their numbers.
abbrev pub word_at : List Word → ℕ → Word
word_at words frame = slice_index_or words frame Open

-- The word of a frame at opening.
abbrev pub opening_word : FramePlan → Word
opening_word frame = if frame.wait == 0 then Open else Wait frame.wait

-- The words at opening: those of the frames, and of the sink behind them.
abbrev pub opening_words : Plan → List Word
opening_words plan = map opening_word (plan.frames ++ plan.sink ∷ [])

-- how many elements a frame misses
abbrev pub amount : Word → ℕ
amount (Wait n) = n
amount Open = 0
amount Taken = 0
amount (Ended end) = 0

-- whether a frame waits
abbrev pub waits : Word → Bool
waits (Wait n) = true
waits Open = false
waits Taken = false
waits (Ended end) = false

-- whether a frame is Open
abbrev pub is_open : Word → Bool
is_open (Wait n) = false
is_open Open = true
is_open Taken = false
is_open (Ended end) = false

-- whether a seat runs a frame
abbrev pub is_taken : Word → Bool
is_taken (Wait n) = false
is_taken Open = false
is_taken Taken = true
is_taken (Ended end) = false

-- whether a frame was claimed: a seat runs it, or it ended
abbrev pub is_started : Word → Bool
is_started (Wait n) = false
is_started Open = false
is_started Taken = true
is_started (Ended end) = true

-- whether a frame ended
abbrev pub has_ended : Word → Bool
has_ended (Wait n) = false
has_ended Open = false
has_ended Taken = false
has_ended (Ended end) = true

-- the end of a frame, if it ended
abbrev pub end_in : Word → Option TaskEnd
end_in (Wait n) = None
end_in Open = None
end_in Taken = None
end_in (Ended end) = Some end

-- whether a word is that of a frame which waits for just `count` elements
abbrev pub waits_for : ℕ → Word → Bool
waits_for count (Wait n) = n == count
waits_for count Open = false
waits_for count Taken = false
waits_for count (Ended end) = false

-- a word after `count` elements came: a frame that waited for just these opens
abbrev pub lowered : ℕ → Word → Word
lowered count (Wait n) = if n == count then Open else Wait (n - count)
lowered count Open = Open
lowered count Taken = Taken
lowered count (Ended end) = Ended end
