-- The statuses of the command.
use Rattle.std.specs.Prelude.{ℕ, ◌<◌}
use Rattle.collector.specs.Status.{done_status, not_done_status}
use Rattle.osrun_core_jobs.specs.declared.status.Status.{Status}
use Rattle.osrun_core_jobs.specs.declared.status.Status.TheVariants.{AllDone, NotAllDone, BadWords, Refused, TooLong}
use Rattle.osrun_core_jobs.specs.declared.status.Status.TheVariants.{ReadFault, WriteFault, NoMemory, NotReplayed}

-- The number with which the process ends. 0 and 1 are the statuses that a run has by `collector`.
abbrev pub status_code : Status → ℕ
status_code AllDone = done_status
status_code NotAllDone = not_done_status
status_code BadWords = 2
status_code Refused = 3
status_code TooLong = 4
status_code ReadFault = 5
status_code WriteFault = 6
status_code NoMemory = 7
status_code NotReplayed = 8

-- 0: the job was done
abbrev pub all_done : ℕ
all_done = status_code AllDone

-- 2: the words name no job
abbrev pub bad_words : ℕ
bad_words = status_code BadWords

-- 3: the bytes of a file are refused
abbrev pub refused : ℕ
refused = status_code Refused

-- 4: a file is longer than its limit
abbrev pub too_long : ℕ
too_long = status_code TooLong

-- 5: a file could not be read
abbrev pub read_fault : ℕ
read_fault = status_code ReadFault

-- 6: a sink did not take all
abbrev pub write_fault : ℕ
write_fault = status_code WriteFault

-- 7: memory could not be had
abbrev pub no_memory : ℕ
no_memory = status_code NoMemory

-- 8: the lists of a trace are not whole
abbrev pub not_replayed : ℕ
not_replayed = status_code NotReplayed

-- 0 and 1: what was asked for was made, and the sinks took all of it
abbrev pub IsDelivered : ℕ → Type 0
IsDelivered status = status < bad_words
