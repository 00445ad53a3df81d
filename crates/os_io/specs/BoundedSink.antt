-- A sink with limits, and what a write makes of it.
use Rattle.std.specs.Prelude.{ℕ, ◌-◌, Bool, List, [], ◌++◌, length, take, min, if◌then◌else◌, ◌==◌, ◌&&◌, nat_lt}
use Rattle.os_io.specs.Calls.{is_named}
use Rattle.os_io.specs.Counts.{raised}

pub record BoundedSink : Type 0 where
  -- the bytes taken so far
  pub taken : List ℕ
  -- how many more bytes it has room for
  pub room : ℕ
  -- how many bytes one call takes at most
  pub most : ℕ
  -- the numbers of the calls that fail
  pub failing : List ℕ
  -- how many calls there were
  pub calls : ℕ
  -- how many calls have failed
  pub faults : ℕ
  -- how many calls took nothing of a piece that wasn't empty
  pub empty_takes : ℕ

-- nothing taken, and no call so far
abbrev pub fresh_sink : ℕ → ℕ → BoundedSink
fresh_sink room most = record {
  taken = [];
  room = room;
  most = most;
  failing = [];
  calls = 0;
  faults = 0;
  empty_takes = 0;
}

-- whether the next call was named to fail
abbrev pub fails_next : BoundedSink → Bool
fails_next s = is_named s.failing s.calls

-- how many bytes are taken of a piece of this length
abbrev pub write_count : BoundedSink → ℕ → ℕ
write_count s n = min n (min s.most s.room)

-- after a `write` of this piece
abbrev pub after_write : BoundedSink → List ℕ → BoundedSink
after_write s piece =
    let n = write_count s (length piece) in
    if fails_next s
    then record s { calls = raised s.calls 1; faults = raised s.faults 1 }
    else record s {
      calls = raised s.calls 1;
      taken = s.taken ++ take n piece;
      room = s.room - n;
      empty_takes = if (n == 0) && nat_lt 0 (length piece) then raised s.empty_takes 1 else s.empty_takes;
    }
