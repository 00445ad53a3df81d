use Rattle.std.proofs.Common.{◌≡◌, ◌++◌, ℕ, List, length}
use Rattle.std.specs.List.{flat_map}
use Rattle.os_io.specs.Lines.{field}
use Rattle.trace_replay_text.specs.Trace.{AreNumbers}
use Rattle.trace_replay_text.proofs.fields.fields.Given as goal

abbrev pub decreases-loop-rest : goal.decreases-loop-rest
decreases-loop-rest l = length l.rest

-- the numbers so far stand before the rest; and whatever numbers the text has, those of the rest are among them
abbrev pub invariant-loop-rest : goal.invariant-loop-rest
invariant-loop-rest l = record {
  numbers : AreNumbers l.frames;
  spelled : l.initial.rest ≡ flat_map field l.frames ++ l.rest;
  onwards : (frames : List ℕ) → AreNumbers frames → l.initial.rest ≡ flat_map field frames → (others : List ℕ) × AreNumbers others × (l.rest ≡ flat_map field others);
}
