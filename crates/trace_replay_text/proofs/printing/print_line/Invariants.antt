use Rattle.std.proofs.Common.{◌≡◌, ◌++◌, drop}
use Rattle.std.specs.List.{flat_map}
use Rattle.os_io.specs.Lines.{field}
use Rattle.trace_replay_text.proofs.printing.print_line.Given as goal

-- with the frames to come, the text has all
abbrev pub invariant-loop-frame : goal.invariant-loop-frame
invariant-loop-frame l = l.text.items ++ flat_map field (drop l.frame-index l.frames) ≡ l.initial.text.items ++ flat_map field l.frames
