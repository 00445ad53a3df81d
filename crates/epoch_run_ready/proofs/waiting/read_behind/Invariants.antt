use Rattle.std.proofs.Common.{◌≡◌, ◌<◌, ◌≤◌, ℕ, false, get_or}
use Rattle.stream_match_layouts.specs.Writers.{end_of, no_span}
use Rattle.epoch_run_ready.proofs.waiting.read_behind.Given as goal

abbrev pub invariant-loop-span : goal.invariant-loop-span
invariant-loop-span l = (i : ℕ) → i < l.span-index → (get_or l.spans i no_span).write ≡ false → end_of (get_or l.spans i no_span) ≤ get_or l.positions (get_or l.spans i no_span).stream 0
