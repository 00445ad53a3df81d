use Rattle.std.proofs.Common.{◌≡◌, ◌<◌, ◌≤◌, ℕ, get_or, true}
use Rattle.stream_match_layouts.specs.Writers.{no_span}
use Rattle.epoch_run_ready.proofs.waiting.write_before.Given as goal

abbrev pub invariant-loop-span : goal.invariant-loop-span
invariant-loop-span l = (i : ℕ) → i < l.span-index → (get_or l.spans i no_span).write ≡ true → get_or l.positions (get_or l.spans i no_span).stream 0 ≤ (get_or l.spans i no_span).first
