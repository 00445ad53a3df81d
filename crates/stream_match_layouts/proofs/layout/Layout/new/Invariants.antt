use Rattle.std.proofs.Common.{◌≡◌, [], ◌∷◌, replicate}
use Rattle.stream_match_layouts.proofs.layout.Layout.new.Given as goal

-- the streams so far have no writers, and all cursors stand at 0
abbrev pub invariant-loop : goal.invariant-loop
invariant-loop l = record {
  spans : l.layout.spans ≡ [];
  starts : l.layout.starts ≡ 0 ∷ [];
  writers : l.layout.writers ≡ replicate l.counter [];
  cursors : l.layout.cursors ≡ record { reads = replicate l.streams 0; writes = replicate l.streams 0 };
  input_len : l.layout.input_len ≡ l.input_len;
}
