use Rattle.std.proofs.Common.{◌≡◌, ℕ, drop, map, max}
use Rattle.std.specs.List.{fold}
use Rattle.osview_sentences.specs.Amounts.{asked_length, read_to}
use Rattle.osview_sentences.specs.Reaches.{kept_end}
use Rattle.osview_sentences.proofs.amounts.Asked.of.Given as goal

-- what is kept of the claims so far, and those of the rest, come to what all ask for
abbrev pub invariant-loop-span : goal.invariant-loop-span
invariant-loop-span l = (stream : ℕ) → fold max (kept_end l.asked stream) (map (read_to stream) (drop l.span-index l.layout.spans)) ≡ asked_length l.layout.spans stream
