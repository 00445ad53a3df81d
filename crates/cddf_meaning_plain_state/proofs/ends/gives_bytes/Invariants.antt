use Rattle.std.proofs.Common.{◌≡◌, drop}
use Rattle.cddf_meaning.specs.Body.{gives_bytes}
use Rattle.cddf_meaning_plain_state.proofs.ends.gives_bytes.Given as goal

abbrev pub invariant-loop-place : goal.invariant-loop-place
invariant-loop-place l =
    gives_bytes (drop l.place l.claims) (drop l.place l.items) ≡ gives_bytes l.claims l.items
