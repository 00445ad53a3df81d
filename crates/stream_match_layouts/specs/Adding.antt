-- What adding a claim needs and does.
use Rattle.std.specs.Prelude.{ℕ, ◌^◌, ◌<◌, List, [], ◌∷◌, ◌++◌, length, slice_index_or, slice_set, if◌then◌else◌}
use Rattle.flow_core_laws.specs.declared.claim.Claim.{Claim}
use Rattle.stream_match_layouts.specs.Cursors.{HasCursors, moved_by, span_by}
use Rattle.stream_match_layouts.specs.declared.layout.Layout.{Layout}

-- no number of the layout passes the end of its type with one more claim
pub record HasRoom (layout : Layout) (claim : Claim) : Type 0 where
  pub stream_exists : claim.stream < length layout.writers
  pub cursors : HasCursors layout.cursors claim
  pub spans_are_few : length layout.spans < 2 ^ 32

-- the numbers of the write spans of each stream, behind one more claim
abbrev pub writers_after : Layout → Claim → List (List ℕ)
writers_after layout claim =
    if claim.write then slice_set layout.writers claim.stream (slice_index_or layout.writers claim.stream [] ++ length layout.spans ∷ []) else layout.writers

-- the layout with one more claim
abbrev pub with_claim : Layout → ℕ → Claim → ℕ → Layout
with_claim layout frame claim offset = record {
  spans = layout.spans ++ span_by layout.cursors frame claim offset ∷ [];
  starts = layout.starts;
  writers = writers_after layout claim;
  cursors = moved_by layout.cursors claim;
  input_len = layout.input_len;
}
