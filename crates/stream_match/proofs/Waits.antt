-- How many cells of a frame are empty, by the stretches that go into it.
use Rattle.std.proofs.Common.{◌≡◌, ℕ, zero, suc, ◌+◌, ◌<◌, ◌≤◌, Bool, true, false, cond, List, [], ◌∷◌, ◌++◌, is_none, count_by, length, take, map, get_or, refl, sym, ap, ◌∙◌, inl, inr, arith, zero-add}
use Rattle.std.specs.Prelude.{sum_by, nat_lt, ◌==◌}
use Rattle.std.specs.List.{flat_map, range_with_len}
use Rattle.std.proofs.lemmas.Bool.{cases_lt, ltb-false}
use Rattle.std.proofs.lemmas.List.{length-append}
use Rattle.std.proofs.lemmas.List.Sums.{sum_by-append, sum_by-cons, sum_by_more_le, count_by-le-length}
use Rattle.flow_core_laws.proofs.FewPieces.{other_test}
use Rattle.flow_core_laws.proofs.Stretches.{flat_map-range_more}
use Rattle.stream_match.specs.declared.kept.Kept.{Kept}
use Rattle.stream_match_layouts.specs.declared.layout.Layout.{Layout}
use Rattle.stream_match.specs.declared.stretch.Stretch.{Stretch}
use Rattle.stream_match_layouts.specs.Spans.{spans_of}
use Rattle.stream_match.specs.Weave.{Reach, reach_cells, frame_cells}
use Rattle.stream_match.specs.EpochPlan.{read_reach, epoch_opening, weave_over}
use Rattle.stream_match.specs.Kept.{kept_of}
use Rattle.stream_match.specs.EpochCode.{empty_in, filled_cells, stretches_from, with_positions, reads_before, read_part}
use Rattle.stream_match.proofs.Counting.{same_test}
use Rattle.stream_match.proofs.Rows.{cells_from, reaches-read, reaches-left}

-- what stands for a stretch where there is none
abbrev pub no_stretch : Stretch
no_stretch = record { to = 0; stream = 0; first = 0; count = 0; at = 0 }

module _ (input : List ℕ) (kept : List Kept) where
  -- a stretch counts for its own frame alone
  pub of_own : (f : ℕ) (s : Stretch) → s.to ≡ f → empty_in input kept f s ≡ count_by is_none (filled_cells input kept s)
  of_own f s same = ap (λ b. cond {A = ℕ} b (count_by is_none (filled_cells input kept s)) 0) (same_test s.to f same)

  pub of_other : (f : ℕ) (s : Stretch) → (s.to ≡ f → ⊥) → empty_in input kept f s ≡ 0
  of_other f s other = ap (λ b. cond {A = ℕ} b (count_by is_none (filled_cells input kept s)) 0) (other_test s.to f other)

  of_any : (f : ℕ) (s : Stretch) → empty_in input kept f s ≤ length (filled_cells input kept s)
  of_any f s = at (s.to == f) (count_by-le-length is_none (filled_cells input kept s))
    where
      at : (b : Bool) → count_by is_none (filled_cells input kept s) ≤ length (filled_cells input kept s) → cond {A = ℕ} b (count_by is_none (filled_cells input kept s)) 0 ≤ length (filled_cells input kept s)
      at true le = le
      at false le = omega arith

  pub within : (f : ℕ) (xs : List Stretch) → sum_by (empty_in input kept f) xs ≤ length (flat_map (filled_cells input kept) xs)
  within f [] = omega arith
  within f (s ∷ xs) =
      let a : length (flat_map (filled_cells input kept) (s ∷ xs)) ≡ length (filled_cells input kept s) + length (flat_map (filled_cells input kept) xs) = length-append (filled_cells input kept s) (flat_map (filled_cells input kept) xs) in
      omega (arith, a, sum_by-cons (empty_in input kept f) s xs, of_any f s, within f xs)

  -- no count passes the number of cells
  pub counts_within : (f k : ℕ) (xs : List Stretch) (d : Stretch) → k < length xs → sum_by (empty_in input kept f) (take k xs) + empty_in input kept f (get_or xs k d) ≤ length (flat_map (filled_cells input kept) xs)
  counts_within f k xs d lt = omega (arith, sum_by_more_le (empty_in input kept f) xs k d lt, within f xs)

  -- ---- stretches one behind another

  none_of_other : (f to at : ℕ) (rs : List Reach) → (to ≡ f → ⊥) → sum_by (empty_in input kept f) (stretches_from to at rs) ≡ 0
  none_of_other f to at [] other = refl
  none_of_other f to at (r ∷ rs) other =
      let s : Stretch = record { to = to; stream = r.stream; first = r.first; count = r.count; at = at } in
      let rest = stretches_from to (at + r.count) rs in
      omega (arith, sum_by-cons (empty_in input kept f) s rest, of_other f s other, none_of_other f to (at + r.count) rs other)

  all_of_own : (f at : ℕ) (rs : List Reach) → sum_by (empty_in input kept f) (stretches_from f at rs) ≡ count_by is_none (flat_map (filled_cells input kept) (stretches_from f at rs))
  all_of_own f at [] = refl
  all_of_own f at (r ∷ rs) =
      let s : Stretch = record { to = f; stream = r.stream; first = r.first; count = r.count; at = at } in
      let rest = stretches_from f (at + r.count) rs in
      let a : count_by is_none (flat_map (filled_cells input kept) (s ∷ rest)) ≡ count_by is_none (filled_cells input kept s) + count_by is_none (flat_map (filled_cells input kept) rest) = sum_by-append (λ o. cond {A = ℕ} (is_none o) 1 0) (filled_cells input kept s) (flat_map (filled_cells input kept) rest) in
      omega (arith, a, sum_by-cons (empty_in input kept f) s rest, of_own f s refl, all_of_own f (at + r.count) rs)

  over_positions : (f : ℕ) (xs : List Stretch) → sum_by (empty_in input kept f) (with_positions xs) ≡ sum_by (empty_in input kept f) xs
  over_positions f [] = refl
  over_positions f (s ∷ xs) = by_test (over_positions f xs) (nat_lt 0 s.count) refl
    where
      by_test : sum_by (empty_in input kept f) (with_positions xs) ≡ sum_by (empty_in input kept f) xs → (b : Bool) → nat_lt 0 s.count ≡ b → sum_by (empty_in input kept f) (cond b (s ∷ with_positions xs) (with_positions xs)) ≡ sum_by (empty_in input kept f) (s ∷ xs)
      by_test rest true e = omega (arith, sum_by-cons (empty_in input kept f) s (with_positions xs), sum_by-cons (empty_in input kept f) s xs, rest)
      by_test rest false e =
          let le = ltb-false 0 s.count e in
          let none : s.count ≡ 0 = omega arith in
          let no_cells : length (filled_cells input kept s) ≡ 0 = ap (λ n. length (map (epoch_opening input (map kept_of kept) s.stream) (range_with_len s.first n))) none in
          omega (arith, sum_by-cons (empty_in input kept f) s xs, of_any f s, no_cells, rest)

  module _ (layout : Layout) (frames : List ℕ) where
    parts_more : (k : ℕ) → flat_map (read_part layout frames) (range_with_len 0 (k + 1)) ≡ flat_map (read_part layout frames) (range_with_len 0 k) ++ read_part layout frames k
    parts_more k = flat_map-range_more (read_part layout frames) 0 k ∙ ap (λ n. flat_map (read_part layout frames) (range_with_len 0 k) ++ read_part layout frames n) (zero-add k)

    step : (f k : ℕ) → sum_by (empty_in input kept f) (flat_map (read_part layout frames) (range_with_len 0 (suc k))) ≡ sum_by (empty_in input kept f) (flat_map (read_part layout frames) (range_with_len 0 k)) + sum_by (empty_in input kept f) (read_part layout frames k)
    step f k =
        let e : suc k ≡ k + 1 = omega arith in
        ap (λ n. sum_by (empty_in input kept f) (flat_map (read_part layout frames) (range_with_len 0 n))) e ∙ ap (sum_by (empty_in input kept f)) (parts_more k) ∙ sum_by-append (empty_in input kept f) (flat_map (read_part layout frames) (range_with_len 0 k)) (read_part layout frames k)

    others : (f k : ℕ) → (k ≡ f → ⊥) → sum_by (empty_in input kept f) (read_part layout frames k) ≡ 0
    others f k other = none_of_other f k (reads_before layout frames k) (map read_reach (spans_of layout (get_or frames k 0))) other

    none_before : (f k : ℕ) → k ≤ f → sum_by (empty_in input kept f) (flat_map (read_part layout frames) (range_with_len 0 k)) ≡ 0
    none_before f zero le = refl
    none_before f (suc k) le = omega (arith, step f k, others f k (λ e. omega (arith, e)), none_before f k (omega arith))

    own_part : (f k : ℕ) → f < k → sum_by (empty_in input kept f) (flat_map (read_part layout frames) (range_with_len 0 k)) ≡ count_by is_none (flat_map (filled_cells input kept) (read_part layout frames f))
    own_part f zero lt = absurd (omega arith)
    own_part f (suc k) lt = elim (cases_lt f k) [
      | inl l ↦ omega (arith, step f k, others f k (λ e. omega (arith, e)), own_part f k l)
      | inr g ↦ (let same : k ≡ f = omega arith in
          let own = ap (λ n. sum_by (empty_in input kept f) (read_part layout frames n)) same ∙ all_of_own f (reads_before layout frames f) (map read_reach (spans_of layout (get_or frames f 0))) in
          omega (arith, step f k, own, none_before f k (omega arith)))
    ]

    module _ (sink : List Reach) (reads leaves : List Stretch) (next : ℕ) (reads_are : reads ≡ with_positions (flat_map (read_part layout frames) (range_with_len 0 (length frames)))) (leaves_are : leaves ≡ with_positions (stretches_from (length frames) next sink)) where
      leaves_in : (f : ℕ) → sum_by (empty_in input kept f) leaves ≡ sum_by (empty_in input kept f) (stretches_from (length frames) next sink)
      leaves_in f = ap (sum_by (empty_in input kept f)) leaves_are ∙ over_positions f (stretches_from (length frames) next sink)

      reads_in : (f : ℕ) → sum_by (empty_in input kept f) reads ≡ sum_by (empty_in input kept f) (flat_map (read_part layout frames) (range_with_len 0 (length frames)))
      reads_in f = ap (sum_by (empty_in input kept f)) reads_are ∙ over_positions f (flat_map (read_part layout frames) (range_with_len 0 (length frames)))

      -- the empty cells of a frame
      pub frame_waits : (f : ℕ) → f < length frames → sum_by (empty_in input kept f) reads + sum_by (empty_in input kept f) leaves ≡ count_by is_none (frame_cells (weave_over layout input frames (map kept_of kept) sink) f)
      frame_waits f lt =
          let w = weave_over layout input frames (map kept_of kept) sink in
          let rs = map read_reach (spans_of layout (get_or frames f 0)) in
          let own = own_part f (length frames) lt ∙ ap (count_by is_none) (cells_from layout input frames kept sink f (reads_before layout frames f) rs ∙ ap (flat_map (reach_cells w)) (sym (reaches-read layout input frames kept sink f lt))) in
          omega (arith, reads_in f, leaves_in f, own, none_of_other f (length frames) next sink (λ e. omega (arith, e)))

      -- and of the sink
      pub sink_waits : sum_by (empty_in input kept (length frames)) reads + sum_by (empty_in input kept (length frames)) leaves ≡ count_by is_none (frame_cells (weave_over layout input frames (map kept_of kept) sink) (length frames))
      sink_waits =
          let w = weave_over layout input frames (map kept_of kept) sink in
          let n = length frames in
          let own = all_of_own n next sink ∙ ap (count_by is_none) (cells_from layout input frames kept sink n next sink ∙ ap (flat_map (reach_cells w)) (sym (reaches-left layout input frames kept sink))) in
          omega (arith, reads_in n, leaves_in n, own, none_before n n (omega arith))
