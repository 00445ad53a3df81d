-- The cells and frames of a plan over reaches.
use Rattle.std.proofs.Common.{◌≡◌, ℕ, zero, suc, ◌+◌, ◌-◌, ◌<◌, ◌≤◌, Bool, cond, List, [], ◌∷◌, Option, Some, None, is_none, count_by, length, take, get_or, refl, sym, ap, ◌∙◌, inl, inr, arith, zero-add}
use Rattle.std.specs.Prelude.{slice_get}
use Rattle.std.specs.List.{flat_map, range_with_len}
use Rattle.std.proofs.lemmas.Bool.{cases_lt}
use Rattle.std.proofs.lemmas.List.{length-append, get_or_past, take-take}
use Rattle.std.proofs.lemmas.List.FromFn.{get_or-map-range_with_len, length-map-range_with_len}
use Rattle.std.proofs.lemmas.List.Sums.{sum_by-cons, sum_by_more, sum_by-take-le}
use Rattle.std.proofs.lemmas.Option.{slice_get-get_or, get_or_from_slice_get}
use Rattle.flow_core_laws.specs.declared.plan.FramePlan.{FramePlan}
use Rattle.flow_core_laws.proofs.Counting.{passing}
use Rattle.flow_core_laws.proofs.Stretches.{flat_map-range-add, flat_map-range_more, parts_before, slice_get-append_left, slice_get-append_right, stands_at}
use Rattle.flow_core_laws.specs.declared.plan.Plan.{Plan}
use Rattle.flow_core_laws.specs.Plans.{frame_at, held_at, missing_of}
use Rattle.flow_core_laws.specs.declared.elem.Elem.{Elem}
use Rattle.stream_match_layouts.specs.declared.layout.Layout.{Layout}
use Rattle.stream_match.specs.Weave.{Reach, no_reach, total, Weave, reach_cells, frame_cells, cells_of_first, reach_at, woven_frame, woven_sink, IsWoven}

pub total-more : (rs : List Reach) (i : ℕ) → i < length rs → total (take (i + 1) rs) ≡ total (take i rs) + (get_or rs i no_reach).count
total-more rs i lt = sum_by_more (λ (r : Reach). r.count) rs i no_reach lt

pub total-le : (rs : List Reach) (i j : ℕ) → i ≤ j → total (take i rs) ≤ total (take j rs)
total-le rs i j le = let e = ap total (take-take i j rs le) in let l = sum_by-take-le (λ (r : Reach). r.count) (take j rs) i in omega arith

pub total-take-le : (rs : List Reach) (i : ℕ) → total (take i rs) ≤ total rs
total-take-le rs i = sum_by-take-le (λ (r : Reach). r.count) rs i

module _ (weave : Weave) where
  pub length-reach_cells : (r : Reach) → length (reach_cells weave r) ≡ r.count
  length-reach_cells r = length-map-range_with_len (weave.opening r.stream) r.first r.count

  pub length-reaches : (rs : List Reach) → length (flat_map (reach_cells weave) rs) ≡ total rs
  length-reaches [] = refl
  length-reaches (r ∷ rs) =
      let a : length (flat_map (reach_cells weave) (r ∷ rs)) ≡ length (reach_cells weave r) + length (flat_map (reach_cells weave) rs) = length-append (reach_cells weave r) (flat_map (reach_cells weave) rs) in
      omega (arith, a, length-reach_cells r, length-reaches rs, sum_by-cons (λ (x : Reach). x.count) r rs)

  pub first-more : (f : ℕ) → length (cells_of_first weave (f + 1)) ≡ length (cells_of_first weave f) + total (weave.reaches f)
  first-more f =
      ap length (flat_map-range_more (frame_cells weave) 0 f) ∙ length-append (cells_of_first weave f) (frame_cells weave (0 + f))
      ∙ ap (λ k. length (cells_of_first weave f) + length (frame_cells weave k)) (zero-add f)
      ∙ ap (λ k. length (cells_of_first weave f) + k) (length-reaches (weave.reaches f))

  pub first-le : (f g : ℕ) → f ≤ g → length (cells_of_first weave f) ≤ length (cells_of_first weave g)
  first-le f g le =
      let e : g ≡ f + (g - f) = omega arith in
      let w = ap (λ k. length (cells_of_first weave k)) e ∙ ap length (flat_map-range-add (frame_cells weave) 0 f (g - f)) ∙ length-append (cells_of_first weave f) (flat_map (frame_cells weave) (range_with_len (0 + f) (g - f))) in
      omega (arith, w)

  -- the cells of a frame end before those of a later one begin
  pub first-next : (f g : ℕ) → f < g → length (cells_of_first weave f) + total (weave.reaches f) ≤ length (cells_of_first weave g)
  first-next f g lt = omega (arith, first-more f, first-le (f + 1) g (omega arith))

  in_reach : (rs : List Reach) (i k : ℕ) → i < length rs → k < (get_or rs i no_reach).count → slice_get (flat_map (reach_cells weave) rs) (total (take i rs) + k) ≡ Some (weave.opening (get_or rs i no_reach).stream ((get_or rs i no_reach).first + k))
  in_reach [] i k lt kl = absurd (omega arith)
  in_reach (r ∷ rs) zero k lt kl =
      let here : slice_get (reach_cells weave r) k ≡ Some (weave.opening r.stream (r.first + k)) = slice_get-get_or (reach_cells weave r) k None (omega (arith, length-reach_cells r)) ∙ ap Some (get_or-map-range_with_len (weave.opening r.stream) r.first r.count k (r.first + k) None kl refl) in
      ap (slice_get (flat_map (reach_cells weave) (r ∷ rs))) (zero-add k)
      ∙ slice_get-append_left (reach_cells weave r) (flat_map (reach_cells weave) rs) k (omega (arith, length-reach_cells r)) ∙ here
  in_reach (r ∷ rs) (suc i) k lt kl =
      let s : total (take (suc i) (r ∷ rs)) ≡ r.count + total (take i rs) = sum_by-cons (λ (x : Reach). x.count) r (take i rs) in
      ap (slice_get (flat_map (reach_cells weave) (r ∷ rs))) (let e : total (take (suc i) (r ∷ rs)) + k ≡ length (reach_cells weave r) + (total (take i rs) + k) = omega (arith, s, length-reach_cells r) in e)
      ∙ slice_get-append_right (reach_cells weave r) (flat_map (reach_cells weave) rs) (total (take i rs) + k)
      ∙ in_reach rs i k (omega arith) kl

-- a count over the numbers of a list's elements is one over the list
passing-list : (xs : List (Option Elem)) (test : ℕ → Bool) (a : ℕ) → ((k : ℕ) → k < length xs → test (a + k) ≡ is_none (get_or xs k None)) → passing test a (length xs) ≡ count_by is_none xs
passing-list [] test a same = refl
passing-list (x ∷ xs) test a same =
    let here : test a ≡ is_none x = ap test (let e : a ≡ a + 0 = omega arith in e) ∙ same 0 (omega arith) in
    let rest = passing-list xs test (a + 1) (λ k l. ap test (let e : a + 1 + k ≡ a + suc k = omega arith in e) ∙ same (suc k) (omega arith)) in
    sum_by-cons (λ k. cond {A = ℕ} (test k) 1 0) a (range_with_len (a + 1) (length xs))
    ∙ ap (λ t. cond {A = ℕ} t 1 0 + passing test (a + 1) (length xs)) here
    ∙ ap (λ m. cond {A = ℕ} (is_none x) 1 0 + m) rest
    ∙ sym (sum_by-cons (λ o. cond {A = ℕ} (is_none o) 1 0) x xs)

module _ (layout : Layout) (weave : Weave) (plan : Plan) (laid : IsWoven layout weave plan) where
  pub length-frames : length plan.frames ≡ weave.frames
  length-frames = ap length laid.frames ∙ length-map-range_with_len (woven_frame layout weave) 0 weave.frames

  pub frame_at-frame : (f : ℕ) → f < weave.frames → frame_at plan f ≡ woven_frame layout weave f
  frame_at-frame f lt = ap (λ xs. get_or xs f plan.sink) laid.frames ∙ get_or-map-range_with_len (woven_frame layout weave) 0 weave.frames f f plan.sink lt (zero-add f)

  pub frame_at-sink : (f : ℕ) → weave.frames ≤ f → frame_at plan f ≡ woven_sink layout weave
  frame_at-sink f ge = get_or_past plan.frames f plan.sink (omega (arith, length-frames)) ∙ laid.sink

  pub cell-is : (f : ℕ) → f ≤ weave.frames → (frame_at plan f).cell ≡ length (cells_of_first weave f)
  cell-is f le = elim (cases_lt f weave.frames) [
    | inl lt ↦ ap (λ (x : FramePlan). x.cell) (frame_at-frame f lt)
    | inr ge ↦ ap (λ (x : FramePlan). x.cell) (frame_at-sink f ge) ∙ ap (λ k. length (cells_of_first weave k)) (let e : weave.frames ≡ f = omega arith in e)
  ]

  pub inputs-is : (f : ℕ) → f ≤ weave.frames → (frame_at plan f).inputs ≡ total (weave.reaches f)
  inputs-is f le = elim (cases_lt f weave.frames) [
    | inl lt ↦ ap (λ (x : FramePlan). x.inputs) (frame_at-frame f lt)
    | inr ge ↦ ap (λ (x : FramePlan). x.inputs) (frame_at-sink f ge) ∙ ap (λ k. total (weave.reaches k)) (let e : weave.frames ≡ f = omega arith in e)
  ]

  pub wait-is : (f : ℕ) → f ≤ weave.frames → (frame_at plan f).wait ≡ count_by is_none (frame_cells weave f)
  wait-is f le = elim (cases_lt f weave.frames) [
    | inl lt ↦ ap (λ (x : FramePlan). x.wait) (frame_at-frame f lt)
    | inr ge ↦ ap (λ (x : FramePlan). x.wait) (frame_at-sink f ge) ∙ ap (λ k. count_by is_none (frame_cells weave k)) (let e : weave.frames ≡ f = omega arith in e)
  ]

  pub length-filled : length plan.filled ≡ length (cells_of_first weave (weave.frames + 1))
  length-filled = ap length laid.filled

  -- what stands among the cells of a frame
  cell : (f m : ℕ) (v : Option Elem) → f ≤ weave.frames → slice_get (frame_cells weave f) m ≡ Some v → held_at plan.filled (length (cells_of_first weave f) + m) ≡ v
  cell f m v le h =
      let at = stands_at (frame_cells weave) 0 (weave.frames + 1) f m v (omega arith) (omega arith) h in
      let before : length (parts_before (frame_cells weave) 0 f) ≡ length (cells_of_first weave f) = ap (λ n. length (cells_of_first weave n)) (let e : f - 0 ≡ f = omega arith in e) in
      ap (λ xs. get_or xs (length (cells_of_first weave f) + m) None) laid.filled
      ∙ get_or_from_slice_get (cells_of_first weave (weave.frames + 1)) (length (cells_of_first weave f) + m) v None (ap (slice_get (cells_of_first weave (weave.frames + 1))) (ap (λ n. n + m) (sym before)) ∙ at)

  -- what a cell holds at opening
  pub opening : (f i k : ℕ) → f ≤ weave.frames → i < length (weave.reaches f) → k < (reach_at weave f i).count
      → held_at plan.filled (length (cells_of_first weave f) + (total (take i (weave.reaches f)) + k)) ≡ weave.opening (reach_at weave f i).stream ((reach_at weave f i).first + k)
  opening f i k le lt kl = cell f (total (take i (weave.reaches f)) + k) (weave.opening (reach_at weave f i).stream ((reach_at weave f i).first + k)) le (in_reach weave (weave.reaches f) i k lt kl)

  pub waits : (f : ℕ) → f ≤ weave.frames → (frame_at plan f).wait ≡ missing_of plan plan.filled f
  waits f le =
      let n : (frame_at plan f).inputs ≡ length (frame_cells weave f) = inputs-is f le ∙ sym (length-reaches weave (weave.reaches f)) in
      wait-is f le
      ∙ sym (ap (λ k. passing (λ c. is_none (held_at plan.filled c)) k (frame_at plan f).inputs) (cell-is f le)
      ∙ ap (λ k. passing (λ c. is_none (held_at plan.filled c)) (length (cells_of_first weave f)) k) n
      ∙ passing-list (frame_cells weave f) (λ c. is_none (held_at plan.filled c)) (length (cells_of_first weave f)) (λ k l. ap is_none (cell f k (get_or (frame_cells weave f) k None) le (slice_get-get_or (frame_cells weave f) k None l))))
