-- What leaves frames holds nothing before they run.
use Rattle.std.proofs.Common.{◌≡◌, ℕ, pos, zero, suc, ◌+◌, ◌-◌, ◌<◌, ◌≤◌, Bool, true, false, cond, List, [], ◌∷◌, ◌++◌, Option, Some, None, is_none, count_by, length, map, get_or, refl, sym, ap, ◌∙◌, subst, arith, inl, inr}
use Rattle.std.specs.Prelude.{sum_by, All, replicate, slice_get, nat_lt, ◌==◌}
use Rattle.std.specs.Option.{option_map, option_map_or}
use Rattle.std.specs.List.{flat_map, range_with_len}
use Rattle.std.proofs.lemmas.Bool.{cases_eq, ltb-true, ltb-false}
use Rattle.std.proofs.lemmas.List.Elements.{All-head, All-tail}
use Rattle.std.proofs.lemmas.List.Sums.{sum_by-cons}
use Rattle.std.proofs.lemmas.Option.{slice_get_within, get_or_from_slice_get, same_Some}
use Rattle.flow_core_laws.proofs.FewPieces.{other_test}
use Rattle.flow_core_laws.specs.declared.activation.Activation.{Activation}
use Rattle.flow_core_laws.specs.declared.elem.Elem.{Elem}
use Rattle.flow_core_laws.specs.declared.elem.Elem.TheVariants.{Value}
use Rattle.flow_core_epochs.specs.Epoch.{number_among}
use Rattle.flow_core_epochs.proofs.Members.{Has, of_map, of_flat_map, of_filter}
use Rattle.flow_core_epochs.proofs.Carried.{has_all}
use Rattle.stream_match_layouts.specs.declared.span.Span.{Span}
use Rattle.stream_match_layouts.specs.declared.layout.Layout.{Layout}
use Rattle.stream_match_layouts.specs.Layout.{IsLayout, IsLayoutOf}
use Rattle.stream_match_layouts.specs.Spans.{write_count, spans_of}
use Rattle.stream_match_layouts.proofs.FrameSpans.{no_input_writer}
use Rattle.stream_match.specs.declared.kept.Kept.{Kept}
use Rattle.stream_match.specs.declared.stretch.Stretch.{Stretch}
use Rattle.stream_match.specs.Kept.{kept_of}
use Rattle.stream_match.specs.Weave.{Reach, total, WritesAt}
use Rattle.stream_match.specs.EpochPlan.{AscendInLayout, WrittenOutside, opening_element, epoch_opening, weave_over, staying, leaving_reach, leaving_reaches}
use Rattle.stream_match.specs.EpochCode.{IsEmpty, filled_cells, empty_in, stretches_from, with_positions}
use Rattle.stream_match.specs.Whole.{output_reach}
use Rattle.stream_match.proofs.Counting.{same_test}
use Rattle.stream_match.proofs.LookUp.{found_number}
use Rattle.stream_match.proofs.EpochWeave.{span_stream, leaving_exist, leaving_fits, none_kept}
use Rattle.stream_match.proofs.Leaves.{is_writer}
use Rattle.stream_match.proofs.Waits.{of_own, of_other}

-- ---- cells that hold nothing

pub all_none : {A : Type 0} (f : ℕ → Option A) (first count : ℕ) → ((k : ℕ) → first ≤ k → k < first + count → f k ≡ None) → map f (range_with_len first count) ≡ replicate count None
all_none f first zero none = refl
all_none f first (suc count) none = ap (λ x. x ∷ map f (range_with_len (first + 1) count)) (none first (omega arith) (omega arith)) ∙ ap (λ xs. None ∷ xs) (all_none f (first + 1) count (λ k l u. none k (omega arith) (omega arith)))

replicate-add : {A : Type 0} (x : A) (n m : ℕ) → replicate n x ++ replicate m x ≡ replicate (n + m) x
replicate-add x zero m = ap (λ k. replicate k x) (let e : m ≡ 0 + m = omega arith in e)
replicate-add x (suc n) m = ap (λ xs. x ∷ xs) (replicate-add x n m) ∙ ap (λ k. replicate k x) (let e : suc (n + m) ≡ suc n + m = omega arith in e)

abbrev nones : ℕ → List (Option Elem)
nones n = replicate n None

none_counted : (n : ℕ) → count_by is_none (nones n) ≡ n
none_counted zero = refl
none_counted (suc n) =
    let more : count_by is_none (nones (suc n)) ≡ 1 + count_by is_none (nones n) = sum_by-cons (λ (o : Option Elem). cond {A = ℕ} (is_none o) 1 0) None (nones n) in
    omega (arith, more, none_counted n)

-- how many positions stretches have
abbrev pub positions : List Stretch → ℕ
positions xs = sum_by (λ (s : Stretch). s.count) xs

module _ (input : List ℕ) (kept : List Kept) where
  pub empty_cells : (xs : List Stretch) → All (IsEmpty input kept) xs → flat_map (filled_cells input kept) xs ≡ replicate (positions xs) None
  empty_cells [] empty = refl
  empty_cells (s ∷ xs) empty =
      ap (λ cs. cs ++ flat_map (filled_cells input kept) xs) (All-head (IsEmpty input kept) s xs empty)
      ∙ ap (λ cs. replicate s.count None ++ cs) (empty_cells xs (All-tail (IsEmpty input kept) s xs empty))
      ∙ replicate-add None s.count (positions xs)
      ∙ ap (λ n. replicate n None) (sym (sum_by-cons (λ (t : Stretch). t.count) s xs))

  pub empty_waits : (f n : ℕ) (xs : List Stretch) → All (IsEmpty input kept) xs → All (λ (s : Stretch). s.to ≡ n) xs → sum_by (empty_in input kept f) xs ≡ cond {A = ℕ} (f == n) (positions xs) 0
  empty_waits f n [] empty into = nothing (f == n)
    where
      nothing : (b : Bool) → 0 ≡ cond {A = ℕ} b 0 0
      nothing true = refl
      nothing false = refl
  empty_waits f n (s ∷ xs) empty into =
      let head = All-head (IsEmpty input kept) s xs empty in
      let to : s.to ≡ n = All-head (λ (t : Stretch). t.to ≡ n) s xs into in
      let rest = empty_waits f n xs (All-tail (IsEmpty input kept) s xs empty) (All-tail (λ (t : Stretch). t.to ≡ n) s xs into) in
      let more = sum_by-cons (empty_in input kept f) s xs in
      let counts : positions (s ∷ xs) ≡ s.count + positions xs = sum_by-cons (λ (t : Stretch). t.count) s xs in
      elim (cases_eq f n) [
        | inl same ↦ (
            let own : empty_in input kept f s ≡ s.count = of_own input kept f s (to ∙ sym same) ∙ ap (count_by is_none) head ∙ none_counted s.count in
            let left : cond {A = ℕ} (f == n) (positions xs) 0 ≡ positions xs = ap (λ b. cond {A = ℕ} b (positions xs) 0) (same_test f n same) in
            let goal : cond {A = ℕ} (f == n) (positions (s ∷ xs)) 0 ≡ positions (s ∷ xs) = ap (λ b. cond {A = ℕ} b (positions (s ∷ xs)) 0) (same_test f n same) in
            omega (arith, own, left, goal, rest, more, counts))
        | inr other ↦ (
            let own : empty_in input kept f s ≡ 0 = of_other input kept f s (λ e. other (sym e ∙ to)) in
            let left : cond {A = ℕ} (f == n) (positions xs) 0 ≡ 0 = ap (λ b. cond {A = ℕ} b (positions xs) 0) (other_test f n other) in
            let goal : cond {A = ℕ} (f == n) (positions (s ∷ xs)) 0 ≡ 0 = ap (λ b. cond {A = ℕ} b (positions (s ∷ xs)) 0) (other_test f n other) in
            omega (arith, own, left, goal, rest, more))
      ]

pub positions_are : (to at : ℕ) (rs : List Reach) → positions (with_positions (stretches_from to at rs)) ≡ total rs
positions_are to at [] = refl
positions_are to at (r ∷ rs) = by_test (nat_lt 0 r.count) refl (positions_are to (at + r.count) rs)
  where
    by_test : (b : Bool) → nat_lt 0 r.count ≡ b → positions (with_positions (stretches_from to (at + r.count) rs)) ≡ total rs
        → positions (cond b (record { to = to; stream = r.stream; first = r.first; count = r.count; at = at } ∷ with_positions (stretches_from to (at + r.count) rs)) (with_positions (stretches_from to (at + r.count) rs))) ≡ total (r ∷ rs)
    by_test true e rest = omega (arith, rest, sum_by-cons (λ (s : Stretch). s.count) (record { to = to; stream = r.stream; first = r.first; count = r.count; at = at }) (with_positions (stretches_from to (at + r.count) rs)), sum_by-cons (λ (q : Reach). q.count) r rs)
    by_test false e rest = let le = ltb-false 0 r.count e in omega (arith, rest, sum_by-cons (λ (q : Reach). q.count) r rs)

-- a stretch is that of a reach
pub of_stretches : (to at : ℕ) (rs : List Reach) (s : Stretch) → Has (stretches_from to at rs) s → (r : Reach) × (Has rs r) × (s.stream ≡ r.stream) × (s.first ≡ r.first) × (s.count ≡ r.count)
of_stretches to at [] s (i, is) = absurd (cc)
of_stretches to at (r ∷ rs) s (zero, is) =
    let same = same_Some (record { to = to; stream = r.stream; first = r.first; count = r.count; at = at }) s is in
    (r, (0, refl), sym (ap (λ (t : Stretch). t.stream) same), sym (ap (λ (t : Stretch). t.first) same), sym (ap (λ (t : Stretch). t.count) same))
of_stretches to at (r ∷ rs) s (suc i, is) = let (q, q_in, stream, first, count) = of_stretches to (at + r.count) rs s (i, is) in (q, (suc q_in.0, q_in.1), stream, first, count)

-- ---- what leaves

module _ (layout : Layout) (is : IsLayout layout) (activations : List Activation) (of : IsLayoutOf layout activations) (input frames : List ℕ) (are : AscendInLayout layout frames) (kept : List Kept) (cursors : List ℕ) (outside : WrittenOutside activations frames (map kept_of kept)) where
  -- an element that a frame writes isn't there at opening
  not_there : (n : ℕ) (x : Span) (position : ℕ) → n < length frames → Has (spans_of layout (get_or frames n 0)) x → x.write ≡ true → x.first ≤ position → position < x.first + x.count → epoch_opening input (map kept_of kept) x.stream position ≡ None
  not_there n x position lt has writes low high =
      let a = get_or frames n 0 in
      let w = is_writer layout is a x (are.exist n lt) has writes in
      let exists = span_stream layout is a x (are.exist n lt) has in
      let sink = leaving_reaches layout frames cursors in
      let first = ap (λ (t : Span). t.first) w.is in
      let count = ap (λ (t : Span). t.count) w.is in
      let at : WritesAt layout (weave_over layout input frames (map kept_of kept) sink) x.stream position w.place n = record {
        within = w.within;
        from = omega (arith, first);
        to = omega (arith, first, count);
        is_frame = ap (λ (t : Span). number_among frames t.frame) w.is ∙ found_number frames x.frame n are.ascend lt (sym w.of_frame);
      } in
      ap (λ o. option_map_or (λ v. Some v) o (opening_element input x.stream position)) (none_kept layout is activations of input frames (map kept_of kept) sink (leaving_exist layout is frames cursors are) (leaving_fits layout is frames cursors are) are outside x.stream position w.place n exists at)
      ∙ ap (λ b. cond b (option_map (λ byte. Value (pos byte)) (slice_get input position)) None) (other_test x.stream 0 (no_input_writer layout is x.stream exists w.place w.within))

  pub empty_left : (to next : ℕ) → All (IsEmpty input kept) (with_positions (stretches_from to next (leaving_reaches layout frames cursors)))
  empty_left to next = has_all (IsEmpty input kept) (with_positions (stretches_from to next (leaving_reaches layout frames cursors))) (λ s has.
      let (there, some) = of_filter (λ (t : Stretch). nat_lt 0 t.count) (stretches_from to next (leaving_reaches layout frames cursors)) s has in
      let (r, r_in, stream, first, count) = of_stretches to next (leaving_reaches layout frames cursors) s there in
      let (a, a_in, of_frame) = of_flat_map (λ b. map (leaving_reach cursors) (spans_of layout b)) frames r r_in in
      let (x, x_in, x_is) = of_map (leaving_reach cursors) (spans_of layout a) r of_frame in
      one s x a_in.0 (slice_get_within frames a_in.0 a a_in.1) (subst (λ b. Has (spans_of layout b) x) (sym (get_or_from_slice_get frames a_in.0 a 0 a_in.1)) x_in) (stream ∙ sym (ap (λ (q : Reach). q.stream) x_is)) (first ∙ sym (ap (λ (q : Reach). q.first) x_is)) (count ∙ sym (ap (λ (q : Reach). q.count) x_is)) (ltb-true 0 s.count some) x.write refl)
    where
      one : (s : Stretch) (x : Span) (n : ℕ) → n < length frames → Has (spans_of layout (get_or frames n 0)) x → s.stream ≡ x.stream → s.first ≡ x.first + staying cursors x → s.count ≡ write_count x - staying cursors x → 0 < s.count → (b : Bool) → x.write ≡ b → IsEmpty input kept s
      one s x n lt has stream first count some false e = absurd (let none : write_count x ≡ 0 = ap (λ b. cond {A = ℕ} b x.count 0) e in omega arith)
      one s x n lt has stream first count some true e =
          let whole : write_count x ≡ x.count = ap (λ b. cond {A = ℕ} b x.count 0) e in
          all_none (epoch_opening input (map kept_of kept) s.stream) s.first s.count (λ k low high. ap (λ m. epoch_opening input (map kept_of kept) m k) stream ∙ not_there n x k lt has e (omega arith) (omega (arith, whole)))

-- nor does the output of a whole run, where nothing is kept
has_one : {A : Type 0} (x y : A) → Has (x ∷ []) y → y ≡ x
has_one x y (zero, at) = sym (same_Some x y at)
has_one x y (suc i, at) = absurd (cc)

pub empty_output : (layout : Layout) (input : List ℕ) (to at : ℕ) → All (IsEmpty input []) (with_positions (stretches_from to at (output_reach layout ∷ [])))
empty_output layout input to at = has_all (IsEmpty input []) (with_positions (stretches_from to at (output_reach layout ∷ []))) (λ s has.
    let (there, some) = of_filter (λ (t : Stretch). nat_lt 0 t.count) (stretches_from to at (output_reach layout ∷ [])) s has in
    let (r, r_in, stream, first, count) = of_stretches to at (output_reach layout ∷ []) s there in
    let one : s.stream ≡ 1 = stream ∙ ap (λ (q : Reach). q.stream) (has_one (output_reach layout) r r_in) in
    all_none (epoch_opening input (map kept_of []) s.stream) s.first s.count (λ k low high. ap (λ m. epoch_opening input (map kept_of []) m k) one))
