-- The plan of an epoch stands for it.
use Rattle.std.proofs.Common.{◌≡◌, ℕ, pos, ◌+◌, ◌-◌, ◌<◌, ◌≤◌, Bool, true, false, cond, List, [], ◌∷◌, ◌++◌, Option, Some, None, length, take, map, get_or, refl, sym, ap, ◌∙◌, subst, arith, zero, suc, ◌||◌, inl, inr, zero-add}
use Rattle.std.specs.Prelude.{All, slice_get, sum_by, filter, not, option_and_then, ◌==◌, nat_le}
use Rattle.std.specs.Option.{option_map, option_map_or}
use Rattle.std.specs.List.{flat_map, range_with_len}
use Rattle.std.proofs.lemmas.Bool.{eqb-true, cases_lt, le-leb}
use Rattle.std.proofs.lemmas.List.Quantifiers.{position-Some}
use Rattle.std.proofs.lemmas.Option.{slice_get_within, get_or_from_slice_get, same_Some}
use Rattle.flow_core_laws.specs.declared.claim.Claim.{Claim}
use Rattle.flow_core_laws.specs.declared.activation.Activation.{Activation}
use Rattle.flow_core_laws.specs.declared.plan.FramePlan.{FramePlan}
use Rattle.flow_core_laws.specs.Window.{Window, windows, windows_of, is_written_by, producer, producer_number}
use Rattle.flow_core_laws.specs.Place.{places_from, places_of, input_places}
use Rattle.flow_core_laws.specs.Streams.{output_count, input_source, produced_source, stream_source}
use Rattle.flow_core_laws.proofs.Windows.{written, producer_by_number, claims_at-slice_get}
use Rattle.flow_core_epochs.specs.Epoch.{number_among, read_from, Kept, value_kept, among, epoch_source, StandsForEpoch, written_places}
use Rattle.flow_core_laws.specs.declared.plan.Plan.{Plan}
use Rattle.flow_core_laws.specs.Element.{initial, fed, nobody}
use Rattle.flow_core_laws.specs.Plans.{frame_at, cell_source, plan_reads}
use Rattle.flow_core_laws.specs.declared.elem.Elem.{Elem}
use Rattle.flow_core_laws.specs.declared.elem.Elem.TheVariants.{Value}
use Rattle.flow_core_laws.specs.declared.place.Place.{Place}
use Rattle.stream_match_layouts.specs.declared.span.Span.{Span}
use Rattle.stream_match_layouts.specs.declared.layout.Layout.{Layout}
use Rattle.stream_match_layouts.specs.Layout.{span_of, IsLayout, IsLayoutOf}
use Rattle.stream_match_layouts.specs.Writers.{writer_at, end_of}
use Rattle.stream_match_layouts.specs.Spans.{spans_of, read_count, write_count, frame_count}
use Rattle.stream_match_layouts.proofs.Windows.{no_window}
use Rattle.stream_match_layouts.proofs.Writers.{window_number, there, stands, writer_is, found, number_at}
use Rattle.stream_match_layouts.proofs.Tallies.{frame_count-is}
use Rattle.stream_match_layouts.proofs.FrameSpans.{spans_of-windows, outputs-are, no_input_writer}
use Rattle.stream_match.specs.Weave.{Reach, reach_places, total, Weave, cells_of_first, reach_at, IsWoven, WritesAt, CanWeave}
use Rattle.stream_match.specs.EpochPlan.{reaches_over, AscendInLayout, read_reach, leaves_from, staying, leaving_reach, leaving_reaches, opening_element, weave_over, WrittenOutside, epoch_opening, epoch_weave, IsEpochPlanOf}
use Rattle.stream_match.proofs.EpochWeave.{over_frame, leaving_exist, leaving_fits, in_frames, reaches-frame, reaches-sink, stream_exists, produces, can_weave_over, span_stream}
use Rattle.stream_match.proofs.Weaving.{length-frames, frame_at-frame}
use Rattle.stream_match.proofs.WovenSources.{initial_by, fed_by, nobody_by, woven_reads}
use Rattle.std.proofs.lemmas.Bool.Decides.{nat_tests}
use Rattle.std.proofs.lemmas.Grind.{flat_map-append}
use Rattle.std.proofs.lemmas.List.Elements.{filter-append}
use Rattle.std.proofs.lemmas.List.FromFn.{get_or-map-range_with_len}
use Rattle.flow_core_epochs.proofs.Members.{Has, has_head, has_tail, in_map}

-- ---- the sources of cells

module _ (layout : Layout) (is : IsLayout layout) (activations : List Activation) (of : IsLayoutOf layout activations) (input : List ℕ) (frames : List ℕ) (kept : List Kept) (sink : List Reach) (exist : All (λ (r : Reach). r.stream < length layout.writers) sink) (fits : sum_by (over_frame read_count layout) frames + total sink ≤ 4194304) (are : AscendInLayout layout frames) (outside : WrittenOutside activations frames kept) (plan : Plan) (laid : IsWoven layout (weave_over layout input frames kept sink) plan) where
  abbrev weave : Weave
  weave = weave_over layout input frames kept sink

  -- the source of a cell is that of its place in the epoch
  pub source : (f i k : ℕ) → f ≤ length frames → i < length (reaches_over layout frames sink f) → k < (reach_at (weave_over layout input frames kept sink) f i).count
      → cell_source plan (length (cells_of_first (weave_over layout input frames kept sink) f) + (total (take i (reaches_over layout frames sink f)) + k))
      ≡ epoch_source activations input frames kept (record { stream = (reach_at (weave_over layout input frames kept sink) f i).stream; position = (reach_at (weave_over layout input frames kept sink) f i).first + k })
  source f i k le lt kl = by_kept (value_kept kept (record { stream = stream; position = at })) refl
    where
      w : Weave
      w = weave_over layout input frames kept sink

      stream : ℕ
      stream = (reach_at (weave_over layout input frames kept sink) f i).stream

      at : ℕ
      at = (reach_at (weave_over layout input frames kept sink) f i).first + k

      c : ℕ
      c = length (cells_of_first (weave_over layout input frames kept sink) f) + (total (take i (reaches_over layout frames sink f)) + k)

      exists : (reach_at (weave_over layout input frames kept sink) f i).stream < length layout.writers
      exists = stream_exists layout is activations of input frames kept sink exist fits are outside f i lt

      can : CanWeave layout (weave_over layout input frames kept sink)
      can = can_weave_over layout is activations of input frames kept sink exist fits are outside

      gives : (v : Elem) → epoch_opening input kept stream at ≡ Some v → cell_source plan c ≡ initial v
      gives v e = initial_by layout w can plan laid f i k v le lt kl e

      empty : epoch_opening input kept stream at ≡ None → ((place g : ℕ) → WritesAt layout w stream at place g → ⊥) → cell_source plan c ≡ nobody
      empty e free = nobody_by layout w can plan laid f i k le lt kl e free

      -- no byte of the input
      of_input : (o : Option ℕ) → slice_get input at ≡ o → stream ≡ 0 → epoch_opening input kept stream at ≡ option_map (λ byte. Value (pos byte)) o → cell_source plan c ≡ among frames (option_map_or (λ byte. initial (Value (pos byte))) o nobody)
      of_input (Some byte) e zero_is v = gives (Value (pos byte)) v
      of_input None e zero_is v = empty v (λ place g writes. no_input_writer layout is stream exists place writes.within zero_is)

      of_frame : (v : Window) → producer activations stream at ≡ Some v → ((g : ℕ) → number_among frames v.activation ≡ Some g → cell_source plan c ≡ fed g (v.offset + (at - v.first))) → epoch_opening input kept stream at ≡ None → (o : Option ℕ) → number_among frames v.activation ≡ o
          → cell_source plan c ≡ option_map_or (λ g. fed g (v.offset + (at - v.first))) o nobody
      of_frame v is_v feeds e (Some g) numbered = feeds g numbered
      of_frame v is_v feeds e None numbered = empty e (λ place g writes.
          let same : v ≡ window_number activations (number_at layout activations of stream exists place) = same_Some _ _ (sym is_v ∙ produces layout is activations of input frames kept sink exist fits are outside stream at place exists writes.within writes.from writes.to) in
          let frame : (writer_at layout stream place).frame ≡ v.activation = ap (λ (s : Span). s.frame) (writer_is layout activations of stream exists place writes.within) ∙ ap (λ (u : Window). u.activation) (sym same) in
          let contra : Some g ≡ None = sym writes.is_frame ∙ ap (number_among frames) frame ∙ numbered in absurd (cc))

      of_producer : (o : Option ℕ) → producer_number activations stream at ≡ o → epoch_opening input kept stream at ≡ None → cell_source plan c ≡ among frames (produced_source activations stream at)
      of_producer None e v =
          let none : producer activations stream at ≡ None = producer_by_number activations stream at ∙ ap (option_and_then (λ n. slice_get (windows activations) n)) e in
          empty v (λ place g writes. let h = found layout activations of stream exists at place writes.within writes.from writes.to in absurd (cc))
          ∙ sym (ap (λ o. among frames (option_map_or (λ (u : Window). fed u.activation (u.offset + (at - u.first))) o nobody)) none)
      of_producer (Some n) e v =
          let passes = position-Some (is_written_by stream at) (windows activations) n no_window e in
          let u = written stream at (window_number activations n) passes.1 in
          let (place, place_lt, is_n) = stands layout activations of stream exists n passes.0 u.on_stream in
          let span : writer_at layout stream place ≡ span_of (window_number activations n) = writer_is layout activations of stream exists place place_lt ∙ ap (λ m. span_of (window_number activations m)) is_n in
          let is_producer : producer activations stream at ≡ Some (window_number activations n) = producer_by_number activations stream at ∙ ap (option_and_then (λ m. slice_get (windows activations) m)) e ∙ there activations n passes.0 in
          of_frame (window_number activations n) is_producer
          (λ g numbered.
          let writes : WritesAt layout w stream at place g = record {
            within = place_lt;
            from = subst (λ (s : Span). s.first ≤ at) (sym span) u.from;
            to = subst (λ (s : Span). at < end_of s) (sym span) u.to;
            is_frame = ap (λ (s : Span). number_among frames s.frame) span ∙ numbered;
          } in
          fed_by layout w can plan laid f i k place g le lt kl writes ∙ ap (λ (s : Span). fed g (s.offset + (at - s.first))) span)
          v (number_among frames (window_number activations n).activation) refl
          ∙ sym (ap (λ o. among frames (option_map_or (λ (x : Window). fed x.activation (x.offset + (at - x.first))) o nobody)) is_producer)

      by_stream : (b : Bool) → (stream == 0) ≡ b → epoch_opening input kept stream at ≡ opening_element input stream at → cell_source plan c ≡ among frames (stream_source activations input (record { stream = stream; position = at }))
      by_stream true e v =
          of_input (slice_get input at) refl (eqb-true stream 0 e) (v ∙ ap (λ b. cond b (option_map (λ byte. Value (pos byte)) (slice_get input at)) None) e)
          ∙ sym (ap (λ b. among frames (cond b (input_source input at) (produced_source activations stream at))) e)
      by_stream false e v =
          of_producer (producer_number activations stream at) refl (v ∙ ap (λ b. cond b (option_map (λ byte. Value (pos byte)) (slice_get input at)) None) e)
          ∙ sym (ap (λ b. among frames (cond b (input_source input at) (produced_source activations stream at))) e)

      by_kept : (o : Option Elem) → value_kept kept (record { stream = stream; position = at }) ≡ o → cell_source plan c ≡ epoch_source activations input frames kept (record { stream = stream; position = at })
      by_kept (Some v) e =
          gives v (ap (λ o. option_map_or (λ x. Some x) o (opening_element input stream at)) e)
          ∙ sym (ap (λ o. option_map_or initial o (among frames (stream_source activations input (record { stream = stream; position = at })))) e)
      by_kept None e =
          by_stream (stream == 0) refl (ap (λ o. option_map_or (λ x. Some x) o (opening_element input stream at)) e)
          ∙ sym (ap (λ o. option_map_or initial o (among frames (stream_source activations input (record { stream = stream; position = at })))) e)

-- ---- places

-- what windows read, by their spans
read_places : (ws : List Window) → flat_map reach_places (map read_reach (map span_of ws)) ≡ flat_map places_of (filter (λ (w : Window). not w.claim.write) ws)
read_places [] = refl
read_places (w ∷ ws) = by_kind w.claim.write (read_places ws)
  where
    by_kind : (b : Bool) → flat_map reach_places (map read_reach (map span_of ws)) ≡ flat_map places_of (filter (λ (v : Window). not v.claim.write) ws)
        → places_from w.claim.stream w.first (cond {A = ℕ} b 0 w.claim.horizon) ++ flat_map reach_places (map read_reach (map span_of ws))
        ≡ flat_map places_of (cond (not b) (w ∷ filter (λ (v : Window). not v.claim.write) ws) (filter (λ (v : Window). not v.claim.write) ws))
    by_kind true rest = rest
    by_kind false rest = ap (λ xs. places_of w ++ xs) rest

-- the positions of a stretch from one on
from_on : (low first n : ℕ) → filter (λ p. nat_le low p) (range_with_len first n) ≡ range_with_len (first + (low - first)) (n - (low - first))
from_on low first zero = ap (range_with_len (first + (low - first))) (let e : 0 ≡ 0 - (low - first) = omega arith in e)
from_on low first (suc n) = elim (cases_lt first low) [
  | inl less ↦ ap (λ b. cond b (first ∷ filter (λ p. nat_le low p) (range_with_len (first + 1) n)) (filter (λ p. nat_le low p) (range_with_len (first + 1) n))) (no_le less)
      ∙ from_on low (first + 1) n
      ∙ ap (λ k. range_with_len k (n - (low - (first + 1)))) (let e : first + 1 + (low - (first + 1)) ≡ first + (low - first) = omega arith in e)
      ∙ ap (range_with_len (first + (low - first))) (let e : n - (low - (first + 1)) ≡ suc n - (low - first) = omega arith in e)
  | inr more ↦ ap (λ b. cond b (first ∷ filter (λ p. nat_le low p) (range_with_len (first + 1) n)) (filter (λ p. nat_le low p) (range_with_len (first + 1) n))) (le-leb low first more)
      ∙ ap (λ xs. first ∷ xs) (from_on low (first + 1) n
      ∙ ap (λ k. range_with_len k (n - (low - (first + 1)))) (let e : first + 1 + (low - (first + 1)) ≡ first + 1 = omega arith in e)
      ∙ ap (range_with_len (first + 1)) (let e : n - (low - (first + 1)) ≡ n = omega arith in e))
      ∙ ap (λ k. range_with_len k (suc n)) (let e : first ≡ first + (low - first) = omega arith in e)
      ∙ ap (range_with_len (first + (low - first))) (let e : suc n ≡ suc n - (low - first) = omega arith in e)
]
  where
    no_le : first < low → nat_le low first ≡ false
    no_le less = grind (arith, nat_tests)

-- ---- what leaves

filter-map : {A B : Type 0} (test : B → Bool) (f : A → B) (xs : List A) → filter test (map f xs) ≡ map f (filter (λ x. test (f x)) xs)
filter-map test f [] = refl
filter-map test f (x ∷ xs) = at (test (f x)) (filter-map test f xs)
  where
    at : (b : Bool) → filter test (map f xs) ≡ map f (filter (λ y. test (f y)) xs) → cond b (f x ∷ filter test (map f xs)) (filter test (map f xs)) ≡ map f (cond b (x ∷ filter (λ y. test (f y)) xs) (filter (λ y. test (f y)) xs))
    at true rest = ap (λ ys. f x ∷ ys) rest
    at false rest = rest

filter-same : {A : Type 0} (p q : A → Bool) (xs : List A) → ((x : A) → p x ≡ q x) → filter p xs ≡ filter q xs
filter-same p q [] same = refl
filter-same p q (x ∷ xs) same = ap (λ b. cond b (x ∷ filter p xs) (filter p xs)) (same x) ∙ ap (λ ys. cond (q x) (x ∷ ys) ys) (filter-same p q xs same)

module _ (layout : Layout) (is : IsLayout layout) (activations : List Activation) (of : IsLayoutOf layout activations) (frames : List ℕ) (cursors : List ℕ) (cursors_are : cursors ≡ map (read_from activations frames) (range_with_len 0 (length layout.writers))) where
  -- whether a place leaves
  abbrev leaves : Place → Bool
  leaves p = p.stream == 1 || nat_le (read_from activations frames p.stream) p.position

  test_is : (stream position : ℕ) → stream < length layout.writers → nat_le (leaves_from cursors stream) position ≡ (stream == 1 || nat_le (read_from activations frames stream) position)
  test_is stream position lt = by_output (stream == 1)
    where
      cursor : get_or cursors stream 0 ≡ read_from activations frames stream
      cursor = ap (λ xs. get_or xs stream 0) cursors_are ∙ get_or-map-range_with_len (read_from activations frames) 0 (length layout.writers) stream stream 0 lt (zero-add stream)

      by_output : (b : Bool) → nat_le (cond {A = ℕ} b 0 (get_or cursors stream 0)) position ≡ (b || nat_le (read_from activations frames stream) position)
      by_output true = le-leb 0 position (omega arith)
      by_output false = ap (λ n. nat_le n position) cursor

  window_leaves : (w : Window) → w.claim.stream < length layout.writers → places_from w.claim.stream (w.first + staying cursors (span_of w)) (w.claim.horizon - staying cursors (span_of w)) ≡ filter (λ (p : Place). p.stream == 1 || nat_le (read_from activations frames p.stream) p.position) (places_of w)
  window_leaves w lt =
      let stream = w.claim.stream in
      let g : ℕ → Place = λ position. record { stream = w.claim.stream; position = position } in
      ap (map g) (sym (from_on (leaves_from cursors stream) w.first w.claim.horizon) ∙ filter-same (λ p. nat_le (leaves_from cursors stream) p) (λ p. stream == 1 || nat_le (read_from activations frames stream) p) (range_with_len w.first w.claim.horizon) (λ p. test_is stream p lt))
      ∙ sym (filter-map (λ (p : Place). p.stream == 1 || nat_le (read_from activations frames p.stream) p.position) g (range_with_len w.first w.claim.horizon))

  windows_leave : (ws : List Window) → ((w : Window) → Has ws w → w.claim.stream < length layout.writers)
      → flat_map reach_places (map (leaving_reach cursors) (map span_of ws)) ≡ filter (λ (p : Place). p.stream == 1 || nat_le (read_from activations frames p.stream) p.position) (flat_map places_of (filter (λ (w : Window). w.claim.write) ws))
  windows_leave [] exist = refl
  windows_leave (w ∷ ws) exist = by_kind w.claim.write (windows_leave ws (λ v h. exist v (has_tail w ws v h)))
    where
      by_kind : (b : Bool) → flat_map reach_places (map (leaving_reach cursors) (map span_of ws)) ≡ filter (λ (p : Place). p.stream == 1 || nat_le (read_from activations frames p.stream) p.position) (flat_map places_of (filter (λ (v : Window). v.claim.write) ws))
          → places_from w.claim.stream (w.first + staying cursors (span_of w)) (cond {A = ℕ} b w.claim.horizon 0 - staying cursors (span_of w)) ++ flat_map reach_places (map (leaving_reach cursors) (map span_of ws))
          ≡ filter (λ (p : Place). p.stream == 1 || nat_le (read_from activations frames p.stream) p.position) (flat_map places_of (cond b (w ∷ filter (λ (v : Window). v.claim.write) ws) (filter (λ (v : Window). v.claim.write) ws)))
      by_kind true rest =
          ap (λ xs. xs ++ flat_map reach_places (map (leaving_reach cursors) (map span_of ws))) (window_leaves w (exist w (has_head w ws)))
          ∙ ap (λ xs. filter (λ (p : Place). p.stream == 1 || nat_le (read_from activations frames p.stream) p.position) (places_of w) ++ xs) rest
          ∙ sym (filter-append (λ (p : Place). p.stream == 1 || nat_le (read_from activations frames p.stream) p.position) (places_of w) (flat_map places_of (filter (λ (v : Window). v.claim.write) ws)))
      by_kind false rest =
          ap (λ n. places_from w.claim.stream (w.first + staying cursors (span_of w)) n ++ flat_map reach_places (map (leaving_reach cursors) (map span_of ws))) (let e : 0 - staying cursors (span_of w) ≡ 0 = omega arith in e)
          ∙ rest

  frames_leave : (xs : List ℕ) → ((a : ℕ) → Has xs a → a < frame_count layout) → flat_map reach_places (leaving_reaches layout xs cursors) ≡ filter (λ (p : Place). p.stream == 1 || nat_le (read_from activations frames p.stream) p.position) (flat_map (written_places activations) xs)
  frames_leave [] exist = refl
  frames_leave (x ∷ xs) exist =
      let lt = exist x (has_head x xs) in
      let in_acts : x < length activations = omega (arith, frame_count-is layout activations of) in
      let spans = spans_of-windows layout activations of x in_acts in
      flat_map-append reach_places (map (leaving_reach cursors) (spans_of layout x)) (leaving_reaches layout xs cursors)
      ∙ ap (λ ys. flat_map reach_places (map (leaving_reach cursors) ys) ++ flat_map reach_places (leaving_reaches layout xs cursors)) spans
      ∙ ap (λ ys. ys ++ flat_map reach_places (leaving_reaches layout xs cursors)) (windows_leave (windows_of activations x) (λ w h. span_stream layout is x (span_of w) lt (subst (λ ys. Has ys (span_of w)) (sym spans) (in_map span_of (windows_of activations x) w h))))
      ∙ ap (λ ys. filter (λ (p : Place). p.stream == 1 || nat_le (read_from activations frames p.stream) p.position) (written_places activations x) ++ ys) (frames_leave xs (λ a h. exist a (has_tail x xs a h)))
      ∙ sym (filter-append (λ (p : Place). p.stream == 1 || nat_le (read_from activations frames p.stream) p.position) (written_places activations x) (flat_map (written_places activations) xs))

-- ---- the whole

module _ (layout : Layout) (is : IsLayout layout) (activations : List Activation) (of : IsLayoutOf layout activations) (input : List ℕ) (frames : List ℕ) (kept : List Kept) (sink : List Reach) (exist : All (λ (r : Reach). r.stream < length layout.writers) sink) (fits : sum_by (over_frame read_count layout) frames + total sink ≤ 4194304) (are : AscendInLayout layout frames) (outside : WrittenOutside activations frames kept) (plan : Plan) (laid : IsWoven layout (weave_over layout input frames kept sink) plan) where
  pub reads_over : (f : ℕ) → f ≤ length frames → plan_reads plan f ≡ map (epoch_source activations input frames kept) (flat_map reach_places (reaches_over layout frames sink f))
  reads_over f le = woven_reads layout (weave_over layout input frames kept sink) (can_weave_over layout is activations of input frames kept sink exist fits are outside) plan laid (epoch_source activations input frames kept) f le
      (λ i k lt kl. source layout is activations of input frames kept sink exist fits are outside plan laid f i k le lt kl)

  in_activations : (f a : ℕ) → slice_get frames f ≡ Some a → a < length activations
  in_activations f a h = let lt = in_frames layout is activations of input frames kept sink exist fits are outside a (f, h) in omega (arith, frame_count-is layout activations of)

  pub reads_frame : (f a : ℕ) → slice_get frames f ≡ Some a → plan_reads plan f ≡ map (epoch_source activations input frames kept) (input_places activations a)
  unfolding input_places
  reads_frame f a h =
      let lt = slice_get_within frames f a h in
      let at : get_or frames f 0 ≡ a = get_or_from_slice_get frames f a 0 h in
      reads_over f (omega arith)
      ∙ ap (λ rs. map (epoch_source activations input frames kept) (flat_map reach_places rs))
      (reaches-frame layout is activations of input frames kept sink exist fits are outside f lt ∙ ap (λ b. map read_reach (spans_of layout b)) at ∙ ap (map read_reach) (spans_of-windows layout activations of a (in_activations f a h)))
      ∙ ap (map (epoch_source activations input frames kept)) (read_places (windows_of activations a))

  pub outputs_written : (f a : ℕ) (x : Activation) → slice_get frames f ≡ Some a → slice_get activations a ≡ Some x → (frame_at plan f).outputs ≡ output_count x
  outputs_written f a x h at =
      let lt = slice_get_within frames f a h in
      ap (λ (p : FramePlan). p.outputs) (frame_at-frame layout (weave_over layout input frames kept sink) plan laid f lt)
      ∙ ap (λ b. sum_by write_count (spans_of layout b)) (get_or_from_slice_get frames f a 0 h)
      ∙ outputs-are layout activations of a (in_activations f a h)
      ∙ ap (λ cs. sum_by (λ (c : Claim). c.horizon) (filter (λ (c : Claim). c.write) cs)) (claims_at-slice_get activations a x at)

module _ (layout : Layout) (is : IsLayout layout) (activations : List Activation) (of : IsLayoutOf layout activations) (input : List ℕ) (readers frames : List ℕ) (kept : List Kept) (cursors : List ℕ) (are : AscendInLayout layout frames) (outside : WrittenOutside activations frames kept) (cursors_are : cursors ≡ map (read_from activations readers) (range_with_len 0 (length layout.writers))) (plan : Plan) (places : List Place) (laid : IsEpochPlanOf layout input frames kept cursors plan places) where
  pub epoch_stands : StandsForEpoch plan activations input readers frames kept places
  epoch_stands = record {
    frames_are_these = length-frames layout (epoch_weave layout input frames kept cursors) plan laid.woven;
    numbers_are_theirs = laid.woven.numbers;
    outputs_are_written = outputs_written layout is activations of input frames kept (leaving_reaches layout frames cursors) (leaving_exist layout is frames cursors are) (leaving_fits layout is frames cursors are) are outside plan laid.woven;
    cells_are_window_elements = reads_frame layout is activations of input frames kept (leaving_reaches layout frames cursors) (leaving_exist layout is frames cursors are) (leaving_fits layout is frames cursors are) are outside plan laid.woven;
    places_leave = laid.places_are ∙ frames_leave layout is activations of readers cursors cursors_are frames (λ a h. in_frames layout is activations of input frames kept (leaving_reaches layout frames cursors) (leaving_exist layout is frames cursors are) (leaving_fits layout is frames cursors are) are outside a h);
    sink_is_places =
        reads_over layout is activations of input frames kept (leaving_reaches layout frames cursors) (leaving_exist layout is frames cursors are) (leaving_fits layout is frames cursors are) are outside plan laid.woven (length frames) (omega arith)
        ∙ ap (λ rs. map (epoch_source activations input frames kept) (flat_map reach_places rs)) (reaches-sink layout is activations of input frames kept (leaving_reaches layout frames cursors) (leaving_exist layout is frames cursors are) (leaving_fits layout is frames cursors are) are outside)
        ∙ ap (map (epoch_source activations input frames kept)) (sym laid.places_are);
  }
