-- The plan of an epoch, whatever the order of what is kept.
use Rattle.std.proofs.Common.{◌≡◌, ℕ, ◌^◌, ◌<◌, List, [], ◌∷◌, Some, None, length, map, get_or, refl, ap, ◌∙◌, arith, zero-add}
use Rattle.std.specs.Prelude.{All}
use Rattle.std.specs.Option.{option_map_or}
use Rattle.std.specs.List.{range_with_len}
use Rattle.std.specs.List.Sorted.{IsPermutation}
use Rattle.std.proofs.lemmas.List.FromFn.{get_or-map-range_with_len, length-map-range_with_len}
use Rattle.std.proofs.lemmas.List.Sorted.{IsPermutation-map, All-permutation}
use Rattle.flow_core_laws.specs.declared.activation.Activation.{Activation}
use Rattle.flow_core_laws.specs.declared.place.Place.{Place}
use Rattle.flow_core_laws.specs.declared.plan.Plan.{Plan}
use Rattle.flow_core_laws.specs.Element.{initial}
use Rattle.flow_core_laws.specs.Window.{Window, claims_of, producer}
use Rattle.flow_core_laws.specs.Place.{input_places}
use Rattle.flow_core_laws.specs.Streams.{stream_source}
use Rattle.flow_core_epochs.specs.Epoch as epoch
use Rattle.flow_core_epochs.specs.Epoch.{number_among, value_kept, among, epoch_source, read_from, StandsForEpoch}
use Rattle.flow_core_epochs.proofs.Reading.{read_from_cursor}
use Rattle.stream_match.specs.declared.kept.Kept.{Kept}
use Rattle.stream_match_layouts.specs.declared.layout.Layout.{Layout}
use Rattle.stream_match_layouts.specs.Layout.{IsLayout}
use Rattle.stream_match.specs.EpochPlan.{WrittenOutside}
use Rattle.stream_match.specs.Kept.{kept_of}
use Rattle.stream_match_layouts.proofs.Bounds.{read_cursor-le}

pub map-same : {A B : Type 0} (f g : A → B) (xs : List A) → ((x : A) → f x ≡ g x) → map f xs ≡ map g xs
map-same f g [] same = refl
map-same f g (x ∷ xs) same = ap (λ y. y ∷ map f xs) (same x) ∙ ap (λ ys. g x ∷ ys) (map-same f g xs same)

pub stands_same : (plan : Plan) (activations : List Activation) (input readers frames : List ℕ) (one other : List epoch.Kept) (places : List Place) → ((p : Place) → value_kept one p ≡ value_kept other p) → StandsForEpoch plan activations input readers frames one places → StandsForEpoch plan activations input readers frames other places
stands_same plan activations input readers frames one other places same s =
    let source : (p : Place) → epoch_source activations input frames one p ≡ epoch_source activations input frames other p = λ p. ap (λ o. option_map_or initial o (among frames (stream_source activations input p))) (same p) in
    record {
      frames_are_these = s.frames_are_these;
      numbers_are_theirs = s.numbers_are_theirs;
      outputs_are_written = s.outputs_are_written;
      cells_are_window_elements = λ f a h. s.cells_are_window_elements f a h ∙ map-same (epoch_source activations input frames one) (epoch_source activations input frames other) (input_places activations a) source;
      places_leave = s.places_leave;
      sink_is_places = s.sink_is_places ∙ map-same (epoch_source activations input frames one) (epoch_source activations input frames other) places source;
    }

pub outside_same : (activations : List Activation) (frames : List ℕ) (kept others : List Kept) → IsPermutation kept others → WrittenOutside activations frames (map kept_of kept) → WrittenOutside activations frames (map kept_of others)
outside_same activations frames kept others perm outside =
    All-permutation (λ (k : epoch.Kept). (w : Window) × (producer activations k.place.stream k.place.position ≡ Some w) × (number_among frames w.activation ≡ None)) (map kept_of kept) (map kept_of others) (IsPermutation-map kept_of kept others perm) outside

-- the cursors
pub cursors_length : (layout : Layout) (activations : List Activation) (frames cursors : List ℕ) → cursors ≡ map (read_from activations frames) (range_with_len 0 (length layout.writers)) → length cursors ≡ length layout.writers
cursors_length layout activations frames cursors are = ap length are ∙ length-map-range_with_len (read_from activations frames) 0 (length layout.writers)

pub cursors_small : (layout : Layout) (is : IsLayout layout) (frames cursors : List ℕ) → cursors ≡ map (read_from is.activations frames) (range_with_len 0 (length layout.writers)) → All (λ cursor. cursor < 2 ^ 62) cursors
cursors_small layout is frames cursors are k d lt =
    let n = length layout.writers in
    let within : k < n = omega (arith, cursors_length layout is.activations frames cursors are) in
    let at : get_or cursors k d ≡ read_from is.activations frames k = ap (λ xs. get_or xs k d) are ∙ get_or-map-range_with_len (read_from is.activations frames) 0 n k k d within (zero-add k) in
    let small = is.lawful.cursors_are_small in
    omega (arith, at, read_from_cursor is.activations frames k, read_cursor-le k (claims_of is.activations))
