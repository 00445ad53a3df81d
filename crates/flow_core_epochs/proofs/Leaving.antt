-- That the sink cells of an epoch have the elements of the places that leave.
use Rattle.std.proofs.Common.{◌≡◌, ◌≢◌, ℕ, ℤ, pos, List, [], ◌∷◌, ◌++◌, Option, Some, None, Bool, cond, map, refl, sym, ap, ◌∙◌, subst, ◌⊎◌, inl, inr}
use Rattle.std.specs.Prelude.{slice_get, ◌==◌, ◌||◌, nat_le, option_and_then}
use Rattle.std.specs.Option.{option_map_or}
use Rattle.std.specs.List.{flat_map}
use Rattle.std.proofs.lemmas.Bool.{cases_eq}
use Rattle.flow_core_laws.specs.declared.elem.Elem.{Elem}
use Rattle.flow_core_laws.specs.declared.activation.Activation.{Activation}
use Rattle.flow_core_laws.specs.declared.plan.Plan.{Plan}
use Rattle.flow_core_laws.specs.declared.outcome.Outcome.{Outcome}
use Rattle.flow_core_laws.specs.Outcome.{outcome_at, State}
use Rattle.flow_core_laws.specs.declared.elem.Elem.TheVariants.{Value}
use Rattle.flow_core_laws.specs.declared.place.Place.{Place}
use Rattle.flow_core_laws.specs.Element.{Source, initial, fed, nobody, element_written}
use Rattle.flow_core_laws.specs.Streams.{input_source, produced_source, stream_source, stream_element, own_number}
use Rattle.flow_core_laws.specs.Plans.{plan_reads, plan_element, sink_elements}
use Rattle.flow_core_epochs.specs.Epoch.{written_places, leaving_places, read_from, Kept, value_kept, among, epoch_source}
use Rattle.flow_core_epochs.proofs.Members.{Has, of_filter, of_flat_map, has_tail}
use Rattle.flow_core_epochs.proofs.Written.{written_source}
use Rattle.flow_core_epochs.proofs.Epochs.{HasEpoch, number_is, earlier, whole, partial, over_frame, over_is_whole, kept_value, output_outcome}

-- the same elements over a whole list
pub same_elements : {A S V : Type 0} (f g : S → V) (h k : A → S) (xs : List A) → ((x : A) → Has xs x → f (h x) ≡ g (k x)) → map f (map h xs) ≡ map (λ x. g (k x)) xs
same_elements f g h k [] same = refl
same_elements {V = V} f g h k (x ∷ xs) same =
    ap (λ (v : V). v ∷ map f (map h xs)) (same x (0, refl)) ∙ ap (λ (vs : List V). g (k x) ∷ vs) (same_elements f g h k xs (λ y at. same y (has_tail x xs y at)))

module _ (before new : List Activation) (input : List ℕ) (body : ℕ → List ℤ → Outcome) (state : State) (readers frames : List ℕ) (kept : List Kept) (plan : Plan) (places : List Place) where
  -- an element that a frame feeds is the same in the epoch and in the run
  pub element_of_frame : HasEpoch before new input body state readers frames kept plan places → (p : Place) (f a place : ℕ) → slice_get frames f ≡ Some a → stream_source (before ++ new) input p ≡ fed a place → plan_element plan (partial before new input body state readers frames kept plan places) (epoch_source (before ++ new) input frames kept p) ≡ stream_element (whole before new input body state readers frames kept plan places) (stream_source (before ++ new) input p)
  element_of_frame epoch p f a place at is =
      ap (λ (k : Option Elem). plan_element plan m (option_map_or initial k (among frames (stream_source (before ++ new) input p)))) (not_kept (value_kept kept p) refl)
      ∙ ap (λ (x : Source). plan_element plan m (among frames x)) is
      ∙ ap (λ (n : Option ℕ). plan_element plan m (option_map_or (λ g. fed g place) n nobody)) (epoch.are_open.numbered f a at)
      ∙ ap (λ (n : ℕ). option_and_then (λ (q : Outcome). element_written n q place) (outcome_at m f)) (number_is before new input body state readers frames kept plan places epoch f a at)
      ∙ ap (λ (o : Option Outcome). option_output o) (sym (over_frame before new input body state readers frames kept plan places a f (epoch.are_open.numbered f a at)) ∙ over_is_whole before new input body state readers frames kept plan places epoch a)
      ∙ sym (ap (stream_element all) is)
    where
      m : State
      m = partial before new input body state readers frames kept plan places

      all : State
      all = whole before new input body state readers frames kept plan places

      option_output : Option Outcome → Option Elem
      option_output o = option_and_then (λ (q : Outcome). element_written a q place) o

      not_kept : (k : Option Elem) → value_kept kept p ≡ k → value_kept kept p ≡ None
      not_kept None e = e
      not_kept (Some v) e =
          let w = kept_value (before ++ new) input (earlier before new input body state readers frames kept plan places) frames kept p v epoch.kept_well e in
          let (o, ended) = output_outcome own_number (earlier before new input body state readers frames kept plan places) a place v (sym (ap (stream_element (earlier before new input body state readers frames kept plan places)) is) ∙ w.1) in
          let none = epoch.are_open.waits f a at in
          absurd (cc)

  -- an element of the input too
  pub element_of_input : HasEpoch before new input body state readers frames kept plan places → (p : Place) → p.stream ≡ 0 → plan_element plan (partial before new input body state readers frames kept plan places) (epoch_source (before ++ new) input frames kept p) ≡ stream_element (whole before new input body state readers frames kept plan places) (stream_source (before ++ new) input p)
  element_of_input epoch p zero_stream =
      ap (λ (k : Option Elem). plan_element plan m (option_map_or initial k (among frames (stream_source (before ++ new) input p)))) (not_kept (value_kept kept p) refl)
      ∙ ap (λ (x : Source). plan_element plan m (among frames x)) is
      ∙ by_byte (slice_get input p.position)
      ∙ sym (ap (stream_element all) is)
    where
      m : State
      m = partial before new input body state readers frames kept plan places

      all : State
      all = whole before new input body state readers frames kept plan places

      is : stream_source (before ++ new) input p ≡ input_source input p.position
      is = ap (λ (b : Bool). cond b (input_source input p.position) (produced_source (before ++ new) p.stream p.position)) (ap (λ (n : ℕ). n == 0) zero_stream)

      by_byte : (o : Option ℕ) → plan_element plan m (among frames (option_map_or (λ byte. initial (Value (pos byte))) o nobody)) ≡ stream_element all (option_map_or (λ byte. initial (Value (pos byte))) o nobody)
      by_byte None = refl
      by_byte (Some x) = refl

      not_kept : (k : Option Elem) → value_kept kept p ≡ k → value_kept kept p ≡ None
      not_kept None e = e
      not_kept (Some v) e = absurd ((kept_value (before ++ new) input (earlier before new input body state readers frames kept plan places) frames kept p v epoch.kept_well e).0 zero_stream)

  pub element_leaves : HasEpoch before new input body state readers frames kept plan places → (p : Place) → Has (leaving_places (before ++ new) readers frames) p → plan_element plan (partial before new input body state readers frames kept plan places) (epoch_source (before ++ new) input frames kept p) ≡ stream_element (whole before new input body state readers frames kept plan places) (stream_source (before ++ new) input p)
  element_leaves epoch p h =
      let r = of_filter (λ (p : Place). p.stream == 1 || nat_le (read_from (before ++ new) readers p.stream) p.position) (flat_map (written_places (before ++ new)) frames) p h in
      let (a, (f, at), written) = of_flat_map (written_places (before ++ new)) frames p r.0 in
      by_stream a f at written (cases_eq p.stream 0)
    where
      by_stream : (a f : ℕ) → slice_get frames f ≡ Some a → Has (written_places (before ++ new) a) p → (p.stream ≡ 0) ⊎ (p.stream ≢ 0) → plan_element plan (partial before new input body state readers frames kept plan places) (epoch_source (before ++ new) input frames kept p) ≡ stream_element (whole before new input body state readers frames kept plan places) (stream_source (before ++ new) input p)
      by_stream a f at written (inl zero_stream) = element_of_input epoch p zero_stream
      by_stream a f at written (inr other) =
          let (place, is) = written_source (before ++ new) input a p (epoch.are_open.exists f a at) written other in
          element_of_frame epoch p f a place at is

  pub sink_leaves : HasEpoch before new input body state readers frames kept plan places → sink_elements plan (partial before new input body state readers frames kept plan places) ≡ map (λ (p : Place). stream_element (whole before new input body state readers frames kept plan places) (stream_source (before ++ new) input p)) places
  sink_leaves epoch =
      ap (λ n. map (plan_element plan (partial before new input body state readers frames kept plan places)) (plan_reads plan n)) epoch.stands.frames_are_these
      ∙ ap (map (plan_element plan (partial before new input body state readers frames kept plan places))) epoch.stands.sink_is_places
      ∙ same_elements (plan_element plan (partial before new input body state readers frames kept plan places)) (stream_element (whole before new input body state readers frames kept plan places)) (epoch_source (before ++ new) input frames kept) (stream_source (before ++ new) input) places (λ p at. element_leaves epoch p (subst (λ (ps : List Place). Has ps p) epoch.stands.places_leave at))
