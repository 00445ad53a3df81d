-- The plan of an epoch, by the layout of all activations so far.
use Rattle.std.specs.Prelude.{◌≡◌, ℕ, ℤ, ◌==◌, pos, if◌then◌else◌, List, ◌++◌, Option, Some, None, All}
use Rattle.std.specs.Prelude.{slice_get, slice_index, length, map, sum_by, ◌+◌, ◌-◌, ◌<◌, nat_lt}
use Rattle.std.specs.Option.{option_map, option_map_or}
use Rattle.std.specs.List.{flat_map, range_with_len}
use Rattle.flow_core_laws.specs.declared.activation.Activation.{Activation}
use Rattle.flow_core_laws.specs.Window.{Window, producer}
use Rattle.flow_core_epochs.specs.Epoch.{number_among, read_from, open_in, put_over, Kept, value_kept}
use Rattle.flow_core_epochs.specs.Epoch.{epoch_meaning, AreChosen, IsKeptFor, IsPartOf, StandsForEpoch, IsOutside}
use Rattle.flow_core_laws.specs.Outcome.{State}
use Rattle.flow_core_laws.specs.declared.plan.Plan.{Plan}
use Rattle.flow_core_laws.specs.declared.outcome.Outcome.{Outcome}
use Rattle.flow_core_laws.specs.IsSound.{IsSound}
use Rattle.flow_core_laws.specs.Streams.{stream_meaning}
use Rattle.flow_core_laws.specs.declared.elem.Elem.{Elem}
use Rattle.flow_core_laws.specs.declared.elem.Elem.TheVariants.{Value}
use Rattle.flow_core_laws.specs.declared.place.Place.{Place}
use Rattle.stream_match_layouts.specs.declared.layout.Layout.{Layout}
use Rattle.stream_match_layouts.specs.Layout.{IsLayout, IsLayoutOf}
use Rattle.stream_match_layouts.specs.Spans.{write_count, spans_of, frame_count, read_count}
use Rattle.stream_match.specs.Weave.{Reach, reach_places, Weave, IsWoven}
use Rattle.stream_match_layouts.specs.declared.span.Span.{Span}

-- Activations of a layout, ascending.
pub record AscendInLayout (layout : Layout) (frames : List ℕ) : Type 0 where
  pub exist : (i : ℕ) → i < length frames → slice_index frames i < frame_count layout
  pub ascend : (i j : ℕ) → i < j → j < length frames → slice_index frames i < slice_index frames j

-- what a span reads
abbrev pub read_reach : Span → Reach
read_reach span = record { stream = span.stream; first = span.first; count = read_count span }

-- from where on the elements of a stream leave an epoch, by the least positions that are still read
abbrev pub leaves_from : List ℕ → ℕ → ℕ
leaves_from cursors stream = if stream == 1 then 0 else slice_index cursors stream

-- how many positions of a span lie before the first one that leaves
abbrev pub staying : List ℕ → Span → ℕ
staying cursors span = leaves_from cursors span.stream - span.first

-- what a span writes that leaves
abbrev pub leaving_reach : List ℕ → Span → Reach
leaving_reach cursors span = record { stream = span.stream; first = span.first + staying cursors span; count = write_count span - staying cursors span }

-- what leaves the frames
abbrev pub leaving_reaches : Layout → List ℕ → List ℕ → List Reach
leaving_reaches layout frames cursors = flat_map (λ a. map (leaving_reach cursors) (spans_of layout a)) frames

-- the reaches of the frame of a number, and of the sink
abbrev pub reaches_over : Layout → List ℕ → List Reach → ℕ → List Reach
reaches_over layout frames sink f = if nat_lt f (length frames) then map read_reach (spans_of layout (slice_index frames f)) else sink

-- what the element at a position of a stream is at opening, but for what is kept: the input's byte, where it is there
abbrev pub opening_element : List ℕ → ℕ → ℕ → Option Elem
opening_element input stream position = if stream == 0 then option_map (λ byte. Value (pos byte)) (slice_get input position) else None

-- each kept element was written by an activation that is no frame
abbrev pub WrittenOutside : List Activation → List ℕ → List Kept → Type 0
WrittenOutside activations frames kept =
    All (λ (k : Kept). (w : Window) × (producer activations k.place.stream k.place.position ≡ Some w) × (number_among frames w.activation ≡ None)) kept

-- what is there at opening: what is kept, a value or poison, or else the input's byte
abbrev pub epoch_opening : List ℕ → List Kept → ℕ → ℕ → Option Elem
epoch_opening input kept stream position =
    option_map_or (λ e. Some e) (value_kept kept (record { stream = stream; position = position })) (opening_element input stream position)

-- frames of a layout that read what they read, and a sink
abbrev pub weave_over : Layout → List ℕ → List ℕ → List Kept → List Reach → Weave
weave_over layout input frames kept sink = record {
  frames = length frames;
  activations = frames;
  number = number_among frames;
  reaches = reaches_over layout frames sink;
  opening = epoch_opening input kept;
  outputs = λ f. sum_by write_count (spans_of layout (slice_index frames f));
}

-- an epoch: the sink takes what leaves
abbrev pub epoch_weave : Layout → List ℕ → List ℕ → List Kept → List ℕ → Weave
epoch_weave layout input frames kept cursors = weave_over layout input frames kept (leaving_reaches layout frames cursors)

-- The plan of an epoch, and the places of its sink cells.
pub record IsEpochPlanOf (layout : Layout) (input : List ℕ) (frames : List ℕ) (kept : List Kept) (cursors : List ℕ) (plan : Plan)
    (places : List Place) : Type 0 where
  pub woven : IsWoven layout (epoch_weave layout input frames kept cursors) plan
  pub places_are : places ≡ flat_map reach_places (leaving_reaches layout frames cursors)

-- Each such plan is sound, where what is kept was written by others.
abbrev pub EpochPlansAreSound : Type 0
EpochPlansAreSound =
    (layout : Layout) (input : List ℕ) (frames : List ℕ) (kept : List Kept) (cursors : List ℕ) (plan : Plan) (places : List Place)
    (activations : List Activation)
    → IsLayout layout → IsLayoutOf layout activations → AscendInLayout layout frames → WrittenOutside activations frames kept
    → IsEpochPlanOf layout input frames kept cursors plan places → IsSound plan

-- Each such plan stands for its epoch, where the cursors say what is still read.
abbrev pub EpochPlansStand : Type 0
EpochPlansStand =
    (layout : Layout) (input : List ℕ) (readers frames : List ℕ) (kept : List Kept) (cursors : List ℕ) (plan : Plan) (places : List Place)
    (activations : List Activation)
    → IsLayout layout → IsLayoutOf layout activations → AscendInLayout layout frames → WrittenOutside activations frames kept
    → cursors ≡ map (read_from activations readers) (range_with_len 0 (length layout.writers))
    → IsEpochPlanOf layout input frames kept cursors plan places → StandsForEpoch plan activations input readers frames kept places

-- A plan goes on from any part of what the activations before it mean: for all activations of the layout, and every such part
-- that leaves just these frames open, and whatever their bodies, the plan's meaning put over that part is the meaning of all,
-- where each kept element is what was written, a value or poison.
abbrev pub GoesOn : Layout → List ℕ → List ℕ → List Kept → Plan → Type 0
GoesOn layout input frames kept plan =
    (before new : List Activation) (body : ℕ → List ℤ → Outcome) (state : State)
    → IsLayoutOf layout (before ++ new) → IsPartOf state before input body → frames ≡ open_in state (length (before ++ new))
    → IsKeptFor (before ++ new) input state frames kept → IsOutside (before ++ new) frames kept
    → put_over state frames (epoch_meaning plan frames body) (length (before ++ new))
    ≡ stream_meaning (before ++ new) input body

-- A plan also goes on if it leaves out of the readers those that get no outcome from all activations either.
abbrev pub GoesOnFor : Layout → List ℕ → (readers frames : List ℕ) → List Kept → Plan → Type 0
GoesOnFor layout input readers frames kept plan =
    (before new : List Activation) (body : ℕ → List ℤ → Outcome) (state : State)
    → IsLayoutOf layout (before ++ new) → IsPartOf state before input body → readers ≡ open_in state (length (before ++ new))
    → AreChosen before new input body state frames
    → IsKeptFor (before ++ new) input state readers kept → IsOutside (before ++ new) frames kept
    → put_over state frames (epoch_meaning plan frames body) (length (before ++ new))
    ≡ stream_meaning (before ++ new) input body

-- The plan of an epoch goes on so: where all activations of the layout are those that came before and new ones, a state is a
-- part of what those before mean, the readers are all that have no outcome in it, and what is left out of them gets none, the
-- plan's meaning, put over that state, is the meaning of all, poison included.
abbrev pub EpochPlansGoOn : Type 0
EpochPlansGoOn =
    (layout : Layout) (input : List ℕ) (readers frames : List ℕ) (kept : List Kept) (cursors : List ℕ) (plan : Plan) (places : List Place)
    (before new : List Activation) (body : ℕ → List ℤ → Outcome) (state : State)
    → IsLayout layout → IsLayoutOf layout (before ++ new) → AscendInLayout layout frames → WrittenOutside (before ++ new) frames kept
    → cursors ≡ map (read_from (before ++ new) readers) (range_with_len 0 (length layout.writers))
    → IsPartOf state before input body → readers ≡ open_in state (length (before ++ new)) → AreChosen before new input body state frames
    → IsKeptFor (before ++ new) input state readers kept
    → IsEpochPlanOf layout input frames kept cursors plan places
    → put_over state frames (epoch_meaning plan frames body) (length (before ++ new))
    ≡ stream_meaning (before ++ new) input body
