-- The laws of runs in parts, as statements. Where activations read is said in `flow_core_epochs`.
use Rattle.std.specs.Prelude.{[], ◌≡◌, ℕ, ℤ, ◌<◌, List, ◌++◌, Option, Some, All, Contains, slice_get, slice_index, map, length, ◌≤◌, ◌⊎◌, true}
use Rattle.flow_core_laws.specs.declared.activation.Activation.{Activation}
use Rattle.flow_core_laws.specs.Outcome.{outcome_at, ends_of, has_end_at, State}
use Rattle.flow_core_laws.specs.Place.{input_places}
use Rattle.flow_core_epochs.specs.Epoch.{open_in, put_over, ReadNoOutput, Kept, IsKeptFor, StandsForEpoch, AreChosen, LeaveOutWaiting, IsEpoch}
use Rattle.flow_core_epochs.specs.Epoch.{epoch_meaning, carried_over, IsCarried, IsOutside, IsHeld, IsHeldAfter, IsPartHeld, IsPartOf, ServesAll, read_from}
use Rattle.flow_core_laws.specs.declared.elem.Elem.{Elem}
use Rattle.flow_core_laws.specs.declared.plan.Plan.{Plan}
use Rattle.flow_core_laws.specs.declared.outcome.Outcome.{Outcome}
use Rattle.flow_core_laws.specs.declared.task_end.TaskEnd.{TaskEnd}
use Rattle.flow_core_laws.specs.declared.ends.Ends.{Ends}
use Rattle.flow_core_laws.specs.declared.place.Place.{Place}
use Rattle.flow_core_laws.specs.Streams.{stream_source, stream_element, stream_meaning}
use Rattle.flow_core_laws.specs.Plans.{sink_elements}
use Rattle.flow_core_laws.specs.Serves.{Serves}

-- what a frame or a later activation reads lies where `read_from` says, or behind it
abbrev pub ReadsLieBehind : Type 0
ReadsLieBehind =
    (activations more : List Activation) (frames : List ℕ) (a : ℕ) (p : Place) → (Contains frames a) ⊎ (length activations ≤ a)
    → Contains (input_places (activations ++ more) a) p → read_from activations frames p.stream ≤ p.position

-- an activation with an outcome has the same one with more activations behind
abbrev pub KeepsPrefixes : Type 0
KeepsPrefixes =
    (activations more : List Activation) (input : List ℕ) (body : ℕ → List ℤ → Outcome) (a : ℕ) (o : Outcome)
    → outcome_at (stream_meaning activations input body) a ≡ Some o → outcome_at (stream_meaning (activations ++ more) input body) a ≡ Some o

-- a fact of every epoch
abbrev pub OfEpochs : ((before new : List Activation) (input : List ℕ) (body : ℕ → List ℤ → Outcome) (state : State) (readers frames : List ℕ)
    (kept : List Kept) (plan : Plan) (places : List Place) → Type 0) → Type 0
OfEpochs fact =
    (before new : List Activation) (input : List ℕ) (body : ℕ → List ℤ → Outcome) (state : State) (readers frames : List ℕ) (kept : List Kept)
    (plan : Plan) (places : List Place)
    → IsEpoch before new input body state readers frames kept plan places → fact before new input body state readers frames kept plan places

-- the meaning of the epoch's plan, put over the part of the meaning that it goes on from, is the meaning of all activations so far
abbrev pub AddsUp : Type 0
AddsUp =
    OfEpochs (λ before new input body state readers frames kept plan places. put_over state frames (epoch_meaning plan frames body)
    (length (before ++ new)) ≡ stream_meaning (before ++ new) input body)

-- in the meaning of all activations so far a frame of the epoch has the outcome that the epoch's plan gives it
abbrev pub FramesEnd : Type 0
FramesEnd =
    OfEpochs (λ before new input body state readers frames kept plan places. (f a : ℕ) → slice_get frames f ≡ Some a
    → outcome_at (stream_meaning (before ++ new) input body) a ≡ outcome_at (epoch_meaning plan frames body) f)

-- the sink cells of the epoch's plan have the elements of the places that leave the epoch
abbrev pub SinkIsWhatLeaves : Type 0
SinkIsWhatLeaves =
    OfEpochs (λ before new input body state readers frames kept plan places. sink_elements plan (epoch_meaning plan frames body)
    ≡ map (λ (p : Place). stream_element (stream_meaning (before ++ new) input body) (stream_source (before ++ new) input p)) places)

-- before the first epoch there is nothing to carry
abbrev pub NothingAtFirst : Type 0
NothingAtFirst = (input : List ℕ) (body : ℕ → List ℤ → Outcome) → IsCarried [] input (stream_meaning [] input body) []

-- what is carried serves every next epoch
abbrev pub ServesNext : Type 0
ServesNext =
    (activations new : List Activation) (input : List ℕ) (body : ℕ → List ℤ → Outcome) (state : State) (kept : List Kept)
    → ReadNoOutput (activations ++ new) → IsPartOf state activations input body → IsCarried activations input state kept → (frames : List ℕ)
    → frames ≡ open_in state (length (activations ++ new))
    → IsKeptFor (activations ++ new) input state frames kept × IsOutside (activations ++ new) frames kept

-- an epoch for which all was carried carries all over
abbrev pub CarriesOver : Type 0
CarriesOver =
    OfEpochs (λ before new input body state readers frames kept plan places. IsCarried before input state kept
    → IsCarried (before ++ new) input (stream_meaning (before ++ new) input body)
    (carried_over (before ++ new) (open_in (stream_meaning (before ++ new) input body) (length (before ++ new))) kept places
    (sink_elements plan (epoch_meaning plan frames body))))

-- an element of the output that doesn't leave the epoch is what it was before
abbrev pub OutputStays : Type 0
OutputStays =
    OfEpochs (λ before new input body state readers frames kept plan places. (p : Place) → p.stream ≡ 1 → ¬ (Contains places p)
    → stream_element (stream_meaning (before ++ new) input body) (stream_source (before ++ new) input p)
    ≡ stream_element state (stream_source before input p))

-- Before the first epoch nothing is held.
abbrev pub HeldAtFirst : Type 0
HeldAtFirst = (input : List ℕ) (body : ℕ → List ℤ → Outcome) → IsHeld [] input body [] [] []

-- What is held between epochs is a part of the meaning: all of it.
abbrev pub AllIsAPart : Type 0
AllIsAPart =
    (activations : List Activation) (input : List ℕ) (body : ℕ → List ℤ → Outcome) (ends : List (Option TaskEnd)) (kept : List Kept)
    (output : List (Option Elem))
    → IsHeld activations input body ends kept output → IsPartHeld activations input body (stream_meaning activations input body) ends kept output

-- A part in which every activation so far has an end is all of the meaning.
abbrev pub EndedIsAll : Type 0
EndedIsAll =
    (activations : List Activation) (input : List ℕ) (body : ℕ → List ℤ → Outcome) (state : State) (ends : List (Option TaskEnd)) (kept : List Kept)
    (output : List (Option Elem))
    → IsPartHeld activations input body state ends kept output → length ends ≡ length activations
    → ((a : ℕ) → a < length activations → has_end_at ends a ≡ true) → IsHeld activations input body ends kept output

-- A part that is held is enough for the next epoch: where its frames leave out only what waits, they run with the elements that are kept.
abbrev pub BeginsEpoch : Type 0
BeginsEpoch =
    (before new : List Activation) (input : List ℕ) (body : ℕ → List ℤ → Outcome) (state : State) (ends : List (Option TaskEnd)) (kept : List Kept)
    (output : List (Option Elem)) (readers frames : List ℕ)
    → ReadNoOutput (before ++ new) → IsPartHeld before input body state ends kept output → readers ≡ open_in ends (length (before ++ new))
    → LeaveOutWaiting (before ++ new) input ends frames
    → IsOutside (before ++ new) frames kept × ((plan : Plan) (places : List Place) → StandsForEpoch plan (before ++ new) input readers frames kept places
    → IsEpoch before new input body state readers frames kept plan places)

-- What waits for an element that can't come gets no outcome from all activations so far.
abbrev pub WaitingGetsNone : Type 0
WaitingGetsNone =
    (before new : List Activation) (input : List ℕ) (body : ℕ → List ℤ → Outcome) (state : State) (frames : List ℕ)
    → LeaveOutWaiting (before ++ new) input (ends_of state) frames → AreChosen before new input body state frames

-- All that have no end yet leave nothing out.
abbrev pub AllLeaveOutNothing : Type 0
AllLeaveOutNothing =
    (activations : List Activation) (input : List ℕ) (ends : List (Option TaskEnd)) (frames : List ℕ) → frames ≡ open_in ends (length activations)
    → LeaveOutWaiting activations input ends frames

-- What an epoch comes to, put over the part that was held before it, is all of the meaning.
abbrev pub EndsEpoch : Type 0
EndsEpoch =
    OfEpochs (λ before new input body state readers frames kept plan places. (ends : List (Option TaskEnd)) (output : List (Option Elem)) (run : Ends)
    → IsPartHeld before input body state ends kept output → run.ends ≡ ends_of (epoch_meaning plan frames body)
    → run.output ≡ sink_elements plan (epoch_meaning plan frames body)
    → IsHeldAfter (before ++ new) input body (put_over ends frames run.ends (length (before ++ new))) kept output places run.output)

-- bodies that serve all activations serve the plan of an epoch, each frame by the body of its activation
abbrev pub ServesFrames : (ℕ → List ℤ → Outcome) → (ℕ → ℕ → ℕ → Type 0) → Type 0
ServesFrames body takes =
    (plan : Plan) (activations : List Activation) (input : List ℕ) (readers frames : List ℕ) (kept : List Kept) (places : List Place)
    → StandsForEpoch plan activations input readers frames kept places → All (λ a. a < length activations) frames → ServesAll activations body takes
    → Serves plan (λ f. body (slice_index frames f)) (λ f inputs outputs. (f < length frames) × takes (slice_index frames f) inputs outputs)
