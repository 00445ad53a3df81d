-- The laws of the meaning, as statements.
use Rattle.std.specs.Prelude.{◌≡◌, ◌≢◌, ℕ, ℤ, ◌≤◌, true, List, Option, Some, None, is_some, slice_get, length, map}
use Rattle.std.specs.Prelude.{Contains, ◌+◌, ◌<◌, ◌++◌, replicate, slice_set, take, option_and_then, IsTrue}
use Rattle.flow_core_laws.specs.declared.activation.Activation.{Activation}
use Rattle.flow_core_laws.specs.Outcome.{outcome_at, State, ends_of, has_failed}
use Rattle.flow_core_laws.specs.Streams.{output_count, stream_source, stream_reads, stream_element, output_elements, stream_meaning}
use Rattle.flow_core_laws.specs.declared.elem.Elem.{Elem}
use Rattle.flow_core_laws.specs.declared.elem.Elem.TheVariants.{Value, Poison}
use Rattle.flow_core_laws.specs.declared.plan.Plan.{Plan}
use Rattle.flow_core_laws.specs.declared.task_end.TaskEnd.TheVariants.{Done, Poisoned}
use Rattle.flow_core_laws.specs.declared.outcome.Outcome.{Outcome}
use Rattle.flow_core_laws.specs.Element.{Source}
use Rattle.flow_core_laws.specs.Poisoning.{values_of, least_root, poisoning}
use Rattle.flow_core_laws.specs.There.{is_there}
use Rattle.flow_core_laws.specs.Plans.{plan_reads, plan_element, plan_meaning, sink_elements}
use Rattle.flow_core_laws.specs.IsSound.{IsSound}
use Rattle.flow_core_laws.specs.StandsFor.{StandsFor}
use Rattle.std.specs.Option.{option_map}
use Rattle.flow_core_laws.specs.declared.claim.Claim.{Claim}
use Rattle.flow_core_laws.specs.declared.place.Place.{Place}
use Rattle.flow_core_laws.specs.Round.{IsEnabled, inputs_in, round, rounds, meaning}
use Rattle.flow_core_laws.specs.Window.{Window, windows, claims_of, offset_after, is_written_by, producer, producer_number}
use Rattle.flow_core_laws.specs.FirstPosition.{is_write_to, first_position}

-- Of every kind of elements and outcomes.
module _ {S V O : Type 0} (element : List (Option O) → S → Option V) where
  -- an element that is there stays the same as more activations get outcomes
  abbrev pub IsKept : Type 0
  IsKept =
      (s t : List (Option O)) → ((a : ℕ) (o : O) → outcome_at s a ≡ Some o → outcome_at t a ≡ Some o) → (source : S) (v : V)
      → element s source ≡ Some v
      → element t source ≡ Some v

  -- a fact of the meaning for all that activations read and bodies make of it
  abbrev pub OfAll : ((ℕ → List S) → (ℕ → List V → O) → ℕ → Type 0) → Type 0
  OfAll fact = (reads : ℕ → List S) (body : ℕ → List V → O) (count : ℕ) → fact reads body count

  -- one more round changes nothing in a meaning
  abbrev pub IsSettled : (ℕ → List S) → (ℕ → List V → O) → ℕ → Type 0
  IsSettled reads body count = round element reads body (meaning element reads body count) ≡ meaning element reads body count

  -- an outcome that is there after some rounds is the same after all later ones
  abbrev pub KeepsOutcomes : (ℕ → List S) → (ℕ → List V → O) → ℕ → Type 0
  KeepsOutcomes reads body count =
      (n m a : ℕ) (o : O) → n ≤ m → outcome_at (rounds element reads body n (replicate count None)) a ≡ Some o
      → outcome_at (rounds element reads body m (replicate count None)) a ≡ Some o

  -- where all inputs of an activation are there in a meaning, its outcome is what its body gives for
  -- them; elsewhere it has none
  abbrev pub IsFixed : (ℕ → List S) → (ℕ → List V → O) → ℕ → Type 0
  IsFixed reads body count =
      (a : ℕ) → a < count → outcome_at (meaning element reads body count) a
      ≡ option_map (body a) (inputs_in element reads (meaning element reads body count) a)

  -- A round gives an enabled activation the outcome of its body for its inputs, and leaves the others.
  pub record RoundsFire (reads : ℕ → List S) (body : ℕ → List V → O) (count : ℕ) : Type 0 where
    pub fires : (state : List (Option O)) (a : ℕ) → length state ≡ count → a < count → IsEnabled element reads state a
        → (inputs : List V) × (inputs_in element reads state a ≡ Some inputs) × (outcome_at (round element reads body state) a ≡ Some (body a inputs))
    pub leaves : (state : List (Option O)) (a : ℕ) → ¬ (IsEnabled element reads state a)
        → outcome_at (round element reads body state) a ≡ outcome_at state a

  -- The states that are reached by giving enabled activations their outcomes one at a time, in any order.
  pub data Reached (reads : ℕ → List S) (body : ℕ → List V → O) (count : ℕ) : List (Option O) → Type 0 where
    start : Reached reads body count (replicate count None)
    fire : (state : List (Option O)) (a : ℕ) (inputs : List V) → Reached reads body count state → a < count → outcome_at state a ≡ None
        → inputs_in element reads state a ≡ Some inputs → Reached reads body count (slice_set state a (Some (body a inputs)))

  -- Each such state agrees with the meaning, and one in which nothing is enabled is the meaning.
  pub record IsConfluent (reads : ℕ → List S) (body : ℕ → List V → O) (count : ℕ) : Type 0 where
    pub agrees : (state : List (Option O)) (a : ℕ) (o : O) → Reached reads body count state → outcome_at state a ≡ Some o
        → outcome_at (meaning element reads body count) a ≡ Some o
    pub ends_there : (state : List (Option O)) → Reached reads body count state → ((a : ℕ) → a < count → ¬ (IsEnabled element reads state a))
        → state ≡ meaning element reads body count

-- The windows are those of all claims in order. That of claim k of activation a stands behind those of the
-- claims before it: the claims of the activations before a, and the first k of its own. These alone say
-- where it begins and what its offset is.
pub record WindowsAreInOrder (activations : List Activation) : Type 0 where
  pub one_each : length (windows activations) ≡ length (claims_of activations)
  pub stands : (a k : ℕ) (x : Activation) (c : Claim) → slice_get activations a ≡ Some x → slice_get x.claims k ≡ Some c
      → slice_get (windows activations) (length (claims_of (take a activations)) + k)
      ≡ Some (record {
        activation = a;
        claim = c;
        first = first_position (claims_of (take a activations) ++ take k x.claims) c;
        offset = offset_after (take k x.claims) c;
      })
  pub claims : (i : ℕ) (w : Window) → slice_get (windows activations) i ≡ Some w → slice_get (claims_of activations) i ≡ Some w.claim
  pub begins : (i : ℕ) (w : Window) → slice_get (windows activations) i ≡ Some w → w.first ≡ first_position (take i (claims_of activations)) w.claim

-- of two write claims on a stream the later one begins where the earlier one ends, or behind it
abbrev pub WritersAreInOrder : Type 0
WritersAreInOrder =
    (activations : List Activation) (stream i j : ℕ) (v w : Window) → slice_get (windows activations) i ≡ Some v
    → slice_get (windows activations) j ≡ Some w
    → IsTrue (is_write_to stream v.claim) → IsTrue (is_write_to stream w.claim) → i < j → v.first + v.claim.horizon ≤ w.first

-- no two write claims cover one position of a stream
abbrev pub HasOneWriter : Type 0
HasOneWriter =
    (activations : List Activation) (stream position i j : ℕ) (v w : Window) → slice_get (windows activations) i ≡ Some v
    → slice_get (windows activations) j ≡ Some w → IsTrue (is_written_by stream position v) → IsTrue (is_written_by stream position w) → i ≡ j

-- the write claim that covers a position is its producer
abbrev pub WritersAreProducers : Type 0
WritersAreProducers =
    (activations : List Activation) (stream position i : ℕ) (w : Window) → slice_get (windows activations) i ≡ Some w
    → IsTrue (is_written_by stream position w)
    → producer activations stream position ≡ Some w

-- the producer is the window of the producer's number
abbrev pub ProducersHaveNumbers : Type 0
ProducersHaveNumbers =
    (activations : List Activation) (stream position : ℕ) → producer activations stream position
    ≡ option_and_then (λ number. slice_get (windows activations) number) (producer_number activations stream position)

-- the least root of a list is the root of one of its elements, and no element of it has a lower one
pub record IsLeastRoot (elements : List Elem) (root : ℕ) : Type 0 where
  pub is_of_one : Contains elements (Poison root)
  pub is_least : (other : ℕ) → Contains elements (Poison other) → root ≤ other

abbrev pub LeastRootsAreLeast : Type 0
LeastRootsAreLeast = (elements : List Elem) (root : ℕ) → least_root elements ≡ Some root → IsLeastRoot elements root

-- a list without a least root has values alone
abbrev pub OthersAreValues : Type 0
OthersAreValues = (elements : List Elem) → least_root elements ≡ None → elements ≡ map Value (values_of elements)

-- bodies never end poisoned by themselves: only inputs poison an activation
abbrev pub NeverPoisons : (ℕ → List ℤ → Outcome) → Type 0
NeverPoisons body = (activation : ℕ) (inputs : List ℤ) (root : ℕ) → (body activation inputs).end ≢ Poisoned root

-- the root by which an activation is poisoned is one of the activations, and that one failed itself
abbrev pub RootsFailed : Type 0
RootsFailed =
    (activations : List Activation) (input : List ℕ) (body : ℕ → List ℤ → Outcome) → NeverPoisons body
    → (a root : ℕ) (o : Outcome) → outcome_at (stream_meaning activations input body) a ≡ Some o → o.end ≡ Poisoned root
    → (q : Outcome) × (outcome_at (stream_meaning activations input body) root ≡ Some q) × (has_failed q.end ≡ true)

-- a fact of rounds for what activations read and make of it, by the element of a source
abbrev pub Fact : Type 1
Fact = (State → Source → Option Elem) → (ℕ → List Source) → (ℕ → List Elem → Outcome) → ℕ → Type 0

-- the fact holds of every list of activations, over every input and with every body
abbrev pub OfStreams : Fact → Type 0
OfStreams fact =
    (activations : List Activation) (input : List ℕ) (body : ℕ → List ℤ → Outcome)
    → fact stream_element (stream_reads activations input) (poisoning body) (length activations)

-- the fact holds of every plan, with every outcome of its frames
abbrev pub OfPlans : Fact → Type 0
OfPlans fact = (plan : Plan) (outcome : ℕ → List ℤ → Outcome) → fact (plan_element plan) (plan_reads plan) (poisoning outcome) (length plan.frames)

-- the meaning of a plan that stands for activations and an input is the meaning of the streams
abbrev pub MeansTheStreams : Type 0
MeansTheStreams =
    (plan : Plan) (activations : List Activation) (input : List ℕ) (outcome : ℕ → List ℤ → Outcome) → StandsFor plan activations input
    → plan_meaning plan outcome ≡ stream_meaning activations input outcome

-- in every state the sink cells of such a plan hold the elements of the output
abbrev pub SinkIsTheOutput : Type 0
SinkIsTheOutput =
    (plan : Plan) (activations : List Activation) (input : List ℕ) (state : State) → StandsFor plan activations input
    → sink_elements plan state ≡ output_elements activations input state

-- each activation that is Done in a state has as many outputs as it claims positions for writing
abbrev pub IsFilled : List Activation → State → Type 0
IsFilled activations state =
    (a : ℕ) (x : Activation) (o : Outcome) → slice_get activations a ≡ Some x → outcome_at state a ≡ Some o → o.end ≡ Done
    → length o.outputs ≡ output_count x

-- the ends and the length of the input say which elements are there in such a state
abbrev pub EndsSayWhatIsThere : Type 0
EndsSayWhatIsThere =
    (activations : List Activation) (input : List ℕ) (state : State) (place : Place) → IsFilled activations state
    → is_some (stream_element state (stream_source activations input place)) ≡ is_there activations (length input) (ends_of state) place

-- a sound plan has no more pieces than cells
abbrev pub HasFewPieces : Type 0
HasFewPieces = (plan : Plan) → IsSound plan → length plan.pieces ≤ length plan.filled
