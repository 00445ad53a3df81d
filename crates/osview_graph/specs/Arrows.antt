-- The arrows between tasks and streams.
use Rattle.std.specs.Prelude.{ℕ, ◌==◌, ◌&&◌, Bool, if◌then◌else◌, List, [], ◌∷◌, ◌++◌, codes, filter, length, map, max, slice_get, take}
use Rattle.std.specs.Fmt.{decimal}
use Rattle.std.specs.List.{flat_map, fold, list_any, range_with_len}
use Rattle.std.specs.Option.{option_map_or}
use Rattle.flow_core_laws.specs.Window.{claim_at}
use Rattle.flow_core_laws.specs.declared.activation.Activation.{Activation}
use Rattle.flow_core_laws.specs.declared.claim.Claim.{Claim}
use Rattle.osview_graph.specs.DrawnRun.{DrawnRun}
use Rattle.osview_graph.specs.declared.uses.Use.{Use}
use Rattle.osview_text.specs.Numbers.{least}

-- an item of a task's clauses as an activation has it, by its claim
abbrev pub use_of : (task item : ℕ) → Claim → Use
use_of task item c = record { task = task; item = item; stream = c.stream; write = c.write; horizon = c.horizon; burst = c.burst }

-- the items of an activation
abbrev pub uses_of : Activation → List Use
uses_of a = map (λ item. use_of a.site item (claim_at a.claims item)) (range_with_len 0 (length a.claims))

-- The items of all activations.
abbrev pub uses : List Activation → List Use
uses activations = flat_map uses_of activations

-- whether two are the same item of a task, on the same stream
abbrev pub is_alike : Use → Use → Bool
is_alike u v = (v.task == u.task) && (v.item == u.item) && (v.stream == u.stream)

-- the greatest of some numbers; 0 where there are none
abbrev pub greatest : List ℕ → ℕ
greatest [] = 0
greatest (n ∷ ns) = fold max n ns

-- two numbers as text with ` to ` between them, or one where both are the same
abbrev pub span_text : (low high : ℕ) → List ℕ
span_text low high = if low == high then decimal low else decimal low ++ codes " to " ++ decimal high

-- the horizons of an item, and its bursts, from the least to the greatest
abbrev pub horizon_text : List Use → List ℕ
horizon_text all = span_text (least (map (λ (u : Use). u.horizon) all)) (greatest (map (λ (u : Use). u.horizon) all))

abbrev pub burst_text : List Use → List ℕ
burst_text all = span_text (least (map (λ (u : Use). u.burst) all)) (greatest (map (λ (u : Use). u.burst) all))

-- the arrow of an output item up to its label, from a task to a stream
abbrev pub writing_text : Use → List ℕ
writing_text u = codes "  task" ++ decimal u.task ++ codes " -> stream" ++ decimal u.stream ++ codes " [label=\""

-- the arrow of an input item up to its label, from a stream to a task
abbrev pub reading_text : Use → List ℕ
reading_text u = codes "  stream" ++ decimal u.stream ++ codes " -> task" ++ decimal u.task ++ codes " [label=\""

-- The arrow of an item, over all that are alike: with the horizons, and where it reads with the bursts. Where it writes, the burst
-- is the horizon.
abbrev pub arrow : Use → (alike : List Use) → List ℕ
arrow u alike =
    if u.write then writing_text u ++ horizon_text alike ++ codes "\"];\n"
    else reading_text u ++ horizon_text alike ++ codes ", burst " ++ burst_text alike ++ codes "\"];\n"

-- the arrow of all items that are like this one, where it is the first of these; else no text
abbrev pub arrow_of : (all : List Use) → (place : ℕ) → Use → List ℕ
arrow_of all place u = if list_any (is_alike u) (take place all) then [] else arrow u (filter (is_alike u) all)

abbrev pub arrow_at : (all : List Use) → (place : ℕ) → List ℕ
arrow_at all place = option_map_or (arrow_of all place) (slice_get all place) []

-- The arrows of some: one for those that are alike, where the first of them stands.
abbrev pub arrows_of : List Use → List ℕ
arrows_of all = flat_map (arrow_at all) (range_with_len 0 (length all))

-- The arrows of a run: one for each item of a task and each stream that it is on.
abbrev pub arrows : DrawnRun → List ℕ
arrows run = arrows_of (uses run.activations)
