-- That the ends and the length of the input say which elements are there.
use Rattle.std.proofs.Common.{[], ◌≡◌, ℕ, ◌+◌, ◌-◌, ◌<◌, ℤ, pos, List, Option, Some, None, Bool, true, false, cond, length, get_or, take, refl, sym, ap, ◌∙◌, inl, inr, arith, ◌≤◌, ◌∷◌, ◌++◌, drop}
use Rattle.std.specs.Prelude.{slice_get, filter, sum_by, is_some, ◌==◌, nat_lt, option_and_then}
use Rattle.std.specs.Option.{option_map, option_map_or}
use Rattle.std.proofs.lemmas.Bool.{cases_lt, and_parts, lt-ltb}
use Rattle.std.proofs.lemmas.Bool.Decides.{nat_tests}
use Rattle.std.proofs.lemmas.List.{get_or-map, get_or_past, length-map, take-append-drop, take_more}
use Rattle.std.proofs.lemmas.Option.{slice_get-get_or, slice_get_past}
use Rattle.flow_core_laws.specs.declared.claim.Claim.{Claim}
use Rattle.flow_core_laws.specs.declared.activation.Activation.{Activation}
use Rattle.flow_core_laws.specs.Outcome.{outcome_at, State, ends_of, root_of, has_end_at}
use Rattle.flow_core_laws.specs.Window.{Window, windows, claims_at, claim_at, offset_after, is_written_by, producer, no_claim}
use Rattle.flow_core_laws.specs.Streams.{output_count, input_source, produced_source, stream_source, own_number, stream_element}
use Rattle.flow_core_laws.proofs.Sources.{find_passes}
use Rattle.flow_core_laws.proofs.Windows.{is_window, written, claims_at-slice_get}
use Rattle.flow_core_laws.specs.declared.elem.Elem.TheVariants.{Value}
use Rattle.flow_core_laws.specs.declared.task_end.TaskEnd.{TaskEnd}
use Rattle.flow_core_laws.specs.declared.task_end.TaskEnd.TheVariants.{Done, Trapped, OverBudget, Poisoned}
use Rattle.flow_core_laws.specs.declared.outcome.Outcome.{Outcome}
use Rattle.flow_core_laws.specs.declared.place.Place.{Place}
use Rattle.flow_core_laws.specs.Element as elements
use Rattle.flow_core_laws.specs.Element.{initial, fed, nobody, output_element, output_at}
use Rattle.flow_core_laws.specs.There.{is_there}
use Rattle.flow_core_laws.specs.Laws.{IsFilled}
use Rattle.std.proofs.Math.Path.{fun_ext}
use Rattle.std.specs.Bool.{beq}
use Rattle.std.proofs.lemmas.List.Elements.{filter-append}
use Rattle.std.proofs.lemmas.List.Sums.{sum_by-append}

-- the horizons of the write claims
abbrev all_written : List Claim → ℕ
all_written cs = sum_by (λ (c : Claim). c.horizon) (filter (λ (c : Claim). c.write) cs)

all_written-append : (xs ys : List Claim) → all_written (xs ++ ys) ≡ all_written xs + all_written ys
all_written-append xs ys = ap (sum_by (λ (c : Claim). c.horizon)) (filter-append (λ (c : Claim). c.write) xs ys) ∙ sum_by-append (λ (c : Claim). c.horizon) (filter (λ (c : Claim). c.write) xs) (filter (λ (c : Claim). c.write) ys)

beq-true : (b : Bool) → beq true b ≡ b
beq-true true = refl
beq-true false = refl

-- an output window lies within its activation's outputs
pub offset_within : (cs : List Claim) (k : ℕ) → k < length cs → (claim_at cs k).write ≡ true → offset_after (take k cs) (claim_at cs k) + (claim_at cs k).horizon ≤ all_written cs
offset_within cs k lt writes =
    let c : Claim = claim_at cs k in
    let whole : all_written cs ≡ all_written (take (k + 1) cs) + all_written (drop (k + 1) cs) = ap all_written (sym (take-append-drop (k + 1) cs)) ∙ all_written-append (take (k + 1) cs) (drop (k + 1) cs) in
    let front : all_written (take (k + 1) cs) ≡ all_written (take k cs) + all_written (c ∷ []) = ap all_written (take_more cs k no_claim lt) ∙ all_written-append (take k cs) (c ∷ []) in
    let one : all_written (c ∷ []) ≡ c.horizon = ap (λ (b : Bool). sum_by (λ (d : Claim). d.horizon) (cond b (c ∷ []) [])) writes ∙ (let e : 0 + c.horizon ≡ c.horizon = omega arith in e) in
    let before : offset_after (take k cs) c ≡ all_written (take k cs) = ap (λ (b : Bool). sum_by (λ (d : Claim). d.horizon) (filter (λ (d : Claim). beq b d.write) (take k cs))) writes ∙ ap (λ (test : Claim → Bool). sum_by (λ (d : Claim). d.horizon) (filter test (take k cs))) (fun_ext (λ (d : Claim). beq-true d.write)) in
    omega (arith, whole, front, one, before)

no_activation : Activation
no_activation = record { site = 0; captured = []; claims = [] }

-- the element of a producer lies within its activation's outputs
pub element_within : (activations : List Activation) (stream position : ℕ) (w : Window) → producer activations stream position ≡ Some w → (x : Activation) × (slice_get activations w.activation ≡ Some x) × (w.offset + (position - w.first) < output_count x)
element_within activations stream position w h =
    let (i, at, passes) = find_passes (is_written_by stream position) (windows activations) w h in
    let writes = written stream position w passes in
    let s = is_window activations i w at in
    let (x, x_is) = activation_there s.a s.exists in
    let cs : claims_at activations s.a ≡ x.claims = claims_at-slice_get activations s.a x x_is in
    let claim : w.claim ≡ claim_at (claims_at activations s.a) s.k = ap (λ (v : Window). v.claim) s.is in
    let offset : w.offset ≡ offset_after (take s.k (claims_at activations s.a)) (claim_at (claims_at activations s.a) s.k) = ap (λ (v : Window). v.offset) s.is in
    let horizon : w.claim.horizon ≡ (claim_at (claims_at activations s.a) s.k).horizon = ap (λ (c : Claim). c.horizon) claim in
    let is_write : (claim_at (claims_at activations s.a) s.k).write ≡ true = ap (λ (c : Claim). c.write) (sym claim) ∙ (and_parts w.claim.write (w.claim.stream == stream) writes.on_stream).0 in
    let fits = offset_within (claims_at activations s.a) s.k s.within is_write in
    let count : all_written (claims_at activations s.a) ≡ output_count x = ap all_written cs in
    let from = writes.from in
    let to = writes.to in
    (x, ap (slice_get activations) (ap (λ (v : Window). v.activation) s.is) ∙ x_is, omega (arith, offset, horizon, fits, count))
  where
    activation_there : (a : ℕ) → a < length activations → (x : Activation) × (slice_get activations a ≡ Some x)
    activation_there a lt = (get_or activations a no_activation, slice_get-get_or activations a no_activation lt)

-- the ends of a state
pub end_of : (state : State) (a : ℕ) → get_or (ends_of state) a None ≡ option_map (λ (o : Outcome). o.end) (outcome_at state a)
end_of state a = elim (cases_lt a (length state)) [
  | inl lt ↦ get_or-map (option_map (λ (o : Outcome). o.end)) state a None None lt
  | inr ge ↦ get_or_past (ends_of state) a None (omega (arith, length-map state (option_map (λ (o : Outcome). o.end)))) ∙ ap (option_map (λ (o : Outcome). o.end)) (sym (get_or_past state a None ge))
]

-- an output element of an activation is there where the activation has an end
output_there : (activations : List Activation) (state : State) (a place : ℕ) (x : Activation) → IsFilled activations state → slice_get activations a ≡ Some x → place < output_count x → is_some (output_at own_number state a place) ≡ has_end_at (ends_of state) a
output_there activations state a place x filled x_is lt = by_outcome (outcome_at state a) refl ∙ ap (λ (e : Option TaskEnd). is_some e) (sym (end_of state a))
  where
    by_end : (o : Outcome) (e : TaskEnd) → outcome_at state a ≡ Some o → o.end ≡ e → is_some (output_element (root_of a o.end) o.outputs place) ≡ true
    by_end o Done is e =
        let l = filled a x o x_is is e in
        ap (λ (end : TaskEnd). is_some (output_element (root_of a end) o.outputs place)) e ∙ ap (λ (v : Option ℤ). is_some (option_map Value v)) (slice_get-get_or o.outputs place (pos 0) (omega arith))
    by_end o (Trapped code line) is e = ap (λ (end : TaskEnd). is_some (output_element (root_of a end) o.outputs place)) e
    by_end o OverBudget is e = ap (λ (end : TaskEnd). is_some (output_element (root_of a end) o.outputs place)) e
    by_end o (Poisoned root) is e = ap (λ (end : TaskEnd). is_some (output_element (root_of a end) o.outputs place)) e

    by_outcome : (o : Option Outcome) → outcome_at state a ≡ o → is_some (output_at own_number state a place) ≡ is_some (option_map (λ (q : Outcome). q.end) (outcome_at state a))
    by_outcome None is = ap (λ (p : Option Outcome). is_some (option_and_then (λ (q : Outcome). elements.element_written a q place) p)) is ∙ sym (ap (λ (p : Option Outcome). is_some (option_map (λ (q : Outcome). q.end) p)) is)
    by_outcome (Some o) is = ap (λ (p : Option Outcome). is_some (option_and_then (λ (q : Outcome). elements.element_written a q place) p)) is ∙ by_end o o.end is refl ∙ sym (ap (λ (p : Option Outcome). is_some (option_map (λ (q : Outcome). q.end) p)) is)

-- an element of the input is there below the length
input_there : (input : List ℕ) (state : State) (position : ℕ) → is_some (stream_element state (input_source input position)) ≡ nat_lt position (length input)
input_there input state position = elim (cases_lt position (length input)) [
  | inl lt ↦ ap (λ (o : Option ℕ). is_some (stream_element state (option_map_or (λ byte. initial (Value (pos byte))) o nobody))) (slice_get-get_or input position 0 lt) ∙ sym (lt-ltb position (length input) lt)
  | inr ge ↦ ap (λ (o : Option ℕ). is_some (stream_element state (option_map_or (λ byte. initial (Value (pos byte))) o nobody))) (slice_get_past input position ge) ∙ (grind (arith, nat_tests))
]

pub there_by_ends : (activations : List Activation) (input : List ℕ) (state : State) (place : Place) → IsFilled activations state → is_some (stream_element state (stream_source activations input place)) ≡ is_there activations (length input) (ends_of state) place
there_by_ends activations input state place filled = by_stream (place.stream == 0)
  where
    by_producer : (o : Option Window) → producer activations place.stream place.position ≡ o → is_some (stream_element state (option_map_or (λ (w : Window). fed w.activation (w.offset + (place.position - w.first))) o nobody)) ≡ option_map_or (λ (w : Window). has_end_at (ends_of state) w.activation) o false
    by_producer None h = refl
    by_producer (Some w) h =
        let (x, x_is, lt) = element_within activations place.stream place.position w h in
        output_there activations state w.activation (w.offset + (place.position - w.first)) x filled x_is lt

    by_stream : (b : Bool) → is_some (stream_element state (cond b (input_source input place.position) (produced_source activations place.stream place.position))) ≡ cond b (nat_lt place.position (length input)) (option_map_or (λ (w : Window). has_end_at (ends_of state) w.activation) (producer activations place.stream place.position) false)
    by_stream true = input_there input state place.position
    by_stream false = by_producer (producer activations place.stream place.position) refl
