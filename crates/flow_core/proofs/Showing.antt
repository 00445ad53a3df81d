-- What a run shows of the meaning, through each step.
use Rattle.std.proofs.Common.{◌≡◌, ◌≢◌, ℕ, ◌+◌, ◌-◌, ◌<◌, ◌≤◌, ℤ, List, Option, Some, None, Bool, true, false, cond, map, length, get_or, set, take, drop, refl, sym, ap, ◌∙◌, subst, ◌⊎◌, inl, inr, arith}
use Rattle.std.specs.Prelude.{slice_get, is_some, option_and_then, IsSome}
use Rattle.std.specs.Option.{option_map}
use Rattle.std.specs.List.{range_with_len}
use Rattle.std.proofs.lemmas.Bool.{cases_lt, cases_eq}
use Rattle.std.proofs.lemmas.List.{get_or-set_same, get_or-set_other, length-set, same_lists, get_or_past, get_or-take, get_or-drop, length-take, length-drop, get_or_default}
use Rattle.std.proofs.lemmas.List.FromFn.{length-map-range_with_len, get_or-map-range_with_len}
use Rattle.flow_core_laws.specs.declared.plan.FramePlan.{FramePlan}
use Rattle.flow_core_laws.specs.declared.plan.Piece.{Piece}
use Rattle.flow_core_laws.specs.declared.elem.Elem.{Elem}
use Rattle.flow_core_laws.specs.declared.plan.Plan.{Plan}
use Rattle.flow_core_laws.specs.declared.task_end.TaskEnd.{TaskEnd}
use Rattle.flow_core_laws.specs.declared.task_end.TaskEnd.TheVariants.{Done, Trapped, OverBudget, Poisoned}
use Rattle.flow_core.specs.declared.waits.Waits.{Waits}
use Rattle.flow_core_laws.specs.declared.outcome.Outcome.{Outcome}
use Rattle.flow_core_laws.specs.Outcome.{outcome_at, State, root_of}
use Rattle.flow_core_laws.specs.Element.{Source, initial, fed, nobody, element, output_element, element_written, output_at}
use Rattle.flow_core_laws.specs.Round.{gathered}
use Rattle.flow_core_laws.specs.Poisoning.{poisoning, values_of}
use Rattle.flow_core_laws.specs.Plans.{frame_at, number_at, cells_of, held_at, cell_source, plan_reads, plan_element, plan_meaning}
use Rattle.flow_core_laws.specs.IsSound.{Covers, IsSound}
use Rattle.flow_core.specs.Counted.{IsCounted, Carries, AreEmpty}
use Rattle.flow_core.specs.Shows.{end_at, shown, Shows, HasOutcome, Reads}
use Rattle.flow_core.proofs.Carrying.{piece_fits}
use Rattle.flow_core_laws.proofs.Gathering.{gathered-weaker, all_gathered}
use Rattle.flow_core_laws.proofs.Rounds.{outcome_at-meaning}
use Rattle.flow_core_laws.proofs.Elements.{element_kept}
use Rattle.flow_core_laws.proofs.Sources.{cell_source-covered, fed-covered, map_map}

-- the pieces of a frame
from_frame : (plan : Plan) (f number : ℕ) (p : Piece) → IsSound plan → f < length plan.frames → slice_get plan.pieces number ≡ Some p → (frame_at plan f).piece ≤ number → number < (frame_at plan f).piece + (frame_at plan f).pieces → p.from ≡ f
from_frame plan f number p sound lt is low high = (sound.pieces_stand_together f number p (omega arith) is).1 (low, high)

-- a frame without an end has empty cells under its pieces
pub AreEmpty-waiting : (plan : Plan) (m : State) (cells : List (Option Elem)) (ends : List (Option TaskEnd)) (f : ℕ) → IsSound plan → length cells ≡ length plan.filled → Shows plan m cells ends → f < length plan.frames → end_at ends f ≡ None → AreEmpty plan (frame_at plan f).piece ((frame_at plan f).piece + (frame_at plan f).pieces) cells
AreEmpty-waiting plan m cells ends f sound len shows lt waits number c low high (p, is, from, to) =
    let at_f : p.from ≡ f = from_frame plan f number p sound lt is low high in
    let inside = piece_fits plan number p sound is in
    let hidden : cond (is_some (end_at ends p.from)) (output_at (number_at plan) m p.from (p.first + (c - p.at))) None ≡ None = ap (λ (o : Option TaskEnd). cond (is_some o) (output_at (number_at plan) m p.from (p.first + (c - p.at))) None) (ap (end_at ends) at_f ∙ waits) in
    shows.cells_are_shown c (omega arith) ∙ ap (shown (number_at plan) ends m) (cell_source-covered plan number c p sound is from to) ∙ hidden

-- the ends with one more
pub end_at-set : (ends : List (Option TaskEnd)) (f g : ℕ) (e : TaskEnd) → f < length ends → (g ≡ f) ⊎ (g ≢ f) → (end_at (set ends f (Some e)) g ≡ Some e) × (g ≡ f) ⊎ (end_at (set ends f (Some e)) g ≡ end_at ends g) × (g ≢ f)
end_at-set ends f g e lt (inl same) = inl (ap (end_at (set ends f (Some e))) same ∙ get_or-set_same ends f (Some e) None lt, same)
end_at-set ends f g e lt (inr other) = inr (get_or-set_other ends f g (Some e) None other, other)

-- what a frame with an outcome gives
output_at-outcome : (numbers : ℕ → ℕ) (m : State) (f k : ℕ) (o : Outcome) → outcome_at m f ≡ Some o → output_at numbers m f k ≡ element_written (numbers f) o k
output_at-outcome numbers m f k o is = ap (option_and_then (λ (q : Outcome). element_written (numbers f) q k)) is

-- it is what stands for its end and its outputs
element_written-end : (number k : ℕ) (o : Outcome) (e : TaskEnd) (outputs : List ℤ) → o.end ≡ e → (e ≡ Done → outputs ≡ o.outputs) → element_written number o k ≡ output_element (root_of number e) outputs k
element_written-end number k o Done outputs is same = ap (λ (end : TaskEnd). output_element (root_of number end) o.outputs k) is ∙ sym (ap (λ (xs : List ℤ). output_element None xs k) (same refl))
element_written-end number k o (Trapped code line) outputs is same = ap (λ (end : TaskEnd). output_element (root_of number end) o.outputs k) is
element_written-end number k o OverBudget outputs is same = ap (λ (end : TaskEnd). output_element (root_of number end) o.outputs k) is
element_written-end number k o (Poisoned root) outputs is same = ap (λ (end : TaskEnd). output_element (root_of number end) o.outputs k) is

-- an end without a root is Done
pub no_root_is_done : (number : ℕ) (e : TaskEnd) → root_of number e ≡ None → e ≡ Done
no_root_is_done number Done h = refl
no_root_is_done number (Trapped code line) h = absurd (cc)
no_root_is_done number OverBudget h = absurd (cc)
no_root_is_done number (Poisoned root) h = absurd (cc)

-- the ends stay the meaning's
ends_set : (m : State) (ends : List (Option TaskEnd)) (f : ℕ) (e : TaskEnd) (o : Outcome) → f < length ends → outcome_at m f ≡ Some o → o.end ≡ e → ((g : ℕ) (d : TaskEnd) → end_at ends g ≡ Some d → option_map (λ (q : Outcome). q.end) (outcome_at m g) ≡ Some d) → (g : ℕ) (d : TaskEnd) → end_at (set ends f (Some e)) g ≡ Some d → option_map (λ (q : Outcome). q.end) (outcome_at m g) ≡ Some d
ends_set m ends f e o lt is o_end old g d h = by_case (end_at-set ends f g e lt (cases_eq g f))
  where
    by_case : (end_at (set ends f (Some e)) g ≡ Some e) × (g ≡ f) ⊎ (end_at (set ends f (Some e)) g ≡ end_at ends g) × (g ≢ f) → option_map (λ (q : Outcome). q.end) (outcome_at m g) ≡ Some d
    by_case (inl (now, same)) = ap (option_map (λ (q : Outcome). q.end)) (ap (outcome_at m) same ∙ is) ∙ ap (λ (x : TaskEnd). Some x) o_end ∙ sym now ∙ h
    by_case (inr (stays, other)) = old g d (sym stays ∙ h)

-- another frame's sources show as before
shown-other : (numbers : ℕ → ℕ) (ends : List (Option TaskEnd)) (m : State) (f g k : ℕ) (e : TaskEnd) → g ≢ f → shown numbers (set ends f (Some e)) m (fed g k) ≡ shown numbers ends m (fed g k)
shown-other numbers ends m f g k e other = ap (λ (o : Option TaskEnd). cond (is_some o) (output_at numbers m g k) None) (get_or-set_other ends f g (Some e) None other)

shown-same : (numbers : ℕ → ℕ) (ends : List (Option TaskEnd)) (m : State) (f k : ℕ) (e : TaskEnd) → f < length ends → shown numbers (set ends f (Some e)) m (fed f k) ≡ output_at numbers m f k
shown-same numbers ends m f k e lt = ap (λ (o : Option TaskEnd). cond (is_some o) (output_at numbers m f k) None) (get_or-set_same ends f (Some e) None lt)

-- no piece of a frame covers a cell that it doesn't feed
not_from : (plan : Plan) (f c : ℕ) → IsSound plan → f < length plan.frames → ((k : ℕ) → cell_source plan c ≢ fed f k) → (number : ℕ) → (frame_at plan f).piece ≤ number → number < (frame_at plan f).piece + (frame_at plan f).pieces → ¬ (Covers plan number c)
not_from plan f c sound lt unfed number low high (p, is, from, to) =
    unfed (p.first + (c - p.at)) (cell_source-covered plan number c p sound is from to ∙ ap (λ (g : ℕ). fed g (p.first + (c - p.at))) (from_frame plan f number p sound lt is low high))

-- a frame that ended shows what its pieces carried
pub Shows-ended : (plan : Plan) (m : State) (cells new : List (Option Elem)) (ends : List (Option TaskEnd)) (f : ℕ) (e : TaskEnd) (root : Option ℕ) (outputs : List ℤ) → IsSound plan → f < length plan.frames → Shows plan m cells ends → HasOutcome m f e outputs → root ≡ root_of (number_at plan f) e → length new ≡ length cells → Carries plan (frame_at plan f).piece ((frame_at plan f).piece + (frame_at plan f).pieces) root outputs cells new → Shows plan m new (set ends f (Some e))
Shows-ended plan m cells new ends f e root outputs sound f_lt shows (o, is, o_end, o_outputs) root_is len carries = record {
  ends_of_plan = length-set ends f (Some e) ∙ shows.ends_of_plan;
  ends_are_meant = ends_set m ends f e o lt is o_end shows.ends_are_meant;
  cells_are_shown = λ c h. at_source c h (cell_source plan c) refl;
}
  where
    lt : f < length ends
    lt = let l = shows.ends_of_plan in omega arith

    stays : (c : ℕ) → c < length new → ((k : ℕ) → cell_source plan c ≢ fed f k) → held_at new c ≡ shown (number_at plan) ends m (cell_source plan c)
    stays c h unfed = carries.others c (not_from plan f c sound f_lt unfed) ∙ shows.cells_are_shown c (omega arith)

    from_f : (c k : ℕ) → cell_source plan c ≡ fed f k → held_at new c ≡ shown (number_at plan) (set ends f (Some e)) m (fed f k)
    from_f c k is_fed =
        let (number, p, p_is, low, high, from, place) = fed-covered plan c f k is_fed in
        let range = (sound.pieces_stand_together f number p (omega arith) p_is).0 from in
        let there : held_at new c ≡ output_element (root_of (number_at plan f) e) outputs k = carries.filled number c p range.0 range.1 p_is low high ∙ ap (output_element root outputs) place ∙ ap (λ (r : Option ℕ). output_element r outputs k) root_is in
        there ∙ sym (element_written-end (number_at plan f) k o e outputs o_end o_outputs) ∙ sym (output_at-outcome (number_at plan) m f k o is) ∙ sym (shown-same (number_at plan) ends m f k e lt)

    at_fed : (c g k : ℕ) → c < length new → cell_source plan c ≡ fed g k → (g ≡ f) ⊎ (g ≢ f) → held_at new c ≡ shown (number_at plan) (set ends f (Some e)) m (fed g k)
    at_fed c g k h s (inl same) = subst (λ (x : ℕ). cell_source plan c ≡ fed x k → held_at new c ≡ shown (number_at plan) (set ends f (Some e)) m (fed x k)) (sym same) (from_f c k) s
    at_fed c g k h s (inr other) = stays c h (λ j s'. other (let q : fed g k ≡ fed f j = sym s ∙ s' in cc)) ∙ ap (shown (number_at plan) ends m) s ∙ sym (shown-other (number_at plan) ends m f g k e other)

    at_source : (c : ℕ) → c < length new → (source : Source) → cell_source plan c ≡ source → held_at new c ≡ shown (number_at plan) (set ends f (Some e)) m (cell_source plan c)
    at_source c h (initial v) s = stays c h (λ j s'. cc) ∙ ap (shown (number_at plan) ends m) s ∙ ap (shown (number_at plan) (set ends f (Some e)) m) (sym s)
    at_source c h (fed g k) s = at_fed c g k h s (cases_eq g f) ∙ ap (shown (number_at plan) (set ends f (Some e)) m) (sym s)
    at_source c h nobody s = stays c h (λ j s'. cc) ∙ ap (shown (number_at plan) ends m) s ∙ ap (shown (number_at plan) (set ends f (Some e)) m) (sym s)

-- what a run shows is the meaning's
shown_if : (b : Bool) (o : Option Elem) (v : Elem) → cond b o None ≡ Some v → o ≡ Some v
shown_if true o v h = h
shown_if false o v h = absurd (cc)

pub shown_meant : (numbers : ℕ → ℕ) (ends : List (Option TaskEnd)) (m : State) (source : Source) (v : Elem) → shown numbers ends m source ≡ Some v → element numbers m source ≡ Some v
shown_meant numbers ends m (initial w) v h = h
shown_meant numbers ends m (fed g k) v h = shown_if (is_some (end_at ends g)) (output_at numbers m g k) v h
shown_meant numbers ends m nobody v h = absurd (cc)

-- what cells hold is the meaning's
pub held_meant : (plan : Plan) (m : State) (cells : List (Option Elem)) (ends : List (Option TaskEnd)) → Shows plan m cells ends → (c : ℕ) (v : Elem) → held_at cells c ≡ Some v → plan_element plan m (cell_source plan c) ≡ Some v
held_meant plan m cells ends shows c v h = inside (cases_lt c (length cells))
  where
    inside : (c < length cells) ⊎ (length cells ≤ c) → plan_element plan m (cell_source plan c) ≡ Some v
    inside (inl lt) = shown_meant (number_at plan) ends m (cell_source plan c) v (sym (shows.cells_are_shown c lt) ∙ h)
    inside (inr past) = let n : held_at cells c ≡ None = get_or_past cells c None past in absurd (cc)

-- a stretch of cells, cell by cell
pub stretch : (cells : List (Option Elem)) (from n : ℕ) → from + n ≤ length cells → take (from + n - from) (drop from cells) ≡ map (held_at cells) (range_with_len from n)
stretch cells from n le = same_lists (take (from + n - from) (drop from cells)) (map (held_at cells) (range_with_len from n)) (omega (arith, length-take (from + n - from) (drop from cells), length-drop from cells, length-map-range_with_len (held_at cells) from n)) (λ k d lt. at k d (omega (arith, length-take (from + n - from) (drop from cells), length-drop from cells)))
  where
    at : (k : ℕ) (d : Option Elem) → k < n → get_or (take (from + n - from) (drop from cells)) k d ≡ get_or (map (held_at cells) (range_with_len from n)) k d
    at k d lt = get_or-take (from + n - from) (drop from cells) k d (omega arith) ∙ get_or-drop from cells k d ∙ get_or_default cells (from + k) d None (omega arith) ∙ sym (get_or-map-range_with_len (held_at cells) from n k (from + k) d lt refl)

pub stretch_of : (plan : Plan) (cells : List (Option Elem)) (waits : Waits) (f : ℕ) → IsSound plan → IsCounted plan cells waits → f ≤ length plan.frames → take ((frame_at plan f).cell + (frame_at plan f).inputs - (frame_at plan f).cell) (drop (frame_at plan f).cell cells) ≡ map (held_at cells) (cells_of plan f)
stretch_of plan cells waits f sound counted le =
    let exist = sound.cells_exist f le in
    let len = counted.cells_of_plan in
    stretch cells (frame_at plan f).cell (frame_at plan f).inputs (omega arith)

pub length-stretch : (plan : Plan) (cells : List (Option Elem)) (waits : Waits) (f : ℕ) → IsSound plan → IsCounted plan cells waits → f ≤ length plan.frames → length (take ((frame_at plan f).cell + (frame_at plan f).inputs - (frame_at plan f).cell) (drop (frame_at plan f).cell cells)) ≡ (frame_at plan f).inputs
length-stretch plan cells waits f sound counted le = ap length (stretch_of plan cells waits f sound counted le) ∙ length-map-range_with_len (held_at cells) (frame_at plan f).cell (frame_at plan f).inputs

-- the inputs of a frame that misses nothing are there
pub inputs_there : (plan : Plan) (cells : List (Option Elem)) (waits : Waits) (f : ℕ) → IsSound plan → IsCounted plan cells waits → f < length plan.frames → get_or waits.missing.items f 0 ≡ 0 → (vs : List Elem) × (gathered (take ((frame_at plan f).cell + (frame_at plan f).inputs - (frame_at plan f).cell) (drop (frame_at plan f).cell cells)) ≡ Some vs)
inputs_there plan cells waits f sound counted lt full =
    let (vs, h) = all_gathered (held_at cells) (cells_of plan f) (sym (counted.counts f lt) ∙ full) in
    (vs, ap gathered (stretch_of plan cells waits f sound counted (let le : f ≤ length plan.frames = omega arith in le)) ∙ h)

-- the outcome of such a frame is what it makes of its cells
pub outcome_meant : (plan : Plan) (outcome : ℕ → List ℤ → Outcome) (cells : List (Option Elem)) (ends : List (Option TaskEnd)) (waits : Waits) (f : ℕ) (vs : List Elem) → IsSound plan → IsCounted plan cells waits → Shows plan (plan_meaning plan outcome) cells ends → f < length plan.frames → gathered (take ((frame_at plan f).cell + (frame_at plan f).inputs - (frame_at plan f).cell) (drop (frame_at plan f).cell cells)) ≡ Some vs → outcome_at (plan_meaning plan outcome) f ≡ Some (poisoning outcome f vs)
outcome_meant plan outcome cells ends waits f vs sound counted shows lt h =
    let m = plan_meaning plan outcome in
    let cell_by_cell : gathered (map (held_at cells) (cells_of plan f)) ≡ Some vs = ap gathered (sym (stretch_of plan cells waits f sound counted (let le : f ≤ length plan.frames = omega arith in le))) ∙ h in
    let read : gathered (map (λ c. plan_element plan (plan_meaning plan outcome) (cell_source plan c)) (cells_of plan f)) ≡ Some vs = gathered-weaker (held_at cells) (λ c. plan_element plan (plan_meaning plan outcome) (cell_source plan c)) (held_meant plan (plan_meaning plan outcome) cells ends shows) (cells_of plan f) vs cell_by_cell in
    outcome_at-meaning (plan_element plan) (element_kept (number_at plan)) (plan_reads plan) (poisoning outcome) (length plan.frames) f lt ∙ ap (option_map (poisoning outcome f)) (ap gathered (map_map (cell_source plan) (plan_element plan (plan_meaning plan outcome)) (cells_of plan f)) ∙ read)

-- the cells of a frame that misses nothing hold what it reads in the meaning
pub reads_meant : (plan : Plan) (m : State) (cells : List (Option Elem)) (ends : List (Option TaskEnd)) (waits : Waits) (f : ℕ) (es : List Elem) (values : List ℤ)
    → IsSound plan → IsCounted plan cells waits → Shows plan m cells ends → f < length plan.frames
    → gathered (take ((frame_at plan f).cell + (frame_at plan f).inputs - (frame_at plan f).cell) (drop (frame_at plan f).cell cells)) ≡ Some es
    → values ≡ values_of es → Reads plan m f values
reads_meant plan m cells ends waits f es values sound counted shows lt h is =
    let cell_by_cell : gathered (map (held_at cells) (cells_of plan f)) ≡ Some es = ap gathered (sym (stretch_of plan cells waits f sound counted (let le : f ≤ length plan.frames = omega arith in le))) ∙ h in
    record {
      elements = es;
      are_there = ap gathered (map_map (cell_source plan) (plan_element plan m) (cells_of plan f))
          ∙ gathered-weaker (held_at cells) (λ c. plan_element plan m (cell_source plan c)) (held_meant plan m cells ends shows) (cells_of plan f) es cell_by_cell;
      values_are = is;
    }

-- a frame's part of the cells, as it is read
abbrev pub part_of : FramePlan → List (Option Elem) → List (Option Elem)
part_of place cells = take (place.cell + place.inputs - place.cell) (drop place.cell cells)

pub part_read : (plan : Plan) (f : ℕ) (place : FramePlan) (cells read : List (Option Elem)) → place ≡ frame_at plan f → read ≡ cells → part_of place read ≡ part_of (frame_at plan f) cells
part_read plan f place cells read at is = ap (λ (p : FramePlan). part_of p read) at ∙ ap (part_of (frame_at plan f)) is

pub IsSome-from : (o : Option (List Elem)) (vs : List Elem) → o ≡ Some vs → IsSome o
IsSome-from o vs h = subst (λ (p : Option (List Elem)). IsSome p) (sym h) refl
