-- A STORE keeps a state good.
use Rattle.std.proofs.Common.{◌≡◌, ℕ, ◌+◌, ◌-◌, ◌<◌, ◌≤◌, ◌≢◌, ℤ, false, List, Option, Some, None, length, get_or, set, refl, sym, ap, ◌∙◌, subst, ◌⊎◌, inl, inr, arith, count_by, true}
use Rattle.std.specs.Prelude.{slice_get, is_some, pos, ◌==◌, ◌&&◌, nat_lt, option_and_then, IsSome}
use Rattle.std.specs.Option.{option_map}
use Rattle.std.proofs.lemmas.Bool.{cases_eq, cases_lt, lt-ltb, le-ltb, ne_eqb, and_left, and_right}
use Rattle.std.proofs.lemmas.List.{length-set, get_or-set_same, get_or-set_other}
use Rattle.std.proofs.lemmas.Option.{same_Some, slice_get-get_or}
use Rattle.flow_core_laws.specs.declared.plan.Piece.{Piece}
use Rattle.flow_core_laws.specs.Outcome.{outcome_at, root_of}
use Rattle.flow_core_laws.specs.declared.task_end.TaskEnd.{TaskEnd}
use Rattle.flow_core_laws.specs.declared.elem.Elem.TheVariants.{Value, Poison}
use Rattle.flow_core_concurrent.specs.declared.view.FrameRun.{FrameRun}
use Rattle.flow_core_concurrent.specs.States.{times, CoreState, runs_of}
use Rattle.flow_core_concurrent.specs.Counted.{one, is_run_of, is_past, has_stored, counted_at, underway_at}
use Rattle.flow_core_concurrent.proofs.Sums.{each_set, sum_by-kept, count_by-kept}
use Rattle.flow_core_laws.specs.declared.outcome.Outcome.{Outcome}
use Rattle.flow_core_laws.specs.declared.plan.Plan.{Plan}
use Rattle.flow_core_laws.specs.declared.task_end.TaskEnd.TheVariants.{Done, Trapped, OverBudget, Poisoned}
use Rattle.flow_core_laws.specs.Plans.{plan_element, frame_at, held_at, cell_source, piece_at, number_at}
use Rattle.flow_core_laws.specs.Element.{fed, output_at, element_written, output_element}
use Rattle.flow_core_laws.specs.IsSound.{IsSound, IsSoundPiece}
use Rattle.flow_core_laws.proofs.Sources.{piece_at-covered, cell_source-covered}
use Rattle.flow_core_laws.specs.declared.elem.Elem.{Elem}
use Rattle.flow_core_concurrent.specs.declared.known.Known.{Known}
use Rattle.flow_core_concurrent.specs.declared.view.View.{View}
use Rattle.flow_core_concurrent.specs.Words.{word_at, has_ended}
use Rattle.flow_core_concurrent.specs.Steps.{end_of, StandsAt, CanStore, after_store}
use Rattle.flow_core_concurrent.specs.IsGood.{IsGood, IsRunPlace}
use Rattle.flow_core_concurrent.specs.Laws.{IsFit}
use Rattle.flow_core_concurrent.proofs.Counts.{CountsAlike, counted_at-alike, lacking-alike, counted_at-is, underway_at-is, underway_at-none, underway-is, piece_is, piece_of_frame}
use Rattle.flow_core_concurrent.proofs.Parts.{Flows, Sits, Books, sits_of, books_of, good_from, runs-set}
use Rattle.flow_core_concurrent.proofs.Runs.{run_there}
use Rattle.flow_core_concurrent.proofs.Cells.{not_counted, stored_next, next_is_empty}

-- the cells of a piece exist
pub piece_within : (plan : Plan) (q : ℕ) (p : Piece) → IsSound plan → slice_get plan.pieces q ≡ Some p → p.at + p.count ≤ length plan.filled
piece_within plan q p sound h =
    let s : IsSoundPiece plan p = sound.pieces_are_sound q p h in
    let a = s.fills_to_its_cells in
    let b = sound.cells_exist p.to s.goes_to_a_frame in
    omega (arith, a, b)

-- the output element of a frame at a place below the number of its outputs
output_within : (known : Known) (f place : ℕ) (o : Outcome) → (o.end ≡ Done → place < length o.outputs) → (elem : Elem) × (element_written (number_at known.plan f) o place ≡ Some elem)
output_within known f place o within = by_end o.end refl
  where
    number : ℕ
    number = number_at known.plan f

    at_root : (root : ℕ) → root_of number o.end ≡ Some root → (elem : Elem) × (element_written number o place ≡ Some elem)
    at_root root e = (Poison root, ap (λ (r : Option ℕ). output_element r o.outputs place) e)

    by_end : (end : TaskEnd) → o.end ≡ end → (elem : Elem) × (element_written number o place ≡ Some elem)
    by_end Done e =
        let v : ℤ = get_or o.outputs place (pos 0) in
        (Value v, ap (λ (end : TaskEnd). output_element (root_of number end) o.outputs place) e ∙ ap (option_map Value) (slice_get-get_or o.outputs place (pos 0) (within e)))
    by_end (Trapped code line) e = at_root number (ap (root_of number) e)
    by_end OverBudget e = at_root number (ap (root_of number) e)
    by_end (Poisoned root) e = at_root root (ap (root_of number) e)

-- the element that a frame with an end has for its piece, a value or poison
pub has_output : (known : Known) (r : FrameRun) (p : Piece) (k : ℕ) → IsFit known → r.frame < length known.plan.frames → IsSome (end_of known r.frame) → StandsAt known.plan r p → k < p.count → (elem : Elem) × (output_at (number_at known.plan) known.meaning r.frame (p.first + k) ≡ Some elem)
has_output known r p k fit exists ended stands lt = by (outcome_at known.meaning r.frame) refl
  where
    by : (o : Option Outcome) → outcome_at known.meaning r.frame ≡ o → (elem : Elem) × (output_at (number_at known.plan) known.meaning r.frame (p.first + k) ≡ Some elem)
    by None e = let z : true ≡ false = sym ended ∙ ap (λ (o : Option Outcome). is_some (option_map (λ (o : Outcome). o.end) o)) e in absurd (cc)
    by (Some o) e =
        let s : IsSoundPiece known.plan p = fit.plan_is_sound.pieces_are_sound r.piece p stands.has_number in
        let t : p.first + p.count ≤ (frame_at known.plan r.frame).outputs = subst (λ f. p.first + p.count ≤ (frame_at known.plan f).outputs) stands.is_its_own s.takes_outputs in
        let (elem, is) = output_within known r.frame (p.first + k) o (λ done. let n = fit.done_has_outputs r.frame o exists e done in omega (arith, n, t, lt)) in
        (elem, ap (option_and_then (λ (o : Outcome). element_written (number_at known.plan r.frame) o (p.first + k))) e ∙ is)

-- only the next element is stored beside those that were
stores_more : (r : FrameRun) (from q k : ℕ) → (r.piece ≡ q → k ≢ r.stored) → has_stored from q k (Some (record r { stored = r.stored + 1 })) ≡ has_stored from q k (Some r)
stores_more r from q k other = by (cases_eq r.piece q)
  where
    within : (k < r.stored) ⊎ (r.stored ≤ k) → k ≢ r.stored → nat_lt k (r.stored + 1) ≡ nat_lt k r.stored
    within (inl lt) n = lt-ltb k (r.stored + 1) (omega (arith, lt)) ∙ sym (lt-ltb k r.stored lt)
    within (inr ge) n = le-ltb k (r.stored + 1) (omega (arith, ge, n)) ∙ sym (le-ltb k r.stored ge)

    by : (r.piece ≡ q) ⊎ (r.piece ≢ q) → has_stored from q k (Some (record r { stored = r.stored + 1 })) ≡ has_stored from q k (Some r)
    by (inl e) = ap (λ b. (r.frame == from && r.piece == q) && b) (within (cases_lt k r.stored) (other e))
    by (inr n) =
        let no : (r.frame == from && r.piece == q) ≡ false = and_right (r.frame == from) (r.piece == q) (ne_eqb r.piece q n) in
        and_left (r.frame == from && r.piece == q) (nat_lt k (r.stored + 1)) no ∙ sym (and_left (r.frame == from && r.piece == q) (nat_lt k r.stored) no)

pub store_keeps : (known : Known) (s : CoreState) (i : ℕ) (v : View) (r : FrameRun) (p : Piece) → IsFit known → IsGood known s → CanStore known s i v r p → IsGood known (after_store known s i v r p)
store_keeps known s i v r p fit g can = good_from known (after_store known s i v r p) flows
    (each_set (Sits known s.words) s.seats i w sits (λ j u n there. sits_of known s g j u there))
    books
  where
    sound : IsSound known.plan
    sound = fit.plan_is_sound

    next : FrameRun
    next = record r { stored = r.stored + 1 }

    w : View
    w = record v { run = Some next }

    cell : ℕ
    cell = p.at + r.stored

    value : Option Elem
    value = output_at (number_at known.plan) known.meaning r.frame (p.first + r.stored)

    cells' : List (Option Elem)
    cells' = set s.cells cell value

    runs' : List (Option FrameRun)
    runs' = set (runs_of s) i (Some next)

    sees : slice_get s.seats i ≡ Some v
    sees = can.is_seat.sees

    there : slice_get (runs_of s) i ≡ Some (Some r)
    there = run_there s i v r sees can.runs

    place : IsRunPlace known.plan r
    place = (g.views_are_sound i v sees).runs_at_a_place r can.runs

    number : slice_get known.plan.pieces r.piece ≡ Some p
    number = can.stands.has_number

    more : r.stored < p.count
    more = can.has_more

    within : cell < length s.cells
    within = let a = piece_within known.plan r.piece p sound number in let b = g.cells_of_plan in omega (arith, a, b, more)

    here : piece_at known.plan cell ≡ Some r.piece
    here = piece_at-covered known.plan r.piece cell p sound number (omega arith) (omega (arith, more))

    empty : held_at s.cells cell ≡ None
    empty = next_is_empty known s i v r p g sees can.runs can.stands sound more

    counts : CountsAlike known.plan s.words (runs_of s) s.words runs'
    counts = record { each = λ q p' h. ap (λ n. one (has_ended (word_at s.words p'.from)) + n) (count_by-kept (is_past p'.from q) (runs_of s) i (Some r) (Some next) there refl) }

    hold : (c : ℕ) (x : Elem) → held_at cells' c ≡ Some x → plan_element known.plan known.meaning (cell_source known.plan c) ≡ Some x
    hold c x h = by (cases_eq c cell)
      where
        by : (c ≡ cell) ⊎ (c ≢ cell) → plan_element known.plan known.meaning (cell_source known.plan c) ≡ Some x
        by (inl e) =
            let a : value ≡ Some x = sym (get_or-set_same s.cells cell value None within) ∙ ap (held_at cells') (sym e) ∙ h in
            let b : cell_source known.plan c ≡ fed p.from (p.first + (cell - p.at)) = ap (cell_source known.plan) e ∙ cell_source-covered known.plan r.piece cell p sound number (omega arith) (omega (arith, more)) in
            let d : output_at (number_at known.plan) known.meaning p.from (p.first + (cell - p.at)) ≡ value = ap (λ f. output_at (number_at known.plan) known.meaning f (p.first + (cell - p.at))) can.stands.is_its_own ∙ ap (output_at (number_at known.plan) known.meaning r.frame) (let z : p.first + (cell - p.at) ≡ p.first + r.stored = omega arith in z) in
            ap (plan_element known.plan known.meaning) b ∙ d ∙ a
        by (inr n) = g.cells_hold_the_meaning c x (sym (get_or-set_other s.cells cell c value None n) ∙ h)

    -- a cell that isn't the one stored into
    stored_else : (c : ℕ) → c ≢ cell → underway_at known.plan runs' c ≡ underway_at known.plan (runs_of s) c
    stored_else c n = by (piece_at known.plan c) refl
      where
        by : (o : Option ℕ) → piece_at known.plan c ≡ o → underway_at known.plan runs' c ≡ underway_at known.plan (runs_of s) c
        by None e = underway_at-none known.plan runs' c e ∙ sym (underway_at-none known.plan (runs_of s) c e)
        by (Some q) e =
            let (p', at_q, low, high) = piece_is known.plan c q e in
            let same : count_by (has_stored p'.from q (c - p'.at)) runs' ≡ count_by (has_stored p'.from q (c - p'.at)) (runs_of s) =
            count_by-kept (has_stored p'.from q (c - p'.at)) (runs_of s) i (Some r) (Some next) there (stores_more r p'.from q (c - p'.at) (λ is_q is_next. n (let z : p'.at ≡ p.at = ap (λ (p : Piece). p.at) (same_Some p' p (sym at_q ∙ ap (slice_get known.plan.pieces) (sym is_q) ∙ number)) in omega (arith, z, is_next, low)))) in
            underway_at-is known.plan runs' c q e ∙ underway-is known.plan runs' c q p' at_q ∙ same ∙ sym (underway_at-is known.plan (runs_of s) c q e ∙ underway-is known.plan (runs_of s) c q p' at_q)

    w_good_runs : (c : ℕ) → counted_at known.plan s.words runs' c ≡ counted_at known.plan s.words (runs_of s) c
    w_good_runs = counted_at-alike known.plan s.words (runs_of s) s.words runs' counts

    filled : (c : ℕ) → one (is_some (held_at cells' c)) ≡ one (is_some (held_at known.plan.filled c)) + counted_at known.plan s.words runs' c + underway_at known.plan runs' c
    filled c = by (cases_eq c cell)
      where
        by : (c ≡ cell) ⊎ (c ≢ cell) → one (is_some (held_at cells' c)) ≡ one (is_some (held_at known.plan.filled c)) + counted_at known.plan s.words runs' c + underway_at known.plan runs' c
        by (inl e) = subst (λ c. one (is_some (held_at cells' c)) ≡ one (is_some (held_at known.plan.filled c)) + counted_at known.plan s.words runs' c + underway_at known.plan runs' c) (sym e) at_cell
          where
            at_cell : one (is_some (held_at cells' cell)) ≡ one (is_some (held_at known.plan.filled cell)) + counted_at known.plan s.words runs' cell + underway_at known.plan runs' cell
            at_cell =
                let (x, has) = has_output known r p r.stored fit place.of_a_frame (g.runs_have_ends i v r sees can.runs) can.stands more in
                let a : one (is_some (held_at cells' cell)) ≡ 1 = ap (λ o. one (is_some o)) (get_or-set_same s.cells cell value None within ∙ has) in
                let b : one (is_some (held_at known.plan.filled cell)) ≡ 0 = ap (λ o. one (is_some o)) (sound.pieces_spare_the_filled r.piece cell (p, number, omega arith, omega (arith, more))) in
                let d : counted_at known.plan s.words runs' cell ≡ 0 = w_good_runs cell ∙ counted_at-is known.plan s.words (runs_of s) cell r.piece here ∙ not_counted known s i v r p g sees can.runs can.stands in
                let k : cell - p.at ≡ r.stored = omega arith in
                let e : underway_at known.plan runs' cell ≡ 1 = underway_at-is known.plan runs' cell r.piece here ∙ underway-is known.plan runs' cell r.piece p number ∙ ap (λ n. count_by (has_stored p.from r.piece n) runs') k ∙ stored_next known s i v r p g sees can.runs can.stands in
                omega (arith, a, b, d, e)
        by (inr n) =
            let a : one (is_some (held_at cells' c)) ≡ one (is_some (held_at s.cells c)) = ap (λ o. one (is_some o)) (get_or-set_other s.cells cell c value None n) in
            let b = g.cells_are_filled_once c in
            let d = w_good_runs c in
            let e = stored_else c n in
            omega (arith, a, b, d, e)

    flows : Flows known s.words cells' (runs_of (after_store known s i v r p))
    flows = subst (Flows known s.words cells') (sym (runs-set s.seats i w)) (record {
      words_of_plan = g.words_of_plan;
      cells_of_plan = length-set s.cells cell value ∙ g.cells_of_plan;
      hold = hold;
      filled = filled;
      count = λ f le. g.words_count f le ∙ sym (lacking-alike known.plan s.words (runs_of s) s.words runs' counts f);
      wait_for_some = g.waits_for_some;
      taken = λ f. count_by-kept (is_run_of f) (runs_of s) i (Some r) (Some next) there refl ∙ g.taken_is_run_by_one f;
      meant = g.ends_are_meant;
      sink = g.sink_is_not_taken;
    })

    sits : Sits known s.words w
    sits =
        let old : Sits known s.words v = sits_of known s g i v sees in
        let positive = can.is_seat.is_not_spent in
        record {
          sound = record {
            knows_the_run = old.sound.knows_the_run;
            spent_is_empty = λ e. absurd (omega (arith, positive, e));
            runs_at_a_place = λ r' h. subst (IsRunPlace known.plan) (same_Some next r' h) (record {
              of_a_frame = place.of_a_frame;
              from_its_first = place.from_its_first;
              to_its_last = place.to_its_last;
              stores_its_elements = λ p' stands. let e : p ≡ p' = same_Some p p' (sym number ∙ stands.has_number) in let c : p'.count ≡ p.count = ap (λ (p : Piece). p.count) (sym e) in omega (arith, c, more);
              has_none_behind = λ last. let b = (piece_of_frame known.plan r.piece p sound number).1 in let c : (frame_at known.plan p.from).piece + (frame_at known.plan p.from).pieces ≡ r.piece = ap (λ f. (frame_at known.plan f).piece + (frame_at known.plan f).pieces) can.stands.is_its_own ∙ sym last in absurd (omega (arith, b, c));
            });
          };
          has_end = λ r' h. subst (λ (r : FrameRun). IsSome (end_of known r.frame)) (same_Some next r' h) (old.has_end r can.runs);
          looked = old.looked;
          found = old.found;
          lost = old.lost;
        }

    books : Books known s.words (set s.seats i w)
    books =
        let b = books_of known s g in
        record {
          made = λ h. sum_by-kept (λ (v : View). times h v.made) s.seats i v w sees refl ∙ b.made h;
          ran = λ h. sum_by-kept (λ (v : View). times h v.ran) s.seats i v w sees refl ∙ b.ran h;
          shares = sum_by-kept (λ (v : View). v.shares) s.seats i v w sees refl ∙ b.shares;
        }
