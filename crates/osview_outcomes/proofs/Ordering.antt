-- Each frame stands behind those that it waits for.
use Rattle.std.proofs.Common.{◌≡◌, ◌∙◌, ◌⊎◌, inl, inr, ℕ, zero, suc, ◌+◌, ◌<◌, ◌≤◌, Bool, true, false, cond, List, [], ◌∷◌, Option, Some, None, length, get_or, map, refl, subst, sym, ap, arith}
use Rattle.std.specs.Prelude.{is_some}
use Rattle.std.proofs.lemmas.Bool.{cases_lt}
use Rattle.std.proofs.lemmas.List.{get_or_past}
use Rattle.std.proofs.lemmas.List.FromFn.{get_or-map-range_with_len, length-map-range_with_len}
use Rattle.flow_core_laws.specs.Element.{fed, output_at}
use Rattle.flow_core_laws.specs.IsSound.{IsSound}
use Rattle.flow_core_laws.specs.Outcome.{State}
use Rattle.flow_core_laws.specs.Plans.{cell_source, cells_of, frame_at, held_at, number_at, plan_reads}
use Rattle.flow_core_laws.specs.Round.{gathered}
use Rattle.flow_core_laws.specs.declared.elem.Elem.{Elem}
use Rattle.flow_core_laws.specs.declared.plan.Plan.{Plan}
use Rattle.flow_core_laws.proofs.Gathering.{all_gathered, gathered-cons}
use Rattle.flow_core.specs.Board.{IsRun}
use Rattle.flow_core.specs.Shows.{end_at, shown}
use Rattle.flow_core.specs.declared.board.Board.{Board}
use Rattle.osview_outcomes.specs.Kept.{StandBehind}
use Rattle.osview_outcomes.specs.Order.{WaitsFor}

-- each of some elements that are all there
gathered_at : (os : List (Option Elem)) (vs : List Elem) → gathered os ≡ Some vs → (k : ℕ) → k < length os → (v : Elem) × (get_or os k None ≡ Some v)
gathered_at [] vs h k lt = absurd (omega (arith, lt))
gathered_at (o ∷ os) vs h zero lt = let (v, ws, at, rest, is) = gathered-cons o os vs h in (v, at)
gathered_at (o ∷ os) vs h (suc k) lt = let (v, ws, at, rest, is) = gathered-cons o os vs h in gathered_at os ws rest k (omega (arith, lt))

-- a frame with an end is one of the plan
in_plan : (plan : Plan) (m : State) (board : Board) (turn f : ℕ) → IsRun plan m board turn → is_some (end_at board.ends.items f) ≡ true → f < length plan.frames
in_plan plan m board turn f run ended = by_place (cases_lt f (length board.ends.items))
  where
    by_place : (f < length board.ends.items) ⊎ (length board.ends.items ≤ f) → f < length plan.frames
    by_place (inl lt) = let n = run.shows.ends_of_plan in omega (arith, lt, n)
    by_place (inr past) = let n : is_some (end_at board.ends.items f) ≡ false = ap is_some (get_or_past board.ends.items f None past) in absurd (cc)

-- and it was opened
pub is_opened : (plan : Plan) (m : State) (board : Board) (turn f : ℕ) → IsRun plan m board turn → is_some (end_at board.ends.items f) ≡ true
    → (k : ℕ) × (k < length board.waits.opened.items) × (get_or board.waits.opened.items k 0 ≡ f)
is_opened plan m board turn f run ended =
    let lt = in_plan plan m board turn f run ended in
    let n = run.counted.frames_of_plan in
    run.counted.opens_full.listed f (omega (arith, lt, n)) (run.ended_full f ended)

module _ (plan : Plan) (m : State) (board : Board) (turn : ℕ) (sound : IsSound plan) (run : IsRun plan m board turn) (lt : turn < length board.waits.opened.items) where
  -- a frame with an end was run before
  run_before : (f : ℕ) → is_some (end_at board.ends.items f) ≡ true → (j : ℕ) × (j < turn) × (get_or board.waits.opened.items j 0 ≡ f)
  run_before f ended = let (j, j_lt, at) = is_opened plan m board turn f run ended in by_turn j j_lt at (cases_lt j turn)
    where
      by_turn : (j : ℕ) → j < length board.waits.opened.items → get_or board.waits.opened.items j 0 ≡ f → (j < turn) ⊎ (turn ≤ j) → (i : ℕ) × (i < turn) × (get_or board.waits.opened.items i 0 ≡ f)
      by_turn j j_lt at (inl before) = (j, before, at)
      by_turn j j_lt at (inr behind) =
          let none : is_some (end_at board.ends.items f) ≡ false = ap is_some (ap (end_at board.ends.items) (sym at) ∙ run.wait_their_turn j behind j_lt) in
          absurd (cc)

  -- so were those for which the frame waits whose turn it is
  feeder_before : (f : ℕ) → WaitsFor (plan_reads plan) (get_or board.waits.opened.items turn 0) f → (j : ℕ) × (j < turn) × (get_or board.waits.opened.items j 0 ≡ f)
  feeder_before f waits =
      let full = run.counted.opens_full in
      let g : ℕ = get_or board.waits.opened.items turn 0 in
      let listed = full.exist turn lt in
      let n = run.counted.frames_of_plan in
      let exists : g < length plan.frames = omega (arith, listed, n) in
      let (k, k_lt, at) = waits.is_read in
      let inside : k < (frame_at plan g).inputs = omega (arith, k_lt, length-map-range_with_len (cell_source plan) (frame_at plan g).cell (frame_at plan g).inputs) in
      let c : ℕ = (frame_at plan g).cell + k in
      let source : cell_source plan c ≡ fed f waits.place =
      sym (get_or-map-range_with_len (cell_source plan) (frame_at plan g).cell (frame_at plan g).inputs k c (fed f waits.place) inside refl) ∙ at in
      let (vs, there) = all_gathered (held_at board.cells.items) (cells_of plan g) (sym (run.counted.counts g exists) ∙ full.miss_nothing turn lt) in
      let (v, held) = gathered_at (map (held_at board.cells.items) (cells_of plan g)) vs there k
      (omega (arith, inside, length-map-range_with_len (held_at board.cells.items) (frame_at plan g).cell (frame_at plan g).inputs)) in
      let held_c : held_at board.cells.items c ≡ Some v =
      sym (get_or-map-range_with_len (held_at board.cells.items) (frame_at plan g).cell (frame_at plan g).inputs k c None inside refl) ∙ held in
      let exist = sound.cells_exist g (omega (arith, exists)) in
      let cells = run.counted.cells_of_plan in
      let is_shown : shown (number_at plan) board.ends.items m (fed f waits.place) ≡ Some v =
      ap (shown (number_at plan) board.ends.items m) (sym source) ∙ sym (run.shows.cells_are_shown c (omega (arith, exist, cells, inside))) ∙ held_c in
      run_before f (has_end (is_some (end_at board.ends.items f)) refl f waits.place v is_shown)
    where
      has_end : (b : Bool) → b ≡ b → (f place : ℕ) (v : Elem) → shown (number_at plan) board.ends.items m (fed f place) ≡ Some v → is_some (end_at board.ends.items f) ≡ true
      has_end b _ f place v h = by_end (is_some (end_at board.ends.items f)) (output_at (number_at plan) m f place) refl h
        where
          by_end : (b : Bool) (o : Option Elem) → is_some (end_at board.ends.items f) ≡ b → cond b o None ≡ Some v → is_some (end_at board.ends.items f) ≡ true
          by_end true o e h = e
          by_end false o e h = absurd (cc)

-- one more frame is run
pub one_more_behind : (plan : Plan) (m : State) (opened new_opened : List ℕ) (board : Board) (turn : ℕ) → IsSound plan → IsRun plan m board turn → turn < length board.waits.opened.items
    → opened ≡ board.waits.opened.items → ((k : ℕ) → k < length board.waits.opened.items → get_or new_opened k 0 ≡ get_or board.waits.opened.items k 0)
    → StandBehind plan opened turn → StandBehind plan new_opened (turn + 1)
one_more_behind plan m opened new_opened board turn sound run lt are keeps old = record { behind = λ k f before _ waits. at k f before waits (cases_lt k turn) }
  where
    moved : (k f j : ℕ) → k < length board.waits.opened.items → j < k → get_or board.waits.opened.items j 0 ≡ f → (i : ℕ) × (i < k) × (get_or new_opened i 0 ≡ f)
    moved k f j k_lt j_lt is = (j, j_lt, keeps j (omega (arith, k_lt, j_lt)) ∙ is)

    at : (k f : ℕ) → k < turn + 1 → WaitsFor (plan_reads plan) (get_or new_opened k 0) f → (k < turn) ⊎ (turn ≤ k) → (j : ℕ) × (j < k) × (get_or new_opened j 0 ≡ f)
    at k f before waits (inl earlier) =
        let k_lt : k < length board.waits.opened.items = omega (arith, earlier, lt) in
        let size = ap length are in
        let (j, j_lt, is) = old.behind k f earlier (omega (arith, k_lt, size)) (subst (λ (g : ℕ). WaitsFor (plan_reads plan) g f) (keeps k k_lt ∙ ap (λ (xs : List ℕ). get_or xs k 0) (sym are)) waits) in
        moved k f j k_lt j_lt (ap (λ (xs : List ℕ). get_or xs j 0) (sym are) ∙ is)
    at k f before waits (inr now) =
        let is_turn : k ≡ turn = omega (arith, before, now) in
        let waits_turn : WaitsFor (plan_reads plan) (get_or board.waits.opened.items turn 0) f =
        subst (λ (g : ℕ). WaitsFor (plan_reads plan) g f) (ap (λ (i : ℕ). get_or new_opened i 0) is_turn ∙ keeps turn lt) waits in
        let (j, j_lt, is) = feeder_before plan m board turn sound run lt f waits_turn in
        moved k f j (omega (arith, is_turn, lt)) (omega (arith, j_lt, is_turn)) is
