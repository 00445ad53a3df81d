-- A run from its opening to its end.
use Rattle.std.proofs.Common.{◌≡◌, ◌≢◌, ℕ, zero, suc, ◌+◌, ◌-◌, ◌<◌, ◌≤◌, ℤ, List, [], ◌∷◌, Option, Some, None, Bool, true, false, cond, map, length, get_or, set, refl, sym, ap, ◌∙◌, subst, ◌⊎◌, inl, inr, arith}
use Rattle.std.specs.Prelude.{slice_get, is_some, is_none, option_and_then, count_by}
use Rattle.std.specs.Option.{option_map, option_map_or}
use Rattle.std.specs.List.{range_with_len}
use Rattle.std.proofs.lemmas.Bool.{cases_lt, cases_eq}
use Rattle.std.proofs.lemmas.Option.{option_and_then_some, slice_get-get_or, slice_get-map, get_or_from_slice_get}
use Rattle.std.proofs.lemmas.List.{get_or-set_same, get_or-set_other, same_lists, get_or_past, get_or_default, length-map}
use Rattle.std.proofs.lemmas.List.Sums.{sum_by-set}
use Rattle.flow_core_laws.specs.declared.plan.FramePlan.{FramePlan}
use Rattle.flow_core_laws.specs.declared.plan.Piece.{Piece}
use Rattle.flow_core_laws.specs.declared.elem.Elem.{Elem}
use Rattle.flow_core_laws.specs.declared.plan.Plan.{Plan}
use Rattle.flow_core.specs.declared.board.Board.{Board}
use Rattle.flow_core_laws.specs.declared.task_end.TaskEnd.{TaskEnd}
use Rattle.flow_core.specs.declared.waits.Waits.{Waits}
use Rattle.flow_core_laws.specs.declared.outcome.Outcome.{Outcome}
use Rattle.flow_core_laws.specs.Outcome.{outcome_at, State, ends_of}
use Rattle.flow_core_laws.specs.Element.{Source, initial, fed, nobody, element_written, output_at}
use Rattle.flow_core_laws.specs.Poisoning.{poisoning}
use Rattle.flow_core_laws.specs.Round.{gathered}
use Rattle.flow_core_laws.specs.Plans.{frame_at, number_at, cells_of, held_at, cell_source, piece_at, plan_reads, plan_element, plan_meaning, sink_elements}
use Rattle.flow_core_laws.specs.IsSound.{IsSound}
use Rattle.flow_core.specs.Waits.{OpensFull, OpensMore}
use Rattle.flow_core.specs.Counted.{IsCounted}
use Rattle.flow_core.specs.Shows.{end_at, shown, Shows}
use Rattle.flow_core.specs.Board.{IsRun}
use Rattle.flow_core_laws.proofs.Gathering.{gathered-cons, gathered_there, none_missing}
use Rattle.flow_core_laws.proofs.Rounds.{Extends, IsClosed, passes_from_closed}
use Rattle.flow_core_laws.proofs.Elements.{element_kept}
use Rattle.flow_core_laws.proofs.Sources.{map_map}
use Rattle.flow_core.proofs.Showing.{part_of, stretch_of}

-- nothing has an end at the opening
pub no_end : (frames : List FramePlan) (f : ℕ) → end_at (map (λ (p : FramePlan). None) frames) f ≡ None
no_end [] f = refl
no_end (p ∷ ps) zero = refl
no_end (p ∷ ps) (suc f) = no_end ps f

-- a cell shows what it holds at opening, and nothing else
shown_at_opening : (plan : Plan) (m : State) (c : ℕ) → held_at plan.filled c ≡ shown (number_at plan) (map (λ (p : FramePlan). None) plan.frames) m (cell_source plan c)
unfolding cell_source
shown_at_opening plan m c = by_value (held_at plan.filled c) (option_and_then (λ number. slice_get plan.pieces number) (piece_at plan c))
  where
    by_value : (o : Option Elem) (f : Option Piece) → o ≡ shown (number_at plan) (map (λ (p : FramePlan). None) plan.frames) m (option_map_or initial o (option_map_or (λ (p : Piece). fed p.from (p.first + (c - p.at))) f nobody))
    by_value (Some v) f = refl
    by_value None None = refl
    by_value None (Some p) = sym (ap (λ (e : Option TaskEnd). cond (is_some e) (output_at (number_at plan) m p.from (p.first + (c - p.at))) None) (no_end plan.frames p.from))

pub IsRun-opening : (plan : Plan) (m : State) (board : Board) → IsCounted plan board.cells.items board.waits → board.cells.items ≡ plan.filled → board.ends.items ≡ map (λ (p : FramePlan). None) plan.frames → IsRun plan m board 0
IsRun-opening plan m board counted cells ends = record {
  counted = counted;
  shows = record {
    ends_of_plan = ap length ends ∙ length-map plan.frames _;
    ends_are_meant = λ f e h. let n = ap (λ (xs : List (Option TaskEnd)). end_at xs f) ends ∙ no_end plan.frames f in absurd (cc);
    cells_are_shown = λ c h. ap (λ (xs : List (Option Elem)). held_at xs c) cells ∙ shown_at_opening plan m c ∙ ap (λ (xs : List (Option TaskEnd)). shown (number_at plan) xs m (cell_source plan c)) (sym ends);
  };
  have_ended = λ k h l. absurd (omega arith);
  wait_their_turn = λ k h l. ap (λ (xs : List (Option TaskEnd)). end_at xs (get_or board.waits.opened.items k 0)) ends ∙ no_end plan.frames _;
  ended_full = λ f h. let n : is_some (end_at board.ends.items f) ≡ false = ap is_some (ap (λ (xs : List (Option TaskEnd)). end_at xs f) ends ∙ no_end plan.frames f) in absurd (cc);
}

-- an end, or none
none_or : (o : Option TaskEnd) → (is_some o ≡ true) ⊎ (o ≡ None)
none_or (Some e) = inl refl
none_or None = inr refl

-- the run of the next frame
pub IsRun-more : (plan : Plan) (m : State) (old new : Board) (turn : ℕ) (e : TaskEnd) → IsRun plan m old turn → turn < length old.waits.opened.items → IsCounted plan new.cells.items new.waits → Shows plan m new.cells.items new.ends.items → OpensMore old.waits new.waits → new.ends.items ≡ set old.ends.items (get_or old.waits.opened.items turn 0) (Some e) → IsRun plan m new (turn + 1)
IsRun-more plan m old new turn e run lt counted shows opens ends = record {
  counted = counted;
  shows = shows;
  have_ended = λ k h l. done k (omega arith) (cases_lt k turn);
  wait_their_turn = λ k h l. still k h l (cases_lt k (length old.waits.opened.items));
  ended_full = λ f h. full f h (cases_eq f frame);
}
  where
    frame : ℕ
    frame = get_or old.waits.opened.items turn 0

    opened_full : OpensFull old.waits
    opened_full = run.counted.opens_full

    in_place : frame < length old.ends.items
    in_place = let a = run.counted.frames_of_plan in let b = run.shows.ends_of_plan in let d = opened_full.exist turn lt in omega arith

    end_of_frame : end_at new.ends.items frame ≡ Some e
    end_of_frame = ap (λ (xs : List (Option TaskEnd)). end_at xs frame) ends ∙ get_or-set_same old.ends.items frame (Some e) None in_place

    end_of_other : (g : ℕ) → g ≢ frame → end_at new.ends.items g ≡ end_at old.ends.items g
    end_of_other g other = ap (λ (xs : List (Option TaskEnd)). end_at xs g) ends ∙ get_or-set_other old.ends.items frame g (Some e) None other

    ended_stays : (g : ℕ) → is_some (end_at old.ends.items g) ≡ true → (g ≡ frame) ⊎ (g ≢ frame) → is_some (end_at new.ends.items g) ≡ true
    ended_stays g h (inl same) = ap is_some (ap (end_at new.ends.items) same ∙ end_of_frame)
    ended_stays g h (inr other) = ap is_some (end_of_other g other) ∙ h

    done : (k : ℕ) → k ≤ turn → (k < turn) ⊎ (turn ≤ k) → is_some (end_at new.ends.items (get_or new.waits.opened.items k 0)) ≡ true
    done k le (inl earlier) = ap (λ (g : ℕ). is_some (end_at new.ends.items g)) (opens.keeps k (omega arith)) ∙ ended_stays (get_or old.waits.opened.items k 0) (run.have_ended k earlier (omega arith)) (cases_eq (get_or old.waits.opened.items k 0) frame)
    done k le (inr later) =
        let same : k ≡ turn = omega arith in
        ap (λ (g : ℕ). is_some (end_at new.ends.items g)) (opens.keeps k (omega arith) ∙ ap (λ (j : ℕ). get_or old.waits.opened.items j 0) same) ∙ ap is_some end_of_frame

    still : (k : ℕ) → turn + 1 ≤ k → k < length new.waits.opened.items → (k < length old.waits.opened.items) ⊎ (length old.waits.opened.items ≤ k) → end_at new.ends.items (get_or new.waits.opened.items k 0) ≡ None
    still k h l (inl there) =
        let other : get_or old.waits.opened.items k 0 ≢ frame = λ same. opened_full.listed_once turn k (omega arith) there (sym same) in
        ap (end_at new.ends.items) (opens.keeps k there) ∙ end_of_other (get_or old.waits.opened.items k 0) other ∙ run.wait_their_turn k (omega arith) there
    still k h l (inr added) = waited (get_or new.waits.opened.items k 0) (opens.were_waiting k added l) (none_or (end_at old.ends.items (get_or new.waits.opened.items k 0)))
      where
        waited : (g : ℕ) → get_or old.waits.missing.items g 0 ≢ 0 → (is_some (end_at old.ends.items g) ≡ true) ⊎ (end_at old.ends.items g ≡ None) → end_at new.ends.items g ≡ None
        waited g missed (inl ended) = absurd (missed (run.ended_full g ended))
        waited g missed (inr none) = end_of_other g (λ same. missed (ap (λ (f : ℕ). get_or old.waits.missing.items f 0) same ∙ opened_full.miss_nothing turn lt)) ∙ none

    full : (f : ℕ) → is_some (end_at new.ends.items f) ≡ true → (f ≡ frame) ⊎ (f ≢ frame) → get_or new.waits.missing.items f 0 ≡ 0
    full f h (inl same) = opens.stay_full f (ap (λ (g : ℕ). get_or old.waits.missing.items g 0) same ∙ opened_full.miss_nothing turn lt)
    full f h (inr other) = opens.stay_full f (run.ended_full f (sym (ap is_some (end_of_other f other)) ∙ h))

-- where one function has each element of a stretch that another has, it has them all
gathered-stretch : (f g : ℕ → Option Elem) (from n : ℕ) (vs : List Elem) → ((c : ℕ) (v : Elem) → from ≤ c → c < from + n → f c ≡ Some v → g c ≡ Some v) → gathered (map f (range_with_len from n)) ≡ Some vs → gathered (map g (range_with_len from n)) ≡ Some vs
gathered-stretch f g from zero vs weaker h = h
gathered-stretch f g from (suc n) vs weaker h =
    let (v, ws, at_x, at_xs, is) = gathered-cons (f from) (map f (range_with_len (from + 1) n)) vs h in
    gathered_there (g from) (map g (range_with_len (from + 1) n)) v ws (weaker from v (omega arith) (omega arith) at_x) (gathered-stretch f g (from + 1) n ws (λ c w l u q. weaker c w (omega arith) (omega arith) q) at_xs) ∙ ap (λ (l : List Elem). Some l) (sym is)

pub map-stretch : (f g : ℕ → Option Elem) (from n : ℕ) → ((c : ℕ) → from ≤ c → c < from + n → f c ≡ g c) → map f (range_with_len from n) ≡ map g (range_with_len from n)
map-stretch f g from zero same = refl
map-stretch f g from (suc n) same =
    let here : f from ≡ g from = same from (omega arith) (omega arith) in
    let rest : map f (range_with_len (from + 1) n) ≡ map g (range_with_len (from + 1) n) = map-stretch f g (from + 1) n (λ c l u. same c (omega arith) (omega arith)) in
    cc

-- At the end of a run every activation that has an outcome in the meaning has an end.
reaches : (plan : Plan) (outcome : ℕ → List ℤ → Outcome) (board : Board) (turn : ℕ) → IsSound plan → IsRun plan (plan_meaning plan outcome) board turn → length board.waits.opened.items ≤ turn → IsClosed (plan_element plan) (plan_reads plan) (poisoning outcome) (length plan.frames) (λ f. is_some (end_at board.ends.items f))
reaches plan outcome board turn sound run over = record { passes = λ s extends earlier a vs lt inputs. by_cells s extends earlier a vs lt (ap gathered (sym (map_map (cell_source plan) (plan_element plan s) (cells_of plan a))) ∙ inputs) }
  where
    m : State
    m = plan_meaning plan outcome

    shown_too : (s : State) → Extends s m → ((b : ℕ) (o : Outcome) → outcome_at s b ≡ Some o → is_some (end_at board.ends.items b) ≡ true) → (source : Source) (v : Elem) → plan_element plan s source ≡ Some v → shown (number_at plan) board.ends.items m source ≡ Some v
    shown_too s extends earlier (initial w) v h = h
    shown_too s extends earlier (fed b k) v h = option_and_then_some (λ (o : Outcome). element_written (number_at plan b) o k) (outcome_at s b) v h (λ o is at. ap (λ (t : Bool). cond t (output_at (number_at plan) m b k) None) (earlier b o is) ∙ element_kept (number_at plan) s m extends.kept (fed b k) v h)
    shown_too s extends earlier nobody v h = absurd (cc)

    by_cells : (s : State) → Extends s m → ((b : ℕ) (o : Outcome) → outcome_at s b ≡ Some o → is_some (end_at board.ends.items b) ≡ true) → (a : ℕ) (vs : List Elem) → a < length plan.frames → gathered (map (λ c. plan_element plan s (cell_source plan c)) (cells_of plan a)) ≡ Some vs → is_some (end_at board.ends.items a) ≡ true
    by_cells s extends earlier a vs lt there =
        let exist = sound.cells_exist a (let le : a ≤ length plan.frames = omega arith in le) in
        let len = run.counted.cells_of_plan in
        let in_cells = gathered-stretch (λ c. plan_element plan s (cell_source plan c)) (held_at board.cells.items) (frame_at plan a).cell (frame_at plan a).inputs vs (λ c v l u h. run.shows.cells_are_shown c (omega arith) ∙ shown_too s extends earlier (cell_source plan c) v h) there in
        let none = none_missing (held_at board.cells.items) (cells_of plan a) vs in_cells in
        let full : get_or board.waits.missing.items a 0 ≡ 0 = run.counted.counts a lt ∙ none in
        let (k, k_lt, at) = run.counted.opens_full.listed a (let f = run.counted.frames_of_plan in omega arith) full in
        subst (λ (f : ℕ). is_some (end_at board.ends.items f) ≡ true) at (run.have_ended k (omega arith) k_lt)

pub all_ended : (plan : Plan) (outcome : ℕ → List ℤ → Outcome) (board : Board) (turn : ℕ) → IsSound plan → IsRun plan (plan_meaning plan outcome) board turn → length board.waits.opened.items ≤ turn → (a : ℕ) (o : Outcome) → outcome_at (plan_meaning plan outcome) a ≡ Some o → is_some (end_at board.ends.items a) ≡ true
all_ended plan outcome board turn sound run over = passes_from_closed (plan_element plan) (plan_reads plan) (poisoning outcome) (length plan.frames) (λ f. is_some (end_at board.ends.items f)) (reaches plan outcome board turn sound run over)

-- the outcome of a frame without an end
outcome_or_none : (m : State) (ends : List (Option TaskEnd)) → ((a : ℕ) (o : Outcome) → outcome_at m a ≡ Some o → is_some (end_at ends a) ≡ true) → (a : ℕ) → end_at ends a ≡ None → outcome_at m a ≡ None
outcome_or_none m ends all a none = by_outcome (outcome_at m a) refl
  where
    by_outcome : (o : Option Outcome) → outcome_at m a ≡ o → outcome_at m a ≡ None
    by_outcome None e = e
    by_outcome (Some o) e = let t = all a o e in let n : is_some (end_at ends a) ≡ false = ap is_some none in absurd (cc)

-- the ends of a run that is over are those of the meaning
pub ends_meant : (plan : Plan) (m : State) (cells : List (Option Elem)) (ends : List (Option TaskEnd)) → length m ≡ length plan.frames → Shows plan m cells ends → ((a : ℕ) (o : Outcome) → outcome_at m a ≡ Some o → is_some (end_at ends a) ≡ true) → ends ≡ ends_of m
ends_meant plan m cells ends len shows all = same_lists ends (ends_of m) (shows.ends_of_plan ∙ sym len ∙ sym (length-map m _)) (λ k d lt. at k d lt)
  where
    meant : (k : ℕ) (e : Option TaskEnd) → end_at ends k ≡ e → e ≡ option_map (λ (o : Outcome). o.end) (outcome_at m k)
    meant k None is = sym (ap (option_map (λ (o : Outcome). o.end)) (outcome_or_none m ends all k is))
    meant k (Some e) is = sym (shows.ends_are_meant k e is)

    at : (k : ℕ) (d : Option TaskEnd) → k < length ends → get_or ends k d ≡ get_or (ends_of m) k d
    at k d lt =
        let l : k < length m = (let a = shows.ends_of_plan in omega arith) in
        let e : slice_get (ends_of m) k ≡ Some (option_map (λ (o : Outcome). o.end) (outcome_at m k)) = slice_get-map (option_map (λ (o : Outcome). o.end)) m k ∙ ap (option_map (option_map (λ (o : Outcome). o.end))) (slice_get-get_or m k None l) in
        get_or_default ends k d None lt ∙ meant k (end_at ends k) refl ∙ sym (get_or_from_slice_get (ends_of m) k _ d e)

-- the sink cells of a run that is over are those of the meaning
pub sink_meant : (plan : Plan) (m : State) (cells : List (Option Elem)) (ends : List (Option TaskEnd)) (waits : Waits) → IsSound plan → IsCounted plan cells waits → Shows plan m cells ends → ((a : ℕ) (o : Outcome) → outcome_at m a ≡ Some o → is_some (end_at ends a) ≡ true) → part_of plan.sink cells ≡ sink_elements plan m
sink_meant plan m cells ends waits sound counted shows all =
    ap (λ (p : FramePlan). part_of p cells) (sym at_sink) ∙ stretch_of plan cells waits n sound counted (omega arith) ∙ map-stretch (held_at cells) (λ c. plan_element plan m (cell_source plan c)) (frame_at plan n).cell (frame_at plan n).inputs (λ c l u. shows.cells_are_shown c (inside c u) ∙ shown_all (cell_source plan c)) ∙ sym (map_map (cell_source plan) (plan_element plan m) (cells_of plan n))
  where
    n : ℕ
    n = length plan.frames

    at_sink : frame_at plan n ≡ plan.sink
    at_sink = get_or_past plan.frames n plan.sink (omega arith)

    inside : (c : ℕ) → c < (frame_at plan n).cell + (frame_at plan n).inputs → c < length cells
    inside c u = let exist = sound.cells_exist n (omega arith) in let len = counted.cells_of_plan in omega arith

    shown_fed : (g k : ℕ) (e : Option TaskEnd) → end_at ends g ≡ e → cond (is_some (end_at ends g)) (output_at (number_at plan) m g k) None ≡ output_at (number_at plan) m g k
    shown_fed g k None is = ap (λ (e : Option TaskEnd). cond (is_some e) (output_at (number_at plan) m g k) None) is ∙ sym (ap (option_and_then (λ (o : Outcome). element_written (number_at plan g) o k)) (outcome_or_none m ends all g is))
    shown_fed g k (Some e) is = ap (λ (e : Option TaskEnd). cond (is_some e) (output_at (number_at plan) m g k) None) is

    shown_all : (source : Source) → shown (number_at plan) ends m source ≡ plan_element plan m source
    shown_all (initial v) = refl
    shown_all (fed g k) = shown_fed g k (end_at ends g) refl
    shown_all nobody = refl

-- each frame that runs leaves one frame less without an end
fewer_waiting : (ends : List (Option TaskEnd)) (f : ℕ) (e : TaskEnd) → f < length ends → end_at ends f ≡ None → count_by is_none (set ends f (Some e)) + 1 ≡ count_by is_none ends
fewer_waiting ends f e lt none =
    let s = sum_by-set (λ (o : Option TaskEnd). cond {A = ℕ} (is_none o) 1 0) ends f (Some e) None lt in
    let n : cond {A = ℕ} (is_none (get_or ends f None)) 1 0 ≡ 1 = ap (λ (o : Option TaskEnd). cond {A = ℕ} (is_none o) 1 0) none in
    omega (arith, s, n)

pub IsRun-fewer : (plan : Plan) (m : State) (board : Board) (turn : ℕ) (e : TaskEnd) (ends : List (Option TaskEnd)) → IsRun plan m board turn → turn < length board.waits.opened.items → ends ≡ set board.ends.items (get_or board.waits.opened.items turn 0) (Some e) → suc (count_by is_none ends) ≤ count_by is_none board.ends.items
IsRun-fewer plan m board turn e ends run lt set_is =
    let frame = get_or board.waits.opened.items turn 0 in
    let a = run.counted.frames_of_plan in
    let b = run.shows.ends_of_plan in
    let d = run.counted.opens_full.exist turn lt in
    let n = fewer_waiting board.ends.items frame e (omega arith) (run.wait_their_turn turn (omega arith) lt) in
    let s : count_by is_none ends ≡ count_by is_none (set board.ends.items frame (Some e)) = ap (count_by is_none) set_is in
    omega (arith, n, s)

-- the sink's cells exist
pub sink_fits : (plan : Plan) (cells : List (Option Elem)) (waits : Waits) → IsSound plan → IsCounted plan cells waits → plan.sink.cell + plan.sink.inputs ≤ length cells
sink_fits plan cells waits sound counted =
    let at : frame_at plan (length plan.frames) ≡ plan.sink = get_or_past plan.frames (length plan.frames) plan.sink (omega arith) in
    let exist = sound.cells_exist (length plan.frames) (omega arith) in
    let len = counted.cells_of_plan in
    subst (λ (p : FramePlan). p.cell + p.inputs ≤ length cells) at (omega arith)
