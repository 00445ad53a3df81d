-- What holds along a way from opening: each cell is stored into once at most, and the frames that were
-- claimed ran in an order in which each was enabled.
use Rattle.std.proofs.Common.{◌≡◌, ℕ, ◌+◌, ◌<◌, ◌≤◌, ◌≢◌, ℤ, Bool, true, false, List, Option, Some, None, length, replicate, set, refl, sym, ap, ◌∙◌, subst, ◌⊎◌, inl, inr, arith, count_by, eq-eqb, map, ◌-◌}
use Rattle.std.specs.Prelude.{slice_get, is_none, is_some, ◌==◌, ◌&&◌, nat_lt, option_and_then, if◌then◌else◌}
use Rattle.std.specs.List.{range_with_len}
use Rattle.std.specs.Option.{option_map}
use Rattle.std.proofs.lemmas.Bool.{cases_eq, cases_lt, ne_eqb, and_parts}
use Rattle.std.proofs.lemmas.List.{set_past, get_or-set_same, get_or-set_other, get_or_default, get_or-replicate, length-set, length-replicate, same_lists}
use Rattle.std.proofs.lemmas.List.FromFn.{get_or-map-range_with_len, length-map-range_with_len}
use Rattle.flow_core_laws.specs.declared.plan.Piece.{Piece}
use Rattle.flow_core_laws.specs.Outcome.{outcome_at, State}
use Rattle.flow_core_laws.specs.Round.{gathered, inputs_in}
use Rattle.flow_core_laws.specs.Laws.{Reached, start, fire}
use Rattle.flow_core_laws.proofs.Counting.{passing-none}
use Rattle.flow_core_laws.proofs.Gathering.{all_gathered, gathered-weaker}
use Rattle.flow_core_laws.proofs.Orders.{reached_extends, reached_meaning}
use Rattle.flow_core_laws.proofs.Rounds.{outcome_at-meaning, outcome_at_past}
use Rattle.flow_core_concurrent.specs.declared.view.FrameRun.{FrameRun}
use Rattle.flow_core_concurrent.specs.Counted.{one, is_run_of, is_past, has_stored, counted, counted_at, underway, underway_at}
use Rattle.flow_core_concurrent.proofs.Opening.{count_by-fewer}
use Rattle.flow_core_laws.specs.declared.outcome.Outcome.{Outcome}
use Rattle.flow_core_laws.specs.declared.task_end.TaskEnd.{TaskEnd}
use Rattle.flow_core_laws.specs.Element.{Source, initial, fed, nobody, output_at, element_written}
use Rattle.flow_core_laws.specs.Plans.{plan_element, frame_at, held_at, cell_source, cells_of, plan_reads, plan_meaning, number_at}
use Rattle.flow_core_laws.specs.IsSound.{HasCell}
use Rattle.flow_core_laws.proofs.Elements.{element_kept}
use Rattle.flow_core_laws.proofs.Sources.{map_map, fed-covered, piece_at-covered}
use Rattle.flow_core_laws.specs.declared.elem.Elem.{Elem}
use Rattle.flow_core_laws.specs.Poisoning.{poisoning}
use Rattle.flow_core_concurrent.specs.declared.known.Known.{Known}
use Rattle.flow_core_concurrent.specs.declared.view.View.{View}
use Rattle.flow_core_concurrent.specs.declared.word.Word.{Word}
use Rattle.flow_core_concurrent.specs.declared.word.Word.TheVariants.{Wait, Open, Taken, Ended}
use Rattle.flow_core_concurrent.specs.Words.{word_at, amount, is_open, is_taken, is_started, has_ended, lowered}
use Rattle.flow_core_concurrent.specs.States.{CoreState, runs_of, opening}
use Rattle.flow_core_concurrent.specs.Steps.{Step, split, join, claim, read, store, sub, finish, look, CanStore, after_split, after_join, after_store, after_sub, after_finish, after_look, with_claim, with_miss, with_view}
use Rattle.flow_core_concurrent.specs.IsGood.{IsGood}
use Rattle.flow_core_concurrent.specs.Laws.{IsFit, IsMeant, IsInOrder}
use Rattle.flow_core_concurrent.specs.Ways.{Way, opens, goes, stores_into, stores}
use Rattle.flow_core_concurrent.proofs.Words.{open_is, word_at-set, word_at-kept}
use Rattle.flow_core_concurrent.proofs.Opens.{opening_not_started}
use Rattle.flow_core_concurrent.proofs.Counts.{counted-is, counted_at-is, underway-is, underway_at-is}
use Rattle.flow_core_concurrent.proofs.Cells.{full_value, full_cell, next_is_empty}
use Rattle.flow_core_concurrent.proofs.Runs.{running_is_taken}
use Rattle.flow_core_concurrent.proofs.Stores.{has_output, piece_within}
use Rattle.flow_core_concurrent.proofs.Lowered.{is_started-lowered}
use Rattle.flow_core_concurrent.proofs.Steps.{way_is_good}

-- a STORE fills its cell, which was empty, and leaves the others
store_fills : (known : Known) (s : CoreState) (i : ℕ) (v : View) (r : FrameRun) (p : Piece) (c : ℕ) → IsFit known → IsGood known s → CanStore known s i v r p → one (is_some (held_at (after_store known s i v r p).cells c)) ≡ one (is_some (held_at s.cells c)) + one (c == p.at + r.stored)
store_fills known s i v r p c fit g can = by (cases_eq c (p.at + r.stored))
  where
    within : p.at + r.stored < length s.cells
    within = let a = piece_within known.plan r.piece p fit.plan_is_sound can.stands.has_number in let b = g.cells_of_plan in let d = can.has_more in omega (arith, a, b, d)

    by : (c ≡ p.at + r.stored) ⊎ (c ≢ p.at + r.stored) → one (is_some (held_at (after_store known s i v r p).cells c)) ≡ one (is_some (held_at s.cells c)) + one (c == p.at + r.stored)
    by (inl e) =
        let (x, has) = has_output known r p r.stored fit ((g.views_are_sound i v can.is_seat.sees).runs_at_a_place r can.runs).of_a_frame (g.runs_have_ends i v r can.is_seat.sees can.runs) can.stands can.has_more in
        let a : one (is_some (held_at (after_store known s i v r p).cells c)) ≡ 1 = ap (λ k. one (is_some (held_at (after_store known s i v r p).cells k))) e ∙ ap (λ o. one (is_some o)) (get_or-set_same s.cells (p.at + r.stored) (output_at (number_at known.plan) known.meaning r.frame (p.first + r.stored)) None within ∙ has) in
        let b : one (is_some (held_at s.cells c)) ≡ 0 = ap (λ k. one (is_some (held_at s.cells k))) e ∙ ap (λ o. one (is_some o)) (next_is_empty known s i v r p g can.is_seat.sees can.runs can.stands fit.plan_is_sound can.has_more) in
        let d : one (c == p.at + r.stored) ≡ 1 = ap one (eq-eqb c (p.at + r.stored) e) in
        omega (arith, a, b, d)
    by (inr n) =
        let a : one (is_some (held_at (after_store known s i v r p).cells c)) ≡ one (is_some (held_at s.cells c)) = ap (λ o. one (is_some o)) (get_or-set_other s.cells (p.at + r.stored) c (output_at (number_at known.plan) known.meaning r.frame (p.first + r.stored)) None n) in
        let d : one (c == p.at + r.stored) ≡ 0 = ap one (ne_eqb c (p.at + r.stored) n) in
        omega (arith, a, d)

plus_none : (n : ℕ) → n ≡ n + 0
plus_none n = omega arith

step_fills : (known : Known) (old new : CoreState) (c : ℕ) → IsFit known → IsGood known old → (step : Step known old new) → one (is_some (held_at new.cells c)) ≡ one (is_some (held_at old.cells c)) + one (stores_into known old new c step)
step_fills known old new c fit g (split seat view can) = plus_none (one (is_some (held_at old.cells c)))
step_fills known old new c fit g (join seat view other gone can) = plus_none (one (is_some (held_at old.cells c)))
step_fills known old new c fit g (claim seat view frame can) = by (is_open (word_at old.words frame))
  where
    by : (b : Bool) → one (is_some (held_at (if b then (record { words = set old.words frame Taken; cells = old.cells; seats = set old.seats seat (with_claim known view frame) }) else with_view old seat (with_miss known view frame)).cells c)) ≡ one (is_some (held_at old.cells c)) + 0
    by true = plus_none (one (is_some (held_at old.cells c)))
    by false = plus_none (one (is_some (held_at old.cells c)))
step_fills known old new c fit g (read seat view run cell can) = plus_none (one (is_some (held_at old.cells c)))
step_fills known old new c fit g (store seat view run piece can) = store_fills known old seat view run piece c fit g can
step_fills known old new c fit g (sub seat view run piece can) = plus_none (one (is_some (held_at old.cells c)))
step_fills known old new c fit g (finish seat view run end can) = plus_none (one (is_some (held_at old.cells c)))
step_fills known old new c fit g (look seat view can) = plus_none (one (is_some (held_at old.cells c)))

pub stored_once : (known : Known) (state : CoreState) (way : Way known state) (c : ℕ) → IsFit known → one (is_some (held_at state.cells c)) ≡ one (is_some (held_at known.plan.filled c)) + stores known state c way
stored_once known state opens c fit = plus_none (one (is_some (held_at known.plan.filled c)))
stored_once known state (goes old new way step) c fit =
    let a = stored_once known old way c fit in
    let b = step_fills known old new c fit (way_is_good known old fit way) step in
    omega (arith, a, b)

-- The outcomes of the frames that were claimed.
unfoldable claimed_outcomes : Known → CoreState → State
claimed_outcomes known state = map (λ f. if is_started (word_at state.words f) then outcome_at known.meaning f else None) (range_with_len 0 (length known.plan.frames))

-- one by one
outcome_at-claimed : (known : Known) (s : CoreState) (f : ℕ) → f < length known.plan.frames → outcome_at (claimed_outcomes known s) f ≡ (if is_started (word_at s.words f) then outcome_at known.meaning f else None)
unfolding claimed_outcomes
outcome_at-claimed known s f lt = get_or-map-range_with_len (λ f. if is_started (word_at s.words f) then outcome_at known.meaning f else None) 0 (length known.plan.frames) f f None lt (omega arith)

length-claimed : (known : Known) (s : CoreState) → length (claimed_outcomes known s) ≡ length known.plan.frames
unfolding claimed_outcomes
length-claimed known s = length-map-range_with_len (λ f. if is_started (word_at s.words f) then outcome_at known.meaning f else None) 0 (length known.plan.frames)

-- two lists of outcomes that agree below a number
same_outcomes : (s t : State) (n : ℕ) → length s ≡ n → length t ≡ n → ((f : ℕ) → f < n → outcome_at s f ≡ outcome_at t f) → s ≡ t
same_outcomes s t n at_s at_t same = same_lists s t (at_s ∙ sym at_t) (λ k d lt. get_or_default s k d None lt ∙ same k (omega (arith, at_s, lt)) ∙ get_or_default t k None d (omega (arith, at_s, at_t, lt)))

-- where no other frame was claimed than before
same_claimed : (known : Known) (s t : CoreState) → ((f : ℕ) → is_started (word_at t.words f) ≡ is_started (word_at s.words f)) → claimed_outcomes known t ≡ claimed_outcomes known s
same_claimed known s t same = same_outcomes (claimed_outcomes known t) (claimed_outcomes known s) (length known.plan.frames) (length-claimed known t) (length-claimed known s) (λ f lt. outcome_at-claimed known t f lt ∙ ap (λ b. if b then outcome_at known.meaning f else None) (same f) ∙ sym (outcome_at-claimed known s f lt))

none_claimed : (known : Known) → replicate (length known.plan.frames) None ≡ claimed_outcomes known (opening known)
none_claimed known = same_outcomes (replicate (length known.plan.frames) None) (claimed_outcomes known (opening known)) (length known.plan.frames) (length-replicate (length known.plan.frames) None) (length-claimed known (opening known)) (λ f lt. get_or-replicate (length known.plan.frames) f None None lt ∙ sym (outcome_at-claimed known (opening known) f lt ∙ ap (λ b. if b then outcome_at known.meaning f else None) (opening_not_started known.plan f)))

-- a piece that counts, or an element of which is stored, is of a frame that was claimed
counted_started : (known : Known) (s : CoreState) (q c : ℕ) (p : Piece) → IsGood known s → slice_get known.plan.pieces q ≡ Some p → 1 ≤ counted known.plan s.words (runs_of s) q + underway known.plan (runs_of s) c q → is_started (word_at s.words p.from) ≡ true
counted_started known s q c p g number some = by (word_at s.words p.from) refl
  where
    parts : counted known.plan s.words (runs_of s) q ≡ one (has_ended (word_at s.words p.from)) + count_by (is_past p.from q) (runs_of s)
    parts = counted-is known.plan s.words (runs_of s) q p number

    fewer : count_by (is_past p.from q) (runs_of s) ≤ one (is_taken (word_at s.words p.from))
    fewer = subst (λ n. count_by (is_past p.from q) (runs_of s) ≤ n) (g.taken_is_run_by_one p.from) (count_by-fewer (is_past p.from q) (is_run_of p.from) (runs_of s) (past_runs q))
      where
        past_runs : (q : ℕ) (x : Option FrameRun) → is_past p.from q x ≡ true → is_run_of p.from x ≡ true
        past_runs q None h = h
        past_runs q (Some x) h = (and_parts (x.frame == p.from) (nat_lt q x.piece) h).0

    fewer_stored : count_by (has_stored p.from q (c - p.at)) (runs_of s) ≤ one (is_taken (word_at s.words p.from))
    fewer_stored = subst (λ n. count_by (has_stored p.from q (c - p.at)) (runs_of s) ≤ n) (g.taken_is_run_by_one p.from) (count_by-fewer (has_stored p.from q (c - p.at)) (is_run_of p.from) (runs_of s) (stored_runs (c - p.at)))
      where
        stored_runs : (k : ℕ) (x : Option FrameRun) → has_stored p.from q k x ≡ true → is_run_of p.from x ≡ true
        stored_runs k None h = h
        stored_runs k (Some x) h = (and_parts (x.frame == p.from) (x.piece == q) (and_parts (x.frame == p.from && x.piece == q) (nat_lt k x.stored) h).0).0

    parts_stored : underway known.plan (runs_of s) c q ≡ count_by (has_stored p.from q (c - p.at)) (runs_of s)
    parts_stored = underway-is known.plan (runs_of s) c q p number

    none : (w : Word) → word_at s.words p.from ≡ w → one (has_ended w) ≡ 0 → one (is_taken w) ≡ 0 → ⊥
    none w e d t =
        let a : one (has_ended (word_at s.words p.from)) ≡ 0 = ap (λ w. one (has_ended w)) e ∙ d in
        let b : one (is_taken (word_at s.words p.from)) ≡ 0 = ap (λ w. one (is_taken w)) e ∙ t in
        omega (arith, parts, parts_stored, fewer, fewer_stored, a, b, some)

    by : (w : Word) → word_at s.words p.from ≡ w → is_started (word_at s.words p.from) ≡ true
    by (Wait n) e = absurd (none (Wait n) e refl refl)
    by Open e = absurd (none Open e refl refl)
    by Taken e = ap is_started e
    by (Ended end) e = ap is_started e

-- an element that is there in a cell that is filled is one of a frame that was claimed
claimed_element : (known : Known) (s : CoreState) (c : ℕ) (x : Elem) → IsFit known → IsGood known s → 1 ≤ one (is_some (held_at known.plan.filled c)) + counted_at known.plan s.words (runs_of s) c + underway_at known.plan (runs_of s) c → plan_element known.plan known.meaning (cell_source known.plan c) ≡ Some x → plan_element known.plan (claimed_outcomes known s) (cell_source known.plan c) ≡ Some x
claimed_element known s c x fit g some h = by (cell_source known.plan c) refl h
  where
    by : (source : Source) → cell_source known.plan c ≡ source → plan_element known.plan known.meaning source ≡ Some x → plan_element known.plan (claimed_outcomes known s) source ≡ Some x
    by (initial y) e h = h
    by nobody e h = h
    by (fed f k) e h =
        let (q, p, number, low, high, from, _) = fed-covered known.plan c f k e in
        let here = piece_at-covered known.plan q c p fit.plan_is_sound number low high in
        let a : counted_at known.plan s.words (runs_of s) c ≡ counted known.plan s.words (runs_of s) q = counted_at-is known.plan s.words (runs_of s) c q here in
        let b : underway_at known.plan (runs_of s) c ≡ underway known.plan (runs_of s) c q = underway_at-is known.plan (runs_of s) c q here in
        let z : one (is_some (held_at known.plan.filled c)) ≡ 0 = ap (λ o. one (is_some o)) (fit.plan_is_sound.pieces_spare_the_filled q c (p, number, low, high)) in
        let started : is_started (word_at s.words f) ≡ true = subst (λ k. is_started (word_at s.words k) ≡ true) from (counted_started known s q c p g number (omega (arith, a, b, z, some))) in
        let exists : f < length known.plan.frames = subst (λ k. k < length known.plan.frames) from (fit.plan_is_sound.pieces_are_sound q p number).comes_from_a_frame in
        let same : outcome_at (claimed_outcomes known s) f ≡ outcome_at known.meaning f = outcome_at-claimed known s f exists ∙ ap (λ b. if b then outcome_at known.meaning f else None) started in
        ap (option_and_then (λ (o : Outcome). element_written (number_at known.plan f) o k)) same ∙ h

-- A frame that misses nothing has all its inputs, of frames that were claimed.
module _ (known : Known) (outcome : ℕ → List ℤ → Outcome) (s : CoreState) (f : ℕ) (fit : IsFit known) (is_meant : IsMeant known outcome) (g : IsGood known s) (lt : f < length known.plan.frames) (none : amount (word_at s.words f) ≡ 0) where
  abbrev first : ℕ
  first = (frame_at known.plan f).cell

  abbrev many : ℕ
  many = (frame_at known.plan f).inputs

  value_of : (c : ℕ) → HasCell known.plan f c → (x : Elem) × (plan_element known.plan (claimed_outcomes known s) (cell_source known.plan c) ≡ Some x)
  value_of c has =
      let (x, _, there) = full_value known s f c g (omega (arith, lt)) none has in
      let some = full_cell known s f c g (omega (arith, lt)) none has in
      (x, claimed_element known s c x fit g (omega (arith, some)) there)

  -- all its inputs are there
  inputs_there : (vs : List Elem) × (inputs_in (plan_element known.plan) (plan_reads known.plan) (claimed_outcomes known s) f ≡ Some vs)
  inputs_there =
      let (vs, h) = all_gathered (λ c. plan_element known.plan (claimed_outcomes known s) (cell_source known.plan c)) (cells_of known.plan f)
      (passing-none (λ c. is_none (plan_element known.plan (claimed_outcomes known s) (cell_source known.plan c))) first many (λ c low high. ap is_none (value_of c (low, high)).1)) in
      (vs, ap gathered (map_map (cell_source known.plan) (plan_element known.plan (claimed_outcomes known s)) (cells_of known.plan f)) ∙ h)

  -- what is there of the claimed frames is the meaning's
  meant_element : (source : Source) (x : Elem) → plan_element known.plan (claimed_outcomes known s) source ≡ Some x → plan_element known.plan known.meaning source ≡ Some x
  meant_element (initial y) x h = h
  meant_element nobody x h = h
  meant_element (fed a k) x h = by (outcome_at (claimed_outcomes known s) a) refl
    where
      by : (o : Option Outcome) → outcome_at (claimed_outcomes known s) a ≡ o → plan_element known.plan known.meaning (fed a k) ≡ Some x
      by None e = let z : ◌≡◌ {A = Option Elem} None (Some x) = sym (ap (option_and_then (λ (o : Outcome). element_written (number_at known.plan a) o k)) e) ∙ h in absurd (cc)
      by (Some o) e = within (cases_lt a (length known.plan.frames))
        where
          within : (a < length known.plan.frames) ⊎ (length known.plan.frames ≤ a) → plan_element known.plan known.meaning (fed a k) ≡ Some x
          within (inr ge) = let z : None ≡ Some o = sym (outcome_at_past (claimed_outcomes known s) a (let l = length-claimed known s in omega (arith, l, ge))) ∙ e in absurd (cc)
          within (inl lt) = started (is_started (word_at s.words a)) (sym (outcome_at-claimed known s a lt) ∙ e)
            where
              started : (b : Bool) → (if b then outcome_at known.meaning a else None) ≡ Some o → plan_element known.plan known.meaning (fed a k) ≡ Some x
              started true there = ap (option_and_then (λ (o : Outcome). element_written (number_at known.plan a) o k)) (there ∙ sym e) ∙ h
              started false there = absurd (cc)

  -- its outcome in the meaning is what its body gives for them
  gives : (vs : List Elem) → inputs_in (plan_element known.plan) (plan_reads known.plan) (claimed_outcomes known s) f ≡ Some vs → outcome_at known.meaning f ≡ Some (poisoning outcome f vs)
  gives vs h =
      let a : inputs_in (plan_element known.plan) (plan_reads known.plan) known.meaning f ≡ Some vs = gathered-weaker (plan_element known.plan (claimed_outcomes known s)) (plan_element known.plan known.meaning) meant_element (plan_reads known.plan f) vs h in
      let b : inputs_in (plan_element known.plan) (plan_reads known.plan) (plan_meaning known.plan outcome) f ≡ Some vs = ap (λ m. inputs_in (plan_element known.plan) (plan_reads known.plan) m f) (sym is_meant) ∙ a in
      ap (λ m. outcome_at m f) is_meant ∙ outcome_at-meaning (plan_element known.plan) (element_kept (number_at known.plan)) (plan_reads known.plan) (poisoning outcome) (length known.plan.frames) f lt ∙ ap (option_map (poisoning outcome f)) b

  fires : word_at s.words f ≡ Open → (t : CoreState) → t.words ≡ set s.words f Taken → Reached (plan_element known.plan) (plan_reads known.plan) (poisoning outcome) (length known.plan.frames) (claimed_outcomes known s) → Reached (plan_element known.plan) (plan_reads known.plan) (poisoning outcome) (length known.plan.frames) (claimed_outcomes known t)
  fires is t words reached = by inputs_there
    where
      by : (vs : List Elem) × (inputs_in (plan_element known.plan) (plan_reads known.plan) (claimed_outcomes known s) f ≡ Some vs) → Reached (plan_element known.plan) (plan_reads known.plan) (poisoning outcome) (length known.plan.frames) (claimed_outcomes known t)
      by (vs, h) = subst (Reached (plan_element known.plan) (plan_reads known.plan) (poisoning outcome) (length known.plan.frames)) (sym new) (fire (claimed_outcomes known s) f vs reached lt (outcome_at-claimed known s f lt ∙ ap (λ w. if is_started w then outcome_at known.meaning f else None) is) h)
        where
          fits : f < length s.words
          fits = let a = g.words_of_plan in omega (arith, a, lt)

          at : (a : ℕ) → a < length known.plan.frames → ((a ≡ f) × (word_at (set s.words f Taken) a ≡ Taken)) ⊎ ((a ≢ f) × (word_at (set s.words f Taken) a ≡ word_at s.words a)) → outcome_at (claimed_outcomes known t) a ≡ outcome_at (set (claimed_outcomes known s) f (Some (poisoning outcome f vs))) a
          at a below (inl (e, now)) =
              outcome_at-claimed known t a below
              ∙ ap (λ l. if is_started (word_at l a) then outcome_at known.meaning a else None) words
              ∙ ap (λ w. if is_started w then outcome_at known.meaning a else None) now
              ∙ ap (outcome_at known.meaning) e
              ∙ gives vs h
              ∙ sym (ap (outcome_at (set (claimed_outcomes known s) f (Some (poisoning outcome f vs)))) e ∙ get_or-set_same (claimed_outcomes known s) f (Some (poisoning outcome f vs)) None (let l = length-claimed known s in omega (arith, l, lt)))
          at a below (inr (n, now)) =
              outcome_at-claimed known t a below
              ∙ ap (λ l. if is_started (word_at l a) then outcome_at known.meaning a else None) words
              ∙ ap (λ w. if is_started w then outcome_at known.meaning a else None) now
              ∙ sym (outcome_at-claimed known s a below)
              ∙ sym (get_or-set_other (claimed_outcomes known s) f a (Some (poisoning outcome f vs)) None n)

          new : claimed_outcomes known t ≡ set (claimed_outcomes known s) f (Some (poisoning outcome f vs))
          new = same_outcomes (claimed_outcomes known t) (set (claimed_outcomes known s) f (Some (poisoning outcome f vs))) (length known.plan.frames) (length-claimed known t) (length-set (claimed_outcomes known s) f (Some (poisoning outcome f vs)) ∙ length-claimed known s) (λ a below. at a below (word_at-set s.words f Taken a fits))

-- a frame that was claimed has an outcome
claimed_has_outcome : (known : Known) (outcome : ℕ → List ℤ → Outcome) (s : CoreState) (f : ℕ) → IsFit known → IsMeant known outcome → IsGood known s → f < length known.plan.frames → is_started (word_at s.words f) ≡ true → is_some (outcome_at known.meaning f) ≡ true
claimed_has_outcome known outcome s f fit is_meant g lt started = by (inputs_there known outcome s f fit is_meant g lt full)
  where
    misses_none : (w : Word) → is_started w ≡ true → amount w ≡ 0
    misses_none (Wait n) h = absurd (cc)
    misses_none Open h = refl
    misses_none Taken h = refl
    misses_none (Ended e) h = refl

    full : amount (word_at s.words f) ≡ 0
    full = misses_none (word_at s.words f) started

    by : (vs : List Elem) × (inputs_in (plan_element known.plan) (plan_reads known.plan) (claimed_outcomes known s) f ≡ Some vs) → is_some (outcome_at known.meaning f) ≡ true
    by (vs, h) = ap is_some (gives known outcome s f fit is_meant g lt full vs h)

of_the_claimed : (known : Known) (outcome : ℕ → List ℤ → Outcome) (s : CoreState) (f : ℕ) → IsFit known → IsMeant known outcome → IsGood known s → f < length known.plan.frames → is_some (outcome_at (claimed_outcomes known s) f) ≡ is_started (word_at s.words f)
of_the_claimed known outcome s f fit is_meant g lt = ap is_some (outcome_at-claimed known s f lt) ∙ by (is_started (word_at s.words f)) refl
  where
    by : (b : Bool) → is_started (word_at s.words f) ≡ b → is_some (if b then outcome_at known.meaning f else None) ≡ b
    by true e = claimed_has_outcome known outcome s f fit is_meant g lt e
    by false e = refl

has_the_ends : (known : Known) (s : CoreState) (f : ℕ) (end : TaskEnd) → IsGood known s → f < length known.plan.frames → word_at s.words f ≡ Ended end → option_map (λ (o : Outcome). o.end) (outcome_at (claimed_outcomes known s) f) ≡ Some end
has_the_ends known s f end g lt e = ap (option_map (λ (o : Outcome). o.end)) (outcome_at-claimed known s f lt ∙ ap (λ w. if is_started w then outcome_at known.meaning f else None) e) ∙ g.ends_are_meant f end e

has_the_elements : (known : Known) (s : CoreState) (c : ℕ) (x : Elem) → IsFit known → IsGood known s → held_at s.cells c ≡ Some x → plan_element known.plan (claimed_outcomes known s) (cell_source known.plan c) ≡ Some x
has_the_elements known s c x fit g e =
    let a : one (is_some (held_at s.cells c)) ≡ 1 = ap (λ o. one (is_some o)) e in
    let b = g.cells_are_filled_once c in
    claimed_element known s c x fit g (omega (arith, a, b)) (g.cells_hold_the_meaning c x e)

-- what every step does to the claimed outcomes
step_reaches : (known : Known) (outcome : ℕ → List ℤ → Outcome) (old new : CoreState) → IsFit known → IsMeant known outcome → IsGood known old → Step known old new → Reached (plan_element known.plan) (plan_reads known.plan) (poisoning outcome) (length known.plan.frames) (claimed_outcomes known old) → Reached (plan_element known.plan) (plan_reads known.plan) (poisoning outcome) (length known.plan.frames) (claimed_outcomes known new)
step_reaches known outcome old new fit is_meant g step reached = by new step
  where
    same : (t : CoreState) → ((f : ℕ) → is_started (word_at t.words f) ≡ is_started (word_at old.words f)) → Reached (plan_element known.plan) (plan_reads known.plan) (poisoning outcome) (length known.plan.frames) (claimed_outcomes known t)
    same t e = subst (Reached (plan_element known.plan) (plan_reads known.plan) (poisoning outcome) (length known.plan.frames)) (sym (same_claimed known old t e)) reached

    lowered_started : (count : ℕ) (w : Word) → is_started (lowered count w) ≡ is_started w
    lowered_started count (Wait n) = is_started-lowered count n
    lowered_started count Open = refl
    lowered_started count Taken = refl
    lowered_started count (Ended e) = refl

    by : (t : CoreState) → Step known old t → Reached (plan_element known.plan) (plan_reads known.plan) (poisoning outcome) (length known.plan.frames) (claimed_outcomes known t)
    by t (split seat view can) = same (after_split old seat view) (λ f. refl)
    by t (join seat view other gone can) = same (after_join old seat view other gone) (λ f. refl)
    by t (claim seat view frame can) = choose (is_open (word_at old.words frame)) refl
      where
        choose : (b : Bool) → is_open (word_at old.words frame) ≡ b → Reached (plan_element known.plan) (plan_reads known.plan) (poisoning outcome) (length known.plan.frames) (claimed_outcomes known (if b then (record { words = set old.words frame Taken; cells = old.cells; seats = set old.seats seat (with_claim known view frame) }) else with_view old seat (with_miss known view frame)))
        choose true e = fires known outcome old frame fit is_meant g can.exists (ap amount (open_is (word_at old.words frame) e)) (open_is (word_at old.words frame) e) (record { words = set old.words frame Taken; cells = old.cells; seats = set old.seats seat (with_claim known view frame) }) refl reached
        choose false e = same (with_view old seat (with_miss known view frame)) (λ f. refl)
    by t (read seat view run cell can) = reached
    by t (store seat view run piece can) = same (after_store known old seat view run piece) (λ f. refl)
    by t (sub seat view run piece can) = same (after_sub old seat view run piece) (λ f. kept f (cases_lt piece.to (length old.words)))
      where
        kept : (f : ℕ) → (piece.to < length old.words) ⊎ (length old.words ≤ piece.to) → is_started (word_at (set old.words piece.to (lowered piece.count (word_at old.words piece.to))) f) ≡ is_started (word_at old.words f)
        kept f (inl lt) = word_at-kept is_started old.words piece.to (lowered piece.count (word_at old.words piece.to)) lt (lowered_started piece.count (word_at old.words piece.to)) f
        kept f (inr ge) = ap (λ l. is_started (word_at l f)) (set_past old.words piece.to (lowered piece.count (word_at old.words piece.to)) ge)
    by t (finish seat view run end can) = same (after_finish old seat view run end) (word_at-kept is_started old.words run.frame (Ended end) exists (sym (ap is_started (running_is_taken known old seat view run g can.is_seat.sees can.runs))))
      where
        exists : run.frame < length old.words
        exists = let a = g.words_of_plan in let b = ((g.views_are_sound seat view can.is_seat.sees).runs_at_a_place run can.runs).of_a_frame in omega (arith, a, b)
    by t (look seat view can) = same (after_look known old seat view) (λ f. refl)

way_reaches : (known : Known) (outcome : ℕ → List ℤ → Outcome) (state : CoreState) → IsFit known → IsMeant known outcome → Way known state → Reached (plan_element known.plan) (plan_reads known.plan) (poisoning outcome) (length known.plan.frames) (claimed_outcomes known state)
way_reaches known outcome state fit is_meant opens = subst (Reached (plan_element known.plan) (plan_reads known.plan) (poisoning outcome) (length known.plan.frames)) (none_claimed known) start
way_reaches known outcome state fit is_meant (goes old new way step) = step_reaches known outcome old new fit is_meant (way_is_good known old fit way) step (way_reaches known outcome old fit is_meant way)

pub in_order : (known : Known) (outcome : ℕ → List ℤ → Outcome) (state : CoreState) → IsFit known → IsMeant known outcome → Way known state → IsInOrder known state outcome
in_order known outcome state fit is_meant way =
    let r = way_reaches known outcome state fit is_meant way in
    let g = way_is_good known state fit way in
    record {
      outcomes = claimed_outcomes known state;
      ran_in_order = r;
      of_the_claimed = λ f lt. of_the_claimed known outcome state f fit is_meant g lt;
      has_the_ends = λ f end lt. has_the_ends known state f end g lt;
      has_the_elements = λ c x. has_the_elements known state c x fit g;
      agrees = (reached_extends (plan_element known.plan) (element_kept (number_at known.plan)) (plan_reads known.plan) (poisoning outcome) (length known.plan.frames) (claimed_outcomes known state) r).kept;
      ends_there = reached_meaning (plan_element known.plan) (element_kept (number_at known.plan)) (plan_reads known.plan) (poisoning outcome) (length known.plan.frames) (claimed_outcomes known state) r;
    }
