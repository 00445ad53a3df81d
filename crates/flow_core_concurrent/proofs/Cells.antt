-- The cells of frames that miss nothing, and those that a seat stores into.
use Rattle.std.proofs.Common.{◌≡◌, ℕ, zero, suc, ◌+◌, ◌-◌, ◌<◌, ◌≤◌, ◌≢◌, Bool, true, false, Option, Some, None, length, set, refl, sym, ap, ◌∙◌, ◌⊎◌, inl, inr, arith, count_by}
use Rattle.std.specs.Prelude.{slice_get, is_none, is_some, ◌&&◌, ◌==◌, nat_lt}
use Rattle.std.specs.List.{range_with_len}
use Rattle.std.proofs.lemmas.Bool.{cases_eq, and_parts, and_right, lt-ltb, le-ltb}
use Rattle.std.proofs.lemmas.List.Sums.{sum_by-cons}
use Rattle.flow_core_laws.specs.declared.plan.Piece.{Piece}
use Rattle.flow_core_concurrent.specs.declared.view.FrameRun.{FrameRun}
use Rattle.flow_core_concurrent.specs.Counted.{one, is_run_of, is_past, has_stored, counted, counted_at, underway_at, lacks_cell, lacking}
use Rattle.flow_core_concurrent.proofs.Sums.{count_by-sole, count_by-written}
use Rattle.flow_core_concurrent.proofs.Runs.{is_past-earlier, same_frame, run_there, running_is_taken, runs_alone}
use Rattle.flow_core_laws.specs.Plans.{plan_element, frame_at, held_at, cell_source}
use Rattle.flow_core_laws.specs.IsSound.{IsSound, HasCell}
use Rattle.flow_core_laws.proofs.Sources.{piece_at-covered}
use Rattle.flow_core_laws.specs.declared.elem.Elem.{Elem}
use Rattle.flow_core_concurrent.specs.declared.known.Known.{Known}
use Rattle.flow_core_concurrent.specs.declared.view.View.{View}
use Rattle.flow_core_concurrent.specs.Words.{word_at, amount, has_ended}
use Rattle.flow_core_concurrent.specs.States.{CoreState, runs_of}
use Rattle.flow_core_concurrent.specs.Steps.{StandsAt, CanRead}
use Rattle.flow_core_concurrent.specs.IsGood.{IsGood}
use Rattle.flow_core_concurrent.proofs.Counts.{counted-is, counted_at-is, underway_at-is, underway-is}

-- where no number of a stretch passes, each fails
none_passes : (p : ℕ → Bool) (from n : ℕ) → count_by p (range_with_len from n) ≡ 0 → (c : ℕ) → from ≤ c → c < from + n → p c ≡ false
none_passes p from zero none c low high = absurd (omega arith)
none_passes p from (suc n) none c low high = by (cases_eq c from) (λ h. none_passes p (from + 1) n (omega (arith, parts)) c (omega arith) (omega arith))
  where
    parts : one (p from) + count_by p (range_with_len (from + 1) n) ≡ 0
    parts = sym (sum_by-cons (λ k. one (p k)) from (range_with_len (from + 1) n)) ∙ none

    is_false : (b : Bool) → one b ≡ 0 → b ≡ false
    is_false true h = absurd (omega arith)
    is_false false h = refl

    by : (c ≡ from) ⊎ (c ≢ from) → (c ≢ from → p c ≡ false) → p c ≡ false
    by (inl e) later = ap p e ∙ is_false (p from) (omega (arith, parts))
    by (inr n') later = later n'

-- a cell that isn't missed was filled at opening, or its piece counts
not_missed : (o : Option Elem) (n : ℕ) → (is_none o && n == 0) ≡ false → 1 ≤ one (is_some o) + n
not_missed None zero h = absurd (cc)
not_missed None (suc n) h = omega arith
not_missed (Some v) n h = omega arith

-- where a frame misses nothing, each of its cells was filled at opening or its piece counts
pub full_cell : (known : Known) (s : CoreState) (f c : ℕ) → IsGood known s → f ≤ length known.plan.frames → amount (word_at s.words f) ≡ 0 → HasCell known.plan f c → 1 ≤ one (is_some (held_at known.plan.filled c)) + counted_at known.plan s.words (runs_of s) c
full_cell known s f c g le none has =
    let l : lacking known.plan s.words (runs_of s) f ≡ 0 = sym (g.words_count f le) ∙ none in
    not_missed (held_at known.plan.filled c) (counted_at known.plan s.words (runs_of s) c) (none_passes (lacks_cell known.plan s.words (runs_of s)) (frame_at known.plan f).cell (frame_at known.plan f).inputs l c has.0 has.1)

-- so it holds the meaning's element
pub full_value : (known : Known) (s : CoreState) (f c : ℕ) → IsGood known s → f ≤ length known.plan.frames → amount (word_at s.words f) ≡ 0 → HasCell known.plan f c → (value : Elem) × (held_at s.cells c ≡ Some value) × (plan_element known.plan known.meaning (cell_source known.plan c) ≡ Some value)
full_value known s f c g le none has = by (held_at s.cells c) refl
  where
    by : (o : Option Elem) → held_at s.cells c ≡ o → (value : Elem) × (held_at s.cells c ≡ Some value) × (plan_element known.plan known.meaning (cell_source known.plan c) ≡ Some value)
    by (Some value) e = (value, e, g.cells_hold_the_meaning c value e)
    by None e =
        let a = full_cell known s f c g le none has in
        let b = g.cells_are_filled_once c in
        let z : one (is_some (held_at s.cells c)) ≡ 0 = ap (λ o. one (is_some o)) e in
        absurd (omega (arith, a, b, z))

-- and just one of the two holds
pub full_once : (known : Known) (s : CoreState) (f c : ℕ) → IsGood known s → f ≤ length known.plan.frames → amount (word_at s.words f) ≡ 0 → HasCell known.plan f c → one (is_some (held_at known.plan.filled c)) + counted_at known.plan s.words (runs_of s) c ≡ 1
full_once known s f c g le none has =
    let a = full_cell known s f c g le none has in
    let b = g.cells_are_filled_once c in
    let m = at_most (is_some (held_at s.cells c)) in
    omega (arith, a, b, m)
  where
    at_most : (b : Bool) → one b ≤ 1
    at_most true = omega arith
    at_most false = omega arith

-- what a READ gives
pub reads : (known : Known) (s : CoreState) (i : ℕ) (v : View) (r : FrameRun) (c : ℕ) → IsGood known s → CanRead known s i v r c → (value : Elem) × (held_at s.cells c ≡ Some value) × (plan_element known.plan known.meaning (cell_source known.plan c) ≡ Some value)
reads known s i v r c g can =
    let sees = can.is_seat.sees in
    let place = (g.views_are_sound i v sees).runs_at_a_place r can.runs in
    full_value known s r.frame c g (let lt = place.of_a_frame in omega (arith, lt)) (ap amount (running_is_taken known s i v r g sees can.runs)) can.is_its_cell

-- A piece at which a seat stands doesn't count yet, and its stored elements are those of that seat.
module _ (known : Known) (s : CoreState) (i : ℕ) (v : View) (r : FrameRun) (p : Piece) (g : IsGood known s) (sees : slice_get s.seats i ≡ Some v) (runs : v.run ≡ Some r) (stands : StandsAt known.plan r p) where
  there : slice_get (runs_of s) i ≡ Some (Some r)
  there = run_there s i v r sees runs

  alone : count_by (is_run_of p.from) (runs_of s) ≡ 1
  alone = ap (λ f. count_by (is_run_of f) (runs_of s)) stands.is_its_own ∙ runs_alone known s i v r g sees runs

  runs_it : is_run_of p.from (Some r) ≡ true
  runs_it = ap (λ f. r.frame == f) stands.is_its_own ∙ same_frame r.frame

  past_runs : (q : ℕ) (x : Option FrameRun) → is_past p.from q x ≡ true → is_run_of p.from x ≡ true
  past_runs q None h = h
  past_runs q (Some x) h = (and_parts (x.frame == p.from) (nat_lt q x.piece) h).0

  stored_runs : (q k : ℕ) (x : Option FrameRun) → has_stored p.from q k x ≡ true → is_run_of p.from x ≡ true
  stored_runs q k None h = h
  stored_runs q k (Some x) h = (and_parts (x.frame == p.from) (x.piece == q) (and_parts (x.frame == p.from && x.piece == q) (nat_lt k x.stored) h).0).0

  pub not_counted : counted known.plan s.words (runs_of s) r.piece ≡ 0
  not_counted =
      let a = counted-is known.plan s.words (runs_of s) r.piece p stands.has_number in
      let b : one (has_ended (word_at s.words p.from)) ≡ 0 = ap (λ f. one (has_ended (word_at s.words f))) stands.is_its_own ∙ ap (λ w. one (has_ended w)) (running_is_taken known s i v r g sees runs) in
      let c = count_by-sole (is_past p.from r.piece) (is_run_of p.from) (runs_of s) i (Some r) (past_runs r.piece) there runs_it alone in
      let d : one (is_past p.from r.piece (Some r)) ≡ 0 = ap one (is_past-earlier r p.from r.piece (omega arith)) in
      omega (arith, a, b, c, d)

  pub stored_alone : (k : ℕ) → count_by (has_stored p.from r.piece k) (runs_of s) ≡ one (nat_lt k r.stored)
  stored_alone k =
      count_by-sole (has_stored p.from r.piece k) (is_run_of p.from) (runs_of s) i (Some r) (stored_runs r.piece k) there runs_it alone
      ∙ ap (λ b. one (b && r.piece == r.piece && nat_lt k r.stored)) runs_it
      ∙ ap (λ b. one (b && nat_lt k r.stored)) (same_frame r.piece)

  -- one more element
  pub stored_next : count_by (has_stored p.from r.piece r.stored) (set (runs_of s) i (Some (record r { stored = r.stored + 1 }))) ≡ 1
  stored_next =
      let a = count_by-written (has_stored p.from r.piece r.stored) (runs_of s) i (Some r) (Some (record r { stored = r.stored + 1 })) there in
      let b : count_by (has_stored p.from r.piece r.stored) (runs_of s) ≡ 0 = stored_alone r.stored ∙ ap one (le-ltb r.stored r.stored (omega arith)) in
      let d : one (has_stored p.from r.piece r.stored (Some r)) ≡ 0 = ap one (and_right (r.frame == p.from && r.piece == r.piece) (nat_lt r.stored r.stored) (le-ltb r.stored r.stored (omega arith))) in
      let e : one (has_stored p.from r.piece r.stored (Some (record r { stored = r.stored + 1 }))) ≡ 1 = ap (λ b. one (b && r.piece == r.piece && nat_lt r.stored (r.stored + 1))) runs_it ∙ ap (λ b. one (b && nat_lt r.stored (r.stored + 1))) (same_frame r.piece) ∙ ap one (lt-ltb r.stored (r.stored + 1) (omega arith)) in
      omega (arith, a, b, d, e)

  -- the cells of that piece
  pub filled_at : (sound : IsSound known.plan) (k : ℕ) → k < p.count → one (is_some (held_at s.cells (p.at + k))) ≡ one (nat_lt k r.stored)
  filled_at sound k lt =
      let q = r.piece in
      let c : ℕ = p.at + k in
      let here = piece_at-covered known.plan q c p sound stands.has_number (omega arith) (omega (arith, lt)) in
      let empty : one (is_some (held_at known.plan.filled c)) ≡ 0 = ap (λ o. one (is_some o)) (sound.pieces_spare_the_filled q c (p, stands.has_number, omega arith, omega (arith, lt))) in
      let a = g.cells_are_filled_once c in
      let b : counted_at known.plan s.words (runs_of s) c ≡ 0 = counted_at-is known.plan s.words (runs_of s) c q here ∙ not_counted in
      let e : underway_at known.plan (runs_of s) c ≡ count_by (has_stored p.from q k) (runs_of s) = underway_at-is known.plan (runs_of s) c q here ∙ underway-is known.plan (runs_of s) c q p stands.has_number ∙ ap (λ n. count_by (has_stored p.from q n) (runs_of s)) (let z : p.at + k - p.at ≡ k = omega arith in z) in
      let d = stored_alone k in
      omega (arith, empty, a, b, e, d)

  -- a STORE finds its cell empty
  pub next_is_empty : (sound : IsSound known.plan) → r.stored < p.count → held_at s.cells (p.at + r.stored) ≡ None
  next_is_empty sound lt = by (held_at s.cells (p.at + r.stored)) refl
    where
      by : (o : Option Elem) → held_at s.cells (p.at + r.stored) ≡ o → held_at s.cells (p.at + r.stored) ≡ None
      by None e = e
      by (Some x) e =
          let a = filled_at sound r.stored lt in
          let b : one (is_some (held_at s.cells (p.at + r.stored))) ≡ 1 = ap (λ o. one (is_some o)) e in
          let c : one (nat_lt r.stored r.stored) ≡ 0 = ap one (le-ltb r.stored r.stored (omega arith)) in
          absurd (omega (arith, a, b, c))
