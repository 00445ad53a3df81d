-- Nothing is left out once the last seat has looked at every frame.
use Rattle.std.proofs.Common.{[], ◌≡◌, ℕ, zero, suc, ◌+◌, ◌-◌, ◌<◌, ◌≤◌, ◌≢◌, ℤ, true, false, List, Option, Some, None, map, length, refl, sym, ap, ◌∙◌, ◌⊎◌, inl, inr, arith, count_by, ◌*◌, ◌/◌, ◌%◌, Bool, ◌∷◌}
use Rattle.std.specs.Prelude.{slice_get, is_none, is_some, ◌==◌, ◌&&◌, option_and_then}
use Rattle.std.specs.Option.{option_map, option_map_or}
use Rattle.std.specs.List.{range_with_len}
use Rattle.std.proofs.lemmas.Bool.{cases_eq, cases_lt, ne_eqb}
use Rattle.std.proofs.lemmas.Option.{slice_get-map, same_Some}
use Rattle.flow_core_laws.specs.declared.plan.Piece.{Piece}
use Rattle.flow_core_laws.specs.Outcome.{outcome_at, State}
use Rattle.flow_core_laws.specs.Round.{gathered, inputs_in}
use Rattle.flow_core_laws.proofs.Counting.{passing-none}
use Rattle.flow_core_laws.proofs.Gathering.{gathered-cons}
use Rattle.flow_core_laws.proofs.Rounds.{Extends, IsClosed, passes_from_closed}
use Rattle.flow_core_concurrent.specs.declared.view.FrameRun.{FrameRun}
use Rattle.flow_core_concurrent.specs.Counted.{one, is_run_of, is_past, counted_at, lacks_cell, lacking}
use Rattle.flow_core_concurrent.proofs.Words.{one_is_false, full_waits}
use Rattle.flow_core_laws.specs.declared.outcome.Outcome.{Outcome}
use Rattle.flow_core_laws.specs.declared.plan.Plan.{Plan}
use Rattle.flow_core_laws.specs.Element.{Source, initial, fed, nobody, output_at, element_written}
use Rattle.flow_core_laws.specs.Plans.{plan_element, frame_at, held_at, piece_at, piece_source, cell_source, plan_reads, plan_meaning, number_at}
use Rattle.flow_core_laws.specs.IsSound.{IsSound}
use Rattle.flow_core_laws.proofs.Sources.{fed-covered, piece_at-covered}
use Rattle.flow_core_laws.specs.declared.elem.Elem.{Elem}
use Rattle.flow_core_laws.specs.Poisoning.{poisoning}
use Rattle.flow_core_concurrent.specs.declared.known.Known.{Known}
use Rattle.flow_core_concurrent.specs.declared.view.View.{View}
use Rattle.flow_core_concurrent.specs.declared.word.Word.{Word}
use Rattle.flow_core_concurrent.specs.declared.word.Word.TheVariants.{Wait, Open, Taken, Ended}
use Rattle.flow_core_concurrent.specs.Words.{word_at, waits, is_open, is_taken, has_ended, end_in}
use Rattle.flow_core_concurrent.specs.States.{CoreState, runs_of}
use Rattle.flow_core_concurrent.specs.Steps.{end_of}
use Rattle.flow_core_concurrent.specs.IsGood.{IsGood, IsLast}
use Rattle.flow_core_concurrent.specs.Laws.{IsMeant, IsComplete}
use Rattle.flow_core_concurrent.proofs.Counts.{counted-is, counted_at-is}
use Rattle.flow_core_concurrent.proofs.Parts.{run_at}
use Rattle.flow_core_concurrent.proofs.Subs.{last_is_only}
use Rattle.std.proofs.lemmas.List.Sums.{sum_by-cons}
use Rattle.std.proofs.lemmas.Nat.{mod-mul-add, div-add-mod', mod_below}

-- no run at all
pub none_pass : {X : Type 0} (p : X → Bool) (xs : List X) → ((i : ℕ) (x : X) → slice_get xs i ≡ Some x → p x ≡ false) → count_by p xs ≡ 0
none_pass p [] none = refl
none_pass p (x ∷ xs) none =
    let a = sum_by-cons (λ y. one (p y)) x xs in
    let b : one (p x) ≡ 0 = ap one (none 0 x refl) in
    let r : count_by p xs ≡ 0 = none_pass p xs (λ i y h. none (suc i) y h) in
    omega (arith, a, b, r)

-- as many numbers in a row as there are remainders meet each of them
pub turn : (looks n f : ℕ) → f < n → n ≤ looks → (j : ℕ) × (1 ≤ j) × (j ≤ looks) × (j ≤ n) × ((looks - j) % n ≡ f)
turn looks n f lt le =
    let m : ℕ = looks - 1 - f in
    let k : ℕ = m / n * n in
    let a : k + m % n ≡ m = div-add-mod' m n in
    let b : m % n < n = mod_below m n (omega arith) in
    let j : ℕ = m % n + 1 in
    (j, omega arith, omega (arith, a), omega (arith, b), (let e : looks - j ≡ k + f = omega (arith, a, lt, le) in ap (λ x. x % n) e ∙ mod-mul-add (m / n) n f lt))

-- a cell that held something at opening is initial
pub source_initial : (plan : Plan) (c : ℕ) (x : Elem) → cell_source plan c ≡ initial x → held_at plan.filled c ≡ Some x
unfolding cell_source
source_initial plan c x h = by (held_at plan.filled c) refl h
  where
    unfed : (n : Option ℕ) → option_map_or (λ (p : Piece). fed p.from (p.first + (c - p.at))) (option_and_then (λ number. slice_get plan.pieces number) n) nobody ≡ initial x → ⊥
    unfed None e = cc
    unfed (Some n) e = in_pieces (slice_get plan.pieces n) e
      where
        in_pieces : (o : Option Piece) → option_map_or (λ (p : Piece). fed p.from (p.first + (c - p.at))) o nobody ≡ initial x → ⊥
        in_pieces None e = cc
        in_pieces (Some p) e = cc

    by : (o : Option Elem) → held_at plan.filled c ≡ o → option_map_or initial o (piece_source plan c) ≡ initial x → held_at plan.filled c ≡ Some x
    by None e h = absurd (unfed (piece_at plan c) h)
    by (Some y) e h = e ∙ ap Some (let z : initial y ≡ initial x = h in let w : y ≡ x = cc in w)

-- an output element is there only of a frame that has an outcome
output_has_outcome : (plan : Plan) (t : State) (f k : ℕ) (x : Elem) → output_at (number_at plan) t f k ≡ Some x → (o : Outcome) × (outcome_at t f ≡ Some o)
output_has_outcome plan t f k x h = by (outcome_at t f) refl
  where
    by : (p : Option Outcome) → outcome_at t f ≡ p → (o : Outcome) × (outcome_at t f ≡ Some o)
    by None e = let z : ◌≡◌ {A = Option Elem} None (Some x) = sym (ap (option_and_then (λ (o : Outcome). element_written (number_at plan f) o k)) e) ∙ h in absurd (cc)
    by (Some o) e = (o, e)

-- Where the frames with an outcome in a state have ended, the elements that are there in it were initial at
-- opening or came with a piece that counts.
pub there_counts : (known : Known) (s : CoreState) (t : State) (c : ℕ) (x : Elem) → IsSound known.plan → IsGood known s → ((f : ℕ) (o : Outcome) → outcome_at t f ≡ Some o → has_ended (word_at s.words f) ≡ true) → plan_element known.plan t (cell_source known.plan c) ≡ Some x → 1 ≤ one (is_some (held_at known.plan.filled c)) + counted_at known.plan s.words (runs_of s) c
there_counts known s t c x sound g ended h = by (cell_source known.plan c) refl h
  where
    by : (source : Source) → cell_source known.plan c ≡ source → plan_element known.plan t source ≡ Some x → 1 ≤ one (is_some (held_at known.plan.filled c)) + counted_at known.plan s.words (runs_of s) c
    by (initial y) e h = let a : one (is_some (held_at known.plan.filled c)) ≡ 1 = ap (λ o. one (is_some o)) (source_initial known.plan c y e) in omega (arith, a)
    by nobody e h = absurd (cc)
    by (fed f k) e h =
        let (o, there) = output_has_outcome known.plan t f k x h in
        let (q, p, number, low, high, from, _) = fed-covered known.plan c f k e in
        let a : counted_at known.plan s.words (runs_of s) c ≡ one (has_ended (word_at s.words p.from)) + count_by (is_past p.from q) (runs_of s) = counted_at-is known.plan s.words (runs_of s) c q (piece_at-covered known.plan q c p sound number low high) ∙ counted-is known.plan s.words (runs_of s) q p number in
        let b : one (has_ended (word_at s.words p.from)) ≡ 1 = ap (λ k. one (has_ended (word_at s.words k))) from ∙ ap one (ended f o there) in
        omega (arith, a, b)

-- each element of a stretch that is gathered is there
pub gathered_each : (t : Source → Option Elem) (source : ℕ → Source) (from n : ℕ) (vs : List Elem) → gathered (map t (map source (range_with_len from n))) ≡ Some vs → (c : ℕ) → from ≤ c → c < from + n → (x : Elem) × (t (source c) ≡ Some x)
gathered_each t source from zero vs h c low high = absurd (omega arith)
gathered_each t source from (suc n) vs h c low high =
    let (v, ws, at_from, rest, is) = gathered-cons (t (source from)) (map t (map source (range_with_len (from + 1) n))) vs h in
    by v at_from (cases_eq c from) (λ other. gathered_each t source (from + 1) n ws rest c (omega arith) (omega arith))
  where
    by : (v : Elem) → t (source from) ≡ Some v → (c ≡ from) ⊎ (c ≢ from) → (c ≢ from → (x : Elem) × (t (source c) ≡ Some x)) → (x : Elem) × (t (source c) ≡ Some x)
    by v at_from (inl e) later = (v, ap (λ k. t (source k)) e ∙ at_from)
    by v at_from (inr n) later = later n

module _ (known : Known) (outcome : ℕ → List ℤ → Outcome) (s : CoreState) (i : ℕ) (v : View) (sound : IsSound known.plan) (is_meant : IsMeant known outcome) (g : IsGood known s) (sees : slice_get s.seats i ≡ Some v) (last : IsLast known v) (runs_nothing : v.run ≡ None) (looked : length known.plan.frames ≤ v.looks) where
  -- nobody runs
  idle : (j : ℕ) (x : Option FrameRun) → slice_get (runs_of s) j ≡ Some x → x ≡ None
  idle j x h = by (slice_get s.seats j) refl
    where
      shares_elsewhere : (u : View) → slice_get s.seats j ≡ Some u → j ≢ i → u.run ≡ None
      shares_elsewhere u there n = decide (cases_lt 0 u.shares)
        where
          decide : (0 < u.shares) ⊎ (u.shares ≤ 0) → u.run ≡ None
          decide (inl some) = absurd (last_is_only known s j i u v g there (omega arith) (λ e. n (sym e)) sees last)
          decide (inr none) = ap (λ (v : View). v.run) ((g.views_are_sound j u there).spent_is_empty (omega arith))

      at : (u : View) → slice_get s.seats j ≡ Some u → (j ≡ i) ⊎ (j ≢ i) → u.run ≡ None
      at u there (inl e) = ap (λ (v : View). v.run) (same_Some u v (sym there ∙ ap (slice_get s.seats) e ∙ sees)) ∙ runs_nothing
      at u there (inr n) = shares_elsewhere u there n

      by : (o : Option View) → slice_get s.seats j ≡ o → x ≡ None
      by None e = let z : None ≡ Some x = sym (slice_get-map (λ (v : View). v.run) s.seats j ∙ ap (option_map (λ (v : View). v.run)) e) ∙ h in absurd (cc)
      by (Some u) e = same_Some x u.run (sym h ∙ run_at s.seats j u e) ∙ at u e (cases_eq j i)

  untaken : (f : ℕ) → is_taken (word_at s.words f) ≡ false
  untaken f = one_is_false (is_taken (word_at s.words f)) (sym (g.taken_is_run_by_one f) ∙ none_pass (is_run_of f) (runs_of s) (λ j x h. ap (is_run_of f) (idle j x h)))

  unopen : (f : ℕ) → f < length known.plan.frames → is_open (word_at s.words f) ≡ false
  unopen f lt =
      let (j, low, high, below, is) = turn v.looks (length known.plan.frames) f lt looked in
      sym (ap (λ k. is_open (word_at s.words k)) is) ∙ g.looks_found_none_open i j v sees last low high below

  -- what neither waits nor is Open nor runs has ended
  has_end : (w : Word) → waits w ≡ false → is_open w ≡ false → is_taken w ≡ false → is_some (end_in w) ≡ true
  has_end (Wait n) h o t = absurd (cc)
  has_end Open h o t = absurd (cc)
  has_end Taken h o t = absurd (cc)
  has_end (Ended e) h o t = refl

  ended_has : (w : Word) → is_some (end_in w) ≡ true → has_ended w ≡ true
  ended_has (Wait n) h = absurd (cc)
  ended_has Open h = absurd (cc)
  ended_has Taken h = absurd (cc)
  ended_has (Ended e) h = refl

  closed : IsClosed (plan_element known.plan) (plan_reads known.plan) (poisoning outcome) (length known.plan.frames) (λ f. is_some (end_in (word_at s.words f)))
  closed = record { passes = λ t extends earlier f vs lt inputs. passes t extends earlier f vs lt inputs }
    where
      passes : (t : State) → Extends t (plan_meaning known.plan outcome) → ((f : ℕ) (o : Outcome) → outcome_at t f ≡ Some o → is_some (end_in (word_at s.words f)) ≡ true) → (f : ℕ) (vs : List Elem) → f < length known.plan.frames → inputs_in (plan_element known.plan) (plan_reads known.plan) t f ≡ Some vs → is_some (end_in (word_at s.words f)) ≡ true
      passes t extends earlier f vs lt inputs = has_end (word_at s.words f) full (unopen f lt) (untaken f)
        where
          delivered : (h : ℕ) (o : Outcome) → outcome_at t h ≡ Some o → has_ended (word_at s.words h) ≡ true
          delivered h o there = ended_has (word_at s.words h) (earlier h o there)

          not_missed : (o : Option Elem) (n : ℕ) → 1 ≤ one (is_some o) + n → (is_none o && n == 0) ≡ false
          not_missed (Some x) n h = refl
          not_missed None n h = ne_eqb n 0 (λ e. let z : 1 ≤ 0 + n = h in omega (arith, e, z))

          none : lacking known.plan s.words (runs_of s) f ≡ 0
          none = passing-none (lacks_cell known.plan s.words (runs_of s)) (frame_at known.plan f).cell (frame_at known.plan f).inputs (λ c low high.
              let (x, there) = gathered_each (plan_element known.plan t) (cell_source known.plan) (frame_at known.plan f).cell (frame_at known.plan f).inputs vs inputs c low high in
              not_missed (held_at known.plan.filled c) (counted_at known.plan s.words (runs_of s) c) (there_counts known s t c x sound g delivered there))

          full : waits (word_at s.words f) ≡ false
          full = full_waits (word_at s.words f) (g.waits_for_some f) (g.words_count f (omega (arith, lt)) ∙ none)

  -- each frame with an outcome has ended
  ended : (f : ℕ) (o : Outcome) → outcome_at known.meaning f ≡ Some o → is_some (end_in (word_at s.words f)) ≡ true
  ended f o h = passes_from_closed (plan_element known.plan) (plan_reads known.plan) (poisoning outcome) (length known.plan.frames) (λ f. is_some (end_in (word_at s.words f))) closed f o (sym (ap (λ m. outcome_at m f) is_meant) ∙ h)

  pub complete : IsComplete known s
  complete = record { ends = λ f lt. ends f (word_at s.words f) refl; cells = λ c. cells c (held_at s.cells c) refl }
    where
      none_there : (f : ℕ) → is_some (end_in (word_at s.words f)) ≡ false → (p : Option Outcome) → outcome_at known.meaning f ≡ p → None ≡ end_of known f
      none_there f without None e = sym (ap (option_map (λ (o : Outcome). o.end)) e)
      none_there f without (Some o) e = let z : false ≡ true = sym without ∙ ended f o e in absurd (cc)

      ends : (f : ℕ) (w : Word) → word_at s.words f ≡ w → end_in (word_at s.words f) ≡ end_of known f
      ends f (Ended end) e = ap end_in e ∙ sym (g.ends_are_meant f end e)
      ends f (Wait n) e = ap end_in e ∙ none_there f (ap (λ w. is_some (end_in w)) e) (outcome_at known.meaning f) refl
      ends f Open e = ap end_in e ∙ none_there f (ap (λ w. is_some (end_in w)) e) (outcome_at known.meaning f) refl
      ends f Taken e = ap end_in e ∙ none_there f (ap (λ w. is_some (end_in w)) e) (outcome_at known.meaning f) refl

      empty : (c : ℕ) → held_at s.cells c ≡ None → (x : Option Elem) → plan_element known.plan known.meaning (cell_source known.plan c) ≡ x → None ≡ plan_element known.plan known.meaning (cell_source known.plan c)
      empty c e None h = sym h
      empty c e (Some x) h =
          let a = there_counts known s known.meaning c x sound g (λ f o there. ended_has (word_at s.words f) (ended f o there)) h in
          let b = g.cells_are_filled_once c in
          let z : one (is_some (held_at s.cells c)) ≡ 0 = ap (λ o. one (is_some o)) e in
          absurd (omega (arith, a, b, z))

      cells : (c : ℕ) (o : Option Elem) → held_at s.cells c ≡ o → held_at s.cells c ≡ plan_element known.plan known.meaning (cell_source known.plan c)
      cells c (Some x) e = e ∙ sym (g.cells_hold_the_meaning c x e)
      cells c None e = e ∙ empty c e (plan_element known.plan known.meaning (cell_source known.plan c)) refl
