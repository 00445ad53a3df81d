-- A SUB finds at least its count, and keeps a state good.
use Rattle.std.proofs.Common.{◌≡◌, ℕ, ◌+◌, ◌-◌, ◌%◌, ◌<◌, ◌≤◌, ◌≢◌, Bool, true, false, List, [], ◌∷◌, ◌++◌, Option, Some, None, length, set, refl, sym, ap, ◌∙◌, subst, ◌⊎◌, inl, inr, arith, count_by, eq-eqb}
use Rattle.std.specs.Prelude.{slice_get, is_none, not, ◌==◌, ◌&&◌, nat_lt, if◌then◌else◌, IsSome}
use Rattle.std.proofs.lemmas.Bool.{cases_eq, cases_lt, lt-ltb, le-ltb, ne_eqb, and_left, and_right}
use Rattle.std.proofs.lemmas.List.{length-set}
use Rattle.std.proofs.lemmas.Option.{same_Some}
use Rattle.flow_core_laws.specs.declared.plan.Piece.{Piece}
use Rattle.flow_core_laws.proofs.Counting.{passing-same, passing-lowered}
use Rattle.flow_core_concurrent.specs.declared.view.FrameRun.{FrameRun}
use Rattle.flow_core_concurrent.specs.States.{times, CoreState, fresh, runs_of}
use Rattle.flow_core_concurrent.specs.Counted.{one, is_run_of, is_past, has_stored, counted, underway, counted_at, underway_at, lacks_cell, lacking}
use Rattle.flow_core_concurrent.proofs.Sums.{each_set, sum_by-written, sum_by-kept, sum_by-has, count_by-written, count_by-kept, at_other, option_map_or-same}
use Rattle.flow_core_concurrent.proofs.Looks.{times_push}
use Rattle.flow_core_concurrent.proofs.Runs.{same_frame, is_past-later, is_past-earlier, has_stored-none, run_there}
use Rattle.flow_core_laws.specs.declared.task_end.TaskEnd.{TaskEnd}
use Rattle.flow_core_laws.specs.Plans.{frame_at, held_at, piece_at}
use Rattle.flow_core_laws.specs.IsSound.{IsSound, IsSoundPiece}
use Rattle.flow_core_laws.proofs.Sources.{piece_at-covered}
use Rattle.flow_core_concurrent.specs.declared.known.Known.{Known}
use Rattle.flow_core_concurrent.specs.declared.view.View.{View}
use Rattle.flow_core_concurrent.specs.declared.word.Word.{Word}
use Rattle.flow_core_concurrent.specs.declared.word.Word.TheVariants.{Wait, Ended}
use Rattle.flow_core_concurrent.specs.Words.{word_at, opening_words, amount, waits, is_open, is_taken, is_started, has_ended, waits_for, lowered}
use Rattle.flow_core_concurrent.specs.Steps.{end_of, CanSub, with_sub, after_sub}
use Rattle.flow_core_concurrent.specs.IsGood.{IsGood, IsRunPlace, IsLast}
use Rattle.flow_core_concurrent.proofs.Words.{word_at-set, word_at-kept, wait_is}
use Rattle.flow_core_concurrent.proofs.Counts.{counted-is, counted_at-is, underway_at-is, underway-is, piece_is, piece_of_frame, piece_cells}
use Rattle.flow_core_concurrent.proofs.Parts.{Flows, Sits, Books, sits_of, books_of, good_from, runs-set}
use Rattle.flow_core_concurrent.proofs.Moves.{set_waits_for_some}
use Rattle.flow_core_concurrent.proofs.Opening.{opening_at, opening_amount, lacking_at_most}
use Rattle.flow_core_concurrent.proofs.Cells.{not_counted, stored_alone}
use Rattle.flow_core_concurrent.proofs.Lowered.{amount-lowered, waits-lowered, is_open-lowered, is_started-lowered, is_taken-lowered, has_ended-lowered, lowered_waits_for_some}

-- where a seat has all shares no other one has any
pub last_is_only : (known : Known) (s : CoreState) (i j : ℕ) (v u : View) → IsGood known s → slice_get s.seats i ≡ Some v → 1 ≤ v.shares → j ≢ i → slice_get s.seats j ≡ Some u → IsLast known u → ⊥
last_is_only known s i j v u g sees positive other there last =
    let a = sum_by-written (λ (v : View). v.shares) s.seats i v (fresh known 0) sees in
    let b = sum_by-has (λ (v : View). v.shares) (set s.seats i (fresh known 0)) j u (at_other s.seats i j (fresh known 0) other ∙ there) in
    let c = g.shares_are_all in
    omega (arith, a, b, c, positive, last)

-- where a run goes on to the next piece, it is past the one that it left
past_next : (r : FrameRun) (from q : ℕ) → q ≢ r.piece → is_past from q (Some (record { frame = r.frame; piece = r.piece + 1; stored = 0 })) ≡ is_past from q (Some r)
past_next r from q n = ap (λ b. r.frame == from && b) (within (cases_lt q r.piece))
  where
    within : (q < r.piece) ⊎ (r.piece ≤ q) → nat_lt q (r.piece + 1) ≡ nat_lt q r.piece
    within (inl lt) = lt-ltb q (r.piece + 1) (omega (arith, lt)) ∙ sym (lt-ltb q r.piece lt)
    within (inr ge) = le-ltb q (r.piece + 1) (omega (arith, ge, n)) ∙ sym (le-ltb q r.piece ge)

stored_other : (r : FrameRun) (from q k : ℕ) → r.piece ≢ q → has_stored from q k (Some r) ≡ false
stored_other r from q k n = and_left (r.frame == from && r.piece == q) (nat_lt k r.stored) (and_right (r.frame == from) (r.piece == q) (ne_eqb r.piece q n))

module _ (known : Known) (s : CoreState) (i : ℕ) (v : View) (r : FrameRun) (p : Piece) (sound : IsSound known.plan) (g : IsGood known s) (can : CanSub known s i v r p) where
  abbrev next : FrameRun
  next = record { frame = r.frame; piece = r.piece + 1; stored = 0 }

  abbrev word : Word
  word = word_at s.words p.to

  abbrev words' : List Word
  words' = set s.words p.to (lowered p.count (word_at s.words p.to))

  abbrev runs' : List (Option FrameRun)
  runs' = set (runs_of s) i (Some (record { frame = r.frame; piece = r.piece + 1; stored = 0 }))

  sees : slice_get s.seats i ≡ Some v
  sees = can.is_seat.sees

  number : slice_get known.plan.pieces r.piece ≡ Some p
  number = can.stands.has_number

  fits : IsSoundPiece known.plan p
  fits = sound.pieces_are_sound r.piece p number

  there : slice_get (runs_of s) i ≡ Some (Some r)
  there = run_there s i v r sees can.runs

  place : IsRunPlace known.plan r
  place = (g.views_are_sound i v sees).runs_at_a_place r can.runs

  exists : p.to < length s.words
  exists = let a = g.words_of_plan in let b = fits.goes_to_a_frame in omega (arith, a, b)

  -- the cells of the piece
  here : (c : ℕ) → p.at ≤ c → c < p.at + p.count → piece_at known.plan c ≡ Some r.piece
  here c low high = piece_at-covered known.plan r.piece c p sound number low high

  inside : (c : ℕ) → piece_at known.plan c ≡ Some r.piece → (p.at ≤ c) × (c < p.at + p.count)
  inside c e =
      let (p', at_q, low, high) = piece_is known.plan c r.piece e in
      let z : p' ≡ p = same_Some p' p (sym at_q ∙ number) in
      let a : p'.at ≡ p.at = ap (λ (p : Piece). p.at) z in
      let b : p'.count ≡ p.count = ap (λ (p : Piece). p.count) z in
      (omega (arith, a, low), omega (arith, a, b, high))

  delivered : (f : ℕ) → one (has_ended (word_at words' f)) ≡ one (has_ended (word_at s.words f))
  delivered = word_at-kept (λ w. one (has_ended w)) s.words p.to (lowered p.count word) exists (ap one (has_ended-lowered p.count word))

  -- the piece counts once now, and no other one counts otherwise than before
  counted_before : counted known.plan s.words (runs_of s) r.piece ≡ 0
  counted_before = not_counted known s i v r p g sees can.runs can.stands

  counted_now : counted known.plan words' runs' r.piece ≡ 1
  counted_now =
      let a = counted-is known.plan s.words (runs_of s) r.piece p number in
      let b = counted-is known.plan words' runs' r.piece p number in
      let c = delivered p.from in
      let d = count_by-written (is_past p.from r.piece) (runs_of s) i (Some r) (Some next) there in
      let e : one (is_past p.from r.piece (Some r)) ≡ 0 = ap one (is_past-earlier r p.from r.piece (omega arith)) in
      let f : one (is_past p.from r.piece (Some next)) ≡ 1 = ap one (is_past-later next p.from r.piece (sym can.stands.is_its_own) (omega arith)) in
      let z = counted_before in
      omega (arith, a, b, c, d, e, f, z)

  counted_else : (q : ℕ) → q ≢ r.piece → counted known.plan words' runs' q ≡ counted known.plan s.words (runs_of s) q
  counted_else q n = option_map_or-same (λ (p : Piece). one (has_ended (word_at words' p.from)) + count_by (is_past p.from q) runs') (λ (p : Piece). one (has_ended (word_at s.words p.from)) + count_by (is_past p.from q) (runs_of s)) (slice_get known.plan.pieces q) 0
      (λ p' h. let a = delivered p'.from in let b = count_by-kept (is_past p'.from q) (runs_of s) i (Some r) (Some next) there (past_next r p'.from q n) in omega (arith, a, b))

  counted_at_else : (c : ℕ) → piece_at known.plan c ≢ Some r.piece → counted_at known.plan words' runs' c ≡ counted_at known.plan s.words (runs_of s) c
  counted_at_else c n = option_map_or-same (counted known.plan words' runs') (counted known.plan s.words (runs_of s)) (piece_at known.plan c) 0 (λ q h. counted_else q (λ e. n (h ∙ ap Some e)))

  -- none of its elements is stored now where the seat stands, and those of other pieces are as before
  stored_now : (k : ℕ) → count_by (has_stored p.from r.piece k) runs' ≡ 0
  stored_now k =
      let a = count_by-written (has_stored p.from r.piece k) (runs_of s) i (Some r) (Some next) there in
      let b = stored_alone known s i v r p g sees can.runs can.stands k in
      let c : one (has_stored p.from r.piece k (Some r)) ≡ one (nat_lt k r.stored) = ap (λ f. one (r.frame == f && r.piece == r.piece && nat_lt k r.stored)) can.stands.is_its_own ∙ ap (λ b. one (b && r.piece == r.piece && nat_lt k r.stored)) (same_frame r.frame) ∙ ap (λ b. one (b && nat_lt k r.stored)) (same_frame r.piece) in
      let d : one (has_stored p.from r.piece k (Some next)) ≡ 0 = ap one (has_stored-none next p.from r.piece k refl) in
      omega (arith, a, b, c, d)

  stored_at_else : (c : ℕ) → piece_at known.plan c ≢ Some r.piece → underway_at known.plan runs' c ≡ underway_at known.plan (runs_of s) c
  stored_at_else c n = option_map_or-same (underway known.plan runs' c) (underway known.plan (runs_of s) c) (piece_at known.plan c) 0
      (λ q h. option_map_or-same (λ (p : Piece). count_by (has_stored p.from q (c - p.at)) runs') (λ (p : Piece). count_by (has_stored p.from q (c - p.at)) (runs_of s)) (slice_get known.plan.pieces q) 0
      (λ p' at. count_by-kept (has_stored p'.from q (c - p'.at)) (runs_of s) i (Some r) (Some next) there (has_stored-none next p'.from q (c - p'.at) refl ∙ sym (stored_other r p'.from q (c - p'.at) (λ e. n (h ∙ ap Some (sym e)))))))

  -- so a cell is filled as before
  carried : (c : ℕ) → counted_at known.plan words' runs' c + underway_at known.plan runs' c ≡ counted_at known.plan s.words (runs_of s) c + underway_at known.plan (runs_of s) c
  carried c = by (piece_at known.plan c) refl
    where
      at_piece : piece_at known.plan c ≡ Some r.piece → counted_at known.plan words' runs' c + underway_at known.plan runs' c ≡ counted_at known.plan s.words (runs_of s) c + underway_at known.plan (runs_of s) c
      at_piece e =
          let w = inside c e in
          let low = w.0 in
          let high = w.1 in
          let a = counted_at-is known.plan words' runs' c r.piece e in
          let b = counted_at-is known.plan s.words (runs_of s) c r.piece e in
          let x : underway_at known.plan runs' c ≡ 0 = underway_at-is known.plan runs' c r.piece e ∙ underway-is known.plan runs' c r.piece p number ∙ stored_now (c - p.at) in
          let all = can.has_stored_all in
          let y : underway_at known.plan (runs_of s) c ≡ 1 = underway_at-is known.plan (runs_of s) c r.piece e ∙ underway-is known.plan (runs_of s) c r.piece p number ∙ stored_alone known s i v r p g sees can.runs can.stands (c - p.at) ∙ ap one (lt-ltb (c - p.at) r.stored (omega (arith, low, high, all))) in
          let z = counted_now in
          let z' = counted_before in
          omega (arith, a, b, x, y, z, z')

      by : (o : Option ℕ) → piece_at known.plan c ≡ o → counted_at known.plan words' runs' c + underway_at known.plan runs' c ≡ counted_at known.plan s.words (runs_of s) c + underway_at known.plan (runs_of s) c
      by None e = let n : piece_at known.plan c ≢ Some r.piece = (λ h. let z : None ≡ Some r.piece = sym e ∙ h in cc) in let a = counted_at_else c n in let b = stored_at_else c n in omega (arith, a, b)
      by (Some q) e = decide (cases_eq q r.piece)
        where
          decide : (q ≡ r.piece) ⊎ (q ≢ r.piece) → counted_at known.plan words' runs' c + underway_at known.plan runs' c ≡ counted_at known.plan s.words (runs_of s) c + underway_at known.plan (runs_of s) c
          decide (inl same) = at_piece (e ∙ ap Some same)
          decide (inr n') = let n : piece_at known.plan c ≢ Some r.piece = (λ h. n' (same_Some q r.piece (sym e ∙ h))) in let a = counted_at_else c n in let b = stored_at_else c n in omega (arith, a, b)

  -- the frame that the piece goes to misses that many fewer, and the others miss as many as before
  missed_before : (c : ℕ) → p.at ≤ c → c < p.at + p.count → lacks_cell known.plan s.words (runs_of s) c ≡ true
  missed_before c low high =
      let a : counted_at known.plan s.words (runs_of s) c ≡ 0 = counted_at-is known.plan s.words (runs_of s) c r.piece (here c low high) ∙ counted_before in
      ap (λ o. is_none o && counted_at known.plan s.words (runs_of s) c == 0) (sound.pieces_spare_the_filled r.piece c (p, number, low, high)) ∙ ap (λ n. n == 0) a

  missed_now : (c : ℕ) → p.at ≤ c → c < p.at + p.count → lacks_cell known.plan words' runs' c ≡ false
  missed_now c low high =
      let a : counted_at known.plan words' runs' c ≡ 1 = counted_at-is known.plan words' runs' c r.piece (here c low high) ∙ counted_now in
      and_right (is_none (held_at known.plan.filled c)) (counted_at known.plan words' runs' c == 0) (ap (λ n. n == 0) a)

  missed_else : (c : ℕ) → piece_at known.plan c ≢ Some r.piece → lacks_cell known.plan words' runs' c ≡ lacks_cell known.plan s.words (runs_of s) c
  missed_else c n = ap (λ (k : ℕ). is_none (held_at known.plan.filled c) && k == 0) (counted_at_else c n)

  lacks_fewer : lacking known.plan words' runs' p.to + p.count ≡ lacking known.plan s.words (runs_of s) p.to
  lacks_fewer = passing-lowered (lacks_cell known.plan s.words (runs_of s)) (lacks_cell known.plan words' runs') (frame_at known.plan p.to).cell (frame_at known.plan p.to).inputs p.at p.count fits.fills_from_its_cells fits.fills_to_its_cells missed_before missed_now
      (λ c below. missed_else c (λ e. let w = (inside c e).0 in omega (arith, w, below)))
      (λ c above. missed_else c (λ e. let w = (inside c e).1 in omega (arith, w, above)))

  lacks_else : (f : ℕ) → f ≤ length known.plan.frames → f ≢ p.to → lacking known.plan words' runs' f ≡ lacking known.plan s.words (runs_of s) f
  lacks_else f le n = passing-same (lacks_cell known.plan words' runs') (lacks_cell known.plan s.words (runs_of s)) (frame_at known.plan f).cell (frame_at known.plan f).inputs
      (λ c low high. missed_else c (λ e. let w = inside c e in n (sound.cells_are_apart f p.to c le fits.goes_to_a_frame (low, high) (piece_cells known.plan r.piece c p sound number w.0 w.1))))

  counts_words : amount word ≡ lacking known.plan s.words (runs_of s) p.to
  counts_words = g.words_count p.to fits.goes_to_a_frame

  waiting : word ≡ Wait (amount word)
  waiting = wait_is word (let a = lacks_fewer in let b = fits.has_elements in let c = counts_words in omega (arith, a, b, c))

  enough : p.count ≤ amount word
  enough = let a = lacks_fewer in let c = counts_words in omega (arith, a, c)

  pub finds_count : (n : ℕ) × (word_at s.words p.to ≡ Wait n) × (p.count ≤ n)
  finds_count = (amount word, waiting, enough)

  abbrev left : Word
  left = lowered p.count (word_at s.words p.to)

  -- what the word says now
  by_wait : (P : Word → Type 0) → P (lowered p.count (Wait (amount word))) → P left
  by_wait P h = subst (λ w. P (lowered p.count w)) (sym waiting) h

  not_started_before : is_started word ≡ false
  not_started_before = ap is_started waiting

  not_started_now : is_started left ≡ false
  not_started_now = by_wait (λ w. is_started w ≡ false) (is_started-lowered p.count (amount word))

  abbrev opens : Bool
  opens = waits_for p.count (word_at s.words p.to)

  opens_is : opens ≡ (amount word == p.count)
  opens_is = ap (waits_for p.count) waiting

  open_now : is_open left ≡ opens
  open_now = by_wait (λ w. is_open w ≡ (amount word == p.count)) (is_open-lowered p.count (amount word)) ∙ sym opens_is

  waits_now : waits left ≡ not opens
  waits_now = by_wait (λ w. waits w ≡ not (amount word == p.count)) (waits-lowered p.count (amount word)) ∙ ap not (sym opens_is)

  started_same : (f : ℕ) → is_started (word_at words' f) ≡ is_started (word_at s.words f)
  started_same = word_at-kept is_started s.words p.to left exists (not_started_now ∙ sym not_started_before)

  flows : Flows known words' s.cells runs'
  flows = record {
    words_of_plan = length-set s.words p.to left ∙ g.words_of_plan;
    cells_of_plan = g.cells_of_plan;
    hold = g.cells_hold_the_meaning;
    filled = λ c. let a = g.cells_are_filled_once c in let b = carried c in omega (arith, a, b);
    count = λ f le. count f le (word_at-set s.words p.to left f exists);
    wait_for_some = set_waits_for_some s.words p.to left exists g.waits_for_some (by_wait (λ w. w ≢ Wait 0) (lowered_waits_for_some p.count (amount word) enough));
    taken = λ f. count_by-kept (is_run_of f) (runs_of s) i (Some r) (Some next) there refl ∙ g.taken_is_run_by_one f ∙ sym (word_at-kept (λ w. one (is_taken w)) s.words p.to left exists (by_wait (λ w. one (is_taken w) ≡ 0) (ap one (is_taken-lowered p.count (amount word))) ∙ sym (ap (λ w. one (is_taken w)) waiting)) f);
    meant = λ f end e. meant f end e (word_at-set s.words p.to left f exists);
    sink = started_same (length known.plan.frames) ∙ g.sink_is_not_taken;
  }
    where
      count : (f : ℕ) → f ≤ length known.plan.frames → ((f ≡ p.to) × (word_at words' f ≡ left)) ⊎ ((f ≢ p.to) × (word_at words' f ≡ word_at s.words f)) → amount (word_at words' f) ≡ lacking known.plan words' runs' f
      count f le (inl (e, now)) =
          let a : amount (word_at words' f) ≡ amount word - p.count = ap amount now ∙ by_wait (λ w. amount w ≡ amount word - p.count) (amount-lowered p.count (amount word)) in
          let b : lacking known.plan words' runs' f ≡ lacking known.plan words' runs' p.to = ap (lacking known.plan words' runs') e in
          let c = lacks_fewer in
          let d = counts_words in
          omega (arith, a, b, c, d)
      count f le (inr (n, now)) = ap amount now ∙ g.words_count f le ∙ sym (lacks_else f le n)

      meant : (f : ℕ) (end : TaskEnd) → word_at words' f ≡ Ended end → ((f ≡ p.to) × (word_at words' f ≡ left)) ⊎ ((f ≢ p.to) × (word_at words' f ≡ word_at s.words f)) → end_of known f ≡ Some end
      meant f end e (inl (_, now)) = let z : false ≡ true = sym not_started_now ∙ ap is_started (sym now ∙ e) in absurd (cc)
      meant f end e (inr (_, now)) = g.ends_are_meant f end (sym now ∙ e)

  abbrev changed : View
  changed = with_sub v r p.to (waits_for p.count (word_at s.words p.to))

  still_full : (f : ℕ) → waits (word_at s.words f) ≡ false → waits (word_at words' f) ≡ false
  still_full f h = by (word_at-set s.words p.to left f exists)
    where
      by : ((f ≡ p.to) × (word_at words' f ≡ left)) ⊎ ((f ≢ p.to) × (word_at words' f ≡ word_at s.words f)) → waits (word_at words' f) ≡ false
      by (inl (e, now)) = let z : true ≡ false = sym (ap (λ k. waits (word_at s.words k)) e ∙ ap waits waiting) ∙ h in absurd (cc)
      by (inr (n, now)) = ap waits now ∙ h

  positive : 1 ≤ v.shares
  positive = can.is_seat.is_not_spent

  others : (j : ℕ) (u : View) → j ≢ i → slice_get s.seats j ≡ Some u → Sits known words' u
  others j u n at_j =
      let o : Sits known s.words u = sits_of known s g j u at_j in
      record {
        sound = o.sound;
        has_end = o.has_end;
        looked = λ k last low high below. absurd (last_is_only known s i j v u g sees positive n at_j last);
        found = λ f h. still_full f (o.found f h);
        lost = λ f h. started_same f ∙ o.lost f h;
      }

  mine : Sits known words' changed
  mine =
      let o : Sits known s.words v = sits_of known s g i v sees in
      record {
        sound = record {
          knows_the_run = o.sound.knows_the_run;
          spent_is_empty = λ e. absurd (omega (arith, positive, e));
          runs_at_a_place = λ r' h. subst (IsRunPlace known.plan) (same_Some next r' h) (record {
            of_a_frame = place.of_a_frame;
            from_its_first = let a = place.from_its_first in omega (arith, a);
            to_its_last = let a : r.piece < (frame_at known.plan r.frame).piece + (frame_at known.plan r.frame).pieces = subst (λ f. r.piece < (frame_at known.plan f).piece + (frame_at known.plan f).pieces) can.stands.is_its_own (piece_of_frame known.plan r.piece p sound number).1 in omega (arith, a);
            stores_its_elements = λ p' stands. omega arith;
            has_none_behind = λ last. refl;
          });
        };
        has_end = λ r' h. subst (λ (r : FrameRun). IsSome (end_of known r.frame)) (same_Some next r' h) (o.has_end r can.runs);
        looked = looked opens refl;
        found = λ f h. still_full f (o.found f h);
        lost = λ f h. started_same f ∙ o.lost f h;
      }
    where
      looked : (b : Bool) → opens ≡ b → (j : ℕ) → IsLast known v → 1 ≤ j → j ≤ (if b then 0 else v.looks) → j ≤ length known.plan.frames → is_open (word_at words' (((if b then 0 else v.looks) - j) % length known.plan.frames)) ≡ false
      looked true e j last low high below = absurd (omega (arith, low, high))
      looked false e j last low high below = word_at-kept is_open s.words p.to left exists (open_now ∙ e ∙ sym (ap is_open waiting)) ((v.looks - j) % length known.plan.frames) ∙ g.looks_found_none_open i j v sees last low high below

  waited_at_opening : waits (word_at (opening_words known.plan) p.to) ≡ true
  waited_at_opening =
      let a = opening_at known.plan p.to fits.goes_to_a_frame in
      let b : amount (word_at (opening_words known.plan) p.to) ≡ (frame_at known.plan p.to).wait = ap amount a ∙ opening_amount (frame_at known.plan p.to) in
      let c = lacking_at_most known.plan s.words (runs_of s) p.to sound fits.goes_to_a_frame in
      let d = lacks_fewer in
      let e = fits.has_elements in
      ap waits (wait_is (word_at (opening_words known.plan) p.to) (omega (arith, b, c, d, e)))

  books : Books known words' (set s.seats i changed)
  books =
      let b = books_of known s g in
      record {
        made = λ h. let x = sum_by-written (λ (v : View). times h v.made) s.seats i v changed sees in let y = b.made h in let z = made h (word_at-set s.words p.to left h exists) in let w = more opens h in omega (arith, x, y, z, w);
        ran = λ h. sum_by-kept (λ (v : View). times h v.ran) s.seats i v changed sees refl ∙ b.ran h ∙ ap one (sym (started_same h));
        shares = sum_by-kept (λ (v : View). v.shares) s.seats i v changed sees refl ∙ b.shares;
      }
    where
      more : (b : Bool) (h : ℕ) → times h (if b then v.made ++ p.to ∷ [] else v.made) ≡ times h v.made + one (b && p.to == h)
      more true h = times_push h v.made p.to
      more false h = let z : times h v.made ≡ times h v.made + 0 = omega arith in z

      opened : (b : Bool) → one (not (not b)) ≡ one b
      opened true = refl
      opened false = refl

      made : (h : ℕ) → ((h ≡ p.to) × (word_at words' h ≡ left)) ⊎ ((h ≢ p.to) × (word_at words' h ≡ word_at s.words h)) → one (waits (word_at (opening_words known.plan) h) && not (waits (word_at words' h))) ≡ one (waits (word_at (opening_words known.plan) h) && not (waits (word_at s.words h))) + one (opens && p.to == h)
      made h (inl (e, now)) =
          let o : waits (word_at (opening_words known.plan) h) ≡ true = ap (λ k. waits (word_at (opening_words known.plan) k)) e ∙ waited_at_opening in
          let a : one (waits (word_at (opening_words known.plan) h) && not (waits (word_at words' h))) ≡ one opens = ap (λ b. one (b && not (waits (word_at words' h)))) o ∙ ap (λ w. one (not (waits w))) now ∙ ap (λ b. one (not b)) waits_now ∙ opened opens in
          let c : one (waits (word_at (opening_words known.plan) h) && not (waits (word_at s.words h))) ≡ 0 = ap (λ b. one (b && not (waits (word_at s.words h)))) o ∙ ap (λ k. one (not (waits (word_at s.words k)))) e ∙ ap (λ w. one (not (waits w))) waiting in
          let d : one (opens && p.to == h) ≡ one opens = ap (λ b. one (opens && b)) (eq-eqb p.to h (sym e)) ∙ and_true opens in
          omega (arith, a, c, d)
        where
          and_true : (b : Bool) → one (b && true) ≡ one b
          and_true true = refl
          and_true false = refl
      made h (inr (n, now)) =
          let a : one (waits (word_at (opening_words known.plan) h) && not (waits (word_at words' h))) ≡ one (waits (word_at (opening_words known.plan) h) && not (waits (word_at s.words h))) = ap (λ w. one (waits (word_at (opening_words known.plan) h) && not (waits w))) now in
          let d : one (opens && p.to == h) ≡ 0 = ap one (and_right opens (p.to == h) (ne_eqb p.to h (λ e. n (sym e)))) in
          omega (arith, a, d)

  pub sub_keeps : IsGood known (after_sub s i v r p)
  sub_keeps = good_from known (after_sub s i v r p) (subst (Flows known words' s.cells) (sym (runs-set s.seats i changed)) flows) (each_set (Sits known words') s.seats i changed mine others) books
