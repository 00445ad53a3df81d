-- What windows read so far, where those of a stream begin in order.
use Rattle.std.proofs.Common.{◌≡◌, ◌≢◌, ◌∙◌, ◌+◌, ◌-◌, ◌≤◌, ◌<◌, ℕ, zero, suc, Bool, true, false, cond, inl, inr, ◌⊎◌, List, [], ◌∷◌, Some, ap, arith, zero-add, get_or, length, max, nat_le, nat_lt, not, refl, subst, sym, take, filter, slice_get, sum_by}
use Rattle.std.specs.Prelude.{◌==◌, ◌&&◌, ◌||◌, count_by, replicate, slice_set}
use Rattle.std.specs.List.{list_any, range_with_len}
use Rattle.std.proofs.lemmas.Bool.{cases_eq, ne_eqb}
use Rattle.std.proofs.lemmas.Bool.Decides.{nat_tests}
use Rattle.std.proofs.lemmas.List.{get_or-replicate, get_or-set_other, get_or-set_same, length-replicate, length-set}
use Rattle.std.proofs.lemmas.List.Elements.{filter_more}
use Rattle.std.proofs.lemmas.List.Folds.{list_any_more}
use Rattle.std.proofs.lemmas.List.FromFn.{length-range_with_len}
use Rattle.std.proofs.lemmas.List.Sums.{count_by-le-length, sum_by-append, sum_by-cons}
use Rattle.std.proofs.lemmas.Option.{get_or_from_slice_get, slice_get-get_or}
use Rattle.flow_core_laws.specs.FirstPosition.{first_position, is_read_of, read_cursor, write_cursor}
use Rattle.flow_core_laws.specs.Window.{Window, claims_of, windows}
use Rattle.flow_core_laws.specs.declared.claim.Claim.{Claim}
use Rattle.flow_core_laws.proofs.Windows.{length-windows, window_at}
use Rattle.osview_graph.specs.DrawnRun.{DrawnRun, end_at, has_run}
use Rattle.osview_graph.specs.Streams as streams
use Rattle.osview_graph.specs.Streams.{has_read, newly_read, no_window, reads_at}
use Rattle.osview_graph.specs.Tables.{newly_behind, read_to}

-- what a window reads that none before it read, by its number
abbrev pub newly_at : DrawnRun → ℕ → ℕ
newly_at run k = newly_read run (take k (windows run.activations)) (streams.window_at run k)

-- Of the positions of a stream from its read cursor on, just those before its row were read.
pub record Reached (run : DrawnRun) (n : ℕ) (rows : List ℕ) (k : ℕ) : Type 0 where
  pub wide : length rows ≡ n
  pub read_before : (s p : ℕ) → s < n → read_cursor s (take k (claims_of run.activations)) ≤ p
      → list_any (reads_at run s p) (take k (windows run.activations)) ≡ nat_lt p (get_or rows s 0)

-- at first nothing was
pub none_reached : (run : DrawnRun) (n : ℕ) → Reached run n (replicate n 0) 0
none_reached run n = record {
  wide = length-replicate n 0;
  read_before = λ s p lt from. none p ∙ ap (nat_lt p) (sym (get_or-replicate n s 0 0 lt));
}
  where
    none : (p : ℕ) → false ≡ nat_lt p 0
    none p = grind (arith, nat_tests)

-- how many numbers of a range aren't below another
count_behind : (q : ℕ → Bool) (b a n : ℕ) → ((p : ℕ) → a ≤ p → q p ≡ nat_lt p b) → count_by (λ p. not (q p)) (range_with_len a n) ≡ (a + n) - max a b
count_behind q b a zero is = let z : 0 ≡ (a + 0) - max a b = omega arith in z
count_behind q b a (suc n) is =
    let rest = count_behind q b (a + 1) n (λ p low. is p (omega arith)) in
    sum_by-cons (λ p. cond (not (q p)) 1 0) a (range_with_len (a + 1) n)
    ∙ ap (λ (t : Bool). cond {A = ℕ} (not t) 1 0 + count_by (λ p. not (q p)) (range_with_len (a + 1) n)) (is a (omega arith))
    ∙ ap (λ (m : ℕ). cond {A = ℕ} (not (nat_lt a b)) 1 0 + m) rest
    ∙ step (nat_lt a b) refl
  where
    step : (t : Bool) → nat_lt a b ≡ t → cond {A = ℕ} (not t) 1 0 + ((a + 1 + n) - max (a + 1) b) ≡ (a + suc n) - max a b
    step true e = let lt : a < b = grind (arith, nat_tests) in omega (arith, lt)
    step false e = let ge : b ≤ a = grind (arith, nat_tests) in omega (arith, ge)

either_or : (p end before : ℕ) → (nat_lt p before || nat_lt p end) ≡ nat_lt p (max end before)
either_or p end before = grind (arith, nat_tests)

nothing_more : (b : Bool) → (b || false) ≡ b
nothing_more true = refl
nothing_more false = refl

cursor_step : (s : ℕ) (c : Claim) (b : Bool) → sum_by (λ (d : Claim). d.skip + d.burst) (cond b (c ∷ []) []) ≡ cond b (c.skip + c.burst) 0
cursor_step s c true = zero-add (c.skip + c.burst)
cursor_step s c false = refl

-- how far a read cursor moves with one more claim
cursor-more : (s k : ℕ) (cs : List Claim) (d : Claim) → k < length cs → read_cursor s (take (k + 1) cs) ≡ read_cursor s (take k cs) + cond (is_read_of s (get_or cs k d)) ((get_or cs k d).skip + (get_or cs k d).burst) 0
cursor-more s k cs d lt =
    let move : Claim → ℕ = λ c. c.skip + c.burst in
    ap (sum_by move) (filter_more (is_read_of s) cs k d lt)
    ∙ sum_by-append move (filter (is_read_of s) (take k cs)) (cond (is_read_of s (get_or cs k d)) (get_or cs k d ∷ []) [])
    ∙ ap (λ m. read_cursor s (take k cs) + m) (cursor_step s (get_or cs k d) (is_read_of s (get_or cs k d)))

-- it never moves back
cursor_rises : (s k : ℕ) (cs : List Claim) (d : Claim) → k < length cs → read_cursor s (take k cs) ≤ read_cursor s (take (k + 1) cs)
cursor_rises s k cs d lt = omega (arith, cursor-more s k cs d lt)

module _ (run : DrawnRun) (k : ℕ) (exists : k < length (windows run.activations)) where
  stands : slice_get (windows run.activations) k ≡ Some (streams.window_at run k)
  stands = slice_get-get_or (windows run.activations) k no_window exists

  is_claim : (d : Claim) → get_or (claims_of run.activations) k d ≡ (streams.window_at run k).claim
  is_claim d = get_or_from_slice_get (claims_of run.activations) k (streams.window_at run k).claim d (window_at run.activations k (streams.window_at run k) stands).is_claim

  -- a window that reads begins at the cursor or behind it, and the cursor moves at least to it
  pub begins : has_read run (streams.window_at run k) ≡ true
      → (read_cursor (streams.window_at run k).claim.stream (take k (claims_of run.activations)) ≤ (streams.window_at run k).first)
      × ((streams.window_at run k).first ≤ read_cursor (streams.window_at run k).claim.stream (take (k + 1) (claims_of run.activations)))
  begins reads =
      let v = streams.window_at run k in
      let at = (window_at run.activations k v stands).begins in
      let s = v.claim.stream in
      let here = is_claim v.claim in
      let more = cursor-more s k (claims_of run.activations) v.claim (omega (arith, length-windows run.activations)) in
      by v.claim.write refl (has_run (end_at run v.activation)) reads at
      (more ∙ ap (λ (c : Claim). read_cursor s (take k (claims_of run.activations)) + cond (is_read_of s c) (c.skip + c.burst) 0) here)
    where
      itself : (a : ℕ) → (a == a) ≡ true
      itself a = grind (arith, nat_tests)

      by : (b : Bool) → (streams.window_at run k).claim.write ≡ b → (r : Bool) → (not (streams.window_at run k).claim.write && r) ≡ true
          → (streams.window_at run k).first ≡ first_position (take k (claims_of run.activations)) (streams.window_at run k).claim
          → read_cursor (streams.window_at run k).claim.stream (take (k + 1) (claims_of run.activations))
          ≡ read_cursor (streams.window_at run k).claim.stream (take k (claims_of run.activations))
          + cond (is_read_of (streams.window_at run k).claim.stream (streams.window_at run k).claim) ((streams.window_at run k).claim.skip + (streams.window_at run k).claim.burst) 0
          → (read_cursor (streams.window_at run k).claim.stream (take k (claims_of run.activations)) ≤ (streams.window_at run k).first)
          × ((streams.window_at run k).first ≤ read_cursor (streams.window_at run k).claim.stream (take (k + 1) (claims_of run.activations)))
      by true e r reads at more = let no : false ≡ true = sym (ap (λ (b : Bool). not b && r) e) ∙ reads in absurd cc
      by false e r reads at more =
          let v = streams.window_at run k in
          let s = v.claim.stream in
          let cursor = read_cursor s (take k (claims_of run.activations)) in
          let first : v.first ≡ v.claim.skip + cursor = at ∙ ap (λ (b : Bool). cond b (write_cursor s (take k (claims_of run.activations))) (v.claim.skip + cursor)) e in
          let moved : read_cursor s (take (k + 1) (claims_of run.activations)) ≡ cursor + (v.claim.skip + v.claim.burst) =
          more ∙ ap (λ (b : Bool). cursor + cond (not b && (s == s)) (v.claim.skip + v.claim.burst) 0) e
          ∙ ap (λ (b : Bool). cursor + cond b (v.claim.skip + v.claim.burst) 0) (itself s) in
          (omega (arith, first), omega (arith, first, moved))

  -- what it reads that none before it read
  pub newly : (n : ℕ) (rows : List ℕ) → Reached run n rows k → (streams.window_at run k).claim.stream < n
      → newly_behind run (streams.window_at run k) (get_or rows (streams.window_at run k).claim.stream 0) ≡ newly_at run k
  newly n rows so_far lt = by (has_read run (streams.window_at run k)) refl where
    by : (b : Bool) → has_read run (streams.window_at run k) ≡ b
        → cond {A = ℕ} b (((streams.window_at run k).first + (streams.window_at run k).claim.horizon) - max (streams.window_at run k).first (get_or rows (streams.window_at run k).claim.stream 0)) 0
        ≡ cond {A = ℕ} b (count_by (λ p. not (list_any (reads_at run (streams.window_at run k).claim.stream p) (take k (windows run.activations))))
        (range_with_len (streams.window_at run k).first (streams.window_at run k).claim.horizon)) 0
    by true e =
        let v = streams.window_at run k in
        let low = (begins e).0 in
        sym (count_behind (λ p. list_any (reads_at run v.claim.stream p) (take k (windows run.activations))) (get_or rows v.claim.stream 0) v.first v.claim.horizon
        (λ p from. so_far.read_before v.claim.stream p lt (omega (arith, low, from))))
    by false e = refl

  -- which positions were read with it
  pub reached : (n : ℕ) (rows : List ℕ) → Reached run n rows k → (streams.window_at run k).claim.stream < n
      → Reached run n (slice_set rows (streams.window_at run k).claim.stream (read_to run (streams.window_at run k) (get_or rows (streams.window_at run k).claim.stream 0))) (k + 1)
  reached n rows so_far lt = record {
    wide = length-set rows (streams.window_at run k).claim.stream _ ∙ so_far.wide;
    read_before = λ s p inside from.
        list_any_more (reads_at run s p) (windows run.activations) k no_window exists
        ∙ ap (λ (b : Bool). b || reads_at run s p (streams.window_at run k))
        (so_far.read_before s p inside (omega (arith, cursor_rises s k (claims_of run.activations) (streams.window_at run k).claim (omega (arith, length-windows run.activations)), from)))
        ∙ here s p from (cases_eq s (streams.window_at run k).claim.stream);
  }
    where
      other_stream : (s p : ℕ) (v : Window) (b e : Bool) → (v.claim.stream == s) ≡ e → e ≡ false → (((b && (v.claim.stream == s)) && nat_le v.first p) && nat_lt p (v.first + v.claim.horizon)) ≡ false
      other_stream s p v true e is differs = ap (λ (t : Bool). ((true && t) && nat_le v.first p) && nat_lt p (v.first + v.claim.horizon)) (is ∙ differs)
      other_stream s p v false e is differs = refl

      itself : (a : ℕ) → (a == a) ≡ true
      itself a = grind (arith, nat_tests)

      on_it : (p row : ℕ) (v : Window) (b : Bool) → (b ≡ true → v.first ≤ p)
          → (nat_lt p row || (((b && (v.claim.stream == v.claim.stream)) && nat_le v.first p) && nat_lt p (v.first + v.claim.horizon)))
          ≡ nat_lt p (cond b (max (v.first + v.claim.horizon) row) row)
      on_it p row v false low = nothing_more (nat_lt p row)
      on_it p row v true low =
          let from : nat_le v.first p ≡ true = let l = low refl in grind (arith, nat_tests) in
          ap (λ (t : Bool). nat_lt p row || (((true && t) && nat_le v.first p) && nat_lt p (v.first + v.claim.horizon))) (itself v.claim.stream)
          ∙ ap (λ (t : Bool). nat_lt p row || (((true && true) && t) && nat_lt p (v.first + v.claim.horizon))) from
          ∙ either_or p (v.first + v.claim.horizon) row

      here : (s p : ℕ) → read_cursor s (take (k + 1) (claims_of run.activations)) ≤ p → (s ≡ (streams.window_at run k).claim.stream) ⊎ (s ≢ (streams.window_at run k).claim.stream)
          → (nat_lt p (get_or rows s 0) || reads_at run s p (streams.window_at run k))
          ≡ nat_lt p (get_or (slice_set rows (streams.window_at run k).claim.stream (read_to run (streams.window_at run k) (get_or rows (streams.window_at run k).claim.stream 0))) s 0)
      here s p from (inl same) =
          let v = streams.window_at run k in
          let t = v.claim.stream in
          let row = get_or rows t 0 in
          let to = read_to run v row in
          let P : ℕ → Type 0 = λ (j : ℕ). (nat_lt p (get_or rows j 0) || reads_at run j p v) ≡ nat_lt p (get_or (slice_set rows t to) j 0) in
          let there : read_cursor t (take (k + 1) (claims_of run.activations)) ≤ p =
          let Q : ℕ → Type 0 = λ (j : ℕ). read_cursor j (take (k + 1) (claims_of run.activations)) ≤ p in subst Q same from in
          subst P (sym same)
          (on_it p row v (has_read run v) (λ e. let high = (begins e).1 in omega (arith, high, there))
          ∙ sym (ap (nat_lt p) (get_or-set_same rows t to 0 (omega (arith, so_far.wide, lt)))))
      here s p from (inr other) =
          let v = streams.window_at run k in
          let t = v.claim.stream in
          let to = read_to run v (get_or rows t 0) in
          ap (λ (b : Bool). nat_lt p (get_or rows s 0) || b) (other_stream s p v (has_read run v) (t == s) refl (ne_eqb t s (λ same. other (sym same))))
          ∙ nothing_more (nat_lt p (get_or rows s 0))
          ∙ sym (ap (nat_lt p) (get_or-set_other rows t s to 0 other))

-- a window reads no more than it covers
pub newly-le : (run : DrawnRun) (k : ℕ) → newly_at run k ≤ (streams.window_at run k).claim.horizon
newly-le run k = by (has_read run (streams.window_at run k)) where
  by : (b : Bool) → cond {A = ℕ} b (count_by (λ p. not (list_any (reads_at run (streams.window_at run k).claim.stream p) (take k (windows run.activations))))
      (range_with_len (streams.window_at run k).first (streams.window_at run k).claim.horizon)) 0 ≤ (streams.window_at run k).claim.horizon
  by true =
      let v = streams.window_at run k in
      omega (arith, count_by-le-length (λ p. not (list_any (reads_at run v.claim.stream p) (take k (windows run.activations)))) (range_with_len v.first v.claim.horizon), length-range_with_len v.first v.claim.horizon)
  by false = omega arith
