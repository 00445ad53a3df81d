-- What one more window does to the parts of a layout.
use Rattle.std.proofs.Common.{◌≡◌, ◌≢◌, ℕ, zero, suc, ◌+◌, ◌<◌, ◌≤◌, Bool, true, false, cond, ◌&&◌, List, [], ◌∷◌, ◌++◌, length, map, get_or, set, refl, sym, ap, ◌∙◌, arith, ◌⊎◌, inl, inr, zero-add}
use Rattle.std.specs.Prelude.{filter, sum_by, not, ◌==◌}
use Rattle.std.specs.Option.{option_map_or}
use Rattle.std.specs.List.{range_with_len}
use Rattle.std.proofs.lemmas.Bool.{cases_eq, eqb-true, eq-eqb}
use Rattle.std.proofs.lemmas.List.{get_or-set_same, get_or-set_other, length-set, length-append, length-map, append-nil, map-append}
use Rattle.std.proofs.lemmas.List.Elements.{filter-append}
use Rattle.std.proofs.lemmas.List.FromFn.{fill_by_all, length-map-range_with_len, get_or-map-range_with_len}
use Rattle.std.proofs.lemmas.List.Sums.{sum_by-append}
use Rattle.flow_core_laws.specs.declared.claim.Claim.{Claim}
use Rattle.flow_core_laws.specs.FirstPosition.{is_read_of, is_write_to, read_cursor, write_cursor, first_position}
use Rattle.flow_core_laws.specs.Window.{Window}
use Rattle.flow_core_laws.proofs.Stretches.{slice_get-append_left, slice_get-append_right}
use Rattle.stream_match_layouts.specs.declared.span.Span.{Span}
use Rattle.stream_match_layouts.specs.declared.layout.Layout.{Layout}
use Rattle.stream_match_layouts.specs.Layout.{span_of, writes_at, writers_of, claims_in, IsOfWindows}
use Rattle.stream_match_layouts.specs.Cursors.{first_of}
use Rattle.stream_match_layouts.specs.Adding.{writers_after, with_claim}

-- ---- lists with an element for each number

-- two functions that agree below a number give the same list
pub map-range-same : {X : Type 0} (f g : ℕ → X) (a n : ℕ) → ((k : ℕ) → a ≤ k → k < a + n → f k ≡ g k) → map f (range_with_len a n) ≡ map g (range_with_len a n)
map-range-same f g a zero h = refl
map-range-same f g a (suc n) h =
    ap (λ x. x ∷ map f (range_with_len (a + 1) n)) (h a (omega arith) (omega arith))
    ∙ ap (λ xs. g a ∷ xs) (map-range-same f g (a + 1) n (λ k l u. h k (omega arith) (omega arith)))

-- two tests that agree keep the same numbers
pub filter-range-same : (p q : ℕ → Bool) (a n : ℕ) → ((k : ℕ) → a ≤ k → k < a + n → p k ≡ q k) → filter p (range_with_len a n) ≡ filter q (range_with_len a n)
filter-range-same p q a zero h = refl
filter-range-same p q a (suc n) h =
    ap (λ b. cond b (a ∷ filter p (range_with_len (a + 1) n)) (filter p (range_with_len (a + 1) n))) (h a (omega arith) (omega arith))
    ∙ ap (λ xs. cond (q a) (a ∷ xs) xs) (filter-range-same p q (a + 1) n (λ k l u. h k (omega arith) (omega arith)))

-- one more number
pub range-more : (a n : ℕ) → range_with_len a (n + 1) ≡ range_with_len a n ++ (a + n) ∷ []
range-more a zero = ap (range_with_len a) (let e : 0 + 1 ≡ 1 = omega arith in e) ∙ ap (λ k. k ∷ []) (let e : a ≡ a + 0 = omega arith in e)
range-more a (suc n) =
    ap (range_with_len a) (let e : suc n + 1 ≡ suc (n + 1) = omega arith in e)
    ∙ ap (λ xs. a ∷ xs) (range-more (a + 1) n)
    ∙ ap (λ k. a ∷ (range_with_len (a + 1) n ++ k ∷ [])) (let e : a + 1 + n ≡ a + suc n = omega arith in e)

-- a write at one number
pub map-range-set : {X : Type 0} (f g : ℕ → X) (n i : ℕ) (v : X) → i < n → g i ≡ v → ((j : ℕ) → j ≢ i → g j ≡ f j) → set (map f (range_with_len 0 n)) i v ≡ map g (range_with_len 0 n)
map-range-set {X = X} f g n i v lt here others = fill_by_all g (set xs i v) n v (length-set xs i v ∙ len) (λ k l. at k l (cases_eq k i))
  where
    xs : List X
    xs = map f (range_with_len 0 n)

    len : length xs ≡ n
    len = length-map-range_with_len f 0 n

    at : (k : ℕ) → k < n → (k ≡ i) ⊎ (k ≢ i) → get_or (set xs i v) k v ≡ g k
    at k l (inl same) = ap (λ j. get_or (set xs i v) j v) same ∙ get_or-set_same xs i v v (omega (arith, len)) ∙ sym here ∙ ap g (sym same)
    at k l (inr other) = get_or-set_other xs i k v v other ∙ get_or-map-range_with_len f 0 n k k v l (omega arith) ∙ sym (others k other)

-- ---- cursors

read_cursor-push : (s : ℕ) (cs : List Claim) (c : Claim) → read_cursor s (cs ++ c ∷ []) ≡ read_cursor s cs + cond (is_read_of s c) (c.skip + c.burst) 0
read_cursor-push s cs c =
    ap (sum_by (λ (d : Claim). d.skip + d.burst)) (filter-append (is_read_of s) cs (c ∷ []))
    ∙ sum_by-append (λ (d : Claim). d.skip + d.burst) (filter (is_read_of s) cs) (filter (is_read_of s) (c ∷ []))
    ∙ ap (λ n. read_cursor s cs + n) (one (is_read_of s c))
  where
    one : (b : Bool) → sum_by (λ (d : Claim). d.skip + d.burst) (cond b (c ∷ []) []) ≡ cond b (c.skip + c.burst) 0
    one true = zero-add (c.skip + c.burst)
    one false = refl

write_cursor-push : (s : ℕ) (cs : List Claim) (c : Claim) → write_cursor s (cs ++ c ∷ []) ≡ write_cursor s cs + cond (is_write_to s c) c.horizon 0
write_cursor-push s cs c =
    ap (sum_by (λ (d : Claim). d.horizon)) (filter-append (is_write_to s) cs (c ∷ []))
    ∙ sum_by-append (λ (d : Claim). d.horizon) (filter (is_write_to s) cs) (filter (is_write_to s) (c ∷ []))
    ∙ ap (λ n. write_cursor s cs + n) (one (is_write_to s c))
  where
    one : (b : Bool) → sum_by (λ (d : Claim). d.horizon) (cond b (c ∷ []) []) ≡ cond b c.horizon 0
    one true = zero-add c.horizon
    one false = refl

-- ---- writers

pub claims_in-push : (ws : List Window) (w : Window) → claims_in (ws ++ w ∷ []) ≡ claims_in ws ++ w.claim ∷ []
claims_in-push ws w = map-append (λ (v : Window). v.claim) ws (w ∷ [])

writes_at-push : (s : ℕ) (ws : List Window) (w : Window) (i : ℕ) → i < length ws → writes_at s (ws ++ w ∷ []) i ≡ writes_at s ws i
writes_at-push s ws w i lt = ap (λ o. option_map_or (λ (v : Window). is_write_to s v.claim) o false) (slice_get-append_left ws (w ∷ []) i lt)

writes_at-last : (s : ℕ) (ws : List Window) (w : Window) → writes_at s (ws ++ w ∷ []) (length ws) ≡ is_write_to s w.claim
writes_at-last s ws w =
    ap (writes_at s (ws ++ w ∷ [])) (let e : length ws ≡ length ws + 0 = omega arith in e)
    ∙ ap (λ o. option_map_or (λ (v : Window). is_write_to s v.claim) o false) (slice_get-append_right ws (w ∷ []) 0)

writers_of-push : (ws : List Window) (w : Window) (s : ℕ) → writers_of (ws ++ w ∷ []) s ≡ writers_of ws s ++ cond (is_write_to s w.claim) (length ws ∷ []) []
writers_of-push ws w s =
    let n = length ws in
    ap (λ k. filter (writes_at s (ws ++ w ∷ [])) (range_with_len 0 k)) (length-append ws (w ∷ []))
    ∙ ap (filter (writes_at s (ws ++ w ∷ []))) (range-more 0 n ∙ ap (λ k. range_with_len 0 n ++ k ∷ []) (zero-add n))
    ∙ filter-append (writes_at s (ws ++ w ∷ [])) (range_with_len 0 n) (n ∷ [])
    ∙ ap (λ xs. xs ++ filter (writes_at s (ws ++ w ∷ [])) (n ∷ [])) (filter-range-same (writes_at s (ws ++ w ∷ [])) (writes_at s ws) 0 n (λ k l u. writes_at-push s ws w k (omega arith)))
    ∙ ap (λ b. writers_of ws s ++ cond b (n ∷ []) []) (writes_at-last s ws w)

-- ---- one more claim

-- there are as many streams as before
pub length-writers_after : (layout : Layout) (claim : Claim) → length (writers_after layout claim) ≡ length layout.writers
length-writers_after layout claim = at claim.write
  where
    at : (b : Bool) → length (cond b (set layout.writers claim.stream (get_or layout.writers claim.stream [] ++ length layout.spans ∷ [])) layout.writers) ≡ length layout.writers
    at true = length-set layout.writers claim.stream _
    at false = refl

module _ (layout : Layout) (ws : List Window) (of : IsOfWindows layout ws) (claim : Claim) (exists : claim.stream < length layout.writers) where
  -- the cursors of the claim's stream
  pub read_at : get_or layout.cursors.reads claim.stream 0 ≡ read_cursor claim.stream (claims_in ws)
  read_at = ap (λ xs. get_or xs claim.stream 0) of.reads ∙ get_or-map-range_with_len (λ s. read_cursor s (claims_in ws)) 0 (length layout.writers) claim.stream claim.stream 0 exists (zero-add claim.stream)

  pub write_at : get_or layout.cursors.writes claim.stream 0 ≡ write_cursor claim.stream (claims_in ws)
  write_at = ap (λ xs. get_or xs claim.stream 0) of.writes ∙ get_or-map-range_with_len (λ s. write_cursor s (claims_in ws)) 0 (length layout.writers) claim.stream claim.stream 0 exists (zero-add claim.stream)

  pub writers_at : get_or layout.writers claim.stream [] ≡ writers_of ws claim.stream
  writers_at = ap (λ xs. get_or xs claim.stream []) of.writers ∙ get_or-map-range_with_len (writers_of ws) 0 (length layout.writers) claim.stream claim.stream [] exists (zero-add claim.stream)

  -- the claim begins where its stream's cursor stands
  pub first_of-is : first_of layout.cursors claim ≡ first_position (claims_in ws) claim
  first_of-is = at claim.write
    where
      at : (b : Bool) → cond b (get_or layout.cursors.writes claim.stream 0) (get_or layout.cursors.reads claim.stream 0 + claim.skip) ≡ cond b (write_cursor claim.stream (claims_in ws)) (claim.skip + read_cursor claim.stream (claims_in ws))
      at true = write_at
      at false = omega (arith, read_at)

  other_stream : (s : ℕ) → s ≢ claim.stream → (claim.stream == s) ≡ false
  other_stream s other = at (claim.stream == s) refl
    where
      at : (b : Bool) → (claim.stream == s) ≡ b → (claim.stream == s) ≡ false
      at true e = absurd (other (sym (eqb-true claim.stream s e)))
      at false e = e

  same_stream : (claim.stream == claim.stream) ≡ true
  same_stream = eq-eqb claim.stream claim.stream refl

  reads-push : (b : Bool) → claim.write ≡ b → cond b layout.cursors.reads (set layout.cursors.reads claim.stream (first_of layout.cursors claim + claim.burst)) ≡ map (λ s. read_cursor s (claims_in ws ++ claim ∷ [])) (range_with_len 0 (length layout.writers))
  reads-push true e =
      of.reads ∙ map-range-same (λ s. read_cursor s (claims_in ws)) (λ s. read_cursor s (claims_in ws ++ claim ∷ [])) 0 (length layout.writers)
      (λ s l u. let p = read_cursor-push s (claims_in ws) claim in let q : cond (is_read_of s claim) (claim.skip + claim.burst) 0 ≡ 0 = ap (λ b. cond (not b && claim.stream == s) (claim.skip + claim.burst) 0) e in omega (arith, p, q))
  reads-push false e =
      ap (λ xs. set xs claim.stream (first_of layout.cursors claim + claim.burst)) of.reads
      ∙ map-range-set (λ s. read_cursor s (claims_in ws)) (λ s. read_cursor s (claims_in ws ++ claim ∷ [])) (length layout.writers) claim.stream (first_of layout.cursors claim + claim.burst) exists
      (let p = read_cursor-push claim.stream (claims_in ws) claim in
      let q : cond (is_read_of claim.stream claim) (claim.skip + claim.burst) 0 ≡ claim.skip + claim.burst = ap (λ b. cond (not b && claim.stream == claim.stream) (claim.skip + claim.burst) 0) e ∙ ap (λ b. cond b (claim.skip + claim.burst) 0) same_stream in
      let f : first_of layout.cursors claim ≡ get_or layout.cursors.reads claim.stream 0 + claim.skip = ap (λ b. cond b (get_or layout.cursors.writes claim.stream 0) (get_or layout.cursors.reads claim.stream 0 + claim.skip)) e in
      omega (arith, p, q, f, read_at))
      (λ j other. let p = read_cursor-push j (claims_in ws) claim in
      let q : cond (is_read_of j claim) (claim.skip + claim.burst) 0 ≡ 0 = ap (λ b. cond (not claim.write && b) (claim.skip + claim.burst) 0) (other_stream j other) ∙ ap (λ b. cond (not b && false) (claim.skip + claim.burst) 0) e in
      omega (arith, p, q))

  writes-push : (b : Bool) → claim.write ≡ b → cond b (set layout.cursors.writes claim.stream (first_of layout.cursors claim + claim.horizon)) layout.cursors.writes ≡ map (λ s. write_cursor s (claims_in ws ++ claim ∷ [])) (range_with_len 0 (length layout.writers))
  writes-push false e =
      of.writes ∙ map-range-same (λ s. write_cursor s (claims_in ws)) (λ s. write_cursor s (claims_in ws ++ claim ∷ [])) 0 (length layout.writers)
      (λ s l u. let p = write_cursor-push s (claims_in ws) claim in let q : cond (is_write_to s claim) claim.horizon 0 ≡ 0 = ap (λ b. cond (b && claim.stream == s) claim.horizon 0) e in omega (arith, p, q))
  writes-push true e =
      ap (λ xs. set xs claim.stream (first_of layout.cursors claim + claim.horizon)) of.writes
      ∙ map-range-set (λ s. write_cursor s (claims_in ws)) (λ s. write_cursor s (claims_in ws ++ claim ∷ [])) (length layout.writers) claim.stream (first_of layout.cursors claim + claim.horizon) exists
      (let p = write_cursor-push claim.stream (claims_in ws) claim in
      let q : cond (is_write_to claim.stream claim) claim.horizon 0 ≡ claim.horizon = ap (λ b. cond (b && claim.stream == claim.stream) claim.horizon 0) e ∙ ap (λ b. cond b claim.horizon 0) same_stream in
      let f : first_of layout.cursors claim ≡ get_or layout.cursors.writes claim.stream 0 = ap (λ b. cond b (get_or layout.cursors.writes claim.stream 0) (get_or layout.cursors.reads claim.stream 0 + claim.skip)) e in
      omega (arith, p, q, f, write_at))
      (λ j other. let p = write_cursor-push j (claims_in ws) claim in
      let q : cond (is_write_to j claim) claim.horizon 0 ≡ 0 = ap (λ b. cond (claim.write && b) claim.horizon 0) (other_stream j other) ∙ ap (λ b. cond (b && false) claim.horizon 0) e in
      omega (arith, p, q))

  writers-push : (w : Window) → w.claim ≡ claim → (b : Bool) → claim.write ≡ b → cond b (set layout.writers claim.stream (get_or layout.writers claim.stream [] ++ length layout.spans ∷ [])) layout.writers ≡ map (writers_of (ws ++ w ∷ [])) (range_with_len 0 (length layout.writers))
  writers-push w is false e =
      of.writers ∙ map-range-same (writers_of ws) (writers_of (ws ++ w ∷ [])) 0 (length layout.writers)
      (λ s l u. sym (writers_of-push ws w s ∙ ap (λ (c : Claim). writers_of ws s ++ cond (is_write_to s c) (length ws ∷ []) []) is ∙ ap (λ b. writers_of ws s ++ cond (b && claim.stream == s) (length ws ∷ []) []) e ∙ append-nil (writers_of ws s)))
  writers-push w is true e =
      ap (λ xs. set xs claim.stream (get_or layout.writers claim.stream [] ++ length layout.spans ∷ [])) of.writers
      ∙ map-range-set (writers_of ws) (writers_of (ws ++ w ∷ [])) (length layout.writers) claim.stream (get_or layout.writers claim.stream [] ++ length layout.spans ∷ []) exists
      (writers_of-push ws w claim.stream ∙ ap (λ (c : Claim). writers_of ws claim.stream ++ cond (is_write_to claim.stream c) (length ws ∷ []) []) is
      ∙ ap (λ b. writers_of ws claim.stream ++ cond (b && claim.stream == claim.stream) (length ws ∷ []) []) e ∙ ap (λ b. writers_of ws claim.stream ++ cond b (length ws ∷ []) []) same_stream
      ∙ ap (λ xs. xs ++ length ws ∷ []) (sym writers_at) ∙ ap (λ n. get_or layout.writers claim.stream [] ++ n ∷ []) (sym (ap length of.spans ∙ length-map ws span_of)))
      (λ j other. writers_of-push ws w j ∙ ap (λ (c : Claim). writers_of ws j ++ cond (is_write_to j c) (length ws ∷ []) []) is
      ∙ ap (λ b. writers_of ws j ++ cond (claim.write && b) (length ws ∷ []) []) (other_stream j other) ∙ ap (λ b. writers_of ws j ++ cond (b && false) (length ws ∷ []) []) e ∙ append-nil (writers_of ws j))

  -- the layout with one more claim is that of one more window
  pub is_of_push : (frame offset : ℕ) (w : Window) → w ≡ record { activation = frame; claim = claim; first = first_position (claims_in ws) claim; offset = offset } → IsOfWindows (with_claim layout frame claim offset) (ws ++ w ∷ [])
  is_of_push frame offset w is =
      let claim_is : w.claim ≡ claim = ap (λ (v : Window). v.claim) is in
      let cs : claims_in (ws ++ w ∷ []) ≡ claims_in ws ++ claim ∷ [] = claims_in-push ws w ∙ ap (λ (c : Claim). claims_in ws ++ c ∷ []) claim_is in
      let span : record { frame = frame; stream = claim.stream; write = claim.write; first = first_of layout.cursors claim; count = claim.horizon; offset = offset } ≡ span_of w =
      ap (λ n. record { frame = frame; stream = claim.stream; write = claim.write; first = n; count = claim.horizon; offset = offset }) first_of-is ∙ ap span_of (sym is) in
      record {
        spans = ap (λ (s : Span). layout.spans ++ s ∷ []) span ∙ ap (λ xs. xs ++ span_of w ∷ []) of.spans ∙ sym (map-append span_of ws (w ∷ []));
        writers = writers-push w claim_is claim.write refl ∙ ap (λ n. map (writers_of (ws ++ w ∷ [])) (range_with_len 0 n)) (sym (length-writers_after layout claim));
        reads = reads-push claim.write refl ∙ ap (λ ds. map (λ s. read_cursor s ds) (range_with_len 0 (length layout.writers))) (sym cs) ∙ ap (λ n. map (λ s. read_cursor s (claims_in (ws ++ w ∷ []))) (range_with_len 0 n)) (sym (length-writers_after layout claim));
        writes = writes-push claim.write refl ∙ ap (λ ds. map (λ s. write_cursor s ds) (range_with_len 0 (length layout.writers))) (sym cs) ∙ ap (λ n. map (λ s. write_cursor s (claims_in (ws ++ w ∷ []))) (range_with_len 0 n)) (sym (length-writers_after layout claim));
      }
