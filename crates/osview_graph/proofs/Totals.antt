-- Tables whose rows are totals: one amount more in one row.
use Rattle.std.proofs.Common.{◌≡◌, ◌≢◌, ◌∙◌, ◌+◌, ◌*◌, ◌≤◌, ◌<◌, ℕ, zero, suc, Bool, true, false, cond, inl, inr, ◌∷◌, ap, arith, get_or, map, refl, sum_by, sym, zero-add}
use Rattle.std.specs.Prelude.{◌==◌, replicate, slice_set}
use Rattle.std.specs.List.{range_with_len}
use Rattle.std.proofs.lemmas.Bool.{cases_lt, ne_eqb}
use Rattle.std.proofs.lemmas.Bool.Decides.{nat_tests}
use Rattle.std.proofs.lemmas.List.{get_or_past, set_past}
use Rattle.std.proofs.lemmas.List.FromFn.{get_or-map-range_with_len, length-map-range_with_len}
use Rattle.std.proofs.lemmas.List.Sums.{fold_push}
use Rattle.osview_graph.specs.DrawnRun.{total}
use Rattle.osview_graph.specs.Tables.{table}
use Rattle.stream_match_layouts.proofs.Pushing.{map-range-same, map-range-set, range-more}

-- a table of zeros
pub zeros_are : (f : ℕ → ℕ) (n : ℕ) → ((t : ℕ) → f t ≡ 0) → replicate n 0 ≡ table f n
zeros_are f n none = from 0 n where
  from : (a n : ℕ) → replicate n 0 ≡ map f (range_with_len a n)
  from a zero = refl
  from a (suc n) = ap (λ xs. 0 ∷ xs) (from (a + 1) n) ∙ ap (λ x. x ∷ map f (range_with_len (a + 1) n)) (sym (none a))

module _ (belongs_to amount : ℕ → ℕ) where
  -- one more that is counted
  pub total-more : (k one : ℕ) → total belongs_to amount (k + 1) one ≡ total belongs_to amount k one + cond (belongs_to k == one) (amount k) 0
  total-more k one =
      let part : ℕ → ℕ = λ j. cond (belongs_to j == one) (amount j) 0 in
      ap (sum_by part) (range-more 0 k) ∙ fold_push (λ s j. s + part j) 0 (range_with_len 0 k) (0 + k)
      ∙ ap (λ j. sum_by part (range_with_len 0 k) + part j) (zero-add k)

  pub total-le : (m k one : ℕ) → ((j : ℕ) → amount j ≤ m) → total belongs_to amount k one ≤ k * m
  total-le m zero one small = omega arith
  total-le m (suc k) one small =
      let more = total-more k one in
      let before = total-le m k one small in
      let here = part_small (belongs_to k == one) k in
      let same : ◌≡◌ {A = ℕ} (suc k) (k + 1) = omega arith in
      let now : total belongs_to amount (suc k) one ≡ total belongs_to amount k one + cond (belongs_to k == one) (amount k) 0 =
      ap (λ (j : ℕ). total belongs_to amount j one) same ∙ more in
      let product : suc k * m ≡ k * m + m = grind arith in
      omega (arith, now, before, here, product)
    where
      part_small : (b : Bool) (k : ℕ) → cond {A = ℕ} b (amount k) 0 ≤ m
      part_small true k = small k
      part_small false k = omega arith

  -- a row of a table
  pub row_is : (n k i : ℕ) → i < n → get_or (table (total belongs_to amount k) n) i 0 ≡ total belongs_to amount k i
  row_is n k i lt = get_or-map-range_with_len (total belongs_to amount k) 0 n i i 0 lt (zero-add i)

  -- the amount of one more, added to its row
  pub raised : (n k : ℕ) → slice_set (table (total belongs_to amount k) n) (belongs_to k) (get_or (table (total belongs_to amount k) n) (belongs_to k) 0 + amount k)
      ≡ table (total belongs_to amount (k + 1)) n
  raised n k = elim (cases_lt (belongs_to k) n) [
    | inl lt ↦
        ap (λ v. slice_set (table f n) (belongs_to k) (v + amount k)) (row_is n k (belongs_to k) lt)
        ∙ map-range-set f g n (belongs_to k) (f (belongs_to k) + amount k) lt here others
    | inr past ↦
        set_past (table f n) (belongs_to k) _ (let long = length-map-range_with_len f 0 n in omega (arith, long, past))
        ∙ map-range-same f g 0 n (λ j low lt. sym (others j (λ same. let e : j ≡ belongs_to k = same in omega (arith, e, lt, past))))
  ]
    where
      f : ℕ → ℕ
      f = total belongs_to amount k

      g : ℕ → ℕ
      g = total belongs_to amount (k + 1)

      itself : (a : ℕ) → (a == a) ≡ true
      itself a = grind (arith, nat_tests)

      here : g (belongs_to k) ≡ f (belongs_to k) + amount k
      here = total-more k (belongs_to k) ∙ ap (λ (b : Bool). f (belongs_to k) + cond b (amount k) 0) (itself (belongs_to k))

      others : (j : ℕ) → j ≢ belongs_to k → g j ≡ f j
      others j other =
          let no : (belongs_to k == j) ≡ false = ne_eqb (belongs_to k) j (λ same. other (sym same)) in
          total-more k j ∙ ap (λ (b : Bool). f j + cond b (amount k) 0) no ∙ (let z : f j + 0 ≡ f j = omega arith in z)

  pub row_small : (m n k i : ℕ) → ((j : ℕ) → amount j ≤ m) → get_or (table (total belongs_to amount k) n) i 0 ≤ k * m
  row_small m n k i small = elim (cases_lt i n) [
    | inl lt ↦ omega (arith, row_is n k i lt, total-le m k i small)
    | inr past ↦
        let long = length-map-range_with_len (total belongs_to amount k) 0 n in
        omega (arith, get_or_past (table (total belongs_to amount k) n) i 0 (omega (arith, long, past)))
  ]
