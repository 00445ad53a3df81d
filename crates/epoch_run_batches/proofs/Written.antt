-- What is written is meant.
use Rattle.std.proofs.Common.{◌≡◌, ◌≢◌, ℕ, zero, suc, ◌+◌, ◌-◌, ◌<◌, ◌≤◌, List, [], ◌++◌, Option, Some, None, map, length, replicate, take, drop, refl, sym, ap, ◌∙◌, subst, ◌⊎◌, inl, inr, arith, length-append}
use Rattle.std.specs.Prelude.{slice_index, slice_index_or, slice_set}
use Rattle.std.specs.List.{range_with_len}
use Rattle.std.proofs.lemmas.Bool.{cases_lt}
use Rattle.std.proofs.lemmas.List.{length-replicate, take-append-le, take_all, get_or_append_left, get_or-append_right, get_or_past, get_or-set_other, get_or-set_same}
use Rattle.std.proofs.lemmas.List.FromFn.{get_or-map-range_with_len, length-map-range_with_len}
use Rattle.os_io.proofs.Repeated.{get_or-repeated}
use Rattle.flow_core_laws.specs.declared.elem.Elem.{Elem}
use Rattle.epoch_run_batches.specs.declared.streams.Streams.{Streams}
use Rattle.epoch_run_batches.specs.Meant.{AreMeant, HoldMeant, Run, element_meant}

-- two lists behind one another
pub append_meant : (run : Run) (stream first : ℕ) (xs ys : List (Option Elem)) → AreMeant run stream first xs → AreMeant run stream (first + length xs) ys → AreMeant run stream first (xs ++ ys)
append_meant run stream first xs ys at_xs at_ys k e is = by (cases_lt k (length xs))
  where
    by : (k < length xs) ⊎ (length xs ≤ k) → element_meant run stream (first + k) ≡ Some e
    by (inl lt) = at_xs k e (sym (get_or_append_left xs ys None k lt) ∙ is)
    by (inr ge) =
        ap (element_meant run stream) (let s : first + k ≡ first + length xs + (k - length xs) = omega arith in s)
        ∙ at_ys (k - length xs) e (sym (get_or-append_right xs ys (length xs) k None refl ge) ∙ is)

-- of elements that aren't there nothing is asked
pub none_meant : (run : Run) (stream first n : ℕ) → AreMeant run stream first (replicate n None)
none_meant run stream first n k e is = let h = get_or-repeated {A = Option Elem} n k None in absurd (cc)

-- elements that are meant one by one
pub each_meant : (run : Run) (stream first offset n : ℕ) (g : ℕ → Option Elem) → ((k : ℕ) → k < n → element_meant run stream (first + k) ≡ g (offset + k)) → AreMeant run stream first (map g (range_with_len offset n))
each_meant run stream first offset n g each k e is = by (cases_lt k n)
  where
    by : (k < n) ⊎ (n ≤ k) → element_meant run stream (first + k) ≡ Some e
    by (inl lt) = each k lt ∙ sym (get_or-map-range_with_len g offset n k (offset + k) None lt refl) ∙ is
    by (inr ge) = let h = get_or_past (map g (range_with_len offset n)) k None (omega (arith, length-map-range_with_len g offset n)) in absurd (cc)

-- elements of which each that is there is meant
pub each_held : (run : Run) (stream first n : ℕ) (g : ℕ → Option Elem) → ((k : ℕ) (e : Elem) → g (first + k) ≡ Some e → element_meant run stream (first + k) ≡ Some e) → AreMeant run stream first (map g (range_with_len first n))
each_held run stream first n g each k e is = by (cases_lt k n)
  where
    by : (k < n) ⊎ (n ≤ k) → element_meant run stream (first + k) ≡ Some e
    by (inl lt) = each k e (sym (get_or-map-range_with_len g first n k (first + k) None lt refl) ∙ is)
    by (inr ge) = let h = get_or_past (map g (range_with_len first n)) k None (omega (arith, length-map-range_with_len g first n)) in absurd (cc)

-- what is filled up and then written
pub written_meant : (run : Run) (stream first from offset n at : ℕ) (xs ys zs : List (Option Elem)) (g : ℕ → Option Elem)
    → first ≤ from → at ≡ from - first → length xs ≤ at → ys ≡ xs ++ replicate (at - length xs) None → zs ≡ ys ++ map g (range_with_len offset n)
    → ((k : ℕ) → k < n → element_meant run stream (from + k) ≡ g (offset + k)) → AreMeant run stream first xs → AreMeant run stream first zs
written_meant run stream first from offset n at xs ys zs g le at_is few ys_is zs_is each meant =
    let filled : AreMeant run stream first ys = subst (AreMeant run stream first) (sym ys_is) (append_meant run stream first xs (replicate (at - length xs) None) meant (none_meant run stream (first + length xs) (at - length xs))) in
    let size : length ys ≡ at = ap length ys_is ∙ length-append xs (replicate (at - length xs) None) ∙ ap (λ m. length xs + m) (length-replicate (at - length xs) None) ∙ (omega (arith, few)) in
    let begins : first + length ys ≡ from = omega (arith, size, at_is, le) in
    subst (AreMeant run stream first) (sym zs_is)
    (append_meant run stream first ys (map g (range_with_len offset n)) filled
    (subst (λ p. AreMeant run stream p (map g (range_with_len offset n))) (sym begins) (each_meant run stream from offset n g each)))

-- one stream written
pub stream_meant : (run : Run) (streams after : Streams) (stream : ℕ) (xs : List (Option Elem)) → stream < length streams.elements → after.firsts ≡ streams.firsts
    → after.elements ≡ slice_set streams.elements stream xs → (AreMeant run stream (slice_index streams.firsts stream) (slice_index_or streams.elements stream []) → AreMeant run stream (slice_index streams.firsts stream) xs)
    → HoldMeant run streams → HoldMeant run after
stream_meant run streams after stream xs lt firsts elements meant holds other =
    subst (λ fs. AreMeant run other (slice_index fs other) (slice_index_or after.elements other [])) (sym firsts)
    (subst (λ es. AreMeant run other (slice_index streams.firsts other) (slice_index_or es other [])) (sym elements) (by (cases other stream)))
  where
    cases : (n m : ℕ) → (n ≡ m) ⊎ (n ≢ m)
    cases zero zero = inl refl
    cases zero (suc m) = inr (λ e. absurd (cc))
    cases (suc n) zero = inr (λ e. absurd (cc))
    cases (suc n) (suc m) = more (cases n m)
      where
        more : (n ≡ m) ⊎ (n ≢ m) → (suc n ≡ suc m) ⊎ (suc n ≢ suc m)
        more (inl e) = inl (ap suc e)
        more (inr ne) = inr (λ e. ne (omega (arith, e)))

    by : (other ≡ stream) ⊎ (other ≢ stream) → AreMeant run other (slice_index streams.firsts other) (slice_index_or (slice_set streams.elements stream xs) other [])
    by (inl same) =
        subst (λ s. AreMeant run s (slice_index streams.firsts s) (slice_index_or (slice_set streams.elements stream xs) s [])) (sym same)
        (subst (AreMeant run stream (slice_index streams.firsts stream)) (sym (get_or-set_same streams.elements stream xs [] lt)) (meant (holds stream)))
    by (inr apart) = subst (AreMeant run other (slice_index streams.firsts other)) (sym (get_or-set_other streams.elements stream other xs [] apart)) (holds other)

-- a list whose items were lent and came back with one of them new
pub lent_is : {A : Type 0} (was now : List A) → length now ≡ length was → take (length was) (now ++ drop (length now) was) ≡ now
lent_is was now size =
    take-append-le (length was) now (drop (length now) was) (omega (arith, size)) ∙ take_all (length was) now (omega (arith, size))
