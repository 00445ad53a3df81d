-- The readers that are judged, one more at a time.
use Rattle.std.proofs.Common.{◌≡◌, ◌≢◌, ℕ, ◌+◌, ◌<◌, ◌≤◌, ◌⊎◌, List, Some, Bool, true, false, inl, inr, length, get_or, replicate, set, sym, ap, ◌∙◌, subst, arith}
use Rattle.std.specs.Prelude.{slice_get}
use Rattle.std.proofs.lemmas.Bool.{cases_eq}
use Rattle.std.proofs.lemmas.List.{get_or-set_other, get_or-set_same, length-replicate, length-set}
use Rattle.std.proofs.lemmas.Option.{slice_get-get_or}
use Rattle.os_io.proofs.Repeated.{get_or-repeated}
use Rattle.stream_match_layouts.specs.Spans.{frame_count, spans_of}
use Rattle.stream_match_layouts.specs.declared.layout.Layout.{Layout}
use Rattle.epoch_run_ready.proofs.Marks.{one_more}
use Rattle.epoch_run_ready.specs.Unreached.{AreJudged, ReadBefore, WriteBehind}

module _ (layout : Layout) (readers : List ℕ) (first : ℕ) (low : List ℕ) where
  -- at first none has a mark
  pub judged_none : (waits : List Bool) → waits ≡ replicate (frame_count layout) false → AreJudged layout readers first low waits (length readers)
  judged_none waits is = record {
    one_each = ap (λ (xs : List Bool). length xs) is ∙ length-replicate (frame_count layout) false;
    are_before = λ a m. absurd (let z = none a in cc);
    are_readers = λ a m. absurd (let z = none a in cc);
    read_before = λ a m. absurd (let z = none a in cc);
    others = λ f le lt. absurd (omega arith);
  }
    where
      none : (a : ℕ) → get_or waits a false ≡ false
      none a = ap (λ ws. get_or ws a false) is ∙ get_or-repeated (frame_count layout) a false

  -- one that gets a mark
  pub judged_marked : (waits : List Bool) (n a : ℕ) → a ≡ get_or readers n 0 → n < length readers → a < frame_count layout → a < first → ReadBefore low (spans_of layout a) → AreJudged layout readers first low waits (n + 1) → AreJudged layout readers first low (set waits a true) n
  judged_marked waits n a is lt exists old below are = record {
    one_each = length-set waits a true ∙ are.one_each;
    are_before = λ b m. before b (which b m);
    are_readers = λ b m. reader b (which b m);
    read_before = λ b m. reads b (which b m);
    others = λ f le f_lt. other f le f_lt (cases_eq f n);
  }
    where
      within : a < length waits
      within = omega (arith, are.one_each)

      which : (b : ℕ) → get_or (set waits a true) b false ≡ true → (b ≡ a) ⊎ (get_or waits b false ≡ true)
      which b m = by (cases_eq b a)
        where
          by : (b ≡ a) ⊎ (b ≢ a) → (b ≡ a) ⊎ (get_or waits b false ≡ true)
          by (inl same) = inl same
          by (inr other) = inr (sym (get_or-set_other waits a b true false other) ∙ m)

      before : (b : ℕ) → (b ≡ a) ⊎ (get_or waits b false ≡ true) → b < first
      before b (inl same) = omega (arith, same, old)
      before b (inr was) = are.are_before b was

      reader : (b : ℕ) → (b ≡ a) ⊎ (get_or waits b false ≡ true) → (f : ℕ) × (slice_get readers f ≡ Some b)
      reader b (inl same) = (n, slice_get-get_or readers n 0 lt ∙ ap (λ (x : ℕ). Some x) (sym (same ∙ is)))
      reader b (inr was) = are.are_readers b was

      reads : (b : ℕ) → (b ≡ a) ⊎ (get_or waits b false ≡ true) → ReadBefore low (spans_of layout b)
      reads b (inl same) = subst (λ n. ReadBefore low (spans_of layout n)) (sym same) below
      reads b (inr was) = are.read_before b was

      kept : (b : ℕ) → (get_or waits b false ≡ true) ⊎ WriteBehind low (spans_of layout b) → (get_or (set waits a true) b false ≡ true) ⊎ WriteBehind low (spans_of layout b)
      kept b (inl was) = inl (one_more waits a within b was)
      kept b (inr behind) = inr behind

      other : (f : ℕ) → n ≤ f → f < length readers → (f ≡ n) ⊎ (f ≢ n) → (get_or (set waits a true) (get_or readers f 0) false ≡ true) ⊎ WriteBehind low (spans_of layout (get_or readers f 0))
      other f le f_lt (inl same) = inl (ap (λ m. get_or (set waits a true) m false) (ap (λ m. get_or readers m 0) same ∙ sym is) ∙ get_or-set_same waits a true false within)
      other f le f_lt (inr differs) = kept (get_or readers f 0) (are.others f (omega arith) f_lt)

  -- one that gets none
  pub judged_other : (waits : List Bool) (n : ℕ) → WriteBehind low (spans_of layout (get_or readers n 0)) → AreJudged layout readers first low waits (n + 1) → AreJudged layout readers first low waits n
  judged_other waits n behind are = record {
    one_each = are.one_each;
    are_before = are.are_before;
    are_readers = are.are_readers;
    read_before = are.read_before;
    others = λ f le f_lt. other f le f_lt (cases_eq f n);
  }
    where
      other : (f : ℕ) → n ≤ f → f < length readers → (f ≡ n) ⊎ (f ≢ n) → (get_or waits (get_or readers f 0) false ≡ true) ⊎ WriteBehind low (spans_of layout (get_or readers f 0))
      other f le f_lt (inl same) = inr (subst (λ m. WriteBehind low (spans_of layout (get_or readers m 0))) (sym same) behind)
      other f le f_lt (inr differs) = are.others f (omega arith) f_lt
