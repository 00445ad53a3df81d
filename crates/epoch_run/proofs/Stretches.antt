-- Stretches of the control program, one behind the other.
use Rattle.std.proofs.Common.{◌≡◌, ℕ, ◌+◌, ◌<◌, ◌≤◌, ◌⊎◌, inl, inr, false, List, [], ◌++◌, length, take, drop, refl, sym, ap, ◌∙◌, arith}
use Rattle.std.specs.Prelude.{nat_lt}
use Rattle.std.proofs.lemmas.Bool.{cases_lt, le-ltb, lt-ltb, ltb-false}
use Rattle.std.proofs.lemmas.List.{append_assoc, drop-drop, length-append, length-drop, length-take-le}
use Rattle.std.proofs.lemmas.List.Prefix.{front_rest}
use Rattle.std.proofs.Math.Seq.{take-add}
use Rattle.control_run.specs.Stretches.{RunSoFar, advanced, created_so_far, remaining, whole}
use Rattle.flow_core_laws.specs.declared.activation.Activation.{Activation}
use Rattle.epoch_run.specs.Standing.{HasAdvanced, HasCreated}

module _ (m n : ℕ) (before between after : RunSoFar) (list longer longest : List Activation) (enough : nat_lt (length (remaining before)) m ≡ false)
    (one : HasCreated m before between list longer) (two : HasCreated n between after longer longest) where
  many : m ≤ length (remaining before)
  many = ltb-false (length (remaining before)) m enough

  -- what remains between the two is what remained before, without what the first one gave
  rest : remaining between ≡ drop m (remaining before)
  rest =
      ap remaining one.is_run
      ∙ ap (λ k. drop (before.created_by_now + k) (whole before).activations) (length-take-le m (remaining before) many)
      ∙ sym (drop-drop m before.created_by_now (whole before).activations)

  left : length (remaining between) + m ≡ length (remaining before)
  left = let e = ap length rest ∙ length-drop m (remaining before) in omega (arith, e, many)

  pub fewer : nat_lt (length (remaining between)) n ≡ nat_lt (length (remaining before)) (m + n)
  fewer = by (cases_lt (length (remaining between)) n)
    where
      by : (length (remaining between) < n) ⊎ (n ≤ length (remaining between)) → nat_lt (length (remaining between)) n ≡ nat_lt (length (remaining before)) (m + n)
      by (inl lt) = lt-ltb (length (remaining between)) n lt ∙ sym (lt-ltb (length (remaining before)) (m + n) (omega (arith, left, lt)))
      by (inr ge) = le-ltb (length (remaining between)) n ge ∙ sym (le-ltb (length (remaining before)) (m + n) (omega (arith, left, ge)))

  both : take (m + n) (remaining before) ≡ take m (remaining before) ++ take n (remaining between)
  both = take-add m n (remaining before) ∙ ap (λ xs. take m (remaining before) ++ take n xs) (sym rest)

  given : between.created_by_now + length (take n (remaining between)) ≡ before.created_by_now + length (take (m + n) (remaining before))
  given =
      let e = ap length both ∙ length-append (take m (remaining before)) (take n (remaining between)) in
      let b = ap (λ (r : RunSoFar). r.created_by_now) one.is_run in
      omega (arith, e, b)

  is_run : after ≡ advanced before (m + n)
  is_run =
      two.is_run
      ∙ ap (λ (r : RunSoFar). record r { created_by_now = between.created_by_now + length (take n (remaining between)); has_ended = nat_lt (length (remaining between)) n }) one.is_run
      ∙ ap (λ k. record before { created_by_now = k; has_ended = nat_lt (length (remaining between)) n }) given
      ∙ ap (λ b. record before { created_by_now = before.created_by_now + length (take (m + n) (remaining before)); has_ended = b }) fewer

  behind : (xs : List Activation) → (xs ++ take m (remaining before)) ++ take n (remaining between) ≡ xs ++ take (m + n) (remaining before)
  behind xs = append_assoc xs (take m (remaining before)) (take n (remaining between)) ∙ ap (λ ys. xs ++ ys) (sym both)

  -- two stretches are one
  pub goes_on : HasCreated (m + n) before after list longest
  goes_on = record {
    is_list = two.is_list ∙ ap (λ xs. xs ++ take n (remaining between)) one.is_list ∙ behind list;
    is_run = is_run;
    joined = two.joined ∙ ap (λ xs. xs ++ take n (remaining between)) one.joined ∙ behind (created_so_far before);
    all = λ h. two.all (fewer ∙ h);
    fit = two.fit;
    lawful = two.lawful;
  }

-- the new ones, apart from the list behind which they stand
module _ (at_most : ℕ) (before after : RunSoFar) (list longer : List Activation) (advance : HasAdvanced at_most before after list longer) where
  abbrev pub new_ones : List Activation
  new_ones = take advance.count (remaining before)

  pub are_new : HasAdvanced at_most before after [] new_ones
  are_new = record {
    count = advance.count;
    some = advance.some;
    few = advance.few;
    created = record {
      is_list = refl;
      is_run = advance.created.is_run;
      joined = advance.created.joined;
      all = advance.created.all;
      fit = advance.created.fit;
      lawful = advance.created.lawful;
    };
  }

  pub no_shorter : length list ≤ length longer
  no_shorter = let l = ap length advance.created.is_list ∙ length-append list new_ones in omega (arith, l)

  pub stand_behind : (items : List Activation) (first : ℕ) (slice : List Activation) → items ≡ longer → first ≡ length list → slice ≡ drop first items → slice ≡ new_ones
  stand_behind items first slice all from is = is ∙ ap (drop first) all ∙ ap (λ n. drop n longer) from ∙ front_rest longer list new_ones advance.created.is_list
