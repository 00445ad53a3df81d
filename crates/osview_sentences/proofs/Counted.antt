-- Sentences that are counted by their likeness, and taken away where the first of them is told.
use Rattle.std.proofs.Common.{◌≡◌, ◌∙◌, ◌<◌, ℕ, suc, ◌+◌, ◌-◌, Bool, true, false, ◌||◌, cond, List, [], ◌∷◌, ◌++◌, append_assoc, Option, count_by, drop, get_or, length, take, refl, sym, ap, arith}
use Rattle.std.proofs.lemmas.Bool.Decides.{nat_tests}
use Rattle.std.proofs.lemmas.List.Folds.{list_any_more}
use Rattle.std.proofs.lemmas.List.Sums.{count_by_more_no, count_by_more_yes, sum_by-cons, sum_by-drop_more, sum_by-take-drop}
use Rattle.std.proofs.lemmas.Option.{slice_get-get_or}
use Rattle.std.specs.Prelude.{◌==◌}
use Rattle.std.specs.List.{flat_map, list_any, range_with_len}
use Rattle.std.specs.Option.{option_map_or}
use Rattle.os_io.specs.Lines.{ended_line}
use Rattle.osview_sentences.specs.Report.{line_at, more_text, told_at}
use Rattle.osview_sentences.specs.Sentences.{is_alike, is_same, is_supplied_so}
use Rattle.osview_sentences.specs.Tally.{left, told_for}
use Rattle.osview_sentences.specs.declared.fact.Fact.{Fact}
use Rattle.osview_sentences.specs.declared.fact.Fact.TheVariants as fact
use Rattle.osview_sentences.specs.declared.fact.Sentence.{Sentence}
use Rattle.osview_sentences.specs.declared.fact.Supply.{Supply}
use Rattle.osview_sentences.specs.declared.fact.Supply.TheVariants as supply
use Rattle.osview_sentences.specs.declared.tally.Tally.{Tally}
use Rattle.osview_sentences.proofs.Stretches.{one_more}

so_itself : (by : Supply) → is_supplied_so by by ≡ true
so_itself supply.Ended = refl
so_itself supply.Nobody = refl
so_itself supply.Itself = refl
so_itself (supply.Waiting giver) = refl

same_itself : (f : Fact) → is_same f f ≡ true
same_itself (fact.Trapped code line) = grind (arith, nat_tests)
same_itself fact.OverBudget = refl
same_itself (fact.Poisoned root) = grind (arith, nat_tests)
same_itself (fact.Waits stream position by) = grind (arith, nat_tests, so_itself by)

-- a sentence is like itself
pub alike_itself : (s : Sentence) → is_alike s s ≡ true
alike_itself s = grind (arith, nat_tests, same_itself s.fact)

none_of : (b c : Bool) (n : ℕ) → (b || c) ≡ false → (c ≡ false → n ≡ 0) → cond b 1 0 + n ≡ 0
none_of true c n none is = cc
none_of false c n none is = ap (λ (k : ℕ). 0 + k) (is none)

none_counted : {A : Type 0} (p : A → Bool) (xs : List A) → list_any p xs ≡ false → count_by p xs ≡ 0
none_counted p [] none = refl
none_counted p (x ∷ xs) none = sum_by-cons (λ y. cond (p y) 1 0) x xs ∙ none_of (p x) (list_any p xs) (count_by p xs) none (none_counted p xs)

-- where none before one passes, but it does: those that pass are it and those behind it
first_counted : {A : Type 0} (p : A → Bool) (xs : List A) (i : ℕ) (d : A) → i < length xs → list_any p (take i xs) ≡ false → p (get_or xs i d) ≡ true
    → count_by p xs ≡ suc (count_by p (drop (i + 1) xs))
first_counted p xs i d lt none here =
    let before = none_counted p (take i xs) none in
    let parts = sum_by-take-drop (λ y. cond (p y) 1 0) xs i in
    let behind = sum_by-drop_more (λ y. cond (p y) 1 0) xs i d lt in
    let one : ◌≡◌ {A = ℕ} (cond (p (get_or xs i d)) 1 0) 1 = ap (λ (b : Bool). cond {A = ℕ} b 1 0) here in
    omega (arith, before, parts, behind, one)

-- one more was counted
pub one_more_counted : {A : Type 0} (p : A → Bool) (xs : List A) (i : ℕ) (d : A) {old new : ℕ} → i < length xs → old ≡ count_by p (take i xs)
    → new ≡ cond (p (get_or xs i d)) (old + 1) old → new ≡ count_by p (take (i + 1) xs)
one_more_counted p xs i d {old} lt before now = now ∙ counted (p (get_or xs i d)) refl where
  counted : (b : Bool) → p (get_or xs i d) ≡ b → cond b (old + 1) old ≡ count_by p (take (i + 1) xs)
  counted true e = ap (λ (n : ℕ). n + 1) before ∙ sym (count_by_more_yes p xs i d lt e)
  counted false e = before ∙ sym (count_by_more_no p xs i d lt e)

when_among : (b c : Bool) (rest : List ℕ) → b ≡ c → cond c [] rest ≡ cond b [] rest
when_among b c rest e = ap (λ (d : Bool). cond d [] rest) (sym e)

told_count : (told : ℕ → List ℕ) (n m : ℕ) → n ≡ suc m → cond (n == 0) [] (told (n - 1)) ≡ told m
told_count told n m e =
    let some : (n == 0) ≡ false = grind (arith, nat_tests) in
    let less : n - 1 ≡ m = omega (arith, e) in
    ap (λ (b : Bool). cond b [] (told (n - 1))) some ∙ ap told less

module _ (say : Sentence → List ℕ) where
  told_so : (all : List Sentence) (i : ℕ) (s : Sentence) (count : ℕ) (b : Bool) → list_any (is_alike s) (take i all) ≡ b
      → (b ≡ false → count_by (is_alike s) all ≡ suc (count_by (is_alike s) (drop (i + 1) all)))
      → count ≡ cond b 0 (count_by (is_alike s) all) → told_for say s count ≡ told_at say all i s
  told_so all i s count true among is e = ap (told_for say s) e ∙ when_among (list_any (is_alike s) (take i all)) true _ among
  told_so all i s count false among is e =
      told_count (λ (more : ℕ). ended_line (say s ++ more_text more)) count (count_by (is_alike s) (drop (i + 1) all)) (e ∙ is refl)
      ∙ when_among (list_any (is_alike s) (take i all)) false _ among

  -- what is told of a sentence for those that are left
  pub told_here : (all : List Sentence) (i : ℕ) (d : Sentence) (count : ℕ) → i < length all
      → count ≡ cond (list_any (is_alike (get_or all i d)) (take i all)) 0 (count_by (is_alike (get_or all i d)) all)
      → told_for say (get_or all i d) count ≡ line_at say all i
  told_here all i d count lt e =
      let s = get_or all i d in
      told_so all i s count (list_any (is_alike s) (take i all)) refl (λ none. first_counted (is_alike s) all i d lt none (alike_itself s)) e
      ∙ sym (ap (λ (o : Option Sentence). option_map_or (told_at say all i) o []) (slice_get-get_or all i d lt))

  -- one more line
  pub line_told : (all : List Sentence) (i : ℕ) (d : Sentence) (tally : Tally) (old so_far new : List ℕ) (count : ℕ) → i < length all
      → so_far ≡ old ++ flat_map (line_at say all) (range_with_len 0 i)
      → ((s : Sentence) → left tally s ≡ cond (list_any (is_alike s) (take i all)) 0 (count_by (is_alike s) all))
      → count ≡ left tally (get_or all i d)
      → new ≡ so_far ++ told_for say (get_or all i d) count
      → new ≡ old ++ flat_map (line_at say all) (range_with_len 0 (i + 1))
  line_told all i d tally old so_far new count lt before rest is now =
      let f = line_at say all in
      let told = told_for say (get_or all i d) count in
      let fronts = flat_map f (range_with_len 0 i) in
      now ∙ ap (λ (x : List ℕ). x ++ told) before ∙ append_assoc old fronts told
      ∙ ap (λ (x : List ℕ). old ++ (fronts ++ x)) (told_here all i d count lt (is ∙ rest (get_or all i d)))
      ∙ ap (λ (x : List ℕ). old ++ x) (sym (one_more f i))

taken : (some here : Bool) (n : ℕ) → cond here 0 (cond some 0 n) ≡ cond (some || here) 0 n
taken true true n = refl
taken true false n = refl
taken false true n = refl
taken false false n = refl

-- those that are left behind one more place
pub left_behind : (all : List Sentence) (i : ℕ) (d s : Sentence) {old new : ℕ} → i < length all
    → old ≡ cond (list_any (is_alike s) (take i all)) 0 (count_by (is_alike s) all)
    → new ≡ cond (is_alike s (get_or all i d)) 0 old
    → new ≡ cond (list_any (is_alike s) (take (i + 1) all)) 0 (count_by (is_alike s) all)
left_behind all i d s lt before now =
    now ∙ ap (cond (is_alike s (get_or all i d)) 0) before
    ∙ taken (list_any (is_alike s) (take i all)) (is_alike s (get_or all i d)) (count_by (is_alike s) all)
    ∙ ap (λ (b : Bool). cond b 0 (count_by (is_alike s) all)) (sym (list_any_more (is_alike s) all i d lt))
