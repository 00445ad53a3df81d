-- Outcomes that go on where the ones before them end.
use Rattle.std.proofs.Common.{◌≡◌, ℕ, zero, suc, ◌+◌, ◌-◌, ◌<◌, ◌≤◌, List, [], ◌∷◌, ◌++◌, Option, Some, None, IsSome, map, take, length, refl, sym, ap, ◌∙◌, subst, ◌⊎◌, inl, inr, arith}
use Rattle.std.specs.Prelude.{All, flat_map, slice_get, slice_index, slice_index_or}
use Rattle.std.specs.List.{range_with_len}
use Rattle.std.proofs.lemmas.List.Elements.{All-append}
use Rattle.std.proofs.lemmas.Bool.{cases_lt}
use Rattle.std.proofs.lemmas.List.{append-nil, append_assoc, get_or_append_left, get_or-append_right, length-append, length-map}
use Rattle.std.proofs.lemmas.List.FromFn.{get_or-map-range_with_len, length-map-range_with_len}
use Rattle.std.proofs.lemmas.Option.{same_Some, slice_get_within}
use Rattle.flow_core_laws.specs.declared.elem.Elem.{Elem}
use Rattle.flow_core_laws.specs.declared.task_end.TaskEnd.{TaskEnd}
use Rattle.stream_match_layouts.specs.declared.layout.Layout.{Layout}
use Rattle.epoch_run_batches.specs.Meant.{AreMeant, element_meant, end_meant}
use Rattle.epoch_run_batches.specs.declared.batch_outcome.BatchOutcome.{BatchOutcome}
use Rattle.epoch_run_batches.specs.declared.ended.Ended.{Ended}
use Rattle.epoch_run_stretch.specs.Consecutive.{AreConsecutive, GoOn, GoOnEnds, HaveGoneOn, HaveGoneOnEnds, elements_in, ends_in, ends_of_batch, part_of}
use Rattle.epoch_run_stretch.specs.Gathered.{AreGathered, HaveMore, IsGathered, held_to}

-- one item more
with_next : {X A : Type 0} (f : X → List A) (xs : List X) (i : ℕ) (x : X) → slice_get xs i ≡ Some x → flat_map f (take (suc i) xs) ≡ flat_map f (take i xs) ++ f x
with_next f [] i x h = absurd (cc)
with_next f (y ∷ xs) zero x h = append-nil (f y) ∙ ap f (same_Some y x h)
with_next f (y ∷ xs) (suc i) x h = ap (λ l. f y ++ l) (with_next f xs i x h) ∙ sym (append_assoc (f y) (flat_map f (take i xs)) (f x))

one_more : {X A : Type 0} (f : X → List A) (xs : List X) (i : ℕ) (x : X) → slice_get xs i ≡ Some x → flat_map f (take (i + 1) xs) ≡ flat_map f (take i xs) ++ f x
one_more f xs i x h = let e : i + 1 ≡ suc i = omega arith in ap (λ n. flat_map f (take n xs)) e ∙ with_next f xs i x h

-- a fact on each item that is there, by its place, goes over to two lists one after the other
joined_facts : {A : Type 0} (Fact : ℕ → A → Type 0) (from : ℕ) (xs ys : List (Option A))
    → ((k : ℕ) (e : A) → slice_index_or xs k None ≡ Some e → Fact (from + k) e)
    → ((k : ℕ) (e : A) → slice_index_or ys k None ≡ Some e → Fact (from + length xs + k) e)
    → (k : ℕ) (e : A) → slice_index_or (xs ++ ys) k None ≡ Some e → Fact (from + k) e
joined_facts {A} Fact from xs ys low high k e is = by (cases_lt k (length xs))
  where
    by : (k < length xs) ⊎ (length xs ≤ k) → Fact (from + k) e
    by (inl lt) = low k e (sym (get_or_append_left xs ys None k lt) ∙ is)
    by (inr le) =
        let same : from + length xs + (k - length xs) ≡ from + k = omega (arith, le) in
        subst (λ p. Fact p e) same (high (k - length xs) e (sym (get_or-append_right xs ys (length xs) k None refl le) ∙ is))

pub going_on : (outcomes : List BatchOutcome) (i : ℕ) (outcome : BatchOutcome) (stream from position next : ℕ) → slice_get outcomes i ≡ Some outcome
    → HaveGoneOn outcomes (take i outcomes) stream from position → GoOn outcome stream position next → HaveGoneOn outcomes (take (i + 1) outcomes) stream from next
going_on outcomes i outcome stream from position next at so_far one =
    let before = elements_in stream (take i outcomes) in
    let part = part_of outcome stream in
    let all : elements_in stream (take (i + 1) outcomes) ≡ before ++ part = one_more (λ (o : BatchOutcome). part_of o stream) outcomes i outcome at in
    record {
      next_is = omega (arith, one.next_is, so_far.next_is, ap length all, length-append before part);
      all = subst (All IsSome) (sym all) (All-append IsSome before part so_far.all one.all);
      meant = λ run are. subst (AreMeant run stream from) (sym all)
          (joined_facts (λ p e. element_meant run stream p ≡ Some e) from before part (so_far.meant run are)
          (subst (λ p. AreMeant run stream p part) so_far.next_is (one.meant run (are i outcome at).elements)));
    }

-- each end of a batch is that of an activation of it
end_in_batch : (ended : List Ended) (k : ℕ) (e : TaskEnd) → slice_index_or (ends_of_batch ended) k None ≡ Some e → (x : Ended) × (slice_get ended k ≡ Some x) × (x.end ≡ e)
end_in_batch [] k e h = let no : None ≡ Some e = h in absurd (cc)
end_in_batch (x ∷ xs) zero e h = (x, refl, same_Some x.end e h)
end_in_batch (x ∷ xs) (suc k) e h = end_in_batch xs k e h

all_are_there : (ended : List Ended) → All IsSome (ends_of_batch ended)
all_are_there [] k d lt = absurd (omega (arith, lt))
all_are_there (x ∷ xs) zero d lt = refl
all_are_there (x ∷ xs) (suc k) d lt = all_are_there xs k d (omega (arith, lt))

pub numbers_go_on : (ended : List Ended) (first next n : ℕ) → next ≡ first + n → n ≡ length ended
    → ((k : ℕ) (e : Ended) → k < n → slice_get ended k ≡ Some e → e.number ≡ first + k) → GoOnEnds ended first next
numbers_go_on ended first next n is size numbers = record {
  next_is = omega (arith, is, size);
  meant = λ run are k e at.
      let (x, there, same) = end_in_batch ended k e at in
      let lt : k < n = omega (arith, slice_get_within ended k x there, size) in
      ap (end_meant run) (sym (numbers k x lt there)) ∙ are k x there ∙ ap Some same;
}

pub ends_going_on : (outcomes : List BatchOutcome) (i : ℕ) (outcome : BatchOutcome) (first number next : ℕ) → slice_get outcomes i ≡ Some outcome
    → HaveGoneOnEnds outcomes (take i outcomes) first number → GoOnEnds outcome.ended number next → HaveGoneOnEnds outcomes (take (i + 1) outcomes) first next
ends_going_on outcomes i outcome first number next at so_far one =
    let before = ends_in (take i outcomes) in
    let part = ends_of_batch outcome.ended in
    let all : ends_in (take (i + 1) outcomes) ≡ before ++ part = one_more (λ (o : BatchOutcome). ends_of_batch o.ended) outcomes i outcome at in
    record {
      next_is = omega (arith, one.next_is, so_far.next_is, ap length all, length-append before part, length-map outcome.ended (λ (e : Ended). Some e.end));
      all = subst (All IsSome) (sym all) (All-append IsSome before part so_far.all (all_are_there outcome.ended));
      meant = λ run are. subst (λ es. (k : ℕ) (e : TaskEnd) → slice_index_or es k None ≡ Some e → end_meant run (first + k) ≡ Some e) (sym all)
          (joined_facts (λ p e. end_meant run p ≡ Some e) first before part (so_far.meant run are)
          (subst (λ p. (k : ℕ) (e : TaskEnd) → slice_index_or part k None ≡ Some e → end_meant run (p + k) ≡ Some e) so_far.next_is (one.meant run (are i outcome at).ends)));
    }

-- the elements that outcomes have of each stream
abbrev pub streams_in : (count : ℕ) → List BatchOutcome → List (List (Option Elem))
streams_in count outcomes = map (λ stream. elements_in stream outcomes) (range_with_len 0 count)

stream_in : (count : ℕ) (outcomes : List BatchOutcome) (s : ℕ) → s < count → slice_index_or (streams_in count outcomes) s [] ≡ elements_in s outcomes
stream_in count outcomes s lt = get_or-map-range_with_len (λ stream. elements_in stream outcomes) 0 count s s [] lt (omega arith)

-- where they are consecutive they are all
pub consecutive_gathered : (firsts : List ℕ) (elements : List (List (Option Elem))) (layout : Layout) (outcomes : List BatchOutcome)
    → AreConsecutive firsts elements layout outcomes (length elements) → AreGathered firsts elements layout outcomes (length elements) (streams_in (length elements) outcomes)
consecutive_gathered firsts elements layout outcomes are = record {
  as_many = length-map-range_with_len (λ stream. elements_in stream outcomes) 0 (length elements);
  each = λ s some lt. subst (IsGathered (held_to firsts elements s) (slice_index layout.cursors.writes s) outcomes s) (sym (stream_in (length elements) outcomes s lt)) (are s some lt);
}

-- and they are what is put after each stream
pub streams_more : (outcomes : List BatchOutcome) (before after : List (List (Option Elem))) → HaveMore (length before) (λ s. elements_in s outcomes) before after
    → HaveMore (length before) (λ s. slice_index_or (streams_in (length before) outcomes) s []) before after
streams_more outcomes before after more = record {
  as_many = more.as_many;
  more = λ s some lt within. more.more s some lt within ∙ ap (λ es. slice_index_or before s [] ++ es) (sym (stream_in (length before) outcomes s lt));
  same = more.same;
}
