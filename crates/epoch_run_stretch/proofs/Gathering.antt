-- What was gathered, and what it is put after.
use Rattle.std.proofs.Common.{◌≡◌, ℕ, ◌+◌, ◌-◌, ◌<◌, ◌≤◌, List, [], ◌∷◌, ◌++◌, Option, Some, None, IsSome, map, take, drop, length, get_or, refl, sym, ap, ◌∙◌, subst, ◌⊎◌, inl, inr, arith}
use Rattle.std.specs.Prelude.{All, IfOk, IfSome, Result, Ok, Err, slice_index, slice_index_or}
use Rattle.std.specs.Option.{option_map}
use Rattle.std.specs.List.{range_with_len}
use Rattle.std.proofs.lemmas.Bool.{cases_lt}
use Rattle.std.proofs.lemmas.List.{same_lists, get_or_append_left, get_or-append_right, get_or_default, get_or-drop, get_or-map, length-append, length-drop, length-map, length-take-le}
use Rattle.std.proofs.lemmas.List.FromFn.{get_or-map-range_with_len, length-map-range_with_len}
use Rattle.flow_core_laws.specs.declared.activation.Activation.{Activation}
use Rattle.flow_core_laws.specs.declared.elem.Elem.{Elem}
use Rattle.flow_core_laws.specs.declared.outcome.Outcome.{Outcome}
use Rattle.flow_core_laws.specs.declared.place.Place.{Place}
use Rattle.flow_core_laws.specs.declared.task_end.TaskEnd.{TaskEnd}
use Rattle.flow_core_laws.specs.Outcome.{State, ends_of, outcome_at}
use Rattle.flow_core_laws.specs.Place.{places_from, written_count}
use Rattle.flow_core_laws.specs.Poisoning.{poisoning}
use Rattle.flow_core_laws.specs.Streams.{stream_element, stream_meaning, stream_reads, stream_source}
use Rattle.flow_core_laws.proofs.Rounds.{length-meaning}
use Rattle.flow_core_epochs.proofs.Choosing.{end_in}
use Rattle.epoch_run_in_order_laws.specs.Apart.{HaveEndedFrom, HoldWritten}
use Rattle.epoch_run_in_order_laws.specs.InOrder.{elements_on}
use Rattle.epoch_run_in_order_laws.specs.Laws.{AreJoined, Join}
use Rattle.epoch_run_in_order_laws.proofs.Apart.{length-elements_on}
use Rattle.flow_core_laws.specs.FirstPosition.{write_cursor}
use Rattle.flow_core_laws.specs.Window.{windows}
use Rattle.stream_match_layouts.proofs.Windows.{claims_in-windows}
use Rattle.stream_match_layouts.specs.Layout.{IsLayoutOf, claims_in}
use Rattle.stream_match_layouts.specs.declared.layout.Layout.{Layout}
use Rattle.epoch_run_batches.specs.Meant.{AreMeant, Run, meant}
use Rattle.epoch_run_batches.specs.Outcome.{AreAllMeant}
use Rattle.epoch_run_batches.specs.declared.batch_outcome.BatchOutcome.{BatchOutcome}
use Rattle.epoch_run_stretch.specs.Ends.{AreEndsFrom}
use Rattle.epoch_run_stretch.specs.Gathered.{AreGathered, HaveMore, HoldAll, IsGathered, held_to}

-- a part that was gathered, where there is one
pub part_gathered : {E : Type 0} (r : Result (Option (List (Option Elem))) E) (from to : ℕ) (outcomes : List BatchOutcome) (stream : ℕ)
    → IfOk r (λ part. IfSome part (λ xs. length xs ≡ to - from)) → IfOk r (λ part. IfSome part (λ xs. All IsSome xs))
    → IfOk r (λ part. IfSome part (λ xs. (run : Run) → AreAllMeant run outcomes → AreMeant run stream from xs))
    → IfOk r (λ part. IfSome part (λ xs. 1 ≤ stream → IsGathered from to outcomes stream xs))
part_gathered (Ok (Some xs)) from to outcomes stream count all meant = λ some. record { count = count; all = all; meant = meant }
part_gathered (Ok None) from to outcomes stream count all meant = meant
part_gathered (Err e) from to outcomes stream count all meant = meant

-- one stream more
pub one_more_gathered : (firsts : List ℕ) (elements : List (List (Option Elem))) (layout : Layout) (outcomes : List BatchOutcome) (n : ℕ) (parts : List (List (Option Elem))) (part : List (Option Elem))
    → AreGathered firsts elements layout outcomes n parts
    → (1 ≤ n → IsGathered (held_to firsts elements n) (slice_index layout.cursors.writes n) outcomes n part)
    → AreGathered firsts elements layout outcomes (n + 1) (parts ++ part ∷ [])
one_more_gathered firsts elements layout outcomes n parts part so_far one = record {
  as_many = let a = length-append parts (part ∷ []) in omega (arith, a, so_far.as_many);
  each = λ s some lt. by s some lt (cases_lt s n);
}
  where
    Each : ℕ → List (Option Elem) → Type 0
    Each s xs = IsGathered (held_to firsts elements s) (slice_index layout.cursors.writes s) outcomes s xs

    by : (s : ℕ) → 1 ≤ s → s < n + 1 → (s < n) ⊎ (n ≤ s) → Each s (slice_index_or (parts ++ part ∷ []) s [])
    by s some lt (inl low) = subst (Each s) (sym (get_or_append_left parts (part ∷ []) [] s (omega (arith, low, so_far.as_many)))) (so_far.each s some low)
    by s some lt (inr high) =
        let e : n ≡ s = omega (arith, lt, high) in
        let last : slice_index_or (parts ++ part ∷ []) n [] ≡ part = get_or-append_right parts (part ∷ []) (length parts) n [] refl (omega (arith, so_far.as_many)) ∙ ap (λ k. get_or (part ∷ []) k []) (let z : n - length parts ≡ 0 = omega (arith, so_far.as_many) in z) in
        subst (λ k. Each k (slice_index_or (parts ++ part ∷ []) k [])) e (subst (Each n) (sym last) (one (omega (arith, some, e))))

-- the write cursors of a layout
pub cursors_are : (layout : Layout) (activations : List Activation) (s : ℕ) → IsLayoutOf layout activations → s < length layout.writers
    → slice_index layout.cursors.writes s ≡ written_count activations s
cursors_are layout activations s of lt =
    ap (λ xs. get_or xs s 0) of.of_windows.writes
    ∙ get_or-map-range_with_len (λ t. write_cursor t (claims_in (windows activations))) 0 (length layout.writers) s s 0 lt (omega arith)
    ∙ ap (write_cursor s) (claims_in-windows activations)

-- what is there has a value
value_of : {A : Type 0} (o : Option A) → IsSome o → (x : A) × (o ≡ Some x)
value_of None some = absurd (cc)
value_of (Some x) some = (x, refl)

-- an outcome is there where its end is
outcome_there : (o : Option Outcome) (e : TaskEnd) → option_map (λ (q : Outcome). q.end) o ≡ Some e → IsSome o
outcome_there None e h = absurd (cc)
outcome_there (Some q) e h = refl

module _ (law : Join) (layout : Layout) (run : Run) (of : IsLayoutOf layout run.activations) (outcomes : List BatchOutcome) (are : AreAllMeant run outcomes)
    (ends more new_ends : List (Option TaskEnd)) (firsts : List ℕ) (elements parts new : List (List (Option Elem)))
    (streams : length elements ≡ length layout.writers)
    (within : length ends ≤ length run.activations) (many : length more ≡ length run.activations - length ends)
    (all_ends : All IsSome more) (ends_meant : AreEndsFrom run (length ends) more) (ends_are : new_ends ≡ ends ++ more)
    (gathered : AreGathered firsts elements layout outcomes (length elements) parts) (have_more : HaveMore (length elements) (λ s. slice_index_or parts s []) elements new)
    (before : HoldAll (take (length ends) run.activations) run.input run.body ends elements firsts) where
  abbrev m : ℕ
  m = length ends

  abbrev acts : List Activation
  acts = run.activations

  abbrev first_ones : List Activation
  first_ones = take m acts

  abbrev M : State
  M = meant run

  abbrev M1 : State
  M1 = stream_meaning first_ones run.input run.body

  size_first : length first_ones ≡ m
  size_first = length-take-le m acts within

  size_M : length M ≡ length acts
  size_M = length-meaning stream_element (stream_reads acts run.input) (poisoning run.body) (length acts)

  -- each end that was gathered
  end_at : (k : ℕ) → k < length more → (e : TaskEnd) × (get_or more k None ≡ Some e) × (option_map (λ (q : Outcome). q.end) (outcome_at M (m + k)) ≡ Some e)
  end_at k lt = let (e, is) = value_of (get_or more k None) (all_ends k None lt) in (e, is, ends_meant k e is)

  more_is : more ≡ drop m (ends_of M)
  more_is = same_lists more (drop m (ends_of M)) (omega (arith, many, length-drop m (ends_of M), length-map M (option_map (λ (q : Outcome). q.end)), size_M)) at
    where
      at : (k : ℕ) (d : Option TaskEnd) → k < length more → get_or more k d ≡ get_or (drop m (ends_of M)) k d
      at k d lt =
          let (e, is, there) = end_at k lt in
          get_or_default more k d None lt ∙ is ∙ sym there ∙ sym (end_in M (m + k))
          ∙ get_or_default (ends_of M) (m + k) None d (omega (arith, many, lt, within, length-map M (option_map (λ (q : Outcome). q.end)), size_M))
          ∙ sym (get_or-drop m (ends_of M) k d)

  ended_from : HaveEndedFrom m M
  ended_from k d lt =
      let l : k < length more = omega (arith, lt, many, length-drop m M, size_M) in
      let (e, is, there) = end_at k l in
      subst IsSome (get_or_default M (m + k) None d (omega (arith, l, many, within, size_M)) ∙ sym (get_or-drop m M k d)) (outcome_there (outcome_at M (m + k)) e there)

  -- where the part of a stream begins
  part_from : (s : ℕ) → 1 ≤ s → s < length elements → held_to firsts elements s ≡ written_count first_ones s
  part_from s some lt =
      let h = before.hold.are_theirs s some lt in
      let c = before.hold.are_claimed s lt in
      omega (arith, ap length h, length-drop (slice_index firsts s) (elements_on first_ones run.input M1 s), length-elements_on first_ones run.input M1 s, c)

  abbrev from_of : ℕ → ℕ
  from_of s = written_count first_ones s

  abbrev firsts_written : List ℕ
  firsts_written = map from_of (range_with_len 0 (length parts))

  first_written : (s : ℕ) → s < length parts → slice_index firsts_written s ≡ from_of s
  first_written s lt = get_or-map-range_with_len from_of 0 (length parts) s s 0 lt (omega arith)

  part_is : (s : ℕ) → 1 ≤ s → s < length parts → slice_index_or parts s [] ≡ drop (from_of s) (elements_on acts run.input M s)
  part_is s some lt = same_lists part (drop (from_of s) all) (omega (arith, size, length-drop (from_of s) all, length-elements_on acts run.input M s)) at
    where
      here : s < length elements
      here = omega (arith, lt, gathered.as_many)

      part : List (Option Elem)
      part = slice_index_or parts s []

      all : List (Option Elem)
      all = elements_on acts run.input M s

      is : IsGathered (held_to firsts elements s) (slice_index layout.cursors.writes s) outcomes s part
      is = gathered.each s some here

      size : length part ≡ written_count acts s - from_of s
      size = is.count ∙ ap (λ n. slice_index layout.cursors.writes s - n) (part_from s some here) ∙ ap (λ n. n - from_of s) (cursors_are layout acts s of (omega (arith, here, streams)))

      place : ℕ → Place
      place position = record { stream = s; position = position }

      element_at : Place → Option Elem
      element_at p = stream_element M (stream_source acts run.input p)

      at : (k : ℕ) (d : Option Elem) → k < length part → get_or part k d ≡ get_or (drop (from_of s) all) k d
      at k d lt =
          let (v, there) = value_of (get_or part k None) (is.all k None lt) in
          let n = written_count acts s in
          let within_all : from_of s + k < n = omega (arith, lt, size) in
          let meant_there : element_at (place (held_to firsts elements s + k)) ≡ Some v = is.meant run are k v there in
          get_or_default part k d None lt ∙ there ∙ sym meant_there
          ∙ ap (λ f. element_at (place (f + k))) (part_from s some here)
          ∙ sym (get_or-map element_at (places_from s 0 n) (from_of s + k) (place 0) d (omega (arith, within_all, length-map-range_with_len place 0 n))
          ∙ ap element_at (get_or-map-range_with_len place 0 n (from_of s + k) (from_of s + k) (place 0) within_all (omega arith)))
          ∙ sym (get_or-drop (from_of s) all k d)

  written : HoldWritten m acts run.input M parts firsts_written
  written = record {
    as_many = length-map-range_with_len from_of 0 (length parts);
    firsts_are = first_written;
    are_theirs = λ s some lt. part_is s some lt ∙ ap (λ f. drop f (elements_on acts run.input M s)) (sym (first_written s lt));
    are_there = λ s some lt. (gathered.each s some (omega (arith, lt, gathered.as_many))).all;
  }

  joined : AreJoined first_ones acts run.input run.body new firsts
  joined = law m first_ones acts run.input run.body elements parts new firsts firsts_written
      (ap (λ k. take k acts) (sym size_first)) (omega (arith, size_first)) before.have_ended before.hold ended_from written gathered.as_many have_more.as_many
      (λ s some lt. have_more.more s some lt lt ∙ ap (λ xs. slice_index_or elements s [] ++ xs)
      (ap (λ k. drop k (slice_index_or parts s [])) (let z : 0 ≡ held_to firsts elements s - slice_index firsts_written s = omega (arith, part_from s some lt, first_written s (omega (arith, lt, gathered.as_many))) in z)))

  pub held_all : HoldAll run.activations run.input run.body new_ends new firsts
  held_all = record {
    ends_are = ends_are ∙ ap (λ es. es ++ more) before.ends_are ∙ ap (λ es. ends_of M1 ++ es) (more_is ∙ ap (λ k. drop k (ends_of M)) (sym size_first)) ∙ sym joined.ends_are;
    have_ended = joined.have_ended;
    hold = joined.hold;
  }
