-- Heads that are run as long as one is enabled.
use Rattle.std.proofs.Common.{◌≡◌, ◌≢◌, ℕ, ◌+◌, ◌<◌, ◌≤◌, List, [], ◌∷◌, ◌++◌, All, Option, Some, None, length, get_or, replicate, refl, sym, ap, ◌∙◌, subst, ◌⊎◌, inl, inr, arith, length-append, append_assoc, append-nil}
use Rattle.std.specs.Prelude.{slice_get, option_and_then}
use Rattle.std.proofs.lemmas.Bool.{cases_lt, cases_eq}
use Rattle.std.proofs.lemmas.List.{get_or_append_left}
use Rattle.std.proofs.lemmas.Option.{slice_get_within, slice_get-get_or, slice_get_past, get_or_from_slice_get}
use Rattle.flow_core_laws.specs.Outcome.{outcome_at}
use Rattle.flow_core_laws.specs.Round.{IsEnabled}
use Rattle.flow_core_laws.specs.Laws.{IsKept}
use Rattle.flow_core_laws.proofs.Rounds.{Extends}
use Rattle.trace_replay_laws.specs.Orders.{state_after, IsLawful}
use Rattle.trace_replay_laws.specs.Lists.{number_in, HaveNoRepeat, Taken, frames_of, taken_from, IsOrderOf, IsOrderOfHeads, head_after, HaveRun}
use Rattle.trace_replay_laws.proofs.Lawful.{IsIn, lawful_parts, extends_other, enabled_later, ran_before, same_states, length-state_after}
use Rattle.trace_replay_laws.proofs.Taking.{behind, taken-append, taken-more, taken-more_elsewhere, frames-append, frame_taken, taken_frame, taken_stands, stands_taken, heads_of_order, order_of_heads, none_left}

all_front : {X : Type 0} (P : X → Type 0) (xs ys : List X) → All P (xs ++ ys) → All P xs
all_front P xs ys all = λ i d lt. subst P (get_or_append_left xs ys d i lt) (all i d (let l = length-append xs ys in omega (arith, l, lt)))

-- the front of an order of heads is one
heads_front : (lists : List (List ℕ)) (order more : List Taken) → IsOrderOfHeads lists (order ++ more) → IsOrderOfHeads lists order
heads_front lists order more heads = record {
  of_lists = all_front (λ (t : Taken). t.list < length lists) order more heads.of_lists;
  takes_fronts = λ k list is.
      let (rest, parts) = heads.takes_fronts k list is in
      (taken_from k more ++ rest, sym (append_assoc (taken_from k order) (taken_from k more) rest) ∙ ap (λ (l : List ℕ). l ++ rest) (sym (taken-append k order more)) ∙ parts);
}

-- the numbers of an order stand in one that takes at least as many from each list
subset : (lists : List (List ℕ)) (order other : List Taken) → IsOrderOfHeads lists order → IsOrderOfHeads lists other → ((k : ℕ) → length (taken_from k order) ≤ length (taken_from k other)) → (a : ℕ) → IsIn (frames_of order) a → IsIn (frames_of other) a
subset lists order other heads others le a there =
    let (k, j, at, exists) = frame_taken order a there in
    let number = taken_stands lists order heads k j a (exists (length lists) heads.of_lists) at in
    let lt : j < length (taken_from k order) = slice_get_within (taken_from k order) j a at in
    let most = le k in
    taken_frame other k j a (stands_taken lists other others k j a number (omega (arith, lt, most)))

module _ {S V O : Type 0} (element : List (Option O) → S → Option V) (reads : ℕ → List S) (body : ℕ → List V → O) (kept : IsKept element) (count : ℕ) (lists : List (List ℕ)) (once : HaveNoRepeat lists) where
  module _ (other : List Taken) (run : HaveRun element reads body count lists other) where
    -- a number that is next behind an order of heads, and that the other order doesn't take, is no head there
    not_behind : (done : List Taken) (t : Taken) (todo : List Taken) → IsOrderOfHeads lists (done ++ t ∷ todo) → IsLawful element reads body count (frames_of (done ++ t ∷ todo)) → ((k : ℕ) → length (taken_from k done) ≤ length (taken_from k other)) → length (taken_from t.list other) ≤ length (taken_from t.list done) → ⊥
    not_behind done t todo heads lawful le ge = run.none_is_enabled t.list t.frame head (enabled_later element reads body kept (state_after element reads body count (frames_of done)) (state_after element reads body count (frames_of other)) t.frame (extends_other element reads body kept count (frames_of done) (frames_of other) parts.0 run.lawful (subset lists done other (heads_front lists done (t ∷ todo) heads) run.of_heads le)) parts.2 (no_end (outcome_at (state_after element reads body count (frames_of other)) t.frame) refl))
      where
        exists : t.list < length lists
        exists = subst (λ (u : Taken). u.list < length lists) (get_or_from_slice_get (done ++ t ∷ todo) (length done) t t (behind done t todo)) (heads.of_lists (length done) t (let l = length-append done (t ∷ todo) in omega (arith, l)))

        parts : IsLawful element reads body count (frames_of done) × (t.frame < count) × IsEnabled element reads (state_after element reads body count (frames_of done)) t.frame
        parts = lawful_parts element reads body count (replicate count None) (frames_of done) t.frame (frames_of todo) (subst (IsLawful element reads body count) (frames-append done (t ∷ todo)) lawful)

        next : number_in lists t.list (length (taken_from t.list done)) ≡ Some t.frame
        next = taken_stands lists (done ++ t ∷ todo) heads t.list (length (taken_from t.list done)) t.frame exists (subst (λ (l : List ℕ). slice_get l (length (taken_from t.list done)) ≡ Some t.frame) (sym regrouped) (behind (taken_from t.list done) t.frame (taken_from t.list todo)))
          where
            regrouped : taken_from t.list (done ++ t ∷ todo) ≡ taken_from t.list done ++ t.frame ∷ taken_from t.list todo
            regrouped = ap (taken_from t.list) (sym (append_assoc done (t ∷ []) todo)) ∙ taken-append t.list (done ++ t ∷ []) todo ∙ ap (λ (l : List ℕ). l ++ taken_from t.list todo) (taken-more t.list done t.frame) ∙ append_assoc (taken_from t.list done) (t.frame ∷ []) (taken_from t.list todo)

        same : length (taken_from t.list done) ≡ length (taken_from t.list other)
        same = let most = le t.list in omega (arith, most, ge)

        head : head_after lists other t.list ≡ Some t.frame
        head = ap (number_in lists t.list) (sym same) ∙ next

        no_end : (o : Option O) → outcome_at (state_after element reads body count (frames_of other)) t.frame ≡ o → outcome_at (state_after element reads body count (frames_of other)) t.frame ≡ None
        no_end None e = e
        no_end (Some o) e =
            let (k, j, at, elsewhere) = frame_taken other t.frame (ran_before element reads body count (frames_of other) t.frame o run.lawful e) in
            let number = taken_stands lists other run.of_heads k j t.frame (elsewhere (length lists) run.of_heads.of_lists) at in
            let (list_is, place_is) = once k j t.list (length (taken_from t.list done)) t.frame number next in
            let lt : j < length (taken_from k other) = slice_get_within (taken_from k other) j t.frame at in
            let len : length (taken_from k other) ≡ length (taken_from t.list other) = ap (λ (n : ℕ). length (taken_from n other)) list_is in
            absurd (omega (arith, place_is, lt, len, same))

    -- so a lawful order of heads takes no more from a list than heads that were run as long as one was enabled
    covers : (done todo : List Taken) → IsOrderOfHeads lists (done ++ todo) → IsLawful element reads body count (frames_of (done ++ todo)) → ((k : ℕ) → length (taken_from k done) ≤ length (taken_from k other)) → (k : ℕ) → length (taken_from k (done ++ todo)) ≤ length (taken_from k other)
    covers done [] heads lawful le k = subst (λ (order : List Taken). length (taken_from k order) ≤ length (taken_from k other)) (sym (append-nil done)) (le k)
    covers done (t ∷ todo) heads lawful le k = subst (λ (order : List Taken). length (taken_from k order) ≤ length (taken_from k other)) regroup (covers (done ++ t ∷ []) todo (subst (IsOrderOfHeads lists) (sym regroup) heads) (subst (λ (order : List Taken). IsLawful element reads body count (frames_of order)) (sym regroup) lawful) (λ j. one_more j (cases_eq t.list j)) k)
      where
        regroup : (done ++ t ∷ []) ++ todo ≡ done ++ t ∷ todo
        regroup = append_assoc done (t ∷ []) todo

        within : (length (taken_from t.list done) < length (taken_from t.list other)) ⊎ (length (taken_from t.list other) ≤ length (taken_from t.list done)) → length (taken_from t.list (done ++ t ∷ [])) ≤ length (taken_from t.list other)
        within (inl lt) = let l : length (taken_from t.list (done ++ t ∷ [])) ≡ length (taken_from t.list done ++ t.frame ∷ []) = ap length (taken-more t.list done t.frame) in let s = length-append (taken_from t.list done) (t.frame ∷ []) in omega (arith, l, s, lt)
        within (inr ge) = absurd (not_behind done t todo heads lawful le ge)

        one_more : (j : ℕ) → (t.list ≡ j) ⊎ (t.list ≢ j) → length (taken_from j (done ++ t ∷ [])) ≤ length (taken_from j other)
        one_more j (inl e) = subst (λ (n : ℕ). length (taken_from n (done ++ t ∷ [])) ≤ length (taken_from n other)) e (within (cases_lt (length (taken_from t.list done)) (length (taken_from t.list other))))
        one_more j (inr n) = let l : length (taken_from j (done ++ t ∷ [])) ≡ length (taken_from j done) = ap length (taken-more_elsewhere j t.list done t.frame n) in let most = le j in omega (arith, l, most)

    pub takes_most : (order : List Taken) → IsOrderOfHeads lists order → IsLawful element reads body count (frames_of order) → (k : ℕ) → length (taken_from k order) ≤ length (taken_from k other)
    takes_most order heads lawful = covers [] order heads lawful (λ k. omega arith)

    pub state_covers : (order : List Taken) → IsOrderOfHeads lists order → IsLawful element reads body count (frames_of order) → Extends (state_after element reads body count (frames_of order)) (state_after element reads body count (frames_of other))
    state_covers order heads lawful = extends_other element reads body kept count (frames_of order) (frames_of other) lawful run.lawful (subset lists order other heads run.of_heads (takes_most order heads lawful))

    -- and takes all where a lawful order of the lists does
    pub finds : (order : List Taken) → IsOrderOf lists order → IsLawful element reads body count (frames_of order) → IsOrderOf lists other
    finds order all lawful = order_of_heads lists other run.of_heads (λ k lt.
        let is : slice_get lists k ≡ Some (get_or lists k []) = slice_get-get_or lists k [] lt in
        let l : length (taken_from k order) ≡ length (get_or lists k []) = ap length (all.takes_each k (get_or lists k []) is) in
        let most = takes_most order (heads_of_order lists order all) lawful k in
        ap (λ (o : Option (List ℕ)). option_and_then (λ (numbers : List ℕ). slice_get numbers (length (taken_from k other))) o) is ∙ slice_get_past (get_or lists k []) (length (taken_from k other)) (omega (arith, l, most)))

  pub agree : (order other : List Taken) → HaveRun element reads body count lists order → HaveRun element reads body count lists other → state_after element reads body count (frames_of order) ≡ state_after element reads body count (frames_of other)
  agree order other run runs = same_states element reads body (state_after element reads body count (frames_of order)) (state_after element reads body count (frames_of other)) (length-state_after element reads body count (frames_of order) ∙ sym (length-state_after element reads body count (frames_of other))) (state_covers other runs order run.of_heads run.lawful) (state_covers order run other runs.of_heads runs.lawful)

  pub as_many : (order other : List Taken) → HaveRun element reads body count lists order → HaveRun element reads body count lists other → (k : ℕ) → length (taken_from k order) ≡ length (taken_from k other)
  as_many order other run runs k = let a = takes_most other runs order run.of_heads run.lawful k in let b = takes_most order run other runs.of_heads runs.lawful k in omega (arith, a, b)

  -- a lawful order of all numbers is one way to run heads as long as one is enabled
  pub run_of_order : (order : List Taken) → IsOrderOf lists order → IsLawful element reads body count (frames_of order) → HaveRun element reads body count lists order
  run_of_order order all lawful = record { of_heads = heads_of_order lists order all; lawful = lawful; none_is_enabled = λ k f h. let n : ◌≡◌ {A = Option ℕ} None (Some f) = sym (none_left lists order all k) ∙ h in absurd (cc) }
