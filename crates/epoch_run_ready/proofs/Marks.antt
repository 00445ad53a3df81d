-- Marks of activations that wait: one more leaves the others as they are.
use Rattle.std.proofs.Common.{◌≡◌, ◌≢◌, ℕ, ◌<◌, List, Some, Bool, true, false, ◌⊎◌, inl, inr, length, get_or, set, refl, sym, ap, ◌∙◌, subst}
use Rattle.std.specs.Prelude.{slice_get}
use Rattle.std.proofs.lemmas.Bool.{cases_eq}
use Rattle.std.proofs.lemmas.List.{get_or-set_same, get_or-set_other, length-set}
use Rattle.stream_match_layouts.specs.Spans.{spans_of}
use Rattle.stream_match_layouts.specs.declared.layout.Layout.{Layout}
use Rattle.stream_match_layouts.specs.declared.span.Span.{Span}
use Rattle.epoch_run_ready.specs.Waiting.{AreMarked, AreMissing, PositionCannotCome, behind, stuck, HasWaitingSpan, IsWaiting, is_stuck}

-- one list of marks has all that another has
abbrev pub HasMarks : List Bool → List Bool → Type 0
HasMarks waits more = (a : ℕ) → get_or waits a false ≡ true → get_or more a false ≡ true

module _ (layout : Layout) (waits more : List Bool) (has : HasMarks waits more) where
  stuck_more : (a : ℕ) → is_stuck waits a ≡ true → is_stuck more a ≡ true
  stuck_more a h = has a h

  cannot_more : (stream position : ℕ) → PositionCannotCome layout waits stream position → PositionCannotCome layout more stream position
  cannot_more stream position (behind le) = behind le
  cannot_more stream position (stuck number other lt writes on from to s) = stuck number other lt writes on from to (stuck_more _ s)

  has_more : (spans : List Span) → HasWaitingSpan layout waits spans → HasWaitingSpan layout more spans
  has_more spans h = record {
    span = h.span;
    is_one = h.is_one;
    waits_for = record { reads = h.waits_for.reads; position = h.waits_for.position; from = h.waits_for.from; to = h.waits_for.to; cannot_come = cannot_more h.span.stream h.waits_for.position h.waits_for.cannot_come };
  }

-- one more mark
pub one_more : (waits : List Bool) (a : ℕ) → a < length waits → HasMarks waits (set waits a true)
one_more waits a lt b m = elim (cases_eq b a) [
  | inl same ↦ ap (λ n. get_or (set waits a true) n false) same ∙ get_or-set_same waits a true false lt
  | inr other ↦ get_or-set_other waits a b true false other ∙ m
]

-- leaves what can't come
pub missing_more : (layout : Layout) (waits : List Bool) (a : ℕ) (missing : List ℕ) → a < length waits → AreMissing layout waits missing → AreMissing layout (set waits a true) missing
missing_more layout waits a missing lt are = record {
  one_each = are.one_each;
  cannot_come = λ stream exists. cannot_more layout waits (set waits a true) (one_more waits a lt) stream (get_or missing stream 0) (are.cannot_come stream exists);
}

module _ (layout : Layout) (readers : List ℕ) where
  waiting_more : (waits more : List Bool) → HasMarks waits more → (a : ℕ) → IsWaiting layout readers waits a → IsWaiting layout readers more a
  waiting_more waits more has a w = record { number = w.number; is_reader = w.is_reader; waits_for = has_more layout waits more has (spans_of layout a) w.waits_for }

  -- no mark more
  pub mark_same : (waits : List Bool) → AreMarked layout readers waits waits
  mark_same waits = record { as_many = refl; are_kept = λ a m. m; more_wait = λ a m. inl m }

  -- one mark more
  pub mark_more : (waits : List Bool) (n a : ℕ) → a < length waits → slice_get readers n ≡ Some a → HasWaitingSpan layout waits (spans_of layout a) → AreMarked layout readers waits (set waits a true)
  mark_more waits n a lt reads found = record {
    as_many = length-set waits a true;
    are_kept = one_more waits a lt;
    more_wait = λ b m. by b m (cases_eq b a);
  }
    where
      by : (b : ℕ) → get_or (set waits a true) b false ≡ true → (b ≡ a) ⊎ (b ≢ a) → (get_or waits b false ≡ true) ⊎ IsWaiting layout readers (set waits a true) b
      by b m (inl same) = inr (record {
        number = n;
        is_reader = reads ∙ ap (λ (x : ℕ). Some x) (sym same);
        waits_for = has_more layout waits (set waits a true) (one_more waits a lt) (spans_of layout b) (subst (λ n. HasWaitingSpan layout waits (spans_of layout n)) (sym same) found);
      })
      by b m (inr other) = inl (sym (get_or-set_other waits a b true false other) ∙ m)

  -- marks more, and then others
  pub mark_both : (before between after : List Bool) → AreMarked layout readers before between → AreMarked layout readers between after → AreMarked layout readers before after
  mark_both before between after one two = record {
    as_many = two.as_many ∙ one.as_many;
    are_kept = λ a m. two.are_kept a (one.are_kept a m);
    more_wait = λ a m. by a (two.more_wait a m);
  }
    where
      by_first : (a : ℕ) → (get_or before a false ≡ true) ⊎ IsWaiting layout readers between a → (get_or before a false ≡ true) ⊎ IsWaiting layout readers after a
      by_first a (inl was) = inl was
      by_first a (inr w) = inr (waiting_more between after two.are_kept a w)

      by : (a : ℕ) → (get_or between a false ≡ true) ⊎ IsWaiting layout readers after a → (get_or before a false ≡ true) ⊎ IsWaiting layout readers after a
      by a (inl was) = by_first a (one.more_wait a was)
      by a (inr w) = inr w
