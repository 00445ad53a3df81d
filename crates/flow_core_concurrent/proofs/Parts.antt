-- A good state in three parts: what flows, what each seat's view says, and what all lists and shares come to.
use Rattle.std.proofs.Common.{◌≡◌, ℕ, ◌+◌, ◌-◌, ◌%◌, ◌≤◌, ◌≢◌, true, false, List, Option, Some, map, length, set, sym, ap, ◌∙◌, subst, count_by}
use Rattle.std.specs.Prelude.{slice_get, sum_by, is_some, not, ◌&&◌, IsSome}
use Rattle.std.specs.Option.{option_map}
use Rattle.std.proofs.lemmas.Option.{slice_get-map}
use Rattle.std.proofs.lemmas.List.{map-set}
use Rattle.flow_core_concurrent.specs.declared.view.FrameRun.{FrameRun}
use Rattle.flow_core_concurrent.specs.States.{times, CoreState, runs_of}
use Rattle.flow_core_concurrent.specs.Counted.{one, is_run_of, counted_at, underway_at, lacking}
use Rattle.flow_core_concurrent.proofs.Sums.{each_set, set_again, sum_by-kept}
use Rattle.flow_core_laws.specs.declared.task_end.TaskEnd.{TaskEnd}
use Rattle.flow_core_laws.specs.Plans.{plan_element, held_at, cell_source}
use Rattle.flow_core_laws.specs.declared.elem.Elem.{Elem}
use Rattle.flow_core_concurrent.specs.declared.known.Known.{Known}
use Rattle.flow_core_concurrent.specs.declared.view.View.{View}
use Rattle.flow_core_concurrent.specs.declared.word.Word.{Word}
use Rattle.flow_core_concurrent.specs.declared.word.Word.TheVariants.{Wait, Ended}
use Rattle.flow_core_concurrent.specs.Words.{word_at, opening_words, amount, waits, is_open, is_taken, is_started}
use Rattle.flow_core_concurrent.specs.Steps.{end_of, with_view}
use Rattle.flow_core_concurrent.specs.IsGood.{IsGood, IsView, IsLast}

-- words, cells and runs
pub record Flows (known : Known) (words : List Word) (cells : List (Option Elem)) (runs : List (Option FrameRun)) : Type 0 where
  pub words_of_plan : length words ≡ length known.plan.frames + 1
  pub cells_of_plan : length cells ≡ length known.plan.filled
  pub hold : (c : ℕ) (value : Elem) → held_at cells c ≡ Some value → plan_element known.plan known.meaning (cell_source known.plan c) ≡ Some value
  pub filled : (c : ℕ) → one (is_some (held_at cells c)) ≡ one (is_some (held_at known.plan.filled c)) + counted_at known.plan words runs c + underway_at known.plan runs c
  pub count : (f : ℕ) → f ≤ length known.plan.frames → amount (word_at words f) ≡ lacking known.plan words runs f
  pub wait_for_some : (f : ℕ) → word_at words f ≢ Wait 0
  pub taken : (f : ℕ) → count_by (is_run_of f) runs ≡ one (is_taken (word_at words f))
  pub meant : (f : ℕ) (end : TaskEnd) → word_at words f ≡ Ended end → end_of known f ≡ Some end
  pub sink : is_started (word_at words (length known.plan.frames)) ≡ false

-- the view of a seat, beside the words
pub record Sits (known : Known) (words : List Word) (v : View) : Type 0 where
  pub sound : IsView known v
  pub has_end : (r : FrameRun) → v.run ≡ Some r → IsSome (end_of known r.frame)
  pub looked : (j : ℕ) → IsLast known v → 1 ≤ j → j ≤ v.looks → j ≤ length known.plan.frames → is_open (word_at words ((v.looks - j) % length known.plan.frames)) ≡ false
  pub found : (f : ℕ) → 1 ≤ times f v.found → waits (word_at words f) ≡ false
  pub lost : (f : ℕ) → 1 ≤ times f v.lost → is_started (word_at words f) ≡ true

-- the lists and shares of all seats, beside the words
pub record Books (known : Known) (words : List Word) (seats : List View) : Type 0 where
  pub made : (f : ℕ) → sum_by (λ (v : View). times f v.made) seats ≡ one (waits (word_at (opening_words known.plan) f) && not (waits (word_at words f)))
  pub ran : (f : ℕ) → sum_by (λ (v : View). times f v.ran) seats ≡ one (is_started (word_at words f))
  pub shares : sum_by (λ (v : View). v.shares) seats ≡ known.seats

pub flows_of : (known : Known) (s : CoreState) → IsGood known s → Flows known s.words s.cells (runs_of s)
flows_of known s g = record {
  words_of_plan = g.words_of_plan;
  cells_of_plan = g.cells_of_plan;
  hold = g.cells_hold_the_meaning;
  filled = g.cells_are_filled_once;
  count = g.words_count;
  wait_for_some = g.waits_for_some;
  taken = g.taken_is_run_by_one;
  meant = g.ends_are_meant;
  sink = g.sink_is_not_taken;
}

pub sits_of : (known : Known) (s : CoreState) → IsGood known s → (i : ℕ) (v : View) → slice_get s.seats i ≡ Some v → Sits known s.words v
sits_of known s g i v h = record {
  sound = g.views_are_sound i v h;
  has_end = λ r. g.runs_have_ends i v r h;
  looked = λ j. g.looks_found_none_open i j v h;
  found = λ f. g.found_waits_no_more i f v h;
  lost = λ f. g.lost_is_started i f v h;
}

pub books_of : (known : Known) (s : CoreState) → IsGood known s → Books known s.words s.seats
books_of known s g = record { made = g.made_once; ran = g.ran_once; shares = g.shares_are_all }

pub good_from : (known : Known) (s : CoreState) → Flows known s.words s.cells (runs_of s) → ((i : ℕ) (v : View) → slice_get s.seats i ≡ Some v → Sits known s.words v) → Books known s.words s.seats → IsGood known s
good_from known s flows sits books = record {
  words_of_plan = flows.words_of_plan;
  cells_of_plan = flows.cells_of_plan;
  views_are_sound = λ i v h. (sits i v h).sound;
  cells_hold_the_meaning = flows.hold;
  cells_are_filled_once = flows.filled;
  words_count = flows.count;
  waits_for_some = flows.wait_for_some;
  taken_is_run_by_one = flows.taken;
  ends_are_meant = flows.meant;
  runs_have_ends = λ i v r h. (sits i v h).has_end r;
  made_once = books.made;
  ran_once = books.ran;
  looks_found_none_open = λ i j v h. (sits i v h).looked j;
  sink_is_not_taken = flows.sink;
  shares_are_all = books.shares;
  found_waits_no_more = λ i f v h. (sits i v h).found f;
  lost_is_started = λ i f v h. (sits i v h).lost f;
}

-- what a seat runs, among all runs
pub run_at : (seats : List View) (i : ℕ) (v : View) → slice_get seats i ≡ Some v → slice_get (map (λ (v : View). v.run) seats) i ≡ Some v.run
run_at seats i v h = slice_get-map (λ (v : View). v.run) seats i ∙ ap (option_map (λ (v : View). v.run)) h

pub runs-set : (seats : List View) (i : ℕ) (v : View) → map (λ (v : View). v.run) (set seats i v) ≡ set (map (λ (v : View). v.run) seats) i v.run
runs-set seats i v = map-set (λ (v : View). v.run) seats i v

-- A seat's view changed and nothing else, and it still runs the same, made and ran the same and has its shares.
pub good_with_view : (known : Known) (s : CoreState) (i : ℕ) (v w : View) → IsGood known s → slice_get s.seats i ≡ Some v → w.run ≡ v.run → w.made ≡ v.made → w.ran ≡ v.ran → w.shares ≡ v.shares → Sits known s.words w → IsGood known (with_view s i w)
good_with_view known s i v w g h run made ran shares sits = good_from known (with_view s i w) flows (each_set (Sits known s.words) s.seats i w sits (λ j u n there. sits_of known s g j u there)) books
  where
    same_runs : runs_of (with_view s i w) ≡ runs_of s
    same_runs = runs-set s.seats i w ∙ ap (set (runs_of s) i) run ∙ set_again (runs_of s) i v.run (run_at s.seats i v h)

    flows : Flows known s.words s.cells (runs_of (with_view s i w))
    flows = subst (Flows known s.words s.cells) (sym same_runs) (flows_of known s g)

    books : Books known s.words (set s.seats i w)
    books =
        let b = books_of known s g in
        record {
          made = λ f. sum_by-kept (λ (v : View). times f v.made) s.seats i v w h (ap (times f) made) ∙ b.made f;
          ran = λ f. sum_by-kept (λ (v : View). times f v.ran) s.seats i v w h (ap (times f) ran) ∙ b.ran f;
          shares = sum_by-kept (λ (v : View). v.shares) s.seats i v w h shares ∙ b.shares;
        }
