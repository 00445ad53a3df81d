-- Steps that write a frame's word where it doesn't wait: a CLAIM that succeeds, and a FINISH.
use Rattle.std.proofs.Common.{◌≡◌, ℕ, ◌+◌, ◌-◌, ◌%◌, ◌<◌, ◌≢◌, true, false, List, Some, length, set, sym, ap, ◌∙◌, subst, ◌⊎◌, inl, inr, arith, count_by}
use Rattle.std.specs.Prelude.{slice_get, not, ◌&&◌}
use Rattle.std.proofs.lemmas.List.{length-set}
use Rattle.flow_core_concurrent.specs.States.{times, CoreState, runs_of}
use Rattle.flow_core_concurrent.specs.Counted.{one, is_run_of}
use Rattle.flow_core_concurrent.proofs.Sums.{each_set, sum_by-written, sum_by-kept}
use Rattle.flow_core_laws.specs.declared.task_end.TaskEnd.{TaskEnd}
use Rattle.flow_core_concurrent.specs.declared.known.Known.{Known}
use Rattle.flow_core_concurrent.specs.declared.view.View.{View}
use Rattle.flow_core_concurrent.specs.declared.word.Word.{Word}
use Rattle.flow_core_concurrent.specs.declared.word.Word.TheVariants.{Wait, Ended}
use Rattle.flow_core_concurrent.specs.Words.{word_at, opening_words, amount, waits, is_open, is_taken, is_started}
use Rattle.flow_core_concurrent.specs.Steps.{end_of}
use Rattle.flow_core_concurrent.specs.IsGood.{IsGood}
use Rattle.flow_core_concurrent.proofs.Words.{word_at-set, word_at-set_other, word_at-kept}
use Rattle.flow_core_concurrent.proofs.Counts.{CountsAlike, StoresAlike}
use Rattle.flow_core_concurrent.proofs.Parts.{Flows, Sits, Books, flows_of, sits_of, books_of, good_from, runs-set}
use Rattle.flow_core_concurrent.proofs.Moves.{flows_moved, set_waits_for_some}

-- A word that misses nothing becomes that of a frame which was claimed.
pub record Starts (known : Known) (words : List Word) (f : ℕ) (word : Word) : Type 0 where
  pub of_a_frame : f < length known.plan.frames
  pub exists : f < length words
  pub missed_nothing : amount (word_at words f) ≡ 0
  pub waited_not : waits (word_at words f) ≡ false
  pub misses_nothing : amount word ≡ 0
  pub waits_not : waits word ≡ false
  pub is_not_open : is_open word ≡ false
  pub started : is_started word ≡ true
  pub is_meant : (end : TaskEnd) → word ≡ Ended end → end_of known f ≡ Some end

-- what a seat's view says stays so
pub still_sits : (known : Known) (words : List Word) (f : ℕ) (word : Word) (v : View) → Starts known words f word → Sits known words v → Sits known (set words f word) v
still_sits known words f word v starts old = record {
  sound = old.sound;
  has_end = old.has_end;
  looked = λ j last low high below. closed ((v.looks - j) % length known.plan.frames) (old.looked j last low high below) (word_at-set words f word ((v.looks - j) % length known.plan.frames) starts.exists);
  found = λ h m. word_at-kept waits words f word starts.exists (starts.waits_not ∙ sym starts.waited_not) h ∙ old.found h m;
  lost = λ h m. started h (old.lost h m) (word_at-set words f word h starts.exists);
}
  where
    closed : (h : ℕ) → is_open (word_at words h) ≡ false → ((h ≡ f) × (word_at (set words f word) h ≡ word)) ⊎ ((h ≢ f) × (word_at (set words f word) h ≡ word_at words h)) → is_open (word_at (set words f word) h) ≡ false
    closed h was (inl (e, now)) = ap is_open now ∙ starts.is_not_open
    closed h was (inr (n, now)) = ap is_open now ∙ was

    started : (h : ℕ) → is_started (word_at words h) ≡ true → ((h ≡ f) × (word_at (set words f word) h ≡ word)) ⊎ ((h ≢ f) × (word_at (set words f word) h ≡ word_at words h)) → is_started (word_at (set words f word) h) ≡ true
    started h was (inl (e, now)) = ap is_started now ∙ starts.started
    started h was (inr (n, now)) = ap is_started now ∙ was

pub started_keeps : (known : Known) (s : CoreState) (i : ℕ) (v w : View) (f : ℕ) (word : Word) → IsGood known s → slice_get s.seats i ≡ Some v → Starts known s.words f word
    → CountsAlike known.plan s.words (runs_of s) (set s.words f word) (set (runs_of s) i w.run)
    → StoresAlike known.plan (runs_of s) (set (runs_of s) i w.run)
    → ((h : ℕ) → count_by (is_run_of h) (set (runs_of s) i w.run) ≡ one (is_taken (word_at (set s.words f word) h)))
    → w.made ≡ v.made
    → ((h : ℕ) → times h w.ran + one (is_started (word_at s.words h)) ≡ times h v.ran + one (is_started (word_at (set s.words f word) h)))
    → w.shares ≡ v.shares
    → Sits known (set s.words f word) w
    → IsGood known (record { words = set s.words f word; cells = s.cells; seats = set s.seats i w })
started_keeps known s i v w f word g sees starts counts stores taken made ran shares sits = good_from known (record { words = words'; cells = s.cells; seats = set s.seats i w }) flows
    (each_set (Sits known words') s.seats i w sits (λ j u n there. still_sits known s.words f word u starts (sits_of known s g j u there)))
    books
  where
    words' : List Word
    words' = set s.words f word

    not_zero : word ≢ Wait 0
    not_zero h = let z : false ≡ true = sym starts.waits_not ∙ ap waits h in absurd (cc)

    flows : Flows known words' s.cells (runs_of (record { words = words'; cells = s.cells; seats = set s.seats i w }))
    flows = subst (Flows known words' s.cells) (sym (runs-set s.seats i w)) (flows_moved known s.words s.cells (runs_of s) words' (set (runs_of s) i w.run) (flows_of known s g)
        (length-set s.words f word)
        (word_at-kept amount s.words f word starts.exists (starts.misses_nothing ∙ sym starts.missed_nothing))
        (set_waits_for_some s.words f word starts.exists g.waits_for_some not_zero)
        counts
        stores
        taken
        (λ h end e. meant h end e (word_at-set s.words f word h starts.exists))
        (ap is_started (word_at-set_other s.words f word (length known.plan.frames) (λ e. let b = starts.of_a_frame in omega (arith, e, b))) ∙ g.sink_is_not_taken))
      where
        meant : (h : ℕ) (end : TaskEnd) → word_at words' h ≡ Ended end → ((h ≡ f) × (word_at words' h ≡ word)) ⊎ ((h ≢ f) × (word_at words' h ≡ word_at s.words h)) → end_of known h ≡ Some end
        meant h end e (inl (same, now)) = ap (end_of known) same ∙ starts.is_meant end (sym now ∙ e)
        meant h end e (inr (n, now)) = g.ends_are_meant h end (sym now ∙ e)

    books : Books known words' (set s.seats i w)
    books =
        let b = books_of known s g in
        record {
          made = λ h. sum_by-kept (λ (v : View). times h v.made) s.seats i v w sees (ap (times h) made) ∙ b.made h ∙ ap (λ t. one (waits (word_at (opening_words known.plan) h) && not t)) (sym (word_at-kept waits s.words f word starts.exists (starts.waits_not ∙ sym starts.waited_not) h));
          ran = λ h. let x = sum_by-written (λ (v : View). times h v.ran) s.seats i v w sees in let y = b.ran h in let z = ran h in omega (arith, x, y, z);
          shares = sum_by-kept (λ (v : View). v.shares) s.seats i v w sees shares ∙ b.shares;
        }
