-- What every step keeps.
use Rattle.std.proofs.Common.{◌≡◌, ℕ, ◌<◌, ◌≤◌, ◌≢◌, Bool, true, false, List, length, set, refl, sym, ap, ◌∙◌, subst, ◌⊎◌, inl, inr}
use Rattle.std.specs.Prelude.{if◌then◌else◌}
use Rattle.std.proofs.lemmas.Bool.{cases_eq, cases_lt}
use Rattle.std.proofs.lemmas.List.{set_past}
use Rattle.flow_core_laws.specs.declared.task_end.TaskEnd.{TaskEnd}
use Rattle.flow_core_concurrent.specs.declared.known.Known.{Known}
use Rattle.flow_core_concurrent.specs.declared.word.Word.{Word}
use Rattle.flow_core_concurrent.specs.declared.word.Word.TheVariants.{Wait, Open, Taken, Ended}
use Rattle.flow_core_concurrent.specs.Words.{word_at, waits, is_open, is_started, lowered}
use Rattle.flow_core_concurrent.specs.States.{CoreState}
use Rattle.flow_core_concurrent.specs.Steps.{Step, split, join, claim, read, store, sub, finish, look, with_claim, with_miss, with_view, next_look}
use Rattle.flow_core_concurrent.specs.IsGood.{IsGood}
use Rattle.flow_core_concurrent.specs.Laws.{IsFit}
use Rattle.flow_core_concurrent.specs.Ways.{Way, opens, goes}
use Rattle.flow_core_concurrent.proofs.Words.{word_at-set_same, word_at-set_other}
use Rattle.flow_core_concurrent.proofs.Splits.{split_keeps, join_keeps}
use Rattle.flow_core_concurrent.proofs.Claims.{claim_keeps}
use Rattle.flow_core_concurrent.proofs.Looks.{look_keeps}
use Rattle.flow_core_concurrent.proofs.Stores.{store_keeps}
use Rattle.flow_core_concurrent.proofs.Subs.{sub_keeps}
use Rattle.flow_core_concurrent.proofs.Finishes.{finish_keeps}
use Rattle.flow_core_concurrent.proofs.Opens.{opens_good}

pub step_keeps : (known : Known) (old new : CoreState) → IsFit known → IsGood known old → Step known old new → IsGood known new
step_keeps known old new fit g (split seat view can) = split_keeps known old seat view g can
step_keeps known old new fit g (join seat view other taken can) = join_keeps known old seat view other taken g can
step_keeps known old new fit g (claim seat view frame can) = claim_keeps known old seat view frame fit g can
step_keeps known old new fit g (read seat view run cell can) = g
step_keeps known old new fit g (store seat view run piece can) = store_keeps known old seat view run piece fit g can
step_keeps known old new fit g (sub seat view run piece can) = sub_keeps known old seat view run piece fit.plan_is_sound g can
step_keeps known old new fit g (finish seat view run end can) = finish_keeps known old seat view run end fit.plan_is_sound g can
step_keeps known old new fit g (look seat view can) = look_keeps known old seat view fit.plan_is_sound g can

pub way_is_good : (known : Known) (state : CoreState) → IsFit known → Way known state → IsGood known state
way_is_good known state fit opens = opens_good known fit.plan_is_sound
way_is_good known state fit (goes old new way step) = step_keeps known old new fit (way_is_good known old fit way) step

-- a fact of a word that a step keeps where it writes
word_keeps : (P : Word → Type 0) (words : List Word) (f : ℕ) (word : Word) (g : ℕ) → P (word_at words g) → (g ≡ f → P word) → P (word_at (set words f word) g)
word_keeps P words f word g old new = by (cases_eq g f)
  where
    by : (g ≡ f) ⊎ (g ≢ f) → P (word_at (set words f word) g)
    by (inr n) = subst P (sym (word_at-set_other words f word g n)) old
    by (inl e) = within (cases_lt f (length words))
      where
        within : (f < length words) ⊎ (length words ≤ f) → P (word_at (set words f word) g)
        within (inl lt) = subst P (sym (ap (word_at (set words f word)) e ∙ word_at-set_same words f word lt)) (new e)
        within (inr ge) = subst (λ l. P (word_at l g)) (sym (set_past words f word ge)) old

-- what holds of the word of a frame and of each later one of it
stays : (P : Word → Type 0) → P Taken → ((e : TaskEnd) → P (Ended e)) → ((count : ℕ) (w : Word) → P w → P (lowered count w)) → (known : Known) (old new : CoreState) (f : ℕ) → Step known old new → P (word_at old.words f) → P (word_at new.words f)
stays P taken ended lower known old new f (split seat view can) h = h
stays P taken ended lower known old new f (join seat view other gone can) h = h
stays P taken ended lower known old new f (claim seat view frame can) h = by (is_open (word_at old.words frame))
  where
    by : (b : Bool) → P (word_at (if b then (record { words = set old.words frame Taken; cells = old.cells; seats = set old.seats seat (with_claim known view frame) }) else with_view old seat (with_miss known view frame)).words f)
    by true = word_keeps P old.words frame Taken f h (λ e. taken)
    by false = h
stays P taken ended lower known old new f (read seat view run cell can) h = h
stays P taken ended lower known old new f (store seat view run piece can) h = h
stays P taken ended lower known old new f (sub seat view run piece can) h = word_keeps P old.words piece.to (lowered piece.count (word_at old.words piece.to)) f h (λ e. lower piece.count (word_at old.words piece.to) (subst (λ k. P (word_at old.words k)) e h))
stays P taken ended lower known old new f (finish seat view run end can) h = word_keeps P old.words run.frame (Ended end) f h (λ e. ended end)
stays P taken ended lower known old new f (look seat view can) h = by (is_open (word_at old.words (next_look known view)))
  where
    by : (b : Bool) → P (word_at old.words f)
    by b = h

lowered_started : (count : ℕ) (w : Word) → is_started w ≡ true → is_started (lowered count w) ≡ true
lowered_started count (Wait n) h = absurd (cc)
lowered_started count Open h = absurd (cc)
lowered_started count Taken h = refl
lowered_started count (Ended e) h = refl

lowered_full : (count : ℕ) (w : Word) → waits w ≡ false → waits (lowered count w) ≡ false
lowered_full count (Wait n) h = absurd (cc)
lowered_full count Open h = refl
lowered_full count Taken h = refl
lowered_full count (Ended e) h = refl

pub started_stays : (known : Known) (old new : CoreState) (f : ℕ) → Step known old new → is_started (word_at old.words f) ≡ true → is_started (word_at new.words f) ≡ true
started_stays = stays (λ w. is_started w ≡ true) refl (λ e. refl) lowered_started

pub waits_no_more : (known : Known) (old new : CoreState) (f : ℕ) → Step known old new → waits (word_at old.words f) ≡ false → waits (word_at new.words f) ≡ false
waits_no_more = stays (λ w. waits w ≡ false) refl (λ e. refl) lowered_full
