-- Steps that store and count nothing: what flows is as it was, where words and runs count alike.
use Rattle.std.proofs.Common.{◌≡◌, ℕ, ◌<◌, ◌≢◌, false, List, [], ◌∷◌, ◌++◌, Option, Some, None, length, set, refl, sym, ◌∙◌, ◌⊎◌, inl, inr, arith, count_by}
use Rattle.flow_core_concurrent.specs.declared.view.FrameRun.{FrameRun}
use Rattle.flow_core_concurrent.specs.Counted.{one, is_run_of, is_past, has_stored}
use Rattle.flow_core_concurrent.proofs.Sums.{count_by_push}
use Rattle.flow_core_laws.specs.declared.task_end.TaskEnd.{TaskEnd}
use Rattle.flow_core_laws.specs.declared.elem.Elem.{Elem}
use Rattle.flow_core_concurrent.specs.declared.known.Known.{Known}
use Rattle.flow_core_concurrent.specs.declared.word.Word.{Word}
use Rattle.flow_core_concurrent.specs.declared.word.Word.TheVariants.{Wait, Ended}
use Rattle.flow_core_concurrent.specs.Words.{word_at, amount, is_taken, is_started}
use Rattle.flow_core_concurrent.specs.Steps.{end_of}
use Rattle.flow_core_concurrent.proofs.Words.{word_at-set}
use Rattle.flow_core_concurrent.proofs.Counts.{CountsAlike, StoresAlike, counted_at-alike, underway_at-alike, lacking-alike}
use Rattle.flow_core_concurrent.proofs.Parts.{Flows}

pub flows_moved : (known : Known) (words : List Word) (cells : List (Option Elem)) (runs : List (Option FrameRun)) (words' : List Word) (runs' : List (Option FrameRun)) → Flows known words cells runs → length words' ≡ length words → ((g : ℕ) → amount (word_at words' g) ≡ amount (word_at words g)) → ((g : ℕ) → word_at words' g ≢ Wait 0) → CountsAlike known.plan words runs words' runs' → StoresAlike known.plan runs runs' → ((f : ℕ) → count_by (is_run_of f) runs' ≡ one (is_taken (word_at words' f))) → ((f : ℕ) (end : TaskEnd) → word_at words' f ≡ Ended end → end_of known f ≡ Some end) → is_started (word_at words' (length known.plan.frames)) ≡ false → Flows known words' cells runs'
flows_moved known words cells runs words' runs' flows lengths amounts some counts stores taken meant sink = record {
  words_of_plan = lengths ∙ flows.words_of_plan;
  cells_of_plan = flows.cells_of_plan;
  hold = flows.hold;
  filled = λ c. let a = flows.filled c in let b = counted_at-alike known.plan words runs words' runs' counts c in let d = underway_at-alike known.plan runs runs' stores c in omega (arith, a, b, d);
  count = λ f le. amounts f ∙ flows.count f le ∙ sym (lacking-alike known.plan words runs words' runs' counts f);
  wait_for_some = some;
  taken = taken;
  meant = meant;
  sink = sink;
}

-- one more seat that runs nothing
pub flows_pushed : (known : Known) (words : List Word) (cells : List (Option Elem)) (runs : List (Option FrameRun)) → Flows known words cells runs → Flows known words cells (runs ++ None ∷ [])
flows_pushed known words cells runs flows = flows_moved known words cells runs words (runs ++ None ∷ []) flows refl (λ g. refl) flows.wait_for_some
    (record { each = λ q p h. let e = count_by_push (is_past p.from q) runs None in let z : one (is_past p.from q None) ≡ 0 = refl in omega (arith, e, z) })
    (record { each = λ q k p h. let e = count_by_push (has_stored p.from q k) runs None in let z : one (has_stored p.from q k None) ≡ 0 = refl in omega (arith, e, z) })
    (λ f. let e = count_by_push (is_run_of f) runs None in let z : one (is_run_of f None) ≡ 0 = refl in let t = flows.taken f in omega (arith, e, z, t))
    flows.meant
    flows.sink

-- no word is Wait(0) where none was and the new one isn't
pub set_waits_for_some : (words : List Word) (f : ℕ) (w : Word) → f < length words → ((g : ℕ) → word_at words g ≢ Wait 0) → w ≢ Wait 0 → (g : ℕ) → word_at (set words f w) g ≢ Wait 0
set_waits_for_some words f w lt old new g = by (word_at-set words f w g lt)
  where
    by : ((g ≡ f) × (word_at (set words f w) g ≡ w)) ⊎ ((g ≢ f) × (word_at (set words f w) g ≡ word_at words g)) → word_at (set words f w) g ≢ Wait 0
    by (inl (e, is)) = λ z. new (sym is ∙ z)
    by (inr (n, is)) = λ z. old g (sym is ∙ z)
