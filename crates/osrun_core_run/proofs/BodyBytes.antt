-- The body of a task writes nothing but bytes to the output.
use Rattle.std.proofs.Common.{◌≡◌, ℕ, ℤ, pos, ◌+◌, Bool, true, false, cond, not, List, [], ◌∷◌, ◌++◌, Option, Some, None, length, map, slice_get, take, drop, replicate, refl, sym, ap, ◌∙◌, subst, arith}
use Rattle.std.specs.Prelude.{◌==◌, filter, sum_by}
use Rattle.std.proofs.lemmas.List.{length-drop, length-replicate, length-take}
use Rattle.std.proofs.lemmas.List.Sums.{sum_by-cons}
use Rattle.c_int.specs.Traps.{trap_code}
use Rattle.cddf_meaning.specs.Body.{body, bound_round, chosen_outcome, done, gives_bytes, item_lists, outcome, outcome_in, task_outcome, outputs_of}
use Rattle.cddf_meaning.specs.Flow.{Ran, Went, Ended}
use Rattle.cddf_meaning.specs.Functions.{file_of, in_function}
use Rattle.cddf_meaning.specs.Moves.{Keeps, item_lengths}
use Rattle.cddf_meaning.specs.Program.{Main, main_at, main_behind, main_of}
use Rattle.cddf_meaning.specs.Run.{Around, run}
use Rattle.cddf_meaning.specs.BodyState.{BodyState, state_of}
use Rattle.cddf_meaning.specs.Tasks.{Task}
use Rattle.cddf_meaning.specs.declared.ending.Ending.TheVariants.{Trapped, OverBudget, Limited}
use Rattle.flow_core_laws.specs.Outcome.{over_budget, trapped}
use Rattle.flow_core_laws.specs.Window.{offset_after}
use Rattle.flow_core_laws.specs.declared.activation.Activation.{Activation}
use Rattle.flow_core_laws.specs.declared.claim.Claim.{Claim}
use Rattle.flow_core_laws.specs.declared.outcome.Outcome.{Outcome}
use Rattle.os_ast.specs.Names.{main_id}
use Rattle.os_ast.specs.Trees as tree
use Rattle.os_code.specs.Tasks.{input_count}
use Rattle.osrun_core_run.specs.BodyLaws.{GivesBytes}
use Rattle.osrun_core_run.proofs.WrittenBytes.{bytes_written}

-- statements keep the lengths of the items' lists
abbrev pub RunsKeep : Type 0
RunsKeep = (items : List tree.ItemTree) (u : Around) (a : tree.StmtTree) (s : BodyState) (turns : ℕ) → u.file ≡ file_of items → Keeps s turns (run u a s turns)

-- as many inputs as the read claims have horizons
list-has : (write : Bool) (horizon rest : ℕ) (inputs : List ℤ) (next : List ℤ → List (List ℤ)) (hs : List ℕ)
    → length inputs ≡ cond (not write) (horizon + rest) rest → ((inputs : List ℤ) → length inputs ≡ rest → map length (next inputs) ≡ hs)
    → map length (cond write (replicate horizon (pos 0) ∷ next inputs) (take horizon inputs ∷ next (drop horizon inputs))) ≡ horizon ∷ hs
list-has true horizon rest inputs next hs h f =
    ap (λ n. n ∷ map length (next inputs)) (length-replicate horizon (pos 0)) ∙ ap (λ ns. horizon ∷ ns) (f inputs h)
list-has false horizon rest inputs next hs h f =
    ap (λ n. n ∷ map length (next (drop horizon inputs))) (length-take horizon inputs ∙ omega (arith, h))
    ∙ ap (λ ns. horizon ∷ ns) (f (drop horizon inputs) (omega (arith, h, length-drop horizon inputs)))

abbrev pub read_sum : List Claim → ℕ
read_sum cs = sum_by (λ (c : Claim). c.horizon) (filter (λ (c : Claim). not c.write) cs)

pub read_sum-cons : (c : Claim) (cs : List Claim) → read_sum (c ∷ cs) ≡ cond (not c.write) (c.horizon + read_sum cs) (read_sum cs)
read_sum-cons c cs = by (not c.write)
  where
    by : (b : Bool) → sum_by (λ (e : Claim). e.horizon) (cond b (c ∷ filter (λ (e : Claim). not e.write) cs) (filter (λ (e : Claim). not e.write) cs)) ≡ cond b (c.horizon + read_sum cs) (read_sum cs)
    by true = sum_by-cons (λ (e : Claim). e.horizon) c (filter (λ (e : Claim). not e.write) cs)
    by false = refl

lists-have : (claims : List Claim) (inputs : List ℤ) → length inputs ≡ read_sum claims → map length (item_lists claims inputs) ≡ map (λ (c : Claim). c.horizon) claims
lists-have [] inputs h = refl
lists-have (c ∷ cs) inputs h =
    list-has c.write c.horizon (read_sum cs) inputs (item_lists cs) (map (λ (e : Claim). e.horizon) cs) (h ∙ read_sum-cons c cs) (lists-have cs)

-- nothing that was written is a byte
pub nothing : (x : Activation) (o : Outcome) → o.outputs ≡ [] → GivesBytes x o
nothing x o empty k j c value at write stream lt is = absurd (let e : None ≡ Some value = sym (ap (λ vs. slice_get vs (offset_after (take k x.claims) c + j)) empty) ∙ is in cc)

ended : (x : Activation) (line : ℕ) (items : List (List ℤ)) → map length items ≡ map (λ (c : Claim). c.horizon) x.claims → (b : Bool) → gives_bytes x.claims items ≡ b
    → GivesBytes x (cond b (done (outputs_of x.claims items)) (trapped 5 line))
ended x line items long true gives = bytes_written x.claims items long gives
ended x line items long false gives = nothing x (trapped 5 line) refl

ran : (x : Activation) (line : ℕ) (s : BodyState) (turns : ℕ) (r : Ran) → Keeps s turns r → item_lengths s ≡ map (λ (c : Claim). c.horizon) x.claims → GivesBytes x (outcome line x.claims r)
ran x line s turns (Went flow t left) kept long = ended x line t.items (kept.1 ∙ long) (gives_bytes x.claims t.items) refl
ran x line s turns (Ended (Trapped why at) activations) kept long = nothing x (trapped (trap_code why) at) refl
ran x line s turns (Ended OverBudget activations) kept long = nothing x over_budget refl
ran x line s turns (Ended (Limited limit) activations) kept long = nothing x over_budget refl

task_gives : RunsKeep → (items : List tree.ItemTree) (t : Task) (x : Activation) (inputs : List ℤ) (budget : ℕ) → length inputs ≡ input_count x
    → GivesBytes x (task_outcome (file_of items) t x inputs budget)
task_gives keep items t x inputs budget long =
    let s = state_of (bound_round t x.captured) (item_lists x.claims inputs) in
    ran x t.mark.line s budget (run (in_function (file_of items)) t.body s budget) (keep items (in_function (file_of items)) t.body s budget refl) (lists-have x.claims inputs long)

-- what `main` sees of the file is what some of its items declare
main-file : (items before : List tree.ItemTree) (m : Main) → main_behind before items ≡ Some m → (seen : List tree.ItemTree) × (m.file ≡ file_of seen)
main-file [] before m found = absurd (cc)
main-file (tree.Constant c ∷ rest) before m found = main-file rest (before ++ tree.Constant c ∷ []) m found
main-file (tree.Function f ∷ rest) before m found = by (f.name.id == main_id) found (main-file rest (before ++ tree.Function f ∷ []) m)
  where
    by : (b : Bool) → cond b (Some (main_at before f)) (main_behind (before ++ tree.Function f ∷ []) rest) ≡ Some m
        → (main_behind (before ++ tree.Function f ∷ []) rest ≡ Some m → (seen : List tree.ItemTree) × (m.file ≡ file_of seen)) → (seen : List tree.ItemTree) × (m.file ≡ file_of seen)
    by true here more = let e : main_at before f ≡ m = cc in (before, ap (λ (n : Main). n.file) (sym e))
    by false later more = more later

pub body_gives : RunsKeep → (p : tree.ProgramTree) (x : Activation) (inputs : List ℤ) (budget : ℕ) → length inputs ≡ input_count x → GivesBytes x (body p x inputs budget)
body_gives keep p x inputs budget long = by_main (main_of p) refl
  where
    by_task : (m : Main) (seen : List tree.ItemTree) → m.file ≡ file_of seen → (t : Option Task) → GivesBytes x (chosen_outcome m.file t x inputs budget)
    by_task m seen is None = nothing x (done []) refl
    by_task m seen is (Some t) = subst (λ file. GivesBytes x (task_outcome file t x inputs budget)) (sym is) (task_gives keep seen t x inputs budget long)

    by_main : (o : Option Main) → main_of p ≡ o → GivesBytes x (outcome_in o x inputs budget)
    by_main None found = nothing x (done []) refl
    by_main (Some m) found =
        let (seen, is) = main-file p [] m found in
        by_task m seen is (slice_get m.tasks x.site)
