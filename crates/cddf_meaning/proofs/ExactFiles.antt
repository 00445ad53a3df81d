-- A call of what the items of a file declare spends its turns exactly.
use Rattle.std.proofs.Common.{◌≡◌, ℕ, zero, suc, ◌+◌, ◌<◌, ◌==◌, List, [], ◌∷◌, Err, ℤ, arith, refl, ap, ◌∙◌}
use Rattle.cddf_meaning.specs.Answers.{Answer, Left, over}
use Rattle.cddf_meaning.specs.Exact.{IsExact, RunsExactly}
use Rattle.cddf_meaning.specs.File.{File}
use Rattle.cddf_meaning.specs.Flow.{Ran, Went, Ended}
use Rattle.cddf_meaning.specs.Functions.{file_of, with_item, with_items, empty_file, call_function, in_function, bind_params, returned}
use Rattle.cddf_meaning.specs.Moves.{CallsFall}
use Rattle.cddf_meaning.specs.Run.{run_all}
use Rattle.cddf_meaning.specs.BodyState.{state_of}
use Rattle.os_ast.specs.Notes.Programs.{param_list}
use Rattle.os_ast.specs.Trees as tree
use Rattle.cddf_meaning.proofs.Exact.{CallsExact, exact-if, stays-behind, stays-made}
use Rattle.cddf_meaning.proofs.ExactRuns.{all-exact}
use Rattle.cddf_meaning.proofs.Files.{item-falls}

-- a body behind the turn of its call
returned-exact : (f : ℕ → Answer (Left ℤ)) (g : ℕ → Ran) (turns : ℕ) (r : Ran) → f zero ≡ over → ((k : ℕ) → f (suc k) ≡ returned (g k)) →
    RunsExactly g turns r → IsExact ℤ f (suc turns) (returned r)
returned-exact f g turns (Ended ending made) first more e =
    stays-behind f (λ k. returned (g k)) (suc turns) 1 turns ending (Err ending) (omega arith)
    (λ k. let is : 1 + k ≡ suc k = omega arith in ap f is ∙ more k)
    (stays-made returned g turns ending (Ended ending made) (Err ending) refl e)
returned-exact f g turns (Went flow s left) first more e = record {
  spent = suc e.spent;
  all = omega (arith, e.all);
  enough = λ k. let is : suc e.spent + k ≡ suc (e.spent + k) = omega arith in ap f is ∙ (more (e.spent + k) ∙ ap returned (e.enough k));
  fewer = fewer-one;
}
  where
    fewer-one : (less : ℕ) → less < suc e.spent → f less ≡ over
    fewer-one zero h = first
    fewer-one (suc less) h = let (made, is) = e.fewer less (omega (arith, h)) in more less ∙ ap returned is

function-exact : (file : File) → CallsFall file → CallsExact file → (f : tree.FunctionTree) (args : List ℤ) (turns : ℕ) →
    IsExact ℤ (call_function file f args) turns (call_function file f args turns)
function-exact file fall calls f args zero = tt
function-exact file fall calls f args (suc turns) =
    let s = state_of (bind_params (param_list f.params) args []) [] in
    returned-exact (call_function file f args) (run_all (in_function file) f.body s) turns (run_all (in_function file) f.body s turns) refl
    (λ k. refl) (all-exact (in_function file) fall calls f.body s turns)

item-exact : (file : File) → CallsFall file → CallsExact file → (i : tree.ItemTree) → CallsExact (with_item file i)
item-exact file fall calls (tree.Constant c) n args turns = calls n args turns
item-exact file fall calls (tree.Function f) n args turns =
    exact-if (n == file.count) (call_function file f args) (file.calls n args) turns
    (function-exact file fall calls f args turns) (calls n args turns)

items-exact : (file : File) → CallsFall file → CallsExact file → (items : List tree.ItemTree) → CallsExact (with_items file items)
items-exact file fall calls [] = calls
items-exact file fall calls (i ∷ is) = items-exact (with_item file i) (item-falls file fall i) (item-exact file fall calls i) is

pub calls-exact : (items : List tree.ItemTree) → CallsExact (file_of items)
calls-exact items = items-exact empty_file (λ n args turns. tt) (λ n args turns. tt) items
