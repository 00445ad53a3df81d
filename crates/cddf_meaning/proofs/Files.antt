-- Turns never grow in a call of what the items of a file declare.
use Rattle.std.proofs.Common.{ℕ, zero, suc, ◌==◌, List, [], ◌∷◌, ℤ, arith}
use Rattle.cddf_meaning.specs.File.{File}
use Rattle.cddf_meaning.specs.Flow.{Ran, Went, Ended}
use Rattle.cddf_meaning.specs.Functions.{file_of, with_item, with_items, empty_file, call_function, in_function, bind_params, returned}
use Rattle.cddf_meaning.specs.Moves.{Falls, CallsFall, Keeps}
use Rattle.cddf_meaning.specs.Run.{run_all}
use Rattle.cddf_meaning.specs.BodyState.{BodyState, state_of}
use Rattle.os_ast.specs.Notes.Programs.{param_list}
use Rattle.os_ast.specs.Trees as tree
use Rattle.cddf_meaning.proofs.Falls.{falls-if, falls-less}
use Rattle.cddf_meaning.proofs.Keeps.{all-keeps}

returned-falls : (s : BodyState) (turns : ℕ) (r : Ran) → Keeps s turns r → Falls turns (returned r)
returned-falls s turns (Ended ending acts) k = tt
returned-falls s turns (Went flow t left) (a, b) = a

function-falls : (file : File) → CallsFall file → (f : tree.FunctionTree) (args : List ℤ) (turns : ℕ) →
    Falls turns (call_function file f args turns)
function-falls file calls f args zero = tt
function-falls file calls f args (suc turns) =
    let s = state_of (bind_params (param_list f.params) args []) [] in
    let r = run_all (in_function file) f.body s turns in
    falls-less (suc turns) turns (returned r) (omega arith) (returned-falls s turns r (all-keeps (in_function file) calls f.body s turns))

pub item-falls : (file : File) → CallsFall file → (i : tree.ItemTree) → CallsFall (with_item file i)
item-falls file calls (tree.Constant c) n args turns = calls n args turns
item-falls file calls (tree.Function f) n args turns =
    falls-if (n == file.count) turns (call_function file f args turns) (file.calls n args turns)
    (function-falls file calls f args turns) (calls n args turns)

items-fall : (file : File) → CallsFall file → (items : List tree.ItemTree) → CallsFall (with_items file items)
items-fall file calls [] = calls
items-fall file calls (i ∷ is) = items-fall (with_item file i) (item-falls file calls i) is

pub calls-fall : (items : List tree.ItemTree) → CallsFall (file_of items)
calls-fall items = items-fall empty_file (λ n args turns. tt) items
