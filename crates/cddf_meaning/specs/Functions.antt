-- What the functions of a program give. A function knows those that stand before it in the text.
use Rattle.std.specs.Prelude.{ℕ, zero, suc, ◌+◌, ◌==◌, Bool, false, if◌then◌else◌, List, [], ◌∷◌, fold, ℤ, pos, Ok, Err}
use Rattle.cddf_meaning.specs.Answers.{Answer, over, Left, left}
use Rattle.cddf_meaning.specs.File.{Calls, File}
use Rattle.cddf_meaning.specs.Flow.{Ran, Went, Ended}
use Rattle.cddf_meaning.specs.Run.{Around, run_all}
use Rattle.cddf_meaning.specs.BodyState.{state_of}
use Rattle.cddf_meaning.specs.Variables.{bind}
use Rattle.cddf_meaning.specs.declared.flow.Flow.TheVariants.{Returns}
use Rattle.cddf_meaning.specs.declared.flow.Flow.{Flow}
use Rattle.cddf_meaning.specs.declared.variable.Binding.{Binding}
use Rattle.cddf_meaning.specs.declared.variable.Variable.{Variable}
use Rattle.cddf_meaning.specs.declared.variable.Variable.TheVariants.{Constant, Function, Scalar}
use Rattle.os_ast.specs.Names.{constant_value}
use Rattle.os_ast.specs.Notes.Programs.{param_list, global_id}
use Rattle.os_ast.specs.Trees as tree
use Rattle.os_ast.specs.Unsigned.{is_unsigned}
use Rattle.os_ast.specs.declared.program.Param.{Param}

-- A body that ends without a `return` gives 0. `break` and `continue` stand in loops alone.
abbrev pub result_of : Flow → ℤ
result_of (Returns v) = v
result_of _ = pos 0

-- what a call gives where the body ended
abbrev pub returned : Ran → Answer (Left ℤ)
returned (Went flow s turns) = Ok (left (result_of flow) turns)
returned (Ended ending activations) = Err ending

-- Each parameter is a scalar with the value of its argument, whose bits a conversion to the parameter's type keeps. There are as many
-- arguments as parameters.
abbrev pub bind_params : List Param → List ℤ → List Binding → List Binding
bind_params [] vs bound = bound
bind_params (p ∷ ps) [] bound = bind_params ps [] (bind p.name.id (is_unsigned p.ty) (Scalar (pos 0)) bound)
bind_params (p ∷ ps) (v ∷ vs) bound = bind_params ps vs (bind p.name.id (is_unsigned p.ty) (Scalar v) bound)

-- what is round the body of a function or a task
abbrev pub in_function : File → Around
in_function file = record { file = file; is_control = false; sites = [] }

-- A call takes a turn behind its arguments, and runs the body with the parameters set.
abbrev pub call_function : File → tree.FunctionTree → List ℤ → ℕ → Answer (Left ℤ)
call_function file f args zero = over
call_function file f args (suc turns) = returned (run_all (in_function file) f.body (state_of (bind_params (param_list f.params) args []) []) turns)

-- whether the constant, or the function's result, is of the type `unsigned`
abbrev pub item_unsigned : tree.ItemTree → Bool
item_unsigned (tree.Constant c) = is_unsigned c.ty
item_unsigned (tree.Function f) = is_unsigned f.ty

-- what the item at this place declares
abbrev pub item_variable : ℕ → tree.ItemTree → Variable
item_variable place (tree.Constant c) = Constant (constant_value c)
item_variable place (tree.Function f) = Function place

abbrev pub calls_with : File → tree.ItemTree → Calls
calls_with file (tree.Constant c) = file.calls
calls_with file (tree.Function f) = λ n args turns. if n == file.count then call_function file f args turns else file.calls n args turns

-- The file with one more item. A constant or a function is in scope behind it.
abbrev pub with_item : File → tree.ItemTree → File
with_item file i =
    record { names = bind (global_id i) (item_unsigned i) (item_variable file.count i) file.names; count = file.count + 1; calls = calls_with file i }

abbrev pub with_items : File → List tree.ItemTree → File
with_items file is = fold with_item file is

-- No function is called that isn't there.
abbrev pub empty_file : File
empty_file = record { names = []; count = 0; calls = λ n args turns. over }

-- what the first items of a file declare
abbrev pub file_of : List tree.ItemTree → File
file_of items = with_items empty_file items
