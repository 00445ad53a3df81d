-- No other function is `main`.
use Rattle.std.proofs.Common.{◌≡◌, ◌∙◌, ℕ, ◌==◌, ◌||◌, Bool, true, false, List, [], ◌∷◌, ap, sym, refl, eqb-true}
use Rattle.std.specs.Prelude.{⊤}
use Rattle.std.proofs.lemmas.Bool.{false≢true}
use Rattle.lowering_draft.specs.Emission.Units.{with_function, with_functions, with_task, with_tasks}
use Rattle.lowering_draft.specs.declared.units.Units.{Units}
use Rattle.os_ast.specs.Names.{main_id}
use Rattle.os_ast.specs.ClauseMembers.{is_in}
use Rattle.os_ast.specs.Trees as tree
use Rattle.os_ast.specs.declared.names.Resolved.{Resolved}
use Rattle.lowering_relation.specs.Tasks.{TaskTree}
use Rattle.window_check_laws.specs.Globals.{AreApart}

-- `main` among the functions behind it
abbrev pub NoMain : List tree.ItemTree → Type 0
NoMain [] = ⊤
NoMain (tree.Constant c ∷ is) = NoMain is
NoMain (tree.Function f ∷ is) = ((f.name.id == main_id) ≡ false) × NoMain is

pub main_kept : (tells : ℕ → Resolved) (is : List tree.ItemTree) (made : Units) → NoMain is → (with_functions tells is made).main ≡ made.main
main_kept tells [] made none = refl
main_kept tells (tree.Constant c ∷ is) made none = main_kept tells is made none
main_kept tells (tree.Function f ∷ is) made none =
    main_kept tells is (with_function (f.name.id == main_id) tells f made) none.1 ∙ ap (λ t. (with_function t tells f made).main) none.0

pub tasks_keep_main : (tells : ℕ → Resolved) (captured : List (List ℕ)) (ts : List TaskTree) (made : Units) → (with_tasks tells captured ts made).main ≡ made.main
tasks_keep_main tells captured [] made = refl
tasks_keep_main tells captured (t ∷ ts) made = tasks_keep_main tells captured ts (with_task tells captured t made)

or_more : (x y : Bool) → y ≡ true → (x || y) ≡ true
or_more true y is = refl
or_more false y is = is

pub no_main_behind : (before : List ℕ) (is : List tree.ItemTree) → is_in main_id before ≡ true → AreApart before is → NoMain is
no_main_behind before [] there apart = tt
no_main_behind before (tree.Constant c ∷ is) there apart =
    no_main_behind (c.name.id ∷ before) is (or_more (c.name.id == main_id) (is_in main_id before) there) apart.1
no_main_behind before (tree.Function f ∷ is) there apart = (
  by_case (f.name.id == main_id) refl,
  no_main_behind (f.name.id ∷ before) is (or_more (f.name.id == main_id) (is_in main_id before) there) apart.1,
)
  where
    by_case : (t : Bool) → (f.name.id == main_id) ≡ t → (f.name.id == main_id) ≡ false
    by_case false e = e
    by_case true e =
        let same : f.name.id ≡ main_id = eqb-true f.name.id main_id e in
        absurd (false≢true (sym apart.0 ∙ ap (λ id. is_in id before) same ∙ there))
