-- A code that is made grows: what was there stays, and more stands behind it.
use Rattle.std.proofs.Common.{◌≡◌, ◌∙◌, ℕ, ◌-◌, ◌<◌, ◌==◌, Bool, true, false, List, [], ◌∷◌, ◌++◌, length, Option, Some, None, slice_get, ap, refl, arith, append_assoc, pos}
use Rattle.lowering_draft.proofs.Keeping.{Keeps, KeepsLabels, kept, keeps_instrs, keeps_label, keeps_place, then_kept}
use Rattle.lowering_draft.proofs.KeptStatements.{block_kept, stmt_kept}
use Rattle.lowering_draft.proofs.Lists.{slice_get-front}
use Rattle.lowering_draft.specs.Draft.{next_label, with_label}
use Rattle.lowering_draft.specs.Emission.Expressions.{Emission}
use Rattle.lowering_draft.specs.Emission.Statements.{StmtPart, block_code, stmt_code}
use Rattle.lowering_draft.specs.Emission.Units.{body_code, exits_of, function_code, main_code, task_code, with_function, with_functions, with_main, with_plain, with_task, with_tasks, with_unit}
use Rattle.lowering_draft.specs.declared.draft.Label.{Label}
use Rattle.lowering_draft.specs.declared.exits.Exits.{Exits}
use Rattle.lowering_draft.specs.declared.units.Units.{Units}
use Rattle.os_ast.specs.Names.{main_id}
use Rattle.os_ast.specs.Trees as tree
use Rattle.os_ast.specs.declared.names.Resolved.{Resolved}
use Rattle.os_code.specs.declared.instr.Instr.{Instr}
use Rattle.os_code.specs.declared.instr.Instr.TheVariants.{End, Push, Return}
use Rattle.os_code.specs.declared.site.Site.{Site}
use Rattle.os_code.specs.declared.unit.CodeUnit.{CodeUnit}
use Rattle.lowering_relation.specs.Tasks.{TaskTree}

-- what was made is there in what is made later
pub record Grows (m n : Units) : Type 0 where
  pub draft : Keeps m.draft n.draft
  pub units_behind : List CodeUnit
  pub units : n.units ≡ m.units ++ units_behind
  pub sites_behind : List Site
  pub sites : n.sites ≡ m.sites ++ sites_behind

nothing_more : {A : Type 0} (xs : List A) → xs ≡ xs ++ []
nothing_more [] = refl
nothing_more (x ∷ xs) = ap (λ ys. x ∷ ys) (nothing_more xs)

pub grown : (m : Units) → Grows m m
grown m = record { draft = kept m.draft; units_behind = []; units = nothing_more m.units; sites_behind = []; sites = nothing_more m.sites }

pub then_grown : {m n o : Units} → Grows m n → Grows n o → Grows m o
then_grown {m} {n} {o} a b = record {
  draft = then_kept a.draft b.draft;
  units_behind = a.units_behind ++ b.units_behind;
  units = b.units ∙ ap (λ us. us ++ b.units_behind) a.units ∙ append_assoc m.units a.units_behind b.units_behind;
  sites_behind = a.sites_behind ++ b.sites_behind;
  sites = b.sites ∙ ap (λ us. us ++ b.sites_behind) a.sites ∙ append_assoc m.sites a.sites_behind b.sites_behind;
}

-- a unit and a site stay where they are
pub unit_stays : {m n : Units} → Grows m n → (k : ℕ) (u : CodeUnit) → k < length m.units → slice_get m.units k ≡ Some u → slice_get n.units k ≡ Some u
unit_stays {m} {n} g k u within is = ap (λ us. slice_get us k) g.units ∙ slice_get-front m.units g.units_behind k within ∙ is

pub site_stays : {m n : Units} → Grows m n → (k : ℕ) (s : Site) → k < length m.sites → slice_get m.sites k ≡ Some s → slice_get n.sites k ≡ Some s
site_stays {m} {n} g k s within is = ap (λ us. slice_get us k) g.sites ∙ slice_get-front m.sites g.sites_behind k within ∙ is

-- a body with what stands behind it
pub body_kept : (leaves : Instr) (f : StmtPart) (falls : List Instr) → ((x : Exits) (next : Option Label) → KeepsLabels (f x next))
    → KeepsLabels (body_code leaves f falls)
body_kept leaves f falls keeps d =
    let end = next_label d in
    let d1 = with_label d in
    let d2 = f (exits_of end leaves) None d1 in
    keeps_instrs (keeps_place (then_kept (keeps_label (kept d)) (keeps (exits_of end leaves) None d1)) end (omega arith)) falls

module _ (tells : ℕ → Resolved) where
  unit_grows : (code : Emission) (args slots : ℕ) (m : Units) → KeepsLabels code → Grows m (with_unit code args slots m)
  unit_grows code args slots m keeps = record {
    draft = keeps m.draft;
    units_behind = record { start = length m.draft.instrs; args = args; slots = slots; stack = length (code m.draft).instrs - length m.draft.instrs } ∷ [];
    units = refl;
    sites_behind = [];
    sites = nothing_more m.sites;
  }

  pub plain_grows : (f : tree.FunctionTree) (m : Units) → Grows m (with_plain tells f m)
  plain_grows f m = unit_grows (function_code tells f.body) _ _ m
      (body_kept Return (block_code tells f.body) (Push (pos 0) ∷ Return ∷ []) (block_kept tells f.body))

  pub main_grows : (f : tree.FunctionTree) (m : Units) → Grows m (with_main tells f m)
  main_grows f m =
      let g = unit_grows (main_code tells f.body) _ _ m (body_kept End (block_code tells f.body) (End ∷ []) (block_kept tells f.body)) in
      record { draft = g.draft; units_behind = g.units_behind; units = g.units; sites_behind = g.sites_behind; sites = g.sites }

  pub function_grows : (is_main : Bool) (f : tree.FunctionTree) (m : Units) → Grows m (with_function is_main tells f m)
  function_grows true f m = main_grows f m
  function_grows false f m = plain_grows f m

  pub functions_grow : (is : List tree.ItemTree) (m : Units) → Grows m (with_functions tells is m)
  functions_grow [] m = grown m
  functions_grow (tree.Constant c ∷ is) m = functions_grow is m
  functions_grow (tree.Function f ∷ is) m =
      then_grown (function_grows (f.name.id == main_id) f m) (functions_grow is (with_function (f.name.id == main_id) tells f m))

  pub task_grows : (captured : List (List ℕ)) (t : TaskTree) (m : Units) → Grows m (with_task tells captured t m)
  task_grows captured t m =
      let g = unit_grows (task_code tells t.body) _ _ m (body_kept End (stmt_code tells t.body) (End ∷ []) (stmt_kept tells t.body)) in
      record { draft = g.draft; units_behind = g.units_behind; units = g.units; sites_behind = _ ∷ []; sites = refl }

  pub tasks_grow : (captured : List (List ℕ)) (ts : List TaskTree) (m : Units) → Grows m (with_tasks tells captured ts m)
  tasks_grow captured [] m = grown m
  tasks_grow captured (t ∷ ts) m = then_grown (task_grows captured t m) (tasks_grow captured ts (with_task tells captured t m))
