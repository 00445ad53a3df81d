-- The units of functions and of `main` are fine.
use Rattle.std.proofs.Common.{◌≡◌, ℕ, ◌+◌, ◌<◌, ◌≤◌, ◌==◌, true, false, if◌then◌else◌, List, [], ◌∷◌, length, refl, sym, ap, ◌∙◌, subst, arith}
use Rattle.std.specs.Prelude.{⊤}
use Rattle.os_ast.specs.Leveled.{AreStmts}
use Rattle.os_ast.specs.Names.{Scope, enter, in_unit, main_id}
use Rattle.os_ast.specs.Notes.Programs.{owner_of, param_list, round_body, after_param, after_params, in_body}
use Rattle.os_ast.specs.Notes.Programs as programs
use Rattle.os_ast.specs.Notes.Statements.{after_stmts, stmts_notes}
use Rattle.os_ast.specs.Trees as tree
use Rattle.os_ast.specs.declared.names.Entity.{Entity}
use Rattle.os_ast.specs.declared.names.Entity.TheVariants as entity
use Rattle.os_ast.specs.declared.names.Entry.{Entry}
use Rattle.os_ast.specs.declared.names.Owner.{Owner}
use Rattle.os_ast.specs.declared.names.Owner.TheVariants as owner
use Rattle.os_ast.specs.declared.names.Resolved.{Resolved}
use Rattle.os_ast.specs.declared.program.Param.{Param}
use Rattle.os_code.specs.Effects.{operands_of, stands_in}
use Rattle.os_code.specs.Parts.{Main, Function, kind_at}
use Rattle.os_code.specs.declared.instr.Instr.TheVariants as instr
use Rattle.os_code.specs.declared.parts.Parts.{Parts}
use Rattle.os_code.specs.declared.unit.CodeUnit.{CodeUnit}
use Rattle.lowering_relation.specs.Names.{told_at}
use Rattle.lowering_relation.specs.Programs.{size_by, in_function, in_main, HasFunction, HasMain}
use Rattle.lowering_relation.specs.Statements.{Body}
use Rattle.lowering_relation.specs.Tasks.{TaskTree, all_tasks_of}
use Rattle.lowering_relation.proofs.Files.{params_owner}
use Rattle.lowering_relation.proofs.Functions.{params_slots}
use Rattle.lowering_relation.proofs.Homes.{Home, AllFit, AreSpawned}
use Rattle.lowering_relation.proofs.LaidUnits.{home_of, IsLaid, function_laid, main_laid}
use Rattle.lowering_relation.proofs.Spawned.{none_spawned}
use Rattle.lowering_relation.proofs.OwnNotes.{all_own_notes}
use Rattle.lowering_relation.proofs.Sizes.{stmts_sizes}
use Rattle.lowering_relation.proofs.TextStmts.{scalar_may, stmts_fit}
use Rattle.lowering_relation.proofs.Texts.{Text, May, AllMay, known_by, In}
use Rattle.window_check_laws.specs.Order.{InOrder}
use Rattle.window_check_laws.specs.Sums.{stmts_slots}
use Rattle.window_check_laws.specs.Told.{AreLawful, Tells}
use Rattle.window_check_laws.proofs.Summed.{summed-stmts}

-- what the file declares behind `number` functions: constants, and functions that may be called but for `main`
abbrev pub FileMay : Parts → (number id : ℕ) → Entity → Type 0
FileMay code number id (entity.Constant v) = ⊤
FileMay code number id (entity.Function callee params) =
    (id == main_id) ≡ false → (operands_of code (instr.Call callee) ≡ params) × (callee < number) × (kind_at code callee ≡ Function)
FileMay code number id _ = ⊥

abbrev pub AllFileMay : Parts → (number : ℕ) → List Entry → Type 0
AllFileMay code number [] = ⊤
AllFileMay code number (e ∷ es) = FileMay code number e.id e.entity × AllFileMay code number es

-- behind more functions it stays
may_later : (code : Parts) (number later id : ℕ) (d : Entity) → number ≤ later → FileMay code number id d → FileMay code later id d
may_later code number later id (entity.Constant v) le may = tt
may_later code number later id (entity.Function callee params) le may = λ other. let m = may other in (m.0, omega (arith, m.1, le), m.2)
may_later code number later id (entity.Scalar slot) le may = may
may_later code number later id (entity.Control slot) le may = may
may_later code number later id entity.InputLength le may = may
may_later code number later id (entity.Array first size) le may = may
may_later code number later id (entity.Window slot) le may = may
may_later code number later id (entity.Stream n) le may = may
may_later code number later id (entity.Streams first count) le may = may
may_later code number later id (entity.Element item d) le may = may
may_later code number later id (entity.View item d) le may = may

pub all_later : (code : Parts) (number later : ℕ) (es : List Entry) → number ≤ later → AllFileMay code number es → AllFileMay code later es
all_later code number later [] le all = tt
all_later code number later (e ∷ es) le all = (may_later code number later e.id e.entity le all.0, all_later code number later es le all.1)

module _ (code : Parts) (body : Body) (number : ℕ) (unit : CodeUnit) (o : Owner) where
  file_may : (id : ℕ) (d : Entity) → FileMay code number id d → May (home_of code body number unit) o id d
  file_may id (entity.Constant v) may = tt
  file_may id (entity.Function callee params) may = λ other. let m = may other in (m.0, (m.1, m.2))
  file_may id (entity.Scalar slot) may = absurd may
  file_may id (entity.Control slot) may = absurd may
  file_may id entity.InputLength may = absurd may
  file_may id (entity.Array first size) may = absurd may
  file_may id (entity.Window slot) may = absurd may
  file_may id (entity.Stream n) may = absurd may
  file_may id (entity.Streams first count) may = absurd may
  file_may id (entity.Element item d) may = absurd may
  file_may id (entity.View item d) may = absurd may

  pub all_file_may : (es : List Entry) → AllFileMay code number es → AllMay (home_of code body number unit) o es
  all_file_may [] all = tt
  all_file_may (e ∷ es) all = (file_may e.id e.entity all.0, all_file_may es all.1)

-- parameters
params_in : (t : Text) (ns : List Param) (s : Scope) → In t s → (after_params s ns).slots ≤ t.home.slots → In t (after_params s ns)
params_in t [] s is le = is
params_in t (n ∷ ns) s is le =
    params_in t ns (after_param s n)
    (record { owner = is.owner; captured = is.captured; may = (scalar_may t s.owner n.name.id s.slots is.owner (omega (arith, le, params_slots ns (after_param s n))), is.may) })
    le

module _ (code : Parts) (rs : List Resolved) (ordered : InOrder rs) (s : Scope) (f : tree.FunctionTree) (leveled : AreStmts f.body) (lawful : AreLawful (stmts_notes (in_body s f) f.body))
    (tells : Tells rs (stmts_notes (in_body s f) f.body)) where
  abbrev body_scope : Scope
  body_scope = in_body s f

  abbrev round : Owner → Scope
  round o = enter (round_body o (enter (in_unit o s)))

  -- the slots of a body
  sum : (after_stmts body_scope f.body).slots ≡ body_scope.slots + stmts_slots body_scope.owner (size_by (told_at rs)) f.body
  sum = summed-stmts (size_by (told_at rs)) body_scope f.body (stmts_sizes rs ordered f.body body_scope lawful tells)

  module _ (number : ℕ) (may : AllFileMay code number s.entries) where
    pub function_unit : (f.name.id == main_id) ≡ false → kind_at code number ≡ Function → (has : HasFunction code (told_at rs) number f) →
        IsLaid code number has.unit
    function_unit other kind has =
        function_laid code (in_function (told_at rs)) number has.unit f.body body_scope has.end has.last refl (ap (λ k. stands_in k instr.Return) kind)
        (stmts_fit t leveled body_scope begins (record { slots = room; streams = λ e. absurd (cc) }) (known_by t (stmts_notes body_scope f.body) lawful tells (λ n. tt)))
        (none_spawned (home_of code (in_function (told_at rs)) number has.unit) refl (all_tasks_of f.body)) has.body has.falls_off has.fills (omega (arith, has.args, has.slots))
      where
        own : owner_of f.name.id ≡ owner.OfFunction
        own = ap (λ t. if t then owner.OfMain else owner.OfFunction) other

        t : Text
        t = record {
          home = home_of code (in_function (told_at rs)) number has.unit;
          names = rs;
          ordered = ordered;
          told = refl;
          owner = owner.OfFunction;
          captured = [];
          in_main = λ e. absurd (cc);
          caught_fit = λ e. absurd (cc);
        }

        s0 : Scope
        s0 = programs.in_function s f.name.id

        is_owner : s0.owner ≡ owner.OfFunction
        is_owner = ap (λ o. (round o).owner) own

        none : s0.slots ≡ 0
        none = ap (λ o. (round o).slots) own

        first : body_scope.slots ≡ s0.slots + length (param_list f.params)
        first = params_slots (param_list f.params) s0

        room : (after_stmts body_scope f.body).slots ≤ has.unit.slots
        room =
            let size : stmts_slots body_scope.owner (size_by (told_at rs)) f.body ≡ stmts_slots owner.OfFunction (size_by (told_at rs)) f.body =
            ap (λ o. stmts_slots o (size_by (told_at rs)) f.body) (params_owner (param_list f.params) s0 ∙ is_owner) in
            omega (arith, sum, size, first, none, has.slots)

        begins : In t body_scope
        begins =
            params_in t (param_list f.params) s0
            (record {
              owner = is_owner;
              captured = ap (λ o. (round o).captured) own;
              may = subst (AllMay t.home owner.OfFunction) (sym (ap (λ o. (round o).entries) own)) (all_file_may code (in_function (told_at rs)) number has.unit owner.OfFunction s.entries may);
            })
            (omega (arith, first, none, has.slots))

    module _ (tasks : List TaskTree) (named : (f.name.id == main_id) ≡ true) (bare : param_list f.params ≡ []) (kind : kind_at code number ≡ Main) (some : 2 ≤ code.streams)
        (few : 2 + (after_stmts body_scope f.body).streams ≤ code.streams) (has : HasMain code (told_at rs) tasks number f) where
      abbrev pub main_home : Home
      main_home = home_of code (in_main (told_at rs) tasks) number has.unit

      abbrev main_text : Text
      main_text = record {
        home = main_home;
        names = rs;
        ordered = ordered;
        told = refl;
        owner = owner.OfMain;
        captured = [];
        in_main = λ e. kind;
        caught_fit = λ e. omega arith;
      }

      main_begins : body_scope ≡ round owner.OfMain
      main_begins =
          ap (after_params (programs.in_function s f.name.id)) bare
          ∙ ap (λ o. round o) (ap (λ t. if t then owner.OfMain else owner.OfFunction) named)

      main_room : (after_stmts body_scope f.body).slots ≤ has.unit.slots
      main_room =
          let size : stmts_slots body_scope.owner (size_by (told_at rs)) f.body ≡ stmts_slots owner.OfMain (size_by (told_at rs)) f.body =
          ap (λ (x : Scope). stmts_slots x.owner (size_by (told_at rs)) f.body) main_begins in
          let first : body_scope.slots ≡ 1 = ap (λ (x : Scope). x.slots) main_begins in
          omega (arith, sum, size, first, has.slots)

      main_in : In main_text body_scope
      main_in =
          subst (In main_text) (sym main_begins)
          (record {
            owner = refl;
            captured = refl;
            may = (
              omega (arith, has.slots),
              (omega (arith, some), (omega (arith, some), all_file_may code (in_main (told_at rs) tasks) number has.unit owner.OfMain s.entries may)),
            );
          })

      -- what stands in `main` fits
      pub main_fits : AllFit main_home (all_own_notes body_scope f.body)
      main_fits =
          stmts_fit main_text leveled body_scope main_in (record { slots = main_room; streams = λ e. few })
          (known_by main_text (stmts_notes body_scope f.body) lawful tells (λ n. tt))

      pub main_unit : AreSpawned main_home (all_tasks_of f.body) → IsLaid code number has.unit
      main_unit spawned =
          main_laid code (in_main (told_at rs) tasks) number has.unit f.body body_scope has.end refl (ap (λ k. stands_in k instr.End) kind) main_fits spawned has.body has.falls_off has.fills
          (omega (arith, has.args, has.slots))
