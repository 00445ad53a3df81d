-- Code that stands for a program does what the program means.
use Rattle.std.proofs.Common.{◌≡◌, ◌∙◌, ◌+◌, Bool, true, false, not, if◌then◌else◌, List, [], ◌∷◌, refl, arith}
use Rattle.std.specs.Prelude.{filter, sum_by}
use Rattle.std.proofs.lemmas.List.Sums.{sum_by-append}
use Rattle.cddf_meaning.specs.Moves.{read_horizons}
use Rattle.flow_core_laws.specs.declared.claim.Claim.{Claim}
use Rattle.lowering.specs.Meanings.{RunsBodies, RunsControl}
use Rattle.os_ast.specs.Trees as tree
use Rattle.os_code.proofs.Halting.{main_ends, tasks_end}
use Rattle.os_code.specs.Outcomes as machine
use Rattle.os_code.specs.declared.parts.Parts.{Parts}
use Rattle.lowering_relation.proofs.MainLaws.{main_ends_only_so}
use Rattle.lowering_relation.proofs.TaskLaws.{ends_only_so}
use Rattle.lowering_relation.specs.Laws.{CodeStandsFor}

-- what an activation reads, as the machine and the meaning count it
same_count : (claims : List Claim) → sum_by (λ (claim : Claim). claim.horizon) (filter (λ (claim : Claim). not claim.write) claims) ≡ read_horizons claims
same_count [] = refl
same_count (c ∷ claims) = by_case c.write (same_count claims)
  where
    by_case : (t : Bool) → sum_by (λ (claim : Claim). claim.horizon) (filter (λ (claim : Claim). not claim.write) claims) ≡ read_horizons claims →
        sum_by (λ (claim : Claim). claim.horizon)
        (if not t then c ∷ filter (λ (claim : Claim). not claim.write) claims else filter (λ (claim : Claim). not claim.write) claims)
        ≡ (if t then 0 else c.horizon) + read_horizons claims
    by_case true more = omega (arith, more)
    by_case false more =
        sum_by-append (λ (claim : Claim). claim.horizon) (c ∷ []) (filter (λ (claim : Claim). not claim.write) claims) ∙ omega (arith, more)

module _ (code : Parts) (p : tree.ProgramTree) (stands : CodeStandsFor code p) where
  pub runs_bodies : RunsBodies code p
  runs_bodies a inputs budget fits enough =
      let t = tasks_end code a inputs budget stands.valid fits in
      ends_only_so p code a inputs budget stands fits (omega (arith, enough, same_count a.claims)) (machine.code_outcome code a inputs budget) t.steps t.ends

  pub runs_control : RunsControl code p
  runs_control input_len budget =
      let m = main_ends code input_len budget stands.valid in
      main_ends_only_so p code input_len budget stands (machine.main_control code input_len budget) m.steps m.ends
