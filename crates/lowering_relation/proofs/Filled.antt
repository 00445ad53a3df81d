-- An activation of the control program that is done wrote as many elements as its output windows have horizons.
use Rattle.std.proofs.Common.{◌≡◌, ◌∙◌, ℕ, ◌+◌, Bool, true, false, not, if◌then◌else◌, List, [], ◌∷◌, length, refl, sym, ap, arith}
use Rattle.std.specs.Prelude.{filter, sum_by}
use Rattle.std.proofs.lemmas.List.Sums.{sum_by-cons}
use Rattle.cddf_meaning.proofs.Scoping.{main_is_scoped}
use Rattle.cddf_meaning.proofs.Written.{outputs-have}
use Rattle.cddf_meaning.specs.Body.{body, chosen_outcome, outcome_in, task_outcome}
use Rattle.cddf_meaning.specs.Functions.{empty_file, file_of}
use Rattle.cddf_meaning.specs.Moves.{read_horizons, written_horizons}
use Rattle.cddf_meaning.specs.Program.{Main}
use Rattle.flow_core_laws.specs.declared.claim.Claim.{Claim}
use Rattle.flow_core_laws.specs.declared.outcome.Outcome.{Outcome}
use Rattle.os_ast.specs.Notes.Programs as notes
use Rattle.lowering_relation.proofs.SamePlaces.{main_in}
use Rattle.lowering_relation.proofs.Sited.{has_task}
use Rattle.lowering_relation.specs.Laws.{BodiesFill}

abbrev horizon : Claim → ℕ
horizon c = c.horizon

-- what an activation reads, as the streams and the meaning count it
reads_same : (claims : List Claim) → sum_by horizon (filter (λ (c : Claim). not c.write) claims) ≡ read_horizons claims
reads_same [] = refl
reads_same (c ∷ claims) = by_case c.write (reads_same claims)
  where
    by_case : (t : Bool) → sum_by horizon (filter (λ (d : Claim). not d.write) claims) ≡ read_horizons claims →
        sum_by horizon (if not t then c ∷ filter (λ (d : Claim). not d.write) claims else filter (λ (d : Claim). not d.write) claims)
        ≡ (if t then 0 else c.horizon) + read_horizons claims
    by_case true more = omega (arith, more)
    by_case false more = sum_by-cons horizon c (filter (λ (d : Claim). not d.write) claims) ∙ omega (arith, more)

-- and what it writes
writes_same : (claims : List Claim) → sum_by horizon (filter (λ (c : Claim). c.write) claims) ≡ written_horizons claims
writes_same [] = refl
writes_same (c ∷ claims) = by_case c.write (writes_same claims)
  where
    by_case : (t : Bool) → sum_by horizon (filter (λ (d : Claim). d.write) claims) ≡ written_horizons claims →
        sum_by horizon (if t then c ∷ filter (λ (d : Claim). d.write) claims else filter (λ (d : Claim). d.write) claims)
        ≡ (if t then c.horizon else 0) + written_horizons claims
    by_case true more = sum_by-cons horizon c (filter (λ (d : Claim). d.write) claims) ∙ omega (arith, more)
    by_case false more = omega (arith, more)

pub bodies_fill : BodiesFill
bodies_fill p input_len control_budget k a inputs budget at long done =
    let (m, t, is, there) = has_task p input_len control_budget k a at in
    let h = main_in p empty_file notes.file m (main_is_scoped p ∙ is) in
    let file : m.file ≡ file_of h.items = ap (λ (n : Main). n.file) h.is in
    let same : body p a inputs budget ≡ task_outcome (file_of h.items) t a inputs budget =
    ap (λ o. outcome_in o a inputs budget) is ∙ ap (λ o. chosen_outcome m.file o a inputs budget) there ∙ ap (λ f. task_outcome f t a inputs budget) file in
    ap (λ (o : Outcome). length o.outputs) same
    ∙ outputs-have h.items t a inputs budget (omega (arith, long, reads_same a.claims)) (ap (λ (o : Outcome). o.end) (sym same) ∙ done)
    ∙ sym (writes_same a.claims)
