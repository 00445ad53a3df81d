-- A body that is done writes as many elements as its write claims have horizons.
use Rattle.std.proofs.Common.{◌≡◌, ℕ, ◌+◌, ◌≤◌, Bool, true, false, if◌then◌else◌, List, [], ◌∷◌, ◌++◌, length, map, take, drop, replicate, ℤ, pos, arith, refl, ap, ◌∙◌, length-append}
use Rattle.std.proofs.lemmas.List.{length-take, length-drop, length-replicate}
use Rattle.c_int.specs.Traps.{trap_code}
use Rattle.c_int.specs.declared.trap.Trap.TheVariants.{NoByte}
use Rattle.cddf_meaning.specs.Body.{item_lists, outputs_of, outcome, task_outcome, bound_round, gives_bytes, done}
use Rattle.cddf_meaning.specs.Flow.{Ran, Went, Ended}
use Rattle.cddf_meaning.specs.Functions.{file_of, in_function}
use Rattle.cddf_meaning.specs.Moves.{Keeps, item_lengths, read_horizons, written_horizons}
use Rattle.cddf_meaning.specs.Run.{run}
use Rattle.cddf_meaning.specs.BodyState.{BodyState, state_of}
use Rattle.cddf_meaning.specs.Tasks.{Task}
use Rattle.cddf_meaning.specs.declared.ending.Ending.TheVariants.{Trapped, OverBudget, Limited}
use Rattle.flow_core_laws.specs.Outcome.{trapped}
use Rattle.flow_core_laws.specs.declared.activation.Activation.{Activation}
use Rattle.flow_core_laws.specs.declared.claim.Claim.{Claim}
use Rattle.flow_core_laws.specs.declared.task_end.TaskEnd.TheVariants as end
use Rattle.os_ast.specs.Trees as tree
use Rattle.cddf_meaning.proofs.Files.{calls-fall}
use Rattle.cddf_meaning.proofs.Keeps.{run-keeps}

list-has : (write : Bool) (horizon rest : ℕ) (inputs : List ℤ) (next : List ℤ → List (List ℤ)) (hs : List ℕ) →
    (if write then 0 else horizon) + rest ≤ length inputs → ((inputs : List ℤ) → rest ≤ length inputs → map length (next inputs) ≡ hs) →
    map length (if write then replicate horizon (pos 0) ∷ next inputs else take horizon inputs ∷ next (drop horizon inputs)) ≡ horizon ∷ hs
list-has true horizon rest inputs next hs h f =
    ap (λ n. n ∷ map length (next inputs)) (length-replicate horizon (pos 0)) ∙ ap (λ ns. horizon ∷ ns) (f inputs (omega (arith, h)))
list-has false horizon rest inputs next hs h f =
    ap (λ n. n ∷ map length (next (drop horizon inputs))) (length-take horizon inputs ∙ omega (arith, h))
    ∙ ap (λ ns. horizon ∷ ns) (f (drop horizon inputs) (omega (arith, h, length-drop horizon inputs)))

lists-have : (claims : List Claim) (inputs : List ℤ) → read_horizons claims ≤ length inputs →
    map length (item_lists claims inputs) ≡ map (λ (c : Claim). c.horizon) claims
lists-have [] inputs h = refl
lists-have (c ∷ cs) inputs h =
    list-has c.write c.horizon (read_horizons cs) inputs (item_lists cs) (map (λ (c : Claim). c.horizon) cs) h (lists-have cs)

write-has : (write : Bool) (horizon sum : ℕ) (vs rest : List ℤ) → length vs ≡ horizon → length rest ≡ sum →
    length (if write then vs ++ rest else rest) ≡ (if write then horizon else 0) + sum
write-has true horizon sum vs rest h e = length-append vs rest ∙ omega (arith, h, e)
write-has false horizon sum vs rest h e = omega (arith, e)

pub first-of : {a b : ℕ} {ms ns : List ℕ} → a ∷ ms ≡ b ∷ ns → a ≡ b
first-of h = cc

pub others-of : {a b : ℕ} {ms ns : List ℕ} → a ∷ ms ≡ b ∷ ns → ms ≡ ns
others-of h = cc

outputs_of-has : (claims : List Claim) (items : List (List ℤ)) → map length items ≡ map (λ (c : Claim). c.horizon) claims →
    length (outputs_of claims items) ≡ written_horizons claims
outputs_of-has [] items h = refl
outputs_of-has (c ∷ cs) [] h = cc
outputs_of-has (c ∷ cs) (vs ∷ items) h =
    write-has c.write c.horizon (written_horizons cs) vs (outputs_of cs items) (first-of h) (outputs_of-has cs items (others-of h))

ended-has : (bytes : Bool) (line : ℕ) (claims : List Claim) (items : List (List ℤ)) → map length items ≡ map (λ (c : Claim). c.horizon) claims →
    (if bytes then done (outputs_of claims items) else trapped (trap_code NoByte) line).end ≡ end.Done →
    length (if bytes then done (outputs_of claims items) else trapped (trap_code NoByte) line).outputs ≡ written_horizons claims
ended-has true line claims items h e = outputs_of-has claims items h
ended-has false line claims items h e = cc

outcome-has : (line : ℕ) (claims : List Claim) (s : BodyState) (turns : ℕ) (r : Ran) → Keeps s turns r →
    item_lengths s ≡ map (λ (c : Claim). c.horizon) claims → (outcome line claims r).end ≡ end.Done →
    length (outcome line claims r).outputs ≡ written_horizons claims
outcome-has line claims s turns (Went flow t left) (a, b) h e = ended-has (gives_bytes claims t.items) line claims t.items (b ∙ h) e
outcome-has line claims s turns (Ended (Trapped why at) acts) k h e = cc
outcome-has line claims s turns (Ended OverBudget acts) k h e = cc
outcome-has line claims s turns (Ended (Limited limit) acts) k h e = cc

pub outputs-have : (items : List tree.ItemTree) (t : Task) (a : Activation) (inputs : List ℤ) (budget : ℕ) →
    read_horizons a.claims ≤ length inputs → (task_outcome (file_of items) t a inputs budget).end ≡ end.Done →
    length (task_outcome (file_of items) t a inputs budget).outputs ≡ written_horizons a.claims
outputs-have items t a inputs budget h e =
    let file = file_of items in
    let s = state_of (bound_round t a.captured) (item_lists a.claims inputs) in
    outcome-has t.mark.line a.claims s budget (run (in_function file) t.body s budget) (run-keeps (in_function file) (calls-fall items) t.body s budget)
    (lists-have a.claims inputs h) e
