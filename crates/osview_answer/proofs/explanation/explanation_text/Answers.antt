use Rattle.std.proofs.Common.{◌<◌, All, List, ℕ, length, subst, sym}
use Rattle.wait_certs.specs.Finding.{IsFinding}
use Rattle.wait_certs.specs.declared.finding.Finding.{Finding}
use Rattle.osview_answer.proofs.Walks.{members_exist}
use Rattle.osview_answer.proofs.explanation.explanation_text.Goals as goal

pub chain_text-requires-clause-exist : goal.chain_text-requires-clause-exist
chain_text-requires-clause-exist c =
    let run = c.args.run.now in
    let activations = run.activations.now in
    let is = c.requires.is_run in
    let found = subst (λ (f : Finding). IsFinding activations run.layout.now.input_len run.ends.now.ends c.args.activation f) c.in-Starved.is c.requires.found in
    let (exists, none, walk, last) = found in
    subst (λ (xs : List ℕ). All (λ m. m < length activations) xs) (sym c.as_slice.ensures)
    (members_exist run.layout.now is.layout activations is.laid run.ends.now.ends c.args.activation c.in-Starved.members walk exists)
