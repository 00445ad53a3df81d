use Rattle.std.proofs.Common.{pos, [], ◌∷◌, cond, sym, ap, ◌∙◌}
use Rattle.flow_core_laws.proofs.SoundTests.{gives_one, outcome_of-end, outcome_of-outputs}
use Rattle.runtime_tests.proofs.one_thread.TableBodies.run.Goals as goal

pub returns-then-rule-clause-end : goal.returns-then-rule-clause-end
returns-then-rule-clause-end c = sym (outcome_of-end _ _)

pub returns-then-rule-clause-outputs : goal.returns-then-rule-clause-outputs
returns-then-rule-clause-outputs c = λ done. c.copy_from_slice.ensures.after ∙ sym (ap (λ b. cond b c.args.inputs.now (pos 41 ∷ [])) c.if-rule.true) ∙ sym (outcome_of-outputs _ _ done)

pub returns-else-rule-clause-end : goal.returns-else-rule-clause-end
returns-else-rule-clause-end c = sym (outcome_of-end _ _)

pub returns-else-rule-clause-outputs : goal.returns-else-rule-clause-outputs
returns-else-rule-clause-outputs c = λ done. gives_one _ c.args.inputs.now c.args.outputs.now (pos 41) c.if-rule.false c.requires.taken.1 ∙ sym (outcome_of-outputs _ _ done)
