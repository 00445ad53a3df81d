use Rattle.std.proofs.Common.{◌≡◌, ℕ, zero, suc, List, [], ◌∷◌, Option, None, get_or, refl, sym, ap, ◌∙◌}
use Rattle.std.specs.Prelude.{is_some}
use Rattle.std.specs.Option.{option_map}
use Rattle.flow_core_laws.specs.declared.outcome.Outcome.{Outcome}
use Rattle.flow_core_laws.specs.declared.task_end.TaskEnd.{TaskEnd}
use Rattle.flow_core_laws.specs.Outcome.{State, ends_of, outcome_at}
use Rattle.flow_core_concurrent.specs.declared.known.Known.{Known}
use Rattle.flow_core_concurrent.specs.Counted.{one}
use Rattle.flow_core_concurrent.specs.Steps.{end_of}
use Rattle.task_workers.proofs.over_table.execute_logged.Goals as goal

-- the end of an activation in a state
end_in_state : (state : State) (f : ℕ) → get_or (ends_of state) f None ≡ option_map (λ (o : Outcome). o.end) (outcome_at state f)
end_in_state [] f = refl
end_in_state (o ∷ state) zero = refl
end_in_state (o ∷ state) (suc f) = end_in_state state f

pub returns-clause-lists : goal.returns-clause-lists
returns-clause-lists g c = λ f.
    c.run_logged-closed.ensures.once f
    ∙ ap (λ (k : Known). one (is_some (end_of k f))) c.in_ok-table.ensures.known
    ∙ sym (ap (λ (o : Option TaskEnd). one (is_some o)) (ap (λ (ends : List (Option TaskEnd)). get_or ends f None) c.gather_ends.ensures ∙ end_in_state _ f))
