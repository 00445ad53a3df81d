use Rattle.std.proofs.Common.{rules, ◌≡◌, pos, [], ◌∷◌, refl, ap, ◌∙◌}
use Rattle.flow_core_laws.specs.declared.task_end.TaskEnd.TheVariants.{Done}
use Rattle.flow_core_laws.specs.Outcome.{outcome_of}
use Rattle.flow_core_concurrent.specs.declared.view.View.{View}
use Rattle.frame_table.specs.Plays.{finished}
use Rattle.frame_table.specs.Tokens.{view_of}
use Rattle.runtime_tests.specs.OneSeat.{view_after}
use Rattle.runtime_tests.proofs.SeatSteps.{may_deliver, may_finish, delivered}
use Rattle.runtime_tests.proofs.one_seat.gives_to_the_reader.Goals as goal

pub deliver-requires-clause-may_deliver : goal.deliver-requires-clause-may_deliver
deliver-requires-clause-may_deliver g c = (
  record { from = 1; to = 0; first = 0; count = 1; at = 0 },
  outcome_of Done (pos 41 ∷ []),
  may_deliver _ _ 3 1 _ _ c.requires.knows_the_plan c.requires.has_this_view
      (record { runs = refl; stands = record { has_number = refl; is_its_own = refl }; is_meant = refl }),
  refl,
  λ done. refl,
)

pub finish-requires-clause-may_finish : goal.finish-requires-clause-may_finish
finish-requires-clause-may_finish g c =
    let seen : view_of c.deliver.new.seat ≡ view_after 5 = delivered c.args.table.now _ _ 3 1 (record { from = 1; to = 0; first = 0; count = 1; at = 0 }) _ c.requires.knows_the_plan c.requires.has_this_view refl c.deliver.ensures.step (search rules) in (
      record { frame = 1; piece = 2; stored = 0 },
      may_finish _ _ 5 _ _ c.requires.knows_the_plan seen
          (record { runs = refl; is_meant = refl; gave_all = refl }),
    )

pub returns : goal.returns
returns g c =
    let seen : view_of c.deliver.new.seat ≡ view_after 5 = delivered c.args.table.now _ _ 3 1 (record { from = 1; to = 0; first = 0; count = 1; at = 0 }) _ c.requires.knows_the_plan c.requires.has_this_view refl c.deliver.ensures.step (search rules) in
    record {
      is_its_seat = search rules;
      knows_the_plan = c.requires.knows_the_plan;
      has_this_view = c.finish.ensures.step ∙ ap (λ (v : View). finished v) seen;
    }
