use Rattle.std.proofs.Common.{List, subst, sym, ◌++◌}
use Rattle.flow_core_laws.specs.declared.activation.Activation.{Activation}
use Rattle.stream_match_layouts.specs.Layout.{IsLayoutOf, TakesMore}
use Rattle.stream_match_layouts.specs.declared.layout.Layout.{Layout}
use Rattle.epoch_run.specs.NextSpans.{joined}
use Rattle.epoch_run.proofs.beside.advance_and_lay_out.Goals as goal

pub add_all-requires : goal.add_all-requires
add_all-requires c =
    subst (λ (l : Layout). TakesMore l c.as_slice.result.now) (sym c.requires.none)
    (subst (TakesMore c.args.layout.now) (sym c.as_slice.ensures) (c.requires.takes c.advance.new.control c.advance.new.next c.in_ok-advance.ensures))

pub returns-clause-laid : goal.returns-clause-laid
returns-clause-laid c = record {
  laid = λ before is_of. subst (λ (xs : List Activation). IsLayoutOf (joined c.args.layout.now c.add_all.new.self) (before ++ xs)) c.as_slice.ensures
      (c.in_ok-add_all.ensures before (subst (λ (l : Layout). IsLayoutOf l before) (sym c.requires.none) is_of));
}
