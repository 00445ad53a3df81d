use Rattle.std.proofs.Common.{◌++◌, ◌≡◌, List, ap, arith, length, subst, sym}
use Rattle.flow_core_laws.specs.declared.activation.Activation.{Activation}
use Rattle.stream_match_layouts.specs.Layout.{IsLayoutOf, TakesMore}
use Rattle.epoch_run.proofs.Stretches.{are_new, new_ones, no_shorter, stand_behind}
use Rattle.epoch_run.proofs.adding.create_behind.Goals as goal

pub split_at-requires : goal.split_at-requires
split_at-requires c =
    let l = no_shorter c.args.size.activations c.args.control.now c.advance.new.control c.args.activations.now c.advance.new.next c.in_ok-advance.ensures in
    let m = ap length c.as_slice.ensures in
    omega (arith, l, m, c.len-first.ensures)

pub append-requires : goal.append-requires
append-requires c =
    subst (TakesMore c.args.layout.now)
    (sym (stand_behind c.args.size.activations c.args.control.now c.advance.new.control c.args.activations.now c.advance.new.next c.in_ok-advance.ensures
    c.as_slice.result.now c.len-first.result c.split_at.result.1.now c.as_slice.ensures c.len-first.ensures c.split_at.ensures.back))
    (c.requires.takes c.advance.new.control
    (new_ones c.args.size.activations c.args.control.now c.advance.new.control c.args.activations.now c.advance.new.next c.in_ok-advance.ensures)
    (are_new c.args.size.activations c.args.control.now c.advance.new.control c.args.activations.now c.advance.new.next c.in_ok-advance.ensures))

pub returns-clause-next : goal.returns-clause-next
returns-clause-next c =
    let next : List Activation =
    new_ones c.args.size.activations c.args.control.now c.advance.new.control c.args.activations.now c.advance.new.next c.in_ok-advance.ensures in
    let is : c.split_at.result.1.now ≡ next =
    stand_behind c.args.size.activations c.args.control.now c.advance.new.control c.args.activations.now c.advance.new.next c.in_ok-advance.ensures
    c.as_slice.result.now c.len-first.result c.split_at.result.1.now c.as_slice.ensures c.len-first.ensures c.split_at.ensures.back in
    record {
      next = next;
      advanced = are_new c.args.size.activations c.args.control.now c.advance.new.control c.args.activations.now c.advance.new.next c.in_ok-advance.ensures;
      are_behind = c.in_ok-advance.ensures.created.is_list;
      laid = λ earlier is_of. subst (λ (xs : List Activation). IsLayoutOf c.append.new.self (earlier ++ xs)) is (c.in_ok-append.ensures.added earlier is_of);
    }
