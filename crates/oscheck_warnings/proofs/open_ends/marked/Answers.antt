use Rattle.std.proofs.Common.{◌∙◌, ap, ap₂, ℕ, Bool, ◌&&◌, ◌||◌}
use Rattle.std.specs.Prelude.{◌==◌}
use Rattle.os_ast.specs.declared.program.Item.{Item}
use Rattle.oscheck_warnings.specs.Endings.{is_open, place_of}
use Rattle.oscheck_warnings.specs.Places.{has}
use Rattle.oscheck_warnings.proofs.Marked.{one_more}
use Rattle.oscheck_warnings.proofs.open_ends.marked.Goals as goal

pub loop-index-preserved : goal.loop-index-preserved
loop-index-preserved c =
    one_more c.args.items.now place_of (λ (i : Item) (index : ℕ). is_open i) c.loop-index.places c.add_if.new.self c.loop-index.index
    c.index-items-index.result c.loop-index.invariant c.loop-index-test.true c.index-items-index.is
    (λ other. c.in_ok-add_if.ensures other
    ∙ ap₂ (λ (b : Bool) (k : ℕ). (b && (k == other)) || has c.loop-index.places other) c.is_open.ensures c.place_of.ensures)
