use Rattle.std.proofs.Common.{◌∙◌, sym, arith}
use Rattle.window_check_names.proofs.HidingEntries.{drop_one, shorter, drop_done}
use Rattle.window_check_names.proofs.declared.Declared.drop_to.Goals as goal

pub loop-self-smaller : goal.loop-self-smaller
loop-self-smaller c = shorter c.args.len c.loop-self.self c.undo.new.self c.undo.ensures (omega arith)

pub loop-self-preserved : goal.loop-self-preserved
loop-self-preserved c =
    drop_one c.args.len c.loop-self.self c.undo.new.self c.undo.ensures (omega arith) ∙ c.loop-self.invariant

pub returns : goal.returns
returns c = sym (drop_done c.args.len c.loop-self.self (omega arith)) ∙ c.loop-self.invariant
