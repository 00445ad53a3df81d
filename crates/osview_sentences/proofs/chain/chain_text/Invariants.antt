use Rattle.std.proofs.Common.{◌≡◌, ◌++◌, drop}
use Rattle.osview_sentences.specs.Whole.{member_lines}
use Rattle.osview_sentences.proofs.chain.chain_text.Given as goal

-- the lines so far were added, and those of the rest come behind them
abbrev pub invariant-loop-member : goal.invariant-loop-member
invariant-loop-member l =
    let lines = member_lines l.run.text.now l.run.names.now l.run.lines.now l.run.activations.now l.run.layout.now.input_len l.run.ends.now.ends in
    l.told ++ lines (drop l.member-index l.members) ≡ lines l.members
