use Rattle.std.proofs.Common.{◌++◌, List, ℕ, codes, decimal, ap₂, ◌∙◌}
use Rattle.osparts_parts.proofs.Pieces.{regrouped}
use Rattle.osparts_parts.proofs.summary.summary_line.Goals as goal

pub returns : goal.returns
returns c =
    c.in_ok-format.ensures.ok
    ∙ regrouped (decimal c.args.parts) (codes " part") c.plural-part_end.result.now (codes ", all done, ") (decimal c.args.bytes) (codes " byte")
    c.plural-byte_end.result.now (codes "\n")
    ∙ ap₂ (λ (p b : List ℕ). decimal c.args.parts ++ codes " part" ++ p ++ codes ", all done, " ++ decimal c.args.bytes ++ codes " byte" ++ b ++ codes "\n")
    c.plural-part_end.ensures c.plural-byte_end.ensures
