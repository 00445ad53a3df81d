use Rattle.std.proofs.Common.{◌≡◌, ◌∙◌, false, sym}
use Rattle.std.specs.Prelude.{◌==◌}
use Rattle.std.proofs.lemmas.List.Elements.{All-more}
use Rattle.osvectors_cases.proofs.cases.line_len.Goals as goal

pub loop-n-preserved : goal.loop-n-preserved
loop-n-preserved c =
    All-more (λ byte. (byte == 10) ≡ false) c.args.bytes.now c.loop-n.n 0 c.loop-n-test.true c.loop-n.invariant (sym c.is_line_feed.ensures ∙ c.if-is_line_feed.false)
