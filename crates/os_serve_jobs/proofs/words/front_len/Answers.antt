use Rattle.std.proofs.Common.{◌≡◌, ◌∙◌, false, sym}
use Rattle.std.proofs.lemmas.List.Elements.{All-more}
use Rattle.os_serve_jobs.specs.Words.{is_blank}
use Rattle.os_serve_jobs.proofs.words.front_len.Goals as goal

pub loop-n-preserved : goal.loop-n-preserved
loop-n-preserved c =
    All-more (λ byte. is_blank byte ≡ false) c.args.bytes.now c.loop-n.n 0 c.loop-n-test.true c.loop-n.invariant (sym c.is_blank.ensures ∙ c.if-is_blank.false)
