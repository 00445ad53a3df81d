use Rattle.std.proofs.Common.{◌∙◌, ap, sym}
use Rattle.std.specs.Prelude.{is_some}
use Rattle.wait_certs.proofs.Giving.{in_vain, vain_misses}
use Rattle.wait_certs.proofs.vain.ends_in_vain.Goals as goal

pub returns : goal.returns
returns c = λ activations of.
    let l = c.args.layout.now in
    let chain = c.args.chain.now in
    let ends = c.in_ok-ends.ends.ends in
    let same = c.is_some.ensures ∙ ap is_some (c.first_missing-missing.ensures.missing activations of) in (
      λ h. in_vain l c.requires.layout activations of chain ends c.in_ok-ends.ensures l.input_len (sym same ∙ h),
      λ vain. same ∙ vain_misses l c.requires.layout activations of chain ends c.in_ok-ends.ensures l.input_len c.requires.exist vain,
    )
