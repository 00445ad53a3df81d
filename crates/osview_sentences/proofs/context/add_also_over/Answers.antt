use Rattle.std.proofs.Common.{◌≡◌, ◌++◌, ℕ, List, OnOk, subst}
use Rattle.osview_sentences.specs.Readers.{spans_of}
use Rattle.osview_sentences.proofs.Also.{also_so}
use Rattle.osview_sentences.proofs.context.add_also_over.Goals as goal

pub returns : goal.returns
returns c =
    let run = c.args.over.now.run in
    subst (λ (told : List ℕ). OnOk c.add_also.result (c.add_also.new.told ≡ c.args.told.now ++ told))
    (also_so (spans_of run.activations.now) run.lines.now c.args.over.now.readers.now c.args.at c.args.fact c.requires.readers) c.add_also.ensures
