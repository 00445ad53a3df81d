use Rattle.std.proofs.Common.{◌≡◌, length, rules}
use Rattle.std.proofs.lemmas.List.{nil_from_length}
use Rattle.epoch_run.proofs.unended.still_open.Goals as goal

pub returns-then-is_empty : goal.returns-then-is_empty
returns-then-is_empty c =
    let zero_is : length c.args.frames.now ≡ 0 = search rules in
    c.requires (nil_from_length c.args.frames.now zero_is)
