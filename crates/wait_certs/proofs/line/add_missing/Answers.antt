use Rattle.std.proofs.Common.{◌++◌, append_assoc, codes}
use Rattle.std.specs.Fmt.{decimal}
use Rattle.wait_certs.proofs.line.add_missing.Goals as goal

pub returns-in_ok-write-in-None : goal.returns-in_ok-write-in-None
returns-in_ok-write-in-None c =
    let stream = decimal c.args.missing.stream in
    let position = decimal c.args.missing.position in
    rw (
      c.in-None.is,
      append_assoc (codes " none stream " ++ stream) (codes " position ") position,
      append_assoc (codes " none stream ") stream (codes " position " ++ position),
    ) c.in_ok-write-in-None.ensures.bytes
