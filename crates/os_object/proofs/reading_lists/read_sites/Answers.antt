use Rattle.std.proofs.Common.{◌<◌, length, arith}
use Rattle.std.proofs.lemmas.Result.{err_from_is_err_and}
use Rattle.os_object.specs.Object.{site_numbers}
use Rattle.os_object.proofs.Members.{no_length, no_member}
use Rattle.os_object.proofs.Parts.{ends-site, four-site, refused-map}
use Rattle.os_object.proofs.reading_lists.read_sites.Goals as goal

pub returns-in_default-clause-err : goal.returns-in_default-clause-err
returns-in_default-clause-err c = no_length site_numbers 4 (omega arith) four-site c.args.numbers.now c.in_default.ensures.none

pub returns-in_err-site-clause-err : goal.returns-in_err-site-clause-err
returns-in_err-site-clause-err c =
    let short : length c.loop.sites < c.in-Some.count = omega arith in
    let p = err_from_is_err_and c.from_residual-in_err-site.result c.from_residual-in_err-site.ensures.1 in
    rw (p.1, p.2) (refused-map c.in_err-site.field-0.0 _ _ c.in_err-site.ensures.err
    (no_member site_numbers ends-site c.loop.sites c.loop.rest.now c.args.numbers.now c.in-Some.members.now c.in-Some.count c.in-Some.ensures.some c.loop.invariant.parts short))
