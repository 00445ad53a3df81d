use Rattle.std.proofs.Common.{◌≡◌, List, length, sym, ap, ◌∙◌, arith}
use Rattle.std.specs.Prelude.{slice_get}
use Rattle.os_object_validity.proofs.Exploring.{few_units}
use Rattle.os_code.specs.Codes.{parts_of}
use Rattle.os_code.specs.declared.site.Site.{Site}
use Rattle.os_object.proofs.Few.{few_sites, small_site}
use Rattle.os_object.proofs.encoding.encode.Goals as goal

pub write_units-requires : goal.write_units-requires
write_units-requires c =
    let few = few_units (parts_of c.args.code.now) c.args.code.now.valid.regions in
    let e : length c.as_slice.result.now ≡ length c.args.code.now.units = ap length c.as_slice.ensures in
    omega (arith, few, e)

pub write_sites-requires-clause-few : goal.write_sites-requires-clause-few
write_sites-requires-clause-few c =
    let few = few_sites (parts_of c.args.code.now) c.args.code.now.valid in
    let e : length c.as_slice-2.result.now ≡ length c.args.code.now.sites = ap length c.as_slice-2.ensures in
    omega (arith, few, e)

pub write_sites-requires-clause-small : goal.write_sites-requires-clause-small
write_sites-requires-clause-small c number site is =
    small_site (parts_of c.args.code.now) c.args.code.now.valid number site (ap (λ (l : List Site). slice_get l number) (sym c.as_slice-2.ensures) ∙ is)
