use Rattle.std.proofs.Common.{ap, sym, ◌∙◌, arith, Some}
use Rattle.std.proofs.lemmas.Option.{slice_get-get_or}
use Rattle.os_code.specs.declared.site.Site.{Site}
use Rattle.os_object.proofs.writing.write_sites.Goals as goal

pub write_site-requires : goal.write_site-requires
write_site-requires c =
    c.requires.small c.loop-site.site-index c.site-item.result
    (slice_get-get_or c.args.sites.now c.loop-site.site-index c.site-item.result (omega arith) ∙ ap (λ (s : Site). Some s) (sym c.site-item.is))
