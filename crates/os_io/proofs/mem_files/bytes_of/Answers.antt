use Rattle.std.proofs.Common.{sym, ap, ◌∙◌}
use Rattle.os_io.proofs.Entries.{bytes_at-read}
use Rattle.os_io.proofs.mem_files.bytes_of.Goals as goal

pub returns : goal.returns
returns c =
    c.as_slice.ensures.value
    ∙ ap (λ entry. entry.bytes.items) (sym c.index-entries-index.is)
    ∙ bytes_at-read c.args.entries.now _ c.index-entries-index.result c.requires c.index-entries-index.is
