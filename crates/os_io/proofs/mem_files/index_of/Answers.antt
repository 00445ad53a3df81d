use Rattle.std.proofs.Common.{◌≡◌, true, false, sym, ◌∙◌, string_bytes, arith}
use Rattle.std.specs.Str.{bytes_eq}
use Rattle.os_io.proofs.Entries.{lookup-found, lookup-passed}
use Rattle.os_io.proofs.mem_files.index_of.Goals as goal

pub returns-then-eq : goal.returns-then-eq
returns-then-eq c =
    let named : bytes_eq c.args.name.now (string_bytes c.index-entries-i.result.name) ≡ true = cc in
    (omega arith, sym c.loop-i.invariant ∙ lookup-found _ c.args.entries.now _ c.index-entries-i.result (omega arith) c.index-entries-i.is named)

pub loop-i-preserved : goal.loop-i-preserved
loop-i-preserved c =
    let other : bytes_eq c.args.name.now (string_bytes c.index-entries-i.result.name) ≡ false = cc in
    sym (lookup-passed _ c.args.entries.now _ c.index-entries-i.result (omega arith) c.index-entries-i.is other) ∙ c.loop-i.invariant
