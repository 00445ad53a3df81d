use Rattle.std.proofs.Common.{◌≡◌, ◌++◌, ◌∷◌, [], sym, ap, ◌∙◌, subst}
use Rattle.os_io.specs.declared.mem_files.Entry.{Entry}
use Rattle.os_io.specs.Views.{file, IsPlaceIn}
use Rattle.os_io.specs.StoredFiles.{StoredFiles, held}
use Rattle.os_io.proofs.Entries.{IsPlaceIn-append, lookup-append, stored_files-append}
use Rattle.os_io.proofs.mem_files.MemFiles.add.Goals as goal

pub invariant_of-self-2 : goal.invariant_of-self-2
invariant_of-self-2 c =
    (subst (λ entries. IsPlaceIn entries c.self.inside.place) (sym c.in_ok-push.ensures.items) (IsPlaceIn-append c.self.inside.entries.items _ c.self.inside.place c.self.invariant.0), c.self.invariant.1)

pub returns-clause-ok : goal.returns-clause-ok
returns-clause-ok c =
    let entry : Entry = record { name = c.in_ok-name.name; bytes = c.in_ok-bytes.bytes } in
    let shows : file entry ≡ (c.args.name.now, c.args.bytes.now) =
    ap (λ name. (name, c.in_ok-bytes.bytes.items)) c.in_ok-name.ensures.ok ∙ ap (λ bytes. (c.args.name.now, bytes)) c.in_ok-bytes.ensures.items in
    stored_files-append c.self.inside c.push.new.self entry _ c.self.invariant.0 c.in_ok-push.ensures.items shows
    ∙ ap (λ (s : StoredFiles). record s { files = s.files ++ (c.args.name.now, c.args.bytes.now) ∷ [] }) c.self.view_is

pub returns-clause-held : goal.returns-clause-held
returns-clause-held c =
    let parts = returns-clause-ok c in
    λ other. ap (λ s. held s other) parts ∙ lookup-append c.args.bytes.now c.args.name.now other c.args.self.now.files c.requires
