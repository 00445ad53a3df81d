-- The entries of the files in memory: looked up by name, read by index, and one more at the end.
use Rattle.std.proofs.Common.{◌≡◌, ℕ, zero, suc, ◌+◌, ◌<◌, Bool, true, false, cond, List, [], ◌∷◌, ◌++◌, map, length, drop, get_or, Option, None, Some, refl, sym, ap, ◌∙◌, length-append, string_bytes, arith}
use Rattle.std.proofs.lemmas.List.{drop_more, map-append}
use Rattle.std.proofs.lemmas.Slice.Eq.{bytes_eq-Decides}
use Rattle.std.specs.Str.{bytes_eq}
use Rattle.std.specs.Map.{lookup}
use Rattle.os_io.specs.declared.mem_files.Entry.{Entry}
use Rattle.os_io.specs.declared.mem_files.Place.{Place}
use Rattle.std.specs.declared.vec.Vec.{Vec}
use Rattle.std.specs.declared.alloc.Global.{Global}
use Rattle.os_io.specs.declared.mem_files.MemFiles.TheInside.{Inside}
use Rattle.os_io.specs.StoredFiles.{StoredFiles}
use Rattle.os_io.specs.Views.{file, bytes_at, rest_at, stored_files, IsPlaceIn}

-- what indexing reads
pub bytes_at-read : (entries : List Entry) (i : ℕ) (entry : Entry) → i < length entries → entry ≡ get_or entries i entry
    → entry.bytes.items ≡ bytes_at entries i
bytes_at-read [] i entry within is = absurd (omega arith)
bytes_at-read (e ∷ entries) zero entry within is = ap (λ x. x.bytes.items) is
bytes_at-read (e ∷ entries) (suc i) entry within is = bytes_at-read entries i entry (omega arith) is

-- a search from an index on looks at the entry there first
lookup-read : (test : List ℕ → Bool) (entries : List Entry) (i : ℕ) (entry : Entry) → i < length entries
    → entry ≡ get_or entries i entry
    → lookup test (map file (drop i entries))
    ≡ cond (test (string_bytes entry.name)) (Some entry.bytes.items) (lookup test (map file (drop (i + 1) entries)))
lookup-read test entries i entry within is =
    ap (λ rest. lookup test (map file rest)) (drop_more entries i entry within)
    ∙ ap (λ e. lookup test (map file (e ∷ drop (i + 1) entries))) (sym is)

-- where the entry has the name, its bytes are found
pub lookup-found : (test : List ℕ → Bool) (entries : List Entry) (i : ℕ) (entry : Entry) → i < length entries
    → entry ≡ get_or entries i entry → test (string_bytes entry.name) ≡ true
    → lookup test (map file (drop i entries)) ≡ Some (bytes_at entries i)
lookup-found test entries i entry within is named =
    lookup-read test entries i entry within is
    ∙ ap (λ b. cond b (Some entry.bytes.items) (lookup test (map file (drop (i + 1) entries)))) named
    ∙ ap Some (bytes_at-read entries i entry within is)

-- where it has another, the search goes on behind it
pub lookup-passed : (test : List ℕ → Bool) (entries : List Entry) (i : ℕ) (entry : Entry) → i < length entries
    → entry ≡ get_or entries i entry → test (string_bytes entry.name) ≡ false
    → lookup test (map file (drop i entries)) ≡ lookup test (map file (drop (i + 1) entries))
lookup-passed test entries i entry within is other =
    lookup-read test entries i entry within is
    ∙ ap (λ b. cond b (Some entry.bytes.items) (lookup test (map file (drop (i + 1) entries)))) other

-- one more entry leaves the bytes of the others
pub bytes_at-append : (entries more : List Entry) (i : ℕ) → i < length entries
    → bytes_at (entries ++ more) i ≡ bytes_at entries i
bytes_at-append [] more i within = absurd (omega arith)
bytes_at-append (e ∷ entries) more zero within = refl
bytes_at-append (e ∷ entries) more (suc i) within = bytes_at-append entries more i (omega arith)

pub rest_at-append : (entries more : List Entry) (place : Option Place) → IsPlaceIn entries place
    → rest_at (entries ++ more) place ≡ rest_at entries place
rest_at-append entries more None within = refl
rest_at-append entries more (Some place) within =
    ap (drop place.position) (bytes_at-append entries more place.entry within.0)

pub IsPlaceIn-append : (entries more : List Entry) (place : Option Place) → IsPlaceIn entries place
    → IsPlaceIn (entries ++ more) place
IsPlaceIn-append entries more None within = tt
IsPlaceIn-append entries more (Some place) within =
    (omega (arith, length-append entries more), rw (bytes_at-append entries more place.entry within.0) within.1)

-- a name is held after one more file, whose name none of those before had
lookup_absent : (here : Bool) (bytes : List ℕ) (rest : Option (List ℕ)) → cond here (Some bytes) rest ≡ None
    → (here ≡ false) × (rest ≡ None)
lookup_absent true bytes rest absent = cc
lookup_absent false bytes rest absent = (refl, absent)

lookup_step : (same here : Bool) (added bytes : List ℕ) (rest more : Option (List ℕ)) → (same ≡ true → here ≡ false)
    → more ≡ cond same (Some added) rest
    → cond here (Some bytes) more ≡ cond same (Some added) (cond here (Some bytes) rest)
lookup_step true here added bytes rest more apart is = rw (apart refl) is
lookup_step false here added bytes rest more apart is = ap (cond here (Some bytes)) is

pub lookup-append : (added name other : List ℕ) (files : List (List ℕ × List ℕ)) → lookup (bytes_eq name) files ≡ None
    → lookup (bytes_eq other) (files ++ (name, added) ∷ [])
    ≡ cond (bytes_eq other name) (Some added) (lookup (bytes_eq other) files)
lookup-append added name other [] absent = refl
lookup-append added name other (f ∷ files) absent =
    let parts = lookup_absent (bytes_eq name f.0) f.1 (lookup (bytes_eq name) files) absent in
    lookup_step (bytes_eq other name) (bytes_eq other f.0) added f.1 _ _ (λ same. ap (λ n. bytes_eq n f.0) ((bytes_eq-Decides other name).0 same) ∙ parts.0) (lookup-append added name other files parts.1)

-- what contracts see after one more entry
pub stored_files-append : (old : Inside) (entries : Vec Entry Global) (entry : Entry) (f : List ℕ × List ℕ)
    → IsPlaceIn old.entries.items old.place → entries.items ≡ old.entries.items ++ entry ∷ [] → file entry ≡ f
    → stored_files (record old { entries = entries })
    ≡ record (stored_files old) { files = (stored_files old).files ++ f ∷ [] }
stored_files-append old entries entry f within added shows =
    let with_parts : List (List ℕ × List ℕ) → List ℕ → StoredFiles = λ files rest. record (stored_files old) { files = files; rest = rest } in
    let files : map file entries.items ≡ map file old.entries.items ++ f ∷ [] =
    ap (map file) added ∙ map-append file old.entries.items (entry ∷ []) ∙ ap (λ x. map file old.entries.items ++ x ∷ []) shows in
    let rest : rest_at entries.items old.place ≡ rest_at old.entries.items old.place =
    ap (λ items. rest_at items old.place) added ∙ rest_at-append old.entries.items (entry ∷ []) old.place within in
    ap (λ files. with_parts files (rest_at entries.items old.place)) files
    ∙ ap (with_parts (map file old.entries.items ++ f ∷ [])) rest
