-- What words ask for, by the first of them and by how many there are.
use Rattle.std.proofs.Common.{◌≡◌, ◌≢◌, ◌∙◌, ◌<◌, Bool, true, List, [], ◌∷◌, None, Some, refl, sym, ap, arith, get_or, length}
use Rattle.std.specs.Prelude.{codes, string_bytes, if◌then◌else◌}
use Rattle.std.specs.Str.{bytes_eq}
use Rattle.std.specs.declared.alloc.Global.{Global}
use Rattle.std.specs.declared.string.String.{String}
use Rattle.osrun_core_words.specs.Command.{texts}
use Rattle.os_serve.specs.Command.{is_serve, named_jobs}

-- the first word is compared
pub first_is : (words : List (String Global)) (first : String Global) (b : Bool) → 0 < length words → first ≡ get_or words 0 first
    → b ≡ bytes_eq (string_bytes first) (codes "serve") → b ≡ is_serve (texts words)
first_is [] first b some is same = absurd (omega (arith, some))
first_is (one ∷ words) first b some is same = same ∙ ap (λ w. bytes_eq (string_bytes w) (codes "serve")) is

-- as many words as a server doesn't take
pub none_named : (words : List (String Global)) → length words ≢ 2 → named_jobs (texts words) ≡ None
none_named [] other = refl
none_named (first ∷ []) other = refl
none_named (first ∷ name ∷ []) other = absurd (other refl)
none_named (first ∷ name ∷ next ∷ more) other = refl

-- two of them
pub one_named : (words : List (String Global)) (name : String Global) → length words ≡ 2 → is_serve (texts words) ≡ true → name ≡ get_or words 1 name
    → named_jobs (texts words) ≡ Some (string_bytes name)
one_named [] name two serve is = absurd (omega (arith, two))
one_named (first ∷ []) name two serve is = absurd (omega (arith, two))
one_named (first ∷ second ∷ []) name two serve is =
    ap (λ b. if b then Some (string_bytes second) else None) serve ∙ ap (λ w. Some (string_bytes w)) (sym is)
one_named (first ∷ second ∷ third ∷ more) name two serve is = absurd (omega (arith, two))
