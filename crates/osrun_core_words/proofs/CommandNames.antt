-- Words whose first one is no command's name nothing.
use Rattle.std.proofs.Common.{◌≡◌, ◌∙◌, Bool, true, false, List, [], ◌∷◌, Some, None, ap, refl, sym, codes, slice_get}
use Rattle.std.specs.Prelude.{string_bytes}
use Rattle.std.specs.Str.{bytes_eq}
use Rattle.std.specs.declared.alloc.Global.{Global}
use Rattle.std.specs.declared.string.String.{String}
use Rattle.std.proofs.lemmas.Slice.Eq.{bytes_eq-Decides}
use Rattle.clap.specs.Words.{Text}
use Rattle.osrun_core_words.specs.Command.{command, texts}

unequal : (word first : Text) → (first ≡ word → ⊥) → bytes_eq word first ≡ false
unequal word first other = by (bytes_eq word first) refl
  where
    by : (b : Bool) → bytes_eq word first ≡ b → b ≡ false
    by false e = refl
    by true e = absurd (other (sym ((bytes_eq-Decides word first).0 e)))

pub none_named : (words : List (String Global)) (first : String Global) → slice_get words 0 ≡ Some first
    → (string_bytes first ≡ codes "run" → ⊥) → (string_bytes first ≡ codes "gen" → ⊥)
    → (string_bytes first ≡ codes "compile" → ⊥) → (string_bytes first ≡ codes "exec" → ⊥)
    → (string_bytes first ≡ codes "explain" → ⊥) → (string_bytes first ≡ codes "trace" → ⊥)
    → (string_bytes first ≡ codes "replay" → ⊥) → command (texts words) ≡ None
none_named [] first at run gen compile exec explain trace replay = refl
none_named (word ∷ rest) first at run gen compile exec explain trace replay =
    let same : word ≡ first = cc in
    let is : string_bytes word ≡ string_bytes first = ap string_bytes same in
    rw (
      unequal (codes "run") (string_bytes word) (λ e. run (sym is ∙ e)),
      unequal (codes "gen") (string_bytes word) (λ e. gen (sym is ∙ e)),
      unequal (codes "compile") (string_bytes word) (λ e. compile (sym is ∙ e)),
      unequal (codes "exec") (string_bytes word) (λ e. exec (sym is ∙ e)),
      unequal (codes "explain") (string_bytes word) (λ e. explain (sym is ∙ e)),
      unequal (codes "trace") (string_bytes word) (λ e. trace (sym is ∙ e)),
      unequal (codes "replay") (string_bytes word) (λ e. replay (sym is ∙ e)),
    ) refl
