-- The keywords: those of C11, section 6.4.1, and `__attribute__`.
use Rattle.std.specs.Prelude.{ℕ, List, [], ◌∷◌, map, Option, codes, bytes_eq}
use Rattle.std.specs.Map.{lookup}
use Rattle.os_lexer.specs.declared.token.Key.{Key}
use Rattle.os_lexer.specs.declared.token.Key.TheVariants as key

-- each keyword with its key: `Other` stands for those that no program uses
abbrev pub keywords : List (List ℕ × Key)
keywords =
    (codes "int", key.Int) ∷ (codes "const", key.Const) ∷ (codes "void", key.Void) ∷ (codes "if", key.If) ∷
    (codes "else", key.Else) ∷ (codes "while", key.While) ∷ (codes "for", key.For) ∷
    (codes "break", key.Break) ∷ (codes "continue", key.Continue) ∷ (codes "return", key.Return) ∷
    (codes "unsigned", key.Unsigned) ∷ (codes "__attribute__", key.Attribute) ∷
    map (λ word. (word, key.Other)) (codes "auto" ∷ codes "case" ∷ codes "char" ∷ codes "default" ∷
    codes "do" ∷ codes "double" ∷ codes "enum" ∷ codes "extern" ∷ codes "float" ∷ codes "goto" ∷
    codes "inline" ∷ codes "long" ∷ codes "register" ∷ codes "restrict" ∷ codes "short" ∷ codes "signed" ∷
    codes "sizeof" ∷ codes "static" ∷ codes "struct" ∷ codes "switch" ∷ codes "typedef" ∷ codes "union" ∷
    codes "volatile" ∷ codes "_Alignas" ∷ codes "_Alignof" ∷ codes "_Atomic" ∷ codes "_Bool" ∷
    codes "_Complex" ∷ codes "_Generic" ∷ codes "_Imaginary" ∷ codes "_Noreturn" ∷ codes "_Static_assert" ∷
    codes "_Thread_local" ∷ [])

-- the key of a word that is a keyword
abbrev pub key_of : List ℕ → Option Key
key_of word = lookup (bytes_eq word) keywords
