-- What is read as a program from all of the tokens.
use Rattle.std.proofs.Common.{◌≡◌, ℕ, zero, suc, Bool, false, length, List, [], ◌∷◌, sym, refl, ap, ◌∙◌, subst}
use Rattle.os_ast.specs.Means as means
use Rattle.os_ast.specs.Means.{Placed, placed, Fit, placed_from, Means}
use Rattle.os_ast.specs.Trees.{ProgramTree}
use Rattle.os_ast.specs.Leveled.{AreAll, IsItem}
use Rattle.os_ast.specs.Depth.{program_depth}
use Rattle.os_ast.specs.Spelling as spelling
use Rattle.os_lexer.specs.declared.token.Token.{Token}
use Rattle.os_parser_grammar.specs.Reading.{Read, Reader, got, fails}
use Rattle.os_parser_grammar.specs.Statements.{inner, item, program, many, is_more}
use Rattle.os_parser_grammar.proofs.BackPrograms.{back-program}
use Rattle.os_parser_grammar.proofs.Sound.{Sound, sound-if, sound-then}
use Rattle.os_parser_grammar.proofs.SoundParts.{ReadPart}
use Rattle.os_parser_grammar.proofs.SoundStmts.{program-sound}

anything : {A : Type 0} (r : Read A) → Sound (λ _ _. Unit {0}) r
anything (got x rest) = tt
anything (fails rest) = tt

-- parts are read until the tokens do not go on
many-stops : {A : Type 0} (f : ℕ) (goes : List Placed → Bool) (part : Reader A) (ts : List Placed) → Sound (λ xs rest. goes rest ≡ false) (many f goes part ts)
unfolding many
many-stops zero goes part ts = tt
many-stops (suc f) goes part ts =
    sound-if _ (goes ts) _ _
    (λ on. sound-then _ _ (part ts) _ (anything (part ts)) (λ x us _. sound-then _ _ (many f goes part us) _ (many-stops f goes part us) (λ xs vs e. e)))
    (λ off. off)

program-stops : (ts : List Placed) → Sound (λ p rest. is_more rest ≡ false) (program (inner 199) ts)
unfolding program
program-stops ts = many-stops (suc (length ts)) is_more (item (inner 199)) ts

none-left : (rest : List Placed) → is_more rest ≡ false → rest ≡ []
none-left [] e = refl
none-left (t ∷ ts) e = absurd (cc e)

pub whole : (tokens : List Token) (p : ProgramTree) (rest : List Placed) → program (inner 199) (placed_from 0 tokens) ≡ got p rest → Means tokens p
whole tokens p rest read =
    let s : ReadPart (AreAll IsItem) program_depth spelling.program 200 (placed_from 0 tokens) p rest =
    subst (Sound (ReadPart (AreAll IsItem) program_depth spelling.program 200 (placed_from 0 tokens))) read (program-sound 199 (placed_from 0 tokens)) in
    let off : is_more rest ≡ false = subst (Sound (λ q us. is_more us ≡ false)) read (program-stops (placed_from 0 tokens)) in
    let none = none-left rest off in
    record { leveled = record { items = s.leveled; depth = s.shallow }; spelled = s.takes [] (subst (Fit []) (sym none) means.none) }

all-read : {ts : List Placed} → Fit [] ts → ts ≡ []
all-read means.none = refl

pub again : (tokens : List Token) (p : ProgramTree) → Means tokens p → program (inner 199) (placed_from 0 tokens) ≡ got p []
again tokens p h =
    let b = back-program 199 (placed_from 0 tokens) h.leveled.items h.leveled.depth h.spelled in
    b.read ∙ ap (got p) (all-read b.fits)

pub never : (tokens : List Token) (rest : List Placed) → program (inner 199) (placed_from 0 tokens) ≡ fails rest → (p : ProgramTree) → Means tokens p → ⊥
never tokens rest fail p h = let read = again tokens p h in absurd (cc (fail, read))

pub one : (tokens : List Token) (p q : ProgramTree) → Means tokens p → Means tokens q → p ≡ q
one tokens p q x y = let a = again tokens p x in let b = again tokens q y in cc (a, b)
