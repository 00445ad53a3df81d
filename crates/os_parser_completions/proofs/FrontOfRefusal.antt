-- The tokens before a refusal are the front of a program: one that begins with them was completed.
use Rattle.std.proofs.Common.{◌≡◌, List, [], ◌∷◌, ◌++◌, map, refl, ap, subst}
use Rattle.os_ast.specs.Depth.{program_depth}
use Rattle.os_ast.specs.Fronts.{Begun}
use Rattle.os_ast.specs.Leveled.{AreAll, IsItem}
use Rattle.os_ast.specs.Means.{Placed, placed}
use Rattle.os_ast.specs.Spelling as spelling
use Rattle.os_ast.specs.Spelling.{Symbol, kind_of}
use Rattle.os_lexer.specs.declared.token.Kind.{Kind}
use Rattle.os_parser_grammar.specs.Reading.{fails}
use Rattle.os_parser_grammar.specs.Statements.{inner, program}
use Rattle.os_parser_completions.specs.Completions.{kind_in}
use Rattle.os_parser_completions.proofs.BegunParts.{BegunPart}
use Rattle.os_parser_completions.proofs.BegunStmts.{program-refused}
use Rattle.os_parser_completions.proofs.Opens.{Opens, here, plain, noted, Refused}

-- tokens before the rest, whose kinds the symbols begin with
record Front (ps : List Symbol) (ts rest : List Placed) : Type 0 where
  front : List Placed
  tokens : ts ≡ front ++ rest
  more : List Kind
  kinds : map kind_of ps ≡ map kind_in front ++ more

opens-front : {ps : List Symbol} {ts rest : List Placed} → Opens ps ts rest → Front ps ts rest
opens-front (here {ps} {ts}) = record { front = []; tokens = refl; more = map kind_of ps; kinds = refl }
opens-front (plain {k} {m} o) =
    let f = opens-front o in
    record { front = placed k m ∷ f.front; tokens = ap (λ xs. placed k m ∷ xs) f.tokens; more = f.more; kinds = ap (λ ks. k ∷ ks) f.kinds }
opens-front (noted {k} {m} o) =
    let f = opens-front o in
    record { front = placed k m ∷ f.front; tokens = ap (λ xs. placed k m ∷ xs) f.tokens; more = f.more; kinds = ap (λ ks. k ∷ ks) f.kinds }

pub front : (tokens rest : List Placed) → program (inner 199) tokens ≡ fails rest → (front : List Placed) × (tokens ≡ front ++ rest) × Begun (map kind_in front)
front tokens rest fail =
    let b : BegunPart (AreAll IsItem) program_depth spelling.program 200 tokens rest =
    subst (Refused (BegunPart (AreAll IsItem) program_depth spelling.program 200 tokens)) fail (program-refused 199 tokens) in
    let f = opens-front (b.opens []) in
    (f.front, f.tokens, record { whole = b.whole; leveled = record { items = b.leveled; depth = b.shallow }; more = f.more; spelled = f.kinds })
