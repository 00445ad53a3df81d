-- What is read as an expression is one, as deep as it may be, and spelled by the tokens that were taken.
use Rattle.std.proofs.Common.{◌≡◌, ℕ, zero, suc, ◌-◌, ◌≤◌, ◌<◌, ◌^◌, Bool, true, false, List, [], ◌∷◌, Option, Some, None, cond, length, eqb-true, nat_lt, nat_eq, refl, sym, ap, ◌∙◌, subst, arith}
use borrow.Author.Tests.{ltb-true}
use Rattle.os_ast.specs.Depth.{expr_depth, target_depth, args_depth, links_depth}
use Rattle.os_ast.specs.Leveled as leveled
use Rattle.os_ast.specs.Leveled.{IsExpr, AreLinks, AreArgs, IsTarget, level}
use Rattle.os_ast.specs.Means as means
use Rattle.os_ast.specs.Means.{Placed, placed, Fit}
use Rattle.os_ast.specs.Operators.{level_of, precedence, binary_mark, unary_mark}
use Rattle.os_ast.specs.Spelling as spelling
use Rattle.os_ast.specs.Spelling.{Symbol, Printer, bare, marked}
use Rattle.os_ast.specs.Trees as tree
use Rattle.os_ast.specs.Trees.{ExprTree, TargetTree, IndexTree, Args, Links}
use Rattle.os_ast.specs.declared.expr.Binary.{Binary}
use Rattle.os_ast.specs.declared.expr.Binary.TheVariants as binary
use Rattle.os_ast.specs.declared.expr.Level.{Level}
use Rattle.os_ast.specs.declared.expr.Level.TheVariants as levels
use Rattle.os_ast.specs.declared.expr.Mark.{Mark}
use Rattle.os_ast.specs.declared.expr.Name.{Name}
use Rattle.os_ast.specs.declared.expr.Unary.{Unary}
use Rattle.os_ast.specs.declared.expr.Unary.TheVariants as unary
use Rattle.os_lexer.specs.declared.token.Kind.{Kind}
use Rattle.os_lexer.specs.declared.token.Kind.TheVariants as kind
use Rattle.os_lexer.specs.declared.token.Punct.{Punct}
use Rattle.os_lexer.specs.declared.token.Punct.TheVariants as puncts
use Rattle.os_parser_grammar.specs.Expressions.{Readers, deeper, index, target_of, more_args, some_args, args, named, paren, sign, operand_by, operand, at_operator, links, chained, linked, chains, branches, expr_on, below}
use Rattle.os_parser_grammar.specs.Operands.{operand_start, punct_start, punct_binary, binary_of, of_precedence, op_precedence, operator_at, level_at}
use Rattle.os_parser_grammar.specs.Reading.{Read, Reader, got, fails, after, mark_at, begins, expect}
use Rattle.os_parser_grammar.specs.declared.operand_start.OperandStart.{OperandStart}
use Rattle.os_parser_grammar.specs.declared.operand_start.OperandStart.TheVariants as starts
use Rattle.os_parser_grammar.proofs.SameKinds.{same-self}
use Rattle.os_parser_grammar.proofs.Sound.{Takes, Sound, sound-then, sound-if, begins-bare, begins-marked, expect-sound}

-- an expression of at least a level and at most a depth, that the tokens spell
pub record ReadExpr (n d : ℕ) (ts : List Placed) (e : ExprTree) (rest : List Placed) : Type 0 where
  pub leveled : IsExpr e
  pub above : n ≤ level e
  pub shallow : expr_depth e ≤ d
  pub takes : Takes (spelling.expr e) ts rest

pub record ReadTarget (d : ℕ) (ts : List Placed) (t : TargetTree) (rest : List Placed) : Type 0 where
  pub leveled : IsTarget t
  pub shallow : target_depth t ≤ d
  pub takes : Takes (spelling.target t) ts rest

pub record ReadIndex (d : ℕ) (ts : List Placed) (i : IndexTree) (rest : List Placed) : Type 0 where
  pub leveled : IsExpr i.value
  pub shallow : expr_depth i.value ≤ d
  pub takes : Takes (spelling.index i) ts rest

pub record ReadArgs (p : Args → Printer) (d : ℕ) (ts : List Placed) (es : Args) (rest : List Placed) : Type 0 where
  pub leveled : AreArgs es
  pub shallow : args_depth es ≤ d
  pub takes : Takes (p es) ts rest

pub record ReadLinks (r d : ℕ) (ts : List Placed) (ls : Links) (rest : List Placed) : Type 0 where
  pub leveled : AreLinks (level_at r) ls
  pub shallow : links_depth ls ≤ d
  pub takes : Takes (spelling.links ls) ts rest

-- readers of expressions of at most a depth
pub record SoundReaders (d : ℕ) (r : Readers) : Type 0 where
  pub expr : (ts : List Placed) → Sound (ReadExpr 0 d ts) (r.expr ts)
  pub operand : (ts : List Placed) → Sound (ReadExpr 11 d ts) (r.operand ts)

abbrev pub SoundBelow : ℕ → Option Readers → Type 0
SoundBelow d None = Unit {0}
SoundBelow d (Some r) = SoundReaders d r

pub sound-deeper : {A : Type 0} (P : A → List Placed → Type 0) (d : ℕ) (b : Option Readers) (ts : List Placed) (f : Readers → Read A) →
    SoundBelow d b → ((r : Readers) → SoundReaders d r → Sound P (f r)) → Sound P (deeper b ts f)
sound-deeper P d None ts f h k = tt
sound-deeper P d (Some r) ts f h k = k r h

pub index-sound : (d : ℕ) (b : Option Readers) (ts : List Placed) → SoundBelow d b →
    begins (kind.Punct puncts.OpenBracket) ts ≡ true → Sound (ReadIndex d ts) (index b ts)
unfolding index
index-sound d b ts h opens =
    sound-deeper _ d b ts _ h (λ r s. sound-then _ _ (r.expr (after ts)) _ (s.expr (after ts)) (λ e us re.
    sound-then _ _ (expect (kind.Punct puncts.CloseBracket) us) _ (expect-sound _ us) (λ m vs close.
    record {
      leveled = re.leveled;
      shallow = re.shallow;
      takes = λ ps f. begins-marked (kind.Punct puncts.OpenBracket) ts opens _ (re.takes _ (close.plain ps f));
    })))

-- the name stands before the tokens
pub target_of-sound : (d : ℕ) (b : Option Readers) (n : Name) (ts us : List Placed) → SoundBelow d b →
    Takes (spelling.name n) us ts → Sound (ReadTarget d us) (target_of b n ts)
unfolding target_of
target_of-sound d b n ts us h name =
    sound-if _ (begins (kind.Punct puncts.OpenBracket) ts) _ _
    (λ opens. sound-then _ _ (index b ts) _ (index-sound d b ts h opens) (λ i vs ri.
    record { leveled = leveled.element ri.leveled; shallow = ri.shallow; takes = λ ps f. name _ (ri.takes ps f) }))
    (λ _. record { leveled = leveled.variable; shallow = omega arith; takes = name })

pub more_args-sound : (f d : ℕ) (r : Readers) (ts : List Placed) → SoundReaders d r →
    Sound (ReadArgs spelling.more_args d ts) (more_args f r ts)
unfolding more_args
more_args-sound zero d r ts s = tt
more_args-sound (suc f) d r ts s =
    sound-if _ (begins (kind.Punct puncts.Comma) ts) _ _
    (λ comma. sound-then _ _ (r.expr (after ts)) _ (s.expr (after ts)) (λ e us re.
    sound-then _ _ (more_args f r us) _ (more_args-sound f d r us s) (λ es vs res.
    record {
      leveled = leveled.arg re.leveled res.leveled;
      shallow = omega (arith, re.shallow, res.shallow);
      takes = λ ps g. begins-bare (kind.Punct puncts.Comma) ts comma _ (re.takes _ (res.takes ps g));
    })))
    (λ _. record { leveled = leveled.no_args; shallow = omega arith; takes = λ ps g. g })

pub some_args-sound : (d : ℕ) (r : Readers) (ts : List Placed) → SoundReaders d r →
    Sound (ReadArgs spelling.args d ts) (some_args r ts)
unfolding some_args
some_args-sound d r ts s =
    sound-then _ _ (r.expr ts) _ (s.expr ts) (λ e us re.
    sound-then _ _ (more_args (suc (length us)) r us) _ (more_args-sound (suc (length us)) d r us s) (λ es vs res.
    record {
      leveled = leveled.arg re.leveled res.leveled;
      shallow = omega (arith, re.shallow, res.shallow);
      takes = λ ps g. re.takes _ (res.takes ps g);
    }))

abbrev pub in_parens : Args → Printer
in_parens es = spelling.in_parens (spelling.args es)

pub args-sound : (d : ℕ) (b : Option Readers) (ts : List Placed) → SoundBelow d b →
    begins (kind.Punct puncts.OpenParen) ts ≡ true → Sound (ReadArgs in_parens d ts) (args b ts)
unfolding args
args-sound d b ts h opens =
    sound-if _ (begins (kind.Punct puncts.CloseParen) (after ts)) _ _
    (λ close. record {
      leveled = leveled.no_args;
      shallow = omega arith;
      takes = λ ps f. begins-bare (kind.Punct puncts.OpenParen) ts opens _ (begins-bare (kind.Punct puncts.CloseParen) (after ts) close ps f);
    })
    (λ _. sound-deeper _ d b (after ts) _ h (λ r s. sound-then _ _ (some_args r (after ts)) _ (some_args-sound d r (after ts) s) (λ es us res.
    sound-then _ _ (expect (kind.Punct puncts.CloseParen) us) _ (expect-sound _ us) (λ m vs close.
    record {
      leveled = res.leveled;
      shallow = res.shallow;
      takes = λ ps f. begins-bare (kind.Punct puncts.OpenParen) ts opens _ (res.takes _ (close.plain ps f));
    }))))

pub named-sound : (d : ℕ) (b : Option Readers) (n : Name) (ts us : List Placed) → SoundBelow d b →
    Takes (spelling.name n) us ts → Sound (ReadExpr 12 (suc d) us) (named b n ts)
unfolding named
named-sound d b n ts us h name =
    sound-if _ (begins (kind.Punct puncts.OpenParen) ts) _ _
    (λ opens. sound-then _ _ (args b ts) _ (args-sound d b ts h opens) (λ es vs res.
    record {
      leveled = leveled.IsExpr.call res.leveled;
      above = omega arith;
      shallow = omega (arith, res.shallow);
      takes = λ ps f. name _ (res.takes ps f);
    }))
    (λ _. sound-then _ _ (target_of b n ts) _ (target_of-sound d b n ts us h name) (λ t vs rt.
    record { leveled = leveled.place rt.leveled; above = omega arith; shallow = omega (arith, rt.shallow); takes = rt.takes }))

paren-sound : (d : ℕ) (b : Option Readers) (ts : List Placed) → SoundBelow d b →
    begins (kind.Punct puncts.OpenParen) ts ≡ true → Sound (ReadExpr 11 (suc d) ts) (paren b ts)
unfolding paren
paren-sound d b ts h opens =
    sound-deeper _ d b ts _ h (λ r s. sound-then _ _ (r.expr (after ts)) _ (s.expr (after ts)) (λ e us re.
    sound-then _ _ (expect (kind.Punct puncts.CloseParen) us) _ (expect-sound _ us) (λ m vs close.
    record {
      leveled = leveled.paren re.leveled;
      above = omega arith;
      shallow = omega (arith, re.shallow);
      takes = λ ps f. begins-bare (kind.Punct puncts.OpenParen) ts opens _ (re.takes _ (close.plain ps f));
    })))

sign-sound : (op : Unary) (d : ℕ) (b : Option Readers) (ts : List Placed) → SoundBelow d b →
    begins (kind.Punct (unary_mark op)) ts ≡ true → Sound (ReadExpr 11 (suc d) ts) (sign op b ts)
unfolding sign
sign-sound op d b ts h opens =
    sound-deeper _ d b ts _ h (λ r s. sound-then _ _ (r.operand (after ts)) _ (s.operand (after ts)) (λ e us re.
    record {
      leveled = leveled.unary re.leveled re.above;
      above = omega arith;
      shallow = omega (arith, re.shallow);
      takes = λ ps f. begins-marked (kind.Punct (unary_mark op)) ts opens _ (re.takes ps f);
    }))

-- how tokens begin an operand
pub data Starts : Kind → OperandStart → Type 0 where
  a_number : (n : ℕ) → n < 2 ^ 31 → Starts (kind.Number n) (starts.Number n)
  a_wide : (n : ℕ) → n < 2 ^ 32 → Starts (kind.Wide n) (starts.Wide n)
  a_name : (n : ℕ) → Starts (kind.Name n) (starts.Name n)
  a_paren : Starts (kind.Punct puncts.OpenParen) starts.Paren
  a_sign : (op : Unary) → Starts (kind.Punct (unary_mark op)) (starts.Sign op)
  another : {k : Kind} → Starts k starts.Other

punct-starts : (p : Punct) → Starts (kind.Punct p) (punct_start p)
punct-starts puncts.OpenParen = a_paren
punct-starts puncts.Minus = a_sign unary.Minus
punct-starts puncts.Plus = a_sign unary.Plus
punct-starts puncts.Not = a_sign unary.Not
punct-starts puncts.Invert = a_sign unary.Invert
punct-starts _ = another

number-starts : (n : ℕ) (b : Bool) → nat_lt n (2 ^ 31) ≡ b →
    Starts (kind.Number n) (cond b (starts.Number n) starts.Other)
number-starts n true e = a_number n (ltb-true n _ e)
number-starts n false e = another

wide-starts : (n : ℕ) (b : Bool) → nat_lt n (2 ^ 32) ≡ b →
    Starts (kind.Wide n) (cond b (starts.Wide n) starts.Other)
wide-starts n true e = a_wide n (ltb-true n _ e)
wide-starts n false e = another

pub kind-starts : (k : Kind) → Starts k (operand_start k)
kind-starts (kind.Number n) = number-starts n (nat_lt n (2 ^ 31)) refl
kind-starts (kind.Wide n) = wide-starts n (nat_lt n (2 ^ 32)) refl
kind-starts (kind.Name n) = a_name n
kind-starts (kind.Punct p) = punct-starts p
kind-starts (kind.Key k) = another
kind-starts kind.PragmaStart = another
kind-starts kind.PragmaEnd = another

sound-weaker : (d : ℕ) (ts : List Placed) (r : Read ExprTree) → Sound (ReadExpr 12 d ts) r → Sound (ReadExpr 11 d ts) r
sound-weaker d ts (got e rest) re =
    record { leveled = re.leveled; above = omega (arith, re.above); shallow = re.shallow; takes = re.takes }
sound-weaker d ts (fails rest) re = tt

operand-starts : {k : Kind} {st : OperandStart} (d : ℕ) (b : Option Readers) (m : Mark) (ts : List Placed) → SoundBelow d b → Starts k st →
    Sound (ReadExpr 11 (suc d) (placed k m ∷ ts)) (operand_by st b (placed k m ∷ ts))
unfolding operand_by
operand-starts d b m ts h (a_number n small) =
    record { leveled = leveled.number small; above = omega arith; shallow = omega arith; takes = λ ps f. means.bare f }
operand-starts d b m ts h (a_wide n fits) =
    record { leveled = leveled.wide fits; above = omega arith; shallow = omega arith; takes = λ ps f. means.bare f }
operand-starts d b m ts h (a_name n) =
    sound-weaker _ _ (named b (record { id = n; mark = m }) ts) (named-sound d b (record { id = n; mark = m }) ts _ h (λ ps f. means.marked f))
operand-starts d b m ts h a_paren = paren-sound d b _ h (same-self (kind.Punct puncts.OpenParen))
operand-starts d b m ts h (a_sign op) = sign-sound op d b _ h (same-self (kind.Punct (unary_mark op)))
operand-starts d b m ts h another = tt

pub operand-sound : (d : ℕ) (b : Option Readers) (ts : List Placed) → SoundBelow d b → Sound (ReadExpr 11 (suc d) ts) (operand b ts)
unfolding operand operand_by
operand-sound d b [] h = tt
operand-sound d b (placed k m ∷ ts) h = operand-starts d b m ts h (kind-starts k)

-- operators
pub data Operators : Kind → Option Binary → Type 0 where
  some : (op : Binary) → Operators (kind.Punct (binary_mark op)) (Some op)
  none : {k : Kind} → Operators k None

punct-operators : (p : Punct) → Operators (kind.Punct p) (punct_binary p)
punct-operators puncts.Or = some binary.Or
punct-operators puncts.And = some binary.And
punct-operators puncts.BitOr = some binary.BitOr
punct-operators puncts.BitXor = some binary.BitXor
punct-operators puncts.BitAnd = some binary.BitAnd
punct-operators puncts.Equal = some binary.Equal
punct-operators puncts.Unequal = some binary.Unequal
punct-operators puncts.Less = some binary.Less
punct-operators puncts.LessEqual = some binary.LessEqual
punct-operators puncts.Greater = some binary.Greater
punct-operators puncts.GreaterEqual = some binary.GreaterEqual
punct-operators puncts.ShiftLeft = some binary.ShiftLeft
punct-operators puncts.ShiftRight = some binary.ShiftRight
punct-operators puncts.Plus = some binary.Add
punct-operators puncts.Minus = some binary.Subtract
punct-operators puncts.Star = some binary.Multiply
punct-operators puncts.Slash = some binary.Divide
punct-operators puncts.Percent = some binary.Remainder
punct-operators _ = none

pub kind-operators : (k : Kind) → Operators k (binary_of k)
kind-operators (kind.Punct p) = punct-operators p
kind-operators (kind.Number n) = none
kind-operators (kind.Wide n) = none
kind-operators (kind.Name n) = none
kind-operators (kind.Key k) = none
kind-operators kind.PragmaStart = none
kind-operators kind.PragmaEnd = none

pub level_at-precedence : (l : Level) → level_at (precedence l) ≡ l
level_at-precedence levels.Or = refl
level_at-precedence levels.And = refl
level_at-precedence levels.BitOr = refl
level_at-precedence levels.BitXor = refl
level_at-precedence levels.BitAnd = refl
level_at-precedence levels.Equal = refl
level_at-precedence levels.Order = refl
level_at-precedence levels.Shift = refl
level_at-precedence levels.Sum = refl
level_at-precedence levels.Product = refl

-- an operator of a precedence stands at the next token
pub record Operator (r : ℕ) (ts : List Placed) (op : Binary) : Type 0 where
  pub level : level_of op ≡ level_at r
  pub takes : Takes (spelling.punct_at (binary_mark op) (mark_at ts)) ts (after ts)

pub operator-level : (r : ℕ) (op : Binary) → nat_eq (op_precedence op) r ≡ true → level_of op ≡ level_at r
operator-level r op e = sym (level_at-precedence (level_of op)) ∙ ap level_at (eqb-true _ _ e)

of_precedence-cases : {A : Type 0} (Q : A → List Placed → Type 0) (r : ℕ) (op : Binary) (f : Binary → Read A) (n : Read A) (b : Bool) →
    nat_eq (op_precedence op) r ≡ b → (nat_eq (op_precedence op) r ≡ true → Sound Q (f op)) → Sound Q n →
    Sound Q (at_operator (cond b (Some op) None) f n)
of_precedence-cases Q r op f n true e h g = h e
of_precedence-cases Q r op f n false e h g = g

at_operator-kind : {A : Type 0} (Q : A → List Placed → Type 0) (r : ℕ) {k : Kind} {o : Option Binary} (m : Mark) (ts : List Placed)
    (f : Binary → Read A) (n : Read A) → Operators k o →
    ((op : Binary) → Operator r (placed k m ∷ ts) op → Sound Q (f op)) → Sound Q n → Sound Q (at_operator (of_precedence r o) f n)
at_operator-kind Q r m ts f n (some op) h g =
    of_precedence-cases Q r op f n (nat_eq (op_precedence op) r) refl
    (λ e. h op (record { level = operator-level r op e; takes = λ ps g. means.marked g })) g
at_operator-kind Q r m ts f n none h g = g

at_operator-sound : {A : Type 0} (Q : A → List Placed → Type 0) (r : ℕ) (ts : List Placed) (f : Binary → Read A) (n : Read A) →
    ((op : Binary) → Operator r ts op → Sound Q (f op)) → Sound Q n → Sound Q (at_operator (operator_at r ts) f n)
at_operator-sound Q r [] f n h g = g
at_operator-sound Q r (placed k m ∷ ts) f n h g = at_operator-kind Q r m ts f n (kind-operators k) h g

-- chains
abbrev pub SoundReader : ℕ → ℕ → Reader ExprTree → Type 0
SoundReader n d u = (ts : List Placed) → Sound (ReadExpr n d ts) (u ts)

pub links-sound : (f r n d : ℕ) (u : Reader ExprTree) (ts : List Placed) → precedence (level_at r) < n → SoundReader n d u →
    Sound (ReadLinks r d ts) (links f r u ts)
unfolding links
links-sound zero r n d u ts h s = tt
links-sound (suc f) r n d u ts h s =
    at_operator-sound _ r ts _ _
    (λ op o. sound-then _ _ (u (after ts)) _ (s (after ts)) (λ e us re.
    sound-then _ _ (links f r u us) _ (links-sound f r n d u us h s) (λ ls vs rl.
    record {
      leveled = leveled.link o.level re.leveled (omega (arith, h, re.above)) rl.leveled;
      shallow = omega (arith, re.shallow, rl.shallow);
      takes = λ ps g. o.takes _ (re.takes _ (rl.takes ps g));
    })))
    (record { leveled = leveled.no_links; shallow = omega arith; takes = λ ps g. g })

chained-read : (r d : ℕ) (ts us vs : List Placed) (first : ExprTree) (ls : Links) → precedence (level_at r) ≡ r →
    ReadExpr (suc r) d ts first us → ReadLinks r d us ls vs → ReadExpr r d ts (chained r first ls) vs
chained-read r d ts us vs first tree.no_links is re rl =
    record { leveled = re.leveled; above = omega (arith, re.above); shallow = re.shallow; takes = λ ps g. re.takes _ (rl.takes ps g) }
chained-read r d ts us vs first (tree.link op m e rest) is re rl =
    record {
      leveled = leveled.chain re.leveled (omega (arith, re.above, is)) rl.leveled;
      above = omega (arith, is);
      shallow = omega (arith, re.shallow, rl.shallow);
      takes = λ ps g. re.takes _ (rl.takes ps g);
    }

pub precedence-level_at : (r : ℕ) → 1 ≤ r → r ≤ 10 → precedence (level_at r) ≡ r
precedence-level_at zero low high = absurd (omega arith)
precedence-level_at (suc zero) low high = refl
precedence-level_at (suc (suc zero)) low high = refl
precedence-level_at (suc (suc (suc zero))) low high = refl
precedence-level_at (suc (suc (suc (suc zero)))) low high = refl
precedence-level_at (suc (suc (suc (suc (suc zero))))) low high = refl
precedence-level_at (suc (suc (suc (suc (suc (suc zero)))))) low high = refl
precedence-level_at (suc (suc (suc (suc (suc (suc (suc zero))))))) low high = refl
precedence-level_at (suc (suc (suc (suc (suc (suc (suc (suc zero)))))))) low high = refl
precedence-level_at (suc (suc (suc (suc (suc (suc (suc (suc (suc zero))))))))) low high = refl
precedence-level_at (suc (suc (suc (suc (suc (suc (suc (suc (suc (suc zero)))))))))) low high = refl
precedence-level_at (suc (suc (suc (suc (suc (suc (suc (suc (suc (suc (suc r))))))))))) low high = absurd (omega arith)

pub chains-sound : (n d : ℕ) (u : Reader ExprTree) → n ≤ 10 → SoundReader 11 d u → SoundReader (11 - n) d (chains n u)
unfolding chains linked
chains-sound zero d u h s ts = s ts
chains-sound (suc n) d u h s ts =
    let inner : SoundReader (11 - n) d (chains n u) = chains-sound n d u (omega arith) s in
    let r : precedence (level_at (10 - n)) ≡ 10 - n = precedence-level_at (10 - n) (omega arith) (omega arith) in
    let up : 11 - n ≡ suc (10 - n) = omega arith in
    let down : 11 - suc n ≡ 10 - n = omega arith in
    sound-then _ _ (chains n u ts) _ (inner ts) (λ first us re.
    sound-then _ _ (links (suc (length us)) (10 - n) (chains n u) us) _ (links-sound (suc (length us)) (10 - n) (11 - n) d (chains n u) us (omega (arith, r)) inner) (λ ls vs rl.
    subst (λ k. ReadExpr k d ts (chained (10 - n) first ls) vs) (sym down)
    (chained-read (10 - n) d ts us vs first ls r (subst (λ k. ReadExpr k d ts first us) up re) rl)))

-- expressions
pub expr-sound : (d : ℕ) (b : Option Readers) (ts : List Placed) → SoundBelow d b → Sound (ReadExpr 0 (suc d) ts) (expr_on b ts)
unfolding expr_on branches
expr-sound d b ts h =
    sound-then _ _ (chains 10 (operand b) ts) _ (chains-sound 10 (suc d) (operand b) (omega arith) (λ us. operand-sound d b us h) ts) (λ c us rc.
    sound-if _ (begins (kind.Punct puncts.Question) us) _ _
    (λ question. sound-deeper _ d b us _ h (λ r s. sound-then _ _ (r.expr (after us)) _ (s.expr (after us)) (λ x vs rx.
    sound-then _ _ (expect (kind.Punct puncts.Colon) vs) _ (expect-sound _ vs) (λ m ws colon.
    sound-then _ _ (r.expr ws) _ (s.expr ws) (λ y xs ry.
    record {
      leveled = leveled.choice rc.leveled (omega (arith, rc.above)) rx.leveled ry.leveled;
      above = omega arith;
      shallow = omega (arith, rc.shallow, rx.shallow, ry.shallow);
      takes = λ ps g. rc.takes _ (begins-bare (kind.Punct puncts.Question) us question _ (rx.takes _ (colon.plain _ (ry.takes ps g))));
    })))))
    (λ _. record { leveled = rc.leveled; above = omega arith; shallow = rc.shallow; takes = rc.takes }))

pub below-sound : (d : ℕ) → SoundBelow d (below d)
unfolding below
below-sound zero = tt
below-sound (suc d) = record {
  expr = λ ts. expr-sound d (below d) ts (below-sound d);
  operand = λ ts. operand-sound d (below d) ts (below-sound d);
}

-- what is read as an expression is one
pub read-sound : (d : ℕ) (ts : List Placed) → Sound (ReadExpr 0 (suc d) ts) (expr_on (below d) ts)
read-sound d ts = expr-sound d (below d) ts (below-sound d)
