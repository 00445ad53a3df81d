-- Where a part of a statement is refused, one begins with all tokens before.
use Rattle.std.proofs.Common.{◌≡◌, ℕ, zero, suc, ◌≤◌, Bool, true, false, List, [], ◌∷◌, Option, Some, None, length, refl, arith}
use Rattle.os_ast.specs.Depth.{deepest, index_depth, value_depth, declarator_depth, change_depth, clause_item_depth, clause_kind_depth, clause_depth}
use Rattle.os_ast.specs.Leveled as leveled
use Rattle.os_ast.specs.Leveled.{IsExpr, IsTarget, AreAll, AreListed, IsOptional, IsIndex, IsDeclarator, IsHeadDeclarator, IsChange, IsStart, IsClauseItem, IsClauseKind, IsClause, AreClauses}
use Rattle.os_ast.specs.Means.{Placed, placed}
use Rattle.os_ast.specs.Operators.{step_mark}
use Rattle.os_ast.specs.Spelling as spelling
use Rattle.os_ast.specs.Trees as tree
use Rattle.os_ast.specs.Trees.{ExprTree, TargetTree, IndexTree, DeclaratorTree, ChangeTree, StartTree, JoinTree, ClauseItemTree, ClauseKindTree, ClauseTree}
use Rattle.os_ast.specs.declared.expr.Mark.{Mark}
use Rattle.os_ast.specs.declared.expr.Name.{Name}
use Rattle.os_ast.specs.declared.stmt.Step.{Step}
use Rattle.os_ast.specs.declared.stmt.Step.TheVariants as step_of
use Rattle.os_lexer.specs.Names.{input_id, output_id, firstprivate_id, stream_id}
use Rattle.os_lexer.specs.declared.token.Key.TheVariants as keys
use Rattle.os_lexer.specs.declared.token.Kind.{Kind}
use Rattle.os_lexer.specs.declared.token.Kind.TheVariants as kind
use Rattle.os_lexer.specs.declared.token.Punct.{Punct}
use Rattle.os_lexer.specs.declared.token.Punct.TheVariants as puncts
use Rattle.os_parser_grammar.specs.Expressions.{Readers, index}
use Rattle.os_parser_grammar.specs.declared.change_sign.ChangeSign.{ChangeSign}
use Rattle.os_ast.proofs.Prints.{Prints}
use Rattle.os_ast.specs.Spelling.{Symbol, Printer, ◌⨾◌}
use Rattle.os_parser_grammar.specs.Reading.{Read, Reader, got, fails, after, mark_at, begins}
use Rattle.os_parser_grammar.specs.Statements.{many, commas, list_of, name, target, size, value, attribute, declarator_by, declarator, head_declarator, type_words, declared, head_declared, change_by, change_of, before, ended, join, alone, clause_item, in_parens, clause_kind, clause, first_clause, some_clauses, clauses, line_goes_on}
use Rattle.os_parser_grammar.proofs.Sound.{Takes, Sound}
use Rattle.os_parser_grammar.proofs.SoundExprs.{ReadExpr, ReadTarget, ReadIndex, index-sound}
use Rattle.os_parser_grammar.proofs.SoundParts.{ReadPart, Spelled, many-sound, comma-sound, list_of-sound, name-sound, target-sound, size-sound, value-sound, attribute-sound, declarator-sound, head_declarator-sound, ChangeSigns, a_set, a_step, another, kind-changes, Joins, join-sound, clause_item-sound, in_parens-sound, IsName, a_name, no_depth, name-part, firstprivate-is, clause_kind-sound, clause-sound, IsFirst, first_clause-sound, are-clauses}
use Rattle.os_parser_completions.proofs.Opens.{OpensAll, here, noted, takes-opens, prints_token, prints_mark, opens-bare, opens-marked, Refused, refused-then, refused-if, refused-expect}
use Rattle.os_parser_completions.proofs.BegunExprs.{BegunExpr, BegunTarget, BegunIndex, BegunBelow, sound-below, refused-deeper, index-refused, target_of-refused}
use Rattle.os_ast.proofs.Prints as prints

abbrev pub no_mark : Mark
no_mark = record { place = 0; line = 0 }

abbrev pub no_name : Name
no_name = record { id = 0; mark = no_mark }

-- a part that stands where it may, of at most a depth, which the tokens up to the rest begin
pub record BegunPart {A : Type 0} (Is : A → Type 0) (depth : A → ℕ) (p : A → Printer) (d : ℕ) (ts rest : List Placed) : Type 0 where
  pub whole : A
  pub leveled : Is whole
  pub shallow : depth whole ≤ d
  pub opens : OpensAll (p whole) ts rest

-- a part that the tokens up to the rest begin
pub record BegunSpelled {A : Type 0} (p : A → Printer) (ts rest : List Placed) : Type 0 where
  pub whole : A
  pub opens : OpensAll (p whole) ts rest

pub many-refused : {A : Type 0} (f : ℕ) (Is : A → Type 0) (depth : A → ℕ) (p : A → Printer) (d : ℕ) (goes : List Placed → Bool) (part : Reader A) (ts : List Placed) →
    ((x : A) → Prints (p x)) →
    ((us : List Placed) → goes us ≡ true → Sound (ReadPart Is depth p d us) (part us)) →
    ((us : List Placed) → goes us ≡ true → Refused (BegunPart Is depth p d us) (part us)) →
    Refused (BegunPart (AreAll Is) (deepest depth) (spelling.each p) d ts) (many f goes part ts)
unfolding many
many-refused zero Is depth p d goes part ts pr s h = record { whole = []; leveled = leveled.AreAll.nil; shallow = omega arith; opens = λ ps. here }
many-refused (suc f) Is depth p d goes part ts pr s h =
    refused-if _ (goes ts) _ _
    (λ on. refused-then (ReadPart Is depth p d ts) (BegunPart Is depth p d ts) _ (part ts) _ (s ts on) (h ts on)
    (λ rest b. record {
      whole = b.whole ∷ [];
      leveled = leveled.AreAll.cons b.leveled leveled.AreAll.nil;
      shallow = omega (arith, b.shallow);
      opens = b.opens;
    })
    (λ x us rx. refused-then (ReadPart (AreAll Is) (deepest depth) (spelling.each p) d us) (BegunPart (AreAll Is) (deepest depth) (spelling.each p) d us) _ (many f goes part us) _
    (many-sound f Is depth p d goes part us s) (many-refused f Is depth p d goes part us pr s h)
    (λ rest b. record {
      whole = x ∷ b.whole;
      leveled = leveled.AreAll.cons rx.leveled b.leveled;
      shallow = omega (arith, rx.shallow, b.shallow);
      opens = λ ps. takes-opens (p x) (pr x) rx.takes (b.opens ps);
    })
    (λ xs vs rxs. tt)))
    (λ _. tt)

comma-refused : {A : Type 0} (Is : A → Type 0) (depth : A → ℕ) (p : A → Printer) (d : ℕ) (ts : List Placed) (r : Read A) →
    begins (kind.Punct puncts.Comma) ts ≡ true → Refused (BegunPart Is depth p d (after ts)) r →
    Refused (BegunPart Is depth (λ y. spelling.punct puncts.Comma ⨾ p y) d ts) r
comma-refused Is depth p d ts (got x rest) comma h = tt
comma-refused Is depth p d ts (fails rest) comma b = record {
  whole = b.whole;
  leveled = b.leveled;
  shallow = b.shallow;
  opens = λ ps. opens-bare (kind.Punct puncts.Comma) ts comma (b.opens ps);
}

pub list_of-refused : {A : Type 0} (Is : A → Type 0) (depth : A → ℕ) (p : A → Printer) (d : ℕ) (part : Reader A) (ts : List Placed) →
    ((x : A) → Prints (p x)) →
    ((us : List Placed) → Sound (ReadPart Is depth p d us) (part us)) →
    ((us : List Placed) → Refused (BegunPart Is depth p d us) (part us)) →
    Refused (BegunPart (AreListed Is) (deepest depth) (spelling.listed p) d ts) (list_of part ts)
unfolding list_of
list_of-refused Is depth p d part ts pr s h =
    refused-then (ReadPart Is depth p d ts) (BegunPart Is depth p d ts) _ (part ts) _ (s ts) (h ts)
    (λ rest b. record {
      whole = b.whole ∷ [];
      leveled = leveled.AreListed.listed b.leveled leveled.AreAll.nil;
      shallow = omega (arith, b.shallow);
      opens = b.opens;
    })
    (λ x us rx. refused-then
    (ReadPart (AreAll Is) (deepest depth) (spelling.each (λ y. spelling.punct puncts.Comma ⨾ p y)) d us)
    (BegunPart (AreAll Is) (deepest depth) (spelling.each (λ y. spelling.punct puncts.Comma ⨾ p y)) d us) _ (commas (suc (length us)) part us) _
    (many-sound (suc (length us)) Is depth (λ y. spelling.punct puncts.Comma ⨾ p y) d (begins (kind.Punct puncts.Comma)) (λ vs. part (after vs)) us
    (λ vs comma. comma-sound Is depth p d vs (part (after vs)) comma (s (after vs))))
    (many-refused (suc (length us)) Is depth (λ y. spelling.punct puncts.Comma ⨾ p y) d (begins (kind.Punct puncts.Comma)) (λ vs. part (after vs)) us
    (λ y. prints.◌then◌ prints.token (pr y))
    (λ vs comma. comma-sound Is depth p d vs (part (after vs)) comma (s (after vs)))
    (λ vs comma. comma-refused Is depth p d vs (part (after vs)) comma (h (after vs))))
    (λ rest b. record {
      whole = x ∷ b.whole;
      leveled = leveled.AreListed.listed rx.leveled b.leveled;
      shallow = omega (arith, rx.shallow, b.shallow);
      opens = λ ps. takes-opens (p x) (pr x) rx.takes (b.opens ps);
    })
    (λ xs vs rxs. tt))

-- names and targets
pub no-name : (ts : List Placed) → BegunSpelled spelling.name ts ts
no-name ts = record { whole = no_name; opens = λ ps. here }

pub name-refused : (ts : List Placed) → Refused (BegunSpelled spelling.name ts) (name ts)
unfolding name
name-refused [] = no-name []
name-refused (placed (kind.Name n) m ∷ ts) = tt
name-refused (placed (kind.Number n) m ∷ ts) = no-name _
name-refused (placed (kind.Wide n) m ∷ ts) = no-name _
name-refused (placed (kind.Punct p) m ∷ ts) = no-name _
name-refused (placed (kind.Key k) m ∷ ts) = no-name _
name-refused (placed kind.PragmaStart m ∷ ts) = no-name _
name-refused (placed kind.PragmaEnd m ∷ ts) = no-name _

pub target-refused : (d : ℕ) (b : Option Readers) (ts : List Placed) → BegunBelow d b → Refused (BegunTarget d ts) (target b ts)
unfolding target
target-refused d b ts h =
    refused-then (Spelled spelling.name ts) (BegunSpelled spelling.name ts) _ (name ts) _ (name-sound ts) (name-refused ts)
    (λ rest x. record { whole = tree.Variable x.whole; leveled = leveled.variable; shallow = omega arith; opens = x.opens })
    (λ n us rn. target_of-refused d b n us ts h rn)

-- declarators
abbrev pub BegunSize : ℕ → List Placed → List Placed → Type 0
BegunSize d = BegunPart (IsOptional IsIndex) index_depth (spelling.optional spelling.index) d

pub size-refused : (d : ℕ) (b : Option Readers) (ts : List Placed) → BegunBelow d b → Refused (BegunSize d ts) (size b ts)
unfolding size index
size-refused d None ts h =
    refused-if _ (begins (kind.Punct puncts.OpenBracket) ts) _ _
    (λ opens. record { whole = None; leveled = leveled.IsOptional.absent; shallow = omega arith; opens = λ ps. here })
    (λ _. tt)
size-refused d (Some r) ts h =
    refused-if _ (begins (kind.Punct puncts.OpenBracket) ts) _ _
    (λ opens. refused-then (ReadIndex d ts) (BegunIndex d ts) _ (index (Some r) ts) _ (index-sound d (Some r) ts h.sound opens) (index-refused d r ts h opens)
    (λ rest x. record {
      whole = Some x.whole;
      leveled = leveled.IsOptional.present (leveled.IsIndex.index {m = x.whole.mark} x.leveled);
      shallow = x.shallow;
      opens = x.opens;
    })
    (λ i us ri. tt))
    (λ _. tt)

abbrev pub BegunValue : ℕ → List Placed → List Placed → Type 0
BegunValue d = BegunPart (IsOptional IsExpr) value_depth (spelling.optional spelling.first_value) d

pub value-refused : (d : ℕ) (b : Option Readers) (ts : List Placed) → BegunBelow d b → Refused (BegunValue d ts) (value b ts)
unfolding value
value-refused d b ts h =
    refused-if _ (begins (kind.Punct puncts.Set) ts) _ _
    (λ sets. refused-deeper _ d b ts _ h
    (record { whole = None; leveled = leveled.IsOptional.absent; shallow = omega arith; opens = λ ps. here })
    (λ r g. refused-then (ReadExpr 0 d (after ts)) (BegunExpr 0 d (after ts)) _ (r.expr (after ts)) _ (g.sound.expr (after ts)) (g.expr (after ts))
    (λ rest x. record {
      whole = Some x.whole;
      leveled = leveled.IsOptional.present x.leveled;
      shallow = x.shallow;
      opens = λ ps. opens-bare (kind.Punct puncts.Set) ts sets (x.opens ps);
    })
    (λ e us re. tt)))
    (λ _. tt)

pub attribute-refused : (ts : List Placed) → Refused (BegunSpelled spelling.attribute ts) (attribute ts)
unfolding attribute
attribute-refused ts =
    refused-if _ (begins (kind.Key keys.Attribute) ts) _ _
    (λ word. refused-expect (kind.Punct puncts.OpenParen) _ (after ts) _
    (record { whole = true; opens = λ ps. opens-bare (kind.Key keys.Attribute) ts word here })
    (λ _ t1 e1. refused-expect (kind.Punct puncts.OpenParen) _ t1 _
    (record { whole = true; opens = λ ps. opens-bare (kind.Key keys.Attribute) ts word (takes-opens _ prints_token e1.plain here) })
    (λ _ t2 e2. refused-expect (kind.Name stream_id) _ t2 _
    (record { whole = true; opens = λ ps. opens-bare (kind.Key keys.Attribute) ts word (takes-opens _ prints_token e1.plain (takes-opens _ prints_token e2.plain here)) })
    (λ _ t3 e3. refused-expect (kind.Punct puncts.CloseParen) _ t3 _
    (record {
      whole = true;
      opens = λ ps. opens-bare (kind.Key keys.Attribute) ts word (takes-opens _ prints_token e1.plain (takes-opens _ prints_token e2.plain
          (takes-opens _ prints_token e3.plain here)));
    })
    (λ _ t4 e4. refused-expect (kind.Punct puncts.CloseParen) _ t4 _
    (record {
      whole = true;
      opens = λ ps. opens-bare (kind.Key keys.Attribute) ts word (takes-opens _ prints_token e1.plain (takes-opens _ prints_token e2.plain
          (takes-opens _ prints_token e3.plain (takes-opens _ prints_token e4.plain here))));
    })
    (λ _ t5 e5. tt))))))
    (λ _. tt)

abbrev pub BegunDeclarator : ℕ → List Placed → List Placed → Type 0
BegunDeclarator d = BegunPart IsDeclarator declarator_depth spelling.declarator d

-- without a first value
bare-declarator : (n : Name) (s : Option IndexTree) (a : Bool) → IsOptional IsIndex s → IsDeclarator (record { name = n; size = s; stream = a; first = None })
bare-declarator n s true h = leveled.IsDeclarator.stream h
bare-declarator n None false h = leveled.IsDeclarator.scalar leveled.IsOptional.absent
bare-declarator n (Some i) false (leveled.IsOptional.present p) = leveled.IsDeclarator.sized p

declarator_by-refused : (d : ℕ) (b : Option Readers) (n : Name) (s : Option IndexTree) (a : Bool) (ts t1 t2 t3 : List Placed) → BegunBelow d b →
    Takes (spelling.name n) ts t1 → ReadPart (IsOptional IsIndex) index_depth (spelling.optional spelling.index) d t1 s t2 → Takes (spelling.attribute a) t2 t3 →
    Refused (BegunDeclarator d ts) (declarator_by b n s a t3)
declarator_by-refused d b n (Some i) true ts t1 t2 t3 h rn rs ra = tt
declarator_by-refused d b n (Some i) false ts t1 t2 t3 h rn rs ra = tt
declarator_by-refused d b n None true ts t1 t2 t3 h rn rs ra = tt
declarator_by-refused d b n None false ts t1 t2 t3 h rn rs ra =
    refused-then (ReadPart (IsOptional IsExpr) value_depth (spelling.optional spelling.first_value) d t3) (BegunValue d t3) _ (value b t3) _
    (value-sound d b t3 (sound-below d b h)) (value-refused d b t3 h)
    (λ rest v. record {
      whole = record { name = n; size = None; stream = false; first = v.whole };
      leveled = leveled.IsDeclarator.scalar v.leveled;
      shallow = omega (arith, v.shallow);
      opens = λ ps. takes-opens (spelling.name n) prints_mark rn (takes-opens spelling.nothing prints.nothing rs.takes (takes-opens spelling.nothing prints.nothing ra (v.opens ps)));
    })
    (λ v t4 rv. tt)

pub declarator-refused : (d : ℕ) (b : Option Readers) (ts : List Placed) → BegunBelow d b → Refused (BegunDeclarator d ts) (declarator b ts)
unfolding declarator
declarator-refused d b ts h =
    refused-then (Spelled spelling.name ts) (BegunSpelled spelling.name ts) _ (name ts) _ (name-sound ts) (name-refused ts)
    (λ rest x. record {
      whole = record { name = x.whole; size = None; stream = false; first = None };
      leveled = leveled.IsDeclarator.scalar leveled.IsOptional.absent;
      shallow = omega arith;
      opens = x.opens;
    })
    (λ n t1 rn. refused-then (ReadPart (IsOptional IsIndex) index_depth (spelling.optional spelling.index) d t1) (BegunSize d t1) _ (size b t1) _
    (size-sound d b t1 (sound-below d b h)) (size-refused d b t1 h)
    (λ rest s. record {
      whole = record { name = n; size = s.whole; stream = false; first = None };
      leveled = bare-declarator n s.whole false s.leveled;
      shallow = omega (arith, s.shallow);
      opens = λ ps. takes-opens (spelling.name n) prints_mark rn (s.opens ps);
    })
    (λ s t2 rs. refused-then (Spelled spelling.attribute t2) (BegunSpelled spelling.attribute t2) _ (attribute t2) _ (attribute-sound t2) (attribute-refused t2)
    (λ rest a. record {
      whole = record { name = n; size = s; stream = a.whole; first = None };
      leveled = bare-declarator n s a.whole rs.leveled;
      shallow = omega (arith, rs.shallow);
      opens = λ ps. takes-opens (spelling.name n) prints_mark rn (takes-opens (spelling.optional spelling.index s) (prints.optional spelling.index prints.index s) rs.takes (a.opens ps));
    })
    (λ a t3 ra. declarator_by-refused d b n s a ts t1 t2 t3 h rn rs ra)))

abbrev pub BegunHeadDeclarator : ℕ → List Placed → List Placed → Type 0
BegunHeadDeclarator d = BegunPart IsHeadDeclarator declarator_depth spelling.declarator d

pub head_declarator-refused : (d : ℕ) (b : Option Readers) (ts : List Placed) → BegunBelow d b → Refused (BegunHeadDeclarator d ts) (head_declarator b ts)
unfolding head_declarator
head_declarator-refused d b ts h =
    refused-then (Spelled spelling.name ts) (BegunSpelled spelling.name ts) _ (name ts) _ (name-sound ts) (name-refused ts)
    (λ rest x. record {
      whole = record { name = x.whole; size = None; stream = false; first = None };
      leveled = leveled.IsHeadDeclarator.head leveled.IsOptional.absent;
      shallow = omega arith;
      opens = x.opens;
    })
    (λ n us rn. refused-then (ReadPart (IsOptional IsExpr) value_depth (spelling.optional spelling.first_value) d us) (BegunValue d us) _ (value b us) _
    (value-sound d b us (sound-below d b h)) (value-refused d b us h)
    (λ rest v. record {
      whole = record { name = n; size = None; stream = false; first = v.whole };
      leveled = leveled.IsHeadDeclarator.head v.leveled;
      shallow = omega (arith, v.shallow);
      opens = λ ps. takes-opens (spelling.name n) prints_mark rn (v.opens ps);
    })
    (λ v vs rv. tt))

-- A type is refused at its first token alone.
pub type-refused : (ts : List Placed) → Refused (λ rest. rest ≡ ts) (type_words ts)
unfolding type_words
type-refused ts =
    refused-if _ (begins (kind.Key keys.Int) ts) _ _
    (λ _. tt)
    (λ _. refused-if _ (begins (kind.Key keys.Unsigned) ts) _ _
    (λ _. refused-if _ (begins (kind.Key keys.Int) (after ts)) _ _ (λ _. tt) (λ _. tt))
    (λ _. refl))

pub declared-refused : (d : ℕ) (b : Option Readers) (ts : List Placed) → BegunBelow d b →
    Refused (BegunPart (AreListed IsDeclarator) (deepest declarator_depth) spelling.declared d ts) (declared b ts)
unfolding declared
declared-refused d b ts h =
    refused-then (ReadPart (AreListed IsDeclarator) (deepest declarator_depth) (spelling.listed spelling.declarator) d ts)
    (BegunPart (AreListed IsDeclarator) (deepest declarator_depth) (spelling.listed spelling.declarator) d ts) _ (list_of (declarator b) ts) _
    (list_of-sound IsDeclarator declarator_depth spelling.declarator d (declarator b) ts (λ us. declarator-sound d b us (sound-below d b h)))
    (list_of-refused IsDeclarator declarator_depth spelling.declarator d (declarator b) ts prints.declarator (λ us. declarator-sound d b us (sound-below d b h)) (λ us. declarator-refused d b us h))
    (λ rest x. record {
      whole = x.whole;
      leveled = x.leveled;
      shallow = x.shallow;
      opens = λ ps. x.opens _;
    })
    (λ ds us rd. refused-expect (kind.Punct puncts.Semicolon) _ us _
    (record {
      whole = ds;
      leveled = rd.leveled;
      shallow = rd.shallow;
      opens = λ ps. takes-opens (spelling.listed spelling.declarator ds) (prints.listed spelling.declarator prints.declarator ds) rd.takes here;
    })
    (λ _ vs semicolon. tt))

pub head_declared-refused : (d : ℕ) (b : Option Readers) (ts : List Placed) → BegunBelow d b →
    Refused (BegunPart (AreListed IsHeadDeclarator) (deepest declarator_depth) spelling.declared d ts) (head_declared b ts)
unfolding head_declared
head_declared-refused d b ts h =
    refused-then (ReadPart (AreListed IsHeadDeclarator) (deepest declarator_depth) (spelling.listed spelling.declarator) d ts)
    (BegunPart (AreListed IsHeadDeclarator) (deepest declarator_depth) (spelling.listed spelling.declarator) d ts) _ (list_of (head_declarator b) ts) _
    (list_of-sound IsHeadDeclarator declarator_depth spelling.declarator d (head_declarator b) ts (λ us. head_declarator-sound d b us (sound-below d b h)))
    (list_of-refused IsHeadDeclarator declarator_depth spelling.declarator d (head_declarator b) ts prints.declarator (λ us. head_declarator-sound d b us (sound-below d b h)) (λ us. head_declarator-refused d b us h))
    (λ rest x. record {
      whole = x.whole;
      leveled = x.leveled;
      shallow = x.shallow;
      opens = λ ps. x.opens _;
    })
    (λ ds us rd. refused-expect (kind.Punct puncts.Semicolon) _ us _
    (record {
      whole = ds;
      leveled = rd.leveled;
      shallow = rd.shallow;
      opens = λ ps. takes-opens (spelling.listed spelling.declarator ds) (prints.listed spelling.declarator prints.declarator ds) rd.takes here;
    })
    (λ _ vs semicolon. tt))

-- changes
abbrev pub BegunChange : ℕ → List Placed → List Placed → Type 0
BegunChange d = BegunPart IsChange change_depth spelling.change d

-- a target that a step follows
pub stepped : (d : ℕ) (ts rest : List Placed) → BegunTarget d ts rest → BegunChange d ts rest
stepped d ts rest t = record {
  whole = tree.After t.whole step_of.Up no_mark;
  leveled = leveled.IsChange.after t.leveled;
  shallow = t.shallow;
  opens = λ ps. t.opens _;
}

-- behind a whole target
pub behind-target : (d : ℕ) (t : TargetTree) (us ts : List Placed) → ReadTarget d us t ts → BegunChange d us ts
behind-target d t us ts rt = record {
  whole = tree.After t step_of.Up no_mark;
  leveled = leveled.IsChange.after rt.leveled;
  shallow = rt.shallow;
  opens = λ ps. takes-opens (spelling.target t) (prints.target t) rt.takes here;
}

change_by-refused : {k : Kind} {c : ChangeSign} (d : ℕ) (b : Option Readers) (t : TargetTree) (m : Mark) (us ts : List Placed) → BegunBelow d b →
    ReadTarget d us t (placed k m ∷ ts) → ChangeSigns k c → Refused (BegunChange d us) (change_by c b t (placed k m ∷ ts))
change_by-refused d b t m us ts h rt (a_set a is) =
    refused-deeper _ d b (placed _ m ∷ ts) _ h (behind-target d t us _ rt)
    (λ r g. refused-then (ReadExpr 0 d ts) (BegunExpr 0 d ts) _ (r.expr ts) _ (g.sound.expr ts) (g.expr ts)
    (λ rest x. record {
      whole = tree.Set t a m x.whole;
      leveled = leveled.IsChange.set rt.leveled is x.leveled;
      shallow = omega (arith, rt.shallow, x.shallow);
      opens = λ ps. takes-opens (spelling.target t) (prints.target t) rt.takes (noted (x.opens ps));
    })
    (λ e vs re. tt))
change_by-refused d b t m us ts h rt (a_step s) = tt
change_by-refused d b t m us ts h rt another = behind-target d t us _ rt

pub change_of-refused : (d : ℕ) (b : Option Readers) (t : TargetTree) (us ts : List Placed) → BegunBelow d b →
    ReadTarget d us t ts → Refused (BegunChange d us) (change_of b t ts)
unfolding change_of
change_of-refused d b t us [] h rt = behind-target d t us _ rt
change_of-refused d b t us (placed k m ∷ ts) h rt = change_by-refused d b t m us ts h rt (kind-changes k)

pub before-refused : (d : ℕ) (b : Option Readers) (s : Step) (ts : List Placed) → BegunBelow d b → begins (kind.Punct (step_mark s)) ts ≡ true →
    Refused (BegunChange d ts) (before s b ts)
unfolding before
before-refused d b s ts h is =
    refused-then (ReadTarget d (after ts)) (BegunTarget d (after ts)) _ (target b (after ts)) _ (target-sound d b (after ts) (sound-below d b h)) (target-refused d b (after ts) h)
    (λ rest t. record {
      whole = tree.Before t.whole s (mark_at ts);
      leveled = leveled.IsChange.before t.leveled;
      shallow = t.shallow;
      opens = λ ps. opens-marked (kind.Punct (step_mark s)) ts is (t.opens ps);
    })
    (λ t us rt. tt)

-- a part before a semicolon
pub ended-refused : {A B : Type 0} (P : A → List Placed → Type 0) (F G : List Placed → Type 0) (r : Read A) (f : A → B) → Sound P r → Refused F r →
    ((rest : List Placed) → F rest → G rest) → ((x : A) (us : List Placed) → P x us → G us) → Refused G (ended r f)
ended-refused P F G r f s h up k =
    refused-then P F G r _ s h up (λ x us rx. refused-expect (kind.Punct puncts.Semicolon) G us _ (k x us rx) (λ _ vs semicolon. tt))

-- clauses
abbrev pub BegunJoin : Punct → ℕ → List Placed → List Placed → Type 0
BegunJoin arrow d = BegunPart (λ j. IsOptional IsIndex j.burst) (λ j. index_depth j.burst) (spelling.join arrow) d

join-refused : (arrow : Punct) (d : ℕ) (b : Option Readers) (ts : List Placed) → BegunBelow d b → begins (kind.Punct arrow) ts ≡ true →
    Refused (BegunJoin arrow d ts) (join b ts)
unfolding join
join-refused arrow d b ts h is =
    refused-then (Spelled spelling.name (after ts)) (BegunSpelled spelling.name (after ts)) _ (name (after ts)) _ (name-sound (after ts)) (name-refused (after ts))
    (λ rest n. record {
      whole = record { mark = mark_at ts; name = n.whole; burst = None };
      leveled = leveled.IsOptional.absent;
      shallow = omega arith;
      opens = λ ps. opens-marked (kind.Punct arrow) ts is (n.opens ps);
    })
    (λ n us rn. refused-then (ReadPart (IsOptional IsIndex) index_depth (spelling.optional spelling.index) d us) (BegunSize d us) _ (size b us) _
    (size-sound d b us (sound-below d b h)) (size-refused d b us h)
    (λ rest i. record {
      whole = record { mark = mark_at ts; name = n; burst = i.whole };
      leveled = i.leveled;
      shallow = i.shallow;
      opens = λ ps. opens-marked (kind.Punct arrow) ts is (takes-opens (spelling.name n) prints_mark rn (i.opens ps));
    })
    (λ i vs ri. tt))

abbrev pub BegunItem : Punct → ℕ → List Placed → List Placed → Type 0
BegunItem arrow d = BegunPart IsClauseItem clause_item_depth (spelling.clause_item arrow) d

-- a target that an arrow follows
joined-item : (arrow : Punct) (d : ℕ) (ts rest : List Placed) → BegunTarget d ts rest → BegunItem arrow d ts rest
joined-item arrow d ts rest t = record {
  whole = record { stream = t.whole; window = Some (record { mark = no_mark; name = no_name; burst = None }) };
  leveled = leveled.IsClauseItem.joined t.leveled leveled.IsOptional.absent;
  shallow = omega (arith, t.shallow);
  opens = λ ps. t.opens _;
}

alone-refused : (arrow : Punct) (d : ℕ) (t : TargetTree) (ts us : List Placed) → ReadTarget d ts t us → Refused (BegunItem arrow d ts) (alone t us)
alone-refused arrow d (tree.Variable n) ts us rt = tt
alone-refused arrow d (tree.Element n m e) ts us rt = joined-item arrow d ts us (record {
  whole = tree.Element n m e;
  leveled = rt.leveled;
  shallow = rt.shallow;
  opens = λ ps. takes-opens (spelling.target (tree.Element n m e)) (prints.target (tree.Element n m e)) rt.takes here;
})

clause_item-refused : (arrow : Punct) (d : ℕ) (b : Option Readers) (ts : List Placed) → BegunBelow d b → Refused (BegunItem arrow d ts) (clause_item arrow b ts)
unfolding clause_item
clause_item-refused arrow d b ts h =
    refused-then (ReadTarget d ts) (BegunTarget d ts) _ (target b ts) _ (target-sound d b ts (sound-below d b h)) (target-refused d b ts h)
    (λ rest t. joined-item arrow d ts rest t)
    (λ t us rt. refused-if _ (begins (kind.Punct arrow) us) _ _
    (λ is. refused-then (Joins arrow d us) (BegunJoin arrow d us) _ (join b us) _ (join-sound arrow d b us (sound-below d b h) is) (join-refused arrow d b us h is)
    (λ rest j. record {
      whole = record { stream = t; window = Some j.whole };
      leveled = leveled.IsClauseItem.joined {m = j.whole.mark} {n = j.whole.name} {burst = j.whole.burst} rt.leveled j.leveled;
      shallow = omega (arith, rt.shallow, j.shallow);
      opens = λ ps. takes-opens (spelling.target t) (prints.target t) rt.takes (j.opens ps);
    })
    (λ j vs rj. tt))
    (λ _. alone-refused arrow d t ts us rt))

pub in_parens-refused : {A : Type 0} (Is : A → Type 0) (depth : A → ℕ) (p : A → Printer) (d : ℕ) (part : Reader A) (ts : List Placed) →
    ((x : A) → Prints (p x)) → ((us : List Placed) → BegunPart Is depth p d us us) →
    ((us : List Placed) → Sound (ReadPart Is depth p d us) (part us)) →
    ((us : List Placed) → Refused (BegunPart Is depth p d us) (part us)) →
    Refused (BegunPart (AreListed Is) (deepest depth) (λ xs. spelling.in_parens (spelling.listed p xs)) d ts) (in_parens part ts)
unfolding in_parens
in_parens-refused Is depth p d part ts pr none s h =
    refused-expect (kind.Punct puncts.OpenParen) _ ts _
    (record {
      whole = (none ts).whole ∷ [];
      leveled = leveled.AreListed.listed (none ts).leveled leveled.AreAll.nil;
      shallow = omega (arith, (none ts).shallow);
      opens = λ ps. here;
    })
    (λ _ us opens. refused-then (ReadPart (AreListed Is) (deepest depth) (spelling.listed p) d us) (BegunPart (AreListed Is) (deepest depth) (spelling.listed p) d us) _ (list_of part us) _
    (list_of-sound Is depth p d part us s) (list_of-refused Is depth p d part us pr s h)
    (λ rest x. record { whole = x.whole; leveled = x.leveled; shallow = x.shallow; opens = λ ps. takes-opens _ prints_token opens.plain (x.opens _) })
    (λ xs vs rxs. refused-expect (kind.Punct puncts.CloseParen) _ vs _
    (record {
      whole = xs;
      leveled = rxs.leveled;
      shallow = rxs.shallow;
      opens = λ ps. takes-opens _ prints_token opens.plain (takes-opens (spelling.listed p xs) (prints.listed p pr xs) rxs.takes here);
    })
    (λ _ ws closes. tt)))

name-begun : (d : ℕ) (ts : List Placed) (r : Read Name) → Refused (BegunSpelled spelling.name ts) r → Refused (BegunPart IsName no_depth spelling.name d ts) r
unfolding no_depth
name-begun d ts (got n rest) h = tt
name-begun d ts (fails rest) x = record { whole = x.whole; leveled = a_name; shallow = omega arith; opens = x.opens }

no-names : (d : ℕ) (us : List Placed) → BegunPart IsName no_depth spelling.name d us us
unfolding no_depth
no-names d us = record { whole = no_name; leveled = a_name; shallow = omega arith; opens = λ ps. here }

no-item : (arrow : Punct) (d : ℕ) (us : List Placed) → BegunItem arrow d us us
no-item arrow d us = record { whole = record { stream = tree.Variable no_name; window = None }; leveled = leveled.IsClauseItem.alone; shallow = omega arith; opens = λ ps. here }

abbrev pub BegunClauseKind : ℕ → List Placed → List Placed → Type 0
BegunClauseKind d = BegunPart IsClauseKind clause_kind_depth spelling.clause_kind d

pub clause_kind-refused : (d : ℕ) (b : Option Readers) (ts : List Placed) → BegunBelow d b → Refused (BegunClauseKind d ts) (clause_kind b ts)
unfolding clause_kind
clause_kind-refused d b ts h =
    let s = sound-below d b h in
    refused-if _ (begins (kind.Name input_id) ts) _ _
    (λ word. refused-then
    (ReadPart (AreListed IsClauseItem) (deepest clause_item_depth) (λ xs. spelling.in_parens (spelling.listed (spelling.clause_item puncts.ShiftRight) xs)) d (after ts))
    (BegunPart (AreListed IsClauseItem) (deepest clause_item_depth) (λ xs. spelling.in_parens (spelling.listed (spelling.clause_item puncts.ShiftRight) xs)) d (after ts)) _
    (in_parens (clause_item puncts.ShiftRight b) (after ts)) _
    (in_parens-sound IsClauseItem clause_item_depth (spelling.clause_item puncts.ShiftRight) d (clause_item puncts.ShiftRight b) (after ts) (λ us. clause_item-sound puncts.ShiftRight d b us s))
    (in_parens-refused IsClauseItem clause_item_depth (spelling.clause_item puncts.ShiftRight) d (clause_item puncts.ShiftRight b) (after ts) (prints.clause_item puncts.ShiftRight)
    (no-item puncts.ShiftRight d) (λ us. clause_item-sound puncts.ShiftRight d b us s) (λ us. clause_item-refused puncts.ShiftRight d b us h))
    (λ rest x. record { whole = tree.Input x.whole; leveled = leveled.IsClauseKind.input x.leveled; shallow = x.shallow; opens = λ ps. opens-bare (kind.Name input_id) ts word (x.opens ps) })
    (λ xs us rxs. tt))
    (λ _. refused-if _ (begins (kind.Name output_id) ts) _ _
    (λ word. refused-then
    (ReadPart (AreListed IsClauseItem) (deepest clause_item_depth) (λ xs. spelling.in_parens (spelling.listed (spelling.clause_item puncts.ShiftLeft) xs)) d (after ts))
    (BegunPart (AreListed IsClauseItem) (deepest clause_item_depth) (λ xs. spelling.in_parens (spelling.listed (spelling.clause_item puncts.ShiftLeft) xs)) d (after ts)) _
    (in_parens (clause_item puncts.ShiftLeft b) (after ts)) _
    (in_parens-sound IsClauseItem clause_item_depth (spelling.clause_item puncts.ShiftLeft) d (clause_item puncts.ShiftLeft b) (after ts) (λ us. clause_item-sound puncts.ShiftLeft d b us s))
    (in_parens-refused IsClauseItem clause_item_depth (spelling.clause_item puncts.ShiftLeft) d (clause_item puncts.ShiftLeft b) (after ts) (prints.clause_item puncts.ShiftLeft)
    (no-item puncts.ShiftLeft d) (λ us. clause_item-sound puncts.ShiftLeft d b us s) (λ us. clause_item-refused puncts.ShiftLeft d b us h))
    (λ rest x. record { whole = tree.Output x.whole; leveled = leveled.IsClauseKind.output x.leveled; shallow = x.shallow; opens = λ ps. opens-bare (kind.Name output_id) ts word (x.opens ps) })
    (λ xs us rxs. tt))
    (λ _. refused-if _ (begins (kind.Name firstprivate_id) ts) _ _
    (λ word. refused-then
    (ReadPart (AreListed IsName) (deepest no_depth) (λ xs. spelling.in_parens (spelling.listed spelling.name xs)) d (after ts))
    (BegunPart (AreListed IsName) (deepest no_depth) (λ xs. spelling.in_parens (spelling.listed spelling.name xs)) d (after ts)) _
    (in_parens name (after ts)) _
    (in_parens-sound IsName no_depth spelling.name d name (after ts) (λ us. name-part d us (name us) (name-sound us)))
    (in_parens-refused IsName no_depth spelling.name d name (after ts) (λ n. prints_mark) (no-names d)
    (λ us. name-part d us (name us) (name-sound us)) (λ us. name-begun d us (name us) (name-refused us)))
    (λ rest x. record { whole = tree.Firstprivate x.whole; leveled = firstprivate-is x.leveled; shallow = omega arith; opens = λ ps. opens-bare (kind.Name firstprivate_id) ts word (x.opens ps) })
    (λ xs us rxs. tt))
    (λ _. record { whole = tree.Firstprivate (no_name ∷ []); leveled = leveled.IsClauseKind.firstprivate; shallow = omega arith; opens = λ ps. here })))

abbrev pub BegunClause : ℕ → List Placed → List Placed → Type 0
BegunClause d = BegunPart IsClause clause_depth spelling.clause d

clause-refused : (d : ℕ) (b : Option Readers) (ts : List Placed) → BegunBelow d b → Refused (BegunClause d ts) (clause b ts)
unfolding clause
clause-refused d b ts h =
    refused-if _ (begins (kind.Punct puncts.Comma) ts) _ _
    (λ comma. refused-then (ReadPart IsClauseKind clause_kind_depth spelling.clause_kind d (after ts)) (BegunClauseKind d (after ts)) _ (clause_kind b (after ts)) _
    (clause_kind-sound d b (after ts) (sound-below d b h)) (clause_kind-refused d b (after ts) h)
    (λ rest x. record {
      whole = record { comma = true; kind = x.whole };
      leveled = leveled.IsClause.clause x.leveled;
      shallow = x.shallow;
      opens = λ ps. opens-bare (kind.Punct puncts.Comma) ts comma (x.opens ps);
    })
    (λ k us rk. tt))
    (λ _. refused-then (ReadPart IsClauseKind clause_kind_depth spelling.clause_kind d ts) (BegunClauseKind d ts) _ (clause_kind b ts) _
    (clause_kind-sound d b ts (sound-below d b h)) (clause_kind-refused d b ts h)
    (λ rest x. record { whole = record { comma = false; kind = x.whole }; leveled = leveled.IsClause.clause x.leveled; shallow = x.shallow; opens = x.opens })
    (λ k us rk. tt))

first_clause-refused : (d : ℕ) (b : Option Readers) (ts : List Placed) → BegunBelow d b → Refused (BegunPart IsFirst clause_depth spelling.clause d ts) (first_clause b ts)
unfolding first_clause
first_clause-refused d b ts h =
    refused-then (ReadPart IsClauseKind clause_kind_depth spelling.clause_kind d ts) (BegunClauseKind d ts) _ (clause_kind b ts) _
    (clause_kind-sound d b ts (sound-below d b h)) (clause_kind-refused d b ts h)
    (λ rest x. record { whole = record { comma = false; kind = x.whole }; leveled = (refl, x.leveled); shallow = x.shallow; opens = x.opens })
    (λ k us rk. tt)

abbrev pub BegunClauses : ℕ → List Placed → List Placed → Type 0
BegunClauses d = BegunPart AreClauses (deepest clause_depth) (spelling.each spelling.clause) d

pub clauses-refused : (d : ℕ) (b : Option Readers) (ts : List Placed) → BegunBelow d b → Refused (BegunClauses d ts) (clauses b ts)
unfolding clauses some_clauses
clauses-refused d b ts h =
    refused-if _ (begins kind.PragmaEnd ts) _ _
    (λ _. tt)
    (λ _. refused-then (ReadPart IsFirst clause_depth spelling.clause d ts) (BegunPart IsFirst clause_depth spelling.clause d ts) _ (first_clause b ts) _
    (first_clause-sound d b ts (sound-below d b h)) (first_clause-refused d b ts h)
    (λ rest x. record {
      whole = x.whole ∷ [];
      leveled = are-clauses x.whole.comma x.whole.kind [] x.leveled.0 x.leveled.1 leveled.AreAll.nil;
      shallow = omega (arith, x.shallow);
      opens = x.opens;
    })
    (λ c us rc. refused-then (ReadPart (AreAll IsClause) (deepest clause_depth) (spelling.each spelling.clause) d us)
    (BegunPart (AreAll IsClause) (deepest clause_depth) (spelling.each spelling.clause) d us) _ (many (suc (length us)) line_goes_on (clause b) us) _
    (many-sound (suc (length us)) IsClause clause_depth spelling.clause d line_goes_on (clause b) us (λ vs _. clause-sound d b vs (sound-below d b h)))
    (many-refused (suc (length us)) IsClause clause_depth spelling.clause d line_goes_on (clause b) us prints.clause
    (λ vs _. clause-sound d b vs (sound-below d b h)) (λ vs _. clause-refused d b vs h))
    (λ rest x. record {
      whole = c ∷ x.whole;
      leveled = are-clauses c.comma c.kind x.whole rc.leveled.0 rc.leveled.1 x.leveled;
      shallow = omega (arith, rc.shallow, x.shallow);
      opens = λ ps. takes-opens (spelling.clause c) (prints.clause c) rc.takes (x.opens ps);
    })
    (λ cs vs rcs. tt)))
