-- What is read as a part of a statement is one, as deep as it may be, and spelled by the tokens that were taken.
use Rattle.std.proofs.Common.{◌≡◌, ℕ, zero, suc, ◌≤◌, Bool, true, false, List, [], ◌∷◌, Option, Some, None, length, refl, arith}
use Rattle.os_ast.specs.Depth.{deepest, index_depth, value_depth, declarator_depth, change_depth, clause_item_depth, clause_kind_depth, clause_depth}
use Rattle.os_ast.specs.Leveled as leveled
use Rattle.os_ast.specs.Leveled.{IsExpr, IsTarget, AreAll, AreListed, IsOptional, IsIndex, IsDeclarator, IsHeadDeclarator, IsChange, IsStart, IsClauseItem, IsClauseKind, IsClause, AreClauses}
use Rattle.os_ast.specs.Means as means
use Rattle.os_ast.specs.Means.{Placed, placed, Fit}
use Rattle.os_ast.specs.Operators as operators
use Rattle.os_ast.specs.Operators.{IsAssign, assign_mark, step_mark}
use Rattle.os_ast.specs.Spelling as spelling
use Rattle.os_ast.specs.Spelling.{Printer, ◌⨾◌}
use Rattle.os_ast.specs.Trees as tree
use Rattle.os_ast.specs.Trees.{ExprTree, TargetTree, IndexTree, DeclaratorTree, ChangeTree, StartTree, JoinTree, ClauseItemTree, ClauseKindTree, ClauseTree}
use Rattle.os_ast.specs.declared.expr.Binary.TheVariants as binary
use Rattle.os_ast.specs.declared.expr.Mark.{Mark}
use Rattle.os_ast.specs.declared.expr.Name.{Name}
use Rattle.os_ast.specs.declared.stmt.Assign.{Assign}
use Rattle.os_ast.specs.declared.stmt.Assign.TheVariants as assign
use Rattle.os_ast.specs.declared.stmt.Step.{Step}
use Rattle.os_ast.specs.declared.stmt.Step.TheVariants as step_of
use Rattle.os_lexer.specs.Names.{input_id, output_id, firstprivate_id, stream_id}
use Rattle.os_lexer.specs.declared.token.Key.TheVariants as keys
use Rattle.os_lexer.specs.declared.token.Kind.{Kind}
use Rattle.os_lexer.specs.declared.token.Kind.TheVariants as kind
use Rattle.os_lexer.specs.declared.token.Punct.{Punct}
use Rattle.os_lexer.specs.declared.token.Punct.TheVariants as puncts
use Rattle.os_parser_grammar.specs.Beginners.{change_sign, punct_change}
use Rattle.os_parser_grammar.specs.Expressions.{Readers, index}
use Rattle.os_parser_grammar.specs.Reading.{Read, Reader, got, fails, after, begins, expect}
use Rattle.os_parser_grammar.specs.Statements.{many, commas, list_of, name, target, size, value, attribute, declarator_by, declarator, head_declarator, type_words, declared, head_declared, change_by, change_of, before, ended, join, alone, clause_item, in_parens, clause_kind, clause, first_clause, some_clauses, clauses, line_goes_on}
use Rattle.os_parser_grammar.specs.declared.change_sign.ChangeSign.{ChangeSign}
use Rattle.os_parser_grammar.specs.declared.change_sign.ChangeSign.TheVariants as signs
use Rattle.os_parser_grammar.proofs.Sound.{Takes, Sound, sound-then, sound-if, begins-bare, begins-marked, expect-sound}
use Rattle.os_parser_grammar.proofs.SoundExprs.{SoundBelow, sound-deeper, ReadTarget, index-sound, target_of-sound}

-- a part that stands where it may, of at most a depth, that the tokens spell
pub record ReadPart {A : Type 0} (Is : A → Type 0) (depth : A → ℕ) (p : A → Printer) (d : ℕ) (ts : List Placed) (x : A) (rest : List Placed) : Type 0 where
  pub leveled : Is x
  pub shallow : depth x ≤ d
  pub takes : Takes (p x) ts rest

-- a part that the tokens spell
abbrev pub Spelled : {A : Type 0} → (A → Printer) → List Placed → A → List Placed → Type 0
Spelled p ts x rest = Takes (p x) ts rest

abbrev pub SoundPart : {A : Type 0} → (A → Type 0) → (A → ℕ) → (A → Printer) → ℕ → List Placed → Read A → Type 0
SoundPart Is depth p d ts r = Sound (ReadPart Is depth p d ts) r

pub many-sound : {A : Type 0} (f : ℕ) (Is : A → Type 0) (depth : A → ℕ) (p : A → Printer) (d : ℕ) (goes : List Placed → Bool) (part : Reader A) (ts : List Placed) →
    ((us : List Placed) → goes us ≡ true → Sound (ReadPart Is depth p d us) (part us)) →
    Sound (ReadPart (AreAll Is) (deepest depth) (spelling.each p) d ts) (many f goes part ts)
unfolding many
many-sound zero Is depth p d goes part ts h = tt
many-sound (suc f) Is depth p d goes part ts h =
    sound-if _ (goes ts) _ _
    (λ on. sound-then _ _ (part ts) _ (h ts on) (λ x us rx.
    sound-then _ _ (many f goes part us) _ (many-sound f Is depth p d goes part us h) (λ xs vs rxs.
    record {
      leveled = leveled.AreAll.cons rx.leveled rxs.leveled;
      shallow = omega (arith, rx.shallow, rxs.shallow);
      takes = λ ps g. rx.takes _ (rxs.takes ps g);
    })))
    (λ _. record { leveled = leveled.AreAll.nil; shallow = omega arith; takes = λ ps g. g })

-- a part behind a comma
pub comma-sound : {A : Type 0} (Is : A → Type 0) (depth : A → ℕ) (p : A → Printer) (d : ℕ) (ts : List Placed) (r : Read A) →
    begins (kind.Punct puncts.Comma) ts ≡ true → Sound (ReadPart Is depth p d (after ts)) r →
    Sound (ReadPart Is depth (λ y. spelling.punct puncts.Comma ⨾ p y) d ts) r
comma-sound Is depth p d ts (got x rest) comma rx = record {
  leveled = rx.leveled;
  shallow = rx.shallow;
  takes = λ ps g. begins-bare (kind.Punct puncts.Comma) ts comma _ (rx.takes ps g);
}
comma-sound Is depth p d ts (fails rest) comma h = tt

pub list_of-sound : {A : Type 0} (Is : A → Type 0) (depth : A → ℕ) (p : A → Printer) (d : ℕ) (part : Reader A) (ts : List Placed) →
    ((us : List Placed) → Sound (ReadPart Is depth p d us) (part us)) →
    Sound (ReadPart (AreListed Is) (deepest depth) (spelling.listed p) d ts) (list_of part ts)
unfolding list_of
list_of-sound Is depth p d part ts h =
    sound-then _ _ (part ts) _ (h ts) (λ x us rx.
    sound-then _ _ (commas (suc (length us)) part us) _
    (many-sound (suc (length us)) Is depth (λ y. spelling.punct puncts.Comma ⨾ p y) d (begins (kind.Punct puncts.Comma)) (λ vs. part (after vs)) us
    (λ vs comma. comma-sound Is depth p d vs (part (after vs)) comma (h (after vs)))) (λ xs vs rxs.
    record {
      leveled = leveled.AreListed.listed rx.leveled rxs.leveled;
      shallow = omega (arith, rx.shallow, rxs.shallow);
      takes = λ ps g. rx.takes _ (rxs.takes ps g);
    }))

-- names and targets
pub name-sound : (ts : List Placed) → Sound (Spelled spelling.name ts) (name ts)
unfolding name
name-sound [] = tt
name-sound (placed (kind.Name n) m ∷ ts) = λ ps f. means.marked f
name-sound (placed (kind.Number n) m ∷ ts) = tt
name-sound (placed (kind.Wide n) m ∷ ts) = tt
name-sound (placed (kind.Punct p) m ∷ ts) = tt
name-sound (placed (kind.Key k) m ∷ ts) = tt
name-sound (placed kind.PragmaStart m ∷ ts) = tt
name-sound (placed kind.PragmaEnd m ∷ ts) = tt

pub target-sound : (d : ℕ) (b : Option Readers) (ts : List Placed) → SoundBelow d b → Sound (ReadTarget d ts) (target b ts)
unfolding target
target-sound d b ts h = sound-then _ _ (name ts) _ (name-sound ts) (λ n us rn. target_of-sound d b n us ts h rn)

-- declarators
pub size-sound : (d : ℕ) (b : Option Readers) (ts : List Placed) → SoundBelow d b →
    Sound (ReadPart (IsOptional IsIndex) index_depth (spelling.optional spelling.index) d ts) (size b ts)
unfolding size
size-sound d b ts h =
    sound-if _ (begins (kind.Punct puncts.OpenBracket) ts) _ _
    (λ opens. sound-then _ _ (index b ts) _ (index-sound d b ts h opens) (λ i us ri.
    record { leveled = leveled.IsOptional.present (leveled.IsIndex.index {m = i.mark} ri.leveled); shallow = ri.shallow; takes = ri.takes }))
    (λ _. record { leveled = leveled.IsOptional.absent; shallow = omega arith; takes = λ ps g. g })

pub value-sound : (d : ℕ) (b : Option Readers) (ts : List Placed) → SoundBelow d b →
    Sound (ReadPart (IsOptional IsExpr) value_depth (spelling.optional spelling.first_value) d ts) (value b ts)
unfolding value
value-sound d b ts h =
    sound-if _ (begins (kind.Punct puncts.Set) ts) _ _
    (λ sets. sound-deeper _ d b ts _ h (λ r s. sound-then _ _ (r.expr (after ts)) _ (s.expr (after ts)) (λ e us re.
    record {
      leveled = leveled.IsOptional.present re.leveled;
      shallow = re.shallow;
      takes = λ ps g. begins-bare (kind.Punct puncts.Set) ts sets _ (re.takes ps g);
    })))
    (λ _. record { leveled = leveled.IsOptional.absent; shallow = omega arith; takes = λ ps g. g })

pub attribute-sound : (ts : List Placed) → Sound (Spelled spelling.attribute ts) (attribute ts)
unfolding attribute
attribute-sound ts =
    sound-if _ (begins (kind.Key keys.Attribute) ts) _ _
    (λ word. sound-then _ _ (expect (kind.Punct puncts.OpenParen) (after ts)) _ (expect-sound _ (after ts)) (λ _ t1 e1.
    sound-then _ _ (expect (kind.Punct puncts.OpenParen) t1) _ (expect-sound _ t1) (λ _ t2 e2.
    sound-then _ _ (expect (kind.Name stream_id) t2) _ (expect-sound _ t2) (λ _ t3 e3.
    sound-then _ _ (expect (kind.Punct puncts.CloseParen) t3) _ (expect-sound _ t3) (λ _ t4 e4.
    sound-then _ _ (expect (kind.Punct puncts.CloseParen) t4) _ (expect-sound _ t4) (λ _ t5 e5.
    λ ps g. begins-bare (kind.Key keys.Attribute) ts word _ (e1.plain _ (e2.plain _ (e3.plain _ (e4.plain _ (e5.plain ps g)))))))))))
    (λ _ ps g. g)

pub present-is : {A : Type 0} {P : A → Type 0} {x : A} → IsOptional P (Some x) → P x
present-is (leveled.IsOptional.present p) = p

abbrev pub Sizes : ℕ → List Placed → Option IndexTree → List Placed → Type 0
Sizes d = ReadPart (IsOptional IsIndex) index_depth (spelling.optional spelling.index) d

pub declarator_by-sound : (d : ℕ) (b : Option Readers) (n : Name) (s : Option IndexTree) (a : Bool) (ts t1 t2 t3 : List Placed) → SoundBelow d b →
    Takes (spelling.name n) ts t1 → Sizes d t1 s t2 → Takes (spelling.attribute a) t2 t3 →
    Sound (ReadPart IsDeclarator declarator_depth spelling.declarator d ts) (declarator_by b n s a t3)
declarator_by-sound d b n (Some i) true ts t1 t2 t3 h rn rs ra =
    record { leveled = leveled.IsDeclarator.stream rs.leveled; shallow = omega (arith, rs.shallow); takes = λ ps g. rn _ (rs.takes _ (ra ps g)) }
declarator_by-sound d b n (Some i) false ts t1 t2 t3 h rn rs ra =
    record { leveled = leveled.IsDeclarator.sized (present-is rs.leveled); shallow = omega (arith, rs.shallow); takes = λ ps g. rn _ (rs.takes _ (ra ps g)) }
declarator_by-sound d b n None true ts t1 t2 t3 h rn rs ra =
    record { leveled = leveled.IsDeclarator.stream rs.leveled; shallow = omega (arith, rs.shallow); takes = λ ps g. rn _ (rs.takes _ (ra ps g)) }
declarator_by-sound d b n None false ts t1 t2 t3 h rn rs ra =
    sound-then _ _ (value b t3) _ (value-sound d b t3 h) (λ v t4 rv.
    record { leveled = leveled.IsDeclarator.scalar rv.leveled; shallow = omega (arith, rv.shallow); takes = λ ps g. rn _ (rs.takes _ (ra _ (rv.takes ps g))) })

pub declarator-sound : (d : ℕ) (b : Option Readers) (ts : List Placed) → SoundBelow d b →
    Sound (ReadPart IsDeclarator declarator_depth spelling.declarator d ts) (declarator b ts)
unfolding declarator
declarator-sound d b ts h =
    sound-then _ _ (name ts) _ (name-sound ts) (λ n t1 rn.
    sound-then _ _ (size b t1) _ (size-sound d b t1 h) (λ s t2 rs.
    sound-then _ _ (attribute t2) _ (attribute-sound t2) (λ a t3 ra.
    declarator_by-sound d b n s a ts t1 t2 t3 h rn rs ra)))

pub head_declarator-sound : (d : ℕ) (b : Option Readers) (ts : List Placed) → SoundBelow d b →
    Sound (ReadPart IsHeadDeclarator declarator_depth spelling.declarator d ts) (head_declarator b ts)
unfolding head_declarator
head_declarator-sound d b ts h =
    sound-then _ _ (name ts) _ (name-sound ts) (λ n us rn.
    sound-then _ _ (value b us) _ (value-sound d b us h) (λ v vs rv.
    record { leveled = leveled.IsHeadDeclarator.head rv.leveled; shallow = omega (arith, rv.shallow); takes = λ ps g. rn _ (rv.takes ps g) }))

-- types
pub type-sound : (ts : List Placed) → Sound (Spelled spelling.type_words ts) (type_words ts)
unfolding type_words
type-sound ts =
    sound-if _ (begins (kind.Key keys.Int) ts) _ _
    (λ int ps g. begins-bare (kind.Key keys.Int) ts int ps g)
    (λ _. sound-if _ (begins (kind.Key keys.Unsigned) ts) _ _
    (λ word. sound-if _ (begins (kind.Key keys.Int) (after ts)) _ _
    (λ int ps g. begins-bare (kind.Key keys.Unsigned) ts word _ (begins-bare (kind.Key keys.Int) (after ts) int ps g))
    (λ _ ps g. begins-bare (kind.Key keys.Unsigned) ts word ps g))
    (λ _. tt))

pub declared-sound : (d : ℕ) (b : Option Readers) (ts : List Placed) → SoundBelow d b →
    Sound (ReadPart (AreListed IsDeclarator) (deepest declarator_depth) spelling.declared d ts) (declared b ts)
unfolding declared
declared-sound d b ts h =
    sound-then _ _ (list_of (declarator b) ts) _
    (list_of-sound IsDeclarator declarator_depth spelling.declarator d (declarator b) ts (λ us. declarator-sound d b us h)) (λ ds us rd.
    sound-then _ _ (expect (kind.Punct puncts.Semicolon) us) _ (expect-sound _ us) (λ _ vs semicolon.
    record {
      leveled = rd.leveled;
      shallow = rd.shallow;
      takes = λ ps g. rd.takes _ (semicolon.plain ps g);
    }))

pub head_declared-sound : (d : ℕ) (b : Option Readers) (ts : List Placed) → SoundBelow d b →
    Sound (ReadPart (AreListed IsHeadDeclarator) (deepest declarator_depth) spelling.declared d ts) (head_declared b ts)
unfolding head_declared
head_declared-sound d b ts h =
    sound-then _ _ (list_of (head_declarator b) ts) _
    (list_of-sound IsHeadDeclarator declarator_depth spelling.declarator d (head_declarator b) ts (λ us. head_declarator-sound d b us h)) (λ ds us rd.
    sound-then _ _ (expect (kind.Punct puncts.Semicolon) us) _ (expect-sound _ us) (λ _ vs semicolon.
    record {
      leveled = rd.leveled;
      shallow = rd.shallow;
      takes = λ ps g. rd.takes _ (semicolon.plain ps g);
    }))

-- changes
pub data ChangeSigns : Kind → ChangeSign → Type 0 where
  a_set : (a : Assign) → IsAssign a → ChangeSigns (kind.Punct (assign_mark a)) (signs.Assign a)
  a_step : (s : Step) → ChangeSigns (kind.Punct (step_mark s)) (signs.Step s)
  another : {k : Kind} → ChangeSigns k signs.Other

pub punct-changes : (p : Punct) → ChangeSigns (kind.Punct p) (punct_change p)
punct-changes puncts.Set = a_set assign.Plain operators.IsAssign.plain
punct-changes puncts.AddSet = a_set (assign.With binary.Add) (operators.IsAssign.with operators.HasAssigningForm.add)
punct-changes puncts.SubtractSet = a_set (assign.With binary.Subtract) (operators.IsAssign.with operators.HasAssigningForm.subtract)
punct-changes puncts.MultiplySet = a_set (assign.With binary.Multiply) (operators.IsAssign.with operators.HasAssigningForm.multiply)
punct-changes puncts.DivideSet = a_set (assign.With binary.Divide) (operators.IsAssign.with operators.HasAssigningForm.divide)
punct-changes puncts.RemainderSet = a_set (assign.With binary.Remainder) (operators.IsAssign.with operators.HasAssigningForm.remainder)
punct-changes puncts.ShiftLeftSet = a_set (assign.With binary.ShiftLeft) (operators.IsAssign.with operators.HasAssigningForm.shift_left)
punct-changes puncts.ShiftRightSet = a_set (assign.With binary.ShiftRight) (operators.IsAssign.with operators.HasAssigningForm.shift_right)
punct-changes puncts.BitAndSet = a_set (assign.With binary.BitAnd) (operators.IsAssign.with operators.HasAssigningForm.bit_and)
punct-changes puncts.BitOrSet = a_set (assign.With binary.BitOr) (operators.IsAssign.with operators.HasAssigningForm.bit_or)
punct-changes puncts.BitXorSet = a_set (assign.With binary.BitXor) (operators.IsAssign.with operators.HasAssigningForm.bit_xor)
punct-changes puncts.Up = a_step step_of.Up
punct-changes puncts.Down = a_step step_of.Down
punct-changes _ = another

pub kind-changes : (k : Kind) → ChangeSigns k (change_sign k)
kind-changes (kind.Punct p) = punct-changes p
kind-changes (kind.Number n) = another
kind-changes (kind.Wide n) = another
kind-changes (kind.Name n) = another
kind-changes (kind.Key k) = another
kind-changes kind.PragmaStart = another
kind-changes kind.PragmaEnd = another

abbrev pub Changes : ℕ → List Placed → ChangeTree → List Placed → Type 0
Changes d = ReadPart IsChange change_depth spelling.change d

pub change_by-sound : {k : Kind} {c : ChangeSign} (d : ℕ) (b : Option Readers) (t : TargetTree) (m : Mark) (us ts : List Placed) → SoundBelow d b →
    ReadTarget d us t (placed k m ∷ ts) → ChangeSigns k c → Sound (Changes d us) (change_by c b t (placed k m ∷ ts))
change_by-sound d b t m us ts h rt (a_set a is) =
    sound-deeper _ d b (placed _ m ∷ ts) _ h (λ r s. sound-then _ _ (r.expr ts) _ (s.expr ts) (λ e vs re.
    record {
      leveled = leveled.IsChange.set rt.leveled is re.leveled;
      shallow = omega (arith, rt.shallow, re.shallow);
      takes = λ ps g. rt.takes _ (means.marked (re.takes ps g));
    }))
change_by-sound d b t m us ts h rt (a_step s) =
    record { leveled = leveled.IsChange.after rt.leveled; shallow = rt.shallow; takes = λ ps g. rt.takes _ (means.marked g) }
change_by-sound d b t m us ts h rt another = tt

-- the target stands before the tokens
pub change_of-sound : (d : ℕ) (b : Option Readers) (t : TargetTree) (us ts : List Placed) → SoundBelow d b →
    ReadTarget d us t ts → Sound (Changes d us) (change_of b t ts)
unfolding change_of
change_of-sound d b t us [] h rt = tt
change_of-sound d b t us (placed k m ∷ ts) h rt = change_by-sound d b t m us ts h rt (kind-changes k)

pub before-sound : (d : ℕ) (b : Option Readers) (s : Step) (ts : List Placed) → SoundBelow d b → begins (kind.Punct (step_mark s)) ts ≡ true →
    Sound (Changes d ts) (before s b ts)
unfolding before
before-sound d b s ts h is =
    sound-then _ _ (target b (after ts)) _ (target-sound d b (after ts) h) (λ t us rt.
    record {
      leveled = leveled.IsChange.before rt.leveled;
      shallow = rt.shallow;
      takes = λ ps g. begins-marked (kind.Punct (step_mark s)) ts is _ (rt.takes ps g);
    })

-- a part before a semicolon
pub ended-sound : {A B : Type 0} (P : A → List Placed → Type 0) (Q : B → List Placed → Type 0) (r : Read A) (f : A → B) → Sound P r →
    ((x : A) (us vs : List Placed) → P x us → Takes (spelling.punct puncts.Semicolon) us vs → Q (f x) vs) → Sound Q (ended r f)
ended-sound P Q r f h k =
    sound-then P Q r _ h (λ x us rx. sound-then _ _ (expect (kind.Punct puncts.Semicolon) us) _ (expect-sound _ us) (λ _ vs semicolon.
    k x us vs rx semicolon.plain))

-- clauses
abbrev pub Joins : Punct → ℕ → List Placed → JoinTree → List Placed → Type 0
Joins arrow d = ReadPart (λ j. IsOptional IsIndex j.burst) (λ j. index_depth j.burst) (spelling.join arrow) d

pub join-sound : (arrow : Punct) (d : ℕ) (b : Option Readers) (ts : List Placed) → SoundBelow d b → begins (kind.Punct arrow) ts ≡ true →
    Sound (Joins arrow d ts) (join b ts)
unfolding join
join-sound arrow d b ts h is =
    sound-then _ _ (name (after ts)) _ (name-sound (after ts)) (λ n us rn.
    sound-then _ _ (size b us) _ (size-sound d b us h) (λ i vs ri.
    record { leveled = ri.leveled; shallow = ri.shallow; takes = λ ps g. begins-marked (kind.Punct arrow) ts is _ (rn _ (ri.takes ps g)) }))

abbrev pub Items : Punct → ℕ → List Placed → ClauseItemTree → List Placed → Type 0
Items arrow d = ReadPart IsClauseItem clause_item_depth (spelling.clause_item arrow) d

pub alone-sound : (arrow : Punct) (d : ℕ) (t : TargetTree) (ts us : List Placed) → ReadTarget d ts t us → Sound (Items arrow d ts) (alone t us)
alone-sound arrow d (tree.Variable n) ts us rt = record { leveled = leveled.IsClauseItem.alone; shallow = omega arith; takes = rt.takes }
alone-sound arrow d (tree.Element n m e) ts us rt = tt

pub clause_item-sound : (arrow : Punct) (d : ℕ) (b : Option Readers) (ts : List Placed) → SoundBelow d b → Sound (Items arrow d ts) (clause_item arrow b ts)
unfolding clause_item
clause_item-sound arrow d b ts h =
    sound-then _ _ (target b ts) _ (target-sound d b ts h) (λ t us rt.
    sound-if _ (begins (kind.Punct arrow) us) _ _
    (λ is. sound-then _ _ (join b us) _ (join-sound arrow d b us h is) (λ j vs rj.
    record {
      leveled = leveled.IsClauseItem.joined {m = j.mark} {n = j.name} {burst = j.burst} rt.leveled rj.leveled;
      shallow = omega (arith, rt.shallow, rj.shallow);
      takes = λ ps g. rt.takes _ (rj.takes ps g);
    }))
    (λ _. alone-sound arrow d t ts us rt))

pub in_parens-sound : {A : Type 0} (Is : A → Type 0) (depth : A → ℕ) (p : A → Printer) (d : ℕ) (part : Reader A) (ts : List Placed) →
    ((us : List Placed) → Sound (ReadPart Is depth p d us) (part us)) →
    Sound (ReadPart (AreListed Is) (deepest depth) (λ xs. spelling.in_parens (spelling.listed p xs)) d ts) (in_parens part ts)
unfolding in_parens
in_parens-sound Is depth p d part ts h =
    sound-then _ _ (expect (kind.Punct puncts.OpenParen) ts) _ (expect-sound _ ts) (λ _ us opens.
    sound-then _ _ (list_of part us) _ (list_of-sound Is depth p d part us h) (λ xs vs rxs.
    sound-then _ _ (expect (kind.Punct puncts.CloseParen) vs) _ (expect-sound _ vs) (λ _ ws closes.
    record { leveled = rxs.leveled; shallow = rxs.shallow; takes = λ ps g. opens.plain _ (rxs.takes _ (closes.plain ps g)) })))

-- a name, as a part
pub data IsName : Name → Type 0 where
  a_name : {n : Name} → IsName n

unfoldable pub no_depth : Name → ℕ
no_depth n = 0

pub name-part : (d : ℕ) (ts : List Placed) (r : Read Name) → Sound (Spelled spelling.name ts) r → Sound (ReadPart IsName no_depth spelling.name d ts) r
unfolding no_depth
name-part d ts (got n rest) h = record { leveled = a_name; shallow = omega arith; takes = h }
name-part d ts (fails rest) h = tt

pub firstprivate-is : {ns : List Name} → AreListed IsName ns → IsClauseKind (tree.Firstprivate ns)
firstprivate-is (leveled.AreListed.listed x xs) = leveled.IsClauseKind.firstprivate

pub clause_kind-sound : (d : ℕ) (b : Option Readers) (ts : List Placed) → SoundBelow d b →
    Sound (ReadPart IsClauseKind clause_kind_depth spelling.clause_kind d ts) (clause_kind b ts)
unfolding clause_kind
clause_kind-sound d b ts h =
    sound-if _ (begins (kind.Name input_id) ts) _ _
    (λ word. sound-then _ _ (in_parens (clause_item puncts.ShiftRight b) (after ts)) _
    (in_parens-sound IsClauseItem clause_item_depth (spelling.clause_item puncts.ShiftRight) d (clause_item puncts.ShiftRight b) (after ts) (λ us. clause_item-sound puncts.ShiftRight d b us h)) (λ xs us rxs.
    record { leveled = leveled.IsClauseKind.input rxs.leveled; shallow = rxs.shallow; takes = λ ps g. begins-bare (kind.Name input_id) ts word _ (rxs.takes ps g) }))
    (λ _. sound-if _ (begins (kind.Name output_id) ts) _ _
    (λ word. sound-then _ _ (in_parens (clause_item puncts.ShiftLeft b) (after ts)) _
    (in_parens-sound IsClauseItem clause_item_depth (spelling.clause_item puncts.ShiftLeft) d (clause_item puncts.ShiftLeft b) (after ts) (λ us. clause_item-sound puncts.ShiftLeft d b us h)) (λ xs us rxs.
    record { leveled = leveled.IsClauseKind.output rxs.leveled; shallow = rxs.shallow; takes = λ ps g. begins-bare (kind.Name output_id) ts word _ (rxs.takes ps g) }))
    (λ _. sound-if _ (begins (kind.Name firstprivate_id) ts) _ _
    (λ word. sound-then _ _ (in_parens name (after ts)) _
    (in_parens-sound IsName no_depth spelling.name d name (after ts) (λ us. name-part d us (name us) (name-sound us))) (λ xs us rxs.
    record { leveled = firstprivate-is rxs.leveled; shallow = omega arith; takes = λ ps g. begins-bare (kind.Name firstprivate_id) ts word _ (rxs.takes ps g) }))
    (λ _. tt)))

abbrev pub ReadClause : ℕ → List Placed → ClauseTree → List Placed → Type 0
ReadClause d = ReadPart IsClause clause_depth spelling.clause d

pub clause-sound : (d : ℕ) (b : Option Readers) (ts : List Placed) → SoundBelow d b → Sound (ReadClause d ts) (clause b ts)
unfolding clause
clause-sound d b ts h =
    sound-if _ (begins (kind.Punct puncts.Comma) ts) _ _
    (λ comma. sound-then _ _ (clause_kind b (after ts)) _ (clause_kind-sound d b (after ts) h) (λ k us rk.
    record { leveled = leveled.IsClause.clause rk.leveled; shallow = rk.shallow; takes = λ ps g. begins-bare (kind.Punct puncts.Comma) ts comma _ (rk.takes ps g) }))
    (λ _. sound-then _ _ (clause_kind b ts) _ (clause_kind-sound d b ts h) (λ k us rk.
    record { leveled = leveled.IsClause.clause rk.leveled; shallow = rk.shallow; takes = rk.takes }))

abbrev pub IsFirst : ClauseTree → Type 0
IsFirst c = (c.comma ≡ false) × IsClauseKind c.kind

pub first_clause-sound : (d : ℕ) (b : Option Readers) (ts : List Placed) → SoundBelow d b →
    Sound (ReadPart IsFirst clause_depth spelling.clause d ts) (first_clause b ts)
unfolding first_clause
first_clause-sound d b ts h =
    sound-then _ _ (clause_kind b ts) _ (clause_kind-sound d b ts h) (λ k us rk.
    record { leveled = (refl, rk.leveled); shallow = rk.shallow; takes = rk.takes })

pub are-clauses : (comma : Bool) (k : ClauseKindTree) (cs : List ClauseTree) → comma ≡ false → IsClauseKind k → AreAll IsClause cs →
    AreClauses (record { comma = comma; kind = k } ∷ cs)
are-clauses false k cs e is all = leveled.AreClauses.clauses is all
are-clauses true k cs e is all = absurd (cc e)

pub clauses-sound : (d : ℕ) (b : Option Readers) (ts : List Placed) → SoundBelow d b →
    Sound (ReadPart AreClauses (deepest clause_depth) (spelling.each spelling.clause) d ts) (clauses b ts)
unfolding clauses some_clauses
clauses-sound d b ts h =
    sound-if _ (begins kind.PragmaEnd ts) _ _
    (λ _. record { leveled = leveled.AreClauses.no_clauses; shallow = omega arith; takes = λ ps g. g })
    (λ _. sound-then _ _ (first_clause b ts) _ (first_clause-sound d b ts h) (λ c us rc.
    sound-then _ _ (many (suc (length us)) line_goes_on (clause b) us) _
    (many-sound (suc (length us)) IsClause clause_depth spelling.clause d line_goes_on (clause b) us (λ vs _. clause-sound d b vs h)) (λ cs vs rcs.
    record {
      leveled = are-clauses c.comma c.kind cs rc.leveled.0 rc.leveled.1 rcs.leveled;
      shallow = omega (arith, rc.shallow, rcs.shallow);
      takes = λ ps g. rc.takes _ (rcs.takes ps g);
    })))
