-- Where an expression is refused, one begins with all tokens before.
use Rattle.std.proofs.Common.{◌≡◌, ℕ, zero, suc, ◌-◌, ◌≤◌, ◌<◌, Bool, true, false, List, [], ◌∷◌, Option, Some, None, cond, length, nat_eq, append_assoc, refl, sym, subst, arith}
use Rattle.os_ast.proofs.Prints.{Prints, prints_expr}
use Rattle.os_ast.specs.Depth.{expr_depth, target_depth, args_depth, links_depth}
use Rattle.os_ast.specs.Leveled as leveled
use Rattle.os_ast.specs.Leveled.{IsExpr, AreLinks, AreArgs, IsTarget, level}
use Rattle.os_ast.specs.Means as means
use Rattle.os_ast.specs.Means.{Placed, placed, Fit}
use Rattle.os_ast.specs.Operators.{precedence, binary_mark, unary_mark}
use Rattle.os_ast.specs.Spelling as spelling
use Rattle.os_ast.specs.Spelling.{Symbol, Printer, bare, marked, ◌⨾◌}
use Rattle.os_ast.specs.Trees as tree
use Rattle.os_ast.specs.Trees.{ExprTree, TargetTree, IndexTree, Args, Links}
use Rattle.os_ast.specs.declared.expr.Binary.{Binary}
use Rattle.os_ast.specs.declared.expr.Mark.{Mark}
use Rattle.os_ast.specs.declared.expr.Name.{Name}
use Rattle.os_ast.specs.declared.expr.Unary.{Unary}
use Rattle.os_lexer.specs.declared.token.Kind.{Kind}
use Rattle.os_lexer.specs.declared.token.Kind.TheVariants as kind
use Rattle.os_lexer.specs.declared.token.Punct.TheVariants as puncts
use Rattle.os_parser_grammar.specs.Expressions.{Readers, deeper, index, target_of, more_args, some_args, args, named, paren, sign, operand_by, operand, at_operator, links, linked, chains, branches, expr_on, below}
use Rattle.os_parser_grammar.specs.Operands.{operator_at, level_at, op_precedence, of_precedence}
use Rattle.os_parser_grammar.specs.Reading.{Read, Reader, got, fails, after, mark_at, begins}
use Rattle.os_parser_grammar.specs.declared.operand_start.OperandStart.{OperandStart}
use Rattle.os_parser_grammar.proofs.SameKinds.{same-self}
use Rattle.os_parser_grammar.proofs.Sound.{Takes}
use Rattle.os_parser_grammar.proofs.SoundExprs.{ReadExpr, ReadTarget, ReadIndex, ReadArgs, ReadLinks, SoundReaders, SoundBelow, in_parens, index-sound, target_of-sound, more_args-sound, some_args-sound, args-sound, operand-sound, below-sound, Starts, a_number, a_wide, a_name, a_paren, a_sign, another, kind-starts, Operators, some, none, kind-operators, Operator, operator-level, SoundReader, links-sound, precedence-level_at, chains-sound}
use Rattle.os_parser_completions.proofs.Opens.{OpensAll, here, takes-opens, prints_token, prints_mark, opens-bare, opens-marked, Refused, refused-then, refused-if, refused-expect}

-- an expression of at least a level and at most a depth, which the tokens up to the rest begin
pub record BegunExpr (n d : ℕ) (ts rest : List Placed) : Type 0 where
  pub whole : ExprTree
  pub leveled : IsExpr whole
  pub above : n ≤ level whole
  pub shallow : expr_depth whole ≤ d
  pub opens : OpensAll (spelling.expr whole) ts rest

pub record BegunTarget (d : ℕ) (ts rest : List Placed) : Type 0 where
  pub whole : TargetTree
  pub leveled : IsTarget whole
  pub shallow : target_depth whole ≤ d
  pub opens : OpensAll (spelling.target whole) ts rest

pub record BegunIndex (d : ℕ) (ts rest : List Placed) : Type 0 where
  pub whole : IndexTree
  pub leveled : IsExpr whole.value
  pub shallow : expr_depth whole.value ≤ d
  pub opens : OpensAll (spelling.index whole) ts rest

pub record BegunArgs (p : Args → Printer) (d : ℕ) (ts rest : List Placed) : Type 0 where
  pub whole : Args
  pub leveled : AreArgs whole
  pub shallow : args_depth whole ≤ d
  pub opens : OpensAll (p whole) ts rest

pub record BegunLinks (r d : ℕ) (ts rest : List Placed) : Type 0 where
  pub whole : Links
  pub leveled : AreLinks (level_at r) whole
  pub shallow : links_depth whole ≤ d
  pub opens : OpensAll (spelling.links whole) ts rest

-- readers of expressions of at most a depth
pub record BegunReaders (d : ℕ) (r : Readers) : Type 0 where
  pub one : 1 ≤ d
  pub sound : SoundReaders d r
  pub expr : (ts : List Placed) → Refused (BegunExpr 0 d ts) (r.expr ts)
  pub operand : (ts : List Placed) → Refused (BegunExpr 11 d ts) (r.operand ts)

abbrev pub BegunBelow : ℕ → Option Readers → Type 0
BegunBelow d None = Unit {0}
BegunBelow d (Some r) = BegunReaders d r

pub sound-below : (d : ℕ) (b : Option Readers) → BegunBelow d b → SoundBelow d b
sound-below d None h = tt
sound-below d (Some r) h = h.sound

pub refused-deeper : {A : Type 0} (G : List Placed → Type 0) (d : ℕ) (b : Option Readers) (ts : List Placed) (f : Readers → Read A) →
    BegunBelow d b → G ts → ((r : Readers) → BegunReaders d r → Refused G (f r)) → Refused G (deeper b ts f)
refused-deeper G d None ts f h g k = g
refused-deeper G d (Some r) ts f h g k = k r h

-- a number, where nothing of the expression stands yet
pub leaf : (n d : ℕ) (ts : List Placed) → n ≤ 12 → 1 ≤ d → BegunExpr n d ts ts
leaf n d ts h one = record { whole = tree.Number 0; leveled = leveled.number (omega arith); above = h; shallow = one; opens = λ ps. here }

pub index-refused : (d : ℕ) (r : Readers) (ts : List Placed) → BegunReaders d r → begins (kind.Punct puncts.OpenBracket) ts ≡ true →
    Refused (BegunIndex d ts) (index (Some r) ts)
unfolding index
index-refused d r ts h opens =
    refused-then (ReadExpr 0 d (after ts)) (BegunExpr 0 d (after ts)) _ (r.expr (after ts)) _ (h.sound.expr (after ts)) (h.expr (after ts))
    (λ rest b. record {
      whole = record { mark = mark_at ts; value = b.whole };
      leveled = b.leveled;
      shallow = b.shallow;
      opens = λ ps. opens-marked (kind.Punct puncts.OpenBracket) ts opens (b.opens _);
    })
    (λ e us re. refused-expect (kind.Punct puncts.CloseBracket) _ us _
    (record {
      whole = record { mark = mark_at ts; value = e };
      leveled = re.leveled;
      shallow = re.shallow;
      opens = λ ps. opens-marked (kind.Punct puncts.OpenBracket) ts opens (takes-opens (spelling.expr e) (prints_expr e) re.takes here);
    })
    (λ m vs close. tt))

-- the name stands before the tokens
pub target_of-refused : (d : ℕ) (b : Option Readers) (n : Name) (ts us : List Placed) → BegunBelow d b →
    Takes (spelling.name n) us ts → Refused (BegunTarget d us) (target_of b n ts)
unfolding target_of index
target_of-refused d None n ts us h name =
    refused-if _ (begins (kind.Punct puncts.OpenBracket) ts) _ _
    (λ opens. record {
      whole = tree.Variable n;
      leveled = leveled.variable;
      shallow = omega arith;
      opens = λ ps. takes-opens (spelling.name n) prints_mark name here;
    })
    (λ _. tt)
target_of-refused d (Some r) n ts us h name =
    refused-if _ (begins (kind.Punct puncts.OpenBracket) ts) _ _
    (λ opens. refused-then (ReadIndex d ts) (BegunIndex d ts) _ (index (Some r) ts) _ (index-sound d (Some r) ts h.sound opens) (index-refused d r ts h opens)
    (λ rest b. record {
      whole = tree.Element n b.whole.mark b.whole.value;
      leveled = leveled.element b.leveled;
      shallow = b.shallow;
      opens = λ ps. takes-opens (spelling.name n) prints_mark name (b.opens ps);
    })
    (λ i vs ri. tt))
    (λ _. tt)

pub more_args-refused : (f d : ℕ) (r : Readers) (ts : List Placed) → BegunReaders d r →
    Refused (BegunArgs spelling.more_args d ts) (more_args f r ts)
unfolding more_args
more_args-refused zero d r ts h = record { whole = tree.no_args; leveled = leveled.no_args; shallow = omega arith; opens = λ ps. here }
more_args-refused (suc f) d r ts h =
    refused-if _ (begins (kind.Punct puncts.Comma) ts) _ _
    (λ comma. refused-then (ReadExpr 0 d (after ts)) (BegunExpr 0 d (after ts)) _ (r.expr (after ts)) _ (h.sound.expr (after ts)) (h.expr (after ts))
    (λ rest b. record {
      whole = tree.arg b.whole tree.no_args;
      leveled = leveled.arg b.leveled leveled.no_args;
      shallow = omega (arith, b.shallow);
      opens = λ ps. opens-bare (kind.Punct puncts.Comma) ts comma (b.opens ps);
    })
    (λ e us re. refused-then (ReadArgs spelling.more_args d us) (BegunArgs spelling.more_args d us) _ (more_args f r us) _
    (more_args-sound f d r us h.sound) (more_args-refused f d r us h)
    (λ rest b. record {
      whole = tree.arg e b.whole;
      leveled = leveled.arg re.leveled b.leveled;
      shallow = omega (arith, re.shallow, b.shallow);
      opens = λ ps. opens-bare (kind.Punct puncts.Comma) ts comma (takes-opens (spelling.expr e) (prints_expr e) re.takes (b.opens ps));
    })
    (λ es vs res. tt)))
    (λ _. tt)

pub some_args-refused : (d : ℕ) (r : Readers) (ts : List Placed) → BegunReaders d r →
    Refused (BegunArgs spelling.args d ts) (some_args r ts)
unfolding some_args
some_args-refused d r ts h =
    refused-then (ReadExpr 0 d ts) (BegunExpr 0 d ts) _ (r.expr ts) _ (h.sound.expr ts) (h.expr ts)
    (λ rest b. record {
      whole = tree.arg b.whole tree.no_args;
      leveled = leveled.arg b.leveled leveled.no_args;
      shallow = omega (arith, b.shallow);
      opens = b.opens;
    })
    (λ e us re. refused-then (ReadArgs spelling.more_args d us) (BegunArgs spelling.more_args d us) _ (more_args (suc (length us)) r us) _
    (more_args-sound (suc (length us)) d r us h.sound) (more_args-refused (suc (length us)) d r us h)
    (λ rest b. record {
      whole = tree.arg e b.whole;
      leveled = leveled.arg re.leveled b.leveled;
      shallow = omega (arith, re.shallow, b.shallow);
      opens = λ ps. takes-opens (spelling.expr e) (prints_expr e) re.takes (b.opens ps);
    })
    (λ es vs res. tt))

pub two-prints : (p q : Printer) → Prints p → Prints q → Prints (λ ps. p (q ps))
two-prints p q a b = record {
  in_front = λ rest. rw (a.in_front (q rest), a.in_front (q []), b.in_front rest) (sym (append_assoc (p []) (q []) rest));
}

mutual
  pub prints_args : (es : Args) → Prints (spelling.args es)
  prints_args tree.no_args = record { in_front = λ rest. refl }
  prints_args (tree.arg e es) = two-prints (spelling.expr e) (spelling.more_args es) (prints_expr e) (prints_more_args es)

  pub prints_more_args : (es : Args) → Prints (spelling.more_args es)
  prints_more_args tree.no_args = record { in_front = λ rest. refl }
  prints_more_args (tree.arg e es) =
      two-prints (spelling.punct puncts.Comma) (λ ps. spelling.expr e (spelling.more_args es ps)) prints_token
      (two-prints (spelling.expr e) (spelling.more_args es) (prints_expr e) (prints_more_args es))

pub args-refused : (d : ℕ) (b : Option Readers) (ts : List Placed) → BegunBelow d b →
    begins (kind.Punct puncts.OpenParen) ts ≡ true → Refused (BegunArgs in_parens d ts) (args b ts)
unfolding args
args-refused d b ts h opens =
    refused-if _ (begins (kind.Punct puncts.CloseParen) (after ts)) _ _
    (λ close. tt)
    (λ _. refused-deeper _ d b (after ts) _ h
    (record { whole = tree.no_args; leveled = leveled.no_args; shallow = omega arith; opens = λ ps. opens-bare (kind.Punct puncts.OpenParen) ts opens here })
    (λ r g. refused-then (ReadArgs spelling.args d (after ts)) (BegunArgs spelling.args d (after ts)) _ (some_args r (after ts)) _
    (some_args-sound d r (after ts) g.sound) (some_args-refused d r (after ts) g)
    (λ rest b. record {
      whole = b.whole;
      leveled = b.leveled;
      shallow = b.shallow;
      opens = λ ps. opens-bare (kind.Punct puncts.OpenParen) ts opens (b.opens _);
    })
    (λ es us res. refused-expect (kind.Punct puncts.CloseParen) _ us _
    (record {
      whole = es;
      leveled = res.leveled;
      shallow = res.shallow;
      opens = λ ps. opens-bare (kind.Punct puncts.OpenParen) ts opens (takes-opens (spelling.args es) (prints_args es) res.takes here);
    })
    (λ m vs close. tt))))

pub named-refused : (d : ℕ) (b : Option Readers) (n : Name) (ts us : List Placed) → BegunBelow d b →
    Takes (spelling.name n) us ts → Refused (BegunExpr 12 (suc d) us) (named b n ts)
unfolding named
named-refused d b n ts us h name =
    refused-if _ (begins (kind.Punct puncts.OpenParen) ts) _ _
    (λ opens. refused-then (ReadArgs in_parens d ts) (BegunArgs in_parens d ts) _ (args b ts) _ (args-sound d b ts (sound-below d b h) opens) (args-refused d b ts h opens)
    (λ rest x. record {
      whole = tree.ExprTree.Call n x.whole;
      leveled = leveled.IsExpr.call x.leveled;
      above = omega arith;
      shallow = omega (arith, x.shallow);
      opens = λ ps. takes-opens (spelling.name n) prints_mark name (x.opens ps);
    })
    (λ es vs res. tt))
    (λ _. refused-then (ReadTarget d us) (BegunTarget d us) _ (target_of b n ts) _ (target_of-sound d b n ts us (sound-below d b h) name) (target_of-refused d b n ts us h name)
    (λ rest x. record {
      whole = tree.Place x.whole;
      leveled = leveled.place x.leveled;
      above = omega arith;
      shallow = omega (arith, x.shallow);
      opens = x.opens;
    })
    (λ t vs rt. tt))

paren-refused : (d : ℕ) (b : Option Readers) (ts : List Placed) → BegunBelow d b →
    begins (kind.Punct puncts.OpenParen) ts ≡ true → Refused (BegunExpr 11 (suc d) ts) (paren b ts)
unfolding paren
paren-refused d b ts h opens =
    refused-deeper _ d b ts _ h (leaf 11 (suc d) ts (omega arith) (omega arith))
    (λ r g. refused-then (ReadExpr 0 d (after ts)) (BegunExpr 0 d (after ts)) _ (r.expr (after ts)) _ (g.sound.expr (after ts)) (g.expr (after ts))
    (λ rest x. record {
      whole = tree.Paren x.whole;
      leveled = leveled.paren x.leveled;
      above = omega arith;
      shallow = omega (arith, x.shallow);
      opens = λ ps. opens-bare (kind.Punct puncts.OpenParen) ts opens (x.opens _);
    })
    (λ e us re. refused-expect (kind.Punct puncts.CloseParen) _ us _
    (record {
      whole = tree.Paren e;
      leveled = leveled.paren re.leveled;
      above = omega arith;
      shallow = omega (arith, re.shallow);
      opens = λ ps. opens-bare (kind.Punct puncts.OpenParen) ts opens (takes-opens (spelling.expr e) (prints_expr e) re.takes here);
    })
    (λ m vs close. tt)))

sign-refused : (op : Unary) (d : ℕ) (b : Option Readers) (ts : List Placed) → BegunBelow d b →
    begins (kind.Punct (unary_mark op)) ts ≡ true → Refused (BegunExpr 11 (suc d) ts) (sign op b ts)
unfolding sign
sign-refused op d b ts h opens =
    refused-deeper _ d b ts _ h (leaf 11 (suc d) ts (omega arith) (omega arith))
    (λ r g. refused-then (ReadExpr 11 d (after ts)) (BegunExpr 11 d (after ts)) _ (r.operand (after ts)) _ (g.sound.operand (after ts)) (g.operand (after ts))
    (λ rest x. record {
      whole = tree.Unary op (mark_at ts) x.whole;
      leveled = leveled.unary x.leveled x.above;
      above = omega arith;
      shallow = omega (arith, x.shallow);
      opens = λ ps. opens-marked (kind.Punct (unary_mark op)) ts opens (x.opens ps);
    })
    (λ e us re. tt))

refused-weaker : (d : ℕ) (ts : List Placed) (r : Read ExprTree) → Refused (BegunExpr 12 d ts) r → Refused (BegunExpr 11 d ts) r
refused-weaker d ts (got e rest) x = tt
refused-weaker d ts (fails rest) x =
    record { whole = x.whole; leveled = x.leveled; above = omega (arith, x.above); shallow = x.shallow; opens = x.opens }

operand-begun : {k : Kind} {st : OperandStart} (d : ℕ) (b : Option Readers) (m : Mark) (ts : List Placed) → BegunBelow d b → Starts k st →
    Refused (BegunExpr 11 (suc d) (placed k m ∷ ts)) (operand_by st b (placed k m ∷ ts))
unfolding operand_by
operand-begun d b m ts h (a_number n small) = tt
operand-begun d b m ts h (a_wide n fits) = tt
operand-begun d b m ts h (a_name n) =
    refused-weaker _ _ (named b (record { id = n; mark = m }) ts) (named-refused d b (record { id = n; mark = m }) ts _ h (λ ps f. means.marked f))
operand-begun d b m ts h a_paren = paren-refused d b _ h (same-self (kind.Punct puncts.OpenParen))
operand-begun d b m ts h (a_sign op) = sign-refused op d b _ h (same-self (kind.Punct (unary_mark op)))
operand-begun d b m ts h another = leaf 11 (suc d) _ (omega arith) (omega arith)

pub operand-refused : (d : ℕ) (b : Option Readers) (ts : List Placed) → BegunBelow d b → Refused (BegunExpr 11 (suc d) ts) (operand b ts)
unfolding operand operand_by
operand-refused d b [] h = leaf 11 (suc d) [] (omega arith) (omega arith)
operand-refused d b (placed k m ∷ ts) h = operand-begun d b m ts h (kind-starts k)

-- where an operator of a precedence stands
of_precedence-refused : {A : Type 0} (G : List Placed → Type 0) (r : ℕ) (op : Binary) (f : Binary → Read A) (n : Read A) (b : Bool) →
    nat_eq (op_precedence op) r ≡ b → (nat_eq (op_precedence op) r ≡ true → Refused G (f op)) → Refused G n →
    Refused G (at_operator (cond b (Some op) None) f n)
of_precedence-refused G r op f n true e h g = h e
of_precedence-refused G r op f n false e h g = g

at_kind-refused : {A : Type 0} (G : List Placed → Type 0) (r : ℕ) {k : Kind} {o : Option Binary} (m : Mark) (ts : List Placed)
    (f : Binary → Read A) (n : Read A) → Operators k o →
    ((op : Binary) → Operator r (placed k m ∷ ts) op → Refused G (f op)) → Refused G n → Refused G (at_operator (of_precedence r o) f n)
at_kind-refused G r m ts f n (some op) h g =
    of_precedence-refused G r op f n (nat_eq (op_precedence op) r) refl
    (λ e. h op (record { level = operator-level r op e; takes = λ ps g. means.marked g })) g
at_kind-refused G r m ts f n none h g = g

at_operator-refused : {A : Type 0} (G : List Placed → Type 0) (r : ℕ) (ts : List Placed) (f : Binary → Read A) (n : Read A) →
    ((op : Binary) → Operator r ts op → Refused G (f op)) → Refused G n → Refused G (at_operator (operator_at r ts) f n)
at_operator-refused G r [] f n h g = g
at_operator-refused G r (placed k m ∷ ts) f n h g = at_kind-refused G r m ts f n (kind-operators k) h g

-- chains
abbrev pub BegunReader : ℕ → ℕ → Reader ExprTree → Type 0
BegunReader n d u = (ts : List Placed) → Refused (BegunExpr n d ts) (u ts)

links-refused : (f r n d : ℕ) (u : Reader ExprTree) (ts : List Placed) → precedence (level_at r) < n → SoundReader n d u → BegunReader n d u →
    Refused (BegunLinks r d ts) (links f r u ts)
unfolding links
links-refused zero r n d u ts h s b = record { whole = tree.no_links; leveled = leveled.no_links; shallow = omega arith; opens = λ ps. here }
links-refused (suc f) r n d u ts h s b =
    at_operator-refused _ r ts _ _
    (λ op o. refused-then (ReadExpr n d (after ts)) (BegunExpr n d (after ts)) _ (u (after ts)) _ (s (after ts)) (b (after ts))
    (λ rest x. record {
      whole = tree.link op (mark_at ts) x.whole tree.no_links;
      leveled = leveled.link o.level x.leveled (omega (arith, h, x.above)) leveled.no_links;
      shallow = omega (arith, x.shallow);
      opens = λ ps. takes-opens (spelling.punct_at (binary_mark op) (mark_at ts)) prints_mark o.takes (x.opens ps);
    })
    (λ e us re. refused-then (ReadLinks r d us) (BegunLinks r d us) _ (links f r u us) _ (links-sound f r n d u us h s) (links-refused f r n d u us h s b)
    (λ rest y. record {
      whole = tree.link op (mark_at ts) e y.whole;
      leveled = leveled.link o.level re.leveled (omega (arith, h, re.above)) y.leveled;
      shallow = omega (arith, re.shallow, y.shallow);
      opens = λ ps. takes-opens (spelling.punct_at (binary_mark op) (mark_at ts)) prints_mark o.takes (takes-opens (spelling.expr e) (prints_expr e) re.takes (y.opens ps));
    })
    (λ ls vs rl. tt)))
    tt

chained-begun : (r d : ℕ) (ts us rest : List Placed) (first : ExprTree) (ls : Links) → precedence (level_at r) ≡ r →
    ReadExpr (suc r) d ts first us → AreLinks (level_at r) ls → links_depth ls ≤ d → OpensAll (spelling.links ls) us rest → BegunExpr r d ts rest
chained-begun r d ts us rest first tree.no_links is re are shallow opens =
    record {
      whole = first;
      leveled = re.leveled;
      above = omega (arith, re.above);
      shallow = re.shallow;
      opens = λ ps. takes-opens (spelling.expr first) (prints_expr first) re.takes (opens ps);
    }
chained-begun r d ts us rest first (tree.link op m e more) is re are shallow opens =
    record {
      whole = tree.Chain (level_at r) first (tree.link op m e more);
      leveled = leveled.chain re.leveled (omega (arith, re.above, is)) are;
      above = omega (arith, is);
      shallow = omega (arith, re.shallow, shallow);
      opens = λ ps. takes-opens (spelling.expr first) (prints_expr first) re.takes (opens ps);
    }

begun-lower : (n m d : ℕ) (ts rest : List Placed) → m ≤ n → BegunExpr n d ts rest → BegunExpr m d ts rest
begun-lower n m d ts rest h x = record { whole = x.whole; leveled = x.leveled; above = omega (arith, h, x.above); shallow = x.shallow; opens = x.opens }

chains-refused : (n d : ℕ) (u : Reader ExprTree) → n ≤ 10 → SoundReader 11 d u → BegunReader 11 d u → BegunReader (11 - n) d (chains n u)
unfolding chains linked
chains-refused zero d u h s b ts = b ts
chains-refused (suc n) d u h s b ts =
    let inner : SoundReader (11 - n) d (chains n u) = chains-sound n d u (omega arith) s in
    let begun : BegunReader (11 - n) d (chains n u) = chains-refused n d u (omega arith) s b in
    let r : precedence (level_at (10 - n)) ≡ 10 - n = precedence-level_at (10 - n) (omega arith) (omega arith) in
    let up : 11 - n ≡ suc (10 - n) = omega arith in
    let down : 11 - suc n ≡ 10 - n = omega arith in
    refused-then (ReadExpr (11 - n) d ts) (BegunExpr (11 - n) d ts) _ (chains n u ts) _ (inner ts) (begun ts)
    (λ rest x. begun-lower (11 - n) (11 - suc n) d ts rest (omega arith) x)
    (λ first us re. refused-then (ReadLinks (10 - n) d us) (BegunLinks (10 - n) d us) _ (links (suc (length us)) (10 - n) (chains n u) us) _
    (links-sound (suc (length us)) (10 - n) (11 - n) d (chains n u) us (omega (arith, r)) inner)
    (links-refused (suc (length us)) (10 - n) (11 - n) d (chains n u) us (omega (arith, r)) inner begun)
    (λ rest y. subst (λ k. BegunExpr k d ts rest) (sym down)
    (chained-begun (10 - n) d ts us rest first y.whole r (subst (λ k. ReadExpr k d ts first us) up re) y.leveled y.shallow y.opens))
    (λ ls vs rl. tt))

-- expressions
pub expr-refused : (d : ℕ) (b : Option Readers) (ts : List Placed) → BegunBelow d b → Refused (BegunExpr 0 (suc d) ts) (expr_on b ts)
unfolding expr_on branches
expr-refused d b ts h =
    refused-then (ReadExpr 1 (suc d) ts) (BegunExpr 1 (suc d) ts) _ (chains 10 (operand b) ts) _
    (chains-sound 10 (suc d) (operand b) (omega arith) (λ us. operand-sound d b us (sound-below d b h)) ts)
    (chains-refused 10 (suc d) (operand b) (omega arith) (λ us. operand-sound d b us (sound-below d b h)) (λ us. operand-refused d b us h) ts)
    (λ rest x. begun-lower 1 0 (suc d) ts rest (omega arith) x)
    (λ c us rc. refused-if _ (begins (kind.Punct puncts.Question) us) _ _
    (λ question. refused-deeper _ d b us _ h
    (record {
      whole = c;
      leveled = rc.leveled;
      above = omega arith;
      shallow = rc.shallow;
      opens = λ ps. takes-opens (spelling.expr c) (prints_expr c) rc.takes here;
    })
    (λ r g. refused-then (ReadExpr 0 d (after us)) (BegunExpr 0 d (after us)) _ (r.expr (after us)) _ (g.sound.expr (after us)) (g.expr (after us))
    (λ rest x. record {
      whole = tree.Choice c x.whole (tree.Number 0);
      leveled = leveled.choice rc.leveled (omega (arith, rc.above)) x.leveled (leveled.number (omega arith));
      above = omega arith;
      shallow = omega (arith, rc.shallow, x.shallow, g.one);
      opens = λ ps. takes-opens (spelling.expr c) (prints_expr c) rc.takes (opens-bare (kind.Punct puncts.Question) us question (x.opens _));
    })
    (λ x vs rx. refused-expect (kind.Punct puncts.Colon) _ vs _
    (record {
      whole = tree.Choice c x (tree.Number 0);
      leveled = leveled.choice rc.leveled (omega (arith, rc.above)) rx.leveled (leveled.number (omega arith));
      above = omega arith;
      shallow = omega (arith, rc.shallow, rx.shallow, g.one);
      opens = λ ps. takes-opens (spelling.expr c) (prints_expr c) rc.takes (opens-bare (kind.Punct puncts.Question) us question
          (takes-opens (spelling.expr x) (prints_expr x) rx.takes here));
    })
    (λ m ws colon. refused-then (ReadExpr 0 d ws) (BegunExpr 0 d ws) _ (r.expr ws) _ (g.sound.expr ws) (g.expr ws)
    (λ rest y. record {
      whole = tree.Choice c x y.whole;
      leveled = leveled.choice rc.leveled (omega (arith, rc.above)) rx.leveled y.leveled;
      above = omega arith;
      shallow = omega (arith, rc.shallow, rx.shallow, y.shallow);
      opens = λ ps. takes-opens (spelling.expr c) (prints_expr c) rc.takes (opens-bare (kind.Punct puncts.Question) us question
          (takes-opens (spelling.expr x) (prints_expr x) rx.takes (takes-opens (spelling.token (kind.Punct puncts.Colon)) prints_token colon.plain (y.opens ps))));
    })
    (λ y xs ry. tt)))))
    (λ _. tt))

pub below-begun : (d : ℕ) → BegunBelow d (below d)
unfolding below
below-begun zero = tt
below-begun (suc d) = record {
  one = omega arith;
  sound = below-sound (suc d);
  expr = λ ts. expr-refused d (below d) ts (below-begun d);
  operand = λ ts. operand-refused d (below d) ts (below-begun d);
}

-- where an expression is refused, one begins with all tokens before
pub read-refused : (d : ℕ) (ts : List Placed) → Refused (BegunExpr 0 (suc d) ts) (expr_on (below d) ts)
read-refused d ts = expr-refused d (below d) ts (below-begun d)
