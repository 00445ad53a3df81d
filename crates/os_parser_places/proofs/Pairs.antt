-- Readers in pairs, which go alike over two lists of tokens that begin with the same kinds.
use Rattle.std.proofs.Common.{◌≡◌, ℕ, zero, suc, ◌+◌, ◌≤◌, ◌<◌, Bool, true, false, List, ◌∷◌, Option, Some, None, cond, length, refl, subst, arith}
use Rattle.os_ast.specs.Means.{Placed, placed}
use Rattle.os_lexer.specs.declared.token.Kind.{Kind}
use Rattle.os_lexer.specs.declared.token.Kind.TheVariants as kind
use Rattle.os_lexer.specs.declared.token.Punct.TheVariants as puncts
use Rattle.os_parser_grammar.specs.Beginners.{stmt_at, change_at, name_at, number_at}
use Rattle.os_parser_grammar.specs.Expressions.{Readers, deeper}
use Rattle.os_parser_grammar.specs.Operands.{start_at}
use Rattle.os_parser_grammar.specs.Reading.{Read, Reader, got, fails, ◌>>=◌, after, mark_at, begins, expect}
use Rattle.os_parser_grammar.specs.Statements.{many, list_of}
use Rattle.os_parser_grammar.proofs.Tokens.{length-after}
use Rattle.os_parser_places.proofs.Alike.{Alike, last, more, left, Shrinks, flat, left-then, left-if, begins-alike, start-alike, length-alike}

-- Both give alike, and at least `k` tokens were taken; or both refuse alike; or the first goes beyond.
pub data Goes {A : Type 0} (S : A → ℕ) (xs ys : List Placed) (k d : ℕ) : Read A → Read A → Type 0 where
  both : {x y : A} {e : ℕ} {ts us : List Placed} → S x ≡ S y → Alike xs ys e ts us → e + k ≤ d → Goes S xs ys k d (got x ts) (got y us)
  neither : {e : ℕ} {ts us : List Placed} → Alike xs ys e ts us → Goes S xs ys k d (fails ts) (fails us)
  past : {r s : Read A} → left r ≤ length xs → Goes S xs ys k d r s

-- two readers that go alike, and take at least `k` tokens
pub record Pair {A : Type 0} (S : A → ℕ) (k : ℕ) (r s : Reader A) : Type 0 where
  pub small : Shrinks r
  pub goes : {xs ys : List Placed} {d : ℕ} {ts us : List Placed} → Alike xs ys d ts us → Goes S xs ys k d (r ts) (s us)

pub goes-less : {A : Type 0} (S : A → ℕ) {xs ys : List Placed} {j k d : ℕ} {r s : Read A} → j ≤ k → Goes S xs ys k d r s → Goes S xs ys j d r s
goes-less S le (both e a h) = both e a (omega (arith, h, le))
goes-less S le (neither a) = neither a
goes-less S le (past h) = past h

-- fewer tokens are asked for
pub pair-less : {A : Type 0} {S : A → ℕ} {j k : ℕ} {r s : Reader A} → j ≤ k → Pair S k r s → Pair S j r s
pair-less {S = S} le p = record { small = p.small; goes = λ a. goes-less S le (p.goes a) }

pub pair-gives : {A : Type 0} {S : A → ℕ} {f g : List Placed → A} → ((ts us : List Placed) → S (f ts) ≡ S (g us)) → Pair S 0 (λ ts. got (f ts) ts) (λ us. got (g us) us)
pair-gives h = record { small = λ ts. omega arith; goes = λ {xs} {ys} {d} {ts} {us} a. both (h ts us) a (omega arith) }

pub pair-fails : {A : Type 0} {S : A → ℕ} {k : ℕ} → Pair S k fails fails
pair-fails = record { small = λ ts. omega arith; goes = λ a. neither a }

pub goes-more : {A : Type 0} (S : A → ℕ) {xs ys : List Placed} {k d : ℕ} {r s : Read A} → Goes S xs ys k d r s → Goes S xs ys (suc k) (suc d) r s
goes-more S (both e a h) = both e a (omega (arith, h))
goes-more S (neither a) = neither a
goes-more S (past h) = past h

goes-next : {A : Type 0} {S : A → ℕ} {k : ℕ} (r s : List Placed → Reader A) → ((ts us : List Placed) → Pair S k (r ts) (s us)) →
    {xs ys : List Placed} {d : ℕ} {ts us : List Placed} → Alike xs ys d ts us → Goes S xs ys (suc k) d (r ts (after ts)) (s us (after us))
goes-next r s h {xs} {ys} (last {k} {m} {n}) = past ((h (placed k m ∷ xs) (placed k n ∷ ys)).small xs)
goes-next {S = S} r s h (more {k = k} {m = m} {n = n} {ts = ts} {us = us} a) = goes-more S ((h (placed k m ∷ ts) (placed k n ∷ us)).goes a)

-- behind the next token, of which the readers may keep the mark
pub pair-next : {A : Type 0} {S : A → ℕ} {k : ℕ} (r s : List Placed → Reader A) → ((ts us : List Placed) → Pair S k (r ts) (s us)) →
    Pair S (suc k) (λ ts. r ts (after ts)) (λ us. s us (after us))
pair-next r s h = record {
  small = λ ts. let less = (h ts ts).small (after ts) in let one = length-after ts in omega (arith, less, one);
  goes = λ a. goes-next r s h a;
}

pub goes-within : {A : Type 0} (S : A → ℕ) {xs ys : List Placed} {k m d e : ℕ} {r s : Read A} → e + m ≤ d + k → Goes S xs ys k e r s → Goes S xs ys m d r s
goes-within S le (both e a h) = both e a (omega (arith, h, le))
goes-within S le (neither a) = neither a
goes-within S le (past h) = past h

goes-then : {A B : Type 0} {S : A → ℕ} {Q : B → ℕ} (j k m : ℕ) {xs ys : List Placed} {d : ℕ} {r s : Read A} (f g : A → Reader B) → m ≤ j + k →
    Goes S xs ys j d r s → ((x y : A) → S x ≡ S y → Pair Q k (f x) (g y)) → ((x : A) → Shrinks (f x)) → Goes Q xs ys m d (r >>= f) (s >>= g)
goes-then {Q = Q} j k m f g le (both {x} {y} e a h) c small = goes-within Q (omega (arith, h, le)) ((c x y e).goes a)
goes-then j k m f g le (neither a) c small = neither a
goes-then j k m f g le (past {r} {s} h) c small = past (left-then r f _ h small)

-- one reader after the other
pub pair-then : {A B : Type 0} {S : A → ℕ} {Q : B → ℕ} (j k : ℕ) {m : ℕ} {r s : Reader A} {f g : List Placed → A → Reader B} → m ≤ j + k →
    Pair S j r s → ((ts us : List Placed) (x y : A) → S x ≡ S y → Pair Q k (f ts x) (g us y)) →
    Pair Q m (λ ts. r ts >>= f ts) (λ us. s us >>= g us)
pair-then j k {m = m} {r = r} {s = s} {f = f} {g = g} le p c = record {
  small = λ ts. left-then (r ts) (f ts) (length ts) (p.small ts) (λ x. (c ts ts x x refl).small);
  goes = λ {xs} {ys} {d} {ts} {us} a. goes-then j k m (f ts) (g us) le (p.goes a) (λ x y e. c ts us x y e) (λ x. (c ts ts x x refl).small);
}

pub goes-if : {A : Type 0} {S : A → ℕ} {xs ys : List Placed} {k d : ℕ} (b c : Bool) {r1 r2 s1 s2 : Read A} → b ≡ c →
    Goes S xs ys k d r1 s1 → Goes S xs ys k d r2 s2 → Goes S xs ys k d (cond b r1 r2) (cond c s1 s2)
goes-if true true e f g = f
goes-if false false e f g = g
goes-if true false e f g = absurd (cc e)
goes-if false true e f g = absurd (cc e)

-- what tokens say that begin alike
pub record SaysAlike (says : List Placed → Bool) : Type 0 where
  pub alike : {xs ys : List Placed} {d : ℕ} {ts us : List Placed} → Alike xs ys d ts us → says ts ≡ says us

pub pair-cond : {A : Type 0} {S : A → ℕ} {k : ℕ} {r1 r2 s1 s2 : Reader A} (says : List Placed → Bool) →
    SaysAlike says →
    Pair S k r1 s1 → Pair S k r2 s2 → Pair S k (λ ts. cond (says ts) (r1 ts) (r2 ts)) (λ us. cond (says us) (s1 us) (s2 us))
pair-cond says same p q = record {
  small = λ ts. left-if (says ts) _ _ (length ts) (p.small ts) (q.small ts);
  goes = λ {xs} {ys} {d} {ts} {us} a. goes-if (says ts) (says us) (same.alike a) (p.goes a) (q.goes a);
}

pub begins-says : (l : Kind) → SaysAlike (begins l)
begins-says l = record { alike = λ a. begins-alike l a }

pub pair-if : {A : Type 0} {S : A → ℕ} {k : ℕ} {r1 r2 s1 s2 : Reader A} (l : Kind) → Pair S k r1 s1 → Pair S k r2 s2 →
    Pair S k (λ ts. cond (begins l ts) (r1 ts) (r2 ts)) (λ us. cond (begins l us) (s1 us) (s2 us))
pair-if l p q = pair-cond (begins l) (begins-says l) p q

pub pair-got : {A : Type 0} {S : A → ℕ} {x y : A} → S x ≡ S y → Pair S 0 (got x) (got y)
pair-got e = record { small = λ ts. omega arith; goes = λ a. both e a (omega arith) }

pub pair-any : {A : Type 0} {S : A → ℕ} {k : ℕ} {r s : Reader A} → Pair S k r s → Pair S 0 r s
pair-any p = pair-less (omega arith) p

pub pair-expect : (k : Kind) → Pair flat 0 (expect k) (expect k)
unfolding expect
pair-expect k = pair-any (pair-if k (pair-next (λ ts. got (mark_at ts)) (λ us. got (mark_at us)) (λ ts us. pair-got refl)) pair-fails)

-- readers that go alike
pub record PairReaders (r : Readers) : Type 0 where
  pub expr : Pair flat 0 r.expr r.expr
  pub operand : Pair flat 0 r.operand r.operand

abbrev pub PairBelow : Option Readers → Type 0
PairBelow None = Unit {0}
PairBelow (Some r) = PairReaders r

-- what is read one deeper
pub pair-deeper : {A : Type 0} {S : A → ℕ} {k : ℕ} (b : Option Readers) {f g : List Placed → Readers → Read A} → PairBelow b →
    ((r : Readers) → PairReaders r → Pair S k (λ ts. f ts r) (λ us. g us r)) → Pair S k (λ ts. deeper b ts (f ts)) (λ us. deeper b us (g us))
pair-deeper None h c = record { small = λ ts. omega arith; goes = λ a. neither a }
pair-deeper (Some r) h c = record { small = (c r h).small; goes = λ a. (c r h).goes a }

-- lists
small-many : {A : Type 0} (f : ℕ) (says : List Placed → Bool) (part : Reader A) → Shrinks part → Shrinks (many f says part)
unfolding many
small-many zero says part h ts = omega arith
small-many (suc f) says part h ts =
    left-if (says ts) _ _ (length ts) (left-then (part ts) _ (length ts) (h ts) (λ x us. left-then (many f says part us) _ (length us) (small-many f says part h us) (λ xs vs. omega arith))) (omega arith)

goes-cons : {A : Type 0} (x y : A) {xs ys : List Placed} {e d : ℕ} {r s : Read (List A)} → Goes flat xs ys 0 e r s → e ≤ d →
    Goes flat xs ys 0 d (r >>= λ zs ws. got (x ∷ zs) ws) (s >>= λ zs ws. got (y ∷ zs) ws)
goes-cons x y (both q a l) h = both refl a (omega (arith, l, h))
goes-cons x y (neither a) h = neither a
goes-cons x y (past {r} {s} l) h = past (left-then r _ _ l (λ zs ws. omega arith))

goes-part : {A : Type 0} {S : A → ℕ} (f g : ℕ) (says : List Placed → Bool) (part : Reader A) → Shrinks part →
    {xs ys : List Placed} {d : ℕ} {r s : Read A} → Goes S xs ys 1 d r s →
    ((e : ℕ) (vs ws : List Placed) → Alike xs ys e vs ws → e < d → Goes flat xs ys 0 e (many f says part vs) (many g says part ws)) →
    Goes flat xs ys 0 d (r >>= λ x vs. many f says part vs >>= λ zs ws. got (x ∷ zs) ws) (s >>= λ x vs. many g says part vs >>= λ zs ws. got (x ∷ zs) ws)
goes-part f g says part h (neither a) k = neither a
goes-part f g says part h (past {r} {s} l) k =
    past (left-then r _ _ l (λ x us. left-then (many f says part us) _ (length us) (small-many f says part h us) (λ xs vs. omega arith)))
goes-part f g says part h (both {x} {y} e a l) k = goes-cons x y (k _ _ _ a (omega (arith, l))) (omega (arith, l))

goes-many : {A : Type 0} {S : A → ℕ} (f g : ℕ) (says : List Placed → Bool) (part : Reader A) → SaysAlike says → Pair S 1 part part →
    {xs ys : List Placed} {d : ℕ} {ts us : List Placed} → Alike xs ys d ts us → d < f → d < g → Goes flat xs ys 0 d (many f says part ts) (many g says part us)
unfolding many
goes-many zero g says part same p a h k = absurd (omega arith)
goes-many (suc f) zero says part same p a h k = absurd (omega arith)
goes-many (suc f) (suc g) says part same p {ts = ts} {us = us} a h k =
    goes-if (says ts) (says us) (same.alike a)
    (goes-part f g says part p.small (p.goes a) (λ e vs ws b lt. goes-many f g says part same p b (omega (arith, h, lt)) (omega (arith, k, lt))))
    (both refl a (omega arith))

pub pair-many : {A : Type 0} {S : A → ℕ} (says : List Placed → Bool) (part : Reader A) → SaysAlike says → Pair S 1 part part →
    Pair flat 0 (λ ts. many (suc (length ts)) says part ts) (λ us. many (suc (length us)) says part us)
pair-many says part same p = record {
  small = λ ts. small-many (suc (length ts)) says part p.small ts;
  goes = λ {xs} {ys} {d} {ts} {us} a. goes-many (suc (length ts)) (suc (length us)) says part same p a (omega (arith, (length-alike a).0)) (omega (arith, (length-alike a).1));
}

pub pair-list : {A : Type 0} {S : A → ℕ} (part : Reader A) → Pair S 0 part part → Pair flat 0 (list_of part) (list_of part)
unfolding list_of
pair-list part p =
    pair-then 0 0 (omega arith) p (λ ts us x y e.
    pair-then 0 0 (omega arith) (pair-many (begins (kind.Punct puncts.Comma)) (λ vs. part (after vs)) (begins-says _) (pair-next (λ ts. part) (λ us. part) (λ ts us. p))) (λ vs ws xs ys q.
    pair-gives (λ vs ws. refl)))

-- readers that go by what tokens say
pub record Says {X : Type 0} (says : List Placed → X) : Type 0 where
  pub alike : {xs ys : List Placed} {d : ℕ} {ts us : List Placed} → Alike xs ys d ts us → says ts ≡ says us

pub pair-by : {A X : Type 0} {S : A → ℕ} {k : ℕ} (says : List Placed → X) (r s : X → Reader A) → Says says → ((x : X) → Pair S k (r x) (s x)) →
    Pair S k (λ ts. r (says ts) ts) (λ us. s (says us) us)
pair-by {S = S} {k = k} says r s same c = record {
  small = λ ts. (c (says ts)).small ts;
  goes = λ {xs} {ys} {d} {ts} {us} a. subst (λ z. Goes S xs ys k d (r (says ts) ts) (s z us)) (same.alike a) ((c (says ts)).goes a);
}

name-alike : {xs ys : List Placed} {d : ℕ} {ts us : List Placed} → Alike xs ys d ts us → name_at ts ≡ name_at us
name-alike last = refl
name-alike (more a) = refl

number-alike : {xs ys : List Placed} {d : ℕ} {ts us : List Placed} → Alike xs ys d ts us → number_at ts ≡ number_at us
number-alike last = refl
number-alike (more a) = refl

stmt-alike : {xs ys : List Placed} {d : ℕ} {ts us : List Placed} → Alike xs ys d ts us → stmt_at ts ≡ stmt_at us
stmt-alike last = refl
stmt-alike (more a) = refl

change-alike : {xs ys : List Placed} {d : ℕ} {ts us : List Placed} → Alike xs ys d ts us → change_at ts ≡ change_at us
change-alike last = refl
change-alike (more a) = refl

pub start-says : Says start_at
start-says = record { alike = λ a. start-alike a }

pub name-says : Says name_at
name-says = record { alike = λ a. name-alike a }

pub number-says : Says number_at
number-says = record { alike = λ a. number-alike a }

pub stmt-says : Says stmt_at
stmt-says = record { alike = λ a. stmt-alike a }

pub change-says : Says change_at
change-says = record { alike = λ a. change-alike a }
