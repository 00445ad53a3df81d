-- The value of an expression with its type is the number of its type that has the bits of its value.
use Rattle.std.proofs.Common.{◌≡◌, ℕ, zero, suc, ◌^◌, ◌<◌, ◌≤◌, Bool, true, false, ◌&&◌, ◌||◌, if◌then◌else◌, not, List, [], ◌∷◌, length, get_or, Option, Some, None, Ok, Err, ℤ, pos, w32, refl, ap, ◌∙◌, sym, arith, leb}
use Rattle.std.specs.Prelude.{⊤, ◌==◌}
use Rattle.std.specs.List.{list_all}
use Rattle.std.proofs.lemmas.Bool.{ltb-true}
use Rattle.std.proofs.lemmas.Bool.Decides.{nat_tests}
use Rattle.std.proofs.lemmas.Int.{of_z-to_z}
use Rattle.c_int.specs.Operators.{is_int, is_zero}
use Rattle.c_int.specs.Trapping.{truth}
use Rattle.c_int.specs.Typed.{Typed, bits, converted, of_type, truth_value}
use Rattle.c_int.specs.Unsigned.{signed}
use Rattle.c_int.proofs.Conversions.{is_int_signed, modulo, same_int, same_unsigned}
use Rattle.cddf_meaning.specs.Answers.{Answer, Left, and_then, left, with_turns}
use Rattle.cddf_meaning.specs.File.{File, flags, or_in_file, type_in, variable}
use Rattle.cddf_meaning.specs.Fitting.{FileFits, GivesInt, StateFits, args_fit, bound_fits, elements_fit, links_fit, numbers_fit, target_fits, variable_fits}
use Rattle.cddf_meaning.specs.Operators.{binary_answer, unary_answer}
use Rattle.cddf_meaning.specs.BodyState.{BodyState, item_elements}
use Rattle.cddf_meaning.specs.TypedValue.{as_type, element_with_type, passed, typed_binary, typed_chained, typed_linked, typed_place, typed_truth, typed_unary, typed_value, with_type}
use Rattle.cddf_meaning.specs.ExpressionTypes.{type_behind, type_of_one, type_of_two}
use Rattle.cddf_meaning.specs.Value.{as_truth, call_value, chained, checked, element_at, elements, linked, place_value, scalar_value, value, values}
use Rattle.cddf_meaning.specs.Variables.{find}
use Rattle.cddf_meaning.specs.declared.variable.Binding.{Binding}
use Rattle.cddf_meaning.specs.declared.variable.Variable.TheVariants.{Constant, Function, Scalar, Array, Window, Stream, Item}
use Rattle.cddf_meaning.specs.declared.variable.Variable.{Variable}
use Rattle.os_ast.specs.Trees as tree
use Rattle.os_ast.specs.declared.expr.Binary.TheVariants as binary
use Rattle.os_ast.specs.declared.expr.Binary.{Binary}
use Rattle.cddf_meaning.proofs.Judging.{checked-judged}
use Rattle.cddf_meaning.proofs.TypedResults.{IntAnswer, binary-agrees, binary-int, bits_stay, converted_is, unary-agrees, unary-int, zero_bits}

pub both : (a b : Bool) → (a && b) ≡ true → (a ≡ true) × (b ≡ true)
both true b h = (refl, h)
both false b h = absurd (cc)

-- An evaluation with types gives the number of the type with the bits of the other one, which are an `int`.
pub record Agrees (w : Bool) (t : Answer (Left Typed)) (b : Answer (Left ℤ)) : Type 0 where
  pub same : t ≡ and_then b (with_type w)
  pub int : GivesInt b

then-by : (u w : Bool) (b : Answer (Left ℤ)) (f : Left Typed → Answer (Left Typed)) (g : Left ℤ → Answer (Left ℤ)) → GivesInt b →
    ((n : Left ℤ) → is_int n.value ≡ true → Agrees w (f (left (of_type u n.value) n.turns)) (g n)) →
    Agrees w (and_then (and_then b (with_type u)) f) (and_then b g)
then-by u w (Ok n) f g h k = k n h
then-by u w (Err ending) f g h k = record { same = refl; int = tt }

-- one evaluation after another
then-agrees : (u w : Bool) (t : Answer (Left Typed)) (b : Answer (Left ℤ)) (f : Left Typed → Answer (Left Typed)) (g : Left ℤ → Answer (Left ℤ)) →
    Agrees u t b → ((n : Left ℤ) → is_int n.value ≡ true → Agrees w (f (left (of_type u n.value) n.turns)) (g n)) →
    Agrees w (and_then t f) (and_then b g)
then-agrees u w t b f g a k =
    let both = then-by u w b f g a.int k in
    record { same = ap (λ x. and_then x f) a.same ∙ both.same; int = both.int }

turns-by : (w : Bool) (b : Answer ℤ) (turns : ℕ) → IntAnswer b → Agrees w (with_turns turns (and_then b (element_with_type w))) (with_turns turns b)
turns-by w (Ok v) turns i = record { same = refl; int = i }
turns-by w (Err ending) turns i = record { same = refl; int = tt }

turns-agrees : (w : Bool) (t : Answer Typed) (b : Answer ℤ) (turns : ℕ) → t ≡ and_then b (element_with_type w) → IntAnswer b →
    Agrees w (with_turns turns t) (with_turns turns b)
turns-agrees w t b turns e i =
    let by = turns-by w b turns i in
    record { same = ap (with_turns turns) e ∙ by.same; int = by.int }

-- a condition, which holds where the bits aren't 0
condition-agrees : (w u : Bool) (x : ℤ) (t t' : Answer (Left Typed)) (b b' : Answer (Left ℤ)) → is_int x ≡ true → Agrees w t b → Agrees w t' b' →
    Agrees w (if is_zero (of_type u x).number then t else t') (if is_zero x then b else b')
condition-agrees w u x t t' b b' h a a' = rw (zero_bits u x h) (by (is_zero x))
  where
    by : (z : Bool) → Agrees w (if z then t else t') (if z then b else b')
    by true = a
    by false = a'

truth-is-int : (z : Bool) → is_int (truth z) ≡ true
truth-is-int true = refl
truth-is-int false = refl

truth-as : (z : Bool) (turns : ℕ) → Agrees false (Ok (left (truth_value z) turns)) (Ok (left (truth z) turns))
truth-as true turns = record { same = refl; int = refl }
truth-as false turns = record { same = refl; int = refl }

truth-agrees : (v : Bool) (n : Left ℤ) → is_int n.value ≡ true → Agrees false (typed_truth (left (of_type v n.value) n.turns)) (as_truth n)
truth-agrees v n h = rw (zero_bits v n.value h) (truth-as (not (is_zero n.value)) n.turns)

linked-agrees : (op : Binary) (line : ℕ) (u v : Bool) (n : Left ℤ) (right : ℕ → Answer (Left Typed)) (right' : ℕ → Answer (Left ℤ)) →
    is_int n.value ≡ true → ((turns : ℕ) → Agrees v (right turns) (right' turns)) →
    Agrees (type_of_two op u v) (typed_linked op line (left (of_type u n.value) n.turns) right) (linked op line u v n right')
linked-agrees binary.And line u v n right right' h f =
    condition-agrees false u n.value (Ok (left (truth_value false) n.turns)) (and_then (right n.turns) typed_truth)
    (Ok (left (pos 0) n.turns)) (and_then (right' n.turns) as_truth) h (truth-as false n.turns)
    (then-agrees v false (right n.turns) (right' n.turns) typed_truth as_truth (f n.turns) (truth-agrees v))
linked-agrees binary.Or line u v n right right' h f =
    condition-agrees false u n.value (and_then (right n.turns) typed_truth) (Ok (left (truth_value true) n.turns))
    (and_then (right' n.turns) as_truth) (Ok (left (pos 1) n.turns)) h
    (then-agrees v false (right n.turns) (right' n.turns) typed_truth as_truth (f n.turns) (truth-agrees v)) (truth-as true n.turns)
linked-agrees op line u v n right right' h f =
    then-agrees v (type_of_two op u v) (right n.turns) (right' n.turns)
    (λ b. with_turns b.turns (typed_binary op line (of_type u n.value) b.value)) (λ b. with_turns b.turns (binary_answer op line u v n.value b.value))
    (f n.turns)
    (λ m k. turns-agrees (type_of_two op u v) (typed_binary op line (of_type u n.value) (of_type v m.value)) (binary_answer op line u v n.value m.value) m.turns
    (binary-agrees op line u v n.value m.value h k) (binary-int op line u v n.value m.value h k))

-- A conversion behind another one: the bits stay.
twice : (w u : Bool) (x : ℤ) → is_int x ≡ true → converted w (converted u x) ≡ converted w x
twice false u x h = bits_stay u x h ∙ sym (same_int x h)
twice true false x h = ap (converted true) (same_int x h)
twice true true x h = same_unsigned (converted true x) (converted_is true x)

as-by : (u w : Bool) (b : Answer (Left ℤ)) → GivesInt b → and_then (and_then b (with_type u)) (as_type w) ≡ and_then b (with_type w)
as-by u w (Ok n) h = ap (λ x. Ok (left (record { number = x; unsigned = w }) n.turns)) (twice w u n.value h)
as-by u w (Err ending) h = refl

as-agrees : (u w : Bool) (t : Answer (Left Typed)) (b : Answer (Left ℤ)) → Agrees u t b → Agrees w (and_then t (as_type w)) b
as-agrees u w t b a = record { same = ap (λ x. and_then x (as_type w)) a.same ∙ as-by u w b a.int; int = a.int }

-- the one of two that is chosen, in their common type
chosen-agrees : (w u v c : Bool) (x : ℤ) (t t' : Answer (Left Typed)) (b b' : Answer (Left ℤ)) → is_int x ≡ true → Agrees u t b → Agrees v t' b' →
    Agrees w (and_then (if is_zero (of_type c x).number then t else t') (as_type w)) (if is_zero x then b else b')
chosen-agrees w u v c x t t' b b' h a a' = rw (zero_bits c x h) (by (is_zero x))
  where
    by : (z : Bool) → Agrees w (and_then (if z then t else t') (as_type w)) (if z then b else b')
    by true = as-agrees u w t b a
    by false = as-agrees v w t' b' a'

-- what stands in lists
pub get-fits : {A : Type 0} (test : A → Bool) (xs : List A) (k : ℕ) (other : A) → list_all test xs ≡ true → test other ≡ true →
    test (get_or xs k other) ≡ true
get-fits test [] k other h o = o
get-fits test (x ∷ xs) zero other h o = (both (test x) (list_all test xs) h).0
get-fits test (x ∷ xs) (suc k) other h o = get-fits test xs k other (both (test x) (list_all test xs) h).1 o

abbrev pub Fits : Option Variable → Type 0
Fits None = ⊤
Fits (Some v) = variable_fits v ≡ true

either-fits : (is : Bool) (a b : Option Variable) → Fits a → Fits b → Fits (if is then a else b)
either-fits true a b f g = f
either-fits false a b f g = g

pub find-fits : (bound : List Binding) (id : ℕ) → bound_fits bound ≡ true → Fits (find bound id)
find-fits [] id h = tt
find-fits (b ∷ bound) id h =
    let fits = both (variable_fits b.variable) (bound_fits bound) h in
    either-fits (b.id == id) (Some b.variable) (find bound id) fits.0 (find-fits bound id fits.1)

pub in-file : (file : File) → FileFits file → (id : ℕ) (v : Option Variable) → Fits v → Fits (or_in_file file id v)
in-file file f id None h = find-fits file.names id f.constants
in-file file f id (Some v) h = h

pub item-fits : (s : BodyState) → StateFits s → (item : ℕ) → elements_fit (item_elements s item) ≡ true
item-fits s f item = get-fits elements_fit s.items item [] f.items refl

pub ints : (vs : List ℤ) → elements_fit vs ≡ true → list_all is_int vs ≡ true
ints vs h = (both (leb (length vs) (2 ^ 31)) (list_all is_int vs) h).1

pub scalar-int : (s : BodyState) → StateFits s → (v : Option Variable) → Fits v → is_int (scalar_value s v) ≡ true
scalar-int s f None h = refl
scalar-int s f (Some (Constant v)) h = h
scalar-int s f (Some (Function place)) h = refl
scalar-int s f (Some (Scalar v)) h = h
scalar-int s f (Some (Array vs)) h = refl
scalar-int s f (Some (Window horizon)) h = refl
scalar-int s f (Some (Stream first count)) h = refl
scalar-int s f (Some (Item item)) h = get-fits is_int (item_elements s item) 0 (pos 0) (ints (item_elements s item) (item-fits s f item)) refl

pub elements-fit : (s : BodyState) → StateFits s → (v : Option Variable) → Fits v → elements_fit (elements s v) ≡ true
elements-fit s f None h = refl
elements-fit s f (Some (Constant v)) h = refl
elements-fit s f (Some (Function place)) h = refl
elements-fit s f (Some (Scalar v)) h = refl
elements-fit s f (Some (Array vs)) h = h
elements-fit s f (Some (Window horizon)) h = refl
elements-fit s f (Some (Stream first count)) h = refl
elements-fit s f (Some (Item item)) h = item-fits s f item

element-judged : (vs : List ℤ) (line : ℕ) (u : Bool) (x : ℤ) → elements_fit vs ≡ true → is_int x ≡ true →
    element_at vs line (converted u x) ≡ element_at vs line x
element-judged vs line u x f h =
    let l = (both (leb (length vs) (2 ^ 31)) (list_all is_int vs) f).0 in
    let few : length vs ≤ 2 ^ 31 = grind (arith, nat_tests) in
    ap (λ a. and_then a (λ k. Ok (get_or vs k (pos 0)))) (checked-judged (length vs) line few u x h)

element-int : (vs : List ℤ) (line : ℕ) (x : ℤ) → list_all is_int vs ≡ true → IntAnswer (element_at vs line x)
element-int vs line x h = by (checked (length vs) line x)
  where
    by : (a : Answer ℕ) → IntAnswer (and_then a (λ k. Ok (get_or vs k (pos 0))))
    by (Ok k) = get-fits is_int vs k (pos 0) h refl
    by (Err ending) = tt

-- what is passed to a function
abbrev GivesInts : Answer (Left (List ℤ)) → Type 0
GivesInts (Ok ns) = list_all is_int ns.value ≡ true
GivesInts (Err ending) = ⊤

record Passes (t b : Answer (Left (List ℤ))) : Type 0 where
  same : t ≡ b
  ints : GivesInts b

called-int : (file : File) → FileFits file → (v : Option Variable) (vs : Left (List ℤ)) → list_all is_int vs.value ≡ true →
    GivesInt (call_value file.calls v vs)
called-int file f None vs h = refl
called-int file f (Some (Constant v)) vs h = refl
called-int file f (Some (Function place)) vs h = f.calls place vs.value vs.turns h
called-int file f (Some (Scalar v)) vs h = refl
called-int file f (Some (Array elements)) vs h = refl
called-int file f (Some (Window horizon)) vs h = refl
called-int file f (Some (Stream first count)) vs h = refl
called-int file f (Some (Item item)) vs h = refl

called-agrees : (w : Bool) (t b : Answer (Left (List ℤ))) (call : Left (List ℤ) → Answer (Left ℤ)) → Passes t b →
    ((vs : Left (List ℤ)) → list_all is_int vs.value ≡ true → GivesInt (call vs)) →
    Agrees w (and_then t (λ vs. and_then (call vs) (with_type w))) (and_then b call)
called-agrees w t b call p f =
    let by = here b p.ints in
    record { same = ap (λ x. and_then x (λ vs. and_then (call vs) (with_type w))) p.same ∙ by.same; int = by.int }
  where
    here : (b : Answer (Left (List ℤ))) → GivesInts b → Agrees w (and_then b (λ vs. and_then (call vs) (with_type w))) (and_then b call)
    here (Ok vs) h = record { same = refl; int = f vs h }
    here (Err ending) h = record { same = refl; int = tt }

one-passed : (u : Bool) (t : Answer (Left Typed)) (b : Answer (Left ℤ)) (more more' : ℕ → Answer (Left (List ℤ))) → Agrees u t b →
    ((turns : ℕ) → Passes (more turns) (more' turns)) →
    Passes (and_then t (λ n. and_then (more n.turns) (λ ns. Ok (left (bits n.value ∷ ns.value) ns.turns))))
    (and_then b (λ n. and_then (more' n.turns) (λ ns. Ok (left (n.value ∷ ns.value) ns.turns))))
one-passed u t b more more' a f =
    let by = here b a.int in
    record { same = ap (λ x. and_then x (λ n. and_then (more n.turns) (λ ns. Ok (left (bits n.value ∷ ns.value) ns.turns)))) a.same ∙ by.same; ints = by.ints }
  where
    rest : (v : ℤ) (c : Answer (Left (List ℤ))) → is_int v ≡ true → GivesInts c → GivesInts (and_then c (λ ns. Ok (left (v ∷ ns.value) ns.turns)))
    rest v (Ok ns) h i = rw (h, i) refl
    rest v (Err ending) h i = tt

    here : (b : Answer (Left ℤ)) → GivesInt b →
        Passes (and_then (and_then b (with_type u)) (λ n. and_then (more n.turns) (λ ns. Ok (left (bits n.value ∷ ns.value) ns.turns))))
        (and_then b (λ n. and_then (more' n.turns) (λ ns. Ok (left (n.value ∷ ns.value) ns.turns))))
    here (Ok n) h =
        let p = f n.turns in
        record {
          same =
              ap (λ x. and_then x (λ ns. Ok (left (bits (of_type u n.value) ∷ ns.value) ns.turns))) p.same
              ∙ ap (λ v. and_then (more' n.turns) (λ ns. Ok (left (v ∷ ns.value) ns.turns))) (bits_stay u n.value h);
          ints = rest n.value (more' n.turns) h p.ints;
        }
    here (Err ending) h = record { same = refl; ints = tt }

mutual
  pub value-agrees : (file : File) → FileFits file → (e : tree.ExprTree) (s : BodyState) → StateFits s → numbers_fit e ≡ true → (turns : ℕ) →
      Agrees (type_in file s e) (typed_value file e s turns) (value file e s turns)
  value-agrees file f (tree.Number n) s g h turns =
      record { same = ap (λ x. Ok (left (record { number = x; unsigned = false }) turns)) (sym (same_int (pos n) h)); int = h }
  value-agrees file f (tree.Wide n) s g h turns =
      let l : n < 2 ^ 32 = ltb-true _ _ h in
      let i = is_int_signed n l in
      record { same = ap (λ x. Ok (left (record { number = x; unsigned = true }) turns)) (sym (modulo (signed n) i ∙ ap pos (of_z-to_z w32 n l))); int = i }
  value-agrees file f (tree.Place t) s g h turns = place-agrees file f t s g h turns
  value-agrees file f (tree.ExprTree.Call n args) s g h turns =
      called-agrees (flags file s n) (passed file args s turns) (values file args s turns) (call_value file.calls (variable file s n.id))
      (passed-agrees file f args s g h turns) (called-int file f (variable file s n.id))
  value-agrees file f (tree.Paren e) s g h turns = value-agrees file f e s g h turns
  value-agrees file f (tree.Unary op m e) s g h turns =
      then-agrees (type_in file s e) (type_of_one op (type_in file s e)) (typed_value file e s turns) (value file e s turns)
      (λ n. with_turns n.turns (typed_unary op m.line n.value)) (λ n. with_turns n.turns (unary_answer op m.line (type_in file s e) n.value))
      (value-agrees file f e s g h turns)
      (λ n i. turns-agrees (type_of_one op (type_in file s e)) (typed_unary op m.line (of_type (type_in file s e) n.value))
      (unary_answer op m.line (type_in file s e) n.value) n.turns (unary-agrees op m.line (type_in file s e) n.value i)
      (unary-int op m.line (type_in file s e) n.value i))
  value-agrees file f (tree.Chain l first links) s g h turns =
      let fits = both (numbers_fit first) (links_fit links) h in
      then-agrees (type_in file s first) (type_behind (flags file s) links (type_in file s first)) (typed_value file first s turns) (value file first s turns)
      (typed_chained file links s) (chained file links s (type_in file s first)) (value-agrees file f first s g fits.0 turns)
      (λ n i. chained-agrees file f links s g fits.1 (type_in file s first) n i)
  value-agrees file f (tree.Choice c a b) s g h turns =
      let fits = both (numbers_fit c) (numbers_fit a && numbers_fit b) h in
      let branches = both (numbers_fit a) (numbers_fit b) fits.1 in
      let w = type_in file s a || type_in file s b in
      then-agrees (type_in file s c) w (typed_value file c s turns) (value file c s turns)
      (λ n. and_then (if is_zero n.value.number then typed_value file b s n.turns else typed_value file a s n.turns) (as_type w))
      (λ n. if is_zero n.value then value file b s n.turns else value file a s n.turns)
      (value-agrees file f c s g fits.0 turns)
      (λ n i. chosen-agrees w (type_in file s b) (type_in file s a) (type_in file s c) n.value (typed_value file b s n.turns) (typed_value file a s n.turns)
      (value file b s n.turns) (value file a s n.turns) i (value-agrees file f b s g branches.1 n.turns) (value-agrees file f a s g branches.0 n.turns))

  place-agrees : (file : File) → FileFits file → (t : tree.TargetTree) (s : BodyState) → StateFits s → target_fits t ≡ true → (turns : ℕ) →
      Agrees (type_in file s (tree.Place t)) (typed_place file t s turns) (place_value file t s turns)
  place-agrees file f (tree.Variable n) s g h turns =
      record { same = refl; int = scalar-int s g (variable file s n.id) (in-file file f n.id (find s.bound n.id) (find-fits s.bound n.id g.variables)) }
  place-agrees file f (tree.Element n m e) s g h turns =
      let w = flags file s n in
      let vs = elements s (find s.bound n.id) in
      let fit = elements-fit s g (find s.bound n.id) (find-fits s.bound n.id g.variables) in
      then-agrees (type_in file s e) w (typed_value file e s turns) (value file e s turns)
      (λ i. with_turns i.turns (and_then (element_at vs m.line i.value.number) (element_with_type w))) (λ i. with_turns i.turns (element_at vs m.line i.value))
      (value-agrees file f e s g h turns)
      (λ i k. turns-agrees w (and_then (element_at vs m.line (converted (type_in file s e) i.value)) (element_with_type w)) (element_at vs m.line i.value) i.turns
      (ap (λ a. and_then a (element_with_type w)) (element-judged vs m.line (type_in file s e) i.value fit k)) (element-int vs m.line i.value (ints vs fit)))

  passed-agrees : (file : File) → FileFits file → (es : tree.Args) (s : BodyState) → StateFits s → args_fit es ≡ true → (turns : ℕ) →
      Passes (passed file es s turns) (values file es s turns)
  passed-agrees file f tree.no_args s g h turns = record { same = refl; ints = refl }
  passed-agrees file f (tree.arg e es) s g h turns =
      let fits = both (numbers_fit e) (args_fit es) h in
      one-passed (type_in file s e) (typed_value file e s turns) (value file e s turns) (passed file es s) (values file es s)
      (value-agrees file f e s g fits.0 turns) (passed-agrees file f es s g fits.1)

  chained-agrees : (file : File) → FileFits file → (links : tree.Links) (s : BodyState) → StateFits s → links_fit links ≡ true → (u : Bool) (n : Left ℤ) →
      is_int n.value ≡ true →
      Agrees (type_behind (flags file s) links u) (typed_chained file links s (left (of_type u n.value) n.turns)) (chained file links s u n)
  chained-agrees file f tree.no_links s g h u n i = record { same = refl; int = i }
  chained-agrees file f (tree.link op m e rest) s g h u n i =
      let fits = both (numbers_fit e) (links_fit rest) h in
      let v = type_in file s e in
      then-agrees (type_of_two op u v) (type_behind (flags file s) rest (type_of_two op u v))
      (typed_linked op m.line (left (of_type u n.value) n.turns) (typed_value file e s)) (linked op m.line u v n (value file e s))
      (typed_chained file rest s) (chained file rest s (type_of_two op u v))
      (linked-agrees op m.line u v n (typed_value file e s) (value file e s) i (value-agrees file f e s g fits.0))
      (λ k j. chained-agrees file f rest s g fits.1 (type_of_two op u v) k j)
