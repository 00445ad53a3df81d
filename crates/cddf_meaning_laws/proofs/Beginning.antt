-- The states in which `main` and tasks begin have `int`s alone, and so have those in which tasks are done.
use Rattle.std.proofs.Common.{◌≡◌, ◌^◌, ◌≤◌, ℕ, zero, suc, ℤ, pos, Bool, true, false, cond, List, [], ◌∷◌, ◌++◌, All, length, take, drop, replicate, leb, refl, ap, ◌∙◌, arith, lt-ltb}
use Rattle.std.specs.List.{list_all}
use Rattle.std.proofs.lemmas.Bool.Decides.{nat_tests}
use Rattle.std.proofs.lemmas.List.{length-replicate}
use Rattle.std.proofs.lemmas.List.Elements.{All-head, All-tail}
use Rattle.c_int.specs.Operators.{is_int}
use Rattle.cddf_meaning.proofs.Ints.{joined}
use Rattle.cddf_meaning.proofs.TypedValues.{both, ints}
use Rattle.cddf_meaning.specs.Body.{bind_captured, bind_items, item_lists, outputs_of}
use Rattle.cddf_meaning.specs.Fitting.{bound_fits, elements_fit}
use Rattle.cddf_meaning.specs.Variables.{bind}
use Rattle.cddf_meaning.specs.declared.typed_name.TypedName.{TypedName}
use Rattle.cddf_meaning.specs.declared.variable.Binding.{Binding}
use Rattle.cddf_meaning.specs.declared.variable.Variable.TheVariants.{Scalar, Item}
use Rattle.flow_core_laws.specs.declared.claim.Claim.{Claim}
use Rattle.cddf_meaning_laws.specs.Beginning.{AreInts, MainBeginsWithInts, TasksBeginWithInts}

pub main_begins : MainBeginsWithInts
main_begins input_len small = record {
  variables = joined (is_int (pos input_len)) true (lt-ltb input_len (2 ^ 31) (omega (arith, small))) refl;
  items = refl;
}

-- ---- what is in scope in a task

captured : (ns : List TypedName) (vs : List ℤ) (bound : List Binding) → AreInts vs → bound_fits bound ≡ true → bound_fits (bind_captured ns vs bound) ≡ true
captured [] vs bound h i = i
captured (n ∷ ns) [] bound h i = captured ns [] (bind n.id n.unsigned (Scalar (pos 0)) bound) h i
captured (n ∷ ns) (v ∷ vs) bound h i =
    let fits = both (is_int v) (list_all is_int vs) h in
    captured ns vs (bind n.id n.unsigned (Scalar v) bound) fits.1 (joined (is_int v) (bound_fits bound) fits.0 i)

named : (item : ℕ) (ns : List TypedName) (bound : List Binding) → bound_fits bound ≡ true → bound_fits (bind_items item ns bound) ≡ true
named item [] bound h = h
named item (n ∷ ns) bound h = named (suc item) ns (bind n.id n.unsigned (Item item) bound) h

-- ---- the elements of its items

take-all : {A : Type 0} (test : A → Bool) (n : ℕ) (xs : List A) → list_all test xs ≡ true → list_all test (take n xs) ≡ true
take-all test zero xs h = refl
take-all test (suc n) [] h = refl
take-all test (suc n) (x ∷ xs) h =
    let fits = both (test x) (list_all test xs) h in
    joined (test x) (list_all test (take n xs)) fits.0 (take-all test n xs fits.1)

drop-all : {A : Type 0} (test : A → Bool) (n : ℕ) (xs : List A) → list_all test xs ≡ true → list_all test (drop n xs) ≡ true
drop-all test zero xs h = h
drop-all test (suc n) [] h = refl
drop-all test (suc n) (x ∷ xs) h = drop-all test n xs (both (test x) (list_all test xs) h).1

zeros-all : (n : ℕ) → list_all is_int (replicate n (pos 0)) ≡ true
zeros-all zero = refl
zeros-all (suc n) = zeros-all n

few : (n : ℕ) → n ≤ 65536 → leb n (2 ^ 31) ≡ true
few n l = grind (arith, nat_tests)

short : (n most : ℕ) → n ≤ most → most ≤ 65536 → leb n (2 ^ 31) ≡ true
short n most le small = few n (omega (arith, le, small))

take-short : (n : ℕ) (xs : List ℤ) → length (take n xs) ≤ n
take-short zero xs = omega arith
take-short (suc n) [] = omega arith
take-short (suc n) (x ∷ xs) = omega (arith, take-short n xs)

lists : (cs : List Claim) (inputs : List ℤ) → All (λ (c : Claim). c.horizon ≤ 65536) cs → AreInts inputs → list_all elements_fit (item_lists cs inputs) ≡ true
lists [] inputs small h = refl
lists (c ∷ cs) inputs small h =
    let rest = All-tail (λ (e : Claim). e.horizon ≤ 65536) c cs small in
    by c.write (All-head (λ (e : Claim). e.horizon ≤ 65536) c cs small) (lists cs inputs rest h)
    (lists cs (drop c.horizon inputs) rest (drop-all is_int c.horizon inputs h))
  where
    by : (w : Bool) → c.horizon ≤ 65536 → list_all elements_fit (item_lists cs inputs) ≡ true → list_all elements_fit (item_lists cs (drop c.horizon inputs)) ≡ true
        → list_all elements_fit (cond w (replicate c.horizon (pos 0) ∷ item_lists cs inputs) (take c.horizon inputs ∷ item_lists cs (drop c.horizon inputs))) ≡ true
    by true le more other =
        joined (elements_fit (replicate c.horizon (pos 0))) (list_all elements_fit (item_lists cs inputs))
        (joined (leb (length (replicate c.horizon (pos 0))) (2 ^ 31)) (list_all is_int (replicate c.horizon (pos 0)))
        (ap (λ n. leb n (2 ^ 31)) (length-replicate c.horizon (pos 0)) ∙ few c.horizon le) (zeros-all c.horizon))
        more
    by false le other more =
        joined (elements_fit (take c.horizon inputs)) (list_all elements_fit (item_lists cs (drop c.horizon inputs)))
        (joined (leb (length (take c.horizon inputs)) (2 ^ 31)) (list_all is_int (take c.horizon inputs))
        (short (length (take c.horizon inputs)) c.horizon (take-short c.horizon inputs) le) (take-all is_int c.horizon inputs h))
        more

pub task_begins : TasksBeginWithInts
task_begins t a inputs caught small h = record {
  variables = named 0 t.items (bind_captured t.captured a.captured []) (captured t.captured a.captured [] caught refl);
  items = lists a.claims inputs small h;
}

-- ---- and what goes out

joined-ints : (xs ys : List ℤ) → AreInts xs → AreInts ys → AreInts (xs ++ ys)
joined-ints [] ys h k = k
joined-ints (x ∷ xs) ys h k =
    let fits = both (is_int x) (list_all is_int xs) h in
    joined (is_int x) (list_all is_int (xs ++ ys)) fits.0 (joined-ints xs ys fits.1 k)

pub outputs : (cs : List Claim) (items : List (List ℤ)) → list_all elements_fit items ≡ true → AreInts (outputs_of cs items)
outputs [] items h = refl
outputs (c ∷ cs) [] h = refl
outputs (c ∷ cs) (vs ∷ items) h =
    let fits = both (elements_fit vs) (list_all elements_fit items) h in
    by c.write fits.0 (outputs cs items fits.1)
  where
    by : (w : Bool) → elements_fit vs ≡ true → AreInts (outputs_of cs items) → AreInts (cond w (vs ++ outputs_of cs items) (outputs_of cs items))
    by true fits rest = joined-ints vs (outputs_of cs items) (ints vs fits) rest
    by false fits rest = rest
