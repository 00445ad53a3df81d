-- What tests say, and what they are shown by.
use Rattle.std.proofs.Common.{◌≡◌, ℕ, zero, suc, Bool, true, false, List, [], ◌∷◌, Option, Some, None, refl, ap, ◌∙◌, arith}
use Rattle.std.specs.Prelude.{All, slice_get}
use Rattle.std.specs.List.{list_any, list_all}
use Rattle.std.proofs.lemmas.Bool.{and_from, or_left, or_right}
use Rattle.os_code.specs.declared.instr.Instr.{Instr}
use Rattle.os_code.specs.declared.instr.Instr.TheVariants.{Push, Drop, Copy, Load, Store, Zero, CheckAt, LoadAt, StoreAt, ItemCheck, ItemLoad, ItemStore, Unary, Binary, Jump, JumpZero, Turn, Call, Return, End, Window, BurstIn, BurstOut, Spawn, Tick}
use Rattle.os_code.specs.Checking.{implies, if_there, is_turn, called_of, spawned_of, ticked_of, stored_of}

pub implies-from : (a b : Bool) → (a ≡ true → b ≡ true) → implies a b ≡ true
implies-from true b h = h refl
implies-from false b h = refl

pub if_there-from : {A : Type 0} (test : A → Bool) (o : Option A) → ((x : A) → o ≡ Some x → test x ≡ true) → if_there test o ≡ true
if_there-from test (Some x) h = h x refl
if_there-from test None h = refl

pub list_all-from : {A : Type 0} (test : A → Bool) (xs : List A) → ((k : ℕ) (x : A) → slice_get xs k ≡ Some x → test x ≡ true) → list_all test xs ≡ true
list_all-from test [] h = refl
list_all-from test (y ∷ xs) h = and_from (test y) (list_all test xs) (h 0 y refl) (list_all-from test xs (λ k x e. h (suc k) x e))

pub list_any-from : {A : Type 0} (test : A → Bool) (xs : List A) (k : ℕ) (x : A) → slice_get xs k ≡ Some x → test x ≡ true → list_any test xs ≡ true
list_any-from test [] k x e h = cc
list_any-from test (y ∷ xs) zero x e h = let same : y ≡ x = cc in or_left (test y) (list_any test xs) (ap test same ∙ h)
list_any-from test (y ∷ xs) (suc k) x e h = or_right (test y) (list_any test xs) (list_any-from test xs k x e h)

pub list_all-from_All : {A : Type 0} (test : A → Bool) (P : A → Type 0) (xs : List A) → All P xs → ((x : A) → P x → test x ≡ true) → list_all test xs ≡ true
list_all-from_All test P [] all each = refl
list_all-from_All test P (x ∷ xs) all each =
    and_from (test x) (list_all test xs) (each x (all 0 x (omega arith)))
    (list_all-from_All test P xs (λ k d low. all (suc k) d (omega arith)) each)

pub turn-is : (o : Option Instr) → o ≡ Some Turn → is_turn o ≡ true
turn-is o e = ap is_turn e

pub called-is : (instr : Instr) (n : ℕ) → called_of instr ≡ Some n → instr ≡ Call n
called-is (Push a) n e = cc
called-is Drop n e = cc
called-is Copy n e = cc
called-is (Load a) n e = cc
called-is (Store a) n e = cc
called-is (Zero a b) n e = cc
called-is (CheckAt a b) n e = cc
called-is (LoadAt a b c) n e = cc
called-is (StoreAt a b c) n e = cc
called-is (ItemCheck a b) n e = cc
called-is (ItemLoad a b) n e = cc
called-is (ItemStore a b) n e = cc
called-is (Unary a b) n e = cc
called-is (Binary a b) n e = cc
called-is (Jump a) n e = cc
called-is (JumpZero a) n e = cc
called-is Turn n e = cc
called-is (Call a) n e = let same : a ≡ n = cc in ap (λ (m : ℕ). Call m) same
called-is Return n e = cc
called-is End n e = cc
called-is (Window a b) n e = cc
called-is (BurstIn a) n e = cc
called-is (BurstOut a b) n e = cc
called-is (Spawn a) n e = cc
called-is (Tick a) n e = cc

pub spawned-is : (instr : Instr) (n : ℕ) → spawned_of instr ≡ Some n → instr ≡ Spawn n
spawned-is (Push a) n e = cc
spawned-is Drop n e = cc
spawned-is Copy n e = cc
spawned-is (Load a) n e = cc
spawned-is (Store a) n e = cc
spawned-is (Zero a b) n e = cc
spawned-is (CheckAt a b) n e = cc
spawned-is (LoadAt a b c) n e = cc
spawned-is (StoreAt a b c) n e = cc
spawned-is (ItemCheck a b) n e = cc
spawned-is (ItemLoad a b) n e = cc
spawned-is (ItemStore a b) n e = cc
spawned-is (Unary a b) n e = cc
spawned-is (Binary a b) n e = cc
spawned-is (Jump a) n e = cc
spawned-is (JumpZero a) n e = cc
spawned-is Turn n e = cc
spawned-is (Call a) n e = cc
spawned-is Return n e = cc
spawned-is End n e = cc
spawned-is (Window a b) n e = cc
spawned-is (BurstIn a) n e = cc
spawned-is (BurstOut a b) n e = cc
spawned-is (Spawn a) n e = let same : a ≡ n = cc in ap (λ (m : ℕ). Spawn m) same
spawned-is (Tick a) n e = cc

pub ticked-is : (instr : Instr) (n : ℕ) → ticked_of instr ≡ Some n → instr ≡ Tick n
ticked-is (Push a) n e = cc
ticked-is Drop n e = cc
ticked-is Copy n e = cc
ticked-is (Load a) n e = cc
ticked-is (Store a) n e = cc
ticked-is (Zero a b) n e = cc
ticked-is (CheckAt a b) n e = cc
ticked-is (LoadAt a b c) n e = cc
ticked-is (StoreAt a b c) n e = cc
ticked-is (ItemCheck a b) n e = cc
ticked-is (ItemLoad a b) n e = cc
ticked-is (ItemStore a b) n e = cc
ticked-is (Unary a b) n e = cc
ticked-is (Binary a b) n e = cc
ticked-is (Jump a) n e = cc
ticked-is (JumpZero a) n e = cc
ticked-is Turn n e = cc
ticked-is (Call a) n e = cc
ticked-is Return n e = cc
ticked-is End n e = cc
ticked-is (Window a b) n e = cc
ticked-is (BurstIn a) n e = cc
ticked-is (BurstOut a b) n e = cc
ticked-is (Spawn a) n e = cc
ticked-is (Tick a) n e = let same : a ≡ n = cc in ap (λ (m : ℕ). Tick m) same

-- an instruction that stores into an item, with its line
pub record Stores (instr : Instr) (item : ℕ) : Type 0 where
  pub line : ℕ
  pub is : instr ≡ ItemStore item line

pub stored-is : (instr : Instr) (n : ℕ) → stored_of instr ≡ Some n → Stores instr n
stored-is (Push a) n e = cc
stored-is Drop n e = cc
stored-is Copy n e = cc
stored-is (Load a) n e = cc
stored-is (Store a) n e = cc
stored-is (Zero a b) n e = cc
stored-is (CheckAt a b) n e = cc
stored-is (LoadAt a b c) n e = cc
stored-is (StoreAt a b c) n e = cc
stored-is (ItemCheck a b) n e = cc
stored-is (ItemLoad a b) n e = cc
stored-is (ItemStore a b) n e = let same : a ≡ n = cc in record { line = b; is = ap (λ (m : ℕ). ItemStore m b) same }
stored-is (Unary a b) n e = cc
stored-is (Binary a b) n e = cc
stored-is (Jump a) n e = cc
stored-is (JumpZero a) n e = cc
stored-is Turn n e = cc
stored-is (Call a) n e = cc
stored-is Return n e = cc
stored-is End n e = cc
stored-is (Window a b) n e = cc
stored-is (BurstIn a) n e = cc
stored-is (BurstOut a b) n e = cc
stored-is (Spawn a) n e = cc
stored-is (Tick a) n e = cc
