-- A stretch of code that goes from one height of the operand stack to another, all of it fine.
use Rattle.std.proofs.Common.{◌≡◌, ℕ, suc, ◌+◌, ◌-◌, ◌<◌, ◌≤◌, Bool, true, false, if◌then◌else◌, List, [], ◌∷◌, ◌++◌, Some, None, refl, sym, ap, ◌∙◌, subst, inl, inr, arith}
use Rattle.std.proofs.lemmas.Bool.{cases_lt}
use Rattle.std.specs.Prelude.{⊤, ◌⊎◌}
use Rattle.os_ast.specs.Notes.Kinds.{Note}
use Rattle.os_code.specs.Effects.{operands_of, height_after, jump_of, falls_through, needs_turn}
use Rattle.os_code.specs.Parts.{instr_at}
use Rattle.os_code.specs.declared.instr.Instr.{Instr}
use Rattle.os_code.specs.declared.instr.Instr.TheVariants as instr
use Rattle.lowering_relation.specs.Expressions.{Stands}
use Rattle.lowering_relation.proofs.Heights.{height_at, behind_one, height_behind}
use Rattle.lowering_relation.proofs.Homes.{Home, Suits, Unturned, IsTarget, IsFine, AreFine, AllFit}

-- from a height x to a height y, where something is given
pub record Lays (h : Home) (given : Type 0) (from x to y : ℕ) : Type 0 where
  pub onward : from ≤ to
  pub height : height_at h.code from ≡ x → height_at h.code to ≡ y
  pub unturned : from < to → Unturned h.code to
  pub fine : given → h.first ≤ from → to < h.last → height_at h.code from ≡ x → AreFine h from to

abbrev pub is_turn : Instr → Bool
is_turn instr.Turn = true
is_turn _ = false

-- an instruction that goes on to the next place, and stands anywhere
abbrev pub IsPlain : Instr → Type 0
IsPlain i = (falls_through i ≡ true) × (jump_of i ≡ None) × (needs_turn i ≡ false) × (is_turn i ≡ false)

-- instructions that go from one height to another
abbrev pub Rises : Home → List Instr → (x y : ℕ) → Type 0
Rises h [] x y = x ≡ y
Rises h (i ∷ is) x y = IsPlain i × (operands_of h.code i ≤ x) × Suits h i × Rises h is (height_after h.code i x) y

pub fit_first : (h : Home) (xs ys : List Note) → AllFit h (xs ++ ys) → AllFit h xs
fit_first h [] ys all = tt
fit_first h (x ∷ xs) ys all = (all.0, fit_first h xs ys all.1)

pub fit_rest : (h : Home) (xs ys : List Note) → AllFit h (xs ++ ys) → AllFit h ys
fit_rest h [] ys all = all
fit_rest h (x ∷ xs) ys all = fit_rest h xs ys all.1

-- Where code up to a place may jump to with no operands: forwards where no `Turn` stands before it, and else to a `Turn`.
pub record IsLabel (h : Home) (to label : ℕ) : Type 0 where
  pub low : h.first ≤ label
  pub high : label < h.last
  pub height : height_at h.code label ≡ 0
  pub lands : ((to ≤ label) × Unturned h.code label) ⊎ (instr_at h.code label ≡ Some instr.Turn)

module _ (h : Home) where
  pub label_before : {a b label : ℕ} → a ≤ b → IsLabel h b label → IsLabel h a label
  label_before {a = a} {b = b} {label = label} le l = record { low = l.low; high = l.high; height = l.height; lands = by_lands l.lands }
    where
      by_lands : ((b ≤ label) × Unturned h.code label) ⊎ (instr_at h.code label ≡ Some instr.Turn) →
          ((a ≤ label) × Unturned h.code label) ⊎ (instr_at h.code label ≡ Some instr.Turn)
      by_lands (inl k) = inl (omega (arith, le, k.0), k.1)
      by_lands (inr k) = inr k

  pub label_target : {to label : ℕ} (place : ℕ) → place < to → IsLabel h to label → IsTarget h place label 0
  label_target {to = to} {label = label} place lt l = record { low = l.low; high = l.high; height = l.height; lands = by_lands l.lands }
    where
      by_lands : ((to ≤ label) × Unturned h.code label) ⊎ (instr_at h.code label ≡ Some instr.Turn) →
          ((place < label) × Unturned h.code label) ⊎ (instr_at h.code label ≡ Some instr.Turn)
      by_lands (inl k) = inl (omega (arith, lt, k.0), k.1)
      by_lands (inr k) = inr k

  pub nothing : {given : Type 0} (from x : ℕ) → Lays h given from x from x
  nothing from x = record {
    onward = omega arith;
    height = λ e. e;
    unturned = λ lt. absurd (omega (arith, lt));
    fine = λ g low high e p i ge lt is. absurd (omega (arith, ge, lt));
  }

  pub then_lays : {given : Type 0} {a x b y c z : ℕ} → Lays h given a x b y → Lays h given b y c z → Lays h given a x c z
  then_lays {given = given} {a = a} {x = x} {b = b} {c = c} f s = record {
    onward = omega (arith, f.onward, s.onward);
    height = λ e. s.height (f.height e);
    unturned = λ lt. last_of lt (cases_lt b c);
    fine = λ g low high e p i ge lt is. by_place g low high e p i ge lt is (cases_lt p b);
  }
    where
      last_of : a < c → (b < c) ⊎ (c ≤ b) → Unturned h.code c
      last_of lt (inl more) = s.unturned more
      last_of lt (inr none) =
          let same : b ≡ c = omega (arith, none, s.onward) in
          subst (Unturned h.code) same (f.unturned (omega (arith, lt, same)))

      by_place : given → h.first ≤ a → c < h.last → height_at h.code a ≡ x → (p : ℕ) (i : Instr) → a ≤ p → p < c → instr_at h.code p ≡ Some i →
          (p < b) ⊎ (b ≤ p) → IsFine h p i
      by_place g low high e p i ge lt is (inl early) = f.fine g low (omega (arith, high, s.onward)) e p i ge early is
      by_place g low high e p i ge lt is (inr late) = s.fine g (omega (arith, low, f.onward)) high (f.height e) p i late lt is

  -- what is given may be more
  pub from_more : {given more : Type 0} {a x b y : ℕ} → (more → given) → Lays h given a x b y → Lays h more a x b y
  from_more less f = record { onward = f.onward; height = f.height; unturned = f.unturned; fine = λ g. f.fine (less g) }

  pub free : {given : Type 0} {a x b y : ℕ} → Lays h ⊤ a x b y → Lays h given a x b y
  free f = from_more (λ g. tt) f

  -- it may be given too that the end of the stretch is within the region
  pub closed : {given : Type 0} {a x b y : ℕ} → Lays h (given × (b < h.last)) a x b y → Lays h given a x b y
  closed f = record { onward = f.onward; height = f.height; unturned = f.unturned; fine = λ g low high. f.fine (g, high) low high }

  -- it may be given too that its end is a label, where it has one
  pub own_label : {given : Type 0} {a b : ℕ} → Lays h (given × (a < b → IsLabel h b b)) a 0 b 0 → Lays h given a 0 b 0
  own_label {a = a} {b = b} f = record {
    onward = f.onward;
    height = f.height;
    unturned = f.unturned;
    fine = λ g low high e. f.fine (g, λ lt. label low high e lt) low high e;
  }
    where
      label : h.first ≤ a → b < h.last → height_at h.code a ≡ 0 → a < b → IsLabel h b b
      label low high e lt = record { low = omega (arith, low, lt); high = high; height = f.height e; lands = inl (omega arith, f.unturned lt) }

  pub to_end : {given : Type 0} {a x b c y : ℕ} → b ≡ c → Lays h given a x b y → Lays h given a x c y
  to_end {given = given} {a = a} {x = x} {y = y} e f = subst (λ p. Lays h given a x p y) e f

  pub to_height : {given : Type 0} {a x b y z : ℕ} → y ≡ z → Lays h given a x b y → Lays h given a x b z
  to_height {given = given} {a = a} {x = x} {b = b} e f = subst (λ y. Lays h given a x b y) e f

  -- one instruction
  pub at_one : (place : ℕ) (i : Instr) → instr_at h.code place ≡ Some i → IsFine h place i → AreFine h place (place + 1)
  at_one place i is fine p j ge lt there =
      let e : place ≡ p = omega (arith, ge, lt) in
      let same : Some i ≡ Some j = sym is ∙ subst (λ q. instr_at h.code q ≡ Some j) (sym e) there in
      let k : i ≡ j = cc in
      subst (λ q. IsFine h q j) e (subst (IsFine h place) k fine)

  no_turn : (place : ℕ) (i : Instr) → instr_at h.code place ≡ Some i → is_turn i ≡ false → Unturned h.code (place + 1)
  no_turn place i is other p e turn =
      let same : place ≡ p = omega (arith, e) in
      let twice : Some i ≡ Some instr.Turn = sym is ∙ subst (λ q. instr_at h.code q ≡ Some instr.Turn) (sym same) turn in
      let k : i ≡ instr.Turn = cc in
      let t : is_turn i ≡ true = ap is_turn k in
      absurd (cc)

  pub one : {given : Type 0} (place : ℕ) (i : Instr) (x y : ℕ) → instr_at h.code place ≡ Some i → is_turn i ≡ false →
      ((z : ℕ) → z ≡ x → behind_one h.code z i ≡ y) →
      (given → h.first ≤ place → place + 1 < h.last → height_at h.code place ≡ x → IsFine h place i) → Lays h given place x (place + 1) y
  one place i x y is other rises fine = record {
    onward = omega arith;
    height = λ e. height_behind h.code place i is ∙ rises (height_at h.code place) e;
    unturned = λ lt. no_turn place i is other;
    fine = λ g low high e. at_one place i is (fine g low high e);
  }

  -- an instruction that goes on
  plain : (place : ℕ) (i : Instr) (x : ℕ) → instr_at h.code place ≡ Some i → IsPlain i → operands_of h.code i ≤ x → Suits h i →
      Lays h ⊤ place x (place + 1) (height_after h.code i x)
  plain place i x is (on, none, low, other) enough suits =
      one place i x (height_after h.code i x) is other (λ z e. ap (λ t. if t then height_after h.code i z else z - 1) on ∙ ap (height_after h.code i) e)
      (λ g first last e. record {
        enough = omega (arith, enough, e);
        jumps = λ to is_to. let z : None ≡ Some to = sym none ∙ is_to in absurd (cc);
        turned = λ t. let z : true ≡ false = sym t ∙ low in absurd (cc);
        suits = suits;
      })

  -- instructions that go on, one after another
  pub straight : (is : List Instr) (from to x y : ℕ) → Stands h.code is from to → Rises h is x y → Lays h ⊤ from x to y
  straight [] from to x y stands rises = to_end stands (to_height rises (nothing from x))
  straight (i ∷ is) from to x y stands rises =
      then_lays (plain from i x stands.0 rises.0 rises.1 rises.2) (straight is (from + 1) to (height_after h.code i x) y stands.1 rises.3)

  -- A jump may count on the height behind it.
  pub jumping : {given : Type 0} (place to x y : ℕ) → instr_at h.code place ≡ Some (instr.Jump to) → x - 1 ≡ y →
      (given → h.first ≤ place → place + 1 < h.last → height_at h.code (place + 1) ≡ y → IsTarget h place to x) → Lays h given place x (place + 1) y
  jumping place to x y is less target =
      let behind : (z : ℕ) → z ≡ x → behind_one h.code z (instr.Jump to) ≡ y = λ z e. ap (λ n. n - 1) e ∙ less in
      one place (instr.Jump to) x y is refl behind
      (λ g first last e. record {
        enough = omega arith;
        jumps = λ other same. let k : to ≡ other = cc in
            subst (λ q. IsTarget h place q (height_at h.code place - 0 + 0)) k
            (subst (IsTarget h place to) (omega (arith, e)) (target g first last (height_behind h.code place (instr.Jump to) is ∙ behind (height_at h.code place) e)));
        turned = λ t. absurd (cc);
        suits = tt;
      })

  pub jumping_zero : {given : Type 0} (place to x : ℕ) → instr_at h.code place ≡ Some (instr.JumpZero to) →
      (given → h.first ≤ place → place + 1 < h.last → height_at h.code (place + 1) ≡ x → IsTarget h place to x) → Lays h given place (suc x) (place + 1) x
  jumping_zero place to x is target =
      let behind : (z : ℕ) → z ≡ suc x → behind_one h.code z (instr.JumpZero to) ≡ x = λ z e. omega (arith, e) in
      one place (instr.JumpZero to) (suc x) x is refl behind
      (λ g first last e. record {
        enough = omega (arith, e);
        jumps = λ other same. let k : to ≡ other = cc in
            subst (λ q. IsTarget h place q (height_at h.code place - 1 + 0)) k
            (subst (IsTarget h place to) (omega (arith, e)) (target g first last (height_behind h.code place (instr.JumpZero to) is ∙ behind (height_at h.code place) e)));
        turned = λ t. absurd (cc);
        suits = tt;
      })

  -- a call or a tick behind its `Turn`
  pub turned : (from to x y : ℕ) (i : Instr) → Stands h.code (instr.Turn ∷ i ∷ []) from to → falls_through i ≡ true → jump_of i ≡ None → is_turn i ≡ false →
      operands_of h.code i ≤ x →
      height_after h.code i x ≡ y → Suits h i → Lays h ⊤ from x to y
  turned from to x y i stands on none other enough rises suits = record {
    onward = omega (arith, stands.1.1);
    height = λ e. reaches e;
    unturned = λ lt. subst (Unturned h.code) stands.1.1 (no_turn (from + 1) i stands.1.0 other);
    fine = λ g low high e p j ge lt is. by_place e p j ge lt is (cases_lt p (from + 1));
  }
    where
      before : height_at h.code from ≡ x → height_at h.code (from + 1) ≡ x
      before e = height_behind h.code from instr.Turn stands.0 ∙ omega (arith, e)

      reaches : height_at h.code from ≡ x → height_at h.code to ≡ y
      reaches e =
          ap (height_at h.code) (sym stands.1.1)
          ∙ height_behind h.code (from + 1) i stands.1.0
          ∙ ap (λ t. if t then height_after h.code i (height_at h.code (from + 1)) else height_at h.code (from + 1) - 1) on
          ∙ ap (height_after h.code i) (before e)
          ∙ rises

      by_place : height_at h.code from ≡ x → (p : ℕ) (j : Instr) → from ≤ p → p < to → instr_at h.code p ≡ Some j → (p < from + 1) ⊎ (from + 1 ≤ p) →
          IsFine h p j
      by_place e p j ge lt is (inl early) =
          at_one from instr.Turn stands.0
          (record { enough = omega arith; jumps = λ q z. absurd (cc); turned = λ t. absurd (cc); suits = tt })
          p j ge early is
      by_place e p j ge lt is (inr late) =
          at_one (from + 1) i stands.1.0
          (record {
            enough = omega (arith, enough, before e);
            jumps = λ q z. let none_is : None ≡ Some q = sym none ∙ z in absurd (cc);
            turned = λ t. subst (λ q. instr_at h.code q ≡ Some instr.Turn) (omega arith) stands.0;
            suits = suits;
          })
          p j late (omega (arith, lt, stands.1.1)) is

  -- a loop begins with a `Turn`, which is a label of its own
  pub looping : {given : Type 0} (from to : ℕ) → instr_at h.code from ≡ Some instr.Turn → from + 1 < to → Lays h (given × IsLabel h to from) (from + 1) 0 to 0 →
      Lays h given from 0 to 0
  looping {given = given} from to is some f = record {
    onward = omega (arith, some);
    height = λ e. f.height (behind e);
    unturned = λ lt. f.unturned some;
    fine = λ g low high e p j ge lt there. by_place (g, label low high e) low high e p j ge lt there (cases_lt p (from + 1));
  }
    where
      behind : height_at h.code from ≡ 0 → height_at h.code (from + 1) ≡ 0
      behind e = height_behind h.code from instr.Turn is ∙ omega (arith, e)

      label : h.first ≤ from → to < h.last → height_at h.code from ≡ 0 → IsLabel h to from
      label low high e = record { low = low; high = omega (arith, some, high); height = e; lands = inr is }

      by_place : given × IsLabel h to from → h.first ≤ from → to < h.last → height_at h.code from ≡ 0 → (p : ℕ) (j : Instr) → from ≤ p → p < to →
          instr_at h.code p ≡ Some j → (p < from + 1) ⊎ (from + 1 ≤ p) → IsFine h p j
      by_place g low high e p j ge lt there (inl early) =
          at_one from instr.Turn is
          (record { enough = omega arith; jumps = λ q z. absurd (cc); turned = λ t. absurd (cc); suits = tt })
          p j ge early there
      by_place g low high e p j ge lt there (inr late) = f.fine g (omega (arith, low)) high (behind e) p j late lt there

  -- what ends a body has its value on the stack, if it asks for one
  pub leaving : {given : Type 0} (place x : ℕ) (i : Instr) → instr_at h.code place ≡ Some i → falls_through i ≡ false → jump_of i ≡ None → needs_turn i ≡ false →
      is_turn i ≡ false →
      operands_of h.code i ≤ x → Suits h i → Lays h given place x (place + 1) (x - 1)
  leaving place x i is off none low other enough suits =
      one place i x (x - 1) is other (λ z e. ap (λ t. if t then height_after h.code i z else z - 1) off ∙ ap (λ n. n - 1) e)
      (λ g first last e. record {
        enough = omega (arith, enough, e);
        jumps = λ to is_to. let z : None ≡ Some to = sym none ∙ is_to in absurd (cc);
        turned = λ t. let z : true ≡ false = sym t ∙ low in absurd (cc);
        suits = suits;
      })
