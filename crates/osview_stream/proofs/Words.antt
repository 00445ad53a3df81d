-- Words that name a stream.
use Rattle.std.proofs.Common.{◌≡◌, ◌∙◌, ◌+◌, ◌-◌, ◌<◌, ◌≤◌, ◌^◌, ◌++◌, ℕ, List, Option, None, Some, false, cond, codes, ap, append_assoc, sym, arith}
use Rattle.std.specs.Prelude.{◌==◌, ◌&&◌, IfNone, nat_lt}
use Rattle.std.specs.Fmt.{decimal}
use Rattle.std.proofs.lemmas.Bool.{le-leb, lt-ltb}
use Rattle.std.proofs.lemmas.Bool.Decides.{nat_tests}
use Rattle.std.proofs.lemmas.Fmt.{decimal_injective}
use Rattle.std.proofs.lemmas.List.{append_cancel_left, append_cancel_right}
use Rattle.osview_sentences.specs.Names.{called, slice}
use Rattle.osview_sentences.specs.declared.stream_name.StreamName.{StreamName}
use Rattle.osview_stream.specs.Called.{IsOf}

-- a number in brackets
abbrev pub indexed : ℕ → List ℕ
indexed k = codes "[" ++ decimal k ++ codes "]"

-- in brackets numbers stay apart
pub one_index : (front : List ℕ) (j k : ℕ) → j < 2 ^ 64 → k < 2 ^ 64 → front ++ indexed j ≡ front ++ indexed k → j ≡ k
one_index front j k small_j small_k same =
    decimal_injective j k small_j small_k
    (append_cancel_right (decimal j) (decimal k) (codes "]")
    (append_cancel_left (codes "[") (decimal j ++ codes "]") (decimal k ++ codes "]")
    (sym (append_assoc (codes "[") (decimal j) (codes "]")) ∙ append_cancel_left front (indexed j) (indexed k) same ∙ append_assoc (codes "[") (decimal k) (codes "]"))))

module _ (text : List ℕ) (streams : ℕ) (word : List ℕ) (name : StreamName) where
  front : List ℕ
  front = slice text name.start name.end

  -- a member of an array is called by the name and its index
  called_member : (stream : ℕ) → (name.count == 1) ≡ false → called text stream name ≡ slice text name.start name.end ++ indexed (stream - name.first)
  called_member stream several =
      ap (λ b. cond b (slice text name.start name.end) (slice text name.start name.end ++ codes "[" ++ decimal (stream - name.first) ++ codes "]")) several
      ∙ ap (λ x. x ++ codes "]") (append_assoc (slice text name.start name.end) (codes "[") (decimal (stream - name.first)))
      ∙ append_assoc (slice text name.start name.end) (codes "[" ++ decimal (stream - name.first)) (codes "]")

  pub member : (index : ℕ) → (name.count == 1) ≡ false → index < name.count → name.first + index < streams
      → word ≡ slice text name.start name.end ++ indexed index → IsOf text streams word name (name.first + index)
  member index several inside exists is =
      let at : name.first + index - name.first ≡ index = omega arith in
      record {
        exists = exists;
        covered = ap (λ b. b && nat_lt (name.first + index - name.first) name.count) (le-leb name.first (name.first + index) (omega arith))
            ∙ lt-ltb (name.first + index - name.first) name.count (omega arith);
        is_called = called_member (name.first + index) several ∙ ap (λ k. slice text name.start name.end ++ indexed k) at ∙ sym is;
      }

  -- one that is called so has its index there
  pub index_there : (stream : ℕ) → (name.count == 1) ≡ false → IsOf text streams word name stream → word ≡ slice text name.start name.end ++ indexed (stream - name.first)
  index_there stream several is = sym is.is_called ∙ called_member stream several

  pub inside : (stream : ℕ) → IsOf text streams word name stream → (name.first ≤ stream) × (stream - name.first < name.count)
  inside stream is = let c = is.covered in (grind (arith, nat_tests, c), grind (arith, nat_tests, c))

  pub single : name.count ≡ 1 → name.first < streams → slice text name.start name.end ≡ word → IsOf text streams word name name.first
  single one exists is =
      let none : name.first - name.first < name.count = omega arith in
      record {
        exists = exists;
        covered = ap (λ b. b && nat_lt (name.first - name.first) name.count) (le-leb name.first name.first (omega arith)) ∙ lt-ltb (name.first - name.first) name.count none;
        is_called = ap (λ n. cond (n == 1) (slice text name.start name.end) (slice text name.start name.end ++ codes "[" ++ decimal (name.first - name.first) ++ codes "]")) one ∙ is;
      }

  pub only_first : (stream : ℕ) → name.count ≡ 1 → IsOf text streams word name stream → (stream ≡ name.first) × (slice text name.start name.end ≡ word)
  only_first stream one is =
      let there = inside stream is in
      (omega (arith, there.0, there.1), sym (ap (λ n. cond (n == 1) (slice text name.start name.end) (slice text name.start name.end ++ codes "[" ++ decimal (stream - name.first) ++ codes "]")) one) ∙ is.is_called)

-- where no number in brackets stands behind a name, none does there
pub none_behind : (word name rest : List ℕ) (found : Option ℕ) → word ≡ name ++ rest
    → IfNone found ((index : ℕ) → index < 2 ^ 32 → rest ≡ indexed index → ⊥)
    → IfNone found ((index : ℕ) → index < 2 ^ 32 → word ≡ name ++ indexed index → ⊥)
none_behind word name rest None is none = λ index small there. none index small (append_cancel_left name rest (indexed index) (sym is ∙ there))
none_behind word name rest (Some k) is none = none
