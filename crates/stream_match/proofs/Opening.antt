-- The cells of a stretch of which nothing is kept.
use Rattle.std.proofs.Common.{◌≡◌, ℕ, zero, suc, pos, ◌+◌, ◌-◌, ◌*◌, ◌<◌, ◌≤◌, ◌++◌, ◌∷◌, cond, List, Option, Some, None, is_none, count_by, get_or, zero-add, length, map, refl, ap, ◌∙◌, arith}
use Rattle.std.specs.Prelude.{min, replicate, slice_get}
use Rattle.std.specs.Option.{option_map}
use Rattle.std.specs.List.{range_with_len}
use Rattle.std.proofs.lemmas.Bool.{ne_eqb}
use Rattle.std.proofs.lemmas.List.Sums.{sum_by-append, sum_by-cons}
use Rattle.std.proofs.lemmas.List.Folds.{sum_by-replicate}
use Rattle.std.proofs.lemmas.Option.{slice_get_past, slice_get-get_or}
use Rattle.flow_core_laws.specs.declared.elem.Elem.{Elem}
use Rattle.flow_core_laws.specs.declared.elem.Elem.TheVariants.{Value}
use Rattle.flow_core_laws.proofs.Stretches.{map-range-add}
use Rattle.stream_match.specs.EpochPlan.{opening_element}

-- where nothing is there, each cell is empty
none_there : (f : ℕ → Option Elem) (first n : ℕ) → ((k : ℕ) → first ≤ k → k < first + n → f k ≡ None) → map f (range_with_len first n) ≡ replicate n None
none_there f first zero none = refl
none_there f first (suc n) none =
    ap (λ v. v ∷ map f (range_with_len (first + 1) n)) (none first (omega arith) (omega arith))
    ∙ ap (λ vs. None ∷ vs) (none_there f (first + 1) n (λ k low high. none k (omega arith) (omega arith)))

-- on a declared stream and on the output nothing is there
pub declared_cells : (input : List ℕ) (stream first n : ℕ) → (stream ≡ 0 → ⊥) → map (opening_element input stream) (range_with_len first n) ≡ replicate n None
declared_cells input stream first n declared = none_there (opening_element input stream) first n (λ k low high. ap (λ b. cond b (option_map (λ byte. Value (pos byte)) (slice_get input k)) None) (ne_eqb stream 0 declared))

-- on the input nothing is there behind its end
pub input_cells : (input : List ℕ) (first count given : ℕ) → given ≡ min count (length input - first) → map (opening_element input 0) (range_with_len first count) ≡ map (opening_element input 0) (range_with_len first given) ++ replicate (count - given) None
input_cells input first count given is =
    let f = opening_element input 0 in
    ap (λ n. map f (range_with_len first n)) (let e : count ≡ given + (count - given) = omega (arith, is) in e)
    ∙ map-range-add f first given (count - given)
    ∙ ap (λ vs. map f (range_with_len first given) ++ vs) (none_there f (first + given) (count - given) (λ k low high. ap (option_map (λ byte. Value (pos byte))) (slice_get_past input k (omega (arith, is, low, high)))))

none_empty : (n : ℕ) → count_by is_none (replicate {A = Option Elem} n None) ≡ n
none_empty n = sum_by-replicate (λ (o : Option Elem). cond {A = ℕ} (is_none o) 1 0) n None ∙ (let e : n * 1 ≡ n = omega arith in e)

-- all of them are empty
pub declared_empty : (input : List ℕ) (stream first n : ℕ) → (stream ≡ 0 → ⊥) → count_by is_none (map (opening_element input stream) (range_with_len first n)) ≡ n
declared_empty input stream first n declared = ap (count_by is_none) (declared_cells input stream first n declared) ∙ none_empty n

-- up to its end all are there
given_there : (input : List ℕ) (first n : ℕ) → n ≤ length input - first → count_by is_none (map (opening_element input 0) (range_with_len first n)) ≡ 0
given_there input first zero le = refl
given_there input first (suc n) le =
    let f = opening_element input 0 in
    let here : f first ≡ Some (Value (pos (get_or input first 0))) = ap (option_map (λ byte. Value (pos byte))) (slice_get-get_or input first 0 (omega arith)) in
    let one : cond {A = ℕ} (is_none (f first)) 1 0 ≡ 0 = ap (λ (o : Option Elem). cond {A = ℕ} (is_none o) 1 0) here in
    omega (arith, sum_by-cons (λ (o : Option Elem). cond {A = ℕ} (is_none o) 1 0) (f first) (map f (range_with_len (first + 1) n)), one, given_there input (first + 1) n (omega arith))

-- so those behind its end are empty
pub input_empty : (input : List ℕ) (first count given : ℕ) → given ≡ min count (length input - first) → count_by is_none (map (opening_element input 0) (range_with_len first count)) ≡ count - given
input_empty input first count given is =
    let f = opening_element input 0 in
    ap (count_by is_none) (input_cells input first count given is)
    ∙ sum_by-append (λ (o : Option Elem). cond {A = ℕ} (is_none o) 1 0) (map f (range_with_len first given)) (replicate (count - given) None)
    ∙ ap (λ n. n + count_by is_none (replicate {A = Option Elem} (count - given) None)) (given_there input first given (omega (arith, is)))
    ∙ zero-add (count_by is_none (replicate {A = Option Elem} (count - given) None))
    ∙ none_empty (count - given)
