-- Activations that are moved, one by one.
use Rattle.std.proofs.Common.{◌≡◌, ℕ, ◌+◌, ◌<◌, ◌≤◌, List, [], ◌∷◌, ◌++◌, Some, length, get_or, set, slice_get, take, refl, sym, ap, ◌∙◌, append_assoc, arith}
use Rattle.std.proofs.lemmas.List.{get_or-set_other, length-set, take_more}
use Rattle.std.proofs.lemmas.Option.{get_or_from_slice_get}
use Rattle.flow_core_laws.specs.declared.activation.Activation.{Activation}
use Rattle.control_run.specs.Spawning.{no_activation}

-- the activations of the numbers from one on are still there
pub record AreLeft (number : ℕ) (all left : List Activation) : Type 0 where
  pub as_many : length left ≡ length all
  pub same : (k : ℕ) → number ≤ k → get_or left k no_activation ≡ get_or all k no_activation

pub all_left : (all : List Activation) → AreLeft 0 all all
all_left all = record { as_many = refl; same = λ k low. refl }

pub one_less : (number : ℕ) (all left : List Activation) → AreLeft number all left → AreLeft (number + 1) all (set left number no_activation)
one_less number all left are = record {
  as_many = length-set left number no_activation ∙ are.as_many;
  same = λ k low. get_or-set_other left number k no_activation no_activation (λ e. absurd (omega arith)) ∙ are.same k (omega arith);
}

pub one_moved : (number : ℕ) (all left old mid new : List Activation) (taken : Activation) → number < length all → AreLeft number all left → slice_get left number ≡ Some taken
    → mid ≡ old ++ take number all → new ≡ mid ++ taken ∷ [] → new ≡ old ++ take (number + 1) all
one_moved number all left old mid new taken lt are at before step =
    let same : taken ≡ get_or all number no_activation = sym (get_or_from_slice_get left number taken no_activation at) ∙ are.same number (omega arith) in
    step
    ∙ ap (λ xs. xs ++ taken ∷ []) before
    ∙ append_assoc old (take number all) (taken ∷ [])
    ∙ ap (λ x. old ++ (take number all ++ x ∷ [])) same
    ∙ ap (λ xs. old ++ xs) (sym (take_more all number no_activation lt))
