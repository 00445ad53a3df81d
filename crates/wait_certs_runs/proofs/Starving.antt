-- A run of lawful activations starves by chains.
use Rattle.std.proofs.Common.{◌≡◌, ◌∙◌, ◌⊎◌, inl, inr, ℕ, ◌-◌, ◌<◌, ◌≤◌, true, false, List, [], Option, Some, None, All, length, get_or, refl, sym, ap, subst, arith}
use Rattle.std.specs.Prelude.{Contains, IfSome, IsSome, is_some, slice_index, slice_index_or, option_and_then}
use Rattle.std.specs.Option.{option_map_or}
use Rattle.std.proofs.lemmas.Bool.{cases_lt}
use Rattle.std.proofs.lemmas.Grind.{get_or_default_zero}
use Rattle.std.proofs.lemmas.List.Elements.{All-contains}
use Rattle.std.proofs.lemmas.Option.{get_or_from_slice_get, same_Some}
use Rattle.collector.specs.Laws.{HasItsLines, OfFilled}
use Rattle.collector.specs.Missing.{missing}
use Rattle.collector.specs.Report.{activation_line, end_line, starved_line}
use Rattle.collector.specs.declared.missing.Missing.{Missing}
use Rattle.flow_core_laws.specs.declared.activation.Activation.{Activation}
use Rattle.flow_core_laws.specs.declared.ends.Ends.{Ends}
use Rattle.flow_core_laws.specs.declared.task_end.TaskEnd.{TaskEnd}
use Rattle.wait_certs.specs.Finding.{IsFinding}
use Rattle.wait_certs.specs.declared.finding.Finding.{Finding}
use Rattle.wait_certs.specs.declared.finding.Finding.TheVariants as finding
use Rattle.wait_certs_laws.specs.Chain.{IsChain, last_of}
use Rattle.wait_certs_laws.specs.Laws.{HasChain, IsShortChain, IsStarved, MembersStarve, OfStarved, OneWalk, WalksAreChains, ends_in}
use Rattle.wait_certs_laws.specs.Walk.{IsWalk, waited_for}
use Rattle.wait_certs_runs.specs.Meant.{OfCodeRuns, OfPrograms}
use Rattle.wait_certs_runs.specs.Starving.{AreOfLawful, IsChainOf, StarveByChains, Starves}

-- an end that isn't there
none_there : (o : Option TaskEnd) → is_some o ≡ false → o ≡ None
none_there None h = refl
none_there (Some end) h = absurd (cc)

module _ (starve : MembersStarve) (one : OneWalk) (have : OfStarved HasChain) (are : OfStarved WalksAreChains) (lines : OfFilled HasItsLines)
    (activations : List Activation) (input : List ℕ) (of : Ends) (is : AreOfLawful activations input of) where
  abbrev input_len : ℕ
  input_len = length input

  abbrev ends : List (Option TaskEnd)
  ends = of.ends

  same_ends : of.ends ≡ ends_in activations input is.body
  same_ends = ap (λ (e : Ends). e.ends) is.ends_are

  its_lines : HasItsLines activations input_len of
  its_lines = subst (HasItsLines activations input_len) (sym is.ends_are) (lines activations input is.body is.filled)

  has_chains : (a : ℕ) → Starves activations of a → HasChain activations input_len ends a
  has_chains a here =
      subst (λ es. HasChain activations input_len es a) (sym same_ends)
      (have is.streams activations input is.body a is.lawful is.filled here.0 (subst (λ es. IsStarved es a) same_ends here.1))

  has_short_walks : (a : ℕ) → Starves activations of a → WalksAreChains activations input_len ends a
  has_short_walks a here =
      subst (λ es. WalksAreChains activations input_len es a) (sym same_ends)
      (are is.streams activations input is.body a is.lawful is.filled here.0 (subst (λ es. IsStarved es a) same_ends here.1))

  all_starve : (members : List ℕ) → IsChain activations input_len members → All (Starves activations of) members
  all_starve members chain k d lt = (
    chain.members_exist k d lt,
    subst (λ es. IsStarved es (get_or members k d)) (sym same_ends) (starve activations input is.body members chain k d lt),
  )

  misses : (a : ℕ) → Starves activations of a → (first : Missing) × (missing activations input_len ends a ≡ Some first)
  misses a here = by (missing activations input_len ends a) refl (its_lines.misses a here.0 (none_there (slice_index_or ends a None) here.1))
    where
      by : (o : Option Missing) → missing activations input_len ends a ≡ o → IsSome o → (first : Missing) × (missing activations input_len ends a ≡ Some first)
      by None same some = absurd (cc)
      by (Some first) same some = (first, same)

  -- the first member of a walk, and the second
  at_first : (a : ℕ) (members : List ℕ) → IsWalk activations input_len ends a members → slice_index members 0 ≡ a
  at_first a members walk = get_or_from_slice_get members 0 a 0 walk.begins

  -- whom an activation that starves waits for is a member of its walk
  next_is_member : (a b : ℕ) (members : List ℕ) → 1 ≤ length members → IsWalk activations input_len ends a members
      → waited_for activations input_len ends a ≡ Some b → Contains members b
  next_is_member a b members some walk waits = by (cases_lt 1 (length members))
    where
      by : (1 < length members) ⊎ (length members ≤ 1) → Contains members b
      by (inl lt) =
          let on = walk.goes_on 0 (omega (arith, lt)) in
          let same : Some b ≡ Some (slice_index members 1) =
          sym waits ∙ ap (λ x. waited_for activations input_len ends x) (sym (at_first a members walk)) ∙ on in
          (1, lt, get_or_default_zero members 1 b lt ∙ sym (same_Some b (slice_index members 1) same))
      by (inr le) =
          let short : length members ≡ 1 = omega (arith, some, le) in
          let last : last_of members ≡ a = ap (λ n. slice_index members (n - 1)) short ∙ at_first a members walk in
          walk.goes_as_far b (ap (λ x. waited_for activations input_len ends x) last ∙ waits)

  waits_for : (a : ℕ) (m : Missing) (b : ℕ) → missing activations input_len ends a ≡ Some m → m.producer ≡ Some b
      → waited_for activations input_len ends a ≡ Some b
  waits_for a m b missed producer = ap (option_and_then (λ (n : Missing). n.producer)) missed ∙ producer

  tells : (a : ℕ) → Starves activations of a → (first : Missing) × (missing activations input_len ends a ≡ Some first)
      × (activation_line activations input_len ends a ≡ starved_line a first) × IfSome first.producer (Starves activations of)
  tells a here = (first, missed, line, by_producer first.producer refl)
    where
      found : (first : Missing) × (missing activations input_len ends a ≡ Some first)
      found = misses a here

      first : Missing
      first = found.0

      missed : missing activations input_len ends a ≡ Some first
      missed = found.1

      line : activation_line activations input_len ends a ≡ starved_line a first
      line =
          ap (λ o. option_map_or (end_line a) o (option_map_or (starved_line a) (missing activations input_len ends a) []))
          (none_there (slice_index_or ends a None) here.1)
          ∙ ap (λ o. option_map_or (starved_line a) o []) missed

      by_producer : (o : Option ℕ) → first.producer ≡ o → IfSome o (Starves activations of)
      by_producer None same = tt
      by_producer (Some b) same =
          let (members, begins, short, walk) = has_chains a here in
          All-contains (Starves activations of) members b (all_starve members short.is_chain)
          (next_is_member a b members short.is_chain.has_members walk (waits_for a first b missed same))

  is_chain_of : (a : ℕ) (members : List ℕ) → Starves activations of a → IsWalk activations input_len ends a members
      → (last : Missing) × (missing activations input_len ends (last_of members) ≡ Some last) × IsChainOf activations input_len of a members last
  is_chain_of a members here walk = (
    last,
    missed,
    record {
      begins = walk.begins;
      is_chain = short;
      is_walk = walk;
      only = λ others other. one activations input_len ends a others members other walk;
      members_starve = all;
      misses = missed;
      in_vain = by_producer last.producer refl;
    },
  )
    where
      short : IsShortChain activations input_len members
      short = has_short_walks a here members walk

      all : All (Starves activations of) members
      all = all_starve members short.is_chain

      at_last : Starves activations of (last_of members)
      at_last = let some = short.is_chain.has_members in all (length members - 1) 0 (omega (arith, some))

      found : (last : Missing) × (missing activations input_len ends (last_of members) ≡ Some last)
      found = misses (last_of members) at_last

      last : Missing
      last = found.0

      missed : missing activations input_len ends (last_of members) ≡ Some last
      missed = found.1

      by_producer : (o : Option ℕ) → last.producer ≡ o → IfSome o (Contains members)
      by_producer None same = tt
      by_producer (Some b) same = walk.goes_as_far b (waits_for (last_of members) last b missed same)

  explains : (a : ℕ) (found : Finding) → Starves activations of a → IsFinding activations input_len ends a found
      → (members : List ℕ) × (last : Missing) × (found ≡ finding.Starved members (Some last)) × IsChainOf activations input_len of a members last
  explains a finding.Absent here found = absurd (omega (arith, here.0, found))
  explains a finding.Ended here found = absurd (let never : true ≡ false = sym found.1 ∙ here.1 in cc)
  explains a (finding.Starved members told) here found =
      let (exists, starved, walk, told_is) = found in
      let (last, missed, chain) = is_chain_of a members here walk in
      (members, last, ap (finding.Starved members) (told_is ∙ missed), chain)

  pub starves_by_chains : StarveByChains activations input of
  starves_by_chains = record { chains = has_chains; walks = has_short_walks; explained = explains; told = tells }

-- so it is for every program, and for every valid code
module _ (starve : MembersStarve) (one : OneWalk) (have : OfStarved HasChain) (are : OfStarved WalksAreChains) (lines : OfFilled HasItsLines) where
  pub of_programs : OfPrograms AreOfLawful → OfPrograms StarveByChains
  of_programs lawful text p input task_budget control_budget made ends short accepted low made_is ends_are =
      starves_by_chains starve one have are lines made.activations input ends
      (lawful text p input task_budget control_budget made ends short accepted low made_is ends_are)

  pub of_codes : OfCodeRuns AreOfLawful → OfCodeRuns StarveByChains
  of_codes lawful code input task_budget control_budget made ends valid low made_is ends_are =
      starves_by_chains starve one have are lines made.activations input ends
      (lawful code input task_budget control_budget made ends valid low made_is ends_are)
