-- Tasks find their sites.
use Rattle.std.proofs.Common.{◌≡◌, ℕ, suc, ◌+◌, ◌*◌, List, [], ◌∷◌, length, Some, None, slice_get, refl, sym, ap, ◌∙◌, subst, arith}
use Rattle.std.proofs.lemmas.Option.{slice_get_within}
use Rattle.std.specs.Option.{option_map_or}
use Rattle.os_ast.specs.ClauseMembers.{ClauseMember, Item, Private, count_items}
use Rattle.os_ast.specs.declared.names.Resolved.{Resolved}
use Rattle.os_code.specs.declared.site.Site.{Site}
use Rattle.lowering_relation.specs.Programs.{HasTask}
use Rattle.lowering_relation.specs.Tasks.{TaskTree, task_index, site_items}
use Rattle.lowering_relation.proofs.Homes.{Home, AreSpawned}
use Rattle.lowering_relation.proofs.TaskMarks.{Rises, place_of, position_is}

pub items_length : (tells : ℕ → Resolved) (ps : List ClauseMember) → length (site_items tells ps) ≡ count_items ps
items_length tells [] = refl
items_length tells (Private n ∷ ps) = items_length tells ps
items_length tells (Item d i ∷ ps) = ap suc (items_length tells ps)

-- where there is no task, none is found
pub none_spawned : (h : Home) → h.body.tasks ≡ [] → (ts : List TaskTree) → AreSpawned h ts
none_spawned h none [] = tt
none_spawned h none (t ∷ ts) = (
  λ number is. let bad : None ≡ Some number = sym (ap (λ all. task_index all t.mark) none) ∙ is in absurd (cc),
  none_spawned h none ts,
)

module _ (h : Home) (tells : ℕ → Resolved) (captured : List (List ℕ)) (lo hi : ℕ) (rises : Rises place_of lo h.body.tasks hi)
    (has : (number : ℕ) (t : TaskTree) → slice_get h.body.tasks number ≡ Some t → HasTask h.code tells captured number t) where
  pub all_spawned : (ts : List TaskTree) (k : ℕ) → ((j : ℕ) (t : TaskTree) → slice_get ts j ≡ Some t → slice_get h.body.tasks (k + j) ≡ Some t) →
      AreSpawned h ts
  all_spawned [] k there = tt
  all_spawned (t ∷ ts) k there = (
    λ number is.
        let e : k + 0 ≡ k = omega arith in
        let at_k : slice_get h.body.tasks k ≡ Some t = ap (slice_get h.body.tasks) (sym e) ∙ there 0 t refl in
        let found : Some k ≡ Some number = sym (position_is place_of lo h.body.tasks hi k t rises at_k) ∙ is in
        let same : k ≡ number = cc in
        let task = has number t (subst (λ n. slice_get h.body.tasks n ≡ Some t) same at_k) in (
          ap (λ o. option_map_or (λ (site : Site). 2 * length site.items) o 0) task.is_site
              ∙ omega (arith, ap (λ xs. length xs) task.items, items_length tells t.members),
          slice_get_within h.code.sites number task.site task.is_site,
        ),
    all_spawned ts (suc k) (λ j u is.
        let e : k + suc j ≡ suc k + j = omega arith in
        ap (slice_get h.body.tasks) (sym e) ∙ there (suc j) u is),
  )
