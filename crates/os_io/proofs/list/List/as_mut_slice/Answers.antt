use Rattle.std.proofs.Common.{◌≡◌, ◌++◌, length, take, drop, refl, sym, ap, ◌∙◌}
use Rattle.os_io.specs.Lending.{written_over}
use Rattle.os_io.proofs.list.List.as_mut_slice.Goals as goal

pub returns : goal.returns
returns g c =
    let count : c.self.inside.items.len ≡ length c.self.inside.items.items =
    sym c.as_mut_slice.ensures.len ∙ ap length c.as_mut_slice.ensures.value in
    ((refl {a = c.as_mut_slice.result.ghost_name}, λ w. ap (λ n. take n (w ++ drop (length w) c.self.inside.items.items)) count ∙ ap (λ items. written_over items w) c.self.view_is), record { writes_back = tt; value = c.as_mut_slice.ensures.value ∙ c.self.view_is })
