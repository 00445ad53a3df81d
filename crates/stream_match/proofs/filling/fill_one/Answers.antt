use Rattle.std.proofs.Common.{◌∙◌, ◌++◌, is_none, count_by, ap, map, sym}
use Rattle.std.specs.Option.{option_map_or}
use Rattle.std.specs.Prelude.{Some}
use Rattle.stream_match.specs.EpochPlan.{epoch_opening, opening_element}
use Rattle.stream_match.specs.Kept.{kept_of}
use Rattle.stream_match_layouts.proofs.Pushing.{map-range-same}
use Rattle.stream_match.proofs.filling.fill_one.Goals as goal

pub returns-clause-cells : goal.returns-clause-cells
returns-clause-cells c =
    let s = c.args.stretch in
    let opening = opening_element c.args.input.now s.stream in
    c.in_ok-empty-2.ensures.cells
    ∙ ap (λ xs. c.args.cells.now ++ xs) (map-range-same opening (epoch_opening c.args.input.now (map kept_of c.args.kept.now) s.stream) s.first s.count
    (λ p low high. sym (ap (λ o. option_map_or (λ e. Some e) o (opening p)) (c.is_kept_in.ensures c.if-is_kept_in.false p low high))))

pub returns-clause-empty : goal.returns-clause-empty
returns-clause-empty c =
    let s = c.args.stretch in
    let opening = opening_element c.args.input.now s.stream in
    c.in_ok-empty-2.ensures.empty
    ∙ ap (count_by is_none) (map-range-same opening (epoch_opening c.args.input.now (map kept_of c.args.kept.now) s.stream) s.first s.count
    (λ p low high. sym (ap (λ o. option_map_or (λ e. Some e) o (opening p)) (c.is_kept_in.ensures c.if-is_kept_in.false p low high))))
