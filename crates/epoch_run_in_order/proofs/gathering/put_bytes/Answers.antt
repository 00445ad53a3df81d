use Rattle.std.proofs.Common.{◌≡◌, ℕ, ℤ, ◌+◌, ◌<◌, ◌≤◌, List, [], ◌∷◌, ◌++◌, map, length, get_or, take, pos, refl, sym, ap, ◌∙◌, append_assoc, arith}
use Rattle.std.proofs.lemmas.Grind.{common_steps}
use Rattle.std.proofs.lemmas.Int.{ints, to_z-of_z}
use Rattle.std.proofs.lemmas.List.{append-nil, map_more, take_all, take_more_set}
use mir.Syntax.{w32}
use mir.Val.{of_z, to_z}
use Rattle.epoch_run_in_order.proofs.gathering.put_bytes.Goals as goal

pub loop-number-init : goal.loop-number-init
loop-number-init c = record {
  room = refl;
  put = ap (λ (n : ℕ). take n c.args.places.now) (let e : c.args.first + 0 ≡ c.args.first = omega arith in e) ∙ sym (append-nil (take c.args.first c.args.places.now));
}

pub loop-number-preserved : goal.loop-number-preserved
loop-number-preserved c =
    let bytes = c.args.bytes.now in
    let places = c.loop-number.places in
    let first = c.args.first in
    let k = c.loop-number.number in
    let b = get_or bytes k 0 in
    let lt : k < length bytes = c.loop-number-test.true in
    let room = c.loop-number.invariant.room in
    let within : first + length bytes ≤ length c.args.places.now = c.requires in
    let fits = c.type_inv.bytes k in
    let same : to_z w32 (of_z w32 c.from.result) ≡ pos b = first_of (grind (arith, to_z-of_z), grind (arith, ints, to_z-of_z), grind (arith, common_steps, ints, to_z-of_z)) in
    record {
      room = grind (arith, common_steps);
      put =
          ap (λ (n : ℕ). take n (lib.ListN.set places (first + k) (to_z w32 (of_z w32 c.from.result)))) (let e : first + (k + 1) ≡ first + k + 1 = omega arith in e)
          ∙ take_more_set places (first + k) (to_z w32 (of_z w32 c.from.result)) (omega arith)
          ∙ ap (λ (x : ℤ). take (first + k) places ++ x ∷ []) same
          ∙ ap (λ (xs : List ℤ). xs ++ pos b ∷ []) c.loop-number.invariant.put
          ∙ append_assoc (take first c.args.places.now) (map pos (take k bytes)) (pos b ∷ [])
          ∙ ap (λ (xs : List ℤ). take first c.args.places.now ++ xs) (sym (map_more pos bytes k 0 lt));
    }

pub returns-clause-values : goal.returns-clause-values
returns-clause-values c =
    let bytes = c.args.bytes.now in
    let n = c.loop-number.number in
    let past : length bytes ≤ n = c.loop-number-test.false in
    let is : length bytes ≡ n = omega arith in
    ap (λ (m : ℕ). take (c.args.first + m) c.loop-number.places) is
    ∙ c.loop-number.invariant.put
    ∙ ap (λ (xs : List ℕ). take c.args.first c.args.places.now ++ map pos xs) (take_all n bytes past)
