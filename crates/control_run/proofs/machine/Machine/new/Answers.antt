use Rattle.std.proofs.Common.{ℕ, ◌-◌, [], ◌∷◌, set, take, to_z, ℤ, pos, ap, ◌∙◌, arith, w32, length-set}
use Rattle.std.proofs.lemmas.Int.{to_z_pos}
use Rattle.os_code.specs.Chains.{Alone}
use Rattle.os_code.specs.Codes.{parts_of}
use Rattle.os_code.specs.declared.unit.CodeUnit.{CodeUnit}
use Rattle.os_code.proofs.Fitting.{chain-few}
use Rattle.os_code.proofs.LargestSums.{chain_need-cons}
use Rattle.control_run.proofs.Coming.{begins-there}
use Rattle.control_run.proofs.Ready.{ready-slots}
use Rattle.control_run.proofs.machine.Machine.new.Goals as goal

pub index_mut-requires : goal.index_mut-requires
index_mut-requires c =
    let few = c.slots_need.ensures.bound (c.args.code.now.main ∷ []) (Alone c.args.code.now.main c.args.unit c.requires.unit) in
    let sum = chain_need-cons (parts_of c.args.code.now) (λ (u : CodeUnit). u.slots) c.args.code.now.main c.args.unit [] c.requires.unit in
    let args = c.args.code.now.valid.sites.main_args c.args.unit c.requires.unit in
    let fits = c.args.code.now.valid.frames.args_in_slots c.args.code.now.main c.args.unit c.requires.unit in
    let size = c.in_ok-slots.ensures.len in
    omega (arith, few, sum, args, fits, size)

pub returns-clause-come : goal.returns-clause-come
returns-clause-come c =
    let few = c.slots_need.ensures.bound (c.args.code.now.main ∷ []) (Alone c.args.code.now.main c.args.unit c.requires.unit) in
    let sum = chain_need-cons (parts_of c.args.code.now) (λ (u : CodeUnit). u.slots) c.args.code.now.main c.args.unit [] c.requires.unit in
    let args = c.args.code.now.valid.sites.main_args c.args.unit c.requires.unit in
    let fits = c.args.code.now.valid.frames.args_in_slots c.args.code.now.main c.args.unit c.requires.unit in
    let input = c.requires.input in
    begins-there (parts_of c.args.code.now) c.args.code.now.valid c.args.input_len c.args.budget c.args.unit c.requires.unit _ c.requires.budget
    (record {
      registers = ap (λ (n : ℕ). record { place = c.args.unit.start; top = 0; low = 0; first = 0; end = c.args.unit.slots; depth = 0; turns = c.args.budget; past = n - c.args.unit.start }) c.len.ensures;
      slots = ap (λ (v : ℤ). take c.args.unit.slots (set c.in_ok-slots.slots.items 0 v)) (to_z_pos w32 c.args.input_len (omega (arith, input)))
          ∙ ready-slots c.slots_need.result c.args.unit.slots c.args.unit.args (pos c.args.input_len) c.in_ok-slots.slots.items (c.in_ok-slots.ensures.items_if_clones_equal (λ x same. same)) args fits (omega (arith, few, sum));
      space = record {
        stack = λ chain is. let few = c.stack_need.ensures.bound chain is in let e = c.in_ok-vec.ensures.len in omega (arith, few, e);
        slots = λ chain is. let few = c.slots_need.ensures.bound chain is in let e = c.in_ok-slots.ensures.len in let n = length-set c.in_ok-slots.slots.items 0 (to_z w32 c.args.input_len) in omega (arith, few, e, n);
        calls = λ chain is. let few = chain-few (parts_of c.args.code.now) c.args.code.now.valid chain is in let e = c.in_ok-vec-2.ensures.len in omega (arith, few, e, c.len-2.ensures);
      };
      made = c.in_ok-new.ensures;
    })
