-- Behind a scope or a body what was entered is restored, where what was in scope is still there.
use Rattle.std.proofs.Common.{◌≡◌, ℕ, ◌-◌, ◌≤◌, suc, List, ◌∷◌, length, drop, ap, arith, ◌∙◌}
use Rattle.os_ast.specs.Kept.{Keeps, same, more}
use Rattle.os_ast.specs.Names.{Scope, leave, after_unit}
use Rattle.os_ast.specs.declared.names.Entry.{Entry}
use Rattle.window_check_names.specs.Scopes.{outer_of, around_of, returned, ended}

kept_length : {a b : List Entry} → Keeps a b → length a ≤ length b
kept_length same = omega arith
kept_length (more k) = let h = kept_length k in omega arith

drop_more : (e : Entry) (b : List Entry) (n : ℕ) → n ≤ length b → drop (length (e ∷ b) - n) (e ∷ b) ≡ drop (length b - n) b
drop_more e b n h =
    let is : length (e ∷ b) - n ≡ suc (length b - n) = omega arith in
    ap (λ (k : ℕ). drop k (e ∷ b)) is

-- without what was declared since then
pub drop_kept : (a b : List Entry) → Keeps a b → drop (length b - length a) b ≡ a
drop_kept a _ same = let none : length a - length a ≡ 0 = omega arith in ap (λ (k : ℕ). drop k a) none
drop_kept a _ (more {e = e} {entries = b} k) = drop_more e b (length a) (kept_length k) ∙ drop_kept a b k

pub returned_leave : (s inner : Scope) → Keeps s.entries inner.entries → returned (outer_of s) inner ≡ leave s inner
returned_leave s inner k =
    ap (λ (es : List Entry). record inner { entries = es; depth = s.depth; loop = s.loop }) (drop_kept s.entries inner.entries k)

pub ended_unit : (s inner : Scope) → Keeps s.entries inner.entries → ended (around_of s) inner ≡ after_unit s inner
ended_unit s inner k =
    ap
    (λ (es : List Entry). record inner { entries = es; depth = s.depth; loop = s.loop; owner = s.owner; captured = s.captured; slots = s.slots; elements = s.elements })
    (drop_kept s.entries inner.entries k)
