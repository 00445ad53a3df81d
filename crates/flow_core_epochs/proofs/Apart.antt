-- Lists of which no two elements meet.
use Rattle.std.proofs.Common.{◌≡◌, ℕ, zero, suc, ◌+◌, ◌<◌, List, [], ◌∷◌, ◌++◌, Option, Some, None, Bool, true, false, cond, map, length, refl, sym, ap, ◌∙◌, subst, ◌⊎◌, inl, inr, arith}
use Rattle.std.specs.Prelude.{slice_get, filter, ◌==◌, ◌||◌, nat_le}
use Rattle.std.specs.List.{range_with_len, flat_map}
use Rattle.std.proofs.lemmas.Option.{same_Some}
use Rattle.flow_core_laws.specs.declared.elem.Elem.{Elem}
use Rattle.flow_core_laws.specs.declared.activation.Activation.{Activation}
use Rattle.flow_core_laws.specs.declared.place.Place.{Place}
use Rattle.flow_core_laws.specs.Window.{Window, windows_of, windows, is_written_by}
use Rattle.flow_core_laws.specs.Place.{places_of}
use Rattle.flow_core_laws.proofs.Stretches.{stands_at, parts_before}
use Rattle.flow_core_laws.proofs.Windows.{one_writer_of}
use Rattle.flow_core_epochs.specs.Epoch.{Kept, elements_at, written_places, leaving_places, read_from}
use Rattle.flow_core_epochs.proofs.Members.{Has, of_map, of_append, of_filter, of_flat_map, of_range, has_tail}
use Rattle.flow_core_epochs.proofs.Written.{has_window, window_activation, lies_in, written_in, is_written_test}

-- no two elements at different numbers meet
abbrev pub Apart : {A : Type 0} → (A → A → Type 0) → List A → Type 0
Apart {A} meet xs = (i j : ℕ) (x y : A) → slice_get xs i ≡ Some x → slice_get xs j ≡ Some y → meet x y → i ≡ j

abbrev pub SamePlace : Kept → Kept → Type 0
SamePlace k l = k.place ≡ l.place

module _ {A : Type 0} (meet : A → A → Type 0) where
  apart_tail : (x : A) (xs : List A) → Apart meet (x ∷ xs) → Apart meet xs
  apart_tail x xs h i j y z y_at z_at m = let e = h (suc i) (suc j) y z y_at z_at m in omega arith

  apart_head : (x : A) (xs : List A) → Apart meet (x ∷ xs) → (y : A) → Has xs y → meet x y → ⊥
  apart_head x xs h y (i, at) m = let e = h 0 (suc i) x y refl at m in omega arith

  apart_head_back : (x : A) (xs : List A) → Apart meet (x ∷ xs) → (y : A) → Has xs y → meet y x → ⊥
  apart_head_back x xs h y (i, at) m = let e = h (suc i) 0 y x at refl m in omega arith

  apart_cons : (x : A) (xs : List A) → Apart meet xs → ((y : A) → Has xs y → meet x y → ⊥) → ((y : A) → Has xs y → meet y x → ⊥) → Apart meet (x ∷ xs)
  apart_cons x xs h front back zero zero y z y_at z_at m = refl
  apart_cons x xs h front back zero (suc j) y z y_at z_at m = absurd (front z (j, z_at) (subst (λ u. meet u z) (sym (same_Some x y y_at)) m))
  apart_cons x xs h front back (suc i) zero y z y_at z_at m = absurd (back y (i, y_at) (subst (λ u. meet y u) (sym (same_Some x z z_at)) m))
  apart_cons x xs h front back (suc i) (suc j) y z y_at z_at m = ap suc (h i j y z y_at z_at m)

  pub apart_filter : (test : A → Bool) (xs : List A) → Apart meet xs → Apart meet (filter test xs)
  apart_filter test [] h = h
  apart_filter test (x ∷ xs) h = by_test (test x) (apart_filter test xs (apart_tail x xs h))
    where
      by_test : (b : Bool) → Apart meet (filter test xs) → Apart meet (cond b (x ∷ filter test xs) (filter test xs))
      by_test true rest = apart_cons x (filter test xs) rest (λ y g. apart_head x xs h y (of_filter test xs y g).0) (λ y g. apart_head_back x xs h y (of_filter test xs y g).0)
      by_test false rest = rest

  pub apart_append : (xs ys : List A) → Apart meet xs → Apart meet ys → ((x y : A) → Has xs x → Has ys y → meet x y → ⊥) → ((x y : A) → Has xs x → Has ys y → meet y x → ⊥) → Apart meet (xs ++ ys)
  apart_append [] ys h g front back = g
  apart_append (x ∷ xs) ys h g front back = apart_cons x (xs ++ ys) (apart_append xs ys (apart_tail x xs h) g (λ a b a_in b_in. front a b (has_tail x xs a a_in) b_in) (λ a b a_in b_in. back a b (has_tail x xs a a_in) b_in)) (λ y there. ahead y (of_append xs ys y there)) (λ y there. behind y (of_append xs ys y there))
    where
      ahead : (y : A) → (Has xs y) ⊎ (Has ys y) → meet x y → ⊥
      ahead y (inl t) = apart_head x xs h y t
      ahead y (inr t) = front x y (0, refl) t

      behind : (y : A) → (Has xs y) ⊎ (Has ys y) → meet y x → ⊥
      behind y (inl t) = apart_head_back x xs h y t
      behind y (inr t) = back x y (0, refl) t

-- parts whose elements are apart, and that don't meet
pub apart_flat_map : {A B : Type 0} (meet : A → A → Type 0) (f : A → List B) (xs : List A) → Apart meet xs → ((x : A) → Has xs x → Apart (λ a b. a ≡ b) (f x)) → ((x y : A) (z : B) → Has xs x → Has xs y → Has (f x) z → Has (f y) z → meet x y) → Apart (λ a b. a ≡ b) (flat_map f xs)
apart_flat_map meet f [] h each met = λ i j x y at. absurd (cc)
apart_flat_map {A = A} {B = B} meet f (x ∷ xs) h each met =
    apart_append (λ a b. a ≡ b) (f x) (flat_map f xs) (each x (0, refl)) (apart_flat_map meet f xs (apart_tail meet x xs h) (λ y at. each y (has_tail x xs y at)) (λ y z b y_in z_in. met y z b (has_tail x xs y y_in) (has_tail x xs z z_in))) none (λ a b a_in b_in same. none a b a_in b_in (sym same))
  where
    none : (a b : B) → Has (f x) a → Has (flat_map f xs) b → a ≡ b → ⊥
    none a b a_in b_in same =
        let (y, y_in, there) = of_flat_map f xs b b_in in
        apart_head meet x xs h y y_in (met x y b (0, refl) (has_tail x xs y y_in) (subst (Has (f x)) same a_in) there)

-- numbers of a stretch, and what is made of them
pub apart_range : {B : Type 0} (f : ℕ → B) → ((m n : ℕ) → f m ≡ f n → m ≡ n) → (a n : ℕ) → Apart (λ x y. x ≡ y) (map f (range_with_len a n))
apart_range f one a zero = λ i j x y at. absurd (cc)
apart_range {B = B} f one a (suc n) = apart_cons (λ x y. x ≡ y) (f a) (map f (range_with_len (a + 1) n)) (apart_range f one (a + 1) n) above (λ y h same. above y h (sym same))
  where
    above : (y : B) → Has (map f (range_with_len (a + 1) n)) y → f a ≡ y → ⊥
    above y h same =
        let (m, at, is) = of_map f (range_with_len (a + 1) n) y h in
        let r = of_range (a + 1) n m at in
        let low = r.0 in
        let e : a ≡ m = one a m (same ∙ sym is) in
        omega arith

-- windows meet that write one place
pub record Meet (v w : Window) : Type 0 where
  pub place : Place
  pub one : is_written_by place.stream place.position v ≡ true
  pub other : is_written_by place.stream place.position w ≡ true

pub windows_apart : (activations : List Activation) (a : ℕ) → a < length activations → Apart Meet (windows_of activations a)
unfolding windows
windows_apart activations a lt i j v w v_at w_at m =
    let v_stands = stands_at (windows_of activations) 0 (length activations) a i v (omega arith) (omega arith) v_at in
    let w_stands = stands_at (windows_of activations) 0 (length activations) a j w (omega arith) (omega arith) w_at in
    let before = length (parts_before (windows_of activations) 0 a) in
    let e : before + i ≡ before + j = one_writer_of activations m.place.stream m.place.position (before + i) (before + j) v w v_stands w_stands m.one m.other in
    omega arith

-- the places that an activation writes
pub written_apart : (activations : List Activation) (a : ℕ) → a < length activations → Apart (λ p q. p ≡ q) (written_places activations a)
written_apart activations a lt =
    apart_flat_map Meet places_of (filter (λ (w : Window). w.claim.write) (windows_of activations a)) (apart_filter Meet (λ (w : Window). w.claim.write) (windows_of activations a) (windows_apart activations a lt))
    (λ w h. apart_range (λ position. record { stream = w.claim.stream; position = position }) (λ m n e. ap (λ (p : Place). p.position) e) w.first w.claim.horizon)
    (λ v w p v_in w_in p_in p_in'. record { place = p; one = is_written_test v p (of_filter (λ (w : Window). w.claim.write) (windows_of activations a) v v_in).1 (lies_in v p p_in); other = is_written_test w p (of_filter (λ (w : Window). w.claim.write) (windows_of activations a) w w_in).1 (lies_in w p p_in') })

-- one place is written by one activation
pub one_activation : (activations : List Activation) (a b : ℕ) (p : Place) → a < length activations → b < length activations → Has (written_places activations a) p → Has (written_places activations b) p → a ≡ b
one_activation activations a b p a_lt b_lt a_writes b_writes =
    let (v, v_stands, v_test, v_lies) = written_in activations a p a_writes in
    let (w, w_stands, w_test, w_lies) = written_in activations b p b_writes in
    let (i, v_at) = has_window activations a v a_lt v_stands in
    let (j, w_at) = has_window activations b w b_lt w_stands in
    let same : i ≡ j = one_writer_of activations p.stream p.position i j v w v_at w_at (is_written_test v p v_test v_lies) (is_written_test w p w_test w_lies) in
    let one : v ≡ w = same_Some v w (sym v_at ∙ ap (slice_get (windows activations)) same ∙ w_at) in
    sym (window_activation activations a v v_stands) ∙ ap (λ (u : Window). u.activation) one ∙ window_activation activations b w w_stands

-- the places that leave an epoch
pub leaving_apart : (activations : List Activation) (readers frames : List ℕ) → ((f a : ℕ) → slice_get frames f ≡ Some a → a < length activations) → ((f g a : ℕ) → slice_get frames f ≡ Some a → slice_get frames g ≡ Some a → f ≡ g) → Apart (λ p q. p ≡ q) (leaving_places activations readers frames)
leaving_apart activations readers frames exists once =
    apart_filter (λ p q. p ≡ q) (λ (p : Place). p.stream == 1 || nat_le (read_from activations readers p.stream) p.position) (flat_map (written_places activations) frames)
    (apart_flat_map (λ a b. a ≡ b) (written_places activations) frames (λ f g a b a_at b_at same. once f g a a_at (b_at ∙ ap Some (sym same))) (λ a h. let (f, at) = h in written_apart activations a (exists f a at)) (λ a b p a_in b_in p_in p_in'. let (f, at) = a_in in let (g, at') = b_in in one_activation activations a b p (exists f a at) (exists g b at') p_in p_in'))

-- the elements at places that differ
pub apart_elements : (g : Place → Option Elem) (places : List Place) → Apart (λ p q. p ≡ q) places → Apart SamePlace (elements_at places (map g places))
apart_elements g [] h = λ i j x y at. absurd (cc)
apart_elements g (p ∷ places) h = by_value (g p) (apart_elements g places (apart_tail (λ p q. p ≡ q) p places h))
  where
    there : (qs : List Place) (k : Kept) → Has (elements_at qs (map g qs)) k → Has qs k.place
    there [] k (i, at) = absurd (cc)
    there (q ∷ qs) k at = by (g q) at (there qs k)
      where
        by : (o : Option Elem) → Has (elements_at (q ∷ qs) (o ∷ map g qs)) k → (Has (elements_at qs (map g qs)) k → Has qs k.place) → Has (q ∷ qs) k.place
        by None at rest = has_tail q qs k.place (rest at)
        by (Some v) (zero, at) rest = (0, ap (λ (l : Kept). Some l.place) (same_Some (record { place = q; value = v }) k at))
        by (Some v) (suc i, at) rest = has_tail q qs k.place (rest (i, at))

    by_value : (o : Option Elem) → Apart SamePlace (elements_at places (map g places)) → Apart SamePlace (elements_at (p ∷ places) (o ∷ map g places))
    by_value None rest = rest
    by_value (Some v) rest = apart_cons SamePlace (record { place = p; value = v }) (elements_at places (map g places)) rest (λ k at same. apart_head (λ p q. p ≡ q) p places h k.place (there places k at) same) (λ k at same. apart_head (λ p q. p ≡ q) p places h k.place (there places k at) (sym same))
