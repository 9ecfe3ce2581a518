-- Cells, place by place: what a store, and a block on a segment, leave and put there.
use Rattle.std.proofs.Common.{◌≡◌, ℕ, zero, suc, ◌+◌, ◌<◌, ◌≤◌, List, [], ◌∷◌, ◌++◌, length, take, drop, set, Some, None, Option, sym, refl, ap, ◌∙◌, arith, length-append, length-drop, length-set, length-take-le}
use Rattle.std.specs.List.{slice_get}
use Rattle.execution.specs.Cells.{stored, inside}

module _ {V : Type 0} where
  nth_set_same : (cells : List V) (x : ℕ) (v : V) → x < length cells → slice_get (set cells x v) x ≡ Some v
  nth_set_same [] x v l = absurd (omega arith)
  nth_set_same (c ∷ cs) zero v l = refl
  nth_set_same (c ∷ cs) (suc x) v l = nth_set_same cs x v (omega arith)

  nth_set_other : (cells : List V) (x a : ℕ) (v : V) → (a ≡ x → ⊥) → slice_get (set cells x v) a ≡ slice_get cells a
  nth_set_other [] x a v ne = refl
  nth_set_other (c ∷ cs) zero zero v ne = absurd (ne refl)
  nth_set_other (c ∷ cs) zero (suc a) v ne = refl
  nth_set_other (c ∷ cs) (suc x) zero v ne = refl
  nth_set_other (c ∷ cs) (suc x) (suc a) v ne = nth_set_other cs x a v (λ e. ne (ap suc e))

  nth_left : (l k : List V) (a : ℕ) → a < length l → slice_get (l ++ k) a ≡ slice_get l a
  nth_left [] k a h = absurd (omega arith)
  nth_left (c ∷ l) k zero h = refl
  nth_left (c ∷ l) k (suc a) h = nth_left l k a (omega arith)

  nth_right : (l k : List V) (a : ℕ) → slice_get (l ++ k) (length l + a) ≡ slice_get k a
  nth_right [] k a = let e : 0 + a ≡ a = omega arith in rw e refl
  nth_right (c ∷ l) k a = let e : suc (length l) + a ≡ suc (length l + a) = omega arith in rw e (nth_right l k a)

  pub nth_drop : (n : ℕ) (l : List V) (a : ℕ) → slice_get (drop n l) a ≡ slice_get l (n + a)
  nth_drop zero l a = let e : 0 + a ≡ a = omega arith in rw e refl
  nth_drop (suc n) [] a = refl
  nth_drop (suc n) (c ∷ l) a = let e : suc n + a ≡ suc (n + a) = omega arith in rw e (nth_drop n l a)

  nth_take : (n : ℕ) (l : List V) (a : ℕ) → a < n → slice_get (take n l) a ≡ slice_get l a
  nth_take zero l a h = absurd (omega arith)
  nth_take (suc n) [] a h = refl
  nth_take (suc n) (c ∷ l) zero h = refl
  nth_take (suc n) (c ∷ l) (suc a) h = nth_take n l a (omega arith)

  -- a store
  pub length_stored : (cells : List V) (x : ℕ) (o : Option V) → length (stored cells x o) ≡ length cells
  length_stored cells x None = refl
  length_stored cells x (Some v) = length-set cells x v

  pub stored_other : (cells : List V) (x : ℕ) (o : Option V) (a : ℕ) → (a ≡ x → ⊥) → slice_get (stored cells x o) a ≡ slice_get cells a
  stored_other cells x None a ne = refl
  stored_other cells x (Some v) a ne = nth_set_other cells x a v ne

  pub stored_here : (cells : List V) (x : ℕ) (o : Option V) (v : V) → x < length cells → o ≡ Some v → slice_get (stored cells x o) x ≡ Some v
  stored_here cells x o v l e = rw e (nth_set_same cells x v l)

  -- a block on a segment
  module _ (off : ℕ) (f : List V → List V) (cells : List V) (l : off ≤ length cells) where
    pub inside_below : (a : ℕ) → a < off → slice_get (inside off f cells) a ≡ slice_get cells a
    inside_below a h =
        nth_left (take off cells) (f (drop off cells)) a (omega (arith, length-take-le off cells l)) ∙ nth_take off cells a h

    pub inside_from : (a : ℕ) → slice_get (inside off f cells) (off + a) ≡ slice_get (f (drop off cells)) a
    inside_from a =
        ap (λ n. slice_get (inside off f cells) (n + a)) (sym (length-take-le off cells l)) ∙ nth_right (take off cells) (f (drop off cells)) a

    pub length_inside : length (f (drop off cells)) ≡ length (drop off cells) → length (inside off f cells) ≡ length cells
    length_inside e =
        omega (arith, length-append (take off cells) (f (drop off cells)), length-take-le off cells l, length-drop off cells)
