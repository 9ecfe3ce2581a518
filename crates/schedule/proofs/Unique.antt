-- There is one order that is meant, or none.
use Rattle.std.proofs.Common.{◌≡◌, ℕ, ◌<◌, Bool, true, List, [], ◌∷◌, ◌++◌, is_some, Some, None, Option, refl, ap, inl, inr, append_assoc, append-nil}
use Rattle.std.proofs.lemmas.Bool.{cases_order, both_ways}
use Rattle.rules.specs.Definitions.{is_in}
use Rattle.schedule.specs.Order.{Follows, Nearest, Order, Scheduled}
use Rattle.schedule.specs.Found.{order_of, OrderUnique, OrderExists}
use Rattle.schedule.proofs.Meant.{order_stands}

module _ (before : ℕ → ℕ → Bool) (n : ℕ) where
  -- with js behind ps, every equation is placed
  abbrev Whole : List ℕ → List ℕ → Type 0
  Whole ps js = (i : ℕ) → i < n → is_in i (ps ++ js) ≡ true

  whole_next : (ps : List ℕ) (j : ℕ) (js : List ℕ) → Whole ps (j ∷ js) → Whole (ps ++ j ∷ []) js
  whole_next ps j js w i h = rw append_assoc (w i h)

  -- where every equation is placed, none follows
  none_left : (ps : List ℕ) (k : ℕ) (ks : List ℕ) → Whole ps [] → Follows before n ps (k ∷ ks) → ⊥
  none_left ps k ks w f = both_ways (is_in k ps) f.1.fresh (rw append-nil at (w k f.0))

  one_way : (ps js ks : List ℕ) → Whole ps js → Follows before n ps js → Nearest before n ps js →
      Whole ps ks → Follows before n ps ks → Nearest before n ps ks → js ≡ ks
  one_way ps [] [] v f l w g m = refl
  one_way ps [] (k ∷ ks) v f l w g m = absurd (none_left ps k ks v g)
  one_way ps (j ∷ js) [] v f l w g m = absurd (none_left ps j js w f)
  one_way ps (j ∷ js) (k ∷ ks) v f l w g m =
      elim (cases_order j k) [
        | inl q ↦
            let g' = rw (← q) at g.2 in
            let m' = rw (← q) at m.1 in
            let w' = rw (← q) at (whole_next ps k ks w) in
            let r = one_way (ps ++ j ∷ []) js ks (whole_next ps j js v) f.2 l.1 w' g' m' in cc
        | inr d ↦ elim d [ inl h ↦ absurd (m.0 j h f.1) | inr h ↦ absurd (l.0 k h g.1) ]
      ]

  -- what is meant is what is found
  meant_found : (r o : Option (List ℕ)) → Scheduled before n r → Scheduled before n o → r ≡ o
  meant_found None None s t = refl
  meant_found None (Some os) s t = absurd (s os t.0)
  meant_found (Some os) None s t = absurd (t os s.0)
  meant_found (Some os) (Some qs) s t =
      ap Some (one_way [] os qs s.0.all s.0.turns s.1 t.0.all t.0.turns t.1)

  exists_found : (o : Option (List ℕ)) → Scheduled before n o → (os : List ℕ) → Order before n os → is_some o ≡ true
  exists_found None s os p = absurd (s os p)
  exists_found (Some qs) s os p = refl

  found_exists : (o : Option (List ℕ)) → Scheduled before n o → is_some o ≡ true → (os : List ℕ) × Order before n os
  found_exists None s e = absurd (both_ways (is_some {T = List ℕ} None) refl e)
  found_exists (Some os) s e = (os, s.0)

pub scheduled_is : (before : ℕ → ℕ → Bool) (n : ℕ) (r : Option (List ℕ)) → Scheduled before n r → r ≡ order_of before n
scheduled_is before n r s = meant_found before n r (order_of before n) s (order_stands before n)

pub order_unique : OrderUnique
order_unique before n os qs p l q m = one_way before n [] os qs p.all p.turns l q.all q.turns m

pub order_exists : OrderExists
order_exists before n =
    record {
      found = exists_found before n (order_of before n) (order_stands before n);
      exists = found_exists before n (order_of before n) (order_stands before n);
    }
