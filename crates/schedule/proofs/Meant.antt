-- The order that is found is the one that is meant.
use Rattle.std.proofs.Common.{◌≡◌, ℕ, zero, suc, ◌<◌, Bool, true, false, not, eqb, List, [], ◌∷◌, ◌++◌, Some, None, Option, sym, refl, ◌∙◌, subst, inl, inr, append_assoc, append-nil, arith}
use Rattle.std.proofs.lemmas.Bool.{cases_Bool, both_ways, and_parts, not-true, or_cases, eqb-true}
use Rattle.rules.specs.Definitions.{is_in}
use Rattle.schedule.specs.Order.{Ready, Follows, Nearest, Order, Scheduled}
use Rattle.schedule.specs.Found.{every, holds_back, ready, next_of, grow, grown, order_of, OrderStands}
use Rattle.schedule.proofs.First.{every_all, all_every, first_none, first_some}
use Rattle.schedule.proofs.Membership.{is_in_cases}
use Rattle.schedule.proofs.Missing.{missing, missing_none, missing_push, none_missing, some_missing}

later : (o : ℕ) (os : List ℕ) (j : ℕ) (ps : List ℕ) → is_in j (o ∷ os) ≡ true → is_in o ps ≡ true → is_in j ps ≡ false → is_in j os ≡ true
later o os j ps h t out =
    elim (or_cases (eqb j o) (is_in j os) h) [ inl a ↦ absurd (both_ways (is_in j ps) out (rw (eqb-true j o a) t)) | inr b ↦ b ]

module _ (before : ℕ → ℕ → Bool) (n : ℕ) where
  abbrev test : List ℕ → ℕ → Bool
  test ps j = ready before n (λ i. is_in i ps) j

  test_ready : (ps : List ℕ) (j : ℕ) → test ps j ≡ true → Ready before n ps j
  test_ready ps j e =
      let w = and_parts (not (is_in j ps)) (every (λ i. not (holds_back before (λ i. is_in i ps) i j)) n) e in
      record {
        fresh = not-true (is_in j ps) w.0;
        after = λ i h b. let q = every_all (λ i. not (holds_back before (λ i. is_in i ps) i j)) n w.1 i h in grind (arith, q, b);
      }

  ready_test : (ps : List ℕ) (j : ℕ) → Ready before n ps j → test ps j ≡ true
  ready_test ps j r =
      let f = r.fresh in
      let g =
      all_every (λ i. not (holds_back before (λ i. is_in i ps) i j)) n
      (λ i h. elim (cases_Bool (before i j)) [ inl b ↦ let q = r.after i h b in grind (arith, q, b) | inr b ↦ grind (arith, b) ]) in
      grind (arith, f, g)

  not_ready : (ps : List ℕ) (j : ℕ) → test ps j ≡ false → Ready before n ps j → ⊥
  not_ready ps j e r = both_ways (test ps j) e (ready_test ps j r)

  -- of an order that has something not among ps, the first such is ready
  first_out : (ps qs os : List ℕ) → Follows before n qs os → ((x : ℕ) → is_in x qs ≡ true → is_in x ps ≡ true) →
      (j : ℕ) → is_in j os ≡ true → is_in j ps ≡ false → (m : ℕ) × (m < n) × Ready before n ps m
  first_out ps qs [] f sub j h out = absurd (both_ways (is_in j []) refl h)
  first_out ps qs (o ∷ os) f sub j h out =
      elim (cases_Bool (is_in o ps)) [
        | inl t ↦ first_out ps (qs ++ o ∷ []) os f.2 (λ x m. elim (is_in_cases x qs o m) [ inl a ↦ sub x a | inr e ↦ rw e t ]) j (later o os j ps h t out) out
        | inr g ↦ (o, f.0, record { fresh = g; after = λ i l b. sub i (f.1.after i l b) })
      ]

  -- where something is missing and nothing is ready, there is no order
  stuck : (ps : List ℕ) → next_of before n (λ i. is_in i ps) ≡ None → 0 < missing ps n → (os : List ℕ) → Order before n os → ⊥
  stuck ps e h os o =
      let m = some_missing ps n h in
      let r = first_out ps [] os o.turns (λ x z. absurd (both_ways (is_in x []) refl z)) m.0 (o.all m.0 m.1) m.2 in
      not_ready ps r.0 (first_none (test ps) n e r.0 r.1) r.2

  -- what `grow` gives
  abbrev Grown : List ℕ → Option (List ℕ) → Type 0
  Grown ps (Some os) = (js : List ℕ) × (os ≡ ps ++ js) × Follows before n ps js × Nearest before n ps js × (missing os n ≡ 0)
  Grown ps None = (os : List ℕ) → Order before n os → ⊥

  one_more : (ps : List ℕ) (j : ℕ) → j < n → Ready before n ps j → ((k : ℕ) → k < j → Ready before n ps k → ⊥) →
      (r : Option (List ℕ)) → Grown (ps ++ j ∷ []) r → Grown ps r
  one_more ps j l d low None g = g
  one_more ps j l d low (Some os) g =
      (j ∷ g.0, g.1 ∙ append_assoc ps (j ∷ []) g.0, (l, d, g.2), (low, g.3), g.4)

  grows_by : (k : ℕ) → ((qs : List ℕ) → missing qs n ≡ k → Grown qs (grow before n k qs)) → (ps : List ℕ) → missing ps n ≡ suc k →
      (o : Option ℕ) → next_of before n (λ i. is_in i ps) ≡ o → Grown ps (grown (grow before n k) ps o)
  grows_by k go ps m None e = stuck ps e (omega arith)
  grows_by k go ps m (Some j) e =
      let f = first_some (test ps) n j e in
      let d = test_ready ps j f.passes in
      let p = missing_push ps j n f.below d.fresh in
      one_more ps j f.below d (λ i h. not_ready ps i (f.fail i h)) (grow before n k (ps ++ j ∷ [])) (go (ps ++ j ∷ []) (omega arith))

  grows : (k : ℕ) (ps : List ℕ) → missing ps n ≡ k → Grown ps (grow before n k ps)
  grows zero ps m = ([], sym (append-nil ps), tt, tt, m)
  grows (suc k) ps m = grows_by k (grows k) ps m (next_of before n (λ i. is_in i ps)) refl

  scheduled : (r : Option (List ℕ)) → Grown [] r → Scheduled before n r
  scheduled None g = g
  scheduled (Some os) g = (
    record { all = none_missing os n g.4; turns = subst (Follows before n []) (sym g.1) g.2 },
    subst (Nearest before n []) (sym g.1) g.3,
  )

pub order_stands : OrderStands
order_stands before n = scheduled before n (order_of before n) (grows before n n [] (missing_none n))
