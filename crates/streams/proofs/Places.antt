-- Places in lists: of a variable among others, and of the equation that defines it.
use Rattle.std.proofs.Common.{◌≡◌, ℕ, zero, suc, ◌+◌, ◌<◌, ◌≤◌, Bool, true, false, eqb, ◌⊎◌, List, [], ◌∷◌, ◌++◌, length, get_or, sym, refl, ap, inl, inr, arith}
use Rattle.std.proofs.lemmas.Bool.{eqb-true, cases_eq, cases_Bool, cases_lt, or_cases, or_left, or_right, eq-eqb, both_ways}
use Rattle.table.specs.Syntax.{Equation}
use Rattle.rules.specs.Definitions.{defined, is_in, times, definitions}
use Rattle.schedule.specs.Reads.{an_equation, meets}
use Rattle.schedule.specs.Order.{Follows}
use Rattle.streams.specs.Machine.{place_of, definer_in}

-- strong induction: what holds wherever it holds of all that is smaller
pub below : (P : ℕ → Type 0) → ((i : ℕ) → ((j : ℕ) → j < i → P j) → P i) → (n j : ℕ) → j < n → P j
below P step zero j h = absurd (omega arith)
below P step (suc n) j h =
    elim (cases_eq j n) [ inl e ↦ rw e (step n (below P step n)) | inr ne ↦ below P step n j (omega arith) ]

pub strongly : (P : ℕ → Type 0) → ((i : ℕ) → ((j : ℕ) → j < i → P j) → P i) → (n : ℕ) → P n
strongly P step n = below P step (suc n) n (omega arith)

pub in_left : (x : ℕ) (l k : List ℕ) → is_in x l ≡ true → is_in x (l ++ k) ≡ true
in_left x [] k h = absurd (both_ways false refl h)
in_left x (y ∷ l) k h =
    elim (or_cases (eqb x y) (is_in x l) h) [
      | inl e ↦ or_left (eqb x y) (is_in x (l ++ k)) e
      | inr i ↦ or_right (eqb x y) (is_in x (l ++ k)) (in_left x l k i)
    ]

pub in_right : (x : ℕ) (l k : List ℕ) → is_in x k ≡ true → is_in x (l ++ k) ≡ true
in_right x [] k h = h
in_right x (y ∷ l) k h = or_right (eqb x y) (is_in x (l ++ k)) (in_right x l k h)

pub in_cases : (x : ℕ) (l k : List ℕ) → is_in x (l ++ k) ≡ true → (is_in x l ≡ true) ⊎ (is_in x k ≡ true)
in_cases x [] k h = inr h
in_cases x (y ∷ l) k h =
    elim (or_cases (eqb x y) (is_in x (l ++ k)) h) [
      | inl e ↦ inl (or_left (eqb x y) (is_in x l) e)
      | inr i ↦ elim (in_cases x l k i) [ inl a ↦ inl (or_right (eqb x y) (is_in x l) a) | inr b ↦ inr b ]
    ]

pub in_head : (x : ℕ) (l : List ℕ) → is_in x (x ∷ l) ≡ true
in_head x l = or_left (eqb x x) (is_in x l) (eq-eqb x x refl)

pub in_one : (x y : ℕ) → is_in x (y ∷ []) ≡ true → x ≡ y
in_one x y h = elim (or_cases (eqb x y) false h) [ inl e ↦ eqb-true x y e | inr b ↦ absurd (both_ways false refl b) ]

-- lists that share a variable
pub meets_from : (x : ℕ) (l k : List ℕ) → is_in x l ≡ true → is_in x k ≡ true → meets l k ≡ true
meets_from x [] k h i = absurd (both_ways false refl h)
meets_from x (y ∷ l) k h i =
    elim (or_cases (eqb x y) (is_in x l) h) [
      | inl e ↦ let q : x ≡ y = eqb-true x y e in or_left (is_in y k) (meets l k) (rw (← q) i)
      | inr j ↦ or_right (is_in y k) (meets l k) (meets_from x l k j i)
    ]

pub is_in_lem : (l : List ℕ) (p : ℕ) → p < length l → is_in (get_or l p 0) l ≡ true
is_in_lem [] p h = absurd (omega arith)
is_in_lem (x ∷ l) zero h = in_head x l
is_in_lem (x ∷ l) (suc p) h = or_right (eqb (get_or l p 0) x) (is_in (get_or l p 0) l) (is_in_lem l p (omega arith))

-- a variable of a list stands at its place
pub placed : (y : ℕ) (l : List ℕ) → is_in y l ≡ true → (place_of y l < length l) × (get_or l (place_of y l) 0 ≡ y)
placed y [] h = absurd (both_ways false refl h)
placed y (x ∷ l) h =
    elim (cases_Bool (eqb y x)) [
      | inl e ↦ rw e (omega arith, sym (eqb-true y x e))
      | inr e ↦ let q = placed y l (rw e at h) in rw e (omega arith, q.1)
    ]

pub in_times : (y : ℕ) (l : List ℕ) → is_in y l ≡ true → 1 ≤ times y l
in_times y [] h = absurd (both_ways false refl h)
in_times y (x ∷ l) h =
    elim (cases_Bool (eqb y x)) [
      | inl e ↦ rw e (omega arith)
      | inr e ↦ let q = in_times y l (rw e at h) in rw e (omega arith)
    ]

pub times_in : (y : ℕ) (l : List ℕ) → 1 ≤ times y l → is_in y l ≡ true
times_in y [] h = absurd (omega arith)
times_in y (x ∷ l) h =
    elim (cases_Bool (eqb y x)) [
      | inl e ↦ rw e refl
      | inr e ↦ let q : 0 + times y l ≡ times y l = omega arith in rw e (times_in y l (rw q at (rw e at h)))
    ]

-- one that stands in a list once has one place there
pub place_once : (l : List ℕ) (p : ℕ) → p < length l → times (get_or l p 0) l ≤ 1 → place_of (get_or l p 0) l ≡ p
place_once [] p h once = absurd (omega arith)
place_once (x ∷ l) zero h once = rw (eq-eqb x x refl)
place_once (x ∷ l) (suc p) h once =
    let y : ℕ = get_or l p 0 in
    let i : 1 ≤ times y l = in_times y l (is_in_lem l p (omega arith)) in
    elim (cases_Bool (eqb y x)) [
      | inl e ↦ absurd (let o : 1 + times y l ≤ 1 = rw e at once in omega arith)
      | inr e ↦ let o : 0 + times y l ≤ 1 = rw e at once in rw e (ap suc (place_once l p (omega arith) (omega arith)))
    ]

-- Equations that define y.
pub defines_times : (y : ℕ) (es : List Equation) (j : ℕ) → j < length es → times y (defined (get_or es j an_equation)) ≤ definitions y es
defines_times y [] j h = absurd (omega arith)
defines_times y (e ∷ es) zero h = omega arith
defines_times y (e ∷ es) (suc j) h = let q = defines_times y es j (omega arith) in omega arith

pub definer_found : (y : ℕ) (es : List Equation) → 1 ≤ definitions y es
    → (definer_in y es < length es) × (is_in y (defined (get_or es (definer_in y es) an_equation)) ≡ true)
definer_found y [] h = absurd (omega arith)
definer_found y (e ∷ es) h =
    elim (cases_Bool (is_in y (defined e))) [
      | inl q ↦ rw q (omega arith, q)
      | inr q ↦
          let none : times y (defined e) < 1 =
          elim (cases_lt (times y (defined e)) 1) [ inl a ↦ a | inr b ↦ absurd (both_ways (is_in y (defined e)) q (times_in y (defined e) b)) ] in
          let r = definer_found y es (omega arith) in
          rw q (omega arith, r.1)
    ]

pub definer_bound : (y : ℕ) (es : List Equation) → definer_in y es < length es → is_in y (defined (get_or es (definer_in y es) an_equation)) ≡ true
definer_bound y [] h = absurd (omega arith)
definer_bound y (e ∷ es) h =
    elim (cases_Bool (is_in y (defined e))) [
      | inl q ↦ rw q q
      | inr q ↦ let l : suc (definer_in y es) < suc (length es) = rw q at h in rw q (definer_bound y es (omega arith))
    ]

pub definer_once : (y : ℕ) (es : List Equation) (j : ℕ) → definitions y es ≤ 1 → j < length es
    → is_in y (defined (get_or es j an_equation)) ≡ true → definer_in y es ≡ j
definer_once y [] j once h d = absurd (omega arith)
definer_once y (e ∷ es) zero once h d = rw d
definer_once y (e ∷ es) (suc j) once h d =
    let a : 1 ≤ times y (defined (get_or es j an_equation)) = in_times y (defined (get_or es j an_equation)) d in
    let b = defines_times y es j (omega arith) in
    elim (cases_Bool (is_in y (defined e))) [
      | inl q ↦ absurd (let c = in_times y (defined e) q in omega arith)
      | inr q ↦ rw q (ap suc (definer_once y es j (omega arith) (omega arith) d))
    ]

-- In an order, what comes before stands before.
pub follows_place : (before : ℕ → ℕ → Bool) (n : ℕ) (ps os : List ℕ) (i j : ℕ) → Follows before n ps os → i < n → is_in j os ≡ true
    → before i j ≡ true → (is_in i ps ≡ true) ⊎ (place_of i os < place_of j os)
follows_place before n ps [] i j f l m b = absurd (both_ways false refl m)
follows_place before n ps (k ∷ ks) i j f l m b =
    go (eqb j k) refl (eqb i k) refl (λ r. follows_place before n (ps ++ k ∷ []) ks i j f.2 l r b)
  where
    go : (u : Bool) → eqb j k ≡ u → (v : Bool) → eqb i k ≡ v
        → (is_in j ks ≡ true → (is_in i (ps ++ k ∷ []) ≡ true) ⊎ (place_of i ks < place_of j ks))
        → (is_in i ps ≡ true) ⊎ (place_of i (k ∷ ks) < place_of j (k ∷ ks))
    go true e v q more = let w : j ≡ k = eqb-true j k e in inl (f.1.after i l (rw (← w) b))
    go false e true q more = inr (rw (e, q) (omega arith))
    go false e false q more =
        elim (more (rw e at m)) [
          | inl p ↦ elim (in_cases i ps (k ∷ []) p) [
            | inl a ↦ inl a
            | inr c ↦ absurd (both_ways _ q (eq-eqb i k (in_one i k c)))
          ]
          | inr p ↦ inr (rw (e, q) (omega arith))
        ]
