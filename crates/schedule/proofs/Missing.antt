-- How many of the equations below n are missing among ps.
use Rattle.std.proofs.Common.{◌≡◌, ℕ, zero, suc, ◌+◌, ◌<◌, ◌≤◌, true, false, cond, List, [], ◌∷◌, ◌++◌, refl, inl, inr, arith}
use Rattle.std.proofs.lemmas.Bool.{cases_Bool, cases_eq}
use Rattle.rules.specs.Definitions.{is_in}
use Rattle.schedule.proofs.Membership.{is_in_last, is_in_other}

abbrev pub missing : List ℕ → ℕ → ℕ
missing ps zero = 0
missing ps (suc n) = missing ps n + cond (is_in n ps) 0 1

pub missing_none : (n : ℕ) → missing [] n ≡ n
missing_none zero = refl
missing_none (suc n) = omega (arith, missing_none n)

missing_past : (ps : List ℕ) (j n : ℕ) → n ≤ j → missing (ps ++ j ∷ []) n ≡ missing ps n
missing_past ps j zero h = refl
missing_past ps j (suc n) h =
    let e = missing_past ps j n (omega arith) in
    let f = is_in_other n ps j (λ q. omega arith) in rw (e, f)

pub missing_push : (ps : List ℕ) (j n : ℕ) → j < n → is_in j ps ≡ false → missing (ps ++ j ∷ []) n + 1 ≡ missing ps n
missing_push ps j zero h f = absurd (omega arith)
missing_push ps j (suc n) h f =
    elim (cases_eq n j) [
      | inl q ↦ let e = missing_past ps j n (omega arith) in let a = is_in_last ps j in rw (e, q, a, f) (omega arith)
      | inr q ↦ let e = missing_push ps j n (omega arith) f in let a = is_in_other n ps j q in rw a (omega (arith, e))
    ]

pub none_missing : (ps : List ℕ) (n : ℕ) → missing ps n ≡ 0 → (i : ℕ) → i < n → is_in i ps ≡ true
none_missing ps zero e i h = absurd (omega arith)
none_missing ps (suc n) e i h =
    elim (cases_eq i n) [
      | inl q ↦ elim (cases_Bool (is_in n ps)) [ inl t ↦ rw q t | inr f ↦ let z = rw f at e in absurd (omega arith) ]
      | inr q ↦ none_missing ps n (omega arith) i (omega arith)
    ]

pub some_missing : (ps : List ℕ) (n : ℕ) → 0 < missing ps n → (j : ℕ) × (j < n) × (is_in j ps ≡ false)
some_missing ps zero h = absurd (omega arith)
some_missing ps (suc n) h =
    elim (cases_Bool (is_in n ps)) [
      | inl t ↦ let g = rw t at h in let r = some_missing ps n (omega arith) in (r.0, omega (arith, r.1), r.2)
      | inr f ↦ (n, omega arith, f)
    ]
