-- Tests that refuse, one after the other.
use Rattle.std.proofs.Common.{◌≡◌, ℕ, Bool, true, false, Some, None, Ok, Err, Option, Result, refl, ap, arith}
use Rattle.rules.specs.First.{or_else}
use Rattle.calls.specs.declared.refusal.Refusal.{Refusal}
use Rattle.calls.specs.Calls.{unless, outcome, granted}

-- nothing refused what was granted, and what was refused was refused by something
pub ok_none : {A : Type 0} (o : Option Refusal) (x y : A) → ◌≡◌ {A = Result A Refusal} (Ok y) (outcome o x) → o ≡ None
ok_none None x y e = refl
ok_none (Some r) x y e = absurd (let z : ◌≡◌ {A = ℕ} 0 1 = cc in omega arith)

pub ok_same : {A : Type 0} (o : Option Refusal) (x y : A) → ◌≡◌ {A = Result A Refusal} (Ok y) (outcome o x) → y ≡ x
ok_same None x y e = cc
ok_same (Some r) x y e = absurd (let z : ◌≡◌ {A = ℕ} 0 1 = cc in omega arith)

pub err_some : {A : Type 0} (o : Option Refusal) (x : A) (why : Refusal) → ◌≡◌ {A = Result A Refusal} (Err why) (outcome o x) → o ≡ Some why
err_some None x why e = absurd (let z : ◌≡◌ {A = ℕ} 0 1 = cc in omega arith)
err_some (Some r) x why e = cc

pub granted_none : {A : Type 0} (o : Option Refusal) (new old : A) → o ≡ None → granted o new old ≡ new
granted_none o new old e = ap (λ x. granted x new old) e

pub granted_some : {A : Type 0} (o : Option Refusal) (new old : A) (why : Refusal) → o ≡ Some why → granted o new old ≡ old
granted_some o new old why e = ap (λ x. granted x new old) e

-- where no test refuses, each holds
pub both_none : {A : Type 0} (o p : Option A) → or_else o p ≡ None → (o ≡ None) × (p ≡ None)
both_none None p e = (refl, e)
both_none (Some x) p e = absurd (let z : ◌≡◌ {A = ℕ} 0 1 = cc in omega arith)

pub unless_none : (b : Bool) (r : Refusal) → unless b r ≡ None → b ≡ true
unless_none true r e = refl
unless_none false r e = absurd (let z : ◌≡◌ {A = ℕ} 0 1 = cc in omega arith)
