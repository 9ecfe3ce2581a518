-- The turns of a loop over digits, in any base.
use Rattle.std.proofs.Common.{◌≡◌, ℕ, ◌+◌, ◌*◌, ◌^◌, ◌<◌, ◌≤◌, List, length, get_or, drop, Some, None, Option, sym, ap, ◌∙◌, lt_of_lt_of_le, mul-le-mul_right, add-mul, one-mul, pow-suc, add-one, arith}
use native.Mathlib.Nat.{pow-le-pow_right}
use Rattle.std.proofs.lemmas.List.{at_drop_more, at_drop_all}
use Rattle.console.specs.Numerals.{and_then, spelled}

module _ (base : ℕ) (digit : ℕ → Option ℕ) (text : List ℕ) (i : ℕ) (before : ℕ) where
  turn : (r : Option ℕ) → i < length text → r ≡ digit (get_or text i 0)
      → spelled base digit before (drop i text) ≡ and_then (λ d. spelled base digit (before * base + d) (drop (i + 1) text)) r
  turn r h e =
      at_drop_more (spelled base digit before) text i 0 h ∙ ap (and_then (λ d. spelled base digit (before * base + d) (drop (i + 1) text))) (sym e)

  pub goes_on : (d : ℕ) → i < length text → Some d ≡ digit (get_or text i 0)
      → spelled base digit before (drop i text) ≡ spelled base digit (before * base + d) (drop (i + 1) text)
  goes_on d h e = turn (Some d) h e

  pub no_digit : i < length text → None ≡ digit (get_or text i 0) → spelled base digit before (drop i text) ≡ None
  no_digit h e = turn None h e

  pub ended : length text ≤ i → spelled base digit before (drop i text) ≡ Some before
  ended h = at_drop_all (spelled base digit before) text i h

-- one more digit keeps the number below the power
pub below_power : (base n d i : ℕ) → n < base ^ i → d < base → n * base + d < base ^ (i + 1)
below_power base n d i h k =
    let e : base ^ (i + 1) ≡ base ^ i * base = rw add-one (pow-suc base i) in
    let m : (n + 1) * base ≤ base ^ i * base = mul-le-mul_right base (omega arith) in
    let s : (n + 1) * base ≡ n * base + 1 * base = add-mul n 1 base in
    let o : 1 * base ≡ base = one-mul base in
    omega arith

-- with `most` digits at most, the number stays below their power
pub below_most : (base n d i most : ℕ) → n < base ^ i → d < base → i < most → n * base + d < base ^ most
below_most base n d i most h k m =
    let z : 0 < base = omega arith in lt_of_lt_of_le (below_power base n d i h k) (pow-le-pow_right z (omega arith))
