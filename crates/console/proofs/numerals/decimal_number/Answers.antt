use Rattle.std.proofs.Common.{◌≡◌, ℕ, ◌+◌, ◌*◌, ◌^◌, ◌<◌, ◌≤◌, true, ◌&&◌, leb, length, sym, ◌∙◌, arith, rules}
use Rattle.std.proofs.lemmas.Bool.{le-leb}
use Rattle.console.specs.Numerals.{decimal_digit}
use Rattle.console.proofs.Digits.{goes_on, no_digit, ended, below_power, below_most}
use Rattle.console.proofs.numerals.decimal_number.Goals as goal

fits : (c : goal.In_ok-digit) → c.loop-b.number * 10 + c.in_ok-digit.digit < 10 ^ 18
fits c =
    below_most 10 c.loop-b.number c.in_ok-digit.digit c.loop-b.b-index 18 c.loop-b.invariant.1 c.in_ok-digit.ensures.small (omega arith)

-- so many digits are read
counted : (n : ℕ) → 0 < n → n ≤ 18 → (leb 1 n && leb n 18) ≡ true
counted n a b =
    let low : leb 1 n ≡ true = le-leb 1 n (omega arith) in let high : leb n 18 ≡ true = le-leb n 18 b in rw (low, high)

pub returns-in_err-digit : goal.returns-in_err-digit
returns-in_err-digit c =
    let text = c.args.text.now in
    let e = no_digit 10 decimal_digit text c.loop-b.b-index c.loop-b.number (omega arith) c.in_err-digit.ensures.value in
    let some : 0 < length text = search rules in
    let l = counted (length text) some (omega arith) in
    rw (c.from_residual.ensures, l) (sym e ∙ c.loop-b.invariant.0)

pub overflow_mul-number : goal.overflow_mul-number
overflow_mul-number c = omega (arith, fits c)

pub overflow_add-number : goal.overflow_add-number
overflow_add-number c = omega (arith, fits c)

pub loop-b-preserved : goal.loop-b-preserved
loop-b-preserved c =
    let text = c.args.text.now in
    let i = c.loop-b.b-index in
    let n = c.loop-b.number in
    let d = c.in_ok-digit.digit in (
      sym (goes_on 10 decimal_digit text i n d (omega arith) c.in_ok-digit.ensures.value) ∙ c.loop-b.invariant.0,
      below_power 10 n d i c.loop-b.invariant.1 c.in_ok-digit.ensures.small,
    )

pub returns : goal.returns
returns c =
    let text = c.args.text.now in
    let e = ended 10 decimal_digit text c.loop-b.b-index c.loop-b.number (omega arith) in
    let some : 0 < length text = search rules in
    let l = counted (length text) some (omega arith) in
    rw l (sym e ∙ c.loop-b.invariant.0)
