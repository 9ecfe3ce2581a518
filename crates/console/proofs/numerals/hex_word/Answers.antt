use Rattle.std.proofs.Common.{◌≡◌, ◌+◌, ◌*◌, ◌^◌, ◌<◌, true, eqb, length, sym, ◌∙◌, arith, eq-eqb}
use Rattle.console.specs.Numerals.{hex_digit}
use Rattle.console.proofs.Digits.{goes_on, no_digit, ended, below_power, below_most}
use Rattle.console.proofs.numerals.hex_word.Goals as goal

fits : (c : goal.In_ok-digit) → c.loop-b.word * 16 + c.in_ok-digit.digit < 16 ^ 8
fits c =
    below_most 16 c.loop-b.word c.in_ok-digit.digit c.loop-b.b-index 8 c.loop-b.invariant.1 c.in_ok-digit.ensures.small (omega arith)

pub returns-in_err-digit : goal.returns-in_err-digit
returns-in_err-digit c =
    let text = c.args.text.now in
    let l : eqb (length text) 8 ≡ true = eq-eqb (length text) 8 (omega arith) in
    let e = no_digit 16 hex_digit text c.loop-b.b-index c.loop-b.word (omega arith) c.in_err-digit.ensures.value in
    rw (c.from_residual.ensures, l) (sym e ∙ c.loop-b.invariant.0)

pub overflow_mul-word : goal.overflow_mul-word
overflow_mul-word c = omega (arith, fits c)

pub overflow_add-word : goal.overflow_add-word
overflow_add-word c = omega (arith, fits c)

pub loop-b-preserved : goal.loop-b-preserved
loop-b-preserved c =
    let text = c.args.text.now in
    let i = c.loop-b.b-index in
    let n = c.loop-b.word in
    let d = c.in_ok-digit.digit in (
      sym (goes_on 16 hex_digit text i n d (omega arith) c.in_ok-digit.ensures.value) ∙ c.loop-b.invariant.0,
      below_power 16 n d i c.loop-b.invariant.1 c.in_ok-digit.ensures.small,
    )

pub returns : goal.returns
returns c =
    let text = c.args.text.now in
    let l : eqb (length text) 8 ≡ true = eq-eqb (length text) 8 (omega arith) in
    let e = ended 16 hex_digit text c.loop-b.b-index c.loop-b.word (omega arith) in
    rw l (sym e ∙ c.loop-b.invariant.0)
