-- What an operator does, from the values of its operands.
use Rattle.std.proofs.Common.{◌≡◌, ℕ, ◌+◌, ◌<◌, ◌≤◌, true, false, ltb, List, length, get_or, drop, is_some, Some, None, Option, sym, refl, ap, ◌∙◌, arith}
use Rattle.std.specs.Option.{option_map}
use Rattle.std.proofs.lemmas.Bool.{true≢false, false≢true, cond-true, cond-false, lt-ltb, le-ltb}
use Rattle.opset.specs.Meaning.{Meaning}
use Rattle.instructions.specs.Format.{says}
use Rattle.streams.specs.Streams.{applied}
use Rattle.execution.specs.Cells.{stored}
use Rattle.execution.specs.Words.{program, operand_count, operated, value_in, word_at}
use Rattle.runner.specs.From.{OperandsAt}
use Rattle.runner.proofs.Places.{word_here, word_behind}

-- one operand or two, by the operator's number
pub one_operand : (op : ℕ) → op < 128 → operand_count op ≡ 1
one_operand op l = cond-true (ltb op 128) 1 2 (lt-ltb op 128 l)

pub two_operands : (op : ℕ) → 128 ≤ op → operand_count op ≡ 2
two_operands op l = cond-false (ltb op 128) 1 2 (le-ltb op 128 l)

module _ {V : Type 0} (m : Meaning V) (ws : List ℕ) (op x p : ℕ) (cells : List V) (f : OperandsAt ws op (length cells) p) where
  one_value : (a : Option V) → op < 128 → a ≡ value_in m cells (says (get_or ws p 0))
      → operated m op x (drop p (program ws)) cells ≡ stored cells x (applied m op a (Some None))
  one_value a l e =
      let rest = drop p (program ws) in
      let first : value_in m cells (word_at rest 0) ≡ a = ap (value_in m cells) (word_here ws p (omega arith)) ∙ sym e in
      ap (λ b. stored cells x (applied m op (value_in m cells (word_at rest 0)) b)) (cond-true (ltb op 128) (Some None) (option_map Some (value_in m cells (word_at rest 1))) (lt-ltb op 128 l))
      ∙ ap (λ a. stored cells x (applied m op a (Some None))) first

  two_values : (a b : Option V) → 128 ≤ op → a ≡ value_in m cells (says (get_or ws p 0)) → b ≡ value_in m cells (says (get_or ws (p + 1) 0))
      → operated m op x (drop p (program ws)) cells ≡ stored cells x (applied m op a (option_map Some b))
  two_values a b l e h =
      let rest = drop p (program ws) in
      let far = f.far l in
      let first : value_in m cells (word_at rest 0) ≡ a = ap (value_in m cells) (word_here ws p (omega arith)) ∙ sym e in
      let second : value_in m cells (word_at rest 1) ≡ b = ap (value_in m cells) (word_behind ws p 1 (omega arith)) ∙ sym h in
      ap (λ b. stored cells x (applied m op (value_in m cells (word_at rest 0)) b)) (cond-false (ltb op 128) (Some None) (option_map Some (value_in m cells (word_at rest 1))) (le-ltb op 128 l))
      ∙ ap (λ a. stored cells x (applied m op a (option_map Some (value_in m cells (word_at rest 1))))) first
      ∙ ap (λ b. stored cells x (applied m op a (option_map Some b))) second

  one_applied : (a : Option V) → applied m op a (Some None) ≡ option_map (λ v. m.apply op v None) a
  one_applied None = refl
  one_applied (Some v) = refl

  two_applied : (a b : Option V) → is_some b ≡ true → applied m op a (option_map Some b) ≡ option_map (λ v. m.apply op v b) a
  two_applied a None h = absurd (false≢true h)
  two_applied None (Some w) h = refl
  two_applied (Some v) (Some w) h = refl

  lacking : (a b : Option V) → is_some b ≡ false → stored cells x (applied m op a (option_map Some b)) ≡ cells
  lacking None None h = refl
  lacking (Some v) None h = refl
  lacking a (Some w) h = absurd (true≢false h)

  -- the second operand, or that there is none, and the place behind the operands
  pub data Second (b : Option V) (next : ℕ) : Type 0 where
    single : op < 128 → b ≡ None → next ≡ p + 1 → Second b next
    double : 128 ≤ op → b ≡ value_in m cells (says (get_or ws (p + 1) 0)) → is_some b ≡ true → next ≡ p + 2 → Second b next

  pub second_place : (b : Option V) (next : ℕ) → Second b next → next ≡ p + operand_count op
  second_place b next (single l h e) = e ∙ ap (λ n. p + n) (sym (one_operand op l))
  second_place b next (double l h s e) = e ∙ ap (λ n. p + n) (sym (two_operands op l))

  pub operate_values : (a b : Option V) (next : ℕ) → a ≡ value_in m cells (says (get_or ws p 0)) → Second b next
      → operated m op x (drop p (program ws)) cells ≡ stored cells x (option_map (λ v. m.apply op v b) a)
  operate_values a b next e (single l h n) = one_value a l e ∙ ap (stored cells x) (one_applied a ∙ ap (λ b. option_map (λ v. m.apply op v b) a) (sym h))
  operate_values a b next e (double l h s n) = two_values a b l e h ∙ ap (stored cells x) (two_applied a b s)

  -- a second operand that has no value leaves the cells as they are
  pub operate_none : (a b : Option V) → 128 ≤ op → a ≡ value_in m cells (says (get_or ws p 0)) → b ≡ value_in m cells (says (get_or ws (p + 1) 0)) → is_some b ≡ false
      → operated m op x (drop p (program ws)) cells ≡ cells
  operate_none a b l e h s = two_values a b l e h ∙ lacking a b s
