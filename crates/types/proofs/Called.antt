-- The operands and the gives of a call: the steps of the loops over them, and where they are read.
use Rattle.std.proofs.Common.{◌≡◌, ℕ, zero, suc, ◌+◌, ◌-◌, ◌<◌, ◌≤◌, min, Bool, true, false, ◌&&◌, eqb, ◌⊎◌, List, length, get_or, take, Option, sym, refl, ap, ◌∙◌, inl, inr, arith}
use Rattle.std.proofs.lemmas.List.{get_or_past, get_or-take}
use Rattle.words.specs.Bits.{field}
use Rattle.words.specs.Format.{operand_in}
use Rattle.opset.specs.Meaning.{Meaning}
use Rattle.table.specs.Access.{operands_at, gives_at}
use Rattle.table.specs.Syntax.{call, Node, Table, none, node_at}
use Rattle.rules.specs.Types.{type_of, operand_has, operands_have, gives_have, restart_boolean, equation_typed}

-- what is left of n, one further on
one_less : (n i : ℕ) → i < n → n - i ≡ suc (n - (i + 1))
one_less n i h = omega arith

none_left : (n i : ℕ) → n ≤ i → n - i ≡ zero
none_left n i h = omega arith

next : (a i : ℕ) → a + i + 1 ≡ a + (i + 1)
next a i = omega arith

module _ {V : Type 0} (m : Meaning V) (N G : Node) (ws : List ℕ) (at n : ℕ) where
  -- the operands from number i on suit exactly where all do
  abbrev pub OperandsFrom : ℕ → Type 0
  OperandsFrom i = operands_have m N (operands_at ws (at + i) (n - i)) G i ≡ operands_have m N (operands_at ws at n) G 0

  operands_step : (i : ℕ) → i < n → operands_have m N (operands_at ws (at + i) (n - i)) G i
      ≡ operand_has m N (operand_in (get_or ws (at + i) 0)) (type_of G i) && operands_have m N (operands_at ws (at + (i + 1)) (n - (i + 1))) G (i + 1)
  operands_step i h =
      ap (λ c. operands_have m N (operands_at ws (at + i) c) G i) (one_less n i h)
      ∙ ap (λ p. operand_has m N (operand_in (get_or ws (at + i) 0)) (type_of G i) && operands_have m N (operands_at ws p (n - (i + 1))) G (i + 1)) (next at i)

  pub operands_more : (i : ℕ) → i < n → OperandsFrom i → true ≡ operand_has m N (operand_in (get_or ws (at + i) 0)) (type_of G i) → OperandsFrom (i + 1)
  operands_more i h from t =
      ap (λ b. b && operands_have m N (operands_at ws (at + (i + 1)) (n - (i + 1))) G (i + 1)) t ∙ sym (operands_step i h) ∙ from

  pub operands_fail : (i : ℕ) → i < n → OperandsFrom i → false ≡ operand_has m N (operand_in (get_or ws (at + i) 0)) (type_of G i) → false ≡ operands_have m N (operands_at ws at n) G 0
  operands_fail i h from t =
      ap (λ b. b && operands_have m N (operands_at ws (at + (i + 1)) (n - (i + 1))) G (i + 1)) t ∙ sym (operands_step i h) ∙ from

  pub operands_end : (i : ℕ) → n ≤ i → OperandsFrom i → true ≡ operands_have m N (operands_at ws at n) G 0
  operands_end i h from = sym (ap (λ c. operands_have m N (operands_at ws (at + i) c) G i) (none_left n i h)) ∙ from

  -- the same of the gives, against the variables from number q on
  module _ (q : ℕ) where
    abbrev pub GivesFrom : ℕ → Type 0
    GivesFrom i = gives_have m N (gives_at ws (at + i) (n - i)) G (q + i) ≡ gives_have m N (gives_at ws at n) G q

    gives_step : (i : ℕ) → i < n → gives_have m N (gives_at ws (at + i) (n - i)) G (q + i)
        ≡ eqb (type_of N (field (get_or ws (at + i) 0) 0 6)) (type_of G (q + i)) && gives_have m N (gives_at ws (at + (i + 1)) (n - (i + 1))) G (q + (i + 1))
    gives_step i h =
        ap (λ c. gives_have m N (gives_at ws (at + i) c) G (q + i)) (one_less n i h)
        ∙ ap (λ p. eqb (type_of N (field (get_or ws (at + i) 0) 0 6)) (type_of G (q + i)) && gives_have m N (gives_at ws p (n - (i + 1))) G (q + i + 1)) (next at i)
        ∙ ap (λ p. eqb (type_of N (field (get_or ws (at + i) 0) 0 6)) (type_of G (q + i)) && gives_have m N (gives_at ws (at + (i + 1)) (n - (i + 1))) G p) (next q i)

    pub gives_more : (i : ℕ) → i < n → GivesFrom i → true ≡ eqb (type_of N (field (get_or ws (at + i) 0) 0 6)) (type_of G (q + i)) → GivesFrom (i + 1)
    gives_more i h from t =
        ap (λ b. b && gives_have m N (gives_at ws (at + (i + 1)) (n - (i + 1))) G (q + (i + 1))) t ∙ sym (gives_step i h) ∙ from

    pub gives_fail : (i : ℕ) → i < n → GivesFrom i → false ≡ eqb (type_of N (field (get_or ws (at + i) 0) 0 6)) (type_of G (q + i)) → false ≡ gives_have m N (gives_at ws at n) G q
    gives_fail i h from t =
        ap (λ b. b && gives_have m N (gives_at ws (at + (i + 1)) (n - (i + 1))) G (q + (i + 1))) t ∙ sym (gives_step i h) ∙ from

    pub gives_end : (i : ℕ) → n ≤ i → GivesFrom i → true ≡ gives_have m N (gives_at ws at n) G q
    gives_end i h from = sym (ap (λ c. gives_have m N (gives_at ws (at + i) c) G (q + i)) (none_left n i h)) ∙ from

-- Past the end every place reads 0.
module _ (ws : List ℕ) where
  both_past : (a b : ℕ) → length ws ≤ a → length ws ≤ b → get_or ws a 0 ≡ get_or ws b 0
  both_past a b h l = get_or_past ws a 0 h ∙ sym (get_or_past ws b 0 l)

  operands_past : (a b n : ℕ) → length ws ≤ a → length ws ≤ b → operands_at ws a n ≡ operands_at ws b n
  operands_past a b zero h l = refl
  operands_past a b (suc n) h l =
      let w = both_past a b h l in
      let e = operands_past (a + 1) (b + 1) n (omega arith) (omega arith) in
      rw (w, e)

  gives_past : (a b n : ℕ) → length ws ≤ a → length ws ≤ b → gives_at ws a n ≡ gives_at ws b n
  gives_past a b zero h l = refl
  gives_past a b (suc n) h l =
      let w = both_past a b h l in
      let e = gives_past (a + 1) (b + 1) n (omega arith) (omega arith) in
      rw (w, e)

  within_or_past : (at : ℕ) → (min at (length ws) ≡ at) ⊎ ((min at (length ws) ≡ length ws) × (length ws ≤ at))
  within_or_past at = search arith

  pub operands_clamped : (at n : ℕ) → operands_at ws (min at (length ws)) n ≡ operands_at ws at n
  operands_clamped at n =
      elim (within_or_past at) [
        | inl e ↦ ap (λ p. operands_at ws p n) e
        | inr e ↦ operands_past (min at (length ws)) at n (omega (arith, e.0)) e.1
      ]

  pub gives_clamped : (at q n : ℕ) → gives_at ws (min at (length ws) + q) n ≡ gives_at ws (at + q) n
  gives_clamped at q n =
      elim (within_or_past at) [
        | inl e ↦ ap (λ p. gives_at ws (p + q) n) e
        | inr e ↦ gives_past (min at (length ws) + q) (at + q) n (omega (arith, e.0)) (omega (arith, e.1))
      ]

-- A call of node g, whose operands are read from a place that is moved back to the end.
module _ {V : Type 0} (m : Meaning V) (T : Table) (N : Node) (k g : ℕ) (r : Option ℕ) (ws : List ℕ) (at : ℕ) (h : g < k) (first : ℕ) (f : first ≡ min at (length ws)) where
  abbrev Typed : Bool
  Typed = equation_typed m (take k T) N (call g r (operands_at ws at (node_at T g).inputs) (gives_at ws (at + (node_at T g).inputs) (node_at T g).outputs))

  abbrev Operands : Bool
  Operands = operands_have m N (operands_at ws first (node_at T g).inputs) (node_at T g) 0

  abbrev Gives : ℕ → Bool
  Gives n = gives_have m N (gives_at ws (first + n) (node_at T g).outputs) (node_at T g) (node_at T g).inputs

  -- the called node is among the earlier ones, where it stands as in the table
  in_parts : Typed ≡ restart_boolean m N r && (Operands && Gives (node_at T g).inputs)
  in_parts =
      let G = node_at T g in
      let n = G.inputs in
      let ops = operands_at ws at n in
      let gs = gives_at ws (at + n) G.outputs in
      let o : ops ≡ operands_at ws first n = sym (ap (λ p. operands_at ws p n) f ∙ operands_clamped ws at n) in
      let q : gs ≡ gives_at ws (first + n) G.outputs = sym (ap (λ p. gives_at ws (p + n) G.outputs) f ∙ gives_clamped ws at n G.outputs) in
      ap (λ H. restart_boolean m N r && (operands_have m N ops H 0 && gives_have m N gs H H.inputs)) (get_or-take k T g none h)
      ∙ ap (λ l. restart_boolean m N r && (operands_have m N l G 0 && gives_have m N gs G n)) o
      ∙ ap (λ l. restart_boolean m N r && (Operands && gives_have m N l G n)) q

  -- the gives decide where the others pass
  pub call_decided : true ≡ restart_boolean m N r → true ≡ Operands → (n : ℕ) → n ≡ (node_at T g).inputs → (b : Bool) → b ≡ Gives n → b ≡ Typed
  call_decided s t n e b d =
      d ∙ ap Gives e ∙ ap (λ y. y && Gives (node_at T g).inputs) t ∙ ap (λ x. x && (Operands && Gives (node_at T g).inputs)) s ∙ sym in_parts

  pub call_fails : true ≡ restart_boolean m N r → false ≡ Operands → (b : Bool) → b ≡ false → b ≡ Typed
  call_fails s t b d =
      d ∙ ap (λ y. y && Gives (node_at T g).inputs) t ∙ ap (λ x. x && (Operands && Gives (node_at T g).inputs)) s ∙ sym in_parts
