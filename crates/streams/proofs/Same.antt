-- What is used decides what is computed.
use Rattle.std.proofs.Common.{◌≡◌, ℕ, zero, suc, ◌<◌, Bool, true, List, [], ◌∷◌, ◌++◌, Some, None, Option, refl, ap, ap₂, arith}
use Rattle.std.specs.Option.{option_map}
use Rattle.words.specs.declared.kinds.Clock.{Clock}
use Rattle.words.specs.declared.kinds.Clock.TheVariants.{Base, On}
use Rattle.words.specs.declared.kinds.Operand.{Operand}
use Rattle.words.specs.declared.kinds.Operand.TheVariants.{Take, Literal as Constant}
use Rattle.opset.specs.Meaning.{Meaning}
use Rattle.table.specs.Syntax.{Equation, operate, sample, merge, choose, delay, call, Node, Table}
use Rattle.rules.specs.Clocks.{clock_of, call_clock}
use Rattle.rules.specs.Definitions.{is_in}
use Rattle.schedule.specs.Reads.{operand_reads, second_reads, operands_read}
use Rattle.streams.specs.Streams.{Env, only_if, held, count_before, sensed, holds, value_of, values_of, second_of, applied, selected, paired, restarted, handed}
use Rattle.streams.specs.Machine.{Tree, Machine, given}
use Rattle.streams.proofs.Places.{in_left, in_right, in_head}
use Rattle.streams.proofs.Uses.{sampler_of, restart_uses, uses, equation_clock}

-- environments agree on a list of variables
abbrev pub Agree : {V : Type 0} → Env V → Env V → List ℕ → Type 0
Agree E F l = (z : ℕ) → is_in z l ≡ true → E z ≡ F z

pub agree_left : {V : Type 0} (E F : Env V) (l k : List ℕ) → Agree E F (l ++ k) → Agree E F l
agree_left E F l k h z i = h z (in_left z l k i)

pub agree_right : {V : Type 0} (E F : Env V) (l k : List ℕ) → Agree E F (l ++ k) → Agree E F k
agree_right E F l k h z i = h z (in_right z l k i)

module _ {V : Type 0} (m : Meaning V) where
  -- what an equation says of its variable where that is present; d is what a DELAY holds
  abbrev pub meant : Env V → Option V → Equation → Option V
  meant G d (operate op a b x) = applied m op (value_of m G a) (second_of m G b)
  meant G d (sample a x) = value_of m G a
  meant G d (merge s a b x) = selected m (G s) (value_of m G a) (value_of m G b)
  meant G d (choose s a b x) = selected m (G s) (value_of m G a) (value_of m G b)
  meant G d (delay l a x) = d
  meant G d (call g r ops gs) = None

module _ {V : Type 0} (m : Meaning V) (E F : Env V) where
  pub value_same : (a : Operand) → Agree E F (operand_reads a) → value_of m E a ≡ value_of m F a
  value_same (Take x) h = h x (in_head x [])
  value_same (Constant l) h = refl

  pub second_same : (b : Option Operand) → Agree E F (second_reads b) → second_of m E b ≡ second_of m F b
  second_same None h = refl
  second_same (Some b) h = ap (option_map Some) (value_same b h)

  pub values_same : (l : List Operand) → Agree E F (operands_read l) → values_of m E l ≡ values_of m F l
  values_same [] h = refl
  values_same (a ∷ l) h =
      ap₂ paired (value_same a (agree_left E F (operand_reads a) (operands_read l) h)) (values_same l (agree_right E F (operand_reads a) (operands_read l) h))

  pub holds_same : (b c : Bool) (k : Clock) → b ≡ c → Agree E F (sampler_of k) → holds m b E k ≡ holds m c F k
  holds_same b c Base e h = e
  holds_same b c (On s sense) e h = ap (λ o. sensed m o sense) (h s (in_head s []))

  pub restarted_same : (r : Option ℕ) → Agree E F (restart_uses r) → restarted m r E ≡ restarted m r F
  restarted_same None h = refl
  restarted_same (Some r) h = ap (λ o. sensed m o true) (h r (in_head r []))

  pub handed_same : (b c : Bool) (k : Clock) (l : List Operand) → b ≡ c → Agree E F (sampler_of k) → Agree E F (operands_read l)
      → handed m b E k l ≡ handed m c F k l
  handed_same b c k l e h i = ap₂ only_if (holds_same b c k e h) (values_same l i)

  module _ (N : Node) where
    pub meant_same : (d : Option V) (e : Equation) → Agree E F (uses N e) → meant m E d e ≡ meant m F d e
    meant_same d (operate op a b x) h =
        ap₂ (applied m op) (value_same a (agree_left E F (operand_reads a) _ h))
        (second_same b (agree_left E F (second_reads b) _ (agree_right E F (operand_reads a) _ h)))
    meant_same d (sample a x) h = value_same a (agree_left E F (operand_reads a) _ h)
    meant_same d (merge s a b x) h =
        let t : Agree E F (operand_reads a ++ (operand_reads b ++ sampler_of (clock_of N x))) = agree_right E F (s ∷ []) _ h in
        let p = h s (in_head s _) in
        let q = value_same a (agree_left E F (operand_reads a) _ t) in
        let r = value_same b (agree_left E F (operand_reads b) _ (agree_right E F (operand_reads a) _ t)) in
        cc
    meant_same d (choose s a b x) h =
        let t : Agree E F (operand_reads a ++ (operand_reads b ++ sampler_of (clock_of N x))) = agree_right E F (s ∷ []) _ h in
        let p = h s (in_head s _) in
        let q = value_same a (agree_left E F (operand_reads a) _ t) in
        let r = value_same b (agree_left E F (operand_reads b) _ (agree_right E F (operand_reads a) _ t)) in
        cc
    meant_same d (delay l a x) h = refl
    meant_same d (call g r ops gs) h = refl

    -- the sampler of an equation's clock is used
    pub clock_used : (e : Equation) → Agree E F (uses N e) → Agree E F (sampler_of (equation_clock N e))
    clock_used (operate op a b x) h = agree_right E F (second_reads b) _ (agree_right E F (operand_reads a) _ h)
    clock_used (sample a x) h = agree_right E F (operand_reads a) _ h
    clock_used (merge s a b x) h = agree_right E F (operand_reads b) _ (agree_right E F (operand_reads a) _ (agree_right E F (s ∷ []) _ h))
    clock_used (choose s a b x) h = agree_right E F (operand_reads b) _ (agree_right E F (operand_reads a) _ (agree_right E F (s ∷ []) _ h))
    clock_used (delay l a x) h = h
    clock_used (call g r ops gs) h = agree_right E F (restart_uses r) _ (agree_right E F (operands_read ops) _ h)

    module _ (T : Table) (C : ℕ → Machine V) (busy : Bool) (d : Option V) (t : Tree V) where
      gated_same : (x : ℕ) (e : Equation) → Agree E F (sampler_of (clock_of N x)) → Agree E F (uses N e)
          → only_if (holds m busy E (clock_of N x)) (meant m E d e) ≡ only_if (holds m busy F (clock_of N x)) (meant m F d e)
      gated_same x e h k = ap₂ only_if (holds_same busy busy (clock_of N x) refl h) (meant_same d e k)

      pub given_same : (e : Equation) → Agree E F (uses N e) → (y : ℕ) → given m T C N busy d t e E y ≡ given m T C N busy d t e F y
      given_same (operate op a b x) h y = gated_same x (operate op a b x) (clock_used (operate op a b x) h) h
      given_same (sample a x) h y = gated_same x (sample a x) (clock_used (sample a x) h) h
      given_same (merge s a b x) h y = gated_same x (merge s a b x) (clock_used (merge s a b x) h) h
      given_same (choose s a b x) h y = gated_same x (choose s a b x) (clock_used (choose s a b x) h) h
      given_same (delay l a x) h y = gated_same x (delay l a x) (clock_used (delay l a x) h) h
      given_same (call g r ops gs) h y =
          let p = handed_same busy busy (call_clock N gs) ops refl (clock_used (call g r ops gs) h) (agree_left E F (operands_read ops) _ h) in
          let q = restarted_same r (agree_left E F (restart_uses r) _ (agree_right E F (operands_read ops) _ h)) in
          cc

pub held_same : {V : Type 0} (first : Option V) (xs ys us vs : ℕ → Option V) (i : ℕ)
    → ((j : ℕ) → j < i → xs j ≡ ys j) → ((j : ℕ) → j < i → us j ≡ vs j) → held first xs us i ≡ held first ys vs i
held_same first xs ys us vs zero h k = refl
held_same first xs ys us vs (suc i) h k =
    let ih = held_same first xs ys us vs i (λ j q. h j (omega arith)) (λ j q. k j (omega arith)) in
    let e : xs i ≡ ys i = h i (omega arith) in
    let f : us i ≡ vs i = k i (omega arith) in
    cc

pub count_same : (r s : ℕ → Bool) (i : ℕ) → ((j : ℕ) → j < i → r j ≡ s j) → count_before r i ≡ count_before s i
count_same r s zero h = refl
count_same r s (suc i) h =
    let ih = count_same r s i (λ j q. h j (omega arith)) in
    let e : r i ≡ s i = h i (omega arith) in
    cc
