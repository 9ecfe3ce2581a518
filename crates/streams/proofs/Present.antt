-- In an instant of a machine a variable is present where its clock holds, and only there.
use Rattle.std.proofs.Common.{◌≡◌, ℕ, suc, ◌+◌, ◌<◌, Bool, true, false, cond, ◌&&◌, eqb, List, [], ◌∷◌, ◌++◌, length, is_some, Some, None, Option, sym, refl, ap, ◌∙◌, inl, inr, arith}
use mathlib.Core.Bool.{beq}
use Rattle.std.specs.Option.{option_map}
use Rattle.std.proofs.lemmas.Option.{slice_get-get_or}
use Rattle.std.proofs.lemmas.Bool.{both_ways, and_parts}
use Rattle.words.specs.declared.kinds.Clock.{Clock}
use Rattle.words.specs.declared.kinds.Clock.TheVariants.{Base, On}
use Rattle.words.specs.declared.kinds.Operand.{Operand}
use Rattle.words.specs.declared.kinds.Operand.TheVariants.{Take, Literal as Constant}
use Rattle.opset.specs.Meaning.{Meaning}
use Rattle.table.specs.Syntax.{Equation, operate, sample, merge, choose, delay, call, Node, Table, node_at, variable_count}
use Rattle.table.specs.Spelling.{EquationKeeps}
use Rattle.rules.specs.Types.{type_of, valued, second_valued, operand_has, operand_type, operands_have, is_boolean, restart_boolean, equation_typed}
use Rattle.rules.specs.Clocks.{clock_of, same_clock, operand_on, second_on, operands_on, gives_on, sample_on, call_clock, equation_clocked}
use Rattle.rules.specs.Definitions.{defined, is_in}
use Rattle.schedule.specs.Reads.{operand_reads, second_reads, operands_read}
use Rattle.streams.specs.Streams.{Env, only_if, entry, paired, sensed, holds, value_of, values_of, second_of, applied, selected, restarted, handed}
use Rattle.streams.specs.History.{RowLong}
use Rattle.streams.specs.Machine.{Tree, Machine, place_of, given}
use Rattle.streams.specs.Instant.{FilledAt, OperandsPresent}
use Rattle.streams.proofs.Places.{in_left, in_right, in_cases, in_head, in_one, placed}
use Rattle.streams.proofs.Uses.{sampler_of, uses, same_clock_lem}

-- a called node: its memories stay filled, and its ports are present where its row is not idle
pub record Behaves {V : Type 0} (G : Node) (c : Machine V) (Full : Tree V → Type 0) : Type 0 where
  pub starts : Full c.start
  pub stays : (M : Tree V) (vs : Option (List V)) → Full M → RowLong G vs → Full (c.next M vs)
  pub ports : (M : Tree V) (vs : Option (List V)) → Full M → RowLong G vs → (y : ℕ) → y < G.inputs + G.outputs → is_some (c.shows M vs y) ≡ is_some vs

only_some : {X : Type 0} (b : Bool) (o : Option X) → (b ≡ true → is_some o ≡ true) → is_some (only_if b o) ≡ b
only_some true o h = h refl
only_some false o h = refl

module _ {V : Type 0} (m : Meaning V) where
  applied_some : (op : ℕ) (p : Option V) (q : Option (Option V)) → is_some p ≡ true → is_some q ≡ true → is_some (applied m op p q) ≡ true
  applied_some op None q h k = h
  applied_some op (Some p) None h k = k
  applied_some op (Some p) (Some q) h k = refl

  mapped_some : (o : Option V) → is_some o ≡ true → is_some (option_map {U = Option V} Some o) ≡ true
  mapped_some None h = h
  mapped_some (Some v) h = refl

  paired_some : (p : Option V) (q : Option (List V)) → is_some p ≡ true → is_some q ≡ true → is_some (paired p q) ≡ true
  paired_some None q h k = h
  paired_some (Some p) None h k = k
  paired_some (Some p) (Some q) h k = refl

  sensed_some : (o : Option V) (b : Bool) → sensed m o b ≡ true → is_some o ≡ true
  sensed_some None b h = h
  sensed_some (Some v) b h = refl

  one_of : (b : Bool) (p q : Option V) → (beq b true ≡ true → is_some p ≡ true) → (beq b false ≡ true → is_some q ≡ true) → is_some (cond b p q) ≡ true
  one_of true p q h k = h refl
  one_of false p q h k = k refl

  selected_some : (o p q : Option V) → is_some o ≡ true → (sensed m o true ≡ true → is_some p ≡ true) → (sensed m o false ≡ true → is_some q ≡ true)
      → is_some (selected m o p q) ≡ true
  selected_some None p q h k l = h
  selected_some (Some u) p q h k l = one_of (m.truth u) p q k l

  -- a row has as many values as a call has operands
  paired_length : (p : Option V) (q : Option (List V)) (n : ℕ) → ((vs : List V) → q ≡ Some vs → length vs ≡ n)
      → (vs : List V) → paired p q ≡ Some vs → length vs ≡ suc n
  paired_length None q n h vs e = absurd (let z : ◌≡◌ {A = ℕ} 0 1 = cc in omega arith)
  paired_length (Some p) None n h vs e = absurd (let z : ◌≡◌ {A = ℕ} 0 1 = cc in omega arith)
  paired_length (Some p) (Some q) n h vs e =
      let r : p ∷ q ≡ vs = cc in
      ap length (sym r) ∙ ap suc (h q refl)

  pub values_length : (E : Env V) (ops : List Operand) (vs : List V) → values_of m E ops ≡ Some vs → length vs ≡ length ops
  values_length E [] vs e = let r : [] ≡ vs = cc in ap length (sym r)
  values_length E (a ∷ l) vs e = paired_length (value_of m E a) (values_of m E l) (length l) (values_length E l) vs e

  row_long : (G : Node) (o : Option (List V)) → ((vs : List V) → o ≡ Some vs → length vs ≡ G.inputs) → RowLong G o
  row_long G None h = tt
  row_long G (Some vs) h = h vs refl

  pub only_is : {X : Type 0} (b : Bool) (o : Option X) (v : X) → only_if b o ≡ Some v → o ≡ Some v
  only_is true o v e = e
  only_is false o v e = absurd (let z : ◌≡◌ {A = ℕ} 0 1 = cc in omega arith)

  pub handed_long : (G : Node) (busy : Bool) (E : Env V) (c : Clock) (ops : List Operand) → length ops ≡ G.inputs → RowLong G (handed m busy E c ops)
  handed_long G busy E c ops h =
      row_long G (handed m busy E c ops) (λ vs e. values_length E ops vs (only_is (holds m busy E c) (values_of m E ops) vs e) ∙ h)

  pub entry_some : (G : Node) (vs : Option (List V)) (x : ℕ) → RowLong G vs → x < G.inputs → is_some (entry vs x) ≡ is_some vs
  entry_some G None x h l = refl
  entry_some G (Some []) x h l = absurd (omega arith)
  entry_some G (Some (v ∷ vs)) x h l = ap is_some (slice_get-get_or (v ∷ vs) x v (omega arith))

  module _ (N : Node) (busy : Bool) (E : Env V) where
    -- variables of a list are present where their clocks hold
    abbrev pub Here : List ℕ → Type 0
    Here l = (z : ℕ) → is_in z l ≡ true → is_some (E z) ≡ holds m busy E (clock_of N z)

    here_left : (l k : List ℕ) → Here (l ++ k) → Here l
    here_left l k h z i = h z (in_left z l k i)

    here_right : (l k : List ℕ) → Here (l ++ k) → Here k
    here_right l k h z i = h z (in_right z l k i)

    -- an operand is present where its clock holds
    value_some : (c : Clock) (a : Operand) → operand_on N c a ≡ true → valued m a ≡ true → holds m busy E c ≡ true → Here (operand_reads a)
        → is_some (value_of m E a) ≡ true
    value_some c (Take x) o v h here = here x (in_head x []) ∙ ap (holds m busy E) (same_clock_lem (clock_of N x) c o) ∙ h
    value_some c (Constant l) o v h here = v

    second_some : (c : Clock) (b : Option Operand) → second_on N c b ≡ true → second_valued m b ≡ true → holds m busy E c ≡ true → Here (second_reads b)
        → is_some (second_of m E b) ≡ true
    second_some c None o v h here = refl
    second_some c (Some b) o v h here = mapped_some (value_of m E b) (value_some c b o v h here)

    values_some : (G : Node) (c : Clock) (l : List Operand) (i : ℕ) → operands_on N c l ≡ true → operands_have m N l G i ≡ true → holds m busy E c ≡ true
        → Here (operands_read l) → is_some (values_of m E l) ≡ true
    values_some G c [] i o v h here = refl
    values_some G c (a ∷ l) i o v h here =
        let p = and_parts (operand_on N c a) (operands_on N c l) o in
        let q = and_parts (operand_has m N a (type_of G i)) (operands_have m N l G (i + 1)) v in
        let r = and_parts (valued m a) (eqb (operand_type N a) (type_of G i)) q.0 in
        paired_some (value_of m E a) (values_of m E l)
        (value_some c a p.0 r.0 h (here_left (operand_reads a) (operands_read l) here))
        (values_some G c l (i + 1) p.1 q.1 h (here_right (operand_reads a) (operands_read l) here))

    sample_some : (a : Operand) (c : Clock) → sample_on N a c ≡ true → valued m a ≡ true → holds m busy E c ≡ true → Here (operand_reads a) → Here (sampler_of c)
        → is_some (value_of m E a) ≡ true
    sample_some a Base o v h here there = absurd (both_ways false refl o)
    sample_some a (On s b) o v h here there =
        value_some (clock_of N s) a o v (sym (there s (in_head s [])) ∙ sensed_some (E s) b h) here

    give_clock : (c : Clock) (gs : List ℕ) (y : ℕ) → gives_on N c gs ≡ true → is_in y gs ≡ true → clock_of N y ≡ c
    give_clock c [] y h i = absurd (both_ways false refl i)
    give_clock c (x ∷ l) y h i =
        let p = and_parts (same_clock (clock_of N x) c) (gives_on N c l) h in
        elim (in_cases y (x ∷ []) l i) [
          | inl j ↦ ap (clock_of N) (in_one y x j) ∙ same_clock_lem (clock_of N x) c p.0
          | inr j ↦ give_clock c l y p.1 j
        ]

    -- what an equation reads, so that what it reads is present where its clock holds
    abbrev pub looks : Equation → List ℕ
    looks (operate op a b x) = uses N (operate op a b x)
    looks (sample a x) = uses N (sample a x)
    looks (merge s a b x) = uses N (merge s a b x)
    looks (choose s a b x) = uses N (choose s a b x)
    looks (delay l a x) = operand_reads a
    looks (call g r ops gs) = uses N (call g r ops gs)

    pub operands_here : (earlier : Table) (e : Equation) → equation_clocked N e ≡ true → equation_typed m earlier N e ≡ true → Here (looks e) → OperandsPresent m N busy E e
    operands_here earlier (operate op a b x) c ty here = λ h.
        let p = and_parts (operand_on N (clock_of N x) a) (second_on N (clock_of N x) b) c in
        let q = and_parts (valued m a) _ ty in
        let r = and_parts (second_valued m b) _ q.1 in (
          value_some (clock_of N x) a p.0 q.0 h (here_left (operand_reads a) _ here),
          second_some (clock_of N x) b p.1 r.0 h (here_left (second_reads b) _ (here_right (operand_reads a) _ here)),
        )
    operands_here earlier (sample a x) c ty here = λ h.
        sample_some a (clock_of N x) c (and_parts (valued m a) _ ty).0 h (here_left (operand_reads a) _ here) (here_right (operand_reads a) _ here)
    operands_here earlier (merge s a b x) c ty here = λ h.
        let p = and_parts (same_clock (clock_of N s) (clock_of N x)) (operand_on N (On s true) a && operand_on N (On s false) b) c in
        let o = and_parts (operand_on N (On s true) a) (operand_on N (On s false) b) p.1 in
        let q = and_parts (is_boolean N s) (operand_has m N a (type_of N x) && operand_has m N b (type_of N x)) ty in
        let r = and_parts (operand_has m N a (type_of N x)) (operand_has m N b (type_of N x)) q.1 in
        let t : Here (operand_reads a ++ (operand_reads b ++ sampler_of (clock_of N x))) = here_right (s ∷ []) _ here in (
          here s (in_head s _) ∙ ap (holds m busy E) (same_clock_lem (clock_of N s) (clock_of N x) p.0) ∙ h,
          λ z. value_some (On s true) a o.0 (and_parts (valued m a) _ r.0).0 z (here_left (operand_reads a) _ t),
          λ z. value_some (On s false) b o.1 (and_parts (valued m b) _ r.1).0 z (here_left (operand_reads b) _ (here_right (operand_reads a) _ t)),
        )
    operands_here earlier (choose s a b x) c ty here = λ h.
        let p = and_parts (same_clock (clock_of N s) (clock_of N x)) (operand_on N (clock_of N x) a && operand_on N (clock_of N x) b) c in
        let o = and_parts (operand_on N (clock_of N x) a) (operand_on N (clock_of N x) b) p.1 in
        let q = and_parts (is_boolean N s) (operand_has m N a (type_of N x) && operand_has m N b (type_of N x)) ty in
        let r = and_parts (operand_has m N a (type_of N x)) (operand_has m N b (type_of N x)) q.1 in
        let t : Here (operand_reads a ++ (operand_reads b ++ sampler_of (clock_of N x))) = here_right (s ∷ []) _ here in (
          here s (in_head s _) ∙ ap (holds m busy E) (same_clock_lem (clock_of N s) (clock_of N x) p.0) ∙ h,
          value_some (clock_of N x) a o.0 (and_parts (valued m a) _ r.0).0 h (here_left (operand_reads a) _ t),
          value_some (clock_of N x) b o.1 (and_parts (valued m b) _ r.1).0 h (here_left (operand_reads b) _ (here_right (operand_reads a) _ t)),
        )
    operands_here earlier (delay l a x) c ty here = λ h.
        let p = and_parts (operand_has m N (Constant l) (type_of N x)) (operand_has m N a (type_of N x)) ty in
        value_some (clock_of N x) a c (and_parts (valued m a) _ p.1).0 h here
    operands_here earlier (call g r ops gs) c ty here = λ h.
        let p = and_parts (operands_on N (call_clock N gs) ops) (gives_on N (call_clock N gs) gs) c in
        let q = and_parts (restart_boolean m N r) _ ty in
        let v = and_parts (operands_have m N ops (node_at earlier g) 0) _ q.1 in
        values_some (node_at earlier g) (call_clock N gs) ops 0 p.0 v.0 h (here_left (operands_read ops) _ here)

    gated : (x y : ℕ) (o : Option V) → is_in y (x ∷ []) ≡ true → E y ≡ only_if (holds m busy E (clock_of N x)) o
        → (holds m busy E (clock_of N x) ≡ true → is_some o ≡ true) → is_some (E y) ≡ holds m busy E (clock_of N y)
    gated x y o i e h =
        ap is_some e ∙ only_some (holds m busy E (clock_of N x)) o h ∙ ap (λ v. holds m busy E (clock_of N v)) (sym (in_one y x i))

    module _ (T : Table) (C : ℕ → Machine V) (R : ℕ → Tree V → Type 0) (earlier : Table)
        (same : (g : ℕ) → g < length earlier → node_at earlier g ≡ node_at T g)
        (behaves : (g : ℕ) → g < length earlier → Behaves (node_at T g) (C g) (R g)) (d : Option V) (t : Tree V) where
      pub either : (b : Bool) (g : ℕ) → g < length earlier → R g t → R g (cond b (C g).start t)
      either true g l f = (behaves g l).starts
      either false g l f = f

      -- what an equation defines is present where its clock holds, if all that it uses are
      pub given_present : (e : Equation) → EquationKeeps earlier (variable_count N) e → equation_clocked N e ≡ true → equation_typed m earlier N e ≡ true
          → FilledAt R e d t → Here (uses N e) → (y : ℕ) → is_in y (defined e) ≡ true → E y ≡ given m T C N busy d t e E y
          → is_some (E y) ≡ holds m busy E (clock_of N y)
      given_present (operate op a b x) k c ty f here y i e =
          gated x y (applied m op (value_of m E a) (second_of m E b)) i e (λ h.
          let o = operands_here earlier (operate op a b x) c ty here h in
          applied_some op (value_of m E a) (second_of m E b) o.0 o.1)
      given_present (sample a x) k c ty f here y i e = gated x y (value_of m E a) i e (operands_here earlier (sample a x) c ty here)
      given_present (merge s a b x) k c ty f here y i e =
          gated x y (selected m (E s) (value_of m E a) (value_of m E b)) i e (λ h.
          let o = operands_here earlier (merge s a b x) c ty here h in
          selected_some (E s) (value_of m E a) (value_of m E b) o.0 o.1 o.2)
      given_present (choose s a b x) k c ty f here y i e =
          gated x y (selected m (E s) (value_of m E a) (value_of m E b)) i e (λ h.
          let o = operands_here earlier (choose s a b x) c ty here h in
          selected_some (E s) (value_of m E a) (value_of m E b) o.0 (λ z. o.1) (λ z. o.2))
      given_present (delay l a x) k c ty f here y i e = gated x y d i e (λ h. f)
      given_present (call g r ops gs) k c ty f here y i e =
          let G : Node = node_at T g in
          let w : node_at earlier g ≡ G = same g k.0 in
          let at = placed y gs i in
          let p = and_parts (operands_on N (call_clock N gs) ops) (gives_on N (call_clock N gs) gs) c in
          let row : Option (List V) = handed m busy E (call_clock N gs) ops in
          let long : length ops ≡ G.inputs = k.4 ∙ ap (λ (M : Node). M.inputs) w in
          let wide : length gs ≡ G.outputs = k.5 ∙ ap (λ (M : Node). M.outputs) w in
          ap is_some e
          ∙ (behaves g k.0).ports (cond (restarted m r E) (C g).start t) row (either (restarted m r E) g k.0 f)
          (handed_long G busy E (call_clock N gs) ops long) (G.inputs + place_of y gs) (omega (arith, at.0))
          ∙ only_some (holds m busy E (call_clock N gs)) (values_of m E ops) (operands_here earlier (call g r ops gs) c ty here)
          ∙ ap (holds m busy E) (sym (give_clock (call_clock N gs) gs y p.1 i))
