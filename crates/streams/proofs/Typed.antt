-- A present variable's value belongs to its type.
use Rattle.std.proofs.Common.{◌≡◌, ℕ, zero, suc, ◌+◌, ◌<◌, ◌≤◌, Bool, true, false, cond, ◌&&◌, eqb, List, [], ◌∷◌, ◌++◌, length, get_or, take, is_some, Some, None, Option, sym, refl, ap, ◌∙◌, subst, inl, inr, arith}
use Rattle.std.specs.Option.{option_map}
use Rattle.std.specs.List.{slice_get}
use Rattle.std.proofs.lemmas.Bool.{cases_eq, cases_Bool, both_ways, and_parts, eqb-true, eqb-false}
use Rattle.words.specs.declared.kinds.Operand.{Operand}
use Rattle.words.specs.declared.kinds.Operand.TheVariants.{Take, Literal as Constant}
use Rattle.opset.specs.Meaning.{Meaning, Laws}
use Rattle.table.specs.Syntax.{Equation, operate, sample, merge, choose, delay, call, Node, Table, node_at, variable_count}
use Rattle.table.specs.Spelling.{EquationKeeps, NodeKeeps}
use Rattle.rules.specs.Types.{type_of, valued, second_valued, operand_has, operand_type, operands_have, gives_have, is_type, is_boolean, restart_boolean, equation_typed}
use Rattle.rules.specs.Clocks.{clock_of, call_clock}
use Rattle.rules.specs.Definitions.{defined, is_in}
use Rattle.schedule.specs.Reads.{operand_reads, second_reads, operands_read, equation_at}
use Rattle.admission.specs.Keeps.{KeepsNode, KeepsRules}
use Rattle.streams.specs.Streams.{Env, Streams, Rows, NodeMeaning, Is, only_if, entry, held, masked, paired, holds, literal_of, value_of, values_of, second_of, applied, selected, restarts, Says, MeetsNode, MeetsBelow, Meets}
use Rattle.streams.specs.History.{instants, row_at, count_at, main, RowFits, RowTyped}
use Rattle.streams.specs.Machine.{place_of}
use Rattle.streams.specs.Statements.{StreamsTyped}
use Rattle.streams.proofs.Places.{below, in_left, in_right, in_head, in_one, placed}
use Rattle.streams.proofs.Uses.{sampler_of, uses}
use Rattle.streams.proofs.Facts.{keeps, uses_in, operand_in}
use Rattle.streams.proofs.Along.{along}
use Rattle.streams.proofs.Present.{values_length}
use Rattle.streams.proofs.Steps.{earlier_count, earlier_same}
use Rattle.streams.proofs.Histories.{fits_long, rows_typed}

module _ {V : Type 0} (m : Meaning V) (laws : Laws m) where
  -- values of streams of one meaning belong to their types, up to each instant, where the rows' do
  abbrev Typed : NodeMeaning V → Node → Type 0
  Typed M G = (rows : Rows V) (n : ℕ) (H : Streams V) → M rows n H → (l : ℕ) → l ≤ n → ((i : ℕ) → i < l → RowTyped m G (rows i))
      → (i : ℕ) → i < l → (y : ℕ) → y < variable_count G → (v : V) → H i y ≡ Some v → m.belongs v (type_of G y) ≡ true

  -- all that an option may be belong to a type
  abbrev Of : Option V → ℕ → Type 0
  Of o ty = (v : V) → o ≡ Some v → m.belongs v ty ≡ true

  is_type_lem : (o : Option ℕ) (t : ℕ) → is_type m o t ≡ true → o ≡ Some t
  is_type_lem None t h = absurd (both_ways false refl h)
  is_type_lem (Some u) t h = ap Some (eqb-true u t h)

  unary_typed : (op a t : ℕ) (p : Option V) → m.result_type op a None ≡ Some t → Of p a → Of (applied m op p (Some None)) t
  unary_typed op a t None r h v e = absurd (let z : ◌≡◌ {A = ℕ} 0 1 = cc in omega arith)
  unary_typed op a t (Some x) r h v e =
      let q : m.apply op x None ≡ v = cc in
      subst (λ w. m.belongs w t ≡ true) q (laws.unary_belongs op a t x r (h x refl))

  binary_typed : (op a b t : ℕ) (p q : Option V) → m.result_type op a (Some b) ≡ Some t → Of p a → Of q b → Of (applied m op p (option_map Some q)) t
  binary_typed op a b t None q r h k v e = absurd (let z : ◌≡◌ {A = ℕ} 0 1 = cc in omega arith)
  binary_typed op a b t (Some x) None r h k v e = absurd (let z : ◌≡◌ {A = ℕ} 0 1 = cc in omega arith)
  binary_typed op a b t (Some x) (Some y) r h k v e =
      let q : m.apply op x (Some y) ≡ v = cc in
      subst (λ w. m.belongs w t ≡ true) q (laws.binary_belongs op a b t x y r (h x refl) (k y refl))

  selected_typed : (t : ℕ) (o p q : Option V) → Of p t → Of q t → Of (selected m o p q) t
  selected_typed t None p q h k v e = absurd (let z : ◌≡◌ {A = ℕ} 0 1 = cc in omega arith)
  selected_typed t (Some u) p q h k v e = go (m.truth u) e
    where
      go : (b : Bool) → cond b p q ≡ Some v → m.belongs v t ≡ true
      go true e = h v e
      go false e = k v e

  held_typed : (t : ℕ) (first : Option V) (xs vs : ℕ → Option V) (i : ℕ) → Of first t → ((j : ℕ) → j < i → Of (vs j) t) → Of (held first xs vs i) t
  held_typed t first xs vs zero h k = h
  held_typed t first xs vs (suc i) h k =
      let more : Of (held first xs vs i) t = held_typed t first xs vs i h (λ j q. k j (omega arith)) in
      go (is_some (xs i)) more
    where
      go : (b : Bool) → Of (held first xs vs i) t → Of (cond b (vs i) (held first xs vs i)) t
      go true more = k i (omega arith)
      go false more = more

  module _ (N : Node) (E : Env V) where
    -- the values of a list of variables belong to their types
    abbrev Fine : List ℕ → Type 0
    Fine l = (z : ℕ) → is_in z l ≡ true → Of (E z) (type_of N z)

    fine_left : (l k : List ℕ) → Fine (l ++ k) → Fine l
    fine_left l k h z i = h z (in_left z l k i)

    fine_right : (l k : List ℕ) → Fine (l ++ k) → Fine k
    fine_right l k h z i = h z (in_right z l k i)

    value_typed : (a : Operand) → Fine (operand_reads a) → Of (value_of m E a) (operand_type N a)
    value_typed (Take x) h = h x (in_head x [])
    value_typed (Constant l) h = laws.literal_belongs l.ty l.payload

    operand_typed : (a : Operand) (t : ℕ) → operand_has m N a t ≡ true → Fine (operand_reads a) → Of (value_of m E a) t
    operand_typed a t o h =
        subst (Of (value_of m E a)) (eqb-true (operand_type N a) t (and_parts (valued m a) (eqb (operand_type N a) t) o).1) (value_typed a h)

    operate_typed : (op : ℕ) (a : Operand) (b : Option Operand) (t : ℕ) → is_type m (m.result_type op (operand_type N a) (option_map (operand_type N) b)) t ≡ true
        → Fine (operand_reads a) → Fine (second_reads b) → Of (applied m op (value_of m E a) (second_of m E b)) t
    operate_typed op a None t r h k = unary_typed op (operand_type N a) t (value_of m E a) (is_type_lem _ t r) (value_typed a h)
    operate_typed op a (Some b) t r h k =
        binary_typed op (operand_type N a) (operand_type N b) t (value_of m E a) (value_of m E b) (is_type_lem _ t r) (value_typed a h) (value_typed b k)

    -- the row that a call hands on
    values_typed : (G : Node) (l : List Operand) (k : ℕ) → operands_have m N l G k ≡ true → Fine (operands_read l)
        → (vs : List V) → values_of m E l ≡ Some vs → (x : ℕ) (v : V) (j : ℕ) → j ≡ k + x → slice_get vs x ≡ Some v → m.belongs v (type_of G j) ≡ true
    values_typed G [] k o h vs e x v j q r =
        let w : [] ≡ vs = cc in
        absurd (let s : slice_get [] x ≡ Some v = ap (λ us. slice_get us x) w ∙ r in let z : ◌≡◌ {A = ℕ} 0 1 = cc in omega arith)
    values_typed G (a ∷ l) k o h vs e x v j q r =
        let p = and_parts (operand_has m N a (type_of G k)) (operands_have m N l G (k + 1)) o in
        go (value_of m E a) (values_of m E l) e x q r (operand_typed a (type_of G k) p.0 (fine_left (operand_reads a) (operands_read l) h))
        (values_typed G l (k + 1) p.1 (fine_right (operand_reads a) (operands_read l) h))
      where
        go : (p : Option V) (us : Option (List V)) → paired p us ≡ Some vs → (x : ℕ) → j ≡ k + x → slice_get vs x ≡ Some v → Of p (type_of G k)
            → ((ws : List V) → us ≡ Some ws → (x : ℕ) (v : V) (j : ℕ) → j ≡ k + 1 + x → slice_get ws x ≡ Some v → m.belongs v (type_of G j) ≡ true)
            → m.belongs v (type_of G j) ≡ true
        go None us e x q r h more = absurd (let z : ◌≡◌ {A = ℕ} 0 1 = cc in omega arith)
        go (Some u) None e x q r h more = absurd (let z : ◌≡◌ {A = ℕ} 0 1 = cc in omega arith)
        go (Some u) (Some us) e zero q r h more =
            let w : u ∷ us ≡ vs = cc in
            let s : Some u ≡ Some v = ap (λ ws. slice_get ws 0) w ∙ r in
            let c : k ≡ j = omega arith in
            subst (λ i. m.belongs v (type_of G i) ≡ true) c (h v s)
        go (Some u) (Some us) e (suc x) q r h more =
            let w : u ∷ us ≡ vs = cc in
            more us refl x v j (omega arith) (ap (λ ws. slice_get ws (suc x)) w ∙ r)

    row_typed : (G : Node) (o : Option (List V)) → ((vs : List V) → o ≡ Some vs → RowFits m G vs) → RowTyped m G o
    row_typed G None h = tt
    row_typed G (Some vs) h = h vs refl

    pub only_typed : (G : Node) (b : Bool) (o : Option (List V)) → RowTyped m G o → RowTyped m G (only_if b o)
    only_typed G true o h = h
    only_typed G false o h = tt

    values_fit : (G : Node) (l : List Operand) → length l ≡ G.inputs → operands_have m N l G 0 ≡ true → Fine (operands_read l) → RowTyped m G (values_of m E l)
    values_fit G l n o h = row_typed G (values_of m E l) (λ vs e. record {
      long = values_length m E l vs e ∙ n;
      typed = λ x v r. values_typed G l 0 o h vs e x v x (omega arith) r;
    })

  gives_typed : (N G : Node) (l : List ℕ) (k : ℕ) → gives_have m N l G k ≡ true → (p j : ℕ) → p < length l → j ≡ k + p → type_of N (get_or l p 0) ≡ type_of G j
  gives_typed N G [] k h p j pl e = absurd (omega arith)
  gives_typed N G (x ∷ l) k h zero j pl e =
      let p = and_parts (eqb (type_of N x) (type_of G k)) (gives_have m N l G (k + 1)) h in
      let c : k ≡ j = omega arith in
      eqb-true (type_of N x) (type_of G k) p.0 ∙ ap (type_of G) c
  gives_typed N G (x ∷ l) k h (suc p) j pl e =
      gives_typed N G l (k + 1) (and_parts (eqb (type_of N x) (type_of G k)) (gives_have m N l G (k + 1)) h).1 p j (omega arith) (omega arith)

  module _ (T : Table) (R : ℕ → NodeMeaning V) (earlier : Table)
      (same : (g : ℕ) → g < length earlier → node_at earlier g ≡ node_at T g)
      (ports : (g : ℕ) → g < length earlier → (node_at T g).inputs + (node_at T g).outputs ≤ variable_count (node_at T g))
      (typed : (g : ℕ) → g < length earlier → Typed (R g) (node_at T g))
      (N : Node) (L : NodeKeeps earlier N) (K : KeepsNode m earlier N) (rows : Rows V) (n : ℕ) (H : Streams V) (h : MeetsNode m T R N rows n H)
      (l : ℕ) (le : l ≤ n) (fit : (i : ℕ) → i < l → RowTyped m N (rows i)) where
    input_typed : (vs : Option (List V)) (x : ℕ) → RowTyped m N vs → Of (entry vs x) (type_of N x)
    input_typed None x f v e = absurd (let z : ◌≡◌ {A = ℕ} 0 1 = cc in omega arith)
    input_typed (Some vs) x f v e = f.typed x v e

    module _ (i : ℕ) (il : i < l) (past : (j : ℕ) → j < i → (y : ℕ) → y < variable_count N → Of (H j y) (type_of N y)) where
      defines : (x : ℕ) (f : ℕ → Option V) → Is n H x f → Of (f i) (type_of N x) → (y : ℕ) → is_in y (x ∷ []) ≡ true → Of (H i y) (type_of N y)
      defines x f s o y d =
          let q : y ≡ x = in_one y x d in
          subst (λ z. Of (H i z) (type_of N z)) (sym q) (λ v e. o v (s i v (omega arith) e))

      -- an equation gives values of its variables' types
      one : (e : Equation) → EquationKeeps earlier (variable_count N) e → equation_typed m earlier N e ≡ true → ((z : ℕ) → is_in z (uses N e) ≡ true → z < variable_count N)
          → Says m T R N rows n H e → Fine N (H i) (uses N e) → (y : ℕ) → is_in y (defined e) ≡ true → Of (H i y) (type_of N y)
      one (operate op a b x) k ty u s now =
          let p = and_parts (valued m a) _ ty in
          let q = and_parts (second_valued m b) _ p.1 in
          defines x _ s (operate_typed N (H i) op a b (type_of N x) q.1 (fine_left N (H i) (operand_reads a) _ now)
          (fine_left N (H i) (second_reads b) _ (fine_right N (H i) (operand_reads a) _ now)))
      one (sample a x) k ty u s now = defines x _ s (operand_typed N (H i) a (type_of N x) ty (fine_left N (H i) (operand_reads a) _ now))
      one (merge c a b x) k ty u s now =
          let p = and_parts (is_boolean N c) (operand_has m N a (type_of N x) && operand_has m N b (type_of N x)) ty in
          let q = and_parts (operand_has m N a (type_of N x)) (operand_has m N b (type_of N x)) p.1 in
          let t : Fine N (H i) (operand_reads a ++ (operand_reads b ++ sampler_of (clock_of N x))) = fine_right N (H i) (c ∷ []) _ now in
          defines x _ s (selected_typed (type_of N x) (H i c) (value_of m (H i) a) (value_of m (H i) b)
          (operand_typed N (H i) a (type_of N x) q.0 (fine_left N (H i) (operand_reads a) _ t))
          (operand_typed N (H i) b (type_of N x) q.1 (fine_left N (H i) (operand_reads b) _ (fine_right N (H i) (operand_reads a) _ t))))
      one (choose c a b x) k ty u s now =
          let p = and_parts (is_boolean N c) (operand_has m N a (type_of N x) && operand_has m N b (type_of N x)) ty in
          let q = and_parts (operand_has m N a (type_of N x)) (operand_has m N b (type_of N x)) p.1 in
          let t : Fine N (H i) (operand_reads a ++ (operand_reads b ++ sampler_of (clock_of N x))) = fine_right N (H i) (c ∷ []) _ now in
          defines x _ s (selected_typed (type_of N x) (H i c) (value_of m (H i) a) (value_of m (H i) b)
          (operand_typed N (H i) a (type_of N x) q.0 (fine_left N (H i) (operand_reads a) _ t))
          (operand_typed N (H i) b (type_of N x) q.1 (fine_left N (H i) (operand_reads b) _ (fine_right N (H i) (operand_reads a) _ t))))
      one (delay d a x) k ty u s now =
          let p = and_parts (operand_has m N (Constant d) (type_of N x)) (operand_has m N a (type_of N x)) ty in
          defines x _ s (held_typed (type_of N x) (literal_of m d) (λ j. H j x) (λ j. value_of m (H j) a) i
          (operand_typed N (H i) (Constant d) (type_of N x) p.0 (λ z q. absurd (both_ways false refl q)))
          (λ j q. operand_typed N (H j) a (type_of N x) p.1 (λ z r. past j q z (operand_in (variable_count N) a k.1 z r))))
      one (call g r ops gs) kept ty u s now = λ y d v e.
          let G : Node = node_at T g in
          let w : node_at earlier g ≡ G = same g kept.0 in
          let p = and_parts (restart_boolean m N r) _ ty in
          let q = and_parts (operands_have m N ops (node_at earlier g) 0) (gives_have m N gs (node_at earlier g) (node_at earlier g).inputs) p.1 in
          let os : operands_have m N ops G 0 ≡ true = subst (λ (M : Node). operands_have m N ops M 0 ≡ true) w q.0 in
          let ys : gives_have m N gs G G.inputs ≡ true = subst (λ (M : Node). gives_have m N gs M M.inputs ≡ true) w q.1 in
          let long : length ops ≡ G.inputs = kept.4 ∙ ap (λ (M : Node). M.inputs) w in
          let wide : length gs ≡ G.outputs = kept.5 ∙ ap (λ (M : Node). M.outputs) w in
          let at = placed y gs d in
          let near : (j : ℕ) → j < suc i → Fine N (H j) (operands_read ops) =
          λ j b z t. elim (cases_eq j i) [
            | inl c ↦ rw c (now z (in_left z (operands_read ops) _ t))
            | inr ne ↦ past j (omega arith) z (u z (in_left z (operands_read ops) _ t))
          ] in
          let k : ℕ = restarts m r H i in
          let f = (s k).2 i (place_of y gs) (omega arith) refl at.0 in
          let b = typed g kept.0 _ n (s k).0 (s k).1 (suc i) (omega arith)
          (λ j b. only_typed N (H j) G (eqb (restarts m r H j) k) _ (only_typed N (H j) G (holds m (is_some (rows j)) (H j) (call_clock N gs)) (values_of m (H j) ops)
          (values_fit N (H j) G ops long os (near j b))))
          i (omega arith) (G.inputs + place_of y gs) (omega (arith, at.0, ports g kept.0)) v (sym f ∙ ap (H i) at.1 ∙ e) in
          let t = gives_typed N G gs G.inputs ys (place_of y gs) (G.inputs + place_of y gs) at.0 refl in
          subst (λ z. m.belongs v z ≡ true) (sym (ap (type_of N) (sym at.1) ∙ t)) b

      at_instant : (y : ℕ) → y < variable_count N → Of (H i y) (type_of N y)
      at_instant =
          along m earlier N L K (λ y. Of (H i y) (type_of N y))
          (λ x xl v e. input_typed (rows i) x (fit i il) v (sym (h.inputs i x (omega arith) xl) ∙ e))
          (λ j y jl d now. one (equation_at N j) (keeps m earlier N L K j jl) (K.typed_equations j jl) (λ z. uses_in m earlier N L K j z jl)
          (h.equations j jl) now y d)

    node_typed : (i : ℕ) → i < l → (y : ℕ) → y < variable_count N → Of (H i y) (type_of N y)
    node_typed i il =
        below (λ i. i < l → (y : ℕ) → y < variable_count N → Of (H i y) (type_of N y))
        (λ i past il. at_instant i il (λ j q. past j q (omega arith))) (suc i) i (omega arith) il

  module _ (T : Table) (K : KeepsRules m T) where
    from_below : (f : ℕ) → f < length T → ((g : ℕ) → g < f → Typed (MeetsBelow m T f g) (node_at T g)) → Typed (Meets m T f) (node_at T f)
    from_below f l more rows n H h =
        node_typed T (MeetsBelow m T f) (take f T) (λ g. earlier_same m T f g (omega arith))
        (λ g q. (K.limits.nodes g (omega (arith, earlier_count m T f (omega arith)))).count.0)
        (λ g q. more g (omega (arith, earlier_count m T f (omega arith))))
        (node_at T f) (K.limits.nodes f l) (K.nodes f l) rows n H h

    typed_below : (f : ℕ) → f ≤ length T → (g : ℕ) → g < f → Typed (MeetsBelow m T f g) (node_at T g)
    typed_below zero l g h = absurd (omega arith)
    typed_below (suc f) l g h =
        elim (cases_Bool (eqb g f)) [
          | inl e ↦ rw (e, eqb-true g f e) (from_below f (omega arith) (typed_below f (omega arith)))
          | inr e ↦ rw e (typed_below f (omega arith) g (omega (arith, eqb-false g f e)))
        ]

    pub streams_typed : StreamsTyped m T
    streams_typed = record {
      long = fits_long m (node_at T (main T));
      node = λ k l rows fit n H h i y v il yl e.
          from_below k l (typed_below k (omega arith)) rows n H h n (omega arith) (λ j q. fit j) i il y yl v e;
      history = λ h fit S s i y v il yl e.
          let N : Node = node_at T (main T) in
          let a = s (count_at h i) in
          let ml : main T < length T = omega (arith, K.limits.count.0) in
          from_below (main T) ml (typed_below (main T) (omega arith)) (masked (count_at h) (count_at h i) (row_at h)) (instants h) a.0 a.1
          (instants h) (omega arith) (λ j q. only_typed N (S i) N (eqb (count_at h j) (count_at h i)) (row_at h j) (rows_typed m N h fit j))
          i il y yl v (sym (a.2 i y il refl yl) ∙ e);
    }
