-- The inputs with which a step begins: what they were offered, else payload 0 of their type.
use Rattle.std.proofs.Common.{◌≡◌, ℕ, zero, suc, ◌<◌, ◌≤◌, Bool, true, false, cond, List, length, get_or, is_some as option_is_some, Some, None, Option, sym, refl, ap, ◌∙◌, inl, inr, arith}
use Rattle.std.proofs.lemmas.Bool.{cases_eq, cases_lt, and_parts, true≢false, false≢true}
use Rattle.std.proofs.lemmas.Option.{slice_get_past}
use Rattle.std.specs.List.{slice_get}
use Rattle.opset.specs.Meaning.{Meaning, Laws}
use Rattle.table.specs.Syntax.{Node, variable_count}
use Rattle.rules.specs.Types.{type_of, variable_typed}
use Rattle.rules.specs.First.{or_else}
use Rattle.streams.specs.Streams.{Env}
use Rattle.streams.specs.History.{RowFits}
use Rattle.execution.specs.Cells.{stored}
use Rattle.execution.specs.Sound.{input_type}
use Rattle.realization.proofs.Cells.{length_stored, stored_here, stored_other}
use Rattle.calls.specs.Calls.{defaulted}
use Rattle.calls.specs.Story.{input_of, row_of}
use Rattle.calls.proofs.Rows.{Valued, row_long, row_at_lem}

-- in an instant: the marks are of the inputs that were offered a value, and their cells have it
pub record Offered {V : Type 0} (m : Meaning V) (N : Node) (offers : Env V) (marks : List Bool) (cells : List V) : Type 0 where
  pub long : length marks ≡ 16
  pub marked : (i : ℕ) → get_or marks i false ≡ option_is_some (offers i)
  pub value : (i : ℕ) (v : V) → offers i ≡ Some v → (i < N.inputs) × (slice_get cells i ≡ Some v) × (m.belongs v (type_of N i) ≡ true)

is_some : {X : Type 0} (o : Option X) → option_is_some o ≡ true → (x : X) × (o ≡ Some x)
is_some None e = absurd (false≢true e)
is_some (Some x) e = (x, refl)

is_none : {X : Type 0} (o : Option X) → option_is_some o ≡ false → o ≡ None
is_none None e = refl
is_none (Some x) e = absurd (true≢false e)

module _ {V : Type 0} (m : Meaning V) (laws : Laws m) (N : Node) (ws : List ℕ)
    (few : N.inputs ≤ variable_count N)
    (typed : (x : ℕ) → x < variable_count N → variable_typed m N x ≡ true)
    (types : (i : ℕ) → i < N.inputs → input_type ws i ≡ type_of N i) where
  -- payload 0 has a value in an input's type
  first_value_lem : (i : ℕ) → i < N.inputs → (v : V) × (m.literal (type_of N i) 0 ≡ Some v)
  first_value_lem i l = laws.zero_literal (type_of N i) (and_parts _ _ (typed i (omega arith))).0

  module _ (offers : Env V) (marks : List Bool) (cells : List V) (off : Offered m N offers marks cells) (room : N.inputs ≤ length cells) where
    pub input_valued : Valued (input_of m N offers) N.inputs
    input_valued i l = go (offers i)
      where
        go : (o : Option V) → (v : V) × (or_else o (m.literal (type_of N i) 0) ≡ Some v)
        go None = first_value_lem i l
        go (Some v) = (v, refl)

    pub input_belongs : (i : ℕ) (v : V) → i < N.inputs → input_of m N offers i ≡ Some v → m.belongs v (type_of N i) ≡ true
    input_belongs i v l e = go (offers i) refl e
      where
        go : (o : Option V) → offers i ≡ o → or_else o (m.literal (type_of N i) 0) ≡ Some v → m.belongs v (type_of N i) ≡ true
        go None q e = laws.literal_belongs (type_of N i) 0 v e
        go (Some u) q e = let s = off.value i u q in let same : u ≡ v = cc in ap (λ w. m.belongs w (type_of N i)) (sym same) ∙ s.2

    -- what is in the cells after the first n inputs
    pub record FilledIn (n : ℕ) (after : List V) : Type 0 where
      pub long : length after ≡ length cells
      pub input : (i : ℕ) → i < n → slice_get after i ≡ input_of m N offers i
      pub past : (a : ℕ) → n ≤ a → slice_get after a ≡ slice_get cells a

    filled_more : (n : ℕ) → n < N.inputs → (before : List V) → FilledIn n before → (b : Bool) → get_or marks n false ≡ b
        → FilledIn (suc n) (cond b before (stored before n (m.literal (input_type ws n) 0)))
    filled_more n l before f true e =
        let x = is_some (offers n) (sym (off.marked n) ∙ e) in
        record {
          long = f.long;
          input = λ i h. elim (cases_eq i n) [
            | inl q ↦ ap (slice_get before) q ∙ f.past n (omega arith) ∙ (off.value n x.0 x.1).1
                ∙ sym (ap (λ j. or_else (offers j) (m.literal (type_of N j) 0)) q ∙ ap (λ o. or_else o (m.literal (type_of N n) 0)) x.1)
            | inr ne ↦ f.input i (omega arith)
          ];
          past = λ a h. f.past a (omega arith);
        }
    filled_more n l before f false e =
        let none = is_none (offers n) (sym (off.marked n) ∙ e) in
        let x = first_value_lem n l in
        let lit : m.literal (input_type ws n) 0 ≡ Some x.0 = ap (λ t. m.literal t 0) (types n l) ∙ x.1 in
        record {
          long = length_stored before n (m.literal (input_type ws n) 0) ∙ f.long;
          input = λ i h. elim (cases_eq i n) [
            | inl q ↦ ap (slice_get (stored before n (m.literal (input_type ws n) 0))) q
                ∙ stored_here before n (m.literal (input_type ws n) 0) x.0 (omega (arith, f.long)) lit ∙ sym x.1
                ∙ sym (ap (λ j. or_else (offers j) (m.literal (type_of N j) 0)) q ∙ ap (λ o. or_else o (m.literal (type_of N n) 0)) none)
            | inr ne ↦ stored_other before n (m.literal (input_type ws n) 0) i ne ∙ f.input i (omega arith)
          ];
          past = λ a h. stored_other before n (m.literal (input_type ws n) 0) a (λ q. omega arith) ∙ f.past a (omega arith);
        }

    pub filled_in : (n : ℕ) → n ≤ N.inputs → FilledIn n (defaulted m ws marks n cells)
    filled_in zero l = record { long = refl; input = λ i h. absurd (omega arith); past = λ a h. refl }
    filled_in (suc n) l = filled_more n l (defaulted m ws marks n cells) (filled_in n (omega arith)) (get_or marks n false) refl

    pub row_fits : RowFits m N (row_of m N offers)
    row_fits = record {
      long = row_long (input_of m N offers) N.inputs input_valued;
      typed = typed_at;
    }
      where
        typed_at : (x : ℕ) (v : V) → slice_get (row_of m N offers) x ≡ Some v → m.belongs v (type_of N x) ≡ true
        typed_at x v e = elim (cases_lt x N.inputs) [
          | inl l ↦ input_belongs x v l (sym (row_at_lem (input_of m N offers) N.inputs input_valued x l) ∙ e)
          | inr l ↦ absurd (let past = slice_get_past (row_of m N offers) x (omega (arith, row_long (input_of m N offers) N.inputs input_valued)) in
              let z : ◌≡◌ {A = ℕ} 0 1 = cc in omega arith)
        ]
