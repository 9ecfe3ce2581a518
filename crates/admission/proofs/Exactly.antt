-- No node is at fault exactly when the table keeps the rules.
use Rattle.std.proofs.Common.{◌≡◌, ℕ, zero, suc, ◌<◌, ◌≤◌, Bool, true, false, cond, leb, length, get_or, take, is_some as option_is_some, Some, None, Option, refl, ap, ◌∙◌, arith, below_more, leb-true}
use Rattle.std.specs.Option.{option_map}
use Rattle.opset.specs.Meaning.{Meaning}
use Rattle.table.specs.Syntax.{Table, node_at, variable_count, equation_at, equation_count}
use Rattle.rules.specs.First.{or_else, first_bad}
use Rattle.rules.proofs.First.{bad_none, none_from}
use Rattle.rules.specs.Types.{variable_typed, equation_typed}
use Rattle.rules.specs.Clocks.{variable_clocked, equation_clocked}
use Rattle.rules.specs.Definitions.{variable_defined}
use Rattle.rules.specs.Offences.{variable_place, type_offence, clock_offence, definition_offence}
use Rattle.schedule.specs.Reads.{before}
use Rattle.schedule.specs.Need.{needs}
use Rattle.schedule.proofs.Unique.{order_exists}
use Rattle.admission.specs.declared.faults.Fault.TheVariants.{Rules, Order as Circle, Size}
use Rattle.admission.specs.Keeps.{KeepsNode}
use Rattle.admission.specs.Verdict.{rule_fault, node_order, order_fault, size_fault, node_fault, first_fault}
use Rattle.admission.specs.Statement.{AdmissionStands}
use Rattle.admission.proofs.Progress.{no_fault}

-- nothing of two, and of what is mapped
both_none : {X : Type 0} (a b : Option X) → or_else a b ≡ None → (a ≡ None) × (b ≡ None)
both_none None b e = (refl, e)
both_none (Some x) b e = absurd (let z : ◌≡◌ {A = ℕ} 0 1 = cc in omega arith)

mapped_none : {X Y : Type 0} (f : X → Y) (o : Option X) → option_map f o ≡ None → o ≡ None
mapped_none f None e = refl
mapped_none f (Some x) e = absurd (let z : ◌≡◌ {A = ℕ} 0 1 = cc in omega arith)

cond_none : {X : Type 0} (b : Bool) (x : X) → cond b None (Some x) ≡ None → b ≡ true
cond_none true x e = refl
cond_none false x e = absurd (let z : ◌≡◌ {A = ℕ} 0 1 = cc in omega arith)

is_some : {X : Type 0} (o : Option X) → option_is_some o ≡ true → (x : X) × (o ≡ Some x)
is_some None e = absurd (let z : ◌≡◌ {A = ℕ} 0 1 = cc in omega arith)
is_some (Some x) e = (x, refl)

module _ {V : Type 0} (m : Meaning V) (T : Table) where
  each_none : (n k : ℕ) → k < n → first_fault m T n ≡ None → node_fault m T k ≡ None
  each_none zero k h e = absurd (omega arith)
  each_none (suc n) k h e =
      let b = both_none (first_fault m T n) (node_fault m T n) e in
      below_more (λ j. node_fault m T j ≡ None) n (λ j l. each_none n j l b.0) b.1 k (omega arith)

  none_each : (n : ℕ) → ((k : ℕ) → k < n → node_fault m T k ≡ None) → first_fault m T n ≡ None
  none_each zero f = refl
  none_each (suc n) f = ap (λ o. or_else o (node_fault m T n)) (none_each n (λ k l. f k (omega arith))) ∙ f n (omega arith)

  module _ (k : ℕ) where
    keeps_from : node_fault m T k ≡ None → KeepsNode m (take k T) (node_at T k) × (get_or (needs T) k 0 ≤ 4096)
    keeps_from e =
        let N = node_at T k in
        let a = both_none (option_map Rules (rule_fault m T k)) _ e in
        let b = both_none (option_map Circle (order_fault T k)) _ a.1 in
        let r = both_none (option_map _ (type_offence m T k)) _ (mapped_none Rules (rule_fault m T k) a.0) in
        let q = both_none (option_map _ (clock_offence T k)) _ r.1 in
        let t = both_none (option_map (variable_place T k) (first_bad (variable_typed m N) (variable_count N))) _ (mapped_none _ (type_offence m T k) r.0) in
        let c = both_none (option_map (variable_place T k) (first_bad (variable_clocked N) (variable_count N))) _ (mapped_none _ (clock_offence T k) q.0) in
        let d = mapped_none _ (definition_offence T k) q.1 in
        let o = cond_none (option_is_some (node_order T k)) _ (mapped_none Circle (order_fault T k) b.0) in
        let s = cond_none (leb (get_or (needs T) k 0) 4096) _ (mapped_none Size (size_fault T k) b.1) in (
          record {
            typed = bad_none (variable_typed m N) (variable_count N) (mapped_none _ _ t.0);
            typed_equations = bad_none (λ e. equation_typed m (take k T) N (equation_at N e)) (equation_count N) (mapped_none _ _ t.1);
            clocked = bad_none (variable_clocked N) (variable_count N) (mapped_none _ _ c.0);
            clocked_equations = bad_none (λ e. equation_clocked N (equation_at N e)) (equation_count N) (mapped_none _ _ c.1);
            defined = bad_none (variable_defined N) (variable_count N) (mapped_none _ _ d);
            ordered = (order_exists (before N) (equation_count N)).exists o;
          },
          leb-true (get_or (needs T) k 0) 4096 s,
        )

    fault_free : KeepsNode m (take k T) (node_at T k) → get_or (needs T) k 0 ≤ 4096 → node_fault m T k ≡ None
    fault_free K s =
        let N = node_at T k in
        let a = none_from (variable_typed m N) (variable_count N) K.typed in
        let b = none_from (λ e. equation_typed m (take k T) N (equation_at N e)) (equation_count N) K.typed_equations in
        let c = none_from (variable_clocked N) (variable_count N) K.clocked in
        let d = none_from (λ e. equation_clocked N (equation_at N e)) (equation_count N) K.clocked_equations in
        let f = none_from (variable_defined N) (variable_count N) K.defined in
        let rules : rule_fault m T k ≡ None = rw (a, b, c, d, f) in
        let o = is_some (node_order T k) ((order_exists (before N) (equation_count N)).found K.ordered.0 K.ordered.1) in
        no_fault m T k o.0 rules o.1 s

pub admission_stands : {V : Type 0} (m : Meaning V) → AdmissionStands m
admission_stands m T L = record {
  admitted = λ R. none_each m T (length T) (λ k h. fault_free m T k (R.nodes k h) (R.need k h));
  only = λ e. record {
    limits = L;
    nodes = λ k h. (keeps_from m T k (each_none m T (length T) k h e)).0;
    need = λ k h. (keeps_from m T k (each_none m T (length T) k h e)).1;
  };
  ordered = λ k h os w. (order_exists (before (node_at T k)) (equation_count (node_at T k))).found os w;
  found = λ k h s. (order_exists (before (node_at T k)) (equation_count (node_at T k))).exists s;
}
