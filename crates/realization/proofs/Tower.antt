-- Node after node, the blocks of a table realize its machines.
use Rattle.std.proofs.Common.{◌≡◌, ℕ, zero, suc, ◌<◌, Bool, true, false, List, length, get_or, take, is_some, Some, None, Option, sym, refl, ap, ◌∙◌, subst, inl, inr, arith}
use Rattle.std.specs.List.{slice_get}
use Rattle.std.proofs.lemmas.Bool.{cases_eq, eq-eqb, ne_eqb, both_ways}
use Rattle.opset.specs.Meaning.{Meaning, Laws}
use Rattle.table.specs.Syntax.{Table, node_at, equation_count}
use Rattle.schedule.specs.Need.{needs}
use Rattle.schedule.specs.Reads.{before}
use Rattle.schedule.specs.Order.{Order, Scheduled}
use Rattle.schedule.proofs.Meant.{order_stands}
use Rattle.schedule.proofs.Unique.{order_exists}
use Rattle.admission.specs.Keeps.{KeepsRules}
use Rattle.admission.specs.Verdict.{node_order}
use Rattle.admission.proofs.Needed.{need_of_lem}
use Rattle.streams.specs.Streams.{Env}
use Rattle.streams.specs.Machine.{Tree, Machine, machine_below, machine}
use Rattle.streams.specs.Instant.{Filled, FilledBelow}
use Rattle.streams.proofs.Places.{strongly}
use Rattle.streams.proofs.Steps.{idles_below, earlier_count, earlier_same, steps}
use Rattle.code.specs.Code.{ordered}
use Rattle.execution.specs.Statements.{reset_of, step_of, table_blocks}
use Rattle.realization.specs.Holds.{HoldsBelow, Holds}
use Rattle.realization.specs.Realizes.{Realizes, BlocksRealizeMachines}
use Rattle.realization.proofs.Callee.{Callee, Started, Advanced}
use Rattle.realization.proofs.Offsets.{offset_end}
use Rattle.realization.proofs.Plan.{Plan, size, node_local}
use Rattle.realization.proofs.Midway.{node_step}
use Rattle.realization.proofs.Resets.{node_reset}
use Rattle.realization.proofs.Rules.{planned}

is_ordered : (before : ℕ → ℕ → Bool) (n : ℕ) (o : Option (List ℕ)) → is_some o ≡ true → Scheduled before n o → Order before n (ordered o)
is_ordered before n None h s = absurd (both_ways false refl h)
is_ordered before n (Some os) h s = s.0

module _ {V : Type 0} (m : Meaning V) (T : Table) where
  -- the blocks and the memories of the nodes that node k calls are theirs
  resets_below : (k g : ℕ) → g < k → (cells : List V) → (table_blocks m T k).resets g cells ≡ reset_of m (table_blocks m T g) T g cells
  resets_below zero g l = absurd (omega arith)
  resets_below (suc k) g l =
      elim (cases_eq g k) [
        | inl e ↦ rw (eq-eqb g k e, e) (λ cells. refl)
        | inr n ↦ rw (ne_eqb g k n) (resets_below k g (omega arith))
      ]

  steps_below : (k g : ℕ) → g < k → (cells : List V) → (table_blocks m T k).steps g cells ≡ step_of m (table_blocks m T g) T g cells
  steps_below zero g l = absurd (omega arith)
  steps_below (suc k) g l =
      elim (cases_eq g k) [
        | inl e ↦ rw (eq-eqb g k e, e) (λ cells. refl)
        | inr n ↦ rw (ne_eqb g k n) (steps_below k g (omega arith))
      ]

  holds_out : (k g : ℕ) → g < k → (w : Env V) (M : Tree V) → HoldsBelow T k g w M → Holds T g w M
  holds_out zero g l = absurd (omega arith)
  holds_out (suc k) g l =
      elim (cases_eq g k) [
        | inl e ↦ rw (eq-eqb g k e, e) (λ w M h. h)
        | inr n ↦ rw (ne_eqb g k n) (holds_out k g (omega arith))
      ]

  holds_in : (k g : ℕ) → g < k → (w : Env V) (M : Tree V) → Holds T g w M → HoldsBelow T k g w M
  holds_in zero g l = absurd (omega arith)
  holds_in (suc k) g l =
      elim (cases_eq g k) [
        | inl e ↦ rw (eq-eqb g k e, e) (λ w M h. h)
        | inr n ↦ rw (ne_eqb g k n) (holds_in k g (omega arith))
      ]

  module _ (laws : Laws m) (K : KeepsRules m T) where
    module _ (k : ℕ) (lk : k < length T) where
      abbrev Known : ℕ → Type 0
      Known g = Callee T (table_blocks m T k) (machine_below m T k) (HoldsBelow T k) (FilledBelow T k) g

      known : (g : ℕ) → g < k → Realizes m T g → Known g
      known g l real =
          let s = steps m T K k lk in
          let c : machine_below m T k g ≡ machine m T g = s.called g l in
          record {
            room = let r = (K.limits.nodes g (omega arith)).count in omega (arith, need_of_lem T K.limits g (omega arith) (needs T) (λ j h. refl));
            filled = s.filled_instance g l _ (subst (λ (d : Machine V). Filled T g d.start) (sym c) (steps m T K g (omega arith)).starts);
            idles = idles_below m T k g;
            local = λ w w' M h same. holds_in k g l w' M (real.local w w' M (holds_out k g l w M h) same);
            reset = λ cells fit.
                let r = real.reset cells fit in
                subst (λ after. Started T (table_blocks m T k) (machine_below m T k) (HoldsBelow T k) (FilledBelow T k) g cells after) (sym (resets_below k g l cells))
                (record {
                  long = r.long;
                  past = r.past;
                  start = holds_in k g l _ _ (subst (λ (d : Machine V). Holds T g (slice_get (reset_of m (table_blocks m T g) T g cells)) d.start) (sym c) r.holds);
                });
            step = λ cells M vs fit full held long entered.
                let r = real.step cells M vs fit (s.instance_filled g l M full) (holds_out k g l (slice_get cells) M held) long entered in
                subst (λ after. Advanced T (table_blocks m T k) (machine_below m T k) (HoldsBelow T k) (FilledBelow T k) g M vs cells after) (sym (steps_below k g l cells))
                (record {
                  long = r.long;
                  past = r.past;
                  shows = λ y h. r.shows y h ∙ ap (λ (d : Machine V). d.shows M (Some vs) y) (sym c);
                  next = holds_in k g l _ _ (subst (λ (d : Machine V). Holds T g (slice_get (step_of m (table_blocks m T g) T g cells)) (d.next M (Some vs))) (sym c) r.holds);
                });
          }

      module _ (reals : (g : ℕ) → g < k → Realizes m T g) where
        plan : Plan m T (table_blocks m T k) (machine_below m T k) (HoldsBelow T k) (FilledBelow T k) (node_at T k)
        plan = planned m (take k T) (node_at T k) (K.limits.nodes k lk) (K.nodes k lk) T (λ g. earlier_same m T k g (omega arith))
            (table_blocks m T k) (machine_below m T k) (HoldsBelow T k) (FilledBelow T k)
            (λ g h. let l : g < k = omega (arith, earlier_count m T k (omega arith)) in known g l (reals g l))

        whole : size m T (table_blocks m T k) (machine_below m T k) (HoldsBelow T k) (FilledBelow T k) (node_at T k) ≡ get_or (needs T) k 0
        whole = offset_end (needs T) (node_at T k) ∙ need_of_lem T K.limits k lk (needs T) (λ j h. refl)

        order : Order (before (node_at T k)) (equation_count (node_at T k)) (ordered (node_order T k))
        order =
            let o = (K.nodes k lk).ordered in
            is_ordered (before (node_at T k)) (equation_count (node_at T k)) (node_order T k)
            ((order_exists (before (node_at T k)) (equation_count (node_at T k))).found o.0 o.1) (order_stands (before (node_at T k)) (equation_count (node_at T k)))

        node_realizes : Realizes m T k
        node_realizes =
            let B = table_blocks m T k in
            let C = machine_below m T k in
            let N = node_at T k in
            record {
              local = λ w w' M h same. node_local m T B C (HoldsBelow T k) (FilledBelow T k) N plan w w' M h (λ a i l. same a i (omega (arith, whole)));
              reset = λ cells fit.
                  let r = node_reset m laws T B C (HoldsBelow T k) (FilledBelow T k) N plan cells (omega (arith, whole)) in
                  record { long = r.long; past = λ a h. r.spares a (inr (omega (arith, whole))); ports = λ a h. r.spares a (inl h); holds = r.start };
              step = λ cells M vs fit full held long entered.
                  let s = node_step m laws T B C (HoldsBelow T k) (FilledBelow T k) N plan M vs ((machine m T k).shows M (Some vs)) ((machine m T k).next M (Some vs))
                  ((steps m T K k lk).instant M (Some vs) full long) full cells (omega (arith, whole)) entered (ordered (node_order T k)) order held in
                  record {
                    long = s.long;
                    past = λ a h. s.outside a (inr (omega (arith, whole)));
                    inputs = λ x h. s.outside x (inl h);
                    shows = s.shows;
                    holds = s.holds;
                  };
            }

    pub realizes : (k : ℕ) → k < length T → Realizes m T k
    realizes = strongly (λ k. k < length T → Realizes m T k) (λ k below l. node_realizes k l (λ g h. below g h (omega arith)))

pub blocks_realize : {V : Type 0} (m : Meaning V) → Laws m → BlocksRealizeMachines m
blocks_realize m laws T K = realizes m T laws K
