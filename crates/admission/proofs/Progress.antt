-- The nodes that are tested so far.
use Rattle.std.proofs.Common.{◌≡◌, ℕ, zero, suc, ◌+◌, ◌<◌, ◌≤◌, ◌≢◌, ◌⊎◌, List, length, get_or, take, set, is_some, Some, None, Ok, Err, Option, Result, sym, refl, ap, ◌∙◌, subst, inl, inr, add-one, arith, below_more, le-leb}
use borrow.Author.Tests.{lt-leb}
use Rattle.std.proofs.lemmas.List.{length-set, get_or-set_same, get_or-set_other}
use Rattle.std.specs.Option.{option_map}
use Rattle.opset.specs.Meaning.{Meaning}
use Rattle.reader.specs.declared.outline.Outline.{Outline}
use Rattle.table.specs.Syntax.{Table, node_at}
use Rattle.table.specs.Decoding.{table_of}
use Rattle.table.specs.Access.{Described}
use Rattle.rules.specs.First.{or_else}
use Rattle.schedule.specs.declared.order.Order.{Order}
use Rattle.schedule.specs.Placed.{sequence}
use Rattle.schedule.specs.Need.{node_need, needs}
use Rattle.reader.specs.Whole.{Read, scan_of}
use Rattle.table.specs.Spelling.{node_place}
use Rattle.admission.specs.declared.faults.RuleFault.{RuleFault}
use Rattle.admission.specs.declared.faults.OrderFault.{OrderFault}
use Rattle.admission.specs.declared.faults.OrderFault.TheVariants.{NoOrder}
use Rattle.admission.specs.declared.faults.SizeFault.{SizeFault}
use Rattle.admission.specs.declared.faults.SizeFault.TheVariants.{Need}
use Rattle.admission.specs.declared.found.Plan.{Plan}
use Rattle.admission.specs.declared.faults.Fault.{Fault}
use Rattle.admission.specs.declared.faults.Fault.TheVariants.{Rules, Order as Circle, Size}
use Rattle.admission.specs.Verdict.{site, rule_fault, node_order, order_fault, size_fault, node_fault, first_fault}
use Rattle.admission.specs.Admission.{no_places, JudgedTable, JudgedBy, Judged}
use Rattle.admission.specs.Answers.{kept_or}
use Rattle.admission.proofs.Needed.{need_at_lem}

pub record Progress {V : Type 0} (m : Meaning V) (T : Table) (k : ℕ) (orders : List Order) (found : List ℕ) : Type 0 where
  pub clear : first_fault m T k ≡ None
  pub ordered : (j : ℕ) → j < k → node_order T j ≡ Some (sequence (get_or orders j no_places))
  pub needed : (j : ℕ) → j < k → get_or found j 0 ≡ get_or (needs T) j 0
  pub orders_size : length orders ≡ 32
  pub needs_size : length found ≡ 32

split : (i n : ℕ) → i < suc n → (i < n) ⊎ (i ≡ n)
split i n h = search arith

-- the first fault is that of the first node that has one
pub fault_at : {V : Type 0} (m : Meaning V) (T : Table) (k n : ℕ) (f : Fault) → k < n → first_fault m T k ≡ None → node_fault m T k ≡ Some f → first_fault m T n ≡ Some f
fault_at m T k zero f h a b = absurd (omega arith)
fault_at m T k (suc n) f h a b =
    elim (split k n h) [ inl l ↦ ap (λ o. or_else o (node_fault m T n)) (fault_at m T k n f l a b) | inr e ↦ fault_here e ]
  where
    fault_here : k ≡ n → or_else (first_fault m T n) (node_fault m T n) ≡ Some f
    fault_here e = let F : ℕ → Type 0 = λ j. or_else (first_fault m T j) (node_fault m T j) ≡ Some f in subst F e (ap (λ o. or_else o (node_fault m T k)) a ∙ b)

-- what a node's fault is, by its parts
pub rules_fault : {V : Type 0} (m : Meaning V) (T : Table) (k : ℕ) (f : RuleFault) → rule_fault m T k ≡ Some f → node_fault m T k ≡ Some (Rules f)
rules_fault m T k f e = ap (λ o. or_else (option_map Rules o) (or_else (option_map Circle (order_fault T k)) (option_map Size (size_fault T k)))) e

pub no_fault : {V : Type 0} (m : Meaning V) (T : Table) (k : ℕ) (o : List ℕ) → rule_fault m T k ≡ None → node_order T k ≡ Some o → get_or (needs T) k 0 ≤ 4096 → node_fault m T k ≡ None
no_fault m T k o a b c = let s = ap is_some b in let l = le-leb (get_or (needs T) k 0) 4096 c in rw (a, s, l)

pub progress_more : {V : Type 0} (m : Meaning V) (ws : List ℕ) (q : Outline) → Described ws q → (k : ℕ) → k < length (table_of ws) → k < 32 → (orders : List Order) (found : List ℕ)
    → Progress m (table_of ws) k orders found → (o : Order) (n : ℕ) → rule_fault m (table_of ws) k ≡ None → node_order (table_of ws) k ≡ Some (sequence o)
    → n ≡ node_need found (node_at (table_of ws) k) → n ≤ 4096 → Progress m (table_of ws) (k + 1) (set orders k o) (set found k n)
progress_more m ws q d k h few orders found p o n a b e c =
    let T = table_of ws in
    let is-need : n ≡ get_or (needs T) k 0 = e ∙ need_at_lem ws q d k h found p.needed in
    let none = no_fault m T k (sequence o) a b (omega (arith, is-need)) in
    record {
      clear = ap (first_fault m T) (add-one k) ∙ ap (λ x. or_else x (node_fault m T k)) p.clear ∙ none;
      ordered = below_more (λ j. node_order T j ≡ Some (sequence (get_or (set orders k o) j no_places))) k
          (λ j l. let ne : j ≢ k = λ z. omega arith in p.ordered j l ∙ ap (λ x. Some (sequence x)) (sym (get_or-set_other orders k j o no_places ne)))
          (b ∙ ap (λ x. Some (sequence x)) (sym (get_or-set_same orders k o no_places (omega (arith, p.orders_size)))));
      needed = below_more (λ j. get_or (set found k n) j 0 ≡ get_or (needs T) j 0) k
          (λ j l. let ne : j ≢ k = λ z. omega arith in get_or-set_other found k j n 0 ne ∙ p.needed j l)
          (get_or-set_same found k n 0 (omega (arith, p.needs_size)) ∙ is-need);
      orders_size = length-set orders k o ∙ p.orders_size;
      needs_size = length-set found k n ∙ p.needs_size;
    }

pub order_fault_lem : {V : Type 0} (m : Meaning V) (T : Table) (k : ℕ) (f : OrderFault) → rule_fault m T k ≡ None → node_order T k ≡ None → f ≡ NoOrder (site k (node_place (take k T)))
    → node_fault m T k ≡ Some (Circle f)
order_fault_lem m T k f a b e = let s = ap is_some b in rw (a, s, e)

pub size_fault_lem : {V : Type 0} (m : Meaning V) (T : Table) (k : ℕ) (o : List ℕ) (f : SizeFault) → rule_fault m T k ≡ None → node_order T k ≡ Some o → 4096 < get_or (needs T) k 0
    → f ≡ Need (site k (node_place (take k T))) → node_fault m T k ≡ Some (Size f)
size_fault_lem m T k o f a b c e = let s = ap is_some b in let l = lt-leb (get_or (needs T) k 0) 4096 c in rw (a, s, l, e)

-- the answer of a test
pub kept_fault : {F : Type 0} (o : Option F) (f : F) → ◌≡◌ {A = Result Unit F} (Err f) (kept_or o) → o ≡ Some f
kept_fault None f e = absurd (let z : ◌≡◌ {A = ℕ} 0 1 = cc in omega arith)
kept_fault (Some x) f e = cc

pub kept_clear : {F : Type 0} (o : Option F) → ◌≡◌ {A = Result Unit F} (Ok tt) (kept_or o) → o ≡ None
kept_clear None e = refl
kept_clear (Some x) e = absurd (let z : ◌≡◌ {A = ℕ} 0 1 = cc in omega arith)

-- a node's fault is the answer
pub judged_fault : {V : Type 0} (m : Meaning V) (own : ℕ) (ws : List ℕ) (o : Outline) (k : ℕ) (f : Fault) (r : Result Plan Fault) → Ok o ≡ scan_of own ws → k < length (table_of ws)
    → first_fault m (table_of ws) k ≡ None → node_fault m (table_of ws) k ≡ Some f → r ≡ Err f → Judged m own ws r
judged_fault m own ws o k f r e h a b q =
    let T = table_of ws in
    let first = fault_at m T k (length T) f h a b in
    let F : Read → Type 0 = λ x. JudgedBy m ws x r in
    let G : Option Fault → Type 0 = λ x. JudgedTable m T x r in
    let H : Result Plan Fault → Type 0 = λ x. JudgedTable m T (Some f) x in
    subst F e (subst G (sym first) (subst H (sym q) refl))
