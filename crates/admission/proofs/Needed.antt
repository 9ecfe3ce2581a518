-- The needs of a table's nodes, one behind the other.
use Rattle.std.proofs.Common.{◌≡◌, ℕ, zero, suc, ◌+◌, ◌<◌, List, [], ◌∷◌, ◌++◌, length, get_or, take, sym, ap, ◌∙◌, arith}
use Rattle.std.proofs.lemmas.List.{append-nil, append_assoc, length_push, get_or_at, take_at, get_or-take}
use Rattle.reader.specs.declared.outline.Outline.{Outline}
use Rattle.table.specs.Syntax.{Table, node_at}
use Rattle.table.specs.Spelling.{KeepsLimits}
use Rattle.table.specs.Decoding.{table_of}
use Rattle.table.specs.Access.{Described}
use Rattle.schedule.specs.Need.{node_need, needs_from, needs}
use Rattle.needs.proofs.Sums.{need_same}

grows : (ns : List ℕ) (T : Table) → (rest : List ℕ) × (needs_from ns T ≡ ns ++ rest)
grows ns [] = ([], sym (append-nil ns))
grows ns (N ∷ T) =
    let x = node_need ns N in
    let r = grows (ns ++ x ∷ []) T in
    (x ∷ r.0, r.1 ∙ append_assoc ns (x ∷ []) r.0)

pub need_from : (ns : List ℕ) (T : Table) (i : ℕ) → i < length T
    → get_or (needs_from ns T) (length ns + i) 0 ≡ node_need (take (length ns + i) (needs_from ns T)) (node_at T i)
need_from ns [] i h = absurd (omega arith)
need_from ns (N ∷ T) zero h =
    let x = node_need ns N in
    let r = grows (ns ++ x ∷ []) T in
    let e : needs_from ns (N ∷ T) ≡ ns ++ (x ∷ r.0) = r.1 ∙ append_assoc ns (x ∷ []) r.0 in
    let z : length ns ≡ length ns + 0 = omega arith in
    ap (λ l. get_or l (length ns + 0) 0) e ∙ get_or_at ns x r.0 0 (length ns + 0) z
    ∙ sym (ap (λ l. node_need l N) (ap (take (length ns + 0)) e ∙ take_at ns (x ∷ r.0) (length ns + 0) z))
need_from ns (N ∷ T) (suc i) h =
    let x = node_need ns N in
    let ms = ns ++ x ∷ [] in
    let e : length ns + suc i ≡ length ms + i = omega (arith, length_push ns x) in
    ap (λ j. get_or (needs_from ms T) j 0) e ∙ need_from ms T i (omega arith) ∙ ap (λ j. node_need (take j (needs_from ms T)) (node_at T i)) (sym e)

-- what a node needs, by any list that has the needs of the nodes before it
pub need_of_lem : (T : Table) → KeepsLimits T → (k : ℕ) → k < length T → (ns : List ℕ)
    → ((j : ℕ) → j < k → get_or ns j 0 ≡ get_or (needs T) j 0) → node_need ns (node_at T k) ≡ get_or (needs T) k 0
need_of_lem T L k h ns f =
    let z : 0 + k ≡ k = omega arith in
    let n = ap (λ j. get_or (needs T) j 0) (sym z) ∙ need_from [] T k h ∙ ap (λ j. node_need (take j (needs T)) (node_at T k)) z in
    sym (n ∙ need_same T L k h (take k (needs T)) ns (λ g l. get_or-take k (needs T) g 0 l ∙ sym (f g l)))

pub need_at_lem : (ws : List ℕ) (o : Outline) → Described ws o → (k : ℕ) → k < length (table_of ws) → (ns : List ℕ)
    → ((j : ℕ) → j < k → get_or ns j 0 ≡ get_or (needs (table_of ws)) j 0) → node_need ns (node_at (table_of ws) k) ≡ get_or (needs (table_of ws)) k 0
need_at_lem ws o d = need_of_lem (table_of ws) d.spells.keeps
