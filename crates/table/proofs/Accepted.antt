-- The reader accepts the words of every table that keeps the limits.
use Rattle.std.proofs.Common.{◌≡◌, ℕ, zero, suc, ◌+◌, ◌-◌, ◌<◌, ◌≤◌, true, List, [], ◌∷◌, ◌++◌, map, length, get_or, take, set, replicate, is_ok, refl, inl, inr, arith}
use Rattle.std.proofs.lemmas.List.{length-set, get_or-set_same, get_or-set_other, get_or_append_left, length_push, get_or_push, append_assoc, append-nil}
use Rattle.std.proofs.lemmas.Bool.{eq-eqb, le-leb, lt-ltb, cases_lt}
use Rattle.words.specs.declared.kinds.Word.{Word}
use Rattle.words.specs.declared.kinds.Word.TheVariants.{Head, Node as Open, Variable as Declare, End}
use Rattle.words.specs.Bits.{field, kind_of}
use Rattle.words.specs.Format.{encoded, WordFits}
use Rattle.reader.specs.declared.outline.Outline.{Outline}
use Rattle.reader.specs.declared.scan.Expect.TheVariants as due
use Rattle.reader.specs.Scanning.{start, opened, counts_fit}
use Rattle.reader.specs.Whole.{scan_of}
use Rattle.reader.proofs.Turns.{of_length}
use Rattle.table.specs.Syntax.{Node, Table, node_at, none, variable_count}
use Rattle.table.specs.Spelling.{equations_words, ports_of, node_words, nodes_words, spelled, NodeKeeps, KeepsLimits}
use Rattle.table.proofs.AcceptedParts.{state, Good, spare, variables_read}
use Rattle.table.proofs.AcceptedEquations.{Counted, Known, Room, equations_read_lem}

-- The counts of a node, which are noted as the node is opened.
ports_fill : (N : Node) → N.inputs + N.outputs ≤ variable_count N → (ports_of N).inputs + (ports_of N).outputs + (ports_of N).locals ≡ variable_count N
ports_fill N h = omega arith

counts_fit_lem : (T : Table) (o : Outline) (N : Node) (v : ℕ) → Known T o → length T < 32 → NodeKeeps T N
    → counts_fit (state due.Node v o) (ports_of N) ≡ true
counts_fit_lem T o N v k m h =
    let a = lt-ltb 0 N.inputs h.inputs.0 in
    let b = le-leb N.inputs 16 h.inputs.1 in
    let c = lt-ltb 0 N.outputs h.outputs.0 in
    let d = le-leb N.outputs 16 h.outputs.1 in
    let e = le-leb (variable_count N) 64 h.count.1 in
    rw (a, b, c, d, ports_fill N h.count.0, e, k.nodes) (lt-ltb (length T) 32 m)

-- what holds of each node of a table, and of one more
at_push : (P : ℕ → Node → Type 0) (T : Table) (N : Node) → ((g : ℕ) → g < length T → P g (node_at T g)) → P (length T) N
    → (g : ℕ) → g < length (T ++ N ∷ []) → P g (node_at (T ++ N ∷ []) g)
at_push P T N before here g b =
    let p = length_push T N in
    elim (cases_lt g (length T)) [
      | inl c ↦ rw (get_or_append_left T (N ∷ []) none g c) (before g c)
      | inr c ↦ let q : g ≡ length T = omega arith in rw (q, get_or_push T N none (length T) refl) here
    ]

-- behind the counts of a node at a place
abbrev opening : Outline → ℕ → Node → Outline
opening o at N = (opened (state due.Node 0 o) at (ports_of N)).outline

opening_room : (T : Table) (o : Outline) (at : ℕ) (N : Node) → Known T o → length T < 32 → NodeKeeps T N
    → Room (T ++ N ∷ []) (length N.equations) (opening o at N)
opening_room T o at N k m h =
    let n = o.nodes in
    let is = o.inputs in
    let os = o.outputs in
    let p = length_push T N in
    let e = k.nodes in
    record {
      known = record {
        nodes = omega arith;
        counts = at_push (λ g M. Counted M (get_or (set is n N.inputs) g 0) (get_or (set os n N.outputs) g 0)) T N
            (λ g b.
            let q : g ≡ n → ⊥ = λ x. omega arith in
            rw (get_or-set_other is n g N.inputs 0 q, get_or-set_other os n g N.outputs 0 q) (k.counts g b))
            (rw (← e, get_or-set_same is n N.inputs 0 (omega (arith, k.sizes.0)), get_or-set_same os n N.outputs 0 (omega (arith, k.sizes.1)))
            (record { inputs = refl; outputs = refl; some = (h.inputs.0, h.outputs.0) }));
        fresh = λ j b. k.fresh j (omega arith);
        sizes = (simp length-set k.sizes.0, simp length-set k.sizes.1, k.sizes.2);
      };
      left =
          let i : n + 1 - 1 ≡ n = omega arith in
          rw (i, k.fresh n (omega arith)) (omega (arith, h.equation_count));
    }

-- Nodes, one behind another.
open_read : (own : ℕ) (T : Table) (v : ℕ) (o : Outline) (N : Node) (ws : List Word) → Known T o → length T < 32 → NodeKeeps T N
    → ((q : Outline) → Room (T ++ N ∷ []) (length N.equations) q → Good own (due.Variables (variable_count N)) (variable_count N) q ws)
    → Good own due.Node v o (Open (ports_of N) ∷ ws)
open_read own T v o N ws k m h go at =
    let p = ports_of N in
    let w : ℕ = encoded (Open p) in
    let a = h.inputs.1 in
    let b = h.outputs.1 in
    let c = h.count.1 in
    let f : WordFits (Open p) = (omega arith, omega arith, omega arith) in
    let z = spare (Open p) f in
    let d : kind_of w ≡ 1 = omega arith in
    let i : field w 16 8 ≡ p.inputs = omega arith in
    let j : field w 8 8 ≡ p.outputs = omega arith in
    let y : field w 0 8 ≡ p.locals = omega arith in
    rw (z, d, i, j, y, counts_fit_lem T o N v k m h, ports_fill N h.count.0) (go (opening o at N) (opening_room T o at N k m h) (at + 1))

end_read : (own v : ℕ) (o : Outline) (ws : List Word) → Good own due.Node v o ws → Good own due.Equation v o (End ∷ ws)
end_read own v o ws go at = go (at + 1)

node_read : (own : ℕ) (T : Table) (v : ℕ) (o : Outline) (N : Node) (ws : List Word) → Known T o → length T < 32 → NodeKeeps T N
    → ((u : ℕ) (q : Outline) → Known (T ++ N ∷ []) q → Good own due.Node u q ws) → Good own due.Node v o (node_words N ++ ws)
node_read own T v o N ws k m h go =
    let u = variable_count N in
    let l : u ≤ 64 = h.count.1 in
    let c : 0 < u = omega (arith, h.inputs.0, h.count.0) in
    let a = append_assoc (map Declare N.variables) (equations_words N.equations ++ (End ∷ [])) ws in
    let b = append_assoc (equations_words N.equations) (End ∷ []) ws in
    rw (a, b) (open_read own T v o N (map Declare N.variables ++ (equations_words N.equations ++ (End ∷ ws))) k m h
    (λ q r. variables_read own u q N.variables (equations_words N.equations ++ (End ∷ ws)) l c h.variables
    (equations_read_lem own T N m u l q N.equations (End ∷ ws) r h.equations
    (λ p s. end_read own u p ws (go u p s.known)))))

-- the rest of a table, to its end
nodes_read : (own : ℕ) (earlier : Table) (v : ℕ) (o : Outline) (rest : Table) → Known earlier o
    → 0 < length earlier + length rest → length earlier + length rest ≤ 32
    → ((k : ℕ) → k < length rest → NodeKeeps (earlier ++ take k rest) (node_at rest k)) → Good own due.Node v o (nodes_words rest)
nodes_read own earlier v o [] k l m h = let e = k.nodes in λ at. rw (lt-ltb 0 o.nodes (omega arith))
nodes_read own earlier v o (N ∷ rest) k l m h =
    let p = length_push earlier N in
    node_read own earlier v o N (nodes_words rest) k (omega arith) (rw append-nil at (h 0 (omega arith)))
    (λ u q j. nodes_read own (earlier ++ N ∷ []) u q rest j (omega arith) (omega arith)
    (λ i b. rw (append_assoc earlier (N ∷ []) (take i rest)) (h (suc i) (omega arith))))

-- The start, where no node has equations; the head, and the whole table.
zeros : (n k : ℕ) → ◌≡◌ {A = ℕ} (get_or (replicate n 0) k 0) 0
zeros zero k = refl
zeros (suc n) zero = refl
zeros (suc n) (suc k) = zeros n k

start_known : Known [] start.outline
start_known = record { nodes = refl; counts = λ g l. absurd (omega arith); fresh = λ k l. zeros 32 k; sizes = (refl, refl, refl) }

words_read : (own : ℕ) (T : Table) → own < 256 → KeepsLimits T → Good own due.Head 0 start.outline (Head own ∷ nodes_words T)
words_read own T b k at =
    let w : ℕ = encoded (Head own) in
    let z = spare (Head own) b in
    let d : kind_of w ≡ 0 = omega arith in
    let f : field w 0 8 ≡ own = omega arith in
    rw (z, d, f, eq-eqb own own refl)
    (nodes_read own [] 0 start.outline T start_known (omega (arith, k.count.0)) (omega (arith, k.count.1)) k.nodes (at + 1))

pub accepted : (own : ℕ) (T : Table) → own < 256 → KeepsLimits T → length (spelled own T) ≤ 16384 → is_ok (scan_of own (spelled own T)) ≡ true
accepted own T b k l = rw (← of_length own (spelled own T) (omega arith) l) (words_read own T b k 0)
