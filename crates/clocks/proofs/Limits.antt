-- What a table that is read keeps below its limits.
use Rattle.std.proofs.Common.{ℕ, ◌+◌, ◌<◌, ◌≤◌, ◌⊎◌, List, ◌∷◌, map, length, take, ap, inl, inr, arith}
use Rattle.std.proofs.lemmas.List.{get_or_past, length-map}
use Rattle.words.specs.declared.kinds.Word.TheVariants.{Head, Variable as Declare}
use Rattle.reader.specs.declared.outline.Outline.{Outline}
use Rattle.table.specs.Syntax.{node_at, none, variable_count}
use Rattle.table.specs.Spelling.{nodes_words, node_place}
use Rattle.table.specs.Decoding.{table_of}
use Rattle.table.specs.Access.{Described}
use Rattle.table.proofs.Places.{parted_within, variables_parted}

sides : (k n : ℕ) → (k < n) ⊎ (n ≤ k)
sides k n = search arith

module _ (ws : List ℕ) (o : Outline) (d : Described ws o) (k : ℕ) where
  -- past the last node there are no inputs and no outputs
  pub few_ports : ((node_at (table_of ws) k).inputs ≤ 16) × ((node_at (table_of ws) k).outputs ≤ 16)
  few_ports =
      elim (sides k (length (table_of ws))) [
        | inl h ↦ let K = d.spells.keeps.nodes k h in (K.inputs.1, K.outputs.1)
        | inr h ↦
            let e = get_or_past (table_of ws) k none h in
            let a = ap (λ N. N.inputs) e in
            let b = ap (λ N. N.outputs) e in
            (omega (arith, a), omega (arith, b))
      ]

  module _ (h : k < length (table_of ws)) where
    pub variable_within : (x : ℕ) → x < variable_count (node_at (table_of ws) k) → node_place (take k (table_of ws)) + 1 + x < 16384
    variable_within x l =
        let T = table_of ws in
        let vs = (node_at T k).variables in
        let p = parted_within (Head d.own ∷ nodes_words T) (map Declare vs) (node_place (take k T) + 1) (variables_parted d.own T k h) in
        omega (arith, p, length-map vs Declare, ap length d.spells.words, d.spells.short, l)
