-- How far the places of a table reach, and how many inputs a node has.
use Rattle.std.proofs.Common.{ℕ, ◌<◌, ◌≤◌, List, length, ap, arith}
use Rattle.std.proofs.lemmas.List.{length-map}
use Rattle.words.specs.declared.kinds.Word.TheVariants.{Variable as Declare}
use Rattle.reader.specs.declared.outline.Outline.{Outline}
use Rattle.table.specs.Access.{Described}
use Rattle.table.specs.Decoding.{table_of}
use Rattle.table.specs.Syntax.{node_at, variable_count}
use Rattle.table.proofs.Places.{parted_within, variables_parted}
use Rattle.rules.specs.Offences.{variable_place}

module _ (ws : List ℕ) (o : Outline) (d : Described ws o) (k : ℕ) (h : k < length (table_of ws)) where
  pub variable_within : (x : ℕ) → x < variable_count (node_at (table_of ws) k) → variable_place (table_of ws) k x < 16384
  variable_within x l =
      let p = parted_within _ _ _ (variables_parted d.own (table_of ws) k h) in
      let n = length-map (node_at (table_of ws) k).variables Declare in
      omega (arith, p, n, ap length d.spells.words, d.spells.short)

  pub few_inputs : (node_at (table_of ws) k).inputs ≤ 16
  few_inputs = (d.spells.keeps.nodes k h).inputs.1
