-- The pieces of the front are the front.
use Rattle.std.proofs.Common.{◌≡◌, ℕ, zero, suc, ◌+◌, ◌-◌, ◌*◌, ◌<◌, ◌≤◌, List, [], ◌∷◌, ◌++◌, length, sym, refl, ap, ◌∙◌, add-one, arith, le-ltb, lt-ltb}
use Rattle.std.proofs.ByRecursion.{All-get_or}
use Rattle.std.proofs.lemmas.List.{length-append, length_push}
use Rattle.words.specs.declared.kinds.Clock.TheVariants.{Base}
use Rattle.words.specs.declared.kinds.Operand.TheVariants.{Literal as Constant}
use Rattle.instructions.specs.declared.code_word.CodeWord.TheVariants.{Head, Operand as With}
use Rattle.reader.specs.declared.outline.Outline.{Outline}
use Rattle.table.specs.Syntax.{Node, Table, node_at, variable_count}
use Rattle.table.specs.Spelling.{VariableKeeps}
use Rattle.table.specs.Decoding.{table_of}
use Rattle.table.specs.Access.{Described}
use Rattle.rules.specs.Types.{type_of}
use Rattle.code.specs.Code.{first_values, front, front_length, index, main_of}
use Rattle.blocks.specs.Numbered.{and_then, only, up_to}
use Rattle.blocks.proofs.Runs.{run_one, run_then}
use Rattle.front.specs.Fronted.{front_piece, index_piece, ports_piece}

module _ (T : Table) where
  index_pieces : (n : ℕ) → up_to (index_piece T) n ≡ index T n
  unfolding up_to
  index_pieces zero = refl
  index_pieces (suc n) = ap (λ l. l ++ index_piece T n) (index_pieces n)

  index_length : (n : ℕ) → length (index T n) ≡ 3 * n
  index_length zero = refl
  index_length (suc n) = omega (arith, length-append (index T n) (index_piece T n), index_length n)

  module _ (own : ℕ) where
    pub front_pieces : up_to (front_piece own T) (1 + (length T + 1)) ≡ front own T
    unfolding front_piece
    front_pieces =
        let head = only (Head (length T) own ∷ []) in
        let ports = only (ports_piece T) in
        run_then head (and_then (length T) (index_piece T) ports) 1 (length T + 1)
        ∙ ap (λ l. l ++ up_to (and_then (length T) (index_piece T) ports) (length T + 1)) (run_one (Head (length T) own ∷ []))
        ∙ ap (λ l. Head (length T) own ∷ l)
        (run_then (index_piece T) ports (length T) 1 ∙ ap (λ l. up_to (index_piece T) (length T) ++ l) (run_one (ports_piece T))
        ∙ ap (λ l. l ++ ports_piece T) (index_pieces (length T)))

    -- by their numbers
    pub head_at : (j : ℕ) → j < 1 → front_piece own T j ≡ Head (length T) own ∷ []
    unfolding front_piece
    head_at j h = let t = lt-ltb j 1 h in rw t

    pub index_at : (j : ℕ) → 1 ≤ j → j - 1 < length T → front_piece own T j ≡ index_piece T (j - 1)
    unfolding front_piece
    index_at j h l = let t = le-ltb j 1 h in let u = lt-ltb (j - 1) (length T) l in rw (t, u)

    pub ports_at : (j : ℕ) → 1 ≤ j → length T ≤ j - 1 → front_piece own T j ≡ ports_piece T
    unfolding front_piece
    ports_at j h l = let t = le-ltb j 1 h in let u = le-ltb (j - 1) (length T) l in rw (t, u)

pub values_length : (N : Node) (n : ℕ) → length (first_values N n) ≡ n
values_length N zero = refl
values_length N (suc n) =
    omega (arith, length_push (first_values N n) (With (Constant (record { ty = type_of N n; payload = 0 }))), values_length N n)

pub values_more : (N : Node) (x ty : ℕ) → ty ≡ type_of N x → first_values N x ++ With (Constant (record { ty = ty; payload = 0 })) ∷ [] ≡ first_values N (x + 1)
values_more N x ty e = ap (λ t. first_values N x ++ With (Constant (record { ty = t; payload = 0 })) ∷ []) e ∙ sym (ap (first_values N) (add-one x))

pub front_length_lem : (own : ℕ) (T : Table) → length (front own T) ≡ front_length T
front_length_lem own T =
    let M = main_of T in
    omega (arith, length-append (index T (length T)) (ports_piece T), index_length T (length T), values_length M M.inputs)

module _ (ws : List ℕ) (o : Outline) (d : Described ws o) where
  pub main_there : length (table_of ws) - 1 < length (table_of ws)
  main_there = omega (arith, d.spells.keeps.count.0)

  pub main_is : node_at (table_of ws) (o.nodes - 1) ≡ main_of (table_of ws)
  main_is = ap (λ n. node_at (table_of ws) (n - 1)) d.spells.outlines.nodes

  pub main_few : ((main_of (table_of ws)).inputs ≤ 16) × ((main_of (table_of ws)).outputs ≤ 16)
  main_few = let K = d.spells.keeps.nodes (length (table_of ws) - 1) main_there in (K.inputs.1, K.outputs.1)

  pub type_fits : (x : ℕ) → x < (main_of (table_of ws)).inputs → type_of (main_of (table_of ws)) x < 16
  type_fits x l =
      let M = main_of (table_of ws) in
      let K = d.spells.keeps.nodes (length (table_of ws) - 1) main_there in
      (All-get_or (VariableKeeps (variable_count M)) M.variables x (record { ty = 0; clock = Base }) (omega (arith, l, K.count.0)) K.variables).ty
