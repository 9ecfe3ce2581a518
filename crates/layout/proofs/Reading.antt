-- Words that begin with the code of a table say that code.
use Rattle.std.proofs.Common.{◌≡◌, ℕ, zero, suc, ◌-◌, ◌<◌, ◌≤◌, List, [], ◌∷◌, ◌++◌, map, length, get_or, take, drop, sym, refl, ap, ◌∙◌, arith}
use Rattle.std.specs.List.{AllByRecursion}
use Rattle.std.proofs.lemmas.List.{map-append, length-map, take-append-drop, get_or-take, get_or-map}
use Rattle.std.proofs.ByRecursion.{All-append, All-push, All-get_or}
use Rattle.words.specs.declared.kinds.Clock.TheVariants.{Base}
use Rattle.words.specs.declared.kinds.Variable.{Variable}
use Rattle.instructions.specs.declared.code_word.CodeWord.{CodeWord}
use Rattle.instructions.specs.declared.code_word.CodeWord.TheVariants.{End, Ports}
use Rattle.instructions.specs.Format.{code_word, says, CodeWordFits}
use Rattle.instructions.proofs.Format.{code_words_stand}
use Rattle.table.specs.Syntax.{Node, Table, variable_count}
use Rattle.table.specs.Spelling.{VariableKeeps}
use Rattle.code.specs.Code.{reset_block, step_block, blocks, main_of, index, first_values, front, code_of, code_words}
use Rattle.execution.specs.Words.{word_at, program}
use Rattle.layout.specs.Layout.{Begins}
use Rattle.layout.proofs.Fitting.{block_fits}
use Rattle.layout.proofs.Needed.{need_of}
use Rattle.layout.proofs.Keeping.{step_block_keeps, reset_block_keeps}
use Rattle.layout.proofs.Places.{node_index, first_value, spans}

read_back : (l : List CodeWord) → AllByRecursion CodeWordFits l → map says (map code_word l) ≡ l
read_back [] h = refl
read_back (x ∷ l) h = ap (λ y. y ∷ map says (map code_word l)) (code_words_stand.reads x h.0) ∙ ap (λ m. x ∷ m) (read_back l h.1)

-- the type of a node's first variables fits its field
values_fit : (N : Node) (n : ℕ) → n ≤ variable_count N → AllByRecursion (VariableKeeps (variable_count N)) N.variables → AllByRecursion CodeWordFits (first_values N n)
values_fit N zero l h = tt
values_fit N (suc n) l h =
    let past : Variable = record { ty = 0; clock = Base } in
    All-push CodeWordFits (first_values N n) (first_value N n) (values_fit N n (omega arith) h)
    ((All-get_or (VariableKeeps (variable_count N)) N.variables n past (omega arith) h).ty, omega arith)

module _ (own : ℕ) (T : Table) (ws : List ℕ) (b : Begins own T ws) where
  total : length (code_of own T) ≤ 16384
  total = omega (arith, b.short, length-map (code_of own T) code_word)

  index_fits : (n : ℕ) → n ≤ length T → AllByRecursion CodeWordFits (index T n)
  index_fits zero l = tt
  index_fits (suc n) l =
      let s = spans own T n (omega arith) in
      All-append CodeWordFits (index T n) (node_index T n) (index_fits n (omega arith))
      (omega (arith, total), (omega (arith, total), (omega (arith, b.needed n (omega arith)), tt)))

  blocks_fit : (n : ℕ) → n ≤ length T → AllByRecursion CodeWordFits (blocks T n)
  blocks_fit zero l = tt
  blocks_fit (suc n) l =
      let h : n < length T = omega arith in
      let s = spans own T n h in
      All-append CodeWordFits (blocks T n) (reset_block T n ++ step_block T n) (blocks_fit n (omega arith))
      (All-append CodeWordFits (reset_block T n) (step_block T n)
      (block_fits (need_of T) n _ _ (reset_block_keeps T b.limits n h (b.needed n h)) (omega (arith, total)))
      (block_fits (need_of T) n _ _ (step_block_keeps T b.limits n h (b.needed n h)) (omega (arith, total))))

  code_fits : AllByRecursion CodeWordFits (code_of own T)
  code_fits =
      let n : ℕ = length T in
      let N : Node = main_of T in
      let K = b.limits.nodes (n - 1) (omega (arith, b.limits.count.0)) in
      let values : AllByRecursion CodeWordFits (first_values N N.inputs) = values_fit N N.inputs (omega (arith, K.count.0)) K.variables in
      All-append CodeWordFits (front own T) (blocks T n) (
        (omega (arith, b.limits.count.1), omega (arith, b.number)),
        All-append CodeWordFits (index T n) (Ports N.inputs N.outputs ∷ first_values N N.inputs) (index_fits n (omega arith))
            ((omega (arith, K.inputs.1), omega (arith, K.outputs.1)), values),
      )
      (blocks_fit n (omega arith))

  -- the words say the code, and behind it something else
  pub program_is : program ws ≡ code_of own T ++ map says (drop (length (code_words own T)) ws)
  program_is =
      let n = length (code_words own T) in
      ap (map says) (sym (take-append-drop n ws)) ∙ map-append says (take n ws) (drop n ws)
      ∙ ap (λ l. map says l ++ map says (drop n ws)) b.front
      ∙ ap (λ l. l ++ map says (drop n ws)) (read_back (code_of own T) code_fits)

  pub word_is : (j : ℕ) → j < length (code_of own T) → get_or ws j 0 ≡ code_word (word_at (code_of own T) j)
  word_is j h =
      sym (get_or-take (length (code_words own T)) ws j 0 (omega (arith, length-map (code_of own T) code_word)))
      ∙ ap (λ l. get_or l j 0) b.front ∙ get_or-map code_word (code_of own T) j End 0 h

  pub word_fits : (j : ℕ) → j < length (code_of own T) → CodeWordFits (word_at (code_of own T) j)
  word_fits j h = All-get_or CodeWordFits (code_of own T) j End h code_fits
