use Rattle.std.proofs.Common.{◌≡◌, ◌%◌, [], ◌∷◌, length, get_or, sym, ap, ◌∙◌, arith}
use Rattle.words.specs.Bits.{field}
use Rattle.instructions.specs.declared.code_word.CodeWord.TheVariants.{Head}
use Rattle.table.specs.Decoding.{table_of}
use Rattle.pieces.proofs.Adding.{holds_first}
use Rattle.front.proofs.Fronts.{head_at, index_at, ports_at}
use Rattle.front.proofs.entries.front_piece.Goals as goal

pub returns-then-j-lt1 : goal.returns-then-j-lt1
returns-then-j-lt1 c =
    let ws = c.args.words.now in
    let T = table_of ws in
    let own = field (get_or ws 0 0) 0 8 in
    let set : c.word_at.result % 256 ≡ own = omega (arith, c.word_at.ensures) in
    let nodes : c.args.plan.now.outline.nodes ≡ length T = c.requires.planned.described.spells.outlines.nodes in
    holds_first c.new-piece.ensures c.push.ensures
    (head_at T own c.args.j (omega arith) ∙ ap (λ n. Head n own ∷ []) (sym nodes) ∙ ap (λ s. Head c.args.plan.now.outline.nodes s ∷ []) (sym set))

pub returns-then-j-nodes : goal.returns-then-j-nodes
returns-then-j-nodes c =
    let ws = c.args.words.now in
    holds_first c.new-piece.ensures c.push_index.ensures
    (index_at (table_of ws) (field (get_or ws 0 0) 0 8) c.args.j (omega arith) (omega (arith, c.requires.planned.described.spells.outlines.nodes)))

pub returns-else-j-nodes : goal.returns-else-j-nodes
returns-else-j-nodes c =
    let ws = c.args.words.now in
    holds_first c.new-piece.ensures c.push_ports.ensures
    (ports_at (table_of ws) (field (get_or ws 0 0) 0 8) c.args.j (omega arith) (omega (arith, c.requires.planned.described.spells.outlines.nodes)))
