use Rattle.std.proofs.Common.{◌≡◌, ◌<◌, ap, ◌∙◌, arith}
use Rattle.table.specs.Decoding.{table_of}
use Rattle.rules.specs.Types.{type_of}
use Rattle.code.specs.Code.{main_of}
use Rattle.pieces.proofs.Adding.{adds_as, adds_join}
use Rattle.front.proofs.Fronts.{main_few, main_is, type_fits, values_length, values_more}
use Rattle.front.proofs.entries.push_first_values.Goals as goal

pub push-requires : goal.push-requires
push-requires c =
    let ws = c.args.words.now in
    let o = c.args.outline.now in
    let x = c.inputs.x in
    let M = main_of (table_of ws) in
    let inputs = c.input_count-x-end.ensures ∙ ap (λ N. N.inputs) (main_is ws o c.requires.described) in
    let l : x < M.inputs = omega (arith, inputs) in
    let ty = ap (λ v. v.ty) c.variable-ty.ensures ∙ ap (λ N. type_of N x) (main_is ws o c.requires.described) in
    record {
      fits = (omega (arith, type_fits ws o c.requires.described x l, ty), omega arith);
      room = omega (arith, c.requires.room, c.inputs.invariant.count, values_length M x, l, (main_few ws o c.requires.described).0);
    }

pub inputs-preserved : goal.inputs-preserved
inputs-preserved c =
    let ws = c.args.words.now in
    let o = c.args.outline.now in
    let x = c.inputs.x in
    let ty : c.variable-ty.result.ty ≡ type_of (main_of (table_of ws)) x =
    ap (λ v. v.ty) c.variable-ty.ensures ∙ ap (λ N. type_of N x) (main_is ws o c.requires.described) in
    adds_as _ _ (values_more (main_of (table_of ws)) x c.variable-ty.result.ty ty) (adds_join c.inputs.invariant c.push.ensures)
