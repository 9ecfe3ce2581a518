use Rattle.std.proofs.Common.{◌+◌, ◌<◌, ◌≤◌, length, set, is_some, sym, ap, ◌∙◌, arith, rules}
use Rattle.std.specs.Option.{option_map}
use Rattle.words.specs.Bits.{field}
use Rattle.execution.specs.Cells.{stored}
use Rattle.runner.proofs.Operators.{two_operands, Second, single, double, second_place, operate_values, operate_none}
use Rattle.runner.proofs.operate.operate.Goals as goal
use Rattle.runner.proofs.operate.operate.Goals.{then-op-ge128+else-is_none, else-op-ge128}

pub returns-then-is_none : goal.returns-then-is_none
returns-then-is_none g c =
    let op = field c.args.w 20 8 in
    let two : 128 ≤ op = omega (arith, c.operator-op.ensures, c.if-op-ge128.true) in
    record {
      place = ap (λ n. c.args.p + n) (sym (two_operands op two));
      stored = sym (operate_none g.S.OperatorSet.meaning c.args.words.now op (field c.args.w 0 6) c.args.p c.args.cells.now c.requires.operands
          c.value-first.result c.value-second.result two c.value-first.ensures c.value-second.ensures c.if-is_none.ensures);
    }

pub offset_bounds-cells-variable : goal.offset_bounds-cells-variable
offset_bounds-cells-variable g c = let i : c.variable.result < length c.args.cells.now = omega (arith, c.variable.ensures, c.requires.cell) in search rules

pub returns-in-Some : goal.returns-in-Some
returns-in-Some g c =
    let m = g.S.OperatorSet.meaning in
    let ws = c.args.words.now in
    let op = field c.args.w 20 8 in
    let x = field c.args.w 0 6 in
    let p = c.args.p in
    let cells = c.args.cells.now in
    let a = c.value-first.result in
    let b = c.if-op-ge128.second in
    let v = c.in-Some.a in
    let f = c.requires.operands in
    let s : Second m ws op x p cells f b c.if-op-ge128.next =
    elim c.if-op-ge128.branch [
      | then-op-ge128+else-is_none w ↦ double (omega (arith, c.operator-op.ensures, w.if-op-ge128.true)) (w.second-is ∙ w.value-second.ensures) (ap is_some w.second-is ∙ w.if-is_none.ensures) w.next-is
      | else-op-ge128 w ↦ single (omega (arith, c.operator-op.ensures, w.if-op-ge128.false)) w.second-is w.next-is
    ] in
    record {
      place = second_place m ws op x p cells f b c.if-op-ge128.next s;
      stored =
          ap (λ x. set cells x c.apply.result) c.variable.ensures
          ∙ ap (set cells x) (c.apply.ensures ∙ ap (λ o. m.apply o v b) c.operator-op.ensures)
          ∙ ap (λ a. stored cells x (option_map (λ v. m.apply op v b) a)) (sym c.in-Some.is)
          ∙ sym (operate_values m ws op x p cells f a b c.if-op-ge128.next c.value-first.ensures s);
    }

pub returns-in_default : goal.returns-in_default
returns-in_default g c =
    let m = g.S.OperatorSet.meaning in
    let ws = c.args.words.now in
    let op = field c.args.w 20 8 in
    let x = field c.args.w 0 6 in
    let p = c.args.p in
    let cells = c.args.cells.now in
    let a = c.value-first.result in
    let b = c.if-op-ge128.second in
    let f = c.requires.operands in
    let s : Second m ws op x p cells f b c.if-op-ge128.next =
    elim c.if-op-ge128.branch [
      | then-op-ge128+else-is_none w ↦ double (omega (arith, c.operator-op.ensures, w.if-op-ge128.true)) (w.second-is ∙ w.value-second.ensures) (ap is_some w.second-is ∙ w.if-is_none.ensures) w.next-is
      | else-op-ge128 w ↦ single (omega (arith, c.operator-op.ensures, w.if-op-ge128.false)) w.second-is w.next-is
    ] in
    record {
      place = second_place m ws op x p cells f b c.if-op-ge128.next s;
      stored =
          ap (λ a. stored cells x (option_map (λ v. m.apply op v b) a)) (sym c.in_default.is)
          ∙ sym (operate_values m ws op x p cells f a b c.if-op-ge128.next c.value-first.ensures s);
    }
