use Rattle.std.proofs.Common.{◌<◌, length, sym, ◌∙◌, arith, rules}
use Rattle.std.proofs.lemmas.Result.{err_from_is_err_and}
use Rattle.reader.proofs.Turns.{goes_on, refused, ended_well, ended_early, of_length}
use Rattle.reader.proofs.whole.scan_words.Goals as goal

pub returns-in_err-feed : goal.returns-in_err-feed
returns-in_err-feed c =
    let ws = c.args.words.now in
    let own = c.args.own in
    let p = err_from_is_err_and c.from_residual.result c.from_residual.ensures.1 in
    let l = of_length own ws (omega arith) (omega arith) in
    let e = refused own ws c.words.at c.words.scan c.in_err-feed.field-0.0 (omega arith) c.in_err-feed.ensures in
    rw (p.1, p.2) (sym e ∙ c.words.invariant ∙ l)

pub words-preserved : goal.words-preserved
words-preserved c =
    sym (goes_on c.args.own c.args.words.now c.words.at c.words.scan c.feed.new.self (omega arith) c.in_ok-feed.ensures)
    ∙ c.words.invariant

pub returns-then-may_end : goal.returns-then-may_end
returns-then-may_end c =
    let ws = c.args.words.now in
    let own = c.args.own in
    let h : 0 < length ws = search rules in
    let l = of_length own ws h (omega arith) in
    sym (ended_well own ws c.words.at c.words.scan (omega arith) c.if-may_end.ensures) ∙ c.words.invariant ∙ l

pub returns-else-may_end : goal.returns-else-may_end
returns-else-may_end c =
    let ws = c.args.words.now in
    let own = c.args.own in
    let h : 0 < length ws = search rules in
    let l = of_length own ws h (omega arith) in
    rw c.site.ensures (sym (ended_early own ws c.words.at c.words.scan (omega arith) c.if-may_end.ensures) ∙ c.words.invariant ∙ l)
