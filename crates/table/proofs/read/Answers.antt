use Rattle.std.proofs.Common.{ℕ, ◌^◌, ◌<◌, get_or, sym, ap, ◌∙◌, subst, arith}
use Rattle.reader.specs.Whole.{Read, scan_of}
use Rattle.table.specs.Reading.{Reads}
use Rattle.table.proofs.Whole.{reads_stand}
use Rattle.table.proofs.read.Goals as goal

pub returns : goal.returns
returns g c =
    let ws = c.args.words.now in
    let own = c.set_number.result in
    let result : Read = c.scan_words.result in
    let small : (i : ℕ) → get_or ws i 0 < 2 ^ 32 = λ i. omega (arith, c.type_inv.words i) in
    let F : ℕ → Type 0 = λ o. Reads o ws result in
    let G : Read → Type 0 = λ r. Reads own ws r in
    record {
      value = c.scan_words.ensures ∙ ap (λ o. scan_of o ws) c.set_number.ensures;
      spelled = subst F c.set_number.ensures (subst G (sym c.scan_words.ensures) (reads_stand own ws (omega arith) small));
    }
