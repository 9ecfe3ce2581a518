use Rattle.std.proofs.Common.{sym, rules}
use Rattle.std.proofs.lemmas.List.{set_past}
use Rattle.reader.proofs.scan.note_place.Goals as goal

pub returns-else-i-lt2048 : goal.returns-else-i-lt2048
returns-else-i-lt2048 c = sym (set_past c.args.places.now c.args.i c.args.at (search rules))
