-- What a drawing holds.
use Rattle.std.specs.Prelude.{ℕ, Bool, List, is_some, vec_items}
use Rattle.drawing.specs.declared.drawing.Drawing.{Drawing}

abbrev pub words_of : Drawing → List ℕ
words_of d = vec_items d.words

abbrev pub is_admitted : Drawing → Bool
is_admitted d = is_some d.plan
