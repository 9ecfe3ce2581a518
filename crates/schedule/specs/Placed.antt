-- What is placed so far, as numbers and marks.
use Rattle.std.specs.Prelude.{ℕ, ◌+◌, Bool, true, false, List, take, replicate, Option, slice_index_or, slice_set}
use Rattle.std.specs.Option.{option_map}
use Rattle.schedule.specs.declared.order.Order.{Order}
use Rattle.schedule.specs.declared.order.Placed.{Placed}

-- the first `count` places, in their order
abbrev pub sequence : Order → List ℕ
sequence o = take o.count o.places

-- the order that an answer writes down
abbrev pub written : Option Order → Option (List ℕ)
written r = option_map sequence r

-- mark i: equation i is placed
abbrev pub is_placed : List Bool → ℕ → Bool
is_placed marks i = slice_index_or marks i false

abbrev pub nothing_placed : Placed
nothing_placed = record { order = record { places = replicate 64 0; count = 0 }; marks = replicate 64 false }

-- j is placed next
abbrev pub with_next : Placed → ℕ → Placed
with_next p j =
    record {
      order = record { places = slice_set p.order.places p.order.count j; count = p.order.count + 1 };
      marks = slice_set p.marks j true;
    }
