-- The code of a table, word by word.
use Rattle.std.specs.Prelude.{◌≡◌, ℕ, List, [], ◌∷◌}
use Rattle.table.specs.Decoding.{table_of}
use Rattle.code.specs.Code.{code_words}

-- A counter, and a node that calls it and restarts it by its own input; both give a number.
abbrev pub restarted_counter : List ℕ
restarted_counter =
    0x00000001 ∷
    -- output 1 is local 2, local 3 is one more, and local 2 is what local 3 was, first 0
    0x10010102 ∷ 0x20000000 ∷ 0x21000000 ∷ 0x21000000 ∷ 0x21000000 ∷
    0x30000001 ∷ 0x90000002 ∷ 0x38000003 ∷ 0x90000002 ∷ 0xA1000001 ∷ 0x70000002 ∷ 0xA1000000 ∷ 0x90000003 ∷ 0xC0000000 ∷
    0x10010100 ∷ 0x20000000 ∷ 0x21000000 ∷
    0x80008000 ∷ 0x90000000 ∷ 0xB0000001 ∷ 0xC0000000 ∷ []

abbrev pub restarted_code : List ℕ
restarted_code =
    -- the front: two nodes of set 1, which need 4 and 6 cells; main has one input, of type 0
    0x00000201 ∷ 0x10000009 ∷ 0x2000000C ∷ 0x60000004 ∷ 0x10000014 ∷ 0x20000016 ∷ 0x60000006 ∷ 0xF0010100 ∷ 0xA0000000 ∷
    -- the counter's delay is set to 0
    0x30000002 ∷ 0xA1000000 ∷ 0xC0000000 ∷
    -- its equations, the delay last
    0x30000001 ∷ 0x90000002 ∷ 0x38000003 ∷ 0x90000002 ∷ 0xA1000001 ∷ 0x30000002 ∷ 0x90000003 ∷ 0xC0000000 ∷
    -- main resets the counter in cells 2 to 5
    0x70000002 ∷ 0xC0000000 ∷
    -- its step passes a reset over unless input 0 is true, and steps the counter
    0x48000001 ∷ 0x70000002 ∷ 0x80000002 ∷ 0x90000000 ∷ 0xB0000001 ∷ 0xC0000000 ∷ []

abbrev pub CodeExamplesStand : Type 0
CodeExamplesStand = code_words 1 (table_of restarted_counter) ≡ restarted_code
