-- What translation answers, and the number of its refusal.
use Rattle.std.specs.Prelude.{ℕ, cond, List, ◌++◌, length, drop, Ok, Err, Result}
use Rattle.front.specs.Whole.{fits_in}
use Rattle.translation.specs.declared.faults.TranslateFault.{TranslateFault}
use Rattle.translation.specs.declared.faults.TranslateFault.TheVariants.{TooLong}

abbrev pub translate_number : TranslateFault → ℕ
translate_number TooLong = 12

-- code that is short enough stands at the buffer's front, and its length is the answer; else the buffer stays as it was
abbrev pub translate_answer : List ℕ → List ℕ → Result ℕ TranslateFault
translate_answer code buffer = cond (fits_in code (length buffer)) (Ok (length code)) (Err TooLong)

abbrev pub translated_buffer : List ℕ → List ℕ → List ℕ
translated_buffer code buffer = cond (fits_in code (length buffer)) (code ++ drop (length code) buffer) buffer
