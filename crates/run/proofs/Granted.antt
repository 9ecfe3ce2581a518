-- What a call that is granted knows.
use Rattle.std.proofs.Common.{◌≡◌, ℕ, ◌<◌, Bool, ltb, List, length, Ok, Result, arith}
use Rattle.std.proofs.lemmas.Bool.{ltb-true, leb-true}
use Rattle.opset.specs.Meaning.{Meaning}
use Rattle.execution.specs.Words.{need_at}
use Rattle.execution.specs.Sound.{Sound, inputs_in, main_in}
use Rattle.calls.specs.declared.refusal.Refusal.{Refusal}
use Rattle.calls.specs.declared.refusal.Refusal.TheVariants.{Memory, Port}
use Rattle.calls.specs.Calls.{outcome, enough, set_refusal, memory_refusal, offer_refusal, unless}
use Rattle.calls.proofs.Tests.{ok_none, both_none, unless_none}

-- an offer that is granted goes to a cell of the memory
pub offer_within : {V : Type 0} (m : Meaning V) (own : ℕ) (ws : List ℕ) (cells : List V) (offered : List Bool) (i : ℕ) (v : V) → Sound ws
    → ◌≡◌ {A = Result Unit Refusal} (Ok tt) (outcome (offer_refusal m own ws cells offered i v) tt) → i < length cells
offer_within m own ws cells offered i v s e =
    let a = both_none (set_refusal own ws) _ (ok_none (offer_refusal m own ws cells offered i v) tt tt e) in
    let b = both_none (memory_refusal ws cells) _ a.1 in
    let c = both_none (unless (ltb i (inputs_in ws)) Port) _ b.1 in
    let room = leb-true (need_at ws (main_in ws)) (length cells) (unless_none (enough ws cells) Memory b.0) in
    let port = ltb-true i (inputs_in ws) (unless_none (ltb i (inputs_in ws)) Port c.0) in
    omega (arith, room, port, s.ports)
