-- What a caller knows of the blocks of a node that it calls.
use Rattle.std.proofs.Common.{◌≡◌, ℕ, ◌+◌, ◌<◌, ◌≤◌, List, length, get_or, Some}
use Rattle.std.specs.List.{slice_get}
use Rattle.table.specs.Syntax.{Table, node_at}
use Rattle.schedule.specs.Need.{needs}
use Rattle.streams.specs.Streams.{Env}
use Rattle.streams.specs.Machine.{Tree, Machine}
use Rattle.streams.proofs.Settled.{Idles}
use Rattle.execution.specs.Cells.{Blocks}

module _ {V : Type 0} (T : Table) (B : Blocks V) (C : ℕ → Machine V) (R : ℕ → Env V → Tree V → Type 0) (Full : ℕ → Tree V → Type 0) (g : ℕ) where
  pub record Started (cells after : List V) : Type 0 where
    pub long : length after ≡ length cells
    pub past : (a : ℕ) → get_or (needs T) g 0 ≤ a → slice_get after a ≡ slice_get cells a
    pub start : R g (slice_get after) (C g).start

  pub record Advanced (M : Tree V) (vs : List V) (cells after : List V) : Type 0 where
    pub long : length after ≡ length cells
    pub past : (a : ℕ) → get_or (needs T) g 0 ≤ a → slice_get after a ≡ slice_get cells a
    pub shows : (y : ℕ) → y < (node_at T g).inputs + (node_at T g).outputs → slice_get after y ≡ (C g).shows M (Some vs) y
    pub next : R g (slice_get after) ((C g).next M (Some vs))

  -- R g says which cells hold a memory of node g, and Full g which memories are filled
  pub record Callee : Type 0 where
    pub room : (node_at T g).inputs + (node_at T g).outputs ≤ get_or (needs T) g 0
    pub filled : Full g (C g).start
    pub idles : Idles (C g)
    pub local : (w w' : Env V) (M : Tree V) → R g w M → ((a : ℕ) → (node_at T g).inputs ≤ a → a < get_or (needs T) g 0 → w a ≡ w' a) → R g w' M
    pub reset : (cells : List V) → get_or (needs T) g 0 ≤ length cells → Started cells (B.resets g cells)
    pub step : (cells : List V) (M : Tree V) (vs : List V) → get_or (needs T) g 0 ≤ length cells → Full g M → R g (slice_get cells) M
        → length vs ≡ (node_at T g).inputs → ((x : ℕ) → x < (node_at T g).inputs → slice_get cells x ≡ slice_get vs x) → Advanced M vs cells (B.steps g cells)
