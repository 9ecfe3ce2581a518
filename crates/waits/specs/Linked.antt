-- What an equation's links say of it.
use Rattle.std.specs.Prelude.{◌≡◌, ◌<◌, false}
use Rattle.std.specs.List.{AllByRecursion}
use Rattle.table.specs.Syntax.{Equation, Node}
use Rattle.rules.specs.Definitions.{defined, is_delay}
use Rattle.schedule.specs.Reads.{reads}
use Rattle.waits.specs.declared.links.Links.{Links}
use Rattle.waits.specs.Members.{Holds}

pub record Linked (N : Node) (l : Links) (E : Equation) : Type 0 where
  pub reads : Holds l.reads (reads N E)
  pub defines : Holds l.defines (defined E)
  pub small : AllByRecursion (λ x. x < 64) (defined E)
  pub delay : l.delay ≡ is_delay E

abbrev pub no_links : Links
no_links = record { reads = record { 0 = 0 }; defines = record { 0 = 0 }; delay = false }
