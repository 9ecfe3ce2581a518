-- What one more word does to what is read so far.
use Rattle.std.specs.Prelude.{ℕ, ◌+◌, ◌-◌, ◌*◌, Bool, true, false, cond, ◌&&◌, ◌||◌, set, replicate, Some, None, Ok, Err, Option, Result, ◌==◌, nat_le, nat_lt, slice_index, slice_set}
use Rattle.words.specs.Bits.{field, kind_of, is_kind}
use Rattle.words.specs.Format.{clock_in, ports_in, restart_in, spare_zero}
use Rattle.words.specs.declared.kinds.Clock.{Clock}
use Rattle.words.specs.declared.kinds.Clock.TheVariants.{Base, On}
use Rattle.words.specs.declared.kinds.Ports.{Ports}
use Rattle.reader.specs.declared.faults.ReadFault.{ReadFault}
use Rattle.reader.specs.declared.faults.ReadFault.TheVariants.{Kind, Spare, Set, Count, Number}
use Rattle.reader.specs.declared.faults.Site.{Site}
use Rattle.reader.specs.declared.scan.Expect.{Expect}
use Rattle.reader.specs.declared.scan.Expect.TheVariants.{Head, Node, Variables, Equation, Literal, Operands, Gives}
use Rattle.reader.specs.declared.scan.Scan.{Scan}

abbrev pub Fed : Type 0
Fed = Result Scan ReadFault

-- a call that works in place: what it leaves, or its fault
abbrev pub after : Result Unit ReadFault → Scan → Fed
after (Ok u) s = Ok s
after (Err f) s = Err f

abbrev pub start : Scan
start = record {
  expect = Head;
  variables = 0;
  outline = record {
    nodes = 0;
    starts = replicate 32 0;
    inputs = replicate 32 0;
    outputs = replicate 32 0;
    equations = replicate 32 0;
    heads = replicate 2048 0;
  };
}

-- the node that is being read: that of the last NODE, 0 before any
abbrev pub current : Scan → ℕ
current s = s.outline.nodes - 1

abbrev pub site_of : Scan → ℕ → Site
site_of s at = record { node = current s; place = at }

-- The tests of one word, by the numbers of their faults: the first that fails is the fault. A fault of kind is at `before`, any other at `here`.
abbrev pub tested : (kind spare set count number : Bool) (before here : Site) → Scan → Fed
tested kind spare set count number before here next =
    cond kind
    (cond spare
    (cond set
    (cond count
    (cond number (Ok next)
    (Err (Number here)))
    (Err (Count here)))
    (Err (Set here)))
    (Err (Spare here)))
    (Err (Kind before))

abbrev pub expecting : Scan → Expect → Scan
expecting s e = record { expect = e; variables = s.variables; outline = s.outline }

abbrev pub head_word : ℕ → Scan → ℕ → ℕ → Fed
head_word own s at w =
    tested (is_kind 0 w) (spare_zero w) (field w 0 8 == own) true true (site_of s at) (site_of s at)
    (expecting s Node)

-- 1 to 16 inputs, 1 to 16 outputs, at most 64 variables, at most 32 nodes
abbrev pub counts_fit : Scan → Ports → Bool
counts_fit s p =
    nat_lt 0 p.inputs && (nat_le p.inputs 16 && (nat_lt 0 p.outputs && (nat_le p.outputs 16 &&
    (nat_le (p.inputs + p.outputs + p.locals) 64 && nat_lt s.outline.nodes 32))))

abbrev pub opened : Scan → ℕ → Ports → Scan
opened s at p = record {
  expect = Variables (p.inputs + p.outputs + p.locals);
  variables = p.inputs + p.outputs + p.locals;
  outline = record {
    nodes = s.outline.nodes + 1;
    starts = slice_set s.outline.starts s.outline.nodes at;
    inputs = slice_set s.outline.inputs s.outline.nodes p.inputs;
    outputs = slice_set s.outline.outputs s.outline.nodes p.outputs;
    equations = s.outline.equations;
    heads = s.outline.heads;
  };
}

-- a NODE has its own number as soon as its kind is right
abbrev pub node_word : Scan → ℕ → ℕ → Fed
node_word s at w =
    tested (is_kind 1 w) (spare_zero w) true (counts_fit s (ports_in w)) true
    (site_of s at) (record { node = s.outline.nodes; place = at })
    (opened s at (ports_in w))

abbrev pub sampler_fits : Scan → Clock → Bool
sampler_fits s Base = true
sampler_fits s (On sampler sense) = nat_lt sampler s.variables

abbrev pub variable_word : Scan → ℕ → ℕ → ℕ → Fed
variable_word s more at w =
    tested (is_kind 2 w) (spare_zero w) true true (sampler_fits s (clock_in w)) (site_of s at) (site_of s at)
    (expecting s (cond (nat_lt 1 more) (Variables (more - 1)) Equation))

-- the numbers in an equation's head: variables of the node, and for a CALL a node before this one
abbrev pub restart_fits : Scan → Option ℕ → Bool
restart_fits s None = true
restart_fits s (Some r) = nat_lt r s.variables

abbrev pub numbers_fit : Scan → ℕ → Bool
numbers_fit s w =
    cond (is_kind 8 w) (nat_lt (field w 20 8) (current s) && restart_fits s (restart_in w))
    (cond (is_kind 5 w || is_kind 6 w) (nat_lt (field w 8 6) s.variables && nat_lt (field w 0 6) s.variables)
    (nat_lt (field w 0 6) s.variables))

-- what stands behind an equation's head: operators below 128 take one operand, the others two
abbrev pub behind : Scan → ℕ → Expect
behind s w =
    cond (is_kind 3 w) (Operands (cond (nat_lt (field w 20 8) 128) 1 2) 0)
    (cond (is_kind 4 w) (Operands 1 0)
    (cond (is_kind 7 w) Literal
    (cond (is_kind 8 w) (Operands (slice_index s.outline.inputs (field w 20 8)) (slice_index s.outline.outputs (field w 20 8)))
    (Operands 2 0))))

-- how many equations of the node are read so far
abbrev pub equations_read : Scan → ℕ
equations_read s = slice_index s.outline.equations (current s)

abbrev pub begun : Scan → ℕ → Expect → Scan
begun s at e = record {
  expect = e;
  variables = s.variables;
  outline = record {
    nodes = s.outline.nodes;
    starts = s.outline.starts;
    inputs = s.outline.inputs;
    outputs = s.outline.outputs;
    equations = slice_set s.outline.equations (current s) (equations_read s + 1);
    heads = slice_set s.outline.heads (64 * current s + equations_read s) at;
  };
}

abbrev pub is_head : ℕ → Bool
is_head w = nat_le 3 (kind_of w) && nat_le (kind_of w) 8

abbrev pub equation_head : Scan → ℕ → ℕ → Fed
equation_head s at w =
    tested (is_head w) (spare_zero w) true (nat_lt (equations_read s) 64) (numbers_fit s w) (site_of s at) (site_of s at)
    (begun s at (behind s w))

abbrev pub equation_word : Scan → ℕ → ℕ → Fed
equation_word s at w =
    cond (is_kind 12 w)
    (tested true (spare_zero w) true true true (site_of s at) (site_of s at) (expecting s Node))
    (equation_head s at w)

-- the literal of a DELAY, behind which one operand stands; a LITERAL has no spare bits
abbrev pub literal_word : Scan → ℕ → ℕ → Fed
literal_word s at w =
    tested (is_kind 10 w) true true true true (site_of s at) (site_of s at) (expecting s (Operands 1 0))

-- behind an operand, where `more` were to come with it
abbrev pub onward : ℕ → ℕ → Expect
onward more gives =
    cond (nat_lt 1 more) (Operands (more - 1) gives)
    (cond (nat_lt 0 gives) (Gives gives) Equation)

abbrev pub operand_word : Scan → ℕ → ℕ → ℕ → ℕ → Fed
operand_word s more gives at w =
    cond (is_kind 10 w) (Ok (expecting s (onward more gives)))
    (tested (is_kind 9 w) (spare_zero w) true true (nat_lt (field w 0 6) s.variables) (site_of s at) (site_of s at)
    (expecting s (onward more gives)))

abbrev pub give_word : Scan → ℕ → ℕ → ℕ → Fed
give_word s more at w =
    tested (is_kind 11 w) (spare_zero w) true true (nat_lt (field w 0 6) s.variables) (site_of s at) (site_of s at)
    (expecting s (cond (nat_lt 1 more) (Gives (more - 1)) Equation))

-- by what is due
abbrev pub feed_by : Expect → ℕ → Scan → ℕ → ℕ → Fed
feed_by Head own s at w = head_word own s at w
feed_by Node own s at w = node_word s at w
feed_by (Variables more) own s at w = variable_word s more at w
feed_by Equation own s at w = equation_word s at w
feed_by Literal own s at w = literal_word s at w
feed_by (Operands more gives) own s at w = operand_word s more gives at w
feed_by (Gives more) own s at w = give_word s more at w

abbrev pub feed_of : ℕ → Scan → ℕ → ℕ → Fed
feed_of own s at w = feed_by s.expect own s at w

-- a table may end where a NODE may stand, behind its first node
abbrev pub may_end_by : Expect → ℕ → Bool
may_end_by Head nodes = false
may_end_by Node nodes = nat_lt 0 nodes
may_end_by (Variables more) nodes = false
may_end_by Equation nodes = false
may_end_by Literal nodes = false
may_end_by (Operands more gives) nodes = false
may_end_by (Gives more) nodes = false

abbrev pub may_end : Scan → Bool
may_end s = may_end_by s.expect s.outline.nodes
