-- Six tables that a function is lent one by one, by its own parameters.
use Rattle.std.specs.Prelude.{ℕ}
use Rattle.std.proofs.Math.Option.{Option}
use Rattle.base.specs.Lent.{Slices}
use Rattle.literal.specs.Literal.{Literal}
use Rattle.literal.specs.Reading.{literal_of}
use Rattle.literal.specs.declared.LiteralRef.{LiteralRef}
use Rattle.table.specs.Tables.{Tables, tables}
use Rattle.table.specs.Decode.{literal_node}

abbrev pub lent : Slices → Slices → Slices → Slices → Slices → Slices → Tables
lent nodes children numbers names strings text =
    tables nodes.entry.now children.entry.now numbers.entry.now names.entry.now strings.entry.now text.entry.now

-- the literal of a node, if it is one
abbrev pub lent_literal : Slices → Slices → Slices → Slices → ℕ → Option Literal
lent_literal nodes numbers strings text n = literal_node nodes.entry.now numbers.entry.now strings.entry.now text.entry.now n

-- the literal of a reference
abbrev pub lent_referred : Slices → Slices → Slices → LiteralRef → Option Literal
lent_referred numbers strings text l = literal_of numbers.entry.now strings.entry.now text.entry.now l
