-- The words of lent tables.
use Rattle.table.specs.Tables.{Tables, tables}
use Rattle.table.specs.declared.tables.Tables as declared

abbrev pub contents : declared.Tables → Tables
contents t = tables t.nodes.now t.children.now t.numbers.now t.names.now t.strings.now t.text.now
