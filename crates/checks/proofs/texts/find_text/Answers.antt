use Rattle.checks.specs.code.Texts.{is_greater}
use Rattle.literal.specs.Text.{texts_compared}
use Rattle.literal.specs.Reading.{literal_of}
use Rattle.table.specs.Decode.{literal_node}
use Rattle.checks.proofs.TextLoops.{text_before}
use Rattle.base.proofs.Search.{parted}
use Rattle.std.proofs.Common.{rules, of_calls}
use native.Mathlib.Omega.{arith}
use Rattle.checks.proofs.texts.find_text.Goals as goal

pub returns : goal.returns
returns c =
    let a = c.args in
    let few = c.requires.few in
    let key = literal_of a.numbers.now a.strings.now a.text.now a.key in
    let node = literal_node a.nodes.now a.numbers.now a.strings.now a.text.now in
    record {
      place = parted (λ x. is_greater (texts_compared key (node x))) a.keys.now 0 a.size (omega (arith, c.told-keys)) (text_before c.requires)
          _ c.partition_point.ensures.bound c.partition_point.ensures.partitioned (λ b r f k. search (rules, of_calls));
    }
