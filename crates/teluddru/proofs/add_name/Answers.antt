use Rattle.teluddru.proofs.laws.AddedNames.{name_added}
use Rattle.teluddru.proofs.add_name.Goals as goal

pub returns : goal.returns
returns c =
    let copied = c.copy_names-copied in
    name_added c.args.nodes.now c.args.children.now c.args.numbers.now c.args.strings.now c.args.text.now c.args.used c.args.start c.args.length
    _ _ copied.result _ copied.ensures c.add_name-answer.ensures.answer (cc)
