use Rattle.teluddru.proofs.words.bodies.body_words.Goals as goal

pub returns : goal.returns
returns c = rw c.among-tables.ensures at c.plan_body.ensures
