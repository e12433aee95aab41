use Rattle.teluddru.proofs.words.plans.plan_words.Goals as goal

pub returns : goal.returns
returns c = rw c.among-tables.ensures at c.plan.ensures
