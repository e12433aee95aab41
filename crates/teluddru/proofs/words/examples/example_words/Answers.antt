use Rattle.teluddru.proofs.words.examples.example_words.Goals as goal

pub returns : goal.returns
returns c = rw c.among-tables.ensures at c.common_example.ensures
