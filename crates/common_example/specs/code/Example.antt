-- The value of a class as the example.
use Rattle.std.specs.Prelude.{ℕ, ◌+◌, ◌-◌, ◌/◌, ◌≤◌, ◌<◌, List, ◌≡◌, length, Option, Result}
use Rattle.std.proofs.Math.Option.{some}
use Rattle.std.proofs.lemmas.List.Edits.{sets}
use Rattle.base.specs.Lent.{MutSlices, old, new}
use Rattle.literal.specs.Literal.{Literal}
use Rattle.table.specs.Tables.{Tables}
use Rattle.common_example.specs.declared.deciding.Verdict.TheVariants.{Fits}
use Rattle.common_example.specs.declared.example.Example.{Example}
use Rattle.common_example.specs.declared.example.ExampleRefusal.{ExampleRefusal}
use Rattle.common_example.specs.declared.graph.Joined.{Joined}
use Rattle.common_example.specs.Overlap.{Template, example, size}
use Rattle.common_example.specs.Operations.{node_words, child_words_lem, example_of, found}
use Rattle.common_example.specs.Common.{Gives}
use Rattle.common_example.specs.code.Graph.{Linked}
use Rattle.common_example.specs.code.Classes.{ClassesOk}
use Rattle.common_example.specs.code.Sizes.{Settled}
use Rattle.common_example.specs.code.Writing.{Copied}
use Rattle.common_example.specs.code.Deciding.{built_of, Decided}

-- the arrays are of some tables with these nodes
pub record ExampleAsks (nodes heads links classes : List ℕ) (p entries : ℕ) : Type 0 where
  pub linked : Linked heads links
  pub ok : ClassesOk classes
  pub inside : p < 2052
  pub few : length nodes / 5 ≤ 512
  pub low : entries ≤ 512
  pub tables : Tables
  pub literal_of : ℕ → Literal
  pub same : tables.nodes ≡ nodes
  pub copied : Copied tables literal_of heads links

pub record FoundAsks (nodes heads links classes sizes : List ℕ) (p entries : ℕ) (out kids : List ℕ) : Type 0 where
  pub asks : ExampleAsks nodes heads links classes p entries
  pub settled : Settled heads links classes 32 sizes
  pub fits : Decided heads links classes p (length out) (length kids) Fits

-- of any such tables
pub record FoundIs (nodes heads links classes : List ℕ) (p entries : ℕ) (out kids out' kids' : List ℕ) (r : Example) : Type 0 where
  pub is : (T : Tables) (literal_of : ℕ → Literal) → T.nodes ≡ nodes → Copied T literal_of heads links → (t : Template ℕ) → built_of literal_of heads links classes 32 p ≡ some t
      → size (example t) ≤ 512
      → (found r.node r.nodes r.children ≡ found (length nodes / 5 + size (example t)) (size (example t)) (size (example t) - 1))
      × (out' ≡ sets out 0 (node_words T (example t) entries)) × (kids' ≡ sets kids 0 (child_words_lem (example t) (length nodes / 5)))

abbrev pub FoundWritten : List ℕ → Joined → ℕ → ℕ → MutSlices → MutSlices → Example → Type 0
FoundWritten nodes joined p entries out kids r = FoundIs nodes joined.graph.heads joined.graph.links joined.classes p entries (old out) (old kids) (new out) (new kids) r

pub record ExampleIs (nodes heads links classes : List ℕ) (p entries : ℕ) (out kids out' kids' : List ℕ) (r : Result (Option Example) ExampleRefusal) : Type 0 where
  pub is : (T : Tables) (literal_of : ℕ → Literal) → T.nodes ≡ nodes → length T.children ≡ entries → Copied T literal_of heads links
      → Gives T (example_of (built_of literal_of heads links classes 2048 p)) out kids out' kids' r

abbrev pub ExampleWritten : List ℕ → Joined → ℕ → ℕ → MutSlices → MutSlices → Result (Option Example) ExampleRefusal → Type 0
ExampleWritten nodes joined p entries out kids r = ExampleIs nodes joined.graph.heads joined.graph.links joined.classes p entries (old out) (old kids) (new out) (new kids) r
