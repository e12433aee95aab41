-- Whether a class has a value, and whether there is space for it.
use Rattle.std.specs.Prelude.{ℕ, ◌<◌, cond, List, ◌≡◌, length}
use Rattle.std.proofs.Math.Option.{Option, none, some}
use Rattle.literal.specs.Literal.{Literal}
use Rattle.common_example.specs.declared.deciding.Verdict.{Verdict}
use Rattle.common_example.specs.declared.deciding.Verdict.TheVariants.{Fits, TooLarge, NoValue}
use Rattle.common_example.specs.Overlap.{Template, example}
use Rattle.common_example.specs.Unify.{build}
use Rattle.common_example.specs.Operations.{fits_in}
use Rattle.common_example.specs.code.Graph.{head_at, Linked}
use Rattle.common_example.specs.code.Classes.{class_in, ClassesOk}
use Rattle.common_example.specs.code.Sizes.{sizes_after}

abbrev pub verdict : Option (Template ℕ) → List ℕ → List ℕ → Verdict
verdict none nodes children = NoValue
verdict (some t) nodes children = cond (fits_in (example t) nodes children) Fits TooLarge

-- what is built of a place's class; a level for each place is enough
abbrev pub built_of : (ℕ → Literal) → List ℕ → List ℕ → List ℕ → ℕ → ℕ → Option (Template ℕ)
built_of literal_of heads links classes levels p = build (head_at literal_of heads links) (class_in classes) levels p

pub record DeepAsks (heads links classes : List ℕ) (p : ℕ) : Type 0 where
  pub linked : Linked heads links
  pub ok : ClassesOk classes
  pub inside : p < 2052

pub record DeepDecided (heads links classes : List ℕ) (p : ℕ) (r : Verdict) : Type 0 where
  pub is : (literal_of : ℕ → Literal) → built_of literal_of heads links classes 32 p ≡ none → (nodes children : List ℕ) → r ≡ verdict (built_of literal_of heads links classes 2048 p) nodes children
  pub not_fits : r ≡ Fits → ⊥

pub record DecideAsks (heads links classes sizes : List ℕ) (p : ℕ) : Type 0 where
  pub deep : DeepAsks heads links classes p
  pub settled : sizes ≡ sizes_after heads links classes 32

-- of any two lists of such lengths
pub record Decided (heads links classes : List ℕ) (p words entries : ℕ) (r : Verdict) : Type 0 where
  pub is : (literal_of : ℕ → Literal) (nodes children : List ℕ) → length nodes ≡ words → length children ≡ entries → r ≡ verdict (built_of literal_of heads links classes 2048 p) nodes children

-- where the value fits, the sizes stay
pub record DecidedIn (heads links classes sizes : List ℕ) (p words entries : ℕ) (sizes' : List ℕ) (r : Verdict) : Type 0 where
  pub decided : Decided heads links classes p words entries r
  pub kept : r ≡ Fits → sizes' ≡ sizes
