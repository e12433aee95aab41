-- What is promised of a run with tolerances, of a scope's answer, a list of values by name, a pattern, a value and the ranges: demand 3 of each choice; and where every number is exact, the present run.
use Rattle.std.specs.Prelude.{ℕ, Bool, [], ◌≡◌}
use Rattle.std.proofs.Math.Option.{some}
use Rattle.literal.specs.Literal.{Literal, null, boolean, number, string}
use Rattle.table.specs.Expr.{Expr}
use Rattle.planner.specs.Plan.{plan}
use Rattle.value.specs.Value.{Value, literalᵛ, arrayᵛ, objectᵛ, Values, noneᵛ, itemᵛ, ValueFields, doneᵛ, fieldᵛ, Same}
use Rattle.matching.specs.Matching.{Env, MatchOutcome, matched, missed, fault, Filling, SameBlanks, start, Planned, Makes, run}
use Rattle.tolerance.specs.Tolerance.{Number, num, Ranges, chosen, chosen_env, Choice, Answer, always, never, outcome_under, Matches, Means}

-- the plan of a pattern from no names, carried out
abbrev pub carry : (ℕ → Bool) → Expr → Value → Env → MatchOutcome
carry unbound e = run (plan unbound e [])

module _ (unbound : ℕ → Bool) (listed : Env) (e : Expr) (v : Value) (r : Ranges Number) where
  abbrev pub ChoiceOf : Type 0
  ChoiceOf = Choice v (start unbound listed) r

  abbrev pub MatchesOf : ChoiceOf → Type 0
  MatchesOf = Matches (carry unbound e) v (start unbound listed) r

  -- a filling makes pattern and chosen value equal; known names keep their listed values, under the choice
  abbrev pub MakesUnder : ChoiceOf → Filling e → Type 0
  MakesUnder c f = Makes unbound (chosen_env c.chose listed) e (chosen c.chose v) f

  -- Demand 3 of an answer and of the names' values afterwards: of each choice; its setting of names only where the answer is always.
  pub record Promised (a : Answer) (after : Env) : Type 0 where
    pub means : Means (carry unbound e) v (start unbound listed) r a
    pub no_fault_lem : (c : ChoiceOf) → ¬ (outcome_under (carry unbound e) v (start unbound listed) c.chose ≡ fault)
    pub if_matched : (c : ChoiceOf) → MatchesOf c → (f : Filling e) × MakesUnder c f
    pub if_made : (c : ChoiceOf) (f : Filling e) → MakesUnder c f → MatchesOf c
    -- each planned name is set to a part of the value that, under each choice, is equal to the name's value in any such filling
    pub sets : a ≡ always → (x : ℕ) → Planned unbound e x
        → (w : Value) × (after x ≡ some w) × ((c : ChoiceOf) (f : Filling e) → MakesUnder c f → Same (chosen c.chose w) (f.names x).value)
    pub keeps : (x : ℕ) → ¬ Planned unbound e x → after x ≡ start unbound listed x
    pub unset : ¬ (a ≡ always) → (x : ℕ) → after x ≡ start unbound listed x
    pub only_names : (c : ChoiceOf) (f g : Filling e) → MakesUnder c f → MakesUnder c g → (x : ℕ) → Planned unbound e x → Same (f.names x).value (g.names x).value
    pub only_blanks : (c : ChoiceOf) (f g : Filling e) → MakesUnder c f → MakesUnder c g → SameBlanks e f.blanks g.blanks

-- Both ends are the node's own number everywhere.
abbrev pub IsOwn : Number → Literal → Type 0
IsOwn m null = Unit {0}
IsOwn m (boolean b) = Unit {0}
IsOwn m (number s k) = m ≡ num s k
IsOwn m (string bs) = Unit {0}

abbrev mutual
  pub Own : (ℕ → Number) → Value → Type 0
  Own c (literalᵛ n l) = IsOwn (c n) l
  Own c (arrayᵛ n vs) = OwnAll c vs
  Own c (objectᵛ n fs) = OwnFields c fs

  pub OwnAll : (ℕ → Number) → Values → Type 0
  OwnAll c noneᵛ = Unit {0}
  OwnAll c (itemᵛ v vs) = Own c v × OwnAll c vs

  pub OwnFields : (ℕ → Number) → ValueFields → Type 0
  OwnFields c doneᵛ = Unit {0}
  OwnFields c (fieldᵛ k v fs) = Own c v × OwnFields c fs

pub record Exact (unbound : ℕ → Bool) (listed : Env) (v : Value) (r : Ranges Number) : Type 0 where
  pub lowest_value : Own r.lowest v
  pub highest_value : Own r.highest v
  pub lowest_names : (x : ℕ) (w : Value) → start unbound listed x ≡ some w → Own r.lowest w
  pub highest_names : (x : ℕ) (w : Value) → start unbound listed x ≡ some w → Own r.highest w

-- the answer where every number is exact: never for no match
abbrev pub exact_answer : MatchOutcome → Answer
exact_answer (matched env) = always
exact_answer missed = never
exact_answer fault = never
