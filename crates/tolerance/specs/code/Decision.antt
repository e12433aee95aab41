-- How the answer is decided: one walk over the plan collects the equalities between numbers that a match asks for, whatever is chosen.
use Rattle.std.specs.Prelude.{ℕ, Bool, true, false, cond, ◌&&◌, List, [], ◌∷◌, ◌++◌}
use Rattle.std.proofs.Math.Option.{Option, none, some}
use Rattle.literal.specs.Literal.{Literal, null, boolean, number, string}
use Rattle.planner.specs.Plan.{DestructuringPlan, var, ignore, equality_expr, equality_value, array_plan, object_plan, Plans, no_plan, item_plan, FieldPlans, no_field, field_plan, plan}
use Rattle.scope.specs.declared.Scope.{Scope}
use Rattle.scope.specs.declared.ScopingMode.{ScopingMode}
use Rattle.scope.specs.Scope.{is_unbound}
use Rattle.table.specs.Tables.{Tables}
use Rattle.table.specs.Decode.{expr}
use Rattle.planner.specs.Layout.{literal_key}
use Rattle.planner.specs.Simple.{same_key}
use Rattle.table.specs.Expr.{Expr}
use Rattle.value.specs.Value.{Value, literalᵛ, arrayᵛ, objectᵛ, Values, noneᵛ, itemᵛ, ValueFields, doneᵛ, fieldᵛ, keysᵛ, same_key_sets, under, value_of}
use Rattle.matching.specs.Matching.{Env, MatchOutcome, matched, missed, fault, setting, provided, name_in, under_key, plan_keys, same_length, start}
use Rattle.tolerance.specs.code.Classes.{Equality, alike, equals, all_certain, unified, apart, is_some}
use Rattle.tolerance.specs.Operations.{listed_known, ranges_in}
use Rattle.tolerance.specs.Tolerance.{Ranges}
use Rattle.tolerance.specs.Tolerance.{Number, num, num_order, Answer, always, sometimes, never}

-- 1. What makes two values equal: equalities of numbers, and whether everything else is equal.
pub record Conditions : Type 0 where
  pub numbers : List (Equality Number)
  pub rest : Bool

abbrev pub only_rest : Bool → Conditions
only_rest b = record { numbers = []; rest = b }

abbrev pub together : Conditions → Conditions → Conditions
together a b = record { numbers = a.numbers ++ b.numbers; rest = a.rest && b.rest }

-- two literals; where both are numbers the equality q of the first one's number
abbrev pub literals_met : (Number → Equality Number) → Literal → Literal → Conditions
literals_met q (number s k) (number t j) = record { numbers = q (num s k) ∷ []; rest = true }
literals_met q (number s k) null = only_rest false
literals_met q (number s k) (boolean b) = only_rest false
literals_met q (number s k) (string bs) = only_rest false
literals_met q null l = only_rest (same_key null l)
literals_met q (boolean b) l = only_rest (same_key (boolean b) l)
literals_met q (string bs) l = only_rest (same_key (string bs) l)

abbrev pub literals_equal : ℕ → Literal → ℕ → Literal → Conditions
literals_equal n l m k = literals_met (λ c. alike n m) l k

abbrev pub found : (Value → Conditions) → Option Value → Conditions
found f none = only_rest false
found f (some w) = f w

unfoldable mutual
  pub equal_if : Value → Value → Conditions
  equal_if (literalᵛ n l) (literalᵛ m k) = literals_equal n l m k
  equal_if (literalᵛ n l) (arrayᵛ m ws) = only_rest false
  equal_if (literalᵛ n l) (objectᵛ m gs) = only_rest false
  equal_if (arrayᵛ n vs) (literalᵛ m k) = only_rest false
  equal_if (arrayᵛ n vs) (arrayᵛ m ws) = items_equal_if vs ws
  equal_if (arrayᵛ n vs) (objectᵛ m gs) = only_rest false
  equal_if (objectᵛ n fs) (literalᵛ m k) = only_rest false
  equal_if (objectᵛ n fs) (arrayᵛ m ws) = only_rest false
  equal_if (objectᵛ n fs) (objectᵛ m gs) = together (only_rest (same_key_sets (keysᵛ fs) (keysᵛ gs))) (fields_equal_if fs gs)

  pub items_equal_if : Values → Values → Conditions
  items_equal_if noneᵛ noneᵛ = only_rest true
  items_equal_if noneᵛ (itemᵛ w ws) = only_rest false
  items_equal_if (itemᵛ v vs) noneᵛ = only_rest false
  items_equal_if (itemᵛ v vs) (itemᵛ w ws) = together (equal_if v w) (items_equal_if vs ws)

  pub fields_equal_if : ValueFields → ValueFields → Conditions
  fields_equal_if doneᵛ gs = only_rest true
  fields_equal_if (fieldᵛ k v fs) gs = together (found (λ w. equal_if v w) (under k gs)) (fields_equal_if fs gs)

-- a literal and a value
abbrev pub literal_met : (ℕ → Number → Equality Number) → Literal → Value → Conditions
literal_met q l (literalᵛ m k) = literals_met (q m) l k
literal_met q l (arrayᵛ m vs) = only_rest false
literal_met q l (objectᵛ m fs) = only_rest false

-- a literal of the pattern, which keeps its own number, and a value
abbrev pub value_is : Literal → Value → Conditions
value_is l v = literal_met (λ m c. equals m c) l v

abbrev pub literal_is : Literal → ℕ → Literal → Conditions
literal_is l m k = literals_met (λ c. equals m c) l k

-- 2. The walk: the equalities met up to its end, and what it ends in if they all hold.
pub record Walk : Type 0 where
  pub numbers : List (Equality Number)
  pub end : MatchOutcome

abbrev pub ends : MatchOutcome → Walk
ends o = record { numbers = []; end = o }

abbrev pub compared_by : Conditions → Env → Walk
compared_by q env = record { numbers = q.numbers; end = provided q.rest (matched env) }

abbrev pub compared_with : Value → Env → Option Value → Walk
compared_with v env none = ends fault
compared_with v env (some u) = compared_by (equal_if u v) env

abbrev pub providing : Bool → Walk → Walk
providing true w = w
providing false w = ends missed

abbrev pub after : List (Equality Number) → Walk → Walk
after qs w = record { numbers = qs ++ w.numbers; end = w.end }

abbrev pub onwards : List (Equality Number) → MatchOutcome → (Env → Walk) → Walk
onwards qs (matched env) f = after qs (f env)
onwards qs missed f = record { numbers = qs; end = missed }
onwards qs fault f = record { numbers = qs; end = fault }

abbrev pub then_walk : Walk → (Env → Walk) → Walk
then_walk w f = onwards w.numbers w.end f

abbrev pub walk_at : Option Value → (Value → Walk) → Walk
walk_at none f = ends missed
walk_at (some v) f = f v

unfoldable mutual
  pub walk : DestructuringPlan → Value → Env → Walk
  walk (var n x) v env = ends (setting x v env (env x))
  walk (ignore n) v env = ends (matched env)
  walk (equality_expr e) v env = compared_with v env (name_in env e)
  walk (equality_value n l) v env = compared_by (value_is l v) env
  walk (array_plan n ps) (literalᵛ m k) env = ends missed
  walk (array_plan n ps) (arrayᵛ m vs) env = providing (same_length ps vs) (walk_items ps vs env)
  walk (array_plan n ps) (objectᵛ m gs) env = ends missed
  walk (object_plan n fs) (literalᵛ m k) env = ends missed
  walk (object_plan n fs) (arrayᵛ m vs) env = ends missed
  walk (object_plan n fs) (objectᵛ m gs) env = providing (same_key_sets (plan_keys fs) (keysᵛ gs)) (walk_fields fs gs env)

  pub walk_items : Plans → Values → Env → Walk
  walk_items no_plan vs env = ends (matched env)
  walk_items (item_plan p ps) noneᵛ env = ends missed
  walk_items (item_plan p ps) (itemᵛ v vs) env = then_walk (walk p v env) (λ env'. walk_items ps vs env')

  pub walk_fields : FieldPlans → ValueFields → Env → Walk
  walk_fields no_field gs env = ends (matched env)
  walk_fields (field_plan k p fs) gs env = walk_at (under_key (literal_key k) gs) (λ v. then_walk (walk p v env) (λ env'. walk_fields fs gs env'))

-- 3. The decision.
-- of the equalities that a match asks for
unfoldable pub decided : Ranges Number → List (Equality Number) → Answer
decided r qs = cond (all_certain num_order r qs) always (cond (is_some (unified num_order qs (apart num_order r))) sometimes never)

abbrev pub answer_at_end : Ranges Number → List (Equality Number) → MatchOutcome → Answer
answer_at_end r qs (matched env) = decided r qs
answer_at_end r qs missed = never
answer_at_end r qs fault = never

-- the names' values where the answer is always; else those of the start
abbrev pub set_where : Answer → MatchOutcome → Env → Env
set_where always (matched env) first = env
set_where always missed first = first
set_where always fault first = first
set_where sometimes o first = first
set_where never o first = first

module _ (unbound : ℕ → Bool) (listed : Env) (e : Expr) (v : Value) where
  abbrev pub walked : Walk
  walked = walk (plan unbound e []) v (start unbound listed)

  module _ (r : Ranges Number) where
    abbrev pub answer : Answer
    answer = answer_at_end r walked.numbers walked.end

    abbrev pub names_after : Env
    names_after = set_where answer walked.end (start unbound listed)

-- 4. 32 by a walk over the values: does p hold of every number node of a value?
abbrev pub holds_at : (ℕ → Bool) → ℕ → Literal → Bool
holds_at p n null = true
holds_at p n (boolean b) = true
holds_at p n (number sign size) = p n
holds_at p n (string bs) = true

module _ (p : ℕ → Bool) where
  unfoldable mutual
    pub every_number : Value → Bool
    every_number (literalᵛ n l) = holds_at p n l
    every_number (arrayᵛ n vs) = every_number_all vs
    every_number (objectᵛ n fs) = every_number_under fs

    pub every_number_all : Values → Bool
    every_number_all noneᵛ = true
    every_number_all (itemᵛ v vs) = every_number v && every_number_all vs

    pub every_number_under : ValueFields → Bool
    every_number_under doneᵛ = true
    every_number_under (fieldᵛ k v fs) = every_number v && every_number_under fs

  abbrev pub every_number_of : Option Value → Bool
  every_number_of none = true
  every_number_of (some v) = every_number v

-- 5. For tables
module _ (T : Tables) (s : Scope) (mode : ScopingMode) (pattern value : ℕ) (values lows highs : List ℕ) where
  abbrev pub decision : Answer
  decision = answer (is_unbound s mode) (listed_known T values) (expr T pattern) (value_of (expr T value)) (ranges_in lows highs)

  abbrev pub names : Env
  names = names_after (is_unbound s mode) (listed_known T values) (expr T pattern) (value_of (expr T value)) (ranges_in lows highs)
