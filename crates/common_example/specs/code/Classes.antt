-- Classes of places in an array: at each place's number the number of the place that names its class.
use Rattle.std.specs.Prelude.{ℕ, zero, suc, ◌+◌, ◌*◌, ◌≤◌, ◌<◌, Bool, true, false, cond, List, [], ◌∷◌, ◌≡◌, eqb, length, get_or}
use Rattle.std.proofs.Math.Option.{Option, none, some}
use Rattle.literal.specs.Literal.{Literal}
use Rattle.common_example.specs.Unify.{no_pair_lem, meet_items, meet_fields, meet, Closing, closed, conflict, unfinished, join_pair, join_met, meet_at, round, count_where, close}
use Rattle.common_example.specs.code.Graph.{kind_at, items_at, keyed_at, head_at, Told, Linked}

-- a number outside the array is its own class
abbrev pub class_in : List ℕ → ℕ → ℕ
class_in classes i = get_or classes i i

pub record ClassesOk (classes : List ℕ) : Type 0 where
  pub long : length classes ≡ 2052
  pub each : (i : ℕ) → i < 2052 → get_or classes i 0 < 2052

pub record ClassAsks (classes : List ℕ) (p : ℕ) : Type 0 where
  pub ok : ClassesOk classes
  pub inside : p < 2052

pub record ClassIs (classes : List ℕ) (p r : ℕ) : Type 0 where
  pub class : r ≡ class_in classes p
  pub inside : r < 2052

-- class `from` goes into class `to`
abbrev pub class_after : ℕ → ℕ → ℕ → ℕ
class_after from to class = cond (eqb class from) to class

abbrev pub joined_in : List ℕ → ℕ → ℕ → ℕ → ℕ
joined_in classes from to i = class_after from to (get_or classes i 0)

pub record PairAsks (heads classes : List ℕ) (a b : ℕ) : Type 0 where
  pub kinds : (p : ℕ) → kind_at heads p ≤ 3
  pub first : a < 2052
  pub second : b < 2052
  pub ok : ClassesOk classes

-- whatever the literals and the links
pub record PairJoined (heads before : List ℕ) (a b : ℕ) (after : List ℕ) : Type 0 where
  pub classes : (literal_of : ℕ → Literal) (links : List ℕ) → class_in after ≡ join_pair eqb (head_at literal_of heads links) a b (class_in before)
  pub ok : ClassesOk after

-- what a test with its joins comes to: the classes, or none
abbrev pub classes_if : Bool → List ℕ → Option (ℕ → ℕ)
classes_if true classes = some (class_in classes)
classes_if false classes = none

-- k items, or k fields, from links `at` and `from` on
pub record LinksAsks (step : ℕ) (heads links classes : List ℕ) (at from k : ℕ) : Type 0 where
  pub linked : Linked heads links
  pub first : at + k * step < 2052
  pub second : from + k * step < 2052
  pub ok : ClassesOk classes

pub record ItemsJoined (heads links before : List ℕ) (at from k : ℕ) (after : List ℕ) : Type 0 where
  pub classes : (literal_of : ℕ → Literal)
      → some (class_in after) ≡ join_met eqb (head_at literal_of heads links) (meet_items (items_at links at k) (items_at links from k) no_pair_lem) (class_in before)
  pub ok : ClassesOk after

-- the keys of k fields are literals' nodes
pub record KeysTold (literal_of : ℕ → Literal) (heads links : List ℕ) (at from k : ℕ) : Type 0 where
  pub told : Told literal_of heads links
  pub first : (i : ℕ) → i < k → told.is_node (get_or links (at + i * 8 + 2) 0) ≡ true
  pub second : (i : ℕ) → i < k → told.is_node (get_or links (from + i * 8 + 2) 0) ≡ true

pub record FieldsJoined (heads links before : List ℕ) (at from k : ℕ) (after : List ℕ) (r : Bool) : Type 0 where
  pub classes : (literal_of : ℕ → Literal) → KeysTold literal_of heads links at from k
      → classes_if r after ≡ join_met eqb (head_at literal_of heads links) (meet_fields (keyed_at literal_of links at k) (keyed_at literal_of links from k) no_pair_lem) (class_in before)
  pub ok : ClassesOk after

-- two places of which the same kind of thing is known
pub record HeadsAsks (kind : ℕ) (heads links classes : List ℕ) (q p : ℕ) : Type 0 where
  pub linked : Linked heads links
  pub class : q < 2052
  pub inside : p < 2052
  pub ok : ClassesOk classes
  pub class_kind : kind_at heads q ≡ kind
  pub own_kind : kind_at heads p ≡ kind

pub record KindAsks (kind : ℕ) (heads links classes : List ℕ) (q p : ℕ) : Type 0 where
  pub asks : HeadsAsks kind heads links classes q p
  pub known : kind ≡ 0 → ⊥

pub record HeadsMet (heads links before : List ℕ) (q p : ℕ) (after : List ℕ) (r : Bool) : Type 0 where
  pub classes : (literal_of : ℕ → Literal) → Told literal_of heads links
      → classes_if r after ≡ join_met eqb (head_at literal_of heads links) (meet (head_at literal_of heads links q) (head_at literal_of heads links p) no_pair_lem) (class_in before)
  pub ok : ClassesOk after

pub record MeetAsks (heads links classes : List ℕ) (p : ℕ) : Type 0 where
  pub linked : Linked heads links
  pub inside : p < 2052
  pub ok : ClassesOk classes

pub record Met (heads links before : List ℕ) (p : ℕ) (after : List ℕ) (r : Bool) : Type 0 where
  pub classes : (literal_of : ℕ → Literal) → Told literal_of heads links → classes_if r after ≡ meet_at eqb (head_at literal_of heads links) p (class_in before)
  pub ok : ClassesOk after

-- k numbers, falling, the last of them 4
unfoldable pub falling : ℕ → List ℕ
falling zero = []
falling (suc k) = (k + 4) ∷ falling k

pub record RoundAsks (heads links classes : List ℕ) : Type 0 where
  pub linked : Linked heads links
  pub ok : ClassesOk classes

pub record RoundDone (heads links before after : List ℕ) (r : Bool) : Type 0 where
  pub classes : (literal_of : ℕ → Literal) → Told literal_of heads links → classes_if r after ≡ round eqb (head_at literal_of heads links) (falling 2048) (class_in before)
  pub ok : ClassesOk after

unfoldable pub class_count_in : List ℕ → ℕ → ℕ
class_count_in classes k = count_where (λ p. eqb (class_in classes p) p) (falling k)

abbrev pub classes_of : Closing ℕ → Option (ℕ → ℕ)
classes_of (closed c) = some c
classes_of conflict = none
classes_of unfinished = none

pub record CloseDone (heads links before after : List ℕ) (r : Bool) : Type 0 where
  pub classes : (literal_of : ℕ → Literal) → Told literal_of heads links → classes_if r after ≡ classes_of (close eqb (head_at literal_of heads links) (falling 2048) 2049 (class_in before))
  pub ok : ClassesOk after
