-- The values of names: at the start, after a match, and whether each that is needed is there.
use Prim.Native.Nat.{ℕ, zero, suc, ◌+◌, ◌-◌, ◌/◌, ◌≤◌, ◌<◌}
use mathlib.Core.Path.{◌≡◌, refl, sym, ap, ap₂, ◌∙◌}
use mathlib.Core.List.{List, []}
use mathlib.Core.Bool.{Bool, true, false, cond, ◌&&◌, ◌||◌, not}
use native.Mathlib.Omega.{arith}
use borrow.Author.Tests.{eq-eqb, ne_eqb, not-true, not-false}
use lib.Dec.{eqb}
use lib.ListN.{length, get_or, set, replicate}
use Rattle.scope.specs.declared.Scope.{Scope}
use Rattle.scope.specs.declared.ScopingMode.{ScopingMode}
use Rattle.scope.specs.declared.NameOutside.{NameOutside}
use Rattle.std.specs.Prelude.{Result}
use Rattle.std.specs.Result.{result_unwrap_or}
use Rattle.scope.specs.Scope.{is_unbound, asked, question_of, known}
use Rattle.table.specs.declared.NameClass.{NameClass}
use Rattle.table.specs.declared.NameClass.TheVariants.{Underscore, InputOrData, Ordinary}
use Rattle.table.specs.Tables.{Tables, tables, name_count, name_bytes}
use Rattle.table.specs.Names.{class_of}
use Rattle.table.specs.Decode.{expr, is_wildcard}
use Rattle.base.specs.Lists.{all_from}
use Rattle.table.proofs.tests.Scan.{Scan, scan_start, scan_on, scan_fails, scan_ends}
use Rattle.planner.specs.Names.{state_by}
use Rattle.planner.specs.code.Post.{NameNumber}
use Rattle.planner.specs.Simple.{mentions}
use Rattle.planner.proofs.laws.States.{name_reply}
use Rattle.planner.proofs.laws.SamePlan.{class_wild}
use Rattle.report.proofs.Meeting.{mentions_met, met_at}
use Rattle.value.proofs.Changing.{Changing, changing_zeros, changing_on}
use Rattle.value.proofs.Keys.{true_is}
use Rattle.report.specs.code.Post.{met_words}
use Rattle.run.specs.Operations.{listed_node, known_listed}
use Rattle.run.proofs.Known.{known_is}
use Rattle.run.specs.code.NamesPost.{ListAsks, StartOf, NamesSet, has_value, all_have_values, KnownAsks}

-- `_` by its bytes
module _ (names text : List ℕ) (x : ℕ) {class : NameClass} (of : class ≡ class_of (name_bytes names text x)) where
  told_wild : {w : Bool} → eqb (state_by class false) 2 ≡ w → w ≡ is_wildcard (tables [] [] [] names [] text) x
  told_wild e = sym e ∙ (ap (λ (d : NameClass). eqb (state_by d false) 2) of ∙ class_wild (name_bytes names text x) false)

  pub told_underscore : class ≡ Underscore → true ≡ is_wildcard (tables [] [] [] names [] text) x
  told_underscore e = told_wild (simp e)

  pub told_reserved : class ≡ InputOrData → false ≡ is_wildcard (tables [] [] [] names [] text) x
  told_reserved e = told_wild (simp e)

  pub told_ordinary : class ≡ Ordinary → false ≡ is_wildcard (tables [] [] [] names [] text) x
  told_ordinary e = told_wild (simp e)

-- what a scope says of a name
pub unbound_reply : (x : ℕ) (u : Bool) → NameNumber x → (r : Result Bool NameOutside) → question_of r ≡ asked x u → {b : Bool} → b ≡ result_unwrap_or r false → b ≡ u
unbound_reply x u v r is e = e ∙ name_reply x u v r is

pub starts_none : (u : Bool) (listed : ℕ) {r : Bool} → r ≡ u → r ≡ true → 0 ≡ cond u 0 listed
starts_none u listed is t = let e : u ≡ true = sym is ∙ t in rw e

pub starts_listed : (u : Bool) (listed : ℕ) {r : Bool} → r ≡ u → r ≡ false → listed ≡ cond u 0 listed
starts_listed u listed is t = let e : u ≡ false = sym is ∙ t in rw e

pub old_value : (binder old new : ℕ) → binder ≡ 0 → old ≡ cond (eqb binder 0) old new
old_value binder old new z = let e = eq-eqb binder 0 z in rw e

pub set_value : (binder old new : ℕ) → (binder ≡ 0 → ⊥) → new ≡ cond (eqb binder 0) old new
set_value binder old new nz = let e = ne_eqb binder 0 nz in rw e

-- the values at the start
pub record Starting (names : List ℕ) (s : Scope) (mode : ScopingMode) (values : List ℕ) (count i : ℕ) (list : List ℕ) : Type 0 where
  pub asks : ListAsks names values
  pub counted : count ≡ length names / 2
  pub inside : i ≤ count
  pub going : Changing (λ k. cond (is_unbound s mode (k + 1)) 0 (get_or values k 0)) (λ k. 0) 128 i list

pub starting : {names : List ℕ} (s : Scope) (mode : ScopingMode) {values : List ℕ} {count : ℕ} → ListAsks names values → count ≡ length names / 2 → Starting names s mode values count 0 (replicate 128 0)
starting {names} s mode {values} a is = record { asks = a; counted = is; inside = omega arith; going = changing_zeros (λ k. cond (is_unbound s mode (k + 1)) 0 (get_or values k 0)) 128 }

module _ {names : List ℕ} {s : Scope} {mode : ScopingMode} {values : List ℕ} {count i : ℕ} {list : List ℕ} (go : Starting names s mode values count i list) where
  module _ (more : i < count) where
    pub starting_name : NameNumber (i + 1)
    starting_name = let few = go.asks.few in let e = go.counted in record { low = omega arith; high = omega arith }

    pub starting_small : i < 128
    starting_small = let few = go.asks.few in let e = go.counted in omega arith

    pub starting_listed : i < length values
    starting_listed = let l = go.asks.long in let e = go.counted in omega arith

    pub starting_on : {v : ℕ} → v ≡ cond (is_unbound s mode (i + 1)) 0 (get_or values i 0) → Starting names s mode values count (i + 1) (set list i v)
    starting_on e = record { asks = go.asks; counted = go.counted; inside = omega arith; going = changing_on go.going starting_small e }

  pub starting_ends : count ≤ i → StartOf (length names / 2) s mode values list
  starting_ends le = record {
    long = go.going.long;
    each = λ x low high.
        let c = go.counted in
        let e : x - 1 + 1 ≡ x = omega arith in
        go.going.each (x - 1) (omega arith) ∙ ap (λ (y : ℕ). cond (is_unbound s mode y) 0 (get_or values (x - 1) 0)) e;
    rest = λ k h. let c = go.counted in let n = go.inside in go.going.rest k (omega arith);
  }

-- the values after a match
pub record Setting (names binders list before : List ℕ) (count i : ℕ) (here : List ℕ) : Type 0 where
  pub asks : ListAsks names before
  pub counted : count ≡ length names / 2
  pub inside : i ≤ count
  pub going : Changing (λ k. cond (eqb (get_or binders k 0) 0) (get_or before k 0) (get_or list k 0)) (λ k. get_or before k 0) (length before) i here

pub setting_start : {names : List ℕ} (binders list : List ℕ) {before : List ℕ} {count : ℕ} → ListAsks names before → count ≡ length names / 2 → Setting names binders list before count 0 before
setting_start binders list a is = record { asks = a; counted = is; inside = omega arith; going = record { long = refl; each = λ k lt. absurd (omega arith); rest = λ k le. refl } }

module _ {names binders list before : List ℕ} {count i : ℕ} {here : List ℕ} (go : Setting names binders list before count i here) where
  module _ (more : i < count) where
    pub setting_small : i < 128
    setting_small = let few = go.asks.few in let e = go.counted in omega arith

    pub setting_inside : i < length here
    setting_inside = let l = go.asks.long in let e = go.counted in let long = go.going.long in omega arith

    pub setting_on : {v : ℕ} → v ≡ cond (eqb (get_or binders i 0) 0) (get_or here i 0) (get_or list i 0) → Setting names binders list before count (i + 1) (set here i v)
    setting_on e =
        let l = go.asks.long in
        let c = go.counted in
        let old = go.going.rest i (omega arith) in
        record { asks = go.asks; counted = go.counted; inside = omega arith; going = changing_on go.going (omega arith) (rw old at e) }

  pub setting_long : length here ≡ length before
  setting_long = go.going.long

  pub setting_ends : count ≤ i → NamesSet (length names / 2) binders list before here
  setting_ends le = record {
    long = go.going.long;
    each = λ k lt. let c = go.counted in go.going.each k (omega arith);
    rest = λ k h. let c = go.counted in let n = go.inside in go.going.rest k (omega arith);
  }

-- a name that is met has a value unless it is unbound
module _ (unbound : ℕ → Bool) (x met listed : ℕ) where
  pub value_unmet : met ≡ 0 → true ≡ has_value unbound x met listed
  value_unmet z = let e = eq-eqb met 0 z in rw e

  pub value_unbound : {r : Bool} → (met ≡ 0 → ⊥) → listed ≡ 0 → r ≡ unbound x → r ≡ has_value unbound x met listed
  value_unbound nz z is = let e = ne_eqb met 0 nz in let f = eq-eqb listed 0 z in rw (e, f) is

  pub value_listed : (met ≡ 0 → ⊥) → (listed ≡ 0 → ⊥) → true ≡ has_value unbound x met listed
  value_listed nz nl = let e = ne_eqb met 0 nz in let f = ne_eqb listed 0 nl in rw (e, f)

-- all names in turn; p of the names' numbers
pub record Naming (names values : List ℕ) (p : ℕ → Bool) (count i : ℕ) : Type 0 where
  pub asks : ListAsks names values
  pub counted : count ≡ length names / 2
  pub scan : Scan p 1 count i

pub naming_start : {names values : List ℕ} (p : ℕ → Bool) {count : ℕ} → ListAsks names values → count ≡ length names / 2 → Naming names values p count 0
naming_start p {count} a is = record { asks = a; counted = is; scan = scan_start p 1 count }

module _ {names values : List ℕ} {p : ℕ → Bool} {count i : ℕ} (go : Naming names values p count i) where
  module _ (more : i < count) where
    pub naming_name : NameNumber (i + 1)
    naming_name = let few = go.asks.few in let e = go.counted in record { low = omega arith; high = omega arith }

    pub naming_small : i < 128
    naming_small = let few = go.asks.few in let e = go.counted in omega arith

    pub naming_listed : i < length values
    naming_listed = let l = go.asks.long in let e = go.counted in omega arith

    module _ {r : Bool} (is : r ≡ p (i + 1)) where
      next_name : p (1 + i) ≡ r
      next_name = let e : 1 + i ≡ i + 1 = omega arith in ap p e ∙ sym is

      pub naming_on : not r ≡ false → Naming names values p count (i + 1)
      naming_on t = record { asks = go.asks; counted = go.counted; scan = scan_on go.scan more (next_name ∙ not-false r t) }

      pub naming_fails : not r ≡ true → false ≡ all_from p 1 (length names / 2)
      naming_fails t = rw go.counted at (scan_fails go.scan more (next_name ∙ not-true r t))

  pub naming_ends : count ≤ i → true ≡ all_from p 1 (length names / 2)
  naming_ends le = rw go.counted at (scan_ends go.scan le)

all_same : (p q : ℕ → Bool) (from k : ℕ) → ((j : ℕ) → from ≤ j → j < from + k → p j ≡ q j) → all_from p from k ≡ all_from q from k
unfolding all_from
all_same p q from zero same = refl
all_same p q from (suc k) same = ap₂ (λ (a b : Bool). a && b) (same from (omega arith) (omega arith)) (all_same p q (from + 1) k (λ j le lt. same j (omega arith) (omega arith)))

-- the known names of a simple pattern
pub known_told : (T : Tables) (s : Scope) (mode : ScopingMode) (pattern : ℕ) (values : List ℕ) {met : List ℕ} {r : Bool} → KnownAsks T s pattern values → met ≡ met_words (expr T pattern)
    → r ≡ all_have_values (length T.names / 2) (is_unbound s mode) met values → r ≡ known_listed T (known s mode) (expr T pattern) values
unfolding all_have_values known_listed
known_told T s mode pattern values {met} {r} a m e =
    e ∙ all_same (λ x. has_value (is_unbound s mode) x (get_or met (x - 1) 0) (get_or values (x - 1) 0)) (λ x. not (mentions x (expr T pattern) && known s mode x) || not (eqb (listed_node values x) 0)) 1 (name_count T) (λ x low lt.
    let few = a.list_ok.few in
    let w : mentions x (expr T pattern) ≡ not (eqb (get_or met (x - 1) 0) 0) = mentions_met x (expr T pattern) a.is_simple ∙ met_at (expr T pattern) m x (record { low = low; high = omega arith }) in
    sym (at x (mentions x (expr T pattern)) refl ∙ (ap (λ (b : Bool). not (b && not (is_unbound s mode x)) || not (eqb (listed_node values x) 0)) w ∙ shuffle (eqb (get_or met (x - 1) 0) 0) (is_unbound s mode x) (eqb (get_or values (x - 1) 0) 0))))
  where
    at : (x : ℕ) (b : Bool) → mentions x (expr T pattern) ≡ b → (not (mentions x (expr T pattern) && known s mode x) || not (eqb (listed_node values x) 0)) ≡ (not (mentions x (expr T pattern) && not (is_unbound s mode x)) || not (eqb (listed_node values x) 0))
    at x true p = ap (λ (k : Bool). not (mentions x (expr T pattern) && k) || not (eqb (listed_node values x) 0)) (known_is T s mode a.sound pattern a.good.node x (true_is p))
    at x false p = rw p

    shuffle : (m u l : Bool) → (not (not m && not u) || not l) ≡ (m || (not l || u))
    shuffle true u l = refl
    shuffle false true true = refl
    shuffle false true false = refl
    shuffle false false true = refl
    shuffle false false false = refl

-- every name that is met, in turn
pub record Having (names values met : List ℕ) (unbound : ℕ → Bool) (count i : ℕ) : Type 0 where
  pub naming : Naming names values (λ x. has_value unbound x (get_or met (x - 1) 0) (get_or values (x - 1) 0)) count i

pub having_start : {names values : List ℕ} (met : List ℕ) (unbound : ℕ → Bool) {count : ℕ} → ListAsks names values → count ≡ length names / 2 → Having names values met unbound count 0
having_start {names} {values} met unbound a is = record { naming = naming_start (λ x. has_value unbound x (get_or met (x - 1) 0) (get_or values (x - 1) 0)) a is }

module _ {names values met : List ℕ} {unbound : ℕ → Bool} {count i : ℕ} (go : Having names values met unbound count i) where
  module _ (more : i < count) where
    pub having_name : NameNumber (i + 1)
    having_name = naming_name go.naming more

    pub having_small : i < 128
    having_small = naming_small go.naming more

    pub having_listed : i < length values
    having_listed = naming_listed go.naming more

    module _ {r : Bool} (is : r ≡ has_value unbound (i + 1) (get_or met i 0) (get_or values i 0)) where
      at_name : r ≡ has_value unbound (i + 1) (get_or met (i + 1 - 1) 0) (get_or values (i + 1 - 1) 0)
      at_name = let e : i + 1 - 1 ≡ i = omega arith in rw e is

      pub having_on : not r ≡ false → Having names values met unbound count (i + 1)
      having_on t = record { naming = naming_on go.naming more at_name t }

      pub having_fails : not r ≡ true → false ≡ all_have_values (length names / 2) unbound met values
      unfolding all_have_values
      having_fails t = naming_fails go.naming more at_name t

  pub having_ends : count ≤ i → true ≡ all_have_values (length names / 2) unbound met values
  unfolding all_have_values
  having_ends le = naming_ends go.naming le
