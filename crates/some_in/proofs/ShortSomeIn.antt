-- Every number of an outcome of `some .. in` has at most six digits.
use Prim.Native.Nat.{ℕ, ◌≤◌}
use mathlib.Core.Path.{◌≡◌, refl}
use mathlib.Core.Bool.{Bool, true, false, cond, ◌||◌}
use mathlib.Core.List.{[], ◌∷◌, ◌++◌}
use native.Mathlib.Omega.{arith}
use lib.Dec.{eqb}
use lib.ListN.{length, length-append}
use Rattle.scope.specs.declared.Scope.{Scope}
use Rattle.scope.specs.declared.ScopingMode.TheVariants.{RespectParent}
use Rattle.table.specs.Tables.{Tables, is_node}
use Rattle.table.specs.Check.{all_nodes}
use Rattle.table.specs.Decode.{expr}
use Rattle.table.specs.Expr.{Expr, literal, name, wildcard, array, set, object, other, Exprs, none, item, parts, parts_all}
use Rattle.table.specs.code.Sound.{WellFormed}
use Rattle.table.proofs.tests.Bools.{and_true}
use Rattle.planner.specs.Layout.{top, entries}
use Rattle.planner.specs.Operations.{planned, plan_of, validated}
use Rattle.planner.specs.Short.{ShortEntry, Every, ShortOutcome}
use Rattle.planner.proofs.laws.ShortPlans.{Small, SmallTree, small_left, small_right, small_tail, every_append}
use Rattle.planner.proofs.laws.ShortOutcomes.{planned_short, unless_short, checked_short, root_small, entries_few, entries_short, validated_low}
use Rattle.checks.specs.declared.LiteralStructureCheck.TheVariants.{Match}
use Rattle.checks.specs.declared.Reading.{Reading}
use Rattle.checks.specs.Joining.{is_mismatch}
use Rattle.checks.specs.Structure.{structure}
use Rattle.checks.specs.Refusals.{unless_mismatch}
use Rattle.checks.proofs.ShortChecks.{ShortCheck, mismatch_short, structure_short}
use Rattle.some_in.specs.SomeIn.{any_fits, first_mismatch, collection_structure, key_check, key_entries, key_form, roots, value_planned, some_in_planned, some_in_outcome}

-- the collection held against the value's pattern
module _ (r : Reading) (pattern : Expr) (small : SmallTree pattern) where
  first_short : (es : Exprs) → Small (parts_all es) → ShortCheck (first_mismatch r es pattern)
  unfolding first_mismatch parts
  first_short none s = tt
  first_short (item e es) s = go (is_mismatch (structure r e pattern)) (structure_short r e pattern (small_left (parts e) (parts_all es) s) small) (first_short es (small_right (parts e) (parts_all es) s))
    where
      go : (b : Bool) → ShortCheck (structure r e pattern) → ShortCheck (first_mismatch r es pattern) → ShortCheck (cond b (structure r e pattern) (first_mismatch r es pattern))
      go true p q = p
      go false p q = q

  collection_short : (e : Expr) → SmallTree e → ShortCheck (collection_structure r e pattern)
  unfolding collection_structure parts
  collection_short (literal n l) s = tt
  collection_short (name n x) s = tt
  collection_short (wildcard n) s = tt
  collection_short (array n es) s = go (any_fits r es pattern) (first_short es (small_tail n (parts_all es) s))
    where
      go : (b : Bool) → ShortCheck (first_mismatch r es pattern) → ShortCheck (cond b Match (first_mismatch r es pattern))
      go true p = tt
      go false p = p
  collection_short (set n es) s = tt
  collection_short (object n fs) s = tt
  collection_short (other n) s = tt

form_low : (key : ℕ) → key_form key ≤ 6
form_low key = go (eqb key 0)
  where
    go : (b : Bool) → cond b 0 1 ≤ 6
    go true = omega arith
    go false = omega arith

module _ (T : Tables) (s : Scope) (w : WellFormed T) (key : ℕ) (given : (eqb key 0 || is_node T key) ≡ true) where
  key_low : key_check T s key ≤ 512
  key_low = go (eqb key 0) given
    where
      go : (b : Bool) → (b || is_node T key) ≡ true → cond b 0 (validated T s RespectParent key) ≤ 512
      go true i = omega arith
      go false i = validated_low T s RespectParent key (root_small T w key i)

  key_few : length (key_entries T s key) ≤ 512
  key_few = go (eqb key 0) given
    where
      go : (b : Bool) → (b || is_node T key) ≡ true → length (cond b [] (entries (plan_of T s RespectParent key) top)) ≤ 512
      go true i = omega arith
      go false i = entries_few T s RespectParent key (root_small T w key i)

  key_short : Every ShortEntry (key_entries T s key)
  key_short = go (eqb key 0) given
    where
      go : (b : Bool) → (b || is_node T key) ≡ true → Every ShortEntry (cond b [] (entries (plan_of T s RespectParent key) top))
      go true i = tt
      go false i = entries_short T s RespectParent key (root_small T w key i)

  planned_in_short : (value collection : ℕ) (r : Reading) → is_node T value ≡ true → is_node T collection ≡ true → ShortOutcome (some_in_planned T s value collection key r)
  planned_in_short value collection r v c =
      let small = root_small T w value v in
      let es = entries (plan_of T s RespectParent value) top in
      let few : length es ≤ 512 = entries_few T s RespectParent value small in
      let keys = key_few in
      let all = length-append (key_entries T s key) es in
      unless_short (key_check T s key) (value_planned T s value collection (key_form key) r (key_entries T s key)) key_low
      (unless_short (validated T s RespectParent value) (unless_mismatch (collection_structure r (expr T collection) (expr T value)) (planned (key_form key) 0 (key_entries T s key ++ es))) (validated_low T s RespectParent value small)
      (mismatch_short (collection_structure r (expr T collection) (expr T value)) (planned (key_form key) 0 (key_entries T s key ++ es))
      (collection_short r (expr T value) small (expr T collection) (root_small T w collection c))
      (planned_short (key_form key) 0 (key_entries T s key ++ es) (form_low key) (omega arith) (omega arith)
      (every_append ShortEntry (key_entries T s key) es key_short (entries_short T s RespectParent value small)))))

key_given : (T : Tables) (key : ℕ) (b : Bool) → all_nodes T (cond b [] (key ∷ [])) ≡ true → (b || is_node T key) ≡ true
key_given T key true i = refl
key_given T key false i = (and_true (is_node T key) _ i).0

pub some_in_short : (T : Tables) (s : Scope) (value collection key : ℕ) (r : Reading) → ShortOutcome (some_in_outcome T s value collection key r)
some_in_short T s value collection key r =
    checked_short T s (roots value collection key) (some_in_planned T s value collection key r)
    (λ w all.
    let a = and_true (is_node T value) _ all in
    let b = and_true (is_node T collection) _ a.1 in
    planned_in_short T s w key (key_given T key (eqb key 0) b.1) value collection r a.0 b.0)
