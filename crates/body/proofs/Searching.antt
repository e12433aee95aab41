-- The search of a node, in the scope where what earlier pairs bind is bound.
use Prim.Native.Nat.{ℕ, zero, suc, ◌+◌, ◌-◌, ◌*◌, ◌≤◌, ◌<◌}
use mathlib.Core.Path.{◌≡◌, refl, ap, ◌∙◌}
use mathlib.Core.Bool.{Bool, true, false, cond, not, ◌&&◌, ◌||◌}
use mathlib.Core.List.{List, []}
use mathlib.Core.Option.{Option}
use native.Mathlib.Omega.{arith}
use native.Mathlib.Nat.{div-add-mod'}
use borrow.Author.Tests.{eq-eqb, ne_eqb, eqb-true, eqb-false, leb-true, leb-false, le-leb}
use lib.Dec.{eqb, leb}
use lib.ListN.{length}
use Rattle.base.specs.Lists.{elem}
use Rattle.base.specs.Refusal.{passed}
use Rattle.literal.specs.Literal.{Literal}
use Rattle.scope.specs.declared.Scope.{Scope}
use Rattle.scope.specs.declared.ScopingMode.TheVariants.{RespectParent}
use Rattle.scope.specs.Scope.{is_name, is_unbound, known}
use Rattle.table.specs.Tables.{Tables, kind_of, node_count, name_bytes}
use Rattle.table.specs.Decode.{expr, expr_at, headed, leaf_of, literal_at}
use Rattle.table.specs.Check.{checked}
use Rattle.table.specs.code.Sound.{Node, Named, WellFormed}
use Rattle.table.proofs.trees.Facts.{sound_table, no_underscore}
use Rattle.table.proofs.trees.Words.{word_none, word_past}
use Rattle.planner.specs.Names.{occurrences, first_node, states_of}
use Rattle.planner.specs.code.Post.{Walks}
use Rattle.planner.specs.code.Validation.{marked_in}
use Rattle.planner.proofs.laws.Names.{first_agree}
use Rattle.planner.proofs.laws.States.{states_each}
use Rattle.planner.proofs.laws.SamePlan.{class_unbound, states_wild}
use Rattle.body.specs.Ready.{side, not_ready, first_in, first_not_ready}
use Rattle.body.specs.Body.{bind_all}
use Rattle.body.specs.code.Post.{first_unknown, both_unknown}
use Rattle.body.proofs.Knowing.{known_after}

-- a literal or an unused number has no names
leaf_free : (n : ℕ) (o : Option Literal) → occurrences true true (leaf_of n o) ≡ []
unfolding occurrences
leaf_free n Option.none = refl
leaf_free n (Option.some l) = refl

pub no_names : (T : Tables) (n : ℕ) → kind_of T.nodes n ≤ 5 → occurrences true true (expr T n) ≡ []
unfolding expr expr_at headed occurrences
no_names T zero le = refl
no_names T (suc n) le =
    let six = ne_eqb (kind_of T.nodes (suc n)) 6 (λ e. omega arith) in
    let seven = ne_eqb (kind_of T.nodes (suc n)) 7 (λ e. omega arith) in
    let eight = ne_eqb (kind_of T.nodes (suc n)) 8 (λ e. omega arith) in
    let nine = ne_eqb (kind_of T.nodes (suc n)) 9 (λ e. omega arith) in
    rw (six, seven, eight, nine) (leaf_free (suc n) (literal_at T (suc n)))

-- any other number is a node's
pub node_above : (T : Tables) (n : ℕ) → WellFormed T → 5 < kind_of T.nodes n → Node T n
node_above T n w some = go (eqb n 0) refl (leb n (node_count T)) refl
  where
    go : (a : Bool) → eqb n 0 ≡ a → (b : Bool) → leb n (node_count T) ≡ b → Node T n
    go true p b q = let z = word_none 5 0 n T.nodes (eqb-true n 0 p) in absurd (omega arith)
    go false p true q = let z = eqb-false n 0 p in record { low = omega (arith, z); high = leb-true n (node_count T) q }
    go false p false q =
        let d = div-add-mod' (length T.nodes) 5 in
        let whole = w.whole in
        let above = leb-false n (node_count T) q in
        let past : length T.nodes ≤ (n - 1) * 5 + 0 = omega arith in
        let z = word_past 5 0 n T.nodes (eqb-false n 0 p) past in
        absurd (omega arith)

de_morgan : (k e : Bool) → (not (k || e) && true) ≡ (not k && not e)
de_morgan true e = refl
de_morgan false true = refl
de_morgan false false = refl

twice : (u : Bool) → u ≡ (not (not u) && true)
twice true = refl
twice false = refl

module _ (T : Tables) (s : Scope) (sound : checked T s ≡ passed) where
  w : WellFormed T
  w = (sound_table T s sound).well_formed_lem

  -- a name of the tables
  pub name_number : (x : ℕ) → Named T x → is_name x ≡ true
  unfolding is_name
  name_number x v =
      let few = w.limits.names in
      let l = v.low in
      let h = v.high in
      let a = le-leb 1 x l in
      let b = le-leb x 128 (omega arith) in
      rw (a, b) refl

  -- what the scope with the names of earlier pairs does not know is not ready
  pub first_bound : (n : ℕ) (earlier : List ℕ) → first_unknown T (bind_all s earlier) n ≡ first_in T s (side n earlier)
  unfolding elem first_node
  first_bound n earlier = go (leb (kind_of T.nodes n) 5) refl
    where
      go : (b : Bool) → leb (kind_of T.nodes n) 5 ≡ b → first_unknown T (bind_all s earlier) n ≡ first_in T s (side n earlier)
      go true p = let z = no_names T n (leb-true (kind_of T.nodes n) 5 p) in rw z refl
      go false p = first_agree true true T w n (node_above T n w (leb-false (kind_of T.nodes n) 5 p)) (not_ready (bind_all s earlier) []) (not_ready s earlier) (λ x v named.
          rw (known_after x (name_number x v) earlier s (no_underscore T s sound x v.low named)) (de_morgan (known s RespectParent x) (elem x earlier)))

  -- the code's search
  module _ (n : ℕ) {kind : ℕ} (is : kind ≡ kind_of T.nodes n) where
    pub unknown_none : kind ≤ 5 → 0 ≡ first_unknown T s n
    unfolding first_node
    unknown_none le = let z = no_names T n (rw is at le) in rw z refl

    module _ (some : 5 < kind) {states : List ℕ} (of : states ≡ states_of T.names T.text s RespectParent) where
      above : Node T n
      above = node_above T n w (rw is at some)

      pub ask_names : Walks T states n
      ask_names = record { table = w; states_ok = states_wild T s RespectParent states of w; node = above }

      pub unknown_found : {r : ℕ} → r ≡ first_node (marked_in states) (occurrences true true (expr T n)) → r ≡ first_unknown T s n
      unfolding known elem
      unknown_found e = e ∙ first_agree true true T w n above (marked_in states) (not_ready s []) (λ x v named.
          ap (λ (i : ℕ). eqb i 1) (states_each T.names T.text s RespectParent of w.limits.names x v.low v.high)
          ∙ (class_unbound (name_bytes T.names T.text x) (is_unbound s RespectParent x) named
          ∙ rw (no_underscore T s sound x v.low named) (twice (is_unbound s RespectParent x))))

-- one node after the other
module _ (T : Tables) (s : Scope) (first second : ℕ) {found : ℕ} (is : found ≡ first_unknown T s first) where
  pub both_first : (found ≡ 0 → ⊥) → found ≡ both_unknown T s first second
  unfolding first_not_ready
  both_first some = rw (← is, ne_eqb found 0 some) refl

  pub both_second : found ≡ 0 → {next : ℕ} → next ≡ first_unknown T s second → next ≡ both_unknown T s first second
  unfolding first_not_ready
  both_second none {next} e = rw (← is, eq-eqb found 0 none, ← e) (go (eqb next 0) refl)
    where
      go : (b : Bool) → eqb next 0 ≡ b → next ≡ cond b 0 next
      go true z = eqb-true next 0 z
      go false z = refl
