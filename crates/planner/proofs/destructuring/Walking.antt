-- Walks over a table: from a node to its children, and from child to child.
use Prim.Native.Nat.{ℕ, ◌+◌, ◌-◌, ◌*◌, ◌^◌, ◌<◌}
use mathlib.Core.Path.{◌≡◌, sym, ap, ◌∙◌}
use mathlib.Core.List.{List}
use native.Mathlib.Omega.{arith}
use native.Mathlib.Nat.{add-mul, one-mul}
use mir.Val.{Fits}
use mir.Syntax.{w64}
use Rattle.table.specs.Tables.{Tables, kind_of, first_word_of, count_of, width, child_at}
use Rattle.table.specs.code.Sound.{Node}
use Rattle.table.proofs.trees.Trees.{width_array, child_node}
use Rattle.planner.specs.code.Post.{NameNumber, Walks, WalksChildren}

-- a node by its kind, as the readers gave its words
module _ (T : Tables) (states : List ℕ) (n : ℕ) (a : Walks T states n) {kind first : ℕ} (is-kind : kind ≡ kind_of T.nodes n) (is_first : first ≡ first_word_of T.nodes n) where
  node_kind : {k : ℕ} → kind ≡ k → kind_of T.nodes n ≡ k
  node_kind e = sym is-kind ∙ e

  pub ask_name : kind ≡ 6 → NameNumber first
  ask_name k =
      let v = a.table.named n a.node (node_kind k) in
      let l = v.low in
      let h = v.high in
      let few = a.table.limits.names in
      record { low = omega arith; high = omega arith }

  module _ {size : ℕ} (is_size : size ≡ count_of T.nodes n) where
    pub ask_items : kind ≡ 7 → first < 2 ^ 32 → size < 2 ^ 32 → WalksChildren T states n first 1 size
    ask_items k f s =
        let w = width_array (kind_of T.nodes n) (count_of T.nodes n) (node_kind k) in
        record {
          table = a.table;
          states_ok = a.states_ok;
          each = λ i lt.
              let e : first + i * 1 ≡ first_word_of T.nodes n + i = omega arith in
              let in-width : i < width T.nodes n = omega arith in
              rw e (child_node T a.table n a.node i in-width, (a.table.below n a.node i in-width).1);
          small = omega arith;
        }

last_step : (left step : ℕ) → 0 < left → left * step ≡ (left - 1) * step + step
last_step left step more = let s : left ≡ left - 1 + 1 = omega arith in ap (λ (k : ℕ). k * step) s ∙ (add-mul (left - 1) 1 step ∙ simp (one-mul step))

-- the first of the children, and the rest
module _ {T : Tables} {states : List ℕ} {parent at step left : ℕ} (a : WalksChildren T states parent at step left) (more : 0 < left) where
  pub walk_fits : Fits w64 at
  walk_fits = let m = a.small in record { fits = omega arith }

  pub walk_on : WalksChildren T states parent (at + step) step (left - 1)
  walk_on = record {
    table = a.table;
    states_ok = a.states_ok;
    each = λ i lt. let p : at + (i + 1) * step ≡ at + step + i * step = omega (arith, add-mul i 1 step) in rw p at (a.each (i + 1) (omega arith));
    small = let m = a.small in let p = last_step left step more in omega arith;
  }

  module _ {child : ℕ} (is-child : child ≡ child_at T.children at) where
    here_child : Node T child × (child < parent)
    here_child = let e : at + 0 * step ≡ at = omega arith in rw is-child (rw e at (a.each 0 more))

    pub walk_child : Walks T states child
    walk_child = record { table = a.table; states_ok = a.states_ok; node = here_child.0 }

    pub walk_below : child < parent
    walk_below = here_child.1

-- the measure of a child's walk is below that of its parent's children
pub child_falls : {child parent t : ℕ} → child < parent → 2 * parent - 1 ≡ t → 2 * child < t
child_falls lt e = omega arith
