-- The places that the code finds are those of the graph.
use Prim.Native.Nat.{◌/◌, ◌<◌, ℕ, ◌+◌, ◌-◌, ◌*◌, ◌≤◌}
use mathlib.Core.Bool.{Bool, true, false, cond, ◌||◌, false≢true}
use mathlib.Core.List.{List}
use mathlib.Core.Option.{none, some}
use mathlib.Core.Path.{◌≡◌, refl, ap, sym, ◌∙◌}
use native.Mathlib.Omega.{arith}
use mir.Syntax.{w32}
use mir.Val.{Fits}
use borrow.Author.Tests.{eq-eqb, ne_eqb, eqb-true, eqb-false, le-leb}
use lib.Dec.{eqb, ltb}
use lib.ListN.{length, get_or, set, replicate}
use Rattle.base.specs.Lists.{tabulate}
use Rattle.table.specs.declared.NameClass.{NameClass}
use Rattle.table.specs.declared.NameClass.TheVariants.{Underscore, InputOrData, Ordinary}
use Rattle.table.specs.Tables.{Tables, tables, kind_of, first_word_of, name_bytes, name_count}
use Rattle.table.specs.Names.{same_bytes, underscore_bytes, input_bytes, data_bytes, class_of}
use Rattle.table.specs.Expr.{Expr}
use Rattle.table.specs.Decode.{expr, named_by, is_wildcard}
use Rattle.table.specs.code.Sound.{Node, Named, WellFormed}
use Rattle.table.proofs.trees.Trees.{expr_name, expr_array, expr_object}
use Rattle.common_example.specs.Places.{nodeᵖ, nameᵖ, place_number, name_place, graph_place_of}
use Rattle.run.specs.Operations.{listed_node, in_table}
use Rattle.run.specs.code.NamesPost.{StartOf}
use Rattle.common_example.specs.Operations.{PatternSide, unbound_in, held_if, held_by_side}
use Rattle.common_example.proofs.loops.graph.LikeLoops.{FilledTo, filled_start, filled_place, filled_on, filled_ends}
use Rattle.common_example.specs.code.arrays.NodePlaces.{side_number, name_place_by, name_place_in, node_place, NamePlaceAsks, NodePlaceAsks, side_places, SidePlacesAsks, held_node, HeldBy}
use Rattle.planner.proofs.destructuring.NodeKinds.{Plain, plain_literal, plain_set, plain_other, plain_kind}

-- 1. a name
module _ (bs : List ℕ) {class : NameClass} (is : class ≡ class_of bs) where
  told : (c : NameClass) → class ≡ c → (b : Bool) → ((a e : Bool) → cond a Underscore (cond e InputOrData Ordinary) ≡ c → a ≡ b) → b ≡ same_bytes bs underscore_bytes
  unfolding class_of
  told c q b f = sym (f (same_bytes bs underscore_bytes) (same_bytes bs input_bytes || same_bytes bs data_bytes) (sym is ∙ q))

  pub class_underscore : class ≡ Underscore → true ≡ same_bytes bs underscore_bytes
  class_underscore q = told Underscore q true go
    where
      go : (a e : Bool) → cond a Underscore (cond e InputOrData Ordinary) ≡ Underscore → a ≡ true
      go true e p = refl
      go false true p = absurd (false≢true (cc))
      go false false p = absurd (false≢true (cc))

  pub class_reserved : class ≡ InputOrData → false ≡ same_bytes bs underscore_bytes
  class_reserved q = told InputOrData q false go
    where
      go : (a e : Bool) → cond a Underscore (cond e InputOrData Ordinary) ≡ InputOrData → a ≡ false
      go true e p = absurd (false≢true (cc))
      go false e p = refl

  pub class_ordinary : class ≡ Ordinary → false ≡ same_bytes bs underscore_bytes
  class_ordinary q = told Ordinary q false go
    where
      go : (a e : Bool) → cond a Underscore (cond e InputOrData Ordinary) ≡ Ordinary → a ≡ false
      go true e p = absurd (false≢true (cc))
      go false e p = refl

module _ (names text held : List ℕ) (x n side : ℕ) {wild : Bool} (is : wild ≡ same_bytes (name_bytes names text x) underscore_bytes) where
  pub underscore_place : wild ≡ true → n * 4 + side ≡ name_place_in names text held x n side
  underscore_place e = let q = sym is ∙ e in rw q

  module _ (no : wild ≡ false) where
    pub unheld_place : get_or held (x - 1) 0 ≡ 0 → x * 4 + 2 + side ≡ name_place_in names text held x n side
    unheld_place z = let q = sym is ∙ no in let e = eq-eqb (get_or held (x - 1) 0) 0 z in rw (q, e)

    pub held_place : (get_or held (x - 1) 0 ≡ 0 → ⊥) → get_or held (x - 1) 0 * 4 + side ≡ name_place_in names text held x n side
    held_place z = let q = sym is ∙ no in let e = ne_eqb (get_or held (x - 1) 0) 0 z in rw (q, e)

module _ {held : List ℕ} {x n side : ℕ} (a : NamePlaceAsks held x n side) where
  pub held_four : Fits w32 (get_or held (x - 1) 0 * 4)
  held_four = let h = a.held_ok.few (x - 1) in record { fits = omega arith }

  pub held_fits : Fits w32 (get_or held (x - 1) 0 * 4 + side)
  held_fits = let h = a.held_ok.few (x - 1) in let s = a.a_side in record { fits = omega arith }

-- 2. a node
module _ {T : Tables} {held : List ℕ} {n side : ℕ} (a : NodePlaceAsks T held n side) where
  node_few : n ≤ 512
  node_few = let h = a.node.high in let l = a.table.limits.nodes in omega arith

  module _ {kind x : ℕ} (k : kind ≡ kind_of T.nodes n) (f : x ≡ first_word_of T.nodes n) where
    pub name_asks : kind ≡ 6 → NamePlaceAsks held x n side
    name_asks e =
        let v = a.table.named n a.node (sym k ∙ e) in
        let l = v.low in
        let h = v.high in
        let m = a.table.limits.names in
        record { name = record { low = rw f l; high = omega (arith, f, h, m) }; node = node_few; a_side = a.a_side; held_ok = a.held_ok }

module _ (nodes names text held : List ℕ) (n side : ℕ) {kind : ℕ} (k : kind ≡ kind_of nodes n) where
  pub name_node_lem : kind ≡ 6 → {x r : ℕ} → x ≡ first_word_of nodes n → r ≡ name_place_in names text held x n side → r ≡ node_place nodes names text held n side
  unfolding node_place
  name_node_lem e {x} {r} f is = let q : eqb (kind_of nodes n) 6 ≡ true = rw (← k) (eq-eqb kind 6 e) in rw q (is ∙ ap (λ (y : ℕ). name_place_in names text held y n side) f)

  pub other_node : (kind ≡ 6 → ⊥) → n * 4 + side ≡ node_place nodes names text held n side
  unfolding node_place
  other_node e = let q : eqb (kind_of nodes n) 6 ≡ false = rw (← k) (ne_eqb kind 6 e) in rw q

-- 3. the graph's places
module _ (T : Tables) (w : WellFormed T) (s : PatternSide) (side : Bool) (held : List ℕ) (by : HeldBy T s held) where
  own_number : (b : Bool) (n : ℕ) → n * 4 + side_number b ≡ place_number (nodeᵖ b n)
  own_number true n = omega arith
  own_number false n = refl

  name_number : (b : Bool) (x : ℕ) → x * 4 + 2 + side_number b ≡ place_number (nameᵖ b x)
  name_number true x = omega arith
  name_number false x = omega arith

  held_number : (x : ℕ) → Named T x → cond (eqb (get_or held (x - 1) 0) 0) (x * 4 + 2 + side_number side) (get_or held (x - 1) 0 * 4 + side_number side) ≡ place_number (name_place (held_by_side T s) side x (held_by_side T s x))
  held_number x v = let e = by.each x v in rw e (go (eqb (get_or held (x - 1) 0) 0))
    where
      go : (b : Bool) → cond b (x * 4 + 2 + side_number side) (get_or held (x - 1) 0 * 4 + side_number side) ≡ place_number (name_place (held_by_side T s) side x (cond b none (some (get_or held (x - 1) 0))))
      go true = name_number side x
      go false = own_number side (get_or held (x - 1) 0)

  -- of every node
  pub node-place : (n : ℕ) → Node T n → node_place T.nodes T.names T.text held n (side_number side) ≡ place_number (graph_place_of (held_by_side T s) side (expr T n))
  unfolding node_place
  node-place n v = go (eqb (kind_of T.nodes n) 6) refl
    where
      named : (b : Bool) → Named T (first_word_of T.nodes n) → name_place_by b (get_or held (first_word_of T.nodes n - 1) 0) (first_word_of T.nodes n) n (side_number side) ≡ place_number (graph_place_of (held_by_side T s) side (named_by b n (first_word_of T.nodes n)))
      named true h = own_number side n
      named false h = held_number (first_word_of T.nodes n) h

      plain : {e : Expr} → Plain (kind_of T.nodes n) n e → n * 4 + side_number side ≡ place_number (graph_place_of (held_by_side T s) side e)
      plain (plain_literal l k) = own_number side n
      plain (plain_set es k) = own_number side n
      plain (plain_other k) = own_number side n

      other : (kind_of T.nodes n ≡ 6 → ⊥) → (b : Bool) → eqb (kind_of T.nodes n) 7 ≡ b → (c : Bool) → eqb (kind_of T.nodes n) 9 ≡ c → n * 4 + side_number side ≡ place_number (graph_place_of (held_by_side T s) side (expr T n))
      other n₆ true p c q = rw (expr_array T w n v (eqb-true (kind_of T.nodes n) 7 p)) (own_number side n)
      other n₆ false p true q = rw (expr_object T w n v (eqb-true (kind_of T.nodes n) 9 q)) (own_number side n)
      other n₆ false p false q =
          let (e, t, h) = plain_kind T w n v n₆ (eqb-false (kind_of T.nodes n) 7 p) (eqb-false (kind_of T.nodes n) 9 q) in
          rw t (plain h)

      go : (b : Bool) → eqb (kind_of T.nodes n) 6 ≡ b → cond b (name_place_in T.names T.text held (first_word_of T.nodes n) n (side_number side)) (n * 4 + side_number side) ≡ place_number (graph_place_of (held_by_side T s) side (expr T n))
      go true e = let k = eqb-true (kind_of T.nodes n) 6 e in rw (expr_name T w n v k) (named (is_wildcard T (first_word_of T.nodes n)) (w.named n v k))
      go false e = other (eqb-false (kind_of T.nodes n) 6 e) (eqb (kind_of T.nodes n) 7) refl (eqb (kind_of T.nodes n) 9) refl

-- 4. the list that a run starts with holds the known names
pub start_holds : (T : Tables) (s : PatternSide) {list : List ℕ} → StartOf (name_count T) s.scope s.scoping s.values list → HeldBy T s list
start_holds T s {list} st = record { each = λ x v. let l = v.low in let h = v.high in let n : in_table T x ≡ true = rw (le-leb 1 x l, le-leb x (name_count T) h) in let e = st.each x l h in rw (n, e) (go x (unbound_in s x)) }
  where
    some_held : (m : ℕ) (b : Bool) → eqb m 0 ≡ b → held_if false true b m ≡ held_node m
    some_held m true e = rw e
    some_held m false e = rw e

    go : (x : ℕ) (u : Bool) → held_if u true (eqb (listed_node s.values x) 0) (listed_node s.values x) ≡ held_node (cond u 0 (listed_node s.values x))
    go x true = refl
    go x false = some_held (listed_node s.values x) (eqb (listed_node s.values x) 0) refl

-- 5. all nodes
pub record Placing (T : Tables) (held : List ℕ) (side count i : ℕ) (here : List ℕ) : Type 0 where
  pub asks : SidePlacesAsks T held side
  pub counted : count ≡ length T.nodes / 5
  pub filled : FilledTo (λ k. node_place T.nodes T.names T.text held (k + 1) side) count i here

pub placing_start : (T : Tables) (held : List ℕ) (side : ℕ) {count : ℕ} → SidePlacesAsks T held side → count ≡ length T.nodes / 5 → Placing T held side count 0 (replicate 512 0)
placing_start T held side {count} a e = let l = a.table.limits.nodes in record { asks = a; counted = e; filled = filled_start (λ k. node_place T.nodes T.names T.text held (k + 1) side) count (omega (arith, l, e)) }

module _ {T : Tables} {held : List ℕ} {side count i : ℕ} {here : List ℕ} (go : Placing T held side count i here) where
  module _ (lt : i < count) where
    pub placing_place : i < 512
    placing_place = filled_place go.filled lt

    pub placing_asks : NodePlaceAsks T held (i + 1) side
    placing_asks = let e = go.counted in record { table = go.asks.table; node = record { low = omega arith; high = omega (arith, e, lt) }; a_side = go.asks.a_side; held_ok = go.asks.held_ok }

    pub placing_on : {v : ℕ} → v ≡ node_place T.nodes T.names T.text held (i + 1) side → Placing T held side count (i + 1) (set here i v)
    placing_on e = record { asks = go.asks; counted = go.counted; filled = filled_on go.filled lt e }

  placing_ends : count ≤ i → here ≡ side_places T.nodes T.names T.text held side
  unfolding side_places
  placing_ends done = filled_ends go.filled done ∙ ap (λ (n : ℕ). tabulate (λ k. cond (ltb k n) (node_place T.nodes T.names T.text held (k + 1) side) 0) 0 512) go.counted

pub placed : {nodes children numbers names strings text held : List ℕ} {side count i : ℕ} {here : List ℕ} → Placing (tables nodes children numbers names strings text) held side count i here → count ≤ i → here ≡ side_places nodes names text held side
placed go done = placing_ends go done
