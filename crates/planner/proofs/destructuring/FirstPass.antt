-- The first pass: the binders of a pattern, in written order, and its steps.
use Prim.Native.Nat.{ℕ, zero, suc, ◌+◌, ◌-◌, ◌≤◌, ◌<◌}
use mathlib.Core.Path.{◌≡◌, refl, sym, ap, subst, ◌∙◌}
use mathlib.Core.List.{List}
use mathlib.Core.Bool.{Bool, true, false, cond}
use native.Mathlib.Omega.{arith}
use mir.Val.{Fits}
use mir.Syntax.{w64}
use borrow.Author.Tests.{eq-eqb, ne_eqb, eqb-true, eqb-false}
use lib.Dec.{eqb}
use lib.ListN.{get_or}
use lib.ListN as ListN
use Rattle.table.specs.Tables.{Tables, kind_of, first_word_of, count_of, child_at}
use Rattle.table.specs.Expr.{Expr, literal, name, wildcard, array, set, object, other}
use Rattle.table.specs.Decode.{expr, items, fields, is_wildcard}
use Rattle.table.proofs.trees.Trees.{expr_name, expr_array, expr_object}
use Rattle.planner.specs.code.Passes.{unbound_in, bind_name, binders_of, binders_all, binders_fields, binders_from, steps_from, steps_below}
use Rattle.planner.specs.Steps.{written_steps, written_steps_all, written_steps_fields}
use Rattle.planner.specs.code.Post.{Walks, WalksChildren, StepRoom}
use Rattle.planner.specs.code.Validation.{Places, places, places_by, SpanOf}
use Rattle.planner.proofs.destructuring.Walking.{walk_fits, walk_on, walk_child, walk_below}
use Rattle.planner.proofs.destructuring.Counting.{enter_fits, enter_room, entered, Counting, counting_start, counting_one, counting_on, counting_ends}
use Rattle.planner.proofs.destructuring.NodeKinds.{Plain, plain_literal, plain_set, plain_other, plain_kind}

-- one name
module _ (states binders : List ℕ) (n x : ℕ) where
  pub name_known : (get_or states (x - 1) 0 ≡ 1 → ⊥) → binders ≡ bind_name (unbound_in states) n x binders
  name_known no_one = simp (ne_eqb (get_or states (x - 1) 0) 1 no_one)

  pub name_seen : get_or states (x - 1) 0 ≡ 1 → (get_or binders (x - 1) 0 ≡ 0 → ⊥) → binders ≡ bind_name (unbound_in states) n x binders
  name_seen is_one no_zero = simp (eq-eqb (get_or states (x - 1) 0) 1 is_one, ne_eqb (get_or binders (x - 1) 0) 0 no_zero)

  pub name_binds : {after : List ℕ} → get_or states (x - 1) 0 ≡ 1 → get_or binders (x - 1) 0 ≡ 0 → after ≡ ListN.set binders (x - 1) n → after ≡ bind_name (unbound_in states) n x binders
  name_binds is_one is_zero e = simp (eq-eqb (get_or states (x - 1) 0) 1 is_one, eq-eqb (get_or binders (x - 1) 0) 0 is_zero) e

-- a walk over children with a step, and the lists of a tree
module _ (u : ℕ → Bool) (g : ℕ → Expr) (ch : List ℕ) where
  pub from_step : (at step left : ℕ) (b : List ℕ) → 0 < left → binders_from u g ch at step left b ≡ binders_from u g ch (at + step) step (left - 1) (binders_of u (g (child_at ch at)) b)
  unfolding binders_from
  from_step at step left b more = let a : left ≡ suc (left - 1) = omega arith in ap (λ (k : ℕ). binders_from u g ch at step k b) a

  pub from_end : (at step left : ℕ) (b : List ℕ) → left ≤ 0 → binders_from u g ch at step left b ≡ b
  unfolding binders_from
  from_end at step left b no_more = let a : left ≡ 0 = omega arith in rw a

  all_from : (at k : ℕ) (b : List ℕ) → binders_all u (items g ch at k) b ≡ binders_from u g ch at 1 k b
  unfolding binders_of binders_from items
  all_from at zero b = refl
  all_from at (suc k) b = all_from (at + 1) k (binders_of u (g (child_at ch at)) b)

  fields_from_lem : (at k : ℕ) (b : List ℕ) → binders_fields u (fields g ch at k) b ≡ binders_from u g ch (at + 1) 2 k b
  unfolding binders_of binders_from fields
  fields_from_lem at zero b = refl
  fields_from_lem at (suc k) b =
      let e : at + 2 + 1 ≡ at + 1 + 2 = omega arith in
      fields_from_lem (at + 2) k (binders_of u (g (child_at ch (at + 1))) b) ∙ ap (λ (i : ℕ). binders_from u g ch i 2 k (binders_of u (g (child_at ch (at + 1))) b)) e

-- a node by its kind, as the readers gave its words
module _ (T : Tables) (states before : List ℕ) (n : ℕ) (a : Walks T states n) {kind first : ℕ} (is-kind : kind ≡ kind_of T.nodes n) (is_first : first ≡ first_word_of T.nodes n) where
  node_kind : {k : ℕ} → kind ≡ k → kind_of T.nodes n ≡ k
  node_kind e = sym is-kind ∙ e

  pub decided_name : {after : List ℕ} → kind ≡ 6 → after ≡ bind_name (unbound_in states) n first before → after ≡ binders_of (unbound_in states) (expr T n) before
  unfolding binders_of
  decided_name {after} k e = (rw is_first at e) ∙ go (is_wildcard T (first_word_of T.nodes n)) refl
    where
      go : (b : Bool) → is_wildcard T (first_word_of T.nodes n) ≡ b → bind_name (unbound_in states) n (first_word_of T.nodes n) before ≡ binders_of (unbound_in states) (expr T n) before
      go true p =
          let is-two = eqb-true (get_or states (first_word_of T.nodes n - 1) 0) 2 (sym (a.states_ok.wild (first_word_of T.nodes n) (a.table.named n a.node (node_kind k))) ∙ p) in
          let tree : expr T n ≡ wildcard n = expr_name T a.table n a.node (node_kind k) ∙ simp p in
          sym (name_known states before n (first_word_of T.nodes n) (λ one. omega arith)) ∙ sym (ap (λ (t : Expr). binders_of (unbound_in states) t before) tree)
      go false p =
          let tree : expr T n ≡ name n (first_word_of T.nodes n) = expr_name T a.table n a.node (node_kind k) ∙ simp p in
          sym (ap (λ (t : Expr). binders_of (unbound_in states) t before) tree)

  module _ {size : ℕ} (is_size : size ≡ count_of T.nodes n) where
    decided_items : {after : List ℕ} → kind ≡ 7 → after ≡ binders_from (unbound_in states) (expr T) T.children first 1 size before → after ≡ binders_of (unbound_in states) (expr T n) before
    unfolding binders_of
    decided_items k e =
        (rw (is_first, is_size) at e) ∙ (sym (all_from (unbound_in states) (expr T) T.children (first_word_of T.nodes n) (count_of T.nodes n) before)
        ∙ sym (ap (λ (t : Expr). binders_of (unbound_in states) t before) (expr_array T a.table n a.node (node_kind k))))

    decided_values : {after : List ℕ} → kind ≡ 9 → after ≡ binders_from (unbound_in states) (expr T) T.children (first + 1) 2 size before → after ≡ binders_of (unbound_in states) (expr T n) before
    unfolding binders_of
    decided_values k e =
        (rw (is_first, is_size) at e) ∙ (sym (fields_from_lem (unbound_in states) (expr T) T.children (first_word_of T.nodes n) (count_of T.nodes n) before)
        ∙ sym (ap (λ (t : Expr). binders_of (unbound_in states) t before) (expr_object T a.table n a.node (node_kind k))))

  decided_plain : (kind ≡ 6 → ⊥) → (kind ≡ 7 → ⊥) → (kind ≡ 9 → ⊥) → before ≡ binders_of (unbound_in states) (expr T n) before
  unfolding binders_of
  decided_plain not-6 not-7 not-9 = let p = plain_kind T a.table n a.node (λ k. not-6 (is-kind ∙ k)) (λ k. not-7 (is-kind ∙ k)) (λ k. not-9 (is-kind ∙ k)) in go p.0 p.1 p.2
    where
      go : (e : Expr) → expr T n ≡ e → Plain (kind_of T.nodes n) n e → before ≡ binders_of (unbound_in states) (expr T n) before
      go e q (plain_literal l h) = sym (ap (λ (t : Expr). binders_of (unbound_in states) t before) q)
      go e q (plain_set es h) = sym (ap (λ (t : Expr). binders_of (unbound_in states) t before) q)
      go e q (plain_other h) = sym (ap (λ (t : Expr). binders_of (unbound_in states) t before) q)

-- by the places below a node that is no name
by_places : (P : Places → Type 0) (kind first count : ℕ) → (kind ≡ 7 → P (places first 1 count)) → (kind ≡ 9 → P (places (first + 1) 2 count)) → ((kind ≡ 7 → ⊥) → (kind ≡ 9 → ⊥) → P (places first 1 0))
    → P (places_by false false kind first count)
by_places P kind first count items_are values-are none-are = go7 (eqb kind 7) refl
  where
    go9 : (kind ≡ 7 → ⊥) → (b : Bool) → eqb kind 9 ≡ b → P (cond b (places (first + 1) 2 count) (places first 1 0))
    go9 not-7 true p = values-are (eqb-true kind 9 p)
    go9 not-7 false p = none-are not-7 (eqb-false kind 9 p)

    go8 : (kind ≡ 7 → ⊥) → (b : Bool) → eqb kind 8 ≡ b → P (cond b (places first 1 0) (cond (eqb kind 9) (places (first + 1) 2 count) (places first 1 0)))
    go8 not-7 true p = let k = eqb-true kind 8 p in none-are not-7 (λ e. omega arith)
    go8 not-7 false p = go9 not-7 (eqb kind 9) refl

    go7 : (b : Bool) → eqb kind 7 ≡ b → P (cond b (places first 1 count) (cond (eqb kind 8) (places first 1 0) (cond (eqb kind 9) (places (first + 1) 2 count) (places first 1 0))))
    go7 true p = items_are (eqb-true kind 7 p)
    go7 false p = go8 (eqb-false kind 7 p) (eqb kind 8) refl

module _ (T : Tables) (states before : List ℕ) (n : ℕ) (a : Walks T states n) where
  abbrev Bound : Places → Type 0
  Bound p = binders_from (unbound_in states) (expr T) T.children p.at p.step p.left before ≡ binders_of (unbound_in states) (expr T n) before

  bound_places : (kind_of T.nodes n ≡ 6 → ⊥) → Bound (places_by false false (kind_of T.nodes n) (first_word_of T.nodes n) (count_of T.nodes n))
  unfolding binders_from
  bound_places not-6 =
      by_places Bound (kind_of T.nodes n) (first_word_of T.nodes n) (count_of T.nodes n)
      (λ k. decided_items T states before n a refl refl refl k refl)
      (λ k. decided_values T states before n a refl refl refl k refl)
      (λ not-7 not-9. decided_plain T states before n a refl refl not-6 not-7 not-9)

  pub decided_below : {kind : ℕ} → kind ≡ kind_of T.nodes n → (kind ≡ 6 → ⊥) → {at step left : ℕ} → SpanOf T.nodes false false n at step left → {after : List ℕ}
      → after ≡ binders_from (unbound_in states) (expr T) T.children at step left before → after ≡ binders_of (unbound_in states) (expr T n) before
  decided_below is-kind not-6 s e = e ∙ subst Bound (sym s.is) (bound_places (λ k. not-6 (is-kind ∙ k)))

-- the steps: one of the node, and those below it
pub written_some : (e : Expr) → 1 ≤ written_steps e
unfolding written_steps
written_some (literal n l) = omega arith
written_some (name n x) = omega arith
written_some (wildcard n) = omega arith
written_some (array n es) = omega arith
written_some (set n es) = omega arith
written_some (object n fs) = omega arith
written_some (other n) = omega arith

module _ (g : ℕ → Expr) (ch : List ℕ) where
  steps_all : (at k : ℕ) → written_steps_all (items g ch at k) ≡ steps_from g ch at 1 k
  unfolding written_steps steps_from items
  steps_all at zero = refl
  steps_all at (suc k) = ap (λ (m : ℕ). written_steps (g (child_at ch at)) + m) (steps_all (at + 1) k)

  steps_fields : (at k : ℕ) → written_steps_fields (fields g ch at k) ≡ steps_from g ch (at + 1) 2 k
  unfolding written_steps steps_from fields
  steps_fields at zero = refl
  steps_fields at (suc k) =
      let e : at + 2 + 1 ≡ at + 1 + 2 = omega arith in
      ap (λ (m : ℕ). written_steps (g (child_at ch (at + 1))) + m) (steps_fields (at + 2) k ∙ ap (λ (i : ℕ). steps_from g ch i 2 k) e)

module _ (T : Tables) (states : List ℕ) (n : ℕ) (a : Walks T states n) where
  abbrev Stepped : Places → Type 0
  Stepped p = ◌≡◌ {A = ℕ} (1 + steps_below T p.at p.step p.left) (written_steps (expr T n))

  stepped : {e : Expr} {k : ℕ} → expr T n ≡ e → k ≡ written_steps e → k ≡ written_steps (expr T n)
  stepped t e = e ∙ sym (ap written_steps t)

  stepped_plain : (kind_of T.nodes n ≡ 6 → ⊥) → (kind_of T.nodes n ≡ 7 → ⊥) → (kind_of T.nodes n ≡ 9 → ⊥) → 1 ≡ written_steps (expr T n)
  unfolding written_steps
  stepped_plain not-6 not-7 not-9 = let p = plain_kind T a.table n a.node not-6 not-7 not-9 in go p.0 p.1 p.2
    where
      go : (e : Expr) → expr T n ≡ e → Plain (kind_of T.nodes n) n e → 1 ≡ written_steps (expr T n)
      go e t (plain_literal l h) = stepped t refl
      go e t (plain_set es h) = stepped t refl
      go e t (plain_other h) = stepped t refl

  steps_places : (kind_of T.nodes n ≡ 6 → ⊥) → Stepped (places_by false false (kind_of T.nodes n) (first_word_of T.nodes n) (count_of T.nodes n))
  unfolding written_steps steps_from
  steps_places not-6 =
      by_places Stepped (kind_of T.nodes n) (first_word_of T.nodes n) (count_of T.nodes n)
      (λ k. stepped (expr_array T a.table n a.node k) (sym (ap (λ (m : ℕ). 1 + m) (steps_all (expr T) T.children (first_word_of T.nodes n) (count_of T.nodes n)))))
      (λ k. stepped (expr_object T a.table n a.node k) (sym (ap (λ (m : ℕ). 1 + m) (steps_fields (expr T) T.children (first_word_of T.nodes n) (count_of T.nodes n)))))
      (λ not-7 not-9. stepped_plain not-6 not-7 not-9)

  pub decide_fits : (steps : ℕ) → StepRoom steps (written_steps (expr T n)) → Fits w64 (steps + 1)
  decide_fits steps r = enter_fits r (written_some (expr T n))

  module _ {kind : ℕ} (is-kind : kind ≡ kind_of T.nodes n) where
    pub counted_name : (steps : ℕ) → kind ≡ 6 → steps + 1 ≡ steps + written_steps (expr T n)
    unfolding written_steps
    counted_name steps k = ap (λ (m : ℕ). steps + m) (go (is_wildcard T (first_word_of T.nodes n)) refl)
      where
        go : (b : Bool) → is_wildcard T (first_word_of T.nodes n) ≡ b → 1 ≡ written_steps (expr T n)
        go true p = stepped {e = wildcard n} (expr_name T a.table n a.node (sym is-kind ∙ k) ∙ simp p) refl
        go false p = stepped {e = name n (first_word_of T.nodes n)} (expr_name T a.table n a.node (sym is-kind ∙ k) ∙ simp p) refl

    module _ (not-6 : kind ≡ 6 → ⊥) {at step left : ℕ} (s : SpanOf T.nodes false false n at step left) where
      below : 1 + steps_below T at step left ≡ written_steps (expr T n)
      below = subst Stepped (sym s.is) (steps_places (λ k. not-6 (is-kind ∙ k)))

      pub below_room : (steps : ℕ) → StepRoom steps (written_steps (expr T n)) → StepRoom (steps + 1) (steps_below T at step left)
      below_room steps r = enter_room r (steps_below T at step left) below

      pub counted_below : (steps : ℕ) {after : ℕ} → after ≡ steps + 1 + steps_below T at step left → after ≡ steps + written_steps (expr T n)
      counted_below steps e = entered steps (written_steps (expr T n)) (steps_below T at step left) below e

-- the walk over children: what is left makes of the binders here the same as all of it of those at the start
pub record Deciding (T : Tables) (states : List ℕ) (parent at₀ step left₀ : ℕ) (before : List ℕ) (at left : ℕ) (here : List ℕ) : Type 0 where
  pub asks : WalksChildren T states parent at step left
  pub same : binders_from (unbound_in states) (expr T) T.children at step left here ≡ binders_from (unbound_in states) (expr T) T.children at₀ step left₀ before

pub deciding_start : (T : Tables) (states : List ℕ) (parent at step left : ℕ) (b : List ℕ) {place more : ℕ} → WalksChildren T states parent at step left → place ≡ at → more ≡ left
    → Deciding T states parent at step left b place more b
deciding_start T states parent at step left b a is of = rw (is, of) (record { asks = a; same = refl })

module _ {T : Tables} {states : List ℕ} {parent at₀ step left₀ : ℕ} {before : List ℕ} {at left : ℕ} {here : List ℕ} (go : Deciding T states parent at₀ step left₀ before at left here) where
  module _ (more : 0 < left) {child : ℕ} (is-child : child ≡ child_at T.children at) where
    pub deciding_child : Walks T states child
    deciding_child = walk_child go.asks more is-child

    pub deciding_below : child < parent
    deciding_below = walk_below go.asks more is-child

    pub deciding_on : {next : List ℕ} {place last : ℕ} → next ≡ binders_of (unbound_in states) (expr T child) here → place ≡ at + step → last ≡ left - 1 → Deciding T states parent at₀ step left₀ before place last next
    deciding_on {next} e on of = rw (on, of) (record {
      asks = walk_on go.asks more;
      same = ap (λ (l : List ℕ). binders_from (unbound_in states) (expr T) T.children (at + step) step (left - 1) l) (rw is-child at e) ∙ (sym (from_step (unbound_in states) (expr T) T.children at step left here more) ∙ go.same);
    })

  pub deciding_fits : 0 < left → Fits w64 at
  deciding_fits more = walk_fits go.asks more

  pub deciding_ends : left ≤ 0 → here ≡ binders_from (unbound_in states) (expr T) T.children at₀ step left₀ before
  deciding_ends no_more = sym (from_end (unbound_in states) (expr T) T.children at step left here no_more) ∙ go.same

-- the children's steps
pub counting_first : (T : Tables) (step : ℕ) {start at left place more : ℕ} → StepRoom start (steps_below T at step left) → place ≡ at → more ≡ left
    → Counting start (steps_below T at step left) start (steps_below T place step more)
counting_first T step r is of = rw (is, of) (counting_start r)

module _ (T : Tables) (start all here at step left : ℕ) (go : Counting start all here (steps_below T at step left)) where
  module _ (more : 0 < left) {child : ℕ} (is-child : child ≡ child_at T.children at) where
    child_steps : steps_below T at step left ≡ written_steps (expr T child) + steps_below T (at + step) step (left - 1)
    unfolding steps_from
    child_steps = let a : left ≡ suc (left - 1) = omega arith in ap (λ (k : ℕ). steps_below T at step k) a ∙ simp (sym is-child)

    pub counting_child : StepRoom here (written_steps (expr T child))
    counting_child = counting_one go (written_steps (expr T child)) (steps_below T (at + step) step (left - 1)) child_steps

    pub counting_children : {next place last : ℕ} → next ≡ here + written_steps (expr T child) → place ≡ at + step → last ≡ left - 1 → Counting start all next (steps_below T place step last)
    counting_children e on of = rw (on, of) (counting_on go (written_steps (expr T child)) (steps_below T (at + step) step (left - 1)) child_steps e)

  pub counted_children : left ≤ 0 → here ≡ start + all
  unfolding steps_from
  counted_children no_more =
      let z : left ≡ 0 = omega arith in
      counting_ends go (ap (λ (k : ℕ). steps_below T at step k) z)
