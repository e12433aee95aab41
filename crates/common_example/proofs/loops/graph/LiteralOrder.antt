-- Distinct literals in key order: the search for a literal's place, and one node more.
use Rattle.std.proofs.Common.{Result, Ok, Err}
use Prim.Native.Nat.{ℕ, ◌+◌, ◌-◌, ◌*◌, ◌≤◌, ◌<◌}
use mathlib.Core.Bool.{Bool, true, false, cond, not, false≢true}
use mathlib.Core.List.{List}
use mathlib.Core.Logic.{◌⊎◌, inl, inr}
use mathlib.Core.Option.{Option, none, some}
use mathlib.Core.Path.{◌≡◌, refl, ap, sym, subst, ◌∙◌}
use native.Mathlib.Omega.{arith}
use lib.ListN.{length, get_or}
use mir.Syntax.{w64}
use mir.Val.{Fits}
use denote.Enum.Declared.{tag_of}
use Rattle.base.specs.Insertion.{moved}
use Rattle.base.proofs.Moving.{moved_front, moved_here, moved_next}
use Rattle.literal.specs.Literal.{Literal}
use Rattle.literal.specs.Order.{Order, less, same, more, opposite, key_order, compared, comparison_of}
use Rattle.literal.specs.declared.Comparison.TheVariants.{Less, NoLiteral}
use Rattle.literal.specs.contracts.Comparison.{the_type}
use Rattle.literal.proofs.Orders.{key_order_lem, three_ways}
use Rattle.literal.proofs.Searched.{Searches, never_none}
use Rattle.planner.specs.code.Ordering.{At, KeyBetween, FoundBy}
use Rattle.value.specs.code.Post.{same_literals}
use Rattle.value.proofs.Keys.{key→, key_refl, is_true, true_is}
use Rattle.common_example.specs.code.arrays.Likes.{like_from}
use Rattle.common_example.specs.code.arrays.Distinct.{Distinct, FindAsks, AddAsks, NodeAdded}
use Rattle.common_example.proofs.arrays.LikeLaws.{none_like, like_kept, like_later}

-- 1. two literals in order
record Told (a b : Option Literal) (r : Order) : Type 0 where
  x : Literal
  y : Literal
  left : a ≡ some x
  right : b ≡ some y
  order : key_order x y ≡ r

told_order : (r r' : Order) → comparison_of r ≡ comparison_of r' → r ≡ r'
told_order less less e = refl
told_order less same e = cc
told_order less more e = cc
told_order same less e = cc
told_order same same e = refl
told_order same more e = cc
told_order more less e = cc
told_order more same e = cc
told_order more more e = refl

none_told : (r : Order) → NoLiteral ≡ comparison_of r → ⊥
none_told less e = let z = ap (tag_of the_type) e in omega arith
none_told same e = let z = ap (tag_of the_type) e in omega arith
none_told more e = let z = ap (tag_of the_type) e in omega arith

told : (a b : Option Literal) (r : Order) → compared a b ≡ comparison_of r → Told a b r
unfolding compared
told none b r e = absurd (none_told r e)
told (some x) none r e = absurd (none_told r e)
told (some x) (some y) r e = record { x = x; y = y; left = refl; right = refl; order = told_order (key_order x y) r e }

module _ {a b : Option Literal} where
  tells : {r : Order} → Told a b r → compared a b ≡ comparison_of r
  unfolding compared
  tells t = rw (t.left, t.right) (ap comparison_of t.order)

  flipped : {r : Order} → Told a b r → Told b a (opposite r)
  flipped t = record { x = t.y; y = t.x; left = t.right; right = t.left; order = key_order_lem.antisymmetric t.x t.y ∙ ap opposite t.order }

  alike : Told a b same → a ≡ b
  alike t = t.left ∙ (ap some (key_order_lem.equal t.x t.y t.order) ∙ sym t.right)

  less_less : {c : Option Literal} → Told a b less → Told b c less → Told a c less
  less_less t u =
      let e : t.y ≡ u.x = cc in
      record { x = t.x; y = u.y; left = t.left; right = u.right; order = key_order_lem.transitive t.x t.y u.y t.order (ap (λ (l : Literal). key_order l u.y) e ∙ u.order) }

-- a literal is not less nor more than itself
never_same : {a b : Option Literal} {r : Order} → Told a b r → a ≡ b → r ≡ same
never_same t e =
    let s : t.x ≡ t.y = cc in
    sym t.order ∙ (ap (λ (l : Literal). key_order t.x l) (sym s) ∙ key_order_lem.reflexive t.x)

-- 2. the search
module _ {literals : ℕ → Option Literal} {n : ℕ} {order : List ℕ} {m : ℕ} (d : Distinct literals n order m) where
  literal_at_lem : (q : ℕ) → q < m → (l : Literal) × (literals (get_or order q 0) ≡ some l)
  literal_at_lem q lt = go (literals (get_or order q 0)) (d.lowest q lt)
    where
      go : (o : Option Literal) → like_from literals o 1 n ≡ get_or order q 0 → (l : Literal) × (o ≡ some l)
      go none e = let z = none_like literals 1 n in let h = d.node q lt in absurd (omega arith)
      go (some l) e = (l, refl)

  up : (p q : ℕ) → p < q → q < m → Told (literals (get_or order p 0)) (literals (get_or order q 0)) less
  up p q h k = told (literals (get_or order p 0)) (literals (get_or order q 0)) less (d.ascending p q h k)

  module _ (own : Option Literal) (q : ℕ) (lt : q < m) where
    before_more : At more literals own order q → (i : ℕ) → i ≤ q → At more literals own order i
    before_more h i le = go (three_ways i q)
      where
        go : (i < q) ⊎ ((i ≡ q) ⊎ (q < i)) → At more literals own order i
        go (inl l) = tells (flipped (less_less (up i q l lt) (flipped (told own (literals (get_or order q 0)) more h))))
        go (inr (inl e)) = rw e h
        go (inr (inr g)) = absurd (omega arith)

    behind_less : At less literals own order q → (i : ℕ) → q ≤ i → i < m → At less literals own order i
    behind_less h i le lt' = go (three_ways i q)
      where
        go : (i < q) ⊎ ((i ≡ q) ⊎ (q < i)) → At less literals own order i
        go (inl l) = absurd (omega arith)
        go (inr (inl e)) = rw e h
        go (inr (inr g)) = tells (less_less (told own (literals (get_or order q 0)) less h) (up q i g lt'))

pub literal_searches : {literals : ℕ → Option Literal} {node : ℕ} {order : List ℕ} {m : ℕ} → FindAsks literals node order m → length order ≡ 512
    → Searches (λ x. compared (literals node) (literals x)) order 0 m
unfolding compared
literal_searches {literals} {node} {order} {m} a long = record {
  fits = let f = a.few in omega arith;
  before = before_more a.distinct (literals node);
  behind = behind_less a.distinct (literals node);
  told = λ q lt e.
      let (k, p) = literal_at_lem a.distinct q lt in
      never_none (key_order a.own k) (sym (ap (λ (o : Option Literal). compared o (literals (get_or order q 0))) a.literal ∙ ap (compared (some a.own)) p) ∙ e);
}

-- 3. one node more
module _ (literals : ℕ → Option Literal) where
  -- a literal that the first n nodes lack, and the next node
  lacked : (l : Literal) (n : ℕ) → like_from literals (some l) 1 n ≡ 0 → like_from literals (some l) 1 (n + 1) ≡ cond (same_literals (some l) (literals (n + 1))) (n + 1) 0
  unfolding like_from
  lacked l n e =
      let c : 1 + n ≡ n + 1 = omega arith in
      like_later literals (some l) 1 n 1 (omega arith) e ∙ ap (λ (k : ℕ). like_from literals (some l) k 1) c

  same_is : (l : Literal) (o : Option Literal) (b : Bool) → same_literals (some l) o ≡ b → (o ≡ some l → ⊥) → b ≡ false
  same_is l none b e differ = sym e
  same_is l (some k) true e differ = absurd (differ (ap some (sym (key→ l k (true_is e)))))
  same_is l (some k) false e differ = refl

  module _ {n : ℕ} {order : List ℕ} {m : ℕ} (d : Distinct literals n order m) where
    -- the next node has no new literal
    passed : ((l : Literal) → ((q : ℕ) → q < m → literals (get_or order q 0) ≡ some l → ⊥) → literals (n + 1) ≡ some l → ⊥) → Distinct literals (n + 1) order m
    passed differ = record {
      few = let f = d.few in omega arith;
      ascending = d.ascending;
      node = d.node;
      lowest = λ q lt. like_kept literals (literals (get_or order q 0)) 1 n 1 (d.node q lt) (d.lowest q lt);
      all = λ l h. lacked l n (d.all l h) ∙ ap (λ (b : Bool). cond b (n + 1) 0) (same_is l (literals (n + 1)) (same_literals (some l) (literals (n + 1))) refl (differ l h));
    }

    -- it has one, which goes in at `place`
    module _ {own : Literal} (literal : literals (n + 1) ≡ some own) {place : ℕ} (b : KeyBetween literals (literals (n + 1)) order m place place) (room : m < length order) {later : List ℕ} (is : later ≡ moved order place m (n + 1)) where
      fits : place ≤ m
      fits = b.inside

      -- what stands at a place
      Placed : ℕ → Type 0
      Placed q = ((q < place) × (get_or later q 0 ≡ get_or order q 0)) ⊎ (((q ≡ place) × (get_or later q 0 ≡ n + 1)) ⊎ ((place < q) × (get_or later q 0 ≡ get_or order (q - 1) 0)))

      placed : (q : ℕ) → q < m + 1 → Placed q
      unfolding Placed
      placed q lt = go (three_ways q place)
        where
          go : (q < place) ⊎ ((q ≡ place) ⊎ (place < q)) → Placed q
          go (inl h) = inl (h, rw is (moved_front order place m (n + 1) fits room q h))
          go (inr (inl h)) = inr (inl (h, rw (is, h) (moved_here order place m (n + 1) fits room)))
          go (inr (inr h)) = inr (inr (h, rw is (moved_next order place m (n + 1) fits room q h (omega arith))))

      new : like_from literals (some own) 1 (n + 1) ≡ n + 1
      new =
          let e : same_literals (some own) (literals (n + 1)) ≡ true = rw literal (is_true (key_refl own)) in
          lacked own n (d.all own (λ q lt h. go q lt h (three_ways q place))) ∙ ap (λ (b : Bool). cond b (n + 1) 0) e
        where
          go : (q : ℕ) → q < m → literals (get_or order q 0) ≡ some own → (q < place) ⊎ ((q ≡ place) ⊎ (place < q)) → ⊥
          go q lt h (inl l) = let z = never_same (told (literals (n + 1)) (literals (get_or order q 0)) more (b.before q l)) (literal ∙ sym h) in let y : ◌≡◌ {A = ℕ} 0 1 = cc in omega arith
          go q lt h (inr (inl e)) = let z = never_same (told (literals (n + 1)) (literals (get_or order q 0)) less (b.behind q (omega arith) lt)) (literal ∙ sym h) in let y : ◌≡◌ {A = ℕ} 0 1 = cc in omega arith
          go q lt h (inr (inr g)) = let z = never_same (told (literals (n + 1)) (literals (get_or order q 0)) less (b.behind q (omega arith) lt)) (literal ∙ sym h) in let y : ◌≡◌ {A = ℕ} 0 1 = cc in omega arith

      ascends : (p q : ℕ) → p < q → q < m + 1 → Placed p → Placed q → compared (literals (get_or later p 0)) (literals (get_or later q 0)) ≡ Less
      unfolding Placed
      ascends p q lt to (inl (h, e)) (inl (k, f)) = rw (e, f) (d.ascending p q lt (let w = fits in omega arith))
      ascends p q lt to (inl (h, e)) (inr (inl (k, f))) = rw (e, f) (tells (flipped (told (literals (n + 1)) (literals (get_or order p 0)) more (b.before p h))))
      ascends p q lt to (inl (h, e)) (inr (inr (k, f))) = rw (e, f) (d.ascending p (q - 1) (omega arith) (omega arith))
      ascends p q lt to (inr (inl (h, e))) (inl (k, f)) = absurd (omega arith)
      ascends p q lt to (inr (inl (h, e))) (inr (inl (k, f))) = absurd (omega arith)
      ascends p q lt to (inr (inl (h, e))) (inr (inr (k, f))) = rw (e, f) (b.behind (q - 1) (omega arith) (omega arith))
      ascends p q lt to (inr (inr (h, e))) (inl (k, f)) = absurd (omega arith)
      ascends p q lt to (inr (inr (h, e))) (inr (inl (k, f))) = absurd (omega arith)
      ascends p q lt to (inr (inr (h, e))) (inr (inr (k, f))) = rw (e, f) (d.ascending (p - 1) (q - 1) (omega arith) (omega arith))

      node_at : (q : ℕ) → q < m + 1 → Placed q → 1 ≤ get_or later q 0
      unfolding Placed
      node_at q lt (inl (h, e)) = rw e (d.node q (let w = fits in omega arith))
      node_at q lt (inr (inl (h, e))) = omega arith
      node_at q lt (inr (inr (h, e))) = rw e (d.node (q - 1) (omega arith))

      kept : (q : ℕ) → q < m → like_from literals (literals (get_or order q 0)) 1 (n + 1) ≡ get_or order q 0
      kept q lt = like_kept literals (literals (get_or order q 0)) 1 n 1 (d.node q lt) (d.lowest q lt)

      lowest_at : (q : ℕ) → q < m + 1 → Placed q → like_from literals (literals (get_or later q 0)) 1 (n + 1) ≡ get_or later q 0
      unfolding Placed
      lowest_at q lt (inl (h, e)) = rw e (kept q (let w = fits in omega arith))
      lowest_at q lt (inr (inl (h, e))) = rw (e, literal) new
      lowest_at q lt (inr (inr (h, e))) = rw e (kept (q - 1) (omega arith))

      all_in : (l : Literal) → ((q : ℕ) → q < m + 1 → literals (get_or later q 0) ≡ some l → ⊥) → like_from literals (some l) 1 (n + 1) ≡ 0
      all_in l h =
          lacked l n (d.all l (λ q lt e. go q lt e (three_ways q place)))
          ∙ ap (λ (b : Bool). cond b (n + 1) 0) (same_is l (literals (n + 1)) (same_literals (some l) (literals (n + 1))) refl (λ e. h place (let w = fits in omega arith) (here e)))
        where
          here : literals (n + 1) ≡ some l → literals (get_or later place 0) ≡ some l
          here e = rw is (rw (moved_here order place m (n + 1) fits room) e)

          next : (q : ℕ) → place ≤ q → q < m → literals (get_or order q 0) ≡ some l → ⊥
          next q le lt e =
              let s : q + 1 - 1 ≡ q = omega arith in
              let g = moved_next order place m (n + 1) fits room (q + 1) (omega arith) (omega arith) in
              h (q + 1) (omega arith) (rw is (rw g (rw s e)))

          go : (q : ℕ) → q < m → literals (get_or order q 0) ≡ some l → (q < place) ⊎ ((q ≡ place) ⊎ (place < q)) → ⊥
          go q lt e (inl k) = h q (omega arith) (rw is (rw (moved_front order place m (n + 1) fits room q k) e))
          go q lt e (inr (inl k)) = next q (omega arith) lt e
          go q lt e (inr (inr k)) = next q (omega arith) lt e

      inserted : Distinct literals (n + 1) later (m + 1)
      inserted = record {
        few = let f = d.few in omega arith;
        ascending = λ p q lt to. ascends p q lt to (placed p (omega arith)) (placed q to);
        node = λ q lt. node_at q lt (placed q lt);
        lowest = λ q lt. lowest_at q lt (placed q lt);
        all = all_in;
      }

-- as the code adds it
told_no : (b : Bool) → not b ≡ true → b ≡ false
told_no true e = sym e
told_no false e = refl

told_yes : (b : Bool) → not b ≡ false → b ≡ true
told_yes true e = refl
told_yes false e = sym e

self : (o : Option Literal) → same_literals o o ≡ true → (l : Literal) × (o ≡ some l)
self none e = absurd (false≢true e)
self (some l) e = (l, refl)

not_self : (o : Option Literal) → same_literals o o ≡ false → o ≡ none
not_self none e = refl
not_self (some l) e = absurd (false≢true (sym e ∙ is_true (key_refl l)))

module _ {literals : ℕ → Option Literal} {node : ℕ} {order : List ℕ} {m : ℕ} (a : AddAsks literals node order m) where
  last_node : node - 1 + 1 ≡ node
  last_node = let f = a.first in omega arith

  few_in : m < 512
  few_in = let f = a.distinct.few in let l = a.last in let g = a.first in omega arith

  pub count_fits : m + 1 ≤ 512
  count_fits = let f = few_in in omega arith

  module _ {literal : Bool} (is : literal ≡ same_literals (literals node) (literals node)) where
    pub added_none : not literal ≡ true → NodeAdded literals node order m 0
    added_none t =
        let e : literals node ≡ none = not_self (literals node) (sym is ∙ told_no literal t) in
        record {
          distinct = subst (λ (n : ℕ). Distinct literals n order m) last_node (passed literals a.distinct (λ l h k.
              let p = rw last_node at k in
              let y : ◌≡◌ {A = ℕ} 0 1 = cc in
              omega arith));
          lowest = sym (ap (λ (o : Option Literal). like_from literals o 1 node) e ∙ none_like literals 1 node);
        }

    module _ (yes : not literal ≡ false) where
      own : (l : Literal) × (literals node ≡ some l)
      own = self (literals node) (sym is ∙ told_yes literal yes)

      pub ask_find : FindAsks literals node order m
      ask_find = let f = few_in in record { before = node - 1; distinct = a.distinct; few = omega arith; own = own.0; literal = own.1 }

      module _ {found_at : Result ℕ ℕ} (found : FoundBy literals (literals node) order m found_at) {place : ℕ} where
        pub found_place : found_at ≡ Ok place → place < 512
        found_place e = let p = rw e at found.place in let f = few_in in omega (arith, p.0, f)

        -- the byte at which its number begins
        pub place_fits : found_at ≡ Ok place → Fits w64 (place * 4)
        place_fits e = let p = found_place e in record { fits = omega arith }

        pub added_old : found_at ≡ Ok place → NodeAdded literals node order m (get_or order place 0)
        added_old e =
            let (lt, s) = rw e at found.place in
            let p : literals node ≡ literals (get_or order place 0) = alike (told (literals node) (literals (get_or order place 0)) same s) in
            record {
              distinct = subst (λ (n : ℕ). Distinct literals n order m) last_node (passed literals a.distinct (λ l h k. h place lt (sym p ∙ (rw last_node at k))));
              lowest =
                  let k = like_kept literals (literals (get_or order place 0)) 1 (node - 1) 1 (a.distinct.node place lt) (a.distinct.lowest place lt) in
                  sym (ap (λ (o : Option Literal). like_from literals o 1 node) p ∙ (rw last_node at k));
            }

        pub added_new : found_at ≡ Err place → length order ≡ 512 → {later : List ℕ} → later ≡ moved order place m node → NodeAdded literals node later (m + 1) node
        added_new e long {later} moves =
            let f = few_in in
            let b = rw e at found.place in
            let p = subst (λ (n : ℕ). literals n ≡ some own.0) (sym last_node) own.1 in
            let c = subst (λ (n : ℕ). KeyBetween literals (literals n) order m place place) (sym last_node) b in
            let i = subst (λ (n : ℕ). later ≡ moved order place m n) (sym last_node) moves in
            let r : m < length order = omega arith in
            record {
              distinct = subst (λ (n : ℕ). Distinct literals n later (m + 1)) last_node (inserted literals a.distinct p c r i);
              lowest = sym (ap (λ (o : Option Literal). like_from literals o 1 node) own.1 ∙ (rw last_node at (new literals a.distinct p c r i)));
            }
