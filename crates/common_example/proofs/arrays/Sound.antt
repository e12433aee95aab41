-- Every link leads to a place within the arrays, and literals are told apart by their nodes.
use Prim.Native.Nat.{ℕ, ◌+◌, ◌-◌, ◌*◌, ◌/◌, ◌%◌, ◌≤◌, ◌<◌}
use mathlib.Core.Bool.{Bool, true, false, cond, ◌&&◌}
use mathlib.Core.List.{List}
use mathlib.Core.Path.{◌≡◌, refl, ap, sym, ◌∙◌}
use native.Mathlib.Omega.{arith}
use borrow.Author.Tests.{eqb-true, eqb-false, leb-true, leb-false, ltb-true, ltb-false}
use lib.Dec.{eqb, leb, ltb}
use lib.ListN.{get_or}
use Rattle.base.specs.Lists.{tabulate}
use Rattle.table.specs.Tables.{Tables, kind_of, first_word_of, count_of, node_count, is_node, name_bytes}
use Rattle.table.specs.Names.{same_bytes, underscore_bytes}
use Rattle.table.specs.Decode.{expr, literal_at}
use Rattle.table.specs.code.Sound.{Node, WellFormed}
use Rattle.table.proofs.trees.Trees.{width_array, width_object}
use Rattle.planner.specs.Simple.{simple}
use Rattle.common_example.specs.Operations.{PatternSide}
use Rattle.common_example.specs.code.Graph.{kind_at, start_at, count_at, Told, Linked}
use Rattle.common_example.specs.code.arrays.Likes.{like_in, like_at, likes}
use Rattle.common_example.specs.code.arrays.NodePlaces.{side_number, node_place, name_place_by, place_of_next, side_places, HeldOk}
use Rattle.common_example.specs.code.arrays.Arrays.{of_node, link_word, head_kind, head_start, head_count}
use Rattle.common_example.proofs.arrays.LikeLaws.{like_most, own_like, like_own, own_tells}
use Rattle.common_example.proofs.arrays.Words.{past_end, within_end, heads_of, node_part, name_part}
use Rattle.common_example.proofs.arrays.Parts.{Prepared, places_in, likes_in, links_in, literal_in, key_own}
use Rattle.common_example.proofs.arrays.Heads.{start_like, start_array, start_object, count_array, count_object, node_of_lem, side_low}

-- 1. the places of nodes
place_most : (T : Tables) → WellFormed T → (held : List ℕ) → HeldOk held → (b : Bool) (n : ℕ) → Node T n → node_place T.nodes T.names T.text held n (side_number b) < 2052
unfolding node_place
place_most T w held ok b n v = go (eqb (kind_of T.nodes n) 6) refl
  where
    few : n ≤ 512
    few = let h = v.high in let l = w.limits.nodes in omega arith

    low : side_number b ≤ 1
    low = at b
      where
        at : (c : Bool) → side_number c ≤ 1
        at true = omega arith
        at false = omega arith

    named : (x : ℕ) → x ≤ 128 → (u z : Bool) → cond u (n * 4 + side_number b) (cond z (x * 4 + 2 + side_number b) (get_or held (x - 1) 0 * 4 + side_number b)) < 2052
    named x h true z = let f = few in let s = low in omega (arith, f, s)
    named x h false true = let s = low in omega (arith, h, s)
    named x h false false = let s = low in let f = ok.few (x - 1) in omega (arith, f, s)

    go : (c : Bool) → eqb (kind_of T.nodes n) 6 ≡ c
        → cond c (name_place_by (same_bytes (name_bytes T.names T.text (first_word_of T.nodes n)) underscore_bytes) (get_or held (first_word_of T.nodes n - 1) 0) (first_word_of T.nodes n) n (side_number b)) (n * 4 + side_number b) < 2052
    go true e =
        let v₆ = w.named n v (eqb-true (kind_of T.nodes n) 6 e) in
        let h = v₆.high in
        let m = w.limits.names in
        named (first_word_of T.nodes n) (omega (arith, h, m)) (same_bytes (name_bytes T.names T.text (first_word_of T.nodes n)) underscore_bytes) (eqb (get_or held (first_word_of T.nodes n - 1) 0) 0)
    go false e = let f = few in let s = low in omega (arith, f, s)

-- a list that is filled with places
of_most : (f : ℕ → ℕ) → ((i : ℕ) → f i < 2052) → (m : ℕ) → of_node (tabulate f 0 512) m < 2052
of_most f each m = go (eqb m 0) (ltb (m - 1) 512) refl
  where
    go : (a b : Bool) → ltb (m - 1) 512 ≡ b → cond a 0 (get_or (tabulate f 0 512) (m - 1) 0) < 2052
    go true b e = omega arith
    go false true e = let q = within_end f 512 (m - 1) (ltb-true (m - 1) 512 e) in rw q (each (m - 1))
    go false false e = let q = past_end f 512 (m - 1) (ltb-false (m - 1) 512 e) in rw q (omega arith)

pub sides_most : (T : Tables) → WellFormed T → (held : List ℕ) → HeldOk held → (b : Bool) (m : ℕ) → of_node (side_places T.nodes T.names T.text held (side_number b)) m < 2052
unfolding side_places
sides_most T w held ok b m = of_most (place_of_next T.nodes T.names T.text held (side_number b)) (λ i. go i (ltb i (node_count T)) refl) m
  where
    go : (i : ℕ) (c : Bool) → ltb i (node_count T) ≡ c → cond c (node_place T.nodes T.names T.text held (i + 1) (side_number b)) 0 < 2052
    go i true e = let h = ltb-true i (node_count T) e in place_most T w held ok b (i + 1) (record { low = omega arith; high = omega arith })
    go i false e = omega arith

likes_most : (T : Tables) → WellFormed T → (m : ℕ) → of_node (likes_in T) m < 2052
unfolding likes
likes_most T w m = of_most (like_at (literal_at T) (node_count T)) (λ i. go i (ltb i (node_count T))) m
  where
    go : (i : ℕ) (c : Bool) → cond c (like_in (literal_at T) (node_count T) (i + 1)) 0 < 2052
    go i true = let h = like_most (literal_at T) (node_count T) (i + 1) in let l = w.limits.nodes in omega (arith, h, l)
    go i false = omega arith

-- 2. a kind of which something is known
known_most : (kind : ℕ) → head_kind kind ≤ 3
known_most kind = go (leb kind 5) (eqb kind 7) (eqb kind 9)
  where
    go : (a b c : Bool) → cond a 1 (cond b 2 (cond c 3 0)) ≤ 3
    go true b c = omega arith
    go false true c = omega arith
    go false false true = omega arith
    go false false false = omega arith

pub record KindIs (kind : ℕ) : Type 0 where
  pub one : head_kind kind ≡ 1 → kind ≤ 5
  pub two : head_kind kind ≡ 2 → kind ≡ 7
  pub three : head_kind kind ≡ 3 → kind ≡ 9

pub kind_is : (kind : ℕ) → KindIs kind
kind_is kind = record { one = λ e. one (leb kind 5) refl (eqb kind 7) (eqb kind 9) e; two = λ e. two (leb kind 5) (eqb kind 7) refl (eqb kind 9) e; three = λ e. three (leb kind 5) (eqb kind 7) (eqb kind 9) refl e }
  where
    one : (a : Bool) → leb kind 5 ≡ a → (b c : Bool) → ◌≡◌ {A = ℕ} (cond a 1 (cond b 2 (cond c 3 0))) 1 → kind ≤ 5
    one true p b c e = leb-true kind 5 p
    one false p true c e = absurd (omega (arith, e))
    one false p false true e = absurd (omega (arith, e))
    one false p false false e = absurd (omega (arith, e))

    two : (a b : Bool) → eqb kind 7 ≡ b → (c : Bool) → ◌≡◌ {A = ℕ} (cond a 1 (cond b 2 (cond c 3 0))) 2 → kind ≡ 7
    two true b p c e = absurd (omega (arith, e))
    two false true p c e = eqb-true kind 7 p
    two false false p true e = absurd (omega (arith, e))
    two false false p false e = absurd (omega (arith, e))

    three : (a b c : Bool) → eqb kind 9 ≡ c → ◌≡◌ {A = ℕ} (cond a 1 (cond b 2 (cond c 3 0))) 3 → kind ≡ 9
    three true b c p e = absurd (omega (arith, e))
    three false true c p e = absurd (omega (arith, e))
    three false false true p e = eqb-true kind 9 p
    three false false false p e = absurd (omega (arith, e))

module _ (T : Tables) (side : Bool → PatternSide) (held : Bool → List ℕ) (ordered : List ℕ) (p : Prepared T side held ordered) where
  abbrev heads : List ℕ
  heads = heads_of T p.table (likes_in T)

  abbrev links : List ℕ
  links = links_in T held ordered

  -- 3. a place of which something is known is that of a simple pattern's node
  pub record Known (q : ℕ) : Type 0 where
    pub node : ℕ
    pub on_side : Bool
    pub is : Node T node
    pub is_simple : simple (expr T node) ≡ true
    pub kind : kind_at heads q ≡ head_kind (kind_of T.nodes node)
    pub start : start_at heads q ≡ head_start T.nodes (likes_in T) node (side_number on_side)
    pub links : count_at heads q ≡ head_count T.nodes node

  known_side : (b : Bool) (n q : ℕ) → q ≡ n * 4 + side_number b → 1 ≤ kind_at heads q → Known q
  known_side b n q e h = go (is_node T n) refl (simple (expr T n)) refl
    where
      low : side_number b ≤ 1
      low = side_low T side held ordered p b

      go : (c : Bool) → is_node T n ≡ c → (d : Bool) → simple (expr T n) ≡ d → Known q
      go false i d f =
          let z : kind_at heads q ≡ 0 = ap (kind_at heads) e ∙ (node_part T p.table (likes_in T) n (side_number b) 0 low (omega arith) ∙ ap (λ (c : Bool). cond (c && simple (expr T n)) (head_kind (kind_of T.nodes n)) 0) i) in
          absurd (omega (arith, z, h))
      go true i false f =
          let z : kind_at heads q ≡ 0 = ap (kind_at heads) e ∙ (node_part T p.table (likes_in T) n (side_number b) 0 low (omega arith) ∙ (ap (λ (c : Bool). cond (c && simple (expr T n)) (head_kind (kind_of T.nodes n)) 0) i ∙ ap (λ (c : Bool). cond c (head_kind (kind_of T.nodes n)) 0) f)) in
          absurd (omega (arith, z, h))
      go true i true f = record {
        node = n;
        on_side = b;
        is = node_of_lem T side held ordered p n i;
        is_simple = f;
        kind = ap (kind_at heads) e ∙ (node_part T p.table (likes_in T) n (side_number b) 0 low (omega arith) ∙ (ap (λ (c : Bool). cond (c && simple (expr T n)) (head_kind (kind_of T.nodes n)) 0) i ∙ ap (λ (c : Bool). cond c (head_kind (kind_of T.nodes n)) 0) f));
        start = ap (start_at heads) e ∙ (node_part T p.table (likes_in T) n (side_number b) 1 low (omega arith) ∙ (ap (λ (c : Bool). cond (c && simple (expr T n)) (head_start T.nodes (likes_in T) n (side_number b)) 0) i ∙ ap (λ (c : Bool). cond c (head_start T.nodes (likes_in T) n (side_number b)) 0) f));
        links = ap (count_at heads) e ∙ (node_part T p.table (likes_in T) n (side_number b) 2 low (omega arith) ∙ (ap (λ (c : Bool). cond (c && simple (expr T n)) (head_count T.nodes n) 0) i ∙ ap (λ (c : Bool). cond c (head_count T.nodes n) 0) f));
      }

  pub known_place : (q : ℕ) → 1 ≤ kind_at heads q → Known q
  known_place q h = go (eqb (q % 4) 0) refl (eqb (q % 4) 1) refl
    where
      go : (a : Bool) → eqb (q % 4) 0 ≡ a → (b : Bool) → eqb (q % 4) 1 ≡ b → Known q
      go true e b f = let i = eqb-true (q % 4) 0 e in known_side true (q / 4) q (omega (arith, i)) h
      go false e true f = let i = eqb-true (q % 4) 1 f in known_side false (q / 4) q (omega (arith, i)) h
      go false e false f =
          let i = eqb-false (q % 4) 0 e in
          let j = eqb-false (q % 4) 1 f in
          let x : q ≡ q / 4 * 4 + q % 4 = omega arith in
          let z : kind_at heads q ≡ 0 = ap (kind_at heads) x ∙ name_part T p.table (likes_in T) (q / 4) (q % 4) 0 (omega (arith, i, j)) (omega arith) (omega arith) in
          absurd (omega (arith, z, h))

  -- 4. within the arrays
  link_low : (i : ℕ) → get_or links i 0 < 2052
  unfolding link_word
  link_low i = go (ltb i 2048) refl
    where
      by : (m : ℕ) (a b : Bool) → cond a (of_node (places_in T held true) m) (cond b (of_node (places_in T held false) m) (of_node (likes_in T) m)) < 2052
      by m true b = sides_most T p.table (held true) (p.few true) true m
      by m false true = sides_most T p.table (held false) (p.few false) false m
      by m false false = likes_most T p.table m

      go : (c : Bool) → ltb i 2048 ≡ c → get_or links i 0 < 2052
      go true e = let q = within_end (link_word ordered (places_in T held true) (places_in T held false) (likes_in T)) 2048 i (ltb-true i 2048 e) in rw q (by (get_or ordered (i / 4) 0) (eqb (i % 4) 0) (eqb (i % 4) 1))
      go false e = let q = past_end (link_word ordered (places_in T held true) (places_in T held false) (likes_in T)) 2048 i (ltb-false i 2048 e) in rw q (omega arith)

  pub arrays_linked : Linked heads links
  arrays_linked = record {
    kinds = λ q. kinds q (leb 1 (kind_at heads q)) refl;
    places = link_low;
    arrays = λ q e.
        let k = known_place q (omega (arith, e)) in
        let n = k.node in
        let o = (kind_is (kind_of T.nodes n)).two (sym k.kind ∙ e) in
        let s = k.start ∙ start_array T n (side_number k.on_side) o in
        let c = k.links ∙ count_array T n (side_number k.on_side) o in
        let l = p.table.listed n k.is (omega (arith, o)) (omega (arith, o)) in
        let w = width_array (kind_of T.nodes n) (count_of T.nodes n) o in
        let m = p.table.limits.children in
        let b = side_low T side held ordered p k.on_side in
        omega (arith, s, c, l, w, m, b);
    objects = λ q e.
        let k = known_place q (omega (arith, e)) in
        let n = k.node in
        let o = (kind_is (kind_of T.nodes n)).three (sym k.kind ∙ e) in
        let s = k.start ∙ start_object T n (side_number k.on_side) o in
        let c = k.links ∙ count_object T n (side_number k.on_side) o in
        let l = p.table.listed n k.is (omega (arith, o)) (omega (arith, o)) in
        let w = width_object (kind_of T.nodes n) (count_of T.nodes n) o in
        let m = p.table.limits.children in
        let b = side_low T side held ordered p k.on_side in
        omega (arith, s, c, l, w, m, b);
  }
    where
      kinds : (q : ℕ) (c : Bool) → leb 1 (kind_at heads q) ≡ c → kind_at heads q ≤ 3
      kinds q true e = let k = known_place q (leb-true 1 (kind_at heads q) e) in let h = k.kind in let m = known_most (kind_of T.nodes k.node) in omega (arith, h, m)
      kinds q false e = let h = leb-false 1 (kind_at heads q) e in omega (arith, h)

  -- 5. literals
  unfoldable pub arrays_told : Told (literal_in T) heads links
  arrays_told = record {
    is_node = own_like (literal_at T) (node_count T);
    tells = own_tells (literal_at T) (node_count T);
    leaves = λ q e.
        let k = known_place q (omega (arith, e)) in
        let n = k.node in
        let h = (kind_is (kind_of T.nodes n)).one (sym k.kind ∙ e) in
        let s = k.start ∙ start_like T n (side_number k.on_side) p.table k.is h in
        let (l, at) = p.table.literals n k.is h in
        rw s (like_own (literal_at T) (node_count T) k.is.low k.is.high at);
    keys = λ q i e lt.
        let k = known_place q (omega (arith, e)) in
        let n = k.node in
        let o = (kind_is (kind_of T.nodes n)).three (sym k.kind ∙ e) in
        let s = k.start ∙ start_object T n (side_number k.on_side) o in
        let c = k.links ∙ count_object T n (side_number k.on_side) o in
        rw s (key_own T side held ordered p n k.is o k.is_simple k.on_side i (omega (arith, c, lt)));
  }
