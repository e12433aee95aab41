-- Words written one after the other, and how many a place's value has.
use Prim.Native.Nat.{ℕ, zero, suc, ◌+◌, ◌-◌, ◌*◌, ◌/◌, ◌≤◌, ◌<◌}
use mathlib.Core.Bool.{Bool, true, false, cond}
use mathlib.Core.List.{List, [], ◌∷◌, ◌++◌}
use mathlib.Core.Path.{◌≡◌, refl, ap, ◌∙◌}
use native.Mathlib.Omega.{arith}
use borrow.Author.Tests.{eq-eqb, ne_eqb, lt-ltb, leb-true, leb-false}
use lib.Dec.{eqb, leb}
use lib.ListN.{length, get_or, length-append}
use lib.Seq.{sets}
use Rattle.table.specs.Tables.{kind_of, first_word_of, count_of}
use Rattle.planner.specs.Layout.{entry, below, words}
use Rattle.planner.specs.Entries.{Wrote, put_entries}
use Rattle.planner.proofs.buffer.Written.{sets_append}
use Rattle.common_example.specs.code.Graph.{kind_at, start_at, count_at, step_by, link_by}
use Rattle.common_example.specs.code.Classes.{class_in}
use Rattle.common_example.specs.code.Writing.{node_entry, literal_entry, key_count, key_words, key_number, leaf_node, parent_kind, size_from, part_sizes, part_entries, part_numbers, part_nodes, part_children, parent_nodes, head_nodes, parent_children, head_children, place_nodes, place_children, PartsFit, HeadFit, Fit, LiteralAsks, KeyAsks, KeyWritten}

-- 1. stores
pub sets_on : (l : List ℕ) (i j : ℕ) (xs ys : List ℕ) → j ≡ i + length xs → sets (sets l i xs) j ys ≡ sets l i (xs ++ ys)
sets_on l i j xs ys e = ap (λ (k : ℕ). sets (sets l i xs) k ys) e ∙ sets_append l i xs ys

pub node_put : {before after : List ℕ} {at kind first count r : ℕ} → Wrote before at (entry kind 0 0 (below first count) ∷ []) after r → at < length before / 5 → after ≡ sets before (at * 5) (node_entry kind first count)
unfolding put_entries words
node_put {before} {after} {at} w room = let q = lt-ltb at (length before / 5) room in w.put ∙ rw q refl

-- 2. a literal, a key
module _ (nodes : List ℕ) {before after : List ℕ} {id at r : ℕ} (asks : LiteralAsks at before) where
  pub null_written : id ≡ 0 → Wrote before at (entry 5 0 0 (below 0 0) ∷ []) after r → after ≡ sets before (at * 5) (literal_entry nodes id)
  unfolding literal_entry
  null_written z w =
      let q = eq-eqb id 0 z in
      let e : node_entry 5 0 0 ≡ literal_entry nodes id = rw q in
      node_put w asks.room ∙ ap (sets before (at * 5)) e

  pub literal_written : (id ≡ 0 → ⊥) → {kind first count : ℕ} → kind ≡ kind_of nodes id → first ≡ first_word_of nodes id → count ≡ count_of nodes id → Wrote before at (entry kind 0 0 (below first count) ∷ []) after r → after ≡ sets before (at * 5) (literal_entry nodes id)
  unfolding literal_entry
  literal_written n {kind} {first} {count} k f c w =
      let q = ne_eqb id 0 n in
      let e : node_entry kind first count ≡ literal_entry nodes id = rw (q, k, f, c) in
      node_put w asks.room ∙ ap (sets before (at * 5)) e

module _ (nodes links : List ℕ) {step link at : ℕ} {before : List ℕ} (asks : KeyAsks step link at before) where
  pub key_link : step ≡ 8 → 2 ≤ link
  key_link e = let h = asks.low e in omega arith

  pub key_asks : LiteralAsks at before
  key_asks = record { room = asks.room; few = asks.few }

  pub key_written : {after : List ℕ} → step ≡ 8 → after ≡ sets before (at * 5) (literal_entry nodes (get_or links (link - 2) 0)) → KeyWritten nodes links step link at before after (at + 1)
  unfolding key_words
  key_written {after} e w =
      let q = eq-eqb step 8 e in
      let same : literal_entry nodes (get_or links (link - 2) 0) ≡ key_words nodes links step link = rw q in
      record { words = w ∙ ap (sets before (at * 5)) same; next = rw q }

  pub key_none : (step ≡ 8 → ⊥) → KeyWritten nodes links step link at before before at
  unfolding key_words
  key_none n =
      let q = ne_eqb step 8 n in
      let same : [] ≡ key_words nodes links step link = rw q in
      let none : 0 ≡ key_count step = rw q in
      record { words = ap (sets before (at * 5)) same; next = omega (arith, none) }

-- 3. lengths
literal_five : (nodes : List ℕ) (id : ℕ) → length (literal_entry nodes id) ≡ 5
unfolding literal_entry
literal_five nodes id = go (eqb id 0)
  where
    go : (b : Bool) → length (cond b (node_entry 5 0 0) (node_entry (kind_of nodes id) (first_word_of nodes id) (count_of nodes id))) ≡ 5
    go true = refl
    go false = refl

pub key_words_lem : (nodes links : List ℕ) (step link : ℕ) → length (key_words nodes links step link) ≡ key_count step * 5
unfolding key_words
key_words_lem nodes links step link = go (eqb step 8)
  where
    go : (b : Bool) → length (cond b (literal_entry nodes (get_or links (link - 2) 0)) []) ≡ cond b 1 0 * 5
    go true = literal_five nodes (get_or links (link - 2) 0)
    go false = refl

pub key_numbers : (step before : ℕ) → length (key_number step before) ≡ key_count step
unfolding key_number
key_numbers step before = go (eqb step 8)
  where
    go : (b : Bool) → length (cond b ((before + 1) ∷ []) []) ≡ cond b 1 0
    go true = refl
    go false = refl

-- parts of which each has its size
first_part : (link step : ℕ) → link + 0 * step ≡ link
first_part link step = omega arith

next_part : (link i step : ℕ) → link + suc i * step ≡ link + step + i * step
next_part link i step = let e : suc i * step ≡ step + i * step = one_more i step in omega (arith, e)
  where
    one_more : (k s : ℕ) → suc k * s ≡ s + k * s
    one_more k s = omega arith

module _ {F : ℕ → Type 0} {links : List ℕ} {step link left : ℕ} (fit : PartsFit F links step link left) (more : 0 < left) where
  pub part_here : F (get_or links link 0)
  part_here = rw (first_part link step) at (fit.each 0 more)

  pub parts_rest : PartsFit F links step (link + step) (left - 1)
  parts_rest =
      let a : left ≡ suc (left - 1) = omega arith in
      let h = fit.inside in
      let e : left * step ≡ step + (left - 1) * step = ap (λ (k : ℕ). k * step) a ∙ one_more (left - 1) step in
      record {
        inside = omega (arith, h, e);
        low = fit.low;
        high = fit.high;
        keys = λ s. let l = fit.keys s in omega arith;
        each = λ i lt. rw (next_part link i step) at (fit.each (suc i) (omega arith));
      }
    where
      one_more : (k s : ℕ) → suc k * s ≡ s + k * s
      one_more k s = omega arith

tail_fit : {F : ℕ → Type 0} {links : List ℕ} {step link k : ℕ} → PartsFit F links step link (suc k) → PartsFit F links step (link + step) k
tail_fit {F} {links} {step} {link} {k} fit = let z : suc k - 1 ≡ k = omega arith in rw z at (parts_rest fit (omega arith))

none_times : (s : ℕ) → 0 ≡ 0 * s
none_times s = omega arith

module _ (nodes heads links classes sizes : List ℕ) where
  pub parts_nodes : (F : ℕ → Type 0) (each : ℕ → ℕ → List ℕ) → ((p e : ℕ) → F p → (1 ≤ get_or sizes p 0) × (length (each p e) ≡ get_or sizes p 0 * 5))
      → (step link k e : ℕ) → PartsFit F links step link k → length (part_nodes links sizes step nodes each link k e) ≡ part_sizes links sizes step link k * 5
  unfolding part_nodes part_sizes
  parts_nodes F each ok step link zero e fit = refl
  parts_nodes F each ok step link (suc k) e fit =
      let more : 0 < suc k = omega arith in
      let a = key_words_lem nodes links step link in
      let b = (ok (get_or links link 0) e (part_here fit more)).1 in
      let c = parts_nodes F each ok step (link + step) k (e + (size_from links sizes step link - 1)) (tail_fit fit) in
      length-append (key_words nodes links step link) (each (get_or links link 0) e ++ part_nodes links sizes step nodes each (link + step) k (e + (size_from links sizes step link - 1)))
      ∙ (ap (λ (x : ℕ). length (key_words nodes links step link) + x) (length-append (each (get_or links link 0) e) (part_nodes links sizes step nodes each (link + step) k (e + (size_from links sizes step link - 1)))) ∙ omega (arith, a, b, c))

  pub parts_children : (F : ℕ → Type 0) (each : ℕ → ℕ → List ℕ) → ((p b : ℕ) → F p → length (each p b) ≡ get_or sizes p 0 - 1)
      → (step link k b : ℕ) → PartsFit F links step link k → length (part_children links sizes step each link k b) ≡ part_entries links sizes step link k
  unfolding part_children part_entries
  parts_children F each ok step link zero b fit = refl
  parts_children F each ok step link (suc k) b fit =
      let a = ok (get_or links link 0) (b + key_count step) (part_here fit (omega arith)) in
      let c = parts_children F each ok step (link + step) k (b + key_count step + size_from links sizes step link) (tail_fit fit) in
      length-append (each (get_or links link 0) (b + key_count step)) (part_children links sizes step each (link + step) k (b + key_count step + size_from links sizes step link)) ∙ omega (arith, a, c)

  pub numbers_length : (step link k b : ℕ) → length (part_numbers links sizes step link k b) ≡ k * (1 + key_count step)
  unfolding part_numbers
  numbers_length step link zero b = none_times (1 + key_count step)
  numbers_length step link (suc k) b =
      let a = key_numbers step b in
      let c = numbers_length step (link + step) k (b + key_count step + size_from links sizes step link) in
      length-append (key_number step b) ((b + key_count step + size_from links sizes step link) ∷ part_numbers links sizes step (link + step) k (b + key_count step + size_from links sizes step link)) ∙ more (key_count step) k _ _ a c
    where
      more : (s k x y : ℕ) → x ≡ s → y ≡ k * (1 + s) → x + suc y ≡ suc k * (1 + s)
      more s k x y a c = let e : suc k * (1 + s) ≡ (1 + s) + k * (1 + s) = one_more k (1 + s) in omega (arith, a, c, e)
        where
          one_more : (k s : ℕ) → suc k * s ≡ s + k * s
          one_more k s = omega arith

  -- an entry for each node of the parts
  pub parts_entries : (F : ℕ → Type 0) → ((p : ℕ) → F p → 1 ≤ get_or sizes p 0) → (step link k : ℕ) → PartsFit F links step link k → part_entries links sizes step link k + k * (1 + key_count step) ≡ part_sizes links sizes step link k
  unfolding part_entries part_sizes
  parts_entries F ok step link zero fit = let e = none_times (1 + key_count step) in omega (arith, e)
  parts_entries F ok step link (suc k) fit = more (key_count step) k _ _ _ (ok (get_or links link 0) (part_here fit (omega arith))) (parts_entries F ok step (link + step) k (tail_fit fit))
    where
      more : (s k x y z : ℕ) → 1 ≤ x → y + k * (1 + s) ≡ z → x - 1 + y + suc k * (1 + s) ≡ s + x + z
      more s k x y z a c = let e : suc k * (1 + s) ≡ (1 + s) + k * (1 + s) = one_more k (1 + s) in omega (arith, a, c, e)
        where
          one_more : (k s : ℕ) → suc k * s ≡ s + k * s
          one_more k s = omega arith

  head_one : (F : ℕ → Type 0) (size q : ℕ) → HeadFit F heads links sizes size q → 1 ≤ size
  head_one F size q fit = go (leb (kind_at heads q) 1) refl
    where
      go : (b : Bool) → leb (kind_at heads q) 1 ≡ b → 1 ≤ size
      go true e = let h = fit.leaf (leb-true (kind_at heads q) 1 e) in omega (arith, h)
      go false e = let h = fit.parent (leb-false (kind_at heads q) 1 e) in omega (arith, h)

  pub fit_one : (r p : ℕ) → Fit heads links classes sizes r p → 1 ≤ get_or sizes p 0
  unfolding Fit
  fit_one zero p f = absurd f
  fit_one (suc r) p f = head_one (Fit heads links classes sizes r) (get_or sizes p 0) (class_in classes p) f

  module _ (F : ℕ → Type 0) (size q : ℕ) (f : HeadFit F heads links sizes size q) where
    head_nodes_lem : (each : ℕ → ℕ → List ℕ) → ((p e : ℕ) → F p → (1 ≤ get_or sizes p 0) × (length (each p e) ≡ get_or sizes p 0 * 5)) → (e : ℕ) → length (head_nodes nodes heads links sizes each q e) ≡ size * 5
    head_nodes_lem each ok e = go (leb (kind_at heads q) 1) refl
      where
        go : (b : Bool) → leb (kind_at heads q) 1 ≡ b
            → length (cond b (literal_entry nodes (leaf_node heads q)) (parent_nodes nodes heads links sizes each (kind_at heads q) (link_by (kind_at heads q) (start_at heads q)) (count_at heads q) e)) ≡ size * 5
        go true w = let h = f.leaf (leb-true (kind_at heads q) 1 w) in let g = literal_five nodes (leaf_node heads q) in omega (arith, g, h)
        go false w =
            let d = leb-false (kind_at heads q) 1 w in
            let h = f.parent d in
            let g = parts_nodes F each ok (step_by (kind_at heads q)) (link_by (kind_at heads q) (start_at heads q)) (count_at heads q) e (f.parts d) in
            length-append (part_nodes links sizes (step_by (kind_at heads q)) nodes each (link_by (kind_at heads q) (start_at heads q)) (count_at heads q) e)
            (node_entry (parent_kind (kind_at heads q)) (e + part_entries links sizes (step_by (kind_at heads q)) (link_by (kind_at heads q) (start_at heads q)) (count_at heads q)) (count_at heads q)) ∙ omega (arith, g, h)

    head_children_lem : (each : ℕ → ℕ → List ℕ) → ((p b : ℕ) → F p → length (each p b) ≡ get_or sizes p 0 - 1) → ((p : ℕ) → F p → 1 ≤ get_or sizes p 0) → (b : ℕ) → length (head_children heads links sizes each q b) ≡ size - 1
    head_children_lem each ok one b = go (leb (kind_at heads q) 1) refl
      where
        go : (c : Bool) → leb (kind_at heads q) 1 ≡ c → length (cond c [] (parent_children heads links sizes each (kind_at heads q) (link_by (kind_at heads q) (start_at heads q)) (count_at heads q) b)) ≡ size - 1
        go true w = let h = f.leaf (leb-true (kind_at heads q) 1 w) in omega (arith, h)
        go false w =
            let d = leb-false (kind_at heads q) 1 w in
            let h = f.parent d in
            let x = parts_children F each ok (step_by (kind_at heads q)) (link_by (kind_at heads q) (start_at heads q)) (count_at heads q) b (f.parts d) in
            let y = numbers_length (step_by (kind_at heads q)) (link_by (kind_at heads q) (start_at heads q)) (count_at heads q) b in
            let z = parts_entries F one (step_by (kind_at heads q)) (link_by (kind_at heads q) (start_at heads q)) (count_at heads q) (f.parts d) in
            length-append (part_children links sizes (step_by (kind_at heads q)) each (link_by (kind_at heads q) (start_at heads q)) (count_at heads q) b)
            (part_numbers links sizes (step_by (kind_at heads q)) (link_by (kind_at heads q) (start_at heads q)) (count_at heads q) b) ∙ omega (arith, x, y, z, h)

  -- five words a node
  pub fit_nodes : (r p e : ℕ) → Fit heads links classes sizes r p → length (place_nodes nodes heads links classes sizes r p e) ≡ get_or sizes p 0 * 5
  unfolding Fit place_nodes
  fit_nodes zero p e f = absurd f
  fit_nodes (suc r) p e f = head_nodes_lem (Fit heads links classes sizes r) (get_or sizes p 0) (class_in classes p) f (place_nodes nodes heads links classes sizes r) (λ p' e' f'. (fit_one r p' f', fit_nodes r p' e' f')) e

  -- a child entry less
  pub fit_children : (r p b : ℕ) → Fit heads links classes sizes r p → length (place_children heads links classes sizes r p b) ≡ get_or sizes p 0 - 1
  unfolding Fit place_children
  fit_children zero p b f = absurd f
  fit_children (suc r) p b f = head_children_lem (Fit heads links classes sizes r) (get_or sizes p 0) (class_in classes p) f (place_children heads links classes sizes r) (λ p' b' f'. fit_children r p' b' f') (fit_one r) b
