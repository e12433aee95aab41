-- The sizes in the array are those of what is built.
use Prim.Native.Nat.{ℕ, zero, suc, ◌+◌, ◌≤◌, ◌<◌, min}
use mathlib.Core.Bool.{cond}
use mathlib.Core.List.{List}
use mathlib.Core.Option.{Option, none, some}
use mathlib.Core.Path.{◌≡◌, refl, ap, ◌∙◌}
use native.Mathlib.Omega.{arith}
use borrow.Author.Tests.{eq-eqb, ne_eqb}
use lib.Dec.{eqb, leb}
use lib.ListN.{get_or}
use Rattle.literal.specs.Literal.{Literal, null}
use Rattle.base.proofs.Filling.{get_d_tabulate}
use Rattle.value.specs.Value.{literalᵛ}
use Rattle.common_example.specs.Overlap.{Template, Templates, TemplateFields, doneᵗ, fieldᵗ, put_in, put_all, put_fields, example, size, size_all, size_fields}
use Rattle.common_example.specs.Unify.{and_item, and_field, of_items, of_fields, build_items, build_fields, build_head, build}
use Rattle.common_example.specs.code.Graph.{kind_at, start_at, count_at, items_at, keyed_at, head_by, head_at, Linked}
use Rattle.common_example.specs.code.Classes.{class_in, ClassesOk}
use Rattle.common_example.specs.code.Sizes.{sum_at, place_size, level_size, sizes_after}
use Rattle.common_example.proofs.loops.sizes.SizeLoops.{zero_at}
use Rattle.common_example.proofs.unify.Building.{and_field_back}
use Rattle.common_example.proofs.written.Entries.{size_one}

-- of nothing built 0
abbrev pub built_size : Option (Template ℕ) → ℕ
built_size none = 0
built_size (some t) = min 513 (size (example t))

abbrev nulls : Templates ℕ → ℕ
nulls ts = size_all (put_all (λ x. literalᵛ 0 null) ts)

-- the fields' values alone
value_sizes : TemplateFields ℕ → ℕ
value_sizes doneᵗ = 0
value_sizes (fieldᵗ k t fs) = size (example t) + value_sizes fs

abbrev add_items : ℕ → Option (Templates ℕ) → ℕ
add_items total none = 0
add_items total (some ts) = min 513 (total + nulls ts)

abbrev add_fields : ℕ → Option (TemplateFields ℕ) → ℕ
add_fields total none = 0
add_fields total (some fs) = min 513 (total + value_sizes fs)

one_least : (t : Template ℕ) → 1 ≤ size (example t)
one_least t = size_one (example t)

module _ (links sizes : List ℕ) (F : ℕ → Option (Template ℕ)) (places : (i : ℕ) → get_or links i 0 < 2052) (each : (p : ℕ) → p < 2052 → get_or sizes p 0 ≡ built_size (F p)) where
  -- one place more, with what is said of the rest for every total
  items_sum : (at n total : ℕ) → total ≤ 513 → sum_at links sizes 4 at n total ≡ add_items total (build_items F (items_at links at n))
  unfolding sum_at items_at build_items put_in size
  items_sum at zero total h = omega arith
  items_sum at (suc n) total h = go (F (get_or links at 0)) (each (get_or links at 0) (places at)) (λ m k. items_sum (at + 4) n m k)
    where
      next : (t : Template ℕ) (o : Option (Templates ℕ)) → add_items (min 513 (total + min 513 (size (example t)))) o ≡ add_items total (and_item (some t) o)
      next t none = refl
      next t (some ts) = capped (size (example t)) (nulls ts)
        where
          capped : (a b : ℕ) → min 513 (min 513 (total + min 513 a) + b) ≡ min 513 (total + (a + b))
          capped a b = omega arith

      go : (o : Option (Template ℕ)) → get_or sizes (get_or links at 0) 0 ≡ built_size o → ((m : ℕ) → m ≤ 513 → sum_at links sizes 4 (at + 4) n m ≡ add_items m (build_items F (items_at links (at + 4) n)))
          → cond (eqb (get_or sizes (get_or links at 0) 0) 0) 0 (sum_at links sizes 4 (at + 4) n (min 513 (total + get_or sizes (get_or links at 0) 0))) ≡ add_items total (and_item o (build_items F (items_at links (at + 4) n)))
      go none e rest = let q = eq-eqb (get_or sizes (get_or links at 0) 0) 0 e in rw q
      go (some t) e rest =
          let l = one_least t in
          let q = ne_eqb (get_or sizes (get_or links at 0) 0) 0 (λ z. omega (arith, e, z, l)) in
          rw q (ap (λ (x : ℕ). sum_at links sizes 4 (at + 4) n (min 513 (total + x))) e ∙ (rest (min 513 (total + min 513 (size (example t)))) (omega arith) ∙ next t (build_items F (items_at links (at + 4) n))))

  fields_sum : (literal_of : ℕ → Literal) (at n total : ℕ) → total ≤ 513 → sum_at links sizes 8 (at + 4) n total ≡ add_fields total (build_fields F (keyed_at literal_of links at n))
  unfolding sum_at keyed_at build_fields value_sizes
  fields_sum literal_of at zero total h = omega arith
  fields_sum literal_of at (suc n) total h = go (F (get_or links (at + 4) 0)) (each (get_or links (at + 4) 0) (places (at + 4))) (λ m k. fields_sum literal_of (at + 8) n m k)
    where
      key : Literal
      key = literal_of (get_or links (at + 2) 0)

      next : (t : Template ℕ) (o : Option (TemplateFields ℕ)) → add_fields (min 513 (total + min 513 (size (example t)))) o ≡ add_fields total (and_field key (some t) o)
      next t none = refl
      next t (some ts) = capped (size (example t)) (value_sizes ts)
        where
          capped : (a b : ℕ) → min 513 (min 513 (total + min 513 a) + b) ≡ min 513 (total + (a + b))
          capped a b = omega arith

      go : (o : Option (Template ℕ)) → get_or sizes (get_or links (at + 4) 0) 0 ≡ built_size o → ((m : ℕ) → m ≤ 513 → sum_at links sizes 8 (at + 8 + 4) n m ≡ add_fields m (build_fields F (keyed_at literal_of links (at + 8) n)))
          → cond (eqb (get_or sizes (get_or links (at + 4) 0) 0) 0) 0 (sum_at links sizes 8 (at + 4 + 8) n (min 513 (total + get_or sizes (get_or links (at + 4) 0) 0))) ≡ add_fields total (and_field key o (build_fields F (keyed_at literal_of links (at + 8) n)))
      go none e rest = let q = eq-eqb (get_or sizes (get_or links (at + 4) 0) 0) 0 e in rw q
      go (some t) e rest =
          let l = one_least t in
          let q = ne_eqb (get_or sizes (get_or links (at + 4) 0) 0) 0 (λ z. omega (arith, e, z, l)) in
          let z : at + 4 + 8 ≡ at + 8 + 4 = omega arith in
          rw q (ap (λ (x : ℕ). sum_at links sizes 8 (at + 4 + 8) n (min 513 (total + x))) e
          ∙ (ap (λ (x : ℕ). sum_at links sizes 8 x n (min 513 (total + min 513 (size (example t))))) z
          ∙ (rest (min 513 (total + min 513 (size (example t)))) (omega arith) ∙ next t (build_fields F (keyed_at literal_of links (at + 8) n)))))

  -- as many fields as links
  fields_size : (literal_of : ℕ → Literal) (at n : ℕ) (ts : TemplateFields ℕ) → build_fields F (keyed_at literal_of links at n) ≡ some ts → size_fields (put_fields (λ x. literalᵛ 0 null) ts) ≡ n + value_sizes ts
  unfolding keyed_at build_fields value_sizes put_in size
  fields_size literal_of at zero ts e = let q : doneᵗ ≡ ts = cc in rw (← q)
  fields_size literal_of at (suc n) ts e =
      let (t, us, a, b, c) = and_field_back (literal_of (get_or links (at + 2) 0)) (F (get_or links (at + 4) 0)) (build_fields F (keyed_at literal_of links (at + 8) n)) ts e in
      let r = fields_size literal_of (at + 8) n us b in
      rw (← c) (one_more (size (example t)) (size_fields (put_fields (λ x. literalᵛ 0 null) us)) (value_sizes us) r)
    where
      one_more : (a x v : ℕ) → x ≡ n + v → 1 + (a + x) ≡ suc n + (a + v)
      one_more a x v r = omega arith

  head_size_lem : (literal_of : ℕ → Literal) (q kind at count : ℕ) → kind ≤ 3 → (kind ≡ 3 → 1 + count ≤ 513)
      → cond (leb kind 1) 1 (cond (eqb kind 2) (sum_at links sizes 4 at count 1) (sum_at links sizes 8 (at + 4) count (1 + count))) ≡ built_size (build_head F q (head_by literal_of links kind at count))
  unfolding put_in size
  head_size_lem literal_of q zero at count h f = refl
  head_size_lem literal_of q (suc zero) at count h f = refl
  head_size_lem literal_of q (suc (suc zero)) at count h f = items_sum at count 1 (omega arith) ∙ go (build_items F (items_at links at count))
    where
      go : (o : Option (Templates ℕ)) → add_items 1 o ≡ built_size (of_items o)
      go none = refl
      go (some ts) = refl
  head_size_lem literal_of q (suc (suc (suc zero))) at count h f = fields_sum literal_of at count (1 + count) (f refl) ∙ go (build_fields F (keyed_at literal_of links at count)) refl
    where
      go : (o : Option (TemplateFields ℕ)) → build_fields F (keyed_at literal_of links at count) ≡ o → add_fields (1 + count) o ≡ built_size (of_fields o)
      go none e = refl
      go (some ts) e = let r = fields_size literal_of at count ts e in same (size_fields (put_fields (λ x. literalᵛ 0 null) ts)) (value_sizes ts) r
        where
          same : (x v : ℕ) → x ≡ count + v → min 513 (1 + count + v) ≡ min 513 (1 + x)
          same x v r = omega arith
  head_size_lem literal_of q (suc (suc (suc (suc k)))) at count h f = absurd (omega arith)

module _ (heads links classes : List ℕ) (linked : Linked heads links) (ok : ClassesOk classes) (literal_of : ℕ → Literal) where
  few_fields : (q : ℕ) → kind_at heads q ≡ 3 → 1 + count_at heads q ≤ 513
  few_fields q e = let h = linked.objects q e in omega arith

  place_built : (q : ℕ) (sizes : List ℕ) (F : ℕ → Option (Template ℕ)) → ((x : ℕ) → x < 2052 → get_or sizes x 0 ≡ built_size (F x)) → place_size heads links sizes q ≡ built_size (build_head F q (head_at literal_of heads links q))
  unfolding place_size head_at
  place_built q sizes F each = head_size_lem links sizes F linked.places each literal_of q (kind_at heads q) (start_at heads q) (count_at heads q) (linked.kinds q) (few_fields q)

  -- the size of what is built of k levels, at most 513
  pub level_sizes : (k p : ℕ) → p < 2052 → get_or (sizes_after heads links classes k) p 0 ≡ built_size (build (head_at literal_of heads links) (class_in classes) k p)
  unfolding sizes_after build
  level_sizes zero p h = zero_at 2052 p
  level_sizes (suc k) p h =
      let z : 0 + p ≡ p = omega arith in
      get_d_tabulate (level_size heads links classes (sizes_after heads links classes k)) 0 2052 p h
      ∙ (ap (level_size heads links classes (sizes_after heads links classes k)) z ∙ at_class (class_in classes p) (λ x y. level_sizes k x y))
    where
      at_class : (q : ℕ) → ((x : ℕ) → x < 2052 → get_or (sizes_after heads links classes k) x 0 ≡ built_size (build (head_at literal_of heads links) (class_in classes) k x))
          → place_size heads links (sizes_after heads links classes k) q ≡ built_size (build_head (build (head_at literal_of heads links) (class_in classes) k) q (head_at literal_of heads links q))
      at_class q each = place_built q (sizes_after heads links classes k) (build (head_at literal_of heads links) (class_in classes) k) each
