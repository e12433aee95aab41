-- The size and the depth of a class's example, from those of its children's classes: what the code adds up, level by level.
use Prim.Native.Nat.{ℕ, suc, ◌+◌, max}
use mathlib.Core.List.{List, [], ◌∷◌}
use mathlib.Core.Option.{Option, none, some}
use mathlib.Core.Path.{◌≡◌, ap, ap₂, sym}
use Rattle.literal.specs.Literal.{null}
use Rattle.value.specs.Value.{Value, literalᵛ}
use Rattle.common_example.specs.Overlap.{Template, hole, literalᵗ, Templates, noneᵗ, TemplateFields, doneᵗ, put_in, put_all, put_fields, example, size, size_all, size_fields, depthᵛ, depth_allᵛ, depth_fieldsᵛ}
use Rattle.common_example.specs.Unify.{Keyed, no_key, keyed_by, Head, free, leaf, items, keyed, build_items, build_fields, build_head, build}
use Rattle.common_example.proofs.unify.Building.{and_item_back, and_field_back, of_items_back, of_fields_back}

module _ {P : Type 0} where
  -- of what was built; of nothing 0
  abbrev pub size_of : Option (Template P) → ℕ
  size_of none = 0
  size_of (some t) = size (example t)

  abbrev pub depth_of : Option (Template P) → ℕ
  depth_of none = 0
  depth_of (some t) = depthᵛ (example t)

  module _ (m : P → ℕ) where
    unfoldable pub add_items : List P → ℕ
    add_items [] = 0
    add_items (p ∷ ps) = m p + add_items ps

    unfoldable pub add_fields : Keyed P → ℕ
    add_fields no_key = 0
    add_fields (keyed_by k p fs) = 1 + (m p + add_fields fs)

    unfoldable pub deepest_item : List P → ℕ
    deepest_item [] = 0
    deepest_item (p ∷ ps) = max (m p) (deepest_item ps)

    unfoldable pub deepest_field : Keyed P → ℕ
    deepest_field no_key = 0
    deepest_field (keyed_by k p fs) = max 1 (max (m p) (deepest_field fs))

    abbrev pub head_size : Head P → ℕ
    head_size free = 1
    head_size (leaf l) = 1
    head_size (items ps) = 1 + add_items ps
    head_size (keyed fs) = 1 + add_fields fs

    abbrev pub head_depth : Head P → ℕ
    head_depth free = 1
    head_depth (leaf l) = 1
    head_depth (items ps) = 1 + deepest_item ps
    head_depth (keyed fs) = 1 + deepest_field fs

  module _ (F : P → Option (Template P)) where
    abbrev nulls : P → Value
    nulls x = literalᵛ 0 null

    items_size : (ps : List P) (ts : Templates P) → build_items F ps ≡ some ts → size_all (put_all nulls ts) ≡ add_items (λ p. size_of (F p)) ps
    unfolding build_items put_in size add_items
    items_size [] ts e = let q : noneᵗ ≡ ts = cc in rw (← q)
    items_size (p ∷ ps) ts e = let (t, us, a, b, c) = and_item_back (F p) (build_items F ps) ts e in rw (← c) (ap₂ ◌+◌ (sym (ap size_of a)) (items_size ps us b))

    fields_size : (fs : Keyed P) (ts : TemplateFields P) → build_fields F fs ≡ some ts → size_fields (put_fields nulls ts) ≡ add_fields (λ p. size_of (F p)) fs
    unfolding build_fields put_in size add_fields
    fields_size no_key ts e = let q : doneᵗ ≡ ts = cc in rw (← q)
    fields_size (keyed_by k p fs) ts e = let (t, us, a, b, c) = and_field_back k (F p) (build_fields F fs) ts e in rw (← c) (ap₂ (λ x y. 1 + (x + y)) (sym (ap size_of a)) (fields_size fs us b))

    items_depth : (ps : List P) (ts : Templates P) → build_items F ps ≡ some ts → depth_allᵛ (put_all nulls ts) ≡ deepest_item (λ p. depth_of (F p)) ps
    unfolding build_items put_in depthᵛ deepest_item
    items_depth [] ts e = let q : noneᵗ ≡ ts = cc in rw (← q)
    items_depth (p ∷ ps) ts e = let (t, us, a, b, c) = and_item_back (F p) (build_items F ps) ts e in rw (← c) (ap₂ max (sym (ap depth_of a)) (items_depth ps us b))

    fields_depth : (fs : Keyed P) (ts : TemplateFields P) → build_fields F fs ≡ some ts → depth_fieldsᵛ (put_fields nulls ts) ≡ deepest_field (λ p. depth_of (F p)) fs
    unfolding build_fields put_in depthᵛ deepest_field
    fields_depth no_key ts e = let q : doneᵗ ≡ ts = cc in rw (← q)
    fields_depth (keyed_by k p fs) ts e = let (t, us, a, b, c) = and_field_back k (F p) (build_fields F fs) ts e in rw (← c) (ap₂ (λ (x y : ℕ). max 1 (max x y)) (sym (ap depth_of a)) (fields_depth fs us b))

    head_size_lem : (p : P) (h : Head P) (t : Template P) → build_head F p h ≡ some t → size (example t) ≡ head_size (λ q. size_of (F q)) h
    unfolding put_in size
    head_size_lem p free t e = let q : hole p ≡ t = cc in rw (← q)
    head_size_lem p (leaf l) t e = let q : literalᵗ l ≡ t = cc in rw (← q)
    head_size_lem p (items ps) t e = let (ts, a, b) = of_items_back (build_items F ps) t e in rw (← b) (ap (λ x. 1 + x) (items_size ps ts a))
    head_size_lem p (keyed fs) t e = let (ts, a, b) = of_fields_back (build_fields F fs) t e in rw (← b) (ap (λ x. 1 + x) (fields_size fs ts a))

    head_depth_lem : (p : P) (h : Head P) (t : Template P) → build_head F p h ≡ some t → depthᵛ (example t) ≡ head_depth (λ q. depth_of (F q)) h
    unfolding put_in depthᵛ
    head_depth_lem p free t e = let q : hole p ≡ t = cc in rw (← q)
    head_depth_lem p (leaf l) t e = let q : literalᵗ l ≡ t = cc in rw (← q)
    head_depth_lem p (items ps) t e = let (ts, a, b) = of_items_back (build_items F ps) t e in rw (← b) (ap (λ x. 1 + x) (items_depth ps ts a))
    head_depth_lem p (keyed fs) t e = let (ts, a, b) = of_fields_back (build_fields F fs) t e in rw (← b) (ap (λ x. 1 + x) (fields_depth fs ts a))

  -- of a class that is built
  module _ (g : P → Head P) (d : P → P) where
    pub built_size_lem : (f : ℕ) (p : P) (t : Template P) → build g d (suc f) p ≡ some t → size (example t) ≡ head_size (λ q. size_of (build g d f q)) (g (d p))
    unfolding build
    built_size_lem f p t e = head_size_lem (build g d f) (d p) (g (d p)) t e

    pub built_depth : (f : ℕ) (p : P) (t : Template P) → build g d (suc f) p ≡ some t → depthᵛ (example t) ≡ head_depth (λ q. depth_of (build g d f q)) (g (d p))
    unfolding build
    built_depth f p t e = head_depth_lem (build g d f) (d p) (g (d p)) t e
