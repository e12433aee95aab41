-- What is built of so many levels is no deeper, and what is no deeper is built of so many levels.
use Prim.Native.Nat.{ℕ, zero, suc, ◌+◌, ◌≤◌, max}
use mathlib.Core.Bool.{false≢true}
use mathlib.Core.List.{List, [], ◌∷◌}
use mathlib.Core.Option.{Option, some}
use mathlib.Core.Path.{◌≡◌, ap}
use native.Mathlib.Omega.{arith}
use Rattle.literal.specs.Literal.{null}
use Rattle.value.specs.Value.{Value, literalᵛ, arrayᵛ, objectᵛ}
use Rattle.common_example.specs.Overlap.{Template, hole, literalᵗ, Templates, noneᵗ, TemplateFields, doneᵗ, put_in, put_all, put_fields, example, depthᵛ, depth_allᵛ, depth_fieldsᵛ}
use Rattle.common_example.specs.Unify.{Keyed, no_key, keyed_by, Head, free, leaf, items, keyed, build_items, build_fields, build_head, build}
use Rattle.common_example.proofs.unify.Building.{and_item_back, and_field_back, of_items_back, of_fields_back}

depth_one : (v : Value) → 1 ≤ depthᵛ v
unfolding depthᵛ
depth_one (literalᵛ n l) = omega arith
depth_one (arrayᵛ n vs) = omega arith
depth_one (objectᵛ n fs) = omega arith

max_left : (a b f : ℕ) → max a b ≤ f → a ≤ f
max_left a b f h = omega arith

max_right : (a b f : ℕ) → max a b ≤ f → b ≤ f
max_right a b f h = omega arith

module _ {P : Type 0} where
  abbrev nulls : P → Value
  nulls x = literalᵛ 0 null

  -- 1. no deeper
  module _ (F : P → Option (Template P)) (f : ℕ) (each : (p : P) (t : Template P) → F p ≡ some t → depthᵛ (example t) ≤ f) where
    items_shallow : (ps : List P) (ts : Templates P) → build_items F ps ≡ some ts → depth_allᵛ (put_all nulls ts) ≤ f
    unfolding build_items put_in depthᵛ
    items_shallow [] ts e = let q : noneᵗ ≡ ts = cc in rw (← q) (omega arith)
    items_shallow (p ∷ ps) ts e =
        let (t, us, a, b, c) = and_item_back (F p) (build_items F ps) ts e in
        let x = each p t a in
        let y = items_shallow ps us b in
        rw (← c) (omega (arith, x, y))

    fields_shallow : (fs : Keyed P) (ts : TemplateFields P) → build_fields F fs ≡ some ts → depth_fieldsᵛ (put_fields nulls ts) ≤ f
    unfolding build_fields put_in depthᵛ
    fields_shallow no_key ts e = let q : doneᵗ ≡ ts = cc in rw (← q) (omega arith)
    fields_shallow (keyed_by k p fs) ts e =
        let (t, us, a, b, c) = and_field_back k (F p) (build_fields F fs) ts e in
        let x = each p t a in
        let o = depth_one (example t) in
        let y = fields_shallow fs us b in
        rw (← c) (omega (arith, x, y, o))

    head_shallow : (p : P) (h : Head P) (t : Template P) → build_head F p h ≡ some t → depthᵛ (example t) ≤ suc f
    unfolding put_in depthᵛ
    head_shallow p free t e = let q : hole p ≡ t = cc in rw (← q) (omega arith)
    head_shallow p (leaf l) t e = let q : literalᵗ l ≡ t = cc in rw (← q) (omega arith)
    head_shallow p (items ps) t e = let (ts, a, b) = of_items_back (build_items F ps) t e in let x = items_shallow ps ts a in rw (← b) (omega (arith, x))
    head_shallow p (keyed fs) t e = let (ts, a, b) = of_fields_back (build_fields F fs) t e in let x = fields_shallow fs ts a in rw (← b) (omega (arith, x))

  -- 2. of fewer levels
  module _ (F G : P → Option (Template P)) (f : ℕ) (each : (p : P) (t : Template P) → F p ≡ some t → depthᵛ (example t) ≤ f → G p ≡ some t) where
    items_fewer : (ps : List P) (ts : Templates P) → build_items F ps ≡ some ts → depth_allᵛ (put_all nulls ts) ≤ f → build_items G ps ≡ some ts
    unfolding build_items put_in depthᵛ
    items_fewer [] ts e h = e
    items_fewer (p ∷ ps) ts e h =
        let (t, us, a, b, c) = and_item_back (F p) (build_items F ps) ts e in
        let h' : max (depthᵛ (example t)) (depth_allᵛ (put_all nulls us)) ≤ f = rw (← c) at h in
        let a' = each p t a (max_left _ _ f h') in
        let b' = items_fewer ps us b (max_right _ _ f h') in
        rw (a', b') (ap some c)

    fields_fewer : (fs : Keyed P) (ts : TemplateFields P) → build_fields F fs ≡ some ts → depth_fieldsᵛ (put_fields nulls ts) ≤ f → build_fields G fs ≡ some ts
    unfolding build_fields put_in depthᵛ
    fields_fewer no_key ts e h = e
    fields_fewer (keyed_by k p fs) ts e h =
        let (t, us, a, b, c) = and_field_back k (F p) (build_fields F fs) ts e in
        let h₁ : max 1 (max (depthᵛ (example t)) (depth_fieldsᵛ (put_fields nulls us))) ≤ f = rw (← c) at h in
        let h' = max_right 1 (max (depthᵛ (example t)) (depth_fieldsᵛ (put_fields nulls us))) f h₁ in
        let a' = each p t a (max_left (depthᵛ (example t)) (depth_fieldsᵛ (put_fields nulls us)) f h') in
        let b' = fields_fewer fs us b (max_right (depthᵛ (example t)) (depth_fieldsᵛ (put_fields nulls us)) f h') in
        rw (a', b') (ap some c)

    head_fewer : (p : P) (h : Head P) (t : Template P) → build_head F p h ≡ some t → depthᵛ (example t) ≤ suc f → build_head G p h ≡ some t
    unfolding put_in depthᵛ
    head_fewer p free t e h = e
    head_fewer p (leaf l) t e h = e
    head_fewer p (items ps) t e h =
        let (ts, a, b) = of_items_back (build_items F ps) t e in
        let h' : 1 + depth_allᵛ (put_all nulls ts) ≤ suc f = rw (← b) at h in
        let a' = items_fewer ps ts a (omega (arith, h')) in
        rw a' (ap some b)
    head_fewer p (keyed fs) t e h =
        let (ts, a, b) = of_fields_back (build_fields F fs) t e in
        let h' : 1 + depth_fieldsᵛ (put_fields nulls ts) ≤ suc f = rw (← b) at h in
        let a' = fields_fewer fs ts a (omega (arith, h')) in
        rw a' (ap some b)

  module _ (g : P → Head P) (d : P → P) where
    pub built_shallow : (f : ℕ) (p : P) (t : Template P) → build g d f p ≡ some t → depthᵛ (example t) ≤ f
    unfolding build
    built_shallow zero p t e = absurd (false≢true (cc))
    built_shallow (suc f) p t e = head_shallow (build g d f) f (built_shallow f) (d p) (g (d p)) t e

    pub built_fewer : (n f : ℕ) (p : P) (t : Template P) → build g d n p ≡ some t → depthᵛ (example t) ≤ f → build g d f p ≡ some t
    unfolding build
    built_fewer zero f p t e h = absurd (false≢true (cc))
    built_fewer (suc n) zero p t e h = let o = depth_one (example t) in absurd (omega (arith, o, h))
    built_fewer (suc n) (suc f) p t e h = head_fewer (build g d n) (build g d f) f (built_fewer n f) (d p) (g (d p)) t e h
