-- The values that two patterns both match, and the example that is given of them.
use Rattle.std.specs.Prelude.{ℕ, ◌+◌, max, ◌≡◌}
use Rattle.std.proofs.Math.Option.{Option, none, some}
use Rattle.literal.specs.Literal.{Literal, null}
use Rattle.literal.specs.Order.{less, key_order}
use Rattle.table.specs.Expr.{Expr}
use Rattle.value.specs.Value.{Value, literalᵛ, arrayᵛ, objectᵛ, Values, noneᵛ, itemᵛ, ValueFields, doneᵛ, fieldᵛ, Proper, Same}
use Rattle.matching.specs.Matching.{Env, ProperValue, Filling, fill, or_else}

-- 1. Matching, of one pattern: some filling makes pattern and value equal, where known names keep the values of `known`.
-- (At `known = start unbound listed` it is a filling with `Makes` of crate matching.)
abbrev pub PatternMatches : Env → Expr → Value → Type 0
PatternMatches known e v = (f : Filling e) × Same (fill (λ x. or_else (known x) (f.names x).value) e f.blanks) v

-- 2. A template is a value with holes; holes of one name stand for one value. `H` are the holes' names.
mutual
  pub data Template (H : Type 0) : Type 0 where
    hole : H → Template H
    literalᵗ : Literal → Template H
    arrayᵗ : Templates H → Template H
    objectᵗ : TemplateFields H → Template H

  pub data Templates (H : Type 0) : Type 0 where
    noneᵗ : Templates H
    itemᵗ : Template H → Templates H → Templates H

  pub data TemplateFields (H : Type 0) : Type 0 where
    doneᵗ : TemplateFields H
    fieldᵗ : Literal → Template H → TemplateFields H → TemplateFields H

-- the template with a value put_in for each hole
module _ {H : Type 0} (ρ : H → Value) where
  unfoldable mutual
    pub put_in : Template H → Value
    put_in (hole x) = ρ x
    put_in (literalᵗ l) = literalᵛ 0 l
    put_in (arrayᵗ ts) = arrayᵛ 0 (put_all ts)
    put_in (objectᵗ fs) = objectᵛ 0 (put_fields fs)

    pub put_all : Templates H → Values
    put_all noneᵗ = noneᵛ
    put_all (itemᵗ t ts) = itemᵛ (put_in t) (put_all ts)

    pub put_fields : TemplateFields H → ValueFields
    put_fields doneᵗ = doneᵛ
    put_fields (fieldᵗ k t fs) = fieldᵛ k (put_in t) (put_fields fs)

abbrev pub Instance : {H : Type 0} → Template H → Value → Type 0
Instance {H} t v = (ρ : H → ProperValue) × Same (put_in (λ x. (ρ x).value) t) v

-- The example: what nothing fixes is null.
abbrev pub example : {H : Type 0} → Template H → Value
example t = put_in (λ x. literalᵛ 0 null) t

-- 3. The answer. Two patterns, each with its own names: the values that both match are the instances of one template, or there are none.
module _ (known₁ known₂ : Env) (e₁ e₂ : Expr) where
  abbrev pub BothMatch : Value → Type 0
  BothMatch v = PatternMatches known₁ e₁ v × PatternMatches known₂ e₂ v

  pub record Overlap {H : Type 0} (t : Template H) : Type 0 where
    -- the example is a value: in each object the keys differ
    pub is_value : Proper (example t)
    -- nothing is left out: a value that both match has the template's form
    pub each : (v : Value) → Proper v → BothMatch v → Instance t v
    -- and nothing is fixed without need: whatever is put_in for the holes, both match
    pub only : (v : Value) → Proper v → Instance t v → BothMatch v

  abbrev pub NoOverlap : Type 0
  NoOverlap = (v : Value) → Proper v → BothMatch v → ⊥

  abbrev pub OverlapAnswer : {H : Type 0} → Option (Template H) → Type 0
  OverlapAnswer (some t) = Overlap t
  OverlapAnswer none = NoOverlap

-- Nodes of the example and its depth, null places counted; a field has a key and a value.
unfoldable mutual
  pub size : Value → ℕ
  size (literalᵛ n l) = 1
  size (arrayᵛ n vs) = 1 + size_all vs
  size (objectᵛ n fs) = 1 + size_fields fs

  pub size_all : Values → ℕ
  size_all noneᵛ = 0
  size_all (itemᵛ v vs) = size v + size_all vs

  pub size_fields : ValueFields → ℕ
  size_fields doneᵛ = 0
  size_fields (fieldᵛ k v fs) = 1 + (size v + size_fields fs)

unfoldable mutual
  pub depthᵛ : Value → ℕ
  depthᵛ (literalᵛ n l) = 1
  depthᵛ (arrayᵛ n vs) = 1 + depth_allᵛ vs
  depthᵛ (objectᵛ n fs) = 1 + depth_fieldsᵛ fs

  pub depth_allᵛ : Values → ℕ
  depth_allᵛ noneᵛ = 0
  depth_allᵛ (itemᵛ v vs) = max (depthᵛ v) (depth_allᵛ vs)

  -- a key has depth 1
  pub depth_fieldsᵛ : ValueFields → ℕ
  depth_fieldsᵛ doneᵛ = 0
  depth_fieldsᵛ (fieldᵛ k v fs) = max 1 (max (depthᵛ v) (depth_fieldsᵛ fs))

-- In each object of a value the keys ascend.
abbrev pub AfterKey : Literal → ValueFields → Type 0
AfterKey k doneᵛ = Unit {0}
AfterKey k (fieldᵛ l v fs) = (key_order k l ≡ less) × AfterKey k fs

abbrev mutual
  pub InOrder : Value → Type 0
  InOrder (literalᵛ n l) = Unit {0}
  InOrder (arrayᵛ n vs) = AllInOrder vs
  InOrder (objectᵛ n fs) = FieldsInOrder fs

  pub AllInOrder : Values → Type 0
  AllInOrder noneᵛ = Unit {0}
  AllInOrder (itemᵛ v vs) = InOrder v × AllInOrder vs

  pub FieldsInOrder : ValueFields → Type 0
  FieldsInOrder doneᵛ = Unit {0}
  FieldsInOrder (fieldᵛ k v fs) = AfterKey k fs × InOrder v × FieldsInOrder fs
