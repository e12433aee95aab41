-- What is built of heads whose keys ascend is in key order.
use Prim.Native.Nat.{ℕ, zero, suc, ◌*◌}
use mathlib.Core.Bool.{true, false, false≢true}
use mathlib.Core.List.{List, [], ◌∷◌}
use mathlib.Core.Option.{Option, some}
use mathlib.Core.Path.{◌≡◌}
use Rattle.literal.specs.Literal.{Literal, null}
use Rattle.table.specs.Tables.{Tables}
use Rattle.planner.specs.Simple.{simple}
use Rattle.value.specs.Value.{literalᵛ}
use Rattle.common_example.specs.Overlap.{AfterKey, InOrder, AllInOrder, FieldsInOrder, Template, hole, literalᵗ, Templates, noneᵗ, TemplateFields, doneᵗ, put_in, put_all, put_fields, example}
use Rattle.common_example.specs.Unify.{Keyed, no_key, keyed_by, Head, free, leaf, items, keyed, build_items, build_fields, build_head, build}
use Rattle.common_example.specs.Places.{GraphPlace, nodeᵖ, nameᵖ, same_place, graph_places, graph_place_of, pick_held, graph, overlap}
use Rattle.common_example.specs.Operations.{tree_of}
use Rattle.common_example.proofs.unify.Heads.{AboveKey, Ascending, KeysAscend}
use Rattle.common_example.proofs.unify.Building.{and_item_back, and_field_back, of_items_back, of_fields_back}
use Rattle.common_example.proofs.patterns.Patterns.{if_ascends}
use Rattle.common_example.proofs.unify.Unified.{classes_of_lem}

module _ {P : Type 0} (g : P → Head P) (d : P → P) (ascend : (p : P) → KeysAscend (g p)) where
  module _ (F : P → Option (Template P)) (each : (p : P) (t : Template P) → F p ≡ some t → InOrder (example t)) where
    items_ordered : (ps : List P) (ts : Templates P) → build_items F ps ≡ some ts → AllInOrder (put_all (λ x. literalᵛ 0 null) ts)
    unfolding build_items put_in
    items_ordered [] ts e = let q : noneᵗ ≡ ts = cc in rw (← q) tt
    items_ordered (p ∷ ps) ts e =
        let (t, us, a, b, c) = and_item_back (F p) (build_items F ps) ts e in
        rw (← c) (each p t a, items_ordered ps us b)

    after : (k : Literal) (fs : Keyed P) (ts : TemplateFields P) → AboveKey k fs → build_fields F fs ≡ some ts → AfterKey k (put_fields (λ x. literalᵛ 0 null) ts)
    unfolding build_fields put_in
    after k no_key ts a e = let q : doneᵗ ≡ ts = cc in rw (← q) tt
    after k (keyed_by l p fs) ts a e =
        let (t, us, x, b, c) = and_field_back l (F p) (build_fields F fs) ts e in
        rw (← c) (a.0, after k fs us a.1 b)

    fields_ordered : (fs : Keyed P) (ts : TemplateFields P) → Ascending fs → build_fields F fs ≡ some ts → FieldsInOrder (put_fields (λ x. literalᵛ 0 null) ts)
    unfolding build_fields put_in
    fields_ordered no_key ts h e = let q : doneᵗ ≡ ts = cc in rw (← q) tt
    fields_ordered (keyed_by k p fs) ts h e =
        let (t, us, a, b, c) = and_field_back k (F p) (build_fields F fs) ts e in
        rw (← c) (after k fs us h.0 b, each p t a, fields_ordered fs us h.1 b)

    head_ordered : (p : P) (h : Head P) (t : Template P) → KeysAscend h → build_head F p h ≡ some t → InOrder (example t)
    unfolding put_in
    head_ordered p free t a e = let q : hole p ≡ t = cc in rw (← q) tt
    head_ordered p (leaf l) t a e = let q : literalᵗ l ≡ t = cc in rw (← q) tt
    head_ordered p (items ps) t a e = let (ts, b, c) = of_items_back (build_items F ps) t e in rw (← c) (items_ordered ps ts b)
    head_ordered p (keyed fs) t a e = let (ts, b, c) = of_fields_back (build_fields F fs) t e in rw (← c) (fields_ordered fs ts a b)

  build_ordered : (f : ℕ) (p : P) (t : Template P) → build g d f p ≡ some t → InOrder (example t)
  unfolding build
  build_ordered zero p t e = absurd (false≢true (cc))
  build_ordered (suc f) p t e = head_ordered (build g d f) (build_ordered f) (d p) (g (d p)) t (ascend (d p)) e

module _ (T : Tables) (held₁ held₂ : ℕ → Option ℕ) where
  graph_ascends : (p : GraphPlace) → KeysAscend (graph (tree_of T) held₁ held₂ p)
  graph_ascends (nodeᵖ s n) = if_ascends (pick_held s held₁ held₂) s (simple (tree_of T n)) (tree_of T n)
  graph_ascends (nameᵖ s x) = tt

  pub example_ordered : (limit root₁ root₂ : ℕ) (t : Template GraphPlace) → overlap (tree_of T) held₁ held₂ limit root₁ root₂ ≡ some t → InOrder (example t)
  example_ordered limit root₁ root₂ t e =
      let b = classes_of_lem same_place (graph (tree_of T) held₁ held₂) (graph_places limit) (limit * 4) (graph_place_of held₁ true (tree_of T root₁)) (graph_place_of held₂ false (tree_of T root₂)) t e in
      build_ordered (graph (tree_of T) held₁ held₂) b.0 graph_ascends (limit * 4) (graph_place_of held₁ true (tree_of T root₁)) t b.1
