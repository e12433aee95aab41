-- The central theorem: what `overlap` finds is the answer. The values that both patterns match are the template's instances, and it finds none only if there is no such value.
use Prim.Native.Nat.{ℕ, zero, suc, ◌*◌, ◌≤◌}
use mathlib.Core.Bool.{Bool, true, false}
use mathlib.Core.Option.{Option, none, some}
use mathlib.Core.Path.{◌≡◌, refl, ap, ap₂, sym, ◌∙◌}
use native.Mathlib.Omega.{arith}
use lib.Dec.{T, eqb, eqb→eq, eqb_refl}
use lib.ListN.{length}
use Rattle.literal.specs.Literal.{null}
use Rattle.table.specs.Expr.{Expr, node_of, parts}
use Rattle.base.specs.Lists.{no_repeat}
use Rattle.planner.specs.Simple.{simple}
use Rattle.value.specs.Value.{Value, literalᵛ, proper, Proper, Same}
use Rattle.value.proofs.Keys.{and_left, and_right, both}
use Rattle.matching.specs.Matching.{ProperValue, fill}
use Rattle.matching.proofs.Fits.{filled}
use Rattle.common_example.specs.Overlap.{Template, put_in, example, PatternMatches, Instance, BothMatch, OverlapAnswer}
use Rattle.common_example.specs.Unify.{Head, join_pair, build}
use Rattle.common_example.specs.Places.{GraphPlace, nodeᵖ, nameᵖ, same_side, same_place, graph_places, graph_place_of, pick_held, graph, known_by, overlap}
use Rattle.value.proofs.Equal.{Meaning, meaning, same→, same←}
use Rattle.common_example.proofs.unify.Closing.{Tells}
use Rattle.common_example.proofs.unify.Rounds.{Closed}
use Rattle.common_example.proofs.unify.Counting.{Among, HeadAmong}
use Rattle.common_example.proofs.unify.Building.{meaning_put, build_proper, build_same}
use Rattle.common_example.proofs.unify.Unified.{Bounded, built_of, instance_of, not_none}
use Rattle.common_example.proofs.patterns.Blanks.{blanks_by, blank_at, blanks_back}
use Rattle.common_example.proofs.patterns.Patterns.{Family, HoldValues, graph_ascends, graph_differs, names_of, names_proper, valued, meaning_of, place_value, solved, built_names, built_blanks, filled_in, fills}

side_equal : (s t : Bool) → T (same_side s t) → s ≡ t
side_equal true true h = refl
side_equal true false h = absurd h
side_equal false true h = absurd h
side_equal false false h = refl

side_same : (s : Bool) → T (same_side s s)
side_same true = tt
side_same false = tt

place_equal : (p q : GraphPlace) → T (same_place p q) → p ≡ q
place_equal (nodeᵖ s n) (nodeᵖ t m) h = ap₂ nodeᵖ (side_equal s t (and_left (same_side s t) (eqb n m) h)) (eqb→eq n m (and_right (same_side s t) (eqb n m) h))
place_equal (nodeᵖ s n) (nameᵖ t m) h = absurd h
place_equal (nameᵖ s n) (nodeᵖ t m) h = absurd h
place_equal (nameᵖ s n) (nameᵖ t m) h = ap₂ nameᵖ (side_equal s t (and_left (same_side s t) (eqb n m) h)) (eqb→eq n m (and_right (same_side s t) (eqb n m) h))

place_same : (p : GraphPlace) → T (same_place p p)
place_same (nodeᵖ s n) = both (same_side s s) (eqb n n) (side_same s) (eqb_refl n)
place_same (nameᵖ s n) = both (same_side s s) (eqb n n) (side_same s) (eqb_refl n)

pub place_tells : Tells same_place
place_tells = record { equal = place_equal; same = place_same }

places_count : (n : ℕ) → length (graph_places n) ≡ n * 4
unfolding graph_places
places_count zero = refl
places_count (suc n) = let e = places_count n in omega arith

abbrev choose_side : {A : Type 0} → A → A → Bool → A
choose_side a b true = a
choose_side a b false = b

module _ (tree : ℕ → Expr) (held₁ held₂ : ℕ → Option ℕ) (limit root₁ root₂ : ℕ) where
  abbrev start₁ : GraphPlace
  start₁ = graph_place_of held₁ true (tree root₁)

  abbrev start₂ : GraphPlace
  start₂ = graph_place_of held₂ false (tree root₂)

  -- what is asked: trees of nodes, within the limit; known names hold values; simple patterns whose nodes all differ
  pub record Asks : Type 0 where
    pub family : Family tree
    pub hold_values : HoldValues tree held₁ held₂ family
    pub inside : (p : GraphPlace) → HeadAmong (graph_places limit) (graph tree held₁ held₂ p)
    pub simple₁ : T (simple (tree root₁))
    pub simple₂ : T (simple (tree root₂))
    pub nodes_differ₁ : no_repeat (parts (tree root₁)) ≡ true
    pub nodes_differ₂ : no_repeat (parts (tree root₂)) ≡ true
    pub inside₁ : Among start₁ (graph_places limit)
    pub inside₂ : Among start₂ (graph_places limit)

  module _ (asks : Asks) where
    abbrev g : GraphPlace → Head GraphPlace
    g = graph tree held₁ held₂

    abbrev fam : Family tree
    fam = asks.family

    abbrev vals : HoldValues tree held₁ held₂ fam
    vals = asks.hold_values

    own : (n : ℕ) → tree (node_of (tree n)) ≡ tree n
    own n = ap tree (fam.nodes n)

    bounded : Bounded g (graph_places limit)
    bounded = record { ascend = graph_ascends tree held₁ held₂ fam; inside = asks.inside }

    few : length (graph_places limit) ≤ limit * 4
    few = let e = places_count limit in omega arith

    -- two fillings, of one value
    module _ (v : Value) (m₁ : PatternMatches (known_by tree held₁) (tree root₁) v) (m₂ : PatternMatches (known_by tree held₂) (tree root₂) v) where
      abbrev ρ : Bool → ℕ → ProperValue
      ρ = choose_side m₁.0.names m₂.0.names

      abbrev β : Bool → ℕ → ProperValue
      β = choose_side (blank_at (tree root₁) m₁.0.blanks) (blank_at (tree root₂) m₂.0.blanks)

      abbrev μ : GraphPlace → Meaning
      μ = meaning_of tree held₁ held₂ fam vals ρ β

      first : μ start₁ ≡ meaning v
      first =
          let b = blanks_back (tree root₁) m₁.0.blanks asks.nodes_differ₁ in
          sym (place_value tree held₁ held₂ fam vals ρ β true (tree root₁) (own root₁) asks.simple₁)
          ∙ (ap (λ c. meaning (fill (names_of tree held₁ held₂ fam vals ρ β true) (tree root₁) c)) b ∙ same→ (fill (names_of tree held₁ held₂ fam vals ρ β true) (tree root₁) m₁.0.blanks) v m₁.1)

      second : μ start₂ ≡ meaning v
      second =
          let b = blanks_back (tree root₂) m₂.0.blanks asks.nodes_differ₂ in
          sym (place_value tree held₁ held₂ fam vals ρ β false (tree root₂) (own root₂) asks.simple₂)
          ∙ (ap (λ c. meaning (fill (names_of tree held₁ held₂ fam vals ρ β false) (tree root₂) c)) b ∙ same→ (fill (names_of tree held₁ held₂ fam vals ρ β false) (tree root₂) m₂.0.blanks) v m₂.1)

      there : overlap tree held₁ held₂ limit root₁ root₂ ≡ none → ⊥
      there e = not_none same_place place_tells g (graph_places limit) bounded (limit * 4) start₁ start₂ asks.inside₁ asks.inside₂ μ (solved tree held₁ held₂ fam vals ρ β) (first ∙ sym second) few e

      is_instance : (t : Template GraphPlace) → overlap tree held₁ held₂ limit root₁ root₂ ≡ some t → Instance t v
      is_instance t e =
          let b = built_of same_place place_tells g (graph_places limit) bounded (limit * 4) start₁ start₂ asks.inside₁ asks.inside₂ t e in
          let p = build_proper g b.classes (graph_differs tree held₁ held₂ fam) (λ x. (valued tree held₁ held₂ fam vals ρ β x).value) (λ x. (valued tree held₁ held₂ fam vals ρ β x).is_proper) (limit * 4) start₁ t b.is_built in (
            valued tree held₁ held₂ fam vals ρ β,
            same← (put_in (λ x. (valued tree held₁ held₂ fam vals ρ β x).value) t) v p
                (meaning_put (λ x. (valued tree held₁ held₂ fam vals ρ β x).value) t ∙ (instance_of same_place place_tells g (graph_places limit) bounded (limit * 4) start₁ start₂ asks.inside₁ asks.inside₂ μ (solved tree held₁ held₂ fam vals ρ β) (first ∙ sym second) t e ∙ first)),
          )

    -- an instance is matched
    module _ (t : Template GraphPlace) (e : overlap tree held₁ held₂ limit root₁ root₂ ≡ some t) (σ : GraphPlace → ProperValue) where
      abbrev holes : GraphPlace → Value
      holes x = (σ x).value

      abbrev d : GraphPlace → GraphPlace
      d = (built_of same_place place_tells g (graph_places limit) bounded (limit * 4) start₁ start₂ asks.inside₁ asks.inside₂ t e).classes

      closed_by : Closed same_place place_tells g (graph_places limit) bounded.inside (join_pair same_place g start₁ start₂ (λ p. p)) d
      closed_by = (built_of same_place place_tells g (graph_places limit) bounded (limit * 4) start₁ start₂ asks.inside₁ asks.inside₂ t e).is_closed

      is_built : build g d (limit * 4) start₁ ≡ some t
      is_built = (built_of same_place place_tells g (graph_places limit) bounded (limit * 4) start₁ start₂ asks.inside₁ asks.inside₂ t e).is_built

      abbrev names : Bool → ℕ → ProperValue
      names = built_names tree held₁ held₂ fam vals d closed_by.agrees (limit * 4) σ

      abbrev blanks : Bool → ℕ → ProperValue
      blanks = built_blanks tree held₁ held₂ fam vals d closed_by.agrees (limit * 4) σ

      abbrev filled_side : Bool → ℕ → Value
      filled_side s root = filled_in tree held₁ held₂ fam vals d closed_by.agrees (limit * 4) σ s (tree root)

      side_matches : (s : Bool) (root : ℕ) (v : Value) → T (simple (tree root)) → build g d (limit * 4) (graph_place_of (pick_held s held₁ held₂) s (tree root)) ≡ some t → Same (put_in holes t) v → Same (filled_side s root) v
      side_matches s root v i b q =
          same← (filled_side s root) v
          (filled (names_of tree held₁ held₂ fam vals names blanks s) (tree root) (blanks_by (blanks s) (tree root)) i (names_proper tree held₁ held₂ fam vals names blanks s))
          (fills tree held₁ held₂ fam vals d closed_by.agrees (limit * 4) σ s (tree root) (own root) i t b ∙ (sym (meaning_put holes t) ∙ same→ (put_in holes t) v q))

      both_match : (v : Value) → Same (put_in holes t) v → BothMatch (known_by tree held₁) (known_by tree held₂) (tree root₁) (tree root₂) v
      both_match v q = (
        (record { names = names true; blanks = blanks_by (blanks true) (tree root₁) }, side_matches true root₁ v asks.simple₁ is_built q),
        (record { names = names false; blanks = blanks_by (blanks false) (tree root₂) }, side_matches false root₂ v asks.simple₂ (build_same g d (limit * 4) start₂ start₁ (sym (built_of same_place place_tells g (graph_places limit) bounded (limit * 4) start₁ start₂ asks.inside₁ asks.inside₂ t e).joins) ∙ is_built) q),
      )

    example_proper : (t : Template GraphPlace) → overlap tree held₁ held₂ limit root₁ root₂ ≡ some t → Proper (example t)
    unfolding proper
    example_proper t e =
        let b = built_of same_place place_tells g (graph_places limit) bounded (limit * 4) start₁ start₂ asks.inside₁ asks.inside₂ t e in
        build_proper g b.classes (graph_differs tree held₁ held₂ fam) (λ x. literalᵛ 0 null) (λ x. tt) (limit * 4) start₁ t b.is_built

    pub answer : OverlapAnswer (known_by tree held₁) (known_by tree held₂) (tree root₁) (tree root₂) (overlap tree held₁ held₂ limit root₁ root₂)
    answer = go (overlap tree held₁ held₂ limit root₁ root₂) refl
      where
        go : (o : Option (Template GraphPlace)) → overlap tree held₁ held₂ limit root₁ root₂ ≡ o → OverlapAnswer (known_by tree held₁) (known_by tree held₂) (tree root₁) (tree root₂) o
        go none e = λ v p m. there v m.0 m.1 e
        go (some t) e = record { is_value = example_proper t e; each = λ v p m. is_instance v m.0 m.1 t e; only = λ v p i. both_match t e i.0 v i.1 }
