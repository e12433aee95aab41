-- The graph of two patterns: a filling of both is a solution, and a template's values fill both.
use Prim.Native.Nat.{ℕ}
use mathlib.Core.Bool.{Bool, true, false, ◌&&◌, ◌||◌, false≢true}
use mathlib.Core.Option.{Option, none, some}
use mathlib.Core.Path.{◌≡◌, refl, ap, ap₂, sym, subst, ◌∙◌, fun_ext}
use lib.Dec.{T, eqb_refl}
use Rattle.literal.specs.Literal.{Literal}
use Rattle.table.specs.Expr as Expr
use Rattle.table.specs.Expr.{Expr, literal, name, wildcard, array, set, object, other, Exprs, item, Fields, done, field, node_of}
use Rattle.planner.specs.Layout.{literal_key}
use Rattle.planner.specs.Simple.{admitted, same_key, differing, keys_of, is_literal, simple, simple_all, simple_fields, mentions}
use Rattle.planner.specs.Names.{occurrences}
use Rattle.planner.proofs.laws.Mentions.{mentions_any, mentions_fields, mentions_name, mentions_item, mentions_field}
use Rattle.value.specs.Value.{Value, is_value, filled_field, Proper}
use Rattle.value.proofs.Keys.{and_left, and_right, or_left, or_right, is_true}
use Rattle.value.proofs.Admitted.{value_proper}
use Rattle.matching.specs.Matching.{ProperValue, fill, fill_all, fill_fields_lem, or_else}
use Rattle.matching.proofs.Fits.{filled}
use Rattle.common_example.specs.Overlap.{Template, Templates, noneᵗ, put_in}
use Rattle.common_example.specs.Unify.{Head, pick_place, place_under, build_items, build}
use Rattle.common_example.specs.Places.{GraphPlace, nodeᵖ, nameᵖ, name_place, graph_place_of, places_of, keyed_of, head_of, head_if, pick_held, graph, value_from, known_by}
use Rattle.value.proofs.Equal.{Meaning, a_literal, an_array, an_object, one_more_lem, present, pick, meaning, meanings, meaning_at}
use Rattle.common_example.proofs.unify.Heads.{items_of, fields_of, same_fields, HeadOk, KeysDiffer, KeysAscend, ascend_differ, Agree}
use Rattle.common_example.proofs.patterns.InOrder.{written_field, written_of, ordered_ascends, ordered_under}
use Rattle.common_example.proofs.unify.Building.{meaningᵗ, meaningsᵗ, and_item_back, build_proper, built_leaf, built_items, built_fields, built_at, meantᵗ, under_template, meaning_put}
use Rattle.common_example.proofs.patterns.Blanks.{null_value, blanks_by, blanks_all_by, blanks_fields_by, fill_value, value_simple, value_silent}

-- the trees of nodes: each node's children are the trees of their nodes
module _ (tree : ℕ → Expr) where
  abbrev pub Owns : Exprs → Type 0
  Owns Expr.none = Unit {0}
  Owns (item e es) = (tree (node_of e) ≡ e) × Owns es

  abbrev pub OwnsFields : Fields → Type 0
  OwnsFields done = Unit {0}
  OwnsFields (field k v fs) = (tree (node_of v) ≡ v) × OwnsFields fs

  abbrev pub OwnsChildren : Expr → Type 0
  OwnsChildren (literal n l) = Unit {0}
  OwnsChildren (name n x) = Unit {0}
  OwnsChildren (wildcard n) = Unit {0}
  OwnsChildren (array n es) = Owns es
  OwnsChildren (set n es) = Unit {0}
  OwnsChildren (object n fs) = OwnsFields fs
  OwnsChildren (other n) = Unit {0}

  pub record Family : Type 0 where
    pub nodes : (n : ℕ) → node_of (tree n) ≡ n
    pub children : (n : ℕ) → OwnsChildren (tree n)

abbrev chosen : (b : Bool) (v : Value) → (T b → Proper v) → ProperValue
chosen true v f = record { value = v; is_proper = f tt }
chosen false v f = null_value

chosen_value_lem : (b : Bool) (v : Value) (f : T b → Proper v) → T b → (chosen b v f).value ≡ v
chosen_value_lem true v f t = refl
chosen_value_lem false v f t = absurd t

module _ (held : ℕ → Option ℕ) (side : Bool) where
  head_ascends : (e : Expr) → KeysAscend (head_of held side e)
  head_ascends (literal n l) = tt
  head_ascends (name n x) = tt
  head_ascends (wildcard n) = tt
  head_ascends (array n es) = tt
  head_ascends (set n es) = tt
  head_ascends (object n fs) = ordered_ascends held side fs
  head_ascends (other n) = tt

  pub if_ascends : (b : Bool) (e : Expr) → KeysAscend (head_if held side b e)
  if_ascends true e = head_ascends e
  if_ascends false e = tt

module _ (tree : ℕ → Expr) (held₁ held₂ : ℕ → Option ℕ) (family : Family tree) where
  abbrev held_of : Bool → ℕ → Option ℕ
  held_of s = pick_held s held₁ held₂

  -- known names hold values
  abbrev pub HoldValues : Type 0
  HoldValues = (s : Bool) (x m : ℕ) → held_of s x ≡ some m → T (is_value (tree m))

  pub graph_ascends : (p : GraphPlace) → KeysAscend (graph tree held₁ held₂ p)
  graph_ascends (nodeᵖ s n) = if_ascends (held_of s) s (simple (tree n)) (tree n)
  graph_ascends (nameᵖ s x) = tt

  pub graph_differs : (p : GraphPlace) → KeysDiffer (graph tree held₁ held₂ p)
  graph_differs p = ascend_differ (graph tree held₁ held₂ p) (graph_ascends p)

  module _ (values : HoldValues) where
    -- the graph at a child
    graph_at : (s : Bool) (e : Expr) → tree (node_of e) ≡ e → T (simple e) → graph tree held₁ held₂ (nodeᵖ s (node_of e)) ≡ head_of (held_of s) s e
    graph_at s e q t = let b : simple e ≡ true = is_true t in ap (λ e'. head_if (held_of s) s (simple e') e') q ∙ ap (λ b'. head_if (held_of s) s b' e) b

    own_children : (e : Expr) → tree (node_of e) ≡ e → OwnsChildren tree e
    own_children e q = rw q at (family.children (node_of e))

    -- 1. From a filling of each side to a solution.
    module _ (ρ β : Bool → ℕ → ProperValue) where
      -- the names' values on a side: known names keep theirs
      abbrev pub names_of : Bool → ℕ → Value
      names_of s x = or_else (known_by tree (held_of s) x) (ρ s x).value

      pub names_proper : (s : Bool) (x : ℕ) → Proper (names_of s x)
      names_proper s x = go (held_of s x) refl
        where
          go : (o : Option ℕ) → held_of s x ≡ o → Proper (or_else (value_from tree o) (ρ s x).value)
          go none e = (ρ s x).is_proper
          go (some m) e = value_proper (tree m) (values s x m e)

      abbrev filled_by : Bool → Expr → Value
      filled_by s e = fill (names_of s) e (blanks_by (β s) e)

      -- a value for each place
      pub valued : GraphPlace → ProperValue
      valued (nodeᵖ s n) = chosen (simple (tree n)) (filled_by s (tree n)) (λ t. filled (names_of s) (tree n) (blanks_by (β s) (tree n)) t (names_proper s))
      valued (nameᵖ s x) = ρ s x

      abbrev pub meaning_of : GraphPlace → Meaning
      meaning_of p = meaning (valued p).value

      at_own : (s : Bool) (n : ℕ) → T (simple (tree n)) → meaning_of (nodeᵖ s n) ≡ meaning (filled_by s (tree n))
      unfolding valued
      at_own s n t = ap meaning (chosen_value_lem (simple (tree n)) (filled_by s (tree n)) (λ t'. filled (names_of s) (tree n) (blanks_by (β s) (tree n)) t' (names_proper s)) t)

      at_node : (s : Bool) (n : ℕ) (e : Expr) → tree n ≡ e → T (simple e) → meaning_of (nodeᵖ s n) ≡ meaning (filled_by s e)
      at_node s n e q t = at_own s n (rw q t) ∙ ap (λ e'. meaning (filled_by s e')) q

      -- an expression's value is its place's
      pub place_value : (s : Bool) (e : Expr) → tree (node_of e) ≡ e → T (simple e) → meaning (filled_by s e) ≡ meaning_of (graph_place_of (held_of s) s e)
      unfolding fill valued
      place_value s (literal n l) q t = sym (at_node s n (literal n l) q t)
      place_value s (name n x) q t = go (held_of s x) refl
        where
          go : (o : Option ℕ) → held_of s x ≡ o → meaning (or_else (value_from tree o) (ρ s x).value) ≡ meaning_of (name_place (held_of s) s x o)
          go none e = refl
          go (some m) e = let v = values s x m e in sym (at_own s m (value_simple (tree m) v) ∙ ap meaning (fill_value (names_of s) (tree m) (blanks_by (β s) (tree m)) v))
      place_value s (wildcard n) q t = sym (at_node s n (wildcard n) q t)
      place_value s (array n es) q t = sym (at_node s n (array n es) q t)
      place_value s (set n es) q t = sym (at_node s n (set n es) q t)
      place_value s (object n fs) q t = sym (at_node s n (object n fs) q t)
      place_value s (other n) q t = sym (at_node s n (other n) q t)

      items_valued : (s : Bool) (es : Exprs) → Owns tree es → T (simple_all es) → meanings (fill_all (names_of s) es (blanks_all_by (β s) es)) ≡ items_of meaning_of (places_of (held_of s) s es)
      unfolding fill meaning items_of places_of blanks_by admitted
      items_valued s Expr.none o t = refl
      items_valued s (item e es) o t = ap₂ one_more_lem (place_value s e o.0 (and_left (simple e) (simple_all es) t)) (items_valued s es o.1 (and_right (simple e) (simple_all es) t))

      fields_valued : (s : Bool) (fs : Fields) → OwnsFields tree fs → T (simple_fields fs) → (k : Literal) → meaning_at (fill_fields_lem (names_of s) fs (blanks_fields_by (β s) fs)) k ≡ fields_of meaning_of (written_of (held_of s) s fs) k
      unfolding fill meaning fields_of written_of blanks_by admitted
      fields_valued s done o t k = refl
      fields_valued s (field j v fs) o t k =
          let u = and_right (is_literal (literal_key j)) (simple v && simple_fields fs) t in
          go (literal_key j) (place_value s v o.0 (and_left (simple v) (simple_fields fs) u)) (fields_valued s fs o.1 (and_right (simple v) (simple_fields fs) u) k)
        where
          go : (κ : Option Literal) → meaning (filled_by s v) ≡ meaning_of (graph_place_of (held_of s) s v) → meaning_at (fill_fields_lem (names_of s) fs (blanks_fields_by (β s) fs)) k ≡ fields_of meaning_of (written_of (held_of s) s fs) k
              → meaning_at (filled_field κ (filled_by s v) (fill_fields_lem (names_of s) fs (blanks_fields_by (β s) fs))) k ≡ fields_of meaning_of (written_field (held_of s) s κ (graph_place_of (held_of s) s v) (written_of (held_of s) s fs)) k
          go (some l) p q = ap₂ (λ m r. pick (same_key k l) (present m) r) p q
          go none p q = q

      literal_meaning : (s : Bool) (m : ℕ) (l : Literal) → meaning (filled_by s (literal m l)) ≡ a_literal l
      unfolding fill meaning
      literal_meaning s m l = refl

      array_meaning : (s : Bool) (m : ℕ) (es : Exprs) → Owns tree es → T (simple (array m es)) → meaning (filled_by s (array m es)) ≡ an_array (items_of meaning_of (places_of (held_of s) s es))
      unfolding fill meaning blanks_by admitted
      array_meaning s m es o t = ap an_array (items_valued s es o t)

      object_meaning : (s : Bool) (m : ℕ) (fs : Fields) → OwnsFields tree fs → T (simple (object m fs)) → meaning (filled_by s (object m fs)) ≡ an_object (λ k. fields_of meaning_of (keyed_of (held_of s) s fs) k)
      unfolding fill meaning blanks_by admitted
      object_meaning s m fs o t =
          let d = and_left (differing (keys_of fs)) (simple_fields fs) t in
          ap an_object (fun_ext (λ k.
          fields_valued s fs o (and_right (differing (keys_of fs)) (simple_fields fs) t) k
          ∙ same_fields meaning_of k (written_of (held_of s) s fs) (keyed_of (held_of s) s fs) (sym (ordered_under (held_of s) s k fs d))))

      pub solved : (p : GraphPlace) → HeadOk meaning_of (graph tree held₁ held₂ p) (meaning_of p)
      solved (nodeᵖ s n) = go (simple (tree n)) (λ t. head (tree n) refl t (family.children n))
        where
          head : (e : Expr) → tree n ≡ e → T (simple e) → OwnsChildren tree e → HeadOk meaning_of (head_of (held_of s) s e) (meaning_of (nodeᵖ s n))
          head (literal m l) q t o = at_node s n (literal m l) q t ∙ literal_meaning s m l
          head (name m x) q t o = tt
          head (wildcard m) q t o = tt
          head (array m es) q t o = at_node s n (array m es) q t ∙ array_meaning s m es o t
          head (set m es) q t o = tt
          head (object m fs) q t o = at_node s n (object m fs) q t ∙ object_meaning s m fs o t
          head (other m) q t o = tt

          go : (b : Bool) → (T b → HeadOk meaning_of (head_of (held_of s) s (tree n)) (meaning_of (nodeᵖ s n))) → HeadOk meaning_of (head_if (held_of s) s b (tree n)) (meaning_of (nodeᵖ s n))
          go true f = f tt
          go false f = tt
      solved (nameᵖ s x) = tt

-- 2. From what is built for a class to a filling of each side.
abbrev built_value : {P : Type 0} (σ : P → Value) (o : Option (Template P)) → ((t : Template P) → o ≡ some t → Proper (put_in σ t)) → ProperValue
built_value σ none f = null_value
built_value σ (some t) f = record { value = put_in σ t; is_proper = f t refl }

built_value_lem : {P : Type 0} (σ : P → Value) (o : Option (Template P)) (f : (t : Template P) → o ≡ some t → Proper (put_in σ t)) (t : Template P) → o ≡ some t → (built_value σ o f).value ≡ put_in σ t
built_value_lem σ none f t e = absurd (false≢true (cc))
built_value_lem σ (some u) f t e = let q : u ≡ t = cc in ap (put_in σ) q

place_of_value : (held : ℕ → Option ℕ) (s : Bool) (e : Expr) → T (is_value e) → graph_place_of held s e ≡ nodeᵖ s (node_of e)
unfolding admitted
place_of_value held s (literal n l) t = refl
place_of_value held s (name n x) t = absurd t
place_of_value held s (wildcard n) t = refl
place_of_value held s (array n es) t = refl
place_of_value held s (set n es) t = refl
place_of_value held s (object n fs) t = refl
place_of_value held s (other n) t = refl

module _ (tree : ℕ → Expr) (held₁ held₂ : ℕ → Option ℕ) (family : Family tree) (values : HoldValues tree held₁ held₂ family) where
  abbrev g : GraphPlace → Head GraphPlace
  g = graph tree held₁ held₂

  abbrev held_at : Bool → ℕ → Option ℕ
  held_at s = pick_held s held₁ held₂

  module _ (d : GraphPlace → GraphPlace) (agrees : (p : GraphPlace) → Agree d (g p) (g (d p))) (n : ℕ) (σ : GraphPlace → ProperValue) where
    abbrev holes : GraphPlace → Value
    holes x = (σ x).value

    abbrev M : Template GraphPlace → Meaning
    M = meaningᵗ (λ x. meaning (holes x))

    abbrev B : GraphPlace → Option (Template GraphPlace)
    B = build g d n

    -- the value that a place has
    pub at_place : GraphPlace → ProperValue
    at_place p = built_value holes (B p) (build_proper g d (graph_differs tree held₁ held₂ family) holes (λ x. (σ x).is_proper) n p)

    at_built : (p : GraphPlace) (t : Template GraphPlace) → B p ≡ some t → meaning (at_place p).value ≡ M t
    unfolding at_place
    at_built p t e = ap meaning (built_value_lem holes (B p) (build_proper g d (graph_differs tree held₁ held₂ family) holes (λ x. (σ x).is_proper) n p) t e) ∙ meaning_put holes t

    abbrev pub built_names : Bool → ℕ → ProperValue
    built_names s x = at_place (nameᵖ s x)

    abbrev pub built_blanks : Bool → ℕ → ProperValue
    built_blanks s m = at_place (nodeᵖ s m)

    abbrev pub filled_in : Bool → Expr → Value
    filled_in s e = fill (names_of tree held₁ held₂ family values built_names built_blanks s) e (blanks_by (built_blanks s) e)

    abbrev NameOk : Bool → ℕ → Type 0
    NameOk s x = (t : Template GraphPlace) → B (name_place (held_at s) s x (held_at s x)) ≡ some t → meaning (names_of tree held₁ held₂ family values built_names built_blanks s x) ≡ M t

    -- an expression's filling means what was built for its place
    module _ (s : Bool) where
      -- a field, with what is said of its value and of the fields after it
      means_keyed : (j v : Expr) (fs : Fields) (k : Literal) (κ : Option Literal)
          → ((t : Template GraphPlace) → B (graph_place_of (held_at s) s v) ≡ some t → meaning (filled_in s v) ≡ M t)
          → (((p : GraphPlace) → place_under k (written_of (held_at s) s fs) ≡ some p → (u : Template GraphPlace) × (B p ≡ some u)) → meaning_at (fill_fields_lem (names_of tree held₁ held₂ family values built_names built_blanks s) fs (blanks_fields_by (built_blanks s) fs)) k ≡ meantᵗ (λ x. meaning (holes x)) (built_at g d agrees n (place_under k (written_of (held_at s) s fs))))
          → ((p : GraphPlace) → place_under k (written_field (held_at s) s κ (graph_place_of (held_at s) s v) (written_of (held_at s) s fs)) ≡ some p → (u : Template GraphPlace) × (B p ≡ some u))
          → meaning_at (filled_field κ (filled_in s v) (fill_fields_lem (names_of tree held₁ held₂ family values built_names built_blanks s) fs (blanks_fields_by (built_blanks s) fs))) k ≡ meantᵗ (λ x. meaning (holes x)) (built_at g d agrees n (place_under k (written_field (held_at s) s κ (graph_place_of (held_at s) s v) (written_of (held_at s) s fs))))
      unfolding meaning place_under
      means_keyed j v fs k none here rest each = rest each
      means_keyed j v fs k (some l) here rest each = go (same_key k l) each
        where
          go : (b : Bool) → ((p : GraphPlace) → pick_place b (graph_place_of (held_at s) s v) (place_under k (written_of (held_at s) s fs)) ≡ some p → (u : Template GraphPlace) × (B p ≡ some u))
              → pick b (present (meaning (filled_in s v))) (meaning_at (fill_fields_lem (names_of tree held₁ held₂ family values built_names built_blanks s) fs (blanks_fields_by (built_blanks s) fs)) k) ≡ meantᵗ (λ x. meaning (holes x)) (built_at g d agrees n (pick_place b (graph_place_of (held_at s) s v) (place_under k (written_of (held_at s) s fs))))
          go true h = let (u, e) = h (graph_place_of (held_at s) s v) refl in ap present (here u e) ∙ ap (meantᵗ (λ x. meaning (holes x))) (sym e)
          go false h = rest h

      mutual
        unfolding fill meaning meaningᵗ blanks_by admitted occurrences places_of written_of build_items place_under

        means : (e : Expr) → tree (node_of e) ≡ e → T (simple e) → ((x : ℕ) → T (mentions x e) → NameOk s x) → (t : Template GraphPlace) → B (graph_place_of (held_at s) s e) ≡ some t → meaning (filled_in s e) ≡ M t
        means (literal m l) q i f t e = ap M (built_leaf g d agrees n (nodeᵖ s m) t l (graph_at tree held₁ held₂ family values s (literal m l) q i) e)
        means (name m x) q i f t e = f x (subst T (sym (mentions_name x m x)) (eqb_refl x)) t e
        means (wildcard m) q i f t e = at_built (nodeᵖ s m) t e
        means (array m es) q i f t e =
            let (ts, a, b) = built_items g d agrees n (nodeᵖ s m) t (places_of (held_at s) s es) (graph_at tree held₁ held₂ family values s (array m es) q i) e in
            ap an_array (means_all es (own_children tree held₁ held₂ family values (array m es) q) i f ts a) ∙ ap M b
        means (set m es) q i f t e = absurd i
        means (object m fs) q i f t e =
            let r = built_fields g d agrees n (nodeᵖ s m) t (keyed_of (held_at s) s fs) (graph_at tree held₁ held₂ family values s (object m fs) q i) e in
            let o = own_children tree held₁ held₂ family values (object m fs) q in
            let j = and_right (differing (keys_of fs)) (simple_fields fs) i in
            let u = and_left (differing (keys_of fs)) (simple_fields fs) i in
            ap an_object (fun_ext (λ k. means_field fs o j f k (λ p q. r.each k p (ordered_under (held_at s) s k fs u ∙ q)) ∙ (ap (meantᵗ (λ x. meaning (holes x))) (sym (r.under k ∙ ap (built_at g d agrees n) (ordered_under (held_at s) s k fs u))) ∙ sym (under_template (λ x. meaning (holes x)) k r.fields)))) ∙ ap M r.is_object
        means (other m) q i f t e = absurd i

        means_all : (es : Exprs) → Owns tree es → T (simple_all es) → ((x : ℕ) → T (mentions_any x es) → NameOk s x) → (ts : Templates GraphPlace) → build_items B (places_of (held_at s) s es) ≡ some ts
            → meanings (fill_all (names_of tree held₁ held₂ family values built_names built_blanks s) es (blanks_all_by (built_blanks s) es)) ≡ meaningsᵗ (λ x. meaning (holes x)) ts
        means_all Expr.none o i f ts e = let q : noneᵗ ≡ ts = cc in ap (meaningsᵗ (λ x. meaning (holes x))) q
        means_all (item c es) o i f ts e =
            let (t, us, a, b, r) = and_item_back (B (graph_place_of (held_at s) s c)) (build_items B (places_of (held_at s) s es)) ts e in
            ap₂ one_more_lem
            (means c o.0 (and_left (simple c) (simple_all es) i) (λ x h. f x (subst T (sym (mentions_item x c es)) (or_left (mentions x c) (mentions_any x es) h))) t a)
            (means_all es o.1 (and_right (simple c) (simple_all es) i) (λ x h. f x (subst T (sym (mentions_item x c es)) (or_right (mentions x c) (mentions_any x es) h))) us b) ∙ ap (meaningsᵗ (λ x. meaning (holes x))) r

        means_field : (fs : Fields) → OwnsFields tree fs → T (simple_fields fs) → ((x : ℕ) → T (mentions_fields x fs) → NameOk s x) → (k : Literal)
            → ((p : GraphPlace) → place_under k (written_of (held_at s) s fs) ≡ some p → (u : Template GraphPlace) × (B p ≡ some u))
            → meaning_at (fill_fields_lem (names_of tree held₁ held₂ family values built_names built_blanks s) fs (blanks_fields_by (built_blanks s) fs)) k ≡ meantᵗ (λ x. meaning (holes x)) (built_at g d agrees n (place_under k (written_of (held_at s) s fs)))
        means_field done o i f k each = refl
        means_field (field j v fs) o i f k each =
            let u = and_right (is_literal (literal_key j)) (simple v && simple_fields fs) i in
            means_keyed j v fs k (literal_key j)
            (λ t e. means v o.0 (and_left (simple v) (simple_fields fs) u) (λ x h. f x (subst T (sym (mentions_field x j v fs)) (or_right (mentions x j) (mentions x v || mentions_fields x fs) (or_left (mentions x v) (mentions_fields x fs) h)))) t e)
            (λ each'. means_field fs o.1 (and_right (simple v) (simple_fields fs) u) (λ x h. f x (subst T (sym (mentions_field x j v fs)) (or_right (mentions x j) (mentions x v || mentions_fields x fs) (or_right (mentions x v) (mentions_fields x fs) h)))) k each')
            each

      name_ok_lem : (x : ℕ) → NameOk s x
      name_ok_lem x t e = go (held_at s x) refl e
        where
          go : (o : Option ℕ) → held_at s x ≡ o → B (name_place (held_at s) s x o) ≡ some t → meaning (or_else (value_from tree o) (at_place (nameᵖ s x)).value) ≡ M t
          go none q r = at_built (nameᵖ s x) t r
          go (some m) q r =
              let v = values s x m q in
              let own = family.nodes m in
              let here : B (graph_place_of (held_at s) s (tree m)) ≡ some t = ap B (place_of_value (held_at s) s (tree m) v ∙ ap (nodeᵖ s) own) ∙ r in
              sym (ap meaning (fill_value (names_of tree held₁ held₂ family values built_names built_blanks s) (tree m) (blanks_by (built_blanks s) (tree m)) v))
              ∙ means (tree m) (ap tree own) (value_simple (tree m) v) (λ y h. absurd (value_silent (tree m) y v h)) t here

      pub fills : (e : Expr) → tree (node_of e) ≡ e → T (simple e) → (t : Template GraphPlace) → B (graph_place_of (held_at s) s e) ≡ some t → meaning (filled_in s e) ≡ M t
      fills e q i t h = means e q i (λ x m. name_ok_lem x) t h
