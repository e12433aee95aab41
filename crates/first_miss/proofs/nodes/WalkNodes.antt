-- A pattern's node and a value's node: what the walk over them comes to, by their kinds.
use Prim.Native.Nat.{ℕ, zero, suc, ◌+◌, ◌-◌, ◌*◌, ◌≤◌, ◌<◌}
use mathlib.Core.Path.{◌≡◌, refl, sym, ap, ap₂, ◌∙◌}
use mathlib.Core.List.{List}
use mathlib.Core.Bool.{Bool, true, false, cond, not, false≢true}
use mathlib.Core.Option.{Option, none, some}
use native.Mathlib.Omega.{arith}
use borrow.Author.Tests.{eq-eqb, ne_eqb, eqb-true, eqb-false}
use lib.Dec.{T as True, eqb}
use lib.ListN.{get_or, set as set_at}
use Rattle.literal.specs.Literal.{Literal}
use Rattle.table.specs.Tables.{Tables, kind_of, first_word_of, count_of}
use Rattle.table.specs.Decode.{expr, items, is_wildcard, named_by, fields_of}
use Rattle.table.specs.Expr.{Expr, literal, array, object}
use Rattle.table.proofs.trees.Trees.{expr_literal, expr_array, expr_object, expr_name}
use Rattle.planner.specs.Layout.{Slot}
use Rattle.planner.specs.Simple.{admitted}
use Rattle.planner.specs.code.Post.{NameNumber}
use Rattle.planner.proofs.fields.Objects.{node_of_lem}
use Rattle.value.specs.Value.{nodeᵛ, value_of, values_of, value_at, within, same}
use Rattle.value.specs.code.Post.{under_from, KeyedObject, KeySetsAsks, SameAsks}
use Rattle.value.proofs.Node.{value_node_lem}
use Rattle.value.proofs.Admitted.{value_keys, keyed_object}
use Rattle.value.proofs.SameValues.{ValueShape, value_literal, value_array, value_object, value_shape}
use Rattle.value.proofs.Under.{object_fielded, found_key, has_key_at, key_of}
use Rattle.value.proofs.Keys.{is_true, true_is, within→}
use Rattle.matching.specs.Matching.{Env}
use Rattle.matching.specs.code.Post.{env_of, ListOk}
use Rattle.matching.proofs.Patterns.{PatternShape, pattern_literal, pattern_wildcard, pattern_name, pattern_array, pattern_object, pattern_shape}
use Rattle.matching.proofs.Lists.{env_at, env_set, set_ok}
use Rattle.first_miss.specs.declared.Miss.{Miss}
use Rattle.first_miss.specs.declared.Why.TheVariants.{NameDiffers, LiteralDiffers, NoArray, OtherLength, NoObject, KeyMissing, KeyTooMany}
use Rattle.std.proofs.Common.{Some, None, Result, Ok, Err}
use Rattle.std.specs.Prelude as Prelude
use Rattle.first_miss.specs.Miss.{MissOutcome, matched, missed, miss_at, or_miss, missing_key, other_key, keys_first}
use Rattle.first_miss.specs.Operations.{key_at}
use Rattle.first_miss.specs.code.Walk.{naming, even, slots_of, walk}
use Rattle.first_miss.specs.code.Post.{keys_at, key_in, MissingTold, missed_by, literal_walked, array_walked, keys_walked, ObjectTold, PairAsks, LiteralAsks, ObjectAsks, WalkAsks, NameAsks, ItemsAsks, FieldsAsks, outcome_in, Came, walk_nodes, walk_listed, walk_under}
use Rattle.first_miss.proofs.trees.KeySets.{is_none, slots_keys, none_missing}

-- 1. A pair of nodes
module _ {T : Tables} {a b : ℕ} (pair : PairAsks T a b) where
  left_is : (e : Expr) × (expr T a ≡ e) × PatternShape T a e
  left_is = pattern_shape T pair.table a pair.node pair.is_simple

  right_is : (e : Expr) × (expr T b ≡ e) × ValueShape T b e
  right_is = value_shape T pair.table b pair.value_ok

  right_node : nodeᵛ (value_of (expr T b)) ≡ b
  right_node = value_node_lem (expr T b) ∙ node_of_lem T pair.table b pair.value_ok.node

  pub left_keyed : kind_of T.nodes a ≡ 9 → KeyedObject T a
  left_keyed k = keyed_object T pair.table a pair.node true pair.is_simple k

  pub right_keyed : kind_of T.nodes b ≡ 9 → KeyedObject T b
  right_keyed k = keyed_object T pair.table b pair.value_ok.node false pair.value_ok.value k

-- a literal is a value
literal_of_lem : {T : Tables} {a b : ℕ} (asks : LiteralAsks T a b) → (l : Literal) × (expr T a ≡ literal a l)
literal_of_lem {T} {a} asks =
    let (l, p) = asks.pair.table.literals a asks.pair.node asks.literal in
    (l, expr_literal T asks.pair.table a asks.pair.node l asks.literal p)

pub ask_same : {T : Tables} {a b : ℕ} → LiteralAsks T a b → SameAsks T a b
unfolding admitted
ask_same {T} {a} asks =
    let (l, t) = literal_of_lem asks in
    record { table = asks.pair.table; left = record { node = asks.pair.node; value = ap (admitted false) t }; right = asks.pair.value_ok }

module _ (T : Tables) (a b : ℕ) {equal : Bool} (is : equal ≡ same (value_of (expr T a)) (value_of (expr T b))) where
  pub literal_same : equal ≡ true → (Ok tt) ≡ literal_walked T a b
  literal_same t = sym (ap (λ (c : Bool). cond c (Ok tt) (missed_by LiteralDiffers b a)) (sym is ∙ t))

  pub literal_differs : equal ≡ false → missed_by LiteralDiffers b a ≡ literal_walked T a b
  literal_differs t = sym (ap (λ (c : Bool). cond c (Ok tt) (missed_by LiteralDiffers b a)) (sym is ∙ t))

-- 2. Arrays, by the nodes alone
module _ (nodes : List ℕ) (a b : ℕ) {kind : ℕ} (is : kind ≡ kind_of nodes b) where
  pub no_array : (kind ≡ 7 → ⊥) → missed_by NoArray b a ≡ array_walked nodes a b
  no_array n = let e = ne_eqb (kind_of nodes b) 7 (λ k. n (is ∙ k)) in rw e

  module _ (seven : kind ≡ 7) {count size : ℕ} (is_count : count ≡ count_of nodes b) (is_size : size ≡ count_of nodes a) where
    pub other_length : (count ≡ size → ⊥) → missed_by OtherLength b a ≡ array_walked nodes a b
    other_length n = let e = eq-eqb (kind_of nodes b) 7 (sym is ∙ seven) in let f = ne_eqb (count_of nodes b) (count_of nodes a) (λ k. n (is_count ∙ (k ∙ sym is_size))) in rw (e, f)

    pub arrays_alike : count ≡ size → (Ok tt) ≡ array_walked nodes a b
    arrays_alike q = let e = eq-eqb (kind_of nodes b) 7 (sym is ∙ seven) in let f = eq-eqb (count_of nodes b) (count_of nodes a) (sym is_count ∙ (q ∙ is_size)) in rw (e, f)

-- 3. Objects
module _ {T : Tables} {a b : ℕ} (asks : ObjectAsks T a b) {kind : ℕ} (is : kind ≡ kind_of T.nodes b) where
  pub no_object : (kind ≡ 9 → ⊥) → ObjectTold T a b (missed_by NoObject b a)
  no_object n = let e = ne_eqb (kind_of T.nodes b) 9 (λ k. n (is ∙ k)) in record { is = rw e }

  module _ (nine : kind ≡ 9) where
    pub ask_keys : KeySetsAsks T a b
    ask_keys = record { left = left_keyed asks.pair asks.object; right = right_keyed asks.pair (sym is ∙ nine) }

    pub ask_back : KeySetsAsks T b a
    ask_back = record { left = right_keyed asks.pair (sym is ∙ nine); right = left_keyed asks.pair asks.object }

    by_keys : (r : Result Unit Miss) → r ≡ keys_walked T a b (missing_key (keys_at T b) (slots_of (fields_of T a))) (other_key (keys_at T a) 0 (keys_at T b)) → ObjectTold T a b r
    by_keys r q = let e = eq-eqb (kind_of T.nodes b) 9 (sym is ∙ nine) in record { is = rw e q }

    module _ {missing : Prelude.Option ℕ} (told : MissingTold T a b missing) where
      pub object_missing : {key : ℕ} → missing ≡ Some key → ObjectTold T a b (missed_by KeyMissing b key)
      object_missing {key} e =
          let k = told.ok key e in
          let d = k.is in
          let q : some (record { at = k.key; held = key }) ≡ missing_key (keys_at T b) (slots_of (fields_of T a)) = rw d at (rw e at told.is) in
          by_keys (missed_by KeyMissing b key) (ap (λ (o : Option (Slot ℕ)). keys_walked T a b o (other_key (keys_at T a) 0 (keys_at T b))) q)

      module _ (none-missing-there : missing ≡ None) {other : Prelude.Option ℕ} (of : other ≡ key_in T b (other_key (keys_at T a) 0 (keys_at T b))) where
        no_missing : none ≡ missing_key (keys_at T b) (slots_of (fields_of T a))
        no_missing = rw none-missing-there at told.is

        by_other : (r : Result Unit Miss) (o : Option ℕ) → other_key (keys_at T a) 0 (keys_at T b) ≡ o → r ≡ keys_walked T a b none o → ObjectTold T a b r
        by_other r o e q = by_keys r (q ∙ ap₂ (keys_walked T a b) no_missing (sym e))

        pub object_other : {key : ℕ} → other ≡ Some key → ObjectTold T a b (missed_by KeyTooMany key a)
        object_other {key} e = go (other_key (keys_at T a) 0 (keys_at T b)) refl
          where
            go : (o : Option ℕ) → other_key (keys_at T a) 0 (keys_at T b) ≡ o → ObjectTold T a b (missed_by KeyTooMany key a)
            go none p = let f : Some key ≡ None = sym e ∙ (of ∙ ap (key_in T b) p) in absurd (false≢true (cc))
            go (some i) p =
                let f : Some key ≡ Some (key_at T b i) = sym e ∙ (of ∙ ap (key_in T b) p) in
                let alike : key ≡ key_at T b i = cc in
                by_other (missed_by KeyTooMany key a) (some i) p (ap (λ (n : ℕ). missed_by KeyTooMany n a) alike)

        pub objects_alike : other ≡ None → ObjectTold T a b (Ok tt)
        objects_alike e = go (other_key (keys_at T a) 0 (keys_at T b)) refl
          where
            go : (o : Option ℕ) → other_key (keys_at T a) 0 (keys_at T b) ≡ o → ObjectTold T a b (Ok tt)
            go none p = by_other (Ok tt) none p refl
            go (some i) p = let f : None ≡ Some (key_at T b i) = sym e ∙ (of ∙ ap (key_in T b) p) in absurd (false≢true (cc))

-- 4. A name
module _ {T : Tables} {list : List ℕ} (list_ok : ListOk T list) where
  came : {o : MissOutcome} {r : Result Unit Miss} → o ≡ outcome_in T list r → Came T o list r
  came e = record { is = e; list_ok = list_ok }

module _ {T : Tables} {a b : ℕ} {list : List ℕ} (asks : NameAsks T a b list) {x : ℕ} (is_name : x ≡ first_word_of T.nodes a) where
  pair_of : PairAsks T a b
  pair_of = asks.asks.pair

  name_number : NameNumber x
  name_number =
      let v = pair_of.table.named a pair_of.node asks.named in
      let few = pair_of.table.limits.names in
      let low = v.low in
      let high = v.high in
      record { low = omega arith; high = omega arith }

  pub name_low : 1 ≤ x
  name_low = name_number.low

  pub place_inside : x - 1 < 128
  place_inside = let n = name_number in let high = n.high in let low = n.low in omega arith

  named_as : expr T a ≡ named_by (is_wildcard T x) a x
  named_as = expr_name T pair_of.table a pair_of.node asks.named ∙ ap (λ (y : ℕ). named_by (is_wildcard T y) a y) (sym is_name)

  pub wild_met : {w : Bool} → w ≡ is_wildcard T x → w ≡ true → Came T (walk_nodes T a b (env_of T list)) list (Ok tt)
  unfolding walk
  wild_met e t = came asks.asks.list_ok (ap (λ (y : Expr). walk (key_at T) y (value_of (expr T b)) (env_of T list)) (named_as ∙ ap (λ (c : Bool). named_by c a x) (sym e ∙ t)))

  module _ {w : Bool} (e : w ≡ is_wildcard T x) (f : w ≡ false) where
    named_walk : walk_nodes T a b (env_of T list) ≡ naming a x (value_of (expr T b)) (env_of T list) (value_at T (get_or list (x - 1) 0))
    unfolding walk
    named_walk =
        let low = name_number.low in
        ap (λ (y : Expr). walk (key_at T) y (value_of (expr T b)) (env_of T list)) (named_as ∙ ap (λ (c : Bool). named_by c a x) (sym e ∙ f))
        ∙ ap (naming a x (value_of (expr T b)) (env_of T list)) (env_at T x low list)

    pub name_set : get_or list (x - 1) 0 ≡ 0 → Came T (walk_nodes T a b (env_of T list)) (set_at list (x - 1) b) (Ok tt)
    name_set z =
        let n = name_number in
        came (set_ok T x n.low list n.high b asks.asks.list_ok pair_of.value_ok)
        (named_walk ∙ (ap (λ (m : ℕ). naming a x (value_of (expr T b)) (env_of T list) (value_at T m)) z
        ∙ ap matched (env_set T x n.low list n.high b asks.asks.list_ok pair_of.value_ok)))

    module _ (nz : get_or list (x - 1) 0 ≡ 0 → ⊥) where
      pub ask_held : SameAsks T (get_or list (x - 1) 0) b
      ask_held = record { table = pair_of.table; left = asks.asks.list_ok.each (x - 1) nz; right = pair_of.value_ok }

      module _ {equal : Bool} (is : equal ≡ same (value_of (expr T (get_or list (x - 1) 0))) (value_of (expr T b))) where
        held_walk : walk_nodes T a b (env_of T list) ≡ or_miss equal (miss_at NameDiffers b a) (matched (env_of T list))
        held_walk =
            let z = ne_eqb (get_or list (x - 1) 0) 0 nz in
            let there : value_at T (get_or list (x - 1) 0) ≡ some (value_of (expr T (get_or list (x - 1) 0))) = rw z in
            named_walk
            ∙ (ap (naming a x (value_of (expr T b)) (env_of T list)) there
            ∙ ap₂ (λ (c : Bool) (n : ℕ). or_miss c (miss_at NameDiffers n a) (matched (env_of T list))) (sym is) (right_node pair_of))

        pub name_same : equal ≡ true → Came T (walk_nodes T a b (env_of T list)) list (Ok tt)
        name_same t = came asks.asks.list_ok (held_walk ∙ ap (λ (c : Bool). or_miss c (miss_at NameDiffers b a) (matched (env_of T list))) t)

        pub name_differs : equal ≡ false → Came T (walk_nodes T a b (env_of T list)) list (missed_by NameDiffers b a)
        name_differs t = came asks.asks.list_ok (held_walk ∙ ap (λ (c : Bool). or_miss c (miss_at NameDiffers b a) (matched (env_of T list))) t)

-- 5. Two nodes by the pattern's kind
module _ (T : Tables) where
  alike : (at k from m : ℕ) → m ≡ k → even (items (expr T) T.children at k) (values_of (items (expr T) T.children from m)) ≡ true
  unfolding items value_of even
  alike at zero from zero e = refl
  alike at zero from (suc m) e = absurd (omega arith)
  alike at (suc k) from zero e = absurd (omega arith)
  alike at (suc k) from (suc m) e = alike (at + 1) k (from + 1) m (omega arith)

  unlike : (at k from m : ℕ) → (m ≡ k → ⊥) → even (items (expr T) T.children at k) (values_of (items (expr T) T.children from m)) ≡ false
  unfolding items value_of even
  unlike at zero from zero n = absurd (n refl)
  unlike at zero from (suc m) n = refl
  unlike at (suc k) from zero n = refl
  unlike at (suc k) from (suc m) n = unlike (at + 1) k (from + 1) m (λ e. n (ap suc e))

  items_even : (at k from m : ℕ) → even (items (expr T) T.children at k) (values_of (items (expr T) T.children from m)) ≡ eqb m k
  items_even at k from m = go (eqb m k) refl
    where
      go : (c : Bool) → eqb m k ≡ c → even (items (expr T) T.children at k) (values_of (items (expr T) T.children from m)) ≡ c
      go true e = alike at k from m (eqb-true m k e)
      go false e = unlike at k from m (eqb-false m k e)

module _ {T : Tables} {a b : ℕ} (pair : PairAsks T a b) (env : Env) where
  array_outcome : kind_of T.nodes a ≡ 7
      → walk_nodes T a b env ≡ cond (eqb (kind_of T.nodes b) 7) (cond (eqb (count_of T.nodes b) (count_of T.nodes a)) (walk_listed T a b env) (miss_at OtherLength b a)) (miss_at NoArray b a)
  unfolding walk value_of
  array_outcome k = let t = right_is pair in ap₂ (λ (x y : Expr). walk (key_at T) x (value_of y) env) (expr_array T pair.table a pair.node k) t.1 ∙ go t.0 t.2
    where
      pick : (c : Bool) (o p : MissOutcome) → or_miss c o p ≡ cond c p o
      pick true o p = refl
      pick false o p = refl

      go : (f : Expr) → ValueShape T b f
          → walk (key_at T) (array a (items (expr T) T.children (first_word_of T.nodes a) (count_of T.nodes a))) (value_of f) env ≡ cond (eqb (kind_of T.nodes b) 7) (cond (eqb (count_of T.nodes b) (count_of T.nodes a)) (walk_listed T a b env) (miss_at OtherLength b a)) (miss_at NoArray b a)
      go f (value_literal l h) = let e = ne_eqb (kind_of T.nodes b) 7 (λ q. omega arith) in rw e
      go f (value_array h) =
          let e = eq-eqb (kind_of T.nodes b) 7 h in
          rw e (ap (λ (c : Bool). or_miss c (miss_at OtherLength b a) (walk_listed T a b env)) (items_even T (first_word_of T.nodes a) (count_of T.nodes a) (first_word_of T.nodes b) (count_of T.nodes b))
          ∙ pick (eqb (count_of T.nodes b) (count_of T.nodes a)) (miss_at OtherLength b a) (walk_listed T a b env))
      go f (value_object h) = let e = ne_eqb (kind_of T.nodes b) 7 (λ q. omega arith) in rw e

  object_outcome : kind_of T.nodes a ≡ 9
      → walk_nodes T a b env ≡ cond (eqb (kind_of T.nodes b) 9) (keys_first (key_at T) a b (missing_key (keys_at T b) (slots_of (fields_of T a))) (other_key (keys_at T a) 0 (keys_at T b)) (walk_under T a b env)) (miss_at NoObject b a)
  unfolding walk value_of
  object_outcome k = let t = right_is pair in ap₂ (λ (x y : Expr). walk (key_at T) x (value_of y) env) (expr_object T pair.table a pair.node k) t.1 ∙ go t.0 t.2
    where
      go : (f : Expr) → ValueShape T b f
          → walk (key_at T) (object a (fields_of T a)) (value_of f) env ≡ cond (eqb (kind_of T.nodes b) 9) (keys_first (key_at T) a b (missing_key (keys_at T b) (slots_of (fields_of T a))) (other_key (keys_at T a) 0 (keys_at T b)) (walk_under T a b env)) (miss_at NoObject b a)
      go f (value_literal l h) = let e = ne_eqb (kind_of T.nodes b) 9 (λ q. omega arith) in rw e
      go f (value_array h) = let e = ne_eqb (kind_of T.nodes b) 9 (λ q. omega arith) in rw e
      go f (value_object h) =
          let e = eq-eqb (kind_of T.nodes b) 9 h in
          rw e (ap (λ (ls : List Literal). keys_first (key_at T) a b (missing_key ls (slots_of (fields_of T a))) (other_key (keys_at T a) 0 ls) (walk_under T a b env)) (value_keys (fields_of T b)))

module _ {T : Tables} {a b : ℕ} {list : List ℕ} (asks : WalkAsks T a b list) {kind : ℕ} (is-kind : kind ≡ kind_of T.nodes a) where
  pub ask_literal : kind ≤ 5 → LiteralAsks T a b
  ask_literal low = record { pair = asks.pair; literal = rw (← is-kind) low }

  pub came_literal : kind ≤ 5 → {r : Result Unit Miss} → r ≡ literal_walked T a b → Came T (walk_nodes T a b (env_of T list)) list r
  unfolding walk value_of
  came_literal low {r} e =
      let (l, t) = literal_of_lem (ask_literal low) in
      let q : literal_walked T a b ≡ cond (same (value_of (literal a l)) (value_of (expr T b))) (Ok tt) (missed_by LiteralDiffers b a) = ap (λ (x : Expr). cond (same (value_of x) (value_of (expr T b))) (Ok tt) (missed_by LiteralDiffers b a)) t in
      came asks.list_ok
      (ap (λ (x : Expr). walk (key_at T) x (value_of (expr T b)) (env_of T list)) t
      ∙ (ap (λ (n : ℕ). or_miss (same (value_of (literal a l)) (value_of (expr T b))) (miss_at LiteralDiffers n a) (matched (env_of T list))) (right_node asks.pair)
      ∙ (go (same (value_of (literal a l)) (value_of (expr T b))) ∙ ap (outcome_in T list) (sym (e ∙ q)))))
    where
      go : (c : Bool) → or_miss c (miss_at LiteralDiffers b a) (matched (env_of T list)) ≡ outcome_in T list (cond c (Ok tt) (missed_by LiteralDiffers b a))
      go true = refl
      go false = refl

  pub ask_name : kind ≡ 6 → NameAsks T a b list
  ask_name six = record { asks = asks; named = sym is-kind ∙ six }

  left_array : kind ≡ 7 → kind_of T.nodes a ≡ 7
  left_array seven = sym is-kind ∙ seven

  -- the last kind
  pub left_object : 5 < kind → (kind ≡ 6 → ⊥) → (kind ≡ 7 → ⊥) → kind_of T.nodes a ≡ 9
  left_object high not-name not_array = let s = left_is asks.pair in go s.0 s.2
    where
      go : (e : Expr) → PatternShape T a e → kind_of T.nodes a ≡ 9
      go e (pattern_literal l h) = absurd (omega arith)
      go e (pattern_wildcard h) = absurd (not-name (is-kind ∙ h))
      go e (pattern_name h) = absurd (not-name (is-kind ∙ h))
      go e (pattern_array h) = absurd (not_array (is-kind ∙ h))
      go e (pattern_object h) = h

  module _ (seven : kind ≡ 7) {head : Result Unit Miss} (told : head ≡ array_walked T.nodes a b) where
    pub array_misses : {m : Miss} → head ≡ Err m → Came T (walk_nodes T a b (env_of T list)) list (Err m)
    array_misses {m} e = came asks.list_ok (array_outcome asks.pair (env_of T list) (left_array seven) ∙ go (eqb (kind_of T.nodes b) 7) (eqb (count_of T.nodes b) (count_of T.nodes a)) (sym told ∙ e))
      where
        go : (c d : Bool) → cond c (cond d (Ok tt) (missed_by OtherLength b a)) (missed_by NoArray b a) ≡ Err m → cond c (cond d (walk_listed T a b (env_of T list)) (miss_at OtherLength b a)) (miss_at NoArray b a) ≡ missed m
        go true true q = absurd (false≢true (cc))
        go true false q = cc
        go false d q = cc

    module _ (alike : head ≡ Ok tt) where
      both_arrays : (eqb (kind_of T.nodes b) 7 ≡ true) × (eqb (count_of T.nodes b) (count_of T.nodes a) ≡ true)
      both_arrays = go (eqb (kind_of T.nodes b) 7) (eqb (count_of T.nodes b) (count_of T.nodes a)) (sym told ∙ alike)
        where
          go : (c d : Bool) → cond c (cond d (Ok tt) (missed_by OtherLength b a)) (missed_by NoArray b a) ≡ Ok tt → (c ≡ true) × (d ≡ true)
          go true true q = (refl, refl)
          go true false q = absurd (false≢true (cc))
          go false d q = absurd (false≢true (cc))

      pub ask_items : ItemsAsks T a b list
      ask_items =
          let (c, d) = both_arrays in
          record { asks = asks; left_array = left_array seven; right_array = eqb-true (kind_of T.nodes b) 7 c; even = eqb-true (count_of T.nodes b) (count_of T.nodes a) d }

      pub came_array : {list' : List ℕ} {r : Result Unit Miss} → Came T (walk_listed T a b (env_of T list)) list' r → Came T (walk_nodes T a b (env_of T list)) list' r
      came_array t =
          let (c, d) = both_arrays in
          let q : walk_nodes T a b (env_of T list) ≡ walk_listed T a b (env_of T list) = array_outcome asks.pair (env_of T list) (left_array seven) ∙ rw (c, d) in
          record { is = q ∙ t.is; list_ok = t.list_ok }

module _ {T : Tables} {a b : ℕ} {list : List ℕ} (asks : WalkAsks T a b list) {kind : ℕ} (is-kind : kind ≡ kind_of T.nodes a) (high : 5 < kind) (not-name : kind ≡ 6 → ⊥) (not_array : kind ≡ 7 → ⊥) where
  nine : kind_of T.nodes a ≡ 9
  nine = left_object asks is-kind high not-name not_array

  pub ask_object : ObjectAsks T a b
  ask_object = record { pair = asks.pair; object = nine }

  module _ {head : Result Unit Miss} (told : ObjectTold T a b head) where
    pub object_misses : {m : Miss} → head ≡ Err m → Came T (walk_nodes T a b (env_of T list)) list (Err m)
    object_misses {m} e =
        came asks.list_ok
        (object_outcome asks.pair (env_of T list) nine
        ∙ go (eqb (kind_of T.nodes b) 9) (missing_key (keys_at T b) (slots_of (fields_of T a))) (other_key (keys_at T a) 0 (keys_at T b)) (sym told.is ∙ e))
      where
        go : (c : Bool) (x : Option (Slot ℕ)) (y : Option ℕ) → cond c (keys_walked T a b x y) (missed_by NoObject b a) ≡ Err m → cond c (keys_first (key_at T) a b x y (walk_under T a b (env_of T list))) (miss_at NoObject b a) ≡ missed m
        go true (some k) y q = cc
        go true none (some i) q = cc
        go true none none q = absurd (false≢true (cc))
        go false x y q = cc

    module _ (alike : head ≡ Ok tt) where
      pub record BothObjects : Type 0 where
        pub right : eqb (kind_of T.nodes b) 9 ≡ true
        pub missing : missing_key (keys_at T b) (slots_of (fields_of T a)) ≡ none
        pub others : other_key (keys_at T a) 0 (keys_at T b) ≡ none

      both_objects : BothObjects
      both_objects = go (eqb (kind_of T.nodes b) 9) refl (missing_key (keys_at T b) (slots_of (fields_of T a))) refl (other_key (keys_at T a) 0 (keys_at T b)) refl (sym told.is ∙ alike)
        where
          go : (c : Bool) → eqb (kind_of T.nodes b) 9 ≡ c → (x : Option (Slot ℕ)) → missing_key (keys_at T b) (slots_of (fields_of T a)) ≡ x → (y : Option ℕ) → other_key (keys_at T a) 0 (keys_at T b) ≡ y
              → cond c (keys_walked T a b x y) (missed_by NoObject b a) ≡ Ok tt → BothObjects
          go true c (some k) x y z q = absurd (false≢true (cc))
          go true c none x (some i) z q = absurd (false≢true (cc))
          go true c none x none z q = record { right = c; missing = x; others = z }
          go false c x p y z q = absurd (false≢true (cc))

      pub ask_fields : FieldsAsks T a b list
      ask_fields =
          let both = both_objects in
          let right = eqb-true (kind_of T.nodes b) 9 both.right in
          let left = object_fielded (left_keyed asks.pair nine) in
          let in_order : True (within (keys_at T a) (keys_at T b)) = true_is (ap (λ (ks : List Literal). within ks (keys_at T b)) (sym (slots_keys (fields_of T a))) ∙ (sym (none_missing (keys_at T b) (slots_of (fields_of T a))) ∙ ap is_none both.missing)) in
          record {
            asks = asks;
            left_object = nine;
            right_object = right;
            covered = λ i lt z.
                let (l, d, q) = key_of T (first_word_of T.nodes a) (count_of T.nodes a) left i lt in
                let there = is_true (within→ (keys_at T a) (keys_at T b) in_order l (has_key_at T (first_word_of T.nodes a) (count_of T.nodes a) left i lt l d)) in
                let found = found_key T (first_word_of T.nodes b) (count_of T.nodes b) (object_fielded (right_keyed asks.pair right)) l in
                let zero-there : under_from T (some l) (first_word_of T.nodes b) (count_of T.nodes b) ≡ 0 = ap (λ (o : Option Literal). under_from T o (first_word_of T.nodes b) (count_of T.nodes b)) (sym d) ∙ z in
                let e = eq-eqb (under_from T (some l) (first_word_of T.nodes b) (count_of T.nodes b)) 0 zero-there in
                false≢true (sym (found ∙ ap not e) ∙ there);
          }

      pub came_object : {list' : List ℕ} {r : Result Unit Miss} → Came T (walk_under T a b (env_of T list)) list' r → Came T (walk_nodes T a b (env_of T list)) list' r
      came_object t =
          let both = both_objects in
          let c = both.right in
          let x = both.missing in
          let y = both.others in
          let q : walk_nodes T a b (env_of T list) ≡ walk_under T a b (env_of T list) = object_outcome asks.pair (env_of T list) nine ∙ rw (c, x, y) in
          record { is = q ∙ t.is; list_ok = t.list_ok }

-- a value's node is its number, twice; the parts of an array or an object are met one below
pub parts_fall : {T : Tables} {a b t : ℕ} {list : List ℕ} → WalkAsks T a b list → 2 * a ≡ t → 2 * a - 1 < t
parts_fall asks e = let l = asks.pair.node.low in omega arith
