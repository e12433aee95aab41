-- The nodes of a miss stand in the pattern and in the value.
use Prim.Native.Nat.{ℕ, ◌+◌}
use mathlib.Core.Path.{◌≡◌, refl, ap, subst, ◌∙◌}
use mathlib.Core.List.{List, [], ◌∷◌, ◌++◌}
use mathlib.Core.Bool.{Bool, true, false, cond, ◌||◌, false≢true}
use mathlib.Core.Option.{Option, none, some}
use lib.Dec.{eqb, eqb_refl}
use Rattle.base.specs.Lists.{elem}
use Rattle.literal.specs.Literal.{Literal}
use Rattle.literal.specs.Order.{key_order}
use Rattle.table.specs.Expr as Expr
use Rattle.table.specs.Expr.{Expr, literal, name, wildcard, array, set, object, other, Exprs, item, Fields, done, field, node_of, parts, parts_all, parts_fields}
use Rattle.table.proofs.trees.Lists.{elem_left, elem_right}
use Rattle.planner.specs.Layout.{Slot, literal_key}
use Rattle.planner.specs.Simple.{same_key, has_key, keys_of}
use Rattle.value.specs.Value.{Value, literalᵛ, arrayᵛ, objectᵛ, Values, noneᵛ, itemᵛ, ValueFields, doneᵛ, fieldᵛ, nodeᵛ, keysᵛ, first_hit, under, same}
use Rattle.value.proofs.Keys.{is_true}
use Rattle.matching.specs.Matching.{Env, under_key}
use Rattle.first_miss.specs.declared.Miss.{Miss}
use Rattle.first_miss.specs.declared.Why.TheVariants.{NameDiffers, LiteralDiffers, NoArray, OtherLength, NoObject, KeyMissing, KeyTooMany}
use Rattle.first_miss.specs.Miss.{MissOutcome, matched, missed, fault, miss_at, or_miss, next, at, add_slot, is_less, lesser, missing_key, other_key, keys_first}
use Rattle.first_miss.specs.code.Walk.{naming, even, slots_of, walk, walk_items, walk_fields}

elem_first : (n : ℕ) (ns : List ℕ) → elem n (n ∷ ns) ≡ true
unfolding elem
elem_first n ns = let e = is_true {b = eqb n n} (eqb_refl n) in ap (λ (b : Bool). b || elem n ns) e

elem_behind : (x n : ℕ) (ns : List ℕ) → elem x ns ≡ true → elem x (n ∷ ns) ≡ true
unfolding elem
elem_behind x n ns e = go (eqb x n)
  where
    go : (b : Bool) → (b || elem x ns) ≡ true
    go true = refl
    go false = e

elem_cases : (x n : ℕ) (ns ms : List ℕ) → (elem x ns ≡ true → elem x ms ≡ true) → elem x (n ∷ ns) ≡ true → elem x (n ∷ ms) ≡ true
unfolding elem
elem_cases x n ns ms f e = go (eqb x n) e
  where
    go : (b : Bool) → (b || elem x ns) ≡ true → (b || elem x ms) ≡ true
    go true q = refl
    go false q = f q

own_part : (e : Expr) → elem (node_of e) (parts e) ≡ true
unfolding parts
own_part (literal n l) = elem_first n []
own_part (name n x) = elem_first n []
own_part (wildcard n) = elem_first n []
own_part (array n es) = elem_first n (parts_all es)
own_part (set n es) = elem_first n (parts_all es)
own_part (object n fs) = elem_first n (parts_fields fs)
own_part (other n) = elem_first n []

-- a missing key is one of the pattern's
missing_part : (ls : List Literal) (fs : Fields) (k : Slot ℕ) → missing_key ls (slots_of fs) ≡ some k → elem k.held (parts_fields fs) ≡ true
unfolding missing_key slots_of parts
missing_part ls done k e = absurd (false≢true (cc))
missing_part ls (field j v fs) k e = go (literal_key j) e (λ q. missing_part ls fs k q)
  where
    later : elem k.held (parts_fields fs) ≡ true → elem k.held (parts j ++ (parts v ++ parts_fields fs)) ≡ true
    later q = elem_right k.held (parts j) (parts v ++ parts_fields fs) (elem_right k.held (parts v) (parts_fields fs) q)

    here : (l : Literal) → record { at = l; held = node_of j } ≡ k → elem k.held (parts j ++ (parts v ++ parts_fields fs)) ≡ true
    here l q = subst (λ (s : Slot ℕ). elem s.held (parts j ++ (parts v ++ parts_fields fs)) ≡ true) q (elem_left (node_of j) (parts j) (parts v ++ parts_fields fs) (own_part j))

    pick : (l : Literal) (o : Option (Slot ℕ)) → missing_key ls (slots_of fs) ≡ o → lesser (record { at = l; held = node_of j }) o ≡ k → (missing_key ls (slots_of fs) ≡ some k → elem k.held (parts_fields fs) ≡ true) → elem k.held (parts j ++ (parts v ++ parts_fields fs)) ≡ true
    pick l none p q f = here l q
    pick l (some i) p q f = by (is_less (key_order l i.at)) q
      where
        by : (b : Bool) → cond b (record { at = l; held = node_of j }) i ≡ k → elem k.held (parts j ++ (parts v ++ parts_fields fs)) ≡ true
        by true r = here l r
        by false r = later (f (p ∙ ap some r))

    choose : (l : Literal) (b : Bool) → cond b (missing_key ls (slots_of fs)) (some (lesser (record { at = l; held = node_of j }) (missing_key ls (slots_of fs)))) ≡ some k → (missing_key ls (slots_of fs) ≡ some k → elem k.held (parts_fields fs) ≡ true)
        → elem k.held (parts j ++ (parts v ++ parts_fields fs)) ≡ true
    choose l true q f = later (f q)
    choose l false q f = let r : lesser (record { at = l; held = node_of j }) (missing_key ls (slots_of fs)) ≡ k = cc in pick l (missing_key ls (slots_of fs)) refl r f

    go : (o : Option Literal) → missing_key ls (add_slot o (node_of j) (slots_of fs)) ≡ some k → (missing_key ls (slots_of fs) ≡ some k → elem k.held (parts_fields fs) ≡ true) → elem k.held (parts j ++ (parts v ++ parts_fields fs)) ≡ true
    go none q f = later (f q)
    go (some l) q f = choose l (has_key l ls) q f

module _ (key_node : ℕ → ℕ → ℕ) where
  -- the nodes of a value, keys included
  unfoldable mutual
    pub nodesᵛ : Value → List ℕ
    nodesᵛ (literalᵛ n l) = n ∷ []
    nodesᵛ (arrayᵛ n vs) = n ∷ nodes_all vs
    nodesᵛ (objectᵛ n fs) = n ∷ nodes_under n 0 fs

    pub nodes_all : Values → List ℕ
    nodes_all noneᵛ = []
    nodes_all (itemᵛ v vs) = nodesᵛ v ++ nodes_all vs

    pub nodes_under : ℕ → ℕ → ValueFields → List ℕ
    nodes_under n i doneᵛ = []
    nodes_under n i (fieldᵛ k v fs) = key_node n i ∷ (nodesᵛ v ++ nodes_under n (i + 1) fs)

  own_node : (v : Value) → elem (nodeᵛ v) (nodesᵛ v) ≡ true
  unfolding nodesᵛ
  own_node (literalᵛ n l) = elem_first n []
  own_node (arrayᵛ n vs) = elem_first n (nodes_all vs)
  own_node (objectᵛ n fs) = elem_first n (nodes_under n 0 fs)

  other_node : (ks : List Literal) (n i : ℕ) (gs : ValueFields) (j : ℕ) → other_key ks i (keysᵛ gs) ≡ some j → elem (key_node n j) (nodes_under n i gs) ≡ true
  unfolding other_key keysᵛ nodesᵛ
  other_node ks n i doneᵛ j e = absurd (false≢true (cc))
  other_node ks n i (fieldᵛ l v gs) j e = go (has_key l ks) e (λ q. other_node ks n (i + 1) gs j q)
    where
      go : (b : Bool) → cond b (other_key ks (i + 1) (keysᵛ gs)) (some i) ≡ some j → (other_key ks (i + 1) (keysᵛ gs) ≡ some j → elem (key_node n j) (nodes_under n (i + 1) gs) ≡ true)
          → elem (key_node n j) (key_node n i ∷ (nodesᵛ v ++ nodes_under n (i + 1) gs)) ≡ true
      go true q f = elem_behind (key_node n j) (key_node n i) (nodesᵛ v ++ nodes_under n (i + 1) gs) (elem_right (key_node n j) (nodesᵛ v) (nodes_under n (i + 1) gs) (f q))
      go false q f = let r : i ≡ j = cc in subst (λ (y : ℕ). elem (key_node n y) (key_node n i ∷ (nodesᵛ v ++ nodes_under n (i + 1) gs)) ≡ true) r (elem_first (key_node n i) (nodesᵛ v ++ nodes_under n (i + 1) gs))

  under_node : (x n i : ℕ) (l : Literal) (gs : ValueFields) (v : Value) → under l gs ≡ some v → elem x (nodesᵛ v) ≡ true → elem x (nodes_under n i gs) ≡ true
  unfolding under nodesᵛ
  under_node x n i l doneᵛ v e h = absurd (false≢true (cc))
  under_node x n i l (fieldᵛ k w gs) v e h = elem_behind x (key_node n i) (nodesᵛ w ++ nodes_under n (i + 1) gs) (go (same_key l k) e (λ q. under_node x n (i + 1) l gs v q h))
    where
      go : (b : Bool) → first_hit b w (under l gs) ≡ some v → (under l gs ≡ some v → elem x (nodes_under n (i + 1) gs) ≡ true) → elem x (nodesᵛ w ++ nodes_under n (i + 1) gs) ≡ true
      go true q f = let r : v ≡ w = cc in elem_left x (nodesᵛ w) (nodes_under n (i + 1) gs) (subst (λ (y : Value). elem x (nodesᵛ y) ≡ true) r h)
      go false q f = elem_right x (nodesᵛ w) (nodes_under n (i + 1) gs) (f q)

  pub record In (ps vs : List ℕ) (m : Miss) : Type 0 where
    pub in_pattern_lem : elem m.pattern ps ≡ true
    pub in_value : elem m.value vs ≡ true

  or_miss_lem : (ps vs : List ℕ) (b : Bool) (n m : Miss) (o : MissOutcome) → In ps vs n → (o ≡ missed m → In ps vs m) → or_miss b (missed n) o ≡ missed m → In ps vs m
  or_miss_lem ps vs true n m o i f e = f e
  or_miss_lem ps vs false n m o i f e = let q : n ≡ m = cc in subst (In ps vs) q i

  unmatched : {C : Type 0} (env : Env) (m : Miss) → matched env ≡ missed m → C
  unmatched env m e = absurd (false≢true (cc))

  next_in : (ps vs : List ℕ) (m : Miss) (o : MissOutcome) (f : Env → MissOutcome) → (o ≡ missed m → In ps vs m) → ((env : Env) → f env ≡ missed m → In ps vs m) → next o f ≡ missed m → In ps vs m
  next_in ps vs m (matched env) f a b e = b env e
  next_in ps vs m (missed n) f a b e = a e
  next_in ps vs m fault f a b e = absurd (false≢true (cc))

  mutual
    unfolding walk nodesᵛ parts

    pub walk_in : (e : Expr) (v : Value) (env : Env) (m : Miss) → walk key_node e v env ≡ missed m → In (parts e) (nodesᵛ v) m
    walk_in (literal n l) v env m q =
        or_miss_lem (n ∷ []) (nodesᵛ v) (same (literalᵛ n l) v) (record { why = LiteralDiffers; value = nodeᵛ v; pattern = n }) m (matched env) (record { in_pattern_lem = elem_first n []; in_value = own_node v }) (λ r. unmatched env m r) q
    walk_in (name n x) v env m q = go (env x) q
      where
        go : (o : Option Value) → naming n x v env o ≡ missed m → In (n ∷ []) (nodesᵛ v) m
        go none r = absurd (false≢true (cc))
        go (some u) r = or_miss_lem (n ∷ []) (nodesᵛ v) (same u v) (record { why = NameDiffers; value = nodeᵛ v; pattern = n }) m (matched env) (record { in_pattern_lem = elem_first n []; in_value = own_node v }) (λ z. unmatched env m z) r
    walk_in (wildcard n) v env m q = absurd (false≢true (cc))
    walk_in (array n es) (literalᵛ k l) env m q =
        or_miss_lem (n ∷ parts_all es) (k ∷ []) false (record { why = NoArray; value = k; pattern = n }) m fault (record { in_pattern_lem = elem_first n (parts_all es); in_value = elem_first k [] }) (λ z. absurd (false≢true (cc))) q
    walk_in (array n es) (arrayᵛ k vs) env m q =
        or_miss_lem (n ∷ parts_all es) (k ∷ nodes_all vs) (even es vs) (record { why = OtherLength; value = k; pattern = n }) m (walk_items key_node n k es vs env)
        (record { in_pattern_lem = elem_first n (parts_all es); in_value = elem_first k (nodes_all vs) }) (λ z. items_in_lem n k es vs env m z) q
    walk_in (array n es) (objectᵛ k gs) env m q =
        or_miss_lem (n ∷ parts_all es) (k ∷ nodes_under k 0 gs) false (record { why = NoArray; value = k; pattern = n }) m fault (record { in_pattern_lem = elem_first n (parts_all es); in_value = elem_first k (nodes_under k 0 gs) }) (λ z. absurd (false≢true (cc))) q
    walk_in (set n es) v env m q = absurd (false≢true (cc))
    walk_in (object n fs) (literalᵛ k l) env m q =
        or_miss_lem (n ∷ parts_fields fs) (k ∷ []) false (record { why = NoObject; value = k; pattern = n }) m fault (record { in_pattern_lem = elem_first n (parts_fields fs); in_value = elem_first k [] }) (λ z. absurd (false≢true (cc))) q
    walk_in (object n fs) (arrayᵛ k vs) env m q =
        or_miss_lem (n ∷ parts_fields fs) (k ∷ nodes_all vs) false (record { why = NoObject; value = k; pattern = n }) m fault (record { in_pattern_lem = elem_first n (parts_fields fs); in_value = elem_first k (nodes_all vs) }) (λ z. absurd (false≢true (cc))) q
    walk_in (object n fs) (objectᵛ k gs) env m q = go (missing_key (keysᵛ gs) (slots_of fs)) refl (other_key (keys_of fs) 0 (keysᵛ gs)) refl q (λ z. fields_in k fs gs env m z)
      where
        go : (a : Option (Slot ℕ)) → missing_key (keysᵛ gs) (slots_of fs) ≡ a → (b : Option ℕ) → other_key (keys_of fs) 0 (keysᵛ gs) ≡ b → keys_first key_node n k a b (walk_fields key_node k fs gs env) ≡ missed m
            → (walk_fields key_node k fs gs env ≡ missed m → In (parts_fields fs) (k ∷ nodes_under k 0 gs) m) → In (n ∷ parts_fields fs) (k ∷ nodes_under k 0 gs) m
        go (some j) a b c r f =
            let z : record { why = KeyMissing; value = k; pattern = j.held } ≡ m = cc in
            subst (In (n ∷ parts_fields fs) (k ∷ nodes_under k 0 gs)) z
            (record { in_pattern_lem = elem_behind j.held n (parts_fields fs) (missing_part (keysᵛ gs) fs j a); in_value = elem_first k (nodes_under k 0 gs) })
        go none a (some i) b r f =
            let z : record { why = KeyTooMany; value = key_node k i; pattern = n } ≡ m = cc in
            subst (In (n ∷ parts_fields fs) (k ∷ nodes_under k 0 gs)) z
            (record { in_pattern_lem = elem_first n (parts_fields fs); in_value = elem_behind (key_node k i) k (nodes_under k 0 gs) (other_node (keys_of fs) k 0 gs i b) })
        go none a none b r f = let i = f r in record { in_pattern_lem = elem_behind m.pattern n (parts_fields fs) i.in_pattern_lem; in_value = i.in_value }
    walk_in (other n) v env m q = absurd (false≢true (cc))

    items_in_lem : (n k : ℕ) (es : Exprs) (vs : Values) (env : Env) (m : Miss) → walk_items key_node n k es vs env ≡ missed m → In (n ∷ parts_all es) (k ∷ nodes_all vs) m
    items_in_lem n k Expr.none vs env m q = absurd (false≢true (cc))
    items_in_lem n k (item e es) noneᵛ env m q =
        or_miss_lem (n ∷ (parts e ++ parts_all es)) (k ∷ []) false (record { why = OtherLength; value = k; pattern = n }) m fault (record { in_pattern_lem = elem_first n (parts e ++ parts_all es); in_value = elem_first k [] }) (λ z. absurd (false≢true (cc))) q
    items_in_lem n k (item e es) (itemᵛ v vs) env m q =
        next_in (n ∷ (parts e ++ parts_all es)) (k ∷ (nodesᵛ v ++ nodes_all vs)) m (walk key_node e v env) (λ env'. walk_items key_node n k es vs env')
        (λ z. let i = walk_in e v env m z in record {
          in_pattern_lem = elem_behind m.pattern n (parts e ++ parts_all es) (elem_left m.pattern (parts e) (parts_all es) i.in_pattern_lem);
          in_value = elem_behind m.value k (nodesᵛ v ++ nodes_all vs) (elem_left m.value (nodesᵛ v) (nodes_all vs) i.in_value);
        })
        (λ env' z. let i = items_in_lem n k es vs env' m z in record {
          in_pattern_lem = elem_cases m.pattern n (parts_all es) (parts e ++ parts_all es) (λ h. elem_right m.pattern (parts e) (parts_all es) h) i.in_pattern_lem;
          in_value = elem_cases m.value k (nodes_all vs) (nodesᵛ v ++ nodes_all vs) (λ h. elem_right m.value (nodesᵛ v) (nodes_all vs) h) i.in_value;
        }) q

    fields_in : (k : ℕ) (fs : Fields) (gs : ValueFields) (env : Env) (m : Miss) → walk_fields key_node k fs gs env ≡ missed m → In (parts_fields fs) (k ∷ nodes_under k 0 gs) m
    fields_in k done gs env m q = absurd (false≢true (cc))
    fields_in k (field j e fs) gs env m q = go (literal_key j) q (λ v z. walk_in e v env m z) (λ env' z. fields_in k fs gs env' m z)
      where
        found : (l : Literal) (o : Option Value) → under l gs ≡ o → at o (miss_at KeyMissing k (node_of j)) (λ v. next (walk key_node e v env) (λ env'. walk_fields key_node k fs gs env')) ≡ missed m
            → ((v : Value) → walk key_node e v env ≡ missed m → In (parts e) (nodesᵛ v) m) → ((env' : Env) → walk_fields key_node k fs gs env' ≡ missed m → In (parts_fields fs) (k ∷ nodes_under k 0 gs) m)
            → In (parts j ++ (parts e ++ parts_fields fs)) (k ∷ nodes_under k 0 gs) m
        found l none u r f g =
            let z : record { why = KeyMissing; value = k; pattern = node_of j } ≡ m = cc in
            subst (In (parts j ++ (parts e ++ parts_fields fs)) (k ∷ nodes_under k 0 gs)) z
            (record { in_pattern_lem = elem_left (node_of j) (parts j) (parts e ++ parts_fields fs) (own_part j); in_value = elem_first k (nodes_under k 0 gs) })
        found l (some v) u r f g =
            next_in (parts j ++ (parts e ++ parts_fields fs)) (k ∷ nodes_under k 0 gs) m (walk key_node e v env) (λ env'. walk_fields key_node k fs gs env')
            (λ z. let i = f v z in record {
              in_pattern_lem = elem_right m.pattern (parts j) (parts e ++ parts_fields fs) (elem_left m.pattern (parts e) (parts_fields fs) i.in_pattern_lem);
              in_value = elem_behind m.value k (nodes_under k 0 gs) (under_node m.value k 0 l gs v u i.in_value);
            })
            (λ env' z. let i = g env' z in record {
              in_pattern_lem = elem_right m.pattern (parts j) (parts e ++ parts_fields fs) (elem_right m.pattern (parts e) (parts_fields fs) i.in_pattern_lem);
              in_value = i.in_value;
            }) r

        go : (o : Option Literal) → at (under_key o gs) (miss_at KeyMissing k (node_of j)) (λ v. next (walk key_node e v env) (λ env'. walk_fields key_node k fs gs env')) ≡ missed m
            → ((v : Value) → walk key_node e v env ≡ missed m → In (parts e) (nodesᵛ v) m) → ((env' : Env) → walk_fields key_node k fs gs env' ≡ missed m → In (parts_fields fs) (k ∷ nodes_under k 0 gs) m)
            → In (parts j ++ (parts e ++ parts_fields fs)) (k ∷ nodes_under k 0 gs) m
        go none r f g =
            let z : record { why = KeyMissing; value = k; pattern = node_of j } ≡ m = cc in
            subst (In (parts j ++ (parts e ++ parts_fields fs)) (k ∷ nodes_under k 0 gs)) z
            (record { in_pattern_lem = elem_left (node_of j) (parts j) (parts e ++ parts_fields fs) (own_part j); in_value = elem_first k (nodes_under k 0 gs) })
        go (some l) r f g = found l (under l gs) refl r f g
