-- The entries by binders are the plan's: a name node is its name's binder exactly where the plan binds the name.
use Prim.Native.Nat.{ℕ, zero, suc, ◌+◌, ◌-◌, ◌*◌, ◌≤◌, ◌<◌}
use mathlib.Core.Path.{◌≡◌, refl, sym, ap, ◌∙◌}
use mathlib.Core.Logic.{◌⊎◌, inl, inr, ⊎_elim}
use mathlib.Core.Bool.{Bool, true, false, cond, ◌&&◌, ◌||◌, not, false≢true}
use mathlib.Core.List.{List, [], ◌∷◌, ◌++◌}
use mathlib.Core.Option.{Option}
use native.Mathlib.Omega.{arith}
use borrow.Author.Tests.{eqb-true, eqb-false, eq-eqb, ne_eqb}
use lib.Dec.{eqb}
use lib.ListN.{length, get_or, set, replicate, length-set, length-replicate, get_or-replicate}
use lib.Seq.{get_or-set_same, get_or-set_other}
use Rattle.literal.specs.Literal.{Literal}
use Rattle.table.specs.Expr.{Expr, literal, name, wildcard, array, object, other, Exprs, none, item, Fields, done, field, node_of, count, parts, parts_all, parts_fields}
use Rattle.table.specs.Tables.{Tables, kind_of, first_word_of, count_of, width, child_at}
use Rattle.table.specs.Decode.{literal_at, items, fields, leaf_of, named_by, is_wildcard, headed, expr}
use Rattle.base.specs.Lists.{elem, no_repeat}
use Rattle.table.specs.code.Sound.{Node, WellFormed}
use Rattle.table.proofs.tests.Bools.{and_true}
use Rattle.table.proofs.trees.Lists.{elem_head, elem_left, elem_right, elem_tail, no_repeat_append}
use Rattle.table.proofs.trees.Trees.{width_array, width_set, width_object, child_node, expr_unfolds, expr_name, expr_array, expr_set, expr_object}
use Rattle.table.proofs.trees.Forest.{forest}
use Rattle.planner.specs.Plan.{var, equality_expr, fresh, plan, plans, field_plans, after, after_all_lem, after_fields}
use Rattle.planner.specs.Layout.{Entry, Place, below, entry, literal_key, FieldOrder, no_fields, add_field, in_order, concat, entries, entries_all_lem, count_plans_lem, field_order}
use Rattle.planner.specs.code.Passes.{binder_of, bind_name, binders_of, binders_all, binders_fields, name_kind, lay_out, lay_out_all, lay_out_fields}

-- P holds of every name's node and number, in sets and keys too
module _ (P : ℕ → ℕ → Type 0) where
  unfoldable mutual
    pub AllNames : Expr → Type 0
    AllNames (literal n l) = Unit {0}
    AllNames (name n x) = P n x
    AllNames (wildcard n) = Unit {0}
    AllNames (array n es) = AllNamesAll es
    AllNames (Expr.set n es) = AllNamesAll es
    AllNames (object n fs) = AllNamesFields fs
    AllNames (other n) = Unit {0}

    pub AllNamesAll : Exprs → Type 0
    AllNamesAll none = Unit {0}
    AllNamesAll (item e es) = AllNames e × AllNamesAll es

    pub AllNamesFields : Fields → Type 0
    AllNamesFields done = Unit {0}
    AllNamesFields (field k v fs) = AllNames k × AllNames v × AllNamesFields fs

-- a name's number is one of 1 to 128
abbrev pub InRange : ℕ → ℕ → Type 0
InRange n x = (1 ≤ x) × (x ≤ 128)

abbrev pub NamesIn : Expr → Type 0
NamesIn e = AllNames InRange e

abbrev pub NamesInAll : Exprs → Type 0
NamesInAll es = AllNamesAll InRange es

abbrev pub NamesInFields : Fields → Type 0
NamesInFields fs = AllNamesFields InRange fs

-- the names planned so far are those that have a binder
pub record Agree (seen b : List ℕ) : Type 0 where
  pub each : (x : ℕ) → 1 ≤ x → x ≤ 128 → elem x seen ≡ not (eqb (binder_of b x) 0)
  pub long : 128 ≤ length b

-- a binder that is there stays
abbrev pub Keeps : List ℕ → List ℕ → Type 0
Keeps b later = (x : ℕ) → (binder_of b x ≡ 0 → ⊥) → binder_of later x ≡ binder_of b x

set_value : (b : List ℕ) (i j a : ℕ) → (get_or (set b i a) j 0 ≡ get_or b j 0) ⊎ (get_or (set b i a) j 0 ≡ a)
set_value [] i j a = inl refl
set_value (y ∷ b) zero zero a = inr refl
set_value (y ∷ b) zero (suc j) a = inl refl
set_value (y ∷ b) (suc i) zero a = inl refl
set_value (y ∷ b) (suc i) (suc j) a = set_value b i j a

module _ (u : ℕ → Bool) where
  mutual
    unfolding binders_of

    pub binders_long : (e : Expr) (b : List ℕ) → length (binders_of u e b) ≡ length b
    binders_long (literal n l) b = refl
    binders_long (name n x) b = go (u x && eqb (binder_of b x) 0)
      where
        go : (c : Bool) → length (cond c (set b (x - 1) n) b) ≡ length b
        go true = length-set b (x - 1) n
        go false = refl
    binders_long (wildcard n) b = refl
    binders_long (array n es) b = binders_long_all es b
    binders_long (Expr.set n es) b = refl
    binders_long (object n fs) b = binders_long_fields fs b
    binders_long (other n) b = refl

    pub binders_long_all : (es : Exprs) (b : List ℕ) → length (binders_all u es b) ≡ length b
    binders_long_all none b = refl
    binders_long_all (item e es) b = binders_long_all es (binders_of u e b) ∙ binders_long e b

    pub binders_long_fields : (fs : Fields) (b : List ℕ) → length (binders_fields u fs b) ≡ length b
    binders_long_fields done b = refl
    binders_long_fields (field k v fs) b = binders_long_fields fs (binders_of u v b) ∙ binders_long v b

  -- what a name node does to names and binders, every planned name node of a tree does in turn
  module _ (Q : List ℕ → List ℕ → Type 0) (ps : List ℕ)
      (one : (n x : ℕ) → elem n ps ≡ true → 1 ≤ x → x ≤ 128 → (seen b : List ℕ) → Q seen b → Q (cond (fresh u seen x) (x ∷ seen) seen) (bind_name u n x b)) where
    mutual
      unfolding parts after binders_of AllNames

      in_turn_lem : (e : Expr) → ((m : ℕ) → elem m (parts e) ≡ true → elem m ps ≡ true) → NamesIn e → (seen b : List ℕ) → Q seen b → Q (after u e seen) (binders_of u e b)
      in_turn_lem (literal n l) part names seen b q = q
      in_turn_lem (name n x) part names seen b q = one n x (part n (elem_head n n [] refl)) names.0 names.1 seen b q
      in_turn_lem (wildcard n) part names seen b q = q
      in_turn_lem (array n es) part names seen b q = in_turn_all es (λ m h. part m (elem_tail m n (parts_all es) h)) names seen b q
      in_turn_lem (Expr.set n es) part names seen b q = q
      in_turn_lem (object n fs) part names seen b q = in_turn_fields fs (λ m h. part m (elem_tail m n (parts_fields fs) h)) names seen b q
      in_turn_lem (other n) part names seen b q = q

      in_turn_all : (es : Exprs) → ((m : ℕ) → elem m (parts_all es) ≡ true → elem m ps ≡ true) → NamesInAll es → (seen b : List ℕ) → Q seen b → Q (after_all_lem u es seen) (binders_all u es b)
      in_turn_all none part names seen b q = q
      in_turn_all (item e es) part names seen b q =
          in_turn_all es (λ m h. part m (elem_right m (parts e) (parts_all es) h)) names.1 (after u e seen) (binders_of u e b)
          (in_turn_lem e (λ m h. part m (elem_left m (parts e) (parts_all es) h)) names.0 seen b q)

      in_turn_fields : (fs : Fields) → ((m : ℕ) → elem m (parts_fields fs) ≡ true → elem m ps ≡ true) → NamesInFields fs → (seen b : List ℕ) → Q seen b
          → Q (after_fields u fs seen) (binders_fields u fs b)
      in_turn_fields done part names seen b q = q
      in_turn_fields (field k v fs) part names seen b q =
          let rest : (m : ℕ) → elem m (parts v ++ parts_fields fs) ≡ true → elem m ps ≡ true = λ m h. part m (elem_right m (parts k) (parts v ++ parts_fields fs) h) in
          in_turn_fields fs (λ m h. rest m (elem_right m (parts v) (parts_fields fs) h)) names.2 (after u v seen) (binders_of u v b)
          (in_turn_lem v (λ m h. rest m (elem_left m (parts v) (parts_fields fs) h)) names.1 seen b q)

  -- one name node

  module _ (n x : ℕ) (b : List ℕ) where
    name_keeps : Keeps b (bind_name u n x b)
    name_keeps y old = go (u x && eqb (binder_of b x) 0) refl
      where
        go : (c : Bool) → (u x && eqb (binder_of b x) 0) ≡ c → binder_of (cond c (set b (x - 1) n) b) y ≡ binder_of b y
        go true e =
            let z = eqb-true (binder_of b x) 0 (and_true (u x) (eqb (binder_of b x) 0) e).1 in
            get_or-set_other b (x - 1) (y - 1) n 0 (λ p. old (ap (λ (i : ℕ). get_or b i 0) p ∙ z))
        go false e = refl

    name_value : (y : ℕ) → (binder_of (bind_name u n x b) y ≡ binder_of b y) ⊎ (binder_of (bind_name u n x b) y ≡ n)
    name_value y = go (u x && eqb (binder_of b x) 0)
      where
        go : (c : Bool) → (binder_of (cond c (set b (x - 1) n) b) y ≡ binder_of b y) ⊎ (binder_of (cond c (set b (x - 1) n) b) y ≡ n)
        go true = set_value b (x - 1) (y - 1) n
        go false = inl refl

    -- a name that the scope knows gets none
    name_idle : (y : ℕ) → 1 ≤ x → 1 ≤ y → u y ≡ false → binder_of (bind_name u n x b) y ≡ binder_of b y
    name_idle y low low' known = go (u x && eqb (binder_of b x) 0) refl
      where
        go : (c : Bool) → (u x && eqb (binder_of b x) 0) ≡ c → binder_of (cond c (set b (x - 1) n) b) y ≡ binder_of b y
        go true e =
            let t = (and_true (u x) (eqb (binder_of b x) 0) e).0 in
            get_or-set_other b (x - 1) (y - 1) n 0
            (λ p. let q : y ≡ x = omega arith in false≢true (sym known ∙ (ap u q ∙ t)))
        go false e = refl

    -- the names planned and the binders agree on whether x is new
    fresh_unset : (seen : List ℕ) → 1 ≤ x → x ≤ 128 → Agree seen b → fresh u seen x ≡ (u x && eqb (binder_of b x) 0)
    fresh_unset seen low high a = rw (a.each x low high) (go (eqb (binder_of b x) 0))
      where
        go : (c : Bool) → (u x && not (not c)) ≡ (u x && c)
        go true = refl
        go false = refl

    name_agree : (seen : List ℕ) → 1 ≤ n → 1 ≤ x → x ≤ 128 → Agree seen b → Agree (cond (fresh u seen x) (x ∷ seen) seen) (bind_name u n x b)
    unfolding elem
    name_agree seen some low high a = rw (fresh_unset seen low high a) (go (u x && eqb (binder_of b x) 0))
      where
        each : (c : Bool) (y : ℕ) → eqb y x ≡ c → 1 ≤ y → elem y seen ≡ not (eqb (binder_of b y) 0)
            → (c || elem y seen) ≡ not (eqb (binder_of (set b (x - 1) n) y) 0)
        each true y e l h =
            let p : y - 1 ≡ x - 1 = ap (λ (i : ℕ). i - 1) (eqb-true y x e) in
            let long = a.long in
            let s : binder_of (set b (x - 1) n) y ≡ n = rw p (get_or-set_same b (x - 1) n 0 (omega arith)) in
            let z : eqb n 0 ≡ false = ne_eqb n 0 (λ q. omega arith) in
            rw (s, z)
        each false y e l h =
            let s : binder_of (set b (x - 1) n) y ≡ binder_of b y = get_or-set_other b (x - 1) (y - 1) n 0 (λ p. eqb-false y x e (omega arith)) in
            rw s h

        go : (c : Bool) → Agree (cond c (x ∷ seen) seen) (cond c (set b (x - 1) n) b)
        go true = record {
          each = λ y l h. each (eqb y x) y refl l (a.each y l h);
          long = let l = a.long in let e = length-set b (x - 1) n in omega arith;
        }
        go false = a

  -- a tree

  module _ (e : Expr) (names : NamesIn e) (seen b : List ℕ) where
    -- a binder is one of before or a part
    pub binders_value : (y : ℕ) → (binder_of (binders_of u e b) y ≡ binder_of b y) ⊎ (elem (binder_of (binders_of u e b) y) (parts e) ≡ true)
    binders_value y = in_turn_lem (λ s c. (binder_of c y ≡ binder_of b y) ⊎ (elem (binder_of c y) (parts e) ≡ true)) (parts e)
        (λ n x h l l' s c k. ⊎_elim (λ p. ⊎_elim (λ q. inl (p ∙ q)) (λ q. inr (rw p q)) k) (λ p. inr (rw p h)) (name_value n x c y))
        e (λ m h. h) names seen b (inl refl)

    pub binders_idle : (y : ℕ) → 1 ≤ y → u y ≡ false → binder_of (binders_of u e b) y ≡ binder_of b y
    binders_idle y low known = in_turn_lem (λ s c. binder_of c y ≡ binder_of b y) (parts e)
        (λ n x h l l' s c k. name_idle n x c y l low known ∙ k)
        e (λ m h. h) names seen b refl

    pub binders_agree : ((m : ℕ) → elem m (parts e) ≡ true → 1 ≤ m) → Agree seen b → Agree (after u e seen) (binders_of u e b)
    binders_agree some a = in_turn_lem Agree (parts e)
        (λ n x h l l' s c k. name_agree n x c s (some n h) l l' k)
        e (λ m h. h) names seen b a

  keep_all : (es : Exprs) → NamesInAll es → (seen b : List ℕ) → Keeps b (binders_all u es b)
  keep_all es names seen b = in_turn_all (λ s c. Keeps b c) (parts_all es)
      (λ n x h l l' s c k y old. let q = k y old in name_keeps n x c y (λ z. old (sym q ∙ z)) ∙ q)
      es (λ m h. h) names seen b (λ y old. refl)

  keep_fields : (fs : Fields) → NamesInFields fs → (seen b : List ℕ) → Keeps b (binders_fields u fs b)
  keep_fields fs names seen b = in_turn_fields (λ s c. Keeps b c) (parts_fields fs)
      (λ n x h l l' s c k y old. let q = k y old in name_keeps n x c y (λ z. old (sym q ∙ z)) ∙ q)
      fs (λ m h. h) names seen b (λ y old. refl)

-- before a tree of parts ps: its parts differ, are no zeros, and bind nothing yet
pub record Before (ps seen b : List ℕ) : Type 0 where
  pub different : no_repeat ps ≡ true
  pub some : (m : ℕ) → elem m ps ≡ true → 1 ≤ m
  pub agree : Agree seen b
  pub unused : (x : ℕ) → 1 ≤ x → x ≤ 128 → elem (binder_of b x) ps ≡ true → ⊥

before_left : (xs ys : List ℕ) {seen b : List ℕ} → Before (xs ++ ys) seen b → Before xs seen b
before_left xs ys {b = b} a = record {
  different = (no_repeat_append xs ys a.different).0;
  some = λ m h. a.some m (elem_left m xs ys h);
  agree = a.agree;
  unused = λ x l l' h. a.unused x l l' (elem_left (binder_of b x) xs ys h);
}

before_right : (xs ys : List ℕ) {seen b : List ℕ} → Before (xs ++ ys) seen b → Before ys seen b
before_right xs ys {b = b} a = record {
  different = (no_repeat_append xs ys a.different).1;
  some = λ m h. a.some m (elem_right m xs ys h);
  agree = a.agree;
  unused = λ x l l' h. a.unused x l l' (elem_right (binder_of b x) xs ys h);
}

before_tail : (n : ℕ) (ps : List ℕ) {seen b : List ℕ} → Before (n ∷ ps) seen b → Before ps seen b
before_tail n ps a = before_right (n ∷ []) ps a

keeps_trans : (a b d : List ℕ) → Keeps a b → Keeps b d → Keeps a d
keeps_trans a b d k l x old = let q = k x old in l x (λ z. old (sym q ∙ z)) ∙ q

module _ (u : ℕ → Bool) where
  -- on to what stands after e
  before_next : (e : Expr) (ys seen b : List ℕ) → NamesIn e → Before (parts e ++ ys) seen b → Before ys (after u e seen) (binders_of u e b)
  before_next e ys seen b names a =
      let left = before_left (parts e) ys a in
      let right = before_right (parts e) ys a in
      record {
        different = right.different;
        some = right.some;
        agree = binders_agree u e names seen b left.some a.agree;
        unused = λ x l l' h.
            ⊎_elim (λ p. right.unused x l l' (rw p at h))
            (λ p. (no_repeat_append (parts e) ys a.different).2 (binder_of (binders_of u e b) x) p h)
            (binders_value u e names seen b x);
      }

  -- in the binders of the whole pattern
  module _ (final : List ℕ) (idle : (x : ℕ) → 1 ≤ x → x ≤ 128 → u x ≡ false → binder_of final x ≡ 0) where
    lay_name : (n x : ℕ) (seen b : List ℕ) → 1 ≤ x → x ≤ 128 → Before (n ∷ []) seen b → Keeps (bind_name u n x b) final → (key : Place)
        → entry (name_kind final n x) n 0 key ∷ [] ≡ entries (cond (fresh u seen x) (var n x) (equality_expr (name n x))) key
    unfolding entries
    lay_name n x seen b low high a keeps key =
        rw (fresh_unset u n x b seen low high a.agree) (go (u x) refl (eqb (binder_of b x) 0) refl keeps)
      where
        some : 1 ≤ n
        some = a.some n (elem_head n n [] refl)

        kind : (c : Bool) → eqb (binder_of final x) n ≡ c → entry (name_kind final n x) n 0 key ∷ [] ≡ entry (cond c 1 3) n 0 key ∷ []
        kind c e = rw e

        go : (s : Bool) → u x ≡ s → (t : Bool) → eqb (binder_of b x) 0 ≡ t → Keeps (cond (s && t) (set b (x - 1) n) b) final
            → entry (name_kind final n x) n 0 key ∷ [] ≡ entries (cond (s && t) (var n x) (equality_expr (name n x))) key
        go true p true q k =
            let long = a.agree.long in
            let own = get_or-set_same b (x - 1) n 0 (omega arith) in
            let low-n = some in
            kind true (eq-eqb (binder_of final x) n (k x (λ z. omega arith) ∙ own))
        go true p false q k =
            let old = k x (eqb-false (binder_of b x) 0 q) in
            kind false (ne_eqb (binder_of final x) n (λ z. a.unused x low high (elem_head (binder_of b x) n [] (sym old ∙ z))))
        go false p t q k =
            let zero-there = idle x low high p in
            let low-n = some in
            kind false (ne_eqb (binder_of final x) n (λ z. omega arith))

    mutual
      unfolding plan entries lay_out binders_of after parts AllNames count

      lay : (e : Expr) (seen b : List ℕ) → NamesIn e → Before (parts e) seen b → Keeps (binders_of u e b) final → (key : Place) → lay_out final e key ≡ entries (plan u e seen) key
      lay (literal n l) seen b names a keeps key = refl
      lay (name n x) seen b names a keeps key = lay_name n x seen b names.0 names.1 a keeps key
      lay (wildcard n) seen b names a keeps key = refl
      lay (array n es) seen b names a keeps key =
          let c = count_plans es seen in
          let t = lay_all es seen b names (before_tail n (parts_all es) a) keeps 1 in
          cc
      lay (Expr.set n es) seen b names a keeps key = refl
      lay (object n fs) seen b names a keeps key =
          ap (λ (o : FieldOrder (List Entry)). entry 6 n (length (in_order o)) key ∷ concat (in_order o))
          (lay_fields fs seen b names (before_tail n (parts_fields fs) a) keeps 1 no_fields)
      lay (other n) seen b names a keeps key = refl

      lay_all : (es : Exprs) (seen b : List ℕ) → NamesInAll es → Before (parts_all es) seen b → Keeps (binders_all u es b) final → (i : ℕ) → lay_out_all final es i ≡ entries_all_lem (plans u es seen) i
      lay_all none seen b names a keeps i = refl
      lay_all (item e es) seen b names a keeps i =
          let here = lay e seen b names.0 (before_left (parts e) (parts_all es) a)
          (keeps_trans (binders_of u e b) (binders_all u es (binders_of u e b)) final (keep_all u es names.1 seen (binders_of u e b)) keeps) (below 0 i) in
          let rest = lay_all es (after u e seen) (binders_of u e b) names.1 (before_next e (parts_all es) seen b names.0 a) keeps (i + 1) in
          cc

      lay_fields : (fs : Fields) (seen b : List ℕ) → NamesInFields fs → Before (parts_fields fs) seen b → Keeps (binders_fields u fs b) final
          → (i : ℕ) (o : FieldOrder (List Entry)) → lay_out_fields final fs i o ≡ field_order (field_plans u fs seen) i o
      lay_fields done seen b names a keeps i o = refl
      lay_fields (field k v fs) seen b names a keeps i o =
          let after-key = before_right (parts k) (parts v ++ parts_fields fs) a in
          let here = lay v seen b names.1 (before_left (parts v) (parts_fields fs) after-key)
          (keeps_trans (binders_of u v b) (binders_fields u fs (binders_of u v b)) final (keep_fields u fs names.2 seen (binders_of u v b)) keeps) (below (node_of k) i) in
          lay_fields fs (after u v seen) (binders_of u v b) names.2 (before_next v (parts_fields fs) seen b names.1 after-key) keeps (i + 1)
          (add_field (literal_key k) (lay_out final v (below (node_of k) i)) o)
          ∙ ap (λ (es : List Entry). field_order (field_plans u fs (after u v seen)) (i + 1) (add_field (literal_key k) es o)) here

      count_plans : (es : Exprs) (seen : List ℕ) → count es ≡ count_plans_lem (plans u es seen)
      count_plans none seen = refl
      count_plans (item e es) seen = ap (λ (k : ℕ). 1 + k) (count_plans es (after u e seen))

-- from no names

unset : (x : ℕ) → 1 ≤ x → x ≤ 128 → binder_of (replicate 128 0) x ≡ 0
unset x low high = get_or-replicate 128 (x - 1) 0 0 (omega arith)

agree_first : Agree [] (replicate 128 0)
unfolding elem
agree_first = record {
  each = λ x l h. let e = unset x l h in rw e;
  long = let e = length-replicate {A = ℕ} 128 0 in omega arith;
}

module _ (u : ℕ → Bool) (e : Expr) (different : no_repeat (parts e) ≡ true) (some : (m : ℕ) → elem m (parts e) ≡ true → 1 ≤ m) (names : NamesIn e) where
  pub lay_plan : (key : Place) → lay_out (binders_of u e (replicate 128 0)) e key ≡ entries (plan u e []) key
  lay_plan key =
      lay u (binders_of u e (replicate 128 0)) (λ x l h known. binders_idle u e names [] (replicate 128 0) x l known ∙ unset x l h)
      e [] (replicate 128 0) names
      (record { different = different; some = some; agree = agree_first; unused = λ x l h t. let z = unset x l h in let s = some _ t in omega arith })
      (λ x old. refl) key

  pub bound_agree : (x : ℕ) → 1 ≤ x → x ≤ 128 → elem x (after u e []) ≡ not (eqb (binder_of (binders_of u e (replicate 128 0)) x) 0)
  bound_agree = (binders_agree u e names [] (replicate 128 0) some agree_first).each

-- of a table

module _ (P : ℕ → ℕ → Type 0) (g : ℕ → Expr) (ch : List ℕ) where
  names_items : (at k : ℕ) → ((i : ℕ) → i < k → AllNames P (g (child_at ch (at + i)))) → AllNamesAll P (items g ch at k)
  unfolding items AllNames
  names_items at zero each = tt
  names_items at (suc k) each =
      let z : at + 0 ≡ at = omega arith in
      (rw z at (each 0 (omega arith)), names_items (at + 1) k (λ i lt. let e : at + (i + 1) ≡ at + 1 + i = omega arith in rw e at (each (i + 1) (omega arith))))

  names_fields : (at k : ℕ) → ((i : ℕ) → i < k * 2 → AllNames P (g (child_at ch (at + i)))) → AllNamesFields P (fields g ch at k)
  unfolding fields AllNames
  names_fields at zero each = tt
  names_fields at (suc k) each =
      let z : at + 0 ≡ at = omega arith in (
        rw z at (each 0 (omega arith)),
        each 1 (omega arith),
        names_fields (at + 2) k (λ i lt. let e : at + (i + 2) ≡ at + 2 + i = omega arith in rw e at (each (i + 2) (omega arith))),
      )

names_leaf : (P : ℕ → ℕ → Type 0) (n : ℕ) (o : Option Literal) → AllNames P (leaf_of n o)
unfolding AllNames
names_leaf P n Option.none = tt
names_leaf P n (Option.some l) = tt

names_named : (P : ℕ → ℕ → Type 0) (b : Bool) (n x : ℕ) → (b ≡ false → P n x) → AllNames P (named_by b n x)
unfolding AllNames
names_named P true n x p = tt
names_named P false n x p = p refl

module _ (T : Tables) (w : WellFormed T) where
  names_to : (P : ℕ → ℕ → Type 0) → ((n : ℕ) → Node T n → kind_of T.nodes n ≡ 6 → is_wildcard T (first_word_of T.nodes n) ≡ false → P n (first_word_of T.nodes n)) → (fuel n : ℕ) → Node T n → n ≤ fuel → AllNames P (expr T n)
  unfolding headed AllNames
  names_to P holds zero n v le = let l = v.low in absurd (omega arith)
  names_to P holds (suc fuel) n v le =
      go (eqb (kind_of T.nodes n) 6) refl (eqb (kind_of T.nodes n) 7) refl (eqb (kind_of T.nodes n) 8) refl (eqb (kind_of T.nodes n) 9) refl
      (λ i lt. let b = w.below n v i lt in names_to P holds fuel (child_at T.children (first_word_of T.nodes n + i)) (child_node T w n v i lt) (omega arith))
    where
      kind : ℕ
      kind = kind_of T.nodes n

      first : ℕ
      first = first_word_of T.nodes n

      size : ℕ
      size = count_of T.nodes n

      go : (r : Bool) → eqb kind 6 ≡ r → (s : Bool) → eqb kind 7 ≡ s → (t : Bool) → eqb kind 8 ≡ t → (v : Bool) → eqb kind 9 ≡ v
          → ((i : ℕ) → i < width T.nodes n → AllNames P (expr T (child_at T.children (first + i)))) → AllNames P (expr T n)
      go true o s p t q f r each =
          let k = eqb-true kind 6 o in
          rw (expr_name T w n v k) (names_named P (is_wildcard T first) n first (holds n v k))
      go false o true p t q f r each =
          let k = eqb-true kind 7 p in
          let e = width_array kind size k in
          rw (expr_array T w n v k) (names_items P (expr T) T.children first size (λ i lt. each i (omega arith)))
      go false o false p true q f r each =
          let k = eqb-true kind 8 q in
          let e = width_set kind size k in
          rw (expr_set T w n v k) (names_items P (expr T) T.children first size (λ i lt. each i (omega arith)))
      go false o false p false q true r each =
          let k = eqb-true kind 9 r in
          let e = width_object kind size k in
          rw (expr_object T w n v k) (names_fields P (expr T) T.children first size (λ i lt. each i (omega arith)))
      go false o false p false q false r each = rw (expr_unfolds T w n v) (simp (o, p, q, r) (names_leaf P n (literal_at T n)))

  -- what holds of the name nodes of the table, those of `_` aside
  pub names_all : (P : ℕ → ℕ → Type 0) → ((n : ℕ) → Node T n → kind_of T.nodes n ≡ 6 → is_wildcard T (first_word_of T.nodes n) ≡ false → P n (first_word_of T.nodes n)) → (n : ℕ) → Node T n → AllNames P (expr T n)
  names_all P holds n v = names_to P holds n n v (omega arith)

  pub names_in : (n : ℕ) → Node T n → NamesIn (expr T n)
  names_in = names_all InRange (λ n v k named.
      let x = w.named n v k in
      let l = x.low in
      let h = x.high in
      let m = w.limits.names in
      (omega arith, omega arith))

  module _ (u : ℕ → Bool) (n : ℕ) (v : Node T n) where
    pub lay_plan_of : (key : Place) → lay_out (binders_of u (expr T n) (replicate 128 0)) (expr T n) key ≡ entries (plan u (expr T n) []) key
    lay_plan_of key = let f = forest T w n v in lay_plan u (expr T n) f.different (λ m h. (f.within m h).0) (names_in n v) key

    pub bound_agree_of : (x : ℕ) → 1 ≤ x → x ≤ 128 → elem x (after u (expr T n) []) ≡ not (eqb (binder_of (binders_of u (expr T n) (replicate 128 0)) x) 0)
    bound_agree_of = let f = forest T w n v in bound_agree u (expr T n) f.different (λ m h. (f.within m h).0) (names_in n v)
