-- The walk over the names that stand as computed keys.
use Prim.Native.Nat.{ℕ, zero, suc, ◌+◌, ◌-◌, ◌*◌, ◌^◌, ◌≤◌, ◌<◌}
use mathlib.Core.Path.{◌≡◌, refl, sym, ap, subst, ◌∙◌}
use mathlib.Core.Logic.{⊎_elim}
use mathlib.Core.List.{List, [], ◌∷◌, ◌++◌}
use mathlib.Core.Bool.{Bool, true, false, cond, ◌||◌}
use native.Mathlib.Omega.{arith}
use mir.Val.{Fits}
use mir.Syntax.{w64}
use borrow.Author.Tests.{eqb-true, eqb-false, eq-eqb, ne_eqb}
use lib.Dec.{T as True, eqb}
use lib.ListN.{length, get_or, set, length-set}
use lib.Seq.{get_or-set_same, get_or-set_other, ext_get_or}
use Rattle.scope.specs.declared.Scope.{Scope}
use Rattle.scope.specs.declared.ScopingMode.{ScopingMode}
use Rattle.table.specs.Tables.{Tables, kind_of, first_word_of, count_of, child_at}
use Rattle.table.specs.Expr as Expr
use Rattle.table.specs.Expr.{Expr, literal, name, wildcard, array, object, other, Exprs, item, Fields, done, field}
use Rattle.table.specs.Decode.{expr, items, fields, fields_of, is_wildcard}
use Rattle.base.specs.Lists.{elem}
use Rattle.table.proofs.trees.Lists.{elem_nil, elem_head, elem_tail, elem_append}
use Rattle.table.proofs.trees.Trees.{expr_name, expr_array, expr_object}
use Rattle.planner.specs.code.Post.{Walks, WalksChildren, GoodRoot}
use Rattle.planner.specs.Simple.{mentions}
use Rattle.planner.specs.Names.{occurrences, names_of, states_of}
use Rattle.planner.proofs.laws.Mentions.{mentions_any, mentions_fields, mentions_item, mentions_field}
use Rattle.planner.proofs.laws.Names.{span_keyed, span_values, span_asks}
use Rattle.planner.proofs.laws.PlanLaws.{elem_either}
use Rattle.planner.proofs.laws.SamePlan.{states_wild}
use Rattle.planner.proofs.destructuring.Walking.{ask_name, walk_fits, walk_on, walk_child, walk_below}
use Rattle.planner.proofs.destructuring.NodeKinds.{Plain, plain_literal, plain_set, plain_other, plain_kind}
use Rattle.planner.proofs.buffer.Filling.{length_tabulate, get_d_tabulate}
use Rattle.value.proofs.Keys.{or_left, or_right, true_is}
use Rattle.report.specs.ComputedKeys.{key_name, key_names, names_as_keys, names_as_keys_all, names_as_keys_fields}
use Rattle.report.specs.Report.{names_met, names_reported}
use Rattle.report.specs.code.Post.{name_words, met_words, report_words, marked, keys_from, keys_below, ObjectAsks}
use Rattle.report.proofs.Meeting.{met_mentioned, mentioned_named}

-- marks, one list after the other
marked_append : (xs ys words : List ℕ) → marked (xs ++ ys) words ≡ marked ys (marked xs words)
unfolding marked
marked_append [] ys words = refl
marked_append (x ∷ xs) ys words = marked_append xs ys (set words (x - 1) 2)

marked_long : (xs words : List ℕ) → length (marked xs words) ≡ length words
unfolding marked
marked_long [] words = refl
marked_long (x ∷ xs) words = marked_long xs (set words (x - 1) 2) ∙ length-set words (x - 1) 2

marked_at : (xs words : List ℕ) → ((x : ℕ) → elem x xs ≡ true → 1 ≤ x) → (k : ℕ) → k < length words → get_or (marked xs words) k 0 ≡ cond (elem (k + 1) xs) 2 (get_or words k 0)
unfolding marked elem
marked_at [] words low k lt = refl
marked_at (x ∷ xs) words low k lt =
    let long = length-set words (x - 1) 2 in
    marked_at xs (set words (x - 1) 2) (λ y e. low y (elem_tail y x xs e)) k (omega arith) ∙ go (low x (elem_head x x xs refl)) (eqb (k + 1) x) refl
  where
    either : (c : Bool) → ◌≡◌ {A = ℕ} (cond c 2 2) 2
    either true = refl
    either false = refl

    go : 1 ≤ x → (b : Bool) → eqb (k + 1) x ≡ b → cond (elem (k + 1) xs) 2 (get_or (set words (x - 1) 2) k 0) ≡ cond (eqb (k + 1) x || elem (k + 1) xs) 2 (get_or words k 0)
    go some true p =
        let y = eqb-true (k + 1) x p in
        let z : k ≡ x - 1 = omega arith in
        let g : get_or (set words (x - 1) 2) k 0 ≡ 2 = ap (λ (j : ℕ). get_or (set words (x - 1) 2) j 0) z ∙ get_or-set_same words (x - 1) 2 0 (omega arith) in
        rw (p, g) (either (elem (k + 1) xs))
    go some false p =
        let y = eqb-false (k + 1) x p in
        let g : get_or (set words (x - 1) 2) k 0 ≡ get_or words k 0 = get_or-set_other words (x - 1) k 2 0 (λ z. y (omega arith)) in
        rw (p, g)

-- a name that is reported stands in the pattern
module _ (x : ℕ) where
  key_mentioned : (k : Expr) → elem x (key_name k) ≡ true → True (mentions x k)
  unfolding occurrences names_of elem
  key_mentioned (literal n l) h = absurd (elem_nil x h)
  key_mentioned (name n y) h = true_is h
  key_mentioned (wildcard n) h = absurd (elem_nil x h)
  key_mentioned (array n es) h = absurd (elem_nil x h)
  key_mentioned (Expr.set n es) h = absurd (elem_nil x h)
  key_mentioned (object n fs) h = absurd (elem_nil x h)
  key_mentioned (other n) h = absurd (elem_nil x h)

  keys_mentioned : (fs : Fields) → elem x (key_names fs) ≡ true → True (mentions_fields x fs)
  unfolding key_names
  keys_mentioned done h = absurd (elem_nil x h)
  keys_mentioned (field k v fs) h =
      subst True (sym (mentions_field x k v fs))
      (⊎_elim (λ q. or_left (mentions x k) (mentions x v || mentions_fields x fs) (key_mentioned k q))
      (λ q. or_right (mentions x k) (mentions x v || mentions_fields x fs) (or_right (mentions x v) (mentions_fields x fs) (keys_mentioned fs q)))
      (elem_append x (key_name k) (key_names fs) h))

  mutual
    unfolding names_as_keys occurrences

    below_mentioned : (e : Expr) → elem x (names_as_keys e) ≡ true → True (mentions x e)
    below_mentioned (literal n l) h = absurd (elem_nil x h)
    below_mentioned (name n y) h = absurd (elem_nil x h)
    below_mentioned (wildcard n) h = absurd (elem_nil x h)
    below_mentioned (array n es) h = below_mentioned_all es h
    below_mentioned (Expr.set n es) h = absurd (elem_nil x h)
    below_mentioned (object n fs) h = ⊎_elim (keys_mentioned fs) (λ q. below_mentioned_fields fs q) (elem_append x (key_names fs) (names_as_keys_fields fs) h)
    below_mentioned (other n) h = absurd (elem_nil x h)

    below_mentioned_all : (es : Exprs) → elem x (names_as_keys_all es) ≡ true → True (mentions_any x es)
    below_mentioned_all Expr.none h = absurd (elem_nil x h)
    below_mentioned_all (item e es) h =
        subst True (sym (mentions_item x e es))
        (⊎_elim (λ q. or_left (mentions x e) (mentions_any x es) (below_mentioned e q)) (λ q. or_right (mentions x e) (mentions_any x es) (below_mentioned_all es q)) (elem_append x (names_as_keys e) (names_as_keys_all es) h))

    below_mentioned_fields : (fs : Fields) → elem x (names_as_keys_fields fs) ≡ true → True (mentions_fields x fs)
    below_mentioned_fields done h = absurd (elem_nil x h)
    below_mentioned_fields (field k v fs) h =
        subst True (sym (mentions_field x k v fs))
        (or_right (mentions x k) (mentions x v || mentions_fields x fs)
        (⊎_elim (λ q. or_left (mentions x v) (mentions_fields x fs) (below_mentioned v q)) (λ q. or_right (mentions x v) (mentions_fields x fs) (below_mentioned_fields fs q)) (elem_append x (names_as_keys v) (names_as_keys_fields fs) h)))

  pub reported_mentioned : (e : Expr) → elem x (names_reported e) ≡ true → True (mentions x e)
  reported_mentioned e h = ⊎_elim (met_mentioned x e) (below_mentioned e) (elem_append x (names_met e) (names_as_keys e) h)

-- a node by its kind, as the readers gave its words
module _ (T : Tables) (states before : List ℕ) (n : ℕ) (a : Walks T states n) {kind : ℕ} (is-kind : kind ≡ kind_of T.nodes n) where
  node_kind : {k : ℕ} → kind ≡ k → kind_of T.nodes n ≡ k
  node_kind e = sym is-kind ∙ e

  abbrev Keyed : List ℕ → Type 0
  Keyed after = after ≡ marked (key_name (expr T n)) before

  keyed : {t : Expr} {after : List ℕ} → expr T n ≡ t → after ≡ marked (key_name t) before → Keyed after
  keyed tree e = e ∙ sym (ap (λ (t : Expr). marked (key_name t) before) tree)

  abbrev Below : List ℕ → Type 0
  Below after = after ≡ marked (names_as_keys (expr T n)) before

  below : {t : Expr} {after : List ℕ} → expr T n ≡ t → after ≡ marked (names_as_keys t) before → Below after
  below tree e = e ∙ sym (ap (λ (t : Expr). marked (names_as_keys t) before) tree)

  -- a key
  pub key_computed : (kind ≡ 6 → ⊥) → Keyed before
  unfolding marked
  key_computed not-6 = go7 (eqb (kind_of T.nodes n) 7) refl
    where
      plain : {e : Expr} → expr T n ≡ e → Plain (kind_of T.nodes n) n e → Keyed before
      plain q (plain_literal l h) = keyed q refl
      plain q (plain_set es h) = keyed q refl
      plain q (plain_other h) = keyed q refl

      go9 : (kind_of T.nodes n ≡ 7 → ⊥) → (b : Bool) → eqb (kind_of T.nodes n) 9 ≡ b → Keyed before
      go9 not-7 true p = keyed (expr_object T a.table n a.node (eqb-true (kind_of T.nodes n) 9 p)) refl
      go9 not-7 false p = let q = plain_kind T a.table n a.node (λ k. not-6 (is-kind ∙ k)) not-7 (eqb-false (kind_of T.nodes n) 9 p) in plain q.1 q.2

      go7 : (b : Bool) → eqb (kind_of T.nodes n) 7 ≡ b → Keyed before
      go7 true p = keyed (expr_array T a.table n a.node (eqb-true (kind_of T.nodes n) 7 p)) refl
      go7 false p = go9 (eqb-false (kind_of T.nodes n) 7 p) (eqb (kind_of T.nodes n) 9) refl

  module _ {first : ℕ} (is_first : first ≡ first_word_of T.nodes n) (k : kind ≡ 6) where
    pub key_low : 1 ≤ first
    key_low = (ask_name T states n a is-kind is_first k).low

    pub key_place : first - 1 < 128
    key_place = let v = ask_name T states n a is-kind is_first k in let l = v.low in let h = v.high in omega arith

    wild : is_wildcard T (first_word_of T.nodes n) ≡ eqb (get_or states (first - 1) 0) 2
    wild = rw is_first (a.states_ok.wild (first_word_of T.nodes n) (a.table.named n a.node (node_kind k)))

    pub key_underscore : get_or states (first - 1) 0 ≡ 2 → Keyed before
    unfolding marked
    key_underscore two = let p = wild ∙ eq-eqb (get_or states (first - 1) 0) 2 two in keyed {t = wildcard n} (expr_name T a.table n a.node (node_kind k) ∙ simp p) refl

    pub key_named : (get_or states (first - 1) 0 ≡ 2 → ⊥) → {after : List ℕ} → after ≡ set before (first - 1) 2 → Keyed after
    unfolding marked
    key_named other-state e =
        let p = wild ∙ ne_eqb (get_or states (first - 1) 0) 2 other-state in
        keyed {t = name n (first_word_of T.nodes n)} (expr_name T a.table n a.node (node_kind k) ∙ simp p) (rw is_first at e)

  -- the walk below a node
  pub keys_none : (kind ≡ 7 → ⊥) → (kind ≡ 9 → ⊥) → Below before
  unfolding marked names_as_keys
  keys_none not-7 not-9 = go6 (eqb (kind_of T.nodes n) 6) refl
    where
      plain : {e : Expr} → expr T n ≡ e → Plain (kind_of T.nodes n) n e → Below before
      plain q (plain_literal l h) = below q refl
      plain q (plain_set es h) = below q refl
      plain q (plain_other h) = below q refl

      named : (b : Bool) → expr T n ≡ cond b (wildcard n) (name n (first_word_of T.nodes n)) → Below before
      named true q = below q refl
      named false q = below q refl

      go6 : (b : Bool) → eqb (kind_of T.nodes n) 6 ≡ b → Below before
      go6 true p = named (is_wildcard T (first_word_of T.nodes n)) (expr_name T a.table n a.node (eqb-true (kind_of T.nodes n) 6 p))
      go6 false p = let q = plain_kind T a.table n a.node (eqb-false (kind_of T.nodes n) 6 p) (λ k. not-7 (is-kind ∙ k)) (λ k. not-9 (is-kind ∙ k)) in plain q.1 q.2

module _ (g : ℕ → Expr) (ch : List ℕ) where
  all_from : (at k : ℕ) → names_as_keys_all (items g ch at k) ≡ keys_from g ch at 1 k
  unfolding names_as_keys keys_from items
  all_from at zero = refl
  all_from at (suc k) = ap (λ (xs : List ℕ). names_as_keys (g (child_at ch at)) ++ xs) (all_from (at + 1) k)

  fields_from_lem : (at k : ℕ) → names_as_keys_fields (fields g ch at k) ≡ keys_from g ch (at + 1) 2 k
  unfolding names_as_keys keys_from fields
  fields_from_lem at zero = refl
  fields_from_lem at (suc k) =
      let e : at + 2 + 1 ≡ at + 1 + 2 = omega arith in
      ap (λ (xs : List ℕ). names_as_keys (g (child_at ch (at + 1))) ++ xs) (fields_from_lem (at + 2) k ∙ ap (λ (i : ℕ). keys_from g ch i 2 k) e)

module _ (T : Tables) (states before : List ℕ) (n : ℕ) (a : Walks T states n) {kind first size : ℕ} (is-kind : kind ≡ kind_of T.nodes n) (is_first : first ≡ first_word_of T.nodes n) (is_size : size ≡ count_of T.nodes n) where
  pub keys_items : kind ≡ 7 → {after : List ℕ} → after ≡ marked (keys_below T first 1 size) before → after ≡ marked (names_as_keys (expr T n)) before
  unfolding names_as_keys
  keys_items k e =
      below T states before n a is-kind (expr_array T a.table n a.node (sym is-kind ∙ k))
      ((rw (is_first, is_size) at e) ∙ ap (λ (xs : List ℕ). marked xs before) (sym (all_from (expr T) T.children (first_word_of T.nodes n) (count_of T.nodes n))))

  pub keys_fields : kind ≡ 9 → {mid after : List ℕ} → mid ≡ marked (key_names (fields_of T n)) before → after ≡ marked (keys_below T (first + 1) 2 size) mid → after ≡ marked (names_as_keys (expr T n)) before
  unfolding names_as_keys
  keys_fields k {mid} m e =
      below T states before n a is-kind (expr_object T a.table n a.node (sym is-kind ∙ k))
      ((rw (is_first, is_size) at e)
      ∙ (ap (λ (xs : List ℕ). marked xs mid) (sym (fields_from_lem (expr T) T.children (first_word_of T.nodes n) (count_of T.nodes n)))
      ∙ (ap (λ (ws : List ℕ). marked (names_as_keys_fields (fields_of T n)) ws) m
      ∙ sym (marked_append (key_names (fields_of T n)) (names_as_keys_fields (fields_of T n)) before))))

  module _ (low : first < 2 ^ 32) (few : size < 2 ^ 32) where
    pub ask_values : kind ≡ 9 → WalksChildren T states n (first + 1) 2 size
    ask_values k = span_asks T states n a false false is-kind (λ six. omega arith) (span_values T.nodes false false n is-kind is_first is_size low few k refl)

    ask_keys : kind ≡ 9 → WalksChildren T states n first 2 size
    ask_keys k =
        let w = span_asks T states n a false true is-kind (λ six. omega arith) (span_keyed T.nodes false true n is-kind is_first is_size low few k refl) in
        record {
          table = w.table;
          states_ok = w.states_ok;
          each = λ i lt. let e : first + i * 2 * 1 ≡ first + i * 2 = omega arith in rw e at (w.each (i * 2) (omega arith));
          small = omega arith;
        }

pub ask_object : {T : Tables} {states : List ℕ} {n kind : ℕ} → Walks T states n → kind ≡ kind_of T.nodes n → kind ≡ 9 → ObjectAsks T states n
ask_object a is-kind k = record { walks = a; object = sym is-kind ∙ k }

-- the keys of an object in turn
abbrev keys_at : Tables → ℕ → ℕ → List ℕ
keys_at T at k = key_names (fields (expr T) T.children at k)

pub record MarkingKeys (T : Tables) (states : List ℕ) (n : ℕ) (before : List ℕ) (at left : ℕ) (here : List ℕ) : Type 0 where
  pub asks : WalksChildren T states n at 2 left
  pub same : marked (keys_at T at left) here ≡ marked (key_names (fields_of T n)) before

pub marking_start : (T : Tables) (states before : List ℕ) (n : ℕ) → ObjectAsks T states n → {first size : ℕ} → first ≡ first_word_of T.nodes n → size ≡ count_of T.nodes n → first < 2 ^ 32 → size < 2 ^ 32
    → MarkingKeys T states n before (first + 0) (size - 0) before
marking_start T states before n a {first} {size} is_first is_size low few =
    let p : first + 0 ≡ first = omega arith in
    let q : size - 0 ≡ size = omega arith in
    rw (p, q) (record {
      asks = ask_keys T states before n a.walks refl is_first is_size low few a.object;
      same = rw (is_first, is_size);
    })

module _ {T : Tables} {states : List ℕ} {n : ℕ} {before : List ℕ} {at left : ℕ} {here : List ℕ} (go : MarkingKeys T states n before at left here) where
  module _ (more : 0 < left) {key : ℕ} (is_key : key ≡ child_at T.children at) where
    pub marking_key : Walks T states key
    marking_key = walk_child go.asks more is_key

    pub marking_on : {next : List ℕ} {place last : ℕ} → next ≡ marked (key_name (expr T key)) here → place ≡ at + 2 → last ≡ left - 1 → MarkingKeys T states n before place last next
    unfolding key_names fields
    marking_on {next} e on of = rw (on, of) (record {
      asks = walk_on go.asks more;
      same =
          ap (λ (ws : List ℕ). marked (keys_at T (at + 2) (left - 1)) ws) (rw is_key at e)
          ∙ (sym (marked_append (key_name (expr T (child_at T.children at))) (keys_at T (at + 2) (left - 1)) here) ∙ (sym (ap (λ (xs : List ℕ). marked xs here) step) ∙ go.same));
    })
      where
        step : keys_at T at left ≡ key_name (expr T (child_at T.children at)) ++ keys_at T (at + 2) (left - 1)
        step = let a : left ≡ suc (left - 1) = omega arith in ap (λ (k : ℕ). keys_at T at k) a

  pub marking_fits : 0 < left → Fits w64 at
  marking_fits more = walk_fits go.asks more

  pub marking_ends : left ≤ 0 → here ≡ marked (key_names (fields_of T n)) before
  unfolding marked key_names fields
  marking_ends no_more = let z : left ≡ 0 = omega arith in sym (ap (λ (k : ℕ). marked (keys_at T at k) here) z) ∙ go.same

-- the walk over children
pub record MarkingBelow (T : Tables) (states : List ℕ) (parent at₀ step left₀ : ℕ) (before : List ℕ) (at left : ℕ) (here : List ℕ) : Type 0 where
  pub asks : WalksChildren T states parent at step left
  pub same : marked (keys_below T at step left) here ≡ marked (keys_below T at₀ step left₀) before

pub below_start : (T : Tables) (states : List ℕ) (parent at step left : ℕ) (before : List ℕ) {place more : ℕ} → WalksChildren T states parent at step left → place ≡ at → more ≡ left
    → MarkingBelow T states parent at step left before place more before
below_start T states parent at step left before a is of = rw (is, of) (record { asks = a; same = refl })

module _ {T : Tables} {states : List ℕ} {parent at₀ step left₀ : ℕ} {before : List ℕ} {at left : ℕ} {here : List ℕ} (go : MarkingBelow T states parent at₀ step left₀ before at left here) where
  module _ (more : 0 < left) {child : ℕ} (is-child : child ≡ child_at T.children at) where
    pub below_child : Walks T states child
    below_child = walk_child go.asks more is-child

    pub below_lower : child < parent
    below_lower = walk_below go.asks more is-child

    pub below_on : {next : List ℕ} {place last : ℕ} → next ≡ marked (names_as_keys (expr T child)) here → place ≡ at + step → last ≡ left - 1
        → MarkingBelow T states parent at₀ step left₀ before place last next
    unfolding keys_from
    below_on {next} e on of = rw (on, of) (record {
      asks = walk_on go.asks more;
      same =
          ap (λ (ws : List ℕ). marked (keys_below T (at + step) step (left - 1)) ws) (rw is-child at e)
          ∙ (sym (marked_append (names_as_keys (expr T (child_at T.children at))) (keys_below T (at + step) step (left - 1)) here) ∙ (sym (ap (λ (xs : List ℕ). marked xs here) one) ∙ go.same));
    })
      where
        one : keys_below T at step left ≡ names_as_keys (expr T (child_at T.children at)) ++ keys_below T (at + step) step (left - 1)
        one = let a : left ≡ suc (left - 1) = omega arith in ap (λ (k : ℕ). keys_below T at step k) a

  pub below_fits : 0 < left → Fits w64 at
  below_fits more = walk_fits go.asks more

  pub below_ends : left ≤ 0 → here ≡ marked (keys_below T at₀ step left₀) before
  unfolding marked keys_from
  below_ends no_more = let z : left ≡ 0 = omega arith in sym (ap (λ (k : ℕ). marked (keys_below T at step k) here) z) ∙ go.same

-- from the root
module _ (T : Tables) (root : ℕ) (g : GoodRoot T root) where
  pub ask_walk : (s : Scope) (mode : ScopingMode) {states : List ℕ} → states ≡ states_of T.names T.text s mode → Walks T states root
  ask_walk s mode {states} of = record { table = g.table; states_ok = states_wild T s mode states of g.table; node = g.node }

  abbrev keys : List ℕ
  keys = names_as_keys (expr T root)

  pub reported_words : {met after : List ℕ} → met ≡ met_words (expr T root) → after ≡ marked (names_as_keys (expr T root)) met → after ≡ report_words (expr T root)
  unfolding met_words report_words
  reported_words {met} {after} is e =
      ext_get_or 0 after (name_words (names_reported (expr T root))) (long ∙ sym (length_tabulate (λ i. cond (elem (i + 1) (names_reported (expr T root))) 2 0) 0 128))
      (λ i lt.
      let l = long in
      let small : i < 128 = omega arith in
      ap (λ (ws : List ℕ). get_or ws i 0) (e ∙ ap (marked keys) is)
      ∙ (marked_at keys (name_words (names_met (expr T root))) low i (rw words_long small)
      ∙ (ap (λ (v : ℕ). cond (elem (i + 1) keys) 2 v) (word (names_met (expr T root)) i small)
      ∙ (join (elem (i + 1) (names_met (expr T root))) (elem (i + 1) keys)
      ∙ (sym (ap (λ (b : Bool). cond b 2 0) (elem_either (i + 1) (names_met (expr T root)) keys)) ∙ sym (word (names_reported (expr T root)) i small))))))
    where
      words_long : length (name_words (names_met (expr T root))) ≡ 128
      words_long = length_tabulate (λ i. cond (elem (i + 1) (names_met (expr T root))) 2 0) 0 128

      long : length after ≡ 128
      long = ap length (e ∙ ap (marked keys) is) ∙ (marked_long keys (name_words (names_met (expr T root))) ∙ words_long)

      low : (x : ℕ) → elem x keys ≡ true → 1 ≤ x
      low x h = (mentioned_named T g.table root g.node x (below_mentioned x (expr T root) h)).low

      word : (xs : List ℕ) (i : ℕ) → i < 128 → get_or (name_words xs) i 0 ≡ cond (elem (i + 1) xs) 2 0
      word xs i lt = let z : 0 + i ≡ i = omega arith in get_d_tabulate (λ j. cond (elem (j + 1) xs) 2 0) 0 128 i lt ∙ ap (λ (j : ℕ). cond (elem (j + 1) xs) 2 0) z

      join : (a b : Bool) → ◌≡◌ {A = ℕ} (cond b 2 (cond a 2 0)) (cond (a || b) 2 0)
      join true true = refl
      join true false = refl
      join false b = refl
