-- One entry, carried out by its kind.
use Prim.Native.Nat.{ℕ, zero, suc, ◌+◌, ◌-◌, ◌*◌, ◌≤◌, ◌<◌}
use mathlib.Core.Path.{◌≡◌, refl, sym, ap, ◌∙◌}
use mathlib.Core.List.{List, ◌++◌}
use mathlib.Core.Bool.{Bool, true, false, cond, false≢true}
use mathlib.Core.Option.{Option, none, some}
use native.Mathlib.Omega.{arith}
use lib.ListN.{length, get_or, set}
use Rattle.literal.specs.Literal.{Literal}
use Rattle.table.specs.Tables.{Tables, kind_of, first_word_of, count_of, child_at}
use Rattle.table.specs.Decode.{expr, items, fields, fields_of}
use Rattle.table.specs.Expr.{Expr, literal, name}
use Rattle.table.specs.code.Sound.{WellFormed}
use Rattle.planner.specs.Layout.{entry_words, entries}
use Rattle.planner.specs.Entries.{read_entries}
use Rattle.planner.specs.Plan.{fresh, plan, plans, field_plans, after}
use Rattle.planner.specs.code.Post.{NameNumber}
use Rattle.planner.specs.Simple.{admitted}
use Rattle.value.specs.Value.{Value, is_value, value_of, same}
use Rattle.value.specs.code.Post.{SameAsks}
use Rattle.matching.specs.Matching.{MatchOutcome, matched, missed, assign, setting, comparing, provided, run}
use Rattle.matching.specs.Reading.{name_of}
use Rattle.matching.specs.code.Linking.{children_of}
use Rattle.matching.specs.code.Post.{node_at, env_of, ListOk, run_at, EntryAsks, ItemsAsks, FieldsAsks, Came, CompareAsks}
use Rattle.matching.proofs.Patterns.{PatternShape, pattern_literal, pattern_wildcard, pattern_name, pattern_array, pattern_object, pattern_shape, some_depth}
use Rattle.matching.proofs.Lists.{node_value, env_at, set_ok, env_set}
use Rattle.matching.proofs.Standing.{entry_kind, stands_inside, stands_kind, stands_run}
use Rattle.matching.proofs.reading.WrittenOrder.{fields_from}
use Rattle.matching.proofs.reading.ReadBack.{items_from, items_counted}
use Rattle.matching.proofs.reading.PlanTold.{plan_told}
use Rattle.matching.proofs.reading.LinkedFields.{head_children, fields_counted}

-- a comparison that decides
pub compared_came : (T : Tables) {o : MatchOutcome} {list : List ℕ} {r : Bool} → ListOk T list → o ≡ provided r (matched (env_of T list)) → Came T o list r
compared_came T {o} {list} {r} ok e = record {
  hit = λ t. e ∙ ap (λ (b : Bool). provided b (matched (env_of T list))) t;
  miss = λ t. e ∙ ap (λ (b : Bool). provided b (matched (env_of T list))) t;
  list_ok = ok;
}

pub missed_came : (T : Tables) {o : MatchOutcome} {list : List ℕ} → ListOk T list → o ≡ missed → Came T o list false
missed_came T ok e = record { hit = λ t. absurd (false≢true t); miss = λ t. e; list_ok = ok }

pub matched_came : (T : Tables) {o : MatchOutcome} {list : List ℕ} → ListOk T list → o ≡ matched (env_of T list) → Came T o list true
matched_came T ok e = record { hit = λ t. e; miss = λ t. absurd (false≢true (sym t)); list_ok = ok }

-- as many plans as there are items or fields
module _ (u : ℕ → Bool) (g : ℕ → Expr) (ch : List ℕ) where
  pub items_long : (at k : ℕ) (seen : List ℕ) (i : ℕ) → length (items_from (plans u (items g ch at k) seen) i) ≡ k
  unfolding items plan items_from
  items_long at zero seen i = refl
  items_long at (suc k) seen i = ap suc (items_long (at + 1) k (after u (g (child_at ch at)) seen) (i + 1))

  pub fields_long : (at k : ℕ) (seen : List ℕ) (i : ℕ) → length (fields_from (field_plans u (fields g ch at k) seen) i) ≡ k
  unfolding fields plan fields_from
  fields_long at zero seen i = refl
  fields_long at (suc k) seen i = ap suc (fields_long (at + 2) k (after u (g (child_at ch (at + 1))) seen) (i + 1))

is_one : (b : Bool) → ◌≡◌ {A = ℕ} (cond b 1 3) 1 → b ≡ true
is_one true e = refl
is_one false e = absurd (omega arith)

is_three : (b : Bool) → ◌≡◌ {A = ℕ} (cond b 1 3) 3 → b ≡ false
is_three true e = absurd (omega arith)
is_three false e = refl

no_name : (b : Bool) (k : ℕ) → (k ≡ 1 → ⊥) → (k ≡ 3 → ⊥) → ◌≡◌ {A = ℕ} (cond b 1 3) k → ⊥
no_name true k not-1 not-3 e = not-1 (sym e)
no_name false k not-1 not-3 e = not-3 (sym e)

module _ {T : Tables} {scratch starts links : List ℕ} {at value rest : ℕ} {list : List ℕ} (a : EntryAsks T scratch starts links at value rest list) where
  abbrev node : ℕ
  node = node_at scratch at

  well : WellFormed T
  well = a.table

  -- a name that is bound here
  abbrev binding : Expr → Bool
  binding t = fresh a.unbound a.seen (name_of t)

  says : (k : ℕ) → get_or scratch (at * entry_words) 0 ≡ k → (t : Expr) → expr T node ≡ t → entry_kind (binding t) t ≡ k
  says k e t q = sym (ap (λ (x : Expr). entry_kind (binding x) x) q) ∙ (sym (stands_kind a.unbound (expr T node) a.seen a.place a.stands) ∙ e)

  pub runs : run_at T scratch at value list ≡ run (plan a.unbound (expr T node) a.seen) (value_of (expr T value)) (env_of T list)
  runs = stands_run T well a.unbound node a.node a.is_simple a.seen a.place a.few a.stands value list

  runs_as : {e : Expr} → expr T node ≡ e → run_at T scratch at value list ≡ run (plan a.unbound e a.seen) (value_of (expr T value)) (env_of T list)
  runs_as q = runs ∙ ap (λ (e : Expr). run (plan a.unbound e a.seen) (value_of (expr T value)) (env_of T list)) q

  shape : (e : Expr) × (expr T node ≡ e) × PatternShape T node e
  shape = pattern_shape T well node a.node a.is_simple

  -- what the kinds say of the node
  named : (k : ℕ) → get_or scratch (at * entry_words) 0 ≡ k → (k ≡ 2 → ⊥) → (k ≡ 4 → ⊥) → (k ≡ 5 → ⊥) → (k ≡ 6 → ⊥) → (kind_of T.nodes node ≡ 6) × (expr T node ≡ name node (first_word_of T.nodes node))
  named k e not-2 not-4 not-5 not-6 = let s = shape in go s.0 s.1 s.2 (says k e s.0 s.1)
    where
      go : (t : Expr) → expr T node ≡ t → PatternShape T node t → entry_kind (binding t) t ≡ k → (kind_of T.nodes node ≡ 6) × (expr T node ≡ name node (first_word_of T.nodes node))
      go t q (pattern_literal l h) p = absurd (not-4 (sym p))
      go t q (pattern_wildcard h) p = absurd (not-2 (sym p))
      go t q (pattern_name h) p = (h, q)
      go t q (pattern_array h) p = absurd (not-5 (sym p))
      go t q (pattern_object h) p = absurd (not-6 (sym p))

  name_number : kind_of T.nodes node ≡ 6 → NameNumber (first_word_of T.nodes node)
  name_number k =
      let v = well.named node a.node k in
      let l = v.low in
      let h = v.high in
      let few = well.limits.names in
      record { low = omega arith; high = omega arith }

  -- bind
  module _ (one : get_or scratch (at * entry_words) 0 ≡ 1) where
    bind_name_lem : (kind_of T.nodes node ≡ 6) × (expr T node ≡ name node (first_word_of T.nodes node))
    bind_name_lem = named 1 one (λ e. omega arith) (λ e. omega arith) (λ e. omega arith) (λ e. omega arith)

    pub ask_bind : NameNumber (first_word_of T.nodes node)
    ask_bind = name_number bind_name_lem.0

    binds : run_at T scratch at value list ≡ setting (first_word_of T.nodes node) (value_of (expr T value)) (env_of T list) (env_of T list (first_word_of T.nodes node))
    unfolding plan run
    binds =
        let b = is_one (fresh a.unbound a.seen (first_word_of T.nodes node)) (says 1 one (name node (first_word_of T.nodes node)) bind_name_lem.1) in
        runs_as bind_name_lem.1 ∙ rw b

    pub bound : {after : List ℕ} → after ≡ set list (first_word_of T.nodes node - 1) value → Came T (run_at T scratch at value list) after true
    bound {after} e =
        let x = ask_bind in
        rw e (matched_came T (set_ok T (first_word_of T.nodes node) x.low list x.high value a.list_ok a.value_ok)
        (binds ∙ (go (env_of T list (first_word_of T.nodes node)) refl ∙ ap matched (env_set T (first_word_of T.nodes node) x.low list x.high value a.list_ok a.value_ok))))
      where
        go : (o : Option Value) → env_of T list (first_word_of T.nodes node) ≡ o
            → setting (first_word_of T.nodes node) (value_of (expr T value)) (env_of T list) (env_of T list (first_word_of T.nodes node)) ≡ matched (assign (first_word_of T.nodes node) (value_of (expr T value)) (env_of T list))
        go none p = rw p
        go (some u) p = absurd (a.no_fault (binds ∙ rw p))

  -- ignore
  pub ignored : get_or scratch (at * entry_words) 0 ≡ 2 → Came T (run_at T scratch at value list) list true
  unfolding plan run
  ignored two = let s = shape in matched_came T a.list_ok (go s.0 s.1 s.2 (says 2 two s.0 s.1))
    where
      go : (t : Expr) → expr T node ≡ t → PatternShape T node t → entry_kind (binding t) t ≡ 2 → run_at T scratch at value list ≡ matched (env_of T list)
      go t q (pattern_literal l h) p = absurd (omega arith)
      go t q (pattern_wildcard h) p = runs_as q
      go t q (pattern_name h) p = absurd (no_name (binding t) 2 (λ e. omega arith) (λ e. omega arith) p)
      go t q (pattern_array h) p = absurd (omega arith)
      go t q (pattern_object h) p = absurd (omega arith)

  -- compare with a name
  module _ (three : get_or scratch (at * entry_words) 0 ≡ 3) where
    compare_name : (kind_of T.nodes node ≡ 6) × (expr T node ≡ name node (first_word_of T.nodes node))
    compare_name = named 3 three (λ e. omega arith) (λ e. omega arith) (λ e. omega arith) (λ e. omega arith)

    compares : run_at T scratch at value list ≡ comparing (value_of (expr T value)) (env_of T list) (env_of T list (first_word_of T.nodes node))
    unfolding plan run
    compares =
        let b = is_three (fresh a.unbound a.seen (first_word_of T.nodes node)) (says 3 three (name node (first_word_of T.nodes node)) compare_name.1) in
        runs_as compare_name.1 ∙ rw b

    held : ℕ
    held = get_or list (first_word_of T.nodes node - 1) 0

    held_some : held ≡ 0 → ⊥
    unfolding held
    held_some z =
        let x = name_number compare_name.0 in
        let e : env_of T list (first_word_of T.nodes node) ≡ none = env_at T (first_word_of T.nodes node) x.low list ∙ rw z in
        a.no_fault (compares ∙ rw e)

    pub ask_compare : CompareAsks T list node value
    unfolding held
    ask_compare = record {
      table = well;
      name = name_number compare_name.0;
      held = a.list_ok.each (first_word_of T.nodes node - 1) held_some;
      value_ok = a.value_ok;
    }

    pub compared : {r : Bool} → r ≡ same (value_of (expr T (get_or list (first_word_of T.nodes node - 1) 0))) (value_of (expr T value)) → Came T (run_at T scratch at value list) list r
    unfolding held
    compared {r} is =
        let x = name_number compare_name.0 in
        let e : env_of T list (first_word_of T.nodes node) ≡ some (value_of (expr T held)) = env_at T (first_word_of T.nodes node) x.low list ∙ node_value T held held_some in
        compared_came T a.list_ok (compares ∙ (ap (comparing (value_of (expr T value)) (env_of T list)) e ∙ ap (λ (b : Bool). provided b (matched (env_of T list))) (sym is)))

  -- compare with a literal
  module _ (four : get_or scratch (at * entry_words) 0 ≡ 4) where
    is_literal_lem : (l : Literal) × (expr T node ≡ literal node l)
    is_literal_lem = let s = shape in go s.0 s.1 s.2 (says 4 four s.0 s.1)
      where
        go : (t : Expr) → expr T node ≡ t → PatternShape T node t → entry_kind (binding t) t ≡ 4 → (l : Literal) × (expr T node ≡ literal node l)
        go t q (pattern_literal l h) p = (l, q)
        go t q (pattern_wildcard h) p = absurd (omega arith)
        go t q (pattern_name h) p = absurd (no_name (binding t) 4 (λ e. omega arith) (λ e. omega arith) p)
        go t q (pattern_array h) p = absurd (omega arith)
        go t q (pattern_object h) p = absurd (omega arith)

    pub ask_literal : SameAsks T node value
    unfolding admitted
    ask_literal = record { table = well; left = record { node = a.node; value = ap is_value is_literal_lem.1 }; right = a.value_ok }

    pub literal_compared : {r : Bool} → r ≡ same (value_of (expr T node)) (value_of (expr T value)) → Came T (run_at T scratch at value list) list r
    unfolding plan run value_of
    literal_compared {r} is =
        let (l, q) = is_literal_lem in
        compared_came T a.list_ok
        (runs_as q ∙ ap (λ (b : Bool). provided b (matched (env_of T list))) (sym (is ∙ ap (λ (e : Expr). same (value_of e) (value_of (expr T value))) q)))

  -- arrays and objects: a level less is left
  pub some_rest : 1 ≤ rest
  some_rest = let d = a.deep in let s = some_depth (expr T node) in omega arith

  less : EntryAsks T scratch starts links at value (rest - 1 + 1) list
  less = let s = some_rest in let e : rest - 1 + 1 ≡ rest = omega arith in rw e a

  -- as many children as the entry says
  children_of_lem : {e : Expr} → expr T node ≡ e → children_of scratch at ≡ head_children (entries (plan a.unbound e a.seen) a.place ++ a.stands.behind)
  unfolding read_entries
  children_of_lem q =
      let l = stands_inside a.unbound (expr T node) a.seen a.place a.stands in
      let k : a.size - at ≡ suc (a.size - (at + 1)) = omega arith in
      ap head_children (rw k at a.stands.read) ∙ ap (λ (e : Expr). head_children (entries (plan a.unbound e a.seen) a.place ++ a.stands.behind)) q

  pub ask_items : get_or scratch (at * entry_words) 0 ≡ 5 → ItemsAsks T scratch starts links at (get_or scratch (at * entry_words + 2) 0) value (rest - 1) list
  unfolding plan entries
  ask_items five = let s = shape in go s.0 s.1 s.2 (says 5 five s.0 s.1)
    where
      go : (t : Expr) → expr T node ≡ t → PatternShape T node t → entry_kind (binding t) t ≡ 5 → ItemsAsks T scratch starts links at (get_or scratch (at * entry_words + 2) 0) value (rest - 1) list
      go t q (pattern_literal l h) p = absurd (omega arith)
      go t q (pattern_wildcard h) p = absurd (omega arith)
      go t q (pattern_name h) p = absurd (no_name (binding t) 5 (λ e. omega arith) (λ e. omega arith) p)
      go t q (pattern_array h) p = record {
        asks = less;
        kind_is = h;
        linked_count = refl;
        counted =
            children_of_lem q
            ∙ (items_counted (plans a.unbound (items (expr T) T.children (first_word_of T.nodes node) (count_of T.nodes node)) a.seen) 1
            ∙ items_long a.unbound (expr T) T.children (first_word_of T.nodes node) (count_of T.nodes node) a.seen 1);
      }
      go t q (pattern_object h) p = absurd (omega arith)

  pub ask_fields : (get_or scratch (at * entry_words) 0 ≡ 1 → ⊥) → (get_or scratch (at * entry_words) 0 ≡ 2 → ⊥) → (get_or scratch (at * entry_words) 0 ≡ 3 → ⊥) → (get_or scratch (at * entry_words) 0 ≡ 4 → ⊥) → (get_or scratch (at * entry_words) 0 ≡ 5 → ⊥)
      → FieldsAsks T scratch starts links at (get_or scratch (at * entry_words + 2) 0) value (rest - 1) list
  unfolding plan entries
  ask_fields not-1 not-2 not-3 not-4 not-5 = let s = shape in go s.0 s.1 s.2 (says (get_or scratch (at * entry_words) 0) refl s.0 s.1)
    where
      go : (t : Expr) → expr T node ≡ t → PatternShape T node t → entry_kind (binding t) t ≡ get_or scratch (at * entry_words) 0 → FieldsAsks T scratch starts links at (get_or scratch (at * entry_words + 2) 0) value (rest - 1) list
      go t q (pattern_literal l h) p = absurd (not-4 (sym p))
      go t q (pattern_wildcard h) p = absurd (not-2 (sym p))
      go t q (pattern_name h) p = absurd (no_name (binding t) (get_or scratch (at * entry_words) 0) not-1 not-3 p)
      go t q (pattern_array h) p = absurd (not-5 (sym p))
      go t q (pattern_object h) p =
          let told = rw q at (plan_told T well a.unbound node a.node a.is_simple a.seen) in
          record {
            asks = less;
            kind_is = h;
            linked_count = refl;
            counted =
                children_of_lem q
                ∙ (fields_counted (field_plans a.unbound (fields_of T node) a.seen) told.0
                ∙ fields_long a.unbound (expr T) T.children (first_word_of T.nodes node) (count_of T.nodes node) a.seen 1);
          }

-- the measures: a level of depth is two steps, the entry and the walk over its parts
pub parts_fall : {T : Tables} {scratch starts links : List ℕ} {at value rest : ℕ} {list : List ℕ} {t : ℕ} → EntryAsks T scratch starts links at value rest list → 2 * rest ≡ t → 2 * (rest - 1) + 1 < t
parts_fall a e = let s = some_rest a in omega arith

pub entry_falls : (rest t : ℕ) → 2 * rest + 1 ≡ t → 2 * rest < t
entry_falls rest t e = omega arith

-- a name's value and another
pub compare_values : {T : Tables} {list : List ℕ} {n value first : ℕ} → CompareAsks T list n value → first ≡ first_word_of T.nodes n → SameAsks T (get_or list (first - 1) 0) value
compare_values a is = record { table = a.table; left = rw is a.held; right = a.value_ok }

pub compare_told : (T : Tables) (list : List ℕ) (n value : ℕ) {first : ℕ} {r : Bool} → first ≡ first_word_of T.nodes n → r ≡ same (value_of (expr T (get_or list (first - 1) 0))) (value_of (expr T value))
    → r ≡ same (value_of (expr T (get_or list (first_word_of T.nodes n - 1) 0))) (value_of (expr T value))
compare_told T list n value is e = rw is at e

-- a name set in the list
pub name_set : (nodes list : List ℕ) (n value : ℕ) {first : ℕ} → first ≡ first_word_of nodes n → set list (first - 1) value ≡ set list (first_word_of nodes n - 1) value
name_set nodes list n value is = ap (λ (x : ℕ). set list (x - 1) value) is
