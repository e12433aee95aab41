-- The loops over a plan's entries: what they bind, the value sides of its pairs, its computed keys.
use Prim.Native.Nat.{ℕ, ◌+◌, ◌-◌, ◌*◌, ◌≤◌, ◌<◌}
use mathlib.Core.Path.{◌≡◌, refl, sym, ap, ◌∙◌}
use mathlib.Core.Bool.{Bool, true, false, cond, not, ◌&&◌, false≢true}
use mathlib.Core.List.{List, [], ◌∷◌, ◌++◌, append-nil}
use native.Mathlib.Omega.{arith}
use borrow.Author.Tests.{eq-eqb, ne_eqb, eqb-true}
use lib.Dec.{eqb}
use lib.ListN.{length, get_or}
use mir.Val.{Fits}
use mir.Syntax.{w64}
use Rattle.scope.specs.declared.Scope.{Scope}
use Rattle.scope.specs.declared.NameOutside.{NameOutside}
use Rattle.scope.proofs.Laws.{bound_or_kept}
use Rattle.std.specs.Prelude.{Result}
use Rattle.std.specs.Result.{result_unwrap_or}
use Rattle.scope.specs.declared.ScopingMode.TheVariants.{RespectParent}
use Rattle.scope.specs.Scope.{bind_variable, Called}
use Rattle.table.specs.Tables.{Tables, first_word_of}
use Rattle.table.specs.Expr.{Expr, literal, name, wildcard, array, set, object, other}
use Rattle.table.specs.Decode.{expr, expr_at}
use Rattle.table.specs.Check.{checked}
use Rattle.planner.specs.Layout.{Entry, entry_words, literal_key, bound_names}
use Rattle.planner.specs.Simple.{is_literal}
use Rattle.planner.specs.Names.{occurrences, first_node, states_of}
use Rattle.planner.specs.Entries.{entry_at, read_entries}
use Rattle.planner.proofs.buffer.ReadBack.{read_step, read_end}
use Rattle.body.specs.Ready.{names_bound, side, pair_sides, is_computed, computed_key_sides, first_in, first_not_ready}
use Rattle.body.specs.Body.{bind_all}
use Rattle.body.specs.code.Post.{bound_entry, bound_plan, StatesOf, learned, learned_entry, learned_all, learned_plan, PlanBound, Asks, first_unknown, PlanHeld, pairs_found, keys_found}
use Rattle.body.proofs.Knowing.{bind_append, bound_checked}
use Rattle.body.proofs.Learning.{learned_entry_lem}
use Rattle.body.proofs.Searching.{first_bound}

-- what an entry binds
module _ (nodes : List ℕ) (s : Scope) (kind node : ℕ) where
  pub binds_none : (kind ≡ 1 → ⊥) → s ≡ bound_entry nodes s kind node
  binds_none e = simp (ne_eqb kind 1 e)

  pub binds_name : kind ≡ 1 → {x : ℕ} → x ≡ first_word_of nodes node → {r : Result Scope NameOutside} → Called x (bind_variable s x) r → {t : Scope} → t ≡ result_unwrap_or r s → t ≡ bound_entry nodes s kind node
  binds_name e {x} i c is = is ∙ (bound_or_kept s x c ∙ (ap (bind_variable s) i ∙ simp (eq-eqb kind 1 e)))

entry_bound : (nodes : List ℕ) (s : Scope) (e : Entry) → bound_entry nodes s e.kind e.node ≡ bind_all s (bound_names (first_word_of nodes) (e ∷ []))
unfolding bind_all bound_names
entry_bound nodes s e = go (eqb e.kind 1)
  where
    go : (b : Bool) → cond b (bind_variable s (first_word_of nodes e.node)) s ≡ bind_all s (cond b (first_word_of nodes e.node ∷ []) [])
    go true = refl
    go false = refl

-- entry i, as it is read
entry_at_lem : (nodes : List ℕ) (here : Scope) (plan : List ℕ) (i : ℕ) {kind node : ℕ} → kind ≡ get_or plan (i * entry_words) 0 → node ≡ get_or plan (i * entry_words + 1) 0
    → {next : Scope} → next ≡ bound_entry nodes here kind node → next ≡ bind_all here (bound_names (first_word_of nodes) (entry_at plan i ∷ []))
entry_at_lem nodes here plan i {kind} {node} is-kind is-node e =
    e
    ∙ (ap (λ (k : ℕ). bound_entry nodes here k node) is-kind
    ∙ (ap (λ (m : ℕ). bound_entry nodes here (entry_at plan i).kind m) is-node ∙ entry_bound nodes here (entry_at plan i)))

names_cons : (f : ℕ → ℕ) (e : Entry) (es : List Entry) → bound_names f (e ∷ es) ≡ bound_names f (e ∷ []) ++ bound_names f es
unfolding bound_names
names_cons f e es = go (eqb e.kind 1)
  where
    go : (b : Bool) → cond b (f e.node ∷ bound_names f es) (bound_names f es) ≡ cond b (f e.node ∷ []) [] ++ bound_names f es
    go true = refl
    go false = refl

-- a pair binds nothing itself
pair_binds_none : (f : ℕ → ℕ) (e : Entry) → eqb e.kind 7 ≡ true → bound_names f (e ∷ []) ≡ []
unfolding bound_names
pair_binds_none f e q = let seven = eqb-true e.kind 7 q in let none : eqb e.kind 1 ≡ false = ne_eqb e.kind 1 (λ z. omega arith) in rw none refl

-- the same of the states
learn_append : (xs ys states : List ℕ) → learned_all states (xs ++ ys) ≡ learned_all (learned_all states xs) ys
unfolding learned_all
learn_append [] ys states = refl
learn_append (x ∷ xs) ys states = learn_append xs ys (learned states x)

entry_learned : (nodes states : List ℕ) (e : Entry) → learned_entry nodes states e.kind e.node ≡ learned_all states (bound_names (first_word_of nodes) (e ∷ []))
unfolding learned_all bound_names
entry_learned nodes states e = go (eqb e.kind 1)
  where
    go : (b : Bool) → cond b (learned states (first_word_of nodes e.node)) states ≡ learned_all states (cond b (first_word_of nodes e.node ∷ []) [])
    go true = refl
    go false = refl

learnt_at : (nodes known plan : List ℕ) (i : ℕ) {kind node : ℕ} → kind ≡ get_or plan (i * entry_words) 0 → node ≡ get_or plan (i * entry_words + 1) 0
    → {after : List ℕ} → after ≡ learned_entry nodes known kind node → after ≡ learned_all known (bound_names (first_word_of nodes) (entry_at plan i ∷ []))
learnt_at nodes known plan i {kind} {node} is-kind is-node e =
    e
    ∙ (ap (λ (k : ℕ). learned_entry nodes known k node) is-kind
    ∙ (ap (λ (m : ℕ). learned_entry nodes known (entry_at plan i).kind m) is-node ∙ entry_learned nodes known (entry_at plan i)))

pub record BindLeft (nodes : List ℕ) (s : Scope) (states plan : List ℕ) (count i : ℕ) (here : Scope) (known : List ℕ) : Type 0 where
  pub held : count * entry_words ≤ length plan
  pub same : bind_all here (bound_names (first_word_of nodes) (read_entries plan i (count - i))) ≡ bound_plan nodes s plan count
  pub same_states : learned_all known (bound_names (first_word_of nodes) (read_entries plan i (count - i))) ≡ learned_plan nodes states plan count

pub bind_start : (nodes : List ℕ) (s : Scope) (states plan : List ℕ) (count : ℕ) → count * entry_words ≤ length plan → BindLeft nodes s states plan count 0 s states
bind_start nodes s states plan count h = let z : count - 0 ≡ count = omega arith in record { held = h; same = rw z refl; same_states = rw z refl }

module _ {nodes : List ℕ} {s : Scope} {states plan : List ℕ} {count i : ℕ} {here : Scope} {known : List ℕ} (go : BindLeft nodes s states plan count i here known) where
  pub bind_on : i < count → {kind node : ℕ} → kind ≡ get_or plan (i * entry_words) 0 → node ≡ get_or plan (i * entry_words + 1) 0 → {next : Scope} → next ≡ bound_entry nodes here kind node
      → {after : List ℕ} → after ≡ learned_entry nodes known kind node → BindLeft nodes s states plan count (i + 1) next after
  bind_on more is-kind is-node e l = record {
    held = go.held;
    same_states =
        let later = read_entries plan (i + 1) (count - (i + 1)) in
        ap (λ (t : List ℕ). learned_all t (bound_names (first_word_of nodes) later)) (learnt_at nodes known plan i is-kind is-node l)
        ∙ (sym (learn_append (bound_names (first_word_of nodes) (entry_at plan i ∷ [])) (bound_names (first_word_of nodes) later) known)
        ∙ (ap (learned_all known) (sym (names_cons (first_word_of nodes) (entry_at plan i) later))
        ∙ (ap (λ (es : List Entry). learned_all known (bound_names (first_word_of nodes) es)) (sym (read_step plan i count more)) ∙ go.same_states)));
    same =
        let later = read_entries plan (i + 1) (count - (i + 1)) in
        ap (λ (t : Scope). bind_all t (bound_names (first_word_of nodes) later)) (entry_at_lem nodes here plan i is-kind is-node e)
        ∙ (sym (bind_append (bound_names (first_word_of nodes) (entry_at plan i ∷ [])) (bound_names (first_word_of nodes) later) here)
        ∙ (ap (bind_all here) (sym (names_cons (first_word_of nodes) (entry_at plan i) later))
        ∙ (ap (λ (es : List Entry). bind_all here (bound_names (first_word_of nodes) es)) (sym (read_step plan i count more)) ∙ go.same)));
  }

  pub bind_end : count ≤ i → PlanBound nodes s states plan count known here
  unfolding bind_all learned_all bound_names
  bind_end le = record {
    scope = ap (λ (es : List Entry). bind_all here (bound_names (first_word_of nodes) es)) (sym (read_end plan i count le)) ∙ go.same;
    states_are = ap (λ (es : List Entry). learned_all known (bound_names (first_word_of nodes) es)) (sym (read_end plan i count le)) ∙ go.same_states;
  }

none_at_zero : (T : Tables) (bad : ℕ → Bool) → first_node bad (occurrences true true (expr T 0)) ≡ 0
unfolding expr expr_at occurrences first_node
none_at_zero T bad = refl

pub zero_ready : (T : Tables) (s : Scope) (earlier : List ℕ) → first_in T s (side 0 earlier) ≡ 0
zero_ready T s earlier = none_at_zero T _

-- the next entry's number
pub next_fits : {T : Tables} {s : Scope} {states plan : List ℕ} {count i : ℕ} → PlanHeld T s states plan count → i < count → Fits w64 (i + 1)
next_fits h lt = let f = h.few in record { fits = omega arith }

-- The value sides of pairs
-- a scope with an entry's names bound, and its states
states_on : (T : Tables) (here : Scope) (known : List ℕ) (kind node : ℕ) → StatesOf T here known → {next : Scope} → next ≡ bound_entry T.nodes here kind node
    → {after : List ℕ} → after ≡ learned_entry T.nodes known kind node → StatesOf T next after
states_on T here known kind node is e l = l ∙ (learned_entry_lem T here kind node is ∙ ap (λ (t : Scope). states_of T.names T.text t RespectParent) (sym e))

pub record PairsLeft (T : Tables) (s : Scope) (states plan : List ℕ) (count i : ℕ) (here : Scope) (known : List ℕ) : Type 0 where
  pub asks : PlanHeld T s states plan count
  pub earlier : List ℕ
  pub is : here ≡ bind_all s earlier
  pub known_are : StatesOf T here known
  pub same : first_not_ready T s (pair_sides T earlier (read_entries plan i (count - i))) ≡ pairs_found T s plan count

pub pairs_start : (T : Tables) (s : Scope) (states plan : List ℕ) (count : ℕ) → PlanHeld T s states plan count → PairsLeft T s states plan count 0 s states
unfolding bind_all
pairs_start T s states plan count h = record { asks = h; earlier = []; is = refl; known_are = h.asks.states_are; same = let z : count - 0 ≡ count = omega arith in rw z refl }

-- an entry's names, bound in the scope
bound_on : (T : Tables) (s : Scope) (plan : List ℕ) (i : ℕ) {here : Scope} (earlier : List ℕ) → here ≡ bind_all s earlier → {kind node : ℕ} → kind ≡ get_or plan (i * entry_words) 0 → node ≡ get_or plan (i * entry_words + 1) 0
    → {next : Scope} → next ≡ bound_entry T.nodes here kind node → next ≡ bind_all s (earlier ++ names_bound T (entry_at plan i ∷ []))
bound_on T s plan i {here} earlier is is-kind is-node e =
    entry_at_lem T.nodes here plan i is-kind is-node e
    ∙ (ap (λ (t : Scope). bind_all t (names_bound T (entry_at plan i ∷ []))) is ∙ sym (bind_append earlier (names_bound T (entry_at plan i ∷ [])) s))

module _ {T : Tables} {s : Scope} {states plan : List ℕ} {count i : ℕ} {here : Scope} {known : List ℕ} (go : PairsLeft T s states plan count i here known) where
  pub pairs_ask : Asks T here known
  pairs_ask = record { sound = ap (checked T) go.is ∙ bound_checked T s go.earlier go.asks.asks.sound; states_are = go.known_are }

  module _ (more : i < count) {kind node : ℕ} (is-kind : kind ≡ get_or plan (i * entry_words) 0) (is-node : node ≡ get_or plan (i * entry_words + 1) 0)
      {at : ℕ} (is_at : at ≡ cond (eqb kind 7) node 0) {found : ℕ} (is_found : found ≡ first_unknown T here at) where
    abbrev pair : Entry
    pair = entry_at plan i

    abbrev later : List Entry
    later = read_entries plan (i + 1) (count - (i + 1))

    found_here : found ≡ first_in T s (side (cond (eqb pair.kind 7) pair.node 0) go.earlier)
    found_here =
        is_found
        ∙ (ap (λ (t : Scope). first_unknown T t at) go.is
        ∙ (first_bound T s go.asks.asks.sound at go.earlier
        ∙ ap (λ (m : ℕ). first_in T s (side m go.earlier)) (is_at ∙ (ap (λ (k : ℕ). cond (eqb k 7) node 0) is-kind ∙ ap (λ (m : ℕ). cond (eqb pair.kind 7) m 0) is-node))))

    -- what is found here, or else what is left
    onward : cond (eqb found 0) (first_not_ready T s (pair_sides T (go.earlier ++ names_bound T (pair ∷ [])) later)) found ≡ pairs_found T s plan count
    unfolding pair_sides first_not_ready
    onward = by (eqb pair.kind 7) refl found_here ∙ (ap (λ (es : List Entry). first_not_ready T s (pair_sides T go.earlier es)) (sym (read_step plan i count more)) ∙ go.same)
      where
        by : (b : Bool) → eqb pair.kind 7 ≡ b → found ≡ first_in T s (side (cond b pair.node 0) go.earlier)
            → cond (eqb found 0) (first_not_ready T s (pair_sides T (go.earlier ++ names_bound T (pair ∷ [])) later)) found
            ≡ first_not_ready T s (cond b (side pair.node go.earlier ∷ pair_sides T go.earlier later) (pair_sides T (go.earlier ++ names_bound T (pair ∷ [])) later))
        by true q f = rw (f, pair_binds_none (first_word_of T.nodes) pair q, append-nil go.earlier) refl
        by false q f = rw (f, zero_ready T s go.earlier) refl

    pub pairs_found_lem : (found ≡ 0 → ⊥) → found ≡ pairs_found T s plan count
    pairs_found_lem some = simp (ne_eqb found 0 some) at onward

    pub pairs_on : found ≡ 0 → {next : Scope} → next ≡ bound_entry T.nodes here kind node → {after : List ℕ} → after ≡ learned_entry T.nodes known kind node
        → PairsLeft T s states plan count (i + 1) next after
    pairs_on none e l = record {
      asks = go.asks;
      known_are = states_on T here known kind node go.known_are e l;
      earlier = go.earlier ++ names_bound T (pair ∷ []);
      is = bound_on T s plan i go.earlier go.is is-kind is-node e;
      same = simp (eq-eqb found 0 none) at onward;
    }

  pub pairs_end : count ≤ i → 0 ≡ pairs_found T s plan count
  unfolding pair_sides first_not_ready
  pairs_end le = ap (λ (es : List Entry). first_not_ready T s (pair_sides T go.earlier es)) (sym (read_end plan i count le)) ∙ go.same

-- Computed keys. Any key may be searched: a literal has no names.
literal_free : (bad : ℕ → Bool) (e : Expr) → is_literal (literal_key e) ≡ true → first_node bad (occurrences true true e) ≡ 0
unfolding occurrences first_node
literal_free bad (literal n l) t = refl
literal_free bad (name n x) t = absurd (false≢true t)
literal_free bad (wildcard n) t = absurd (false≢true t)
literal_free bad (array n es) t = absurd (false≢true t)
literal_free bad (set n es) t = absurd (false≢true t)
literal_free bad (object n fs) t = absurd (false≢true t)
literal_free bad (other n) t = absurd (false≢true t)

plain_ready : (T : Tables) (s : Scope) (key : ℕ) (earlier : List ℕ) → is_computed T key ≡ false → first_in T s (side key earlier) ≡ 0
plain_ready T s key earlier e = go (eqb key 0) refl (is_literal (literal_key (expr T key))) refl e
  where
    go : (a : Bool) → eqb key 0 ≡ a → (b : Bool) → is_literal (literal_key (expr T key)) ≡ b → (not a && not b) ≡ false → first_in T s (side key earlier) ≡ 0
    go true p b q h = let i = eqb-true key 0 p in rw i (zero_ready T s earlier)
    go false p true q h = literal_free _ (expr T key) q
    go false p false q h = absurd (false≢true (sym h))

pub record KeysLeft (T : Tables) (s : Scope) (states plan : List ℕ) (count i : ℕ) (from here : Scope) (ready known : List ℕ) : Type 0 where
  pub asks : PlanHeld T s states plan count
  pub ready_are : StatesOf T from ready
  pub known_are : StatesOf T here known
  pub earlier : List ℕ
  pub bound : List ℕ
  pub from_is : from ≡ bind_all s earlier
  pub here_is : here ≡ bind_all s bound
  pub same : first_not_ready T s (computed_key_sides T earlier bound (read_entries plan i (count - i))) ≡ keys_found T s plan count

pub keys_start : (T : Tables) (s : Scope) (states plan : List ℕ) (count : ℕ) → PlanHeld T s states plan count → KeysLeft T s states plan count 0 s s states states
unfolding bind_all
keys_start T s states plan count h = record { asks = h; ready_are = h.asks.states_are; known_are = h.asks.states_are; earlier = []; bound = []; from_is = refl; here_is = refl; same = let z : count - 0 ≡ count = omega arith in rw z refl }

module _ {T : Tables} {s : Scope} {states plan : List ℕ} {count i : ℕ} {from here : Scope} {ready known : List ℕ} (go : KeysLeft T s states plan count i from here ready known) where
  pub keys_ask : Asks T from ready
  keys_ask = record { sound = ap (checked T) go.from_is ∙ bound_checked T s go.earlier go.asks.asks.sound; states_are = go.ready_are }

  module _ (more : i < count) {kind key : ℕ} (is-kind : kind ≡ get_or plan (i * entry_words) 0) (is_key : key ≡ get_or plan (i * entry_words + 3) 0)
      {at : ℕ} (is_at : at ≡ cond (eqb kind 7) 0 key) {found : ℕ} (is_found : found ≡ first_unknown T from at) where
    abbrev entry_here : Entry
    entry_here = entry_at plan i

    abbrev left : List Entry
    left = read_entries plan (i + 1) (count - (i + 1))

    -- the names of earlier pairs, from the next entry on
    abbrev next_earlier : List ℕ
    next_earlier = cond (eqb entry_here.kind 7) go.bound go.earlier

    found_at : found ≡ first_in T s (side (cond (eqb entry_here.kind 7) 0 entry_here.key) go.earlier)
    found_at =
        is_found
        ∙ (ap (λ (t : Scope). first_unknown T t at) go.from_is
        ∙ (first_bound T s go.asks.asks.sound at go.earlier
        ∙ ap (λ (m : ℕ). first_in T s (side m go.earlier)) (is_at ∙ (ap (λ (k : ℕ). cond (eqb k 7) 0 key) is-kind ∙ ap (λ (m : ℕ). cond (eqb entry_here.kind 7) 0 m) is_key))))

    keys_onward : cond (eqb found 0) (first_not_ready T s (computed_key_sides T next_earlier (go.bound ++ names_bound T (entry_here ∷ [])) left)) found ≡ keys_found T s plan count
    unfolding computed_key_sides first_not_ready
    keys_onward =
        by (eqb entry_here.kind 7) refl (is_computed T entry_here.key) refl found_at
        ∙ (ap (λ (es : List Entry). first_not_ready T s (computed_key_sides T go.earlier go.bound es)) (sym (read_step plan i count more)) ∙ go.same)
      where
        new : List ℕ
        new = go.bound ++ names_bound T (entry_here ∷ [])

        by : (b : Bool) → eqb entry_here.kind 7 ≡ b → (c : Bool) → is_computed T entry_here.key ≡ c → found ≡ first_in T s (side (cond b 0 entry_here.key) go.earlier)
            → cond (eqb found 0) (first_not_ready T s (computed_key_sides T (cond b go.bound go.earlier) (go.bound ++ names_bound T (entry_here ∷ [])) left)) found
            ≡ first_not_ready T s (cond b (computed_key_sides T go.bound go.bound left) (cond c (side entry_here.key go.earlier ∷ []) [] ++ computed_key_sides T go.earlier (go.bound ++ names_bound T (entry_here ∷ [])) left))
        by true q c r f = rw (f, zero_ready T s go.earlier, pair_binds_none (first_word_of T.nodes) entry_here q, append-nil go.bound) refl
        by false q true r f = rw f refl
        by false q false r f = rw (f, plain_ready T s entry_here.key go.earlier r) refl

    pub keys_found_lem : (found ≡ 0 → ⊥) → found ≡ keys_found T s plan count
    keys_found_lem some = simp (ne_eqb found 0 some) at keys_onward

    pub keys_on : found ≡ 0 → {node : ℕ} → node ≡ get_or plan (i * entry_words + 1) 0 → {was next : Scope} → was ≡ cond (eqb kind 7) here from → next ≡ bound_entry T.nodes here kind node
        → {was-ready after : List ℕ} → was-ready ≡ cond (eqb kind 7) known ready → after ≡ learned_entry T.nodes known kind node
        → KeysLeft T s states plan count (i + 1) was next was-ready after
    keys_on none {node} is-node {was} {next} d e {was-ready} {after} w l = record {
      asks = go.asks;
      ready_are = w ∙ (ready_by (eqb kind 7) ∙ ap (λ (t : Scope). states_of T.names T.text t RespectParent) (sym d));
      known_are = states_on T here known kind node go.known_are e l;
      earlier = next_earlier;
      bound = go.bound ++ names_bound T (entry_here ∷ []);
      from_is = d ∙ (ap (λ (k : ℕ). cond (eqb k 7) here from) is-kind ∙ by (eqb entry_here.kind 7));
      here_is = bound_on T s plan i go.bound go.here_is is-kind is-node e;
      same = simp (eq-eqb found 0 none) at keys_onward;
    }
      where
        by : (b : Bool) → cond b here from ≡ bind_all s (cond b go.bound go.earlier)
        by true = go.here_is
        by false = go.from_is

        ready_by : (b : Bool) → cond b known ready ≡ states_of T.names T.text (cond b here from) RespectParent
        ready_by true = go.known_are
        ready_by false = go.ready_are

  pub keys_end : count ≤ i → 0 ≡ keys_found T s plan count
  unfolding computed_key_sides first_not_ready
  keys_end le = ap (λ (es : List Entry). first_not_ready T s (computed_key_sides T go.earlier go.bound es)) (sym (read_end plan i count le)) ∙ go.same
