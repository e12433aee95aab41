-- An accepted body's names are ready; a refused one has a line that is refused first, and where that is 38, the name is the first that is not ready.
use Prim.Native.Nat.{ℕ, ◌+◌, ◌≤◌}
use mathlib.Core.Path.{◌≡◌, refl, sym, ap, ◌∙◌}
use mathlib.Core.Logic.{⊎_elim}
use mathlib.Core.Bool.{Bool, true, false, cond, not, ◌&&◌, ◌||◌, false≢true}
use mathlib.Core.List.{List, [], ◌∷◌, ◌++◌}
use native.Mathlib.Omega.{arith}
use borrow.Author.Tests.{eqb-true, eqb-false, leb-true, leb-false}
use lib.Dec.{eqb, leb}
use lib.ListN.{length}
use Rattle.base.specs.Lists.{elem}
use Rattle.base.specs.Refusal.{Refusal, plan_too_large, not_a_body, name_not_ready, passed}
use Rattle.scope.specs.declared.Scope.{Scope}
use Rattle.scope.specs.declared.ScopingMode.TheVariants.{RespectParent}
use Rattle.scope.specs.Scope.{is_name, is_underscore, known}
use Rattle.table.specs.Tables.{Tables, kind_of, first_word_of}
use Rattle.table.specs.Decode.{expr}
use Rattle.table.specs.Check.{checked}
use Rattle.table.specs.code.Sound.{WellFormed}
use Rattle.table.proofs.tests.Bools.{or_true, never}
use Rattle.table.proofs.trees.Facts.{sound_table, no_underscore}
use Rattle.planner.specs.Layout.{Entry}
use Rattle.planner.specs.Names.{Occurrence, occurrence, occurrences, names_of, first_node}
use Rattle.planner.specs.Operations.{Outcome, refused, planned, fits}
use Rattle.planner.proofs.laws.Binders.{names_all}
use Rattle.planner.proofs.laws.Names.{Each, each_occurrence}
use Rattle.operation.specs.declared.Operation.{Operation}
use Rattle.operation.specs.Operation.{operation_outcome}
use Rattle.body.specs.Lines.{operations_of, is_body}
use Rattle.body.specs.Ready.{names_bound, Side, sides_of, not_ready, first_in, first_not_ready}
use Rattle.body.specs.Body.{unless_too_large, unless_not_ready, line_outcome, bind_all, bind_plan, BodyOutcome, refused_at, accepted, unless_refused, body_from, no_plan, body_outcome}
use Rattle.body.specs.Promise.{outcome_names, bound_by_lines, scope_before, is_ready, SideReady, LineReady, FirstUnready, Cause, own, unready, LineRefused, BodyPromised}
use Rattle.body.proofs.Knowing.{bind_append, bind_underscore, known_after}
use Rattle.body.proofs.Searching.{no_names, node_above, name_number}
use Rattle.body.proofs.LineSteps.{line_sound}

-- a name of tables that pass the check with a scope: its node, its number, and it is not the scope's `_`
abbrev IsSearched : Scope → ℕ → ℕ → Type 0
IsSearched s n x = (1 ≤ n) × (is_name x ≡ true) × (is_underscore s x ≡ false)

names_anywhere : (T : Tables) (s : Scope) → checked T s ≡ passed → (n : ℕ) → Each (IsSearched s) (occurrences true true (expr T n))
unfolding Each
names_anywhere T s ok n = go (leb (kind_of T.nodes n) 5) refl
  where
    w : WellFormed T
    w = (sound_table T s ok).well_formed_lem

    go : (b : Bool) → leb (kind_of T.nodes n) 5 ≡ b → Each (IsSearched s) (occurrences true true (expr T n))
    go true e = rw (no_names T n (leb-true (kind_of T.nodes n) 5 e)) tt
    go false e =
        each_occurrence (IsSearched s) true true (expr T n)
        (names_all T w (IsSearched s) (λ m v k plain. let x = w.named m v k in (v.low, name_number T s ok (first_word_of T.nodes m) x, no_underscore T s ok (first_word_of T.nodes m) x.low plain)) n
        (node_above T n w (leb-false (kind_of T.nodes n) 5 e)))

-- From the scope at the start, with the names of the earlier lines
module _ (s : Scope) (xs pairs : List ℕ) (n x : ℕ) (is : IsSearched (bind_all s xs) n x) where
  plain : is_underscore s x ≡ false
  unfolding is_underscore
  plain = rw (bind_underscore xs s) at is.2

  ready_of : not_ready (bind_all s xs) pairs x ≡ false → (known s RespectParent x || (elem x xs || elem x pairs)) ≡ true
  ready_of e = go (known s RespectParent x) (elem x xs) (elem x pairs) (rw (known_after x is.1 xs s plain) at e)
    where
      go : (a b c : Bool) → (not (a || b) && not c) ≡ false → (a || (b || c)) ≡ true
      go true b c t = refl
      go false true c t = refl
      go false false true t = refl
      go false false false t = sym t

  unready_of : not_ready (bind_all s xs) pairs x ≡ true → (known s RespectParent x || (elem x xs || elem x pairs)) ≡ false
  unready_of e = go (known s RespectParent x) (elem x xs) (elem x pairs) (rw (known_after x is.1 xs s plain) at e)
    where
      go : (a b c : Bool) → (not (a || b) && not c) ≡ true → (a || (b || c)) ≡ false
      go true b c t = sym t
      go false true c t = sym t
      go false false true t = sym t
      go false false false t = refl

-- occurrences of which none is bad, and the first that is
module _ (P : ℕ → ℕ → Type 0) (bad : ℕ → Bool) (low : (n x : ℕ) → P n x → 1 ≤ n) where
  none_bad : (os : List Occurrence) → Each P os → first_node bad os ≡ 0 → Each (λ n x. P n x × (bad x ≡ false)) os
  unfolding Each first_node
  none_bad [] a z = tt
  none_bad (o ∷ os) a z = go (bad o.name) refl z (none_bad os a.1)
    where
      go : (b : Bool) → bad o.name ≡ b → cond b o.node (first_node bad os) ≡ 0 → (first_node bad os ≡ 0 → Each (λ n x. P n x × (bad x ≡ false)) os)
          → (P o.node o.name × (bad o.name ≡ false)) × Each (λ n x. P n x × (bad x ≡ false)) os
      go true e t f = let l = low o.node o.name a.0 in absurd (omega arith)
      go false e t f = ((a.0, e), f t)

  record FirstBad (os : List Occurrence) (node : ℕ) : Type 0 where
    names : List Occurrence
    rest : List Occurrence
    name : ℕ
    split : os ≡ names ++ (occurrence node name ∷ rest)
    good : Each (λ n x. P n x × (bad x ≡ false)) names
    proper : P node name
    is_bad : bad name ≡ true

  first_bad : (os : List Occurrence) (node : ℕ) → Each P os → first_node bad os ≡ node → (node ≡ 0 → ⊥) → FirstBad os node
  unfolding Each first_node
  first_bad [] node a e some = absurd (some (sym e))
  first_bad (o ∷ os) node a e some = go (bad o.name) refl e (λ h. first_bad os node a.1 h some)
    where
      go : (b : Bool) → bad o.name ≡ b → cond b o.node (first_node bad os) ≡ node → (first_node bad os ≡ node → FirstBad os node) → FirstBad (o ∷ os) node
      go true q h f = record { names = []; rest = os; name = o.name; split = rw (← h) refl; good = tt; proper = rw (← h) a.0; is_bad = q }
      go false q h f =
          let r = f h in
          record { names = o ∷ r.names; rest = r.rest; name = r.name; split = ap (λ (l : List Occurrence). o ∷ l) r.split; good = ((a.0, q), r.good); proper = r.proper; is_bad = r.is_bad }

each_name : (P : ℕ → ℕ → Type 0) (Q : ℕ → Type 0) → ((n x : ℕ) → P n x → Q x) → (os : List Occurrence) → Each P os → (x : ℕ) → elem x (names_of os) ≡ true → Q x
unfolding Each elem names_of
each_name P Q f [] a x t = absurd (false≢true t)
each_name P Q f (o ∷ os) a x t =
    ⊎_elim (λ q. let e = eqb-true x o.name q in rw e (f o.node o.name a.0)) (λ q. each_name P Q f os a.1 x q) (or_true (eqb x o.name) (elem x (names_of os)) t)

each_at : (P : ℕ → ℕ → Type 0) (first last os : List Occurrence) (o : Occurrence) → os ≡ first ++ (o ∷ last) → Each P os → P o.node o.name
unfolding Each
each_at P [] last os o e a = (rw e at a).0
each_at P (x ∷ first) last os o e a = each_at P first last (first ++ (o ∷ last)) o refl (rw e at a).1

-- Sides, from one scope
module _ (T : Tables) (sc : Scope) where
  sides_clear : (before after us : List Side) (u : Side) → us ≡ before ++ (u ∷ after) → first_not_ready T sc us ≡ 0 → first_in T sc u ≡ 0
  unfolding first_not_ready
  sides_clear [] after us u e z = go (eqb (first_in T sc u) 0) refl (rw e at z)
    where
      go : (b : Bool) → eqb (first_in T sc u) 0 ≡ b → cond b (first_not_ready T sc after) (first_in T sc u) ≡ 0 → first_in T sc u ≡ 0
      go true q h = eqb-true (first_in T sc u) 0 q
      go false q h = h
  sides_clear (v ∷ before) after us u e z = go (eqb (first_in T sc v) 0) refl (rw e at z) (sides_clear before after (before ++ (u ∷ after)) u refl)
    where
      go : (b : Bool) → eqb (first_in T sc v) 0 ≡ b → cond b (first_not_ready T sc (before ++ (u ∷ after))) (first_in T sc v) ≡ 0
          → (first_not_ready T sc (before ++ (u ∷ after)) ≡ 0 → first_in T sc u ≡ 0) → first_in T sc u ≡ 0
      go true q h f = f h
      go false q h f = absurd (eqb-false (first_in T sc v) 0 q h)

  record FirstSide (us : List Side) (node : ℕ) : Type 0 where
    before : List Side
    after : List Side
    at : Side
    split : us ≡ before ++ (at ∷ after)
    clear : first_not_ready T sc before ≡ 0
    found : first_in T sc at ≡ node

  first_side : (us : List Side) (node : ℕ) → first_not_ready T sc us ≡ node → (node ≡ 0 → ⊥) → FirstSide us node
  unfolding first_not_ready
  first_side [] node e some = absurd (some (sym e))
  first_side (u ∷ us) node e some = go (eqb (first_in T sc u) 0) refl e (λ h. first_side us node h some)
    where
      go : (b : Bool) → eqb (first_in T sc u) 0 ≡ b → cond b (first_not_ready T sc us) (first_in T sc u) ≡ node → (first_not_ready T sc us ≡ node → FirstSide us node) → FirstSide (u ∷ us) node
      go true q h f =
          let r = f h in
          record { before = u ∷ r.before; after = r.after; at = r.at; split = ap (λ (l : List Side). u ∷ l) r.split; clear = rw q r.clear; found = r.found }
      go false q h f = record { before = []; after = us; at = u; split = refl; clear = refl; found = h }

-- A line after the lines `earlier`, from the scope that they leave
module _ (T : Tables) (s : Scope) (earlier : List Operation) (ok : checked T (scope_before T s earlier) ≡ passed) where
  all_searched : (u : Side) → Each (IsSearched (scope_before T s earlier)) (occurrences true true (expr T u.node))
  all_searched u = names_anywhere T (scope_before T s earlier) ok u.node

  side_ready : (u : Side) → first_in T (scope_before T s earlier) u ≡ 0 → SideReady T s earlier u
  side_ready u z x t =
      each_name (λ n y. IsSearched (scope_before T s earlier) n y × (not_ready (scope_before T s earlier) u.earlier y ≡ false)) (λ y. is_ready T s earlier u.earlier y ≡ true)
      (λ n y p. ready_of s (bound_by_lines T s earlier) u.earlier n y p.0 p.1) (occurrences true true (expr T u.node))
      (none_bad (IsSearched (scope_before T s earlier)) (not_ready (scope_before T s earlier) u.earlier) (λ n y p. p.0) (occurrences true true (expr T u.node)) (all_searched u) z) x t

-- the scope after lines, line by line
unfoldable scope_over : Tables → Scope → List Operation → Scope
scope_over T s [] = s
scope_over T s (l ∷ ls) = scope_over T (bind_all s (outcome_names T (operation_outcome T s l))) ls

scope_over_lem : (T : Tables) (ls : List Operation) (s : Scope) → scope_over T s ls ≡ scope_before T s ls
unfolding scope_over bound_by_lines bind_all
scope_over_lem T [] s = refl
scope_over_lem T (l ∷ ls) s =
    scope_over_lem T ls (bind_all s (outcome_names T (operation_outcome T s l)))
    ∙ sym (bind_append (outcome_names T (operation_outcome T s l)) (bound_by_lines T (bind_all s (outcome_names T (operation_outcome T s l))) ls) s)

module _ (T : Tables) (buffer : List ℕ) where
  -- a line that is planned, and the first name that is not ready
  record Here (s : Scope) (l : Operation) (node : ℕ) : Type 0 where
    form : ℕ
    which : ℕ
    entries : List Entry
    is_planned : operation_outcome T s l ≡ planned form which entries
    first : first_not_ready T s (sides_of T l form which entries) ≡ node

  abbrev plan_of_line : {s : Scope} {l : Operation} {node : ℕ} → Here s l node → Outcome
  plan_of_line h = planned h.form h.which h.entries

  data Verdict (n : ℕ) (s : Scope) (l : Operation) (next : Outcome → BodyOutcome) (r : BodyOutcome) : Type 0 where
    onward : (h : Here s l 0) → next (plan_of_line h) ≡ r → Verdict n s l next r
    own_refusal : (x : Refusal) → unless_too_large buffer (operation_outcome T s l) ≡ refused x → refused_at n x ≡ r → Verdict n s l next r
    unready_name : (node : ℕ) → (node ≡ 0 → ⊥) → Here s l node → refused_at n (name_not_ready node) ≡ r → Verdict n s l next r

  verdict : (n : ℕ) (s : Scope) (l : Operation) (next : Outcome → BodyOutcome) (r : BodyOutcome) → unless_refused n (line_outcome T buffer s l) next ≡ r → Verdict n s l next r
  unfolding line_outcome
  verdict n s l next r e = go (operation_outcome T s l) refl e
    where
      by : (form which : ℕ) (es : List Entry) → operation_outcome T s l ≡ planned form which es → (node : ℕ) → first_not_ready T s (sides_of T l form which es) ≡ node → (a : Bool) → fits es buffer ≡ a → (b : Bool) → eqb node 0 ≡ b
          → unless_refused n (unless_not_ready T s l (cond a (planned form which es) (refused (plan_too_large (length es))))) next ≡ r → Verdict n s l next r
      by form which es p node q true f true z h =
          onward (record { form = form; which = which; entries = es; is_planned = p; first = q ∙ eqb-true node 0 z }) (rw (q, z) at h)
      by form which es p node q true f false z h = unready_name node (eqb-false node 0 z) (record { form = form; which = which; entries = es; is_planned = p; first = q }) (rw (q, z) at h)
      by form which es p node q false f b z h = own_refusal (plan_too_large (length es)) (rw (p, f) refl) h

      go : (o : Outcome) → operation_outcome T s l ≡ o → unless_refused n (unless_not_ready T s l (unless_too_large buffer o)) next ≡ r → Verdict n s l next r
      go (refused x) p h = own_refusal x (rw p refl) h
      go (planned form which es) p h =
          by form which es p (first_not_ready T s (sides_of T l form which es)) refl (fits es buffer) refl (eqb (first_not_ready T s (sides_of T l form which es)) 0) refl h

  -- the lines behind a planned one
  abbrev on_to : ℕ → Scope → List Operation → Outcome → BodyOutcome
  on_to n s ls o = body_from T buffer (n + 1) (bind_plan T s o) o ls

  record Goes (s : Scope) (l : Operation) (next : Outcome → BodyOutcome) (r : BodyOutcome) : Type 0 where
    here : Here s l 0
    goes : next (plan_of_line here) ≡ r

  accepted_goes : (n : ℕ) (s : Scope) (l : Operation) (next : Outcome → BodyOutcome) (t : Scope) (last : Outcome) → Verdict n s l next (accepted t last) → Goes s l next (accepted t last)
  accepted_goes n s l next t last (onward h g) = record { here = h; goes = g }
  accepted_goes n s l next t last (own_refusal x p e) = never (cc)
  accepted_goes n s l next t last (unready_name node some h e) = never (cc)

  over_planned : (s : Scope) (l : Operation) (h : Here s l 0) (ls : List Operation) → scope_over T s (l ∷ ls) ≡ scope_over T (bind_all s (names_bound T h.entries)) ls
  unfolding scope_over
  over_planned s l h ls = rw h.is_planned refl

  accepted_line : (earlier later ls : List Operation) (l : Operation) (n : ℕ) (s t : Scope) (before last : Outcome) → body_from T buffer n s before ls ≡ accepted t last → ls ≡ earlier ++ (l ∷ later)
      → Here (scope_over T s earlier) l 0
  unfolding body_from scope_over
  accepted_line [] later ls l n s t before last e q = (accepted_goes n s l (on_to n s later) t last (verdict n s l (on_to n s later) (accepted t last) (rw q at e))).here
  accepted_line (y ∷ earlier) later ls l n s t before last e q =
      let rest : List Operation = earlier ++ (l ∷ later) in
      let g = accepted_goes n s y (on_to n s rest) t last (verdict n s y (on_to n s rest) (accepted t last) (rw q at e)) in
      let h = g.here in
      rw (over_planned s y h earlier) (accepted_line earlier later rest l (n + 1) (bind_all s (names_bound T h.entries)) t (plan_of_line h) last g.goes refl)

  accepted_scope : (ls : List Operation) (n : ℕ) (s t : Scope) (before last : Outcome) → body_from T buffer n s before ls ≡ accepted t last → t ≡ scope_over T s ls
  unfolding body_from scope_over
  accepted_scope [] n s t before last e = let q : s ≡ t = cc in sym q
  accepted_scope (y ∷ ls) n s t before last e =
      let g = accepted_goes n s y (on_to n s ls) t last (verdict n s y (on_to n s ls) (accepted t last) e) in
      let h = g.here in
      accepted_scope ls (n + 1) (bind_all s (names_bound T h.entries)) t (plan_of_line h) last g.goes ∙ sym (over_planned s y h ls)

  accepted_plan : (earlier ls : List Operation) (l : Operation) (n : ℕ) (s t : Scope) (before last : Outcome) → body_from T buffer n s before ls ≡ accepted t last → ls ≡ earlier ++ (l ∷ [])
      → last ≡ operation_outcome T (scope_over T s earlier) l
  unfolding body_from scope_over
  accepted_plan [] ls l n s t before last e q =
      let g = accepted_goes n s l (on_to n s []) t last (verdict n s l (on_to n s []) (accepted t last) (rw q at e)) in
      let h = g.here in
      let p : plan_of_line h ≡ last = let same = g.goes in cc in
      sym (h.is_planned ∙ p)
  accepted_plan (y ∷ earlier) ls l n s t before last e q =
      let rest : List Operation = earlier ++ (l ∷ []) in
      let g = accepted_goes n s y (on_to n s rest) t last (verdict n s y (on_to n s rest) (accepted t last) (rw q at e)) in
      let h = g.here in
      rw (over_planned s y h earlier) (accepted_plan earlier rest l (n + 1) (bind_all s (names_bound T h.entries)) t (plan_of_line h) last g.goes refl)

  -- why a line stops the body
  data Stop (s : Scope) (l : Operation) (r : Refusal) : Type 0 where
    by_itself : unless_too_large buffer (operation_outcome T s l) ≡ refused r → Stop s l r
    by_name : (node : ℕ) → (node ≡ 0 → ⊥) → r ≡ name_not_ready node → Here s l node → Stop s l r

  record Stopped (s : Scope) (ls : List Operation) (n m : ℕ) (r : Refusal) : Type 0 where
    earlier : List Operation
    later : List Operation
    at : Operation
    split : ls ≡ earlier ++ (at ∷ later)
    number : m ≡ n + length earlier
    ready : (first last : List Operation) (l : Operation) → earlier ≡ first ++ (l ∷ last) → Here (scope_over T s first) l 0
    stop : Stop (scope_over T s earlier) at r

  none_earlier : (s : Scope) (first last : List Operation) (l : Operation) → [] ≡ first ++ (l ∷ last) → Here (scope_over T s first) l 0
  none_earlier s [] last l e = never (cc)
  none_earlier s (y ∷ first) last l e = never (cc)

  one_earlier : (s : Scope) (y : Operation) (h : Here s y 0) (earlier : List Operation)
      → ((first last : List Operation) (l : Operation) → earlier ≡ first ++ (l ∷ last) → Here (scope_over T (bind_all s (names_bound T h.entries)) first) l 0)
      → (first last : List Operation) (l : Operation) → (y ∷ earlier) ≡ first ++ (l ∷ last) → Here (scope_over T s first) l 0
  unfolding scope_over
  one_earlier s y h earlier f [] last l e = let q : y ≡ l = cc in rw q at h
  one_earlier s y h earlier f (z ∷ first) last l e =
      let q : y ≡ z = cc in
      let p : earlier ≡ first ++ (l ∷ last) = cc in
      rw (← q) (rw (over_planned s y h first) (f first last l p))

  stopped : (ls : List Operation) (n : ℕ) (s : Scope) (before : Outcome) (m : ℕ) (r : Refusal) → body_from T buffer n s before ls ≡ refused_at m r → Stopped s ls n m r
  unfolding body_from scope_over
  stopped [] n s before m r e = never (cc)
  stopped (y ∷ ls) n s before m r e = go (verdict n s y (on_to n s ls) (refused_at m r) e) (λ t o q. stopped ls (n + 1) t o m r q)
    where
      go : Verdict n s y (on_to n s ls) (refused_at m r) → ((t : Scope) (o : Outcome) → body_from T buffer (n + 1) t o ls ≡ refused_at m r → Stopped t ls (n + 1) m r) → Stopped s (y ∷ ls) n m r
      go (onward h g) f =
          let q = f (bind_all s (names_bound T h.entries)) (plan_of_line h) g in
          let k = q.number in
          record {
            earlier = y ∷ q.earlier;
            later = q.later;
            at = q.at;
            split = ap (λ (l : List Operation). y ∷ l) q.split;
            number = omega arith;
            ready = one_earlier s y h q.earlier q.ready;
            stop = rw (over_planned s y h q.earlier) q.stop;
          }
      go (own_refusal x p q) f =
          let i : n ≡ m = cc in
          let j : x ≡ r = cc in
          record { earlier = []; later = ls; at = y; split = refl; number = omega arith; ready = none_earlier s; stop = by_itself (p ∙ ap refused j) }
      go (unready_name node some h q) f =
          let i : n ≡ m = cc in
          let j : name_not_ready node ≡ r = cc in
          record { earlier = []; later = ls; at = y; split = refl; number = omega arith; ready = none_earlier s; stop = by_name node some (sym j) h }

  module _ (s : Scope) where
    here_ready : (earlier : List Operation) (l : Operation) → Here (scope_over T s earlier) l 0 → LineReady T s earlier l
    here_ready earlier l before =
        let h : Here (scope_before T s earlier) l 0 = rw (scope_over_lem T earlier s) at before in
        let ok = line_sound T (scope_before T s earlier) l h.is_planned in
        record {
          form = h.form;
          which = h.which;
          entries = h.entries;
          is_planned = h.is_planned;
          ready = λ first last u e.
              side_ready T s earlier ok u (sides_clear T (scope_before T s earlier) first last (sides_of T l h.form h.which h.entries) u e h.first);
        }

    first_unready : (earlier : List Operation) (l : Operation) (node : ℕ) → (node ≡ 0 → ⊥) → Here (scope_before T s earlier) l node → FirstUnready T s earlier l node
    first_unready earlier l node some h =
        let sc : Scope = scope_before T s earlier in
        let ok = line_sound T sc l h.is_planned in
        let u = first_side T sc (sides_of T l h.form h.which h.entries) node h.first some in
        let os : List Occurrence = occurrences true true (expr T u.at.node) in
        let b = first_bad (IsSearched sc) (not_ready sc u.at.earlier) (λ n y p. p.0) os node (all_searched T s earlier ok u.at) u.found some in
        record {
          form = h.form;
          which = h.which;
          entries = h.entries;
          is_planned = h.is_planned;
          before = u.before;
          after = u.after;
          unready = u.at;
          sides = u.split;
          ready_sides = λ first last v e. side_ready T s earlier ok v (sides_clear T sc first last u.before v e u.clear);
          names = b.names;
          rest = b.rest;
          name = b.name;
          written = b.split;
          ready_names = λ first last o e.
              let p = each_at (λ n y. IsSearched sc n y × (not_ready sc u.at.earlier y ≡ false)) first last b.names o e b.good in
              ready_of s (bound_by_lines T s earlier) u.at.earlier o.node o.name p.0 p.1;
          not_ready = unready_of s (bound_by_lines T s earlier) u.at.earlier node b.name b.proper b.is_bad;
        }

    cause_of : (earlier : List Operation) (l : Operation) (r : Refusal) → Stop (scope_before T s earlier) l r → Cause T s buffer earlier l r
    cause_of earlier l r (by_itself e) = own e
    cause_of earlier l r (by_name node some e h) = unready node e (first_unready earlier l node some h)

    line_refusal : (ls : List Operation) (m : ℕ) (r : Refusal) → Stopped s ls 1 m r → LineRefused T s buffer ls m r
    line_refusal ls m r q =
        let k = q.number in
        record {
          earlier = q.earlier;
          later = q.later;
          here = q.at;
          split = q.split;
          number = omega arith;
          ready = λ first last l e. here_ready first l (q.ready first last l e);
          cause = cause_of q.earlier q.at r (rw (scope_over_lem T q.earlier s) at q.stop);
        }

pub body_promise : BodyPromised
unfolding body_outcome
body_promise T s words buffer = record {
  every_name = λ t last e earlier later l q. here_ready T buffer s earlier l (accepted_line T buffer earlier later (operations_of words) l 1 s t no_plan last (is_body_lem (is_body words) t last e) q);
  scope_is_lem = λ t last e. accepted_scope T buffer (operations_of words) 1 s t no_plan last (is_body_lem (is_body words) t last e) ∙ scope_over_lem T (operations_of words) s;
  plan_is = λ t last e earlier l q.
      accepted_plan T buffer earlier (operations_of words) l 1 s t no_plan last (is_body_lem (is_body words) t last e) q ∙ ap (λ (sc : Scope). operation_outcome T sc l) (scope_over_lem T earlier s);
  refusals = λ n r is e. line_refusal T buffer s (operations_of words) n r (stopped T buffer (operations_of words) 1 s no_plan n r (rw is at e));
}
  where
    is_body_lem : (b : Bool) (t : Scope) (last : Outcome) → cond b (body_from T buffer 1 s no_plan (operations_of words)) (refused_at 0 not_a_body) ≡ accepted t last → body_from T buffer 1 s no_plan (operations_of words) ≡ accepted t last
    is_body_lem true t last e = e
    is_body_lem false t last e = never (cc)
