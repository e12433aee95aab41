-- Meeting a value comes to what the conditions and the walk say: of two values, and of a pattern whose names without a value are those still to be planned.
use Prim.Native.Nat.{ℕ}
use mathlib.Core.Bool.{Bool, true, false, cond, ◌&&◌, ◌||◌, not, false≢true, and-false}
use mathlib.Core.List.{List, ◌∷◌, ◌++◌}
use mathlib.Core.Option.{Option, none, some}
use mathlib.Core.Path.{◌≡◌, refl, sym, ap, ap₂, subst, ◌∙◌, fun_ext}
use lib.Dec.{T, eqb, eqb_refl}
use Rattle.literal.specs.Literal.{Literal}
use Rattle.base.specs.Lists.{elem}
use Rattle.table.specs.Expr as Expr
use Rattle.table.specs.Expr.{Expr, literal, name, wildcard, array, set, object, other, Exprs, item, Fields, done, field}
use Rattle.table.proofs.tests.Bools.{and_true}
use Rattle.planner.specs.Layout.{literal_key}
use Rattle.planner.specs.Plan.{var, equality_expr, plan, plans, field_plans, after as seenAfter, after_all_lem, after_fields, fresh}
use Rattle.planner.specs.Names.{occurrences, names_of}
use Rattle.planner.specs.Simple.{differing, keys_of, is_literal, admitted, admitted_all, admitted_fields, mentions}
use Rattle.planner.proofs.laws.Mentions.{mentions_any, mentions_fields, mentions_name, mentions_item, mentions_field}
use Rattle.value.specs.Value.{Value, literalᵛ, arrayᵛ, objectᵛ, Values, noneᵛ, itemᵛ, ValueFields, filled_field, value_of, values_of, value_fields_of, keysᵛ, same_key_sets, under}
use Rattle.value.proofs.Keys.{or_left, or_right}
use Rattle.value.proofs.Admitted.{value_keys}
use Rattle.matching.specs.Matching.{Env, MatchOutcome, matched, missed, fault, pick_value, assign, provided, under_key, same_length}
use Rattle.matching.proofs.Good.{is_none}
use Rattle.matching.proofs.reading.PlanTold.{plan_keys_lem}
use Rattle.tolerance.specs.Tolerance.{num_order}
use Rattle.tolerance.specs.code.Classes.{Classes, unified}
use Rattle.tolerance.specs.code.Decision.{Conditions, only_rest, together, found, literal_met, equal_if, items_equal_if, fields_equal_if, Walk, compared_by, providing, onwards, then_walk, walk_at, walk, walk_items, walk_fields}
use Rattle.tolerance.specs.code.Meeting.{Held, held, held_with, asking, and_then, meets_at, naming, numbers_met, meets, meets_items, meets_fields}
use Rattle.tolerance.proofs.orders.Folding.{go_on, unified_append}

-- 1. Conditions, one after the other
pub asking_both : (p q : Conditions) (h : Held) → asking (together p q) h ≡ and_then (asking p h) (λ g. asking q g)
asking_both p q h = go p.rest q.rest (unified num_order p.numbers h.classes) (unified_append num_order p.numbers q.numbers h.classes)
  where
    go : (a b : Bool) (o : Option (Classes num_order)) → unified num_order (p.numbers ++ q.numbers) h.classes ≡ go_on num_order o (λ t. unified num_order q.numbers t)
        → cond (a && b) (held_with (unified num_order (p.numbers ++ q.numbers) h.classes) h.env) none
        ≡ and_then (cond a (held_with o h.env) none) (λ g. cond b (held_with (unified num_order q.numbers g.classes) g.env) none)
    go false b o e = refl
    go true true none e = ap (λ (x : Option (Classes num_order)). held_with x h.env) e
    go true true (some t) e = ap (λ (x : Option (Classes num_order)). held_with x h.env) e
    go true false none e = refl
    go true false (some t) e = refl

asking_keys : (b : Bool) (q : Conditions) (h : Held) → asking (together (only_rest b) q) h ≡ cond b (asking q h) none
asking_keys true q h = refl
asking_keys false q h = refl

nothing_held : (h : Held) → some h ≡ asking (only_rest true) h
unfolding unified
nothing_held h = refl

-- names keep their values
asking_keeps : (q : Conditions) (h h' : Held) → asking q h ≡ some h' → h'.env ≡ h.env
asking_keeps q h h' e = go q.rest (unified num_order q.numbers h.classes) e
  where
    go : (b : Bool) (o : Option (Classes num_order)) → cond b (held_with o h.env) none ≡ some h' → h'.env ≡ h.env
    go true none e = absurd (false≢true (cc))
    go true (some t) e = let q : held t h.env ≡ h' = cc in sym (ap (λ (x : Held). x.env) q)
    go false o e = absurd (false≢true (cc))

and_then_as : (o : Option Held) (f g : Held → Option Held) → ((h : Held) → o ≡ some h → f h ≡ g h) → and_then o f ≡ and_then o g
and_then_as none f g k = refl
and_then_as (some h) f g k = k h refl

none_after : (o : Option Held) → and_then o (λ g. none) ≡ none
none_after none = refl
none_after (some h) = refl

some_before : (o : Option Held) (f : Held → Option Held) (h' : Held) → and_then o f ≡ some h' → (h : Held) × (o ≡ some h) × (f h ≡ some h')
some_before none f h' e = absurd (false≢true (cc))
some_before (some h) f h' e = (h, refl, e)

-- 2. Two values
mutual
  unfolding admitted meets equal_if value_of

  pub value_meets : (e : Expr) (v : Value) (h : Held) → admitted false e ≡ true → meets false e v h ≡ asking (equal_if (value_of e) v) h
  value_meets (literal n l) (literalᵛ m k) h t = refl
  value_meets (literal n l) (arrayᵛ m vs) h t = refl
  value_meets (literal n l) (objectᵛ m gs) h t = refl
  value_meets (name n x) v h t = absurd (false≢true t)
  value_meets (wildcard n) v h t = absurd (false≢true t)
  value_meets (array n es) (literalᵛ m k) h t = refl
  value_meets (array n es) (arrayᵛ m vs) h t = items_meet es vs h t
  value_meets (array n es) (objectᵛ m gs) h t = refl
  value_meets (set n es) v h t = absurd (false≢true t)
  value_meets (object n fs) (literalᵛ m k) h t = refl
  value_meets (object n fs) (arrayᵛ m vs) h t = refl
  value_meets (object n fs) (objectᵛ m gs) h t =
      ap (λ (o : Option Held). cond (same_key_sets (keys_of fs) (keysᵛ gs)) o none) (fields_meet fs gs h (and_true (differing (keys_of fs)) (admitted_fields false fs) t).1)
      ∙ sym (asking_keys (same_key_sets (keysᵛ (value_fields_of fs)) (keysᵛ gs)) (fields_equal_if (value_fields_of fs) gs) h
      ∙ ap (λ (ks : List Literal). cond (same_key_sets ks (keysᵛ gs)) (asking (fields_equal_if (value_fields_of fs) gs) h) none) (value_keys fs))
  value_meets (other n) v h t = absurd (false≢true t)

  items_meet : (es : Exprs) (vs : Values) (h : Held) → admitted_all false es ≡ true → meets_items false es vs h ≡ asking (items_equal_if (values_of es) vs) h
  items_meet Expr.none noneᵛ h t = nothing_held h
  items_meet Expr.none (itemᵛ v vs) h t = refl
  items_meet (item e es) noneᵛ h t = refl
  items_meet (item e es) (itemᵛ v vs) h t =
      let p = and_true (admitted false e) (admitted_all false es) t in
      ap₂ and_then (value_meets e v h p.0) (fun_ext (λ g. items_meet es vs g p.1))
      ∙ sym (asking_both (equal_if (value_of e) v) (items_equal_if (values_of es) vs) h)

  fields_meet : (fs : Fields) (gs : ValueFields) (h : Held) → admitted_fields false fs ≡ true → meets_fields false fs gs h ≡ asking (fields_equal_if (value_fields_of fs) gs) h
  fields_meet done gs h t = nothing_held h
  fields_meet (field k e fs) gs h t =
      let p = and_true (is_literal (literal_key k)) (admitted false e && admitted_fields false fs) t in
      let q = and_true (admitted false e) (admitted_fields false fs) p.1 in
      go (literal_key k) p.0 (λ v g. value_meets e v g q.0) (λ g. fields_meet fs gs g q.1)
    where
      at : (o : Option Value) → ((v : Value) (g : Held) → meets false e v g ≡ asking (equal_if (value_of e) v) g) → ((g : Held) → meets_fields false fs gs g ≡ asking (fields_equal_if (value_fields_of fs) gs) g)
          → meets_at o (λ v. and_then (meets false e v h) (λ g. meets_fields false fs gs g)) ≡ asking (together (found (λ w. equal_if (value_of e) w) o) (fields_equal_if (value_fields_of fs) gs)) h
      at none f g = refl
      at (some w) f g = ap₂ and_then (f w h) (fun_ext g) ∙ sym (asking_both (equal_if (value_of e) w) (fields_equal_if (value_fields_of fs) gs) h)

      go : (o : Option Literal) → is_literal o ≡ true → ((v : Value) (g : Held) → meets false e v g ≡ asking (equal_if (value_of e) v) g) → ((g : Held) → meets_fields false fs gs g ≡ asking (fields_equal_if (value_fields_of fs) gs) g)
          → meets_at (under_key o gs) (λ v. and_then (meets false e v h) (λ g. meets_fields false fs gs g)) ≡ asking (fields_equal_if (filled_field o (value_of e) (value_fields_of fs)) gs) h
      go none i f g = absurd (false≢true i)
      go (some l) i f g = at (under l gs) f g

-- 3. A walk: what is held at its end, if its equalities can be met
abbrev judged_end : MatchOutcome → Option (Classes num_order) → Option Held
judged_end (matched env) o = held_with o env
judged_end missed o = none
judged_end fault o = none

abbrev pub judged : Walk → Classes num_order → Option Held
judged w s = judged_end w.end (unified num_order w.numbers s)

end_none : (o : MatchOutcome) → judged_end o none ≡ none
end_none (matched env) = refl
end_none missed = refl
end_none fault = refl

judged_then : (w : Walk) (f : Env → Walk) (s : Classes num_order) → judged (then_walk w f) s ≡ and_then (judged w s) (λ h. judged (f h.env) h.classes)
judged_then w f s = go w.end (unified num_order w.numbers s) (λ env. unified_append num_order w.numbers (f env).numbers s)
  where
    go : (o : MatchOutcome) (u : Option (Classes num_order)) → ((env : Env) → unified num_order (w.numbers ++ (f env).numbers) s ≡ go_on num_order u (λ t. unified num_order (f env).numbers t))
        → judged (onwards w.numbers o f) s ≡ and_then (judged_end o u) (λ h. judged (f h.env) h.classes)
    go (matched env) none e = ap (judged_end (f env).end) (e env) ∙ end_none (f env).end
    go (matched env) (some t) e = ap (judged_end (f env).end) (e env)
    go missed u e = refl
    go fault u e = refl

judged_compared : (q : Conditions) (s : Classes num_order) (env : Env) → judged (compared_by q env) s ≡ asking q (held s env)
judged_compared q s env = go q.rest
  where
    go : (b : Bool) → judged_end (provided b (matched env)) (unified num_order q.numbers s) ≡ cond b (held_with (unified num_order q.numbers s) env) none
    go true = refl
    go false = refl

-- 4. A pattern
uneven : (u : ℕ → Bool) (es : Exprs) (vs : Values) (seen : List ℕ) (h : Held) → same_length (plans u es seen) vs ≡ false → meets_items true es vs h ≡ none
unfolding same_length plan meets
uneven u Expr.none noneᵛ seen h e = absurd (false≢true (sym e))
uneven u Expr.none (itemᵛ v vs) seen h e = refl
uneven u (item x es) noneᵛ seen h e = refl
uneven u (item x es) (itemᵛ v vs) seen h e = ap (and_then (meets true x v h)) (fun_ext (λ g. uneven u es vs (seenAfter u x seen) g e)) ∙ none_after (meets true x v h)

module _ (unbound : ℕ → Bool) (Ok : ℕ → Type 0) where
  -- of the names that matter, just those still to be planned have no value
  abbrev pub InStep : List ℕ → Env → Type 0
  InStep seen env = (x : ℕ) → Ok x → fresh unbound seen x ≡ is_none (env x)

  set_step : (x : ℕ) (v : Value) (seen : List ℕ) (env : Env) → InStep seen env → InStep (x ∷ seen) (assign x v env)
  unfolding elem
  set_step x v seen env s y ok = go (eqb y x) (s y ok)
    where
      go : (c : Bool) → fresh unbound seen y ≡ is_none (env y) → (unbound y && not (c || elem y seen)) ≡ is_none (pick_value c (some v) (env y))
      go true q = and-false (unbound y)
      go false q = q

  mutual
    unfolding plan meets occurrences names_of elem

    step_after : (e : Expr) (v : Value) (seen : List ℕ) (h h' : Held) → ((x : ℕ) → T (mentions x e) → Ok x) → InStep seen h.env → meets true e v h ≡ some h' → InStep (seenAfter unbound e seen) h'.env
    step_after (literal n l) v seen h h' ok s q = rw (asking_keeps (literal_met (numbers_met true n) l v) h h' q) s
    step_after (name n x) v seen h h' ok s q = go (fresh unbound seen x) (h.env x) (s x (ok x (subst T (sym (mentions_name x n x)) (eqb_refl x)))) q
      where
        go : (c : Bool) (o : Option Value) → c ≡ is_none o → naming x v h o ≡ some h' → InStep (cond c (x ∷ seen) seen) h'.env
        go true none i q = let z : held h.classes (assign x v h.env) ≡ h' = cc in rw (← z) (set_step x v seen h.env s)
        go true (some u) i q = absurd (false≢true (sym i))
        go false none i q = absurd (false≢true i)
        go false (some u) i q = rw (asking_keeps (equal_if u v) h h' q) s
    step_after (wildcard n) v seen h h' ok s q = let z : h ≡ h' = cc in rw (← z) s
    step_after (array n es) (literalᵛ m k) seen h h' ok s q = absurd (false≢true (cc))
    step_after (array n es) (arrayᵛ m vs) seen h h' ok s q = items_after es vs seen h h' ok s q
    step_after (array n es) (objectᵛ m gs) seen h h' ok s q = absurd (false≢true (cc))
    step_after (set n es) v seen h h' ok s q = absurd (false≢true (cc))
    step_after (object n fs) (literalᵛ m k) seen h h' ok s q = absurd (false≢true (cc))
    step_after (object n fs) (arrayᵛ m vs) seen h h' ok s q = absurd (false≢true (cc))
    step_after (object n fs) (objectᵛ m gs) seen h h' ok s q = go (same_key_sets (keys_of fs) (keysᵛ gs)) q (λ r. fields_after fs gs seen h h' ok s r)
      where
        go : (b : Bool) → cond b (meets_fields true fs gs h) none ≡ some h' → (meets_fields true fs gs h ≡ some h' → InStep (after_fields unbound fs seen) h'.env) → InStep (after_fields unbound fs seen) h'.env
        go true q f = f q
        go false q f = absurd (false≢true (cc))
    step_after (other n) v seen h h' ok s q = absurd (false≢true (cc))

    items_after : (es : Exprs) (vs : Values) (seen : List ℕ) (h h' : Held) → ((x : ℕ) → T (mentions_any x es) → Ok x) → InStep seen h.env → meets_items true es vs h ≡ some h' → InStep (after_all_lem unbound es seen) h'.env
    items_after Expr.none noneᵛ seen h h' ok s q = let z : h ≡ h' = cc in rw (← z) s
    items_after Expr.none (itemᵛ v vs) seen h h' ok s q = absurd (false≢true (cc))
    items_after (item e es) noneᵛ seen h h' ok s q = absurd (false≢true (cc))
    items_after (item e es) (itemᵛ v vs) seen h h' ok s q =
        let (g, i, j) = some_before (meets true e v h) (λ g. meets_items true es vs g) h' q in
        items_after es vs (seenAfter unbound e seen) g h' (λ x m. ok x (subst T (sym (mentions_item x e es)) (or_right (mentions x e) (mentions_any x es) m)))
        (step_after e v seen h g (λ x m. ok x (subst T (sym (mentions_item x e es)) (or_left (mentions x e) (mentions_any x es) m))) s i) j

    fields_after : (fs : Fields) (gs : ValueFields) (seen : List ℕ) (h h' : Held) → ((x : ℕ) → T (mentions_fields x fs) → Ok x) → InStep seen h.env → meets_fields true fs gs h ≡ some h' → InStep (after_fields unbound fs seen) h'.env
    fields_after done gs seen h h' ok s q = let z : h ≡ h' = cc in rw (← z) s
    fields_after (field k e fs) gs seen h h' ok s q = go (under_key (literal_key k) gs) q
        (λ v g i. step_after e v seen h g (λ x m. ok x (subst T (sym (mentions_field x k e fs)) (or_right (mentions x k) (mentions x e || mentions_fields x fs) (or_left (mentions x e) (mentions_fields x fs) m)))) s i)
        (λ g r j. fields_after fs gs (seenAfter unbound e seen) g h' (λ x m. ok x (subst T (sym (mentions_field x k e fs)) (or_right (mentions x k) (mentions x e || mentions_fields x fs) (or_right (mentions x e) (mentions_fields x fs) m)))) r j)
      where
        go : (o : Option Value) → meets_at o (λ v. and_then (meets true e v h) (λ g. meets_fields true fs gs g)) ≡ some h'
            → ((v : Value) (g : Held) → meets true e v h ≡ some g → InStep (seenAfter unbound e seen) g.env)
            → ((g : Held) → InStep (seenAfter unbound e seen) g.env → meets_fields true fs gs g ≡ some h' → InStep (after_fields unbound fs (seenAfter unbound e seen)) h'.env)
            → InStep (after_fields unbound fs (seenAfter unbound e seen)) h'.env
        go none q f k = absurd (false≢true (cc))
        go (some v) q f k = let (g, i, j) = some_before (meets true e v h) (λ g. meets_fields true fs gs g) h' q in k g (f v g i) j

  mutual
    unfolding plan meets walk occurrences names_of elem same_length unified admitted

    pub walk_meets : (e : Expr) (v : Value) (seen : List ℕ) (s : Classes num_order) (env : Env) → admitted true e ≡ true → ((x : ℕ) → T (mentions x e) → Ok x) → InStep seen env
        → judged (walk (plan unbound e seen) v env) s ≡ meets true e v (held s env)
    walk_meets (literal n l) v seen s env t ok i = judged_compared (literal_met (numbers_met true n) l v) s env
    walk_meets (name n x) v seen s env t ok i = go (fresh unbound seen x) (env x) refl (i x (ok x (subst T (sym (mentions_name x n x)) (eqb_refl x))))
      where
        go : (c : Bool) (o : Option Value) → env x ≡ o → c ≡ is_none (env x) → judged (walk (cond c (var n x) (equality_expr (name n x))) v env) s ≡ naming x v (held s env) (env x)
        go true none e q = rw e
        go true (some u) e q = absurd (false≢true (cc))
        go false none e q = absurd (false≢true (cc))
        go false (some u) e q = rw e (judged_compared (equal_if u v) s env)
    walk_meets (wildcard n) v seen s env t ok i = refl
    walk_meets (array n es) (literalᵛ m k) seen s env t ok i = refl
    walk_meets (array n es) (arrayᵛ m vs) seen s env t ok i = go (same_length (plans unbound es seen) vs) refl (λ q. items_walk es vs seen s env t q ok i)
      where
        go : (b : Bool) → same_length (plans unbound es seen) vs ≡ b → (b ≡ true → judged (walk_items (plans unbound es seen) vs env) s ≡ meets_items true es vs (held s env))
            → judged (providing b (walk_items (plans unbound es seen) vs env)) s ≡ meets_items true es vs (held s env)
        go true q f = f refl
        go false q f = sym (uneven unbound es vs seen (held s env) q)
    walk_meets (array n es) (objectᵛ m gs) seen s env t ok i = refl
    walk_meets (set n es) v seen s env t ok i = absurd (false≢true t)
    walk_meets (object n fs) (literalᵛ m k) seen s env t ok i = refl
    walk_meets (object n fs) (arrayᵛ m vs) seen s env t ok i = refl
    walk_meets (object n fs) (objectᵛ m gs) seen s env t ok i =
        ap (λ (ks : List Literal). judged (providing (same_key_sets ks (keysᵛ gs)) (walk_fields (field_plans unbound fs seen) gs env)) s) (plan_keys_lem unbound fs seen)
        ∙ go (same_key_sets (keys_of fs) (keysᵛ gs)) (fields_walk fs gs seen s env (and_true (differing (keys_of fs)) (admitted_fields true fs) t).1 ok i)
      where
        go : (b : Bool) → judged (walk_fields (field_plans unbound fs seen) gs env) s ≡ meets_fields true fs gs (held s env)
            → judged (providing b (walk_fields (field_plans unbound fs seen) gs env)) s ≡ cond b (meets_fields true fs gs (held s env)) none
        go true q = q
        go false q = refl
    walk_meets (other n) v seen s env t ok i = absurd (false≢true t)

    items_walk : (es : Exprs) (vs : Values) (seen : List ℕ) (s : Classes num_order) (env : Env) → admitted_all true es ≡ true → same_length (plans unbound es seen) vs ≡ true → ((x : ℕ) → T (mentions_any x es) → Ok x) → InStep seen env
        → judged (walk_items (plans unbound es seen) vs env) s ≡ meets_items true es vs (held s env)
    items_walk Expr.none noneᵛ seen s env t q ok i = refl
    items_walk Expr.none (itemᵛ v vs) seen s env t q ok i = absurd (false≢true q)
    items_walk (item e es) noneᵛ seen s env t q ok i = absurd (false≢true q)
    items_walk (item e es) (itemᵛ v vs) seen s env t q ok i =
        let p = and_true (admitted true e) (admitted_all true es) t in
        let here : (x : ℕ) → T (mentions x e) → Ok x = λ x m. ok x (subst T (sym (mentions_item x e es)) (or_left (mentions x e) (mentions_any x es) m)) in
        judged_then (walk (plan unbound e seen) v env) (λ env'. walk_items (plans unbound es (seenAfter unbound e seen)) vs env') s
        ∙ (ap (λ (o : Option Held). and_then o (λ h. judged (walk_items (plans unbound es (seenAfter unbound e seen)) vs h.env) h.classes)) (walk_meets e v seen s env p.0 here i)
        ∙ and_then_as (meets true e v (held s env)) (λ h. judged (walk_items (plans unbound es (seenAfter unbound e seen)) vs h.env) h.classes) (λ g. meets_items true es vs g)
        (λ h r. items_walk es vs (seenAfter unbound e seen) h.classes h.env p.1 q (λ x m. ok x (subst T (sym (mentions_item x e es)) (or_right (mentions x e) (mentions_any x es) m)))
        (step_after e v seen (held s env) h here i r)))

    fields_walk : (fs : Fields) (gs : ValueFields) (seen : List ℕ) (s : Classes num_order) (env : Env) → admitted_fields true fs ≡ true → ((x : ℕ) → T (mentions_fields x fs) → Ok x) → InStep seen env
        → judged (walk_fields (field_plans unbound fs seen) gs env) s ≡ meets_fields true fs gs (held s env)
    fields_walk done gs seen s env t ok i = refl
    fields_walk (field k e fs) gs seen s env t ok i =
        let p = and_true (is_literal (literal_key k)) (admitted true e && admitted_fields true fs) t in
        let q = and_true (admitted true e) (admitted_fields true fs) p.1 in
        let here : (x : ℕ) → T (mentions x e) → Ok x = λ x m. ok x (subst T (sym (mentions_field x k e fs)) (or_right (mentions x k) (mentions x e || mentions_fields x fs) (or_left (mentions x e) (mentions_fields x fs) m))) in
        go (under_key (literal_key k) gs) (λ v. walk_meets e v seen s env q.0 here i)
        (λ v h r. fields_walk fs gs (seenAfter unbound e seen) h.classes h.env q.1 (λ x m. ok x (subst T (sym (mentions_field x k e fs)) (or_right (mentions x k) (mentions x e || mentions_fields x fs) (or_right (mentions x e) (mentions_fields x fs) m))))
        (step_after e v seen (held s env) h here i r))
      where
        go : (o : Option Value) → ((v : Value) → judged (walk (plan unbound e seen) v env) s ≡ meets true e v (held s env))
            → ((v : Value) (h : Held) → meets true e v (held s env) ≡ some h → judged (walk_fields (field_plans unbound fs (seenAfter unbound e seen)) gs h.env) h.classes ≡ meets_fields true fs gs h)
            → judged (walk_at o (λ v. then_walk (walk (plan unbound e seen) v env) (λ env'. walk_fields (field_plans unbound fs (seenAfter unbound e seen)) gs env'))) s
            ≡ meets_at o (λ v. and_then (meets true e v (held s env)) (λ g. meets_fields true fs gs g))
        go none f g = refl
        go (some v) f g =
            judged_then (walk (plan unbound e seen) v env) (λ env'. walk_fields (field_plans unbound fs (seenAfter unbound e seen)) gs env') s
            ∙ (ap (λ (o : Option Held). and_then o (λ h. judged (walk_fields (field_plans unbound fs (seenAfter unbound e seen)) gs h.env) h.classes)) (f v)
            ∙ and_then_as (meets true e v (held s env)) (λ h. judged (walk_fields (field_plans unbound fs (seenAfter unbound e seen)) gs h.env) h.classes) (λ g. meets_fields true fs gs g) (g v))
