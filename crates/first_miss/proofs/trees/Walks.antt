-- Where no fault comes up, the walk over a simple pattern comes to the first miss of its plan, whatever names are planned before.
use Prim.Native.Nat.{ℕ}
use mathlib.Core.Path.{◌≡◌, refl, ap, ap₂, ◌∙◌}
use mathlib.Core.List.{List}
use mathlib.Core.Bool.{Bool, true, false, cond, ◌&&◌, false≢true}
use mathlib.Core.Option.{Option, none, some}
use Rattle.literal.specs.Literal.{Literal}
use Rattle.table.specs.Expr as Expr
use Rattle.table.specs.Expr.{Expr, literal, name, wildcard, array, set, object, other, Exprs, item, Fields, done, field}
use Rattle.table.proofs.tests.Bools.{and_true}
use Rattle.planner.specs.Plan.{var, equality_expr, plan, plans, field_plans, after, fresh}
use Rattle.planner.specs.Layout.{Slot, literal_key}
use Rattle.planner.specs.Simple.{differing, keys_of, is_literal, simple, simple_all, simple_fields, admitted}
use Rattle.value.specs.Value.{Value, literalᵛ, arrayᵛ, objectᵛ, Values, noneᵛ, itemᵛ, ValueFields, keysᵛ}
use Rattle.matching.specs.Matching.{Env, under_key, plan_keys, same_length}
use Rattle.matching.proofs.reading.PlanTold.{plan_keys_lem}
use Rattle.first_miss.specs.declared.Why.TheVariants.{OtherLength}
use Rattle.first_miss.specs.declared.Miss.{Miss}
use Rattle.first_miss.specs.Miss.{MissOutcome, matched, missed, fault, miss_at, or_miss, next, at, key_slots, missing_key, other_key, keys_first, first_miss, miss_items, miss_fields}
use Rattle.first_miss.specs.code.Walk.{naming, even, walk, walk_items, walk_fields}
use Rattle.first_miss.proofs.trees.KeySets.{plan_slots}

even_length : (u : ℕ → Bool) (es : Exprs) (vs : Values) (seen : List ℕ) → same_length (plans u es seen) vs ≡ even es vs
unfolding same_length plan even
even_length u Expr.none noneᵛ seen = refl
even_length u Expr.none (itemᵛ v vs) seen = refl
even_length u (item e es) noneᵛ seen = refl
even_length u (item e es) (itemᵛ v vs) seen = even_length u es vs (after u e seen)

-- no fault after a part
next_as : (o p : MissOutcome) (f g : Env → MissOutcome) → ((o ≡ fault → ⊥) → o ≡ p) → ((env : Env) → (f env ≡ fault → ⊥) → f env ≡ g env) → (next o f ≡ fault → ⊥) → next o f ≡ next p g
next_as (matched env) p f g e h n = h env n ∙ ap (λ (q : MissOutcome). next q g) (e (λ z. false≢true (cc)))
next_as (missed m) p f g e h n = ap (λ (q : MissOutcome). next q g) (e (λ z. false≢true (cc)))
next_as fault p f g e h n = absurd (n refl)

or_miss_as : (b : Bool) (m : Miss) (o p : MissOutcome) → ((o ≡ fault → ⊥) → o ≡ p) → (or_miss b (missed m) o ≡ fault → ⊥) → or_miss b (missed m) o ≡ or_miss b (missed m) p
or_miss_as true m o p e n = e n
or_miss_as false m o p e n = refl

at_as : (o : Option Value) (m : Miss) (f g : Value → MissOutcome) → ((v : Value) → (f v ≡ fault → ⊥) → f v ≡ g v) → (at o (missed m) f ≡ fault → ⊥) → at o (missed m) f ≡ at o (missed m) g
at_as none m f g h n = refl
at_as (some v) m f g h n = h v n

module _ (key_node : ℕ → ℕ → ℕ) (u : ℕ → Bool) where
  keys_as : (n m : ℕ) (a : Option (Slot ℕ)) (b : Option ℕ) (o p : MissOutcome) → ((o ≡ fault → ⊥) → o ≡ p) → (keys_first key_node n m a b o ≡ fault → ⊥) → keys_first key_node n m a b o ≡ keys_first key_node n m a b p
  keys_as n m (some k) b o p e f = refl
  keys_as n m none (some i) o p e f = refl
  keys_as n m none none o p e f = e f

  mutual
    unfolding first_miss plan walk admitted

    pub walks : (e : Expr) (v : Value) (seen : List ℕ) (env : Env) → simple e ≡ true → (first_miss key_node (plan u e seen) v env ≡ fault → ⊥) → first_miss key_node (plan u e seen) v env ≡ walk key_node e v env
    walks (literal n l) v seen env t f = refl
    walks (name n x) v seen env t f = go (fresh u seen x) (env x) refl f
      where
        go : (c : Bool) (o : Option Value) → env x ≡ o → (first_miss key_node (cond c (var n x) (equality_expr (name n x))) v env ≡ fault → ⊥) → first_miss key_node (cond c (var n x) (equality_expr (name n x))) v env ≡ naming n x v env (env x)
        go true none e g = rw e
        go true (some w) e g = absurd (g (rw e))
        go false none e g = absurd (g (rw e))
        go false (some w) e g = rw e
    walks (wildcard n) v seen env t f = refl
    walks (array n es) (literalᵛ m k) seen env t f = refl
    walks (array n es) (arrayᵛ m vs) seen env t f =
        or_miss_as (same_length (plans u es seen) vs) _ (miss_items key_node n m (plans u es seen) vs env) (walk_items key_node n m es vs env) (λ g. items_walk n m es vs seen env t g) f
        ∙ ap (λ (b : Bool). or_miss b (miss_at OtherLength m n) (walk_items key_node n m es vs env)) (even_length u es vs seen)
    walks (array n es) (objectᵛ m gs) seen env t f = refl
    walks (set n es) v seen env t f = absurd (false≢true t)
    walks (object n fs) (literalᵛ m k) seen env t f = refl
    walks (object n fs) (arrayᵛ m vs) seen env t f = refl
    walks (object n fs) (objectᵛ m gs) seen env t f =
        keys_as n m (missing_key (keysᵛ gs) (key_slots (field_plans u fs seen))) (other_key (plan_keys (field_plans u fs seen)) 0 (keysᵛ gs)) (miss_fields key_node m (field_plans u fs seen) gs env) (walk_fields key_node m fs gs env)
        (λ g. fields_walk m fs gs seen env (and_true (differing (keys_of fs)) (simple_fields fs) t).1 g) f
        ∙ ap₂ (λ (ks : List (Slot ℕ)) (ls : List Literal). keys_first key_node n m (missing_key (keysᵛ gs) ks) (other_key ls 0 (keysᵛ gs)) (walk_fields key_node m fs gs env)) (plan_slots u fs seen) (plan_keys_lem u fs seen)
    walks (other n) v seen env t f = absurd (false≢true t)

    items_walk : (n m : ℕ) (es : Exprs) (vs : Values) (seen : List ℕ) (env : Env) → simple_all es ≡ true → (miss_items key_node n m (plans u es seen) vs env ≡ fault → ⊥)
        → miss_items key_node n m (plans u es seen) vs env ≡ walk_items key_node n m es vs env
    items_walk n m Expr.none vs seen env t f = refl
    items_walk n m (item e es) noneᵛ seen env t f = refl
    items_walk n m (item e es) (itemᵛ v vs) seen env t f =
        let p = and_true (simple e) (simple_all es) t in
        next_as (first_miss key_node (plan u e seen) v env) (walk key_node e v env) (λ env'. miss_items key_node n m (plans u es (after u e seen)) vs env') (λ env'. walk_items key_node n m es vs env')
        (λ g. walks e v seen env p.0 g) (λ env' g. items_walk n m es vs (after u e seen) env' p.1 g) f

    fields_walk : (m : ℕ) (fs : Fields) (gs : ValueFields) (seen : List ℕ) (env : Env) → simple_fields fs ≡ true → (miss_fields key_node m (field_plans u fs seen) gs env ≡ fault → ⊥)
        → miss_fields key_node m (field_plans u fs seen) gs env ≡ walk_fields key_node m fs gs env
    fields_walk m done gs seen env t f = refl
    fields_walk m (field k e fs) gs seen env t f =
        let p = and_true (is_literal (literal_key k)) (simple e && simple_fields fs) t in
        let q = and_true (simple e) (simple_fields fs) p.1 in
        at_as (under_key (literal_key k) gs) _
        (λ v. next (first_miss key_node (plan u e seen) v env) (λ env'. miss_fields key_node m (field_plans u fs (after u e seen)) gs env')) (λ v. next (walk key_node e v env) (λ env'. walk_fields key_node m fs gs env'))
        (λ v. next_as (first_miss key_node (plan u e seen) v env) (walk key_node e v env) (λ env'. miss_fields key_node m (field_plans u fs (after u e seen)) gs env') (λ env'. walk_fields key_node m fs gs env')
        (λ g. walks e v seen env q.0 g) (λ env' g. fields_walk m fs gs (after u e seen) env' q.1 g)) f
