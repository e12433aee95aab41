-- Every simple pattern's plan runs well: without a fault, and to a match just where some filling fits.
use Prim.Native.Nat.{ℕ}
use mathlib.Core.Bool.{Bool, true, false, ◌&&◌, ◌||◌, false≢true}
use mathlib.Core.List.{List, ◌∷◌}
use mathlib.Core.Option.{Option, none, some}
use mathlib.Core.Path.{◌≡◌, refl, ap, sym, subst, ◌∙◌}
use lib.Dec.{T, eqb, eqb_refl}
use Rattle.literal.specs.Literal.{Literal}
use Rattle.table.specs.Expr as Expr
use Rattle.table.specs.Expr.{Expr, literal, name, wildcard, array, set, object, other, Exprs, item, Fields, done, field}
use Rattle.planner.specs.Plan.{plan, plans, field_plans, after, after_all_lem, after_fields}
use Rattle.planner.specs.Layout.{literal_key}
use Rattle.planner.specs.Simple.{same_key, differing, add_key, keys_of, is_literal, admitted, simple, simple_all, simple_fields, mentions}
use Rattle.planner.specs.Names.{occurrences, names_of}
use Rattle.planner.proofs.laws.Mentions.{mentions_any, mentions_fields, mentions_name, mentions_item, mentions_field}
use Rattle.base.specs.Lists.{elem}
use Rattle.value.specs.Value.{Value, literalᵛ, arrayᵛ, objectᵛ, Values, noneᵛ, itemᵛ, ValueFields, doneᵛ, fieldᵛ, filled_field, keysᵛ, same_key_sets, first_hit, under, proper, proper_all_lem, proper_fields_lem, Proper, holds, same, same_items, same_fields_lem, Same}
use Rattle.matching.specs.Matching.{Env, MatchOutcome, next, at, under_key, plan_keys, same_length, run, run_items, run_fields, Blanks, BlanksAll, BlanksFields, fill, fill_all, fill_fields_lem, SameBlanks, SameBlanksAll, SameBlanksFields}
use Rattle.value.proofs.Keys.{and_left, and_right, both, or_left, or_right}
use Rattle.value.proofs.Equal.{same_refl, same_to}
use Rattle.matching.proofs.Good.{State, Good, miss, pass, when, also, and_then, named}

abbrev pub Fits : Expr → Value → (ℕ → Value) → Type 0
Fits e v ρ = (b : Blanks e) × Same (fill ρ e b) v

abbrev FitsAll : Exprs → Values → (ℕ → Value) → Type 0
FitsAll es vs ρ = (b : BlanksAll es) × T (same_items (fill_all ρ es b) vs)

abbrev FitsFields : Fields → ValueFields → (ℕ → Value) → Type 0
FitsFields fs gs ρ = (b : BlanksFields fs) × T (same_fields_lem (fill_fields_lem ρ fs b) gs)

-- what fits an array has its length, and what fits an object its keys
fits_length : (unbound : ℕ → Bool) (es : Exprs) (vs : Values) (seen : List ℕ) (ρ : ℕ → Value) (b : BlanksAll es) → T (same_items (fill_all ρ es b) vs) → T (same_length (plans unbound es seen) vs)
unfolding same_length plan fill same
fits_length unbound Expr.none noneᵛ seen ρ b t = tt
fits_length unbound Expr.none (itemᵛ v vs) seen ρ b t = t
fits_length unbound (item e es) noneᵛ seen ρ b t = t
fits_length unbound (item e es) (itemᵛ v vs) seen ρ b t = fits_length unbound es vs (after unbound e seen) ρ b.1 (and_right (same (fill ρ e b.0) v) (same_items (fill_all ρ es b.1) vs) t)

pub plan_keys_lem : (unbound : ℕ → Bool) (fs : Fields) (seen : List ℕ) → plan_keys (field_plans unbound fs seen) ≡ keys_of fs
unfolding plan_keys plan keys_of
plan_keys_lem unbound done seen = refl
plan_keys_lem unbound (field k v fs) seen = ap (add_key (literal_key k)) (plan_keys_lem unbound fs (after unbound v seen))

pub fill_keys : (ρ : ℕ → Value) (fs : Fields) (b : BlanksFields fs) → keysᵛ (fill_fields_lem ρ fs b) ≡ keys_of fs
unfolding keysᵛ fill keys_of
fill_keys ρ done b = refl
fill_keys ρ (field k v fs) b = go (literal_key k) (fill_keys ρ fs b.1)
  where
    go : (κ : Option Literal) → keysᵛ (fill_fields_lem ρ fs b.1) ≡ keys_of fs → keysᵛ (filled_field κ (fill ρ v b.0) (fill_fields_lem ρ fs b.1)) ≡ add_key κ (keys_of fs)
    go (some l) e = ap (λ ls. l ∷ ls) e
    go none e = e

same_keys : (unbound : ℕ → Bool) (fs : Fields) (seen : List ℕ) (ρ : ℕ → Value) (b : BlanksFields fs) → plan_keys (field_plans unbound fs seen) ≡ keysᵛ (fill_fields_lem ρ fs b)
same_keys unbound fs seen ρ b = plan_keys_lem unbound fs seen ∙ sym (fill_keys ρ fs b)

-- a literal key holds no name
pub silent : (x : ℕ) (k : Expr) → T (is_literal (literal_key k)) → mentions x k ≡ false
unfolding occurrences names_of elem
silent x (literal n l) t = refl
silent x (name n y) t = absurd t
silent x (wildcard n) t = absurd t
silent x (array n es) t = absurd t
silent x (set n es) t = absurd t
silent x (object n fs) t = absurd t
silent x (other n) t = absurd t

proper_under : (l : Literal) (gs : ValueFields) → T (proper_fields_lem gs) → (w : Value) → under l gs ≡ some w → Proper w
unfolding under proper
proper_under l doneᵛ p w e = absurd (false≢true (cc))
proper_under l (fieldᵛ k v gs) p w e = go (same_key l k) (proper_under l gs (and_right (proper v) (proper_fields_lem gs) p) w) e
  where
    go : (c : Bool) → (under l gs ≡ some w → Proper w) → first_hit c v (under l gs) ≡ some w → Proper w
    go true f q = let r : v ≡ w = cc in rw (sym r) (and_left (proper v) (proper_fields_lem gs) p)
    go false f q = f q

module _ (unbound : ℕ → Bool) (Ok : ℕ → Type 0) where
  -- a field with its rest
  field_step : {env : Env} {N M : ℕ → Bool} {seen seen' : List ℕ} {r : Value → MatchOutcome} {k : Env → MatchOutcome} (κ : Option Literal) (v : Expr) (fs : Fields) (gs : ValueFields) → T (is_literal κ) → T (proper_fields_lem gs) →
      ((w : Value) → Proper w → Good unbound Ok env N seen (Fits v w) (r w)) → ((env' : Env) → State unbound Ok seen env' → Good unbound Ok env' M seen' (FitsFields fs gs) (k env')) →
      Good unbound Ok env (λ x. N x || M x) seen' (λ ρ. (b : Blanks v × BlanksFields fs) × T (same_fields_lem (filled_field κ (fill ρ v b.0) (fill_fields_lem ρ fs b.1)) gs)) (at (under_key κ gs) (λ w. next (r w) k))
  unfolding same
  field_step none v fs gs i p f g = absurd i
  field_step {env} {N} {M} {seen} {seen'} {r} {k} (some l) v fs gs i p f g = go (under l gs) refl
    where
      go : (o : Option Value) → under l gs ≡ o → Good unbound Ok env (λ x. N x || M x) seen' (λ ρ. (b : Blanks v × BlanksFields fs) × T (same_fields_lem (fieldᵛ l (fill ρ v b.0) (fill_fields_lem ρ fs b.1)) gs)) (at o (λ w. next (r w) k))
      go none e = miss (λ ρ a h. rw e at (and_left (holds (λ w. same (fill ρ v h.0.0) w) (under l gs)) (same_fields_lem (fill_fields_lem ρ fs h.0.1) gs) h.1))
      go (some w) e = also unbound Ok (λ x. refl)
          (λ ρ h. ((h.0.0, h.1.0), both (holds (λ u. same (fill ρ v h.0.0) u) (under l gs)) (same_fields_lem (fill_fields_lem ρ fs h.1.0) gs) (rw e h.0.1) h.1.1))
          (λ ρ h. ((h.0.0, rw e at (and_left (holds (λ u. same (fill ρ v h.0.0) u) (under l gs)) (same_fields_lem (fill_fields_lem ρ fs h.0.1) gs) h.1)), (h.0.1, and_right (holds (λ u. same (fill ρ v h.0.0) u) (under l gs)) (same_fields_lem (fill_fields_lem ρ fs h.0.1) gs) h.1)))
          (and_then unbound Ok (f w (proper_under l gs p w e)) g)

  mutual
    unfolding plan occurrences names_of elem run admitted same proper fill same_length

    pub good : (e : Expr) (v : Value) (seen : List ℕ) (env : Env) → T (simple e) → Proper v → ((x : ℕ) → T (mentions x e) → Ok x) → State unbound Ok seen env →
        Good unbound Ok env (λ x. mentions x e) (after unbound e seen) (Fits e v) (run (plan unbound e seen) v env)
    good (literal n l) v seen env p q ok s = when unbound Ok (same (literalᵛ n l) v) (λ t. pass unbound Ok s (λ x r. absurd r) (λ ρ a. (tt, t))) (λ ρ a f. f.1)
    good (name n x) v seen env p q ok s = also unbound Ok (λ y. sym (mentions_name y n x)) (λ ρ f. (tt, f)) (λ ρ f. f.1) (named unbound Ok n x v seen env q s (ok x (or_left (eqb x x) false (eqb_refl x))))
    good (wildcard n) v seen env p q ok s = pass unbound Ok s (λ x r. absurd r) (λ ρ a. (record { value = v; is_proper = q }, same_refl v q))
    good (array n es) (literalᵛ m k) seen env p q ok s = miss (λ ρ a f. f.1)
    good (array n es) (arrayᵛ m vs) seen env p q ok s = when unbound Ok (same_length (plans unbound es seen) vs) (λ t. good_all es vs seen env p q ok s t) (λ ρ a f. fits_length unbound es vs seen ρ f.0 f.1)
    good (array n es) (objectᵛ m gs) seen env p q ok s = miss (λ ρ a f. f.1)
    good (set n es) v seen env p q ok s = absurd p
    good (object n fs) (literalᵛ m k) seen env p q ok s = miss (λ ρ a f. f.1)
    good (object n fs) (arrayᵛ m vs) seen env p q ok s = miss (λ ρ a f. f.1)
    good (object n fs) (objectᵛ m gs) seen env p q ok s = when unbound Ok (same_key_sets (plan_keys (field_plans unbound fs seen)) (keysᵛ gs))
        (λ t. also unbound Ok (λ x. refl)
        (λ ρ f. (f.0, both (same_key_sets (keysᵛ (fill_fields_lem ρ fs f.0)) (keysᵛ gs)) (same_fields_lem (fill_fields_lem ρ fs f.0) gs) (rw (same_keys unbound fs seen ρ f.0) at t) f.1))
        (λ ρ f. (f.0, and_right (same_key_sets (keysᵛ (fill_fields_lem ρ fs f.0)) (keysᵛ gs)) (same_fields_lem (fill_fields_lem ρ fs f.0) gs) f.1))
        (good_fields fs gs seen env (and_right (differing (keys_of fs)) (simple_fields fs) p) (and_right (differing (keysᵛ gs)) (proper_fields_lem gs) q) ok s))
        (λ ρ a f. rw (same_keys unbound fs seen ρ f.0) (and_left (same_key_sets (keysᵛ (fill_fields_lem ρ fs f.0)) (keysᵛ gs)) (same_fields_lem (fill_fields_lem ρ fs f.0) gs) f.1))
    good (other n) v seen env p q ok s = absurd p

    good_all : (es : Exprs) (vs : Values) (seen : List ℕ) (env : Env) → T (simple_all es) → T (proper_all_lem vs) → ((x : ℕ) → T (mentions_any x es) → Ok x) → State unbound Ok seen env → T (same_length (plans unbound es seen) vs) →
        Good unbound Ok env (λ x. mentions_any x es) (after_all_lem unbound es seen) (FitsAll es vs) (run_items (plans unbound es seen) vs env)
    good_all Expr.none noneᵛ seen env p q ok s t = pass unbound Ok s (λ x r. absurd r) (λ ρ a. (tt, tt))
    good_all Expr.none (itemᵛ v vs) seen env p q ok s t = absurd t
    good_all (item e es) noneᵛ seen env p q ok s t = absurd t
    good_all (item e es) (itemᵛ v vs) seen env p q ok s t = also unbound Ok (λ x. sym (mentions_item x e es))
        (λ ρ f. ((f.0.0, f.1.0), both (same (fill ρ e f.0.0) v) (same_items (fill_all ρ es f.1.0) vs) f.0.1 f.1.1))
        (λ ρ f. ((f.0.0, and_left (same (fill ρ e f.0.0) v) (same_items (fill_all ρ es f.0.1) vs) f.1), (f.0.1, and_right (same (fill ρ e f.0.0) v) (same_items (fill_all ρ es f.0.1) vs) f.1)))
        (and_then unbound Ok (good e v seen env (and_left (simple e) (simple_all es) p) (and_left (proper v) (proper_all_lem vs) q) (λ x r. ok x (subst T (sym (mentions_item x e es)) (or_left (mentions x e) (mentions_any x es) r))) s)
        (λ env' s'. good_all es vs (after unbound e seen) env' (and_right (simple e) (simple_all es) p) (and_right (proper v) (proper_all_lem vs) q) (λ x r. ok x (subst T (sym (mentions_item x e es)) (or_right (mentions x e) (mentions_any x es) r))) s' t))

    good_fields : (fs : Fields) (gs : ValueFields) (seen : List ℕ) (env : Env) → T (simple_fields fs) → T (proper_fields_lem gs) → ((x : ℕ) → T (mentions_fields x fs) → Ok x) → State unbound Ok seen env →
        Good unbound Ok env (λ x. mentions_fields x fs) (after_fields unbound fs seen) (FitsFields fs gs) (run_fields (field_plans unbound fs seen) gs env)
    good_fields done gs seen env p q ok s = pass unbound Ok s (λ x r. absurd r) (λ ρ a. (tt, tt))
    good_fields (field k v fs) gs seen env p q ok s =
        let i : T (is_literal (literal_key k)) = and_left (is_literal (literal_key k)) (simple v && simple_fields fs) p in
        let p' : T (simple v && simple_fields fs) = and_right (is_literal (literal_key k)) (simple v && simple_fields fs) p in
        let ok' : (x : ℕ) → T (mentions x v || mentions_fields x fs) → Ok x = λ x r. ok x (subst T (sym (mentions_field x k v fs)) (or_right (mentions x k) (mentions x v || mentions_fields x fs) r)) in
        also unbound Ok (λ x. sym (mentions_field x k v fs ∙ ap (λ (b : Bool). b || (mentions x v || mentions_fields x fs)) (silent x k i))) (λ ρ f. f) (λ ρ f. f)
        (field_step (literal_key k) v fs gs i q
        (λ w q'. good v w seen env (and_left (simple v) (simple_fields fs) p') q' (λ x r. ok' x (or_left (mentions x v) (mentions_fields x fs) r)) s)
        (λ env' s'. good_fields fs gs (after unbound v seen) env' (and_right (simple v) (simple_fields fs) p') q (λ x r. ok' x (or_right (mentions x v) (mentions_fields x fs) r)) s'))

-- a field that fits, and its rest
pub field_parts : (κ : Option Literal) → T (is_literal κ) → (u : Value) (us gs : ValueFields) → T (same_fields_lem (filled_field κ u us) gs) → (w : Value) × (under_key κ gs ≡ some w) × Same u w × T (same_fields_lem us gs)
unfolding same
field_parts none i u us gs t = absurd i
field_parts (some l) i u us gs t = go (under l gs) (and_left (holds (λ w. same u w) (under l gs)) (same_fields_lem us gs) t)
  where
    go : (o : Option Value) → T (holds (λ w. same u w) o) → (w : Value) × (o ≡ some w) × Same u w × T (same_fields_lem us gs)
    go none h = absurd h
    go (some w) h = (w, refl, h, and_right (holds (λ w. same u w) (under l gs)) (same_fields_lem us gs) t)

-- Of two fillings that fit, each underscore has equal values.
mutual
  unfolding fill same admitted

  pub only : (e : Expr) (v : Value) (ρ σ : ℕ → Value) (b c : Blanks e) → T (simple e) → Same (fill ρ e b) v → Same (fill σ e c) v → SameBlanks e b c
  only (literal n l) v ρ σ b c p s t = tt
  only (name n x) v ρ σ b c p s t = tt
  only (wildcard n) v ρ σ b c p s t = same_to b.value v c.value b.is_proper s t
  only (array n es) (literalᵛ m k) ρ σ b c p s t = absurd s
  only (array n es) (arrayᵛ m vs) ρ σ b c p s t = only_all es vs ρ σ b c p s t
  only (array n es) (objectᵛ m gs) ρ σ b c p s t = absurd s
  only (set n es) v ρ σ b c p s t = tt
  only (object n fs) (literalᵛ m k) ρ σ b c p s t = absurd s
  only (object n fs) (arrayᵛ m vs) ρ σ b c p s t = absurd s
  only (object n fs) (objectᵛ m gs) ρ σ b c p s t = only_fields fs gs ρ σ b c (and_right (differing (keys_of fs)) (simple_fields fs) p) (and_right (same_key_sets (keysᵛ (fill_fields_lem ρ fs b)) (keysᵛ gs)) (same_fields_lem (fill_fields_lem ρ fs b) gs) s) (and_right (same_key_sets (keysᵛ (fill_fields_lem σ fs c)) (keysᵛ gs)) (same_fields_lem (fill_fields_lem σ fs c) gs) t)
  only (other n) v ρ σ b c p s t = tt

  only_all : (es : Exprs) (vs : Values) (ρ σ : ℕ → Value) (b c : BlanksAll es) → T (simple_all es) → T (same_items (fill_all ρ es b) vs) → T (same_items (fill_all σ es c) vs) → SameBlanksAll es b c
  only_all Expr.none vs ρ σ b c p s t = tt
  only_all (item e es) noneᵛ ρ σ b c p s t = absurd s
  only_all (item e es) (itemᵛ v vs) ρ σ b c p s t = (
    only e v ρ σ b.0 c.0 (and_left (simple e) (simple_all es) p) (and_left (same (fill ρ e b.0) v) (same_items (fill_all ρ es b.1) vs) s) (and_left (same (fill σ e c.0) v) (same_items (fill_all σ es c.1) vs) t),
    only_all es vs ρ σ b.1 c.1 (and_right (simple e) (simple_all es) p) (and_right (same (fill ρ e b.0) v) (same_items (fill_all ρ es b.1) vs) s) (and_right (same (fill σ e c.0) v) (same_items (fill_all σ es c.1) vs) t),
  )

  only_fields : (fs : Fields) (gs : ValueFields) (ρ σ : ℕ → Value) (b c : BlanksFields fs) → T (simple_fields fs) → T (same_fields_lem (fill_fields_lem ρ fs b) gs) → T (same_fields_lem (fill_fields_lem σ fs c) gs) → SameBlanksFields fs b c
  only_fields done gs ρ σ b c p s t = tt
  only_fields (field k v fs) gs ρ σ b c p s t =
      let i : T (is_literal (literal_key k)) = and_left (is_literal (literal_key k)) (simple v && simple_fields fs) p in
      let p' : T (simple v && simple_fields fs) = and_right (is_literal (literal_key k)) (simple v && simple_fields fs) p in
      let (w, e, s₀, s₁) = field_parts (literal_key k) i (fill ρ v b.0) (fill_fields_lem ρ fs b.1) gs s in
      let (u, f, t₀, t₁) = field_parts (literal_key k) i (fill σ v c.0) (fill_fields_lem σ fs c.1) gs t in
      let q : u ≡ w = cc in
      (only v w ρ σ b.0 c.0 (and_left (simple v) (simple_fields fs) p') s₀ (rw q at t₀), only_fields fs gs ρ σ b.1 c.1 (and_right (simple v) (simple_fields fs) p') s₁ t₁)

-- A simple pattern that is filled with values is a value.
mutual
  unfolding fill admitted proper

  pub filled : (ρ : ℕ → Value) (e : Expr) (b : Blanks e) → T (simple e) → ((x : ℕ) → Proper (ρ x)) → Proper (fill ρ e b)
  filled ρ (literal n l) b p f = tt
  filled ρ (name n x) b p f = f x
  filled ρ (wildcard n) b p f = b.is_proper
  filled ρ (array n es) b p f = filled_all ρ es b p f
  filled ρ (set n es) b p f = tt
  filled ρ (object n fs) b p f = both (differing (keysᵛ (fill_fields_lem ρ fs b))) (proper_fields_lem (fill_fields_lem ρ fs b)) (rw (fill_keys ρ fs b) (and_left (differing (keys_of fs)) (simple_fields fs) p)) (filled_fields ρ fs b (and_right (differing (keys_of fs)) (simple_fields fs) p) f)
  filled ρ (other n) b p f = tt

  filled_all : (ρ : ℕ → Value) (es : Exprs) (b : BlanksAll es) → T (simple_all es) → ((x : ℕ) → Proper (ρ x)) → T (proper_all_lem (fill_all ρ es b))
  filled_all ρ Expr.none b p f = tt
  filled_all ρ (item e es) b p f = both (proper (fill ρ e b.0)) (proper_all_lem (fill_all ρ es b.1)) (filled ρ e b.0 (and_left (simple e) (simple_all es) p) f) (filled_all ρ es b.1 (and_right (simple e) (simple_all es) p) f)

  filled_fields : (ρ : ℕ → Value) (fs : Fields) (b : BlanksFields fs) → T (simple_fields fs) → ((x : ℕ) → Proper (ρ x)) → T (proper_fields_lem (fill_fields_lem ρ fs b))
  filled_fields ρ done b p f = tt
  filled_fields ρ (field k v fs) b p f =
      let q : T (simple v && simple_fields fs) = and_right (is_literal (literal_key k)) (simple v && simple_fields fs) p in
      go (literal_key k) (filled ρ v b.0 (and_left (simple v) (simple_fields fs) q) f) (filled_fields ρ fs b.1 (and_right (simple v) (simple_fields fs) q) f)
    where
      go : (κ : Option Literal) → Proper (fill ρ v b.0) → T (proper_fields_lem (fill_fields_lem ρ fs b.1)) → T (proper_fields_lem (filled_field κ (fill ρ v b.0) (fill_fields_lem ρ fs b.1)))
      go (some l) s t = both (proper (fill ρ v b.0)) (proper_fields_lem (fill_fields_lem ρ fs b.1)) s t
      go none s t = t
