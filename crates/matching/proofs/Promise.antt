-- The promise of Matching, proved.
use Prim.Native.Nat.{ℕ}
use mathlib.Core.Bool.{Bool, true, false, ◌&&◌, false≢true}
use mathlib.Core.List.{List, []}
use mathlib.Core.Option.{Option, none, some}
use mathlib.Core.Path.{◌≡◌, refl, sym, ◌∙◌}
use lib.Dec.{T}
use Rattle.literal.specs.Literal.{null}
use Rattle.table.specs.Expr.{Expr}
use Rattle.base.specs.Lists.{elem}
use Rattle.planner.specs.Plan.{after}
use Rattle.planner.specs.Simple.{mentions}
use Rattle.value.specs.Value.{Value, literalᵛ, proper, Proper, Same}
use Rattle.matching.specs.Matching.{Env, MatchOutcome, matched, fault, pick_value, Filling, or_else, start, Planned, outcome, Makes, Asked, Promise}
use Rattle.value.proofs.Keys.{and_left, and_right, is_true, true_is}
use Rattle.value.proofs.Equal.{same_refl, same_sym, same_from}
use Rattle.matching.proofs.Good.{State, Hit, Good, hit, miss, is_none, Agree, Extends}
use Rattle.matching.proofs.Fits.{Fits, good, only}

-- what a match means, and what a fit
module _ {unbound : ℕ → Bool} {Ok : ℕ → Type 0} {env : Env} {N : ℕ → Bool} {seen : List ℕ} {F : (ℕ → Value) → Type 0} where
  no_fault : {o : MatchOutcome} → Good unbound Ok env N seen F o → ¬ (o ≡ fault)
  no_fault (hit h) q = false≢true (cc)
  no_fault (miss f) q = false≢true (cc)

  hit_of : {o : MatchOutcome} → Good unbound Ok env N seen F o → (env' : Env) → o ≡ matched env' → Hit unbound Ok env N seen F env'
  hit_of (hit {env' = env''} h) env' q = let r : env'' ≡ env' = cc in rw r at h
  hit_of (miss f) env' q = absurd (false≢true (cc))

  fit_of : {o : MatchOutcome} → Good unbound Ok env N seen F o → (ρ : ℕ → Value) → Agree ρ env → F ρ → (env' : Env) × (o ≡ matched env')
  fit_of (hit {env' = env'} h) ρ a f = (env', refl)
  fit_of (miss g) ρ a f = absurd (g ρ a f)

module _ (unbound : ℕ → Bool) (listed : Env) (e : Expr) (v : Value) (asked : Asked unbound listed e v) where
  abbrev Ok : ℕ → Type 0
  Ok x = T (mentions x e)

  abbrev first : Env
  first = start unbound listed

  begin : State unbound Ok [] first
  unfolding elem
  begin = record { in_step_lem = λ x ok. step x (unbound x) refl (asked.known_listed x ok); all_proper = λ x u q. listed_proper x u (unbound x) q }
    where
      step : (x : ℕ) (b : Bool) → unbound x ≡ b → (unbound x ≡ false → (w : Value) × (listed x ≡ some w)) → (b && true) ≡ is_none (pick_value b none (listed x))
      step x true q f = refl
      step x false q f = let (w, r) = f q in rw r

      listed_proper : (x : ℕ) (u : Value) (b : Bool) → pick_value b none (listed x) ≡ some u → Proper u
      listed_proper x u true q = absurd (false≢true (cc))
      listed_proper x u false q = asked.list_proper x u q

  ran : Good unbound Ok first (λ x. mentions x e) (after unbound e []) (Fits e v) (outcome unbound listed e v)
  ran = good unbound Ok e v [] first asked.is_simple asked.value_proper_lem (λ x t. t) begin

  abbrev values : Filling e → ℕ → Value
  values f x = or_else (first x) (f.names x).value

  agrees : (f : Filling e) → Agree (values f) first
  agrees f x u q = rw q (same_refl u (begin.all_proper x u q))

  abbrev or_null : Option Value → Value
  or_null o = or_else o (literalᵛ 0 null)

  null_proper : (o : Option Value) → ((u : Value) → o ≡ some u → Proper u) → Proper (or_null o)
  unfolding proper
  null_proper none f = tt
  null_proper (some u) f = f u refl

  found : (env : Env) → ((x : ℕ) (u : Value) → first x ≡ some u → env x ≡ some u) → Extends (λ x. or_else (first x) (or_null (env x))) env
  found env f x u q = go (first x) refl
    where
      go : (o : Option Value) → first x ≡ o → or_else o (or_null (env x)) ≡ u
      go none r = rw q
      go (some w) r = let s : env x ≡ some w = f x w r in cc

  planned_new : (x : ℕ) → T (unbound x) → first x ≡ none
  planned_new x t = let q : unbound x ≡ true = is_true t in rw q

  abbrev Matched : Env → Type 0
  Matched env = Hit unbound Ok first (λ x. mentions x e) (after unbound e []) (Fits e v) env

  filling : (env : Env) → Matched env → (f : Filling e) × Makes unbound listed e v f
  filling env h =
      let b = h.sound (λ x. or_else (first x) (or_null (env x))) (found env h.extends) in
      (record { names = λ x. record { value = or_null (env x); is_proper = null_proper (env x) (h.state.all_proper x) }; blanks = b.0 }, b.1)

  sets : (env : Env) → Matched env → (x : ℕ) → Planned unbound e x → (w : Value) × (env x ≡ some w) × ((f : Filling e) → Makes unbound listed e v f → Same w (f.names x).value)
  sets env h x p =
      let (w, q) = h.has x (and_left (mentions x e) (unbound x) p) in
      let n : first x ≡ none = planned_new x (and_right (mentions x e) (unbound x) p) in
      (w, q, λ f m. let s : Same (values f x) w = h.complete (values f) (agrees f) (f.blanks, m) x w q in same_sym (f.names x).value w (h.state.all_proper x w q) (rw n at s))

  keeps : (env : Env) → Matched env → (x : ℕ) → ¬ Planned unbound e x → env x ≡ first x
  keeps env h x p = go (mentions x e) (unbound x) refl refl p
    where
      go : (b c : Bool) → mentions x e ≡ b → unbound x ≡ c → ¬ T (b && c) → env x ≡ first x
      go false c q r n = h.kept x (λ t. rw q at t)
      go true true q r n = absurd (n tt)
      go true false q r n =
          let (w, l) = asked.known_listed x (true_is q) r in
          let i : first x ≡ some w = rw r l in
          h.extends x w i ∙ sym i

  pub proved : Promise unbound listed e v
  proved = record {
    no_fault_lem = no_fault ran;
    if_matched = λ env q. filling env (hit_of ran env q);
    if_made = λ f m. fit_of ran (values f) (agrees f) (f.blanks, m);
    sets = λ env q. sets env (hit_of ran env q);
    keeps = λ env q. keeps env (hit_of ran env q);
    only_names = λ f g m l x p.
        let (env, q) = fit_of ran (values f) (agrees f) (f.blanks, m) in
        let (w, i, s) = sets env (hit_of ran env q) x p in
        same_from w (f.names x).value (g.names x).value (f.names x).is_proper (s f m) (s g l);
    only_blanks = λ f g m l. only e v (values f) (values g) f.blanks g.blanks asked.is_simple m l;
  }
