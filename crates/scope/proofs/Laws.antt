-- The promises of a scope's calls.
use Prim.Native.Nat.{ℕ}
use mathlib.Core.Path.{◌≡◌, refl, sym, ap, ◌∙◌}
use mathlib.Core.Bool.{Bool, true, false, cond, not, ◌&&◌, and-true, and-false, or-true, and-eq-true_iff}
use Rattle.base.specs.Refusal.{name_outside, Tested, passed, refused}
use Rattle.scope.specs.declared.Scope.{Scope}
use Rattle.scope.specs.declared.ScopingMode.{ScopingMode}
use Rattle.scope.specs.declared.ScopingMode.TheVariants.{RespectParent, AllowShadowing}
use Rattle.scope.specs.declared.NameOutside.{NameOutside}
use Rattle.std.specs.Prelude.{Result, Ok, Err}
use Rattle.std.specs.Result.{result_unwrap_or, result_err}
use Rattle.scope.specs.Names.{is_name, contains, no_names, count_from, size_of}
use Rattle.scope.specs.Says.{Says, nothing, bind, add_unbound, in_child, unbound_under, bound_here, by_scoping}
use Rattle.scope.specs.Scope.{says, is_underscore, is_unbound, same_scope, bound_count, changeable, bound_at, unbound_at, bind_variable, add_unbound_variable, child_of, new_scope, named, call_of, Called, Question, replied, turned_back_lem, asked, question_of}
use Rattle.scope.specs.Promises.{SameFrame, ChangedAt, BindPromise, AddPromise, ChildPromise, NewPromise, ScopePromise, AnswerLaws}
use Rattle.scope.proofs.Sets.{contains_none, with_it, with_others, without_it, without_others, count_same}

-- a name that can be changed, and one that cannot
module _ (s : Scope) (x : ℕ) where
  pub changes : is_name x ≡ true → is_underscore s x ≡ false → changeable s x ≡ true
  unfolding changeable
  changes is other = simp (is, other)

  pub no_name : is_name x ≡ false → changeable s x ≡ false
  unfolding changeable
  no_name is = simp is

  pub underscore_kept : is_underscore s x ≡ true → changeable s x ≡ false
  unfolding changeable
  underscore_kept is = simp (is, and-false)

-- A call that puts in place of s the scope t, where the name can be changed.
module _ (change : Says → Says) (s t : Scope) (x : ℕ)
    (under : t.underscore ≡ s.underscore)
    (sched : t.scheduler ≡ s.scheduler)
    (here : is_name x ≡ true → says t x ≡ change (says s x))
    (elsewhere : (y : ℕ) → (y ≡ x → ⊥) → says t y ≡ says s y) where
  changed_at : ChangedAt change s (cond (changeable s x) t s) x
  changed_at = record {
    frame = frame (changeable s x);
    at = λ is other. ap (λ r. says r x) (simp (changes s x is other)) ∙ here is;
    others = λ y other. others (changeable s x) y other;
    outside = λ is. simp (no_name s x is);
    underscore = λ is. simp (underscore_kept s x is);
  }
    where
      frame : (b : Bool) → SameFrame s (cond b t s)
      frame true = record { underscore = under; scheduler = sched }
      frame false = record { underscore = refl; scheduler = refl }

      others : (b : Bool) (y : ℕ) → (y ≡ x → ⊥) → says (cond b t s) y ≡ says s y
      others true y other = elsewhere y other
      others false y other = refl

-- what a scope with the same `_` and scheduler says
module _ {s t : Scope} (same : SameFrame s t) where
  unbound_from : (mode : ScopingMode) (x : ℕ) → is_unbound t mode x ≡ unbound_under (is_underscore s x) s.scheduler mode (says t x)
  unfolding is_unbound is_underscore
  unbound_from mode x = simp (same.underscore, same.scheduler)

  here_from : (x : ℕ) → same_scope t x ≡ bound_here (is_underscore s x) (says t x)
  unfolding same_scope is_underscore
  here_from x = simp same.underscore

bind_changed : (s : Scope) (x : ℕ) → ChangedAt bind s (bind_variable s x) x
unfolding bind_variable says
bind_changed s x = changed_at bind s (bound_at s x) x refl refl
    (λ is. simp (with_it s.bound x is, with_it s.here x is, without_it s.unbound x is, without_it s.local x is))
    (λ y other. simp (with_others s.bound x y other, with_others s.here x y other, without_others s.unbound x y other, without_others s.local x y other))

pub bind_promise : (s : Scope) (x : ℕ) → BindPromise s x
bind_promise s x =
    let same = bind_changed s x in
    record {
      changed = same;
      respects = λ is other. unbound_from same.frame RespectParent x ∙ simp (same.at is other, other, and-false);
      shadows = λ is other. unbound_from same.frame AllowShadowing x ∙ simp (same.at is other, other, and-false);
      same_scope_lem = λ is other. here_from same.frame x ∙ simp (same.at is other, other);
    }

add_changed : (s : Scope) (x : ℕ) → ChangedAt add_unbound s (add_unbound_variable s x) x
unfolding add_unbound_variable says
add_changed s x = changed_at add_unbound s (unbound_at s x) x refl refl
    (λ is. simp (without_it s.bound x is, without_it s.here x is, with_it s.unbound x is, without_it s.local x is))
    (λ y other. simp (without_others s.bound x y other, without_others s.here x y other, with_others s.unbound x y other, without_others s.local x y other))

pub add_promise : (s : Scope) (x : ℕ) → AddPromise s x
add_promise s x =
    let same = add_changed s x in
    record {
      changed = same;
      is_unbound_lem = λ is other mode. unbound_from same.frame mode x ∙ simp (same.at is other, other);
      same_scope_lem = λ is other. here_from same.frame x ∙ simp (same.at is other, other);
    }

child_frame : (s : Scope) → SameFrame s (child_of s)
unfolding child_of
child_frame s = record { underscore = refl; scheduler = refl }

child_says : (s : Scope) (x : ℕ) → says (child_of s) x ≡ in_child (says s x)
unfolding child_of says
child_says s x = simp (contains_none x)

child_unbound : (s : Scope) (mode : ScopingMode) (x : ℕ) → is_unbound (child_of s) mode x ≡ is_unbound s mode x
unfolding is_unbound
child_unbound s mode x = unbound_from (child_frame s) mode x ∙ simp (child_says s x)

child_count : (s : Scope) → bound_count (child_of s) ≡ bound_count s
unfolding bound_count child_of
child_count s = refl

pub child_promise : (s : Scope) → ChildPromise s
child_promise s = record {
  frame = child_frame s;
  all = child_says s;
  is_unbound_lem = child_unbound s;
  same_scope_lem = λ x. here_from (child_frame s) x ∙ simp (child_says s x, and-false);
  count = child_count s;
}

-- a new scope has no mark
module _ (u : ℕ) (h : Bool) where
  new_says : (x : ℕ) → says (new_scope u h) x ≡ nothing
  unfolding new_scope says
  new_says x = simp (contains_none x)

  by_none : (mode : ScopingMode) → by_scoping mode false ≡ true
  by_none AllowShadowing = refl
  by_none RespectParent = refl

  new_unbound : (mode : ScopingMode) (x : ℕ) → is_unbound (new_scope u h) mode x ≡ not (is_underscore (new_scope u h) x)
  unfolding is_unbound
  new_unbound mode x = simp (new_says x, and-false, by_none mode, and-true)

  new_same : (x : ℕ) → same_scope (new_scope u h) x ≡ false
  unfolding same_scope
  new_same x = simp (new_says x, and-false)

  new_count : bound_count (new_scope u h) ≡ 0
  unfolding bound_count new_scope size_of count_from
  new_count = count_same (contains no_names) (λ _. false) 1 1 128 (λ k lt. contains_none _) ∙ none
    where
      none : count_from (λ _. false) 1 128 ≡ 0
      none = refl

  pub new_promise : NewPromise u h
  unfolding new_scope
  new_promise = record { underscore = refl; scheduler = refl; all = new_says; is_unbound_lem = new_unbound; same_scope_lem = new_same; count = new_count }

shadows : (s : Scope) (x : ℕ) → is_unbound s AllowShadowing x ≡ not (is_underscore s x)
unfolding is_unbound
shadows s x = simp (or-true, and-true)

pub scope_promise : (s : Scope) (x : ℕ) → ScopePromise s x
unfolding is_unbound same_scope
scope_promise s x = record {
  underscore_known = λ mode e. simp e;
  underscore_elsewhere = λ e. simp e;
  shadows = shadows s x;
  respects = λ e. shadows s x ∙ ((and-eq-true_iff (not (is_underscore s x)) _).0 e).0;
}

-- the answers
call_settled : (a b : Result Scope NameOutside) → call_of a ≡ call_of b → result_err a ≡ result_err b
call_settled (Ok s) (Ok t) e = refl
call_settled (Ok s) (Err d) e = cc
call_settled (Err c) (Ok t) e = cc
call_settled (Err c) (Err d) e = refl

called_settled : (x : ℕ) (s : Scope) (a b : Result Scope NameOutside) → Called x s a → Called x s b → a ≡ b
called_settled x s (Ok t) (Ok u) c d = ap Ok (c.scope ∙ sym d.scope)
called_settled x s (Err e) (Err f) c d = refl
called_settled x s (Ok t) (Err e) c d = let h : ◌≡◌ {A = Tested} passed (refused name_outside) = c.answer ∙ sym d.answer in cc
called_settled x s (Err e) (Ok t) c d = let h : ◌≡◌ {A = Tested} (refused name_outside) passed = c.answer ∙ sym d.answer in cc

abbrev reply_in : Question → Result Bool NameOutside
reply_in (replied b) = Ok b
reply_in (turned_back_lem r) = Err (record {})

back : (r : Result Bool NameOutside) → reply_in (question_of r) ≡ r
back (Ok b) = refl
back (Err e) = refl

-- At a refusal the scope that the caller has is the call's.
refused_outside : (x : ℕ) → ◌≡◌ {A = Tested} (refused name_outside) (named x) → is_name x ≡ false
refused_outside x e = go (is_name x) refl
  where
    go : (a : Bool) → is_name x ≡ a → is_name x ≡ false
    go false p = p
    go true p = let h : ◌≡◌ {A = Tested} (refused name_outside) passed = e ∙ simp p in cc

module _ (s : Scope) (x : ℕ) where
  pub bound_or_kept : {r : Result Scope NameOutside} → Called x (bind_variable s x) r → result_unwrap_or r s ≡ bind_variable s x
  bound_or_kept {r = Ok t} c = c.scope
  bound_or_kept {r = Err e} c = sym ((bind_promise s x).changed.outside (refused_outside x c.answer))

  pub added_or_kept : {r : Result Scope NameOutside} → Called x (add_unbound_variable s x) r → result_unwrap_or r s ≡ add_unbound_variable s x
  added_or_kept {r = Ok t} c = c.scope
  added_or_kept {r = Err e} c = sym ((add_promise s x).changed.outside (refused_outside x c.answer))

-- what each answer to a question says
module _ (x : ℕ) (u : Bool) where
  pub says_reply : {b : Bool} → ◌≡◌ {A = Question} (replied b) (asked x u) → (is_name x ≡ true) × (b ≡ u)
  says_reply {b} e = go (is_name x) refl
    where
      go : (a : Bool) → is_name x ≡ a → (is_name x ≡ true) × (b ≡ u)
      go true p = let h : ◌≡◌ {A = Question} (replied b) (replied u) = e ∙ simp p in (p, cc)
      go false p = let h : ◌≡◌ {A = Question} (replied b) (turned_back_lem name_outside) = e ∙ simp p in (cc, cc)

  pub says_outside : ◌≡◌ {A = Question} (turned_back_lem name_outside) (asked x u) → is_name x ≡ false
  says_outside e = go (is_name x) refl
    where
      go : (a : Bool) → is_name x ≡ a → is_name x ≡ false
      go false p = p
      go true p = let h : ◌≡◌ {A = Question} (turned_back_lem name_outside) (replied u) = e ∙ simp p in cc

  -- A number that is no name's counts as "no".
  pub reply_or_no : (r : Result Bool NameOutside) → question_of r ≡ asked x u → result_unwrap_or r false ≡ (is_name x && u)
  reply_or_no (Ok b) e = let y = says_reply e in simp y.0 y.1
  reply_or_no (Err o) e = simp (says_outside e)

pub answer_laws : AnswerLaws
answer_laws = record { calls = call_settled; settled = called_settled; questions = λ a b e. sym (back a) ∙ (ap reply_in e ∙ back b) }
