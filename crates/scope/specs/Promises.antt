-- What each call on a scope promises, with no word of its bits. The module Laws of proofs/ proves each.
use Rattle.std.specs.Prelude.{ℕ, ◌≡◌, Bool, true, false, not, Result}
use Rattle.std.specs.Result.{result_err}
use Rattle.scope.specs.declared.Scope.{Scope}
use Rattle.scope.specs.declared.ScopingMode.{ScopingMode}
use Rattle.scope.specs.declared.ScopingMode.TheVariants.{RespectParent, AllowShadowing}
use Rattle.scope.specs.declared.NameOutside.{NameOutside}
use Rattle.scope.specs.Names.{is_name}
use Rattle.scope.specs.Says.{Says, nothing, bind, add_unbound, in_child}
use Rattle.scope.specs.Scope.{says, is_underscore, is_unbound, same_scope, bound_count, bind_variable, add_unbound_variable, child_of, new_scope, call_of, Called, question_of}

-- `t` has the `_` and the scheduler of `s`.
pub record SameFrame (s t : Scope) : Type 0 where
  pub underscore : t.underscore ≡ s.underscore
  pub scheduler : t.scheduler ≡ s.scheduler

-- `t` says of every name what `s` says, but of the name x what `change` makes of it: and nothing differs where x is no name or is `_`.
pub record ChangedAt (change : Says → Says) (s t : Scope) (x : ℕ) : Type 0 where
  pub frame : SameFrame s t
  pub at : is_name x ≡ true → is_underscore s x ≡ false → says t x ≡ change (says s x)
  pub others : (y : ℕ) → (y ≡ x → ⊥) → says t y ≡ says s y
  pub outside : is_name x ≡ false → t ≡ s
  pub underscore : is_underscore s x ≡ true → t ≡ s

-- AllowShadowing calls every name but `_` unbound.
pub record BindPromise (s : Scope) (x : ℕ) : Type 0 where
  pub changed : ChangedAt bind s (bind_variable s x) x
  pub respects : is_name x ≡ true → is_underscore s x ≡ false → is_unbound (bind_variable s x) RespectParent x ≡ false
  pub shadows : is_name x ≡ true → is_underscore s x ≡ false → is_unbound (bind_variable s x) AllowShadowing x ≡ true
  pub same_scope_lem : is_name x ≡ true → is_underscore s x ≡ false → same_scope (bind_variable s x) x ≡ true

pub record AddPromise (s : Scope) (x : ℕ) : Type 0 where
  pub changed : ChangedAt add_unbound s (add_unbound_variable s x) x
  pub is_unbound_lem : is_name x ≡ true → is_underscore s x ≡ false → (mode : ScopingMode) → is_unbound (add_unbound_variable s x) mode x ≡ true
  pub same_scope_lem : is_name x ≡ true → is_underscore s x ≡ false → same_scope (add_unbound_variable s x) x ≡ false

pub record ChildPromise (s : Scope) : Type 0 where
  pub frame : SameFrame s (child_of s)
  pub all : (x : ℕ) → says (child_of s) x ≡ in_child (says s x)
  pub is_unbound_lem : (mode : ScopingMode) (x : ℕ) → is_unbound (child_of s) mode x ≡ is_unbound s mode x
  pub same_scope_lem : (x : ℕ) → same_scope (child_of s) x ≡ false
  pub count : bound_count (child_of s) ≡ bound_count s

pub record NewPromise (u : ℕ) (h : Bool) : Type 0 where
  pub underscore : (new_scope u h).underscore ≡ u
  pub scheduler : (new_scope u h).scheduler ≡ h
  pub all : (x : ℕ) → says (new_scope u h) x ≡ nothing
  pub is_unbound_lem : (mode : ScopingMode) (x : ℕ) → is_unbound (new_scope u h) mode x ≡ not (is_underscore (new_scope u h) x)
  pub same_scope_lem : (x : ℕ) → same_scope (new_scope u h) x ≡ false
  pub count : bound_count (new_scope u h) ≡ 0

-- what holds of every scope
pub record ScopePromise (s : Scope) (x : ℕ) : Type 0 where
  pub underscore_known : (mode : ScopingMode) → is_underscore s x ≡ true → is_unbound s mode x ≡ false
  pub underscore_elsewhere : is_underscore s x ≡ true → same_scope s x ≡ false
  pub shadows : is_unbound s AllowShadowing x ≡ not (is_underscore s x)
  pub respects : is_unbound s RespectParent x ≡ true → is_unbound s AllowShadowing x ≡ true

-- Document 01's numbers settle the answers; with what is promised of the scope, all of them.
pub record AnswerLaws : Type 0 where
  pub calls : (a b : Result Scope NameOutside) → call_of a ≡ call_of b → result_err a ≡ result_err b
  pub settled : (x : ℕ) (s : Scope) (a b : Result Scope NameOutside) → Called x s a → Called x s b → a ≡ b
  pub questions : (a b : Result Bool NameOutside) → question_of a ≡ question_of b → a ≡ b
