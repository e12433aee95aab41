-- A scope as bit words: what it says of a name, and what each call makes of it.
use Rattle.std.specs.Prelude.{ℕ, ◌≡◌, Bool, cond, not, ◌&&◌, eqb, Result, Ok, Err, IfOk}
use Rattle.base.specs.Refusal.{Refusal, name_outside, Tested, passed, refused, require, require_or}
use Rattle.scope.specs.declared.Scope.{Scope}
use Rattle.scope.specs.declared.ScopingMode.{ScopingMode}
use Rattle.scope.specs.declared.NameOutside.{NameOutside}
unfoldable pub use Rattle.scope.specs.Names.{is_name}
use Rattle.scope.specs.Names.{contains, with_name, without_name, no_names, size_of}
use Rattle.scope.specs.Says.{Says, unbound_under, bound_here}

-- what it says of a name: nothing of any other number
unfoldable pub says : Scope → ℕ → Says
says s x =
    record {
      bound = contains s.bound x;
      here = contains s.here x;
      unbound = contains s.unbound x;
      local = contains s.local x;
      global = contains s.global x;
    }

-- the number of `_`, which may be 0 for none
unfoldable pub is_underscore : Scope → ℕ → Bool
is_underscore s x = eqb x s.underscore

unfoldable pub is_unbound : Scope → ScopingMode → ℕ → Bool
is_unbound s mode x = unbound_under (is_underscore s x) s.scheduler mode (says s x)

-- Document 01's "known": not unbound under the scoping at work; `_` is not counted.
unfoldable pub known : Scope → ScopingMode → ℕ → Bool
known s mode x = not (is_underscore s x) && not (is_unbound s mode x)

-- Is the name bound in this very scope?
unfoldable pub same_scope : Scope → ℕ → Bool
same_scope s x = bound_here (is_underscore s x) (says s x)

-- how many of the names 1 to 128 are bound
unfoldable pub bound_count : Scope → ℕ
bound_count s = size_of s.bound

-- a name other than `_`
unfoldable pub changeable : Scope → ℕ → Bool
changeable s x = is_name x && not (is_underscore s x)

-- sets 1 and 2, clears 4 and 8
abbrev pub bound_at : Scope → ℕ → Scope
bound_at s x =
    record {
      bound = with_name s.bound x;
      here = with_name s.here x;
      unbound = without_name s.unbound x;
      local = without_name s.local x;
      global = s.global;
      underscore = s.underscore;
      scheduler = s.scheduler;
    }

-- sets 4, clears 1, 2 and 8
abbrev pub unbound_at : Scope → ℕ → Scope
unbound_at s x =
    record {
      bound = without_name s.bound x;
      here = without_name s.here x;
      unbound = with_name s.unbound x;
      local = without_name s.local x;
      global = s.global;
      underscore = s.underscore;
      scheduler = s.scheduler;
    }

-- neither call touches `_` or 16
unfoldable pub bind_variable : Scope → ℕ → Scope
bind_variable s x = cond (changeable s x) (bound_at s x) s

unfoldable pub add_unbound_variable : Scope → ℕ → Scope
add_unbound_variable s x = cond (changeable s x) (unbound_at s x) s

-- clears 2
unfoldable pub child_of : Scope → Scope
child_of s =
    record {
      bound = s.bound;
      here = no_names;
      unbound = s.unbound;
      local = s.local;
      global = s.global;
      underscore = s.underscore;
      scheduler = s.scheduler;
    }

unfoldable pub new_scope : ℕ → Bool → Scope
new_scope underscore scheduler =
    record {
      bound = no_names;
      here = no_names;
      unbound = no_names;
      local = no_names;
      global = no_names;
      underscore = underscore;
      scheduler = scheduler;
    }

-- A name outside 1 to 128 is turned back, and the caller's scope stays as it was.
abbrev pub named : ℕ → Tested
named x = require (is_name x) name_outside passed

-- what a call answers
abbrev pub call_of : Result Scope NameOutside → Tested
call_of (Ok s) = passed
call_of (Err outside) = refused name_outside

pub record Called (x : ℕ) (s : Scope) (r : Result Scope NameOutside) : Type 0 where
  pub answer : call_of r ≡ named x
  pub scope : IfOk r (λ t. t ≡ s)

-- what a question comes to
pub data Question : Type 0 where
  replied : Bool → Question
  turned_back_lem : Refusal → Question

abbrev pub asked : ℕ → Bool → Question
asked x b = require_or turned_back_lem (is_name x) name_outside (replied b)

-- what a question answers
abbrev pub question_of : Result Bool NameOutside → Question
question_of (Ok b) = replied b
question_of (Err outside) = turned_back_lem name_outside
