-- What demand 3 says of the pairs of two simple patterns, as trees and as entries.
use Rattle.std.specs.Prelude.{ℕ, ◌≡◌, ◌⊎◌, Bool, true, false, List, [], ◌∷◌, ◌++◌}
use Rattle.scope.specs.declared.Scope.{Scope}
use Rattle.scope.specs.declared.ScopingMode.TheVariants.{RespectParent}
use Rattle.scope.specs.Scope.{is_unbound}
use Rattle.table.specs.Tables.{Tables, first_word_of}
use Rattle.table.specs.Expr.{Expr}
use Rattle.table.specs.Decode.{expr}
use Rattle.base.specs.Lists.{elem, no_repeat}
use Rattle.planner.specs.Plan.{tracked_vars}
use Rattle.planner.specs.Layout.{Entry, bound_names}
use Rattle.planner.specs.Simple.{mentions}
use Rattle.assignment.specs.Pairs.{Pair, paired, flatten}

-- Each name at or below an expression, `_` aside, is known or one of `bound`.
abbrev pub Settled : (ℕ → Bool) → List ℕ → Expr → Type 0
Settled unbound bound e = (x : ℕ) → mentions x e ≡ true → (unbound x ≡ false) ⊎ (elem x bound ≡ true)

-- Of the pairs as trees, whatever the scope says

unfoldable pub bound_by : List Pair → List ℕ
bound_by [] = []
bound_by (p ∷ ps) = tracked_vars p.pattern ++ bound_by ps

pub record PairsPromise (unbound : ℕ → Bool) (left right : Expr) : Type 0 where
  pub in_order : (ps : List Pair) (names : List ℕ) → flatten unbound right left [] ≡ paired ps names
      → (earlier later : List Pair) (p : Pair) → ps ≡ earlier ++ (p ∷ later) → Settled unbound (bound_by earlier) p.value
  pub once : (ps : List Pair) (names : List ℕ) → flatten unbound right left [] ≡ paired ps names → no_repeat (bound_by ps) ≡ true

-- Of entries. A pair is an entry of kind 7, its value side the expression of its node. No pair stands below another, so the bind entries before a pair's are those of earlier pairs.
pub record EntriesPromise (T : Tables) (s : Scope) (es : List Entry) : Type 0 where
  pub in_order : (earlier later : List Entry) (e : Entry) → es ≡ earlier ++ (e ∷ later) → e.kind ≡ 7
      → Settled (is_unbound s RespectParent) (bound_names (first_word_of T.nodes) earlier) (expr T e.node)
  pub once : no_repeat (bound_names (first_word_of T.nodes) es) ≡ true
