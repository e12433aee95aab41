-- `_` is no name of a pattern, so a name of a pattern is known or unbound.
use Prim.Native.Nat.{ℕ}
use mathlib.Core.Path.{◌≡◌, refl, ap, ◌∙◌, fun_ext}
use mathlib.Core.Bool.{Bool, true, false, ◌&&◌, not}
use lib.Dec.{T as True}
use Rattle.scope.specs.declared.Scope.{Scope}
use Rattle.scope.specs.declared.ScopingMode.{ScopingMode}
use Rattle.scope.specs.Scope.{is_underscore, is_unbound, known}
use Rattle.base.specs.Refusal.{passed}
use Rattle.table.specs.Tables.{Tables, first_word_of}
use Rattle.table.specs.Decode.{expr}
use Rattle.table.specs.Check.{checked}
use Rattle.table.specs.code.Sound.{Node, WellFormed}
use Rattle.table.proofs.trees.Facts.{sound_table, no_underscore}
use Rattle.planner.specs.Simple.{mentions}
use Rattle.planner.proofs.laws.Binders.{names_all}
use Rattle.value.proofs.Keys.{true_is}
use Rattle.report.proofs.Meeting.{mentioned}
use Rattle.run.specs.Operations.{planned_name}
use Rattle.run.specs.code.Post.{to_bind}

module _ (T : Tables) (s : Scope) (mode : ScopingMode) (sound : checked T s ≡ passed) (n : ℕ) (v : Node T n) where
  table : WellFormed T
  table = (sound_table T s sound).well_formed_lem

  pub known_is : (x : ℕ) → True (mentions x (expr T n)) → known s mode x ≡ not (is_unbound s mode x)
  unfolding known
  known_is x t =
      let names = names_all T table (λ m y. is_underscore s y ≡ false) (λ m z k h. no_underscore T s sound (first_word_of T.nodes m) (table.named m z k).low h) n v in
      let e = mentioned (λ y. is_underscore s y ≡ false) (expr T n) names x t in
      ap (λ (b : Bool). not b && not (is_unbound s mode x)) e

  pub planned_is : planned_name (known s mode) (expr T n) ≡ to_bind (is_unbound s mode) (expr T n)
  planned_is = fun_ext (λ x. go x (mentions x (expr T n)) refl)
    where
      double : (b : Bool) → not (not b) ≡ b
      double true = refl
      double false = refl

      go : (x : ℕ) (b : Bool) → mentions x (expr T n) ≡ b → (b && not (known s mode x)) ≡ (b && is_unbound s mode x)
      go x true p = ap not (known_is x (true_is p)) ∙ double (is_unbound s mode x)
      go x false p = refl
