-- The literals that the arrays name are copied from the lowest node of an equal literal.
use Prim.Native.Nat.{ℕ, zero, suc, ◌+◌, ◌≤◌}
use mathlib.Core.Bool.{true}
use mathlib.Core.List.{List}
use mathlib.Core.Option.{Option, none, some}
use mathlib.Core.Path.{◌≡◌, refl, ap, sym, ◌∙◌}
use native.Mathlib.Omega.{arith}
use borrow.Author.Tests.{eqb-true, leb-true}
use lib.Dec.{eqb, leb}
use Rattle.base.specs.Refusal as Refusal
use Rattle.literal.specs.Literal.{Literal}
use Rattle.scope.specs.declared.Scope.{Scope}
use Rattle.table.specs.Tables.{Tables, node_count}
use Rattle.table.specs.Decode.{literal_at}
use Rattle.table.specs.Check.{checked}
use Rattle.table.specs.code.Sound.{Node}
use Rattle.table.proofs.tests.Bools.{and_true}
use Rattle.common_example.specs.Operations.{PatternSide, node_like}
use Rattle.common_example.specs.code.arrays.Likes.{like_from, like_in}
use Rattle.common_example.specs.code.arrays.NodePlaces.{HeldBy}
use Rattle.common_example.specs.code.Writing.{Copied}
use Rattle.common_example.specs.code.arrays.Unifying.{GraphAsks, GraphMade}
use Rattle.common_example.proofs.loops.graph.LikeLoops.{node_or, like_is}
use Rattle.common_example.proofs.written.Words.{copied_from}
use Rattle.common_example.proofs.arrays.LikeLaws.{literal_or, own_like}
use Rattle.common_example.proofs.arrays.Parts.{literal_in}
use Rattle.common_example.proofs.arrays.Sound.{arrays_told}
use Rattle.common_example.proofs.arrays.Unifying.{by_side, prepared}

none_like : (literals : ℕ → Option Literal) (n k : ℕ) → like_from literals none n k ≡ 0
unfolding like_from
none_like literals n zero = refl
none_like literals n (suc k) = none_like literals (n + 1) k

or_some : (o : Option ℕ) (a : ℕ) → 1 ≤ a → node_or o ≡ a → o ≡ some a
or_some none a l e = absurd (omega (arith, l, e))
or_some (some b) a l e = ap some e

module _ (T : Tables) where
  own_lowest : (a : ℕ) → own_like (literal_at T) (node_count T) a ≡ true → (1 ≤ a) × (node_like T (literal_in T a) 1 (node_count T) ≡ some a)
  own_lowest a e =
      let h = and_true (leb 1 a) (eqb (like_in (literal_at T) (node_count T) a) a) e in
      let l = leb-true 1 a h.0 in
      (l, go (literal_at T a) l (eqb-true (like_in (literal_at T) (node_count T) a) a h.1))
    where
      go : (o : Option Literal) → 1 ≤ a → like_from (literal_at T) o 1 (node_count T) ≡ a → node_like T (literal_or o) 1 (node_count T) ≡ some a
      go none l q = let z = none_like (literal_at T) 1 (node_count T) in absurd (omega (arith, l, q, z))
      go (some m) l q = or_some (node_like T m 1 (node_count T)) a l (sym (like_is T m 1 (node_count T)) ∙ q)

  module _ {held₁ held₂ : List ℕ} (asks : GraphAsks T held₁ held₂) (s₁ s₂ : PatternSide) (by₁ : HeldBy T s₁ held₁) (by₂ : HeldBy T s₂ held₂)
      {root₁ root₂ : ℕ} (v₁ : Node T root₁) (v₂ : Node T root₂) {heads links : List ℕ} (g : GraphMade T held₁ held₂ heads links) (s : Scope) (sound : checked T s ≡ Refusal.passed) where
    pub graph_copied : Copied T (literal_in T) heads links
    unfolding arrays_told
    graph_copied =
        let h = g.head_words in
        let l = g.made.words in
        rw (h, l) (copied_from T s sound (literal_in T) _ _ (arrays_told T (by_side s₁ s₂) (by_side held₁ held₂) g.made.ordered (prepared asks s₁ s₂ by₁ by₂ v₁ v₂ g)) own_lowest)
