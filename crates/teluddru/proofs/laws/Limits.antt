-- More names than the limit are refused, whether or not all of them are copied.
use Prim.Native.Nat.{ℕ, ◌/◌, ◌<◌}
use mathlib.Core.Path.{◌≡◌, refl, sym, subst}
use mathlib.Core.Bool.{Bool, true, false, ◌&&◌, false≢true}
use mathlib.Core.List.{List}
use native.Mathlib.Omega.{arith}
use lib.Dec.{leb}
use lib.ListN.{length, take, length-take}
use lib.Seq.{take_all}
use borrow.Author.Tests.{lt-leb, leb-true, leb-false}
use Rattle.base.specs.Refusal.{refused, over_limit}
use Rattle.scope.specs.declared.Scope.{Scope}
use Rattle.table.specs.Tables.{Tables, node_count, number_count, name_count}
use Rattle.table.specs.Rules.{within_limits}
use Rattle.table.specs.Check.{checked}
use Rattle.teluddru.specs.declared.Name.{Name}
use Rattle.teluddru.specs.declared.records.NameWords.{NameWords}
use Rattle.teluddru.specs.Records.{name_words}
use Rattle.teluddru.specs.code.Copying.{held, Copied}
use Rattle.teluddru.proofs.laws.Copying.{words_length}

fails_fourth : (a b c d e : Bool) → d ≡ false → (a && (b && (c && (d && e)))) ≡ false
fails_fourth false b c d e h = refl
fails_fourth true false c d e h = refl
fails_fourth true true false d e h = refl
fails_fourth true true true true e h = absurd (false≢true (sym h))
fails_fourth true true true false e h = refl

outside : (T : Tables) → 128 < name_count T → within_limits T ≡ false
unfolding within_limits
outside T l =
    fails_fourth (leb (node_count T) 512) (leb (length T.children) 512) (leb (number_count T) 256) (leb (name_count T) 128)
    (leb (length T.strings) 8192 && leb (length T.text) 16384) (lt-leb (name_count T) 128 l)

pub over_limit_lem : (T : Tables) (s : Scope) → 128 < name_count T → checked T s ≡ refused over_limit
unfolding checked
over_limit_lem T s l = let e = outside T l in simp e

-- Where P holds of all names over the limit or of none, it holds of all records' names if it holds of the copied ones.
module _ (P : List ℕ → Type 0) (refused : (names names' : List ℕ) → 128 < length names / 2 → 128 < length names' / 2 → P names → P names') where
  by_size : (ns : List Name) (b : Bool) → leb (length ns) 129 ≡ b → P (name_words (take 129 ns)) → P (name_words ns)
  by_size ns true e p = subst (λ (l : List Name). P (name_words l)) (take_all 129 ns (leb-true (length ns) 129 e)) p
  by_size ns false e p =
      let more = leb-false (length ns) 129 e in
      let t = length-take 129 ns in
      let few = words_length (take 129 ns) in
      let all = words_length ns in
      refused (name_words (take 129 ns)) (name_words ns) (omega (arith, more, t, few)) (omega (arith, more, all)) p

  pub as_all : (ns : List Name) (names : NameWords) → Copied ns names → P (held names) → P (name_words ns)
  as_all ns names c p = by_size ns (leb (length ns) 129) refl (subst P c.same p)
