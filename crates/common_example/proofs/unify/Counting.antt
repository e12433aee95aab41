-- How many of finitely many places pass a test.
use Prim.Native.Nat.{◌+◌, ◌≤◌}
use mathlib.Core.Bool.{Bool, true, false}
use mathlib.Core.List.{List, [], ◌∷◌}
use mathlib.Core.Logic.{◌⊎◌, inl, inr, ⊎_elim}
use mathlib.Core.Path.{◌≡◌, refl}
use native.Mathlib.Omega.{arith}
use lib.Dec.{T}
use lib.ListN.{length}
use Rattle.literal.specs.Literal.{Literal}
use Rattle.common_example.specs.Unify.{one_if, count_where, Keyed, no_key, keyed_by, Head, free, leaf, items, keyed, Pairs, no_pair_lem, pair}
use Rattle.value.proofs.Keys.{true_is}

one_most : (b : Bool) → one_if b ≤ 1
one_most true = omega arith
one_most false = omega arith

one_less : (a b : Bool) → (T a → T b) → one_if a ≤ one_if b
one_less true true f = omega arith
one_less true false f = absurd (f tt)
one_less false true f = omega arith
one_less false false f = omega arith

module _ {P : Type 0} where
  abbrev pub Among : P → List P → Type 0
  Among y [] = ⊥
  Among y (p ∷ ps) = (y ≡ p) ⊎ Among y ps

  pub count_most : (f : P → Bool) (ps : List P) → count_where f ps ≤ length ps
  unfolding count_where
  count_most f [] = omega arith
  count_most f (p ∷ ps) = omega (arith, one_most (f p), count_most f ps)

  pub count_mono : (f h : P → Bool) (ps : List P) → ((p : P) → T (f p) → T (h p)) → count_where f ps ≤ count_where h ps
  unfolding count_where
  count_mono f h [] m = omega arith
  count_mono f h (p ∷ ps) m = omega (arith, one_less (f p) (h p) (m p), count_mono f h ps m)

  -- the tests tell the same of each, or the second counts more
  pub same_or_more : (f h : P → Bool) (ps : List P) → ((p : P) → T (f p) → T (h p)) → ((p : P) → Among p ps → T (h p) → T (f p)) ⊎ (count_where f ps + 1 ≤ count_where h ps)
  unfolding count_where
  same_or_more f h [] m = inl (λ p a. absurd a)
  same_or_more f h (q ∷ ps) m = go (f q) refl (h q) refl (same_or_more f h ps m)
    where
      All : List P → Type 0
      All qs = (p : P) → Among p qs → T (h p) → T (f p)

      onto : (T (h q) → T (f q)) → All ps → All (q ∷ ps)
      onto here rest p a = ⊎_elim (λ e. rw e here) (λ a'. rest p a') a

      go : (a : Bool) → f q ≡ a → (b : Bool) → h q ≡ b → All ps ⊎ (count_where f ps + 1 ≤ count_where h ps) → All (q ∷ ps) ⊎ ((one_if (f q) + count_where f ps) + 1 ≤ one_if (h q) + count_where h ps)
      go true e true e' (inl s) = inl (onto (λ t. true_is e) s)
      go true e true e' (inr s) = let x = one_less (f q) (h q) (m q) in inr (omega arith)
      go true e false e' s = absurd (let t = m q (true_is e) in rw e' at t)
      go false e true e' s = let x = count_mono f h ps m in inr (rw (e, e') (omega arith))
      go false e false e' (inl s) = inl (onto (λ t. absurd (rw e' at t)) s)
      go false e false e' (inr s) = inr (rw (e, e') (omega arith))

  -- one more, at y
  pub count_less : (f h : P → Bool) (ps : List P) (y : P) → ((p : P) → T (f p) → T (h p)) → Among y ps → T (h y) → (T (f y) → ⊥) → count_where f ps + 1 ≤ count_where h ps
  count_less f h ps y m a t n = ⊎_elim (λ s. absurd (n (s y a t))) (λ s. s) (same_or_more f h ps m)

-- of each field
module _ {P : Type 0} (Q : Literal → P → Type 0) where
  abbrev pub AllKeyed : Keyed P → Type 0
  AllKeyed no_key = Unit {0}
  AllKeyed (keyed_by k p fs) = Q k p × AllKeyed fs

-- places of lists, heads and pairs
module _ {P : Type 0} (all : List P) where
  abbrev pub AllAmong : List P → Type 0
  AllAmong [] = Unit {0}
  AllAmong (p ∷ ps) = Among p all × AllAmong ps

  abbrev pub FieldsAmong : Keyed P → Type 0
  FieldsAmong = AllKeyed (λ k p. Among p all)

  abbrev pub HeadAmong : Head P → Type 0
  HeadAmong free = Unit {0}
  HeadAmong (leaf l) = Unit {0}
  HeadAmong (items ps) = AllAmong ps
  HeadAmong (keyed fs) = FieldsAmong fs

  abbrev pub PairsAmong : Pairs P → Type 0
  PairsAmong no_pair_lem = Unit {0}
  PairsAmong (pair a b w) = Among a all × Among b all × PairsAmong w
