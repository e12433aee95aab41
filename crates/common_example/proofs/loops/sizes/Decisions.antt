-- From the sizes to the verdict.
use Prim.Native.Nat.{ℕ, ◌-◌, ◌/◌, ◌≤◌, ◌<◌, min}
use mathlib.Core.Bool.{Bool, true, false, ◌&&◌, false≢true}
use mathlib.Core.List.{List}
use mathlib.Core.Option.{Option, none, some}
use mathlib.Core.Path.{◌≡◌, refl, ap, sym, ◌∙◌}
use native.Mathlib.Omega.{arith}
use borrow.Author.Tests.{le-leb, leb-true}
use lib.Dec.{leb}
use lib.ListN.{length, get_or}
use Rattle.literal.specs.Literal.{Literal}
use Rattle.common_example.specs.declared.deciding.Verdict.{Verdict}
use Rattle.common_example.specs.declared.deciding.Verdict.TheVariants.{Fits, TooLarge, NoValue}
use Rattle.common_example.specs.Overlap.{Template, example, size, depthᵛ}
use Rattle.common_example.specs.Operations.{fits_in, child_entries}
use Rattle.common_example.specs.code.Graph.{head_at}
use Rattle.common_example.specs.code.Classes.{class_in}
use Rattle.common_example.specs.code.Sizes.{sizes_after, SettleAsks, Settled}
use Rattle.common_example.specs.code.Deciding.{verdict, built_of, DeepAsks, DeepDecided, DecideAsks, Decided, DecidedIn}
use Rattle.common_example.proofs.loops.sizes.LevelSizes.{built_size, level_sizes}
use Rattle.common_example.proofs.written.Entries.{size_one}
use Rattle.common_example.proofs.written.Sizes.{entries_size}
use Rattle.common_example.proofs.unify.Building.{build_upto}
use Rattle.common_example.proofs.unify.Depths.{built_shallow, built_fewer}

-- 1. space
module _ (t : Template ℕ) (nodes children : List ℕ) where
  fails : fits_in (example t) nodes children ≡ false → TooLarge ≡ verdict (some t) nodes children
  fails e = rw e

  none_of : (a b c d : Bool) → (a ≡ true → b ≡ true → c ≡ true → d ≡ true → ⊥) → (a && (b && (c && d))) ≡ false
  none_of false b c d h = refl
  none_of true false c d h = refl
  none_of true true false d h = refl
  none_of true true true false h = refl
  none_of true true true true h = absurd (h refl refl refl refl)

  too_large : (size (example t) ≤ length nodes / 5 → child_entries (example t) ≤ length children → size (example t) ≤ 512 → depthᵛ (example t) ≤ 32 → ⊥) → TooLarge ≡ verdict (some t) nodes children
  too_large h = fails (none_of (leb (size (example t)) (length nodes / 5)) (leb (child_entries (example t)) (length children)) (leb (size (example t)) 512) (leb (depthᵛ (example t)) 32)
      (λ a b c d. h (leb-true (size (example t)) (length nodes / 5) a) (leb-true (child_entries (example t)) (length children) b) (leb-true (size (example t)) 512 c) (leb-true (depthᵛ (example t)) 32 d)))

  it_fits : size (example t) ≤ length nodes / 5 → child_entries (example t) ≤ length children → size (example t) ≤ 512 → depthᵛ (example t) ≤ 32 → Fits ≡ verdict (some t) nodes children
  it_fits a b c d =
      let e₁ = le-leb (size (example t)) (length nodes / 5) a in
      let e₂ = le-leb (child_entries (example t)) (length children) b in
      let e₃ = le-leb (size (example t)) 512 c in
      let e₄ = le-leb (depthᵛ (example t)) 32 d in
      rw (e₁, e₂, e₃, e₄)

-- 2. a value deeper than 32
built_none : (o : Option (Template ℕ)) → built_size o ≡ 0 → o ≡ none
built_none none e = refl
built_none (some t) e = let h = size_one (example t) in absurd (omega (arith, h, e))

module _ {heads links classes : List ℕ} {p : ℕ} (asks : DeepAsks heads links classes p) where
  pub deep_settles : SettleAsks heads links classes
  deep_settles = record { linked = asks.linked; ok = asks.ok }

  pub deep_inside : p < 2052
  deep_inside = asks.inside

  size_is : (literal_of : ℕ → Literal) (levels : ℕ) → get_or (sizes_after heads links classes levels) p 0 ≡ built_size (built_of literal_of heads links classes levels p)
  size_is literal_of levels = level_sizes heads links classes asks.linked asks.ok literal_of levels p asks.inside

  module _ {sizes : List ℕ} (s : Settled heads links classes 2048 sizes) {size : ℕ} (is : size ≡ get_or sizes p 0) where
    deep_size : (literal_of : ℕ → Literal) → size ≡ built_size (built_of literal_of heads links classes 2048 p)
    deep_size literal_of = is ∙ (ap (λ (l : List ℕ). get_or l p 0) s.sizes ∙ size_is literal_of 2048)

    pub deep_none : size ≡ 0 → DeepDecided heads links classes p NoValue
    deep_none z = record { is = λ literal_of none₃₂ nodes children. let e = built_none (built_of literal_of heads links classes 2048 p) (sym (deep_size literal_of) ∙ z) in rw e refl; not_fits = λ x. false≢true (cc) }

    pub deep_large : (size ≡ 0 → ⊥) → DeepDecided heads links classes p TooLarge
    deep_large n = record { is = λ literal_of none₃₂ nodes children. go literal_of none₃₂ nodes children (built_of literal_of heads links classes 2048 p) refl (deep_size literal_of); not_fits = λ x. false≢true (cc) }
      where
        go : (literal_of : ℕ → Literal) → built_of literal_of heads links classes 32 p ≡ none → (nodes children : List ℕ) (o : Option (Template ℕ)) → built_of literal_of heads links classes 2048 p ≡ o → size ≡ built_size o → TooLarge ≡ verdict o nodes children
        go literal_of q nodes children none e z = absurd (n z)
        go literal_of q nodes children (some t) e z = too_large t nodes children (λ a b c d. different (sym q ∙ built_fewer (head_at literal_of heads links) (class_in classes) 2048 32 p t e d))
          where
            different : none ≡ some t → ⊥
            different x = false≢true (cc)

-- 3. the rest
module _ {heads links classes sizes : List ℕ} {p : ℕ} (asks : DecideAsks heads links classes sizes p) where
  pub decide_inside : p < 2052
  decide_inside = asks.deep.inside

  pub decide_deep : DeepAsks heads links classes p
  decide_deep = asks.deep

  module _ {size' : ℕ} (is : size' ≡ get_or sizes p 0) where
    now_size : (literal_of : ℕ → Literal) → size' ≡ built_size (built_of literal_of heads links classes 32 p)
    now_size literal_of = is ∙ (ap (λ (l : List ℕ). get_or l p 0) asks.settled ∙ size_is asks.deep literal_of 32)

    pub decided_deep : (words entries : ℕ) (later : List ℕ) → size' ≡ 0 → {r : Verdict} → DeepDecided heads links classes p r → DecidedIn heads links classes sizes p words entries later r
    decided_deep words entries later z d = record {
      decided = record { is = λ literal_of nodes children a b. d.is literal_of (built_none (built_of literal_of heads links classes 32 p) (sym (now_size literal_of) ∙ z)) nodes children };
      kept = λ e. absurd (d.not_fits e);
    }

    module _ (n : size' ≡ 0 → ⊥) {words entries : ℕ} (r : Verdict)
        (by : (t : Template ℕ) (nodes children : List ℕ) → length nodes ≡ words → length children ≡ entries → size' ≡ min 513 (size (example t)) → depthᵛ (example t) ≤ 32 → r ≡ verdict (some t) nodes children) where
      decided : Decided heads links classes p words entries r
      decided = record { is = λ literal_of nodes children a b. go literal_of nodes children a b (built_of literal_of heads links classes 32 p) refl (now_size literal_of) }
        where
          go : (literal_of : ℕ → Literal) (nodes children : List ℕ) → length nodes ≡ words → length children ≡ entries → (o : Option (Template ℕ)) → built_of literal_of heads links classes 32 p ≡ o → size' ≡ built_size o
              → r ≡ verdict (built_of literal_of heads links classes 2048 p) nodes children
          go literal_of nodes children a b none e z = absurd (n z)
          go literal_of nodes children a b (some t) e z =
              let m = build_upto (head_at literal_of heads links) (class_in classes) 32 2048 (omega arith) p t e in
              by t nodes children a b z (built_shallow (head_at literal_of heads links) (class_in classes) 32 p t e) ∙ ap (λ (o : Option (Template ℕ)). verdict o nodes children) (sym m)

    module _ (n : size' ≡ 0 → ⊥) (words entries : ℕ) where
      pub decided_size : 512 < size' → DecidedIn heads links classes sizes p words entries sizes TooLarge
      decided_size h = record { decided = decided n TooLarge (λ t nodes children a b z d. too_large t nodes children (λ i j k l. omega (arith, h, z, k))); kept = λ e. refl }

      pub decided_words : words / 5 < size' → DecidedIn heads links classes sizes p words entries sizes TooLarge
      decided_words h = record { decided = decided n TooLarge (λ t nodes children a b z d. too_large t nodes children (λ i j k l. omega (arith, h, z, a, i))); kept = λ e. refl }

      pub decided_entries : entries < size' - 1 → DecidedIn heads links classes sizes p words entries sizes TooLarge
      decided_entries h = record { decided = decided n TooLarge (λ t nodes children a b z d. too_large t nodes children (λ i j k l. let e = entries_size (example t) in omega (arith, h, z, b, j, e))); kept = λ e. refl }

      pub decided_fits : size' ≤ 512 → size' ≤ words / 5 → size' - 1 ≤ entries → DecidedIn heads links classes sizes p words entries sizes Fits
      decided_fits x y w = record { decided = decided n Fits (λ t nodes children a b z d. let e = entries_size (example t) in it_fits t nodes children (omega (arith, x, y, z, a)) (omega (arith, x, w, z, b, e)) (omega (arith, x, z)) d); kept = λ e. refl }

      pub decided_one : 1 ≤ size'
      decided_one = omega (arith, n)
