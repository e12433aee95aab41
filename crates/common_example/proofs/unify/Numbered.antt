-- Unification over the numbers of places, which an array can be indexed by, comes to the same template.
use Prim.Native.Nat.{ℕ, zero, suc, ◌+◌, ◌*◌, ◌/◌, ◌%◌}
use mathlib.Core.Bool.{Bool, true, false, false≢true}
use mathlib.Core.List.{List, ◌∷◌, map}
use mathlib.Core.Option.{Option}
use mathlib.Core.Path.{◌≡◌, refl, ap, ap₂, sym, ◌∙◌}
use native.Mathlib.Omega.{arith}
use borrow.Author.Tests.{eq-eqb, ne_eqb}
use lib.Dec.{eqb}
use Rattle.table.specs.Expr.{Expr}
use Rattle.value.proofs.Keys.{is_true, true_is}
use Rattle.common_example.specs.Unify.{Head, unified}
use Rattle.common_example.specs.code.Classes.{falling}
use Rattle.common_example.specs.Places.{GraphPlace, nodeᵖ, nameᵖ, same_place, graph_places, place_number, place_at, graph_place_of, graph, overlap}
use Rattle.common_example.proofs.patterns.Answers.{place_tells}
use Rattle.common_example.proofs.unify.Renamed.{rename_head, rename_found, unified_renamed}

pub number_back : (p : GraphPlace) → place_at (place_number p) ≡ p
unfolding place_at
number_back (nodeᵖ true n) = let a : (n * 4) % 4 ≡ 0 = omega arith in let b : (n * 4) / 4 ≡ n = omega arith in rw (a, b)
number_back (nodeᵖ false n) = let a : (n * 4 + 1) % 4 ≡ 1 = omega arith in let b : (n * 4 + 1) / 4 ≡ n = omega arith in rw (a, b)
number_back (nameᵖ true n) = let a : (n * 4 + 2) % 4 ≡ 2 = omega arith in let b : (n * 4 + 2) / 4 ≡ n = omega arith in rw (a, b)
number_back (nameᵖ false n) = let a : (n * 4 + 3) % 4 ≡ 3 = omega arith in let b : (n * 4 + 3) / 4 ≡ n = omega arith in rw (a, b)

number_tells : (p q : GraphPlace) → eqb (place_number p) (place_number q) ≡ same_place p q
number_tells p q = go (same_place p q) refl
  where
    go : (b : Bool) → same_place p q ≡ b → eqb (place_number p) (place_number q) ≡ b
    go true e = eq-eqb (place_number p) (place_number q) (ap place_number (place_tells.equal p q (true_is e)))
    go false e = ne_eqb (place_number p) (place_number q) (λ h.
        let r : p ≡ q = sym (number_back p) ∙ (ap place_at h ∙ number_back q) in
        let t : same_place p q ≡ true = is_true (rw r (place_tells.same q)) in
        false≢true (sym e ∙ t))

places_fall : (limit : ℕ) → map place_number (graph_places limit) ≡ falling (limit * 4)
unfolding graph_places falling
places_fall zero = refl
places_fall (suc n) =
    let e : suc n * 4 ≡ suc (suc (suc (suc (n * 4)))) = omega arith in
    let a : suc n * 4 + 3 ≡ suc (suc (suc (n * 4))) + 4 = omega arith in
    let b : suc n * 4 + 2 ≡ suc (suc (n * 4)) + 4 = omega arith in
    let c : suc n * 4 + 1 ≡ suc (n * 4) + 4 = omega arith in
    let d : suc n * 4 ≡ n * 4 + 4 = omega arith in
    cons a (cons b (cons c (cons d (places_fall n)))) ∙ sym (ap falling e)
  where
    cons : {x y : ℕ} {xs ys : List ℕ} → x ≡ y → xs ≡ ys → (x ∷ xs) ≡ (y ∷ ys)
    cons p q = ap₂ (λ (x : ℕ) (xs : List ℕ). x ∷ xs) p q

module _ (tree : ℕ → Expr) (held₁ held₂ : ℕ → Option ℕ) where
  -- the graph of numbers
  abbrev pub number_graph : ℕ → Head ℕ
  number_graph i = rename_head place_number (graph tree held₁ held₂ (place_at i))

  pub overlap_numbered : (limit root₁ root₂ : ℕ)
      → unified eqb number_graph (falling (limit * 4)) (limit * 4) (place_number (graph_place_of held₁ true (tree root₁))) (place_number (graph_place_of held₂ false (tree root₂)))
      ≡ rename_found place_number (overlap tree held₁ held₂ limit root₁ root₂)
  overlap_numbered limit root₁ root₂ =
      ap (λ (ps : List ℕ). unified eqb number_graph ps (limit * 4) (place_number (graph_place_of held₁ true (tree root₁))) (place_number (graph_place_of held₂ false (tree root₂)))) (sym (places_fall limit))
      ∙ unified_renamed place_number same_place eqb number_tells (graph tree held₁ held₂) number_graph (λ p. ap (λ q. rename_head place_number (graph tree held₁ held₂ q)) (number_back p)) (graph_places limit) (limit * 4) (graph_place_of held₁ true (tree root₁)) (graph_place_of held₂ false (tree root₂))
