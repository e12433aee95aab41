-- Lists of differing keys that have the same keys have the same texts, sorted.
use Prim.Native.Nat.{ℕ}
use mathlib.Core.Path.{subst, ◌≡◌, refl, sym, ap, ◌∙◌}
use mathlib.Core.Bool.{Bool, true, false, cond, ◌||◌, not, false≢true}
use mathlib.Core.List.{List, [], ◌∷◌, map}
use lib.Dec.{T, T_not, not_T}
use Rattle.literal.specs.Literal.{Literal}
use Rattle.literal.specs.Order.{Order, less, same, more, opposite, bytes_order, comparison_of}
use Rattle.literal.specs.Text.{key_text}
use Rattle.literal.proofs.Orders.{bytes_order_lem}
use Rattle.table.proofs.tests.Bytes.{equal_same_bytes}
use Rattle.planner.specs.Simple.{same_key, has_key, differing}
use Rattle.checks.specs.Structure.{inserted_by, insert_text, sort_texts, same_texts}
use Rattle.checks.specs.code.Texts.{is_greater}
use Rattle.checks.proofs.TextOrder.{after, after_trans}
use Rattle.value.specs.Value.{within}
use Rattle.value.proofs.Keys.{and_left, and_right, both, or_left, or_right, or_elim, true_is, key→, within→, within←, keep, without, has_without}

-- insertion by one test
insert_by : (t u : List ℕ) (us : List (List ℕ)) → insert_text t (u ∷ us) ≡ cond (after t u) (u ∷ insert_text t us) (t ∷ (u ∷ us))
unfolding insert_text
insert_by t u us = go (bytes_order t u)
  where
    go : (o : Order) → inserted_by o t u us (insert_text t us) ≡ cond (is_greater (comparison_of o)) (u ∷ insert_text t us) (t ∷ (u ∷ us))
    go less = refl
    go same = refl
    go more = refl

-- behind the first text, or before it
insert_behind : (t u : List ℕ) (us : List (List ℕ)) → after t u ≡ true → insert_text t (u ∷ us) ≡ u ∷ insert_text t us
insert_behind t u us a = insert_by t u us ∙ rw a

insert_front : (t u : List ℕ) (us : List (List ℕ)) → after t u ≡ false → insert_text t (u ∷ us) ≡ t ∷ (u ∷ us)
insert_front t u us a = insert_by t u us ∙ rw a

-- no two texts come after each other
after_flip : (t u : List ℕ) → after t u ≡ true → after u t ≡ false
after_flip t u a = go (bytes_order t u) refl a
  where
    go : (o : Order) → bytes_order t u ≡ o → is_greater (comparison_of o) ≡ true → after u t ≡ false
    go less p m = absurd (false≢true m)
    go same p m = absurd (false≢true m)
    go more p m = ap (λ (o : Order). is_greater (comparison_of o)) (bytes_order_lem.antisymmetric t u ∙ ap opposite p)

-- neither comes after the other: they are equal
after_neither : (t u : List ℕ) → after t u ≡ false → after u t ≡ false → t ≡ u
after_neither t u a b = go (bytes_order t u) refl
  where
    go : (o : Order) → bytes_order t u ≡ o → t ≡ u
    go less p = absurd (false≢true (sym b ∙ ap (λ (o : Order). is_greater (comparison_of o)) (bytes_order_lem.antisymmetric t u ∙ ap opposite p)))
    go same p = bytes_order_lem.equal t u p
    go more p = absurd (false≢true (sym a ∙ ap (λ (o : Order). is_greater (comparison_of o)) p))

-- v before u, and t not after v: t before u
after_past : (t u v : List ℕ) → after u v ≡ true → after t v ≡ false → after u t ≡ true
after_past t u v a b = go (after u t) refl
  where
    go : (c : Bool) → after u t ≡ c → after u t ≡ true
    go true p = p
    go false p = absurd (false≢true (sym (after_trans u t v p b) ∙ a))

-- two insertions in either order
pub insert_swap : (t u : List ℕ) (ts : List (List ℕ)) → insert_text t (insert_text u ts) ≡ insert_text u (insert_text t ts)
unfolding insert_text
insert_swap t u [] = go (after t u) refl (after u t) refl
  where
    go : (c : Bool) → after t u ≡ c → (d : Bool) → after u t ≡ d → insert_text t (u ∷ []) ≡ insert_text u (t ∷ [])
    go true p d q = insert_behind t u [] p ∙ sym (insert_front u t [] (after_flip t u p))
    go false p true q = insert_front t u [] p ∙ sym (insert_behind u t [] q)
    go false p false q = let e = after_neither t u p q in rw e
insert_swap t u (v ∷ vs) = go (after t v) refl (after u v) refl (insert_swap t u vs)
  where
    fronts : after t v ≡ false → after u v ≡ false → (c : Bool) → after t u ≡ c → (d : Bool) → after u t ≡ d → insert_text t (u ∷ (v ∷ vs)) ≡ insert_text u (t ∷ (v ∷ vs))
    fronts a b true p d q = insert_behind t u (v ∷ vs) p ∙ (ap (λ (l : List (List ℕ)). u ∷ l) (insert_front t v vs a) ∙ sym (insert_front u t (v ∷ vs) (after_flip t u p)))
    fronts a b false p true q = insert_front t u (v ∷ vs) p ∙ sym (insert_behind u t (v ∷ vs) q ∙ ap (λ (l : List (List ℕ)). t ∷ l) (insert_front u v vs b))
    fronts a b false p false q = let e = after_neither t u p q in subst (λ (x : List ℕ). insert_text x (u ∷ (v ∷ vs)) ≡ insert_text u (x ∷ (v ∷ vs))) (sym e) refl

    go : (c : Bool) → after t v ≡ c → (d : Bool) → after u v ≡ d → insert_text t (insert_text u vs) ≡ insert_text u (insert_text t vs)
        → insert_text t (insert_text u (v ∷ vs)) ≡ insert_text u (insert_text t (v ∷ vs))
    go true p true q h =
        ap (insert_text t) (insert_behind u v vs q) ∙ (insert_behind t v (insert_text u vs) p ∙ (ap (λ (l : List (List ℕ)). v ∷ l) h
        ∙ sym (ap (insert_text u) (insert_behind t v vs p) ∙ insert_behind u v (insert_text t vs) q)))
    go true p false q h =
        ap (insert_text t) (insert_front u v vs q) ∙ (insert_behind t u (v ∷ vs) (after_past u t v p q) ∙ (ap (λ (l : List (List ℕ)). u ∷ l) (insert_behind t v vs p)
        ∙ sym (ap (insert_text u) (insert_behind t v vs p) ∙ insert_front u v (insert_text t vs) q)))
    go false p true q h =
        ap (insert_text t) (insert_behind u v vs q) ∙ (insert_front t v (insert_text u vs) p
        ∙ sym (ap (insert_text u) (insert_front t v vs p) ∙ (insert_behind u t (v ∷ vs) (after_past t u v q p) ∙ ap (λ (l : List (List ℕ)). t ∷ l) (insert_behind u v vs q))))
    go false p false q h =
        ap (insert_text t) (insert_front u v vs q) ∙ (fronts p q (after t u) refl (after u t) refl ∙ sym (ap (insert_text u) (insert_front t v vs p)))

-- the texts of keys, sorted
unfoldable pub texts : List Literal → List (List ℕ)
texts ks = sort_texts (map key_text ks)

-- a key that is taken out may be put back anywhere
texts_without : (k : Literal) (ls : List Literal) → T (has_key k ls) → texts ls ≡ insert_text (key_text k) (texts (without k ls))
unfolding texts sort_texts has_key without
texts_without k [] h = absurd h
texts_without k (l ∷ ls) h = go (same_key k l) refl h (λ h'. texts_without k ls h')
  where
    go : (b : Bool) → same_key k l ≡ b → T (b || has_key k ls) → (T (has_key k ls) → texts ls ≡ insert_text (key_text k) (texts (without k ls)))
        → insert_text (key_text l) (texts ls) ≡ insert_text (key_text k) (texts (keep b l ls (without k ls)))
    go true e t f = let q : k ≡ l = key→ k l (true_is e) in rw q
    go false e t f = ap (insert_text (key_text l)) (f t) ∙ insert_swap (key_text l) (key_text k) (texts (without k ls))

-- a key that is left was there
left_has : (k j : Literal) (ls : List Literal) → T (has_key j (without k ls)) → T (has_key j ls)
unfolding has_key without
left_has k j [] t = t
left_has k j (l ∷ ls) t = go (same_key k l) (λ h. left_has k j ls h) t
  where
    go : (b : Bool) → (T (has_key j (without k ls)) → T (has_key j ls)) → T (has_key j (keep b l ls (without k ls))) → T (same_key j l || has_key j ls)
    go true f h = or_right (same_key j l) (has_key j ls) h
    go false f h = or_elim (same_key j l) (has_key j (without k ls)) h (or_left (same_key j l) (has_key j ls)) (λ h'. or_right (same_key j l) (has_key j ls) (f h'))

-- of differing keys the first is not among the others
pub first_new : (l : Literal) (ls : List Literal) → T (differing (l ∷ ls)) → (T (has_key l ls) → ⊥) × T (differing ls)
unfolding differing
first_new l ls d = (T_not (has_key l ls) (and_left (not (has_key l ls)) (differing ls) d), and_right (not (has_key l ls)) (differing ls) d)

-- what is left differs
without_differs : (k : Literal) (ls : List Literal) → T (differing ls) → T (differing (without k ls))
unfolding differing without
without_differs k [] d = d
without_differs k (l ∷ ls) d = let n = first_new l ls d in go (same_key k l) n.0 n.1 (without_differs k ls n.1)
  where
    go : (b : Bool) → (T (has_key l ls) → ⊥) → T (differing ls) → T (differing (without k ls)) → T (differing (keep b l ls (without k ls)))
    go true n r h = r
    go false n r h = both (not (has_key l (without k ls))) (differing (without k ls)) (not_T (has_key l (without k ls)) (λ t. n (left_has k l ls t))) h

-- k is gone
without_none : (k : Literal) (ls : List Literal) → T (differing ls) → T (has_key k (without k ls)) → ⊥
unfolding without has_key
without_none k [] d t = t
without_none k (l ∷ ls) d t = let n = first_new l ls d in go (same_key k l) refl n.0 (without_none k ls n.1) t
  where
    go : (b : Bool) → same_key k l ≡ b → (T (has_key l ls) → ⊥) → (T (has_key k (without k ls)) → ⊥) → T (has_key k (keep b l ls (without k ls))) → ⊥
    go true e n f h = let q : k ≡ l = key→ k l (true_is e) in n (rw q at h)
    go false e n f h = or_elim (same_key k l) (has_key k (without k ls)) h (λ s. rw e at s) f

-- the same keys have the same texts
pub same_texts_lem : (ks ls : List Literal) → T (differing ks) → T (differing ls) → T (within ks ls) → T (within ls ks) → texts ks ≡ texts ls
unfolding within has_key texts sort_texts
same_texts_lem [] [] d e w v = refl
same_texts_lem [] (l ∷ ls) d e w v = absurd v
same_texts_lem (k ∷ ks) ls d e w v =
    let n = first_new k ks d in
    let new : T (has_key k ks) → ⊥ = n.0 in
    let there : T (within ks (without k ls)) = within← ks (without k ls) (λ j t. has_without k j ls (λ s. let q : j ≡ k = key→ j k s in new (rw q at t)) (within→ ks ls (and_right (has_key k ls) (within ks ls) w) j t)) in
    let back : T (within (without k ls) ks) = within← (without k ls) ks (λ j t. or_elim (same_key j k) (has_key j ks) (within→ ls (k ∷ ks) v j (left_has k j ls t))
    (λ s. let q : j ≡ k = key→ j k s in absurd (without_none k ls e (rw q at t))) (λ h. h)) in
    ap (insert_text (key_text k)) (same_texts_lem ks (without k ls) n.1 (without_differs k ls e) there back) ∙ sym (texts_without k ls (and_left (has_key k ls) (within ks ls) w))

-- texts agree with themselves
pub texts_refl : (ts : List (List ℕ)) → same_texts ts ts ≡ true
unfolding same_texts
texts_refl [] = refl
texts_refl (t ∷ ts) = let e = equal_same_bytes t t refl in let r = texts_refl ts in rw (e, r)
