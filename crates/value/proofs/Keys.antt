-- Keys are equal exactly when they are the same literal; sets of keys.
use Prim.Native.Nat.{suc, ◌≤◌}
use mathlib.Core.Bool.{Bool, true, false, ◌&&◌, ◌||◌, not}
use mathlib.Core.List.{List, [], ◌∷◌}
use mathlib.Core.Path.{◌≡◌, refl, ap, sym}
use native.Mathlib.Nat.{not-suc-le-zero}
use native.Mathlib.Omega.{arith}
use lib.ListN.{length}
use lib.Dec.{T, T_not}
use Rattle.literal.specs.Literal.{Literal}
use Rattle.literal.specs.Order.{Order, less, same, more, key_order}
use Rattle.literal.proofs.Orders.{key_order_lem}
use Rattle.table.specs.Names.{is_same}
use Rattle.planner.specs.Simple.{same_key, has_key, differing}
use Rattle.value.specs.Value.{within, same_key_sets}

-- tests
pub and_left : (a b : Bool) → T (a && b) → T a
and_left true b t = tt
and_left false b t = t

pub and_right : (a b : Bool) → T (a && b) → T b
and_right true b t = t
and_right false b t = absurd t

pub both : (a b : Bool) → T a → T b → T (a && b)
both true b s t = t
both false b s t = s

pub or_left : (a b : Bool) → T a → T (a || b)
or_left true b t = tt
or_left false b t = absurd t

pub or_right : (a b : Bool) → T b → T (a || b)
or_right true b t = tt
or_right false b t = t

pub or_elim : {C : Type 0} (a b : Bool) → T (a || b) → (T a → C) → (T b → C) → C
or_elim true b t f g = f tt
or_elim false b t f g = g t

pub is_true : {b : Bool} → T b → b ≡ true
is_true {b = true} t = refl
is_true {b = false} t = absurd t

pub is_false : {b : Bool} → (T b → ⊥) → b ≡ false
is_false {b = true} f = absurd (f tt)
is_false {b = false} f = refl

pub true_is : {b : Bool} → b ≡ true → T b
true_is e = rw e tt

-- equal literals
same_order : (o : Order) → T (is_same o) → o ≡ same
same_order less t = absurd t
same_order same t = refl
same_order more t = absurd t

pub key→ : (a b : Literal) → T (same_key a b) → a ≡ b
key→ a b t = key_order_lem.equal a b (same_order (key_order a b) t)

pub key_refl : (a : Literal) → T (same_key a a)
key_refl a = let e = key_order_lem.reflexive a in rw e tt

-- sets of keys
pub within→ : (ks ls : List Literal) → T (within ks ls) → (k : Literal) → T (has_key k ks) → T (has_key k ls)
unfolding within has_key
within→ [] ls t k h = absurd h
within→ (j ∷ ks) ls t k h = or_elim (same_key k j) (has_key k ks) h (λ e. rw (key→ k j e) (and_left (has_key j ls) (within ks ls) t)) (λ h'. within→ ks ls (and_right (has_key j ls) (within ks ls) t) k h')

pub within← : (ks ls : List Literal) → ((k : Literal) → T (has_key k ks) → T (has_key k ls)) → T (within ks ls)
unfolding within has_key
within← [] ls f = tt
within← (k ∷ ks) ls f = both (has_key k ls) (within ks ls) (f k (or_left (same_key k k) (has_key k ks) (key_refl k))) (within← ks ls (λ j h. f j (or_right (same_key j k) (has_key j ks) h)))

-- Counting keys: if differing keys are all among others, and the others are no more, the sets are the same.
abbrev pub keep : Bool → Literal → List Literal → List Literal → List Literal
keep true l rest further = rest
keep false l rest further = l ∷ further

-- without the first k
unfoldable pub without : Literal → List Literal → List Literal
without k [] = []
without k (l ∷ ls) = keep (same_key k l) l ls (without k ls)

shorter : (k : Literal) (ls : List Literal) → T (has_key k ls) → length ls ≡ suc (length (without k ls))
unfolding has_key without
shorter k [] t = absurd t
shorter k (l ∷ ls) t = go (same_key k l) (λ h. shorter k ls h) t
  where
    go : (b : Bool) → (T (has_key k ls) → length ls ≡ suc (length (without k ls))) → T (b || has_key k ls) → suc (length ls) ≡ suc (length (keep b l ls (without k ls)))
    go true f h = refl
    go false f h = ap suc (f h)

pub has_without : (k j : Literal) (ls : List Literal) → ¬ T (same_key j k) → T (has_key j ls) → T (has_key j (without k ls))
unfolding has_key without
has_without k j [] n t = t
has_without k j (l ∷ ls) n t = go (same_key k l) refl (λ h. has_without k j ls n h)
  where
    go : (b : Bool) → same_key k l ≡ b → (T (has_key j ls) → T (has_key j (without k ls))) → T (has_key j (keep b l ls (without k ls)))
    go true e f = or_elim (same_key j l) (has_key j ls) t (λ s. let q : k ≡ l = key→ k l (true_is e) in absurd (n (rw q s))) (λ h. h)
    go false e f = or_elim (same_key j l) (has_key j ls) t (λ s. or_left (same_key j l) (has_key j (without k ls)) s) (λ h. or_right (same_key j l) (has_key j (without k ls)) (f h))

without_has : (k j : Literal) (ls : List Literal) → T (has_key j ls) → T (same_key j k || has_key j (without k ls))
without_has k j ls t = go (same_key j k) refl
  where
    go : (b : Bool) → same_key j k ≡ b → T (b || has_key j (without k ls))
    go true e = tt
    go false e = has_without k j ls (λ s. rw e at s) t

pub by_count : (ks ls : List Literal) → T (differing ks) → T (within ks ls) → length ls ≤ length ks → T (within ls ks)
unfolding differing has_key within
by_count [] [] d w h = tt
by_count [] (l ∷ ls) d w h = absurd (not-suc-le-zero h)
by_count (k ∷ ks) ls d w h =
    let here : T (has_key k ls) = and_left (has_key k ls) (within ks ls) w in
    let new : ¬ T (has_key k ks) = T_not (has_key k ks) (and_left (not (has_key k ks)) (differing ks) d) in
    let fewer : length (without k ls) ≤ length ks = omega (arith, shorter k ls here) in
    let rest : T (within ks (without k ls)) = within← ks (without k ls) (λ j t. has_without k j ls (λ s. let q : j ≡ k = key→ j k s in new (rw q at t)) (within→ ks ls (and_right (has_key k ls) (within ks ls) w) j t)) in
    let below = by_count ks (without k ls) (and_right (not (has_key k ks)) (differing ks) d) rest fewer in
    within← ls (k ∷ ks) (λ j t. or_elim (same_key j k) (has_key j (without k ls)) (without_has k j ls t) (or_left (same_key j k) (has_key j ks)) (λ s. or_right (same_key j k) (has_key j ks) (within→ (without k ls) ks below j s)))

-- differing keys that are among others are no more than those
pub within_length : (ks ls : List Literal) → T (differing ks) → T (within ks ls) → length ks ≤ length ls
unfolding differing has_key within
within_length [] ls d w = omega arith
within_length (k ∷ ks) ls d w =
    let here : T (has_key k ls) = and_left (has_key k ls) (within ks ls) w in
    let new : ¬ T (has_key k ks) = T_not (has_key k ks) (and_left (not (has_key k ks)) (differing ks) d) in
    let rest : T (within ks (without k ls)) = within← ks (without k ls) (λ j t. has_without k j ls (λ s. let q : j ≡ k = key→ j k s in new (rw q at t)) (within→ ks ls (and_right (has_key k ls) (within ks ls) w) j t)) in
    let below = within_length ks (without k ls) (and_right (not (has_key k ks)) (differing ks) d) rest in
    omega (arith, shorter k ls here)

-- two sets of differing keys, told by their sizes and one way
module _ (ks ls : List Literal) (d : T (differing ks)) (e : T (differing ls)) where
  pub sets_by_count : length ks ≡ length ls → within ks ls ≡ same_key_sets ks ls
  sets_by_count size = go (within ks ls) refl
    where
      go : (b : Bool) → within ks ls ≡ b → b ≡ (b && within ls ks)
      go true p = sym (is_true (by_count ks ls d (true_is p) (omega arith)))
      go false p = refl

  pub sets_uneven : (length ks ≡ length ls → ⊥) → same_key_sets ks ls ≡ false
  sets_uneven uneven = is_false (λ t.
      let a = within_length ks ls d (and_left (within ks ls) (within ls ks) t) in
      let b = within_length ls ks e (and_right (within ks ls) (within ls ks) t) in
      uneven (omega arith))
