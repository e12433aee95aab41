-- The orders of numbers, of bytes and of keys are total.
use Prim.Native.Nat.{ℕ, ◌<◌, ◌≤◌}
use mathlib.Core.Bool.{Bool, true, false}
use mathlib.Core.List.{List, [], ◌∷◌}
use mathlib.Core.Logic.{◌⊎◌, inl, inr}
use mathlib.Core.Path.{◌≡◌, refl, sym, ap, ap₂, ◌∙◌}
use native.Mathlib.Omega.{arith}
use lib.Dec.{ltb}
use borrow.Author.Tests.{ltb-true, ltb-false, lt-ltb, le-ltb, eq-eqb, ne_eqb}
use Rattle.literal.specs.Literal.{Literal, null, boolean, number, string}
use Rattle.literal.specs.Order.{Order, less, same, more, then, opposite, nat_order, bytes_order, number_order, rank, within_rank, key_order, comparison_of}
use Rattle.literal.specs.Laws.{TotalOrder}
use Rattle.literal.specs.declared.Comparison.{Comparison}
use Rattle.literal.specs.declared.Comparison.TheVariants.{Less, Equal, Greater}

pub never : {A : Type 0} → ◌≡◌ {A = ℕ} 0 1 → A
never z = absurd (omega arith)

-- totality follows from the other laws
module _ {A : Type 0} (order : A → A → Order) where
  by_laws :
      ((a : A) → order a a ≡ same) →
      ((a b : A) → order a b ≡ same → a ≡ b) →
      ((a b : A) → order b a ≡ opposite (order a b)) →
      ((a b c : A) → order a b ≡ less → order b c ≡ less → order a c ≡ less) →
      TotalOrder order
  by_laws r e s t = record { reflexive = r; equal = e; antisymmetric = s; transitive = t; total = λ a b. ways a b (order a b) refl }
    where
      ways : (a b : A) (o : Order) → order a b ≡ o → (order a b ≡ less) ⊎ ((a ≡ b) ⊎ (order b a ≡ less))
      ways a b less h = inl h
      ways a b same h = inr (inl (e a b h))
      ways a b more h = inr (inr (s a b ∙ ap opposite h))

-- numbers
pub three_ways : (a b : ℕ) → (a < b) ⊎ ((a ≡ b) ⊎ (b < a))
three_ways a b = go (ltb a b) (ltb b a) refl refl
  where
    go : (p q : Bool) → ltb a b ≡ p → ltb b a ≡ q → (a < b) ⊎ ((a ≡ b) ⊎ (b < a))
    go true q h k = inl (ltb-true a b h)
    go false true h k = inr (inr (ltb-true b a k))
    go false false h k = inr (inl (omega (arith, ltb-false a b h, ltb-false b a k)))

pub nat_less : (a b : ℕ) → a < b → nat_order a b ≡ less
nat_less a b h = simp (lt-ltb a b h)

pub nat_same : (a b : ℕ) → a ≡ b → nat_order a b ≡ same
nat_same a b h = simp (le-ltb a b (omega arith), eq-eqb a b h)

pub nat_more : (a b : ℕ) → b < a → nat_order a b ≡ more
nat_more a b h = simp (le-ltb a b (omega arith), ne_eqb a b (λ e. omega arith))

-- the order of two numbers is that of two others, or of two pairs
pub nat_like : (a b x y : ℕ) → (x < y → a < b) → (x ≡ y → a ≡ b) → (y < x → b < a) → nat_order a b ≡ nat_order x y
nat_like a b x y l s m = go (three_ways x y)
  where
    go : (x < y) ⊎ ((x ≡ y) ⊎ (y < x)) → nat_order a b ≡ nat_order x y
    go (inl h) = nat_less a b (l h) ∙ sym (nat_less x y h)
    go (inr (inl h)) = nat_same a b (s h) ∙ sym (nat_same x y h)
    go (inr (inr h)) = nat_more a b (m h) ∙ sym (nat_more x y h)

pub nat_pairs : (a b h g x y : ℕ) → (h < g → a < b) → (h ≡ g → nat_order a b ≡ nat_order x y) → (g < h → b < a) → nat_order a b ≡ then (nat_order h g) (nat_order x y)
nat_pairs a b h g x y l s m = go (three_ways h g)
  where
    go : (h < g) ⊎ ((h ≡ g) ⊎ (g < h)) → nat_order a b ≡ then (nat_order h g) (nat_order x y)
    go (inl lt) = nat_less a b (l lt) ∙ rw (nat_less h g lt)
    go (inr (inl e)) = s e ∙ rw (nat_same h g e)
    go (inr (inr gt)) = nat_more a b (m gt) ∙ rw (nat_more h g gt)

nat_antisymmetric : (a b : ℕ) → nat_order b a ≡ opposite (nat_order a b)
nat_antisymmetric a b = go (three_ways a b)
  where
    go : (a < b) ⊎ ((a ≡ b) ⊎ (b < a)) → nat_order b a ≡ opposite (nat_order a b)
    go (inl h) = nat_more b a h ∙ sym (ap opposite (nat_less a b h))
    go (inr (inl h)) = nat_same b a (sym h) ∙ sym (ap opposite (nat_same a b h))
    go (inr (inr h)) = nat_less b a h ∙ sym (ap opposite (nat_more a b h))

less_nat : (a b : ℕ) → nat_order a b ≡ less → a < b
less_nat a b e = go (three_ways a b)
  where
    go : (a < b) ⊎ ((a ≡ b) ⊎ (b < a)) → a < b
    go (inl h) = h
    go (inr (inl h)) = let k = nat_same a b h in never (cc)
    go (inr (inr h)) = let k = nat_more a b h in never (cc)

same_nat : (a b : ℕ) → nat_order a b ≡ same → a ≡ b
same_nat a b e = go (three_ways a b)
  where
    go : (a < b) ⊎ ((a ≡ b) ⊎ (b < a)) → a ≡ b
    go (inl h) = let k = nat_less a b h in never (cc)
    go (inr (inl h)) = h
    go (inr (inr h)) = let k = nat_more a b h in never (cc)

nat_transitive : (a b c : ℕ) → nat_order a b ≡ less → nat_order b c ≡ less → nat_order a c ≡ less
nat_transitive a b c h k = nat_less a c (omega (arith, less_nat a b h, less_nat b c k))

-- one order after another
pub then_assoc : (o p q : Order) → then (then o p) q ≡ then o (then p q)
then_assoc less p q = refl
then_assoc same p q = refl
then_assoc more p q = refl

pub then_end : (o : Order) → then o same ≡ o
then_end less = refl
then_end same = refl
then_end more = refl

then_same : (o p : Order) → then o p ≡ same → (o ≡ same) × (p ≡ same)
then_same less p h = never (cc)
then_same same p h = (refl, h)
then_same more p h = never (cc)

then_opposite : (o p : Order) → then (opposite o) (opposite p) ≡ opposite (then o p)
then_opposite less p = refl
then_opposite same p = refl
then_opposite more p = refl

then_less : (o p : Order) → then o p ≡ less → (o ≡ less) ⊎ ((o ≡ same) × (p ≡ less))
then_less less p h = inl refl
then_less same p h = inr (refl, h)
then_less more p h = never (cc)

-- numbers first, p q r after them
nat_then : (a b c : ℕ) (p q r : Order) → (p ≡ less → q ≡ less → r ≡ less) → then (nat_order a b) p ≡ less → then (nat_order b c) q ≡ less → then (nat_order a c) r ≡ less
nat_then a b c p q r rest h k = go (then_less (nat_order a b) p h) (then_less (nat_order b c) q k)
  where
    first : a < c → then (nat_order a c) r ≡ less
    first lt = rw (nat_less a c lt)

    go : (nat_order a b ≡ less) ⊎ ((nat_order a b ≡ same) × (p ≡ less)) → (nat_order b c ≡ less) ⊎ ((nat_order b c ≡ same) × (q ≡ less)) → then (nat_order a c) r ≡ less
    go (inl x) (inl y) = first (omega (arith, less_nat a b x, less_nat b c y))
    go (inl x) (inr y) = first (omega (arith, less_nat a b x, same_nat b c y.0))
    go (inr x) (inl y) = first (omega (arith, same_nat a b x.0, less_nat b c y))
    go (inr x) (inr y) = let e : a ≡ c = same_nat a b x.0 ∙ same_nat b c y.0 in rw (nat_same a c e) (rest x.1 y.1)

-- bytes
bytes_reflexive : (xs : List ℕ) → bytes_order xs xs ≡ same
unfolding bytes_order
bytes_reflexive [] = refl
bytes_reflexive (x ∷ xs) = rw (nat_same x x refl) (bytes_reflexive xs)

bytes_equal : (xs ys : List ℕ) → bytes_order xs ys ≡ same → xs ≡ ys
unfolding bytes_order
bytes_equal [] [] h = refl
bytes_equal [] (y ∷ ys) h = never (cc)
bytes_equal (x ∷ xs) [] h = never (cc)
bytes_equal (x ∷ xs) (y ∷ ys) h =
    let both = then_same (nat_order x y) (bytes_order xs ys) h in
    ap₂ ◌∷◌ (same_nat x y both.0) (bytes_equal xs ys both.1)

bytes_antisymmetric : (xs ys : List ℕ) → bytes_order ys xs ≡ opposite (bytes_order xs ys)
unfolding bytes_order
bytes_antisymmetric [] [] = refl
bytes_antisymmetric [] (y ∷ ys) = refl
bytes_antisymmetric (x ∷ xs) [] = refl
bytes_antisymmetric (x ∷ xs) (y ∷ ys) =
    ap₂ then (nat_antisymmetric x y) (bytes_antisymmetric xs ys) ∙ then_opposite (nat_order x y) (bytes_order xs ys)

bytes_transitive : (xs ys zs : List ℕ) → bytes_order xs ys ≡ less → bytes_order ys zs ≡ less → bytes_order xs zs ≡ less
unfolding bytes_order
bytes_transitive [] [] zs h k = never (cc)
bytes_transitive [] (y ∷ ys) [] h k = never (cc)
bytes_transitive [] (y ∷ ys) (z ∷ zs) h k = refl
bytes_transitive (x ∷ xs) [] zs h k = never (cc)
bytes_transitive (x ∷ xs) (y ∷ ys) [] h k = never (cc)
bytes_transitive (x ∷ xs) (y ∷ ys) (z ∷ zs) h k = nat_then x y z _ _ _ (bytes_transitive xs ys zs) h k

pub bytes_order_lem : TotalOrder bytes_order
bytes_order_lem = by_laws bytes_order bytes_reflexive bytes_equal bytes_antisymmetric bytes_transitive

-- numbers with a sign
number_reflexive : (s : Bool) (n : ℕ) → number_order s n s n ≡ same
number_reflexive true n = ap opposite (nat_same n n refl)
number_reflexive false n = nat_same n n refl

number_equal : (s : Bool) (n : ℕ) (t : Bool) (m : ℕ) → number_order s n t m ≡ same → number s n ≡ number t m
number_equal true n true m h = ap (number true) (sym (same_nat m n (nat_antisymmetric n m ∙ h)))
number_equal true n false m h = never (cc)
number_equal false n true m h = never (cc)
number_equal false n false m h = ap (number false) (same_nat n m h)

number_antisymmetric : (s : Bool) (n : ℕ) (t : Bool) (m : ℕ) → number_order t m s n ≡ opposite (number_order s n t m)
number_antisymmetric true n true m = ap opposite (nat_antisymmetric n m)
number_antisymmetric true n false m = refl
number_antisymmetric false n true m = refl
number_antisymmetric false n false m = nat_antisymmetric n m

number_transitive : (s : Bool) (a : ℕ) (t : Bool) (b : ℕ) (u : Bool) (c : ℕ) → number_order s a t b ≡ less → number_order t b u c ≡ less → number_order s a u c ≡ less
number_transitive true a true b true c h k =
    sym (nat_antisymmetric a c) ∙ nat_transitive c b a (nat_antisymmetric b c ∙ k) (nat_antisymmetric a b ∙ h)
number_transitive true a true b false c h k = refl
number_transitive true a false b true c h k = never (cc)
number_transitive true a false b false c h k = refl
number_transitive false a true b u c h k = never (cc)
number_transitive false a false b true c h k = never (cc)
number_transitive false a false b false c h k = nat_transitive a b c h k

-- keys
key_reflexive : (a : Literal) → key_order a a ≡ same
unfolding key_order
key_reflexive null = refl
key_reflexive (boolean false) = refl
key_reflexive (boolean true) = refl
key_reflexive (number s n) = number_reflexive s n
key_reflexive (string xs) = bytes_reflexive xs

within_equal : (a b : Literal) → rank a ≡ rank b → within_rank a b ≡ same → a ≡ b
within_equal null null e h = refl
within_equal null (boolean false) e h = absurd (omega arith)
within_equal null (boolean true) e h = absurd (omega arith)
within_equal null (number t m) e h = absurd (omega arith)
within_equal null (string ys) e h = absurd (omega arith)
within_equal (boolean false) null e h = absurd (omega arith)
within_equal (boolean false) (boolean false) e h = refl
within_equal (boolean false) (boolean true) e h = absurd (omega arith)
within_equal (boolean false) (number t m) e h = absurd (omega arith)
within_equal (boolean false) (string ys) e h = absurd (omega arith)
within_equal (boolean true) null e h = absurd (omega arith)
within_equal (boolean true) (boolean false) e h = absurd (omega arith)
within_equal (boolean true) (boolean true) e h = refl
within_equal (boolean true) (number t m) e h = absurd (omega arith)
within_equal (boolean true) (string ys) e h = absurd (omega arith)
within_equal (number s n) null e h = absurd (omega arith)
within_equal (number s n) (boolean false) e h = absurd (omega arith)
within_equal (number s n) (boolean true) e h = absurd (omega arith)
within_equal (number s n) (number t m) e h = number_equal s n t m h
within_equal (number s n) (string ys) e h = absurd (omega arith)
within_equal (string xs) null e h = absurd (omega arith)
within_equal (string xs) (boolean false) e h = absurd (omega arith)
within_equal (string xs) (boolean true) e h = absurd (omega arith)
within_equal (string xs) (number t m) e h = absurd (omega arith)
within_equal (string xs) (string ys) e h = ap string (bytes_equal xs ys h)

key_equal : (a b : Literal) → key_order a b ≡ same → a ≡ b
unfolding key_order
key_equal a b h =
    let both = then_same (nat_order (rank a) (rank b)) (within_rank a b) h in
    within_equal a b (same_nat (rank a) (rank b) both.0) both.1

within_antisymmetric : (a b : Literal) → within_rank b a ≡ opposite (within_rank a b)
within_antisymmetric null null = refl
within_antisymmetric null (boolean y) = refl
within_antisymmetric null (number t m) = refl
within_antisymmetric null (string ys) = refl
within_antisymmetric (boolean x) null = refl
within_antisymmetric (boolean x) (boolean y) = refl
within_antisymmetric (boolean x) (number t m) = refl
within_antisymmetric (boolean x) (string ys) = refl
within_antisymmetric (number s n) null = refl
within_antisymmetric (number s n) (boolean y) = refl
within_antisymmetric (number s n) (number t m) = number_antisymmetric s n t m
within_antisymmetric (number s n) (string ys) = refl
within_antisymmetric (string xs) null = refl
within_antisymmetric (string xs) (boolean y) = refl
within_antisymmetric (string xs) (number t m) = refl
within_antisymmetric (string xs) (string ys) = bytes_antisymmetric xs ys

key_antisymmetric : (a b : Literal) → key_order b a ≡ opposite (key_order a b)
unfolding key_order
key_antisymmetric a b =
    ap₂ then (nat_antisymmetric (rank a) (rank b)) (within_antisymmetric a b) ∙ then_opposite (nat_order (rank a) (rank b)) (within_rank a b)

within_transitive : (a b c : Literal) → within_rank a b ≡ less → within_rank b c ≡ less → within_rank a c ≡ less
within_transitive null b c h k = never (cc)
within_transitive (boolean x) b c h k = never (cc)
within_transitive (number s n) null c h k = never (cc)
within_transitive (number s n) (boolean y) c h k = never (cc)
within_transitive (number s n) (number t m) null h k = never (cc)
within_transitive (number s n) (number t m) (boolean z) h k = never (cc)
within_transitive (number s n) (number t m) (number u l) h k = number_transitive s n t m u l h k
within_transitive (number s n) (number t m) (string zs) h k = never (cc)
within_transitive (number s n) (string ys) c h k = never (cc)
within_transitive (string xs) null c h k = never (cc)
within_transitive (string xs) (boolean y) c h k = never (cc)
within_transitive (string xs) (number t m) c h k = never (cc)
within_transitive (string xs) (string ys) null h k = never (cc)
within_transitive (string xs) (string ys) (boolean z) h k = never (cc)
within_transitive (string xs) (string ys) (number u l) h k = never (cc)
within_transitive (string xs) (string ys) (string zs) h k = bytes_transitive xs ys zs h k

key_transitive : (a b c : Literal) → key_order a b ≡ less → key_order b c ≡ less → key_order a c ≡ less
unfolding key_order
key_transitive a b c h k = nat_then (rank a) (rank b) (rank c) _ _ _ (within_transitive a b c) h k

pub key_order_lem : TotalOrder key_order
key_order_lem = by_laws key_order key_reflexive key_equal key_antisymmetric key_transitive

-- the code's answer for two numbers
pub told_less : (a b : ℕ) → a < b → Less ≡ comparison_of (nat_order a b)
told_less a b h = rw (nat_less a b h)

pub told_same : (a b : ℕ) → a ≡ b → Equal ≡ comparison_of (nat_order a b)
told_same a b h = rw (nat_same a b h)

pub told_more : (a b : ℕ) → b ≤ a → (a ≡ b → ⊥) → Greater ≡ comparison_of (nat_order a b)
told_more a b h k = rw (nat_more a b (omega arith))

module _ {s t : Bool} (a b : ℕ) {r : Comparison} where
  pub told_below : s ≡ true → t ≡ true → r ≡ comparison_of (nat_order b a) → r ≡ comparison_of (number_order s a t b)
  told_below h k e = e ∙ rw (h, k, nat_antisymmetric a b)

  pub told_above : s ≡ false → t ≡ false → r ≡ comparison_of (nat_order a b) → r ≡ comparison_of (number_order s a t b)
  told_above h k e = e ∙ rw (h, k)
