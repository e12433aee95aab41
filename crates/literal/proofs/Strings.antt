-- The bytes of strings.
use Prim.Native.Nat.{ℕ, ◌+◌, ◌*◌, ◌≤◌}
use mathlib.Core.Bool.{Bool, true, false, cond}
use mathlib.Core.List.{List, [], ◌∷◌}
use mathlib.Core.Logic.{inl, inr}
use mathlib.Core.Option.{none, some}
use mathlib.Core.Path.{◌≡◌, refl, sym, ap, ◌∙◌}
use native.Mathlib.Omega.{arith}
use lib.Dec.{eqb}
use lib.ListN.{get_or}
use types.Run.{OneOf}
use denote.Enum.Declared.{tag_of}
use Rattle.literal.specs.contracts.LiteralRef.{the_type}
use Rattle.literal.specs.Literal.{number}
use Rattle.literal.specs.Order.{bytes_order, comparison_of, compared}
use Rattle.literal.specs.Reading.{has_number, number_at, string_at, string_bytes, literal_of, bytes_of}
use Rattle.literal.specs.code.SortKey.{key_of}
use Rattle.literal.specs.declared.key.SortKey.{SortKey}
use Rattle.literal.specs.declared.LiteralRef.{LiteralRef}
use Rattle.literal.specs.declared.LiteralRef.TheVariants.{Null, False, True, Number, String, RawString}
use Rattle.literal.specs.declared.Comparison.{Comparison}
use Rattle.literal.proofs.Keys.{compare_bytes}

-- the bytes of a reference, by its kind
module _ (strings text : List ℕ) {l : LiteralRef} where
  pub bytes_string : {start count : ℕ} {bytes : List ℕ} → l ≡ String start count → bytes ≡ string_bytes (string_at strings start count) → bytes ≡ bytes_of strings text l
  unfolding literal_of
  bytes_string e h = rw e h

  pub bytes_raw : {start count : ℕ} {bytes : List ℕ} → l ≡ RawString start count → bytes ≡ string_bytes (string_at text start count) → bytes ≡ bytes_of strings text l
  unfolding literal_of
  bytes_raw e h = rw e h

-- a kind that is no string has none
number_bytes : (numbers : List ℕ) (place : ℕ) → string_bytes (number_at numbers place) ≡ []
number_bytes numbers place = go (has_number numbers place)
  where
    go : (b : Bool) → string_bytes (cond b (some (number (eqb (get_or numbers (place * 2) 0) 1) (get_or numbers (place * 2 + 1) 0))) none) ≡ []
    go true = refl
    go false = refl

no_kind : (n : ℕ) → 4 ≤ n → OneOf (0 ∷ 1 ∷ 2 ∷ 3 ∷ []) n → ⊥
no_kind n h (inl e) = omega arith
no_kind n h (inr (inl e)) = omega arith
no_kind n h (inr (inr (inl e))) = omega arith
no_kind n h (inr (inr (inr e))) = omega arith

pub bytes_none : (strings text : List ℕ) (l : LiteralRef) → OneOf (0 ∷ 1 ∷ 2 ∷ 3 ∷ []) (tag_of the_type l) → [] ≡ bytes_of strings text l
unfolding literal_of
bytes_none strings text Null h = refl
bytes_none strings text False h = refl
bytes_none strings text True h = refl
bytes_none strings text (Number place) h = sym (number_bytes [] place)
bytes_none strings text (String start count) h = absurd (no_kind 4 (omega arith) h)
bytes_none strings text (RawString start count) h = absurd (no_kind 5 (omega arith) h)

-- the number list does not matter
pub bytes_same : (numbers strings text : List ℕ) (l : LiteralRef) → string_bytes (literal_of numbers strings text l) ≡ bytes_of strings text l
unfolding literal_of
bytes_same numbers strings text Null = refl
bytes_same numbers strings text False = refl
bytes_same numbers strings text True = refl
bytes_same numbers strings text (Number place) = number_bytes numbers place ∙ sym (number_bytes [] place)
bytes_same numbers strings text (String start count) = refl
bytes_same numbers strings text (RawString start count) = refl

-- a comparison with equal bytes
pub told_right : (xs : List ℕ) {ys zs : List ℕ} {r : Comparison} → ys ≡ zs → r ≡ comparison_of (bytes_order xs ys) → r ≡ comparison_of (bytes_order xs zs)
told_right xs e h = h ∙ ap (λ (bs : List ℕ). comparison_of (bytes_order xs bs)) e

pub told_left : {xs zs : List ℕ} (ys : List ℕ) {r : Comparison} → xs ≡ zs → r ≡ comparison_of (bytes_order xs ys) → r ≡ comparison_of (bytes_order zs ys)
told_left ys e h = h ∙ ap (λ (bs : List ℕ). comparison_of (bytes_order bs ys)) e

pub compare_strings : (numbers strings text : List ℕ) (a b : LiteralRef) {x y : SortKey} {r : Comparison} → x ≡ key_of (literal_of numbers strings text a) → y ≡ key_of (literal_of numbers strings text b) → y.rank ≤ x.rank → x.rank ≤ y.rank → x.rank ≡ 4 → r ≡ comparison_of (bytes_order (bytes_of strings text a) (bytes_of strings text b)) → r ≡ compared (literal_of numbers strings text a) (literal_of numbers strings text b)
compare_strings numbers strings text a b ex ey h k i e =
    compare_bytes (literal_of numbers strings text a) (literal_of numbers strings text b) ex ey h k i
    (e ∙ rw (bytes_same numbers strings text a, bytes_same numbers strings text b))
