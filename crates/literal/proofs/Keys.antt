-- What `key_of` reads, and the order of two keys by it.
use Prim.Native.Nat.{ℕ, zero, suc, ◌+◌, ◌-◌, ◌*◌, ◌/◌, ◌^◌, ◌<◌, ◌≤◌}
use mathlib.Core.Bool.{Bool, true, false, cond}
use mathlib.Core.List.{List, []}
use mathlib.Core.Option.{Option, none, some}
use mathlib.Core.Path.{◌≡◌, refl, sym, ap, ◌∙◌}
use native.Mathlib.Omega.{arith}
use lib.Dec.{eqb, leb}
use lib.ListN.{length, get_or, take, drop}
use mir.Syntax.{w64}
use mir.Val.{Fits}
use borrow.Author.Tests.{leb-true, leb-false, le-leb, lt-leb}
use Rattle.literal.specs.Literal.{Literal, null, boolean, number, string, is_number}
use Rattle.literal.specs.Order.{same, then, nat_order, number_order, bytes_order, rank, within_rank, key_order, comparison_of, compared}
use Rattle.literal.specs.Reading.{number_at, string_at, string_bytes, literal_of}
use Rattle.literal.specs.code.SortKey.{plain_key, key_of}
use Rattle.literal.specs.declared.key.SortKey.{SortKey}
use Rattle.literal.specs.declared.LiteralRef.{LiteralRef}
use Rattle.literal.specs.declared.Comparison.{Comparison}
use Rattle.literal.specs.declared.Comparison.TheVariants.{Less, Equal, Greater, NoLiteral}
use Rattle.literal.proofs.Orders.{nat_less, nat_same, nat_more}

-- a range, and the string that it holds
pub range_in : (length start count : ℕ) → start ≤ length → leb count (length - start) ≡ leb (start + count) length
range_in length start count h = go (leb count (length - start)) refl
  where
    go : (b : Bool) → leb count (length - start) ≡ b → b ≡ leb (start + count) length
    go true e = sym (le-leb (start + count) length (omega (arith, leb-true count (length - start) e)))
    go false e = sym (lt-leb (start + count) length (omega (arith, leb-false count (length - start) e)))

pub range_out : (length start count : ℕ) → length < start → false ≡ leb (start + count) length
range_out length start count h = sym (lt-leb (start + count) length (omega arith))

module _ (bytes : List ℕ) (start count : ℕ) {r : Bool} (is : r ≡ leb (start + count) (length bytes)) where
  pub range_end : r ≡ true → start + count ≤ length bytes
  range_end h = leb-true (start + count) (length bytes) (sym is ∙ h)

  pub range_fits : r ≡ true → length bytes < 2 ^ 64 → Fits w64 (start + count)
  range_fits h k = omega (arith, range_end h)

  held : r ≡ true → string_at bytes start count ≡ some (string (take count (drop start bytes)))
  held h = rw (sym is ∙ h)

  missing : r ≡ false → string_at bytes start count ≡ none
  missing h = rw (sym is ∙ h)

  pub part_held : r ≡ true → take ((start + count) - start) (drop start bytes) ≡ string_bytes (string_at bytes start count)
  part_held h = let e : (start + count) - start ≡ count = omega arith in rw e (sym (ap string_bytes (held h)))

  pub part_missing : r ≡ false → [] ≡ string_bytes (string_at bytes start count)
  part_missing h = sym (ap string_bytes (missing h))

  pub string_held : {x : SortKey} → r ≡ true → x ≡ plain_key 4 → x ≡ key_of (string_at bytes start count)
  unfolding key_of
  string_held h e = e ∙ sym (ap key_of (held h))

  pub string_missing : {x : SortKey} → r ≡ false → x ≡ plain_key 5 → x ≡ key_of (string_at bytes start count)
  unfolding key_of
  string_missing h e = e ∙ sym (ap key_of (missing h))

-- a number
module _ (numbers : List ℕ) (place : ℕ) where
  pub number_outside : {x : SortKey} → length numbers / 2 ≤ place → x ≡ plain_key 5 → x ≡ key_of (number_at numbers place)
  unfolding key_of
  number_outside h e = let out : leb (place * 2 + 2) (length numbers) ≡ false = lt-leb (place * 2 + 2) (length numbers) (omega arith) in e ∙ rw out

  module _ (here : place < length numbers / 2) {r : Bool} (is : r ≡ is_number (get_or numbers (place * 2) 0) (get_or numbers (place * 2 + 1) 0)) where
    said : (b : Bool) → r ≡ b → number_at numbers place ≡ cond b (some (number (eqb (get_or numbers (place * 2) 0) 1) (get_or numbers (place * 2 + 1) 0))) none
    said b h = let in-store : leb (place * 2 + 2) (length numbers) ≡ true = le-leb (place * 2 + 2) (length numbers) (omega arith) in rw (in-store, sym is ∙ h)

    pub number_held : r ≡ true → record { rank = 3; below = eqb (get_or numbers (place * 2) 0) 1; size = get_or numbers (place * 2 + 1) 0 } ≡ key_of (number_at numbers place)
    unfolding key_of
    number_held h = sym (ap key_of (said true h))

    pub number_missing : {x : SortKey} → r ≡ false → x ≡ plain_key 5 → x ≡ key_of (number_at numbers place)
    unfolding key_of
    number_missing h e = e ∙ sym (ap key_of (said false h))

-- a reference, by its kind
pub key_at_lem : (numbers strings text : List ℕ) {l m : LiteralRef} {x : SortKey} → l ≡ m → x ≡ key_of (literal_of numbers strings text m) → x ≡ key_of (literal_of numbers strings text l)
key_at_lem numbers strings text e h = rw e h

-- The literal is what its key says, and a string's bytes.
abbrev pub shown : ℕ → Bool → ℕ → List ℕ → Option Literal
shown zero below size bytes = some null
shown (suc zero) below size bytes = some (boolean false)
shown (suc (suc zero)) below size bytes = some (boolean true)
shown (suc (suc (suc zero))) below size bytes = some (number below size)
shown (suc (suc (suc (suc zero)))) below size bytes = some (string bytes)
shown (suc (suc (suc (suc (suc n))))) below size bytes = none

shown_again : (l : Option Literal) → l ≡ shown (key_of l).rank (key_of l).below (key_of l).size (string_bytes l)
unfolding key_of
shown_again none = refl
shown_again (some null) = refl
shown_again (some (boolean false)) = refl
shown_again (some (boolean true)) = refl
shown_again (some (number s n)) = refl
shown_again (some (string bs)) = refl

pub shown_key : (l : Option Literal) {x : SortKey} (n : ℕ) → x ≡ key_of l → x.rank ≡ n → l ≡ shown n x.below x.size (string_bytes l)
shown_key l {x} n e h = rw (← h, e) (shown_again l)

pub shown_last : (l : Option Literal) {x : SortKey} → x ≡ key_of l → 4 < x.rank → l ≡ none
unfolding key_of
shown_last none e h = refl
shown_last (some null) e h = absurd (omega (arith, ap (λ (k : SortKey). k.rank) e))
shown_last (some (boolean false)) e h = absurd (omega (arith, ap (λ (k : SortKey). k.rank) e))
shown_last (some (boolean true)) e h = absurd (omega (arith, ap (λ (k : SortKey). k.rank) e))
shown_last (some (number s n)) e h = absurd (omega (arith, ap (λ (k : SortKey). k.rank) e))
shown_last (some (string bs)) e h = absurd (omega (arith, ap (λ (k : SortKey). k.rank) e))

-- two keys
key_rank : (a : Literal) → (key_of (some a)).rank ≡ rank a
unfolding key_of
key_rank null = refl
key_rank (boolean false) = refl
key_rank (boolean true) = refl
key_rank (number s n) = refl
key_rank (string bs) = refl

pub compare_left_none : (l m : Option Literal) {x : SortKey} → x ≡ key_of l → x.rank ≡ 5 → NoLiteral ≡ compared l m
unfolding compared
compare_left_none l m e h = rw (shown_key l 5 e h)

pub compare_right_none : (l m : Option Literal) {y : SortKey} → y ≡ key_of m → y.rank ≡ 5 → NoLiteral ≡ compared l m
unfolding compared
compare_right_none none m e h = refl
compare_right_none (some a) m e h = rw (shown_key m 5 e h)

-- the literal of a key that is not 5
record Found (l : Option Literal) (x : SortKey) : Type 0 where
  literal : Literal
  is : l ≡ some literal
  ranked : x.rank ≡ rank literal

found : (l : Option Literal) {x : SortKey} → x ≡ key_of l → (x.rank ≡ 5 → ⊥) → Found l x
unfolding key_of
found none e h = absurd (h (ap (λ (k : SortKey). k.rank) e))
found (some a) e h = record { literal = a; is = refl; ranked = ap (λ (k : SortKey). k.rank) e ∙ key_rank a }

by_rank : (l m : Option Literal) (a b : Literal) → l ≡ some a → m ≡ some b → compared l m ≡ comparison_of (then (nat_order (rank a) (rank b)) (within_rank a b))
unfolding compared key_order
by_rank l m a b e f = rw (e, f)

within_plain : (a b : Literal) → (rank a ≡ 3 → ⊥) → (rank a ≡ 4 → ⊥) → within_rank a b ≡ same
within_plain null b h k = refl
within_plain (boolean x) b h k = refl
within_plain (number s n) b h k = absurd (h refl)
within_plain (string bs) b h k = absurd (k refl)

module _ (l m : Option Literal) {x y : SortKey} (ex : x ≡ key_of l) (ey : y ≡ key_of m) where
  module _ (lx : x.rank ≡ 5 → ⊥) (ly : y.rank ≡ 5 → ⊥) where
    pub compare_less : x.rank < y.rank → Less ≡ compared l m
    compare_less h =
        let f = found l ex lx in
        let g = found m ey ly in
        rw (by_rank l m f.literal g.literal f.is g.is, nat_less (rank f.literal) (rank g.literal) (omega arith))

    pub compare_more : y.rank < x.rank → Greater ≡ compared l m
    compare_more h =
        let f = found l ex lx in
        let g = found m ey ly in
        rw (by_rank l m f.literal g.literal f.is g.is, nat_more (rank f.literal) (rank g.literal) (omega arith))

    pub compare_plain : y.rank ≤ x.rank → x.rank ≤ y.rank → (x.rank ≡ 3 → ⊥) → (x.rank ≡ 4 → ⊥) → Equal ≡ compared l m
    compare_plain h k not-3 not-4 =
        let f = found l ex lx in
        let g = found m ey ly in
        let plain = within_plain f.literal g.literal (λ e. not-3 (f.ranked ∙ e)) (λ e. not-4 (f.ranked ∙ e)) in
        rw (by_rank l m f.literal g.literal f.is g.is, nat_same (rank f.literal) (rank g.literal) (omega arith), plain)

  module _ (h : y.rank ≤ x.rank) (k : x.rank ≤ y.rank) where
    pub compare_numbers : {r : Comparison} → x.rank ≡ 3 → r ≡ comparison_of (number_order x.below x.size y.below y.size) → r ≡ compared l m
    compare_numbers i e = e ∙ sym (by_rank l m _ _ (shown_key l 3 ex i) (shown_key m 3 ey (omega arith)))

    pub compare_bytes : {r : Comparison} → x.rank ≡ 4 → r ≡ comparison_of (bytes_order (string_bytes l) (string_bytes m)) → r ≡ compared l m
    compare_bytes i e = e ∙ sym (by_rank l m _ _ (shown_key l 4 ex i) (shown_key m 4 ey (omega arith)))
