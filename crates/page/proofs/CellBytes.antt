-- The bytes of a cell, and bytes stored one by one.
use Prim.Native.Nat.{ℕ, zero, suc, ◌+◌, ◌-◌, ◌<◌, ◌≤◌}
use mathlib.Core.Bool.{Bool, true, false}
use mathlib.Core.List.{List, [], ◌∷◌, ◌++◌, map}
use mathlib.Core.Path.{◌≡◌, refl, sym, ap, ◌∙◌}
use native.Mathlib.Omega.{arith}
use native.Mathlib.Numerals.{add-one}
use borrow.Author.Tests.{le-leb, lt-leb, leb-true, leb-false, ne_eqb}
use lib.Dec.{leb}
use lib.ListN.{length, get_or, take, drop, set, length-append, length-set, length-map, length-replicate, length-drop, get_or-replicate, get_or-append}
use lib.Seq.{length-take-le, get_or-take, get_or-append-add, drop-cons, drop-length, get_or_at}
use Rattle.columns.specs.Columns.{stored}
use Rattle.columns.proofs.write.Storing.{stored_none, stored_on, stored_one}
use Rattle.page.specs.Page.{blanks, kind_width, printable, left_in, cell, kind_name}

-- a byte as it prints
module _ (b : ℕ) where
  pub low_prints : b < 32 → 63 ≡ printable b
  low_prints lt = simp (lt-leb 32 b lt)

  module _ (low : 32 ≤ b) where
    pub high_prints : 126 < b → 63 ≡ printable b
    high_prints lt = simp (le-leb 32 b low, lt-leb b 126 lt)

    pub same_prints : b ≤ 126 → b ≡ printable b
    same_prints le = simp (le-leb 32 b low, le-leb b 126 le)

get_or_map_in : (f : ℕ → ℕ) (l : List ℕ) (i : ℕ) → i < length l → get_or (map f l) i 0 ≡ f (get_or l i 0)
get_or_map_in f [] i lt = absurd (omega arith)
get_or_map_in f (x ∷ l) zero lt = refl
get_or_map_in f (x ∷ l) (suc i) lt = get_or_map_in f l i (omega arith)

-- a cell byte by byte
module _ (text : List ℕ) (width i : ℕ) (inside : i < width) where
  long : length (map printable text) ≡ length text
  long = length-map text printable

  pub byte_blank : length text ≤ i → 32 ≡ get_or (cell width text) i 0
  unfolding left_in
  byte_blank past =
      let shown = map printable text in
      let few = le-leb (length shown) width (omega (arith, long)) in
      let split : i ≡ length shown + (i - length shown) = omega (arith, long) in
      sym (rw few
      (ap (λ (k : ℕ). get_or (shown ++ blanks (width - length shown)) k 0) split
      ∙ (get_or-append-add shown (blanks (width - length shown)) (i - length shown) 0
      ∙ get_or-replicate (width - length shown) (i - length shown) 32 0 (omega (arith, long)))))

  module _ (here : i < length text) {b : ℕ} (is : b ≡ printable (get_or text i 0)) where
    pub byte_whole : length text ≤ width → b ≡ get_or (cell width text) i 0
    unfolding left_in
    byte_whole fits =
        let shown = map printable text in
        let few = le-leb (length shown) width (omega (arith, long)) in
        is ∙ sym (rw few (get_or-append shown (blanks (width - length shown)) 0 i (omega (arith, long)) ∙ get_or_map_in printable text i here))

    pub byte_before_cut : width < length text → (i + 1 ≡ width → ⊥) → b ≡ get_or (cell width text) i 0
    unfolding left_in
    byte_before_cut over other =
        let shown = map printable text in
        let many = lt-leb (length shown) width (omega (arith, long)) in
        let before : i < width - 1 = omega (arith, other) in
        let front = length-take-le (width - 1) shown (omega (arith, long)) in
        is ∙ sym (rw many
        (get_or-append (take (width - 1) shown) (126 ∷ []) 0 i (omega arith)
        ∙ (get_or-take (width - 1) shown i 0 before ∙ get_or_map_in printable text i here)))

  pub byte_cut : width < length text → i + 1 ≡ width → 126 ≡ get_or (cell width text) i 0
  unfolding left_in
  byte_cut over last =
      let shown = map printable text in
      let many = lt-leb (length shown) width (omega (arith, long)) in
      let front : length (take (width - 1) shown) ≡ i = length-take-le (width - 1) shown (omega (arith, long)) ∙ omega arith in
      sym (rw many (get_or_at (take (width - 1) shown) 126 [] 0 i front))

pub cell_long : (width : ℕ) (text : List ℕ) → 0 < width → length (cell width text) ≡ width
unfolding left_in
cell_long width text some = go (leb (length shown) width) refl
  where
    shown : List ℕ
    shown = map printable text

    go : (b : Bool) → leb (length shown) width ≡ b → length (left_in width shown) ≡ width
    go true e =
        let few = leb-true (length shown) width e in
        rw e (length-append shown (blanks (width - length shown)) ∙ omega (arith, length-replicate {A = ℕ} (width - length shown) 32))
    go false e =
        let many = leb-false (length shown) width e in
        rw e (length-append (take (width - 1) shown) (126 ∷ []) ∙ omega (arith, length-take-le (width - 1) shown (omega arith)))

-- Bytes stored one by one, so many of them: those left make of the output what all of them make of it as it was.
pub record Storing (out₀ : List ℕ) (at : ℕ) (bytes : List ℕ) (size i : ℕ) (out : List ℕ) : Type 0 where
  pub inside : i ≤ size
  pub long : length bytes ≡ size
  pub room : at + size ≤ length out₀
  pub kept : length out ≡ length out₀
  pub same : stored out (at + i) (drop i bytes) ≡ stored out₀ at bytes

pub storing_start : (out : List ℕ) (at : ℕ) (bytes : List ℕ) (size : ℕ) → length bytes ≡ size → at + size ≤ length out → Storing out at bytes size 0 out
storing_start out at bytes size long room =
    let z : at + 0 ≡ at = omega arith in
    record { inside = omega arith; long = long; room = room; kept = refl; same = rw z }

module _ {out₀ : List ℕ} {at : ℕ} {bytes : List ℕ} {size i : ℕ} {out : List ℕ} (w : Storing out₀ at bytes size i out) where
  pub storing_on : {b : ℕ} → i < size → b ≡ get_or bytes i 0 → Storing out₀ at bytes size (i + 1) (set out (at + i) b)
  storing_on {b} lt is =
      let next : at + (i + 1) ≡ at + i + 1 = omega arith in
      let rest = drop (suc i) bytes in
      let left = length-drop (suc i) bytes in
      let split : drop i bytes ≡ b ∷ rest = rw is (drop-cons bytes i 0 (omega (arith, w.long))) in
      let one = stored_one out (at + i) b (omega (arith, w.room, w.kept)) in
      let on : stored (stored out (at + i) (b ∷ [])) (at + i + 1) rest ≡ stored out (at + i) (b ∷ rest) =
      stored_on out (at + i) (b ∷ []) rest (omega (arith, w.room, w.kept, w.long)) in
      record {
        inside = omega arith;
        long = w.long;
        room = w.room;
        kept = length-set out (at + i) b ∙ w.kept;
        same = rw (next, one, add-one i, on) (rw split at w.same);
      }

  pub storing_ends : size ≤ i → out ≡ stored out₀ at bytes
  storing_ends done =
      let e : i ≡ length bytes = omega (arith, w.inside, w.long) in
      let none : drop i bytes ≡ [] = rw e (drop-length bytes) in
      sym (stored_none out (at + i) (omega (arith, w.inside, w.room, w.kept))) ∙ rw none at w.same

pub cell_start : (out : List ℕ) (at width : ℕ) (text : List ℕ) → at + width ≤ length out → 0 < width → Storing out at (cell width text) width 0 out
cell_start out at width text room some = storing_start out at (cell width text) width (cell_long width text some) room

-- a kind's name, told by its number
module _ (kind : ℕ) (out : List ℕ) (at : ℕ) {after : List ℕ} where
  pub kind_is : (n : ℕ) → kind ≡ n → after ≡ stored out at (cell kind_width (kind_name n)) → after ≡ stored out at (cell kind_width (kind_name kind))
  kind_is n is e = rw is e

  pub kind_none : (kind ≡ 1 → ⊥) → (kind ≡ 2 → ⊥) → (kind ≡ 3 → ⊥) → (kind ≡ 4 → ⊥) → (kind ≡ 5 → ⊥) → (kind ≡ 6 → ⊥) → (kind ≡ 7 → ⊥)
      → after ≡ stored out at (cell kind_width []) → after ≡ stored out at (cell kind_width (kind_name kind))
  kind_none a b c d e f g is =
      let none : kind_name kind ≡ [] = simp (ne_eqb kind 1 a, ne_eqb kind 2 b, ne_eqb kind 3 c, ne_eqb kind 4 d, ne_eqb kind 5 e, ne_eqb kind 6 f, ne_eqb kind 7 g) in
      rw none is
