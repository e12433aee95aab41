-- The text of a key, by what `key_of` read; and its comparison.
use Prim.Native.Nat.{ℕ, ◌+◌, ◌*◌, ◌^◌, ◌<◌, ◌≤◌}
use mathlib.Core.Bool.{Bool, true, false, cond, ◌&&◌}
use mathlib.Core.List.{List, [], ◌∷◌, ◌++◌}
use mathlib.Core.Option.{Option, none, some}
use mathlib.Core.Path.{◌≡◌, refl, sym, ap, ◌∙◌}
use native.Mathlib.Omega.{arith}
use lib.Dec.{eqb, leb}
use borrow.Author.Tests.{eqb-true}
use lib.ListN.{length, get_or, take, drop, length-append}
use lib.Seq.{take-append_seam, length-take-le}
use Rattle.literal.specs.Literal.{Literal, null, boolean, number, string, is_number}
use Rattle.literal.specs.Order.{bytes_order, comparison_of}
use Rattle.literal.specs.Text.{decimal, signed, key_text, text_compared, texts_compared}
use Rattle.literal.specs.Reading.{string_bytes, literal_of, bytes_of, key_text_of, written_over, TextDone}
use Rattle.literal.specs.code.Written.{Written}
use Rattle.literal.specs.code.SortKey.{key_of}
use Rattle.literal.specs.declared.key.SortKey.{SortKey}
use Rattle.literal.specs.declared.KeyText.{KeyText}
use Rattle.literal.specs.declared.LiteralRef.{LiteralRef}
use Rattle.literal.specs.declared.LiteralRef.TheVariants.{Null, False, True, Number, String, RawString}
use Rattle.literal.specs.declared.Comparison.{Comparison}
use Rattle.literal.specs.declared.Comparison.TheVariants.{NoLiteral}
use Rattle.literal.proofs.Orders.{never}
use Rattle.literal.proofs.Numbers.{number_bounds, and_true}
use Rattle.literal.proofs.Decimals.{digits_length}
use Rattle.literal.proofs.Keys.{shown_key, shown_last}
use Rattle.literal.proofs.Strings.{bytes_same}

-- the text that was written, by the key
module _ (l : Option Literal) {x : SortKey} {before after : List ℕ} {r : KeyText} (e : x ≡ key_of l) where
  pub text_null : x.rank ≡ 0 → Written (110 ∷ 117 ∷ 108 ∷ 108 ∷ []) before after r → TextDone l before after r
  unfolding key_text key_text_of written_over
  text_null h w = rw (shown_key l 0 e h) (record { answer = w.answer; array = w.array })

  pub text_false : x.rank ≡ 1 → Written (102 ∷ 97 ∷ 108 ∷ 115 ∷ 101 ∷ []) before after r → TextDone l before after r
  unfolding key_text key_text_of written_over
  text_false h w = rw (shown_key l 1 e h) (record { answer = w.answer; array = w.array })

  pub text_true : x.rank ≡ 2 → Written (116 ∷ 114 ∷ 117 ∷ 101 ∷ []) before after r → TextDone l before after r
  unfolding key_text key_text_of written_over
  text_true h w = rw (shown_key l 2 e h) (record { answer = w.answer; array = w.array })

  pub text_number : x.rank ≡ 3 → Written (signed x.below (decimal x.size)) before after r → TextDone l before after r
  unfolding key_text key_text_of written_over
  text_number h w = rw (shown_key l 3 e h) (record { answer = w.answer; array = w.array })

module _ (l : Option Literal) {x : SortKey} (before : List ℕ) (e : x ≡ key_of l) where
  pub text_string : x.rank ≡ 4 → TextDone l before before KeyText.Lent
  unfolding key_text_of written_over
  text_string h = rw (shown_key l 4 e h) (record { answer = refl; array = refl })

  pub text_none : (x.rank ≡ 0 → ⊥) → (x.rank ≡ 1 → ⊥) → (x.rank ≡ 2 → ⊥) → (x.rank ≡ 3 → ⊥) → (x.rank ≡ 4 → ⊥) → TextDone l before before KeyText.NoText
  unfolding key_text_of written_over
  text_none a b c d f =
      let n : l ≡ none = shown_last l e (omega arith) in
      rw n (record { answer = refl; array = refl })

-- A number of the store is small, so its text has room: with a minus sign it has one digit less.
pub record Small (below : Bool) (size : ℕ) : Type 0 where
  pub largest : size < 2 ^ 64
  pub lowest : below ≡ true → size ≤ 2 ^ 63

no_number : {A : Type 0} (b : Bool) (bs : List ℕ) (s : Bool) (n : ℕ) → cond b (some (string bs)) none ≡ some (number s n) → A
no_number true bs s n e = never (cc)
no_number false bs s n e = never (cc)

in_bounds : (below size : ℕ) (inside : Bool) (s : Bool) (n : ℕ) → cond (inside && is_number below size) (some (number (eqb below 1) size)) none ≡ some (number s n) → Small s n
in_bounds below size inside s n e = go (inside && is_number below size) refl e
  where
    go : (b : Bool) → (inside && is_number below size) ≡ b → cond b (some (number (eqb below 1) size)) none ≡ some (number s n) → Small s n
    go true h f =
        let bounds = number_bounds below size (and_true inside (is_number below size) h).1 in
        let same : size ≡ n = cc in
        let sign : eqb below 1 ≡ s = cc in
        record { largest = omega arith; lowest = λ minus. omega (arith, bounds.lowest (eqb-true below 1 (sign ∙ minus))) }
    go false h f = never (cc)

pub small_number : (numbers strings text : List ℕ) (l : LiteralRef) (s : Bool) (n : ℕ) → literal_of numbers strings text l ≡ some (number s n) → Small s n
unfolding literal_of
small_number numbers strings text Null s n e = never (cc)
small_number numbers strings text False s n e = never (cc)
small_number numbers strings text True s n e = never (cc)
small_number numbers strings text (Number place) s n e = in_bounds (get_or numbers (place * 2) 0) (get_or numbers (place * 2 + 1) 0) (leb (place * 2 + 2) (length numbers)) s n e
small_number numbers strings text (String start count) s n e = no_number (leb (start + count) (length strings)) _ s n e
small_number numbers strings text (RawString start count) s n e = no_number (leb (start + count) (length text)) _ s n e

signed_room : (s : Bool) (n : ℕ) → Small s n → length (signed s (decimal n)) ≤ 20
signed_room true n h = let low = h.lowest refl in omega (arith, digits_length 20 18 n (omega arith))
signed_room false n h = let top = h.largest in omega (arith, digits_length 20 19 n (omega arith))

pub number_room : (numbers strings text : List ℕ) (l : LiteralRef) (out : List ℕ) {x : SortKey} → x ≡ key_of (literal_of numbers strings text l) → x.rank ≡ 3 → length out ≡ 20 → length (signed x.below (decimal x.size)) ≤ length out
number_room numbers strings text l out {x} e h long =
    let small = small_number numbers strings text l x.below x.size (shown_key (literal_of numbers strings text l) 3 e h) in
    omega (arith, signed_room x.below x.size small)

-- the text of a key, where it stands
pub record TextIs (l : Option Literal) (bytes : List ℕ) : Type 0 where
  pub literal : Literal
  pub is : l ≡ some literal
  pub text : bytes ≡ key_text literal

lent : (l : Option Literal) → KeyText.Lent ≡ key_text_of l → TextIs l (string_bytes l)
unfolding key_text key_text_of
lent none h = never (cc)
lent (some null) h = never (cc)
lent (some (boolean b)) h = never (cc)
lent (some (number s n)) h = never (cc)
lent (some (string bs)) h = record { literal = string bs; is = refl; text = refl }

pub lent_text : (numbers strings text : List ℕ) (l : LiteralRef) {r : KeyText} → r ≡ key_text_of (literal_of numbers strings text l) → r ≡ KeyText.Lent → TextIs (literal_of numbers strings text l) (bytes_of strings text l)
lent_text numbers strings text l h k = rw (bytes_same numbers strings text l) at (lent (literal_of numbers strings text l) (sym k ∙ h))

front : (n : ℕ) (xs out : List ℕ) → KeyText.Written n ≡ KeyText.Written (length xs) → take n (xs ++ drop (length xs) out) ≡ xs
front n xs out h = let e : n ≡ length xs = cc in rw e (take-append_seam xs (drop (length xs) out))

written : (l : Option Literal) (n : ℕ) (out : List ℕ) → KeyText.Written n ≡ key_text_of l → TextIs l (take n (written_over l out))
unfolding key_text_of written_over
written none n out h = never (cc)
written (some null) n out h = record { literal = null; is = refl; text = front n (key_text null) out h }
written (some (boolean b)) n out h = record { literal = boolean b; is = refl; text = front n (key_text (boolean b)) out h }
written (some (number s m)) n out h = record { literal = number s m; is = refl; text = front n (key_text (number s m)) out h }
written (some (string bs)) n out h = never (cc)

pub written_text : (l : Option Literal) {r : KeyText} {n : ℕ} (before : List ℕ) {after : List ℕ} → TextDone l before after r → r ≡ KeyText.Written n → TextIs l (take n after)
written_text l {r} {n} before d k = rw d.array (written l n before (sym k ∙ d.answer))

longer : (n : ℕ) (xs ys : List ℕ) → KeyText.Written n ≡ KeyText.Written (length xs) → n ≤ length (xs ++ ys)
longer n xs ys h = let e : n ≡ length xs = cc in omega (arith, length-append xs ys)

room : (l : Option Literal) (n : ℕ) (out : List ℕ) → KeyText.Written n ≡ key_text_of l → n ≤ length (written_over l out)
unfolding key_text_of written_over
room none n out h = never (cc)
room (some null) n out h = longer n (key_text null) _ h
room (some (boolean b)) n out h = longer n (key_text (boolean b)) _ h
room (some (number s m)) n out h = longer n (key_text (number s m)) _ h
room (some (string bs)) n out h = never (cc)

pub written_room : (l : Option Literal) {r : KeyText} {n : ℕ} (before after : List ℕ) → TextDone l before after r → r ≡ KeyText.Written n → n ≤ length after
written_room l {r} {n} before after d k = rw d.array (room l n before (sym k ∙ d.answer))

pub written_length : (l : Option Literal) {r : KeyText} {n : ℕ} (before after : List ℕ) → TextDone l before after r → r ≡ KeyText.Written n → n ≡ length (take n after)
written_length l {r} {n} before after d k = sym (length-take-le n after (written_room l before after d k))

-- comparing it
pub compare_text : {l : Option Literal} (bytes : List ℕ) {text : List ℕ} {r : Comparison} → TextIs l text → r ≡ comparison_of (bytes_order bytes text) → r ≡ text_compared bytes l
unfolding text_compared
compare_text bytes t e = e ∙ rw (t.is, t.text)

pub compare_texts : {l : Option Literal} (m : Option Literal) {text : List ℕ} {r : Comparison} → TextIs l text → r ≡ text_compared text m → r ≡ texts_compared l m
unfolding texts_compared
compare_texts m t e = e ∙ rw (t.is, t.text)

no_text : (l : Option Literal) → KeyText.NoText ≡ key_text_of l → l ≡ none
unfolding key_text_of
no_text none h = refl
no_text (some null) h = never (cc)
no_text (some (boolean b)) h = never (cc)
no_text (some (number s n)) h = never (cc)
no_text (some (string bs)) h = never (cc)

pub compare_no_text : (l : Option Literal) {r : KeyText} (bytes : List ℕ) → r ≡ key_text_of l → r ≡ KeyText.NoText → NoLiteral ≡ text_compared bytes l
unfolding text_compared
compare_no_text l bytes h k = rw (no_text l (sym k ∙ h))

pub compare_no_texts : (l m : Option Literal) {r : KeyText} → r ≡ key_text_of l → r ≡ KeyText.NoText → NoLiteral ≡ texts_compared l m
unfolding texts_compared
compare_no_texts l m h k = rw (no_text l (sym k ∙ h))

pub text_left : {xs zs : List ℕ} (l : Option Literal) {r : Comparison} → xs ≡ zs → r ≡ text_compared xs l → r ≡ text_compared zs l
text_left l e h = h ∙ ap (λ (bs : List ℕ). text_compared bs l) e
