-- Entries written into the scratch, one after the other.
use Prim.Native.Nat.{ℕ, suc, ◌+◌, ◌*◌}
use mathlib.Core.Path.{◌≡◌, refl, sym, ap, ◌∙◌}
use mathlib.Core.List.{List, [], ◌∷◌, ◌++◌}
use native.Mathlib.Omega.{arith}
use native.Mathlib.Numerals.{add-one, add-two, add-three, add-four}
use lib.ListN.{length, set, length-append}
use lib.Seq.{sets}
use Rattle.planner.specs.Layout.{Entry, entry_words, below, entry, words}
use Rattle.planner.specs.code.Post.{Laid}

pub words_append : (es fs : List Entry) → words (es ++ fs) ≡ words es ++ words fs
unfolding words
words_append [] fs = refl
words_append (e ∷ es) fs = let h = words_append es fs in cc

pub length_words : (es : List Entry) → length (words es) ≡ length es * entry_words
unfolding words
length_words [] = refl
length_words (e ∷ es) = let h = length_words es in omega arith

pub sets_append : (l : List ℕ) (i : ℕ) (xs ys : List ℕ) → sets (sets l i xs) (i + length xs) ys ≡ sets l i (xs ++ ys)
sets_append l i [] ys = let e : i + 0 ≡ i = omega arith in ap (λ (j : ℕ). sets l j ys) e
sets_append l i (x ∷ xs) ys =
    let e : i + suc (length xs) ≡ suc i + length xs = omega arith in
    ap (λ (j : ℕ). sets (sets (set l i x) (suc i) xs) j ys) e ∙ sets_append (set l i x) (suc i) xs ys

-- the five stores of an entry
pub put_stores : (before : List ℕ) (at kind node count key position : ℕ)
    → set (set (set (set (set before (at * entry_words) kind) (at * entry_words + 1) node) (at * entry_words + 2) count) (at * entry_words + 3) key) (at * entry_words + 4) position ≡ sets before (at * entry_words) (words (entry kind node count (below key position) ∷ []))
unfolding words
put_stores before at kind node count key position = simp (add-one, add-two, add-three, add-four)

pub laid_none : (before : List ℕ) (at : ℕ) → Laid before at [] before at
unfolding words
laid_none before at = record { end = omega arith; stored = refl }

pub laid_put : {before after : List ℕ} {at : ℕ} {e : Entry} → after ≡ sets before (at * entry_words) (words (e ∷ [])) → Laid before at (e ∷ []) after (at + 1)
laid_put p = record { end = refl; stored = p }

pub laid_append : {before mid after : List ℕ} {at r s : ℕ} {es fs : List Entry} → Laid before at es mid r → Laid mid r fs after s → Laid before at (es ++ fs) after s
laid_append {before} {mid} {after} {at} {r} {s} {es} {fs} a b = record {
  end = let p = a.end in let q = b.end in omega (arith, length-append es fs);
  stored =
      let p = a.end in
      let place : r * entry_words ≡ at * entry_words + length (words es) = omega (arith, length_words es) in
      b.stored
      ∙ (ap (λ (l : List ℕ). sets l (r * entry_words) (words fs)) a.stored
      ∙ (ap (λ (j : ℕ). sets (sets before (at * entry_words) (words es)) j (words fs)) place
      ∙ (sets_append before (at * entry_words) (words es) (words fs) ∙ ap (λ (l : List ℕ). sets before (at * entry_words) l) (sym (words_append es fs)))));
}
