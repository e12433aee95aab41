-- Records copied into words one by one.
use Prim.Native.Nat.{ℕ, zero, suc, ◌+◌, ◌*◌, ◌≤◌, ◌<◌, min}
use mathlib.Core.Path.{◌≡◌, refl, sym, ◌∙◌, ap}
use mathlib.Core.List.{List, [], ◌∷◌}
use native.Mathlib.Omega.{arith}
use native.Mathlib.Nat.{not-suc-le-zero}
use lib.ListN.{length, set, take, length-take}
use Rattle.teluddru.specs.declared.Name.{Name}
use Rattle.teluddru.specs.Records.{name_words}
use Rattle.teluddru.specs.code.Copying.{name_at, Copied}

-- how many are copied
count_small : (n : ℕ) → min 129 n ≤ 129
count_small n = omega arith

-- xs in place of the first words, as far as there are words
overwrite : List ℕ → List ℕ → List ℕ
overwrite [] ws = ws
overwrite (x ∷ xs) [] = []
overwrite (x ∷ xs) (w ∷ ws) = x ∷ overwrite xs ws

-- the words after k records
pub after : ℕ → List Name → List ℕ → List ℕ
after k ns ws = overwrite (name_words (take k ns)) ws

pub after_none : (ns : List Name) (ws : List ℕ) → ws ≡ after 0 ns ws
unfolding after name_words overwrite
after_none ns ws = refl

take_min : (k : ℕ) (ns : List Name) → take (length (take k ns)) ns ≡ take k ns
take_min zero ns = refl
take_min (suc k) [] = refl
take_min (suc k) (n ∷ ns) = ap (λ (l : List Name). n ∷ l) (take_min k ns)

after_all : (k : ℕ) (ns : List Name) (ws : List ℕ) → after (min k (length ns)) ns ws ≡ overwrite (name_words (take k ns)) ws
unfolding after
after_all k ns ws = ap (λ (l : List Name). overwrite (name_words l) ws) (ap (λ (m : ℕ). take m ns) (sym (length-take k ns)) ∙ take_min k ns)

-- two words further on
up : (k : ℕ) → suc k * 2 ≡ suc (suc (k * 2))
up k = omega arith

up_one : (k : ℕ) → suc k * 2 + 1 ≡ suc (suc (k * 2 + 1))
up_one k = omega arith

pub one_more : (k : ℕ) (ns : List Name) (ws : List ℕ) → k < length ns
    → set (set (after k ns ws) (k * 2) (name_at ns k).start) (k * 2 + 1) (name_at ns k).length ≡ after (suc k) ns ws
unfolding after name_words overwrite
one_more k [] ws l = absurd (not-suc-le-zero l)
one_more zero (n ∷ ns) [] l = refl
one_more zero (n ∷ ns) (a ∷ []) l = refl
one_more zero (n ∷ ns) (a ∷ b ∷ ws) l = refl
one_more (suc k) (n ∷ ns) [] l = refl
one_more (suc k) (n ∷ ns) (a ∷ []) l =
    λ i. set (set (n.start ∷ []) (up k i) (name_at ns k).start) (up_one k i) (name_at ns k).length
one_more (suc k) (n ∷ ns) (a ∷ b ∷ ws) l =
    (λ i. set (set (n.start ∷ n.length ∷ overwrite (name_words (take k ns)) ws) (up k i) (name_at ns k).start) (up_one k i) (name_at ns k).length)
    ∙ ap (λ (l' : List ℕ). n.start ∷ n.length ∷ l') (one_more k ns ws (omega (arith, l)))

pub words_length : (ns : List Name) → length (name_words ns) ≡ length ns * 2
unfolding name_words
words_length [] = refl
words_length (n ∷ ns) = let e = words_length ns in omega (arith, e)

-- what was written stands first
first_words : (xs ws : List ℕ) → length xs ≤ length ws → take (length xs) (overwrite xs ws) ≡ xs
unfolding overwrite
first_words [] ws l = refl
first_words (x ∷ xs) [] l = absurd (not-suc-le-zero l)
first_words (x ∷ xs) (w ∷ ws) l = ap (λ (l' : List ℕ). x ∷ l') (first_words xs ws (omega (arith, l)))

-- what `copy_names` returns
pub all_copied : (ns : List Name) (ws : List ℕ) → length ws ≡ 258 → Copied ns (record { words = after (min 129 (length ns)) ns ws; count = min 129 (length ns) })
all_copied ns ws z =
    let t = length-take 129 ns in
    let l = words_length (take 129 ns) in
    let size : min 129 (length ns) * 2 ≡ length (name_words (take 129 ns)) = omega (arith, l, t) in
    record {
      few = count_small (length ns);
      same = ap (λ (us : List ℕ). take (min 129 (length ns) * 2) us) (after_all 129 ns ws) ∙ ap (λ (k : ℕ). take k (overwrite (name_words (take 129 ns)) ws)) size
          ∙ first_words (name_words (take 129 ns)) ws (omega (arith, l, t, z));
    }
