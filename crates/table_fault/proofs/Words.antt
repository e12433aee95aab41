-- A node's words, taken apart: the kind, the unused words, the range and a name's text are `words_ok`.
use Prim.Native.Nat.{ℕ, ◌+◌, ◌*◌, ◌≤◌}
use mathlib.Core.Path.{◌≡◌, refl, sym, ap, ◌∙◌}
use mathlib.Core.Bool.{Bool, true, false, cond, ◌&&◌, and-true, and-false, and_assoc, and_comm}
use native.Mathlib.Omega.{arith}
use borrow.Author.Tests.{leb-true, ne_eqb, eqb-true, eqb-false}
use lib.Dec.{eqb, leb, ltb}
use Rattle.base.specs.Lists.{all_from}
use Rattle.table.specs.Tables.{Tables, kind_of, first_word_of, count_of, number_count, name_count}
use Rattle.table.specs.Rules.{inside, name_text_ok, words_ok, node_ok, node_ok_at}
use Rattle.table.proofs.tests.Scan.{all_both}
use Rattle.table_fault.specs.Rules.{kind_listed, unused_zero, range_ok, kind_ok_at, span_ok_at, unused_ok_at, range_ok_at, text_ok_at, below_ok_at}

-- a number from k on: k, or above it
pub next : {A : Type 0} (x k : ℕ) → k ≤ x → (x ≡ k → A) → (k + 1 ≤ x → A) → A
next {A = A} x k le here above = go (eqb x k) refl
  where
    go : (b : Bool) → eqb x k ≡ b → A
    go true e = here (eqb-true x k e)
    go false e = let ne = eqb-false x k e in above (omega arith)

-- a name's tests, in another order
named : (a b d e : Bool) → (a && (b && (d && e))) ≡ (d && ((a && b) && e))
named true true d e = refl
named true false d e = sym (and-false d)
named false b d e = sym (and-false d)

module _ (T : Tables) (n first count : ℕ) where
  abbrev apart : ℕ → Bool
  apart kind = kind_listed kind && (unused_zero kind first count && (range_ok T kind first count && cond (eqb kind 6) (name_text_ok T n) true))

  -- a kind that is not listed
  none_listed : (kind : ℕ) → ((k : ℕ) → 1 ≤ k → k ≤ 10 → kind ≡ k → ⊥) → false ≡ kind_listed kind
  none_listed kind differs = go (leb 1 kind) refl (leb kind 10) refl
    where
      go : (a : Bool) → leb 1 kind ≡ a → (b : Bool) → leb kind 10 ≡ b → false ≡ (leb 1 kind && leb kind 10)
      go true p true q = absurd (differs kind (leb-true _ _ p) (leb-true _ _ q) refl)
      go true p false q = rw (p, q)
      go false p b q = rw p

  unlisted : (kind : ℕ) → ((k : ℕ) → 1 ≤ k → k ≤ 10 → kind ≡ k → ⊥) → words_ok T n kind first count ≡ apart kind
  unfolding words_ok
  unlisted kind differs =
      simp (
        ne_eqb _ 1 (differs 1 (omega arith) (omega arith)),
        ne_eqb _ 2 (differs 2 (omega arith) (omega arith)),
        ne_eqb _ 3 (differs 3 (omega arith) (omega arith)),
        ne_eqb _ 4 (differs 4 (omega arith) (omega arith)),
        ne_eqb _ 5 (differs 5 (omega arith) (omega arith)),
        ne_eqb _ 6 (differs 6 (omega arith) (omega arith)),
        ne_eqb _ 7 (differs 7 (omega arith) (omega arith)),
        ne_eqb _ 8 (differs 8 (omega arith) (omega arith)),
        ne_eqb _ 9 (differs 9 (omega arith) (omega arith)),
        ne_eqb _ 10 (differs 10 (omega arith) (omega arith)),
        sym (none_listed kind differs),
      )

  pub words_apart : (kind : ℕ) → words_ok T n kind first count ≡ apart kind
  unfolding words_ok unused_zero range_ok
  words_apart kind =
      next kind 0 (omega arith) (λ e. unlisted kind (λ k low high q. omega arith))
      (λ b₁. next kind 1 b₁ (λ e. rw e (sym (and-true (inside first count T.strings))))
      (λ b₂. next kind 2 b₂ (λ e. rw e (sym (and-true (inside first count T.text))))
      (λ b₃. next kind 3 b₃ (λ e. rw (e, and-true (ltb first (number_count T))) (and_comm (ltb first (number_count T)) (eqb count 0)))
      (λ b₄. next kind 4 b₄ (λ e. rw (e, and-true (leb first 1)) (and_comm (leb first 1) (eqb count 0)))
      (λ b₅. next kind 5 b₅ (λ e. rw e (sym (and-true (eqb first 0 && eqb count 0))))
      (λ b₆. next kind 6 b₆ (λ e. rw e (named (leb 1 first) (leb first (name_count T)) (eqb count 0) (name_text_ok T n)))
      (λ b₇. next kind 7 b₇ (λ e. rw e (sym (and-true (inside first count T.children))))
      (λ b₈. next kind 8 b₈ (λ e. rw e (sym (and-true (inside first count T.children))))
      (λ b₉. next kind 9 b₉ (λ e. rw e (sym (and-true (inside first (count * 2) T.children))))
      (λ b₁₀. next kind 10 b₁₀ (λ e. rw e (sym (and-true (eqb first 0 && eqb count 0))))
      (λ b₁₁. unlisted kind (λ k low high q. omega arith))))))))))))

-- a node's tests, in the list's order
ordered : (s k u r t b : Bool) → (s && ((k && (u && (r && t))) && b)) ≡ (k && (s && (u && (r && (t && b)))))
ordered true true u r t b = and_assoc u (r && t) b ∙ ap (λ (x : Bool). u && x) (and_assoc r t b)
ordered true false u r t b = refl
ordered false k u r t b = sym (and-false k)

module _ (T : Tables) where
  abbrev part1 : ℕ → Bool
  part1 j = text_ok_at T j && below_ok_at T j

  abbrev part2 : ℕ → Bool
  part2 j = range_ok_at T j && part1 j

  abbrev part3 : ℕ → Bool
  part3 j = unused_ok_at T j && part2 j

  abbrev part4 : ℕ → Bool
  part4 j = span_ok_at T j && part3 j

  node_apart : (j : ℕ) → node_ok_at T j ≡ (kind_ok_at T j && part4 j)
  unfolding node_ok
  node_apart j =
      rw (words_apart T (j + 1) (first_word_of T.nodes (j + 1)) (count_of T.nodes (j + 1)) (kind_of T.nodes (j + 1)))
      (ordered (span_ok_at T j) (kind_ok_at T j) (unused_ok_at T j) (range_ok_at T j) (text_ok_at T j) (below_ok_at T j))

  pub nodes_apart : (k : ℕ) → all_from (node_ok_at T) 0 k
      ≡ (all_from (kind_ok_at T) 0 k && (all_from (span_ok_at T) 0 k && (all_from (unused_ok_at T) 0 k && (all_from (range_ok_at T) 0 k && (all_from (text_ok_at T) 0 k && all_from (below_ok_at T) 0 k)))))
  nodes_apart k =
      rw (
        all_both (kind_ok_at T) part4 (node_ok_at T) node_apart 0 k,
        all_both (span_ok_at T) part3 part4 (λ j. refl) 0 k,
        all_both (unused_ok_at T) part2 part3 (λ j. refl) 0 k,
        all_both (range_ok_at T) part1 part2 (λ j. refl) 0 k,
        all_both (text_ok_at T) (below_ok_at T) part1 (λ j. refl) 0 k,
      )
