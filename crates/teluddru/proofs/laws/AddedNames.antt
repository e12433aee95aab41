-- Adding a name over the words that are copied, and over all records.
use Prim.Native.Nat.{ℕ, zero, suc, ◌+◌, ◌*◌, ◌%◌, ◌<◌, ◌≤◌}
use mathlib.Core.Path.{◌≡◌, refl, sym, ◌∙◌, ap, subst}
use mathlib.Core.Bool.{Bool, true, false, ◌&&◌, cond, false≢true}
use mathlib.Core.List.{List, [], ◌∷◌, ◌++◌}
use native.Mathlib.Omega.{arith}
use native.Mathlib.Nat.{not-suc-le-zero}
use lib.Dec.{eqb, leb, ltb}
use lib.ListN.{length, take, drop, set, length-take, length-append, take-append-drop}
use lib.Seq.{take_all, take-append-le}
use borrow.Author.Tests.{leb-true, leb-false, ltb-true, eqb-false, le-leb, lt-ltb}
use Rattle.base.specs.Lists.{part}
use Rattle.base.specs.Refusal as Refusal
use Rattle.base.specs.Refusal.{Refusal, over_limit, breaks_rules, no_place, Tested, passed, require, require_or, tested_or, Line}
use Rattle.scope.specs.Scope.{new_scope}
use Rattle.table.specs.Tables.{Tables, tables, node_count, number_count, name_bytes}
use Rattle.table.specs.Names.{same_bytes}
use Rattle.table.proofs.tests.Bools.{and_true}
use Rattle.table.specs.Check.{checked, table_refused}
use Rattle.name_table.specs.declared.NameAnswer.{NameAnswer}
use Rattle.name_table.specs.declared.NameAnswer.TheVariants as Answer
use Rattle.name_table.specs.declared.NameRefusal.{NameRefusal}
use Rattle.name_table.specs.declared.NameRefusal.TheVariants as No
use Rattle.std.proofs.Common.{Result, Ok, Err}
use Rattle.name_table.specs.Adding.{places, in_use, in_use_within_limits, has_names, checked_in_use, allowed, number_from, existing_or_added, at_end, AddOutcome, refused, existing, added, add_outcome, add_line, names_after}
use Rattle.name_table.specs.Answer.{name_line, NameAdded}
use Rattle.name_table.proofs.Kept.{bytes_kept}
use Rattle.name_table.proofs.Cases.{pairs_of_names}
use Rattle.teluddru.specs.declared.Name.{Name}
use Rattle.teluddru.specs.declared.records.NameWords.{NameWords}
use Rattle.teluddru.specs.Records.{name_words}
use Rattle.teluddru.specs.Adding.{RecordLaws}
use Rattle.teluddru.specs.code.Copying.{held, Copied}
use Rattle.teluddru.specs.code.Placing.{a_name, place_of, put_at}
use Rattle.teluddru.proofs.laws.Copying.{words_length}

-- ---- the words of records
words_append : (ns ms : List Name) → name_words (ns ++ ms) ≡ name_words ns ++ name_words ms
unfolding name_words
words_append [] ms = refl
words_append (n ∷ ns) ms = ap (λ (l : List ℕ). n.start ∷ n.length ∷ l) (words_append ns ms)

words_split : (k : ℕ) (ns : List Name) → name_words (take k ns) ++ name_words (drop k ns) ≡ name_words ns
words_split k ns = sym (words_append (take k ns) (drop k ns)) ∙ ap name_words (take-append-drop k ns)

up : (k : ℕ) → suc k * 2 ≡ suc (suc (k * 2))
up k = omega arith

up_two : (k : ℕ) → suc k * 2 + 2 ≡ suc (suc (k * 2 + 2))
up_two k = omega arith

-- a record that is set, in words
words_set : (ns : List Name) (k start size : ℕ) → k < length ns
    → name_words (set ns k (a_name start size)) ≡ take (k * 2) (name_words ns) ++ (start ∷ (size ∷ drop (k * 2 + 2) (name_words ns)))
unfolding name_words
words_set [] k start size l = absurd (not-suc-le-zero l)
words_set (n ∷ ns) zero start size l = refl
words_set (n ∷ ns) (suc k) start size l =
    ap (λ (ws : List ℕ). n.start ∷ n.length ∷ ws) (words_set ns k start size (omega (arith, l)))
    ∙ sym (λ i. take (up k i) (n.start ∷ n.length ∷ name_words ns) ++ (start ∷ (size ∷ drop (up_two k i) (n.start ∷ n.length ∷ name_words ns))))

head_or : List ℕ → ℕ
head_or [] = 0
head_or (x ∷ xs) = x

tail_of : List ℕ → List ℕ
tail_of [] = []
tail_of (x ∷ xs) = xs

no_words : {x y : ℕ} {l : List ℕ} → [] ≡ x ∷ (y ∷ l) → ⊥
no_words {x} {y} {l} e = subst (λ (ws : List ℕ). full ws) (sym e) tt
  where
    full : List ℕ → Type 0
    full [] = ⊥
    full (w ∷ ws) = Unit {0}

words_settle : (ns ms : List Name) → name_words ns ≡ name_words ms → ns ≡ ms
unfolding name_words head_or tail_of
words_settle [] [] e = refl
words_settle [] (m ∷ ms) e = absurd (no_words e)
words_settle (n ∷ ns) [] e = absurd (no_words (sym e))
words_settle (n ∷ ns) (m ∷ ms) e = λ i. (record { start = head_or (e i); length = head_or (tail_of (e i)) }) ∷ words_settle ns ms (λ j. tail_of (tail_of (e j))) i

pub record_laws : RecordLaws
record_laws = record { settled = words_settle }

-- ---- more records than the limit: the first 129 say all that adding reads
module _ (nodes children numbers strings text : List ℕ) (used start size : ℕ) where
  abbrev over : List ℕ → Tables
  over names = tables nodes children numbers names strings text

  abbrev outcome : List ℕ → AddOutcome
  outcome names = add_outcome (over names) used start size

  module _ (firsts more : List ℕ) (many : length firsts ≡ 129 * 2) (whole : length more % 2 ≡ 0) where
    abbrev all : List ℕ
    all = firsts ++ more

    all_length : length all ≡ length firsts + length more
    all_length = length-append firsts more

    abbrev check : Tables → Bool → Tested
    check T there = require (in_use_within_limits (over firsts) used) over_limit (require there breaks_rules (checked T (new_scope 0 false)))

    same_check : used ≤ 128 → checked_in_use (over all) used ≡ checked_in_use (over firsts) used
    unfolding checked_in_use
    same_check l =
        let longer = all_length in
        let there : has_names all used ≡ true = sym (pairs_of_names all used (omega (arith, many, longer, whole))) ∙ le-leb used (places all) (omega (arith, l, many, longer)) in
        let there' : has_names firsts used ≡ true = sym (pairs_of_names firsts used (omega (arith, many))) ∙ le-leb used (places firsts) (omega (arith, l, many)) in
        ap (λ (T : Tables). check T (has_names all used)) (ap over (take-append-le (used * 2) firsts more (omega (arith, l, many)))) ∙ ap (check (in_use (over firsts) used)) (there ∙ sym there')

    few_used : in_use_within_limits (over firsts) used ≡ true → used ≤ 128
    few_used e =
        let a = and_true (leb (node_count (over firsts)) 512) _ e in
        let b = and_true (leb (length children) 512) _ a.1 in
        let c = and_true (leb (number_count (over firsts)) 256) _ b.1 in
        leb-true used 128 (and_true (leb used 128) _ c.1).0

    same_number : (bytes : List ℕ) (x k : ℕ) → x + k ≤ 130 → number_from all text bytes x k ≡ number_from firsts text bytes x k
    unfolding number_from
    same_number bytes x zero l = refl
    same_number bytes x (suc k) l =
        let here = bytes_kept firsts more 129 many text x (omega (arith, l)) in
        let on = same_number bytes (x + 1) k (omega (arith, l)) in
        ap (λ (name : List ℕ). cond (same_bytes name bytes) x (number_from all text bytes (x + 1) k)) here ∙ ap (λ (n : ℕ). cond (same_bytes (name_bytes firsts text x) bytes) x n) on

    same_end : used ≤ 128 → at_end all used ≡ at_end firsts used
    unfolding at_end
    same_end l =
        let longer = all_length in
        let free : ltb used (places all) ≡ true = lt-ltb used (places all) (omega (arith, l, many, longer)) in
        let free' : ltb used (places firsts) ≡ true = lt-ltb used (places firsts) (omega (arith, l, many)) in
        ap (λ (b : Bool). require_or refused (b && ltb used 128) no_place (added (used + 1))) (free ∙ sym free')

    abbrev told : Tested → AddOutcome → AddOutcome
    told tested rest = tested_or refused tested (require_or refused (allowed text start size) breaks_rules rest)

    same_all : outcome all ≡ outcome firsts
    unfolding add_outcome checked_in_use
    same_all = go (in_use_within_limits (over firsts) used) refl
      where
        go : (b : Bool) → in_use_within_limits (over firsts) used ≡ b → outcome all ≡ outcome firsts
        go false e = simp e
        go true e =
            let few = few_used e in
            let number = same_number (part text start size) 1 used (omega (arith, few)) in
            ap (λ (t : Tested). told t (existing_or_added all used (number_from all text (part text start size) 1 used))) (same_check few)
            ∙ ap (told (checked_in_use (over firsts) used)) (ap (λ (n : ℕ). existing_or_added all used n) number ∙ ap (λ (o : AddOutcome). cond (eqb (number_from firsts text (part text start size) 1 used) 0) o (existing (number_from firsts text (part text start size) 1 used))) (same_end few))

  by_size : (ns : List Name) (b : Bool) → leb (length ns) 129 ≡ b → outcome (name_words (take 129 ns)) ≡ outcome (name_words ns)
  by_size ns true e = ap (λ (l : List Name). outcome (name_words l)) (take_all 129 ns (leb-true (length ns) 129 e))
  by_size ns false e =
      let more = leb-false (length ns) 129 e in
      let t = length-take 129 ns in
      let few = words_length (take 129 ns) in
      let rest = words_length (drop 129 ns) in
      sym (same_all (name_words (take 129 ns)) (name_words (drop 129 ns)) (omega (arith, more, t, few)) (omega (arith, rest))) ∙ ap outcome (words_split 129 ns)

  pub add_all : (ns : List Name) (names : NameWords) → Copied ns names → outcome (held names) ≡ outcome (name_words ns)
  add_all ns names c = ap outcome c.same ∙ by_size ns (leb (length ns) 129) refl

-- ---- a name is added only where there is a free place
is_added : AddOutcome → Bool
is_added (refused r) = false
is_added (existing x) = false
is_added (added x) = true

refused_not : (t : Tested) (b : Bool) (o : AddOutcome) → is_added o ≡ false → is_added (tested_or refused t (require_or refused b breaks_rules o)) ≡ false
unfolding is_added
refused_not passed true o e = e
refused_not passed false o e = refl
refused_not (Refusal.refused r) b o e = refl

placed_not : (number : ℕ) (b : Bool) (o : AddOutcome) → is_added o ≡ false → is_added (cond b o (existing number)) ≡ false
unfolding is_added
placed_not number true o e = e
placed_not number false o e = refl

end_not : (names : List ℕ) (used : ℕ) → ltb used (places names) ≡ false → is_added (at_end names used) ≡ false
unfolding is_added at_end
end_not names used e = simp e

has_place_lem : (T : Tables) (used start size x : ℕ) → add_outcome T used start size ≡ added x → used < places T.names
unfolding add_outcome is_added
has_place_lem T used start size x e = go (ltb used (places T.names)) refl
  where
    go : (b : Bool) → ltb used (places T.names) ≡ b → used < places T.names
    go true h = ltb-true used (places T.names) h
    go false h =
        let number = number_from T.names T.text (part T.text start size) 1 used in
        let not = refused_not (checked_in_use T used) (allowed T.text start size) (existing_or_added T.names used number) (placed_not number (eqb number 0) (at_end T.names used) (end_not T.names used h)) in
        absurd (false≢true (sym not ∙ ap is_added e))

-- ---- the records afterwards
not_zero : (r : Refusal) → r.number ≡ 0 → ⊥
not_zero r e = eqb-false r.number 0 r.refuses e

one_not : ◌≡◌ {A = ℕ} 1 0 → ⊥
one_not e = omega (arith, e)

place_not : ◌≡◌ {A = ℕ} 33 0 → ⊥
place_not e = omega (arith, e)

module _ (ns after : List Name) (used start size : ℕ) where
  abbrev Left : AddOutcome → Type 0
  Left o = name_words after ≡ names_after o (name_words ns) used start size

  left : (a : Result NameAnswer NameRefusal) (o : AddOutcome) → name_line a ≡ add_line o → after ≡ put_at (place_of a used) (a_name start size) ns → ((x : ℕ) → o ≡ added x → used < length ns) → Left o
  left (Ok (Answer.Added x)) (added y) e put there = ap name_words put ∙ words_set ns used start size (there y refl)
  left (Ok (Answer.Added x)) (existing y) e put there = absurd (one_not (ap (λ (l : Line). l.third) e))
  left (Ok (Answer.Added x)) (refused r) e put there = absurd (not_zero r (sym (ap (λ (l : Line). l.number) e)))
  left (Ok (Answer.Existing x)) (added y) e put there = absurd (one_not (sym (ap (λ (l : Line). l.third) e)))
  left (Ok (Answer.Existing x)) (existing y) e put there = ap name_words put
  left (Ok (Answer.Existing x)) (refused r) e put there = ap name_words put
  left (Err (No.TableRefused a)) (added y) e put there = absurd (not_zero (table_refused a) (ap (λ (l : Line). l.number) e))
  left (Err (No.TableRefused a)) (existing y) e put there = ap name_words put
  left (Err (No.TableRefused a)) (refused r) e put there = ap name_words put
  left (Err No.NoPlace) (added y) e put there = absurd (place_not (ap (λ (l : Line). l.number) e))
  left (Err No.NoPlace) (existing y) e put there = ap name_words put
  left (Err No.NoPlace) (refused r) e put there = ap name_words put

-- what `add_name` says, from what it was told over the words that were copied
pub name_added : (nodes children numbers strings text : List ℕ) (used start size : ℕ) (ns after : List Name) (names : NameWords) (a : Result NameAnswer NameRefusal) → Copied ns names
    → name_line a ≡ add_line (add_outcome (tables nodes children numbers (held names) strings text) used start size) → after ≡ put_at (place_of a used) (a_name start size) ns
    → NameAdded (add_outcome (tables nodes children numbers (name_words ns) strings text) used start size) used start size (name_words ns) (name_words after) a
name_added nodes children numbers strings text used start size ns after names a c told put =
    let o = add_outcome (tables nodes children numbers (name_words ns) strings text) used start size in
    let answer : name_line a ≡ add_line o = told ∙ ap add_line (add_all nodes children numbers strings text used start size ns names c) in
    let l = words_length ns in
    record {
      answer = answer;
      names = left ns after used start size a o answer put (λ x e. let there = has_place_lem (tables nodes children numbers (name_words ns) strings text) used start size x e in omega (arith, l, there));
    }
