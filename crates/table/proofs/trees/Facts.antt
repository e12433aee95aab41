-- What a table that passed the check gives, rule by rule.
use Prim.Native.Nat.{ℕ, ◌+◌, ◌-◌, ◌*◌, ◌%◌, ◌≤◌, ◌<◌}
use mathlib.Core.Path.{◌≡◌, refl, sym, ap, ◌∙◌}
use mathlib.Core.Bool.{Bool, true, false, ◌&&◌, false≢true}
use mathlib.Core.Option.{Option, some}
use native.Mathlib.Omega.{arith}
use borrow.Author.Tests.{ne_eqb, le-leb, leb-true, ltb-true, eqb-true, eqb-false, ltb-false, not-true}
use lib.ListN.{length, get_or}
use lib.Dec.{eqb, leb, ltb}
use Rattle.literal.specs.Literal.{Literal, null, boolean, number, string, is_number}
use Rattle.base.specs.Lists.{part, all_from, no_repeat}
use Rattle.literal.specs.Reading.{literal_of}
use Rattle.scope.specs.declared.Scope.{Scope}
use Rattle.scope.specs.Scope.{is_underscore}
use Rattle.base.specs.Refusal.{over_limit, breaks_rules, too_deep, equal_names}
use Rattle.base.specs.Refusal as Refusal
use Rattle.table.specs.Tables.{Tables, kind_of, start_of, end_of, first_word_of, count_of, node_count, number_count, name_count, width, child_at, name_start, name_length, name_bytes}
use Rattle.table.specs.Expr.{depth}
use Rattle.table.specs.Decode.{expr, literal_at, literal_node, ref_of, is_wildcard}
use Rattle.table.specs.Names.{same_bytes}
use Rattle.table.specs.Rules.{within_limits, whole_records, inside, span_ok, name_text_ok, words_ok, below_at, children_below, node_ok, node_ok_at, entry_ok, used_places, number_ok, name_ok, name_ok_at, scope_ok, follows_rules, depth_ok_at, shallow, differ_at, new_name_at, names_differ}
use Rattle.table.specs.Check.{checked}
use Rattle.table.specs.code.Sound.{Node, Named, Limits, WellFormed, SoundTable}
use Rattle.table.proofs.tests.Bools.{and_true, never}
use Rattle.table.proofs.tests.Scan.{all_at}
use Rattle.table.proofs.tests.Bytes.{same_bytes_equal, equal_same_bytes}
use Rattle.table.proofs.trees.Trees.{width_array, width_set, width_object, width_leaf}

-- the check passes exactly where each of its four parts does
pub record Passed (T : Tables) (s : Scope) : Type 0 where
  pub limits : within_limits T ≡ true
  pub rules : follows_rules T s ≡ true
  pub depths : shallow T ≡ true
  pub names : names_differ T ≡ true

pub passed : (T : Tables) (s : Scope) → checked T s ≡ Refusal.passed → Passed T s
unfolding checked
passed T s e = go (within_limits T) refl (follows_rules T s) refl (shallow T) refl (names_differ T) refl
  where
    go : (a : Bool) → within_limits T ≡ a → (b : Bool) → follows_rules T s ≡ b → (d : Bool) → shallow T ≡ d → (f : Bool) → names_differ T ≡ f → Passed T s
    go true p true q true r true t = record { limits = p; rules = q; depths = r; names = t }
    go false p b q d r f t = let h : Refusal.refused over_limit ≡ Refusal.passed = simp p at e in never (cc)
    go true p false q d r f t = let h : Refusal.refused breaks_rules ≡ Refusal.passed = simp (p, q) at e in never (cc)
    go true p true q false r f t = let h : Refusal.refused too_deep ≡ Refusal.passed = simp (p, q, r) at e in never (cc)
    go true p true q true r false t = let h : Refusal.refused equal_names ≡ Refusal.passed = simp (p, q, r, t) at e in never (cc)

pub limits_of : (T : Tables) → within_limits T ≡ true → Limits T
unfolding within_limits
limits_of T e =
    let a = and_true _ _ e in
    let b = and_true _ _ a.1 in
    let d = and_true _ _ b.1 in
    let f = and_true _ _ d.1 in
    let g = and_true _ _ f.1 in
    record {
      nodes = leb-true _ _ a.0;
      children = leb-true _ _ b.0;
      numbers = leb-true _ _ d.0;
      names = leb-true _ _ f.0;
      strings = leb-true _ _ g.0;
      text = leb-true _ _ g.1;
    }

-- the rules, taken apart
pub record Followed (T : Tables) (s : Scope) : Type 0 where
  pub whole : whole_records T ≡ true
  pub names : all_from (name_ok_at T) 0 (name_count T) ≡ true
  pub numbers : all_from (number_ok T) 0 (number_count T) ≡ true
  pub entries : all_from (entry_ok T) 0 (length T.children) ≡ true
  pub nodes : all_from (node_ok_at T) 0 (node_count T) ≡ true
  pub once : no_repeat T.children ≡ true
  pub apart : no_repeat (used_places T.nodes 1 (node_count T)) ≡ true
  pub scope : scope_ok T s ≡ true

pub followed : (T : Tables) (s : Scope) → follows_rules T s ≡ true → Followed T s
unfolding follows_rules
followed T s e =
    let a = and_true _ _ e in
    let b = and_true _ _ a.1 in
    let d = and_true _ _ b.1 in
    let f = and_true _ _ d.1 in
    let g = and_true _ _ f.1 in
    let h = and_true _ _ g.1 in
    let i = and_true _ _ h.1 in
    record { whole = a.0; names = b.0; numbers = d.0; entries = f.0; nodes = g.0; once = h.0; apart = i.0; scope = i.1 }

-- a place counted from 0
pub from_zero : (p : ℕ → Bool) (k : ℕ) → all_from p 0 k ≡ true → (j : ℕ) → j < k → p j ≡ true
from_zero p k e j lt = let a : 0 + j ≡ j = omega arith in rw a at (all_at p 0 k e j lt)

-- one node
module _ (T : Tables) (n : ℕ) where
  module _ (ok : words_ok T n (kind_of T.nodes n) (first_word_of T.nodes n) (count_of T.nodes n) ≡ true) where
    -- a kind that is not listed fails
    listed_kind : (1 ≤ kind_of T.nodes n) × (kind_of T.nodes n ≤ 10)
    unfolding words_ok
    listed_kind = go (leb 1 (kind_of T.nodes n)) refl (leb (kind_of T.nodes n) 10) refl
      where
        unlisted : ((k : ℕ) → 1 ≤ k → k ≤ 10 → kind_of T.nodes n ≡ k → ⊥) → (1 ≤ kind_of T.nodes n) × (kind_of T.nodes n ≤ 10)
        unlisted differs =
            absurd (false≢true (simp (
              ne_eqb _ 1 (differs 1 (omega arith) (omega arith)),
              ne_eqb _ 2 (differs 2 (omega arith) (omega arith)),
              ne_eqb _ 3 (differs 3 (omega arith) (omega arith)),
              ne_eqb _ 4 (differs 4 (omega arith) (omega arith)),
              ne_eqb _ 5 (differs 5 (omega arith) (omega arith)),
              ne_eqb _ 6 (differs 6 (omega arith) (omega arith)),
              ne_eqb _ 7 (differs 7 (omega arith) (omega arith)),
              ne_eqb _ 8 (differs 8 (omega arith) (omega arith)),
              ne_eqb _ 9 (differs 9 (omega arith) (omega arith)),
              ne_eqb _ 10 (differs 10 (omega arith) (omega arith)),
            ) at ok))

        go : (a : Bool) → leb 1 (kind_of T.nodes n) ≡ a → (b : Bool) → leb (kind_of T.nodes n) 10 ≡ b → (1 ≤ kind_of T.nodes n) × (kind_of T.nodes n ≤ 10)
        go true p true q = (leb-true _ _ p, leb-true _ _ q)
        go false p b q = unlisted (λ k l h e. false≢true (sym p ∙ le-leb 1 (kind_of T.nodes n) (omega arith)))
        go true p false q = unlisted (λ k l h e. false≢true (sym q ∙ le-leb (kind_of T.nodes n) 10 (omega arith)))

    named_by : kind_of T.nodes n ≡ 6 → Named T (first_word_of T.nodes n) × (name_text_ok T n ≡ true)
    unfolding words_ok
    named_by k =
        let h : (leb 1 (first_word_of T.nodes n) && (leb (first_word_of T.nodes n) (name_count T) && (eqb (count_of T.nodes n) 0 && name_text_ok T n))) ≡ true = simp k at ok in
        let a = and_true (leb 1 (first_word_of T.nodes n)) _ h in
        let b = and_true (leb (first_word_of T.nodes n) (name_count T)) _ a.1 in
        let d = and_true (eqb (count_of T.nodes n) 0) _ b.1 in
        (record { low = leb-true _ _ a.0; high = leb-true _ _ b.0 }, d.1)

    pub listed_by : 7 ≤ kind_of T.nodes n → kind_of T.nodes n ≤ 9 → first_word_of T.nodes n + width T.nodes n ≤ length T.children
    unfolding words_ok
    listed_by low high = go (eqb (kind_of T.nodes n) 7) refl (eqb (kind_of T.nodes n) 8) refl
      where
        go : (a : Bool) → eqb (kind_of T.nodes n) 7 ≡ a → (b : Bool) → eqb (kind_of T.nodes n) 8 ≡ b → first_word_of T.nodes n + width T.nodes n ≤ length T.children
        go true p b q =
            let k = eqb-true (kind_of T.nodes n) _ p in
            let h : inside (first_word_of T.nodes n) (count_of T.nodes n) T.children ≡ true = simp k at ok in
            rw (width_array (kind_of T.nodes n) (count_of T.nodes n) k) (leb-true _ _ h)
        go false p true q =
            let k = eqb-true (kind_of T.nodes n) _ q in
            let h : inside (first_word_of T.nodes n) (count_of T.nodes n) T.children ≡ true = simp k at ok in
            rw (width_set (kind_of T.nodes n) (count_of T.nodes n) k) (leb-true _ _ h)
        go false p false q =
            let k : kind_of T.nodes n ≡ 9 = omega (arith, eqb-false (kind_of T.nodes n) _ p, eqb-false (kind_of T.nodes n) _ q) in
            let h : inside (first_word_of T.nodes n) (count_of T.nodes n * 2) T.children ≡ true = simp k at ok in
            rw (width_object (kind_of T.nodes n) (count_of T.nodes n) k) (leb-true _ _ h)

    -- kinds 1 to 5, each in turn; `numbers` is that the number at each place below their count is one
    literal_by : ((place : ℕ) → place < number_count T → number_ok T place ≡ true) → 1 ≤ kind_of T.nodes n → kind_of T.nodes n ≤ 5 → (l : Literal) × (literal_at T n ≡ some l)
    unfolding words_ok literal_node ref_of literal_of
    literal_by numbers low high =
        go (eqb (kind_of T.nodes n) 1) refl (eqb (kind_of T.nodes n) 2) refl (eqb (kind_of T.nodes n) 3) refl (eqb (kind_of T.nodes n) 4) refl (eqb (first_word_of T.nodes n) 0) refl
      where
        go : (a : Bool) → eqb (kind_of T.nodes n) 1 ≡ a → (b : Bool) → eqb (kind_of T.nodes n) 2 ≡ b → (d : Bool) → eqb (kind_of T.nodes n) 3 ≡ d
            → (f : Bool) → eqb (kind_of T.nodes n) 4 ≡ f → (z : Bool) → eqb (first_word_of T.nodes n) 0 ≡ z → (l : Literal) × (literal_at T n ≡ some l)
        go true p b q d r f t z y = let k = eqb-true (kind_of T.nodes n) _ p in let h : inside (first_word_of T.nodes n) (count_of T.nodes n) T.strings ≡ true = simp k at ok in
            (string (part T.strings (first_word_of T.nodes n) (count_of T.nodes n)), simp (k, h))
        go false p true q d r f t z y = let k = eqb-true (kind_of T.nodes n) _ q in let h : inside (first_word_of T.nodes n) (count_of T.nodes n) T.text ≡ true = simp k at ok in
            (string (part T.text (first_word_of T.nodes n) (count_of T.nodes n)), simp (k, h))
        go false p false q true r f t z y =
            let k = eqb-true (kind_of T.nodes n) _ r in
            let h : (ltb (first_word_of T.nodes n) (number_count T) && eqb (count_of T.nodes n) 0) ≡ true = simp k at ok in
            let lt : first_word_of T.nodes n < number_count T = ltb-true _ _ (and_true (ltb (first_word_of T.nodes n) (number_count T)) _ h).0 in
            let in_List = le-leb (first_word_of T.nodes n * 2 + 2) (length T.numbers) (omega arith) in
            let is : is_number (get_or T.numbers (first_word_of T.nodes n * 2) 0) (get_or T.numbers (first_word_of T.nodes n * 2 + 1) 0) ≡ true = numbers _ lt in
            (number (eqb (get_or T.numbers (first_word_of T.nodes n * 2) 0) 1) (get_or T.numbers (first_word_of T.nodes n * 2 + 1) 0), simp (k, in_List, is))
        go false p false q false r true t true y = let k = eqb-true (kind_of T.nodes n) _ t in (boolean false, simp (k, y))
        go false p false q false r true t false y = let k = eqb-true (kind_of T.nodes n) _ t in (boolean true, simp (k, y))
        go false p false q false r false t z y =
            let k : kind_of T.nodes n ≡ 5 =
            omega (arith, eqb-false (kind_of T.nodes n) _ p, eqb-false (kind_of T.nodes n) _ q, eqb-false (kind_of T.nodes n) _ r, eqb-false (kind_of T.nodes n) _ t) in
            (null, simp k)

    -- any other expression
    other_by_lem : kind_of T.nodes n ≡ 10 → literal_at T n ≡ Option.none
    unfolding literal_node ref_of
    other_by_lem k = simp k

-- a node with child entries is an array, a set or an object
pub wide_kind : (T : Tables) (n i : ℕ) → i < width T.nodes n → (7 ≤ kind_of T.nodes n) × (kind_of T.nodes n ≤ 9)
wide_kind T n i lt = go (eqb (kind_of T.nodes n) 7) refl (eqb (kind_of T.nodes n) 8) refl (eqb (kind_of T.nodes n) 9) refl
  where
    go : (a : Bool) → eqb (kind_of T.nodes n) 7 ≡ a → (b : Bool) → eqb (kind_of T.nodes n) 8 ≡ b → (d : Bool) → eqb (kind_of T.nodes n) 9 ≡ d → (7 ≤ kind_of T.nodes n) × (kind_of T.nodes n ≤ 9)
    go true p b q d r = let k = eqb-true (kind_of T.nodes n) 7 p in (omega arith, omega arith)
    go false p true q d r = let k = eqb-true (kind_of T.nodes n) 8 q in (omega arith, omega arith)
    go false p false q true r = let k = eqb-true (kind_of T.nodes n) 9 r in (omega arith, omega arith)
    go false p false q false r =
        let z : width T.nodes n ≡ 0 = width_leaf (kind_of T.nodes n) (count_of T.nodes n) (eqb-false (kind_of T.nodes n) 7 p) (eqb-false (kind_of T.nodes n) 8 q) (eqb-false (kind_of T.nodes n) 9 r) in
        absurd (omega arith)

-- the whole table
module _ (T : Tables) (s : Scope) (limits : within_limits T ≡ true) (rules : follows_rules T s ≡ true) where
  parted : Followed T s
  parted = followed T s rules

  node_passes : (n : ℕ) → Node T n → node_ok T n ≡ true
  node_passes n v =
      let l = v.low in
      let h = v.high in
      let e : n - 1 + 1 ≡ n = omega arith in
      rw e at (from_zero (node_ok_at T) (node_count T) parted.nodes (n - 1) (omega arith))

  span_passes : (n : ℕ) → Node T n → span_ok T n ≡ true
  unfolding node_ok
  span_passes n v = (and_true (span_ok T n) _ (node_passes n v)).0

  words_pass : (n : ℕ) → Node T n → words_ok T n (kind_of T.nodes n) (first_word_of T.nodes n) (count_of T.nodes n) ≡ true
  unfolding node_ok
  words_pass n v = (and_true (words_ok T n (kind_of T.nodes n) (first_word_of T.nodes n) (count_of T.nodes n)) _ (and_true (span_ok T n) _ (node_passes n v)).1).0

  below_passes : (n : ℕ) → Node T n → children_below T n ≡ true
  unfolding node_ok
  below_passes n v = (and_true (words_ok T n (kind_of T.nodes n) (first_word_of T.nodes n) (count_of T.nodes n)) _ (and_true (span_ok T n) _ (node_passes n v)).1).1

  span_of : (n : ℕ) → Node T n → (start_of T.nodes n ≤ end_of T.nodes n) × (end_of T.nodes n ≤ length T.text)
  unfolding span_ok
  span_of n v =
      let a = and_true (leb (start_of T.nodes n) (end_of T.nodes n)) _ (span_passes n v) in
      (leb-true _ _ a.0, leb-true _ _ a.1)

  entry_of : (place : ℕ) → place < length T.children → Node T (child_at T.children place)
  entry_of place lt =
      let a = and_true (leb 1 (child_at T.children place)) _ (from_zero (entry_ok T) (length T.children) parted.entries place lt) in
      record { low = leb-true _ _ a.0; high = leb-true _ _ a.1 }

  listed_of : (n : ℕ) → Node T n → 7 ≤ kind_of T.nodes n → kind_of T.nodes n ≤ 9 → first_word_of T.nodes n + width T.nodes n ≤ length T.children
  listed_of n v low high = listed_by T n (words_pass n v) low high

  below_of : (n : ℕ) → Node T n → (i : ℕ) → i < width T.nodes n
      → (1 ≤ child_at T.children (first_word_of T.nodes n + i)) × (child_at T.children (first_word_of T.nodes n + i) < n)
  unfolding children_below
  below_of n v i lt =
      let k = wide_kind T n i lt in
      let h = listed_of n v k.0 k.1 in (
        (entry_of (first_word_of T.nodes n + i) (omega arith)).low,
        ltb-true _ _ (all_at (below_at T n) (first_word_of T.nodes n) (width T.nodes n) (below_passes n v) i lt),
      )

  name_text : (n : ℕ) → Node T n → kind_of T.nodes n ≡ 6
      → part T.text (start_of T.nodes n) (end_of T.nodes n - start_of T.nodes n) ≡ name_bytes T.names T.text (first_word_of T.nodes n)
  unfolding name_text_ok
  name_text n v k = same_bytes_equal _ _ (named_by T n (words_pass n v) k).1

  name_span : (x : ℕ) → Named T x
      → (1 ≤ name_length T.names x) × (name_length T.names x ≤ 255) × (name_start T.names x + name_length T.names x ≤ length T.text)
  unfolding name_ok
  name_span x v =
      let l = v.low in
      let h = v.high in
      let e : x - 1 + 1 ≡ x = omega arith in
      let p : name_ok T x ≡ true = rw e at (from_zero (name_ok_at T) (name_count T) parted.names (x - 1) (omega arith)) in
      let a = and_true (leb 1 (name_length T.names x)) _ p in
      let b = and_true (leb (name_length T.names x) 255) _ a.1 in
      (leb-true _ _ a.0, leb-true _ _ b.0, leb-true _ _ b.1)

  whole_of : length T.nodes % 5 ≡ 0
  unfolding whole_records
  whole_of = eqb-true _ _ (and_true (eqb (length T.nodes % 5) 0) _ parted.whole).0

  pub well_formed : WellFormed T
  well_formed = record {
    limits = limits_of T limits;
    whole = whole_of;
    span = span_of;
    kinds = λ n v. listed_kind T n (words_pass n v);
    literals = λ n v k. literal_by T n (words_pass n v) (λ place lt. from_zero (number_ok T) (number_count T) parted.numbers place lt) (listed_kind T n (words_pass n v)).0 k;
    others = λ n v k. other_by_lem T n (words_pass n v) k;
    named = λ n v k. (named_by T n (words_pass n v) k).0;
    name_text_lem = name_text;
    listed = listed_of;
    below = below_of;
    entries = entry_of;
    once = parted.once;
    apart = parted.apart;
    name_span_lem = name_span;
  }

module _ (T : Tables) (s : Scope) (ok : checked T s ≡ Refusal.passed) where
  depth_of_lem : (n : ℕ) → Node T n → depth (expr T n) ≤ 32
  unfolding shallow
  depth_of_lem n v =
      let l = v.low in
      let h = v.high in
      let e : n - 1 + 1 ≡ n = omega arith in
      leb-true _ _ (rw e at (from_zero (depth_ok_at T) (node_count T) (passed T s ok).depths (n - 1) (omega arith)))

  -- a name differs from each before it
  differ_of : (x y : ℕ) → Named T x → Named T y → x < y → name_bytes T.names T.text x ≡ name_bytes T.names T.text y → ⊥
  unfolding names_differ
  differ_of x y u v lt e =
      let l = u.low in
      let h = v.high in
      let a : x - 1 + 1 ≡ x = omega arith in
      let b : y - 1 + 1 ≡ y = omega arith in
      let all : new_name_at T (y - 1) ≡ true = from_zero (new_name_at T) (name_count T) (passed T s ok).names (y - 1) (omega arith) in
      let here : differ_at T (y - 1) (x - 1) ≡ true = from_zero (differ_at T (y - 1)) (y - 1) all (x - 1) (omega arith) in
      let no_more : same_bytes (name_bytes T.names T.text x) (name_bytes T.names T.text y) ≡ false = not-true _ (rw (a, b) at here) in
      false≢true (sym no_more ∙ equal_same_bytes _ _ e)

  -- the scope's number of `_` is 0 or that of the name `_`
  pub no_underscore : (x : ℕ) → 1 ≤ x → is_wildcard T x ≡ false → is_underscore s x ≡ false
  unfolding is_underscore scope_ok
  no_underscore x low named = go (eqb x s.underscore) refl
    where
      go : (b : Bool) → eqb x s.underscore ≡ b → b ≡ false
      go true p =
          let e = eqb-true x s.underscore p in
          let some-name : eqb s.underscore 0 ≡ false = ne_eqb s.underscore 0 (λ z. omega arith) in
          let by = rw some-name at (followed T s (passed T s ok).rules).scope in
          let wild : is_wildcard T s.underscore ≡ true = (and_true (leb s.underscore (name_count T)) (is_wildcard T s.underscore) by).1 in
          absurd (false≢true (sym named ∙ (ap (is_wildcard T) e ∙ wild)))
      go false p = refl

  pub sound_table : SoundTable T
  sound_table = record {
    well_formed_lem = well_formed T s (passed T s ok).limits (passed T s ok).rules;
    shallow = depth_of_lem;
    differ = λ x y u v e. go x y u v e (ltb x y) refl (ltb y x) refl;
  }
    where
      go : (x y : ℕ) → Named T x → Named T y → name_bytes T.names T.text x ≡ name_bytes T.names T.text y → (a : Bool) → ltb x y ≡ a → (b : Bool) → ltb y x ≡ b → x ≡ y
      go x y u v e true p b q = absurd (differ_of x y u v (ltb-true _ _ p) e)
      go x y u v e false p true q = absurd (differ_of y x v u (ltb-true _ _ q) (sym e))
      go x y u v e false p false q = omega (arith, ltb-false x y p, ltb-false y x q)
