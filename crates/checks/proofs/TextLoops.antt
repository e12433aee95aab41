-- The loops that sort key nodes by their texts and hold two sorted arrays against each other.
use Prim.Native.Nat.{ℕ, suc, ◌+◌, ◌-◌, ◌*◌, ◌≤◌, ◌<◌}
use mathlib.Core.Path.{◌≡◌, refl, sym, ap, subst, ◌∙◌}
use mathlib.Core.Bool.{Bool, true, false, ◌&&◌}
use mathlib.Core.List.{List, []}
use mathlib.Core.Option.{Option}
use native.Mathlib.Omega.{arith}
use borrow.Author.Tests.{leb-true, leb-false, eq-eqb, ne_eqb}
use lib.Dec.{leb}
use lib.ListN.{length, get_or, take, drop}
use lib.Seq.{drop-drop}
use mir.Syntax.{w64}
use mir.Val.{Fits}
use Rattle.literal.specs.Literal.{Literal}
use Rattle.literal.specs.declared.Comparison.{Comparison}
use Rattle.literal.specs.declared.Comparison.TheVariants.{Less, Equal, Greater, NoLiteral}
use Rattle.literal.specs.Text.{key_text, texts_compared}
use Rattle.literal.specs.Reading.{literal_of}
use Rattle.literal.specs.declared.LiteralRef.{LiteralRef}
use Rattle.table.specs.declared.Key.{Key}
use Rattle.table.specs.declared.Key.TheVariants.{Computed}
use Rattle.table.proofs.tests.Bytes.{node_refers}
use Rattle.table.specs.Tables.{Tables, tables, kind_of, child_at}
use Rattle.table.specs.Decode.{literal_node, ref_of}
use Rattle.table.specs.code.Sound.{Node, WellFormed}
use Rattle.planner.specs.code.Passes.{key_node, field_key}
use Rattle.base.specs.Insertion.{moved}
use Rattle.planner.specs.code.Post.{OrderAsks}
use Rattle.base.proofs.Moving.{moved_take, moved_drop}
use Rattle.planner.proofs.fields.FieldLoops.{ref_above, never_computed}
use Rattle.checks.specs.Structure.{sort_texts}
use Rattle.checks.specs.code.Texts.{is_greater, is_equal, literals_of, KeysOf, text_at, TextAsks, TextPlace, AddKeyAsks, insert_or, KeyAdded, texts_from, SortedKeys, ordered_key, OrderedAsks, agree_from, texts_agree, BothAsks, TextsCompared}
use Rattle.checks.proofs.TextOrder.{after, sort_ascending, after_before, blank_text, keys_length, compared_at, put_key, texts_agree_lem}
use Rattle.checks.proofs.KeyTexts.{field_below, sort_or, sort_length, texts_step, texts_none}

-- one comparison
module _ (x y : Option Literal) {way : Comparison} (is : way ≡ texts_compared x y) where
  pub after_greater : way ≡ Greater → true ≡ is_greater (texts_compared x y)
  after_greater e = sym (ap is_greater (sym is ∙ e))

  pub after_less : way ≡ Less → false ≡ is_greater (texts_compared x y)
  after_less e = sym (ap is_greater (sym is ∙ e))

  pub after_equal : way ≡ Equal → false ≡ is_greater (texts_compared x y)
  after_equal e = sym (ap is_greater (sym is ∙ e))

  pub after_none : way ≡ NoLiteral → false ≡ is_greater (texts_compared x y)
  after_none e = sym (ap is_greater (sym is ∙ e))

-- the search for a text's place
module _ {lit : ℕ → Option Literal} {keys : List ℕ} {size : ℕ} {key : Option Literal} (asks : TextAsks lit keys size key) where
  texts : List (List ℕ)
  texts = sort_texts asks.texts

  -- by the texts
  at_text : (q : ℕ) → q < size → is_greater (text_at lit key keys q) ≡ after (key_text asks.own) (get_or texts q blank_text)
  unfolding texts
  at_text q lt = ap is_greater (compared_at asks.sorted asks.literal q lt)

  pub text_before : (q : ℕ) → q < size → is_greater (text_at lit key keys q) ≡ true → (i : ℕ) → i ≤ q → is_greater (text_at lit key keys i) ≡ true
  unfolding texts
  text_before q lt e i le =
      let l = keys_length asks.sorted in
      at_text i (omega arith) ∙ after_before blank_text (key_text asks.own) texts (sort_ascending asks.texts) q (omega arith) (sym (at_text q lt) ∙ e) i le

further_behind : (m n : ℕ) (l start : List ℕ) → m ≤ n → drop m l ≡ drop m start → drop n l ≡ drop n start
further_behind m n l start le e =
    let s : m + (n - m) ≡ n = omega arith in
    rw s at (sym (drop-drop (n - m) m l) ∙ (ap (drop (n - m)) e ∙ drop-drop (n - m) m start))

-- one key node more
module _ (nodes numbers strings text : List ℕ) {node : ℕ} {keys : List ℕ} {size : ℕ} (a : AddKeyAsks nodes (literal_node nodes numbers strings text) node keys size) where
  module _ {key : Key} (is_key : key ≡ ref_of nodes node) where
    pub added_none : key ≡ Computed → KeyAdded (literal_node nodes numbers strings text) node keys size keys size
    unfolding literal_node
    added_none e =
        let n : literal_node nodes numbers strings text node ≡ Option.none = let r = sym is_key ∙ e in rw r in
        record {
          added = λ ts k. subst (λ (o : Option Literal). KeysOf (literal_node nodes numbers strings text) keys size (insert_or o ts)) (sym n) k;
          more = omega arith;
          few = omega arith;
          behind = refl;
        }

    -- the literal of the node
    module _ {l : LiteralRef} (is-l : key ≡ Key.Literal l) where
      refers : literal_of numbers strings text l ≡ literal_node nodes numbers strings text node
      refers = node_refers nodes numbers strings text node is_key is-l

      found : (x : Literal) × (literal_node nodes numbers strings text node ≡ Option.some x)
      found = go (leb (kind_of nodes node) 5) refl
        where
          go : (b : Bool) → leb (kind_of nodes node) 5 ≡ b → (x : Literal) × (literal_node nodes numbers strings text node ≡ Option.some x)
          go true h = a.sound (leb-true _ _ h)
          go false h = absurd (never_computed (sym is-l ∙ (is_key ∙ ref_above nodes node (leb-false _ _ h))))

      pub ask_text : TextAsks (literal_node nodes numbers strings text) keys size (literal_of numbers strings text l)
      ask_text =
          let x = found in
          let f = a.few in
          record { texts = a.texts; sorted = a.sorted; few = omega arith; own = x.0; literal = refers ∙ x.1 }

      pub added_key : {place : ℕ} → TextPlace (literal_node nodes numbers strings text) keys size (literal_of numbers strings text l) place
          → length keys ≡ 256 → {later : List ℕ} → later ≡ moved keys place size node → KeyAdded (literal_node nodes numbers strings text) node keys size later (size + 1)
      added_key {place} found-there long {later} is =
          let x = found in
          let f = a.few in
          let p = rw refers at found-there.place in
          record {
            added = λ ts k. subst (λ (o : Option Literal). KeysOf (literal_node nodes numbers strings text) later (size + 1) (insert_or o ts)) (sym x.1)
                (put_key k x.1 place p.inside p.before (λ lt. p.behind place (omega arith) lt) later
                (ap (take (size + 1)) is ∙ moved_take keys place size node p.inside (omega arith)));
            more = omega arith;
            few = omega arith;
            behind = ap (drop (size + 1)) is ∙ moved_drop keys place size node p.inside (omega arith);
          }

-- sorting from the last key to the first

none_sorted : (lit key : ℕ → Option Literal) (n : ℕ) (keys : List ℕ) → KeysOf lit keys 0 (sort_texts (texts_from key n (n - n)))
unfolding sort_texts
none_sorted lit key n keys = let e = texts_none key n in record { own = []; sized = refl; listed = refl; texts = rw e }

one_sorted : {lit : ℕ → Option Literal} (key : ℕ → Option Literal) {n i : ℕ} {keys : List ℕ} {size : ℕ} → KeysOf lit keys size (sort_texts (texts_from key i (n - i))) → 0 < i → i ≤ n
    → {node : ℕ} → lit node ≡ key (i - 1) → {later : List ℕ} {r : ℕ} → KeyAdded lit node keys size later r → KeysOf lit later r (sort_texts (texts_from key (i - 1) (n - (i - 1))))
one_sorted {lit} key {n} {i} {keys} {size} k low high {node} is {later} {r} added =
    let e : insert_or (lit node) (sort_texts (texts_from key i (n - i))) ≡ sort_texts (texts_from key (i - 1) (n - (i - 1))) =
    ap (λ (o : Option Literal). insert_or o (sort_texts (texts_from key i (n - i)))) is
    ∙ (sym (sort_or (key (i - 1)) (texts_from key i (n - i))) ∙ ap sort_texts (sym (texts_step key n i low high))) in
    subst (λ (ts : List (List ℕ)). KeysOf lit later r ts) e (added.added (sort_texts (texts_from key i (n - i))) k)

-- a node's literal is sound in a good table
sound_key : (T : Tables) → WellFormed T → (node : ℕ) → Node T node → kind_of T.nodes node ≤ 5 → (l : Literal) × (literals_of T node ≡ Option.some l)
sound_key T w node v h = w.literals node v h

pub record SortingWritten (T : Tables) (first count : ℕ) (start keys : List ℕ) (size i : ℕ) : Type 0 where
  pub asks : OrderAsks T first count
  pub inside : i ≤ count
  pub few : first + count * 2 ≤ 512
  pub few_in : size + i ≤ count
  pub sorted : KeysOf (literals_of T) keys size (sort_texts (texts_from (field_key T first) i (count - i)))
  pub behind : drop size keys ≡ drop size start

pub written_start : {T : Tables} {first count : ℕ} → OrderAsks T first count → (keys : List ℕ) → SortingWritten T first count keys keys 0 count
written_start {T} {first} {count} a keys =
    let l = a.listed in
    let c = a.table.limits.children in
    record { asks = a; inside = omega arith; few = omega arith; few_in = omega arith; sorted = none_sorted (literals_of T) (field_key T first) count keys; behind = refl }

module _ {T : Tables} {first count : ℕ} {start keys : List ℕ} {size i : ℕ} (s : SortingWritten T first count start keys size i) where
  module _ (more : 0 < i) {node : ℕ} (is-node : node ≡ child_at T.children (first + (i - 1) * 2)) where
    written_node : AddKeyAsks T.nodes (literals_of T) node keys size
    written_node =
        let n = s.inside in
        let f = s.few in
        let g = s.few_in in
        record {
          texts = texts_from (field_key T first) i (count - i);
          sorted = s.sorted;
          few = omega arith;
          sound = sound_key T s.asks.table node (subst (Node T) (sym is-node) (s.asks.keys (i - 1) (omega arith)));
        }

    pub written_on : {later : List ℕ} {r : ℕ} → KeyAdded (literals_of T) node keys size later r → SortingWritten T first count start later r (i - 1)
    written_on {r = r} k =
        let n = s.inside in
        let g = s.few_in in
        let h = k.few in
        record {
          asks = s.asks;
          inside = omega arith;
          few = s.few;
          few_in = omega arith;
          sorted = one_sorted (field_key T first) s.sorted more s.inside (ap (literals_of T) is-node) k;
          behind = k.behind ∙ further_behind size r keys start k.more s.behind;
        }

  pub written_ends : i ≤ 0 → SortedKeys T (field_key T first) count start keys size
  written_ends le =
      let z : i ≡ 0 = omega arith in
      let y : count - 0 ≡ count = omega arith in
      let g = s.few_in in
      record { sorted = rw y at (rw z at s.sorted); few = omega arith; behind = s.behind }

pub written_key : (nodes children numbers names strings text : List ℕ) {first count : ℕ} {start keys : List ℕ} {size i node : ℕ} → SortingWritten (tables nodes children numbers names strings text) first count start keys size i
    → 0 < i → node ≡ child_at children (first + (i - 1) * 2) → AddKeyAsks nodes (literal_node nodes numbers strings text) node keys size
written_key nodes children numbers names strings text s more is-node = written_node s more is-node

pub record SortingOrdered (T : Tables) (first : ℕ) (order : List ℕ) (total : ℕ) (start keys : List ℕ) (size q : ℕ) : Type 0 where
  pub asks : OrderedAsks T first order total
  pub inside : q ≤ total
  pub few : total ≤ 256
  pub few_in : size + q ≤ total
  pub sorted : KeysOf (literals_of T) keys size (sort_texts (texts_from (ordered_key T first order) q (total - q)))
  pub behind : drop size keys ≡ drop size start

pub ordered_start : {T : Tables} {first : ℕ} {order : List ℕ} {total : ℕ} → OrderedAsks T first order total → (keys : List ℕ) → SortingOrdered T first order total keys keys 0 total
ordered_start {T} {first} {order} {total} a keys =
    record { asks = a; inside = omega arith; few = a.by.few; few_in = omega arith; sorted = none_sorted (literals_of T) (ordered_key T first order) total keys; behind = refl }

module _ {T : Tables} {first : ℕ} {order : List ℕ} {total : ℕ} {start keys : List ℕ} {size q : ℕ} (s : SortingOrdered T first order total start keys size q) (more : 0 < q) where
  field : get_or order (q - 1) 0 < s.asks.count
  field = let n = s.inside in field_below s.asks.by (q - 1) (omega arith)

  place : first + get_or order (q - 1) 0 * 2 < 512
  place =
      let f = field in
      let l = s.asks.asks.listed in
      let c = s.asks.asks.table.limits.children in
      omega arith

  module _ {j : ℕ} (is_field : j ≡ get_or order (q - 1) 0) where
    pub ordered_double : Fits w64 (j * 2)
    ordered_double = let p = place in record { fits = omega arith }

    pub ordered_place : Fits w64 (first + j * 2)
    ordered_place = let p = place in record { fits = omega arith }

    module _ {node : ℕ} (is-node : node ≡ child_at T.children (first + j * 2)) where
      here : node ≡ key_node T first (get_or order (q - 1) 0)
      here = is-node ∙ ap (key_node T first) is_field

      ordered_node : AddKeyAsks T.nodes (literals_of T) node keys size
      ordered_node =
          let n = s.inside in
          let f = s.few in
          let g = s.few_in in
          record {
            texts = texts_from (ordered_key T first order) q (total - q);
            sorted = s.sorted;
            few = omega arith;
            sound = sound_key T s.asks.asks.table node (subst (Node T) (sym here) (s.asks.asks.keys (get_or order (q - 1) 0) field));
          }

      pub ordered_on : {later : List ℕ} {r : ℕ} → KeyAdded (literals_of T) node keys size later r → SortingOrdered T first order total start later r (q - 1)
      unfolding ordered_key
      ordered_on {r = r} k =
          let n = s.inside in
          let g = s.few_in in
          let h = k.few in
          record {
            asks = s.asks;
            inside = omega arith;
            few = s.few;
            few_in = omega arith;
            sorted = one_sorted (ordered_key T first order) s.sorted more s.inside (ap (literals_of T) here) k;
            behind = k.behind ∙ further_behind size r keys start k.more s.behind;
          }

pub ordered_key_lem : (nodes children numbers names strings text : List ℕ) {first : ℕ} {order : List ℕ} {total : ℕ} {start keys : List ℕ} {size q j node : ℕ} → SortingOrdered (tables nodes children numbers names strings text) first order total start keys size q
    → 0 < q → j ≡ get_or order (q - 1) 0 → node ≡ child_at children (first + j * 2) → AddKeyAsks nodes (literal_node nodes numbers strings text) node keys size
ordered_key_lem nodes children numbers names strings text s more is_field is-node = ordered_node s more is_field is-node

pub ordered_ends : {T : Tables} {first : ℕ} {order : List ℕ} {total : ℕ} {start keys : List ℕ} {size q : ℕ} → SortingOrdered T first order total start keys size q → q ≤ 0
    → SortedKeys T (ordered_key T first order) total start keys size
ordered_ends {total = total} {q = q} s le =
    let z : q ≡ 0 = omega arith in
    let y : total - 0 ≡ total = omega arith in
    let g = s.few_in in
    record { sorted = rw y at (rw z at s.sorted); few = omega arith; behind = s.behind }

-- two sorted arrays

pub record Agreeing (lit : ℕ → Option Literal) (a : List ℕ) (m : ℕ) (b : List ℕ) (n q : ℕ) : Type 0 where
  pub inside : q ≤ m
  pub few : m ≤ 256
  pub same : agree_from lit a b q (m - q) ≡ texts_agree lit a m b n

pub sizes_differ : (lit : ℕ → Option Literal) (a : List ℕ) (m : ℕ) (b : List ℕ) (n : ℕ) → (m ≡ n → ⊥) → false ≡ texts_agree lit a m b n
sizes_differ lit a m b n d = simp (ne_eqb m n d)

pub agreeing_start : (lit : ℕ → Option Literal) (a : List ℕ) (m : ℕ) (b : List ℕ) (n : ℕ) → m ≡ n → m ≤ 256 → Agreeing lit a m b n 0
agreeing_start lit a m b n e few =
    let z : m - 0 ≡ m = omega arith in
    record { inside = omega arith; few = few; same = simp (z, eq-eqb m n e) }

module _ {lit : ℕ → Option Literal} {a : List ℕ} {m : ℕ} {b : List ℕ} {n q : ℕ} (s : Agreeing lit a m b n q) where
  module _ (lt : q < m) {way : Comparison} (is-way : way ≡ text_at lit (lit (get_or a q 0)) b q) where
    step : is_equal way && agree_from lit a b (q + 1) (m - (q + 1)) ≡ texts_agree lit a m b n
    unfolding agree_from
    step =
        let e : m - q ≡ suc (m - (q + 1)) = omega arith in
        ap (λ (w : Comparison). is_equal w && agree_from lit a b (q + 1) (m - (q + 1))) is-way ∙ (sym (ap (λ (k : ℕ). agree_from lit a b q k) e) ∙ s.same)

    pub agreeing_on : way ≡ Equal → Agreeing lit a m b n (q + 1)
    agreeing_on e = record { inside = omega arith; few = s.few; same = rw e at step }

    pub agreeing_less : way ≡ Less → false ≡ texts_agree lit a m b n
    agreeing_less e = rw e at step

    pub agreeing_greater : way ≡ Greater → false ≡ texts_agree lit a m b n
    agreeing_greater e = rw e at step

    pub agreeing_none : way ≡ NoLiteral → false ≡ texts_agree lit a m b n
    agreeing_none e = rw e at step

  pub agreeing_ends : m ≤ q → true ≡ texts_agree lit a m b n
  unfolding agree_from
  agreeing_ends le = let z : m - q ≡ 0 = omega arith in rw z at s.same

-- the keys of both objects

pub few_keys : {T : Tables} {first : ℕ} {order : List ℕ} {total from size : ℕ} → BothAsks T first order total from size → {before keys : List ℕ} {r : ℕ}
    → SortedKeys T (ordered_key T first order) total before keys r → r ≤ 256
few_keys asks s = let f = asks.pattern.by.few in let g = s.few in omega arith

pub texts_compared_lem : {T : Tables} {first : ℕ} {order : List ℕ} {total from size : ℕ} {blank a other b : List ℕ} {literals others : ℕ} {same : Bool}
    → SortedKeys T (ordered_key T first order) total blank a literals → SortedKeys T (field_key T from) size other b others
    → same ≡ texts_agree (literals_of T) a literals b others → TextsCompared T first order total from size literals total same
texts_compared_lem {T} {first} {order} {total} sa sb e = record {
  ordered = refl;
  counted = keys_length sa.sorted ∙ sort_length (texts_from (ordered_key T first order) 0 total);
  same_texts_lem = e ∙ texts_agree_lem sa.sorted sb.sorted;
}
