-- What the calls' tests come to.
use Prim.Native.Nat.{ℕ, ◌+◌, ◌-◌, ◌*◌, ◌/◌, ◌≤◌, ◌<◌}
use mathlib.Core.Path.{◌≡◌, ap, refl, sym, ◌∙◌}
use mathlib.Core.Bool.{Bool, true, false, cond, not, ◌&&◌, and-false}
use mathlib.Core.List.{List}
use native.Mathlib.Omega.{arith}
use borrow.Author.Tests.{leb-true, le-leb, lt-leb, eq-eqb, ne_eqb}
use lib.Dec.{eqb, leb}
use lib.ListN.{length, get_or}
use Rattle.table.proofs.tests.Bools.{and_true, told_no, told_yes}
use Rattle.planner.specs.Entries.{read_entries}
use Rattle.planner.specs.Operations.{space}
use Rattle.planner.specs.Short.{ShortLine}
use Rattle.planner.proofs.laws.ShortOutcomes.{short}
use Rattle.base.specs.Refusal.{store_refused, line, refusal_line}
use Rattle.planner.proofs.buffer.ReadBack.{length_read}
use Rattle.std.specs.Prelude.{Option, Some, None, Ok, Err}
use Rattle.plan_store.specs.Store.{used, is_pack, pack_of, free_reserve, free_common, shares_ok, fresh, is_kept, emptied}
use Rattle.plan_store.specs.Words.{store_words, with_store, store_of, is_store}
use Rattle.plan_store.specs.Calls.{can_set_up, SetUp, can_keep, keep_line, KeptBy, EmptiedBy}
use Rattle.plan_store.specs.code.Head.{room_in, HeadAsks}
use Rattle.plan_store.specs.code.Rows.{Admitted}
use Rattle.plan_store.proofs.laws.Sums.{leb_both}
use Rattle.plan_store.proofs.laws.Stores.{shares_fit, is_pack_lem, kept_pack, sound_fits, used_few}
use Rattle.plan_store.proofs.laws.Encoding.{store_size, store_sound, store_packs}
use Rattle.plan_store.proofs.head.Passes.{room_some, room_left, room_none}
use Rattle.plan_store.proofs.head.Places.{packs_few, share_word, used_word}

pub and_no : (a b : Bool) → b ≡ false → (a && b) ≡ false
and_no a b e = ap (λ (c : Bool). a && c) e ∙ and-false a

-- is it a pack?
module _ (ws : List ℕ) (is : is_store ws ≡ true) (n : ℕ) where
  pub pack_zero : n ≡ 0 → is_pack (store_of ws) n ≡ false
  pack_zero e = rw e

  pub pack_above : get_or ws 0 0 < n → is_pack (store_of ws) n ≡ false
  pack_above lt = let p = store_packs ws is in and_no (leb 1 n) (leb n (length (store_of ws))) (lt-leb n (length (store_of ws)) (omega arith))

  pub pack_known : (n ≡ 0 → ⊥) → n ≤ get_or ws 0 0 → is_pack (store_of ws) n ≡ true
  pack_known some le = let p = store_packs ws is in rw (le-leb 1 n (omega (arith, some)), le-leb n (length (store_of ws)) (omega arith))

-- keeping
module _ (ws : List ℕ) (n : ℕ) (buffer : List ℕ) (count : ℕ) {r : Option ℕ} (told : r ≡ room_in ws) where
  pub can_no_store : r ≡ None → false ≡ can_keep ws n buffer count
  unfolding can_keep
  can_no_store e = rw (← room_none ws told e)

  module _ {left : ℕ} (e : r ≡ Some left) where
    here : is_store ws ≡ true
    here = sym (room_some ws told e)

    pub can_some : 0 < length ws
    can_some = let s = store_size ws here in omega arith

    pub can_past : length buffer / 5 < count → false ≡ can_keep ws n buffer count
    unfolding can_keep
    can_past past = rw (here, lt-leb count (space buffer) past)

    unknown : is_pack (store_of ws) n ≡ false → false ≡ can_keep ws n buffer count
    unfolding can_keep is_kept
    unknown not-pack = rw (here, not-pack) (sym (and-false (leb count (space buffer))))

    pub can_zero : n ≡ 0 → false ≡ can_keep ws n buffer count
    can_zero z = unknown (pack_zero ws here n z)

    pub can_above : get_or ws 0 0 < n → false ≡ can_keep ws n buffer count
    can_above lt = unknown (pack_above ws here n lt)

    module _ (low : n ≡ 0 → ⊥) (high : n ≤ get_or ws 0 0) where
      pub can_share : n * 2 - 1 < length ws
      can_share = let s = store_size ws here in let f = packs_few ws here in omega arith

      pub can_used : n * 2 < length ws
      can_used = let s = store_size ws here in let f = packs_few ws here in omega arith

      pub can_test : {beyond : ℕ} → count ≤ length buffer / 5 → beyond ≡ count - (get_or ws (n * 2 - 1) 0 - get_or ws (n * 2) 0) → leb beyond left ≡ can_keep ws n buffer count
      unfolding can_keep is_kept
      can_test {beyond} inside is =
          let share = share_word ws n (omega (arith, low)) high in
          let count_is = used_word ws n (omega (arith, low)) high in
          let free = room_left ws told e in
          rw (here, le-leb count (space buffer) inside, pack_known ws here n low high, length_read buffer 0 count)
          (leb_both beyond left count (free_reserve (pack_of (store_of ws) n) + free_common (store_of ws)) (λ h. omega arith) (λ h. omega arith))

-- a plan that goes in
fits_ends : {ws : List ℕ} {n : ℕ} {buffer : List ℕ} {count : ℕ} → Admitted ws n buffer count → (1 ≤ n) × (n ≤ length (store_of ws))
fits_ends {ws} {n} {buffer} {count} f = is_pack_lem (store_of ws) n (kept_pack (store_of ws) n (read_entries buffer 0 count) f.kept)

pub fits_low : {ws : List ℕ} {n : ℕ} {buffer : List ℕ} {count : ℕ} → Admitted ws n buffer count → 1 ≤ n
fits_low f = (fits_ends f).0

pub fits_high : {ws : List ℕ} {n : ℕ} {buffer : List ℕ} {count : ℕ} → Admitted ws n buffer count → n ≤ get_or ws 0 0
fits_high {ws} f = let p = store_packs ws f.is in let e = (fits_ends f).1 in omega arith

-- the answers
pub set_sized : (shares ws : List ℕ) → (length ws ≡ store_words → ⊥) → SetUp shares ws ws (Err (record {}))
unfolding can_set_up
set_sized shares ws other = let e = ne_eqb (length ws) store_words other in record { answer = rw e; store = rw e }

module _ (shares ws : List ℕ) {r : Bool} (told : r ≡ shares_ok shares) where
  pub set_shares : not r ≡ true → SetUp shares ws ws (Err (record {}))
  unfolding can_set_up
  set_shares none = let e = told_no told none in let f = and_no (eqb (length ws) store_words) (shares_ok shares) e in record { answer = rw f; store = rw f }

  module _ (sized : length ws ≡ store_words) (yes : not r ≡ false) where
    pub set_asks : HeadAsks ws shares
    set_asks = record { sized = sized; few = (shares_fit shares (told_yes told yes)).0 }

    pub set_done : {after : List ℕ} → after ≡ with_store ws (fresh shares) → SetUp shares ws after (Ok tt)
    unfolding can_set_up
    set_done e = let s = eq-eqb (length ws) store_words sized in let o = told_yes told yes in record { answer = rw (s, o); store = e ∙ rw (s, o) }

module _ (n : ℕ) (buffer : List ℕ) (count : ℕ) (ws : List ℕ) {r : Bool} (told : r ≡ can_keep ws n buffer count) where
  pub keep_refused : not r ≡ true → KeptBy n buffer count ws ws (Err (record {}))
  keep_refused none = let e = told_no told none in record { answer = rw e; store = rw e }

  module _ (yes : not r ≡ false) where
    pub keep_asks : Admitted ws n buffer count
    unfolding can_keep
    keep_asks =
        let a = and_true (is_store ws) (leb count (space buffer) && is_kept (store_of ws) n (read_entries buffer 0 count)) (told_yes told yes) in
        let b = and_true (leb count (space buffer)) (is_kept (store_of ws) n (read_entries buffer 0 count)) a.1 in
        record { is = a.0; buffered = leb-true count (space buffer) b.0; kept = b.1 }

    pub keep_used : n * 2 < length ws
    keep_used = let s = store_size ws keep_asks.is in let f = packs_few ws keep_asks.is in let h = fits_high keep_asks in omega arith

module _ (ws : List ℕ) {r : Bool} (told : r ≡ is_store ws) where
  pub empty_refused : not r ≡ true → EmptiedBy ws ws (Err (record {}))
  empty_refused none = let e = told_no told none in record { answer = rw e; store = rw e }

  module _ (yes : not r ≡ false) where
    pub empty_asks : is_store ws ≡ true
    empty_asks = told_yes told yes

    pub empty_done : {after : List ℕ} → after ≡ with_store ws (emptied (store_of ws)) → EmptiedBy ws after (Ok tt)
    empty_done e = let y = told_yes told yes in record { answer = rw y; store = e ∙ rw y }

-- each number of an answer has at most six digits
pub keep_short : (ws : List ℕ) (n : ℕ) (buffer : List ℕ) (count : ℕ) → ShortLine (keep_line ws n buffer count)
unfolding can_keep
keep_short ws n buffer count = go (is_store ws) refl
  where
    refused : ShortLine (refusal_line store_refused)
    refused = short (omega arith) (omega arith) (omega arith) (omega arith)

    go : (b : Bool) → is_store ws ≡ b → ShortLine (cond (b && (leb count (space buffer) && is_kept (store_of ws) n (read_entries buffer 0 count))) (line 0 (used (pack_of (store_of ws) n)) 0 0) (refusal_line store_refused))
    go false e = refused
    go true e = by (leb count (space buffer) && is_kept (store_of ws) n (read_entries buffer 0 count))
      where
        by : (b : Bool) → ShortLine (cond b (line 0 (used (pack_of (store_of ws) n)) 0 0) (refusal_line store_refused))
        by false = refused
        by true =
            let a = used_few (store_of ws) n in
            let b = sound_fits (store_of ws) (store_sound ws e) in
            short (omega arith) (omega arith) (omega arith) (omega arith)
