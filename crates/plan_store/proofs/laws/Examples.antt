-- Stores worked out.
use Prim.Native.Nat.{ℕ}
use mathlib.Core.Path.{◌≡◌, refl}
use mathlib.Core.Bool.{true, false}
use mathlib.Core.List.{List, [], ◌∷◌, sum}
use mathlib.Core.Option as Option
use lib.ListN.{replicate, set}
use Rattle.planner.specs.Layout.{Entry, top, entry, words}
use Rattle.planner.specs.Entries.{read_entries}
use Rattle.plan_store.specs.Store.{Store, pack_of, free_reserve, free_common, shares_ok, is_kept, after_keeping, place_of, no_entry, read_entry}
use Rattle.plan_store.specs.History.{StoreCall, keep, empty, after_calls, store_after}
use Rattle.plan_store.specs.Words.{head_words, all_entries, words_of, read_packs, store_of, is_sound, is_store}

-- 34: nine packs; shares of 1,537. All may be reserved, and there may be no pack.
nine_packs : shares_ok (replicate 9 0) ≡ false
unfolding shares_ok
nine_packs = refl

too_large : shares_ok (1000 ∷ 537 ∷ []) ≡ false
unfolding shares_ok sum
too_large = refl

all_reserved : shares_ok (1000 ∷ 536 ∷ []) ≡ true
unfolding shares_ok sum
all_reserved = refl

no_pack_lem : shares_ok [] ≡ true
unfolding shares_ok sum
no_pack_lem = refl

-- two packs of shares 2 and 1,530: the common part has four entries
abbrev shared : List StoreCall → Store
shared calls = store_after (2 ∷ 1530 ∷ []) calls

abbrev binds : ℕ → Entry
binds n = entry 1 n 0 top

abbrev three : List Entry
three = binds 1 ∷ binds 2 ∷ binds 3 ∷ []

-- pack 1 takes three entries, one of them from the common part
first_place : place_of (shared []) 1 three ≡ Option.some 0
unfolding after_calls place_of is_kept sum
first_place = refl

from_common : free_common (shared (keep 1 three ∷ [])) ≡ 3
unfolding after_calls after_keeping is_kept sum
from_common = refl

-- three more go in, a seventh does not; pack 2 keeps its share
second_place : place_of (shared (keep 1 three ∷ [])) 1 three ≡ Option.some 3
unfolding after_calls after_keeping place_of is_kept sum
second_place = refl

full : place_of (shared (keep 1 three ∷ keep 1 three ∷ [])) 1 (binds 7 ∷ []) ≡ Option.none
unfolding after_calls after_keeping place_of is_kept sum
full = refl

still_reserved : free_reserve (pack_of (shared (keep 1 three ∷ keep 1 three ∷ [])) 2) ≡ 1530
unfolding after_calls after_keeping is_kept sum
still_reserved = refl

other_pack : place_of (shared (keep 1 three ∷ keep 1 three ∷ [])) 2 three ≡ Option.some 0
unfolding after_calls after_keeping place_of is_kept sum
other_pack = refl

-- unknown packs; a plan of no entries
pack_three : place_of (shared []) 3 [] ≡ Option.none
unfolding after_calls place_of is_kept sum
pack_three = refl

pack_none : place_of (shared []) 0 [] ≡ Option.none
unfolding after_calls place_of is_kept sum
pack_none = refl

no_entries : place_of (shared (keep 1 three ∷ keep 1 three ∷ [])) 1 [] ≡ Option.some 6
unfolding after_calls after_keeping place_of is_kept sum
no_entries = refl

-- read by pack and place, whatever other packs kept between; zeros past the entries, of pack 0, and after emptying
reads : read_entry (shared (keep 1 three ∷ keep 2 (binds 9 ∷ []) ∷ keep 1 (binds 4 ∷ []) ∷ [])) 1 3 ≡ binds 4
unfolding after_calls after_keeping is_kept sum read_entry
reads = refl

reads_past : read_entry (shared (keep 1 three ∷ [])) 1 3 ≡ no_entry
unfolding after_calls after_keeping is_kept sum read_entry
reads_past = refl

reads_pack_none : read_entry (shared (keep 1 three ∷ [])) 0 0 ≡ no_entry
unfolding after_calls after_keeping is_kept sum read_entry
reads_pack_none = refl

reads_emptied : read_entry (shared (keep 1 three ∷ empty ∷ [])) 1 0 ≡ no_entry
unfolding after_calls after_keeping is_kept sum read_entry
reads_emptied = refl

-- its words: two packs, 2 and 1 entry, 1,530 and 1 entry; pack 1's entry stands before pack 2's, which was kept first
words_are : words_of (shared (keep 2 (binds 9 ∷ []) ∷ keep 1 (binds 4 ∷ []) ∷ [])) ≡ 2 ∷ 2 ∷ 1 ∷ 1530 ∷ 1 ∷ 1 ∷ 4 ∷ 0 ∷ 0 ∷ 0 ∷ 1 ∷ 9 ∷ 0 ∷ 0 ∷ 0 ∷ []
unfolding after_calls after_keeping is_kept sum words_of head_words all_entries words
words_are = refl

-- words that are no store: too short; nine packs; more beyond the shares than the common part has
abbrev lent : List ℕ
lent = replicate 7697 0

zeros_are_one : is_store lent ≡ true
unfolding is_store is_sound shares_ok store_of read_packs sum
zeros_are_one = refl

too_short : is_store (replicate 7696 0) ≡ false
unfolding is_store is_sound shares_ok store_of read_packs sum
too_short = refl

too_many : is_store (set lent 0 9) ≡ false
unfolding is_store is_sound shares_ok store_of read_packs read_entries sum
too_many = refl

overfull : is_store (set (set (set lent 0 1) 1 1535) 2 1537) ≡ false
unfolding is_store is_sound shares_ok store_of read_packs read_entries sum
overfull = refl
