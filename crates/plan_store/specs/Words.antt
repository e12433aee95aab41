-- The store in lent words: the number of packs; each pack's share, and how many entries it keeps; then the entries of pack 1, of pack 2 and so on.
-- Words behind them are no part of the store: a call leaves them as they were, unless an entry comes to stand there.
use Rattle.std.specs.Prelude.{ℕ, zero, suc, ◌+◌, ◌*◌, Bool, ◌&&◌, List, [], ◌∷◌, ◌++◌, map, eqb, leb, length, get_or, drop}
use Rattle.planner.specs.Layout.{Entry, entry_words, words}
use Rattle.planner.specs.Entries.{read_entries}
use Rattle.plan_store.specs.Store.{capacity, most_packs, pack, share_of, used, Store, common, common_used, shares_ok}

-- the words of a store: 7,697
abbrev pub store_words : ℕ
store_words = 1 + most_packs * 2 + capacity * entry_words

unfoldable pub head_words : Store → List ℕ
head_words [] = []
head_words (p ∷ ps) = p.share ∷ (used p ∷ head_words ps)

unfoldable pub all_entries : Store → List Entry
all_entries [] = []
all_entries (p ∷ ps) = p.entries ++ all_entries ps

unfoldable pub words_of : Store → List ℕ
words_of s = length s ∷ (head_words s ++ words (all_entries s))

-- a store written over lent words
abbrev pub with_store : List ℕ → Store → List ℕ
with_store before s = words_of s ++ drop (length (words_of s)) before

-- Reading: k packs, from their words and from those of their entries.
unfoldable pub read_packs : List ℕ → List ℕ → ℕ → Store
read_packs head rows zero = []
read_packs head rows (suc k) =
    let count = get_or head 1 0 in
    pack (get_or head 0 0) (read_entries rows 0 count) ∷ read_packs (drop 2 head) (drop (count * entry_words) rows) k

-- the store that words say
unfoldable pub store_of : List ℕ → Store
store_of ws = read_packs (drop 1 ws) (drop (1 + get_or ws 0 0 * 2) ws) (get_or ws 0 0)

-- shares as set-up allows them, and a common part that holds what stands beyond them
unfoldable pub is_sound : Store → Bool
is_sound s = shares_ok (map share_of s) && leb (common_used s) (common s)

-- Words that pass for a store: exactly those that the calls can give (`passes` and `comes` in specs/WordsPromise).
unfoldable pub is_store : List ℕ → Bool
is_store ws = eqb (length ws) store_words && is_sound (store_of ws)
