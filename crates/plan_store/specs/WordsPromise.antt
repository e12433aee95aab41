-- The calls over words do what the calls on stores do, and the words that pass for a store are exactly those that the calls give.
use Rattle.std.specs.Prelude.{ℕ, ◌≡◌, true, cond, ◌&&◌, List, [], ◌∷◌, leb}
use Rattle.planner.specs.Entries.{read_entries}
use Rattle.planner.specs.Operations.{space}
use Rattle.plan_store.specs.Store.{Store, is_kept, read_entry}
use Rattle.plan_store.specs.History.{StoreCall, store_after}
use Rattle.plan_store.specs.History as History
use Rattle.plan_store.specs.Words.{store_of, is_store}
use Rattle.plan_store.specs.Calls.{can_set_up, set_up_after, can_keep, keep_after, read_from, empty_after}

-- a call over words: a plan is offered with its pack, its buffer and how many entries it has
pub data WordsCall : Type 0 where
  keep : ℕ → List ℕ → ℕ → WordsCall
  empty : WordsCall

abbrev pub words_after_call : List ℕ → WordsCall → List ℕ
words_after_call ws (keep n buffer count) = keep_after ws n buffer count
words_after_call ws empty = empty_after ws

unfoldable pub words_after : List ℕ → List WordsCall → List ℕ
words_after ws [] = ws
words_after ws (c ∷ cs) = words_after (words_after_call ws c) cs

-- the calls on the store; a plan that ends past its buffer is not offered
unfoldable pub store_calls : List WordsCall → List StoreCall
store_calls [] = []
store_calls (keep n buffer count ∷ cs) = cond (leb count (space buffer)) (History.keep n (read_entries buffer 0 count) ∷ store_calls cs) (store_calls cs)
store_calls (empty ∷ cs) = History.empty ∷ store_calls cs

-- the words that a set-up and then calls give
abbrev pub words_given : List ℕ → List ℕ → List WordsCall → List ℕ
words_given before shares calls = words_after (set_up_after before shares) calls

-- the calls give these words: a set-up that isn't refused, over any words, and calls after it
pub record FromCalls (ws : List ℕ) : Type 0 where
  pub before : List ℕ
  pub shares : List ℕ
  pub calls : List WordsCall
  pub allowed : can_set_up before shares ≡ true
  pub words : words_given before shares calls ≡ ws

-- of words, and the store of the same history: what they say, what is kept, what is read
pub record SaysStore (ws : List ℕ) (s : Store) : Type 0 where
  pub says : store_of ws ≡ s
  pub keeps : (n : ℕ) (buffer : List ℕ) (count : ℕ) → can_keep ws n buffer count ≡ (leb count (space buffer) && is_kept s n (read_entries buffer 0 count))
  pub reads : (n place : ℕ) → read_from ws n place ≡ read_entry s n place

pub record WordsPromise : Type 0 where
  pub same : (before shares : List ℕ) (calls : List WordsCall) → can_set_up before shares ≡ true
      → SaysStore (words_given before shares calls) (store_after shares (store_calls calls))
  -- the words that pass for a store are exactly those that the calls give
  pub passes : (ws : List ℕ) → FromCalls ws → is_store ws ≡ true
  pub comes : (ws : List ℕ) → is_store ws ≡ true → FromCalls ws
