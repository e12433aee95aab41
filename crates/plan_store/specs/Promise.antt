-- What request 11 promises of the store, for every history of calls after a set-up.
use Rattle.std.specs.Prelude.{ℕ, ◌+◌, ◌≤◌, ◌<◌, ◌≡◌, true, List, map, leb, length, get_or}
use Rattle.std.proofs.Math.Option as Option
use Rattle.planner.specs.Layout.{Entry}
use Rattle.plan_store.specs.Store.{capacity, Store, share_of, used, is_pack, pack_of, total, common, common_used, shares_ok, is_kept, with_plan, after_keeping, place_of, no_entry, read_entry}
use Rattle.plan_store.specs.History.{StoreCall, KeptPlan, after_calls, store_after, plans_kept, entries_of, no_emptying}

-- of a store s of these shares, and the plans kept in it since it was last emptied
pub record StorePromise (shares : List ℕ) (s : Store) (kept : List KeptPlan) : Type 0 where
  -- no call ends a share
  pub keeps_shares : map share_of s ≡ shares
  -- no more than 1,536 entries are in use, and the common part is never over-used
  pub fits : total (map used s) ≤ capacity
  pub common_fits : common_used s ≤ common s
  -- a plan is kept exactly if, with it, the common part holds all that stands beyond the shares
  pub exactly : (n : ℕ) (plan : List Entry) → is_pack s n ≡ true → is_kept s n plan ≡ leb (common_used (with_plan s n plan)) (common s)
  -- one that leaves its pack within its share is always kept
  pub reserve : (n : ℕ) (plan : List Entry) → is_pack s n ≡ true → used (pack_of s n) + length plan ≤ (pack_of s n).share → is_kept s n plan ≡ true
  -- its place is how many entries of its pack were kept before it, since the store was last emptied
  pub place : (n : ℕ) (plan : List Entry) → is_kept s n plan ≡ true → place_of s n plan ≡ Option.some (length (entries_of n kept))
  -- the entries in use are those of the plans kept since the store was last emptied
  pub in_use : (n : ℕ) → (pack_of s n).entries ≡ entries_of n kept
  -- a kept plan reads as it was kept, by its place, until the store is emptied
  pub reads : (n place : ℕ) (plan : List Entry) → place_of s n plan ≡ Option.some place
      → (later : List StoreCall) → no_emptying later ≡ true → (i : ℕ) → i < length plan
      → read_entry (after_calls (after_keeping s n plan) later) n (place + i) ≡ get_or plan i no_entry
  -- what is not in use reads as zeros
  pub reads_none_lem : (n place : ℕ) → used (pack_of s n) ≤ place → read_entry s n place ≡ no_entry

abbrev pub StorePromised : Type 0
StorePromised = (shares : List ℕ) (calls : List StoreCall) → shares_ok shares ≡ true → StorePromise shares (store_after shares calls) (plans_kept shares calls)
