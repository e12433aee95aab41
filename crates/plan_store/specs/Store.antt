-- The plan store (request 11 of document 02): 1,536 entries that up to eight rule packs share, each with a reserved share.
use Rattle.std.specs.Prelude.{ℕ, zero, suc, ◌+◌, ◌-◌, Bool, cond, ◌&&◌, leb, length, get_or, set}
use mathlib.Core.List.{List, [], ◌++◌, map, sum}
use Rattle.std.proofs.Math.Option.{Option}
use Rattle.planner.specs.Layout.{Entry, entry, top}

abbrev pub capacity : ℕ
capacity = 1536

abbrev pub most_packs : ℕ
most_packs = 8

-- a pack: its reserved share, and its entries as they were kept
pub record Pack : Type 0 where
  pub share : ℕ
  pub entries : List Entry

abbrev pub pack : ℕ → List Entry → Pack
pack share entries = record { share = share; entries = entries }

abbrev pub share_of : Pack → ℕ
share_of p = p.share

abbrev pub used : Pack → ℕ
used p = length p.entries

-- a store: packs 1, 2 and so on
abbrev pub Store : Type 0
Store = List Pack

abbrev pub is_pack : Store → ℕ → Bool
is_pack s n = leb 1 n && leb n (length s)

abbrev pub no_pack : Pack
no_pack = pack 0 []

-- pack n, and the store with another one in its place
abbrev pub pack_of : Store → ℕ → Pack
pack_of s zero = no_pack
pack_of s (suc i) = get_or s i no_pack

abbrev pub with_pack : Store → ℕ → Pack → Store
with_pack s zero p = s
with_pack s (suc i) p = set s i p

abbrev pub total : List ℕ → ℕ
total ns = sum ◌+◌ 0 ns

-- What no share covers is common.
abbrev pub shares_total : Store → ℕ
shares_total s = total (map share_of s)

abbrev pub common : Store → ℕ
common s = capacity - shares_total s

-- A pack's entries stand in its reserve, and those beyond its share in the common part.
abbrev pub beyond : Pack → ℕ
beyond p = used p - p.share

abbrev pub common_used : Store → ℕ
common_used s = total (map beyond s)

abbrev pub free_reserve : Pack → ℕ
free_reserve p = p.share - used p

abbrev pub free_common : Store → ℕ
free_common s = common s - common_used s

-- Set-up: no more than eight packs, and shares of no more than 1,536 in all.
unfoldable pub shares_ok : List ℕ → Bool
shares_ok shares = leb (length shares) most_packs && leb (total shares) capacity

abbrev pub empty_pack : ℕ → Pack
empty_pack share = pack share []

abbrev pub fresh : List ℕ → Store
fresh shares = map empty_pack shares

-- Keeping: the pack's free reserve, and then the free common part, can take all entries of the plan.
unfoldable pub is_kept : Store → ℕ → List Entry → Bool
is_kept s n plan = is_pack s n && leb (length plan) (free_reserve (pack_of s n) + free_common s)

abbrev pub with_plan : Store → ℕ → List Entry → Store
with_plan s n plan = with_pack s n (pack (pack_of s n).share ((pack_of s n).entries ++ plan))

unfoldable pub after_keeping : Store → ℕ → List Entry → Store
after_keeping s n plan = cond (is_kept s n plan) (with_plan s n plan) s

-- a kept plan's place: how many of its pack's entries stand before it
unfoldable pub place_of : Store → ℕ → List Entry → Option ℕ
place_of s n plan = cond (is_kept s n plan) (Option.some (used (pack_of s n))) Option.none

-- Reading by pack and place: the entry, or zeros if there is none.
abbrev pub no_entry : Entry
no_entry = entry 0 0 0 top

unfoldable pub read_entry : Store → ℕ → ℕ → Entry
read_entry s n place = get_or (pack_of s n).entries place no_entry

-- Emptying ends all entries, and no share.
abbrev pub emptied : Store → Store
emptied s = fresh (map share_of s)
