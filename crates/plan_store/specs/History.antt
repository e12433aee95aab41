-- Histories of a store, from its set-up on: a plan is offered, or the store is emptied. (Reading changes nothing, and a set-up begins another history.)
use Rattle.std.specs.Prelude.{ℕ, Bool, true, false, cond, List, [], ◌∷◌, ◌++◌, eqb}
use Rattle.planner.specs.Layout.{Entry}
use Rattle.plan_store.specs.Store.{Store, fresh, is_kept, after_keeping, emptied}

pub data StoreCall : Type 0 where
  keep : ℕ → List Entry → StoreCall
  empty : StoreCall

abbrev pub after_call : Store → StoreCall → Store
after_call s (keep n plan) = after_keeping s n plan
after_call s empty = emptied s

unfoldable pub after_calls : Store → List StoreCall → Store
after_calls s [] = s
after_calls s (c ∷ cs) = after_calls (after_call s c) cs

-- the store that calls give
abbrev pub store_after : List ℕ → List StoreCall → Store
store_after shares calls = after_calls (fresh shares) calls

-- a plan that was kept, with its pack
pub record KeptPlan : Type 0 where
  pub pack : ℕ
  pub plan : List Entry

-- the plans kept since the store was last emptied: after a call on a store, and after calls
abbrev pub kept_after_call : Store → List KeptPlan → StoreCall → List KeptPlan
kept_after_call s kept (keep n plan) = cond (is_kept s n plan) (kept ++ (record { pack = n; plan = plan } ∷ [])) kept
kept_after_call s kept empty = []

unfoldable pub kept_after_calls : Store → List KeptPlan → List StoreCall → List KeptPlan
kept_after_calls s kept [] = kept
kept_after_calls s kept (c ∷ cs) = kept_after_calls (after_call s c) (kept_after_call s kept c) cs

abbrev pub plans_kept : List ℕ → List StoreCall → List KeptPlan
plans_kept shares calls = kept_after_calls (fresh shares) [] calls

-- the entries of a pack's plans, in the order in which they were kept
unfoldable pub entries_of : ℕ → List KeptPlan → List Entry
entries_of n [] = []
entries_of n (k ∷ ks) = cond (eqb k.pack n) (k.plan ++ entries_of n ks) (entries_of n ks)

-- calls that do not empty the store
unfoldable pub no_emptying : List StoreCall → Bool
no_emptying [] = true
no_emptying (keep n plan ∷ cs) = no_emptying cs
no_emptying (empty ∷ cs) = false
