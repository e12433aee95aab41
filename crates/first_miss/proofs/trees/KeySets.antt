-- No key is missing and none is too many exactly where the key sets are the same.
use Prim.Native.Nat.{ℕ, ◌+◌}
use mathlib.Core.Path.{◌≡◌, refl, sym, ap, ◌∙◌}
use mathlib.Core.List.{List, [], ◌∷◌}
use mathlib.Core.Bool.{Bool, true, false, cond, ◌&&◌}
use mathlib.Core.Option.{Option, none, some}
use Rattle.literal.specs.Literal.{Literal}
use Rattle.table.specs.Expr.{Fields, done, field, node_of}
use Rattle.planner.specs.Plan.{FieldPlans, no_field, field_plan, plan, field_plans, after}
use Rattle.planner.specs.Layout.{Slot, literal_key}
use Rattle.planner.specs.Simple.{has_key, add_key, keys_of}
use Rattle.value.specs.Value.{within, same_key_sets}
use Rattle.matching.specs.Matching.{MatchOutcome, plan_keys, provided}
use Rattle.first_miss.specs.Miss.{MissOutcome, forget, add_slot, key_slots, lesser, missing_key, other_key, keys_first}
use Rattle.first_miss.specs.code.Walk.{slots_of}

abbrev pub is_none : {A : Type 0} → Option A → Bool
is_none none = true
is_none (some a) = false

-- the keys of slots
abbrev pub keys_in : List (Slot ℕ) → List Literal
keys_in [] = []
keys_in (k ∷ ks) = k.at ∷ keys_in ks

pub slot_keys_lem : (fs : FieldPlans) → keys_in (key_slots fs) ≡ plan_keys fs
unfolding key_slots plan_keys
slot_keys_lem no_field = refl
slot_keys_lem (field_plan k p fs) = go (literal_key k) (slot_keys_lem fs)
  where
    go : (o : Option Literal) → keys_in (key_slots fs) ≡ plan_keys fs → keys_in (add_slot o (node_of k) (key_slots fs)) ≡ add_key o (plan_keys fs)
    go (some l) e = ap (λ (ls : List Literal). l ∷ ls) e
    go none e = e

pub slots_keys : (fs : Fields) → keys_in (slots_of fs) ≡ keys_of fs
unfolding slots_of keys_of
slots_keys done = refl
slots_keys (field k v fs) = go (literal_key k) (slots_keys fs)
  where
    go : (o : Option Literal) → keys_in (slots_of fs) ≡ keys_of fs → keys_in (add_slot o (node_of k) (slots_of fs)) ≡ add_key o (keys_of fs)
    go (some l) e = ap (λ (ls : List Literal). l ∷ ls) e
    go none e = e

pub plan_slots : (u : ℕ → Bool) (fs : Fields) (seen : List ℕ) → key_slots (field_plans u fs seen) ≡ slots_of fs
unfolding key_slots plan slots_of
plan_slots u done seen = refl
plan_slots u (field k v fs) seen = ap (add_slot (literal_key k) (node_of k)) (plan_slots u fs (after u v seen))

pub none_missing : (ls : List Literal) (ks : List (Slot ℕ)) → is_none (missing_key ls ks) ≡ within (keys_in ks) ls
unfolding missing_key within
none_missing ls [] = refl
none_missing ls (k ∷ ks) = go (has_key k.at ls) (none_missing ls ks)
  where
    go : (b : Bool) → is_none (missing_key ls ks) ≡ within (keys_in ks) ls → is_none (cond b (missing_key ls ks) (some (lesser k (missing_key ls ks)))) ≡ (b && within (keys_in ks) ls)
    go true e = e
    go false e = refl

pub none_other : (ks : List Literal) (i : ℕ) (ls : List Literal) → is_none (other_key ks i ls) ≡ within ls ks
unfolding other_key within
none_other ks i [] = refl
none_other ks i (l ∷ ls) = go (has_key l ks) (none_other ks (i + 1) ls)
  where
    go : (b : Bool) → is_none (other_key ks (i + 1) ls) ≡ within ls ks → is_none (cond b (other_key ks (i + 1) ls) (some i)) ≡ (b && within ls ks)
    go true e = e
    go false e = refl

pub keys_forget : (key_node : ℕ → ℕ → ℕ) (n m : ℕ) (fs : FieldPlans) (ls : List Literal) (o : MissOutcome) (q : MatchOutcome) → forget o ≡ q
    → forget (keys_first key_node n m (missing_key ls (key_slots fs)) (other_key (plan_keys fs) 0 ls) o) ≡ provided (same_key_sets (plan_keys fs) ls) q
keys_forget key_node n m fs ls o q e =
    go (missing_key ls (key_slots fs)) (other_key (plan_keys fs) 0 ls) (none_missing ls (key_slots fs) ∙ ap (λ (ks : List Literal). within ks ls) (slot_keys_lem fs)) (none_other (plan_keys fs) 0 ls)
  where
    go : (a : Option (Slot ℕ)) (b : Option ℕ) → is_none a ≡ within (plan_keys fs) ls → is_none b ≡ within ls (plan_keys fs) → forget (keys_first key_node n m a b o) ≡ provided (same_key_sets (plan_keys fs) ls) q
    go (some k) b p r = sym (ap (λ (c : Bool). provided (c && within ls (plan_keys fs)) q) (sym p))
    go none (some i) p r = sym (ap (λ (c : Bool). provided (c && within ls (plan_keys fs)) q) (sym p) ∙ ap (λ (c : Bool). provided c q) (sym r))
    go none none p r = e ∙ sym (ap (λ (c : Bool). provided (c && within ls (plan_keys fs)) q) (sym p) ∙ ap (λ (c : Bool). provided c q) (sym r))
