-- An object's fields in key order: under each key the same place as in the fields as written.
use Prim.Native.Nat.{ℕ}
use mathlib.Core.Bool.{Bool, true, false, ◌||◌, not, false≢true}
use mathlib.Core.List.{List, [], ◌∷◌}
use mathlib.Core.Option.{Option, none, some}
use mathlib.Core.Path.{◌≡◌, refl, ap, sym, ◌∙◌}
use lib.Dec.{T, T_not}
use Rattle.literal.specs.Literal.{Literal}
use Rattle.literal.specs.Order.{Order, less, same, more, key_order}
use Rattle.literal.proofs.Orders.{key_order_lem}
use Rattle.table.specs.Expr.{Fields, done, field}
use Rattle.planner.specs.Layout.{literal_key, Slot, placed, insert, FieldOrder, no_fields, add_field}
use Rattle.planner.specs.Simple.{same_key, has_key, differing, add_key, keys_of}
use Rattle.planner.proofs.fields.FieldOrder.{AllSlots, insert_all, Sorted, none_sorted, add_sorted}
use Rattle.value.proofs.Keys.{and_left, and_right, is_false, true_is, key→}
use Rattle.common_example.specs.Unify.{Keyed, no_key, keyed_by, keyed_in, keys_in, pick_place, place_under}
use Rattle.common_example.specs.Places.{GraphPlace, graph_place_of, placed_fields, keyed_of}
use Rattle.common_example.proofs.unify.Counting.{AllKeyed}
use Rattle.common_example.proofs.unify.Heads.{Ascending}

-- what holds of all slots
module _ {P : Type 0} (Q : Literal → P → Type 0) where
  slots_all : (ss : List (Slot P)) → AllSlots (λ (s : Slot P). Q s.at s.held) ss → AllKeyed Q (keyed_in ss)
  unfolding keyed_in AllSlots
  slots_all [] a = tt
  slots_all (s ∷ ss) a = (a.0, slots_all ss a.1)

slots_ascend : {P : Type 0} (ss : List (Slot P)) → Sorted ss → Ascending (keyed_in ss)
unfolding keyed_in Sorted
slots_ascend [] h = tt
slots_ascend (s ∷ ss) h = (slots_all (λ l p. key_order s.at l ≡ less) ss h.0, slots_ascend ss h.1)

no_place : {P : Type 0} (k : Literal) (fs : Keyed P) → has_key k (keys_in fs) ≡ false → place_under k fs ≡ none
unfolding has_key keys_in place_under
no_place k no_key e = refl
no_place {P} k (keyed_by l p fs) e = go (same_key k l) (no_place k fs) e
  where
    go : (b : Bool) → (has_key k (keys_in fs) ≡ false → place_under k fs ≡ none) → (b || has_key k (keys_in fs)) ≡ false → pick_place b p (place_under k fs) ≡ none
    go true f q = absurd (false≢true (sym q))
    go false f q = f q

abbrev keep : Option GraphPlace → Option GraphPlace → Option GraphPlace
keep none o = o
keep (some p) o = some p

module _ (held : ℕ → Option ℕ) (side : Bool) where
  -- the fields as written
  abbrev pub written_field : Option Literal → GraphPlace → Keyed GraphPlace → Keyed GraphPlace
  written_field (some k) p fs = keyed_by k p fs
  written_field none p fs = fs

  unfoldable pub written_of : Fields → Keyed GraphPlace
  written_of done = no_key
  written_of (field k v fs) = written_field (literal_key k) (graph_place_of held side v) (written_of fs)

  pub keys_in_lem : (fs : Fields) → keys_in (written_of fs) ≡ keys_of fs
  unfolding keys_in written_of keys_of
  keys_in_lem done = refl
  keys_in_lem (field k v fs) = go (literal_key k) (keys_in_lem fs)
    where
      go : (κ : Option Literal) → keys_in (written_of fs) ≡ keys_of fs → keys_in (written_field κ (graph_place_of held side v) (written_of fs)) ≡ add_key κ (keys_of fs)
      go (some l) e = ap (λ ls. l ∷ ls) e
      go none e = e

  placed_sorted : (fs : Fields) (o : FieldOrder GraphPlace) → Sorted o.literals → Sorted (placed_fields held side fs o).literals
  unfolding placed_fields
  placed_sorted done o h = h
  placed_sorted (field k v fs) o h = placed_sorted fs (add_field (literal_key k) (graph_place_of held side v) o) (add_sorted key_order_lem (literal_key k) (graph_place_of held side v) o h)

  pub ordered_ascends : (fs : Fields) → Ascending (keyed_of held side fs)
  ordered_ascends fs = slots_ascend (placed_fields held side fs no_fields).literals (placed_sorted fs no_fields (none_sorted GraphPlace))

  module _ (Q : Literal → GraphPlace → Type 0) where
    Each : List (Slot GraphPlace) → Type 0
    Each = AllSlots (λ (s : Slot GraphPlace). Q s.at s.held)

    placed_all : (fs : Fields) (o : FieldOrder GraphPlace) → AllKeyed Q (written_of fs) → Each o.literals → Each (placed_fields held side fs o).literals
    unfolding placed_fields written_of Each
    placed_all done o a b = b
    placed_all (field k v fs) o a b = go (literal_key k) a (λ x o' y. placed_all fs o' x y)
      where
        go : (κ : Option Literal) → AllKeyed Q (written_field κ (graph_place_of held side v) (written_of fs)) → (AllKeyed Q (written_of fs) → (o' : FieldOrder GraphPlace) → Each o'.literals → Each (placed_fields held side fs o').literals)
            → Each (placed_fields held side fs (add_field κ (graph_place_of held side v) o)).literals
        go none x rest = rest x (add_field none (graph_place_of held side v) o) b
        go (some l) x rest = rest x.1 (add_field (some l) (graph_place_of held side v) o) (insert_all (λ (s : Slot GraphPlace). Q s.at s.held) (record { at = l; held = graph_place_of held side v }) o.literals x.0 b)

    no_slots : Each []
    unfolding Each AllSlots
    no_slots = tt

    pub ordered_all : (fs : Fields) → AllKeyed Q (written_of fs) → AllKeyed Q (keyed_of held side fs)
    unfolding Each
    ordered_all fs a = slots_all Q (placed_fields held side fs no_fields).literals (placed_all fs no_fields a no_slots)

  -- under a key
  insert_under : (k : Literal) (s : Slot GraphPlace) (ss : List (Slot GraphPlace)) → place_under k (keyed_in (insert s ss)) ≡ pick_place (same_key k s.at) s.held (place_under k (keyed_in ss))
  unfolding insert keyed_in place_under
  insert_under k s [] = refl
  insert_under k s (t ∷ ts) = go (key_order s.at t.at) refl (insert_under k s ts)
    where
      twice : (b : Bool) → place_under k (keyed_in ts) ≡ place_under k (keyed_in ts) → pick_place b s.held (place_under k (keyed_in ts)) ≡ pick_place b s.held (pick_place b t.held (place_under k (keyed_in ts)))
      twice true e = refl
      twice false e = refl

      swap : (a b : Bool) → (T a → T b → ⊥) → pick_place b t.held (pick_place a s.held (place_under k (keyed_in ts))) ≡ pick_place a s.held (pick_place b t.held (place_under k (keyed_in ts)))
      swap true true f = absurd (f tt tt)
      swap true false f = refl
      swap false true f = refl
      swap false false f = refl

      apart : key_order s.at t.at ≡ more → T (same_key k s.at) → T (same_key k t.at) → ⊥
      apart e a b =
          let p : s.at ≡ t.at = sym (key→ k s.at a) ∙ key→ k t.at b in
          let q : key_order t.at t.at ≡ more = rw p at e in
          let r = key_order_lem.reflexive t.at in
          false≢true (cc)

      go : (o : Order) → key_order s.at t.at ≡ o → place_under k (keyed_in (insert s ts)) ≡ pick_place (same_key k s.at) s.held (place_under k (keyed_in ts))
          → place_under k (keyed_in (placed o s t ts (insert s ts))) ≡ pick_place (same_key k s.at) s.held (pick_place (same_key k t.at) t.held (place_under k (keyed_in ts)))
      go less e h = refl
      go same e h = let p : s.at ≡ t.at = key_order_lem.equal s.at t.at e in rw (← p) (twice (same_key k s.at) refl)
      go more e h = ap (λ o. pick_place (same_key k t.at) t.held o) h ∙ swap (same_key k s.at) (same_key k t.at) (apart e)

  placed_under : (k : Literal) (fs : Fields) (o : FieldOrder GraphPlace) → T (differing (keys_of fs)) → place_under k (keyed_in (placed_fields held side fs o).literals) ≡ keep (place_under k (written_of fs)) (place_under k (keyed_in o.literals))
  unfolding placed_fields written_of place_under keys_of differing
  placed_under k done o t = refl
  placed_under k (field j v fs) o t = go (literal_key j) t (λ o' t'. placed_under k fs o' t')
    where
      last : (l : Literal) (b : Bool) → same_key k l ≡ b → has_key l (keys_of fs) ≡ false → (before : Option GraphPlace) → keep (place_under k (written_of fs)) (pick_place b (graph_place_of held side v) before) ≡ keep (pick_place b (graph_place_of held side v) (place_under k (written_of fs))) before
      last l true e n before =
          let p : k ≡ l = key→ k l (true_is e) in
          let h : has_key k (keys_in (written_of fs)) ≡ false = ap (has_key k) (keys_in_lem fs) ∙ (ap (λ m. has_key m (keys_of fs)) p ∙ n) in
          let q : place_under k (written_of fs) ≡ none = no_place k (written_of fs) h in
          ap (λ x. keep x (some (graph_place_of held side v))) q
      last l false e n before = refl

      go : (κ : Option Literal) → T (differing (add_key κ (keys_of fs))) → ((o' : FieldOrder GraphPlace) → T (differing (keys_of fs)) → place_under k (keyed_in (placed_fields held side fs o').literals) ≡ keep (place_under k (written_of fs)) (place_under k (keyed_in o'.literals)))
          → place_under k (keyed_in (placed_fields held side fs (add_field κ (graph_place_of held side v) o)).literals) ≡ keep (place_under k (written_field κ (graph_place_of held side v) (written_of fs))) (place_under k (keyed_in o.literals))
      go none t' rest = rest (add_field none (graph_place_of held side v) o) t'
      go (some l) t' rest =
          let n : has_key l (keys_of fs) ≡ false = is_false (T_not (has_key l (keys_of fs)) (and_left (not (has_key l (keys_of fs))) (differing (keys_of fs)) t')) in
          rest (add_field (some l) (graph_place_of held side v) o) (and_right (not (has_key l (keys_of fs))) (differing (keys_of fs)) t')
          ∙ (ap (keep (place_under k (written_of fs))) (insert_under k (record { at = l; held = graph_place_of held side v }) o.literals) ∙ last l (same_key k l) refl n (place_under k (keyed_in o.literals)))

  pub ordered_under : (k : Literal) (fs : Fields) → T (differing (keys_of fs)) → place_under k (keyed_of held side fs) ≡ place_under k (written_of fs)
  unfolding keyed_in place_under
  ordered_under k fs t = placed_under k fs no_fields t ∙ go (place_under k (written_of fs))
    where
      go : (o : Option GraphPlace) → keep o none ≡ o
      go none = refl
      go (some p) = refl
