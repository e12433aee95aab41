-- Lists of entries: what holds of every entry, and the words of one.
use Prim.Native.Nat.{ℕ, zero, suc, ◌+◌, ◌*◌, ◌≤◌, ◌<◌}
use mathlib.Core.Path.{◌≡◌, refl, ap, ◌∙◌}
use mathlib.Core.List.{List, [], ◌∷◌, ◌++◌, map}
use mathlib.Core.Option.{Option}
use native.Mathlib.Omega.{arith}
use lib.ListN.{length, get_or, replicate, length-replicate, get_or-append}
use lib.Seq.{sets, sets-eq}
use Rattle.literal.specs.Literal.{Literal}
use Rattle.planner.specs.Layout.{Entry, top, entry_words, entry, Slot, FieldOrder, no_fields, add_field, held_in, in_order, concat, words}
use Rattle.planner.specs.Entries.{Wrote}
use Rattle.planner.specs.code.Post.{pattern_words, Laid}
use Rattle.planner.proofs.buffer.Written.{length_words}
use Rattle.planner.proofs.buffer.Copies.{wrote_laid}
use Rattle.planner.proofs.fields.FieldOrder.{AllSlots, insert_all}

module _ (P : Entry → Type 0) where
  unfoldable pub AllE : List Entry → Type 0
  AllE [] = Unit {0}
  AllE (e ∷ es) = P e × AllE es

  pub all_append : (es fs : List Entry) → AllE es → AllE fs → AllE (es ++ fs)
  unfolding AllE
  all_append [] fs a b = b
  all_append (e ∷ es) fs a b = (a.0, all_append es fs a.1 b)

  pub all_at : (d : Entry) (es : List Entry) (i : ℕ) → i < length es → AllE es → P (get_or es i d)
  unfolding AllE
  all_at d [] i lt a = absurd (omega arith)
  all_at d (e ∷ es) zero lt a = a.0
  all_at d (e ∷ es) (suc i) lt a = all_at d es i (omega arith) a.1

  -- the entries of an object's fields, in order
  abbrev Held : Slot (List Entry) → Type 0
  Held s = AllE s.held

  unfoldable pub AllLists : List (List Entry) → Type 0
  AllLists [] = Unit {0}
  AllLists (l ∷ ls) = AllE l × AllLists ls

  pub record AllOrder (o : FieldOrder (List Entry)) : Type 0 where
    pub literals : AllSlots Held o.literals
    pub computed : AllLists o.computed

  pub all_none : AllOrder no_fields
  unfolding AllSlots AllLists
  all_none = record { literals = tt; computed = tt }

  lists_snoc : (ls : List (List Entry)) (l : List Entry) → AllLists ls → AllE l → AllLists (ls ++ (l ∷ []))
  unfolding AllLists
  lists_snoc [] l a b = (b, tt)
  lists_snoc (k ∷ ls) l a b = (a.0, lists_snoc ls l a.1 b)

  pub all_add : (k : Option Literal) (es : List Entry) (o : FieldOrder (List Entry)) → AllE es → AllOrder o → AllOrder (add_field k es o)
  all_add (Option.some l) es o a b = record { literals = insert_all Held (record { at = l; held = es }) o.literals a b.literals; computed = b.computed }
  all_add Option.none es o a b = record { literals = b.literals; computed = lists_snoc o.computed es b.computed a }

  concat_lists : (ls : List (List Entry)) → AllLists ls → AllE (concat ls)
  unfolding AllLists AllE concat
  concat_lists [] a = tt
  concat_lists (l ∷ ls) a = all_append l (concat ls) a.0 (concat_lists ls a.1)

  held_lists : (ss : List (Slot (List Entry))) (ls : List (List Entry)) → AllSlots Held ss → AllLists ls → AllLists (map held_in ss ++ ls)
  unfolding AllSlots AllLists
  held_lists [] ls a b = b
  held_lists (s ∷ ss) ls a b = (a.0, held_lists ss ls a.1 b)

  pub all_order : (o : FieldOrder (List Entry)) → AllOrder o → AllE (concat (in_order o))
  all_order o a = concat_lists (in_order o) (held_lists o.literals o.computed a.literals a.computed)

-- the words of the entry at a place
pub blank : Entry
blank = entry 0 0 0 top

kind_word : (es : List Entry) (i : ℕ) → i < length es → get_or (words es) (i * entry_words) 0 ≡ (get_or es i blank).kind
unfolding words blank
kind_word [] i lt = absurd (omega arith)
kind_word (e ∷ es) zero lt = refl
kind_word (e ∷ es) (suc i) lt = let z : suc i * entry_words ≡ suc (suc (suc (suc (suc (i * entry_words))))) = omega arith in ap (λ (j : ℕ). get_or (words (e ∷ es)) j 0) z ∙ kind_word es i (omega arith)

node_word : (es : List Entry) (i : ℕ) → i < length es → get_or (words es) (i * entry_words + 1) 0 ≡ (get_or es i blank).node
unfolding words blank
node_word [] i lt = absurd (omega arith)
node_word (e ∷ es) zero lt = refl
node_word (e ∷ es) (suc i) lt = let z : suc i * entry_words + 1 ≡ suc (suc (suc (suc (suc (i * entry_words + 1))))) = omega arith in ap (λ (j : ℕ). get_or (words (e ∷ es)) j 0) z ∙ node_word es i (omega arith)

-- in a scratch of 512 entries that holds them first
pub scratch_laid : {es : List Entry} {scratch : List ℕ} {count : ℕ} → Wrote (replicate pattern_words 0) 0 es scratch count → count ≤ 512 → Laid (replicate pattern_words 0) 0 es scratch count
scratch_laid w few = let long = length-replicate {A = ℕ} pattern_words 0 in wrote_laid w (omega arith)

module _ (es : List Entry) (few : length es ≤ 512) {scratch : List ℕ} (stored : scratch ≡ sets (replicate pattern_words 0) 0 (words es)) where
  scratch_word : (j : ℕ) → j < length es * entry_words → get_or scratch j 0 ≡ get_or (words es) j 0
  scratch_word j lt =
      let w = length_words es in
      let zeros : List ℕ = replicate pattern_words 0 in
      let z : 0 + length (words es) ≤ length zeros = omega (arith, length-replicate {A = ℕ} pattern_words 0) in
      ap (λ (l : List ℕ). get_or l j 0) (stored ∙ sets-eq (words es) zeros 0 z) ∙ get_or-append (words es) _ 0 j (omega arith)

  module _ (i : ℕ) (lt : i < length es) where
    pub scratch_kind : get_or scratch (i * entry_words) 0 ≡ (get_or es i blank).kind
    scratch_kind = scratch_word (i * entry_words) (omega arith) ∙ kind_word es i lt

    pub scratch_node : get_or scratch (i * entry_words + 1) 0 ≡ (get_or es i blank).node
    scratch_node = scratch_word (i * entry_words + 1) (omega arith) ∙ node_word es i lt
