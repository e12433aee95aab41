-- Equal values in which keys ascend are one value, but for the numbers of their nodes. So there is one example, and what it says fixes every word.
use mathlib.Core.Bool.{Bool, true, false, false≢true}
use mathlib.Core.Logic.{⊎_elim}
use mathlib.Core.Path.{◌≡◌, refl, ap, ap₂, sym, subst, ◌∙◌}
use Rattle.literal.specs.Literal.{Literal, null}
use Rattle.literal.specs.Order.{less, key_order}
use Rattle.literal.proofs.Orders.{key_order_lem}
use Rattle.table.specs.Names.{is_same}
use Rattle.table.specs.Tables.{Tables}
use Rattle.table.specs.Decode.{expr}
use Rattle.planner.specs.Simple.{same_key}
use Rattle.value.specs.Value.{Value, literalᵛ, arrayᵛ, objectᵛ, Values, noneᵛ, itemᵛ, ValueFields, doneᵛ, fieldᵛ}
use Rattle.value.proofs.Keys.{true_is, key→}
use Rattle.value.proofs.Equal.{Meaning, absent, present, pick, is_present, meaning, meanings, meaning_at, same→, object_path, here}
use Rattle.common_example.specs.Overlap.{Template, hole, literalᵗ, arrayᵗ, objectᵗ, Templates, noneᵗ, itemᵗ, TemplateFields, doneᵗ, fieldᵗ, put_in, put_all, put_fields, example, AfterKey, InOrder, AllInOrder, FieldsInOrder}
use Rattle.common_example.specs.Operations.{PatternSide}
use Rattle.common_example.specs.Promise.{known_to_side, IsExample}
use Rattle.common_example.proofs.patterns.Determined.{determined}

-- 1. the value without the numbers of its nodes
unfoldable mutual
  plain : Value → Value
  plain (literalᵛ n l) = literalᵛ 0 l
  plain (arrayᵛ n vs) = arrayᵛ 0 (plain_all_lem vs)
  plain (objectᵛ n fs) = objectᵛ 0 (plain_fields_lem fs)

  plain_all_lem : Values → Values
  plain_all_lem noneᵛ = noneᵛ
  plain_all_lem (itemᵛ v vs) = itemᵛ (plain v) (plain_all_lem vs)

  plain_fields_lem : ValueFields → ValueFields
  plain_fields_lem doneᵛ = doneᵛ
  plain_fields_lem (fieldᵛ k v fs) = fieldᵛ k (plain v) (plain_fields_lem fs)

-- 2. an equal one is the same
absent_present : {m : Meaning} → absent ≡ present m → ⊥
absent_present e = false≢true (ap is_present e)

less_differs : (k l : Literal) → key_order k l ≡ less → same_key k l ≡ false
less_differs k l e = ap is_same e

absent_below : (k : Literal) (fs : ValueFields) → AfterKey k fs → meaning_at fs k ≡ absent
unfolding meaning
absent_below k doneᵛ a = refl
absent_below k (fieldᵛ l v fs) (o, a) = rw (less_differs k l o) (absent_below k fs a)

after_below : (k l : Literal) (fs : ValueFields) → key_order k l ≡ less → AfterKey l fs → AfterKey k fs
after_below k l doneᵛ o a = tt
after_below k l (fieldᵛ m v fs) o (p, a) = (key_order_lem.transitive k l m o p, after_below k l fs o a)

-- of two objects with the same meaning neither's first key is below the other's
not_below : (k l : Literal) (v w : Value) (fs gs : ValueFields) → FieldsInOrder (fieldᵛ l w gs) → ((m : Literal) → meaning_at (fieldᵛ k v fs) m ≡ meaning_at (fieldᵛ l w gs) m) → key_order k l ≡ less → ⊥
not_below k l v w fs gs (a, i, f) e o = absent_present (sym (absent_below k (fieldᵛ l w gs) (o, after_below k l gs o a)) ∙ (sym (e k) ∙ here k v fs))

-- past the first key
rest_at : (k : Literal) (v w : Value) (fs gs : ValueFields) → AfterKey k fs → AfterKey k gs → ((m : Literal) → meaning_at (fieldᵛ k v fs) m ≡ meaning_at (fieldᵛ k w gs) m) → (m : Literal) → meaning_at fs m ≡ meaning_at gs m
unfolding meaning
rest_at k v w fs gs a b e m = go (same_key m k) refl (e m)
  where
    go : (x : Bool) → same_key m k ≡ x → pick x (present (meaning v)) (meaning_at fs m) ≡ pick x (present (meaning w)) (meaning_at gs m) → meaning_at fs m ≡ meaning_at gs m
    go true p h = let q = key→ m k (true_is p) in rw q (absent_below k fs a ∙ sym (absent_below k gs b))
    go false p h = h

mutual
  unfolding meaning plain

  plain_same : (v w : Value) → InOrder v → InOrder w → meaning v ≡ meaning w → plain v ≡ plain w
  plain_same (literalᵛ n l) (literalᵛ m k) a b e = let q : l ≡ k = cc in ap (literalᵛ 0) q
  plain_same (literalᵛ n l) (arrayᵛ m ws) a b e = absurd (false≢true (cc))
  plain_same (literalᵛ n l) (objectᵛ m gs) a b e = absurd (false≢true (cc))
  plain_same (arrayᵛ n vs) (literalᵛ m k) a b e = absurd (false≢true (cc))
  plain_same (arrayᵛ n vs) (arrayᵛ m ws) a b e = let q : meanings vs ≡ meanings ws = cc in ap (arrayᵛ 0) (plain_all vs ws a b q)
  plain_same (arrayᵛ n vs) (objectᵛ m gs) a b e = absurd (false≢true (cc))
  plain_same (objectᵛ n fs) (literalᵛ m k) a b e = absurd (false≢true (cc))
  plain_same (objectᵛ n fs) (arrayᵛ m ws) a b e = absurd (false≢true (cc))
  plain_same (objectᵛ n fs) (objectᵛ m gs) a b e = ap (objectᵛ 0) (plain_fields fs gs a b (λ k. ap (λ f. f k) (object_path (meaning_at fs) (meaning_at gs) e)))

  plain_all : (vs ws : Values) → AllInOrder vs → AllInOrder ws → meanings vs ≡ meanings ws → plain_all_lem vs ≡ plain_all_lem ws
  plain_all noneᵛ noneᵛ a b e = refl
  plain_all noneᵛ (itemᵛ w ws) a b e = absurd (false≢true (cc))
  plain_all (itemᵛ v vs) noneᵛ a b e = absurd (false≢true (cc))
  plain_all (itemᵛ v vs) (itemᵛ w ws) (a, as') (b, bs) e =
      let q : meaning v ≡ meaning w = cc in
      let r : meanings vs ≡ meanings ws = cc in
      ap₂ itemᵛ (plain_same v w a b q) (plain_all vs ws as' bs r)

  plain_fields : (fs gs : ValueFields) → FieldsInOrder fs → FieldsInOrder gs → ((m : Literal) → meaning_at fs m ≡ meaning_at gs m) → plain_fields_lem fs ≡ plain_fields_lem gs
  plain_fields doneᵛ doneᵛ a b e = refl
  plain_fields doneᵛ (fieldᵛ l w gs) a b e = absurd (absent_present (e l ∙ here l w gs))
  plain_fields (fieldᵛ k v fs) doneᵛ a b e = absurd (absent_present (sym (e k) ∙ here k v fs))
  plain_fields (fieldᵛ k v fs) (fieldᵛ l w gs) a b e =
      ⊎_elim (λ o. absurd (not_below k l v w fs gs b e o))
      (λ h. ⊎_elim
      (λ q.
      let e' : (m : Literal) → meaning_at (fieldᵛ k v fs) m ≡ meaning_at (fieldᵛ k w gs) m = λ m. e m ∙ ap (λ (x : Literal). meaning_at (fieldᵛ x w gs) m) (sym q) in
      let z : present (meaning v) ≡ present (meaning w) = sym (here k v fs) ∙ (e' k ∙ here k w gs) in
      let y : meaning v ≡ meaning w = cc in
      let r = rest_at k v w fs gs a.0 (subst (λ (x : Literal). AfterKey x gs) (sym q) b.0) e' in
      ap₂ (fieldᵛ k) (plain_same v w a.1 b.1 y) (plain_fields fs gs a.2 b.2 r) ∙ ap (λ (x : Literal). fieldᵛ x (plain w) (plain_fields_lem gs)) q)
      (λ o. absurd (not_below l k w v gs fs a (λ m. sym (e m)) o)) h)
      (key_order_lem.total k l)

-- 3. an example's nodes have no numbers
module _ {H : Type 0} where
  mutual
    unfolding plain put_in

    plain_example : (t : Template H) → plain (example t) ≡ example t
    plain_example (hole x) = refl
    plain_example (literalᵗ l) = refl
    plain_example (arrayᵗ ts) = ap (arrayᵛ 0) (plain_examples ts)
    plain_example (objectᵗ fs) = ap (objectᵛ 0) (plain_example_fields fs)

    plain_examples : (ts : Templates H) → plain_all_lem (put_all (λ x. literalᵛ 0 null) ts) ≡ put_all (λ x. literalᵛ 0 null) ts
    plain_examples noneᵗ = refl
    plain_examples (itemᵗ t ts) = ap₂ itemᵛ (plain_example t) (plain_examples ts)

    plain_example_fields : (fs : TemplateFields H) → plain_fields_lem (put_fields (λ x. literalᵛ 0 null) fs) ≡ put_fields (λ x. literalᵛ 0 null) fs
    plain_example_fields doneᵗ = refl
    plain_example_fields (fieldᵗ k t fs) = ap₂ (fieldᵛ k) (plain_example t) (plain_example_fields fs)

-- 4. there is one example
pub one_example : (T : Tables) (s₁ s₂ : PatternSide) (v w : Value) → IsExample T s₁ s₂ v → IsExample T s₁ s₂ w → v ≡ w
one_example T s₁ s₂ v w a b =
    let d = determined (known_to_side T s₁) (known_to_side T s₂) (expr T s₁.pattern) (expr T s₂.pattern) a.template b.template a.general b.general in
    let p = plain_same (example a.template) (example b.template) (rw (← a.its_example) at a.ordered) (rw (← b.its_example) at b.ordered) (same→ (example a.template) (example b.template) d) in
    sym a.its_example ∙ (sym (plain_example a.template) ∙ (p ∙ (plain_example b.template ∙ b.its_example)))
