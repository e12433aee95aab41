-- Equality of values is equality of what they mean, where an object means a function of its keys. So it is reflexive, symmetric and transitive.
use mathlib.Core.Bool.{Bool, true, false, ◌||◌, not, false≢true}
use mathlib.Core.Option.{Option, none, some}
use mathlib.Core.Path.{◌≡◌, refl, ap, ap₂, sym, ◌∙◌, fun_ext}
use lib.Dec.{T, T_not}
use Rattle.literal.specs.Literal.{Literal}
use Rattle.planner.specs.Simple.{same_key, has_key, differing}
use Rattle.value.specs.Value.{Value, literalᵛ, arrayᵛ, objectᵛ, Values, noneᵛ, itemᵛ, ValueFields, doneᵛ, fieldᵛ, within, same_key_sets, keysᵛ, first_hit, under, proper, proper_all_lem, proper_fields_lem, Proper, holds, same, same_items, same_fields_lem, Same, EqualityLaws}
use Rattle.value.proofs.Keys.{and_left, and_right, both, or_left, or_right, is_true, is_false, true_is, key→, key_refl, within→, within←}

mutual
  pub data Meaning : Type 0 where
    a_literal : Literal → Meaning
    an_array : Meanings → Meaning
    an_object : (Literal → Under) → Meaning

  pub data Meanings : Type 0 where
    no_more : Meanings
    one_more_lem : Meaning → Meanings → Meanings

  pub data Under : Type 0 where
    absent : Under
    present : Meaning → Under

abbrev pub pick : Bool → Under → Under → Under
pick true a b = a
pick false a b = b

abbrev pub is_present : Under → Bool
is_present absent = false
is_present (present m) = true

unfoldable mutual
  pub meaning : Value → Meaning
  meaning (literalᵛ n l) = a_literal l
  meaning (arrayᵛ n vs) = an_array (meanings vs)
  meaning (objectᵛ n fs) = an_object (λ k. meaning_at fs k)

  pub meanings : Values → Meanings
  meanings noneᵛ = no_more
  meanings (itemᵛ v vs) = one_more_lem (meaning v) (meanings vs)

  pub meaning_at : ValueFields → Literal → Under
  meaning_at doneᵛ k = absent
  meaning_at (fieldᵛ l v fs) k = pick (same_key k l) (present (meaning v)) (meaning_at fs k)

abbrev pub meant : Option Value → Under
meant none = absent
meant (some v) = present (meaning v)

pub meant_under : (k : Literal) (fs : ValueFields) → meaning_at fs k ≡ meant (under k fs)
unfolding meaning under
meant_under k doneᵛ = refl
meant_under k (fieldᵛ l v fs) = go (same_key k l) (meant_under k fs)
  where
    go : (b : Bool) → meaning_at fs k ≡ meant (under k fs) → pick b (present (meaning v)) (meaning_at fs k) ≡ meant (first_hit b v (under k fs))
    go true e = refl
    go false e = e

pub present_key : (k : Literal) (fs : ValueFields) → is_present (meaning_at fs k) ≡ has_key k (keysᵛ fs)
unfolding meaning has_key keysᵛ
present_key k doneᵛ = refl
present_key k (fieldᵛ l v fs) = go (same_key k l) (present_key k fs)
  where
    go : (b : Bool) → is_present (meaning_at fs k) ≡ has_key k (keysᵛ fs) → is_present (pick b (present (meaning v)) (meaning_at fs k)) ≡ (b || has_key k (keysᵛ fs))
    go true e = refl
    go false e = e

pub not_present : (u : Under) → is_present u ≡ false → u ≡ absent
not_present absent e = refl
not_present (present m) e = cc

-- equal values mean the same

at_found : (v : Value) (o : Option Value) → ((w : Value) → Same v w → meaning v ≡ meaning w) → T (holds (λ w. same v w) o) → present (meaning v) ≡ meant o
at_found v none f t = absurd t
at_found v (some w) f t = ap present (f w t)

key_sets : (fs gs : ValueFields) (k : Literal) → T (same_key_sets (keysᵛ fs) (keysᵛ gs)) → (T (has_key k (keysᵛ fs)) → meaning_at fs k ≡ meaning_at gs k) → meaning_at fs k ≡ meaning_at gs k
key_sets fs gs k t f = go (has_key k (keysᵛ fs)) refl
  where
    back : T (has_key k (keysᵛ gs)) → T (has_key k (keysᵛ fs))
    back = within→ (keysᵛ gs) (keysᵛ fs) (and_right (within (keysᵛ fs) (keysᵛ gs)) (within (keysᵛ gs) (keysᵛ fs)) t) k

    go : (b : Bool) → has_key k (keysᵛ fs) ≡ b → meaning_at fs k ≡ meaning_at gs k
    go true e = f (true_is e)
    go false e = not_present (meaning_at fs k) (present_key k fs ∙ e) ∙ sym (not_present (meaning_at gs k) (present_key k gs ∙ is_false (λ h. rw e at (back h))))

mutual
  unfolding same meaning has_key keysᵛ

  pub same→ : (v w : Value) → Same v w → meaning v ≡ meaning w
  same→ (literalᵛ n l) (literalᵛ m k) t = ap a_literal (key→ l k t)
  same→ (literalᵛ n l) (arrayᵛ m ws) t = absurd t
  same→ (literalᵛ n l) (objectᵛ m gs) t = absurd t
  same→ (arrayᵛ n vs) (literalᵛ m k) t = absurd t
  same→ (arrayᵛ n vs) (arrayᵛ m ws) t = ap an_array (items→ vs ws t)
  same→ (arrayᵛ n vs) (objectᵛ m gs) t = absurd t
  same→ (objectᵛ n fs) (literalᵛ m k) t = absurd t
  same→ (objectᵛ n fs) (arrayᵛ m ws) t = absurd t
  same→ (objectᵛ n fs) (objectᵛ m gs) t = ap an_object (fun_ext (λ k. key_sets fs gs k (and_left (same_key_sets (keysᵛ fs) (keysᵛ gs)) (same_fields_lem fs gs) t) (λ h. fields→ fs gs (and_right (same_key_sets (keysᵛ fs) (keysᵛ gs)) (same_fields_lem fs gs) t) k h)))

  pub items→ : (vs ws : Values) → T (same_items vs ws) → meanings vs ≡ meanings ws
  items→ noneᵛ noneᵛ t = refl
  items→ noneᵛ (itemᵛ w ws) t = absurd t
  items→ (itemᵛ v vs) noneᵛ t = absurd t
  items→ (itemᵛ v vs) (itemᵛ w ws) t = ap₂ one_more_lem (same→ v w (and_left (same v w) (same_items vs ws) t)) (items→ vs ws (and_right (same v w) (same_items vs ws) t))

  pub fields→ : (fs gs : ValueFields) → T (same_fields_lem fs gs) → (k : Literal) → T (has_key k (keysᵛ fs)) → meaning_at fs k ≡ meaning_at gs k
  fields→ doneᵛ gs t k h = absurd h
  fields→ (fieldᵛ l v fs) gs t k h = go (same_key k l) refl (λ w s. same→ v w s) (λ h'. fields→ fs gs (and_right (holds (λ w. same v w) (under l gs)) (same_fields_lem fs gs) t) k h') h
    where
      go : (b : Bool) → same_key k l ≡ b → ((w : Value) → Same v w → meaning v ≡ meaning w) → (T (has_key k (keysᵛ fs)) → meaning_at fs k ≡ meaning_at gs k) → T (b || has_key k (keysᵛ fs)) → pick b (present (meaning v)) (meaning_at fs k) ≡ meaning_at gs k
      go true e f g h' = at_found v (under l gs) f (and_left (holds (λ w. same v w) (under l gs)) (same_fields_lem fs gs) t) ∙ sym (ap (λ j. meaning_at gs j) (key→ k l (true_is e)) ∙ meant_under l gs)
      go false e f g h' = g h'

-- and values that mean the same are equal, if the first one's keys differ

at_key : (v : Value) (o : Option Value) → ((w : Value) → meaning v ≡ meaning w → Same v w) → present (meaning v) ≡ meant o → T (holds (λ w. same v w) o)
at_key v none f e = false≢true (cc)
at_key v (some w) f e = f w (cc)

pub object_path : (f g : Literal → Under) → an_object f ≡ an_object g → f ≡ g
object_path f g e = cc

same_sets : (fs gs : ValueFields) → ((k : Literal) → meaning_at fs k ≡ meaning_at gs k) → T (same_key_sets (keysᵛ fs) (keysᵛ gs))
same_sets fs gs f = both (within (keysᵛ fs) (keysᵛ gs)) (within (keysᵛ gs) (keysᵛ fs)) (within← (keysᵛ fs) (keysᵛ gs) (λ k h. rw (keys k) at h)) (within← (keysᵛ gs) (keysᵛ fs) (λ k h. rw (sym (keys k)) at h))
  where
    keys : (k : Literal) → has_key k (keysᵛ fs) ≡ has_key k (keysᵛ gs)
    keys k = sym (present_key k fs) ∙ (ap is_present (f k) ∙ present_key k gs)

pub here : (l : Literal) (v : Value) (fs : ValueFields) → meaning_at (fieldᵛ l v fs) l ≡ present (meaning v)
unfolding meaning
here l v fs = let e : same_key l l ≡ true = is_true (key_refl l) in rw e

-- past a first field of another key
pub past : (l : Literal) (v : Value) (fs : ValueFields) (k : Literal) → T (not (has_key l (keysᵛ fs))) → T (has_key k (keysᵛ fs)) → meaning_at (fieldᵛ l v fs) k ≡ meaning_at fs k
unfolding meaning
past l v fs k d h = let e : same_key k l ≡ false = is_false (λ (s : T (same_key k l)). T_not (has_key l (keysᵛ fs)) d (let q : k ≡ l = key→ k l s in rw q at h)) in rw e

mutual
  unfolding same meaning proper has_key keysᵛ differing

  pub same← : (v w : Value) → Proper v → meaning v ≡ meaning w → Same v w
  same← (literalᵛ n l) (literalᵛ m k) p e = let q : l ≡ k = cc in rw (← q) (key_refl l)
  same← (literalᵛ n l) (arrayᵛ m ws) p e = false≢true (cc)
  same← (literalᵛ n l) (objectᵛ m gs) p e = false≢true (cc)
  same← (arrayᵛ n vs) (literalᵛ m k) p e = false≢true (cc)
  same← (arrayᵛ n vs) (arrayᵛ m ws) p e = items← vs ws p (cc)
  same← (arrayᵛ n vs) (objectᵛ m gs) p e = false≢true (cc)
  same← (objectᵛ n fs) (literalᵛ m k) p e = false≢true (cc)
  same← (objectᵛ n fs) (arrayᵛ m ws) p e = false≢true (cc)
  same← (objectᵛ n fs) (objectᵛ m gs) p e =
      let f : (k : Literal) → meaning_at fs k ≡ meaning_at gs k = λ k. ap (λ m. m k) (object_path (λ k. meaning_at fs k) (λ k. meaning_at gs k) e) in
      both (same_key_sets (keysᵛ fs) (keysᵛ gs)) (same_fields_lem fs gs) (same_sets fs gs f) (fields← fs gs (and_left (differing (keysᵛ fs)) (proper_fields_lem fs) p) (and_right (differing (keysᵛ fs)) (proper_fields_lem fs) p) (λ k h. f k))

  pub items← : (vs ws : Values) → T (proper_all_lem vs) → meanings vs ≡ meanings ws → T (same_items vs ws)
  items← noneᵛ noneᵛ p e = tt
  items← noneᵛ (itemᵛ w ws) p e = false≢true (cc)
  items← (itemᵛ v vs) noneᵛ p e = false≢true (cc)
  items← (itemᵛ v vs) (itemᵛ w ws) p e = both (same v w) (same_items vs ws) (same← v w (and_left (proper v) (proper_all_lem vs) p) (cc)) (items← vs ws (and_right (proper v) (proper_all_lem vs) p) (cc))

  pub fields← : (fs gs : ValueFields) → T (differing (keysᵛ fs)) → T (proper_fields_lem fs) → ((k : Literal) → T (has_key k (keysᵛ fs)) → meaning_at fs k ≡ meaning_at gs k) → T (same_fields_lem fs gs)
  fields← doneᵛ gs d p f = tt
  fields← (fieldᵛ l v fs) gs d p f = both (holds (λ w. same v w) (under l gs)) (same_fields_lem fs gs)
      (at_key v (under l gs) (λ w e. same← v w (and_left (proper v) (proper_fields_lem fs) p) e) (sym (here l v fs) ∙ (f l (or_left (same_key l l) (has_key l (keysᵛ fs)) (key_refl l)) ∙ meant_under l gs)))
      (fields← fs gs (and_right (not (has_key l (keysᵛ fs))) (differing (keysᵛ fs)) d) (and_right (proper v) (proper_fields_lem fs) p) (λ k h. sym (past l v fs k (and_left (not (has_key l (keysᵛ fs))) (differing (keysᵛ fs)) d) h) ∙ f k (or_right (same_key k l) (has_key k (keysᵛ fs)) h)))

pub same_refl : (v : Value) → Proper v → Same v v
same_refl v p = same← v v p refl

pub same_sym : (v w : Value) → Proper w → Same v w → Same w v
same_sym v w p t = same← w v p (sym (same→ v w t))

pub laws : EqualityLaws
laws = record { reflexive = same_refl; symmetric = same_sym; transitive = λ u v w p s t. same← u w p (same→ u v s ∙ same→ v w t) }

-- two values equal to one are equal
pub same_to : (u v w : Value) → Proper u → Same u v → Same w v → Same u w
same_to u v w p s t = same← u w p (same→ u v s ∙ sym (same→ w v t))

pub same_from : (u v w : Value) → Proper v → Same u v → Same u w → Same v w
same_from u v w p s t = same← v w p (sym (same→ u v s) ∙ same→ u w t)
