-- The example is determined: two templates whose instances are the values that both patterns match have equal examples.
use mathlib.Core.Bool.{Bool, true, false, false≢true}
use mathlib.Core.List.{◌∷◌}
use mathlib.Core.Option.{Option, none, some}
use mathlib.Core.Path.{◌≡◌, refl, ap, ap₂, sym, ◌∙◌, fun_ext}
use lib.Dec.{T}
use Rattle.literal.specs.Literal.{Literal, null}
use Rattle.table.specs.Expr.{Expr}
use Rattle.planner.specs.Simple.{same_key, differing}
use Rattle.value.specs.Value.{Value, literalᵛ, arrayᵛ, noneᵛ, keysᵛ, proper, proper_all_lem, proper_fields_lem, Proper, Same}
use Rattle.value.proofs.Keys.{and_left, and_right, both}
use Rattle.value.proofs.Equal.{same_refl}
use Rattle.matching.specs.Matching.{Env, ProperValue}
use Rattle.common_example.specs.Overlap.{Template, hole, literalᵗ, arrayᵗ, objectᵗ, Templates, noneᵗ, itemᵗ, TemplateFields, doneᵗ, fieldᵗ, put_in, put_all, put_fields, BothMatch, Overlap, example}
use Rattle.value.proofs.Equal.{Meaning, a_literal, an_array, an_object, Meanings, no_more, one_more_lem, Under, absent, present, pick, meaning, same→, same←}
use Rattle.common_example.proofs.unify.Building.{meaningᵗ, meaningsᵗ, meaning_atᵗ, meaning_put, template_under, meantᵗ, under_template}
use Rattle.common_example.proofs.patterns.Blanks.{null_value}

-- whether the keys differ does not hang on the holes
module _ {H : Type 0} (ρ σ : H → Value) (good : (x : H) → Proper (σ x)) where
  keys_same : (fs : TemplateFields H) → keysᵛ (put_fields ρ fs) ≡ keysᵛ (put_fields σ fs)
  unfolding put_in keysᵛ
  keys_same doneᵗ = refl
  keys_same (fieldᵗ k t fs) = ap (λ ks. k ∷ ks) (keys_same fs)

  mutual
    unfolding put_in proper

    put_proper : (t : Template H) → Proper (put_in ρ t) → Proper (put_in σ t)
    put_proper (hole x) p = good x
    put_proper (literalᵗ l) p = tt
    put_proper (arrayᵗ ts) p = put_proper_all ts p
    put_proper (objectᵗ fs) p = both (differing (keysᵛ (put_fields σ fs))) (proper_fields_lem (put_fields σ fs)) (rw (keys_same fs) at (and_left (differing (keysᵛ (put_fields ρ fs))) (proper_fields_lem (put_fields ρ fs)) p)) (put_proper_fields fs (and_right (differing (keysᵛ (put_fields ρ fs))) (proper_fields_lem (put_fields ρ fs)) p))

    put_proper_all : (ts : Templates H) → T (proper_all_lem (put_all ρ ts)) → T (proper_all_lem (put_all σ ts))
    put_proper_all noneᵗ p = tt
    put_proper_all (itemᵗ t ts) p = both (proper (put_in σ t)) (proper_all_lem (put_all σ ts)) (put_proper t (and_left (proper (put_in ρ t)) (proper_all_lem (put_all ρ ts)) p)) (put_proper_all ts (and_right (proper (put_in ρ t)) (proper_all_lem (put_all ρ ts)) p))

    put_proper_fields : (fs : TemplateFields H) → T (proper_fields_lem (put_fields ρ fs)) → T (proper_fields_lem (put_fields σ fs))
    put_proper_fields doneᵗ p = tt
    put_proper_fields (fieldᵗ k t fs) p = both (proper (put_in σ t)) (proper_fields_lem (put_fields σ fs)) (put_proper t (and_left (proper (put_in ρ t)) (proper_fields_lem (put_fields ρ fs)) p)) (put_proper_fields fs (and_right (proper (put_in ρ t)) (proper_fields_lem (put_fields ρ fs)) p))

-- the holes' meanings
abbrev holes_of : {H : Type 0} → (H → ProperValue) → H → Meaning
holes_of ρ x = meaning (ρ x).value

abbrev nulls : {H : Type 0} → H → Meaning
nulls x = a_literal null

nullsᵖ : {H : Type 0} → H → ProperValue
nullsᵖ x = null_value

empty_list : ProperValue
unfolding proper
empty_list = record { value = arrayᵛ 0 noneᵛ; is_proper = tt }

-- each meaning that the first can have the second can have
abbrev Covers : (H K : Type 0) {A : Type 0} → ((H → Meaning) → A) → ((K → Meaning) → A) → Type 0
Covers H K f h = (ρ : H → ProperValue) → (σ : K → ProperValue) × (f (holes_of ρ) ≡ h (holes_of σ))

-- and the other way round
abbrev Alike : (H K : Type 0) {A : Type 0} → ((H → Meaning) → A) → ((K → Meaning) → A) → Type 0
Alike H K f h = Covers H K f h × Covers K H h f

abbrev Equal : {H K : Type 0} → Template H → Template K → Type 0
Equal {H} {K} t u = Alike H K (λ ρ. meaningᵗ ρ t) (λ σ. meaningᵗ σ u) → meaningᵗ nulls t ≡ meaningᵗ nulls u

-- a part of each
alike_part : (H K : Type 0) {A B : Type 0} (p : A → B) (f : (H → Meaning) → A) (h : (K → Meaning) → A) → Alike H K f h → Alike H K (λ ρ. p (f ρ)) (λ σ. p (h σ))
alike_part H K p f h a = (λ ρ. let (σ, e) = a.0 ρ in (σ, ap p e), λ σ. let (ρ, e) = a.1 σ in (ρ, ap p e))

-- a hole can be null and an empty array
hole_free : {C : Type 0} (H K : Type 0) (m : (K → Meaning) → Meaning) (x : H) → Covers H K (λ ρ. ρ x) m → ((σ τ : K → Meaning) → a_literal null ≡ m σ → an_array no_more ≡ m τ → C) → C
unfolding nullsᵖ null_value empty_list meaning
hole_free H K m x c f =
    let (σ, e) = c (λ y. nullsᵖ y) in
    let (τ, r) = c (λ y. empty_list) in
    f (holes_of σ) (holes_of τ) e r

hole_left : (H K : Type 0) (x : H) (u : Template K) → Equal (hole x) u
unfolding meaningᵗ
hole_left H K x (hole y) a = refl
hole_left H K x (literalᵗ l) a = hole_free H K (λ σ. a_literal l) x a.0 (λ σ τ e r. absurd (false≢true (cc)))
hole_left H K x (arrayᵗ us) a = hole_free H K (λ σ. an_array (meaningsᵗ σ us)) x a.0 (λ σ τ e r. absurd (false≢true (cc)))
hole_left H K x (objectᵗ gs) a = hole_free H K (λ σ. an_object (λ k. meaning_atᵗ σ gs k)) x a.0 (λ σ τ e r. absurd (false≢true (cc)))

abbrev items_in : Meaning → Meanings
items_in (a_literal l) = no_more
items_in (an_array ms) = ms
items_in (an_object f) = no_more

abbrev field_in : Literal → Meaning → Under
field_in k (a_literal l) = absent
field_in k (an_array ms) = absent
field_in k (an_object f) = f k

abbrev first_in : Meanings → Meaning
first_in no_more = a_literal null
first_in (one_more_lem m ms) = m

abbrev rest_in : Meanings → Meanings
rest_in no_more = no_more
rest_in (one_more_lem m ms) = ms

abbrev value_in : Under → Meaning
value_in absent = a_literal null
value_in (present m) = m

-- where one can be, they are: no holes are needed to see a difference
some_case : {C : Type 0} (H K : Type 0) {A : Type 0} (f : (H → Meaning) → A) (h : (K → Meaning) → A) → Alike H K f h → ((ρ : H → Meaning) (σ : K → Meaning) → f ρ ≡ h σ → C) → C
some_case H K f h a c = let (σ, e) = a.0 (λ x. nullsᵖ x) in c (holes_of (λ x. nullsᵖ x)) (holes_of σ) e

module _ (H K : Type 0) where
  alike_field : (t : Template H) (fs : TemplateFields H) (k : Literal) → ((u : Template K) → Equal t u)
      → (b : Bool) (o : Option (Template K)) → (Alike H K (λ ρ. meaning_atᵗ ρ fs k) (λ σ. meantᵗ σ o) → meaning_atᵗ nulls fs k ≡ meantᵗ nulls o)
      → Alike H K (λ ρ. pick b (present (meaningᵗ ρ t)) (meaning_atᵗ ρ fs k)) (λ σ. meantᵗ σ o) → pick b (present (meaningᵗ nulls t)) (meaning_atᵗ nulls fs k) ≡ meantᵗ nulls o
  alike_field t fs k here true none rest a = some_case H K (λ ρ. present (meaningᵗ ρ t)) (λ σ. absent) a (λ ρ σ e. absurd (false≢true (cc)))
  alike_field t fs k here true (some u) rest a = ap present (here u (alike_part H K value_in (λ ρ. present (meaningᵗ ρ t)) (λ σ. present (meaningᵗ σ u)) a))
  alike_field t fs k here false o rest a = rest a

  mutual
    unfolding meaningᵗ template_under

    alike : (t : Template H) (u : Template K) → Equal t u
    alike (hole x) u a = hole_left H K x u a
    alike (literalᵗ l) (hole y) a = sym (hole_left K H y (literalᵗ l) (a.1, a.0))
    alike (literalᵗ l) (literalᵗ k) a = some_case H K (λ ρ. a_literal l) (λ σ. a_literal k) a (λ ρ σ e. e)
    alike (literalᵗ l) (arrayᵗ us) a = some_case H K (λ ρ. a_literal l) (λ σ. an_array (meaningsᵗ σ us)) a (λ ρ σ e. absurd (false≢true (cc)))
    alike (literalᵗ l) (objectᵗ gs) a = some_case H K (λ ρ. a_literal l) (λ σ. an_object (λ k. meaning_atᵗ σ gs k)) a (λ ρ σ e. absurd (false≢true (cc)))
    alike (arrayᵗ ts) (hole y) a = sym (hole_left K H y (arrayᵗ ts) (a.1, a.0))
    alike (arrayᵗ ts) (literalᵗ k) a = some_case H K (λ ρ. an_array (meaningsᵗ ρ ts)) (λ σ. a_literal k) a (λ ρ σ e. absurd (false≢true (cc)))
    alike (arrayᵗ ts) (arrayᵗ us) a = ap an_array (alike_all ts us (alike_part H K items_in (λ ρ. an_array (meaningsᵗ ρ ts)) (λ σ. an_array (meaningsᵗ σ us)) a))
    alike (arrayᵗ ts) (objectᵗ gs) a = some_case H K (λ ρ. an_array (meaningsᵗ ρ ts)) (λ σ. an_object (λ k. meaning_atᵗ σ gs k)) a (λ ρ σ e. absurd (false≢true (cc)))
    alike (objectᵗ fs) (hole y) a = sym (hole_left K H y (objectᵗ fs) (a.1, a.0))
    alike (objectᵗ fs) (literalᵗ l) a = some_case H K (λ ρ. an_object (λ k. meaning_atᵗ ρ fs k)) (λ σ. a_literal l) a (λ ρ σ e. absurd (false≢true (cc)))
    alike (objectᵗ fs) (arrayᵗ us) a = some_case H K (λ ρ. an_object (λ k. meaning_atᵗ ρ fs k)) (λ σ. an_array (meaningsᵗ σ us)) a (λ ρ σ e. absurd (false≢true (cc)))
    alike (objectᵗ fs) (objectᵗ gs) a = ap an_object (fun_ext (λ k.
        let b = alike_part H K (field_in k) (λ ρ. an_object (λ k. meaning_atᵗ ρ fs k)) (λ σ. an_object (λ k. meaning_atᵗ σ gs k)) a in
        alike_at fs k (template_under k gs) (λ ρ. let (σ, e) = b.0 ρ in (σ, e ∙ under_template (holes_of σ) k gs), λ σ. let (ρ, e) = b.1 σ in (ρ, sym (under_template (holes_of σ) k gs) ∙ e))
        ∙ sym (under_template nulls k gs)))

    alike_all : (ts : Templates H) (us : Templates K) → Alike H K (λ ρ. meaningsᵗ ρ ts) (λ σ. meaningsᵗ σ us) → meaningsᵗ nulls ts ≡ meaningsᵗ nulls us
    alike_all noneᵗ noneᵗ a = refl
    alike_all noneᵗ (itemᵗ u us) a = some_case H K (λ ρ. no_more) (λ σ. one_more_lem (meaningᵗ σ u) (meaningsᵗ σ us)) a (λ ρ σ e. absurd (false≢true (cc)))
    alike_all (itemᵗ t ts) noneᵗ a = some_case H K (λ ρ. one_more_lem (meaningᵗ ρ t) (meaningsᵗ ρ ts)) (λ σ. no_more) a (λ ρ σ e. absurd (false≢true (cc)))
    alike_all (itemᵗ t ts) (itemᵗ u us) a =
        ap₂ one_more_lem
        (alike t u (alike_part H K first_in (λ ρ. one_more_lem (meaningᵗ ρ t) (meaningsᵗ ρ ts)) (λ σ. one_more_lem (meaningᵗ σ u) (meaningsᵗ σ us)) a))
        (alike_all ts us (alike_part H K rest_in (λ ρ. one_more_lem (meaningᵗ ρ t) (meaningsᵗ ρ ts)) (λ σ. one_more_lem (meaningᵗ σ u) (meaningsᵗ σ us)) a))

    alike_at : (fs : TemplateFields H) (k : Literal) (o : Option (Template K)) → Alike H K (λ ρ. meaning_atᵗ ρ fs k) (λ σ. meantᵗ σ o) → meaning_atᵗ nulls fs k ≡ meantᵗ nulls o
    alike_at doneᵗ k none a = refl
    alike_at doneᵗ k (some u) a = some_case H K (λ ρ. absent) (λ σ. present (meaningᵗ σ u)) a (λ ρ σ e. absurd (false≢true (cc)))
    alike_at (fieldᵗ l t fs) k o a = alike_field t fs k (λ u b. alike t u b) (same_key k l) o (λ b. alike_at fs k o b) a

-- the theorem
module _ (known₁ known₂ : Env) (e₁ e₂ : Expr) where
  covers : {H K : Type 0} (t : Template H) (u : Template K) → Overlap known₁ known₂ e₁ e₂ t → Overlap known₁ known₂ e₁ e₂ u → Covers H K (λ ρ. meaningᵗ ρ t) (λ σ. meaningᵗ σ u)
  covers t u o q ρ =
      let v = put_in (λ x. (ρ x).value) t in
      let p : Proper v = put_proper (λ x. literalᵛ 0 null) (λ x. (ρ x).value) (λ x. (ρ x).is_proper) t o.is_value in
      let m = o.only v p (ρ, same_refl v p) in
      let i = q.each v p m in
      (i.0, sym (meaning_put (λ x. (ρ x).value) t) ∙ (sym (same→ (put_in (λ x. (i.0 x).value) u) v i.1) ∙ meaning_put (λ x. (i.0 x).value) u))

  pub determined : {H K : Type 0} (t : Template H) (u : Template K) → Overlap known₁ known₂ e₁ e₂ t → Overlap known₁ known₂ e₁ e₂ u → Same (example t) (example u)
  unfolding meaning
  determined {H} {K} t u o q = same← (example t) (example u) o.is_value (meaning_put (λ x. literalᵛ 0 null) t ∙ (alike H K t u (covers t u o q, covers u t q o) ∙ sym (meaning_put (λ x. literalᵛ 0 null) u)))

  -- and both patterns match the example
  pub example_matched : {H : Type 0} (t : Template H) → Overlap known₁ known₂ e₁ e₂ t → BothMatch known₁ known₂ e₁ e₂ (example t)
  unfolding proper
  example_matched t o = o.only (example t) o.is_value (λ x. record { value = literalᵛ 0 null; is_proper = tt }, same_refl (example t) o.is_value)
