-- The template that is built: what it means, that more levels change nothing, and that there is one if there is a solution.
use Prim.Native.Nat.{ℕ, zero, suc, ◌+◌, ◌-◌, ◌≤◌}
use mathlib.Core.Bool.{Bool, true, false, not, false≢true}
use mathlib.Core.List.{List, [], ◌∷◌, map}
use mathlib.Core.Logic.{◌⊎◌, inl, inr, ⊎_elim}
use mathlib.Core.Option.{Option, none, some}
use mathlib.Core.Path.{◌≡◌, refl, ap, ap₂, sym, ◌∙◌, fun_ext}
use native.Mathlib.Omega.{arith}
use lib.Dec.{T}
use lib.ListN.{length}
use Rattle.literal.specs.Literal.{Literal}
use Rattle.planner.specs.Simple.{same_key, has_key, differing}
use Rattle.value.specs.Value.{Value, keysᵛ, proper, proper_all_lem, proper_fields_lem, Proper}
use Rattle.value.proofs.Keys.{and_left, and_right, both, or_left, or_right, is_true, key_refl}
use Rattle.common_example.specs.Overlap.{Template, hole, literalᵗ, arrayᵗ, objectᵗ, Templates, noneᵗ, itemᵗ, TemplateFields, doneᵗ, fieldᵗ, put_in, put_all, put_fields}
use Rattle.common_example.specs.Unify.{count_where, Keyed, no_key, keyed_by, Head, free, leaf, items, keyed, keys_in, pick_place, place_under, of_items, of_fields, and_item, and_field, build_items, build_fields, build_head, build}
use Rattle.value.proofs.Equal.{Meaning, a_literal, an_array, an_object, Meanings, no_more, one_more_lem, Under, absent, present, pick, meaning, meanings, meaning_at}
use Rattle.common_example.proofs.unify.Heads.{items_of, fields_of, HeadOk, KeysDiffer, past_first, class_at, Agree}
use Rattle.common_example.proofs.unify.Closing.{Finer, Named}
use Rattle.common_example.proofs.unify.Counting.{Among, AllAmong, FieldsAmong, HeadAmong, count_most, same_or_more}

-- what a template means, its holes being given
module _ {H : Type 0} (σ : H → Meaning) where
  unfoldable mutual
    pub meaningᵗ : Template H → Meaning
    meaningᵗ (hole x) = σ x
    meaningᵗ (literalᵗ l) = a_literal l
    meaningᵗ (arrayᵗ ts) = an_array (meaningsᵗ ts)
    meaningᵗ (objectᵗ fs) = an_object (λ k. meaning_atᵗ fs k)

    pub meaningsᵗ : Templates H → Meanings
    meaningsᵗ noneᵗ = no_more
    meaningsᵗ (itemᵗ t ts) = one_more_lem (meaningᵗ t) (meaningsᵗ ts)

    pub meaning_atᵗ : TemplateFields H → Literal → Under
    meaning_atᵗ doneᵗ k = absent
    meaning_atᵗ (fieldᵗ l t fs) k = pick (same_key k l) (present (meaningᵗ t)) (meaning_atᵗ fs k)

module _ {H : Type 0} (ρ : H → Value) where
  mutual
    unfolding put_in meaning meaningᵗ

    pub meaning_put : (t : Template H) → meaning (put_in ρ t) ≡ meaningᵗ (λ x. meaning (ρ x)) t
    meaning_put (hole x) = refl
    meaning_put (literalᵗ l) = refl
    meaning_put (arrayᵗ ts) = ap an_array (meanings_put ts)
    meaning_put (objectᵗ fs) = ap an_object (fun_ext (λ k. meaning_at_put fs k))

    meanings_put : (ts : Templates H) → meanings (put_all ρ ts) ≡ meaningsᵗ (λ x. meaning (ρ x)) ts
    meanings_put noneᵗ = refl
    meanings_put (itemᵗ t ts) = ap₂ one_more_lem (meaning_put t) (meanings_put ts)

    meaning_at_put : (fs : TemplateFields H) (k : Literal) → meaning_at (put_fields ρ fs) k ≡ meaning_atᵗ (λ x. meaning (ρ x)) fs k
    meaning_at_put doneᵗ k = refl
    meaning_at_put (fieldᵗ l t fs) k = ap₂ (λ m u. pick (same_key k l) (present m) u) (meaning_put t) (meaning_at_put fs k)

-- 1. Parts of what was built.
module _ {P : Type 0} where
  abbrev pub pick_template : Bool → Template P → Option (Template P) → Option (Template P)
  pick_template true t o = some t
  pick_template false t o = o

  unfoldable pub template_under : Literal → TemplateFields P → Option (Template P)
  template_under k doneᵗ = none
  template_under k (fieldᵗ l t fs) = pick_template (same_key k l) t (template_under k fs)

  module _ (σ : P → Meaning) where
    abbrev pub meantᵗ : Option (Template P) → Under
    meantᵗ none = absent
    meantᵗ (some t) = present (meaningᵗ σ t)

    pub under_template : (k : Literal) (fs : TemplateFields P) → meaning_atᵗ σ fs k ≡ meantᵗ (template_under k fs)
    unfolding meaningᵗ template_under
    under_template k doneᵗ = refl
    under_template k (fieldᵗ l t fs) = go (same_key k l) (under_template k fs)
      where
        go : (b : Bool) → meaning_atᵗ σ fs k ≡ meantᵗ (template_under k fs) → pick b (present (meaningᵗ σ t)) (meaning_atᵗ σ fs k) ≡ meantᵗ (pick_template b t (template_under k fs))
        go true e = refl
        go false e = e

  pub and_item_back : (o : Option (Template P)) (r : Option (Templates P)) (ts : Templates P) → and_item o r ≡ some ts → (t : Template P) × (us : Templates P) × (o ≡ some t) × (r ≡ some us) × (itemᵗ t us ≡ ts)
  and_item_back none r ts e = absurd (false≢true (cc))
  and_item_back (some t) none ts e = absurd (false≢true (cc))
  and_item_back (some t) (some us) ts e = (t, us, refl, refl, cc)

  pub and_field_back : (k : Literal) (o : Option (Template P)) (r : Option (TemplateFields P)) (ts : TemplateFields P) → and_field k o r ≡ some ts → (t : Template P) × (us : TemplateFields P) × (o ≡ some t) × (r ≡ some us) × (fieldᵗ k t us ≡ ts)
  and_field_back k none r ts e = absurd (false≢true (cc))
  and_field_back k (some t) none ts e = absurd (false≢true (cc))
  and_field_back k (some t) (some us) ts e = (t, us, refl, refl, cc)

  pub of_items_back : (o : Option (Templates P)) (t : Template P) → of_items o ≡ some t → (ts : Templates P) × (o ≡ some ts) × (arrayᵗ ts ≡ t)
  of_items_back none t e = absurd (false≢true (cc))
  of_items_back (some ts) t e = (ts, refl, cc)

  pub of_fields_back : (o : Option (TemplateFields P)) (t : Template P) → of_fields o ≡ some t → (fs : TemplateFields P) × (o ≡ some fs) × (objectᵗ fs ≡ t)
  of_fields_back none t e = absurd (false≢true (cc))
  of_fields_back (some fs) t e = (fs, refl, cc)

  abbrev Grows : (P → Option (Template P)) → (P → Option (Template P)) → Type 0
  Grows F G = (p : P) (t : Template P) → F p ≡ some t → G p ≡ some t

  module _ (F G : P → Option (Template P)) (grows : Grows F G) where
    items_grow : (ps : List P) (ts : Templates P) → build_items F ps ≡ some ts → build_items G ps ≡ some ts
    unfolding build_items
    items_grow [] ts e = e
    items_grow (p ∷ ps) ts e =
        let (t, us, a, b, c) = and_item_back (F p) (build_items F ps) ts e in
        let a' = grows p t a in let b' = items_grow ps us b in rw (a', b') (ap some c)

    fields_grow : (fs : Keyed P) (ts : TemplateFields P) → build_fields F fs ≡ some ts → build_fields G fs ≡ some ts
    unfolding build_fields
    fields_grow no_key ts e = e
    fields_grow (keyed_by k p fs) ts e =
        let (t, us, a, b, c) = and_field_back k (F p) (build_fields F fs) ts e in
        let a' = grows p t a in let b' = fields_grow fs us b in rw (a', b') (ap some c)

    head_grows : (p : P) (h : Head P) (t : Template P) → build_head F p h ≡ some t → build_head G p h ≡ some t
    head_grows p free t e = e
    head_grows p (leaf l) t e = e
    head_grows p (items ps) t e = let (ts, a, b) = of_items_back (build_items F ps) t e in let a' = items_grow ps ts a in rw a' (ap some b)
    head_grows p (keyed fs) t e = let (ts, a, b) = of_fields_back (build_fields F fs) t e in let a' = fields_grow fs ts a in rw a' (ap some b)

-- 2. Levels and classes.
module _ {P : Type 0} (g : P → Head P) (d : P → P) where
  pub build_same : (f : ℕ) (p q : P) → d p ≡ d q → build g d f p ≡ build g d f q
  unfolding build
  build_same zero p q e = refl
  build_same (suc f) p q e = ap (λ c. build_head (build g d f) c (g c)) e

  build_on : (f : ℕ) → Grows (build g d f) (build g d (suc f))
  unfolding build
  build_on zero p t e = absurd (false≢true (cc))
  build_on (suc f) p t e = head_grows (build g d f) (build g d (suc f)) (build_on f) (d p) (g (d p)) t e

  build_more : (k f : ℕ) → Grows (build g d f) (build g d (k + f))
  build_more zero f p t e = let q : 0 + f ≡ f = omega arith in rw q e
  build_more (suc k) f p t e = let q : suc k + f ≡ suc (k + f) = omega arith in rw q (build_on (k + f) p t (build_more k f p t e))

  pub build_upto : (f n : ℕ) → f ≤ n → Grows (build g d f) (build g d n)
  build_upto f n h p t e = let q : (n - f) + f ≡ n = omega arith in rw q at (build_more (n - f) f p t e)

  -- values put_in into it make a value
  module _ (differ : (p : P) → KeysDiffer (g p)) (ρ : P → Value) (proper-holes : (p : P) → Proper (ρ p)) where
    module _ (F : P → Option (Template P)) (are : (p : P) (t : Template P) → F p ≡ some t → Proper (put_in ρ t)) where
      items_proper : (ps : List P) (ts : Templates P) → build_items F ps ≡ some ts → T (proper_all_lem (put_all ρ ts))
      unfolding build_items put_in proper
      items_proper [] ts e = let q : noneᵗ ≡ ts = cc in rw (← q) tt
      items_proper (p ∷ ps) ts e =
          let (t, us, a, b, c) = and_item_back (F p) (build_items F ps) ts e in
          rw (← c) (both (proper (put_in ρ t)) (proper_all_lem (put_all ρ us)) (are p t a) (items_proper ps us b))

      fields_proper : (fs : Keyed P) (ts : TemplateFields P) → build_fields F fs ≡ some ts → T (proper_fields_lem (put_fields ρ ts)) × (keysᵛ (put_fields ρ ts) ≡ keys_in fs)
      unfolding build_fields put_in proper keysᵛ keys_in
      fields_proper no_key ts e = let q : doneᵗ ≡ ts = cc in rw (← q) (tt, refl)
      fields_proper (keyed_by k p fs) ts e =
          let (t, us, a, b, c) = and_field_back k (F p) (build_fields F fs) ts e in
          let (x, y) = fields_proper fs us b in
          rw (← c) (both (proper (put_in ρ t)) (proper_fields_lem (put_fields ρ us)) (are p t a) x, ap (λ ks. k ∷ ks) y)

      head_proper : (p : P) (h : Head P) (t : Template P) → KeysDiffer h → build_head F p h ≡ some t → Proper (put_in ρ t)
      unfolding put_in proper
      head_proper p free t n e = let q : hole p ≡ t = cc in rw (← q) (proper-holes p)
      head_proper p (leaf l) t n e = let q : literalᵗ l ≡ t = cc in rw (← q) tt
      head_proper p (items ps) t n e = let (ts, a, b) = of_items_back (build_items F ps) t e in rw (← b) (items_proper ps ts a)
      head_proper p (keyed fs) t n e =
          let (ts, a, b) = of_fields_back (build_fields F fs) t e in
          let (x, y) = fields_proper fs ts a in
          rw (← b) (both (differing (keysᵛ (put_fields ρ ts))) (proper_fields_lem (put_fields ρ ts)) (rw y n) x)

    pub build_proper : (f : ℕ) (p : P) (t : Template P) → build g d f p ≡ some t → Proper (put_in ρ t)
    unfolding build
    build_proper zero p t e = absurd (false≢true (cc))
    build_proper (suc f) p t e = head_proper (build g d f) (build_proper f) (d p) (g (d p)) t (differ (d p)) e

  -- 3. What was built at a place has the place's own head, if the class's head agrees with it.
  module _ (agrees : (p : P) → Agree d (g p) (g (d p))) where
    items_same : (n : ℕ) (ps qs : List P) → map d ps ≡ map d qs → build_items (build g d n) ps ≡ build_items (build g d n) qs
    unfolding build_items
    items_same n [] [] e = refl
    items_same n [] (q ∷ qs) e = absurd (false≢true (cc))
    items_same n (p ∷ ps) [] e = absurd (false≢true (cc))
    items_same n (p ∷ ps) (q ∷ qs) e = ap₂ and_item (build_same n p q (cc)) (items_same n ps qs (cc))

    pub built_leaf : (n : ℕ) (p : P) (t : Template P) (l : Literal) → g p ≡ leaf l → build g d n p ≡ some t → literalᵗ l ≡ t
    unfolding build
    built_leaf zero p t l h e = absurd (false≢true (cc))
    built_leaf (suc n) p t l h e = go (g (d p)) (rw h at (agrees p)) e
      where
        go : (k : Head P) → Agree d (leaf l) k → build_head (build g d n) (d p) k ≡ some t → literalᵗ l ≡ t
        go free a q = absurd a
        go (leaf m) a q = cc
        go (items bs) a q = absurd a
        go (keyed gs) a q = absurd a

    pub built_items : (n : ℕ) (p : P) (t : Template P) (ps : List P) → g p ≡ items ps → build g d n p ≡ some t → (ts : Templates P) × (build_items (build g d n) ps ≡ some ts) × (arrayᵗ ts ≡ t)
    unfolding build
    built_items zero p t ps h e = absurd (false≢true (cc))
    built_items (suc n) p t ps h e = go (g (d p)) (rw h at (agrees p)) e
      where
        go : (k : Head P) → Agree d (items ps) k → build_head (build g d n) (d p) k ≡ some t → (ts : Templates P) × (build_items (build g d (suc n)) ps ≡ some ts) × (arrayᵗ ts ≡ t)
        go free a q = absurd a
        go (leaf m) a q = absurd a
        go (items bs) a q = let (ts, b, c) = of_items_back (build_items (build g d n) bs) t q in (ts, items_same (suc n) ps bs a ∙ items_grow (build g d n) (build g d (suc n)) (build_on n) bs ts b, c)
        go (keyed gs) a q = absurd a

    abbrev pub built_at : ℕ → Option P → Option (Template P)
    built_at n none = none
    built_at n (some p) = build g d n p

    fields_under : (n : ℕ) (gs : Keyed P) (us : TemplateFields P) → build_fields (build g d n) gs ≡ some us → (k : Literal) → (template_under k us ≡ built_at n (place_under k gs)) × ((p : P) → place_under k gs ≡ some p → (u : Template P) × (build g d n p ≡ some u))
    unfolding build_fields template_under place_under
    fields_under n no_key us e k = let q : doneᵗ ≡ us = cc in rw (← q) (refl, λ p r. absurd (false≢true (cc)))
    fields_under n (keyed_by l p gs) us e k =
        let (t, vs, a, b, c) = and_field_back l (build g d n p) (build_fields (build g d n) gs) us e in
        rw (← c) (go (same_key k l) t a vs (fields_under n gs vs b k))
      where
        go : (b : Bool) (t : Template P) → build g d n p ≡ some t → (vs : TemplateFields P) → (template_under k vs ≡ built_at n (place_under k gs)) × ((q : P) → place_under k gs ≡ some q → (u : Template P) × (build g d n q ≡ some u))
            → (pick_template b t (template_under k vs) ≡ built_at n (pick_place b p (place_under k gs))) × ((q : P) → pick_place b p (place_under k gs) ≡ some q → (u : Template P) × (build g d n q ≡ some u))
        go true t a vs r = (sym a, λ q x. let y : p ≡ q = cc in (t, rw (← y) a))
        go false t a vs r = r

    at_class_same : (n : ℕ) (a b : Option P) → class_at d a ≡ class_at d b → built_at n a ≡ built_at n b
    at_class_same n none none e = refl
    at_class_same n none (some q) e = absurd (false≢true (cc))
    at_class_same n (some p) none e = absurd (false≢true (cc))
    at_class_same n (some p) (some q) e = build_same n p q (cc)

    built_class : (n : ℕ) (a b : Option P) → class_at d a ≡ class_at d b → ((p : P) → b ≡ some p → (u : Template P) × (build g d n p ≡ some u)) → (p : P) → a ≡ some p → (u : Template P) × (build g d n p ≡ some u)
    built_class n a none e f p q = absurd (let x : class_at d a ≡ some (d p) = ap (class_at d) q in false≢true (cc))
    built_class n a (some b) e f p q =
        let x : class_at d a ≡ some (d p) = ap (class_at d) q in
        let y : d p ≡ d b = cc in
        let (u, r) = f b refl in (u, build_same n p b y ∙ r)

    pub record BuiltFields (n : ℕ) (t : Template P) (fs : Keyed P) : Type 0 where
      pub fields : TemplateFields P
      pub is_object : objectᵗ fields ≡ t
      pub under : (k : Literal) → template_under k fields ≡ built_at n (place_under k fs)
      pub each : (k : Literal) (p : P) → place_under k fs ≡ some p → (u : Template P) × (build g d n p ≡ some u)

    pub built_fields : (n : ℕ) (p : P) (t : Template P) (fs : Keyed P) → g p ≡ keyed fs → build g d n p ≡ some t → BuiltFields n t fs
    unfolding build
    built_fields zero p t fs h e = absurd (false≢true (cc))
    built_fields (suc n) p t fs h e = go (g (d p)) (rw h at (agrees p)) e
      where
        go : (k : Head P) → Agree d (keyed fs) k → build_head (build g d n) (d p) k ≡ some t → BuiltFields (suc n) t fs
        go free a q = absurd a
        go (leaf m) a q = absurd a
        go (items bs) a q = absurd a
        go (keyed gs) a q =
            let (us, b, c) = of_fields_back (build_fields (build g d n) gs) t q in
            let r = fields_under (suc n) gs us (fields_grow (build g d n) (build g d (suc n)) (build_on n) gs us b) in
            record { fields = us; is_object = c; under = λ k. (r k).0 ∙ sym (at_class_same (suc n) (place_under k fs) (place_under k gs) (a k)); each = λ k. built_class (suc n) (place_under k fs) (place_under k gs) (a k) (r k).1 }

  -- 4. A solution is an instance.
  module _ (μ : P → Meaning) (named : Named d) (finer : Finer d μ) (solves : (p : P) → HeadOk μ (g p) (μ p)) where
    module _ (F : P → Option (Template P)) (means : (p : P) (t : Template P) → F p ≡ some t → meaningᵗ μ t ≡ μ p) where
      items_mean : (ps : List P) (ts : Templates P) → build_items F ps ≡ some ts → meaningsᵗ μ ts ≡ items_of μ ps
      unfolding build_items meaningᵗ items_of
      items_mean [] ts e = let q : noneᵗ ≡ ts = cc in rw (← q)
      items_mean (p ∷ ps) ts e =
          let (t, us, a, b, c) = and_item_back (F p) (build_items F ps) ts e in
          rw (← c) (ap₂ one_more_lem (means p t a) (items_mean ps us b))

      fields_mean : (fs : Keyed P) (ts : TemplateFields P) → build_fields F fs ≡ some ts → (k : Literal) → meaning_atᵗ μ ts k ≡ fields_of μ fs k
      unfolding build_fields meaningᵗ fields_of
      fields_mean no_key ts e k = let q : doneᵗ ≡ ts = cc in rw (← q)
      fields_mean (keyed_by l p fs) ts e k =
          let (t, us, a, b, c) = and_field_back l (F p) (build_fields F fs) ts e in
          rw (← c) (ap₂ (λ m u. pick (same_key k l) (present m) u) (means p t a) (fields_mean fs us b k))

      head_means : (p : P) (h : Head P) (t : Template P) → HeadOk μ h (μ p) → build_head F p h ≡ some t → meaningᵗ μ t ≡ μ p
      unfolding meaningᵗ
      head_means p free t s e = let q : hole p ≡ t = cc in rw (← q)
      head_means p (leaf l) t s e = let q : literalᵗ l ≡ t = cc in rw (← q) (sym s)
      head_means p (items ps) t s e = let (ts, a, b) = of_items_back (build_items F ps) t e in rw (← b) (ap an_array (items_mean ps ts a) ∙ sym s)
      head_means p (keyed fs) t s e = let (ts, a, b) = of_fields_back (build_fields F fs) t e in rw (← b) (ap an_object (fun_ext (λ k. fields_mean fs ts a k)) ∙ sym s)

    pub build_means : (f : ℕ) (p : P) (t : Template P) → build g d f p ≡ some t → meaningᵗ μ t ≡ μ p
    unfolding build
    build_means zero p t e = absurd (false≢true (cc))
    build_means (suc f) p t e = head_means (build g d f) (build_means f) (d p) (g (d p)) t (solves (d p)) e ∙ finer (d p) p (named p)

    -- 5. If nothing more comes with one level more, what is not built has no value.
    module _ (differ : (p : P) → KeysDiffer (g p)) (all : List P) where
      module _ (inside : (p : P) → HeadAmong all (g p)) where
        abbrev is_built : Option (Template P) → Bool
        is_built none = false
        is_built (some t) = true

        not_built : (o : Option (Template P)) → (T (is_built o) → ⊥) → o ≡ none
        not_built none f = refl
        not_built (some t) f = absurd (f tt)

        abbrev Stable : ℕ → Type 0
        Stable f = (p : P) → Among p all → build g d f p ≡ none → build g d (suc f) p ≡ none

        and_item_none : (o : Option (Template P)) (r : Option (Templates P)) → and_item o r ≡ none → (o ≡ none) ⊎ (r ≡ none)
        and_item_none none r e = inl refl
        and_item_none (some t) none e = inr refl
        and_item_none (some t) (some ts) e = absurd (false≢true (cc))

        and_field_none : (k : Literal) (o : Option (Template P)) (r : Option (TemplateFields P)) → and_field k o r ≡ none → (o ≡ none) ⊎ (r ≡ none)
        and_field_none k none r e = inl refl
        and_field_none k (some t) none e = inr refl
        and_field_none k (some t) (some ts) e = absurd (false≢true (cc))

        of_items_none : (o : Option (Templates P)) → of_items o ≡ none → o ≡ none
        of_items_none none e = refl
        of_items_none (some ts) e = absurd (false≢true (cc))

        of_fields_none : (o : Option (TemplateFields P)) → of_fields o ≡ none → o ≡ none
        of_fields_none none e = refl
        of_fields_none (some ts) e = absurd (false≢true (cc))

        -- a field that is not built
        abbrev Unbuilt : (P → Option (Template P)) → (Literal → Under) → Type 0
        Unbuilt F U = (k : Literal) × (q : P) × (U k ≡ present (μ q)) × (F q ≡ none) × Among q all

        unbuilt : (F : P → Option (Template P)) (U : Literal → Under) (fs : Keyed P) → T (differing (keys_in fs)) → ((k : Literal) → T (has_key k (keys_in fs)) → U k ≡ fields_of μ fs k) → FieldsAmong all fs → build_fields F fs ≡ none → Unbuilt F U
        unfolding differing keys_in has_key fields_of build_fields
        unbuilt F U no_key t f a e = absurd (false≢true (cc))
        unbuilt F U (keyed_by l p fs) t f a e =
            let new = and_left (not (has_key l (keys_in fs))) (differing (keys_in fs)) t in
            let s : same_key l l ≡ true = is_true (key_refl l) in
            let own : fields_of μ (keyed_by l p fs) l ≡ present (μ p) = rw s in
            let rest = unbuilt F U fs (and_right (not (has_key l (keys_in fs))) (differing (keys_in fs)) t) (λ k h. f k (or_right (same_key k l) (has_key k (keys_in fs)) h) ∙ past_first μ l p fs k new h) a.1 in
            ⊎_elim (λ q. (l, p, f l (or_left (same_key l l) (has_key l (keys_in fs)) (key_refl l)) ∙ own, q, a.0)) rest (and_field_none l (F p) (build_fields F fs) e)

        module _ (f : ℕ) (stable : Stable f) where
          -- what the class of an unbuilt place is
          more_none : (p : P) → Among p all → build g d f p ≡ none → build_head (build g d f) (d p) (g (d p)) ≡ none
          unfolding build
          more_none p a e = stable p a e

          at_class : (p : P) (m : Meaning) → μ p ≡ m → μ (d p) ≡ m
          at_class p m e = finer (d p) p (named p) ∙ e

          object_of : (U W : Literal → Under) → an_object U ≡ an_object W → (k : Literal) → U k ≡ W k
          object_of U W e k = let q : U ≡ W = cc in ap (λ h. h k) q

          abbrev Never : Meaning → Type 0
          Never m = (p : P) → μ p ≡ m → build g d f p ≡ none → Among p all → ⊥

          abbrev NeverItems : Meanings → Type 0
          NeverItems ms = (ps : List P) → items_of μ ps ≡ ms → build_items (build g d f) ps ≡ none → AllAmong all ps → ⊥

          abbrev NeverUnder : Under → Type 0
          NeverUnder u = (p : P) → u ≡ present (μ p) → build g d f p ≡ none → Among p all → ⊥

          never_literal : (l : Literal) → Never (a_literal l)
          never_literal l p e n a = go (g (d p)) (solves (d p)) (more_none p a n)
            where
              go : (h : Head P) → HeadOk μ h (μ (d p)) → build_head (build g d f) (d p) h ≡ none → ⊥
              go free s q = false≢true (cc)
              go (leaf k) s q = false≢true (cc)
              go (items ps) s q = let x = at_class p (a_literal l) e in false≢true (cc)
              go (keyed fs) s q = let x = at_class p (a_literal l) e in false≢true (cc)

          never_array : (ms : Meanings) → NeverItems ms → Never (an_array ms)
          never_array ms r p e n a = go (g (d p)) (solves (d p)) (more_none p a n) (inside (d p))
            where
              go : (h : Head P) → HeadOk μ h (μ (d p)) → build_head (build g d f) (d p) h ≡ none → HeadAmong all h → ⊥
              go free s q b = false≢true (cc)
              go (leaf k) s q b = false≢true (cc)
              go (items ps) s q b = let x = at_class p (an_array ms) e in r ps (cc) (of_items_none (build_items (build g d f) ps) q) b
              go (keyed fs) s q b = let x = at_class p (an_array ms) e in false≢true (cc)

          never_object : (U : Literal → Under) → ((k : Literal) → NeverUnder (U k)) → Never (an_object U)
          never_object U r p e n a = go (g (d p)) (differ (d p)) (solves (d p)) (more_none p a n) (inside (d p))
            where
              go : (h : Head P) → KeysDiffer h → HeadOk μ h (μ (d p)) → build_head (build g d f) (d p) h ≡ none → HeadAmong all h → ⊥
              go free t s q b = false≢true (cc)
              go (leaf k) t s q b = false≢true (cc)
              go (items ps) t s q b = let x = at_class p (an_object U) e in false≢true (cc)
              go (keyed fs) t s q b =
                  let x = at_class p (an_object U) e in
                  let same = object_of U (λ k. fields_of μ fs k) (sym x ∙ s) in
                  let (k, c, v, w, y) = unbuilt (build g d f) U fs t (λ k h. same k) b (of_fields_none (build_fields (build g d f) fs) q) in
                  r k c v w y

          never_none : NeverItems no_more
          unfolding items_of build_items
          never_none [] e n a = false≢true (cc)
          never_none (p ∷ ps) e n a = false≢true (cc)

          never_more : (m : Meaning) (ms : Meanings) → Never m → NeverItems ms → NeverItems (one_more_lem m ms)
          unfolding items_of build_items
          never_more m ms r rs [] e n a = false≢true (cc)
          never_more m ms r rs (p ∷ ps) e n a = ⊎_elim (λ q. r p (cc) q a.0) (λ q. rs ps (cc) q a.1) (and_item_none (build g d f p) (build_items (build g d f) ps) n)

          never : (m : Meaning) → Never m
          never m = elim m as Never NeverItems NeverUnder [
            | a_literal l ↦ never_literal l
            | an_array (ms → h) ↦ never_array ms h
            | an_object (U → h) ↦ never_object U h
            | no_more ↦ never_none
            | one_more_lem (x → h) (ms → hs) ↦ never_more x ms h hs
            | absent ↦ λ p e n a. false≢true (cc)
            | present (x → h) ↦ λ p e n a. h p (cc) n a
          ]

        -- 6. With a level for each place nothing more comes.
        abbrev built : ℕ → P → Bool
        built f p = is_built (build g d f p)

        built_on : (f : ℕ) (p : P) → T (built f p) → T (built (suc f) p)
        built_on f p t = go (build g d f p) refl t
          where
            go : (o : Option (Template P)) → build g d f p ≡ o → T (is_built o) → T (built (suc f) p)
            go none e t' = absurd t'
            go (some u) e t' = let q = build_on f p u e in rw q tt

        settled : (f k : ℕ) → ((p : P) → Among p all → T (built (suc f) p) → T (built f p)) → (n : ℕ) × (n ≤ f + k) × Stable n
        settled f k s = (f, omega arith, λ p a e. not_built (build g d (suc f) p) (λ t. let x = s p a t in rw e at x))

        stable_by : (k f : ℕ) → length all ≤ count_where (built f) all + k → (n : ℕ) × (n ≤ f + k) × Stable n
        stable_by zero f h = ⊎_elim (settled f 0) (λ c. let x = count_most (built (suc f)) all in absurd (too_many (count_where (built f) all) (count_where (built (suc f)) all) (length all) h c x)) (same_or_more (built f) (built (suc f)) all (built_on f))
          where
            too_many : (a b l : ℕ) → l ≤ a + 0 → a + 1 ≤ b → b ≤ l → ⊥
            too_many a b l p q r = omega arith
        stable_by (suc k) f h = ⊎_elim (settled f (suc k)) (λ c. wider (stable_by k (suc f) (one_down (count_where (built f) all) (count_where (built (suc f)) all) (length all) h c))) (same_or_more (built f) (built (suc f)) all (built_on f))
          where
            one_down : (a b l : ℕ) → l ≤ a + suc k → a + 1 ≤ b → l ≤ b + k
            one_down a b l p q = omega arith

            wider : (n : ℕ) × (n ≤ suc f + k) × Stable n → (n : ℕ) × (n ≤ f + suc k) × Stable n
            wider s = (s.0, (let x = s.1 in omega arith), s.2)

        -- so a place has a template if there is a solution
        pub has_template : (n : ℕ) → length all ≤ n → (p : P) → Among p all → build g d n p ≡ none → ⊥
        has_template n h p a e =
            let (f, q, s) = stable_by (length all) 0 (omega arith) in
            never f s (μ p) p refl (before f (omega arith)) a
          where
            before : (f : ℕ) → f ≤ n → build g d f p ≡ none
            before f q = go (build g d f p) refl
              where
                go : (o : Option (Template P)) → build g d f p ≡ o → o ≡ none
                go none r = refl
                go (some t) r = absurd (let x = build_upto f n q p t r in false≢true (cc))
