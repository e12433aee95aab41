-- The names that a pattern meets: those that it plans, those in a simple pattern; each is a name of the table.
use Prim.Native.Nat.{ℕ, ◌-◌, ◌+◌, ◌<◌}
use mathlib.Core.Path.{◌≡◌, refl, sym, ap, ap₂, subst, ◌∙◌}
use mathlib.Core.Logic.{⊎_elim}
use mathlib.Core.List.{List, [], ◌∷◌}
use mathlib.Core.Bool.{Bool, true, false, cond, ◌&&◌, ◌||◌, not, false≢true}
use native.Mathlib.Omega.{arith}
use borrow.Author.Tests.{eqb-true, ne_eqb, lt-ltb}
use lib.Dec.{T as True, eqb}
use lib.ListN.{get_or}
use lib.Seq.{ext_get_or}
use Rattle.scope.specs.declared.Scope.{Scope}
use Rattle.scope.specs.declared.ScopingMode.TheVariants.{AllowShadowing}
use Rattle.scope.specs.Scope.{is_underscore, is_unbound, new_scope}
use Rattle.scope.proofs.Laws.{new_promise}
use Rattle.table.specs.Tables.{Tables}
use Rattle.table.specs.Expr as Expr
use Rattle.table.specs.Expr.{Expr, literal, name, wildcard, array, object, other, Exprs, item, Fields, done, field}
use Rattle.table.specs.Decode.{expr}
use Rattle.base.specs.Lists.{elem, tabulate}
use Rattle.table.specs.code.Sound.{Node, Named, WellFormed}
use Rattle.table.proofs.tests.Bools.{and_true, or_true}
use Rattle.table.proofs.trees.Lists.{elem_nil}
use Rattle.planner.specs.Plan.{after, after_all_lem, after_fields}
use Rattle.planner.specs.Layout.{literal_key}
use Rattle.planner.specs.code.Post.{PatternPlanned, NameNumber, GoodRoot}
use Rattle.planner.specs.Simple.{is_literal, keys_of, differing, admitted, simple, simple_all, simple_fields, mentions}
use Rattle.planner.specs.Names.{occurrences, occurrences_all, occurrences_fields, names_of}
use Rattle.planner.proofs.laws.Operations.{pattern_tracked}
use Rattle.planner.proofs.laws.Mentions.{names_or, mentions_any, mentions_fields, mentions_name, mentions_item, mentions_field}
use Rattle.planner.proofs.laws.Binders.{AllNames, AllNamesAll, AllNamesFields, names_all}
use Rattle.value.proofs.Keys.{or_left, or_right, or_elim, is_true, true_is}
use Rattle.matching.proofs.Fits.{silent}
use Rattle.report.specs.Report.{names_met}
use Rattle.planner.proofs.buffer.Filling.{length_tabulate, get_d_tabulate}
use Rattle.report.specs.code.Post.{name_words, met_words, met_mark}

abbrev names_met_all : Exprs → List ℕ
names_met_all es = names_of (occurrences_all false false es)

abbrev names_met_fields : Fields → List ℕ
names_met_fields fs = names_of (occurrences_fields false false fs)

met_or : (x : ℕ) (e : Expr) (es : Exprs) → elem x (names_met_all (item e es)) ≡ (elem x (names_met e) || elem x (names_met_all es))
unfolding occurrences
met_or x e es = names_or x (occurrences false false e) (occurrences_all false false es)

met_field : (x : ℕ) (k v : Expr) (fs : Fields) → elem x (names_met_fields (field k v fs)) ≡ (elem x (names_met v) || elem x (names_met_fields fs))
unfolding occurrences
met_field x k v fs = names_or x (occurrences false false v) (occurrences_fields false false fs)

module _ (u : ℕ → Bool) (x : ℕ) where
  two : (a b c d : Bool) → ((b && c) || ((a && c) || d)) ≡ (((a || b) && c) || d)
  two true true true d = refl
  two true true false d = refl
  two true false true d = refl
  two true false false d = refl
  two false true true d = refl
  two false true false d = refl
  two false false c d = refl

  mutual
    unfolding after occurrences names_of elem

    -- the names planned once a pattern is: those that it meets and the scope doesn't know, and those of before
    pub after_met : (e : Expr) (seen : List ℕ) → elem x (after u e seen) ≡ ((elem x (names_met e) && u x) || elem x seen)
    after_met (literal n l) seen = refl
    after_met (name n y) seen = go (eqb x y) refl (u y) refl (elem y seen) refl
      where
        go : (a : Bool) → eqb x y ≡ a → (b : Bool) → u y ≡ b → (c : Bool) → elem y seen ≡ c → elem x (cond (u y && not (elem y seen)) (y ∷ seen) seen) ≡ (((eqb x y || false) && u x) || elem x seen)
        go true p true q true r = let e = eqb-true x y p in let h : elem x seen ≡ true = ap (λ (z : ℕ). elem z seen) e ∙ r in let g : u x ≡ true = ap u e ∙ q in simp (p, q, r, g, h)
        go true p true q false r = let e = eqb-true x y p in let g : u x ≡ true = ap u e ∙ q in simp (p, q, r, g)
        go true p false q c r = let e = eqb-true x y p in let g : u x ≡ false = ap u e ∙ q in simp (p, q, g)
        go false p true q true r = simp (p, q, r)
        go false p true q false r = simp (p, q, r)
        go false p false q c r = simp (p, q)
    after_met (wildcard n) seen = refl
    after_met (array n es) seen = after_met_all es seen
    after_met (Expr.set n es) seen = refl
    after_met (object n fs) seen = after_met_fields fs seen
    after_met (other n) seen = refl

    after_met_all : (es : Exprs) (seen : List ℕ) → elem x (after_all_lem u es seen) ≡ ((elem x (names_met_all es) && u x) || elem x seen)
    after_met_all Expr.none seen = refl
    after_met_all (item e es) seen =
        after_met_all es (after u e seen)
        ∙ (ap (λ (b : Bool). (elem x (names_met_all es) && u x) || b) (after_met e seen)
        ∙ (two (elem x (names_met e)) (elem x (names_met_all es)) (u x) (elem x seen) ∙ ap (λ (b : Bool). (b && u x) || elem x seen) (sym (met_or x e es))))

    after_met_fields : (fs : Fields) (seen : List ℕ) → elem x (after_fields u fs seen) ≡ ((elem x (names_met_fields fs) && u x) || elem x seen)
    after_met_fields done seen = refl
    after_met_fields (field k v fs) seen =
        after_met_fields fs (after u v seen)
        ∙ (ap (λ (b : Bool). (elem x (names_met_fields fs) && u x) || b) (after_met v seen)
        ∙ (two (elem x (names_met v)) (elem x (names_met_fields fs)) (u x) (elem x seen) ∙ ap (λ (b : Bool). (b && u x) || elem x seen) (sym (met_field x k v fs))))

module _ (x : ℕ) where
  mutual
    unfolding occurrences names_of admitted elem

    -- a simple pattern meets every name in it
    pub mentions_met : (e : Expr) → simple e ≡ true → mentions x e ≡ elem x (names_met e)
    mentions_met (literal n l) is = refl
    mentions_met (name n y) is = refl
    mentions_met (wildcard n) is = refl
    mentions_met (array n es) is = mentions_met_all es is
    mentions_met (Expr.set n es) is = absurd (false≢true is)
    mentions_met (object n fs) is = mentions_met_fields fs (and_true (differing (keys_of fs)) (simple_fields fs) is).1
    mentions_met (other n) is = refl

    mentions_met_all : (es : Exprs) → simple_all es ≡ true → mentions_any x es ≡ elem x (names_met_all es)
    mentions_met_all Expr.none is = refl
    mentions_met_all (item e es) is =
        let p = and_true (simple e) (simple_all es) is in
        mentions_item x e es ∙ (ap₂ (λ (a b : Bool). a || b) (mentions_met e p.0) (mentions_met_all es p.1) ∙ sym (met_or x e es))

    mentions_met_fields : (fs : Fields) → simple_fields fs ≡ true → mentions_fields x fs ≡ elem x (names_met_fields fs)
    mentions_met_fields done is = refl
    mentions_met_fields (field k v fs) is =
        let p = and_true (is_literal (literal_key k)) (simple v && simple_fields fs) is in
        let q = and_true (simple v) (simple_fields fs) p.1 in
        let s = silent x k (true_is p.0) in
        mentions_field x k v fs
        ∙ (ap (λ (b : Bool). b || (mentions x v || mentions_fields x fs)) s
        ∙ (ap₂ (λ (a b : Bool). a || b) (mentions_met v q.0) (mentions_met_fields fs q.1) ∙ sym (met_field x k v fs)))

-- where no name is known
pub met_by : (T : Tables) (root : ℕ) {s : Scope} {at : ℕ} {before binders scratch met : List ℕ} {r : ℕ} → GoodRoot T root → s ≡ new_scope 0 false → PatternPlanned T s AllowShadowing root at before binders scratch r
    → met ≡ tabulate (met_mark binders) 0 128 → met ≡ met_words (expr T root)
unfolding is_underscore new_scope elem met_words
met_by T root {s} {binders = binders} {met = met} g is p of =
    of ∙ ext_get_or 0 (tabulate (met_mark binders) 0 128) (tabulate (λ i. cond (elem (i + 1) (names_met (expr T root))) 2 0) 0 128)
    (length_tabulate (met_mark binders) 0 128 ∙ sym (length_tabulate (λ i. cond (elem (i + 1) (names_met (expr T root))) 2 0) 0 128))
    (λ i lt.
    let long = length_tabulate (met_mark binders) 0 128 in
    let small : i < 128 = omega arith in
    let z : 0 + i ≡ i = omega arith in
    let q : i + 1 - 1 ≡ i = omega arith in
    let e = lt-ltb i 128 small in
    let known : elem (i + 1) (names_met (expr T root)) ≡ not (eqb (get_or binders i 0) 0) = rw q at (each (i + 1) (record { low = omega arith; high = omega arith })) in
    get_d_tabulate (met_mark binders) 0 128 i small
    ∙ (ap (met_mark binders) z
    ∙ (rw e (turn (eqb (get_or binders i 0) 0))
    ∙ sym (get_d_tabulate (λ j. cond (elem (j + 1) (names_met (expr T root))) 2 0) 0 128 i small ∙ (ap (λ (j : ℕ). cond (elem (j + 1) (names_met (expr T root))) 2 0) z ∙ ap (λ (b : Bool). cond b 2 0) known)))))
  where
    plain : (b : Bool) → ((b && true) || false) ≡ b
    plain true = refl
    plain false = refl

    turn : (b : Bool) → ◌≡◌ {A = ℕ} (cond b 0 2) (cond (not b) 2 0)
    turn true = refl
    turn false = refl

    each : (x : ℕ) → NameNumber x → elem x (names_met (expr T root)) ≡ not (eqb (get_or binders (x - 1) 0) 0)
    each x v =
        let low = v.low in
        let z : eqb x 0 ≡ false = ne_eqb x 0 (λ e. omega arith) in
        let free : is_unbound s AllowShadowing x ≡ true = ap (λ (t : Scope). is_unbound t AllowShadowing x) is ∙ ((new_promise 0 false).is_unbound_lem AllowShadowing x ∙ ap not z) in
        sym (after_met (is_unbound s AllowShadowing) x (expr T root) [] ∙ (ap (λ (b : Bool). (elem x (names_met (expr T root)) && b) || false) free ∙ plain (elem x (names_met (expr T root))))) ∙ pattern_tracked g.table g.node p x v

-- the word of a name
pub word_at : (xs : List ℕ) {met : List ℕ} → met ≡ name_words xs → (x : ℕ) → NameNumber x → elem x xs ≡ not (eqb (get_or met (x - 1) 0) 0)
word_at xs {met} is x v =
    let low = v.low in
    let high = v.high in
    let z : 0 + (x - 1) + 1 ≡ x = omega arith in
    sym (ap (λ (l : List ℕ). not (eqb (get_or l (x - 1) 0) 0)) is
    ∙ (ap (λ (n : ℕ). not (eqb n 0)) (get_d_tabulate (λ i. cond (elem (i + 1) xs) 2 0) 0 128 (x - 1) (omega arith))
    ∙ (ap (λ (y : ℕ). not (eqb (cond (elem y xs) 2 0) 0)) z ∙ told (elem x xs))))
  where
    told : (b : Bool) → not (eqb (cond b 2 0) 0) ≡ b
    told true = refl
    told false = refl

pub met_at : (e : Expr) {met : List ℕ} → met ≡ met_words e → (x : ℕ) → NameNumber x → elem x (names_met e) ≡ not (eqb (get_or met (x - 1) 0) 0)
unfolding met_words
met_at e is x v = word_at (names_met e) is x v

-- a name that is met stands in the pattern
module _ (x : ℕ) where
  mutual
    unfolding occurrences names_of elem

    pub met_mentioned : (e : Expr) → elem x (names_met e) ≡ true → True (mentions x e)
    met_mentioned (literal n l) h = absurd (elem_nil x h)
    met_mentioned (name n y) h = true_is h
    met_mentioned (wildcard n) h = absurd (elem_nil x h)
    met_mentioned (array n es) h = met_mentioned_all es h
    met_mentioned (Expr.set n es) h = absurd (elem_nil x h)
    met_mentioned (object n fs) h = met_mentioned_fields fs h
    met_mentioned (other n) h = absurd (elem_nil x h)

    met_mentioned_all : (es : Exprs) → elem x (names_met_all es) ≡ true → True (mentions_any x es)
    met_mentioned_all Expr.none h = absurd (elem_nil x h)
    met_mentioned_all (item e es) h =
        subst True (sym (mentions_item x e es))
        (⊎_elim (λ q. or_left (mentions x e) (mentions_any x es) (met_mentioned e q)) (λ q. or_right (mentions x e) (mentions_any x es) (met_mentioned_all es q)) (or_true (elem x (names_met e)) (elem x (names_met_all es)) (sym (met_or x e es) ∙ h)))

    met_mentioned_fields : (fs : Fields) → elem x (names_met_fields fs) ≡ true → True (mentions_fields x fs)
    met_mentioned_fields done h = absurd (elem_nil x h)
    met_mentioned_fields (field k v fs) h =
        subst True (sym (mentions_field x k v fs))
        (or_right (mentions x k) (mentions x v || mentions_fields x fs)
        (⊎_elim (λ q. or_left (mentions x v) (mentions_fields x fs) (met_mentioned v q)) (λ q. or_right (mentions x v) (mentions_fields x fs) (met_mentioned_fields fs q)) (or_true (elem x (names_met v)) (elem x (names_met_fields fs)) (sym (met_field x k v fs) ∙ h))))

-- what holds of each name of a pattern holds of the names in it
module _ (P : ℕ → Type 0) where
  mutual
    unfolding AllNames occurrences names_of elem

    pub mentioned : (e : Expr) → AllNames (λ n x. P x) e → (x : ℕ) → True (mentions x e) → P x
    mentioned (literal n l) all x t = absurd t
    mentioned (name n y) all x t = let q = eqb-true x y (sym (mentions_name x n y) ∙ is_true t) in rw q all
    mentioned (wildcard n) all x t = absurd t
    mentioned (array n es) all x t = mentioned_all es all x t
    mentioned (Expr.set n es) all x t = mentioned_all es all x t
    mentioned (object n fs) all x t = mentioned_fields fs all x t
    mentioned (other n) all x t = absurd t

    mentioned_all : (es : Exprs) → AllNamesAll (λ n x. P x) es → (x : ℕ) → True (mentions_any x es) → P x
    mentioned_all Expr.none all x t = absurd t
    mentioned_all (item e es) all x t = or_elim (mentions x e) (mentions_any x es) (subst True (mentions_item x e es) t) (λ h. mentioned e all.0 x h) (λ h. mentioned_all es all.1 x h)

    mentioned_fields : (fs : Fields) → AllNamesFields (λ n x. P x) fs → (x : ℕ) → True (mentions_fields x fs) → P x
    mentioned_fields done all x t = absurd t
    mentioned_fields (field k v fs) all x t =
        or_elim (mentions x k) (mentions x v || mentions_fields x fs) (subst True (mentions_field x k v fs) t) (λ h. mentioned k all.0 x h)
        (λ h. or_elim (mentions x v) (mentions_fields x fs) h (λ g. mentioned v all.1 x g) (λ g. mentioned_fields fs all.2 x g))

pub mentioned_named : (T : Tables) → WellFormed T → (n : ℕ) → Node T n → (x : ℕ) → True (mentions x (expr T n)) → Named T x
mentioned_named T w n v x t = mentioned (Named T) (expr T n) (names_all T w (λ m y. Named T y) (λ m z k h. w.named m z k) n v) x t
