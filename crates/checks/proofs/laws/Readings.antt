-- The careful reading refuses everything that the present one refuses, of all expressions.
use Prim.Native.Nat.{ℕ}
use mathlib.Core.Path.{◌≡◌, refl, sym, ap, ◌∙◌}
use mathlib.Core.Logic.{◌⊎◌, inl, inr, ⊎_elim}
use mathlib.Core.Bool.{Bool, true, false, cond, ◌||◌, false≢true}
use mathlib.Core.List.{List, [], ◌∷◌, ◌++◌}
use mathlib.Core.Option.{Option}
use lib.Dec.{eqb}
use Rattle.literal.specs.Literal.{Literal}
use Rattle.literal.proofs.Orders.{never}
use Rattle.table.specs.Expr.{Expr, literal, name, wildcard, array, set, object, other, Exprs, none, item, Fields, done, field, count}
use Rattle.table.proofs.tests.Bools.{and_true, or_true}
use Rattle.planner.specs.Layout.{literal_key, Slot, FieldOrder, no_fields}
use Rattle.planner.specs.Held.{is_empty, value_order, first_or, held_under}
use Rattle.planner.specs.Simple.{same_key}
use Rattle.planner.proofs.laws.PlanLaws.{or_left, or_right}
use Rattle.checks.specs.declared.Reading.TheVariants.{Present, Careful}
use Rattle.checks.specs.declared.LiteralStructureCheck.{LiteralStructureCheck}
use Rattle.checks.specs.declared.LiteralStructureCheck.TheVariants.{Match, Unknown, ArrayMismatch, ObjectMismatch}
use Rattle.checks.specs.Joining.{is_mismatch, and_then, in_turn, any_unknown, first_mismatch_or, joined}
use Rattle.checks.specs.Structure.{ValueField, held, is_under, partner, written_checks, partners, or_unknown, ordered_checks, field_checks, same_keys, object_structure, structure, item_checks, value_fields}
use Rattle.checks.specs.ReadingLaws.{present_items, present_fields, PresentEquations, object_free, object_free_all, ReadingLaws}
use Rattle.checks.proofs.Joins.{join_match, join_settled}

-- the present reading's own equations
pub present_equations : PresentEquations
unfolding structure joined in_turn field_checks written_checks
present_equations = record {
  arrays = λ n m es ps. refl;
  no_item_lem = λ ps. refl;
  one_item = λ e p es ps. refl;
  objects = λ n m fs gs. refl;
  no_field = λ ss. refl;
  one_field = λ k v fs ss. refl;
}

-- a mismatch among the items is refused, and nothing else
unfoldable pub any_mismatch : List LiteralStructureCheck → Bool
any_mismatch [] = false
any_mismatch (c ∷ cs) = is_mismatch c || any_mismatch cs

settled : (b : Bool) → is_mismatch (cond b Unknown Match) ≡ false
settled true = refl
settled false = refl

pub joined_mismatch : (cs : List LiteralStructureCheck) → is_mismatch (joined Careful cs) ≡ any_mismatch cs
unfolding joined first_mismatch_or any_mismatch
joined_mismatch cs = first_or_lem cs (cond (any_unknown cs) Unknown Match) (settled (any_unknown cs))
  where
    first_or_lem : (cs : List LiteralStructureCheck) (d : LiteralStructureCheck) → is_mismatch d ≡ false → is_mismatch (first_mismatch_or cs d) ≡ any_mismatch cs
    first_or_lem [] d n = n
    first_or_lem (Match ∷ cs) d n = first_or_lem cs d n
    first_or_lem (Unknown ∷ cs) d n = first_or_lem cs d n
    first_or_lem (ArrayMismatch value expected actual ∷ cs) d n = refl
    first_or_lem (ObjectMismatch value pattern ∷ cs) d n = refl

any_append : (ds bs : List LiteralStructureCheck) → any_mismatch (ds ++ bs) ≡ (any_mismatch ds || any_mismatch bs)
unfolding any_mismatch
any_append [] bs = refl
any_append (c ∷ ds) bs = go (is_mismatch c) (any_append ds bs)
  where
    go : (m : Bool) → any_mismatch (ds ++ bs) ≡ (any_mismatch ds || any_mismatch bs) → (m || any_mismatch (ds ++ bs)) ≡ ((m || any_mismatch ds) || any_mismatch bs)
    go true h = refl
    go false h = h

any_or_unknown : (cs : List LiteralStructureCheck) → any_mismatch (or_unknown cs) ≡ any_mismatch cs
unfolding any_mismatch
any_or_unknown [] = refl
any_or_unknown (c ∷ cs) = refl

-- a mismatch of two parts is one of either
part_mismatch : (c d : LiteralStructureCheck) → is_mismatch (and_then c d) ≡ true → (is_mismatch c ≡ true) ⊎ (is_mismatch d ≡ true)
part_mismatch Match d m = inr m
part_mismatch Unknown d m = absurd (false≢true m)
part_mismatch (ArrayMismatch value expected actual) d m = inl m
part_mismatch (ObjectMismatch value pattern) d m = inl m

pub last_mismatch : (c : LiteralStructureCheck) (b : Bool) → is_mismatch (and_then c (cond b Match Unknown)) ≡ true → is_mismatch c ≡ true
last_mismatch c true t = ⊎_elim (λ h. h) (λ h. absurd (false≢true h)) (part_mismatch c Match t)
last_mismatch c false t = ⊎_elim (λ h. h) (λ h. absurd (false≢true h)) (part_mismatch c Unknown t)

-- with the same keys, a mismatch of other fields is one too
object_again : (n m : ℕ) (fs : Fields) (order : FieldOrder Expr) (c d : LiteralStructureCheck) → (is_mismatch c ≡ true → is_mismatch d ≡ true)
    → is_mismatch (object_structure n m fs order c) ≡ true → is_mismatch (object_structure n m fs order d) ≡ true
object_again n m fs order c d f = go (is_empty order.literals) (is_empty order.computed) (same_keys order.literals fs)
  where
    joins : (d e : LiteralStructureCheck) → is_mismatch d ≡ true → is_mismatch (and_then d e) ≡ true
    joins Match e t = absurd (false≢true t)
    joins Unknown e t = absurd (false≢true t)
    joins (ArrayMismatch value expected actual) e t = refl
    joins (ObjectMismatch value pattern) e t = refl

    go : (e b s : Bool) → is_mismatch (cond e (cond b Match Unknown) (cond s (and_then c (cond b Match Unknown)) (ObjectMismatch n m))) ≡ true
        → is_mismatch (cond e (cond b Match Unknown) (cond s (and_then d (cond b Match Unknown)) (ObjectMismatch n m))) ≡ true
    go true b s t = t
    go false b true t = joins d (cond b Match Unknown) (f (last_mismatch c b t))
    go false b false t = refl

-- the fields of two objects
abbrev pub fields_mismatch : List (Slot Expr) → List ValueField → Bool
fields_mismatch ss vs = any_mismatch (ordered_checks ss vs)

pub fields_step : (s : Slot Expr) (ss : List (Slot Expr)) (vs : List ValueField) → fields_mismatch (s ∷ ss) vs ≡ (any_mismatch (partners s vs) || fields_mismatch ss vs)
unfolding ordered_checks
fields_step s ss vs = any_append (or_unknown (partners s vs)) (ordered_checks ss vs) ∙ ap (λ (b : Bool). b || fields_mismatch ss vs) (any_or_unknown (partners s vs))

partners_more : (s : Slot Expr) (v : ValueField) (vs : List ValueField) → any_mismatch (partners s vs) ≡ true → any_mismatch (partners s (v ∷ vs)) ≡ true
unfolding partners any_mismatch
partners_more s v vs t = go (is_under s.at v.key)
  where
    go : (b : Bool) → any_mismatch (cond b (v.against s.held ∷ partners s vs) (partners s vs)) ≡ true
    go true = or_right (is_mismatch (v.against s.held)) (any_mismatch (partners s vs)) t
    go false = t

-- a further field of the value hides no mismatch
fields_more : (ss : List (Slot Expr)) (v : ValueField) (vs : List ValueField) → fields_mismatch ss vs ≡ true → fields_mismatch ss (v ∷ vs) ≡ true
unfolding ordered_checks
fields_more [] v vs t = t
fields_more (s ∷ ss) v vs t =
    fields_step s ss (v ∷ vs)
    ∙ ⊎_elim (λ h. or_left (any_mismatch (partners s (v ∷ vs))) (fields_mismatch ss (v ∷ vs)) (partners_more s v vs h))
    (λ h. or_right (any_mismatch (partners s (v ∷ vs))) (fields_mismatch ss (v ∷ vs)) (fields_more ss v vs h))
    (or_true (any_mismatch (partners s vs)) (fields_mismatch ss vs) (sym (fields_step s ss vs) ∙ t))

-- the field's own mismatch with its partner
fields_own : (l : Literal) (f : Expr → LiteralStructureCheck) (vs : List ValueField) (ss : List (Slot Expr)) (p : Expr) → held_under l ss ≡ Option.some p → is_mismatch (f p) ≡ true
    → fields_mismatch ss (record { key = Option.some l; against = f } ∷ vs) ≡ true
unfolding held_under partners any_mismatch
fields_own l f vs [] p e m = never (cc)
fields_own l f vs (s ∷ ss) p e m = fields_step s ss (record { key = Option.some l; against = f } ∷ vs) ∙ go (same_key l s.at) refl e (λ h. fields_own l f vs ss p h m)
  where
    rest : Bool
    rest = fields_mismatch ss (record { key = Option.some l; against = f } ∷ vs)

    own : Bool
    own = any_mismatch (cond (same_key l s.at) (f s.held ∷ partners s vs) (partners s vs))

    go : (b : Bool) → same_key l s.at ≡ b → first_or b s.held (held_under l ss) ≡ Option.some p → (held_under l ss ≡ Option.some p → rest ≡ true) → (own || rest) ≡ true
    go true q h r = let same : s.held ≡ p = cc in or_left own rest (rw q (or_left (is_mismatch (f s.held)) (any_mismatch (partners s vs)) (ap (λ (d : Expr). is_mismatch (f d)) same ∙ m)))
    go false q h r = or_right own rest (r h)

own_partner : (κ : Option Literal) (f g : Expr → LiteralStructureCheck) → ((p : Expr) → is_mismatch (f p) ≡ true → is_mismatch (g p) ≡ true) → (vs : List ValueField) (ss : List (Slot Expr)) → is_mismatch (partner (held κ ss) f) ≡ true
    → fields_mismatch ss (record { key = κ; against = g } ∷ vs) ≡ true
own_partner Option.none f g r vs ss m = absurd (false≢true m)
own_partner (Option.some l) f g r vs ss m = go (held_under l ss) refl m
  where
    go : (o : Option Expr) → held_under l ss ≡ o → is_mismatch (partner o f) ≡ true → fields_mismatch ss (record { key = Option.some l; against = g } ∷ vs) ≡ true
    go Option.none e t = absurd (false≢true t)
    go (Option.some p) e t = fields_own l g vs ss p e (r p t)

joins : (c : LiteralStructureCheck) (cs : List LiteralStructureCheck) → (is_mismatch c ≡ true) ⊎ (any_mismatch cs ≡ true) → any_mismatch (c ∷ cs) ≡ true
unfolding any_mismatch
joins c cs = ⊎_elim (or_left (is_mismatch c) (any_mismatch cs)) (or_right (is_mismatch c) (any_mismatch cs))

mutual
  unfolding structure field_checks joined in_turn written_checks

  refuses : (v p : Expr) → is_mismatch (structure Present v p) ≡ true → is_mismatch (structure Careful v p) ≡ true
  refuses (literal n l) p m = m
  refuses (name n x) p m = m
  refuses (wildcard n) p m = m
  refuses (array n es) (literal k l) m = m
  refuses (array n es) (name k x) m = m
  refuses (array n es) (wildcard k) m = m
  refuses (array n es) (array k ps) m = go (eqb (count es) (count ps)) m (λ t. joined_mismatch (item_checks Careful es ps) ∙ items_refuse es ps t)
    where
      go : (b : Bool) → is_mismatch (cond b (present_items es ps) (ArrayMismatch n (count ps) (count es))) ≡ true → (is_mismatch (present_items es ps) ≡ true → is_mismatch (joined Careful (item_checks Careful es ps)) ≡ true)
          → is_mismatch (cond b (joined Careful (item_checks Careful es ps)) (ArrayMismatch n (count ps) (count es))) ≡ true
      go true t f = f t
      go false t f = refl
  refuses (array n es) (set k ps) m = m
  refuses (array n es) (object k gs) m = m
  refuses (array n es) (other k) m = m
  refuses (set n es) p m = m
  refuses (object n fs) (literal k l) m = m
  refuses (object n fs) (name k x) m = m
  refuses (object n fs) (wildcard k) m = m
  refuses (object n fs) (array k ps) m = m
  refuses (object n fs) (set k ps) m = m
  refuses (object n fs) (object k gs) m =
      object_again n k fs (value_order gs no_fields) (present_fields fs (value_order gs no_fields).literals) (joined Careful (ordered_checks (value_order gs no_fields).literals (value_fields Careful fs)))
      (λ t. joined_mismatch (ordered_checks (value_order gs no_fields).literals (value_fields Careful fs)) ∙ fields_refuse fs (value_order gs no_fields).literals t) m
  refuses (object n fs) (other k) m = m
  refuses (other n) p m = m

  items_refuse : (es ps : Exprs) → is_mismatch (present_items es ps) ≡ true → any_mismatch (item_checks Careful es ps) ≡ true
  items_refuse none ps m = absurd (false≢true m)
  items_refuse (item e es) none m = absurd (false≢true m)
  items_refuse (item e es) (item p ps) m =
      joins (structure Careful e p) (item_checks Careful es ps) (⊎_elim (λ h. inl (refuses e p h)) (λ h. inr (items_refuse es ps h)) (part_mismatch (structure Present e p) (present_items es ps) m))

  fields_refuse : (fs : Fields) (ss : List (Slot Expr)) → is_mismatch (present_fields fs ss) ≡ true → fields_mismatch ss (value_fields Careful fs) ≡ true
  fields_refuse done ss m = absurd (false≢true m)
  fields_refuse (field k v fs) ss m =
      ⊎_elim (λ h. own_partner (literal_key k) (structure Present v) (structure Careful v) (λ p t. refuses v p t) (value_fields Careful fs) ss h)
      (λ h. fields_more ss (record { key = literal_key k; against = structure Careful v }) (value_fields Careful fs) (fields_refuse fs ss h))
      (part_mismatch (partner (held (literal_key k) ss) (structure Present v)) (present_fields fs ss) m)

-- without an object in the pattern: a match stays one, and so does a mismatch
record Kept (now then : LiteralStructureCheck) : Type 0 where
  pub match : now ≡ Match → then ≡ Match
  pub mismatch : is_mismatch now ≡ true → then ≡ now

unknown : (c : LiteralStructureCheck) → Kept Unknown c
unknown c = record { match = λ e. never (cc); mismatch = λ m. absurd (false≢true m) }

kept_first : (now then rest : LiteralStructureCheck) (cs : List LiteralStructureCheck) → Kept now then → Kept rest (joined Careful cs) → Kept (and_then now rest) (joined Careful (then ∷ cs))
kept_first Match then rest cs k r = let e : then ≡ Match = k.match refl in let j = join_match Careful cs in rw (e, j) r
kept_first Unknown then rest cs k r = unknown (joined Careful (then ∷ cs))
kept_first (ArrayMismatch value expected actual) then rest cs k r =
    let e : then ≡ ArrayMismatch value expected actual = k.mismatch refl in
    let j = join_settled Careful (ArrayMismatch value expected actual) cs refl in
    record { match = λ q. never (cc); mismatch = λ m. rw e j }
kept_first (ObjectMismatch value pattern) then rest cs k r =
    let e : then ≡ ObjectMismatch value pattern = k.mismatch refl in
    let j = join_settled Careful (ObjectMismatch value pattern) cs refl in
    record { match = λ q. never (cc); mismatch = λ m. rw e j }

mutual
  unfolding structure object_free joined in_turn first_mismatch_or any_unknown

  kept : (v p : Expr) → object_free p ≡ true → Kept (structure Present v p) (structure Careful v p)
  kept (literal n l) p f = unknown Unknown
  kept (name n x) p f = unknown Unknown
  kept (wildcard n) p f = unknown Unknown
  kept (array n es) (literal m l) f = unknown Unknown
  kept (array n es) (name m x) f = unknown Unknown
  kept (array n es) (wildcard m) f = unknown Unknown
  kept (array n es) (array m ps) f = go (eqb (count es) (count ps)) (kept_items es ps f)
    where
      go : (b : Bool) → Kept (present_items es ps) (joined Careful (item_checks Careful es ps))
          → Kept (cond b (present_items es ps) (ArrayMismatch n (count ps) (count es))) (cond b (joined Careful (item_checks Careful es ps)) (ArrayMismatch n (count ps) (count es)))
      go true k = k
      go false k = record { match = λ e. e; mismatch = λ m. refl }
  kept (array n es) (set m ps) f = unknown Unknown
  kept (array n es) (object m gs) f = unknown Unknown
  kept (array n es) (other m) f = unknown Unknown
  kept (set n es) p f = unknown Unknown
  kept (object n fs) (literal m l) f = unknown Unknown
  kept (object n fs) (name m x) f = unknown Unknown
  kept (object n fs) (wildcard m) f = unknown Unknown
  kept (object n fs) (array m ps) f = unknown Unknown
  kept (object n fs) (set m ps) f = unknown Unknown
  kept (object n fs) (object m gs) f = absurd (false≢true f)
  kept (object n fs) (other m) f = unknown Unknown
  kept (other n) p f = unknown Unknown

  kept_items : (es ps : Exprs) → object_free_all ps ≡ true → Kept (present_items es ps) (joined Careful (item_checks Careful es ps))
  kept_items none ps f = record { match = λ e. refl; mismatch = λ m. absurd (false≢true m) }
  kept_items (item e es) none f = record { match = λ e. refl; mismatch = λ m. absurd (false≢true m) }
  kept_items (item e es) (item p ps) f =
      let both = and_true (object_free p) (object_free_all ps) f in
      kept_first (structure Present e p) (structure Careful e p) (present_items es ps) (item_checks Careful es ps) (kept e p both.0) (kept_items es ps both.1)

pub reading_laws : ReadingLaws
reading_laws = record { refuses = refuses; same = λ v p f m. (kept v p f).mismatch m }
