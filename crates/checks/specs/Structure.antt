-- A pattern held against a literal expression, in either reading (document 01, "Checks"; utils.rs, check_literal_structure; request 10 of document 02).
use Rattle.std.specs.Prelude.{ℕ, Bool, true, false, cond, ◌&&◌, List, [], ◌∷◌, ◌++◌, map, eqb}
use Rattle.std.proofs.Math.Option.{Option}
use Rattle.literal.specs.Literal.{Literal}
use Rattle.literal.specs.Order.{Order, less, same, more, bytes_order}
use Rattle.literal.specs.Text.{key_text}
use Rattle.table.specs.Names.{same_bytes}
use Rattle.table.specs.Expr.{Expr, literal, name, wildcard, array, set, object, other, Exprs, none, item, Fields, done, field, count}
use Rattle.planner.specs.Layout.{literal_key, Slot, FieldOrder, no_fields}
use Rattle.planner.specs.Held.{value_order, held_under, is_empty}
use Rattle.planner.specs.Simple.{same_key}
use Rattle.checks.specs.declared.Reading.{Reading}
use Rattle.checks.specs.declared.Reading.TheVariants.{Present, Careful}
use Rattle.checks.specs.declared.LiteralStructureCheck.{LiteralStructureCheck}
use Rattle.checks.specs.declared.LiteralStructureCheck.TheVariants.{Match, Unknown, ArrayMismatch, ObjectMismatch}
use Rattle.checks.specs.Joining.{and_then, joined}

-- The texts of a value's literal keys, repeats kept.
abbrev pub text_or : Option Literal → List (List ℕ) → List (List ℕ)
text_or Option.none ts = ts
text_or (Option.some l) ts = key_text l ∷ ts

unfoldable pub key_texts : Fields → List (List ℕ)
key_texts done = []
key_texts (field k v fs) = text_or (literal_key k) (key_texts fs)

-- The texts of a pattern's: the order of its fields has a repeated key once.
abbrev pub slot_text : {A : Type 0} → Slot A → List ℕ
slot_text s = key_text s.at

-- Texts are sorted by their bytes.
abbrev pub inserted_by : Order → List ℕ → List ℕ → List (List ℕ) → List (List ℕ) → List (List ℕ)
inserted_by less t u rest further = t ∷ (u ∷ rest)
inserted_by same t u rest further = t ∷ (u ∷ rest)
inserted_by more t u rest further = u ∷ further

unfoldable pub insert_text : List ℕ → List (List ℕ) → List (List ℕ)
insert_text t [] = t ∷ []
insert_text t (u ∷ us) = inserted_by (bytes_order t u) t u us (insert_text t us)

unfoldable pub sort_texts : List (List ℕ) → List (List ℕ)
sort_texts [] = []
sort_texts (t ∷ ts) = insert_text t (sort_texts ts)

unfoldable pub same_texts : List (List ℕ) → List (List ℕ) → Bool
same_texts [] [] = true
same_texts [] (u ∷ us) = false
same_texts (t ∷ ts) [] = false
same_texts (t ∷ ts) (u ∷ us) = same_bytes t u && same_texts ts us

-- Key texts are compared sorted.
abbrev pub same_keys : {A : Type 0} → List (Slot A) → Fields → Bool
same_keys pattern value = same_texts (sort_texts (map slot_text pattern)) (sort_texts (key_texts value))

-- A pattern's computed keys are unknown.
abbrev pub computed_keys : {A : Type 0} → FieldOrder A → LiteralStructureCheck
computed_keys pattern = cond (is_empty pattern.computed) Match Unknown

-- A value object's field: its key, if that is a literal, and what its value comes to against a pattern.
pub record ValueField : Type 0 where
  pub key : Option Literal
  pub against : Expr → LiteralStructureCheck

-- A value's field and a pattern's are partners if their keys are equal literals. What a pattern holds under a value's key:
abbrev pub held : {A : Type 0} → Option Literal → List (Slot A) → Option A
held Option.none ss = Option.none
held (Option.some l) ss = held_under l ss

-- and whether a value's key is that of a pattern's field
abbrev pub is_under : Literal → Option Literal → Bool
is_under l Option.none = false
is_under l (Option.some k) = same_key k l

-- Present: the value's fields as written; one without a partner is passed over.
abbrev pub partner : Option Expr → (Expr → LiteralStructureCheck) → LiteralStructureCheck
partner Option.none f = Match
partner (Option.some p) f = f p

unfoldable pub written_checks : List (Slot Expr) → List ValueField → List LiteralStructureCheck
written_checks ss [] = []
written_checks ss (v ∷ vs) = partner (held v.key ss) v.against ∷ written_checks ss vs

-- Careful: the pattern's fields in key order, each with every partner as written; one without a partner is unknown.
unfoldable pub partners : Slot Expr → List ValueField → List LiteralStructureCheck
partners s [] = []
partners s (v ∷ vs) = cond (is_under s.at v.key) (v.against s.held ∷ partners s vs) (partners s vs)

abbrev pub or_unknown : List LiteralStructureCheck → List LiteralStructureCheck
or_unknown [] = Unknown ∷ []
or_unknown (c ∷ cs) = c ∷ cs

unfoldable pub ordered_checks : List (Slot Expr) → List ValueField → List LiteralStructureCheck
ordered_checks [] vs = []
ordered_checks (s ∷ ss) vs = or_unknown (partners s vs) ++ ordered_checks ss vs

unfoldable pub field_checks : Reading → List (Slot Expr) → List ValueField → List LiteralStructureCheck
field_checks Present ss vs = written_checks ss vs
field_checks Careful ss vs = ordered_checks ss vs

-- An array: its length first, then its items.
abbrev pub array_structure : ℕ → Exprs → Exprs → LiteralStructureCheck → LiteralStructureCheck
array_structure n values patterns items = cond (eqb (count values) (count patterns)) items (ArrayMismatch n (count patterns) (count values))

-- An object: a pattern `{}` matches any, one with computed keys alone is unknown; else the key texts first, then the fields.
abbrev pub object_structure : ℕ → ℕ → Fields → FieldOrder Expr → LiteralStructureCheck → LiteralStructureCheck
object_structure n m values patterns fields =
    cond (is_empty patterns.literals) (computed_keys patterns)
    (cond (same_keys patterns.literals values) (and_then fields (computed_keys patterns)) (ObjectMismatch n m))

unfoldable mutual
  -- Of a value and a pattern: two arrays or two objects; all else is unknown.
  pub structure : Reading → Expr → Expr → LiteralStructureCheck
  structure r (array n es) (array m ps) = array_structure n es ps (joined r (item_checks r es ps))
  structure r (object n fs) (object m gs) =
      let patterns = value_order gs no_fields in
      object_structure n m fs patterns (joined r (field_checks r patterns.literals (value_fields r fs)))
  structure r (literal n l) p = Unknown
  structure r (name n x) p = Unknown
  structure r (wildcard n) p = Unknown
  structure r (array n es) (literal m l) = Unknown
  structure r (array n es) (name m x) = Unknown
  structure r (array n es) (wildcard m) = Unknown
  structure r (array n es) (set m ps) = Unknown
  structure r (array n es) (object m gs) = Unknown
  structure r (array n es) (other m) = Unknown
  structure r (set n es) p = Unknown
  structure r (object n fs) (literal m l) = Unknown
  structure r (object n fs) (name m x) = Unknown
  structure r (object n fs) (wildcard m) = Unknown
  structure r (object n fs) (array m ps) = Unknown
  structure r (object n fs) (set m ps) = Unknown
  structure r (object n fs) (other m) = Unknown
  structure r (other n) p = Unknown

  -- items as written
  pub item_checks : Reading → Exprs → Exprs → List LiteralStructureCheck
  item_checks r none ps = []
  item_checks r (item e es) none = []
  item_checks r (item e es) (item p ps) = structure r e p ∷ item_checks r es ps

  pub value_fields : Reading → Fields → List ValueField
  value_fields r done = []
  value_fields r (field k v fs) = record { key = literal_key k; against = λ p. structure r v p } ∷ value_fields r fs
