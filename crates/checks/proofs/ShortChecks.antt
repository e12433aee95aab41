-- Every number of a mismatch between two small trees has at most six digits.
use mathlib.Core.Bool.{Bool, true, false, cond}
use mathlib.Core.List.{List, [], ◌∷◌, ◌++◌, map}
use mathlib.Core.Option.{Option}
use native.Mathlib.Omega.{arith}
use lib.Dec.{eqb}
use Rattle.literal.specs.Literal.{Literal}
use Rattle.table.specs.Expr.{Expr, literal, name, wildcard, array, set, object, other, Exprs, Fields, none, item, done, field, count, parts, parts_all, parts_fields}
use Rattle.planner.specs.Layout.{Slot, FieldOrder, no_fields, held_in}
use Rattle.planner.specs.Held.{value_order, is_empty}
use Rattle.planner.specs.Operations.{Outcome}
use Rattle.planner.specs.Short.{Short, Every, ShortOutcome}
use Rattle.planner.proofs.laws.ShortPlans.{Small, SmallTree, small_left, small_right, small_head, small_tail, count_few, every_left, Held, held_under_lem, values_small}
use Rattle.planner.proofs.laws.ShortOutcomes.{short}
use Rattle.checks.specs.declared.LiteralStructureCheck.{LiteralStructureCheck}
use Rattle.checks.specs.declared.LiteralStructureCheck.TheVariants.{Match, Unknown, ArrayMismatch, ObjectMismatch}
use Rattle.checks.specs.declared.Reading.{Reading}
use Rattle.checks.specs.declared.Reading.TheVariants.{Present, Careful}
use Rattle.checks.specs.Joining.{and_then, in_turn, any_unknown, first_mismatch_or, joined}
use Rattle.checks.specs.Structure.{object_structure, same_keys, computed_keys, ValueField, held, is_under, partner, written_checks, partners, or_unknown, ordered_checks, field_checks, structure, item_checks, value_fields}
use Rattle.checks.specs.Refusals.{unless_mismatch}

abbrev pub ShortCheck : LiteralStructureCheck → Type 0
ShortCheck Match = Unit {0}
ShortCheck Unknown = Unit {0}
ShortCheck (ArrayMismatch value expected actual) = Short 13 value expected actual
ShortCheck (ObjectMismatch value pattern) = Short 14 value pattern 0

pub mismatch_short : (c : LiteralStructureCheck) (o : Outcome) → ShortCheck c → ShortOutcome o → ShortOutcome (unless_mismatch c o)
mismatch_short Match o p q = q
mismatch_short Unknown o p q = q
mismatch_short (ArrayMismatch value expected actual) o p q = p
mismatch_short (ObjectMismatch value pattern) o p q = p

then_short : (c rest : LiteralStructureCheck) → ShortCheck c → ShortCheck rest → ShortCheck (and_then c rest)
then_short Match rest p q = q
then_short Unknown rest p q = tt
then_short (ArrayMismatch v e a) rest p q = p
then_short (ObjectMismatch v m) rest p q = p

either_short : (b : Bool) → ShortCheck (cond b Match Unknown)
either_short true = tt
either_short false = tt

-- checks that are joined
first_short : (cs : List LiteralStructureCheck) (d : LiteralStructureCheck) → Every ShortCheck cs → ShortCheck d → ShortCheck (first_mismatch_or cs d)
unfolding first_mismatch_or
first_short [] d p q = q
first_short (Match ∷ cs) d p q = first_short cs d p.1 q
first_short (Unknown ∷ cs) d p q = first_short cs d p.1 q
first_short (ArrayMismatch v e a ∷ cs) d p q = p.0
first_short (ObjectMismatch v m ∷ cs) d p q = p.0

joined_short : (r : Reading) (cs : List LiteralStructureCheck) → Every ShortCheck cs → ShortCheck (joined r cs)
unfolding joined in_turn
joined_short Present [] p = tt
joined_short Present (c ∷ cs) p = then_short c (in_turn cs) p.0 (joined_short Present cs p.1)
joined_short Careful cs p = first_short cs (cond (any_unknown cs) Unknown Match) p (unknown_short (any_unknown cs))
  where
    unknown_short : (b : Bool) → ShortCheck (cond b Unknown Match)
    unknown_short true = tt
    unknown_short false = tt

-- a value's field, against any small pattern
abbrev ShortField : ValueField → Type 0
ShortField v = (e : Expr) → SmallTree e → ShortCheck (v.against e)

held_small : (k : Option Literal) (ss : List (Slot Expr)) → Every SmallTree (map held_in ss) → Held SmallTree (held k ss)
held_small Option.none ss p = tt
held_small (Option.some l) ss p = held_under_lem SmallTree l ss p

partner_short : (o : Option Expr) (f : Expr → LiteralStructureCheck) → ((e : Expr) → SmallTree e → ShortCheck (f e)) → Held SmallTree o → ShortCheck (partner o f)
partner_short Option.none f each p = tt
partner_short (Option.some e) f each p = each e p

written_short : (ss : List (Slot Expr)) (vs : List ValueField) → Every SmallTree (map held_in ss) → Every ShortField vs → Every ShortCheck (written_checks ss vs)
unfolding written_checks
written_short ss [] p q = tt
written_short ss (v ∷ vs) p q = (partner_short (held v.key ss) v.against q.0 (held_small v.key ss p), written_short ss vs p q.1)

partners_short : (s : Slot Expr) (vs : List ValueField) → SmallTree s.held → Every ShortField vs → Every ShortCheck (partners s vs)
unfolding partners
partners_short s [] p q = tt
partners_short s (v ∷ vs) p q = go (is_under s.at v.key) (partners_short s vs p q.1)
  where
    go : (b : Bool) → Every ShortCheck (partners s vs) → Every ShortCheck (cond b (v.against s.held ∷ partners s vs) (partners s vs))
    go true h = (q.0 s.held p, h)
    go false h = h

ordered_short : (ss : List (Slot Expr)) (vs : List ValueField) → Every SmallTree (map held_in ss) → Every ShortField vs → Every ShortCheck (ordered_checks ss vs)
unfolding ordered_checks
ordered_short [] vs p q = tt
ordered_short (s ∷ ss) vs p q = go (partners s vs) (partners_short s vs p.0 q) (ordered_short ss vs p.1 q)
  where
    both : (cs ds : List LiteralStructureCheck) → Every ShortCheck cs → Every ShortCheck ds → Every ShortCheck (cs ++ ds)
    both [] ds x y = y
    both (c ∷ cs) ds x y = (x.0, both cs ds x.1 y)

    go : (cs : List LiteralStructureCheck) → Every ShortCheck cs → Every ShortCheck (ordered_checks ss vs) → Every ShortCheck (or_unknown cs ++ ordered_checks ss vs)
    go [] x y = (tt, y)
    go (c ∷ cs) x y = both (c ∷ cs) (ordered_checks ss vs) x y

checks_short : (r : Reading) (ss : List (Slot Expr)) (vs : List ValueField) → Every SmallTree (map held_in ss) → Every ShortField vs → Every ShortCheck (field_checks r ss vs)
unfolding field_checks
checks_short Present ss vs p q = written_short ss vs p q
checks_short Careful ss vs p q = ordered_short ss vs p q

mutual
  unfolding structure parts

  pub structure_short : (r : Reading) (v e : Expr) → SmallTree v → SmallTree e → ShortCheck (structure r v e)
  structure_short r (literal n l) e s t = tt
  structure_short r (name n x) e s t = tt
  structure_short r (wildcard n) e s t = tt
  structure_short r (array n es) (array m ps) s t = go (eqb (count es) (count ps)) (joined_short r (item_checks r es ps) (items_short r es ps (small_tail n (parts_all es) s) (small_tail m (parts_all ps) t)))
    where
      go : (b : Bool) → ShortCheck (joined r (item_checks r es ps)) → ShortCheck (cond b (joined r (item_checks r es ps)) (ArrayMismatch n (count ps) (count es)))
      go true p = p
      go false p =
          let a = small_head n (parts_all es) s in
          let b = count_few es in
          let c = (small_tail n (parts_all es) s).few in
          let d = count_few ps in
          let f = (small_tail m (parts_all ps) t).few in
          short (omega arith) (omega arith) (omega arith) (omega arith)
  structure_short r (array n es) (literal m l) s t = tt
  structure_short r (array n es) (name m x) s t = tt
  structure_short r (array n es) (wildcard m) s t = tt
  structure_short r (array n es) (set m ps) s t = tt
  structure_short r (array n es) (object m gs) s t = tt
  structure_short r (array n es) (other m) s t = tt
  structure_short r (set n es) e s t = tt
  structure_short r (object n fs) (object m gs) s t =
      objects (value_order gs no_fields) (joined r (field_checks r (value_order gs no_fields).literals (value_fields r fs)))
      (joined_short r (field_checks r (value_order gs no_fields).literals (value_fields r fs)) (checks_short r (value_order gs no_fields).literals (value_fields r fs)
      (every_left SmallTree (map held_in (value_order gs no_fields).literals) (value_order gs no_fields).computed (values_small gs no_fields (small_tail m (parts_fields gs) t) tt))
      (fields_short r fs (small_tail n (parts_fields fs) s))))
    where
      objects : (order : FieldOrder Expr) (c : LiteralStructureCheck) → ShortCheck c → ShortCheck (object_structure n m fs order c)
      objects order c p = go (is_empty order.literals) (same_keys order.literals fs)
        where
          go : (a b : Bool) → ShortCheck (cond a (computed_keys order) (cond b (and_then c (computed_keys order)) (ObjectMismatch n m)))
          go true b = either_short (is_empty order.computed)
          go false true = then_short c _ p (either_short (is_empty order.computed))
          go false false =
              let x = small_head n (parts_fields fs) s in
              let y = small_head m (parts_fields gs) t in
              short (omega arith) (omega arith) (omega arith) (omega arith)
  structure_short r (object n fs) (literal m l) s t = tt
  structure_short r (object n fs) (name m x) s t = tt
  structure_short r (object n fs) (wildcard m) s t = tt
  structure_short r (object n fs) (array m ps) s t = tt
  structure_short r (object n fs) (set m ps) s t = tt
  structure_short r (object n fs) (other m) s t = tt
  structure_short r (other n) e s t = tt

  items_short : (r : Reading) (es ps : Exprs) → Small (parts_all es) → Small (parts_all ps) → Every ShortCheck (item_checks r es ps)
  items_short r none ps s t = tt
  items_short r (item e es) none s t = tt
  items_short r (item e es) (item p ps) s t = (
    structure_short r e p (small_left (parts e) (parts_all es) s) (small_left (parts p) (parts_all ps) t),
    items_short r es ps (small_right (parts e) (parts_all es) s) (small_right (parts p) (parts_all ps) t),
  )

  fields_short : (r : Reading) (fs : Fields) → Small (parts_fields fs) → Every ShortField (value_fields r fs)
  fields_short r done s = tt
  fields_short r (field k v fs) s =
      let rest = small_right (parts k) (parts v ++ parts_fields fs) s in
      (λ e small. structure_short r v e (small_left (parts v) (parts_fields fs) rest) small, fields_short r fs (small_right (parts v) (parts_fields fs) rest))
