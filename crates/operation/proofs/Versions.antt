-- What a version changes of an operation's outcome, and the planning call by the name that refuses.
use Prim.Native.Nat.{ℕ}
use mathlib.Core.Path.{◌≡◌, refl, sym, ap, subst, ◌∙◌}
use mathlib.Core.Bool.{Bool, true, false, not}
use mathlib.Core.List.{List}
use borrow.Author.Tests.{eq-eqb, ne_eqb, not-true, not-false}
use lib.Dec.{eqb}
use lib.ListN.{length, replicate}
use Rattle.base.specs.Refusal as Refusal
use Rattle.base.specs.Refusal.{Refusal, Tested, passed, root_outside, reserved_name}
use Rattle.scope.specs.declared.Scope.{Scope}
use Rattle.scope.specs.declared.ScopingMode.TheVariants.{RespectParent}
use Rattle.std.proofs.Common.{Result, Ok, Err}
use Rattle.table.specs.declared.TableRefusal.{TableRefusal}
use Rattle.table.specs.Tables.{Tables}
use Rattle.table.specs.Check.{checked, table_refused, tested_of, TableAnswered, all_nodes}
use Rattle.planner.specs.declared.Plan.{Plan}
use Rattle.planner.specs.declared.PlanRefusal.{PlanRefusal}
use Rattle.planner.specs.declared.PlanRefusal.TheVariants.{ReservedName}
use Rattle.planner.specs.Operations.{Outcome, refused, Answered, checked_first, pattern_planned, parameter_planned}
use Rattle.planner.proofs.laws.Operations.{refuses, check_passes, sound_well}
use Rattle.assignment.specs.declared.AssignOp.TheVariants.{ColEq, Eq}
use Rattle.assignment.specs.Assignment.{by_operator}
use Rattle.some_in.specs.SomeIn.{some_in_planned}
use Rattle.operation.specs.declared.Operation.{Operation}
use Rattle.operation.specs.declared.Operation.TheVariants.{Pattern, ColonEquals, Equals, SomeIn, Index, Parameter}
use Rattle.operation.specs.Operation.{operation_outcome}
use Rattle.operation.specs.Version.{roots_of, first_reserved, version_outcome, VersionLaws}
use Rattle.operation.specs.code.Reserved.{ReservedAsks, refusing_name}
use Rattle.operation.proofs.OperationParts.{nodes_of_table, in_nodes}

-- what comes after the table check and the roots
abbrev planned : Tables → Scope → Operation → Outcome
planned T s (Pattern scoping root) = pattern_planned T s scoping root
planned T s (ColonEquals left right reading) = by_operator ColEq T s left right reading
planned T s (Equals left right reading) = by_operator Eq T s left right reading
planned T s (SomeIn value collection key reading) = some_in_planned T s value collection key reading
planned T s (Index root) = pattern_planned T s RespectParent root
planned T s (Parameter scoping root) = parameter_planned T s scoping root

pub operation_checked : (T : Tables) (s : Scope) (operation : Operation) → operation_outcome T s operation ≡ checked_first T s (roots_of operation) (planned T s operation)
unfolding operation_outcome roots_of
operation_checked T s (Pattern scoping root) = refl
operation_checked T s (ColonEquals left right reading) = refl
operation_checked T s (Equals left right reading) = refl
operation_checked T s (SomeIn value collection key reading) = refl
operation_checked T s (Index root) = refl
operation_checked T s (Parameter scoping root) = refl

module _ (T : Tables) (s : Scope) (operation : Operation) where
  pub others : (version : ℕ) → (version ≡ 1 → ⊥) → version_outcome T s version operation ≡ operation_outcome T s operation
  others version other = simp (ne_eqb version 1 other)

  module _ {r : Refusal} (e : checked T s ≡ Refusal.refused r) where
    pub table_refused_lem : operation_outcome T s operation ≡ refused r
    table_refused_lem = operation_checked T s operation ∙ simp e

    pub table_first_lem : (version_outcome T s 1 operation ≡ refused r) × (operation_outcome T s operation ≡ refused r)
    table_first_lem = (simp e, table_refused_lem)

  module _ (e : checked T s ≡ passed) where
    roots_refused : all_nodes T (roots_of operation) ≡ false → operation_outcome T s operation ≡ refused root_outside
    roots_refused out = operation_checked T s operation ∙ simp (e, out)

    pub roots_first : all_nodes T (roots_of operation) ≡ false → (version_outcome T s 1 operation ≡ refused root_outside) × (operation_outcome T s operation ≡ refused root_outside)
    roots_first out = (simp (e, out), roots_refused out)

    pub reserves : {node : ℕ} → all_nodes T (roots_of operation) ≡ true → first_reserved T s operation ≡ node → (node ≡ 0 → ⊥) → version_outcome T s 1 operation ≡ refused (reserved_name node)
    reserves {node} inside is some = simp (e, inside, is, ne_eqb node 0 some)

  pub free : first_reserved T s operation ≡ 0 → version_outcome T s 1 operation ≡ operation_outcome T s operation
  free none = go (checked T s) refl (all_nodes T (roots_of operation)) refl
    where
      go : (c : Tested) → checked T s ≡ c → (b : Bool) → all_nodes T (roots_of operation) ≡ b → version_outcome T s 1 operation ≡ operation_outcome T s operation
      go (Refusal.refused r) e b i = let both = table_first_lem e in both.0 ∙ sym both.1
      go passed e true i = simp (e, i, none)
      go passed e false i = let both = roots_first e i in both.0 ∙ sym both.1

pub version_laws : VersionLaws
version_laws = record {
  others = λ T s version operation other. others T s operation version other;
  free = free;
  reserves = λ T s operation e inside is some. reserves T s operation e inside is some;
  table_first_lem = λ T s operation e. table_first_lem T s operation e;
  roots_first = λ T s operation e out. roots_first T s operation e out;
}

-- the search for the name is asked where the table check and the roots pass
pub ask_names : (T : Tables) (s : Scope) (operation : Operation) {c : Result Unit TableRefusal} → TableAnswered T s c → c ≡ Ok tt
    → {inside : Bool} → inside ≡ all_nodes (in_nodes T.nodes) (roots_of operation) → not inside ≡ false → ReservedAsks T operation
ask_names T s operation told sound {inside} are in_table =
    record { table = sound_well T s told sound; roots = sym (are ∙ nodes_of_table T (roots_of operation)) ∙ not-false inside in_table }

-- the name that refuses: none under another version, or where the table check or the roots refuse
module _ (T : Tables) (s : Scope) (version : ℕ) (operation : Operation) where
  pub none_other : (version ≡ 1 → ⊥) → 0 ≡ refusing_name T s version operation
  none_other other = simp (ne_eqb version 1 other)

  module _ (one : version ≡ 1) {c : Result Unit TableRefusal} (told : TableAnswered T s c) where
    pub none_table : {d : TableRefusal} → c ≡ Err d → 0 ≡ refusing_name T s version operation
    none_table {d} e = let p : checked T s ≡ Refusal.refused (table_refused d) = sym told.answer ∙ ap tested_of e in simp (eq-eqb version 1 one, p)

    module _ (sound : c ≡ Ok tt) {inside : Bool} (are : inside ≡ all_nodes (in_nodes T.nodes) (roots_of operation)) where
      pub none_roots : not inside ≡ true → 0 ≡ refusing_name T s version operation
      none_roots out =
          let i : all_nodes T (roots_of operation) ≡ false = sym (are ∙ nodes_of_table T (roots_of operation)) ∙ not-true inside out in
          simp (eq-eqb version 1 one, check_passes T s told sound, i)

      module _ (in_table : not inside ≡ false) where
        pub the_reserved : {name : ℕ} → name ≡ first_reserved T s operation → name ≡ refusing_name T s version operation
        the_reserved is = let i = (ask_names T s operation told sound are in_table).roots in simp (eq-eqb version 1 one, check_passes T s told sound, i) is

  -- the planning call
  module _ {name : ℕ} (is : name ≡ refusing_name T s version operation) {before later : List ℕ} where
    pub plan_reserved : (name ≡ 0 → ⊥) → later ≡ replicate (length before) 0 → Answered (version_outcome T s version operation) before later (Err (ReservedName name))
    plan_reserved some zeros = subst (λ (o : Outcome). Answered o before later (Err (ReservedName name))) (sym (go (eqb version 1) refl (checked T s) refl (all_nodes T (roots_of operation)) refl)) (refuses (reserved_name name) refl zeros)
      where
        go : (v : Bool) → eqb version 1 ≡ v → (c : Tested) → checked T s ≡ c → (b : Bool) → all_nodes T (roots_of operation) ≡ b → version_outcome T s version operation ≡ refused (reserved_name name)
        go false v c e b i = absurd (some (is ∙ simp v))
        go true v (Refusal.refused r) e b i = absurd (some (is ∙ simp (v, e)))
        go true v passed e false i = absurd (some (is ∙ simp (v, e, i)))
        go true v passed e true i = simp v (reserves T s operation e i (sym (is ∙ simp (v, e, i))) some)

    pub plan_unreserved : {r : Result Plan PlanRefusal} → name ≡ 0 → Answered (operation_outcome T s operation) before later r → Answered (version_outcome T s version operation) before later r
    plan_unreserved {r} none a = subst (λ (o : Outcome). Answered o before later r) (sym (go (eqb version 1) refl (checked T s) refl (all_nodes T (roots_of operation)) refl)) a
      where
        go : (v : Bool) → eqb version 1 ≡ v → (c : Tested) → checked T s ≡ c → (b : Bool) → all_nodes T (roots_of operation) ≡ b → version_outcome T s version operation ≡ operation_outcome T s operation
        go false v c e b i = simp v
        go true v (Refusal.refused r) e b i = simp v (let both = table_first_lem T s operation e in both.0 ∙ sym both.1)
        go true v passed e false i = simp v (let both = roots_first T s operation e i in both.0 ∙ sym both.1)
        go true v passed e true i = simp v (free T s operation (sym (is ∙ simp (v, e, i)) ∙ none))
