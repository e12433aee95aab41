-- Every number of a body's answer is of at most six digits.
use Prim.Native.Nat.{ℕ, ◌+◌, ◌≤◌}
use mathlib.Core.Path.{◌≡◌, refl}
use mathlib.Core.Bool.{Bool, true, false, cond}
use mathlib.Core.List.{List, [], ◌∷◌}
use native.Mathlib.Omega.{arith}
use borrow.Author.Tests.{leb-true, leb-false}
use lib.Dec.{eqb, leb}
use lib.ListN.{length}
use Rattle.base.specs.Refusal.{plan_too_large, not_a_body, name_not_ready, passed}
use Rattle.scope.specs.declared.Scope.{Scope}
use Rattle.table.specs.Tables.{Tables, kind_of}
use Rattle.table.specs.Decode.{expr}
use Rattle.table.specs.Check.{checked}
use Rattle.table.specs.code.Sound.{WellFormed}
use Rattle.table.proofs.trees.Facts.{sound_table}
use Rattle.planner.specs.Layout.{Entry}
use Rattle.planner.specs.Names.{Occurrence, occurrences, first_node}
use Rattle.planner.specs.Operations.{Outcome, refused, planned, fits}
use Rattle.planner.specs.Short.{ShortLine, ShortOutcome}
use Rattle.planner.proofs.laws.Binders.{names_all}
use Rattle.planner.proofs.laws.Names.{Each, each_occurrence}
use Rattle.operation.specs.declared.Operation.{Operation}
use Rattle.operation.specs.Operation.{operation_outcome}
use Rattle.operation.proofs.ShortOperation.{operation_short}
use Rattle.body.specs.Lines.{operations_of, is_body}
use Rattle.body.specs.Ready.{Side, sides_of, first_in, first_not_ready}
use Rattle.body.specs.Body.{unless_too_large, unless_not_ready, line_outcome, bind_plan, refused_at, unless_refused, body_from, no_plan, body_outcome, line_answered, body_answered}
use Rattle.body.proofs.Searching.{no_names, node_above}
use Rattle.body.proofs.LineSteps.{line_sound}

abbrev LowNode : ℕ → ℕ → Type 0
LowNode n x = n ≤ 512

first_low : (bad : ℕ → Bool) (os : List Occurrence) → Each LowNode os → first_node bad os ≤ 512
unfolding Each first_node
first_low bad [] a = omega arith
first_low bad (o ∷ os) a = go (bad o.name) (first_low bad os a.1)
  where
    go : (b : Bool) → first_node bad os ≤ 512 → cond b o.node (first_node bad os) ≤ 512
    go true rest = a.0
    go false rest = rest

module _ (T : Tables) (s : Scope) (w : WellFormed T) where
  side_low : (u : Side) → first_in T s u ≤ 512
  unfolding Each first_node
  side_low u = go (leb (kind_of T.nodes u.node) 5) refl
    where
      go : (b : Bool) → leb (kind_of T.nodes u.node) 5 ≡ b → first_in T s u ≤ 512
      go true e = rw (no_names T u.node (leb-true (kind_of T.nodes u.node) 5 e)) (omega arith)
      go false e =
          first_low _ (occurrences true true (expr T u.node))
          (each_occurrence LowNode true true (expr T u.node)
          (names_all T w LowNode (λ m z k named. let h = z.high in let l = w.limits.nodes in omega arith) u.node (node_above T u.node w (leb-false (kind_of T.nodes u.node) 5 e))))

  sides_low : (us : List Side) → first_not_ready T s us ≤ 512
  unfolding first_not_ready
  sides_low [] = omega arith
  sides_low (u ∷ us) = go (eqb (first_in T s u) 0) (sides_low us)
    where
      go : (b : Bool) → first_not_ready T s us ≤ 512 → cond b (first_not_ready T s us) (first_in T s u) ≤ 512
      go true rest = rest
      go false rest = side_low u

module _ (T : Tables) (buffer : List ℕ) where
  pub line_short : (s : Scope) (operation : Operation) → ShortOutcome (line_outcome T buffer s operation)
  unfolding line_outcome
  line_short s operation = go (operation_outcome T s operation) refl (operation_short T s operation)
    where
      ready : (form which : ℕ) (es : List Entry) → checked T s ≡ passed → ShortOutcome (planned form which es) → ShortOutcome (unless_not_ready T s operation (planned form which es))
      ready form which es ok p = by (eqb (first_not_ready T s (sides_of T operation form which es)) 0)
        where
          low : first_not_ready T s (sides_of T operation form which es) ≤ 512
          low = sides_low T s (sound_table T s ok).well_formed_lem (sides_of T operation form which es)

          by : (b : Bool) → ShortOutcome (cond b (planned form which es) (refused (name_not_ready (first_not_ready T s (sides_of T operation form which es)))))
          by true = p
          by false = let l = low in record { one = omega arith; two = omega arith; three = omega arith; four = omega arith }

      go : (o : Outcome) → operation_outcome T s operation ≡ o → ShortOutcome o → ShortOutcome (unless_not_ready T s operation (unless_too_large buffer o))
      go (refused r) e p = p
      go (planned form which es) e p = by (fits es buffer)
        where
          by : (b : Bool) → ShortOutcome (unless_not_ready T s operation (cond b (planned form which es) (refused (plan_too_large (length es)))))
          by true = ready form which es (line_sound T s operation e) p
          by false = let l = p.0.four in record { one = omega arith; two = omega arith; three = omega arith; four = omega arith }

  from_short : (ops : List Operation) (n : ℕ) (s : Scope) (last : Outcome) → ShortLine (line_answered 0 last).numbers → ShortLine (body_answered (body_from T buffer n s last ops)).numbers
  unfolding body_from body_answered
  from_short [] n s last p = p
  from_short (operation ∷ ops) n s last p = go (line_outcome T buffer s operation) (line_short s operation) (λ t o q. from_short ops (n + 1) t o q)
    where
      go : (o : Outcome) → ShortOutcome o → ((t : Scope) (q : Outcome) → ShortLine (line_answered 0 q).numbers → ShortLine (body_answered (body_from T buffer (n + 1) t q ops)).numbers)
          → ShortLine (body_answered (unless_refused n o (λ q. body_from T buffer (n + 1) (bind_plan T s q) q ops))).numbers
      go (refused r) q rest = q
      go (planned form which es) q rest = rest (bind_plan T s (planned form which es)) (planned form which es) q.0

pub body_short : (T : Tables) (s : Scope) (words buffer : List ℕ) → ShortLine (body_answered (body_outcome T s words buffer)).numbers
unfolding body_outcome body_answered
body_short T s words buffer = go (is_body words)
  where
    go : (b : Bool) → ShortLine (body_answered (cond b (body_from T buffer 1 s no_plan (operations_of words)) (refused_at 0 not_a_body))).numbers
    go true = from_short T buffer (operations_of words) 1 s no_plan (record { one = omega arith; two = omega arith; three = omega arith; four = omega arith })
    go false = record { one = omega arith; two = omega arith; three = omega arith; four = omega arith }
