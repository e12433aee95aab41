-- The lines of a body in turn.
use Prim.Native.Nat.{ℕ, suc, ◌+◌, ◌-◌, ◌%◌, ◌≤◌, ◌<◌}
use mathlib.Core.Path.{◌≡◌, refl, sym, ap, subst, ◌∙◌}
use mathlib.Core.Bool.{Bool, true, false, false≢true}
use mathlib.Core.List.{List, [], ◌∷◌}
use native.Mathlib.Omega.{arith}
use borrow.Author.Tests.{leb-true}
use mir.Val.{Fits}
use mir.Syntax.{w32}
use lib.Dec.{eqb, leb}
use lib.ListN.{length, replicate}
use Rattle.scope.specs.declared.Scope.{Scope}
use Rattle.table.specs.Tables.{Tables}
use Rattle.table.proofs.tests.Bools.{and_true}
use Rattle.planner.specs.Operations.{Outcome, refused, planned, written}
use Rattle.planner.proofs.buffer.ReadBack.{written_long}
use Rattle.operation.specs.declared.Operation.{Operation}
use Rattle.operation.specs.Operation.{operation_outcome}
use Rattle.std.proofs.Common.{Result, Ok, Err, is_ok}
use Rattle.planner.specs.declared.Plan.{Plan}
use Rattle.body.specs.declared.BodyRefusal.{BodyRefusal}
use Rattle.body.specs.declared.BodyRefusal.TheVariants.{NotABody}
use Rattle.body.specs.declared.LinePlanned.{LinePlanned}
use Rattle.body.specs.Lines.{line_words, line_count, line_at, lines_from, operations_of, is_body}
use Rattle.body.specs.Body.{unless_too_large, unless_not_ready, line_outcome, bind_plan, BodyOutcome, accepted, unless_refused, body_from, no_plan, body_outcome, line_answered, body_answered, scope_after, body_written, body_line_of, BodyAnswered}
use Rattle.body.specs.code.Post.{StatesOf, line_answer, line_scope, is_planned, LineDone}

-- of the buffer only the length counts
module _ (b c : List ℕ) (long : length b ≡ length c) where
  too_large_same : (o : Outcome) → unless_too_large b o ≡ unless_too_large c o
  too_large_same (refused r) = refl
  too_large_same (planned form which es) = rw long refl

  line_same : (T : Tables) (s : Scope) (operation : Operation) → line_outcome T b s operation ≡ line_outcome T c s operation
  unfolding line_outcome
  line_same T s operation = ap (unless_not_ready T s operation) (too_large_same (operation_outcome T s operation))

  written_same : (o : Outcome) → written o b ≡ written o c
  unfolding written
  written_same (refused r) = rw long refl
  written_same (planned form which es) = rw long refl

lines_step : (words : List ℕ) (i k : ℕ) → i < k → lines_from words i (k - i) ≡ line_at words i ∷ lines_from words (i + 1) (k - (i + 1))
unfolding lines_from
lines_step words i k lt = let a : k - i ≡ suc (k - (i + 1)) = omega arith in ap (lines_from words i) a

lines_end : (words : List ℕ) (i k : ℕ) → k ≤ i → lines_from words i (k - i) ≡ []
unfolding lines_from
lines_end words i k le = let a : k - i ≡ 0 = omega arith in rw a

-- a body has 1 to 64 lines
line_limits : (words : List ℕ) → is_body words ≡ true → (1 ≤ line_count words) × (line_count words ≤ 64)
unfolding is_body
line_limits words is =
    let a = (and_true (eqb (length words % line_words) 0) _ is).1 in
    let b = and_true (leb 1 (line_count words)) _ a in
    (leb-true 1 (line_count words) b.0, leb-true (line_count words) 64 (and_true (leb (line_count words) 64) _ b.1).0)

-- a body, and none
pub is_body_by : (words : List ℕ) {r : Bool} → r ≡ is_body words → r ≡ true → is_body words ≡ true
is_body_by words told said = sym told ∙ said

pub no_body : (T : Tables) (s : Scope) (words : List ℕ) {r : Bool} → r ≡ is_body words → r ≡ false → {before after : List ℕ} → after ≡ replicate (length before) 0
    → BodyAnswered (body_outcome T s words before) s before after (record { answer = Err NotABody; scope = s })
unfolding body_outcome body_answered scope_after body_written
no_body T s words told no_lines e = let is = sym told ∙ no_lines in rw is (record { answer = refl; scope = refl; buffer = e })

-- the lines from line i on, i from 0, make of what stands here the same as all of them of the start
pub record BodyLeft (T : Tables) (s : Scope) (words buffer : List ℕ) (i : ℕ) (here : Scope) (answer : Result Plan BodyRefusal) (plan known : List ℕ) : Type 0 where
  pub is : is_body words ≡ true
  pub some : 1 ≤ line_count words
  pub few : line_count words ≤ 64
  pub long : length plan ≡ length buffer
  pub states_are : StatesOf T here known
  pub last : Outcome
  pub same : body_from T buffer (i + 1) here last (lines_from words i (line_count words - i)) ≡ body_from T buffer 1 s no_plan (operations_of words)
  pub answered : 0 < i → body_line_of answer ≡ line_answered 0 last
  pub held : 0 < i → plan ≡ written last buffer

pub body_start : (T : Tables) (s : Scope) (words : List ℕ) → is_body words ≡ true → (before : List ℕ) {states : List ℕ} → StatesOf T s states → BodyLeft T s words before 0 s (Err NotABody) before states
body_start T s words is before known =
    let z : line_count words - 0 ≡ line_count words = omega arith in
    record { is = is; some = (line_limits words is).0; few = (line_limits words is).1; long = refl; states_are = known; last = no_plan; same = rw z refl; answered = λ lt. absurd (omega arith); held = λ lt. absurd (omega arith) }

module _ {T : Tables} {s : Scope} {words before : List ℕ} {i : ℕ} {here : Scope} {answer : Result Plan BodyRefusal} {plan known : List ℕ} (go : BodyLeft T s words before i here answer plan known) where
  pub line_number : i < line_count words → Fits w32 (i + 1)
  line_number more = let f = go.few in record { fits = omega arith }

  module _ (more : i < line_count words) {operation : Operation} (is-line : operation ≡ line_at words i) {n : ℕ} (is-n : n ≡ i + 1) {later learnt : List ℕ} {r : Result LinePlanned BodyRefusal}
      (d : LineDone T here n (line_outcome T plan here operation) (written (line_outcome T plan here operation) plan) later learnt r) where
    o : Outcome
    o = line_outcome T before here (line_at words i)

    outcome_same : line_outcome T plan here operation ≡ o
    unfolding o
    outcome_same = line_same plan before go.long T here operation ∙ ap (line_outcome T before here) is-line

    done : LineDone T here (i + 1) o (written o before) later learnt r
    done =
        let e = outcome_same in
        record {
          planned_is = d.planned_is ∙ ap is_planned e;
          answer = d.answer ∙ (ap (λ (m : ℕ). line_answered m (line_outcome T plan here operation)) is-n ∙ ap (line_answered (i + 1)) e);
          scope = d.scope ∙ ap (bind_plan T here) e;
          plan = d.plan ∙ (ap (λ (q : Outcome). written q plan) e ∙ written_same plan before go.long o);
          states_are = d.states_are;
        }

    onward : unless_refused (i + 1) o (λ q. body_from T before (i + 1 + 1) (bind_plan T here q) q (lines_from words (i + 1) (line_count words - (i + 1)))) ≡ body_from T before 1 s no_plan (operations_of words)
    unfolding body_from o
    onward = ap (body_from T before (i + 1) here go.last) (sym (lines_step words i (line_count words) more)) ∙ go.same

    whole : body_outcome T s words before ≡ unless_refused (i + 1) o (λ q. body_from T before (i + 1 + 1) (bind_plan T here q) q (lines_from words (i + 1) (line_count words - (i + 1))))
    unfolding body_outcome
    whole = rw go.is (sym onward)

    pub line_ends : {x : BodyRefusal} → r ≡ Err x → BodyAnswered (body_outcome T s words before) s before later (record { answer = Err x; scope = s })
    unfolding body_answered scope_after body_written written
    line_ends {x} met = subst (λ (q : BodyOutcome). BodyAnswered q s before later (record { answer = Err x; scope = s })) (sym whole) (by o (sym done.planned_is ∙ ap is_ok met) (sym (ap (λ (q : Result LinePlanned BodyRefusal). body_line_of (line_answer q)) met) ∙ done.answer) done.plan)
      where
        by : (q : Outcome) → is_planned q ≡ false → body_line_of (Err x) ≡ line_answered (i + 1) q → later ≡ written q before
            → BodyAnswered (unless_refused (i + 1) q (λ q. body_from T before (i + 1 + 1) (bind_plan T here q) q (lines_from words (i + 1) (line_count words - (i + 1))))) s before later (record { answer = Err x; scope = s })
        by (refused y) e a b = record { answer = a; scope = refl; buffer = b }
        by (planned form which es) e a b = absurd (false≢true (sym e))

    pub line_goes_on : {p : LinePlanned} → r ≡ Ok p → BodyLeft T s words before (i + 1) p.scope (Ok p.plan) later learnt
    line_goes_on {p} met = by o (sym done.planned_is ∙ ap is_ok met) (sym (ap (λ (q : Result LinePlanned BodyRefusal). body_line_of (line_answer q)) met) ∙ done.answer) (sym (ap (line_scope here) met) ∙ done.scope) done.plan onward
      where
        by : (q : Outcome) → is_planned q ≡ true → body_line_of (Ok p.plan) ≡ line_answered (i + 1) q → p.scope ≡ bind_plan T here q → later ≡ written q before
            → unless_refused (i + 1) q (λ q. body_from T before (i + 1 + 1) (bind_plan T here q) q (lines_from words (i + 1) (line_count words - (i + 1)))) ≡ body_from T before 1 s no_plan (operations_of words)
            → BodyLeft T s words before (i + 1) p.scope (Ok p.plan) later learnt
        by (refused x) e a t b h = absurd (false≢true e)
        by (planned form which es) e a t b h = record { is = go.is; some = go.some; few = go.few; long = ap length b ∙ written_long (planned form which es) before; states_are = subst (λ (q : Result LinePlanned BodyRefusal). StatesOf T (line_scope here q) learnt) met d.states_are; last = planned form which es; same = rw t h; answered = λ lt. a; held = λ lt. b }

  pub body_ends : line_count words ≤ i → BodyAnswered (body_outcome T s words before) s before plan (record { answer = answer; scope = here })
  unfolding body_outcome body_from body_answered scope_after body_written
  body_ends le =
      let e : body_from T before 1 s no_plan (operations_of words) ≡ accepted here go.last = sym go.same ∙ ap (body_from T before (i + 1) here go.last) (lines_end words i (line_count words) le) in
      let met : 0 < i = let first = go.some in omega arith in
      rw (go.is, e) (record { answer = go.answered met; scope = refl; buffer = go.held met })
