-- The call for a rule body, function by function.
use Prim.Native.Nat.{ℕ, ◌+◌, ◌≤◌, ◌<◌}
use mathlib.Core.Path.{◌≡◌, refl, sym, ap, subst, ◌∙◌}
use mathlib.Core.Bool.{Bool, true, false, not, cond, false≢true}
use mathlib.Core.List.{List, [], ◌∷◌}
use native.Mathlib.Omega.{arith}
use borrow.Author.Tests.{eq-eqb, ne_eqb, eqb-true, eqb-false, le-leb, lt-leb, ltb-true, ltb-false}
use lib.Dec.{eqb, ltb}
use lib.ListN.{length, get_or, set, replicate, length-set}
use lib.Seq.{ext_get_or, get_or-set_same, get_or-set_other}
use Rattle.base.specs.Refusal.{Line, refusal_line, layout_broken, not_a_body, Tested, passed, refused, tested_or}
use Rattle.base.specs.Lists.{tabulate}
use Rattle.base.proofs.Filling.{length_tabulate, get_d_tabulate}
use Rattle.scope.specs.declared.Scope.{Scope}
use Rattle.scope.specs.declared.ByteScope.{ByteScope}
use Rattle.scope.specs.declared.MarkOutside.{MarkOutside}
use Rattle.std.specs.Prelude.{Result, Ok, Err, IfOk, IsErrAnd}
use Rattle.std.proofs.lemmas.Result.{err_from_is_err_and}
use Rattle.scope.specs.Bytes as Bytes
use Rattle.scope.specs.Bytes.{ConvertedFrom, convertible}
use Rattle.table.specs.Tables.{Tables}
use Rattle.table.specs.Rules.{within_limits}
use Rattle.table.proofs.tests.Bools.{never, told_no, told_yes}
use Rattle.planner.specs.Operations as Plan
use Rattle.planner.specs.Operations.{Outcome, planned}
use Rattle.planner.specs.Short.{ShortLine}
use Rattle.operation.specs.declared.Operation.{Operation}
use Rattle.operation.specs.declared.row.Row.{Row}
use Rattle.operation.specs.Rows.{row_line, Told}
use Rattle.body.specs.declared.BodyRefusal.{BodyRefusal}
use Rattle.body.specs.declared.BodyPlanned.{BodyPlanned}
use Rattle.body.specs.Lines.{operations_of, is_body}
use Rattle.body.specs.Body.{BodyOutcome, refused_at, accepted, line_outcome, bind_plan, unless_refused, body_from, no_plan, body_outcome, BodyLine, body_line, body_answered, body_written, scope_after, body_line_of, BodyAnswered}
use Rattle.body.proofs.Shortness.{body_short}
use Rattle.c_calls.specs.declared.given.GivenRefusal.{GivenRefusal}
use Rattle.c_calls.specs.declared.given.GivenRefusal.TheVariants.{OverLimit, BreaksRules}
use Rattle.c_calls.specs.Given.{byte_scope_of, scope_of, given_refused, given_tested}
use Rattle.body.specs.code.Post.{is_planned}
use Rattle.c_calls.specs.Bodies.{words_first, marks_first, MarksTold, body_call, told_body, mark_at, marks_in, marks_after, ToldBody, BodyCalled}

-- 7 and 37
module _ (scheduler : ℕ) (words : List ℕ) where
  pub words_unlisted : 1 < scheduler → refused layout_broken ≡ words_first scheduler words
  unfolding words_first
  words_unlisted lt = rw (lt-leb scheduler 1 lt) refl

  module _ (listed : scheduler ≤ 1) {r : Bool} (is : r ≡ is_body words) where
    pub words_none : not r ≡ true → refused not_a_body ≡ words_first scheduler words
    unfolding words_first
    words_none t = rw (le-leb scheduler 1 listed, told_no is t) refl

    pub words_body : not r ≡ false → passed ≡ words_first scheduler words
    unfolding words_first
    words_body t = rw (le-leb scheduler 1 listed, told_yes is t) refl

-- 1, and 2 for the marks
module _ (T : Tables) {w : Bool} (limits : w ≡ within_limits T) where
  pub limits_over : (made : Result Scope MarkOutside) → not w ≡ true → MarksTold T made (Err OverLimit)
  unfolding marks_first
  limits_over made t = record { told = rw (told_no limits t) refl; scope = tt }

  pub limits_marks : {made : Result Scope MarkOutside} {mark : MarkOutside} → not w ≡ false → made ≡ Err mark → {r : Result Scope GivenRefusal} → IsErrAnd r (λ x. x ≡ BreaksRules) → MarksTold T made r
  unfolding marks_first
  limits_marks t e {r} gives = let g = err_from_is_err_and r gives in rw (e, g.1, g.2) (record { told = rw (told_yes limits t) refl; scope = tt })

  pub limits_made : {made : Result Scope MarkOutside} {s : Scope} → not w ≡ false → made ≡ Ok s → MarksTold T made (Ok s)
  unfolding marks_first
  limits_made t e = rw e (record { told = rw (told_yes limits t) refl; scope = refl })

-- marks that are put
pub record Putting (all before here : List ℕ) (i : ℕ) : Type 0 where
  pub small : i ≤ 128
  pub size : length all ≡ 128
  pub long : length here ≡ length before
  pub put : (k : ℕ) → k < i → get_or here k 0 ≡ get_or all k 0
  pub rest : (k : ℕ) → i ≤ k → get_or here k 0 ≡ get_or before k 0

putting_start : (all before : List ℕ) → length all ≡ 128 → Putting all before before 0
putting_start all before e = record { small = omega arith; size = e; long = refl; put = λ k lt. absurd (omega arith); rest = λ k le. refl }

all_marks : (s : Scope) → length (Bytes.to_bytes s).marks ≡ 128
unfolding Bytes.to_bytes
all_marks s = length_tabulate _ 0 128

module _ {all before here : List ℕ} {i : ℕ} (go : Putting all before here i) where
  pub putting_on : i < 128 → i < length here → Putting all before (set here i (get_or all i 0)) (i + 1)
  putting_on lt inside = record {
    small = omega arith;
    size = go.size;
    long = length-set here i (get_or all i 0) ∙ go.long;
    put = λ k below. at k below (eqb k i) refl;
    rest = λ k le. get_or-set_other here i k (get_or all i 0) 0 (λ e. omega arith) ∙ go.rest k (omega arith);
  }
    where
      at : (k : ℕ) → k < i + 1 → (b : Bool) → eqb k i ≡ b → get_or (set here i (get_or all i 0)) k 0 ≡ get_or all k 0
      at k below true p = let e = eqb-true k i p in rw e (get_or-set_same here i (get_or all i 0) 0 inside)
      at k below false p = let d = eqb-false k i p in get_or-set_other here i k (get_or all i 0) 0 d ∙ go.put k (omega (arith, d))

  ends : (s : Scope) → all ≡ (Bytes.to_bytes s).marks → ((k : ℕ) → k < length before → k < 128 → k < i) → here ≡ marks_in s before
  unfolding marks_in
  ends s e reached =
      let f = mark_at (Bytes.to_bytes s).marks before in
      let long = go.long in
      let same = length_tabulate f 0 (length before) in
      ext_get_or 0 here (tabulate f 0 (length before)) (long ∙ sym same) (λ k lt.
      let z : 0 + k ≡ k = omega arith in
      at k (omega arith) (ltb k 128) refl ∙ sym (get_d_tabulate f 0 (length before) k (omega arith) ∙ ap f z))
    where
      at : (k : ℕ) → k < length before → (b : Bool) → ltb k 128 ≡ b → get_or here k 0 ≡ cond b (get_or (Bytes.to_bytes s).marks k 0) (get_or before k 0)
      at k lt true p = go.put k (reached k lt (ltb-true k 128 p)) ∙ ap (λ (l : List ℕ). get_or l k 0) e
      at k lt false p = let above = ltb-false k 128 p in let small = go.small in go.rest k (omega arith)

  putting_full : (s : Scope) → all ≡ (Bytes.to_bytes s).marks → length here ≤ i → here ≡ marks_in s before
  putting_full s e full = let long = go.long in ends s e (λ k lt small. omega arith)

  putting_ends : (s : Scope) → all ≡ (Bytes.to_bytes s).marks → 128 ≤ i → here ≡ marks_in s before
  putting_ends s e full = ends s e (λ k lt small. omega arith)

module _ (s : Scope) {b : ByteScope} (of : b ≡ Bytes.to_bytes s) where
  all_is : b.marks ≡ (Bytes.to_bytes s).marks
  all_is = ap (λ (x : ByteScope). x.marks) of

  pub marks_start : (before : List ℕ) → Putting b.marks before before 0
  marks_start before = putting_start b.marks before (ap length all_is ∙ all_marks s)

  module _ {before here : List ℕ} {i : ℕ} (go : Putting b.marks before here i) where
    pub marks_full : length here ≤ i → here ≡ marks_in s before
    marks_full full = putting_full go s all_is full

    pub marks_done : 128 ≤ i → here ≡ marks_in s before
    marks_done full = putting_ends go s all_is full

module _ (number : ℕ) (s : Scope) (before : List ℕ) where
  pub marks_left : (number ≡ 0 → ⊥) → before ≡ cond (eqb number 0) (marks_in s before) before
  marks_left some = rw (ne_eqb number 0 some) refl

  pub marks_kept : number ≡ 0 → {after : List ℕ} → after ≡ marks_in s before → after ≡ cond (eqb number 0) (marks_in s before) before
  marks_kept none e = rw (eq-eqb number 0 none) e

-- the five numbers
pub body_row_is : (refusal : BodyRefusal) {a : BodyRefusal} {row : Row} {n : ℕ} → refusal ≡ a → {l : Line} → row_line row ≡ l → body_line l n ≡ body_line_of (Err a) → body_line (row_line row) n ≡ body_line_of (Err refusal)
body_row_is refusal {n = n} e is q = rw (is, e) q

pub told_with_line : (l : Line) (n : ℕ) {before mid after : List ℕ} {r : ℕ} → Told l before mid r → after ≡ set mid 4 n → ToldBody (body_line l n) before after r
unfolding told_body
told_with_line l n t e = record { result = t.result; words = e ∙ ap (λ (w : List ℕ). set w 4 n) t.words }

-- an accepted body's number is 0
module _ (T : Tables) (buffer : List ℕ) where
  from_planned : (ops : List Operation) (n : ℕ) (s : Scope) (last : Outcome) → is_planned last ≡ true → (t : Scope) (o : Outcome) → body_from T buffer n s last ops ≡ accepted t o → is_planned o ≡ true
  unfolding body_from
  from_planned [] n s last p t o e = let q : last ≡ o = cc in rw q at p
  from_planned (operation ∷ ops) n s last p t o e = go (line_outcome T buffer s operation) e (λ u q h. from_planned ops (n + 1) u q h t o)
    where
      go : (q : Outcome) → unless_refused n q (λ q. body_from T buffer (n + 1) (bind_plan T s q) q ops) ≡ accepted t o
          → ((u : Scope) (q : Outcome) → is_planned q ≡ true → body_from T buffer (n + 1) u q ops ≡ accepted t o → is_planned o ≡ true) → is_planned o ≡ true
      go (Plan.refused r) h rest = never (cc)
      go (planned form which es) h rest = rest (bind_plan T s (planned form which es)) (planned form which es) refl h

  body_planned : (s : Scope) (words : List ℕ) (t : Scope) (o : Outcome) → body_outcome T s words buffer ≡ accepted t o → is_planned o ≡ true
  unfolding body_outcome
  body_planned s words t o e = go (is_body words) e
    where
      go : (b : Bool) → cond b (body_from T buffer 1 s no_plan (operations_of words)) (refused_at 0 not_a_body) ≡ accepted t o → is_planned o ≡ true
      go true h = from_planned (operations_of words) 1 s no_plan refl t o h
      go false h = never (cc)

  -- so the marks go by the number
  marks_by : (s : Scope) (words marks : List ℕ) → cond (eqb (body_answered (body_outcome T s words buffer)).numbers.number 0) (marks_in (scope_after s (body_outcome T s words buffer)) marks) marks ≡ marks_after (body_outcome T s words buffer) marks
  unfolding body_answered scope_after marks_after
  marks_by s words marks = go (body_outcome T s words buffer) refl
    where
      go : (o : BodyOutcome) → body_outcome T s words buffer ≡ o → cond (eqb (body_answered o).numbers.number 0) (marks_in (scope_after s o) marks) marks ≡ marks_after o marks
      go (refused_at n r) e = rw r.refuses refl
      go (accepted t (planned form which es)) e = refl
      go (accepted t (Plan.refused r)) e = absurd (false≢true (body_planned s words t (Plan.refused r) e))

-- what is told fits in the words
pub body_fits : (T : Tables) (s : Scope) (words : List ℕ) {before after : List ℕ} {r : BodyPlanned} {row : Row} {n : ℕ} → BodyAnswered (body_outcome T s words before) s before after r
    → body_line (row_line row) n ≡ body_line_of r.answer → ShortLine (row_line row)
body_fits T s words {before} d is = subst ShortLine (sym (ap (λ (l : BodyLine). l.numbers) (is ∙ d.answer))) (body_short T s words before)

-- a refusal before the body
refused_body : (m : ℕ) (t : Tested) (o : BodyOutcome) (x : GivenRefusal) {l : Line} {marks buffer bufferExit words wordsExit : List ℕ} {r : ℕ} → refused (given_refused x) ≡ t → l ≡ refusal_line (given_refused x)
    → bufferExit ≡ replicate (length buffer) 0 → ToldBody (body_line l m) words wordsExit r → BodyCalled (tested_or (refused_at m) t o) marks buffer words marks bufferExit wordsExit r
unfolding body_answered body_written marks_after
refused_body m t o x {words = words} {wordsExit = wordsExit} {r = r} e is z d =
    rw (← e) (record { answer = subst (λ (l : Line). ToldBody (body_line l m) words wordsExit r) is d; plan = z; kept = refl })

module _ (T : Tables) (marks : List ℕ) (scheduler : ℕ) (lines : List ℕ) {read : Result Unit GivenRefusal} (told-words : given_tested read ≡ words_first scheduler lines) where
  pub call_unread : {x : GivenRefusal} {l : Line} {buffer bufferExit words wordsExit : List ℕ} {r : ℕ} → read ≡ Err x → l ≡ refusal_line (given_refused x) → bufferExit ≡ replicate (length buffer) 0
      → ToldBody (body_line l 0) words wordsExit r → BodyCalled (body_call T marks scheduler lines buffer) marks buffer words marks bufferExit wordsExit r
  unfolding body_call
  call_unread {x} e is z d = refused_body 0 (words_first scheduler lines) _ x (sym (ap given_tested e) ∙ told-words) is z d

  module _ {u : Unit} (all : read ≡ Ok u) {made : Result Scope MarkOutside} (from : ConvertedFrom (byte_scope_of marks scheduler) made) {given : Result Scope GivenRefusal} (told-marks : MarksTold T made given) where
    is_read : words_first scheduler lines ≡ passed
    is_read = sym told-words ∙ ap given_tested all

    first_is : given_tested given ≡ marks_first T (convertible (byte_scope_of marks scheduler))
    first_is = told-marks.told ∙ ap (marks_first T) from.answer

    pub call_first : {x : GivenRefusal} {l : Line} {buffer bufferExit words wordsExit : List ℕ} {r : ℕ} → given ≡ Err x → l ≡ refusal_line (given_refused x) → bufferExit ≡ replicate (length buffer) 0
        → ToldBody (body_line l 1) words wordsExit r → BodyCalled (body_call T marks scheduler lines buffer) marks buffer words marks bufferExit wordsExit r
    unfolding body_call
    call_first {x} e is z d = rw is_read (refused_body 1 (marks_first T (convertible (byte_scope_of marks scheduler))) _ x (sym (ap given_tested e) ∙ first_is) is z d)

    module _ {s : Scope} (g : given ≡ Ok s) where
      first_passed : marks_first T (convertible (byte_scope_of marks scheduler)) ≡ passed
      first_passed = sym first_is ∙ ap given_tested g

      scope_is : s ≡ scope_of marks scheduler
      scope_is =
          let is = subst (λ (r : Result Scope GivenRefusal). IfOk r (λ (s : Scope). made ≡ Ok s)) g told-marks.scope in
          subst (λ (r : Result Scope MarkOutside). IfOk r (λ (s : Scope). s ≡ scope_of marks scheduler)) is from.scope

      pub call_done : {done : BodyPlanned} {row : Row} {n : ℕ} {buffer bufferExit marksExit words wordsExit : List ℕ} {r : ℕ}
          → BodyAnswered (body_outcome T s lines buffer) s buffer bufferExit done
          → body_line (row_line row) n ≡ body_line_of done.answer
          → marksExit ≡ cond (eqb row.number 0) (marks_in done.scope marks) marks
          → ToldBody (body_line (row_line row) n) words wordsExit r
          → BodyCalled (body_call T marks scheduler lines buffer) marks buffer words marksExit bufferExit wordsExit r
      unfolding body_call
      call_done {done} {row} {n} {buffer} {bufferExit} {marksExit} {words} {wordsExit} {r} was is m d =
          let sc = scope_of marks scheduler in
          let o = body_outcome T sc lines buffer in
          let body : BodyAnswered o sc buffer bufferExit done = subst (λ (s : Scope). BodyAnswered (body_outcome T s lines buffer) s buffer bufferExit done) scope_is was in
          let line_is : body_line (row_line row) n ≡ body_answered o = is ∙ body.answer in
          let number_is : row.number ≡ (body_answered o).numbers.number = ap (λ (l : BodyLine). l.numbers.number) line_is in
          rw (is_read, first_passed) (record {
            answer = subst (λ (l : BodyLine). ToldBody l words wordsExit r) line_is d;
            plan = body.buffer;
            kept =
                m
                ∙ (ap (λ (k : ℕ). cond (eqb k 0) (marks_in done.scope marks) marks) number_is
                ∙ (ap (λ (t : Scope). cond (eqb (body_answered o).numbers.number 0) (marks_in t marks) marks) body.scope
                ∙ marks_by T buffer sc lines marks));
          })
