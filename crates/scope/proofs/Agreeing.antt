-- Bit words and bytes agree.
use Prim.Native.Nat.{ℕ, ◌+◌, ◌-◌, ◌≤◌, ◌<◌}
use mathlib.Core.Path.{◌≡◌, refl, sym, ap, ◌∙◌}
use mathlib.Core.Bool.{Bool, true, false, cond}
use native.Mathlib.Omega.{arith}
use borrow.Author.Tests.{eqb-true, eqb-false}
use lib.Dec.{eqb}
use lib.ListN.{length, get_or}
use lib.Seq.{ext_get_or}
use Rattle.scope.specs.declared.name_set.NameSet.{NameSet}
use Rattle.scope.specs.declared.Scope.{Scope}
use Rattle.base.specs.Lists.{tabulate}
use Rattle.scope.specs.declared.ByteScope.{ByteScope}
use Rattle.scope.specs.declared.ScopingMode.{ScopingMode}
use Rattle.scope.specs.Names.{is_name, contains, size_of}
use Rattle.scope.specs.Says.{Says, in_child}
use Rattle.scope.specs.declared.MarkOutside.{MarkOutside}
use Rattle.std.specs.Prelude.{Result, Ok, Err, IfOk}
use Rattle.base.specs.Refusal.{breaks_rules, Tested, passed, refused, require}
use Rattle.std.specs.Result.{result_unwrap_or, result_err}
use Rattle.scope.specs.Scope.{says, is_underscore, is_unbound, same_scope, bound_count, changeable, bound_at, unbound_at, bind_variable, add_unbound_variable, child_of, new_scope, named, asked}
use Rattle.scope.specs.Bytes.{says_mark, marks_ok, mark_bit, marked, of_bytes, sum_of, to_bytes, empty_bytes, conversion_of, converted, ConvertedFrom}
use Rattle.scope.specs.Bytes as Bytes
use Rattle.scope.specs.Promises.{ChangedAt}
use Rattle.scope.specs.Agreement.{Marks, ScopeWords, Call, CallsAgree, QuestionsAgree, MarksKept, AgreementPromise, ConversionPromise}
use Rattle.scope.proofs.Sets.{name_positive, name_most, name_inside, same_names, with_words, without_words, none_words, count_same}
use Rattle.scope.proofs.Words.{marked_words, marked_contains}
use Rattle.base.proofs.Filling.{length_tabulate, get_d_tabulate}
use Rattle.scope.proofs.Marks.{MarksChanged, bind_marks, add_marks, child_sized, child_marks, new_marks, small_at, small_each, small_tabulated, bind_small, add_small, child_small, summed_small, summed_says, mark_summed}
use Rattle.scope.proofs.Laws.{bind_promise, add_promise, child_promise, new_promise}

-- `b` and `s` have the same `_`, the same scheduler, and say the same of every name.
record Agree (b : ByteScope) (s : Scope) : Type 0 where
  pub sized : length b.marks ≡ 128
  pub underscore : s.underscore ≡ b.underscore
  pub scheduler : s.scheduler ≡ b.scheduler
  pub names : (x : ℕ) → is_name x ≡ true → says s x ≡ Bytes.says b x

-- the questions
module _ (b : ByteScope) (s : Scope) (same : Agree b s) where
  underscores : (x : ℕ) → is_underscore s x ≡ Bytes.is_underscore b x
  unfolding is_underscore Bytes.is_underscore
  underscores x = simp same.underscore

  unbound_same : (mode : ScopingMode) (x : ℕ) → is_name x ≡ true → is_unbound s mode x ≡ Bytes.is_unbound b mode x
  unfolding is_unbound Bytes.is_unbound
  unbound_same mode x is = simp (underscores x, same.scheduler, same.names x is)

  here_same : (x : ℕ) → is_name x ≡ true → same_scope s x ≡ Bytes.same_scope b x
  unfolding same_scope Bytes.same_scope
  here_same x is = simp (underscores x, same.names x is)

  answers : (f g : ℕ → Bool) → ((x : ℕ) → is_name x ≡ true → f x ≡ g x) → (x : ℕ) → asked x (f x) ≡ asked x (g x)
  answers f g h x = go (is_name x) refl
    where
      go : (a : Bool) → is_name x ≡ a → asked x (f x) ≡ asked x (g x)
      go true e = simp (e, h x e)
      go false e = simp e

  count_agrees : bound_count s ≡ Bytes.bound_count b
  unfolding bound_count Bytes.bound_count size_of says
  count_agrees = count_same (contains s.bound) (λ x. (Bytes.says b x).bound) 1 1 128 (λ k lt. ap (λ (v : Says). v.bound) (same.names (1 + k) (name_inside (1 + k) (omega arith) (omega arith))))

-- a call that changes what both say of one name alike
module _ (change : Says → Says) (b c : ByteScope) (s t : Scope) (x : ℕ) (bytes : MarksChanged change b c x) (bits : ChangedAt change s t x) (same : Agree b s) where
  names_agree : (y : ℕ) → is_name y ≡ true → says t y ≡ Bytes.says c y
  names_agree y is = go (eqb y x) refl
    where
      here : (z : ℕ) → z ≡ x → is_name z ≡ true → (u : Bool) → is_underscore s x ≡ u → says t z ≡ Bytes.says c z
      here z e is true f =
          let g = sym (underscores b s same x) ∙ f in
          rw (bits.underscore f, bytes.underscore g) (same.names z is)
      here z e is false f =
          let g = sym (underscores b s same x) ∙ f in
          let n = rw e at is in
          rw e (bits.at n f ∙ ap change (same.names x n) ∙ sym (bytes.at same.sized n g))

      go : (d : Bool) → eqb y x ≡ d → says t y ≡ Bytes.says c y
      go true e = here y (eqb-true y x e) is (is_underscore s x) refl
      go false e =
          let other = eqb-false y x e in
          bits.others y other ∙ same.names y is ∙ sym (bytes.others y is other)

  call_agrees : Agree c t
  call_agrees = record {
    sized = bytes.sized same.sized;
    underscore = bits.frame.underscore ∙ same.underscore ∙ sym bytes.frame_underscore;
    scheduler = bits.frame.scheduler ∙ same.scheduler ∙ sym bytes.frame_scheduler;
    names = names_agree;
  }

child_agrees : (b : ByteScope) (s : Scope) → Agree b s → Agree (Bytes.child_of b) (child_of s)
unfolding child_of Bytes.child_of
child_agrees b s same = record {
  sized = child_sized b same.sized;
  underscore = same.underscore;
  scheduler = same.scheduler;
  names = λ x is. (child_promise s).all x ∙ ap in_child (same.names x is) ∙ sym (child_marks b x);
}

new_agrees : (u : ℕ) (h : Bool) → Agree (empty_bytes u h) (new_scope u h)
unfolding empty_bytes new_scope
new_agrees u h = record {
  sized = refl;
  underscore = refl;
  scheduler = refl;
  names = λ x is. (new_promise u h).all x ∙ sym (new_marks u h x);
}

-- conversions
module _ (b : ByteScope) where
  from_says : (x : ℕ) → is_name x ≡ true → says (of_bytes b) x ≡ Bytes.says b x
  unfolding of_bytes says Bytes.says
  from_says x is =
      let at : (place : ℕ) → contains (marked b.marks place) x ≡ eqb (mark_bit b.marks place (x - 1)) 1 = λ place. marked_contains b.marks place x is in
      simp (at 0, at 1, at 2, at 3, at 4)

  from_agrees : length b.marks ≡ 128 → Agree b (of_bytes b)
  unfolding of_bytes
  from_agrees long = record { sized = long; underscore = refl; scheduler = refl; names = from_says }

  from_words : ScopeWords (of_bytes b)
  unfolding of_bytes
  from_words =
      let at = marked_words b.marks in
      record { bound = at 0; here = at 1; unbound = at 2; local = at 3; global = at 4 }

module _ (s : Scope) where
  sum_small : (x : ℕ) → sum_of s x ≤ 31
  unfolding sum_of
  sum_small x = summed_small (contains s.bound x) (contains s.here x) (contains s.unbound x) (contains s.local x) (contains s.global x)

  sum_says : (x : ℕ) → says_mark (sum_of s x) ≡ says s x
  unfolding sum_of says
  sum_says x = summed_says (contains s.bound x) (contains s.here x) (contains s.unbound x) (contains s.local x) (contains s.global x)

  to_says : (x : ℕ) → is_name x ≡ true → says s x ≡ Bytes.says (to_bytes s) x
  unfolding to_bytes Bytes.says
  to_says x is =
      let p = name_positive x is in
      let q = name_most x is in
      let e : 0 + (x - 1) + 1 ≡ x = omega arith in
      sym (ap says_mark (get_d_tabulate (λ i. sum_of s (i + 1)) 0 128 (x - 1) (omega arith) ∙ ap (sum_of s) e) ∙ sum_says x)

  to_agrees : Agree (to_bytes s) s
  unfolding to_bytes
  to_agrees = record { sized = length_tabulate (λ i. sum_of s (i + 1)) 0 128; underscore = refl; scheduler = refl; names = to_says }

  to_small : marks_ok (to_bytes s) ≡ true
  unfolding to_bytes marks_ok
  to_small = small_tabulated (λ i. sum_of s (i + 1)) (λ i. sum_small (i + 1)) 0 128

marks_accepted : (b : ByteScope) → ((i : ℕ) → get_or b.marks i 0 ≤ 31) → marks_ok b ≡ true
unfolding marks_ok
marks_accepted b le = small_each b.marks le

-- from bytes, and back
sum_back : (b : ByteScope) → marks_ok b ≡ true → (x : ℕ) → is_name x ≡ true → sum_of (of_bytes b) x ≡ Bytes.mark_of b x
unfolding sum_of of_bytes marks_ok
sum_back b ok x is =
    let at : (place : ℕ) → contains (marked b.marks place) x ≡ eqb (mark_bit b.marks place (x - 1)) 1 = λ place. marked_contains b.marks place x is in
    simp (at 0, at 1, at 2, at 3, at 4) (mark_summed (Bytes.mark_of b x) (small_at b.marks ok (x - 1)))

marks_back : (b : ByteScope) → length b.marks ≡ 128 → marks_ok b ≡ true → tabulate (λ i. sum_of (of_bytes b) (i + 1)) 0 128 ≡ b.marks
marks_back b long ok =
    let f : ℕ → ℕ = λ i. sum_of (of_bytes b) (i + 1) in
    let size = length_tabulate f 0 128 in
    ext_get_or 0 (tabulate f 0 128) b.marks (size ∙ sym long) (λ i lt.
    let below : i < 128 = omega arith in
    let e : 0 + i + 1 ≡ i + 1 = omega arith in
    let d : i + 1 - 1 ≡ i = omega arith in
    get_d_tabulate f 0 128 i below ∙ ap (sum_of (of_bytes b)) e ∙ sum_back b ok (i + 1) (name_inside (i + 1) (omega arith) (omega arith)) ∙ ap (λ (k : ℕ). get_or b.marks k 0) d)

bytes_back : (b : ByteScope) → length b.marks ≡ 128 → marks_ok b ≡ true → to_bytes (of_bytes b) ≡ b
unfolding to_bytes of_bytes
bytes_back b long ok = ap (Bytes.with_marks b) (marks_back b long ok)

scopes_equal : {b h u l g b' h' u' l' g' : NameSet} {n n' : ℕ} {d d' : Bool} → b ≡ b' → h ≡ h' → u ≡ u' → l ≡ l' → g ≡ g' → n ≡ n' → d ≡ d'
    → ◌≡◌ {A = Scope}
    (record { bound = b; here = h; unbound = u; local = l; global = g; underscore = n; scheduler = d })
    (record { bound = b'; here = h'; unbound = u'; local = l'; global = g'; underscore = n'; scheduler = d' })
scopes_equal e₁ e₂ e₃ e₄ e₅ e₆ e₇ = cc

call_eq : (x : ℕ) {s t : Scope} → s ≡ t → ◌≡◌ {A = Call Scope} (record { answer = named x; scope = s }) (record { answer = named x; scope = t })
call_eq x e = rw e

-- A scope of words that agrees with bytes is their conversion.
agreed : {b : ByteScope} {s : Scope} → Agree b s → ScopeWords s → s ≡ of_bytes b
unfolding of_bytes says
agreed {b} {s} same ok =
    let w = marked_words b.marks in
    let all : (x : ℕ) → is_name x ≡ true → says s x ≡ says (of_bytes b) x = λ x is. same.names x is ∙ sym (from_says b x is) in
    let e₁ = same_names ok.bound (w 0) (λ x is. ap (λ (v : Says). v.bound) (all x is)) in
    let e₂ = same_names ok.here (w 1) (λ x is. ap (λ (v : Says). v.here) (all x is)) in
    let e₃ = same_names ok.unbound (w 2) (λ x is. ap (λ (v : Says). v.unbound) (all x is)) in
    let e₄ = same_names ok.local (w 3) (λ x is. ap (λ (v : Says). v.local) (all x is)) in
    let e₅ = same_names ok.global (w 4) (λ x is. ap (λ (v : Says). v.global) (all x is)) in
    scopes_equal e₁ e₂ e₃ e₄ e₅ same.underscore same.scheduler

-- the calls keep words
module _ (s : Scope) (x : ℕ) (ok : ScopeWords s) where
  changed_words : {t : Scope} → ScopeWords t → (c : Bool) → ScopeWords (cond c t s)
  changed_words all true = all
  changed_words all false = ok

  bind_words : ScopeWords (bind_variable s x)
  unfolding bind_variable
  bind_words = changed_words {t = bound_at s x} (record {
    bound = with_words x ok.bound;
    here = with_words x ok.here;
    unbound = without_words x ok.unbound;
    local = without_words x ok.local;
    global = ok.global;
  }) (changeable s x)

  add_words : ScopeWords (add_unbound_variable s x)
  unfolding add_unbound_variable
  add_words = changed_words {t = unbound_at s x} (record {
    bound = without_words x ok.bound;
    here = without_words x ok.here;
    unbound = with_words x ok.unbound;
    local = without_words x ok.local;
    global = ok.global;
  }) (changeable s x)

child_words : (s : Scope) → ScopeWords s → ScopeWords (child_of s)
unfolding child_of
child_words s ok = record { bound = ok.bound; here = none_words; unbound = ok.unbound; local = ok.local; global = ok.global }

new_words : (u : ℕ) (h : Bool) → ScopeWords (new_scope u h)
unfolding new_scope
new_words u h = record { bound = none_words; here = none_words; unbound = none_words; local = none_words; global = none_words }

-- convert then call, call then convert
module _ (b : ByteScope) (good : Marks b) where
  start : Agree b (of_bytes b)
  start = from_agrees b good.sized

  calls_agree : CallsAgree b
  calls_agree = record {
    bind = λ x. call_eq x (agreed (call_agrees _ b (Bytes.bind_variable b x) (of_bytes b) (bind_variable (of_bytes b) x) x (bind_marks b x) (bind_promise (of_bytes b) x).changed start) (bind_words (of_bytes b) x (from_words b)));
    add = λ x. call_eq x (agreed (call_agrees _ b (Bytes.add_unbound_variable b x) (of_bytes b) (add_unbound_variable (of_bytes b) x) x (add_marks b x) (add_promise (of_bytes b) x).changed start) (add_words (of_bytes b) x (from_words b)));
    child = agreed (child_agrees b (of_bytes b) start) (child_words (of_bytes b) (from_words b));
  }

  questions_agree : QuestionsAgree b
  questions_agree = record {
    names = from_says b;
    is_unbound_lem = λ mode. answers b (of_bytes b) start (is_unbound (of_bytes b) mode) (Bytes.is_unbound b mode) (unbound_same b (of_bytes b) start mode);
    same_scope_lem = answers b (of_bytes b) start (same_scope (of_bytes b)) (Bytes.same_scope b) (here_same b (of_bytes b) start);
    count = count_agrees b (of_bytes b) start;
  }

  marks_kept : MarksKept b
  marks_kept = record {
    bind = λ x. record { sized = (bind_marks b x).sized good.sized; small = bind_small b x good.small };
    add = λ x. record { sized = (add_marks b x).sized good.sized; small = add_small b x good.small };
    child = record { sized = child_sized b good.sized; small = child_small b good.small };
  }

pub agreement_promise : AgreementPromise
agreement_promise = record { new = λ u h. agreed (new_agrees u h) (new_words u h); calls = calls_agree; questions = questions_agree; kept = marks_kept }

-- An empty scope in place of a refused one.
pub converted_or_empty : (b : ByteScope) {r : Result Scope MarkOutside} → ConvertedFrom b r → {e : Scope} → e ≡ new_scope 0 false → {s : Scope} → s ≡ result_unwrap_or r e → s ≡ converted b
converted_or_empty b {r} c empty is = is ∙ (ap (result_unwrap_or r) empty ∙ go (marks_ok b) refl r c.answer c.scope)
  where
    go : (a : Bool) → marks_ok b ≡ a → (r : Result Scope MarkOutside) → conversion_of r ≡ require a breaks_rules passed → IfOk r (λ s. s ≡ of_bytes b)
        → result_unwrap_or r (new_scope 0 false) ≡ converted b
    go true p (Ok s) e is = simp p is
    go true p (Err o) e is = cc
    go false p (Ok s) e is = cc
    go false p (Err o) e is = simp p

conversion_settled : (a c : Result Scope MarkOutside) → conversion_of a ≡ conversion_of c → result_err a ≡ result_err c
conversion_settled (Ok s) (Ok t) e = refl
conversion_settled (Ok s) (Err d) e = cc
conversion_settled (Err c) (Ok t) e = cc
conversion_settled (Err c) (Err d) e = refl

conversion_whole : (b : ByteScope) (a c : Result Scope MarkOutside) → ConvertedFrom b a → ConvertedFrom b c → a ≡ c
conversion_whole b (Ok s) (Ok t) p q = ap Ok (p.scope ∙ sym q.scope)
conversion_whole b (Err c) (Err d) p q = refl
conversion_whole b (Ok s) (Err d) p q = let h : ◌≡◌ {A = Tested} passed (refused breaks_rules) = p.answer ∙ sym q.answer in cc
conversion_whole b (Err c) (Ok t) p q = let h : ◌≡◌ {A = Tested} (refused breaks_rules) passed = p.answer ∙ sym q.answer in cc

marks_bounded : (b : ByteScope) → marks_ok b ≡ true → (i : ℕ) → get_or b.marks i 0 ≤ 31
unfolding marks_ok
marks_bounded b ok i = small_at b.marks ok i

to_sized : (s : Scope) → length (to_bytes s).marks ≡ 128
unfolding to_bytes
to_sized s = length_tabulate (λ i. sum_of s (i + 1)) 0 128

pub conversion_promise : ConversionPromise
conversion_promise = record {
  there_and_back = λ b good. bytes_back b good.sized good.small;
  back_and_there = λ s ok. sym (agreed (to_agrees s) ok);
  words = from_words;
  marks = λ s. record { sized = to_sized s; small = to_small s };
  small = marks_accepted;
  large = marks_bounded;
  settled = conversion_settled;
  whole = conversion_whole;
}
