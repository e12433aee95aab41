-- What each way out of a function has shown, over plain values.
use Prim.Native.Nat.{ℕ, ◌+◌, ◌-◌, ◌*◌, ◌%◌, ◌^◌, ◌≤◌, ◌<◌}
use mathlib.Core.Path.{◌≡◌, sym, ap, ◌∙◌}
use mathlib.Core.Bool.{Bool, true, false, cond, not, and-false}
use mathlib.Core.List.{List}
use native.Mathlib.Omega.{arith}
use borrow.Author.Tests.{lt-leb, le-leb, eq-eqb, ne_eqb, not-true, not-false}
use lib.Bits.{bit_and, bit_or}
use lib.Count.{ones, ones-le}
use mir.Syntax.{w32, w64}
use mir.Val.{Fits}
use Rattle.base.specs.Refusal.{name_outside}
use Rattle.scope.specs.declared.name_set.NameSet.{NameSet}
use Rattle.scope.specs.declared.Scope.{Scope}
use Rattle.scope.specs.declared.ScopingMode.{ScopingMode}
use Rattle.scope.specs.declared.ScopingMode.TheVariants.{RespectParent, AllowShadowing}
use Rattle.std.specs.Prelude.{Ok, Err}
use Rattle.scope.specs.Names.{is_name, bit_of, with_bit, without_bit, put_bit, at_name, contains, with_name, without_name, no_names, size_of}
use Rattle.scope.specs.Says.{marked_unbound, taken, by_scoping}
use Rattle.scope.specs.declared.ByteScope.{ByteScope}
use Rattle.scope.specs.Bytes.{marks_ok, mark_bit, word_from, marked, of_bytes, ConvertedFrom, weight, sum_of, to_bytes}
use Rattle.scope.specs.Scope.{new_scope, child_of, says, is_underscore, is_unbound, same_scope, changeable, bind_variable, add_unbound_variable, Called, replied, turned_back_lem, asked}
use Rattle.scope.proofs.Bits.{one_shifted}
use Rattle.base.proofs.Filling.{Filling, filling_ends}
use Rattle.scope.proofs.Sets.{name_positive, name_most, set_counted}

-- is_name
pub name_low : (x : ℕ) → x < 1 → false ≡ is_name x
unfolding is_name
name_low x h = simp (lt-leb 1 x h)

pub name_high : (x : ℕ) → 128 < x → false ≡ is_name x
unfolding is_name
name_high x h = simp (lt-leb x 128 h, and-false)

pub name_between : (x : ℕ) → 1 ≤ x → x ≤ 128 → true ≡ is_name x
unfolding is_name
name_between x low high = simp (le-leb 1 x low, le-leb x 128 high)

-- its answer
pub told_no : {r b : Bool} → r ≡ b → not r ≡ true → b ≡ false
told_no {r} {b} e t = sym e ∙ not-true r t

pub told_yes : {r b : Bool} → r ≡ b → not r ≡ false → b ≡ true
told_yes {r} {b} e t = sym e ∙ not-false r t

-- a word with and without a bit
pub bit_set : (w k : ℕ) → k < 64 → bit_or w ((1 * 2 ^ k) % 2 ^ 64) ≡ with_bit w k
bit_set w k lt = ap (bit_or w) (one_shifted lt)

pub bit_cleared : (w k : ℕ) → k < 64 → bit_and w ((2 ^ 64 - 1) - (1 * 2 ^ k) % 2 ^ 64) ≡ without_bit w k
bit_cleared w k lt = ap (λ (n : ℕ). bit_and w ((2 ^ 64 - 1) - n)) (one_shifted lt)

-- sets of names
pub in_no_set : (s : NameSet) (x : ℕ) {r : Bool} → r ≡ is_name x → not r ≡ true → false ≡ contains s x
unfolding contains
in_no_set s x e t = simp (told_no e t)

pub put_outside : (b : Bool) (s : NameSet) (x : ℕ) {r : Bool} → r ≡ is_name x → not r ≡ true → s ≡ at_name (put_bit b) s x
put_outside b s x e t = simp (told_no e t)

module _ (x : ℕ) {r : Bool} (e : r ≡ is_name x) (t : not r ≡ false) where
  pub first_bit : 1 ≤ x
  first_bit = name_positive x (told_yes e t)

  pub high_bit : 64 < x → x - 65 < 64
  high_bit lt = omega (arith, name_most x (told_yes e t))

  module _ (s : NameSet) where
    pub in_low : {b : Bool} → x ≤ 64 → b ≡ bit_of s.low (x - 1) → b ≡ contains s x
    unfolding contains
    in_low le is = simp (told_yes e t, le-leb x 64 le) is

    pub in_high : {b : Bool} → 64 < x → b ≡ bit_of s.high (x - 65) → b ≡ contains s x
    unfolding contains
    in_high lt is = simp (told_yes e t, lt-leb x 64 lt) is

    pub put_low : (b : Bool) {w : ℕ} → x ≤ 64 → w ≡ put_bit b s.low (x - 1) → ◌≡◌ {A = NameSet} (record { low = w; high = s.high }) (at_name (put_bit b) s x)
    put_low b le is = simp (told_yes e t, le-leb x 64 le, is)

    pub put_high : (b : Bool) {w : ℕ} → 64 < x → w ≡ put_bit b s.high (x - 65) → ◌≡◌ {A = NameSet} (record { low = s.low; high = w }) (at_name (put_bit b) s x)
    put_high b lt is = simp (told_yes e t, lt-leb x 64 lt, is)

-- a set's size
module _ (s : NameSet) (l : Fits w64 s.low) (h : Fits w64 s.high) where
  pub count_fits : Fits w32 (ones s.low + ones s.high)
  count_fits = record { fits = omega (arith, ones-le 64 s.low l.fits, ones-le 64 s.high h.fits) }

  pub count_is : ones s.low + ones s.high ≡ size_of s
  count_is = set_counted s (record { low = l.fits; high = h.fits })

-- scopes with sets that have no name
pub child_is : (s : Scope) {none : NameSet} → none ≡ no_names
    → ◌≡◌ {A = Scope} (record { bound = s.bound; here = none; unbound = s.unbound; local = s.local; global = s.global; underscore = s.underscore; scheduler = s.scheduler }) (child_of s)
unfolding child_of
child_is s e = simp e

pub new_is : (u : ℕ) (h : Bool) {none : NameSet} → none ≡ no_names
    → ◌≡◌ {A = Scope} (record { bound = none; here = none; unbound = none; local = none; global = none; underscore = u; scheduler = h }) (new_scope u h)
unfolding new_scope
new_is u h e = simp e

-- a change
module _ (s : Scope) (x : ℕ) (b : Bool) {r : Bool} (e : r ≡ is_name x) where
  pub mark_outside : not r ≡ true → Called x (cond b (bind_variable s x) (add_unbound_variable s x)) (Err (record {}))
  mark_outside t = record { answer = simp (told_no e t); scope = tt }

  module _ (t : not r ≡ false) where
    pub mark_underscore : x ≡ s.underscore → Called x (cond b (bind_variable s x) (add_unbound_variable s x)) (Ok s)
    unfolding bind_variable add_unbound_variable changeable is_underscore
    mark_underscore u = record { answer = simp (told_yes e t); scope = go b }
      where
        go : (b : Bool) → s ≡ cond b (bind_variable s x) (add_unbound_variable s x)
        go true = simp (told_yes e t, eq-eqb _ _ u)
        go false = simp (told_yes e t, eq-eqb _ _ u)

    pub mark_done : (x ≡ s.underscore → ⊥) → {bound here unbound local : NameSet}
        → bound ≡ at_name (put_bit b) s.bound x → here ≡ at_name (put_bit b) s.here x → unbound ≡ at_name (put_bit (not b)) s.unbound x → local ≡ at_name (put_bit false) s.local x
        → Called x (cond b (bind_variable s x) (add_unbound_variable s x))
        (Ok (record { bound = bound; here = here; unbound = unbound; local = local; global = s.global; underscore = s.underscore; scheduler = s.scheduler }))
    unfolding bind_variable add_unbound_variable changeable is_underscore with_name without_name
    mark_done u e₁ e₂ e₃ e₄ = record { answer = simp (told_yes e t); scope = rw (e₁, e₂, e₃, e₄) (go b) }
      where
        go : (b : Bool) → ◌≡◌ {A = Scope}
            (record {
              bound = at_name (put_bit b) s.bound x;
              here = at_name (put_bit b) s.here x;
              unbound = at_name (put_bit (not b)) s.unbound x;
              local = at_name (put_bit false) s.local x;
              global = s.global;
              underscore = s.underscore;
              scheduler = s.scheduler;
            }) (cond b (bind_variable s x) (add_unbound_variable s x))
        go true = simp (told_yes e t, ne_eqb _ _ u)
        go false = simp (told_yes e t, ne_eqb _ _ u)

-- what a scope says of a name
module _ (s : Scope) (x : ℕ) where
  module _ {u : Bool} (e : u ≡ contains s.unbound x) where
    pub unbound_declared : u ≡ true → true ≡ marked_unbound s.scheduler (says s x)
    unfolding says
    unbound_declared t = simp (sym e ∙ t)

    pub unbound_local : u ≡ false → s.scheduler ≡ true → {l : Bool} → l ≡ contains s.local x → l ≡ marked_unbound s.scheduler (says s x)
    unfolding says
    unbound_local t h is = simp (sym e ∙ t, h) is

    pub unbound_none : u ≡ false → s.scheduler ≡ false → false ≡ marked_unbound s.scheduler (says s x)
    unfolding says
    unbound_none t h = simp (sym e ∙ t, h)

  module _ {b : Bool} (e : b ≡ contains s.bound x) where
    pub taken_bound : b ≡ true → true ≡ taken (says s x)
    unfolding says
    taken_bound t = simp (sym e ∙ t)

    pub taken_global : b ≡ false → {g : Bool} → g ≡ contains s.global x → g ≡ taken (says s x)
    unfolding says
    taken_global t is = simp (sym e ∙ t) is

  -- the questions
  pub unbound_outside : (mode : ScopingMode) {r : Bool} → r ≡ is_name x → not r ≡ true → turned_back_lem name_outside ≡ asked x (is_unbound s mode x)
  unbound_outside mode e t = simp (told_no e t)

  pub same_outside : {r : Bool} → r ≡ is_name x → not r ≡ true → turned_back_lem name_outside ≡ asked x (same_scope s x)
  same_outside e t = simp (told_no e t)

  module _ {r : Bool} (e : r ≡ is_name x) (t : not r ≡ false) where
    pub unbound_underscore : (mode : ScopingMode) → x ≡ s.underscore → replied false ≡ asked x (is_unbound s mode x)
    unfolding is_unbound is_underscore
    unbound_underscore mode u = simp (told_yes e t, eq-eqb _ _ u)

    pub same_underscore : x ≡ s.underscore → replied false ≡ asked x (same_scope s x)
    unfolding same_scope is_underscore
    same_underscore u = simp (told_yes e t, eq-eqb _ _ u)

    module _ (u : x ≡ s.underscore → ⊥) where
      pub same_is : {h : Bool} → h ≡ contains s.here x → replied h ≡ asked x (same_scope s x)
      unfolding same_scope is_underscore says
      same_is is = simp (told_yes e t, ne_eqb _ _ u, is)

      module _ {marked : Bool} (m : marked ≡ marked_unbound s.scheduler (says s x)) where
        pub unbound_marked : (mode : ScopingMode) → marked ≡ true → replied true ≡ asked x (is_unbound s mode x)
        unfolding is_unbound is_underscore
        unbound_marked mode b = simp (told_yes e t, ne_eqb _ _ u, sym m ∙ b)

        module _ (no : marked ≡ false) where
          unbound_is : (mode : ScopingMode) → asked x (is_unbound s mode x) ≡ replied (by_scoping mode (taken (says s x)))
          unfolding is_unbound is_underscore
          unbound_is mode = simp (told_yes e t, ne_eqb _ _ u, sym m ∙ no)

          pub unbound_shadowed : (mode : ScopingMode) → mode ≡ AllowShadowing → replied true ≡ asked x (is_unbound s mode x)
          unbound_shadowed mode a = sym (unbound_is mode ∙ simp a)

          pub unbound_free : {k : Bool} → k ≡ taken (says s x) → (mode : ScopingMode) → mode ≡ RespectParent → replied (not k) ≡ asked x (is_unbound s mode x)
          unbound_free f mode a = sym (unbound_is mode ∙ simp (a, f))

-- conversions
pub marked_is : (ms : List ℕ) (place : ℕ) {l h : ℕ} → l ≡ word_from (mark_bit ms place) 0 64 → h ≡ word_from (mark_bit ms place) 64 64 → ◌≡◌ {A = NameSet} (record { low = l; high = h }) (marked ms place)
unfolding marked
marked_is ms place e f = simp (e, f)

module _ (b : ByteScope) {r : Bool} (e : r ≡ marks_ok b) where
  pub conversion_refused : not r ≡ true → ConvertedFrom b (Err (record {}))
  conversion_refused t = record { answer = simp (told_no e t); scope = tt }

  pub conversion_done : {bound here unbound local global : NameSet} → not r ≡ false
      → bound ≡ marked b.marks 0 → here ≡ marked b.marks 1 → unbound ≡ marked b.marks 2 → local ≡ marked b.marks 3 → global ≡ marked b.marks 4
      → ConvertedFrom b (Ok (record { bound = bound; here = here; unbound = unbound; local = local; global = global; underscore = b.underscore; scheduler = b.scheduler }))
  unfolding of_bytes
  conversion_done t e₁ e₂ e₃ e₄ e₅ = record { answer = simp (told_yes e t); scope = simp (e₁, e₂, e₃, e₄, e₅) }

module _ (names : NameSet) (x k : ℕ) {r : Bool} (e : r ≡ contains names x) where
  pub weight_in : r ≡ true → k ≡ weight (contains names x) k
  weight_in t = simp (sym e ∙ t)

  pub weight_out : r ≡ false → 0 ≡ weight (contains names x) k
  weight_out t = simp (sym e ∙ t)

pub sum_is : (s : Scope) (x : ℕ) {a b c d e : ℕ}
    → a ≡ weight (contains s.bound x) 1 → b ≡ weight (contains s.here x) 2 → c ≡ weight (contains s.unbound x) 4
    → d ≡ weight (contains s.local x) 8 → e ≡ weight (contains s.global x) 16 → a + b + c + d + e ≡ sum_of s x
unfolding sum_of
sum_is s x e₁ e₂ e₃ e₄ e₅ = rw (e₁, e₂, e₃, e₄, e₅)

pub bytes_done : (s : Scope) {i : ℕ} {ms : List ℕ} → Filling (λ k. sum_of s (k + 1)) 128 i ms → 128 ≤ i
    → ◌≡◌ {A = ByteScope} (record { marks = ms; underscore = s.underscore; scheduler = s.scheduler }) (to_bytes s)
unfolding to_bytes
bytes_done s go le = let long = go.long in simp (filling_ends go (omega arith))
