-- What the scope says of the names, as the code asks it.
use Prim.Native.Nat.{ℕ, ◌+◌, ◌-◌, ◌/◌, ◌≤◌, ◌<◌}
use mathlib.Core.Path.{◌≡◌, refl, sym, ap, ◌∙◌}
use mathlib.Core.List.{List, []}
use mathlib.Core.Bool.{Bool, true, false, cond, not}
use native.Mathlib.Omega.{arith}
use borrow.Author.Tests.{leb-true, leb-false, le-leb, lt-leb, eq-eqb, ne_eqb, not-true, not-false}
use lib.Dec.{leb}
use lib.ListN.{length, get_or, set, replicate, get_or-replicate, get_or-eq_default}
use lib.Seq.{get_or-set_other, ext_get_or}
use Rattle.base.specs.Lists.{tabulate}
use Rattle.scope.specs.declared.Scope.{Scope}
use Rattle.scope.specs.declared.ScopingMode.{ScopingMode}
use Rattle.scope.specs.declared.NameOutside.{NameOutside}
use Rattle.std.specs.Prelude.{Result}
use Rattle.std.specs.Result.{result_unwrap_or}
use Rattle.std.specs.Int.{from_bool}
use Rattle.scope.specs.Scope.{is_name, is_unbound, asked, question_of}
use Rattle.scope.proofs.Laws.{reply_or_no}
use Rattle.table.specs.declared.NameClass.{NameClass}
use Rattle.table.specs.declared.NameClass.TheVariants.{Underscore, InputOrData, Ordinary}
use Rattle.table.specs.Tables.{name_bytes}
use Rattle.table.specs.Names.{class_of}
use Rattle.planner.specs.Names.{state_by, name_state, unbound_mark, states_of}
use Rattle.planner.specs.code.Passes.{binder_of}
use Rattle.planner.specs.code.Post.{NameNumber}
use Rattle.planner.specs.code.Validation.{mark_if, flag_by, flag_of, flags_of}
use Rattle.planner.proofs.buffer.Filling.{Filling, filling_start, filling_on, filling_ends, length_tabulate, get_d_tabulate, tabulate_next, tabulate_same}

-- the scope's answer of a name's number
pub name_reply : (x : ℕ) (u : Bool) → NameNumber x → (r : Result Bool NameOutside) → question_of r ≡ asked x u → result_unwrap_or r false ≡ u
unfolding is_name
name_reply x u v r is =
    let l = le-leb 1 x v.low in
    let h = le-leb x 128 v.high in
    let both : is_name x ≡ true = simp (l, h) in
    reply_or_no x u r is ∙ simp both

pub mark_reply : (x : ℕ) (u : Bool) → NameNumber x → (r : Result Bool NameOutside) → question_of r ≡ asked x u → {b : Bool} → b ≡ result_unwrap_or r false
    → {n : ℕ} → n ≡ from_bool b → n ≡ unbound_mark u
mark_reply x u v r is {b} e {n} told = told ∙ (ap from_bool (e ∙ name_reply x u v r is) ∙ go u)
  where
    go : (u : Bool) → from_bool u ≡ unbound_mark u
    go true = refl
    go false = refl

-- a name's mark
module _ (defined : Bool) (binder : ℕ) (u : Bool) where
  pub mark_unbound : {m : ℕ} → not defined ≡ true → m ≡ unbound_mark u → m ≡ mark_if defined binder u
  mark_unbound off e = simp (not-true defined off) e

  module _ (on : not defined ≡ false) where
    pub mark_planned : (binder ≡ 0 → ⊥) → 0 ≡ mark_if defined binder u
    mark_planned some = simp (not-false defined on, ne_eqb binder 0 some)

    pub mark_free : {m : ℕ} → binder ≡ 0 → m ≡ unbound_mark u → m ≡ 1 → 0 ≡ mark_if defined binder u
    mark_free {m} unset e one = simp (not-false defined on, eq-eqb binder 0 unset) (go u (sym e ∙ one))
      where
        go : (u : Bool) → unbound_mark u ≡ 1 → ◌≡◌ {A = ℕ} 0 (cond u 0 1)
        go true p = refl
        go false p = p

    pub mark_defined : {m : ℕ} → binder ≡ 0 → m ≡ unbound_mark u → (m ≡ 1 → ⊥) → 1 ≡ mark_if defined binder u
    mark_defined {m} unset e differs = simp (not-false defined on, eq-eqb binder 0 unset) (go u e)
      where
        go : (u : Bool) → m ≡ unbound_mark u → ◌≡◌ {A = ℕ} 1 (cond u 0 1)
        go true p = absurd (differs p)
        go false p = refl

module _ (names text : List ℕ) (s : Scope) (mode : ScopingMode) (defined : Bool) (binders : List ℕ) where
  -- by the class of the name
  module _ (x : ℕ) where
    pub state_none : length names / 2 < x → 0 ≡ flag_of names text s mode defined binders x
    state_none out = simp (lt-leb x (length names / 2) out)

    module _ (inside : x ≤ length names / 2) {class : NameClass} (is : class ≡ class_of (name_bytes names text x)) where
      has : leb x (length names / 2) ≡ true
      has = le-leb x (length names / 2) inside

      pub state_underscore : class ≡ Underscore → 2 ≡ flag_of names text s mode defined binders x
      state_underscore e = simp (has, sym is ∙ e)

      pub state_reserved : {r : ℕ} → class ≡ InputOrData → r ≡ mark_if defined 1 (is_unbound s mode x) → r ≡ flag_of names text s mode defined binders x
      state_reserved e m = simp (has, sym is ∙ e) m

      pub state_ordinary : {r : ℕ} → class ≡ Ordinary → r ≡ mark_if defined (binder_of binders x) (is_unbound s mode x) → r ≡ flag_of names text s mode defined binders x
      state_ordinary e m = simp (has, sym is ∙ e) m

  -- the flags of all names
  abbrev pub flag_at : ℕ → ℕ
  flag_at k = flag_of names text s mode defined binders (k + 1)

  -- those of the first i names are there, and zeros behind them
  pub record Flagging (i : ℕ) (here : List ℕ) : Type 0 where
    pub filled : Filling flag_at 128 i here
    pub rest : (k : ℕ) → i ≤ k → get_or here k 0 ≡ 0

  pub flagging_start : Flagging 0 (replicate 128 0)
  flagging_start = record { filled = filling_start flag_at 128; rest = λ k le. zero_at k (leb 128 k) refl }
    where
      zero_at : (k : ℕ) (b : Bool) → leb 128 k ≡ b → ◌≡◌ {A = ℕ} (get_or (replicate 128 0) k 0) 0
      zero_at k true e = get_or-eq_default (replicate 128 0) 0 (leb-true 128 k e)
      zero_at k false e = get_or-replicate 128 k 0 0 (leb-false 128 k e)

  module _ {i : ℕ} {here : List ℕ} (go : Flagging i here) where
    pub flagging_on : {v : ℕ} → i < 128 → v ≡ flag_at i → Flagging (i + 1) (set here i v)
    flagging_on {v} lt is = record { filled = filling_on {count = 128} go.filled lt (omega arith) is; rest = λ k le. get_or-set_other here i k v 0 (λ e. omega arith) ∙ go.rest k (omega arith) }

    pub flags_end : 128 ≤ i → here ≡ flags_of names text s mode defined binders
    flags_end le = let long = go.filled.long in filling_ends go.filled (omega arith) ∙ tabulate_next (flag_of names text s mode defined binders) 0 128

    -- the table has no further names
    pub flags_stop : length names / 2 ≤ i → here ≡ flags_of names text s mode defined binders
    flags_stop le =
        let flag = flag_of names text s mode defined binders in
        ext_get_or 0 here (tabulate flag 1 128) (go.filled.long ∙ sym (length_tabulate flag 1 128))
        (λ k lt. let one : k + 1 ≡ 1 + k = omega arith in at k (leb i k) refl ∙ (ap flag one ∙ sym (get_d_tabulate flag 1 128 k (rw go.filled.long at lt))))
      where
        at : (k : ℕ) (b : Bool) → leb i k ≡ b → get_or here k 0 ≡ flag_of names text s mode defined binders (k + 1)
        at k true e = let l = leb-true i k e in go.rest k l ∙ state_none (k + 1) (omega arith)
        at k false e = go.filled.each k (leb-false i k e)

  -- a name that the table has
  pub flags_each : {flags : List ℕ} → flags ≡ flags_of names text s mode defined binders → length names / 2 ≤ 128 → (x : ℕ) → 1 ≤ x → x ≤ length names / 2
      → get_or flags (x - 1) 0 ≡ flag_by defined (class_of (name_bytes names text x)) (binder_of binders x) (is_unbound s mode x)
  flags_each is few x low high =
      let e : 1 + (x - 1) ≡ x = omega arith in
      let has = le-leb x (length names / 2) high in
      ap (λ (l : List ℕ). get_or l (x - 1) 0) is
      ∙ (get_d_tabulate (flag_of names text s mode defined binders) 1 128 (x - 1) (omega arith) ∙ (ap (flag_of names text s mode defined binders) e ∙ simp has))

-- the states are such flags
state_flag : (class : NameClass) (binder : ℕ) (u : Bool) → flag_by false class binder u ≡ state_by class u
state_flag Underscore binder u = refl
state_flag InputOrData binder u = refl
state_flag Ordinary binder u = refl

module _ (names text : List ℕ) (s : Scope) (mode : ScopingMode) where
  same_states : (binders : List ℕ) → flags_of names text s mode false binders ≡ states_of names text s mode
  same_states binders = tabulate_same (flag_of names text s mode false binders) (name_state names text s mode) (λ x.
      ap (λ (v : ℕ). cond (leb x (length names / 2)) v 0) (state_flag (class_of (name_bytes names text x)) (binder_of binders x) (is_unbound s mode x))) 1 128

  pub states_flags : (binders : List ℕ) {states : List ℕ} → states ≡ flags_of names text s mode false binders → states ≡ states_of names text s mode
  states_flags binders is = is ∙ same_states binders

  pub states_each : {states : List ℕ} → states ≡ states_of names text s mode → length names / 2 ≤ 128 → (x : ℕ) → 1 ≤ x → x ≤ length names / 2
      → get_or states (x - 1) 0 ≡ state_by (class_of (name_bytes names text x)) (is_unbound s mode x)
  states_each is few x low high =
      flags_each names text s mode false [] (is ∙ sym (same_states [])) few x low high ∙ state_flag (class_of (name_bytes names text x)) (binder_of [] x) (is_unbound s mode x)
