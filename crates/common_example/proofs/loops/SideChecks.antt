-- The checks of a side, one after the other.
use Prim.Native.Nat.{ℕ, ◌/◌, ◌≤◌, ◌<◌}
use mathlib.Core.Bool.{Bool, true, false, not}
use mathlib.Core.List.{List}
use mathlib.Core.Path.{◌≡◌, ap, sym, ◌∙◌}
use borrow.Author.Tests.{le-leb, lt-leb}
use lib.ListN.{length}
use Rattle.base.specs.Refusal.{Refusal, Tested, tested_or}
use Rattle.base.specs.Refusal as Refusal
use Rattle.scope.specs.declared.Scope.{Scope}
use Rattle.scope.specs.declared.ScopingMode.{ScopingMode}
use Rattle.scope.specs.Scope.{known}
use Rattle.std.proofs.Common.{Result, Ok, Err}
use Rattle.std.specs.Result.{IsErrAnd}
use Rattle.std.proofs.lemmas.Result.{err_from_is_err_and}
use Rattle.table.specs.declared.TableRefusal.{TableRefusal}
use Rattle.table.specs.Tables.{Tables, name_count, is_node}
use Rattle.table.specs.Decode.{expr}
use Rattle.table.specs.Check.{tested_of, TableAnswered}
use Rattle.table.specs.code.Sound.{WellFormed}
use Rattle.table.proofs.tests.Bools.{told_no, told_yes}
use Rattle.table.proofs.trees.Facts.{sound_table}
use Rattle.planner.specs.code.Post.{GoodRoot}
use Rattle.planner.proofs.laws.Operations.{check_passes, root_node}
use Rattle.planner.specs.Simple.{simple}
use Rattle.value.specs.code.Post.{node_marks}
use Rattle.run.specs.Operations.{values_listed, known_listed}
use Rattle.run.specs.code.ChecksPost.{ValuesAsks, AllAsks, all_marked}
use Rattle.run.specs.code.NamesPost.{KnownAsks}
use Rattle.run.proofs.Checking.{listed_is, all_asks}
use Rattle.common_example.specs.declared.sides.SideRefusal.{SideRefusal}
use Rattle.common_example.specs.declared.sides.SideRefusal.TheVariants as Side
use Rattle.common_example.specs.declared.sides.ScopedPattern.{ScopedPattern}
use Rattle.common_example.specs.Operations.{side_checked}
use Rattle.common_example.specs.Common.{pattern_side}
use Rattle.common_example.specs.code.Sides.{values_tested, inside_tested, root_tested, ValuesAnswered, InsideAsks, InsideAnswered, RootAsks, RootAnswered, SideAnswered}

-- the list
pub listed_asks : (T : Tables) (root : ℕ) (values : List ℕ) → AllAsks T root values → ValuesAsks T.nodes T.names values
listed_asks T root values a = all_asks T root values a

pub listed_told : (T : Tables) (root : ℕ) (values : List ℕ) → AllAsks T root values → {marks : List ℕ} {r : Bool} → marks ≡ node_marks T false → r ≡ all_marked T.nodes T.names marks values → r ≡ values_listed T values
listed_told T root values a m e = e ∙ listed_is T root values a m

-- 22 and 23
pub ask_listed : (T : Tables) (s : Scope) (pattern : ℕ) (values : List ℕ) → KnownAsks T s pattern values → AllAsks T pattern values
ask_listed T s pattern values a = record { good = a.good; long = a.list_ok.long }

module _ (T : Tables) (s : Scope) (mode : ScopingMode) (pattern : ℕ) (values : List ℕ) where
  module _ {all : Bool} (of : all ≡ values_listed T values) where
    pub no_value : not all ≡ true → ValuesAnswered T s mode pattern values (Err Side.NotAValue)
    unfolding values_tested
    no_value t = let f = told_no of t in record { answer = rw f }

    module _ (all-values : not all ≡ false) {valued : Bool} (by : valued ≡ known_listed T (known s mode) (expr T pattern) values) where
      pub unlisted : not valued ≡ true → ValuesAnswered T s mode pattern values (Err Side.NameWithoutValue)
      unfolding values_tested
      unlisted t = let f = told_yes of all-values in let g = told_no by t in record { answer = rw (f, g) }

      pub all_pass : not valued ≡ false → ValuesAnswered T s mode pattern values (Ok tt)
      unfolding values_tested
      all_pass t = let f = told_yes of all-values in let g = told_yes by t in record { answer = rw (f, g) }

-- 21
module _ (T : Tables) (s : Scope) (pattern : ℕ) (values : List ℕ) (a : InsideAsks T s pattern values) where
  good : WellFormed T
  good = (sound_table T s a.sound).well_formed_lem

  pub ask_simple : GoodRoot T pattern
  ask_simple = record { table = good; node = a.root }

  pub ask_known : {ok : Bool} → ok ≡ simple (expr T pattern) → not ok ≡ false → KnownAsks T s pattern values
  ask_known is simple-is = record { sound = a.sound; good = ask_simple; is_simple = told_yes is simple-is; list_ok = record { few = good.limits.names; long = a.long } }

module _ (T : Tables) (s : Scope) (mode : ScopingMode) (pattern : ℕ) (values : List ℕ) {ok : Bool} (is : ok ≡ simple (expr T pattern)) where
  pub not_simple : not ok ≡ true → InsideAnswered T s mode pattern values (Err Side.PatternNotSimple)
  unfolding inside_tested
  not_simple t = let e = told_no is t in record { answer = rw e }

  pub values_end : not ok ≡ false → {r : Result Unit SideRefusal} → ValuesAnswered T s mode pattern values r → InsideAnswered T s mode pattern values r
  unfolding inside_tested
  values_end t {r} v = let e = told_yes is t in record { answer = v.answer ∙ sym (rw e) }

-- 5 and 20
pub ask_inside : (T : Tables) (s : Scope) (pattern : ℕ) (values : List ℕ) → RootAsks T s → {inside : Bool} → inside ≡ is_node T pattern → not inside ≡ false → length T.names / 2 ≤ length values → InsideAsks T s pattern values
ask_inside T s pattern values a told root long = record { sound = a.sound; root = root_node T pattern told root; long = long }

module _ (T : Tables) (s : Scope) (mode : ScopingMode) (pattern : ℕ) (values : List ℕ) {inside : Bool} (told : inside ≡ is_node T pattern) where
  pub root_outside_lem : not inside ≡ true → RootAnswered T s mode pattern values (Err Side.RootOutside)
  unfolding root_tested
  root_outside_lem t = let e = told_no told t in record { answer = rw e }

  module _ (root : not inside ≡ false) where
    pub list_short : length values < length T.names / 2 → RootAnswered T s mode pattern values (Err Side.ListTooShort)
    unfolding root_tested
    list_short lt = let e = told_yes told root in let g = lt-leb (name_count T) (length values) lt in record { answer = rw (e, g) }

    pub inside_end : length T.names / 2 ≤ length values → {r : Result Unit SideRefusal} → InsideAnswered T s mode pattern values r → RootAnswered T s mode pattern values r
    unfolding root_tested
    inside_end long {r} i = let e = told_yes told root in let g = le-leb (name_count T) (length values) long in record { answer = i.answer ∙ sym (rw (e, g)) }

-- the table check
pub ask_root : (T : Tables) (s : Scope) {c : Result Unit TableRefusal} → TableAnswered T s c → c ≡ (Ok tt) → RootAsks T s
ask_root T s is sound = record { sound = check_passes T s is sound }

module _ (T : Tables) (p : ScopedPattern) (values : List ℕ) {c : Result Unit TableRefusal} (is : TableAnswered T p.scope c) where
  first : {d : Result Unit TableRefusal} → c ≡ d → side_checked T (pattern_side p values) ≡ tested_or Refusal.refused (tested_of d) (root_tested T p.scope p.scoping p.root values)
  unfolding side_checked inside_tested values_tested root_tested
  first e = ap (λ (t : Tested). tested_or Refusal.refused t (root_tested T p.scope p.scoping p.root values)) (sym is.answer ∙ ap tested_of e)

  pub table_refused_lem : {d : TableRefusal} → c ≡ Err d → {r : Result Unit SideRefusal} → IsErrAnd r (λ x. x ≡ Side.TableRefused d) → SideAnswered T (pattern_side p values) r
  table_refused_lem e {r} gives =
      let g = err_from_is_err_and r gives in
      record { answer = rw (g.1, g.2) (sym (first e)) }

  pub side_ends : c ≡ (Ok tt) → {r : Result Unit SideRefusal} → RootAnswered T p.scope p.scoping p.root values r → SideAnswered T (pattern_side p values) r
  side_ends sound {r} i = record { answer = i.answer ∙ sym (first sound) }
