-- Unification of two places: the template has each solution as an instance, and there is none only if there is no solution.
use Prim.Native.Nat.{ℕ, suc, ◌≤◌}
use mathlib.Core.Bool.{Bool, false≢true}
use mathlib.Core.List.{List}
use mathlib.Core.Option.{none, some}
use mathlib.Core.Path.{◌≡◌, refl, ap}
use lib.ListN.{length}
use Rattle.common_example.specs.Overlap.{Template}
use Rattle.common_example.specs.Unify.{Head, Closing, closed, conflict, unfinished, join_pair, close, build, unified_by, unified}
use Rattle.value.proofs.Equal.{Meaning}
use Rattle.common_example.proofs.unify.Heads.{HeadOk, KeysAscend, ascend_differ}
use Rattle.common_example.proofs.unify.Closing.{Tells}
use Rattle.common_example.proofs.unify.Counting.{Among, HeadAmong, count_most}
use Rattle.common_example.proofs.unify.Rounds.{Good, single, start_step, Closed, closed_from, ends_from, Kept, join_kept, kept_from}
use Rattle.common_example.proofs.unify.Building.{meaningᵗ, build_means, has_template}

-- what is asked of a graph: its objects' keys ascend, and all its places are among finitely many
pub record Bounded {P : Type 0} (g : P → Head P) (all : List P) : Type 0 where
  pub ascend : (p : P) → KeysAscend (g p)
  pub inside : (p : P) → HeadAmong all (g p)

-- a template is built of some classes
pub classes_of_lem : {P : Type 0} (sameP : P → P → Bool) (g : P → Head P) (all : List P) (n : ℕ) (a b : P) (t : Template P) → unified sameP g all n a b ≡ some t → (c : P → P) × (build g c n a ≡ some t)
unfolding unified
classes_of_lem {P} sameP g all n a b t e = go (close sameP g all (suc n) (join_pair sameP g a b (λ p. p))) e
  where
    go : (c : Closing P) → unified_by sameP g n a c ≡ some t → (d : P → P) × (build g d n a ≡ some t)
    go (closed d) r = (d, r)
    go conflict r = absurd (false≢true (cc))
    go unfinished r = absurd (false≢true (cc))

module _ {P : Type 0} (sameP : P → P → Bool) (tells : Tells sameP) (g : P → Head P) (all : List P) (bounded : Bounded g all) (n : ℕ) (a b : P) (in-a : Among a all) (in_b : Among b all) where
  abbrev start : P → P
  start = join_pair sameP g a b (λ p. p)

  good : Good sameP tells g all start
  good = (start_step sameP tells g all a b in-a in_b).0.good

  -- the classes that a template was built of
  pub record Built (t : Template P) : Type 0 where
    pub classes : P → P
    pub is_closed : Closed sameP tells g all bounded.inside start classes
    pub joins : classes a ≡ classes b
    pub is_built : build g classes n a ≡ some t

  pub built_of : (t : Template P) → unified sameP g all n a b ≡ some t → Built t
  unfolding unified
  built_of t e = go (close sameP g all (suc n) start) refl e
    where
      go : (c : Closing P) → close sameP g all (suc n) start ≡ c → unified_by sameP g n a c ≡ some t → Built t
      go (closed d) q r =
          let k = closed_from sameP tells g all bounded.inside (suc n) start d good q in
          record { classes = d; is_closed = k; joins = k.coarser a b (start_step sameP tells g all a b in-a in_b).1; is_built = r }
      go conflict q r = absurd (false≢true (cc))
      go unfinished q r = absurd (false≢true (cc))

  module _ (μ : P → Meaning) (solves : (p : P) → HeadOk μ (g p) (μ p)) (ends : μ a ≡ μ b) where
    kept : Kept sameP tells g all bounded.inside μ bounded.ascend solves (close sameP g all (suc n) start)
    kept = kept_from sameP tells g all bounded.inside μ bounded.ascend solves (suc n) start good (join_kept sameP tells g all bounded.inside μ bounded.ascend solves a b (λ p. p) (single sameP tells g all) (λ i j e. ap μ e) ends)

    -- every solution is an instance
    pub instance_of : (t : Template P) → unified sameP g all n a b ≡ some t → meaningᵗ μ t ≡ μ a
    unfolding unified
    instance_of t e = go (close sameP g all (suc n) start) refl e
      where
        go : (c : Closing P) → close sameP g all (suc n) start ≡ c → unified_by sameP g n a c ≡ some t → meaningᵗ μ t ≡ μ a
        go (closed d) q r = build_means g d μ (closed_from sameP tells g all bounded.inside (suc n) start d good q).named (kept.finer d q) solves n a t r
        go conflict q r = absurd (false≢true (cc))
        go unfinished q r = absurd (false≢true (cc))

    -- and where there is a solution there is a template
    pub not_none : length all ≤ n → unified sameP g all n a b ≡ none → ⊥
    unfolding unified
    not_none h e = go (close sameP g all (suc n) start) refl e
      where
        go : (c : Closing P) → close sameP g all (suc n) start ≡ c → unified_by sameP g n a c ≡ none → ⊥
        go (closed d) q r = has_template g d μ (closed_from sameP tells g all bounded.inside (suc n) start d good q).named (kept.finer d q) solves (λ p. ascend_differ (g p) (bounded.ascend p)) all bounded.inside n h a in-a r
        go conflict q r = kept.possible q
        go unfinished q r = ends_from sameP tells g all bounded.inside n (length all) h start good (count_most (λ p. sameP (start p) p) all) q
