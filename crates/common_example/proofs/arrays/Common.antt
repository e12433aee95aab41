-- The steps of the common example: the checks of both sides, the arrays, and what is written.
use Prim.Native.Nat.{ℕ}
use mathlib.Core.Bool.{Bool, true, false, not, false≢true}
use mathlib.Core.List.{List}
use mathlib.Core.Path.{◌≡◌, refl, ap, sym, ◌∙◌}
use borrow.Author.Tests.{leb-true}
use lib.ListN.{length, replicate}
use Rattle.base.specs.Refusal.{Tested, tested_or}
use Rattle.base.specs.Refusal as Refusal
use Rattle.table.specs.Tables.{Tables, name_count}
use Rattle.table.specs.code.Sound.{Node, WellFormed}
use Rattle.table.proofs.trees.Facts.{sound_table}
use Rattle.planner.proofs.laws.Operations.{root_node}
use Rattle.run.specs.code.NamesPost.{ListAsks, StartOf}
use Rattle.std.proofs.Common.{Option, None, Result, Ok, Err}
use Rattle.std.specs.Result.{IsErrAnd}
use Rattle.std.proofs.lemmas.Result.{err_from_is_err_and}
use Rattle.common_example.specs.declared.example.Example.{Example}
use Rattle.common_example.specs.declared.example.ExampleRefusal.{ExampleRefusal}
use Rattle.common_example.specs.declared.example.ExampleRefusal.TheVariants.{SideRefused}
use Rattle.common_example.specs.declared.sides.SideRefusal.{SideRefusal}
use Rattle.common_example.specs.Answer.{side_tested}
use Rattle.common_example.specs.Operations.{PatternSide, side_checked, refused, example_from, example_outcome, turned_back_lem, example_answer, nodes_after, children_after}
use Rattle.common_example.specs.Common.{example_refused, Gives, example_tested, SideChecked}
use Rattle.common_example.specs.code.Sides.{SideAnswered}
use Rattle.common_example.specs.code.arrays.NodePlaces.{node_place}
use Rattle.common_example.specs.code.Writing.{Copied}
use Rattle.common_example.specs.code.Example.{ExampleAsks, ExampleIs}
use Rattle.common_example.specs.code.arrays.Unifying.{PatternsAsks, Unifies}
use Rattle.common_example.specs.code.Common.{SidesChecked, PassedAsks, GiveAsks, GivesHeld, WriteAsks, WritesJoined}
use Rattle.common_example.proofs.patterns.Outcome.{Passes, passes}
use Rattle.common_example.proofs.loops.graph.PlaceLaws.{start_holds}
use Rattle.common_example.proofs.arrays.HeldLaws.{start_few}
use Rattle.common_example.proofs.arrays.Parts.{literal_in}
use Rattle.common_example.proofs.arrays.Unifying.{graph_asks, graph_linked, graph_example}
use Rattle.common_example.proofs.arrays.Copies.{graph_copied}

-- 1. one side
module _ {T : Tables} {s : PatternSide} {a : Result Unit SideRefusal} (i : SideAnswered T s a) where
  pub side_turned : {x : SideRefusal} → a ≡ Err x → {r : Result Unit ExampleRefusal} → IsErrAnd r (λ y. y ≡ SideRefused x) → SideChecked T s r
  side_turned e {r} gives =
      let g = err_from_is_err_and r gives in
      record { answer = rw (g.1, g.2) (sym (ap side_tested e) ∙ i.answer) }

  pub side_passed : {u : Unit} → a ≡ Ok u → SideChecked T s (Ok tt)
  side_passed e = record { answer = sym (ap side_tested e) ∙ i.answer }

-- 2. both sides
module _ {T : Tables} {s₁ s₂ : PatternSide} {o : Result Unit ExampleRefusal} (i : SideChecked T s₁ o) where
  pub sides_first : {x : ExampleRefusal} → o ≡ Err x → {r : Result Unit ExampleRefusal} → IsErrAnd r (λ y. y ≡ x) → SidesChecked T s₁ s₂ r
  sides_first e {r} gives =
      let g = err_from_is_err_and r gives in
      let h = sym i.answer ∙ ap example_tested e in
      record { answer = rw (g.1, g.2, h) refl }

  pub sides_second : {u : Unit} → o ≡ Ok u → {r : Result Unit ExampleRefusal} → SideChecked T s₂ r → SidesChecked T s₁ s₂ r
  sides_second e j = let h = sym i.answer ∙ ap example_tested e in record { answer = rw h j.answer }

module _ {T : Tables} {s₁ s₂ : PatternSide} {c : Result Unit ExampleRefusal} (i : SidesChecked T s₁ s₂ c) where
  pub common_refused : {x : ExampleRefusal} → c ≡ Err x → {out kids out' kids' : List ℕ} → out' ≡ replicate (length out) 0 → kids' ≡ replicate (length kids) 0
      → Gives T (example_outcome T s₁ s₂) out kids out' kids' (Err x)
  unfolding example_outcome example_answer nodes_after children_after
  common_refused {x} e {out} {kids} {out'} {kids'} f g = go (side_checked T s₁) (side_checked T s₂) (sym (ap example_tested e) ∙ i.answer)
    where
      go : (t u : Tested) → Refusal.refused (example_refused x) ≡ tested_or Refusal.refused t u
          → Gives T (tested_or refused t (tested_or refused u (example_from T s₁ s₂))) out kids out' kids' (Err x)
      go Refusal.passed Refusal.passed q = absurd (false≢true (cc))
      go Refusal.passed (Refusal.refused r) q = let z : example_refused x ≡ r = cc in record { answer = ap turned_back_lem z; nodes_are = f; children_are = g }
      go (Refusal.refused r) u q = let z : example_refused x ≡ r = cc in record { answer = ap turned_back_lem z; nodes_are = f; children_are = g }

  pub passed_asks : {v : Unit} → c ≡ Ok v → PassedAsks T s₁ s₂
  passed_asks e = go (side_checked T s₁) refl (side_checked T s₂) refl (sym (ap example_tested e) ∙ i.answer)
    where
      go : (t : Tested) → side_checked T s₁ ≡ t → (u : Tested) → side_checked T s₂ ≡ u → Refusal.passed ≡ tested_or Refusal.refused (side_checked T s₁) (side_checked T s₂) → PassedAsks T s₁ s₂
      go Refusal.passed p Refusal.passed r q = record { first = p; second = r }
      go Refusal.passed p (Refusal.refused x) r q = let z : Refusal.passed ≡ Refusal.refused x = rw (p, r) at q in absurd (false≢true (cc))
      go (Refusal.refused x) p u r q = let z : Refusal.passed ≡ Refusal.refused x = rw p at q in absurd (false≢true (cc))

  pub common_passed : {v : Unit} → c ≡ Ok v → {out kids out' kids' : List ℕ} {r : Result (Option Example) ExampleRefusal}
      → Gives T (example_from T s₁ s₂) out kids out' kids' r → Gives T (example_outcome T s₁ s₂) out kids out' kids' r
  unfolding example_outcome
  common_passed e w = let a = passed_asks e in let f = a.first in let g = a.second in rw (f, g) w

-- 3. the values of known names
side_table : {T : Tables} {s : PatternSide} → Passes T s → WellFormed T
side_table {T} {s} p = (sound_table T s.scope p.table).well_formed_lem

side_list : {T : Tables} {s : PatternSide} → Passes T s → ListAsks T.names s.values
side_list {T} {s} p = record { few = (side_table p).limits.names; long = leb-true (name_count T) (length s.values) p.long }

side_root : {T : Tables} {s : PatternSide} → Passes T s → Node T s.pattern
side_root {T} {s} p = root_node T s.pattern (sym p.root) refl

module _ {T : Tables} {s₁ s₂ : PatternSide} (a : PassedAsks T s₁ s₂) where
  pub first_list : ListAsks T.names s₁.values
  first_list = side_list (passes T s₁ a.first)

  pub second_list : ListAsks T.names s₂.values
  second_list = side_list (passes T s₂ a.second)

  module _ {l₁ l₂ : List ℕ} (st₁ : StartOf (name_count T) s₁.scope s₁.scoping s₁.values l₁) (st₂ : StartOf (name_count T) s₂.scope s₂.scoping s₂.values l₂) where
    pub give_asks : GiveAsks T l₁ l₂ s₁.pattern s₂.pattern
    give_asks =
        let p = passes T s₁ a.first in
        let q = passes T s₂ a.second in
        let w = side_table p in
        record {
          scope = s₁.scope;
          sound = p.table;
          asks = record {
            asks = record { table = w; first = start_few T s₁ w p.values st₁; second = start_few T s₂ w q.values st₂ };
            first_side_lem = s₁;
            second_side = s₂;
            first_held = start_holds T s₁ st₁;
            second_held = start_holds T s₂ st₂;
            first_root = side_root p;
            second_root = side_root q;
          };
        }

    pub held_ends : {out kids out' kids' : List ℕ} {r : Result (Option Example) ExampleRefusal} → GivesHeld T l₁ l₂ s₁.pattern s₂.pattern out kids out' kids' r
        → Gives T (example_from T s₁ s₂) out kids out' kids' r
    held_ends g = g.is s₁ s₂ (start_holds T s₁ st₁) (start_holds T s₂ st₂)

-- 4. the roots
module _ {T : Tables} {held₁ held₂ : List ℕ} {root₁ root₂ : ℕ} (a : GiveAsks T held₁ held₂ root₁ root₂) {heads links classes : List ℕ} where
  module _ {u : Bool} (i : Unifies T held₁ held₂ root₁ root₂ heads links classes u) where
    abbrev p : PatternsAsks T held₁ held₂ root₁ root₂
    p = a.asks

    copied_here : Copied T (literal_in T) heads links
    copied_here = graph_copied T p.asks p.first_side_lem p.second_side p.first_held p.second_held p.first_root p.second_root i.graph a.scope a.sound

    pub write_asks : WriteAsks T held₁ root₁ heads links classes
    write_asks = record {
      table = p.asks.table;
      held_ok = p.asks.first;
      node = p.first_root;
      linked = graph_linked p.asks p.first_side_lem p.second_side p.first_held p.second_held p.first_root p.second_root i.graph;
      ok = i.roots.ok;
      inside = (graph_asks p.asks p.first_side_lem p.second_side p.first_held p.second_held p.first_root p.second_root i.graph).first;
      literal_of = literal_in T;
      copied = copied_here;
    }

  pub no_classes : {u : Bool} → Unifies T held₁ held₂ root₁ root₂ heads links classes u → not u ≡ true → {out kids out' kids' : List ℕ} → out' ≡ replicate (length out) 0 → kids' ≡ replicate (length kids) 0
      → GivesHeld T held₁ held₂ root₁ root₂ out kids out' kids' (Ok None)
  unfolding example_answer nodes_after children_after
  no_classes {u = true} i n f g = absurd (false≢true n)
  no_classes {u = false} i n f g = record {
    is = λ s₁ s₂ by₁ by₂.
        let e = graph_example a.asks.asks s₁ s₂ by₁ by₂ a.asks.first_root a.asks.second_root i.graph i.roots in
        rw (← e) (record { answer = refl; nodes_are = f; children_are = g });
  }

  pub joined_ends : {u : Bool} → Unifies T held₁ held₂ root₁ root₂ heads links classes u → not u ≡ false → {out kids out' kids' : List ℕ} {r : Result (Option Example) ExampleRefusal}
      → WritesJoined T held₁ root₁ heads links classes out kids out' kids' r → GivesHeld T held₁ held₂ root₁ root₂ out kids out' kids' r
  joined_ends {u = false} i n w = absurd (false≢true (sym n))
  joined_ends {u = true} i n w = record {
    is = λ s₁ s₂ by₁ by₂.
        let e = graph_example a.asks.asks s₁ s₂ by₁ by₂ a.asks.first_root a.asks.second_root i.graph i.roots in
        rw (← e) (w.is (literal_in T) (copied_here i));
  }

-- 5. writing
module _ {T : Tables} {held : List ℕ} {root : ℕ} {heads links classes : List ℕ} (a : WriteAsks T held root heads links classes) where
  module _ {place : ℕ} (x : place ≡ node_place T.nodes T.names T.text held root 0) where
    pub example_asks : ExampleAsks T.nodes heads links classes place (length T.children)
    example_asks = record {
      linked = a.linked;
      ok = a.ok;
      inside = rw x a.inside;
      few = a.table.limits.nodes;
      low = a.table.limits.children;
      tables = T;
      literal_of = a.literal_of;
      same = refl;
      copied = a.copied;
    }

    pub written_ends : {out kids out' kids' : List ℕ} {r : Result (Option Example) ExampleRefusal} → ExampleIs T.nodes heads links classes place (length T.children) out kids out' kids' r
        → WritesJoined T held root heads links classes out kids out' kids' r
    written_ends i = record { is = λ literal_of c. rw (← x) (i.is T literal_of refl refl c) }
