-- The verdict and the words together: the example that is given.
use Prim.Native.Nat.{ℕ, zero, suc, ◌+◌, ◌-◌, ◌*◌, ◌/◌, ◌≤◌, ◌<◌}
use mathlib.Core.Bool.{Bool, true, false, cond, ◌&&◌, false≢true}
use mathlib.Core.List.{List, [], ◌++◌}
use mathlib.Core.Option.{Option, none, some}
use mathlib.Core.Path.{◌≡◌, refl, ap, ap₂, sym, subst, ◌∙◌}
use native.Mathlib.Omega.{arith}
use borrow.Author.Tests.{leb-true}
use mir.Syntax.{w32}
use mir.Val.{Fits}
use lib.Dec.{leb}
use lib.ListN.{length, get_or, drop, replicate, length-replicate}
use lib.Seq.{sets, sets-eq}
use Rattle.literal.specs.Literal.{Literal}
use Rattle.table.specs.Tables.{Tables, node_count}
use Rattle.common_example.specs.declared.deciding.Verdict.{Verdict}
use Rattle.common_example.specs.declared.example.Example.{Example}
use Rattle.common_example.specs.declared.example.ExampleRefusal.TheVariants as No
use Rattle.std.proofs.Common.{Ok, Err, Some, None}
use Rattle.common_example.specs.Common.{Gives}
use Rattle.common_example.specs.Overlap.{Template, example, size, depthᵛ}
use Rattle.common_example.specs.Operations.{child_entries, node_words, child_words_lem, fits_in, example_of, example_answer, nodes_after, children_after, both, found}
use Rattle.common_example.specs.code.Graph.{head_at}
use Rattle.common_example.specs.code.Classes.{class_in}
use Rattle.common_example.specs.code.Sizes.{SettleAsks, Settled}
use Rattle.common_example.specs.code.Writing.{Copied, PlaceAsks, PlaceWritten, place_nodes, place_children}
use Rattle.common_example.specs.code.Deciding.{verdict, built_of, DecideAsks, Decided, DecidedIn}
use Rattle.common_example.specs.code.Example.{ExampleAsks, FoundAsks, FoundIs, ExampleIs}
use Rattle.common_example.proofs.unify.Depths.{built_fewer}
use Rattle.common_example.proofs.written.Sizes.{entries_size}
use Rattle.common_example.proofs.written.ReadBack.{words_length, entries_length}
use Rattle.common_example.proofs.written.Words.{stand}
use Rattle.common_example.proofs.loops.writing.WriteWords.{fit_one}

-- 1. zeros behind the words
abbrev zeros : ℕ → List ℕ
zeros n = replicate n 0

drop_zeros : (m n : ℕ) → drop m (zeros n) ≡ zeros (n - m)
drop_zeros zero n = let z : n ≡ n - 0 = omega arith in ap zeros z
drop_zeros (suc m) zero = let z : 0 ≡ 0 - suc m = omega arith in ap zeros z
drop_zeros (suc m) (suc n) = let z : n - m ≡ suc n - suc m = omega arith in drop_zeros m n ∙ ap zeros z

zeros_behind : (n k : ℕ) (ws : List ℕ) → length ws ≡ k → k ≤ n → sets (zeros n) 0 ws ≡ ws ++ zeros (n - k)
zeros_behind n k ws e h =
    let l : length (zeros n) ≡ n = length-replicate {A = ℕ} n 0 in
    let z : 0 + length ws ≡ k = omega (arith, e) in
    sets-eq ws (zeros n) 0 (omega (arith, e, l, h)) ∙ ap (λ (x : List ℕ). ws ++ x) (ap (λ (x : ℕ). drop x (zeros n)) z ∙ drop_zeros k n)

-- 2. what fits
all_of : (a b c d : Bool) → (a && (b && (c && d))) ≡ true → (a ≡ true) × (b ≡ true) × (c ≡ true) × (d ≡ true)
all_of true true true true e = (refl, refl, refl, refl)
all_of true true true false e = absurd (false≢true e)
all_of true true false d e = absurd (false≢true e)
all_of true false c d e = absurd (false≢true e)
all_of false b c d e = absurd (false≢true e)

record Fitting (t : Template ℕ) (out kids : List ℕ) : Type 0 where
  pub nodes : size (example t) ≤ length out / 5
  pub entries : child_entries (example t) ≤ length kids
  pub few : size (example t) ≤ 512
  pub shallow : depthᵛ (example t) ≤ 32

fitting : (t : Template ℕ) (out kids : List ℕ) → fits_in (example t) out kids ≡ true → Fitting t out kids
fitting t out kids e =
    let (a, b, c, d) = all_of (leb (size (example t)) (length out / 5)) (leb (child_entries (example t)) (length kids)) (leb (size (example t)) 512) (leb (depthᵛ (example t)) 32) e in
    record { nodes = leb-true _ _ a; entries = leb-true _ _ b; few = leb-true _ _ c; shallow = leb-true _ _ d }

fits_told : (o : Option (Template ℕ)) (out kids : List ℕ) → Verdict.Fits ≡ verdict o out kids → (t : Template ℕ) × (o ≡ some t) × (fits_in (example t) out kids ≡ true)
fits_told none out kids e = absurd (false≢true (cc))
fits_told (some t) out kids e = (t, refl, go (fits_in (example t) out kids) e)
  where
    go : (b : Bool) → Verdict.Fits ≡ cond b Verdict.Fits Verdict.TooLarge → b ≡ true
    go true e = refl
    go false e = absurd (false≢true (cc))

large_told : (t : Template ℕ) (out kids : List ℕ) → Verdict.TooLarge ≡ verdict (some t) out kids → fits_in (example t) out kids ≡ false
large_told t out kids e = go (fits_in (example t) out kids) e
  where
    go : (b : Bool) → Verdict.TooLarge ≡ cond b Verdict.Fits Verdict.TooLarge → b ≡ false
    go true e = absurd (false≢true (cc))
    go false e = refl

-- 3. the value
module _ {nodes heads links classes sizes : List ℕ} {p entries : ℕ} {out kids : List ℕ} (f : FoundAsks nodes heads links classes sizes p entries out kids) where
  pub found_place : PlaceAsks heads links classes sizes p 32 (length nodes / 5) entries 0 0 out kids
  found_place =
      let a = f.asks in
      let (t, e, b) = fits_told (built_of a.literal_of heads links classes 2048 p) out kids (f.fits.is a.literal_of out kids refl refl) in
      let g = fitting t out kids b in
      let s = stand a.tables a.literal_of heads links classes sizes a.linked a.ok a.copied 32 f.settled.sizes 32 p t (omega arith) a.inside (built_fewer (head_at a.literal_of heads links) (class_in classes) 2048 32 p t e g.shallow) g.few in
      let z = s.sized in
      let n = entries_size (example t) in
      let h₁ = g.nodes in
      let h₂ = g.entries in
      let h₃ = g.few in
      record {
        arrays = record { linked = a.linked; ok = a.ok; sizes_ok = f.settled.ok };
        inside = a.inside;
        fit = s.fit;
        space = record {
          nodes = omega (arith, z, h₃);
          children = omega (arith, z, h₃);
          before_nodes = a.few;
          before_entries = a.low;
          out_nodes = omega (arith, z, h₁);
          out_children = omega (arith, z, n, h₂);
        };
      }

  pub found_inside : p < 2052
  found_inside = f.asks.inside

  pub found_count : length nodes / 5 ≤ 512
  found_count = f.asks.few

  module _ {size' : ℕ} (is : size' ≡ get_or sizes p 0) where
    pub found_one : 1 ≤ size'
    found_one = let h = fit_one [] heads links classes sizes 32 p found_place.fit in omega (arith, h, is)

    pub found_node : Fits w32 (length nodes / 5 + size')
    found_node = let h = f.settled.ok.few p in let k = f.asks.few in record { fits = omega (arith, h, k, is) }

    pub found_written : {out' kids' : List ℕ} → PlaceWritten nodes heads links classes sizes p 32 (length nodes / 5) entries 0 0 out kids out' kids'
        → FoundIs nodes heads links classes p entries out kids out' kids' (record { node = length nodes / 5 + size'; nodes = size'; children = size' - 1 })
    found_written {out'} {kids'} w = record { is = λ T literal_of same copied t e small. go T literal_of same copied t e small }
      where
        go : (T : Tables) (literal_of : ℕ → Literal) → T.nodes ≡ nodes → Copied T literal_of heads links → (t : Template ℕ) → built_of literal_of heads links classes 32 p ≡ some t → size (example t) ≤ 512
            → (found (length nodes / 5 + size') size' (size' - 1) ≡ found (length nodes / 5 + size (example t)) (size (example t)) (size (example t) - 1))
            × (out' ≡ sets out 0 (node_words T (example t) entries)) × (kids' ≡ sets kids 0 (child_words_lem (example t) (length nodes / 5)))
        go T literal_of same copied t e small =
            let s = stand T literal_of heads links classes sizes f.asks.linked f.asks.ok copied 32 f.settled.sizes 32 p t (omega arith) f.asks.inside e small in
            let z : size' ≡ size (example t) = is ∙ s.sized in
            let q : entries + 0 ≡ entries = omega arith in
            let c : length nodes / 5 + 0 ≡ length nodes / 5 = omega arith in (
              ap (λ (x : ℕ). found (length nodes / 5 + x) x (x - 1)) z,
              w.nodes_are ∙ ap (sets out 0) (ap₂ (λ (l : List ℕ) (x : ℕ). place_nodes l heads links classes sizes 32 p x) (sym same) q ∙ s.nodes_are entries),
              w.children_are ∙ ap (sets kids 0) (ap (place_children heads links classes sizes 32 p) c ∙ s.children_are (length nodes / 5)),
            )

-- 4. the example
module _ {nodes heads links classes : List ℕ} {p entries : ℕ} (a : ExampleAsks nodes heads links classes p entries) where
  pub example_settles : SettleAsks heads links classes
  example_settles = record { linked = a.linked; ok = a.ok }

  pub example_decides : {sizes : List ℕ} → Settled heads links classes 32 sizes → DecideAsks heads links classes sizes p
  example_decides s = record { deep = record { linked = a.linked; ok = a.ok; inside = a.inside }; settled = s.sizes }

  pub example_fits : {sizes later out kids : List ℕ} {v : Verdict} → Settled heads links classes 32 sizes → DecidedIn heads links classes sizes p (length out) (length kids) later v → v ≡ Verdict.Fits
      → FoundAsks nodes heads links classes later p entries out kids
  example_fits {sizes} {later} {out} {kids} s d e = record { asks = a; settled = subst (Settled heads links classes 32) (sym (d.kept e)) s; fits = rw e at d.decided }

  module _ (out kids : List ℕ) {out₁ kids₁ : List ℕ} (n : out₁ ≡ zeros (length out)) (k : kids₁ ≡ zeros (length kids)) where
    out_long : length out ≡ length out₁
    out_long = let l : length (zeros (length out)) ≡ length out = length-replicate {A = ℕ} (length out) 0 in sym (ap (λ (x : List ℕ). length x) n ∙ l)

    kids_long : length kids ≡ length kids₁
    kids_long = let l : length (zeros (length kids)) ≡ length kids = length-replicate {A = ℕ} (length kids) 0 in sym (ap (λ (x : List ℕ). length x) k ∙ l)

    module _ {v : Verdict} (d : Decided heads links classes p (length out₁) (length kids₁) v) where
      pub example_found : v ≡ Verdict.Fits → {out₂ kids₂ : List ℕ} {r : Example} → FoundIs nodes heads links classes p entries out₁ kids₁ out₂ kids₂ r → ExampleIs nodes heads links classes p entries out kids out₂ kids₂ (Ok (Some r))
      unfolding example_answer nodes_after children_after
      example_found e {out₂} {kids₂} {r} w = record { is = λ T literal_of same len copied. go T literal_of same len copied }
        where
          given : (T : Tables) (t : Template ℕ) → T.nodes ≡ nodes → length T.children ≡ entries → fits_in (example t) out kids ≡ true
              → found r.node r.nodes r.children ≡ found (length nodes / 5 + size (example t)) (size (example t)) (size (example t) - 1) → out₂ ≡ sets out₁ 0 (node_words T (example t) entries) → kids₂ ≡ sets kids₁ 0 (child_words_lem (example t) (length nodes / 5))
              → Gives T (both (example t)) out kids out₂ kids₂ (Ok (Some r))
          given T t same len b x y z =
              let g = fitting t out kids b in
              let h₁ = g.nodes in
              let m = entries_size (example t) in
              let c : size (example t) - 1 ≡ child_entries (example t) = omega (arith, m) in
              record {
                answer = rw b (x ∙ ap₂ (λ (l : List ℕ) (u : ℕ). found (length l / 5 + size (example t)) (size (example t)) u) (sym same) c);
                nodes_are = rw b (y ∙ (ap₂ (λ (l : List ℕ) (u : ℕ). sets l 0 (node_words T (example t) u)) n (sym len) ∙ zeros_behind (length out) (size (example t) * 5) (node_words T (example t) (length T.children)) (words_length T (example t) (length T.children)) (omega (arith, h₁))));
                children_are = rw b (z ∙ (ap₂ (λ (l : List ℕ) (u : List ℕ). sets l 0 (child_words_lem (example t) (length u / 5))) k (sym same) ∙ zeros_behind (length kids) (child_entries (example t)) (child_words_lem (example t) (node_count T)) (entries_length (example t) (node_count T)) g.entries));
              }

          go : (T : Tables) (literal_of : ℕ → Literal) → T.nodes ≡ nodes → length T.children ≡ entries → Copied T literal_of heads links → Gives T (example_of (built_of literal_of heads links classes 2048 p)) out kids out₂ kids₂ (Ok (Some r))
          go T literal_of same len copied =
              let (t, o, b) = fits_told (built_of literal_of heads links classes 2048 p) out kids (sym e ∙ d.is literal_of out kids out_long kids_long) in
              let g = fitting t out kids b in
              let (x, y, z) = w.is T literal_of same copied t (built_fewer (head_at literal_of heads links) (class_in classes) 2048 32 p t o g.shallow) g.few in
              rw o (given T t same len b x y z)

      pub example_large : v ≡ Verdict.TooLarge → ExampleIs nodes heads links classes p entries out kids out₁ kids₁ (Err No.ValueTooLarge)
      unfolding example_answer nodes_after children_after
      example_large e = record { is = λ T literal_of same len copied. go T (built_of literal_of heads links classes 2048 p) (sym e ∙ d.is literal_of out kids out_long kids_long) }
        where
          go : (T : Tables) (o : Option (Template ℕ)) → Verdict.TooLarge ≡ verdict o out kids → Gives T (example_of o) out kids out₁ kids₁ (Err No.ValueTooLarge)
          go T none q = absurd (false≢true (cc))
          go T (some t) q = let b = large_told t out kids q in record { answer = rw b refl; nodes_are = rw b n; children_are = rw b k }

      pub example_none : v ≡ Verdict.NoValue → ExampleIs nodes heads links classes p entries out kids out₁ kids₁ (Ok None)
      unfolding example_answer nodes_after children_after
      example_none e = record { is = λ T literal_of same len copied. go T (built_of literal_of heads links classes 2048 p) (sym e ∙ d.is literal_of out kids out_long kids_long) }
        where
          differ : (b : Bool) → Verdict.NoValue ≡ cond b Verdict.Fits Verdict.TooLarge → ⊥
          differ true q = false≢true (cc)
          differ false q = false≢true (cc)

          go : (T : Tables) (o : Option (Template ℕ)) → Verdict.NoValue ≡ verdict o out kids → Gives T (example_of o) out kids out₁ kids₁ (Ok None)
          go T none q = record { answer = refl; nodes_are = n; children_are = k }
          go T (some t) q = absurd (differ (fits_in (example t) out kids) q)
