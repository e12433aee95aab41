-- The laws of adding a name.
use Prim.Native.Nat.{ℕ, zero, suc, ◌+◌, ◌-◌, ◌*◌, ◌/◌, ◌%◌, ◌≤◌, ◌<◌}
use mathlib.Core.Path.{◌≡◌, refl, sym, ap, ◌∙◌}
use mathlib.Core.Logic.{◌⊎◌, inl, inr}
use mathlib.Core.List.{List, [], ◌∷◌, ◌++◌}
use mathlib.Core.Bool.{Bool, true, false, cond, and-false, false≢true}
use native.Mathlib.Omega.{arith}
use borrow.Author.Tests.{eqb-true, eqb-false, eq-eqb, le-leb, leb-true, ltb-true}
use lib.Dec.{eqb, leb, ltb}
use lib.ListN.{length, get_or, get_or-append, take, drop, take-append-drop, length-drop, length-append}
use lib.Seq.{take-append-add, length-take-le, get_or-take, get_or-drop, get_or-append-add}
use Rattle.base.specs.Lists.{part}
use Rattle.base.specs.Refusal.{Refusal, over_limit, breaks_rules, Tested, passed, require_or, tested_or, Line, no_place}
use Rattle.base.specs.Refusal as Refusal
use Rattle.scope.specs.declared.Scope.{Scope}
use Rattle.scope.specs.Names.{is_name}
use Rattle.scope.specs.Scope.{new_scope}
use Rattle.table.specs.declared.TableRefusal.TheVariants.{OverLimit, BreaksRules, TooDeep, EqualNames}
use Rattle.table.specs.Tables.{Tables, name_bytes}
use Rattle.table.specs.Names.{same_bytes}
use Rattle.table.specs.Decode.{expr}
use Rattle.table.specs.Check.{checked}
use Rattle.table.proofs.tests.Bools.{and_true, never}
use Rattle.table.proofs.tests.Bytes.{same_bytes_equal, equal_same_bytes}
use Rattle.table.proofs.trees.Facts.{well_formed, sound_table}
use Rattle.table.proofs.trees.Facts as Facts
use Rattle.name_table.specs.Adding.{places, with_names, in_use, in_use_within_limits, has_names, checked_in_use, allowed, number_from, number_with_bytes, has_place, AddOutcome, refused, existing, added, at_end, add_outcome, names_after, used_after}
use Rattle.name_table.specs.declared.NameAnswer.{NameAnswer}
use Rattle.name_table.specs.declared.NameAnswer.TheVariants as Name
use Rattle.name_table.specs.declared.NameRefusal.{NameRefusal}
use Rattle.name_table.specs.declared.NameRefusal.TheVariants as No
use Rattle.std.proofs.Common.{Result, Ok, Err}
use Rattle.name_table.specs.Answer.{name_line, AddAnswerLaws}
use Rattle.name_table.specs.Laws.{Has, tables_then, used_then, NameLaws}
use Rattle.name_table.proofs.Cases.{table_check}
use Rattle.name_table.proofs.Kept.{bytes_kept, bytes_new, expr_kept}
use Rattle.name_table.proofs.Staying.{stays_checked}

-- the search for bytes
module _ (names text bytes : List ℕ) where
  number_none : (k x : ℕ) → 1 ≤ x → number_from names text bytes x k ≡ 0 → (j : ℕ) → j < k → same_bytes (name_bytes names text (x + j)) bytes ≡ false
  unfolding number_from
  number_none zero x low e j lt = absurd (omega arith)
  number_none (suc k) x low e j lt = go (same_bytes (name_bytes names text x) bytes) refl j lt (λ h i below. number_none k (x + 1) (omega arith) h i below)
    where
      go : (b : Bool) → same_bytes (name_bytes names text x) bytes ≡ b → (j : ℕ) → j < suc k
          → (number_from names text bytes (x + 1) k ≡ 0 → (i : ℕ) → i < k → same_bytes (name_bytes names text (x + 1 + i)) bytes ≡ false)
          → same_bytes (name_bytes names text (x + j)) bytes ≡ false
      go true p j lt rest = let z : x ≡ 0 = simp p at e in absurd (omega arith)
      go false p zero lt rest = let z : x + 0 ≡ x = omega arith in rw z p
      go false p (suc j) lt rest = let z : x + suc j ≡ x + 1 + j = omega arith in let h : number_from names text bytes (x + 1) k ≡ 0 = simp p at e in rw z (rest h j (omega arith))

  number_found : (k x y : ℕ) → 1 ≤ x → number_from names text bytes x k ≡ y → (y ≡ 0 → ⊥) → (x ≤ y) × (y < x + k) × (same_bytes (name_bytes names text y) bytes ≡ true)
  unfolding number_from
  number_found zero x y low e some = absurd (some (sym e))
  number_found (suc k) x y low e some = go (same_bytes (name_bytes names text x) bytes) refl (λ h. number_found k (x + 1) y (omega arith) h some)
    where
      go : (b : Bool) → same_bytes (name_bytes names text x) bytes ≡ b
          → (number_from names text bytes (x + 1) k ≡ y → (x + 1 ≤ y) × (y < x + 1 + k) × (same_bytes (name_bytes names text y) bytes ≡ true))
          → (x ≤ y) × (y < x + suc k) × (same_bytes (name_bytes names text y) bytes ≡ true)
      go true p rest = let z : x ≡ y = simp p at e in (omega arith, omega arith, rw z at p)
      go false p rest =
          let h : number_from names text bytes (x + 1) k ≡ y = simp p at e in
          let r = rest h in
          let a = r.0 in
          let b = r.1 in
          (omega arith, omega arith, r.2)

-- the check of the names in use passed
record InUse (T : Tables) (used : ℕ) : Type 0 where
  few : used ≤ 128
  even : length T.names % 2 ≡ 0
  enough : used ≤ length T.names / 2
  sound : checked (in_use T used) (new_scope 0 false) ≡ passed

in_use_lem : (T : Tables) (used : ℕ) → checked_in_use T used ≡ passed → InUse T used
unfolding checked_in_use
in_use_lem T used e = go (leb used 128) refl (in_use_within_limits T used) refl (has_names T.names used) refl
  where
    go : (a : Bool) → leb used 128 ≡ a → (b : Bool) → in_use_within_limits T used ≡ b → (d : Bool) → has_names T.names used ≡ d → InUse T used
    go true o true p true q =
        let h = and_true (eqb (length T.names % 2) 0) _ q in
        record { few = leb-true used 128 o; even = eqb-true _ 0 h.0; enough = leb-true used (length T.names / 2) h.1; sound = rw (p, q) at e }
    go true o true p false q = let h : Refusal.refused breaks_rules ≡ passed = rw (p, q) at e in never (cc)
    go true o false p d q = let h : Refusal.refused over_limit ≡ passed = rw p at e in never (cc)
    go false o b p d q = let h : Refusal.refused over_limit ≡ passed = simp (o, and-false) at e in never (cc)

-- what each outcome tells
record Adds (T : Tables) (used start size x : ℕ) : Type 0 where
  passes : checked_in_use T used ≡ passed
  good : allowed T.text start size ≡ true
  none : number_with_bytes T used start size ≡ 0
  place : has_place T.names used ≡ true
  is : used + 1 ≡ x

record Finds (T : Tables) (used start size x : ℕ) : Type 0 where
  passes : checked_in_use T used ≡ passed
  is : number_with_bytes T used start size ≡ x
  some : x ≡ 0 → ⊥

module _ (T : Tables) (used start size : ℕ) where
  abbrev Cases : AddOutcome → Type 0
  Cases (refused r) = Unit {0}
  Cases (existing x) = Finds T used start size x
  Cases (added x) = Adds T used start size x

  cases : Cases (add_outcome T used start size)
  unfolding add_outcome at_end
  cases = go (checked_in_use T used) refl (allowed T.text start size) refl (eqb (number_with_bytes T used start size) 0) refl (has_place T.names used) refl
    where
      go : (t : Tested) → checked_in_use T used ≡ t → (a : Bool) → allowed T.text start size ≡ a → (n : Bool) → eqb (number_with_bytes T used start size) 0 ≡ n
          → (h : Bool) → has_place T.names used ≡ h
          → Cases (tested_or refused t (require_or refused a breaks_rules (cond n (require_or refused h no_place (added (used + 1))) (existing (number_with_bytes T used start size)))))
      go (Refusal.refused r) p a q n u h v = tt
      go passed p false q n u h v = tt
      go passed p true q true u true v = record { passes = p; good = q; none = eqb-true _ 0 u; place = v; is = refl }
      go passed p true q true u false v = tt
      go passed p true q false u h v = record { passes = p; is = refl; some = eqb-false _ 0 u }

  finding : (x : ℕ) → add_outcome T used start size ≡ existing x → Finds T used start size x
  finding x e = rw e at cases

  adding : (x : ℕ) → add_outcome T used start size ≡ added x → Adds T used start size x
  adding x e = rw e at cases

  -- the names in use as a part of the table
  module _ (there : InUse T used) where
    long : length (take (used * 2) T.names) ≡ used * 2
    long = let h = there.enough in length-take-le (used * 2) T.names (omega arith)

    in_use_bytes : (x : ℕ) → x ≤ used → name_bytes T.names T.text x ≡ name_bytes (take (used * 2) T.names) T.text x
    in_use_bytes x le =
        rw (take-append-drop (used * 2) T.names) at (bytes_kept (take (used * 2) T.names) (drop (used * 2) T.names) used long T.text x le)

    then_in_use : take ((used + 1) * 2) (take (used * 2) T.names ++ (start ∷ (size ∷ drop (used * 2 + 2) T.names))) ≡ take (used * 2) T.names ++ (start ∷ (size ∷ []))
    then_in_use =
        let e : (used + 1) * 2 ≡ length (take (used * 2) T.names) + 2 = let l = long in omega arith in
        rw e (take-append-add (take (used * 2) T.names) (start ∷ (size ∷ drop (used * 2 + 2) T.names)) 2)

    then_checked : number_with_bytes T used start size ≡ 0 → allowed T.text start size ≡ true → used < 128
        → (s : Scope) → checked (in_use T used) s ≡ passed → checked (with_names T (take (used * 2) T.names ++ (start ∷ (size ∷ [])))) s ≡ passed
    then_checked none good few s ok =
        stays_checked (in_use T used) used start size s ok long few good
        (λ x lt.
        let e : 1 + x ≡ x + 1 = omega arith in
        let h : same_bytes (name_bytes T.names T.text (x + 1)) (part T.text start size) ≡ false =
        rw e at (number_none T.names T.text (part T.text start size) used 1 (omega arith) none x lt) in
        rw (in_use_bytes (x + 1) (omega arith)) at h)

    then_trees : (n : ℕ) → expr (with_names T (take (used * 2) T.names ++ (start ∷ (size ∷ [])))) n ≡ expr (in_use T used) n
    then_trees n =
        let p = Facts.passed (in_use T used) (new_scope 0 false) there.sound in
        expr_kept (in_use T used) (start ∷ (size ∷ [])) used long (well_formed (in_use T used) (new_scope 0 false) p.limits p.rules) n

  existing_has : (x : ℕ) → add_outcome T used start size ≡ existing x → Has T used start size x
  existing_has x e =
      let f = finding x e in
      let r = number_found T.names T.text (part T.text start size) used 1 x (omega arith) f.is f.some in
      let h = r.1 in
      record { low = r.0; high = omega arith; bytes = same_bytes_equal _ _ r.2 }

  added_has : (x : ℕ) → add_outcome T used start size ≡ added x → Has (tables_then T used start size) (used_then T used start size) start size x
  added_has x e =
      let a = adding x e in
      let u = in_use_lem T used a.passes in
      let i = a.is in
      rw e (record {
        low = omega arith;
        high = omega arith;
        bytes = rw i at (bytes_new (take (used * 2) T.names) (drop (used * 2 + 2) T.names) used start size (long u) T.text);
      })

  existing_is_name : (x : ℕ) → add_outcome T used start size ≡ existing x → is_name x ≡ true
  unfolding is_name
  existing_is_name x e =
      let h = existing_has x e in
      let low = h.low in
      let high = h.high in
      let few = (in_use_lem T used (finding x e).passes).few in
      simp (le-leb 1 x low, le-leb x 128 (omega arith))

  added_is_name : (x : ℕ) → add_outcome T used start size ≡ added x → is_name x ≡ true
  unfolding is_name
  added_is_name x e =
      let i = (adding x e).is in
      let few = ltb-true used 128 (and_true (ltb used (places T.names)) _ (adding x e).place).1 in
      simp (le-leb 1 x (omega arith), le-leb x 128 (omega arith))

  keeps : (x : ℕ) → x ≤ used → name_bytes (in_use (tables_then T used start size) (used_then T used start size)).names T.text x ≡ name_bytes (in_use T used).names T.text x
  keeps x le = go (add_outcome T used start size) refl
    where
      go : (o : AddOutcome) → add_outcome T used start size ≡ o
          → name_bytes (take (used_after o used * 2) (names_after o T.names used start size)) T.text x ≡ name_bytes (take (used * 2) T.names) T.text x
      go (refused r) e = refl
      go (existing y) e = refl
      go (added y) e =
          let u = in_use_lem T used (adding y e).passes in
          rw (← (adding y e).is, then_in_use u) (bytes_kept (take (used * 2) T.names) (start ∷ (size ∷ [])) used (long u) T.text x le)

  sound : (s : Scope) → checked (in_use T used) s ≡ passed → checked (in_use (tables_then T used start size) (used_then T used start size)) s ≡ passed
  sound s ok = go (add_outcome T used start size) refl
    where
      go : (o : AddOutcome) → add_outcome T used start size ≡ o → checked (in_use (with_names T (names_after o T.names used start size)) (used_after o used)) s ≡ passed
      go (refused r) e = ok
      go (existing y) e = ok
      go (added y) e =
          let a = adding y e in
          let u = in_use_lem T used a.passes in
          let few = ltb-true used 128 (and_true (ltb used (places T.names)) _ a.place).1 in
          rw (← a.is, then_in_use u) (then_checked u a.none a.good few s ok)

  trees : (n : ℕ) → expr (in_use (tables_then T used start size) (used_then T used start size)) n ≡ expr (in_use T used) n
  trees n = go (add_outcome T used start size) refl
    where
      go : (o : AddOutcome) → add_outcome T used start size ≡ o → expr (in_use (with_names T (names_after o T.names used start size)) (used_after o used)) n ≡ expr (in_use T used) n
      go (refused r) e = refl
      go (existing y) e = refl
      go (added y) e = let u = in_use_lem T used (adding y e).passes in rw (← (adding y e).is, then_in_use u) (then_trees u n)

  -- the words of the lent table
  words_then : checked_in_use T used ≡ passed → has_place T.names used ≡ true
      → length (take (used * 2) T.names ++ (start ∷ (size ∷ drop (used * 2 + 2) T.names))) ≡ length T.names
  words_then ok place =
      let free = ltb-true used (places T.names) (and_true (ltb used (places T.names)) _ place).0 in
      let l = long (in_use_lem T used ok) in
      let d = length-drop (used * 2 + 2) T.names in
      let n = length-append (take (used * 2) T.names) (start ∷ (size ∷ drop (used * 2 + 2) T.names)) in
      omega arith

  ready : checked_in_use T used ≡ passed → checked_in_use (tables_then T used start size) (used_then T used start size) ≡ passed
  ready ok = go (add_outcome T used start size) refl (sound (new_scope 0 false) (in_use_lem T used ok).sound)
    where
      go : (o : AddOutcome) → add_outcome T used start size ≡ o → checked (in_use (with_names T (names_after o T.names used start size)) (used_after o used)) (new_scope 0 false) ≡ passed
          → checked_in_use (with_names T (names_after o T.names used start size)) (used_after o used) ≡ passed
      go (refused r) e h = ok
      go (existing y) e h = ok
      go (added y) e h =
          let a = adding y e in
          let i = a.is in
          let free = ltb-true used (places T.names) (and_true (ltb used (places T.names)) _ a.place).0 in
          let even = (in_use_lem T used ok).even in
          let n = words_then ok a.place in
          let then : List ℕ = names_after (added y) T.names used start size in
          table_check (with_names T then) y (rw (eq-eqb (length then % 2) 0 (omega arith), le-leb y (length then / 2) (omega arith))) ∙ h

  length_stays : length (tables_then T used start size).names ≡ length T.names
  length_stays = go (add_outcome T used start size) refl
    where
      go : (o : AddOutcome) → add_outcome T used start size ≡ o → length (names_after o T.names used start size) ≡ length T.names
      go (refused r) e = refl
      go (existing y) e = refl
      go (added y) e = let a = adding y e in words_then a.passes a.place

  others_stay : (i : ℕ) → (i < used * 2) ⊎ (used * 2 + 2 ≤ i) → get_or (tables_then T used start size).names i 0 ≡ get_or T.names i 0
  others_stay i where-it-is = go (add_outcome T used start size) refl
    where
      in_added : checked_in_use T used ≡ passed → (i < used * 2) ⊎ (used * 2 + 2 ≤ i)
          → get_or (take (used * 2) T.names ++ (start ∷ (size ∷ drop (used * 2 + 2) T.names))) i 0 ≡ get_or T.names i 0
      in_added ok (inl lt) =
          let l = long (in_use_lem T used ok) in
          get_or-append (take (used * 2) T.names) (start ∷ (size ∷ drop (used * 2 + 2) T.names)) 0 i (omega arith) ∙ get_or-take (used * 2) T.names i 0 lt
      in_added ok (inr le) =
          let l = long (in_use_lem T used ok) in
          let e : i ≡ length (take (used * 2) T.names) + suc (suc (i - (used * 2 + 2))) = omega arith in
          let f : used * 2 + 2 + (i - (used * 2 + 2)) ≡ i = omega arith in
          ap (λ (k : ℕ). get_or (take (used * 2) T.names ++ (start ∷ (size ∷ drop (used * 2 + 2) T.names))) k 0) e
          ∙ (get_or-append-add (take (used * 2) T.names) (start ∷ (size ∷ drop (used * 2 + 2) T.names)) (suc (suc (i - (used * 2 + 2)))) 0
          ∙ (get_or-drop (used * 2 + 2) T.names (i - (used * 2 + 2)) 0 ∙ ap (λ (k : ℕ). get_or T.names k 0) f))

      go : (o : AddOutcome) → add_outcome T used start size ≡ o → get_or (names_after o T.names used start size) i 0 ≡ get_or T.names i 0
      go (refused r) e = refl
      go (existing y) e = refl
      go (added y) e = in_added (adding y e).passes where-it-is

  grows : used ≤ used_then T used start size
  grows = go (add_outcome T used start size) refl
    where
      go : (o : AddOutcome) → add_outcome T used start size ≡ o → used ≤ used_after o used
      go (refused r) e = omega arith
      go (existing y) e = omega arith
      go (added y) e = let i = (adding y e).is in omega arith

  none_has : number_with_bytes T used start size ≡ 0 → (x : ℕ) → Has T used start size x → ⊥
  none_has none x here =
      let low = here.low in
      let high = here.high in
      let e : 1 + (x - 1) ≡ x = omega arith in
      let differ : same_bytes (name_bytes T.names T.text x) (part T.text start size) ≡ false =
      rw e at (number_none T.names T.text (part T.text start size) used 1 (omega arith) none (x - 1) (omega arith)) in
      false≢true (sym differ ∙ equal_same_bytes _ _ here.bytes)

  -- names in use differ in their bytes
  one_has : checked_in_use T used ≡ passed → (x y : ℕ) → Has T used start size x → Has T used start size y → x ≡ y
  one_has ok x y a b =
      let u = in_use_lem T used ok in
      let l = long u in
      let low = a.low in
      let high = a.high in
      let low' = b.low in
      let high' = b.high in
      (sound_table (in_use T used) (new_scope 0 false) u.sound).differ x y (record { low = low; high = omega arith }) (record { low = low'; high = omega arith })
      (sym (in_use_bytes u x high) ∙ (a.bytes ∙ (sym b.bytes ∙ in_use_bytes u y high')))

  finds : checked_in_use T used ≡ passed → allowed T.text start size ≡ true → (x : ℕ) → Has T used start size x → add_outcome T used start size ≡ existing x
  unfolding add_outcome
  finds ok good x here = rw (ok, good) (go (eqb (number_with_bytes T used start size) 0) refl)
    where
      go : (b : Bool) → eqb (number_with_bytes T used start size) 0 ≡ b → cond b (at_end T.names used) (existing (number_with_bytes T used start size)) ≡ existing x
      go true p = absurd (none_has (eqb-true (number_with_bytes T used start size) 0 p) x here)
      go false p =
          let r = number_found T.names T.text (part T.text start size) used 1 (number_with_bytes T used start size) (omega arith) refl (eqb-false (number_with_bytes T used start size) 0 p) in
          let h = r.1 in
          ap existing (one_has ok (number_with_bytes T used start size) x (record { low = r.0; high = omega arith; bytes = same_bytes_equal _ _ r.2 }) here)

  adds : (x : ℕ) → add_outcome T used start size ≡ added x → (x ≡ used + 1) × ((y : ℕ) → Has T used start size y → ⊥)
  adds x e =
      let a = adding x e in (
        sym a.is,
        λ y here. none_has a.none y here,
      )

pub name_laws : (T : Tables) (used start size : ℕ) → NameLaws T used start size
name_laws T used start size = record {
  table_check_lem = table_check T used;
  existing_has_lem = existing_has T used start size;
  added_has_lem = added_has T used start size;
  existing_is_name_lem = existing_is_name T used start size;
  added_is_name_lem = added_is_name T used start size;
  finds = finds T used start size;
  adds = adds T used start size;
  again = λ x e. finds (tables_then T used start size) (used_then T used start size) start size (ready T used start size (adding T used start size x e).passes) (adding T used start size x e).good x (added_has T used start size x e);
  keeps = keeps T used start size;
  length_stays_lem = length_stays T used start size;
  others_stay_lem = others_stay T used start size;
  grows = grows T used start size;
  sound = sound T used start size;
  ready = ready T used start size;
  trees = trees T used start size;
}

-- an answer from its line
abbrev table_in : ℕ → NameRefusal
table_in number = No.TableRefused (cond (eqb number 1) OverLimit (cond (eqb number 2) BreaksRules (cond (eqb number 3) TooDeep EqualNames)))

abbrev answer_in : Line → Result NameAnswer NameRefusal
answer_in l = cond (eqb l.number 0) (Ok (cond (eqb l.third 0) (Name.Existing l.second) (Name.Added l.second))) (Err (cond (eqb l.number 33) No.NoPlace (table_in l.number)))

back : (r : Result NameAnswer NameRefusal) → answer_in (name_line r) ≡ r
back (Ok (Name.Existing x)) = refl
back (Ok (Name.Added x)) = refl
back (Err (No.TableRefused OverLimit)) = refl
back (Err (No.TableRefused BreaksRules)) = refl
back (Err (No.TableRefused TooDeep)) = refl
back (Err (No.TableRefused EqualNames)) = refl
back (Err No.NoPlace) = refl

pub answer_laws : AddAnswerLaws
answer_laws = record { settled = λ r q e. sym (back r) ∙ (ap answer_in e ∙ back q) }
