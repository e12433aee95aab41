-- Checks joined by a reading, one after the other.
use Prim.Native.Nat.{ℕ}
use mathlib.Core.Path.{◌≡◌, refl, sym, ap, ◌∙◌}
use mathlib.Core.Bool.{Bool, true, false, cond, false≢true}
use mathlib.Core.List.{List, [], ◌∷◌, ◌++◌}
use Rattle.checks.specs.declared.Reading.{Reading}
use Rattle.checks.specs.declared.Reading.TheVariants.{Present, Careful}
use Rattle.checks.specs.declared.LiteralStructureCheck.{LiteralStructureCheck}
use Rattle.checks.specs.declared.LiteralStructureCheck.TheVariants.{Match, Unknown, ArrayMismatch, ObjectMismatch}
use Rattle.checks.specs.Joining.{is_mismatch, and_then, in_turn, any_unknown, first_mismatch_or, joined}
use Rattle.checks.specs.declared.joining.FieldsSoFar.{FieldsSoFar}
use Rattle.checks.specs.code.Joins.{is_settled, end_after, FieldTaken}

-- two checks
abbrev pub two : Reading → LiteralStructureCheck → LiteralStructureCheck → LiteralStructureCheck
two r c d = joined r (c ∷ (d ∷ []))

pub join_one : (r : Reading) (c : LiteralStructureCheck) → joined r (c ∷ []) ≡ c
unfolding joined in_turn any_unknown first_mismatch_or
join_one Present Match = refl
join_one Present Unknown = refl
join_one Present (ArrayMismatch n a b) = refl
join_one Present (ObjectMismatch n m) = refl
join_one Careful Match = refl
join_one Careful Unknown = refl
join_one Careful (ArrayMismatch n a b) = refl
join_one Careful (ObjectMismatch n m) = refl

pub join_match : (r : Reading) (cs : List LiteralStructureCheck) → joined r (Match ∷ cs) ≡ joined r cs
unfolding joined in_turn any_unknown first_mismatch_or
join_match Present cs = refl
join_match Careful cs = refl

pub join_none : (r : Reading) → joined r [] ≡ Match
unfolding joined in_turn any_unknown first_mismatch_or
join_none Present = refl
join_none Careful = refl

-- a check that settles it
pub join_settled : (r : Reading) (c : LiteralStructureCheck) (cs : List LiteralStructureCheck) → is_settled r c ≡ true → joined r (c ∷ cs) ≡ c
unfolding joined in_turn any_unknown first_mismatch_or
join_settled Present Match cs s = absurd (false≢true s)
join_settled Present Unknown cs s = refl
join_settled Present (ArrayMismatch n a b) cs s = refl
join_settled Present (ObjectMismatch n m) cs s = refl
join_settled Careful Match cs s = absurd (false≢true s)
join_settled Careful Unknown cs s = absurd (false≢true s)
join_settled Careful (ArrayMismatch n a b) cs s = refl
join_settled Careful (ObjectMismatch n m) cs s = refl

-- checks with a mismatch come to it, whatever is said otherwise; others to what is said
data Ended (cs : List LiteralStructureCheck) : Type 0 where
  by_mismatch : (c : LiteralStructureCheck) → is_mismatch c ≡ true → ((d : LiteralStructureCheck) → first_mismatch_or cs d ≡ c) → Ended cs
  by_none : ((d : LiteralStructureCheck) → first_mismatch_or cs d ≡ d) → Ended cs

ended : (cs : List LiteralStructureCheck) → Ended cs
unfolding first_mismatch_or
ended [] = by_none (λ d. refl)
ended (Match ∷ cs) = go (ended cs)
  where
    go : Ended cs → Ended (Match ∷ cs)
    go (by_mismatch c m e) = by_mismatch c m e
    go (by_none e) = by_none e
ended (Unknown ∷ cs) = go (ended cs)
  where
    go : Ended cs → Ended (Unknown ∷ cs)
    go (by_mismatch c m e) = by_mismatch c m e
    go (by_none e) = by_none e
ended (ArrayMismatch n a b ∷ cs) = by_mismatch (ArrayMismatch n a b) refl (λ d. refl)
ended (ObjectMismatch n m ∷ cs) = by_mismatch (ObjectMismatch n m) refl (λ d. refl)

-- careful: a check after an unknown one
pub two_unknown : (d : LiteralStructureCheck) → two Careful Unknown d ≡ cond (is_mismatch d) d Unknown
unfolding joined any_unknown first_mismatch_or
two_unknown Match = refl
two_unknown Unknown = refl
two_unknown (ArrayMismatch n a b) = refl
two_unknown (ObjectMismatch n m) = refl

careful_unknown : (cs : List LiteralStructureCheck) → joined Careful (Unknown ∷ cs) ≡ two Careful Unknown (joined Careful cs)
unfolding joined any_unknown first_mismatch_or
careful_unknown cs = go (ended cs) (any_unknown cs) ∙ sym (two_unknown (joined Careful cs))
  where
    go : Ended cs → (b : Bool) → first_mismatch_or cs Unknown ≡ cond (is_mismatch (first_mismatch_or cs (cond b Unknown Match))) (first_mismatch_or cs (cond b Unknown Match)) Unknown
    go (by_mismatch c m e) b = let x = e (cond b Unknown Match) in let y = e Unknown in rw (x, y, m)
    go (by_none e) true = let y = e Unknown in rw y
    go (by_none e) false = let x = e Match in let y = e Unknown in rw (x, y)

pub two_match : (r : Reading) (d : LiteralStructureCheck) → two r Match d ≡ d
two_match r d = join_match r (d ∷ []) ∙ join_one r d

-- the first, then what the rest come to
pub join_first : (r : Reading) (c : LiteralStructureCheck) (cs : List LiteralStructureCheck) → joined r (c ∷ cs) ≡ two r c (joined r cs)
join_first r Match cs = join_match r cs ∙ sym (two_match r (joined r cs))
join_first Present Unknown cs = join_settled Present Unknown cs refl ∙ sym (join_settled Present Unknown _ refl)
join_first Careful Unknown cs = careful_unknown cs
join_first Present (ArrayMismatch n a b) cs = join_settled Present (ArrayMismatch n a b) cs refl ∙ sym (join_settled Present (ArrayMismatch n a b) _ refl)
join_first Careful (ArrayMismatch n a b) cs = join_settled Careful (ArrayMismatch n a b) cs refl ∙ sym (join_settled Careful (ArrayMismatch n a b) _ refl)
join_first Present (ObjectMismatch n m) cs = join_settled Present (ObjectMismatch n m) cs refl ∙ sym (join_settled Present (ObjectMismatch n m) _ refl)
join_first Careful (ObjectMismatch n m) cs = join_settled Careful (ObjectMismatch n m) cs refl ∙ sym (join_settled Careful (ObjectMismatch n m) _ refl)

-- the first two in one
two_twice : (c d : LiteralStructureCheck) → two Careful Unknown (two Careful c d) ≡ two Careful (two Careful Unknown c) d
unfolding joined any_unknown first_mismatch_or
two_twice Match Match = refl
two_twice Match Unknown = refl
two_twice Match (ArrayMismatch n a b) = refl
two_twice Match (ObjectMismatch n m) = refl
two_twice Unknown Match = refl
two_twice Unknown Unknown = refl
two_twice Unknown (ArrayMismatch n a b) = refl
two_twice Unknown (ObjectMismatch n m) = refl
two_twice (ArrayMismatch n a b) d = refl
two_twice (ObjectMismatch n m) d = refl

settles : (r : Reading) (c d : LiteralStructureCheck) (cs : List LiteralStructureCheck) → is_settled r c ≡ true → joined r (c ∷ (d ∷ cs)) ≡ joined r (two r c d ∷ cs)
settles r c d cs s = join_settled r c (d ∷ cs) s ∙ sym (ap (λ (e : LiteralStructureCheck). joined r (e ∷ cs)) (join_settled r c (d ∷ []) s) ∙ join_settled r c cs s)

pub join_two : (r : Reading) (c d : LiteralStructureCheck) (cs : List LiteralStructureCheck) → joined r (c ∷ (d ∷ cs)) ≡ joined r (two r c d ∷ cs)
join_two r Match d cs = join_match r (d ∷ cs) ∙ ap (λ (e : LiteralStructureCheck). joined r (e ∷ cs)) (sym (two_match r d))
join_two Present Unknown d cs = settles Present Unknown d cs refl
join_two Careful Unknown d cs =
    careful_unknown (d ∷ cs) ∙ (ap (two Careful Unknown) (join_first Careful d cs) ∙ (two_twice d (joined Careful cs) ∙ sym (join_first Careful (two Careful Unknown d) cs)))
join_two Present (ArrayMismatch n a b) d cs = settles Present (ArrayMismatch n a b) d cs refl
join_two Careful (ArrayMismatch n a b) d cs = settles Careful (ArrayMismatch n a b) d cs refl
join_two Present (ObjectMismatch n m) d cs = settles Present (ObjectMismatch n m) d cs refl
join_two Careful (ObjectMismatch n m) d cs = settles Careful (ObjectMismatch n m) d cs refl

-- careful: what follows counts by what it comes to
pub join_behind : (cs ds es : List LiteralStructureCheck) → joined Careful ds ≡ joined Careful es → joined Careful (cs ++ ds) ≡ joined Careful (cs ++ es)
join_behind [] ds es e = e
join_behind (c ∷ cs) ds es e = join_first Careful c (cs ++ ds) ∙ (ap (two Careful c) (join_behind cs ds es e) ∙ sym (join_first Careful c (cs ++ es)))

-- what stands last
pub join_last : (cs : List LiteralStructureCheck) (d : LiteralStructureCheck) → joined Careful (cs ++ (d ∷ [])) ≡ two Careful (joined Careful cs) d
join_last [] d = join_one Careful d ∙ sym (ap (λ (c : LiteralStructureCheck). two Careful c d) (join_none Careful) ∙ two_match Careful d)
join_last (c ∷ cs) d =
    join_first Careful c (cs ++ (d ∷ [])) ∙ (ap (two Careful c) (join_last cs d)
    ∙ (sym (join_first Careful c (joined Careful cs ∷ (d ∷ []))) ∙ (join_two Careful c (joined Careful cs) (d ∷ []) ∙ ap (λ (e : LiteralStructureCheck). two Careful e d) (sym (join_first Careful c cs)))))

-- an unknown check may stand last
swaps : (c d : LiteralStructureCheck) → two Careful Unknown (two Careful c d) ≡ two Careful c (two Careful Unknown d)
unfolding joined any_unknown first_mismatch_or
swaps Match Match = refl
swaps Match Unknown = refl
swaps Match (ArrayMismatch n a b) = refl
swaps Match (ObjectMismatch n m) = refl
swaps Unknown Match = refl
swaps Unknown Unknown = refl
swaps Unknown (ArrayMismatch n a b) = refl
swaps Unknown (ObjectMismatch n m) = refl
swaps (ArrayMismatch n a b) d = refl
swaps (ObjectMismatch n m) d = refl

pub unknown_last : (cs : List LiteralStructureCheck) (d : LiteralStructureCheck) → joined Careful (Unknown ∷ (cs ++ (d ∷ []))) ≡ joined Careful (cs ++ (two Careful Unknown d ∷ []))
unknown_last [] d = sym (join_one Careful (two Careful Unknown d))
unknown_last (c ∷ cs) d =
    careful_unknown (c ∷ (cs ++ (d ∷ []))) ∙ (ap (two Careful Unknown) (join_first Careful c (cs ++ (d ∷ [])))
    ∙ (swaps c (joined Careful (cs ++ (d ∷ []))) ∙ (ap (two Careful c) (sym (careful_unknown (cs ++ (d ∷ []))) ∙ unknown_last cs d) ∙ sym (join_first Careful c (cs ++ (two Careful Unknown d ∷ []))))))

-- a last part that is no mismatch
pub then_last : (c : LiteralStructureCheck) (b : Bool) → and_then c (cond b Match Unknown) ≡ two Careful c (cond b Match Unknown)
unfolding joined any_unknown first_mismatch_or
then_last Match true = refl
then_last Match false = refl
then_last Unknown true = refl
then_last Unknown false = refl
then_last (ArrayMismatch n a b) e = refl
then_last (ObjectMismatch n m) e = refl

-- the code's cases

module _ {r : Reading} (c : LiteralStructureCheck) where
  pub unknown_ends : r ≡ Present → Unknown ≡ two r Unknown c
  unknown_ends is = rw is (sym (join_settled Present Unknown (c ∷ []) refl))

  module _ (is : r ≡ Careful) {m : Bool} (of : m ≡ is_mismatch c) where
    pub unknown_mismatch : m ≡ true → c ≡ two r Unknown c
    unknown_mismatch t = let e = sym of ∙ t in rw is (sym (two_unknown c ∙ rw e))

    pub unknown_stays : m ≡ false → Unknown ≡ two r Unknown c
    unknown_stays f = let e = sym of ∙ f in rw is (sym (two_unknown c ∙ rw e))

array_settles : (r : Reading) (n a b : ℕ) → is_settled r (ArrayMismatch n a b) ≡ true
array_settles Present n a b = refl
array_settles Careful n a b = refl

object_settles : (r : Reading) (n m : ℕ) → is_settled r (ObjectMismatch n m) ≡ true
object_settles Present n m = refl
object_settles Careful n m = refl

module _ (r : Reading) (c : LiteralStructureCheck) {before : LiteralStructureCheck} where
  pub after_match : before ≡ Match → c ≡ two r before c
  after_match e = rw e (sym (two_match r c))

  pub after_unknown : before ≡ Unknown → {d : LiteralStructureCheck} → d ≡ two r Unknown c → d ≡ two r before c
  after_unknown e is = rw e is

  pub after_array : {n a b : ℕ} → before ≡ ArrayMismatch n a b → ArrayMismatch n a b ≡ two r before c
  after_array {n} {a} {b} e = rw e (sym (join_settled r (ArrayMismatch n a b) (c ∷ []) (array_settles r n a b)))

  pub after_object : {n m : ℕ} → before ≡ ObjectMismatch n m → ObjectMismatch n m ≡ two r before c
  after_object {n} {m} e = rw e (sym (join_settled r (ObjectMismatch n m) (c ∷ []) (object_settles r n m)))

module _ (reading : Reading) (place : ℕ) where
  pub end_present : reading ≡ Present → 0 ≡ end_after reading place
  end_present e = rw e

  pub end_careful : reading ≡ Careful → place ≡ end_after reading place
  end_careful e = rw e

module _ {reading : Reading} (before : FieldsSoFar) (place : ℕ) {c : LiteralStructureCheck} {settled : Bool} (is-settled : settled ≡ is_settled reading c) {r : FieldsSoFar} (is-check : r.check ≡ two reading c before.check) where
  pub taken_settled : settled ≡ true → r.end ≡ end_after reading place → FieldTaken reading before place c r
  taken_settled t e = let s = sym is-settled ∙ t in record { check_is = is-check; end_is = rw s e }

  pub taken_on : settled ≡ false → r.end ≡ before.end → FieldTaken reading before place c r
  taken_on f e = let s = sym is-settled ∙ f in record { check_is = is-check; end_is = rw s e }
