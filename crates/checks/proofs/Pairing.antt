-- The partners of a pattern's fields, as the careful reading meets them.
use Prim.Native.Nat.{ℕ, zero, suc, ◌+◌, ◌≤◌, ◌<◌}
use mathlib.Core.Path.{◌≡◌, refl, sym, ap, ◌∙◌}
use mathlib.Core.Bool.{Bool, true, false, cond, ◌&&◌, ◌||◌, not, false≢true}
use mathlib.Core.List.{List, [], ◌∷◌, ◌++◌, append_assoc}
use mathlib.Core.Option.{Option}
use native.Mathlib.Omega.{arith}
use lib.ListN.{length, get_or, take}
use Rattle.base.specs.Lists.{all_from}
use Rattle.literal.specs.Literal.{Literal}
use Rattle.table.specs.Expr.{Expr}
use Rattle.planner.specs.Layout.{Slot}
use Rattle.planner.specs.Held.{is_empty, held_under}
use Rattle.checks.specs.declared.Reading.{Reading}
use Rattle.checks.specs.declared.Reading.TheVariants.{Present, Careful}
use Rattle.checks.specs.declared.LiteralStructureCheck.{LiteralStructureCheck}
use Rattle.checks.specs.declared.LiteralStructureCheck.TheVariants.{Match, Unknown, ArrayMismatch, ObjectMismatch}
use Rattle.checks.specs.declared.joining.FieldsSoFar.{FieldsSoFar}
use Rattle.checks.specs.Joining.{and_then, in_turn, joined}
use Rattle.checks.specs.Structure.{ValueField, held, is_under, partner, written_checks, partners, or_unknown, ordered_checks, field_checks}
use Rattle.checks.specs.code.Joins.{is_settled, met, all_paired, each_paired, meets, finished, FieldTaken}
use Rattle.checks.specs.code.Post.{no_slot, PlaceIs}
use Rattle.checks.proofs.Joins.{two, two_match, two_unknown, join_match, join_one, join_first, join_settled, join_two, join_behind, join_last, unknown_last, then_last}

-- what is held under a value's key among the first k is at its place
held_at : (key : Option Literal) (ss : List (Slot Expr)) (k place : ℕ) → PlaceIs ss key place → place < k → place < length ss → held key (take k ss) ≡ Option.some (get_or ss place no_slot).held
unfolding held_under
held_at Option.none ss k place p lt in-ss = absurd (false≢true (p.here in-ss))
held_at (Option.some l) [] k place p lt in-ss = absurd (omega arith)
held_at (Option.some l) (s ∷ ss) zero place p lt in-ss = absurd (omega arith)
held_at (Option.some l) (s ∷ ss) (suc k) zero p lt in-ss = let e = p.here in-ss in rw e
held_at (Option.some l) (s ∷ ss) (suc k) (suc place) p lt in-ss =
    let e = p.others 0 (omega arith) (λ z. omega arith) in
    rw e (held_at (Option.some l) ss k place (record { here = λ h. p.here (omega arith); others = λ q h d. p.others (suc q) (omega arith) (λ z. d (omega arith)) }) (omega arith) (omega arith))

held_before : (key : Option Literal) (ss : List (Slot Expr)) (k place : ℕ) → PlaceIs ss key place → k ≤ place → held key (take k ss) ≡ Option.none
unfolding held_under
held_before Option.none ss k place p le = refl
held_before (Option.some l) [] zero place p le = refl
held_before (Option.some l) [] (suc k) place p le = refl
held_before (Option.some l) (s ∷ ss) zero place p le = refl
held_before (Option.some l) (s ∷ ss) (suc k) zero p le = absurd (omega arith)
held_before (Option.some l) (s ∷ ss) (suc k) (suc place) p le =
    let e = p.others 0 (omega arith) (λ z. omega arith) in
    rw e (held_before (Option.some l) ss k place (record { here = λ h. p.here (omega arith); others = λ q h d. p.others (suc q) (omega arith) (λ z. d (omega arith)) }) (omega arith))

-- present: nothing to hold the fields against
written_empty : (vs : List ValueField) (c : LiteralStructureCheck) → joined Present (written_checks [] vs ++ (c ∷ [])) ≡ c
unfolding written_checks held_under
written_empty [] c = join_one Present c
written_empty (v ∷ vs) c = ap (λ (d : LiteralStructureCheck). joined Present (d ∷ (written_checks [] vs ++ (c ∷ [])))) (none_held v.key) ∙ (join_match Present _ ∙ written_empty vs c)
  where
    none_held : (key : Option Literal) → partner (held key []) v.against ≡ Match
    none_held Option.none = refl
    none_held (Option.some l) = refl

module _ (v : ValueField) (vs : List ValueField) where
  -- a field under none of the keys changes nothing
  met_none : (ss : List (Slot Expr)) (k : ℕ) → ((q : ℕ) → q < length ss → q < k → is_under (get_or ss q no_slot).at v.key ≡ false) → met (take k ss) (v ∷ vs) ≡ met (take k ss) vs
  unfolding met partners
  met_none [] zero away = refl
  met_none [] (suc k) away = refl
  met_none (s ∷ ss) zero away = refl
  met_none (s ∷ ss) (suc k) away =
      let e = away 0 (omega arith) (omega arith) in
      rw (e, met_none ss k (λ q lt lt'. away (suc q) (omega arith) (omega arith)))

  -- one under the key at a place stands behind the partners of those before
  pub record MetAt (ss : List (Slot Expr)) (k place : ℕ) : Type 0 where
    pub rest : List LiteralStructureCheck
    pub with_it : met (take k ss) (v ∷ vs) ≡ met (take place ss) vs ++ (v.against (get_or ss place no_slot).held ∷ rest)
    pub without : met (take k ss) vs ≡ met (take place ss) vs ++ rest

  met_at : (ss : List (Slot Expr)) (k place : ℕ) → PlaceIs ss v.key place → place < k → place < length ss → MetAt ss k place
  unfolding met partners
  met_at [] k place p lt in-ss = absurd (omega arith)
  met_at (s ∷ ss) zero place p lt in-ss = absurd (omega arith)
  met_at (s ∷ ss) (suc k) zero p lt in-ss =
      let e = p.here in-ss in
      let away = met_none ss k (λ q h h'. p.others (suc q) (omega arith) (λ z. omega arith)) in
      record {
        rest = partners s vs ++ met (take k ss) vs;
        with_it = rw (e, away);
        without = refl;
      }
  met_at (s ∷ ss) (suc k) (suc place) p lt in-ss =
      let e = p.others 0 (omega arith) (λ z. omega arith) in
      let m = met_at ss k place (record { here = λ h. p.here (omega arith); others = λ q h d. p.others (suc q) (omega arith) (λ z. d (omega arith)) }) (omega arith) (omega arith) in
      record {
        rest = m.rest;
        with_it = rw e (ap (λ (cs : List LiteralStructureCheck). partners s vs ++ cs) m.with_it ∙ sym (append_assoc (partners s vs) (met (take place ss) vs) _));
        without = ap (λ (cs : List LiteralStructureCheck). partners s vs ++ cs) m.without ∙ sym (append_assoc (partners s vs) (met (take place ss) vs) m.rest);
      }

  module _ (ss : List (Slot Expr)) {place : ℕ} (p : PlaceIs ss v.key place) (before : FieldsSoFar) where
    careful_passed : before.end ≤ place → finished Careful ss vs before ≡ finished Careful ss (v ∷ vs) before
    unfolding meets
    careful_passed le = ap (λ (cs : List LiteralStructureCheck). joined Careful (cs ++ (before.check ∷ []))) (sym (met_none ss before.end (λ q lt lt'. p.others q lt (λ e. omega arith))))

    present_passed : before.end ≤ place → finished Present ss vs before ≡ finished Present ss (v ∷ vs) before
    unfolding meets written_checks
    present_passed le =
        sym (ap (λ (o : Option Expr). joined Present (partner o v.against ∷ (written_checks (take before.end ss) vs ++ (before.check ∷ [])))) (held_before v.key ss before.end place p le)
        ∙ join_match Present _)

    pub field_passed : (r : Reading) → before.end ≤ place → finished r ss vs before ≡ finished r ss (v ∷ vs) before
    field_passed Present le = present_passed le
    field_passed Careful le = careful_passed le

    module _ (lt : place < before.end) (in-ss : place < length ss) {c : LiteralStructureCheck} (is : c ≡ v.against (get_or ss place no_slot).held) {later : FieldsSoFar} where
      as_is : (r : Reading) {d : LiteralStructureCheck} {k : ℕ} → later.check ≡ d → later.end ≡ k → finished r ss vs later ≡ joined r (meets r (take k ss) vs ++ (d ∷ []))
      as_is r e f = rw (e, f)

      present_taken : FieldTaken Present before place c later → finished Present ss vs later ≡ finished Present ss (v ∷ vs) before
      unfolding meets written_checks
      present_taken taken = go c is taken.check_is taken.end_is
        where
          rest : List LiteralStructureCheck
          rest = written_checks (take before.end ss) vs ++ (before.check ∷ [])

          whole : (d : LiteralStructureCheck) → d ≡ v.against (get_or ss place no_slot).held → joined Present (d ∷ rest) ≡ finished Present ss (v ∷ vs) before
          whole d e = ap (λ (x : LiteralStructureCheck). joined Present (x ∷ rest)) e ∙ sym (ap (λ (o : Option Expr). joined Present (partner o v.against ∷ rest)) (held_at v.key ss before.end place p lt in-ss))

          ends : (d : LiteralStructureCheck) → d ≡ v.against (get_or ss place no_slot).held → is_settled Present d ≡ true → later.check ≡ two Present d before.check → later.end ≡ 0 → finished Present ss vs later ≡ finished Present ss (v ∷ vs) before
          ends d i s e f = as_is Present (e ∙ join_settled Present d (before.check ∷ []) s) f ∙ (written_empty vs d ∙ (sym (join_settled Present d rest s) ∙ whole d i))

          go : (d : LiteralStructureCheck) → d ≡ v.against (get_or ss place no_slot).held → later.check ≡ two Present d before.check → later.end ≡ cond (is_settled Present d) 0 before.end → finished Present ss vs later ≡ finished Present ss (v ∷ vs) before
          go Match i e f = as_is Present (e ∙ two_match Present before.check) f ∙ (sym (join_match Present rest) ∙ whole Match i)
          go Unknown i e f = ends Unknown i refl e f
          go (ArrayMismatch n a b) i e f = ends (ArrayMismatch n a b) i refl e f
          go (ObjectMismatch n k) i e f = ends (ObjectMismatch n k) i refl e f

      careful_taken : FieldTaken Careful before place c later → finished Careful ss vs later ≡ finished Careful ss (v ∷ vs) before
      unfolding meets
      careful_taken taken = go c is taken.check_is taken.end_is
        where
          m : MetAt ss before.end place
          m = met_at ss before.end place p lt in-ss

          front : List LiteralStructureCheck
          front = met (take place ss) vs

          whole : (d : LiteralStructureCheck) → d ≡ v.against (get_or ss place no_slot).held → joined Careful (front ++ (d ∷ (m.rest ++ (before.check ∷ [])))) ≡ finished Careful ss (v ∷ vs) before
          whole d e =
              sym (ap (λ (cs : List LiteralStructureCheck). joined Careful (cs ++ (before.check ∷ []))) (m.with_it ∙ ap (λ (x : LiteralStructureCheck). front ++ (x ∷ m.rest)) (sym e))
              ∙ ap (joined Careful) (append_assoc front (d ∷ m.rest) (before.check ∷ [])))

          after : (d : LiteralStructureCheck) → joined Careful (met (take before.end ss) vs ++ (d ∷ [])) ≡ joined Careful (front ++ (m.rest ++ (d ∷ [])))
          after d = ap (λ (cs : List LiteralStructureCheck). joined Careful (cs ++ (d ∷ []))) m.without ∙ ap (joined Careful) (append_assoc front m.rest (d ∷ []))

          behind : (ds es : List LiteralStructureCheck) → joined Careful ds ≡ joined Careful es → joined Careful (front ++ ds) ≡ joined Careful (front ++ es)
          behind ds es e = join_behind front ds es e

          ends : (d : LiteralStructureCheck) → d ≡ v.against (get_or ss place no_slot).held → is_settled Careful d ≡ true → later.check ≡ two Careful d before.check → later.end ≡ place → finished Careful ss vs later ≡ finished Careful ss (v ∷ vs) before
          ends d i s e f = as_is Careful (e ∙ join_settled Careful d (before.check ∷ []) s) f ∙ (behind (d ∷ []) (d ∷ (m.rest ++ (before.check ∷ []))) (join_one Careful d ∙ sym (join_settled Careful d _ s)) ∙ whole d i)

          go : (d : LiteralStructureCheck) → d ≡ v.against (get_or ss place no_slot).held → later.check ≡ two Careful d before.check → later.end ≡ cond (is_settled Careful d) place before.end → finished Careful ss vs later ≡ finished Careful ss (v ∷ vs) before
          go Match i e f = as_is Careful (e ∙ two_match Careful before.check) f ∙ (after before.check ∙ (behind (m.rest ++ (before.check ∷ [])) (Match ∷ (m.rest ++ (before.check ∷ []))) (sym (join_match Careful _)) ∙ whole Match i))
          go Unknown i e f =
              as_is Careful e f ∙ (after (two Careful Unknown before.check)
              ∙ (behind (m.rest ++ (two Careful Unknown before.check ∷ [])) (Unknown ∷ (m.rest ++ (before.check ∷ []))) (sym (unknown_last m.rest before.check)) ∙ whole Unknown i))
          go (ArrayMismatch n a b) i e f = ends (ArrayMismatch n a b) i refl e f
          go (ObjectMismatch n k) i e f = ends (ObjectMismatch n k) i refl e f

      pub field_taken : (r : Reading) → FieldTaken r before place c later → finished r ss vs later ≡ finished r ss (v ∷ vs) before
      field_taken Present taken = present_taken taken
      field_taken Careful taken = careful_taken taken

-- where nothing is left
pub finished_none : (r : Reading) (ss : List (Slot Expr)) (so_far : FieldsSoFar) → finished r ss [] so_far ≡ so_far.check
unfolding meets written_checks met partners
finished_none Present ss so_far = join_one Present so_far.check
finished_none Careful ss so_far = ap (λ (cs : List LiteralStructureCheck). joined Careful (cs ++ (so_far.check ∷ []))) (nothing (take so_far.end ss)) ∙ join_one Careful so_far.check
  where
    nothing : (ts : List (Slot Expr)) → met ts [] ≡ []
    nothing [] = refl
    nothing (t ∷ ts) = nothing ts

-- where no place counts
pub finished_ended : (r : Reading) (ss : List (Slot Expr)) (vs : List ValueField) {so_far : FieldsSoFar} → so_far.end ≡ 0 → finished r ss vs so_far ≡ so_far.check
unfolding meets met
finished_ended Present ss vs {so_far} e = rw e (written_empty vs so_far.check)
finished_ended Careful ss vs {so_far} e = rw e (join_one Careful so_far.check)

-- a slot without a partner is unknown
abbrev alone : Bool → LiteralStructureCheck
alone paired = cond paired Match Unknown

ordered_met : (ss : List (Slot Expr)) (vs : List ValueField) → joined Careful (ordered_checks ss vs) ≡ joined Careful (met ss vs ++ (alone (all_paired ss vs) ∷ []))
unfolding ordered_checks met all_paired
ordered_met [] vs = sym (join_match Careful [])
ordered_met (s ∷ ss) vs = go (partners s vs) (ordered_met ss vs)
  where
    unknowns : (b : Bool) → two Careful Unknown (alone b) ≡ Unknown
    unknowns true = two_unknown Match
    unknowns false = two_unknown Unknown

    go : (cs : List LiteralStructureCheck) → joined Careful (ordered_checks ss vs) ≡ joined Careful (met ss vs ++ (alone (all_paired ss vs) ∷ []))
        → joined Careful (or_unknown cs ++ ordered_checks ss vs) ≡ joined Careful ((cs ++ met ss vs) ++ (alone (not (is_empty cs) && all_paired ss vs) ∷ []))
    go [] h =
        join_behind (Unknown ∷ []) (ordered_checks ss vs) (met ss vs ++ (alone (all_paired ss vs) ∷ [])) h
        ∙ (unknown_last (met ss vs) (alone (all_paired ss vs)) ∙ ap (λ (c : LiteralStructureCheck). joined Careful (met ss vs ++ (c ∷ []))) (unknowns (all_paired ss vs)))
    go (c ∷ cs) h =
        join_behind (c ∷ cs) (ordered_checks ss vs) (met ss vs ++ (alone (all_paired ss vs) ∷ [])) h
        ∙ ap (joined Careful) (sym (append_assoc (c ∷ cs) (met ss vs) (alone (all_paired ss vs) ∷ [])))

-- and so is a computed field
ordered_finished : (ss : List (Slot Expr)) (vs : List ValueField) (some none : Bool) → some ≡ not none
    → and_then (joined Careful (ordered_checks ss vs)) (cond none Match Unknown) ≡ joined Careful (met ss vs ++ (cond some Unknown (alone (all_paired ss vs)) ∷ []))
ordered_finished ss vs some none is =
    then_last (joined Careful (ordered_checks ss vs)) none
    ∙ (ap (λ (c : LiteralStructureCheck). two Careful c (cond none Match Unknown)) (ordered_met ss vs ∙ join_last (met ss vs) (alone (all_paired ss vs)))
    ∙ (assoc ∙ (ap (two Careful (joined Careful (met ss vs))) (rw is (both none (all_paired ss vs))) ∙ sym (join_last (met ss vs) (cond some Unknown (alone (all_paired ss vs)))))))
  where
    both : (n p : Bool) → two Careful (alone p) (cond n Match Unknown) ≡ cond (not n) Unknown (alone p)
    both true true = two_match Careful Match
    both true false = two_unknown Match
    both false true = two_match Careful Unknown
    both false false = two_unknown Unknown

    assoc : two Careful (two Careful (joined Careful (met ss vs)) (alone (all_paired ss vs))) (cond none Match Unknown) ≡ two Careful (joined Careful (met ss vs)) (two Careful (alone (all_paired ss vs)) (cond none Match Unknown))
    assoc = sym (join_two Careful (joined Careful (met ss vs)) (alone (all_paired ss vs)) (cond none Match Unknown ∷ [])) ∙ join_first Careful (joined Careful (met ss vs)) (alone (all_paired ss vs) ∷ (cond none Match Unknown ∷ []))

written_last : (ss : List (Slot Expr)) (vs : List ValueField) (d : LiteralStructureCheck) → and_then (joined Present (written_checks ss vs)) d ≡ joined Present (written_checks ss vs ++ (d ∷ []))
unfolding joined in_turn
written_last ss vs d = go (written_checks ss vs)
  where
    last : (d : LiteralStructureCheck) → d ≡ and_then d Match
    last Match = refl
    last Unknown = refl
    last (ArrayMismatch n a b) = refl
    last (ObjectMismatch n m) = refl

    step : (c x y : LiteralStructureCheck) → and_then x d ≡ y → and_then (and_then c x) d ≡ and_then c y
    step Match x y e = e
    step Unknown x y e = refl
    step (ArrayMismatch n a b) x y e = refl
    step (ObjectMismatch n m) x y e = refl

    go : (cs : List LiteralStructureCheck) → and_then (in_turn cs) d ≡ in_turn (cs ++ (d ∷ []))
    go [] = last d
    go (c ∷ cs) = step c (in_turn cs) (in_turn (cs ++ (d ∷ []))) (go cs)

-- all fields, then whether there are computed ones
pub fields_finished : (r : Reading) (ss : List (Slot Expr)) (vs : List ValueField) (some none paired : Bool) → some ≡ not none → paired ≡ each_paired r ss vs
    → and_then (joined r (field_checks r ss vs)) (cond none Match Unknown) ≡ joined r (meets r ss vs ++ (cond some Unknown (alone paired) ∷ []))
unfolding field_checks meets
fields_finished Present ss vs some none paired is p = rw (is, p) (written_last ss vs (cond none Match Unknown) ∙ ap (λ (c : LiteralStructureCheck). joined Present (written_checks ss vs ++ (c ∷ []))) (turned none))
  where
    turned : (b : Bool) → cond b Match Unknown ≡ cond (not b) Unknown Match
    turned true = refl
    turned false = refl
fields_finished Careful ss vs some none paired is p = rw p (ordered_finished ss vs some none is)

-- marks
pub has_more : (s : Slot Expr) (v : ValueField) (vs : List ValueField) → not (is_empty (partners s (v ∷ vs))) ≡ (is_under s.at v.key || not (is_empty (partners s vs)))
unfolding partners
has_more s v vs = go (is_under s.at v.key)
  where
    go : (b : Bool) → not (is_empty (cond b (v.against s.held ∷ partners s vs) (partners s vs))) ≡ (b || not (is_empty (partners s vs)))
    go true = refl
    go false = refl

pub all_paired_lem : (ss : List (Slot Expr)) (vs : List ValueField) (marked : ℕ → Bool) → ((q : ℕ) → q < length ss → marked q ≡ not (is_empty (partners (get_or ss q no_slot) vs))) → all_from marked 0 (length ss) ≡ all_paired ss vs
unfolding all_from all_paired
all_paired_lem ss vs marked each = from ss 0 (λ q lt. let z : 0 + q ≡ q = omega arith in rw z (each q lt))
  where
    from : (ts : List (Slot Expr)) (i : ℕ) → ((q : ℕ) → q < length ts → marked (i + q) ≡ not (is_empty (partners (get_or ts q no_slot) vs))) → all_from marked i (length ts) ≡ all_paired ts vs
    from [] i h = refl
    from (t ∷ ts) i h =
        let z : i + 0 ≡ i = omega arith in
        let e = rw z at (h 0 (omega arith)) in
        rw (e, from ts (i + 1) (λ q lt. let s : i + 1 + q ≡ i + suc q = omega arith in rw s (h (suc q) (omega arith))))
