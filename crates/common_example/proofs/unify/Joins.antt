-- What joining joins further are places of the two heads, and each join takes a class's name away.
use Prim.Native.Nat.{◌+◌, ◌≤◌}
use mathlib.Core.Bool.{Bool, true, false}
use mathlib.Core.List.{List, [], ◌∷◌}
use mathlib.Core.Option.{Option, none, some}
use mathlib.Core.Path.{◌≡◌, ap, sym, ◌∙◌}
use Rattle.planner.specs.Simple.{same_key}
use Rattle.common_example.specs.Unify.{count_where, Keyed, no_key, keyed_by, Head, free, leaf, items, keyed, Pairs, add_pair, when, meet_items, meet_fields, meet, into}
use Rattle.common_example.proofs.unify.Closing.{Tells, Named, into_cases, into_there}
use Rattle.common_example.proofs.unify.Counting.{Among, count_less, AllAmong, FieldsAmong, HeadAmong, PairsAmong}

-- what joining joins further are places of the two heads
module _ {P : Type 0} (all : List P) where
  abbrev pub Within : Option (Pairs P) → Type 0
  Within none = Unit {0}
  Within (some w) = PairsAmong all w

  pair_within : (a b : P) (o : Option (Pairs P)) → Among a all → Among b all → Within o → Within (add_pair a b o)
  pair_within a b none p q r = tt
  pair_within a b (some w) p q r = (p, q, r)

  when_within : (b : Bool) (o : Option (Pairs P)) → Within o → Within (when b o)
  when_within true o r = r
  when_within false o r = tt

  items_within : (ps qs : List P) (w : Pairs P) → AllAmong all ps → AllAmong all qs → PairsAmong all w → Within (meet_items ps qs w)
  unfolding meet_items
  items_within [] [] w a b r = r
  items_within [] (q ∷ qs) w a b r = tt
  items_within (p ∷ ps) [] w a b r = tt
  items_within (p ∷ ps) (q ∷ qs) w a b r = pair_within p q (meet_items ps qs w) a.0 b.0 (items_within ps qs w a.1 b.1 r)

  fields_within : (fs gs : Keyed P) (w : Pairs P) → FieldsAmong all fs → FieldsAmong all gs → PairsAmong all w → Within (meet_fields fs gs w)
  unfolding meet_fields
  fields_within no_key no_key w a b r = r
  fields_within no_key (keyed_by l q gs) w a b r = tt
  fields_within (keyed_by k p fs) no_key w a b r = tt
  fields_within (keyed_by k p fs) (keyed_by l q gs) w a b r = when_within (same_key k l) (add_pair p q (meet_fields fs gs w)) (pair_within p q (meet_fields fs gs w) a.0 b.0 (fields_within fs gs w a.1 b.1 r))

  pub meet_within : (h k : Head P) (w : Pairs P) → HeadAmong all h → HeadAmong all k → PairsAmong all w → Within (meet h k w)
  unfolding meet
  meet_within free k w a b r = r
  meet_within (leaf l) free w a b r = r
  meet_within (leaf l) (leaf m) w a b r = when_within (same_key l m) (some w) r
  meet_within (leaf l) (items qs) w a b r = tt
  meet_within (leaf l) (keyed gs) w a b r = tt
  meet_within (items ps) free w a b r = r
  meet_within (items ps) (leaf m) w a b r = tt
  meet_within (items ps) (items qs) w a b r = items_within ps qs w a b r
  meet_within (items ps) (keyed gs) w a b r = tt
  meet_within (keyed fs) free w a b r = r
  meet_within (keyed fs) (leaf m) w a b r = tt
  meet_within (keyed fs) (items qs) w a b r = tt
  meet_within (keyed fs) (keyed gs) w a b r = fields_within fs gs w a b r

module _ {P : Type 0} (sameP : P → P → Bool) (tells : Tells sameP) (g : P → Head P) (all : List P) where
  -- the places that name a class
  abbrev pub names : (P → P) → P → Bool
  names c p = sameP (c p) p

  abbrev pub Inside : (P → P) → Type 0
  Inside c = (p : P) → Among p all → Among (c p) all

  module _ (a b : P) (c : P → P) (named : Named c) (ca : c a ≡ a) (cb : c b ≡ b) (differ : a ≡ b → ⊥) (in-a : Among a all) (in_b : Among b all) where
    pub fewer : count_where (names (into sameP g a b c)) all + 1 ≤ count_where (names c) all
    fewer = count_less (names (into sameP g a b c)) (names c) all b
        (λ p t. into_cases sameP tells g a b c p
        (λ q e. let r : a ≡ p = sym e ∙ tells.equal (into sameP g a b c p) p t in absurd (differ (sym ca ∙ (ap c r ∙ q))))
        (λ n e. rw e at t))
        in_b (rw cb (tells.same b)) (λ t. differ (sym (into_there sameP tells g a b c b cb) ∙ tells.equal (into sameP g a b c b) b t))

    pub into_inside : Inside c → Inside (into sameP g a b c)
    into_inside f p i = into_cases sameP tells g a b c p (λ q e. rw e in-a) (λ n e. rw e (f p i))
