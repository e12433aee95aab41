-- Places under other names, as numbers: unification comes to the same example.
use Prim.Native.Nat.{ℕ, zero, suc, ◌+◌}
use mathlib.Core.Bool.{Bool, true, false}
use mathlib.Core.List.{List, [], ◌∷◌, map}
use mathlib.Core.Option.{Option, none, some}
use mathlib.Core.Path.{◌≡◌, refl, ap, ap₂, ◌∙◌}
use lib.Dec.{eqb}
use Rattle.literal.specs.Literal.{null}
use Rattle.planner.specs.Simple.{same_key}
use Rattle.value.specs.Value.{literalᵛ, arrayᵛ, objectᵛ, itemᵛ, fieldᵛ}
use Rattle.common_example.specs.Overlap.{Template, hole, literalᵗ, arrayᵗ, objectᵗ, Templates, noneᵗ, itemᵗ, TemplateFields, doneᵗ, fieldᵗ, put_in, put_all, put_fields, example}
use Rattle.common_example.specs.Unify.{Keyed, no_key, keyed_by, Head, free, leaf, items, keyed, Pairs, no_pair_lem, pair, is_free, add_pair, when, meet_items, meet_fields, meet, Closing, closed, conflict, unfinished, pick_class, one_if, count_where, into, joined_classes, unless_same, join_pair, join_pairs, join_met, onward, round, class_count, unless_closed, after_round, close, and_item, and_field, of_items, of_fields, build_items, build_fields, build_head, build, unified_by, unified}

module _ {P Q : Type 0} (name : P → Q) where
  unfoldable pub rename_keyed : Keyed P → Keyed Q
  rename_keyed no_key = no_key
  rename_keyed (keyed_by k p fs) = keyed_by k (name p) (rename_keyed fs)

  abbrev pub rename_head : Head P → Head Q
  rename_head free = free
  rename_head (leaf l) = leaf l
  rename_head (items ps) = items (map name ps)
  rename_head (keyed fs) = keyed (rename_keyed fs)

  rename_pairs : Pairs P → Pairs Q
  rename_pairs no_pair_lem = no_pair_lem
  rename_pairs (pair a b w) = pair (name a) (name b) (rename_pairs w)

  abbrev rename_more : Option (Pairs P) → Option (Pairs Q)
  rename_more none = none
  rename_more (some w) = some (rename_pairs w)

  pair_renamed : (a b : P) (o : Option (Pairs P)) → add_pair (name a) (name b) (rename_more o) ≡ rename_more (add_pair a b o)
  unfolding rename_pairs
  pair_renamed a b none = refl
  pair_renamed a b (some w) = refl

  when_renamed : (b : Bool) (o : Option (Pairs P)) → when b (rename_more o) ≡ rename_more (when b o)
  when_renamed true o = refl
  when_renamed false o = refl

  items_renamed : (ps qs : List P) (w : Pairs P) → meet_items (map name ps) (map name qs) (rename_pairs w) ≡ rename_more (meet_items ps qs w)
  unfolding meet_items
  items_renamed [] [] w = refl
  items_renamed [] (q ∷ qs) w = refl
  items_renamed (p ∷ ps) [] w = refl
  items_renamed (p ∷ ps) (q ∷ qs) w = ap (add_pair (name p) (name q)) (items_renamed ps qs w) ∙ pair_renamed p q (meet_items ps qs w)

  fields_renamed : (fs gs : Keyed P) (w : Pairs P) → meet_fields (rename_keyed fs) (rename_keyed gs) (rename_pairs w) ≡ rename_more (meet_fields fs gs w)
  unfolding meet_fields rename_keyed
  fields_renamed no_key no_key w = refl
  fields_renamed no_key (keyed_by l q gs) w = refl
  fields_renamed (keyed_by k p fs) no_key w = refl
  fields_renamed (keyed_by k p fs) (keyed_by l q gs) w =
      ap (λ o. when (same_key k l) (add_pair (name p) (name q) o)) (fields_renamed fs gs w) ∙ (ap (when (same_key k l)) (pair_renamed p q (meet_fields fs gs w)) ∙ when_renamed (same_key k l) (add_pair p q (meet_fields fs gs w)))

  meet_renamed : (h k : Head P) (w : Pairs P) → meet (rename_head h) (rename_head k) (rename_pairs w) ≡ rename_more (meet h k w)
  unfolding meet
  meet_renamed free k w = refl
  meet_renamed (leaf l) free w = refl
  meet_renamed (leaf l) (leaf m) w = when_renamed (same_key l m) (some w)
  meet_renamed (leaf l) (items qs) w = refl
  meet_renamed (leaf l) (keyed gs) w = refl
  meet_renamed (items ps) free w = refl
  meet_renamed (items ps) (leaf m) w = refl
  meet_renamed (items ps) (items qs) w = items_renamed ps qs w
  meet_renamed (items ps) (keyed gs) w = refl
  meet_renamed (keyed fs) free w = refl
  meet_renamed (keyed fs) (leaf m) w = refl
  meet_renamed (keyed fs) (items qs) w = refl
  meet_renamed (keyed fs) (keyed gs) w = fields_renamed fs gs w

  free_renamed : (h : Head P) → is_free (rename_head h) ≡ is_free h
  free_renamed free = refl
  free_renamed (leaf l) = refl
  free_renamed (items ps) = refl
  free_renamed (keyed fs) = refl

  -- holes under other names
  unfoldable mutual
    pub rename_template : Template P → Template Q
    rename_template (hole x) = hole (name x)
    rename_template (literalᵗ l) = literalᵗ l
    rename_template (arrayᵗ ts) = arrayᵗ (rename_all ts)
    rename_template (objectᵗ fs) = objectᵗ (rename_fields fs)

    pub rename_all : Templates P → Templates Q
    rename_all noneᵗ = noneᵗ
    rename_all (itemᵗ t ts) = itemᵗ (rename_template t) (rename_all ts)

    pub rename_fields : TemplateFields P → TemplateFields Q
    rename_fields doneᵗ = doneᵗ
    rename_fields (fieldᵗ k t fs) = fieldᵗ k (rename_template t) (rename_fields fs)

  mutual
    unfolding rename_template put_in

    pub example_renamed : (t : Template P) → example (rename_template t) ≡ example t
    example_renamed (hole x) = refl
    example_renamed (literalᵗ l) = refl
    example_renamed (arrayᵗ ts) = ap (arrayᵛ 0) (all_renamed ts)
    example_renamed (objectᵗ fs) = ap (objectᵛ 0) (under_all_renamed fs)

    all_renamed : (ts : Templates P) → put_all (λ x. literalᵛ 0 null) (rename_all ts) ≡ put_all (λ x. literalᵛ 0 null) ts
    all_renamed noneᵗ = refl
    all_renamed (itemᵗ t ts) = ap₂ itemᵛ (example_renamed t) (all_renamed ts)

    under_all_renamed : (fs : TemplateFields P) → put_fields (λ x. literalᵛ 0 null) (rename_fields fs) ≡ put_fields (λ x. literalᵛ 0 null) fs
    under_all_renamed doneᵗ = refl
    under_all_renamed (fieldᵗ k t fs) = ap₂ (fieldᵛ k) (example_renamed t) (under_all_renamed fs)

  abbrev pub rename_found : Option (Template P) → Option (Template Q)
  rename_found none = none
  rename_found (some t) = some (rename_template t)

  abbrev rename_found_all : Option (Templates P) → Option (Templates Q)
  rename_found_all none = none
  rename_found_all (some t) = some (rename_all t)

  abbrev rename_found_fields : Option (TemplateFields P) → Option (TemplateFields Q)
  rename_found_fields none = none
  rename_found_fields (some t) = some (rename_fields t)

  module _ (F : P → Option (Template P)) (G : Q → Option (Template Q)) (each : (p : P) → G (name p) ≡ rename_found (F p)) where
    build_items_renamed : (ps : List P) → build_items G (map name ps) ≡ rename_found_all (build_items F ps)
    unfolding build_items rename_template
    build_items_renamed [] = refl
    build_items_renamed (p ∷ ps) = ap₂ and_item (each p) (build_items_renamed ps) ∙ go (F p) (build_items F ps)
      where
        go : (o : Option (Template P)) (r : Option (Templates P)) → and_item (rename_found o) (rename_found_all r) ≡ rename_found_all (and_item o r)
        go none r = refl
        go (some t) none = refl
        go (some t) (some ts) = refl

    build_fields_renamed : (fs : Keyed P) → build_fields G (rename_keyed fs) ≡ rename_found_fields (build_fields F fs)
    unfolding build_fields rename_template rename_keyed
    build_fields_renamed no_key = refl
    build_fields_renamed (keyed_by k p fs) = ap₂ (and_field k) (each p) (build_fields_renamed fs) ∙ go (F p) (build_fields F fs)
      where
        go : (o : Option (Template P)) (r : Option (TemplateFields P)) → and_field k (rename_found o) (rename_found_fields r) ≡ rename_found_fields (and_field k o r)
        go none r = refl
        go (some t) none = refl
        go (some t) (some ts) = refl

    head_renamed : (p : P) (h : Head P) → build_head G (name p) (rename_head h) ≡ rename_found (build_head F p h)
    unfolding rename_template
    head_renamed p free = refl
    head_renamed p (leaf l) = refl
    head_renamed p (items ps) = ap of_items (build_items_renamed ps) ∙ go (build_items F ps)
      where
        go : (o : Option (Templates P)) → of_items (rename_found_all o) ≡ rename_found (of_items o)
        go none = refl
        go (some ts) = refl
    head_renamed p (keyed fs) = ap of_fields (build_fields_renamed fs) ∙ go (build_fields F fs)
      where
        go : (o : Option (TemplateFields P)) → of_fields (rename_found_fields o) ≡ rename_found (of_fields o)
        go none = refl
        go (some ts) = refl

  -- the two graphs
  module _ (sameP : P → P → Bool) (same_q : Q → Q → Bool) (tells : (a b : P) → same_q (name a) (name b) ≡ sameP a b) (g : P → Head P) (h : Q → Head Q) (heads : (p : P) → h (name p) ≡ rename_head (g p)) where
    abbrev Follows : (P → P) → (Q → Q) → Type 0
    Follows c d = (p : P) → d (name p) ≡ name (c p)

    abbrev Alike : Closing P → Closing Q → Type 0
    Alike (closed c) (closed d) = Follows c d
    Alike (closed c) conflict = ⊥
    Alike (closed c) unfinished = ⊥
    Alike conflict (closed d) = ⊥
    Alike conflict conflict = Unit {0}
    Alike conflict unfinished = ⊥
    Alike unfinished (closed d) = ⊥
    Alike unfinished conflict = ⊥
    Alike unfinished unfinished = Unit {0}

    abbrev AlikeRound : Option (P → P) → Option (Q → Q) → Type 0
    AlikeRound none none = Unit {0}
    AlikeRound none (some d) = ⊥
    AlikeRound (some c) none = ⊥
    AlikeRound (some c) (some d) = Follows c d

    into_renamed : (a b : P) (c : P → P) (d : Q → Q) → Follows c d → Follows (into sameP g a b c) (into same_q h (name a) (name b) d)
    into_renamed a b c d f p = ap (λ q. pick_class same_q h (same_q q (name b)) (name a) q) (f p) ∙ (ap (λ t. pick_class same_q h t (name a) (name (c p))) (tells (c p) b) ∙ go (sameP (c p) b))
      where
        go : (t : Bool) → pick_class same_q h t (name a) (name (c p)) ≡ name (pick_class sameP g t a (c p))
        go true = refl
        go false = refl

    joined_renamed : (t : Bool) (a b : P) (c : P → P) (d : Q → Q) → Follows c d → Follows (joined_classes sameP g t a b c) (joined_classes same_q h t (name a) (name b) d)
    joined_renamed true a b c d f = into_renamed b a c d f
    joined_renamed false a b c d f = into_renamed a b c d f

    pair_joined : (a b : P) (c : P → P) (d : Q → Q) → Follows c d → Follows (join_pair sameP g a b c) (join_pair same_q h (name a) (name b) d)
    pair_joined a b c d f =
        let same : same_q (d (name a)) (d (name b)) ≡ sameP (c a) (c b) = ap₂ same_q (f a) (f b) ∙ tells (c a) (c b) in
        let frees : is_free (h (d (name a))) ≡ is_free (g (c a)) = ap is_free (ap h (f a) ∙ heads (c a)) ∙ free_renamed (g (c a)) in
        go (sameP (c a) (c b)) (same_q (d (name a)) (d (name b))) same (is_free (h (d (name a)))) frees (d (name a)) (f a) (d (name b)) (f b)
      where
        go : (t t' : Bool) → t' ≡ t → (u : Bool) → u ≡ is_free (g (c a)) → (x : Q) → x ≡ name (c a) → (y : Q) → y ≡ name (c b)
            → Follows (unless_same sameP g t c (joined_classes sameP g (is_free (g (c a))) (c a) (c b) c)) (unless_same same_q h t' d (joined_classes same_q h u x y d))
        go true t' e u k x ex y ey = rw e f
        go false t' e u k x ex y ey = rw (e, k, ex, ey) (joined_renamed (is_free (g (c a))) (c a) (c b) c d f)

    pairs_joined : (w : Pairs P) (c : P → P) (d : Q → Q) → Follows c d → Follows (join_pairs sameP g w c) (join_pairs same_q h (rename_pairs w) d)
    unfolding join_pairs rename_pairs
    pairs_joined no_pair_lem c d f = f
    pairs_joined (pair a b w) c d f = pairs_joined w (join_pair sameP g a b c) (join_pair same_q h (name a) (name b) d) (pair_joined a b c d f)

    round_renamed : (ps : List P) (c : P → P) (d : Q → Q) → Follows c d → AlikeRound (round sameP g ps c) (round same_q h (map name ps) d)
    unfolding round rename_pairs
    round_renamed [] c d f = f
    round_renamed (p ∷ ps) c d f =
        let met : meet (h (d (name p))) (h (name p)) no_pair_lem ≡ rename_more (meet (g (c p)) (g p) no_pair_lem) = ap₂ (λ x y. meet x y no_pair_lem) (ap h (f p) ∙ heads (c p)) (heads p) ∙ none_more (g (c p)) (g p) in
        go (meet (g (c p)) (g p) no_pair_lem) (meet (h (d (name p))) (h (name p)) no_pair_lem) met (λ c' d' f'. round_renamed ps c' d' f')
      where
        none_more : (x y : Head P) → meet (rename_head x) (rename_head y) no_pair_lem ≡ rename_more (meet x y no_pair_lem)
        none_more x y = meet_renamed x y no_pair_lem

        go : (o : Option (Pairs P)) (o' : Option (Pairs Q)) → o' ≡ rename_more o → ((c' : P → P) (d' : Q → Q) → Follows c' d' → AlikeRound (round sameP g ps c') (round same_q h (map name ps) d')) → AlikeRound (onward sameP g (join_met sameP g o c) (round sameP g ps)) (onward same_q h (join_met same_q h o' d) (round same_q h (map name ps)))
        go none o' m rest = rw m tt
        go (some w) o' m rest = rw m (rest (join_pairs sameP g w c) (join_pairs same_q h (rename_pairs w) d) (pairs_joined w c d f))

    count_renamed : (ps : List P) (c : P → P) (d : Q → Q) → Follows c d → count_where (λ q. same_q (d q) q) (map name ps) ≡ count_where (λ p. sameP (c p) p) ps
    unfolding count_where
    count_renamed [] c d f = refl
    count_renamed (p ∷ ps) c d f = ap₂ (λ (x : Bool) (y : ℕ). one_if x + y) (ap (λ q. same_q q (name p)) (f p) ∙ tells (c p) p) (count_renamed ps c d f)

    close_renamed : (all : List P) (m : ℕ) (c : P → P) (d : Q → Q) → Follows c d → Alike (close sameP g all m c) (close same_q h (map name all) m d)
    unfolding close
    close_renamed all zero c d f = tt
    close_renamed all (suc m) c d f = go (round sameP g all c) (round same_q h (map name all) d) (round_renamed all c d f) (λ c' d' f'. close_renamed all m c' d' f')
      where
        Rest : Type 0
        Rest = (c' : P → P) (d' : Q → Q) → Follows c' d' → Alike (close sameP g all m c') (close same_q h (map name all) m d')

        after : Rest → (c' : P → P) (d' : Q → Q) → Follows c' d' → (b b' : Bool) → b' ≡ b → Alike (unless_closed sameP g b c' (close sameP g all m c')) (unless_closed same_q h b' d' (close same_q h (map name all) m d'))
        after rest c' d' f' true b' e = rw e f'
        after rest c' d' f' false b' e = rw e (rest c' d' f')

        go : (o : Option (P → P)) (o' : Option (Q → Q)) → AlikeRound o o' → Rest
            → Alike (after_round sameP g all (class_count sameP g all c) o (close sameP g all m)) (after_round same_q h (map name all) (class_count same_q h (map name all) d) o' (close same_q h (map name all) m))
        go none none x rest = tt
        go none (some d') x rest = absurd x
        go (some c') none x rest = absurd x
        go (some c') (some d') x rest = after rest c' d' x (eqb (class_count sameP g all c') (class_count sameP g all c)) (eqb (class_count same_q h (map name all) d') (class_count same_q h (map name all) d)) (ap₂ eqb (count_renamed all c' d' x) (count_renamed all c d f))

    built_renamed : (c : P → P) (d : Q → Q) → Follows c d → (n : ℕ) (p : P) → build h d n (name p) ≡ rename_found (build g c n p)
    unfolding build
    built_renamed c d f zero p = refl
    built_renamed c d f (suc n) p = ap (λ q. build_head (build h d n) q (h q)) (f p) ∙ (ap (build_head (build h d n) (name (c p))) (heads (c p)) ∙ head_renamed (build g c n) (build h d n) (built_renamed c d f n) (c p) (g (c p)))

    -- the same template, its holes renamed
    pub unified_renamed : (all : List P) (n : ℕ) (a b : P) → unified same_q h (map name all) n (name a) (name b) ≡ rename_found (unified sameP g all n a b)
    unfolding unified
    unified_renamed all n a b =
        go (close sameP g all (suc n) (join_pair sameP g a b (λ p. p))) (close same_q h (map name all) (suc n) (join_pair same_q h (name a) (name b) (λ q. q)))
        (close_renamed all (suc n) (join_pair sameP g a b (λ p. p)) (join_pair same_q h (name a) (name b) (λ q. q)) (pair_joined a b (λ p. p) (λ q. q) (λ p. refl)))
      where
        go : (x : Closing P) (y : Closing Q) → Alike x y → unified_by same_q h n (name a) y ≡ rename_found (unified_by sameP g n a x)
        go (closed c) (closed d) f = built_renamed c d f n a
        go (closed c) conflict f = absurd f
        go (closed c) unfinished f = absurd f
        go conflict (closed d) f = absurd f
        go conflict conflict f = refl
        go conflict unfinished f = absurd f
        go unfinished (closed d) f = absurd f
        go unfinished conflict f = absurd f
        go unfinished unfinished f = refl
