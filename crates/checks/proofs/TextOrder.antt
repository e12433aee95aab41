-- Texts in order, in lists and in arrays of key nodes.
use Prim.Native.Nat.{ℕ, zero, suc, ◌+◌, ◌-◌, ◌≤◌, ◌<◌}
use mathlib.Core.Path.{◌≡◌, refl, sym, ap, ◌∙◌}
use mathlib.Core.Bool.{Bool, true, false, ◌&&◌}
use mathlib.Core.List.{List, [], ◌∷◌, ◌++◌, map, map-append}
use mathlib.Core.Option.{Option, some}
use native.Mathlib.Omega.{arith}
use borrow.Author.Tests.{eqb-true, eqb-false}
use lib.Dec.{eqb}
use lib.ListN.{length, get_or, take, drop, length-append, length-map, take-append-drop, get_or-map}
use lib.Seq.{get_or-take, take-take, drop-cons}
use Rattle.literal.specs.Literal.{Literal, null}
use Rattle.literal.specs.Order.{Order, less, same, more, opposite, bytes_order, comparison_of}
use Rattle.literal.specs.Text.{key_text, text_compared, texts_compared}
use Rattle.literal.proofs.Orders.{bytes_order_lem, never}
use Rattle.table.specs.Names.{is_same, same_bytes}
use Rattle.planner.proofs.fields.FieldOrder.{map_take, map_drop, drop_take}
use Rattle.checks.specs.Structure.{inserted_by, insert_text, sort_texts, same_texts}
use Rattle.checks.specs.code.Texts.{is_greater, is_equal, KeysOf, text_at, agree_from, texts_agree}

-- does t come after u?
abbrev pub after : List ℕ → List ℕ → Bool
after t u = is_greater (comparison_of (bytes_order t u))

after_more : (o : Order) → is_greater (comparison_of o) ≡ true → o ≡ more
after_more less e = never cc
after_more same e = never cc
after_more more e = refl

pub after_trans : (t u v : List ℕ) → after t u ≡ false → after u v ≡ false → after t v ≡ false
after_trans t u v a b = go (bytes_order t u) refl (bytes_order u v) refl
  where
    go : (x : Order) → bytes_order t u ≡ x → (y : Order) → bytes_order u v ≡ y → after t v ≡ false
    go less p less q = ap (λ (o : Order). is_greater (comparison_of o)) (bytes_order_lem.transitive t u v p q)
    go less p same q = let e = bytes_order_lem.equal u v q in rw e at a
    go less p more q = let z = sym (ap (λ (o : Order). is_greater (comparison_of o)) q) ∙ b in never cc
    go same p y q = let e = bytes_order_lem.equal t u p in rw e b
    go more p y q = let z = sym (ap (λ (o : Order). is_greater (comparison_of o)) p) ∙ a in never cc

after_self : (t : List ℕ) → after t t ≡ false
after_self t = ap (λ (o : Order). is_greater (comparison_of o)) (bytes_order_lem.reflexive t)

-- t comes after none of them
unfoldable pub NotAfter : List ℕ → List (List ℕ) → Type 0
NotAfter t [] = Unit {0}
NotAfter t (u ∷ us) = (after t u ≡ false) × NotAfter t us

unfoldable pub Ascending : List (List ℕ) → Type 0
Ascending [] = Unit {0}
Ascending (t ∷ ts) = NotAfter t ts × Ascending ts

not_after_trans : (t u : List ℕ) (us : List (List ℕ)) → after t u ≡ false → NotAfter u us → NotAfter t us
unfolding NotAfter
not_after_trans t u [] a n = tt
not_after_trans t u (v ∷ us) a n = (after_trans t u v a n.0, not_after_trans t u us a n.1)

not_after_insert : (u t : List ℕ) (ts : List (List ℕ)) → after u t ≡ false → NotAfter u ts → NotAfter u (insert_text t ts)
unfolding NotAfter insert_text
not_after_insert u t [] a n = (a, tt)
not_after_insert u t (v ∷ ts) a n = go (bytes_order t v) (not_after_insert u t ts a n.1)
  where
    go : (o : Order) → NotAfter u (insert_text t ts) → NotAfter u (inserted_by o t v ts (insert_text t ts))
    go less h = (a, n)
    go same h = (a, n)
    go more h = (n.0, h)

insert_ascending : (t : List ℕ) (ts : List (List ℕ)) → Ascending ts → Ascending (insert_text t ts)
unfolding NotAfter Ascending insert_text
insert_ascending t [] h = (tt, tt)
insert_ascending t (u ∷ us) h = go (bytes_order t u) refl (insert_ascending t us h.1)
  where
    behind : after t u ≡ false → Ascending (t ∷ (u ∷ us))
    behind a = ((a, not_after_trans t u us a h.0), h)

    go : (o : Order) → bytes_order t u ≡ o → Ascending (insert_text t us) → Ascending (inserted_by o t u us (insert_text t us))
    go less e r = behind (ap (λ (o : Order). is_greater (comparison_of o)) e)
    go same e r = behind (ap (λ (o : Order). is_greater (comparison_of o)) e)
    go more e r = (not_after_insert u t us (ap (λ (o : Order). is_greater (comparison_of o)) (bytes_order_lem.antisymmetric t u ∙ ap opposite e)) h.0, r)

pub sort_ascending : (ts : List (List ℕ)) → Ascending (sort_texts ts)
unfolding Ascending sort_texts
sort_ascending [] = tt
sort_ascending (t ∷ ts) = insert_ascending t (sort_texts ts) (sort_ascending ts)

module _ (d : List ℕ) where
  not_after_at : (t : List ℕ) (us : List (List ℕ)) → NotAfter t us → (j : ℕ) → j < length us → after t (get_or us j d) ≡ false
  unfolding NotAfter
  not_after_at t [] n j lt = absurd (omega arith)
  not_after_at t (u ∷ us) n zero lt = n.0
  not_after_at t (u ∷ us) n (suc j) lt = not_after_at t us n.1 j (omega arith)

  ascending_at : (ts : List (List ℕ)) → Ascending ts → (i j : ℕ) → i ≤ j → j < length ts → after (get_or ts i d) (get_or ts j d) ≡ false
  unfolding Ascending
  ascending_at [] h i j le lt = absurd (omega arith)
  ascending_at (t ∷ ts) h zero zero le lt = after_self t
  ascending_at (t ∷ ts) h zero (suc j) le lt = not_after_at t ts h.0 j (omega arith)
  ascending_at (t ∷ ts) h (suc i) zero le lt = absurd (omega arith)
  ascending_at (t ∷ ts) h (suc i) (suc j) le lt = ascending_at ts h.1 i j (omega arith) (omega arith)

  -- what the text at place q says of those before
  module _ (t : List ℕ) (ts : List (List ℕ)) (h : Ascending ts) (q : ℕ) (lt : q < length ts) where
    pub after_before : after t (get_or ts q d) ≡ true → (i : ℕ) → i ≤ q → after t (get_or ts i d) ≡ true
    after_before e i le = go (after t (get_or ts i d)) refl
      where
        go : (b : Bool) → after t (get_or ts i d) ≡ b → after t (get_or ts i d) ≡ true
        go true p = p
        go false p = let z = sym e ∙ after_trans t (get_or ts i d) (get_or ts q d) p (ascending_at ts h i q le lt) in never cc

  -- insertion at a place
  pub insert_place : (t : List ℕ) (ts : List (List ℕ)) (p : ℕ) → p ≤ length ts → ((q : ℕ) → q < p → after t (get_or ts q d) ≡ true)
      → (p < length ts → after t (get_or ts p d) ≡ false) → insert_text t ts ≡ take p ts ++ (t ∷ drop p ts)
  unfolding insert_text
  insert_place t [] zero le front here = refl
  insert_place t [] (suc p) le front here = absurd (omega arith)
  insert_place t (u ∷ us) zero le front here = go (bytes_order t u) refl
    where
      go : (o : Order) → bytes_order t u ≡ o → inserted_by (bytes_order t u) t u us (insert_text t us) ≡ t ∷ (u ∷ us)
      go less e = rw e
      go same e = rw e
      go more e = let z = sym (ap (λ (o : Order). is_greater (comparison_of o)) e) ∙ here (omega arith) in never cc
  insert_place t (u ∷ us) (suc p) le front here =
      let e = after_more (bytes_order t u) (front 0 (omega arith)) in
      let r = insert_place t us p (omega arith) (λ q lt. front (suc q) (omega arith)) (λ lt. here (omega arith)) in
      rw e (ap (λ (l : List (List ℕ)). u ∷ l) r)

-- arrays of key nodes

get_d_any : {A : Type 0} (l : List A) (q : ℕ) (d e : A) → q < length l → get_or l q d ≡ get_or l q e
get_d_any [] q d e lt = absurd (omega arith)
get_d_any (a ∷ l) zero d e lt = refl
get_d_any (a ∷ l) (suc q) d e lt = get_d_any l q d e (omega arith)

abbrev pub blank_text : List ℕ
blank_text = key_text null

module _ {lit : ℕ → Option Literal} {keys : List ℕ} {size : ℕ} {ts : List (List ℕ)} (k : KeysOf lit keys size ts) where
  pub keys_length : size ≡ length ts
  keys_length = k.sized ∙ (sym (length-map k.own key_text) ∙ ap length k.texts)

  listed_length : length (map lit (take size keys)) ≡ size
  listed_length = ap length k.listed ∙ (length-map k.own some ∙ sym k.sized)

  own_at : (q : ℕ) → q < size → lit (get_or keys q 0) ≡ some (get_or k.own q null)
  own_at q lt =
      let l = listed_length in
      let s = k.sized in
      ap lit (sym (get_or-take size keys q 0 lt))
      ∙ (sym (get_or-map lit (take size keys) q 0)
      ∙ (get_d_any (map lit (take size keys)) q (lit 0) (some null) (omega arith)
      ∙ (ap (λ (r : List (Option Literal)). get_or r q (some null)) k.listed ∙ get_or-map some k.own q null)))

  text_at_lem : (q : ℕ) → q < size → get_or ts q blank_text ≡ key_text (get_or k.own q null)
  text_at_lem q lt = sym (ap (λ (r : List (List ℕ)). get_or r q blank_text) k.texts) ∙ get_or-map key_text k.own q null

  pub compared_at : {key : Option Literal} {l : Literal} → key ≡ some l → (q : ℕ) → q < size → text_at lit key keys q ≡ comparison_of (bytes_order (key_text l) (get_or ts q blank_text))
  unfolding texts_compared text_compared
  compared_at own q lt = rw (own, own_at q lt, text_at_lem q lt)

-- one key node put in at a place
module _ {lit : ℕ → Option Literal} {keys : List ℕ} {size : ℕ} {ts : List (List ℕ)} (k : KeysOf lit keys size ts) {key : ℕ} {l : Literal} (own : lit key ≡ some l)
    (p : ℕ) (le : p ≤ size) where
  pub put_key : ((q : ℕ) → q < p → is_greater (text_at lit (lit key) keys q) ≡ true) → (p < size → is_greater (text_at lit (lit key) keys p) ≡ false)
      → (later : List ℕ) → take (size + 1) later ≡ take p keys ++ (key ∷ take (size - p) (drop p keys))
      → KeysOf lit later (size + 1) (insert_text (key_text l) ts)
  put_key front here later moved = record {
    own = take p k.own ++ (l ∷ drop p k.own);
    sized =
        let s = k.sized in
        let x = length-append (take p k.own) (l ∷ drop p k.own) in
        let y = length-append (take p k.own) (drop p k.own) in
        let z = ap length (take-append-drop p k.own) in
        omega arith;
    listed =
        ap (map lit) moved
        ∙ rw (
          map-append lit (take p keys) (key ∷ take (size - p) (drop p keys)),
          map-append some (take p k.own) (l ∷ drop p k.own),
          map_take some p k.own,
          map_drop some p k.own,
          ← k.listed,
          own,
          ← map_take lit p (take size keys),
          ← map_drop lit p (take size keys),
          take-take p size keys le,
          drop_take p size keys le,
        );
    texts =
        let n = keys_length k in
        rw (
          map-append key_text (take p k.own) (l ∷ drop p k.own),
          map_take key_text p k.own,
          map_drop key_text p k.own,
          k.texts,
        )
        (sym (insert_place blank_text (key_text l) ts p (omega arith)
        (λ q lt. sym (ap is_greater (compared_at k own q (omega arith))) ∙ front q lt)
        (λ lt. sym (ap is_greater (compared_at k own p (omega arith))) ∙ here (omega arith))));
  }

-- two arrays held against each other

equal_same : (o : Order) → is_equal (comparison_of o) ≡ is_same o
equal_same less = refl
equal_same same = refl
equal_same more = refl

same_lengths : (ts us : List (List ℕ)) → (length ts ≡ length us → ⊥) → same_texts ts us ≡ false
unfolding same_texts
same_lengths [] [] n = absurd (n refl)
same_lengths [] (u ∷ us) n = refl
same_lengths (t ∷ ts) [] n = refl
same_lengths (t ∷ ts) (u ∷ us) n = go (same_bytes t u) (same_lengths ts us (λ e. n (ap suc e)))
  where
    go : (b : Bool) → same_texts ts us ≡ false → b && same_texts ts us ≡ false
    go true h = h
    go false h = refl

module _ {lit : ℕ → Option Literal} {a b : List ℕ} {m n : ℕ} {ts us : List (List ℕ)} (ka : KeysOf lit a m ts) (kb : KeysOf lit b n us) where
  agree_at : (q : ℕ) → q < m → q < n → is_equal (text_at lit (lit (get_or a q 0)) b q) ≡ same_bytes (get_or ts q blank_text) (get_or us q blank_text)
  unfolding same_bytes
  agree_at q lt lt' =
      ap is_equal (compared_at kb (own_at ka q lt) q lt')
      ∙ (equal_same (bytes_order (key_text (get_or ka.own q null)) (get_or us q blank_text)) ∙ ap (λ (t : List ℕ). is_same (bytes_order t (get_or us q blank_text))) (sym (text_at_lem ka q lt)))

  agree_from_lem : m ≡ n → (k q : ℕ) → q + k ≡ m → agree_from lit a b q k ≡ same_texts (drop q ts) (drop q us)
  unfolding agree_from same_texts
  agree_from_lem even zero q e =
      let x = keys_length ka in
      let y = keys_length kb in
      sym (rw (dropped q ts (omega arith), dropped q us (omega arith)))
    where
      dropped : (q : ℕ) (ts : List (List ℕ)) → length ts ≤ q → drop q ts ≡ []
      dropped zero [] le = refl
      dropped zero (t ∷ ts) le = absurd (omega arith)
      dropped (suc q) [] le = refl
      dropped (suc q) (t ∷ ts) le = dropped q ts (omega arith)
  agree_from_lem even (suc k) q e =
      let x = keys_length ka in
      let y = keys_length kb in
      let one : q + 1 ≡ suc q = omega arith in
      let tail = rw one at (agree_from_lem even k (q + 1) (omega arith)) in
      let here = agree_at q (omega arith) (omega arith) in
      rw (one, drop-cons ts q blank_text (omega arith), drop-cons us q blank_text (omega arith), here, tail)

  pub texts_agree_lem : texts_agree lit a m b n ≡ same_texts ts us
  texts_agree_lem = go (eqb m n) refl
    where
      go : (c : Bool) → eqb m n ≡ c → texts_agree lit a m b n ≡ same_texts ts us
      go true p = rw p (agree_from_lem (eqb-true m n p) m 0 (omega arith))
      go false p =
          let x = keys_length ka in
          let y = keys_length kb in
          let d = eqb-false m n p in
          rw p (sym (same_lengths ts us (λ e. d (x ∙ (e ∙ sym y)))))
