-- A plan put behind its pack's entries.
use Prim.Native.Nat.{ℕ, zero, suc, ◌+◌, ◌-◌, ◌*◌, ◌≤◌, ◌<◌}
use mathlib.Core.Path.{◌≡◌, refl, sym, ap, ◌∙◌}
use mathlib.Core.List.{List, [], ◌∷◌, ◌++◌, map, sum, append_assoc}
use native.Mathlib.Omega.{arith}
use lib.ListN.{length, get_or, take, drop, set, length-append, length-set, length-drop}
use lib.Seq.{paste, length-paste, take_at, drop_at, take-suc, take-append-add, drop-append-add, set_at, split_at, set_split, drop-drop, length-take-le}
use Rattle.planner.specs.Layout.{Entry, entry_words, words}
use Rattle.planner.specs.Entries.{read_entries}
use Rattle.planner.proofs.buffer.Written.{words_append, length_words}
use Rattle.planner.proofs.buffer.ReadBack.{length_read}
use Rattle.plan_store.specs.Store.{capacity, Pack, pack, used, Store, no_pack, total, with_plan}
use Rattle.plan_store.specs.Words.{store_words, head_words, all_entries, words_of, with_store, store_of}
use Rattle.plan_store.specs.code.Head.{head_sum, entries_in, entries_end}
use Rattle.plan_store.specs.code.Rows.{InsertAsks, inserted, Admitted, plan_inserted}
use Rattle.plan_store.proofs.laws.Sums.{sum_append}
use Rattle.plan_store.proofs.laws.Stores.{Sound, sound_fits, sound_with}
use Rattle.plan_store.proofs.laws.Encoding.{words_taken, length_head, length_entries, length_store, sound_long, store_size, store_sound, store_packs, written_back}
use Rattle.plan_store.proofs.head.Passes.{sum_first, sum_all}
use Rattle.plan_store.proofs.head.Places.{packs_few, used_word}
use Rattle.plan_store.proofs.Cases.{fits_low, fits_high}

-- the words of a store about one of its packs
head_append : (s t : Store) → head_words (s ++ t) ≡ head_words s ++ head_words t
unfolding head_words
head_append [] t = refl
head_append (p ∷ s) t = ap (λ (l : List ℕ). p.share ∷ (used p ∷ l)) (head_append s t)

entries_append : (s t : Store) → all_entries (s ++ t) ≡ all_entries s ++ all_entries t
unfolding all_entries
entries_append [] t = refl
entries_append (p ∷ s) t = ap (λ (l : List Entry). p.entries ++ l) (entries_append s t) ∙ sym (append_assoc p.entries (all_entries s) (all_entries t))

-- before a pack's number of entries; from there to the end of its entries; the entries behind
heading : ℕ → Store → Pack → List ℕ
heading n front p = n ∷ (head_words front ++ (p.share ∷ []))

middle : Store → Pack → Store → List ℕ
middle front p back = head_words back ++ words (all_entries front ++ p.entries)

about : (front : Store) (p : Pack) (back : Store) → words_of (front ++ (p ∷ back)) ≡ heading (length (front ++ (p ∷ back))) front p ++ (used p ∷ (middle front p back ++ words (all_entries back)))
unfolding words_of heading middle head_words all_entries
about front p back =
    let h = head_append front (p ∷ back) in
    let e = entries_append front (p ∷ back) ∙ sym (append_assoc (all_entries front) p.entries (all_entries back)) in
    let w = ap words e ∙ words_append (all_entries front ++ p.entries) (all_entries back) in
    let n : ℕ = length (front ++ (p ∷ back)) in
    ap (λ (l : List ℕ). n ∷ (head_words (front ++ (p ∷ back)) ++ l)) w
    ∙ ap (λ (l : List ℕ). n ∷ (l ++ (words (all_entries front ++ p.entries) ++ words (all_entries back)))) h
    ∙ simp append_assoc

-- moved up and then copied over: words between the first and the last
module _ (first last rest plan : List ℕ) (k : ℕ) (fits : k ≤ length rest) (enough : k ≤ length plan) where
  raised : paste (first ++ (last ++ rest)) (length first + k) (last ++ rest) (length last) ≡ first ++ take k (last ++ rest) ++ (last ++ drop k rest)
  raised =
      let e : length first + k + length last ≡ length first + (length last + k) = omega arith in
      let behind = ap (λ (n : ℕ). drop n (first ++ (last ++ rest))) e ∙ drop-append-add first (last ++ rest) (length last + k) ∙ drop-append-add last rest k in
      rw (take-append-add first (last ++ rest) k, take_at last rest (length last) refl, behind) (append_assoc (first ++ take k (last ++ rest)) last (drop k rest))

  copied : paste (first ++ take k (last ++ rest) ++ (last ++ drop k rest)) (length first) plan k ≡ first ++ (take k plan ++ (last ++ drop k rest))
  copied =
      let a = length-append last rest in
      let t = length-take-le k (last ++ rest) (omega arith) in
      let b = length-append first (take k (last ++ rest)) in
      let front = ap (take (length first)) (append_assoc first (take k (last ++ rest)) (last ++ drop k rest)) ∙ take_at first (take k (last ++ rest) ++ (last ++ drop k rest)) (length first) refl in
      let behind = drop_at (first ++ take k (last ++ rest)) (last ++ drop k rest) (length first + k) (omega arith) in
      rw (front, behind) (append_assoc first (take k plan) (last ++ drop k rest))

-- pack i + 1 of a store
module _ (ws : List ℕ) (i : ℕ) (buffer : List ℕ) (count : ℕ) (f : Admitted ws (suc i) buffer count) where
  s : Store
  s = store_of ws

  plan : List Entry
  plan = read_entries buffer 0 count

  front : Store
  front = take i s

  back : Store
  back = drop (suc i) s

  p : Pack
  p = get_or s i no_pack

  more : Pack
  more = pack p.share (p.entries ++ plan)

  inside : i < length s
  unfolding s
  inside = let n = store_packs ws f.is in let h = fits_high f in omega arith

  sound : Sound s
  unfolding s
  sound = store_sound ws f.is

  size : length plan ≡ count
  unfolding plan
  size = length_read buffer 0 count

  split : s ≡ front ++ (p ∷ back)
  unfolding front back p
  split = split_at s i no_pack inside

  put : with_plan s (suc i) plan ≡ front ++ (more ∷ back)
  unfolding front back p more
  put = set_split s i more inside

  sum_parts : total (map used s) ≡ total (map used front) + (used p + total (map used back))
  unfolding sum
  sum_parts = ap (λ (t : Store). total (map used t)) split ∙ sum_append used front (p ∷ back)

  sum_more : total (map used (with_plan s (suc i) plan)) ≡ total (map used s) + count
  unfolding sum more
  sum_more =
      let a = ap (λ (t : Store). total (map used t)) put ∙ sum_append used front (more ∷ back) in
      let b = length-append p.entries plan in
      let c = sum_parts in
      let d = size in
      omega arith

  length_front : length front ≡ i
  unfolding front
  length_front = length-take-le i s (let h = inside in omega arith)

  length_back : length back ≡ length s - suc i
  unfolding back
  length_back = length-drop (suc i) s

  packs : length s ≡ get_or ws 0 0
  unfolding s
  packs = store_packs ws f.is

  -- the places
  at : ℕ
  at = entries_end ws (suc i)

  end : ℕ
  end = entries_end ws (get_or ws 0 0)

  k : ℕ
  k = count * entry_words

  sum_at_lem : head_sum entries_in ws 0 (suc i) ≡ total (map used front) + used p
  unfolding sum s front p
  sum_at_lem =
      let a = sum_first entries_in ws (suc i) (fits_high f) in
      let b = ap (λ (t : Store). total (map used t)) (take-suc s i no_pack inside) ∙ sum_append used (take i s) (get_or s i no_pack ∷ []) in
      omega arith

  at_is : at ≡ 1 + length s * 2 + (total (map used front) + used p) * entry_words
  unfolding at entries_end
  at_is = let a = sum_at_lem in let b = packs in omega arith

  end_is : end ≡ 1 + length s * 2 + total (map used s) * entry_words
  unfolding end entries_end s
  end_is = let a = sum_all entries_in ws in let b = packs in omega arith

  whole : length (words_of s) ≡ end
  whole = length_store s ∙ sym end_is

  with_more : length (words_of (with_plan s (suc i) plan)) ≡ end + k
  unfolding k p more
  with_more =
      let a = length_store (with_plan s (suc i) plan) in
      let b = sum_more in
      let c = end_is in
      let d = length-set s i more in
      omega arith

  room : end + k ≤ store_words
  unfolding s plan
  room = let a = with_more in let b = sound_long (with_plan s (suc i) plan) (sound_with s sound (suc i) plan f.kept) in omega arith

  -- the words
  H : List ℕ
  H = heading (length s) front p

  M : List ℕ
  M = middle front p back

  B : List ℕ
  B = words (all_entries back)

  R : List ℕ
  R = drop end ws

  words_are : ws ≡ (H ++ (used p ∷ M)) ++ (B ++ R)
  unfolding H M B R s
  words_are =
      let a = written_back ws f.is in
      let b = ap words_of split ∙ about front p back in
      let c = ap (λ (n : ℕ). heading n front p ++ (used p ∷ (middle front p back ++ words (all_entries back)))) (sym (ap length split)) in
      sym a ∙ ap (λ (n : ℕ). words_of s ++ drop n ws) whole ∙ ap (λ (l : List ℕ). l ++ drop end ws) (b ∙ c) ∙ simp append_assoc

  length_h : length H ≡ suc i * 2
  unfolding H heading
  length_h =
      let a = length-append (head_words front) (p.share ∷ []) in
      let b = length_head front in
      let c = length_front in
      omega arith

  length_m : length M ≡ (length s - suc i) * 2 + (total (map used front) + used p) * entry_words
  unfolding M middle
  length_m =
      let a = length-append (head_words back) (words (all_entries front ++ p.entries)) in
      let b = length_head back in
      let c = length_back in
      let d = length_words (all_entries front ++ p.entries) in
      let e = length-append (all_entries front) p.entries in
      let g = length_entries front in
      omega arith

  length_first : length (H ++ (used p ∷ M)) ≡ at
  length_first =
      let a = length-append H (used p ∷ M) in
      let b = length_h in
      let c = length_m in
      let d = at_is in
      let e = inside in
      omega arith

  length_b : length B ≡ end - at
  unfolding B
  length_b =
      let a = length_words (all_entries back) in
      let b = length_entries back in
      let c = at_is in
      let d = end_is in
      let e = sum_parts in
      omega arith

  length_r : k ≤ length R
  unfolding R
  length_r = let a = length-drop end ws in let b = store_size ws f.is in let c = room in omega arith

  enough : k ≤ length buffer
  unfolding k
  enough = let b = f.buffered in omega arith

  behind : drop at ws ≡ B ++ R
  behind = ap (drop at) words_are ∙ drop_at (H ++ (used p ∷ M)) (B ++ R) at length_first

  -- moved, copied, counted
  moved : List ℕ
  moved = paste ws (at + k) (drop at ws) (end - at)

  moved_is : moved ≡ (H ++ (used p ∷ M)) ++ take k (B ++ R) ++ (B ++ drop k R)
  unfolding moved
  moved_is =
      ap (λ (l : List ℕ). paste ws (at + k) l (end - at)) behind
      ∙ ap (λ (l : List ℕ). paste l (at + k) (B ++ R) (end - at)) words_are
      ∙ ap (λ (n : ℕ). paste (H ++ (used p ∷ M) ++ (B ++ R)) (n + k) (B ++ R) (end - at)) (sym length_first)
      ∙ ap (paste (H ++ (used p ∷ M) ++ (B ++ R)) (length (H ++ (used p ∷ M)) + k) (B ++ R)) (sym length_b)
      ∙ raised (H ++ (used p ∷ M)) B R buffer k length_r enough

  filled : List ℕ
  filled = paste moved at buffer k

  filled_is : filled ≡ H ++ (used p ∷ (M ++ (take k buffer ++ (B ++ drop k R))))
  unfolding filled
  filled_is =
      ap (λ (l : List ℕ). paste l at buffer k) moved_is
      ∙ ap (λ (n : ℕ). paste ((H ++ (used p ∷ M)) ++ take k (B ++ R) ++ (B ++ drop k R)) n buffer k) (sym length_first)
      ∙ copied (H ++ (used p ∷ M)) B R buffer k length_r enough
      ∙ append_assoc H (used p ∷ M) (take k buffer ++ (B ++ drop k R))

  count_is : get_or ws (suc i * 2) 0 ≡ used p
  unfolding p s
  count_is = sym (used_word ws (suc i) (omega arith) (fits_high f))

  middle_more : middle front more back ≡ M ++ take k buffer
  unfolding M middle more plan k
  middle_more =
      let a = sym (append_assoc (all_entries front) p.entries plan) in
      let b = words_append (all_entries front ++ p.entries) plan in
      let c = words_taken buffer count enough in
      ap (λ (l : List Entry). head_words back ++ words l) a
      ∙ ap (λ (l : List ℕ). head_words back ++ l) (b ∙ ap (λ (l : List ℕ). words (all_entries front ++ p.entries) ++ l) c)
      ∙ sym (append_assoc (head_words back) (words (all_entries front ++ p.entries)) (take (count * entry_words) buffer))

  more_words : words_of (with_plan s (suc i) plan) ≡ H ++ ((used p + count) ∷ (M ++ take k buffer ++ B))
  unfolding H B p more heading
  more_words =
      let n : length (front ++ (more ∷ back)) ≡ length s = sym (ap length put) ∙ length-set s i more in
      let u : used more ≡ used p + count = length-append p.entries plan ∙ ap (λ (m : ℕ). used p + m) size in
      ap words_of put
      ∙ about front more back
      ∙ ap (λ (l : List ℕ). heading (length (front ++ (more ∷ back))) front more ++ (used more ∷ (l ++ words (all_entries back)))) middle_more
      ∙ ap (λ (m : ℕ). heading m front more ++ (used more ∷ (M ++ take k buffer ++ words (all_entries back)))) n
      ∙ ap (λ (m : ℕ). heading (length s) front more ++ (m ∷ (M ++ take k buffer ++ words (all_entries back)))) u

  behind_more : drop (length (words_of (with_plan s (suc i) plan))) ws ≡ drop k R
  unfolding R
  behind_more = ap (λ (n : ℕ). drop n ws) with_more ∙ sym (drop-drop k end ws)

  counted : set filled (suc i * 2) (get_or ws (suc i * 2) 0 + count) ≡ with_store ws (with_plan s (suc i) plan)
  counted =
      let tail : List ℕ = M ++ (take k buffer ++ (B ++ drop k R)) in
      ap (λ (u : ℕ). set filled (suc i * 2) (u + count)) count_is
      ∙ ap (λ (l : List ℕ). set l (suc i * 2) (used p + count)) filled_is
      ∙ set_at H (used p) tail (used p + count) (suc i * 2) length_h
      ∙ sym (ap (λ (l : List ℕ). l ++ drop (length (words_of (with_plan s (suc i) plan))) ws) more_words
      ∙ ap (λ (l : List ℕ). H ++ ((used p + count) ∷ (M ++ take k buffer ++ B)) ++ l) behind_more
      ∙ simp append_assoc)

  counted_few : get_or ws (suc i * 2) 0 + count ≤ capacity
  unfolding s plan
  counted_few =
      let a = count_is in
      let b = sum_parts in
      let c = sum_more in
      let d = sound_fits (with_plan s (suc i) plan) (sound_with s sound (suc i) plan f.kept) in
      omega arith

  at_end_lem : at ≤ end
  at_end_lem = let a = at_is in let b = end_is in let c = sum_parts in omega arith

  length_moved : length moved ≡ store_words
  unfolding moved
  length_moved =
      let a = store_size ws f.is in
      let b = room in
      let c = at_end_lem in
      let d = length-drop at ws in
      length-paste ws (at + k) (drop at ws) (end - at) (omega arith) (omega arith) ∙ a

  length_filled : length filled ≡ store_words
  unfolding filled
  length_filled =
      let a = length_moved in
      let b = room in
      let c = at_end_lem in
      length-paste moved at buffer k (omega arith) enough ∙ a

-- the same by the code's places
pub record Steps (ws : List ℕ) (n : ℕ) (buffer : List ℕ) (count : ℕ) : Type 0 where
  pub asks : InsertAsks ws (entries_end ws n) (entries_end ws (get_or ws 0 0)) buffer (count * entry_words)
  pub long : length (plan_inserted ws n buffer count) ≡ store_words
  pub place : n * 2 < store_words
  pub few : get_or ws (n * 2) 0 + count ≤ capacity
  pub done : set (plan_inserted ws n buffer count) (n * 2) (get_or ws (n * 2) 0 + count) ≡ with_store ws (with_plan (store_of ws) n (read_entries buffer 0 count))

pub steps : (ws : List ℕ) (n : ℕ) (buffer : List ℕ) (count : ℕ) → Admitted ws n buffer count → Steps ws n buffer count
unfolding s plan at end k moved filled inserted plan_inserted
steps ws zero buffer count f = let l = fits_low f in absurd (omega arith)
steps ws (suc i) buffer count f =
    let a = store_size ws f.is in
    let b = room ws i buffer count f in
    let c = packs_few ws f.is in
    let d = fits_high f in
    record {
      asks = record { order = at_end_lem ws i buffer count f; room = omega arith; enough = enough ws i buffer count f };
      long = length_filled ws i buffer count f;
      place = omega arith;
      few = counted_few ws i buffer count f;
      done = counted ws i buffer count f;
    }
