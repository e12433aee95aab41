-- Insertion: what stands behind a place is moved up, and what is then where.
use Prim.Native.Nat.{ℕ, suc, ◌+◌, ◌-◌, ◌≤◌, ◌<◌}
use mathlib.Core.Path.{◌≡◌, refl, sym, ap, ◌∙◌}
use mathlib.Core.List.{List, [], ◌∷◌, ◌++◌, append_assoc}
use native.Mathlib.Omega.{arith}
use borrow.Author.Tests.{le-leb, lt-ltb}
use lib.ListN.{length, get_or, take, drop, set, length-append, length-set, length-drop, get_or-append}
use lib.Seq.{paste, paste-zero, take_at, drop_at, take-suc-set, drop-cons, get_or-take, get_or-drop, get_or_at, get_or-append-add, set-append_left, length-take-le, take-set-lt}
use Rattle.base.specs.Insertion.{pushed, moved}

-- an item is put at the last place of a front
set_last : {A : Type 0} (l rest : List A) (n at : ℕ) (x : A) → n ≡ at + 1 → at < length l → set (take n l ++ rest) at x ≡ take at l ++ (x ∷ rest)
set_last l rest n at x one lt =
    let front = length-take-le n l (omega arith) in
    let next : n ≡ suc at = omega arith in
    set-append_left (take n l) rest at x (omega arith)
    ∙ (ap (λ (k : List _). k ++ rest) (sym (take-set-lt n l at x (omega arith)) ∙ (ap (λ (k : ℕ). take k (set l at x)) next ∙ take-suc-set l at x lt))
    ∙ append_assoc (take at l) (x ∷ []) rest)

-- the move up by some places: what stood from q to `total` is moved
pub record Moving (before : List ℕ) (place total by : ℕ) (here : List ℕ) (q : ℕ) : Type 0 where
  pub room : total + by ≤ length before
  pub from : place ≤ q
  pub to : q ≤ total
  pub same_length : length here ≡ length before
  pub parts : here ≡ paste before (q + by) (drop q before) (total - q)

pub moving_start : (before : List ℕ) (place total by : ℕ) → total + by ≤ length before → place ≤ total → Moving before place total by before total
moving_start before place total by room inside =
    let z : total - total ≡ 0 = omega arith in
    record { room = room; from = inside; to = omega arith; same_length = refl; parts = rw z (paste-zero before (total + by) (drop total before)) }

module _ {before : List ℕ} {place total by : ℕ} {here : List ℕ} {q : ℕ} (m : Moving before place total by here q) where
  rest : List ℕ
  rest = take (total - q) (drop q before) ++ drop (q + by + (total - q)) before

  front_length : length (take (q + by) before) ≡ q + by
  front_length = let r = m.room in let t = m.to in length-take-le (q + by) before (omega arith)

  split : here ≡ take (q + by) before ++ rest
  unfolding rest
  split = m.parts ∙ append_assoc (take (q + by) before) (take (total - q) (drop q before)) (drop (q + by + (total - q)) before)

  -- a number put at the last place before those that are moved
  put_at : (at x : ℕ) → at + 1 ≡ q + by → set here at x ≡ take at before ++ (x ∷ rest)
  put_at at x last =
      let r = m.room in
      let t = m.to in
      ap (λ (l : List ℕ). set l at x) split ∙ set_last before rest (q + by) at x (sym last) (omega arith)

  pub moving_on : place < q → Moving before place total by (set here (q - 1 + by) (get_or here (q - 1) 0)) (q - 1)
  unfolding rest
  moving_on lt =
      let r = m.room in
      let t = m.to in
      let f = front_length in
      let at : ℕ = q - 1 + by in
      let next : total - (q - 1) ≡ suc (total - q) = omega arith in
      let end : at + suc (total - q) ≡ q + by + (total - q) = omega arith in
      let same : get_or here (q - 1) 0 ≡ get_or before (q - 1) 0 =
      ap (λ (l : List ℕ). get_or l (q - 1) 0) split ∙ (get_or-append (take (q + by) before) rest 0 (q - 1) (omega arith) ∙ get_or-take (q + by) before (q - 1) 0 (omega arith)) in
      let one : suc (q - 1) ≡ q = omega arith in
      let cut : drop (q - 1) before ≡ get_or before (q - 1) 0 ∷ drop q before = drop-cons before (q - 1) 0 (omega arith) ∙ ap (λ (n : ℕ). get_or before (q - 1) 0 ∷ drop n before) one in
      record {
        room = m.room;
        from = omega arith;
        to = omega arith;
        same_length = length-set here at (get_or here (q - 1) 0) ∙ m.same_length;
        parts =
            put_at at (get_or here (q - 1) 0) (omega arith)
            ∙ rw (next, cut, end, same) (sym (append_assoc (take at before) (get_or before (q - 1) 0 ∷ take (total - q) (drop q before)) (drop (q + by + (total - q)) before)));
      }

  pub moving_ends : q ≤ place → here ≡ paste before (place + by) (drop place before) (total - place)
  moving_ends le = let f = m.from in let e : place ≡ q = omega arith in rw e m.parts

-- by one place: an item is put where the first stood
pub moved_up : {A : Type 0} (before : List A) (place total : ℕ) (item : A) → place ≤ total → total < length before
    → set (paste before (place + 1) (drop place before) (total - place)) place item ≡ moved before place total item
moved_up before place total item le lt =
    let inside = le-leb place total le in
    let room = lt-ltb total (length before) lt in
    let end : place + 1 + (total - place) ≡ total + 1 = omega arith in
    let a = append_assoc (take (place + 1) before) (take (total - place) (drop place before)) (drop (place + 1 + (total - place)) before) in
    simp (inside, room) (rw (a, end) (set_last before (take (total - place) (drop place before) ++ drop (total + 1) before) (place + 1) place item refl (omega arith)))

-- the same, place by place
pub inserting_start : (before : List ℕ) (place total : ℕ) → total < length before → place ≤ total → Moving before place total 1 before total
inserting_start before place total room inside = moving_start before place total 1 (omega arith) inside

module _ {before : List ℕ} {place total : ℕ} {here : List ℕ} {q : ℕ} (m : Moving before place total 1 here q) where
  pub inserting_on : place < q → Moving before place total 1 (set here q (get_or here (q - 1) 0)) (q - 1)
  inserting_on lt = let e : q - 1 + 1 ≡ q = omega arith in let on = moving_on m lt in rw e at on

  pub inserting_ends : q ≤ place → (number : ℕ) → set here place number ≡ moved before place total number
  inserting_ends le number =
      let f = m.from in
      let t = m.to in
      let r = m.room in
      let e = moving_ends m le in
      rw e (moved_up before place total number (omega arith) (omega arith))

-- the first of the moved items
pub moved_take : {A : Type 0} (before : List A) (place total : ℕ) (item : A) → place ≤ total → total < length before
    → take (total + 1) (moved before place total item) ≡ take place before ++ (item ∷ take (total - place) (drop place before))
moved_take before place total item le lt =
    let inside = le-leb place total le in
    let room = lt-ltb total (length before) lt in
    let a = append_assoc (take place before) (item ∷ take (total - place) (drop place before)) (drop (total + 1) before) in
    let x = length-append (take place before) (item ∷ take (total - place) (drop place before)) in
    let y = length-take-le place before (omega arith) in
    let d = length-drop place before in
    let z = length-take-le (total - place) (drop place before) (omega arith) in
    simp (inside, room) (rw (← a) (take_at (take place before ++ (item ∷ take (total - place) (drop place before))) (drop (total + 1) before) (total + 1) (omega arith)))

-- those behind them
pub moved_drop : {A : Type 0} (before : List A) (place total : ℕ) (item : A) → place ≤ total → total < length before → drop (total + 1) (moved before place total item) ≡ drop (total + 1) before
moved_drop before place total item le lt =
    let inside = le-leb place total le in
    let room = lt-ltb total (length before) lt in
    let a = append_assoc (take place before) (item ∷ take (total - place) (drop place before)) (drop (total + 1) before) in
    let x = length-append (take place before) (item ∷ take (total - place) (drop place before)) in
    let y = length-take-le place before (omega arith) in
    let d = length-drop place before in
    let z = length-take-le (total - place) (drop place before) (omega arith) in
    simp (inside, room) (ap (drop (total + 1)) (sym a) ∙ drop_at (take place before ++ (item ∷ take (total - place) (drop place before))) (drop (total + 1) before) (total + 1) (omega arith))

-- number by number
module _ (before : List ℕ) (place total number : ℕ) (le : place ≤ total) (lt : total < length before) where
  front : length (take place before) ≡ place
  front = length-take-le place before (omega arith)

  opened : moved before place total number ≡ pushed before place total number
  opened = let inside = le-leb place total le in let room = lt-ltb total (length before) lt in simp (inside, room)

  pub moved_length : length (moved before place total number) ≡ length before
  moved_length =
      let x = length-append (take place before) (number ∷ (take (total - place) (drop place before) ++ drop (total + 1) before)) in
      let y = length-append (take (total - place) (drop place before)) (drop (total + 1) before) in
      let d = length-drop place before in
      let e = length-drop (total + 1) before in
      let z = length-take-le (total - place) (drop place before) (omega arith) in
      let f = front in
      ap length opened ∙ omega arith

  pub moved_front : (q : ℕ) → q < place → get_or (moved before place total number) q 0 ≡ get_or before q 0
  moved_front q h =
      let f = front in
      ap (λ (l : List ℕ). get_or l q 0) opened
      ∙ (get_or-append (take place before) (number ∷ (take (total - place) (drop place before) ++ drop (total + 1) before)) 0 q (omega arith) ∙ get_or-take place before q 0 h)

  pub moved_here : get_or (moved before place total number) place 0 ≡ number
  moved_here = ap (λ (l : List ℕ). get_or l place 0) opened ∙ get_or_at (take place before) number (take (total - place) (drop place before) ++ drop (total + 1) before) 0 place front

  pub moved_next : (q : ℕ) → place < q → q ≤ total → get_or (moved before place total number) q 0 ≡ get_or before (q - 1) 0
  moved_next q h k =
      let f = front in
      let d = length-drop place before in
      let z = length-take-le (total - place) (drop place before) (omega arith) in
      let n : q ≡ length (take place before) + suc (q - place - 1) = omega arith in
      let w : place + (q - place - 1) ≡ q - 1 = omega arith in
      let rest : List ℕ = number ∷ (take (total - place) (drop place before) ++ drop (total + 1) before) in
      ap (λ (l : List ℕ). get_or l q 0) opened
      ∙ (ap (λ (k : ℕ). get_or (take place before ++ rest) k 0) n
      ∙ (get_or-append-add (take place before) rest (suc (q - place - 1)) 0
      ∙ (get_or-append (take (total - place) (drop place before)) (drop (total + 1) before) 0 (q - place - 1) (omega arith)
      ∙ (get_or-take (total - place) (drop place before) (q - place - 1) 0 (omega arith) ∙ (get_or-drop place before (q - place - 1) 0 ∙ ap (λ (k : ℕ). get_or before k 0) w)))))
