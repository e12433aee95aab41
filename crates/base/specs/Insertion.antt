-- Insertion into a list.
use Rattle.std.specs.Prelude.{ℕ, ◌+◌, ◌-◌, cond, ◌&&◌, List, ◌∷◌, ◌++◌, leb, ltb, length, take, drop}

-- an item at `place`; those from there to `total` move up by one
abbrev pub pushed : {A : Type 0} → List A → ℕ → ℕ → A → List A
pushed before place total new = take place before ++ (new ∷ (take (total - place) (drop place before) ++ drop (total + 1) before))

-- the same where `total` is a place of the list and not before `place`, else nothing
abbrev pub moved : {A : Type 0} → List A → ℕ → ℕ → A → List A
moved before place total new = cond (leb place total && ltb total (length before)) (pushed before place total new) before
