-- Sizes of the values of classes, level by level: 0 for none yet, at most 513.
use Rattle.std.specs.Prelude.{ℕ, zero, suc, ◌+◌, ◌*◌, ◌≤◌, ◌<◌, min, cond, List, ◌≡◌, eqb, leb, length, get_or, replicate}
use Rattle.base.specs.Lists.{tabulate}
use Rattle.common_example.specs.code.Graph.{kind_at, start_at, count_at, Linked}
use Rattle.common_example.specs.code.Classes.{class_in, ClassesOk}

pub record SizesOk (sizes : List ℕ) : Type 0 where
  pub long : length sizes ≡ 2052
  pub few : (i : ℕ) → get_or sizes i 0 ≤ 513

pub record CapAsks (total size : ℕ) : Type 0 where
  pub first : total ≤ 513
  pub second : size ≤ 513

-- the sizes of k links, each `step` after the other, added to a total; 0 where one is 0
unfoldable pub sum_at : List ℕ → List ℕ → ℕ → ℕ → ℕ → ℕ → ℕ
sum_at links sizes step at zero total = total
sum_at links sizes step at (suc k) total =
    cond (eqb (get_or sizes (get_or links at 0) 0) 0) 0 (sum_at links sizes step (at + step) k (min 513 (total + get_or sizes (get_or links at 0) 0)))

pub record SumAsks (links sizes : List ℕ) (step at k total : ℕ) : Type 0 where
  pub places : (i : ℕ) → get_or links i 0 < 2052
  pub inside : at + k * step < 2048 + step
  pub short : step ≤ 8
  pub sizes_ok : SizesOk sizes
  pub few : total ≤ 513

-- a field has a key and a value
unfoldable pub place_size : List ℕ → List ℕ → List ℕ → ℕ → ℕ
place_size heads links sizes q =
    cond (leb (kind_at heads q) 1) 1
    (cond (eqb (kind_at heads q) 2) (sum_at links sizes 4 (start_at heads q) (count_at heads q) 1)
    (sum_at links sizes 8 (start_at heads q + 4) (count_at heads q) (1 + count_at heads q)))

pub record SizeAsks (heads links sizes : List ℕ) (q : ℕ) : Type 0 where
  pub linked : Linked heads links
  pub sizes_ok : SizesOk sizes
  pub inside : q < 2052

pub record LevelAsks (heads links classes sizes : List ℕ) : Type 0 where
  pub linked : Linked heads links
  pub ok : ClassesOk classes
  pub sizes_ok : SizesOk sizes

abbrev pub level_size : List ℕ → List ℕ → List ℕ → List ℕ → ℕ → ℕ
level_size heads links classes sizes p = place_size heads links sizes (class_in classes p)

-- one level more
abbrev pub next_sizes : List ℕ → List ℕ → List ℕ → List ℕ → List ℕ
next_sizes heads links classes sizes = tabulate (level_size heads links classes sizes) 0 2052

pub record LevelDone (heads links classes sizes r : List ℕ) : Type 0 where
  pub next : r ≡ next_sizes heads links classes sizes
  pub ok : SizesOk r

-- what has a value of so many levels
unfoldable pub sizes_after : List ℕ → List ℕ → List ℕ → ℕ → List ℕ
sizes_after heads links classes zero = replicate 2052 0
sizes_after heads links classes (suc k) = next_sizes heads links classes (sizes_after heads links classes k)

pub record SettleAsks (heads links classes : List ℕ) : Type 0 where
  pub linked : Linked heads links
  pub ok : ClassesOk classes

pub record Settled (heads links classes : List ℕ) (levels : ℕ) (r : List ℕ) : Type 0 where
  pub sizes : r ≡ sizes_after heads links classes levels
  pub ok : SizesOk r
