-- What a contract says of a slice or an array of numbers that it is lent.
use Rattle.std.specs.Prelude.{ℕ, List}
use Rattle.std.specs.Borrow.{Bor, MutBor}
use denote.Triple.Both.{Both}

-- to read: as a `requires` names it; and as an `ensures` does, at entry and at exit
abbrev pub Slice : Type 0
Slice = Bor (List ℕ)

abbrev pub Slices : Type 0
Slices = Both Slice Slice

-- to write, likewise
abbrev pub MutSlice : Type 0
MutSlice = MutBor (List ℕ)

abbrev pub MutSlices : Type 0
MutSlices = Both MutSlice MutSlice

-- its contents at entry and at exit
abbrev pub old : MutSlices → List ℕ
old x = x.entry.now

abbrev pub new : MutSlices → List ℕ
new x = x.exit.now
