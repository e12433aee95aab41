-- What the functions of `assignment` ask and say.
use Rattle.std.specs.Prelude.{ℕ, ◌≡◌, Bool, false, cond, ◌&&◌, List, [], eqb, Result}
use Rattle.scope.specs.declared.Scope.{Scope}
use Rattle.scope.specs.declared.ScopingMode.TheVariants.{AllowShadowing}
use Rattle.base.specs.Lent.{Slices, MutSlices, old, new}
use Rattle.table.specs.Tables.{Tables, tables, kind_of, first_word_of}
use Rattle.table.specs.Decode.{is_wildcard}
use Rattle.planner.specs.declared.Plan.{Plan}
use Rattle.planner.specs.declared.PlanRefusal.{PlanRefusal}
use Rattle.planner.specs.Layout.{top, entries}
use Rattle.planner.specs.Entries.{put_entries, read_entries}
use Rattle.planner.specs.Operations.{Answered, AnsweredIn, plan_of}
use Rattle.planner.specs.code.Post.{GoodPair}
use Rattle.checks.specs.declared.Reading.{Reading}
use Rattle.assignment.specs.Assignment.{bind_side, colon_equals_from, colon_equals_planned, wildcard_side}
use Rattle.assignment.specs.code.Previewing.{ReadAsks, side_entries, SideWritten}

-- a binding side with its plan in a scratch, and a value side
pub record BindAsks (T : Tables) (binding value : ℕ) (scratch : List ℕ) (count : ℕ) : Type 0 where
  pub pair : GoodPair T binding value
  pub read : ReadAsks scratch count

-- what is answered from the entries in the scratch: of a binding side, and of `:=`
abbrev pub SideBoundIn : MutSlices → Slices → Tables → ℕ → ℕ → ℕ → Reading → ℕ → Result Plan PlanRefusal → Type 0
SideBoundIn plan scratch T form binding value reading count r = AnsweredIn plan (bind_side T form binding value reading (read_entries scratch.entry.now 0 count)) r

abbrev pub ColonBoundIn : MutSlices → Slices → Tables → Scope → ℕ → ℕ → Reading → ℕ → Result Plan PlanRefusal → Type 0
ColonBoundIn plan scratch T s left right reading count r = AnsweredIn plan (colon_equals_from T s left right reading (read_entries scratch.entry.now 0 count)) r

-- an array against an object, by the kinds of their nodes
unfoldable pub opposed_kinds : ℕ → ℕ → Bool
opposed_kinds left right = cond (eqb left 7) (eqb right 9) (cond (eqb left 9) (eqb right 7) false)

-- is a node `_`? By its kind and its name
unfoldable pub underscore_at : List ℕ → List ℕ → List ℕ → ℕ → Bool
underscore_at nodes names text n = eqb (kind_of nodes n) 6 && is_wildcard (tables nodes [] [] names [] text) (first_word_of nodes n)

abbrev pub underscore_side : List ℕ → List ℕ → List ℕ → ℕ → ℕ → ℕ
underscore_side nodes names text left right = wildcard_side (underscore_at nodes names text left) (underscore_at nodes names text right)

-- the right side's entries, planned by the states
pub record RightBound (T : Tables) (states : List ℕ) (left right : ℕ) (reading : Reading) (start binders scratch before after : List ℕ) (r : Result Plan PlanRefusal) : Type 0 where
  pub answered : Answered (bind_side T 3 right left reading (side_entries T states right 0)) before after r
  pub written : SideWritten T states right 0 start binders scratch

abbrev pub RightBoundIn : MutSlices → MutSlices → MutSlices → Tables → List ℕ → ℕ → ℕ → Reading → Result Plan PlanRefusal → Type 0
RightBoundIn plan scratch binders T states left right reading r = RightBound T states left right reading (old scratch) (new binders) (new scratch) (old plan) (new plan) r

-- `:=`: the left side's entries stay in the scratch
abbrev pub ColonEqualsIn : MutSlices → MutSlices → Tables → Scope → ℕ → ℕ → Reading → Result Plan PlanRefusal → Type 0
ColonEqualsIn plan scratch T s left right reading r =
    AnsweredIn plan (colon_equals_planned T s left right reading) r × (new scratch ≡ put_entries (old scratch) 0 (entries (plan_of T s AllowShadowing left) top))
