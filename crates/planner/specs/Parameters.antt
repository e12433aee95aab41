-- Validation of a pattern's names (collect_pattern_var_spans, validate_pattern_bindings).
use Rattle.std.specs.Prelude.{ℕ, Bool, ◌&&◌, not, List}
use Rattle.base.specs.Lists.{elem}

-- A name is defined already if it is not `input` or `data`, the pattern did not plan it, and RespectParent says it is known.
abbrev pub already_defined : (ℕ → Bool) → (ℕ → Bool) → List ℕ → ℕ → Bool
already_defined reserved unbound newlyBound x = not (reserved x) && (not (elem x newlyBound) && not (unbound x))
