-- What a planning operation answers, as document 01's four numbers.
use Rattle.std.specs.Prelude.{ℕ, Result, Ok, Err}
use Rattle.planner.specs.declared.Plan.{Plan}
use Rattle.planner.specs.declared.PlanRefusal.{PlanRefusal}
use Rattle.planner.specs.declared.PlanRefusal.TheVariants.{TableRefused, RootOutside, PlanTooLarge, ColonEqualsRequiresBindableLeft, ArraySizeMismatch, ArrayLengthMismatch, ObjectLiteralKeysMismatch, ObjectFieldCountMismatch, ObjectKeyNotFound, VariableAlreadyDefined, IncompatibleDestructuringPatterns, ReservedName}
use Rattle.base.specs.Refusal.{Line, line, refusal_line, root_outside, plan_too_large, colon_equals_requires_bindable_left, array_size_mismatch, array_length_mismatch, object_literal_keys_mismatch, object_field_count_mismatch, object_key_not_found, variable_already_defined, incompatible_destructuring_patterns, reserved_name}
use Rattle.table.specs.Check.{table_refused}

-- a plan of such a form, side and number of entries
abbrev pub planned_as : ℕ → ℕ → ℕ → Result Plan PlanRefusal
planned_as form side entries = Ok (record { form = form; side = side; entries = entries })

abbrev pub line_of : Result Plan PlanRefusal → Line
line_of (Ok p) = line 0 p.form p.side p.entries
line_of (Err (TableRefused a)) = refusal_line (table_refused a)
line_of (Err RootOutside) = refusal_line root_outside
line_of (Err (PlanTooLarge needed)) = refusal_line (plan_too_large needed)
line_of (Err (ColonEqualsRequiresBindableLeft left)) = refusal_line (colon_equals_requires_bindable_left left)
line_of (Err (ArraySizeMismatch left size other)) = refusal_line (array_size_mismatch left size other)
line_of (Err (ArrayLengthMismatch value expected actual)) = refusal_line (array_length_mismatch value expected actual)
line_of (Err (ObjectLiteralKeysMismatch value pattern)) = refusal_line (object_literal_keys_mismatch value pattern)
line_of (Err (ObjectFieldCountMismatch left keys fields)) = refusal_line (object_field_count_mismatch left keys fields)
line_of (Err (ObjectKeyNotFound key)) = refusal_line (object_key_not_found key)
line_of (Err (VariableAlreadyDefined name)) = refusal_line (variable_already_defined name)
line_of (Err (IncompatibleDestructuringPatterns side)) = refusal_line (incompatible_destructuring_patterns side)
line_of (Err (ReservedName name)) = refusal_line (reserved_name name)
