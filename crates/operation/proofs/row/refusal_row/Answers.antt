use Rattle.operation.proofs.RowLaws.{row_is, row_table}
use borrow.Author.Rules.{rules}
use Rattle.operation.proofs.row.refusal_row.Goals as goal

pub returns-in-TableRefused : goal.returns-in-TableRefused
returns-in-TableRefused c = search (row_table, rules)

pub returns-in-RootOutside : goal.returns-in-RootOutside
returns-in-RootOutside c = search (row_is, rules)

pub returns-in-PlanTooLarge : goal.returns-in-PlanTooLarge
returns-in-PlanTooLarge c = search (row_is, rules)

pub returns-in-ColonEqualsRequiresBindableLeft : goal.returns-in-ColonEqualsRequiresBindableLeft
returns-in-ColonEqualsRequiresBindableLeft c = search (row_is, rules)

pub returns-in-ArraySizeMismatch : goal.returns-in-ArraySizeMismatch
returns-in-ArraySizeMismatch c = search (row_is, rules)

pub returns-in-ArrayLengthMismatch : goal.returns-in-ArrayLengthMismatch
returns-in-ArrayLengthMismatch c = search (row_is, rules)

pub returns-in-ObjectLiteralKeysMismatch : goal.returns-in-ObjectLiteralKeysMismatch
returns-in-ObjectLiteralKeysMismatch c = search (row_is, rules)

pub returns-in-ObjectFieldCountMismatch : goal.returns-in-ObjectFieldCountMismatch
returns-in-ObjectFieldCountMismatch c = search (row_is, rules)

pub returns-in-ObjectKeyNotFound : goal.returns-in-ObjectKeyNotFound
returns-in-ObjectKeyNotFound c = search (row_is, rules)

pub returns-in-VariableAlreadyDefined : goal.returns-in-VariableAlreadyDefined
returns-in-VariableAlreadyDefined c = search (row_is, rules)

pub returns-in-IncompatibleDestructuringPatterns : goal.returns-in-IncompatibleDestructuringPatterns
returns-in-IncompatibleDestructuringPatterns c = search (row_is, rules)

pub returns-in-ReservedName : goal.returns-in-ReservedName
returns-in-ReservedName c = search (row_is, rules)
