-- Bit words and bytes are two layouts of one scope. Converted and then called or asked, or called or asked and then converted, it comes to the
-- same: from any 128 marks of 0 to 31, at every number, 0 and above 128 included. The module Agreeing of proofs/ proves it.
use Rattle.std.specs.Prelude.{ℕ, ◌^◌, ◌≤◌, ◌<◌, ◌≡◌, Bool, true, length, get_or, Result}
use Rattle.std.specs.Result.{result_err}
use Rattle.base.specs.Refusal.{Tested}
use Rattle.scope.specs.declared.name_set.NameSet.{NameSet}
use Rattle.scope.specs.declared.Scope.{Scope}
use Rattle.scope.specs.declared.ByteScope.{ByteScope}
use Rattle.scope.specs.declared.ScopingMode.{ScopingMode}
use Rattle.scope.specs.declared.MarkOutside.{MarkOutside}
use Rattle.scope.specs.Names.{is_name}
use Rattle.scope.specs.Scope.{says, is_unbound, same_scope, bound_count, bind_variable, add_unbound_variable, child_of, new_scope, named, asked}
use Rattle.scope.specs.Bytes.{marks_ok, of_bytes, to_bytes, empty_bytes, conversion_of, ConvertedFrom}
use Rattle.scope.specs.Bytes as Bytes

-- bytes that a conversion accepts: 128 marks of 0 to 31
pub record Marks (b : ByteScope) : Type 0 where
  pub sized : length b.marks ≡ 128
  pub small : marks_ok b ≡ true

-- words of 64 bits, as every set and every scope of the code has
pub record Words (s : NameSet) : Type 0 where
  pub low : s.low < 2 ^ 64
  pub high : s.high < 2 ^ 64

pub record ScopeWords (s : Scope) : Type 0 where
  pub bound : Words s.bound
  pub here : Words s.here
  pub unbound : Words s.unbound
  pub local : Words s.local
  pub global : Words s.global

-- a call on a scope of either layout: its answer, and the scope after it
pub record Call (S : Type 0) : Type 0 where
  pub answer : Tested
  pub scope : S

abbrev pub call : {S : Type 0} → (S → ℕ → S) → S → ℕ → Call S
call f s x = record { answer = named x; scope = f s x }

-- a call on bytes, its scope then converted
abbrev pub then_converted : Call ByteScope → Call Scope
then_converted c = record { answer = c.answer; scope = of_bytes c.scope }

pub record CallsAgree (b : ByteScope) : Type 0 where
  pub bind : (x : ℕ) → call bind_variable (of_bytes b) x ≡ then_converted (call Bytes.bind_variable b x)
  pub add : (x : ℕ) → call add_unbound_variable (of_bytes b) x ≡ then_converted (call Bytes.add_unbound_variable b x)
  pub child : child_of (of_bytes b) ≡ of_bytes (Bytes.child_of b)

pub record QuestionsAgree (b : ByteScope) : Type 0 where
  pub names : (x : ℕ) → is_name x ≡ true → says (of_bytes b) x ≡ Bytes.says b x
  pub is_unbound_lem : (mode : ScopingMode) (x : ℕ) → asked x (is_unbound (of_bytes b) mode x) ≡ asked x (Bytes.is_unbound b mode x)
  pub same_scope_lem : (x : ℕ) → asked x (same_scope (of_bytes b) x) ≡ asked x (Bytes.same_scope b x)
  pub count : bound_count (of_bytes b) ≡ Bytes.bound_count b

-- the calls on bytes give bytes of the same kind, so that any run of calls agrees
pub record MarksKept (b : ByteScope) : Type 0 where
  pub bind : (x : ℕ) → Marks (Bytes.bind_variable b x)
  pub add : (x : ℕ) → Marks (Bytes.add_unbound_variable b x)
  pub child : Marks (Bytes.child_of b)

pub record AgreementPromise : Type 0 where
  pub new : (u : ℕ) (h : Bool) → new_scope u h ≡ of_bytes (empty_bytes u h)
  pub calls : (b : ByteScope) → Marks b → CallsAgree b
  pub questions : (b : ByteScope) → Marks b → QuestionsAgree b
  pub kept : (b : ByteScope) → Marks b → MarksKept b

-- Bytes come back as they were, and so do words; each has the other's form.
pub record ConversionPromise : Type 0 where
  pub there_and_back : (b : ByteScope) → Marks b → to_bytes (of_bytes b) ≡ b
  pub back_and_there : (s : Scope) → ScopeWords s → of_bytes (to_bytes s) ≡ s
  pub words : (b : ByteScope) → ScopeWords (of_bytes b)
  pub marks : (s : Scope) → Marks (to_bytes s)
  pub small : (b : ByteScope) → ((i : ℕ) → get_or b.marks i 0 ≤ 31) → marks_ok b ≡ true
  pub large : (b : ByteScope) → marks_ok b ≡ true → (i : ℕ) → get_or b.marks i 0 ≤ 31
  pub settled : (a c : Result Scope MarkOutside) → conversion_of a ≡ conversion_of c → result_err a ≡ result_err c
  pub whole : (b : ByteScope) (a c : Result Scope MarkOutside) → ConvertedFrom b a → ConvertedFrom b c → a ≡ c
