-- Bytes and literals, as the comparisons of crate literal tell of them.
use Prim.Native.Nat.{ℕ}
use mathlib.Core.Path.{◌≡◌, refl, sym, ap, ◌∙◌}
use mathlib.Core.List.{List}
use mathlib.Core.Bool.{Bool, true, false, false≢true}
use mathlib.Core.Option.{Option, none, some}
use lib.ListN.{length}
use Rattle.literal.specs.Literal.{Literal}
use Rattle.literal.specs.Order.{Order, less, same, more, bytes_order, comparison_of, compared}
use Rattle.literal.specs.Text.{text_compared, texts_compared}
use Rattle.literal.specs.Reading.{literal_of}
use Rattle.literal.specs.declared.LiteralRef.{LiteralRef}
use Rattle.literal.specs.declared.Comparison.{Comparison}
use Rattle.literal.specs.declared.Comparison.TheVariants.{Less, Equal, Greater, NoLiteral}
use Rattle.literal.proofs.Orders.{bytes_order_lem}
use Rattle.table.specs.declared.Key.{Key}
use Rattle.table.specs.declared.Key.TheVariants.{Computed}
use Rattle.table.specs.declared.NameClass.TheVariants.{Underscore, InputOrData, Ordinary}
use Rattle.table.specs.Tables.{name_bytes}
use Rattle.table.specs.Decode.{ref_of, literal_node}
use Rattle.table.specs.Names.{is_same, same_bytes, underscore_bytes, input_bytes, data_bytes, class_of}
use Rattle.table.proofs.tests.Bools.{never}

is_same_lem : (o : Order) → is_same o ≡ true → o ≡ same
is_same_lem less e = absurd (false≢true e)
is_same_lem same e = refl
is_same_lem more e = absurd (false≢true e)

pub same_bytes_equal : (xs ys : List ℕ) → same_bytes xs ys ≡ true → xs ≡ ys
unfolding same_bytes
same_bytes_equal xs ys e = bytes_order_lem.equal xs ys (is_same_lem (bytes_order xs ys) e)

pub equal_same_bytes : (xs ys : List ℕ) → xs ≡ ys → same_bytes xs ys ≡ true
unfolding same_bytes
equal_same_bytes xs ys e = rw e (ap is_same (bytes_order_lem.reflexive ys))

pub unequal_bytes : (xs ys : List ℕ) → (xs ≡ ys → ⊥) → false ≡ same_bytes xs ys
unequal_bytes xs ys ne = go (same_bytes xs ys) refl
  where
    go : (b : Bool) → same_bytes xs ys ≡ b → false ≡ same_bytes xs ys
    go true e = absurd (ne (same_bytes_equal xs ys e))
    go false e = sym e

pub other_length : (xs ys : List ℕ) → (length xs ≡ length ys → ⊥) → false ≡ same_bytes xs ys
other_length xs ys ne = unequal_bytes xs ys (λ e. ne (ap length e))

-- the answer of the comparison
equal_told : (o : Order) → comparison_of o ≡ Equal → is_same o ≡ true
equal_told less e = never (cc)
equal_told same e = refl
equal_told more e = never (cc)

other_told : (o : Order) → (comparison_of o ≡ Equal → ⊥) → is_same o ≡ false
other_told less e = refl
other_told same e = absurd (e refl)
other_told more e = refl

module _ (xs ys : List ℕ) {o : Comparison} (is : o ≡ comparison_of (bytes_order xs ys)) where
  pub same_equal : o ≡ Equal → true ≡ same_bytes xs ys
  unfolding same_bytes
  same_equal e = sym (equal_told (bytes_order xs ys) (sym is ∙ e))

  differ_by : (o ≡ Equal → ⊥) → false ≡ same_bytes xs ys
  unfolding same_bytes
  differ_by ne = sym (other_told (bytes_order xs ys) (λ e. ne (is ∙ e)))

  pub same_less : o ≡ Less → false ≡ same_bytes xs ys
  same_less e = differ_by (λ h. never (cc))

  pub same_greater : o ≡ Greater → false ≡ same_bytes xs ys
  same_greater e = differ_by (λ h. never (cc))

  pub same_none : o ≡ NoLiteral → false ≡ same_bytes xs ys
  same_none e = differ_by (λ h. never (cc))

-- the class of a name
module _ (names text bytes : List ℕ) (x : ℕ) (is : bytes ≡ name_bytes names text x) {u : Bool} (a : u ≡ same_bytes bytes underscore_bytes) where
  pub class_underscore : u ≡ true → Underscore ≡ class_of (name_bytes names text x)
  unfolding class_of
  class_underscore t = rw (← is) (simp (sym a ∙ t))

  module _ (f : u ≡ false) {i : Bool} (b : i ≡ same_bytes bytes input_bytes) where
    pub class_input : i ≡ true → InputOrData ≡ class_of (name_bytes names text x)
    unfolding class_of
    class_input t = rw (← is) (simp (sym a ∙ f, sym b ∙ t))

    module _ (g : i ≡ false) {d : Bool} (e : d ≡ same_bytes bytes data_bytes) where
      pub class_data : d ≡ true → InputOrData ≡ class_of (name_bytes names text x)
      unfolding class_of
      class_data t = rw (← is) (simp (sym a ∙ f, sym b ∙ g, sym e ∙ t))

      pub class_other : d ≡ false → Ordinary ≡ class_of (name_bytes names text x)
      unfolding class_of
      class_other t = rw (← is) (simp (sym a ∙ f, sym b ∙ g, sym e ∙ t))

-- two nodes' literals, compared in a way that knows of no literal
pub record Compares (f : Option Literal → Option Literal → Comparison) : Type 0 where
  pub left : (b : Option Literal) → f none b ≡ NoLiteral
  pub right : (a : Option Literal) → f a none ≡ NoLiteral

pub by_order : Compares compared
unfolding compared
by_order = record { left = λ b. refl; right = go }
  where
    go : (a : Option Literal) → compared a none ≡ NoLiteral
    go none = refl
    go (some l) = refl

pub by_text : Compares texts_compared
unfolding texts_compared text_compared
by_text = record { left = λ b. refl; right = go }
  where
    go : (a : Option Literal) → texts_compared a none ≡ NoLiteral
    go none = refl
    go (some l) = refl

-- a node that refers to a literal
pub node_refers : (nodes numbers strings text : List ℕ) (n : ℕ) {k : Key} {l : LiteralRef} → k ≡ ref_of nodes n → k ≡ Key.Literal l → literal_of numbers strings text l ≡ literal_node nodes numbers strings text n
unfolding literal_node
node_refers nodes numbers strings text n is e = rw (← is, e)

node_computed : (nodes numbers strings text : List ℕ) (n : ℕ) {k : Key} → k ≡ ref_of nodes n → k ≡ Computed → literal_node nodes numbers strings text n ≡ none
unfolding literal_node
node_computed nodes numbers strings text n is e = rw (← is, e)

module _ {f : Option Literal → Option Literal → Comparison} (by : Compares f) (nodes numbers strings text : List ℕ) {k : Key} where
  module _ (x : Option Literal) (n : ℕ) (is : k ≡ ref_of nodes n) where
    pub right_none : k ≡ Computed → NoLiteral ≡ f x (literal_node nodes numbers strings text n)
    right_none e = rw (node_computed nodes numbers strings text n is e) (sym (by.right x))

    pub right_literal : {l : LiteralRef} {r : Comparison} → k ≡ Key.Literal l → r ≡ f x (literal_of numbers strings text l) → r ≡ f x (literal_node nodes numbers strings text n)
    right_literal e h = rw (← node_refers nodes numbers strings text n is e) h

  module _ (n : ℕ) (y : Option Literal) (is : k ≡ ref_of nodes n) where
    pub left_none : k ≡ Computed → NoLiteral ≡ f (literal_node nodes numbers strings text n) y
    left_none e = rw (node_computed nodes numbers strings text n is e) (sym (by.left y))

    pub left_literal : {l : LiteralRef} {r : Comparison} → k ≡ Key.Literal l → r ≡ f (literal_of numbers strings text l) y → r ≡ f (literal_node nodes numbers strings text n) y
    left_literal e h = rw (← node_refers nodes numbers strings text n is e) h
