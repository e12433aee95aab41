-- The literal that a reference says, read from the lent stores: numbers (two words each), string bytes, text bytes.
use Rattle.std.specs.Prelude.{ℕ, ◌+◌, ◌*◌, Bool, true, false, cond, ◌&&◌, List, [], ◌++◌, ◌≡◌, eqb, leb, length, get_or, drop}
use Rattle.std.proofs.Math.Option.{Option, none, some}
use Rattle.base.specs.Lists.{part}
use Rattle.literal.specs.Literal.{Literal, null, boolean, number, string, is_number}
use Rattle.literal.specs.Text.{key_text}
use Rattle.literal.specs.declared.LiteralRef.{LiteralRef}
use Rattle.literal.specs.declared.LiteralRef.TheVariants.{Null, False, True, Number, String, RawString}
use Rattle.literal.specs.declared.KeyText.{KeyText}
use Rattle.literal.specs.declared.KeyText.TheVariants.{Lent, Written, NoText}

-- is the place below the count of numbers, and do its two words say one?
abbrev pub has_number : List ℕ → ℕ → Bool
has_number numbers place =
    leb (place * 2 + 2) (length numbers) && is_number (get_or numbers (place * 2) 0) (get_or numbers (place * 2 + 1) 0)

abbrev pub number_at : List ℕ → ℕ → Option Literal
number_at numbers place =
    cond (has_number numbers place)
    (some (number (eqb (get_or numbers (place * 2) 0) 1) (get_or numbers (place * 2 + 1) 0)))
    none

-- the string of a range of a byte store, if it ends no later than the store
abbrev pub string_at : List ℕ → ℕ → ℕ → Option Literal
string_at bytes start count = cond (leb (start + count) (length bytes)) (some (string (part bytes start count))) none

unfoldable pub literal_of : List ℕ → List ℕ → List ℕ → LiteralRef → Option Literal
literal_of numbers strings text Null = some null
literal_of numbers strings text False = some (boolean false)
literal_of numbers strings text True = some (boolean true)
literal_of numbers strings text (Number place) = number_at numbers place
literal_of numbers strings text (String start count) = string_at strings start count
literal_of numbers strings text (RawString start count) = string_at text start count

-- The text of a key that is lent back: a string's bytes; of no other reference any.
abbrev pub string_bytes : Option Literal → List ℕ
string_bytes none = []
string_bytes (some null) = []
string_bytes (some (boolean b)) = []
string_bytes (some (number s n)) = []
string_bytes (some (string bs)) = bs

-- the bytes of a string; of no other reference any
abbrev pub bytes_of : List ℕ → List ℕ → LiteralRef → List ℕ
bytes_of strings text l = string_bytes (literal_of [] strings text l)

-- Where the text of a key stands: lent, or written into the caller's array.
unfoldable pub key_text_of : Option Literal → KeyText
key_text_of none = NoText
key_text_of (some null) = Written (length (key_text null))
key_text_of (some (boolean b)) = Written (length (key_text (boolean b)))
key_text_of (some (number s n)) = Written (length (key_text (number s n)))
key_text_of (some (string bs)) = Lent

-- the caller's array afterwards: a written text, then what stood there
unfoldable pub written_over : Option Literal → List ℕ → List ℕ
written_over none out = out
written_over (some null) out = key_text null ++ drop (length (key_text null)) out
written_over (some (boolean b)) out = key_text (boolean b) ++ drop (length (key_text (boolean b))) out
written_over (some (number s n)) out = key_text (number s n) ++ drop (length (key_text (number s n))) out
written_over (some (string bs)) out = out

-- what writing the text of a key answers and leaves in the caller's array
pub record TextDone (l : Option Literal) (before after : List ℕ) (r : KeyText) : Type 0 where
  pub answer : r ≡ key_text_of l
  pub array : after ≡ written_over l before
