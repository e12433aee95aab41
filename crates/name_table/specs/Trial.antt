-- Additions worked out.
use Rattle.std.specs.Prelude.{ℕ, ◌≡◌, List, [], ◌∷◌}
use Rattle.base.specs.Refusal.{Line, line, refusal_line, over_limit, breaks_rules, equal_names, no_place}
use Rattle.table.specs.Tables.{Tables, tables}
use Rattle.name_table.specs.Adding.{add_outcome, add_line, names_after}

-- node 1 is the name x, the text is xyzx
abbrev pub xyzx : List ℕ → Tables
xyzx names = tables (6 ∷ (0 ∷ (1 ∷ (1 ∷ (0 ∷ []))))) [] [] names [] (120 ∷ (121 ∷ (122 ∷ (120 ∷ []))))

-- x and y, then a place that is free
abbrev pub roomy : List ℕ
roomy = 0 ∷ (1 ∷ (1 ∷ (1 ∷ (77 ∷ (88 ∷ [])))))

-- x and y, and no place
abbrev pub full : List ℕ
full = 0 ∷ (1 ∷ (1 ∷ (1 ∷ [])))

-- an answer and the name table afterwards
pub record AdditionShown : Type 0 where
  pub answer : Line
  pub names : List ℕ

abbrev pub shown : Line → List ℕ → AdditionShown
shown l names = record { answer = l; names = names }

abbrev pub adding : List ℕ → ℕ → ℕ → ℕ → AdditionShown
adding names used start size = let o = add_outcome (xyzx names) used start size in shown (add_line o) (names_after o names used start size)

pub record Addition : Type 0 where
  -- y; x, which stands twice in the text
  pub equal_bytes : adding roomy 2 1 1 ≡ shown (line 0 2 0 0) roomy
  pub other_place_lem : adding roomy 2 3 1 ≡ shown (line 0 1 0 0) roomy
  -- z; yz
  pub new : adding roomy 2 2 1 ≡ shown (line 0 3 1 0) (0 ∷ (1 ∷ (1 ∷ (1 ∷ (2 ∷ (1 ∷ []))))))
  pub longer : adding roomy 2 1 2 ≡ shown (line 0 3 1 0) (0 ∷ (1 ∷ (1 ∷ (1 ∷ (1 ∷ (2 ∷ []))))))
  -- y where only x is in use: the second place is taken, the third stays
  pub free : adding roomy 1 1 1 ≡ shown (line 0 2 1 0) roomy
  -- a range of no byte; one that ends past the text
  pub empty : adding roomy 2 0 0 ≡ shown (refusal_line breaks_rules) roomy
  pub past : adding roomy 2 3 2 ≡ shown (refusal_line breaks_rules) roomy
  -- no place for z; y needs none; 2 comes before 33
  pub no_room_lem : adding full 2 2 1 ≡ shown (refusal_line no_place) full
  pub needs_none : adding full 2 1 1 ≡ shown (line 0 2 0 0) full
  pub barred_first : adding full 2 3 2 ≡ shown (refusal_line breaks_rules) full
  -- the table check: an odd number of words, whether or not there is a place for y, and though x needs none
  pub half : adding (0 ∷ (1 ∷ (77 ∷ []))) 1 1 1 ≡ shown (refusal_line breaks_rules) (0 ∷ (1 ∷ (77 ∷ [])))
  pub half_more : adding (0 ∷ (1 ∷ (77 ∷ (88 ∷ (99 ∷ []))))) 1 1 1 ≡ shown (refusal_line breaks_rules) (0 ∷ (1 ∷ (77 ∷ (88 ∷ (99 ∷ [])))))
  pub half_needs_none : adding (0 ∷ (1 ∷ (77 ∷ []))) 1 0 1 ≡ shown (refusal_line breaks_rules) (0 ∷ (1 ∷ (77 ∷ [])))
  -- more names in use than places; than 128, which comes before all else; two of equal bytes
  pub beyond : adding full 3 1 1 ≡ shown (refusal_line breaks_rules) full
  pub over : adding full 129 1 1 ≡ shown (refusal_line over_limit) full
  pub over_first : adding (77 ∷ []) 129 1 1 ≡ shown (refusal_line over_limit) (77 ∷ [])
  pub twice : adding (0 ∷ (1 ∷ (3 ∷ (1 ∷ [])))) 2 1 1 ≡ shown (refusal_line equal_names) (0 ∷ (1 ∷ (3 ∷ (1 ∷ []))))
