-- The words that the code writes of a place are those of the definitions, of what is built of it.
use Prim.Native.Nat.{ℕ, zero, suc, ◌+◌, ◌-◌, ◌*◌, ◌≤◌, ◌<◌, min}
use mathlib.Core.Bool.{Bool, true, false, cond, ◌&&◌, false≢true}
use mathlib.Core.List.{List, [], ◌∷◌, ◌++◌}
use mathlib.Core.Option.{Option, none, some}
use mathlib.Core.Path.{◌≡◌, refl, ap, ap₂, sym, ◌∙◌}
use native.Mathlib.Omega.{arith}
use lib.Dec.{eqb, leb}
use lib.ListN.{length, get_or}
use Rattle.literal.specs.Literal.{Literal, null, number, string}
use Rattle.table.specs.Tables.{Tables, node_count, kind_of, first_word_of, count_of}
use Rattle.base.specs.Lists.{part}
use Rattle.literal.specs.Reading.{has_number}
use Rattle.literal.specs.Reading as Reading
use Rattle.literal.specs.declared.LiteralRef.TheVariants.{False, True}
use Rattle.table.specs.Decode.{literal_at, literal_node, literal_in, ref_by, ref_of}
use Rattle.table.specs.Rules.{words_ok, span_ok, children_below, node_ok, node_ok_at}
use Rattle.base.specs.Lists.{all_from}
use Rattle.table.proofs.tests.Bools.{and_true}
use Rattle.table.proofs.trees.Facts.{from_zero, passed, followed}
use Rattle.table.specs.Check.{checked}
use Rattle.base.specs.Refusal as Refusal
use Rattle.scope.specs.declared.Scope.{Scope}
use borrow.Author.Tests.{ne_eqb, eqb-true, leb-true, leb-false}
use Rattle.value.specs.Value.{Value, literalᵛ}
use Rattle.common_example.specs.Overlap.{Template, hole, literalᵗ, arrayᵗ, objectᵗ, Templates, noneᵗ, itemᵗ, TemplateFields, doneᵗ, fieldᵗ, put_in, put_all, put_fields, example, size, size_all, size_fields}
use Rattle.common_example.specs.Unify.{build_items, build_fields, build_head, build}
use Rattle.common_example.specs.Operations.{is_like, words_like, node_like, child_entries, child_entries_all, child_entries_fields, count_items_lem, count_fieldsᵛ, literal_words, node_words, node_words_all, node_words_fields, child_words_lem, child_words_all, child_words_fields, item_nodes, field_nodes}
use Rattle.common_example.specs.code.Graph.{kind_at, start_at, count_at, items_at, keyed_at, head_by, head_at, Told, Linked, step_by, link_by}
use Rattle.common_example.specs.code.Classes.{class_in, ClassesOk}
use Rattle.common_example.specs.code.Sizes.{sizes_after}
use Rattle.common_example.specs.code.Writing.{node_entry, literal_entry, key_words, key_number, part_sizes, part_entries, part_numbers, part_nodes, part_children, parent_nodes, parent_children, place_nodes, place_children, PartsFit, Fit, Copied}
use Rattle.common_example.proofs.unify.Building.{and_item_back, and_field_back, of_items_back, of_fields_back, build_upto}
use Rattle.common_example.proofs.loops.sizes.LevelSizes.{built_size, level_sizes}
use Rattle.common_example.proofs.written.Sizes.{entries_size}
use Rattle.common_example.proofs.written.ReadBack.{node_like_lem, literal_kind_lem}

abbrev nulls : ℕ → Value
nulls x = literalᵛ 0 null

module _ (T : Tables) (literal_of : ℕ → Literal) (heads links classes sizes : List ℕ) where
  abbrev built : ℕ → ℕ → Option (Template ℕ)
  built r p = build (head_at literal_of heads links) (class_in classes) r p

  abbrev W : ℕ → ℕ → ℕ → List ℕ
  W r = place_nodes T.nodes heads links classes sizes r

  abbrev C : ℕ → ℕ → ℕ → List ℕ
  C r = place_children heads links classes sizes r

  -- a place's words and its size are those of its template
  pub record Stand (r p : ℕ) (t : Template ℕ) : Type 0 where
    pub fit : Fit heads links classes sizes r p
    pub sized : get_or sizes p 0 ≡ size (example t)
    pub nodes_are : (e : ℕ) → W r p e ≡ node_words T (example t) e
    pub children_are : (b : ℕ) → C r p b ≡ child_words_lem (example t) b

  record ItemsStand (r at k : ℕ) (ts : Templates ℕ) : Type 0 where
    pub fits : (i : ℕ) → i < k → Fit heads links classes sizes r (get_or links (at + i * 4) 0)
    pub sizes_are : part_sizes links sizes 4 at k ≡ size_all (put_all nulls ts)
    pub entries_are : part_entries links sizes 4 at k ≡ child_entries_all (put_all nulls ts)
    pub counted : k ≡ count_items_lem (put_all nulls ts)
    pub nodes_are : (e : ℕ) → part_nodes links sizes 4 T.nodes (W r) at k e ≡ node_words_all T (put_all nulls ts) e
    pub children_are : (b : ℕ) → part_children links sizes 4 (C r) at k b ≡ child_words_all (put_all nulls ts) b
    pub numbers_are : (b : ℕ) → part_numbers links sizes 4 at k b ≡ item_nodes (put_all nulls ts) b

  record FieldsStand (r at k : ℕ) (ts : TemplateFields ℕ) : Type 0 where
    pub fits : (i : ℕ) → i < k → Fit heads links classes sizes r (get_or links (at + 4 + i * 8) 0)
    pub sizes_are : part_sizes links sizes 8 (at + 4) k ≡ size_fields (put_fields nulls ts)
    pub entries_are : part_entries links sizes 8 (at + 4) k ≡ child_entries_fields (put_fields nulls ts)
    pub counted : k ≡ count_fieldsᵛ (put_fields nulls ts)
    pub nodes_are : (e : ℕ) → part_nodes links sizes 8 T.nodes (W r) (at + 4) k e ≡ node_words_fields T (put_fields nulls ts) e
    pub children_are : (b : ℕ) → part_children links sizes 8 (C r) (at + 4) k b ≡ child_words_fields (put_fields nulls ts) b
    pub numbers_are : (b : ℕ) → part_numbers links sizes 8 (at + 4) k b ≡ field_nodes (put_fields nulls ts) b

  -- 1. one part more
  items_none : (r at : ℕ) → ItemsStand r at 0 noneᵗ
  unfolding part_sizes part_entries part_nodes part_children part_numbers put_in size child_entries node_words child_words_lem
  items_none r at = record { fits = λ i lt. absurd (omega arith); sizes_are = refl; entries_are = refl; counted = refl; nodes_are = λ e. refl; children_are = λ b. refl; numbers_are = λ b. refl }

  item_more : (r at k : ℕ) (t : Template ℕ) (us : Templates ℕ) → Stand r (get_or links at 0) t → ItemsStand r (at + 4) k us → ItemsStand r at (suc k) (itemᵗ t us)
  unfolding part_sizes part_entries part_nodes part_children part_numbers key_words key_number put_in size child_entries node_words child_words_lem
  item_more r at k t us s rest =
      let z = s.sized in
      let x = rest.sizes_are in
      let y = rest.entries_are in
      let w = rest.counted in
      let n = entries_size (example t) in
      record {
        fits = first;
        sizes_are = omega (arith, z, x);
        entries_are = omega (arith, z, y, n);
        counted = omega (arith, w);
        nodes_are = λ e. let q : e + (get_or sizes (get_or links at 0) 0 - 1) ≡ e + child_entries (example t) = omega (arith, z, n) in
            ap₂ ◌++◌ (s.nodes_are e) (ap (λ (a : ℕ). part_nodes links sizes 4 T.nodes (W r) (at + 4) k a) q ∙ rest.nodes_are (e + child_entries (example t)));
        children_are = λ b. let o : b + 0 ≡ b = omega arith in let q : b + 0 + get_or sizes (get_or links at 0) 0 ≡ b + size (example t) = omega (arith, z) in
            ap₂ ◌++◌ (ap (C r (get_or links at 0)) o ∙ s.children_are b) (ap (λ (a : ℕ). part_children links sizes 4 (C r) (at + 4) k a) q ∙ rest.children_are (b + size (example t)));
        numbers_are = λ b. let q : b + 0 + get_or sizes (get_or links at 0) 0 ≡ b + size (example t) = omega (arith, z) in
            ap (λ (a : ℕ). a ∷ part_numbers links sizes 4 (at + 4) k a) q ∙ ap (λ (l : List ℕ). (b + size (example t)) ∷ l) (rest.numbers_are (b + size (example t)));
      }
    where
      first : (i : ℕ) → i < suc k → Fit heads links classes sizes r (get_or links (at + i * 4) 0)
      first zero lt = let q : at + 0 * 4 ≡ at = omega arith in rw q s.fit
      first (suc i) lt = let q : at + suc i * 4 ≡ at + 4 + i * 4 = omega arith in rw q (rest.fits i (omega arith))

  fields_none : (r at : ℕ) → FieldsStand r at 0 doneᵗ
  unfolding part_sizes part_entries part_nodes part_children part_numbers put_in size child_entries node_words child_words_lem
  fields_none r at = record { fits = λ i lt. absurd (omega arith); sizes_are = refl; entries_are = refl; counted = refl; nodes_are = λ e. refl; children_are = λ b. refl; numbers_are = λ b. refl }

  field_more : (r at k : ℕ) (key : Literal) (t : Template ℕ) (us : TemplateFields ℕ) → literal_entry T.nodes (get_or links (at + 2) 0) ≡ literal_words T key → Stand r (get_or links (at + 4) 0) t → FieldsStand r (at + 8) k us → FieldsStand r at (suc k) (fieldᵗ key t us)
  unfolding part_sizes part_entries part_nodes part_children part_numbers key_words key_number put_in size child_entries node_words child_words_lem
  field_more r at k key t us c s rest =
      let z = s.sized in
      let m : at + 4 + 8 ≡ at + 8 + 4 = omega arith in
      let x : part_sizes links sizes 8 (at + 4 + 8) k ≡ size_fields (put_fields nulls us) = rw m rest.sizes_are in
      let y : part_entries links sizes 8 (at + 4 + 8) k ≡ child_entries_fields (put_fields nulls us) = rw m rest.entries_are in
      let w = rest.counted in
      let n = entries_size (example t) in
      let j : at + 4 - 2 ≡ at + 2 = omega arith in
      record {
        fits = first;
        sizes_are = omega (arith, z, x);
        entries_are = omega (arith, z, y, n);
        counted = omega (arith, w);
        nodes_are = λ e. let q : e + (get_or sizes (get_or links (at + 4) 0) 0 - 1) ≡ e + child_entries (example t) = omega (arith, z, n) in
            ap₂ ◌++◌ (ap (λ (a : ℕ). literal_entry T.nodes (get_or links a 0)) j ∙ c)
            (ap₂ ◌++◌ (s.nodes_are e) (ap₂ (λ (l a : ℕ). part_nodes links sizes 8 T.nodes (W r) l k a) m q ∙ rest.nodes_are (e + child_entries (example t))));
        children_are = λ b. let q : b + 1 + get_or sizes (get_or links (at + 4) 0) 0 ≡ b + 1 + size (example t) = omega (arith, z) in
            ap₂ ◌++◌ (s.children_are (b + 1)) (ap₂ (λ (l a : ℕ). part_children links sizes 8 (C r) l k a) m q ∙ rest.children_are (b + 1 + size (example t)));
        numbers_are = λ b. let q : b + 1 + get_or sizes (get_or links (at + 4) 0) 0 ≡ b + 1 + size (example t) = omega (arith, z) in
            ap₂ (λ (l a : ℕ). (b + 1) ∷ (a ∷ part_numbers links sizes 8 l k a)) m q ∙ ap (λ (l : List ℕ). (b + 1) ∷ ((b + 1 + size (example t)) ∷ l)) (rest.numbers_are (b + 1 + size (example t)));
      }
    where
      first : (i : ℕ) → i < suc k → Fit heads links classes sizes r (get_or links (at + 4 + i * 8) 0)
      first zero lt = let q : at + 4 + 0 * 8 ≡ at + 4 = omega arith in rw q s.fit
      first (suc i) lt = let q : at + 4 + suc i * 8 ≡ at + 8 + 4 + i * 8 = omega arith in rw q (rest.fits i (omega arith))

  -- 2. all parts
  module _ (places : (i : ℕ) → get_or links i 0 < 2052) (r : ℕ) (each : (p : ℕ) (t : Template ℕ) → p < 2052 → built r p ≡ some t → size (example t) ≤ 512 → Stand r p t) where
    items_stand : (at k : ℕ) (ts : Templates ℕ) → build_items (built r) (items_at links at k) ≡ some ts → size_all (put_all nulls ts) ≤ 511 → ItemsStand r at k ts
    unfolding items_at build_items put_in size
    items_stand at zero ts e h = let q : noneᵗ ≡ ts = cc in rw (← q) (items_none r at)
    items_stand at (suc k) ts e h =
        let (t, us, a, b, c) = and_item_back (built r (get_or links at 0)) (build_items (built r) (items_at links (at + 4) k)) ts e in
        let h' : size (example t) + size_all (put_all nulls us) ≤ 511 = rw (← c) at h in
        rw (← c) (item_more r at k t us (each (get_or links at 0) t (places at) a (omega (arith, h'))) (items_stand (at + 4) k us b (omega (arith, h'))))

    fields_stand : (at k : ℕ) (ts : TemplateFields ℕ) → ((i : ℕ) → i < k → literal_entry T.nodes (get_or links (at + i * 8 + 2) 0) ≡ literal_words T (literal_of (get_or links (at + i * 8 + 2) 0)))
        → build_fields (built r) (keyed_at literal_of links at k) ≡ some ts → size_fields (put_fields nulls ts) ≤ 511 → FieldsStand r at k ts
    unfolding keyed_at build_fields put_in size
    fields_stand at zero ts keys e h = let q : doneᵗ ≡ ts = cc in rw (← q) (fields_none r at)
    fields_stand at (suc k) ts keys e h =
        let (t, us, a, b, c) = and_field_back (literal_of (get_or links (at + 2) 0)) (built r (get_or links (at + 4) 0)) (build_fields (built r) (keyed_at literal_of links (at + 8) k)) ts e in
        let h' : 1 + (size (example t) + size_fields (put_fields nulls us)) ≤ 511 = rw (← c) at h in
        let z : at + 0 * 8 + 2 ≡ at + 2 = omega arith in
        let key : literal_entry T.nodes (get_or links (at + 2) 0) ≡ literal_words T (literal_of (get_or links (at + 2) 0)) = rw z at (keys 0 (omega arith)) in
        rw (← c) (field_more r at k (literal_of (get_or links (at + 2) 0)) t us key (each (get_or links (at + 4) 0) t (places (at + 4)) a (omega (arith, h')))
        (fields_stand (at + 8) k us (λ i lt. let m : at + suc i * 8 + 2 ≡ at + 8 + i * 8 + 2 = omega arith in rw m at (keys (suc i) (omega arith))) b (omega (arith, h'))))

    -- 3. what a class's head says
    record HeadStand (kind start count here : ℕ) (t : Template ℕ) : Type 0 where
      pub leaf : kind ≤ 1 → here ≡ 1
      pub parent : 1 < kind → here ≡ 1 + part_sizes links sizes (step_by kind) (link_by kind start) count
      pub parts : 1 < kind → PartsFit (Fit heads links classes sizes r) links (step_by kind) (link_by kind start) count
      pub nodes_are : (e : ℕ) → cond (leb kind 1) (literal_entry T.nodes (cond (eqb kind 1) start 0)) (parent_nodes T.nodes heads links sizes (W r) kind (link_by kind start) count e) ≡ node_words T (example t) e
      pub children_are : (b : ℕ) → cond (leb kind 1) [] (parent_children heads links sizes (C r) kind (link_by kind start) count b) ≡ child_words_lem (example t) b

    module _ (q start count here : ℕ) (t : Template ℕ) (here_is : here ≡ size (example t)) (small : size (example t) ≤ 512) where
      free_stand : literal_entry T.nodes 0 ≡ literal_words T null → hole q ≡ t → HeadStand 0 start count here t
      unfolding put_in size node_words child_words_lem
      free_stand c e =
          let s : here ≡ 1 = here_is ∙ sym (ap (λ (x : Template ℕ). size (example x)) e) in
          record {
            leaf = λ h. s;
            parent = λ h. absurd (omega arith);
            parts = λ h. absurd (omega arith);
            nodes_are = λ x. c ∙ ap (λ (y : Template ℕ). node_words T (example y) x) e;
            children_are = λ x. ap (λ (y : Template ℕ). child_words_lem (example y) x) e;
          }

      leaf_stand : literal_entry T.nodes start ≡ literal_words T (literal_of start) → literalᵗ (literal_of start) ≡ t → HeadStand 1 start count here t
      unfolding put_in size node_words child_words_lem
      leaf_stand c e =
          let s : here ≡ 1 = here_is ∙ sym (ap (λ (x : Template ℕ). size (example x)) e) in
          record {
            leaf = λ h. s;
            parent = λ h. absurd (omega arith);
            parts = λ h. absurd (omega arith);
            nodes_are = λ x. c ∙ ap (λ (y : Template ℕ). node_words T (example y) x) e;
            children_are = λ x. ap (λ (y : Template ℕ). child_words_lem (example y) x) e;
          }

      array_stand : start + count * 4 < 2052 → (ts : Templates ℕ) → build_items (built r) (items_at links start count) ≡ some ts → arrayᵗ ts ≡ t → HeadStand 2 start count here t
      unfolding put_in size node_words child_words_lem child_entries
      array_stand i ts b e =
          let s : 1 + size_all (put_all nulls ts) ≡ size (example t) = ap (λ (x : Template ℕ). size (example x)) e in
          let all = items_stand start count ts b (omega (arith, s, small)) in
          let x = all.sizes_are in
          let y = all.entries_are in
          let w = all.counted in
          record {
            leaf = λ h. absurd (omega arith);
            parent = λ h. omega (arith, here_is, s, x);
            parts = λ h. record { inside = omega arith; low = omega arith; high = omega arith; keys = λ k. absurd (omega arith); each = all.fits };
            nodes_are = λ z. ap₂ ◌++◌ (all.nodes_are z) (ap₂ (λ (a c : ℕ). node_entry 7 (z + a) c) y w) ∙ ap (λ (u : Template ℕ). node_words T (example u) z) e;
            children_are = λ z. ap₂ ◌++◌ (all.children_are z) (all.numbers_are z) ∙ ap (λ (u : Template ℕ). child_words_lem (example u) z) e;
          }

      object_stand : start + count * 8 < 2052 → ((i : ℕ) → i < count → literal_entry T.nodes (get_or links (start + i * 8 + 2) 0) ≡ literal_words T (literal_of (get_or links (start + i * 8 + 2) 0)))
          → (ts : TemplateFields ℕ) → build_fields (built r) (keyed_at literal_of links start count) ≡ some ts → objectᵗ ts ≡ t → HeadStand 3 start count here t
      unfolding put_in size node_words child_words_lem child_entries
      object_stand i keys ts b e =
          let s : 1 + size_fields (put_fields nulls ts) ≡ size (example t) = ap (λ (x : Template ℕ). size (example x)) e in
          let all = fields_stand start count ts keys b (omega (arith, s, small)) in
          let x = all.sizes_are in
          let y = all.entries_are in
          let w = all.counted in
          record {
            leaf = λ h. absurd (omega arith);
            parent = λ h. omega (arith, here_is, s, x);
            parts = λ h. record { inside = omega arith; low = omega arith; high = omega arith; keys = λ k. omega arith; each = all.fits };
            nodes_are = λ z. ap₂ ◌++◌ (all.nodes_are z) (ap₂ (λ (a c : ℕ). node_entry 9 (z + a) c) y w) ∙ ap (λ (u : Template ℕ). node_words T (example u) z) e;
            children_are = λ z. ap₂ ◌++◌ (all.children_are z) (all.numbers_are z) ∙ ap (λ (u : Template ℕ). child_words_lem (example u) z) e;
          }

      head_stand : (kind : ℕ) → kind ≤ 3 → literal_entry T.nodes 0 ≡ literal_words T null → (kind ≡ 1 → literal_entry T.nodes start ≡ literal_words T (literal_of start))
          → (kind ≡ 2 → start + count * 4 < 2052) → (kind ≡ 3 → start + count * 8 < 2052)
          → (kind ≡ 3 → (i : ℕ) → i < count → literal_entry T.nodes (get_or links (start + i * 8 + 2) 0) ≡ literal_words T (literal_of (get_or links (start + i * 8 + 2) 0)))
          → build_head (built r) q (head_by literal_of links kind start count) ≡ some t → HeadStand kind start count here t
      head_stand zero h free leaves arrays objects keys e = free_stand free (cc)
      head_stand (suc zero) h free leaves arrays objects keys e = leaf_stand (leaves refl) (cc)
      head_stand (suc (suc zero)) h free leaves arrays objects keys e = let (ts, a, b) = of_items_back (build_items (built r) (items_at links start count)) t e in array_stand (arrays refl) ts a b
      head_stand (suc (suc (suc zero))) h free leaves arrays objects keys e = let (ts, a, b) = of_fields_back (build_fields (built r) (keyed_at literal_of links start count)) t e in object_stand (objects refl) (keys refl) ts a b
      head_stand (suc (suc (suc (suc k)))) h free leaves arrays objects keys e = absurd (omega arith)

  -- 4. every place
  module _ (linked : Linked heads links) (ok : ClassesOk classes) (copied : Copied T literal_of heads links) (levels : ℕ) (settled : sizes ≡ sizes_after heads links classes levels) where
    size_here : (r p : ℕ) (t : Template ℕ) → r ≤ levels → p < 2052 → built r p ≡ some t → size (example t) ≤ 512 → get_or sizes p 0 ≡ size (example t)
    size_here r p t h i e s =
        let m = build_upto (head_at literal_of heads links) (class_in classes) r levels h p t e in
        let l : get_or sizes p 0 ≡ min 513 (size (example t)) = ap (λ (x : List ℕ). get_or x p 0) settled ∙ (level_sizes heads links classes linked ok literal_of levels p i ∙ ap built_size m) in
        omega (arith, l, s)

    class_stand : (r : ℕ) (each : (p : ℕ) (t : Template ℕ) → p < 2052 → built r p ≡ some t → size (example t) ≤ 512 → Stand r p t) (q here : ℕ) (t : Template ℕ) → here ≡ size (example t) → size (example t) ≤ 512
        → build_head (built r) q (head_at literal_of heads links q) ≡ some t → HeadStand linked.places r each (kind_at heads q) (start_at heads q) (count_at heads q) here t
    unfolding head_at
    class_stand r each q here t z s e =
        head_stand linked.places r each q (start_at heads q) (count_at heads q) here t z s (kind_at heads q) (linked.kinds q) copied.free (copied.leaves q) (linked.arrays q) (linked.objects q) (λ k i lt. copied.keys q i k lt) e

    pub stand : (r p : ℕ) (t : Template ℕ) → r ≤ levels → p < 2052 → built r p ≡ some t → size (example t) ≤ 512 → Stand r p t
    unfolding build Fit place_nodes place_children
    stand zero p t h i e s = absurd (false≢true (cc))
    stand (suc r) p t h i e s =
        let z = size_here (suc r) p t h i e s in
        let a = class_stand r (λ x u y z w. stand r x u (omega arith) y z w) (class_in classes p) (get_or sizes p 0) t z s e in
        record { fit = record { leaf = a.leaf; parent = a.parent; parts = a.parts }; sized = z; nodes_are = a.nodes_are; children_are = a.children_are }

-- 5. what is copied: a literal's lowest node, and null's words, which are the same wherever null stands
module _ (T : Tables) where
  pub literal_copied : (l : Literal) (a : ℕ) → 1 ≤ a → node_like T l 1 (node_count T) ≡ some a → literal_entry T.nodes a ≡ literal_words T l
  unfolding literal_entry literal_words
  literal_copied l a h e = let q = ne_eqb a 0 (λ z. omega arith) in rw (q, e)

  like_range : (l : Literal) (n k m : ℕ) → node_like T l n k ≡ some m → (n ≤ m) × (m < n + k)
  unfolding node_like
  like_range l n zero m e = absurd (false≢true (cc))
  like_range l n (suc k) m e = go (is_like T l (literal_at T n)) (like_range l (n + 1) k m) e
    where
      go : (b : Bool) → (node_like T l (n + 1) k ≡ some m → (n + 1 ≤ m) × (m < n + 1 + k)) → cond b (some n) (node_like T l (n + 1) k) ≡ some m → (n ≤ m) × (m < n + suc k)
      go true f q = let r : n ≡ m = cc in (omega (arith, r), omega (arith, r))
      go false f q = let (a, b) = f q in (omega (arith, a), omega (arith, b))

  not_string : (b : Bool) (bs : List ℕ) → cond b (some (string bs)) none ≡ some null → ⊥
  not_string true bs e = false≢true (cc)
  not_string false bs e = false≢true (cc)

  not_number : (b c : Bool) (n : ℕ) → cond b (some (number c n)) none ≡ some null → ⊥
  not_number true c n e = false≢true (cc)
  not_number false c n e = false≢true (cc)

  not_boolean : (b : Bool) → Reading.literal_of T.numbers T.strings T.text (cond b False True) ≡ some null → ⊥
  unfolding Reading.literal_of
  not_boolean true e = false≢true (cc)
  not_boolean false e = false≢true (cc)

  null_kind : (kind first count : ℕ) → kind ≤ 5 → literal_in T.numbers T.strings T.text (ref_by kind first count) ≡ some null → kind ≡ 5
  unfolding Reading.literal_of
  null_kind zero first count h e = absurd (false≢true (cc))
  null_kind (suc zero) first count h e = absurd (not_string (leb (first + count) (length T.strings)) (part T.strings first count) e)
  null_kind (suc (suc zero)) first count h e = absurd (not_string (leb (first + count) (length T.text)) (part T.text first count) e)
  null_kind (suc (suc (suc zero))) first count h e = absurd (not_number (has_number T.numbers first) (eqb (get_or T.numbers (first * 2) 0) 1) (get_or T.numbers (first * 2 + 1) 0) e)
  null_kind (suc (suc (suc (suc zero)))) first count h e = absurd (not_boolean (eqb first 0) e)
  null_kind (suc (suc (suc (suc (suc zero))))) first count h e = refl
  null_kind (suc (suc (suc (suc (suc (suc k)))))) first count h e = absurd (omega arith)

  null_words : (kind first count n : ℕ) → kind ≡ 5 → words_ok T n kind first count ≡ true → (first ≡ 0) × (count ≡ 0)
  unfolding words_ok
  null_words kind first count n k e =
      let w : (eqb first 0 && eqb count 0) ≡ true = rw k at e in
      let (a, b) = and_true (eqb first 0) (eqb count 0) w in
      (eqb-true first 0 a, eqb-true count 0 b)

  -- of a table that passed the check
  pub null_checked : all_from (node_ok_at T) 0 (node_count T) ≡ true → literal_entry T.nodes 0 ≡ literal_words T null
  unfolding literal_entry literal_words node_ok literal_node ref_of
  null_checked ok = go (node_like T null 1 (node_count T)) refl
    where
      words : (n : ℕ) → 1 ≤ n → n < 1 + node_count T → words_ok T n (kind_of T.nodes n) (first_word_of T.nodes n) (count_of T.nodes n) ≡ true
      words n l h =
          let z : n - 1 + 1 ≡ n = omega arith in
          let a : node_ok T n ≡ true = rw z at (from_zero (node_ok_at T) (node_count T) ok (n - 1) (omega arith)) in
          let b = and_true (span_ok T n) (words_ok T n (kind_of T.nodes n) (first_word_of T.nodes n) (count_of T.nodes n) && children_below T n) a in
          (and_true (words_ok T n (kind_of T.nodes n) (first_word_of T.nodes n) (count_of T.nodes n)) (children_below T n) b.1).0

      few : (n : ℕ) → literal_at T n ≡ some null → kind_of T.nodes n ≤ 5
      few n e = under (kind_of T.nodes n) (λ k h q. literal_kind_lem T [] [] T n null e k h q)
        where
          under : (kind : ℕ) → ((k : ℕ) → 6 ≤ k → kind ≡ k → ⊥) → kind ≤ 5
          under kind f = split (leb kind 5) refl
            where
              split : (b : Bool) → leb kind 5 ≡ b → kind ≤ 5
              split true e = leb-true kind 5 e
              split false e = absurd (f kind (leb-false kind 5 e) refl)

      go : (o : Option ℕ) → node_like T null 1 (node_count T) ≡ o → node_entry 5 0 0 ≡ words_like T o
      go none e = refl
      go (some n) e =
          let (l, h) = like_range null 1 (node_count T) n e in
          let at = node_like_lem T [] [] null 1 (node_count T) n e in
          let k = null_kind (kind_of T.nodes n) (first_word_of T.nodes n) (count_of T.nodes n) (few n at) at in
          let (b, c) = null_words (kind_of T.nodes n) (first_word_of T.nodes n) (count_of T.nodes n) n k (words n l h) in
          rw (k, b, c)

-- Literals are told by their lowest nodes, so what is copied is right.
pub copied_from : (T : Tables) (s : Scope) → checked T s ≡ Refusal.passed → (literal_of : ℕ → Literal) (heads links : List ℕ) (told : Told literal_of heads links)
    → ((a : ℕ) → told.is_node a ≡ true → (1 ≤ a) × (node_like T (literal_of a) 1 (node_count T) ≡ some a)) → Copied T literal_of heads links
copied_from T s e literal_of heads links told lowest = record {
  free = null_checked T (followed T s (passed T s e).rules).nodes;
  leaves = λ p k. here (start_at heads p) (told.leaves p k);
  keys = λ p i k lt. here (get_or links (start_at heads p + i * 8 + 2) 0) (told.keys p i k lt);
}
  where
    here : (a : ℕ) → told.is_node a ≡ true → literal_entry T.nodes a ≡ literal_words T (literal_of a)
    here a h = let (l, q) = lowest a h in literal_copied T (literal_of a) a l q
