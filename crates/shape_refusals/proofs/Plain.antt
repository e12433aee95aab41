-- Keys of differing text differ, so what is plain is simple.
use Prim.Native.Nat.{ℕ}
use mathlib.Core.Path.{◌≡◌, refl, ap}
use mathlib.Core.Bool.{◌&&◌, not}
use mathlib.Core.List.{List, [], ◌∷◌, map}
use mathlib.Core.Option.{Option}
use mathlib.Core.Option as Option
use lib.Dec.{T, T_not, not_T}
use Rattle.literal.specs.Literal.{Literal}
use Rattle.literal.specs.Text.{key_text}
use Rattle.table.specs.Names.{same_bytes}
use Rattle.table.specs.Expr.{Expr, literal, name, wildcard, array, set, object, other, Exprs, none, item, Fields, done, field}
use Rattle.table.proofs.tests.Bytes.{equal_same_bytes}
use Rattle.planner.specs.Layout.{literal_key}
use Rattle.planner.specs.Simple.{same_key, has_key, differing, add_key, keys_of, is_literal, admitted, simple, simple_all, simple_fields}
use Rattle.checks.specs.Structure.{text_or, key_texts}
use Rattle.value.proofs.Keys.{and_left, and_right, both, or_left, or_right, or_elim, true_is, key→}
use Rattle.shape_refusals.specs.Plain.{has_text, differing_texts, plain, plain_all_lem, plain_fields_lem}

-- an object's texts are its keys'
pub written_texts : (fs : Fields) → key_texts fs ≡ map key_text (keys_of fs)
unfolding key_texts keys_of
written_texts done = refl
written_texts (field k v fs) = go (literal_key k) (written_texts fs)
  where
    go : (κ : Option Literal) → key_texts fs ≡ map key_text (keys_of fs) → text_or κ (key_texts fs) ≡ map key_text (add_key κ (keys_of fs))
    go Option.none h = h
    go (Option.some l) h = ap (λ (ts : List (List ℕ)). key_text l ∷ ts) h

-- a key that is there has its text there
has_text_lem : (k : Literal) (ks : List Literal) → T (has_key k ks) → T (has_text (key_text k) (map key_text ks))
unfolding has_key has_text
has_text_lem k [] t = t
has_text_lem k (j ∷ ks) t =
    or_elim (same_key k j) (has_key k ks) t (λ e. or_left (same_bytes (key_text k) (key_text j)) (has_text (key_text k) (map key_text ks)) (true_is (equal_same_bytes (key_text k) (key_text j) (ap key_text (key→ k j e)))))
    (λ h. or_right (same_bytes (key_text k) (key_text j)) (has_text (key_text k) (map key_text ks)) (has_text_lem k ks h))

-- keys of differing text differ
texts_differ_lem : (ks : List Literal) → T (differing_texts (map key_text ks)) → T (differing ks)
unfolding differing differing_texts
texts_differ_lem [] t = t
texts_differ_lem (k ∷ ks) t =
    both (not (has_key k ks)) (differing ks)
    (not_T (has_key k ks) (λ h. T_not (has_text (key_text k) (map key_text ks)) (and_left (not (has_text (key_text k) (map key_text ks))) (differing_texts (map key_text ks)) t) (has_text_lem k ks h)))
    (texts_differ_lem ks (and_right (not (has_text (key_text k) (map key_text ks))) (differing_texts (map key_text ks)) t))

mutual
  unfolding plain admitted

  pub plain_simple : (e : Expr) → T (plain e) → T (simple e)
  plain_simple (literal n l) t = t
  plain_simple (name n x) t = t
  plain_simple (wildcard n) t = t
  plain_simple (array n es) t = plain_simple_all es t
  plain_simple (set n es) t = t
  plain_simple (object n fs) t =
      both (differing (keys_of fs)) (simple_fields fs) (texts_differ_lem (keys_of fs) (rw (written_texts fs) at (and_left (differing_texts (key_texts fs)) (plain_fields_lem fs) t)))
      (plain_simple_fields fs (and_right (differing_texts (key_texts fs)) (plain_fields_lem fs) t))
  plain_simple (other n) t = t

  plain_simple_all : (es : Exprs) → T (plain_all_lem es) → T (simple_all es)
  plain_simple_all none t = t
  plain_simple_all (item e es) t = both (simple e) (simple_all es) (plain_simple e (and_left (plain e) (plain_all_lem es) t)) (plain_simple_all es (and_right (plain e) (plain_all_lem es) t))

  plain_simple_fields : (fs : Fields) → T (plain_fields_lem fs) → T (simple_fields fs)
  plain_simple_fields done t = t
  plain_simple_fields (field k v fs) t =
      let u = and_right (is_literal (literal_key k)) (plain v && plain_fields_lem fs) t in
      both (is_literal (literal_key k)) (simple v && simple_fields fs) (and_left (is_literal (literal_key k)) (plain v && plain_fields_lem fs) t)
      (both (simple v) (simple_fields fs) (plain_simple v (and_left (plain v) (plain_fields_lem fs) u)) (plain_simple_fields fs (and_right (plain v) (plain_fields_lem fs) u)))
