-- The names report, from its marks to the list at the end.
use Prim.Native.Nat.{ℕ, suc, ◌+◌, ◌-◌, ◌*◌, ◌/◌, ◌≤◌, ◌<◌}
use mathlib.Core.Path.{◌≡◌, refl, sym, ap, ◌∙◌}
use mathlib.Core.List.{List, [], ◌∷◌}
use mathlib.Core.Bool.{Bool, true, false, cond, ◌||◌, not}
use native.Mathlib.Omega.{arith}
use borrow.Author.Tests.{eqb-true, eqb-false, eq-eqb, ne_eqb, le-leb, lt-leb, lt-ltb, le-ltb, ltb-true, ltb-false}
use lib.Dec.{eqb, leb, ltb}
use lib.ListN.{length, get_or, set, replicate, length-set, length-replicate}
use lib.Seq.{get_or-set_same, get_or-set_other, ext_get_or}
use Rattle.scope.specs.declared.Scope.{Scope}
use Rattle.scope.specs.declared.ScopingMode.{ScopingMode}
use Rattle.scope.specs.Scope.{is_unbound}
use Rattle.std.proofs.Common.{Result, Ok, Err}
use Rattle.table.specs.declared.TableRefusal.{TableRefusal}
use Rattle.table.specs.Tables.{Tables, first_word_of, name_count, is_node}
use Rattle.table.specs.Expr as Expr
use Rattle.table.specs.Expr.{Expr, literal, name, wildcard, array, object, other, Exprs, item, Fields, done, field, node_of}
use Rattle.table.specs.Decode.{expr}
use Rattle.base.specs.Lists.{elem, tabulate}
use Rattle.table.specs.Check.{table_refused, TableAnswered, tested_of, all_nodes}
use Rattle.table.specs.code.Sound.{Named}
use Rattle.table.proofs.tests.Bools.{told_no, told_yes}
use Rattle.base.specs.Refusal.{root_outside, list_too_short, Tested, tested_or}
use Rattle.planner.specs.Plan.{var, equality_expr, fresh, plan, plans, field_plans, after}
use Rattle.planner.specs.Layout.{Entry, Place, below, top, entry_words, literal_key, FieldOrder, no_fields, add_field, concat, entries, entries_all_lem, field_order, bound_names}
use Rattle.planner.specs.Operations.{plan_of}
use Rattle.planner.specs.code.Post.{pattern_words, Laid, PatternPlanned}
use Rattle.planner.specs.Entries.{read_entries}
use Rattle.planner.proofs.laws.Binders.{AllNames, AllNamesAll, AllNamesFields, names_all}
use Rattle.planner.proofs.buffer.Copies.{wrote_read}
use Rattle.planner.proofs.buffer.Filling.{length_tabulate, get_d_tabulate}
use Rattle.planner.proofs.laws.Operations.{sound_well, root_node}
use Rattle.matching.proofs.EntryLists.{AllE, all_append, all_at, AllOrder, all_none, all_add, all_order, blank, scratch_laid, scratch_kind, scratch_node}
use Rattle.report.specs.declared.ReportRefusal.{ReportRefusal}
use Rattle.report.specs.declared.ReportRefusal.TheVariants.{TableRefused, RootOutside, ListTooShort}
use Rattle.report.specs.Answer.{report_line}
use Rattle.report.specs.Report.{names_reported, reported, ReportOutcome, refused, filled, require, report_outcome, report_answer, report_list, ReportedBy}
use Rattle.report.specs.code.Post.{report_words, met_mark, EntryBound, marked_by, BoundAsks, BoundMarked, ReportAsks, PlannedMarked, ReportMarked}
use Rattle.report.proofs.KeyNames.{reported_mentioned}
use Rattle.report.proofs.Meeting.{word_at, mentioned_named}

-- the mark of a name that is met
module _ (met : List ℕ) (i : ℕ) where
  pub met_past : 128 ≤ i → 0 ≡ met_mark met i
  met_past le = let e = le-ltb i 128 le in rw e

  pub met_none : i < 128 → get_or met i 0 ≡ 0 → 0 ≡ met_mark met i
  met_none lt z = let e = lt-ltb i 128 lt in let f = eq-eqb (get_or met i 0) 0 z in rw (e, f)

  pub met_some : i < 128 → (get_or met i 0 ≡ 0 → ⊥) → 2 ≡ met_mark met i
  met_some lt nz = let e = lt-ltb i 128 lt in let f = ne_eqb (get_or met i 0) 0 nz in rw (e, f)

-- the mark of an entry that binds
module _ {nodes : List ℕ} {kind node : ℕ} {list : List ℕ} (a : EntryBound nodes kind node list) (one : kind ≡ 1) {first : ℕ} (is : first ≡ first_word_of nodes node) where
  pub bound_low : 1 ≤ first
  bound_low = rw is (a.inside one).0

  pub bound_place : first - 1 < length list
  bound_place = let l = bound_low in let h : first ≤ length list = rw is (a.inside one).1 in omega arith

module _ (nodes : List ℕ) (kind node : ℕ) (list : List ℕ) where
  pub marked_one : {first : ℕ} → kind ≡ 1 → first ≡ first_word_of nodes node → set list (first - 1) 1 ≡ marked_by nodes kind node list
  marked_one one is = let e = eq-eqb kind 1 one in rw (e, is)

  pub marked_none : (kind ≡ 1 → ⊥) → list ≡ marked_by nodes kind node list
  marked_none unlike = let e = ne_eqb kind 1 unlike in rw e

-- the entries in turn
pub record MarkingBound (nodes scratch : List ℕ) (count : ℕ) (before : List ℕ) (i : ℕ) (here : List ℕ) : Type 0 where
  pub asks : BoundAsks nodes scratch count before
  pub inside : i ≤ count
  pub long : length here ≡ length before
  pub same : (k : ℕ) → cond (elem (k + 1) (bound_names (first_word_of nodes) (read_entries scratch i (count - i)))) 1 (get_or here k 0) ≡ cond (elem (k + 1) (bound_names (first_word_of nodes) (read_entries scratch 0 count))) 1 (get_or before k 0)

pub bound_start : {nodes scratch : List ℕ} {count : ℕ} {before : List ℕ} → BoundAsks nodes scratch count before → MarkingBound nodes scratch count before 0 before
bound_start {nodes} {scratch} {count} {before} a = let z : count - 0 ≡ count = omega arith in record { asks = a; inside = omega arith; long = refl; same = λ k. rw z }

module _ {nodes scratch : List ℕ} {count : ℕ} {before : List ℕ} {i : ℕ} {here : List ℕ} (go : MarkingBound nodes scratch count before i here) where
  module _ (more : i < count) where
    pub bound_kind : i * entry_words < pattern_words
    bound_kind = let f = go.asks.few in omega arith

    pub bound_node : i * entry_words + 1 < pattern_words
    bound_node = let f = go.asks.few in omega arith

    pub bound_entry_lem : EntryBound nodes (get_or scratch (i * entry_words) 0) (get_or scratch (i * entry_words + 1) 0) here
    bound_entry_lem = record { inside = λ one. let p = (go.asks.each i more).inside one in let l = go.long in (p.0, rw l p.1) }

    pub bound_on : {after : List ℕ} → after ≡ marked_by nodes (get_or scratch (i * entry_words) 0) (get_or scratch (i * entry_words + 1) 0) here → MarkingBound nodes scratch count before (i + 1) after
    unfolding bound_names read_entries elem
    bound_on {after} e = by (eqb (get_or scratch (i * entry_words) 0) 1) refl
      where
        rest : ℕ → Bool
        rest k = elem (k + 1) (bound_names (first_word_of nodes) (read_entries scratch (i + 1) (count - (i + 1))))

        x : ℕ
        x = first_word_of nodes (get_or scratch (i * entry_words + 1) 0)

        unrolled : (b : Bool) → eqb (get_or scratch (i * entry_words) 0) 1 ≡ b → bound_names (first_word_of nodes) (read_entries scratch i (count - i)) ≡ cond b (x ∷ bound_names (first_word_of nodes) (read_entries scratch (i + 1) (count - (i + 1)))) (bound_names (first_word_of nodes) (read_entries scratch (i + 1) (count - (i + 1))))
        unrolled b p =
            let s : count - i ≡ suc (count - (i + 1)) = omega arith in
            ap (λ (n : ℕ). bound_names (first_word_of nodes) (read_entries scratch i n)) s ∙ ap (λ (c : Bool). cond c (x ∷ bound_names (first_word_of nodes) (read_entries scratch (i + 1) (count - (i + 1)))) (bound_names (first_word_of nodes) (read_entries scratch (i + 1) (count - (i + 1))))) p

        either : (c : Bool) → ◌≡◌ {A = ℕ} (cond c 1 1) 1
        either true = refl
        either false = refl

        by : (b : Bool) → eqb (get_or scratch (i * entry_words) 0) 1 ≡ b → MarkingBound nodes scratch count before (i + 1) after
        by true p =
            let f : after ≡ set here (x - 1) 1 = e ∙ rw p in
            let one = eqb-true (get_or scratch (i * entry_words) 0) 1 p in
            let r = (go.asks.each i more).inside one in
            let long = go.long in
            record {
              asks = go.asks;
              inside = omega arith;
              long = ap length f ∙ (length-set here (x - 1) 1 ∙ go.long);
              same = λ k. at k f r.0 r.1 (eqb (k + 1) x) refl ∙ (sym (ap (λ (l : List ℕ). cond (elem (k + 1) l) 1 (get_or here k 0)) (unrolled true p)) ∙ go.same k);
            }
          where
            at : (k : ℕ) → after ≡ set here (x - 1) 1 → 1 ≤ x → x ≤ length before → (c : Bool) → eqb (k + 1) x ≡ c → cond (rest k) 1 (get_or after k 0) ≡ cond (eqb (k + 1) x || rest k) 1 (get_or here k 0)
            at k f low high true q =
                let y = eqb-true (k + 1) x q in
                let z : k ≡ x - 1 = omega arith in
                let long = go.long in
                let g : get_or after k 0 ≡ 1 = ap (λ (l : List ℕ). get_or l k 0) f ∙ (ap (λ (j : ℕ). get_or (set here (x - 1) 1) j 0) z ∙ get_or-set_same here (x - 1) 1 0 (omega arith)) in
                rw (q, g) (either (rest k))
            at k f low high false q =
                let y = eqb-false (k + 1) x q in
                let g : get_or after k 0 ≡ get_or here k 0 = ap (λ (l : List ℕ). get_or l k 0) f ∙ get_or-set_other here (x - 1) k 1 0 (λ z. y (omega arith)) in
                rw (q, g)
        by false p =
            let f : after ≡ here = e ∙ rw p in
            record {
              asks = go.asks;
              inside = omega arith;
              long = ap length f ∙ go.long;
              same = λ k. ap (λ (l : List ℕ). cond (rest k) 1 (get_or l k 0)) f ∙ (sym (ap (λ (l : List ℕ). cond (elem (k + 1) l) 1 (get_or here k 0)) (unrolled false p)) ∙ go.same k);
            }

  pub bound_long : length here ≡ length before
  bound_long = go.long

  pub bound_ends : count ≤ i → BoundMarked nodes scratch count before here
  unfolding bound_names read_entries elem
  bound_ends le = let z : count - i ≡ 0 = omega arith in record { long = go.long; each = λ k. rw z at (go.same k) }

-- a bind entry's node is that of a name
module _ (T : Tables) (u : ℕ → Bool) where
  abbrev BindsName : Entry → Type 0
  BindsName e = e.kind ≡ 1 → Named T (first_word_of T.nodes e.node)

  abbrev NamedNode : ℕ → ℕ → Type 0
  NamedNode n x = Named T (first_word_of T.nodes n)

  mutual
    unfolding plan entries AllE AllNames concat

    binds_names : (e : Expr) → AllNames NamedNode e → (seen : List ℕ) (key : Place) → AllE BindsName (entries (plan u e seen) key)
    binds_names (literal n l) all seen key = (λ k. absurd (omega arith), tt)
    binds_names (name n x) all seen key = go (fresh u seen x)
      where
        go : (c : Bool) → AllE BindsName (entries (cond c (var n x) (equality_expr (name n x))) key)
        go true = (λ k. all, tt)
        go false = (λ k. absurd (omega arith), tt)
    binds_names (wildcard n) all seen key = (λ k. absurd (omega arith), tt)
    binds_names (array n es) all seen key = (λ k. absurd (omega arith), binds_names_all es all seen 1)
    binds_names (Expr.set n es) all seen key = (λ k. absurd (omega arith), tt)
    binds_names (object n fs) all seen key = (λ k. absurd (omega arith), all_order BindsName (field_order (field_plans u fs seen) 1 no_fields) (binds_names_fields fs all seen 1 no_fields (all_none BindsName)))
    binds_names (other n) all seen key = (λ k. absurd (omega arith), tt)

    binds_names_all : (es : Exprs) → AllNamesAll NamedNode es → (seen : List ℕ) (i : ℕ) → AllE BindsName (entries_all_lem (plans u es seen) i)
    binds_names_all Expr.none all seen i = tt
    binds_names_all (item e es) all seen i =
        all_append BindsName (entries (plan u e seen) (below 0 i)) (entries_all_lem (plans u es (after u e seen)) (i + 1)) (binds_names e all.0 seen (below 0 i)) (binds_names_all es all.1 (after u e seen) (i + 1))

    binds_names_fields : (fs : Fields) → AllNamesFields NamedNode fs → (seen : List ℕ) (i : ℕ) (o : FieldOrder (List Entry)) → AllOrder BindsName o → AllOrder BindsName (field_order (field_plans u fs seen) i o)
    binds_names_fields done all seen i o a = a
    binds_names_fields (field k v fs) all seen i o a =
        binds_names_fields fs all.2 (after u v seen) (i + 1) (add_field (literal_key k) (entries (plan u v seen) (below (node_of k) i)) o)
        (all_add BindsName (literal_key k) (entries (plan u v seen) (below (node_of k) i)) o (binds_names v all.1 seen (below (node_of k) i)) a)

module _ (T : Tables) (s : Scope) (mode : ScopingMode) (pattern : ℕ) {list : List ℕ} (a : ReportAsks T pattern list) where
  module _ {binders scratch : List ℕ} {count : ℕ} (p : PatternPlanned T s mode pattern 0 (replicate pattern_words 0) binders scratch count) where
    abbrev es : List Entry
    es = entries (plan_of T s mode pattern) top

    laid : Laid (replicate pattern_words 0) 0 es scratch count
    laid = scratch_laid p.wrote p.few

    size : count ≡ length es
    size = let e = laid.end in omega arith

    few : length es ≤ 512
    few = let f = p.few in let z = size in omega arith

    named : (i : ℕ) → i < count → get_or scratch (i * entry_words) 0 ≡ 1 → Named T (first_word_of T.nodes (get_or scratch (i * entry_words + 1) 0))
    named i lt one =
        let z = size in
        let inside : i < length es = omega arith in
        let k = scratch_kind es few laid.stored i inside in
        let n = scratch_node es few laid.stored i inside in
        let w = a.good.table in
        let all = names_all T w (λ m x. Named T (first_word_of T.nodes m)) (λ m v h named. w.named m v h) pattern a.good.node in
        rw n (all_at (BindsName T (is_unbound s mode)) blank es i inside (binds_names T (is_unbound s mode) (expr T pattern) all [] top) (sym k ∙ one))

    pub ask_bound : BoundAsks T.nodes scratch count list
    ask_bound = record {
      few = p.few;
      each = λ i lt. record { inside = λ one. let v = named i lt one in let l = v.low in let h = v.high in let long = a.long in (omega arith, omega arith) };
    }

    pub planned_marked : {after : List ℕ} → BoundMarked T.nodes scratch count list after → PlannedMarked T s mode pattern list after
    planned_marked m =
        let f = p.few in
        let q = wrote_read p.wrote (omega (arith, length-replicate {A = ℕ} pattern_words 0)) in
        record { long = m.long; each = λ k. m.each k ∙ ap (λ (l : List Entry). cond (elem (k + 1) (bound_names (first_word_of T.nodes) l)) 1 (get_or list k 0)) q }

-- met or a computed key, then bound
module _ (T : Tables) (s : Scope) (mode : ScopingMode) (pattern : ℕ) {before : List ℕ} (a : ReportAsks T pattern before) {met : List ℕ} (by : met ≡ report_words (expr T pattern)) where
  module _ {mid : List ℕ} (is : mid ≡ tabulate (met_mark met) 0 (length before)) where
    mid_long : length mid ≡ length before
    mid_long = ap length is ∙ length_tabulate (met_mark met) 0 (length before)

    met_is : (k : ℕ) → met_mark met k ≡ cond (elem (k + 1) (names_reported (expr T pattern))) 2 0
    unfolding report_words
    met_is k = go (ltb k 128) refl
      where
        none_met : (c : Bool) → elem (k + 1) (names_reported (expr T pattern)) ≡ c → 128 ≤ k → ◌≡◌ {A = ℕ} 0 (cond c 2 0)
        none_met true e le =
            let v = mentioned_named T a.good.table pattern a.good.node (k + 1) (reported_mentioned (k + 1) (expr T pattern) e) in
            let h = v.high in
            let few = a.good.table.limits.names in
            absurd (omega arith)
        none_met false e le = refl

        pick : (c : Bool) → ◌≡◌ {A = ℕ} (cond c 0 2) (cond (not c) 2 0)
        pick true = refl
        pick false = refl

        go : (b : Bool) → ltb k 128 ≡ b → ◌≡◌ {A = ℕ} (cond b (cond (eqb (get_or met k 0) 0) 0 2) 0) (cond (elem (k + 1) (names_reported (expr T pattern))) 2 0)
        go true e =
            let lt = ltb-true k 128 e in
            let q : k + 1 - 1 ≡ k = omega arith in
            let m : elem (k + 1) (names_reported (expr T pattern)) ≡ not (eqb (get_or met k 0) 0) = rw q at (word_at (names_reported (expr T pattern)) by (k + 1) (record { low = omega arith; high = omega arith })) in
            pick (eqb (get_or met k 0) 0) ∙ sym (ap (λ (c : Bool). cond c 2 0) m)
        go false e = none_met (elem (k + 1) (names_reported (expr T pattern))) refl (ltb-false k 128 e)

    pub report_marked : {after : List ℕ} → PlannedMarked T s mode pattern mid after → ReportMarked T s mode pattern before after
    report_marked {after} m = record {
      list = ext_get_or 0 after (tabulate (λ i. reported T s mode pattern (i + 1)) 0 (length before))
          (m.long ∙ (mid_long ∙ sym (length_tabulate (λ i. reported T s mode pattern (i + 1)) 0 (length before))))
          (λ k lt.
          let e = m.long in
          let f = mid_long in
          let inside : k < length before = omega arith in
          let z : 0 + k ≡ k = omega arith in
          let here : get_or mid k 0 ≡ cond (elem (k + 1) (names_reported (expr T pattern))) 2 0 = ap (λ (l : List ℕ). get_or l k 0) is ∙ (get_d_tabulate (met_mark met) 0 (length before) k inside ∙ (ap (met_mark met) z ∙ met_is k)) in
          m.each k
          ∙ (ap (λ (v : ℕ). cond (elem (k + 1) (bound_names (first_word_of T.nodes) (entries (plan_of T s mode pattern) top))) 1 v) here
          ∙ sym (get_d_tabulate (λ i. reported T s mode pattern (i + 1)) 0 (length before) k inside ∙ ap (λ (j : ℕ). reported T s mode pattern (j + 1)) z)));
    }

-- the refusals
module _ (T : Tables) (s : Scope) (mode : ScopingMode) (pattern : ℕ) (before : List ℕ) {c : Result Unit TableRefusal} (is : TableAnswered T s c) where
  reports : {after : List ℕ} (o : ReportOutcome) {r : Result Unit ReportRefusal} → report_outcome T s pattern before ≡ o → report_line r ≡ report_answer o → after ≡ report_list o T s mode pattern before → ReportedBy T s mode pattern before after r
  reports o e l f = record { answer = l ∙ sym (ap report_answer e); list = f ∙ sym (ap (λ (x : ReportOutcome). report_list x T s mode pattern before) e) }

  abbrev sound : ReportOutcome
  sound = require (all_nodes T (pattern ∷ [])) root_outside (require (leb (name_count T) (length before)) list_too_short filled)

  by_check : {d : Result Unit TableRefusal} → c ≡ d → report_outcome T s pattern before ≡ tested_or refused (tested_of d) sound
  by_check p = ap (λ (t : Tested). tested_or refused t sound) (sym is.answer ∙ ap tested_of p)

  pub report_table : {d : TableRefusal} {after : List ℕ} → c ≡ Err d → after ≡ replicate (length before) 0 → ReportedBy T s mode pattern before after (Err (TableRefused d))
  report_table {d} p z = reports (refused (table_refused d)) (by_check p) refl z

  module _ (told-sound : c ≡ Ok tt) {inside : Bool} (told : inside ≡ is_node T pattern) where
    passed : report_outcome T s pattern before ≡ sound
    passed = by_check told-sound

    pub report_root : {after : List ℕ} → not inside ≡ true → after ≡ replicate (length before) 0 → ReportedBy T s mode pattern before after (Err RootOutside)
    report_root t z = let e = told_no told t in reports (refused root_outside) (passed ∙ rw e) refl z

    module _ (in_table : not inside ≡ false) where
      pub report_short : {after : List ℕ} → length before < length T.names / 2 → after ≡ replicate (length before) 0 → ReportedBy T s mode pattern before after (Err ListTooShort)
      report_short lt z = let e = told_yes told in_table in let f = lt-leb (name_count T) (length before) lt in reports (refused list_too_short) (passed ∙ rw (e, f)) refl z

      module _ (long : length T.names / 2 ≤ length before) where
        pub ask_report : ReportAsks T pattern before
        ask_report = record { good = record { table = sound_well T s is told-sound; node = root_node T pattern told in_table }; long = long }

        pub report_done : {after : List ℕ} → ReportMarked T s mode pattern before after → ReportedBy T s mode pattern before after (Ok tt)
        report_done m = let e = told_yes told in_table in let f = le-leb (name_count T) (length before) long in reports filled (passed ∙ rw (e, f)) refl m.list
