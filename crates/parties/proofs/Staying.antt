-- A name that is added is a name more: so every plan and body stays, and every run and report whose list has a place for it.
use Prim.Native.Nat.{ℕ, ◌*◌, ◌/◌, ◌≤◌}
use mathlib.Core.Path.{◌≡◌, ap}
use native.Mathlib.Omega.{arith}
use lib.ListN.{length, take, length-take}
use Rattle.base.specs.Refusal.{passed}
use Rattle.scope.specs.declared.Scope.{Scope}
use Rattle.table.specs.Tables.{name_count, name_bytes}
use Rattle.table.specs.Check.{checked}
use Rattle.table.specs.code.Sound.{Named}
use Rattle.report.specs.Report.{report_outcome, report_answer}
use Rattle.name_table.specs.Laws.{NameLaws, used_then, tables_then}
use Rattle.name_table.proofs.Laws.{name_laws}
use Rattle.parties.specs.Parties.{Shared, lent_tables, reported, seen, scope_after_call, shared_after}
use Rattle.parties.specs.Staying.{with_name_added, NamesStay, StayingPromise}
use Rattle.parties.proofs.Grown.{Grown, version_same, run_same, report_same, list_same}
use Rattle.parties.proofs.Bodies.{body_same}

-- the name that is added
module _ (m : Shared) (start size : ℕ) (s : Scope) (ok : checked (lent_tables m) s ≡ passed) where
  laws : NameLaws m.tables m.used start size
  laws = name_laws m.tables m.used start size

  in_use_low : {x : ℕ} → x ≤ length (take (m.used * 2) m.tables.names) / 2 → x ≤ m.used
  in_use_low le = let h = length-take (m.used * 2) m.tables.names in omega arith

  bytes_stay : (x : ℕ) → Named (lent_tables m) x → name_bytes (lent_tables (with_name_added m start size)).names m.tables.text x ≡ name_bytes (lent_tables m).names m.tables.text x
  unfolding shared_after
  bytes_stay x v = laws.keeps x (in_use_low v.high)

  more_names : name_count (lent_tables m) ≤ name_count (lent_tables (with_name_added m start size))
  unfolding shared_after
  more_names =
      let a = length-take (m.used * 2) m.tables.names in
      let b = length-take (used_then m.tables m.used start size * 2) (tables_then m.tables m.used start size).names in
      let l = laws.length_stays_lem in
      let g = laws.grows in
      omega arith

  grown : Grown (lent_tables m) (lent_tables (with_name_added m start size)).names s
  unfolding shared_after
  grown = record { before = ok; after = laws.sound s ok; trees = laws.trees; bytes = bytes_stay; more = more_names }

  pub adding_stays : NamesStay m start size s
  unfolding seen scope_after_call shared_after
  adding_stays = record {
    plans = λ version operation buffer. rw (version_same grown version operation);
    bodies = λ lines buffer. (rw (body_same grown lines buffer), rw (body_same grown lines buffer));
    runs = λ mode pattern value values buffer l. rw (run_same grown values l.long l.zero mode pattern value, laws.trees pattern);
    reports = λ mode pattern list l.
        rw (report_same grown pattern list l)
        (ap (λ words. reported (report_answer (report_outcome (lent_tables m) s pattern list)) words) (list_same grown mode pattern list (report_outcome (lent_tables m) s pattern list)));
  }

pub staying_promise : StayingPromise
staying_promise = record { stay = adding_stays }
