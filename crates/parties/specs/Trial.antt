-- Histories worked out: what the shop does between the house's calls, and that the tables have to agree.
use Rattle.std.specs.Prelude.{ℕ, ◌≡◌, false, List, [], ◌∷◌, replicate}
use Rattle.base.specs.Refusal.{line, passed, list_too_short}
use Rattle.scope.specs.declared.ScopingMode.TheVariants.{RespectParent}
use Rattle.scope.specs.Scope.{new_scope}
use Rattle.table.specs.Tables.{tables}
use Rattle.operation.specs.declared.Operation.TheVariants.{Pattern}
use Rattle.body.specs.Body.{body_line}
use Rattle.run.specs.Answer.{a_match, turned_back_lem}
use Rattle.parties.specs.Parties.{PartyCall, plan, body, run, bind, add_unbound, child, add_name, load, Seen, planned, body_planned_lem, ran, scoped, named, Party, house, shop, State, Event, own_calls, observed}

-- the text is xyz; node 1 is the name x, node 2 is null; x and y are in use of four places
abbrev pub names : List ℕ
names = 0 ∷ (1 ∷ (1 ∷ (1 ∷ (0 ∷ (0 ∷ (0 ∷ (0 ∷ [])))))))

abbrev pub text : List ℕ
text = 120 ∷ (121 ∷ (122 ∷ []))

abbrev pub null_node : List ℕ
null_node = 5 ∷ (0 ∷ (0 ∷ (0 ∷ (0 ∷ []))))

abbrev pub first_state : State
first_state = record {
  shared = record { tables = tables (6 ∷ (0 ∷ (1 ∷ (1 ∷ (0 ∷ null_node))))) [] [] names [] text; used = 2 };
  house_scope = new_scope 0 false;
  shop_scope = new_scope 0 false;
}

abbrev pub by : Party → PartyCall → Event
by p c = record { party = p; call = c }

-- the house plans the pattern x into a buffer of one entry
abbrev pub plan_x : Event
plan_x = by house (plan 0 (Pattern RespectParent 1) (replicate 5 0))

-- twice, with a binding of its own between
abbrev pub quiet : List Event
quiet = plan_x ∷ (by house (bind 1) ∷ (plan_x ∷ []))

-- the shop's rule body of one line, the index x, binds x
abbrev pub body_x : Event
body_x = by shop (body (5 ∷ (1 ∷ (0 ∷ (0 ∷ [])))) (replicate 5 0))

-- the shop checks its body, declares x unbound, takes a child and adds a name, before, between and after
abbrev pub busy : List Event
busy =
    body_x ∷ (plan_x ∷ (by shop (add_unbound 1) ∷ (by house (bind 1) ∷ (by shop child ∷ (plan_x ∷ (by shop (add_name 2 1) ∷ []))))))

-- x is bound, then compared
abbrev pub expected : List Seen
expected =
    planned (line 0 0 0 1) (1 ∷ (1 ∷ (0 ∷ (0 ∷ (0 ∷ [])))))
    ∷ (scoped passed
    ∷ (planned (line 0 0 0 1) (3 ∷ (1 ∷ (0 ∷ (0 ∷ (0 ∷ []))))) ∷ []))

pub record HistoriesApart : Type 0 where
  pub same_calls : own_calls house first_state quiet ≡ own_calls house first_state busy
  pub quietly : observed house first_state quiet ≡ expected
  pub busily : observed house first_state busy ≡ expected
  -- the body binds x in the shop's own scope
  pub binds : observed shop first_state (body_x ∷ (by shop (plan 0 (Pattern RespectParent 1) (replicate 5 0)) ∷ []))
      ≡ body_planned_lem (body_line (line 0 0 0 1) 0) (1 ∷ (1 ∷ (0 ∷ (0 ∷ (0 ∷ []))))) ∷ (planned (line 0 0 0 1) (3 ∷ (1 ∷ (0 ∷ (0 ∷ (0 ∷ []))))) ∷ [])

-- The house adds yz; runs the pattern x on null with a list of two words.
abbrev pub add_yz : Event
add_yz = by house (add_name 1 2)

abbrev pub run_x : Event
run_x = by house (run RespectParent 1 2 (replicate 2 0) (replicate 5 0))

-- the shop adds z; loads tables in which node 1 is null
abbrev pub add_z : Event
add_z = by shop (add_name 2 1)

abbrev pub load_null : Event
load_null = by shop (load (record { tables = tables null_node [] [] names [] text; used = 2 }))

-- Where the tables at its calls do not agree, a party's answers may differ.
pub record TablesMustAgree : Type 0 where
  pub adds : observed house first_state (add_yz ∷ []) ≡ named (line 0 3 1 0) ∷ []
  pub adds_later : observed house first_state (add_z ∷ (add_yz ∷ [])) ≡ named (line 0 4 1 0) ∷ []
  pub runs : observed house first_state (run_x ∷ []) ≡ ran a_match (2 ∷ (0 ∷ [])) (1 ∷ (1 ∷ (0 ∷ (0 ∷ (0 ∷ []))))) ∷ []
  pub runs_later : observed house first_state (add_z ∷ (run_x ∷ [])) ≡ ran (turned_back_lem list_too_short) (0 ∷ (0 ∷ [])) (replicate 5 0) ∷ []
  pub plans_later : observed house first_state (load_null ∷ (plan_x ∷ [])) ≡ planned (line 0 0 0 1) (4 ∷ (1 ∷ (0 ∷ (0 ∷ (0 ∷ []))))) ∷ []
