-- Request 8 of document 02: for two histories that agree on one party's first scope and own calls and, at each of those, on the tables, that party's
-- plans, runs and scope are the same, whatever the other binds.
use Rattle.std.specs.Prelude.{ℕ, ◌≡◌, List}
use Rattle.parties.specs.Parties.{Party, State, party_scope, add_name, leaves, Event, finally, own_calls, observed}

-- two starts with a history each, seen from one party
pub record Alike (p : Party) (t u : State) (h k : List Event) : Type 0 where
  pub first_scope : party_scope p t ≡ party_scope p u
  pub calls : own_calls p t h ≡ own_calls p u k

pub record SameForParty (p : Party) (t u : State) (h k : List Event) : Type 0 where
  pub answers : observed p t h ≡ observed p u k
  pub scope : party_scope p (finally t h) ≡ party_scope p (finally u k)

pub record PartiesPromise : Type 0 where
  pub apart : (p : Party) (t u : State) (h k : List Event) → Alike p t u h k → SameForParty p t u h k
  -- adding a name changes no scope, neither the other's nor its own
  pub scopes_stay : (p q : Party) (start size : ℕ) (t : State) → party_scope q (leaves p (add_name start size) t) ≡ party_scope q t
