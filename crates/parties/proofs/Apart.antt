-- A party's answers and scope, from its first scope and its own calls with the tables that they met, and from nothing else.
use Prim.Native.Nat.{ℕ}
use mathlib.Core.Path.{◌≡◌, refl, sym, ap, ◌∙◌}
use mathlib.Core.Bool.{Bool, true, false, cond, false≢true}
use mathlib.Core.List.{List, [], ◌∷◌}
use Rattle.scope.specs.declared.Scope.{Scope}
use Rattle.scope.proofs.Laws.{bound_or_kept, added_or_kept}
use Rattle.parties.specs.Parties.{Shared, PartyCall, add_name, Seen, seen, scope_after_call, shared_after, Party, house, shop, State, party_scope, sees, leaves, Event, finally, is_by, OwnCall, own_calls, observed}
use Rattle.parties.specs.CallContracts.{ByContract}
use Rattle.parties.specs.Promise.{PartiesPromise}

unfoldable seen_alone : Scope → List OwnCall → List Seen
seen_alone s [] = []
seen_alone s (c ∷ cs) = seen c.call c.tables s ∷ seen_alone (scope_after_call c.call c.tables s) cs

unfoldable scope_alone : Scope → List OwnCall → Scope
scope_alone s [] = s
scope_alone s (c ∷ cs) = scope_alone (scope_after_call c.call c.tables s) cs

-- its own call
own_scope : (p q : Party) → is_by p q ≡ true → (c : PartyCall) (t : State) → party_scope p (leaves q c t) ≡ scope_after_call c t.shared (party_scope p t)
own_scope house house e c t = refl
own_scope house shop e c t = absurd (false≢true e)
own_scope shop house e c t = absurd (false≢true e)
own_scope shop shop e c t = refl

-- the other's call
other_scope : (p q : Party) → is_by p q ≡ false → (c : PartyCall) (t : State) → party_scope p (leaves q c t) ≡ party_scope p t
other_scope house house e c t = absurd (false≢true (sym e))
other_scope house shop e c t = refl
other_scope shop house e c t = refl
other_scope shop shop e c t = absurd (false≢true (sym e))

observed_alone : (p : Party) (h : List Event) (t : State) → observed p t h ≡ seen_alone (party_scope p t) (own_calls p t h)
unfolding observed own_calls seen_alone
observed_alone p [] t = refl
observed_alone p (e ∷ h) t = go (is_by p e.party) refl (observed_alone p h (leaves e.party e.call t))
  where
    next : State
    next = leaves e.party e.call t

    go : (b : Bool) → is_by p e.party ≡ b → observed p next h ≡ seen_alone (party_scope p next) (own_calls p next h)
        → cond b (sees p e.call t ∷ observed p next h) (observed p next h)
        ≡ seen_alone (party_scope p t) (cond b (record { call = e.call; tables = t.shared } ∷ own_calls p next h) (own_calls p next h))
    go true q ih = ap (λ later. sees p e.call t ∷ later) (ih ∙ ap (λ s. seen_alone s (own_calls p next h)) (own_scope p e.party q e.call t))
    go false q ih = ih ∙ ap (λ s. seen_alone s (own_calls p next h)) (other_scope p e.party q e.call t)

final_alone : (p : Party) (h : List Event) (t : State) → party_scope p (finally t h) ≡ scope_alone (party_scope p t) (own_calls p t h)
unfolding finally own_calls scope_alone
final_alone p [] t = refl
final_alone p (e ∷ h) t = go (is_by p e.party) refl (final_alone p h (leaves e.party e.call t))
  where
    next : State
    next = leaves e.party e.call t

    go : (b : Bool) → is_by p e.party ≡ b → party_scope p (finally next h) ≡ scope_alone (party_scope p next) (own_calls p next h)
        → party_scope p (finally next h) ≡ scope_alone (party_scope p t) (cond b (record { call = e.call; tables = t.shared } ∷ own_calls p next h) (own_calls p next h))
    go true q ih = ih ∙ ap (λ s. scope_alone s (own_calls p next h)) (own_scope p e.party q e.call t)
    go false q ih = ih ∙ ap (λ s. scope_alone s (own_calls p next h)) (other_scope p e.party q e.call t)

adding_keeps : (p q : Party) (start size : ℕ) (t : State) → party_scope q (leaves p (add_name start size) t) ≡ party_scope q t
unfolding scope_after_call
adding_keeps house house start size t = refl
adding_keeps house shop start size t = refl
adding_keeps shop house start size t = refl
adding_keeps shop shop start size t = refl

pub parties_promise : PartiesPromise
parties_promise = record {
  apart = λ p t u h k a.
      let s = a.first_scope in
      let d = a.calls in
      let x = observed_alone p h t in
      let y = observed_alone p k u in
      let v = final_alone p h t in
      let w = final_alone p k u in
      record { answers = cc; scope = cc };
  scopes_stay = adding_keeps;
}

pub by_contract : (m : Shared) (s : Scope) → ByContract m s
unfolding seen scope_after_call shared_after
by_contract m s = record {
  plans = λ version operation before after r done. let a = done.answer in let b = done.buffer in cc;
  bodies = λ lines before after r done. let a = done.answer in let b = done.buffer in (cc, done.scope);
  runs = λ mode pattern value values buffer valuesExit bufferExit r done. let a = done.answer in let b = done.plan in let d = done.list in cc;
  reports = λ mode pattern before after r done. let a = done.answer in let b = done.list in cc;
  binds = λ x r done. let a = done.answer in (cc, bound_or_kept s x done);
  unbinds = λ x r done. let a = done.answer in (cc, added_or_kept s x done);
  children = λ r is. is;
  names = λ start size after r done. let a = done.answer in (cc, done.names);
}
