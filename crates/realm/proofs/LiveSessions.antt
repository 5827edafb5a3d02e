-- Who is live, and who has joined.
use Rattle.std.proofs.Common.{◌≡◌, ℕ, Bool, true, false, cond, ◌||◌, eqb, List, refl, ap, None, Some, is_some}
use Rattle.std.specs.declared.option.Option.{Option}
use Rattle.std.specs.Option.{MatchOption}
use Rattle.std.specs.Prelude.{⊤}
use Rattle.std.specs.Result.{result_ok}
use Rattle.std.specs.List.{list_any}
use Rattle.std.proofs.lemmas.Bool.{eqb-true}
use Rattle.wamp_ids.specs.Numbers.{id_of_word}
use Rattle.realm.specs.declared.entry.Entry.{Entry}
use Rattle.realm.specs.declared.entry.Entry.TheVariants.{Join, Said, Ping}
use Rattle.eligibility.specs.declared.who.Who.{Who}
use Rattle.realm.specs.History.{History, begun, ◌▷◌, grants_of}
use Rattle.realm.specs.Sessions.{conn_of, who, live, ends, joined, has_id, admission_by, name_for, role_for}
use Rattle.realm.proofs.Conditionals.{some-before}

abbrev pub has : List ℕ → ℕ → Bool
has xs c = list_any (λ x. eqb x c) xs

-- the session of c is one of c
IsOf-admission : (taken : Bool) (c word : ℕ) (name : List ℕ) (role : Option (List ℕ)) → MatchOption (result_ok (admission_by taken c word name role)) ⊤ (λ w. w.conn ≡ c)
IsOf-admission taken c word name None = tt
IsOf-admission true c word name (Some role) = tt
IsOf-admission false c word name (Some role) = refl

IsOf-ended : (c : ℕ) (b : Bool) (o : Option Who) → MatchOption o ⊤ (λ w. w.conn ≡ c) → MatchOption (cond b None o) ⊤ (λ w. w.conn ≡ c)
IsOf-ended c true o is = tt
IsOf-ended c false o is = is

pub who-conn : (h : History) (c : ℕ) → MatchOption (who h c) ⊤ (λ w. w.conn ≡ c)
unfolding who
who-conn (begun grants) c = tt
who-conn (h ▷ Join d word authid) c =
    at _ _ (eqb d c) refl (who-conn h c)
    (IsOf-admission (list_any (λ e. has_id (id_of_word word) (who h e)) (joined h)) d word (name_for authid) (role_for (grants_of h) authid))
  where
    at : (o p : Option Who) (b : Bool) → eqb d c ≡ b → MatchOption p ⊤ (λ w. w.conn ≡ c) → MatchOption o ⊤ (λ w. w.conn ≡ d) → MatchOption (cond b o p) ⊤ (λ w. w.conn ≡ c)
    at o p true is old new = rw (← eqb-true d c is) new
    at o p false is old new = old
who-conn (h ▷ e) c = IsOf-ended c (ends e c) (who h c) (who-conn h c)

-- the live session of c
pub record Live (h : History) (c : ℕ) : Type 0 where
  pub session : Who
  pub is : who h c ≡ Some session
  pub conn : session.conn ≡ c

pub Live-from_live : (h : History) (c : ℕ) → live h c ≡ true → Live h c
Live-from_live h c is_live = at (who h c) refl (who-conn h c) is_live
  where
    at : (o : Option Who) → who h c ≡ o → MatchOption o ⊤ (λ w. w.conn ≡ c) → is_some o ≡ true → Live h c
    at None is own some = absurd (cc)
    at (Some w) is own some = record { session = w; is = is; conn = own }

-- an entry of another connection leaves c's session
not-ending : (e : Entry) (c : ℕ) → eqb (conn_of e) c ≡ false → ends e c ≡ false
not-ending (Join d word authid) c elsewhere = refl
not-ending (Said d word said) c elsewhere = rw elsewhere refl
not-ending (Ping d payload) c elsewhere = refl
not-ending e c elsewhere = elsewhere

who-elsewhere : (h : History) (e : Entry) (c : ℕ) → eqb (conn_of e) c ≡ false → who (h ▷ e) c ≡ who h c
unfolding who
who-elsewhere h (Join d word authid) c elsewhere = rw elsewhere refl
who-elsewhere h e c elsewhere = ap (λ b. cond b None (who h c)) (not-ending e c elsewhere)

pub live-elsewhere : (h : History) (e : Entry) (c : ℕ) → eqb (conn_of e) c ≡ false → live (h ▷ e) c ≡ live h c
live-elsewhere h e c elsewhere = ap is_some (who-elsewhere h e c elsewhere)

-- who is live has joined
pub live-joined : (h : History) (c : ℕ) → live h c ≡ true → list_any (λ x. eqb x c) (joined h) ≡ true
unfolding who
live-joined (begun grants) c is_live = absurd (cc)
live-joined (h ▷ Join d word authid) c is_live = at _ (eqb d c) (live-joined h c) is_live
  where
    at : (o : Option Who) (b : Bool) → (is_some (who h c) ≡ true → list_any (λ x. eqb x c) (joined h) ≡ true) → is_some (cond b o (who h c)) ≡ true → b || list_any (λ x. eqb x c) (joined h) ≡ true
    at o true before is = refl
    at o false before is = before is
live-joined (h ▷ e) c is_live = live-joined h c (some-before (ends e c) (who h c) is_live)
