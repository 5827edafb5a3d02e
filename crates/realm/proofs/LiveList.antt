-- The live sessions as a list, one change at a time.
use Rattle.std.proofs.Common.{◌≡◌, ℕ, suc, ◌+◌, ◌≤◌, Bool, true, false, cond, not, ◌||◌, eqb, List, [], ◌∷◌, length, refl, sym, ap, ◌∙◌, None, Some, arith}
use Rattle.std.specs.declared.option.Option.{Option}
use Rattle.std.specs.Cmp.{both_ways}
use Rattle.std.specs.List.{list_any}
use Rattle.std.proofs.lemmas.Bool.{eqb-true, eq-eqb, or_right}
use Rattle.eligibility.specs.declared.who.Who.{Who}
use Rattle.realm.specs.History.{History}
use Rattle.realm.specs.Sessions.{who, live, has_id, id_in_use, joined}
use Rattle.realm.specs.body.LiveSessions.{session_of, others, AreByConn}
use Rattle.realm.proofs.Conditionals.{clash, cond-same}
use Rattle.realm.proofs.Numbers.{list_any-true}
use Rattle.realm.proofs.LiveSessions.{live-joined}
use Rattle.realm.proofs.EventsFollowSubscribed.{any-here}
use Rattle.realm.proofs.LiveListOrder.{below-none}

-- the sessions of others
pub others-of : (c d : ℕ) (ws : List Who) → session_of (others c ws) d ≡ cond (eqb c d) None (session_of ws d)
others-of c d [] = sym (cond-same (eqb c d) None)
others-of c d (w ∷ ws) = at (eqb w.conn c) refl (eqb w.conn d) refl (eqb c d) refl (others-of c d ws)
  where
    at : (own : Bool) → eqb w.conn c ≡ own → (asked : Bool) → eqb w.conn d ≡ asked → (same : Bool) → eqb c d ≡ same
        → session_of (others c ws) d ≡ cond same None (session_of ws d)
        → session_of (cond (not own) (w ∷ others c ws) (others c ws)) d ≡ cond same None (cond asked (Some w) (session_of ws d))
    at true is asked asked_is true same_is rest = rest
    at true is false asked_is false same_is rest = rest
    at true is true asked_is false same_is rest =
        clash (eqb c d) (sym (ap (λ x. eqb x d) (eqb-true w.conn c is)) ∙ asked_is) same_is
    at false is true asked_is true same_is rest =
        clash (eqb w.conn c) (eq-eqb w.conn c (eqb-true w.conn d asked_is ∙ sym (eqb-true c d same_is))) is
    at false is false asked_is true same_is rest = rw asked_is rest
    at false is true asked_is false same_is rest = rw asked_is refl
    at false is false asked_is false same_is rest = rw asked_is rest

-- how many they are
others-few : (c : ℕ) (ws : List Who) → length (others c ws) ≤ length ws
others-few c [] = omega arith
others-few c (w ∷ ws) = at (eqb w.conn c) (others-few c ws)
  where
    at : (own : Bool) → length (others c ws) ≤ length ws → length (cond (not own) (w ∷ others c ws) (others c ws)) ≤ suc (length ws)
    at true few = omega arith
    at false few = omega arith

pub others-fewer : (c : ℕ) (ws : List Who) → length (others c ws) ≤ length ws + 1
others-fewer c ws = let few = others-few c ws in omega arith

pub others-one-fewer : (c : ℕ) (ws : List Who) (w : Who) → session_of ws c ≡ Some w → length (others c ws) + 1 ≤ length ws
others-one-fewer c [] w is = absurd (cc)
others-one-fewer c (v ∷ ws) w is = at (eqb v.conn c) is (others-few c ws) (λ e. others-one-fewer c ws w e)
  where
    at : (own : Bool) → cond own (Some v) (session_of ws c) ≡ Some w → length (others c ws) ≤ length ws → (session_of ws c ≡ Some w → length (others c ws) + 1 ≤ length ws)
        → length (cond (not own) (v ∷ others c ws) (others c ws)) + 1 ≤ suc (length ws)
    at true e few rest = omega arith
    at false e few rest = let fewer : length (others c ws) + 1 ≤ length ws = rest e in omega arith

-- each connection stands once
abbrev AreApart : List Who → Type 0
AreApart [] = Unit {0}
AreApart (w ∷ ws) = (session_of ws w.conn ≡ None) × AreApart ws

apart : (ws : List Who) → AreByConn ws → AreApart ws
apart [] ordered = tt
apart (w ∷ ws) ordered = (below-none w.conn ws ordered.0, apart ws ordered.1)

-- a session of the list that has the id
record Bearer (ws : List Who) (n : ℕ) : Type 0 where
  session : Who
  listed : session_of ws session.conn ≡ Some session
  id : eqb session.id n ≡ true

bearer : (ws : List Who) (n : ℕ) → AreApart ws → list_any (λ w. eqb w.id n) ws ≡ true → Bearer ws n
bearer [] n apart any = absurd (cc)
bearer (w ∷ ws) n apart any = at (eqb w.id n) refl any (bearer ws n apart.1)
  where
    later : Bearer ws n → Bearer (w ∷ ws) n
    later b = record { session = b.session; listed = same (eqb w.conn b.session.conn) refl; id = b.id }
      where
        same : (own : Bool) → eqb w.conn b.session.conn ≡ own → cond own (Some w) (session_of ws b.session.conn) ≡ Some b.session
        same true is = let none : session_of ws b.session.conn ≡ None = ap (session_of ws) (sym (eqb-true w.conn b.session.conn is)) ∙ apart.0 in absurd (let e = sym none ∙ b.listed in cc)
        same false is = b.listed

    at : (here : Bool) → eqb w.id n ≡ here → here || list_any (λ v. eqb v.id n) ws ≡ true → (list_any (λ v. eqb v.id n) ws ≡ true → Bearer ws n) → Bearer (w ∷ ws) n
    at true is some rest = record { session = w; listed = rw (eq-eqb w.conn w.conn refl) refl; id = is }
    at false is some rest = later (rest some)

bears : (ws : List Who) (c n : ℕ) (w : Who) → session_of ws c ≡ Some w → eqb w.id n ≡ true → list_any (λ v. eqb v.id n) ws ≡ true
bears [] c n w is id = absurd (cc)
bears (v ∷ ws) c n w is id = at (eqb v.conn c) is (λ e. bears ws c n w e id)
  where
    at : (own : Bool) → cond own (Some v) (session_of ws c) ≡ Some w → (session_of ws c ≡ Some w → list_any (λ x. eqb x.id n) ws ≡ true) → eqb v.id n || list_any (λ x. eqb x.id n) ws ≡ true
    at true e rest = let same : v ≡ w = cc in let here : eqb v.id n ≡ true = ap (λ x. eqb x.id n) same ∙ id in rw here refl
    at false e rest = or_right (eqb v.id n) (list_any (λ x. eqb x.id n) ws) (rest e)

-- equality of numbers goes both ways
pub eqb-comm : (a b : ℕ) → eqb a b ≡ eqb b a
eqb-comm a b = both_ways (eqb a b) (eqb b a) (λ h. eq-eqb b a (sym (eqb-true a b h))) (λ h. eq-eqb a b (sym (eqb-true b a h)))

-- the ids of the list are those of the live sessions
pub ids : (h : History) (ws : List Who) → AreByConn ws → ((c : ℕ) → session_of ws c ≡ who h c) → (n : ℕ) → list_any (λ w. eqb w.id n) ws ≡ id_in_use h n
ids h ws ordered agree n = both_ways (list_any (λ w. eqb w.id n) ws) (id_in_use h n) there back
  where
    there : list_any (λ w. eqb w.id n) ws ≡ true → id_in_use h n ≡ true
    there any =
        let b = bearer ws n (apart ws ordered) any in
        let is : who h b.session.conn ≡ Some b.session = sym (agree b.session.conn) ∙ b.listed in
        let lives : live h b.session.conn ≡ true = rw is refl in
        any-here (λ c. has_id n (who h c)) (joined h) b.session.conn (live-joined h b.session.conn lives) (rw is b.id)

    found : (c : ℕ) (o : Option Who) → session_of ws c ≡ o → has_id n o ≡ true → list_any (λ w. eqb w.id n) ws ≡ true
    found c None is some = absurd (cc)
    found c (Some w) is some = bears ws c n w is some

    back : id_in_use h n ≡ true → list_any (λ w. eqb w.id n) ws ≡ true
    back any = let s = list_any-true (λ c. has_id n (who h c)) (joined h) any in found s.one (who h s.one) (agree s.one) s.is
