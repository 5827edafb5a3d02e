-- What a post does to a connection, and to another one.
use Rattle.std.proofs.Common.{◌≡◌, ◌≢◌, ℕ, true, true≢false, eqb-true, List, [], ◌∷◌, ◌++◌, get_or, length, refl, sym, ap, ◌∙◌, subst, append_assoc, arith}
use Rattle.std.specs.Prelude.{Option, Some, None}
use Rattle.std.proofs.lemmas.List.{append-nil, append_cancel_left}
use mathlib.Core.List.{IsPrefix}
use Rattle.wamp_ids.specs.Numbers.{seat_of}
use Rattle.wamp_messages.specs.declared.item.Item.{Item}
use Rattle.realm.specs.History.{History}
use Rattle.outbox_queue.specs.Ends.{Taking}
use Rattle.outbox_queue.specs.Tied.{Kept}
use Rattle.realm_inbox.specs.declared.act.Act as the
use Rattle.realm_inbox.specs.declared.act.Act.TheVariants.{Join}
use Rattle.realm_inbox.specs.declared.joining.Joining.{Joining}
use Rattle.realm_inbox.specs.declared.letter.Letter.{Letter}
use Rattle.realm_inbox.specs.declared.letter.Post.{Post}
use Rattle.realm_inbox.specs.declared.letter.Post.TheVariants.{Act, Stop}
use Rattle.realm_inbox.specs.declared.ends.Poster.{Poster}
use Rattle.realm_inbox.specs.Ends.{Place}
use Rattle.realm_inbox.specs.EndViews.{received, posted, poster_conn, home_of, inbox_of, inbox_of_poster}
use Rattle.realm_inbox.specs.Seats.{IsHomed, conn_of_letter, act_of_letter, said, at_seat}
use Rattle.realm_inbox.proofs.Lemmas.{adds_here, at_seat_append, at_seat_snoc}
use Rattle.realm_actor.specs.declared.outcome.Outcome.{Outcome}
use Rattle.realm_actor.specs.declared.outcome.Outcome.TheVariants.{Applied}
use Rattle.realm_actor.specs.ActorView.{Acting}
use Rattle.realm_actor.specs.LastCut.{outbox_of}
use Rattle.realm_actor.specs.OutboxHistory.{Box}
use Rattle.realm_actor.specs.Run.{Handles, stands_at}
use Rattle.realm_actor.specs.Settle.{IsOther, Settles}
use Rattle.realm_actor.proofs.Homes.{homed_at}
use Rattle.realm_actor.proofs.Lemmas.{same_grown}
use Rattle.cases_actor.specs.declared.settling.desk.Desk.{Desk}
use Rattle.cases_actor.specs.Posts.{is_of}
use Rattle.cases_actor.specs.declared.settling.side.Side.{Side}
use Rattle.cases_actor.specs.Desks.{StaysHeld, InStep, GoesOn, AllCame}
use Rattle.cases_actor.specs.Sides.{Pairs, Sits, IsSide}
use Rattle.case_posts.specs.declared.wire.Wire.{Wire}

module _ {A : Type 0} where
  empty_front : (ys zs : List A) → ys ++ zs ≡ [] → ys ≡ []
  empty_front [] zs e = refl
  empty_front (y ∷ ys) zs e = absurd (omega (arith, ap length e))

  none_more : (xs ys zs : List A) → (xs ++ ys) ++ zs ≡ xs → ys ≡ []
  none_more xs ys zs e = empty_front ys zs (append_cancel_left xs (ys ++ zs) [] (sym (append_assoc xs ys zs) ∙ e ∙ sym (append-nil xs)))

  one_more : (xs zs : List A) (x y : A) → (xs ++ y ∷ []) ++ zs ≡ xs ++ x ∷ [] → y ≡ x
  one_more xs zs x y e = ap (λ l. get_or l 0 x) (append_cancel_left xs (y ∷ zs) (x ∷ []) (sym (append_assoc xs (y ∷ []) zs) ∙ e))

-- a post of c was received, where the next act of c was all that waited at its seat: it is this act
pub own_came : (c : ℕ) (got : List (Post Wire)) (x : Post Wire) (act : the.Act Wire) (was now : List (ℕ × the.Act Wire)) → was ≡ at_seat (seat_of c) got → now ≡ was ++ (c, act) ∷ []
    → IsPrefix (at_seat (seat_of c) (got ++ x ∷ [])) now → is_of c x ≡ true → (l : Letter Wire) × (x ≡ Act l) × (conn_of_letter l ≡ c) × (act_of_letter l ≡ act) × (now ≡ at_seat (seat_of c) (got ++ x ∷ []))
own_came c got (Stop halt) act was now all more p e = absurd (true≢false (sym e))
own_came c got (Act l) act was now all more p e =
    let k = seat_of c in
    let own : conn_of_letter l ≡ c = eqb-true (conn_of_letter l) c e in
    let grown : at_seat k (got ++ Act l ∷ []) ≡ at_seat k got ++ said l ∷ [] = at_seat_snoc k got (Act l) ∙ ap (λ t. at_seat k got ++ t) (adds_here k l (ap seat_of own)) in
    let is : now ≡ at_seat k got ++ (c, act) ∷ [] = more ∙ ap (λ t. t ++ (c, act) ∷ []) all in
    let one : said l ≡ (c, act) = one_more (at_seat k got) p.0 (c, act) (said l) (ap (λ t. t ++ p.0) (sym grown) ∙ p.1 ∙ is) in
    (l, refl, own, ap (λ x. x.1) one, is ∙ ap (λ x. at_seat k got ++ x ∷ []) (sym one) ∙ sym grown)

-- more was received, where nothing waited at this seat: all that was posted there was received, as before
pub others_came : (k : ℕ) (was got : List (Post Wire)) (posted now : List (ℕ × the.Act Wire)) → IsPrefix was got → posted ≡ at_seat k was → now ≡ posted → IsPrefix (at_seat k got) now → now ≡ at_seat k got
others_came k was got posted now w all same p =
    let grown : at_seat k got ≡ at_seat k was ++ at_seat k w.0 = ap (λ t. at_seat k t) (sym w.1) ∙ at_seat_append k was w.0 in
    let none : at_seat k w.0 ≡ [] = none_more (at_seat k was) (at_seat k w.0) p.0 (ap (λ t. t ++ p.0) (sym grown) ∙ p.1 ∙ same ∙ all) in
    same ∙ all ∙ sym (append-nil (at_seat k was)) ∙ ap (λ t. at_seat k was ++ t) (sym none) ∙ sym grown

-- whatever post is handled, an outbox that is held stays so
pub held_on : (result : Outcome) (p : Post Wire) (old new : Acting Wire) → Handles result p old new → (c : ℕ) → StaysHeld c old new
held_on result (Act l) old new h c o e = let w = h.does.held c o e in (w.0, w.1, w.2.queue)
held_on result (Stop halt) old new h c o e = let w = h.does.held c o e in (w.0, w.1, w.2.queue)

-- the outbox of a Join that was applied is held
pub joined_by : (result : Outcome) (p : Post Wire) (l : Letter Wire) (old new : Acting Wire) (joining : Joining Wire) → p ≡ Act l → Handles result p old new → act_of_letter l ≡ Join joining → result ≡ Applied
    → (b : Box) × (outbox_of new.rows (conn_of_letter l) ≡ Some b) × (b.queue ≡ joining.outbox.queue)
joined_by result p l old new joining is h joins applied = let w = (subst (λ x. Handles result x old new) is h).does.joined joining joins applied in (w.0, w.1, w.2.queue)

pairs_on : (c : ℕ) (held held' : Option Box) (drain : Option (Taking Item (Kept History))) → ((o : Box) → held ≡ Some o → (p : Box) × (held' ≡ Some p) × (p.queue ≡ o.queue)) → Pairs c held drain → Pairs c held' drain
pairs_on c held held' None on p = tt
pairs_on c None held' (Some d) on p = absurd p.1
pairs_on c (Some o) held' (Some d) on p = let n = on o refl in (p.0, subst (IsOther d) (sym n.1) (n.2 ∙ p.1))

-- the drain of a connection is still that of its outbox
pub pair_kept : (d e : Desk) (c b : ℕ) (drain now : Option (Taking Item (Kept History))) → GoesOn d e → b ≡ c → now ≡ drain → Pairs c (outbox_of d.actor.rows c) drain → Pairs b (outbox_of e.actor.rows b) now
pair_kept d e c b drain now g same kept p =
    subst (λ (y : ℕ × Option (Taking Item (Kept History))). Pairs y.0 (outbox_of e.actor.rows y.0) y.1) (λ i. (sym same i, sym kept i))
    (pairs_on c (outbox_of d.actor.rows c) (outbox_of e.actor.rows c) drain (g.held c) p)

-- which inbox it is tells whether a chronicle is picked for it
home_stays : (d e : Desk) → inbox_of e.inbox ≡ inbox_of d.inbox → home_of d.inbox ≡ None → home_of e.inbox ≡ None
home_stays d e place none = ap (λ (p : Place Wire). p.2) place ∙ none

-- so a Join there brings no outbox of another chronicle than the actor's
pub homed_here : (d : Desk) (p : Post Wire) → home_of d.inbox ≡ None → IsHomed (home_of d.inbox) p → IsHomed (Some d.actor.chronicle) p
homed_here d p none = homed_at d.actor.chronicle (home_of d.inbox) p (λ picked is. absurd (cc (sym none ∙ is)))

pub goes_same : (d e : Desk) → e.actor ≡ d.actor → received e.inbox ≡ received d.inbox → inbox_of e.inbox ≡ inbox_of d.inbox → GoesOn d e
goes_same d e actor got place = record {
  same = λ h. (λ k. ap (λ (a : Acting Wire). stands_at k a.handled) actor ∙ h.0 k ∙ ap (λ t. at_seat k t) (sym got), home_stays d e place h.1);
  held = λ c o h. (o, ap (λ (a : Acting Wire). outbox_of a.rows c) actor ∙ h, refl);
  place = place;
  grown = ([], append-nil (received d.inbox) ∙ sym got);
}

pub goes_on : (d e f : Desk) → GoesOn d e → GoesOn e f → GoesOn d f
goes_on d e f a b = record {
  same = λ h. b.same (a.same h);
  held = λ c o h. let p = a.held c o h in let q = b.held c p.0 p.1 in (q.0, q.1, q.2 ∙ p.2);
  place = b.place ∙ a.place;
  grown = (a.grown.0 ++ b.grown.0, sym (append_assoc (received d.inbox) a.grown.0 b.grown.0) ∙ ap (λ t. t ++ b.grown.0) a.grown.1 ∙ b.grown.1);
}

-- the same, by what is known behind the comparison
pub own_back : (c d : ℕ) (was got : List (Post Wire)) (x : Post Wire) (act : the.Act Wire) (posted now : List (ℕ × the.Act Wire)) → d ≡ c → got ≡ was ++ x ∷ [] → posted ≡ at_seat (seat_of c) was → now ≡ posted ++ (c, act) ∷ []
    → IsPrefix (at_seat (seat_of d) got) now → is_of d x ≡ true → (l : Letter Wire) × (x ≡ Act l) × (conn_of_letter l ≡ c) × (act_of_letter l ≡ act) × (now ≡ at_seat (seat_of d) got)
own_back c d was got x act posted now same given all more p e =
    let w = own_came c was x act posted now all more (subst (λ (y : ℕ × List (Post Wire)). IsPrefix (at_seat (seat_of y.0) y.1) now) (λ i. (same i, given i)) p) (subst (λ k. is_of k x ≡ true) same e) in
    (w.0, w.1, w.2, w.3, w.4 ∙ sym (λ i. at_seat (seat_of (same i)) (given i)))

pub goes_handled : (d e : Desk) (result : Outcome) (p : Post Wire) → Handles result p d.actor e.actor → received e.inbox ≡ received d.inbox ++ p ∷ [] → inbox_of e.inbox ≡ inbox_of d.inbox → GoesOn d e
goes_handled d e result p h given place = record { same = λ same. (same_grown d.actor.handled e.actor.handled (received d.inbox) (received e.inbox) p same.0 h.handled given, home_stays d e place same.1); held = held_on result p d.actor e.actor h; place = place; grown = (p ∷ [], sym given) }

-- two desks of which the same is known
abbrev pub Alike : Desk → Desk → Type 0
Alike d e = (e.actor ≡ d.actor) × (received e.inbox ≡ received d.inbox) × (inbox_of e.inbox ≡ inbox_of d.inbox)

came_alike : (d e : Desk) (p : Poster Wire) → Alike d e → AllCame d p → AllCame e p
came_alike d e p same a = record { place = a.place ∙ sym same.2; all = a.all ∙ ap (λ t. at_seat (seat_of (poster_conn p)) t) (sym same.1) }

sits_alike : (c : ℕ) (d e : Desk) (o : Option (Poster Wire)) → Alike d e → Sits c d o → Sits c e o
sits_alike c d e None same s = tt
sits_alike c d e (Some p) same s = (s.0, came_alike d e p same s.1)

pub goes_alike : (d e : Desk) → Alike d e → GoesOn d e
goes_alike d e same = goes_same d e same.0 same.1 same.2

pub step_alike : (d e : Desk) → Alike d e → InStep d → InStep e
step_alike d e same h = (goes_alike d e same).same h

pub side_alike : (d e : Desk) (s : Side) → Alike d e → IsSide d s → IsSide e s
side_alike d e s same h = record { sits = sits_alike s.conn d e s.poster same h.sits; pair = pair_kept d e s.conn s.conn s.drain s.drain (goes_alike d e same) refl refl h.pair }

sits_inbox : (c : ℕ) (d e : Desk) (o : Option (Poster Wire)) → e.inbox ≡ d.inbox → Sits c d o → Sits c e o
sits_inbox c d e None same s = tt
sits_inbox c d e (Some p) same s = (s.0, record { place = s.1.place ∙ ap (λ i. inbox_of i) (sym same); all = s.1.all ∙ ap (λ i. at_seat (seat_of (poster_conn p)) (received i)) (sym same) })

-- where it sits
pub sits_there : (d : Desk) (s : Side) (p : Poster Wire) → s.poster ≡ Some p → IsSide d s → (poster_conn p ≡ s.conn) × AllCame d p
sits_there d s p is h = subst (Sits s.conn d) is h.sits

-- it sits no longer
pub stood_up : (d e : Desk) (s t : Side) → GoesOn d e → t.poster ≡ None → t.conn ≡ s.conn → t.drain ≡ s.drain → IsSide d s → IsSide e t
stood_up d e s t g none conn drain h = record { sits = subst (Sits t.conn e) (sym none) tt; pair = pair_kept d e s.conn t.conn s.drain t.drain g conn drain h.pair }

-- it sits, and all that it posted was received
pub sat_down : (d e f : Desk) (s t : Side) (p : Poster Wire) → GoesOn d e → Alike e f → t.poster ≡ Some p → t.conn ≡ s.conn → t.drain ≡ s.drain → poster_conn p ≡ s.conn → AllCame e p → IsSide d s → IsSide f t
sat_down d e f s t p g same is conn drain own came h = record {
  sits = subst (Sits t.conn f) (sym is) (own ∙ sym conn, came_alike e f p same came);
  pair = pair_kept d f s.conn t.conn s.drain t.drain (goes_on d e f g (goes_alike e f same)) conn drain h.pair;
}

-- somebody else's post was received
pub kept_up : (was d e : Desk) (s t : Side) (p q : Poster Wire) → GoesOn was d → Alike d e → s.poster ≡ Some p → t.poster ≡ Some q → t.conn ≡ s.conn → t.drain ≡ s.drain
    → (poster_conn q ≡ poster_conn p) × (posted q ≡ posted p) × (inbox_of_poster q ≡ inbox_of_poster p) → IsPrefix (at_seat (seat_of (poster_conn q)) (received e.inbox)) (posted q) → IsSide was s → IsSide e t
kept_up was d e s t p q g same is now conn drain like begins h =
    let sat = sits_there was s p is h in
    let all : posted p ≡ at_seat (seat_of (poster_conn q)) (received was.inbox) = sat.1.all ∙ ap (λ c. at_seat (seat_of c) (received was.inbox)) (sym like.0) in
    let came : AllCame e q = record {
      place = like.2 ∙ sat.1.place ∙ sym g.place ∙ sym same.2;
      all = others_came (seat_of (poster_conn q)) (received was.inbox) (received e.inbox) (posted p) (posted q) (g.grown.0, g.grown.1 ∙ sym same.1) all like.1 begins;
    } in
    record {
      sits = subst (Sits t.conn e) (sym now) (like.0 ∙ sat.0 ∙ sym conn, came);
      pair = pair_kept was e s.conn t.conn s.drain t.drain (goes_on was d e g (goes_alike d e same)) conn drain h.pair;
    }

-- an outbox was put together with its drain: what the actor handled is as before
pub settle_goes : (d e : Desk) (c : ℕ) (drain : Taking Item (Kept History)) (rest : List Item) → Settles c drain rest d.actor e.actor → e.inbox ≡ d.inbox → InStep d → InStep e
settle_goes d e c drain rest s same h = (λ k. ap (λ t. stands_at k t) s.handled ∙ h.0 k ∙ ap (λ i. at_seat k (received i)) (sym same), ap (λ i. home_of i) same ∙ h.1)

-- and so are the other connections
pub settle_apart : (d e : Desk) (c : ℕ) (drain : Taking Item (Kept History)) (rest : List Item) (s : Side) → Settles c drain rest d.actor e.actor → e.inbox ≡ d.inbox → s.conn ≢ c → IsSide d s → IsSide e s
settle_apart d e c drain rest s settles same apart h = record {
  sits = sits_inbox s.conn d e s.poster same h.sits;
  pair = subst (λ o. Pairs s.conn o s.drain) (sym (settles.others s.conn apart)) h.pair;
}

-- its own connection has no drain any more
pub settle_own : (d e : Desk) (s t : Side) → e.inbox ≡ d.inbox → t.conn ≡ s.conn → t.poster ≡ s.poster → t.drain ≡ None → IsSide d s → IsSide e t
settle_own d e s t same conn poster none h = record {
  sits = subst (λ (y : ℕ × Option (Poster Wire)). Sits y.0 e y.1) (λ i. (sym conn i, sym poster i)) (sits_inbox s.conn d e s.poster same h.sits);
  pair = subst (Pairs t.conn (outbox_of e.actor.rows t.conn)) (sym none) tt;
}

-- an item was taken
pub taken : (d : Desk) (s t : Side) → t.conn ≡ s.conn → t.poster ≡ s.poster → ((c : ℕ) (held : Option Box) → Pairs c held s.drain → Pairs c held t.drain) → IsSide d s → IsSide d t
taken d s t conn poster pair h = record {
  sits = subst (λ (y : ℕ × Option (Poster Wire)). Sits y.0 d y.1) (λ i. (sym conn i, sym poster i)) h.sits;
  pair = subst (λ c. Pairs c (outbox_of d.actor.rows c) t.drain) (sym conn) (pair s.conn (outbox_of d.actor.rows s.conn) h.pair);
}
