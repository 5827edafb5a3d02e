-- What a connection said, as its realm's history comes to have it.
use Rattle.std.proofs.Common.{◌≡◌, ◌≢◌, ◌⊎◌, ◌+◌, ℕ, Bool, true, false, cond, if◌then◌else◌, List, [], ◌∷◌, ◌++◌, Option, None, Some, option_map, Ok, Err, Result, length, length-append, refl, sym, ap, ◌∙◌, subst, append_assoc, append-nil, arith, inl, inr}
use Rattle.std.specs.Prelude.{◌==◌, ◌&&◌, ◌||◌, not, is_some}
use Rattle.std.specs.List.{list_any}
use Rattle.std.specs.Result.{result_ok}
use Rattle.std.proofs.Math.Bool.{or-false, or-true}
use Rattle.std.proofs.lemmas.Bool.{eq-eqb, ne_eqb}
use Rattle.std.proofs.lemmas.List.Folds.{list_any-append}
use Rattle.eligibility.specs.declared.who.Who.{Who}
use Rattle.realm.specs.Grants.{Grants}
use Rattle.realm.specs.History.{Begins, History, begun, ◌▷◌, grants_of}
use Rattle.realm.specs.History as begins
use Rattle.realm.proofs.NothingAfterAnEnding.{no_events}
use Rattle.realm.specs.MetaEvents.{arrival, departure}
use Rattle.realm.specs.Subscriptions.{held}
use Rattle.realm.specs.Yield.{events, owed, reply, sent_events, welcome, yield}
use Rattle.realm.specs.Sessions.{admission, conn_of, is_last_word, joined, live, who, IsHistory}
use Rattle.realm.specs.declared.entry.Entry.{Entry}
use Rattle.realm.specs.declared.entry.Entry.TheVariants as entry
use Rattle.realm_actor.specs.Handle.{entry_of, is_dropped}
use Rattle.realm_inbox.proofs.Lemmas.{stops_snoc}
use Rattle.realm_inbox.specs.Over.{was_cut}
use Rattle.realm_inbox.specs.Seats.{act_of_letter, conn_of_letter, stops_of}
use Rattle.realm_inbox.specs.declared.letter.Halt.{Halt}
use Rattle.realm_inbox.specs.declared.act.Act as the
use Rattle.realm_inbox.specs.declared.act.Act.TheVariants.{Gone, Join, Ping, Said, Spoilt}
use Rattle.realm_inbox.specs.declared.letter.Letter.{Letter}
use Rattle.realm_inbox.specs.declared.letter.Post.{Post}
use Rattle.realm_inbox.specs.declared.letter.Post.TheVariants.{Act, Stop}
use Rattle.threaded_server.proofs.Places.{same_or_other}
use Rattle.threaded_server.specs.Histories.{ClosesOn, CutsOn, HandlesAll, HandlesOne}
use Rattle.threaded_server.specs.Histories as of
use Rattle.server_laws.specs.WholeSessions.{EndsIn, IsAnswered, IsWelcomed, AllEnter, WasCut, WasRefused, entries_of, is_last, until_last}
use Rattle.wamp_ids.specs.Pattern.{PatternText}
use Rattle.wamp_messages.specs.declared.item.Item.TheVariants as item
use Rattle.wamp_messages.specs.declared.item.Reason.{Reason}
use Rattle.wamp_messages.specs.declared.item.Reason.TheVariants.{GoodbyeAndOut}
use Rattle.wamp_messages.specs.declared.said.Said.TheVariants as say

pub clash : (b : Bool) → b ≡ true → b ≡ false → ⊥
clash true e f = let apart : true ≡ false = f in cc
clash false e f = let apart : false ≡ true = e in cc

same_conn : (c : ℕ) → (c == c) ≡ true
same_conn c = eq-eqb c c refl

nobody_yet : (grants : Grants) (c : ℕ) → live (begun grants) c ≡ false
unfolding who
nobody_yet grants c = refl

-- another's entry changes nothing of a connection
who_other : (h : History) (e : Entry) (c : ℕ) → conn_of e ≢ c → who (h ▷ e) c ≡ who h c
unfolding who
who_other h (entry.Join d word authid) c other = ap (λ b. cond b (result_ok (admission h d word authid)) (who h c)) (ne_eqb d c other)
who_other h (entry.Said d word said) c other = ap (λ b. cond (b && is_last_word said) None (who h c)) (ne_eqb d c other)
who_other h (entry.Ping d payload) c other = refl
who_other h (entry.Spoilt d word) c other = ap (λ b. cond b None (who h c)) (ne_eqb d c other)
who_other h (entry.Gone d word) c other = ap (λ b. cond b None (who h c)) (ne_eqb d c other)
who_other h (entry.Cut d word) c other = ap (λ b. cond b None (who h c)) (ne_eqb d c other)
who_other h (entry.Closed d word) c other = ap (λ b. cond b None (who h c)) (ne_eqb d c other)

live_other : (h : History) (e : Entry) (c : ℕ) → conn_of e ≢ c → live (h ▷ e) c ≡ live h c
live_other h e c other = ap is_some (who_other h e c other)

entries_other : (h : History) (e : Entry) (c : ℕ) → conn_of e ≢ c → entries_of (h ▷ e) c ≡ entries_of h c
entries_other h e c other = ap (λ b. entries_of h c ++ cond b (e ∷ []) []) (ne_eqb (conn_of e) c other) ∙ append-nil (entries_of h c)

entries_own : (h : History) (e : Entry) (c : ℕ) → conn_of e ≡ c → entries_of (h ▷ e) c ≡ entries_of h c ++ e ∷ []
entries_own h e c own = ap (λ b. entries_of h c ++ cond b (e ∷ []) []) (eq-eqb (conn_of e) c own)

dead_now : (h : History) (c : ℕ) (word : Option ℕ) → live (h ▷ entry.Cut c word) c ≡ false
unfolding who
dead_now h c word = ap (λ b. is_some (cond b None (who h c))) (same_conn c)

not_live : (o : Option Who) → is_some o ≡ false → o ≡ None
not_live None e = refl
not_live (Some w) e = absurd (let apart : true ≡ false = e in cc)

-- another's entry gives nothing to who isn't live
owed_other : (h : History) (e : Entry) (c : ℕ) → conn_of e ≢ c → live h c ≡ false → owed (h ▷ e) c ≡ owed h c
unfolding yield
owed_other h e c other dead =
    let elsewhere = ne_eqb (conn_of e) c other in
    ap (λ b. owed h c ++ (cond b (reply h e) [] ++ events h e c)) elsewhere ∙ ap (λ l. owed h c ++ l) (no_events h e c (not_live (who h c) dead) elsewhere) ∙ append-nil (owed h c)

-- a Join that is accepted is answered by WELCOME
welcome_given : (h : History) (c word : ℕ) (authid : Option (List ℕ)) (w : Who) → owed h c ≡ [] → admission h c word authid ≡ Ok w → IsWelcomed (owed (h ▷ entry.Join c word authid) c)
unfolding yield
welcome_given h c word authid w none is =
    let e = entry.Join c word authid in
    (w, events h e c, ap (λ l. l ++ yield h e c) none ∙ ap (λ b. cond b (reply h e) [] ++ events h e c) (same_conn c) ∙ ap (λ (answer : Result Who Reason). welcome answer ++ events h e c) is)

welcomed_more : (h : History) (e : Entry) (c : ℕ) → IsWelcomed (owed h c) → IsWelcomed (owed (h ▷ e) c)
welcomed_more h e c w = (w.0, w.1 ++ yield h e c, ap (λ l. l ++ yield h e c) w.2)

own_departure : (word : ℕ) (o : Option Who) (hs : List (ℕ × PatternText)) → sent_events (option_map (departure word) o) o hs ≡ []
own_departure word None hs = refl
own_departure word (Some w) hs = rw (eq-eqb w.conn w.conn refl) refl

-- a GOODBYE is answered by one, and no more
goodbye_given : (h : History) (c word : ℕ) → owed (h ▷ entry.Said c word say.Goodbye) c ≡ owed h c ++ item.Goodbye GoodbyeAndOut ∷ []
unfolding yield
goodbye_given h c word =
    let e = entry.Said c word say.Goodbye in
    ap (λ b. owed h c ++ (cond b (reply h e) [] ++ events h e c)) (same_conn c) ∙ ap (λ l. owed h c ++ (item.Goodbye GoodbyeAndOut ∷ l)) (own_departure word (who h c) (held h c))

same_snoc : {A : Type 0} (xs ys : List A) (x y : A) → xs ++ x ∷ [] ≡ ys ++ y ∷ [] → (xs ≡ ys) × (x ≡ y)
same_snoc [] [] x y e = (refl, let same : x ∷ [] ≡ y ∷ [] = e in cc)
same_snoc [] (b ∷ ys) x y e = absurd (let long = ap length e in let more : length (ys ++ y ∷ []) ≡ length ys + 1 = length-append ys (y ∷ []) in omega (arith, long, more))
same_snoc (a ∷ xs) [] x y e = absurd (let long = ap length e in let more : length (xs ++ x ∷ []) ≡ length xs + 1 = length-append xs (x ∷ []) in omega (arith, long, more))
same_snoc (a ∷ xs) (b ∷ ys) x y e =
    let head : a ≡ b = cc in
    let tail : xs ++ x ∷ [] ≡ ys ++ y ∷ [] = cc in
    let below = same_snoc xs ys x y tail in
    ((λ i. head i ∷ below.0 i), below.1)

-- a Join that is refused is answered by ABORT alone
abort_given : (h : History) (c word : ℕ) (authid : Option (List ℕ)) (reason : Reason) → owed h c ≡ [] → admission h c word authid ≡ Err reason → owed (h ▷ entry.Join c word authid) c ≡ item.Abort reason ∷ []
unfolding yield
abort_given h c word authid reason none is =
    let e = entry.Join c word authid in
    ap (λ l. l ++ yield h e c) none ∙ ap (λ b. cond b (reply h e) [] ++ events h e c) (same_conn c) ∙ ap (λ (answer : Result Who Reason). welcome answer ++ sent_events (option_map (arrival word) (result_ok answer)) (who h c) (held h c)) is

-- its Join was lost or dropped: nothing of it entered, and nothing is owed to it
abbrev pub HasNotEntered : History → ℕ → Type 0
HasNotEntered h c = (entries_of h c ≡ []) × (owed h c ≡ [])

-- what a connection is that didn't join, by what it is owed: its Join was refused, or hasn't entered
abbrev pub NotJoined : History → ℕ → Type 0
NotJoined h c = WasRefused h c (owed h c) ⊎ HasNotEntered h c

-- no Join stands in a history of whom nothing has entered
pub none_asked : (h : History) (c : ℕ) → entries_of h c ≡ [] → list_any (λ d. d == c) (joined h) ≡ false
none_asked (begun grants) c none = refl
none_asked (h ▷ e) c none = by_entry (none_asked h c) e none
  where
    front : (xs ys : List Entry) → xs ++ ys ≡ [] → xs ≡ []
    front [] ys e = refl
    front (x ∷ xs) ys e = absurd (let empty : x ∷ (xs ++ ys) ≡ [] = e in cc)

    Below : Type 0
    Below = entries_of h c ≡ [] → list_any (λ d. d == c) (joined h) ≡ false

    before : Below → (e : Entry) → entries_of (h ▷ e) c ≡ [] → list_any (λ d. d == c) (joined h) ≡ false
    before below e none = below (front (entries_of h c) (cond (conn_of e == c) (e ∷ []) []) none)

    other : (e : Entry) (b : Bool) → entries_of h c ++ cond b (e ∷ []) [] ≡ [] → b ≡ false
    other e true none = absurd (let long : length (entries_of h c ++ e ∷ []) ≡ length (entries_of h c) + 1 = length-append (entries_of h c) (e ∷ []) in omega (arith, long, ap length none))
    other e false none = refl

    by_entry : Below → (e : Entry) → entries_of (h ▷ e) c ≡ [] → list_any (λ d. d == c) (joined (h ▷ e)) ≡ false
    by_entry below (entry.Join d word authid) none = ap (λ b. b || list_any (λ x. x == c) (joined h)) (other (entry.Join d word authid) (d == c) none) ∙ before below (entry.Join d word authid) none
    by_entry below (entry.Said d word said) none = before below (entry.Said d word said) none
    by_entry below (entry.Ping d payload) none = before below (entry.Ping d payload) none
    by_entry below (entry.Spoilt d word) none = before below (entry.Spoilt d word) none
    by_entry below (entry.Gone d word) none = before below (entry.Gone d word) none
    by_entry below (entry.Cut d word) none = before below (entry.Cut d word) none
    by_entry below (entry.Closed d word) none = before below (entry.Closed d word) none

not_joined_other : (h : History) (e : Entry) (c : ℕ) → conn_of e ≢ c → live h c ≡ false → NotJoined h c → NotJoined (h ▷ e) c
not_joined_other h e c other dead (inr none) = inr (entries_other h e c other ∙ none.0, owed_other h e c other dead ∙ none.1)
not_joined_other h e c other dead (inl r) =
    inl (record { before = r.before; word = r.word; authid = r.authid; reason = r.reason; begins = begins.Begins.longer r.begins; refused = r.refused; alone = entries_other h e c other ∙ r.alone; answered = owed_other h e c other dead ∙ r.answered })

abbrev is_cut : Entry → Bool
is_cut (entry.Join d word authid) = false
is_cut (entry.Said d word said) = false
is_cut (entry.Ping d payload) = false
is_cut (entry.Spoilt d word) = false
is_cut (entry.Gone d word) = false
is_cut (entry.Cut d word) = true
is_cut (entry.Closed d word) = false

-- a Cut of a connection stands in a history where one stands among its entries
cut_stands : (h : History) (c : ℕ) → list_any is_cut (entries_of h c) ≡ was_cut h c
cut_stands (begun grants) c = refl
cut_stands (h ▷ e) c = list_any-append is_cut (entries_of h c) (cond (conn_of e == c) (e ∷ []) []) ∙ ap (λ b. b || list_any is_cut (cond (conn_of e == c) (e ∷ []) [])) (cut_stands h c) ∙ by_entry e
  where
    uncut : (e : Entry) → is_cut e ≡ false → (b : Bool) → (was_cut h c || list_any is_cut (cond b (e ∷ []) [])) ≡ was_cut h c
    uncut e is true = ap (λ x. was_cut h c || (x || false)) is ∙ or-false (was_cut h c)
    uncut e is false = or-false (was_cut h c)

    by_cut : (d : ℕ) (word : Option ℕ) (b : Bool) → (was_cut h c || list_any is_cut (cond b (entry.Cut d word ∷ []) [])) ≡ (b || was_cut h c)
    by_cut d word true = or-true (was_cut h c)
    by_cut d word false = or-false (was_cut h c)

    by_entry : (e : Entry) → (was_cut h c || list_any is_cut (cond (conn_of e == c) (e ∷ []) [])) ≡ was_cut (h ▷ e) c
    by_entry (entry.Join d word authid) = uncut (entry.Join d word authid) refl (d == c)
    by_entry (entry.Said d word said) = uncut (entry.Said d word said) refl (d == c)
    by_entry (entry.Ping d payload) = uncut (entry.Ping d payload) refl (d == c)
    by_entry (entry.Spoilt d word) = uncut (entry.Spoilt d word) refl (d == c)
    by_entry (entry.Gone d word) = uncut (entry.Gone d word) refl (d == c)
    by_entry (entry.Cut d word) = by_cut d word (d == c)
    by_entry (entry.Closed d word) = uncut (entry.Closed d word) refl (d == c)

-- who didn't join wasn't cut
pub not_joined_uncut : (h : History) (c : ℕ) → NotJoined h c → was_cut h c ≡ false
not_joined_uncut h c (inl r) = sym (cut_stands h c) ∙ ap (list_any is_cut) r.alone
not_joined_uncut h c (inr none) = sym (cut_stands h c) ∙ ap (list_any is_cut) none.0

module _ {S : Type 0} where
  abbrev pub is_join : the.Act S → Bool
  is_join (Join joining) = true
  is_join (Said said) = false
  is_join (Ping payload) = false
  is_join Spoilt = false
  is_join Gone = false

  entry_conn : (c : ℕ) (act : the.Act S) (word : ℕ) → conn_of (entry_of c act word) ≡ c
  entry_conn c (Join joining) word = refl
  entry_conn c (Said said) word = refl
  entry_conn c (Ping payload) word = refl
  entry_conn c Spoilt word = refl
  entry_conn c Gone word = refl

  enter_more : (c : ℕ) (acts : List (the.Act S)) (entries : List Entry) (act : the.Act S) (word : ℕ) → AllEnter c acts entries → AllEnter c (acts ++ act ∷ []) (entries ++ entry_of c act word ∷ [])
  enter_more c [] [] act word all = ((word, refl), tt)
  enter_more c [] (e ∷ entries) act word all = absurd all
  enter_more c (a ∷ acts) [] act word all = absurd all
  enter_more c (a ∷ acts) (e ∷ entries) act word all = (all.0, enter_more c acts entries act word all.1)

  more_acts : (acts : List (the.Act S)) (act : the.Act S) → acts ++ act ∷ [] ≡ [] → ⊥
  more_acts acts act e = let long : length (acts ++ act ∷ []) ≡ length acts + 1 = length-append acts (act ∷ []) in omega (arith, long, ap length e)

  -- where nothing was last all counts, and behind what was last nothing more does
  open_all : (acts : List (the.Act S)) (more : List (the.Act S)) → list_any is_last acts ≡ false → until_last (acts ++ more) ≡ acts ++ until_last more
  open_all [] more going = refl
  open_all (a ∷ acts) more going = by_last (open_all acts more) (is_last a) refl going
    where
      by_last : (list_any is_last acts ≡ false → until_last (acts ++ more) ≡ acts ++ until_last more) → (b : Bool) → is_last a ≡ b → (is_last a || list_any is_last acts) ≡ false → until_last ((a ∷ acts) ++ more) ≡ (a ∷ acts) ++ until_last more
      by_last below true e o = absurd (clash (is_last a || list_any is_last acts) (ap (λ b. b || list_any is_last acts) e) o)
      by_last below false e o = ap (λ b. a ∷ (if b then [] else until_last (acts ++ more))) e ∙ ap (λ l. a ∷ l) (below (sym (ap (λ b. b || list_any is_last acts) e) ∙ o))

  closed_all : (acts : List (the.Act S)) (more : List (the.Act S)) → list_any is_last acts ≡ true → until_last (acts ++ more) ≡ until_last acts
  closed_all [] more closed = absurd (let apart : false ≡ true = closed in cc)
  closed_all (a ∷ acts) more closed = by_last (closed_all acts more) (is_last a) refl closed
    where
      by_last : (list_any is_last acts ≡ true → until_last (acts ++ more) ≡ until_last acts) → (b : Bool) → is_last a ≡ b → (is_last a || list_any is_last acts) ≡ true → until_last ((a ∷ acts) ++ more) ≡ until_last (a ∷ acts)
      by_last below true e o = (λ i. a ∷ (if e i then [] else until_last (acts ++ more))) ∙ sym (λ i. a ∷ (if e i then [] else until_last acts))
      by_last below false e o = (λ i. a ∷ (if e i then [] else until_last (acts ++ more))) ∙ ap (λ l. a ∷ l) (below (sym (ap (λ b. b || list_any is_last acts) e) ∙ o)) ∙ sym (λ i. a ∷ (if e i then [] else until_last acts))

  -- how far a connection's session went by these acts of it
  pub data Went (c : ℕ) (acts : List (the.Act S)) (h : History) : Type 0 where
    before : acts ≡ [] → entries_of h c ≡ [] → owed h c ≡ [] → live h c ≡ false → Went c acts h
    serves : (acts ≡ [] → ⊥) → AllEnter c acts (entries_of h c) → IsWelcomed (owed h c) → list_any is_last acts ≡ false → live h c ≡ true → Went c acts h
    ended : AllEnter c (until_last acts) (entries_of h c) → IsWelcomed (owed h c) → IsAnswered (until_last acts) (owed h c) → list_any is_last acts ≡ true → live h c ≡ false → Went c acts h
    cut : WasCut c acts h → live h c ≡ false → Went c acts h
    never : (acts ≡ [] → ⊥) → NotJoined h c → live h c ≡ false → Went c acts h

  others : (c : ℕ) (acts : List (the.Act S)) (h : History) (e : Entry) → conn_of e ≢ c → Went c acts h → Went c acts (h ▷ e)
  others c acts h e other (before none nothing unowed dead) = before none (entries_other h e c other ∙ nothing) (owed_other h e c other dead ∙ unowed) (live_other h e c other ∙ dead)
  others c acts h e other (serves some all hail going alive) = serves some (subst (λ l. AllEnter c acts l) (sym (entries_other h e c other)) all) (welcomed_more h e c hail) going (live_other h e c other ∙ alive)
  others c acts h e other (ended all hail bye last dead) = ended (subst (λ l. AllEnter c (until_last acts) l) (sym (entries_other h e c other)) all) (welcomed_more h e c hail) (subst (λ l. IsAnswered (until_last acts) l) (sym (owed_other h e c other dead)) bye) last (live_other h e c other ∙ dead)
  others c acts h e other (cut w dead) = cut (record { said = w.said; missed = w.missed; posted_are = w.posted_are; some = w.some; going = w.going; entries = w.entries; entered = w.entered; word = w.word; cut_then = entries_other h e c other ∙ w.cut_then }) (live_other h e c other ∙ dead)
  others c acts h e other (never some none dead) = never some (not_joined_other h e c other dead none) (live_other h e c other ∙ dead)

  -- whose session is live is cut
  now_cut : (c : ℕ) (acts : List (the.Act S)) (h : History) (word : Option ℕ) → live h c ≡ true → Went c acts h → WasCut c acts (h ▷ entry.Cut c word)
  now_cut c acts h word alive (before none nothing unowed dead) = absurd (clash (live h c) alive dead)
  now_cut c acts h word alive (serves some all hail going on) =
      record { said = acts; missed = []; posted_are = sym (append-nil acts); some = some; going = going; entries = entries_of h c; entered = all; word = word; cut_then = entries_own h (entry.Cut c word) c refl }
  now_cut c acts h word alive (ended all hail bye last dead) = absurd (clash (live h c) alive dead)
  now_cut c acts h word alive (cut w dead) = absurd (clash (live h c) alive dead)
  now_cut c acts h word alive (never some none dead) = absurd (clash (live h c) alive dead)

  -- and misses what it says then
  misses : (c : ℕ) (acts : List (the.Act S)) (h : History) (act : the.Act S) → WasCut c acts h → WasCut c (acts ++ act ∷ []) h
  misses c acts h act w = record {
    said = w.said;
    missed = w.missed ++ act ∷ [];
    posted_are = ap (λ l. l ++ act ∷ []) w.posted_are ∙ append_assoc w.said w.missed (act ∷ []);
    some = w.some;
    going = w.going;
    entries = w.entries;
    entered = w.entered;
    word = w.word;
    cut_then = w.cut_then;
  }

  entry_uncut : (c : ℕ) (act : the.Act S) (word : ℕ) → is_cut (entry_of c act word) ≡ false
  entry_uncut c (Join joining) word = refl
  entry_uncut c (Said said) word = refl
  entry_uncut c (Ping payload) word = refl
  entry_uncut c Spoilt word = refl
  entry_uncut c Gone word = refl

  none_cut : (c : ℕ) (acts : List (the.Act S)) (entries : List Entry) → AllEnter c acts entries → list_any is_cut entries ≡ false
  none_cut c [] [] all = refl
  none_cut c [] (e ∷ entries) all = absurd all
  none_cut c (act ∷ acts) [] all = absurd all
  none_cut c (act ∷ acts) (e ∷ entries) all = ap (λ b. b || list_any is_cut entries) (ap is_cut all.0.1 ∙ entry_uncut c act all.0.0) ∙ none_cut c acts entries all.1

  -- who went whole wasn't cut, and a Cut of who was stands in the history
  pub entered_uncut : (c : ℕ) (acts : List (the.Act S)) (h : History) → AllEnter c acts (entries_of h c) → was_cut h c ≡ false
  entered_uncut c acts h all = sym (cut_stands h c) ∙ none_cut c acts (entries_of h c) all

  pub cut_in : (c : ℕ) (acts : List (the.Act S)) (h : History) → WasCut c acts h → was_cut h c ≡ true
  cut_in c acts h w = sym (cut_stands h c) ∙ ap (list_any is_cut) w.cut_then ∙ list_any-append is_cut w.entries (entry.Cut c w.word ∷ []) ∙ or-true (list_any is_cut w.entries)

  cut_some : (c : ℕ) (acts : List (the.Act S)) (h : History) → WasCut c acts h → acts ≡ [] → ⊥
  cut_some c acts h w none = w.some (first w.said w.missed (sym w.posted_are ∙ none))
    where
      first : (xs ys : List (the.Act S)) → xs ++ ys ≡ [] → xs ≡ []
      first [] ys e = refl
      first (x ∷ xs) ys e = absurd (let empty : x ∷ (xs ++ ys) ≡ [] = e in cc)

  one_cut : (c : ℕ) (acts : List (the.Act S)) (h : History) (d : ℕ) (word : Option ℕ) → live h d ≡ true → Went c acts h → Went c acts (h ▷ entry.Cut d word)
  one_cut c acts h d word alive w = by_conn (same_or_other d c)
    where
      by_conn : (d ≡ c) ⊎ (d ≢ c) → Went c acts (h ▷ entry.Cut d word)
      by_conn (inl same) = subst (λ (n : ℕ). Went c acts (h ▷ entry.Cut n word)) (sym same) (cut (now_cut c acts h word (subst (λ (n : ℕ). live h n ≡ true) same alive) w) (dead_now h c word))
      by_conn (inr other) = others c acts h (entry.Cut d word) other w

  -- each entry could come when it came, so each that was cut was live
  cuts_on : (c : ℕ) (acts : List (the.Act S)) {posts : List (Post S)} {h k : History} → CutsOn posts h k → IsHistory k → Went c acts h → Went c acts k
  cuts_on c acts of.CutsOn.none legal w = w
  cuts_on c acts (of.CutsOn.one_more {k} d word more filled) legal w = one_cut c acts k d word legal.1 (cuts_on c acts more legal.0 w)

  cuts_legal : {posts : List (Post S)} {h k : History} → CutsOn posts h k → IsHistory k → IsHistory h
  cuts_legal of.CutsOn.none legal = legal
  cuts_legal (of.CutsOn.one_more {k} d word more filled) legal = cuts_legal more legal.0

  closes_legal : {posts : List (Post S)} {h : History} {next : ℕ} {k : History} → ClosesOn posts h next k → IsHistory k → IsHistory h
  closes_legal of.ClosesOn.none legal = legal
  closes_legal (of.ClosesOn.closed {next} {k} {l} d word more least alive cuts) legal = closes_legal more (cuts_legal cuts legal).0
  closes_legal (of.ClosesOn.cut {next} {k} {l} d word more least alive cuts) legal = closes_legal more (cuts_legal cuts legal).0

  one_legal : {posts : List (Post S)} {h : History} {p : Post S} {k : History} → HandlesOne posts h p k → IsHistory k → IsHistory h
  one_legal (of.HandlesOne.entered l word stays cuts) legal = (cuts_legal cuts legal).0
  one_legal (of.HandlesOne.dropped l drop) legal = legal
  one_legal (of.HandlesOne.lost l stays dead) legal = legal
  one_legal (of.HandlesOne.cut l word stays cuts) legal = (cuts_legal cuts legal).0
  one_legal (of.HandlesOne.stopped halt closes) legal = closes_legal closes legal

  drops : (h : History) (c : ℕ) (act : the.Act S) → is_join act ≡ false → is_dropped h c act ≡ not (live h c)
  drops h c (Join joining) other = absurd (let apart : true ≡ false = other in cc)
  drops h c (Said said) other = refl
  drops h c (Ping payload) other = refl
  drops h c Spoilt other = refl
  drops h c Gone other = refl

  -- its first act, a Join, enters
  joins : (c : ℕ) (h : History) (act : the.Act S) (word : ℕ) → is_join act ≡ true → entries_of h c ≡ [] → owed h c ≡ [] → Went c (act ∷ []) (h ▷ entry_of c act word)
  unfolding who
  joins c h (Said said) word is none unowed = absurd (let apart : false ≡ true = is in cc)
  joins c h (Ping payload) word is none unowed = absurd (let apart : false ≡ true = is in cc)
  joins c h Spoilt word is none unowed = absurd (let apart : false ≡ true = is in cc)
  joins c h Gone word is none unowed = absurd (let apart : false ≡ true = is in cc)
  joins c h (Join joining) word is none unowed = by_answer (admission h c word joining.authid) refl
    where
      e : Entry
      e = entry.Join c word joining.authid

      alone : entries_of (h ▷ e) c ≡ e ∷ []
      alone = entries_own h e c refl ∙ ap (λ l. l ++ e ∷ []) none

      now : who (h ▷ e) c ≡ result_ok (admission h c word joining.authid)
      now = ap (λ b. cond b (result_ok (admission h c word joining.authid)) (who h c)) (same_conn c)

      by_answer : (answer : Result Who Reason) → admission h c word joining.authid ≡ answer → Went c (Join joining ∷ []) (h ▷ e)
      by_answer (Ok w) is = serves (λ e. absurd (let apart = ap length e in omega (arith, apart))) (subst (λ l. AllEnter c (Join joining ∷ []) l) (sym alone) ((word, refl), tt)) (welcome_given h c word joining.authid w unowed is) refl (ap is_some (now ∙ ap result_ok is))
      by_answer (Err reason) is = never (λ e. absurd (let apart = ap length e in omega (arith, apart))) (inl (record { before = h; word = word; authid = joining.authid; reason = reason; begins = begins.Begins.same; refused = is; alone = alone; answered = abort_given h c word joining.authid reason unowed is })) (ap is_some (now ∙ ap result_ok is))

  -- whether the session goes on behind an act that enters
  goes_on : (c : ℕ) (h : History) (act : the.Act S) (word : ℕ) → is_join act ≡ false → is_last act ≡ false → live (h ▷ entry_of c act word) c ≡ live h c
  unfolding who
  goes_on c h (Join joining) word other going = absurd (let apart : true ≡ false = other in cc)
  goes_on c h (Said said) word other going = ap (λ b. is_some (cond b None (who h c))) (ap (λ b. b && is_last_word said) (same_conn c) ∙ going)
  goes_on c h (Ping payload) word other going = refl
  goes_on c h Spoilt word other going = absurd (let apart : true ≡ false = going in cc)
  goes_on c h Gone word other going = absurd (let apart : true ≡ false = going in cc)

  goes_off : (c : ℕ) (h : History) (act : the.Act S) (word : ℕ) → is_last act ≡ true → live (h ▷ entry_of c act word) c ≡ false
  unfolding who
  goes_off c h (Join joining) word last = absurd (let apart : false ≡ true = last in cc)
  goes_off c h (Said said) word last = ap (λ b. is_some (cond b None (who h c))) (ap (λ b. b && is_last_word said) (same_conn c) ∙ last)
  goes_off c h (Ping payload) word last = absurd (let apart : false ≡ true = last in cc)
  goes_off c h Spoilt word last = ap (λ b. is_some (cond b None (who h c))) (same_conn c)
  goes_off c h Gone word last = ap (λ b. is_some (cond b None (who h c))) (same_conn c)

  -- a later act enters
  says : (c : ℕ) (acts : List (the.Act S)) (h : History) (act : the.Act S) (word : ℕ) → is_join act ≡ false → AllEnter c acts (entries_of h c) → IsWelcomed (owed h c) → list_any is_last acts ≡ false → live h c ≡ true → Went c (acts ++ act ∷ []) (h ▷ entry_of c act word)
  says c acts h act word other all hail going alive = by_last (is_last act) refl
    where
      e : Entry
      e = entry_of c act word

      now : entries_of (h ▷ e) c ≡ entries_of h c ++ e ∷ []
      now = entries_own h e c (entry_conn c act word)

      more : AllEnter c (acts ++ act ∷ []) (entries_of (h ▷ e) c)
      more = subst (λ l. AllEnter c (acts ++ act ∷ []) l) (sym now) (enter_more c acts (entries_of h c) act word all)

      lasts : list_any is_last (acts ++ act ∷ []) ≡ is_last act
      lasts = list_any-append is_last acts (act ∷ []) ∙ ap (λ b. b || (is_last act || false)) going ∙ or-false (is_last act)

      answered : IsAnswered (acts ++ act ∷ []) (owed (h ▷ e) c)
      answered goodbye = subst (λ (a : the.Act S). EndsIn (owed (h ▷ entry_of c a word) c) (item.Goodbye GoodbyeAndOut)) (sym (same_snoc acts goodbye.0 act (Said say.Goodbye) goodbye.1).1) (owed h c, goodbye_given h c word)

      by_last : (b : Bool) → is_last act ≡ b → Went c (acts ++ act ∷ []) (h ▷ e)
      by_last true is =
          let whole : until_last (acts ++ act ∷ []) ≡ acts ++ act ∷ [] = open_all acts (act ∷ []) going ∙ (λ i. acts ++ act ∷ (if is i then [] else [])) in
          ended (subst (λ l. AllEnter c l (entries_of (h ▷ e) c)) (sym whole) more) (welcomed_more h e c hail) (subst (λ l. IsAnswered l (owed (h ▷ e) c)) (sym whole) answered) (lasts ∙ is) (goes_off c h act word is)
      by_last false is = serves (more_acts acts act) more (welcomed_more h e c hail) (lasts ∙ is) (goes_on c h act word other is ∙ alive)

  -- behind the last nothing enters
  stays_ended : (c : ℕ) (acts : List (the.Act S)) (h : History) (act : the.Act S) → AllEnter c (until_last acts) (entries_of h c) → IsWelcomed (owed h c) → IsAnswered (until_last acts) (owed h c) → list_any is_last acts ≡ true → live h c ≡ false → Went c (acts ++ act ∷ []) h
  stays_ended c acts h act all hail bye last dead =
      ended (subst (λ l. AllEnter c l (entries_of h c)) (sym (closed_all acts (act ∷ []) last)) all) hail (subst (λ l. IsAnswered l (owed h c)) (sym (closed_all acts (act ∷ []) last)) bye) (list_any-append is_last acts (act ∷ []) ∙ ap (λ b. b || list_any is_last (act ∷ [])) last) dead

  -- the first act of a connection is a Join, and no other is
  abbrev pub InTurn : List (the.Act S) → the.Act S → Type 0
  InTurn acts act = (acts ≡ [] → is_join act ≡ true) × ((acts ≡ [] → ⊥) → is_join act ≡ false)

  not_dead : (h : History) (c : ℕ) (act : the.Act S) → is_join act ≡ false → live h c ≡ false → is_dropped h c act ≡ false → ⊥
  not_dead h c act other dead stays = clash (is_dropped h c act) (drops h c act other ∙ ap not dead) stays

  any_some : (acts : List (the.Act S)) → list_any is_last acts ≡ true → acts ≡ [] → ⊥
  any_some acts last none = clash (list_any is_last acts) last (ap (list_any is_last) none)

  -- an act of it is handled: it enters
  enters : (c : ℕ) (acts : List (the.Act S)) (h : History) (act : the.Act S) (word : ℕ) → InTurn acts act → is_dropped h c act ≡ false → Went c acts h → Went c (acts ++ act ∷ []) (h ▷ entry_of c act word)
  enters c acts h act word turn stays (before none nothing unowed dead) = subst (λ l. Went c (l ++ act ∷ []) (h ▷ entry_of c act word)) (sym none) (joins c h act word (turn.0 none) nothing unowed)
  enters c acts h act word turn stays (serves some all hail going alive) = says c acts h act word (turn.1 some) all hail going alive
  enters c acts h act word turn stays (ended all hail bye last dead) = absurd (not_dead h c act (turn.1 (any_some acts last)) dead stays)
  enters c acts h act word turn stays (cut w dead) = absurd (not_dead h c act (turn.1 (cut_some c acts h w)) dead stays)
  enters c acts h act word turn stays (never some none dead) = absurd (not_dead h c act (turn.1 some) dead stays)

  -- or nothing enters
  passes : (c : ℕ) (acts : List (the.Act S)) (h : History) (act : the.Act S) → InTurn acts act → (live h c ≡ false) ⊎ (is_dropped h c act ≡ true) → Went c acts h → Went c (acts ++ act ∷ []) h
  passes c acts h act turn why (before none nothing unowed dead) = never (more_acts acts act) (inr (nothing, unowed)) dead
  passes c acts h act turn (inl dead) (serves some all hail going alive) = absurd (clash (live h c) alive dead)
  passes c acts h act turn (inr drop) (serves some all hail going alive) = absurd (clash (is_dropped h c act) drop (drops h c act (turn.1 some) ∙ ap not alive))
  passes c acts h act turn why (ended all hail bye last dead) = stays_ended c acts h act all hail bye last dead
  passes c acts h act turn why (cut w dead) = cut (misses c acts h act w) dead
  passes c acts h act turn why (never some none dead) = never (more_acts acts act) none dead

  abbrev pub acts_by : ℕ → Post S → List (the.Act S)
  acts_by c (Act l) = cond (conn_of_letter l == c) (act_of_letter l ∷ []) []
  acts_by c (Stop halt) = []

  abbrev pub acts_of : ℕ → List (Post S) → List (the.Act S)
  acts_of c [] = []
  acts_of c (p ∷ ps) = acts_by c p ++ acts_of c ps

  -- one post is handled, which is no stop
  one : (c : ℕ) (acts : List (the.Act S)) {posts : List (Post S)} {h k : History} (l : Letter S) → (conn_of_letter l ≡ c → InTurn acts (act_of_letter l)) → HandlesOne posts h (Act l) k → IsHistory k → Went c acts h → Went c (acts ++ acts_by c (Act l)) k
  one c acts {posts} {h} {k} l turn handled legal w = by_conn (same_or_other (conn_of_letter l) c)
    where
      act : the.Act S
      act = act_of_letter l

      own : conn_of_letter l ≡ c → {k : History} → HandlesOne posts h (Act l) k → IsHistory k → Went c (acts ++ act ∷ []) k
      own same (of.HandlesOne.entered l word stays cuts) legal = cuts_on c (acts ++ act ∷ []) cuts legal (subst (λ (n : ℕ). Went c (acts ++ act ∷ []) (h ▷ entry_of n act word)) (sym same) (enters c acts h act word (turn same) (subst (λ (n : ℕ). is_dropped h n act ≡ false) same stays) w))
      own same (of.HandlesOne.dropped l drop) legal = passes c acts h act (turn same) (inr (subst (λ (n : ℕ). is_dropped h n act ≡ true) same drop)) w
      own same (of.HandlesOne.lost l stays dead) legal = passes c acts h act (turn same) (inl (subst (λ (n : ℕ). live h n ≡ false) same dead)) w
      own same (of.HandlesOne.cut l word stays cuts) legal = cuts_on c (acts ++ act ∷ []) cuts legal (subst (λ (n : ℕ). Went c (acts ++ act ∷ []) (h ▷ entry.Cut n word)) (sym same) (cut (misses c acts (h ▷ entry.Cut c word) act (now_cut c acts h word (subst (λ (n : ℕ). live h n ≡ true) same (cuts_legal cuts legal).1) w)) (dead_now h c word)))

      else_one : conn_of_letter l ≢ c → {k : History} → HandlesOne posts h (Act l) k → IsHistory k → Went c acts k
      else_one other (of.HandlesOne.entered l word stays cuts) legal = cuts_on c acts cuts legal (others c acts h (entry_of (conn_of_letter l) act word) (λ same. other (sym (entry_conn (conn_of_letter l) act word) ∙ same)) w)
      else_one other (of.HandlesOne.dropped l drop) legal = w
      else_one other (of.HandlesOne.lost l stays dead) legal = w
      else_one other (of.HandlesOne.cut l word stays cuts) legal = cuts_on c acts cuts legal (others c acts h (entry.Cut (conn_of_letter l) word) other w)

      by_conn : (conn_of_letter l ≡ c) ⊎ (conn_of_letter l ≢ c) → Went c (acts ++ acts_by c (Act l)) k
      by_conn (inl same) = subst (λ b. Went c (acts ++ cond b (act ∷ []) []) k) (sym (eq-eqb (conn_of_letter l) c same)) (own same handled legal)
      by_conn (inr other) = subst (λ b. Went c (acts ++ cond b (act ∷ []) []) k) (sym (ne_eqb (conn_of_letter l) c other)) (subst (λ l. Went c l k) (sym (append-nil acts)) (else_one other handled legal))

  -- what it posted has something after which nothing more counts, or it posted nothing
  abbrev pub IsDone : List (the.Act S) → Type 0
  IsDone acts = list_any is_last acts ≡ false → acts ≡ []

  -- a stop closes nothing of a session that ended
  closes_on : (c : ℕ) (acts : List (the.Act S)) {posts : List (Post S)} {h : History} {next : ℕ} {k : History} → IsDone acts → ClosesOn posts h next k → IsHistory k → Went c acts h → Went c acts k
  closes_on c acts over of.ClosesOn.none legal w = w
  closes_on c acts over (of.ClosesOn.closed {next} {k} {l} d word more least alive cuts) legal w = cuts_on c acts cuts legal (by_conn (same_or_other d c) (closes_on c acts over more (cuts_legal cuts legal).0 w))
    where
      gone : Went c acts k → live k c ≡ true → Went c acts (k ▷ entry.Closed d word)
      gone (before none nothing unowed dead) alive = absurd (clash (live k c) alive dead)
      gone (serves some all hail going on) alive = absurd (some (over going))
      gone (ended all hail bye done dead) alive = absurd (clash (live k c) alive dead)
      gone (cut x dead) alive = absurd (clash (live k c) alive dead)
      gone (never some none dead) alive = absurd (clash (live k c) alive dead)

      by_conn : (d ≡ c) ⊎ (d ≢ c) → Went c acts k → Went c acts (k ▷ entry.Closed d word)
      by_conn (inl same) now = gone now (subst (λ (n : ℕ). live k n ≡ true) same alive)
      by_conn (inr other) now = others c acts k (entry.Closed d word) other now
  closes_on c acts over (of.ClosesOn.cut {next} {k} {l} d word more least alive cuts) legal w = cuts_on c acts cuts legal (one_cut c acts k d word alive (closes_on c acts over more (cuts_legal cuts legal).0 w))

  acts_more : (c : ℕ) (ps qs : List (Post S)) → acts_of c (ps ++ qs) ≡ acts_of c ps ++ acts_of c qs
  acts_more c [] qs = refl
  acts_more c (p ∷ ps) qs = ap (λ l. acts_by c p ++ l) (acts_more c ps qs) ∙ sym (append_assoc (acts_by c p) (acts_of c ps) (acts_of c qs))

  acts_snoc : (c : ℕ) (ps : List (Post S)) (p : Post S) → acts_of c (ps ++ p ∷ []) ≡ acts_of c ps ++ acts_by c p
  acts_snoc c ps p = acts_more c ps (p ∷ []) ∙ ap (λ l. acts_of c ps ++ l) (append-nil (acts_by c p))

  -- each of these acts is in turn
  abbrev pub AreInTurn : List (the.Act S) → Type 0
  AreInTurn acts = (before : List (the.Act S)) (act : the.Act S) (after : List (the.Act S)) → acts ≡ before ++ act ∷ after → InTurn before act

  -- posts are handled without a stop, which bring these acts of the connection, and perhaps more come
  went : (c : ℕ) (whole : List (the.Act S)) {g : History} → AreInTurn whole → entries_of g c ≡ [] → owed g c ≡ [] → live g c ≡ false → {posts : List (Post S)} {k : History} → HandlesAll g posts k → IsHistory k → stops_of posts ≡ 0 → (rest : List (the.Act S)) → whole ≡ acts_of c posts ++ rest → Went c (acts_of c posts) k
  went c whole turns nothing unowed dead of.HandlesAll.none legal no_stop rest is = before refl nothing unowed dead
  went c whole turns nothing unowed dead (of.HandlesAll.one_more {posts} {k} {l} (Act letter) handled step) legal no_stop rest is =
      subst (λ acts. Went c acts l) (sym now) (one c (acts_of c posts) letter turn step legal (went c whole turns nothing unowed dead handled (one_legal step legal) none (acts_by c (Act letter) ++ rest) (is ∙ ap (λ acts. acts ++ rest) now ∙ append_assoc (acts_of c posts) (acts_by c (Act letter)) rest)))
    where
      now : acts_of c (posts ++ Act letter ∷ []) ≡ acts_of c posts ++ acts_by c (Act letter)
      now = acts_snoc c posts (Act letter)

      none : stops_of posts ≡ 0
      none = let more : stops_of (posts ++ Act letter ∷ []) ≡ stops_of posts + 0 = stops_snoc posts (Act letter) in omega (arith, more, no_stop)

      turn : conn_of_letter letter ≡ c → InTurn (acts_of c posts) (act_of_letter letter)
      turn same = turns (acts_of c posts) (act_of_letter letter) rest
          (is ∙ ap (λ acts. acts ++ rest) (now ∙ ap (λ b. acts_of c posts ++ cond b (act_of_letter letter ∷ []) []) (eq-eqb (conn_of_letter letter) c same)) ∙ append_assoc (acts_of c posts) (act_of_letter letter ∷ []) rest)
  went c whole turns nothing unowed dead (of.HandlesAll.one_more {posts} {k} {l} (Stop halt) handled step) legal no_stop rest is =
      absurd (let more : stops_of (posts ++ Stop halt ∷ []) ≡ stops_of posts + 1 = stops_snoc posts (Stop halt) in omega (arith, more, no_stop))

  -- and then a stop: whose last act was among them ended by it, unless it was cut, or didn't join
  pub went_whole : (c : ℕ) (grants : Grants) (until all : List (Post S)) (halt : Halt) (h : History) → AreInTurn (acts_of c until) → IsDone (acts_of c until) → stops_of until ≡ 0 → all ≡ until ++ Stop halt ∷ [] → HandlesAll (begun grants) all h → IsHistory h → Went c (acts_of c until) h
  went_whole c grants until all halt h turns over no_stop is of.HandlesAll.none legal = absurd (let long : 0 ≡ length until + 1 = ap length is ∙ length-append until (Stop halt ∷ []) in omega (arith, long))
  went_whole c grants until all halt h turns over no_stop is (of.HandlesAll.one_more {posts} {k} {l} p handled step) legal =
      by_stop (subst (λ (q : Post S). HandlesOne (posts ++ p ∷ []) k q l) same.1 step)
    where
      same : (posts ≡ until) × (p ≡ Stop halt)
      same = same_snoc posts until p (Stop halt) is

      up_to : Went c (acts_of c until) k
      up_to = went c (acts_of c until) turns refl refl (nobody_yet grants c) (subst (λ ps. HandlesAll (begun grants) ps k) same.0 handled) (one_legal step legal) no_stop [] (sym (append-nil (acts_of c until)))

      by_stop : HandlesOne (posts ++ p ∷ []) k (Stop halt) l → Went c (acts_of c until) l
      by_stop (of.HandlesOne.stopped halt closes) = closes_on c (acts_of c until) over closes legal up_to
